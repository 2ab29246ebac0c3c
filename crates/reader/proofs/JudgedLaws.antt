-- How the answer of one file follows from its tests one after the other, and that of the files from each in turn: what the code's chain of functions is proved by.
use Prim.Native.Nat.{ℕ, suc, ◌+◌, ◌-◌, ◌<◌, ◌≤◌}
use mathlib.Core.Path.{◌≡◌, refl, sym, ◌∙◌, ap, ap₂, subst}
use mathlib.Core.Bool.{Bool, true, false, false≢true}
use mathlib.Core.List.{List, []}
use mathlib.Core.Option.{Option, none, some}
use native.Mathlib.Omega.{arith}
use lib.ListN.{length}
use borrow.Author.Tests.{lt-ltb, le-ltb}
use Rattle.std.specs.Prelude.{Result, Ok, Err, MatchResult, IsErrAnd}
use Rattle.std.proofs.lemmas.Result.{err_from_is_err_and}
use Rattle.basics.specs.Choice.{choose, maybe, nope}
use Rattle.sexp.specs.declared.carrier.Carrier.{Carrier}
use Rattle.sexp.specs.declared.carrier.Carrier.TheVariants as C
use Rattle.sexp.specs.Sexp.{Sexp, Sexps, str, hinted, list, nil, cons, spell, nesting, nestings, Stands, StandsAll}
use Rattle.sexp.specs.Scan.{carrier_of}
use Rattle.sexp.proofs.ReadLaws.{what-is-sound-is-read}
use Rattle.sexp.proofs.StandLaws.{whole-stands, members-stand}
use Rattle.packet.specs.declared.Kind.{Kind}
use Rattle.packet.specs.declared.Kind.TheVariants as K
use Rattle.packet.specs.declared.File.{File}
use Rattle.packet.specs.declared.File.TheVariants as F
use Rattle.packet.specs.declared.Reason.{Reason}
use Rattle.packet.specs.declared.Reason.TheVariants as R
use Rattle.packet.specs.Wrong.{is_text, begins, wrong}
use Rattle.reader.specs.Shape.{shape_of}
use Rattle.packet.specs.Barred.{Holds, barred}
use Rattle.reader.specs.Bars.{bars_of}
use Rattle.packet.specs.Read.{all_of, members_of, rest_of, goal_of, rules_of, candidates_of, strip_of}
use Rattle.packet.specs.File.{counted, holds, member_at, surplus, long, faulty, deep, unbuilt, many, unsound, tests, first_of, refusal_of, Outcome, and_then, expression_of, file_of, Books, books_of, packet_of}
use Rattle.packet.specs.Refusal.{number, members_after}
use Rattle.reader.specs.declared.files.Fault.{Fault}
use Rattle.reader.specs.declared.files.Refusal.{Refusal}
use Rattle.reader.specs.declared.files.Counts.{Counts}
use Rattle.reader.specs.Judged.{at_fault, refused, in_file, of_file, sound, count_in, number_of, bars_judged, sizes_judged, words_judged, judged_of, after_file, terms_read, goal_read, strip_read, books_read, packet_read}

-- refusal 5
abbrev by_bars : Result ℕ ℕ → ℕ → Result ℕ Fault
by_bars (Err o) n = at_fault R.Barred o
by_bars (Ok to) n = Ok n

pub bars-judged : (k : Kind) (n : ℕ) (e : Sexp) (h : Holds) (r r' : Result ℕ ℕ) → h ≡ holds k → r ≡ r' → r ≡ bars_of h 0 0 e → by_bars r' n ≡ bars_judged k n e
unfolding bars_of bars_judged
bars-judged k n e h r r' t u v = ap (λ (b : Result ℕ ℕ). by_bars b n) (sym u ∙ v) ∙ ap (λ (x : Bool). by_bars (bars_of x 0 0 e) n) t ∙ go (barred (holds k) 0 0 e)
  where
    go : (o : Option ℕ) → by_bars (maybe o (Ok (0 + length (spell e))) Err) n ≡ maybe o (Ok n) (at_fault R.Barred)
    go none = refl
    go (some o) = refl

-- a file whose members are counted is a list that begins with its word
pub record Worded (e : Sexp) : Type 0 where
  pub word : Sexp
  pub others : Sexps
  pub whole : e ≡ list (cons word others)

worded : (e : Sexp) (f : Sexp → Option ℕ) → ((w : List ℕ) → f (str w) ≡ none → ⊥) → ((h w : List ℕ) → f (hinted h w) ≡ none → ⊥) → (f (list nil) ≡ none → ⊥) → f e ≡ none → Worded e
worded (str w) f a b c h = absurd (a w h)
worded (hinted t w) f a b c h = absurd (b t w h)
worded (list nil) f a b c h = absurd (c h)
worded (list (cons x xs)) f a b c h = record { word = x; others = xs; whole = refl }

pub counted-worded : (k : Kind) → counted k ≡ true → (e : Sexp) → wrong k 0 e ≡ none → Worded e
unfolding counted wrong is_text begins
counted-worded K.Name t e h = absurd (false≢true t)
counted-worded K.Number t e h = absurd (false≢true t)
counted-worded K.Step t e h = absurd (false≢true t)
counted-worded K.Path t e h = absurd (false≢true t)
counted-worded K.Term t e h = absurd (false≢true t)
counted-worded K.Atom t e h = absurd (false≢true t)
counted-worded K.Goal t e h = absurd (false≢true t)
counted-worded K.Clause t e h = absurd (false≢true t)
counted-worded K.Rules t e h = worded e (wrong K.Rules 0) (λ w n. nope (sym n)) (λ x w n. nope (sym n)) (λ n. nope (sym n)) h
counted-worded K.Terms t e h = worded e (wrong K.Terms 0) (λ w n. nope (sym n)) (λ x w n. nope (sym n)) (λ n. nope (sym n)) h
counted-worded K.Strip t e h = absurd (false≢true t)

-- refusal 6
module _ (k : Kind) (t : counted k ≡ true) (s : List ℕ) (r : Result ℕ ℕ) (f : (xs : Sexps) → StandsAll s 1 xs → nestings xs ≤ 64 → r ≡ count_in 1 xs) (e : Sexp) (h : wrong k 0 e ≡ none) (g : Stands s 0 e) (l : nesting e ≤ 64) where
  told : (w : Worded e) → r ≡ count_in 1 (cons w.word w.others)
  told w =
      let g' = subst (Stands s 0) w.whole g in
      let n = ap nesting w.whole in
      f (cons w.word w.others) (members-stand g') (omega arith)

  whole : (w : Worded e) → sizes_judged k e ≡ maybe (member_at 257 1 (cons w.word w.others)) (bars_judged k (number w.others) e) (at_fault R.Many)
  unfolding sizes_judged surplus number_of
  whole w =
      ap₂ (λ (o : Option ℕ) (n : ℕ). maybe o (bars_judged k n e) (at_fault R.Many))
      (ap (surplus k) w.whole ∙ ap (λ (b : Bool). choose b (member_at 257 1 (cons w.word w.others)) none) t)
      (ap (λ (b : Bool). choose b (members_after e) 0) t ∙ ap members_after w.whole)

  pub count-over : {o : ℕ} → r ≡ Err o → at_fault R.Many o ≡ sizes_judged k e
  unfolding count_in
  count-over {o} u =
      let w = counted-worded k t e h in
      go (member_at 257 1 (cons w.word w.others)) (number w.others) (sym u ∙ told w) ∙ sym (whole w)
    where
      go : (m : Option ℕ) (n : ℕ) → Err o ≡ maybe m (Ok (suc n)) Err → at_fault R.Many o ≡ maybe m (bars_judged k n e) (at_fault R.Many)
      go none n q = let z : ◌≡◌ {A = ℕ} 0 1 = cc in absurd (omega arith)
      go (some i) n q = let z : o ≡ i = cc in ap (at_fault R.Many) z

  pub count-are : {n : ℕ} {j : Result ℕ Fault} → r ≡ Ok n → j ≡ bars_judged k (n - 1) e → j ≡ sizes_judged k e
  unfolding count_in
  count-are {n} {j} u v =
      let w = counted-worded k t e h in
      go (member_at 257 1 (cons w.word w.others)) (number w.others) (sym u ∙ told w) ∙ sym (whole w)
    where
      go : (m : Option ℕ) (i : ℕ) → Ok n ≡ maybe m (Ok (suc i)) Err → j ≡ maybe m (bars_judged k i e) (at_fault R.Many)
      go none i q = let z : n ≡ suc i = cc in v ∙ ap (λ (x : ℕ). bars_judged k x e) (omega arith)
      go (some o) i q = let z : ◌≡◌ {A = ℕ} 0 1 = cc in absurd (omega arith)

-- a file whose members are not counted
few : (k : Kind) (e : Sexp) → counted k ≡ false → surplus k e ≡ none
unfolding surplus
few k (str w) t = refl
few k (hinted h w) t = refl
few k (list xs) t = ap (λ (b : Bool). choose b (member_at 257 1 xs) none) t

pub not-counted : (k : Kind) (e : Sexp) (j : Result ℕ Fault) → counted k ≡ false → j ≡ bars_judged k 0 e → j ≡ sizes_judged k e
unfolding sizes_judged number_of
not-counted k e j t v =
    v
    ∙ sym (ap₂ (λ (o : Option ℕ) (n : ℕ). maybe o (bars_judged k n e) (at_fault R.Many)) (few k e t) (ap (λ (b : Bool). choose b (members_after e) 0) t))

-- refusal 4
pub words-wrong : (k : Kind) (e : Sexp) (r : Result ℕ ℕ) {o : ℕ} → r ≡ Err o → r ≡ shape_of k 0 e → at_fault R.Words o ≡ words_judged k e
unfolding shape_of words_judged
words-wrong k e r {o} u v = go (wrong k 0 e) (sym u ∙ v)
  where
    go : (m : Option ℕ) → Err o ≡ maybe m (Ok (0 + length (spell e))) Err → at_fault R.Words o ≡ maybe m (sizes_judged k e) (at_fault R.Words)
    go none q = let z : ◌≡◌ {A = ℕ} 0 1 = cc in absurd (omega arith)
    go (some i) q = let z : o ≡ i = cc in ap (at_fault R.Words) z

pub words-past : (k : Kind) (e : Sexp) (r : Result ℕ ℕ) {to : ℕ} → r ≡ Ok to → r ≡ shape_of k 0 e → wrong k 0 e ≡ none
unfolding shape_of
words-past k e r {to} u v = go (wrong k 0 e) (sym u ∙ v)
  where
    go : (m : Option ℕ) → Ok to ≡ maybe m (Ok (0 + length (spell e))) Err → m ≡ none
    go none q = refl
    go (some i) q = let z : ◌≡◌ {A = ℕ} 0 1 = cc in absurd (omega arith)

pub words_right : (k : Kind) (e : Sexp) (j : Result ℕ Fault) → wrong k 0 e ≡ none → j ≡ sizes_judged k e → j ≡ words_judged k e
unfolding words_judged
words_right k e j h v = v ∙ sym (ap (λ (m : Option ℕ). maybe m (sizes_judged k e) (at_fault R.Words)) h)

-- one test, and then the others
abbrev first_by : Option ℕ → Reason → Option (Reason × ℕ) → Option (Reason × ℕ)
first_by t r o = elim t [ none ↦ o | some at ↦ some (r, at) ]

chain : (k : Kind) (s : List ℕ) → refusal_of k s ≡ first_by (long k s) R.Long (first_by (faulty k s) R.Carrier (first_by (deep k s) R.Deep (first_by (unbuilt k s) R.Words (first_by (many k s) R.Many (first_by (unsound k s) R.Barred none)))))
unfolding refusal_of first_of tests
chain k s = refl

abbrev as_judged : ℕ → Option (Reason × ℕ) → Result ℕ Fault
as_judged n o = maybe o (Ok n) (λ r. at_fault r.0 r.1)

module _ (k : Kind) (s : List ℕ) where
  judged-is : judged_of k s ≡ as_judged (number_of k (expression_of s)) (first_by (long k s) R.Long (first_by (faulty k s) R.Carrier (first_by (deep k s) R.Deep (first_by (unbuilt k s) R.Words (first_by (many k s) R.Many (first_by (unsound k s) R.Barred none))))))
  unfolding judged_of
  judged-is = ap (as_judged (number_of k (expression_of s))) (chain k s)

  -- refusal 1
  pub file-long : 16384 < length s → at_fault R.Long 16384 ≡ judged_of k s
  unfolding long
  file-long h =
      sym (judged-is
      ∙ ap (λ (b : Bool). as_judged (number_of k (expression_of s)) (first_by (choose b (some 16384) none) R.Long (first_by (faulty k s) R.Carrier (first_by (deep k s) R.Deep (first_by (unbuilt k s) R.Words (first_by (many k s) R.Many (first_by (unsound k s) R.Barred none)))))))
      (lt-ltb 16384 (length s) h))

  module _ (h : length s ≤ 16384) where
    after-long : judged_of k s ≡ as_judged (number_of k (expression_of s)) (first_by (faulty k s) R.Carrier (first_by (deep k s) R.Deep (first_by (unbuilt k s) R.Words (first_by (many k s) R.Many (first_by (unsound k s) R.Barred none)))))
    unfolding long
    after-long =
        judged-is
        ∙ ap (λ (b : Bool). as_judged (number_of k (expression_of s)) (first_by (choose b (some 16384) none) R.Long (first_by (faulty k s) R.Carrier (first_by (deep k s) R.Deep (first_by (unbuilt k s) R.Words (first_by (many k s) R.Many (first_by (unsound k s) R.Barred none)))))))
        (le-ltb 16384 (length s) h)

    -- refusals 2 and 3, by the carrier's judgement
    abbrev faulty_by : Carrier → Option ℕ
    faulty_by C.Sound = none
    faulty_by (C.Fault o) = some o
    faulty_by (C.Deep o) = none

    abbrev deep_by : Carrier → Option ℕ
    deep_by C.Sound = none
    deep_by (C.Fault o) = none
    deep_by (C.Deep o) = some o

    by-carrier : (c : Carrier) → carrier_of 64 s ≡ c → judged_of k s ≡ as_judged (number_of k (expression_of s)) (first_by (faulty_by c) R.Carrier (first_by (deep_by c) R.Deep (first_by (unbuilt k s) R.Words (first_by (many k s) R.Many (first_by (unsound k s) R.Barred none)))))
    unfolding faulty deep
    by-carrier c e =
        after-long
        ∙ ap (λ (x : Carrier). as_judged (number_of k (expression_of s)) (first_by (faulty_by x) R.Carrier (first_by (deep_by x) R.Deep (first_by (unbuilt k s) R.Words (first_by (many k s) R.Many (first_by (unsound k s) R.Barred none)))))) e

    pub file-fault : (c : Carrier) {o : ℕ} → c ≡ C.Fault o → c ≡ carrier_of 64 s → at_fault R.Carrier o ≡ judged_of k s
    file-fault c {o} u v = sym (by-carrier (C.Fault o) (sym v ∙ u))

    pub file-deep : (c : Carrier) {o : ℕ} → c ≡ C.Deep o → c ≡ carrier_of 64 s → at_fault R.Deep o ≡ judged_of k s
    file-deep c {o} u v = sym (by-carrier (C.Deep o) (sym v ∙ u))

    -- refusals 4, 6 and 5
    pub file-sound : (c : Carrier) → c ≡ C.Sound → c ≡ carrier_of 64 s → (j : Result ℕ Fault) → ((e : Sexp) → Stands s 0 e → nesting e ≤ 64 → j ≡ words_judged k e) → j ≡ judged_of k s
    unfolding unbuilt many unsound expression_of words_judged sizes_judged bars_judged
    file-sound c u v j f =
        let (e, r, w, t, n) = what-is-sound-is-read s 64 (sym v ∙ u) in
        f e (whole-stands (sym w)) n
        ∙ sym (go (number_of k e) (wrong k 0 e) (surplus k e) (barred (holds k) 0 0 e))
        ∙ sym (by-carrier C.Sound (sym v ∙ u) ∙ ap (λ (o : Option Sexp). as_judged (number_of k (maybe o (str []) λ x. x)) (first_by (maybe o none λ x. wrong k 0 x) R.Words (first_by (maybe o none λ x. surplus k x) R.Many (first_by (maybe o none λ x. barred (holds k) 0 0 x) R.Barred none)))) r)
      where
        go : (i : ℕ) (w m b : Option ℕ) → as_judged i (first_by w R.Words (first_by m R.Many (first_by b R.Barred none))) ≡ maybe w (maybe m (maybe b (Ok i) (at_fault R.Barred)) (at_fault R.Many)) (at_fault R.Words)
        go i (some o) m b = refl
        go i none (some o) b = refl
        go i none none (some o) = refl
        go i none none none = refl

-- the number of rules and of candidates is that of the members after the word
length-all : {A : Type 0} (f : Sexp → A) (xs : Sexps) → length (all_of f xs) ≡ number xs
length-all f nil = refl
length-all f (cons x xs) = ap suc (length-all f xs)

after-word : {A : Type 0} (f : Sexp → A) (e : Sexp) → length (all_of f (rest_of (members_of e))) ≡ members_after e
unfolding rest_of members_of
after-word f (str w) = refl
after-word f (hinted h w) = refl
after-word f (list nil) = refl
after-word f (list (cons x xs)) = length-all f xs

rules-number : (e : Sexp) → length (rules_of e) ≡ number_of K.Rules e
unfolding rules_of number_of counted
rules-number e = after-word _ e

candidates-number : (e : Sexp) → length (candidates_of e) ≡ number_of K.Terms e
unfolding candidates_of number_of counted
candidates-number e = after-word _ e

-- one file after another
abbrev file_by : {A : Type 0} → Option (Reason × ℕ) → File → A → Outcome A
file_by o f a = elim o [ none ↦ Outcome.sound a | some r ↦ Outcome.refused r.0 f r.1 ]

pub file-refused : (j : Result ℕ Fault) (f : File) (next : ℕ → Result Counts Refusal) (want : Result ℕ Fault) {r : Reason} {at : ℕ} → j ≡ at_fault r at → j ≡ want → refused r f at ≡ after_file want f next
file-refused j f next want u v = ap (λ (x : Result ℕ Fault). after_file x f next) (sym u ∙ v)

pub file-read : (j : Result ℕ Fault) (f : File) (next : ℕ → Result Counts Refusal) (want : Result ℕ Fault) {n : ℕ} → j ≡ Ok n → j ≡ want → next n ≡ after_file want f next
file-read j f next want u v = ap (λ (x : Result ℕ Fault). after_file x f next) (sym u ∙ v)

-- the same, where its fault is told with the file
pub told-file : (j : Result ℕ Fault) (q : Result ℕ Refusal) (f : File) {P : Fault → Refusal → Type 0} → ((x : Fault) (y : Refusal) → P x y → y ≡ in_file x f) → MatchResult j (λ n. q ≡ Ok n) (λ x. IsErrAnd q (P x)) → q ≡ of_file j f
told-file (Ok n) q f g h = h
told-file (Err x) q f g h = let (y, e, p) = err_from_is_err_and q h in e ∙ ap Err (g x y p)

module _ (j : Result ℕ Fault) (f : File) (next : ℕ → Result Counts Refusal) where
  pub told-refused : {x : Refusal} → Err x ≡ of_file j f → Err x ≡ after_file j f next
  told-refused {x} e = go j e
    where
      go : (i : Result ℕ Fault) → Err x ≡ of_file i f → Err x ≡ after_file i f next
      go (Ok n) q = let z : ◌≡◌ {A = ℕ} 0 1 = cc in absurd (omega arith)
      go (Err y) q = ap Err (let z : x ≡ in_file y f = cc in z)

  pub told-read : {n : ℕ} → Ok n ≡ of_file j f → next n ≡ after_file j f next
  told-read {n} e = go j e
    where
      go : (i : Result ℕ Fault) → Ok n ≡ of_file i f → next n ≡ after_file i f next
      go (Ok m) q = ap next (let z : n ≡ m = cc in z)
      go (Err y) q = let z : ◌≡◌ {A = ℕ} 0 1 = cc in absurd (omega arith)

-- the files of a search, and those of a checker
pub books-are : (rs gs ts : List ℕ) → after_file (judged_of K.Rules rs) F.Rules (λ n. goal_read n gs ts) ≡ books_read (books_of rs gs ts)
unfolding goal_read terms_read books_of file_of judged_of
books-are rs gs ts = go (refusal_of K.Rules rs) (refusal_of K.Goal gs) (refusal_of K.Terms ts)
  where
    go : (a b c : Option (Reason × ℕ))
        → after_file (as_judged (number_of K.Rules (expression_of rs)) a) F.Rules (λ n. after_file (as_judged (number_of K.Goal (expression_of gs)) b) F.Goal λ i. after_file (as_judged (number_of K.Terms (expression_of ts)) c) F.Terms λ m. sound n m)
        ≡ books_read (and_then (file_by a F.Rules (rules_of (expression_of rs))) λ ds. and_then (file_by b F.Goal (goal_of (expression_of gs))) λ g. and_then (file_by c F.Terms (candidates_of (expression_of ts))) λ us. Outcome.sound (record { rules = ds; goal = g; candidates = us }))
    go (some r) b c = refl
    go none (some r) c = refl
    go none none (some r) = refl
    go none none none = ap₂ sound (sym (rules-number (expression_of rs))) (sym (candidates-number (expression_of ts)))

abbrev after_books : Result Counts Refusal → (ℕ → ℕ → Result Counts Refusal) → Result Counts Refusal
after_books (Ok x) f = f x.rules x.candidates
after_books (Err x) f = Err x

packet-by : (rs gs ts ss : List ℕ) → after_books (books_read (books_of rs gs ts)) (λ n m. strip_read n m ss) ≡ packet_read (packet_of rs gs ts ss)
unfolding strip_read packet_of file_of judged_of
packet-by rs gs ts ss = go (books_of rs gs ts) (refusal_of K.Strip ss)
  where
    go : (o : Outcome Books) (a : Option (Reason × ℕ))
        → after_books (books_read o) (λ n m. after_file (as_judged (number_of K.Strip (expression_of ss)) a) F.Strip λ i. sound n m)
        ≡ packet_read (and_then o λ b. and_then (file_by a F.Strip (strip_of (expression_of ss))) λ p. Outcome.sound (record { books = b; strip = p }))
    go (Outcome.refused r f at) a = refl
    go (Outcome.sound b) none = refl
    go (Outcome.sound b) (some r) = refl

module _ (rs gs ts ss : List ℕ) (p : Result Counts Refusal) (h : p ≡ books_read (books_of rs gs ts)) where
  pub packet-refused : {r : Reason} {f : File} {at : ℕ} → p ≡ refused r f at → refused r f at ≡ packet_read (packet_of rs gs ts ss)
  packet-refused u = ap (λ (x : Result Counts Refusal). after_books x (λ n m. strip_read n m ss)) (sym u ∙ h) ∙ packet-by rs gs ts ss

  pub packet-read : {n m : ℕ} → p ≡ sound n m → strip_read n m ss ≡ packet_read (packet_of rs gs ts ss)
  packet-read u = ap (λ (x : Result Counts Refusal). after_books x (λ n m. strip_read n m ss)) (sym u ∙ h) ∙ packet-by rs gs ts ss
