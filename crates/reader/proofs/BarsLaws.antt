-- How the first barred term of an expression follows from its word and its members, and that of a list's members from the first of them: what the walk over the
-- bytes is proved by.
use Prim.Native.Nat.{ℕ, suc, ◌+◌, ◌-◌, ◌<◌, ◌≤◌}
use mathlib.Core.Path.{◌≡◌, refl, sym, ◌∙◌, ap, ap₂, subst}
use mathlib.Core.Bool.{Bool, true, false}
use mathlib.Core.List.{List}
use mathlib.Core.Option.{Option, none, some}
use native.Mathlib.Numerals.{add-one}
use native.Mathlib.Omega.{arith}
use lib.Dec.{ltb}
use lib.ListN.{length, get_or, take, drop}
use Rattle.std.specs.Prelude as std
use Rattle.std.specs.Prelude.{Result, Ok, Err, unwrap_or}
use Rattle.basics.specs.Choice.{choose, maybe, or_else}
use Rattle.sexp.specs.Sexp.{Sexp, Sexps, str, hinted, list, nil, cons, spell, spells, nesting, nestings, Stands, StandsAll}
use Rattle.sexp.specs.Strings.{Plain}
use Rattle.sexp.specs.Words.{is_number, worth}
use Rattle.sexp.specs.WordsAt.{NumberAt}
use Rattle.sexp.proofs.AnswerLaws.{plain-inside}
use Rattle.sexp.proofs.StandLaws.{byte_inside, stands-before, string-once, list-opens, members-stand, first-stands, others-stand, none-closes, no-closing, closes-none, closes-not, opens-list, list_length, cons-length}
use Rattle.sexp.proofs.OntoLaws.{spell-some}
use Rattle.reader.specs.declared.bars.Sort as code
use Rattle.packet.specs.Table.{word_of}
use Rattle.packet.specs.Barred.{Holds, parameter_ok, Sort, sort_of, number_in, barred, barreds}
use Rattle.reader.proofs.WordLaws.{octets-part}
use Rattle.reader.specs.Bars.{bars_of, bars_in, holds_number, OneNumber, Tabled, TabledList, Tableds, sort_as, TextEnds}

-- what a number says, and where a string ends
pub says : (s : List ℕ) (at : ℕ) (r : std.Option ℕ) → NumberAt s at r → (w : List ℕ) → Stands s at (str w) → is_number w ≡ true → unwrap_or r 0 ≡ worth w
says s at (std.Some n) h w g t = h.says ∙ ap worth (string-once h.stands g)
says s at std.None h w g t = absurd (h w g t)

pub text-ends : (s : List ℕ) (at b n : ℕ) → Plain s at b n → TextEnds s at (b + n)
text-ends s at b n p = record { inside = plain-inside p; ends = λ w g. p.ends ∙ ap (λ (v : List ℕ). at + length (spell (str v))) (string-once p.stands g) }

pub text-nowhere : (s : List ℕ) (at : ℕ) → ((w : List ℕ) → Stands s at (str w) → ⊥) → TextEnds s at (length s)
text-nowhere s at n = record { inside = omega arith; ends = λ w g. absurd (n w g) }

-- a string holds no term
pub bars-text : (s : List ℕ) (at r : ℕ) (holds : Holds) (n : ℕ) → TextEnds s at r → (get_or s at 0 ≡ 40 → ⊥) → (e : Sexp) → Tabled e → Stands s at e → Ok r ≡ bars_of holds n at e
unfolding bars_of barred
bars-text s at r holds n t o (str w) f g = ap Ok (t.ends w g)
bars-text s at r holds n t o (hinted h w) f g = absurd f
bars-text s at r holds n t o (list xs) f g = absurd (o (list-opens g))

-- nor does an empty list
pub bars-empty : (s : List ℕ) (at : ℕ) (holds : Holds) (n : ℕ) → get_or s at 0 ≡ 40 → ((w : List ℕ) → Stands s (at + 1) (str w) → ⊥) → (e : Sexp) → Tabled e → Stands s at e → Ok (at + 2) ≡ bars_of holds n at e
unfolding bars_of barred
bars-empty s at holds n b o e f g =
    let (xs, q) = opens-list g b in
    go xs (subst Tabled q f) (subst (Stands s at) q g) ∙ sym (ap (bars_of holds n at) q)
  where
    go : (xs : Sexps) → TabledList xs → Stands s at (list xs) → Ok (at + 2) ≡ bars_of holds n at (list xs)
    go nil f g = refl
    go (cons (str w) xs) f g = absurd (o w (first-stands (members-stand g)))
    go (cons (hinted t w) xs) f g = absurd f
    go (cons (list ys) xs) f g = absurd f

-- a list that nests is no expression of no levels
pub bars-flat : (s : List ℕ) (at nest : ℕ) (holds : Holds) (n : ℕ) (r : Result ℕ ℕ) → get_or s at 0 ≡ 40 → nest ≡ 0 → (e : Sexp) → Stands s at e → nesting e ≤ nest → r ≡ bars_of holds n at e
bars-flat s at nest holds n r b z e g m =
    let (xs, q) = opens-list g b in
    let l = ap nesting q in
    absurd (omega arith)

-- a list by the sort of its word: where the word ends its members start
abbrev sorted : Sort → Holds → ℕ → ℕ → ℕ → Sexps → Option ℕ
sorted Sort.variable holds n at to xs = choose (ltb (number_in xs) n) none (some at)
sorted Sort.parameter holds n at to xs = choose (parameter_ok holds (number_in xs)) none (some at)
sorted Sort.quantifier holds n at to xs = barreds holds (suc n) to xs
sorted Sort.other holds n at to xs = barreds holds n to xs

sorted-is : (holds : Holds) (n at : ℕ) (w : List ℕ) (xs : Sexps) → barred holds n at (list (cons (str w) xs)) ≡ sorted (sort_of (word_of w)) holds n at (at + 1 + length (spell (str w))) xs
unfolding barred
sorted-is holds n at w xs = go (sort_of (word_of w))
  where
    go : (x : Sort)
        → (elim x as (λ y. Option ℕ) [
          | Sort.variable ↦ choose (ltb (number_in xs) n) none (some at)
          | Sort.parameter ↦ choose (parameter_ok holds (number_in xs)) none (some at)
          | Sort.quantifier ↦ barreds holds (suc n) (at + 1 + length (spell (str w))) xs
          | Sort.other ↦ barreds holds n (at + 1 + length (spell (str w))) xs
        ])
        ≡ sorted x holds n at (at + 1 + length (spell (str w))) xs
    go Sort.variable = refl
    go Sort.parameter = refl
    go Sort.quantifier = refl
    go Sort.other = refl

-- the code's sort is the list's
sort-back : (x y : Sort) → sort_as x ≡ sort_as y → x ≡ y
sort-back Sort.variable Sort.variable e = refl
sort-back Sort.variable Sort.parameter e = let z : ◌≡◌ {A = ℕ} 0 1 = cc in absurd (omega arith)
sort-back Sort.variable Sort.quantifier e = let z : ◌≡◌ {A = ℕ} 0 1 = cc in absurd (omega arith)
sort-back Sort.variable Sort.other e = let z : ◌≡◌ {A = ℕ} 0 1 = cc in absurd (omega arith)
sort-back Sort.parameter Sort.variable e = let z : ◌≡◌ {A = ℕ} 0 1 = cc in absurd (omega arith)
sort-back Sort.parameter Sort.parameter e = refl
sort-back Sort.parameter Sort.quantifier e = let z : ◌≡◌ {A = ℕ} 0 1 = cc in absurd (omega arith)
sort-back Sort.parameter Sort.other e = let z : ◌≡◌ {A = ℕ} 0 1 = cc in absurd (omega arith)
sort-back Sort.quantifier Sort.variable e = let z : ◌≡◌ {A = ℕ} 0 1 = cc in absurd (omega arith)
sort-back Sort.quantifier Sort.parameter e = let z : ◌≡◌ {A = ℕ} 0 1 = cc in absurd (omega arith)
sort-back Sort.quantifier Sort.quantifier e = refl
sort-back Sort.quantifier Sort.other e = let z : ◌≡◌ {A = ℕ} 0 1 = cc in absurd (omega arith)
sort-back Sort.other Sort.variable e = let z : ◌≡◌ {A = ℕ} 0 1 = cc in absurd (omega arith)
sort-back Sort.other Sort.parameter e = let z : ◌≡◌ {A = ℕ} 0 1 = cc in absurd (omega arith)
sort-back Sort.other Sort.quantifier e = let z : ◌≡◌ {A = ℕ} 0 1 = cc in absurd (omega arith)
sort-back Sort.other Sort.other e = refl

-- a list is entered: its word is of a sort, and its members start at `to`
pub record Entered (s : List ℕ) (at to : ℕ) (x : Sort) (e : Sexp) : Type 0 where
  pub word : List ℕ
  pub members : Sexps
  pub whole : e ≡ list (cons (str word) members)
  pub sort : sort_of (word_of word) ≡ x
  pub ends : at + 1 + length (spell (str word)) ≡ to
  pub stand : StandsAll s to members
  pub shallow : nestings members < nesting e
  pub tabled : Tableds members
  pub number : holds_number x ≡ true → OneNumber members

module _ (s : List ℕ) (at b m : ℕ) (p : Plain s (at + 1) b m) (o : get_or s at 0 ≡ 40) where
  enter : (xs : Sexps) → TabledList xs → Stands s at (list xs) → Entered s at (b + m) (sort_of (word_of (take (b + m - b) (drop b s)))) (list xs)
  enter nil f g = absurd (no-closing p.stands (none-closes (members-stand g)))
  enter (cons (hinted t w) xs) f g = absurd f
  enter (cons (list ys) xs) f g = absurd f
  enter (cons (str w) xs) f g =
      let q = string-once (first-stands (members-stand g)) p.stands in
      let l = ap (λ (v : List ℕ). at + 1 + length (spell (str v))) q ∙ sym p.ends in
      let x = ap (λ (v : List ℕ). sort_of (word_of v)) (q ∙ octets-part p) in
      record {
        word = w;
        members = xs;
        whole = refl;
        sort = x;
        ends = l;
        stand = subst (λ (i : ℕ). StandsAll s i xs) l (others-stand (members-stand g));
        shallow = omega arith;
        tabled = f.1;
        number = λ t. f.0 (ap holds_number x ∙ t);
      }

  pub entered : (x : Sort) (r : code.Sort) → r ≡ sort_as x → r ≡ sort_as (sort_of (word_of (take (b + m - b) (drop b s)))) → (e : Sexp) → Tabled e → Stands s at e → Entered s at (b + m) x e
  entered x r u v e f g =
      let (xs, q) = opens-list g o in
      subst (λ (y : Sort). Entered s at (b + m) y e) (sort-back (sort_of (word_of (take (b + m - b) (drop b s)))) x (sym v ∙ u))
      (subst (Entered s at (b + m) (sort_of (word_of (take (b + m - b) (drop b s))))) (sym q) (enter xs (subst Tabled q f) (subst (Stands s at) q g)))

-- the first barred term of a list that is entered
module _ {s : List ℕ} {at to : ℕ} {x : Sort} {e : Sexp} (h : Entered s at to x e) (holds : Holds) (n : ℕ) where
  opened : bars_of holds n at e ≡ maybe (sorted x holds n at to h.members) (Ok (to + length (spells h.members) + 1)) Err
  unfolding bars_of
  opened =
      ap (bars_of holds n at) h.whole
      ∙ ap₂ (λ (o : Option ℕ) (i : ℕ). maybe o (Ok i) Err)
      (sorted-is holds n at h.word h.members ∙ ap₂ (λ (y : Sort) (i : ℕ). sorted y holds n at i h.members) h.sort h.ends)
      (let a = list_length (cons (str h.word) h.members) in let c = cons-length (str h.word) h.members in let d = h.ends in omega arith)

-- a list of another sort, and a quantifier
module _ {s : List ℕ} {at to : ℕ} {e : Sexp} (holds : Holds) (n nest : ℕ) {r : Result ℕ ℕ} where
  pub bars-other : Entered s at to Sort.other e → nesting e ≤ nest → ((xs : Sexps) → Tableds xs → StandsAll s to xs → nestings xs ≤ nest - 1 → r ≡ bars_in holds n to xs) → r ≡ bars_of holds n at e
  unfolding bars_in
  bars-other h l f = let m = h.shallow in f h.members h.tabled h.stand (omega arith) ∙ sym (opened h holds n)

  pub bars-quantifier : Entered s at to Sort.quantifier e → nesting e ≤ nest → ((xs : Sexps) → Tableds xs → StandsAll s to xs → nestings xs ≤ nest - 1 → r ≡ bars_in holds (n + 1) to xs) → r ≡ bars_of holds n at e
  unfolding bars_in
  bars-quantifier h l f =
      let m = h.shallow in
      f h.members h.tabled h.stand (omega arith)
      ∙ ap (λ (i : ℕ). bars_in holds i to h.members) (add-one n)
      ∙ sym (opened h holds n)

-- a term: v and e
abbrev pub TermBars : List ℕ → ℕ → ℕ → Bool → Result ℕ ℕ → Type 0
TermBars s at to ok r = (w : List ℕ) → Stands s to (str w) → r ≡ choose ok (Ok (to + length (spell (str w)) + 1)) (Err at)

choice : (t : Bool) (at i : ℕ) → choose t (Ok i) (Err at) ≡ maybe (choose t none (some at)) (Ok i) Err
choice true at i = refl
choice false at i = refl

module _ {s : List ℕ} {at to : ℕ} {x : Sort} {e : Sexp} (h : Entered s at to x e) (holds : Holds) (n : ℕ) (t : holds_number x ≡ true) (k : ℕ) (f : (w : List ℕ) → Stands s to (str w) → is_number w ≡ true → k ≡ worth w) where
  -- the number that was read is the one
  term-number : k ≡ number_in h.members
  unfolding number_in
  term-number =
      let (w, q, d) = h.number t in
      let g = first-stands (subst (StandsAll s to) q h.stand) in
      f w g d ∙ sym (ap number_in q)

  term-bars : (ok : Bool) (r : Result ℕ ℕ) → TermBars s at to ok r → sorted x holds n at to h.members ≡ choose ok none (some at) → r ≡ bars_of holds n at e
  term-bars ok r b u =
      let (w, q, d) = h.number t in
      let g = first-stands (subst (StandsAll s to) q h.stand) in
      let l : to + length (spell (str w)) + 1 ≡ to + length (spells h.members) + 1 = ap (λ (ys : Sexps). to + length (spells ys) + 1) (sym q) in
      b w g
      ∙ ap (λ (i : ℕ). choose ok (Ok i) (Err at)) l
      ∙ choice ok at (to + length (spells h.members) + 1)
      ∙ ap (λ (o : Option ℕ). maybe o (Ok (to + length (spells h.members) + 1)) Err) (sym u)
      ∙ sym (opened h holds n)

module _ {s : List ℕ} {at to : ℕ} {e : Sexp} (holds : Holds) (n k : ℕ) (f : (w : List ℕ) → Stands s to (str w) → is_number w ≡ true → k ≡ worth w) (r : Result ℕ ℕ) where
  pub bars-variable : Entered s at to Sort.variable e → TermBars s at to (ltb k n) r → r ≡ bars_of holds n at e
  bars-variable h b = term-bars h holds n refl k f (ltb k n) r b (ap (λ (i : ℕ). choose (ltb i n) none (some at)) (sym (term-number h holds n refl k f)))

  pub bars-parameter : Entered s at to Sort.parameter e → (ok : Bool) → ok ≡ parameter_ok holds k → TermBars s at to ok r → r ≡ bars_of holds n at e
  bars-parameter h ok u b =
      term-bars h holds n refl k f ok r b
      (ap (λ (i : ℕ). choose (parameter_ok holds i) none (some at)) (sym (term-number h holds n refl k f)) ∙ ap (λ (o : Bool). choose o none (some at)) (sym u))

-- one member, and then the others
abbrev and_then : Result ℕ ℕ → (ℕ → Result ℕ ℕ) → Result ℕ ℕ
and_then (Ok to) f = f to
and_then (Err o) f = Err o

bars-cons : (holds : Holds) (n at : ℕ) (x : Sexp) (xs : Sexps) → bars_in holds n at (cons x xs) ≡ and_then (bars_of holds n at x) (λ to. bars_in holds n to xs)
unfolding bars_of bars_in barred
bars-cons holds n at x xs = go (barred holds n at x)
  where
    go : (o : Option ℕ) → maybe (or_else o (barreds holds n (at + length (spell x)) xs)) (Ok (at + length (spells (cons x xs)) + 1)) Err ≡ and_then (maybe o (Ok (at + length (spell x))) Err) (λ to. maybe (barreds holds n to xs) (Ok (to + length (spells xs) + 1)) Err)
    go none = ap (λ (m : ℕ). maybe (barreds holds n (at + length (spell x)) xs) (Ok m) Err) (let z = cons-length x xs in omega arith)
    go (some o) = refl

clear-is : (holds : Holds) (n at to : ℕ) (e : Sexp) → Ok to ≡ bars_of holds n at e → to ≡ at + length (spell e)
unfolding bars_of
clear-is holds n at to e h = go (barred holds n at e) h
  where
    go : (o : Option ℕ) → Ok to ≡ maybe o (Ok (at + length (spell e))) Err → to ≡ at + length (spell e)
    go none q = cc
    go (some o) q = let z : ◌≡◌ {A = ℕ} 0 1 = cc in absurd (omega arith)

-- the members of a list are being walked: these are left at i, and they decide
pub record Going (s : List ℕ) (nest : ℕ) (holds : Holds) (n : ℕ) (want : Result ℕ ℕ) (i : ℕ) : Type 0 where
  pub left : Sexps
  pub stand : StandsAll s i left
  pub tabled : Tableds left
  pub shallow : nestings left ≤ nest
  pub same : bars_in holds n i left ≡ want

pub going_start : {s : List ℕ} {nest : ℕ} (holds : Holds) (n : ℕ) {at : ℕ} {xs : Sexps} → Tableds xs → StandsAll s at xs → nestings xs ≤ nest → Going s nest holds n (bars_in holds n at xs) at
going_start holds n {xs = xs} t h l = record { left = xs; stand = h; tabled = t; shallow = l; same = refl }

-- one member
abbrev pub Barred : List ℕ → ℕ → Holds → ℕ → ℕ → Result ℕ ℕ → Type 0
Barred s nest holds n i r = (e : Sexp) → Tabled e → Stands s i e → nesting e ≤ nest → r ≡ bars_of holds n i e

module _ {s : List ℕ} {nest : ℕ} {holds : Holds} {n : ℕ} {want : Result ℕ ℕ} {i : ℕ} (l : Going s nest holds n want i) where
  pub going-inside : i < length s
  going-inside = go l.left l.stand
    where
      go : (xs : Sexps) → StandsAll s i xs → i < length s
      go nil h = byte_inside s i 41 (none-closes h) (omega arith)
      go (cons x xs) h = stands-before (first-stands h)

  pub going-closed : get_or s i 0 ≡ 41 → Ok (i + 1) ≡ want
  unfolding bars_in barred
  going-closed b = ap Ok {x = i + 1} {y = i + 0 + 1} (omega arith) ∙ sym (ap (bars_in holds n i) (closes-none l.stand b)) ∙ l.same

  module _ (ne : get_or s i 0 ≡ 41 → ⊥) where
    pub going-at : {o : ℕ} → Barred s nest holds n i (Err o) → Err o ≡ want
    going-at f =
        let (x, xs, q) = closes-not l.stand ne in
        let a = subst (StandsAll s i) q l.stand in
        let t = subst Tableds q l.tabled in
        let m = ap nestings q in
        let w = l.shallow in
        ap (λ (r : Result ℕ ℕ). and_then r (λ to. bars_in holds n to xs)) (f x t.0 (first-stands a) (omega arith))
        ∙ sym (bars-cons holds n i x xs)
        ∙ sym (ap (bars_in holds n i) q)
        ∙ l.same

    pub going_next : {to : ℕ} → Barred s nest holds n i (Ok to) → (i < to) × Going s nest holds n want to
    going_next {to} f =
        let (x, xs, q) = closes-not l.stand ne in
        let a = subst (StandsAll s i) q l.stand in
        let t = subst Tableds q l.tabled in
        let m = ap nestings q in
        let w = l.shallow in
        let g = f x t.0 (first-stands a) (omega arith) in
        let e = clear-is holds n i to x g in
        let p = spell-some x in (
          omega arith,
          record {
            left = xs;
            stand = subst (λ (j : ℕ). StandsAll s j xs) (sym e) (others-stand a);
            tabled = t.1;
            shallow = omega arith;
            same =
                ap (λ (r : Result ℕ ℕ). and_then r (λ j. bars_in holds n j xs)) g
                ∙ sym (bars-cons holds n i x xs)
                ∙ sym (ap (bars_in holds n i) q)
                ∙ l.same;
          },
        )
