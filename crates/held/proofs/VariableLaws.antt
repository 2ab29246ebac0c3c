-- Whether an expression holds a variable with a property: from what is read of the bytes to the answer, and from the expression to the term, the goal or the clause that it is (document 01, the table of words).
use Prim.Native.Nat.{ℕ, zero, suc, ◌+◌, ◌-◌, ◌≤◌, ◌<◌}
use mathlib.Core.Path.{◌≡◌, refl, sym, ◌∙◌, ap, ap₂, subst}
use mathlib.Core.Bool.{Bool, true, false, ◌&&◌, ◌||◌, false≢true}
use mathlib.Core.List.{List}
use native.Mathlib.Omega.{arith}
use lib.Dec.{eqb}
use lib.ListN.{length, get_or}
use borrow.Author.Tests.{eqb-true, eqb-false, ltb-true, lt-ltb, le-ltb}
use Rattle.basics.specs.Choice.{choose, both_true}
use Rattle.basics.specs.Tells.{Tells, tells-once, tells_as}
use Rattle.basics.specs.Text.{octets}
use Rattle.harrop.specs.declared.Binding.{Binding}
use Rattle.harrop.specs.Formula.{Term, Terms, Atom, Goal, Clause}
use Rattle.harrop.specs.Bindings.{Bindings, same_name}
use Rattle.harrop.specs.Place.{Plain}
use Rattle.harrop.proofs.SameLaws.{same-names-equal, equal-names-same}
use Rattle.std.specs.Prelude.{Option, Some, None}
use Rattle.sexp.specs.Decimal.{decimal_onto}
use Rattle.sexp.specs.Sexp.{Sexp, Sexps, str, hinted, list, nil, cons, spell, Stands, StandsAll, nesting}
use Rattle.sexp.specs.Words.{is_number, worth}
use Rattle.sexp.specs.WordsAt.{Numeral, NumberAt}
use Rattle.sexp.proofs.StandLaws.{stands-inside, stands-before, stands-once, string-once, list-opens, members-stand, first-stands, others-stand, none-closes, opens-list, no-closing}
use Rattle.sexp.proofs.WordLaws.{worth-decimal, decimal-is}
use Rattle.sexp.proofs.WordsAtLaws.{number_is, number-nothing}
use Rattle.packet.specs.Barred.{Holds, term_ok, terms_ok, atom_ok, goal_ok, clause_ok}
use Rattle.packet.specs.File.{most_bytes}
use Rattle.packet.specs.Written.{term_sexp, term_sexps, atom_sexp, goal_sexp, clause_sexp}
use Rattle.room.specs.Frame.{bound_to}
use Rattle.room.specs.Layout.{levels}
use Rattle.room.specs.Where.{plus}
use Rattle.mentions.specs.Mentions.{inside, insides, mentions_term, mentions_terms, mentions_atom, mentions_goal, mentions_clause}
use Rattle.mentions.specs.Open.{is_unset, is_open, asked}
use Rattle.held.specs.Held.{begins, binds, after_first, asks_first, held_in, held_any, AsksAt, AroundAt, HeldAt}
use Rattle.held.specs.Held.{Holding}

-- the most bytes that a slice has
abbrev pub slice : ℕ
slice = 9223372036854775807

-- a variable of a frame
module _ (own : ℕ) (bs : Bindings) (i : ℕ) where
  pub open_own : {b : Binding} (r : Bool) → i < own → b ≡ bound_to bs i → r ≡ is_unset b → r ≡ is_open own bs i
  unfolding is_open
  open_own r l e f = f ∙ ap is_unset e ∙ ap (λ (t : Bool). t && is_unset (bound_to bs i)) (sym (lt-ltb i own l))

  pub open-other : own ≤ i → false ≡ is_open own bs i
  unfolding is_open
  open-other l = ap (λ (t : Bool). t && is_unset (bound_to bs i)) (sym (le-ltb i own l))

  module _ (also : Bool) (v : ℕ) {o : Bool} (e : o ≡ is_open own bs i) where
    pub asked-open : o ≡ true → true ≡ asked own bs also v i
    unfolding asked
    asked-open f = ap (λ (t : Bool). t || (also && eqb i v)) (sym f ∙ e)

    pub asked-also : o ≡ false → also ≡ true → eqb i v ≡ asked own bs also v i
    unfolding asked
    asked-also f a = ap₂ (λ (t u : Bool). t || (u && eqb i v)) (sym f ∙ e) (sym a)

    pub asked-not : o ≡ false → also ≡ false → also ≡ asked own bs also v i
    unfolding asked
    asked-not f a = a ∙ ap₂ (λ (t u : Bool). t || (u && eqb i v)) (sym f ∙ e) (sym a)

-- one that is not asked for is variable v if it is once that one is asked for as well
pub asked-new : (own : ℕ) (bs : Bindings) (i : ℕ) (also : Bool) (v : ℕ) → false ≡ asked own bs also v i → eqb i v ≡ asked own bs true v i
unfolding asked
asked-new own bs i also v e = go (is_open own bs i) refl
  where
    go : (o : Bool) → is_open own bs i ≡ o → eqb i v ≡ is_open own bs i || eqb i v
    go true f = absurd (false≢true (e ∙ ap (λ (t : Bool). t || (also && eqb i v)) f))
    go false f = ap (λ (t : Bool). t || eqb i v) (sym f)

-- none is asked for
pub asked-idle : (own : ℕ) (also : Bool) → also ≡ false → eqb own 0 ≡ true → (bs : Bindings) (v i : ℕ) → asked own bs also v i ≡ false
unfolding asked is_open
asked-idle own also a z bs v i = ap₂ (λ (t u : Bool). (t && is_unset (bound_to bs i)) || (u && eqb i v)) (le-ltb i own (omega (arith, eqb-true own 0 z))) a

-- a variable asked for so many quantifiers inside: one of theirs, or one from around them
pub within : (d : ℕ) (p : ℕ → Bool) (i : ℕ) → i < d → insides d p i ≡ false
within zero p i h = absurd (omega arith)
within (suc d) p zero h = refl
within (suc d) p (suc i) h = within d p i (omega arith)

pub without : (d : ℕ) (p : ℕ → Bool) (i : ℕ) → d ≤ i → insides d p i ≡ p (i - d)
without zero p i h = ap p {x = i} {y = i - 0} (omega arith)
without (suc d) p zero h = absurd (omega arith)
without (suc d) p (suc i) h = without d p i (omega arith) ∙ ap p {x = i - d} {y = suc i - suc d} (omega arith)

-- whether an expression is a plain string
is_string : Sexp → Bool
is_string (str w) = true
is_string (hinted t w) = false
is_string (list xs) = false

hinted-no-string : {s : List ℕ} {at : ℕ} {t v w : List ℕ} → Stands s at (hinted t v) → Stands s at (str w) → ⊥
unfolding is_string
hinted-no-string h g = false≢true (ap is_string (stands-once h g))

list-no-string : {s : List ℕ} {at : ℕ} {xs : Sexps} {w : List ℕ} → Stands s at (list xs) → Stands s at (str w) → ⊥
unfolding is_string
list-no-string h g = false≢true (ap is_string (stands-once h g))

-- the number after the word of a variable
module _ (s : List ℕ) (at depth : ℕ) (p : ℕ → Bool) where
  no_number : {v : Option ℕ} → v ≡ None → NumberAt s at v → (w : List ℕ) → Stands s at (str w) → is_number w ≡ false
  no_number e n w h = go (is_number w) refl
    where
      go : (b : Bool) → is_number w ≡ b → b ≡ false
      go true f = absurd (number-nothing e n w h f)
      go false f = refl

  pub asks_none : {v : Option ℕ} → v ≡ None → NumberAt s at v → AsksAt s at depth p false
  asks_none e n xs h = go xs h
    where
      go : (xs : Sexps) → StandsAll s at xs → false ≡ asks_first (insides depth p) xs
      go nil h = refl
      go (cons (str w) xs) h = ap (λ (b : Bool). b && insides depth p (worth w)) (sym (no_number e n w (first-stands h)))
      go (cons (hinted t w) xs) h = refl
      go (cons (list ys) xs) h = refl

  asks-number : {v : Option ℕ} {i : ℕ} (r : Bool) → v ≡ Some i → NumberAt s at v → r ≡ insides depth p i → AsksAt s at depth p r
  asks-number {v} {i} r e n f xs h = f ∙ go xs h
    where
      numeral : Numeral s at i
      numeral = number_is e n

      go : (xs : Sexps) → StandsAll s at xs → insides depth p i ≡ asks_first (insides depth p) xs
      go nil h = absurd (no-closing numeral.stands (none-closes h))
      go (cons (str w) xs) h =
          let q = string-once numeral.stands (first-stands h) in
          ap₂ (λ (b : Bool) (j : ℕ). b && insides depth p j) (sym numeral.number ∙ ap is_number q) (numeral.says ∙ ap worth q)
      go (cons (hinted t w) xs) h = absurd (hinted-no-string (first-stands h) numeral.stands)
      go (cons (list ys) xs) h = absurd (list-no-string (first-stands h) numeral.stands)

  pub asks-within : {v : Option ℕ} {i : ℕ} → v ≡ Some i → NumberAt s at v → i < depth → AsksAt s at depth p false
  asks-within {i = i} e n l = asks-number false e n (sym (within depth p i l))

  pub asks-without : {v : Option ℕ} {i : ℕ} (r : Bool) → v ≡ Some i → NumberAt s at v → depth ≤ i → r ≡ p (i - depth) → AsksAt s at depth p r
  asks-without {i = i} r e n l f = asks-number r e n (f ∙ sym (without depth p i l))

-- the word of a list
same-tells : (v w : List ℕ) → Tells (same_name v w) (v ≡ w)
same-tells v w = go (same_name v w) refl
  where
    go : (b : Bool) → same_name v w ≡ b → Tells b (v ≡ w)
    go true e = same-names-equal v w e
    go false e = λ q. false≢true (sym e ∙ equal-names-same v w q)

pub word-length : length (spell (str (octets "v"))) ≡ 3
unfolding decimal_onto
word-length = refl

module _ (s : List ℕ) (at : ℕ) (small : length s ≤ slice) where
  pub members-at : {q : ℕ} {xs : Sexps} → q ≡ plus at 1 → Stands s at (list xs) → StandsAll s q xs
  members-at {q} {xs} e h = subst (λ (j : ℕ). StandsAll s j xs) {x = at + 1} {y = q} (omega (arith, e, stands-before h)) (members-stand h)

  pub begins-told : {q : ℕ} {r : Bool} (w : List ℕ) → q ≡ plus at 1 → Tells r (Stands s q (str w)) → (xs : Sexps) → Stands s at (list xs) → r ≡ begins w xs
  begins-told {q} {r} w e t xs h = tells-once (Stands s q (str w)) r (begins w xs) t (go xs (members-at e h))
    where
      go : (xs : Sexps) → StandsAll s q xs → Tells (begins w xs) (Stands s q (str w))
      go nil h = λ g. no-closing g (none-closes h)
      go (cons (str v) xs) h =
          tells_as (same_name v w) (λ (z : v ≡ w). subst (λ (x : List ℕ). Stands s q (str x)) z (first-stands h)) (λ g. string-once (first-stands h) g) (same-tells v w)
      go (cons (hinted t v) xs) h = λ g. hinted-no-string (first-stands h) g
      go (cons (list ys) xs) h = λ g. list-no-string (first-stands h) g

  -- how many quantifiers are around its members
  module _ (depth : ℕ) {q : ℕ} (e : q ≡ plus at 1) {a : Bool} (T : Tells a (Stands s q (str (octets "all")))) where
    pub around-all : {d : ℕ} → a ≡ true → d ≡ plus depth 1 → AroundAt s at depth d
    around-all f k xs h = k ∙ ap (λ (z : Bool). choose (z || begins (octets "some") xs) (plus depth 1) depth) (sym f ∙ begins-told (octets "all") e T xs h)

    module _ (f : a ≡ false) {i : ℕ} (j : i ≡ plus at 1) {b : Bool} (U : Tells b (Stands s i (str (octets "some")))) where
      by-words : (xs : Sexps) → Stands s at (list xs) → b ≡ binds xs
      by-words xs h = ap₂ ◌||◌ (sym f ∙ begins-told (octets "all") e T xs h) (begins-told (octets "some") j U xs h)

      pub around-some : {d : ℕ} → b ≡ true → d ≡ plus depth 1 → AroundAt s at depth d
      around-some g k xs h = k ∙ ap (λ (z : Bool). choose z (plus depth 1) depth) (sym g ∙ by-words xs h)

      pub around-none : b ≡ false → AroundAt s at depth depth
      around-none g xs h = ap (λ (z : Bool). choose z (plus depth 1) depth) (sym g ∙ by-words xs h)

  -- what follows the word of a variable
  after-word : {q : ℕ} (xs : Sexps) → StandsAll s (at + 1) xs → Stands s (at + 1) (str (octets "v")) → q ≡ plus at 4 → StandsAll s q (after_first xs)
  after-word nil h g e = absurd (no-closing g (none-closes h))
  after-word {q} (cons x xs) h g e =
      let w = ap (λ (z : Sexp). length (spell z)) (stands-once (first-stands h) g) ∙ word-length in
      let i = stands-inside (first-stands h) in
      subst (λ (j : ℕ). StandsAll s j xs) {x = at + 1 + length (spell x)} {y = q} (omega (arith, w, i, e, small)) (others-stand h)

-- a property asked of the members of a list
pub around-insides : (depth : ℕ) (p : ℕ → Bool) (b : Bool) {d : ℕ} → depth + 1 ≤ slice → d ≡ choose b (plus depth 1) depth → choose b (inside (insides depth p)) (insides depth p) ≡ insides d p
around-insides depth p true {d} l e = ap (λ (k : ℕ). insides k p) {x = suc depth} {y = d} (omega (arith, e))
around-insides depth p false {d} l e = ap (λ (k : ℕ). insides k p) (sym e)

pub around-most : (depth : ℕ) (b : Bool) {d : ℕ} → d ≡ choose b (plus depth 1) depth → d ≤ depth + 1
around-most depth true e = omega (arith, e)
around-most depth false e = omega (arith, e)

-- where no variable has the property, nothing holds one
choose-none : (b : Bool) {x y : Bool} → x ≡ false → y ≡ false → choose b x y ≡ false
choose-none true e f = e
choose-none false e f = f

asks-never : (p : ℕ → Bool) → ((i : ℕ) → p i ≡ false) → (xs : Sexps) → asks_first p xs ≡ false
asks-never p f nil = refl
asks-never p f (cons (str w) xs) = go (is_number w) (f (worth w))
  where
    go : (b : Bool) {c : Bool} → c ≡ false → b && c ≡ false
    go true e = e
    go false e = refl
asks-never p f (cons (hinted t w) xs) = refl
asks-never p f (cons (list ys) xs) = refl

inside-never : (b : Bool) (p : ℕ → Bool) → ((i : ℕ) → p i ≡ false) → (i : ℕ) → choose b (inside p) p i ≡ false
inside-never true p f zero = refl
inside-never true p f (suc i) = f i
inside-never false p f i = f i

insides-never : (d : ℕ) (p : ℕ → Bool) → ((i : ℕ) → p i ≡ false) → (i : ℕ) → insides d p i ≡ false
insides-never zero p f i = f i
insides-never (suc d) p f i = inside-never true (insides d p) (insides-never d p f) i

mutual
  never-held : (p : ℕ → Bool) → ((i : ℕ) → p i ≡ false) → (e : Sexp) → held_in p e ≡ false
  never-held p f (str w) = refl
  never-held p f (hinted t w) = refl
  never-held p f (list xs) = choose-none (begins (octets "v") xs) (asks-never p f (after_first xs)) (never-any (choose (binds xs) (inside p) p) (inside-never (binds xs) p f) xs)

  never-any : (p : ℕ → Bool) → ((i : ℕ) → p i ≡ false) → (xs : Sexps) → held_any p xs ≡ false
  never-any p f nil = refl
  never-any p f (cons x xs) = ap₂ ◌||◌ (never-held p f x) (never-any p f xs)

module _ (s : List ℕ) (at depth nest : ℕ) (p : ℕ → Bool) where
  pub held-never : ((i : ℕ) → p i ≡ false) → HeldAt s at depth nest p false
  held-never f e h n l m = sym (never-held (insides depth p) (insides-never depth p f) e)

  -- no list
  pub held-flat : {b : Bool} → b ≡ eqb (get_or s at 0) 40 → b ≡ false → HeldAt s at depth nest p false
  held-flat e f x h n l m = go x h
    where
      go : (x : Sexp) → Stands s at x → false ≡ held_in (insides depth p) x
      go (str w) h = refl
      go (hinted t w) h = refl
      go (list xs) h = absurd (eqb-false (get_or s at 0) 40 (sym e ∙ f) (list-opens h))

  -- a list
  pub held-list : (r : Bool) → get_or s at 0 ≡ 40 → ((xs : Sexps) → Stands s at (list xs) → nesting (list xs) ≤ nest → nest ≤ levels → depth + nest ≤ most_bytes → r ≡ held_in (insides depth p) (list xs)) → HeldAt s at depth nest p r
  held-list r b k x h n l m =
      let (xs, q) = opens-list h b in
      subst (λ (z : Sexp). r ≡ held_in (insides depth p) z) (sym q) (k xs (subst (λ (z : Sexp). Stands s at z) q h) (subst (λ (z : Sexp). nesting z ≤ nest) q n) l m)

  -- a variable
  pub held-variable : length s ≤ slice → get_or s at 0 ≡ 40 → Stands s (plus at 1) (str (octets "v")) → (r : Bool) → AsksAt s (plus at 4) depth p r → HeldAt s at depth nest p r
  held-variable small b w r asks = held-list r b (λ xs h n l m. go xs h)
    where
      go : (xs : Sexps) → Stands s at (list xs) → r ≡ held_in (insides depth p) (list xs)
      go xs h =
          let o : plus at 1 ≡ at + 1 = omega (arith, stands-before h, small) in
          asks (after_first xs) (after-word s at small xs (members-stand h) (subst (λ (z : ℕ). Stands s z (str (octets "v"))) o w) refl)
          ∙ ap (λ (z : Bool). choose z (asks_first (insides depth p) (after_first xs)) (held_any (choose (binds xs) (inside (insides depth p)) (insides depth p)) xs)) (begins-told s at small {q = plus at 1} {r = true} (octets "v") refl w xs h)

-- what the expression of a term, an atom, a goal or a clause holds is what it mentions
pub or-none : (b : Bool) → b || false ≡ b
or-none true = refl
or-none false = refl

mutual
  term-held : (p : ℕ → Bool) (holds : Holds) (n : ℕ) (t : Term) → n ≤ 999 → term_ok holds n t ≡ true → held_in p (term_sexp t) ≡ mentions_term p t
  term-held p holds n (Term.v i) l o =
      let m = ltb-true i n o in
      ap₂ (λ (b : Bool) (j : ℕ). b && p j) (decimal-is i (omega (arith, m, l))) (worth-decimal i)
  term-held p holds n (Term.f g ts) l o = terms-held p holds n ts l o
  term-held p holds n (Term.e k) l o = refl

  terms-held : (p : ℕ → Bool) (holds : Holds) (n : ℕ) (ts : Terms) → n ≤ 999 → terms_ok holds n ts ≡ true → held_any p (term_sexps ts) ≡ mentions_terms p ts
  terms-held p holds n Terms.nil l o = refl
  terms-held p holds n (Terms.cons t ts) l o =
      let (a, b) = both_true (term_ok holds n t) (terms_ok holds n ts) o in
      ap₂ ◌||◌ (term-held p holds n t l a) (terms-held p holds n ts l b)

atom-held : (p : ℕ → Bool) (n : ℕ) (a : Atom) → n ≤ 999 → atom_ok n a ≡ true → held_in p (atom_sexp a) ≡ mentions_atom p a
atom-held p n (Atom.atom g ts) l o = terms-held p false n ts l o

-- two parts
both-held : {a b x y : Bool} → a ≡ x → b ≡ y → a || (b || false) ≡ x || y
both-held {b = b} e f = ap₂ ◌||◌ e (or-none b ∙ f)

mutual
  goal-held : (p : ℕ → Bool) (n : ℕ) (g : Goal Plain) → n + nesting (goal_sexp g) ≤ 999 → goal_ok n g ≡ true → held_in p (goal_sexp g) ≡ mentions_goal p g
  goal-held p n Goal.top l o = refl
  goal-held p n (Goal.atom a) l o = atom-held p n a (omega (arith, l)) o
  goal-held p n (Goal.and g h) l o =
      let (a, b) = both_true (goal_ok n g) (goal_ok n h) o in
      both-held (goal-held p n g (omega (arith, l)) a) (goal-held p n h (omega (arith, l)) b)
  goal-held p n (Goal.or g h) l o =
      let (a, b) = both_true (goal_ok n g) (goal_ok n h) o in
      both-held (goal-held p n g (omega (arith, l)) a) (goal-held p n h (omega (arith, l)) b)
  goal-held p n (Goal.some q g) l o = or-none (held_in (inside p) (goal_sexp g)) ∙ goal-held (inside p) (suc n) g (omega (arith, l)) o
  goal-held p n (Goal.all q g) l o = or-none (held_in (inside p) (goal_sexp g)) ∙ goal-held (inside p) (suc n) g (omega (arith, l)) o
  goal-held p n (Goal.imp d g) l o =
      let (a, b) = both_true (clause_ok n d) (goal_ok n g) o in
      both-held (clause-held p n d (omega (arith, l)) a) (goal-held p n g (omega (arith, l)) b)

  clause-held : (p : ℕ → Bool) (n : ℕ) (d : Clause Plain) → n + nesting (clause_sexp d) ≤ 999 → clause_ok n d ≡ true → held_in p (clause_sexp d) ≡ mentions_clause p d
  clause-held p n (Clause.atom_d a) l o = atom-held p n a (omega (arith, l)) o
  clause-held p n (Clause.imp_d g a) l o =
      let (x, y) = both_true (goal_ok n g) (atom_ok n a) o in
      both-held (goal-held p n g (omega (arith, l)) x) (atom-held p n a (omega (arith, l)) y)
  clause-held p n (Clause.all_d q d) l o = or-none (held_in (inside p) (clause_sexp d)) ∙ clause-held (inside p) (suc n) d (omega (arith, l)) o
  clause-held p n (Clause.and_d c d) l o =
      let (a, b) = both_true (clause_ok n c) (clause_ok n d) o in
      both-held (clause-held p n c (omega (arith, l)) a) (clause-held p n d (omega (arith, l)) b)

pub holding : (s : List ℕ) (at depth nest : ℕ) (p : ℕ → Bool) (r : Bool) → HeldAt s at depth nest p r → Holding s at depth nest p r
holding s at depth nest p r H = record {
  expression = H;
  term = λ t holds n h k l m few o. H (term_sexp t) h k l m ∙ term-held (insides depth p) holds n t (omega (arith, few)) o;
  goal = λ g n h k l m few o. H (goal_sexp g) h k l m ∙ goal-held (insides depth p) n g (omega (arith, few, k, l)) o;
  clause = λ d n h k l m few o. H (clause_sexp d) h k l m ∙ clause-held (insides depth p) n d (omega (arith, few, k, l)) o;
}
