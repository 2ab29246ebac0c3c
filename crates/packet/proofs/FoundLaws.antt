-- Where Barred looks is where the first barred term stands, and where it finds none there is none. From document 01, refusal 5, and document 02, Two.
use Prim.Native.Nat.{ℕ, suc, ◌+◌, ◌≤◌, ◌<◌}
use mathlib.Core.Path.{◌≡◌, refl, sym, ◌∙◌, ap, subst}
use mathlib.Core.Bool.{Bool, true, false, false≢true}
use mathlib.Core.List.{List}
use mathlib.Core.Logic.{◌⊎◌, inl, inr, ⊎_elim}
use mathlib.Core.Option.{Option, none, some}
use native.Mathlib.Omega.{arith}
use lib.Dec.{ltb}
use lib.ListN.{length}
use borrow.Author.Tests.{ltb-true, ltb-false}
use Rattle.basics.specs.Choice.{choose, or_else}
use Rattle.sexp.specs.Sexp.{Sexp, Sexps, spell, spells}
use Rattle.sexp.proofs.OntoLaws.{spell-some}
use Rattle.sexp.proofs.StandLaws.{list_length, cons-length}
use Rattle.packet.specs.Table.{word_of}
use Rattle.packet.specs.Barred.{Holds, parameter_ok, Sort, sort_of, number_in, barred, barred_list, barreds}
use Rattle.packet.specs.Refusal.{Found, FoundInside, FoundAmong, Bars}

-- nothing is found outside the expression, or the members, that it is looked for in
abbrev Near : ℕ → ℕ → ℕ → Type 0
Near from to o = (from ≤ o) × (o < to)

near-inside : (n from m o : ℕ) (x : Sexp) (w : List ℕ) (xs : Sexps) → ((k to : ℕ) → FoundAmong k to xs m o x → Near to (to + length (spells xs)) o) → (s : Sort) → elim s as (λ y. Type 0) [ Sort.variable ↦ ⊥ | Sort.parameter ↦ ⊥ | Sort.quantifier ↦ FoundAmong (suc n) (from + 1 + length (spell (Sexp.str w))) xs m o x | Sort.other ↦ FoundAmong n (from + 1 + length (spell (Sexp.str w))) xs m o x ] → Near from (from + length (spell (Sexp.list (Sexps.cons (Sexp.str w) xs)))) o
near-inside n from m o x w xs ih Sort.variable f = absurd f
near-inside n from m o x w xs ih Sort.parameter f = absurd f
near-inside n from m o x w xs ih Sort.quantifier f =
    let t = from + 1 + length (spell (Sexp.str w)) in
    let (a, b) = ih (suc n) t f in
    let l = list_length (Sexps.cons (Sexp.str w) xs) in
    let c = cons-length (Sexp.str w) xs in
    (omega arith, omega arith)
near-inside n from m o x w xs ih Sort.other f =
    let t = from + 1 + length (spell (Sexp.str w)) in
    let (a, b) = ih n t f in
    let l = list_length (Sexps.cons (Sexp.str w) xs) in
    let c = cons-length (Sexp.str w) xs in
    (omega arith, omega arith)

mutual
  near : (e : Sexp) (n from m o : ℕ) (x : Sexp) → Found n from e m o x → Near from (from + length (spell e)) o
  near (Sexp.str w) n from m o x f = absurd f
  near (Sexp.hinted h w) n from m o x f = absurd f
  near (Sexp.list xs) n from m o x f =
      ⊎_elim (λ (a, b, c). (omega arith, omega (arith, spell-some (Sexp.list xs)))) (λ g. near-list xs n from m o x g) f

  near-list : (xs : Sexps) (n from m o : ℕ) (x : Sexp) → FoundInside n from xs m o x → Near from (from + length (spell (Sexp.list xs))) o
  near-list Sexps.nil n from m o x f = absurd f
  near-list (Sexps.cons (Sexp.hinted h w) xs) n from m o x f = absurd f
  near-list (Sexps.cons (Sexp.list ys) xs) n from m o x f = absurd f
  near-list (Sexps.cons (Sexp.str w) xs) n from m o x f = near-inside n from m o x w xs (λ k to g. near-among xs k to m o x g) (sort_of (word_of w)) f

  near-among : (xs : Sexps) (n from m o : ℕ) (x : Sexp) → FoundAmong n from xs m o x → Near from (from + length (spells xs)) o
  near-among Sexps.nil n from m o x f = absurd f
  near-among (Sexps.cons y xs) n from m o x f =
      ⊎_elim (λ g. let (a, b) = near y n from m o x g in let c = cons-length y xs in (omega arith, omega arith))
      (λ g. let (a, b) = near-among xs n (from + length (spell y)) m o x g in let c = cons-length y xs in (omega arith, omega arith)) f

-- what an answer says of the barred terms that stand at places
abbrev pub Says : Holds → (ℕ → ℕ → Sexp → Type 0) → Option ℕ → Type 0
Says h F none = (m o : ℕ) (x : Sexp) → F m o x → Bars h m x → ⊥
Says h F (some p) = ((m : ℕ) × (x : Sexp) × F m p x × Bars h m x) × ((m o : ℕ) (x : Sexp) → F m o x → Bars h m x → p ≤ o)

-- one place beside another: nothing barred stands at the first; or all of the first come before the second
beside : (h : Holds) (F G : ℕ → ℕ → Sexp → Type 0) → Says h F none → (a : Option ℕ) → Says h G a → Says h (λ m o x. F m o x ⊎ G m o x) a
beside h F G n none g = λ m o x f b. ⊎_elim (λ u. n m o x u b) (λ u. g m o x u b) f
beside h F G n (some p) ((m, x, f, b), g) = ((m, x, inr f, b), λ m' o x' f' b'. ⊎_elim (λ u. absurd (n m' o x' u b')) (λ u. g m' o x' u b') f')

before : (h : Holds) (F G : ℕ → ℕ → Sexp → Type 0) (from mid to : ℕ) → ((m o : ℕ) (x : Sexp) → F m o x → Near from mid o) → ((m o : ℕ) (x : Sexp) → G m o x → Near mid to o) → (a b : Option ℕ) → Says h F a → Says h G b → Says h (λ m o x. F m o x ⊎ G m o x) (or_else a b)
before h F G from mid to nf ng none b f g = beside h F G f b g
before h F G from mid to nf ng (some p) b ((m, x, u, t), f) g = (
  (m, x, inl u, t),
  λ m' o x' v t'. ⊎_elim (λ w. f m' o x' w t') (λ w. let y = nf m p x u in let z = ng m' o x' w in omega arith) v,
)

-- a variable is no parameter
abbrev is_variable : Sort → Bool
is_variable Sort.variable = true
is_variable Sort.parameter = false
is_variable Sort.quantifier = false
is_variable Sort.other = false

abbrev is_parameter : Sort → Bool
is_parameter Sort.variable = false
is_parameter Sort.parameter = true
is_parameter Sort.quantifier = false
is_parameter Sort.other = false

module _ (h : Holds) (n from : ℕ) (w : List ℕ) (xs : Sexps) where
  -- the list itself
  abbrev Here : ℕ → ℕ → Sexp → Type 0
  Here m o x = (m ≡ n) × (o ≡ from) × (x ≡ Sexp.list (Sexps.cons (Sexp.str w) xs))

  -- when it is barred
  abbrev Itself : ℕ → Type 0
  Itself m = Bars h m (Sexp.list (Sexps.cons (Sexp.str w) xs))

  here-not : ((m : ℕ) → m ≡ n → Itself m → ⊥) → Says h Here none
  here-not f m o x (a, b, c) t = f m a (subst (Bars h m) c t)

  -- neither a variable nor a parameter
  is-neither : (s : Sort) → sort_of (word_of w) ≡ s → is_variable s ≡ false → is_parameter s ≡ false → Says h Here none
  is-neither s e v p =
      here-not λ m a b.
      ⊎_elim (λ (d, l). false≢true (sym v ∙ ap is_variable (sym e ∙ d))) (λ (d, l). false≢true (sym p ∙ ap is_parameter (sym e ∙ d))) b

  -- a variable
  is-variable : sort_of (word_of w) ≡ Sort.variable → (t : Bool) → ltb (number_in xs) n ≡ t → Says h (λ m o x. Here m o x ⊎ ⊥) (choose t none (some from))
  is-variable e true f =
      λ m o x g b.
      ⊎_elim
      (λ u.
      here-not
      (λ m a b.
      ⊎_elim (λ (d, l). let y = ltb-true (number_in xs) n f in omega arith) (λ (d, l). false≢true (sym (ap is_parameter e) ∙ ap is_parameter d)) b)
      m o x u b)
      absurd g
  is-variable e false f = (
    (n, Sexp.list (Sexps.cons (Sexp.str w) xs), inl (refl, refl, refl), inl (e, ltb-false (number_in xs) n f)),
    λ m o x g b. ⊎_elim (λ (a, c, d). omega arith) absurd g,
  )

  -- a parameter
  is-parameter : sort_of (word_of w) ≡ Sort.parameter → (t : Bool) → parameter_ok h (number_in xs) ≡ t → Says h (λ m o x. Here m o x ⊎ ⊥) (choose t none (some from))
  is-parameter e true f =
      λ m o x g b.
      ⊎_elim
      (λ u.
      here-not
      (λ m a b. ⊎_elim (λ (d, l). false≢true (sym (ap is_variable e) ∙ ap is_variable d)) (λ (d, l). false≢true (sym l ∙ f)) b)
      m o x u b)
      absurd g
  is-parameter e false f = (
    (n, Sexp.list (Sexps.cons (Sexp.str w) xs), inl (refl, refl, refl), inr (e, f)),
    λ m o x g b. ⊎_elim (λ (a, c, d). omega arith) absurd g,
  )

  -- a list, by its word
  list-told : ((k to : ℕ) → Says h (FoundAmong k to xs) (barreds h k to xs)) → (s : Sort) → sort_of (word_of w) ≡ s → Says h (λ m o x. Here m o x ⊎ elim s as (λ y. Type 0) [ Sort.variable ↦ ⊥ | Sort.parameter ↦ ⊥ | Sort.quantifier ↦ FoundAmong (suc n) (from + 1 + length (spell (Sexp.str w))) xs m o x | Sort.other ↦ FoundAmong n (from + 1 + length (spell (Sexp.str w))) xs m o x ]) (elim s as (λ y. Option ℕ) [ Sort.variable ↦ choose (ltb (number_in xs) n) none (some from) | Sort.parameter ↦ choose (parameter_ok h (number_in xs)) none (some from) | Sort.quantifier ↦ barreds h (suc n) (from + 1 + length (spell (Sexp.str w))) xs | Sort.other ↦ barreds h n (from + 1 + length (spell (Sexp.str w))) xs ])
  list-told ih Sort.variable e = is-variable e (ltb (number_in xs) n) refl
  list-told ih Sort.parameter e = is-parameter e (parameter_ok h (number_in xs)) refl
  list-told ih Sort.quantifier e =
      let to = from + 1 + length (spell (Sexp.str w)) in
      beside h Here (FoundAmong (suc n) to xs) (is-neither Sort.quantifier e refl refl) (barreds h (suc n) to xs) (ih (suc n) to)
  list-told ih Sort.other e =
      let to = from + 1 + length (spell (Sexp.str w)) in
      beside h Here (FoundAmong n to xs) (is-neither Sort.other e refl refl) (barreds h n to xs) (ih n to)

-- what cannot be barred: a list that begins with no string
not-begun : (h : Holds) (n from : ℕ) (xs : Sexps) → ((m : ℕ) → Bars h m (Sexp.list xs) → ⊥) → ((m o : ℕ) (x : Sexp) → FoundInside n from xs m o x → ⊥) → Says h (Found n from (Sexp.list xs)) none
not-begun h n from xs f g m o x u b = ⊎_elim (λ (p, q, r). f m (subst (Bars h m) r b)) (λ v. g m o x v) u

mutual
  unfolding barred

  pub told : (e : Sexp) (h : Holds) (n from : ℕ) → Says h (Found n from e) (barred h n from e)
  told (Sexp.str w) h n from = λ m o x f b. f
  told (Sexp.hinted t w) h n from = λ m o x f b. f
  told (Sexp.list xs) h n from = told-list xs h n from

  told-list : (xs : Sexps) (h : Holds) (n from : ℕ) → Says h (Found n from (Sexp.list xs)) (barred_list h n from xs)
  told-list Sexps.nil h n from = not-begun h n from Sexps.nil (λ m b. b) (λ m o x f. f)
  told-list (Sexps.cons (Sexp.hinted t w) xs) h n from = not-begun h n from (Sexps.cons (Sexp.hinted t w) xs) (λ m b. b) (λ m o x f. f)
  told-list (Sexps.cons (Sexp.list ys) xs) h n from = not-begun h n from (Sexps.cons (Sexp.list ys) xs) (λ m b. b) (λ m o x f. f)
  told-list (Sexps.cons (Sexp.str w) xs) h n from = list-told h n from w xs (λ k to. told-among xs h k to) (sort_of (word_of w)) refl

  pub told-among : (xs : Sexps) (h : Holds) (n from : ℕ) → Says h (FoundAmong n from xs) (barreds h n from xs)
  told-among Sexps.nil h n from = λ m o x f b. f
  told-among (Sexps.cons y xs) h n from =
      before h (Found n from y) (FoundAmong n (from + length (spell y)) xs) from (from + length (spell y)) (from + length (spell y) + length (spells xs))
      (near y n from) (near-among xs n (from + length (spell y))) (barred h n from y) (barreds h n (from + length (spell y)) xs)
      (told y h n from) (told-among xs h n (from + length (spell y)))
