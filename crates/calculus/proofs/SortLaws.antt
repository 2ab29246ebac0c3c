-- A term keeps its sort, and a formula stays over its signature, when variables are replaced by terms of their sorts and when the signature grows (specs/Signature).
use Prim.Native.Nat.{ℕ, zero, suc}
use mathlib.Core.Path.{◌≡◌, subst}
use mathlib.Core.List.{List, [], ◌∷◌, Memᴰ}
use mathlib.Core.Option.{some, some-injective}
use lib.ListN.{get_elem?}
use Rattle.basics.specs.Choice.{nope}
use Rattle.basics.specs.Each.{Each}
use Rattle.harrop.specs.Formula.{Term, Terms, Atom}
use Rattle.calculus.specs.Formula.{Formula}
use Rattle.calculus.specs.Substitution.{Substitution, renumbered, renumbereds, in_term, in_terms, before, under, in_formula, itself, put}
use Rattle.calculus.specs.Signature.{Symbols, Signature, IsSequent, HasSort, HaveSorts, Has, FormulaOver, Over}

module _ {S : Type 0} (Σ : Signature S) where
  -- variables renumbered to variables of the same sorts
  abbrev Renumbers : (ℕ → ℕ) → List S → List S → Type 0
  Renumbers ρ vs ws = (i : ℕ) (s : S) → get_elem? vs i ≡ some s → get_elem? ws (ρ i) ≡ some s

  mutual
    renumbered-has : (ρ : ℕ → ℕ) (vs ws : List S) → (t : Term) (s : S) → Renumbers ρ vs ws → HasSort Σ vs t s → HasSort Σ ws (renumbered ρ t) s
    renumbered-has ρ vs ws (Term.v i) s h x = h i s x
    renumbered-has ρ vs ws (Term.f g ts) s h (ss, y, x) = (ss, y, renumbereds-have ρ vs ws ts ss h x)
    renumbered-has ρ vs ws (Term.e k) s h x = x

    renumbereds-have : (ρ : ℕ → ℕ) (vs ws : List S) → (ts : Terms) (ss : List S) → Renumbers ρ vs ws → HaveSorts Σ vs ts ss → HaveSorts Σ ws (renumbereds ρ ts) ss
    renumbereds-have ρ vs ws Terms.nil [] h x = tt
    renumbereds-have ρ vs ws Terms.nil (s ∷ ss) h x = x
    renumbereds-have ρ vs ws (Terms.cons t ts) [] h x = x
    renumbereds-have ρ vs ws (Terms.cons t ts) (s ∷ ss) h x = (renumbered-has ρ vs ws t s h x.0, renumbereds-have ρ vs ws ts ss h x.1)

  -- every variable becomes a term of its sort
  abbrev pub Suits : Substitution → List S → List S → Type 0
  Suits σ vs ws = (i : ℕ) (s : S) → get_elem? vs i ≡ some s → HasSort Σ ws (σ i) s

  mutual
    term-has : (σ : Substitution) (vs ws : List S) (t : Term) (s : S) → Suits σ vs ws → HasSort Σ vs t s → HasSort Σ ws (in_term σ t) s
    term-has σ vs ws (Term.v i) s h x = h i s x
    term-has σ vs ws (Term.f g ts) s h (ss, y, x) = (ss, y, terms-have σ vs ws ts ss h x)
    term-has σ vs ws (Term.e k) s h x = x

    terms-have : (σ : Substitution) (vs ws : List S) (ts : Terms) (ss : List S) → Suits σ vs ws → HaveSorts Σ vs ts ss → HaveSorts Σ ws (in_terms σ ts) ss
    terms-have σ vs ws Terms.nil [] h x = tt
    terms-have σ vs ws Terms.nil (s ∷ ss) h x = x
    terms-have σ vs ws (Terms.cons t ts) [] h x = x
    terms-have σ vs ws (Terms.cons t ts) (s ∷ ss) h x = (term-has σ vs ws t s h x.0, terms-have σ vs ws ts ss h x.1)

  under-suits : (σ : Substitution) (vs ws : List S) (q : S) → Suits σ vs ws → Suits (under σ) (q ∷ vs) (q ∷ ws)
  under-suits σ vs ws q h zero s e = e
  under-suits σ vs ws q h (suc i) s e = renumbered-has (λ j. suc j) ws (q ∷ ws) (σ i) s (λ j r x. x) (h i s e)

  pub instance-over : (σ : Substitution) (vs ws : List S) (B : Formula S) → Suits σ vs ws → FormulaOver Σ vs B → FormulaOver Σ ws (in_formula σ B)
  instance-over σ vs ws (Formula.atom (Atom.atom p ts)) h (ss, y, x) = (ss, y, terms-have σ vs ws ts ss h x)
  instance-over σ vs ws Formula.top h x = tt
  instance-over σ vs ws Formula.bottom h x = tt
  instance-over σ vs ws (Formula.and B C) h x = (instance-over σ vs ws B h x.0, instance-over σ vs ws C h x.1)
  instance-over σ vs ws (Formula.or B C) h x = (instance-over σ vs ws B h x.0, instance-over σ vs ws C h x.1)
  instance-over σ vs ws (Formula.implies B C) h x = (instance-over σ vs ws B h x.0, instance-over σ vs ws C h x.1)
  instance-over σ vs ws (Formula.all s B) h x = instance-over (under σ) (s ∷ vs) (s ∷ ws) B (under-suits σ vs ws s h) x
  instance-over σ vs ws (Formula.some s B) h x = instance-over (under σ) (s ∷ vs) (s ∷ ws) B (under-suits σ vs ws s h) x

  first-suits : (t : Term) (q : S) → Has Σ t q → Suits (before t itself) (q ∷ []) []
  first-suits t q h zero s e = subst (λ (r : S). Has Σ t r) (some-injective q s e) h
  first-suits t q h (suc i) s e = nope e

  -- B[t/x] is over Σ where t has x's sort
  pub put-over : (t : Term) (q : S) (B : Formula S) → Has Σ t q → FormulaOver Σ (q ∷ []) B → Over Σ (put t B)
  put-over t q B h x = instance-over (before t itself) (q ∷ []) [] B (first-suits t q h) x

-- every parameter of one list is one of the other, with its sort
abbrev pub Part : {S : Type 0} → List (ℕ × S) → List (ℕ × S) → Type 0
Part {S} ps qs = (x : ℕ × S) → Memᴰ x ps → Memᴰ x qs

-- with these parameters more
module _ {S : Type 0} (Y : Symbols S) (ps qs : List (ℕ × S)) (i : Part ps qs) where
  abbrev smaller : Signature S
  smaller = record { symbols = Y; parameters = ps }

  abbrev greater : Signature S
  greater = record { symbols = Y; parameters = qs }

  mutual
    pub term-still : (vs : List S) (t : Term) (s : S) → HasSort smaller vs t s → HasSort greater vs t s
    term-still vs (Term.v j) s x = x
    term-still vs (Term.f g ts) s (ss, z, x) = (ss, z, terms-still vs ts ss x)
    term-still vs (Term.e k) s x = i (k, s) x

    pub terms-still : (vs : List S) (ts : Terms) (ss : List S) → HaveSorts smaller vs ts ss → HaveSorts greater vs ts ss
    terms-still vs Terms.nil [] x = tt
    terms-still vs Terms.nil (s ∷ ss) x = x
    terms-still vs (Terms.cons t ts) [] x = x
    terms-still vs (Terms.cons t ts) (s ∷ ss) x = (term-still vs t s x.0, terms-still vs ts ss x.1)

  pub still-over : (vs : List S) (B : Formula S) → FormulaOver smaller vs B → FormulaOver greater vs B
  still-over vs (Formula.atom (Atom.atom p ts)) (ss, z, x) = (ss, z, terms-still vs ts ss x)
  still-over vs Formula.top x = tt
  still-over vs Formula.bottom x = tt
  still-over vs (Formula.and B C) x = (still-over vs B x.0, still-over vs C x.1)
  still-over vs (Formula.or B C) x = (still-over vs B x.0, still-over vs C x.1)
  still-over vs (Formula.implies B C) x = (still-over vs B x.0, still-over vs C x.1)
  still-over vs (Formula.all s B) x = still-over (s ∷ vs) B x
  still-over vs (Formula.some s B) x = still-over (s ∷ vs) B x

  pub all-still-over : (Γ : List (Formula S)) → Each (Over smaller) Γ → Each (Over greater) Γ
  all-still-over [] x = tt
  all-still-over (B ∷ Γ) x = (still-over [] B x.0, all-still-over Γ x.1)

  pub still-sequent : {Γ : List (Formula S)} {C : Formula S} → IsSequent smaller Γ C → IsSequent greater Γ C
  still-sequent {Γ} {C} q = record { left = all-still-over Γ q.left; right = still-over [] C q.right }

  -- one more in both
  pub part-grown : (x : ℕ × S) → Part (x ∷ ps) (x ∷ qs)
  part-grown x y (Memᴰ.head e) = Memᴰ.head e
  part-grown x y (Memᴰ.tail m) = Memᴰ.tail (i y m)
