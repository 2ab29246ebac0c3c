-- Substituting twice, under a quantifier, and where there is nothing to replace (specs/Substitution); what a place's bindings make of a formula is a substitution (crate `harrop`, Bindings).
use Prim.Native.Nat.{ℕ, zero, suc, ◌<◌}
use mathlib.Core.Path.{◌≡◌, refl, sym, ◌∙◌, ap, ap₂, fun_ext}
use mathlib.Core.List.{List, ◌∷◌}
use native.Mathlib.Omega.{arith}
use Rattle.harrop.specs.declared.Binding.{Binding}
use Rattle.harrop.specs.Formula.{Term, Terms, Atom}
use Rattle.harrop.specs.Bindings.{Bindings, meant, value_of, replaced, replaceds, replaced_atom}
use Rattle.harrop.specs.Scoped.{TermWithin, TermsWithin}
use Rattle.calculus.specs.Formula.{Formula}
use Rattle.calculus.specs.Substitution.{Substitution, renumbered, renumbereds, raised, in_term, in_terms, in_atom, before, under, in_formula, itself, put}
use Rattle.calculus.specs.Packet.{FormulaWithin}

mutual
  term-of-renumbered : (σ : Substitution) (ρ : ℕ → ℕ) (t : Term) → in_term σ (renumbered ρ t) ≡ in_term (λ i. σ (ρ i)) t
  term-of-renumbered σ ρ (Term.v i) = refl
  term-of-renumbered σ ρ (Term.f g ts) = ap (Term.f g) (terms-of-renumbered σ ρ ts)
  term-of-renumbered σ ρ (Term.e k) = refl

  terms-of-renumbered : (σ : Substitution) (ρ : ℕ → ℕ) (ts : Terms) → in_terms σ (renumbereds ρ ts) ≡ in_terms (λ i. σ (ρ i)) ts
  terms-of-renumbered σ ρ Terms.nil = refl
  terms-of-renumbered σ ρ (Terms.cons t ts) = ap₂ Terms.cons (term-of-renumbered σ ρ t) (terms-of-renumbered σ ρ ts)

mutual
  renumbered-of-term : (ρ : ℕ → ℕ) (σ : Substitution) (t : Term) → renumbered ρ (in_term σ t) ≡ in_term (λ i. renumbered ρ (σ i)) t
  renumbered-of-term ρ σ (Term.v i) = refl
  renumbered-of-term ρ σ (Term.f g ts) = ap (Term.f g) (renumbereds-of-terms ρ σ ts)
  renumbered-of-term ρ σ (Term.e k) = refl

  renumbereds-of-terms : (ρ : ℕ → ℕ) (σ : Substitution) (ts : Terms) → renumbereds ρ (in_terms σ ts) ≡ in_terms (λ i. renumbered ρ (σ i)) ts
  renumbereds-of-terms ρ σ Terms.nil = refl
  renumbereds-of-terms ρ σ (Terms.cons t ts) = ap₂ Terms.cons (renumbered-of-term ρ σ t) (renumbereds-of-terms ρ σ ts)

-- one substitution after another is one
mutual
  term-twice : (τ σ : Substitution) (t : Term) → in_term τ (in_term σ t) ≡ in_term (λ i. in_term τ (σ i)) t
  term-twice τ σ (Term.v i) = refl
  term-twice τ σ (Term.f g ts) = ap (Term.f g) (terms-twice τ σ ts)
  term-twice τ σ (Term.e k) = refl

  terms-twice : (τ σ : Substitution) (ts : Terms) → in_terms τ (in_terms σ ts) ≡ in_terms (λ i. in_term τ (σ i)) ts
  terms-twice τ σ Terms.nil = refl
  terms-twice τ σ (Terms.cons t ts) = ap₂ Terms.cons (term-twice τ σ t) (terms-twice τ σ ts)

under_twice : (τ σ : Substitution) (i : ℕ) → in_term (under τ) (under σ i) ≡ under (λ j. in_term τ (σ j)) i
under_twice τ σ zero = refl
under_twice τ σ (suc i) = term-of-renumbered (under τ) (λ j. suc j) (σ i) ∙ sym (renumbered-of-term (λ j. suc j) τ (σ i))

pub twice : {S : Type 0} (τ σ : Substitution) (B : Formula S) → in_formula τ (in_formula σ B) ≡ in_formula (λ i. in_term τ (σ i)) B
twice τ σ (Formula.atom (Atom.atom p ts)) = ap (λ (us : Terms). Formula.atom (Atom.atom p us)) (terms-twice τ σ ts)
twice τ σ Formula.top = refl
twice τ σ Formula.bottom = refl
twice τ σ (Formula.and B C) = ap₂ Formula.and (twice τ σ B) (twice τ σ C)
twice τ σ (Formula.or B C) = ap₂ Formula.or (twice τ σ B) (twice τ σ C)
twice τ σ (Formula.implies B C) = ap₂ Formula.implies (twice τ σ B) (twice τ σ C)
twice τ σ (Formula.all s B) = ap (Formula.all s) (twice (under τ) (under σ) B ∙ ap (λ (ρ : Substitution). in_formula ρ B) (fun_ext (under_twice τ σ)))
twice τ σ (Formula.some s B) = ap (Formula.some s) (twice (under τ) (under σ) B ∙ ap (λ (ρ : Substitution). in_formula ρ B) (fun_ext (under_twice τ σ)))

-- what leaves the variables below n alone leaves alone what has no other
module _ (P : ℕ → Type 0) where
  mutual
    term-kept : (n : ℕ) (σ : Substitution) (t : Term) → TermWithin P n t → ((i : ℕ) → i < n → σ i ≡ Term.v i) → in_term σ t ≡ t
    term-kept n σ (Term.v i) w h = h i w
    term-kept n σ (Term.f g ts) w h = ap (Term.f g) (terms-kept n σ ts w h)
    term-kept n σ (Term.e k) w h = refl

    terms-kept : (n : ℕ) (σ : Substitution) (ts : Terms) → TermsWithin P n ts → ((i : ℕ) → i < n → σ i ≡ Term.v i) → in_terms σ ts ≡ ts
    terms-kept n σ Terms.nil w h = refl
    terms-kept n σ (Terms.cons t ts) w h = ap₂ Terms.cons (term-kept n σ t w.0 h) (terms-kept n σ ts w.1 h)

  under-kept : (n : ℕ) (σ : Substitution) → ((i : ℕ) → i < n → σ i ≡ Term.v i) → (i : ℕ) → i < suc n → under σ i ≡ Term.v i
  under-kept n σ h zero l = refl
  under-kept n σ h (suc i) l = ap raised (h i (omega arith))

  pub kept : {S : Type 0} (n : ℕ) (σ : Substitution) (B : Formula S) → FormulaWithin P n B → ((i : ℕ) → i < n → σ i ≡ Term.v i) → in_formula σ B ≡ B
  kept n σ (Formula.atom (Atom.atom p ts)) w h = ap (λ (us : Terms). Formula.atom (Atom.atom p us)) (terms-kept n σ ts w h)
  kept n σ Formula.top w h = refl
  kept n σ Formula.bottom w h = refl
  kept n σ (Formula.and B C) w h = ap₂ Formula.and (kept n σ B w.0 h) (kept n σ C w.1 h)
  kept n σ (Formula.or B C) w h = ap₂ Formula.or (kept n σ B w.0 h) (kept n σ C w.1 h)
  kept n σ (Formula.implies B C) w h = ap₂ Formula.implies (kept n σ B w.0 h) (kept n σ C w.1 h)
  kept n σ (Formula.all s B) w h = ap (Formula.all s) (kept (suc n) (under σ) B w (under-kept n σ h))
  kept n σ (Formula.some s B) w h = ap (Formula.some s) (kept (suc n) (under σ) B w (under-kept n σ h))

mutual
  term-itself : (t : Term) → in_term itself t ≡ t
  term-itself (Term.v i) = refl
  term-itself (Term.f g ts) = ap (Term.f g) (terms-itself ts)
  term-itself (Term.e k) = refl

  terms-itself : (ts : Terms) → in_terms itself ts ≡ ts
  terms-itself Terms.nil = refl
  terms-itself (Terms.cons t ts) = ap₂ Terms.cons (term-itself t) (terms-itself ts)

-- σ under a quantifier, and then t for its variable
put-before : (t : Term) (σ : Substitution) (i : ℕ) → in_term (before t itself) (under σ i) ≡ before t σ i
put-before t σ zero = refl
put-before t σ (suc i) = term-of-renumbered (before t itself) (λ j. suc j) (σ i) ∙ term-itself (σ i)

pub put_under : {S : Type 0} (t : Term) (σ : Substitution) (B : Formula S) → put t (in_formula (under σ) B) ≡ in_formula (before t σ) B
put_under t σ B = twice (before t itself) (under σ) B ∙ ap (λ (ρ : Substitution). in_formula ρ B) (fun_ext (put-before t σ))

module _ (terms : List Term) where
  first-bound : (b : Binding) (bs : Bindings) (i : ℕ) → before (meant terms b) (value_of terms bs) i ≡ value_of terms (b ∷ bs) i
  first-bound b bs zero = refl
  first-bound b bs (suc i) = refl

  -- a quantifier's body with its variable set is the body with one binding more
  pub bound : {S : Type 0} (b : Binding) (bs : Bindings) (B : Formula S) → put (meant terms b) (in_formula (under (value_of terms bs)) B) ≡ in_formula (value_of terms (b ∷ bs)) B
  bound b bs B = put_under (meant terms b) (value_of terms bs) B ∙ ap (λ (ρ : Substitution). in_formula ρ B) (fun_ext (first-bound b bs))

  mutual
    replaced-is : (bs : Bindings) (t : Term) → replaced terms bs t ≡ in_term (value_of terms bs) t
    replaced-is bs (Term.v i) = refl
    replaced-is bs (Term.f g ts) = ap (Term.f g) (replaceds-are bs ts)
    replaced-is bs (Term.e k) = refl

    replaceds-are : (bs : Bindings) (ts : Terms) → replaceds terms bs ts ≡ in_terms (value_of terms bs) ts
    replaceds-are bs Terms.nil = refl
    replaceds-are bs (Terms.cons t ts) = ap₂ Terms.cons (replaced-is bs t) (replaceds-are bs ts)

  pub replaced-atom-is : (bs : Bindings) (a : Atom) → replaced_atom terms bs a ≡ in_atom (value_of terms bs) a
  replaced-atom-is bs (Atom.atom p ts) = ap (Atom.atom p) (replaceds-are bs ts)
