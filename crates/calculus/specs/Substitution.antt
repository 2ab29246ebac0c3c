-- Substitution that captures nothing (document 004, section 2): terms for all variables at once. Under a quantifier the nearest variable stays and every term put in is raised by one.
use Rattle.std.specs.Prelude.{ℕ, zero, suc}
use Rattle.harrop.specs.Formula.{Term, Terms, Atom}
use Rattle.calculus.specs.Formula.{Formula}

-- what each variable becomes
abbrev pub Substitution : Type 0
Substitution = ℕ → Term

-- a term, its variables renumbered
abbrev mutual
  pub renumbered : (ℕ → ℕ) → Term → Term
  renumbered ρ (Term.v i) = Term.v (ρ i)
  renumbered ρ (Term.f g ts) = Term.f g (renumbereds ρ ts)
  renumbered ρ (Term.e k) = Term.e k

  pub renumbereds : (ℕ → ℕ) → Terms → Terms
  renumbereds ρ Terms.nil = Terms.nil
  renumbereds ρ (Terms.cons t ts) = Terms.cons (renumbered ρ t) (renumbereds ρ ts)

-- a term as it stands under one quantifier more
abbrev pub raised : Term → Term
raised = renumbered (λ i. suc i)

-- a term, its variables replaced
abbrev mutual
  pub in_term : Substitution → Term → Term
  in_term σ (Term.v i) = σ i
  in_term σ (Term.f g ts) = Term.f g (in_terms σ ts)
  in_term σ (Term.e k) = Term.e k

  pub in_terms : Substitution → Terms → Terms
  in_terms σ Terms.nil = Terms.nil
  in_terms σ (Terms.cons t ts) = Terms.cons (in_term σ t) (in_terms σ ts)

abbrev pub in_atom : Substitution → Atom → Atom
in_atom σ (Atom.atom p ts) = Atom.atom p (in_terms σ ts)

-- t for the nearest variable, the others by σ
abbrev pub before : Term → Substitution → Substitution
before t σ zero = t
before t σ (suc i) = σ i

-- the substitution under one quantifier more
abbrev pub under : Substitution → Substitution
under σ = before (Term.v 0) (λ i. raised (σ i))

-- a formula, its variables replaced
abbrev pub in_formula : {S : Type 0} → Substitution → Formula S → Formula S
in_formula σ (Formula.atom a) = Formula.atom (in_atom σ a)
in_formula σ Formula.top = Formula.top
in_formula σ Formula.bottom = Formula.bottom
in_formula σ (Formula.and B C) = Formula.and (in_formula σ B) (in_formula σ C)
in_formula σ (Formula.or B C) = Formula.or (in_formula σ B) (in_formula σ C)
in_formula σ (Formula.implies B C) = Formula.implies (in_formula σ B) (in_formula σ C)
in_formula σ (Formula.all s B) = Formula.all s (in_formula (under σ) B)
in_formula σ (Formula.some s B) = Formula.some s (in_formula (under σ) B)

-- every variable becomes itself
abbrev pub itself : Substitution
itself i = Term.v i

-- B[t/x], for the body B of a quantifier with variable x
abbrev pub put : {S : Type 0} → Term → Formula S → Formula S
put t B = in_formula (before t itself) B
