-- What a variable stands for, and what a term or an atom becomes (document 01, "When a strip fits").
-- A variable bound to parameter k becomes `e` k, one bound to candidate i that candidate's term. A candidate may itself be `e` k: equality is of terms, never of bindings.
-- Nothing here knows what a quantifier carries: request Twelve touches no line.
use Rattle.std.specs.Prelude.{ℕ, zero, suc, max, Bool, true, false, ◌&&◌, List, [], ◌∷◌, eqb}
use Rattle.std.proofs.Math.Option.{none, some}
use Rattle.std.proofs.Math.ListN.{get_elem?}
use Rattle.harrop.specs.declared.Binding.{Binding}
use Rattle.harrop.specs.declared.Binding.TheVariants.{Candidate, Parameter}
use Rattle.harrop.specs.Formula.{Name, Term, Terms, Atom}

-- the variables of a formula that are set, the nearest quantifier's first
abbrev pub Bindings : Type 0
Bindings = List Binding

-- the highest parameter in a term, 0 if it has none
abbrev mutual
  pub highest : Term → ℕ
  highest (Term.v i) = 0
  highest (Term.f g ts) = highests ts
  highest (Term.e k) = k

  pub highests : Terms → ℕ
  highests Terms.nil = 0
  highests (Terms.cons t ts) = max (highest t) (highests ts)

-- what stands in for a variable that nothing is bound to, and for a candidate that is not listed: `e` 0, which is no parameter. In a packet that is read it never comes up at a node that
-- fits: refusal 5, and Fair (specs/Scoped) among trees, exclude free variables in rules and goal and `e` 0 in candidates, and such a node names listed candidates only (May, specs/Proves)
abbrev pub nothing : Term
nothing = Term.e 0

module _ (terms : List Term) where
  -- the term that a binding stands for
  abbrev pub meant : Binding → Term
  meant (Candidate i) = elim (get_elem? terms i) [ none ↦ nothing | some t ↦ t ]
  meant (Parameter k) = Term.e k

  -- the term that variable i stands for
  abbrev pub value_of : Bindings → ℕ → Term
  value_of [] i = nothing
  value_of (b ∷ bs) zero = meant b
  value_of (b ∷ bs) (suc i) = value_of bs i

  -- a term, its variables replaced
  abbrev mutual
    pub replaced : Bindings → Term → Term
    replaced bs (Term.v i) = value_of bs i
    replaced bs (Term.f g ts) = Term.f g (replaceds bs ts)
    replaced bs (Term.e k) = Term.e k

    pub replaceds : Bindings → Terms → Terms
    replaceds bs Terms.nil = Terms.nil
    replaceds bs (Terms.cons t ts) = Terms.cons (replaced bs t) (replaceds bs ts)

  -- an atom, its variables replaced
  abbrev pub replaced_atom : Bindings → Atom → Atom
  replaced_atom bs (Atom.atom g ts) = Atom.atom g (replaceds bs ts)

-- whether two names, terms or atoms are the same
abbrev pub same_name : Name → Name → Bool
same_name [] [] = true
same_name [] (y ∷ ys) = false
same_name (x ∷ xs) [] = false
same_name (x ∷ xs) (y ∷ ys) = eqb x y && same_name xs ys

abbrev mutual
  pub same_term : Term → Term → Bool
  same_term (Term.v i) (Term.v j) = eqb i j
  same_term (Term.v i) (Term.f h us) = false
  same_term (Term.v i) (Term.e m) = false
  same_term (Term.f g ts) (Term.v j) = false
  same_term (Term.f g ts) (Term.f h us) = same_name g h && same_terms ts us
  same_term (Term.f g ts) (Term.e m) = false
  same_term (Term.e k) (Term.v j) = false
  same_term (Term.e k) (Term.f h us) = false
  same_term (Term.e k) (Term.e m) = eqb k m

  pub same_terms : Terms → Terms → Bool
  same_terms Terms.nil Terms.nil = true
  same_terms Terms.nil (Terms.cons u us) = false
  same_terms (Terms.cons t ts) Terms.nil = false
  same_terms (Terms.cons t ts) (Terms.cons u us) = same_term t u && same_terms ts us

abbrev pub same_atom : Atom → Atom → Bool
same_atom (Atom.atom g ts) (Atom.atom h us) = same_name g h && same_terms ts us
