-- A clause none of whose heads becomes an atom serves that atom nowhere, whichever candidates are chosen on the way; so one none of whose heads has the atom's predicate (document 02, Three: no verdict and no strip changes).
use Prim.Native.Nat.{◌-◌}
use mathlib.Core.Path.{◌≡◌, refl, ap, ap₂}
use mathlib.Core.Bool.{Bool, true, false, ◌&&◌, ◌||◌}
use mathlib.Core.List.{List, ◌∷◌}
use lib.ListN.{length}
use Rattle.harrop.specs.declared.Binding.TheVariants.{Candidate}
use Rattle.harrop.specs.Formula.{Atom, Goal, Clause}
use Rattle.harrop.specs.Bindings.{Bindings, replaced_atom}
use Rattle.harrop.specs.Place.{Candidates, Plain, allowed}
use Rattle.heads.specs.Predicate.{has_head}
use Rattle.narrow.specs.Narrow.{NoHead}
use Rattle.narrow.proofs.NoHeadLaws as heads
use Rattle.proving.specs.Provable.{candidate_does, candidates_from, through, ending}
use Rattle.proving.proofs.WalkLaws.{any-no}

and-false : (a b : Bool) → b ≡ false → a && b ≡ false
and-false true b e = e
and-false false b e = refl

module _ (cs : Candidates Plain) (o : List Plain) where
  -- a clause none of whose heads becomes an atom
  pub no-head-passes-not : (a : Atom) (prove : Goal Plain → Bindings → Bool) (d : Clause Plain) (bs : Bindings) → NoHead cs.terms bs d a → through cs o d bs (ending cs a prove) ≡ false
  unfolding through ending candidates_from candidate_does
  no-head-passes-not a prove (Clause.atom_d b) bs n = n
  no-head-passes-not a prove (Clause.imp_d g b) bs n = ap (λ (z : Bool). z && prove g bs) n
  no-head-passes-not a prove (Clause.all_d q d) bs n =
      any-no (candidate_does cs o q (λ i. through cs o d (Candidate i ∷ bs) (ending cs a prove))) 0 (length cs.terms - 0)
      (λ i l m. and-false (allowed cs o q i) (through cs o d (Candidate i ∷ bs) (ending cs a prove)) (no-head-passes-not a prove d (Candidate i ∷ bs) (n (Candidate i))))
  no-head-passes-not a prove (Clause.and_d c d) bs n = ap₂ ◌||◌ (no-head-passes-not a prove c bs n.0) (no-head-passes-not a prove d bs n.1)

  -- such is one none of whose heads has the atom's predicate
  pub headless : (bs₀ : Bindings) (a : Atom) (prove : Goal Plain → Bindings → Bool) (d : Clause Plain) (bs : Bindings) → has_head d a ≡ false → through cs o d bs (ending cs (replaced_atom cs.terms bs₀ a) prove) ≡ false
  headless bs₀ a prove d bs e = no-head-passes-not (replaced_atom cs.terms bs₀ a) prove d bs (heads.headless cs.terms bs₀ a d e bs)
