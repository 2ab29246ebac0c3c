-- The executable twin of Proves: height and nodes of a strip that is a proof at a place, else the first node in file order that does not fit (document 01, "When a strip fits").
-- What it answers is shown in proofs/Judgement. A position is the list of part numbers from the root; crate `packet` says which byte offset it is.
-- Request Nine touches the line of `imp`.
use Rattle.std.specs.Prelude.{ℕ, suc, ◌+◌, max, true, false, List, [], ◌∷◌, ◌++◌, length}
use Rattle.std.proofs.Math.Option.{Option, none, some}
use Rattle.std.proofs.Math.ListN.{get_elem?}
use Rattle.basics.specs.Choice.{◌>>=◌, provided, maybe}
use Rattle.harrop.specs.declared.Binding.TheVariants.{Candidate, Parameter}
use Rattle.harrop.specs.Formula.{Atom, Goal, Step, Strip}
use Rattle.harrop.specs.Bindings.{Bindings, replaced_atom, same_atom}
use Rattle.harrop.specs.Place.{Candidates, Hand, Place, End, allowed, follow}
pub use Rattle.harrop.specs.Position.{Position}
use Rattle.harrop.specs.Views.{as_top, as_atom, as_and, as_or, as_some, as_all, as_imp}

pub data Judged : Type 0 where
  fits : ℕ → ℕ → Judged  -- every node fits: height and nodes
  misfit : Position → Judged  -- the first node that does not

-- a node that fits, above its part number i
abbrev pub above : ℕ → Judged → Judged
above i (Judged.fits h m) = Judged.fits (suc h) (suc m)
above i (Judged.misfit at) = Judged.misfit (i ∷ at)

-- an `and` that fits, above its two parts
abbrev pub above_both : Judged → Judged → Judged
above_both (Judged.misfit at) b = Judged.misfit (0 ∷ at)
above_both (Judged.fits h m) (Judged.misfit at) = Judged.misfit (1 ∷ at)
above_both (Judged.fits h m) (Judged.fits i n) = Judged.fits (suc (max h i)) (suc (m + n))

-- the node itself does not fit
abbrev pub here : Judged
here = Judged.misfit []

-- the atom at the end of a path, with its bindings, and the goal of the third part where there is to be one
abbrev pub head_of : {Q : Type 0} → End Q → Atom × Bindings
head_of (End.at_atom a bs) = (a, bs)
head_of (End.at_imp g a bs) = (a, bs)

abbrev pub body_of : {Q : Type 0} → End Q → Option (Goal Q × Bindings)
body_of (End.at_atom a bs) = none
body_of (End.at_imp g a bs) = some (g, bs)

module _ {Q : Type 0} (cs : Candidates Q) where
  -- where a `use` of clause k along a path ends, if the goal is an atom, clause k is at hand, and the atom reached equals the goal's
  abbrev pub used : List Q → Hand Q → Bindings → Goal Q → ℕ → List Step → Option (End Q)
  used o c bs g k path = do
    a ← as_atom g
    d ← get_elem? c k
    x ← follow cs o d.clause d.bindings path
    provided (same_atom (replaced_atom cs.terms (head_of x).1 (head_of x).0) (replaced_atom cs.terms bs a)) (some x)

  abbrev pub check : Strip → List Q → Hand Q → Bindings → Goal Q → Judged
  check Strip.top o c bs g = maybe (as_top g) here λ u. Judged.fits 1 1
  check (Strip.and P R) o c bs g = maybe (as_and g) here λ x. above_both (check P o c bs x.0) (check R o c bs x.1)
  check (Strip.left P) o c bs g = maybe (as_or g) here λ x. above 0 (check P o c bs x.0)
  check (Strip.right P) o c bs g = maybe (as_or g) here λ x. above 0 (check P o c bs x.1)
  check (Strip.some i P) o c bs g =
      maybe (as_some g) here λ x. elim (allowed cs o x.0 i) [ true ↦ above 0 (check P o c (Candidate i ∷ bs) x.1) | false ↦ here ]
  check (Strip.all P) o c bs g = maybe (as_all g) here λ x. above 0 (check P (x.0 ∷ o) c (Parameter (suc (length o)) ∷ bs) x.1)
  check (Strip.imp P) o c bs g =
      maybe (as_imp g) here λ x. above 0 (check P o (c ++ (record { clause = x.0; bindings = bs } ∷ [])) bs x.1)
  check (Strip.use₀ k path) o c bs g = maybe (used o c bs g k path) here λ x. maybe (body_of x) (Judged.fits 1 1) λ y. here
  check (Strip.use₁ k path P) o c bs g =
      maybe (used o c bs g k path) here λ x. maybe (body_of x) here λ y. above 0 (check P o c y.1 y.0)

  -- the same of a place
  abbrev pub check_at : Place Q → Strip → Judged
  check_at pl P = check P pl.opened pl.hand pl.bindings pl.goal
