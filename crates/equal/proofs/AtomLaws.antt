-- An atom at a place: what its frame and its formula say is what the comparison of atoms asks for, so its answer is document 01's at that place.
use Prim.Native.Nat.{ℕ}
use mathlib.Core.Path.{◌≡◌, sym, ◌∙◌, ap, ap₂, subst}
use mathlib.Core.Bool.{Bool, true}
use mathlib.Core.List.{List}
use native.Mathlib.Omega.{arith}
use lib.ListN.{length}
use Rattle.harrop.specs.Formula.{Term, Atom}
use Rattle.harrop.specs.Bindings.{Bindings, replaced_atom, same_atom}
use Rattle.packet.specs.Written.{atom_sexp}
use Rattle.packet.specs.Barred.{atom_ok}
use Rattle.room.specs.declared.Spot.{Spot}
use Rattle.room.specs.Table.{CandidatesIn}
use Rattle.equal.specs.Term.{AtomAt, SameAtoms}
use Rattle.room.specs.Where.{Framed}
use Rattle.room.specs.Files.{Files}
use Rattle.room.proofs.FrameLaws.{frame-length}

pub atom-at : {f : Files} {room : List ℕ} {x : Spot} {top : ℕ} {bs : Bindings} (a : Atom) → Framed f room x top (atom_sexp a) bs → atom_ok (length bs) a ≡ true → AtomAt f x a
atom-at {room = room} {x = x} a h ok = record {
  stands = h.stands;
  shallow = omega (arith, h.shallow);
  few = omega (arith, h.shallow);
  ok = subst (λ (n : ℕ). atom_ok n a ≡ true) (ap length (sym h.holds) ∙ frame-length room x.base x.count) ok;
}

pub same-there : {f : Files} {room : List ℕ} {x y : Spot} {top top' : ℕ} {bs ds : Bindings} (us : List Term) (a b : Atom) (r : Bool) → SameAtoms f room x y r → CandidatesIn room f.terms us
    → Framed f room x top (atom_sexp a) bs → atom_ok (length bs) a ≡ true → Framed f room y top' (atom_sexp b) ds → atom_ok (length ds) b ≡ true → r ≡ same_atom (replaced_atom us bs a) (replaced_atom us ds b)
same-there us a b r S C h ok g ok' =
    S us a b C (atom-at a h ok) (atom-at b g ok')
    ∙ ap₂ (λ (p q : Bindings). same_atom (replaced_atom us p a) (replaced_atom us q b)) h.holds g.holds
