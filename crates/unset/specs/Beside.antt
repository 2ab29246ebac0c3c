-- What is said of two atoms beside each other in whose frames variables may be unset (document 02, Three): which variable of the second stands for what variable v of the first stands for, wherever the two are the same.
use Rattle.std.specs.Prelude.{ℕ, ◌≤◌, ◌≡◌, true, false, List, length, drop}
use Rattle.harrop.specs.Formula.{Term, Atom}
use Rattle.harrop.specs.Bindings.{Bindings, value_of, replaced, replaced_atom, same_atom}
use Rattle.std.specs.Prelude.{Option, Some, None}
use Rattle.sexp.specs.Sexp.{Stands}
use Rattle.packet.specs.Written.{term_sexp}
use Rattle.packet.specs.Barred.{term_ok}
use Rattle.packet.specs.File.{most_bytes}
use Rattle.room.specs.Layout.{levels}
use Rattle.room.specs.Table.{CandidatesIn}
use Rattle.room.specs.Files.{Files}
use Rattle.room.specs.Where.{further}
use Rattle.room.specs.declared.Spot.{Spot}
use Rattle.equal.specs.Term.{AtomAt, TermAt}
use Rattle.heads.specs.Predicate.{bytes_at}
use Rattle.unset.specs.Unset.{Small}

-- a number is that of the variable which a term is
abbrev pub IsVariable : Term → Option ℕ → Type 0
IsVariable t None = Unit {0}
IsVariable t (Some u) = t ≡ Term.v u

-- the same of the term at an offset
abbrev pub VariableIs : List ℕ → ℕ → Option ℕ → Type 0
VariableIs s at r = (t : Term) (around : ℕ) → Stands s at (term_sexp t) → length s ≤ most_bytes → around ≤ levels → term_ok false around t ≡ true → IsVariable t r

-- an argument of the second of two atoms stands at an offset of its part: wherever the two are the same, it is what variable v of the first is
pub record BesideOf (f : Files) (y : Spot) (us : List Term) (b a : Atom) (v q : ℕ) : Type 0 where
  pub term : Term
  pub stands : Stands (drop y.at (bytes_at f y)) q (term_sexp term)
  pub ok : term_ok false y.count term ≡ true
  pub here : TermAt f (further y q) term
  pub is : (ds es : Bindings) → same_atom (replaced_atom us ds b) (replaced_atom us es a) ≡ true → value_of us ds v ≡ replaced us es term

abbrev pub BesideIs : Files → Spot → List Term → Atom → Atom → ℕ → Option ℕ → Type 0
BesideIs f y us b a v None = Unit {0}
BesideIs f y us b a v (Some q) = BesideOf f y us b a v q

-- the same of the atoms at two spots
abbrev pub BesideAt : Files → Spot → Spot → ℕ → Option ℕ → Type 0
BesideAt f x y v r =
    (room : List ℕ) (us : List Term) (b a : Atom) → Small f → CandidatesIn room f.terms us → AtomAt f x b → AtomAt f y a
    → BesideIs f y us b a v r

-- wherever two atoms are the same, variable v of the first is what a variable of the second is
abbrev pub SameIs : List Term → Atom → Atom → ℕ → Option ℕ → Type 0
SameIs us b a v None = Unit {0}
SameIs us b a v (Some u) = (ds es : Bindings) → same_atom (replaced_atom us ds b) (replaced_atom us es a) ≡ true → value_of us ds v ≡ value_of us es u

abbrev pub SameAs : Files → Spot → Spot → ℕ → Option ℕ → Type 0
SameAs f x y v r =
    (room : List ℕ) (us : List Term) (b a : Atom) → Small f → CandidatesIn room f.terms us → AtomAt f x b → AtomAt f y a
    → SameIs us b a v r
