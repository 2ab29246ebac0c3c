-- What is said of a formula in a frame in which some variables are not set yet (document 02, Three: the head decides before candidates are tried). That nothing said here depends on what the unset variables become is shown in crate proving.
use Rattle.std.specs.Prelude.{ℕ, ◌≤◌, ◌<◌, ◌≡◌, Bool, true, false, List, length}
use Rattle.std.proofs.Math.Option.{some}
use Rattle.std.proofs.Math.ListN.{get_elem?}
use Rattle.harrop.specs.declared.Binding.TheVariants.{Candidate}
use Rattle.harrop.specs.Formula.{Term, Atom}
use Rattle.harrop.specs.Bindings.{Bindings, meant, value_of, replaced_atom, same_atom}
use Rattle.packet.specs.File.{most_bytes}
use Rattle.room.specs.Spot.{bindings_at}
use Rattle.room.specs.Files.{Files, file_of}
use Rattle.room.specs.Table.{CandidatesIn}
use Rattle.equal.specs.Term.{AtomAt}
use Rattle.room.specs.declared.Source.{Source}
use Rattle.room.specs.declared.Spot.{Spot}
use Rattle.mentions.specs.Open.{Becomes}
use Rattle.keys.specs.Keys.{CandidateKeys}
use Rattle.unset.specs.declared.Forced.{Forced}
use Rattle.unset.specs.declared.Forced.TheVariants as F

-- no file is longer than refusal 1 lets it be
abbrev pub Small : Files → Type 0
Small f = (x : Source) → length (file_of f x) ≤ most_bytes

-- a no is a no whatever the frame becomes: the head at the first spot is not the atom at the second
abbrev pub MayBe : Files → List ℕ → Spot → Spot → ℕ → Bool → Type 0
MayBe f room x y own r =
    (us : List Term) (b a : Atom) → Small f → CandidatesIn room f.terms us → AtomAt f x b → AtomAt f y a
    → r ≡ false → (ds : Bindings) → Becomes us own (bindings_at room x) ds → same_atom (replaced_atom us ds b) (replaced_atom us (bindings_at room y) a) ≡ false

-- candidate c is forced on variable v: whatever frame makes the head the atom gives the variable the candidate's term, which is no candidate's before it
pub record ForcedTo (us : List Term) (bs : Bindings) (b a : Atom) (v c : ℕ) : Type 0 where
  pub gives : (ds : Bindings) → same_atom (replaced_atom us ds b) (replaced_atom us bs a) ≡ true → value_of us ds v ≡ meant us (Candidate c)
  pub lowest : (i : ℕ) → i < c → meant us (Candidate i) ≡ meant us (Candidate c) → ⊥

-- what is forced on it: a candidate, or a frame that gives it any candidate's term does not make the head the atom
abbrev pub ForcedAs : List Term → Bindings → Atom → Atom → ℕ → Forced → Type 0
ForcedAs us bs b a v F.Nothing = Unit {0}
ForcedAs us bs b a v (F.Candidate c) = ForcedTo us bs b a v c
ForcedAs us bs b a v F.Never = (ds : Bindings) (c : ℕ) (t : Term) → get_elem? us c ≡ some t → value_of us ds v ≡ t → same_atom (replaced_atom us ds b) (replaced_atom us bs a) ≡ false

abbrev pub Forces : Files → List ℕ → Spot → Spot → ℕ → Forced → Type 0
Forces f room x y v r =
    (us : List Term) (b a : Atom) → Small f → CandidatesIn room f.terms us → CandidateKeys room us → AtomAt f x b → AtomAt f y a
    → ForcedAs us (bindings_at room y) b a v r
