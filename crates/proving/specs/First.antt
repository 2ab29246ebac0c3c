-- The first completion of a frame, which a search that says yes of a clause with no `and` on the way to its head leaves on top of the stack (document 01, "Which strip the search writes": paths compared step by step, lower number first).
-- What the atom forces is set at first, to the lowest candidate with its term; each other variable, the outermost first, gets the first candidate with which the frame can be completed so that it does. That this is the first path through the clause is shown in crate drawing, proofs/LocatedLaws.
use Rattle.std.specs.Prelude.{ℕ, zero, suc, ◌+◌, ◌<◌, ◌≡◌, Bool, true, false, List, [], ◌∷◌, length, get_or, drop}
use Rattle.harrop.specs.declared.Binding.{Binding}
use Rattle.harrop.specs.declared.Binding.TheVariants.{Candidate, Parameter}
use Rattle.harrop.specs.Formula.{Term, Atom, Clause, Step}
use Rattle.harrop.specs.Bindings.{Bindings, meant, value_of}
use Rattle.harrop.specs.Place.{Hand, Plain, listed, allowed}
use Rattle.room.specs.Frame.{binding_word, bound_to}
use Rattle.mentions.specs.Open.{is_open}
use Rattle.proving.specs.Provable.{passes}
use Rattle.proving.specs.Frames.{set_to, Completes}

-- from a frame in which only the first k variables may be unset to the one that is left; each unset variable gets a candidate before which none does, whatever the others become
pub data FirstFrame (us : List Term) (o : List Plain) (own : ℕ) (does : Bindings → Bool) : ℕ → Bindings → Bindings → Type 0 where
  whole : {fr : Bindings} → FirstFrame us o own does zero fr fr
  set : {k : ℕ} {fr ds : Bindings} → is_open own fr k ≡ false → FirstFrame us o own does k fr ds → FirstFrame us o own does (suc k) fr ds
  tried : {k : ℕ} {fr ds : Bindings} (i : ℕ) → is_open own fr k ≡ true → allowed (listed us) o tt i ≡ true
      → ((j : ℕ) → j < i → allowed (listed us) o tt j ≡ true → (es : Bindings) → Completes us o own (set_to k (Candidate j) fr) es → does es ≡ false)
      → FirstFrame us o own does k (set_to k (Candidate i) fr) ds → FirstFrame us o own does (suc k) fr ds

-- candidate i is forced on variable v: it may be used, no lower one is the same term, and whatever frame does gives the variable this term
pub record ForcedOn (us : List Term) (o : List Plain) (does : Bindings → Bool) (v i : ℕ) : Type 0 where
  pub may : allowed (listed us) o tt i ≡ true
  pub lowest : (j : ℕ) → j < i → meant us (Candidate j) ≡ meant us (Candidate i) → ⊥
  pub only : (es : Bindings) → does es ≡ true → value_of us es v ≡ meant us (Candidate i)

-- a frame with `own` variables before others, of which none is set but to what is forced on it
pub record Forcing (us : List Term) (o : List Plain) (own : ℕ) (does : Bindings → Bool) (bs fr : Bindings) : Type 0 where
  pub long : length fr ≡ own + length bs
  pub others : drop own fr ≡ bs
  pub forced : (v : ℕ) → v < own → is_open own fr v ≡ false → (i : ℕ) × (bound_to fr v ≡ Candidate i) × ForcedOn us o does v i

-- the first k variables of a frame as steps of a path, the outermost first
abbrev pub number_of : Binding → ℕ
number_of (Candidate i) = i
number_of (Parameter k) = k

abbrev pub steps_of : ℕ → Bindings → List Step
steps_of zero ds = []
steps_of (suc k) ds = Step.n (number_of (bound_to ds k)) ∷ steps_of k ds

-- a path of numbers in the room, from a word on
abbrev pub PathIn : List ℕ → ℕ → List Step → Type 0
PathIn room at [] = Unit {0}
PathIn room at (Step.l ∷ path) = ⊥
PathIn room at (Step.r ∷ path) = ⊥
PathIn room at (Step.n i ∷ path) = (get_or room at 0 ≡ binding_word (Candidate i)) × PathIn room (at + 1) path

-- the numbers of the first completion of a frame, in the room: e is what stands inside the `own` quantifiers of a clause
pub record Located (us : List Term) (left : ℕ) (o : List Plain) (c : Hand Plain) (bs : Bindings) (a : Atom) (own : ℕ) (e : Clause Plain) (bs' : Bindings) (room : List ℕ) (at : ℕ) : Type 0 where
  pub settled : Bindings
  pub frame : Bindings
  pub forcing : Forcing us o own (passes us left o c bs a e) bs' settled
  pub first : FirstFrame us o own (passes us left o c bs a e) own settled frame
  pub does : passes us left o c bs a e frame ≡ true
  pub path : PathIn room at (steps_of own frame)
