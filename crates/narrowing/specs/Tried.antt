-- Which candidates a variable need be tried with where it is in the body of a clause (document 02, Three: no verdict and no strip changes). A goal in a frame where some variables are not set yet is given a mark for each candidate.
-- With a candidate that is left out the goal has no proof within the height, whatever the frame becomes. Crate narrow says of one clause by its heads that it does not serve an atom; here a clause may also fail to serve because its body has no proof.
use Rattle.std.specs.Prelude.{ℕ, suc, ◌+◌, ◌≡◌, Bool, true, false, List}
use Rattle.std.proofs.Math.Option.{some}
use Rattle.std.proofs.Math.ListN.{get_elem?}
use Rattle.harrop.specs.declared.Binding.TheVariants.{Candidate}
use Rattle.harrop.specs.Formula.{Term, Atom, Goal, Clause}
use Rattle.harrop.specs.Bindings.{Bindings, meant, value_of}
use Rattle.harrop.specs.Place.{AtHand, Hand, Plain, listed}
use Rattle.packet.specs.declared.Word.{Word}
use Rattle.room.specs.Files.{Files}
use Rattle.room.specs.declared.Where.{Where}
use Rattle.heads.specs.Heads.{goal_word}
use Rattle.mentions.specs.Open.{is_open, Becomes}
use Rattle.keys.specs.Keys.{PredicateKeyAt}
use Rattle.arguments.specs.Arguments.{ArgumentsAre}
use Rattle.narrow.specs.Narrow.{LeftOut}
use Rattle.proving.specs.Provable as provable
use Rattle.proving.specs.Stock.{Stock, Keeps}
use Rattle.proving.specs.Proving.{Ready, passes}
use Rattle.proving.specs.Frames.{set_to, Completes}
use Rattle.proving.specs.Filling.{Filling}
use Rattle.proving.specs.declared.plain.Parts.{Parts}

-- what a frame becomes that gives a candidate which the marks leave out to variable v
pub record Given (us : List Term) (own v : ℕ) (marks : List ℕ) (i : ℕ) (bs es : Bindings) : Type 0 where
  pub left : LeftOut us marks i
  pub becomes : Becomes us own bs es
  pub value : value_of us es v ≡ meant us (Candidate i)

-- then a goal has no proof, and a clause does not serve an atom
abbrev pub Lacks : List Term → ℕ → List Plain → Hand Plain → ℕ → ℕ → List ℕ → Bindings → Goal Plain → Type 0
Lacks us height o c own v marks bs g = (i : ℕ) (es : Bindings) → Given us own v marks i bs es → provable.provable (listed us) height o c es g ≡ false

abbrev pub ServesNot : List Term → ℕ → List Plain → Hand Plain → ℕ → ℕ → List ℕ → Bindings → Atom → AtHand Plain → Type 0
ServesNot us left o c own v marks bs a h = (i : ℕ) (es : Bindings) → Given us own v marks i bs es → passes us left o c es a h.clause h.bindings ≡ false

-- a yes says something, and what is relied on is kept
pub record Narrows (right : List ℕ → Type 0) (supposed top : ℕ) (room after : List ℕ) (r : Bool) (says : Type 0) : Type 0 where
  pub kept : Keeps right supposed top room after
  pub told : r ≡ true → says

-- of the goal of a place
abbrev pub NarrowsGoal : Files → List ℕ → List ℕ → Where → ℕ → ℕ → ℕ → List ℕ → Bool → Type 0
NarrowsGoal f room after w own v height marks r =
    (ds : List (Clause Plain)) (us : List Term) (o : List Plain) (c : Hand Plain) (bs : Bindings) (g : Goal Plain) →
    Ready f room ds us w height o c bs g →
    Narrows (Stock f ds us w.supposed c) w.supposed w.top room after r (Lacks us height o c own v marks bs g)

-- of one with a word, where so much is left for its parts
abbrev pub NarrowsAs : Word → Files → List ℕ → List ℕ → Where → ℕ → ℕ → ℕ → List ℕ → Bool → Type 0
NarrowsAs word f room after w own v left marks r =
    (ds : List (Clause Plain)) (us : List Term) (o : List Plain) (c : Hand Plain) (bs : Bindings) (g : Goal Plain) →
    goal_word g ≡ word →
    Ready f room ds us w (suc left) o c bs g →
    Narrows (Stock f ds us w.supposed c) w.supposed w.top room after r (Lacks us (suc left) o c own v marks bs g)

-- of clause k for an atom, where the word of its arguments is known
abbrev pub NarrowsBy : Files → List ℕ → List ℕ → Where → ℕ → ℕ → ℕ → ℕ → ℕ → List ℕ → Bool → Type 0
NarrowsBy f room after w own v asked k left marks r =
    (ds : List (Clause Plain)) (us : List Term) (o : List Plain) (c : Hand Plain) (bs : Bindings) (a : Atom) →
    Ready f room ds us w (suc left) o c bs (Goal.atom a) → ArgumentsAre us own bs v a asked →
    Narrows (Stock f ds us w.supposed c) w.supposed w.top room after r ((h : AtHand Plain) → get_elem? c k ≡ some h → ServesNot us left o c own v marks bs a h)

-- the same where the number of the atom's predicate is known too
abbrev pub NarrowsKnown : Files → List ℕ → List ℕ → Where → ℕ → ℕ → ℕ → ℕ → ℕ → ℕ → List ℕ → Bool → Type 0
NarrowsKnown f room after w own v predicate asked k left marks r = PredicateKeyAt f w.goal predicate → NarrowsBy f room after w own v asked k left marks r

-- of the body of a clause: with a candidate left out no path through the clause ends well
abbrev pub Skips : List Term → ℕ → List Plain → Hand Plain → Bindings → Atom → Clause Plain → ℕ → ℕ → List ℕ → Bindings → Type 0
Skips us left o c bs a e own v marks fr = (i : ℕ) → LeftOut us marks i → (es : Bindings) → Completes us o own (set_to v (Candidate i) fr) es → passes us left o c bs a e es ≡ false

abbrev pub NarrowsBody : Files → List ℕ → List ℕ → Where → Parts → ℕ → ℕ → List ℕ → Bool → Type 0
NarrowsBody f room after w p v left marks r =
    (ds : List (Clause Plain)) (us : List Term) (o : List Plain) (c : Hand Plain) (bs : Bindings) (a : Atom) (e : Clause Plain) (fr : Bindings) →
    Filling f room ds us w p left o c bs a e fr → is_open p.own fr v ≡ true →
    Narrows (Stock f ds us w.supposed c) w.supposed (p.head.base + p.head.count) room after r (Skips us left o c bs a e p.own v marks fr)
