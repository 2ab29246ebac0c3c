-- The variables of a clause that are set before its body narrows another (document 02, Three: no verdict and no strip changes). Where its head has a variable of its own beside an argument of the atom that is a candidate's term, whatever the atom's frame becomes, that variable is the candidate in every frame that makes the head the atom.
use Rattle.std.specs.Prelude.{ℕ, ◌≡◌, true, List, drop}
use Rattle.harrop.specs.Formula.{Term, Terms, Atom, Clause}
use Rattle.harrop.specs.Bindings.{Bindings, replaced, replaceds, replaced_atom}
use Rattle.harrop.specs.Place.{Hand, Plain}
use Rattle.room.specs.Spot.{bindings_at}
use Rattle.room.specs.Files.{Files}
use Rattle.room.specs.declared.Spot.{Spot}
use Rattle.room.specs.declared.Where.{Where}
use Rattle.equal.specs.Term.{TermAt}
use Rattle.heads.specs.Predicate.{bytes_at}
use Rattle.mentions.specs.Open.{Becomes}
use Rattle.unset.specs.Head.{Row}
use Rattle.arguments.specs.Arguments.{Argument, Arguments, ArgumentsAre}
use Rattle.proving.specs.Stock.{Stock, Keeps}
use Rattle.proving.specs.Parts.{head_of}
use Rattle.proving.specs.Filling.{Filling, floor}
use Rattle.proving.specs.declared.plain.Parts.{Parts}

-- what the clause's frame is set to: a frame of the clause that is alike to one that the atom's becomes is one that it still becomes
pub record SetBy (f : Files) (room after : List ℕ) (ds : List (Clause Plain)) (us : List Term) (w : Where) (p : Parts) (left : ℕ) (o : List Plain) (c : Hand Plain) (bs : Bindings) (a : Atom) (e : Clause Plain) (fr : Bindings) (own : ℕ) (alike : Bindings → Bindings → Type 0) : Type 0 where
  pub kept : Keeps (Stock f ds us w.supposed c) w.supposed (floor p) room after
  pub frame : Bindings
  pub filling : Filling f after ds us w p left o c bs a e frame
  pub follows : (es gs : Bindings) → Becomes us own bs es → alike es gs → Becomes us p.own fr gs → Becomes us p.own frame gs

-- by an argument of the head at a spot, beside one of the atom with a number
abbrev pub SetsOne : Files → List ℕ → List ℕ → Parts → Spot → ℕ → Type 0
SetsOne f room after p x n =
    (ds : List (Clause Plain)) (us : List Term) (w : Where) (left : ℕ) (o : List Plain) (c : Hand Plain) (bs : Bindings) (a : Atom) (e : Clause Plain) (fr : Bindings) (own v : ℕ) (t u : Term) →
    Filling f room ds us w p left o c bs a e fr → TermAt f x t → bindings_at room x ≡ fr → Argument us own bs v u n →
    SetBy f room after ds us w p left o c bs a e fr own (λ es gs. replaced us gs t ≡ replaced us es u)

-- by those from an offset on, beside as many with a word
abbrev pub SetsFrom : Files → List ℕ → List ℕ → Parts → ℕ → ℕ → Type 0
SetsFrom f room after p i asked =
    (ds : List (Clause Plain)) (us : List Term) (w : Where) (left : ℕ) (o : List Plain) (c : Hand Plain) (bs : Bindings) (a : Atom) (e : Clause Plain) (fr : Bindings) (own v : ℕ) (ts ws : Terms) →
    Filling f room ds us w p left o c bs a e fr → Row p.head.count (drop p.head.at (bytes_at f p.head)) i ts → Arguments us own bs v ws asked →
    SetBy f room after ds us w p left o c bs a e fr own (λ es gs. replaceds us gs ts ≡ replaceds us es ws)

-- by the whole head
abbrev pub SetsBeside : Files → List ℕ → List ℕ → Parts → ℕ → Type 0
SetsBeside f room after p asked =
    (ds : List (Clause Plain)) (us : List Term) (w : Where) (left : ℕ) (o : List Plain) (c : Hand Plain) (bs : Bindings) (a : Atom) (e : Clause Plain) (fr : Bindings) (own v : ℕ) →
    Filling f room ds us w p left o c bs a e fr → p.headed ≡ true → ArgumentsAre us own bs v a asked →
    SetBy f room after ds us w p left o c bs a e fr own (λ es gs. replaced_atom us gs (head_of e) ≡ replaced_atom us es a)
