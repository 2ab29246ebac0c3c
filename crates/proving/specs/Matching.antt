-- The head of a clause beside the atom that is searched, one argument after the other (document 02, Three: the head decides before candidates are tried).
-- An argument decides what the clause's frame is set to, or that nothing completes it, since a frame with which a path ends well makes the head the atom. How two terms are compared is left to crate unset.
use Rattle.std.specs.Prelude.{ℕ, ◌≡◌, Bool, true, false, List}
use Rattle.harrop.specs.Formula.{Term, Atom, Clause}
use Rattle.harrop.specs.Bindings.{Bindings, value_of, replaced, same_term}
use Rattle.harrop.specs.Place.{Hand, Plain}
use Rattle.room.specs.Spot.{bindings_at}
use Rattle.room.specs.Files.{Files}
use Rattle.room.specs.declared.Spot.{Spot}
use Rattle.room.specs.declared.Where.{Where}
use Rattle.equal.specs.Term.{TermAt}
use Rattle.mentions.specs.Open.{is_open, Becomes}
use Rattle.unset.specs.declared.Likeness.{Likeness}
use Rattle.unset.specs.declared.Likeness.TheVariants as L
use Rattle.proving.specs.Stock.{Stock, Keeps}
use Rattle.proving.specs.Proving.{passes}
use Rattle.proving.specs.Filling.{Filling, Settled, floor}
use Rattle.proving.specs.declared.plain.Parts.{Parts}

-- an argument t of the head and one u of the atom, each at a spot of its frame: every frame with which a path ends well makes them the same
pub record Beside (f : Files) (room : List ℕ) (us : List Term) (does : Bindings → Bool) (bs fr : Bindings) (x y : Spot) (t u : Term) : Type 0 where
  pub here : TermAt f x t
  pub there : TermAt f y u
  pub frame : bindings_at room x ≡ fr
  pub around : bindings_at room y ≡ bs
  pub same : (es : Bindings) → does es ≡ true → replaced us es t ≡ replaced us bs u

-- whatever a frame becomes, an argument of the head becomes the atom's
abbrev pub TermIs : List Term → ℕ → Bindings → Term → Term → Bindings → Type 0
TermIs us own bs t u fr = (es : Bindings) → Becomes us own fr es → same_term (replaced us es t) (replaced us bs u) ≡ true

-- what the end of the head says: the atom ends there as well or does not, and all arguments are known to be the same or not
abbrev pub at_end : Bool → Bool → Likeness
at_end false sure = L.Never
at_end true false = L.Open
at_end true true = L.Same

-- what the two decide: the frame is set by them and whatever is said of it then holds of the frame before, or nothing completes it
abbrev pub Matching : Files → List ℕ → List ℕ → Where → Parts → Spot → Spot → Likeness → Type 0
Matching f room after w p x y r =
    (ds : List (Clause Plain)) (us : List Term) (left : ℕ) (o : List Plain) (c : Hand Plain) (bs : Bindings) (a : Atom) (e : Clause Plain) (fr : Bindings) (t u : Term) →
    Filling f room ds us w p left o c bs a e fr → Beside f room us (passes us left o c bs a e) bs fr x y t u →
    Keeps (Stock f ds us w.supposed c) w.supposed (floor p) room after × Settled f after ds us w p left o c bs a e fr (TermIs us p.own bs t u) r

-- the same where the head's is variable v, which is unset
abbrev pub MatchingVariable : Files → List ℕ → List ℕ → Where → Parts → ℕ → Spot → Likeness → Type 0
MatchingVariable f room after w p v y r =
    (ds : List (Clause Plain)) (us : List Term) (left : ℕ) (o : List Plain) (c : Hand Plain) (bs : Bindings) (a : Atom) (e : Clause Plain) (fr : Bindings) (u : Term) →
    Filling f room ds us w p left o c bs a e fr → is_open p.own fr v ≡ true → TermAt f y u → bindings_at room y ≡ bs → ((es : Bindings) → passes us left o c bs a e es ≡ true → value_of us es v ≡ replaced us bs u) →
    Keeps (Stock f ds us w.supposed c) w.supposed (floor p) room after × Settled f after ds us w p left o c bs a e fr (TermIs us p.own bs (Term.v v) u) r
