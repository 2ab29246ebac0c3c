-- The arguments of an atom by the numbers of candidates, in one word (document 02, Three: no verdict and no strip changes): ten bits for each argument, the first lowest. What is said of an argument holds whatever the frame becomes in which some variables are not set yet.
-- An atom with more than three arguments has no word. Which atoms a search compares so is said in crate narrow.
use Rattle.std.specs.Prelude.{ℕ, ◌-◌, ◌/◌, ◌%◌, ◌<◌, ◌≡◌, true, false, List, Option, Some, None, length, drop}
use Rattle.harrop.specs.declared.Binding.TheVariants.{Candidate}
use Rattle.harrop.specs.Formula.{Term, Terms, Atom}
use Rattle.harrop.specs.Bindings.{Bindings, meant, value_of, replaced, replaceds}
use Rattle.room.specs.Spot.{bindings_at}
use Rattle.room.specs.Table.{CandidatesIn}
use Rattle.room.specs.Files.{Files}
use Rattle.room.specs.declared.Spot.{Spot}
use Rattle.equal.specs.Term.{TermAt, AtomAt}
use Rattle.packet.specs.Barred.{term_ok}
use Rattle.heads.specs.Predicate.{bytes_at}
use Rattle.mentions.specs.Open.{Becomes}
use Rattle.keys.specs.Keys.{CandidateKeys}
use Rattle.unset.specs.Unset.{Small}
use Rattle.unset.specs.Head.{CandidateOf, Row}
use Rattle.unset.specs.declared.Forced.{Forced}
use Rattle.unset.specs.declared.Forced.TheVariants as F

-- the number of an argument: 1021 for variable v, one more than the lowest candidate that is the term, 1023 where no candidate is; 1022 says nothing
pub record Argument (us : List Term) (own : ℕ) (bs : Bindings) (v : ℕ) (t : Term) (n : ℕ) : Type 0 where
  pub number : 0 < n
  pub small : n < 1024
  pub variable : n ≡ 1021 → t ≡ Term.v v
  pub candidate : n < 1021 → (es : Bindings) → Becomes us own bs es → CandidateOf us (replaced us es t) (Some (n - 1))
  pub none : n ≡ 1023 → (es : Bindings) → Becomes us own bs es → CandidateOf us (replaced us es t) None

-- the word of arguments
abbrev pub Arguments : List Term → ℕ → Bindings → ℕ → Terms → ℕ → Type 0
Arguments us own bs v Terms.nil w = w ≡ 0
Arguments us own bs v (Terms.cons t ts) w = Argument us own bs v t (w % 1024) × Arguments us own bs v ts (w / 1024)

abbrev pub arguments_of : Atom → Terms
arguments_of (Atom.atom n ts) = ts

-- the word of an atom's arguments; 0 says nothing
abbrev pub ArgumentsAre : List Term → ℕ → Bindings → ℕ → Atom → ℕ → Type 0
ArgumentsAre us own bs v a w = (w ≡ 0 → ⊥) → Arguments us own bs v (arguments_of a) w

-- the answer is the number of the term at a spot
abbrev pub NumberAt : Files → List ℕ → Spot → ℕ → ℕ → ℕ → Type 0
NumberAt f room x own v r =
    (us : List Term) (t : Term) → Small f → CandidatesIn room f.terms us → CandidateKeys room us → TermAt f x t → term_ok false x.count t ≡ true → Argument us own (bindings_at room x) v t r

-- the word of the arguments of the atom at a spot from an offset on, or none
abbrev pub ArgumentsFrom : Files → List ℕ → Spot → ℕ → ℕ → ℕ → Option ℕ → Type 0
ArgumentsFrom f room x p own v None = Unit {0}
ArgumentsFrom f room x p own v (Some w) =
    (us : List Term) (ts : Terms) → Small f → CandidatesIn room f.terms us → CandidateKeys room us → Row x.count (drop x.at (bytes_at f x)) p ts → Arguments us own (bindings_at room x) v ts w

-- the word of the atom at a spot
abbrev pub ArgumentsAt : Files → List ℕ → Spot → ℕ → ℕ → ℕ → Type 0
ArgumentsAt f room x own v r =
    (us : List Term) (a : Atom) → Small f → CandidatesIn room f.terms us → CandidateKeys room us → AtomAt f x a → ArgumentsAre us own (bindings_at room x) v a r

-- what is told of a frame that makes two atoms' arguments the same: nothing, the lowest candidate that variable v is, or that there is no such frame
abbrev pub Told : List Term → Bindings → ℕ → Forced → Type 0
Told us es v F.Nothing = Unit {0}
Told us es v (F.Candidate c) = CandidateOf us (value_of us es v) (Some c)
Told us es v F.Never = ⊥

-- two frames that some others become, of which the first gives a candidate's term to variable v
pub record Frames (us : List Term) (own own' : ℕ) (bs bs' : Bindings) (v : ℕ) (es es' : Bindings) : Type 0 where
  pub one : Becomes us own bs es
  pub two : Becomes us own' bs' es'
  pub candidate : ℕ
  pub few : candidate < length us
  pub value : value_of us es v ≡ meant us (Candidate candidate)

-- by one argument of each, and by the words of all
abbrev pub Beside : ℕ → ℕ → Forced → Type 0
Beside a b r =
    (us : List Term) (own own' : ℕ) (bs bs' : Bindings) (v v' : ℕ) (es es' : Bindings) → Frames us own own' bs bs' v es es' →
    (t u : Term) → Argument us own bs v t a → Argument us own' bs' v' u b → replaced us es t ≡ replaced us es' u → Told us es v r

abbrev pub Between : ℕ → ℕ → Forced → Type 0
Between a b r =
    (us : List Term) (own own' : ℕ) (bs bs' : Bindings) (v v' : ℕ) (es es' : Bindings) → Frames us own own' bs bs' v es es' →
    (ts ws : Terms) → Arguments us own bs v ts a → Arguments us own' bs' v' ws b → replaceds us es ts ≡ replaceds us es' ws → Told us es v r
