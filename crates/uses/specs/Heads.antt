-- The word of a node and of a goal, and what a node or a goal with a word is (document 01, the table of words).
use Rattle.std.specs.Prelude.{ℕ, ◌≡◌, List, ◌⊎◌}
use Rattle.harrop.specs.Formula.{Atom, Goal, Clause, Step, Strip}
use Rattle.harrop.specs.Place.{Plain}
use Rattle.packet.specs.declared.Word.{Word}
use Rattle.packet.specs.declared.Word.TheVariants as W

unfoldable pub strip_word : Strip → Word
strip_word Strip.top = W.Top
strip_word (Strip.and P R) = W.And
strip_word (Strip.left P) = W.Left
strip_word (Strip.right P) = W.Right
strip_word (Strip.some i P) = W.Some
strip_word (Strip.all P) = W.All
strip_word (Strip.imp P) = W.Imp
strip_word (Strip.use₀ k path) = W.Use
strip_word (Strip.use₁ k path P) = W.Use

unfoldable pub goal_word : Goal Plain → Word
goal_word Goal.top = W.Top
goal_word (Goal.atom a) = W.Atom
goal_word (Goal.and g h) = W.And
goal_word (Goal.or g h) = W.Or
goal_word (Goal.some q g) = W.Some
goal_word (Goal.all q g) = W.All
goal_word (Goal.imp d g) = W.Imp

abbrev pub NodeShape : Word → Strip → Type 0
NodeShape W.V P = ⊥
NodeShape W.F P = ⊥
NodeShape W.E P = ⊥
NodeShape W.Atom P = ⊥
NodeShape W.Top P = P ≡ Strip.top
NodeShape W.And P = (X : Strip) × (Y : Strip) × (P ≡ Strip.and X Y)
NodeShape W.Or P = ⊥
NodeShape W.Some P = (i : ℕ) × (X : Strip) × (P ≡ Strip.some i X)
NodeShape W.All P = (X : Strip) × (P ≡ Strip.all X)
NodeShape W.Imp P = (X : Strip) × (P ≡ Strip.imp X)
NodeShape W.Left P = (X : Strip) × (P ≡ Strip.left X)
NodeShape W.Right P = (X : Strip) × (P ≡ Strip.right X)
NodeShape W.Use P = ((k : ℕ) × (path : List Step) × (P ≡ Strip.use₀ k path)) ⊎ ((k : ℕ) × (path : List Step) × (X : Strip) × (P ≡ Strip.use₁ k path X))
NodeShape W.Rules P = ⊥
NodeShape W.Terms P = ⊥
NodeShape W.Nothing P = ⊥

abbrev pub GoalShape : Word → Goal Plain → Type 0
GoalShape W.V g = ⊥
GoalShape W.F g = ⊥
GoalShape W.E g = ⊥
GoalShape W.Atom g = (a : Atom) × (g ≡ Goal.atom a)
GoalShape W.Top g = g ≡ Goal.top
GoalShape W.And g = (x : Goal Plain) × (y : Goal Plain) × (g ≡ Goal.and x y)
GoalShape W.Or g = (x : Goal Plain) × (y : Goal Plain) × (g ≡ Goal.or x y)
GoalShape W.Some g = (q : Plain) × (x : Goal Plain) × (g ≡ Goal.some q x)
GoalShape W.All g = (q : Plain) × (x : Goal Plain) × (g ≡ Goal.all q x)
GoalShape W.Imp g = (d : Clause Plain) × (x : Goal Plain) × (g ≡ Goal.imp d x)
GoalShape W.Left g = ⊥
GoalShape W.Right g = ⊥
GoalShape W.Use g = ⊥
GoalShape W.Rules g = ⊥
GoalShape W.Terms g = ⊥
GoalShape W.Nothing g = ⊥
