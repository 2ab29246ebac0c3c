-- The word of a goal and of a clause, and what a goal or a clause with a word is (document 01, the table of words).
use Rattle.std.specs.Prelude.{◌≡◌}
use Rattle.harrop.specs.Formula.{Atom, Goal, Clause}
use Rattle.harrop.specs.Place.{Plain}
use Rattle.packet.specs.declared.Word.{Word}
use Rattle.packet.specs.declared.Word.TheVariants as W

unfoldable pub goal_word : Goal Plain → Word
goal_word Goal.top = W.Top
goal_word (Goal.atom a) = W.Atom
goal_word (Goal.and g h) = W.And
goal_word (Goal.or g h) = W.Or
goal_word (Goal.some q g) = W.Some
goal_word (Goal.all q g) = W.All
goal_word (Goal.imp d g) = W.Imp

unfoldable pub clause_word : Clause Plain → Word
clause_word (Clause.atom_d a) = W.Atom
clause_word (Clause.imp_d g a) = W.Imp
clause_word (Clause.all_d q d) = W.All
clause_word (Clause.and_d c d) = W.And

abbrev pub GoalShape : Word → Goal Plain → Type 0
GoalShape W.V g = ⊥
GoalShape W.F g = ⊥
GoalShape W.E g = ⊥
GoalShape W.Atom g = (a : Atom) × (g ≡ Goal.atom a)
GoalShape W.Top g = g ≡ Goal.top
GoalShape W.And g = (x : Goal Plain) × (y : Goal Plain) × (g ≡ Goal.and x y)
GoalShape W.Or g = (x : Goal Plain) × (y : Goal Plain) × (g ≡ Goal.or x y)
GoalShape W.Some g = (q : Plain) × (x : Goal Plain) × (g ≡ Goal.some q x)
GoalShape W.All g = (q : Plain) × (x : Goal Plain) × (g ≡ Goal.all q x)
GoalShape W.Imp g = (d : Clause Plain) × (x : Goal Plain) × (g ≡ Goal.imp d x)
GoalShape W.Left g = ⊥
GoalShape W.Right g = ⊥
GoalShape W.Use g = ⊥
GoalShape W.Rules g = ⊥
GoalShape W.Terms g = ⊥
GoalShape W.Nothing g = ⊥

abbrev pub ClauseShape : Word → Clause Plain → Type 0
ClauseShape W.V d = ⊥
ClauseShape W.F d = ⊥
ClauseShape W.E d = ⊥
ClauseShape W.Atom d = (a : Atom) × (d ≡ Clause.atom_d a)
ClauseShape W.Top d = ⊥
ClauseShape W.And d = (x : Clause Plain) × (y : Clause Plain) × (d ≡ Clause.and_d x y)
ClauseShape W.Or d = ⊥
ClauseShape W.Some d = ⊥
ClauseShape W.All d = (q : Plain) × (x : Clause Plain) × (d ≡ Clause.all_d q x)
ClauseShape W.Imp d = (g : Goal Plain) × (a : Atom) × (d ≡ Clause.imp_d g a)
ClauseShape W.Left d = ⊥
ClauseShape W.Right d = ⊥
ClauseShape W.Use d = ⊥
ClauseShape W.Rules d = ⊥
ClauseShape W.Terms d = ⊥
ClauseShape W.Nothing d = ⊥
