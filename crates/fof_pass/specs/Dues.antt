-- The stack of what is due: that its entries below a height are certain dues, the next one on top.
use Rattle.std.specs.Prelude.{ℕ, suc, ◌<◌, ◌≤◌, ◌≡◌, Bool, true, false, List, [], ◌∷◌, ◌++◌, length, get_or}
use Rattle.fof_part.specs.Due as part
use Rattle.fof_part.specs.Due.{Link, Quantifier}
use Rattle.fof_pass.specs.declared.dues.Sort.{Sort}
use Rattle.fof_pass.specs.declared.dues.Sort.TheVariants as S
use Rattle.fof_pass.specs.declared.dues.Due.{Due}
use Rattle.fof_pass.specs.declared.dues.Due.TheVariants as D

abbrev pub sort_is : Sort → part.Sort
sort_is S.Goal = part.Sort.goal
sort_is S.Clause = part.Sort.clause
sort_is S.Head = part.Sort.head

abbrev pub link_is : Bool → Link
link_is true = Link.conj
link_is false = Link.disj

abbrev pub quantifier_is : Bool → Quantifier
quantifier_is true = Quantifier.for_all
quantifier_is false = Quantifier.exists

-- the due that is meant, or none
abbrev pub meant : Due ℕ → List part.Due
meant D.Nothing = []
meant (D.Formula s) = part.Due.formula (sort_is s) ∷ []
meant (D.Unit s) = part.Due.unit (sort_is s) ∷ []
meant (D.More c s n) = part.Due.more (link_is c) (sort_is s) n ∷ []
meant D.Arrow = part.Due.arrow ∷ []
meant D.Close = part.Due.close ∷ []
meant (D.List e s) = part.Due.list (quantifier_is e) (sort_is s) ∷ []
meant (D.Variable e s) = part.Due.variable (quantifier_is e) (sort_is s) ∷ []
meant (D.Behind e s) = part.Due.behind (quantifier_is e) (sort_is s) ∷ []
meant (D.Over s) = part.Due.over (sort_is s) ∷ []
meant D.Arguments = part.Due.arguments ∷ []
meant D.Term = part.Due.term ∷ []
meant D.Terms = part.Due.terms ∷ []
meant D.Shut = part.Due.shut ∷ []
meant D.Leave = part.Due.leave ∷ []

-- its number, if it has one, is no more than a text has bytes
abbrev pub Few : Due ℕ → Type 0
Few D.Nothing = Unit {0}
Few (D.Formula s) = Unit {0}
Few (D.Unit s) = Unit {0}
Few (D.More c s n) = n < 16385
Few D.Arrow = Unit {0}
Few D.Close = Unit {0}
Few (D.List e s) = Unit {0}
Few (D.Variable e s) = Unit {0}
Few (D.Behind e s) = Unit {0}
Few (D.Over s) = Unit {0}
Few D.Arguments = Unit {0}
Few D.Term = Unit {0}
Few D.Terms = Unit {0}
Few D.Shut = Unit {0}
Few D.Leave = Unit {0}

-- a list of dues, of which those below a height count
abbrev pub Stack : Type 0
Stack = List (Due ℕ)

-- those below this height are these dues, the first on top
abbrev pub Held : Stack → ℕ → List part.Due → Type 0
Held st top [] = top ≡ 0
Held st top (d ∷ ds) = (n : ℕ) × (top ≡ suc n) × (meant (get_or st n D.Nothing) ≡ d ∷ []) × Few (get_or st n D.Nothing) × Held st n ds

-- one due more, where there is room for it
pub record Pushes (d : Due ℕ) (st st' : Stack) (top next : ℕ) : Type 0 where
  pub held : top < 98400 → top < length st → Few d → (ds : List part.Due) → Held st top ds → Held st' next (meant d ++ ds)
  pub long : length st' ≡ length st
  pub high : next ≤ suc top
