-- `bind` of src/act.rt meets its contract. Assumes nothing.
use mathlib.Core.Path.{refl}
use Rattle.fof_act.proofs.ActLaws.{bind-same, bind-more, bind-less}
use native.Mathlib.Omega.{arith}
use Rattle.fof_act.proofs.act.bind.Goals as goal

pub returns-in-Nothing : goal.returns-in-Nothing
returns-in-Nothing c = let a = c.args in bind-same a.names.now a.bound a.at c.in-Nothing.is (λ _ _. refl)

pub returns-in-Heads : goal.returns-in-Heads
returns-in-Heads c = let a = c.args in bind-same a.names.now a.bound a.at c.in-Heads.is (λ _ _. refl)

pub returns-in-Implies : goal.returns-in-Implies
returns-in-Implies c = let a = c.args in bind-same a.names.now a.bound a.at c.in-Implies.is (λ _ _. refl)

pub returns-in-Binds : goal.returns-in-Binds
returns-in-Binds c = let a = c.args in bind-more a.names.now c.enter.new.list a.bound a.at c.in-Binds.is c.enter.ensures (λ l. omega (arith, c.saturating_add.ensures))

pub returns-in-Top : goal.returns-in-Top
returns-in-Top c = let a = c.args in bind-same a.names.now a.bound a.at c.in-Top.is (λ _ _. refl)

pub returns-in-Atom : goal.returns-in-Atom
returns-in-Atom c = let a = c.args in bind-same a.names.now a.bound a.at c.in-Atom.is (λ _ _. refl)

pub returns-in-Function : goal.returns-in-Function
returns-in-Function c = let a = c.args in bind-same a.names.now a.bound a.at c.in-Function.is (λ _ _. refl)

pub returns-in-Variable : goal.returns-in-Variable
returns-in-Variable c = let a = c.args in bind-same a.names.now a.bound a.at c.in-Variable.is (λ _ _. refl)

pub returns-in-End : goal.returns-in-End
returns-in-End c = let a = c.args in bind-same a.names.now a.bound a.at c.in-End.is (λ _ _. refl)

pub returns-in-Leaves : goal.returns-in-Leaves
returns-in-Leaves c = let a = c.args in bind-less a.names.now a.bound a.at c.in-Leaves.is c.saturating_sub.ensures
