-- `write` of src/act.rt meets its contract. Assumes nothing.
use mathlib.Core.Path.{refl}
use Rattle.basics.specs.Text.{octets}
use Rattle.fof_pass.proofs.InkLaws.{inks-none}
use Rattle.fof_act.proofs.ActLaws.{write-plain, write-named, write-variable}
use Rattle.fof_act.proofs.act.write.Goals as goal

pub returns-in-Nothing : goal.returns-in-Nothing
returns-in-Nothing c = let a = c.args in write-plain a.text.now a.names.now a.bound a.pen a.a c.in-Nothing.is (λ _ _. refl) (inks-none a.pen a.buf.now) c.done.ensures

pub returns-in-Heads : goal.returns-in-Heads
returns-in-Heads c = let a = c.args in write-plain a.text.now a.names.now a.bound a.pen a.a c.in-Heads.is (λ _ _. refl) c.links.ensures c.done-in-Heads.ensures

pub returns-in-Implies : goal.returns-in-Implies
returns-in-Implies c = let a = c.args in write-plain a.text.now a.names.now a.bound a.pen a.a c.in-Implies.is (λ _ _. refl) c.head.ensures c.done-in-Implies.ensures

pub returns-in-Binds : goal.returns-in-Binds
returns-in-Binds c = let a = c.args in write-plain a.text.now a.names.now a.bound a.pen a.a c.in-Binds.is (λ _ _. refl) c.quantifier.ensures c.done-in-Binds.ensures

pub returns-in-Top : goal.returns-in-Top
returns-in-Top c = let a = c.args in write-plain a.text.now a.names.now a.bound a.pen a.a c.in-Top.is (λ _ _. refl) c.top_written.ensures c.done-in-Top.ensures

pub returns-in-Atom : goal.returns-in-Atom
returns-in-Atom c = let a = c.args in write-named a.text.now a.names.now a.bound a.pen a.a (octets "atom") c.in-Atom.is (λ _ _. refl) (λ _ _ z. z) c.named.auto.buf c.named.ensures

pub returns-in-Function : goal.returns-in-Function
returns-in-Function c = let a = c.args in write-named a.text.now a.names.now a.bound a.pen a.a (octets "f") c.in-Function.is (λ _ _. refl) (λ _ _ z. z) c.named-in-Function.auto.buf c.named-in-Function.ensures

pub returns-in-Variable : goal.returns-in-Variable
returns-in-Variable c = let a = c.args in write-variable a.text.now a.names.now a.bound a.pen a.a c.in-Variable.is c.variable.auto.buf c.variable.ensures

pub returns-in-End : goal.returns-in-End
returns-in-End c = let a = c.args in write-plain a.text.now a.names.now a.bound a.pen a.a c.in-End.is (λ _ _. refl) c.end.ensures c.done-in-End.ensures

pub returns-in-Leaves : goal.returns-in-Leaves
returns-in-Leaves c = let a = c.args in write-plain a.text.now a.names.now a.bound a.pen a.a c.in-Leaves.is (λ _ _. refl) c.end-in-Leaves.ensures c.done-in-Leaves.ensures
