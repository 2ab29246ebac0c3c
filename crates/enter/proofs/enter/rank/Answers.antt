-- `rank` meets its contract.
use mathlib.Core.Path.{sym, ap}
use Rattle.packet.specs.Table.{rank}
use Rattle.enter.proofs.enter.rank.Goals as goal

pub returns-in-V : goal.returns-in-V
unfolding rank
returns-in-V c = sym (ap rank c.in-V.is)

pub returns-in-F : goal.returns-in-F
unfolding rank
returns-in-F c = sym (ap rank c.in-F.is)

pub returns-in-E : goal.returns-in-E
unfolding rank
returns-in-E c = sym (ap rank c.in-E.is)

pub returns-in-Atom : goal.returns-in-Atom
unfolding rank
returns-in-Atom c = sym (ap rank c.in-Atom.is)

pub returns-in-Top : goal.returns-in-Top
unfolding rank
returns-in-Top c = sym (ap rank c.in-Top.is)

pub returns-in-And : goal.returns-in-And
unfolding rank
returns-in-And c = sym (ap rank c.in-And.is)

pub returns-in-Or : goal.returns-in-Or
unfolding rank
returns-in-Or c = sym (ap rank c.in-Or.is)

pub returns-in-Some : goal.returns-in-Some
unfolding rank
returns-in-Some c = sym (ap rank c.in-Some.is)

pub returns-in-All : goal.returns-in-All
unfolding rank
returns-in-All c = sym (ap rank c.in-All.is)

pub returns-in-Imp : goal.returns-in-Imp
unfolding rank
returns-in-Imp c = sym (ap rank c.in-Imp.is)

pub returns-in-Left : goal.returns-in-Left
unfolding rank
returns-in-Left c = sym (ap rank c.in-Left.is)

pub returns-in-Right : goal.returns-in-Right
unfolding rank
returns-in-Right c = sym (ap rank c.in-Right.is)

pub returns-in-Use : goal.returns-in-Use
unfolding rank
returns-in-Use c = sym (ap rank c.in-Use.is)

pub returns-in-Rules : goal.returns-in-Rules
unfolding rank
returns-in-Rules c = sym (ap rank c.in-Rules.is)

pub returns-in-Terms : goal.returns-in-Terms
unfolding rank
returns-in-Terms c = sym (ap rank c.in-Terms.is)

pub returns-in-Nothing : goal.returns-in-Nothing
unfolding rank
returns-in-Nothing c = sym (ap rank c.in-Nothing.is)
