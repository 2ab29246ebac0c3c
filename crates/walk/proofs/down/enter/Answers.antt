-- `enter` meets its contract.
use Rattle.packet.specs.declared.Word.TheVariants as W
use Rattle.enter.proofs.EnterLaws.{node-word, no_node}
use Rattle.walk.proofs.down.enter.Goals as goal

pub returns-in-Top : goal.returns-in-Top
returns-in-Top c = λ ds us P o h bs g x. c.enter_top.ensures c.args.strip.now c.args.room.now c.args.nest ds us P o h bs g (node-word W.Top x c.plus.ensures c.word_at.ensures c.in-Top.is) x

pub returns-in-And : goal.returns-in-And
returns-in-And c = λ ds us P o h bs g x. c.enter_and.ensures c.args.strip.now c.args.room.now c.args.nest ds us P o h bs g (node-word W.And x c.plus.ensures c.word_at.ensures c.in-And.is) x

pub returns-in-Some : goal.returns-in-Some
returns-in-Some c = λ ds us P o h bs g x. c.enter_some.ensures c.args.nest ds us P o h bs g (node-word W.Some x c.plus.ensures c.word_at.ensures c.in-Some.is) x

pub returns-in-All : goal.returns-in-All
returns-in-All c = λ ds us P o h bs g x. c.enter_all.ensures c.args.strip.now c.args.nest ds us P o h bs g (node-word W.All x c.plus.ensures c.word_at.ensures c.in-All.is) x

pub returns-in-Imp : goal.returns-in-Imp
returns-in-Imp c = λ ds us P o h bs g x. c.enter_imp.ensures c.args.strip.now c.args.nest ds us P o h bs g (node-word W.Imp x c.plus.ensures c.word_at.ensures c.in-Imp.is) x

pub returns-in-Left : goal.returns-in-Left
returns-in-Left c = λ ds us P o h bs g x. c.enter_left.ensures c.args.strip.now c.args.room.now c.args.nest ds us P o h bs g (node-word W.Left x c.plus.ensures c.word_at.ensures c.in-Left.is) x

pub returns-in-Right : goal.returns-in-Right
returns-in-Right c = λ ds us P o h bs g x. c.enter_right.ensures c.args.strip.now c.args.room.now c.args.nest ds us P o h bs g (node-word W.Right x c.plus.ensures c.word_at.ensures c.in-Right.is) x

pub returns-in-Use : goal.returns-in-Use
returns-in-Use c = λ ds us P o h bs g x. c.enter_use.ensures ds us P o h bs g (node-word W.Use x c.plus.ensures c.word_at.ensures c.in-Use.is) x

pub returns-in_default : goal.returns-in_default
returns-in_default c = λ ds us P o h bs g x. absurd (no_node x c.plus.ensures c.word_at.ensures c.in_default.not-Top c.in_default.not-And c.in_default.not-Some c.in_default.not-All c.in_default.not-Imp c.in_default.not-Left c.in_default.not-Right c.in_default.not-Use)
