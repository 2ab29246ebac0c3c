-- One file: 1, the carrier's 2 and 3, and then the others.
use mathlib.Core.Path.{◌∙◌}
use Rattle.reader.proofs.JudgedLaws.{file-long, file-fault, file-deep, file-sound}
use Rattle.reader.proofs.files.judge_file.Goals as goal

pub returns-then-s-gt-MOST_BYTES : goal.returns-then-s-gt-MOST_BYTES
returns-then-s-gt-MOST_BYTES c = c.at_fault.ensures ∙ file-long c.args.kind c.args.s.now c.if-s-gt-MOST_BYTES.true

pub returns-in-Fault : goal.returns-in-Fault
returns-in-Fault c = c.at_fault-in-Fault.ensures ∙ file-fault c.args.kind c.args.s.now c.if-s-gt-MOST_BYTES.false c.canonical.result c.in-Fault.is c.canonical.ensures

pub returns-in-Deep : goal.returns-in-Deep
returns-in-Deep c = c.at_fault-in-Deep.ensures ∙ file-deep c.args.kind c.args.s.now c.if-s-gt-MOST_BYTES.false c.canonical.result c.in-Deep.is c.canonical.ensures

pub returns-in-Sound : goal.returns-in-Sound
returns-in-Sound c = file-sound c.args.kind c.args.s.now c.if-s-gt-MOST_BYTES.false c.canonical.result c.in-Sound.is c.canonical.ensures c.judge_words.result c.judge_words.ensures
