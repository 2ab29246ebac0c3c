-- Refusals 6 and 5 of a file whose members are counted.
use Prim.Native.Nat.{ℕ}
use mathlib.Core.Path.{ap, ◌∙◌}
use Rattle.reader.specs.Judged.{bars_judged}
use Rattle.reader.proofs.JudgedLaws.{count-over, count-are}
use Rattle.reader.proofs.files.judge_count.Goals as goal

pub returns-in-Err : goal.returns-in-Err
returns-in-Err c = λ t e h g l. c.at_fault.ensures ∙ count-over c.args.kind t c.args.s.now c.count_from.result c.count_from.ensures e h g l c.in-Err.is

pub returns-in-Ok : goal.returns-in-Ok
returns-in-Ok c = λ t e h g l. count-are c.args.kind t c.args.s.now c.count_from.result c.count_from.ensures e h g l c.in-Ok.is (c.judge_bars.ensures e h g l ∙ ap (λ (x : ℕ). bars_judged c.args.kind x e) c.saturating_sub.ensures)
