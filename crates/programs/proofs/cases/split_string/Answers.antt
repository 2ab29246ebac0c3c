-- `split_string` (src/cases.rt): a string that a file begins with takes something of it.
use Rattle.std.proofs.Common.{length-drop, arith}
use Rattle.programs.proofs.StringLaws.{string-ends-on}
use Rattle.programs.proofs.cases.split_string.Goals as goal

pub returns-clause-shorter : goal.returns-clause-shorter
returns-clause-shorter c h =
    let k = string-ends-on c.string-from.ensures.string_at h in
    let b = c.string-from.ensures.s_bound in
    omega (arith, length-drop c.string-from.result.to c.args.s.now)
