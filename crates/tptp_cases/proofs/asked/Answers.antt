-- `asked` (src/main.rt): the rules' buffer is the front of the bytes for a file.
use native.Mathlib.Omega.{arith}
use mathlib.Core.Path.{sym}
use lib.Seq.{length-take-le}
use Rattle.tptp_cases.proofs.asked.Goals as goal

pub slice_bounds-read-end : goal.slice_bounds-read-end
slice_bounds-read-end g c = let e = c.filled-rules.ensures.count in let l = c.if-r-gt20000.false in sym (length-take-le c.in-Some-Some.r c.filled-rules.result (omega arith))
