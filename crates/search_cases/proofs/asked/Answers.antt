-- `asked` (src/main.rt): the buffer is the front of the bytes for a strip.
use mathlib.Core.Path.{sym}
use lib.Seq.{length-take-le}
use native.Mathlib.Omega.{arith}
use Rattle.search_cases.proofs.asked.Goals as goal

pub slice_bounds-searched-end : goal.slice_bounds-searched-end
slice_bounds-searched-end g c = let e = c.filled-strip.ensures.count in let l = c.if-size-gt20000.false in sym (length-take-le _ c.filled-strip.result (omega arith))
