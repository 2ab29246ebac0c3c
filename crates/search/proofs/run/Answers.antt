-- `run` (src/main.rt): the buffer is the front of the bytes for a strip.
use native.Mathlib.Omega.{arith}
use mathlib.Core.Path.{sym}
use lib.Seq.{length-take-le}
use Rattle.search.proofs.run.Goals as goal

pub slice_bounds-answer-end : goal.slice_bounds-answer-end
slice_bounds-answer-end c = let e = c.filled-strip.ensures.count in let h = c.requires in sym (length-take-le c.args.size c.filled-strip.result (omega arith))
