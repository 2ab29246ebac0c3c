-- `answer` (src/main.rt): the strip that is found lies inside the buffer.
use native.Mathlib.Omega.{arith}
use mathlib.Core.Path.{sym}
use lib.Seq.{length-take-le}
use Rattle.proposal.proofs.InsideLaws.{found_inside}
use Rattle.search.proofs.answer.Goals as goal

pub slice_bounds-save-end : goal.slice_bounds-save-end
slice_bounds-save-end c = let k = c.propose in let l = found_inside k.ensures c.in-Found.is in let e = k.auto.strip in omega arith

pub slice_bounds-save-end-in-Found : goal.slice_bounds-save-end-in-Found
slice_bounds-save-end-in-Found c = let k = c.propose in let l = found_inside k.ensures c.in-Found.is in let e = k.auto.strip in sym (length-take-le c.in-Found.length k.new.strip (omega arith))
