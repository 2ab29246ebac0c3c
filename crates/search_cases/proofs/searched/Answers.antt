-- `searched` (src/main.rt): the strip that is found lies inside the buffer.
use mathlib.Core.Path.{sym}
use lib.Seq.{length-take-le}
use Rattle.proposal.proofs.InsideLaws.{found_inside}
use native.Mathlib.Omega.{arith}
use Rattle.search_cases.proofs.searched.Goals as goal

pub slice_bounds-found-end : goal.slice_bounds-found-end
slice_bounds-found-end g c = let k = c.propose in let l = found_inside k.ensures c.in-Found.is in let e = k.auto.strip in omega arith

pub slice_bounds-found-end-in-Found : goal.slice_bounds-found-end-in-Found
slice_bounds-found-end-in-Found g c = let k = c.propose in let l = found_inside k.ensures c.in-Found.is in let e = k.auto.strip in sym (length-take-le c.in-Found.length k.new.strip (omega arith))
