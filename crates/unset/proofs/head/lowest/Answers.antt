-- `lowest` of src/head.rt meets its contract. Assumes nothing.
use Rattle.unset.proofs.CandidateLaws.{none_first, none-next, lowest-found, lowest-none}
use native.Mathlib.Omega.{arith}
use Rattle.unset.proofs.head.lowest.Goals as goal

pub loop-i-init : goal.loop-i-init
loop-i-init c = let x = c.args in
    none_first x.files.now x.room.now x.y x.key x.n c.next_candidate-i.ensures

pub returns-then-is_candidate : goal.returns-then-is_candidate
returns-then-is_candidate c = let x = c.args in
    let l = c.loop-i in
    lowest-found x.files.now x.room.now x.y x.key x.n l.i c.is_candidate.ensures c.loop-i-test.true c.if-is_candidate.true l.invariant

pub loop-i-smaller : goal.loop-i-smaller
loop-i-smaller c = let t = c.loop-i-test.true in
    let h = c.next_candidate-i-in-loop-i.ensures.further (omega (arith, t)) in
    omega (arith, h, t)

pub loop-i-preserved : goal.loop-i-preserved
loop-i-preserved c = let x = c.args in
    let l = c.loop-i in
    none-next x.files.now x.room.now x.y x.key x.n l.i c.is_candidate.ensures c.if-is_candidate.false l.invariant c.next_candidate-i-in-loop-i.ensures

pub returns : goal.returns
returns c = let x = c.args in
    lowest-none x.files.now x.room.now x.y x.key x.n c.loop-i-test.false c.loop-i.invariant
