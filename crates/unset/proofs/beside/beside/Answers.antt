-- `beside` of src/beside.rt meets its contract. Assumes nothing.
use Rattle.unset.proofs.HeadLaws.{left-two, left-argument, left-next}
use Rattle.equal.proofs.RestLaws.{past-on}
use borrow.Author.Tests.{not-true}
use native.Mathlib.Omega.{arith}
use Rattle.unset.proofs.beside.beside.Goals as goal

pub loop-s-init : goal.loop-s-init
loop-s-init c = let x = c.args in
    λ room y g z e. left-two x.files.now room z y e g c.past.ensures c.in_ok-i.was c.past-2.ensures c.in_ok-j.was

pub returns-then-is_variable : goal.returns-then-is_variable
returns-then-is_variable c = let x = c.args in
    let l = c.loop-s in
    λ room. left-argument x.files.now room x.x x.y c.part-s.ensures.bytes c.part-t.ensures.bytes l.p l.q (l.invariant room x.y c.part-t.ensures.bytes x.x c.part-s.ensures.bytes) c.closes.ensures (not-true c.closes.result c.loop-s-test.true-raw) c.closes-in-loop-s.ensures c.if-closes.false x.v c.is_variable.ensures c.if-is_variable.true

pub loop-s-smaller : goal.loop-s-smaller
loop-s-smaller c = let l = c.loop-s in
    let h = past-on c.part-s.result.now l.p 64 c.in_ok-m.was c.past-in-loop-s.ensures in
    omega (arith, h.0, h.1)

pub loop-s-preserved : goal.loop-s-preserved
loop-s-preserved c = let x = c.args in
    let l = c.loop-s in
    λ room y g z e. left-next x.files.now room z y e g l.p l.q (l.invariant room y g z e) c.closes.ensures (not-true c.closes.result c.loop-s-test.true-raw) c.closes-in-loop-s.ensures c.if-closes.false c.in_ok-m.was c.past-in-loop-s.ensures c.in_ok-k.was c.past-in-loop-s-2.ensures
