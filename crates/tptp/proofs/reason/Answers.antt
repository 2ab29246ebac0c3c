-- `reason` of src/lib.rt: one test after the other, in the order 13, 6, 3, 10.
use borrow.Author.Tests.{not-true, not-false}
use Rattle.tptp.proofs.PartsLaws.{outside-reason, conjectures-reason, many-reason, rules-deep-reason, goal-deep-reason, rules-long-reason, goal-long-reason, no-reason}
use native.Mathlib.Omega.{arith}
use borrow.Author.Rules.{rules}
use Rattle.tptp.proofs.reason.Goals as goal

pub returns-then-not-p : goal.returns-then-not-p
returns-then-not-p c =
    let x = c.args in
    outside-reason x.p x.rules x.goal (not-true x.p.ok c.if-not-p.true)

pub returns-then-p-ne1 : goal.returns-then-p-ne1
returns-then-p-ne1 c =
    let x = c.args in
    conjectures-reason x.p x.rules x.goal c.if-p-ne1.true

pub returns-then-p-gt256 : goal.returns-then-p-gt256
returns-then-p-gt256 c =
    let x = c.args in
    many-reason x.p x.rules x.goal (not-false x.p.ok c.if-not-p.false) c.if-p-ne1.false c.if-p-gt256.true

pub returns-then-p : goal.returns-then-p
returns-then-p c =
    let x = c.args in
    rules-deep-reason x.p x.rules x.goal (not-false x.p.ok c.if-not-p.false) c.if-p-ne1.false (omega arith) c.if-p.true

pub returns-then-p-2 : goal.returns-then-p-2
returns-then-p-2 c =
    let x = c.args in
    goal-deep-reason x.p x.rules x.goal (not-false x.p.ok c.if-not-p.false) c.if-p-ne1.false (omega arith) c.if-p.false c.if-p-2.true

pub returns-then-not-fits : goal.returns-then-not-fits
returns-then-not-fits c =
    let x = c.args in
    let t = c.fits in
    rules-long-reason x.p x.rules x.goal t.result (not-false x.p.ok c.if-not-p.false) c.if-p-ne1.false (omega arith) c.if-p.false c.if-p-2.false t.ensures (not-true t.result c.if-not-fits.true-raw)

pub returns-then-not-fits-2 : goal.returns-then-not-fits-2
returns-then-not-fits-2 c =
    let x = c.args in
    let t = c.fits in
    let u = c.fits-2 in
    goal-long-reason x.p x.rules x.goal t.result u.result (not-false x.p.ok c.if-not-p.false) c.if-p-ne1.false (omega arith) c.if-p.false c.if-p-2.false t.ensures (not-false t.result c.if-not-fits.false-raw) u.ensures (not-true u.result c.if-not-fits-2.true-raw)

pub returns : goal.returns
returns c =
    let x = c.args in
    let t = c.fits in
    let u = c.fits-2 in
    no-reason x.p x.rules x.goal t.result u.result (not-false x.p.ok c.if-not-p.false) c.if-p-ne1.false (omega arith) c.if-p.false c.if-p-2.false t.ensures (not-false t.result c.if-not-fits.false-raw) u.ensures (not-false u.result c.if-not-fits-2.false-raw)
