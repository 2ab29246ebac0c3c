-- `+node` meets its contract.
use mathlib.Core.Path.{sym, ◌∙◌, ap}
use native.Mathlib.Omega.{arith}
use Rattle.std.specs.Prelude.{Some}
use Rattle.std.proofs.lemmas.Result.{err_from_is_err_and}
use Rattle.uses.proofs.WalkLaws.{strip-nests, enter-is, judges-is, bounded-is, misfit-node, leaf-node, part-ready, one-misfit, one-fits, two-first, second-ready, two-second, two-fit}
use Rattle.walk.proofs.down.+node.Goals as goal

pub returns-then-nest-eq0 : goal.returns-then-nest-eq0
returns-then-nest-eq0 t c = record { sure = tt; judged = λ ds us P o h bs g ready. absurd (omega (arith, strip-nests P, ready.nests, c.if-nest-eq0.true)) }

pub returns-in-None-clause-judged : goal.returns-in-None-clause-judged
returns-in-None-clause-judged t c = λ ds us P o h bs g ready. misfit-node ready (enter-is c.in-None.is (c.enter.ensures ds us P o h bs g ready))

pub returns-in-Some-Leaf-clause-judged : goal.returns-in-Some-Leaf-clause-judged
returns-in-Some-Leaf-clause-judged t c = λ ds us P o h bs g ready.
    let k = c.in-Some-Leaf in
    let (a, r) = leaf-node ready (enter-is (k.is ∙ ap Some k.field-0-is) (c.enter.ensures ds us P o h bs g ready)) in
    judges-is (sym (c.leaf.ensures.ends a r.0)) r.1

pub returns-in_err-one-in-Some-One-clause-judged : goal.returns-in_err-one-in-Some-One-clause-judged
returns-in_err-one-in-Some-One-clause-judged t c = λ ds us P o h bs g ready.
    let k = c.in-Some-One in
    let e = enter-is (k.is ∙ ap Some k.field-0-is) (c.enter.ensures ds us P o h bs g ready) in
    let p = e.told.2 in
    let i = c.node.ensures.judged ds us e.told.0 p.parameters p.clauses p.bindings p.goal (part-ready ready c.enter.auto.room c.if-nest-eq0.false p) in
    let q = err_from_is_err_and c.from_residual.result c.from_residual.ensures.1 in
    rw (q.1, q.2) (one-misfit ready e (judges-is c.in_err-one-in-Some-One.was i))

pub returns-in_ok-one-in-Some-One-clause-judged : goal.returns-in_ok-one-in-Some-One-clause-judged
returns-in_ok-one-in-Some-One-clause-judged t c = λ ds us P o h bs g ready.
    let k = c.in-Some-One in
    let e = enter-is (k.is ∙ ap Some k.field-0-is) (c.enter.ensures ds us P o h bs g ready) in
    let p = e.told.2 in
    let i = c.node.ensures.judged ds us e.told.0 p.parameters p.clauses p.bindings p.goal (part-ready ready c.enter.auto.room c.if-nest-eq0.false p) in
    let w = c.in_ok-one-in-Some-One.was in
    let (a, r) = one-fits ready e (judges-is w i) (bounded-is _ _ _ w c.node.ensures.sure) c.if-nest-eq0.false in
    judges-is (sym (c.close.ensures.closed a r.0 r.1.0)) r.1.1

pub returns-in_err-one-in-Some-Two-clause-judged : goal.returns-in_err-one-in-Some-Two-clause-judged
returns-in_err-one-in-Some-Two-clause-judged t c = λ ds us P o h bs g ready.
    let k = c.in-Some-Two in
    let e = enter-is (k.is ∙ ap Some k.field-0-is) (c.enter.ensures ds us P o h bs g ready) in
    let p = e.told.4 in
    let i = c.node-in-Some-Two.ensures.judged ds us e.told.0 p.parameters p.clauses p.bindings p.goal (part-ready ready c.enter.auto.room c.if-nest-eq0.false p) in
    let q = err_from_is_err_and c.from_residual-in_err-one-in-Some-Two.result c.from_residual-in_err-one-in-Some-Two.ensures.1 in
    rw (q.1, q.2) (two-first ready e (judges-is c.in_err-one-in-Some-Two.was i))

pub returns-in-Err-clause-judged : goal.returns-in-Err-clause-judged
returns-in-Err-clause-judged t c = λ ds us P o h bs g ready.
    let k = c.in-Some-Two in
    let e = enter-is (k.is ∙ ap Some k.field-0-is) (c.enter.ensures ds us P o h bs g ready) in
    let p = e.told.4 in
    let q = e.told.5 in
    let i = judges-is c.in_ok-one-in-Some-Two.was (c.node-in-Some-Two.ensures.judged ds us e.told.0 p.parameters p.clauses p.bindings p.goal (part-ready ready c.enter.auto.room c.if-nest-eq0.false p)) in
    let j = c.node-in-Some-Two-2.ensures.judged ds us e.told.1 q.parameters q.clauses q.bindings q.goal (second-ready ready e i (c.node-in-Some-Two.auto.room ∙ c.enter.auto.room) c.if-nest-eq0.false) in
    two-second ready e i (judges-is c.in-Err.is j)

pub returns-in-Ok-clause-judged : goal.returns-in-Ok-clause-judged
returns-in-Ok-clause-judged t c = λ ds us P o h bs g ready.
    let k = c.in-Some-Two in
    let e = enter-is (k.is ∙ ap Some k.field-0-is) (c.enter.ensures ds us P o h bs g ready) in
    let p = e.told.4 in
    let q = e.told.5 in
    let v = c.in_ok-one-in-Some-Two.was in
    let w = c.in-Ok.is in
    let i = judges-is v (c.node-in-Some-Two.ensures.judged ds us e.told.0 p.parameters p.clauses p.bindings p.goal (part-ready ready c.enter.auto.room c.if-nest-eq0.false p)) in
    let j = judges-is w (c.node-in-Some-Two-2.ensures.judged ds us e.told.1 q.parameters q.clauses q.bindings q.goal (second-ready ready e i (c.node-in-Some-Two.auto.room ∙ c.enter.auto.room) c.if-nest-eq0.false)) in
    let (a, r) = two-fit ready e i j (bounded-is _ _ _ v c.node-in-Some-Two.ensures.sure) (bounded-is _ _ _ w c.node-in-Some-Two-2.ensures.sure) c.if-nest-eq0.false c.max.result c.max.ensures in
    judges-is (sym (c.close-in-Ok.ensures.closed a r.0 r.1.0)) r.1.1
