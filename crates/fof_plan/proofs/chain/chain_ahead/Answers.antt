-- `chain_ahead` of src/chain.rt meets its contract. Assumes nothing.
use Rattle.fof_plan.proofs.ChainLaws.{passing-none, passing-over, passing-stops, passing-next}
use native.Mathlib.Omega.{arith}
use mathlib.Core.Path.{ap}
use Rattle.fof_pass.specs.declared.ahead.Sign.TheVariants as S
use Rattle.fof_pass.specs.Codes.{code_is}
use Rattle.fof_pass.proofs.CodeLaws.{same-code, other-code, code-low}
use Rattle.fof_plan.proofs.chain.chain_ahead.Goals as goal

pub loop-a-init : goal.loop-a-init
loop-a-init c = passing-none c.args.text.now c.args.at

pub returns-then-eq : goal.returns-then-eq
returns-then-eq c = let l = c.loop-a in let e = same-code c.sign_ahead-a.result.sign S.Nothing c.eq.ensures c.if-eq.true in passing-over c.args.text.now c.args.at l.i l.depth l.first l.number l.invariant c.sign_ahead-a.result c.sign_ahead-a.ensures (omega arith)

pub returns-then-stops : goal.returns-then-stops
returns-then-stops c = let l = c.loop-a in passing-stops c.args.text.now c.args.at l.i l.depth l.first l.number l.invariant c.sign_ahead-a.result c.sign_ahead-a.ensures c.stops.ensures c.if-stops.true

pub loop-a-smaller : goal.loop-a-smaller
loop-a-smaller c = let k = code-low c.sign_ahead-a.result.sign (λ e. other-code c.sign_ahead-a.result.sign S.Nothing c.eq.ensures c.if-eq.false (ap code_is e)) in let z = c.sign_ahead-a.ensures.further k in omega (arith, z.0, z.1)

pub loop-a-preserved : goal.loop-a-preserved
loop-a-preserved c = let l = c.loop-a in let k = code-low c.sign_ahead-a.result.sign (λ e. other-code c.sign_ahead-a.result.sign S.Nothing c.eq.ensures c.if-eq.false (ap code_is e)) in passing-next c.args.text.now c.args.at l.i l.depth l.first l.number l.invariant c.sign_ahead-a.result c.sign_ahead-a.ensures (omega arith) k c.stops.ensures c.if-stops.false c.passed-s.ensures
