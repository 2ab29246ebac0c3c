-- `take` of src/expected.rt meets its contract. Assumes nothing.
use Rattle.fof_pass.specs.Codes.{code_is}
use Rattle.fof_pass.proofs.CodeLaws.{same-code, other-code}
use Rattle.fof_pass.proofs.TakeLaws.{take-hit, take-miss}
use Rattle.fof_pass.proofs.expected.take.Goals as goal

pub returns-then-eq : goal.returns-then-eq
returns-then-eq c = let x = c.args in let a = c.sign_ahead-a.result in take-hit x.text.now x.at a (code_is x.wanted) c.sign_ahead-a.ensures (same-code a.sign x.wanted c.eq.ensures c.if-eq.true)

pub returns : goal.returns
returns c = let x = c.args in let a = c.sign_ahead-a.result in take-miss x.text.now x.at a (code_is x.wanted) c.sign_ahead-a.ensures (other-code a.sign x.wanted c.eq.ensures c.if-eq.false)
