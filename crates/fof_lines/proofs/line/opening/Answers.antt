-- `opening` of src/line.rt meets its contract. Assumes nothing.
use native.Mathlib.Omega.{arith}
use Rattle.fof_lines.proofs.LineLaws.{same-yes, same-no, asked-none, asked-other, asked-then}
use Rattle.fof_pass.specs.Ahead.{between}
use Rattle.harrop.specs.Bindings.{same_name}
use Rattle.basics.specs.Text.{octets}
use borrow.Author.Tests.{not-true, not-false}
use Rattle.fof_pass.specs.declared.ahead.Sign.TheVariants as S
use Rattle.fof_pass.proofs.CodeLaws.{alike-code, unlike-code}
use Rattle.fof_lines.proofs.line.opening.Goals as goal

pub returns-then-ne : goal.returns-then-ne
returns-then-ne c = asked-none c.args.text.now c.args.at c.sign_ahead-a.result c.sign_ahead-a.ensures (λ w. same_name w (octets "fof")) 3 (unlike-code c.sign_ahead-a.result.sign S.Lower c.ne.ensures c.if-ne.true)

pub returns-then-not-same : goal.returns-then-not-same
returns-then-not-same c = let t = c.args.text.now in let a = c.sign_ahead-a.result in asked-other t c.args.at a c.sign_ahead-a.ensures (λ w. same_name w (octets "fof")) 3 (alike-code c.sign_ahead-a.result.sign S.Lower c.ne.ensures c.if-ne.false) (same-no (between t a.start a.end) (octets "fof") c.cut.ensures (not-true c.same.result c.if-not-same.true-raw) c.same.ensures)

pub returns : goal.returns
returns c = let t = c.args.text.now in let a = c.sign_ahead-a.result in asked-then t c.args.at a c.sign_ahead-a.ensures (λ w. same_name w (octets "fof")) 3 (alike-code c.sign_ahead-a.result.sign S.Lower c.ne.ensures c.if-ne.false) (same-yes (between t a.start a.end) (octets "fof") c.cut.ensures (not-false c.same.result c.if-not-same.false-raw) c.same.ensures) (omega arith) c.take.result c.take.ensures
