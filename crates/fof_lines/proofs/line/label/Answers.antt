-- `label` of src/line.rt meets its contract. Assumes nothing.
use native.Mathlib.Omega.{arith}
use Rattle.fof_lines.proofs.LineLaws.{asked-none, asked-other, asked-then}
use Rattle.sexp.specs.Words.{is_name}
use borrow.Author.Tests.{not-true, not-false}
use mathlib.Core.Path.{sym, ◌∙◌, ap}
use Rattle.fof_pass.specs.declared.ahead.Sign.TheVariants as S
use Rattle.fof_pass.proofs.CodeLaws.{alike-code, unlike-code}
use Rattle.fof_lines.proofs.line.label.Goals as goal

pub returns-then-ne : goal.returns-then-ne
returns-then-ne c = asked-none c.args.text.now c.args.at c.sign_ahead-a.result c.sign_ahead-a.ensures is_name 7 (unlike-code c.sign_ahead-a.result.sign S.Lower c.ne.ensures c.if-ne.true)

pub returns-then-not-is_name_of : goal.returns-then-not-is_name_of
returns-then-not-is_name_of c = asked-other c.args.text.now c.args.at c.sign_ahead-a.result c.sign_ahead-a.ensures is_name 7 (alike-code c.sign_ahead-a.result.sign S.Lower c.ne.ensures c.if-ne.false) (ap is_name (sym c.cut.ensures) ∙ sym c.is_name_of.ensures ∙ not-true _ c.if-not-is_name_of.true-raw)

pub returns : goal.returns
returns c = asked-then c.args.text.now c.args.at c.sign_ahead-a.result c.sign_ahead-a.ensures is_name 7 (alike-code c.sign_ahead-a.result.sign S.Lower c.ne.ensures c.if-ne.false) (ap is_name (sym c.cut.ensures) ∙ sym c.is_name_of.ensures ∙ not-false _ c.if-not-is_name_of.false-raw) (omega arith) c.take.result c.take.ensures
