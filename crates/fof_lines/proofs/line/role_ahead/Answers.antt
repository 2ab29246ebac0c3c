-- `role_ahead` of src/line.rt meets its contract. Assumes nothing.
use Rattle.fof_lines.proofs.LineLaws.{same-yes, same-no, role-none, role-bare, role-other, role-is, role-axiom, role-conjecture, role-neither}
use Rattle.fof_lines.specs.declared.line.Role.TheVariants as R
use Rattle.fof_pass.specs.Ahead.{between}
use Rattle.fof_truth.specs.Formula as truth
use Rattle.basics.specs.Text.{octets}
use mathlib.Core.Path.{refl, sym, subst}
use Rattle.fof_lines.specs.Lined.{roled, OpenedAs}
use Rattle.fof_pass.specs.declared.ahead.Sign.TheVariants as S
use Rattle.fof_pass.proofs.CodeLaws.{alike-code, unlike-code}
use Rattle.fof_lines.proofs.line.role_ahead.Goals as goal

pub returns-then-ne : goal.returns-then-ne
returns-then-ne c = let x = c.args in role-none x.text.now x.at c.sign_ahead-a.result c.sign_ahead-a.ensures (unlike-code c.sign_ahead-a.result.sign S.Lower c.ne.ensures c.if-ne.true)

pub returns-in_err-n : goal.returns-in_err-n
returns-in_err-n c = let x = c.args in λ ss s. subst (OpenedAs (roled ss) x.text.now) (sym c.from_residual.ensures) (role-bare x.text.now x.at c.sign_ahead-a.result c.sign_ahead-a.ensures (alike-code c.sign_ahead-a.result.sign S.Lower c.ne.ensures c.if-ne.false) c.take.result c.take.ensures c.in_err-n.was ss s)

pub returns-then-same : goal.returns-then-same
returns-then-same c = let x = c.args in let t = x.text.now in let a = c.sign_ahead-a.result in let n = c.in_ok-n.n in let w = between t a.start a.end in role-is t x.at a c.sign_ahead-a.ensures (alike-code c.sign_ahead-a.result.sign S.Lower c.ne.ensures c.if-ne.false) c.take.result c.take.ensures n c.in_ok-n.was truth.Role.as_axiom (role-axiom w (same-yes w (octets "axiom") c.cut.ensures c.if-same.true c.same.ensures)) (record { role = R.Axiom; at = n }) refl refl

pub returns-then-same-2 : goal.returns-then-same-2
returns-then-same-2 c = let x = c.args in let t = x.text.now in let a = c.sign_ahead-a.result in let n = c.in_ok-n.n in let w = between t a.start a.end in role-is t x.at a c.sign_ahead-a.ensures (alike-code c.sign_ahead-a.result.sign S.Lower c.ne.ensures c.if-ne.false) c.take.result c.take.ensures n c.in_ok-n.was truth.Role.as_conjecture (role-conjecture w (same-no w (octets "axiom") c.cut.ensures c.if-same.false c.same.ensures) (same-yes w (octets "conjecture") c.cut-2.ensures c.if-same-2.true c.same-2.ensures)) (record { role = R.Conjecture; at = n }) refl refl

pub returns : goal.returns
returns c = let x = c.args in let t = x.text.now in let a = c.sign_ahead-a.result in let w = between t a.start a.end in role-other t x.at a c.sign_ahead-a.ensures (alike-code c.sign_ahead-a.result.sign S.Lower c.ne.ensures c.if-ne.false) c.take.result c.take.ensures (role-neither w (same-no w (octets "axiom") c.cut.ensures c.if-same.false c.same.ensures) (same-no w (octets "conjecture") c.cut-2.ensures c.if-same-2.false c.same-2.ensures))
