-- `lines` of src/lines.rt meets its contract. Assumes nothing.
use Rattle.fof_lines.proofs.LinesLaws.{sofar-start, sofar-end, sofar-over, sofar-counted, sofar-refused, sofar-next, kept-none, kept_then, kept-roomy}
use borrow.Author.Tests.{not-true, not-false}
use native.Mathlib.Omega.{arith}
use mathlib.Core.Path.{refl, ◌∙◌}
use Rattle.fof_pass.specs.declared.ahead.Sign.TheVariants as S
use Rattle.fof_pass.proofs.CodeLaws.{same-code, other-code}
use Rattle.fof_lines.proofs.lines.lines.Goals as goal

pub loop-rules-init : goal.loop-rules-init
loop-rules-init c = let x = c.args in let d = c.started-p in (kept-none x.stack.now x.names.now d.new.rules x.goal.now, λ l m ss s. sofar-start x.text.now ss d.result x.rules.now d.new.rules x.goal.now 16385 refl l d.ensures s)

pub shape_of-rules-then-eq : goal.shape_of-rules-then-eq
shape_of-rules-then-eq c = let i = c.loop-rules in let d = c.started-p in c.ended.ensures.rules.long ∙ i.invariant.0.rules ∙ d.ensures.rules.long

pub shape_of-goal-then-eq : goal.shape_of-goal-then-eq
shape_of-goal-then-eq c = let i = c.loop-rules in i.invariant.0.goal

pub shape_of-stack-then-eq : goal.shape_of-stack-then-eq
shape_of-stack-then-eq c = let i = c.loop-rules in i.invariant.0.stack

pub shape_of-names-then-eq : goal.shape_of-names-then-eq
shape_of-names-then-eq c = let i = c.loop-rules in i.invariant.0.names

pub returns-then-eq : goal.returns-then-eq
returns-then-eq c = let x = c.args in let i = c.loop-rules in let d = c.started-p in record { kept = record { stack = i.invariant.0.stack; names = i.invariant.0.names; rules = c.ended.ensures.rules.long ∙ i.invariant.0.rules ∙ d.ensures.rules.long; goal = i.invariant.0.goal }; does = λ l m ss s. sofar-end x.text.now ss d.result d.new.rules i.rules x.goal.now i.goal i.p i.left (i.invariant.1 l m ss s) c.sign_ahead-a.result c.sign_ahead-a.ensures (same-code c.sign_ahead-a.result.sign S.Nothing c.eq.ensures c.if-eq.true) x.rules.now c.ended.new.rules c.ended.result d.ensures c.ended.ensures }

pub shape_of-rules-then-left-eq0 : goal.shape_of-rules-then-left-eq0
shape_of-rules-then-left-eq0 c = let i = c.loop-rules in let d = c.started-p in i.invariant.0.rules ∙ d.ensures.rules.long

pub shape_of-goal-then-left-eq0 : goal.shape_of-goal-then-left-eq0
shape_of-goal-then-left-eq0 c = let i = c.loop-rules in i.invariant.0.goal

pub shape_of-stack-then-left-eq0 : goal.shape_of-stack-then-left-eq0
shape_of-stack-then-left-eq0 c = let i = c.loop-rules in i.invariant.0.stack

pub shape_of-names-then-left-eq0 : goal.shape_of-names-then-left-eq0
shape_of-names-then-left-eq0 c = let i = c.loop-rules in i.invariant.0.names

pub returns-then-left-eq0 : goal.returns-then-left-eq0
returns-then-left-eq0 c = let x = c.args in let i = c.loop-rules in let d = c.started-p in record { kept = record { stack = i.invariant.0.stack; names = i.invariant.0.names; rules = i.invariant.0.rules ∙ d.ensures.rules.long; goal = i.invariant.0.goal }; does = λ l m ss s. sofar-over x.text.now ss d.result d.new.rules i.rules x.goal.now i.goal i.p i.left (i.invariant.1 l m ss s) c.sign_ahead-a.result c.sign_ahead-a.ensures (other-code c.sign_ahead-a.result.sign S.Nothing c.eq.ensures c.if-eq.false) c.if-left-eq0.true x.rules.now i.rules x.goal.now i.goal c.refused.result c.refused.ensures }

pub shape_of-rules-then-not-p : goal.shape_of-rules-then-not-p
shape_of-rules-then-not-p c = let i = c.loop-rules in let d = c.started-p in c.line-p.ensures.kept.rules ∙ i.invariant.0.rules ∙ d.ensures.rules.long

pub shape_of-goal-then-not-p : goal.shape_of-goal-then-not-p
shape_of-goal-then-not-p c = let i = c.loop-rules in c.line-p.ensures.kept.goal ∙ i.invariant.0.goal

pub shape_of-stack-then-not-p : goal.shape_of-stack-then-not-p
shape_of-stack-then-not-p c = let i = c.loop-rules in c.line-p.ensures.kept.stack ∙ i.invariant.0.stack

pub shape_of-names-then-not-p : goal.shape_of-names-then-not-p
shape_of-names-then-not-p c = let i = c.loop-rules in c.line-p.ensures.kept.names ∙ i.invariant.0.names

pub returns-then-not-p : goal.returns-then-not-p
returns-then-not-p c = let x = c.args in let i = c.loop-rules in let d = c.started-p in record { kept = record { stack = c.line-p.ensures.kept.stack ∙ i.invariant.0.stack; names = c.line-p.ensures.kept.names ∙ i.invariant.0.names; rules = c.line-p.ensures.kept.rules ∙ i.invariant.0.rules ∙ d.ensures.rules.long; goal = c.line-p.ensures.kept.goal ∙ i.invariant.0.goal }; does = λ l m ss s. sofar-refused x.text.now ss d.result d.new.rules i.rules x.goal.now i.goal i.p i.left (i.invariant.1 l m ss s) c.sign_ahead-a.result c.sign_ahead-a.ensures (other-code c.sign_ahead-a.result.sign S.Nothing c.eq.ensures c.if-eq.false) c.if-left-eq0.false c.line-p.new.rules c.line-p.new.goal c.line-p.result (c.line-p.ensures.does l (kept-roomy i.invariant.0 m) (sofar-counted x.text.now ss d.result d.new.rules i.rules x.goal.now i.goal i.p i.left (i.invariant.1 l m ss s) c.sign_ahead-a.result c.sign_ahead-a.ensures (other-code c.sign_ahead-a.result.sign S.Nothing c.eq.ensures c.if-eq.false) c.if-left-eq0.false) (i.invariant.1 l m ss s).signs (i.invariant.1 l m ss s).there) (not-true c.line-p.result.ok c.if-not-p.true) x.rules.now x.goal.now }

pub overflow_sub-left : goal.overflow_sub-left
overflow_sub-left c = omega (arith, c.if-left-eq0.false)

pub loop-rules-smaller : goal.loop-rules-smaller
loop-rules-smaller c = omega (arith, c.if-left-eq0.false)

pub loop-rules-preserved : goal.loop-rules-preserved
loop-rules-preserved c = let x = c.args in let i = c.loop-rules in let d = c.started-p in (kept_then i.invariant.0 c.line-p.ensures.kept, λ l m ss s. sofar-next x.text.now ss d.result d.new.rules i.rules x.goal.now i.goal i.p i.left (i.invariant.1 l m ss s) c.sign_ahead-a.result c.sign_ahead-a.ensures (other-code c.sign_ahead-a.result.sign S.Nothing c.eq.ensures c.if-eq.false) c.if-left-eq0.false c.line-p.new.rules c.line-p.new.goal c.line-p.result (c.line-p.ensures.does l (kept-roomy i.invariant.0 m) (sofar-counted x.text.now ss d.result d.new.rules i.rules x.goal.now i.goal i.p i.left (i.invariant.1 l m ss s) c.sign_ahead-a.result c.sign_ahead-a.ensures (other-code c.sign_ahead-a.result.sign S.Nothing c.eq.ensures c.if-eq.false) c.if-left-eq0.false) (i.invariant.1 l m ss s).signs (i.invariant.1 l m ss s).there) (not-false c.line-p.result.ok c.if-not-p.false))
