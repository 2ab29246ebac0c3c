-- `number` (src/word.rt): the octets before the present one are digits (`Reading`).
use Rattle.std.proofs.Common.{get_or, arith, sym, ◌∙◌}
use Rattle.std.proofs.lemmas.Bool.Decides.{nat_tests}
use Rattle.programs.proofs.SaidLaws.{reading-start, reading-on, no-digit, says_none, says_nothing, says-number}
use Rattle.programs.proofs.word.number.Goals as goal

pub returns-then-is_empty : goal.returns-then-is_empty
returns-then-is_empty c = says_none c.args.w.now (grind (arith, nat_tests))

pub loop-b-init : goal.loop-b-init
loop-b-init c = reading-start c.args.w.now

pub returns-then-not-is_ascii_digit : goal.returns-then-not-is_ascii_digit
returns-then-not-is_ascii_digit c = let l = c.loop-b in says_nothing c.args.w.now l.v l.b-index l.invariant c.loop-b-test.true (no-digit (get_or c.args.w.now l.b-index 0) (sym c.is_ascii_digit.ensures.value ∙ c.if-not-is_ascii_digit.true))

pub loop-b-preserved : goal.loop-b-preserved
loop-b-preserved c = let l = c.loop-b in let k = c.if-not-is_ascii_digit.ensures.cases in reading-on c.args.w.now l.v l.b-index c.grow-v.result l.invariant c.loop-b-test.true k.0 k.1 c.grow-v.ensures

pub returns : goal.returns
returns c = let l = c.loop-b in says-number c.args.w.now l.v l.b-index l.invariant c.loop-b-test.false (λ e. grind (arith, nat_tests))
