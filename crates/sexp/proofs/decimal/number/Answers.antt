-- `number` (src/decimal.rt): the digits so far are `Digits`; each way out of the loop is one law of NumberLaws.
use mathlib.Core.Path.{sym, ◌∙◌, subst}
use lib.ListN.{length, get_or}
use Rattle.sexp.specs.Number.{Number}
use Rattle.sexp.proofs.DecimalLaws.{digit_low, digit-high}
use Rattle.sexp.proofs.NumberLaws.{digits-start, digits_more, over_zero, over-digit, over-end}
use native.Mathlib.Omega.{arith}
use Rattle.sexp.proofs.decimal.number.Goals as goal

pub overflow_sub-v : goal.overflow_sub-v
overflow_sub-v c = digit_low (get_or c.args.s.now c.args.at 0) c.requires.1

pub loop-i-init : goal.loop-i-init
loop-i-init c = digits-start c.args.s.now c.args.at c.requires.0 c.requires.1

pub returns-then-v-eq0 : goal.returns-then-v-eq0
returns-then-v-eq0 c = let l = c.loop-i in over_zero c.args.s.now c.args.at l.v l.i l.invariant c.if-v-eq0.true

pub returns-then-not-digit : goal.returns-then-not-digit
returns-then-not-digit c = let l = c.loop-i in over-digit c.args.s.now c.args.at l.v l.i l.invariant (sym c.digit.ensures ∙ c.if-not-digit.true)

pub grow-v-requires : goal.grow-v-requires
grow-v-requires c =
    let e = sym c.digit.ensures ∙ c.if-not-digit.false in
    (digit_low (get_or c.args.s.now c.loop-i.i 0) e, digit-high (get_or c.args.s.now c.loop-i.i 0) e)

pub loop-i-preserved : goal.loop-i-preserved
loop-i-preserved c =
    let l = c.loop-i in
    digits_more c.args.s.now c.args.at l.v l.i c.grow-v.result l.invariant c.loop-i-test.true c.if-v-eq0.false (sym c.digit.ensures ∙ c.if-not-digit.false) c.grow-v.ensures

pub returns : goal.returns
returns c =
    let l = c.loop-i in
    let i = l.invariant.inside in
    subst (Number c.args.s.now c.args.at l.v) {x = l.i} {y = length c.args.s.now} (omega arith) (over-end c.args.s.now c.args.at l.v l.i l.invariant (omega arith))
