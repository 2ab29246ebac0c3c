-- `verbatim_long` (src/text.rt): each answer is one law of TextLaws.
use mathlib.Core.Path.{sym, ◌∙◌}
use Rattle.sexp.proofs.TextLaws.{stuck-end, stuck-digit, stuck-number, stuck-colon, stuck-octets, spans}
use native.Mathlib.Omega.{arith}
use Rattle.sexp.proofs.text.verbatim_long.Goals as goal

pub returns-then-at-s : goal.returns-then-at-s
returns-then-at-s c = stuck-end c.args.s.now c.args.at (omega arith)

pub returns-then-not-digit : goal.returns-then-not-digit
returns-then-not-digit c = stuck-digit c.args.s.now c.args.at (omega arith) (sym c.digit.ensures ∙ c.if-not-digit.true)

pub number-value-requires : goal.number-value-requires
number-value-requires c = (omega arith, sym c.digit.ensures ∙ c.if-not-digit.false)

pub returns-then-next-s : goal.returns-then-next-s
returns-then-next-s c =
    let x = c.args in
    let r = c.number-value.result in
    stuck-number x.s.now x.at r.value r.next c.number-value.ensures (omega arith)

pub returns-then-s-next-ne58 : goal.returns-then-s-next-ne58
returns-then-s-next-ne58 c =
    let x = c.args in
    let r = c.number-value.result in
    let t = c.number-value.ensures.digits.inside in
    stuck-colon x.s.now x.at r.value r.next c.number-value.ensures (omega arith) c.if-s-next-ne58.true

pub returns-then-value-s : goal.returns-then-value-s
returns-then-value-s c =
    let x = c.args in
    let r = c.number-value.result in
    let t = c.number-value.ensures.digits.inside in
    spans x.s.now x.at r.value r.next c.number-value.ensures (omega arith) c.if-s-next-ne58.false c.if-value-s.true (omega arith)

pub returns-else-value-s : goal.returns-else-value-s
returns-else-value-s c =
    let x = c.args in
    let r = c.number-value.result in
    let t = c.number-value.ensures.digits.inside in
    stuck-octets x.s.now x.at r.value r.next c.number-value.ensures (omega arith) c.if-s-next-ne58.false (λ h. omega arith) (omega arith)
