-- `quoted_end` (src/words.rt): at each turn what is still to come decides where the text ends.
use Prim.Native.Nat.{◌+◌}
use mathlib.Core.Path.{refl, sym, ◌∙◌, ap}
use borrow.Author.Tests.{not-true, not-false}
use Rattle.fof_tokens.specs.Bytes.{is_escaped}
use Rattle.fof_tokens.proofs.WordLaws.{escaped-in-text, quotes-shut, quotes-escape-none, quotes-escape, quotes-plain, quotes-none, quotes-end}
use native.Mathlib.Omega.{arith}
use Rattle.fof_tokens.proofs.words.quoted_end.Goals as goal

pub loop-i-init : goal.loop-i-init
loop-i-init c = λ s last. refl

pub returns-then-c-quote : goal.returns-then-c-quote
returns-then-c-quote c = let x = c.args in λ s last. c.loop-i.invariant s last ∙ quotes-shut x.quote s c.loop-i.i last x.text.now c.requires c.loop-i-test.true c.if-c-quote.true

pub returns-then-not-is_escaped : goal.returns-then-not-is_escaped
returns-then-not-is_escaped c = let x = c.args in λ s last. c.loop-i.invariant s last ∙ quotes-escape-none x.quote s c.loop-i.i last x.text.now c.loop-i-test.true c.if-c-quote.false c.if-c-eq92.true (ap (is_escaped x.quote) (sym c.byte.ensures) ∙ sym c.is_escaped.ensures ∙ not-true _ c.if-not-is_escaped.true-raw)

pub overflow_add-i-then-c-eq92 : goal.overflow_add-i-then-c-eq92
overflow_add-i-then-c-eq92 c = let x = c.args in let z = escaped-in-text x.quote x.text.now (c.loop-i.i + 1) c.byte.result c.requires c.byte.ensures (sym c.is_escaped.ensures ∙ not-false _ c.if-not-is_escaped.false-raw) in omega arith

pub loop-i-preserved-then-c-eq92 : goal.loop-i-preserved-then-c-eq92
loop-i-preserved-then-c-eq92 c = let x = c.args in λ s last. c.loop-i.invariant s last ∙ quotes-escape x.quote s c.loop-i.i last x.text.now c.requires c.loop-i-test.true c.if-c-quote.false c.if-c-eq92.true (ap (is_escaped x.quote) (sym c.byte.ensures) ∙ sym c.is_escaped.ensures ∙ not-false _ c.if-not-is_escaped.false-raw)

pub returns-then-not-is_printable : goal.returns-then-not-is_printable
returns-then-not-is_printable c = let x = c.args in λ s last. c.loop-i.invariant s last ∙ quotes-none x.quote s c.loop-i.i last x.text.now c.if-c-quote.false c.if-c-eq92.false (sym c.is_printable.ensures ∙ not-true _ c.if-not-is_printable.true-raw)

pub loop-i-preserved : goal.loop-i-preserved
loop-i-preserved c = let x = c.args in λ s last. c.loop-i.invariant s last ∙ quotes-plain x.quote s c.loop-i.i last x.text.now c.loop-i-test.true c.if-c-quote.false c.if-c-eq92.false (sym c.is_printable.ensures ∙ not-false _ c.if-not-is_printable.false-raw)

pub returns : goal.returns
returns c = let x = c.args in λ s last. c.loop-i.invariant s last ∙ quotes-end x.quote s c.loop-i.i last x.text.now c.loop-i-test.false
