-- `next_token` (src/next.rt): what is next stays the same where a space or a comment is passed.
use mathlib.Core.Path.{refl, sym, ◌∙◌, ap}
use Rattle.std.specs.Prelude.{Some}
use Rattle.fof_tokens.specs.declared.found.Found.{Found}
use Rattle.fof_tokens.specs.Found.{found_of}
use Rattle.fof_tokens.proofs.NextLaws.{lexed-gap, lexed-token, lexed-bad, lexed-end}
use native.Mathlib.Omega.{arith}
use Rattle.fof_tokens.proofs.next.next_token.Goals as goal

pub loop-i-init : goal.loop-i-init
loop-i-init c = refl

pub returns-in-None : goal.returns-in-None
returns-in-None c = let x = c.args in sym (c.loop-i.invariant ∙ lexed-bad x.text.now c.loop-i.i c.loop-i-test.true (ap found_of (sym c.in-None.is) ∙ c.piece_at.ensures))

pub returns-in-Some-Token : goal.returns-in-Some-Token
returns-in-Some-Token c =
    let x = c.args in
    let found = ap (λ (f : Found). found_of (Some f)) (sym c.in-Some-Token.field-0-is) ∙ ap found_of (sym c.in-Some-Token.is) ∙ c.piece_at.ensures in
    sym (c.loop-i.invariant ∙ lexed-token x.text.now c.loop-i.i c.in-Some-Token.kind c.in-Some-Token.end c.loop-i-test.true found)

pub loop-i-smaller : goal.loop-i-smaller
loop-i-smaller c =
    let x = c.args in
    let found = ap (λ (f : Found). found_of (Some f)) (sym c.in-Some-Gap.field-0-is) ∙ ap found_of (sym c.in-Some-Gap.is) ∙ c.piece_at.ensures in
    let z = (lexed-gap x.text.now c.loop-i.i c.in-Some-Gap.end c.loop-i-test.true found).0 in omega arith

pub loop-i-preserved : goal.loop-i-preserved
loop-i-preserved c =
    let x = c.args in
    let found = ap (λ (f : Found). found_of (Some f)) (sym c.in-Some-Gap.field-0-is) ∙ ap found_of (sym c.in-Some-Gap.is) ∙ c.piece_at.ensures in
    c.loop-i.invariant ∙ (lexed-gap x.text.now c.loop-i.i c.in-Some-Gap.end c.loop-i-test.true found).1

pub returns : goal.returns
returns c = let x = c.args in sym (c.loop-i.invariant ∙ lexed-end x.text.now c.loop-i.i c.loop-i-test.false)
