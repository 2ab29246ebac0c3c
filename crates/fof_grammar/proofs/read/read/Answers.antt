-- `read` (src/read.rt): what is read so far, with what is still to come, is the text.
use mathlib.Core.Path.{refl, sym, ◌∙◌, ap}
use lib.ListN.{length-set}
use native.Mathlib.Omega.{arith}
use borrow.Author.Rules.{rules}
use Rattle.std.specs.Prelude.{Ok}
use Rattle.fof_grammar.proofs.ReadLaws.{token-within, reads_first, reads-bad, reads_all, reads_more, refused}
use Rattle.fof_grammar.proofs.read.read.Goals as goal

pub loop-token-init : goal.loop-token-init
loop-token-init c = (refl, reads_first c.args.text.now c.args.codes.now)

pub returns-in_err-token : goal.returns-in_err-token
returns-in_err-token c =
    refused c.args.text.now c.loop-token.codes c.from_residual.result c.from_residual.ensures.0
    (reads-bad c.args.text.now c.loop-token.codes c.loop-token.at c.loop-token.n c.loop-token.invariant.1 (sym c.in_err-token.was ∙ c.next_token.ensures))

pub slice_bounds-number-count : goal.slice_bounds-number-count
slice_bounds-number-count c = let k = c.in-Some.token in let (u, v, w) = token-within c.args.text.now c.loop-token.at k.kind k.start k.end c.loop-token.invariant.1.inside (ap (λ o. Ok o) (sym c.in-Some.is) ∙ sym c.in_ok-token.was ∙ c.next_token.ensures) in omega arith

pub slice_bounds-number-start : goal.slice_bounds-number-start
slice_bounds-number-start c = let k = c.in-Some.token in let (u, v, w) = token-within c.args.text.now c.loop-token.at k.kind k.start k.end c.loop-token.invariant.1.inside (ap (λ o. Ok o) (sym c.in-Some.is) ∙ sym c.in_ok-token.was ∙ c.next_token.ensures) in omega arith

pub slice_bounds-number-end : goal.slice_bounds-number-end
slice_bounds-number-end c = let k = c.in-Some.token in let (u, v, w) = token-within c.args.text.now c.loop-token.at k.kind k.start k.end c.loop-token.invariant.1.inside (ap (λ o. Ok o) (sym c.in-Some.is) ∙ sym c.in_ok-token.was ∙ c.next_token.ensures) in w

pub bounds-codes-n : goal.bounds-codes-n
bounds-codes-n c = let k = c.in-Some.token in let (u, v, w) = token-within c.args.text.now c.loop-token.at k.kind k.start k.end c.loop-token.invariant.1.inside (ap (λ o. Ok o) (sym c.in-Some.is) ∙ sym c.in_ok-token.was ∙ c.next_token.ensures) in let f = c.loop-token.invariant.1.few in let l = c.loop-token.invariant.0 in let p = c.requires in omega arith

pub overflow_add-n : goal.overflow_add-n
overflow_add-n c = let f = c.loop-token.invariant.1.few in let i = c.loop-token.invariant.1.inside in search rules

pub loop-token-smaller : goal.loop-token-smaller
loop-token-smaller c = let k = c.in-Some.token in let (u, v, w) = token-within c.args.text.now c.loop-token.at k.kind k.start k.end c.loop-token.invariant.1.inside (ap (λ o. Ok o) (sym c.in-Some.is) ∙ sym c.in_ok-token.was ∙ c.next_token.ensures) in omega arith

pub loop-token-preserved : goal.loop-token-preserved
loop-token-preserved c =
    let k = c.in-Some.token in
    let q = ap (λ o. Ok o) (sym c.in-Some.is) ∙ sym c.in_ok-token.was ∙ c.next_token.ensures in
    (length-set c.loop-token.codes c.loop-token.n c.number.result ∙ c.loop-token.invariant.0, reads_more c.args.text.now c.loop-token.codes c.loop-token.at c.loop-token.n c.loop-token.invariant.1 k.kind k.start k.end q c.number.result (let k = c.in-Some.token in let (u, v, w) = token-within c.args.text.now c.loop-token.at k.kind k.start k.end c.loop-token.invariant.1.inside (ap (λ o. Ok o) (sym c.in-Some.is) ∙ sym c.in_ok-token.was ∙ c.next_token.ensures) in let f = c.loop-token.invariant.1.few in let l = c.loop-token.invariant.0 in let p = c.requires in omega arith) c.number.ensures)

pub returns : goal.returns
returns c =
    reads_all c.args.text.now c.loop-token.codes c.loop-token.at c.loop-token.n c.loop-token.invariant.1 (ap (λ o. Ok o) (sym c.in_default.is) ∙ sym c.in_ok-token.was ∙ c.next_token.ensures)
