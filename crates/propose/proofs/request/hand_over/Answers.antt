-- `hand_over` of src/request.rt: the bytes copied where they are not too long.
use Rattle.propose.proofs.AnswerLaws.{too_long, front-inside, strip-copied}
use borrow.Author.Rules.{rules}
use Rattle.propose.proofs.request.hand_over.Goals as goal

pub returns-then-longest-first : goal.returns-then-longest-first
returns-then-longest-first c =
    let x = c.args in
    let l = c.longest in
    too_long x.scratch.now x.strip.now x.first l.result l.ensures c.too_long.result c.if-longest-first.true c.too_long.ensures

pub slice_bounds-put-end : goal.slice_bounds-put-end
slice_bounds-put-end c = front-inside c.args.scratch.now c.args.first.at c.before.requires

pub returns : goal.returns
returns c =
    let x = c.args in
    let l = c.longest in
    let p = c.put in
    strip-copied x.scratch.now x.strip.now x.first l.result l.ensures p.new.buf p.result c.if-longest-first.false c.before.requires p.ensures
