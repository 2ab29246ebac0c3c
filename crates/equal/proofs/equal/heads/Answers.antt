-- `heads` of src/equal.rt meets its contract. Assumes nothing.
use Rattle.equal.proofs.EqualLaws.{heads-once, heads-differ, heads-rest}
use borrow.Author.Tests.{not-true, not-false}
use borrow.Author.Rules.{rules}
use Rattle.equal.proofs.equal.heads.Goals as goal

pub returns-then-eq : goal.returns-then-eq
returns-then-eq c = let x = c.args in
    heads-once x.files.now x.x x.y (search rules)

pub returns-then-not-same_text : goal.returns-then-not-same_text
returns-then-not-same_text c = let x = c.args in
    heads-differ x.files.now x.x x.y c.part-s.ensures.bytes c.part-t.ensures.bytes c.same_text.ensures (not-true c.same_text.result c.if-not-same_text.true-raw)

pub returns : goal.returns
returns c = let x = c.args in
    heads-rest x.files.now x.x x.y c.part-s.ensures.bytes c.part-t.ensures.bytes c.same_text.ensures (not-false c.same_text.result c.if-not-same_text.false-raw) c.after.result c.after.ensures
