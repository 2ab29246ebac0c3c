-- The head of a list that begins with a word.
use Prim.Native.Nat.{◌+◌}
use mathlib.Core.Path.{sym, ap, ◌∙◌, subst}
use Rattle.sexp.specs.Sexp.{list}
use Rattle.sexp.proofs.AnswerLaws.{plain-inside}
use Rattle.packet.specs.declared.Word.{Word}
use Rattle.packet.specs.Table.{due_after}
use Rattle.reader.specs.Shape.{HeadAt, head_by}
use Rattle.reader.proofs.ShapeLaws.{word_none, word_some}
use native.Mathlib.Omega.{arith}
use Rattle.reader.proofs.shape.word_head.Goals as goal

pub slice_bounds-word_of-end : goal.slice_bounds-word_of-end
slice_bounds-word_of-end c = let k = plain-inside c.in-Some.ensures in omega arith

pub returns-in_default : goal.returns-in_default
returns-in_default c = λ xs b g. word_none c.args.s.now c.args.at c.args.kind c.in_default.ensures xs b g

pub returns : goal.returns
returns c = λ xs b g.
    let a = c.args in
    let f = c.in-Some.from in
    let n = c.in-Some.count in
    subst (HeadAt a.s.now a.kind a.at (list xs))
    (sym (c.row_head.ensures ∙ ap (λ (w : Word). head_by (a.at + 1) (f + n) (due_after a.kind w)) c.word_of.ensures))
    (word_some a.s.now a.at a.kind c.in-Some.ensures xs b g)
