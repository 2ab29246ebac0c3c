-- The cycle of calls of src/write.rt meets its contracts: the first strip of a goal, of its parts, along the path through a clause and of its body with one less. Assumes nothing.
use borrow.Enum.Refused.{opened}
use mathlib.Core.Path.{refl, ap, ◌∙◌}
use lib.ListN.{length, set}
use borrow.Rule.Slice.PartMut.{put_mid}
use Rattle.harrop.specs.declared.Binding.TheVariants.{Candidate}
use Rattle.packet.specs.declared.Kind.TheVariants as K
use Rattle.packet.specs.declared.Word.TheVariants as W
use Rattle.packet.specs.Table.{rows, rank}
use Rattle.rows.proofs.TableLaws.{no_row}
use Rattle.room.specs.Frame.{binding_word, held}
use Rattle.proving.proofs.PassingLaws as passing
use Rattle.drawing.proofs.WritingLaws as writing
use Rattle.drawing.proofs.PathingLaws as pathing
use native.Mathlib.Omega.{arith}
use borrow.Author.Rules.{rules}
use Prim.Native.Nat.{ℕ, ◌+◌, ◌-◌, ◌*◌, ◌<◌}
use Rattle.writer.proofs.write.+write.{
  statement,
}
use Rattle.writer.proofs.write.+write.Goals as goal

pub path_all-shape_of-room : goal.path_all-shape_of-room
path_all-shape_of-room t c = c.path_part.auto.room ∙ (c.push.auto.room ∙ c.number_through-i.auto.room)

pub path_all-returns : goal.path_all-returns
path_all-returns t c = let x = c.args in
    let i = c.number_through-i.result in
    pathing.all-with x.nest i x.located c.number_through-i.ensures c.number_through-i.auto.room c.put_number-m.ensures c.deeper.ensures (pathing.pathing-from (c.push.ensures ∙ ap (λ (j : ℕ). set c.number_through-i.new.room j (held (binding_word (Candidate i)))) c.plus.ensures) c.path_part.ensures)

pub path_and-returns-in_default : goal.path_and-returns-in_default
path_and-returns-in_default t c = pathing.and-lost c.args.nest c.past_part.ensures c.in_default.is

pub path_and-path_part-requires : goal.path_and-path_part-requires
path_and-path_part-requires t c = (omega (arith, c.decreases), tt)

pub path_and-returns-then-through : goal.path_and-returns-then-through
path_and-returns-then-through t c = pathing.and_left c.args.nest c.further.ensures c.through.ensures.0 c.if-through.true c.through.auto.room c.put-m.ensures c.further-then-through.ensures c.path_part.ensures

pub path_and-path_part-requires-2 : goal.path_and-path_part-requires-2
path_and-path_part-requires-2 t c = (omega (arith, c.decreases), tt)

pub path_and-returns : goal.path_and-returns
path_and-returns t c = pathing.and_right c.args.nest c.past_part.ensures c.in-Some.is c.further.ensures c.through.ensures.0 c.if-through.false c.through.auto.room c.put-m-2.ensures c.further-2.ensures c.path_part-2.ensures

pub write_all-returns-then-w-ge64 : goal.write_all-returns-then-w-ge64
write_all-returns-then-w-ge64 t c = writing.all-full c.if-w-ge64.true

pub write_all-write_part-a-requires : goal.write_all-write_part-a-requires
write_all-write_part-a-requires t c = (omega (arith, c.decreases), tt)

pub write_all-shape_of-room : goal.write_all-shape_of-room
write_all-shape_of-room t c = c.write_part-a.auto.room ∙ c.push.auto.room

pub write_all-returns : goal.write_all-returns
write_all-returns t c = writing.all-drawn (c.args.w.parameters + 1) refl c.put-m.ensures c.bound.ensures (writing.writing-from c.push.ensures c.write_part-a.ensures) c.close.ensures

pub write_body-returns : goal.write_body-returns
write_body-returns t c = λ nest. let x = c.args in
    pathing.body-ends nest c.put-m.ensures (passing.body_is x.w x.x 6 c.further.ensures c.plus.ensures) c.write_part.ensures

pub write_both-returns-in_default : goal.write_both-returns-in_default
write_both-returns-in_default t c = writing.both-lost c.past_part.ensures c.in_default.is

pub write_both-write_part-b-requires : goal.write_both-write_part-b-requires
write_both-write_part-b-requires t c = (omega (arith, c.decreases), tt)

pub write_both-shape_of-room : goal.write_both-shape_of-room
write_both-shape_of-room t c = c.write_part-b.auto.room ∙ c.write_part-a.auto.room

pub write_both-shape_of-strip : goal.write_both-shape_of-strip
write_both-shape_of-strip t c = c.close.auto.strip ∙ (c.write_part-b.auto.strip ∙ (c.write_part-a.auto.strip ∙ c.put-m.auto.buf))

pub write_both-returns : goal.write_both-returns
write_both-returns t c = writing.both-drawn c.past_part.ensures c.in-Some.is c.put-m.ensures c.within.ensures c.write_part-a.ensures c.write_part-a.auto.room c.within-2.ensures c.write_part-b.ensures c.beside.ensures c.close.ensures

pub write_either-returns-in_default : goal.write_either-returns-in_default
write_either-returns-in_default t c = writing.either-lost c.past_part.ensures c.in_default.is

pub write_either-write_part-a-requires : goal.write_either-write_part-a-requires
write_either-write_part-a-requires t c = (omega (arith, c.decreases), tt)

pub write_either-shape_of-room-then-prove_goal : goal.write_either-shape_of-room-then-prove_goal
write_either-shape_of-room-then-prove_goal t c = c.write_part-a.auto.room ∙ c.prove_goal.auto.room

pub write_either-returns-then-prove_goal : goal.write_either-returns-then-prove_goal
write_either-returns-then-prove_goal t c = writing.either_left c.within.ensures c.prove_goal.ensures c.if-prove_goal.true c.prove_goal.auto.room c.put-m.ensures c.within-then-prove_goal.ensures c.write_part-a.ensures c.close.ensures

pub write_either-write_part-a-requires-2 : goal.write_either-write_part-a-requires-2
write_either-write_part-a-requires-2 t c = (omega (arith, c.decreases), tt)

pub write_either-shape_of-room : goal.write_either-shape_of-room
write_either-shape_of-room t c = c.write_part-a-2.auto.room ∙ c.prove_goal.auto.room

pub write_either-returns : goal.write_either-returns
write_either-returns t c = writing.either-right c.past_part.ensures c.in-Some.is c.within.ensures c.prove_goal.ensures c.if-prove_goal.false c.prove_goal.auto.room c.put-m-2.ensures c.within-2.ensures c.write_part-a-2.ensures c.close-2.ensures

pub write_goal-returns-then-height-eq0 : goal.write_goal-returns-then-height-eq0
write_goal-returns-then-height-eq0 t c = writing.no-height c.args.height c.if-height-eq0.true

pub write_goal-returns-in-Top : goal.write_goal-returns-in-Top
write_goal-returns-in-Top t c = let x = c.args in
    writing.by_word x.height W.Top c.word_there.result c.if-height-eq0.false c.word_there.ensures c.in-Top.is (writing.top-drawn (x.height - 1) c.top.ensures)

pub write_goal-returns-in-Atom : goal.write_goal-returns-in-Atom
write_goal-returns-in-Atom t c = let x = c.args in
    writing.by_word x.height W.Atom c.word_there.result c.if-height-eq0.false c.word_there.ensures c.in-Atom.is c.write_use.ensures

pub write_goal-returns-in-And : goal.write_goal-returns-in-And
write_goal-returns-in-And t c = let x = c.args in
    writing.by_word x.height W.And c.word_there.result c.if-height-eq0.false c.word_there.ensures c.in-And.is c.write_both.ensures

pub write_goal-returns-in-Or : goal.write_goal-returns-in-Or
write_goal-returns-in-Or t c = let x = c.args in
    writing.by_word x.height W.Or c.word_there.result c.if-height-eq0.false c.word_there.ensures c.in-Or.is c.write_either.ensures

pub write_goal-returns-in-Some : goal.write_goal-returns-in-Some
write_goal-returns-in-Some t c = let x = c.args in
    writing.by_word x.height W.Some c.word_there.result c.if-height-eq0.false c.word_there.ensures c.in-Some.is c.write_some.ensures

pub write_goal-returns-in-All : goal.write_goal-returns-in-All
write_goal-returns-in-All t c = let x = c.args in
    writing.by_word x.height W.All c.word_there.result c.if-height-eq0.false c.word_there.ensures c.in-All.is c.write_all.ensures

pub write_goal-returns-in-Imp : goal.write_goal-returns-in-Imp
write_goal-returns-in-Imp t c = let x = c.args in
    writing.by_word x.height W.Imp c.word_there.result c.if-height-eq0.false c.word_there.ensures c.in-Imp.is c.write_under.ensures

pub write_goal-returns-in_default : goal.write_goal-returns-in_default
unfolding rows rank
write_goal-returns-in_default t c = let k = c.word_there.result in
    writing.by-other c.args.height k c.word_there.ensures (no_row K.Goal k (opened c.in_default.in_default-own.keys8) refl)

pub write_path-returns-then-nest-eq0 : goal.write_path-returns-then-nest-eq0
write_path-returns-then-nest-eq0 t c = pathing.no-nest c.args.nest c.if-nest-eq0.true

pub write_path-returns-in-Atom : goal.write_path-returns-in-Atom
write_path-returns-in-Atom t c = let x = c.args in
    pathing.by_word x.nest W.Atom c.word_there.result c.if-nest-eq0.false c.word_there.ensures c.in-Atom.is (pathing.by-any (x.nest - 1) W.Atom (pathing.atom-ends (x.nest - 1) c.shut.ensures))

pub write_path-returns-in-Imp : goal.write_path-returns-in-Imp
write_path-returns-in-Imp t c = let x = c.args in
    pathing.by_word x.nest W.Imp c.word_there.result c.if-nest-eq0.false c.word_there.ensures c.in-Imp.is (pathing.by-any (x.nest - 1) W.Imp (c.write_body.ensures (x.nest - 1)))

pub write_path-returns-in-And : goal.write_path-returns-in-And
write_path-returns-in-And t c = let x = c.args in
    pathing.by_word x.nest W.And c.word_there.result c.if-nest-eq0.false c.word_there.ensures c.in-And.is (pathing.by-any (x.nest - 1) W.And c.path_and.ensures)

pub write_path-returns-in-All : goal.write_path-returns-in-All
write_path-returns-in-All t c = let x = c.args in
    pathing.by_word x.nest W.All c.word_there.result c.if-nest-eq0.false c.word_there.ensures c.in-All.is c.path_all.ensures

pub write_path-returns-in_default : goal.write_path-returns-in_default
unfolding rows rank
write_path-returns-in_default t c = let k = c.word_there.result in
    pathing.by-other c.args.nest k c.word_there.ensures (no_row K.Clause k (opened c.in_default.in_default-own.keys5) refl)

pub write_some-write_part-a-requires : goal.write_some-write_part-a-requires
write_some-write_part-a-requires t c = (omega (arith, c.decreases), tt)

pub write_some-shape_of-room : goal.write_some-shape_of-room
write_some-shape_of-room t c = c.write_part-a.auto.room ∙ (c.push.auto.room ∙ c.first_with-i.auto.room)

pub write_some-shape_of-strip : goal.write_some-shape_of-strip
write_some-shape_of-strip t c = c.close.auto.strip ∙ (c.write_part-a.auto.strip ∙ (c.put_number-m.auto.buf ∙ c.put-m.auto.buf))

pub write_some-returns : goal.write_some-returns
write_some-returns t c = writing.some-drawn c.first_with-i.result c.first_with-i.ensures c.first_with-i.auto.room c.put-m.ensures c.put_number-m.ensures c.bound.ensures (writing.writing-from c.push.ensures c.write_part-a.ensures) c.close.ensures

pub write_under-returns-then-left-eq0 : goal.write_under-returns-then-left-eq0
write_under-returns-then-left-eq0 t c = writing.under-flat c.if-left-eq0.true

pub write_under-returns-in_default : goal.write_under-returns-in_default
write_under-returns-in_default t c = writing.under-lost c.past_part.ensures c.in_default.is

pub write_under-write_part-a-requires : goal.write_under-write_part-a-requires
write_under-write_part-a-requires t c = (omega (arith, c.decreases), tt)

pub write_under-shape_of-room : goal.write_under-shape_of-room
write_under-shape_of-room t c = c.write_part-a.auto.room ∙ (c.forget.auto.room ∙ c.suppose.auto.room)

pub write_under-returns : goal.write_under-returns
write_under-returns t c = writing.under-drawn c.if-left-eq0.false c.past_part.ensures c.in-Some.is c.further.ensures c.suppose.ensures c.plus.ensures c.forget.ensures.only c.forget.ensures.gone c.put-m.ensures c.supposes.ensures c.write_part-a.ensures c.close.ensures

pub write_use-returns-in_default : goal.write_use-returns-in_default
write_use-returns-in_default t c = pathing.use-nothing c.first_clause.ensures.0 c.in_default.is

pub write_use-returns-in_default-open_clause : goal.write_use-returns-in_default-open_clause
write_use-returns-in_default-open_clause t c = pathing.use-none c.in-Some.k c.first_clause.ensures.0 c.in-Some.is c.first_clause.auto.room c.open_clause.ensures c.in_default-open_clause.is

pub write_use-path_part-a-requires : goal.write_use-path_part-a-requires
write_use-path_part-a-requires t c = (omega (arith, c.decreases), tt)

pub write_use-shape_of-room : goal.write_use-shape_of-room
write_use-shape_of-room t c = c.path_part-a.auto.room ∙ (c.open_clause.auto.room ∙ c.first_clause.auto.room)

pub write_use-shape_of-strip : goal.write_use-shape_of-strip
write_use-shape_of-strip t c = c.close.auto.strip ∙ (c.path_part-a.auto.strip ∙ (c.put-m-2.auto.buf ∙ (c.put_number-m.auto.buf ∙ c.put-m.auto.buf)))

pub write_use-returns : goal.write_use-returns
write_use-returns t c = pathing.use-drawn c.in-Some.k c.first_clause.ensures.0 c.in-Some.is c.first_clause.auto.room c.first_clause.ensures.1 c.open_clause.ensures c.in-Some-open_clause.is c.is_plain-located.ensures c.put-m.ensures c.put_number-m.ensures c.put-m-2.ensures c.path_part-a.ensures c.close.ensures

pub write_part-returns : goal.write_part-returns
write_part-returns t c = pathing.writing-lent c.cut-from.ensures c.behind.ensures c.write_goal.ensures

pub path_part-returns : goal.path_part-returns
path_part-returns t c = pathing.pathing-lent c.cut-from.ensures c.behind.ensures c.write_path.ensures
