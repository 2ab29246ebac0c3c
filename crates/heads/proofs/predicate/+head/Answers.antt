-- The cycle of calls of src/predicate.rt meets its contracts. Assumes nothing.
use borrow.Enum.Refused.{opened}
use native.Mathlib.Omega.{arith}
use borrow.Author.Rules.{rules}
use Prim.Native.Nat.{ℕ, ◌+◌, ◌-◌, ◌*◌, ◌<◌}
use mathlib.Core.Path.{refl}
use Rattle.packet.specs.declared.Kind.TheVariants as K
use Rattle.packet.specs.declared.Word.TheVariants as W
use Rattle.packet.specs.Table.{rows, rank}
use Rattle.rows.proofs.TableLaws.{no_row}
use Rattle.heads.proofs.PredicateLaws.{no-nest, by_word, by-other, atom-head, all_head, and-lost, and_first, and_second}
use Rattle.heads.proofs.predicate.+head.Goals as goal

pub has_either-returns-in_default : goal.has_either-returns-in_default
has_either-returns-in_default t c = and-lost c.args.nest c.past_part.ensures c.in_default.is

pub has_either-returns-then-has_head : goal.has_either-returns-then-has_head
has_either-returns-then-has_head t c = rw c.if-has_head.true (and_first c.args.nest c.further.ensures c.has_head.ensures c.if-has_head.true)

pub has_either-returns-else-has_head : goal.has_either-returns-else-has_head
has_either-returns-else-has_head t c = and_second c.args.nest c.further.ensures c.further-else-has_head.ensures c.past_part.ensures c.in-Some.is c.has_head.ensures c.if-has_head.false c.has_head-else-has_head.ensures

pub has_head-returns-then-nest-eq0 : goal.has_head-returns-then-nest-eq0
has_head-returns-then-nest-eq0 t c = no-nest c.args.nest c.if-nest-eq0.true

pub has_head-returns-in-Atom : goal.has_head-returns-in-Atom
has_head-returns-in-Atom t c = let x = c.args in
    by_word x.nest W.Atom c.word_there.result c.if-nest-eq0.false c.word_there.ensures c.in-Atom.is (atom-head (x.nest - 1) c.same_there.ensures)

pub has_head-returns-in-Imp : goal.has_head-returns-in-Imp
has_head-returns-in-Imp t c = let x = c.args in
    by_word x.nest W.Imp c.word_there.result c.if-nest-eq0.false c.word_there.ensures c.in-Imp.is (c.behind_imp.ensures (x.nest - 1))

pub has_head-returns-in-And : goal.has_head-returns-in-And
has_head-returns-in-And t c = let x = c.args in
    by_word x.nest W.And c.word_there.result c.if-nest-eq0.false c.word_there.ensures c.in-And.is c.has_either.ensures

pub has_head-returns-in-All : goal.has_head-returns-in-All
has_head-returns-in-All t c = let x = c.args in
    by_word x.nest W.All c.word_there.result c.if-nest-eq0.false c.word_there.ensures c.in-All.is (all_head (x.nest - 1) c.further.ensures c.has_head.ensures)

pub has_head-returns-in_default : goal.has_head-returns-in_default
unfolding rows rank
has_head-returns-in_default t c = let k = c.word_there.result in
    by-other c.args.nest k c.word_there.ensures (no_row K.Clause k (opened c.in_default.in_default-own.keys5) refl)
