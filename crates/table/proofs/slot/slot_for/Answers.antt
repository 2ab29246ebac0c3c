-- `slot_for` of src/slot.rt meets its contract. Assumes nothing.
use lib.ListN.{length}
use Rattle.table.proofs.SlotLaws.{slot-none, slot-some, slot-fits}
use native.Mathlib.Omega.{arith}
use borrow.Author.Rules.{rules}
use Rattle.table.proofs.slot.slot_for.Goals as goal

pub returns-then-words-lt5392 : goal.returns-then-words-lt5392
returns-then-words-lt5392 c = slot-none (length c.args.room.now) c.args.key c.if-words-lt5392.true

pub overflow_mul-result : goal.overflow_mul-result
overflow_mul-result c = let z = slot-fits (length c.args.room.now) c.args.key c.if-words-lt5392.false in search rules

pub overflow_add-result : goal.overflow_add-result
overflow_add-result c = let z = slot-fits (length c.args.room.now) c.args.key c.if-words-lt5392.false in search rules

pub returns : goal.returns
returns c = slot-some (length c.args.room.now) c.args.key c.if-words-lt5392.false
