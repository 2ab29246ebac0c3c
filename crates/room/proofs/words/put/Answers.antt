-- `put` of src/words.rt meets its contract. Assumes nothing.
use lib.Seq.{set_out}
use mathlib.Core.Path.{sym}
use Rattle.room.proofs.words.put.Goals as goal

pub returns-else-i-room : goal.returns-else-i-room
returns-else-i-room c = sym (set_out c.args.room.now c.args.i c.args.w c.if-i-room.false)
