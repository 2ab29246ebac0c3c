use Prim.Native.Nat.{ℕ}
use mathlib.Core.Path.{◌∙◌}
use mathlib.Core.List.{map}
use lib.ListN.{length, length-replicate}
use Rattle.fof_productions.specs.Sound.{terminal_of}
use Rattle.fof_productions.proofs.Soundly.{too_long, not-cut, cut-derived}
use Rattle.fof_grammar.proofs.ReadLaws.{counted, uncut, short-prefix, prefix-length, prefix-few, same-room}
use Rattle.fof_grammar.proofs.recognise.sound_text.Goals as goal

pub returns-then-text-gt16384 : goal.returns-then-text-gt16384
returns-then-text-gt16384 c = too_long c.args.text.now c.if-text-gt16384.true

pub slice_bounds-codes-end : goal.slice_bounds-codes-end
slice_bounds-codes-end c = short-prefix c.read.new.codes c.in-Ok.n (length c.args.text.now) 16384 (counted c.args.text.now c.read.new.codes c.read.result c.in-Ok.n c.in-Ok.is c.read.ensures).0 c.if-text-gt16384.false (c.read.auto.codes ∙ length-replicate {A = ℕ} 16384 0)

pub slice_bounds-derived-end : goal.slice_bounds-derived-end
slice_bounds-derived-end c = prefix-length c.read.new.codes c.in-Ok.n (short-prefix c.read.new.codes c.in-Ok.n (length c.args.text.now) 16384 (counted c.args.text.now c.read.new.codes c.read.result c.in-Ok.n c.in-Ok.is c.read.ensures).0 c.if-text-gt16384.false (c.read.auto.codes ∙ length-replicate {A = ℕ} 16384 0))

pub derived-requires : goal.derived-requires
derived-requires c = (prefix-few c.read.new.codes c.in-Ok.n (length c.args.text.now) (counted c.args.text.now c.read.new.codes c.read.result c.in-Ok.n c.in-Ok.is c.read.ensures).0 c.if-text-gt16384.false, same-room 196621 _ (length-replicate {A = ℕ} 196621 0))

pub returns-in-Err : goal.returns-in-Err
returns-in-Err c = not-cut c.args.text.now (uncut c.args.text.now c.read.new.codes c.read.result c.in-Err.is c.read.ensures)

pub returns-in-Ok : goal.returns-in-Ok
returns-in-Ok c = let (l, (ts, e, q)) = counted c.args.text.now c.read.new.codes c.read.result c.in-Ok.n c.in-Ok.is c.read.ensures in cut-derived c.args.text.now ts c.derived.result c.if-text-gt16384.false e (c.derived.ensures (map terminal_of ts) q)
