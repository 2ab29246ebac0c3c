-- `supposed` of src/file.rt meets its contract. Assumes nothing.
use Rattle.room.proofs.FileLaws.{spot-alike, supposed-some, supposed-none}
use Rattle.room.specs.Spot.{source_of}
use Prim.Native.Nat.{◌+◌, ◌*◌}
use mathlib.Core.Path.{sym, ap, ◌∙◌}
use Rattle.room.proofs.file.supposed.Goals as goal

pub returns-then-m-lt63 : goal.returns-then-m-lt63
returns-then-m-lt63 c = let x = c.args in
    let i = 770 + 5 * x.m in
    spot-alike (c.from.ensures ∙ ap source_of c.word.ensures) c.word-then-m-lt63.ensures c.word-then-m-lt63-2.ensures c.word-then-m-lt63-3.ensures ∙ sym (supposed-some x.room.now x.m c.if-m-lt63.true)

pub returns : goal.returns
returns c = let x = c.args in sym (supposed-none x.room.now x.m c.if-m-lt63.false)
