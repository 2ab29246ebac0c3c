-- `judge` of src/lib.rt: the files judged where there is room enough, and the room cleared in one place.
use Prim.Native.Nat.{ℕ}
use mathlib.Core.Path.{◌∙◌, ap}
use lib.ListN.{replicate}
use native.Mathlib.Omega.{arith}
use Rattle.judge.proofs.VerdictLaws.{judgement-short, judgement-long}
use Rattle.judge.proofs.judge.Goals as goal

pub returns-then-room-lt8192 : goal.returns-then-room-lt8192
returns-then-room-lt8192 c =
    let x = c.args in
    judgement-short x.rules.now x.goal.now x.terms.now x.strip.now x.room.now c.if-room-lt8192.true

pub returns : goal.returns
returns c =
    let x = c.args in
    judgement-long x.rules.now x.goal.now x.terms.now x.strip.now x.room.now c.clear.new.room c.judge_files-v.result (omega arith) (c.judge_files-v.ensures (omega arith)) (c.clear.ensures ∙ ap (λ (n : ℕ). replicate n 0) c.judge_files-v.auto.room)
