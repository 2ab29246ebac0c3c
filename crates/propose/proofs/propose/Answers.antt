-- `propose` of src/lib.rt: the search where there is room enough, and the room cleared in one place.
use Prim.Native.Nat.{ℕ}
use mathlib.Core.Path.{◌∙◌, ap}
use lib.ListN.{replicate}
use native.Mathlib.Omega.{arith}
use Rattle.propose.proofs.AnswerLaws.{short-of-room, proposed}
use borrow.Author.Rules.{rules}
use Rattle.propose.proofs.propose.Goals as goal

pub returns-then-room-lt8192 : goal.returns-then-room-lt8192
returns-then-room-lt8192 c =
    let x = c.args in
    short-of-room x.height x.rules.now x.goal.now x.terms.now x.strip.now x.room.now c.refused.result c.if-room-lt8192.true c.refused.ensures

pub returns : goal.returns
returns c =
    let x = c.args in
    let s = c.search_files-r in
    let k = c.clear in
    proposed x.height x.rules.now x.goal.now x.terms.now x.strip.now s.new.strip x.room.now s.result k.new.room (omega arith) s.ensures (k.ensures ∙ ap (λ (n : ℕ). replicate n 0) s.auto.room)
