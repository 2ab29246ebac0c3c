-- `run_end` (src/run.rt): behind the text's end nothing is passed, before it what the library counts.
use Prim.Native.Nat.{ℕ, ◌+◌, ◌-◌}
use mathlib.Core.Path.{refl, ◌∙◌, ap}
use mathlib.Core.List.{List}
use native.Mathlib.Omega.{arith}
use lib.ListN.{length, drop, length-drop}
use lib.Seq.{take_all}
use Rattle.std.specs.List.{prefix_len}
use Rattle.fof_tokens.specs.Runs.{passes}
use Rattle.fof_tokens.proofs.ScanLaws.{span-end}
use Rattle.fof_tokens.proofs.RunLaws.{span-prefix}
use Rattle.fof_tokens.proofs.run.run_end.Goals as goal

pub returns-then-text-at : goal.returns-then-text-at
returns-then-text-at c = let x = c.args in span-end (passes x.class) x.text.now x.at x.at c.if-text-at.true refl

pub returns : goal.returns
returns c =
    let x = c.args in
    ap (λ (n : ℕ). x.at + n)
    (c.run_length.ensures.value
    ∙ ap (λ (t : List ℕ). prefix_len (passes x.class) t) (take_all (length x.text.now - x.at) (drop x.at x.text.now) (rw length-drop (omega arith)))
    ∙ span-prefix (passes x.class) (drop x.at x.text.now))
