-- `candidate_key` of src/term.rt meets its contract. Assumes nothing.
use mathlib.Core.Path.{sym, ◌∙◌}
use Rattle.keys.proofs.WalkLaws.{listed, unlisted}
use native.Mathlib.Omega.{arith}
use Rattle.keys.proofs.term.candidate_key.Goals as goal

pub returns-then-i-word : goal.returns-then-i-word
returns-then-i-word c = let x = c.args in
    c.word-then-i-word.ensures ∙ sym (listed x.room.now x.i (omega (arith, c.if-i-word.true, c.word.ensures)))

pub returns : goal.returns
returns c = let x = c.args in
    c.mix.ensures ∙ sym (unlisted x.room.now x.i (omega (arith, c.if-i-word.false, c.word.ensures)))
