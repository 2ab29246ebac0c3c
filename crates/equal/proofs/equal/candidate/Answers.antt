-- `candidate` of src/equal.rt meets its contract. Assumes nothing.
use Rattle.equal.proofs.SeeLaws.{candidate-below, candidate-beyond}
use Rattle.equal.specs.declared.equal.Seen.TheVariants.{Written}
use Rattle.room.specs.declared.Source.TheVariants as Source
use Prim.Native.Nat.{ℕ, ◌<◌, ◌≤◌}
use mathlib.Core.Path.{sym, ap, subst, ◌∙◌}
use Rattle.equal.proofs.equal.candidate.Goals as goal

pub returns-then-i-word : goal.returns-then-i-word
returns-then-i-word c = let x = c.args in
    ap (λ (at : ℕ). Written (record { source = Source.Terms; at = at; base = 0; count = 0 })) c.word_after.ensures
    ∙ sym (candidate-below x.room.now x.i (subst (λ (n : ℕ). x.i < n) c.word.ensures c.if-i-word.true))

pub returns : goal.returns
returns c = let x = c.args in sym (candidate-beyond x.room.now x.i (subst (λ (n : ℕ). n ≤ x.i) c.word.ensures c.if-i-word.false))
