-- `rule_number` of src/opening.rt meets its contract. Assumes nothing.
use native.Mathlib.Omega.{arith}
use mathlib.Core.Path.{refl}
use Rattle.proving.proofs.opening.rule_number.Goals as goal

pub returns-then-k-n : goal.returns-then-k-n
returns-then-k-n c = λ l. (omega (arith, c.word-n.ensures, c.if-k-n.true), refl)

pub returns : goal.returns
returns c = λ l. absurd (omega arith)
