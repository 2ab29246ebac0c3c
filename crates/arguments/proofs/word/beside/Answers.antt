-- `beside` of src/word.rt meets its contract. Assumes nothing.
use Prim.Native.Nat.{ℕ}
use mathlib.Core.Path.{sym, subst}
use Rattle.unset.specs.declared.Forced.TheVariants as F
use Rattle.arguments.specs.Arguments.{Beside}
use Rattle.arguments.proofs.BesideLaws.{beside-short, beside-open, beside-never, beside-variable, beside-differ}
use Rattle.arguments.proofs.word.beside.Goals as goal

pub returns-then-b-eq0 : goal.returns-then-b-eq0
returns-then-b-eq0 c = subst (λ (n : ℕ). Beside c.args.a n F.Never) (sym c.if-b-eq0.true) (beside-short c.args.a)

pub returns-then-a-eq1022 : goal.returns-then-a-eq1022
returns-then-a-eq1022 c = beside-open c.args.a c.args.b

pub returns-then-b-eq1022 : goal.returns-then-b-eq1022
returns-then-b-eq1022 c = beside-open c.args.a c.args.b

pub returns-then-b-eq1021 : goal.returns-then-b-eq1021
returns-then-b-eq1021 c = beside-open c.args.a c.args.b

pub returns-then-b-eq1023 : goal.returns-then-b-eq1023
returns-then-b-eq1023 c = beside-never c.args.a c.args.b c.if-a-eq1021.true c.if-b-eq1023.true

pub returns-else-b-eq1023 : goal.returns-else-b-eq1023
returns-else-b-eq1023 c = beside-variable c.args.a c.args.b c.if-a-eq1021.true c.if-b-eq1021.false c.if-b-eq1022.false c.if-b-eq1023.false

pub returns-then-a-b : goal.returns-then-a-b
returns-then-a-b c = beside-differ c.args.a c.args.b c.if-a-eq1022.false c.if-b-eq1022.false c.if-b-eq1021.false c.if-a-eq1021.false c.if-a-b.true

pub returns : goal.returns
returns c = beside-open c.args.a c.args.b
