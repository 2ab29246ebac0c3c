-- `with_exponent` (src/numbers.rt): the exponent is there or not.
use mathlib.Core.Path.{sym, ◌∙◌, ap}
use mathlib.Core.Option.{some}
use Rattle.fof_tokens.specs.declared.Kind.TheVariants.{Real}
use Rattle.std.specs.Prelude.{ℕ}
use Rattle.std.specs.Prelude as std
use Rattle.fof_tokens.specs.Machine.{token}
use Rattle.fof_tokens.specs.Found.{ending}
use Rattle.fof_tokens.proofs.numbers.with_exponent.Goals as goal

pub returns-in-None : goal.returns-in-None
returns-in-None c = let x = c.args in sym (c.exponent_end.ensures (token Real) (some (token x.short, x.at)) ∙ ap (λ (e : std.Option ℕ). ending e (token Real) (some (token x.short, x.at))) c.in-None.is)

pub returns-in-Some : goal.returns-in-Some
returns-in-Some c = let x = c.args in sym (c.exponent_end.ensures (token Real) (some (token x.short, x.at)) ∙ ap (λ (e : std.Option ℕ). ending e (token Real) (some (token x.short, x.at))) c.in-Some.is)
