-- `still` of src/matching.rt meets its contract. Assumes nothing.
use mathlib.Core.Bool.{◌&&◌}
use mathlib.Core.Path.{sym, ap}
use Rattle.unset.specs.declared.Likeness.{Likeness}
use Rattle.proving.specs.Filling.{is_same}
use Rattle.proving.proofs.matching.still.Goals as goal

pub returns-in-Never : goal.returns-in-Never
returns-in-Never c = ap (λ (z : Likeness). is_same z && c.args.sure) (sym c.in-Never.is)

pub returns-in-Open : goal.returns-in-Open
returns-in-Open c = ap (λ (z : Likeness). is_same z && c.args.sure) (sym c.in-Open.is)

pub returns-in-Same : goal.returns-in-Same
returns-in-Same c = ap (λ (z : Likeness). is_same z && c.args.sure) (sym c.in-Same.is)
