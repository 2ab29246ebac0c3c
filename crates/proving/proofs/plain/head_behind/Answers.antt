-- `head_behind` of src/plain.rt meets its contract. Assumes nothing.
use Rattle.proving.proofs.PartsLaws.{head-known, head-lost, head-past}
use mathlib.Core.Path.{sym, subst}
use Rattle.proving.specs.Parts.{HeadBehind}
use Rattle.proving.proofs.plain.head_behind.Goals as goal

pub returns-then-known : goal.returns-then-known
returns-then-known c = head-known c.args.known c.args.at c.if-known.true

pub returns-in_err-n : goal.returns-in_err-n
returns-in_err-n c = let x = c.args in
    subst (HeadBehind x.files.now x.x x.known x.at) (sym c.from_residual.ensures) (head-lost x.known x.at c.past_part.ensures c.in_err-n.was)

pub returns : goal.returns
returns c = head-past c.args.known c.args.at c.past_part.ensures c.in_ok-n.was c.plus.ensures
