-- `introduced` of src/line.rt meets its contract. Assumes nothing.
use Rattle.fof_lines.proofs.LineLaws.{intro-none, intro-bare, intro-then}
use mathlib.Core.Path.{sym, subst}
use Rattle.fof_part.specs.Lines.{introduced}
use Rattle.fof_lines.specs.Lined.{OpenedAs}
use Rattle.fof_lines.proofs.line.introduced.Goals as goal

pub returns-in_err-n : goal.returns-in_err-n
returns-in_err-n c = let x = c.args in record { does = λ ss s. subst (OpenedAs (introduced ss) x.text.now) (sym c.from_residual.ensures) (intro-none x.text.now x.at c.opening.result c.opening.ensures c.in_err-n.was ss s) }

pub returns-in_err-n-2 : goal.returns-in_err-n-2
returns-in_err-n-2 c = let x = c.args in record { does = λ ss s. subst (OpenedAs (introduced ss) x.text.now) (sym c.from_residual-in_err-n-2.ensures) (intro-bare x.text.now x.at c.opening.result c.opening.ensures c.in_ok-n.n c.in_ok-n.was c.label.result c.label.ensures c.in_err-n-2.was ss s) }

pub returns : goal.returns
returns c = let x = c.args in record { does = intro-then x.text.now x.at c.opening.result c.opening.ensures c.in_ok-n.n c.in_ok-n.was c.label.result c.label.ensures c.role_ahead.result c.in_ok-n-2.n c.in_ok-n-2.was c.role_ahead.ensures }
