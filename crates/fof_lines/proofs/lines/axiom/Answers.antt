-- `axiom` of src/lines.rt meets its contract. Assumes nothing.
use Rattle.fof_lines.proofs.LineLaws.{added-axiom}
use Rattle.fof_lines.specs.Lined.{closed}
use Rattle.fof_part.specs.Due.{Sort, formula_at}
use mathlib.Core.Path.{refl}
use native.Mathlib.Omega.{arith}
use Rattle.fof_lines.proofs.lines.axiom.Goals as goal

pub returns : goal.returns
returns c = let x = c.args in let e = c.body-n.ensures in λ other. record { kept = record { stack = e.kept.stack; names = e.kept.names; rules = e.kept.bytes; goal = refl }; does = λ l m k ss s. added-axiom x.text.now x.rules.now c.body-n.new.buf other x.p c.body-n.result c.saturating_add-axioms.result k.0 (λ l. omega (arith, c.saturating_add-axioms.ensures)) (closed (formula_at Sort.clause ss)) (e.does l m ss s) }
