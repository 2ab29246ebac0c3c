-- `line` of src/lines.rt meets its contract. Assumes nothing.
use Rattle.fof_lines.proofs.LineLaws.{line_refused, line-axiom, line-conjecture}
use mathlib.Core.Path.{refl}
use Rattle.fof_lines.proofs.lines.line.Goals as goal

pub returns-in_default : goal.returns-in_default
returns-in_default c = let x = c.args in record { kept = record { stack = refl; names = refl; rules = refl; goal = refl }; does = λ l m k ss s. line_refused x.text.now x.rules.now x.rules.now x.goal.now x.goal.now x.p c.refused.result c.introduced.result c.in_default.is c.refused.ensures ss (c.introduced.ensures.does ss s) }

pub returns-in-Axiom : goal.returns-in-Axiom
returns-in-Axiom c = let x = c.args in let e = c.«axiom».ensures x.goal.now in record { kept = e.kept; does = λ l m k ss s. line-axiom x.text.now x.rules.now c.«axiom».new.rules x.goal.now x.goal.now x.p c.«axiom».result c.introduced.result c.in-Some.o c.in-Some.is c.in-Axiom.is (λ fs g. e.does l m k fs g) ss (c.introduced.ensures.does ss s) }

pub returns-in-Conjecture : goal.returns-in-Conjecture
returns-in-Conjecture c = let x = c.args in let e = c.conjecture.ensures x.rules.now in record { kept = e.kept; does = λ l m k ss s. line-conjecture x.text.now x.rules.now x.rules.now x.goal.now c.conjecture.new.goal x.p c.conjecture.result c.introduced.result c.in-Some.o c.in-Some.is c.in-Conjecture.is (λ fs g. e.does l m k fs g) ss (c.introduced.ensures.does ss s) }
