-- `plan_for` of src/plan.rt meets its contract. Assumes nothing.
use Rattle.fof_plan.proofs.PlanLaws.{for-arguments, for-arrow, for-behind, for-close, for-formula, for-leave, for-list, for-more, for-nothing, for-over, for-shut, for-term, for-terms, for-unit, for-variable}
use native.Mathlib.Omega.{arith}
use Rattle.fof_pass.specs.Codes.{code_is}
use Rattle.fof_plan.proofs.plan.plan_for.Goals as goal

pub returns-in-Nothing : goal.returns-in-Nothing
returns-in-Nothing c = let a = c.args in for-nothing a.text.now a.at (code_is a.sign) c.in-Nothing.is c.refused.ensures

pub returns-in-Formula : goal.returns-in-Formula
returns-in-Formula c = let a = c.args in for-formula a.text.now a.at (code_is a.sign) c.chain_ahead.result c.in-Formula.is c.chain_ahead.ensures c.by_chain.ensures

pub returns-in-Unit : goal.returns-in-Unit
returns-in-Unit c = let a = c.args in for-unit a.text.now a.at (code_is a.sign) c.in-Unit.is c.unit.ensures

pub returns-in-More : goal.returns-in-More
returns-in-More c = let a = c.args in for-more a.text.now a.at (code_is a.sign) c.in-More.is c.more.ensures

pub returns-in-Arrow : goal.returns-in-Arrow
returns-in-Arrow c = let a = c.args in for-arrow a.text.now a.at (code_is a.sign) c.in-Arrow.is (c.taken.ensures 0 (omega arith) (λ _. (tt, tt, tt)))

pub returns-in-Close : goal.returns-in-Close
returns-in-Close c = let a = c.args in for-close a.text.now a.at (code_is a.sign) c.in-Close.is (c.taken-in-Close.ensures 0 (omega arith) (λ _. (tt, tt, tt)))

pub returns-in-List : goal.returns-in-List
returns-in-List c = let a = c.args in for-list a.text.now a.at (code_is a.sign) c.in-List.is (c.taken-in-List.ensures 0 (omega arith) (λ _. (tt, tt, tt)))

pub returns-in-Variable : goal.returns-in-Variable
returns-in-Variable c = let a = c.args in for-variable a.text.now a.at (code_is a.sign) c.in-Variable.is c.variable.ensures

pub returns-in-Behind : goal.returns-in-Behind
returns-in-Behind c = let a = c.args in for-behind a.text.now a.at (code_is a.sign) c.in-Behind.is c.behind.ensures

pub returns-in-Over : goal.returns-in-Over
returns-in-Over c = let a = c.args in for-over a.text.now a.at (code_is a.sign) c.in-Over.is (c.taken-in-Over.ensures 0 (omega arith) (λ _. (tt, tt, tt)))

pub returns-in-Arguments : goal.returns-in-Arguments
returns-in-Arguments c = let a = c.args in for-arguments a.text.now a.at (code_is a.sign) c.in-Arguments.is c.arguments.ensures

pub returns-in-Term : goal.returns-in-Term
returns-in-Term c = let a = c.args in for-term a.text.now a.at (code_is a.sign) c.in-Term.is c.term.ensures

pub returns-in-Terms : goal.returns-in-Terms
returns-in-Terms c = let a = c.args in for-terms a.text.now a.at (code_is a.sign) c.in-Terms.is c.terms.ensures

pub returns-in-Shut : goal.returns-in-Shut
returns-in-Shut c = let a = c.args in for-shut a.text.now a.at (code_is a.sign) c.in-Shut.is c.writing.ensures

pub returns-in-Leave : goal.returns-in-Leave
returns-in-Leave c = let a = c.args in for-leave a.text.now a.at (code_is a.sign) c.in-Leave.is c.writing-in-Leave.ensures
