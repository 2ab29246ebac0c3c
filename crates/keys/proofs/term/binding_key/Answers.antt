-- `binding_key` of src/term.rt meets its contract. Assumes nothing.
use Rattle.keys.specs.Walk.{binding_key}
use borrow.Author.Rules.{rules}
use Rattle.keys.proofs.term.binding_key.Goals as goal

pub returns-in-Candidate : goal.returns-in-Candidate
unfolding binding_key
returns-in-Candidate c = search rules

pub returns-in-Parameter : goal.returns-in-Parameter
unfolding binding_key
returns-in-Parameter c = search rules
