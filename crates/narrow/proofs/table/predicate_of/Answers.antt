-- `predicate_of` of src/table.rt meets its contract. Assumes nothing.
use mathlib.Core.Path.{subst}
use Rattle.room.specs.Files.{Files}
use Rattle.keys.specs.Keys.{PredicateKeyAt}
use Rattle.narrow.specs.Heads.{in_rules}
use Rattle.narrow.proofs.FillLaws.{no-predicate, predicate-there}
use Rattle.narrow.proofs.table.predicate_of.Goals as goal

pub returns-in-None : goal.returns-in-None
returns-in-None c = no-predicate c.args.rules.now c.in-None.is

pub returns-in-Some : goal.returns-in-Some
returns-in-Some c =
    predicate-there c.args.rules.now c.in-Some.is
    (subst (λ (f : Files). PredicateKeyAt f (in_rules c.in-Some.i) c.predicate_key.result) c.new.ensures c.predicate_key.ensures)
