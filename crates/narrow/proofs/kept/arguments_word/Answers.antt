-- `arguments_word` of src/kept.rt meets its contract. Assumes nothing.
use mathlib.Core.Path.{refl, subst}
use Rattle.room.specs.Files.{Files}
use Rattle.arguments.specs.Arguments.{ArgumentsAt}
use Rattle.narrow.specs.Heads.{in_rules}
use Rattle.narrow.specs.Kept.{no_variable}
use Rattle.narrow.proofs.KeptLaws.{no_arguments, arguments-read}
use Rattle.narrow.proofs.kept.arguments_word.Goals as goal

pub returns-then-key-eq0 : goal.returns-then-key-eq0
returns-then-key-eq0 c = let x = c.args in no_arguments x.rules.now x.terms.now x.room.now x.key x.at

pub returns : goal.returns
returns c = let x = c.args in
    arguments-read x.rules.now x.terms.now x.room.now x.key x.at c.if-key-eq0.false refl
    (subst (λ (f : Files). ArgumentsAt f x.room.now (in_rules x.at) 0 no_variable c.arguments_of.result) c.new.ensures c.arguments_of.ensures)
