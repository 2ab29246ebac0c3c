-- `at_and` of src/uses.rt meets its contract. Assumes nothing.
use borrow.Author.Tests.{not-true, not-false}
use Rattle.basics.specs.Tells.{told-yes, told-no}
use Rattle.sexp.proofs.AnswerLaws.{past_next, past-nothing}
use Rattle.uses.proofs.PathLaws.{and_left, and_right, and-neither, and-found}
use Rattle.uses.proofs.uses.at_and.Goals as goal

pub returns-then-is_word : goal.returns-then-is_word
returns-then-is_word c = let x = c.args in
    record { small = tt; turned = λ p d s path k l h e. and_left x.clause.now x.strip.now x.at x.next p d path s k h e (told-yes c.if-is_word.true c.is_word.ensures) }

pub returns-then-not-is_word : goal.returns-then-not-is_word
returns-then-not-is_word c = let x = c.args in
    record { small = tt; turned = λ p d s path k l h e. and-neither x.clause.now x.strip.now x.at x.next p d path s h (told-no c.if-is_word.false c.is_word.ensures) (told-no (not-true c.is_word-2.result c.if-not-is_word.true-raw) c.is_word-2.ensures) }

pub returns-in_err-i-clause-turned : goal.returns-in_err-i-clause-turned
returns-in_err-i-clause-turned c = let x = c.args in
    rw c.from_residual.ensures (λ p d s path k l h e. absurd (and-found x.clause.now x.strip.now x.at x.next p d path k l (past-nothing c.in_err-i.was c.past.ensures)))

pub returns : goal.returns
returns c = let x = c.args in
    record { small = tt; turned = λ p d s path k l h e. and_right x.clause.now x.strip.now x.at x.next p d path s c.in_ok-i.i k h e (told-yes (not-false c.is_word-2.result c.if-not-is_word.false-raw) c.is_word-2.ensures) (past_next c.in_ok-i.was c.past.ensures) }
