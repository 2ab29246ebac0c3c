-- `next_turn` of src/uses.rt meets its contract. Assumes nothing.
use Rattle.basics.specs.Tells.{told-yes, told-no}
use Rattle.sexp.proofs.AnswerLaws.{past_next, past-nothing}
use Rattle.uses.proofs.PathLaws.{closes-yes, closes-no, turn-and, turn-all, turn-neither, turn-ended, turn-found}
use Rattle.uses.proofs.uses.next_turn.Goals as goal

pub returns-then-closes : goal.returns-then-closes
returns-then-closes c = let x = c.args in
    record { small = tt; turned = λ d path k l h. turn-ended x.strip.now x.at path (closes-yes c.closes.ensures c.if-closes.true) h }

pub returns-in_err-next-clause-turned : goal.returns-in_err-next-clause-turned
returns-in_err-next-clause-turned c = let x = c.args in
    rw c.from_residual.ensures (λ d path k l h. absurd (turn-found x.strip.now x.at path (closes-no c.closes.ensures c.if-closes.false) (past-nothing c.in_err-next.was c.past.ensures) h))

pub returns-then-is_word : goal.returns-then-is_word
returns-then-is_word c = let x = c.args in
    record { small = c.at_and.ensures.small; turned = λ d path k l h. turn-and x.clause.now x.strip.now x.at c.in_ok-next.next c.at_and.result d path (closes-no c.closes.ensures c.if-closes.false) (past_next c.in_ok-next.was c.past.ensures) (told-yes c.if-is_word.true c.is_word.ensures) c.at_and.ensures.turned k l h }

pub returns-then-is_word-2 : goal.returns-then-is_word-2
returns-then-is_word-2 c = let x = c.args in
    record { small = c.at_all.ensures.small; turned = λ d path k l h. turn-all x.clause.now x.strip.now x.at c.in_ok-next.next c.at_all.result d path (closes-no c.closes.ensures c.if-closes.false) (past_next c.in_ok-next.was c.past.ensures) (told-yes c.if-is_word-2.true c.is_word-2.ensures) c.at_all.ensures.turned k h }

pub returns : goal.returns
returns c = let x = c.args in
    record { small = tt; turned = λ d path k l h. turn-neither x.clause.now x.strip.now x.at d path (closes-no c.closes.ensures c.if-closes.false) (told-no c.if-is_word.false c.is_word.ensures) (told-no c.if-is_word-2.false c.is_word-2.ensures) k h }
