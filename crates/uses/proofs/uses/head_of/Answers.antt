-- `head_of` of src/uses.rt meets its contract. Assumes nothing.
use borrow.Author.Tests.{not-true, not-false}
use Rattle.basics.specs.Tells.{told-yes, told-no}
use Rattle.sexp.proofs.AnswerLaws.{past_next, past-nothing}
use Rattle.room.specs.Files.{file_of}
use Rattle.uses.proofs.EndLaws.{head-fact, head-neither, head-lost, head-implies, head-bound}
use native.Mathlib.Omega.{arith}
use Rattle.uses.proofs.uses.head_of.Goals as goal

pub returns-then-is_word : goal.returns-then-is_word
returns-then-is_word c = let x = c.args in
    λ e k l. head-fact (file_of x.files.now x.x.source) _ x.x c.part-s.ensures.bytes e (told-yes c.if-is_word.true c.is_word.ensures) k

pub returns-then-not-is_word : goal.returns-then-not-is_word
returns-then-not-is_word c = let x = c.args in
    λ e k l. head-neither (file_of x.files.now x.x.source) _ x.x c.part-s.ensures.bytes e (told-no c.if-is_word.false c.is_word.ensures) (told-no (not-true c.is_word-2.result c.if-not-is_word.true-raw) c.is_word-2.ensures) k

pub overflow_add-x : goal.overflow_add-x
overflow_add-x c = let x = c.args in
    let h = head-bound (file_of x.files.now x.x.source) _ x.x c.part-s.ensures.bytes c.in_ok-n.n (past_next c.in_ok-n.was c.past.ensures) in
    let l = c.part-s.ensures.short in
    let g = c.well_formed in
    record { fits = omega (arith, h.0, l, g) }

pub overflow_add-x-2 : goal.overflow_add-x-2
overflow_add-x-2 c = let x = c.args in
    let h = head-bound (file_of x.files.now x.x.source) _ x.x c.part-s.ensures.bytes c.in_ok-n.n (past_next c.in_ok-n.was c.past.ensures) in
    let l = c.part-s.ensures.short in
    let g = c.well_formed in
    record { fits = omega (arith, h.1, l, g) }

pub returns-in_err-n : goal.returns-in_err-n
returns-in_err-n c = let x = c.args in
    rw c.from_residual.ensures (λ e k l. absurd (head-lost (file_of x.files.now x.x.source) _ x.x c.part-s.ensures.bytes e (told-yes (not-false c.is_word-2.result c.if-not-is_word.false-raw) c.is_word-2.ensures) (past-nothing c.in_err-n.was c.past.ensures) k l))

pub returns : goal.returns
returns c = let x = c.args in
    λ e k l. head-implies (file_of x.files.now x.x.source) _ x.x c.part-s.ensures.bytes e c.in_ok-n.n c.moved.result c.moved-2.result (told-yes (not-false c.is_word-2.result c.if-not-is_word.false-raw) c.is_word-2.ensures) (past_next c.in_ok-n.was c.past.ensures) c.moved.ensures c.moved-2.ensures k
