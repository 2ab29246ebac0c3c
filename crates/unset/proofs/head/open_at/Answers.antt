-- `open_at` of src/head.rt meets its contract. Assumes nothing.
use borrow.Author.Tests.{not-false}
use Rattle.unset.proofs.CandidateLaws.{open-nowhere, open-there}
use Rattle.unset.proofs.head.open_at.Goals as goal

pub returns-then-not-is_word : goal.returns-then-not-is_word
returns-then-not-is_word c = let x = c.args in
    open-nowhere x.files.now x.room.now x.x x.own

pub returns-then-is_open : goal.returns-then-is_open
returns-then-is_open c = let x = c.args in
    open-there x.files.now x.room.now x.x c.part-s.ensures.bytes c.is_word.ensures (not-false c.is_word.result c.if-not-is_word.false-raw) c.number.ensures c.in_ok-v.was x.own c.is_open.ensures c.if-is_open.true
