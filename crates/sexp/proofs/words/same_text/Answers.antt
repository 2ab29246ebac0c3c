-- `same_text` meets its contract: the word is the plain string at the other offset; one whose length has one digit is read at once.
use Prim.Native.Nat.{◌+◌}
use Rattle.sexp.specs.Strings.{Plain}
use Rattle.sexp.proofs.AnswerLaws.{plain-inside}
use Rattle.sexp.proofs.WordsAtLaws.{shared-told}
use native.Mathlib.Omega.{arith}
use Rattle.sexp.proofs.words.same_text.Goals as goal
use Rattle.sexp.proofs.words.same_text.Goals.{In-Some}

-- the string there
there : (c : In-Some) → Plain c.args.t.now c.args.j (c.args.j + 2) c.in-Some.count
there c = c.in-Some.ensures

pub overflow_add-from : goal.overflow_add-from
overflow_add-from c = let k = plain-inside (there (goal.at.overflow_add-from c).In-Some) in omega arith

pub overflow_add-from-2 : goal.overflow_add-from-2
overflow_add-from-2 c = let k = plain-inside (there (goal.at.overflow_add-from-2 c).In-Some) in omega arith

pub slice_bounds-is_word-end : goal.slice_bounds-is_word-end
slice_bounds-is_word-end c = let k = plain-inside (there (goal.at.slice_bounds-is_word-end c).In-Some) in omega arith

pub returns : goal.returns
returns c =
    let x = c.args in
    shared-told x.t.now x.j (x.j + 2) c.in-Some.count (there (goal.at.returns c).In-Some) x.s.now x.i c.is_word.result c.is_word.ensures
