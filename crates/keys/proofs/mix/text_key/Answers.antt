-- `text_key` of src/mix.rt meets its contract. Assumes nothing.
use Rattle.sexp.proofs.AnswerLaws.{plain-span, plain-nothing, plain-inside}
use Rattle.keys.proofs.WalkLaws.{text-told}
use native.Mathlib.Omega.{arith}
use Rattle.keys.proofs.mix.text_key.Goals as goal

pub overflow_add-to : goal.overflow_add-to
overflow_add-to c = let k = plain-inside (plain-span c.in-Some.is c.plain.ensures) in omega arith

pub slice_bounds-octets_key-end : goal.slice_bounds-octets_key-end
slice_bounds-octets_key-end c = let k = plain-inside (plain-span c.in-Some.is c.plain.ensures) in omega arith

pub returns-in-None : goal.returns-in-None
returns-in-None c = λ w h. absurd (plain-nothing c.in-None.is c.plain.ensures w h)

pub returns-in-Some : goal.returns-in-Some
returns-in-Some c = let x = c.args in
    text-told x.s.now x.at c.in-Some.from c.in-Some.count (plain-span c.in-Some.is c.plain.ensures) c.octets_key.ensures
