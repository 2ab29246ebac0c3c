-- `at_all` of src/uses.rt meets its contract. Assumes nothing.
use Rattle.sexp.proofs.WordsAtLaws.{number_is, number-nothing, numeral-stands}
use Rattle.uses.proofs.PathLaws.{all_none, all-bound}
use Rattle.uses.proofs.uses.at_all.Goals as goal

pub returns-in_err-n-clause-turned : goal.returns-in_err-n-clause-turned
returns-in_err-n-clause-turned c = let x = c.args in
    rw c.from_residual.ensures (λ clause q d s path k h e. all_none clause x.strip.now x.at x.next q d path s h (number-nothing c.in_err-n.was c.number.ensures))

pub returns : goal.returns
returns c = let x = c.args in
    let n = number_is c.in_ok-n.was c.number.ensures in
    record { small = (numeral-stands n).0; turned = λ clause q d s path k h e. all-bound clause x.strip.now x.at x.next q d path c.in_ok-n.n s k h e n }
