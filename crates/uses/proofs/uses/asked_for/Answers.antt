-- `asked_for` of src/uses.rt meets its contract. Assumes nothing.
use Rattle.sexp.proofs.AnswerLaws.{past_next, past-nothing}
use Rattle.sexp.proofs.StandLaws.{stands-before}
use Rattle.sexp.proofs.WordsAtLaws.{number_is, number-nothing}
use Rattle.packet.specs.Written.{number}
use Rattle.uses.proofs.NodeLaws.{ends_is}
use Rattle.uses.proofs.PathLaws.{far-number, number-agrees}
use Rattle.uses.proofs.EndLaws.{use-number, ends-inside}
use native.Mathlib.Omega.{arith}
use Rattle.uses.proofs.uses.asked_for.Goals as goal

pub returns-then-strip-at : goal.returns-then-strip-at
returns-then-strip-at c = let x = c.args in
    record { inside = tt; asks = λ k steps more h. absurd (omega (arith, stands-before h, c.if-strip-at.true)) }

pub returns-in_err-clause-clause-asks : goal.returns-in_err-clause-clause-asks
returns-in_err-clause-clause-asks c = let x = c.args in
    rw c.from_residual.ensures (λ k steps more h. far-number (use-number x.strip.now x.at k steps more h) (number-nothing c.in_err-clause.was c.number.ensures))

pub returns-in_err-path-clause-asks : goal.returns-in_err-path-clause-asks
returns-in_err-path-clause-asks c = let x = c.args in
    rw c.from_residual-in_err-path.ensures (λ k steps more h. absurd (past-nothing c.in_err-path.was c.past.ensures (number k) (use-number x.strip.now x.at k steps more h) (omega arith)))

pub returns : goal.returns
returns c = let x = c.args in
    let e = past_next c.in_ok-path.was c.past.ensures in
    record { inside = ends-inside e; asks = λ k steps more h. (number-agrees (number_is c.in_ok-clause.was c.number.ensures) (use-number x.strip.now x.at k steps more h), ends_is (use-number x.strip.now x.at k steps more h) e) }
