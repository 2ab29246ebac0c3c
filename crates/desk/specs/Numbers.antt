-- The desk's answers as numbers for C (document 01, "What comes back"): what is returned, and what is put where the caller says. 0 and the numbers of what was accepted or found; or the number of the refusal, its file and place.
-- What the answers are is said in crates judge and propose.
use Rattle.std.specs.Prelude.{ℕ}
use Rattle.judge.specs.Verdict as J
use Rattle.proposal.specs.Proposed as P

-- what is returned, and the first, the second and the third number beside it
pub record Numbers : Type 0 where
  pub returned : ℕ
  pub first : ℕ
  pub second : ℕ
  pub third : ℕ

-- a verdict has no third number, and a refusal has none
abbrev pub verdict_numbers : J.Answer → Numbers
verdict_numbers (J.Answer.accepted h n) = record { returned = 0; first = h; second = n; third = 0 }
verdict_numbers (J.Answer.refused r f at) = record { returned = r; first = f; second = at; third = 0 }

abbrev pub proposal_numbers : P.Paper → Numbers
proposal_numbers (P.Paper.found h n l) = record { returned = 0; first = h; second = n; third = l }
proposal_numbers (P.Paper.refused r f at) = record { returned = r; first = f; second = at; third = 0 }
