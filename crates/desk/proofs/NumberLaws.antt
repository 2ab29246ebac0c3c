-- The numbers of an answer, case by case, from what the checker or the search has promised of it; and that the numbers tell the answer.
use Prim.Native.Nat.{ℕ, ◌<◌}
use mathlib.Core.Path.{◌≡◌, sym, ap, ap₂, ◌∙◌}
use native.Mathlib.Omega.{arith}
use Rattle.packet.specs.declared.Reason.{Reason}
use Rattle.packet.specs.declared.Reason.TheVariants as R
use Rattle.packet.specs.declared.File.{File}
use Rattle.packet.specs.Numbers.{reason_number, file_number}
use Rattle.judge.specs.declared.Verdict.{Verdict}
use Rattle.judge.specs.declared.Verdict.TheVariants as Vs
use Rattle.judge.specs.Verdict as J
use Rattle.proposal.specs.declared.Proposal.{Proposal}
use Rattle.proposal.specs.declared.Proposal.TheVariants as Ps
use Rattle.proposal.specs.Proposed as P
use Rattle.desk.specs.Numbers.{Numbers, verdict_numbers, proposal_numbers}

abbrev pub numbers : ℕ → ℕ → ℕ → ℕ → Numbers
numbers r a b c = record { returned = r; first = a; second = b; third = c }

alike : {r r' a a' : ℕ} (b : ℕ) → r ≡ r' → a ≡ a' → numbers r a b 0 ≡ numbers r' a' b 0
alike {r = r} {a' = a'} b p q = ap (λ (x : ℕ). numbers r x b 0) q ∙ ap (λ (x : ℕ). numbers x a' b 0) p

module _ {v : Verdict} {p : J.Answer} where
  pub accepted : {h n : ℕ} → v ≡ Vs.Accepted h n → J.paper v ≡ p → numbers 0 h n 0 ≡ verdict_numbers p
  accepted is promised = ap verdict_numbers (ap J.paper (sym is) ∙ promised)

  pub refused : {why : Reason} {file : File} {r f at : ℕ} → v ≡ Vs.Refused why file at → r ≡ reason_number why → f ≡ file_number file → J.paper v ≡ p → numbers r f at 0 ≡ verdict_numbers p
  refused {at = at} is number from promised = alike at number from ∙ ap verdict_numbers (ap J.paper (sym is) ∙ promised)

module _ {v : Proposal} {p : P.Paper} where
  pub found : {h n l : ℕ} → v ≡ Ps.Found h n l → P.paper v ≡ p → numbers 0 h n l ≡ proposal_numbers p
  found is promised = ap proposal_numbers (ap P.paper (sym is) ∙ promised)

  pub not_found : {why : Reason} {file : File} {r f at : ℕ} → v ≡ Ps.Refused why file at → r ≡ reason_number why → f ≡ file_number file → P.paper v ≡ p → numbers r f at 0 ≡ proposal_numbers p
  not_found {at = at} is number from promised = alike at number from ∙ ap proposal_numbers (ap P.paper (sym is) ∙ promised)

-- no refusal has number 0
pub never-zero : (why : Reason) → 0 < reason_number why
never-zero R.Long = omega arith
never-zero R.Carrier = omega arith
never-zero R.Deep = omega arith
never-zero R.Words = omega arith
never-zero R.Barred = omega arith
never-zero R.Many = omega arith
never-zero R.Misfit = omega arith
never-zero R.NoProof = omega arith
never-zero R.Height = omega arith
never-zero R.Buffer = omega arith
never-zero R.Room = omega arith

-- the numbers tell the verdict: two verdicts with the same numbers are the same on paper
pub verdict-told : (v w : Verdict) → verdict_numbers (J.paper v) ≡ verdict_numbers (J.paper w) → J.paper v ≡ J.paper w
verdict-told (Vs.Accepted h n) (Vs.Accepted k m) e = ap₂ J.Answer.accepted (ap (λ (x : Numbers). x.first) e) (ap (λ (x : Numbers). x.second) e)
verdict-told (Vs.Accepted h n) (Vs.Refused r f at) e = let z = ap (λ (x : Numbers). x.returned) e in let l = never-zero r in absurd (omega arith)
verdict-told (Vs.Refused r f at) (Vs.Accepted h n) e = let z = ap (λ (x : Numbers). x.returned) e in let l = never-zero r in absurd (omega arith)
verdict-told (Vs.Refused r f at) (Vs.Refused s g to) e =
    ap (λ (x : ℕ). J.Answer.refused x (file_number f) at) (ap (λ (x : Numbers). x.returned) e)
    ∙ ap₂ (J.Answer.refused (reason_number s)) (ap (λ (x : Numbers). x.first) e) (ap (λ (x : Numbers). x.second) e)

-- the same of a search
pub proposal-told : (v w : Proposal) → proposal_numbers (P.paper v) ≡ proposal_numbers (P.paper w) → P.paper v ≡ P.paper w
proposal-told (Ps.Found h n l) (Ps.Found k m j) e =
    ap (λ (x : ℕ). P.Paper.found x n l) (ap (λ (x : Numbers). x.first) e)
    ∙ ap₂ (P.Paper.found k) (ap (λ (x : Numbers). x.second) e) (ap (λ (x : Numbers). x.third) e)
proposal-told (Ps.Found h n l) (Ps.Refused r f at) e = let z = ap (λ (x : Numbers). x.returned) e in let l = never-zero r in absurd (omega arith)
proposal-told (Ps.Refused r f at) (Ps.Found h n l) e = let z = ap (λ (x : Numbers). x.returned) e in let l = never-zero r in absurd (omega arith)
proposal-told (Ps.Refused r f at) (Ps.Refused s g to) e =
    ap (λ (x : ℕ). P.Paper.refused x (file_number f) at) (ap (λ (x : Numbers). x.returned) e)
    ∙ ap₂ (P.Paper.refused (reason_number s)) (ap (λ (x : Numbers). x.first) e) (ap (λ (x : Numbers). x.second) e)
