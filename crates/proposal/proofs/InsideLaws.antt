-- A strip that is found lies inside its buffer: what a caller needs who takes the front of the buffer.
use Prim.Native.Nat.{ℕ, ◌≤◌}
use mathlib.Core.Path.{◌≡◌, refl, sym, ◌∙◌, ap}
use mathlib.Core.List.{List}
use native.Mathlib.Omega.{arith}
use lib.ListN.{length}
use Rattle.proposal.specs.declared.Proposal.{Proposal}
use Rattle.proposal.specs.declared.Proposal.TheVariants as P
use Rattle.proposal.specs.Proposed.{Comes, comes_to, proposal, proposal_of, Paper, paper, Proposes}
use Rattle.proposal.proofs.PaperLaws.{third_of, kind_of}
use Rattle.proposal.proofs.WrittenLaws.{what-is-written}

module _ (h size room : ℕ) (rs gs ts : List ℕ) where
  found-fits : (x : Comes) (i n l : ℕ) → comes_to h size room rs gs ts ≡ x → Paper.found i n l ≡ paper (proposal x) → l ≤ size
  unfolding proposal
  found-fits (Comes.writes S) i n l e f = let z = (what-is-written e).fits in let y = ap third_of f in omega arith
  found-fits (Comes.refuses r g) i n l e f = let z : ◌≡◌ {A = ℕ} 0 1 = ap kind_of f in absurd (omega arith)

  found-says : (i n l : ℕ) → Paper.found i n l ≡ paper (proposal_of h size room rs gs ts) → l ≤ size
  unfolding proposal_of
  found-says i n l e = found-fits (comes_to h size room rs gs ts) i n l refl e

pub found_inside : {h : ℕ} {rs gs ts b b' room room' : List ℕ} {x : Proposal} {i n l : ℕ} → Proposes h rs gs ts b b' room room' x → x ≡ P.Found i n l → l ≤ length b
found_inside {h = h} {rs = rs} {gs = gs} {ts = ts} {b = b} {room = room} {i = i} {n = n} {l = l} p e =
    found-says h (length b) (length room) rs gs ts i n l (sym (ap paper e) ∙ p.answer)
