-- What is answered of the connectives of the formula ahead: fof_part's `chain`, by its first connective and how many there are.
use Rattle.std.specs.Prelude.{ℕ, ◌+◌, ◌<◌, ◌≤◌, ◌≡◌, Bool, false, ◌&&◌, ◌||◌, List, ◌∷◌, eqb, length}
use Rattle.std.proofs.Math.Option.{some}
use Rattle.basics.specs.Choice.{choose}
use Rattle.fof_part.specs.Sign.{Sign, code, opens_code, closes_code, lists_code, ends_code, comma_code, both_code, either_code, then_code}
use Rattle.fof_part.specs.Due as part
use Rattle.fof_part.specs.Due.{Link, number_in, chain}
use Rattle.fof_plan.specs.declared.chain.First.{First}
use Rattle.fof_plan.specs.declared.chain.First.TheVariants as F
use Rattle.fof_plan.specs.declared.chain.Chain.{Chain}
use Rattle.fof_plan.specs.declared.chain.Seen.{Seen}
use Rattle.fof_pass.specs.Ahead.{signs_at}

abbrev pub chain_is : First → ℕ → part.Chain
chain_is F.Lone n = part.Chain.lone
chain_is F.Conj n = part.Chain.linked Link.conj n
chain_is F.Disj n = part.Chain.linked Link.disj n
chain_is F.Implied n = part.Chain.implied n

pub record Chains (t : List ℕ) (at : ℕ) (c : Chain) : Type 0 where
  pub is : (ss : List Sign) → signs_at t at ≡ some ss → chain_is c.first c.number ≡ chain 0 ss
  pub few : c.number ≤ length t

-- what a sign of this number does: it opens a bracket, it shuts one, it is a connective; the formula ends before it, where d of its brackets are open
abbrev pub opening : ℕ → Bool
opening k = eqb k opens_code || eqb k lists_code

abbrev pub shutting : ℕ → Bool
shutting k = eqb k closes_code || eqb k ends_code

abbrev pub connecting : ℕ → Bool
connecting k = eqb k both_code || (eqb k either_code || eqb k then_code)

abbrev pub ended : ℕ → ℕ → Bool
ended d k = eqb d 0 && (shutting k || eqb k comma_code)

-- the first connective, where another one comes
abbrev pub first_of : First → ℕ → First
first_of F.Lone k = choose (eqb k both_code) F.Conj (choose (eqb k either_code) F.Disj F.Implied)
first_of F.Conj k = F.Conj
first_of F.Disj k = F.Disj
first_of F.Implied k = F.Implied

-- the connectives that were passed, together with those ahead
abbrev pub noted : First → ℕ → part.Chain → part.Chain
noted F.Lone n c = c
noted F.Conj n c = part.Chain.linked Link.conj (n + number_in c)
noted F.Disj n c = part.Chain.linked Link.disj (n + number_in c)
noted F.Implied n c = part.Chain.implied (n + number_in c)

-- where none was passed, none is counted
abbrev pub Counted : First → ℕ → Type 0
Counted F.Lone n = n ≡ 0
Counted F.Conj n = Unit {0}
Counted F.Disj n = Unit {0}
Counted F.Implied n = Unit {0}

-- more than any text has bytes
abbrev pub plenty : ℕ
plenty = 9223372036854775808

pub record OneMore (n m : ℕ) : Type 0 where
  pub is : n < plenty → m ≡ n + 1
  pub most : m ≤ n + 1

-- a sign of the number k is passed: the connectives passed and those ahead are together what they were
pub record Passes (k d : ℕ) (f : First) (n : ℕ) (x : Seen) : Type 0 where
  pub is : d < plenty → n < plenty → Counted f n → ended d k ≡ false → (s : Sign) (ss : List Sign) → k ≡ code s → noted f n (chain d (s ∷ ss)) ≡ noted x.first x.number (chain x.depth ss)
  pub counted : Counted f n → Counted x.first x.number
  pub deep : x.depth ≤ d + 1
  pub many : x.number ≤ n + 1
