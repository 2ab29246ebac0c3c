-- Chains in the room (document 02, Three: a rule that cannot match is not visited). Rules have numbers, and so have candidates, in 256 words from some word on; a number says in which of 128 chains it is, and in a chain each is followed by the next one. Nothing is believed of a chain but that none is left out of it.
use Rattle.std.specs.Prelude.{ℕ, ◌+◌, ◌*◌, ◌/◌, ◌%◌, ◌≤◌, ◌<◌, min, ◌≡◌, Bool, true, false, List, length, get_or}

-- the chain of a number
unfoldable pub chain_of : ℕ → ℕ
chain_of x = x * 40503 / 65536 % 128

-- where numbers stand from word ns on and their chains from word ls on: number k, its chain, the one after it, and the first one of chain b
abbrev pub number_at : ℕ → List ℕ → ℕ → ℕ
number_at ns room k = get_or room (ns + k) 0

abbrev pub chain_at : ℕ → List ℕ → ℕ → ℕ
chain_at ns room k = chain_of (number_at ns room k)

abbrev pub link_at : ℕ → List ℕ → ℕ → ℕ
link_at ls room k = get_or room (ls + k) 0

abbrev pub first_at : ℕ → List ℕ → ℕ → ℕ
first_at ls room b = get_or room (ls + 256 + b) 0

-- how many words the chains have
abbrev pub chain_words : ℕ
chain_words = 384

-- those from k on, of n, are in their chains, in order, and no other: from none of them to the next, nor before the first, is one of the same chain left out
pub record Chained (ns ls : ℕ) (room : List ℕ) (k n : ℕ) : Type 0 where
  pub ahead : (i : ℕ) → k ≤ i → i < n → i < link_at ls room i
  pub linked : (i j : ℕ) → k ≤ i → i < j → j < n → chain_at ns room j ≡ chain_at ns room i → link_at ls room i ≤ j
  pub alike : (i : ℕ) → k ≤ i → i < n → link_at ls room i < n → chain_at ns room (link_at ls room i) ≡ chain_at ns room i
  pub first : (j : ℕ) → k ≤ j → j < n → first_at ls room (chain_at ns room j) ≤ j
  pub starts : (b : ℕ) → b < 128 → first_at ls room b < n → chain_at ns room (first_at ls room b) ≡ b
  pub since : (b : ℕ) → b < 128 → k ≤ first_at ls room b

-- of the room nothing but the words from one up to another is written
pub record Within (before after : List ℕ) (from to : ℕ) : Type 0 where
  pub long : length after ≡ length before
  pub below : (j : ℕ) → j < from → get_or after j 0 ≡ get_or before j 0
  pub above : (j : ℕ) → to ≤ j → get_or after j 0 ≡ get_or before j 0

-- the first b chains have none; no chain has one
pub record ClearedTo (ls : ℕ) (before after : List ℕ) (b : ℕ) : Type 0 where
  pub within : Within before after (ls + 256) (ls + chain_words)
  pub none : ls + chain_words ≤ length before → (c : ℕ) → c < b → first_at ls after c ≡ 256

abbrev pub ChainsCleared : ℕ → List ℕ → List ℕ → Type 0
ChainsCleared ls before after = ClearedTo ls before after 128

-- those from k on, of n, are put in chains that had none
pub record LinkedFrom (ns ls n : ℕ) (before after : List ℕ) (k : ℕ) : Type 0 where
  pub within : Within before after ls (ls + chain_words)
  pub right : ns + 256 ≤ ls → ls + chain_words ≤ length before → ((b : ℕ) → b < 128 → first_at ls before b ≡ 256) → Chained ns ls after k n

abbrev pub ChainsLinked : ℕ → ℕ → ℕ → List ℕ → List ℕ → Type 0
ChainsLinked ns ls n before after = LinkedFrom ns ls (min n 256) before after 0

-- the first n, at most 256, are in their chains
pub record ChainsFilled (ns ls n : ℕ) (before after : List ℕ) : Type 0 where
  pub within : Within before after ls (ls + chain_words)
  pub right : ns + 256 ≤ ls → ls + chain_words ≤ length before → Chained ns ls after 0 (min n 256)

-- where those from one on are looked for in the chain of a number: none of it is left out, and what is found there is of it
pub record Begun (ns : ℕ) (room : List ℕ) (x from n r : ℕ) : Type 0 where
  pub reached : (j : ℕ) → from ≤ j → j < n → chain_at ns room j ≡ chain_of x → r ≤ j
  pub alike : r < n → chain_at ns room r ≡ chain_of x

abbrev pub BeginsChain : ℕ → ℕ → List ℕ → ℕ → ℕ → ℕ → Type 0
BeginsChain ns ls room x from r = (n : ℕ) → Chained ns ls room 0 n → from ≤ n → Begun ns room x from n r

-- whether r is not before one and has a number
pub record HasNumber (ns : ℕ) (room : List ℕ) (x from r : ℕ) (b : Bool) : Type 0 where
  pub since : b ≡ true → from ≤ r
  pub other : b ≡ false → from ≤ r → number_at ns room r ≡ x → ⊥

-- the first from one on, of n, with a number: where the chains are right, those before have another
pub record NextWith (ns ls : ℕ) (room : List ℕ) (x from n r : ℕ) : Type 0 where
  pub few : r ≤ n
  pub further : from ≤ n → from ≤ r
  pub other : (m : ℕ) → Chained ns ls room 0 m → n ≤ m → (j : ℕ) → from ≤ j → j < r → number_at ns room j ≡ x → ⊥
