-- The language in which TPTP's grammar writes its tokens: a byte of a class, one thing after another, a choice, a repetition; and which byte strings a rule allows.
-- No rule is here; those of the tokens are in Token.
use Rattle.std.specs.Prelude.{ℕ, ◌≡◌, Bool, true, List, [], ◌∷◌, ◌++◌, ◌⊎◌, eqb}

infixr 60 ◌▸◌
infixr 50 ◌∣◌
pub data Rule : Type 0 where
  never : Rule  -- no bytes at all
  empty : Rule  -- no byte
  byte : (ℕ → Bool) → Rule  -- one byte that passes a test
  ◌▸◌ : Rule → Rule → Rule  -- one, then the other
  ◌∣◌ : Rule → Rule → Rule  -- one or the other
  many : Rule → Rule  -- any number, also none, one after another

-- any number of strings that pass P, one after another
pub data Many (P : List ℕ → Type 0) : List ℕ → Type 0 where
  done : {w : List ℕ} → w ≡ [] → Many P w
  more : {w u v : List ℕ} → w ≡ u ++ v → P u → Many P v → Many P w

infix 40 ◌by◌
-- the rule allows these bytes
abbrev pub ◌by◌ : List ℕ → Rule → Type 0
w by never = ⊥
w by empty = w ≡ []
w by byte t = (c : ℕ) × (w ≡ c ∷ []) × (t c ≡ true)
w by (r ▸ s) = (u : List ℕ) × (v : List ℕ) × (w ≡ u ++ v) × (u by r) × (v by s)
w by (r ∣ s) = (w by r) ⊎ (w by s)
w by many r = Many (λ u. u by r) w

-- this byte and no other
abbrev pub just : ℕ → Rule
just b = byte (λ c. eqb c b)

-- these bytes
abbrev pub text : List ℕ → Rule
text [] = empty
text (b ∷ []) = just b
text (b ∷ c ∷ w) = just b ▸ text (c ∷ w)

-- one or nothing
abbrev pub optional : Rule → Rule
optional r = r ∣ empty
