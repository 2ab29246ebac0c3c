-- A grammar as data, and what it derives. T are the tokens, N the names that have productions.
-- This is the usual notion of a grammar without context (a derivation replaces the first name that is left); nothing here says how a text is read.
use Rattle.std.specs.Prelude.{◌≡◌, ◌⊎◌, List, [], ◌∷◌, ◌++◌}

-- what stands in a production: a token, or a name for whatever one of its alternatives derives
pub data Symbol (T N : Type 0) : Type 0 where
  the : T → Symbol T N
  any : N → Symbol T N

-- y is a member of the list
abbrev pub Has : {A : Type 0} → List A → A → Type 0
Has [] y = ⊥
Has (x ∷ xs) y = (x ≡ y) ⊎ Has xs y

-- A row of symbols derives a row of tokens: nothing derives nothing, a token itself, and a name what one of its alternatives derives.
pub data Derives {T N : Type 0} (alternatives : N → List (List (Symbol T N))) : List (Symbol T N) → List T → Type 0 where
  end : Derives alternatives [] []
  token : {a : T} {ss : List (Symbol T N)} {w : List T} → Derives alternatives ss w → Derives alternatives (the a ∷ ss) (a ∷ w)
  choice : {m : N} {ss : List (Symbol T N)} {w : List T} (alt : List (Symbol T N)) →
      Has (alternatives m) alt → Derives alternatives (alt ++ ss) w → Derives alternatives (any m ∷ ss) w
