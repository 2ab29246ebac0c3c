-- When two grammars over the same names derive the same: every production of each is, in the other, a way to derive its name.
-- So a grammar can be stated as a document prints it, and read by another in which the token ahead decides every choice. The test is a search of a bounded number of steps.
use Rattle.std.specs.Prelude.{ℕ, zero, suc, Bool, true, false, List, [], ◌∷◌, ◌++◌, map, eqb}
use Rattle.grammar.specs.Derives.{Symbol, the, any}

-- some member passes, every member passes
abbrev pub any_of : {A : Type 0} → (A → Bool) → List A → Bool
any_of f [] = false
any_of f (x ∷ xs) = elim (f x) [ true ↦ true | false ↦ any_of f xs ]

abbrev pub all_of : {A : Type 0} → (A → Bool) → List A → Bool
all_of f [] = true
all_of f (x ∷ xs) = elim (f x) [ true ↦ all_of f xs | false ↦ false ]

-- what f makes of the members, in one list
abbrev pub gather : {A B : Type 0} → (A → List B) → List A → List B
gather f [] = []
gather f (x ∷ xs) = f x ++ gather f xs

module _ {T N : Type 0} (code : T → ℕ) (number : N → ℕ) (alternatives : N → List (List (Symbol T N))) where
  abbrev pub same_symbol : Symbol T N → Symbol T N → Bool
  same_symbol (the a) (the b) = eqb (code a) (code b)
  same_symbol (the a) (any n) = false
  same_symbol (any m) (the b) = false
  same_symbol (any m) (any n) = eqb (number m) (number n)

  -- xs can become ys, by putting alternatives in the place of names; at most k steps
  abbrev pub leads : ℕ → List (Symbol T N) → List (Symbol T N) → Bool
  leads zero xs ys = false
  leads (suc k) [] [] = true
  leads (suc k) [] (y ∷ ys) = false
  leads (suc k) (the a ∷ xs) [] = false
  leads (suc k) (the a ∷ xs) (y ∷ ys) = elim (same_symbol (the a) y) [ true ↦ leads k xs ys | false ↦ false ]
  leads (suc k) (any m ∷ xs) [] = any_of (λ alt. leads k (alt ++ xs) []) (alternatives m)
  leads (suc k) (any m ∷ xs) (y ∷ ys) =
      elim (same_symbol (any m) y) [ true ↦ leads k xs ys | false ↦ any_of (λ alt. leads k (alt ++ xs) (y ∷ ys)) (alternatives m) ]

  -- what xs can become, where the names that are marked are replaced in every way; at most k steps
  abbrev pub spread : (N → Bool) → ℕ → List (Symbol T N) → List (List (Symbol T N))
  spread marked zero xs = xs ∷ []
  spread marked (suc k) [] = [] ∷ []
  spread marked (suc k) (the a ∷ xs) = map (λ ys. the a ∷ ys) (spread marked k xs)
  spread marked (suc k) (any m ∷ xs) =
      elim (marked m) [ true ↦ gather (λ alt. spread marked k (alt ++ xs)) (alternatives m) | false ↦ map (λ ys. any m ∷ ys) (spread marked k xs) ]

  -- whatever an alternative of m becomes by the marked names, m becomes too
  abbrev pub covers : (N → Bool) → ℕ → N → List (Symbol T N) → Bool
  covers marked k m alt = all_of (leads k (any m ∷ [])) (spread marked k alt)
