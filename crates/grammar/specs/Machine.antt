-- The machine that reads by a grammar: a stack of what is due, and for a name on top the alternative that the tokens ahead decide.
-- The grammar comes with sets of tokens: with what a name may begin and what may follow it. Whether the sets are right, and decide every choice, is the test `right`.
-- A name is decided by the next token, or, where the grammar says so, by the first token that is not one of those that are looked past.
use Rattle.std.specs.Prelude.{ℕ, zero, suc, ◌+◌, ◌*◌, Bool, true, false, ◌&&◌, ◌||◌, not, List, [], ◌∷◌, ◌++◌, eqb, ltb, leb, length}
use Rattle.std.proofs.Math.Option.{Option, none, some}
use Rattle.basics.specs.Choice.{choose}
use Rattle.grammar.specs.Derives.{Symbol, the, any}

pub record Grammar (T N : Type 0) : Type 0 where
  pub alternatives : N → List (List (Symbol T N))
  -- a number for each token, to compare them by
  pub code : T → ℕ
  -- the tokens that are looked past, and the names for which they are
  pub past : T → Bool
  pub looks : N → Bool
  -- the tokens that a name may begin with (`true`: looking past), whether it may be nothing (or nothing but what is looked past), and what may follow it; none: the end
  pub begins : Bool → N → List (Option T)
  pub vanishes : Bool → N → Bool
  pub follows : N → List (Option T)
  -- what a name on top of the stack costs, and what a token pays: they bound the steps and the stack
  pub cost : N → ℕ
  pub pay : ℕ

module _ {T N : Type 0} (G : Grammar T N) where
  -- the number of a token, and of the end
  abbrev pub key : Option T → ℕ
  key none = 0
  key (some a) = suc (G.code a)

  abbrev pub has : List (Option T) → Option T → Bool
  has [] d = false
  has (x ∷ xs) d = eqb (key x) (key d) || has xs d

  abbrev pub within : List (Option T) → List (Option T) → Bool
  within [] ys = true
  within (x ∷ xs) ys = has ys x && within xs ys

  abbrev pub apart : List (Option T) → List (Option T) → Bool
  apart [] ys = true
  apart (x ∷ xs) ys = not (has ys x) && apart xs ys

  -- the token ahead; v: looking past
  abbrev pub ahead : Bool → List T → Option T
  ahead v [] = none
  ahead v (c ∷ w) = choose (v && G.past c) (ahead v w) (some c)

  -- the tokens that a row of symbols may begin with, and whether it may be nothing
  abbrev pub starts : Bool → List (Symbol T N) → List (Option T)
  starts v [] = []
  starts v (the a ∷ ss) = choose (v && G.past a) (starts v ss) (some a ∷ [])
  starts v (any m ∷ ss) = G.begins v m ++ choose (G.vanishes v m) (starts v ss) []

  abbrev pub gone : Bool → List (Symbol T N) → Bool
  gone v [] = true
  gone v (the a ∷ ss) = (v && G.past a) && gone v ss
  gone v (any m ∷ ss) = G.vanishes v m && gone v ss

  -- the tokens ahead for which an alternative of m is the one
  abbrev pub expected : N → List (Symbol T N) → List (Option T)
  expected m alt = starts (G.looks m) alt ++ choose (gone (G.looks m) alt) (G.follows m) []

  abbrev pub first_of : N → Option T → List (List (Symbol T N)) → Option (List (Symbol T N))
  first_of m d [] = none
  first_of m d (x ∷ xs) = choose (has (expected m x) d) (some x) (first_of m d xs)

  -- the alternative that the token ahead decides
  abbrev pub chosen : N → Option T → Option (List (Symbol T N))
  chosen m d = first_of m d (G.alternatives m)

  -- at most f steps
  abbrev pub run : ℕ → List (Symbol T N) → List T → Bool
  run zero ss w = false
  run (suc f) [] [] = true
  run (suc f) [] (c ∷ w) = false
  run (suc f) (the a ∷ ss) [] = false
  run (suc f) (the a ∷ ss) (c ∷ w) = elim (eqb (G.code a) (G.code c)) [ true ↦ run f ss w | false ↦ false ]
  run (suc f) (any m ∷ ss) w = elim (chosen m (ahead (G.looks m) w)) [ none ↦ false | some alt ↦ run f (alt ++ ss) w ]

  unfoldable pub accepts : N → List T → Bool
  accepts m w = run (suc (G.cost m + G.pay * length w)) (any m ∷ []) w

  -- what a stack costs: its top, and one for each entry below
  abbrev pub cost_of : Symbol T N → ℕ
  cost_of (the a) = 1
  cost_of (any m) = G.cost m

  abbrev pub due : List (Symbol T N) → ℕ
  due [] = G.pay
  due (s ∷ ss) = cost_of s + length ss

  -- The test of the sets. An alternative of m begins with what m begins with, and is nothing only where m may be.
  abbrev pub opens : Bool → N → List (Symbol T N) → Bool
  opens v m alt = within (starts v alt) (G.begins v m) && (not (gone v alt) || G.vanishes v m)

  -- what follows a name in an alternative of m may follow it, and at the end of the alternative what may follow m
  abbrev pub followed : N → List (Symbol T N) → Bool
  followed m [] = true
  followed m (the a ∷ ss) = followed m ss
  followed m (any k ∷ ss) =
      (within (starts false ss) (G.follows k) && (not (gone false ss) || within (G.follows m) (G.follows k))) && followed m ss

  -- a stack with an alternative of m on top costs less than with m
  abbrev pub paid : N → List (Symbol T N) → Bool
  paid m alt = ltb (due alt) (G.cost m)

  abbrev pub right_one : N → List (Symbol T N) → Bool
  right_one m alt =
      (opens false m alt && opens true m alt) && ((followed m alt && not (G.looks m && gone true alt)) && paid m alt)

  abbrev pub right_all : N → List (List (Symbol T N)) → Bool
  right_all m [] = true
  right_all m (x ∷ xs) = right_one m x && right_all m xs

  -- no two alternatives are decided by the same token
  abbrev pub clear : N → List (Symbol T N) → List (List (Symbol T N)) → Bool
  clear m x [] = true
  clear m x (y ∷ ys) = apart (expected m x) (expected m y) && clear m x ys

  abbrev pub distinct : N → List (List (Symbol T N)) → Bool
  distinct m [] = true
  distinct m (x ∷ xs) = clear m x xs && distinct m xs

  -- all of it, and no name costs more than a token pays and an entry
  abbrev pub right : N → Bool
  right m = right_all m (G.alternatives m) && (distinct m (G.alternatives m) && (ltb 0 (G.cost m) && leb (G.cost m) (suc G.pay)))
