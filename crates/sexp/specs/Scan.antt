-- The carrier's judgement of a file, byte by byte (document 01, "The carrier and the words", refusals 2 and 3): a machine whose states say what is due.
-- Whether display hints are read, and how deep lists may nest, are parameters. What the answers mean is said in Meaning; the size of a file is no matter here.
use Rattle.std.specs.Prelude.{ℕ, zero, suc, ◌+◌, ◌-◌, ◌*◌, Bool, false, ◌&&◌, List, [], ◌∷◌, ltb, eqb}
use Rattle.std.proofs.Math.Option.{Option, none, some}
use Rattle.basics.specs.Choice.{choose}
use Rattle.sexp.specs.declared.carrier.Carrier.{Carrier}
use Rattle.sexp.specs.declared.carrier.Carrier.TheVariants.{Sound, Fault, Deep}
use Rattle.sexp.specs.Decimal.{is_digit}

-- whether a display hint is read, or a bracket is a fault: document 01 wants a fault. This is the one test of it
abbrev pub hints_read : Bool
hints_read = false

-- what follows a string, in d lists
pub data Then : Type 0 where
  after : ℕ → Then  -- after d: what may follow an expression
  shut : ℕ → Then  -- shut d: the bracket that ends a hint, and its string

-- what is due
pub data State : Type 0 where
  due : ℕ → State  -- due d: an expression, in d lists
  string : Then → State  -- string t: a string, then t
  number : Then → ℕ → State  -- number t n: the rest of a string, whose length so far says n, then t
  owed : Then → ℕ → State  -- owed t n: n octets, then t

-- the first byte of a string
unfoldable pub digit : Then → ℕ → Option State
digit t c = choose (is_digit c) (some (number t (c - 48))) none

module _ (hints : Bool) where
  -- the first byte of an expression
  unfoldable pub begin : ℕ → ℕ → Option State
  begin d c =
      choose (eqb c 40) (some (owed (after (suc d)) 0)) (choose (hints && eqb c 91) (some (string (shut d))) (digit (after d) c))

  -- what is due after one byte more, unless none may come or not this one
  unfoldable pub step : State → ℕ → Option State
  step (due d) c = begin d c
  step (string t) c = digit t c
  step (number t n) c =
      choose (eqb c 58) (some (owed t n)) (choose (is_digit c && ltb 0 n) (some (number t (n * 10 + (c - 48)))) none)
  step (owed t (suc n)) c = some (owed t n)
  step (owed (shut d) zero) c = choose (eqb c 93) (some (string (after d))) none
  step (owed (after zero) zero) c = none
  step (owed (after (suc d)) zero) c = choose (eqb c 41) (some (owed (after d) 0)) (begin (suc d) c)

module _ (limit : ℕ) where
  -- the verdict so far, after a list is opened at an offset, in d lists
  unfoldable pub deeper : ℕ → ℕ → Carrier → Carrier
  deeper d at Sound = choose (eqb d limit) (Deep at) Sound
  deeper d at (Fault o) = Fault o
  deeper d at (Deep o) = Deep o

  -- the verdict so far, after one byte more
  unfoldable pub note : State → ℕ → ℕ → Carrier → Carrier
  note (due d) c at v = choose (eqb c 40) (deeper d at v) v
  note (string t) c at v = v
  note (number t n) c at v = v
  note (owed t (suc n)) c at v = v
  note (owed (shut d) zero) c at v = v
  note (owed (after zero) zero) c at v = v
  note (owed (after (suc d)) zero) c at v = choose (eqb c 40) (deeper (suc d) at v) v

-- the verdict at the end of the file
unfoldable pub ended : State → ℕ → Carrier → Carrier
ended (due d) at v = Fault at
ended (string t) at v = Fault at
ended (number t n) at v = Fault at
ended (owed t (suc n)) at v = Fault at
ended (owed (shut d) zero) at v = Fault at
ended (owed (after (suc d)) zero) at v = Fault at
ended (owed (after zero) zero) at v = v

module _ (hints : Bool) (limit : ℕ) where
  -- the verdict, where the bytes from an offset on are known
  unfoldable pub scan : State → ℕ → Carrier → List ℕ → Carrier
  scan q at v [] = ended q at v
  scan q at v (c ∷ w) = elim (step hints q c) [ none ↦ Fault at | some p ↦ scan p (at + 1) (note limit q c at v) w ]

  -- the verdict on a file
  unfoldable pub judgement : List ℕ → Carrier
  judgement s = scan (due 0) 0 Sound s

-- the carrier's verdict on a file, whose lists may nest as deep as the limit
unfoldable pub carrier_of : ℕ → List ℕ → Carrier
carrier_of limit s = judgement hints_read limit s
