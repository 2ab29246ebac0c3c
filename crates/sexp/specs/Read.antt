-- The expression that a file spells, hinted strings included: one pass over the bytes with the lists that are open. What it builds counts only where the bytes
-- are one expression. From document 01, "The carrier and the words". How deep it nests does not matter here.
use Rattle.std.specs.Prelude.{ℕ, zero, suc, ◌+◌, ◌-◌, ◌*◌, true, false, List, [], ◌∷◌, eqb, take}
use Rattle.std.proofs.Math.Option.{Option, none, some}
use Rattle.sexp.specs.declared.carrier.Carrier.TheVariants.{Sound, Fault, Deep}
use Rattle.sexp.specs.Sexp.{Sexp, Sexps, str, hinted, list, nil, cons}
use Rattle.sexp.specs.Scan.{judgement}

-- one member more
abbrev pub snoc : Sexps → Sexp → Sexps
snoc nil e = cons e nil
snoc (cons x xs) e = cons x (snoc xs e)

-- the lists that are open, the innermost first, each with its members so far; the last holds the file's own expression
abbrev pub add : Sexp → List Sexps → List Sexps
add e [] = []
add e (xs ∷ s) = snoc xs e ∷ s

abbrev pub close : List Sexps → List Sexps
close [] = []
close (xs ∷ s) = add (list xs) s

-- what the next string is
pub data Hint : Type 0 where
  bare : Hint  -- one without a hint
  begun : Hint  -- a hint
  given : List ℕ → Hint  -- one with this hint

abbrev pub put : Hint → List ℕ → List Sexps → List Sexps
put bare b s = add (str b) s
put begun b s = s
put (given h) b s = add (hinted h b) s

abbrev pub next : Hint → List ℕ → Hint
next bare b = bare
next begun b = given b
next (given h) b = bare

-- n bytes belong to a string that is there already; v is what the digits so far say
abbrev pub build : List Sexps → Hint → ℕ → ℕ → List ℕ → List Sexps
build s p n v [] = s
build s p (suc n) v (c ∷ r) = build s p n v r
build s p zero v (c ∷ r) =
    elim (eqb c 40) [
      | true ↦ build (nil ∷ s) p 0 0 r
      | false ↦
          elim (eqb c 41) [
            | true ↦ build (close s) p 0 0 r
            | false ↦
                elim (eqb c 58) [
                  | true ↦ build (put p (take v r) s) (next p (take v r)) v 0 r
                  | false ↦
                      elim (eqb c 91) [
                        | true ↦ build s begun 0 0 r
                        | false ↦ elim (eqb c 93) [ true ↦ build s p 0 0 r | false ↦ build s p 0 (v * 10 + (c - 48)) r ]
                      ]
                ]
          ]
    ]

abbrev pub only : List Sexps → Option Sexp
only [] = none
only (xs ∷ s) = elim xs [ nil ↦ none | cons e es ↦ some e ]

abbrev pub built : List ℕ → Option Sexp
built bs = only (build (nil ∷ []) bare 0 0 bs)

-- the expression, of a file that is one. Whether it is one is asked with hints, `true`, so that a hinted string is read whatever the carrier does with it; the limit of nesting, 0, says
-- nothing here, because what is too deep is an expression all the same and is built alike
unfoldable pub read : List ℕ → Option Sexp
read bs = elim (judgement true 0 bs) [ Sound ↦ built bs | Fault o ↦ none | Deep o ↦ built bs ]
