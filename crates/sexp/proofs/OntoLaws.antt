-- Spelling in front of what follows is spelling, then what follows; and every spelling has a byte at least.
-- From document 01, "The carrier and the words": "nothing lies between members".
use Prim.Native.Nat.{ℕ, ◌+◌, ◌*◌, ◌<◌}
use mathlib.Core.Path.{◌≡◌, refl, sym, ◌∙◌, ap}
use mathlib.Core.List.{List, [], ◌∷◌, ◌++◌, append_assoc}
use native.Mathlib.Omega.{arith}
use lib.ListN.{length, drop}
use lib.Seq.{drop-append_seam}
use Rattle.sexp.specs.Decimal.{decimal_onto, decimal}
use Rattle.sexp.specs.Sexp.{Sexp, Sexps, str, hinted, list, nil, cons, verbatim_onto, spell_onto, spells_onto, spell, spells}
use Rattle.sexp.proofs.DecimalLaws.{by_digits, onto-small, onto-step, onto-first}

abbrev Front : ℕ → Type 0
Front n = (k : List ℕ) → decimal_onto n k ≡ decimal n ++ k

pub decimal-onto : (n : ℕ) → Front n
unfolding decimal
decimal-onto = by_digits Front one more
  where
    one : (n : ℕ) → n < 10 → Front n
    one n h k = onto-small n k h ∙ ap (λ (x : List ℕ). x ++ k) (sym (onto-small n [] h))

    more : (v d : ℕ) → 0 < v → d < 10 → Front v → Front (v * 10 + d)
    more v d h h' ih k =
        onto-step v d k h h'
        ∙ ih ((48 + d) ∷ k)
        ∙ sym (append_assoc (decimal v) ((48 + d) ∷ []) k)
        ∙ ap (λ (x : List ℕ). x ++ k) (sym (ih ((48 + d) ∷ [])) ∙ sym (onto-step v d [] h h'))

pub verbatim-onto : (bs k : List ℕ) → verbatim_onto bs k ≡ verbatim_onto bs [] ++ k
verbatim-onto bs k =
    decimal-onto (length bs) (58 ∷ (bs ++ k))
    ∙ ap (λ (x : List ℕ). decimal (length bs) ++ (58 ∷ x)) (sym (append_assoc bs [] k))
    ∙ sym (append_assoc (decimal (length bs)) (58 ∷ (bs ++ [])) k)
    ∙ ap (λ (x : List ℕ). x ++ k) (sym (decimal-onto (length bs) (58 ∷ (bs ++ []))))

mutual
  pub spell-onto : (e : Sexp) (k : List ℕ) → spell_onto e k ≡ spell e ++ k
  spell-onto (str bs) k = verbatim-onto bs k
  spell-onto (hinted h bs) k =
      ap (λ (x : List ℕ). 91 ∷ x)
      (verbatim-onto h (93 ∷ verbatim_onto bs k)
      ∙ ap (λ (x : List ℕ). verbatim_onto h [] ++ (93 ∷ x)) (verbatim-onto bs k)
      ∙ sym (append_assoc (verbatim_onto h []) (93 ∷ verbatim_onto bs []) k)
      ∙ ap (λ (x : List ℕ). x ++ k) (sym (verbatim-onto h (93 ∷ verbatim_onto bs []))))
  spell-onto (list xs) k =
      ap (λ (x : List ℕ). 40 ∷ x)
      (spells-onto xs (41 ∷ k)
      ∙ sym (append_assoc (spells xs) (41 ∷ []) k)
      ∙ ap (λ (x : List ℕ). x ++ k) (sym (spells-onto xs (41 ∷ []))))

  pub spells-onto : (xs : Sexps) (k : List ℕ) → spells_onto xs k ≡ spells xs ++ k
  spells-onto nil k = refl
  spells-onto (cons x xs) k =
      spell-onto x (spells_onto xs k)
      ∙ ap (λ (y : List ℕ). spell x ++ y) (spells-onto xs k)
      ∙ sym (append_assoc (spell x) (spells xs) k)
      ∙ ap (λ (y : List ℕ). y ++ k) (sym (spell-onto x (spells xs)))

-- what follows an expression, and what follows the members of a list
pub spell-past : (e : Sexp) (k : List ℕ) → drop (length (spell e)) (spell_onto e k) ≡ k
spell-past e k = ap (drop (length (spell e))) (spell-onto e k) ∙ drop-append_seam (spell e) k

pub spells-past : (xs : Sexps) (k : List ℕ) → drop (length (spells xs)) (spells_onto xs k) ≡ k
spells-past xs k = ap (drop (length (spells xs))) (spells-onto xs k) ∙ drop-append_seam (spells xs) k

-- no spelling is empty
pub spell-some : (e : Sexp) → 0 < length (spell e)
spell-some (str bs) = let (c, r, e, l) = onto-first (length bs) (58 ∷ (bs ++ [])) in omega (arith, ap length e)
spell-some (hinted h bs) = omega arith
spell-some (list xs) = omega arith
