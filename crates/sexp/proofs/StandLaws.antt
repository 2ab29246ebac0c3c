-- What stands at an offset of any bytes: only one expression does, and a list's members stand one after the other up to its closing parenthesis.
-- Offsets are those that a reader of the bytes computes: `at + 1` after a parenthesis, `at + length (spell x)` after an expression.
-- From document 01, "The carrier and the words": a list is its members between parentheses; nothing lies between members.
use Prim.Native.Nat.{ℕ, ◌+◌, ◌<◌, ◌≤◌}
use mathlib.Core.Path.{◌≡◌, refl, sym, ◌∙◌, ap}
use mathlib.Core.Bool.{Bool, true, false}
use mathlib.Core.List.{List, [], ◌∷◌, ◌++◌}
use native.Mathlib.Omega.{arith}
use lib.Dec.{ltb}
use lib.ListN.{length, get_or, drop, length-drop, get_or-eq_default}
use lib.Seq.{drop-drop, get_or-drop}
use borrow.Author.Tests.{ltb-true, ltb-false}
use Rattle.sexp.specs.Sexp.{Sexp, Sexps, str, hinted, list, nil, cons, spell_onto, spells_onto, spell, spells, nesting, Stands, StandsAll}
use Rattle.sexp.proofs.DecimalLaws.{onto-first}
use Rattle.sexp.proofs.NumberLaws.{drop_here}
use Rattle.sexp.proofs.SpellLaws.{spell-once, spells-once, spell-length, spells-length, spell-first, verbatim-once}
use Rattle.sexp.proofs.OntoLaws.{spell-past, spell-some}

-- the byte at an offset, and the bytes after it, where the bytes from there on are known
pub byte_at : (s : List ℕ) (at : ℕ) (w : List ℕ) → drop at s ≡ w → get_or s at 0 ≡ get_or w 0 0
byte_at s at w e =
    ap (λ (i : ℕ). get_or s i 0) {x = at} {y = at + 0} (omega arith) ∙ sym (get_or-drop at s 0 0) ∙ ap (λ (x : List ℕ). get_or x 0 0) e

pub after-byte : (s : List ℕ) (at : ℕ) (w : List ℕ) → drop at s ≡ w → drop (at + 1) s ≡ drop 1 w
after-byte s at w e = sym (drop-drop 1 at s) ∙ ap (drop 1) e

-- where a byte is not 0, there is one
pub byte_inside : (s : List ℕ) (at c : ℕ) → get_or s at 0 ≡ c → 0 < c → at < length s
byte_inside s at c e h = go (ltb at (length s)) refl
  where
    go : (b : Bool) → ltb at (length s) ≡ b → at < length s
    go true t = ltb-true at (length s) t
    go false t = absurd (omega (arith, e, get_or-eq_default s 0 (ltb-false at (length s) t)))

pub byte-then : (s : List ℕ) (at c : ℕ) → get_or s at 0 ≡ c → 0 < c → drop at s ≡ c ∷ drop (at + 1) s
byte-then s at c e h = drop_here s at (byte_inside s at c e h) ∙ ap (λ (x : ℕ). x ∷ drop (at + 1) s) e

module _ {s : List ℕ} {at : ℕ} where
  -- an expression ends inside the bytes
  pub stands-inside : {e : Sexp} → Stands s at e → at + length (spell e) ≤ length s
  stands-inside {e} h =
      let n = sym (length-drop at s) ∙ ap length h.spelt ∙ spell-length e h.rest in
      let m = spell-some e in
      omega arith

  pub stands-before : {e : Sexp} → Stands s at e → at < length s
  stands-before {e} h = omega (arith, stands-inside h, spell-some e)

  pub all-before : {xs : Sexps} → StandsAll s at xs → at < length s
  all-before {xs} h = omega (arith, length-drop at s, ap length h.spelt, spells-length xs (41 ∷ h.rest))

  -- what follows it
  pub stands-past : {e : Sexp} (h : Stands s at e) → drop (at + length (spell e)) s ≡ h.rest
  stands-past {e} h = sym (drop-drop (length (spell e)) at s) ∙ ap (drop (length (spell e))) h.spelt ∙ spell-past e h.rest

  -- only one expression stands at an offset, and only one row of members
  pub stands-once : {a b : Sexp} → Stands s at a → Stands s at b → a ≡ b
  stands-once {a} {b} h g = (spell-once a b h.rest g.rest (sym h.spelt ∙ g.spelt)).0

  pub all_once : {xs ys : Sexps} → StandsAll s at xs → StandsAll s at ys → xs ≡ ys
  all_once {xs} {ys} h g = (spells-once xs ys h.rest g.rest (sym h.spelt ∙ g.spelt)).0

  pub string-once : {w v : List ℕ} → Stands s at (str w) → Stands s at (str v) → w ≡ v
  string-once {w} {v} h g = (verbatim-once w v h.rest g.rest (sym h.spelt ∙ g.spelt)).0

  -- a list opens, and its members stand after that
  pub list-opens : {xs : Sexps} → Stands s at (list xs) → get_or s at 0 ≡ 40
  list-opens {xs} h = byte_at s at (spell_onto (list xs) h.rest) h.spelt

  pub members-stand : {xs : Sexps} → Stands s at (list xs) → StandsAll s (at + 1) xs
  members-stand {xs} h = record { rest = h.rest; spelt = after-byte s at (spell_onto (list xs) h.rest) h.spelt }

  -- the first member, those after it, and the closing parenthesis
  pub first-stands : {x : Sexp} {xs : Sexps} → StandsAll s at (cons x xs) → Stands s at x
  first-stands {x} {xs} h = record { rest = spells_onto xs (41 ∷ h.rest); spelt = h.spelt }

  pub others-stand : {x : Sexp} {xs : Sexps} → StandsAll s at (cons x xs) → StandsAll s (at + length (spell x)) xs
  unfolding first-stands
  others-stand {x} {xs} h = record { rest = h.rest; spelt = stands-past (first-stands h) }

  pub none-closes : StandsAll s at nil → get_or s at 0 ≡ 41
  none-closes h = byte_at s at (41 ∷ h.rest) h.spelt

  -- and back
  pub list-stands : {xs : Sexps} → get_or s at 0 ≡ 40 → StandsAll s (at + 1) xs → Stands s at (list xs)
  list-stands {xs} b h = record { rest = h.rest; spelt = byte-then s at 40 b (omega arith) ∙ ap (λ (w : List ℕ). 40 ∷ w) h.spelt }

  pub none-stand : get_or s at 0 ≡ 41 → StandsAll s at nil
  none-stand b = record { rest = drop (at + 1) s; spelt = byte-then s at 41 b (omega arith) }

  pub more-stand : {x : Sexp} {xs : Sexps} → Stands s at x → StandsAll s (at + length (spell x)) xs → StandsAll s at (cons x xs)
  more-stand {x} {xs} h g = record { rest = g.rest; spelt = h.spelt ∙ ap (spell_onto x) (sym (stands-past h) ∙ g.spelt) }

  -- which of them it is, by the byte
  pub opens-list : {e : Sexp} → Stands s at e → get_or s at 0 ≡ 40 → (xs : Sexps) × (e ≡ list xs)
  opens-list {e = str bs} h b =
      let (c, r, f, l) = onto-first (length bs) (58 ∷ (bs ++ h.rest)) in
      absurd (omega (arith, b, byte_at s at (c ∷ r) (h.spelt ∙ f), l))
  opens-list {e = hinted t bs} h b = absurd (omega (arith, b, byte_at s at (spell_onto (hinted t bs) h.rest) h.spelt))
  opens-list {e = list xs} h b = (xs, refl)

  pub opens_not : {e : Sexp} → Stands s at e → (get_or s at 0 ≡ 40 → ⊥) → nesting e ≡ 0
  opens_not {e = str bs} h n = refl
  opens_not {e = hinted t bs} h n = refl
  opens_not {e = list xs} h n = absurd (n (list-opens h))

  pub no-closing : {e : Sexp} → Stands s at e → get_or s at 0 ≡ 41 → ⊥
  no-closing {e} h b = spell-first e h.rest (sym (byte_at s at (spell_onto e h.rest) h.spelt) ∙ b)

  pub closes-none : {xs : Sexps} → StandsAll s at xs → get_or s at 0 ≡ 41 → xs ≡ nil
  closes-none {xs = nil} h b = refl
  closes-none {xs = cons x xs} h b = absurd (no-closing (first-stands h) b)

  pub closes-not : {xs : Sexps} → StandsAll s at xs → (get_or s at 0 ≡ 41 → ⊥) → (x : Sexp) × (ys : Sexps) × (xs ≡ cons x ys)
  closes-not {xs = nil} h n = absurd (n (none-closes h))
  closes-not {xs = cons x xs} h n = (x, xs, refl)

-- how long a list is
pub list_length : (xs : Sexps) → length (spell (list xs)) ≡ 1 + length (spells xs) + 1
list_length xs = omega (arith, spells-length xs (41 ∷ []))

pub cons-length : (x : Sexp) (xs : Sexps) → length (spells (cons x xs)) ≡ length (spell x) + length (spells xs)
cons-length x xs = spell-length x (spells xs)

-- a whole file
pub whole-stands : {s : List ℕ} {e : Sexp} → s ≡ spell e → Stands s 0 e
whole-stands h = record { rest = []; spelt = h }
