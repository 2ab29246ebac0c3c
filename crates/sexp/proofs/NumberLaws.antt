-- How a decimal number is read digit by digit where it stands in bytes, and where it ends.
use Prim.Native.Nat.{ℕ, ◌+◌, ◌-◌, ◌*◌, ◌<◌, ◌≤◌, min}
use mathlib.Core.Path.{◌≡◌, refl, sym, ap, ◌∙◌}
use mathlib.Core.Bool.{true, false}
use mathlib.Core.List.{List, ◌∷◌}
use native.Mathlib.Numerals.{add-one}
use native.Mathlib.Omega.{arith}
use lib.ListN.{length, get_or, drop, get_or-eq_default}
use lib.Seq.{drop-cons}
use Rattle.sexp.specs.Decimal.{decimal_onto, is_digit}
use Rattle.sexp.specs.Number.{largest, Digits, Number}
use Rattle.sexp.proofs.DecimalLaws.{digit_low, digit-high, onto-small, onto-step}

-- the rest of the bytes from an offset on
pub drop_here : (s : List ℕ) (at : ℕ) → at < length s → drop at s ≡ get_or s at 0 ∷ drop (at + 1) s
drop_here s at h = drop-cons s at 0 h ∙ rw add-one refl

-- a digit stands for its value
digit-here : (s : List ℕ) (i d : ℕ) → i < length s → is_digit (get_or s i 0) ≡ true → d ≡ get_or s i 0 - 48 → drop i s ≡ (48 + d) ∷ drop (i + 1) s
digit-here s i d h e f =
    let lo = digit_low (get_or s i 0) e in
    drop_here s i h ∙ ap (λ (x : ℕ). x ∷ drop (i + 1) s) {x = get_or s i 0} {y = 48 + d} (omega arith)

module _ (s : List ℕ) (at : ℕ) where
  pub digits-start : at < length s → is_digit (get_or s at 0) ≡ true → Digits s at (get_or s at 0 - 48) (at + 1)
  digits-start h e =
      let hi = digit-high (get_or s at 0) e in
      let d = get_or s at 0 - 48 in
      record {
        worth = d;
        clipped = omega arith;
        after = omega arith;
        inside = omega arith;
        reads = digit-here s at d h e refl ∙ sym (onto-small d (drop (at + 1) s) (omega arith));
      }

  pub digits_more : (v i v' : ℕ) → Digits s at v i → i < length s → (v ≡ 0 → ⊥) → is_digit (get_or s i 0) ≡ true → v' ≡ min (v * 10 + (get_or s i 0 - 48)) largest → Digits s at v' (i + 1)
  digits_more v i v' r h n e g =
      let c = r.clipped in
      let a = r.after in
      let hi = digit-high (get_or s i 0) e in
      let d = get_or s i 0 - 48 in
      record {
        worth = r.worth * 10 + d;
        clipped = omega (arith, c, g);
        after = omega arith;
        inside = omega arith;
        reads = r.reads
            ∙ ap (decimal_onto r.worth) (digit-here s i d h e refl)
            ∙ sym (onto-step r.worth d (drop (i + 1) s) (omega (arith, c, n)) (omega arith));
      }

  pub over_zero : (v i : ℕ) → Digits s at v i → v ≡ 0 → Number s at v i
  over_zero v i r z = record { digits = r; over = λ h. absurd (omega (arith, r.clipped, z, h)) }

  pub over-digit : (v i : ℕ) → Digits s at v i → is_digit (get_or s i 0) ≡ false → Number s at v i
  over-digit v i r e = record { digits = r; over = λ h. e }

  pub over-end : (v i : ℕ) → Digits s at v i → length s ≤ i → Number s at v i
  unfolding is_digit
  over-end v i r h = over-digit v i r (ap is_digit (get_or-eq_default s 0 h))
