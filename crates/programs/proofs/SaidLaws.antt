-- How a word of digits is read, octet by octet.
use Prim.Native.Nat.{ℕ, ◌+◌, ◌-◌, ◌*◌, ◌<◌, ◌≤◌, min}
use mathlib.Core.Path.{◌≡◌, refl, sym, ap, ◌∙◌}
use mathlib.Core.Bool.{Bool, true, false, ◌&&◌}
use mathlib.Core.List.{List, [], ◌∷◌}
use Rattle.std.specs.Prelude.{Some, None}
use native.Mathlib.Omega.{arith}
use lib.ListN.{length, get_or, drop, drop_of_length-le}
use Rattle.basics.specs.Choice.{choose}
use Rattle.std.specs.Char.{is_ascii_digit}
use Rattle.sexp.specs.Decimal.{is_digit}
use Rattle.sexp.specs.Number.{largest}
use Rattle.sexp.specs.Words.{every, worth, worth_after}
use Rattle.sexp.proofs.DecimalLaws.{digit-is}
use Rattle.sexp.proofs.NumberLaws.{drop_here}
use Rattle.programs.specs.Said.{said, held}

-- the octets before i are digits, which say `meant`; v is what a machine word holds of it
pub record Reading (w : List ℕ) (v i : ℕ) : Type 0 where
  pub meant : ℕ
  pub clipped : v ≡ min meant largest
  pub rest : worth w ≡ worth_after meant (drop i w)
  pub digits : every is_digit w ≡ every is_digit (drop i w)

pub reading-start : (w : List ℕ) → Reading w 0 0
unfolding worth
reading-start w = record { meant = 0; clipped = omega arith; rest = refl; digits = refl }

-- the octets from i on begin with the one at i
one_more : (w : List ℕ) (i : ℕ) → i < length w → every is_digit (drop i w) ≡ is_digit (get_or w i 0) && every is_digit (drop (i + 1) w)
unfolding every
one_more w i h = ap (every is_digit) (drop_here w i h)

worth-more : (w : List ℕ) (m i : ℕ) → i < length w → worth_after m (drop i w) ≡ worth_after (m * 10 + (get_or w i 0 - 48)) (drop (i + 1) w)
unfolding worth_after
worth-more w m i h = ap (worth_after m) (drop_here w i h)

pub reading-on : (w : List ℕ) (v i r : ℕ) → Reading w v i → i < length w → 48 ≤ get_or w i 0 → get_or w i 0 ≤ 57 → r ≡ min (v * 10 + (get_or w i 0 - 48)) largest → Reading w r (i + 1)
reading-on w v i r n h l u e = record {
  meant = n.meant * 10 + (get_or w i 0 - 48);
  clipped = let c = n.clipped in omega arith;
  rest = n.rest ∙ worth-more w n.meant i h;
  digits = n.digits ∙ one_more w i h ∙ ap (λ (b : Bool). b && every is_digit (drop (i + 1) w)) (digit-is (get_or w i 0) l u);
}

-- std's digits are these
pub no-digit : (c : ℕ) → is_ascii_digit c ≡ false → is_digit c ≡ false
unfolding is_digit
no-digit c e = e

-- what is no word of digits says nothing
pub says_none : (w : List ℕ) → length w ≡ 0 → None ≡ held (said w)
unfolding said
says_none [] h = refl
says_none (c ∷ w) h = absurd (omega arith)

pub says_nothing : (w : List ℕ) (v i : ℕ) → Reading w v i → i < length w → is_digit (get_or w i 0) ≡ false → None ≡ held (said w)
unfolding said
says_nothing [] v i n h e = absurd (omega arith)
says_nothing (c ∷ w) v i n h e =
    let f : every is_digit (c ∷ w) ≡ false = n.digits ∙ one_more (c ∷ w) i h ∙ ap (λ (b : Bool). b && every is_digit (drop (i + 1) (c ∷ w))) e in
    sym (ap (λ (b : Bool). held (choose b (Some (worth (c ∷ w))) None)) f)

-- a word of digits says its number
pub says-number : (w : List ℕ) (v i : ℕ) → Reading w v i → length w ≤ i → (length w ≡ 0 → ⊥) → Some v ≡ held (said w)
unfolding said every worth_after
says-number [] v i n h l = absurd (l refl)
says-number (c ∷ w) v i n h l =
    let z = drop_of_length-le (c ∷ w) {i = i} h in
    let f : every is_digit (c ∷ w) ≡ true = n.digits ∙ ap (every is_digit) z in
    let g : worth (c ∷ w) ≡ n.meant = n.rest ∙ ap (worth_after n.meant) z in
    ap Some (n.clipped ∙ ap (λ (m : ℕ). min m largest) (sym g)) ∙ sym (ap (λ (b : Bool). held (choose b (Some (worth (c ∷ w))) None)) f)
