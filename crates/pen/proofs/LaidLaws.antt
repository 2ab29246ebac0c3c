-- Bytes laid into a buffer: some behind others, byte by byte along a word, where all have room or none has, and into the part of a buffer that is lent for them.
use Prim.Native.Nat.{ℕ, zero, suc, ◌+◌, ◌-◌, ◌≤◌, ◌<◌}
use mathlib.Core.Path.{◌≡◌, refl, sym, ◌∙◌, ap, subst}
use mathlib.Core.List.{List, [], ◌∷◌, ◌++◌, append_assoc, append-nil}
use native.Mathlib.Omega.{arith}
use mathlib.Core.Bool.{Bool, true, false}
use lib.Dec.{ltb}
use borrow.Author.Tests.{ltb-true, ltb-false}
use lib.ListN.{length, get_or, take, drop, set, length-append, length-set, length-drop, drop_of_length-le}
use lib.Seq.{take-suc, take_all, set_out}
use borrow.Rule.Slice.PartMut.{mid_of, post_of, put_mid}
use Rattle.pen.specs.Laid.{largest, counted, laid, Puts}

pub laid-length : (at : ℕ) (w d : List ℕ) → length (laid at w d) ≡ length d
unfolding laid
laid-length at [] d = refl
laid-length at (x ∷ w) d = laid-length (suc at) w (set d (counted at) x) ∙ length-set d (counted at) x

-- places that are counted alike are alike
pub laid-alike : (a b : ℕ) (w d : List ℕ) → counted a ≡ counted b → laid a w d ≡ laid b w d
unfolding laid
laid-alike a b [] d e = refl
laid-alike a b (x ∷ w) d e =
    laid-alike (suc a) (suc b) w (set d (counted a) x) (omega arith)
    ∙ ap (λ (n : ℕ). laid (suc b) w (set d n x)) {x = counted a} {y = counted b} e

-- some bytes behind others
pub laid_then : (at : ℕ) (w t d : List ℕ) → laid (at + length w) t (laid at w d) ≡ laid at (w ++ t) d
unfolding laid
laid_then at [] t d = ap (λ (n : ℕ). laid n t d) {x = at + 0} {y = at} (omega arith)
laid_then at (x ∷ w) t d =
    ap (λ (n : ℕ). laid n t (laid (suc at) w (set d (counted at) x))) {x = at + suc (length w)} {y = suc at + length w} (omega arith)
    ∙ laid_then (suc at) w t (set d (counted at) x)

pub puts_then : {at n m : ℕ} {w t d d1 d2 : List ℕ} → Puts at w d d1 n → Puts n t d1 d2 m → Puts at (w ++ t) d d2 m
puts_then {at} {n} {m} {w} {t} {d} {d1} p q = record {
  bytes =
      q.bytes
      ∙ ap (λ (x : List ℕ). laid n t x) p.bytes
      ∙ laid-alike n (at + length w) t (laid at w d) (omega (arith, p.ahead))
      ∙ laid_then at w t d;
  ahead = omega (arith, p.ahead, q.ahead, length-append w t);
}

-- nothing put
pub puts_none : {at m : ℕ} {d : List ℕ} → m ≡ counted at → Puts at [] d d m
unfolding laid
puts_none {at} e = record { bytes = refl; ahead = omega arith }

-- the same bytes
pub puts-as : {at n : ℕ} {w t d d1 : List ℕ} → w ≡ t → Puts at w d d1 n → Puts at t d d1 n
puts-as {at} {n} {w} {t} {d} {d1} e p = record {
  bytes = p.bytes ∙ ap (λ (x : List ℕ). laid at x d) e;
  ahead = p.ahead ∙ ap (λ (x : List ℕ). counted (at + length x)) e;
}

-- one byte, where it has room and where it has none
pub puts-byte : {at i m : ℕ} (b : ℕ) (d : List ℕ) → i ≡ counted at → m ≡ counted (i + 1) → Puts at (b ∷ []) d (set d i b) m
unfolding laid
puts-byte {at} {i} b d e n = record { bytes = ap (λ (x : ℕ). set d x b) e; ahead = omega arith }

pub puts-out : {at i m : ℕ} (b : ℕ) (d : List ℕ) → i ≡ counted at → m ≡ counted (i + 1) → length d ≤ i → Puts at (b ∷ []) d d m
puts-out {at} {i} {m} b d e n l = subst (λ (x : List ℕ). Puts at (b ∷ []) d x m) (set_out d i b l) (puts-byte b d e n)

-- a word as far as it is put
pub puts-more : {at n m : ℕ} {d d1 d2 : List ℕ} (w : List ℕ) (i : ℕ) → i < length w → Puts at (take i w) d d1 n → Puts n (get_or w i 0 ∷ []) d1 d2 m → Puts at (take (i + 1) w) d d2 m
puts-more w i l p q = puts-as (sym (take-suc w i 0 l) ∙ ap (λ (n : ℕ). take n w) {x = suc i} {y = i + 1} (omega arith)) (puts_then p q)

pub puts-all : {at n : ℕ} {d d1 : List ℕ} (w : List ℕ) (i : ℕ) → length w ≤ i → Puts at (take i w) d d1 n → Puts at w d d1 n
puts-all w i l p = puts-as (take_all i w l) p

-- where all have room, they stand behind what is before their place
set-behind : (f d : List ℕ) (y x : ℕ) → set (f ++ (y ∷ d)) (length f) x ≡ (f ++ (x ∷ [])) ++ d
set-behind [] d y x = refl
set-behind (z ∷ f) d y x = ap (λ (r : List ℕ). z ∷ r) (set-behind f d y x)

laid-behind : (w d f : List ℕ) → length w ≤ length d → length f + length w ≤ 16384 → laid (length f) w (f ++ d) ≡ f ++ (w ++ drop (length w) d)
unfolding laid
laid-behind [] d f l m = refl
laid-behind (x ∷ w) [] f l m = absurd (omega arith)
laid-behind (x ∷ w) (y ∷ d) f l m =
    let e = length-append f (x ∷ []) in
    ap (λ (n : ℕ). laid (suc (length f)) w (set (f ++ (y ∷ d)) n x)) {x = counted (length f)} {y = length f} (omega arith)
    ∙ ap (λ (r : List ℕ). laid (suc (length f)) w r) (set-behind f d y x)
    ∙ ap (λ (n : ℕ). laid n w ((f ++ (x ∷ [])) ++ d)) {x = suc (length f)} {y = length (f ++ (x ∷ []))} (omega arith)
    ∙ laid-behind w d (f ++ (x ∷ [])) (omega arith) (omega arith)
    ∙ append_assoc f (x ∷ []) (w ++ drop (length w) d)

pub laid-over : (w d : List ℕ) → length w ≤ length d → length w ≤ 16384 → laid 0 w d ≡ w ++ drop (length w) d
laid-over w d l m = laid-behind w d [] l (omega arith)

-- where no place has room, the buffer stays as it is
pub laid-nowhere : (at : ℕ) (w : List ℕ) → laid at w [] ≡ []
unfolding laid
laid-nowhere at [] = refl
laid-nowhere at (x ∷ w) = laid-nowhere (suc at) w

-- beyond the buffer's end nothing changes
laid_out : (at : ℕ) (w d : List ℕ) → length d ≤ largest → length d ≤ at → laid at w d ≡ d
unfolding laid
laid_out at [] d s l = refl
laid_out at (x ∷ w) d s l =
    laid_out (suc at) w (set d (counted at) x) (omega (arith, length-set d (counted at) x)) (omega (arith, length-set d (counted at) x)) ∙ set_out d (counted at) x (omega arith)

-- a byte in front takes no part in what is laid behind it
laid-further : (at y : ℕ) (w d : List ℕ) → suc (length d) ≤ largest → laid (suc at) w (y ∷ d) ≡ y ∷ laid at w d
unfolding laid
laid-further at y [] d s = refl
laid-further at y (x ∷ w) d s = go (ltb at largest) refl (λ e l. laid-further (suc at) y w e l)
  where
    go : (t : Bool) → ltb at largest ≡ t → ((e : List ℕ) → suc (length e) ≤ largest → laid (suc (suc at)) w (y ∷ e) ≡ y ∷ laid (suc at) w e) → laid (suc (suc at)) w (set (y ∷ d) (counted (suc at)) x) ≡ y ∷ laid (suc at) w (set d (counted at) x)
    go true t more =
        let u = ltb-true at largest t in
        ap (λ (k : ℕ). laid (suc (suc at)) w (set (y ∷ d) k x)) {x = counted (suc at)} {y = suc (counted at)} (omega arith) ∙ more (set d (counted at) x) (omega (arith, length-set d (counted at) x))
    go false t more =
        let u = ltb-false at largest t in
        ap (laid (suc (suc at)) w) (set_out (y ∷ d) (counted (suc at)) x (omega arith))
        ∙ laid_out (suc (suc at)) w (y ∷ d) (omega arith) (omega arith)
        ∙ ap (λ (r : List ℕ). y ∷ r) (sym (ap (laid (suc at) w) (set_out d (counted at) x (omega arith)) ∙ laid_out (suc at) w d (omega arith) (omega arith)))

-- laid into the part behind i bytes
laid-part : (i at : ℕ) (w d : List ℕ) → length d ≤ largest → i ≤ length d → take i d ++ laid at w (drop i d) ≡ laid (i + at) w d
laid-part zero at w d s l = ap (λ (n : ℕ). laid n w d) {x = at} {y = 0 + at} (omega arith)
laid-part (suc i) at w [] s l = absurd (omega arith)
laid-part (suc i) at w (y ∷ d) s l =
    ap (λ (r : List ℕ). y ∷ r) (laid-part i at w d (omega arith) (omega arith))
    ∙ sym (laid-further (i + at) y w d s)
    ∙ ap (λ (n : ℕ). laid n w (y ∷ d)) {x = suc (i + at)} {y = suc i + at} (omega arith)

-- a buffer's part behind i bytes is lent, and bytes are put into it: they are put into the buffer
pub puts-lent : {i m n r : ℕ} {w d p' : List ℕ} → i ≤ m → i ≤ length d → length d ≤ largest → Puts (m - i) w (mid_of i (length d - i) d) p' n → r ≡ counted (i + n) → Puts m w d (put_mid i (length d - i) d p') r
puts-lent {i} {m} {n} {r} {w} {d} {p'} l k s p e =
    let post : post_of i (length d - i) d ≡ [] = drop_of_length-le (drop i d) {i = length d - i} (rw length-drop (omega arith)) in
    let mid : mid_of i (length d - i) d ≡ drop i d = take_all (length d - i) (drop i d) (rw length-drop (omega arith)) in
    record {
      bytes =
          ap (λ (x : List ℕ). take i d ++ (p' ++ x)) post
          ∙ ap (λ (x : List ℕ). take i d ++ x) (append-nil p' ∙ p.bytes ∙ ap (λ (x : List ℕ). laid (m - i) w x) mid)
          ∙ laid-part i (m - i) w d s k
          ∙ ap (λ (x : ℕ). laid x w d) {x = i + (m - i)} {y = m} (omega arith);
      ahead = omega (arith, p.ahead);
    }
