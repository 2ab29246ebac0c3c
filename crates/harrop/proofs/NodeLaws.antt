-- `nodes` is the number of strip nodes (document 01, "When a strip fits"): the positions of a strip are exactly those at which a part stands, they are listed in file order and so each once,
-- and there are as many as `nodes` says.
use Prim.Native.Nat.{ℕ, zero, suc, ◌<◌}
use mathlib.Core.Path.{◌≡◌, refl, ◌∙◌, ap, subst}
use mathlib.Core.List.Memᴰ
use mathlib.Core.List.{List, [], ◌∷◌, ◌++◌, Memᴰ}
use mathlib.Core.Option.{Option, some}
use mathlib.Core.Logic.{◌⊎◌, inl, inr}
use native.Mathlib.Omega.{arith}
use lib.ListN.{length, get_elem?, length-append, length-map}
use Rattle.basics.specs.Choice.{◌>>=◌, nope}
use Rattle.basics.specs.Each.{Each}
use Rattle.harrop.specs.Formula.{Strip, nodes}
use Rattle.harrop.specs.Position.{Position, parts, part_at, Before, node-first, earlier-part, same-part, within, below, positions, InOrder}

-- as many as nodes
many : (i : ℕ) (ats : List Position) → length (within i ats) ≡ length ats
many i ats = length-map ats (λ at. i ∷ at)

pub nodes-are-the-positions : (P : Strip) → length (positions P) ≡ nodes P
nodes-are-the-positions Strip.top = refl
nodes-are-the-positions (Strip.and P R) =
    omega (arith, length-append (within 0 (positions P)) (within 1 (positions R)), many 0 (positions P), many 1 (positions R), nodes-are-the-positions P, nodes-are-the-positions R)
nodes-are-the-positions (Strip.left P) = ap suc (many 0 (positions P) ∙ nodes-are-the-positions P)
nodes-are-the-positions (Strip.right P) = ap suc (many 0 (positions P) ∙ nodes-are-the-positions P)
nodes-are-the-positions (Strip.some i P) = ap suc (many 0 (positions P) ∙ nodes-are-the-positions P)
nodes-are-the-positions (Strip.all P) = ap suc (many 0 (positions P) ∙ nodes-are-the-positions P)
nodes-are-the-positions (Strip.imp P) = ap suc (many 0 (positions P) ∙ nodes-are-the-positions P)
nodes-are-the-positions (Strip.use₀ k path) = refl
nodes-are-the-positions (Strip.use₁ k path P) = ap suc (many 0 (positions P) ∙ nodes-are-the-positions P)

-- wherever a part stands is listed
abbrev Listed : Strip → Type 0
Listed P = (at : Position) (R : Strip) → part_at P at ≡ some R → Memᴰ at (positions P)

one-listed : (P : Strip) → Listed P → (i : ℕ) (at : Position) (R : Strip) → (get_elem? (P ∷ []) i >>= λ U. part_at U at) ≡ some R → Memᴰ (i ∷ at) (within 0 (positions P))
one-listed P h zero at R e = Memᴰ.map (λ at. 0 ∷ at) (h at R e)
one-listed P h (suc i) at R e = nope e

two-listed : (P T : Strip) → Listed P → Listed T → (i : ℕ) (at : Position) (R : Strip) → (get_elem? (P ∷ T ∷ []) i >>= λ U. part_at U at) ≡ some R → Memᴰ (i ∷ at) (within 0 (positions P) ++ within 1 (positions T))
two-listed P T h k zero at R e = Memᴰ.append_left (within 1 (positions T)) (Memᴰ.map (λ at. 0 ∷ at) (h at R e))
two-listed P T h k (suc zero) at R e = Memᴰ.append_right (within 0 (positions P)) (Memᴰ.map (λ at. 1 ∷ at) (k at R e))
two-listed P T h k (suc (suc i)) at R e = nope e

from-root : (P : Strip) → ((i : ℕ) (at : Position) (R : Strip) → part_at P (i ∷ at) ≡ some R → Memᴰ (i ∷ at) (below P)) → Listed P
from-root P h [] R e = Memᴰ.head refl
from-root P h (i ∷ at) R e = Memᴰ.tail (h i at R e)

below-listed : (P : Strip) (i : ℕ) (at : Position) (R : Strip) → part_at P (i ∷ at) ≡ some R → Memᴰ (i ∷ at) (below P)
below-listed Strip.top i at R e = nope e
below-listed (Strip.and P T) i at R e =
    two-listed P T (from-root P (λ j x U h. below-listed P j x U h)) (from-root T (λ j x U h. below-listed T j x U h)) i at R e
below-listed (Strip.left P) i at R e = one-listed P (from-root P (λ j x U h. below-listed P j x U h)) i at R e
below-listed (Strip.right P) i at R e = one-listed P (from-root P (λ j x U h. below-listed P j x U h)) i at R e
below-listed (Strip.some n P) i at R e = one-listed P (from-root P (λ j x U h. below-listed P j x U h)) i at R e
below-listed (Strip.all P) i at R e = one-listed P (from-root P (λ j x U h. below-listed P j x U h)) i at R e
below-listed (Strip.imp P) i at R e = one-listed P (from-root P (λ j x U h. below-listed P j x U h)) i at R e
below-listed (Strip.use₀ k path) i at R e = nope e
below-listed (Strip.use₁ k path P) i at R e = one-listed P (from-root P (λ j x U h. below-listed P j x U h)) i at R e

pub part-is-listed : (P : Strip) (at : Position) (R : Strip) → part_at P at ≡ some R → Memᴰ at (positions P)
part-is-listed P = from-root P (below-listed P)

-- and a part stands wherever is listed
abbrev Stood : Strip → Position → Type 0
Stood P at = (R : Strip) × (part_at P at ≡ some R)

abbrev Standing : Strip → Type 0
Standing P = (at : Position) → Memᴰ at (positions P) → Stood P at

in-part : (T P : Strip) (i : ℕ) → get_elem? (parts T) i ≡ some P → Standing P → (at : Position) → Memᴰ at (within i (positions P)) → Stood T at
in-part T P i g h at m =
    let (x, n, e) = Memᴰ.of_map (λ at. i ∷ at) (positions P) m in
    let (R, k) = h x n in
    (R, subst (λ (y : Position). part_at T y ≡ some R) e (ap (λ (o : Option Strip). o >>= λ U. part_at U x) g ∙ k))

in_either : (P R : Strip) → Standing P → Standing R → (at : Position) → Memᴰ at (below (Strip.and P R)) → Stood (Strip.and P R) at
in_either P R h k at m = go (Memᴰ.append_cases (within 0 (positions P)) m)
  where
    go : Memᴰ at (within 0 (positions P)) ⊎ Memᴰ at (within 1 (positions R)) → Stood (Strip.and P R) at
    go (inl n) = in-part (Strip.and P R) P 0 refl h at n
    go (inr n) = in-part (Strip.and P R) R 1 refl k at n

root_stands : (P : Strip) → ((at : Position) → Memᴰ at (below P) → Stood P at) → Standing P
root_stands P h at (Memᴰ.head e) = (P, ap (part_at P) e)
root_stands P h at (Memᴰ.tail m) = h at m

below-stands : (P : Strip) (at : Position) → Memᴰ at (below P) → Stood P at
below-stands Strip.top at m = absurd (Memᴰ.not-nil m)
below-stands (Strip.and P R) at m = in_either P R (root_stands P (λ x n. below-stands P x n)) (root_stands R (λ x n. below-stands R x n)) at m
below-stands (Strip.left P) at m = in-part (Strip.left P) P 0 refl (root_stands P (λ x n. below-stands P x n)) at m
below-stands (Strip.right P) at m = in-part (Strip.right P) P 0 refl (root_stands P (λ x n. below-stands P x n)) at m
below-stands (Strip.some j P) at m = in-part (Strip.some j P) P 0 refl (root_stands P (λ x n. below-stands P x n)) at m
below-stands (Strip.all P) at m = in-part (Strip.all P) P 0 refl (root_stands P (λ x n. below-stands P x n)) at m
below-stands (Strip.imp P) at m = in-part (Strip.imp P) P 0 refl (root_stands P (λ x n. below-stands P x n)) at m
below-stands (Strip.use₀ k path) at m = absurd (Memᴰ.not-nil m)
below-stands (Strip.use₁ k path P) at m = in-part (Strip.use₁ k path P) P 0 refl (root_stands P (λ x n. below-stands P x n)) at m

pub listed-is-a-part : (P : Strip) (at : Position) → Memᴰ at (positions P) → (R : Strip) × (part_at P at ≡ some R)
listed-is-a-part P = root_stands P (below-stands P)

-- in file order
root_before : (i : ℕ) (ats : List Position) → Each (Before []) (within i ats)
root_before i [] = tt
root_before i (at ∷ ats) = (node-first, root_before i ats)

before-within : (i : ℕ) (at : Position) (ats : List Position) → Each (Before at) ats → Each (Before (i ∷ at)) (within i ats)
before-within i at [] h = tt
before-within i at (x ∷ ats) h = (same-part h.0, before-within i at ats h.1)

before-across : (at : Position) (ats : List Position) → Each (Before (0 ∷ at)) (within 1 ats)
before-across at [] = tt
before-across at (x ∷ ats) = (earlier-part {i = 0} {j = 1} (omega arith), before-across at ats)

each-joined : {A : Type 0} (P : A → Type 0) (xs ys : List A) → Each P xs → Each P ys → Each P (xs ++ ys)
each-joined P [] ys h k = k
each-joined P (x ∷ xs) ys h k = (h.0, each-joined P xs ys h.1 k)

order-within : (i : ℕ) (ats : List Position) → InOrder ats → InOrder (within i ats)
order-within i [] h = tt
order-within i (at ∷ ats) h = (before-within i at ats h.0, order-within i ats h.1)

order-across : (ats bts : List Position) → InOrder ats → InOrder bts → InOrder (within 0 ats ++ within 1 bts)
order-across [] bts h k = order-within 1 bts k
order-across (at ∷ ats) bts h k =
    (each-joined (Before (0 ∷ at)) (within 0 ats) (within 1 bts) (before-within 0 at ats h.0) (before-across at bts), order-across ats bts h.1 k)

pub positions-in-order : (P : Strip) → InOrder (positions P)
positions-in-order Strip.top = (tt, tt)
positions-in-order (Strip.and P R) = (
  each-joined (Before []) (within 0 (positions P)) (within 1 (positions R)) (root_before 0 (positions P)) (root_before 1 (positions R)),
  order-across (positions P) (positions R) (positions-in-order P) (positions-in-order R),
)
positions-in-order (Strip.left P) = (root_before 0 (positions P), order-within 0 (positions P) (positions-in-order P))
positions-in-order (Strip.right P) = (root_before 0 (positions P), order-within 0 (positions P) (positions-in-order P))
positions-in-order (Strip.some i P) = (root_before 0 (positions P), order-within 0 (positions P) (positions-in-order P))
positions-in-order (Strip.all P) = (root_before 0 (positions P), order-within 0 (positions P) (positions-in-order P))
positions-in-order (Strip.imp P) = (root_before 0 (positions P), order-within 0 (positions P) (positions-in-order P))
positions-in-order (Strip.use₀ k path) = (tt, tt)
positions-in-order (Strip.use₁ k path P) = (root_before 0 (positions P), order-within 0 (positions P) (positions-in-order P))
