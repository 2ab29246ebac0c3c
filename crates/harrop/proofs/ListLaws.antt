-- Which member of a list a number names.
use Prim.Native.Nat.{ℕ, zero, suc, ◌+◌, ◌≤◌, ◌<◌}
use mathlib.Core.Path.{◌≡◌, refl}
use mathlib.Core.List.{List, [], ◌∷◌, ◌++◌}
use mathlib.Core.Option.{none, some}
use native.Mathlib.Omega.{arith}
use lib.ListN.{length, get_elem?}
use Rattle.basics.specs.Choice.{nope}

-- a number that names a member is below the length, and one below it names a member
pub member_below : {A : Type 0} (c : List A) (k : ℕ) (d : A) → get_elem? c k ≡ some d → k < length c
member_below [] k d e = nope e
member_below (x ∷ c) zero d e = omega arith
member_below (x ∷ c) (suc k) d e = omega (arith, member_below c k d e)

pub below-member : {A : Type 0} (c : List A) (k : ℕ) → k < length c → (d : A) × (get_elem? c k ≡ some d)
below-member [] k l = absurd (omega arith)
below-member (x ∷ c) zero l = (x, refl)
below-member (x ∷ c) (suc k) l = below-member c k (omega arith)

pub beyond-none : {A : Type 0} (c : List A) (k : ℕ) → length c ≤ k → get_elem? c k ≡ none
beyond-none [] k l = refl
beyond-none (x ∷ c) zero l = absurd (omega arith)
beyond-none (x ∷ c) (suc k) l = beyond-none c k (omega arith)

-- joining at the end keeps the numbers there are; the one that joins has the next
pub member-kept : {A : Type 0} (c e : List A) (k : ℕ) → k < length c → get_elem? (c ++ e) k ≡ get_elem? c k
member-kept [] e k l = absurd (omega arith)
member-kept (x ∷ c) e zero l = refl
member-kept (x ∷ c) e (suc k) l = member-kept c e k (omega arith)

pub member-joined : {A : Type 0} (c : List A) (x : A) → get_elem? (c ++ (x ∷ [])) (length c) ≡ some x
member-joined [] x = refl
member-joined (y ∷ c) x = member-joined c x
