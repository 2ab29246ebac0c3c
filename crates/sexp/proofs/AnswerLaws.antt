-- The functions at an offset have one answer for every input; and what is known where the answer is known.
use Prim.Native.Nat.{ℕ, ◌+◌, ◌≤◌}
use mathlib.Core.Path.{◌≡◌, refl, ap, ap₂, subst}
use mathlib.Core.List.{List}
use native.Mathlib.Omega.{arith}
use lib.ListN.{length}
use Rattle.std.specs.Prelude.{Option, Some, None}
use Rattle.sexp.specs.Sexp.{Sexp, str, spell, nesting, Stands}
use Rattle.sexp.specs.Strings.{Plain, PlainAt}
use Rattle.sexp.specs.Past.{Ends, PastAt}
use Rattle.sexp.proofs.StandLaws.{stands-inside, stands-once, string-once}

-- where the answer is known
pub plain-span : {s : List ℕ} {at b n : ℕ} {r : Option (ℕ × ℕ)} → r ≡ Some (b, n) → PlainAt s at r → Plain s at b n
plain-span {s} {at} e h = subst (λ (x : Option (ℕ × ℕ)). PlainAt s at x) e h

pub plain-nothing : {s : List ℕ} {at : ℕ} {r : Option (ℕ × ℕ)} → r ≡ None → PlainAt s at r → (w : List ℕ) → Stands s at (str w) → ⊥
plain-nothing {s} {at} e h = subst (λ (x : Option (ℕ × ℕ)). PlainAt s at x) e h

pub plain-inside : {s : List ℕ} {at b n : ℕ} → Plain s at b n → b + n ≤ length s
plain-inside h = omega (arith, h.ends, stands-inside h.stands)

pub past_next : {s : List ℕ} {at nest n : ℕ} {r : Option ℕ} → r ≡ Some n → PastAt s at nest r → Ends s at nest n
past_next {s} {at} {nest} e h = subst (λ (x : Option ℕ). PastAt s at nest x) e h

pub past-nothing : {s : List ℕ} {at nest : ℕ} {r : Option ℕ} → r ≡ None → PastAt s at nest r → (e : Sexp) → Stands s at e → nesting e ≤ nest → ⊥
past-nothing {s} {at} {nest} e h = subst (λ (x : Option ℕ). PastAt s at nest x) e h

-- one answer for every input
pub plain-answer : (s : List ℕ) (at : ℕ) (r r' : Option (ℕ × ℕ)) → PlainAt s at r → PlainAt s at r' → r ≡ r'
plain-answer s at (Some (b, n)) (Some (c, m)) h g =
    let e = string-once h.stands g.stands in
    let f = ap (λ (w : List ℕ). length (spell (str w))) e in
    let k = ap length e in
    let p : b ≡ c = omega (arith, f, k, h.ends, g.ends, h.count, g.count) in
    let q : n ≡ m = omega (arith, k, h.count, g.count) in
    ap₂ (λ (x y : ℕ). Some (x, y)) p q
plain-answer s at (Some (b, n)) None h g = absurd (g h.octets h.stands)
plain-answer s at None (Some (c, m)) h g = absurd (h g.octets g.stands)
plain-answer s at None None h g = refl

pub past-answer : (s : List ℕ) (at nest : ℕ) (r r' : Option ℕ) → PastAt s at nest r → PastAt s at nest r' → r ≡ r'
past-answer s at nest (Some n) (Some m) h g =
    let e = ap (λ (x : Sexp). length (spell x)) (stands-once h.stands g.stands) in
    ap Some {x = n} {y = m} (omega (arith, e, h.ends, g.ends))
past-answer s at nest (Some n) None h g = absurd (g h.expression h.stands h.shallow)
past-answer s at nest None (Some m) h g = absurd (h g.expression g.stands g.shallow)
past-answer s at nest None None h g = refl
