-- Where a string of a case file lies is known from the answer of `plain` (crate sexp), lies inside the file, and is one place.
use Prim.Native.Nat.{ℕ, ◌+◌, ◌<◌, ◌≤◌, min}
use mathlib.Core.Path.{◌≡◌, refl, sym, ◌∙◌, ap, subst}
use mathlib.Core.List.{List}
use native.Mathlib.Omega.{arith}
use lib.ListN.{length}
use Rattle.sexp.specs.Strings.{Plain, PlainAt}
use Rattle.std.specs.Prelude.{Option, Some, None}
use Rattle.sexp.specs.Sexp.{str}
use Rattle.sexp.proofs.AnswerLaws.{plain-inside, plain-answer}
use Rattle.sexp.proofs.OntoLaws.{spell-some}
use Rattle.programs.specs.StringAt.{StringAt, starts, ends}

module _ {s : List ℕ} {at : ℕ} {o : Option (ℕ × ℕ)} where
  pub no-string : o ≡ None → PlainAt s at o → StringAt s at (length s) (length s)
  no-string e p = record { octets = None; stands = subst (λ (x : Option (ℕ × ℕ)). PlainAt s at x) e p; start = refl; end = refl }

  pub a-string : {b n : ℕ} → o ≡ Some (b, n) → PlainAt s at o → StringAt s at b (b + n)
  a-string {b = b} {n = n} e p = record { octets = Some (b, n); stands = subst (λ (x : Option (ℕ × ℕ)). PlainAt s at x) e p; start = refl; end = refl }

pub string-inside : {s : List ℕ} {at b n : ℕ} → Plain s at b n → (min at (length s) ≤ b + n) × ((b ≤ b + n) × (b + n ≤ length s))
string-inside q = let k = plain-inside q in let n = q.ends in (omega arith, (omega arith, omega arith))

pub string-once : {s : List ℕ} {at b c b' c' : ℕ} → StringAt s at b c → StringAt s at b' c' → (b ≡ b') × (c ≡ c')
string-once {s = s} {at = at} p q =
    let e = plain-answer s at p.octets q.octets p.stands q.stands in
    (p.start ∙ ap (starts (length s)) e ∙ sym q.start, p.end ∙ ap (ends (length s)) e ∙ sym q.end)

-- a string that starts at or after `first`, inside the file, ends there too
pub string-after : (first at n from to : ℕ) → (first ≤ at) × (at ≤ n) → (min at n ≤ to) × ((from ≤ to) × (to ≤ n)) → (first ≤ to) × (to ≤ n)
string-after first at n from to (l, h) (m, (k, j)) = (omega arith, omega arith)

-- before the end of the file a string ends further on than it starts
ends-on : (s : List ℕ) (at : ℕ) {to : ℕ} (o : Option (ℕ × ℕ)) → PlainAt s at o → to ≡ ends (length s) o → at < length s → at < to
ends-on s at (Some (b, n)) p e h = let l = spell-some (str p.octets) in let q = p.ends in omega arith
ends-on s at None p e h = omega arith

pub string-ends-on : {s : List ℕ} {at from to : ℕ} → StringAt s at from to → at < length s → at < to
string-ends-on {s = s} {at = at} q h = ends-on s at q.octets q.stands q.end h
