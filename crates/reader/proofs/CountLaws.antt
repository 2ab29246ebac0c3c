-- How the members of a list are counted where they stand: what the loop over them is proved by (document 01, refusal 6).
use Prim.Native.Nat.{ℕ, suc, ◌+◌, ◌-◌, ◌<◌, ◌≤◌}
use mathlib.Core.Path.{◌≡◌, sym, ◌∙◌, ap, ap₂, subst}
use mathlib.Core.List.{List}
use native.Mathlib.Omega.{arith}
use lib.ListN.{length, get_or}
use Rattle.std.specs.Prelude.{Result, Ok, Err}
use Rattle.basics.specs.Choice.{maybe}
use Rattle.sexp.specs.Sexp.{Sexp, Sexps, cons, spell, nesting, nestings, Stands, StandsAll}
use Rattle.sexp.specs.Past.{Ends}
use Rattle.sexp.proofs.OntoLaws.{spell-some}
use Rattle.sexp.proofs.StandLaws.{stands-once, stands-inside, first-stands, others-stand, closes-none, closes-not}
use Rattle.packet.specs.File.{member_at}
use Rattle.packet.specs.Refusal.{number}
use Rattle.reader.specs.Judged.{count_in}

-- n members are counted, and these are left at i
abbrev count_left : ℕ → ℕ → Sexps → Result ℕ ℕ
count_left n i xs = maybe (member_at (257 - n) i xs) (Ok (n + number xs)) Err

pub record Counting (s : List ℕ) (want : Result ℕ ℕ) (i n : ℕ) : Type 0 where
  pub left : Sexps
  pub stand : StandsAll s i left
  pub shallow : nestings left ≤ 64
  pub same : count_left n i left ≡ want

pub counting-start : {s : List ℕ} {at : ℕ} {xs : Sexps} → StandsAll s at xs → nestings xs ≤ 64 → Counting s (count_in at xs) at 0
unfolding count_in
counting-start {at = at} {xs = xs} h l = record {
  left = xs;
  stand = h;
  shallow = l;
  same = ap (λ (m : ℕ). maybe (member_at 257 at xs) (Ok m) Err) {x = 0 + number xs} {y = number xs} (omega arith);
}

-- what is past an expression lies further on, and inside
pub past-further : {s : List ℕ} {i nest to : ℕ} → Ends s i nest to → (i < to) × (to ≤ length s)
past-further e = let a = spell-some e.expression in let b = stands-inside e.stands in let c = e.ends in (omega arith, omega arith)

module _ {s : List ℕ} {want : Result ℕ ℕ} {i n : ℕ} (c : Counting s want i n) where
  pub counting-end : get_or s i 0 ≡ 41 → Ok n ≡ want
  unfolding member_at
  counting-end b = ap Ok {x = n} {y = n + 0} (omega arith) ∙ sym (ap (count_left n i) (closes-none c.stand b)) ∙ c.same

  module _ (ne : get_or s i 0 ≡ 41 → ⊥) where
    pub counting-over : n ≡ 257 → Err i ≡ want
    unfolding member_at
    counting-over e =
        let (x, xs, q) = closes-not c.stand ne in
        sym (ap (λ (m : ℕ). maybe (member_at m i (cons x xs)) (Ok (n + number (cons x xs))) Err) {x = 257 - n} {y = 0} (omega arith))
        ∙ sym (ap (count_left n i) q)
        ∙ c.same

    pub counting-none : {r : Result ℕ ℕ} → ((e : Sexp) → Stands s i e → nesting e ≤ 64 → ⊥) → r ≡ want
    counting-none f =
        let (x, xs, q) = closes-not c.stand ne in
        let a = subst (StandsAll s i) q c.stand in
        let m = ap nestings q in
        let l = c.shallow in
        absurd (f x (first-stands a) (omega arith))

    pub counting-next : {to : ℕ} → n < 257 → Ends s i 64 to → Counting s want to (n + 1)
    unfolding member_at
    counting-next {to} h e =
        let (x, xs, q) = closes-not c.stand ne in
        let a = subst (StandsAll s i) q c.stand in
        let m = ap nestings q in
        let l = c.shallow in
        let z : n + suc (number xs) ≡ n + 1 + number xs = omega arith in
        let t : i + length (spell x) ≡ to = ap (λ (y : Sexp). i + length (spell y)) (stands-once (first-stands a) e.stands) ∙ sym e.ends in
        record {
          left = xs;
          stand = subst (λ (j : ℕ). StandsAll s j xs) t (others-stand a);
          shallow = omega arith;
          same =
              sym (ap₂ (λ (j : ℕ) (k : ℕ). maybe (member_at (257 - (n + 1)) j xs) (Ok k) Err) t z)
              ∙ sym (ap (λ (k : ℕ). maybe (member_at k i (cons x xs)) (Ok (n + suc (number xs))) Err) {x = 257 - n} {y = suc (257 - (n + 1))} (omega arith))
              ∙ sym (ap (count_left n i) q)
              ∙ c.same;
        }
