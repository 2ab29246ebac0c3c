-- Signs that another sign begins, along a text.
use Prim.Native.Nat.{ℕ, ◌+◌, ◌<◌, ◌≤◌}
use mathlib.Core.Path.{◌≡◌, refl, sym, ◌∙◌, ap}
use mathlib.Core.List.{List, [], ◌∷◌}
use mathlib.Core.Option.{Option, none, some}
use native.Mathlib.Omega.{arith}
use lib.ListN.{length, drop, get_or}
use borrow.Author.Tests.{eq-eqb, ne_eqb}
use Rattle.fof_tokens.specs.declared.Kind.{Kind}
use Rattle.fof_tokens.specs.declared.Kind.TheVariants as kind
use Rattle.fof_tokens.specs.Rule.{empty, just}
use Rattle.fof_tokens.specs.Machine.{Sort, token, Row, step, ended, note, scan}
use Rattle.fof_tokens.specs.Begins.{one_more, after_tilde, after_less}
use Rattle.fof_tokens.proofs.ScanLaws.{scan-end, halts, goes, inside-text, full}

-- one byte that is known
pub goes_by : (q q' : List Row) (at b : ℕ) (last : Option (Sort × ℕ)) (t : List ℕ) → (b ≡ 0 → ⊥) → get_or t at 0 ≡ b → step b q ≡ q' →
    scan q at last (drop at t) ≡ scan q' (at + 1) (note (ended q) at last) (drop (at + 1) t)
goes_by q q' at b last t n h e = goes q q' at last t (inside-text t at (λ z. n (sym h ∙ z))) (ap (λ (x : ℕ). step x q) h ∙ e)

pub two-on : (at : ℕ) → at + 1 + 1 ≡ at + 2
two-on at = omega arith

pub one-more-end : (short long : Kind) (b at : ℕ) (t : List ℕ) → length t ≤ at → some (token short, at) ≡ scan (one_more short b long) at none (drop at t)
unfolding one_more
one-more-end short long b at t h = sym (scan-end (one_more short b long) at none t h)

pub one-more-other : (short long : Kind) (b at : ℕ) (t : List ℕ) → (get_or t at 0 ≡ b → ⊥) →
    some (token short, at) ≡ scan (one_more short b long) at none (drop at t)
unfolding one_more
one-more-other short long b at t h = sym (halts (one_more short b long) at none t (rw (ne_eqb (get_or t at 0) b h) refl))

pub one-more-same : (short long : Kind) (b at : ℕ) (t : List ℕ) → at < length t → get_or t at 0 ≡ b →
    some (token long, at + 1) ≡ scan (one_more short b long) at none (drop at t)
unfolding one_more
one-more-same short long b at t l h =
    sym (goes (one_more short b long) ((token long, empty) ∷ []) at none t l (rw (eq-eqb (get_or t at 0) b h) refl)
    ∙ full (token long) (at + 1) (some (token short, at)) (drop (at + 1) t))

pub tilde-nor : (at : ℕ) (t : List ℕ) → get_or t at 0 ≡ 124 → some (token kind.Nor, at + 1) ≡ scan after_tilde at none (drop at t)
unfolding after_tilde
tilde-nor at t h =
    sym (goes_by after_tilde ((token kind.Nor, empty) ∷ []) at 124 none t (λ z. omega arith) h refl
    ∙ full (token kind.Nor) (at + 1) (some (token kind.Not, at)) (drop (at + 1) t))

pub tilde-nand : (at : ℕ) (t : List ℕ) → get_or t at 0 ≡ 38 → some (token kind.Nand, at + 1) ≡ scan after_tilde at none (drop at t)
unfolding after_tilde
tilde-nand at t h =
    sym (goes_by after_tilde ((token kind.Nand, empty) ∷ []) at 38 none t (λ z. omega arith) h refl
    ∙ full (token kind.Nand) (at + 1) (some (token kind.Not, at)) (drop (at + 1) t))

pub tilde-not : (at : ℕ) (t : List ℕ) → (get_or t at 0 ≡ 124 → ⊥) → (get_or t at 0 ≡ 38 → ⊥) →
    some (token kind.Not, at) ≡ scan after_tilde at none (drop at t)
unfolding after_tilde
tilde-not at t h k = sym (halts after_tilde at none t (rw (ne_eqb (get_or t at 0) 124 h) (rw (ne_eqb (get_or t at 0) 38 k) refl)))

-- <= or <=>
pub less_equal : (at : ℕ) (t : List ℕ) → get_or t at 0 ≡ 61 →
    scan (one_more kind.ImpliedBy 62 kind.Iff) (at + 1) none (drop (at + 1) t) ≡ scan after_less at none (drop at t)
unfolding after_less one_more
less_equal at t h = sym (goes_by after_less (one_more kind.ImpliedBy 62 kind.Iff) at 61 none t (λ z. omega arith) h refl)

pub less_none : (at : ℕ) (t : List ℕ) → (get_or t at 0 ≡ 61 → ⊥) → (get_or t at 0 ≡ 126 → ⊥) → none ≡ scan after_less at none (drop at t)
unfolding after_less
less_none at t h k = sym (halts after_less at none t (rw (ne_eqb (get_or t at 0) 61 h) (rw (ne_eqb (get_or t at 0) 126 k) refl)))

-- <~>
wave : (at : ℕ) (t : List ℕ) → get_or t at 0 ≡ 126 →
    scan after_less at none (drop at t) ≡ scan ((token kind.Xor, just 62) ∷ []) (at + 1) none (drop (at + 1) t)
unfolding after_less
wave at t h = goes_by after_less ((token kind.Xor, just 62) ∷ []) at 126 none t (λ z. omega arith) h refl

pub wave-none : (at : ℕ) (t : List ℕ) → get_or t at 0 ≡ 126 → (get_or t (at + 1) 0 ≡ 62 → ⊥) → none ≡ scan after_less at none (drop at t)
wave-none at t h k =
    sym (wave at t h ∙ halts ((token kind.Xor, just 62) ∷ []) (at + 1) none t (rw (ne_eqb (get_or t (at + 1) 0) 62 k) refl))

pub wave-more : (at : ℕ) (t : List ℕ) → get_or t at 0 ≡ 126 → get_or t (at + 1) 0 ≡ 62 → some (token kind.Xor, at + 2) ≡ scan after_less at none (drop at t)
wave-more at t h k = sym (wave at t h
    ∙ goes_by ((token kind.Xor, just 62) ∷ []) ((token kind.Xor, empty) ∷ []) (at + 1) 62 none t (λ z. omega arith) k refl
    ∙ full (token kind.Xor) (at + 1 + 1) none (drop (at + 1 + 1) t)
    ∙ ap (λ (x : ℕ). some (token kind.Xor, x)) (two-on at))
