-- Bytes of one class: the library's count of them is span.
use Prim.Native.Nat.{ℕ}
use mathlib.Core.Path.{◌≡◌, refl, sym}
use mathlib.Core.Bool.{Bool, true, false}
use mathlib.Core.List.{List, [], ◌∷◌}
use native.Mathlib.Omega.{arith}
use Rattle.std.specs.List.{prefix_len}
use Rattle.fof_tokens.specs.Runs.{span}
use Rattle.fof_tokens.proofs.ScanLaws.{span_more, span_none}

pub span-prefix : (t : ℕ → Bool) (w : List ℕ) → prefix_len t w ≡ span t w
unfolding span
span-prefix t [] = refl
span-prefix t (c ∷ w) = go (t c) refl (span-prefix t w)
  where
    go : (b : Bool) → t c ≡ b → prefix_len t w ≡ span t w → prefix_len t (c ∷ w) ≡ span t (c ∷ w)
    go true e ih = rw e (let z = span_more t c w e in omega arith)
    go false e ih = rw e (sym (span_none t c w e))
