-- Every strip that is a proof of a packet stands for a uniform derivation without cut in Figure 1, rules on the left in any order and goal on the right, over the packet's signature
-- (document 01, demand 3 and "What the desk judges").
use Prim.Native.Nat.{ℕ}
use mathlib.Core.Path.{◌≡◌, sym, subst}
use mathlib.Core.List.Permᴰ
use mathlib.Core.List.{List, [], ◌∷◌, map}
use native.Mathlib.Omega.{arith}
use Rattle.basics.specs.Each.{Each}
use Rattle.harrop.specs.Formula.{Term, Goal, Clause, Strip}
use Rattle.harrop.specs.Bindings.{value_of}
use Rattle.harrop.specs.Place.{Plain, listed, at_start, root}
use Rattle.harrop.specs.Proves.{ProvesAt}
use Rattle.harrop.specs.Check.{Judged, check_at}
use Rattle.harrop.specs.Scoped.{Fair}
use Rattle.harrop.proofs.Judgement.{accepted-is-a-proof}
use Rattle.calculus.specs.Formula.{Formula}
use Rattle.calculus.specs.Substitution.{in_formula}
use Rattle.calculus.specs.Multiset.{◌≈◌}
use Rattle.calculus.specs.Signature.{Over, WellTyped}
use Rattle.calculus.specs.Uniform.{UniformProof}
use Rattle.calculus.specs.Translation.{goal_formula, clause_formula, left_of, sequent_at}
use Rattle.calculus.specs.Packet.{packet_symbols, packet_signature, Closed}
use Rattle.calculus.proofs.SubstitutionLaws.{kept}
use Rattle.calculus.proofs.OrderLaws.{all-reordered, in-any-order}
use Rattle.calculus.proofs.DeriveUniform.{derived}
use Rattle.calculus.proofs.PacketLaws.{packet-closed, packet-apt, packet-over}

-- with no free variable, a formula stands as it is written
stands : (ts : List Term) (B : Formula Plain) → Closed B → in_formula (value_of ts []) B ≡ B
stands ts B c = kept (λ k. ⊥) 0 (value_of ts []) B c (λ i h. absurd (omega arith))

-- the left side at the root is the rules
rules-stand : (ts : List Term) (ds : List (Clause Plain)) → Each Closed (map clause_formula ds) → left_of ts (at_start ds) ≈ map clause_formula ds
rules-stand ts [] c = Permᴰ.nil
rules-stand ts (d ∷ ds) c = Permᴰ.cons (stands ts (clause_formula d) c.0) (rules-stand ts ds c.1)

module _ (ds : List (Clause Plain)) (g : Goal Plain) (ts : List Term) (f : Fair ds g ts) where
  pub root-typed : WellTyped (sequent_at ts (packet_symbols ds g ts) (root ds g))
  root-typed = record {
    left = all-reordered (Over (packet_signature ds g ts)) (Permᴰ.symm (rules-stand ts ds (packet-closed ds g ts f).1)) (packet-over ds g ts f).1;
    right = subst (Over (packet_signature ds g ts)) (sym (stands ts (goal_formula g) (packet-closed ds g ts f).0)) (packet-over ds g ts f).0;
  }

  pub packet-derived : (P : Strip) → ProvesAt (listed ts) (root ds g) P → (Γ : List (Formula Plain)) → Γ ≈ map clause_formula ds → UniformProof (packet_signature ds g ts) Γ (goal_formula g)
  packet-derived P p Γ w =
      subst (UniformProof (packet_signature ds g ts) Γ) (stands ts (goal_formula g) (packet-closed ds g ts f).0)
      (in-any-order (Permᴰ.trans (rules-stand ts ds (packet-closed ds g ts f).1) (Permᴰ.symm w))
      (derived (packet_symbols ds g ts) (listed ts) (packet-apt ds g ts f) (root ds g) P p root-typed))

  -- and so does every strip that the check of trees accepts
  pub accepted-derived : (P : Strip) (h m : ℕ) → check_at (listed ts) (root ds g) P ≡ Judged.fits h m → (Γ : List (Formula Plain)) → Γ ≈ map clause_formula ds → UniformProof (packet_signature ds g ts) Γ (goal_formula g)
  accepted-derived P h m e = packet-derived P (accepted-is-a-proof (listed ts) (root ds g) P h m e).0
