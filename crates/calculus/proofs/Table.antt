-- Derivations in which every rule of Figure 1 is used, over the signature of one sort with all symbols. They show of each rule that it has an instance of this kind, not that it has all of
-- the figure's: for that each constructor stands beside its rule in specs/Derivation. What the rules do not derive is in Underivable, Unreached and NotUniform.
use Prim.Native.Nat.{ℕ}
use mathlib.Core.Path.{◌≡◌, refl, ap}
use mathlib.Core.List.Memᴰ
use mathlib.Core.List.Permᴰ
use mathlib.Core.List.{List, [], ◌∷◌, Memᴰ}
use native.Mathlib.Omega.{arith}
use Rattle.basics.specs.Text.{octets}
use Rattle.basics.specs.Each.{Each}
use Rattle.harrop.specs.Formula.{Term, Terms}
use Rattle.harrop.specs.Place.{Plain}
use Rattle.calculus.specs.Formula.{Formula}
use Rattle.calculus.specs.Multiset.{◌≈◌}
use Rattle.calculus.specs.Signature.{Signature, Fresh, IsSequent}
use Rattle.calculus.specs.Derivation.{Derivation}
use Rattle.calculus.specs.Uniform.{Rule, rules_in, RightFirst}
use Rattle.calculus.specs.Packet.{plain, FormulaWithin}
use Rattle.calculus.proofs.PacketLaws.{all-plain-over}
use Rattle.calculus.proofs.Underivable.{of}
use Rattle.calculus.proofs.Unreached.{at}

-- all symbols, and these parameters
abbrev pub everything : List (ℕ × Plain) → Signature Plain
everything ps = record { symbols = plain (λ x. Unit {0}) (λ x. Unit {0}); parameters = ps }

-- over it, a formula is one that has no free variable and no other parameter
typed : (ps : List (ℕ × Plain)) (P : ℕ → Type 0) → ((k : ℕ) → P k → (s : Plain) → Memᴰ (k, s) ps) → (Γ : List (Formula Plain)) (C : Formula Plain) → Each (FormulaWithin P 0) (C ∷ Γ) → IsSequent (everything ps) Γ C
typed ps P h Γ C w =
    let r = all-plain-over (λ x. Unit {0}) (λ x. Unit {0}) ps P h (C ∷ Γ) w (λ x m. tt) (λ x m. tt) in
    record { left = r.1; right = r.0 }

-- with no parameter, and with parameter 7
closed : (Γ : List (Formula Plain)) (C : Formula Plain) → Each (FormulaWithin (λ k. ⊥) 0) (C ∷ Γ) → IsSequent (everything []) Γ C
closed = typed [] (λ k. ⊥) (λ k b s. absurd b)

with-seven : (Γ : List (Formula Plain)) (C : Formula Plain) → Each (FormulaWithin (λ k. k ≡ 7) 0) (C ∷ Γ) → IsSequent (everything ((7, tt) ∷ [])) Γ C
with-seven = typed ((7, tt) ∷ []) (λ k. k ≡ 7) (λ k b s. Memᴰ.head (ap (λ (n : ℕ). (n, s)) b))

seven-fresh : Fresh (everything []) 7
seven-fresh s m = Memᴰ.not-nil m

in_order : {Γ : List (Formula Plain)} → Γ ≈ Γ
in_order {Γ} = Permᴰ.refl Γ

swapped : {B C : Formula Plain} {Γ : List (Formula Plain)} → (B ∷ C ∷ Γ) ≈ (C ∷ B ∷ Γ)
swapped = Permᴰ.swap refl refl

abbrev pub p : Formula Plain
p = of (octets "p") Terms.nil

abbrev pub q : Formula Plain
q = of (octets "q") Terms.nil

-- p(t), and a constant
abbrev pub p' : Term → Formula Plain
p' t = at (octets "p") t

abbrev pub c : Term
c = Term.f (octets "c") Terms.nil

abbrev pub modus : Formula Plain
modus = Formula.and p (Formula.implies p q)

-- p → p, and q, p → q
same : Derivation (everything []) (p ∷ []) p
same = Derivation.id (closed (p ∷ []) p (omega arith)) in_order

besides : Derivation (everything []) (q ∷ p ∷ []) q
besides =
    Derivation.weak-L (closed (q ∷ p ∷ []) q (omega arith)) swapped
    (Derivation.id (closed (q ∷ []) q (omega arith)) in_order)

detached : Derivation (everything []) (Formula.implies p q ∷ p ∷ []) q
detached = Derivation.implies-L (closed (Formula.implies p q ∷ p ∷ []) q (omega arith)) in_order in_order same besides

pub by-implication : Derivation (everything []) (modus ∷ []) q
by-implication =
    Derivation.contr-L (closed (modus ∷ []) q (omega arith)) in_order in_order
    (Derivation.and-L₁ (closed (modus ∷ modus ∷ []) q (omega arith)) in_order in_order
    (Derivation.and-L₂ (closed (p ∷ modus ∷ []) q (omega arith)) swapped in_order detached))

-- document 004, section 3: provable, but not uniformly
pub by_cases : Derivation (everything []) (Formula.or p q ∷ []) (Formula.or q p)
by_cases =
    Derivation.or-L (closed (Formula.or p q ∷ []) (Formula.or q p) (omega arith)) in_order in_order in_order
    (Derivation.or-R₂ (closed (p ∷ []) (Formula.or q p) (omega arith))
    (Derivation.id (closed (p ∷ []) p (omega arith)) in_order))
    (Derivation.or-R₁ (closed (q ∷ []) (Formula.or q p) (omega arith))
    (Derivation.id (closed (q ∷ []) q (omega arith)) in_order))

pub by-falsity : Derivation (everything []) [] (Formula.implies Formula.bottom p)
by-falsity =
    Derivation.implies-R (closed [] (Formula.implies Formula.bottom p) (omega arith)) in_order
    (Derivation.bottom-L (closed (Formula.bottom ∷ []) p (omega arith)) in_order)

pub by-truth : Derivation (everything []) (q ∷ []) (Formula.and Formula.top q)
by-truth =
    Derivation.and-R (closed (q ∷ []) (Formula.and Formula.top q) (omega arith))
    (Derivation.top-R (closed (q ∷ []) Formula.top (omega arith)))
    (Derivation.id (closed (q ∷ []) q (omega arith)) in_order)

pub by-cut : Derivation (everything []) (Formula.and p q ∷ []) (Formula.or p q)
by-cut =
    Derivation.cut {Γ = Formula.and p q ∷ []} {Δ = []} {B = p} (closed (Formula.and p q ∷ []) (Formula.or p q) (omega arith)) in_order in_order
    (Derivation.and-L₁ (closed (Formula.and p q ∷ []) p (omega arith)) in_order in_order
    (Derivation.id (closed (p ∷ []) p (omega arith)) in_order))
    (Derivation.or-R₁ (closed (p ∷ []) (Formula.or p q) (omega arith)) same)

-- a cut that splits the left side: p ∧ q → p, and p, p ⊃ q → q
pub by-splitting : Derivation (everything []) (Formula.implies p q ∷ Formula.and p q ∷ []) q
by-splitting =
    Derivation.cut {Γ = Formula.and p q ∷ []} {Δ = Formula.implies p q ∷ []} {B = p} (closed (Formula.implies p q ∷ Formula.and p q ∷ []) q (omega arith)) swapped swapped
    (Derivation.and-L₁ (closed (Formula.and p q ∷ []) p (omega arith)) in_order in_order same) detached

-- a left rule last where the right side is not atomic, all that is above it right first
pub by-contraction : Derivation (everything []) (p ∷ []) (Formula.and p p)
by-contraction =
    Derivation.contr-L (closed (p ∷ []) (Formula.and p p) (omega arith)) in_order in_order
    (Derivation.and-R (closed (p ∷ p ∷ []) (Formula.and p p) (omega arith))
    (Derivation.weak-L (closed (p ∷ p ∷ []) p (omega arith)) in_order same)
    (Derivation.weak-L (closed (p ∷ p ∷ []) p (omega arith)) in_order same))

pub by-weakening : Derivation (everything []) (q ∷ p ∷ []) (Formula.and p p)
by-weakening =
    Derivation.weak-L (closed (q ∷ p ∷ []) (Formula.and p p) (omega arith)) in_order
    (Derivation.and-R (closed (p ∷ []) (Formula.and p p) (omega arith)) same same)

pub by-detachment : Derivation (everything []) (Formula.implies p q ∷ p ∷ []) (Formula.and q q)
by-detachment =
    Derivation.implies-L (closed (Formula.implies p q ∷ p ∷ []) (Formula.and q q) (omega arith)) in_order in_order same
    (Derivation.and-R (closed (q ∷ p ∷ []) (Formula.and q q) (omega arith)) besides besides)

-- where there is a constant, for all gives there is
pub by-constant : Derivation (everything []) (Formula.all tt (p' (Term.v 0)) ∷ []) (Formula.some tt (p' (Term.v 0)))
by-constant =
    Derivation.all-L c (closed (Formula.all tt (p' (Term.v 0)) ∷ []) (Formula.some tt (p' (Term.v 0))) (omega arith)) in_order ([], tt, tt) in_order
    (Derivation.some-R c (closed (p' c ∷ []) (Formula.some tt (p' (Term.v 0))) (omega arith)) ([], tt, tt) refl
    (Derivation.id (closed (p' c ∷ []) (p' c) (omega arith)) in_order))

-- a fresh parameter is any that is not in the signature
pub by-parameter : Derivation (everything []) (Formula.some tt (p' (Term.v 0)) ∷ []) (Formula.some tt (p' (Term.v 0)))
by-parameter =
    Derivation.some-L 7 (closed (Formula.some tt (p' (Term.v 0)) ∷ []) (Formula.some tt (p' (Term.v 0))) (omega arith)) in_order seven-fresh in_order
    (Derivation.some-R (Term.e 7) (with-seven (p' (Term.e 7) ∷ []) (Formula.some tt (p' (Term.v 0))) (omega arith)) (Memᴰ.head refl) refl
    (Derivation.id (with-seven (p' (Term.e 7) ∷ []) (p' (Term.e 7)) (omega arith)) in_order))

pub by-generality : Derivation (everything []) (Formula.all tt (p' (Term.v 0)) ∷ []) (Formula.all tt (p' (Term.v 0)))
by-generality =
    Derivation.all-R 7 (closed (Formula.all tt (p' (Term.v 0)) ∷ []) (Formula.all tt (p' (Term.v 0))) (omega arith)) seven-fresh refl
    (Derivation.all-L (Term.e 7) (with-seven (Formula.all tt (p' (Term.v 0)) ∷ []) (p' (Term.e 7)) (omega arith)) in_order (Memᴰ.head refl) in_order
    (Derivation.id (with-seven (p' (Term.e 7) ∷ []) (p' (Term.e 7)) (omega arith)) in_order))

-- the rules that these derivations use: all of Figure 1
pub every-rule :
    (rules_in by-implication ≡ Rule.contr-L ∷ Rule.and-L₁ ∷ Rule.and-L₂ ∷ Rule.implies-L ∷ Rule.id ∷ Rule.weak-L ∷ Rule.id ∷ [])
    × (rules_in by_cases ≡ Rule.or-L ∷ Rule.or-R₂ ∷ Rule.id ∷ Rule.or-R₁ ∷ Rule.id ∷ [])
    × (rules_in by-falsity ≡ Rule.implies-R ∷ Rule.bottom-L ∷ [])
    × (rules_in by-truth ≡ Rule.and-R ∷ Rule.top-R ∷ Rule.id ∷ [])
    × (rules_in by-cut ≡ Rule.cut ∷ Rule.and-L₁ ∷ Rule.id ∷ Rule.or-R₁ ∷ Rule.id ∷ [])
    × (rules_in by-splitting ≡ Rule.cut ∷ Rule.and-L₁ ∷ Rule.id ∷ Rule.implies-L ∷ Rule.id ∷ Rule.weak-L ∷ Rule.id ∷ [])
    × (rules_in by-contraction ≡ Rule.contr-L ∷ Rule.and-R ∷ Rule.weak-L ∷ Rule.id ∷ Rule.weak-L ∷ Rule.id ∷ [])
    × (rules_in by-weakening ≡ Rule.weak-L ∷ Rule.and-R ∷ Rule.id ∷ Rule.id ∷ [])
    × (rules_in by-detachment ≡ Rule.implies-L ∷ Rule.id ∷ Rule.and-R ∷ Rule.weak-L ∷ Rule.id ∷ Rule.weak-L ∷ Rule.id ∷ [])
    × (rules_in by-constant ≡ Rule.all-L ∷ Rule.some-R ∷ Rule.id ∷ [])
    × (rules_in by-parameter ≡ Rule.some-L ∷ Rule.some-R ∷ Rule.id ∷ [])
    × (rules_in by-generality ≡ Rule.all-R ∷ Rule.all-L ∷ Rule.id ∷ [])
unfolding same besides detached by-implication by_cases by-falsity by-truth by-cut by-splitting by-contraction by-weakening by-detachment by-constant by-parameter by-generality
every-rule = (refl, refl, refl, refl, refl, refl, refl, refl, refl, refl, refl, refl)

-- the last three are not uniform, because of their last rule
pub left-rule-too-late : ¬ (RightFirst by-contraction) × (¬ (RightFirst by-weakening)) × (¬ (RightFirst by-detachment))
unfolding by-contraction by-weakening by-detachment
left-rule-too-late = (λ u. u.0 (λ a. a), λ u. u.0 (λ a. a), λ u. u.0 (λ a. a))
