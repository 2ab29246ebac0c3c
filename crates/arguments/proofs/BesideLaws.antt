-- What the numbers of two atoms' arguments say of frames that make the arguments the same (document 02, Three): each argument has one lowest candidate or none, so different numbers are of different terms.
use Prim.Native.Nat.{ℕ, ◌-◌, ◌/◌, ◌%◌, ◌<◌}
use native.Mathlib.Omega.{arith}
use mathlib.Core.Path.{◌≡◌, refl, sym, ◌∙◌, ap, subst}
use mathlib.Core.Bool.{Bool, true, false}
use mathlib.Core.List.{List}
use mathlib.Core.Option.{some}
use lib.Dec.{ltb, eqb}
use lib.ListN.{get_elem?}
use borrow.Author.Tests.{ltb-true, ltb-false, eqb-true, eqb-false}
use Rattle.harrop.specs.Formula.{Term, Terms, Atom}
use Rattle.harrop.specs.Bindings.{Bindings, value_of, replaced, replaceds, replaced_atom}
use Rattle.harrop.proofs.ListLaws.{member_below, below-member}
use Rattle.keys.proofs.WalkLaws.{candidate-meant}
use Rattle.unset.specs.Head.{CandidateOf}
use Rattle.unset.specs.declared.Forced.{Forced}
use Rattle.unset.specs.declared.Forced.TheVariants as V
use Rattle.std.specs.Prelude.{Some, None}
use Rattle.arguments.specs.Arguments.{Arguments, arguments_of, Told, Beside, Between}

-- the lowest candidate that is a term is one, and not among none
lowest-one : (us : List Term) (w : Term) (c d : ℕ) → CandidateOf us w (Some c) → CandidateOf us w (Some d) → c ≡ d
lowest-one us w c d C D = go (ltb c d) refl (ltb d c) refl
  where
    go : (a : Bool) → ltb c d ≡ a → (b : Bool) → ltb d c ≡ b → c ≡ d
    go true a b z = absurd (D.1 c (ltb-true c d a) C.0)
    go false a true z = absurd (C.1 d (ltb-true d c z) D.0)
    go false a false z = omega (arith, ltb-false c d a, ltb-false d c z)

not_none : (us : List Term) (w : Term) (c : ℕ) → get_elem? us c ≡ some w → CandidateOf us w None → ⊥
not_none us w c e N = N c (member_below us c w e) e

-- the numbers of candidates, and that one less is the same of both
below : (n : ℕ) → n < 1024 → (n ≡ 1021 → ⊥) → (n ≡ 1022 → ⊥) → (n ≡ 1023 → ⊥) → n < 1021
below n l a b c = omega arith

same-again : (n m : ℕ) → 0 < n → 0 < m → n - 1 ≡ m - 1 → n ≡ m
same-again n m l k e = omega arith

pub beside-short : (a : ℕ) → Beside a 0 V.Never
beside-short a us own own' bs bs' v v' es es' F t u A B e = absurd (omega (arith, B.number))

pub beside-open : (a b : ℕ) → Beside a b V.Nothing
beside-open a b us own own' bs bs' v v' es es' F t u A B e = tt

-- the first is the variable: the second is a candidate that it must be, or none
pub beside-never : (a b : ℕ) → a ≡ 1021 → b ≡ 1023 → Beside a b V.Never
beside-never a b i z us own own' bs bs' v v' es es' F t u A B e =
    let is : value_of us es v ≡ replaced us es' u = ap (replaced us es) (sym (A.variable i)) ∙ e in
    let (w, m) = below-member us F.candidate F.few in
    not_none us (replaced us es' u) F.candidate (m ∙ ap some (candidate-meant us F.candidate w m ∙ sym F.value ∙ is)) (B.none z es' F.two)

pub beside-variable : (a b : ℕ) → a ≡ 1021 → (b ≡ 1021 → ⊥) → (b ≡ 1022 → ⊥) → (b ≡ 1023 → ⊥) → Beside a b (V.Candidate (b - 1))
beside-variable a b i n n' n'' us own own' bs bs' v v' es es' F t u A B e =
    let is : value_of us es v ≡ replaced us es' u = ap (replaced us es) (sym (A.variable i)) ∙ e in
    subst (λ (z : Term). CandidateOf us z (Some (b - 1))) (sym is) (B.candidate (below b B.small n n' n'') es' F.two)

-- they have different numbers
pub beside-differ : (a b : ℕ) → (a ≡ 1022 → ⊥) → (b ≡ 1022 → ⊥) → (b ≡ 1021 → ⊥) → (a ≡ 1021 → ⊥) → (a ≡ b → ⊥) → Beside a b V.Never
beside-differ a b a₂ b₂ b₁ a₁ d us own own' bs bs' v v' es es' F t u A B e = go (eqb a 1023) refl (eqb b 1023) refl
  where
    w : Term
    w = replaced us es' u

    one : a < 1021 → CandidateOf us w (Some (a - 1))
    one l = subst (λ (z : Term). CandidateOf us z (Some (a - 1))) e (A.candidate l es F.one)

    go : (c : Bool) → eqb a 1023 ≡ c → (k : Bool) → eqb b 1023 ≡ k → ⊥
    go true c true k = d (eqb-true a 1023 c ∙ sym (eqb-true b 1023 k))
    go true c false k =
        let C = B.candidate (below b B.small b₁ b₂ (eqb-false b 1023 k)) es' F.two in
        not_none us w (b - 1) C.0 (subst (λ (z : Term). CandidateOf us z None) e (A.none (eqb-true a 1023 c) es F.one))
    go false c true k =
        let C = one (below a A.small a₁ a₂ (eqb-false a 1023 c)) in
        not_none us w (a - 1) C.0 (B.none (eqb-true b 1023 k) es' F.two)
    go false c false k =
        let C = one (below a A.small a₁ a₂ (eqb-false a 1023 c)) in
        let D = B.candidate (below b B.small b₁ b₂ (eqb-false b 1023 k)) es' F.two in
        d (same-again a b A.number B.number (lowest-one us w (a - 1) (b - 1) C D))

-- arguments are none or not, the first and the others
abbrev is_nil : Terms → Type 0
is_nil Terms.nil = Unit {0}
is_nil (Terms.cons t ts) = ⊥

abbrev pub first_of : Terms → Term
first_of Terms.nil = Term.e 0
first_of (Terms.cons t ts) = t

abbrev pub others_of : Terms → Terms
others_of Terms.nil = Terms.nil
others_of (Terms.cons t ts) = ts

-- replacing variables is done argument by argument
pub replaced-arguments : (us : List Term) (es : Bindings) (a : Atom) → arguments_of (replaced_atom us es a) ≡ replaceds us es (arguments_of a)
replaced-arguments us es (Atom.atom n ts) = refl

-- nothing is said of what is left
pub between-open : (a b : ℕ) → Between a b V.Nothing
between-open a b us own own' bs bs' v v' es es' F ts ws A B e = tt

-- the first atom has no argument left, and the second has
pub between-short : (a b : ℕ) → a ≡ 0 → (b ≡ 0 → ⊥) → Between a b V.Never
between-short a b i n us own own' bs bs' v v' es es' F ts ws A B e = go ts ws (subst (Arguments us own bs v ts) i A) B e
  where
    go : (ts ws : Terms) → Arguments us own bs v ts 0 → Arguments us own' bs' v' ws b → replaceds us es ts ≡ replaceds us es' ws → ⊥
    go (Terms.cons t ts) ws A B e = absurd (omega (arith, A.0.number))
    go Terms.nil Terms.nil A B e = n B
    go Terms.nil (Terms.cons u ws) A B e = subst is_nil e tt

-- the first arguments, and the others
module _ (a b : ℕ) (n : a ≡ 0 → ⊥) where
  pub between_first : (r : Forced) → Beside (a % 1024) (b % 1024) r → Between a b r
  between_first r h us own own' bs bs' v v' es es' F ts ws A B e = go ts ws A B e
    where
      go : (ts ws : Terms) → Arguments us own bs v ts a → Arguments us own' bs' v' ws b → replaceds us es ts ≡ replaceds us es' ws → Told us es v r
      go Terms.nil ws A B e = absurd (n A)
      go (Terms.cons t ts) Terms.nil A B e = absurd (subst is_nil (sym e) tt)
      go (Terms.cons t ts) (Terms.cons u ws) A B e = h us own own' bs bs' v v' es es' F t u A.0 B.0 (ap first_of e)

  pub between-rest : (r : Forced) → Between (a / 1024) (b / 1024) r → Between a b r
  between-rest r h us own own' bs bs' v v' es es' F ts ws A B e = go ts ws A B e
    where
      go : (ts ws : Terms) → Arguments us own bs v ts a → Arguments us own' bs' v' ws b → replaceds us es ts ≡ replaceds us es' ws → Told us es v r
      go Terms.nil ws A B e = absurd (n A)
      go (Terms.cons t ts) Terms.nil A B e = absurd (subst is_nil (sym e) tt)
      go (Terms.cons t ts) (Terms.cons u ws) A B e = h us own own' bs bs' v v' es es' F ts ws A.1 B.1 (ap others_of e)
