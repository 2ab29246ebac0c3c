-- What is written is true in the same structures as the TPTP formula (document 02, One): over all connectives, every logic and every structure, whatever the variables and the parameters
-- stand for, and for both kinds of line.
use Prim.Native.Nat.{ℕ, suc}
use mathlib.Core.Path.{◌≡◌, sym, ◌∙◌, ap, ap₂, subst, fun_ext}
use mathlib.Core.Bool.{Bool, true, false}
use mathlib.Core.List.{List, [], ◌∷◌}
use mathlib.Core.Logic.{◌↔◌, ◌⊎◌, inl, inr}
use mathlib.Core.Option.{some, some-injective}
use Rattle.basics.specs.Choice.{choose, ◌>>=◌, nope, provided-some}
use Rattle.basics.specs.Each.{Each}
use Rattle.harrop.specs.Formula as plain
use Rattle.harrop.specs.Formula.{Name}
use Rattle.harrop.specs.Bindings.{same_name}
use Rattle.harrop.specs.Place.{Plain}
use Rattle.sexp.specs.Words.{is_name}
use Rattle.calculus.specs.Formula as numbered
use Rattle.fof_truth.specs.Formula.{Term, Terms, Formula, Line, grouped}
use Rattle.fof_truth.specs.Truth.{Logic, evident, classical, Structure, setting, before, value_of, values_of, plain_value, plain_values, truth, plain_truth}
use Rattle.fof_truth.specs.Numbered.{Scope, number_of, term_in, terms_in, formula_in}
use Rattle.fof_truth.specs.Sentence.{Sentence, sentence_formula, sentence_of}
use Rattle.fof_truth.proofs.SentenceLaws.{one-some, two-some, sentence-is, turned}

-- what the names stand for is what their numbers stand for
abbrev Agree : {D : Type 0} → Scope → (Name → D) → (ℕ → D) → Type 0
Agree sc ρ σ = (x : Name) (i : ℕ) → number_of sc x ≡ some i → ρ x ≡ σ i

-- under one quantifier more
agree-under : {D : Type 0} (sc : Scope) (ρ : Name → D) (σ : ℕ → D) (x : Name) (d : D) → Agree sc ρ σ → Agree (x ∷ sc) (setting x d ρ) (before d σ)
agree-under {D} sc ρ σ x d h y i e = go (same_name y x) e
  where
    go : (b : Bool) → choose b (some 0) (number_of sc y >>= λ j. some (suc j)) ≡ some i → choose b d (ρ y) ≡ before d σ i
    go true q = ap (before d σ) (some-injective 0 i q)
    go false q =
        let t = one-some (number_of sc y) (λ j. suc j) i q in
        h y t.first t.is_first ∙ ap (before d σ) t.makes

module _ {W : Type 1} (S : Structure W) (π : ℕ → S.Domain) where
  mutual
    pub term-kept : (t : Term) (sc : Scope) (ρ : Name → S.Domain) (σ : ℕ → S.Domain) → Agree sc ρ σ → (u : plain.Term) → term_in sc t ≡ some u → value_of S ρ t ≡ plain_value S π σ u
    term-kept (Term.var x) sc ρ σ h u e =
        let t = one-some (number_of sc x) plain.Term.v u e in
        h x t.first t.is_first ∙ ap (plain_value S π σ) t.makes
    term-kept (Term.fun g ts) sc ρ σ h u e =
        let (a, r) = provided-some (is_name g) (terms_in sc ts >>= λ us. some (plain.Term.f g us)) u e in
        let t = one-some (terms_in sc ts) (plain.Term.f g) u r in
        ap (S.function g) (terms-kept ts sc ρ σ h t.first t.is_first) ∙ ap (plain_value S π σ) t.makes

    pub terms-kept : (ts : Terms) (sc : Scope) (ρ : Name → S.Domain) (σ : ℕ → S.Domain) → Agree sc ρ σ → (us : plain.Terms) → terms_in sc ts ≡ some us → values_of S ρ ts ≡ plain_values S π σ us
    terms-kept Terms.nil sc ρ σ h us e = ap (plain_values S π σ) (some-injective plain.Terms.nil us e)
    terms-kept (Terms.cons t ts) sc ρ σ h us e =
        let w = two-some (term_in sc t) (terms_in sc ts) plain.Terms.cons us e in
        ap₂ {C = List S.Domain} ◌∷◌ (term-kept t sc ρ σ h w.first w.is_first) (terms-kept ts sc ρ σ h w.second w.is_second)
        ∙ ap (plain_values S π σ) w.makes

module _ (L : Logic) (S : Structure L.Value) (π : ℕ → S.Domain) where
  -- one statement over all connectives: where the names and the numbers agree, the formula and its numbered form have the same truth
  pub truth-kept : (F : Formula) (sc : Scope) (ρ : Name → S.Domain) (σ : ℕ → S.Domain) → Agree sc ρ σ → (B : numbered.Formula Plain) → formula_in sc F ≡ some B → truth L S ρ F ≡ plain_truth L S π σ B
  truth-kept Formula.true sc ρ σ h B e = ap (plain_truth L S π σ) (some-injective numbered.Formula.top B e)
  truth-kept (Formula.atom p ts) sc ρ σ h B e =
      let (a, r) = provided-some (is_name p) (terms_in sc ts >>= λ us. some (numbered.Formula.atom (plain.Atom.atom p us))) B e in
      let t = one-some (terms_in sc ts) (λ us. numbered.Formula.atom (plain.Atom.atom p us)) B r in
      ap (S.predicate p) (terms-kept S π ts sc ρ σ h t.first t.is_first) ∙ ap (plain_truth L S π σ) t.makes
  truth-kept (Formula.and F G) sc ρ σ h B e =
      let t = two-some (formula_in sc F) (formula_in sc G) numbered.Formula.and B e in
      ap₂ L.and (truth-kept F sc ρ σ h t.first t.is_first) (truth-kept G sc ρ σ h t.second t.is_second) ∙ ap (plain_truth L S π σ) t.makes
  truth-kept (Formula.or F G) sc ρ σ h B e =
      let t = two-some (formula_in sc F) (formula_in sc G) numbered.Formula.or B e in
      ap₂ L.or (truth-kept F sc ρ σ h t.first t.is_first) (truth-kept G sc ρ σ h t.second t.is_second) ∙ ap (plain_truth L S π σ) t.makes
  truth-kept (Formula.implies F G) sc ρ σ h B e =
      let t = two-some (formula_in sc F) (formula_in sc G) numbered.Formula.implies B e in
      ap₂ L.implies (truth-kept F sc ρ σ h t.first t.is_first) (truth-kept G sc ρ σ h t.second t.is_second) ∙ ap (plain_truth L S π σ) t.makes
  truth-kept (Formula.all x F) sc ρ σ h B e =
      let t = one-some (formula_in (x ∷ sc) F) (numbered.Formula.all tt) B e in
      ap L.all (fun_ext λ d. truth-kept F (x ∷ sc) (setting x d ρ) (before d σ) (agree-under sc ρ σ x d h) t.first t.is_first)
      ∙ ap (plain_truth L S π σ) t.makes
  truth-kept (Formula.some x F) sc ρ σ h B e =
      let t = one-some (formula_in (x ∷ sc) F) (numbered.Formula.some tt) B e in
      ap L.some (fun_ext λ d. truth-kept F (x ∷ sc) (setting x d ρ) (before d σ) (agree-under sc ρ σ x d h) t.first t.is_first)
      ∙ ap (plain_truth L S π σ) t.makes

  -- a closed formula: whatever the variables stand for, on either side
  pub closed-kept : (F : Formula) (B : numbered.Formula Plain) → formula_in [] F ≡ some B → (ρ : Name → S.Domain) (σ : ℕ → S.Domain) → truth L S ρ F ≡ plain_truth L S π σ B
  closed-kept F B e ρ σ = truth-kept F [] ρ σ (λ x i q. nope q) B e

  -- what a line becomes has the truth of the line's formula
  pub what-is-written-is-as-true : (l : Line) (s : Sentence) → sentence_of l ≡ some s → (ρ : Name → S.Domain) (σ : ℕ → S.Domain) → truth L S ρ l.formula ≡ plain_truth L S π σ (sentence_formula s)
  what-is-written-is-as-true l s e ρ σ =
      let t = turned l s e in
      closed-kept l.formula t.formula t.numbered ρ σ ∙ ap (plain_truth L S π σ) (sym (sentence-is l.role t.formula s t.read))

-- in the logic of evidence, and in the classical one, a truth is a type: the two types hold of the same structures
both_ways : {A B : Type 0} → A ≡ B → A ↔ B
both_ways e = (subst (λ (X : Type 0). X) e, subst (λ (X : Type 0). X) (sym e))

pub evident-exactly : (S : Structure (Type 0)) (l : Line) (s : Sentence) → sentence_of l ≡ some s → (ρ : Name → S.Domain) (π σ : ℕ → S.Domain) → truth evident S ρ l.formula ↔ plain_truth evident S π σ (sentence_formula s)
evident-exactly S l s e ρ π σ = both_ways (what-is-written-is-as-true evident S π l s e ρ σ)

pub classically-exactly : (S : Structure (Type 0)) (l : Line) (s : Sentence) → sentence_of l ≡ some s → (ρ : Name → S.Domain) (π σ : ℕ → S.Domain) → truth classical S ρ l.formula ↔ plain_truth classical S π σ (sentence_formula s)
classically-exactly S l s e ρ π σ = both_ways (what-is-written-is-as-true classical S π l s e ρ σ)

-- grouping to the left keeps what a chain says: each of its members, or one of them
abbrev pub OneOf : {A : Type 0} → (A → Type 0) → List A → Type 0
OneOf P [] = ⊥
OneOf P (x ∷ xs) = P x ⊎ OneOf P xs

module _ (S : Structure (Type 0)) (ρ : Name → S.Domain) where
  pub chain-of-and : (F : Formula) (Gs : List Formula) → truth evident S ρ (grouped Formula.and F Gs) ↔ Each (truth evident S ρ) (F ∷ Gs)
  chain-of-and F [] = (λ t. (t, tt), λ (t, u). t)
  chain-of-and F (G ∷ Gs) =
      let (f, g) = chain-of-and (Formula.and F G) Gs in
      (λ t. let ((a, b), r) = f t in (a, (b, r)), λ (a, (b, r)). g ((a, b), r))

  pub chain-of-or : (F : Formula) (Gs : List Formula) → truth evident S ρ (grouped Formula.or F Gs) ↔ OneOf (truth evident S ρ) (F ∷ Gs)
  chain-of-or F [] = (λ t. inl t, λ u. first u)
    where
      first : {A : Type 0} → A ⊎ ⊥ → A
      first (inl a) = a
      first (inr b) = absurd b
  chain-of-or F (G ∷ Gs) =
      let (f, g) = chain-of-or (Formula.or F G) Gs in
      (λ t. out (f t), λ u. g (back u))
    where
      out : {A B C : Type 0} → (A ⊎ B) ⊎ C → A ⊎ (B ⊎ C)
      out (inl (inl a)) = inl a
      out (inl (inr b)) = inr (inl b)
      out (inr c) = inr (inr c)

      back : {A B C : Type 0} → A ⊎ (B ⊎ C) → (A ⊎ B) ⊎ C
      back (inl a) = inl (inl a)
      back (inr (inl b)) = inl (inr b)
      back (inr (inr c)) = inr c
