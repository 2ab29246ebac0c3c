-- A line becomes a rule or a goal exactly if it is in the part (Part): its label and symbols are document 01's names, no variable is free, and its formula is a clause or a goal as it stands.
-- A book does exactly if each line does and there is one conjecture.
use Prim.Native.Nat.{suc}
use mathlib.Core.Path.{◌≡◌, refl, sym, ◌∙◌, ap, ap₂, subst}
use mathlib.Core.Bool.{Bool, true, false, false≢true}
use mathlib.Core.List.Memᴰ
use mathlib.Core.List.{List, [], ◌∷◌, Memᴰ}
use mathlib.Core.Logic.{◌↔◌, ◌⊎◌, inl, inr}
use mathlib.Core.Option.{Option, none, some, some-injective}
use native.Mathlib.Omega.{arith}
use lib.ListN.{length}
use Rattle.basics.specs.Choice.{choose, ◌>>=◌, provided, nope, bind-some, provided-some}
use Rattle.basics.specs.Each.{Each}
use Rattle.harrop.specs.Formula as plain
use Rattle.harrop.specs.Formula.{Name, Goal, Clause}
use Rattle.harrop.specs.Bindings.{same_name}
use Rattle.harrop.specs.Place.{Plain}
use Rattle.harrop.proofs.SameLaws.{same-names-equal, name-same}
use Rattle.sexp.specs.Words.{is_name}
use Rattle.calculus.specs.Formula as numbered
use Rattle.fof_truth.specs.Formula.{Term, Terms, Formula, Role, Line}
use Rattle.fof_truth.specs.Numbered.{Scope, number_of, term_in, terms_in, formula_in}
use Rattle.fof_truth.specs.Sentence.{as_atom, as_goal, as_clause, Sentence, in_role, sentence_of}
use Rattle.fof_truth.specs.Part.{TermBound, TermsBound, Bound, TermNamed, TermsNamed, Named, IsAtom, IsGoal, IsClause, Fits, InPart, conjecture_then, conjectures, BookInPart}
use Rattle.fof_truth.specs.Book.{sentences_of, rules_in, goals_in, only_one, with_goal, book_in}
use Rattle.fof_truth.proofs.SentenceLaws.{one-some, two-some, turned}

-- there is an answer
abbrev pub Has : {A : Type 0} → Option A → Type 0
Has {A} o = (a : A) × (o ≡ some a)

iff-then : {A B C : Type 0} → A ↔ B → B ↔ C → A ↔ C
iff-then (f, g) (h, k) = (λ a. h (f a), λ c. g (k c))

same : {A : Type 0} → A ↔ A
same = (λ a. a, λ a. a)

iff-both : {A B C D : Type 0} → A ↔ B → C ↔ D → (A × C) ↔ (B × D)
iff-both (f, g) (h, k) = (λ (a, c). (f a, h c), λ (b, d). (g b, k d))

has_one : {A C : Type 0} (o : Option A) (f : A → C) → Has (o >>= λ a. some (f a)) ↔ Has o
has_one o f = (
  λ (c, e). let t = one-some o f c e in (t.first, t.is_first),
  λ (a, e). (f a, ap (λ x. x >>= λ y. some (f y)) e),
)

has-two : {A B C : Type 0} (o : Option A) (p : Option B) (f : A → B → C) → Has (o >>= λ a. p >>= λ b. some (f a b)) ↔ (Has o × Has p)
has-two o p f = (
  λ (c, e). let t = two-some o p f c e in ((t.first, t.is_first), (t.second, t.is_second)),
  λ ((a, e), (b, h)). (f a b, ap₂ (λ x z. x >>= λ y. z >>= λ w. some (f y w)) e h),
)

has-provided : {A : Type 0} (t : Bool) (o : Option A) → Has (provided t o) ↔ ((t ≡ true) × Has o)
has-provided t o = (
  λ (a, e). let (h, q) = provided-some t o a e in (h, (a, q)),
  λ (h, (a, q)). (a, ap (λ x. provided x o) h ∙ q),
)

-- a bound variable has a number
number_bound : (sc : Scope) (x : Name) → Has (number_of sc x) ↔ Memᴰ x sc
number_bound [] x = (λ (i, e). nope e, λ m. absurd (Memᴰ.not-nil m))
number_bound (y ∷ sc) x = go (same_name x y) refl (number_bound sc x)
  where
    later : same_name x y ≡ false → (x ≡ y) ⊎ Memᴰ x sc → Memᴰ x sc
    later e (inl q) = absurd (false≢true (sym e ∙ ap (same_name x) (sym q) ∙ name-same x))
    later e (inr m) = m

    go : (b : Bool) → same_name x y ≡ b → Has (number_of sc x) ↔ Memᴰ x sc → Has (choose b (some 0) (number_of sc x >>= λ i. some (suc i))) ↔ Memᴰ x (y ∷ sc)
    go true e (f, g) = (λ h. Memᴰ.head (same-names-equal x y e), λ m. (0, refl))
    go false e (f, g) =
        let (h, k) = has_one (number_of sc x) (λ i. suc i) in
        (λ q. Memᴰ.tail (f (h q)), λ m. k (g (later e (Memᴰ.cases_cons m))))

-- two parts, each bound and named
apart : {A B C D : Type 0} → ((A × B) × (C × D)) ↔ ((A × C) × (B × D))
apart = (λ ((a, b), (c, d)). ((a, c), (b, d)), λ ((a, c), (b, d)). ((a, b), (c, d)))

behind : {A B C : Type 0} → (A × (B × C)) ↔ (B × (A × C))
behind = (λ (a, (b, c)). (b, (a, c)), λ (b, (a, c)). (a, (b, c)))

mutual
  term-exactly : (t : Term) (sc : Scope) → Has (term_in sc t) ↔ (TermBound sc t × TermNamed t)
  term-exactly (Term.var x) sc =
      let (f, g) = iff-then (has_one (number_of sc x) plain.Term.v) (number_bound sc x) in
      (λ h. (f h, tt), λ (m, u). g m)
  term-exactly (Term.fun n ts) sc =
      iff-then (has-provided (is_name n) (terms_in sc ts >>= λ us. some (plain.Term.f n us)))
      (iff-then (iff-both same (iff-then (has_one (terms_in sc ts) (plain.Term.f n)) (terms-exactly ts sc))) behind)

  terms-exactly : (ts : Terms) (sc : Scope) → Has (terms_in sc ts) ↔ (TermsBound sc ts × TermsNamed ts)
  terms-exactly Terms.nil sc = (λ h. (tt, tt), λ u. (plain.Terms.nil, refl))
  terms-exactly (Terms.cons t ts) sc =
      iff-then (has-two (term_in sc t) (terms_in sc ts) plain.Terms.cons) (iff-then (iff-both (term-exactly t sc) (terms-exactly ts sc)) apart)

-- a formula can be numbered exactly if every variable is bound and every symbol named
pub numbered-exactly : (F : Formula) (sc : Scope) → Has (formula_in sc F) ↔ (Bound sc F × Named F)
numbered-exactly Formula.true sc = (λ h. (tt, tt), λ u. (numbered.Formula.top, refl))
numbered-exactly (Formula.atom p ts) sc =
    iff-then (has-provided (is_name p) (terms_in sc ts >>= λ us. some (numbered.Formula.atom (plain.Atom.atom p us))))
    (iff-then (iff-both same (iff-then (has_one (terms_in sc ts) (λ us. numbered.Formula.atom (plain.Atom.atom p us))) (terms-exactly ts sc))) behind)
numbered-exactly (Formula.and F G) sc =
    iff-then (has-two (formula_in sc F) (formula_in sc G) numbered.Formula.and) (iff-then (iff-both (numbered-exactly F sc) (numbered-exactly G sc)) apart)
numbered-exactly (Formula.or F G) sc =
    iff-then (has-two (formula_in sc F) (formula_in sc G) numbered.Formula.or) (iff-then (iff-both (numbered-exactly F sc) (numbered-exactly G sc)) apart)
numbered-exactly (Formula.implies F G) sc =
    iff-then (has-two (formula_in sc F) (formula_in sc G) numbered.Formula.implies) (iff-then (iff-both (numbered-exactly F sc) (numbered-exactly G sc)) apart)
numbered-exactly (Formula.all x F) sc = iff-then (has_one (formula_in (x ∷ sc) F) (numbered.Formula.all tt)) (numbered-exactly F (x ∷ sc))
numbered-exactly (Formula.some x F) sc = iff-then (has_one (formula_in (x ∷ sc) F) (numbered.Formula.some tt)) (numbered-exactly F (x ∷ sc))

-- its shape is kept: what is numbered is an atom, a goal or a clause exactly if the formula is
never : {A : Type 0} → Has {A = A} none ↔ ⊥
never = (λ (a, e). nope e, λ b. absurd b)

always : {A : Type 0} (a : A) → Has (some a) ↔ Unit {0}
always a = (λ h. tt, λ u. (a, refl))

atom-shape : (F : Formula) (sc : Scope) (B : numbered.Formula Plain) → formula_in sc F ≡ some B → Has (as_atom B) ↔ IsAtom F
atom-shape Formula.true sc B e = subst (λ (X : numbered.Formula Plain). Has (as_atom X) ↔ ⊥) (some-injective numbered.Formula.top B e) never
atom-shape (Formula.atom p ts) sc B e =
    let (a, r) = provided-some (is_name p) (terms_in sc ts >>= λ us. some (numbered.Formula.atom (plain.Atom.atom p us))) B e in
    let t = one-some (terms_in sc ts) (λ us. numbered.Formula.atom (plain.Atom.atom p us)) B r in
    subst (λ (X : numbered.Formula Plain). Has (as_atom X) ↔ Unit {0}) t.makes (always (plain.Atom.atom p t.first))
atom-shape (Formula.and F G) sc B e =
    let t = two-some (formula_in sc F) (formula_in sc G) numbered.Formula.and B e in subst (λ (X : numbered.Formula Plain). Has (as_atom X) ↔ ⊥) t.makes never
atom-shape (Formula.or F G) sc B e =
    let t = two-some (formula_in sc F) (formula_in sc G) numbered.Formula.or B e in subst (λ (X : numbered.Formula Plain). Has (as_atom X) ↔ ⊥) t.makes never
atom-shape (Formula.implies F G) sc B e =
    let t = two-some (formula_in sc F) (formula_in sc G) numbered.Formula.implies B e in subst (λ (X : numbered.Formula Plain). Has (as_atom X) ↔ ⊥) t.makes never
atom-shape (Formula.all x F) sc B e =
    let t = one-some (formula_in (x ∷ sc) F) (numbered.Formula.all tt) B e in subst (λ (X : numbered.Formula Plain). Has (as_atom X) ↔ ⊥) t.makes never
atom-shape (Formula.some x F) sc B e =
    let t = one-some (formula_in (x ∷ sc) F) (numbered.Formula.some tt) B e in subst (λ (X : numbered.Formula Plain). Has (as_atom X) ↔ ⊥) t.makes never

-- what holds of the formula that is made holds of B
abbrev GoalIff : Type 0 → numbered.Formula Plain → Type 0
GoalIff P X = Has (as_goal X) ↔ P

abbrev ClauseIff : Type 0 → numbered.Formula Plain → Type 0
ClauseIff P X = Has (as_clause X) ↔ P

mutual
  goal-shape : (F : Formula) (sc : Scope) (B : numbered.Formula Plain) → formula_in sc F ≡ some B → Has (as_goal B) ↔ IsGoal F
  goal-shape Formula.true sc B e = subst (GoalIff (Unit {0})) (some-injective numbered.Formula.top B e) (always Goal.top)
  goal-shape (Formula.atom p ts) sc B e =
      let (a, r) = provided-some (is_name p) (terms_in sc ts >>= λ us. some (numbered.Formula.atom (plain.Atom.atom p us))) B e in
      let t = one-some (terms_in sc ts) (λ us. numbered.Formula.atom (plain.Atom.atom p us)) B r in
      subst (GoalIff (Unit {0})) t.makes (always (Goal.atom (plain.Atom.atom p t.first)))
  goal-shape (Formula.and F G) sc B e =
      let t = two-some (formula_in sc F) (formula_in sc G) numbered.Formula.and B e in
      subst (GoalIff (IsGoal F × IsGoal G)) t.makes
      (iff-then (has-two (as_goal t.first) (as_goal t.second) Goal.and) (iff-both (goal-shape F sc t.first t.is_first) (goal-shape G sc t.second t.is_second)))
  goal-shape (Formula.or F G) sc B e =
      let t = two-some (formula_in sc F) (formula_in sc G) numbered.Formula.or B e in
      subst (GoalIff (IsGoal F × IsGoal G)) t.makes
      (iff-then (has-two (as_goal t.first) (as_goal t.second) Goal.or) (iff-both (goal-shape F sc t.first t.is_first) (goal-shape G sc t.second t.is_second)))
  goal-shape (Formula.implies F G) sc B e =
      let t = two-some (formula_in sc F) (formula_in sc G) numbered.Formula.implies B e in
      subst (GoalIff (IsClause F × IsGoal G)) t.makes
      (iff-then (has-two (as_clause t.first) (as_goal t.second) Goal.imp) (iff-both (clause-shape F sc t.first t.is_first) (goal-shape G sc t.second t.is_second)))
  goal-shape (Formula.all x F) sc B e =
      let t = one-some (formula_in (x ∷ sc) F) (numbered.Formula.all tt) B e in
      subst (GoalIff (IsGoal F)) t.makes (iff-then (has_one (as_goal t.first) (Goal.all tt)) (goal-shape F (x ∷ sc) t.first t.is_first))
  goal-shape (Formula.some x F) sc B e =
      let t = one-some (formula_in (x ∷ sc) F) (numbered.Formula.some tt) B e in
      subst (GoalIff (IsGoal F)) t.makes (iff-then (has_one (as_goal t.first) (Goal.some tt)) (goal-shape F (x ∷ sc) t.first t.is_first))

  clause-shape : (F : Formula) (sc : Scope) (B : numbered.Formula Plain) → formula_in sc F ≡ some B → Has (as_clause B) ↔ IsClause F
  clause-shape Formula.true sc B e = subst (ClauseIff ⊥) (some-injective numbered.Formula.top B e) never
  clause-shape (Formula.atom p ts) sc B e =
      let (a, r) = provided-some (is_name p) (terms_in sc ts >>= λ us. some (numbered.Formula.atom (plain.Atom.atom p us))) B e in
      let t = one-some (terms_in sc ts) (λ us. numbered.Formula.atom (plain.Atom.atom p us)) B r in
      subst (ClauseIff (Unit {0})) t.makes (always (Clause.atom_d (plain.Atom.atom p t.first)))
  clause-shape (Formula.and F G) sc B e =
      let t = two-some (formula_in sc F) (formula_in sc G) numbered.Formula.and B e in
      subst (ClauseIff (IsClause F × IsClause G)) t.makes
      (iff-then (has-two (as_clause t.first) (as_clause t.second) Clause.and_d) (iff-both (clause-shape F sc t.first t.is_first) (clause-shape G sc t.second t.is_second)))
  clause-shape (Formula.or F G) sc B e =
      let t = two-some (formula_in sc F) (formula_in sc G) numbered.Formula.or B e in subst (ClauseIff ⊥) t.makes never
  clause-shape (Formula.implies F G) sc B e =
      let t = two-some (formula_in sc F) (formula_in sc G) numbered.Formula.implies B e in
      subst (ClauseIff (IsGoal F × IsAtom G)) t.makes
      (iff-then (has-two (as_goal t.first) (as_atom t.second) Clause.imp_d) (iff-both (goal-shape F sc t.first t.is_first) (atom-shape G sc t.second t.is_second)))
  clause-shape (Formula.all x F) sc B e =
      let t = one-some (formula_in (x ∷ sc) F) (numbered.Formula.all tt) B e in
      subst (ClauseIff (IsClause F)) t.makes (iff-then (has_one (as_clause t.first) (Clause.all_d tt)) (clause-shape F (x ∷ sc) t.first t.is_first))
  clause-shape (Formula.some x F) sc B e =
      let t = one-some (formula_in (x ∷ sc) F) (numbered.Formula.some tt) B e in subst (ClauseIff ⊥) t.makes never

role-shape : (r : Role) (F : Formula) (B : numbered.Formula Plain) → formula_in [] F ≡ some B → Has (in_role r B) ↔ Fits r F
role-shape Role.as_axiom F B e = iff-then (has_one (as_clause B) Sentence.rule) (clause-shape F [] B e)
role-shape Role.as_conjecture F B e = iff-then (has_one (as_goal B) Sentence.goal) (goal-shape F [] B e)

-- a line becomes a sentence exactly if it is in the part
pub sentence-exactly : (l : Line) → Has (sentence_of l) ↔ InPart l
sentence-exactly l = (there, back)
  where
    there : Has (sentence_of l) → InPart l
    there (s, e) =
        let t = turned l s e in
        let (c, n) = (numbered-exactly l.formula []).0 (t.formula, t.numbered) in
        record { labelled = t.labelled; closed = c; named = n; fits = (role-shape l.role l.formula t.formula t.numbered).0 (s, t.read) }

    back : InPart l → Has (sentence_of l)
    back h =
        let (B, e) = (numbered-exactly l.formula []).1 (h.closed, h.named) in
        let (s, r) = (role-shape l.role l.formula B e).1 h.fits in
        (has-provided (is_name l.label) (formula_in [] l.formula >>= λ X. in_role l.role X)).1
        (h.labelled, (s, ap (λ (o : Option (numbered.Formula Plain)). o >>= λ X. in_role l.role X) e ∙ r))

sentences-exactly : (ls : List Line) → Has (sentences_of ls) ↔ Each InPart ls
sentences-exactly [] = (λ h. tt, λ u. ([], refl))
sentences-exactly (l ∷ ls) = iff-then (has-two (sentence_of l) (sentences_of ls) ◌∷◌) (iff-both (sentence-exactly l) (sentences-exactly ls))

-- a conjecture becomes a goal and an axiom a rule, so the goals are as many as the conjectures
goal-counted : (r : Role) (F : Formula) (B : numbered.Formula Plain) (s : Sentence) → in_role r B ≡ some s → (ss : List Sentence) (Fs : List Formula) → length (goals_in ss) ≡ length Fs → length (goals_in (s ∷ ss)) ≡ length (conjecture_then r F Fs)
goal-counted Role.as_axiom F B s e ss Fs h =
    let t = one-some (as_clause B) Sentence.rule s e in
    ap (λ (x : Sentence). length (goals_in (x ∷ ss))) (sym t.makes) ∙ h
goal-counted Role.as_conjecture F B s e ss Fs h =
    let t = one-some (as_goal B) Sentence.goal s e in
    ap (λ (x : Sentence). length (goals_in (x ∷ ss))) (sym t.makes) ∙ ap suc h

goals-counted : (ls : List Line) (ss : List Sentence) → sentences_of ls ≡ some ss → length (goals_in ss) ≡ length (conjectures ls)
goals-counted [] ss e = ap (λ x. length (goals_in x)) (sym (some-injective [] ss e))
goals-counted (l ∷ ls) ss e =
    let t = two-some (sentence_of l) (sentences_of ls) ◌∷◌ ss e in
    let u = turned l t.first t.is_first in
    ap (λ x. length (goals_in x)) (sym t.makes)
    ∙ goal-counted l.role l.formula u.formula t.first u.read t.second (conjectures ls) (goals-counted ls t.second t.is_second)

only_one_lem : (gs : List (Goal Plain)) → Has (only_one gs) ↔ (length gs ≡ 1)
only_one_lem [] = (λ (g, e). nope e, λ e. absurd (omega arith))
only_one_lem (g ∷ []) = (λ h. refl, λ e. (g, refl))
only_one_lem (g ∷ h ∷ gs) = (λ (x, e). nope e, λ e. absurd (omega arith))

-- a book is there exactly if it is in the part
pub book-exactly : (ls : List Line) → Has (book_in ls) ↔ BookInPart ls
book-exactly ls = (there, back)
  where
    there : Has (book_in ls) → BookInPart ls
    there (b, e) =
        let (ss, h, r) = bind-some (sentences_of ls) with_goal b e in
        let t = one-some (only_one (goals_in ss)) (λ g. record { rules = rules_in ss; goal = g }) b r in
        record { lines = (sentences-exactly ls).0 (ss, h); one = sym (goals-counted ls ss h) ∙ (only_one_lem (goals_in ss)).0 (t.first, t.is_first) }

    back : BookInPart ls → Has (book_in ls)
    back p =
        let (ss, h) = (sentences-exactly ls).1 p.lines in
        let (g, r) = (only_one_lem (goals_in ss)).1 (goals-counted ls ss h ∙ p.one) in
        (record { rules = rules_in ss; goal = g }, ap (λ (o : Option (List Sentence)). o >>= with_goal) h ∙ ap (λ (o : Option (Goal Plain)). o >>= λ x. some (record { rules = rules_in ss; goal = x })) r)
