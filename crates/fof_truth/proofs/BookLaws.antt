-- What a book comes to is what it means (Meaning), exactly, over all lines and all buffers; and the rules and the goal of a book have, one by one and in file order, the truth of its axioms and
-- of its conjecture.
use Prim.Native.Nat.{ℕ, ◌≤◌, min}
use mathlib.Core.Path.{◌≡◌, refl, sym, ◌∙◌, ap, ap₂, subst}
use mathlib.Core.Bool.{Bool, true, false, ◌||◌, false≢true}
use mathlib.Core.List.{List, [], ◌∷◌, map}
use mathlib.Core.Logic.{◌↔◌}
use mathlib.Core.Option.{Option, none, some, some-injective}
use native.Mathlib.Omega.{arith}
use lib.Dec.{ltb}
use lib.ListN.{length}
use borrow.Author.Tests.{ltb-false, le-ltb}
use Rattle.basics.specs.Choice.{choose, maybe, nope, bind-some}
use Rattle.harrop.specs.Formula.{Name, Goal, Clause}
use Rattle.harrop.specs.Place.{Plain}
use Rattle.sexp.specs.Sexp.{nesting}
use Rattle.packet.specs.Written.{rules_sexp, goal_sexp}
use Rattle.packet.specs.File.{most_bytes, most_levels, most_members}
use Rattle.calculus.specs.Formula as numbered
use Rattle.calculus.specs.Translation.{goal_formula, clause_formula}
use Rattle.fof_truth.specs.Formula.{Formula, Role, Line}
use Rattle.fof_truth.specs.Truth.{Logic, Structure, truth, plain_truth}
use Rattle.fof_truth.specs.Sentence.{as_goal, as_clause, Sentence, sentence_formula, in_role, sentence_of}
use Rattle.fof_truth.specs.Part.{axiom_then, axioms, conjecture_then, conjectures, BookInPart}
use Rattle.fof_truth.specs.Book.{sentences_of, rules_in, goals_in, only_one, Book, with_goal, book_in, rules_file, goal_file, Why, Outcome, is_many, is_deep, is_long, sized, book_of}
use Rattle.fof_truth.specs.Meaning.{Few, Flat, Short, Becomes, Means, outside, too_many, too_deep, too_long, written}
use Rattle.fof_truth.proofs.SentenceLaws.{one-some, two-some, turned}
use Rattle.fof_truth.proofs.TruthLaws.{what-is-written-is-as-true}
use Rattle.fof_truth.proofs.PartLaws.{book-exactly}

-- a test that says no exactly if a statement holds
abbrev NoWhen : Bool → Type 0 → Type 0
NoWhen t P = (t ≡ false) ↔ P

below-no : (a n : ℕ) → NoWhen (ltb a n) (n ≤ a)
below-no a n = (ltb-false a n, le-ltb a n)

or_no : (s t : Bool) → (s || t ≡ false) ↔ ((s ≡ false) × (t ≡ false))
or_no true t = (λ e. absurd (false≢true (sym e)), λ (a, b). a)
or_no false t = (λ e. (refl, e), λ (a, b). b)

few-when : (b : Book) → NoWhen (is_many b) (Few b)
few-when b = below-no most_members (length b.rules)

flat-when : (b : Book) → NoWhen (is_deep b) (Flat b)
flat-when b = (
  λ e. let (s, t) = (or_no (ltb most_levels r) (ltb most_levels g)).0 e in record { rules = (below-no most_levels r).0 s; goal = (below-no most_levels g).0 t },
  λ f. (or_no (ltb most_levels r) (ltb most_levels g)).1 ((below-no most_levels r).1 f.rules, (below-no most_levels g).1 f.goal),
)
  where
    r : ℕ
    r = nesting (rules_sexp b.rules)

    g : ℕ
    g = nesting (goal_sexp b.goal)

within_both : (a n : ℕ) → n ≤ min a most_bytes ↔ ((n ≤ a) × (n ≤ most_bytes))
within_both a n = (λ h. (omega arith, omega arith), λ (h, k). omega arith)

short-when : (a c : ℕ) (b : Book) → NoWhen (is_long a c b) (Short a c b)
short-when a c b = (there, back)
  where
    r : ℕ
    r = length (rules_file b)

    g : ℕ
    g = length (goal_file b)

    there : is_long a c b ≡ false → Short a c b
    there e =
        let (s, t) = (or_no (ltb (min a most_bytes) r) (ltb (min c most_bytes) g)).0 e in
        let (s₁, s₂) = (within_both a r).0 ((below-no (min a most_bytes) r).0 s) in
        let (t₁, t₂) = (within_both c g).0 ((below-no (min c most_bytes) g).0 t) in
        record { rules = s₁; rules_allowed = s₂; goal = t₁; goal_allowed = t₂ }

    back : Short a c b → is_long a c b ≡ false
    back h =
        (or_no (ltb (min a most_bytes) r) (ltb (min c most_bytes) g)).1 (
          (below-no (min a most_bytes) r).1 ((within_both a r).1 (h.rules, h.rules_allowed)),
          (below-no (min c most_bytes) g).1 ((within_both c g).1 (h.goal, h.goal_allowed)),
        )

-- a test that says yes refutes the statement, and the other way round
yes-refutes : (t : Bool) (P : Type 0) → NoWhen t P → t ≡ true → P → ⊥
yes-refutes t P w e p = false≢true (sym (w.1 p) ∙ e)

refuted-yes : (t : Bool) (P : Type 0) → NoWhen t P → (P → ⊥) → t ≡ true
refuted-yes true P w h = refl
refuted-yes false P w h = absurd (h (w.0 refl))

module _ (ls : List Line) (a c : ℕ) where
  sized-told : (b : Book) → BookInPart ls → Becomes ls b → Means ls a c (sized a c b)
  unfolding sized
  sized-told b p h = many (is_many b) refl
    where
      long : (t : Bool) → is_long a c b ≡ t → Few b → Flat b → Means ls a c (choose t (Outcome.refused Why.too_long) (Outcome.written b))
      long true e f g = too_long b p h f g (yes-refutes (is_long a c b) (Short a c b) (short-when a c b) e)
      long false e f g = written p h f g ((short-when a c b).0 e)

      deep : (t : Bool) → is_deep b ≡ t → Few b → Means ls a c (choose t (Outcome.refused Why.too_deep) (choose (is_long a c b) (Outcome.refused Why.too_long) (Outcome.written b)))
      deep true e f = too_deep b p h f (yes-refutes (is_deep b) (Flat b) (flat-when b) e)
      deep false e f = long (is_long a c b) refl f ((flat-when b).0 e)

      many : (t : Bool) → is_many b ≡ t → Means ls a c (choose t (Outcome.refused Why.too_many) (choose (is_deep b) (Outcome.refused Why.too_deep) (choose (is_long a c b) (Outcome.refused Why.too_long) (Outcome.written b))))
      many true e = too_many b p h (yes-refutes (is_many b) (Few b) (few-when b) e)
      many false e = deep (is_deep b) refl ((few-when b).0 e)

  -- what a book comes to is what it means
  pub book-told : Means ls a c (book_of ls a c)
  unfolding book_of
  book-told = go (book_in ls) refl
    where
      go : (o : Option Book) → book_in ls ≡ o → Means ls a c (maybe o (Outcome.refused Why.outside) λ b. sized a c b)
      go none e = outside λ p. let (b, h) = (book-exactly ls).1 p in nope (sym e ∙ h)
      go (some b) e = sized-told b ((book-exactly ls).0 (b, e)) e

  abbrev after_tests : Bool → Bool → Bool → Book → Outcome
  after_tests m d l b = choose m (Outcome.refused Why.too_many) (choose d (Outcome.refused Why.too_deep) (choose l (Outcome.refused Why.too_long) (Outcome.written b)))

  sized-is : (b : Book) (m d l : Bool) → is_many b ≡ m → is_deep b ≡ d → is_long a c b ≡ l → Becomes ls b → book_of ls a c ≡ after_tests m d l b
  unfolding book_of sized
  sized-is b m d l e f g h =
      ap (λ (o : Option Book). maybe o (Outcome.refused Why.outside) λ x. sized a c x) h
      ∙ ap (λ t. after_tests t (is_deep b) (is_long a c b) b) e
      ∙ ap (λ t. after_tests m t (is_long a c b) b) f
      ∙ ap (λ t. after_tests m d t b) g

  outside-is : (BookInPart ls → ⊥) → book_of ls a c ≡ Outcome.refused Why.outside
  unfolding book_of
  outside-is n = go (book_in ls) refl
    where
      go : (o : Option Book) → book_in ls ≡ o → maybe o (Outcome.refused Why.outside) (λ b. sized a c b) ≡ Outcome.refused Why.outside
      go none e = refl
      go (some b) e = absurd (n ((book-exactly ls).0 (b, e)))

  -- and nothing else is meant
  pub book-only : (o : Outcome) → Means ls a c o → book_of ls a c ≡ o
  book-only o (outside n) = outside-is n
  book-only o (too_many b p h m) = sized-is b true (is_deep b) (is_long a c b) (refuted-yes (is_many b) (Few b) (few-when b) m) refl refl h
  book-only o (too_deep b p h f m) = sized-is b false true (is_long a c b) ((few-when b).1 f) (refuted-yes (is_deep b) (Flat b) (flat-when b) m) refl h
  book-only o (too_long b p h f g m) = sized-is b false false true ((few-when b).1 f) ((flat-when b).1 g) (refuted-yes (is_long a c b) (Short a c b) (short-when a c b) m) h
  book-only o (written {b = b} p h f g s) = sized-is b false false false ((few-when b).1 f) ((flat-when b).1 g) ((short-when a c b).1 s) h

  pub outcome-exactly : (o : Outcome) → book_of ls a c ≡ o ↔ Means ls a c o
  outcome-exactly o = (λ e. subst (Means ls a c) e book-told, book-only o)

  pub any-two-outcomes-are-equal : (o p : Outcome) → Means ls a c o → Means ls a c p → o ≡ p
  any-two-outcomes-are-equal o p h k = sym (book-only o h) ∙ book-only p k

pub only-is : (gs : List (Goal Plain)) (g : Goal Plain) → only_one gs ≡ some g → gs ≡ g ∷ []
only-is [] g e = nope e
only-is (h ∷ []) g e = ap (λ x. x ∷ []) (some-injective h g e)
only-is (h ∷ k ∷ gs) g e = nope e

-- the truths of the rules are those of the axioms, in file order, and the goal's is the conjecture's
module _ (L : Logic) (S : Structure L.Value) (π : ℕ → S.Domain) (ρ : Name → S.Domain) (σ : ℕ → S.Domain) where
  abbrev rule_truths : List (Clause Plain) → List L.Value
  rule_truths ds = map (λ d. plain_truth L S π σ (clause_formula d)) ds

  abbrev goal_truths : List (Goal Plain) → List L.Value
  goal_truths gs = map (λ g. plain_truth L S π σ (goal_formula g)) gs

  rule-kept : (r : Role) (F : Formula) (B : numbered.Formula Plain) (s : Sentence) → in_role r B ≡ some s → truth L S ρ F ≡ plain_truth L S π σ (sentence_formula s) → (Fs : List Formula) (ss : List Sentence) → map (truth L S ρ) Fs ≡ rule_truths (rules_in ss) → map (truth L S ρ) (axiom_then r F Fs) ≡ rule_truths (rules_in (s ∷ ss))
  rule-kept Role.as_axiom F B s e t Fs ss h =
      let u = one-some (as_clause B) Sentence.rule s e in
      ap₂ ◌∷◌ (t ∙ ap (λ x. plain_truth L S π σ (sentence_formula x)) (sym u.makes)) h ∙ ap (λ x. rule_truths (rules_in (x ∷ ss))) u.makes
  rule-kept Role.as_conjecture F B s e t Fs ss h =
      let u = one-some (as_goal B) Sentence.goal s e in
      h ∙ ap (λ x. rule_truths (rules_in (x ∷ ss))) u.makes

  goal-kept : (r : Role) (F : Formula) (B : numbered.Formula Plain) (s : Sentence) → in_role r B ≡ some s → truth L S ρ F ≡ plain_truth L S π σ (sentence_formula s) → (Fs : List Formula) (ss : List Sentence) → map (truth L S ρ) Fs ≡ goal_truths (goals_in ss) → map (truth L S ρ) (conjecture_then r F Fs) ≡ goal_truths (goals_in (s ∷ ss))
  goal-kept Role.as_axiom F B s e t Fs ss h =
      let u = one-some (as_clause B) Sentence.rule s e in
      h ∙ ap (λ x. goal_truths (goals_in (x ∷ ss))) u.makes
  goal-kept Role.as_conjecture F B s e t Fs ss h =
      let u = one-some (as_goal B) Sentence.goal s e in
      ap₂ ◌∷◌ (t ∙ ap (λ x. plain_truth L S π σ (sentence_formula x)) (sym u.makes)) h ∙ ap (λ x. goal_truths (goals_in (x ∷ ss))) u.makes

  sentences-kept : (ls : List Line) (ss : List Sentence) → sentences_of ls ≡ some ss → (map (truth L S ρ) (axioms ls) ≡ rule_truths (rules_in ss)) × (map (truth L S ρ) (conjectures ls) ≡ goal_truths (goals_in ss))
  sentences-kept [] ss e =
      let h = some-injective [] ss e in
      (ap (λ x. rule_truths (rules_in x)) h, ap (λ x. goal_truths (goals_in x)) h)
  sentences-kept (l ∷ ls) ss e =
      let t = two-some (sentence_of l) (sentences_of ls) ◌∷◌ ss e in
      let u = turned l t.first t.is_first in
      let k = what-is-written-is-as-true L S π l t.first t.is_first ρ σ in
      let (x, y) = sentences-kept ls t.second t.is_second in (
        rule-kept l.role l.formula u.formula t.first u.read k (axioms ls) t.second x ∙ ap (λ z. rule_truths (rules_in z)) t.makes,
        goal-kept l.role l.formula u.formula t.first u.read k (conjectures ls) t.second y ∙ ap (λ z. goal_truths (goals_in z)) t.makes,
      )

  pub book-is-as-true : (ls : List Line) (b : Book) → Becomes ls b → (map (truth L S ρ) (axioms ls) ≡ rule_truths b.rules) × (map (truth L S ρ) (conjectures ls) ≡ goal_truths (b.goal ∷ []))
  book-is-as-true ls b e =
      let (ss, h, r) = bind-some (sentences_of ls) with_goal b e in
      let t = one-some (only_one (goals_in ss)) (λ g. record { rules = rules_in ss; goal = g }) b r in
      let (x, y) = sentences-kept ls ss h in
      (x ∙ ap (λ z. rule_truths z.rules) t.makes, y ∙ ap goal_truths (only-is (goals_in ss) t.first t.is_first) ∙ ap (λ z. goal_truths (z.goal ∷ [])) t.makes)
