-- The two files are what document 01's readers read (document 02, One): where a book is written, crate `packet` reads its rules from the one and its goal from the other, with no refusal.
-- That a variable's number has at most three digits is no test of the book's own: it is below the number of quantifiers around it, and each of those is a level.
use Prim.Native.Nat.{ℕ, suc, ◌+◌, ◌≤◌, ◌<◌}
use mathlib.Core.Path.{◌≡◌, refl, sym, ◌∙◌, ap, subst}
use mathlib.Core.Bool.{Bool, true, false}
use mathlib.Core.List.{List, [], ◌∷◌}
use mathlib.Core.Option.{some, some-injective}
use native.Mathlib.Omega.{arith}
use lib.ListN.{length}
use Rattle.basics.specs.Choice.{◌>>=◌, nope, bind-some, provided-some, choose}
use Rattle.basics.specs.Each.{Each}
use Rattle.harrop.specs.Formula as plain
use Rattle.harrop.specs.Formula.{Name, Goal, Clause}
use Rattle.harrop.specs.Bindings.{same_name}
use Rattle.harrop.specs.Place.{Plain}
use Rattle.harrop.specs.Scoped.{TermWithin, TermsWithin, AtomWithin, GoalWithin, ClauseWithin, ClosedClause}
use Rattle.sexp.specs.Sexp.{nesting, nestings}
use Rattle.sexp.specs.Words.{is_name}
use Rattle.packet.specs.declared.Kind.TheVariants as K
use Rattle.packet.specs.declared.File.TheVariants as F
use Rattle.packet.specs.Written.{goal_sexp, clause_sexp, each}
use Rattle.packet.specs.Read.{rules_of, goal_of, candidates_of}
use Rattle.packet.specs.Spells.{NameWords, TermWords, TermsWords, AtomWords, GoalWords, ClauseWords}
use Rattle.packet.specs.File as file
use Rattle.packet.specs.File.{file_of, books_of}
use Rattle.packet.proofs.PacketLaws.{rules-only, goal-only}
use Rattle.packet.proofs.FairLaws.{rules-closed, goal-closed}
use Rattle.calculus.specs.Formula as numbered
use Rattle.calculus.specs.Translation.{goal_formula, clause_formula}
use Rattle.fof_truth.specs.Formula.{Term, Terms, Formula, Line}
use Rattle.fof_truth.specs.Numbered.{Scope, number_of, term_in, terms_in, formula_in}
use Rattle.fof_truth.specs.Sentence.{Sentence, sentence_formula, sentence_of}
use Rattle.fof_truth.specs.Book.{sentences_of, rules_in, goals_in, only_one, Book, with_goal, rules_file, goal_file, Outcome, book_of}
use Rattle.fof_truth.specs.Meaning.{Few, Flat, Short, Becomes, Means, written}
use Rattle.fof_truth.proofs.SentenceLaws.{one-some, two-some, sentence-is, turned}
use Rattle.fof_truth.proofs.BookLaws.{outcome-exactly, only-is}

-- every variable below n, no parameter, and names that are document 01's
abbrev mutual
  TermGood : ℕ → plain.Term → Type 0
  TermGood n (plain.Term.v i) = i < n
  TermGood n (plain.Term.f g ts) = NameWords g × TermsGood n ts
  TermGood n (plain.Term.e k) = ⊥

  TermsGood : ℕ → plain.Terms → Type 0
  TermsGood n plain.Terms.nil = Unit {0}
  TermsGood n (plain.Terms.cons t ts) = TermGood n t × TermsGood n ts

abbrev AtomGood : ℕ → plain.Atom → Type 0
AtomGood n (plain.Atom.atom p ts) = NameWords p × TermsGood n ts

abbrev FormulaGood : ℕ → numbered.Formula Plain → Type 0
FormulaGood n (numbered.Formula.atom a) = AtomGood n a
FormulaGood n numbered.Formula.top = Unit {0}
FormulaGood n numbered.Formula.bottom = Unit {0}
FormulaGood n (numbered.Formula.and B C) = FormulaGood n B × FormulaGood n C
FormulaGood n (numbered.Formula.or B C) = FormulaGood n B × FormulaGood n C
FormulaGood n (numbered.Formula.implies B C) = FormulaGood n B × FormulaGood n C
FormulaGood n (numbered.Formula.all q B) = FormulaGood (suc n) B
FormulaGood n (numbered.Formula.some q B) = FormulaGood (suc n) B

-- what is numbered is so, n being the number of variables that are bound
number-below : (sc : Scope) (x : Name) (i : ℕ) → number_of sc x ≡ some i → i < length sc
number-below [] x i e = nope e
number-below (y ∷ sc) x i e = go (same_name x y) e (λ j h. number-below sc x j h)
  where
    go : (b : Bool) → choose b (some 0) (number_of sc x >>= λ j. some (suc j)) ≡ some i → ((j : ℕ) → number_of sc x ≡ some j → j < length sc) → i < suc (length sc)
    go true q f = let z = some-injective 0 i q in omega arith
    go false q f =
        let t = one-some (number_of sc x) (λ j. suc j) i q in
        let z = t.makes in
        let w = f t.first t.is_first in
        omega arith

mutual
  term-good : (t : Term) (sc : Scope) (u : plain.Term) → term_in sc t ≡ some u → TermGood (length sc) u
  term-good (Term.var x) sc u e =
      let t = one-some (number_of sc x) plain.Term.v u e in
      subst (TermGood (length sc)) t.makes (number-below sc x t.first t.is_first)
  term-good (Term.fun g ts) sc u e =
      let (a, r) = provided-some (is_name g) (terms_in sc ts >>= λ us. some (plain.Term.f g us)) u e in
      let t = one-some (terms_in sc ts) (plain.Term.f g) u r in
      subst (TermGood (length sc)) t.makes (a, terms-good ts sc t.first t.is_first)

  terms-good : (ts : Terms) (sc : Scope) (us : plain.Terms) → terms_in sc ts ≡ some us → TermsGood (length sc) us
  terms-good Terms.nil sc us e = subst (TermsGood (length sc)) (some-injective plain.Terms.nil us e) tt
  terms-good (Terms.cons t ts) sc us e =
      let w = two-some (term_in sc t) (terms_in sc ts) plain.Terms.cons us e in
      subst (TermsGood (length sc)) w.makes (term-good t sc w.first w.is_first, terms-good ts sc w.second w.is_second)

formula-good : (F : Formula) (sc : Scope) (B : numbered.Formula Plain) → formula_in sc F ≡ some B → FormulaGood (length sc) B
formula-good Formula.true sc B e = subst (FormulaGood (length sc)) (some-injective numbered.Formula.top B e) tt
formula-good (Formula.atom p ts) sc B e =
    let (a, r) = provided-some (is_name p) (terms_in sc ts >>= λ us. some (numbered.Formula.atom (plain.Atom.atom p us))) B e in
    let t = one-some (terms_in sc ts) (λ us. numbered.Formula.atom (plain.Atom.atom p us)) B r in
    subst (FormulaGood (length sc)) t.makes (a, terms-good ts sc t.first t.is_first)
formula-good (Formula.and F G) sc B e =
    let t = two-some (formula_in sc F) (formula_in sc G) numbered.Formula.and B e in
    subst (FormulaGood (length sc)) t.makes (formula-good F sc t.first t.is_first, formula-good G sc t.second t.is_second)
formula-good (Formula.or F G) sc B e =
    let t = two-some (formula_in sc F) (formula_in sc G) numbered.Formula.or B e in
    subst (FormulaGood (length sc)) t.makes (formula-good F sc t.first t.is_first, formula-good G sc t.second t.is_second)
formula-good (Formula.implies F G) sc B e =
    let t = two-some (formula_in sc F) (formula_in sc G) numbered.Formula.implies B e in
    subst (FormulaGood (length sc)) t.makes (formula-good F sc t.first t.is_first, formula-good G sc t.second t.is_second)
formula-good (Formula.all x F) sc B e =
    let t = one-some (formula_in (x ∷ sc) F) (numbered.Formula.all tt) B e in
    subst (FormulaGood (length sc)) t.makes (formula-good F (x ∷ sc) t.first t.is_first)
formula-good (Formula.some x F) sc B e =
    let t = one-some (formula_in (x ∷ sc) F) (numbered.Formula.some tt) B e in
    subst (FormulaGood (length sc)) t.makes (formula-good F (x ∷ sc) t.first t.is_first)

sentence-good : (l : Line) (s : Sentence) → sentence_of l ≡ some s → FormulaGood 0 (sentence_formula s)
sentence-good l s e =
    let t = turned l s e in
    subst (FormulaGood 0) (sym (sentence-is l.role t.formula s t.read)) (formula-good l.formula [] t.formula t.numbered)

-- such a tree, nested so little, is built from document 01's words
mutual
  term_words : (t : plain.Term) (n : ℕ) → TermGood n t → n ≤ 999 → TermWords t
  term_words (plain.Term.v i) n h l = omega arith
  term_words (plain.Term.f g ts) n (a, h) l = (a, terms-words ts n h l)
  term_words (plain.Term.e k) n h l = absurd h

  terms-words : (ts : plain.Terms) (n : ℕ) → TermsGood n ts → n ≤ 999 → TermsWords ts
  terms-words plain.Terms.nil n h l = tt
  terms-words (plain.Terms.cons t ts) n (h, k) l = (term_words t n h l, terms-words ts n k l)

atom-words : (a : plain.Atom) (n : ℕ) → AtomGood n a → n ≤ 999 → AtomWords a
atom-words (plain.Atom.atom p ts) n (a, h) l = (a, terms-words ts n h l)

mutual
  goal-words : (g : Goal Plain) (n : ℕ) → FormulaGood n (goal_formula g) → nesting (goal_sexp g) + n ≤ 999 → GoalWords g
  goal-words Goal.top n h l = tt
  goal-words (Goal.atom a) n h l = atom-words a n h (omega arith)
  goal-words (Goal.and g k) n (h, i) l = (goal-words g n h (omega arith), goal-words k n i (omega arith))
  goal-words (Goal.or g k) n (h, i) l = (goal-words g n h (omega arith), goal-words k n i (omega arith))
  goal-words (Goal.some q g) n h l = goal-words g (suc n) h (omega arith)
  goal-words (Goal.all q g) n h l = goal-words g (suc n) h (omega arith)
  goal-words (Goal.imp d g) n (h, i) l = (clause-words d n h (omega arith), goal-words g n i (omega arith))

  clause-words : (d : Clause Plain) (n : ℕ) → FormulaGood n (clause_formula d) → nesting (clause_sexp d) + n ≤ 999 → ClauseWords d
  clause-words (Clause.atom_d a) n h l = atom-words a n h (omega arith)
  clause-words (Clause.imp_d g a) n (h, i) l = (goal-words g n h (omega arith), atom-words a n i (omega arith))
  clause-words (Clause.all_d q d) n h l = clause-words d (suc n) h (omega arith)
  clause-words (Clause.and_d c d) n (h, i) l = (clause-words c n h (omega arith), clause-words d n i (omega arith))

-- and it has no free variable and no parameter
mutual
  term-within : (t : plain.Term) (n : ℕ) → TermGood n t → TermWithin (λ k. ⊥) n t
  term-within (plain.Term.v i) n h = h
  term-within (plain.Term.f g ts) n (a, h) = terms-within ts n h
  term-within (plain.Term.e k) n h = h

  terms-within : (ts : plain.Terms) (n : ℕ) → TermsGood n ts → TermsWithin (λ k. ⊥) n ts
  terms-within plain.Terms.nil n h = tt
  terms-within (plain.Terms.cons t ts) n (h, k) = (term-within t n h, terms-within ts n k)

atom-within : (a : plain.Atom) (n : ℕ) → AtomGood n a → AtomWithin (λ k. ⊥) n a
atom-within (plain.Atom.atom p ts) n (a, h) = terms-within ts n h

mutual
  goal-within : (g : Goal Plain) (n : ℕ) → FormulaGood n (goal_formula g) → GoalWithin (λ k. ⊥) n g
  goal-within Goal.top n h = tt
  goal-within (Goal.atom a) n h = atom-within a n h
  goal-within (Goal.and g k) n (h, i) = (goal-within g n h, goal-within k n i)
  goal-within (Goal.or g k) n (h, i) = (goal-within g n h, goal-within k n i)
  goal-within (Goal.some q g) n h = goal-within g (suc n) h
  goal-within (Goal.all q g) n h = goal-within g (suc n) h
  goal-within (Goal.imp d g) n (h, i) = (clause-within d n h, goal-within g n i)

  clause-within : (d : Clause Plain) (n : ℕ) → FormulaGood n (clause_formula d) → ClauseWithin (λ k. ⊥) n d
  clause-within (Clause.atom_d a) n h = atom-within a n h
  clause-within (Clause.imp_d g a) n (h, i) = (goal-within g n h, atom-within a n i)
  clause-within (Clause.all_d q d) n h = clause-within d (suc n) h
  clause-within (Clause.and_d c d) n (h, i) = (clause-within c n h, clause-within d n i)

-- of a whole book
abbrev RuleGood : Clause Plain → Type 0
RuleGood d = FormulaGood 0 (clause_formula d)

abbrev GoalGood : Goal Plain → Type 0
GoalGood g = FormulaGood 0 (goal_formula g)

rules-good : (s : Sentence) (ss : List Sentence) → FormulaGood 0 (sentence_formula s) → Each RuleGood (rules_in ss) → Each RuleGood (rules_in (s ∷ ss))
rules-good (Sentence.rule d) ss h k = (h, k)
rules-good (Sentence.goal g) ss h k = k

goals-good : (s : Sentence) (ss : List Sentence) → FormulaGood 0 (sentence_formula s) → Each GoalGood (goals_in ss) → Each GoalGood (goals_in (s ∷ ss))
goals-good (Sentence.rule d) ss h k = k
goals-good (Sentence.goal g) ss h k = (h, k)

sentences-good : (ls : List Line) (ss : List Sentence) → sentences_of ls ≡ some ss → Each RuleGood (rules_in ss) × Each GoalGood (goals_in ss)
sentences-good [] ss e =
    let h = some-injective [] ss e in
    (subst (λ x. Each RuleGood (rules_in x)) h tt, subst (λ x. Each GoalGood (goals_in x)) h tt)
sentences-good (l ∷ ls) ss e =
    let t = two-some (sentence_of l) (sentences_of ls) ◌∷◌ ss e in
    let h = sentence-good l t.first t.is_first in
    let (x, y) = sentences-good ls t.second t.is_second in (
      subst (λ z. Each RuleGood (rules_in z)) t.makes (rules-good t.first t.second h x),
      subst (λ z. Each GoalGood (goals_in z)) t.makes (goals-good t.first t.second h y),
    )

book-good : (ls : List Line) (b : Book) → Becomes ls b → Each RuleGood b.rules × GoalGood b.goal
book-good ls b e =
    let (ss, h, r) = bind-some (sentences_of ls) with_goal b e in
    let t = one-some (only_one (goals_in ss)) (λ g. record { rules = rules_in ss; goal = g }) b r in
    let (x, y) = sentences-good ls ss h in
    let z : Each GoalGood (t.first ∷ []) = subst (Each GoalGood) (only-is (goals_in ss) t.first t.is_first) y in
    (subst (λ (w : Book). Each RuleGood w.rules) t.makes x, subst (λ (w : Book). GoalGood w.goal) t.makes z.0)

rules-words : (ds : List (Clause Plain)) → Each RuleGood ds → nestings (each clause_sexp ds) ≤ 999 → Each ClauseWords ds
rules-words [] h l = tt
rules-words (d ∷ ds) (h, k) l = (clause-words d 0 h (omega arith), rules-words ds k (omega arith))

rules-within : (ds : List (Clause Plain)) → Each RuleGood ds → Each ClosedClause ds
rules-within [] h = tt
rules-within (d ∷ ds) (h, k) = (clause-within d 0 h, rules-within ds k)

-- the files of a book that is written, as crate `packet` reads them
pub record ReadBack (b : Book) : Type 0 where
  pub rules : file_of K.Rules F.Rules rules_of (rules_file b) ≡ file.Outcome.sound b.rules
  pub goal : file_of K.Goal F.Goal goal_of (goal_file b) ≡ file.Outcome.sound b.goal

sound-rules : (ls : List Line) (a c : ℕ) (b : Book) → Becomes ls b → Few b → Flat b → Short a c b → file_of K.Rules F.Rules rules_of (rules_file b) ≡ file.Outcome.sound b.rules
sound-rules ls a c b h few flat short =
    let (x, y) = book-good ls b h in
    let f = flat.rules in
    rules-only (rules_file b) (file.Outcome.sound b.rules) (
      record { short = short.rules_allowed; spelt = refl; flat = flat.rules; words = rules-words b.rules x (omega arith) },
      record { few = few; unbarred = (rules-closed b.rules).1 (rules-within b.rules x) },
    )

sound-goal : (ls : List Line) (a c : ℕ) (b : Book) → Becomes ls b → Flat b → Short a c b → file_of K.Goal F.Goal goal_of (goal_file b) ≡ file.Outcome.sound b.goal
sound-goal ls a c b h flat short =
    let (x, y) = book-good ls b h in
    let f = flat.goal in
    goal-only (goal_file b) (file.Outcome.sound b.goal) (
      record { short = short.goal_allowed; spelt = refl; flat = flat.goal; words = goal-words b.goal 0 y (omega arith) },
      (goal-closed b.goal).1 (goal-within b.goal 0 y),
    )

pub what-is-written-is-read : (ls : List Line) (a c : ℕ) (b : Book) → book_of ls a c ≡ Outcome.written b → ReadBack b
what-is-written-is-read ls a c b e = go ((outcome-exactly ls a c (Outcome.written b)).0 e)
  where
    go : Means ls a c (Outcome.written b) → ReadBack b
    go (written p h f g s) = record { rules = sound-rules ls a c b h f g s; goal = sound-goal ls a c b h g s }

-- and with any terms that are read, the three files are the books with these rules and this goal
pub books-are-read : (ls : List Line) (a c : ℕ) (b : Book) → book_of ls a c ≡ Outcome.written b → (ts : List ℕ) (us : List plain.Term) → file_of K.Terms F.Terms candidates_of ts ≡ file.Outcome.sound us → books_of (rules_file b) (goal_file b) ts ≡ file.Outcome.sound (record { rules = b.rules; goal = b.goal; candidates = us })
unfolding books_of
books-are-read ls a c b e ts us h =
    let r = what-is-written-is-read ls a c b e in
    ap (λ x. file.and_then x λ ds. file.and_then (file_of K.Goal F.Goal goal_of (goal_file b)) λ g. file.and_then (file_of K.Terms F.Terms candidates_of ts) λ vs. file.Outcome.sound (record { rules = ds; goal = g; candidates = vs })) r.rules
    ∙ ap (λ x. file.and_then x λ g. file.and_then (file_of K.Terms F.Terms candidates_of ts) λ vs. file.Outcome.sound (record { rules = b.rules; goal = g; candidates = vs })) r.goal
    ∙ ap (λ x. file.and_then x λ vs. file.Outcome.sound (record { rules = b.rules; goal = b.goal; candidates = vs })) h
