-- What refusal 5 lets pass, as statements on trees: rules and goal have no free variable and no parameter, candidates no variable and parameters from 1 to 64 (document 01,
-- "The carrier and the words"). Every packet that is read is so; this is what crate `calculus` asks of one.
use Prim.Native.Nat.{ℕ, suc, ◌≤◌, ◌<◌}
use mathlib.Core.Path.{◌≡◌, refl, sym, ap, ◌∙◌}
use mathlib.Core.Bool.{Bool, true, false, ◌&&◌, false≢true}
use mathlib.Core.List.{List, [], ◌∷◌}
use mathlib.Core.Logic.{◌↔◌}
use mathlib.Core.Option.{Option}
use native.Mathlib.Omega.{arith}
use lib.Dec.{ltb, leb}
use borrow.Author.Tests.{ltb-true, lt-ltb, leb-true, le-leb}
use Rattle.basics.specs.Choice.{both_true}
use Rattle.basics.specs.Each.{Each}
use Rattle.harrop.specs.Formula.{Term, Terms, Atom, Goal, Clause}
use Rattle.harrop.specs.Place.{Plain}
use Rattle.harrop.specs.Scoped.{TermWithin, TermsWithin, AtomWithin, GoalWithin, ClauseWithin, ClosedGoal, ClosedClause, Candid, Fair}
use Rattle.packet.specs.Barred.{Holds, parameter_ok, term_ok, terms_ok, atom_ok, goal_ok, clause_ok, each_ok}
use Rattle.packet.specs.File.{Outcome, Books, books_of, Packet, packet_of}
use Rattle.packet.specs.Sound.{SoundBooks, SoundPacket}
use Rattle.packet.proofs.PacketLaws.{books-exactly, packet-exactly}

true-both : (a b : Bool) → a ≡ true → b ≡ true → a && b ≡ true
true-both a b e f = ap (λ (t : Bool). t && b) e ∙ f

both-when : {A B : Type 0} (a b : Bool) → a ≡ true ↔ A → b ≡ true ↔ B → (a && b ≡ true) ↔ (A × B)
both-when a b f g = (λ e. let (x, y) = both_true a b e in (f.0 x, g.0 y), λ (x, y). true-both a b (f.1 x) (g.1 y))

below-when : (i n : ℕ) → ltb i n ≡ true ↔ i < n
below-when i n = (ltb-true i n, lt-ltb i n)

-- for what P says of the parameters that are allowed
module _ (holds : Holds) (P : ℕ → Type 0) (allowed : (k : ℕ) → parameter_ok holds k ≡ true ↔ P k) where
  mutual
    pub term-within : (t : Term) (n : ℕ) → term_ok holds n t ≡ true ↔ TermWithin P n t
    term-within (Term.v i) n = below-when i n
    term-within (Term.f g ts) n = terms-within ts n
    term-within (Term.e k) n = allowed k

    pub terms-within : (ts : Terms) (n : ℕ) → terms_ok holds n ts ≡ true ↔ TermsWithin P n ts
    terms-within Terms.nil n = (λ e. tt, λ u. refl)
    terms-within (Terms.cons t ts) n = both-when (term_ok holds n t) (terms_ok holds n ts) (term-within t n) (terms-within ts n)

-- rules and goal hold no parameter
no-parameter : (k : ℕ) → parameter_ok false k ≡ true ↔ ⊥
no-parameter k = (λ e. false≢true e, λ b. absurd b)

atom-within : (a : Atom) (n : ℕ) → atom_ok n a ≡ true ↔ AtomWithin (λ k. ⊥) n a
atom-within (Atom.atom p ts) n = terms-within false (λ k. ⊥) no-parameter ts n

mutual
  pub goal-within : (g : Goal Plain) (n : ℕ) → goal_ok n g ≡ true ↔ GoalWithin (λ k. ⊥) n g
  goal-within Goal.top n = (λ e. tt, λ u. refl)
  goal-within (Goal.atom a) n = atom-within a n
  goal-within (Goal.and g h) n = both-when (goal_ok n g) (goal_ok n h) (goal-within g n) (goal-within h n)
  goal-within (Goal.or g h) n = both-when (goal_ok n g) (goal_ok n h) (goal-within g n) (goal-within h n)
  goal-within (Goal.some q g) n = goal-within g (suc n)
  goal-within (Goal.all q g) n = goal-within g (suc n)
  goal-within (Goal.imp d g) n = both-when (clause_ok n d) (goal_ok n g) (clause-within d n) (goal-within g n)

  pub clause-within : (d : Clause Plain) (n : ℕ) → clause_ok n d ≡ true ↔ ClauseWithin (λ k. ⊥) n d
  clause-within (Clause.atom_d a) n = atom-within a n
  clause-within (Clause.imp_d g a) n = both-when (goal_ok n g) (atom_ok n a) (goal-within g n) (atom-within a n)
  clause-within (Clause.all_d q d) n = clause-within d (suc n)
  clause-within (Clause.and_d c d) n = both-when (clause_ok n c) (clause_ok n d) (clause-within c n) (clause-within d n)

-- candidates: parameters from 1 to 64
abbrev pub Open : ℕ → Type 0
Open k = (1 ≤ k) × (k ≤ 64)

some-parameter : (k : ℕ) → parameter_ok true k ≡ true ↔ Open k
some-parameter k = (
  λ e. let (a, b) = both_true (leb 1 k) (leb k 64) e in (leb-true 1 k a, leb-true k 64 b),
  λ (a, b). true-both (leb 1 k) (leb k 64) (le-leb 1 k a) (le-leb k 64 b),
)

pub candidate-within : (t : Term) → term_ok true 0 t ≡ true ↔ TermWithin Open 0 t
candidate-within t = term-within true Open some-parameter t 0

-- all of a list
each-when : {A : Type 0} (ok : A → Bool) (P : A → Type 0) → ((a : A) → ok a ≡ true ↔ P a) → (xs : List A) → each_ok ok xs ≡ true ↔ Each P xs
each-when ok P f [] = (λ e. tt, λ u. refl)
each-when ok P f (x ∷ xs) = both-when (ok x) (each_ok ok xs) (f x) (each-when ok P f xs)

pub rules-closed : (ds : List (Clause Plain)) → each_ok (clause_ok 0) ds ≡ true ↔ Each ClosedClause ds
rules-closed ds = each-when (clause_ok 0) ClosedClause (λ d. clause-within d 0) ds

pub goal-closed : (g : Goal Plain) → goal_ok 0 g ≡ true ↔ ClosedGoal g
goal-closed g = goal-within g 0

pub candidates-open : (ts : List Term) → each_ok (term_ok true 0) ts ≡ true ↔ Each (TermWithin Open 0) ts
candidates-open ts = each-when (term_ok true 0) (TermWithin Open 0) candidate-within ts

-- what holds of more parameters
mutual
  wider : (P R : ℕ → Type 0) → ((k : ℕ) → P k → R k) → (n : ℕ) (t : Term) → TermWithin P n t → TermWithin R n t
  wider P R f n (Term.v i) h = h
  wider P R f n (Term.f g ts) h = wider-all P R f n ts h
  wider P R f n (Term.e k) h = f k h

  wider-all : (P R : ℕ → Type 0) → ((k : ℕ) → P k → R k) → (n : ℕ) (ts : Terms) → TermsWithin P n ts → TermsWithin R n ts
  wider-all P R f n Terms.nil h = tt
  wider-all P R f n (Terms.cons t ts) (a, b) = (wider P R f n t a, wider-all P R f n ts b)

each-candid : (ts : List Term) → Each (TermWithin Open 0) ts → Each Candid ts
each-candid [] u = tt
each-candid (t ∷ ts) (a, b) = (wider Open (λ k. 1 ≤ k) (λ k l. l.0) 0 t a, each-candid ts b)

-- every packet that is read is fair
pub sound-is-fair : (rs gs ts : List ℕ) (b : Books) → SoundBooks rs gs ts b → Fair b.rules b.goal b.candidates
sound-is-fair rs gs ts b h = record {
  rules = (rules-closed b.rules).0 h.good_rules.unbarred;
  goal = (goal-closed b.goal).0 h.good_goal;
  terms = each-candid b.candidates ((candidates-open b.candidates).0 h.good_candidates.unbarred);
}

pub books-are-fair : (rs gs ts : List ℕ) (b : Books) → books_of rs gs ts ≡ Outcome.sound b → Fair b.rules b.goal b.candidates
books-are-fair rs gs ts b e = sound-is-fair rs gs ts b ((books-exactly rs gs ts (Outcome.sound b)).0 e)

pub packet-is-fair : (rs gs ts ss : List ℕ) (p : Packet) → packet_of rs gs ts ss ≡ Outcome.sound p → Fair p.books.rules p.books.goal p.books.candidates
packet-is-fair rs gs ts ss p e = sound-is-fair rs gs ts p.books ((packet-exactly rs gs ts ss (Outcome.sound p)).0 e).books
