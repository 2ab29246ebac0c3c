-- What the pieces of the search answer: the first number, candidate and path that answers, and that none does.
use Prim.Native.Nat.{ℕ, zero, suc, ◌+◌, ◌≤◌, ◌<◌}
use mathlib.Core.Path.{◌≡◌, refl, sym, ◌∙◌, ap}
use mathlib.Core.Bool.{Bool, true, false}
use mathlib.Core.List.{List, [], ◌∷◌}
use mathlib.Core.Option.{Option, none, some, some-injective}
use native.Mathlib.Omega.{arith}
use lib.Dec.{ltb}
use lib.ListN.{length}
use borrow.Author.Tests.{ltb-true, ltb-false}
use Rattle.basics.specs.Choice.{nope, ◌>>=◌, bind-some}
use Rattle.harrop.specs.declared.Binding.TheVariants.{Candidate}
use Rattle.harrop.specs.Formula.{Clause, Step}
use Rattle.harrop.specs.Bindings.{Bindings}
use Rattle.harrop.specs.Place.{Candidates, End, allowed}
use Rattle.harrop.specs.Proves.{May, Reaches, at-atom, at-imp, by_number, by-l, by-r}
use Rattle.harrop.specs.Order.{PathBefore, l-r, lower, this-step, next-step}
use Rattle.harrop.specs.Search.{first_from, first_candidate, first_path}
use Rattle.harrop.proofs.PlaceLaws.{allowed-may, may-allowed, may-below}

-- the first number that answers, with its answer
pub record FirstAt {B : Type 0} (f : ℕ → Option B) (i : ℕ) (b : B) : Type 0 where
  pub number : ℕ
  pub answers : f number ≡ some b
  pub silent : (j : ℕ) → i ≤ j → j < number → f j ≡ none

pub from_some : {B : Type 0} (f : ℕ → Option B) (i n : ℕ) (b : B) → first_from f i n ≡ some b → FirstAt f i b
from_some f i zero b e = nope e
from_some {B} f i (suc n) b e = go (f i) refl e (λ e. from_some f (suc i) n b e)
  where
    later : f i ≡ none → FirstAt f (suc i) b → FirstAt f i b
    later d t = record { number = t.number; answers = t.answers; silent = λ j l u. split j l u (ltb i j) refl }
      where
        split : (j : ℕ) → i ≤ j → j < t.number → (s : Bool) → ltb i j ≡ s → f j ≡ none
        split j l u true q = t.silent j (ltb-true i j q) u
        split j l u false q = ap f (omega (arith, ltb-false i j q)) ∙ d

    go : (o : Option B) → f i ≡ o → elim o as (λ x. Option B) [ none ↦ first_from f (suc i) n | some b ↦ some b ] ≡ some b → (first_from f (suc i) n ≡ some b → FirstAt f (suc i) b) → FirstAt f i b
    go none d e ih = later d (ih e)
    go (some b₁) d e ih = record { number = i; answers = d ∙ e; silent = λ j l u. absurd (omega arith) }

pub from-none : {B : Type 0} (f : ℕ → Option B) (i n : ℕ) → first_from f i n ≡ none → (k : ℕ) → i ≤ k → k < i + n → f k ≡ none
from-none f i zero e k l u = absurd (omega arith)
from-none {B} f i (suc n) e k l u = go (f i) refl e (λ e l. from-none f (suc i) n e k l (omega arith)) (ltb i k) refl
  where
    go : (o : Option B) → f i ≡ o → ◌≡◌ {A = Option B} (elim o as (λ x. Option B) [ none ↦ first_from f (suc i) n | some b ↦ some b ]) none → (first_from f (suc i) n ≡ none → suc i ≤ k → f k ≡ none) → (s : Bool) → ltb i k ≡ s → f k ≡ none
    go none d e ih true q = ih e (ltb-true i k q)
    go none d e ih false q = ap f (omega (arith, ltb-false i k q)) ∙ d
    go (some b) d e ih s q = nope (sym e)

-- a test before an answer
pub tested : {B : Type 0} (t : Bool) (o : Option B) (b : B) → elim t as (λ x. Option B) [ true ↦ o | false ↦ none ] ≡ some b → (t ≡ true) × (o ≡ some b)
tested true o b e = (refl, e)
tested false o b e = nope e

-- the first of two answers
pub neither : {B : Type 0} (o o₁ : Option B) → ◌≡◌ {A = Option B} (elim o as (λ x. Option B) [ none ↦ o₁ | some b ↦ some b ]) none → (o ≡ none) × (o₁ ≡ none)
neither none o₁ e = (refl, e)
neither (some b) o₁ e = nope (sym e)

-- an answer that is only dressed
pub dressed-some : {A B : Type 0} (f : A → B) (o : Option A) (b : B) → (o >>= λ a. some (f a)) ≡ some b → (a : A) × (o ≡ some a) × (f a ≡ b)
dressed-some f o b e = let (a, q, r) = bind-some o (λ a. some (f a)) b e in (a, q, some-injective (f a) b r)

pub dressed-none : {A B : Type 0} (f : A → B) (o : Option A) → (o >>= λ a. some (f a)) ≡ none → o ≡ none
dressed-none f none e = refl
dressed-none f (some a) e = nope (sym e)

-- nothing is before the empty path
pub none-before-the-empty : {path path₁ : List Step} → PathBefore path path₁ → path₁ ≡ [] → ⊥
none-before-the-empty (this-step b) e = let z : ◌≡◌ {A = ℕ} 0 1 = cc in omega arith
none-before-the-empty (next-step b) e = let z : ◌≡◌ {A = ℕ} 0 1 = cc in omega arith

module _ {Q : Type 0} (cs : Candidates Q) where
  -- the first candidate that answers
  pub record FirstOne {B : Type 0} (o : List Q) (q : Q) (try : ℕ → Option B) (b : B) : Type 0 where
    pub number : ℕ
    pub may : May cs o q number
    pub answers : try number ≡ some b
    pub silent : (j : ℕ) → j < number → May cs o q j → try j ≡ none

  pub candidate-some : {B : Type 0} (o : List Q) (q : Q) (try : ℕ → Option B) (b : B) → first_candidate cs o q try ≡ some b → FirstOne o q try b
  candidate-some {B} o q try b e =
      let t = from_some (λ i. elim (allowed cs o q i) as (λ x. Option B) [ true ↦ try i | false ↦ none ]) 0 (length cs.terms) b e in
      let (m, a) = tested (allowed cs o q t.number) (try t.number) b t.answers in
      record { number = t.number; may = allowed-may cs o q t.number m; answers = a; silent = λ j l n. silent j n (t.silent j (omega arith) l) }
    where
      silent : (j : ℕ) → May cs o q j → ◌≡◌ {A = Option B} (elim (allowed cs o q j) as (λ x. Option B) [ true ↦ try j | false ↦ none ]) none → try j ≡ none
      silent j n z = rw (may-allowed cs o q j n) at z

  pub candidate-none : {B : Type 0} (o : List Q) (q : Q) (try : ℕ → Option B) → first_candidate cs o q try ≡ none → (i : ℕ) → May cs o q i → try i ≡ none
  candidate-none {B} o q try e i m =
      let z = from-none (λ i. elim (allowed cs o q i) as (λ x. Option B) [ true ↦ try i | false ↦ none ]) 0 (length cs.terms) e i (omega arith) (omega (arith, may-below cs o q i m)) in
      rw (may-allowed cs o q i m) at z

  -- where no path answers, each is silent
  pub path-none : {B : Type 0} {o : List Q} {d : Clause Q} {bs : Bindings} {path : List Step} {x : End Q} (try : List Step → End Q → Option B) → Reaches cs o d bs path x → first_path cs o d bs try ≡ none → try path x ≡ none
  path-none try at-atom e = e
  path-none try at-imp e = e
  path-none {o = o} try (by_number {q = q} {d = d} {bs = bs} {i = i} m t) e =
      path-none (λ path x. try (Step.n i ∷ path) x) t (candidate-none o q (λ i. first_path cs o d (Candidate i ∷ bs) (λ path x. try (Step.n i ∷ path) x)) e i m)
  path-none {o = o} try (by-l {c = c} {d = d} {bs = bs} t) e =
      path-none (λ path x. try (Step.l ∷ path) x) t (neither (first_path cs o c bs (λ path x. try (Step.l ∷ path) x)) (first_path cs o d bs (λ path x. try (Step.r ∷ path) x)) e).0
  path-none {o = o} try (by-r {c = c} {d = d} {bs = bs} t) e =
      path-none (λ path x. try (Step.r ∷ path) x) t (neither (first_path cs o c bs (λ path x. try (Step.l ∷ path) x)) (first_path cs o d bs (λ path x. try (Step.r ∷ path) x)) e).1

  -- the first path that answers
  pub record FirstWay {B : Type 0} (o : List Q) (d : Clause Q) (bs : Bindings) (try : List Step → End Q → Option B) (b : B) : Type 0 where
    pub way : List Step
    pub end : End Q
    pub reaches : Reaches cs o d bs way end
    pub answers : try way end ≡ some b
    pub silent : (path : List Step) (x : End Q) → PathBefore path way → Reaches cs o d bs path x → try path x ≡ none

  pub path-some : {B : Type 0} (o : List Q) (d : Clause Q) (bs : Bindings) (try : List Step → End Q → Option B) (b : B) → first_path cs o d bs try ≡ some b → FirstWay o d bs try b
  path-some o (Clause.atom_d a) bs try b e =
      record { way = []; end = End.at_atom a bs; reaches = at-atom; answers = e; silent = λ path x s. absurd (none-before-the-empty s refl) }
  path-some o (Clause.imp_d g a) bs try b e =
      record { way = []; end = End.at_imp g a bs; reaches = at-imp; answers = e; silent = λ path x s. absurd (none-before-the-empty s refl) }
  path-some {B} o (Clause.all_d q d) bs try b e =
      let t = candidate-some o q (λ i. first_path cs o d (Candidate i ∷ bs) (λ path x. try (Step.n i ∷ path) x)) b e in
      let u = path-some o d (Candidate t.number ∷ bs) (λ path x. try (Step.n t.number ∷ path) x) b t.answers in
      record { way = Step.n t.number ∷ u.way; end = u.end; reaches = by_number t.may u.reaches; answers = u.answers; silent = λ path x s r. at-number t.number u.way path x t.silent u.silent s r }
    where
      at-number : (i : ℕ) (way path : List Step) (x : End Q) → ((j : ℕ) → j < i → May cs o q j → first_path cs o d (Candidate j ∷ bs) (λ path x. try (Step.n j ∷ path) x) ≡ none) → ((path : List Step) (x : End Q) → PathBefore path way → Reaches cs o d (Candidate i ∷ bs) path x → try (Step.n i ∷ path) x ≡ none) → PathBefore path (Step.n i ∷ way) → Reaches cs o (Clause.all_d q d) bs path x → try path x ≡ none
      at-number i way path x f f₁ (this-step (lower {i = j} l)) (by_number m r) = path-none (λ path x. try (Step.n j ∷ path) x) r (f j l m)
      at-number i way path x f f₁ (next-step {path = p} s) (by_number m r) = f₁ p x s r
  path-some {B} o (Clause.and_d c d) bs try b e =
      go (first_path cs o c bs (λ path x. try (Step.l ∷ path) x)) refl e
      (λ e. path-some o c bs (λ path x. try (Step.l ∷ path) x) b e)
      (λ e. path-some o d bs (λ path x. try (Step.r ∷ path) x) b e)
    where
      at-l : (way path : List Step) (x : End Q) → ((path : List Step) (x : End Q) → PathBefore path way → Reaches cs o c bs path x → try (Step.l ∷ path) x ≡ none) → PathBefore path (Step.l ∷ way) → Reaches cs o (Clause.and_d c d) bs path x → try path x ≡ none
      at-l way path x f (next-step {path = p} s) (by-l r) = f p x s r
      at-l way _ x f (this-step s) _ = elim s [ ]

      at-r : (way path : List Step) (x : End Q) → first_path cs o c bs (λ path x. try (Step.l ∷ path) x) ≡ none → ((path : List Step) (x : End Q) → PathBefore path way → Reaches cs o d bs path x → try (Step.r ∷ path) x ≡ none) → PathBefore path (Step.r ∷ way) → Reaches cs o (Clause.and_d c d) bs path x → try path x ≡ none
      at-r way path x n f (this-step l-r) (by-l r) = path-none (λ path x. try (Step.l ∷ path) x) r n
      at-r way path x n f (next-step {path = p} s) (by-r r) = f p x s r

      go : (y : Option B) → first_path cs o c bs (λ path x. try (Step.l ∷ path) x) ≡ y → elim y as (λ x. Option B) [ none ↦ first_path cs o d bs (λ path x. try (Step.r ∷ path) x) | some b ↦ some b ] ≡ some b → (first_path cs o c bs (λ path x. try (Step.l ∷ path) x) ≡ some b → FirstWay o c bs (λ path x. try (Step.l ∷ path) x) b) → (first_path cs o d bs (λ path x. try (Step.r ∷ path) x) ≡ some b → FirstWay o d bs (λ path x. try (Step.r ∷ path) x) b) → FirstWay o (Clause.and_d c d) bs try b
      go none n e l r =
          let t = r e in
          record { way = Step.r ∷ t.way; end = t.end; reaches = by-r t.reaches; answers = t.answers; silent = λ path x s w. at-r t.way path x n t.silent s w }
      go (some b₁) n e l r =
          let t = l (n ∙ e) in
          record { way = Step.l ∷ t.way; end = t.end; reaches = by-l t.reaches; answers = t.answers; silent = λ path x s w. at-l t.way path x t.silent s w }
