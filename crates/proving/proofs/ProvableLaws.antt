-- The yes or no of the search is whether crate harrop's `first` finds a strip, step by step of the walk: clauses by number, a clause taken apart, candidates by number, the end of a path. So it is yes exactly if there is a proof within the height.
use Prim.Native.Nat.{ℕ, zero, suc, ◌-◌}
use mathlib.Core.Path.{◌≡◌, refl, sym, ◌∙◌, ap, ap₂}
use mathlib.Core.Bool.{Bool, true, false, ◌&&◌, ◌||◌, false≢true}
use mathlib.Core.List.{List, [], ◌∷◌, ◌++◌}
use mathlib.Core.Option.{Option, none, some}
use native.Mathlib.Omega.{arith}
use lib.ListN.{length, get_elem?}
use Rattle.basics.specs.Choice.{◌>>=◌, maybe}
use Rattle.basics.specs.Tells.{Tells}
use Rattle.harrop.specs.declared.Binding.TheVariants.{Candidate, Parameter}
use Rattle.harrop.specs.Formula.{Atom, Goal, Clause, Step, Strip}
use Rattle.harrop.specs.Bindings.{Bindings, replaced_atom, same_atom}
use Rattle.harrop.specs.Place.{Candidates, AtHand, Hand, End, allowed, place}
use Rattle.harrop.specs.First.{Within}
use Rattle.harrop.specs.Search.{first_from, first_candidate, first_path, at_end, first}
use Rattle.harrop.proofs.Finding.{nothing-found-no-proof, found-proves, found-within-the-height}
use Rattle.proving.specs.Provable.{is_some, any_from, candidate_does, candidates_from, through, ending, clause_does, clauses_from, provable, serves}

-- an answer that is only dressed, and one that another follows
pub dressed-is : {A B : Type 0} (f : A → B) (o : Option A) → is_some (o >>= λ a. some (f a)) ≡ is_some o
dressed-is f none = refl
dressed-is f (some a) = refl

pub both-are : {A B C : Type 0} (f : A → B → C) (o : Option A) (u : Option B) → is_some (o >>= λ a. u >>= λ b. some (f a b)) ≡ is_some o && is_some u
both-are f none u = refl
both-are f (some a) u = dressed-is (f a) u

pub either_is : (o u : Option Strip) → is_some {A = Strip} (elim o as (λ x. Option Strip) [ none ↦ (u >>= λ R. some (Strip.right R)) | some P ↦ some (Strip.left P) ]) ≡ is_some o || is_some u
either_is none u = dressed-is Strip.right u
either_is (some P) u = refl

pub tested-is : {B : Type 0} (t : Bool) (o : Option B) → is_some {A = B} (elim t as (λ x. Option B) [ true ↦ o | false ↦ none ]) ≡ t && is_some o
tested-is true o = refl
tested-is false o = refl

-- the first number that answers
pub from_is : {B : Type 0} (f : ℕ → Option B) (t : ℕ → Bool) → ((i : ℕ) → is_some (f i) ≡ t i) → (i n : ℕ) → is_some (first_from f i n) ≡ any_from t i n
unfolding any_from
from_is f t e i zero = refl
from_is {B} f t e i (suc n) = go (f i) (e i) (from_is f t e (suc i) n)
  where
    go : (o : Option B) → is_some o ≡ t i → is_some (first_from f (suc i) n) ≡ any_from t (suc i) n → is_some {A = B} (elim o as (λ x. Option B) [ none ↦ first_from f (suc i) n | some b ↦ some b ]) ≡ t i || any_from t (suc i) n
    go none d ih = ap₂ ◌||◌ d ih
    go (some b) d ih = ap (λ (x : Bool). x || any_from t (suc i) n) d

all-of-them : (t : ℕ → Bool) (n : ℕ) → any_from t 0 n ≡ any_from t 0 (n - 0)
all-of-them t n = ap (any_from t 0) {x = n} {y = n - 0} (omega arith)

module _ {Q : Type 0} (cs : Candidates Q) where
  pub candidate-is : {B : Type 0} (o : List Q) (q : Q) (try : ℕ → Option B) (t : ℕ → Bool) → ((i : ℕ) → is_some (try i) ≡ t i) → is_some (first_candidate cs o q try) ≡ candidates_from cs o q t 0
  unfolding candidates_from candidate_does
  candidate-is {B} o q try t e =
      from_is (λ i. elim (allowed cs o q i) as (λ x. Option B) [ true ↦ try i | false ↦ none ]) (candidate_does cs o q t)
      (λ i. tested-is (allowed cs o q i) (try i) ∙ ap (λ (x : Bool). allowed cs o q i && x) (e i)) 0 (length cs.terms)
      ∙ all-of-them (candidate_does cs o q t) (length cs.terms)

  pub path-is : {B : Type 0} (o : List Q) (d : Clause Q) (bs : Bindings) (try : List Step → End Q → Option B) (t : End Q → Bool) → ((path : List Step) (x : End Q) → is_some (try path x) ≡ t x) → is_some (first_path cs o d bs try) ≡ through cs o d bs t
  unfolding through
  path-is o (Clause.atom_d a) bs try t e = e [] (End.at_atom a bs)
  path-is o (Clause.imp_d g a) bs try t e = e [] (End.at_imp g a bs)
  path-is o (Clause.all_d q d) bs try t e =
      candidate-is o q (λ i. first_path cs o d (Candidate i ∷ bs) (λ path x. try (Step.n i ∷ path) x)) (λ i. through cs o d (Candidate i ∷ bs) t)
      (λ i. path-is o d (Candidate i ∷ bs) (λ path x. try (Step.n i ∷ path) x) t (λ path x. e (Step.n i ∷ path) x))
  path-is {B} o (Clause.and_d c d) bs try t e =
      go (first_path cs o c bs (λ path x. try (Step.l ∷ path) x)) (path-is o c bs (λ path x. try (Step.l ∷ path) x) t (λ path x. e (Step.l ∷ path) x))
      (path-is o d bs (λ path x. try (Step.r ∷ path) x) t (λ path x. e (Step.r ∷ path) x))
    where
      go : (y : Option B) → is_some y ≡ through cs o c bs t → is_some (first_path cs o d bs (λ path x. try (Step.r ∷ path) x)) ≡ through cs o d bs t → is_some {A = B} (elim y as (λ x. Option B) [ none ↦ first_path cs o d bs (λ path x. try (Step.r ∷ path) x) | some b ↦ some b ]) ≡ through cs o c bs t || through cs o d bs t
      go none l r = ap₂ ◌||◌ l r
      go (some b) l r = ap (λ (x : Bool). x || through cs o d bs t) l

  pub end_is : (a : Atom) (prove : Goal Q → Bindings → Option Strip) (p : Goal Q → Bindings → Bool) → ((g : Goal Q) (bs : Bindings) → is_some (prove g bs) ≡ p g bs) → (k : ℕ) (path : List Step) (x : End Q) → is_some (at_end cs a prove k path x) ≡ ending cs a p x
  unfolding ending
  end_is a prove p e k path (End.at_atom b bs) = tested-is (same_atom (replaced_atom cs.terms bs b) a) (some (Strip.use₀ k path)) ∙ and-true (same_atom (replaced_atom cs.terms bs b) a)
    where
      and-true : (t : Bool) → t && true ≡ t
      and-true true = refl
      and-true false = refl
  end_is a prove p e k path (End.at_imp g b bs) =
      tested-is (same_atom (replaced_atom cs.terms bs b) a) (prove g bs >>= λ P. some (Strip.use₁ k path P))
      ∙ ap (λ (x : Bool). same_atom (replaced_atom cs.terms bs b) a && x) (dressed-is (λ (P : Strip). Strip.use₁ k path P) (prove g bs) ∙ e g bs)

  pub clause-is : {B : Type 0} (o : List Q) (c : Hand Q) (try : ℕ → List Step → End Q → Option B) (t : End Q → Bool) → ((k : ℕ) (path : List Step) (x : End Q) → is_some (try k path x) ≡ t x) → (k : ℕ) → is_some (get_elem? c k >>= λ d. first_path cs o d.clause d.bindings (try k)) ≡ clause_does cs o c t k
  unfolding clause_does
  clause-is {B} o c try t e k = go (get_elem? c k)
    where
      go : (m : Option (AtHand Q)) → is_some (m >>= λ d. first_path cs o d.clause d.bindings (try k)) ≡ maybe m false λ d. through cs o d.clause d.bindings t
      go none = refl
      go (some d) = path-is o d.clause d.bindings (try k) t (e k)

  -- yes exactly where the search finds
  pub provable-is : (h : ℕ) (o : List Q) (c : Hand Q) (bs : Bindings) (g : Goal Q) → is_some (first cs h o c bs g) ≡ provable cs h o c bs g
  unfolding provable clauses_from
  provable-is zero o c bs g = refl
  provable-is (suc h) o c bs Goal.top = refl
  provable-is (suc h) o c bs (Goal.atom a) =
      let try : ℕ → List Step → End Q → Option Strip = λ k path x. at_end cs (replaced_atom cs.terms bs a) (λ g ds. first cs h o c ds g) k path x in
      from_is (λ k. get_elem? c k >>= λ d. first_path cs o d.clause d.bindings (try k)) (clause_does cs o c (serves cs h o c bs a))
      (λ k. clause-is o c try (serves cs h o c bs a) (λ k path x. end_is (replaced_atom cs.terms bs a) (λ g ds. first cs h o c ds g) (λ g ds. provable cs h o c ds g) (λ g ds. provable-is h o c ds g) k path x) k) 0 (length c)
      ∙ all-of-them (clause_does cs o c (serves cs h o c bs a)) (length c)
  provable-is (suc h) o c bs (Goal.and g g') = both-are Strip.and (first cs h o c bs g) (first cs h o c bs g') ∙ ap₂ ◌&&◌ (provable-is h o c bs g) (provable-is h o c bs g')
  provable-is (suc h) o c bs (Goal.or g g') = either_is (first cs h o c bs g) (first cs h o c bs g') ∙ ap₂ ◌||◌ (provable-is h o c bs g) (provable-is h o c bs g')
  provable-is (suc h) o c bs (Goal.some q g) =
      candidate-is o q (λ i. first cs h o c (Candidate i ∷ bs) g >>= λ P. some (Strip.some i P)) (λ i. provable cs h o c (Candidate i ∷ bs) g)
      (λ i. dressed-is (λ (P : Strip). Strip.some i P) (first cs h o c (Candidate i ∷ bs) g) ∙ provable-is h o c (Candidate i ∷ bs) g)
  provable-is (suc h) o c bs (Goal.all q g) =
      dressed-is Strip.all (first cs h (q ∷ o) c (Parameter (suc (length o)) ∷ bs) g) ∙ provable-is h (q ∷ o) c (Parameter (suc (length o)) ∷ bs) g
  provable-is (suc h) o c bs (Goal.imp d g) =
      dressed-is Strip.imp (first cs h o (c ++ (record { clause = d; bindings = bs } ∷ [])) bs g) ∙ provable-is h o (c ++ (record { clause = d; bindings = bs } ∷ [])) bs g

  pub yes-found : (h : ℕ) (o : List Q) (c : Hand Q) (bs : Bindings) (g : Goal Q) → provable cs h o c bs g ≡ true → (P : Strip) × (first cs h o c bs g ≡ some P)
  yes-found h o c bs g e = go (first cs h o c bs g) refl
    where
      go : (x : Option Strip) → first cs h o c bs g ≡ x → (P : Strip) × (first cs h o c bs g ≡ some P)
      go none n = absurd (false≢true (sym (ap is_some n) ∙ provable-is h o c bs g ∙ e))
      go (some P) n = (P, n)

  pub no_found : (h : ℕ) (o : List Q) (c : Hand Q) (bs : Bindings) (g : Goal Q) → provable cs h o c bs g ≡ false → first cs h o c bs g ≡ none
  no_found h o c bs g e = go (first cs h o c bs g) refl
    where
      go : (x : Option Strip) → first cs h o c bs g ≡ x → first cs h o c bs g ≡ none
      go none n = n
      go (some P) n = absurd (false≢true (sym e ∙ sym (provable-is h o c bs g) ∙ ap is_some n))

  -- yes exactly if there is a proof within the height
  pub provable-tells : (h : ℕ) (o : List Q) (c : Hand Q) (bs : Bindings) (g : Goal Q) → Tells (provable cs h o c bs g) (Within cs h (place o c bs g))
  provable-tells h o c bs g = go (provable cs h o c bs g) refl
    where
      go : (b : Bool) → provable cs h o c bs g ≡ b → Tells b (Within cs h (place o c bs g))
      go true e =
          let (P, f) = yes-found h o c bs g e in
          record { strip = P; proves = found-proves cs h (place o c bs g) P f; is_low = found-within-the-height cs h (place o c bs g) P f }
      go false e = nothing-found-no-proof cs h (place o c bs g) (no_found h o c bs g e)
