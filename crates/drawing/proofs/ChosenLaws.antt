-- The first strip at a place is the one that goes on in the option chosen: for each kind of goal, `first` in terms of yes and no of the options and of `first` in the chosen parts alone.
use Prim.Native.Nat.{ℕ, zero, suc, ◌-◌}
use mathlib.Core.Path.{◌≡◌, refl, sym, ◌∙◌, ap, ap₂}
use mathlib.Core.Bool.{Bool, true, false, ◌&&◌, false≢true}
use mathlib.Core.List.{List, [], ◌∷◌, ◌++◌}
use mathlib.Core.Option.{Option, none, some, some-injective}
use native.Mathlib.Omega.{arith}
use lib.ListN.{length, get_elem?}
use Rattle.basics.specs.Choice.{choose, ◌>>=◌, provided, nope, both_true, bind-some, provided-some}
use Rattle.harrop.specs.declared.Binding.TheVariants.{Candidate}
use Rattle.harrop.specs.Formula.{Atom, Goal, Clause, Step, Strip}
use Rattle.harrop.specs.Bindings.{Bindings, replaced_atom, same_atom}
use Rattle.harrop.specs.Place.{Candidates, AtHand, Hand, End, allowed}
use Rattle.harrop.specs.Search.{first_from, first_candidate, first_path, at_end, first}
use Rattle.harrop.proofs.SilentLaws.{tried}
use Rattle.proving.specs.Provable.{is_some, candidate_does, through, ending, clause_does, provable, serves}
use Rattle.drawing.specs.Chosen.{first_yes, stepping, used_at, candidate_from, clause_from, way}
use Rattle.proving.proofs.ProvableLaws.{dressed-is, tested-is, path-is, end_is, clause-is, provable-is}

-- where there is no answer
silent : {A : Type 0} (o : Option A) (t : Bool) → is_some o ≡ t → t ≡ false → o ≡ none
silent none t e f = refl
silent (some a) t e f = absurd (false≢true (sym (e ∙ f)))

-- one choice after another
bind-bind : {A B C : Type 0} (o : Option A) (f : A → Option B) (g : B → Option C) → ((o >>= f) >>= g) ≡ (o >>= λ a. f a >>= g)
bind-bind none f g = refl
bind-bind (some a) f g = refl

bind-same : {A B : Type 0} (o : Option A) (f g : A → Option B) → ((a : A) → f a ≡ g a) → (o >>= f) ≡ (o >>= g)
bind-same none f g e = refl
bind-same (some a) f g e = e a

bind-known : {A B : Type 0} (o : Option A) (f g : A → Option B) → ((a : A) → o ≡ some a → f a ≡ g a) → (o >>= f) ≡ (o >>= g)
bind-known none f g e = refl
bind-known (some a) f g e = e a refl

-- the first number that answers: where the answer is yes, f' may stand for f
from-chosen : {B : Type 0} (f f' : ℕ → Option B) (t : ℕ → Bool) → ((i : ℕ) → is_some (f i) ≡ t i) → ((i : ℕ) → t i ≡ true → f i ≡ f' i) → (i n : ℕ) → first_from f i n ≡ (first_yes t i n >>= f')
unfolding first_yes
from-chosen f f' t e u i zero = refl
from-chosen {B} f f' t e u i (suc n) = go (f i) (t i) refl refl (e i) (from-chosen f f' t e u (suc i) n)
  where
    go : (o : Option B) (b : Bool) → f i ≡ o → t i ≡ b → is_some o ≡ b → first_from f (suc i) n ≡ (first_yes t (suc i) n >>= f') → elim o as (λ x. Option B) [ none ↦ first_from f (suc i) n | some b ↦ some b ] ≡ (choose b (some i) (first_yes t (suc i) n) >>= f')
    go none true d y s ih = absurd (false≢true s)
    go none false d y s ih = ih
    go (some x) true d y s ih = sym d ∙ u i y
    go (some x) false d y s ih = absurd (false≢true (sym s))

all-numbers : (t : ℕ → Bool) (n : ℕ) → first_yes t 0 n ≡ first_yes t 0 (n - 0)
all-numbers t n = ap (first_yes t 0) {x = n} {y = n - 0} (omega arith)

-- the end of a path, where the answer is known
ended : {A B : Type 0} (o : Option B) (t : Bool) (a : A) (f : A → Option B) → is_some o ≡ t → o ≡ f a → o ≡ (provided t (some a) >>= f)
ended o true a f e g = g
ended o false a f e g = silent o false e refl

module _ {Q : Type 0} (cs : Candidates Q) where
  candidate-chosen : {B : Type 0} (o : List Q) (q : Q) (try : ℕ → Option B) (t : ℕ → Bool) → ((i : ℕ) → is_some (try i) ≡ t i) → first_candidate cs o q try ≡ (candidate_from cs o q t 0 >>= try)
  unfolding candidate_from candidate_does
  candidate-chosen {B} o q try t e =
      from-chosen (λ i. elim (allowed cs o q i) as (λ x. Option B) [ true ↦ try i | false ↦ none ]) try (candidate_does cs o q t)
      (λ i. tested-is (allowed cs o q i) (try i) ∙ ap (λ (x : Bool). allowed cs o q i && x) (e i))
      (λ i y. may (allowed cs o q i) (t i) (try i) y) 0 (length cs.terms)
      ∙ ap (λ (m : Option ℕ). m >>= try) (all-numbers (candidate_does cs o q t) (length cs.terms))
    where
      may : (a b : Bool) (x : Option B) → a && b ≡ true → elim a as (λ x. Option B) [ true ↦ x | false ↦ none ] ≡ x
      may true b x y = refl
      may false b x y = absurd (false≢true y)

  pub path-chosen : {B : Type 0} (o : List Q) (d : Clause Q) (bs : Bindings) (try : List Step → End Q → Option B) (t : End Q → Bool) → ((path : List Step) (x : End Q) → is_some (try path x) ≡ t x) → first_path cs o d bs try ≡ (way cs o d bs t >>= λ w. try w.0 w.1)
  unfolding way
  path-chosen {B} o (Clause.atom_d a) bs try t e = ended {A = List Step × End Q} (try [] (End.at_atom a bs)) (t (End.at_atom a bs)) ([], End.at_atom a bs) (λ w. try w.0 w.1) (e [] (End.at_atom a bs)) refl
  path-chosen {B} o (Clause.imp_d g a) bs try t e = ended {A = List Step × End Q} (try [] (End.at_imp g a bs)) (t (End.at_imp g a bs)) ([], End.at_imp g a bs) (λ w. try w.0 w.1) (e [] (End.at_imp g a bs)) refl
  path-chosen {B} o (Clause.all_d q d) bs try t e =
      candidate-chosen o q (λ i. first_path cs o d (Candidate i ∷ bs) (λ path x. try (Step.n i ∷ path) x)) (λ i. through cs o d (Candidate i ∷ bs) t)
      (λ i. path-is cs o d (Candidate i ∷ bs) (λ path x. try (Step.n i ∷ path) x) t (λ path x. e (Step.n i ∷ path) x))
      ∙ bind-same (candidate_from cs o q (λ i. through cs o d (Candidate i ∷ bs) t) 0)
      (λ i. first_path cs o d (Candidate i ∷ bs) (λ path x. try (Step.n i ∷ path) x))
      (λ i. stepping (Step.n i) (way cs o d (Candidate i ∷ bs) t) >>= λ w. try w.0 w.1)
      (λ i. path-chosen o d (Candidate i ∷ bs) (λ path x. try (Step.n i ∷ path) x) t (λ path x. e (Step.n i ∷ path) x) ∙ sym (bind-bind (way cs o d (Candidate i ∷ bs) t) (λ x. some (Step.n i ∷ x.0, x.1)) (λ w. try w.0 w.1)))
      ∙ sym (bind-bind (candidate_from cs o q (λ i. through cs o d (Candidate i ∷ bs) t) 0) (λ i. stepping (Step.n i) (way cs o d (Candidate i ∷ bs) t)) (λ w. try w.0 w.1))
  path-chosen {B} o (Clause.and_d c d) bs try t e =
      go (first_path cs o c bs (λ path x. try (Step.l ∷ path) x)) (through cs o c bs t) refl (path-is cs o c bs (λ path x. try (Step.l ∷ path) x) t (λ path x. e (Step.l ∷ path) x))
      (path-chosen o c bs (λ path x. try (Step.l ∷ path) x) t (λ path x. e (Step.l ∷ path) x) ∙ sym (bind-bind (way cs o c bs t) (λ x. some (Step.l ∷ x.0, x.1)) (λ w. try w.0 w.1)))
      (path-chosen o d bs (λ path x. try (Step.r ∷ path) x) t (λ path x. e (Step.r ∷ path) x) ∙ sym (bind-bind (way cs o d bs t) (λ x. some (Step.r ∷ x.0, x.1)) (λ w. try w.0 w.1)))
    where
      go : (y : Option B) (b : Bool) → first_path cs o c bs (λ path x. try (Step.l ∷ path) x) ≡ y → is_some y ≡ b → first_path cs o c bs (λ path x. try (Step.l ∷ path) x) ≡ (stepping Step.l (way cs o c bs t) >>= λ w. try w.0 w.1) → first_path cs o d bs (λ path x. try (Step.r ∷ path) x) ≡ (stepping Step.r (way cs o d bs t) >>= λ w. try w.0 w.1) → elim y as (λ x. Option B) [ none ↦ first_path cs o d bs (λ path x. try (Step.r ∷ path) x) | some b ↦ some b ] ≡ (choose b (stepping Step.l (way cs o c bs t)) (stepping Step.r (way cs o d bs t)) >>= λ w. try w.0 w.1)
      go none true n s l r = absurd (false≢true s)
      go none false n s l r = r
      go (some x) true n s l r = sym n ∙ l
      go (some x) false n s l r = absurd (false≢true (sym s))

  -- where the end of a path answers yes, its atom is the goal's
  end-chosen : (a : Atom) (prove : Goal Q → Bindings → Option Strip) (p : Goal Q → Bindings → Bool) (k : ℕ) (path : List Step) (x : End Q) → ending cs a p x ≡ true → at_end cs a prove k path x ≡ used_at prove k path x
  unfolding ending
  end-chosen a prove p k path (End.at_atom b bs) e = ap (λ (t : Bool). elim t as (λ x. Option Strip) [ true ↦ some (Strip.use₀ k path) | false ↦ none ]) e
  end-chosen a prove p k path (End.at_imp g b bs) e =
      ap (λ (t : Bool). elim t as (λ x. Option Strip) [ true ↦ (prove g bs >>= λ P. some (Strip.use₁ k path P)) | false ↦ none ]) (both_true (same_atom (replaced_atom cs.terms bs b) a) (p g bs) e).0

  -- the end of the way that is chosen answers yes
  at-its-end : (t : End Q → Bool) (w : List Step × End Q) (path : List Step) (x : End Q) → t w.1 ≡ true → some w ≡ some (path, x) → t x ≡ true
  at-its-end t w path x e f = sym (ap (λ (p : List Step × End Q). t p.1) (some-injective w (path, x) f)) ∙ e

  stepped-end : (t : End Q → Bool) (s : Step) (w : Option (List Step × End Q)) → ((path : List Step) (x : End Q) → w ≡ some (path, x) → t x ≡ true) → (path : List Step) (x : End Q) → stepping s w ≡ some (path, x) → t x ≡ true
  stepped-end t s none ih path x e = nope e
  stepped-end t s (some w) ih path x e = at-its-end t (s ∷ w.0, w.1) path x (ih w.0 w.1 refl) e

  pub way-ends : (o : List Q) (d : Clause Q) (bs : Bindings) (t : End Q → Bool) (path : List Step) (x : End Q) → way cs o d bs t ≡ some (path, x) → t x ≡ true
  unfolding way
  way-ends o (Clause.atom_d a) bs t path x e =
      let (u, v) = provided-some (t (End.at_atom a bs)) (some ([], End.at_atom a bs)) (path, x) e in at-its-end t ([], End.at_atom a bs) path x u v
  way-ends o (Clause.imp_d g a) bs t path x e =
      let (u, v) = provided-some (t (End.at_imp g a bs)) (some ([], End.at_imp g a bs)) (path, x) e in at-its-end t ([], End.at_imp g a bs) path x u v
  way-ends o (Clause.all_d q d) bs t path x e =
      let (i, u, v) = bind-some (candidate_from cs o q (λ i. through cs o d (Candidate i ∷ bs) t) 0) (λ i. stepping (Step.n i) (way cs o d (Candidate i ∷ bs) t)) (path, x) e in
      stepped-end t (Step.n i) (way cs o d (Candidate i ∷ bs) t) (λ path x e. way-ends o d (Candidate i ∷ bs) t path x e) path x v
  way-ends o (Clause.and_d c d) bs t path x e =
      go (through cs o c bs t) (λ path x e. way-ends o c bs t path x e) (λ path x e. way-ends o d bs t path x e) e
    where
      go : (b : Bool) → ((path : List Step) (x : End Q) → way cs o c bs t ≡ some (path, x) → t x ≡ true) → ((path : List Step) (x : End Q) → way cs o d bs t ≡ some (path, x) → t x ≡ true) → choose b (stepping Step.l (way cs o c bs t)) (stepping Step.r (way cs o d bs t)) ≡ some (path, x) → t x ≡ true
      go true l r e = stepped-end t Step.l (way cs o c bs t) l path x e
      go false l r e = stepped-end t Step.r (way cs o d bs t) r path x e

  -- there is a way where some path answers yes
  pub way-is : (o : List Q) (d : Clause Q) (bs : Bindings) (t : End Q → Bool) → through cs o d bs t ≡ true → (path : List Step) × (x : End Q) × (way cs o d bs t ≡ some (path, x))
  way-is o d bs t e = go (way cs o d bs t) refl
    where
      try : List Step → End Q → Option (Unit {0})
      try path x = provided (t x) (some tt)

      is : (b : Bool) → is_some {A = Unit {0}} (provided b (some tt)) ≡ b
      is true = refl
      is false = refl

      go : (w : Option (List Step × End Q)) → way cs o d bs t ≡ w → (path : List Step) × (x : End Q) × (way cs o d bs t ≡ some (path, x))
      go none n =
          absurd (false≢true (sym (ap (λ (w : Option (List Step × End Q)). is_some (w >>= λ x. try x.0 x.1)) n) ∙ ap is_some (sym (path-chosen o d bs try t (λ path x. is (t x)))) ∙ path-is cs o d bs try t (λ path x. is (t x)) ∙ e))
      go (some w) n = (w.0, w.1, n)

  -- an atom: the first clause that serves, the first path into it, and the first proof of the body
  pub first-atom : (h : ℕ) (o : List Q) (c : Hand Q) (bs : Bindings) (a : Atom) → first cs (suc h) o c bs (Goal.atom a) ≡ (clause_from cs o c (serves cs h o c bs a) 0 >>= λ k. get_elem? c k >>= λ d. way cs o d.clause d.bindings (serves cs h o c bs a) >>= λ w. used_at (λ g ds. first cs h o c ds g) k w.0 w.1)
  unfolding clause_from
  first-atom h o c bs a =
      from-chosen (λ k. get_elem? c k >>= λ d. first_path cs o d.clause d.bindings (tried cs h o c bs a k)) (λ k. get_elem? c k >>= λ d. way cs o d.clause d.bindings (serves cs h o c bs a) >>= λ w. used_at (λ g ds. first cs h o c ds g) k w.0 w.1) (clause_does cs o c (serves cs h o c bs a))
      (λ k. clause-is cs o c (tried cs h o c bs a) (serves cs h o c bs a) (λ k path x. ends k path x) k)
      (λ k y. bind-same (get_elem? c k) (λ d. first_path cs o d.clause d.bindings (tried cs h o c bs a k)) (λ d. way cs o d.clause d.bindings (serves cs h o c bs a) >>= λ w. used_at (λ g ds. first cs h o c ds g) k w.0 w.1) (λ d. taken k d))
      0 (length c)
      ∙ ap (λ (m : Option ℕ). m >>= λ k. get_elem? c k >>= λ d. way cs o d.clause d.bindings (serves cs h o c bs a) >>= λ w. used_at (λ g ds. first cs h o c ds g) k w.0 w.1) (all-numbers (clause_does cs o c (serves cs h o c bs a)) (length c))
    where
      ends : (k : ℕ) (path : List Step) (x : End Q) → is_some (tried cs h o c bs a k path x) ≡ serves cs h o c bs a x
      ends k path x = end_is cs (replaced_atom cs.terms bs a) (λ g ds. first cs h o c ds g) (λ g ds. provable cs h o c ds g) (λ g ds. provable-is cs h o c ds g) k path x

      taken : (k : ℕ) (d : AtHand Q) → first_path cs o d.clause d.bindings (tried cs h o c bs a k) ≡ (way cs o d.clause d.bindings (serves cs h o c bs a) >>= λ w. used_at (λ g ds. first cs h o c ds g) k w.0 w.1)
      taken k d =
          path-chosen o d.clause d.bindings (tried cs h o c bs a k) (serves cs h o c bs a) (ends k)
          ∙ bind-known (way cs o d.clause d.bindings (serves cs h o c bs a)) (λ w. tried cs h o c bs a k w.0 w.1) (λ w. used_at (λ g ds. first cs h o c ds g) k w.0 w.1)
          (λ w e. end-chosen (replaced_atom cs.terms bs a) (λ g ds. first cs h o c ds g) (λ g ds. provable cs h o c ds g) k w.0 w.1 (way-ends o d.clause d.bindings (serves cs h o c bs a) w.0 w.1 e))

  -- the left part where it has a proof, else the right
  pub first-or : (h : ℕ) (o : List Q) (c : Hand Q) (bs : Bindings) (g g' : Goal Q) → first cs (suc h) o c bs (Goal.or g g') ≡ choose (provable cs h o c bs g) (first cs h o c bs g >>= λ P. some (Strip.left P)) (first cs h o c bs g' >>= λ R. some (Strip.right R))
  first-or h o c bs g g' = go (first cs h o c bs g) (provable cs h o c bs g) (provable-is cs h o c bs g)
    where
      go : (x : Option Strip) (b : Bool) → is_some x ≡ b → elim x as (λ x. Option Strip) [ none ↦ (first cs h o c bs g' >>= λ R. some (Strip.right R)) | some P ↦ some (Strip.left P) ] ≡ choose b (x >>= λ P. some (Strip.left P)) (first cs h o c bs g' >>= λ R. some (Strip.right R))
      go none true e = absurd (false≢true e)
      go none false e = refl
      go (some P) true e = refl
      go (some P) false e = absurd (false≢true (sym e))

  -- the first candidate with which the part has a proof
  pub first_some : (h : ℕ) (o : List Q) (c : Hand Q) (bs : Bindings) (q : Q) (g : Goal Q) → first cs (suc h) o c bs (Goal.some q g) ≡ (candidate_from cs o q (λ i. provable cs h o c (Candidate i ∷ bs) g) 0 >>= λ i. first cs h o c (Candidate i ∷ bs) g >>= λ P. some (Strip.some i P))
  first_some h o c bs q g =
      candidate-chosen o q (λ i. first cs h o c (Candidate i ∷ bs) g >>= λ P. some (Strip.some i P)) (λ i. provable cs h o c (Candidate i ∷ bs) g)
      (λ i. dressed-is (λ (P : Strip). Strip.some i P) (first cs h o c (Candidate i ∷ bs) g) ∙ provable-is cs h o c (Candidate i ∷ bs) g)
