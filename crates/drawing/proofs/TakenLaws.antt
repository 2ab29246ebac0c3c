-- What the first strip at a place is, given which option is chosen, in the numbers that a walk has: a height above 0 and one less, clause k and clause k + 1, candidate i and candidate i + 1. A walk that has asked yes or no goes on in the chosen part alone.
use Prim.Native.Nat.{ℕ, zero, suc, ◌+◌, ◌-◌, ◌≤◌, ◌<◌}
use mathlib.Core.Path.{◌≡◌, refl, sym, ◌∙◌, ap, ap₂}
use mathlib.Core.Bool.{Bool, true, false, ◌&&◌}
use mathlib.Core.List.{List, [], ◌∷◌, ◌++◌}
use mathlib.Core.Option.{Option, none, some, some-injective}
use native.Mathlib.Omega.{arith}
use native.Mathlib.Numerals.{sub-one}
use lib.ListN.{length, get_elem?}
use Rattle.basics.specs.Choice.{choose, ◌>>=◌, maybe, nope, bind-some, provided-some}
use Rattle.harrop.specs.declared.Binding.TheVariants.{Candidate, Parameter}
use Rattle.harrop.specs.Formula.{Atom, Goal, Clause, Step, Strip}
use Rattle.harrop.specs.Bindings.{Bindings}
use Rattle.harrop.specs.Place.{Candidates, AtHand, Hand, End, allowed}
use Rattle.harrop.specs.Search.{first}
use Rattle.harrop.proofs.ListLaws.{member_below}
use Rattle.harrop.proofs.SearchLaws.{dressed-some}
use Rattle.proving.specs.Provable.{candidate_does, through, clause_does, provable, serves}
use Rattle.drawing.specs.Chosen.{first_yes, stepping, used_at, candidate_from, clause_from, way}
use Rattle.drawing.proofs.ChosenLaws.{first-atom, first-or, first_some}

-- the numbers from i on
pub yes-here : (f : ℕ → Bool) (i n : ℕ) → i < n → first_yes f i (n - i) ≡ choose (f i) (some i) (first_yes f (i + 1) (n - (i + 1)))
unfolding first_yes
yes-here f i n l =
    ap (first_yes f i) {x = n - i} {y = suc (n - (i + 1))} (omega arith)
    ∙ ap (λ (j : ℕ). choose (f i) (some i) (first_yes f j (n - (i + 1)))) {x = suc i} {y = i + 1} (omega arith)

pub yes-none : (f : ℕ → Bool) (i n : ℕ) → n ≤ i → first_yes f i (n - i) ≡ none
unfolding first_yes
yes-none f i n l = ap (first_yes f i) {x = n - i} {y = 0} (omega arith)

module _ {Q : Type 0} (cs : Candidates Q) (o : List Q) where
  -- candidates by number
  module _ (q : Q) (try : ℕ → Bool) (i : ℕ) where
    pub candidate-end : length cs.terms ≤ i → candidate_from cs o q try i ≡ none
    unfolding candidate_from
    candidate-end l = yes-none (candidate_does cs o q try) i (length cs.terms) l

    pub candidate-here : i < length cs.terms → candidate_from cs o q try i ≡ choose (allowed cs o q i && try i) (some i) (candidate_from cs o q try (i + 1))
    unfolding candidate_from candidate_does
    candidate-here l = yes-here (candidate_does cs o q try) i (length cs.terms) l

    pub candidate-yes : i < length cs.terms → allowed cs o q i ≡ true → try i ≡ true → candidate_from cs o q try i ≡ some i
    candidate-yes l a t = candidate-here l ∙ ap₂ (λ x y. choose (x && y) (some i) (candidate_from cs o q try (i + 1))) a t

    pub candidate-barred : i < length cs.terms → allowed cs o q i ≡ false → candidate_from cs o q try i ≡ candidate_from cs o q try (i + 1)
    candidate-barred l a = candidate-here l ∙ ap (λ (x : Bool). choose (x && try i) (some i) (candidate_from cs o q try (i + 1))) a

    pub candidate-next : i < length cs.terms → allowed cs o q i ≡ true → try i ≡ false → candidate_from cs o q try i ≡ candidate_from cs o q try (i + 1)
    candidate-next l a t = candidate-here l ∙ ap₂ (λ x y. choose (x && y) (some i) (candidate_from cs o q try (i + 1))) a t

  -- clauses by number
  module _ (c : Hand Q) (try : End Q → Bool) (k : ℕ) where
    pub clause-end : length c ≤ k → clause_from cs o c try k ≡ none
    unfolding clause_from
    clause-end l = yes-none (clause_does cs o c try) k (length c) l

    pub clause-here : (d : AtHand Q) → get_elem? c k ≡ some d → clause_from cs o c try k ≡ choose (through cs o d.clause d.bindings try) (some k) (clause_from cs o c try (k + 1))
    unfolding clause_from clause_does
    clause-here d e =
        yes-here (clause_does cs o c try) k (length c) (member_below c k d e)
        ∙ ap (λ (m : Option (AtHand Q)). choose (maybe m false λ x. through cs o x.clause x.bindings try) (some k) (first_yes (clause_does cs o c try) (k + 1) (length c - (k + 1)))) e

    pub clause-yes : (d : AtHand Q) → get_elem? c k ≡ some d → through cs o d.clause d.bindings try ≡ true → clause_from cs o c try k ≡ some k
    clause-yes d e t = clause-here d e ∙ ap (λ (x : Bool). choose x (some k) (clause_from cs o c try (k + 1))) t

    pub clause-next : (d : AtHand Q) → get_elem? c k ≡ some d → through cs o d.clause d.bindings try ≡ false → clause_from cs o c try k ≡ clause_from cs o c try (k + 1)
    clause-next d e t = clause-here d e ∙ ap (λ (x : Bool). choose x (some k) (clause_from cs o c try (k + 1))) t

  -- the way into a clause, step by step
  module _ (bs : Bindings) (try : End Q → Bool) (path : List Step) (x : End Q) where
    same_way : (w : List Step × End Q) → some w ≡ some (path, x) → (path ≡ w.0) × (x ≡ w.1)
    same_way w e =
        let f = some-injective w (path, x) e in
        (sym (ap (λ (p : List Step × End Q). p.0) f), sym (ap (λ (p : List Step × End Q). p.1) f))

    same_step : (s : Step) (w : Option (List Step × End Q)) → stepping s w ≡ some (path, x) → (rest : List Step) × (path ≡ s ∷ rest) × (w ≡ some (rest, x))
    same_step s none e = nope e
    same_step s (some w) e =
        let (p, q) = same_way (s ∷ w.0, w.1) e in
        (w.0, p, ap (λ (y : End Q). some (w.0, y)) (sym q))

    pub way-atom : (a : Atom) → way cs o (Clause.atom_d a) bs try ≡ some (path, x) → (path ≡ []) × (x ≡ End.at_atom a bs)
    unfolding way
    way-atom a e = same_way ([], End.at_atom a bs) (provided-some (try (End.at_atom a bs)) (some ([], End.at_atom a bs)) (path, x) e).1

    pub way-imp : (g : Goal Q) (a : Atom) → way cs o (Clause.imp_d g a) bs try ≡ some (path, x) → (path ≡ []) × (x ≡ End.at_imp g a bs)
    unfolding way
    way-imp g a e = same_way ([], End.at_imp g a bs) (provided-some (try (End.at_imp g a bs)) (some ([], End.at_imp g a bs)) (path, x) e).1

    pub way-number : (q : Q) (d : Clause Q) (i : ℕ) → candidate_from cs o q (λ i. through cs o d (Candidate i ∷ bs) try) 0 ≡ some i → way cs o (Clause.all_d q d) bs try ≡ some (path, x) → (rest : List Step) × (path ≡ Step.n i ∷ rest) × (way cs o d (Candidate i ∷ bs) try ≡ some (rest, x))
    unfolding way
    way-number q d i f e =
        same_step (Step.n i) (way cs o d (Candidate i ∷ bs) try)
        (sym (ap (λ (m : Option ℕ). m >>= λ i. stepping (Step.n i) (way cs o d (Candidate i ∷ bs) try)) f) ∙ e)

    pub way-l : (c d : Clause Q) → through cs o c bs try ≡ true → way cs o (Clause.and_d c d) bs try ≡ some (path, x) → (rest : List Step) × (path ≡ Step.l ∷ rest) × (way cs o c bs try ≡ some (rest, x))
    unfolding way
    way-l c d f e =
        same_step Step.l (way cs o c bs try)
        (sym (ap (λ (b : Bool). choose b (stepping Step.l (way cs o c bs try)) (stepping Step.r (way cs o d bs try))) f) ∙ e)

    pub way-r : (c d : Clause Q) → through cs o c bs try ≡ false → way cs o (Clause.and_d c d) bs try ≡ some (path, x) → (rest : List Step) × (path ≡ Step.r ∷ rest) × (way cs o d bs try ≡ some (rest, x))
    unfolding way
    way-r c d f e =
        same_step Step.r (way cs o d bs try)
        (sym (ap (λ (b : Bool). choose b (stepping Step.l (way cs o c bs try)) (stepping Step.r (way cs o d bs try))) f) ∙ e)

-- the strip at the end of a use
module _ {Q : Type 0} (prove : Goal Q → Bindings → Option Strip) (k : ℕ) (path : List Step) (P : Strip) where
  pub used-atom : (b : Atom) (bs : Bindings) → used_at prove k path (End.at_atom b bs) ≡ some P → P ≡ Strip.use₀ k path
  used-atom b bs e = sym (some-injective (Strip.use₀ k path) P e)

  pub used-imp : (g : Goal Q) (b : Atom) (bs : Bindings) → used_at prove k path (End.at_imp g b bs) ≡ some P → (X : Strip) × (prove g bs ≡ some X) × (P ≡ Strip.use₁ k path X)
  used-imp g b bs e = let (X, f, q) = dressed-some (λ (X : Strip). Strip.use₁ k path X) (prove g bs) P e in (X, f, sym q)

-- the strip at a place
module _ {Q : Type 0} (cs : Candidates Q) (o : List Q) (c : Hand Q) (bs : Bindings) (P : Strip) where
  pub took-top : (h : ℕ) → (h ≡ 0 → ⊥) → first cs h o c bs Goal.top ≡ some P → P ≡ Strip.top
  took-top zero n e = absurd (n refl)
  took-top (suc h) n e = sym (some-injective Strip.top P e)

  pub took-and : (h : ℕ) (g g' : Goal Q) → (h ≡ 0 → ⊥) → first cs h o c bs (Goal.and g g') ≡ some P → (X : Strip) × (Y : Strip) × (first cs (h - 1) o c bs g ≡ some X) × (first cs (h - 1) o c bs g' ≡ some Y) × (P ≡ Strip.and X Y)
  took-and zero g g' n e = absurd (n refl)
  took-and (suc h) g g' n e =
      let (X, r, s) = bind-some (first cs h o c bs g) (λ (X : Strip). first cs h o c bs g' >>= λ Y. some (Strip.and X Y)) P e in
      let (Y, t, u) = dressed-some (λ (Y : Strip). Strip.and X Y) (first cs h o c bs g') P s in
      (X, Y, rw sub-one r, rw sub-one t, sym u)

  pub took-left : (h : ℕ) (g g' : Goal Q) → (h ≡ 0 → ⊥) → provable cs (h - 1) o c bs g ≡ true → first cs h o c bs (Goal.or g g') ≡ some P → (X : Strip) × (first cs (h - 1) o c bs g ≡ some X) × (P ≡ Strip.left X)
  took-left zero g g' n f e = absurd (n refl)
  took-left (suc h) g g' n f e =
      let (X, r, u) = dressed-some Strip.left (first cs h o c bs g) P (sym (ap (λ (b : Bool). choose b (first cs h o c bs g >>= λ P. some (Strip.left P)) (first cs h o c bs g' >>= λ R. some (Strip.right R))) (rw sub-one at f)) ∙ sym (first-or cs h o c bs g g') ∙ e) in
      (X, rw sub-one r, sym u)

  pub took-right : (h : ℕ) (g g' : Goal Q) → (h ≡ 0 → ⊥) → provable cs (h - 1) o c bs g ≡ false → first cs h o c bs (Goal.or g g') ≡ some P → (X : Strip) × (first cs (h - 1) o c bs g' ≡ some X) × (P ≡ Strip.right X)
  took-right zero g g' n f e = absurd (n refl)
  took-right (suc h) g g' n f e =
      let (X, r, u) = dressed-some Strip.right (first cs h o c bs g') P (sym (ap (λ (b : Bool). choose b (first cs h o c bs g >>= λ P. some (Strip.left P)) (first cs h o c bs g' >>= λ R. some (Strip.right R))) (rw sub-one at f)) ∙ sym (first-or cs h o c bs g g') ∙ e) in
      (X, rw sub-one r, sym u)

  pub took-some : (h : ℕ) (q : Q) (g : Goal Q) (i : ℕ) → (h ≡ 0 → ⊥) → candidate_from cs o q (λ i. provable cs (h - 1) o c (Candidate i ∷ bs) g) 0 ≡ some i → first cs h o c bs (Goal.some q g) ≡ some P → (X : Strip) × (first cs (h - 1) o c (Candidate i ∷ bs) g ≡ some X) × (P ≡ Strip.some i X)
  took-some zero q g i n f e = absurd (n refl)
  took-some (suc h) q g i n f e =
      let (X, r, u) = dressed-some (λ (X : Strip). Strip.some i X) (first cs h o c (Candidate i ∷ bs) g) P (sym (ap (λ (m : Option ℕ). m >>= λ i. first cs h o c (Candidate i ∷ bs) g >>= λ P. some (Strip.some i P)) (rw sub-one at f)) ∙ sym (first_some cs h o c bs q g) ∙ e) in
      (X, rw sub-one r, sym u)

  pub took-all : (h : ℕ) (q : Q) (g : Goal Q) → (h ≡ 0 → ⊥) → first cs h o c bs (Goal.all q g) ≡ some P → (X : Strip) × (first cs (h - 1) (q ∷ o) c (Parameter (suc (length o)) ∷ bs) g ≡ some X) × (P ≡ Strip.all X)
  took-all zero q g n e = absurd (n refl)
  took-all (suc h) q g n e =
      let (X, r, u) = dressed-some Strip.all (first cs h (q ∷ o) c (Parameter (suc (length o)) ∷ bs) g) P e in
      (X, rw sub-one r, sym u)

  pub took-imp : (h : ℕ) (d : Clause Q) (g : Goal Q) → (h ≡ 0 → ⊥) → first cs h o c bs (Goal.imp d g) ≡ some P → (X : Strip) × (first cs (h - 1) o (c ++ (record { clause = d; bindings = bs } ∷ [])) bs g ≡ some X) × (P ≡ Strip.imp X)
  took-imp zero d g n e = absurd (n refl)
  took-imp (suc h) d g n e =
      let (X, r, u) = dressed-some Strip.imp (first cs h o (c ++ (record { clause = d; bindings = bs } ∷ [])) bs g) P e in
      (X, rw sub-one r, sym u)

  pub took-use : (h : ℕ) (a : Atom) (k : ℕ) (d : AtHand Q) → (h ≡ 0 → ⊥) → clause_from cs o c (serves cs (h - 1) o c bs a) 0 ≡ some k → get_elem? c k ≡ some d → first cs h o c bs (Goal.atom a) ≡ some P → (path : List Step) × (x : End Q) × (way cs o d.clause d.bindings (serves cs (h - 1) o c bs a) ≡ some (path, x)) × (used_at (λ g ds. first cs (h - 1) o c ds g) k path x ≡ some P)
  took-use zero a k d n f m e = absurd (n refl)
  took-use (suc h) a k d n f m e = rw sub-one (go (way cs o d.clause d.bindings (serves cs h o c bs a)) refl taken)
    where
      taken : (way cs o d.clause d.bindings (serves cs h o c bs a) >>= λ w. used_at (λ g ds. first cs h o c ds g) k w.0 w.1) ≡ some P
      taken =
          sym (ap (λ (m : Option (AtHand Q)). m >>= λ d. way cs o d.clause d.bindings (serves cs h o c bs a) >>= λ w. used_at (λ g ds. first cs h o c ds g) k w.0 w.1) m)
          ∙ sym (ap (λ (m : Option ℕ). m >>= λ k. get_elem? c k >>= λ d. way cs o d.clause d.bindings (serves cs h o c bs a) >>= λ w. used_at (λ g ds. first cs h o c ds g) k w.0 w.1) (rw sub-one at f))
          ∙ sym (first-atom cs h o c bs a)
          ∙ e

      go : (w : Option (List Step × End Q)) → way cs o d.clause d.bindings (serves cs h o c bs a) ≡ w → (w >>= λ w. used_at (λ g ds. first cs h o c ds g) k w.0 w.1) ≡ some P → (path : List Step) × (x : End Q) × (way cs o d.clause d.bindings (serves cs h o c bs a) ≡ some (path, x)) × (used_at (λ g ds. first cs h o c ds g) k path x ≡ some P)
      go none y u = nope u
      go (some w) y u = (w.0, w.1, y, u)
