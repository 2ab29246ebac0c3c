-- The walk of the yes or no, one step at a time, in the numbers that a loop has: a height above 0 and one less, clause k and clause k + 1, candidate i and candidate i + 1.
use Prim.Native.Nat.{ℕ, zero, suc, ◌+◌, ◌-◌, ◌≤◌, ◌<◌}
use mathlib.Core.Path.{◌≡◌, refl, ◌∙◌, ap, ap₂}
use mathlib.Core.Bool.{Bool, true, false, ◌&&◌, ◌||◌}
use mathlib.Core.List.{List, [], ◌∷◌, ◌++◌}
use mathlib.Core.Option.{Option, some}
use native.Mathlib.Omega.{arith}
use native.Mathlib.Numerals.{sub-one}
use lib.ListN.{length, get_elem?}
use Rattle.basics.specs.Choice.{maybe}
use Rattle.harrop.specs.declared.Binding.TheVariants.{Candidate, Parameter}
use Rattle.harrop.specs.Formula.{Atom, Goal, Clause}
use Rattle.harrop.specs.Bindings.{Bindings, replaced_atom, same_atom}
use Rattle.harrop.specs.Place.{Candidates, AtHand, Hand, End, allowed}
use Rattle.harrop.proofs.ListLaws.{member_below}
use Rattle.proving.specs.Provable.{any_from, candidate_does, candidates_from, through, ending, clause_does, clauses_from, provable, serves}

-- the numbers from i on, where there is one and where there is none
pub any_here : (f : ℕ → Bool) (i n : ℕ) → i < n → any_from f i (n - i) ≡ f i || any_from f (i + 1) (n - (i + 1))
unfolding any_from
any_here f i n l =
    ap (any_from f i) {x = n - i} {y = suc (n - (i + 1))} (omega arith) ∙ ap (λ (j : ℕ). f i || any_from f j (n - (i + 1))) {x = suc i} {y = i + 1} (omega arith)

pub any_none : (f : ℕ → Bool) (i n : ℕ) → n ≤ i → any_from f i (n - i) ≡ false
unfolding any_from
any_none f i n l = ap (any_from f i) {x = n - i} {y = 0} (omega arith)

-- where each says no
pub any-no : (f : ℕ → Bool) (i n : ℕ) → ((j : ℕ) → i ≤ j → j < i + n → f j ≡ false) → any_from f i n ≡ false
unfolding any_from
any-no f i zero h = refl
any-no f i (suc n) h = ap₂ ◌||◌ (h i (omega arith) (omega arith)) (any-no f (suc i) n (λ j a b. h j (omega arith) (omega arith)))

module _ {Q : Type 0} (cs : Candidates Q) (o : List Q) where
  -- candidates by number
  module _ (q : Q) (try : ℕ → Bool) (i : ℕ) where
    pub candidates-end : length cs.terms ≤ i → candidates_from cs o q try i ≡ false
    unfolding candidates_from
    candidates-end l = any_none (candidate_does cs o q try) i (length cs.terms) l

    pub candidates-here : i < length cs.terms → candidates_from cs o q try i ≡ (allowed cs o q i && try i) || candidates_from cs o q try (i + 1)
    unfolding candidates_from candidate_does
    candidates-here l = any_here (candidate_does cs o q try) i (length cs.terms) l

    pub candidates-yes : i < length cs.terms → allowed cs o q i ≡ true → try i ≡ true → candidates_from cs o q try i ≡ true
    candidates-yes l a t = candidates-here l ∙ ap₂ (λ x y. (x && y) || candidates_from cs o q try (i + 1)) a t

    pub candidates-barred : i < length cs.terms → allowed cs o q i ≡ false → candidates_from cs o q try i ≡ candidates_from cs o q try (i + 1)
    candidates-barred l a = candidates-here l ∙ ap (λ (x : Bool). (x && try i) || candidates_from cs o q try (i + 1)) a

    pub candidates-next : i < length cs.terms → allowed cs o q i ≡ true → try i ≡ false → candidates_from cs o q try i ≡ candidates_from cs o q try (i + 1)
    candidates-next l a t = candidates-here l ∙ ap₂ (λ x y. (x && y) || candidates_from cs o q try (i + 1)) a t

  -- clauses by number
  module _ (c : Hand Q) (try : End Q → Bool) (k : ℕ) where
    pub clauses-end : length c ≤ k → clauses_from cs o c try k ≡ false
    unfolding clauses_from
    clauses-end l = any_none (clause_does cs o c try) k (length c) l

    pub clauses-here : (d : AtHand Q) → get_elem? c k ≡ some d → clauses_from cs o c try k ≡ through cs o d.clause d.bindings try || clauses_from cs o c try (k + 1)
    unfolding clauses_from clause_does
    clauses-here d e =
        any_here (clause_does cs o c try) k (length c) (member_below c k d e)
        ∙ ap (λ (m : Option (AtHand Q)). (maybe m false λ x. through cs o x.clause x.bindings try) || any_from (clause_does cs o c try) (k + 1) (length c - (k + 1))) e

    pub clauses-yes : (d : AtHand Q) → get_elem? c k ≡ some d → through cs o d.clause d.bindings try ≡ true → clauses_from cs o c try k ≡ true
    clauses-yes d e t = clauses-here d e ∙ ap (λ (x : Bool). x || clauses_from cs o c try (k + 1)) t

    pub clauses-next : (d : AtHand Q) → get_elem? c k ≡ some d → through cs o d.clause d.bindings try ≡ false → clauses_from cs o c try k ≡ clauses_from cs o c try (k + 1)
    clauses-next d e t = clauses-here d e ∙ ap (λ (x : Bool). x || clauses_from cs o c try (k + 1)) t

  -- a clause taken apart from outside
  module _ (bs : Bindings) (try : End Q → Bool) where
    pub through-atom : (a : Atom) → through cs o (Clause.atom_d a) bs try ≡ try (End.at_atom a bs)
    unfolding through
    through-atom a = refl

    pub through-imp : (g : Goal Q) (a : Atom) → through cs o (Clause.imp_d g a) bs try ≡ try (End.at_imp g a bs)
    unfolding through
    through-imp g a = refl

    pub through-all : (q : Q) (d : Clause Q) → through cs o (Clause.all_d q d) bs try ≡ candidates_from cs o q (λ i. through cs o d (Candidate i ∷ bs) try) 0
    unfolding through
    through-all q d = refl

    pub through-and : (c d : Clause Q) → through cs o (Clause.and_d c d) bs try ≡ through cs o c bs try || through cs o d bs try
    unfolding through
    through-and c d = refl

-- the end of a path
module _ {Q : Type 0} (cs : Candidates Q) (a : Atom) (prove : Goal Q → Bindings → Bool) (b : Atom) (bs : Bindings) where
  pub ending-atom : ending cs a prove (End.at_atom b bs) ≡ same_atom (replaced_atom cs.terms bs b) a
  unfolding ending
  ending-atom = refl

  pub ending-imp : (g : Goal Q) → ending cs a prove (End.at_imp g b bs) ≡ same_atom (replaced_atom cs.terms bs b) a && prove g bs
  unfolding ending
  ending-imp g = refl

-- a goal with a height left, and with none
module _ {Q : Type 0} (cs : Candidates Q) (o : List Q) (c : Hand Q) (bs : Bindings) where
  pub provable-none : (h : ℕ) (g : Goal Q) → h ≡ 0 → provable cs h o c bs g ≡ false
  unfolding provable
  provable-none zero g e = refl
  provable-none (suc h) g e = absurd (omega arith)

  pub provable-top : (h : ℕ) → (h ≡ 0 → ⊥) → provable cs h o c bs Goal.top ≡ true
  unfolding provable
  provable-top zero n = absurd (n refl)
  provable-top (suc h) n = refl

  pub provable-atom : (h : ℕ) (a : Atom) → (h ≡ 0 → ⊥) → provable cs h o c bs (Goal.atom a) ≡ clauses_from cs o c (serves cs (h - 1) o c bs a) 0
  unfolding provable
  provable-atom zero a n = absurd (n refl)
  provable-atom (suc h) a n = rw sub-one refl

  pub provable-and : (h : ℕ) (g g' : Goal Q) → (h ≡ 0 → ⊥) → provable cs h o c bs (Goal.and g g') ≡ provable cs (h - 1) o c bs g && provable cs (h - 1) o c bs g'
  unfolding provable
  provable-and zero g g' n = absurd (n refl)
  provable-and (suc h) g g' n = rw sub-one refl

  pub provable-or : (h : ℕ) (g g' : Goal Q) → (h ≡ 0 → ⊥) → provable cs h o c bs (Goal.or g g') ≡ provable cs (h - 1) o c bs g || provable cs (h - 1) o c bs g'
  unfolding provable
  provable-or zero g g' n = absurd (n refl)
  provable-or (suc h) g g' n = rw sub-one refl

  pub provable-some : (h : ℕ) (q : Q) (g : Goal Q) → (h ≡ 0 → ⊥) → provable cs h o c bs (Goal.some q g) ≡ candidates_from cs o q (λ i. provable cs (h - 1) o c (Candidate i ∷ bs) g) 0
  unfolding provable
  provable-some zero q g n = absurd (n refl)
  provable-some (suc h) q g n = rw sub-one refl

  pub provable-all : (h : ℕ) (q : Q) (g : Goal Q) → (h ≡ 0 → ⊥) → provable cs h o c bs (Goal.all q g) ≡ provable cs (h - 1) (q ∷ o) c (Parameter (suc (length o)) ∷ bs) g
  unfolding provable
  provable-all zero q g n = absurd (n refl)
  provable-all (suc h) q g n = rw sub-one refl

  pub provable-imp : (h : ℕ) (d : Clause Q) (g : Goal Q) → (h ≡ 0 → ⊥) → provable cs h o c bs (Goal.imp d g) ≡ provable cs (h - 1) o (c ++ (record { clause = d; bindings = bs } ∷ [])) bs g
  unfolding provable
  provable-imp zero d g n = absurd (n refl)
  provable-imp (suc h) d g n = rw sub-one refl
