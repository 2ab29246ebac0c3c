-- When a strip is a proof at a place: a family with one constructor for each kind of node (document 01, "When a strip fits").
-- Whether one node fits, its parts aside, is said in Fits; the two are shown to agree in proofs/Judgement.
-- Request Nine touches by-imp, the one line that puts a clause at hand. Request Twelve touches no line here: a sort is a Q, and what it asks of a candidate is `suits`.
use Rattle.std.specs.Prelude.{ℕ, suc, ◌≤◌, ◌≡◌, true, List, [], ◌∷◌, ◌++◌, length}
use Rattle.std.proofs.Math.Option.{some}
use Rattle.std.proofs.Math.ListN.{get_elem?}
use Rattle.harrop.specs.declared.Binding.TheVariants.{Candidate, Parameter}
use Rattle.harrop.specs.Formula.{Term, Atom, Goal, Clause, Step, Strip}
use Rattle.harrop.specs.Bindings.{Bindings, highest, replaced_atom}
use Rattle.harrop.specs.Place.{Candidates, AtHand, Hand, Place, End}

module _ {Q : Type 0} (cs : Candidates Q) where
  -- candidate i may be used where these parameters are open, for a variable whose quantifier carries q
  pub record May (o : List Q) (q : Q) (i : ℕ) : Type 0 where
    pub term : Term
    pub is_listed : get_elem? cs.terms i ≡ some term
    pub is_open : highest term ≤ length o
    pub does_suit : cs.suits o q term ≡ true

  -- Reaches o d bs path x: the path takes the clause apart from outside and ends exactly at x
  pub data Reaches (o : List Q) : Clause Q → Bindings → List Step → End Q → Type 0 where
    at-atom : {a : Atom} {bs : Bindings} → Reaches o (Clause.atom_d a) bs [] (End.at_atom a bs)
    at-imp : {g : Goal Q} {a : Atom} {bs : Bindings} → Reaches o (Clause.imp_d g a) bs [] (End.at_imp g a bs)
    by_number : {q : Q} {d : Clause Q} {bs : Bindings} {i : ℕ} {path : List Step} {x : End Q} → May o q i → Reaches o d (Candidate i ∷ bs) path x → Reaches o (Clause.all_d q d) bs (Step.n i ∷ path) x
    by-l : {c d : Clause Q} {bs : Bindings} {path : List Step} {x : End Q} → Reaches o c bs path x → Reaches o (Clause.and_d c d) bs (Step.l ∷ path) x
    by-r : {c d : Clause Q} {bs : Bindings} {path : List Step} {x : End Q} → Reaches o d bs path x → Reaches o (Clause.and_d c d) bs (Step.r ∷ path) x

  -- Proves o hand bs g P: where the parameters o are open and these clauses are at hand, P proves the goal g with its bindings
  pub data Proves : List Q → Hand Q → Bindings → Goal Q → Strip → Type 0 where
    by-top : {o : List Q} {c : Hand Q} {bs : Bindings} → Proves o c bs Goal.top Strip.top
    by_and : {o : List Q} {c : Hand Q} {bs : Bindings} {g h : Goal Q} {P R : Strip} → Proves o c bs g P → Proves o c bs h R → Proves o c bs (Goal.and g h) (Strip.and P R)
    by_left : {o : List Q} {c : Hand Q} {bs : Bindings} {g h : Goal Q} {P : Strip} → Proves o c bs g P → Proves o c bs (Goal.or g h) (Strip.left P)
    by_right : {o : List Q} {c : Hand Q} {bs : Bindings} {g h : Goal Q} {P : Strip} → Proves o c bs h P → Proves o c bs (Goal.or g h) (Strip.right P)
    by-some : {o : List Q} {c : Hand Q} {bs : Bindings} {q : Q} {g : Goal Q} {i : ℕ} {P : Strip} → May o q i → Proves o c (Candidate i ∷ bs) g P → Proves o c bs (Goal.some q g) (Strip.some i P)
    by_all : {o : List Q} {c : Hand Q} {bs : Bindings} {q : Q} {g : Goal Q} {P : Strip} → Proves (q ∷ o) c (Parameter (suc (length o)) ∷ bs) g P → Proves o c bs (Goal.all q g) (Strip.all P)
    by-imp : {o : List Q} {c : Hand Q} {bs : Bindings} {d : Clause Q} {g : Goal Q} {P : Strip} → Proves o (c ++ (record { clause = d; bindings = bs } ∷ [])) bs g P → Proves o c bs (Goal.imp d g) (Strip.imp P)
    by-use₀ : {o : List Q} {c : Hand Q} {bs bs₁ : Bindings} {a b : Atom} {h : AtHand Q} {k : ℕ} {path : List Step} → get_elem? c k ≡ some h → Reaches o h.clause h.bindings path (End.at_atom b bs₁) → replaced_atom cs.terms bs₁ b ≡ replaced_atom cs.terms bs a → Proves o c bs (Goal.atom a) (Strip.use₀ k path)
    by-use₁ : {o : List Q} {c : Hand Q} {bs bs₁ : Bindings} {a b : Atom} {h : AtHand Q} {g : Goal Q} {k : ℕ} {path : List Step} {P : Strip} → get_elem? c k ≡ some h → Reaches o h.clause h.bindings path (End.at_imp g b bs₁) → replaced_atom cs.terms bs₁ b ≡ replaced_atom cs.terms bs a → Proves o c bs₁ g P → Proves o c bs (Goal.atom a) (Strip.use₁ k path P)

  -- the same of a place
  abbrev pub ProvesAt : Place Q → Strip → Type 0
  ProvesAt pl P = Proves pl.opened pl.hand pl.bindings pl.goal P
