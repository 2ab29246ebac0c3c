-- When a node fits at its place, and the places of its parts, as document 01 lists them ("When a strip fits").
-- Whether a node fits is judged at its own place, without regard to whether its parts fit; a strip is a proof if every node fits. Proves says the same as one family, and the two are shown to agree.
-- Request Nine adds to the clause that `imp` puts at hand. Request Twelve says more of `some` and `all` through May and what their quantifiers carry.
use Rattle.std.specs.Prelude.{ℕ, suc, ◌≡◌, List, [], ◌∷◌, ◌++◌, length}
use Rattle.std.proofs.Math.Option.{some}
use Rattle.std.proofs.Math.ListN.{get_elem?}
use Rattle.harrop.specs.declared.Binding.TheVariants.{Candidate, Parameter}
use Rattle.harrop.specs.Formula.{Atom, Goal, Clause, Step, Strip}
use Rattle.harrop.specs.Bindings.{Bindings, replaced_atom}
use Rattle.harrop.specs.Place.{Candidates, AtHand, Hand, Place, End, place}
use Rattle.harrop.specs.Proves.{May, Reaches}
use Rattle.harrop.specs.Position.{Position, parts, part_at, Before}

module _ {Q : Type 0} (cs : Candidates Q) where
  -- Fits o hand bs g P places: the first node of P fits where the parameters o are open, these clauses are at hand and g is the goal; its parts stand at these places
  pub data Fits : List Q → Hand Q → Bindings → Goal Q → Strip → List (Place Q) → Type 0 where
    fits-top : {o : List Q} {c : Hand Q} {bs : Bindings} → Fits o c bs Goal.top Strip.top []
    fits_and : {o : List Q} {c : Hand Q} {bs : Bindings} {g h : Goal Q} {P R : Strip} → Fits o c bs (Goal.and g h) (Strip.and P R) (place o c bs g ∷ place o c bs h ∷ [])
    fits-left : {o : List Q} {c : Hand Q} {bs : Bindings} {g h : Goal Q} {P : Strip} → Fits o c bs (Goal.or g h) (Strip.left P) (place o c bs g ∷ [])
    fits-right : {o : List Q} {c : Hand Q} {bs : Bindings} {g h : Goal Q} {P : Strip} → Fits o c bs (Goal.or g h) (Strip.right P) (place o c bs h ∷ [])
    fits-some : {o : List Q} {c : Hand Q} {bs : Bindings} {q : Q} {g : Goal Q} {i : ℕ} {P : Strip} → May cs o q i → Fits o c bs (Goal.some q g) (Strip.some i P) (place o c (Candidate i ∷ bs) g ∷ [])
    fits_all : {o : List Q} {c : Hand Q} {bs : Bindings} {q : Q} {g : Goal Q} {P : Strip} → Fits o c bs (Goal.all q g) (Strip.all P) (place (q ∷ o) c (Parameter (suc (length o)) ∷ bs) g ∷ [])
    fits-imp : {o : List Q} {c : Hand Q} {bs : Bindings} {d : Clause Q} {g : Goal Q} {P : Strip} → Fits o c bs (Goal.imp d g) (Strip.imp P) (place o (c ++ (record { clause = d; bindings = bs } ∷ [])) bs g ∷ [])
    fits-use₀ : {o : List Q} {c : Hand Q} {bs bs₁ : Bindings} {a b : Atom} {h : AtHand Q} {k : ℕ} {path : List Step} → get_elem? c k ≡ some h → Reaches cs o h.clause h.bindings path (End.at_atom b bs₁) → replaced_atom cs.terms bs₁ b ≡ replaced_atom cs.terms bs a → Fits o c bs (Goal.atom a) (Strip.use₀ k path) []
    fits-use₁ : {o : List Q} {c : Hand Q} {bs bs₁ : Bindings} {a b : Atom} {h : AtHand Q} {g : Goal Q} {k : ℕ} {path : List Step} {P : Strip} → get_elem? c k ≡ some h → Reaches cs o h.clause h.bindings path (End.at_imp g b bs₁) → replaced_atom cs.terms bs₁ b ≡ replaced_atom cs.terms bs a → Fits o c bs (Goal.atom a) (Strip.use₁ k path P) (place o c bs₁ g ∷ [])

  -- the same of a place
  abbrev pub FitsAt : Place Q → Strip → List (Place Q) → Type 0
  FitsAt pl P places = Fits pl.opened pl.hand pl.bindings pl.goal P places

  -- a node fits at its place, wherever its parts then stand
  abbrev pub Fitting : Place Q → Strip → Type 0
  Fitting pl P = (places : List (Place Q)) × FitsAt pl P places

  -- Stands pl P at pl' R: with P at the place pl, the node at this position, R's first, has the place pl'; every node above it fits
  pub data Stands : Place Q → Strip → Position → Place Q → Strip → Type 0 where
    at-root : {pl : Place Q} {P : Strip} → Stands pl P [] pl P
    in-part : {pl pl₁ pl₂ : Place Q} {P R S : Strip} {places : List (Place Q)} {i : ℕ} {at : Position} → FitsAt pl P places → get_elem? places i ≡ some pl₁ → get_elem? (parts P) i ≡ some R → Stands pl₁ R at pl₂ S → Stands pl P (i ∷ at) pl₂ S

  -- the node at this position has a place, and fits there
  abbrev pub FitsThere : Place Q → Strip → Position → Strip → Type 0
  FitsThere pl P at R = (pl₁ : Place Q) × Stands pl P at pl₁ R × Fitting pl₁ R

  abbrev pub EveryNodeFits : Place Q → Strip → Type 0
  EveryNodeFits pl P = (at : Position) (R : Strip) → part_at P at ≡ some R → FitsThere pl P at R

  -- the first node in file order that does not fit: it has a place and does not fit there, and every node before it fits at its own
  pub record FirstMisfit (pl : Place Q) (P : Strip) (at : Position) : Type 0 where
    pub its-place : Place Q
    pub node : Strip
    pub stands : Stands pl P at its-place node
    pub misfits : Fitting its-place node → ⊥
    pub all-before : (at₁ : Position) (R : Strip) → Before at₁ at → part_at P at₁ ≡ some R → FitsThere pl P at₁ R
