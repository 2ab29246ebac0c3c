-- What is said of the arguments of a head and of an atom, and of candidates, on the way to whether the head may still become the atom and what is forced on a variable (document 02, Three: the head decides before candidates are tried).
use Rattle.std.specs.Prelude.{ℕ, ◌≤◌, ◌<◌, ◌≡◌, Bool, true, false, List, eqb, length, get_or}
use Rattle.std.proofs.Math.Option.{some}
use Rattle.std.proofs.Math.ListN.{get_elem?}
use Rattle.harrop.specs.Formula.{Term, Terms}
use Rattle.harrop.specs.Bindings.{Bindings, replaced, same_term}
use Rattle.std.specs.Prelude.{Option, Some, None}
use Rattle.sexp.specs.Sexp.{Stands, StandsAll, nestings}
use Rattle.packet.specs.Written.{term_sexp, term_sexps}
use Rattle.packet.specs.Barred.{term_ok, terms_ok}
use Rattle.packet.specs.File.{most_bytes}
use Rattle.room.specs.Layout.{levels, candidate_word}
use Rattle.room.specs.Spot.{bindings_at}
use Rattle.room.specs.Table.{CandidatesIn}
use Rattle.equal.specs.Term.{TermAt}
use Rattle.room.specs.Files.{Files}
use Rattle.room.specs.declared.Source.TheVariants as Source
use Rattle.room.specs.declared.Spot.{Spot}
use Rattle.mentions.specs.Open.{is_open, Becomes}
use Rattle.keys.specs.Key.{term_key}
use Rattle.keys.specs.Keys.{CandidateKeys}
use Rattle.unset.specs.declared.Likeness.{Likeness}
use Rattle.unset.specs.declared.Likeness.TheVariants as L

-- a term beside another: whatever the frame becomes it is another, or is the same; where that is open, nothing is said
abbrev pub LikeAs : List Term → ℕ → Bindings → Term → Term → Likeness → Type 0
LikeAs us own bs t w L.Never = (ds : Bindings) → Becomes us own bs ds → same_term (replaced us ds t) w ≡ false
LikeAs us own bs t w L.Open = Unit {0}
LikeAs us own bs t w L.Same = (ds : Bindings) → Becomes us own bs ds → same_term (replaced us ds t) w ≡ true

-- the same of the terms at two spots
abbrev pub Comparing : Files → List ℕ → Spot → Spot → ℕ → Likeness → Type 0
Comparing f room x y own r =
    (us : List Term) (t u : Term) → CandidatesIn room f.terms us → TermAt f x t → TermAt f y u
    → LikeAs us own (bindings_at room x) t (replaced us (bindings_at room y) u) r

-- a yes is a yes whatever the frame becomes: the term at the first spot is not the term at the second
abbrev pub DiffersAt : Files → List ℕ → Spot → Spot → ℕ → Bool → Type 0
DiffersAt f room x y own r =
    (us : List Term) (t u : Term) → CandidatesIn room f.terms us → TermAt f x t → TermAt f y u
    → r ≡ true → (ds : Bindings) → Becomes us own (bindings_at room x) ds → same_term (replaced us ds t) (replaced us (bindings_at room y) u) ≡ false

-- where candidate i stands, by the room's table
abbrev pub candidate_spot : List ℕ → ℕ → Spot
candidate_spot room i = record { source = Source.Terms; at = get_or room (candidate_word i) 0; base = 0; count = 0 }

-- the answer is whether candidate i is the term at a spot, its variables replaced
abbrev pub IsCandidate : Files → List ℕ → Spot → ℕ → Bool → Type 0
IsCandidate f room y i r =
    (us : List Term) (t u : Term) → CandidatesIn room f.terms us → TermAt f y u → get_elem? us i ≡ some t → r ≡ same_term t (replaced us (bindings_at room y) u)

-- what is said of the term w at a spot, its variables replaced, that has a number, where the tables of candidates and of their numbers are right
abbrev pub Numbered : Files → List ℕ → Spot → ℕ → (List Term → Term → Type 0) → Type 0
Numbered f room y key says =
    (us : List Term) (u : Term) → CandidatesIn room f.terms us → CandidateKeys room us → TermAt f y u
    → key ≡ term_key (replaced us (bindings_at room y) u) → says us (replaced us (bindings_at room y) u)

-- none of the first n candidates is a term
abbrev pub NoneOf : List Term → ℕ → Term → Type 0
NoneOf us n w = (i : ℕ) → i < n → get_elem? us i ≡ some w → ⊥

-- the lowest of the first n candidates that is a term, or none of them is
abbrev pub LowestOf : List Term → ℕ → Term → Option ℕ → Type 0
LowestOf us n w (Some c) = (c < n) × (get_elem? us c ≡ some w) × NoneOf us c w
LowestOf us n w None = NoneOf us n w

abbrev pub LowestAt : Files → List ℕ → Spot → ℕ → ℕ → Option ℕ → Type 0
LowestAt f room y key n r = Numbered f room y key (λ us w. n ≤ length us → LowestOf us n w r)

-- the candidate that is the term at a spot, where there is one of that number; where none is told, nothing is said
abbrev pub BoundTo : Files → List ℕ → Spot → Option ℕ → Type 0
BoundTo f room y None = Unit {0}
BoundTo f room y (Some c) =
    (us : List Term) (u : Term) → CandidatesIn room f.terms us → TermAt f y u → c < length us → get_elem? us c ≡ some (replaced us (bindings_at room y) u)

-- the lowest candidate that is a term, or none is
abbrev pub CandidateOf : List Term → Term → Option ℕ → Type 0
CandidateOf us w (Some c) = (get_elem? us c ≡ some w) × NoneOf us c w
CandidateOf us w None = NoneOf us (length us) w

-- the same of the term at a spot, its variables replaced
abbrev pub CandidateAt : Files → List ℕ → Spot → Option ℕ → Type 0
CandidateAt f room y r =
    (us : List Term) (u : Term) → CandidatesIn room f.terms us → CandidateKeys room us → TermAt f y u → CandidateOf us (replaced us (bindings_at room y) u) r

-- a term is variable v of a frame, one of the first `own`, and that is unset; where none is told, nothing is said
abbrev pub OpenAs : ℕ → Bindings → Term → Option ℕ → Type 0
OpenAs own bs t (Some v) = (t ≡ Term.v v) × (is_open own bs v ≡ true)
OpenAs own bs t None = Unit {0}

-- the same of the term at a spot
abbrev pub OpenAt : Files → List ℕ → Spot → ℕ → Option ℕ → Type 0
OpenAt f room x own r = (t : Term) → TermAt f x t → OpenAs own (bindings_at room x) t r

-- whether a term is variable v
abbrev pub is_variable : ℕ → Term → Bool
is_variable v (Term.v i) = eqb i v
is_variable v (Term.f g ts) = false
is_variable v (Term.e k) = false

-- the answer is whether variable v stands at an offset
abbrev pub VariableAt : List ℕ → ℕ → ℕ → Bool → Type 0
VariableAt s at v r =
    (t : Term) (around : ℕ) → Stands s at (term_sexp t) → length s ≤ most_bytes → around ≤ levels → term_ok false around t ≡ true → r ≡ is_variable v t

-- a row of arguments at an offset of a part, up to the closing parenthesis
pub record Row (around : ℕ) (s : List ℕ) (p : ℕ) (ts : Terms) : Type 0 where
  pub stands : StandsAll s p (term_sexps ts)
  pub shallow : nestings (term_sexps ts) ≤ levels
  pub few : around ≤ levels
  pub ok : terms_ok false around ts ≡ true
