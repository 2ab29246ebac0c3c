-- Terms and atoms that stand at a spot, as a file that refusals 1 to 5 let pass leaves them (document 01, "The carrier and the words", "Sizes"); and what comparing two of them has found.
use Rattle.std.specs.Prelude.{ℕ, ◌+◌, ◌≤◌, ◌≡◌, Bool, true, false, List, ltb, length, get_or, drop}
use Rattle.basics.specs.Choice.{choose}
use Rattle.harrop.specs.declared.Binding.{Binding}
use Rattle.harrop.specs.Formula.{Term, Terms, Atom}
use Rattle.harrop.specs.Bindings.{replaced, replaceds, replaced_atom, same_term, same_terms, same_atom}
use Rattle.packet.specs.Written.{term_sexp, term_sexps, atom_sexp}
use Rattle.packet.specs.Barred.{term_ok, terms_ok, atom_ok}
use Rattle.sexp.specs.Sexp.{str, spell, Stands, StandsAll, nesting, nestings}
use Rattle.sexp.specs.WordsAt.{Shared}
use Rattle.room.specs.declared.Source.TheVariants as Source
use Rattle.room.specs.declared.Spot.{Spot}
use Rattle.equal.specs.declared.equal.Seen.{Seen}
use Rattle.equal.specs.declared.equal.Seen.TheVariants.{Parameter, Written}
use Rattle.equal.specs.declared.equal.Begun.{Begun}
use Rattle.equal.specs.declared.equal.Begun.TheVariants.{Same, Differ, Rest}
use Rattle.room.specs.Layout.{levels, candidates_word, candidate_word}
use Rattle.room.specs.Spot.{bindings_at, moved_to}
use Rattle.room.specs.Files.{Files, file_of}
use Rattle.room.specs.Table.{CandidatesIn}

-- an atom of a formula: it holds no parameter, and its variables are below the number of quantifiers around it, each of which is bound
pub record AtomAt (f : Files) (x : Spot) (a : Atom) : Type 0 where
  pub stands : Stands (file_of f x.source) x.at (atom_sexp a)
  pub shallow : nesting (atom_sexp a) ≤ levels
  pub few : x.count ≤ levels
  pub ok : atom_ok x.count a ≡ true

-- a term, of a formula or a candidate
pub record TermAt (f : Files) (x : Spot) (t : Term) : Type 0 where
  pub stands : Stands (file_of f x.source) x.at (term_sexp t)
  pub shallow : nesting (term_sexp t) ≤ levels
  pub few : x.count ≤ levels
  pub holds : Bool
  pub ok : term_ok holds x.count t ≡ true

-- terms one after the other, up to the closing parenthesis
pub record TermsAt (f : Files) (x : Spot) (ts : Terms) : Type 0 where
  pub stands : StandsAll (file_of f x.source) x.at (term_sexps ts)
  pub shallow : nestings (term_sexps ts) ≤ levels
  pub few : x.count ≤ levels
  pub holds : Bool
  pub ok : terms_ok holds x.count ts ≡ true

-- a term that is no variable
abbrev pub is_written : Term → Bool
is_written (Term.v i) = false
is_written (Term.f g ts) = true
is_written (Term.e k) = true

-- a term is written at a spot, no variable itself, and is w when its variables are replaced
pub record WrittenAt (f : Files) (room : List ℕ) (cs : List Term) (x : Spot) (w : Term) : Type 0 where
  pub term : Term
  pub here : TermAt f x term
  pub plain : is_written term ≡ true
  pub means : replaced cs (bindings_at room x) term ≡ w

-- what is seen of a term that is w when its variables are replaced
abbrev pub Sees : Files → List ℕ → List Term → Term → Seen → Type 0
Sees f room cs w (Parameter k) = w ≡ Term.e k
Sees f room cs w (Written x) = WrittenAt f room cs x w

-- what is seen of a candidate, and of what a binding stands for
unfoldable pub candidate_seen : List ℕ → ℕ → Seen
candidate_seen room i =
    choose (ltb i (get_or room candidates_word 0))
    (Written (record { source = Source.Terms; at = get_or room (candidate_word i) 0; base = 0; count = 0 }))
    (Parameter 0)

unfoldable pub binding_seen : List ℕ → Binding → Seen
binding_seen room (Binding.Candidate i) = candidate_seen room i
binding_seen room (Binding.Parameter k) = Parameter k

-- what is seen at a spot is the term there
abbrev pub SeesAt : Files → List ℕ → Spot → Seen → Type 0
SeesAt f room x r =
    (cs : List Term) (t : Term) → CandidatesIn room f.terms cs → TermAt f x t → Sees f room cs (replaced cs (bindings_at room x) t) r

-- whether a term written at a spot is a parameter
abbrev pub IsParameter : Files → Spot → ℕ → Bool → Type 0
IsParameter f x k r = (t : Term) → TermAt f x t → is_written t ≡ true → r ≡ same_term t (Term.e k)

-- the same string stands so many bytes after two spots, and two further spots are just after it
pub record AfterText (s t : List ℕ) (x y : Spot) (from : ℕ) (a b : Spot) : Type 0 where
  pub octets : List ℕ
  pub here : Stands (drop x.at s) from (str octets)
  pub there : Stands (drop y.at t) from (str octets)
  pub one : a ≡ moved_to x (x.at + (from + length (spell (str octets))))
  pub two : b ≡ moved_to y (y.at + (from + length (spell (str octets))))

abbrev pub AfterAt : List ℕ → List ℕ → Spot → Spot → ℕ → Begun → Type 0
AfterAt s t x y from Same = ⊥
AfterAt s t x y from Differ = Shared (drop x.at s) from (drop y.at t) from → ⊥
AfterAt s t x y from (Rest a b) = AfterText s t x y from a b

-- terms stand at two spots, and whether they are the same, their variables replaced, decides whether u and w are; those of u nest less
pub record RestAt (f : Files) (room : List ℕ) (cs : List Term) (x y : Spot) (u w : Term) : Type 0 where
  pub one : Terms
  pub two : Terms
  pub here : TermsAt f x one
  pub there : TermsAt f y two
  pub less : nestings (term_sexps (replaceds cs (bindings_at room x) one)) + 1 ≤ nesting (term_sexp u)
  pub decides : same_term u w ≡ same_terms (replaceds cs (bindings_at room x) one) (replaceds cs (bindings_at room y) two)

-- how far the comparison of u and w has come
abbrev pub Begins : Files → List ℕ → List Term → Term → Term → Begun → Type 0
Begins f room cs u w Same = same_term u w ≡ true
Begins f room cs u w Differ = same_term u w ≡ false
Begins f room cs u w (Rest x y) = RestAt f room cs x y u w

abbrev pub beginning : Bool → Begun
beginning true = Same
beginning false = Differ

-- of two terms written at spots, whatever the room
abbrev pub BeginsWritten : Files → Spot → Spot → Begun → Type 0
BeginsWritten f x y r =
    (room : List ℕ) (cs : List Term) (u w : Term) → WrittenAt f room cs x u → WrittenAt f room cs y w → Begins f room cs u w r

-- of two terms
abbrev pub BeginsAt : Files → List ℕ → Spot → Spot → Begun → Type 0
BeginsAt f room x y r =
    (cs : List Term) (t u : Term) → CandidatesIn room f.terms cs → TermAt f x t → TermAt f y u
    → Begins f room cs (replaced cs (bindings_at room x) t) (replaced cs (bindings_at room y) u) r

-- the answer is whether the terms at two spots are the same, their variables replaced, where the first nests at most so deep then
abbrev pub SameTerms : Files → List ℕ → Spot → Spot → ℕ → Bool → Type 0
SameTerms f room x y nest r =
    (cs : List Term) (t u : Term) → CandidatesIn room f.terms cs → TermAt f x t → TermAt f y u
    → nesting (term_sexp (replaced cs (bindings_at room x) t)) ≤ nest
    → r ≡ same_term (replaced cs (bindings_at room x) t) (replaced cs (bindings_at room y) u)

-- and of terms one after the other
abbrev pub SameRest : Files → List ℕ → Spot → Spot → ℕ → Bool → Type 0
SameRest f room x y nest r =
    (cs : List Term) (ts us : Terms) → CandidatesIn room f.terms cs → TermsAt f x ts → TermsAt f y us
    → nestings (term_sexps (replaceds cs (bindings_at room x) ts)) ≤ nest
    → r ≡ same_terms (replaceds cs (bindings_at room x) ts) (replaceds cs (bindings_at room y) us)

-- and of atoms, which nest no deeper than the files and the candidates let them
abbrev pub SameAtoms : Files → List ℕ → Spot → Spot → Bool → Type 0
SameAtoms f room x y r =
    (cs : List Term) (a b : Atom) → CandidatesIn room f.terms cs → AtomAt f x a → AtomAt f y b
    → r ≡ same_atom (replaced_atom cs (bindings_at room x) a) (replaced_atom cs (bindings_at room y) b)
