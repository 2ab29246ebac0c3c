-- What is said of the walk over bytes that makes the numbers: of a name, of a term and of terms one after the other, of an atom and of a clause, at an offset of a file or at the start of a part of one.
use Rattle.std.specs.Prelude.{ℕ, ◌+◌, ◌≤◌, ◌<◌, ◌≡◌, Bool, true, List, ltb, get_or}
use Rattle.basics.specs.Choice.{choose}
use Rattle.harrop.specs.declared.Binding.{Binding}
use Rattle.harrop.specs.declared.Binding.TheVariants.{Candidate, Parameter}
use Rattle.harrop.specs.Formula.{Name, Term, Terms, Atom, Goal, Clause}
use Rattle.harrop.specs.Bindings.{value_of, replaced, replaceds, replaced_atom}
use Rattle.harrop.specs.Place.{Plain}
use Rattle.sexp.specs.Decimal.{decimal}
use Rattle.sexp.specs.Sexp.{str, Stands, StandsAll, nesting, nestings}
use Rattle.packet.specs.Written.{term_sexp, term_sexps, atom_sexp, clause_sexp}
use Rattle.packet.specs.Barred.{term_ok, terms_ok, atom_ok, clause_ok}
use Rattle.room.specs.Layout.{levels, candidates_word}
use Rattle.room.specs.Frame.{bound_to}
use Rattle.room.specs.Spot.{bindings_at}
use Rattle.room.specs.declared.Spot.{Spot}
use Rattle.mentions.specs.Mentions.{mentions_term, mentions_terms}
use Rattle.keys.specs.declared.term.Begun.{Begun}
use Rattle.keys.specs.declared.term.Begun.TheVariants.{Key, Terms as Rest}
use Rattle.keys.specs.Key.{mix, text_key, term_key, terms_key, atom_key, arguments_key, predicate_key, head_key, clause_key}

-- the answer is the number of the name at an offset
abbrev pub TextAt : List ℕ → ℕ → ℕ → Type 0
TextAt s at r = (w : Name) → Stands s at (str w) → r ≡ text_key w

-- where the number of candidate i is kept
abbrev pub kept_word : ℕ → ℕ
kept_word i = 3456 + i

-- what the room says is the number of a candidate, and of what a binding stands for
unfoldable pub candidate_key : List ℕ → ℕ → ℕ
candidate_key room i = choose (ltb i (get_or room candidates_word 0)) (get_or room (kept_word i) 0) (mix 5 0)

unfoldable pub binding_key : List ℕ → Binding → ℕ
binding_key room (Candidate i) = candidate_key room i
binding_key room (Parameter k) = mix 5 k

-- the variables of a frame are no more than a file nests, and for each the room says the number of the term that it stands for
pub record Keyed (room : List ℕ) (cs : List Term) (x : Spot) : Type 0 where
  pub few : x.count ≤ levels
  pub says : (i : ℕ) → i < x.count → binding_key room (bound_to (bindings_at room x) i) ≡ term_key (value_of cs (bindings_at room x) i)

-- the answer is what the room says of the variable, or the number of the parameter, that a part of a file starts with
abbrev pub VariableAt : List ℕ → List ℕ → Spot → ℕ → Type 0
VariableAt t room x r = (i : ℕ) → Stands t 4 (str (decimal i)) → i ≤ 999 → r ≡ binding_key room (bound_to (bindings_at room x) i)

abbrev pub ParameterAt : List ℕ → ℕ → Type 0
ParameterAt t r = (k : ℕ) → Stands t 4 (str (decimal k)) → k ≤ 999 → r ≡ mix 5 k

-- terms stand at an offset, nest less than a term, and mixed into a number give the term's
pub record RestOf (t room : List ℕ) (cs : List Term) (x : Spot) (at h : ℕ) (holds : Bool) (u : Term) : Type 0 where
  pub ts : Terms
  pub stands : StandsAll t at (term_sexps ts)
  pub ok : terms_ok holds x.count ts ≡ true
  pub less : nestings (term_sexps ts) + 1 ≤ nesting (term_sexp u)
  pub gives : term_key (replaced cs (bindings_at room x) u) ≡ terms_key h (replaceds cs (bindings_at room x) ts)

-- how a term begins
abbrev pub Begins : List ℕ → List ℕ → List Term → Spot → Bool → Term → Begun → Type 0
Begins t room cs x holds u (Key k) = k ≡ term_key (replaced cs (bindings_at room x) u)
Begins t room cs x holds u (Rest n h) = RestOf t room cs x n h holds u

abbrev pub BeginsAt : List ℕ → List ℕ → Spot → Begun → Type 0
BeginsAt t room x r =
    (cs : List Term) (holds : Bool) (u : Term) → Keyed room cs x → Stands t 0 (term_sexp u) → term_ok holds x.count u ≡ true → Begins t room cs x holds u r

-- the answer is the number of the term at an offset that nests at most so deep, its variables replaced; and a number with those of terms mixed into it
abbrev pub TermAtKey : List ℕ → ℕ → List ℕ → Spot → ℕ → ℕ → Type 0
TermAtKey s at room x nest r =
    (cs : List Term) (holds : Bool) (t : Term) → Keyed room cs x → Stands s at (term_sexp t) → term_ok holds x.count t ≡ true → nesting (term_sexp t) ≤ levels → nesting (term_sexp t) ≤ nest
    → r ≡ term_key (replaced cs (bindings_at room x) t)

abbrev pub TermsAtKey : List ℕ → ℕ → List ℕ → Spot → ℕ → ℕ → ℕ → Type 0
TermsAtKey s at room x h nest r =
    (cs : List Term) (holds : Bool) (ts : Terms) → Keyed room cs x → StandsAll s at (term_sexps ts) → terms_ok holds x.count ts ≡ true → nestings (term_sexps ts) ≤ levels → nestings (term_sexps ts) ≤ nest
    → r ≡ terms_key h (replaceds cs (bindings_at room x) ts)

-- a number mixed with 1 for each term
abbrev pub RowAt : List ℕ → ℕ → ℕ → ℕ → Type 0
RowAt s at h r = (ts : Terms) → StandsAll s at (term_sexps ts) → nestings (term_sexps ts) ≤ levels → r ≡ arguments_key h ts

-- the answer is the number of the predicate of the atom that a part of a file starts with, and of that atom, its variables replaced
abbrev pub PredicateAt : List ℕ → ℕ → Type 0
PredicateAt t r = (a : Atom) → Stands t 0 (atom_sexp a) → nesting (atom_sexp a) ≤ levels → r ≡ predicate_key a

abbrev pub AtomAtKey : List ℕ → List ℕ → Spot → ℕ → Type 0
AtomAtKey t room x r =
    (cs : List Term) (a : Atom) → Keyed room cs x → Stands t 0 (atom_sexp a) → nesting (atom_sexp a) ≤ levels → atom_ok x.count a ≡ true → r ≡ atom_key (replaced_atom cs (bindings_at room x) a)

-- the answer is whether a term mentions a variable, and whether one of terms does
abbrev pub HasVariable : List ℕ → ℕ → ℕ → Bool → Type 0
HasVariable s at nest r = (t : Term) → Stands s at (term_sexp t) → nesting (term_sexp t) ≤ levels → nesting (term_sexp t) ≤ nest → r ≡ mentions_term (λ _. true) t

abbrev pub HaveVariable : List ℕ → ℕ → ℕ → Bool → Type 0
HaveVariable s at nest r = (ts : Terms) → StandsAll s at (term_sexps ts) → nestings (term_sexps ts) ≤ levels → nestings (term_sexps ts) ≤ nest → r ≡ mentions_terms (λ _. true) ts

-- the answer is the number of the head that a part of a file starts with, of the head of the implication there, and of the clause at an offset; n quantifiers are around
abbrev pub HeadAt : List ℕ → ℕ → Type 0
HeadAt t r = (b : Atom) (n : ℕ) → Stands t 0 (atom_sexp b) → nesting (atom_sexp b) ≤ levels → atom_ok n b ≡ true → r ≡ head_key b

abbrev pub ImpAt : List ℕ → ℕ → Type 0
ImpAt t r = (g : Goal Plain) (b : Atom) (n : ℕ) → Stands t 0 (clause_sexp (Clause.imp_d g b)) → nesting (clause_sexp (Clause.imp_d g b)) ≤ levels → clause_ok n (Clause.imp_d g b) ≡ true → r ≡ head_key b

abbrev pub ClauseAt : List ℕ → ℕ → ℕ → ℕ → Type 0
ClauseAt s at nest r = (d : Clause Plain) (n : ℕ) → Stands s at (clause_sexp d) → nesting (clause_sexp d) ≤ levels → nesting (clause_sexp d) ≤ nest → clause_ok n d ≡ true → r ≡ clause_key d
