-- One number for each atom and one for each rule (document 02, Three: a rule that cannot match is not visited). Of a number nothing is believed but that different numbers are of different atoms; proofs/KeyLaws shows it.
-- An atom's own number is odd, that of its predicate even and not 0; 0 is the number of a rule that any atom may match.
use Rattle.std.specs.Prelude.{ℕ, ◌+◌, ◌*◌, ◌%◌, true, List, [], ◌∷◌}
use Rattle.basics.specs.Choice.{choose}
use Rattle.harrop.specs.Formula.{Name, Term, Terms, Atom, Clause}
use Rattle.harrop.specs.Place.{Plain}
use Rattle.mentions.specs.Mentions.{mentions_atom}

-- a number mixed with another
unfoldable pub mix : ℕ → ℕ → ℕ
mix h x = (h * 1000003 + x * 7919 + 12345) % 1073741824

-- a number with one more octet, with octets, and the number of a name
unfoldable pub more : ℕ → ℕ → ℕ
more h octet = (h * 257 + octet) % 1073741824

unfoldable pub text_from : ℕ → List ℕ → ℕ
text_from h [] = h
text_from h (c ∷ cs) = text_from (more h c) cs

abbrev pub text_key : Name → ℕ
text_key n = text_from 1 n

-- the number of a term, and a number with those of terms mixed into it
abbrev mutual
  pub term_key : Term → ℕ
  term_key (Term.v i) = mix 3 i
  term_key (Term.f g ts) = terms_key (text_key g) ts
  term_key (Term.e k) = mix 5 k

  pub terms_key : ℕ → Terms → ℕ
  terms_key h Terms.nil = h
  terms_key h (Terms.cons t ts) = terms_key (mix h (term_key t)) ts

-- the number of an atom
abbrev pub atom_key : Atom → ℕ
atom_key (Atom.atom n ts) = terms_key (text_key n) ts * 2 + 1

-- a number mixed with 1 for each argument, and the number of an atom's predicate
abbrev pub arguments_key : ℕ → Terms → ℕ
arguments_key h Terms.nil = h
arguments_key h (Terms.cons t ts) = arguments_key (mix h 1) ts

abbrev pub predicate_key : Atom → ℕ
predicate_key (Atom.atom n ts) = arguments_key (text_key n) ts * 2 + 2

-- the number of a head: its own where it mentions no variable, else that of its predicate
abbrev pub head_key : Atom → ℕ
head_key b = choose (mentions_atom (λ _. true) b) (predicate_key b) (atom_key b)

-- the number of a clause: that of its head; 0 where an `and` is on the way to its heads
abbrev pub clause_key : Clause Plain → ℕ
clause_key (Clause.atom_d b) = head_key b
clause_key (Clause.imp_d g b) = head_key b
clause_key (Clause.all_d q d) = clause_key d
clause_key (Clause.and_d c d) = 0
