-- The numbers at spots of the files, and the tables of them in the room (document 02, Three): those of rules in 256 words, those of candidates in the 256 words after them, and the chains of both.
use Rattle.std.specs.Prelude.{ℕ, ◌+◌, ◌≤◌, ◌<◌, min, ◌≡◌, true, List, length, get_or}
use Rattle.std.proofs.Math.Option.{some}
use Rattle.std.proofs.Math.ListN.{get_elem?}
use Rattle.harrop.specs.Formula.{Term, Atom, Clause}
use Rattle.harrop.specs.Bindings.{replaced, replaced_atom}
use Rattle.harrop.specs.Place.{Plain}
use Rattle.sexp.specs.Sexp.{Stands, nesting}
use Rattle.packet.specs.Written.{term_sexp, clause_sexp}
use Rattle.packet.specs.Barred.{term_ok, clause_ok}
use Rattle.room.specs.Layout.{words, levels, rules_word, rule_word, candidates_word, candidate_word}
use Rattle.room.specs.Spot.{bindings_at}
use Rattle.room.specs.Table.{CandidatesIn}
use Rattle.equal.specs.Term.{TermAt, AtomAt}
use Rattle.room.specs.Where.{Booked}
use Rattle.room.specs.Files.{Files, files_of}
use Rattle.room.specs.declared.Spot.{Spot}
use Rattle.heads.specs.Predicate.{AtomThere, ClauseThere}
use Rattle.keys.specs.Key.{term_key, atom_key, predicate_key, clause_key}
use Rattle.keys.specs.Walk.{kept_word}
use Rattle.keys.specs.Chains.{Chained, Within, NextWith}

-- where the number of rule k is kept, and the first word after both tables
abbrev pub key_word : ℕ → ℕ
key_word k = 3200 + k

abbrev pub keys_end : ℕ
keys_end = 3712

-- where the chains of rules begin, where those of candidates, and the first word after both
abbrev pub rule_chains : ℕ
rule_chains = 4224

abbrev pub candidate_chains : ℕ
candidate_chains = 4864

abbrev pub chains_end : ℕ
chains_end = 5248

-- the tables are right
pub record CandidateKeys (room : List ℕ) (cs : List Term) : Type 0 where
  pub numbers : (i : ℕ) (t : Term) → get_elem? cs i ≡ some t → get_or room (kept_word i) 0 ≡ term_key t
  pub chains : Chained (kept_word 0) candidate_chains room 0 (length cs)

abbrev pub RuleKeys : List ℕ → List (Clause Plain) → Type 0
RuleKeys room ds = (k : ℕ) (d : Clause Plain) → get_elem? ds k ≡ some d → get_or room (key_word k) 0 ≡ clause_key d

pub record KeysIn (room : List ℕ) (ds : List (Clause Plain)) (cs : List Term) : Type 0 where
  pub rules : RuleKeys room ds
  pub candidates : CandidateKeys room cs
  pub chains : Chained (key_word 0) rule_chains room 0 (length ds)

-- the answer is the number of the term, of the atom, of the atom's predicate, or of the clause at a spot
abbrev pub TermKeyAt : Files → List ℕ → Spot → ℕ → Type 0
TermKeyAt f room x r =
    (cs : List Term) (t : Term) → CandidatesIn room f.terms cs → CandidateKeys room cs → TermAt f x t → r ≡ term_key (replaced cs (bindings_at room x) t)

abbrev pub AtomKeyAt : Files → List ℕ → Spot → ℕ → Type 0
AtomKeyAt f room x r =
    (cs : List Term) (a : Atom) → CandidatesIn room f.terms cs → CandidateKeys room cs → AtomAt f x a → r ≡ atom_key (replaced_atom cs (bindings_at room x) a)

abbrev pub PredicateKeyAt : Files → Spot → ℕ → Type 0
PredicateKeyAt f x r = (a : Atom) → AtomThere f x a → r ≡ predicate_key a

abbrev pub RuleKeyAt : Files → Spot → ℕ → Type 0
RuleKeyAt f x r = (d : Clause Plain) (n : ℕ) → ClauseThere f x d → clause_ok n d ≡ true → r ≡ clause_key d

-- the numbers of the first n candidates, and of the first n rules, are in the room
pub record CandidatesDone (before after terms : List ℕ) (n : ℕ) : Type 0 where
  pub within : Within before after (kept_word 0) keys_end
  pub right : keys_end ≤ length before → (i : ℕ) → i < n → (t : Term) → Stands terms (get_or before (candidate_word i) 0) (term_sexp t) → term_ok true 0 t ≡ true → nesting (term_sexp t) ≤ levels
      → get_or after (kept_word i) 0 ≡ term_key t

pub record RulesDone (before after rules : List ℕ) (n : ℕ) : Type 0 where
  pub within : Within before after (key_word 0) (kept_word 0)
  pub right : keys_end ≤ length before → (k : ℕ) → k < n → (d : Clause Plain) → Stands rules (get_or before (rule_word k) 0) (clause_sexp d) → clause_ok 0 d ≡ true → nesting (clause_sexp d) ≤ levels
      → get_or after (key_word k) 0 ≡ clause_key d

abbrev pub CandidatesKept : List ℕ → List ℕ → List ℕ → Type 0
CandidatesKept before after terms = CandidatesDone before after terms (min (get_or before candidates_word 0) 256)

abbrev pub RulesKept : List ℕ → List ℕ → List ℕ → Type 0
RulesKept before after rules = RulesDone before after rules (min (get_or before rules_word 0) 256)

-- both tables and the chains filled: nothing else of the room is written, and for a packet whose rules and candidates are in the room's tables they are right
pub record KeysFilled (before after rules terms : List ℕ) : Type 0 where
  pub within : Within before after (key_word 0) chains_end
  pub right : words ≤ length before → (goal : List ℕ) (ds : List (Clause Plain)) (cs : List Term) → Booked (files_of rules goal terms) before ds cs → KeysIn after ds cs

-- a rule with number x cannot serve an atom with these numbers, of its predicate and of its own: its number is none of them, and not 0
pub record Differs (predicate key x : ℕ) : Type 0 where
  pub some : x ≡ 0 → ⊥
  pub other : x ≡ predicate → ⊥
  pub own : x ≡ key → ⊥

-- so rule k, by the room
abbrev pub Barred : List ℕ → ℕ → ℕ → ℕ → Type 0
Barred room predicate key k = Differs predicate key (get_or room (key_word k) 0)

-- the clauses from one on up to another are rules that cannot serve it
pub record PassedOver (room : List ℕ) (predicate key from r : ℕ) : Type 0 where
  pub rules : (j : ℕ) → from ≤ j → j < r → j < get_or room rules_word 0
  pub barred : (j : ℕ) → from ≤ j → j < r → Barred room predicate key j

-- the first clause from one on, of n, that may serve it: where the chains are right for as many rules as the room says, those before are rules that cannot
pub record NextClause (room : List ℕ) (predicate key from n r : ℕ) : Type 0 where
  pub few : r ≤ n
  pub further : from ≤ n → from ≤ r
  pub right : Chained (key_word 0) rule_chains room 0 (get_or room rules_word 0) → PassedOver room predicate key from r

-- the first candidate from one on, of n, with a number
abbrev pub NextCandidate : List ℕ → ℕ → ℕ → ℕ → ℕ → Type 0
NextCandidate room x from n r = NextWith (kept_word 0) candidate_chains room x from n r
