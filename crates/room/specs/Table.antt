-- When the room's tables are right: of the rules of a rule file, and of the candidates of a terms file (document 01, "When a strip fits", "Sizes").
use Rattle.std.specs.Prelude.{ℕ, zero, suc, ◌+◌, ◌≤◌, ◌≡◌, true, List, length, get_or, take, drop}
use Rattle.std.proofs.Math.Option.{Option, none, some}
use Rattle.std.proofs.Math.ListN.{get_elem?}
use Rattle.harrop.specs.Formula.{Term, Terms, Clause}
use Rattle.harrop.specs.Bindings.{highest, highests}
use Rattle.harrop.specs.Place.{Plain}
use Rattle.packet.specs.Written.{term_sexp, term_sexps, clause_sexp, rules_sexp, terms_sexp}
use Rattle.packet.specs.Barred.{term_ok, terms_ok}
use Rattle.packet.specs.File.{most_bytes}
use Rattle.sexp.specs.Sexp.{Sexp, Sexps, spell, Stands, StandsAll, nesting, nestings}
use Rattle.room.specs.Layout.{words, levels, rules_word, rule_word, candidates_word, candidate_word, highest_word, supposed_word, rules_at_most, candidates_at_most}

-- the table of rules: how many there are, and where each starts
pub record RulesIn (room rules : List ℕ) (ds : List (Clause Plain)) : Type 0 where
  pub counted : get_or room rules_word 0 ≡ length ds
  pub few : length ds ≤ rules_at_most
  pub starts : (k : ℕ) (d : Clause Plain) → get_elem? ds k ≡ some d → Stands rules (get_or room (rule_word k) 0) (clause_sexp d)

-- the table of candidates: how many there are, where each starts, and its highest parameter. Each is closed, with parameters from 1 to 64, as document 01 asks
pub record CandidatesIn (room terms : List ℕ) (ts : List Term) : Type 0 where
  pub counted : get_or room candidates_word 0 ≡ length ts
  pub few : length ts ≤ candidates_at_most
  pub starts : (i : ℕ) (t : Term) → get_elem? ts i ≡ some t → Stands terms (get_or room (candidate_word i) 0) (term_sexp t)
  pub highests : (i : ℕ) (t : Term) → get_elem? ts i ≡ some t → get_or room (highest_word i) 0 ≡ highest t
  pub closed : (i : ℕ) (t : Term) → get_elem? ts i ≡ some t → term_ok true 0 t ≡ true
  pub shallow : (i : ℕ) (t : Term) → get_elem? ts i ≡ some t → nesting (term_sexp t) ≤ levels

-- how many members a list has, and member number i
abbrev pub members : Sexps → ℕ
members Sexps.nil = 0
members (Sexps.cons x xs) = suc (members xs)

abbrev pub member : Sexps → ℕ → Option Sexp
member Sexps.nil i = none
member (Sexps.cons x xs) zero = some x
member (Sexps.cons x xs) (suc i) = member xs i

-- the members that stand from an offset on: how many they are, and from a word on where each of them starts. Nothing but the 256 words from there on is written
pub record StartsIn (before after s : List ℕ) (at base n : ℕ) : Type 0 where
  pub few : n ≤ 256
  pub long : length after ≡ length before
  pub below : take base after ≡ take base before
  pub above : drop (base + 256) after ≡ drop (base + 256) before
  pub all : (xs : Sexps) → StandsAll s at xs → nestings xs ≤ levels → members xs ≤ 256 → length s ≤ most_bytes → base + 256 ≤ length before → n ≡ members xs
  pub starts : (xs : Sexps) → StandsAll s at xs → nestings xs ≤ levels → members xs ≤ 256 → length s ≤ most_bytes → base + 256 ≤ length before
      → (i : ℕ) (x : Sexp) → member xs i ≡ some x → Stands s (get_or after (base + i) 0) x

-- the answer is the highest parameter of the term that stands at an offset, and of the terms that do
abbrev pub HighestAt : List ℕ → ℕ → ℕ → ℕ → Type 0
HighestAt s at nest r = (t : Term) → Stands s at (term_sexp t) → term_ok true 0 t ≡ true → nesting (term_sexp t) ≤ levels → nesting (term_sexp t) ≤ nest → r ≡ highest t

abbrev pub HighestsAt : List ℕ → ℕ → ℕ → ℕ → Type 0
HighestsAt s at nest r = (ts : Terms) → StandsAll s at (term_sexps ts) → terms_ok true 0 ts ≡ true → nestings (term_sexps ts) ≤ levels → nestings (term_sexps ts) ≤ nest → r ≡ highests ts

-- the room after the table of rules is filled: nothing else of it is written, and for a file of rules that document 01 lets pass the table is right
pub record RulesFilled (before after rules : List ℕ) : Type 0 where
  pub long : length after ≡ length before
  pub kept : drop candidates_word after ≡ drop candidates_word before
  pub right : (ds : List (Clause Plain)) → rules ≡ spell (rules_sexp ds) → length ds ≤ rules_at_most → nesting (rules_sexp ds) ≤ levels → length rules ≤ most_bytes → words ≤ length before → RulesIn after rules ds

-- and the table of candidates
pub record CandidatesFilled (before after terms : List ℕ) : Type 0 where
  pub long : length after ≡ length before
  pub below : take candidates_word after ≡ take candidates_word before
  pub kept : drop (supposed_word 0) after ≡ drop (supposed_word 0) before
  pub right : (ts : List Term) → terms ≡ spell (terms_sexp ts) → length ts ≤ candidates_at_most → nesting (terms_sexp ts) ≤ levels → ((i : ℕ) (t : Term) → get_elem? ts i ≡ some t → term_ok true 0 t ≡ true)
      → length terms ≤ most_bytes → words ≤ length before → CandidatesIn after terms ts
