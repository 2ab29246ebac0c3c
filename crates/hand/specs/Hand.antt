-- The clauses at hand by the room's words (document 01, "When a strip fits": clause k is at hand): where each stands, and what stands there.
use Rattle.std.specs.Prelude.{ℕ, ◌+◌, ◌-◌, ◌≤◌, ◌≡◌, true, List, ltb, length, get_or, Option, Some, None}
use Rattle.std.proofs.Math.Option.{none, some}
use Rattle.std.proofs.Math.ListN.{get_elem?}
use Rattle.basics.specs.Choice.{choose}
use Rattle.harrop.specs.Formula.{Clause}
use Rattle.harrop.specs.Bindings.{Bindings}
use Rattle.harrop.specs.Place.{AtHand, Hand, Plain}
use Rattle.sexp.specs.Sexp.{Stands, nesting}
use Rattle.packet.specs.Written.{clause_sexp}
use Rattle.packet.specs.Barred.{clause_ok}
use Rattle.room.specs.Layout.{levels, rules_word, rule_word}
use Rattle.room.specs.Files.{Files, file_of}
use Rattle.room.specs.Spot.{bindings_at, supposed_in}
use Rattle.room.specs.declared.Source.TheVariants as S
use Rattle.room.specs.declared.Spot.{Spot}

-- the spot of rule k, and of clause k: a rule, or one of m that are supposed
abbrev pub rule_spot : List ℕ → ℕ → Spot
rule_spot room k = record { source = S.Rules; at = get_or room (rule_word k) 0; base = 0; count = 0 }

unfoldable pub clause_in : List ℕ → ℕ → ℕ → Option Spot
clause_in room k m =
    choose (ltb k (get_or room rules_word 0)) (Some (rule_spot room k))
    (choose (ltb (k - get_or room rules_word 0) m) (Some (supposed_in room (k - get_or room rules_word 0))) None)

-- what stands at a spot, with another frame
abbrev pub reframed : Spot → ℕ → Spot
reframed x top = record { source = x.source; at = x.at; base = top; count = x.count }

-- a clause at a spot, with its bindings in a frame below the top
pub record ClauseAt (f : Files) (room : List ℕ) (x : Spot) (top : ℕ) (d : Clause Plain) (bs : Bindings) : Type 0 where
  pub stands : Stands (file_of f x.source) x.at (clause_sexp d)
  pub below : x.base + x.count ≤ top
  pub holds : bindings_at room x ≡ bs
  pub shallow : x.count + nesting (clause_sexp d) ≤ levels
  pub scoped : clause_ok (length bs) d ≡ true

-- what is at hand under a number
abbrev pub HandAt : Files → List ℕ → ℕ → Hand Plain → ℕ → Option Spot → Type 0
HandAt f room top c k None = get_elem? c k ≡ none
HandAt f room top c k (Some x) = (h : AtHand Plain) × (get_elem? c k ≡ some h) × ClauseAt f room x top h.clause h.bindings
