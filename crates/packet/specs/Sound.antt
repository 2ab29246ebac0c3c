-- What a packet comes to, on the trees (document 01, "Sizes", "What comes back"): sound, if each file has at most 16,384 bytes, is one canonical expression nested at most 64, spells
-- rules, goal, terms and strip by the table, with no barred variable or parameter and at most 256 rules and candidates; else refused by the first file that the table refuses.
use Rattle.std.specs.Prelude.{ℕ, ◌≤◌, ◌≡◌, Bool, true, List, length}
use Rattle.std.proofs.Math.Option.{Option, none, some}
use Rattle.basics.specs.Each.{Each}
use Rattle.harrop.specs.Formula.{Term, Goal, Clause, Strip}
use Rattle.harrop.specs.Place.{Plain}
use Rattle.sexp.specs.Sexp.{Sexp, spell, nesting}
use Rattle.packet.specs.declared.Kind.{Kind}
use Rattle.packet.specs.declared.Kind.TheVariants as K
use Rattle.packet.specs.declared.Reason.{Reason}
use Rattle.packet.specs.declared.File.{File}
use Rattle.packet.specs.declared.File.TheVariants as F
use Rattle.packet.specs.Written.{rules_sexp, goal_sexp, terms_sexp, strip_sexp}
use Rattle.packet.specs.Barred.{term_ok, goal_ok, clause_ok, each_ok}
use Rattle.packet.specs.Spells.{TermWords, GoalWords, ClauseWords, StripWords}
use Rattle.packet.specs.File.{most_bytes, most_levels, most_members, Outcome, Books, Packet}
use Rattle.packet.specs.Refusal.{Refusal}

-- a file that spells something
pub record SoundFile {A : Type 0} (written : A → Sexp) (Words : A → Type 0) (s : List ℕ) (a : A) : Type 0 where
  pub short : length s ≤ most_bytes
  pub spelt : s ≡ spell (written a)
  pub flat : nesting (written a) ≤ most_levels
  pub words : Words a

-- what is asked of rules, goal, candidates and strip besides: not too many, and no variable or parameter barred
pub record GoodRules (ds : List (Clause Plain)) : Type 0 where
  pub few : length ds ≤ most_members
  pub unbarred : each_ok (clause_ok 0) ds ≡ true

abbrev pub GoodGoal : Goal Plain → Type 0
GoodGoal g = goal_ok 0 g ≡ true

pub record GoodCandidates (ts : List Term) : Type 0 where
  pub few : length ts ≤ most_members
  pub unbarred : each_ok (term_ok true 0) ts ≡ true

abbrev pub GoodStrip : Strip → Type 0
GoodStrip P = Unit {0}

-- what a file comes to
abbrev pub FileMeans : {A : Type 0} → Kind → File → (A → Sexp) → (A → Type 0) → (A → Type 0) → List ℕ → Outcome A → Type 0
FileMeans k f written Words Good s (Outcome.sound a) = SoundFile written Words s a × Good a
FileMeans k f written Words Good s (Outcome.refused r g at) = (g ≡ f) × Refusal k s (some (r, at))

-- the three files that a search reads
pub record SoundBooks (rs gs ts : List ℕ) (b : Books) : Type 0 where
  pub rules : SoundFile rules_sexp (Each ClauseWords) rs b.rules
  pub goal : SoundFile goal_sexp GoalWords gs b.goal
  pub terms : SoundFile terms_sexp (Each TermWords) ts b.candidates
  pub good_rules : GoodRules b.rules
  pub good_goal : GoodGoal b.goal
  pub good_candidates : GoodCandidates b.candidates

-- files in turn: the first that is refused decides
pub data RefusedBooks (rs gs ts : List ℕ) : Reason → File → ℕ → Type 0 where
  by_rules : {r : Reason} {at : ℕ} → Refusal K.Rules rs (some (r, at)) → RefusedBooks rs gs ts r F.Rules at
  by_goal : {r : Reason} {at : ℕ} → Refusal K.Rules rs none → Refusal K.Goal gs (some (r, at)) → RefusedBooks rs gs ts r F.Goal at
  by_terms : {r : Reason} {at : ℕ} → Refusal K.Rules rs none → Refusal K.Goal gs none → Refusal K.Terms ts (some (r, at)) → RefusedBooks rs gs ts r F.Terms at

abbrev pub BooksMean : List ℕ → List ℕ → List ℕ → Outcome Books → Type 0
BooksMean rs gs ts (Outcome.sound b) = SoundBooks rs gs ts b
BooksMean rs gs ts (Outcome.refused r f at) = RefusedBooks rs gs ts r f at

-- and the strip
pub record SoundPacket (rs gs ts ss : List ℕ) (p : Packet) : Type 0 where
  pub books : SoundBooks rs gs ts p.books
  pub strip : SoundFile strip_sexp StripWords ss p.strip

pub data RefusedPacket (rs gs ts ss : List ℕ) : Reason → File → ℕ → Type 0 where
  by_books : {r : Reason} {f : File} {at : ℕ} → RefusedBooks rs gs ts r f at → RefusedPacket rs gs ts ss r f at
  by_strip : {r : Reason} {at : ℕ} → Refusal K.Rules rs none → Refusal K.Goal gs none → Refusal K.Terms ts none → Refusal K.Strip ss (some (r, at)) → RefusedPacket rs gs ts ss r F.Strip at

abbrev pub PacketMeans : List ℕ → List ℕ → List ℕ → List ℕ → Outcome Packet → Type 0
PacketMeans rs gs ts ss (Outcome.sound p) = SoundPacket rs gs ts ss p
PacketMeans rs gs ts ss (Outcome.refused r f at) = RefusedPacket rs gs ts ss r f at
