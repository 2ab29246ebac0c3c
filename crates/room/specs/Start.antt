-- How the room stands when a walk starts and how it is left (document 01, "When a strip fits": a place starts with the goal file, the rules in file order numbered from 0, and p = 0; "What comes back": work room is zero on return in all cases but 11).
-- Checker and search both start so and end so.
use Rattle.std.specs.Prelude.{ℕ, List, ltb, length, replicate}
use Rattle.basics.specs.Choice.{choose}
use Rattle.basics.specs.Each.{Each}
use Rattle.harrop.specs.Formula.{Term, Clause}
use Rattle.harrop.specs.Place.{Plain}
use Rattle.packet.specs.Written.{rules_sexp, terms_sexp}
use Rattle.packet.specs.Spells.{ClauseWords, TermWords}
use Rattle.packet.specs.Sound.{SoundFile, GoodRules, GoodCandidates}
use Rattle.room.specs.Layout.{words, stack}
use Rattle.room.specs.Table.{RulesIn, CandidatesIn}
use Rattle.room.specs.declared.Source.TheVariants as S
use Rattle.room.specs.declared.Where.{Where}

-- the root place, with the goal file's goal, no clause supposed, no parameter open and an empty stack
abbrev pub start : Where
start = record { goal = record { source = S.Goal; at = 0; base = stack; count = 0 }; supposed = 0; parameters = 0; top = stack }

-- the tables are right, if rules and terms are files that document 01 lets pass
pub record Tabled (room rs ts : List ℕ) : Type 0 where
  pub rules : (ds : List (Clause Plain)) → SoundFile rules_sexp (Each ClauseWords) rs ds → GoodRules ds → RulesIn room rs ds
  pub terms : (us : List Term) → SoundFile terms_sexp (Each TermWords) ts us → GoodCandidates us → CandidatesIn room ts us

-- the room afterwards: as it came under 11, else all zero
unfoldable pub room_after : List ℕ → List ℕ
room_after room = choose (ltb (length room) words) room (replicate (length room) 0)
