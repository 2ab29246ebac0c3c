-- The root place of a packet that is read stands in the room, once its tables are filled (document 01, "When a strip fits": it starts with the goal file, the rules in
-- file order numbered from 0, and p = 0); and what the room afterwards is.
use Prim.Native.Nat.{ℕ, zero, suc, ◌+◌, ◌≤◌, ◌<◌}
use native.Mathlib.Omega.{arith}
use mathlib.Core.Path.{◌≡◌, refl, sym, ◌∙◌, ap, subst}
use mathlib.Core.Bool.{Bool, true}
use mathlib.Core.List.{List, [], ◌∷◌}
use mathlib.Core.Option.{some, some-injective}
use lib.ListN.{length, replicate, get_or, get_elem?, take}
use lib.Seq.{get_or-take}
use borrow.Author.Tests.{lt-ltb, le-ltb}
use Rattle.basics.specs.Choice.{nope, both_true}
use Rattle.harrop.specs.Formula.{Clause}
use Rattle.harrop.specs.Place.{AtHand, Plain, at_start}
use Rattle.harrop.proofs.ListLaws.{member_below}
use Rattle.sexp.specs.Sexp.{Stands}
use Rattle.sexp.proofs.StandLaws.{whole-stands}
use Rattle.packet.specs.Written.{clause_sexp}
use Rattle.packet.specs.Barred.{clause_ok, term_ok, each_ok}
use Rattle.packet.specs.File.{Books}
use Rattle.packet.specs.Sound.{SoundBooks}
use Rattle.room.specs.Layout.{words, stack, candidates_word, rules_word, rule_word}
use Rattle.room.specs.Frame.{bindings_in}
use Rattle.room.specs.Table.{RulesIn, RulesFilled, CandidatesFilled}
use Rattle.room.specs.Where.{Booked, HandIn, Means}
use Rattle.room.specs.Files.{files_of}
use Rattle.room.specs.Start.{start, Tabled, room_after}
use Rattle.room.proofs.NestLaws.{rule-nests}

-- with room enough it is cleared, and else untouched
pub cleared : (room : List ℕ) → words ≤ length room → room_after room ≡ replicate (length room) 0
unfolding room_after
cleared room l = rw (le-ltb (length room) words l) refl

pub untouched : (room : List ℕ) → length room < words → room_after room ≡ room
unfolding room_after
untouched room l = rw (lt-ltb (length room) words l) refl

-- what holds of all of a list holds of the member that a number names
each-ok : {A : Type 0} (ok : A → Bool) (xs : List A) → each_ok ok xs ≡ true → (i : ℕ) (x : A) → get_elem? xs i ≡ some x → ok x ≡ true
each-ok ok [] h i x e = nope e
each-ok {A} ok (y ∷ ys) h zero x e = subst (λ (z : A). ok z ≡ true) (some-injective y x e) (both_true (ok y) (each_ok ok ys) h).0
each-ok ok (y ∷ ys) h (suc i) x e = each-ok ok ys (both_true (ok y) (each_ok ok ys) h).1 i x e

-- the table of rules, where the words below the candidates' are as they were
rules-kept : (room after rs : List ℕ) (ds : List (Clause Plain)) → take candidates_word after ≡ take candidates_word room → RulesIn room rs ds → RulesIn after rs ds
rules-kept room after rs ds e h =
    record {
      counted = same rules_word (omega arith) ∙ h.counted;
      few = h.few;
      starts = λ k d q.
          let l = member_below ds k d q in
          let f = h.few in
          subst (λ (n : ℕ). Stands rs n (clause_sexp d)) (sym (same (rule_word k) (omega arith))) (h.starts k d q);
    }
  where
    same : (i : ℕ) → i < candidates_word → get_or after i 0 ≡ get_or room i 0
    same i l = sym (get_or-take candidates_word after i 0 l) ∙ ap (λ (x : List ℕ). get_or x i 0) e ∙ get_or-take candidates_word room i 0 l

-- both tables, filled one after the other
pub tabled : (rs ts before room after : List ℕ) → RulesFilled before room rs → CandidatesFilled room after ts → words ≤ length before → Tabled after rs ts
tabled rs ts before room after x y long =
    record {
      rules = λ ds s g. rules-kept room after rs ds y.below (x.right ds s.spelt g.few s.flat s.short long);
      terms = λ us s g. y.right us s.spelt g.few s.flat (each-ok (term_ok true 0) us g.unbarred) s.short (let l = x.long in omega arith);
    }

-- the rules at hand at the start
pub start-number : (ds : List (Clause Plain)) → length (at_start ds) ≡ length ds
start-number [] = refl
start-number (d ∷ ds) = ap suc (start-number ds)

start-rule : (ds : List (Clause Plain)) (k : ℕ) (h : AtHand Plain) → get_elem? (at_start ds) k ≡ some h → (h.bindings ≡ []) × (get_elem? ds k ≡ some h.clause)
start-rule [] k h e = nope e
start-rule (d ∷ ds) zero h e =
    let q = some-injective (record { clause = d; bindings = [] }) h e in
    (sym (ap (λ (x : AtHand Plain). x.bindings) q), ap (λ (x : AtHand Plain). some x.clause) q)
start-rule (d ∷ ds) (suc k) h e = start-rule ds k h e

-- none is supposed there
none-supposed : (ds : List (Clause Plain)) (j : ℕ) (h : AtHand Plain) → get_elem? (at_start ds) (length ds + j) ≡ some h → ⊥
none-supposed ds j h e = let b = member_below (at_start ds) (length ds + j) h e in let n = start-number ds in omega arith

module _ {rs gs ts room : List ℕ} (b : Books) (s : SoundBooks rs gs ts b) (t : Tabled room rs ts) where
  booked : Booked (files_of rs gs ts) room b.rules b.candidates
  booked =
      record {
        rules = t.rules b.rules s.rules s.good_rules;
        shallow = λ k d e. let n = rule-nests b.rules k d e in let f = s.rules.flat in omega arith;
        scoped = each-ok (clause_ok 0) b.rules s.good_rules.unbarred;
        candidates = t.terms b.candidates s.terms s.good_candidates;
        rules-small = s.rules.short;
        goal-small = s.goal.short;
        terms-small = s.terms.short;
      }

  at-hand : HandIn (files_of rs gs ts) room b.rules 0 stack (at_start b.rules)
  at-hand =
      record {
        number = let n = start-number b.rules in omega arith;
        rule = λ k h l e. start-rule b.rules k h e;
        suppose = λ j h e. absurd (none-supposed b.rules j h e);
        scoped = λ j h e. absurd (none-supposed b.rules j h e);
      }

  pub root-means : Means (files_of rs gs ts) room b.rules b.candidates start [] (at_start b.rules) [] b.goal
  unfolding bindings_in
  root-means =
      record {
        booked = booked;
        framed =
            record {
              stands = whole-stands s.goal.spelt;
              above = omega arith;
              below = omega arith;
              holds = refl;
              shallow = let f = s.goal.flat in omega arith;
            };
        scoped = s.good_goal;
        tight = refl;
        openly = refl;
        hand = at-hand;
      }
