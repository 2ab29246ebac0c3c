-- A place is what it was as long as the words it relies on are: kept over pushes, parts and what is done above it.
use Prim.Native.Nat.{ℕ, ◌+◌, ◌≤◌, ◌<◌}
use native.Mathlib.Omega.{arith}
use mathlib.Core.Path.{◌≡◌, sym, ◌∙◌, ap, subst}
use mathlib.Core.Bool.{true}
use mathlib.Core.List.{List}
use lib.Dec.{ltb}
use lib.ListN.{length, set}
use lib.Seq.{get_or-set_other}
use Rattle.basics.specs.Choice.{choose}
use Rattle.harrop.specs.Formula.{Term, Goal, Clause}
use Rattle.harrop.specs.Bindings.{Bindings}
use Rattle.harrop.specs.Place.{Hand, Plain}
use Rattle.harrop.proofs.ListLaws.{member_below}
use Rattle.sexp.specs.Sexp.{Sexp, Stands, nesting}
use Rattle.sexp.proofs.StandLaws.{stands-inside}
use Rattle.packet.specs.Written.{goal_sexp, clause_sexp, term_sexp}
use Rattle.packet.specs.Barred.{goal_ok}
use Rattle.packet.specs.File.{most_bytes}
use Rattle.room.specs.Layout.{rules_word, rule_word, candidates_word, candidate_word, highest_word, supposed_word, supposed_at_most, stack}
use Rattle.room.specs.Spot.{source_of, supposed_in, nowhere}
use Rattle.room.specs.Files.{Files, file_of}
use Rattle.room.specs.Where.{Live, Kept, Framed, HandIn, Booked, Means, plus, within}
use Rattle.room.specs.declared.Source.{Source}
use Rattle.room.specs.declared.Source.TheVariants as S
use Rattle.room.specs.declared.Spot.{Spot}
use Rattle.room.specs.declared.Where.{Where}
use Rattle.room.proofs.FrameLaws.{frames-alike}
use Rattle.room.proofs.FileLaws.{spot-alike}

-- what a place with fewer supposed clauses and a lower top relies on, one with more relies on too
pub live_more : {s s' t t' i : ℕ} → s ≤ s' → t ≤ t' → Live s t i → Live s' t' i
live_more a b (Live.low h) = Live.low (omega arith)
live_more a b (Live.high h k) = Live.high h (omega arith)

pub kept_then : {s s' t t' : ℕ} (a b c : List ℕ) → s ≤ s' → t ≤ t' → Kept s t a b → Kept s' t' b c → Kept s t a c
kept_then a b c p q x y i l = y i (live_more p q l) ∙ x i l

pub kept_less : {s s' t t' : ℕ} (a b : List ℕ) → s ≤ s' → t ≤ t' → Kept s' t' a b → Kept s t a b
kept_less a b p q x i l = x i (live_more p q l)

-- a formula whose words are as they were
pub framed_kept : {f : Files} {room after : List ℕ} {x : Spot} {top s t : ℕ} {e : Sexp} {bs : Bindings} → top ≤ t → Kept s t room after → Framed f room x top e bs → Framed f after x top e bs
framed_kept {room = room} {after = after} {x = x} l k h =
    record {
      stands = h.stands;
      above = h.above;
      below = h.below;
      holds = frames-alike after room x.base x.base x.count (λ i p. k (x.base + i) (Live.high (omega (arith, h.above)) (omega (arith, h.below)))) ∙ h.holds;
      shallow = h.shallow;
    }

-- the spot of a supposed clause, where its four words are as they were
supposed-kept : (room after : List ℕ) (s t j : ℕ) → j < s → Kept s t room after → supposed_in after j ≡ supposed_in room j
unfolding supposed_in
supposed-kept room after s t j l k =
    ap (λ (x : Spot). choose (ltb j supposed_at_most) x nowhere)
    (spot-alike (ap source_of (k (supposed_word j) (Live.low (omega arith)))) (k (supposed_word j + 1) (Live.low (omega arith))) (k (supposed_word j + 2) (Live.low (omega arith))) (k (supposed_word j + 3) (Live.low (omega arith))))

pub hand-kept : {f : Files} {room after : List ℕ} {ds : List (Clause Plain)} {supposed top : ℕ} {c : Hand Plain} → Kept supposed top room after → HandIn f room ds supposed top c → HandIn f after ds supposed top c
hand-kept {f} {room} {after} {ds} {supposed} {top} {c} k h =
    record {
      number = h.number;
      rule = h.rule;
      scoped = h.scoped;
      suppose = λ j d q.
          let b = member_below c (length ds + j) d q in
          let e = supposed-kept room after supposed top j (omega (arith, h.number)) k in
          subst (λ (x : Spot). Framed f after x top (clause_sexp d.clause) d.bindings) (sym e) (framed_kept {t = top} (omega arith) k (h.suppose j d q));
    }

-- the tables of rules and candidates lie below the supposed clauses
pub booked-kept : {f : Files} {room after : List ℕ} {ds : List (Clause Plain)} {us : List Term} {s t : ℕ} → Kept s t room after → Booked f room ds us → Booked f after ds us
booked-kept {f} {room} {after} {ds} {us} k b =
    record {
      rules =
          record {
            counted = k rules_word (Live.low (omega arith)) ∙ b.rules.counted;
            few = b.rules.few;
            starts = λ i d q.
                let l = member_below ds i d q in
                subst (λ (n : ℕ). Stands f.rules n (clause_sexp d)) (sym (k (rule_word i) (Live.low (omega (arith, b.rules.few))))) (b.rules.starts i d q);
          };
      shallow = b.shallow;
      scoped = b.scoped;
      candidates =
          record {
            counted = k candidates_word (Live.low (omega arith)) ∙ b.candidates.counted;
            few = b.candidates.few;
            starts = λ i t q.
                let l = member_below us i t q in
                subst (λ (n : ℕ). Stands f.terms n (term_sexp t)) (sym (k (candidate_word i) (Live.low (omega (arith, b.candidates.few))))) (b.candidates.starts i t q);
            highests = λ i t q.
                let l = member_below us i t q in
                k (highest_word i) (Live.low (omega (arith, b.candidates.few))) ∙ b.candidates.highests i t q;
            closed = b.candidates.closed;
            shallow = b.candidates.shallow;
          };
      rules-small = b.rules-small;
      goal-small = b.goal-small;
      terms-small = b.terms-small;
    }

-- a place whose words are as they were means what it meant
pub means-kept : {f : Files} {room after : List ℕ} {ds : List (Clause Plain)} {us : List Term} {w : Where} {o : List Plain} {c : Hand Plain} {bs : Bindings} {g : Goal Plain} → Kept w.supposed w.top room after → Means f room ds us w o c bs g → Means f after ds us w o c bs g
means-kept {w = w} k m =
    record {
      booked = booked-kept k m.booked;
      framed = framed_kept {t = w.top} (omega arith) k m.framed;
      scoped = m.scoped;
      tight = m.tight;
      openly = m.openly;
      hand = hand-kept k m.hand;
    }

-- no file is longer than its size
pub file-small : {f : Files} {room : List ℕ} {ds : List (Clause Plain)} {us : List Term} → Booked f room ds us → (x : Source) → length (file_of f x) ≤ most_bytes
file-small b S.Rules = b.rules-small
file-small b S.Goal = b.goal-small
file-small b S.Terms = b.terms-small

-- an offset inside a file is far below the largest word
pub plus-inside : (s : List ℕ) (a n : ℕ) {e : Sexp} → length s ≤ most_bytes → Stands s (a + n) e → plus a n ≡ a + n
plus-inside s a n l h = let i = stands-inside h in omega arith

module _ {f : Files} {room : List ℕ} {ds : List (Clause Plain)} {us : List Term} {w : Where} {o : List Plain} {c : Hand Plain} {bs : Bindings} {g : Goal Plain} (m : Means f room ds us w o c bs g) where
  -- the goal's file
  abbrev pub file : List ℕ
  file = file_of f w.goal.source

  -- the place of a part of the goal
  pub part-means : (n : ℕ) (g' : Goal Plain) → Stands file (w.goal.at + n) (goal_sexp g') → nesting (goal_sexp g') ≤ nesting (goal_sexp g) → goal_ok (length bs) g' ≡ true → Means f room ds us (within w n) o c bs g'
  part-means n g' h l ok =
      record {
        booked = m.booked;
        framed =
            record {
              stands = subst (λ (i : ℕ). Stands file i (goal_sexp g')) (sym (plus-inside file w.goal.at n (file-small m.booked w.goal.source) h)) h;
              above = m.framed.above;
              below = m.framed.below;
              holds = m.framed.holds;
              shallow = omega (arith, m.framed.shallow);
            };
        scoped = ok;
        tight = m.tight;
        openly = m.openly;
        hand = m.hand;
      }

-- a word put on top of the stack is none that the place relies on
pub push-keeps : (room : List ℕ) (supposed top v : ℕ) → supposed ≤ 63 → stack ≤ top → Kept supposed top room (set room top v)
push-keeps room supposed top v l h i (Live.low k) = get_or-set_other room top i v 0 (λ e. omega arith)
push-keeps room supposed top v l h i (Live.high k k') = get_or-set_other room top i v 0 (λ e. omega arith)
