-- From a place that is ready for a search to the places of its parts, with one less of the height, and back after a call (document 01, "When a strip fits"; "the height left falls at each turn").
use Prim.Native.Nat.{ℕ, suc, ◌+◌, ◌≤◌, ◌<◌}
use native.Mathlib.Omega.{arith}
use mathlib.Core.Path.{◌≡◌, refl, sym, ◌∙◌, ap}
use mathlib.Core.Bool.{Bool, true, false, ◌&&◌}
use mathlib.Core.List.{List, [], ◌∷◌, ◌++◌}
use mathlib.Core.Option.{Option, none, some}
use lib.Dec.{ltb, leb}
use lib.ListN.{length, get_or, get_elem?, set, length-set}
use lib.Seq.{length-sets}
use borrow.Author.Tests.{ltb-true, ltb-false, lt-ltb, le-ltb}
use Rattle.basics.specs.Choice.{nope}
use Rattle.harrop.specs.declared.Binding.TheVariants.{Candidate, Parameter}
use Rattle.harrop.specs.Formula.{Term, Goal, Clause}
use Rattle.harrop.specs.Bindings.{Bindings, highest}
use Rattle.harrop.specs.Place.{Hand, Plain, listed, allowed}
use Rattle.harrop.proofs.ListLaws.{member_below, below-member}
use Rattle.sexp.specs.Sexp.{Stands, nesting}
use Rattle.packet.specs.Written.{goal_sexp, clause_sexp}
use Rattle.packet.specs.Barred.{goal_ok, clause_ok}
use Rattle.room.specs.Layout.{words, candidates_word, highest_word, supposed_word, supposed_at_most}
use Rattle.room.specs.Frame.{binding_word, held}
use Rattle.room.specs.Spot.{spot_words, supposing}
use Rattle.room.specs.Table.{CandidatesIn}
use Rattle.room.specs.Where.{plus, further, within, bound, supposes}
use Rattle.room.specs.Files.{Files}
use Rattle.room.specs.declared.Where.{Where}
use Rattle.room.proofs.FileLaws.{supposing-some}
use Rattle.room.proofs.WhereLaws.{file, part-means, means-kept, kept_then}
use Rattle.room.proofs.MoveLaws.{bound-means, supposes-means, suppose-keeps}
use Rattle.table.specs.Recall.{TableOnly, Forgets}
use Rattle.proving.specs.Stock.{Stock, Keeps}
use Rattle.proving.specs.Proving.{Ready}
use Rattle.proving.proofs.StockLaws.{kept-below, stock-set, stock-under, stock-back}

-- whether a candidate may be used, by the room's table
pub may-be : (room terms : List ℕ) (us : List Term) (o : List Plain) (q : Plain) (i p : ℕ) → CandidatesIn room terms us → length o ≡ p → (ltb i (get_or room candidates_word 0) && leb (get_or room (highest_word i) 0) p) ≡ allowed (listed us) o q i
may-be room terms us o q i p cs op = go (get_elem? us i) refl
  where
    beyond : (t : Bool) → ltb i (length us) ≡ t → get_elem? us i ≡ none → length us ≤ i
    beyond true e n = let (t, m) = below-member us i (ltb-true i (length us) e) in nope (sym n ∙ m)
    beyond false e n = ltb-false i (length us) e

    and-true : (t : Bool) → t ≡ t && true
    and-true true = refl
    and-true false = refl

    go : (m : Option Term) → get_elem? us i ≡ m → (ltb i (get_or room candidates_word 0) && leb (get_or room (highest_word i) 0) p) ≡ elim m as (λ x. Bool) [ none ↦ false | some t ↦ leb (highest t) (length o) && true ]
    go none e = ap (λ (t : Bool). t && leb (get_or room (highest_word i) 0) p) (le-ltb i (get_or room candidates_word 0) (omega (arith, cs.counted, beyond (ltb i (length us)) refl e)))
    go (some t) e =
        ap (λ (b : Bool). b && leb (get_or room (highest_word i) 0) p) (lt-ltb i (get_or room candidates_word 0) (omega (arith, cs.counted, member_below us i t e)))
        ∙ (ap (λ (n : ℕ). leb n p) (cs.highests i t e) ∙ (ap (leb (highest t)) (sym op) ∙ and-true (leb (highest t) (length o))))

pub allowed-below : (us : List Term) (o : List Plain) (q : Plain) (i : ℕ) → allowed (listed us) o q i ≡ true → i < length us
allowed-below us o q i = go (get_elem? us i) refl
  where
    go : (m : Option Term) → get_elem? us i ≡ m → elim m as (λ x. Bool) [ none ↦ false | some t ↦ leb (highest t) (length o) && true ] ≡ true → i < length us
    go none e f = absurd (false-true f)
      where
        false-true : false ≡ true → ⊥
        false-true g = let z : ◌≡◌ {A = ℕ} 0 1 = cc in absurd (omega arith)
    go (some t) e f = member_below us i t e

module _ {f : Files} {room : List ℕ} {ds : List (Clause Plain)} {us : List Term} {w : Where} {o : List Plain} {c : Hand Plain} {bs : Bindings} where
  -- a place whose words are as they were, and what is kept beside the stack is right still
  pub ready-kept : {height : ℕ} {g : Goal Plain} {after : List ℕ} → Keeps (Stock f ds us w.supposed c) w.supposed w.top room after → length after ≡ length room → Ready f room ds us w height o c bs g → Ready f after ds us w height o c bs g
  ready-kept k e r = record { place = means-kept k.words r.place; enough = r.enough; long = omega (arith, r.long); low = r.low; stock = k.stock r.stock }

  module _ {left : ℕ} {g : Goal Plain} (r : Ready f room ds us w (suc left) o c bs g) where
    -- a part of the goal
    pub ready-part : (n : ℕ) (g' : Goal Plain) → Stands (file r.place) (w.goal.at + n) (goal_sexp g') → nesting (goal_sexp g') ≤ nesting (goal_sexp g) → goal_ok (length bs) g' ≡ true → Ready f room ds us (within w n) left o c bs g'
    ready-part n g' h l ok =
        record {
          place = part-means r.place n g' h l ok;
          enough =
              record {
                bindings = omega (arith, r.enough.bindings);
                supposed = omega (arith, r.enough.supposed);
                opened = omega (arith, r.enough.opened);
              };
          long = r.long;
          low = omega (arith, r.low);
          stock = r.stock;
        }

    -- with a candidate for its variable
    pub ready_with : (n i : ℕ) (g' : Goal Plain) → Stands (file r.place) (w.goal.at + n) (goal_sexp g') → nesting (goal_sexp g') + 1 ≤ nesting (goal_sexp g) → goal_ok (suc (length bs)) g' ≡ true → i < length us → Ready f (set room w.top (held (binding_word (Candidate i)))) ds us (bound w n w.parameters) left o c (Candidate i ∷ bs) g'
    ready_with n i g' h l ok b =
        record {
          place = bound-means r.place (Candidate i) n w.parameters o g' h l ok (omega (arith, r.place.booked.candidates.few)) (omega (arith, r.enough.bindings, r.long)) (omega (arith, r.enough.bindings)) (omega (arith, r.enough.supposed)) r.place.openly;
          enough =
              record {
                bindings = omega (arith, r.enough.bindings);
                supposed = omega (arith, r.enough.supposed);
                opened = omega (arith, r.enough.opened);
              };
          long = omega (arith, r.long, length-set room w.top (held (binding_word (Candidate i))));
          low = omega (arith, r.low);
          stock = stock-set w.top (held (binding_word (Candidate i))) (omega (arith, r.low)) r.stock;
        }

    -- with one more parameter for it
    pub ready-all : (n p : ℕ) (q : Plain) (g' : Goal Plain) → p ≡ w.parameters + 1 → Stands (file r.place) (w.goal.at + n) (goal_sexp g') → nesting (goal_sexp g') + 1 ≤ nesting (goal_sexp g) → goal_ok (suc (length bs)) g' ≡ true → Ready f (set room w.top (held (binding_word (Parameter p)))) ds us (bound w n p) left (q ∷ o) c (Parameter p ∷ bs) g'
    ready-all n p q g' e h l ok =
        record {
          place = bound-means r.place (Parameter p) n p (q ∷ o) g' h l ok (omega (arith, r.enough.opened)) (omega (arith, r.enough.bindings, r.long)) (omega (arith, r.enough.bindings)) (omega (arith, r.enough.supposed)) (omega (arith, r.place.openly));
          enough =
              record {
                bindings = omega (arith, r.enough.bindings);
                supposed = omega (arith, r.enough.supposed);
                opened = omega (arith, r.enough.opened);
              };
          long = omega (arith, r.long, length-set room w.top (held (binding_word (Parameter p))));
          low = omega (arith, r.low);
          stock = stock-set w.top (held (binding_word (Parameter p))) (omega (arith, r.low)) r.stock;
        }

    -- under a clause, where what was found under another in its place is forgotten; the part has a height, so there is room for the clause
    pub ready-under : {after : List ℕ} (k n : ℕ) (d : Clause Plain) (g' : Goal Plain) → (left ≡ 0 → ⊥) → Stands (file r.place) (w.goal.at + k) (clause_sexp d) → nesting (clause_sexp d) ≤ nesting (goal_sexp g) → clause_ok (length bs) d ≡ true → Stands (file r.place) (w.goal.at + n) (goal_sexp g') → nesting (goal_sexp g') ≤ nesting (goal_sexp g) → goal_ok (length bs) g' ≡ true
        → TableOnly (supposing room w.supposed (further w.goal k)) after → Forgets (supposing room w.supposed (further w.goal k)) after (plus w.supposed 1)
        → Ready f after ds us (supposes w n) left o (c ++ (record { clause = d; bindings = bs } ∷ [])) bs g'
    ready-under {after} k n d g' z hd ld okd hg lg ok only gone =
        let few : w.supposed < supposed_at_most = omega (arith, r.enough.supposed) in
        let low : w.top ≤ words = omega (arith, r.enough.bindings) in
        let e = ap length (supposing-some room w.supposed (further w.goal k) few) ∙ length-sets room (supposed_word w.supposed) (spot_words (further w.goal k)) in
        record {
          place = means-kept (kept-below (omega arith) (omega (arith, r.low)) only) (supposes-means r.place k n d g' hd ld okd hg lg ok few low r.long);
          enough =
              record {
                bindings = omega (arith, r.enough.bindings);
                supposed = omega (arith, r.enough.supposed);
                opened = omega (arith, r.enough.opened);
              };
          long = omega (arith, r.long, e, only.long);
          low = omega (arith, r.low);
          stock = stock-under (plus w.supposed 1) (further w.goal k) (record { clause = d; bindings = bs } ∷ []) (omega arith) few r.place.hand.number r.place.booked only gone r.stock;
        }

    -- and what a call under it keeps, the place keeps
    pub under-keeps : {mid after : List ℕ} (k : ℕ) (xs : Hand Plain) → (left ≡ 0 → ⊥) → TableOnly (supposing room w.supposed (further w.goal k)) mid → Forgets (supposing room w.supposed (further w.goal k)) mid (plus w.supposed 1)
        → Keeps (Stock f ds us (plus w.supposed 1) (c ++ xs)) (plus w.supposed 1) w.top mid after → Keeps (Stock f ds us w.supposed c) w.supposed w.top room after
    under-keeps {mid} {after} k xs z only gone x =
        let few : w.supposed < supposed_at_most = omega (arith, r.enough.supposed) in
        let y = further w.goal k in
        let n = r.place.hand.number in
        record {
          words =
              kept_then {s' = w.supposed} {t' = w.top} room (supposing room w.supposed y) after (omega arith) (omega arith) (suppose-keeps room w.supposed w.top y few)
              (kept_then {s' = plus w.supposed 1} {t' = w.top} (supposing room w.supposed y) mid after (omega arith) (omega arith) (kept-below (omega arith) (omega (arith, r.low)) only) x.words);
          stock = λ s. stock-back (plus w.supposed 1) xs (omega arith) (omega arith) (x.stock (stock-under (plus w.supposed 1) y xs (omega arith) few n r.place.booked only gone s));
        }
