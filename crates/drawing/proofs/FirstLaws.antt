-- The first option that has a proof (document 01, "Which strip the search writes"). A candidate by a loop that asks each in order: where the loop is, those before it did not do, so the first from here on is the first of all. A clause as crate provable finds it.
-- The last law of a loop, and that of the clause, ends in the contract of a function of src/first.
use Prim.Native.Nat.{ℕ, zero, suc, ◌+◌, ◌-◌, ◌%◌, ◌≤◌, ◌<◌}
use native.Mathlib.Omega.{arith}
use mathlib.Core.Path.{◌≡◌, refl, sym, ◌∙◌, ap}
use mathlib.Core.Bool.{Bool, true, false, false≢true}
use mathlib.Core.List.{List}
use mathlib.Core.Option.{Option, none, some, some-injective}
use lib.Dec.{ltb, leb}
use lib.ListN.{length, get_or}
use borrow.Author.Tests.{ltb-true, ltb-false, leb-true}
use Rattle.std.specs.Prelude.{Some, None}
use Rattle.std.specs.Prelude as std
use Rattle.basics.specs.Choice.{choose, nope}
use Rattle.harrop.specs.declared.Binding.{Binding}
use Rattle.harrop.specs.declared.Binding.TheVariants.{Candidate}
use Rattle.harrop.specs.Formula.{Term, Atom, Goal, Clause}
use Rattle.harrop.specs.Bindings.{Bindings}
use Rattle.harrop.specs.Place.{AtHand, Hand, Plain, listed}
use Rattle.sexp.specs.Sexp.{nesting}
use Rattle.packet.specs.Written.{clause_sexp}
use Rattle.room.specs.Layout.{candidates_word}
use Rattle.room.specs.Frame.{binding_of, bindings_in, bound_to}
use Rattle.room.specs.Where.{Live, plus}
use Rattle.room.specs.Files.{Files}
use Rattle.room.specs.declared.Spot.{Spot}
use Rattle.room.specs.declared.Where.{Where}
use Rattle.room.proofs.FrameLaws.{word-binding, bound-in}
use Rattle.room.proofs.WhereLaws.{file-small}
use Rattle.heads.specs.Predicate.{ClauseThere}
use Rattle.keys.specs.Keys.{AtomKeyAt, PredicateKeyAt}
use Rattle.table.specs.Slots.{numbers_of, numbers_word, words_in, Carried}
use Rattle.table.specs.Recall.{Chose}
use Rattle.table.proofs.GoodLaws.{words-alike}
use Rattle.proving.specs.Provable.{candidate_does, clause_does, serves}
use Rattle.proving.specs.Stock.{Stock, Keeps}
use Rattle.proving.specs.Proving.{Ready, Taken, Finding, PassingWith, passes_with}
use Rattle.hand.specs.Hand.{clause_in}
use Rattle.proving.specs.Parts.{PartsOf, is_plain, quantifiers}
use Rattle.proving.specs.declared.plain.Parts.{Parts}
use Rattle.proving.specs.First.{number_of}
use Rattle.proving.specs.Filling.{LocatingAt, LocatingFirst}
use Rattle.proving.proofs.StockLaws.{keeps_same, keeps_then, stock-low}
use Rattle.hand.proofs.HandLaws.{hand-is}
use Rattle.proving.proofs.ChoiceLaws.{words-length}
use Rattle.proving.proofs.RecallLaws.{chosen-here}
use Rattle.proving.proofs.AtomLaws.{numbers}
use Rattle.proving.proofs.PassingLaws.{taken-kept}
use Rattle.drawing.specs.Chosen.{first_yes, candidate_from, clause_from}
use Rattle.drawing.specs.Writing.{FirstClause, HasNumbers, FirstThrough, NumberThrough}
use Rattle.drawing.proofs.TakenLaws.{yes-here, yes-none}

-- the numbers from j on, where j is known
yes-on : (t : ℕ → Bool) (j n : ℕ) (s : Bool) → j < n → s ≡ t j → s ≡ false → first_yes t j (n - j) ≡ first_yes t (j + 1) (n - (j + 1))
yes-on t j n s l e z = yes-here t j n l ∙ ap (λ (b : Bool). choose b (some j) (first_yes t (j + 1) (n - (j + 1)))) (sym e ∙ z)

yes-at : (t : ℕ → Bool) (i j n : ℕ) (s : Bool) → j < n → s ≡ t j → s ≡ true → first_yes t j (n - j) ≡ some i → j ≡ i
yes-at t i j n s l e z f =
    some-injective j i (sym (yes-here t j n l ∙ ap (λ (b : Bool). choose b (some j) (first_yes t (j + 1) (n - (j + 1)))) (sym e ∙ z)) ∙ f)

yes-past : (t : ℕ → Bool) (i j n : ℕ) → n ≤ j → first_yes t j (n - j) ≡ some i → ◌≡◌ {A = ℕ} 0 i
yes-past t i j n l f = nope (sym (yes-none t j n l) ∙ f)

-- the number before which none does, and which does itself unless it is past the last
pub yes-skip : (t : ℕ → Bool) (n r m j : ℕ) → r ≡ j + m → r ≤ n → ((i : ℕ) → i < r → t i ≡ false) → first_yes t j (n - j) ≡ first_yes t r (n - r)
yes-skip t n r zero j e l f = ap (λ (i : ℕ). first_yes t i (n - i)) {x = j} {y = r} (omega arith)
yes-skip t n r (suc m) j e l f = yes-on t j n (t j) (omega arith) refl (f j (omega arith)) ∙ yes-skip t n r m (j + 1) (omega arith) l f

yes-nowhere : (t : ℕ → Bool) (n : ℕ) → ((j : ℕ) → j < n → t j ≡ false) → first_yes t 0 (n - 0) ≡ none
yes-nowhere t n f = yes-skip t n n n 0 (omega arith) (omega arith) f ∙ yes-none t n n (omega arith)

yes-found : (t : ℕ → Bool) (i r n : ℕ) → r ≤ n → ((j : ℕ) → j < r → t j ≡ false) → (r < n → t r ≡ true) → first_yes t 0 (n - 0) ≡ some i → r ≡ i
yes-found t i r n l f h e = go (ltb r n) refl (sym (yes-skip t n r r 0 (omega arith) l f) ∙ e)
  where
    go : (b : Bool) → ltb r n ≡ b → first_yes t r (n - r) ≡ some i → r ≡ i
    go true q u = let b = ltb-true r n q in yes-at t i r n (t r) b refl (h b) u
    go false q u = nope (sym (yes-none t r n (ltb-false r n q)) ∙ u)

-- where the loop is: what is relied on is kept, and the first of all is the first from j on
abbrev pub ThroughLeft : Files → List ℕ → Where → Spot → ℕ → ℕ → List ℕ → ℕ → Type 0
ThroughLeft f room w x nest left now j =
    (ds : List (Clause Plain)) (us : List Term) (o : List Plain) (c : Hand Plain) (bs : Bindings) (a : Atom) (q : Plain) (d : Clause Plain) (bs' : Bindings) →
    nesting (clause_sexp (Clause.all_d q d)) ≤ suc nest →
    Taken f room ds us w x left o c bs a (Clause.all_d q d) bs' →
    Keeps (Stock f ds us w.supposed c) w.supposed (x.base + x.count) room now × (candidate_from (listed us) o q (passes_with us left o c bs a d bs') 0 ≡ candidate_from (listed us) o q (passes_with us left o c bs a d bs') j)

module _ {f : Files} {room : List ℕ} {w : Where} where
  -- whether a slot has enough words, by the parts of the clause
  pub numbers-not : (at k : ℕ) → HasNumbers f room w at k false
  numbers-not at k ds us height o c bs g r y = absurd (false≢true y)

  pub numbers-none : {q : std.Option Spot} {x : Spot} {s : std.Option Parts} (at k : ℕ) → q ≡ clause_in room k w.supposed → q ≡ Some x → PartsOf f x 0 64 s → s ≡ None → HasNumbers f room w at k true
  numbers-none {x = x} at k e q parts gone ds us height o c bs g r y h there plain =
      let (h', there', b) = hand-is r.place k (Some x) (sym e ∙ q) in
      let same : h' ≡ h = some-injective h' h (sym there' ∙ there) in
      let here : ClauseThere f x h'.clause = record { stands = b.stands; shallow = omega (arith, b.shallow); small = file-small r.place.booked x.source } in
      let plain' : is_plain h'.clause ≡ true = ap (λ (z : AtHand Plain). is_plain z.clause) same ∙ plain in
      absurd (false≢true (sym (ap (λ (z : std.Option Parts). std.is_some z) gone) ∙ (parts.told h'.clause here.shallow here (omega (arith, b.shallow)) (omega arith) ∙ plain')))

  pub numbers-told : {q : std.Option Spot} {x : Spot} {s : std.Option Parts} {p : Parts} {n : ℕ} (at k : ℕ) → q ≡ clause_in room k w.supposed → q ≡ Some x → PartsOf f x 0 64 s → s ≡ Some p → n ≡ numbers_of room at → HasNumbers f room w at k (leb p.own n)
  numbers-told {x = x} {p = p} {n = n} at k e q parts got many ds us height o c bs g r y h there plain =
      let (h', there', b) = hand-is r.place k (Some x) (sym e ∙ q) in
      let same : h' ≡ h = some-injective h' h (sym there' ∙ there) in
      let here : ClauseThere f x h'.clause = record { stands = b.stands; shallow = omega (arith, b.shallow); small = file-small r.place.booked x.source } in
      let own = (parts.parts h'.clause here.shallow here (omega (arith, b.shallow)) (omega arith) p got).own in
      let l = leb-true p.own n y in
      let z : quantifiers h'.clause ≡ quantifiers h.clause = ap (λ (z : AtHand Plain). quantifiers z.clause) same in
      omega arith

-- the clause that the table has kept for this atom at this height, and the numbers of its path on top of the stack
module _ {f : Files} {room : List ℕ} {w : Where} (left : ℕ) {after : List ℕ} {height at k : ℕ} {e : Bool} (high : height ≡ plus left 1) (step : at % 16 ≡ 0) (told : Chose f room w height at (Some k)) (many : HasNumbers f room w at k e) (enough : e ≡ true) (taken : at + 16 ≤ length room → Carried room after (numbers_word room at) (numbers_of room at) w.top) where
  carried : Carried room after (numbers_word room at) (numbers_of room at) w.top
  carried = taken told.0.inside

  chosen-kept : {ds : List (Clause Plain)} {us : List Term} {o : List Plain} {c : Hand Plain} {bs : Bindings} {a : Atom} → Ready f room ds us w (suc left) o c bs (Goal.atom a) → Keeps (Stock f ds us w.supposed c) w.supposed w.top room after
  chosen-kept rd =
      record {
        words = λ i l. carried.others i (λ p q. live i l p);
        stock = stock-low carried.long (λ i l. carried.others i (λ p q. omega (arith, rd.low)));
      }
    where
      live : (i : ℕ) → Live w.supposed w.top i → w.top ≤ i → ⊥
      live i (Live.low l) p = omega (arith, l, p, rd.enough.supposed, rd.place.framed.above, rd.place.tight)
      live i (Live.high l m) p = omega arith

  pub clause-chosen : FirstClause f room after w left (Some k)
  unfolding clause_from
  clause-chosen ds us o c bs a i rd h =
      let y = chosen-here rd height at k (omega (arith, high, rd.enough.supposed)) step told in
      record { kept = chosen-kept rd; done = ap Some (yes-found (clause_does (listed us) o c (serves (listed us) left o c bs a)) i k (length c) (omega (arith, y.few)) y.before (λ l. y.here) h) }

  pub chosen-located : LocatingAt f room after w left k
  chosen-located ds us o c bs a rd h there plain =
      let y = chosen-here rd height at k (omega (arith, high, rd.enough.supposed)) step told in
      let t = told.0 in
      let ns = words_in room (numbers_word room at) (numbers_of room at) in
      let size : length ns ≡ numbers_of room at = words-length room (numbers_word room at) (numbers_of room at) in
      y.numbers bs a refl h there plain (omega (arith, many ds us (suc left) o c bs (Goal.atom a) rd enough h there plain, size)) after w.top
      (ap (λ (m : ℕ). words_in after w.top m) size
      ∙ words-alike room after (numbers_word room at) w.top (numbers_of room at) (carried.there (omega (arith, t.inside, t.first, rd.low)) (λ i j l m q. omega (arith, t.first, rd.low))))

module _ {f : Files} {room : List ℕ} {w : Where} {left : ℕ} where
  -- the clause for an atom, which crate provable finds by the numbers of the atom and of its predicate
  pub clause-found : {after : List ℕ} {predicate key : ℕ} {r : std.Option ℕ} → PredicateKeyAt f w.goal predicate → AtomKeyAt f room w.goal key → Finding f room after w predicate key left r → FirstClause f room after w left r
  unfolding clause_from
  clause-found {predicate = predicate} {key = key} {r = None} p k found ds us o c bs a i rd h =
      let (e, e') = numbers rd predicate key p k in
      let y = found ds us o c bs a rd e e' in
      record { kept = y.kept; done = nope (sym (yes-nowhere (clause_does (listed us) o c (serves (listed us) left o c bs a)) (length c) (y.none refl)) ∙ h) }
  clause-found {predicate = predicate} {key = key} {r = Some m} p k found ds us o c bs a i rd h =
      let (e, e') = numbers rd predicate key p k in
      let y = found ds us o c bs a rd e e' in
      let z = y.one m refl in
      record { kept = y.kept; done = ap Some (yes-found (clause_does (listed us) o c (serves (listed us) left o c bs a)) i m (length c) (omega (arith, z.few)) z.before (λ l. z.here) h) }

  pub clause-located : {after : List ℕ} {predicate key : ℕ} {r : std.Option ℕ} → PredicateKeyAt f w.goal predicate → AtomKeyAt f room w.goal key → LocatingFirst f room after w predicate key left r → std.MatchOption r std.⊤ (λ (n : ℕ). LocatingAt f room after w left n)
  clause-located {r = None} p k m = tt
  clause-located {predicate = predicate} {key = key} {r = Some n} p k m = λ ds us o c bs a rd.
      let (e, e') = numbers rd predicate key p k in
      m n refl ds us o c bs a rd e e'

  -- the candidates on the way into the clause of an `all`
  module _ {x : Spot} where
    pub through-start : (nest : ℕ) → ThroughLeft f room w x nest left room 0
    through-start nest ds us o c bs a q d bs' lo t = (keeps_same room, refl)

    pub through-miss : {now after : List ℕ} {s : Bool} (nest j n : ℕ) → j < n → n ≡ get_or room candidates_word 0 → ThroughLeft f room w x nest left now j → length now ≡ length room → PassingWith f now after w x j nest left s → s ≡ false → ThroughLeft f room w x nest left after (j + 1)
    unfolding candidate_from
    through-miss {now} {after} {s} nest j n l e inv k p z ds us o c bs a q d bs' lo t =
        let (kept, so) = inv ds us o c bs a q d bs' lo t in
        let m = p ds us o c bs a q d bs' lo (taken-kept t kept k) in
        let b : j < length us = omega (arith, t.ready.place.booked.candidates.counted) in
        (keeps_then room now after (omega arith) (omega arith) kept m.kept, so ∙ yes-on (candidate_does (listed us) o q (passes_with us left o c bs a d bs')) j (length us) s b m.answer z)

    pub through-hit : {now after : List ℕ} {s : Bool} (nest j n : ℕ) → j < n → n ≡ get_or room candidates_word 0 → ThroughLeft f room w x nest left now j → length now ≡ length room → PassingWith f now after w x j nest left s → s ≡ true → FirstThrough f room after w x nest left j
    unfolding candidate_from
    through-hit {now} {after} {s} nest j n l e inv k p z ds us o c bs a q d bs' i lo t h =
        let (kept, so) = inv ds us o c bs a q d bs' lo t in
        let m = p ds us o c bs a q d bs' lo (taken-kept t kept k) in
        let b : j < length us = omega (arith, t.ready.place.booked.candidates.counted) in
        record {
          kept = keeps_then room now after (omega arith) (omega arith) kept m.kept;
          done = yes-at (candidate_does (listed us) o q (passes_with us left o c bs a d bs')) i j (length us) s b m.answer z (sym so ∙ h);
        }

    pub through-none : {now : List ℕ} (nest j n : ℕ) → n ≤ j → n ≡ get_or room candidates_word 0 → ThroughLeft f room w x nest left now j → FirstThrough f room now w x nest left 0
    unfolding candidate_from
    through-none nest j n l e inv ds us o c bs a q d bs' i lo t h =
        let (kept, so) = inv ds us o c bs a q d bs' lo t in
        let b : length us ≤ j = omega (arith, t.ready.place.booked.candidates.counted) in
        record { kept = kept; done = yes-past (candidate_does (listed us) o q (passes_with us left o c bs a d bs')) i j (length us) b (sym so ∙ h) }

    -- one that stands in the room already, or that is asked for
    pub number-left : {located : Bool} {b : Binding} {r : ℕ} (nest n : ℕ) → located ≡ true → n ≡ plus x.count 1 → b ≡ bound_to (bindings_in room x.base n) 0 → r ≡ number_of b → NumberThrough f room room w x nest left located r
    number-left nest n y e h q ds us o c bs a s d bs' i lo t ch loc =
        let many : n ≡ suc x.count = omega (arith, t.framed.shallow) in
        let word = ap (λ (k : ℕ). binding_of (get_or room (x.base + k) 0)) {x = suc x.count - 1 - 0} {y = x.count} (omega arith) ∙ (ap binding_of (loc y) ∙ word-binding (Candidate i)) in
        let bound = ap (λ (k : ℕ). bound_to (bindings_in room x.base k) 0) many ∙ (bound-in room x.base (suc x.count) 0 (omega arith) ∙ word) in
        record { kept = keeps_same room; done = (q ∙ ap number_of (h ∙ bound), λ z. refl) }

    pub number-asked : {located : Bool} {after : List ℕ} {r : ℕ} (nest : ℕ) → located ≡ false → FirstThrough f room after w x nest left r → NumberThrough f room after w x nest left located r
    number-asked nest n p ds us o c bs a q d bs' i lo t ch loc =
        let m = p ds us o c bs a q d bs' i lo t ch in
        record { kept = m.kept; done = (m.done, λ z. absurd (false≢true (sym n ∙ z))) }
