-- An atom by the numbers of the rules, by the table and by the clauses at hand (document 02, Three; document 01, "Which strip the search writes": for an atom, clauses by number): what they say of it, and that what its place relies on is kept.
-- Each law ends in the contract of a function of crate provable, src/provable.
use Prim.Native.Nat.{ℕ, suc, ◌+◌, ◌-◌, ◌%◌, ◌≤◌, ◌<◌}
use native.Mathlib.Omega.{arith}
use mathlib.Core.Path.{◌≡◌, refl, sym, ◌∙◌, ap, subst}
use mathlib.Core.Bool.{Bool, true, false}
use mathlib.Core.List.{List}
use lib.Dec.{ltb, eqb}
use lib.ListN.{length, get_or}
use borrow.Author.Tests.{ltb-true, ltb-false, eqb-true, eqb-false}
use Rattle.std.specs.Prelude.{Option, Some, None}
use Rattle.std.proofs.lemmas.Option.{none-some, same_Some}
use Rattle.harrop.specs.Formula.{Term, Atom, Goal, Clause}
use Rattle.harrop.specs.Bindings.{Bindings, replaced_atom}
use Rattle.harrop.specs.Place.{Hand, Plain, listed}
use Rattle.packet.specs.declared.Word.TheVariants as W
use Rattle.room.specs.Layout.{rules_word}
use Rattle.room.specs.Where.{plus}
use Rattle.room.specs.Files.{Files}
use Rattle.room.specs.declared.Where.{Where}
use Rattle.equal.proofs.AtomLaws.{atom-at}
use Rattle.heads.proofs.HeadLaws.{goal-is}
use Rattle.keys.specs.Key.{atom_key, predicate_key}
use Rattle.keys.specs.Keys.{PredicateKeyAt, AtomKeyAt, NextClause}
use Rattle.table.specs.Slots.{words_in}
use Rattle.table.specs.Recall.{Says, Recalls, TableOnly}
use Rattle.table.specs.Recall as table
use Rattle.proving.specs.Provable as spec
use Rattle.proving.specs.Hand.{RuleNumber}
use Rattle.proving.specs.Stock.{Chooses, Stock, Keeps}
use Rattle.proving.specs.Proving.{Ready, ProvingAs, ProvingBy, FirstOf, Finding, Deciding}
use Rattle.proving.specs.Filling.{LocatingFirst}
use Rattle.proving.proofs.WalkLaws.{any-no}
use Rattle.proving.proofs.TruthLaws.{passed_over}
use Rattle.proving.proofs.ChoiceLaws.{chooses}
use Rattle.proving.proofs.StockLaws.{keeps_same, keeps_then}
use Rattle.proving.proofs.ReadyLaws.{ready-kept}
use Rattle.proving.proofs.RecallLaws.{recalled-so, keeps_entry}
use Rattle.proving.proofs.ProvingLaws.{Claim}
use Rattle.proving.proofs.FillingLaws.{any_of}

-- an atom has a proof exactly if a clause serves it
module _ (us : List Term) (left : ℕ) (o : List Plain) (c : Hand Plain) (bs : Bindings) (a : Atom) where
  abbrev does : ℕ → Bool
  does = spec.clause_does (listed us) o c (spec.serves (listed us) left o c bs a)

  none-does : ((j : ℕ) → j < length c → does j ≡ false) → spec.provable (listed us) (suc left) o c bs (Goal.atom a) ≡ false
  unfolding spec.provable spec.clauses_from
  none-does h = any-no does 0 (length c - 0) (λ j l m. h j (omega arith))

  one-does : (k : ℕ) → k < length c → does k ≡ true → spec.provable (listed us) (suc left) o c bs (Goal.atom a) ≡ true
  unfolding spec.provable spec.clauses_from
  one-does k l e = any_of does 0 (length c - 0) k (omega arith) (omega arith) e

-- the numbers up to one, one more, and those up to another
before-next : (g : ℕ → Bool) (k n : ℕ) → ((j : ℕ) → j < k → g j ≡ false) → g k ≡ false → ((j : ℕ) → k + 1 ≤ j → j < n → g j ≡ false) → (j : ℕ) → j < n → g j ≡ false
before-next g k n early here late j l = go (ltb j k) refl (eqb j k) refl
  where
    go : (t : Bool) → ltb j k ≡ t → (u : Bool) → eqb j k ≡ u → g j ≡ false
    go true e u z = early j (ltb-true j k e)
    go false e true z = ap g (eqb-true j k z) ∙ here
    go false e false z =
        let p = ltb-false j k e in
        let q = eqb-false j k z in
        late j (omega arith) l

module _ {f : Files} {room : List ℕ} {ds : List (Clause Plain)} {us : List Term} {w : Where} {left : ℕ} {o : List Plain} {c : Hand Plain} {bs : Bindings} {a : Atom} (r : Ready f room ds us w (suc left) o c bs (Goal.atom a)) where
  -- how many clauses are at hand
  pub at-hand : plus (get_or room rules_word 0) w.supposed ≡ length c
  at-hand = omega (arith, r.place.booked.rules.counted, r.place.booked.rules.few, r.place.hand.number, r.enough.supposed)

  -- the atom's numbers
  pub numbers : (predicate key : ℕ) → PredicateKeyAt f w.goal predicate → AtomKeyAt f room w.goal key → (predicate ≡ predicate_key a) × (key ≡ atom_key (replaced_atom us bs a))
  numbers predicate key p k =
      let x = r.place.framed in (
        p a (record { stands = x.stands; shallow = omega (arith, x.shallow) }),
        k us a r.place.booked.candidates r.stock.keys.candidates (atom-at a x r.place.scoped) ∙ ap (λ (y : Bindings). atom_key (replaced_atom us y a)) x.holds,
      )

-- the number of a rule fits a word
small : (room : List ℕ) (k number : ℕ) → get_or room rules_word 0 ≤ 256 → RuleNumber room k number → number ≤ 4294967295
small room k number l rule = go (ltb 0 number) refl
  where
    go : (b : Bool) → ltb 0 number ≡ b → number ≤ 4294967295
    go true e = let (m, q) = rule (ltb-true 0 number e) in omega arith
    go false e = let z = ltb-false 0 number e in omega arith

-- where the loop over clauses is: what the place relies on is kept, and none before clause k serves the atom
abbrev pub FindLeft : Files → List ℕ → Where → ℕ → ℕ → ℕ → List ℕ → ℕ → Type 0
FindLeft f room w predicate key left now k =
    (ds : List (Clause Plain)) (us : List Term) (o : List Plain) (c : Hand Plain) (bs : Bindings) (a : Atom) →
    Ready f room ds us w (suc left) o c bs (Goal.atom a) →
    predicate ≡ predicate_key a → key ≡ atom_key (replaced_atom us bs a) →
    Keeps (Stock f ds us w.supposed c) w.supposed w.top room now × ((j : ℕ) → j < k → does us left o c bs a j ≡ false)

module _ {f : Files} {room : List ℕ} {w : Where} {left predicate key : ℕ} where
  -- the clauses one after the other, but those that are passed over
  pub find-start : {n k : ℕ} → NextClause room predicate key 0 n k → FindLeft f room w predicate key left room k
  find-start h ds us o c bs a r e e' = (keeps_same room, λ j l. passed_over r e e' h j (omega arith) l)

  pub find-miss : {now after : List ℕ} {s : Bool} {n m : ℕ} (k : ℕ) → FindLeft f room w predicate key left now k → length now ≡ length room → length after ≡ length room → ProvingBy f now after w k left s → s ≡ false → NextClause after predicate key (k + 1) n m → FindLeft f room w predicate key left after m
  find-miss {now} {after} {m = m} k inv l l' p z h ds us o c bs a r e e' =
      let (kept, early) = inv ds us o c bs a r e e' in
      let y = p ds us o c bs a (ready-kept kept l r) in
      let kept' = keeps_then room now after (omega arith) (omega arith) kept y.kept in
      let r' = ready-kept kept' l' r in
      (kept', before-next (does us left o c bs a) k m early (sym y.answer ∙ z) (passed_over r' e e' h))

  pub find-hit : {now after : List ℕ} {s : Bool} (k n : ℕ) → k < n → n ≡ plus (get_or room rules_word 0) w.supposed → FindLeft f room w predicate key left now k → length now ≡ length room → ProvingBy f now after w k left s → s ≡ true → Finding f room after w predicate key left (Some k)
  find-hit {now} {after} k n b q inv l p z ds us o c bs a r e e' =
      let (kept, early) = inv ds us o c bs a r e e' in
      let y = p ds us o c bs a (ready-kept kept l r) in
      record {
        kept = keeps_then room now after (omega arith) (omega arith) kept y.kept;
        one = λ m g. subst (FirstOf (length c) (does us left o c bs a)) (same_Some k m g) (record { few = omega (arith, at-hand r); before = early; here = sym y.answer ∙ z });
        none = λ g. absurd (none-some k (sym g));
      }

  pub find-done : {now : List ℕ} (k n : ℕ) → n ≤ k → n ≡ plus (get_or room rules_word 0) w.supposed → FindLeft f room w predicate key left now k → Finding f room now w predicate key left None
  find-done k n b q inv ds us o c bs a r e e' =
      let (kept, early) = inv ds us o c bs a r e e' in
      record { kept = kept; one = λ m g. absurd (none-some m g); none = λ g j l. early j (omega (arith, at-hand r)) }

  -- what was found decides, and may be kept
  pub decide-none : {mid after : List ℕ} {s : Option ℕ} {height : ℕ} (at : ℕ) → Finding f room mid w predicate key left s → s ≡ None → length mid ≡ length room → height ≡ plus left 1 → TableOnly mid after → table.Keeps f mid after w height at false 0 → Deciding f room after w predicate key at left false
  decide-none {mid} {after} {height = height} at p gone l e only kp ds us o c bs a r n n' z =
      let x = p ds us o c bs a r n n' in
      let r' = ready-kept x.kept l r in
      let so = none-does us left o c bs a (x.none gone) in
      record { kept = keeps_then room mid after (omega arith) (omega arith) x.kept (keeps_entry r' height at 0 (omega (arith, r.enough.supposed)) z so (omega arith) (λ y l. absurd (omega arith)) only kp); answer = sym so }

  pub decide-fact : {mid : List ℕ} {s : Option ℕ} {k : ℕ} (at : ℕ) → Finding f room mid w predicate key left s → s ≡ Some k → Deciding f room mid w predicate key at left true
  decide-fact {k = k} at p q ds us o c bs a r n n' z =
      let x = p ds us o c bs a r n n' in
      let m = x.one k q in
      record { kept = x.kept; answer = sym (one-does us left o c bs a k m.few m.here) }

  pub decide-some : {mid after : List ℕ} {s : Option ℕ} {k height number : ℕ} (at : ℕ) → Finding f room mid w predicate key left s → LocatingFirst f room mid w predicate key left s → s ≡ Some k → length mid ≡ length room → height ≡ plus left 1 → RuleNumber mid k number → TableOnly mid after → table.Keeps f mid after w height at true number → Deciding f room after w predicate key at left true
  decide-some {mid} {after} {k = k} {height = height} {number = number} at p located q l e rule only kp ds us o c bs a r n n' z =
      let x = p ds us o c bs a r n n' in
      let r' = ready-kept x.kept l r in
      let m = x.one k q in
      let so = one-does us left o c bs a k m.few m.here in
      let counted = r'.place.booked.rules.counted in
      let by : 0 < number → (i : ℕ) → Chooses us left o c (replaced_atom us bs a) (number - 1) (words_in mid w.top i) = λ y i.
      subst (λ (j : ℕ). Chooses us left o c (replaced_atom us bs a) j (words_in mid w.top i)) {x = k} {y = number - 1} (omega (arith, (rule y).1))
      (chooses mid w.top k i m.few (λ h there. (r'.place.hand.rule k h (omega (arith, (rule y).0)) there).0) m.before m.here (located k q ds us o c bs a r n n')) in
      record { kept = keeps_then room mid after (omega arith) (omega arith) x.kept (keeps_entry r' height at number (omega (arith, r.enough.supposed)) z so (small mid k number (omega (arith, counted, r'.place.booked.rules.few)) rule) (λ y. by) only kp); answer = sym so }

  -- an atom that no clause can serve, and one that is decided
  pub atom-barred : (n k : ℕ) → PredicateKeyAt f w.goal predicate → AtomKeyAt f room w.goal key → n ≡ plus (get_or room rules_word 0) w.supposed → NextClause room predicate key 0 n k → n ≤ k → ProvingAs W.Atom f room room w left false
  atom-barred n k p q e h b ds us o c bs g t =
      let (a, u) = goal-is g t in
      subst (Claim f room room ds us w (suc left) o c bs false) (sym u)
      (λ r.
      let (m, m') = numbers r predicate key p q in
      let (kept, early) = find-start h ds us o c bs a r m m' in
      record { kept = kept; answer = sym (none-does us left o c bs a (λ j l. early j (omega (arith, at-hand r)))) })

  pub atom-decided : {after : List ℕ} {s : Bool} (at : ℕ) → PredicateKeyAt f w.goal predicate → AtomKeyAt f room w.goal key → at % 16 ≡ 0 → Deciding f room after w predicate key at left s → ProvingAs W.Atom f room after w left s
  atom-decided {after} {s} at p q z d ds us o c bs g t =
      let (a, u) = goal-is g t in
      subst (Claim f room after ds us w (suc left) o c bs s) (sym u)
      (λ r.
      let (m, m') = numbers r predicate key p q in
      d ds us o c bs a r m m' z)

-- an atom that the table has
pub atom-recalled : {f : Files} {room : List ℕ} {w : Where} {left height : ℕ} (at : ℕ) (k : Option Bool) (s : Bool) → height ≡ plus left 1 → at % 16 ≡ 0 → Recalls f room w height at k → ((b : Bool) → Says b k → b ≡ s) → ProvingAs W.Atom f room room w left s
atom-recalled {f} {room} {w} {left} {height} at k s e z h said ds us o c bs g t =
    let (a, u) = goal-is g t in
    subst (Claim f room room ds us w (suc left) o c bs s) (sym u)
    (λ r. record { kept = keeps_same room; answer = sym (said (spec.provable (listed us) (suc left) o c bs (Goal.atom a)) (recalled-so r height at k (omega (arith, r.enough.supposed)) z h)) })
