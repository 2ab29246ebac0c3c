-- What the table is to say of atoms (specs/Stock): it is whether a place has a proof, it rises with the height, and it does not see clauses that are supposed later. And a rule whose number is neither the atom's nor its predicate's serves the atom nowhere (document 02, Three: a rule that cannot match is not visited).
use Prim.Native.Nat.{ℕ, zero, suc, ◌+◌, ◌-◌, ◌≤◌, ◌<◌}
use native.Mathlib.Omega.{arith}
use mathlib.Core.Path.{◌≡◌, refl, sym, ◌∙◌, ap, ap₂, subst}
use mathlib.Core.Bool.{Bool, true, false, ◌&&◌, ◌||◌, false≢true}
use mathlib.Core.List.{List, [], ◌∷◌, ◌++◌}
use mathlib.Core.Logic.{◌⊎◌, inl, inr}
use mathlib.Core.Option.{Option, none, some}
use lib.ListN.{length, get_or, get_elem?, take}
use lib.Seq.{take_all, take-append-le}
use Rattle.basics.specs.Choice.{maybe, both_true}
use Rattle.basics.specs.Tells.{told-yes, told-no}
use Rattle.harrop.specs.declared.Binding.TheVariants.{Candidate}
use Rattle.harrop.specs.Formula.{Term, Atom, Goal, Clause}
use Rattle.harrop.specs.Bindings.{Bindings, replaced_atom, same_atom}
use Rattle.harrop.specs.Place.{Candidates, AtHand, Hand, End, Plain, listed, allowed}
use Rattle.harrop.proofs.ListLaws.{below-member}
use Rattle.room.specs.Layout.{rules_word}
use Rattle.room.specs.Files.{Files}
use Rattle.room.specs.declared.Where.{Where}
use Rattle.keys.specs.Key.{atom_key, predicate_key, head_key, clause_key}
use Rattle.keys.specs.Chains.{Chained}
use Rattle.keys.specs.Keys.{key_word, rule_chains, Differs, Barred, NextClause}
use Rattle.keys.proofs.KeyLaws.{replaced-predicate-key, head-fits}
use Rattle.table.specs.Good.{Rises}
use Rattle.narrow.specs.Narrow.{NoHead}
use Rattle.proving.specs.Provable.{any_from, candidate_does, candidates_from, through, ending, clause_does, clauses_from, provable, serves}
use Rattle.proving.specs.Stock.{units, truth}
use Rattle.proving.specs.Proving.{Ready}
use Rattle.proving.proofs.ProvableLaws.{provable-tells}
use Rattle.proving.proofs.HeadlessLaws.{no-head-passes-not}

-- where parts that are yes stay yes, so does what they make
and-rises : (a b c d : Bool) → (a ≡ true → b ≡ true) → (c ≡ true → d ≡ true) → a && c ≡ true → b && d ≡ true
and-rises a b c d p q e = let (x, y) = both_true a c e in ap₂ ◌&&◌ (p x) (q y)

or-rises : (a b c d : Bool) → (a ≡ true → b ≡ true) → (c ≡ true → d ≡ true) → a || c ≡ true → b || d ≡ true
or-rises true b c d p q e = ap (λ (x : Bool). x || d) (p refl)
or-rises false true c d p q e = refl
or-rises false false c d p q e = q e

any-rises : (f g : ℕ → Bool) → ((i : ℕ) → f i ≡ true → g i ≡ true) → (i n : ℕ) → any_from f i n ≡ true → any_from g i n ≡ true
unfolding any_from
any-rises f g up i zero e = e
any-rises f g up i (suc n) e = or-rises (f i) (g i) (any_from f (suc i) n) (any_from g (suc i) n) (up i) (λ z. any-rises f g up (suc i) n z) e

module _ (cs : Candidates Plain) (o : List Plain) where
  module _ (try try' : End Plain → Bool) (up : (x : End Plain) → try x ≡ true → try' x ≡ true) where
    through-rises : (d : Clause Plain) (bs : Bindings) → through cs o d bs try ≡ true → through cs o d bs try' ≡ true
    unfolding through candidates_from candidate_does
    through-rises (Clause.atom_d b) bs e = up (End.at_atom b bs) e
    through-rises (Clause.imp_d g b) bs e = up (End.at_imp g b bs) e
    through-rises (Clause.all_d q d) bs e =
        any-rises (candidate_does cs o q (λ i. through cs o d (Candidate i ∷ bs) try)) (candidate_does cs o q (λ i. through cs o d (Candidate i ∷ bs) try'))
        (λ i. and-rises (allowed cs o q i) (allowed cs o q i) (through cs o d (Candidate i ∷ bs) try) (through cs o d (Candidate i ∷ bs) try') (λ z. z) (λ z. through-rises d (Candidate i ∷ bs) z)) 0 (length cs.terms - 0) e
    through-rises (Clause.and_d c d) bs e =
        or-rises (through cs o c bs try) (through cs o c bs try') (through cs o d bs try) (through cs o d bs try') (λ z. through-rises c bs z) (λ z. through-rises d bs z) e

    clauses-rise : (c : Hand Plain) → clauses_from cs o c try 0 ≡ true → clauses_from cs o c try' 0 ≡ true
    unfolding clauses_from clause_does
    clauses-rise c e = any-rises (clause_does cs o c try) (clause_does cs o c try') (λ k. go (get_elem? c k)) 0 (length c - 0) e
      where
        go : (m : Option (AtHand Plain)) → (maybe m false λ d. through cs o d.clause d.bindings try) ≡ true → (maybe m false λ d. through cs o d.clause d.bindings try') ≡ true
        go none z = z
        go (some d) z = through-rises d.clause d.bindings z

  ending-rises : (a : Atom) (prove prove' : Goal Plain → Bindings → Bool) → ((g : Goal Plain) (bs : Bindings) → prove g bs ≡ true → prove' g bs ≡ true) → (x : End Plain) → ending cs a prove x ≡ true → ending cs a prove' x ≡ true
  unfolding ending
  ending-rises a prove prove' up (End.at_atom b bs) e = e
  ending-rises a prove prove' up (End.at_imp g b bs) e =
      let t = same_atom (replaced_atom cs.terms bs b) a in
      and-rises t t (prove g bs) (prove' g bs) (λ z. z) (up g bs) e

  -- what has a proof within a height has one within a greater
  pub provable-rises : (h h' : ℕ) (c : Hand Plain) (bs : Bindings) (g : Goal Plain) → h ≤ h' → provable cs h o c bs g ≡ true → provable cs h' o c bs g ≡ true
  provable-rises h h' c bs g l e = go (provable cs h' o c bs g) refl
    where
      go : (b : Bool) → provable cs h' o c bs g ≡ b → provable cs h' o c bs g ≡ true
      go true q = q
      go false q =
          let P = told-yes e (provable-tells cs h o c bs g) in
          absurd (told-no q (provable-tells cs h' o c bs g) (record { strip = P.strip; proves = P.proves; is_low = omega (arith, P.is_low, l) }))

pub truth-rises : (us : List Term) (n : ℕ) (c : Hand Plain) → Rises (truth us n c)
unfolding truth
truth-rises us n c s p zero h' a e l = absurd (false≢true e)
truth-rises us n c s p (suc h) zero a e l = absurd (omega arith)
truth-rises us n c s p (suc h) (suc h') a e l =
    let hand = take (n + s) c in
    let proves : ℕ → Goal Plain → Bindings → Bool = λ k g bs. provable (listed us) k (units p) hand bs g in
    clauses-rise (listed us) (units p) (ending (listed us) a (proves h)) (ending (listed us) a (proves h'))
    (ending-rises (listed us) (units p) a (proves h) (proves h') (λ g bs z. provable-rises (listed us) (units p) h h' hand bs g (omega arith) z)) hand e

-- so many parameters, whatever they carry, which is nothing
pub units-are : (o : List Plain) (p : ℕ) → length o ≡ p → o ≡ units p
units-are [] zero e = refl
units-are [] (suc p) e = absurd (omega arith)
units-are (q ∷ o) zero e = absurd (omega arith)
units-are (q ∷ o) (suc p) e = ap (λ (l : List Plain). q ∷ l) (units-are o p (omega arith))

-- whether a clause at hand serves an atom, with so much left for its body
abbrev served : List Term → ℕ → Atom → List Plain → Hand Plain → Bool
served us h a o c = clauses_from (listed us) o c (ending (listed us) a (λ g bs. provable (listed us) h o c bs g)) 0

-- it is whether a place has a proof, of the atom with its variables replaced
pub truth-here : (us : List Term) (n s p h : ℕ) (o : List Plain) (c : Hand Plain) (bs : Bindings) (a : Atom) → length c ≡ n + s → length o ≡ p → provable (listed us) h o c bs (Goal.atom a) ≡ truth us n c s p h (replaced_atom us bs a)
unfolding provable truth
truth-here us n s p zero o c bs a e q = refl
truth-here us n s p (suc h) o c bs a e q = ap₂ (served us h (replaced_atom us bs a)) (units-are o p q) (sym (take_all (n + s) c (omega arith)))

-- what is true under the first clauses is so whatever comes after them
pub truth-before : (us : List Term) (n m : ℕ) (c xs : Hand Plain) → n + m ≤ length c → (s p h : ℕ) (a : Atom) → s ≤ m → truth us n (c ++ xs) s p h a ≡ truth us n c s p h a
unfolding truth
truth-before us n m c xs l s p zero a k = refl
truth-before us n m c xs l s p (suc h) a k = ap (served us h a (units p)) (take-append-le (n + s) c xs (omega arith))

-- a head with another number is never the atom, nor is one of a clause with another number
module _ (us : List Term) (bs : Bindings) (a : Atom) where
  head-barred : (b : Atom) → Differs (predicate_key a) (atom_key (replaced_atom us bs a)) (head_key b) → (ds : Bindings) → same_atom (replaced_atom us ds b) (replaced_atom us bs a) ≡ false
  head-barred b D ds = go (same_atom (replaced_atom us ds b) (replaced_atom us bs a)) refl
    where
      none' : (head_key b ≡ predicate_key (replaced_atom us bs a)) ⊎ (head_key b ≡ atom_key (replaced_atom us bs a)) → ⊥
      none' (inl z) = D.other (z ∙ replaced-predicate-key us bs a)
      none' (inr z) = D.own z

      go : (t : Bool) → same_atom (replaced_atom us ds b) (replaced_atom us bs a) ≡ t → same_atom (replaced_atom us ds b) (replaced_atom us bs a) ≡ false
      go true e = absurd (none' (head-fits us ds b (replaced_atom us bs a) e))
      go false e = e

  clause-barred : (d : Clause Plain) → Differs (predicate_key a) (atom_key (replaced_atom us bs a)) (clause_key d) → (ds : Bindings) → NoHead us ds d (replaced_atom us bs a)
  clause-barred (Clause.atom_d b) D ds = head-barred b D ds
  clause-barred (Clause.imp_d g b) D ds = head-barred b D ds
  clause-barred (Clause.all_d q d) D ds = λ x. clause-barred d D (x ∷ ds)
  clause-barred (Clause.and_d c d) D ds = absurd (D.some refl)

  pub barred-does-not : (left : ℕ) (o : List Plain) (c : Hand Plain) (k : ℕ) (h : AtHand Plain) → get_elem? c k ≡ some h → Differs (predicate_key a) (atom_key (replaced_atom us bs a)) (clause_key h.clause)
      → clause_does (listed us) o c (serves (listed us) left o c bs a) k ≡ false
  unfolding clause_does
  barred-does-not left o c k h e D =
      ap (λ (m : Option (AtHand Plain)). maybe m false λ d. through (listed us) o d.clause d.bindings (serves (listed us) left o c bs a)) e
      ∙ no-head-passes-not (listed us) o (replaced_atom us bs a) (λ g ds. provable (listed us) left o c ds g) h.clause h.bindings (clause-barred h.clause D h.bindings)

-- so it is of a rule by the room's numbers, at a place that is ready for a search
module _ {f : Files} {room : List ℕ} {ds : List (Clause Plain)} {us : List Term} {w : Where} {left : ℕ} {o : List Plain} {c : Hand Plain} {bs : Bindings} {a : Atom} (r : Ready f room ds us w (suc left) o c bs (Goal.atom a)) {predicate key : ℕ} (p : predicate ≡ predicate_key a) (q : key ≡ atom_key (replaced_atom us bs a)) where
  pub barred-rule : (k : ℕ) → k < get_or room rules_word 0 → Barred room predicate key k → clause_does (listed us) o c (serves (listed us) left o c bs a) k ≡ false
  barred-rule k l B =
      let rule : k < length ds = omega (arith, r.place.booked.rules.counted) in
      let (h, e) = below-member c k (omega (arith, r.place.hand.number)) in
      let known = r.stock.keys.rules k h.clause (r.place.hand.rule k h rule e).1 in
      barred-does-not us bs a left o c k h e
      (record {
        some = λ z. B.some (known ∙ z);
        other = λ z. B.other (known ∙ z ∙ sym p);
        own = λ z. B.own (known ∙ z ∙ sym q);
      })

  -- and of all that are passed over
  pub passed_over : {from n next : ℕ} → NextClause room predicate key from n next → (j : ℕ) → from ≤ j → j < next → clause_does (listed us) o c (serves (listed us) left o c bs a) j ≡ false
  passed_over N j l m =
      let P = N.right (subst (Chained (key_word 0) rule_chains room 0) {x = length ds} {y = get_or room rules_word 0} (omega (arith, r.place.booked.rules.counted)) r.stock.keys.chains) in
      barred-rule j (P.rules j l m) (P.barred j l m)
