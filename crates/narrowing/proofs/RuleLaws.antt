-- A clause whose head has a variable where the atom has v serves the atom only if its body has a proof, in which that variable is what v is (document 01, "When a strip fits": equality is of terms). So candidates that the body leaves out for the variable are left out for v.
use Prim.Native.Nat.{ℕ, suc, ◌-◌, ◌≤◌}
use native.Mathlib.Omega.{arith}
use mathlib.Core.Path.{◌≡◌, refl, sym, ◌∙◌, ap, subst}
use mathlib.Core.Bool.{Bool, true, false, false≢true}
use mathlib.Core.List.{List}
use mathlib.Core.Option.{Option, none, some, some-injective}
use lib.ListN.{length, get_elem?}
use Rattle.basics.specs.Choice.{maybe, both_true}
use Rattle.harrop.specs.Formula.{Term, Atom, Goal, Clause}
use Rattle.harrop.specs.Bindings.{Bindings, replaced_atom, same_atom}
use Rattle.harrop.specs.Place.{AtHand, Hand, Plain, listed}
use Rattle.harrop.proofs.SameLaws.{same-atoms-equal, equal-atoms-same}
use Rattle.std.specs.Prelude as std
use Rattle.std.specs.Prelude.{Some, None}
use Rattle.room.specs.Where.{plus}
use Rattle.room.specs.Files.{Files}
use Rattle.room.specs.declared.Spot.{Spot}
use Rattle.room.specs.declared.Where.{Where}
use Rattle.room.proofs.WhereLaws.{file-small}
use Rattle.mentions.specs.Open.{Becomes}
use Rattle.unset.specs.Beside.{SameIs, SameAs}
use Rattle.arguments.specs.Arguments.{ArgumentsAre}
use Rattle.proving.specs.Provable.{through, ending, clause_does, clauses_from, provable, serves}
use Rattle.proving.specs.Stock.{Stock, Keeps}
use Rattle.proving.specs.Proving.{passes}
use Rattle.proving.specs.Parts.{ClauseParts, quantifiers, core, body_place}
use Rattle.proving.specs.Frames.{alls, unsets}
use Rattle.proving.specs.Filling.{Filling, Unsets, Starting}
use Rattle.proving.specs.Hand.{Opened}
use Rattle.proving.specs.declared.plain.Parts.{Parts}
use Rattle.proving.proofs.WalkLaws.{any-no}
use Rattle.proving.proofs.StockLaws.{keeps_same, keeps_then, keeps-less}
use Rattle.proving.proofs.HandLaws.{opened-none, opened-clause}
use Rattle.proving.proofs.CompletesLaws.{completes-becomes}
use Rattle.proving.proofs.FillingLaws.{plain-is, alls-fillable, never-fills, head-yes, refuted}
use Rattle.proving.proofs.PlainLaws.{frame-ends, head-at, atom-there, start-keeps, start-filling, filling-body}
use Rattle.proving.proofs.FillLaws.{starting, opened-parts}
use Rattle.narrowing.specs.Sets.{SetsBeside}
use Rattle.narrowing.specs.Tried.{Given, Lacks, Narrows, NarrowsGoal, NarrowsBy}

-- an atom that no clause at hand serves has no proof
pub none-serves : (us : List Term) (left : ℕ) (o : List Plain) (c : Hand Plain) (es : Bindings) (a : Atom) → ((k : ℕ) (h : AtHand Plain) → get_elem? c k ≡ some h → passes us left o c es a h.clause h.bindings ≡ false) → provable (listed us) (suc left) o c es (Goal.atom a) ≡ false
unfolding provable clauses_from clause_does
none-serves us left o c es a n = any-no (clause_does (listed us) o c (serves (listed us) left o c es a)) 0 (length c - 0) (λ k l m. go k (get_elem? c k) refl)
  where
    go : (k : ℕ) (x : Option (AtHand Plain)) → get_elem? c k ≡ x → (maybe x false λ d. through (listed us) o d.clause d.bindings (serves (listed us) left o c es a)) ≡ false
    go k none e = refl
    go k (some d) e = n k d e

-- a body on a path that ends well has a proof
body-yes : (us : List Term) (left : ℕ) (o : List Plain) (c : Hand Plain) (bs : Bindings) (a : Atom) (g : Goal Plain) (b : Atom) (ds : Bindings) → passes us left o c bs a (Clause.imp_d g b) ds ≡ true → provable (listed us) left o c ds g ≡ true
unfolding through ending
body-yes us left o c bs a g b ds e = (both_true (same_atom (replaced_atom us ds b) (replaced_atom us bs a)) (provable (listed us) left o c ds g) e).1

-- a clause with quantifiers around a goal that implies an atom, where the atom's variable u is what v of the atom asked for is
rule-serves-not : (us : List Term) (left : ℕ) (o : List Plain) (c : Hand Plain) (bs : Bindings) (a : Atom) (own v u : ℕ) (marks : List ℕ) (m : ℕ) (g : Goal Plain) (b : Atom) (bs' fr : Bindings) → SameIs us a b v (Some u)
    → ((es ds : Bindings) → Becomes us own bs es → replaced_atom us ds b ≡ replaced_atom us es a → Becomes us m (unsets m bs') ds → Becomes us m fr ds) → Lacks us left o c m u marks fr g
    → (i : ℕ) (es : Bindings) → Given us own v marks i bs es → passes us left o c es a (alls m (Clause.imp_d g b)) bs' ≡ false
rule-serves-not us left o c bs a own v u marks m g b bs' fr same follows lacks i es G =
    sym (alls-fillable us left o c es a m (Clause.imp_d g b) bs' false
    (never-fills us left o c es a (Clause.imp_d g b) m (unsets m bs') (λ ds k. refuted (passes us left o c es a (Clause.imp_d g b) ds) (λ p.
    let heads = head-yes us left o c es a (Clause.imp_d g b) b ds refl p in
    let one = same-atoms-equal (replaced_atom us ds b) (replaced_atom us es a) heads in
    let turned = equal-atoms-same (replaced_atom us es a) (replaced_atom us ds b) (sym one) in
    let given : Given us m u marks i fr ds = record { left = G.left; becomes = follows es ds G.becomes one (completes-becomes us o m (unsets m bs') ds k); value = sym (same es ds turned) ∙ G.value } in
    false≢true (sym (lacks i ds given) ∙ body-yes us left o c es a g b ds p)))))

-- nothing is said, and the room is as it was
pub says_nothing : {right : List ℕ → Type 0} {supposed top : ℕ} (room : List ℕ) {says : Type 0} → Narrows right supposed top room room false says
says_nothing room = record { kept = keeps_same room; told = λ e. absurd (false≢true e) }

-- the clause that the parts are of, once its own variables are unset and those beside arguments that are set have been set, by what its body says
through-body : {f : Files} {mid low set after : List ℕ} {ds : List (Clause Plain)} {us : List Term} {w y : Where} {p : Parts} {left own v u asked : ℕ} {o : List Plain} {c : Hand Plain} {bs : Bindings} {a : Atom} {e : Clause Plain} {bs' : Bindings} {marks : List ℕ} {z : std.Option ℕ} {r : Bool}
    → Starting f mid ds us w p left o c bs a e bs' → p.headed ≡ true → Unsets mid low p.head p.own → SetsBeside f low set p asked → ArgumentsAre us own bs v a asked → p.body ≡ true → SameAs f w.goal p.head v z → z ≡ Some u → y ≡ body_place w p → NarrowsGoal f set after y p.own u left marks r
    → Narrows (Stock f ds us w.supposed c) w.supposed w.top mid after r ((i : ℕ) (es : Bindings) → Given us own v marks i bs es → passes us left o c es a (alls p.own e) bs' ≡ false)
through-body {f} {mid} {low} {set} {after} {ds} {us} {w} {y} {p} {left} {own} {v} {u} {asked} {o} {c} {bs} {a} {e} {bs'} {marks} {z} {r} t head unset sets args body same is at says = go e (start-filling t unset)
  where
    go : (e : Clause Plain) → Filling f low ds us w p left o c bs a e (unsets p.own bs') → Narrows (Stock f ds us w.supposed c) w.supposed w.top mid after r ((i : ℕ) (es : Bindings) → Given us own v marks i bs es → passes us left o c es a (alls p.own e) bs' ≡ false)
    go (Clause.atom_d b) h = absurd (false≢true (sym h.parts.0 ∙ body))
    go (Clause.imp_d g b) h =
        let s = sets ds us w left o c bs a (Clause.imp_d g b) (unsets p.own bs') own v h head args in
        let n = subst (λ (q : Where). NarrowsGoal f set after q p.own u left marks r) at says ds us o c s.frame g (filling-body s.filling) in
        let place = h.ready.place in
        let is-u = subst (SameIs us a b v) is (same low us a b (file-small place.booked) place.booked.candidates (atom-there h head) (head-at h head)) in
        let ends = (frame-ends h).1 in
        let high : w.top ≤ plus p.goal.base p.goal.count = omega (arith, h.parts.2.base, h.parts.2.count, h.fresh, ends) in
        record {
          kept =
              keeps_then {s' = w.supposed} {t' = w.top} mid low after (omega arith) (omega arith) (keeps-less mid low (omega arith) (omega (arith, h.fresh)) (start-keeps t unset))
              (keeps_then low set after (omega arith) high (keeps-less low set (omega arith) (omega (arith, h.fresh)) s.kept) n.kept);
          told = λ yes i es G. rule-serves-not us left o c bs a own v u marks p.own g b bs' s.frame is-u s.follows (n.told yes) i es G;
        }
    go (Clause.all_d q d) h = absurd h.parts
    go (Clause.and_d d d') h = absurd h.parts

module _ {f : Files} {room mid : List ℕ} {w : Where} {own v asked left : ℕ} (k : ℕ) {q : std.Option Spot} (opened : Opened room mid k w.supposed w.top q) where
  -- there is no such clause
  pub rule-none : {marks : List ℕ} → q ≡ None → NarrowsBy f room mid w own v asked k left marks false
  rule-none e ds us o c bs a rd args =
      let (n, same) = opened-none rd k (subst (Opened room mid k w.supposed w.top) e opened) in
      record { kept = subst (Keeps (Stock f ds us w.supposed c) w.supposed w.top room) (sym same) (keeps_same room); told = λ z. absurd (false≢true z) }

  module _ {x : Spot} (e : q ≡ Some x) where
    -- nothing is said of it
    pub rule-stops : {marks : List ℕ} → NarrowsBy f room mid w own v asked k left marks false
    rule-stops ds us o c bs a rd args =
        let z = opened-clause rd k (subst (Opened room mid k w.supposed w.top) e opened) in
        record { kept = z.kept; told = λ y. absurd (false≢true y) }

    -- its body says it
    pub rule-goes : {low set after marks : List ℕ} {s : std.Option Parts} {p : Parts} {z : std.Option ℕ} {u : ℕ} {y : Where} {r : Bool} → ClauseParts f mid k x s → s ≡ Some p → p.body ≡ true → SameAs f w.goal p.head v z → z ≡ Some u
        → Unsets mid low p.head p.own → SetsBeside f low set p asked → y ≡ body_place w p → NarrowsGoal f set after y p.own u left marks r → NarrowsBy f room after w own v asked k left marks r
    rule-goes {low} {set} {after} {marks} {s} {p} {z} {u} {y} {r} parts found body same is unset sets at says ds us o c bs a rd args =
        let there = opened-clause rd k (subst (Opened room mid k w.supposed w.top) e opened) in
        let t = there.taken in
        let d = there.clause.clause in
        let (found_at, plain) = opened-parts there parts found in
        let many : p.own ≡ quantifiers d = omega (arith, found_at.own) in
        let n = through-body (starting t found_at) found_at.headed unset sets args body same is at says in
        record {
          kept = keeps_then room mid after (omega arith) (omega arith) there.kept n.kept;
          told = λ yes h m i es G.
              let one : there.clause ≡ h = some-injective there.clause h (sym there.there ∙ m) in
              subst (λ (x : AtHand Plain). passes us left o c es a x.clause x.bindings ≡ false) one
              (ap (λ (q : Clause Plain). passes us left o c es a q there.clause.bindings) (sym (ap (λ (m : ℕ). alls m (core d)) many ∙ plain-is d plain)) ∙ n.told yes i es G);
        }
