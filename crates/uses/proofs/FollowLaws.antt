-- A path followed through a clause step by step (document 01, "When a strip fits"): the part of the clause that is left, the frame so far, and where the path ends.
use Rattle.std.specs.Prelude as code
use Rattle.std.specs.Prelude.{Some, None}
use Prim.Native.Nat.{ℕ, suc, ◌+◌, ◌-◌, ◌≤◌}
use native.Mathlib.Omega.{arith}
use mathlib.Core.Path.{◌≡◌, sym, ◌∙◌, ap, subst}
use mathlib.Core.Bool.{Bool, true, false}
use mathlib.Core.List.{List, [], ◌∷◌}
use mathlib.Core.Option.{Option, none}
use lib.ListN.{length, take, drop, set, length-drop, length-set}
use Rattle.basics.specs.Choice.{provided}
use Rattle.harrop.specs.declared.Binding.TheVariants.{Candidate}
use Rattle.harrop.specs.Formula.{Term, Clause, Step}
use Rattle.harrop.specs.Bindings.{Bindings}
use Rattle.harrop.specs.Place.{End, Plain, allowed, follow, listed}
use Rattle.sexp.specs.Sexp.{Sexp, Stands}
use Rattle.sexp.proofs.StandLaws.{stands-before}
use Rattle.packet.specs.Written.{clause_sexp}
use Rattle.room.specs.Files.{Files}
use Rattle.room.specs.Frame.{binding_word, held, bindings_in}
use Rattle.room.proofs.FrameLaws.{frame_pushed, push_kept, kept-below}
use Rattle.room.proofs.NestLaws.{clause-nests}
use Rattle.start.proofs.TableLaws.{table-allowed}
use Rattle.room.proofs.WhereLaws.{booked-kept, push-keeps}
use Rattle.uses.specs.Walk.{Booked}
use Rattle.uses.specs.Use.{Left, Inner, Bound, Turns, Small, may_use, Binds, Following, Reaches, Followed}
use Rattle.uses.specs.declared.uses.Turn.{Turn}
use Rattle.uses.specs.declared.uses.Reached.{Reached}
use Rattle.uses.proofs.HeadLaws.{part-stands, whole-stands-at}

-- so many bytes before the end of a part is so many before the end of the whole
pub left-whole : (s : List ℕ) (i left : ℕ) (e : Sexp) → Left (drop i s) left e → Left s left e
left-whole s i left e h =
    let n = length-drop i s in
    let b = stands-before h.stands in
    record {
      inside = omega (arith, h.inside);
      stands = subst (λ (j : ℕ). Stands s j e) (omega (arith, h.inside)) (whole-stands-at s i (length (drop i s) - left) h.stands);
    }

pub reaches_whole : (s : List ℕ) (i : ℕ) (after : List ℕ) (us : List Term) (o : List Plain) (x y : Option (End Plain)) (base : ℕ) (r : code.Option Reached) → y ≡ x → Reaches (drop i s) after us o x base r → Reaches s after us o y base r
reaches_whole s i after us o x y base None e h = e ∙ h
reaches_whole s i after us o x y base (Some r) e h =
    record {
      last = h.last;
      bindings = h.bindings;
      count = h.count;
      stands = left-whole s i r.left (clause_sexp h.last) h.stands;
      ends = h.ends;
      holds = h.holds;
      shallow = h.shallow;
      scoped = h.scoped;
      same = e ∙ h.same;
    }

module _ {f : Files} {clause strip room : List ℕ} {ds : List (Clause Plain)} {us : List Term} {at top nest base count : ℕ} {d : Clause Plain} {bs : Bindings} {path : List Step} (h : Following f clause strip room ds us at top nest base count d bs path) (o : List Plain) where
  pub follow-shut : nest ≡ 0 → ⊥
  follow-shut e = omega (arith, clause-nests d, h.nests)

  pub follow-none : Turns clause strip d path None → follow (listed us) o d bs path ≡ none
  follow-none t = t us o bs h.booked.candidates.few

  pub follow-ended : path ≡ [] → Reaches clause room us o (follow (listed us) o d bs path) base (Some (record { left = length clause; end = top }))
  follow-ended e =
      record {
        last = d;
        bindings = bs;
        count = count;
        stands = record { inside = omega arith; stands = subst (λ (i : ℕ). Stands clause i (clause_sexp d)) {x = 0} {y = length clause - length clause} (omega arith) h.stands };
        ends = h.ends;
        holds = h.holds;
        shallow = h.shallow;
        scoped = h.scoped;
        same = ap (λ (p : List Step). follow (listed us) o d bs p) e;
      }

  -- a step into a part of the clause
  pub into-following : {i next : ℕ} → (nest ≡ 0 → ⊥) → (x : Inner clause strip d path i next) → Following f (drop i clause) strip room ds us next top (nest - 1) base count x.inner bs x.rest
  into-following z x =
      record {
        booked = h.booked;
        stands = part-stands x.stands;
        nests = omega (arith, x.shallower, h.nests);
        steps = x.steps;
        above = h.above;
        ends = h.ends;
        holds = h.holds;
        shallow = omega (arith, x.shallower, h.shallow);
        scoped = x.scoped count h.scoped;
        long = h.long;
      }

  pub into-reached : {i next : ℕ} (x : Inner clause strip d path i next) (after : List ℕ) (r : code.Option Reached) → Reaches (drop i clause) after us o (follow (listed us) o x.inner bs x.rest) base r → Reaches clause after us o (follow (listed us) o d bs path) base r
  into-reached {i} x after r = reaches_whole clause i after us o (follow (listed us) o x.inner bs x.rest) (follow (listed us) o d bs path) base r (x.same us o bs)

  pub into-followed : {i next p : ℕ} → length o ≡ p → (nest ≡ 0 → ⊥) → Inner clause strip d path i next → (s : List ℕ) → s ≡ drop i clause → (after : List ℕ) (r : code.Option Reached) → Followed s strip room after next top p (nest - 1) r → Reaches clause after us o (follow (listed us) o d bs path) base r
  into-followed {i} {next} {p} e z x s q after r k =
      into-reached x after r
      (subst (λ (t : List ℕ). Reaches t after us o (follow (listed us) o x.inner bs x.rest) base r) q
      (k f ds us o base count x.inner bs x.rest e (subst (λ (t : List ℕ). Following f t strip room ds us next top (nest - 1) base count x.inner bs x.rest) (sym q) (into-following z x))))

  -- a step that binds the clause's variable
  module _ {n next p : ℕ} (e : length o ≡ p) (x : Bound clause strip d path n next) where
    -- the room's table says whether the candidate may be used
    may-is : may_use room n p ≡ allowed (listed us) o x.carried n
    may-is = ap (may_use room n) (sym e) ∙ table-allowed room f.terms us o x.carried n h.booked.candidates

    pub bound-shut : {after : List ℕ} → Binds room after top n p false → follow (listed us) o d bs path ≡ none
    bound-shut b =
        x.same us o bs
        ∙ ap (λ (t : Bool). provided t (follow (listed us) o x.inner (Candidate n ∷ bs) x.rest)) (sym may-is ∙ b.1 (omega (arith, h.ends, h.shallow, h.long, clause-nests d)))

    pub bound-following : {after : List ℕ} → (nest ≡ 0 → ⊥) → n ≤ 999 → Binds room after top n p true → Following f (drop 6 clause) strip after ds us next (top + 1) (nest - 1) base (suc count) x.inner (Candidate n ∷ bs) x.rest
    bound-following {after} z s b =
        let q = b.1.1 in
        let t = h.ends in
        let k = push-keeps room 0 top (held (binding_word (Candidate n))) (omega arith) (omega (arith, h.above)) in
        record {
          booked = subst (λ (r : List ℕ). Booked f r ds us) (sym q) (booked-kept k h.booked);
          stands = part-stands x.stands;
          nests = omega (arith, x.shallower, h.nests);
          steps = x.steps;
          above = h.above;
          ends = omega arith;
          holds = ap (λ (r : List ℕ). bindings_in r base (suc count)) (q ∙ ap (λ (j : ℕ). set room j (held (binding_word (Candidate n)))) (sym t))
              ∙ frame_pushed room base count (Candidate n) (omega (arith, b.0)) (omega arith)
              ∙ ap (λ (y : Bindings). Candidate n ∷ y) h.holds;
          shallow = omega (arith, x.shallower, h.shallow);
          scoped = x.scoped count h.scoped;
          long = omega (arith, ap length q, length-set room top (held (binding_word (Candidate n))), h.long);
        }

    pub bound-reached : {room₁ : List ℕ} → Binds room room₁ top n p true → (after : List ℕ) (r : code.Option Reached) → Reaches (drop 6 clause) after us o (follow (listed us) o x.inner (Candidate n ∷ bs) x.rest) base r → Reaches clause after us o (follow (listed us) o d bs path) base r
    bound-reached b after r =
        reaches_whole clause 6 after us o (follow (listed us) o x.inner (Candidate n ∷ bs) x.rest) (follow (listed us) o d bs path) base r
        (x.same us o bs ∙ ap (λ (t : Bool). provided t (follow (listed us) o x.inner (Candidate n ∷ bs) x.rest)) (sym may-is ∙ b.1.0))

    pub bound-followed : {room₁ : List ℕ} → (nest ≡ 0 → ⊥) → n ≤ 999 → Binds room room₁ top n p true → (s : List ℕ) → s ≡ drop 6 clause → (after : List ℕ) (r : code.Option Reached) → Followed s strip room₁ after next (top + 1) p (nest - 1) r → Reaches clause after us o (follow (listed us) o d bs path) base r
    bound-followed {room₁} z l b s q after r k =
        bound-reached b after r
        (subst (λ (t : List ℕ). Reaches t after us o (follow (listed us) o x.inner (Candidate n ∷ bs) x.rest) base r) q
        (k f ds us o base (suc count) x.inner (Candidate n ∷ bs) x.rest e (subst (λ (t : List ℕ). Following f t strip room₁ ds us next (top + 1) (nest - 1) base (suc count) x.inner (Candidate n ∷ bs) x.rest) (sym q) (bound-following z l b))))

-- an answer that is known
pub turns_as : (clause strip : List ℕ) (d : Clause Plain) (path : List Step) (r t : code.Option Turn) → r ≡ t → Turns clause strip d path r → Turns clause strip d path t
turns_as clause strip d path r t e h = subst (λ (x : code.Option Turn). Turns clause strip d path x) e h

pub small-as : (r t : code.Option Turn) → r ≡ t → Small r → Small t
small-as r t e h = subst Small e h

pub binds-as : (room after : List ℕ) (top n p : ℕ) (r t : Bool) → r ≡ t → Binds room after top n p r → Binds room after top n p t
binds-as room after top n p r t e h = subst (λ (x : Bool). Binds room after top n p x) e h

pub reaches-as : (clause after : List ℕ) (us : List Term) (o : List Plain) (x : Option (End Plain)) (base : ℕ) (r t : code.Option Reached) → r ≡ t → Reaches clause after us o x base r → Reaches clause after us o x base t
reaches-as clause after us o x base r t e h = subst (λ (y : code.Option Reached). Reaches clause after us o x base y) e h

-- what is below the top stays while a binding is pushed and the path followed on
pub bound-kept : (room room₁ after : List ℕ) (top n p : ℕ) → Binds room room₁ top n p true → take (top + 1) after ≡ take (top + 1) room₁ → take top after ≡ take top room
bound-kept room room₁ after top n p b e =
    kept-below after room₁ top (top + 1) e (omega arith) ∙ ap (take top) b.1.1 ∙ push_kept room top (held (binding_word (Candidate n)))
