-- Whether a goal has a proof, by its word: what the answers for its parts say of it, and that what its place relies on is kept (document 01, "Which strip the search writes").
-- Each law ends in the contract of a function of crate provable, src/provable.
use Prim.Native.Nat.{ℕ, suc, ◌+◌, ◌-◌, ◌≤◌}
use native.Mathlib.Omega.{arith}
use mathlib.Core.Path.{◌≡◌, sym, ◌∙◌, ap, subst}
use mathlib.Core.Bool.{Bool, true, false, ◌&&◌, ◌||◌}
use mathlib.Core.List.{List, [], ◌∷◌, ◌++◌}
use lib.ListN.{length, drop, set}
use Rattle.basics.specs.Choice.{both_true}
use Rattle.basics.specs.Text.{octets}
use Rattle.harrop.specs.declared.Binding.TheVariants.{Parameter}
use Rattle.harrop.specs.Formula.{Term, Goal, Clause}
use Rattle.harrop.specs.Bindings.{Bindings}
use Rattle.harrop.specs.Place.{Hand, Plain, listed}
use Rattle.std.specs.Prelude.{Option, Some, None}
use Rattle.sexp.specs.Past.{PastAt}
use Rattle.packet.specs.declared.Word.{Word}
use Rattle.packet.specs.declared.Word.TheVariants as W
use Rattle.reader.specs.WordAt.{WordAt}
use Rattle.packet.specs.declared.Kind.TheVariants as K
use Rattle.rows.specs.Rows.{row_of}
use Rattle.packet.specs.Table.{due_after}
use Rattle.packet.specs.Barred.{goal_ok, clause_ok}
use Rattle.room.specs.Frame.{binding_word, held}
use Rattle.room.specs.Spot.{supposing}
use Rattle.room.specs.Files.{Files, file_of}
use Rattle.room.specs.Where.{plus, further, within, bound, supposes}
use Rattle.room.specs.declared.Spot.{Spot}
use Rattle.room.specs.declared.Where.{Where}
use Rattle.table.specs.Recall.{TableOnly, Forgets}
use Rattle.proving.specs.Provable as spec
use Rattle.proving.specs.Stock.{Stock}
use Rattle.proving.specs.Proving.{Ready, Answers, Proving, ProvingAs}
use Rattle.heads.proofs.HeadLaws.{goal-says, goal-is, goal-has-row, heads, first_part, second-found, first_found}
use Rattle.proving.proofs.StockLaws.{keeps_same, keeps_then, keeps-push}
use Rattle.proving.proofs.ReadyLaws.{ready-kept, ready-part, ready-all, ready-under, under-keeps}

-- the file of a spot
abbrev pub bytes_at : Files → Spot → List ℕ
bytes_at f x = file_of f x.source

-- answers put together
pub and_no : {r a : Bool} (b : Bool) → r ≡ a → r ≡ false → false ≡ a && b
and_no b e f = ap (λ (x : Bool). x && b) (sym f ∙ e)

pub and_yes : {r s a b : Bool} → r ≡ a → r ≡ true → s ≡ b → s ≡ a && b
and_yes {s = s} {b = b} e t f = f ∙ ap (λ (x : Bool). x && b) (sym t ∙ e)

pub or_yes : {r a : Bool} (b : Bool) → r ≡ a → r ≡ true → true ≡ a || b
or_yes b e t = ap (λ (x : Bool). x || b) (sym t ∙ e)

pub or_no : {r s a b : Bool} → r ≡ a → r ≡ false → s ≡ b → s ≡ a || b
or_no {b = b} e t f = f ∙ ap (λ (x : Bool). x || b) (sym t ∙ e)

-- a call's promise at the place that the code made
pub proving-at : {f : Files} {room after : List ℕ} {v w : Where} {h : ℕ} {r : Bool} → v ≡ w → Proving f room after v h r → Proving f room after w h r
proving-at {f} {room} {after} {h = h} {r = r} e p = subst (λ (x : Where). Proving f room after x h r) e p

pub proving-from : {f : Files} {room now after : List ℕ} {w : Where} {h : ℕ} {r : Bool} → now ≡ room → Proving f now after w h r → Proving f room after w h r
proving-from {f} {after = after} {w = w} {h = h} {r = r} e p = subst (λ (x : List ℕ). Proving f x after w h r) e p

-- the two tests of a goal's formula, taken apart
pub both_of : (a b : Bool) → a && b ≡ true → (a ≡ true) × (b ≡ true)
both_of a b e = both_true a b e

-- what is claimed of a goal
abbrev pub Claim : Files → List ℕ → List ℕ → List (Clause Plain) → List Term → Where → ℕ → List Plain → Hand Plain → Bindings → Bool → Goal Plain → Type 0
Claim f room after ds us w h o c bs r g = Ready f room ds us w h o c bs g → Answers (Stock f ds us w.supposed c) w.supposed w.top room after (spec.provable (listed us) h o c bs g) r

module _ {f : Files} {room : List ℕ} {w : Where} where
  -- no height, no proof
  pub no-height : (h : ℕ) → h ≡ 0 → Proving f room room w h false
  unfolding spec.provable
  no-height h e ds us o c bs g r = record { kept = keeps_same room; answer = ap (λ (n : ℕ). spec.provable (listed us) n o c bs g) {x = 0} {y = h} (sym e) }

  -- a goal by its word
  pub by_word : {after : List ℕ} {r : Bool} (h : ℕ) (word k : Word) → (h ≡ 0 → ⊥) → WordAt (drop w.goal.at (bytes_at f w.goal)) 1 k → k ≡ word → ProvingAs word f room after w (h - 1) r → Proving f room after w h r
  by_word {after} {r} h word k z q e p ds us o c bs g rd =
      let n : suc (h - 1) ≡ h = omega arith in
      subst (λ (m : ℕ). Claim f room after ds us w m o c bs r g) n
      (p ds us o c bs g (sym (goal-says (bytes_at f w.goal) w.goal.at g k rd.place.framed.stands q) ∙ e)) rd

  pub top-proved : (left : ℕ) → ProvingAs W.Top f room room w left true
  unfolding spec.provable
  top-proved left ds us o c bs g h r =
      record { kept = keeps_same room; answer = ap (spec.provable (listed us) (suc left) o c bs) {x = Goal.top} {y = g} (sym (goal-is g h)) }

  -- no goal has any other word
  pub by-other : (h : ℕ) (k : Word) → WordAt (drop w.goal.at (bytes_at f w.goal)) 1 k → None ≡ row_of (due_after K.Goal k) → Proving f room room w h false
  by-other h k q n ds us o c bs g r = absurd (goal-has-row g k (goal-says (bytes_at f w.goal) w.goal.at g k r.place.framed.stands q) n)

  module _ {left : ℕ} where
    -- the part of an `and` or an `or` is always found
    pub both-lost : {mid : List ℕ} {q : Option ℕ} → PastAt (drop w.goal.at (bytes_at f w.goal)) 6 64 q → q ≡ None → ProvingAs W.And f room mid w left false
    both-lost {mid} p e ds us o c bs g h =
        let (x, y, n) = goal-is g h in
        subst (Claim f room mid ds us w (suc left) o c bs false) (sym n)
        (λ r. absurd (first_found (octets "and") heads.0 r.place.framed.stands (omega (arith, r.place.framed.shallow)) p e))

    pub both_first : {mid : List ℕ} {v : Where} {s : Bool} → v ≡ within w 6 → Proving f room mid v left s → s ≡ false → ProvingAs W.And f room mid w left false
    unfolding spec.provable
    both_first {mid} i p e ds us o c bs g h =
        let (x, y, n) = goal-is g h in
        subst (Claim f room mid ds us w (suc left) o c bs false) (sym n)
        (λ r.
        let a = proving-at i p ds us o c bs x (ready-part r 6 x (first_part (octets "and") heads.0 r.place.framed.stands) (omega arith) (both_of (goal_ok (length bs) x) (goal_ok (length bs) y) r.place.scoped).0) in
        record { kept = a.kept; answer = and_no (spec.provable (listed us) left o c bs y) a.answer e })

    pub both-second : {mid after : List ℕ} {v v' : Where} {q : Option ℕ} {k : ℕ} {s t : Bool} → v ≡ within w 6 → v' ≡ within w k → PastAt (drop w.goal.at (bytes_at f w.goal)) 6 64 q → q ≡ Some k → Proving f room mid v left s → s ≡ true → length mid ≡ length room → Proving f mid after v' left t → ProvingAs W.And f room after w left t
    unfolding spec.provable
    both-second {mid} {after} {k = k} {t = t} i j u e p z l p' ds us o c bs g h =
        let (x, y, n) = goal-is g h in
        subst (Claim f room after ds us w (suc left) o c bs t) (sym n)
        (λ r.
        let (ok, ok') = both_of (goal_ok (length bs) x) (goal_ok (length bs) y) r.place.scoped in
        let a = proving-at i p ds us o c bs x (ready-part r 6 x (first_part (octets "and") heads.0 r.place.framed.stands) (omega arith) ok) in
        let b = proving-at j p' ds us o c bs y (ready-kept a.kept l (ready-part r k y (second-found (octets "and") heads.0 r.place.framed.stands u e) (omega arith) ok')) in
        record { kept = keeps_then room mid after (omega arith) (omega arith) a.kept b.kept; answer = and_yes a.answer z b.answer })

    pub either-lost : {q : Option ℕ} → PastAt (drop w.goal.at (bytes_at f w.goal)) 5 64 q → q ≡ None → ProvingAs W.Or f room room w left false
    either-lost p e ds us o c bs g h =
        let (x, y, n) = goal-is g h in
        subst (Claim f room room ds us w (suc left) o c bs false) (sym n)
        (λ r. absurd (first_found (octets "or") heads.1.0 r.place.framed.stands (omega (arith, r.place.framed.shallow)) p e))

    pub either_first : {mid : List ℕ} {v : Where} {s : Bool} → v ≡ within w 5 → Proving f room mid v left s → s ≡ true → ProvingAs W.Or f room mid w left true
    unfolding spec.provable
    either_first {mid} i p e ds us o c bs g h =
        let (x, y, n) = goal-is g h in
        subst (Claim f room mid ds us w (suc left) o c bs true) (sym n)
        (λ r.
        let a = proving-at i p ds us o c bs x (ready-part r 5 x (first_part (octets "or") heads.1.0 r.place.framed.stands) (omega arith) (both_of (goal_ok (length bs) x) (goal_ok (length bs) y) r.place.scoped).0) in
        record { kept = a.kept; answer = or_yes (spec.provable (listed us) left o c bs y) a.answer e })

    pub either_second : {mid after : List ℕ} {v v' : Where} {q : Option ℕ} {k : ℕ} {s t : Bool} → v ≡ within w 5 → v' ≡ within w k → PastAt (drop w.goal.at (bytes_at f w.goal)) 5 64 q → q ≡ Some k → Proving f room mid v left s → s ≡ false → length mid ≡ length room → Proving f mid after v' left t → ProvingAs W.Or f room after w left t
    unfolding spec.provable
    either_second {mid} {after} {k = k} {t = t} i j u e p z l p' ds us o c bs g h =
        let (x, y, n) = goal-is g h in
        subst (Claim f room after ds us w (suc left) o c bs t) (sym n)
        (λ r.
        let (ok, ok') = both_of (goal_ok (length bs) x) (goal_ok (length bs) y) r.place.scoped in
        let a = proving-at i p ds us o c bs x (ready-part r 5 x (first_part (octets "or") heads.1.0 r.place.framed.stands) (omega arith) ok) in
        let b = proving-at j p' ds us o c bs y (ready-kept a.kept l (ready-part r k y (second-found (octets "or") heads.1.0 r.place.framed.stands u e) (omega arith) ok')) in
        record { kept = keeps_then room mid after (omega arith) (omega arith) a.kept b.kept; answer = or_no a.answer z b.answer })

    -- an `all`, with one parameter more
    pub all-full : 64 ≤ w.parameters → ProvingAs W.All f room room w left false
    all-full l ds us o c bs g h r = absurd (omega (arith, r.enough.opened, l))

    pub all-goes : {after : List ℕ} {v : Where} {p : ℕ} {s : Bool} → p ≡ w.parameters + 1 → v ≡ bound w 6 p → Proving f (set room w.top (held (binding_word (Parameter p)))) after v left s → ProvingAs W.All f room after w left s
    unfolding spec.provable
    all-goes {after} {p = p} {s = s} e i k ds us o c bs g h =
        let (q, x, n) = goal-is g h in
        subst (Claim f room after ds us w (suc left) o c bs s) (sym n)
        (λ r.
        let a = proving-at i k ds us (q ∷ o) c (Parameter p ∷ bs) x (ready-all r 6 p q x e (first_part (octets "all") heads.1.1.1.0 r.place.framed.stands) (omega arith) r.place.scoped) in
        let same : p ≡ suc (length o) = omega (arith, r.place.openly) in
        record {
          kept = keeps_then room (set room w.top (held (binding_word (Parameter p)))) after (omega arith) (omega (arith, r.enough.bindings)) (keeps-push room w.supposed w.top (held (binding_word (Parameter p))) (omega (arith, r.enough.supposed)) (omega (arith, r.place.framed.above, r.place.tight)) (omega (arith, r.low))) a.kept;
          answer = a.answer ∙ ap (λ (m : ℕ). spec.provable (listed us) left (q ∷ o) c (Parameter m ∷ bs) x) same;
        })

    -- an `imp`, under its clause
    pub under-flat : left ≡ 0 → ProvingAs W.Imp f room room w left false
    unfolding spec.provable
    under-flat z ds us o c bs g h =
        let (d, x, n) = goal-is g h in
        subst (Claim f room room ds us w (suc left) o c bs false) (sym n)
        (λ r. record { kept = keeps_same room; answer = ap (λ (m : ℕ). spec.provable (listed us) m o (c ++ (record { clause = d; bindings = bs } ∷ [])) bs x) {x = 0} {y = left} (sym z) })

    pub under-lost : {q : Option ℕ} → PastAt (drop w.goal.at (bytes_at f w.goal)) 6 64 q → q ≡ None → ProvingAs W.Imp f room room w left false
    under-lost p e ds us o c bs g h =
        let (d, x, n) = goal-is g h in
        subst (Claim f room room ds us w (suc left) o c bs false) (sym n)
        (λ r. absurd (first_found (octets "imp") heads.1.1.1.1 r.place.framed.stands (omega (arith, r.place.framed.shallow)) p e))

    pub under_goes : {first mid after : List ℕ} {v : Where} {y : Spot} {q : Option ℕ} {m k : ℕ} {s : Bool} → (left ≡ 0 → ⊥) → y ≡ further w.goal 6 → m ≡ plus w.supposed 1 → v ≡ supposes w k → PastAt (drop w.goal.at (bytes_at f w.goal)) 6 64 q → q ≡ Some k
        → first ≡ supposing room w.supposed y → TableOnly first mid → Forgets first mid m → Proving f mid after v left s → ProvingAs W.Imp f room after w left s
    unfolding spec.provable
    under_goes {first} {mid} {after} {k = k} {s = s} z j e' i u e f' t t' p ds us o c bs g h =
        let (d, x, n) = goal-is g h in
        subst (Claim f room after ds us w (suc left) o c bs s) (sym n)
        (λ r.
        let (okd, ok) = both_of (clause_ok (length bs) d) (goal_ok (length bs) x) r.place.scoped in
        let st = r.place.framed.stands in
        let so = f' ∙ ap (supposing room w.supposed) j in
        let only = subst (λ (b : List ℕ). TableOnly b mid) so t in
        let gone = subst (λ (b : List ℕ). Forgets b mid (plus w.supposed 1)) so (subst (Forgets first mid) e' t') in
        let xs : Hand Plain = record { clause = d; bindings = bs } ∷ [] in
        let a = proving-at i p ds us o (c ++ xs) bs x (ready-under r 6 k d x z (first_part (octets "imp") heads.1.1.1.1 st) (omega arith) okd (second-found (octets "imp") heads.1.1.1.1 st u e) (omega arith) ok only gone) in
        record { kept = under-keeps r 6 xs z only gone a.kept; answer = a.answer })
