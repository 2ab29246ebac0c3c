-- From what the code reads of a goal at its spot (its word, and where its first part ends) to what a node says there.
use Rattle.std.specs.Prelude.{Some, None, Option}
use Prim.Native.Nat.{ℕ, ◌+◌, ◌≤◌}
use native.Mathlib.Omega.{arith}
use mathlib.Core.Path.{◌≡◌, refl, sym, ◌∙◌, ap, subst}
use mathlib.Core.List.{List}
use mathlib.Core.Bool.{Bool, true, false, ◌&&◌}
use lib.Dec.{ltb, leb}
use borrow.Author.Tests.{leb-true, leb-false}
use lib.ListN.{drop, set, get_or}
use Rattle.harrop.specs.Formula.{Term, Goal, Clause, Strip}
use Rattle.harrop.specs.Bindings.{Bindings}
use Rattle.harrop.specs.Place.{Hand, Plain, listed, allowed}
use Rattle.harrop.specs.Check.{Judged, here, check}
use Rattle.harrop.specs.declared.Binding.TheVariants.{Candidate, Parameter}
use Rattle.harrop.proofs.ListLaws.{beyond-none}
use Rattle.sexp.specs.Sexp.{Sexp, Stands, nesting}
use Rattle.sexp.specs.Past.{Ends}
use Rattle.sexp.proofs.StandLaws.{stands-inside, string-once}
use Rattle.sexp.specs.Decimal.{decimal}
use Rattle.sexp.specs.Words.{is_number, worth}
use Rattle.sexp.specs.WordsAt.{Numeral}
use Rattle.sexp.proofs.WordLaws.{worth-decimal, decimal-is}
use Rattle.sexp.proofs.WordsAtLaws.{numeral-stands}
use Rattle.sexp.proofs.FoundLaws.{ends-here}
use Rattle.packet.specs.Table.{rank}
use Rattle.reader.specs.WordAt.{WordAt}
use Rattle.packet.specs.Written.{number, goal_sexp}
use Rattle.packet.specs.declared.Word.{Word}
use Rattle.packet.specs.declared.Word.TheVariants as W
use Rattle.room.specs.Files.{Files}
use Rattle.room.specs.Frame.{binding_word, held}
use Rattle.room.specs.Layout.{candidates_word, highest_word}
use Rattle.room.proofs.FrameLaws.{held_same}
use Rattle.start.proofs.TableLaws.{table-allowed}
use Rattle.room.specs.Spot.{supposing}
use Rattle.room.specs.declared.Where.{Where}
use Rattle.room.proofs.WhereLaws.{file}
use Rattle.uses.specs.Heads.{strip_word, goal_word, NodeShape}
use Rattle.uses.specs.Walk.{Framed, Ready, Enters, plus, further, within, bound, supposes}
use Rattle.uses.specs.declared.Entered.{Entered}
use Rattle.uses.specs.declared.Entered.TheVariants as E
use Rattle.uses.proofs.HeadLaws.{part-stands, strip-says, goal-says, node-shape, shape_is, rank-once, not_top, not-and, not-or, not_some, not-all, not-imp}
use Rattle.uses.proofs.WalkLaws.{enter-is, strip-nests}
use Rattle.basics.specs.Text.{octets}
use Rattle.uses.proofs.NodeLaws.{heads, first_part, top-fits, and-fits, left-fits, right-fits, some_fits, all-fits, imp-fits, enters-misfit}

-- what a node is, where its word is known
pub node-is : (P : Strip) {v : Word} → strip_word P ≡ v → NodeShape v P
node-is P e = subst (λ (v : Word). NodeShape v P) e (node-shape P)

a-node : (P : Strip) (v : Word) → v ≡ strip_word P → (v ≡ W.Top → ⊥) → (v ≡ W.And → ⊥) → (v ≡ W.Some → ⊥) → (v ≡ W.All → ⊥) → (v ≡ W.Imp → ⊥) → (v ≡ W.Left → ⊥) → (v ≡ W.Right → ⊥) → (v ≡ W.Use → ⊥) → ⊥
unfolding strip_word
a-node Strip.top v e a b c d f g h i = a e
a-node (Strip.and P R) v e a b c d f g h i = b e
a-node (Strip.left P) v e a b c d f g h i = g e
a-node (Strip.right P) v e a b c d f g h i = h e
a-node (Strip.some j P) v e a b c d f g h i = c e
a-node (Strip.all P) v e a b c d f g h i = d e
a-node (Strip.imp P) v e a b c d f g h i = f e
a-node (Strip.use₀ k path) v e a b c d f g h i = i e
a-node (Strip.use₁ k path P) v e a b c d f g h i = i e

-- words with the same place in the table are the same, and those with different ones are not
pub word-other : {a b : Word} {m n : ℕ} → m ≡ rank a → n ≡ rank b → (m ≡ n → ⊥) → a ≡ b → ⊥
word-other p q o e = o (p ∙ (ap rank e ∙ sym q))

pub word-same : {a b : Word} {m n : ℕ} → m ≡ rank a → n ≡ rank b → m ≡ n → a ≡ b
word-same {a} {b} p q e = rank-once a b (sym p ∙ (e ∙ q))

-- equal parts, equal answers
pub one_alike : {a b : ℕ} {x y : Where} → a ≡ b → x ≡ y → Some (E.One a x) ≡ Some (E.One b y)
one_alike p q = cc

pub two-alike : {a b : ℕ} {x y x' y' : Where} → a ≡ b → x ≡ y → x' ≡ y' → Some (E.Two a x x') ≡ Some (E.Two b y y')
two-alike p q r = cc

-- what is said of a room and an answer is said of equal ones
pub says-as : {f : Files} {ss room after after' : List ℕ} {ds : List (Clause Plain)} {us : List Term} {w : Where} {at : ℕ} {P : Strip} {j : Judged} {r e : Option Entered} → after ≡ after' → r ≡ e → Enters f ss room after' ds us w at P j e → Enters f ss room after ds us w at P j r
says-as {f} {ss} {room} {after} {after'} {ds} {us} {w} {at} {P} {j} {r} {e} p q x = subst (λ (y : List ℕ). Enters f ss room y ds us w at P j r) (sym p) (enter-is (sym q) x)

-- what was read at an offset that is known by another name
pub numeral-from : {s : List ℕ} {a b n : ℕ} → a ≡ b → Numeral s a n → Numeral s b n
numeral-from {s} {n = n} e h = subst (λ (j : ℕ). Numeral s j n) e h

pub no-numeral-from : {s : List ℕ} {a b : ℕ} → a ≡ b → ((u : List ℕ) → Stands s a (Sexp.str u) → is_number u ≡ true → ⊥) → (u : List ℕ) → Stands s b (Sexp.str u) → is_number u ≡ true → ⊥
no-numeral-from {s} e h u st n = h u (subst (λ (j : ℕ). Stands s j (Sexp.str u)) (sym e) st) n

pub ends-from : {s : List ℕ} {a b k n : ℕ} → a ≡ b → Ends s a k n → Ends s b k n
ends-from {s} {k = k} {n} e h = subst (λ (j : ℕ). Ends s j k n) e h

pub nothing-from : {s : List ℕ} {a b k : ℕ} → a ≡ b → ((e : Sexp) → Stands s a e → nesting e ≤ k → ⊥) → (e : Sexp) → Stands s b e → nesting e ≤ k → ⊥
nothing-from {s} p h e st n = h e (subst (λ (j : ℕ). Stands s j e) (sym p) st) n

module _ {f : Files} {ss room : List ℕ} {ds : List (Clause Plain)} {us : List Term} {w : Where} {at nest : ℕ} {o : List Plain} {c : Hand Plain} {bs : Bindings} where
  -- an answer for the node and the goal that are known to be there
  pub as-known : {after : List ℕ} {P P₀ : Strip} {g g₀ : Goal Plain} {r : Option Entered} → P ≡ P₀ → g ≡ g₀ → (Ready f ss room ds us w at nest P₀ o c bs g₀ → Enters f ss room after ds us w at P₀ (check (listed us) P₀ o c bs g₀) r) → Ready f ss room ds us w at nest P o c bs g → Enters f ss room after ds us w at P (check (listed us) P o c bs g) r
  as-known {after} {P} {P₀} {g} {g₀} {r} e d k x =
      subst (λ (y : Goal Plain). Enters f ss room after ds us w at P (check (listed us) P o c bs y) r) (sym d)
      (subst (λ (Y : Strip). Enters f ss room after ds us w at Y (check (listed us) Y o c bs g₀) r) (sym e) (k (subst (λ (y : Goal Plain). Ready f ss room ds us w at nest P₀ o c bs y) d (subst (λ (Y : Strip). Ready f ss room ds us w at nest Y o c bs g) e x))))

  -- the word that was read is the goal's
  pub word_read : {P : Strip} {g : Goal Plain} {v : Word} (x : Ready f ss room ds us w at nest P o c bs g) → WordAt (drop w.goal.at (file x.place)) 1 v → v ≡ goal_word g
  word_read {g = g} {v} x a = goal-says (drop w.goal.at (file x.place)) 0 g v (part-stands x.place.framed.stands) a

  -- the goal has another word: the node does not fit
  pub misfit-known : {P P₀ : Strip} {g : Goal Plain} → Ready f ss room ds us w at nest P o c bs g → P ≡ P₀ → check (listed us) P₀ o c bs g ≡ here → Enters f ss room room ds us w at P (check (listed us) P o c bs g) None
  misfit-known {P} {P₀} {g} x e h = subst (λ (Y : Strip). Enters f ss room room ds us w at Y (check (listed us) Y o c bs g) None) (sym e) (enters-misfit h)

  -- a sum of offsets in the strip is exact
  pub strip-plus : {P : Strip} {g : Goal Plain} (k : ℕ) → Ready f ss room ds us w at nest P o c bs g → k ≤ 16384 → plus at k ≡ at + k
  strip-plus k x l = let i = stands-inside x.stands in omega (arith, x.small)

  pub top-other : {P : Strip} {g : Goal Plain} {v : Word} → strip_word P ≡ W.Top → (x : Ready f ss room ds us w at nest P o c bs g) → WordAt (drop w.goal.at (file x.place)) 1 v → (v ≡ W.Top → ⊥) → Enters f ss room room ds us w at P (check (listed us) P o c bs g) None
  top-other {P} {g} {v} q x a n = misfit-known x (node-is P q) (rw (not_top g (λ e. n (rank-once v W.Top (ap rank (word_read x a) ∙ e)))) refl)

  pub and-other : {P : Strip} {g : Goal Plain} {v : Word} → strip_word P ≡ W.And → (x : Ready f ss room ds us w at nest P o c bs g) → WordAt (drop w.goal.at (file x.place)) 1 v → (v ≡ W.And → ⊥) → Enters f ss room room ds us w at P (check (listed us) P o c bs g) None
  and-other {P} {g} {v} q x a n = misfit-known x (node-is P q).2 (rw (not-and g (λ e. n (rank-once v W.And (ap rank (word_read x a) ∙ e)))) refl)

  pub left_other : {P : Strip} {g : Goal Plain} {v : Word} → strip_word P ≡ W.Left → (x : Ready f ss room ds us w at nest P o c bs g) → WordAt (drop w.goal.at (file x.place)) 1 v → (v ≡ W.Or → ⊥) → Enters f ss room room ds us w at P (check (listed us) P o c bs g) None
  left_other {P} {g} {v} q x a n = misfit-known x (node-is P q).1 (rw (not-or g (λ e. n (rank-once v W.Or (ap rank (word_read x a) ∙ e)))) refl)

  pub right-other : {P : Strip} {g : Goal Plain} {v : Word} → strip_word P ≡ W.Right → (x : Ready f ss room ds us w at nest P o c bs g) → WordAt (drop w.goal.at (file x.place)) 1 v → (v ≡ W.Or → ⊥) → Enters f ss room room ds us w at P (check (listed us) P o c bs g) None
  right-other {P} {g} {v} q x a n = misfit-known x (node-is P q).1 (rw (not-or g (λ e. n (rank-once v W.Or (ap rank (word_read x a) ∙ e)))) refl)

  pub all-other : {P : Strip} {g : Goal Plain} {v : Word} → strip_word P ≡ W.All → (x : Ready f ss room ds us w at nest P o c bs g) → WordAt (drop w.goal.at (file x.place)) 1 v → (v ≡ W.All → ⊥) → Enters f ss room room ds us w at P (check (listed us) P o c bs g) None
  all-other {P} {g} {v} q x a n = misfit-known x (node-is P q).1 (rw (not-all g (λ e. n (rank-once v W.All (ap rank (word_read x a) ∙ e)))) refl)

  pub imp-other : {P : Strip} {g : Goal Plain} {v : Word} → strip_word P ≡ W.Imp → (x : Ready f ss room ds us w at nest P o c bs g) → WordAt (drop w.goal.at (file x.place)) 1 v → (v ≡ W.Imp → ⊥) → Enters f ss room room ds us w at P (check (listed us) P o c bs g) None
  imp-other {P} {g} {v} q x a n = misfit-known x (node-is P q).1 (rw (not-imp g (λ e. n (rank-once v W.Imp (ap rank (word_read x a) ∙ e)))) refl)

  pub top-same : {P : Strip} {g : Goal Plain} {v : Word} → strip_word P ≡ W.Top → (x : Ready f ss room ds us w at nest P o c bs g) → WordAt (drop w.goal.at (file x.place)) 1 v → v ≡ W.Top → Enters f ss room room ds us w at P (check (listed us) P o c bs g) (Some (E.Leaf (plus at 7)))
  top-same {P} {g} {v} q x a n = enter-is (ap (λ (i : ℕ). Some (E.Leaf i)) (sym (strip-plus 7 x (omega arith)))) (as-known (node-is P q) (shape_is g (sym (word_read x a) ∙ n)) (λ y. top-fits y) x)

  pub left-same : {P : Strip} {g : Goal Plain} {v : Word} → strip_word P ≡ W.Left → (x : Ready f ss room ds us w at nest P o c bs g) → WordAt (drop w.goal.at (file x.place)) 1 v → v ≡ W.Or → Enters f ss room room ds us w at P (check (listed us) P o c bs g) (Some (E.One (plus at 7) (within w 5)))
  left-same {P} {g} {v} q x a n =
      let k = shape_is g (sym (word_read x a) ∙ n) in
      enter-is (ap (λ (i : ℕ). Some (E.One i (within w 5))) (sym (strip-plus 7 x (omega arith)))) (as-known (node-is P q).1 k.2 (λ y. left-fits y) x)

  pub all_same : {P : Strip} {g : Goal Plain} {v : Word} → strip_word P ≡ W.All → (x : Ready f ss room ds us w at nest P o c bs g) → WordAt (drop w.goal.at (file x.place)) 1 v → v ≡ W.All → Enters f ss room (set room w.top (held (binding_word (Parameter (w.parameters + 1))))) ds us w at P (check (listed us) P o c bs g) (Some (E.One (plus at 6) (bound w 6 (w.parameters + 1))))
  all_same {P} {g} {v} q x a n =
      let k = shape_is g (sym (word_read x a) ∙ n) in
      enter-is (ap (λ (i : ℕ). Some (E.One i (bound w 6 (w.parameters + 1)))) (sym (strip-plus 6 x (omega arith)))) (as-known (node-is P q).1 k.2 (λ y. all-fits y) x)

  pub and_same : {P : Strip} {g : Goal Plain} {v : Word} {m : ℕ} → strip_word P ≡ W.And → (x : Ready f ss room ds us w at nest P o c bs g) → WordAt (drop w.goal.at (file x.place)) 1 v → v ≡ W.And → Ends (drop w.goal.at (file x.place)) 6 64 m → Enters f ss room room ds us w at P (check (listed us) P o c bs g) (Some (E.Two (plus at 6) (within w 6) (within w m)))
  and_same {P} {g} {v} {m} q x a n ends =
      let k = shape_is g (sym (word_read x a) ∙ n) in
      let y = subst (λ (h : Goal Plain). Stands (file x.place) w.goal.at (goal_sexp h)) k.2 x.place.framed.stands in
      let e = ends-here (first_part (octets "and") heads.1.0 (part-stands y)) ends in
      enter-is (ap (λ (i : ℕ). Some (E.Two i (within w 6) (within w m))) (sym (strip-plus 6 x (omega arith)))) (as-known (node-is P q).2 k.2 (λ z. and-fits z e) x)

  pub right-same : {P : Strip} {g : Goal Plain} {v : Word} {m : ℕ} → strip_word P ≡ W.Right → (x : Ready f ss room ds us w at nest P o c bs g) → WordAt (drop w.goal.at (file x.place)) 1 v → v ≡ W.Or → Ends (drop w.goal.at (file x.place)) 5 64 m → Enters f ss room room ds us w at P (check (listed us) P o c bs g) (Some (E.One (plus at 8) (within w m)))
  right-same {P} {g} {v} {m} q x a n ends =
      let k = shape_is g (sym (word_read x a) ∙ n) in
      let y = subst (λ (h : Goal Plain). Stands (file x.place) w.goal.at (goal_sexp h)) k.2 x.place.framed.stands in
      let e = ends-here (first_part (octets "or") heads.1.1.0 (part-stands y)) ends in
      enter-is (ap (λ (i : ℕ). Some (E.One i (within w m))) (sym (strip-plus 8 x (omega arith)))) (as-known (node-is P q).1 k.2 (λ z. right-fits z e) x)

  pub imp-same : {P : Strip} {g : Goal Plain} {v : Word} {m : ℕ} → strip_word P ≡ W.Imp → (x : Ready f ss room ds us w at nest P o c bs g) → WordAt (drop w.goal.at (file x.place)) 1 v → v ≡ W.Imp → Ends (drop w.goal.at (file x.place)) 6 64 m → Enters f ss room (supposing room w.supposed (further w.goal 6)) ds us w at P (check (listed us) P o c bs g) (Some (E.One (plus at 6) (supposes w m)))
  imp-same {P} {g} {v} {m} q x a n ends =
      let k = shape_is g (sym (word_read x a) ∙ n) in
      let y = subst (λ (h : Goal Plain). Stands (file x.place) w.goal.at (goal_sexp h)) k.2 x.place.framed.stands in
      let e = ends-here (first_part (octets "imp") heads.1.1.1.1.1.1.1.0 (part-stands y)) ends in
      enter-is (ap (λ (i : ℕ). Some (E.One i (supposes w m))) (sym (strip-plus 6 x (omega arith)))) (as-known (node-is P q).1 k.2 (λ z. imp-fits z e) x)

  -- the first part is always there
  pub and-never : {P : Strip} {g : Goal Plain} {v : Word} → strip_word P ≡ W.And → (x : Ready f ss room ds us w at nest P o c bs g) → WordAt (drop w.goal.at (file x.place)) 1 v → v ≡ W.And → ((e : Sexp) → Stands (drop w.goal.at (file x.place)) 6 e → nesting e ≤ 64 → ⊥) → ⊥
  and-never {P} {g} {v} q x a n never =
      let k = shape_is g (sym (word_read x a) ∙ n) in
      let y = subst (λ (h : Goal Plain). Framed f room w.goal w.top (goal_sexp h) bs) k.2 x.place.framed in
      never _ (first_part (octets "and") heads.1.0 (part-stands y.stands)) (omega (arith, y.shallow))

  -- the first part is always there
  pub right-never : {P : Strip} {g : Goal Plain} {v : Word} → strip_word P ≡ W.Right → (x : Ready f ss room ds us w at nest P o c bs g) → WordAt (drop w.goal.at (file x.place)) 1 v → v ≡ W.Or → ((e : Sexp) → Stands (drop w.goal.at (file x.place)) 5 e → nesting e ≤ 64 → ⊥) → ⊥
  right-never {P} {g} {v} q x a n never =
      let k = shape_is g (sym (word_read x a) ∙ n) in
      let y = subst (λ (h : Goal Plain). Framed f room w.goal w.top (goal_sexp h) bs) k.2 x.place.framed in
      never _ (first_part (octets "or") heads.1.1.0 (part-stands y.stands)) (omega (arith, y.shallow))

  -- the first part is always there
  pub imp-never : {P : Strip} {g : Goal Plain} {v : Word} → strip_word P ≡ W.Imp → (x : Ready f ss room ds us w at nest P o c bs g) → WordAt (drop w.goal.at (file x.place)) 1 v → v ≡ W.Imp → ((e : Sexp) → Stands (drop w.goal.at (file x.place)) 6 e → nesting e ≤ 64 → ⊥) → ⊥
  imp-never {P} {g} {v} q x a n never =
      let k = shape_is g (sym (word_read x a) ∙ n) in
      let y = subst (λ (h : Goal Plain). Framed f room w.goal w.top (goal_sexp h) bs) k.2 x.place.framed in
      never _ (first_part (octets "imp") heads.1.1.1.1.1.1.1.0 (part-stands y.stands)) (omega (arith, y.shallow))

  -- there is always room for one parameter more
  pub all-never : {P : Strip} {g : Goal Plain} → Ready f ss room ds us w at nest P o c bs g → 64 ≤ w.parameters → ⊥
  all-never {P} x l = let z = strip-nests P in omega (arith, x.nests, x.enough.opened)

  pub some-other : {P : Strip} {g : Goal Plain} {v : Word} → strip_word P ≡ W.Some → (x : Ready f ss room ds us w at nest P o c bs g) → WordAt (drop w.goal.at (file x.place)) 1 v → (v ≡ W.Some → ⊥) → Enters f ss room room ds us w at P (check (listed us) P o c bs g) None
  some-other {P} {g} {v} q x a n = misfit-known x (node-is P q).2 (rw (not_some g (λ e. n (rank-once v W.Some (ap rank (word_read x a) ∙ e)))) refl)

  -- a candidate that may not be used
  pub some-barred : {i : ℕ} {X : Strip} {q : Plain} {a : Goal Plain} → Ready f ss room ds us w at nest (Strip.some i X) o c bs (Goal.some q a) → allowed (listed us) o q i ≡ false → Enters f ss room room ds us w at (Strip.some i X) (check (listed us) (Strip.some i X) o c bs (Goal.some q a)) None
  some-barred x e = enters-misfit (rw e refl)

  -- the number that was read is the node's
  pub some_number : {i k : ℕ} {X : Strip} {g : Goal Plain} (x : Ready f ss room ds us w at nest (Strip.some i X) o c bs g) → Numeral ss (plus at 7) k → k ≡ i
  some_number {i} {k} {X} x n =
      let y = first_part (octets "some") heads.1.1.1.1.1.0 x.stands in
      let z = (numeral-stands n).1 in
      let e = string-once (subst (λ (j : ℕ). Stands ss j (Sexp.str (decimal k))) (strip-plus 7 x (omega arith)) z) y in
      sym (worth-decimal k) ∙ (ap worth e ∙ worth-decimal i)

  -- no candidate has so high a number
  pub some-beyond : {i : ℕ} {X : Strip} {q : Plain} {a : Goal Plain} (x : Ready f ss room ds us w at nest (Strip.some i X) o c bs (Goal.some q a)) → ((v : List ℕ) → Stands ss (plus at 7) (Sexp.str v) → is_number v ≡ true → ⊥) → allowed (listed us) o q i ≡ false
  some-beyond {i} {X} {q} {a} x never = go (leb i 999) refl
    where
      go : (t : Bool) → leb i 999 ≡ t → allowed (listed us) o q i ≡ false
      go true e = absurd (never (decimal i) (subst (λ (j : ℕ). Stands ss j (Sexp.str (decimal i))) (sym (strip-plus 7 x (omega arith))) (first_part (octets "some") heads.1.1.1.1.1.0 x.stands)) (decimal-is i (leb-true i 999 e)))
      go false e = let l = leb-false i 999 e in rw (beyond-none us i (omega (arith, x.place.booked.candidates.few)), allowed) refl

  -- what the table says of a candidate
  pub some-may : {P : Strip} {g : Goal Plain} (i : ℕ) (q : Plain) → (x : Ready f ss room ds us w at nest P o c bs g) → (ltb i (get_or room candidates_word 0) && leb (get_or room (highest_word i) 0) w.parameters) ≡ allowed (listed us) o q i
  some-may i q x = subst (λ (p : ℕ). (ltb i (get_or room candidates_word 0) && leb (get_or room (highest_word i) 0) p) ≡ allowed (listed us) o q i) x.place.openly (table-allowed room f.terms us o q i x.place.booked.candidates)

  pub some_same : {P : Strip} {g : Goal Plain} {v : Word} {k start : ℕ} → strip_word P ≡ W.Some → (x : Ready f ss room ds us w at nest P o c bs g) → WordAt (drop w.goal.at (file x.place)) 1 v → v ≡ W.Some → Numeral ss (plus at 7) k → (ltb k (get_or room candidates_word 0) && leb (get_or room (highest_word k) 0) w.parameters) ≡ true → Ends ss (plus at 7) 0 start → Enters f ss room (set room w.top (held (binding_word (Candidate (held k))))) ds us w at P (check (listed us) P o c bs g) (Some (E.One start (bound w 7 w.parameters)))
  some_same {P} {g} {v} {k} {start} q x a n num may ends =
      let (i, X, e) = node-is P q in
      let (r, b, d) = shape_is g (sym (word_read x a) ∙ n) in
      as-known e d (λ y. found y) x
    where
      found : {i : ℕ} {X : Strip} {r : Plain} {b : Goal Plain} → Ready f ss room ds us w at nest (Strip.some i X) o c bs (Goal.some r b) → Enters f ss room (set room w.top (held (binding_word (Candidate (held k))))) ds us w at (Strip.some i X) (check (listed us) (Strip.some i X) o c bs (Goal.some r b)) (Some (E.One start (bound w 7 w.parameters)))
      found {i} {X} {r} {b} y =
          let same = some_number y num in
          let small = held_same k (omega (arith, (numeral-stands num).0)) in
          let st = strip-plus 7 y (omega arith) in
          let here' = first_part (octets "some") heads.1.1.1.1.1.0 y.stands in
          let at' = ends-here (subst (λ (j : ℕ). Stands ss j (number i)) (sym st) here') ends in
          subst (λ (j : ℕ). Enters f ss room (set room w.top (held (binding_word (Candidate j)))) ds us w at (Strip.some i X) (check (listed us) (Strip.some i X) o c bs (Goal.some r b)) (Some (E.One start (bound w 7 w.parameters)))) (sym same ∙ sym small)
          (some_fits y (sym (some-may i r y) ∙ subst (λ (j : ℕ). (ltb j (get_or room candidates_word 0) && leb (get_or room (highest_word j) 0) w.parameters) ≡ true) same may) (omega arith))

  -- the answers without a part
  pub some-nothing : {P : Strip} {g : Goal Plain} {v : Word} → strip_word P ≡ W.Some → (x : Ready f ss room ds us w at nest P o c bs g) → WordAt (drop w.goal.at (file x.place)) 1 v → v ≡ W.Some → ((u : List ℕ) → Stands ss (plus at 7) (Sexp.str u) → is_number u ≡ true → ⊥) → Enters f ss room room ds us w at P (check (listed us) P o c bs g) None
  some-nothing {P} {g} {v} q x a n never =
      let (i, X, e) = node-is P q in
      let (r, b, d) = shape_is g (sym (word_read x a) ∙ n) in
      as-known e d (λ y. some-barred y (some-beyond y never)) x

  pub some-refused : {P : Strip} {g : Goal Plain} {v : Word} {k : ℕ} → strip_word P ≡ W.Some → (x : Ready f ss room ds us w at nest P o c bs g) → WordAt (drop w.goal.at (file x.place)) 1 v → v ≡ W.Some → Numeral ss (plus at 7) k → (ltb k (get_or room candidates_word 0) && leb (get_or room (highest_word k) 0) w.parameters) ≡ false → Enters f ss room room ds us w at P (check (listed us) P o c bs g) None
  some-refused {P} {g} {v} {k} q x a n num may =
      let (i, X, e) = node-is P q in
      let (r, b, d) = shape_is g (sym (word_read x a) ∙ n) in
      as-known e d (λ y. some-barred y (sym (some-may i r y) ∙ subst (λ (j : ℕ). (ltb j (get_or room candidates_word 0) && leb (get_or room (highest_word j) 0) w.parameters) ≡ false) (some_number y num) may)) x

  pub some-never : {P : Strip} {g : Goal Plain} {k : ℕ} → strip_word P ≡ W.Some → Ready f ss room ds us w at nest P o c bs g → Numeral ss (plus at 7) k → ((e : Sexp) → Stands ss (plus at 7) e → nesting e ≤ 0 → ⊥) → ⊥
  some-never q x num never = never _ num.stands (omega arith)

  -- the word that was read is the node's
  pub node-word : {P : Strip} {g : Goal Plain} {v : Word} {i : ℕ} (k : Word) → Ready f ss room ds us w at nest P o c bs g → i ≡ plus at 1 → WordAt ss i v → v ≡ k → strip_word P ≡ k
  node-word {P} {g} {v} {i} k x e a q = sym (strip-says ss at P v x.stands (subst (λ (j : ℕ). WordAt ss j v) (e ∙ strip-plus 1 x (omega arith)) a)) ∙ q

  -- a node has one of the table's words for a node
  pub no_node : {P : Strip} {g : Goal Plain} {v : Word} {i : ℕ} → Ready f ss room ds us w at nest P o c bs g → i ≡ plus at 1 → WordAt ss i v → (v ≡ W.Top → ⊥) → (v ≡ W.And → ⊥) → (v ≡ W.Some → ⊥) → (v ≡ W.All → ⊥) → (v ≡ W.Imp → ⊥) → (v ≡ W.Left → ⊥) → (v ≡ W.Right → ⊥) → (v ≡ W.Use → ⊥) → ⊥
  no_node {P} {g} {v} x e a = a-node P v (strip-says ss at P v x.stands (subst (λ (j : ℕ). WordAt ss j v) (e ∙ strip-plus 1 x (omega arith)) a))
