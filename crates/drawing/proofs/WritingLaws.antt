-- The first strip of a goal, by its word: what is drawn for its parts, behind its head and before its closing parenthesis, is the strip of the goal, and what its place relies on is kept (document 01, "Which strip the search writes").
-- Each law ends in the contract of a function of crate writer, src/write.
use Prim.Native.Nat.{ℕ, suc, ◌+◌, ◌-◌, ◌≤◌, ◌<◌}
use native.Mathlib.Omega.{arith}
use native.Mathlib.Numerals.{sub-one}
use mathlib.Core.Path.{◌≡◌, refl, sym, ◌∙◌, ap, subst}
use mathlib.Core.Bool.{Bool, true, false}
use mathlib.Core.List.{List, [], ◌∷◌, ◌++◌}
use mathlib.Core.Option.{Option, none, some}
use lib.ListN.{length, drop, set}
use Rattle.basics.specs.Choice.{◌>>=◌, nope, bind-some}
use Rattle.basics.specs.Text.{octets}
use Rattle.harrop.specs.declared.Binding.TheVariants.{Candidate, Parameter}
use Rattle.harrop.specs.Formula.{Term, Goal, Clause, Strip, height}
use Rattle.harrop.specs.Bindings.{Bindings}
use Rattle.harrop.specs.Place.{Hand, Plain, listed}
use Rattle.harrop.specs.Search.{first}
use Rattle.harrop.proofs.FirstLaws.{first-within}
use Rattle.harrop.proofs.FoundLaws.{found-is-first}
use Rattle.std.specs.Prelude as std
use Rattle.std.specs.Prelude.{Some, None}
use Rattle.sexp.specs.Past.{PastAt}
use Rattle.packet.specs.declared.Word.{Word}
use Rattle.packet.specs.declared.Word.TheVariants as W
use Rattle.reader.specs.WordAt.{WordAt}
use Rattle.packet.specs.declared.Kind.TheVariants as K
use Rattle.rows.specs.Rows.{row_of}
use Rattle.packet.specs.Table.{due_after}
use Rattle.packet.specs.Barred.{goal_ok, clause_ok}
use Rattle.room.specs.Frame.{binding_word, held}
use Rattle.room.specs.Spot.{supposing}
use Rattle.room.specs.Where.{plus, further, within, bound, supposes}
use Rattle.room.specs.Files.{Files}
use Rattle.room.specs.declared.Spot.{Spot}
use Rattle.room.specs.declared.Where.{Where}
use Rattle.table.specs.Recall.{TableOnly, Forgets}
use Rattle.proving.specs.Provable.{provable}
use Rattle.proving.specs.Proving.{Ready, Proving, proves_with}
use Rattle.heads.proofs.HeadLaws.{goal-says, goal-is, goal-has-row, heads, first_part, second-found, first_found}
use Rattle.proving.proofs.StockLaws.{keeps_same, keeps_then, keeps-push}
use Rattle.proving.proofs.ReadyLaws.{ready-kept, ready-part, ready_with, ready-all, ready-under, under-keeps}
use Rattle.proving.proofs.ProvingLaws.{bytes_at, both_of, proving-at}
use Rattle.pen.specs.Numeral.{numeral}
use Rattle.pen.specs.Laid.{Puts}
use Rattle.drawing.specs.Drawn.{beside, Closes, Draws}
use Rattle.drawing.specs.Chosen.{candidate_from}
use Rattle.drawing.specs.Writing.{Did, Writing, WritingAs, FirstWith}
use Rattle.drawing.specs.declared.Drawn.{Drawn}
use Rattle.drawing.proofs.ChosenLaws.{first_some}
use Rattle.drawing.proofs.TakenLaws.{took-top, took-and, took-left, took-right, took-some, took-all, took-imp}
use Rattle.drawing.proofs.DrawLaws.{draws-and, draws-left, draws-right, draws-some, draws-all, draws-imp}
use Rattle.drawing.proofs.PathingLaws.{GoalClaim, writing-at, chosen-below}

-- a call's promise from the room that the code made
pub writing-from : {f : Files} {room now after d d' : List ℕ} {w : Where} {h at : ℕ} {r : Drawn} → now ≡ room → Writing f now after d d' w h at r → Writing f room after d d' w h at r
writing-from {f} {after = after} {d = d} {d' = d'} {w = w} {h = h} {at = at} {r = r} e p = subst (λ (z : List ℕ). Writing f z after d d' w h at r) e p

-- a first strip is 64 high at most
low : {f : Files} {room : List ℕ} {ds : List (Clause Plain)} {us : List Term} {w : Where} {h : ℕ} {o : List Plain} {c : Hand Plain} {bs : Bindings} {g : Goal Plain} {S : Strip} → Ready f room ds us w h o c bs g → first (listed us) h o c bs g ≡ some S → height S ≤ 64
low {us = us} {h = h} {o = o} {c = c} {bs = bs} {g = g} {S = S} r e = omega (arith, first-within (listed us) (found-is-first (listed us) h o c bs g S e), r.enough.supposed)

-- a strip drawn as the one that it is
drawn-as : {at : ℕ} {S T : Strip} {d d' : List ℕ} {r : Drawn} → S ≡ T → (height T ≤ 64 → Draws at T d d' r) → height S ≤ 64 → Draws at S d d' r
drawn-as {at} {d = d} {d' = d'} {r = r} e p l = subst (λ (R : Strip). height R ≤ 64 → Draws at R d d' r) (sym e) p l

-- the candidate that is chosen for a `some`
some-chosen : (us : List Term) (left : ℕ) (o : List Plain) (c : Hand Plain) (bs : Bindings) (q : Plain) (g : Goal Plain) (S : Strip) → first (listed us) (suc left) o c bs (Goal.some q g) ≡ some S → (i : ℕ) × (candidate_from (listed us) o q (proves_with us left o c bs g) 0 ≡ some i)
some-chosen us left o c bs q g S e =
    let (i, k, z) = bind-some (candidate_from (listed us) o q (proves_with us left o c bs g) 0) (λ i. first (listed us) left o c (Candidate i ∷ bs) g >>= λ P. some (Strip.some i P)) S (sym (first_some (listed us) left o c bs q g) ∙ e) in
    (i, k)

module _ {f : Files} {room : List ℕ} {w : Where} {at : ℕ} {d : List ℕ} {r : Drawn} where
  -- no height, no strip
  pub no-height : {after d' : List ℕ} (h : ℕ) → h ≡ 0 → Writing f room after d d' w h at r
  no-height h e ds us o c bs g S rd q = nope (ap (λ (n : ℕ). first (listed us) n o c bs g) {x = 0} {y = h} (sym e) ∙ q)

  -- a goal by its word
  pub by_word : {after d' : List ℕ} (h : ℕ) (word k : Word) → (h ≡ 0 → ⊥) → WordAt (drop w.goal.at (bytes_at f w.goal)) 1 k → k ≡ word → WritingAs word f room after d d' w (h - 1) at r → Writing f room after d d' w h at r
  by_word {after} {d'} h word k z q e p ds us o c bs g S rd =
      let n : suc (h - 1) ≡ h = omega arith in
      subst (λ (m : ℕ). GoalClaim f room after d d' ds us w m at r o c bs S g) n
      (p ds us o c bs g S (sym (goal-says (bytes_at f w.goal) w.goal.at g k rd.place.framed.stands q) ∙ e)) rd

  -- no goal has any other word
  pub by-other : {after d' : List ℕ} (h : ℕ) (k : Word) → WordAt (drop w.goal.at (bytes_at f w.goal)) 1 k → None ≡ row_of (due_after K.Goal k) → Writing f room after d d' w h at r
  by-other h k q n ds us o c bs g S rd e = absurd (goal-has-row g k (goal-says (bytes_at f w.goal) w.goal.at g k rd.place.framed.stands q) n)

  pub top-drawn : {d' : List ℕ} (left : ℕ) → Draws at Strip.top d d' r → WritingAs W.Top f room room d d' w left at r
  top-drawn {d'} left p ds us o c bs g S h =
      subst (GoalClaim f room room d d' ds us w (suc left) at r o c bs S) (sym (goal-is g h))
      (λ rd e. record { kept = keeps_same room; done = drawn-as (took-top (listed us) o c bs S (suc left) (λ z. absurd (omega arith)) e) (λ l. p) (low rd e) })

  module _ {left : ℕ} where
    -- the part of an `and` or an `or` is always found
    pub both-lost : {after d' : List ℕ} {q : std.Option ℕ} → PastAt (drop w.goal.at (bytes_at f w.goal)) 6 64 q → q ≡ None → WritingAs W.And f room after d d' w left at r
    both-lost {after} {d'} p e ds us o c bs g S h =
        let (x, y, n) = goal-is g h in
        subst (GoalClaim f room after d d' ds us w (suc left) at r o c bs S) (sym n)
        (λ rd u. absurd (first_found (octets "and") heads.0 rd.place.framed.stands (omega (arith, rd.place.framed.shallow)) p e))

    pub both-drawn : {mid after d1 d2 d3 d4 : List ℕ} {v v' : Where} {q : std.Option ℕ} {k m : ℕ} {a b s : Drawn} → PastAt (drop w.goal.at (bytes_at f w.goal)) 6 64 q → q ≡ Some k → Puts at (octets "(3:and") d d1 m → v ≡ within w 6 → Writing f room mid d1 d2 v left m a → length mid ≡ length room → v' ≡ within w k → Writing f mid after d2 d3 v' left a.at b → s ≡ beside a b → Closes s d3 d4 r → WritingAs W.And f room after d d4 w left at r
    both-drawn {mid} {after} {d3 = d3} {d4 = d4} {k = k} {a = a} {b = b} u e head i p l j p' t close ds us o c bs g S h =
        let (x, y, n) = goal-is g h in
        subst (GoalClaim f room after d d4 ds us w (suc left) at r o c bs S) (sym n)
        (λ rd z.
        let (X, Y, fx, fy, is) = rw sub-one at (took-and (listed us) o c bs S (suc left) x y (λ z. absurd (omega arith)) z) in
        let (ok, ok') = both_of (goal_ok (length bs) x) (goal_ok (length bs) y) rd.place.scoped in
        let one = writing-at i p ds us o c bs x X (ready-part rd 6 x (first_part (octets "and") heads.0 rd.place.framed.stands) (omega arith) ok) fx in
        let two = writing-at j p' ds us o c bs y Y (ready-kept one.kept l (ready-part rd k y (second-found (octets "and") heads.0 rd.place.framed.stands u e) (omega arith) ok')) fy in
        record {
          kept = keeps_then room mid after (omega arith) (omega arith) one.kept two.kept;
          done = drawn-as is (λ l. draws-and l head one.done two.done (subst (λ (y : Drawn). Closes y d3 d4 r) t close)) (low rd z);
        })

    pub either-lost : {after d' : List ℕ} {q : std.Option ℕ} → PastAt (drop w.goal.at (bytes_at f w.goal)) 5 64 q → q ≡ None → WritingAs W.Or f room after d d' w left at r
    either-lost {after} {d'} p e ds us o c bs g S h =
        let (x, y, n) = goal-is g h in
        subst (GoalClaim f room after d d' ds us w (suc left) at r o c bs S) (sym n)
        (λ rd u. absurd (first_found (octets "or") heads.1.0 rd.place.framed.stands (omega (arith, rd.place.framed.shallow)) p e))

    pub either_left : {mid after d1 d2 d3 : List ℕ} {v v' : Where} {m : ℕ} {s : Bool} {a : Drawn} → v ≡ within w 5 → Proving f room mid v left s → s ≡ true → length mid ≡ length room → Puts at (octets "(4:left") d d1 m → v' ≡ within w 5 → Writing f mid after d1 d2 v' left m a → Closes a d2 d3 r → WritingAs W.Or f room after d d3 w left at r
    either_left {mid} {after} {d3 = d3} i y t l head j p close ds us o c bs g S h =
        let (x, x', n) = goal-is g h in
        subst (GoalClaim f room after d d3 ds us w (suc left) at r o c bs S) (sym n)
        (λ rd z.
        let part = ready-part rd 5 x (first_part (octets "or") heads.1.0 rd.place.framed.stands) (omega arith) (both_of (goal_ok (length bs) x) (goal_ok (length bs) x') rd.place.scoped).0 in
        let yes = proving-at i y ds us o c bs x part in
        let has : provable (listed us) left o c bs x ≡ true = sym yes.answer ∙ t in
        let (X, fx, is) = rw sub-one at (took-left (listed us) o c bs S (suc left) x x' (λ z. absurd (omega arith)) (rw sub-one has) z) in
        let one = writing-at j p ds us o c bs x X (ready-kept yes.kept l part) fx in
        record {
          kept = keeps_then room mid after (omega arith) (omega arith) yes.kept one.kept;
          done = drawn-as is (λ l. draws-left l head one.done close) (low rd z);
        })

    pub either-right : {mid after d1 d2 d3 : List ℕ} {v v' : Where} {q : std.Option ℕ} {k m : ℕ} {s : Bool} {a : Drawn} → PastAt (drop w.goal.at (bytes_at f w.goal)) 5 64 q → q ≡ Some k → v ≡ within w 5 → Proving f room mid v left s → s ≡ false → length mid ≡ length room → Puts at (octets "(5:right") d d1 m → v' ≡ within w k → Writing f mid after d1 d2 v' left m a → Closes a d2 d3 r → WritingAs W.Or f room after d d3 w left at r
    either-right {mid} {after} {d3 = d3} {k = k} u e i y t l head j p close ds us o c bs g S h =
        let (x, x', n) = goal-is g h in
        subst (GoalClaim f room after d d3 ds us w (suc left) at r o c bs S) (sym n)
        (λ rd z.
        let (ok, ok') = both_of (goal_ok (length bs) x) (goal_ok (length bs) x') rd.place.scoped in
        let no' = proving-at i y ds us o c bs x (ready-part rd 5 x (first_part (octets "or") heads.1.0 rd.place.framed.stands) (omega arith) ok) in
        let has : provable (listed us) left o c bs x ≡ false = sym no'.answer ∙ t in
        let (X, fx, is) = rw sub-one at (took-right (listed us) o c bs S (suc left) x x' (λ z. absurd (omega arith)) (rw sub-one has) z) in
        let one = writing-at j p ds us o c bs x' X (ready-kept no'.kept l (ready-part rd k x' (second-found (octets "or") heads.1.0 rd.place.framed.stands u e) (omega arith) ok')) fx in
        record {
          kept = keeps_then room mid after (omega arith) (omega arith) no'.kept one.kept;
          done = drawn-as is (λ l. draws-right l head one.done close) (low rd z);
        })

    -- a `some`, with the first candidate that does
    pub some-drawn : {mid after d1 d2 d3 d4 : List ℕ} {v : Where} {m m' : ℕ} {a : Drawn} (i : ℕ) → FirstWith f room mid w left i → length mid ≡ length room → Puts at (octets "(4:some") d d1 m → Puts m (numeral i) d1 d2 m' → v ≡ bound w 7 w.parameters → Writing f (set mid w.top (held (binding_word (Candidate i)))) after d2 d3 v left m' a → Closes a d3 d4 r → WritingAs W.Some f room after d d4 w left at r
    some-drawn {mid} {after} {d4 = d4} i with' l head number j p close ds us o c bs g S h =
        let (q, x, n) = goal-is g h in
        subst (GoalClaim f room after d d4 ds us w (suc left) at r o c bs S) (sym n)
        (λ rd z.
        let (i', ch') = some-chosen us left o c bs q x S z in
        let y = with' ds us o c bs q x i' rd ch' in
        let ch : candidate_from (listed us) o q (proves_with us left o c bs x) 0 ≡ some i = ch' ∙ ap some (sym y.done) in
        let (X, fx, is) = rw sub-one at (took-some (listed us) o c bs S (suc left) q x i (λ z. absurd (omega arith)) (rw sub-one ch) z) in
        let one_of : i < length us = chosen-below us o q (proves_with us left o c bs x) i ch in
        let rd' = ready-kept {after = mid} y.kept l rd in
        let one = writing-at j p ds us o c (Candidate i ∷ bs) x X (ready_with rd' 7 i x (first_part (octets "some") heads.1.1.0 rd.place.framed.stands) (omega arith) rd.place.scoped one_of) fx in
        let up = held (binding_word (Candidate i)) in
        record {
          kept = keeps_then room mid after (omega arith) (omega arith) y.kept (keeps_then mid (set mid w.top up) after (omega arith) (omega (arith, rd.enough.bindings)) (keeps-push mid w.supposed w.top up (omega (arith, rd.enough.supposed)) (omega (arith, rd.place.framed.above, rd.place.tight)) (omega (arith, rd.low))) one.kept);
          done = drawn-as is (λ l. draws-some l head number one.done close) (low rd z);
        })

    -- an `all`, with one parameter more
    pub all-full : {after d' : List ℕ} → 64 ≤ w.parameters → WritingAs W.All f room after d d' w left at r
    all-full l ds us o c bs g S h rd e = absurd (omega (arith, rd.enough.opened, l))

    pub all-drawn : {after d1 d2 d3 : List ℕ} {v : Where} {m : ℕ} {a : Drawn} (p : ℕ) → p ≡ w.parameters + 1 → Puts at (octets "(3:all") d d1 m → v ≡ bound w 6 p → Writing f (set room w.top (held (binding_word (Parameter p)))) after d1 d2 v left m a → Closes a d2 d3 r → WritingAs W.All f room after d d3 w left at r
    all-drawn {after} {d3 = d3} p e head j k close ds us o c bs g S h =
        let (q, x, n) = goal-is g h in
        subst (GoalClaim f room after d d3 ds us w (suc left) at r o c bs S) (sym n)
        (λ rd z.
        let (X, fx, is) = rw sub-one at (took-all (listed us) o c bs S (suc left) q x (λ z. absurd (omega arith)) z) in
        let same : p ≡ suc (length o) = omega (arith, rd.place.openly) in
        let one = writing-at j k ds us (q ∷ o) c (Parameter p ∷ bs) x X (ready-all rd 6 p q x e (first_part (octets "all") heads.1.1.1.0 rd.place.framed.stands) (omega arith) rd.place.scoped) (ap (λ (m : ℕ). first (listed us) left (q ∷ o) c (Parameter m ∷ bs) x) same ∙ fx) in
        let up = held (binding_word (Parameter p)) in
        record {
          kept = keeps_then room (set room w.top up) after (omega arith) (omega (arith, rd.enough.bindings)) (keeps-push room w.supposed w.top up (omega (arith, rd.enough.supposed)) (omega (arith, rd.place.framed.above, rd.place.tight)) (omega (arith, rd.low))) one.kept;
          done = drawn-as is (λ l. draws-all l head one.done close) (low rd z);
        })

    -- an `imp`, under its clause
    pub under-flat : {after d' : List ℕ} → left ≡ 0 → WritingAs W.Imp f room after d d' w left at r
    under-flat {after} {d'} z ds us o c bs g S h =
        let (dc, x, n) = goal-is g h in
        subst (GoalClaim f room after d d' ds us w (suc left) at r o c bs S) (sym n)
        (λ rd e. nope (ap (λ (m : ℕ). first (listed us) m o (c ++ (record { clause = dc; bindings = bs } ∷ [])) bs x >>= λ P. some (Strip.imp P)) {x = 0} {y = left} (sym z) ∙ e))

    pub under-lost : {after d' : List ℕ} {q : std.Option ℕ} → PastAt (drop w.goal.at (bytes_at f w.goal)) 6 64 q → q ≡ None → WritingAs W.Imp f room after d d' w left at r
    under-lost {after} {d'} p e ds us o c bs g S h =
        let (dc, x, n) = goal-is g h in
        subst (GoalClaim f room after d d' ds us w (suc left) at r o c bs S) (sym n)
        (λ rd u. absurd (first_found (octets "imp") heads.1.1.1.1 rd.place.framed.stands (omega (arith, rd.place.framed.shallow)) p e))

    pub under-drawn : {mid now after d1 d2 d3 : List ℕ} {v : Where} {y : Spot} {q : std.Option ℕ} {k i m : ℕ} {a : Drawn} → (left ≡ 0 → ⊥) → PastAt (drop w.goal.at (bytes_at f w.goal)) 6 64 q → q ≡ Some k → y ≡ further w.goal 6 → mid ≡ supposing room w.supposed y → i ≡ plus w.supposed 1 → TableOnly mid now → Forgets mid now i → Puts at (octets "(3:imp") d d1 m → v ≡ supposes w k → Writing f now after d1 d2 v left m a → Closes a d2 d3 r → WritingAs W.Imp f room after d d3 w left at r
    under-drawn {mid} {now} {after} {d3 = d3} {k = k} z u e j under n only gone head i p close ds us o c bs g S h =
        let (dc, x, same) = goal-is g h in
        subst (GoalClaim f room after d d3 ds us w (suc left) at r o c bs S) (sym same)
        (λ rd t.
        let (X, fx, is) = rw sub-one at (took-imp (listed us) o c bs S (suc left) dc x (λ z. absurd (omega arith)) t) in
        let (okd, ok) = both_of (clause_ok (length bs) dc) (goal_ok (length bs) x) rd.place.scoped in
        let st = rd.place.framed.stands in
        let here = under ∙ ap (supposing room w.supposed) j in
        let only' = subst (λ (b : List ℕ). TableOnly b now) here only in
        let gone' = subst (λ (b : List ℕ). Forgets b now (plus w.supposed 1)) here (subst (Forgets mid now) n gone) in
        let one = writing-at i p ds us o (c ++ (record { clause = dc; bindings = bs } ∷ [])) bs x X (ready-under rd 6 k dc x z (first_part (octets "imp") heads.1.1.1.1 st) (omega arith) okd (second-found (octets "imp") heads.1.1.1.1 st u e) (omega arith) ok only' gone') fx in
        record {
          kept = under-keeps rd 6 (record { clause = dc; bindings = bs } ∷ []) z only' gone' one.kept;
          done = drawn-as is (λ l. draws-imp l head one.done close) (low rd t);
        })
