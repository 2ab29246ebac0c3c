-- From a place to the places of its parts: a variable bound on top of the stack, and a clause supposed (document 01, "When a strip fits": `some`, `all`, `imp`).
-- What the first place relies on is kept, and the second is what it should be.
use Prim.Native.Nat.{ℕ, zero, suc, ◌+◌, ◌≤◌, ◌<◌}
use native.Mathlib.Omega.{arith}
use mathlib.Core.Path.{◌≡◌, refl, sym, ◌∙◌, ap, subst}
use mathlib.Core.List.{List, [], ◌∷◌, ◌++◌}
use mathlib.Core.Option.{some, some-injective}
use mathlib.Core.Bool.{Bool, true, false}
use lib.Dec.{ltb}
use borrow.Author.Tests.{ltb-true, ltb-false}
use lib.ListN.{length, get_or, get_elem?, set, length-append, length-set}
use lib.Seq.{get_or-set_other, get_or-set_same, sets}
use Rattle.harrop.specs.declared.Binding.{Binding}
use Rattle.harrop.specs.Formula.{Term, Goal, Clause}
use Rattle.harrop.specs.Bindings.{Bindings}
use Rattle.harrop.specs.Place.{AtHand, Hand, Plain}
use Rattle.harrop.proofs.ListLaws.{member_below, member-kept, member-joined}
use Rattle.sexp.specs.Sexp.{Sexp, Stands, nesting}
use Rattle.sexp.proofs.StandLaws.{stands-before}
use Rattle.packet.specs.Written.{goal_sexp, clause_sexp}
use Rattle.packet.specs.Barred.{goal_ok, clause_ok}
use Rattle.room.specs.Layout.{words, supposed_word, supposed_at_most}
use Rattle.room.specs.Frame.{binding_word, held, bindings_in}
use Rattle.room.specs.Spot.{source_of, spot_words, supposing, supposed_in}
use Rattle.room.specs.Files.{Files}
use Rattle.room.specs.Where.{Live, Kept, Framed, HandIn, Means, plus, further, bound, supposes}
use Rattle.room.specs.declared.Spot.{Spot}
use Rattle.room.specs.declared.Where.{Where}
use Rattle.room.proofs.FrameLaws.{held_same, frame_pushed}
use Rattle.room.proofs.FileLaws.{source-again, supposing-some, supposed-some, spot-alike}
use Rattle.room.proofs.WhereLaws.{framed_kept, hand-kept, booked-kept, file-small, plus-inside, file, part-means, push-keeps}

-- a formula below one top is below a higher one
pub framed-higher : {f : Files} {room : List ℕ} {x : Spot} {top top' : ℕ} {e : Sexp} {bs : Bindings} → top ≤ top' → Framed f room x top e bs → Framed f room x top' e bs
framed-higher l h = record { stands = h.stands; above = h.above; below = omega (arith, h.below); holds = h.holds; shallow = h.shallow }

pub hand-higher : {f : Files} {room : List ℕ} {ds : List (Clause Plain)} {supposed top top' : ℕ} {c : Hand Plain} → top ≤ top' → HandIn f room ds supposed top c → HandIn f room ds supposed top' c
hand-higher l h = record { number = h.number; rule = h.rule; suppose = λ j d q. framed-higher l (h.suppose j d q); scoped = h.scoped }

module _ {f : Files} {room : List ℕ} {ds : List (Clause Plain)} {us : List Term} {w : Where} {o : List Plain} {c : Hand Plain} {bs : Bindings} {g : Goal Plain} (m : Means f room ds us w o c bs g) where
  -- the part of a quantified goal, its variable bound to b
  pub bound-means : (b : Binding) (n p : ℕ) (o' : List Plain) (g' : Goal Plain) → Stands (file m) (w.goal.at + n) (goal_sexp g') → nesting (goal_sexp g') + 1 ≤ nesting (goal_sexp g) → goal_ok (suc (length bs)) g' ≡ true → binding_word b ≤ 4294967295 → w.top < length room → w.top ≤ words → w.supposed ≤ supposed_at_most → length o' ≡ p → Means f (set room w.top (held (binding_word b))) ds us (bound w n p) o' c (b ∷ bs) g'
  bound-means b n p o' g' h l ok small inside low few open' =
      let k = push-keeps room w.supposed w.top (held (binding_word b)) few (omega (arith, m.framed.above, m.tight)) in
      let s = m.framed.shallow in
      record {
        booked = booked-kept k m.booked;
        framed =
            record {
              stands = subst (λ (i : ℕ). Stands (file m) i (goal_sexp g')) (sym (plus-inside (file m) w.goal.at n (file-small m.booked w.goal.source) h)) h;
              above = m.framed.above;
              below = omega (arith, m.tight);
              holds =
                  subst (λ (t : ℕ). bindings_in (set room t (held (binding_word b))) w.goal.base (plus w.goal.count 1) ≡ b ∷ bs) m.tight
                  (ap (λ (i : ℕ). bindings_in (set room (w.goal.base + w.goal.count) (held (binding_word b))) w.goal.base i) {x = plus w.goal.count 1} {y = suc w.goal.count} (omega arith)
                  ∙ (frame_pushed room w.goal.base w.goal.count b (omega (arith, m.tight)) small ∙ ap (λ (x : Bindings). b ∷ x) m.framed.holds));
              shallow = omega arith;
            };
        scoped = ok;
        tight = omega (arith, m.tight);
        openly = open';
        hand = hand-higher (omega arith) (hand-kept k m.hand);
      }

-- a run of stores leaves the words before and after it, and puts each of its own
pub sets-before : (vs l : List ℕ) (i j : ℕ) → j < i → get_or (sets l i vs) j 0 ≡ get_or l j 0
sets-before [] l i j h = refl
sets-before (a ∷ vs) l i j h = sets-before vs (set l i a) (suc i) j (omega arith) ∙ get_or-set_other l i j a 0 (λ e. omega arith)

pub sets-after : (vs l : List ℕ) (i j : ℕ) → i + length vs ≤ j → get_or (sets l i vs) j 0 ≡ get_or l j 0
sets-after [] l i j h = refl
sets-after (a ∷ vs) l i j h = sets-after vs (set l i a) (suc i) j (omega arith) ∙ get_or-set_other l i j a 0 (λ e. omega arith)

pub sets-at : (vs l : List ℕ) (i k : ℕ) → i + length vs ≤ length l → k < length vs → get_or (sets l i vs) (i + k) 0 ≡ get_or vs k 0
sets-at [] l i k h p = absurd (omega arith)
sets-at (a ∷ vs) l i zero h p =
    ap (λ (j : ℕ). get_or (sets (set l i a) (suc i) vs) j 0) {x = i + 0} {y = i} (omega arith)
    ∙ (sets-before vs (set l i a) (suc i) i (omega arith) ∙ get_or-set_same l i a 0 (omega arith))
sets-at (a ∷ vs) l i (suc k) h p =
    ap (λ (j : ℕ). get_or (sets (set l i a) (suc i) vs) j 0) {x = i + suc k} {y = suc i + k} (omega arith)
    ∙ sets-at vs (set l i a) (suc i) k (omega (arith, length-set l i a)) (omega arith)

-- a clause supposed is none that the place relies on
pub suppose-keeps : (room : List ℕ) (m top : ℕ) (x : Spot) → m < supposed_at_most → Kept m top room (supposing room m x)
suppose-keeps room m top x l i (Live.low h) = ap (λ (r : List ℕ). get_or r i 0) (supposing-some room m x l) ∙ sets-before (spot_words x) room (supposed_word m) i h
suppose-keeps room m top x l i (Live.high h h') = ap (λ (r : List ℕ). get_or r i 0) (supposing-some room m x l) ∙ sets-after (spot_words x) room (supposed_word m) i (omega arith)

-- and it is found where it was put
pub supposed-there : (room : List ℕ) (m : ℕ) (x : Spot) → m < supposed_at_most → words ≤ length room → x.at ≤ 4294967295 → x.base ≤ 4294967295 → x.count ≤ 4294967295 → supposed_in (supposing room m x) m ≡ x
supposed-there room m x l long p q r =
    ap (λ (s : List ℕ). supposed_in s m) (supposing-some room m x l)
    ∙ (supposed-some (sets room (supposed_word m) (spot_words x)) m l
    ∙ spot-alike
    (ap source_of (ap (λ (j : ℕ). get_or (sets room (supposed_word m) (spot_words x)) j 0) {x = supposed_word m} {y = supposed_word m + 0} (omega arith) ∙ sets-at (spot_words x) room (supposed_word m) 0 (omega arith) (omega arith)) ∙ source-again x.source)
    (sets-at (spot_words x) room (supposed_word m) 1 (omega arith) (omega arith) ∙ held_same x.at p)
    (sets-at (spot_words x) room (supposed_word m) 2 (omega arith) (omega arith) ∙ held_same x.base q)
    (sets-at (spot_words x) room (supposed_word m) 3 (omega arith) (omega arith) ∙ held_same x.count r))

-- the clauses at hand with one more at their end
pub hand-joined : {f : Files} {room after : List ℕ} {ds : List (Clause Plain)} {supposed top : ℕ} {c : Hand Plain} (x : AtHand Plain) → HandIn f room ds supposed top c → clause_ok (length x.bindings) x.clause ≡ true → Kept supposed top room after → Framed f after (supposed_in after supposed) top (clause_sexp x.clause) x.bindings → HandIn f after ds (suc supposed) top (c ++ (x ∷ []))
hand-joined {f} {room} {after} {ds} {supposed} {top} {c} x h ok k y =
    record {
      number = omega (arith, length-append c (x ∷ []), h.number);
      rule = λ i d p q. h.rule i d p (sym (member-kept c (x ∷ []) i (omega (arith, h.number))) ∙ q);
      suppose = λ j d q. go j d q (ltb j supposed) refl;
      scoped = λ j d q. fits j d q (ltb j supposed) refl;
    }
  where
    last-is : (j : ℕ) (d : AtHand Plain) → get_elem? (c ++ (x ∷ [])) (length ds + j) ≡ some d → length ds + j ≡ length c → x ≡ d
    last-is j d q i = some-injective x d (sym (member-joined c x) ∙ (ap (λ (a : ℕ). get_elem? (c ++ (x ∷ [])) a) (sym i) ∙ q))

    fits : (j : ℕ) (d : AtHand Plain) → get_elem? (c ++ (x ∷ [])) (length ds + j) ≡ some d → (t : Bool) → ltb j supposed ≡ t → clause_ok (length d.bindings) d.clause ≡ true
    fits j d q true e =
        let l = ltb-true j supposed e in
        h.scoped j d (sym (member-kept c (x ∷ []) (length ds + j) (omega (arith, h.number))) ∙ q)
    fits j d q false e =
        let l = ltb-false j supposed e in
        let b = member_below (c ++ (x ∷ [])) (length ds + j) d q in
        subst (λ (a : AtHand Plain). clause_ok (length a.bindings) a.clause ≡ true) (last-is j d q (omega (arith, length-append c (x ∷ []), h.number))) ok

    go : (j : ℕ) (d : AtHand Plain) → get_elem? (c ++ (x ∷ [])) (length ds + j) ≡ some d → (t : Bool) → ltb j supposed ≡ t → Framed f after (supposed_in after j) top (clause_sexp d.clause) d.bindings
    go j d q true e =
        let l = ltb-true j supposed e in
        (hand-kept k h).suppose j d (sym (member-kept c (x ∷ []) (length ds + j) (omega (arith, h.number))) ∙ q)
    go j d q false e =
        let l = ltb-false j supposed e in
        let b = member_below (c ++ (x ∷ [])) (length ds + j) d q in
        let n : j ≡ supposed = omega (arith, length-append c (x ∷ []), h.number) in
        let i : length ds + j ≡ length c = omega (arith, h.number) in
        let same = last-is j d q i in
        subst (λ (a : AtHand Plain). Framed f after (supposed_in after j) top (clause_sexp a.clause) a.bindings) same (subst (λ (a : ℕ). Framed f after (supposed_in after a) top (clause_sexp x.clause) x.bindings) (sym n) y)

module _ {f : Files} {room : List ℕ} {ds : List (Clause Plain)} {us : List Term} {w : Where} {o : List Plain} {c : Hand Plain} {bs : Bindings} {g : Goal Plain} (m : Means f room ds us w o c bs g) where
  -- the part of a goal under a clause that is supposed with the goal's own variables
  pub supposes-means : (k n : ℕ) (d : Clause Plain) (g' : Goal Plain) → Stands (file m) (w.goal.at + k) (clause_sexp d) → nesting (clause_sexp d) ≤ nesting (goal_sexp g) → clause_ok (length bs) d ≡ true → Stands (file m) (w.goal.at + n) (goal_sexp g') → nesting (goal_sexp g') ≤ nesting (goal_sexp g) → goal_ok (length bs) g' ≡ true → w.supposed < supposed_at_most → w.top ≤ words → words ≤ length room → Means f (supposing room w.supposed (further w.goal k)) ds us (supposes w n) o (c ++ (record { clause = d; bindings = bs } ∷ [])) bs g'
  supposes-means k n d g' hd ld okd hg lg ok few low long =
      let x = further w.goal k in
      let kp = suppose-keeps room w.supposed w.top x few in
      let i = stands-before hd in
      let e = plus-inside (file m) w.goal.at k (file-small m.booked w.goal.source) hd in
      let z = file-small m.booked w.goal.source in
      let there = supposed-there room w.supposed x few long (omega arith) (omega (arith, m.tight)) (omega (arith, m.tight)) in
      let framed : Framed f room x w.top (clause_sexp d) bs =
      record {
        stands = subst (λ (j : ℕ). Stands (file m) j (clause_sexp d)) (sym e) hd;
        above = m.framed.above;
        below = m.framed.below;
        holds = m.framed.holds;
        shallow = omega (arith, m.framed.shallow);
      } in
      let h = hand-joined (record { clause = d; bindings = bs }) m.hand okd kp (subst (λ (y : Spot). Framed f (supposing room w.supposed x) y w.top (clause_sexp d) bs) (sym there) (framed_kept {t = w.top} (omega arith) kp framed)) in
      record {
        booked = booked-kept kp m.booked;
        framed = framed_kept {t = w.top} (omega arith) kp (part-means m n g' hg lg ok).framed;
        scoped = ok;
        tight = m.tight;
        openly = m.openly;
        hand = subst (λ (j : ℕ). HandIn f (supposing room w.supposed x) ds j w.top (c ++ (record { clause = d; bindings = bs } ∷ []))) (omega arith) h;
      }
