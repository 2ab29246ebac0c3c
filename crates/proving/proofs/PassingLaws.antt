-- Whether a path through a clause ends at an atom, with a proof of the body if there is one: by the clause's word, what the answers for its parts say of it (document 01, "When a strip fits", "Which strip the search writes").
-- Each law ends in the contract of a function of crate provable, src/provable.
use Prim.Native.Nat.{ℕ, suc, ◌+◌, ◌-◌, ◌≤◌, ◌<◌}
use native.Mathlib.Omega.{arith}
use mathlib.Core.Path.{◌≡◌, refl, sym, ◌∙◌, ap, ap₂, subst}
use mathlib.Core.Bool.{Bool, true, false, ◌&&◌}
use mathlib.Core.List.{List, ◌∷◌}
use mathlib.Core.Option.{Option}
use lib.Dec.{ltb, leb}
use lib.ListN.{length, get_or, drop, set, length-set}
use Rattle.basics.specs.Choice.{maybe}
use Rattle.basics.specs.Text.{octets}
use Rattle.harrop.specs.declared.Binding.TheVariants.{Candidate}
use Rattle.harrop.specs.Formula.{Term, Atom, Goal, Clause}
use Rattle.harrop.specs.Bindings.{Bindings}
use Rattle.harrop.specs.Place.{AtHand, Hand, Plain, listed}
use Rattle.std.specs.Prelude as std
use Rattle.std.specs.Prelude.{Some, None}
use Rattle.sexp.specs.Past.{PastAt}
use Rattle.sexp.specs.Sexp.{Sexp, Stands, nesting}
use Rattle.packet.specs.declared.Word.{Word}
use Rattle.packet.specs.declared.Word.TheVariants as W
use Rattle.reader.specs.WordAt.{WordAt}
use Rattle.packet.specs.declared.Kind.TheVariants as K
use Rattle.rows.specs.Rows.{row_of}
use Rattle.packet.specs.Table.{due_after}
use Rattle.packet.specs.Barred.{goal_ok, clause_ok}
use Rattle.packet.specs.Written.{goal_sexp, clause_sexp}
use Rattle.room.specs.Layout.{candidates_word, highest_word}
use Rattle.room.specs.Frame.{binding_word, held, bindings_in}
use Rattle.room.specs.Where.{Framed, plus, further}
use Rattle.room.specs.Files.{Files}
use Rattle.room.specs.declared.Spot.{Spot}
use Rattle.room.specs.declared.Where.{Where}
use Rattle.room.proofs.FrameLaws.{frame_pushed}
use Rattle.room.proofs.NestLaws.{clause-nests}
use Rattle.room.proofs.WhereLaws.{framed_kept, file-small, plus-inside}
use Rattle.room.proofs.MoveLaws.{hand-higher}
use Rattle.proving.specs.Hand.{deeper, Opened}
use Rattle.proving.specs.Provable as spec
use Rattle.proving.specs.Stock.{Stock, Keeps}
use Rattle.proving.specs.Proving.{Ready, Taken, Answers, ProvingBy, Passing, PassingAs, PassingWith, passes, passes_with}
use Rattle.heads.specs.Predicate.{ClauseThere, HasHead}
use Rattle.proving.proofs.HeadlessLaws.{headless}
use Rattle.proving.proofs.WalkLaws.{any_here, any_none}
use Rattle.proving.proofs.StockLaws.{keeps_same, keeps_then, keeps-less, keeps-push}
use Rattle.heads.proofs.HeadLaws.{clause-says, clause-is, clause-has-row, heads, first_part, second-found, first_found}
use Rattle.proving.proofs.ReadyLaws.{may-be, allowed-below, ready-kept}
use Rattle.proving.proofs.HandLaws.{Opens, opened-none, opened-clause}
use Rattle.proving.proofs.ProvingLaws.{bytes_at, and_no, and_yes, or_yes, or_no, both_of}

module _ {f : Files} {room : List ℕ} {ds : List (Clause Plain)} {us : List Term} {w : Where} {x : Spot} {left : ℕ} {o : List Plain} {c : Hand Plain} {bs : Bindings} {a : Atom} {d : Clause Plain} {bs' : Bindings} (t : Taken f room ds us w x left o c bs a d bs') where
  -- the clause, as those that read its bytes ask for it
  pub clause-there : ClauseThere f x d
  clause-there = record { stands = t.framed.stands; shallow = omega (arith, t.framed.shallow); small = file-small t.ready.place.booked x.source }

  -- a part of what stands there
  part-framed : (n : ℕ) {e : Sexp} → Stands (bytes_at f x) (x.at + n) e → nesting e ≤ nesting (clause_sexp d) → Framed f room (further x n) (x.base + x.count) e bs'
  part-framed n {e} h l =
      record {
        stands = subst (λ (i : ℕ). Stands (bytes_at f x) i e) (sym (plus-inside (bytes_at f x) x.at n (file-small t.ready.place.booked x.source) h)) h;
        above = t.framed.above;
        below = t.framed.below;
        holds = t.framed.holds;
        shallow = omega (arith, t.framed.shallow);
      }

  pub taken-part : (n : ℕ) (d' : Clause Plain) → Stands (bytes_at f x) (x.at + n) (clause_sexp d') → nesting (clause_sexp d') ≤ nesting (clause_sexp d) → clause_ok (length bs') d' ≡ true → Taken f room ds us w (further x n) left o c bs a d' bs'
  taken-part n d' h l ok = record { ready = t.ready; framed = part-framed n h l; scoped = ok; fresh = t.fresh }

  -- the same after a call that keeps what is below the frame's end
  pub taken-kept : {after : List ℕ} → Keeps (Stock f ds us w.supposed c) w.supposed (x.base + x.count) room after → length after ≡ length room → Taken f after ds us w x left o c bs a d bs'
  taken-kept {after} k e =
      record {
        ready = ready-kept (keeps-less room after (omega arith) (omega (arith, t.fresh)) k) e t.ready;
        framed = framed_kept {t = x.base + x.count} (omega arith) k.words t.framed;
        scoped = t.scoped;
        fresh = t.fresh;
      }

  -- with a candidate for its variable
  pub push_kept : (v : ℕ) → Keeps (Stock f ds us w.supposed c) w.supposed (x.base + x.count) room (set room (plus x.base x.count) v)
  push_kept v =
      subst (λ (i : ℕ). Keeps (Stock f ds us w.supposed c) w.supposed (x.base + x.count) room (set room i v)) {x = x.base + x.count} {y = plus x.base x.count} (omega (arith, t.fresh, t.ready.enough.bindings, t.framed.shallow))
      (keeps-push room w.supposed (x.base + x.count) v (omega (arith, t.ready.enough.supposed)) (omega (arith, t.framed.above)) (omega (arith, t.fresh, t.ready.low, t.framed.shallow, clause-nests d)))

  pub taken-with : (n i : ℕ) (d' : Clause Plain) → Stands (bytes_at f x) (x.at + n) (clause_sexp d') → nesting (clause_sexp d') + 1 ≤ nesting (clause_sexp d) → clause_ok (suc (length bs')) d' ≡ true → i < length us → Taken f (set room (plus x.base x.count) (held (binding_word (Candidate i)))) ds us w (deeper x n) left o c bs a d' (Candidate i ∷ bs')
  taken-with n i d' h l ok b =
      let v = held (binding_word (Candidate i)) in
      let top : plus x.base x.count ≡ x.base + x.count = omega (arith, t.fresh, t.ready.enough.bindings, t.framed.shallow) in
      let more : plus x.count 1 ≡ suc x.count = omega (arith, t.framed.shallow) in
      let k = push_kept v in
      record {
        ready = ready-kept (keeps-less room (set room (plus x.base x.count) v) (omega arith) (omega (arith, t.fresh)) k) (length-set room (plus x.base x.count) v) t.ready;
        framed =
            record {
              stands = subst (λ (j : ℕ). Stands (bytes_at f x) j (clause_sexp d')) (sym (plus-inside (bytes_at f x) x.at n (file-small t.ready.place.booked x.source) h)) h;
              above = t.framed.above;
              below = omega arith;
              holds =
                  ap₂ (λ (j : ℕ) (m : ℕ). bindings_in (set room j v) x.base m) top more
                  ∙ (frame_pushed room x.base x.count (Candidate i) (omega (arith, t.fresh, t.ready.enough.bindings, t.ready.long, t.framed.shallow)) (omega (arith, t.ready.place.booked.candidates.few)) ∙ ap (λ (y : Bindings). Candidate i ∷ y) t.framed.holds);
              shallow = omega (arith, t.framed.shallow);
            };
        scoped = ok;
        fresh = t.fresh;
      }

-- the place of a body
abbrev pub body_at : Where → Spot → ℕ → Where
body_at w x n = record { goal = further x n; supposed = w.supposed; parameters = w.parameters; top = plus x.base x.count }

pub body_is : (w : Where) (x : Spot) (n : ℕ) {y : Spot} {t : ℕ} → y ≡ further x n → t ≡ plus x.base x.count → record { goal = y; supposed = w.supposed; parameters = w.parameters; top = t } ≡ body_at w x n
body_is w x n e q = λ i. record { goal = e i; supposed = w.supposed; parameters = w.parameters; top = q i }

pub ready-body : {f : Files} {room : List ℕ} {ds : List (Clause Plain)} {us : List Term} {w : Where} {x : Spot} {left : ℕ} {o : List Plain} {c : Hand Plain} {bs : Bindings} {a : Atom} {d : Clause Plain} {bs' : Bindings} (t : Taken f room ds us w x left o c bs a d bs') (n : ℕ) (g : Goal Plain) → Stands (bytes_at f x) (x.at + n) (goal_sexp g) → nesting (goal_sexp g) ≤ nesting (clause_sexp d) → goal_ok (length bs') g ≡ true → Ready f room ds us (body_at w x n) left o c bs' g
ready-body {f} {room} {ds} {us} {w} {x} t n g h l ok =
    let top : x.base + x.count ≡ plus x.base x.count = omega (arith, t.fresh, t.ready.enough.bindings, t.framed.shallow) in
    let fr = part-framed t n h l in
    record {
      place =
          record {
            booked = t.ready.place.booked;
            framed = record { stands = fr.stands; above = fr.above; below = omega (arith, top); holds = fr.holds; shallow = fr.shallow };
            scoped = ok;
            tight = top;
            openly = t.ready.place.openly;
            hand = hand-higher (omega (arith, t.fresh, top)) t.ready.place.hand;
          };
      enough =
          record {
            bindings = omega (arith, t.ready.enough.bindings, t.fresh, t.framed.shallow);
            supposed = omega (arith, t.ready.enough.supposed);
            opened = omega (arith, t.ready.enough.opened);
          };
      long = t.ready.long;
      low = omega (arith, t.ready.low, t.fresh, t.framed.shallow);
      stock = t.ready.stock;
    }

-- what is claimed of a clause
abbrev Claim : Files → List ℕ → List ℕ → List (Clause Plain) → List Term → Where → Spot → ℕ → ℕ → List Plain → Hand Plain → Bindings → Atom → Bindings → Bool → Clause Plain → Type 0
Claim f room after ds us w x nest left o c bs a bs' r d =
    nesting (clause_sexp d) ≤ nest → Taken f room ds us w x left o c bs a d bs' → Answers (Stock f ds us w.supposed c) w.supposed (x.base + x.count) room after (passes us left o c bs a d bs') r

-- a call's promise at the spot that the code made
pub passing-at : {f : Files} {room after : List ℕ} {w : Where} {x y : Spot} {nest left : ℕ} {r : Bool} → x ≡ y → Passing f room after w x nest left r → Passing f room after w y nest left r
passing-at {f} {room} {after} {w} {nest = nest} {left = left} {r = r} e p = subst (λ (z : Spot). Passing f room after w z nest left r) e p

pub passing-from : {f : Files} {room now after : List ℕ} {w : Where} {x : Spot} {nest left : ℕ} {r : Bool} → now ≡ room → Passing f now after w x nest left r → Passing f room after w x nest left r
passing-from {f} {after = after} {w = w} {x = x} {nest = nest} {left = left} {r = r} e p = subst (λ (z : List ℕ). Passing f z after w x nest left r) e p

-- where the loop over candidates is: what is below the frame's end is kept, and those from i on decide
abbrev pub AllLeft : Files → List ℕ → Where → Spot → ℕ → ℕ → List ℕ → ℕ → Type 0
AllLeft f room w x nest left now i =
    (ds : List (Clause Plain)) (us : List Term) (o : List Plain) (c : Hand Plain) (bs : Bindings) (a : Atom) (q : Plain) (d : Clause Plain) (bs' : Bindings) →
    nesting (clause_sexp (Clause.all_d q d)) ≤ suc nest →
    Taken f room ds us w x left o c bs a (Clause.all_d q d) bs' →
    Keeps (Stock f ds us w.supposed c) w.supposed (x.base + x.count) room now × (passes us left o c bs a (Clause.all_d q d) bs' ≡ spec.candidates_from (listed us) o q (passes_with us left o c bs a d bs') i)

module _ {f : Files} {room : List ℕ} {w : Where} {x : Spot} {left : ℕ} where
  -- a clause is a list
  pub no-nest : (nest : ℕ) → nest ≡ 0 → Passing f room room w x nest left false
  no-nest nest e ds us o c bs a d bs' l t = absurd (omega (arith, clause-nests d))

  -- a clause by its word
  pub by_word : {after : List ℕ} {r : Bool} (nest : ℕ) (word k : Word) → (nest ≡ 0 → ⊥) → WordAt (drop x.at (bytes_at f x)) 1 k → k ≡ word → PassingAs word f room after w x (nest - 1) left r → Passing f room after w x nest left r
  by_word nest word k z q e p ds us o c bs a d bs' l t =
      p ds us o c bs a d bs' (sym (clause-says (bytes_at f x) x.at d k t.framed.stands q) ∙ e) (omega arith) t

  -- no clause has any other word
  pub by-other : (nest : ℕ) (k : Word) → WordAt (drop x.at (bytes_at f x)) 1 k → None ≡ row_of (due_after K.Clause k) → Passing f room room w x nest left false
  by-other nest k q n ds us o c bs a d bs' l t = absurd (clause-has-row d k (clause-says (bytes_at f x) x.at d k t.framed.stands q) n)

  -- no head of the clause has the atom's predicate
  pub passes_none : {s : Bool} (nest : ℕ) → HasHead f x w.goal 64 s → s ≡ false → Passing f room room w x nest left false
  passes_none nest m n ds us o c bs a d bs' l t =
      let place = t.ready.place in
      let h = m d a (omega (arith, t.framed.shallow)) (clause-there t) (record { stands = place.framed.stands; shallow = omega (arith, place.framed.shallow) }) in
      record { kept = keeps_same room; answer = sym (headless (listed us) o bs a (λ g ds. spec.provable (listed us) left o c ds g) d bs' (sym h ∙ n)) }

  -- two clauses
  pub and-lost : {q : std.Option ℕ} (nest : ℕ) → PastAt (drop x.at (bytes_at f x)) 6 64 q → q ≡ None → PassingAs W.And f room room w x nest left false
  and-lost nest p e ds us o c bs a d bs' h =
      let (y, z, n) = clause-is d h in
      subst (Claim f room room ds us w x (suc nest) left o c bs a bs' false) (sym n)
      (λ l t. absurd (first_found (octets "and") heads.0 t.framed.stands (omega (arith, t.framed.shallow)) p e))

  pub and_first : {mid : List ℕ} {u : Spot} {s : Bool} (nest : ℕ) → u ≡ further x 6 → Passing f room mid w u nest left s → s ≡ true → PassingAs W.And f room mid w x nest left true
  unfolding spec.through
  and_first {mid} nest i p e ds us o c bs a d bs' h =
      let (y, z, n) = clause-is d h in
      subst (Claim f room mid ds us w x (suc nest) left o c bs a bs' true) (sym n)
      (λ l t.
      let m = passing-at i p ds us o c bs a y bs' (omega arith) (taken-part t 6 y (first_part (octets "and") heads.0 t.framed.stands) (omega arith) (both_of (clause_ok (length bs') y) (clause_ok (length bs') z) t.scoped).0) in
      record { kept = m.kept; answer = or_yes (passes us left o c bs a z bs') m.answer e })

  pub and_second : {mid after : List ℕ} {u v : Spot} {q : std.Option ℕ} {k : ℕ} {s r : Bool} (nest : ℕ) → u ≡ further x 6 → v ≡ further x k → PastAt (drop x.at (bytes_at f x)) 6 64 q → q ≡ Some k → Passing f room mid w u nest left s → s ≡ false → length mid ≡ length room → Passing f mid after w v nest left r → PassingAs W.And f room after w x nest left r
  unfolding spec.through
  and_second {mid} {after} {k = k} {r = r} nest i j b e p z l p' ds us o c bs a d bs' h =
      let (y, y', n) = clause-is d h in
      subst (Claim f room after ds us w x (suc nest) left o c bs a bs' r) (sym n)
      (λ d t.
      let (ok, ok') = both_of (clause_ok (length bs') y) (clause_ok (length bs') y') t.scoped in
      let m = passing-at i p ds us o c bs a y bs' (omega arith) (taken-part t 6 y (first_part (octets "and") heads.0 t.framed.stands) (omega arith) ok) in
      let t' = taken-part t k y' (second-found (octets "and") heads.0 t.framed.stands b e) (omega arith) ok' in
      let m' = passing-at j p' ds us o c bs a y' bs' (omega arith) (taken-kept t' m.kept l) in
      record { kept = keeps_then room mid after (omega arith) (omega arith) m.kept m'.kept; answer = or_no m.answer z m'.answer })

  -- an `all`: candidate i
  pub with-barred : (i nest : ℕ) (u : Bool) → u ≡ (ltb i (get_or room candidates_word 0) && leb (get_or room (highest_word i) 0) w.parameters) → u ≡ false → PassingWith f room room w x i nest left false
  unfolding spec.candidate_does
  with-barred i nest u e n ds us o c bs a q d bs' l t =
      let m = t.ready.place in
      record { kept = keeps_same room; answer = and_no (passes_with us left o c bs a d bs' i) (e ∙ may-be room f.terms us o q i w.parameters m.booked.candidates m.openly) n }

  pub with-goes : {after : List ℕ} {y : Spot} {s : Bool} (i nest : ℕ) (u : Bool) → u ≡ (ltb i (get_or room candidates_word 0) && leb (get_or room (highest_word i) 0) w.parameters) → u ≡ true → y ≡ deeper x 6 → Passing f (set room (plus x.base x.count) (held (binding_word (Candidate i)))) after w y nest left s → PassingWith f room after w x i nest left s
  unfolding spec.candidate_does
  with-goes {after} i nest u e n j p ds us o c bs a q d bs' l t =
      let v = held (binding_word (Candidate i)) in
      let m = e ∙ may-be room f.terms us o q i w.parameters t.ready.place.booked.candidates t.ready.place.openly in
      let t' = taken-with t 6 i d (first_part (octets "all") heads.1.1.1.0 t.framed.stands) (omega arith) t.scoped (allowed-below us o q i (sym m ∙ n)) in
      let y = passing-at j p ds us o c bs a d (Candidate i ∷ bs') (omega arith) t' in
      record {
        kept = keeps_then room (set room (plus x.base x.count) v) after (omega arith) (omega (arith, t.framed.shallow)) (push_kept t v) y.kept;
        answer = and_yes m n y.answer;
      }

  -- the candidates one after the other
  pub all_start : (nest : ℕ) → AllLeft f room w x nest left room 0
  unfolding spec.through
  all_start nest ds us o c bs a q d bs' l t = (keeps_same room, refl)

  pub all-miss : {now after : List ℕ} {s : Bool} (nest i n : ℕ) → i < n → n ≡ get_or room candidates_word 0 → AllLeft f room w x nest left now i → length now ≡ length room → PassingWith f now after w x i nest left s → s ≡ false → AllLeft f room w x nest left after (i + 1)
  unfolding spec.candidates_from
  all-miss {now} {after} nest i n l e inv k p z ds us o c bs a q d bs' lo t =
      let (kept, so) = inv ds us o c bs a q d bs' lo t in
      let m = p ds us o c bs a q d bs' lo (taken-kept t kept k) in
      let b : i < length us = omega (arith, t.ready.place.booked.candidates.counted) in
      let try : ℕ → Bool = spec.candidate_does (listed us) o q (passes_with us left o c bs a d bs') in
      (keeps_then room now after (omega arith) (omega arith) kept m.kept, so ∙ (any_here try i (length us) b ∙ sym (or_no m.answer z refl)))

  pub all-hit : {now after : List ℕ} {s : Bool} (nest i n : ℕ) → i < n → n ≡ get_or room candidates_word 0 → AllLeft f room w x nest left now i → length now ≡ length room → PassingWith f now after w x i nest left s → s ≡ true → PassingAs W.All f room after w x nest left true
  unfolding spec.candidates_from
  all-hit {now} {after} nest i n l e inv k p z ds us o c bs a d bs' h =
      let (q, y, u) = clause-is d h in
      subst (Claim f room after ds us w x (suc nest) left o c bs a bs' true) (sym u)
      (λ lo t.
      let (kept, so) = inv ds us o c bs a q y bs' lo t in
      let m = p ds us o c bs a q y bs' lo (taken-kept t kept k) in
      let b : i < length us = omega (arith, t.ready.place.booked.candidates.counted) in
      let try : ℕ → Bool = spec.candidate_does (listed us) o q (passes_with us left o c bs a y bs') in
      record { kept = keeps_then room now after (omega arith) (omega arith) kept m.kept; answer = or_yes (spec.any_from try (i + 1) (length us - (i + 1))) m.answer z ∙ sym (so ∙ any_here try i (length us) b) })

  pub all_done : {now : List ℕ} (nest i n : ℕ) → n ≤ i → n ≡ get_or room candidates_word 0 → AllLeft f room w x nest left now i → PassingAs W.All f room now w x nest left false
  unfolding spec.candidates_from
  all_done {now} nest i n l e inv ds us o c bs a d bs' h =
      let (q, y, u) = clause-is d h in
      subst (Claim f room now ds us w x (suc nest) left o c bs a bs' false) (sym u)
      (λ lo t.
      let (kept, so) = inv ds us o c bs a q y bs' lo t in
      let b : length us ≤ i = omega (arith, t.ready.place.booked.candidates.counted) in
      let try : ℕ → Bool = spec.candidate_does (listed us) o q (passes_with us left o c bs a y bs') in
      record { kept = kept; answer = sym (so ∙ any_none try i (length us) b) })

-- clause k for an atom
module _ {f : Files} {room after : List ℕ} {w : Where} {left : ℕ} (k : ℕ) where
  pub by-none : {q : std.Option Spot} → Opened room after k w.supposed w.top q → q ≡ None → ProvingBy f room after w k left false
  unfolding spec.clause_does
  by-none p e ds us o c bs a r =
      let (n, same) = opened-none r k (subst (Opened room after k w.supposed w.top) e p) in
      record { kept = subst (Keeps (Stock f ds us w.supposed c) w.supposed w.top room) (sym same) (keeps_same room); answer = ap (λ (m : Option (AtHand Plain)). maybe m false λ d. passes us left o c bs a d.clause d.bindings) (sym n) }

  pub by-opened : {last : List ℕ} {q : std.Option Spot} {y : Spot} {s : Bool} → Opened room after k w.supposed w.top q → q ≡ Some y
      → ((ds : List (Clause Plain)) (us : List Term) (o : List Plain) (c : Hand Plain) (bs : Bindings) (a : Atom) (z : Opens f room after ds us w y left o c bs a k) → Answers (Stock f ds us w.supposed c) w.supposed (y.base + y.count) after last (passes us left o c bs a z.clause.clause z.clause.bindings) s)
      → ProvingBy f room last w k left s
  unfolding spec.clause_does
  by-opened {last} p e m ds us o c bs a r =
      let z = opened-clause r k (subst (Opened room after k w.supposed w.top) e p) in
      let b = m ds us o c bs a z in
      record {
        kept = keeps_then room after last (omega arith) (omega (arith, z.taken.fresh)) z.kept b.kept;
        answer = b.answer ∙ ap (λ (n : Option (AtHand Plain)). maybe n false λ d. passes us left o c bs a d.clause d.bindings) (sym z.there);
      }

  pub by-clause : {last : List ℕ} {q : std.Option Spot} {y : Spot} {s : Bool} → Opened room after k w.supposed w.top q → q ≡ Some y → Passing f after last w y 64 left s → ProvingBy f room last w k left s
  by-clause p e m = by-opened p e λ ds us o c bs a z. m ds us o c bs a z.clause.clause z.clause.bindings (omega (arith, z.taken.framed.shallow)) z.taken
