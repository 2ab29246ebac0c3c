-- The use that is drawn for an atom: the first clause that serves, the way through it step by step, and the strip of its body (document 01, "Which strip the search writes").
-- Each law ends in the contract of a function of crate writer, src/write.
use Prim.Native.Nat.{ℕ, zero, suc, ◌+◌, ◌-◌, ◌≤◌, ◌<◌}
use native.Mathlib.Omega.{arith}
use native.Mathlib.Numerals.{sub-one}
use mathlib.Core.Path.{◌≡◌, refl, sym, ◌∙◌, ap, subst}
use mathlib.Core.Bool.{Bool, true, false, false≢true}
use mathlib.Core.List.{List, [], ◌∷◌, ◌++◌}
use mathlib.Core.Option.{Option, none, some, some-injective}
use lib.Seq.{get_or-set_other}
use lib.ListN.{length, get_or, take, drop, set, get_elem?, length-append, length-take, length-drop}
use borrow.Rule.Slice.PartMut.{mid_of, post_of, put_mid}
use Rattle.basics.specs.Choice.{choose, ◌>>=◌, both_true, nope, bind-some}
use Rattle.basics.specs.Text.{octets}
use Rattle.harrop.specs.declared.Binding.TheVariants.{Candidate}
use Rattle.harrop.specs.Formula.{Term, Atom, Goal, Clause, Step, Strip, height}
use Rattle.harrop.specs.Bindings.{Bindings}
use Rattle.harrop.specs.Place.{AtHand, Hand, Plain, End, listed, allowed}
use Rattle.harrop.specs.Search.{first}
use Rattle.harrop.proofs.SearchLaws.{dressed-some}
use Rattle.harrop.proofs.FirstLaws.{first-within}
use Rattle.harrop.proofs.FoundLaws.{found-is-first}
use Rattle.std.specs.Prelude as std
use Rattle.std.proofs.lemmas.Option.{MatchOption-at_some, none-some, same_Some}
use Rattle.std.specs.Prelude.{Some, None}
use Rattle.sexp.specs.Past.{PastAt}
use Rattle.sexp.specs.Sexp.{nesting}
use Rattle.packet.specs.declared.Word.{Word}
use Rattle.packet.specs.declared.Word.TheVariants as W
use Rattle.reader.specs.WordAt.{WordAt}
use Rattle.packet.specs.declared.Kind.TheVariants as K
use Rattle.rows.specs.Rows.{row_of}
use Rattle.packet.specs.Table.{due_after}
use Rattle.packet.specs.Barred.{goal_ok, atom_ok, clause_ok}
use Rattle.packet.specs.Written.{clause_sexp}
use Rattle.room.specs.Frame.{binding_word, held}
use Rattle.room.specs.Where.{plus, further}
use Rattle.room.specs.Files.{Files}
use Rattle.room.specs.declared.Spot.{Spot}
use Rattle.room.specs.declared.Where.{Where}
use Rattle.room.proofs.FrameLaws.{frame-length}
use Rattle.room.proofs.NestLaws.{clause-nests}
use Rattle.proving.specs.Hand.{deeper, Opened}
use Rattle.proving.specs.Provable as spec
use Rattle.proving.specs.Stock.{Stock}
use Rattle.proving.specs.Proving.{Ready, Taken, Passing}
use Rattle.proving.specs.Parts.{PlainAt}
use Rattle.proving.specs.First.{PathIn}
use Rattle.proving.specs.Filling.{LocatingAt}
use Rattle.heads.proofs.HeadLaws.{goal-is, clause-says, clause-is, clause-has-row, heads, first_part, second-found, first_found}
use Rattle.proving.proofs.StockLaws.{keeps_same, keeps_then, keeps-less}
use Rattle.proving.proofs.ReadyLaws.{allowed-below, ready-kept}
use Rattle.proving.proofs.HandLaws.{opened-none, opened-clause}
use Rattle.proving.proofs.ProvingLaws.{bytes_at, both_of}
use Rattle.proving.proofs.FirstLaws.{path-kept}
use Rattle.proving.proofs.PassingLaws.{clause-there, taken-part, taken-kept, push_kept, taken-with, body_at, ready-body, passing-at}
use Rattle.pen.specs.Numeral.{numeral}
use Rattle.drawing.specs.Chosen.{first_yes, stepping, used_at, candidate_from, clause_from, way}
use Rattle.pen.specs.Laid.{Puts}
use Rattle.drawing.specs.Drawn.{Cuts, behind, Closes, Draws, DrawsRest, ended, use_of}
use Rattle.drawing.specs.Writing.{Did, Writing, WritingAs, Pathing, PathingAs, FirstClause, NumberThrough}
use Rattle.drawing.specs.declared.Drawn.{Drawn}
use Rattle.drawing.proofs.ChosenLaws.{first-atom}
use Rattle.drawing.proofs.LocatedLaws.{located-path}
use Rattle.drawing.proofs.TakenLaws.{way-atom, way-imp, way-number, way-l, way-r, took-use}
use Rattle.drawing.proofs.DrawLaws.{draws-lent, rest-lent, draws-use, rest-body, rest-l, rest-r, rest-n, used-rest}

-- what is claimed of a clause
abbrev Claim : Files → List ℕ → List ℕ → List ℕ → List ℕ → List (Clause Plain) → List Term → Where → Spot → ℕ → ℕ → ℕ → Drawn → List Plain → Hand Plain → Bindings → Atom → Bindings → List Step → End Plain → Option Strip → Bool → Clause Plain → Type 0
Claim f room after d d' ds us w x nest left at r o c bs a bs' path e B located dc =
    nesting (clause_sexp dc) ≤ nest →
    Taken f room ds us w x left o c bs a dc bs' →
    way (listed us) o dc bs' (spec.serves (listed us) left o c bs a) ≡ some (path, e) →
    ended (λ g bs''. first (listed us) left o c bs'' g) e ≡ some B →
    (located ≡ true → PathIn room (x.base + x.count) path) →
    Did (Stock f ds us w.supposed c) w.supposed (x.base + x.count) room after (DrawsRest at path B d d' r)

-- a call's promise at the place, or the spot, that the code made, and from the room that it found
pub pathing-at : {f : Files} {room after d d' : List ℕ} {w : Where} {x y : Spot} {nest left at : ℕ} {located : Bool} {r : Drawn} → x ≡ y → Pathing f room after d d' w x nest left at located r → Pathing f room after d d' w y nest left at located r
pathing-at {f} {room} {after} {d} {d'} {w} {nest = nest} {left = left} {at = at} {located = located} {r = r} e p = subst (λ (z : Spot). Pathing f room after d d' w z nest left at located r) e p

pub pathing-from : {f : Files} {room now after d d' : List ℕ} {w : Where} {x : Spot} {nest left at : ℕ} {located : Bool} {r : Drawn} → now ≡ room → Pathing f now after d d' w x nest left at located r → Pathing f room after d d' w x nest left at located r
pathing-from {f} {after = after} {d = d} {d' = d'} {w = w} {x = x} {nest = nest} {left = left} {at = at} {located = located} {r = r} e p = subst (λ (z : List ℕ). Pathing f z after d d' w x nest left at located r) e p

pub writing-at : {f : Files} {room after d d' : List ℕ} {v w : Where} {h at : ℕ} {r : Drawn} → v ≡ w → Writing f room after d d' v h at r → Writing f room after d d' w h at r
writing-at {f} {room} {after} {d} {d'} {h = h} {at = at} {r = r} e p = subst (λ (z : Where). Writing f room after d d' z h at r) e p

-- a call's promise on the remaining part of a buffer, which is lent to it, is one on the buffer
pub writing-lent : {f : Files} {room after d p' : List ℕ} {w : Where} {h i m : ℕ} {a r : Drawn} → Cuts m (length d) i → r ≡ behind i a → Writing f room after (mid_of i (length d - i) d) p' w h (m - i) a → Writing f room after d (put_mid i (length d - i) d p') w h m r
writing-lent k e p ds us o c bs g S y z = let x = p ds us o c bs g S y z in record { kept = x.kept; done = draws-lent k e x.done }

pub pathing-lent : {f : Files} {room after d p' : List ℕ} {w : Where} {x : Spot} {nest left i m : ℕ} {located : Bool} {a r : Drawn} → Cuts m (length d) i → r ≡ behind i a → Pathing f room after (mid_of i (length d - i) d) p' w x nest left (m - i) located a → Pathing f room after d (put_mid i (length d - i) d p') w x nest left m located r
pathing-lent k e p ds us o c bs a dc bs' path v B n t y z loc = let x = p ds us o c bs a dc bs' path v B n t y z loc in record { kept = x.kept; done = rest-lent k e x.done }

-- a buffer is as long as before when a part of it comes back
pub lent_length : (i m : ℕ) (d p' : List ℕ) → Cuts m (length d) i → length p' ≡ length (mid_of i (length d - i) d) → length (put_mid i (length d - i) d p') ≡ length d
lent_length i m d p' k e =
    let mid : length (mid_of i (length d - i) d) ≡ length d - i = simp (length-take, length-drop) (omega arith) in
    let post : length (post_of i (length d - i) d) ≡ 0 = simp length-drop (omega arith) in
    length-append (take i d) (p' ++ post_of i (length d - i) d)
    ∙ omega (arith, length-append p' (post_of i (length d - i) d), length-take i d, k.there)

-- the same path and the same body
drawn-as : {at : ℕ} {path path' : List Step} {B B' : Option Strip} {d d' : List ℕ} {r : Drawn} → path' ≡ path → B ≡ B' → DrawsRest at path B d d' r → DrawsRest at path' B' d d' r
drawn-as {at} {path' = path'} {B = B} {d = d} {d' = d'} {r = r} e q p = subst (λ (b : Option Strip). DrawsRest at path' b d d' r) q (subst (λ (y : List Step). DrawsRest at y B d d' r) (sym e) p)

-- the first number that answers yes does
pub yes-does : (t : ℕ → Bool) (i n j : ℕ) → first_yes t i n ≡ some j → t j ≡ true
unfolding first_yes
yes-does t i zero j e = nope e
yes-does t i (suc n) j e = go (t i) refl e (λ u. yes-does t (suc i) n j u)
  where
    go : (b : Bool) → t i ≡ b → choose b (some i) (first_yes t (suc i) n) ≡ some j → (first_yes t (suc i) n ≡ some j → t j ≡ true) → t j ≡ true
    go true y u ih = ap t (sym (some-injective i j u)) ∙ y
    go false y u ih = ih u

-- a candidate that is chosen is one of them
pub chosen-below : (us : List Term) (o : List Plain) (q : Plain) (try : ℕ → Bool) (i : ℕ) → candidate_from (listed us) o q try 0 ≡ some i → i < length us
unfolding candidate_from spec.candidate_does
chosen-below us o q try i e = allowed-below us o q i (both_true (allowed (listed us) o q i) (try i) (yes-does (spec.candidate_does (listed us) o q try) 0 (length us - 0) i e)).0

-- on the way into the clause of an `all` a candidate is chosen
number-chosen : (us : List Term) (o : List Plain) (q : Plain) (dc : Clause Plain) (bs : Bindings) (try : End Plain → Bool) (path : List Step) (e : End Plain) → way (listed us) o (Clause.all_d q dc) bs try ≡ some (path, e) → (i : ℕ) × (candidate_from (listed us) o q (λ i. spec.through (listed us) o dc (Candidate i ∷ bs) try) 0 ≡ some i)
unfolding way
number-chosen us o q dc bs try path e h =
    let (i, k, z) = bind-some (candidate_from (listed us) o q (λ i. spec.through (listed us) o dc (Candidate i ∷ bs) try) 0) (λ i. stepping (Step.n i) (way (listed us) o dc (Candidate i ∷ bs) try)) (path, e) h in
    (i, k)

-- behind a number of a path in the room stand the others, also where it is written once more
path-on : (room mid : List ℕ) (base count i : ℕ) (rest : List Step) → count ≤ 64 → plus base count ≡ base + count → mid ≡ room → PathIn room (base + count) (Step.n i ∷ rest) → PathIn (set mid (plus base count) (held (binding_word (Candidate i)))) (base + plus count 1) rest
path-on room mid base count i rest l e same h =
    subst (λ (n : ℕ). PathIn (set mid (plus base count) (held (binding_word (Candidate i)))) n rest) {x = base + count + 1} {y = base + plus count 1} (omega arith)
    (path-kept room (set mid (plus base count) (held (binding_word (Candidate i)))) (base + count + 1) rest
    (λ j g. get_or-set_other mid (plus base count) j (held (binding_word (Candidate i))) 0 (λ z. omega arith) ∙ ap (λ (y : List ℕ). get_or y j 0) same)
    h.1)

module _ {f : Files} {room : List ℕ} {w : Where} {x : Spot} {left at : ℕ} {d : List ℕ} {r : Drawn} where
  -- a clause is a list
  pub no-nest : {after d' : List ℕ} {located : Bool} (nest : ℕ) → nest ≡ 0 → Pathing f room after d d' w x nest left at located r
  no-nest nest z ds us o c bs a dc bs' path e B l t h k loc = absurd (omega (arith, clause-nests dc))

  -- a clause by its word
  pub by_word : {after d' : List ℕ} {located : Bool} (nest : ℕ) (word k : Word) → (nest ≡ 0 → ⊥) → WordAt (drop x.at (bytes_at f x)) 1 k → k ≡ word → PathingAs word f room after d d' w x (nest - 1) left at located r → Pathing f room after d d' w x nest left at located r
  by_word nest word k z q e p ds us o c bs a dc bs' path end B l t =
      p ds us o c bs a dc bs' path end B (sym (clause-says (bytes_at f x) x.at dc k t.framed.stands q) ∙ e) (omega arith) t

  -- the promise of one that does not ask whether the path stands in the room
  pub by-any : {after d' : List ℕ} {located : Bool} (nest : ℕ) (word : Word) → PathingAs word f room after d d' w x nest left at false r → PathingAs word f room after d d' w x nest left at located r
  by-any nest word p ds us o c bs a dc bs' path end B h l t k z loc = p ds us o c bs a dc bs' path end B h l t k z (λ y. absurd (false≢true y))

  -- no clause has any other word
  pub by-other : {after d' : List ℕ} {located : Bool} (nest : ℕ) (k : Word) → WordAt (drop x.at (bytes_at f x)) 1 k → None ≡ row_of (due_after K.Clause k) → Pathing f room after d d' w x nest left at located r
  by-other nest k q n ds us o c bs a dc bs' path e B l t = absurd (clause-has-row dc k (clause-says (bytes_at f x) x.at dc k t.framed.stands q) n)

  -- an atom: the path ends, and nothing is behind it
  pub atom-ends : {d' : List ℕ} (nest : ℕ) → DrawsRest at [] none d d' r → PathingAs W.Atom f room room d d' w x nest left at false r
  atom-ends {d'} nest p ds us o c bs a dc bs' path e B h =
      let (b, n) = clause-is dc h in
      subst (Claim f room room d d' ds us w x (suc nest) left at r o c bs a bs' path e B false) (sym n)
      (λ l t k z loc.
      let (u, v) = way-atom (listed us) o bs' (spec.serves (listed us) left o c bs a) path e b k in
      let y = some-injective none B (ap (ended (λ g bs''. first (listed us) left o c bs'' g)) {x = End.at_atom b bs'} {y = e} (sym v) ∙ z) in
      record { kept = keeps_same room; done = drawn-as u y p })

  -- a goal that implies an atom: the path ends, and the goal's strip is behind it
  pub body-ends : {after d1 d2 : List ℕ} {v : Where} {m : ℕ} (nest : ℕ) → Puts at (octets ")") d d1 m → v ≡ body_at w x 6 → Writing f room after d1 d2 v left m r → PathingAs W.Imp f room after d d2 w x nest left at false r
  body-ends {after} {d1} {d2} {v} {m} nest p i body ds us o c bs a dc bs' path e B h =
      let (g, b, n) = clause-is dc h in
      subst (Claim f room after d d2 ds us w x (suc nest) left at r o c bs a bs' path e B false) (sym n)
      (λ l t k z loc.
      let (u, v) = way-imp (listed us) o bs' (spec.serves (listed us) left o c bs a) path e g b k in
      let (X, y, q) = dressed-some some (first (listed us) left o c bs' g) B (ap (ended (λ g bs''. first (listed us) left o c bs'' g)) {x = End.at_imp g b bs'} {y = e} (sym v) ∙ z) in
      let m = writing-at i body ds us o c bs' g X (ready-body t 6 g (first_part (octets "imp") heads.1.1.1.1 t.framed.stands) (omega arith) (both_of (goal_ok (length bs') g) (atom_ok (length bs') b) t.scoped).0) y in
      record {
        kept = keeps-less room after (omega arith) (omega (arith, t.fresh, t.ready.enough.bindings, t.framed.shallow)) m.kept;
        done = drawn-as u q (rest-body p m.done);
      })

  -- two clauses
  pub and-lost : {after d' : List ℕ} {q : std.Option ℕ} (nest : ℕ) → PastAt (drop x.at (bytes_at f x)) 6 64 q → q ≡ None → PathingAs W.And f room after d d' w x nest left at false r
  and-lost {after} {d'} nest p k ds us o c bs a dc bs' path e B h =
      let (y, z, n) = clause-is dc h in
      subst (Claim f room after d d' ds us w x (suc nest) left at r o c bs a bs' path e B false) (sym n)
      (λ l t u v loc. absurd (first_found (octets "and") heads.0 t.framed.stands (omega (arith, t.framed.shallow)) p k))

  pub and_left : {mid after d1 d2 : List ℕ} {u v : Spot} {m : ℕ} {s : Bool} (nest : ℕ) → u ≡ further x 6 → Passing f room mid w u nest left s → s ≡ true → length mid ≡ length room → Puts at (octets "1:l") d d1 m → v ≡ further x 6 → Pathing f mid after d1 d2 w v nest left m false r → PathingAs W.And f room after d d2 w x nest left at false r
  and_left {mid} {after} {d1} {d2} nest i p z long b j p' ds us o c bs a dc bs' path e B h =
      let (y, y', n) = clause-is dc h in
      subst (Claim f room after d d2 ds us w x (suc nest) left at r o c bs a bs' path e B false) (sym n)
      (λ l t k u loc.
      let t' = taken-part t 6 y (first_part (octets "and") heads.0 t.framed.stands) (omega arith) (both_of (clause_ok (length bs') y) (clause_ok (length bs') y') t.scoped).0 in
      let m = passing-at i p ds us o c bs a y bs' (omega arith) t' in
      let (rest, v, q) = way-l (listed us) o bs' (spec.serves (listed us) left o c bs a) path e y y' (sym m.answer ∙ z) k in
      let m' = pathing-at j p' ds us o c bs a y bs' rest e B (omega arith) (taken-kept t' m.kept long) q u (λ y. absurd (false≢true y)) in
      record { kept = keeps_then room mid after (omega arith) (omega arith) m.kept m'.kept; done = drawn-as {path = Step.l ∷ rest} v refl (rest-l {path = rest} b m'.done) })

  pub and_right : {mid after d1 d2 : List ℕ} {u v : Spot} {q : std.Option ℕ} {k m : ℕ} {s : Bool} (nest : ℕ) → PastAt (drop x.at (bytes_at f x)) 6 64 q → q ≡ Some k → u ≡ further x 6 → Passing f room mid w u nest left s → s ≡ false → length mid ≡ length room → Puts at (octets "1:r") d d1 m → v ≡ further x k → Pathing f mid after d1 d2 w v nest left m false r → PathingAs W.And f room after d d2 w x nest left at false r
  and_right {mid} {after} {d1} {d2} {k = k} nest w1 w2 i p z long b j p' ds us o c bs a dc bs' path e B h =
      let (y, y', n) = clause-is dc h in
      subst (Claim f room after d d2 ds us w x (suc nest) left at r o c bs a bs' path e B false) (sym n)
      (λ l t ch u loc.
      let (ok, ok') = both_of (clause_ok (length bs') y) (clause_ok (length bs') y') t.scoped in
      let m = passing-at i p ds us o c bs a y bs' (omega arith) (taken-part t 6 y (first_part (octets "and") heads.0 t.framed.stands) (omega arith) ok) in
      let (rest, v, q) = way-r (listed us) o bs' (spec.serves (listed us) left o c bs a) path e y y' (sym m.answer ∙ z) ch in
      let t' = taken-part t k y' (second-found (octets "and") heads.0 t.framed.stands w1 w2) (omega arith) ok' in
      let m' = pathing-at j p' ds us o c bs a y' bs' rest e B (omega arith) (taken-kept t' m.kept long) q u (λ y. absurd (false≢true y)) in
      record { kept = keeps_then room mid after (omega arith) (omega arith) m.kept m'.kept; done = drawn-as {path = Step.r ∷ rest} v refl (rest-r {path = rest} b m'.done) })

  -- an `all`, with the candidate that is chosen
  pub all-with : {mid after d1 d2 : List ℕ} {v : Spot} {m : ℕ} (nest i : ℕ) (located : Bool) → NumberThrough f room mid w x nest left located i → length mid ≡ length room → Puts at (numeral i) d d1 m → v ≡ deeper x 6 → Pathing f (set mid (plus x.base x.count) (held (binding_word (Candidate i)))) after d1 d2 w v nest left m located r → PathingAs W.All f room after d d2 w x nest left at located r
  all-with {mid} {after} {d1} {d2} nest i located number long b j p ds us o c bs a dc bs' path e B h =
      let (q, y, n) = clause-is dc h in
      subst (Claim f room after d d2 ds us w x (suc nest) left at r o c bs a bs' path e B located) (sym n)
      (λ l t k u loc.
      let try : End Plain → Bool = spec.serves (listed us) left o c bs a in
      let (i', ch) = number-chosen us o q y bs' try path e k in
      let (rest', v', z') = way-number (listed us) o bs' try path e q y i' ch k in
      let m = number ds us o c bs a q y bs' i' l t ch (λ g. (subst (PathIn room (x.base + x.count)) v' (loc g)).0) in
      let is = ch ∙ ap some (sym m.done.0) in
      let below = chosen-below us o q (λ i. spec.through (listed us) o y (Candidate i ∷ bs') try) i is in
      let (rest, v, z) = way-number (listed us) o bs' try path e q y i is k in
      let t' = taken-kept t {after = mid} m.kept long in
      let s = held (binding_word (Candidate i)) in
      let here : plus x.base x.count ≡ x.base + x.count = omega (arith, t.framed.shallow, t.fresh, t.ready.low) in
      let m' = pathing-at j p ds us o c bs a y (Candidate i ∷ bs') rest e B (omega arith) (taken-with t' 6 i y (first_part (octets "all") heads.1.1.1.0 t.framed.stands) (omega arith) t.scoped below) z u (λ g. path-on room mid x.base x.count i rest (omega (arith, t.framed.shallow)) here (m.done.1 g) (subst (PathIn room (x.base + x.count)) v (loc g))) in
      record {
        kept = keeps_then room mid after (omega arith) (omega arith) m.kept (keeps_then mid (set mid (plus x.base x.count) s) after (omega arith) (omega (arith, t.framed.shallow)) (push_kept t' s) m'.kept);
        done = drawn-as {path = Step.n i ∷ rest} v refl (rest-n {path = rest} b m'.done);
      })

-- what is claimed of a goal
abbrev pub GoalClaim : Files → List ℕ → List ℕ → List ℕ → List ℕ → List (Clause Plain) → List Term → Where → ℕ → ℕ → Drawn → List Plain → Hand Plain → Bindings → Strip → Goal Plain → Type 0
GoalClaim f room after d d' ds us w h at r o c bs S g =
    Ready f room ds us w h o c bs g →
    first (listed us) h o c bs g ≡ some S →
    Did (Stock f ds us w.supposed c) w.supposed w.top room after (Draws at S d d' r)

-- what the first strip of an atom is, where clause k is chosen
use-chosen : (us : List Term) (h : ℕ) (o : List Plain) (c : Hand Plain) (bs : Bindings) (a : Atom) (S : Strip) → first (listed us) (suc h) o c bs (Goal.atom a) ≡ some S → (k : ℕ) × (x : AtHand Plain) × (clause_from (listed us) o c (spec.serves (listed us) h o c bs a) 0 ≡ some k) × (get_elem? c k ≡ some x)
use-chosen us h o c bs a S e =
    let try : End Plain → Bool = spec.serves (listed us) h o c bs a in
    let (k, f, u) = bind-some (clause_from (listed us) o c try 0) (λ k. get_elem? c k >>= λ x. way (listed us) o x.clause x.bindings try >>= λ y. used_at (λ g ds. first (listed us) h o c ds g) k y.0 y.1) S (sym (first-atom (listed us) h o c bs a) ∙ e) in
    let (x, m, v) = bind-some (get_elem? c k) (λ x. way (listed us) o x.clause x.bindings try >>= λ y. used_at (λ g ds. first (listed us) h o c ds g) k y.0 y.1) S u in
    (k, x, f, m)

-- and the way through it, with the body at its end
record UseTaken (us : List Term) (h : ℕ) (o : List Plain) (c : Hand Plain) (bs : Bindings) (a : Atom) (S : Strip) (k : ℕ) (x : AtHand Plain) : Type 0 where
  path : List Step
  end : End Plain
  body : Option Strip
  through : way (listed us) o x.clause x.bindings (spec.serves (listed us) h o c bs a) ≡ some (path, end)
  behind : ended (λ g bs''. first (listed us) h o c bs'' g) end ≡ some body
  whole : S ≡ use_of k path body

use-taken : (us : List Term) (h : ℕ) (o : List Plain) (c : Hand Plain) (bs : Bindings) (a : Atom) (S : Strip) (k : ℕ) (x : AtHand Plain) → clause_from (listed us) o c (spec.serves (listed us) h o c bs a) 0 ≡ some k → get_elem? c k ≡ some x → first (listed us) (suc h) o c bs (Goal.atom a) ≡ some S → UseTaken us h o c bs a S k x
use-taken us h o c bs a S k x f m e =
    let (path, end, through, used) = rw sub-one at (took-use (listed us) o c bs S (suc h) a k x (λ z. absurd (omega arith)) (rw sub-one f) m e) in
    let (body, behind, whole) = used-rest (λ g bs''. first (listed us) h o c bs'' g) k path end S used in
    record { path = path; end = end; body = body; through = through; behind = behind; whole = whole }

-- it is drawn as it is found: its height is one that the search was given
use-whole : {at l m n : ℕ} {d d1 d2 d3 d4 d5 : List ℕ} {s r : Drawn} (S : Strip) (k : ℕ) (path : List Step) (B : Option Strip) → S ≡ use_of k path B → height S ≤ 64 → Puts at (octets "(3:use") d d1 l → Puts l (numeral k) d1 d2 m → Puts m (octets "(") d2 d3 n → DrawsRest n path B d3 d4 s → Closes s d4 d5 r → Draws at S d d5 r
use-whole {at} {d = d} {d5 = d5} {r = r} S k path B e low head number open' rest close =
    subst (λ (R : Strip). Draws at R d d5 r) (sym e) (draws-use k (subst (λ (R : Strip). height R ≤ 64) e low) head number open' rest close)

-- the use of the first clause that serves an atom
pub use-nothing : {f : Files} {room after : List ℕ} {w : Where} {left at : ℕ} {d d' : List ℕ} {r : Drawn} {s : std.Option ℕ} → FirstClause f room after w left s → s ≡ None → WritingAs W.Atom f room after d d' w left at r
use-nothing {f} {room} {after} {w} {left} {at} {d} {d'} {r} {s} chosen no' ds us o c bs g S h =
    let (a, n) = goal-is g h in
    subst (GoalClaim f room after d d' ds us w (suc left) at r o c bs S) (sym n)
    (λ t u.
    let (k', x, ch, m) = use-chosen us left o c bs a S u in
    let z = chosen ds us o c bs a k' t ch in
    absurd (none-some k' (sym no' ∙ z.done)))

module _ {f : Files} {room mid : List ℕ} {w : Where} {left at : ℕ} {d : List ℕ} {r : Drawn} {chose : std.Option ℕ} (k : ℕ) (chosen : FirstClause f room mid w left chose) (is : chose ≡ Some k) (long : length mid ≡ length room) where
  -- it is at hand
  pub use-none : {after d' : List ℕ} {q : std.Option Spot} → Opened mid after k w.supposed w.top q → q ≡ None → WritingAs W.Atom f room after d d' w left at r
  use-none {after} {d'} p e ds us o c bs g S h =
      let (a, n) = goal-is g h in
      subst (GoalClaim f room after d d' ds us w (suc left) at r o c bs S) (sym n)
      (λ t u.
      let (k', x, ch, m) = use-chosen us left o c bs a S u in
      let z = chosen ds us o c bs a k' t ch in
      let (gone, same) = opened-none (ready-kept z.kept long t) k (subst (Opened mid after k w.supposed w.top) e p) in
      nope (sym gone ∙ ap (get_elem? c) (same_Some k k' (sym is ∙ z.done)) ∙ m))

  pub use-drawn : {now after d1 d2 d3 d4 d5 : List ℕ} {q : std.Option Spot} {y : Spot} {l m n : ℕ} {located : Bool} {s : Drawn} → std.MatchOption chose std.⊤ (λ (n : ℕ). LocatingAt f room mid w left n) → Opened mid now k w.supposed w.top q → q ≡ Some y → PlainAt f y located → Puts at (octets "(3:use") d d1 l → Puts l (numeral k) d1 d2 m → Puts m (octets "(") d2 d3 n → Pathing f now after d3 d4 w y 64 left n located s → Closes s d4 d5 r → WritingAs W.Atom f room after d d5 w left at r
  use-drawn {now} {after} {d5 = d5} {y = y₀} left' p e plain head number path m close ds us o c bs g S h =
      let (a, n) = goal-is g h in
      subst (GoalClaim f room after d d5 ds us w (suc left) at r o c bs S) (sym n)
      (λ t u.
      let (k', x', ch, there) = use-chosen us left o c bs a S u in
      let z = chosen ds us o c bs a k' t ch in
      let x = opened-clause (ready-kept z.kept long t) k (subst (Opened mid now k w.supposed w.top) e p) in
      let z' = use-taken us left o c bs a S k x.clause (ch ∙ ap some (sym (same_Some k k' (sym is ∙ z.done)))) x.there u in
      let y = m ds us o c bs a x.clause.clause x.clause.bindings z'.path z'.end z'.body (omega (arith, x.taken.framed.shallow)) x.taken z'.through z'.behind (λ b.
      let so = sym (plain x.clause.clause (omega (arith, x.taken.framed.shallow)) (clause-there x.taken) (omega (arith, x.taken.framed.shallow))) ∙ b in
      let many = ap length (sym x.taken.framed.holds) ∙ frame-length now y₀.base y₀.count in
      path-kept mid now (y₀.base + y₀.count) z'.path x.above
      (subst (λ (i : ℕ). PathIn mid i z'.path) {x = w.top + length x.clause.bindings} {y = y₀.base + y₀.count} (omega (arith, x.taken.fresh, many))
      (located-path x.clause.clause (omega (arith, t.place.booked.candidates.few)) so (MatchOption-at_some std.⊤ (λ (n : ℕ). LocatingAt f room mid w left n) k is left' ds us o c bs a t x.clause x.there so) z'.through))) in
      let low : height S ≤ 64 = omega (arith, first-within (listed us) (found-is-first (listed us) (suc left) o c bs (Goal.atom a) S u), t.enough.supposed) in
      record {
        kept = keeps_then room mid after (omega arith) (omega arith) z.kept (keeps_then mid now after (omega arith) (omega (arith, x.taken.fresh)) x.kept y.kept);
        done = use-whole S k z'.path z'.body z'.whole low head number path y.done close;
      })
