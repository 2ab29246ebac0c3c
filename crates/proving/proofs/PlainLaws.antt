-- The frame of a clause whose variables are set one after the other: what a written variable leaves in it and around it, and that the clause and the atom still stand (document 02, Three; document 01, "When a strip fits").
use Prim.Native.Nat.{ℕ, zero, suc, ◌+◌, ◌-◌, ◌≤◌, ◌<◌}
use native.Mathlib.Omega.{arith}
use mathlib.Core.Path.{◌≡◌, refl, sym, ◌∙◌, ap, ap₂, subst}
use mathlib.Core.Bool.{Bool, true, false, false≢true}
use mathlib.Core.List.{List, ◌∷◌}
use lib.ListN.{length, get_or, set, length-set}
use lib.Seq.{get_or-set_other}
use borrow.Author.Tests.{lt-ltb, le-ltb}
use Rattle.basics.specs.Choice.{choose}
use Rattle.harrop.specs.declared.Binding.{Binding}
use Rattle.harrop.specs.Formula.{Term, Atom, Goal, Clause}
use Rattle.harrop.specs.Bindings.{Bindings}
use Rattle.harrop.specs.Place.{Hand, Plain}
use Rattle.sexp.specs.Sexp.{Sexp}
use Rattle.packet.specs.Barred.{atom_ok, goal_ok}
use Rattle.room.specs.Layout.{words, levels, stack}
use Rattle.room.specs.Frame.{binding_word, binding_of, held, bindings_in}
use Rattle.room.specs.Spot.{bindings_at}
use Rattle.equal.specs.Term.{AtomAt}
use Rattle.room.specs.Where.{Live, Kept, Framed, plus}
use Rattle.room.specs.Files.{Files}
use Rattle.room.specs.declared.Spot.{Spot}
use Rattle.room.specs.declared.Where.{Where}
use Rattle.equal.proofs.AtomLaws.{atom-at}
use Rattle.room.proofs.FrameLaws.{frame_pushed, frame-length, frames-alike}
use Rattle.room.proofs.MoveLaws.{hand-higher}
use Rattle.mentions.specs.Open.{unset}
use Rattle.keys.specs.Keys.{key_word}
use Rattle.proving.specs.Stock.{Stock, Keeps}
use Rattle.proving.specs.Proving.{Ready}
use Rattle.proving.specs.Parts.{variable_word, body_place, head_of, with_head}
use Rattle.proving.specs.Frames.{unsets, set_to}
use Rattle.proving.specs.Filling.{HeadIn, BodyIn, PartsIn, Filling, Unsets, Starting, floor}
use Rattle.proving.specs.declared.plain.Parts.{Parts}
use Rattle.proving.proofs.StockLaws.{keeps-less, stock-low, stock-set}
use Rattle.proving.proofs.ReadyLaws.{ready-kept}
use Rattle.proving.proofs.CompletesLaws.{set_long}

-- unset variables before others: the next one is set to none
pub unset-next : (v : ℕ) (b : Binding) (bs : Bindings) → set_to v unset (unsets v (b ∷ bs)) ≡ unsets (suc v) bs
unset-next zero b bs = refl
unset-next (suc v) b bs = ap (λ (x : Bindings). unset ∷ x) (unset-next v b bs)

-- a variable's word written: the frame has that binding
in_frame : (room : List ℕ) (base n v : ℕ) (d : Binding) → v < n → base + n ≤ length room → binding_word d ≤ 4294967295 → bindings_in (set room (base + (n - 1 - v)) (held (binding_word d))) base n ≡ set_to v d (bindings_in room base n)
unfolding bindings_in
in_frame room base zero v d l h f = absurd (omega arith)
in_frame room base (suc n) zero d l h f =
    ap (λ (i : ℕ). bindings_in (set room i (held (binding_word d))) base (suc n)) {x = base + (suc n - 1 - 0)} {y = base + n} (omega arith)
    ∙ frame_pushed room base n d (omega arith) f
in_frame room base (suc n) (suc v) d l h f =
    let same : base + (suc n - 1 - suc v) ≡ base + (n - 1 - v) = omega arith in
    ap (λ (i : ℕ). bindings_in (set room i (held (binding_word d))) base (suc n)) same
    ∙ ap₂ {C = Bindings} (λ (w : ℕ) (bs : Bindings). binding_of w ∷ bs)
    (get_or-set_other room (base + (n - 1 - v)) (base + n) (held (binding_word d)) 0 (λ e. omega arith))
    (in_frame room base n v d (omega arith) (omega arith) f)

-- where a variable of a frame is kept, if the frame is far below the largest word
pub word_in : (x : Spot) (v : ℕ) → v < x.count → x.base + x.count ≤ 18446744073709551615 → variable_word x v ≡ x.base + (x.count - 1 - v)
word_in x v l h =
    ap (λ (t : Bool). choose t (plus x.base (x.count - 1 - v)) (plus x.base x.count)) (lt-ltb v x.count l)
    ∙ omega arith

-- and where the code keeps it
pub word-here : (x : Spot) (v r : ℕ) → v < x.count → r ≡ plus x.base (x.count - 1 - v) → r ≡ variable_word x v
word-here x v r l e = e ∙ ap (λ (t : Bool). choose t (plus x.base (x.count - 1 - v)) (plus x.base x.count)) (sym (lt-ltb v x.count l))

pub word-past : (x : Spot) (v r : ℕ) → x.count ≤ v → r ≡ plus x.base x.count → r ≡ variable_word x v
word-past x v r l e = e ∙ ap (λ (t : Bool). choose t (plus x.base (x.count - 1 - v)) (plus x.base x.count)) (sym (le-ltb v x.count l))

pub frame-set : (room : List ℕ) (x : Spot) (v : ℕ) (d : Binding) → v < x.count → x.base + x.count ≤ length room → x.base + x.count ≤ 18446744073709551615 → binding_word d ≤ 4294967295 → bindings_at (set room (variable_word x v) (held (binding_word d))) x ≡ set_to v d (bindings_at room x)
frame-set room x v d l h s f =
    ap (λ (i : ℕ). bindings_at (set room i (held (binding_word d))) x) (word_in x v l s)
    ∙ in_frame room x.base x.count v d l h f

-- and no other word is touched
pub others-stay : (room : List ℕ) (x : Spot) (v : ℕ) (d : Binding) (i : ℕ) → (i ≡ variable_word x v → ⊥) → get_or (set room (variable_word x v) (held (binding_word d))) i 0 ≡ get_or room i 0
others-stay room x v d i n = get_or-set_other room (variable_word x v) i (held (binding_word d)) 0 n

-- so nothing below the variables of a clause is
pub below_stays : (room : List ℕ) (x : Spot) (supposed own v : ℕ) (d : Binding) → v < own → own ≤ x.count → x.base + x.count ≤ 18446744073709551615 → supposed ≤ 63 → stack ≤ x.base → Kept supposed (x.base + (x.count - own)) room (set room (variable_word x v) (held (binding_word d)))
below_stays room x supposed own v d l h s few above i (Live.low k) =
    let e = word_in x v (omega arith) s in
    others-stay room x v d i (λ q. omega arith)
below_stays room x supposed own v d l h s few above i (Live.high k k') =
    let e = word_in x v (omega arith) s in
    others-stay room x v d i (λ q. omega arith)

-- the first variables unset, one after the other
pub unset-start : (room : List ℕ) (x : Spot) → Unsets room room x 0
unset-start room x =
    record {
      long = refl;
      holds = λ l h. ap (bindings_in room x.base) {x = x.count} {y = x.count - 0} (omega arith);
      kept = λ l h i k. refl;
      above = λ l h i k. refl;
    }

pub unset-more : (room now after : List ℕ) (x : Spot) (v y : ℕ) → length room ≤ 18446744073709551615 → y ≡ variable_word x v → after ≡ set now y (held (binding_word unset)) → Unsets room now x v → Unsets room after x (v + 1)
unfolding bindings_in
unset-more room now after x v y small i e u =
    subst (λ (r : List ℕ). Unsets room r x (v + 1)) (sym (e ∙ ap (λ (k : ℕ). set now k (held (binding_word unset))) i))
    (record {
      long = length-set now (variable_word x v) (held (binding_word unset)) ∙ u.long;
      holds = λ l h.
          let m = x.count - (v + 1) in
          let b = binding_of (get_or room (x.base + m) 0) in
          frame-set now x v unset (omega arith) (omega (arith, u.long)) (omega arith) (omega arith)
          ∙ ap (set_to v unset) (u.holds (omega arith) h ∙ ap (λ (k : ℕ). unsets v (bindings_in room x.base k)) {x = x.count - v} {y = suc m} (omega arith))
          ∙ unset-next v b (bindings_in room x.base m)
          ∙ ap (λ (k : ℕ). unsets k (bindings_in room x.base m)) {x = suc v} {y = v + 1} (omega arith);
      kept = λ l h k q.
          let z = word_in x v (omega arith) (omega arith) in
          others-stay now x v unset k (λ s. omega arith) ∙ u.kept (omega arith) h k (omega arith);
      above = λ l h k q.
          let z = word_in x v (omega arith) (omega arith) in
          others-stay now x v unset k (λ s. omega arith) ∙ u.above (omega arith) h k q;
    })

pub head_in : (f : Files) (room : List ℕ) (p : Parts) (e : Clause Plain) (fr : Bindings) → PartsIn f room p e fr → HeadIn f room p (head_of e) fr
head_in f room p (Clause.atom_d b) fr h = h.1
head_in f room p (Clause.imp_d g b) fr h = h.1
head_in f room p (Clause.all_d q d) fr h = absurd h
head_in f room p (Clause.and_d c d) fr h = absurd h

-- the parts where the room's words are as they were, or where one variable is another
pub parts-over : (f : Files) (room after : List ℕ) (p : Parts) (e : Clause Plain) (fr fr' : Bindings) → bindings_at after p.head ≡ fr' → length fr' ≡ length fr → PartsIn f room p e fr → PartsIn f after p e fr'
parts-over f room after p e fr fr' holds long = go e
  where
    over : {x : Spot} {e : Sexp} → bindings_at after x ≡ fr' → Framed f room x (p.head.base + p.head.count) e fr → Framed f after x (p.head.base + p.head.count) e fr'
    over k h = record { stands = h.stands; above = h.above; below = h.below; holds = k; shallow = h.shallow }

    head : (b : Atom) → HeadIn f room p b fr → HeadIn f after p b fr'
    head b h =
        record {
          above = h.above;
          holds = holds;
          shallow = h.shallow;
          framed = λ y. over holds (h.framed y);
          scoped = λ y. subst (λ (n : ℕ). atom_ok n b ≡ true) (sym long) (h.scoped y);
        }

    body : (g : Goal Plain) → BodyIn f room p g fr → BodyIn f after p g fr'
    body g h =
        record {
          framed = over (ap₂ (λ (b : ℕ) (n : ℕ). bindings_in after b n) h.base h.count ∙ holds) h.framed;
          scoped = subst (λ (n : ℕ). goal_ok n g ≡ true) (sym long) h.scoped;
          base = h.base;
          count = h.count;
        }

    go : (e : Clause Plain) → PartsIn f room p e fr → PartsIn f after p e fr'
    go (Clause.atom_d b) h = (h.0, head b h.1)
    go (Clause.imp_d g b) h = (h.0, head b h.1, body g h.2)
    go (Clause.all_d q d) h = absurd h
    go (Clause.and_d c d) h = absurd h

module _ {f : Files} {room : List ℕ} {ds : List (Clause Plain)} {us : List Term} {w : Where} {p : Parts} {left : ℕ} {o : List Plain} {c : Hand Plain} {bs : Bindings} {a : Atom} {e : Clause Plain} {fr : Bindings} (t : Filling f room ds us w p left o c bs a e fr) where
  -- the frame, and how far it reaches: not to what the search keeps
  pub frame_is : bindings_at room p.head ≡ fr
  frame_is = (head_in f room p e fr t.parts).holds

  pub frame-many : length fr ≡ p.head.count
  frame-many = ap length (sym frame_is) ∙ frame-length room p.head.base p.head.count

  pub frame-ends : (p.head.count ≤ levels) × (p.head.base + p.head.count ≤ words) × (p.head.base + p.head.count ≤ key_word 0)
  frame-ends =
      let b = t.ready.enough.bindings in
      let q = t.reach in
      ((head_in f room p e fr t.parts).shallow, omega arith, omega (arith, t.ready.low))

  -- the atoms, as the comparison of atoms asks for them, where there is a head to compare
  module _ (y : p.headed ≡ true) where
    pub ready-atom : Ready f room ds us w (suc left) o c bs (Goal.atom a)
    ready-atom = subst (Ready f room ds us w (suc left) o c bs) (t.atom y) t.ready

    pub head-at : AtomAt f p.head (head_of e)
    head-at = let h = head_in f room p e fr t.parts in atom-at (head_of e) (h.framed y) (h.scoped y)

    pub atom-there : AtomAt f w.goal a
    atom-there = atom-at a ready-atom.place.framed ready-atom.place.scoped

  -- in another room, where the place and the parts stand
  pub filling-over : {after : List ℕ} {fr' : Bindings} → Ready f after ds us w (suc left) o c bs t.asked → PartsIn f after p e fr' → Filling f after ds us w p left o c bs a e fr'
  filling-over r q =
      record { asked = t.asked; ready = r; atom = t.atom; parts = q; own = t.own; fresh = t.fresh; reach = t.reach }

  -- after a call that keeps what is below the frame's end
  pub filling-kept : {after : List ℕ} → Keeps (Stock f ds us w.supposed c) w.supposed (p.head.base + p.head.count) room after → length after ≡ length room → Filling f after ds us w p left o c bs a e fr
  filling-kept {after} k l =
      let h = head_in f room p e fr t.parts in
      filling-over
      (ready-kept (keeps-less room after (omega arith) (omega (arith, t.fresh)) k) l t.ready)
      (parts-over f room after p e fr fr (frames-alike after room p.head.base p.head.base p.head.count (λ i q. k.words (p.head.base + i) (Live.high (omega (arith, h.above)) (omega arith))) ∙ frame_is) refl t.parts)

  -- with another binding for one of the clause's own variables
  module _ (v : ℕ) (d : Binding) (l : v < p.own) where
    -- its word is none of those that the search keeps
    pub word-free : {now : List ℕ} → Stock f ds us w.supposed c now → Stock f ds us w.supposed c (set now (variable_word p.head v) (held (binding_word d)))
    word-free =
        let n = frame-ends in
        stock-set (variable_word p.head v) (held (binding_word d)) (omega (arith, n.2, t.own, word_in p.head v (omega (arith, t.own)) (omega (arith, n.1))))

    pub write_keeps : Keeps (Stock f ds us w.supposed c) w.supposed (floor p) room (set room (variable_word p.head v) (held (binding_word d)))
    write_keeps =
        let n = frame-ends in
        let h = head_in f room p e fr t.parts in
        record {
          words = below_stays room p.head w.supposed p.own v d l t.own (omega (arith, n.1)) (omega (arith, t.ready.enough.supposed)) h.above;
          stock = word-free;
        }

    pub filling-set : binding_word d ≤ 4294967295 → Filling f (set room (variable_word p.head v) (held (binding_word d))) ds us w p left o c bs a e (set_to v d fr)
    filling-set small =
        let n = frame-ends in
        let after = set room (variable_word p.head v) (held (binding_word d)) in
        let holds = frame-set room p.head v d (omega (arith, t.own)) (omega (arith, n.1, t.ready.long)) (omega (arith, n.1)) small ∙ ap (set_to v d) frame_is in
        filling-over
        (ready-kept (keeps-less room after (omega arith) (omega (arith, t.fresh)) write_keeps) (length-set room (variable_word p.head v) (held (binding_word d))) t.ready)
        (parts-over f room after p e fr (set_to v d fr) holds (set_long v d fr) t.parts)

-- the same parts with a head that is not to be compared
pub filling-compared : {f : Files} {room : List ℕ} {ds : List (Clause Plain)} {us : List Term} {w : Where} {p : Parts} {left : ℕ} {o : List Plain} {c : Hand Plain} {bs : Bindings} {a : Atom} {e : Clause Plain} {fr : Bindings} → Filling f room ds us w p left o c bs a e fr → Filling f room ds us w (with_head p false) left o c bs a e fr
filling-compared {f} {room} {p = p} {e = e} {fr = fr} t =
    record { asked = t.asked; ready = t.ready; atom = λ y. absurd (false≢true y); parts = go e t.parts; own = t.own; fresh = t.fresh; reach = t.reach }
  where
    head : (b : Atom) → HeadIn f room p b fr → HeadIn f room (with_head p false) b fr
    head b h = record { above = h.above; holds = h.holds; shallow = h.shallow; framed = λ y. absurd (false≢true y); scoped = λ y. absurd (false≢true y) }

    body : (g : Goal Plain) → BodyIn f room p g fr → BodyIn f room (with_head p false) g fr
    body g h = record { framed = h.framed; scoped = h.scoped; base = h.base; count = h.count }

    go : (e : Clause Plain) → PartsIn f room p e fr → PartsIn f room (with_head p false) e fr
    go (Clause.atom_d b) h = (h.0, head b h.1)
    go (Clause.imp_d g b) h = (h.0, head b h.1, body g h.2)
    go (Clause.all_d q d) h = absurd h
    go (Clause.and_d c d) h = absurd h

-- the place of the body
pub filling-body : {f : Files} {room : List ℕ} {ds : List (Clause Plain)} {us : List Term} {w : Where} {p : Parts} {left : ℕ} {o : List Plain} {c : Hand Plain} {bs : Bindings} {a : Atom} {g : Goal Plain} {b : Atom} {fr : Bindings} → Filling f room ds us w p left o c bs a (Clause.imp_d g b) fr → Ready f room ds us (body_place w p) left o c fr g
filling-body {p = p} t =
    let n = frame-ends t in
    let h = t.parts.2 in
    let place = t.ready.place in
    let top : p.goal.base + p.goal.count ≡ plus p.goal.base p.goal.count = omega (arith, h.base, h.count, n.1) in
    record {
      place =
          record {
            booked = place.booked;
            framed = record { stands = h.framed.stands; above = h.framed.above; below = omega (arith, top); holds = h.framed.holds; shallow = h.framed.shallow };
            scoped = h.scoped;
            tight = top;
            openly = place.openly;
            hand = hand-higher (omega (arith, t.fresh, top, h.base, h.count)) place.hand;
          };
      enough =
          record {
            bindings = omega (arith, t.ready.enough.bindings, t.reach, h.base, h.count);
            supposed = omega (arith, t.ready.enough.supposed);
            opened = omega (arith, t.ready.enough.opened);
          };
      long = t.ready.long;
      low = omega (arith, t.ready.low, t.reach, h.base, h.count);
      stock = t.ready.stock;
    }

-- the whole clause, once its own variables are unset
module _ {f : Files} {room after : List ℕ} {ds : List (Clause Plain)} {us : List Term} {w : Where} {p : Parts} {left : ℕ} {o : List Plain} {c : Hand Plain} {bs : Bindings} {a : Atom} {e : Clause Plain} {bs' : Bindings} (t : Starting f room ds us w p left o c bs a e bs') (u : Unsets room after p.head p.own) where
  start-ends : (p.head.base + p.head.count ≤ length room) × (stack ≤ p.head.base)
  start-ends =
      let r = t.ready in
      (omega (arith, t.reach, r.enough.bindings, r.long), t.above)

  start-words : Kept w.supposed (floor p) room after
  start-words i (Live.low k) = let n = start-ends in u.kept t.own n.0 i (omega (arith, n.1, t.ready.enough.supposed))
  start-words i (Live.high k k') = u.kept t.own start-ends.0 i k'

  pub start-keeps : Keeps (Stock f ds us w.supposed c) w.supposed (floor p) room after
  start-keeps =
      record {
        words = start-words;
        stock = stock-low u.long (λ i k. u.above t.own start-ends.0 i (omega (arith, t.reach, t.ready.low)));
      }

  pub start-filling : Filling f after ds us w p left o c bs a e (unsets p.own bs')
  start-filling =
      let holds = u.holds t.own start-ends.0 ∙ ap (unsets p.own) t.holds in
      record {
        asked = t.asked;
        ready = ready-kept (keeps-less room after (omega arith) (omega (arith, t.fresh)) start-keeps) u.long t.ready;
        atom = t.atom;
        parts = t.parts after holds;
        own = t.own;
        fresh = t.fresh;
        reach = t.reach;
      }
