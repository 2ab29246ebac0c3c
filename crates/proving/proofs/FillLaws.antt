-- A clause searched for an atom with its own variables unset at first: its body looked at, its frame filled variable by variable, and the whole clause (document 02, Three: the head decides before candidates are tried, and a goal of a body is looked at as soon as its variables are set).
-- Each law ends in the contract of a function of crate provable, src/provable.
use Prim.Native.Nat.{ℕ, suc, ◌+◌, ◌-◌, ◌≤◌, ◌<◌}
use native.Mathlib.Omega.{arith}
use mathlib.Core.Path.{◌≡◌, refl, sym, ◌∙◌, ap, ap₂, subst}
use mathlib.Core.Bool.{Bool, true, false, ◌&&◌, not, false≢true}
use mathlib.Core.List.{List, [], ◌∷◌}
use mathlib.Core.Logic.{⊎_elim}
use lib.Dec.{ltb, leb, eqb}
use lib.ListN.{length, get_or, drop, set}
use lib.Seq.{get_or-set_same, get_or-set_other}
use types.Run.{OneOf}
use borrow.Author.Tests.{eqb-true, eqb-false, not-true}
use Rattle.basics.specs.Choice.{both_true}
use Rattle.basics.specs.Text.{octets}
use Rattle.harrop.specs.declared.Binding.{Binding}
use Rattle.harrop.specs.declared.Binding.TheVariants.{Candidate}
use Rattle.harrop.specs.Formula.{Term, Atom, Goal, Clause}
use Rattle.harrop.specs.Bindings.{Bindings}
use Rattle.harrop.specs.Place.{Hand, Plain, listed, allowed}
use Rattle.std.specs.Prelude.{Option, Some, None, is_some}
use Rattle.sexp.specs.Past.{PastAt}
use Rattle.sexp.specs.Sexp.{Stands, nesting}
use Rattle.packet.specs.declared.Word.{Word}
use Rattle.packet.specs.declared.Word.TheVariants as W
use Rattle.reader.specs.WordAt.{WordAt}
use Rattle.packet.specs.Table.{rank}
use Rattle.packet.specs.Barred.{goal_ok, atom_ok, clause_ok}
use Rattle.packet.specs.Written.{atom_sexp, goal_sexp, clause_sexp}
use Rattle.packet.specs.File.{most_bytes}
use Rattle.rows.proofs.TableLaws.{out}
use Rattle.room.specs.Layout.{levels, candidates_word, highest_word, stack}
use Rattle.room.specs.Frame.{binding_word, held, bindings_in, bound_to}
use Rattle.room.specs.Spot.{bindings_at}
use Rattle.room.specs.Where.{Live, Kept, within}
use Rattle.room.specs.Files.{Files}
use Rattle.room.specs.declared.Spot.{Spot}
use Rattle.room.specs.declared.Where.{Where}
use Rattle.room.proofs.FrameLaws.{frame-length, frames-alike, bound-in, binding-word}
use Rattle.room.proofs.WhereLaws.{file-small, plus-inside}
use Rattle.mentions.specs.Open.{unset, is_unset, is_open, asked}
use Rattle.mentions.specs.Mentions.{mentions_goal}
use Rattle.heads.specs.Heads.{clause_word}
use Rattle.heads.proofs.HeadLaws.{goal-says, goal-is, clause-says, heads, first_part, second-found, first_found, part-stands}
use Rattle.held.specs.Held.{Holding}
use Rattle.proving.specs.Stock.{Stock, Keeps}
use Rattle.proving.specs.Provable.{provable}
use Rattle.proving.specs.Hand.{deeper, Opened}
use Rattle.proving.specs.Proving.{Ready, Taken, Answers, Proving, ProvingAs, ProvingBy, Passing, passes}
use Rattle.proving.specs.Parts.{PartsAt, PartsOf, ClauseParts, CoreAt, is_plain, quantifiers, core, head_of, variable_word, body_place, with_head}
use Rattle.proving.specs.Frames.{alls, unsets, set_to, Completes}
use Rattle.proving.specs.First.{FirstFrame, Located}
use Rattle.proving.specs.Filling.{Looks, Seen, Dues, BodySeen, Looking, LookingAs, LookingOne, HeadIn, PartsIn, Filling, MayFit, Fits, floor, Unsets, Fillable, Meets, Meeting, LookedNew, SoFar, LookingBody, FillingFrom, FillingEach, LeavesBut, Filled, Fails, FilledWith, FillingWith, Starting, PassingParts, LocatingSome}
use Rattle.proving.specs.Chain.{chain, inside, headless, ChainAt, ChainOf}
use Rattle.proving.specs.declared.plain.Parts.{Parts}
use Rattle.proving.proofs.StockLaws.{keeps_same, keeps_then, keeps-less}
use Rattle.proving.proofs.ReadyLaws.{may-be, allowed-below, ready-kept, ready-part}
use Rattle.proving.proofs.ProvingLaws.{bytes_at, both_of}
use Rattle.proving.proofs.HandLaws.{Opens, opened-head}
use Rattle.proving.proofs.PassingLaws.{clause-there, by-opened}
use Rattle.proving.proofs.PlainLaws.{word_in, frame-set, others-stay, head_in, parts-over, frame_is, frame-many, frame-ends, filling-over, filling-kept, word-free, filling-set, filling-body, start-keeps, start-filling}
use Rattle.proving.proofs.CompletesLaws.{unset-is, open-beyond, open-below, open-less, set-open, open-there, open-set, may-set, becomes-less}
use Rattle.proving.proofs.LookedLaws.{looked-one, looks-low, looks-first, looks-second, looks-now}
use Rattle.proving.proofs.FirstLaws.{unsets-length, forcing-start, located}
use Rattle.proving.proofs.FillingLaws.{plain-is, alls-fillable, head-differs, body-lacks, set-goes, filled, filled-fillable, looked-all, looked-start}
use Rattle.proving.proofs.FillingLaws as filling
use Rattle.proving.proofs.SettleLaws.{has-head}
use Rattle.proving.proofs.ChainLaws.{inside-shallow, inside-ok, no-head, chain-is, chain-low}

-- one of these numbers is no number outside
one-differs : (ks : List ℕ) (x n : ℕ) → OneOf ks x → out ks n ≡ true → x ≡ n → ⊥
one-differs [] x n h o e = h
one-differs (k ∷ []) x n h o e = eqb-false k n (not-true (eqb k n) (both_true (not (eqb k n)) true o).0) (sym h ∙ e)
one-differs (k ∷ (j ∷ ks)) x n h o e =
    let (a, b) = both_true (not (eqb k n)) (out (j ∷ ks) n) o in
    ⊎_elim (λ g. eqb-false k n (not-true (eqb k n) a) (sym g ∙ e)) (λ g. one-differs (j ∷ ks) x n g b e) h

-- the arm of a match that takes all other words: the word is none of those with an arm
pub other_word : (k word : Word) (ks : List ℕ) {t : ℕ} → t ≡ rank k → OneOf ks t → out ks (rank word) ≡ true → k ≡ word → ⊥
other_word k word ks {t} e h o q = one-differs ks t (rank word) h o (e ∙ ap rank q)

-- a look's promise at the place that the code made
looking-at : {f : Files} {room after : List ℕ} {u w : Where} {own : ℕ} {also : Bool} {v h : ℕ} {r : Bool} → u ≡ w → Looking f room after u own also v h r → Looking f room after w own also v h r
looking-at {f} {room} {after} {own = own} {also = also} {v = v} {h = h} {r = r} e p = subst (λ (x : Where). Looking f room after x own also v h r) e p

-- what is claimed of a goal that is looked at
abbrev LookClaim : Files → List ℕ → List ℕ → List (Clause Plain) → List Term → Where → ℕ → Bool → ℕ → ℕ → List Plain → Hand Plain → Bindings → Bool → Goal Plain → Type 0
LookClaim f room after ds us w own also v h o c bs r g = Ready f room ds us w h o c bs g → Seen (Stock f ds us w.supposed c) w.supposed w.top room after us o c own bs also v h g r

module _ {f : Files} {room : List ℕ} {w : Where} {own : ℕ} {also : Bool} {v : ℕ} where
  -- by the goal's word
  pub look-and : {after : List ℕ} {r : Bool} {h : ℕ} (k : Word) → WordAt (drop w.goal.at (bytes_at f w.goal)) 1 k → k ≡ W.And → LookingAs W.And f room after w own also v h r → Looking f room after w own also v h r
  look-and k q e p ds us o c bs g rd = p ds us o c bs g (sym (goal-says (bytes_at f w.goal) w.goal.at g k rd.place.framed.stands q) ∙ e) rd

  pub look-other : {after : List ℕ} {r : Bool} {h : ℕ} (k : Word) → WordAt (drop w.goal.at (bytes_at f w.goal)) 1 k → (k ≡ W.And → ⊥) → LookingOne f room after w own also v h r → Looking f room after w own also v h r
  look-other k q n p ds us o c bs g rd = p ds us o c bs g (λ e. n (goal-says (bytes_at f w.goal) w.goal.at g k rd.place.framed.stands q ∙ e)) rd

  -- both parts of an `and`
  pub both-flat : (h : ℕ) → h ≡ 0 → LookingAs W.And f room room w own also v h false
  both-flat h z ds us o c bs g n =
      let (x, y, m) = goal-is g n in
      subst (LookClaim f room room ds us w own also v h o c bs false) (sym m)
      (λ r. record { kept = keeps_same room; says = subst (λ (k : ℕ). Looks us o c own bs also v k (Goal.and x y) false) {x = 0} {y = h} (sym z) (looks-low us o c own bs also v 0 x y) })

  pub both-lost : {mid : List ℕ} {q : Option ℕ} (h : ℕ) → PastAt (drop w.goal.at (bytes_at f w.goal)) 6 64 q → q ≡ None → LookingAs W.And f room mid w own also v h false
  both-lost {mid} h p e ds us o c bs g n =
      let (x, y, m) = goal-is g n in
      subst (LookClaim f room mid ds us w own also v h o c bs false) (sym m)
      (λ r. absurd (first_found (octets "and") heads.0 r.place.framed.stands (omega (arith, r.place.framed.shallow)) p e))

  first-no : {left : ℕ} {mid : List ℕ} {u : Where} {s : Bool} → u ≡ within w 6 → Looking f room mid u own also v left s → s ≡ false → LookingAs W.And f room mid w own also v (suc left) false
  first-no {left} {mid} {u} {s} i p e ds us o c bs g n =
      let (x, y, m) = goal-is g n in
      subst (LookClaim f room mid ds us w own also v (suc left) o c bs false) (sym m)
      (λ r.
      let l = looking-at i (subst (λ (b : Bool). Looking f room mid u own also v left b) e p) ds us o c bs x (ready-part r 6 x (first_part (octets "and") heads.0 r.place.framed.stands) (omega arith) (both_of (goal_ok (length bs) x) (goal_ok (length bs) y) r.place.scoped).0) in
      record { kept = l.kept; says = looks-first us o c own bs also v left x y l.says })

  second-says : {left : ℕ} {mid after : List ℕ} {u u' : Where} {q : Option ℕ} {k : ℕ} {s t : Bool} → u ≡ within w 6 → u' ≡ within w k → PastAt (drop w.goal.at (bytes_at f w.goal)) 6 64 q → q ≡ Some k → Looking f room mid u own also v left s → s ≡ true → length mid ≡ length room → Looking f mid after u' own also v left t → LookingAs W.And f room after w own also v (suc left) t
  second-says {left} {mid} {after} {u} {k = k} {t = t} i j b e p z l p' ds us o c bs g n =
      let (x, y, m) = goal-is g n in
      subst (LookClaim f room after ds us w own also v (suc left) o c bs t) (sym m)
      (λ r.
      let (ok, ok') = both_of (goal_ok (length bs) x) (goal_ok (length bs) y) r.place.scoped in
      let l₁ = looking-at i (subst (λ (s : Bool). Looking f room mid u own also v left s) z p) ds us o c bs x (ready-part r 6 x (first_part (octets "and") heads.0 r.place.framed.stands) (omega arith) ok) in
      let l₂ = looking-at j p' ds us o c bs y (ready-kept l₁.kept l (ready-part r k y (second-found (octets "and") heads.0 r.place.framed.stands b e) (omega arith) ok')) in
      record { kept = keeps_then room mid after (omega arith) (omega arith) l₁.kept l₂.kept; says = looks-second us o c own bs also v left x y t l₁.says l₂.says })

  pub both_first : {mid : List ℕ} {u : Where} {s : Bool} (h : ℕ) → (h ≡ 0 → ⊥) → u ≡ within w 6 → Looking f room mid u own also v (h - 1) s → s ≡ false → LookingAs W.And f room mid w own also v h false
  both_first {mid} h z i p e =
      let n : suc (h - 1) ≡ h = omega arith in
      subst (λ (m : ℕ). LookingAs W.And f room mid w own also v m false) n (first-no {left = h - 1} i p e)

  pub both-second : {mid after : List ℕ} {u u' : Where} {q : Option ℕ} {k : ℕ} {s t : Bool} (h : ℕ) → (h ≡ 0 → ⊥) → u ≡ within w 6 → u' ≡ within w k → PastAt (drop w.goal.at (bytes_at f w.goal)) 6 64 q → q ≡ Some k → Looking f room mid u own also v (h - 1) s → s ≡ true → length mid ≡ length room → Looking f mid after u' own also v (h - 1) t → LookingAs W.And f room after w own also v h t
  both-second {after = after} {t = t} h z i j b e p y l p' =
      let n : suc (h - 1) ≡ h = omega arith in
      subst (λ (m : ℕ). LookingAs W.And f room after w own also v m t) n (second-says {left = h - 1} i j b e p y l p')

  -- a goal that is no `and`
  pub one-waits : {r : Bool} (h : ℕ) → Dues f room w own also v r → r ≡ false → LookingOne f room room w own also v h true
  one-waits h k z ds us o c bs g n rd =
      record {
        kept = keeps_same room;
        says = record { yes = λ q. looked-one us o c own bs also v h g n (λ d. absurd ((k ds us h o c bs g rd).no z d)); no = λ q. absurd (false≢true (sym q)) };
      }

  pub one-asked : {after : List ℕ} {r t : Bool} (h : ℕ) → Dues f room w own also v r → r ≡ true → Proving f room after w h t → LookingOne f room after w own also v h t
  one-asked {t = t} h k z p ds us o c bs g n rd =
      let a = p ds us o c bs g rd in
      record { kept = a.kept; says = looks-now us o c own bs also v h g t n ((k ds us h o c bs g rd).yes z) a.answer }

-- whether a goal is looked at, by the variables that it holds
module _ {f : Files} {room : List ℕ} {w : Where} (own : ℕ) (also : Bool) (v : ℕ) where
  told : {ds : List (Clause Plain)} {us : List Term} {h : ℕ} {o : List Plain} {c : Hand Plain} {bs : Bindings} {g : Goal Plain} {s : List ℕ} {r : Bool} → Ready f room ds us w h o c bs g → s ≡ drop w.goal.at (bytes_at f w.goal) → Holding s 0 0 64 (asked own (bindings_at room w.goal) also v) r → r ≡ mentions_goal (asked own bs also v) g
  told {bs = bs} {g = g} {r = r} rd e h =
      let m = rd.place in
      let many = ap length (sym m.framed.holds) ∙ frame-length room w.goal.base w.goal.count in
      let says = subst (λ (z : List ℕ). Holding z 0 0 64 (asked own (bindings_at room w.goal) also v) r) e h in
      says.goal g (length bs) (part-stands m.framed.stands) (omega (arith, m.framed.shallow)) (omega arith) (omega arith) (omega (arith, m.framed.shallow, many)) m.scoped
      ∙ ap (λ (z : Bindings). mentions_goal (asked own z also v) g) m.framed.holds

module _ {f : Files} {room : List ℕ} {w : Where} (own : ℕ) (also : Bool) (v : ℕ) where
  pub due-waits : {s : List ℕ} {r : Bool} → s ≡ drop w.goal.at (bytes_at f w.goal) → Holding s 0 0 64 (asked own (bindings_at room w.goal) false v) r → r ≡ true → Dues f room w own also v false
  due-waits e k z ds us h o c bs g rd = record { yes = λ q. absurd (false≢true q); no = λ q d. false≢true (sym d.whole ∙ (sym (told own false v rd e k) ∙ z)) }

  pub due-first : {s : List ℕ} {r : Bool} → s ≡ drop w.goal.at (bytes_at f w.goal) → Holding s 0 0 64 (asked own (bindings_at room w.goal) false v) r → r ≡ false → Dues f room w own also v true
  due-first e k z ds us h o c bs g rd = record { yes = λ q. sym (told own false v rd e k) ∙ z; no = λ q. absurd (false≢true (sym q)) }

  pub due-not : {s : List ℕ} (r : Bool) → s ≡ drop w.goal.at (bytes_at f w.goal) → Holding s 0 0 64 (asked own (bindings_at room w.goal) false v) r → Dues f room w own also v (not r)
  due-not true e k = due-waits e k refl
  due-not false e k = due-first e k refl

  pub due-new : {s : List ℕ} {r t : Bool} → s ≡ drop w.goal.at (bytes_at f w.goal) → Holding s 0 0 64 (asked own (bindings_at room w.goal) false v) r → r ≡ false → also ≡ true → Holding s 0 0 64 (asked own (bindings_at room w.goal) true v) t → Dues f room w own also v t
  due-new e k z y k' ds us h o c bs g rd =
      record { yes = λ q. sym (told own false v rd e k) ∙ z; no = λ q d. false≢true (sym q ∙ (told own true v rd e k' ∙ d.new y)) }

module _ {f : Files} {room : List ℕ} {w : Where} {p : Parts} {left : ℕ} where
  -- the body, if there is one
  pub body-none : {also : Bool} {v : ℕ} → p.body ≡ false → LookingBody f room room w p also v left true
  body-none {also} {v} z ds us o c bs a e fr t = record { kept = keeps_same room; yes = λ q. none e t.parts; no = λ q. absurd (false≢true (sym q)) }
    where
      none : (e : Clause Plain) → PartsIn f room p e fr → LookedNew us left o c p.own also v e fr
      none (Clause.atom_d b) h = tt
      none (Clause.imp_d g b) h = absurd (false≢true (sym z ∙ h.0))
      none (Clause.all_d q d) h = absurd h
      none (Clause.and_d d d') h = absurd h

  pub body-looked : {after : List ℕ} {also : Bool} {v : ℕ} {u : Where} {r : Bool} → p.body ≡ true → u ≡ body_place w p → Looking f room after u p.own also v left r → LookingBody f room after w p also v left r
  body-looked {after} {also} {v} {r = r} z i q ds us o c bs a e fr t = go e t
    where
      go : (e : Clause Plain) → Filling f room ds us w p left o c bs a e fr → BodySeen (Stock f ds us w.supposed c) w p left room after us o c bs a also v e fr r
      go (Clause.atom_d b) t = absurd (false≢true (sym t.parts.0 ∙ z))
      go (Clause.imp_d g b) t =
          let l = looking-at i q ds us o c fr g (filling-body t) in
          let h = t.parts.2 in
          record {
            kept = keeps-less room after (omega arith) (omega (arith, h.base, h.count, (frame-ends t).1)) l.kept;
            yes = l.says.yes;
            no = λ n. body-lacks us left o c bs a g b p.own fr (l.says.no n);
          }
      go (Clause.all_d y d) t = absurd t.parts
      go (Clause.and_d d d') t = absurd t.parts

  -- the frame filled: every variable is set, so the head decides, and all of the body was looked at
  pub fill_end : {r : Bool} (k : ℕ) → k ≡ 0 → Fits f room w p r → FillingFrom f room room w p k left r
  fill_end {r} k z s ds us o c bs a e fr t l n looked = (
    record { kept = keeps_same room; whole = λ y i q. refl },
    subst (λ (y : ℕ). Filled us left o c bs a e p.own y fr (bindings_at room p.head) r) {x = 0} {y = k} (sym z)
        (subst (λ (y : Bindings). Filled us left o c bs a e p.own 0 fr y r) (sym (frame_is t))
        (filled us left o c bs a e (head_of e) p.own fr r (has-head f room p e fr t.parts) (λ i. n i (omega (arith, z))) looked.looked (s ds us left o c bs a e fr t looked.head))),
  )

  -- variable k - 1 is unset, or it is set
  pub fill_here : {after : List ℕ} {b r : Bool} (k : ℕ) → (k ≡ 0 → ⊥) → b ≡ is_open p.own (bindings_at room p.head) (k - 1) → b ≡ true → FillingEach f room after w p (k - 1) left r → FillingFrom f room after w p k left r
  fill_here {after} {r = r} k z q y m ds us o c bs a e fr t l n looked =
      let (lv, says) = m ds us o c bs a e fr t (ap (λ (x : Bindings). is_open p.own x (k - 1)) (sym (frame_is t)) ∙ (sym q ∙ y)) (λ i h. n i (omega arith)) looked in
      (lv, subst (λ (j : ℕ). Filled us left o c bs a e p.own j fr (bindings_at after p.head) r) {x = suc (k - 1)} {y = k} (omega arith) says)

  pub fill-set : {after : List ℕ} {b r : Bool} (k : ℕ) → (k ≡ 0 → ⊥) → b ≡ is_open p.own (bindings_at room p.head) (k - 1) → b ≡ false → FillingFrom f room after w p (k - 1) left r → FillingFrom f room after w p k left r
  fill-set {after} {r = r} k z q y m ds us o c bs a e fr t l n looked =
      let set = ap (λ (x : Bindings). is_open p.own x (k - 1)) (sym (frame_is t)) ∙ (sym q ∙ y) in
      let (lv, says) = m ds us o c bs a e fr t (omega arith) (open-less p.own (k - 1) fr (λ i h. n i (omega arith)) set) looked in
      (lv, subst (λ (j : ℕ). Filled us left o c bs a e p.own j fr (bindings_at after p.head) r) {x = suc (k - 1)} {y = k} (omega arith) (set-goes us left o c bs a e p.own fr (k - 1) (bindings_at after p.head) r set says))

-- all words that the clause relies on are as they were, but that of variable v; and what is to be right is right still
pub record But (right : List ℕ → Type 0) (w : Where) (p : Parts) (v : ℕ) (room now : List ℕ) : Type 0 where
  pub words : (i : ℕ) → Live w.supposed (p.head.base + p.head.count) i → (i ≡ variable_word p.head v → ⊥) → get_or now i 0 ≡ get_or room i 0
  pub stock : right room → right now

-- the word of a variable that is unset says so
open_is : (own v : ℕ) (fr : Bindings) → is_open own fr v ≡ true → bound_to fr v ≡ unset
unfolding is_open
open_is own v fr e = unset-is (bound_to fr v) (both_true (ltb v own) (is_unset (bound_to fr v)) e).1

unset-fits : binding_word unset ≤ 4294967295
unset-fits = omega arith

module _ {f : Files} {room : List ℕ} {ds : List (Clause Plain)} {us : List Term} {w : Where} {p : Parts} {left : ℕ} {o : List Plain} {c : Hand Plain} {bs : Bindings} {a : Atom} {e : Clause Plain} {fr : Bindings} (t : Filling f room ds us w p left o c bs a e fr) where
  frame-above : stack ≤ p.head.base
  frame-above = (head_in f room p e fr t.parts).above

  module _ {v : ℕ} (l : v < p.own) where
    word-is : variable_word p.head v ≡ p.head.base + (p.head.count - 1 - v)
    word-is = word_in p.head v (omega (arith, t.own)) (omega (arith, (frame-ends t).1))

    -- the variable's word is above what the clause found there
    but-keeps : {now : List ℕ} → But (Stock f ds us w.supposed c) w p v room now → Keeps (Stock f ds us w.supposed c) w.supposed (floor p) room now
    but-keeps {now} k = record { words = go; stock = k.stock }
      where
        go : Kept w.supposed (floor p) room now
        go i (Live.low h) = k.words i (Live.low h) (λ q. omega (arith, word-is, frame-above, t.ready.enough.supposed, t.own))
        go i (Live.high h h') = k.words i (Live.high h (omega (arith, t.own))) (λ q. omega (arith, word-is, t.own))

    module _ {now : List ℕ} (k : But (Stock f ds us w.supposed c) w p v room now) (n : length now ≡ length room) where
      filling-but : Filling f now ds us w p left o c bs a e (bindings_at now p.head)
      filling-but =
          filling-over t
          (ready-kept (keeps-less room now (omega arith) (omega (arith, t.fresh)) (but-keeps k)) n t.ready)
          (parts-over f room now p e fr (bindings_at now p.head) refl (frame-length now p.head.base p.head.count ∙ sym (frame-many t)) t.parts)

      -- with the same binding for it the frame is the same
      but-set : (d : Binding) → binding_word d ≤ 4294967295 → set_to v d (bindings_at now p.head) ≡ set_to v d fr
      but-set d small =
          sym (frame-set now p.head v d (omega (arith, t.own)) (omega (arith, (frame-ends t).1, t.ready.long, n)) (omega (arith, (frame-ends t).1)) small)
          ∙ (frames-alike (set now (variable_word p.head v) (held (binding_word d))) (set room (variable_word p.head v) (held (binding_word d))) p.head.base p.head.base p.head.count (λ j h. same j h (eqb (p.head.base + j) (variable_word p.head v)) refl)
          ∙ (frame-set room p.head v d (omega (arith, t.own)) (omega (arith, (frame-ends t).1, t.ready.long)) (omega (arith, (frame-ends t).1)) small ∙ ap (set_to v d) (frame_is t)))
        where
          same : (j : ℕ) → j < p.head.count → (b : Bool) → eqb (p.head.base + j) (variable_word p.head v) ≡ b → get_or (set now (variable_word p.head v) (held (binding_word d))) (p.head.base + j) 0 ≡ get_or (set room (variable_word p.head v) (held (binding_word d))) (p.head.base + j) 0
          same j h true q =
              let e = eqb-true (p.head.base + j) (variable_word p.head v) q in
              ap (λ (i : ℕ). get_or (set now (variable_word p.head v) (held (binding_word d))) i 0) e
              ∙ (get_or-set_same now (variable_word p.head v) (held (binding_word d)) 0 (omega (arith, word-is, t.own, (frame-ends t).1, t.ready.long, n))
              ∙ (sym (get_or-set_same room (variable_word p.head v) (held (binding_word d)) 0 (omega (arith, word-is, t.own, (frame-ends t).1, t.ready.long)))
              ∙ sym (ap (λ (i : ℕ). get_or (set room (variable_word p.head v) (held (binding_word d))) i 0) e)))
          same j h false q =
              let e = eqb-false (p.head.base + j) (variable_word p.head v) q in
              get_or-set_other now (variable_word p.head v) (p.head.base + j) (held (binding_word d)) 0 e
              ∙ (k.words (p.head.base + j) (Live.high (omega (arith, frame-above)) (omega arith)) e ∙ sym (get_or-set_other room (variable_word p.head v) (p.head.base + j) (held (binding_word d)) 0 e))

      -- and every other variable is open or not as before
      but-open : (j : ℕ) → v < j → is_open p.own (bindings_at now p.head) j ≡ is_open p.own fr j
      but-open j h =
          sym (open-there p.own v j unset (bindings_at now p.head) (λ q. omega arith))
          ∙ (ap (λ (x : Bindings). is_open p.own x j) (but-set unset unset-fits) ∙ open-there p.own v j unset fr (λ q. omega arith))

      -- what is said of candidate i there is said of the frame
      but-says : {i : ℕ} {end : Bindings} {r : Bool} → binding_word (Candidate i) ≤ 4294967295 → FilledWith us left o c bs a e p.own v i (bindings_at now p.head) end r → FilledWith us left o c bs a e p.own v i fr end r
      but-says {i} {end} small h =
          record {
            yes = λ q. let (ok, m, y) = h.yes q in (ok, subst (λ (x : Bindings). FirstFrame us o p.own (passes us left o c bs a e) v x end) (but-set (Candidate i) small) m, y);
            no = λ q ok ds' m. h.no q ok ds' (subst (λ (x : Bindings). Completes us o p.own x ds') (sym (but-set (Candidate i) small)) m);
          }

    -- with candidate i written for it
    written : {i x : ℕ} {mid : List ℕ} → i < length us → x ≡ variable_word p.head v → mid ≡ set room x (held (binding_word (Candidate i))) → Filling f mid ds us w p left o c bs a e (set_to v (Candidate i) fr) × But (Stock f ds us w.supposed c) w p v room mid
    written {i} {x} {mid} b q m =
        let n : mid ≡ set room (variable_word p.head v) (held (binding_word (Candidate i))) = m ∙ ap (λ (y : ℕ). set room y (held (binding_word (Candidate i)))) q in (
          subst (λ (y : List ℕ). Filling f y ds us w p left o c bs a e (set_to v (Candidate i) fr)) (sym n) (filling-set t v (Candidate i) l (omega (arith, t.ready.place.booked.candidates.few))),
          record {
            words = λ j h z. ap (λ (y : List ℕ). get_or y j 0) n ∙ others-stay room p.head v (Candidate i) j z;
            stock = λ s. subst (Stock f ds us w.supposed c) (sym n) (word-free t v (Candidate i) l s);
          },
        )

-- what is so of all numbers below one, and of that one
pub one_more : (P : ℕ → Type 0) (i : ℕ) → ((j : ℕ) → j < i → P j) → P i → (j : ℕ) → j < i + 1 → P j
one_more P i before here j h = go (eqb j i) refl
  where
    go : (b : Bool) → eqb j i ≡ b → P j
    go true d = subst P (sym (eqb-true j i d)) here
    go false d = let x = eqb-false j i d in before j (omega arith)

-- where the loop over candidates for variable v is: only the variable's word has changed, and those before i do not do
abbrev pub EachLeft : Files → List ℕ → Where → Parts → ℕ → ℕ → List ℕ → ℕ → Type 0
EachLeft f room w p v left now i =
    (ds : List (Clause Plain)) (us : List Term) (o : List Plain) (c : Hand Plain) (bs : Bindings) (a : Atom) (e : Clause Plain) (fr : Bindings) →
    Filling f room ds us w p left o c bs a e fr → is_open p.own fr v ≡ true → ((j : ℕ) → v < j → is_open p.own fr j ≡ false) → SoFar us left o c bs a p e fr →
    But (Stock f ds us w.supposed c) w p v room now × ((j : ℕ) → j < i → Fails us left o c bs a e p.own v j fr)

module _ {f : Files} {room : List ℕ} {w : Where} {p : Parts} {left : ℕ} (v : ℕ) where
  pub each_start : EachLeft f room w p v left room 0
  each_start ds us o c bs a e fr t y n looked = (record { words = λ i l h. refl; stock = λ s. s }, λ j l. absurd (omega arith))

  -- what the call for candidate i says of the frame
  each-says : {now after : List ℕ} {s : Bool} {ds : List (Clause Plain)} {us : List Term} {o : List Plain} {c : Hand Plain} {bs : Bindings} {a : Atom} {e : Clause Plain} {fr : Bindings} (i n : ℕ) → i < n → n ≡ get_or room candidates_word 0 → But (Stock f ds us w.supposed c) w p v room now → length now ≡ length room → FillingWith f now after w p v i left s
      → Filling f room ds us w p left o c bs a e fr → is_open p.own fr v ≡ true → ((j : ℕ) → v < j → is_open p.own fr j ≡ false) → SoFar us left o c bs a p e fr
      → LeavesBut (Stock f ds us w.supposed c) w p v now after s × FilledWith us left o c bs a e p.own v i fr (bindings_at after p.head) s
  each-says {now} {ds = ds} {us = us} {o = o} {c = c} {bs = bs} {a = a} {e = e} {fr = fr} i n l q but len call t y above looked =
      let own = (open-below p.own fr v y).0 in
      let b : i < length us = omega (arith, t.ready.place.booked.candidates.counted) in
      let (lv, says) = call ds us o c bs a e (bindings_at now p.head) (filling-but t own but len) own (λ j h. but-open t own but len j h ∙ above j h) (subst (λ (x : Bindings). SoFar us left o c bs a p e x) (sym (but-set t own but len unset unset-fits ∙ set-open p.own fr v y)) looked) in
      (lv, but-says t own but len (omega (arith, t.ready.place.booked.candidates.few)) says)

  pub each-miss : {now after : List ℕ} {s : Bool} (i n : ℕ) → i < n → n ≡ get_or room candidates_word 0 → EachLeft f room w p v left now i → length now ≡ length room → FillingWith f now after w p v i left s → s ≡ false → EachLeft f room w p v left after (i + 1)
  each-miss {s = s} i n l q inv len call z ds us o c bs a e fr t y above looked =
      let (but, before) = inv ds us o c bs a e fr t y above looked in
      let (lv, says) = each-says i n l q but len call t y above looked in
      (record { words = λ j h x. lv.whole z j h x ∙ but.words j h x; stock = λ s. lv.kept.stock (but.stock s) }, one_more (λ j. Fails us left o c bs a e p.own v j fr) i before (says.no z))

  pub each-hit : {now after : List ℕ} {s : Bool} (i n : ℕ) → i < n → n ≡ get_or room candidates_word 0 → EachLeft f room w p v left now i → length now ≡ length room → FillingWith f now after w p v i left s → s ≡ true → FillingEach f room after w p v left true
  each-hit {now} {after} i n l q inv len call z ds us o c bs a e fr t y above looked =
      let (but, before) = inv ds us o c bs a e fr t y above looked in
      let (lv, says) = each-says i n l q but len call t y above looked in (
        record {
          kept = keeps_then room now after (omega arith) (omega arith) (but-keeps t (open-below p.own fr v y).0 but) lv.kept;
          whole = λ k. absurd (false≢true (sym k));
        },
        filling.each-hit us left o c bs a e p.own fr v i (bindings_at after p.head) y before (subst (λ (b : Bool). FilledWith us left o c bs a e p.own v i fr (bindings_at after p.head) b) z says),
      )

  -- no candidate does, and the variable is unset again
  unset-again : {ds : List (Clause Plain)} {us : List Term} {o : List Plain} {c : Hand Plain} {bs : Bindings} {a : Atom} {e : Clause Plain} {fr : Bindings} → Filling f room ds us w p left o c bs a e fr → is_open p.own fr v ≡ true → held (binding_word unset) ≡ get_or room (variable_word p.head v) 0
  unset-again {fr = fr} t y =
      let own = (open-below p.own fr v y).0 in
      let here = ap (λ (i : ℕ). get_or room i 0) (word-is t own) in
      let says = sym (bound-in room p.head.base p.head.count v (omega (arith, t.own))) ∙ (ap (λ (x : Bindings). bound_to x v) (frame_is t) ∙ open_is p.own v fr y) in
      let word = sym (binding-word (get_or room (p.head.base + (p.head.count - 1 - v)) 0)) ∙ ap binding_word says in
      omega (arith, here, word)

  pub each-done : {now after : List ℕ} {x : ℕ} (i n : ℕ) → n ≤ i → n ≡ get_or room candidates_word 0 → EachLeft f room w p v left now i → length now ≡ length room → x ≡ variable_word p.head v → after ≡ set now x (held (binding_word unset)) → FillingEach f room after w p v left false
  each-done {now} {after} {x} i n l q inv len xe ae ds us o c bs a e fr t y above looked =
      let own = (open-below p.own fr v y).0 in
      let (but, before) = inv ds us o c bs a e fr t y above looked in
      let k : But (Stock f ds us w.supposed c) w p v room after = record {
        words = λ j h z. ap (λ (s : List ℕ). get_or s j 0) same ∙ (others-stay now p.head v unset j z ∙ but.words j h z);
        stock = λ s. subst (Stock f ds us w.supposed c) (sym same) (word-free t v unset own (but.stock s));
      } in (
        record { kept = but-keeps t own k; whole = λ z j h. go k j h (eqb j (variable_word p.head v)) refl },
        filling.each-done us left o c bs a e p.own fr v (bindings_at after p.head) y (λ j h. before j (omega (arith, h, t.ready.place.booked.candidates.counted))),
      )
    where
      same : after ≡ set now (variable_word p.head v) (held (binding_word unset))
      same = ae ∙ ap (λ (j : ℕ). set now j (held (binding_word unset))) xe

      go : But (Stock f ds us w.supposed c) w p v room after → (j : ℕ) → Live w.supposed (p.head.base + p.head.count) j → (b : Bool) → eqb j (variable_word p.head v) ≡ b → get_or after j 0 ≡ get_or room j 0
      go k j h true d =
          let here = eqb-true j (variable_word p.head v) d in
          let own = (open-below p.own fr v y).0 in
          ap₂ (λ (s : List ℕ) (m : ℕ). get_or s m 0) same here
          ∙ (get_or-set_same now (variable_word p.head v) (held (binding_word unset)) 0 (omega (arith, word-is t own, t.own, (frame-ends t).1, t.ready.long, len))
          ∙ (unset-again t y ∙ ap (λ (m : ℕ). get_or room m 0) (sym here)))
      go k j h false d = k.words j h (eqb-false j (variable_word p.head v) d)

-- variable v with candidate i
module _ {f : Files} {room : List ℕ} {w : Where} {p : Parts} {left : ℕ} (v i : ℕ) where
  pub with-barred : (u : Bool) → u ≡ (ltb i (get_or room candidates_word 0) && leb (get_or room (highest_word i) 0) w.parameters) → u ≡ false → FillingWith f room room w p v i left false
  with-barred u q n ds us o c bs a e fr t l above looked =
      let m = t.ready.place in (
        record { kept = keeps_same room; whole = λ y j h x. refl },
        filling.with-barred us left o c bs a e p.own fr v i (bindings_at room p.head) (sym (may-be room f.terms us o tt i w.parameters m.booked.candidates m.openly) ∙ (sym q ∙ n)),
      )

  -- it may be used
  used : {ds : List (Clause Plain)} {us : List Term} {o : List Plain} {c : Hand Plain} {bs : Bindings} {a : Atom} {e : Clause Plain} {fr : Bindings} (u : Bool) → u ≡ (ltb i (get_or room candidates_word 0) && leb (get_or room (highest_word i) 0) w.parameters) → u ≡ true → Filling f room ds us w p left o c bs a e fr → allowed (listed us) o tt i ≡ true
  used {us = us} {o = o} u q y t = let m = t.ready.place in sym (may-be room f.terms us o tt i w.parameters m.booked.candidates m.openly) ∙ (sym q ∙ y)

  pub with-head : {mid : List ℕ} {x : ℕ} {b : Bool} (u : Bool) → u ≡ (ltb i (get_or room candidates_word 0) && leb (get_or room (highest_word i) 0) w.parameters) → u ≡ true → x ≡ variable_word p.head v → mid ≡ set room x (held (binding_word (Candidate i))) → MayFit f mid w p b → b ≡ false → FillingWith f room mid w p v i left false
  with-head {mid} u q y xe me m z ds us o c bs a e fr t l above looked =
      let ok = used u q y t in
      let (t', but) = written t l (allowed-below us o tt i ok) xe me in (
        record { kept = but-keeps t l but; whole = λ k. but.words },
        filling.with-fails us left o c bs a e p.own fr v i (bindings_at mid p.head) (λ k. (m ds us left o c bs a e (set_to v (Candidate i) fr) t' z).no refl),
      )

  pub with-body : {mid after : List ℕ} {x : ℕ} {s : Bool} (u : Bool) → u ≡ (ltb i (get_or room candidates_word 0) && leb (get_or room (highest_word i) 0) w.parameters) → u ≡ true → x ≡ variable_word p.head v → mid ≡ set room x (held (binding_word (Candidate i))) → LookingBody f mid after w p true v left s → s ≡ false → FillingWith f room after w p v i left false
  with-body {mid} {after} u q y xe me m z ds us o c bs a e fr t l above looked =
      let ok = used u q y t in
      let (t', but) = written t l (allowed-below us o tt i ok) xe me in
      let b = m ds us o c bs a e (set_to v (Candidate i) fr) t' in (
        record { kept = keeps_then room mid after (omega arith) (omega arith) (but-keeps t l but) b.kept; whole = λ n j h x. b.kept.words j h ∙ but.words j h x },
        filling.with-fails us left o c bs a e p.own fr v i (bindings_at after p.head) (λ k. (b.no z).no refl),
      )

  pub with-goes : {mid late after : List ℕ} {x : ℕ} {s r : Bool} (u : Bool) → u ≡ (ltb i (get_or room candidates_word 0) && leb (get_or room (highest_word i) 0) w.parameters) → u ≡ true → x ≡ variable_word p.head v → mid ≡ set room x (held (binding_word (Candidate i))) → LookingBody f mid late w p true v left s → s ≡ true → length late ≡ length mid → FillingFrom f late after w p v left r → FillingWith f room after w p v i left r
  with-goes {mid} {late} {after} {r = r} u q y xe me m z len call ds us o c bs a e fr t l above looked =
      let ok = used u q y t in
      let below = allowed-below us o tt i ok in
      let few : length us ≤ 2147483647 = omega (arith, t.ready.place.booked.candidates.few) in
      let (t', but) = written t l below xe me in
      let b = m ds us o c bs a e (set_to v (Candidate i) fr) t' in
      let long : v < length fr = omega (arith, l, t.own, frame-many t) in
      let known : SoFar us left o c bs a p e (set_to v (Candidate i) fr) = record {
        looked = looked-all us left o c bs a e p.own v unset (Candidate i) fr looked.looked (b.yes z);
        head = λ h es k. looked.head h es (becomes-less us p.own v (Candidate i) fr es l long k);
      } in
      let (lv, says) = call ds us o c bs a e (set_to v (Candidate i) fr) (filling-kept t' b.kept len) (omega arith) (open-set p.own v (Candidate i) fr long (may-set us o i ok few) above) known in (
        record {
          kept = keeps_then room late after (omega arith) (omega arith) (keeps_then room mid late (omega arith) (omega arith) (but-keeps t l but) b.kept) lv.kept;
          whole = λ n j h x. lv.whole n j h ∙ (b.kept.words j h ∙ but.words j h x);
        },
        filling.with-goes us left o c bs a e p.own fr v i (bindings_at after p.head) r ok says,
      )

-- the whole clause, its own variables unset at first
module _ {f : Files} {room : List ℕ} {w : Where} {p : Parts} {left : ℕ} where
  -- a no, by what is said of the frame with nothing set
  plain-no : {after : List ℕ} {ds : List (Clause Plain)} {us : List Term} {o : List Plain} {c : Hand Plain} {bs : Bindings} {a : Atom} {e : Clause Plain} {bs' : Bindings} → Starting f room ds us w p left o c bs a e bs' → Keeps (Stock f ds us w.supposed c) w.supposed (floor p) room after → Fillable us left o c bs a e p.own (unsets p.own bs') false
      → Answers (Stock f ds us w.supposed c) w.supposed (floor p) room after (passes us left o c bs a (alls p.own e) bs') false × (false ≡ true → Located us left o c bs a p.own e bs' after (floor p))
  plain-no {us = us} {o = o} {c = c} {bs = bs} {a = a} {e = e} {bs' = bs'} t k n =
      (record { kept = k; answer = alls-fillable us left o c bs a p.own e bs' false n }, λ z. absurd (false≢true z))

  -- what the head and the atom leave
  met : {mid after : List ℕ} (s : Option Parts) {ds : List (Clause Plain)} {us : List Term} {o : List Plain} {c : Hand Plain} {bs : Bindings} {a : Atom} {e : Clause Plain} {bs' : Bindings} → Starting f room ds us w p left o c bs a e bs' → Unsets room mid p.head p.own → Meeting f mid after w p s
      → Keeps (Stock f ds us w.supposed c) w.supposed (floor p) room after × Meets f after ds us w p left o c bs a e (unsets p.own bs') s
  met {mid} {after} s {ds} {us} {o} {c} {bs} {a} {e} {bs'} t u m =
      let (k, n) = m ds us left o c bs a e (unsets p.own bs') (start-filling t u) (λ y es q. t.same y es) in
      (keeps_then room mid after (omega arith) (omega arith) (start-keeps t u) k, n)

  pub plain-settled : {mid after : List ℕ} {s : Option Parts} → Unsets room mid p.head p.own → Meeting f mid after w p s → s ≡ None → PassingParts f room after w p left false
  plain-settled {after = after} {s = s} u m n ds us o c bs a e bs' t =
      let (k, st) = met s t u m in
      plain-no t k (subst (Meets f after ds us w p left o c bs a e (unsets p.own bs')) n st)

  pub plain_body : {mid late after : List ℕ} {s : Option Parts} {q : Parts} {b : Bool} → Unsets room mid p.head p.own → Meeting f mid late w p s → s ≡ Some q → LookingBody f late after w q false 0 left b → b ≡ false → PassingParts f room after w p left false
  plain_body {late = late} {after = after} {s = s} {b = b} u m y looks z ds us o c bs a e bs' t =
      let (k, st) = met s t u m in
      let (headed, is, n) = subst (Meets f late ds us w p left o c bs a e (unsets p.own bs')) y st in
      let seen = subst (λ (x : Parts). LookingBody f late after w x false 0 left b) is looks ds us o c bs a e n.frame n.filling in
      plain-no t (keeps_then room late after (omega arith) (omega arith) k seen.kept) (n.back false (seen.no z))

  pub plain-goes : {mid late last after : List ℕ} {s : Option Parts} {q : Parts} {b r : Bool} → Unsets room mid p.head p.own → Meeting f mid late w p s → s ≡ Some q → LookingBody f late last w q false 0 left b → b ≡ true → length last ≡ length late → FillingFrom f last after w q p.own left r → PassingParts f room after w p left r
  plain-goes {late = late} {last = last} {after = after} {s = s} {b = b} {r = r} u m y looks z len call ds us o c bs a e bs' t =
      let (k, st) = met s t u m in
      let (headed, is, n) = subst (Meets f late ds us w p left o c bs a e (unsets p.own bs')) y st in
      let fr = n.frame in
      let seen = subst (λ (x : Parts). LookingBody f late last w x false 0 left b) is looks ds us o c bs a e fr n.filling in
      let known : SoFar us left o c bs a (with_head p headed) e fr = record { looked = looked-start us left o c bs a e p.own fr (seen.yes z); head = n.is } in
      let (lv, says) = subst (λ (x : Parts). FillingFrom f last after w x p.own left r) is call ds us o c bs a e fr (filling-kept n.filling seen.kept len) (omega arith) (open-beyond p.own fr) known in
      let few : length us ≤ 2147483647 = omega (arith, t.ready.place.booked.candidates.few) in (
        record {
          kept = keeps_then room last after (omega arith) (omega arith) (keeps_then room late last (omega arith) (omega arith) k seen.kept) lv.kept;
          answer = alls-fillable us left o c bs a p.own e bs' r (n.back r (filled-fillable us left o c bs a e p.own fr (bindings_at after p.head) r few (omega (arith, n.filling.own, frame-many n.filling)) says));
        },
        λ h. located after p.head.base p.head.count t.own (n.forcing bs' (forcing-start us o p.own (passes us left o c bs a e) bs')) (says.yes h).0 (says.yes h).1,
      )

-- what is inside the quantifiers of a clause
core-shallow : (d : Clause Plain) → quantifiers d + nesting (clause_sexp (core d)) ≤ nesting (clause_sexp d)
core-shallow (Clause.atom_d b) = omega arith
core-shallow (Clause.imp_d g b) = omega arith
core-shallow (Clause.all_d q d) = omega (arith, core-shallow d)
core-shallow (Clause.and_d c d) = omega arith

core-ok : (n : ℕ) (d : Clause Plain) → clause_ok n d ≡ true → clause_ok (quantifiers d + n) (core d) ≡ true
core-ok n (Clause.atom_d b) e = subst (λ (m : ℕ). clause_ok m (Clause.atom_d b) ≡ true) {x = n} {y = 0 + n} (omega arith) e
core-ok n (Clause.imp_d g b) e = subst (λ (m : ℕ). clause_ok m (Clause.imp_d g b) ≡ true) {x = n} {y = 0 + n} (omega arith) e
core-ok n (Clause.all_d q d) e = subst (λ (m : ℕ). clause_ok m (core d) ≡ true) {x = quantifiers d + suc n} {y = suc (quantifiers d) + n} (omega arith) (core-ok (suc n) d e)
core-ok n (Clause.and_d c d) e = subst (λ (m : ℕ). clause_ok m (Clause.and_d c d) ≡ true) {x = n} {y = 0 + n} (omega arith) e

module _ {f : Files} {room : List ℕ} {w : Where} {x : Spot} {p : Parts} {left : ℕ} where
  -- the parts found are where the clause starts
  pub starting : {ds : List (Clause Plain)} {us : List Term} {o : List Plain} {c : Hand Plain} {bs : Bindings} {a : Atom} {d : Clause Plain} {bs' : Bindings} → Taken f room ds us w x left o c bs a d bs' → PartsAt f x 0 d p → Starting f room ds us w p left o c bs a (core d) bs'
  starting {a = a} {d = d} {bs' = bs'} t q =
      record {
        asked = Goal.atom a;
        ready = t.ready;
        atom = λ y. refl;
        same = λ n. absurd (false≢true (sym n ∙ q.headed));
        holds = ap₂ (λ (b : ℕ) (n : ℕ). bindings_in room b n) q.base.0 (omega (arith, q.count.0, q.own)) ∙ t.framed.holds;
        own = omega (arith, q.count.0, q.own);
        above = omega (arith, q.base.0, t.framed.above);
        parts = λ after k. go after k (core d) q.stands (omega (arith, q.count.0, t.framed.shallow, core-shallow d)) scoped;
        fresh = omega (arith, q.base.0, t.fresh);
        reach = omega (arith, q.base.0, t.fresh, few);
      }
    where
      few : p.head.count ≤ levels
      few = omega (arith, q.count.0, t.framed.shallow, core-shallow d)

      head : (after : List ℕ) → bindings_at after p.head ≡ unsets p.own bs' → (b : Atom) → Stands (bytes_at f p.head) p.head.at (atom_sexp b) → p.head.count + nesting (atom_sexp b) ≤ levels → atom_ok (length (unsets p.own bs')) b ≡ true → HeadIn f after p b (unsets p.own bs')
      head after k b h l ok =
          let above : stack ≤ p.head.base = omega (arith, q.base.0, t.framed.above) in
          record { above = above; holds = k; shallow = few; framed = λ y. record { stands = h; above = above; below = omega arith; holds = k; shallow = l }; scoped = λ y. ok }

      scoped : clause_ok (length (unsets p.own bs')) (core d) ≡ true
      scoped = subst (λ (n : ℕ). clause_ok n (core d) ≡ true) {x = quantifiers d + length bs'} {y = length (unsets p.own bs')} (omega (arith, unsets-length p.own bs', q.own)) (core-ok (length bs') d t.scoped)

      go : (after : List ℕ) → bindings_at after p.head ≡ unsets p.own bs' → (e : Clause Plain) → CoreAt f p e → p.head.count + nesting (clause_sexp e) ≤ levels → clause_ok (length (unsets p.own bs')) e ≡ true → PartsIn f after p e (unsets p.own bs')
      go after k (Clause.atom_d b) h l ok =
          (h.0, head after k b h.1 l ok)
      go after k (Clause.imp_d g b) h l ok =
          let (okg, okb) = both_of (goal_ok (length (unsets p.own bs')) g) (atom_ok (length (unsets p.own bs')) b) ok in
          let base = q.base.1 ∙ sym q.base.0 in
          let count = q.count.1 ∙ sym q.count.0 in (
            h.0,
            head after k b h.1 (omega (arith, l)) okb,
            record {
              framed =
                  record {
                    stands = h.2;
                    above = omega (arith, q.base.1, t.framed.above);
                    below = omega (arith, base, count);
                    holds = ap₂ (λ (y : ℕ) (n : ℕ). bindings_in after y n) base count ∙ k;
                    shallow = omega (arith, l, count);
                  };
              scoped = okg;
              base = base;
              count = count;
            },
          )
      go after k (Clause.all_d y d) h l ok = absurd h
      go after k (Clause.and_d d d') h l ok = absurd h

  -- what is said of the parts is said of the clause
  pub parts-answer : {after : List ℕ} {r : Bool} {ds : List (Clause Plain)} {us : List Term} {o : List Plain} {c : Hand Plain} {bs : Bindings} {a : Atom} {d : Clause Plain} {bs' : Bindings} → Taken f room ds us w x left o c bs a d bs' → PartsAt f x 0 d p → is_plain d ≡ true → PassingParts f room after w p left r → Answers (Stock f ds us w.supposed c) w.supposed (x.base + x.count) room after (passes us left o c bs a d bs') r
  parts-answer {after} {ds = ds} {us = us} {o = o} {c = c} {bs = bs} {a = a} {d = d} {bs' = bs'} t at plain m =
      let z = m ds us o c bs a (core d) bs' (starting t at) in
      let same : p.own ≡ quantifiers d = omega (arith, at.own) in
      record {
        kept = keeps-less room after (omega arith) (omega (arith, at.base.0, at.count.0, at.own)) z.0.kept;
        answer = z.0.answer ∙ ap (λ (e : Clause Plain). passes us left o c bs a e bs') (ap (λ (n : ℕ). alls n (core d)) same ∙ plain-is d plain);
      }

  pub plain-found : {after : List ℕ} {q : Option Parts} {r : Bool} (nest : ℕ) → PartsOf f x 0 64 q → q ≡ Some p → PassingParts f room after w p left r → Passing f room after w x nest left r
  plain-found nest q y m ds us o c bs a d bs' l t =
      let shallow : nesting (clause_sexp d) ≤ 64 = omega (arith, t.framed.shallow) in
      let few : x.count + 64 ≤ most_bytes = omega (arith, t.framed.shallow) in
      parts-answer t (q.parts d shallow (clause-there t) few (omega arith) p y) (sym (q.told d shallow (clause-there t) few (omega arith)) ∙ ap (λ (z : Option Parts). is_some z) y) m

-- every clause with another word is plain
module _ {f : Files} {room : List ℕ} {w : Where} {x : Spot} {left : ℕ} where
  pub no-path : {q : Option Parts} (nest : ℕ) (k : Word) → WordAt (drop x.at (bytes_at f x)) 1 k → (k ≡ W.And → ⊥) → (k ≡ W.All → ⊥) → PartsOf f x 0 64 q → q ≡ None → Passing f room room w x nest left false
  unfolding clause_word
  no-path nest k h and all q y ds us o c bs a d bs' l t =
      let plain = sym (q.told d (omega (arith, t.framed.shallow)) (clause-there t) (omega (arith, t.framed.shallow)) (omega arith)) ∙ ap (λ (z : Option Parts). is_some z) y in
      absurd (go d plain (clause-says (bytes_at f x) x.at d k t.framed.stands h))
    where
      go : (d : Clause Plain) → is_plain d ≡ false → k ≡ clause_word d → ⊥
      go (Clause.atom_d b) e s = false≢true (sym e)
      go (Clause.imp_d g b) e s = false≢true (sym e)
      go (Clause.all_d z d) e s = all s
      go (Clause.and_d d d') e s = and s

-- clause k for an atom, by its parts, where the room is right on the heads of rules
pub opened-parts : {f : Files} {room mid : List ℕ} {ds : List (Clause Plain)} {us : List Term} {w : Where} {y : Spot} {left : ℕ} {o : List Plain} {c : Hand Plain} {bs : Bindings} {a : Atom} {k : ℕ} {q : Option Parts} {p : Parts} (z : Opens f room mid ds us w y left o c bs a k) → ClauseParts f mid k y q → q ≡ Some p → PartsAt f y 0 z.clause.clause p × (is_plain z.clause.clause ≡ true)
opened-parts {y = y} {p = p} z q e =
    let few : y.count ≤ levels = omega (arith, z.taken.framed.shallow) in
    (q.parts z.clause.clause (clause-there z.taken) few (opened-head z) p e, sym (q.told z.clause.clause (clause-there z.taken) few) ∙ ap (λ (u : Option Parts). is_some u) e)

pub by_parts : {f : Files} {room mid after : List ℕ} {w : Where} {left : ℕ} {q : Option Spot} {y : Spot} {s : Option Parts} {p : Parts} {r : Bool} (k : ℕ) → Opened room mid k w.supposed w.top q → q ≡ Some y → ClauseParts f mid k y s → s ≡ Some p → PassingParts f mid after w p left r → ProvingBy f room after w k left r
by_parts k o e q y m = by-opened k o e λ ds us o c bs a z.
    let (at, plain) = opened-parts z q y in
    parts-answer z.taken at plain m

-- a goal that is a chain of `some`, what stands inside as the body of a clause with no head to compare
module _ {f : Files} {room : List ℕ} {w : Where} {p : Parts} where
  -- the chain found is where such a clause starts
  chain-starting : {ds : List (Clause Plain)} {us : List Term} {o : List Plain} {c : Hand Plain} {bs : Bindings} {q : Plain} {g : Goal Plain} (left : ℕ) → Ready f room ds us w (suc left) o c bs (Goal.some q g) → ChainAt f (deeper w.goal 7) 1 g p → Starting f room ds us w p (left - chain g) o c bs headless (Clause.imp_d (inside g) headless) bs
  chain-starting {ds} {us} {o} {c} {bs} {q} {g} left r t =
      record {
        asked = Goal.some q g;
        ready =
            record {
              place = r.place;
              enough =
                  record {
                    bindings = omega (arith, r.enough.bindings);
                    supposed = omega (arith, r.enough.supposed);
                    opened = omega (arith, r.enough.opened);
                  };
              long = r.long;
              low = omega (arith, r.low);
              stock = r.stock;
            };
        atom = λ y. absurd (false≢true (sym t.headed ∙ y));
        same = λ n es. no-head us bs es;
        holds = ap₂ (λ (b : ℕ) (n : ℕ). bindings_in room b n) t.base.0 (omega (arith, t.count.0, t.own, many)) ∙ r.place.framed.holds;
        own = omega (arith, t.count.0, t.own, many);
        above = omega (arith, t.base.0, r.place.framed.above);
        parts = λ after k. (
          t.body,
          record {
            above = omega (arith, t.base.0, r.place.framed.above);
            holds = k;
            shallow = few;
            framed = λ y. absurd (false≢true (sym t.headed ∙ y));
            scoped = λ y. absurd (false≢true (sym t.headed ∙ y));
          },
          record {
            framed =
                record {
                  stands = t.stands;
                  above = omega (arith, t.base.1, r.place.framed.above);
                  below = omega (arith, base, count);
                  holds = ap₂ (λ (y : ℕ) (n : ℕ). bindings_in after y n) base count ∙ k;
                  shallow = omega (arith, t.count.1, many, r.place.framed.shallow, inside-shallow g);
                };
            scoped = inside-ok (suc (length bs)) (length (unsets p.own bs)) g (omega (arith, unsets-length p.own bs, t.own)) r.place.scoped;
            base = base;
            count = count;
          },
        );
        fresh = omega (arith, t.base.0, t.count.0, t.own, many, r.place.tight);
        reach = omega (arith, t.base.0, t.count.0, many, r.place.tight, few);
      }
    where
      many : (deeper w.goal 7).count ≡ w.goal.count + 1
      many = omega (arith, r.place.framed.shallow)

      few : p.head.count ≤ levels
      few = omega (arith, t.count.0, many, r.place.framed.shallow, inside-shallow g)

      base : p.goal.base ≡ p.head.base
      base = t.base.1 ∙ sym t.base.0

      count : p.goal.count ≡ p.head.count
      count = t.count.1 ∙ sym t.count.0

  -- the chain that the code finds
  chain-there : {x : Spot} {ds : List (Clause Plain)} {us : List Term} {o : List Plain} {c : Hand Plain} {bs : Bindings} {q : Plain} {g : Goal Plain} {h : ℕ} → x ≡ deeper w.goal 7 → ChainOf f x 1 64 p → Ready f room ds us w h o c bs (Goal.some q g) → ChainAt f (deeper w.goal 7) 1 g p
  chain-there {g = g} i k r =
      let st = first_part (octets "some") heads.1.1.0 r.place.framed.stands in
      let small = file-small r.place.booked w.goal.source in
      (subst (λ (x : Spot). ChainOf f x 1 64 p) i k).parts g (omega (arith, r.place.framed.shallow))
      (record { stands = subst (λ (j : ℕ). Stands (bytes_at f w.goal) j (goal_sexp g)) (sym (plus-inside (bytes_at f w.goal) w.goal.at 7 small st)) st; small = small })
      (omega (arith, r.place.framed.shallow)) (omega arith)

  -- its variables are on top of the stack
  chain-floor : {ds : List (Clause Plain)} {us : List Term} {o : List Plain} {c : Hand Plain} {bs : Bindings} {q : Plain} {g : Goal Plain} {h : ℕ} → Ready f room ds us w h o c bs (Goal.some q g) → ChainAt f (deeper w.goal 7) 1 g p → floor p ≡ w.top
  chain-floor r t =
      let many : (deeper w.goal 7).count ≡ w.goal.count + 1 = omega (arith, r.place.framed.shallow) in
      let others : p.head.count - p.own ≡ w.goal.count = omega (arith, t.count.0, t.own, many) in
      ap₂ (λ (b : ℕ) (n : ℕ). b + n) t.base.0 others ∙ r.place.tight

  -- a height that the quantifiers use up
  pub some-low : {x : Spot} (left : ℕ) → x ≡ deeper w.goal 7 → ChainOf f x 1 64 p → left < p.own → ProvingAs W.Some f room room w left false
  some-low left i k l ds us o c bs g n r =
      let (q, g', m) = goal-is g n in
      let t = chain-there i k (subst (Ready f room ds us w (suc left) o c bs) m r) in
      record { kept = keeps_same room; answer = sym (ap (provable (listed us) (suc left) o c bs) m ∙ chain-low us o c (suc left) (Goal.some q g') bs (omega (arith, t.own))) }

  module _ {after : List ℕ} {x : Spot} {s : Bool} (left : ℕ) (i : x ≡ deeper w.goal 7) (k : ChainOf f x 1 64 p) (l : p.own ≤ left) (h : PassingParts f room after w p (left - (p.own - 1)) s) where
    some-said : {ds : List (Clause Plain)} {us : List Term} {o : List Plain} {c : Hand Plain} {bs : Bindings} {q : Plain} {g : Goal Plain} → Ready f room ds us w (suc left) o c bs (Goal.some q g)
        → Answers (Stock f ds us w.supposed c) w.supposed w.top room after (provable (listed us) (suc left) o c bs (Goal.some q g)) s
        × (s ≡ true → Located us (suc left - chain (Goal.some q g)) o c bs headless (chain (Goal.some q g)) (Clause.imp_d (inside g) headless) bs after w.top)
    some-said {ds} {us} {o} {c} {bs} {q} {g} r =
        let t = chain-there i k r in
        let own : p.own ≡ suc (chain g) = omega (arith, t.own) in
        let inner : left - (p.own - 1) ≡ suc left - suc (chain g) = omega (arith, own) in
        let st = subst (λ (n : ℕ). Starting f room ds us w p n o c bs headless (Clause.imp_d (inside g) headless) bs) {x = left - chain g} {y = left - (p.own - 1)} (omega (arith, own)) (chain-starting left r t) in
        let (a, b) = h ds us o c bs headless (Clause.imp_d (inside g) headless) bs st in
        let floors = chain-floor r t in (
          record {
            kept = keeps-less room after (omega arith) (omega (arith, floors)) a.kept;
            answer =
                a.answer
                ∙ ap (λ (n : ℕ). passes us (left - (p.own - 1)) o c bs headless (alls n (Clause.imp_d (inside g) headless)) bs) own
                ∙ chain-is us (left - (p.own - 1)) o c bs (suc left) (Goal.some q g) bs (omega (arith, own));
          },
          λ y.
              subst (λ (n : ℕ). Located us n o c bs headless (suc (chain g)) (Clause.imp_d (inside g) headless) bs after w.top) inner
              (subst (λ (n : ℕ). Located us (left - (p.own - 1)) o c bs headless n (Clause.imp_d (inside g) headless) bs after w.top) own
              (subst (Located us (left - (p.own - 1)) o c bs headless p.own (Clause.imp_d (inside g) headless) bs after) floors (b y))),
        )

    pub some-goes : ProvingAs W.Some f room after w left s
    some-goes ds us o c bs g n r =
        let (q, g', m) = goal-is g n in
        subst (λ (z : Goal Plain). Ready f room ds us w (suc left) o c bs z → Answers (Stock f ds us w.supposed c) w.supposed w.top room after (provable (listed us) (suc left) o c bs z) s) (sym m) (λ r. (some-said r).0) r

    pub some-located : s ≡ true → LocatingSome f room after w left
    some-located y ds us o c bs g n r =
        let (q, g', m) = goal-is g n in
        subst (λ (z : Goal Plain). Ready f room ds us w (suc left) o c bs z → Located us (suc left - chain z) o c bs headless (chain z) (Clause.imp_d (inside z) headless) bs after w.top) (sym m) (λ r. (some-said r).1 y) r
