-- The goals of a body that are looked at as soon as their variables are set (document 02, Three: no verdict and no strip changes).
-- A goal that holds no unset variable has the same answer whatever the frame becomes; so those that were looked at need not be again, and once nothing is unset the body has a proof.
use Prim.Native.Nat.{ℕ, zero, suc}
use mathlib.Core.Path.{◌≡◌, refl, sym, ◌∙◌, ap, ap₂}
use mathlib.Core.Bool.{Bool, true, false, ◌&&◌, ◌||◌, false≢true}
use mathlib.Core.List.{List}
use lib.Dec.{eqb}
use borrow.Author.Tests.{eq-eqb}
use Rattle.harrop.specs.declared.Binding.{Binding}
use Rattle.harrop.specs.Formula.{Term, Goal}
use Rattle.harrop.specs.Bindings.{Bindings}
use Rattle.harrop.specs.Place.{Hand, Plain, listed}
use Rattle.packet.specs.declared.Word.TheVariants as W
use Rattle.heads.specs.Heads.{goal_word}
use Rattle.mentions.specs.Mentions.{mentions_goal}
use Rattle.mentions.specs.Open.{is_open, asked, Becomes}
use Rattle.proving.specs.Provable.{provable}
use Rattle.proving.specs.Frames.{set_to}
use Rattle.proving.specs.Filling.{Due, LookedOne, Looked, Looks}
use Rattle.proving.proofs.OccursLaws.{or-false, Fewer, goal-fewer, goal-never}
use Rattle.proving.proofs.AlikeLaws.{AlikeBut, hands-same, provable-but}
use Rattle.proving.proofs.CompletesLaws.{completes-becomes, open-there, value_there}

-- what is asked of a variable: whether it is open, and perhaps whether it is v
pub asked-open : (own : ℕ) (bs : Bindings) (also : Bool) (v i : ℕ) → asked own bs also v i ≡ false → is_open own bs i ≡ false
unfolding asked
asked-open own bs also v i e = (or-false (is_open own bs i) (also && eqb i v) e).0

pub asked-other : (own : ℕ) (bs : Bindings) (v i : ℕ) → asked own bs true v i ≡ false → i ≡ v → ⊥
unfolding asked
asked-other own bs v i e z = false≢true (sym (or-false (is_open own bs i) (eqb i v) e).1 ∙ eq-eqb i v z)

pub open-asked : (own : ℕ) (bs : Bindings) (v i : ℕ) → is_open own bs i ≡ false → asked own bs false v i ≡ false
unfolding asked
open-asked own bs v i e = ap (λ (b : Bool). b || (false && eqb i v)) e

asked-alone : (own : ℕ) (bs : Bindings) (v w : ℕ) → Fewer (asked own bs false v) (asked own bs false w)
asked-alone own bs v w i e = open-asked own bs w i (asked-open own bs false v i e)

-- where v is not asked for, it does not matter which one it is
pub due-alone : (own : ℕ) (bs : Bindings) (v w : ℕ) (g : Goal Plain) → Due own bs false v g → Due own bs false w g
due-alone own bs v w g d = record { whole = goal-fewer (asked own bs false v) (asked own bs false w) (asked-alone own bs v w) g d.whole; new = λ z. absurd (false≢true z) }

-- a goal that is no `and` is looked at as one
pub looked-one : (us : List Term) (o : List Plain) (c : Hand Plain) (own : ℕ) (bs : Bindings) (also : Bool) (v h : ℕ) (g : Goal Plain) → (goal_word g ≡ W.And → ⊥) → LookedOne us o c own bs also v h g → Looked us o c own bs also v h g
unfolding goal_word
looked-one us o c own bs also v h Goal.top n l = l
looked-one us o c own bs also v h (Goal.atom a) n l = l
looked-one us o c own bs also v h (Goal.and g g') n l = absurd (n refl)
looked-one us o c own bs also v h (Goal.or g g') n l = l
looked-one us o c own bs also v h (Goal.some q g) n l = l
looked-one us o c own bs also v h (Goal.all q g) n l = l
looked-one us o c own bs also v h (Goal.imp d g) n l = l

module _ (us : List Term) (o : List Plain) (c : Hand Plain) (own : ℕ) where
  one-alone : (bs : Bindings) (v w h : ℕ) (g : Goal Plain) → LookedOne us o c own bs false v h g → LookedOne us o c own bs false w h g
  one-alone bs v w h g l d = l (due-alone own bs w v g d)

  pub looked-alone : (bs : Bindings) (v w h : ℕ) (g : Goal Plain) → Looked us o c own bs false v h g → Looked us o c own bs false w h g
  looked-alone bs v w h Goal.top l = one-alone bs v w h Goal.top l
  looked-alone bs v w h (Goal.atom a) l = one-alone bs v w h (Goal.atom a) l
  looked-alone bs v w zero (Goal.and g g') l = absurd l
  looked-alone bs v w (suc h) (Goal.and g g') l = (looked-alone bs v w h g l.0, looked-alone bs v w h g' l.1)
  looked-alone bs v w h (Goal.or g g') l = one-alone bs v w h (Goal.or g g') l
  looked-alone bs v w h (Goal.some q g) l = one-alone bs v w h (Goal.some q g) l
  looked-alone bs v w h (Goal.all q g) l = one-alone bs v w h (Goal.all q g) l
  looked-alone bs v w h (Goal.imp d g) l = one-alone bs v w h (Goal.imp d g) l

  -- the answer of a goal that holds no unset variable, whatever the frame becomes
  pub becomes-same : (bs ds : Bindings) (v h : ℕ) (g : Goal Plain) → mentions_goal (asked own bs false v) g ≡ false → Becomes us own bs ds → provable (listed us) h o c ds g ≡ provable (listed us) h o c bs g
  becomes-same bs ds v h g m k =
      provable-but (listed us) h o c c g (asked own bs false v) ds bs (hands-same us c) m (λ i n. k i (asked-open own bs false v i n))

  -- a variable set: the goals looked at before, and those that hold it, are all that hold no unset variable now
  module _ (v : ℕ) (b d : Binding) (fr : Bindings) where
    abbrev old : Bindings
    old = set_to v b fr

    abbrev now : Bindings
    now = set_to v d fr

    set-fewer : Fewer (asked own now true v) (asked own old false 0)
    set-fewer i e =
        let n = asked-other own now v i e in
        open-asked own old 0 i (open-there own v i b fr n ∙ sym (open-there own v i d fr n) ∙ asked-open own now true v i e)

    set-but : AlikeBut (asked own now true v) us now old
    set-but i e =
        let n = asked-other own now v i e in
        value_there us v i d fr n ∙ sym (value_there us v i b fr n)

    one_set : (h : ℕ) (g : Goal Plain) → LookedOne us o c own old false 0 h g → LookedOne us o c own now true v h g → LookedOne us o c own now false 0 h g
    one_set h g k l e = go (mentions_goal (asked own now true v) g) refl
      where
        go : (x : Bool) → mentions_goal (asked own now true v) g ≡ x → provable (listed us) h o c now g ≡ true
        go true m = l (record { whole = goal-fewer (asked own now false 0) (asked own now false v) (asked-alone own now 0 v) g e.whole; new = λ z. m })
        go false m =
            provable-but (listed us) h o c c g (asked own now true v) now old (hands-same us c) m set-but
            ∙ k (record { whole = goal-fewer (asked own now true v) (asked own old false 0) set-fewer g m; new = λ z. absurd (false≢true z) })

    pub looked-set : (h : ℕ) (g : Goal Plain) → Looked us o c own old false 0 h g → Looked us o c own now true v h g → Looked us o c own now false 0 h g
    looked-set h Goal.top k l = one_set h Goal.top k l
    looked-set h (Goal.atom a) k l = one_set h (Goal.atom a) k l
    looked-set zero (Goal.and g g') k l = absurd k
    looked-set (suc h) (Goal.and g g') k l = (looked-set h g k.0 l.0, looked-set h g' k.1 l.1)
    looked-set h (Goal.or g g') k l = one_set h (Goal.or g g') k l
    looked-set h (Goal.some q g) k l = one_set h (Goal.some q g) k l
    looked-set h (Goal.all q g) k l = one_set h (Goal.all q g) k l
    looked-set h (Goal.imp e g) k l = one_set h (Goal.imp e g) k l

  -- with nothing unset all of them were looked at
  module _ (fr : Bindings) (n : (i : ℕ) → is_open own fr i ≡ false) where
    one-whole : (h : ℕ) (g : Goal Plain) → LookedOne us o c own fr false 0 h g → provable (listed us) h o c fr g ≡ true
    one-whole h g l = l (record { whole = goal-never (asked own fr false 0) (λ i. open-asked own fr 0 i (n i)) g; new = λ z. absurd (false≢true z) })

    pub looked-whole : (h : ℕ) (g : Goal Plain) → Looked us o c own fr false 0 h g → provable (listed us) h o c fr g ≡ true
    unfolding provable
    looked-whole h Goal.top l = one-whole h Goal.top l
    looked-whole h (Goal.atom a) l = one-whole h (Goal.atom a) l
    looked-whole zero (Goal.and g g') l = absurd l
    looked-whole (suc h) (Goal.and g g') l = ap₂ ◌&&◌ (looked-whole h g l.0) (looked-whole h g' l.1)
    looked-whole h (Goal.or g g') l = one-whole h (Goal.or g g') l
    looked-whole h (Goal.some q g) l = one-whole h (Goal.some q g) l
    looked-whole h (Goal.all q g) l = one-whole h (Goal.all q g) l
    looked-whole h (Goal.imp d g) l = one-whole h (Goal.imp d g) l

  -- a goal that is no `and`: it is not looked at, or its own answer is all
  module _ (bs : Bindings) (also : Bool) (v h : ℕ) where
    pub looks-waits : (g : Goal Plain) → (goal_word g ≡ W.And → ⊥) → mentions_goal (asked own bs false v) g ≡ true → Looks us o c own bs also v h g true
    looks-waits g n m =
        record {
          yes = λ z. looked-one us o c own bs also v h g n (λ d. absurd (false≢true (sym d.whole ∙ m)));
          no = λ z. absurd (false≢true (sym z));
        }

    pub looks-before : (g : Goal Plain) → (goal_word g ≡ W.And → ⊥) → also ≡ true → mentions_goal (asked own bs true v) g ≡ false → Looks us o c own bs also v h g true
    looks-before g n a m =
        record {
          yes = λ z. looked-one us o c own bs also v h g n (λ d. absurd (false≢true (sym m ∙ d.new a)));
          no = λ z. absurd (false≢true (sym z));
        }

    pub looks-now : (g : Goal Plain) (r : Bool) → (goal_word g ≡ W.And → ⊥) → mentions_goal (asked own bs false v) g ≡ false → r ≡ provable (listed us) h o c bs g → Looks us o c own bs also v h g r
    looks-now g r n m e =
        record {
          yes = λ z. looked-one us o c own bs also v h g n (λ d. sym e ∙ z);
          no = λ z ds k. becomes-same bs ds v h g m (completes-becomes us o own bs ds k) ∙ sym e ∙ z;
        }

    -- both parts of an `and`
    pub looks-low : (g g' : Goal Plain) → Looks us o c own bs also v 0 (Goal.and g g') false
    unfolding provable
    looks-low g g' = record { yes = λ z. absurd (false≢true z); no = λ z ds k. refl }

    pub looks-first : (g g' : Goal Plain) → Looks us o c own bs also v h g false → Looks us o c own bs also v (suc h) (Goal.and g g') false
    unfolding provable
    looks-first g g' l = record { yes = λ z. absurd (false≢true z); no = λ z ds k. ap (λ (b : Bool). b && provable (listed us) h o c ds g') (l.no refl ds k) }

    pub looks-second : (g g' : Goal Plain) (r : Bool) → Looks us o c own bs also v h g true → Looks us o c own bs also v h g' r → Looks us o c own bs also v (suc h) (Goal.and g g') r
    unfolding provable
    looks-second g g' r l m =
        record {
          yes = λ z. (l.yes refl, m.yes z);
          no = λ z ds k. ap (λ (b : Bool). provable (listed us) h o c ds g && b) (m.no z ds k) ∙ and_none (provable (listed us) h o c ds g);
        }
      where
        and_none : (b : Bool) → b && false ≡ false
        and_none true = refl
        and_none false = refl
