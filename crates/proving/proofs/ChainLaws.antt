-- A chain of `some`, found by its words, and searched like the body of a clause with no head to compare: it has a proof exactly if the frame of its variables can be completed so that what stands inside has one, within what is left of the height (document 01, "Which strip the search writes"; document 02, Three: no verdict and no strip changes).
use Prim.Native.Nat.{ℕ, zero, suc, ◌+◌, ◌-◌, ◌≤◌}
use native.Mathlib.Omega.{arith}
use mathlib.Core.Path.{◌≡◌, refl, sym, ◌∙◌, ap, ap₂, subst}
use mathlib.Core.Bool.{Bool, true, false, ◌&&◌, ◌||◌}
use mathlib.Core.List.{List, ◌∷◌}
use lib.ListN.{length, drop}
use Rattle.basics.specs.Text.{octets}
use Rattle.harrop.specs.declared.Binding.TheVariants.{Candidate}
use Rattle.harrop.specs.Formula.{Term, Goal, Clause}
use Rattle.harrop.specs.Bindings.{Bindings, replaced_atom, same_atom}
use Rattle.harrop.specs.Place.{Hand, Plain, listed, allowed}
use Rattle.sexp.specs.Sexp.{Stands, nesting}
use Rattle.packet.specs.declared.Word.{Word}
use Rattle.packet.specs.declared.Word.TheVariants as W
use Rattle.reader.specs.WordAt.{WordAt}
use Rattle.packet.specs.Written.{goal_sexp}
use Rattle.packet.specs.Barred.{goal_ok}
use Rattle.packet.specs.File.{most_bytes}
use Rattle.room.specs.Where.{plus}
use Rattle.room.specs.Files.{Files}
use Rattle.room.specs.declared.Spot.{Spot}
use Rattle.room.proofs.NestLaws.{goal-nests}
use Rattle.room.proofs.WhereLaws.{plus-inside}
use Rattle.heads.specs.Heads.{goal_word}
use Rattle.heads.specs.Predicate.{bytes_at}
use Rattle.heads.proofs.HeadLaws.{goal-says, goal-is, heads, first_part}
use Rattle.proving.specs.Provable.{any_from, candidate_does, candidates_from, through, ending, provable}
use Rattle.proving.specs.Proving.{passes}
use Rattle.proving.specs.Hand.{deeper}
use Rattle.proving.specs.Frames.{alls}
use Rattle.proving.specs.Chain.{chain, inside, headless, inside_at, GoalThere, ChainAt, ChainOf}
use Rattle.proving.specs.declared.plain.Parts.{Parts}
use Rattle.proving.proofs.WalkLaws.{any-no}
use Rattle.proving.proofs.FillingLaws.{and_none}

-- a goal with another word is no chain
no-chain : (g : Goal Plain) → (goal_word g ≡ W.Some → ⊥) → (chain g ≡ 0) × (inside g ≡ g)
unfolding goal_word
no-chain Goal.top n = (refl, refl)
no-chain (Goal.atom a) n = (refl, refl)
no-chain (Goal.and g h) n = (refl, refl)
no-chain (Goal.or g h) n = (refl, refl)
no-chain (Goal.some q g) n = absurd (n refl)
no-chain (Goal.all q g) n = (refl, refl)
no-chain (Goal.imp d g) n = (refl, refl)

module _ {f : Files} {x : Spot} {own nest : ℕ} where
  -- a goal is a list
  pub chain-no-nest : {r : Parts} → nest ≡ 0 → r ≡ inside_at x own → ChainOf f x own nest r
  chain-no-nest e q = record { some = λ l. subst (λ (r : Parts). 1 ≤ r.own) (sym q) l; parts = λ g l t a b. absurd (omega (arith, goal-nests g)) }

  -- what is no `some`
  pub chain-end : {r : Parts} (k : Word) → WordAt (drop x.at (bytes_at f x)) 1 k → (k ≡ W.Some → ⊥) → r ≡ inside_at x own → ChainOf f x own nest r
  chain-end k h n q =
      subst (ChainOf f x own nest) (sym q)
      (record {
        some = λ l. l;
        parts = λ g l t a b.
            let (none, same) = no-chain g (λ e. n (goal-says (bytes_at f x) x.at g k t.stands h ∙ e)) in
            record {
              own = omega arith;
              body = refl;
              headed = refl;
              base = (refl, refl);
              count = (omega arith, omega arith);
              stands = subst (λ (z : Goal Plain). Stands (bytes_at f x) x.at (goal_sexp z)) (sym same) t.stands;
            };
      })

  -- one `some` more
  pub chain_more : {y : Spot} {m : ℕ} {r : Parts} (k : Word) → (nest ≡ 0 → ⊥) → WordAt (drop x.at (bytes_at f x)) 1 k → k ≡ W.Some → y ≡ deeper x 7 → m ≡ plus own 1 → ChainOf f y m (nest - 1) r → ChainOf f x own nest r
  chain_more {m = m} {r = r} k z h e i j p =
      record {
        some = λ l. p.some (omega arith);
        parts = λ g l t a b.
            let (q, g', n) = goal-is g (sym (goal-says (bytes_at f x) x.at g k t.stands h) ∙ e) in
            subst (λ (g : Goal Plain). nesting (goal_sexp g) ≤ nest → GoalThere f x g → ChainAt f x own g r) (sym n) (λ l t. more q g' l t a b) l t;
      }
    where
      inner : ChainOf f (deeper x 7) m (nest - 1) r
      inner = subst (λ (s : Spot). ChainOf f s m (nest - 1) r) i p

      more : (q : Plain) (g : Goal Plain) → nesting (goal_sexp (Goal.some q g)) ≤ nest → GoalThere f x (Goal.some q g) → x.count + nest ≤ most_bytes → own + nest ≤ most_bytes → ChainAt f x own (Goal.some q g) r
      more q g l t a b =
          let st = first_part (octets "some") heads.1.1.0 t.stands in
          let there : GoalThere f (deeper x 7) g = record {
            stands = subst (λ (w : ℕ). Stands (bytes_at f x) w (goal_sexp g)) (sym (plus-inside (bytes_at f x) x.at 7 t.small st)) st;
            small = t.small;
          } in
          let c = inner.parts g (omega arith) there (omega arith) (omega arith) in
          record {
            own = omega (arith, c.own);
            body = c.body;
            headed = c.headed;
            base = c.base;
            count = (omega (arith, c.count.0), omega (arith, c.count.1));
            stands = c.stands;
          }

-- what stands inside nests less by a level for each quantifier, and its variables are bound by them too
pub inside-shallow : (g : Goal Plain) → chain g + nesting (goal_sexp (inside g)) ≤ nesting (goal_sexp g)
inside-shallow Goal.top = omega arith
inside-shallow (Goal.atom a) = omega arith
inside-shallow (Goal.and g h) = omega arith
inside-shallow (Goal.or g h) = omega arith
inside-shallow (Goal.some q g) = omega (arith, inside-shallow g)
inside-shallow (Goal.all q g) = omega arith
inside-shallow (Goal.imp d g) = omega arith

pub inside-ok : (n m : ℕ) (g : Goal Plain) → m ≡ chain g + n → goal_ok n g ≡ true → goal_ok m (inside g) ≡ true
inside-ok n m Goal.top l e = e
inside-ok n m (Goal.atom a) l e = subst (λ (k : ℕ). goal_ok k (Goal.atom a) ≡ true) {x = n} {y = m} (omega arith) e
inside-ok n m (Goal.and g h) l e = subst (λ (k : ℕ). goal_ok k (Goal.and g h) ≡ true) {x = n} {y = m} (omega arith) e
inside-ok n m (Goal.or g h) l e = subst (λ (k : ℕ). goal_ok k (Goal.or g h) ≡ true) {x = n} {y = m} (omega arith) e
inside-ok n m (Goal.some q g) l e = inside-ok (suc n) m g (omega arith) e
inside-ok n m (Goal.all q g) l e = subst (λ (k : ℕ). goal_ok k (Goal.all q g) ≡ true) {x = n} {y = m} (omega arith) e
inside-ok n m (Goal.imp d g) l e = subst (λ (k : ℕ). goal_ok k (Goal.imp d g) ≡ true) {x = n} {y = m} (omega arith) e

-- there is no head to compare
pub no-head : (us : List Term) (bs es : Bindings) → same_atom (replaced_atom us es headless) (replaced_atom us bs headless) ≡ true
no-head us bs es = refl

-- numbers by two tests that say the same
any_same : (f f' : ℕ → Bool) → ((i : ℕ) → f i ≡ f' i) → (i n : ℕ) → any_from f i n ≡ any_from f' i n
unfolding any_from
any_same f f' e i zero = refl
any_same f f' e i (suc n) = ap₂ ◌||◌ (e i) (any_same f f' e (suc i) n)

module _ (us : List Term) (left : ℕ) (o : List Plain) (c : Hand Plain) (bs : Bindings) where
  -- a chain of `some` as quantifiers around a clause
  pub chain-is : (h : ℕ) (g : Goal Plain) (bs' : Bindings) → h ≡ chain g + left → passes us left o c bs headless (alls (chain g) (Clause.imp_d (inside g) headless)) bs' ≡ provable (listed us) h o c bs' g
  unfolding through ending candidates_from candidate_does provable
  chain-is h Goal.top bs' e = ap (λ (k : ℕ). provable (listed us) k o c bs' Goal.top) {x = left} {y = h} (omega arith)
  chain-is h (Goal.atom a) bs' e = ap (λ (k : ℕ). provable (listed us) k o c bs' (Goal.atom a)) {x = left} {y = h} (omega arith)
  chain-is h (Goal.and g g') bs' e = ap (λ (k : ℕ). provable (listed us) k o c bs' (Goal.and g g')) {x = left} {y = h} (omega arith)
  chain-is h (Goal.or g g') bs' e = ap (λ (k : ℕ). provable (listed us) k o c bs' (Goal.or g g')) {x = left} {y = h} (omega arith)
  chain-is h (Goal.all q g) bs' e = ap (λ (k : ℕ). provable (listed us) k o c bs' (Goal.all q g)) {x = left} {y = h} (omega arith)
  chain-is h (Goal.imp d g) bs' e = ap (λ (k : ℕ). provable (listed us) k o c bs' (Goal.imp d g)) {x = left} {y = h} (omega arith)
  chain-is zero (Goal.some q g) bs' e = absurd (omega arith)
  chain-is (suc h) (Goal.some q g) bs' e =
      any_same (candidate_does (listed us) o tt (λ i. passes us left o c bs headless (alls (chain g) (Clause.imp_d (inside g) headless)) (Candidate i ∷ bs'))) (candidate_does (listed us) o q (λ i. provable (listed us) h o c (Candidate i ∷ bs') g))
      (λ i. ap (λ (b : Bool). allowed (listed us) o tt i && b) (chain-is h g (Candidate i ∷ bs') (omega arith))) 0 (length us - 0)

-- a height that its quantifiers use up
pub chain-low : (us : List Term) (o : List Plain) (c : Hand Plain) (h : ℕ) (g : Goal Plain) (bs : Bindings) → h ≤ chain g → provable (listed us) h o c bs g ≡ false
unfolding provable candidates_from candidate_does
chain-low us o c zero g bs l = refl
chain-low us o c (suc h) Goal.top bs l = absurd (omega arith)
chain-low us o c (suc h) (Goal.atom a) bs l = absurd (omega arith)
chain-low us o c (suc h) (Goal.and g g') bs l = absurd (omega arith)
chain-low us o c (suc h) (Goal.or g g') bs l = absurd (omega arith)
chain-low us o c (suc h) (Goal.all q g) bs l = absurd (omega arith)
chain-low us o c (suc h) (Goal.imp d g) bs l = absurd (omega arith)
chain-low us o c (suc h) (Goal.some q g) bs l =
    any-no (candidate_does (listed us) o q (λ i. provable (listed us) h o c (Candidate i ∷ bs) g)) 0 (length us - 0)
    (λ i a b. ap (λ (x : Bool). allowed (listed us) o q i && x) (chain-low us o c h g (Candidate i ∷ bs) (omega arith)) ∙ and_none (allowed (listed us) o q i))
