-- What the table is to say of the clause that serves an atom first (specs/Stock): it depends on the place by the atom alone, its variables replaced, and on the room by the numbers of the path alone; and it does not see clauses that are supposed later.
use Prim.Native.Nat.{ℕ, zero, suc, ◌+◌, ◌≤◌, ◌<◌}
use native.Mathlib.Omega.{arith}
use mathlib.Core.Path.{◌≡◌, refl, sym, ◌∙◌, ap, subst}
use mathlib.Core.Bool.{Bool, true, false}
use mathlib.Core.List.{List, [], ◌∷◌, ◌++◌}
use mathlib.Core.Option.{some}
use lib.ListN.{length, get_or, get_elem?, take}
use lib.Seq.{take_all, take-append-le}
use Rattle.harrop.specs.Formula.{Term, Atom, Clause, Step}
use Rattle.harrop.specs.Bindings.{Bindings, replaced_atom}
use Rattle.harrop.specs.Place.{AtHand, Hand, Plain, listed}
use Rattle.table.specs.Slots.{words_in}
use Rattle.proving.specs.Provable.{through, ending, clause_does, provable, serves, passes}
use Rattle.proving.specs.First.{FirstFrame, Forcing, steps_of, PathIn, Located}
use Rattle.proving.specs.Stock.{units, Chooses, choice}
use Rattle.proving.specs.Filling.{LocatedAt}
use Rattle.proving.proofs.TruthLaws.{units-are}

-- words of the room, and one less of them
pub words-length : (room : List ℕ) (at n : ℕ) → length (words_in room at n) ≡ n
unfolding words_in
words-length room at zero = refl
words-length room at (suc n) = ap suc (words-length room (at + 1) n)

abbrev first_of : List ℕ → ℕ
first_of [] = 0
first_of (x ∷ xs) = x

abbrev rest_of : List ℕ → List ℕ
rest_of [] = []
rest_of (x ∷ xs) = xs

words-first : (room room' : List ℕ) (at at' n : ℕ) → words_in room' at' (suc n) ≡ words_in room at (suc n) → get_or room' at' 0 ≡ get_or room at 0
unfolding words_in
words-first room room' at at' n e = ap first_of e

words-rest : (room room' : List ℕ) (at at' n : ℕ) → words_in room' at' (suc n) ≡ words_in room at (suc n) → words_in room' (at' + 1) n ≡ words_in room (at + 1) n
unfolding words_in
words-rest room room' at at' n e = ap rest_of e

-- the same words hold the same path
path-alike : (room room' : List ℕ) (at at' : ℕ) (path : List Step) (n : ℕ) → words_in room' at' n ≡ words_in room at n → length path ≤ n → PathIn room at path → PathIn room' at' path
path-alike room room' at at' [] n e l p = tt
path-alike room room' at at' (Step.l ∷ path) n e l p = absurd p
path-alike room room' at at' (Step.r ∷ path) n e l p = absurd p
path-alike room room' at at' (Step.n i ∷ path) zero e l p = absurd (omega arith)
path-alike room room' at at' (Step.n i ∷ path) (suc n) e l (p, q) =
    (words-first room room' at at' n e ∙ p, path-alike room room' (at + 1) (at' + 1) path n (words-rest room room' at at' n e) (omega arith) q)

steps-length : (k : ℕ) (ds : Bindings) → length (steps_of k ds) ≡ k
steps-length zero ds = refl
steps-length (suc k) ds = ap suc (steps-length k ds)

-- the first completion is the same for the same atom, wherever its numbers stand
located-alike : {us : List Term} {left : ℕ} {o : List Plain} {c : Hand Plain} {bs bs' : Bindings} {a a' : Atom} {own : ℕ} {e : Clause Plain} {fr : Bindings} {room room' : List ℕ} {at at' : ℕ} (n : ℕ)
    → replaced_atom us bs a ≡ replaced_atom us bs' a' → own ≤ n → words_in room' at' n ≡ words_in room at n → Located us left o c bs a own e fr room at → Located us left o c bs' a' own e fr room' at'
located-alike {us} {left} {o} {c} {bs} {bs'} {a} {a'} {own} {e} {fr} {room} {room'} {at} {at'} n q l w L =
    let same : passes us left o c bs a e ≡ passes us left o c bs' a' e = ap {B = Bindings → Bool} (λ (x : Atom) (ds : Bindings). through (listed us) o e ds (ending (listed us) x (λ g es. provable (listed us) left o c es g))) q in
    record {
      settled = L.settled;
      frame = L.frame;
      forcing = subst (λ (d : Bindings → Bool). Forcing us o own d fr L.settled) same L.forcing;
      first = subst (λ (d : Bindings → Bool). FirstFrame us o own d own L.settled L.frame) same L.first;
      does = ap (λ (d : Bindings → Bool). d L.frame) (sym same) ∙ L.does;
      path = path-alike room room' at at' (steps_of own L.frame) n w (omega (arith, steps-length own L.frame)) L.path;
    }

-- the first clause that serves is chosen, if it is a rule, with the numbers that it has left on top of the stack
pub chooses : {us : List Term} {left : ℕ} {o : List Plain} {c : Hand Plain} {bs : Bindings} {a : Atom} (room : List ℕ) (top k n : ℕ) → k < length c → ((h : AtHand Plain) → get_elem? c k ≡ some h → h.bindings ≡ [])
    → ((j : ℕ) → j < k → clause_does (listed us) o c (serves (listed us) left o c bs a) j ≡ false) → clause_does (listed us) o c (serves (listed us) left o c bs a) k ≡ true → LocatedAt us left o c bs a top room k
    → Chooses us left o c (replaced_atom us bs a) k (words_in room top n)
chooses {us} {left} {o} {c} {bs} {a} room top k n l none' early here at =
    record {
      few = l;
      before = early;
      here = here;
      numbers = λ bs' a' q h there plain enough room' top' w.
          let many = words-length room top n in
          let empty : length h.bindings ≡ 0 = ap length (none' h there) in
          located-alike n (sym q) (omega (arith, enough, many))
          (ap (λ (i : ℕ). words_in room' i n) {x = top' + length h.bindings} {y = top'} (omega arith)
          ∙ (ap (λ (m : ℕ). words_in room' top' m) (sym many) ∙ (w ∙ ap (λ (i : ℕ). words_in room i n) {x = top} {y = top + length h.bindings} (omega arith))))
          (at h there plain);
    }

module _ (us : List Term) (n s p h : ℕ) (o : List Plain) (c : Hand Plain) (x : Atom) (k : ℕ) (ns : List ℕ) (e : length c ≡ n + s) (q : length o ≡ p) where
  pub choice-here : Chooses us h o c x k ns → choice us n c s p (suc h) x k ns
  unfolding choice
  choice-here C =
      subst (λ (d : Hand Plain). Chooses us h (units p) d x k ns) {x = c} {y = take (n + s) c} (sym (take_all (n + s) c (omega arith)))
      (subst (λ (l : List Plain). Chooses us h l c x k ns) (units-are o p q) C)

  pub choice-there : choice us n c s p (suc h) x k ns → Chooses us h o c x k ns
  unfolding choice
  choice-there C =
      subst (λ (l : List Plain). Chooses us h l c x k ns) (sym (units-are o p q))
      (subst (λ (d : Hand Plain). Chooses us h (units p) d x k ns) {x = take (n + s) c} {y = c} (take_all (n + s) c (omega arith)) C)

-- what is chosen under the first clauses is so whatever comes after them, and the other way round
module _ (us : List Term) (n m : ℕ) (c xs : Hand Plain) (l : n + m ≤ length c) where
  pub choice-later : (s p h : ℕ) (a : Atom) (k : ℕ) (ns : List ℕ) → s ≤ m → choice us n c s p h a k ns → choice us n (c ++ xs) s p h a k ns
  unfolding choice
  choice-later s p zero a k ns b C = C
  choice-later s p (suc h) a k ns b C = subst (λ (d : Hand Plain). Chooses us h (units p) d a k ns) (sym (take-append-le (n + s) c xs (omega arith))) C

  pub choice-sooner : (s p h : ℕ) (a : Atom) (k : ℕ) (ns : List ℕ) → s ≤ m → choice us n (c ++ xs) s p h a k ns → choice us n c s p h a k ns
  unfolding choice
  choice-sooner s p zero a k ns b C = C
  choice-sooner s p (suc h) a k ns b C = subst (λ (d : Hand Plain). Chooses us h (units p) d a k ns) (take-append-le (n + s) c xs (omega arith)) C
