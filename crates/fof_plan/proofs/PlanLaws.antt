-- Plans: what each due does with the sign ahead, from the number of that sign; and the plan for a due from the plan for what it does.
use Prim.Native.Nat.{ℕ, zero, suc, ◌-◌, ◌≤◌, ◌<◌}
use mathlib.Core.Path.{◌≡◌, refl, sym, ◌∙◌, ap, subst}
use mathlib.Core.Bool.{Bool, true, false, false≢true}
use mathlib.Core.List.{List, [], ◌∷◌, ◌++◌}
use mathlib.Core.Option.{Option, none, some}
use native.Mathlib.Omega.{arith}
use lib.Dec.{eqb}
use borrow.Author.Tests.{eq-eqb, ne_eqb}
use Rattle.basics.specs.Choice.{choose, ◌>>=◌, maybe, provided}
use Rattle.basics.specs.Text.{octets}
use Rattle.harrop.specs.Formula.{Name}
use Rattle.sexp.specs.Decimal.{decimal}
use Rattle.sexp.specs.Words.{is_name}
use Rattle.fof_truth.specs.Numbered.{Scope, number_of}
use Rattle.fof_part.specs.Sign.{Sign, code}
use Rattle.fof_part.specs.Mark.{Mark}
use Rattle.fof_part.specs.Due as part
use Rattle.fof_part.specs.Due.{Did, did, due_at, taking, headed, many_headed, link_word, link_code, chain, by_chain, quantified, topped, unit_at, variable_at, behind_at, arguments_at, terms_at, term_at}
use Rattle.fof_pass.specs.declared.dues.Sort.{Sort}
use Rattle.fof_pass.specs.declared.dues.Sort.TheVariants as S
use Rattle.fof_pass.specs.declared.dues.Due.{Due}
use Rattle.fof_pass.specs.declared.dues.Due.TheVariants as D
use Rattle.fof_plan.specs.declared.chain.First.{First}
use Rattle.fof_plan.specs.declared.chain.First.TheVariants as F
use Rattle.fof_plan.specs.declared.chain.Chain.{Chain}
use Rattle.fof_plan.specs.declared.plan.Writes.TheVariants as W
use Rattle.fof_plan.specs.declared.plan.Plan.{Plan}
use Rattle.fof_pass.specs.Dues.{sort_is, link_is, quantifier_is, meant, Few}
use Rattle.fof_plan.specs.Chained.{chain_is, Chains}
use Rattle.fof_plan.specs.Planned.{code_ahead, beyond, planned, refusal, doing, taking_to, FewBy, Sane, PlansAs, Plans}

-- an answer that waits for a test, and one made of another, handed on
provided-on : {A B : Type 0} (b : Bool) (a : A) (f : A → Option B) → (provided b (some a) >>= f) ≡ provided b (f a)
provided-on true a f = refl
provided-on false a f = refl

made-on : {A B C : Type 0} (o : Option A) (g : A → B) (f : B → Option C) → ((o >>= λ i. some (g i)) >>= f) ≡ (o >>= λ i. f (g i))
made-on none g f = refl
made-on (some i) g f = refl

-- the sign ahead, from its number: a name
lower-ahead : (ss : List Sign) → code_ahead ss ≡ 0 → (w : Name) × (ss ≡ Sign.lower w ∷ beyond true ss)
lower-ahead [] e = absurd (omega arith)
lower-ahead (Sign.lower w ∷ ss) e = (w, refl)
lower-ahead (Sign.upper w ∷ ss) e = absurd (omega arith)
lower-ahead (Sign.truth ∷ ss) e = absurd (omega arith)
lower-ahead (Sign.opens ∷ ss) e = absurd (omega arith)
lower-ahead (Sign.closes ∷ ss) e = absurd (omega arith)
lower-ahead (Sign.lists ∷ ss) e = absurd (omega arith)
lower-ahead (Sign.ends ∷ ss) e = absurd (omega arith)
lower-ahead (Sign.comma ∷ ss) e = absurd (omega arith)
lower-ahead (Sign.colon ∷ ss) e = absurd (omega arith)
lower-ahead (Sign.dot ∷ ss) e = absurd (omega arith)
lower-ahead (Sign.every ∷ ss) e = absurd (omega arith)
lower-ahead (Sign.exist ∷ ss) e = absurd (omega arith)
lower-ahead (Sign.both ∷ ss) e = absurd (omega arith)
lower-ahead (Sign.either ∷ ss) e = absurd (omega arith)
lower-ahead (Sign.then ∷ ss) e = absurd (omega arith)
lower-ahead (Sign.other ∷ ss) e = absurd (omega arith)

upper-ahead : (ss : List Sign) → code_ahead ss ≡ 1 → (w : Name) × (ss ≡ Sign.upper w ∷ beyond true ss)
upper-ahead [] e = absurd (omega arith)
upper-ahead (Sign.lower w ∷ ss) e = absurd (omega arith)
upper-ahead (Sign.upper w ∷ ss) e = (w, refl)
upper-ahead (Sign.truth ∷ ss) e = absurd (omega arith)
upper-ahead (Sign.opens ∷ ss) e = absurd (omega arith)
upper-ahead (Sign.closes ∷ ss) e = absurd (omega arith)
upper-ahead (Sign.lists ∷ ss) e = absurd (omega arith)
upper-ahead (Sign.ends ∷ ss) e = absurd (omega arith)
upper-ahead (Sign.comma ∷ ss) e = absurd (omega arith)
upper-ahead (Sign.colon ∷ ss) e = absurd (omega arith)
upper-ahead (Sign.dot ∷ ss) e = absurd (omega arith)
upper-ahead (Sign.every ∷ ss) e = absurd (omega arith)
upper-ahead (Sign.exist ∷ ss) e = absurd (omega arith)
upper-ahead (Sign.both ∷ ss) e = absurd (omega arith)
upper-ahead (Sign.either ∷ ss) e = absurd (omega arith)
upper-ahead (Sign.then ∷ ss) e = absurd (omega arith)
upper-ahead (Sign.other ∷ ss) e = absurd (omega arith)

-- and one that holds none
abbrev sign_by : ℕ → Sign
sign_by k =
    choose (eqb k 2) Sign.truth
    (choose (eqb k 3) Sign.opens
    (choose (eqb k 4) Sign.closes
    (choose (eqb k 5) Sign.lists
    (choose (eqb k 6) Sign.ends
    (choose (eqb k 7) Sign.comma
    (choose (eqb k 8) Sign.colon
    (choose (eqb k 9) Sign.dot
    (choose (eqb k 10) Sign.every
    (choose (eqb k 11) Sign.exist
    (choose (eqb k 12) Sign.both
    (choose (eqb k 13) Sign.either
    (choose (eqb k 14) Sign.then Sign.other))))))))))))

plain-ahead : (ss : List Sign) (k : ℕ) → code_ahead ss ≡ k → 2 ≤ k → k < 16 → ss ≡ sign_by k ∷ beyond true ss
plain-ahead [] k e l m = absurd (omega arith)
plain-ahead (Sign.lower w ∷ ss) k e l m = absurd (omega arith)
plain-ahead (Sign.upper w ∷ ss) k e l m = absurd (omega arith)
plain-ahead (Sign.truth ∷ ss) k e l m = ap (λ (j : ℕ). sign_by j ∷ ss) e
plain-ahead (Sign.opens ∷ ss) k e l m = ap (λ (j : ℕ). sign_by j ∷ ss) e
plain-ahead (Sign.closes ∷ ss) k e l m = ap (λ (j : ℕ). sign_by j ∷ ss) e
plain-ahead (Sign.lists ∷ ss) k e l m = ap (λ (j : ℕ). sign_by j ∷ ss) e
plain-ahead (Sign.ends ∷ ss) k e l m = ap (λ (j : ℕ). sign_by j ∷ ss) e
plain-ahead (Sign.comma ∷ ss) k e l m = ap (λ (j : ℕ). sign_by j ∷ ss) e
plain-ahead (Sign.colon ∷ ss) k e l m = ap (λ (j : ℕ). sign_by j ∷ ss) e
plain-ahead (Sign.dot ∷ ss) k e l m = ap (λ (j : ℕ). sign_by j ∷ ss) e
plain-ahead (Sign.every ∷ ss) k e l m = ap (λ (j : ℕ). sign_by j ∷ ss) e
plain-ahead (Sign.exist ∷ ss) k e l m = ap (λ (j : ℕ). sign_by j ∷ ss) e
plain-ahead (Sign.both ∷ ss) k e l m = ap (λ (j : ℕ). sign_by j ∷ ss) e
plain-ahead (Sign.either ∷ ss) k e l m = ap (λ (j : ℕ). sign_by j ∷ ss) e
plain-ahead (Sign.then ∷ ss) k e l m = ap (λ (j : ℕ). sign_by j ∷ ss) e
plain-ahead (Sign.other ∷ ss) k e l m = ap (λ (j : ℕ). sign_by j ∷ ss) e

-- a sign that is expected: it is ahead and is taken, or it is not
take-hit : (c : ℕ) (ss : List Sign) → code_ahead ss ≡ c → c < 16 → taking c ss ≡ some (beyond true ss)
take-hit c [] e l = absurd (omega arith)
take-hit c (s ∷ ss) e l = ap (λ (b : Bool). provided b (some ss)) (eq-eqb (code s) c e)

take-miss : (c : ℕ) (ss : List Sign) → (code_ahead ss ≡ c → ⊥) → taking c ss ≡ none
take-miss c [] n = refl
take-miss c (s ∷ ss) n = ap (λ (b : Bool). provided b (some ss)) (ne_eqb (code s) c n)

-- f does this where a sign of number c is ahead
abbrev DoesAt : (Scope → List Sign → Option Did) → ℕ → (Scope → List Sign → Option Did) → Type 0
DoesAt f c g = (ss : List Sign) → c ≡ code_ahead ss → (sc : Scope) → f sc ss ≡ g sc ss

-- a plan for what f does, by its parts; the one where nothing can be done; and one for what does the same
module _ (f : Scope → List Sign → Option Did) (c n : ℕ) {r : Plan} where
  pub plans : (p : Plan) → r ≡ p → DoesAt f c (planned p) → Sane c n p → PlansAs f c n r
  plans p e d s = subst (λ (x : Plan). PlansAs f c n x) (sym e) (record { does = d; sane = s })

  pub refuses : r ≡ refusal → DoesAt f c (λ sc ss. none) → PlansAs f c n r
  refuses e d = plans refusal e d (record { named = tt; taken = λ t. absurd (false≢true t); few = λ _. (tt, tt, tt, tt) })

  pub likewise : (g : Scope → List Sign → Option Did) → DoesAt f c g → PlansAs g c n r → PlansAs f c n r
  likewise g d h = record { does = λ ss e sc. d ss e sc ∙ h.does ss e sc; sane = h.sane }

-- a sign that is taken where it is ahead
module _ (c wanted n : ℕ) (a b d : Due ℕ) {r : Plan} (l : wanted < 16) (few : FewBy n a b d) where
  pub taken-hit : c ≡ wanted → r ≡ doing true W.Nothing a b d D.Nothing → PlansAs (taking_to wanted (meant a ++ (meant b ++ (meant d ++ [])))) c n r
  taken-hit h e =
      let ds = meant a ++ (meant b ++ (meant d ++ [])) in
      plans (taking_to wanted ds) c n (doing true W.Nothing a b d D.Nothing) e
      (λ ss o sc. ap (λ (x : Option (List Sign)). x >>= λ y. did [] ds sc y) (take-hit wanted ss (sym o ∙ h) l))
      (record { named = tt; taken = λ _. omega arith; few = λ k. let (x, y, z) = few k in (x, y, z, tt) })

  pub taken-miss : (c ≡ wanted → ⊥) → r ≡ refusal → PlansAs (taking_to wanted (meant a ++ (meant b ++ (meant d ++ [])))) c n r
  taken-miss h e =
      let ds = meant a ++ (meant b ++ (meant d ++ [])) in
      refuses (taking_to wanted ds) c n e
      (λ ss o sc. ap (λ (x : Option (List Sign)). x >>= λ y. did [] ds sc y) (take-miss wanted ss (λ z. h (o ∙ z))))

-- what is done whatever sign is ahead, without taking it
module _ (c n : ℕ) {r : Plan} where
  pub implied-is : (s q : Sort) → r ≡ doing false W.Implies (D.Unit s) D.Arrow (D.Unit q) D.Shut → PlansAs (λ sc ss. did (headed (octets "imp")) (part.Due.unit (sort_is s) ∷ part.Due.arrow ∷ part.Due.unit (sort_is q) ∷ part.Due.shut ∷ []) sc ss) c n r
  implied-is s q e =
      plans (λ sc ss. did (headed (octets "imp")) (part.Due.unit (sort_is s) ∷ part.Due.arrow ∷ part.Due.unit (sort_is q) ∷ part.Due.shut ∷ []) sc ss) c n
      (doing false W.Implies (D.Unit s) D.Arrow (D.Unit q) D.Shut) e (λ ss o sc. refl)
      (record { named = tt; taken = λ t. absurd (false≢true t); few = λ _. (tt, tt, tt, tt) })

  pub linked-is : (l : Bool) (s : Sort) → r ≡ doing false (W.Heads l n) (D.Unit s) (D.More l s n) D.Nothing D.Nothing → PlansAs (λ sc ss. did (many_headed (link_word (link_is l)) n) (part.Due.unit (sort_is s) ∷ part.Due.more (link_is l) (sort_is s) n ∷ []) sc ss) c n r
  linked-is l s e =
      plans (λ sc ss. did (many_headed (link_word (link_is l)) n) (part.Due.unit (sort_is s) ∷ part.Due.more (link_is l) (sort_is s) n ∷ []) sc ss) c n
      (doing false (W.Heads l n) (D.Unit s) (D.More l s n) D.Nothing D.Nothing) e (λ ss o sc. refl)
      (record { named = tt; taken = λ t. absurd (false≢true t); few = λ k. (tt, k, tt, tt) })

-- a formula by its chain, and the chains that a sort does not have
module _ (n c : ℕ) {s s' : Sort} {f f' : First} {r : Plan} where
  pub chain-as : s ≡ s' → f ≡ f' → PlansAs (by_chain (sort_is s') (chain_is f' n)) c n r → PlansAs (by_chain (sort_is s) (chain_is f n)) c n r
  chain-as e g h =
      subst (λ (x : Sort). PlansAs (by_chain (sort_is x) (chain_is f n)) c n r) (sym e)
      (subst (λ (y : First). PlansAs (by_chain (sort_is s') (chain_is y n)) c n r) (sym g) h)

  pub chain-out : s ≡ s' → f ≡ f' → r ≡ refusal → ((sc : Scope) (ss : List Sign) → by_chain (sort_is s') (chain_is f' n) sc ss ≡ none) → PlansAs (by_chain (sort_is s) (chain_is f n)) c n r
  chain-out e g i h = chain-as e g (refuses (by_chain (sort_is s') (chain_is f' n)) c n i (λ ss o sc. h sc ss))

pub chain-lone : (n c : ℕ) (s : Sort) {f : First} {r : Plan} → f ≡ F.Lone → r ≡ doing false W.Nothing (D.Unit s) D.Nothing D.Nothing D.Nothing → PlansAs (by_chain (sort_is s) (chain_is f n)) c n r
chain-lone n c s g i =
    chain-as n c {s = s} refl g
    (plans (by_chain (sort_is s) (chain_is F.Lone n)) c n (doing false W.Nothing (D.Unit s) D.Nothing D.Nothing D.Nothing) i (λ ss o sc. refl)
    (record { named = tt; taken = λ t. absurd (false≢true t); few = λ _. (tt, tt, tt, tt) }))

-- a quantifier that is ahead, where the sort has it, and where it has not
abbrev Lists : Bool → Sort → Type 0
Lists b s = (sc : Scope) (ss : List Sign) → quantified (quantifier_is b) (sort_is s) sc ss ≡ did [] (part.Due.list (quantifier_is b) (sort_is s) ∷ []) sc ss

abbrev Unlisted : Bool → Sort → Type 0
Unlisted b s = (sc : Scope) (ss : List Sign) → quantified (quantifier_is b) (sort_is s) sc ss ≡ none

module _ (c n : ℕ) (l : c < 16) {b b' : Bool} {s s' : Sort} {r : Plan} (e : b ≡ b') (g : s ≡ s') where
  pub quantified-in : r ≡ doing true W.Nothing (D.List b s) D.Nothing D.Nothing D.Nothing → Lists b' s' → PlansAs (λ sc ss. quantified (quantifier_is b) (sort_is s) sc (beyond true ss)) c n r
  quantified-in i h =
      let k : Lists b s = subst (λ (x : Bool). Lists x s) (sym e) (subst (λ (y : Sort). Lists b' y) (sym g) h) in
      plans (λ sc ss. quantified (quantifier_is b) (sort_is s) sc (beyond true ss)) c n (doing true W.Nothing (D.List b s) D.Nothing D.Nothing D.Nothing) i
      (λ ss o sc. k sc (beyond true ss)) (record { named = tt; taken = λ _. l; few = λ _. (tt, tt, tt, tt) })

  pub quantified-out : r ≡ refusal → Unlisted b' s' → PlansAs (λ sc ss. quantified (quantifier_is b) (sort_is s) sc (beyond true ss)) c n r
  quantified-out i h =
      let k : Unlisted b s = subst (λ (x : Bool). Unlisted x s) (sym e) (subst (λ (y : Sort). Unlisted b' y) (sym g) h) in
      refuses (λ sc ss. quantified (quantifier_is b) (sort_is s) sc (beyond true ss)) c n i (λ ss o sc. k sc (beyond true ss))

-- and $true
module _ (c n : ℕ) (l : c < 16) {s : Sort} {r : Plan} where
  pub topped-in : s ≡ S.Goal → r ≡ doing true W.Top D.Nothing D.Nothing D.Nothing D.Nothing → PlansAs (λ sc ss. topped (sort_is s) sc (beyond true ss)) c n r
  topped-in g i =
      subst (λ (x : Sort). PlansAs (λ sc ss. topped (sort_is x) sc (beyond true ss)) c n r) (sym g)
      (plans (λ sc ss. topped (sort_is S.Goal) sc (beyond true ss)) c n (doing true W.Top D.Nothing D.Nothing D.Nothing D.Nothing) i (λ ss o sc. refl)
      (record { named = tt; taken = λ _. l; few = λ _. (tt, tt, tt, tt) }))

  pub topped-out : {s' : Sort} → s ≡ s' → r ≡ refusal → ((sc : Scope) (ss : List Sign) → topped (sort_is s') sc ss ≡ none) → PlansAs (λ sc ss. topped (sort_is s) sc (beyond true ss)) c n r
  topped-out {s'} g i h =
      subst (λ (x : Sort). PlansAs (λ sc ss. topped (sort_is x) sc (beyond true ss)) c n r) (sym g) (refuses (λ sc ss. topped (sort_is s') sc (beyond true ss)) c n i (λ ss o sc. h sc (beyond true ss)))

-- a unit, by the sign that it begins with
unit-by : (s : part.Sort) (c k : ℕ) → c ≡ k → 2 ≤ k → k < 16 → DoesAt (unit_at s) c (λ sc ss. unit_at s sc (sign_by k ∷ beyond true ss))
unit-by s c k h l m ss o sc = ap (λ (x : List Sign). unit_at s sc x) (plain-ahead ss k (sym o ∙ h) l m)

module _ (c : ℕ) {r : Plan} where
  pub unit-atom : (s : part.Sort) → c ≡ 0 → r ≡ doing true W.Atom D.Arguments D.Shut D.Nothing D.Nothing → PlansAs (unit_at s) c 0 r
  unit-atom s h i =
      let p : Plan = doing true W.Atom D.Arguments D.Shut D.Nothing D.Nothing in
      plans (unit_at s) c 0 p i
      (λ ss o sc.
      let (w, e) = lower-ahead ss (sym o ∙ h) in
      subst (λ (x : List Sign). unit_at s sc x ≡ planned p sc x) (sym e)
      (sym (provided-on (is_name w) (headed (octets "atom") ++ (Mark.string w ∷ [])) (λ ms. did ms (part.Due.arguments ∷ part.Due.shut ∷ []) sc (beyond true ss)))))
      (record { named = h; taken = λ _. omega arith; few = λ _. (tt, tt, tt, tt) })

  pub unit-truth : (s : part.Sort) → c ≡ 2 → PlansAs (λ sc ss. topped s sc (beyond true ss)) c 0 r → PlansAs (unit_at s) c 0 r
  unit-truth s h = likewise (unit_at s) c 0 (λ sc ss. topped s sc (beyond true ss)) (unit-by s c 2 h (omega arith) (omega arith))

  pub unit-opens : (s : Sort) → c ≡ 3 → r ≡ doing true W.Nothing (D.Formula s) D.Close D.Nothing D.Nothing → PlansAs (unit_at (sort_is s)) c 0 r
  unit-opens s h i =
      plans (unit_at (sort_is s)) c 0 (doing true W.Nothing (D.Formula s) D.Close D.Nothing D.Nothing) i (unit-by (sort_is s) c 3 h (omega arith) (omega arith))
      (record { named = tt; taken = λ _. omega arith; few = λ _. (tt, tt, tt, tt) })

  pub unit-every : (s : part.Sort) → c ≡ 10 → PlansAs (λ sc ss. quantified (quantifier_is true) s sc (beyond true ss)) c 0 r → PlansAs (unit_at s) c 0 r
  unit-every s h = likewise (unit_at s) c 0 (λ sc ss. quantified (quantifier_is true) s sc (beyond true ss)) (unit-by s c 10 h (omega arith) (omega arith))

  pub unit-exist : (s : part.Sort) → c ≡ 11 → PlansAs (λ sc ss. quantified (quantifier_is false) s sc (beyond true ss)) c 0 r → PlansAs (unit_at s) c 0 r
  unit-exist s h = likewise (unit_at s) c 0 (λ sc ss. quantified (quantifier_is false) s sc (beyond true ss)) (unit-by s c 11 h (omega arith) (omega arith))

module _ (s : part.Sort) (c : ℕ) (n0 : c ≡ 0 → ⊥) (n2 : c ≡ 2 → ⊥) (n3 : c ≡ 3 → ⊥) (n10 : c ≡ 10 → ⊥) (n11 : c ≡ 11 → ⊥) (sc : Scope) where
  no-unit : (ss : List Sign) → c ≡ code_ahead ss → unit_at s sc ss ≡ none
  no-unit [] o = refl
  no-unit (Sign.lower w ∷ ss) o = absurd (n0 o)
  no-unit (Sign.upper w ∷ ss) o = refl
  no-unit (Sign.truth ∷ ss) o = absurd (n2 o)
  no-unit (Sign.opens ∷ ss) o = absurd (n3 o)
  no-unit (Sign.closes ∷ ss) o = refl
  no-unit (Sign.lists ∷ ss) o = refl
  no-unit (Sign.ends ∷ ss) o = refl
  no-unit (Sign.comma ∷ ss) o = refl
  no-unit (Sign.colon ∷ ss) o = refl
  no-unit (Sign.dot ∷ ss) o = refl
  no-unit (Sign.every ∷ ss) o = absurd (n10 o)
  no-unit (Sign.exist ∷ ss) o = absurd (n11 o)
  no-unit (Sign.both ∷ ss) o = refl
  no-unit (Sign.either ∷ ss) o = refl
  no-unit (Sign.then ∷ ss) o = refl
  no-unit (Sign.other ∷ ss) o = refl

pub unit-out : (s : part.Sort) (c : ℕ) {r : Plan} → (c ≡ 0 → ⊥) → (c ≡ 2 → ⊥) → (c ≡ 3 → ⊥) → (c ≡ 10 → ⊥) → (c ≡ 11 → ⊥) → r ≡ refusal → PlansAs (unit_at s) c 0 r
unit-out s c n0 n2 n3 n10 n11 i = refuses (unit_at s) c 0 i (λ ss o sc. no-unit s c n0 n2 n3 n10 n11 sc ss o)

-- a variable of a list
module _ (q : part.Quantifier) (s : part.Sort) (c : ℕ) (n1 : c ≡ 1 → ⊥) (sc : Scope) where
  no-variable : (ss : List Sign) → c ≡ code_ahead ss → variable_at q s sc ss ≡ none
  no-variable [] o = refl
  no-variable (Sign.lower w ∷ ss) o = refl
  no-variable (Sign.upper w ∷ ss) o = absurd (n1 o)
  no-variable (Sign.truth ∷ ss) o = refl
  no-variable (Sign.opens ∷ ss) o = refl
  no-variable (Sign.closes ∷ ss) o = refl
  no-variable (Sign.lists ∷ ss) o = refl
  no-variable (Sign.ends ∷ ss) o = refl
  no-variable (Sign.comma ∷ ss) o = refl
  no-variable (Sign.colon ∷ ss) o = refl
  no-variable (Sign.dot ∷ ss) o = refl
  no-variable (Sign.every ∷ ss) o = refl
  no-variable (Sign.exist ∷ ss) o = refl
  no-variable (Sign.both ∷ ss) o = refl
  no-variable (Sign.either ∷ ss) o = refl
  no-variable (Sign.then ∷ ss) o = refl
  no-variable (Sign.other ∷ ss) o = refl

module _ (b : Bool) (s : Sort) (c : ℕ) {r : Plan} where
  pub variable-in : c ≡ 1 → r ≡ doing true (W.Binds b) (D.Behind b s) D.Leave D.Nothing D.Nothing → PlansAs (variable_at (quantifier_is b) (sort_is s)) c 0 r
  variable-in h i =
      let p : Plan = doing true (W.Binds b) (D.Behind b s) D.Leave D.Nothing D.Nothing in
      plans (variable_at (quantifier_is b) (sort_is s)) c 0 p i
      (λ ss o sc.
      let (w, e) = upper-ahead ss (sym o ∙ h) in
      subst (λ (x : List Sign). variable_at (quantifier_is b) (sort_is s) sc x ≡ planned p sc x) (sym e) refl)
      (record { named = (h, refl); taken = λ _. omega arith; few = λ _. (tt, tt, tt, tt) })

  pub variable-out : (c ≡ 1 → ⊥) → r ≡ refusal → PlansAs (variable_at (quantifier_is b) (sort_is s)) c 0 r
  variable-out n i = refuses (variable_at (quantifier_is b) (sort_is s)) c 0 i (λ ss o sc. no-variable (quantifier_is b) (sort_is s) c n sc ss o)

  -- and what stands behind it
  pub behind-comma : c ≡ 7 → r ≡ doing true W.Nothing (D.Variable b s) D.Nothing D.Nothing D.Nothing → PlansAs (behind_at (quantifier_is b) (sort_is s)) c 0 r
  behind-comma h i =
      plans (behind_at (quantifier_is b) (sort_is s)) c 0 (doing true W.Nothing (D.Variable b s) D.Nothing D.Nothing D.Nothing) i
      (λ ss o sc. ap (λ (x : Option (List Sign)). maybe x (taking_to 6 (part.Due.over (sort_is s) ∷ []) sc ss) λ y. did [] (part.Due.variable (quantifier_is b) (sort_is s) ∷ []) sc y) (take-hit 7 ss (sym o ∙ h) (omega arith)))
      (record { named = tt; taken = λ _. omega arith; few = λ _. (tt, tt, tt, tt) })

  pub behind-end : (c ≡ 7 → ⊥) → PlansAs (taking_to 6 (part.Due.over (sort_is s) ∷ [])) c 0 r → PlansAs (behind_at (quantifier_is b) (sort_is s)) c 0 r
  behind-end n =
      likewise (behind_at (quantifier_is b) (sort_is s)) c 0 (taking_to 6 (part.Due.over (sort_is s) ∷ []))
      (λ ss o sc. ap (λ (x : Option (List Sign)). maybe x (taking_to 6 (part.Due.over (sort_is s) ∷ []) sc ss) λ y. did [] (part.Due.variable (quantifier_is b) (sort_is s) ∷ []) sc y) (take-miss 7 ss (λ e. n (o ∙ e))))

-- arguments and terms
module _ (c : ℕ) (n0 : c ≡ 0 → ⊥) (n1 : c ≡ 1 → ⊥) (sc : Scope) where
  no-term : (ss : List Sign) → c ≡ code_ahead ss → term_at sc ss ≡ none
  no-term [] o = refl
  no-term (Sign.lower w ∷ ss) o = absurd (n0 o)
  no-term (Sign.upper w ∷ ss) o = absurd (n1 o)
  no-term (Sign.truth ∷ ss) o = refl
  no-term (Sign.opens ∷ ss) o = refl
  no-term (Sign.closes ∷ ss) o = refl
  no-term (Sign.lists ∷ ss) o = refl
  no-term (Sign.ends ∷ ss) o = refl
  no-term (Sign.comma ∷ ss) o = refl
  no-term (Sign.colon ∷ ss) o = refl
  no-term (Sign.dot ∷ ss) o = refl
  no-term (Sign.every ∷ ss) o = refl
  no-term (Sign.exist ∷ ss) o = refl
  no-term (Sign.both ∷ ss) o = refl
  no-term (Sign.either ∷ ss) o = refl
  no-term (Sign.then ∷ ss) o = refl
  no-term (Sign.other ∷ ss) o = refl

module _ (c : ℕ) {r : Plan} where
  pub arguments-in : c ≡ 3 → r ≡ doing true W.Nothing D.Term D.Terms D.Nothing D.Nothing → PlansAs arguments_at c 0 r
  arguments-in h i =
      plans arguments_at c 0 (doing true W.Nothing D.Term D.Terms D.Nothing D.Nothing) i
      (λ ss o sc. ap (λ (x : Option (List Sign)). maybe x (did [] [] sc ss) λ y. did [] (part.Due.term ∷ part.Due.terms ∷ []) sc y) (take-hit 3 ss (sym o ∙ h) (omega arith)))
      (record { named = tt; taken = λ _. omega arith; few = λ _. (tt, tt, tt, tt) })

  pub arguments-none : (c ≡ 3 → ⊥) → r ≡ doing false W.Nothing D.Nothing D.Nothing D.Nothing D.Nothing → PlansAs arguments_at c 0 r
  arguments-none n i =
      plans arguments_at c 0 (doing false W.Nothing D.Nothing D.Nothing D.Nothing D.Nothing) i
      (λ ss o sc. ap (λ (x : Option (List Sign)). maybe x (did [] [] sc ss) λ y. did [] (part.Due.term ∷ part.Due.terms ∷ []) sc y) (take-miss 3 ss (λ e. n (o ∙ e))))
      (record { named = tt; taken = λ t. absurd (false≢true t); few = λ _. (tt, tt, tt, tt) })

  pub terms-comma : c ≡ 7 → r ≡ doing true W.Nothing D.Term D.Terms D.Nothing D.Nothing → PlansAs terms_at c 0 r
  terms-comma h i =
      plans terms_at c 0 (doing true W.Nothing D.Term D.Terms D.Nothing D.Nothing) i
      (λ ss o sc. ap (λ (x : Option (List Sign)). maybe x (taking_to 4 [] sc ss) λ y. did [] (part.Due.term ∷ part.Due.terms ∷ []) sc y) (take-hit 7 ss (sym o ∙ h) (omega arith)))
      (record { named = tt; taken = λ _. omega arith; few = λ _. (tt, tt, tt, tt) })

  pub terms-close : (c ≡ 7 → ⊥) → PlansAs (taking_to 4 []) c 0 r → PlansAs terms_at c 0 r
  terms-close n =
      likewise terms_at c 0 (taking_to 4 [])
      (λ ss o sc. ap (λ (x : Option (List Sign)). maybe x (taking_to 4 [] sc ss) λ y. did [] (part.Due.term ∷ part.Due.terms ∷ []) sc y) (take-miss 7 ss (λ e. n (o ∙ e))))

  pub term-variable : c ≡ 1 → r ≡ doing true W.Variable D.Nothing D.Nothing D.Nothing D.Nothing → PlansAs term_at c 0 r
  term-variable h i =
      let p : Plan = doing true W.Variable D.Nothing D.Nothing D.Nothing D.Nothing in
      plans term_at c 0 p i
      (λ ss o sc.
      let (w, e) = upper-ahead ss (sym o ∙ h) in
      subst (λ (x : List Sign). term_at sc x ≡ planned p sc x) (sym e)
      (sym (made-on (number_of sc w) (λ j. headed (octets "v") ++ (Mark.string (decimal j) ∷ Mark.end ∷ [])) (λ ms. did ms [] sc (beyond true ss)))))
      (record { named = h; taken = λ _. omega arith; few = λ _. (tt, tt, tt, tt) })

  pub term-function : c ≡ 0 → r ≡ doing true W.Function D.Arguments D.Shut D.Nothing D.Nothing → PlansAs term_at c 0 r
  term-function h i =
      let p : Plan = doing true W.Function D.Arguments D.Shut D.Nothing D.Nothing in
      plans term_at c 0 p i
      (λ ss o sc.
      let (w, e) = lower-ahead ss (sym o ∙ h) in
      subst (λ (x : List Sign). term_at sc x ≡ planned p sc x) (sym e)
      (sym (provided-on (is_name w) (headed (octets "f") ++ (Mark.string w ∷ [])) (λ ms. did ms (part.Due.arguments ∷ part.Due.shut ∷ []) sc (beyond true ss)))))
      (record { named = h; taken = λ _. omega arith; few = λ _. (tt, tt, tt, tt) })

  pub term-out : (c ≡ 1 → ⊥) → (c ≡ 0 → ⊥) → r ≡ refusal → PlansAs term_at c 0 r
  term-out n1 n0 i = refuses term_at c 0 i (λ ss o sc. no-term c n0 n1 sc ss o)

-- the further members of a chain
link-low : (b : Bool) → link_code (link_is b) < 16
link-low true = omega arith
link-low false = omega arith

abbrev next_of : Bool → Sort → ℕ → List part.Due
next_of b s m = part.Due.unit (sort_is s) ∷ part.Due.shut ∷ part.Due.more (link_is b) (sort_is s) m ∷ []

pub more-none : (b : Bool) (s : Sort) (c k : ℕ) {r : Plan} → k ≡ 0 → r ≡ doing false W.Nothing D.Nothing D.Nothing D.Nothing D.Nothing → PlansAs (due_at (part.Due.more (link_is b) (sort_is s) k)) c k r
unfolding due_at
more-none b s c zero h i =
    plans (due_at (part.Due.more (link_is b) (sort_is s) zero)) c zero (doing false W.Nothing D.Nothing D.Nothing D.Nothing D.Nothing) i (λ ss o sc. refl)
    (record { named = tt; taken = λ t. absurd (false≢true t); few = λ _. (tt, tt, tt, tt) })
more-none b s c (suc m) h i = absurd (omega arith)

pub more-next : (b : Bool) (s : Sort) (c k w : ℕ) {r : Plan} → (k ≡ 0 → ⊥) → w ≡ link_code (link_is b) → ((n : ℕ) → w < 16 → FewBy n (D.Unit s) D.Shut (D.More b s (k - 1)) → PlansAs (taking_to w (next_of b s (k - 1))) c n r) → PlansAs (due_at (part.Due.more (link_is b) (sort_is s) k)) c k r
unfolding due_at
more-next b s c zero w z e h = absurd (z refl)
more-next b s c (suc m) w z e h =
    likewise (due_at (part.Due.more (link_is b) (sort_is s) (suc m))) c (suc m) (taking_to w (next_of b s (suc m - 1)))
    (λ ss o sc. ap (λ (x : ℕ). taking_to x (next_of b s m) sc ss) (sym e) ∙ ap (λ (j : ℕ). taking_to w (next_of b s j) sc ss) {x = m} {y = suc m - 1} (omega arith))
    (h (suc m) (omega (arith, e, link-low b)) (λ l. (tt, tt, omega arith)))

-- the plan for a due, from the plan for what it does
first-is : {x y : part.Due} → Path (List part.Due) (x ∷ []) (y ∷ []) → x ≡ y
first-is {x} {y} e = ap first_in e
  where
    first_in : List part.Due → part.Due
    first_in [] = x
    first_in (d ∷ ds) = d

abbrev Bare : List part.Due → Type 0
Bare [] = Unit {0}
Bare (x ∷ xs) = ⊥

module _ (t : List ℕ) (at c : ℕ) {d d' : Due ℕ} {p : Plan} (e : d ≡ d') where
  due-plan : (x : part.Due) (n : ℕ) → meant d' ≡ x ∷ [] → (Few d' → n < 16385) → PlansAs (due_at x) c n p → Plans t at d c p
  due-plan x n m f h = record {
    does = λ ss sg o y k sc. subst (λ (z : part.Due). due_at z sc ss ≡ planned p sc ss) (first-is (sym m ∙ (sym (ap meant e) ∙ k))) (h.does ss o sc);
    named = h.sane.named;
    taken = h.sane.taken;
    few = λ l g. h.sane.few (f (subst Few e g));
  }

module _ (t : List ℕ) (at c : ℕ) {d : Due ℕ} {p : Plan} where
  pub for-nothing : d ≡ D.Nothing → p ≡ refusal → Plans t at d c p
  for-nothing e i = record {
    does = λ ss sg o y k sc. absurd (subst Bare (sym (ap meant e) ∙ k) tt);
    named = h.sane.named;
    taken = h.sane.taken;
    few = λ l g. h.sane.few (omega arith);
  }
    where
      h : PlansAs (λ sc ss. none) c 0 p
      h = refuses (λ sc ss. none) c 0 i (λ ss o sc. refl)

  pub for-formula : {s : Sort} (a : Chain) → d ≡ D.Formula s → Chains t at a → ((n : ℕ) → PlansAs (by_chain (sort_is s) (chain_is a.first a.number)) n a.number p) → Plans t at d c p
  unfolding due_at
  for-formula {s} a e g h = record {
    does = λ ss sg o y k sc.
        subst (λ (z : part.Due). due_at z sc ss ≡ planned p sc ss) (first-is (sym (ap meant e) ∙ k))
        (ap (λ (z : part.Chain). by_chain (sort_is s) z sc ss) (sym (g.is ss sg)) ∙ (h c).does ss o sc);
    named = (h c).sane.named;
    taken = (h c).sane.taken;
    few = λ l f. (h c).sane.few (omega (arith, g.few));
  }

  pub for-unit : {s : Sort} → d ≡ D.Unit s → PlansAs (unit_at (sort_is s)) c 0 p → Plans t at d c p
  unfolding due_at
  for-unit {s} e h = due-plan t at c e (part.Due.unit (sort_is s)) 0 refl (λ _. omega arith) h

  pub for-more : {b : Bool} {s : Sort} {n : ℕ} → d ≡ D.More b s n → PlansAs (due_at (part.Due.more (link_is b) (sort_is s) n)) c n p → Plans t at d c p
  for-more {b} {s} {n} e h = due-plan t at c e (part.Due.more (link_is b) (sort_is s) n) n refl (λ f. f) h

  pub for-arrow : d ≡ D.Arrow → PlansAs (taking_to 14 []) c 0 p → Plans t at d c p
  unfolding due_at
  for-arrow e h = due-plan t at c e part.Due.arrow 0 refl (λ _. omega arith) h

  pub for-close : d ≡ D.Close → PlansAs (taking_to 4 []) c 0 p → Plans t at d c p
  unfolding due_at
  for-close e h = due-plan t at c e part.Due.close 0 refl (λ _. omega arith) h

  pub for-list : {b : Bool} {s : Sort} → d ≡ D.List b s → PlansAs (taking_to 5 (part.Due.variable (quantifier_is b) (sort_is s) ∷ [])) c 0 p → Plans t at d c p
  unfolding due_at
  for-list {b} {s} e h = due-plan t at c e (part.Due.list (quantifier_is b) (sort_is s)) 0 refl (λ _. omega arith) h

  pub for-variable : {b : Bool} {s : Sort} → d ≡ D.Variable b s → PlansAs (variable_at (quantifier_is b) (sort_is s)) c 0 p → Plans t at d c p
  unfolding due_at
  for-variable {b} {s} e h = due-plan t at c e (part.Due.variable (quantifier_is b) (sort_is s)) 0 refl (λ _. omega arith) h

  pub for-behind : {b : Bool} {s : Sort} → d ≡ D.Behind b s → PlansAs (behind_at (quantifier_is b) (sort_is s)) c 0 p → Plans t at d c p
  unfolding due_at
  for-behind {b} {s} e h = due-plan t at c e (part.Due.behind (quantifier_is b) (sort_is s)) 0 refl (λ _. omega arith) h

  pub for-over : {s : Sort} → d ≡ D.Over s → PlansAs (taking_to 8 (part.Due.unit (sort_is s) ∷ [])) c 0 p → Plans t at d c p
  unfolding due_at
  for-over {s} e h = due-plan t at c e (part.Due.over (sort_is s)) 0 refl (λ _. omega arith) h

  pub for-arguments : d ≡ D.Arguments → PlansAs arguments_at c 0 p → Plans t at d c p
  unfolding due_at
  for-arguments e h = due-plan t at c e part.Due.arguments 0 refl (λ _. omega arith) h

  pub for-term : d ≡ D.Term → PlansAs term_at c 0 p → Plans t at d c p
  unfolding due_at
  for-term e h = due-plan t at c e part.Due.term 0 refl (λ _. omega arith) h

  pub for-terms : d ≡ D.Terms → PlansAs terms_at c 0 p → Plans t at d c p
  unfolding due_at
  for-terms e h = due-plan t at c e part.Due.terms 0 refl (λ _. omega arith) h

  pub for-shut : d ≡ D.Shut → p ≡ doing false W.End D.Nothing D.Nothing D.Nothing D.Nothing → Plans t at d c p
  unfolding due_at
  for-shut e i =
      due-plan t at c e part.Due.shut 0 refl (λ _. omega arith)
      (plans (due_at part.Due.shut) c 0 (doing false W.End D.Nothing D.Nothing D.Nothing D.Nothing) i (λ ss o sc. refl)
      (record { named = tt; taken = λ k. absurd (false≢true k); few = λ _. (tt, tt, tt, tt) }))

  pub for-leave : d ≡ D.Leave → p ≡ doing false W.Leaves D.Nothing D.Nothing D.Nothing D.Nothing → Plans t at d c p
  unfolding due_at
  for-leave e i =
      due-plan t at c e part.Due.leave 0 refl (λ _. omega arith)
      (plans (due_at part.Due.leave) c 0 (doing false W.Leaves D.Nothing D.Nothing D.Nothing D.Nothing) i (λ ss o sc. refl)
      (record { named = tt; taken = λ k. absurd (false≢true k); few = λ _. (tt, tt, tt, tt) }))
