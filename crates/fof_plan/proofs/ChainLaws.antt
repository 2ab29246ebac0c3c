-- The connectives of the formula ahead, sign by sign: what was passed and what is ahead are together what stands at the offset.
use Prim.Native.Nat.{ℕ, zero, suc, ◌+◌, ◌-◌, ◌<◌, ◌≤◌}
use mathlib.Core.Path.{◌≡◌, refl, sym, ◌∙◌, ap, subst}
use mathlib.Core.Bool.{Bool, true, false, ◌&&◌, ◌||◌, false≢true}
use mathlib.Core.List.{List, [], ◌∷◌}
use mathlib.Core.Option.{some}
use native.Mathlib.Omega.{arith}
use lib.Dec.{eqb}
use lib.ListN.{length}
use borrow.Author.Tests.{eq-eqb, ne_eqb, eqb-true}
use Rattle.basics.specs.Choice.{choose, both_true}
use Rattle.fof_part.specs.Sign.{Sign, code, comma_code, both_code, either_code}
use Rattle.fof_part.specs.Due as part
use Rattle.fof_part.specs.Due.{Link, number_in, chain}
use Rattle.fof_pass.specs.declared.ahead.Ahead.{Ahead}
use Rattle.fof_plan.specs.declared.chain.First.{First}
use Rattle.fof_plan.specs.declared.chain.First.TheVariants as F
use Rattle.fof_plan.specs.declared.chain.Seen.{Seen}
use Rattle.fof_pass.specs.Codes.{code_is}
use Rattle.fof_pass.specs.Ahead.{signs_at, SeesAll, Aheads}
use Rattle.fof_plan.specs.Chained.{chain_is, Chains, opening, shutting, connecting, ended, first_of, noted, Counted, plenty, OneMore, Passes}

-- a test of one of several numbers
pub or-hit : (k n : ℕ) (b : Bool) → k ≡ n → true ≡ eqb k n || b
or-hit k n b e = sym (ap (λ (x : Bool). x || b) (eq-eqb k n e))

pub or-first : (k n : ℕ) (b : Bool) → k ≡ n → eqb k n ≡ eqb k n || b
or-first k n b e = eq-eqb k n e ∙ or-hit k n b e

pub or-miss : (k n : ℕ) (b : Bool) → (k ≡ n → ⊥) → b ≡ eqb k n || b
or-miss k n b e = sym (ap (λ (x : Bool). x || b) (ne_eqb k n e))

-- where the formula ends
pub ends-shut : (d k : ℕ) {b : Bool} → d ≡ 0 → b ≡ shutting k → b ≡ true → b ≡ ended d k
ends-shut d k e f g = g ∙ sym (ap (λ (x : Bool). x && (shutting k || eqb k comma_code)) (eq-eqb d 0 e) ∙ ap (λ (x : Bool). x || eqb k comma_code) (sym f ∙ g))

pub ends-comma : (d k : ℕ) {b : Bool} → d ≡ 0 → b ≡ shutting k → b ≡ false → eqb k 7 ≡ ended d k
ends-comma d k e f g = sym (ap (λ (x : Bool). x && (shutting k || eqb k comma_code)) (eq-eqb d 0 e) ∙ ap (λ (x : Bool). x || eqb k comma_code) (sym f ∙ g))

pub ends-not : (d k : ℕ) → (d ≡ 0 → ⊥) → false ≡ ended d k
ends-not d k n = sym (ap (λ (x : Bool). x && (shutting k || eqb k comma_code)) (ne_eqb d 0 n))

-- the first connective
pub first-both : (f : First) (k : ℕ) → f ≡ F.Lone → k ≡ 12 → F.Conj ≡ first_of f k
first-both f k e h = sym (ap (λ (x : First). first_of x k) e ∙ ap (λ (b : Bool). choose b F.Conj (choose (eqb k either_code) F.Disj F.Implied)) (eq-eqb k 12 h))

pub first_either : (f : First) (k : ℕ) → f ≡ F.Lone → (k ≡ 12 → ⊥) → k ≡ 13 → F.Disj ≡ first_of f k
first_either f k e n h =
    sym (ap (λ (x : First). first_of x k) e
    ∙ ap (λ (b : Bool). choose b F.Conj (choose (eqb k either_code) F.Disj F.Implied)) (ne_eqb k 12 n)
    ∙ ap (λ (b : Bool). choose b F.Disj F.Implied) (eq-eqb k 13 h))

pub first_then : (f : First) (k : ℕ) → f ≡ F.Lone → (k ≡ 12 → ⊥) → (k ≡ 13 → ⊥) → F.Implied ≡ first_of f k
first_then f k e n m =
    sym (ap (λ (x : First). first_of x k) e
    ∙ ap (λ (b : Bool). choose b F.Conj (choose (eqb k either_code) F.Disj F.Implied)) (ne_eqb k 12 n)
    ∙ ap (λ (b : Bool). choose b F.Disj F.Implied) (ne_eqb k 13 m))

link-counted : (f : First) (k m n : ℕ) → Counted f n → Counted (first_of f k) m
link-counted F.Lone k m n h = go (eqb k both_code) (eqb k either_code)
  where
    go : (a b : Bool) → Counted (choose a F.Conj (choose b F.Disj F.Implied)) m
    go true b = tt
    go false true = tt
    go false false = tt
link-counted F.Conj k m n h = tt
link-counted F.Disj k m n h = tt
link-counted F.Implied k m n h = tt

-- how `chain` goes over a sign: one that opens a bracket
at_open : (d : ℕ) (ss : List Sign) (s : Sign) → opening (code s) ≡ true → chain d (s ∷ ss) ≡ chain (d + 1) ss
at_open d ss (Sign.lower w) h = absurd (false≢true h)
at_open d ss (Sign.upper w) h = absurd (false≢true h)
at_open d ss Sign.truth h = absurd (false≢true h)
at_open d ss Sign.opens h = ap (λ (n : ℕ). chain n ss) {x = suc d} {y = d + 1} (omega arith)
at_open d ss Sign.closes h = absurd (false≢true h)
at_open d ss Sign.lists h = ap (λ (n : ℕ). chain n ss) {x = suc d} {y = d + 1} (omega arith)
at_open d ss Sign.ends h = absurd (false≢true h)
at_open d ss Sign.comma h = absurd (false≢true h)
at_open d ss Sign.colon h = absurd (false≢true h)
at_open d ss Sign.dot h = absurd (false≢true h)
at_open d ss Sign.every h = absurd (false≢true h)
at_open d ss Sign.exist h = absurd (false≢true h)
at_open d ss Sign.both h = absurd (false≢true h)
at_open d ss Sign.either h = absurd (false≢true h)
at_open d ss Sign.then h = absurd (false≢true h)
at_open d ss Sign.other h = absurd (false≢true h)

-- one that shuts a bracket of the formula
at-shut : (d : ℕ) (ss : List Sign) (s : Sign) → (d ≡ 0 → ⊥) → shutting (code s) ≡ true → chain d (s ∷ ss) ≡ chain (d - 1) ss
at-shut zero ss s n h = absurd (n refl)
at-shut (suc d) ss s n h = shut s h ∙ ap (λ (n : ℕ). chain n ss) {x = d} {y = suc d - 1} (omega arith)
  where
    shut : (s : Sign) → shutting (code s) ≡ true → chain (suc d) (s ∷ ss) ≡ chain d ss
    shut (Sign.lower w) h = absurd (false≢true h)
    shut (Sign.upper w) h = absurd (false≢true h)
    shut Sign.truth h = absurd (false≢true h)
    shut Sign.opens h = absurd (false≢true h)
    shut Sign.closes h = refl
    shut Sign.lists h = absurd (false≢true h)
    shut Sign.ends h = refl
    shut Sign.comma h = absurd (false≢true h)
    shut Sign.colon h = absurd (false≢true h)
    shut Sign.dot h = absurd (false≢true h)
    shut Sign.every h = absurd (false≢true h)
    shut Sign.exist h = absurd (false≢true h)
    shut Sign.both h = absurd (false≢true h)
    shut Sign.either h = absurd (false≢true h)
    shut Sign.then h = absurd (false≢true h)
    shut Sign.other h = absurd (false≢true h)

-- any other inside brackets
at-inside : (d : ℕ) (ss : List Sign) (s : Sign) → (d ≡ 0 → ⊥) → opening (code s) ≡ false → shutting (code s) ≡ false → chain d (s ∷ ss) ≡ chain d ss
at-inside zero ss s n h g = absurd (n refl)
at-inside (suc d) ss s n h g = inside s h g
  where
    inside : (s : Sign) → opening (code s) ≡ false → shutting (code s) ≡ false → chain (suc d) (s ∷ ss) ≡ chain (suc d) ss
    inside (Sign.lower w) h g = refl
    inside (Sign.upper w) h g = refl
    inside Sign.truth h g = refl
    inside Sign.opens h g = absurd (false≢true (sym h))
    inside Sign.closes h g = absurd (false≢true (sym g))
    inside Sign.lists h g = absurd (false≢true (sym h))
    inside Sign.ends h g = absurd (false≢true (sym g))
    inside Sign.comma h g = refl
    inside Sign.colon h g = refl
    inside Sign.dot h g = refl
    inside Sign.every h g = refl
    inside Sign.exist h g = refl
    inside Sign.both h g = refl
    inside Sign.either h g = refl
    inside Sign.then h g = refl
    inside Sign.other h g = refl

-- any outside brackets that is no connective
at_plain : (ss : List Sign) (s : Sign) → opening (code s) ≡ false → connecting (code s) ≡ false → ended 0 (code s) ≡ false → chain 0 (s ∷ ss) ≡ chain 0 ss
at_plain ss (Sign.lower w) h g e = refl
at_plain ss (Sign.upper w) h g e = refl
at_plain ss Sign.truth h g e = refl
at_plain ss Sign.opens h g e = absurd (false≢true (sym h))
at_plain ss Sign.closes h g e = absurd (false≢true (sym e))
at_plain ss Sign.lists h g e = absurd (false≢true (sym h))
at_plain ss Sign.ends h g e = absurd (false≢true (sym e))
at_plain ss Sign.comma h g e = absurd (false≢true (sym e))
at_plain ss Sign.colon h g e = refl
at_plain ss Sign.dot h g e = refl
at_plain ss Sign.every h g e = refl
at_plain ss Sign.exist h g e = refl
at_plain ss Sign.both h g e = absurd (false≢true (sym g))
at_plain ss Sign.either h g e = absurd (false≢true (sym g))
at_plain ss Sign.then h g e = absurd (false≢true (sym g))
at_plain ss Sign.other h g e = refl

-- the formula ends before the sign
at-end : (ss : List Sign) (s : Sign) → ended 0 (code s) ≡ true → chain 0 (s ∷ ss) ≡ part.Chain.lone
at-end ss (Sign.lower w) h = absurd (false≢true h)
at-end ss (Sign.upper w) h = absurd (false≢true h)
at-end ss Sign.truth h = absurd (false≢true h)
at-end ss Sign.opens h = absurd (false≢true h)
at-end ss Sign.closes h = refl
at-end ss Sign.lists h = absurd (false≢true h)
at-end ss Sign.ends h = refl
at-end ss Sign.comma h = refl
at-end ss Sign.colon h = absurd (false≢true h)
at-end ss Sign.dot h = absurd (false≢true h)
at-end ss Sign.every h = absurd (false≢true h)
at-end ss Sign.exist h = absurd (false≢true h)
at-end ss Sign.both h = absurd (false≢true h)
at-end ss Sign.either h = absurd (false≢true h)
at-end ss Sign.then h = absurd (false≢true h)
at-end ss Sign.other h = absurd (false≢true h)

-- a connective: it is counted, and it is the first if none was
count-first : (l : ℕ → part.Chain) (n m : ℕ) → n ≡ 0 → l (suc m) ≡ l (n + 1 + m)
count-first l n m e = ap l {x = suc m} {y = n + 1 + m} (omega arith)

count-more : (l : ℕ → part.Chain) (n m : ℕ) → l (n + suc m) ≡ l (n + 1 + m)
count-more l n m = ap l {x = n + suc m} {y = n + 1 + m} (omega arith)

at-link : (f : First) (n : ℕ) (ss : List Sign) (s : Sign) → Counted f n → connecting (code s) ≡ true → noted f n (chain 0 (s ∷ ss)) ≡ noted (first_of f (code s)) (n + 1) (chain 0 ss)
at-link f n ss (Sign.lower w) c h = absurd (false≢true h)
at-link f n ss (Sign.upper w) c h = absurd (false≢true h)
at-link f n ss Sign.truth c h = absurd (false≢true h)
at-link f n ss Sign.opens c h = absurd (false≢true h)
at-link f n ss Sign.closes c h = absurd (false≢true h)
at-link f n ss Sign.lists c h = absurd (false≢true h)
at-link f n ss Sign.ends c h = absurd (false≢true h)
at-link f n ss Sign.comma c h = absurd (false≢true h)
at-link f n ss Sign.colon c h = absurd (false≢true h)
at-link f n ss Sign.dot c h = absurd (false≢true h)
at-link f n ss Sign.every c h = absurd (false≢true h)
at-link f n ss Sign.exist c h = absurd (false≢true h)
at-link F.Lone n ss Sign.both c h = count-first (part.Chain.linked Link.conj) n (number_in (chain 0 ss)) c
at-link F.Conj n ss Sign.both c h = count-more (part.Chain.linked Link.conj) n (number_in (chain 0 ss))
at-link F.Disj n ss Sign.both c h = count-more (part.Chain.linked Link.disj) n (number_in (chain 0 ss))
at-link F.Implied n ss Sign.both c h = count-more part.Chain.implied n (number_in (chain 0 ss))
at-link F.Lone n ss Sign.either c h = count-first (part.Chain.linked Link.disj) n (number_in (chain 0 ss)) c
at-link F.Conj n ss Sign.either c h = count-more (part.Chain.linked Link.conj) n (number_in (chain 0 ss))
at-link F.Disj n ss Sign.either c h = count-more (part.Chain.linked Link.disj) n (number_in (chain 0 ss))
at-link F.Implied n ss Sign.either c h = count-more part.Chain.implied n (number_in (chain 0 ss))
at-link F.Lone n ss Sign.then c h = count-first part.Chain.implied n (number_in (chain 0 ss)) c
at-link F.Conj n ss Sign.then c h = count-more (part.Chain.linked Link.conj) n (number_in (chain 0 ss))
at-link F.Disj n ss Sign.then c h = count-more (part.Chain.linked Link.disj) n (number_in (chain 0 ss))
at-link F.Implied n ss Sign.then c h = count-more part.Chain.implied n (number_in (chain 0 ss))
at-link f n ss Sign.other c h = absurd (false≢true h)

-- what one sign more comes to
module _ (k d : ℕ) (f : First) (n : ℕ) where
  pub pass-open : {b : Bool} {m : ℕ} → b ≡ opening k → b ≡ true → OneMore d m → Passes k d f n (record { depth = m; first = f; number = n })
  pass-open {b} {m} e h o = record {
    is = λ l _ _ _ s ss q. ap (noted f n) (at_open d ss s (sym (ap opening q) ∙ sym e ∙ h) ∙ ap (λ (x : ℕ). chain x ss) (sym (o.is l)));
    counted = λ z. z;
    deep = o.most;
    many = omega arith;
  }

  pub pass-link : {b : Bool} {g : First} {m : ℕ} → d ≡ 0 → b ≡ connecting k → b ≡ true → g ≡ first_of f k → OneMore n m → Passes k d f n (record { depth = d; first = g; number = m })
  pass-link {b} {g} {m} z e h r o = record {
    is = λ _ l c _ s ss q.
        ap (λ (x : ℕ). noted f n (chain x (s ∷ ss))) z
        ∙ at-link f n ss s c (sym (ap connecting q) ∙ sym e ∙ h)
        ∙ ap (λ (x : ℕ). noted (first_of f x) (n + 1) (chain 0 ss)) (sym q)
        ∙ ap (λ (x : First). noted x (n + 1) (chain 0 ss)) (sym r)
        ∙ ap (λ (x : ℕ). noted g x (chain 0 ss)) (sym (o.is l))
        ∙ ap (λ (x : ℕ). noted g m (chain x ss)) (sym z);
    counted = λ c. subst (λ (x : First). Counted x m) (sym r) (link-counted f k m n c);
    deep = omega arith;
    many = o.most;
  }

  pub pass-plain : {a b : Bool} → a ≡ opening k → a ≡ false → d ≡ 0 → b ≡ connecting k → b ≡ false → Passes k d f n (record { depth = d; first = f; number = n })
  pass-plain {a} {b} e h z e' h' = record {
    is = λ _ _ _ w s ss q.
        ap (λ (x : ℕ). noted f n (chain x (s ∷ ss))) z
        ∙ ap (noted f n) (at_plain ss s (sym (ap opening q) ∙ sym e ∙ h) (sym (ap connecting q) ∙ sym e' ∙ h') (sym (ap (ended 0) q) ∙ ap (λ (x : ℕ). ended x k) (sym z) ∙ w))
        ∙ ap (λ (x : ℕ). noted f n (chain x ss)) (sym z);
    counted = λ c. c;
    deep = omega arith;
    many = omega arith;
  }

  pub pass-shut : {a : Bool} → (d ≡ 0 → ⊥) → a ≡ shutting k → a ≡ true → Passes k d f n (record { depth = d - 1; first = f; number = n })
  pass-shut {a} z e h = record {
    is = λ _ _ _ _ s ss q. ap (noted f n) (at-shut d ss s z (sym (ap shutting q) ∙ sym e ∙ h));
    counted = λ c. c;
    deep = omega arith;
    many = omega arith;
  }

  pub pass-inside : {a b : Bool} → a ≡ opening k → a ≡ false → (d ≡ 0 → ⊥) → b ≡ shutting k → b ≡ false → Passes k d f n (record { depth = d; first = f; number = n })
  pass-inside {a} {b} e h z e' h' = record {
    is = λ _ _ _ _ s ss q. ap (noted f n) (at-inside d ss s z (sym (ap opening q) ∙ sym e ∙ h) (sym (ap shutting q) ∙ sym e' ∙ h'));
    counted = λ c. c;
    deep = omega arith;
    many = omega arith;
  }

-- the signs from an offset on are passed as far as another: what was passed and what is ahead of that
pub record Passing (t : List ℕ) (at i d : ℕ) (f : First) (n : ℕ) : Type 0 where
  pub is : (ss : List Sign) → signs_at t at ≡ some ss → (rest : List Sign) × (signs_at t i ≡ some rest) × (chain 0 ss ≡ noted f n (chain d rest))
  pub counted : Counted f n
  pub deep : d + at ≤ i
  pub many : n + at ≤ i
  pub few : n ≤ length t

pub passing-none : (t : List ℕ) (at : ℕ) → Passing t at at 0 F.Lone 0
passing-none t at = record {
  is = λ ss e. (ss, e, refl);
  counted = refl;
  deep = omega arith;
  many = omega arith;
  few = omega arith;
}

-- nothing is ahead that counts
none_more : (f : First) (n : ℕ) → chain_is f n ≡ noted f n part.Chain.lone
none_more F.Lone n = refl
none_more F.Conj n = ap (part.Chain.linked Link.conj) {x = n} {y = n + 0} (omega arith)
none_more F.Disj n = ap (part.Chain.linked Link.disj) {x = n} {y = n + 0} (omega arith)
none_more F.Implied n = ap part.Chain.implied {x = n} {y = n + 0} (omega arith)

code_below : (s : Sign) → code s < 16
code_below (Sign.lower w) = omega arith
code_below (Sign.upper w) = omega arith
code_below Sign.truth = omega arith
code_below Sign.opens = omega arith
code_below Sign.closes = omega arith
code_below Sign.lists = omega arith
code_below Sign.ends = omega arith
code_below Sign.comma = omega arith
code_below Sign.colon = omega arith
code_below Sign.dot = omega arith
code_below Sign.every = omega arith
code_below Sign.exist = omega arith
code_below Sign.both = omega arith
code_below Sign.either = omega arith
code_below Sign.then = omega arith
code_below Sign.other = omega arith

module _ (t : List ℕ) (at i d : ℕ) (f : First) (n : ℕ) (p : Passing t at i d f n) (a : Ahead) (see : Aheads t i a) where
  pub passing-over : 16 ≤ (code_is a.sign) → Chains t at (record { first = f; number = n })
  passing-over l = record {
    is = λ ss e. let (rest, h, q) = p.is ss e in none_more f n ∙ sym (q ∙ go rest (see.seen rest h));
    few = p.few;
  }
    where
      go : (rest : List Sign) → SeesAll t a rest → noted f n (chain d rest) ≡ noted f n part.Chain.lone
      go [] z = refl
      go (s ∷ rest) z = absurd (omega (arith, z.number, code_below s))

  pub passing-stops : {b : Bool} → b ≡ ended d (code_is a.sign) → b ≡ true → Chains t at (record { first = f; number = n })
  passing-stops g g' = record {
    is = λ ss e. let (rest, h, q) = p.is ss e in none_more f n ∙ sym (q ∙ go rest (see.seen rest h));
    few = p.few;
  }
    where
      go : (rest : List Sign) → SeesAll t a rest → noted f n (chain d rest) ≡ noted f n part.Chain.lone
      go [] z = refl
      go (s ∷ rest) z =
          let o = eqb-true d 0 (both_true (eqb d 0) (shutting (code_is a.sign) || eqb (code_is a.sign) comma_code) (sym g ∙ g')).0 in
          ap (λ (x : ℕ). noted f n (chain x (s ∷ rest))) o
          ∙ ap (noted f n) (at-end rest s (sym (ap (ended 0) z.number) ∙ ap (λ (x : ℕ). ended x (code_is a.sign)) (sym o) ∙ sym g ∙ g'))

  pub passing-next : {b : Bool} {x : Seen} → length t < plenty → (code_is a.sign) < 16 → b ≡ ended d (code_is a.sign) → b ≡ false → Passes (code_is a.sign) d f n x → Passing t at a.end x.depth x.first x.number
  passing-next {b} {x} big l g g' w = record {
    is = λ ss e. let (rest, h, q) = p.is ss e in go ss rest q (see.seen rest h);
    counted = w.counted p.counted;
    deep = omega (arith, w.deep, p.deep, (see.further l).0);
    many = omega (arith, w.many, p.many, (see.further l).0);
    few = omega (arith, w.many, p.many, (see.further l).0, (see.further l).1);
  }
    where
      go : (ss rest : List Sign) → chain 0 ss ≡ noted f n (chain d rest) → SeesAll t a rest → (r : List Sign) × (signs_at t a.end ≡ some r) × (chain 0 ss ≡ noted x.first x.number (chain x.depth r))
      go ss [] q z = absurd (omega arith)
      go ss (s ∷ rest) q z =
          let u : d < plenty = omega (arith, p.deep, (see.further l).0, (see.further l).1) in
          let v : n < plenty = omega (arith, p.many, (see.further l).0, (see.further l).1) in
          (rest, z.rest, q ∙ w.is u v p.counted (sym g ∙ g') s rest z.number)
