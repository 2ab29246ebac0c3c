-- Chains: each of those that have numbers is put in front of its chain, the last one first, and then none is left out; and chains are right while their words stay (document 02, Three).
use Prim.Native.Nat.{ℕ, ◌+◌, ◌≤◌, ◌<◌}
use mathlib.Core.Path.{◌≡◌, refl, sym, ◌∙◌, ap, subst}
use mathlib.Core.Bool.{Bool, true, false}
use mathlib.Core.List.{List}
use native.Mathlib.Omega.{arith}
use lib.Dec.{eqb}
use lib.ListN.{length, get_or, set, length-set}
use lib.Seq.{get_or-set_same, get_or-set_other}
use borrow.Author.Tests.{eqb-true, eqb-false}
use Rattle.keys.specs.Chains.{chain_of, number_at, chain_at, link_at, first_at, chain_words, Chained, Within, ClearedTo, LinkedFrom, ChainsCleared, ChainsLinked, ChainsFilled}

-- one word more, between two
pub within_none : (before : List ℕ) (from to : ℕ) → Within before before from to
within_none before from to = record { long = refl; below = λ j l. refl; above = λ j l. refl }

pub within_more : (before now : List ℕ) (from to i w : ℕ) → Within before now from to → from ≤ i → i < to → Within before (set now i w) from to
within_more before now from to i w H l m = record {
  long = length-set now i w ∙ H.long;
  below = λ j k. get_or-set_other now i j w 0 (omega arith) ∙ H.below j k;
  above = λ j k. get_or-set_other now i j w 0 (omega arith) ∙ H.above j k;
}

pub chain-small : (x : ℕ) → chain_of x < 128
unfolding chain_of
chain-small x = omega arith

-- no chain has one
pub cleared-none : (ls : ℕ) (before : List ℕ) → ClearedTo ls before before 0
cleared-none ls before = record { within = within_none before (ls + 256) (ls + chain_words); none = λ l c m. absurd (omega arith) }

pub cleared_more : (ls : ℕ) (before : List ℕ) {now after : List ℕ} {b : ℕ} → ClearedTo ls before now b → b < 128 → after ≡ set now (ls + 256 + b) 256 → ClearedTo ls before after (b + 1)
cleared_more ls before {now} {after} {b} H l e = subst (λ (r : List ℕ). ClearedTo ls before r (b + 1)) (sym e) (record {
  within = within_more before now (ls + 256) (ls + chain_words) (ls + 256 + b) 256 H.within (omega arith) (omega (arith, l));
  none = none;
})
  where
    none : ls + chain_words ≤ length before → (c : ℕ) → c < b + 1 → first_at ls (set now (ls + 256 + b) 256) c ≡ 256
    none r c m = by (eqb c b) refl
      where
        by : (z : Bool) → eqb c b ≡ z → first_at ls (set now (ls + 256 + b) 256) c ≡ 256
        by true z = ap (λ (i : ℕ). first_at ls (set now (ls + 256 + b) 256) i) (eqb-true c b z) ∙ get_or-set_same now (ls + 256 + b) 256 0 (omega (arith, H.within.long, l, r))
        by false z = let y = eqb-false c b z in get_or-set_other now (ls + 256 + b) (ls + 256 + c) 256 0 (omega arith) ∙ H.none r c (omega arith)

-- chains without any
pub chained-none : (ns ls : ℕ) (room : List ℕ) (n : ℕ) → n ≤ 256 → ((b : ℕ) → b < 128 → first_at ls room b ≡ 256) → Chained ns ls room n n
chained-none ns ls room n l e = record {
  ahead = λ i a b. absurd (omega arith);
  linked = λ i j a b c d. absurd (omega arith);
  alike = λ i a b c. absurd (omega arith);
  first = λ j a b. absurd (omega arith);
  starts = λ b a c. absurd (omega (arith, e b a));
  since = λ b a. omega (arith, e b a);
}

-- one put in front of its chain: every other word is as it was
record Entered (ns ls : ℕ) (now after : List ℕ) (k : ℕ) : Type 0 where
  numbers : (i : ℕ) → i < 256 → chain_at ns after i ≡ chain_at ns now i
  links : (i : ℕ) → i < 256 → (i ≡ k → ⊥) → link_at ls after i ≡ link_at ls now i
  link : link_at ls after k ≡ first_at ls now (chain_at ns now k)
  firsts : (c : ℕ) → c < 128 → (c ≡ chain_at ns now k → ⊥) → first_at ls after c ≡ first_at ls now c
  front : first_at ls after (chain_at ns now k) ≡ k

module _ {ns ls : ℕ} {now after : List ℕ} {k n : ℕ} (l : k < n) (m : n ≤ 256) (E : Entered ns ls now after k) (H : Chained ns ls now (k + 1) n) where
  small : chain_at ns now k < 128
  small = chain-small (number_at ns now k)

  ahead_more : (i : ℕ) → k ≤ i → i < n → i < link_at ls after i
  ahead_more i a b = by (eqb i k) refl
    where
      by : (z : Bool) → eqb i k ≡ z → i < link_at ls after i
      by true z =
          let ik = eqb-true i k z in
          let e = ap (λ (j : ℕ). link_at ls after j) ik in
          omega (arith, ik, e, E.link, H.since (chain_at ns now k) small)
      by false z = let y = eqb-false i k z in omega (arith, E.links i (omega (arith, b, m)) y, H.ahead i (omega arith) b)

  linked-more : (i j : ℕ) → k ≤ i → i < j → j < n → chain_at ns after j ≡ chain_at ns after i → link_at ls after i ≤ j
  linked-more i j a b c d = by (eqb i k) refl
    where
      alike : chain_at ns now j ≡ chain_at ns now i
      alike = sym (E.numbers j (omega (arith, c, m))) ∙ d ∙ E.numbers i (omega (arith, b, c, m))

      by : (z : Bool) → eqb i k ≡ z → link_at ls after i ≤ j
      by true z =
          let ik = eqb-true i k z in
          let e = ap (λ (j : ℕ). link_at ls after j) ik in
          let g = ap (λ (b : ℕ). first_at ls now b) (alike ∙ ap (λ (j : ℕ). chain_at ns now j) ik) in
          omega (arith, e, E.link, g, H.first j (omega (arith, ik, b)) c)
      by false z = let y = eqb-false i k z in omega (arith, E.links i (omega (arith, b, c, m)) y, H.linked i j (omega arith) b c alike)

  alike-more : (i : ℕ) → k ≤ i → i < n → link_at ls after i < n → chain_at ns after (link_at ls after i) ≡ chain_at ns after i
  alike-more i a b c = E.numbers (link_at ls after i) (omega (arith, c, m)) ∙ by (eqb i k) refl ∙ sym (E.numbers i (omega (arith, b, m)))
    where
      by : (z : Bool) → eqb i k ≡ z → chain_at ns now (link_at ls after i) ≡ chain_at ns now i
      by true z =
          let ik = eqb-true i k z in
          let e = ap (λ (j : ℕ). link_at ls after j) ik ∙ E.link in
          ap (λ (j : ℕ). chain_at ns now j) e ∙ H.starts (chain_at ns now k) small (omega (arith, e, c)) ∙ ap (λ (j : ℕ). chain_at ns now j) (sym ik)
      by false z =
          let y = eqb-false i k z in
          let e = E.links i (omega (arith, b, m)) y in
          ap (λ (j : ℕ). chain_at ns now j) e ∙ H.alike i (omega arith) b (omega (arith, e, c))

  first_more : (j : ℕ) → k ≤ j → j < n → first_at ls after (chain_at ns after j) ≤ j
  first_more j a b = by (eqb (chain_at ns now j) (chain_at ns now k)) refl
    where
      same : chain_at ns after j ≡ chain_at ns now j
      same = E.numbers j (omega (arith, b, m))

      by : (z : Bool) → eqb (chain_at ns now j) (chain_at ns now k) ≡ z → first_at ls after (chain_at ns after j) ≤ j
      by true z = let e = ap (λ (c : ℕ). first_at ls after c) (same ∙ eqb-true (chain_at ns now j) (chain_at ns now k) z) in omega (arith, e, E.front, a)
      by false z =
          let y = eqb-false (chain_at ns now j) (chain_at ns now k) z in
          let other : j ≡ k → ⊥ = λ q. y (ap (λ (i : ℕ). chain_at ns now i) q) in
          let e = ap (λ (c : ℕ). first_at ls after c) same ∙ E.firsts (chain_at ns now j) (chain-small (number_at ns now j)) y in
          omega (arith, e, H.first j (omega (arith, a, other)) b)

  starts_more : (b : ℕ) → b < 128 → first_at ls after b < n → chain_at ns after (first_at ls after b) ≡ b
  starts_more b a c = E.numbers (first_at ls after b) (omega (arith, c, m)) ∙ by (eqb b (chain_at ns now k)) refl
    where
      by : (z : Bool) → eqb b (chain_at ns now k) ≡ z → chain_at ns now (first_at ls after b) ≡ b
      by true z =
          let q = eqb-true b (chain_at ns now k) z in
          ap (λ (j : ℕ). chain_at ns now j) (ap (λ (d : ℕ). first_at ls after d) q ∙ E.front) ∙ sym q
      by false z =
          let e = E.firsts b a (eqb-false b (chain_at ns now k) z) in
          ap (λ (j : ℕ). chain_at ns now j) e ∙ H.starts b a (omega (arith, e, c))

  since-more : (b : ℕ) → b < 128 → k ≤ first_at ls after b
  since-more b a = by (eqb b (chain_at ns now k)) refl
    where
      by : (z : Bool) → eqb b (chain_at ns now k) ≡ z → k ≤ first_at ls after b
      by true z = let e = ap (λ (d : ℕ). first_at ls after d) (eqb-true b (chain_at ns now k) z) in omega (arith, e, E.front)
      by false z = omega (arith, E.firsts b a (eqb-false b (chain_at ns now k) z), H.since b a)

  chained_more : Chained ns ls after k n
  chained_more = record { ahead = ahead_more; linked = linked-more; alike = alike-more; first = first_more; starts = starts_more; since = since-more }

-- by the words written
entered_by : (ns ls : ℕ) → ns + 256 ≤ ls → (now : List ℕ) (k b f : ℕ) → ls + chain_words ≤ length now → k < 256 → b ≡ ls + 256 + chain_at ns now k → f ≡ get_or now b 0 → Entered ns ls now (set (set now (ls + k) f) b k) k
entered_by ns ls apart now k b f long l e g = record { numbers = numbers; links = links; link = link; firsts = firsts; front = front }
  where
    mid : List ℕ
    mid = set now (ls + k) f

    inside : b < ls + chain_words
    inside = omega (arith, e, chain-small (number_at ns now k))

    numbers : (i : ℕ) → i < 256 → chain_at ns (set mid b k) i ≡ chain_at ns now i
    numbers i a = ap chain_of (get_or-set_other mid b (ns + i) k 0 (omega (arith, e, a, apart)) ∙ get_or-set_other now (ls + k) (ns + i) f 0 (omega (arith, a, apart)))

    links : (i : ℕ) → i < 256 → (i ≡ k → ⊥) → link_at ls (set mid b k) i ≡ link_at ls now i
    links i a y = get_or-set_other mid b (ls + i) k 0 (omega (arith, e, a)) ∙ get_or-set_other now (ls + k) (ls + i) f 0 (omega (arith, y))

    link : link_at ls (set mid b k) k ≡ first_at ls now (chain_at ns now k)
    link = get_or-set_other mid b (ls + k) k 0 (omega (arith, e, l)) ∙ get_or-set_same now (ls + k) f 0 (omega (arith, l, long)) ∙ g ∙ ap (λ (i : ℕ). get_or now i 0) e

    firsts : (c : ℕ) → c < 128 → (c ≡ chain_at ns now k → ⊥) → first_at ls (set mid b k) c ≡ first_at ls now c
    firsts c a y = get_or-set_other mid b (ls + 256 + c) k 0 (omega (arith, e, y)) ∙ get_or-set_other now (ls + k) (ls + 256 + c) f 0 (omega (arith, l))

    front : first_at ls (set mid b k) (chain_at ns now k) ≡ k
    front = ap (λ (i : ℕ). get_or (set mid b k) i 0) (sym e) ∙ get_or-set_same mid b k 0 (omega (arith, length-set now (ls + k) f, inside, long))

-- one after the other
pub linked-none : (ns ls : ℕ) (before : List ℕ) (n : ℕ) → n ≤ 256 → LinkedFrom ns ls n before before n
linked-none ns ls before n m = record { within = within_none before ls (ls + chain_words); right = λ d l z. chained-none ns ls before n m z }

pub linked-next : (ns ls n : ℕ) (before : List ℕ) {now mid after : List ℕ} {q x : ℕ} (k c f : ℕ) → n ≤ 256 → LinkedFrom ns ls n before now q → q ≡ k + 1 → k < n → x ≡ get_or now (ns + k) 0 → c ≡ chain_of x → f ≡ get_or now (ls + 256 + c) 0
    → mid ≡ set now (ls + k) f → after ≡ set mid (ls + 256 + c) k → LinkedFrom ns ls n before after k
linked-next ns ls n before {now} {mid} {after} k c f m H e l X C g p r = subst (λ (z : List ℕ). LinkedFrom ns ls n before z k) (sym (r ∙ ap (λ (z : List ℕ). set z (ls + 256 + c) k) p)) (record {
  within = within_more before (set now (ls + k) f) ls (ls + chain_words) (ls + 256 + c) k (within_more before now ls (ls + chain_words) (ls + k) f H.within (omega arith) (omega (arith, l, m))) (omega arith) (omega (arith, same, chain-small (number_at ns now k)));
  right = λ d u z. chained_more l m (entered_by ns ls d now k (ls + 256 + c) f (omega (arith, H.within.long, u)) (omega (arith, l, m)) (ap (λ (i : ℕ). ls + 256 + i) same) g) (subst (λ (i : ℕ). Chained ns ls now i n) e (H.right d u z));
})
  where
    same : c ≡ chain_at ns now k
    same = C ∙ ap chain_of X

pub chains-filled : (ns ls n : ℕ) (before mid after : List ℕ) → ChainsCleared ls before mid → ChainsLinked ns ls n mid after → ChainsFilled ns ls n before after
chains-filled ns ls n before mid after C L = record {
  within = record {
    long = L.within.long ∙ C.within.long;
    below = λ j l. L.within.below j l ∙ C.within.below j (omega (arith, l));
    above = λ j l. L.within.above j l ∙ C.within.above j l;
  };
  right = λ d l. L.right d (omega (arith, C.within.long, l)) (C.none l);
}

-- chains are right while their words stay
pub chained-kept : {ns ls : ℕ} {room after : List ℕ} {n : ℕ} → ((i : ℕ) → i < n → get_or after (ns + i) 0 ≡ get_or room (ns + i) 0) → ((i : ℕ) → i < n → link_at ls after i ≡ link_at ls room i) → ((b : ℕ) → b < 128 → first_at ls after b ≡ first_at ls room b)
    → Chained ns ls room 0 n → Chained ns ls after 0 n
chained-kept {ns} {ls} {room} {after} {n} numbers links firsts H = record {
  ahead = λ i a b. omega (arith, links i b, H.ahead i a b);
  linked = λ i j a b c d. omega (arith, links i (omega (arith, b, c)), H.linked i j a b c (sym (chain j c) ∙ d ∙ chain i (omega (arith, b, c))));
  alike = λ i a b c. let e = links i b in chain (link_at ls after i) c ∙ ap (λ (j : ℕ). chain_at ns room j) e ∙ H.alike i a b (omega (arith, e, c)) ∙ sym (chain i b);
  first = λ j a b. let e = ap (λ (c : ℕ). first_at ls after c) (chain j b) in omega (arith, e, firsts (chain_at ns room j) (chain-small (number_at ns room j)), H.first j a b);
  starts = λ b a c. let e = firsts b a in chain (first_at ls after b) c ∙ ap (λ (j : ℕ). chain_at ns room j) e ∙ H.starts b a (omega (arith, e, c));
  since = λ b a. omega arith;
}
  where
    chain : (i : ℕ) → i < n → chain_at ns after i ≡ chain_at ns room i
    chain i l = ap chain_of (numbers i l)
