-- Laws of the next clause that may serve an atom: the rules with one number are found along its chain, none of them is passed over, and one that is has neither of the atom's numbers, nor 0 (document 02, Three).
use Prim.Native.Nat.{ℕ, ◌+◌, ◌-◌, ◌≤◌, ◌<◌, min}
use mathlib.Core.Path.{◌≡◌, refl, sym, ◌∙◌, ap, subst}
use mathlib.Core.Bool.{Bool, true, false, false≢true}
use mathlib.Core.List.{List}
use native.Mathlib.Omega.{arith}
use lib.Dec.{eqb}
use lib.ListN.{get_or}
use borrow.Author.Tests.{eqb-true, eqb-false}
use Rattle.room.specs.Layout.{rules_word}
use Rattle.keys.specs.Chains.{chain_of, number_at, chain_at, link_at, first_at, Chained, BeginsChain, HasNumber, NextWith}
use Rattle.keys.specs.Keys.{key_word, rule_chains, NextClause}
use Rattle.keys.proofs.ChainLaws.{chain-small}

-- one with the number
module _ (ns : ℕ) (room : List ℕ) (x from : ℕ) where
  pub number-before : (r : ℕ) → r < from → HasNumber ns room x from r false
  number-before r l = record { since = λ e. absurd (false≢true e); other = λ e a. absurd (omega arith) }

  pub number-tested : {y : ℕ} (r : ℕ) → from ≤ r → y ≡ number_at ns room r → HasNumber ns room x from r (eqb y x)
  number-tested {y} r l e = record { since = λ _. l; other = λ f a g. eqb-false y x f (e ∙ g) }

-- where a chain is begun
module _ (ns ls : ℕ) (room : List ℕ) (x from : ℕ) where
  pub begin-first : {b r : ℕ} → b ≡ chain_of x → r ≡ get_or room (ls + 256 + b) 0 → BeginsChain ns ls room x from r
  begin-first {b} {r} e f n H l =
      let g : r ≡ first_at ls room (chain_of x) = f ∙ ap (λ (c : ℕ). first_at ls room c) e in
      record {
        reached = λ j a c d. let h = ap (λ (c : ℕ). first_at ls room c) d in omega (arith, g, h, H.first j (omega arith) c);
        alike = λ c. ap (λ (j : ℕ). chain_at ns room j) g ∙ H.starts (chain_of x) (chain-small x) (omega (arith, g, c));
      }

  pub begin-after : {b c y r : ℕ} (k : ℕ) → b ≡ chain_of x → (from ≡ 0 → ⊥) → k ≡ from - 1 → y ≡ get_or room (ns + k) 0 → c ≡ chain_of y → c ≡ b → r ≡ get_or room (ls + k) 0 → BeginsChain ns ls room x from r
  begin-after {b} {c} {y} {r} k e z q Y C f g n H l =
      let same : chain_at ns room k ≡ chain_of x = ap chain_of (sym Y) ∙ sym C ∙ f ∙ e in
      record {
        reached = λ j a b d. omega (arith, g, H.linked k j (omega arith) (omega (arith, z, q, a)) b (d ∙ sym same));
        alike = λ a. ap (λ (j : ℕ). chain_at ns room j) g ∙ H.alike k (omega arith) (omega (arith, z, q, l)) (omega (arith, g, a)) ∙ same;
      }

  -- along a chain: none with the number is left out
  pub record Walk (m r : ℕ) : Type 0 where
    pub reached : (j : ℕ) → from ≤ j → j < m → number_at ns room j ≡ x → r ≤ j
    pub alike : r < m → chain_at ns room r ≡ chain_of x

  abbrev pub Walked : ℕ → ℕ → Type 0
  Walked n r = (m : ℕ) → Chained ns ls room 0 m → n ≤ m → from ≤ m → Walk m r

  pub walk_start : (n r : ℕ) → BeginsChain ns ls room x from r → Walked n r
  walk_start n r B m H l o = let b = B m H o in record { reached = λ j a c d. b.reached j a c (ap chain_of d); alike = b.alike }

  pub walk-found : {b : Bool} (n r : ℕ) → Walked n r → r < n → HasNumber ns room x from r b → b ≡ true → NextWith ns ls room x from n r
  walk-found n r W l N e = record {
    few = omega arith;
    further = λ _. N.since e;
    other = λ m H a j c d f. let g = (W m H a (omega (arith, N.since e, l, a))).reached j c (omega (arith, d, l, a)) f in absurd (omega (arith, g, d));
  }

  pub walk_end : (n r : ℕ) → Walked n r → n ≤ r → NextWith ns ls room x from n n
  walk_end n r W l = record {
    few = omega arith;
    further = λ a. a;
    other = λ m H a j c d f. let g = (W m H a (omega (arith, c, d, a))).reached j c (omega (arith, d, a)) f in absurd (omega (arith, g, d, l));
  }

  pub walk-back : (n r : ℕ) {s : ℕ} → Walked n r → r < n → s ≡ get_or room (ls + r) 0 → s ≤ r → NextWith ns ls room x from n n
  walk-back n r W l e u = record {
    few = omega arith;
    further = λ a. a;
    other = λ m H a j c d f. absurd (omega (arith, e, u, H.ahead r (omega arith) (omega (arith, l, a))));
  }

  pub walk-next : {b : Bool} (n r : ℕ) {s : ℕ} → Walked n r → r < n → HasNumber ns room x from r b → b ≡ false → s ≡ get_or room (ls + r) 0 → Walked n s
  walk-next n r {s} W l N e q m H a o = subst (Walk m) (sym q) (record {
    reached = λ j c d f. go j c d f (eqb r j) refl;
    alike = λ c. H.alike r (omega arith) (omega (arith, l, a)) c ∙ same;
  })
    where
      same : chain_at ns room r ≡ chain_of x
      same = (W m H a o).alike (omega (arith, l, a))

      go : (j : ℕ) → from ≤ j → j < m → number_at ns room j ≡ x → (z : Bool) → eqb r j ≡ z → link_at ls room r ≤ j
      go j c d f true z = let i = eqb-true r j z in absurd (N.other e (omega (arith, i, c)) (ap (λ (k : ℕ). number_at ns room k) i ∙ f))
      go j c d f false z =
          let i = eqb-false r j z in
          let g = (W m H a o).reached j c d f in
          H.linked r j (omega arith) (omega (arith, i, g)) d (ap chain_of f ∙ sym same)

-- the next clause that may serve an atom
module _ (room : List ℕ) (predicate key from n : ℕ) where
  pub next_past : n ≤ from → NextClause room predicate key from n n
  next_past l = record {
    few = omega arith;
    further = λ a. a;
    right = λ _. record { rules = λ j a b. absurd (omega arith); barred = λ j a b. absurd (omega arith) };
  }

  pub next-supposed : from < n → NextClause room predicate key from n from
  next-supposed l = record {
    few = omega arith;
    further = λ _. omega arith;
    right = λ _. record { rules = λ j a b. absurd (omega arith); barred = λ j a b. absurd (omega arith) };
  }

  pub next-rule : {rules most a b : ℕ} (r : ℕ) → from < n → rules ≡ get_or room rules_word 0 → from < rules → most ≡ min rules n → NextWith (key_word 0) rule_chains room key from most a → NextWith (key_word 0) rule_chains room predicate from a b → NextWith (key_word 0) rule_chains room 0 from b r
      → NextClause room predicate key from n r
  next-rule {rules} {most} {a} {b} r l e h m A B C =
      let further = C.further (B.further (A.further (omega (arith, l, h, m)))) in
      record {
        few = omega (arith, A.few, B.few, C.few, m);
        further = λ _. further;
        right = λ H. record {
          rules = λ j u v. omega (arith, A.few, B.few, C.few, m, e, v);
          barred = λ j u v.
              record {
                some = C.other (get_or room rules_word 0) H (omega (arith, A.few, B.few, m, e)) j u v;
                other = B.other (get_or room rules_word 0) H (omega (arith, A.few, m, e)) j u (omega (arith, C.few, v));
                own = A.other (get_or room rules_word 0) H (omega (arith, m, e)) j u (omega (arith, B.few, C.few, v));
              };
        };
      }
