-- Marks written one behind another, and what the pen keeps in mind of how deep they go.
use Prim.Native.Nat.{ℕ, zero, suc, ◌+◌, ◌-◌, ◌≤◌, ◌<◌, max}
use mathlib.Core.Path.{◌≡◌, refl, sym, ◌∙◌, ap, subst}
use mathlib.Core.Bool.{Bool, true, false}
use mathlib.Core.List.{List, [], ◌∷◌, ◌++◌, append-nil, append_assoc}
use native.Mathlib.Omega.{arith}
use lib.Dec.{ltb}
use lib.ListN.{length}
use borrow.Author.Tests.{ltb-true, ltb-false, lt-ltb, le-ltb}
use Rattle.sexp.specs.Decimal.{decimal}
use Rattle.sexp.specs.Sexp.{verbatim_onto}
use Rattle.sexp.proofs.OntoLaws.{verbatim-onto, decimal-onto}
use Rattle.pen.specs.Laid.{Puts}
use Rattle.pen.specs.Numeral.{numeral}
use Rattle.pen.proofs.LaidLaws.{puts_then, puts-as, puts_none, laid-length}
use Rattle.fof_part.specs.Mark.{Mark, inked, deepest}
use Rattle.fof_part.specs.Due.{headed, many_headed}
use Rattle.fof_part.proofs.MarkLaws.{deepest-least}
use Rattle.fof_pass.specs.declared.ink.Pen.{Pen}
use Rattle.fof_pass.specs.Ink.{Level, begun, leveled, level_of, Inks}

pub inked-append : (ms ns : List Mark) → inked (ms ++ ns) ≡ inked ms ++ inked ns
inked-append [] ns = refl
inked-append (Mark.begin ∷ ms) ns = ap (λ (x : List ℕ). 40 ∷ x) (inked-append ms ns)
inked-append (Mark.string w ∷ ms) ns =
    ap (λ (x : List ℕ). verbatim_onto w x) (inked-append ms ns)
    ∙ verbatim-onto w (inked ms ++ inked ns)
    ∙ sym (append_assoc (verbatim_onto w []) (inked ms) (inked ns))
    ∙ ap (λ (x : List ℕ). x ++ inked ns) (sym (verbatim-onto w (inked ms)))
inked-append (Mark.end ∷ ms) ns = ap (λ (x : List ℕ). 41 ∷ x) (inked-append ms ns)

pub leveled-append : (l : Level) (ms ns : List Mark) → leveled l (ms ++ ns) ≡ leveled (leveled l ms) ns
leveled-append l [] ns = refl
leveled-append l (Mark.begin ∷ ms) ns = leveled-append (begun l) ms ns
leveled-append l (Mark.string w ∷ ms) ns = leveled-append l ms ns
leveled-append l (Mark.end ∷ ms) ns = leveled-append (l.0 - 1, l.1) ms ns

pub inks-then : {ms ns : List Mark} {p q r : Pen} {d d1 d2 : List ℕ} → Inks ms p d d1 q → Inks ns q d1 d2 r → Inks (ms ++ ns) p d d2 r
inks-then {ms} {ns} {p} a b = record {
  puts = λ l. let x = a.puts l in puts-as (sym (inked-append ms ns)) (puts_then x (b.puts (omega (arith, x.ahead))));
  long = b.long ∙ a.long;
  level = b.level ∙ ap (λ (l : Level). leveled l ns) a.level ∙ sym (leveled-append (level_of p) ms ns);
}

puts-long : {at n : ℕ} {w d d1 : List ℕ} → Puts at w d d1 n → length d1 ≡ length d
puts-long {at} {n} {w} {d} p = ap length p.bytes ∙ laid-length at w d

-- a list is begun, where fewer than 64 are open and where no fewer are
begun-low : (n : ℕ) (b : Bool) → n < 64 → Path Level (n + 1, b) (begun (n, b))
begun-low n b l = rw (lt-ltb n 64 l) (ap (λ (m : ℕ). (m, b)) {x = n + 1} {y = suc n} (omega arith))

begun-high : (n : ℕ) (b : Bool) → 64 ≤ n → Path Level (n, true) (begun (n, b))
begun-high n b l = rw (le-ltb n 64 l) refl

module _ (p : Pen) {at : ℕ} {d d1 : List ℕ} where
  pub inks-begin : p.depth < 64 → Puts p.at (40 ∷ []) d d1 at → Inks (Mark.begin ∷ []) p d d1 (record { at = at; depth = p.depth + 1; deep = p.deep })
  inks-begin l h = record { puts = λ _. h; long = puts-long h; level = begun-low p.depth p.deep l }

  pub inks-deep : 64 ≤ p.depth → Puts p.at (40 ∷ []) d d1 at → Inks (Mark.begin ∷ []) p d d1 (record { at = at; depth = p.depth; deep = true })
  inks-deep l h = record { puts = λ _. h; long = puts-long h; level = begun-high p.depth p.deep l }

  pub inks-end : Puts p.at (41 ∷ []) d d1 at → Inks (Mark.end ∷ []) p d d1 (record { at = at; depth = p.depth - 1; deep = p.deep })
  inks-end h = record { puts = λ _. h; long = puts-long h; level = refl }

  pub inks-shallow : p.depth ≡ 0 → Puts p.at (41 ∷ []) d d1 at → Inks (Mark.end ∷ []) p d d1 (record { at = at; depth = 0; deep = p.deep })
  inks-shallow z h = record { puts = λ _. h; long = puts-long h; level = ap (λ (n : ℕ). (n, p.deep)) {x = 0} {y = p.depth - 1} (omega arith) }

  pub inks-string : (w : List ℕ) {k m : ℕ} {e e1 : List ℕ} → Puts p.at (decimal (length w)) d e k → Puts k (58 ∷ []) e e1 m → Puts m w e1 d1 at → Inks (Mark.string w ∷ []) p d d1 (record { at = at; depth = p.depth; deep = p.deep })
  inks-string w a b c = record {
    puts = λ _. puts-as (ap (λ (x : List ℕ). decimal (length w) ++ (58 ∷ x)) (sym (append-nil w)) ∙ sym (decimal-onto (length w) (58 ∷ (w ++ [])))) (puts_then a (puts_then b c));
    long = puts-long c ∙ puts-long b ∙ puts-long a;
    level = refl;
  }

  pub inks-number : (i : ℕ) → Puts p.at (numeral i) d d1 at → Inks (Mark.string (decimal i) ∷ []) p d d1 (record { at = at; depth = p.depth; deep = p.deep })
  unfolding numeral
  inks-number i h = record { puts = λ _. h; long = puts-long h; level = refl }

-- nothing is written
pub inks-none : (p : Pen) (d : List ℕ) → Inks [] p d d p
inks-none p d = record { puts = λ l. puts_none (omega arith); long = refl; level = refl }

-- so many heads, one behind another
many_more : (w : List ℕ) (n : ℕ) → many_headed w n ++ headed w ≡ many_headed w (suc n)
many_more w zero = refl
many_more w (suc n) = ap (λ (x : List Mark). headed w ++ x) (many_more w n)

pub inks-many : (w : List ℕ) (i : ℕ) {p q r : Pen} {d d1 d2 : List ℕ} → Inks (many_headed w i) p d d1 q → Inks (headed w) q d1 d2 r → Inks (many_headed w (i + 1)) p d d2 r
inks-many w i {p} {q} {r} {d} {d1} {d2} a b =
    subst (λ (x : List Mark). Inks x p d d2 r) (many_more w i ∙ ap (many_headed w) {x = suc i} {y = i + 1} (omega arith)) (inks-then a b)

-- the pen keeps in mind exactly whether the marks go deeper than 64
stays : (n : ℕ) (ms : List Mark) → (leveled (n, true) ms).1 ≡ true
stays n [] = refl
stays n (Mark.begin ∷ ms) = go (ltb n 64) refl (stays (suc n) ms) (stays n ms)
  where
    go : (t : Bool) → ltb n 64 ≡ t → (leveled (suc n, true) ms).1 ≡ true → (leveled (n, true) ms).1 ≡ true → (leveled (begun (n, true)) ms).1 ≡ true
    go true e h k = rw e h
    go false e h k = rw e k
stays n (Mark.string w ∷ ms) = stays n ms
stays n (Mark.end ∷ ms) = stays (n - 1) ms

pub deep_is : (n : ℕ) (ms : List Mark) → n ≤ 64 → (leveled (n, false) ms).1 ≡ ltb 64 (deepest n ms)
deep_is n [] l = sym (le-ltb 64 n l)
deep_is n (Mark.begin ∷ ms) l = go (ltb n 64) refl (λ h. deep_is (suc n) ms h)
  where
    go : (t : Bool) → ltb n 64 ≡ t → (suc n ≤ 64 → (leveled (suc n, false) ms).1 ≡ ltb 64 (deepest (suc n) ms)) → (leveled (begun (n, false)) ms).1 ≡ ltb 64 (max n (deepest (suc n) ms))
    go true e ih =
        let low = ltb-true n 64 e in
        let least = deepest-least ms (suc n) in
        rw e (ih (omega arith) ∙ ap (ltb 64) {x = deepest (suc n) ms} {y = max n (deepest (suc n) ms)} (omega arith))
    go false e ih =
        let high = ltb-false n 64 e in
        let least = deepest-least ms (suc n) in
        rw e (stays n ms ∙ sym (lt-ltb 64 (max n (deepest (suc n) ms)) (omega arith)))
deep_is n (Mark.string w ∷ ms) l = deep_is n ms l
deep_is n (Mark.end ∷ ms) l = deep_is (n - 1) ms (omega arith) ∙ same (deepest (n - 1) ms) (ltb 64 (deepest (n - 1) ms)) refl
  where
    same : (x : ℕ) (t : Bool) → ltb 64 x ≡ t → ltb 64 x ≡ ltb 64 (max n x)
    same x true e = let h = ltb-true 64 x e in e ∙ sym (lt-ltb 64 (max n x) (omega arith))
    same x false e = let h = ltb-false 64 x e in e ∙ sym (le-ltb 64 (max n x) (omega arith))
