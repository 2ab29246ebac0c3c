-- The code's stack: what it holds when a byte is stored above, when a symbol is put on, and when an alternative is put on from its last symbol to its first.
use Prim.Native.Nat.{ℕ, zero, suc, ◌+◌, ◌<◌, ◌≤◌}
use mathlib.Core.Path.{◌≡◌, refl, sym, ◌∙◌, ap, subst}
use mathlib.Core.List.{List, [], ◌∷◌, ◌++◌, map, reverse, reverse_aux, reverse_aux-eq, reverse-reverse}
use native.Mathlib.Omega.{arith}
use lib.ListN.{length, get_or, set, take, length-reverse}
use lib.Seq.{get_or-set_same, get_or-set_other}
use Rattle.grammar.specs.Derives.{Symbol}
use Rattle.fof_productions.specs.Terminal.{Terminal}
use Rattle.fof_productions.specs.Name.{Name}
use Rattle.fof_productions.specs.Coded.{mark, flat, mark_at, Holds}

pub holds-set : (stack : List ℕ) (i x n : ℕ) (ss : List (Symbol Terminal Name)) → n ≤ i → Holds stack n ss → Holds (set stack i x) n ss
holds-set stack i x n [] l h = h
holds-set stack i x n (s ∷ ss) l (k, e, m, h) =
    (k, e, get_or-set_other stack i k x 0 (λ q. omega (arith, q)) ∙ m, holds-set stack i x k ss (omega arith) h)

pub holds-put : (stack : List ℕ) (x n : ℕ) (s : Symbol Terminal Name) (ss : List (Symbol Terminal Name)) → n < length stack → x ≡ mark s → Holds stack n ss → Holds (set stack n x) (n + 1) (s ∷ ss)
holds-put stack x n s ss l e h = (n, refl, get_or-set_same stack n x 0 l ∙ e, holds-set stack n x n ss (omega arith) h)

-- the symbols of a row, one after the other on top of ss
put_next : (row ss : List (Symbol Terminal Name)) (i : ℕ) → i < length row → (s : Symbol Terminal Name) × (get_or (map mark row) i 0 ≡ mark s) × (reverse_aux (take (suc i) row) ss ≡ s ∷ reverse_aux (take i row) ss)
put_next [] ss i l = absurd (omega arith)
put_next (x ∷ row) ss zero l = (x, refl, refl)
put_next (x ∷ row) ss (suc i) l = put_next row (x ∷ ss) i (omega arith)

take_all : (row ss : List (Symbol Terminal Name)) (n : ℕ) → n ≡ length row → reverse_aux (take n row) ss ≡ reverse_aux row ss
take_all [] ss zero e = refl
take_all [] ss (suc n) e = refl
take_all (x ∷ row) ss zero e = absurd (omega (arith, e))
take_all (x ∷ row) ss (suc n) e = take_all row (x ∷ ss) n (omega (arith, e))

-- i symbols of an alternative are on the stack
abbrev pub Putting : List ℕ → ℕ → ℕ → List ℕ → ℕ → Type 0
Putting stack₀ top k stack i =
    (ss : List (Symbol Terminal Name)) → Holds stack₀ top ss → Holds stack (top + i) (reverse_aux (take i (reverse (flat k))) ss)

pub put_first : (stack : List ℕ) (top k : ℕ) → Putting stack top k stack 0
put_first stack top k ss h = subst (λ (n : ℕ). Holds stack n ss) {x = top} {y = top + 0} (omega arith) h

pub put-more : (stack₀ stack : List ℕ) (top k i x : ℕ) → top + i < length stack → i < length (flat k) → x ≡ mark_at k i → Putting stack₀ top k stack i → Putting stack₀ top k (set stack (top + i) x) (i + 1)
unfolding mark_at
put-more stack₀ stack top k i x l m e f ss h =
    let r = length-reverse (flat k) in
    let (s, q, p) = put_next (reverse (flat k)) ss i (omega arith) in
    subst (λ (n : ℕ). Holds (set stack (top + i) x) n (reverse_aux (take (i + 1) (reverse (flat k))) ss)) {x = top + i + 1} {y = top + (i + 1)} (omega arith)
    (subst (λ (zs : List (Symbol Terminal Name)). Holds (set stack (top + i) x) (top + i + 1) zs)
    (sym p ∙ ap (λ (n : ℕ). reverse_aux (take n (reverse (flat k))) ss) {x = suc i} {y = i + 1} (omega arith))
    (holds-put stack x (top + i) s (reverse_aux (take i (reverse (flat k))) ss) l (e ∙ q) (f ss h)))

pub put_all : (stack₀ stack : List ℕ) (top k i n : ℕ) → n ≡ length (flat k) → i ≡ n → Putting stack₀ top k stack i → (ss : List (Symbol Terminal Name)) → Holds stack₀ top ss → Holds stack (top + n) (flat k ++ ss)
put_all stack₀ stack top k i n e q f ss h =
    subst (λ (zs : List (Symbol Terminal Name)). Holds stack (top + n) zs)
    (take_all (reverse (flat k)) ss n (e ∙ sym (length-reverse (flat k))) ∙ reverse_aux-eq (reverse (flat k)) ss ∙ ap (λ (zs : List (Symbol Terminal Name)). zs ++ ss) (reverse-reverse (flat k)))
    (subst (λ (m : ℕ). Holds stack (top + m) (reverse_aux (take m (reverse (flat k))) ss)) q (f ss h))
