-- The piece that the machine finds at an offset is the longest piece that stands there; where it finds none, none stands there.
use Prim.Native.Nat.{ℕ, zero, suc, ◌+◌, ◌<◌, ◌≤◌}
use mathlib.Core.Path.{◌≡◌, refl, sym, ◌∙◌, ap, ap₂, subst}
use mathlib.Core.Bool.{Bool, true, false, false≢true}
use mathlib.Core.List.{List, [], ◌∷◌, map}
use mathlib.Core.Option.{Option, none, some, some-injective}
use mathlib.Core.Logic.{◌⊎◌, inl, inr, ⊎_elim}
use native.Mathlib.Omega.{arith}
use lib.Dec.{leb}
use lib.ListN.{length, take, get_elem?}
use lib.Seq.{take-take, length-take-le}
use borrow.Author.Tests.{leb-true, leb-false}
use Rattle.basics.specs.Choice.{◌>>=◌, or_else, nope}
use Rattle.fof_tokens.specs.declared.Kind.{Kind}
use Rattle.fof_tokens.specs.declared.Kind.TheVariants.{Lower, Upper, Quoted, Distinct, Dollar, DoubleDollar, Integer, Rational, Real}
use Rattle.fof_tokens.specs.declared.Kind.TheVariants.{OpenParen, CloseParen, OpenBracket, CloseBracket, OpenBrace, CloseBrace, Comma, Dot, Colon, Minus}
use Rattle.fof_tokens.specs.declared.Kind.TheVariants.{ForAll, Exists, Not, And, Or, Equal, Unequal, Implies, ImpliedBy, Iff, Xor, Nor, Nand, Sequent}
use Rattle.fof_tokens.specs.Bytes.{is_space, is_sign}
use Rattle.fof_tokens.specs.Rule.{◌by◌}
use Rattle.fof_tokens.specs.Token.{rule, IsToken}
use Rattle.fof_tokens.specs.Cuts.{block, Block, Gap, Piece, Longest}
use Rattle.fof_tokens.specs.Machine.{Sort, gap, token, scan, soonest}
use Rattle.fof_tokens.specs.Next.{kinds, table, piece_at}
use Rattle.fof_tokens.proofs.RuleLaws.{by_end, cons_head, nil-cons}
use Rattle.fof_tokens.proofs.MachineLaws.{In, step_in, not-ended, Told, scan-told, First, FirstTold, soonest-told}
use Rattle.fof_tokens.proofs.SortLaws.{Sorted, sorted-once, block-starts}

-- the table has the rule of every kind

rows_in : (ks : List Kind) (n : ℕ) (k : Kind) (w : List ℕ) → get_elem? ks n ≡ some k → IsToken k w → In (map (λ (j : Kind). (token j, rule j)) ks) (token k) w
rows_in [] n k w e h = nope e
rows_in (j ∷ ks) zero k w e h =
    let q = some-injective j k e in inl (ap token q, subst (λ (x : Kind). IsToken x w) (sym q) h)
rows_in (j ∷ ks) (suc n) k w e h = inr (rows_in ks n k w e h)

rows_out : (ks : List Kind) (s : Sort) (w : List ℕ) → In (map (λ (j : Kind). (token j, rule j)) ks) s w → Sorted s w
rows_out [] s w h = absurd h
rows_out (j ∷ ks) s w (inl (e, h)) = subst (λ (x : Sort). Sorted x w) e h
rows_out (j ∷ ks) s w (inr h) = rows_out ks s w h

place : (k : Kind) → (n : ℕ) × (get_elem? kinds n ≡ some k)
place Lower = (0, refl)
place Upper = (1, refl)
place Quoted = (2, refl)
place Distinct = (3, refl)
place Dollar = (4, refl)
place DoubleDollar = (5, refl)
place Integer = (6, refl)
place Rational = (7, refl)
place Real = (8, refl)
place OpenParen = (9, refl)
place CloseParen = (10, refl)
place OpenBracket = (11, refl)
place CloseBracket = (12, refl)
place OpenBrace = (13, refl)
place CloseBrace = (14, refl)
place Comma = (15, refl)
place Dot = (16, refl)
place Colon = (17, refl)
place Minus = (18, refl)
place ForAll = (19, refl)
place Exists = (20, refl)
place Not = (21, refl)
place And = (22, refl)
place Or = (23, refl)
place Equal = (24, refl)
place Unequal = (25, refl)
place Implies = (26, refl)
place ImpliedBy = (27, refl)
place Iff = (28, refl)
place Xor = (29, refl)
place Nor = (30, refl)
place Nand = (31, refl)
place Sequent = (32, refl)

pub token-in : (k : Kind) (w : List ℕ) → IsToken k w → In table (token k) w
token-in k w h = let (n, e) = place k in inr (inr (rows_in kinds n k w e h))

pub sorted-in : (s : Sort) (w : List ℕ) → In table s w → Sorted s w
sorted-in s w (inl (e, h)) = subst (λ (x : Sort). Sorted x w) e (inl h)
sorted-in s w (inr (inl (e, h))) = subst (λ (x : Sort). Sorted x w) e (inr (inl h))
sorted-in s w (inr (inr h)) = rows_out kinds s w h

-- a piece is in the table, or it is a block comment
in_table : (w : List ℕ) → Piece w → ((s : Sort) × In table s w) ⊎ Block w
in_table w (inl (inl h)) = inl (gap, inl (refl, h))
in_table w (inl (inr (inl h))) = inl (gap, inr (inl (refl, h)))
in_table w (inl (inr (inr h))) = inr h
in_table w (inr (k, h)) = inl (token k, token-in k w h)

piece_of : (s : Sort) (w : List ℕ) → Sorted s w → Piece w
piece_of gap w h = inl h
piece_of (token k) w h = inr (k, h)

-- no piece is empty
pub piece-filled : Piece [] → ⊥
unfolding is_space
piece-filled h = ⊎_elim
    (λ (x : (s : Sort) × In table s []). not-ended table x.0 refl x.1)
    (λ (b : Block []). false≢true (by_end block b.whole))
    (in_table [] h)

-- no other piece starts as a block comment does
not-slash : (s : Sort) (w : List ℕ) → In table s (47 ∷ w) → ⊥
unfolding is_space is_sign
not-slash s w h = step_in 47 table s w h

-- what the machine tells of the piece at an offset
abbrev pub PieceTold : ℕ → List ℕ → Option (Sort × ℕ) → Type 0
PieceTold at t none = (m : ℕ) → m ≤ length t → Piece (take m t) → ⊥
PieceTold at t (some p) = (n : ℕ) × (p.1 ≡ at + n) × (0 < n) × Longest t n × Sorted p.0 (take n t)

by-block : (t : List ℕ) (n : ℕ) → First block t n → Block (take n t)
by-block t n f = record {
  whole = f.is;
  shortest = λ m h i.
      let z = length-take-le n t f.within in
      f.shortest m (omega arith) (subst (λ (x : List ℕ). x by block) (take-take m n t (omega arith)) i);
}

-- the block comment is the longest piece there
block-longest : (t : List ℕ) (n : ℕ) → First block t n → (m : ℕ) → m ≤ length t → Piece (take m t) → m ≤ n
block-longest t n f m b p = go (leb m n) refl (in_table (take m t) p)
  where
    starts : (c : ℕ) (w : List ℕ) (n : ℕ) → First block (c ∷ w) n → c ≡ 47
    starts c w zero f = let (v, e) = block-starts [] f.is in nil-cons e
    starts c w (suc n) f = let (v, e) = block-starts (c ∷ take n w) f.is in cons_head e

    other : (t : List ℕ) (m : ℕ) (s : Sort) → First block t n → m ≤ length t → n < m → In table s (take m t) → ⊥
    other t zero s f b h i = absurd (omega arith)
    other [] (suc m) s f b h i = absurd (omega arith)
    other (c ∷ w) (suc m) s f b h i = not-slash s (take m w) (subst (λ (x : ℕ). In table s (x ∷ take m w)) (starts c w n f) i)

    go : (x : Bool) → leb m n ≡ x → ((s : Sort) × In table s (take m t)) ⊎ Block (take m t) → m ≤ n
    go true e h = leb-true m n e
    go false e (inl (s, h)) = absurd (other t m s f b (leb-false m n e) h)
    go false e (inr h) =
        let z = length-take-le m t b in
        let less = leb-false m n e in
        absurd (h.shortest n (omega arith) (subst (λ (x : List ℕ). x by block) (sym (take-take n m t (omega arith))) f.is))

filled : (t : List ℕ) (n : ℕ) → Piece (take n t) → 0 < n
filled t zero h = absurd (piece-filled h)
filled t (suc n) h = omega arith

pub piece-told : (at : ℕ) (t : List ℕ) → PieceTold at t (piece_at at t)
unfolding piece_at
piece-told at t = go (soonest block at t) (soonest-told block at t)
  where
    by-scan : ((m : ℕ) → m ≤ length t → take m t by block → ⊥) → Told table at none t (scan table at none t) → PieceTold at t (scan table at none t)
    by-scan f (inl (e, nothing)) = subst (λ (x : Option (Sort × ℕ)). PieceTold at t x) (sym e) (λ m b p. ⊎_elim
        (λ (x : (s : Sort) × In table s (take m t)). nothing x.0 m b x.1)
        (λ (x : Block (take m t)). f m b x.whole)
        (in_table (take m t) p))
    by-scan f (inr (s, n, e, h)) = subst (λ (x : Option (Sort × ℕ)). PieceTold at t x) (sym e) (
      n,
      refl,
      filled t n (piece_of s (take n t) (sorted-in s (take n t) h.is)),
      record {
        within = h.within;
        piece = piece_of s (take n t) (sorted-in s (take n t) h.is);
        longest = λ m b p. ⊎_elim
            (λ (x : (s' : Sort) × In table s' (take m t)). h.longest x.0 m b x.1)
            (λ (x : Block (take m t)). absurd (f m b x.whole))
            (in_table (take m t) p);
      },
      sorted-in s (take n t) h.is,
    )

    go : (o : Option ℕ) → FirstTold block at t o → PieceTold at t (or_else (o >>= λ e. some (gap, e)) (scan table at none t))
    go none f = by-scan f (scan-told table at none t)
    go (some e) (n, q, f) =
        let b : Gap (take n t) = inr (inr (by-block t n f)) in
        (n, q, filled t n (inl b), record { within = f.within; piece = inl b; longest = block-longest t n f }, b)

-- the longest piece is the one that is found
pub piece-found : (at : ℕ) (t : List ℕ) (n : ℕ) (s : Sort) → Longest t n → Sorted s (take n t) → piece_at at t ≡ some (s, at + n)
piece-found at t n s l h = go (piece_at at t) (piece-told at t)
  where
    go : (o : Option (Sort × ℕ)) → PieceTold at t o → o ≡ some (s, at + n)
    go none f = absurd (f n l.within l.piece)
    go (some (s', e)) (m, q, b, k, i) =
        let y = k.longest n l.within l.piece in
        let z = l.longest m k.within k.piece in
        let w : m ≡ n = omega arith in
        ap (λ (x : Sort × ℕ). some x)
        (ap₂ (λ (a : Sort) (b : ℕ). (a, b))
        (sorted-once s' s (take n t) (subst (λ (x : ℕ). Sorted s' (take x t)) w i) h)
        (q ∙ ap (λ (x : ℕ). at + x) w))
