-- The byte offset of a strip node (document 01, refusal 7): at the offset of a position stands the node at that position, and file order is the order of offsets.
use Prim.Native.Nat.{ℕ, zero, suc, ◌+◌, ◌≤◌, ◌<◌}
use mathlib.Core.Path.{◌≡◌, refl, sym, ◌∙◌, ap, subst}
use mathlib.Core.Bool.{Bool, true, false}
use mathlib.Core.List.{List, [], ◌∷◌}
use mathlib.Core.Logic.{◌⊎◌, inl, inr, ⊎_elim}
use mathlib.Core.Option.{Option, none, some, some-injective}
use native.Mathlib.Omega.{arith}
use lib.Dec.{ltb}
use lib.ListN.{length, get_elem?}
use borrow.Author.Tests.{ltb-true, ltb-false}
use Rattle.basics.specs.Choice.{nope, bind-some}
use Rattle.basics.specs.Text.{octets}
use Rattle.harrop.specs.Formula.{Step, Strip}
use Rattle.harrop.specs.Position.{Position, parts, part_at, Before, node-first, earlier-part, same-part}
use Rattle.sexp.specs.Decimal.{decimal_onto}
use Rattle.sexp.specs.Sexp.{Sexp, Sexps, spell, spells, Stands, StandsAll}
use Rattle.sexp.proofs.OntoLaws.{spell-some}
use Rattle.sexp.proofs.StandLaws.{members-stand, first-stands, others-stand, list_length, cons-length, whole-stands}
use Rattle.packet.specs.Written.{number, path_sexp, strip_sexp}
use Rattle.packet.specs.Offset.{width, offset_of}
use Rattle.packet.specs.Refusal.{joined}

-- a member of a list, after those in front of it
member-stands : (s : List ℕ) (at : ℕ) (front : Sexps) (x : Sexp) (back : Sexps) → StandsAll s at (joined front (Sexps.cons x back)) → Stands s (at + length (spells front)) x
member-stands s at Sexps.nil x back h = subst (λ (i : ℕ). Stands s i x) {x = at} {y = at + 0} (omega arith) (first-stands h)
member-stands s at (Sexps.cons y front) x back h =
    subst (λ (i : ℕ). Stands s i x) {x = at + length (spell y) + length (spells front)} {y = at + length (spells (Sexps.cons y front))} (omega (arith, cons-length y front))
    (member-stands s (at + length (spell y)) front x back (others-stand h))

member-inside : (front : Sexps) (x : Sexp) (back : Sexps) → length (spells front) + length (spell x) ≤ length (spells (joined front (Sexps.cons x back)))
member-inside Sexps.nil x back = omega (arith, cons-length x back)
member-inside (Sexps.cons y front) x back =
    let r = member-inside front x back in
    let a = cons-length y front in
    let b = cons-length y (joined front (Sexps.cons x back)) in
    omega arith

-- part i of a strip's first node is R
pub record Part (P : Strip) (i : ℕ) (R : Strip) : Type 0 where
  -- where it stands
  pub stands : (s : List ℕ) (at : ℕ) → Stands s at (strip_sexp P) → Stands s (at + offset_of P (i ∷ [])) (strip_sexp R)
  -- after the node, and inside it
  pub after : 0 < offset_of P (i ∷ [])
  pub inside : offset_of P (i ∷ []) + width (strip_sexp R) < width (strip_sexp P)
  -- and so does what is in it
  pub offset : (pos : Position) → offset_of P (i ∷ pos) ≡ offset_of P (i ∷ []) + offset_of R pos

part-from : (P R : Strip) (i : ℕ) (front back : Sexps) → strip_sexp P ≡ Sexp.list (joined front (Sexps.cons (strip_sexp R) back)) → offset_of P (i ∷ []) ≡ 1 + length (spells front) → ((pos : Position) → offset_of P (i ∷ pos) ≡ offset_of P (i ∷ []) + offset_of R pos) → Part P i R
part-from P R i front back e o f =
    let l = list_length (joined front (Sexps.cons (strip_sexp R) back)) in
    let m = member-inside front (strip_sexp R) back in
    let w = ap width e in
    record {
      stands = λ s at h.
          subst (λ (x : ℕ). Stands s x (strip_sexp R)) {x = at + 1 + length (spells front)} {y = at + offset_of P (i ∷ [])} (omega arith)
          (member-stands s (at + 1) front (strip_sexp R) back (members-stand (subst (Stands s at) e h)));
      after = omega arith;
      inside = omega arith;
      offset = f;
    }

pub offset-root : (P : Strip) → offset_of P [] ≡ 0
offset-root Strip.top = refl
offset-root (Strip.and P R) = refl
offset-root (Strip.left P) = refl
offset-root (Strip.right P) = refl
offset-root (Strip.some i P) = refl
offset-root (Strip.all P) = refl
offset-root (Strip.imp P) = refl
offset-root (Strip.use₀ k path) = refl
offset-root (Strip.use₁ k path P) = refl

-- a node with one part
one-part : (M : ℕ → Strip → Type 0) (X : Strip) → M 0 X → (i : ℕ) (R : Strip) → get_elem? (X ∷ []) i ≡ some R → M i R
one-part M X m zero R h = subst (M 0) (some-injective X R h) m
one-part M X m (suc i) R h = nope h

-- the word in front of a part, and perhaps more
word-front : List ℕ → Sexps
word-front w = Sexps.cons (Sexp.str w) Sexps.nil

pub part : (P : Strip) (i : ℕ) (R : Strip) → get_elem? (parts P) i ≡ some R → Part P i R
unfolding decimal_onto word-front
part Strip.top i R h = nope h
part (Strip.and P Q) zero R h =
    let z = offset-root P in
    subst (Part (Strip.and P Q) 0) (some-injective P R h)
    (part-from (Strip.and P Q) P 0 (word-front (octets "and")) (Sexps.cons (strip_sexp Q) Sexps.nil) refl (omega arith) (λ pos. omega arith))
part (Strip.and P Q) (suc i) R h =
    let z = offset-root Q in
    let a = cons-length (Sexp.str (octets "and")) (Sexps.cons (strip_sexp P) Sexps.nil) in
    let b = cons-length (strip_sexp P) Sexps.nil in
    one-part (λ (j : ℕ). Part (Strip.and P Q) (suc j)) Q
    (part-from (Strip.and P Q) Q 1 (Sexps.cons (Sexp.str (octets "and")) (Sexps.cons (strip_sexp P) Sexps.nil)) Sexps.nil refl (omega arith) (λ pos. omega arith))
    i R h
part (Strip.left P) i R h =
    let z = offset-root P in
    one-part (Part (Strip.left P)) P (part-from (Strip.left P) P 0 (word-front (octets "left")) Sexps.nil refl (omega arith) (λ pos. omega arith)) i R h
part (Strip.right P) i R h =
    let z = offset-root P in
    one-part (Part (Strip.right P)) P (part-from (Strip.right P) P 0 (word-front (octets "right")) Sexps.nil refl (omega arith) (λ pos. omega arith)) i R h
part (Strip.some n P) i R h =
    let z = offset-root P in
    let a = cons-length (Sexp.str (octets "some")) (Sexps.cons (number n) Sexps.nil) in
    let b = cons-length (number n) Sexps.nil in
    one-part (Part (Strip.some n P)) P
    (part-from (Strip.some n P) P 0 (Sexps.cons (Sexp.str (octets "some")) (Sexps.cons (number n) Sexps.nil)) Sexps.nil refl (omega arith) (λ pos. omega arith))
    i R h
part (Strip.all P) i R h =
    let z = offset-root P in
    one-part (Part (Strip.all P)) P (part-from (Strip.all P) P 0 (word-front (octets "all")) Sexps.nil refl (omega arith) (λ pos. omega arith)) i R h
part (Strip.imp P) i R h =
    let z = offset-root P in
    one-part (Part (Strip.imp P)) P (part-from (Strip.imp P) P 0 (word-front (octets "imp")) Sexps.nil refl (omega arith) (λ pos. omega arith)) i R h
part (Strip.use₀ k path) i R h = nope h
part (Strip.use₁ k path P) i R h =
    let z = offset-root P in
    let a = cons-length (Sexp.str (octets "use")) (Sexps.cons (number k) (Sexps.cons (path_sexp path) Sexps.nil)) in
    let b = cons-length (number k) (Sexps.cons (path_sexp path) Sexps.nil) in
    let c = cons-length (path_sexp path) Sexps.nil in
    one-part (Part (Strip.use₁ k path P)) P
    (part-from (Strip.use₁ k path P) P 0 (Sexps.cons (Sexp.str (octets "use")) (Sexps.cons (number k) (Sexps.cons (path_sexp path) Sexps.nil))) Sexps.nil refl (omega arith) (λ pos. omega arith))
    i R h

one_only : (X : Strip) (i j : ℕ) (S : Strip) → get_elem? (X ∷ []) j ≡ some S → i < j → ⊥
one_only X i zero S g l = omega arith
one_only X i (suc j) S g l = nope g

-- an earlier part ends before a later one starts
part-order : (P : Strip) (i j : ℕ) (R S : Strip) → get_elem? (parts P) i ≡ some R → get_elem? (parts P) j ≡ some S → i < j → offset_of P (i ∷ []) + width (strip_sexp R) ≤ offset_of P (j ∷ [])
part-order Strip.top i j R S h g l = nope h
part-order (Strip.and P Q) zero zero R S h g l = absurd (omega arith)
part-order (Strip.and P Q) zero (suc j) R S h g l =
    let z = offset-root P in
    let e = ap (λ (x : Strip). width (strip_sexp x)) (some-injective P R h) in
    omega arith
part-order (Strip.and P Q) (suc i) zero R S h g l = absurd (omega arith)
part-order (Strip.and P Q) (suc i) (suc j) R S h g l = absurd (one_only Q i j S g (omega arith))
part-order (Strip.left P) i j R S h g l = absurd (one_only P i j S g l)
part-order (Strip.right P) i j R S h g l = absurd (one_only P i j S g l)
part-order (Strip.some n P) i j R S h g l = absurd (one_only P i j S g l)
part-order (Strip.all P) i j R S h g l = absurd (one_only P i j S g l)
part-order (Strip.imp P) i j R S h g l = absurd (one_only P i j S g l)
part-order (Strip.use₀ k path) i j R S h g l = nope h
part-order (Strip.use₁ k path P) i j R S h g l = absurd (one_only P i j S g l)

-- at the offset of a position stands the node at that position
pub node-stands : (pos : Position) (P R : Strip) → part_at P pos ≡ some R → (s : List ℕ) (at : ℕ) → Stands s at (strip_sexp P) → Stands s (at + offset_of P pos) (strip_sexp R)
node-stands [] P R h s at u =
    let z = offset-root P in
    let e = some-injective P R h in
    subst (λ (x : Strip). Stands s (at + offset_of P []) (strip_sexp x)) e
    (subst (λ (x : ℕ). Stands s x (strip_sexp P)) {x = at} {y = at + offset_of P []} (omega arith) u)
node-stands (i ∷ pos) P R h s at u =
    let (Q, g, f) = bind-some (get_elem? (parts P) i) (λ X. part_at X pos) R h in
    let q = part P i Q g in
    let o = q.offset pos in
    subst (λ (x : ℕ). Stands s x (strip_sexp R)) {x = at + offset_of P (i ∷ []) + offset_of Q pos} {y = at + offset_of P (i ∷ pos)} (omega arith)
    (node-stands pos Q R f s (at + offset_of P (i ∷ [])) (q.stands s at u))

-- inside the strip
pub node-inside : (pos : Position) (P R : Strip) → part_at P pos ≡ some R → offset_of P pos + width (strip_sexp R) ≤ width (strip_sexp P)
node-inside [] P R h = let z = offset-root P in let e = ap (λ (x : Strip). width (strip_sexp x)) (some-injective P R h) in omega arith
node-inside (i ∷ pos) P R h =
    let (Q, g, f) = bind-some (get_elem? (parts P) i) (λ X. part_at X pos) R h in
    let q = part P i Q g in
    let o = q.offset pos in
    let r = node-inside pos Q R f in
    let t = q.inside in
    omega arith

-- file order is the order of offsets
pub file-order : (P : Strip) (pos pos' : Position) (R S : Strip) → part_at P pos ≡ some R → part_at P pos' ≡ some S → Before pos pos' → offset_of P pos < offset_of P pos'
file-order P pos pos' R S h g (node-first {i = i} {at = at}) =
    let (Q, u, f) = bind-some (get_elem? (parts P) i) (λ X. part_at X at) S g in
    let q = part P i Q u in
    let z = offset-root P in
    let a = q.after in
    let o = q.offset at in
    omega arith
file-order P pos pos' R S h g (earlier-part {i = i} {j = j} {at = at} {at' = at'} l) =
    let (Q, u, f) = bind-some (get_elem? (parts P) i) (λ X. part_at X at) R h in
    let (Q', u', f') = bind-some (get_elem? (parts P) j) (λ X. part_at X at') S g in
    let o = (part P i Q u).offset at in
    let o' = (part P j Q' u').offset at' in
    let n = node-inside at Q R f in
    let w = spell-some (strip_sexp R) in
    let t = part-order P i j Q Q' u u' l in
    omega arith
file-order P pos pos' R S h g (same-part {i = i} {at = at} {at' = at'} b) =
    let (Q, u, f) = bind-some (get_elem? (parts P) i) (λ X. part_at X at) R h in
    let (Q', u', f') = bind-some (get_elem? (parts P) i) (λ X. part_at X at') S g in
    let e : Q' ≡ Q = some-injective Q' Q (sym u' ∙ u) in
    let o = (part P i Q u).offset at in
    let o' = (part P i Q u).offset at' in
    let r = file-order Q at at' R S f (subst (λ (X : Strip). part_at X at' ≡ some S) e f') b in
    omega arith

-- of a whole strip file
pub node-in-file : (s : List ℕ) (P R : Strip) (pos : Position) → s ≡ spell (strip_sexp P) → part_at P pos ≡ some R → Stands s (offset_of P pos) (strip_sexp R)
node-in-file s P R pos e h =
    subst (λ (x : ℕ). Stands s x (strip_sexp R)) {x = 0 + offset_of P pos} {y = offset_of P pos} (omega arith) (node-stands pos P R h s 0 (whole-stands e))

-- two positions are one, or one is before the other
either_order : (pos pos' : Position) → (pos ≡ pos') ⊎ (Before pos pos' ⊎ Before pos' pos)
either_order [] [] = inl refl
either_order [] (j ∷ pos') = inr (inl node-first)
either_order (i ∷ pos) [] = inr (inr node-first)
either_order (i ∷ pos) (j ∷ pos') = go (ltb i j) refl (ltb j i) refl (either_order pos pos')
  where
    go : (a : Bool) → ltb i j ≡ a → (b : Bool) → ltb j i ≡ b → (pos ≡ pos') ⊎ (Before pos pos' ⊎ Before pos' pos) → (i ∷ pos ≡ j ∷ pos') ⊎ (Before (i ∷ pos) (j ∷ pos') ⊎ Before (j ∷ pos') (i ∷ pos))
    go true e b f r = inr (inl (earlier-part (ltb-true i j e)))
    go false e true f r = inr (inr (earlier-part (ltb-true j i f)))
    go false e false f r =
        let x = ltb-false i j e in
        let y = ltb-false j i f in
        let z : i ≡ j = omega arith in
        subst (λ (k : ℕ). (i ∷ pos ≡ k ∷ pos') ⊎ (Before (i ∷ pos) (k ∷ pos') ⊎ Before (k ∷ pos') (i ∷ pos))) z
        (⊎_elim (λ u. inl (ap (λ (q : Position). i ∷ q) u)) (λ u. inr (⊎_elim (λ v. inl (same-part v)) (λ v. inr (same-part v)) u)) r)

-- so an offset is that of one node
pub one-node : (P : Strip) (pos pos' : Position) (R S : Strip) → part_at P pos ≡ some R → part_at P pos' ≡ some S → offset_of P pos ≡ offset_of P pos' → pos ≡ pos'
one-node P pos pos' R S h g e =
    ⊎_elim (λ u. u)
    (λ u. absurd (⊎_elim (λ b. let l = file-order P pos pos' R S h g b in omega arith) (λ b. let l = file-order P pos' pos S R g h b in omega arith) u))
    (either_order pos pos')
