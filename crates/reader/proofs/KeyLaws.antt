-- The number of a word's octets tells the word: no two strings have the same number, so the code's match on it finds the word of the table.
use Prim.Native.Nat.{ℕ, zero, suc, ◌+◌, ◌*◌, ◌≤◌, ◌<◌}
use mathlib.Core.Path.{◌≡◌, refl, sym, ◌∙◌, ap, ap₂}
use mathlib.Core.Bool.{Bool, true, false, ◌&&◌}
use mathlib.Core.List.{List, [], ◌∷◌}
use native.Mathlib.Numerals.{add-one}
use native.Mathlib.Omega.{arith}
use lib.Dec.{leb, ltb}
use lib.ListN.{length, get_or, drop, take}
use lib.Seq.{drop-cons}
use borrow.Author.Tests.{leb-true, ltb-true, ltb-false}
use Rattle.basics.specs.Choice.{choose, both_true}
use Rattle.harrop.specs.Bindings.{same_name}
use Rattle.harrop.proofs.SameLaws.{same-names-equal}
use Rattle.sexp.specs.Meaning.{Octets}
use Rattle.packet.specs.declared.Word.{Word}
use Rattle.packet.specs.declared.Word.TheVariants as W
use Rattle.packet.specs.Table.{words, look_for, word_of}
use Rattle.reader.specs.Key.{key_from, key_of, Keyed}

-- more octets make no smaller number
key-grows : (k : ℕ) (w : List ℕ) → k ≤ key_from k w
unfolding key_from
key-grows k [] = omega arith
key-grows k (c ∷ w) = let h = key-grows (k * 256 + c) w in omega arith

-- a number that begins higher and has as many octets left ends higher
key_above : (k j : ℕ) (v w : List ℕ) → Octets v → k < j → length v ≤ length w → key_from k v < key_from j w
unfolding key_from
key_above k j [] w o l n = let h = key-grows j w in omega arith
key_above k j (c ∷ v) [] o l n = absurd (omega arith)
key_above k j (c ∷ v) (d ∷ w) o l n = key_above (k * 256 + c) (j * 256 + d) v w o.1 (let h = o.0 in omega arith) (omega arith)

key-longer : (k : ℕ) (v w : List ℕ) → Octets v → 0 < k → length v < length w → key_from k v < key_from k w
unfolding key_from
key-longer k v [] o p n = absurd (omega arith)
key-longer k v (d ∷ w) o p n = key_above k (k * 256 + d) v w o (omega arith) (omega arith)

-- of strings as long as each other
key-alike : (k j : ℕ) (v w : List ℕ) → Octets v → Octets w → length v ≡ length w → key_from k v ≡ key_from j w → (k ≡ j) × (v ≡ w)
unfolding key_from
key-alike k j [] [] o p n e = (e, refl)
key-alike k j [] (d ∷ w) o p n e = absurd (omega arith)
key-alike k j (c ∷ v) [] o p n e = absurd (omega arith)
key-alike k j (c ∷ v) (d ∷ w) o p n e =
    let (a, b) = key-alike (k * 256 + c) (j * 256 + d) v w o.1 p.1 (omega arith) e in
    let x = o.0 in
    let y = p.0 in
    (omega arith, ap₂ {C = List ℕ} ◌∷◌ (omega arith) b)

-- no two strings have the same number
key-once : (v w : List ℕ) → Octets v → Octets w → key_of v ≡ key_of w → v ≡ w
unfolding key_of
key-once v w o p e = go (ltb (length v) (length w)) refl (ltb (length w) (length v)) refl
  where
    go : (a : Bool) → ltb (length v) (length w) ≡ a → (b : Bool) → ltb (length w) (length v) ≡ b → v ≡ w
    go true h b g = let x = key-longer 1 v w o (omega arith) (ltb-true (length v) (length w) h) in absurd (omega arith)
    go false h true g = let x = key-longer 1 w v p (omega arith) (ltb-true (length w) (length v) g) in absurd (omega arith)
    go false h false g = (key-alike 1 1 v w o p (let x = ltb-false (length v) (length w) h in let y = ltb-false (length w) (length v) g in omega arith) e).1

-- a string is of octets, as a test
abbrev pub within : List ℕ → Bool
within [] = true
within (c ∷ w) = ltb c 256 && within w

octets-within : (w : List ℕ) → within w ≡ true → Octets w
octets-within [] h = tt
octets-within (c ∷ w) h = let (a, b) = both_true (ltb c 256) (within w) h in (ltb-true c 256 a, octets-within w b)

-- the number of a word is that of no other string
pub hit : (v w : List ℕ) (k : ℕ) → within v ≡ true → Keyed w k → k ≡ key_of v → word_of v ≡ word_of w
hit v w k o h e = ap word_of (key-once v w (octets-within v o) h.octets (sym e ∙ h.key))

-- the number is that of none of these strings, one after the other
abbrev pub Missed : List (List ℕ × Word) → ℕ → Type 0 → Type 0
Missed [] k N = N
Missed (r ∷ rs) k N = Missed rs k (N × (k ≡ key_of r.0 → ⊥))

-- two strings that are not equal are not the same
pub differ : (v w : List ℕ) → (v ≡ w → ⊥) → same_name v w ≡ false
differ v w n = go (same_name v w) refl
  where
    go : (b : Bool) → same_name v w ≡ b → b ≡ false
    go true e = absurd (n (same-names-equal v w e))
    go false e = refl

pub miss : (rs : List (List ℕ × Word)) (w : List ℕ) (k : ℕ) (N : Type 0) → Keyed w k → Missed rs k N → N × (look_for w rs ≡ W.Nothing)
miss [] w k N h m = (m, refl)
miss (r ∷ rs) w k N h m =
    let ((n, x), e) = miss rs w k (N × (k ≡ key_of r.0 → ⊥)) h m in
    (n, ap (λ (b : Bool). choose b r.1 (look_for w rs)) (differ w r.0 (λ q. x (h.key ∙ ap key_of q))) ∙ e)

-- no string longer than these is one of them
abbrev short : List (List ℕ × Word) → Bool
short [] = true
short (r ∷ rs) = leb (length r.0) 5 && short rs

longer : (rs : List (List ℕ × Word)) (w : List ℕ) → 5 < length w → short rs ≡ true → look_for w rs ≡ W.Nothing
longer [] w l h = refl
longer (r ∷ rs) w l h =
    let (a, b) = both_true (leb (length r.0) 5) (short rs) h in
    let n = leb-true (length r.0) 5 a in
    ap (λ (t : Bool). choose t r.1 (look_for w rs)) (differ w r.0 (λ q. let z = ap length q in omega arith)) ∙ longer rs w l b

pub too_long : (w : List ℕ) → 5 < length w → W.Nothing ≡ word_of w
unfolding word_of
too_long w h = sym (longer words w h refl)

-- the octets are being read: k is the number of those before i, and the rest are still to come
pub key-start : (w : List ℕ) → key_from 1 (drop 0 w) ≡ key_of w
unfolding key_of
key-start w = refl

pub key-next : (w : List ℕ) (i k : ℕ) → i < length w → key_from k (drop i w) ≡ key_of w → key_from (k * 256 + get_or w i 0) (drop (i + 1) w) ≡ key_of w
unfolding key_from
key-next w i k h e = sym (ap (key_from k) (drop-cons w i 0 h ∙ ap (λ (m : ℕ). get_or w i 0 ∷ drop m w) {x = suc i} {y = i + 1} (omega arith))) ∙ e

pub key-end : (w : List ℕ) (k : ℕ) → ((i : ℕ) → get_or w i 0 < 256) → key_from k (drop (length w) w) ≡ key_of w → Keyed w k
unfolding key_from
key-end w k o e = record { octets = all w o; key = sym (ap (key_from k) (nothing w)) ∙ e }
  where
    all : (v : List ℕ) → ((i : ℕ) → get_or v i 0 < 256) → Octets v
    all [] f = tt
    all (c ∷ v) f = (f 0, all v (λ i. f (suc i)))

    nothing : (v : List ℕ) → drop (length v) v ≡ []
    nothing [] = refl
    nothing (c ∷ v) = nothing v

-- the number of three octets and of four, from an offset of any bytes
module _ (s : List ℕ) (a : ℕ) (o : (i : ℕ) → get_or s i 0 < 256) where
  abbrev pub three : ℕ
  three = 16777216 + get_or s a 0 * 65536 + get_or s (a + 1) 0 * 256 + get_or s (a + 2) 0

  pub keyed-three : a + 3 ≤ length s → Keyed (take 3 (drop a s)) three
  unfolding key_of key_from
  keyed-three p =
      let y = ap (λ (i : ℕ). get_or s i 0) {x = suc a} {y = a + 1} (omega arith) in
      let z = ap (λ (i : ℕ). get_or s i 0) {x = suc (suc a)} {y = a + 2} (omega arith) in
      rw (drop-cons s a 0 (omega arith), drop-cons s (suc a) 0 (omega arith), drop-cons s (suc (suc a)) 0 (omega arith))
      (record { octets = (o a, (o (suc a), (o (suc (suc a)), tt))); key = omega (arith, y, z) })

  pub keyed-four : a + 4 ≤ length s → Keyed (take 4 (drop a s)) (4294967296 + get_or s a 0 * 16777216 + get_or s (a + 1) 0 * 65536 + get_or s (a + 2) 0 * 256 + get_or s (a + 3) 0)
  unfolding key_of key_from
  keyed-four p =
      let y = ap (λ (i : ℕ). get_or s i 0) {x = suc a} {y = a + 1} (omega arith) in
      let z = ap (λ (i : ℕ). get_or s i 0) {x = suc (suc a)} {y = a + 2} (omega arith) in
      let u = ap (λ (i : ℕ). get_or s i 0) {x = suc (suc (suc a))} {y = a + 3} (omega arith) in
      rw (drop-cons s a 0 (omega arith), drop-cons s (suc a) 0 (omega arith), drop-cons s (suc (suc a)) 0 (omega arith), drop-cons s (suc (suc (suc a))) 0 (omega arith))
      (record { octets = (o a, (o (suc a), (o (suc (suc a)), (o (suc (suc (suc a))), tt)))); key = omega (arith, y, z, u) })

-- the numbers stay small: before i octets are read, below this
unfoldable pub top : ℕ → ℕ
top zero = 2
top (suc i) = top i * 256

top-low : (i : ℕ) → i < 5 → top i ≤ 8589934592
unfolding top
top-low zero h = omega arith
top-low (suc zero) h = omega arith
top-low (suc (suc zero)) h = omega arith
top-low (suc (suc (suc zero))) h = omega arith
top-low (suc (suc (suc (suc zero)))) h = omega arith
top-low (suc (suc (suc (suc (suc i))))) h = absurd (omega arith)

pub key_fits : (i n k b : ℕ) → i < n → n ≤ 5 → k < top i → b < 256 → (k * 256 + b < top (i + 1)) × (k * 256 + b < 2199023255552)
unfolding top
key_fits i n k b h m t o =
    let e : top (i + 1) ≡ top i * 256 = rw add-one refl in
    let l = top-low i (omega arith) in
    (omega arith, omega arith)
