-- The word at an offset is one: what `word_at` answers of a string that stands there, and that two answers are equal.
use Prim.Native.Nat.{ℕ, ◌+◌, ◌-◌, ◌<◌, ◌≤◌}
use mathlib.Core.Path.{◌≡◌, sym, ◌∙◌, ap}
use mathlib.Core.List.{List}
use native.Mathlib.Omega.{arith}
use lib.ListN.{length, get_or, take, drop, length-take, length-drop}
use Rattle.sexp.specs.Sexp.{str, Stands}
use Rattle.sexp.specs.Strings.{Plain}
use Rattle.sexp.proofs.StandLaws.{string-once}
use Rattle.sexp.proofs.ShortLaws.{short-stands}
use Rattle.packet.specs.declared.Word.{Word}
use Rattle.packet.specs.Table.{word_of}
use Rattle.reader.specs.WordAt.{WordAt, of, no}

-- the octets of a plain string, as the code has them
pub octets-part : {s : List ℕ} {at b n : ℕ} (p : Plain s at b n) → p.octets ≡ take (b + n - b) (drop b s)
octets-part {s} {b = b} {n = n} p = p.lies ∙ ap (λ (k : ℕ). take k (drop b s)) {x = n} {y = b + n - b} (omega arith)

pub word-is : {s : List ℕ} {at : ℕ} {r : Word} {w : List ℕ} → WordAt s at r → Stands s at (str w) → r ≡ word_of w
word-is (of g e) h = e ∙ ap word_of (string-once g h)
word-is (no n e) h = absurd (n _ h)

pub word-answer : (s : List ℕ) (at : ℕ) (r r' : Word) → WordAt s at r → WordAt s at r' → r ≡ r'
word-answer s at r r' (of g e) h = e ∙ sym (word-is h g)
word-answer s at r r' (no n e) (of g f) = absurd (n _ g)
word-answer s at r r' (no n e) (no m f) = e ∙ sym f

-- a word of fewer than ten octets is told by its digit, the colon and its octets
took : (s : List ℕ) (b n : ℕ) → b + n ≤ length s → length (take n (drop b s)) ≡ n
took s b n h = simp (length-take, length-drop) (omega arith)

pub word-short : (s : List ℕ) (at n : ℕ) (r : Word) → n < 10 → at + 2 + n ≤ length s → get_or s at 0 ≡ 48 + n → get_or s (at + 1) 0 ≡ 58 → r ≡ word_of (take n (drop (at + 2) s)) → WordAt s at r
word-short s at n r l i c d e =
    let q = took s (at + 2) n i in
    of
    (short-stands s at {w = take n (drop (at + 2) s)} (omega (arith, q, l)) (record {
      inside = omega (arith, q, i);
      count = omega (arith, q, c);
      colon = d;
      octets = ap (λ (m : ℕ). take m (drop (at + 2) s)) q;
    }))
    e
