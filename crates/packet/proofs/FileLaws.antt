-- Refusals 1 to 6 of one file, exactly: the answer of the list of tests is what document 01's table says, line by line in its order, and no other answer is. Over all bytes.
use Prim.Native.Nat.{ℕ, zero, suc, ◌+◌, ◌≤◌, ◌<◌}
use mathlib.Core.Path.{◌≡◌, refl, sym, ◌∙◌, ap, ap₂, subst}
use mathlib.Core.Bool.{Bool, true, false, false≢true}
use mathlib.Core.List.{List, [], ◌∷◌}
use mathlib.Core.Option.{Option, none, some}
use native.Mathlib.Omega.{arith}
use lib.Dec.{ltb}
use lib.ListN.{length}
use borrow.Author.Tests.{ltb-true, ltb-false, lt-ltb, le-ltb}
use Rattle.basics.specs.Choice.{choose, maybe, nope}
use Rattle.sexp.specs.declared.carrier.Carrier.{Carrier}
use Rattle.sexp.specs.declared.carrier.Carrier.TheVariants as C
use Rattle.sexp.specs.Sexp.{Sexp, Sexps, spell, spells, nesting}
use Rattle.sexp.specs.Known.{Known}
use Rattle.sexp.specs.Scan.{hints_read, carrier_of}
use Rattle.sexp.specs.Meaning.{Means}
use Rattle.sexp.specs.Read.{read}
use Rattle.sexp.proofs.Meant.{the-answer-means-what-it-says, only-the-answer-is-meant}
use Rattle.sexp.proofs.ReadLaws.{what-is-spelt-is-read}
use Rattle.sexp.proofs.StandLaws.{cons-length}
use Rattle.packet.specs.declared.Kind.{Kind}
use Rattle.packet.specs.declared.Reason.{Reason}
use Rattle.packet.specs.declared.Reason.TheVariants as R
use Rattle.packet.specs.Wrong.{wrong}
use Rattle.packet.specs.Barred.{barred}
use Rattle.packet.specs.Spells.{Spells}
use Rattle.packet.specs.File.{most_bytes, most_levels, most_members, counted, holds, member_at, surplus, Test, long, faulty, deep, unbuilt, many, unsound, tests, first_of, refusal_of}
use Rattle.packet.specs.Refusal.{Found, Bars, BarredAt, FirstBarred, Unbarred, number, members_after, Few, joined, Surplus, Canonical, Refusal, too_long, not_one, too_deep, not_built, too_many, is_barred, sound}
use Rattle.packet.proofs.BuiltLaws.{Built}
use Rattle.packet.proofs.SpellsLaws.{built-spells}
use Rattle.packet.proofs.ExactLaws.{spells-built}
use Rattle.packet.proofs.FoundLaws.{Says, told}
use Rattle.packet.proofs.MemberLaws.{few-none, none-few, surplus-some, some-surplus}

module _ (k : Kind) (s : List ℕ) where
  -- a test that finds fault, and one that does not
  first_some : (r : Reason) (t : Test) (ts : List (Reason × Test)) (at : ℕ) → t k s ≡ some at → first_of ((r, t) ∷ ts) k s ≡ some (r, at)
  unfolding first_of
  first_some r t ts at h = rw (h, first_of)

  first-none : (r : Reason) (t : Test) (ts : List (Reason × Test)) → t k s ≡ none → first_of ((r, t) ∷ ts) k s ≡ first_of ts k s
  unfolding first_of
  first-none r t ts h = rw (h, first_of)

  -- the tests after the first, after those of the carrier, and so on
  abbrev once_short : List (Reason × Test)
  once_short = (R.Carrier, faulty) ∷ (R.Deep, deep) ∷ (R.Words, unbuilt) ∷ (R.Many, many) ∷ (R.Barred, unsound) ∷ []

  abbrev once_canonical : List (Reason × Test)
  once_canonical = (R.Words, unbuilt) ∷ (R.Many, many) ∷ (R.Barred, unsound) ∷ []

  abbrev once_built : List (Reason × Test)
  once_built = (R.Many, many) ∷ (R.Barred, unsound) ∷ []

  abbrev once_few : List (Reason × Test)
  once_few = (R.Barred, unsound) ∷ []

  -- the file's length
  is-long : most_bytes < length s → refusal_of k s ≡ some (R.Long, most_bytes)
  unfolding refusal_of tests long
  is-long h = first_some R.Long long once_short most_bytes (ap (λ (t : Bool). choose t (some most_bytes) none) (lt-ltb most_bytes (length s) h))

  is-short : length s ≤ most_bytes → refusal_of k s ≡ first_of once_short k s
  unfolding refusal_of tests long
  is-short h = first-none R.Long long once_short (ap (λ (t : Bool). choose t (some most_bytes) none) (le-ltb most_bytes (length s) h))

  -- the carrier's answer
  is-fault : (o : ℕ) → carrier_of most_levels s ≡ C.Fault o → first_of once_short k s ≡ some (R.Carrier, o)
  unfolding faulty
  is-fault o h = first_some R.Carrier faulty ((R.Deep, deep) ∷ once_canonical) o (rw (h, faulty))

  is-deep : (o : ℕ) → carrier_of most_levels s ≡ C.Deep o → first_of once_short k s ≡ some (R.Deep, o)
  unfolding faulty deep
  is-deep o h = first-none R.Carrier faulty ((R.Deep, deep) ∷ once_canonical) (rw (h, faulty)) ∙ first_some R.Deep deep once_canonical o (rw (h, deep))

  is-sound : carrier_of most_levels s ≡ C.Sound → first_of once_short k s ≡ first_of once_canonical k s
  unfolding faulty deep
  is-sound h = first-none R.Carrier faulty ((R.Deep, deep) ∷ once_canonical) (rw (h, faulty)) ∙ first-none R.Deep deep once_canonical (rw (h, deep))

  -- the tests of the expression
  module _ (e : Sexp) (h : spell e ≡ s) where
    reads : read s ≡ some e
    reads = ap read (sym h) ∙ what-is-spelt-is-read e

    asks-words : unbuilt k s ≡ wrong k 0 e
    unfolding unbuilt
    asks-words = ap (λ (o : Option Sexp). maybe o none λ x. wrong k 0 x) reads

    asks-many : many k s ≡ surplus k e
    unfolding many
    asks-many = ap (λ (o : Option Sexp). maybe o none λ x. surplus k x) reads

    asks-barred : unsound k s ≡ barred (holds k) 0 0 e
    unfolding unsound
    asks-barred = ap (λ (o : Option Sexp). maybe o none λ x. barred (holds k) 0 0 x) reads

    is-unbuilt : (o : ℕ) → wrong k 0 e ≡ some o → first_of once_canonical k s ≡ some (R.Words, o)
    is-unbuilt o w = first_some R.Words unbuilt once_built o (asks-words ∙ w)

    is-built : wrong k 0 e ≡ none → first_of once_canonical k s ≡ first_of once_built k s
    is-built w = first-none R.Words unbuilt once_built (asks-words ∙ w)

    is-many : (o : ℕ) → surplus k e ≡ some o → first_of once_built k s ≡ some (R.Many, o)
    is-many o w = first_some R.Many many once_few o (asks-many ∙ w)

    is-few : surplus k e ≡ none → first_of once_built k s ≡ first_of once_few k s
    is-few w = first-none R.Many many once_few (asks-many ∙ w)

    is-unsound : (o : ℕ) → barred (holds k) 0 0 e ≡ some o → first_of once_few k s ≡ some (R.Barred, o)
    is-unsound o w = first_some R.Barred unsound [] o (asks-barred ∙ w)

    is_free : barred (holds k) 0 0 e ≡ none → first_of once_few k s ≡ none
    unfolding first_of
    is_free w = first-none R.Barred unsound [] (asks-barred ∙ w)

  -- what the answers mean, from the last test to the first
  told-few : (e : Sexp) → Canonical s e → Spells k e → Few k e → Refusal k s (first_of once_few k s)
  told-few e c t f = go (barred (holds k) 0 0 e) refl (told e (holds k) 0 0)
    where
      go : (o : Option ℕ) → barred (holds k) 0 0 e ≡ o → Says (holds k) (Found 0 0 e) o → Refusal k s (first_of once_few k s)
      go none g u = subst (Refusal k s) (sym (is_free e c.spelt g)) (sound c t f λ o (m, x, v, b). u m o x v b)
      go (some o) g (u, v) =
          subst (Refusal k s) (sym (is-unsound e c.spelt o g)) (is_barred c t f (record { stands = u; before = λ p (m, x, w, b). v m p x w b }))

  told-built : (e : Sexp) → Canonical s e → Spells k e → Refusal k s (first_of once_built k s)
  told-built e c t = go (surplus k e) refl
    where
      go : (o : Option ℕ) → surplus k e ≡ o → Refusal k s (first_of once_built k s)
      go none g = subst (Refusal k s) (sym (is-few e c.spelt g)) (told-few e c t (few-none k e g))
      go (some o) g = subst (Refusal k s) (sym (is-many e c.spelt o g)) (too_many c t (surplus-some k e o g))

  told-canonical : (e : Sexp) → Canonical s e → Refusal k s (first_of once_canonical k s)
  told-canonical e c = go (wrong k 0 e) refl
    where
      go : (o : Option ℕ) → wrong k 0 e ≡ o → Refusal k s (first_of once_canonical k s)
      go none g = subst (Refusal k s) (sym (is-built e c.spelt g)) (told-built e c (built-spells e k 0 g))
      go (some o) g =
          subst (Refusal k s) (sym (is-unbuilt e c.spelt o g))
          (not_built c (λ t. nope (sym ((spells-built k e t).clean 0) ∙ g)) g)

  told-short : length s ≤ most_bytes → Refusal k s (first_of once_short k s)
  told-short l = go (carrier_of most_levels s) refl (the-answer-means-what-it-says s most_levels)
    where
      go : (c : Carrier) → carrier_of most_levels s ≡ c → Means s most_levels c → Refusal k s (first_of once_short k s)
      go C.Sound g (e, y, w, d) = subst (Refusal k s) (sym (is-sound g)) (told-canonical e (record { short = l; known = y; spelt = w; flat = d }))
      go (C.Fault o) g (u, v) = subst (Refusal k s) (sym (is-fault o g)) (not_one l u v)
      go (C.Deep o) g (e, y, w, d) = subst (Refusal k s) (sym (is-deep o g)) (too_deep l y w d)

-- the answer is what the table says
pub the-answer-is-the-table's : (k : Kind) (s : List ℕ) → Refusal k s (refusal_of k s)
the-answer-is-the-table's k s = go (ltb most_bytes (length s)) refl
  where
    go : (t : Bool) → ltb most_bytes (length s) ≡ t → Refusal k s (refusal_of k s)
    go true g = let l = ltb-true most_bytes (length s) g in subst (Refusal k s) (sym (is-long k s l)) (too_long l)
    go false g = let l = ltb-false most_bytes (length s) g in subst (Refusal k s) (sym (is-short k s l)) (told-short k s l)

-- the first barred term is where it is
first-barred : (k : Kind) (e : Sexp) (o : ℕ) → FirstBarred k e o → barred (holds k) 0 0 e ≡ some o
first-barred k e o f = go (barred (holds k) 0 0 e) refl (told e (holds k) 0 0)
  where
    go : (a : Option ℕ) → barred (holds k) 0 0 e ≡ a → Says (holds k) (Found 0 0 e) a → barred (holds k) 0 0 e ≡ some o
    go none g u = let (m, x, v, b) = f.stands in absurd (u m o x v b)
    go (some p) g ((m, x, v, b), u) =
        let (m', x', v', b') = f.stands in
        let y = f.before p (m, x, v, b) in
        let z = u m' o x' v' b' in
        g ∙ ap some {x = p} {y = o} (omega arith)

-- nothing barred stands in it exactly if Barred has no place
pub none-barred : (k : Kind) (e : Sexp) → Unbarred k e → barred (holds k) 0 0 e ≡ none
none-barred k e f = go (barred (holds k) 0 0 e) refl (told e (holds k) 0 0)
  where
    go : (a : Option ℕ) → barred (holds k) 0 0 e ≡ a → Says (holds k) (Found 0 0 e) a → barred (holds k) 0 0 e ≡ none
    go none g u = g
    go (some p) g ((m, x, v, b), u) = absurd (f p (m, x, v, b))

pub barred-none : (k : Kind) (e : Sexp) → barred (holds k) 0 0 e ≡ none → Unbarred k e
barred-none k e h = let f = subst (Says (holds k) (Found 0 0 e)) h (told e (holds k) 0 0) in λ o (m, x, v, b). f m o x v b

-- the answers, line by line
module _ (k : Kind) (s : List ℕ) where
  canonical-answer : (e : Sexp) → Canonical s e → refusal_of k s ≡ first_of (once_canonical k s) k s
  canonical-answer e c =
      is-short k s c.short ∙ is-sound k s (sym (only-the-answer-is-meant s most_levels C.Sound (e, c.known, c.spelt, c.flat)))

  built-answer : (e : Sexp) → Canonical s e → Spells k e → refusal_of k s ≡ first_of (once_built k s) k s
  built-answer e c t = canonical-answer e c ∙ is-built k s e c.spelt ((spells-built k e t).clean 0)

  few-answer : (e : Sexp) → Canonical s e → Spells k e → Few k e → refusal_of k s ≡ first_of (once_few k s) k s
  few-answer e c t f = built-answer e c t ∙ is-few k s e c.spelt (none-few k e f)

-- and no other answer is
pub only-the-table's-is-the-answer : (k : Kind) (s : List ℕ) (r : Option (Reason × ℕ)) → Refusal k s r → refusal_of k s ≡ r
only-the-table's-is-the-answer k s r (too_long l) = is-long k s l
only-the-table's-is-the-answer k s r (not_one {o = o} l u v) =
    is-short k s l ∙ is-fault k s o (sym (only-the-answer-is-meant s most_levels (C.Fault o) (u, v)))
only-the-table's-is-the-answer k s r (too_deep {e = e} {o = o} l y w d) =
    is-short k s l ∙ is-deep k s o (sym (only-the-answer-is-meant s most_levels (C.Deep o) (e, y, w, d)))
only-the-table's-is-the-answer k s r (not_built {e = e} {o = o} c t g) = canonical-answer k s e c ∙ is-unbuilt k s e c.spelt o g
only-the-table's-is-the-answer k s r (too_many {e = e} {o = o} c t m) =
    built-answer k s e c t ∙ is-many k s e c.spelt o (some-surplus k e o m)
only-the-table's-is-the-answer k s r (is_barred {e = e} {o = o} c t f b) =
    few-answer k s e c t f ∙ is-unsound k s e c.spelt o (first-barred k e o b)
only-the-table's-is-the-answer k s r (sound {e = e} c t f u) = few-answer k s e c t f ∙ is_free k s e c.spelt (none-barred k e u)

-- so each file has one answer, and any two that the table allows are equal
pub one_answer : (k : Kind) (s : List ℕ) (a b : Option (Reason × ℕ)) → Refusal k s a → Refusal k s b → a ≡ b
one_answer k s a b h g = sym (only-the-table's-is-the-answer k s a h) ∙ only-the-table's-is-the-answer k s b g
