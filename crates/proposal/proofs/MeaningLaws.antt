-- The answer of a search is what document 01's table says, line by line in its order, over all inputs; and no other answer is.
use Prim.Native.Nat.{ℕ, min, ◌≤◌, ◌<◌}
use mathlib.Core.Path.{◌≡◌, refl, sym, ◌∙◌, ap, subst}
use mathlib.Core.Bool.{Bool, true, false}
use mathlib.Core.List.{List}
use mathlib.Core.Logic.{◌⊎◌, inl, inr, ◌↔◌}
use mathlib.Core.Option.{Option, none, some}
use native.Mathlib.Omega.{arith}
use lib.Dec.{ltb, leb}
use lib.ListN.{length}
use borrow.Author.Tests.{ltb-true, ltb-false, leb-true, leb-false, lt-ltb, le-ltb, le-leb, lt-leb}
use Rattle.basics.specs.Choice.{choose}
use Rattle.harrop.specs.Formula.{Strip}
use Rattle.harrop.specs.Search.{first_at}
use Rattle.harrop.proofs.Finding.{nothing-found-no-proof, no-proof-nothing-found, found-is-the-first, the-first-is-found}
use Rattle.packet.specs.declared.Reason.{Reason}
use Rattle.packet.specs.declared.Reason.TheVariants as R
use Rattle.packet.specs.declared.File.{File}
use Rattle.packet.specs.declared.File.TheVariants as F
use Rattle.packet.specs.File.{most_bytes, Outcome, Books, books_of}
use Rattle.packet.specs.Sound.{BooksMean}
use Rattle.packet.proofs.PacketLaws.{books-told, books-only}
use Rattle.room.specs.Layout.{words}
use Rattle.drawing.specs.Spelled.{written}
use Rattle.proposal.specs.Proposed.{most_height, Comes, first_strip, unless_long, of_first, of_books, comes_to}
use Rattle.proposal.specs.Meaning.{start, offered, Searched, TheFirst, Provable, Told, no_room, too_high, at_fault, no_proof, too_long, wrote}

-- a strip that is not too long, and one that is
pub unless-fits : (size : ℕ) (S : Strip) → length (written S) ≤ min size most_bytes → unless_long size S ≡ Comes.writes S
unfolding unless_long
unless-fits size S l = ap (λ (t : Bool). choose t (Comes.writes S) (Comes.refuses R.Buffer F.None)) (le-leb (length (written S)) (min size most_bytes) l)

pub unless-long : (size : ℕ) (S : Strip) → min size most_bytes < length (written S) → unless_long size S ≡ Comes.refuses R.Buffer F.None
unfolding unless_long
unless-long size S l = ap (λ (t : Bool). choose t (Comes.writes S) (Comes.refuses R.Buffer F.None)) (lt-leb (length (written S)) (min size most_bytes) l)

either-long : (size n : ℕ) → min size most_bytes < n → (size < n) ⊎ (most_bytes < n)
either-long size n l = go (ltb size n) refl
  where
    go : (t : Bool) → ltb size n ≡ t → (size < n) ⊎ (most_bytes < n)
    go true e = inl (ltb-true size n e)
    go false e = inr (omega (arith, ltb-false size n e))

long-either : (size n : ℕ) → (size < n) ⊎ (most_bytes < n) → min size most_bytes < n
long-either size n (inl l) = omega arith
long-either size n (inr l) = omega arith

module _ (h size room : ℕ) (rs gs ts : List ℕ) where
  abbrev Means : Comes → Type 0
  Means x = Told h size room rs gs ts x

  -- the tests in turn
  pub on_room : room < words → comes_to h size room rs gs ts ≡ Comes.refuses R.Room F.None
  unfolding comes_to
  on_room l =
      ap (λ (t : Bool). choose t (Comes.refuses R.Room F.None) (choose (ltb most_height h) (Comes.refuses R.Height F.None) (of_books h size (books_of rs gs ts)))) (lt-ltb room words l)

  once-roomy : words ≤ room → comes_to h size room rs gs ts ≡ choose (ltb most_height h) (Comes.refuses R.Height F.None) (of_books h size (books_of rs gs ts))
  unfolding comes_to
  once-roomy l =
      ap (λ (t : Bool). choose t (Comes.refuses R.Room F.None) (choose (ltb most_height h) (Comes.refuses R.Height F.None) (of_books h size (books_of rs gs ts)))) (le-ltb room words l)

  pub on-height : words ≤ room → most_height < h → comes_to h size room rs gs ts ≡ Comes.refuses R.Height F.None
  on-height l m = once-roomy l ∙ ap (λ (t : Bool). choose t (Comes.refuses R.Height F.None) (of_books h size (books_of rs gs ts))) (lt-ltb most_height h m)

  pub once-low : words ≤ room → h ≤ most_height → comes_to h size room rs gs ts ≡ of_books h size (books_of rs gs ts)
  once-low l m = once-roomy l ∙ ap (λ (t : Bool). choose t (Comes.refuses R.Height F.None) (of_books h size (books_of rs gs ts))) (le-ltb most_height h m)

  pub on-refused : words ≤ room → h ≤ most_height → (r : Reason) (f : File) (at : ℕ) → books_of rs gs ts ≡ Outcome.refused r f at → comes_to h size room rs gs ts ≡ Comes.refuses r f
  unfolding of_books
  on-refused l m r f at e = once-low l m ∙ ap (of_books h size) e

  pub once-read : words ≤ room → h ≤ most_height → (b : Books) → books_of rs gs ts ≡ Outcome.sound b → comes_to h size room rs gs ts ≡ of_first size (first_at (offered b) h (start b))
  unfolding of_books first_strip
  once-read l m b e = once-low l m ∙ ap (of_books h size) e

  -- the answer is what the table says
  of-strip : (b : Books) → Searched h room rs gs ts b → (S : Strip) → TheFirst h b S → Means (unless_long size S)
  of-strip b s S f = go (leb (length (written S)) (min size most_bytes)) refl
    where
      go : (t : Bool) → leb (length (written S)) (min size most_bytes) ≡ t → Means (unless_long size S)
      go true e =
          let l = leb-true (length (written S)) (min size most_bytes) e in
          subst Means (sym (unless-fits size S l)) (wrote s f (omega arith) (omega arith))
      go false e =
          let l = leb-false (length (written S)) (min size most_bytes) e in
          subst Means (sym (unless-long size S l)) (too_long s f (either-long size (length (written S)) l))

  of_books_lem : words ≤ room → h ≤ most_height → (o : Outcome Books) → books_of rs gs ts ≡ o → BooksMean rs gs ts o → Means (of_books h size o)
  unfolding of_books of_first first_strip
  of_books_lem l m (Outcome.refused r f at) e k = at_fault l m k
  of_books_lem l m (Outcome.sound b) e k = go (first_at (offered b) h (start b)) refl
    where
      go : (x : Option Strip) → first_at (offered b) h (start b) ≡ x → Means (of_first size x)
      go none n = no_proof (record { roomy = l; low = m; books = k }) (nothing-found-no-proof (offered b) h (start b) n)
      go (some S) n = of-strip b (record { roomy = l; low = m; books = k }) S (found-is-the-first (offered b) h (start b) S n)

  pub the-answer-is-the-table's : Means (comes_to h size room rs gs ts)
  the-answer-is-the-table's = go (ltb room words) (ltb most_height h) refl refl
    where
      go : (t u : Bool) → ltb room words ≡ t → ltb most_height h ≡ u → Means (comes_to h size room rs gs ts)
      go true u e f = let l = ltb-true room words e in subst Means (sym (on_room l)) (no_room l)
      go false true e f =
          let l = ltb-false room words e in
          let m = ltb-true most_height h f in
          subst Means (sym (on-height l m)) (too_high l m)
      go false false e f =
          let l = ltb-false room words e in
          let m = ltb-false most_height h f in
          subst Means (sym (once-low l m)) (of_books_lem l m (books_of rs gs ts) refl (books-told rs gs ts))

  -- what a sound packet comes to
  searched : (b : Books) → Searched h room rs gs ts b → comes_to h size room rs gs ts ≡ of_first size (first_at (offered b) h (start b))
  searched b s = once-read s.roomy s.low b (books-only rs gs ts (Outcome.sound b) s.books)

  searched-first : (b : Books) (S : Strip) → Searched h room rs gs ts b → TheFirst h b S → comes_to h size room rs gs ts ≡ unless_long size S
  unfolding of_first
  searched-first b S s f = searched b s ∙ ap (of_first size) (the-first-is-found (offered b) h (start b) S f)

  searched-none : (b : Books) → Searched h room rs gs ts b → (Provable h b → ⊥) → comes_to h size room rs gs ts ≡ Comes.refuses R.NoProof F.None
  unfolding of_first
  searched-none b s n = searched b s ∙ ap (of_first size) (no-proof-nothing-found (offered b) h (start b) n)

  -- and no other answer is
  pub only-the-table's-is-the-answer : (x : Comes) → Means x → comes_to h size room rs gs ts ≡ x
  only-the-table's-is-the-answer x (no_room l) = on_room l
  only-the-table's-is-the-answer x (too_high l m) = on-height l m
  only-the-table's-is-the-answer x (at_fault {r = r} {f = f} {at = at} l m k) = on-refused l m r f at (books-only rs gs ts (Outcome.refused r f at) k)
  only-the-table's-is-the-answer x (no_proof {b = b} s n) = searched-none b s n
  only-the-table's-is-the-answer x (too_long {b = b} {S = S} s f l) = searched-first b S s f ∙ unless-long size S (long-either size (length (written S)) l)
  only-the-table's-is-the-answer x (wrote {b = b} {S = S} s f l m) = searched-first b S s f ∙ unless-fits size S (omega arith)

  pub the-table-exactly : (x : Comes) → comes_to h size room rs gs ts ≡ x ↔ Means x
  the-table-exactly x = (λ e. subst Means e the-answer-is-the-table's, only-the-table's-is-the-answer x)
