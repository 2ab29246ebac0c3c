-- What a text comes to is what it means (Meaning), exactly: for every text and any lengths of the two buffers.
use Prim.Native.Nat.{ℕ, ◌<◌, ◌≤◌}
use mathlib.Core.Path.{◌≡◌, refl, sym, ◌∙◌, ap, ap₂, subst}
use mathlib.Core.Bool.{Bool, true, false}
use mathlib.Core.List.{List}
use mathlib.Core.Logic.{◌↔◌}
use mathlib.Core.Option.{Option, none, some}
use native.Mathlib.Omega.{arith}
use lib.Dec.{ltb}
use lib.ListN.{length}
use borrow.Author.Tests.{ltb-true, ltb-false, lt-ltb, le-ltb}
use Rattle.basics.specs.Choice.{choose, ◌>>=◌, nope, bind-some}
use Rattle.basics.specs.Tells.{Tells, tells-once}
use Rattle.packet.specs.File.{most_bytes}
use Rattle.fof_tokens.specs.Token.{Token}
use Rattle.fof_tokens.specs.Next.{tokens}
use Rattle.fof_tokens.proofs.CutsLaws.{tokens-right, cut-once, no-tokens}
use Rattle.fof_productions.specs.Sound.{Sound, sound}
use Rattle.fof_productions.proofs.Soundly.{sound-exactly, refused-exactly}
use Rattle.fof_truth.specs.Formula.{Role, Line}
use Rattle.fof_truth.specs.Part.{BookInPart}
use Rattle.fof_truth.specs.Book.{sentences_of, with_goal, Book, Why, Outcome, book_of}
use Rattle.fof_truth.specs.Meaning as lines
use Rattle.fof_truth.proofs.PartLaws.{book-exactly}
use Rattle.fof_truth.proofs.BookLaws.{book-told, book-only}
use Rattle.fof_part.specs.Sign.{signs}
use Rattle.fof_part.specs.Spelled.{BookSpelt}
use Rattle.fof_part.specs.Mark.{Mark}
use Rattle.fof_part.specs.Lines.{lines_at, items}
use Rattle.fof_part.specs.Made.{Made, made_of, shown}
use Rattle.fof_part.proofs.SoundLaws as part
use Rattle.fof_part.proofs.OnceLaws.{spelt-once}
use Rattle.fof_part.proofs.ExactLaws.{book-read}
use Rattle.fof_part.proofs.MadeLaws.{book-made}
use Rattle.fof_allowed.proofs.AllowedLaws.{book-sound}
use Rattle.tptp.specs.Comes.{Refusal, Comes, of_made, of_tokens, of_text, comes_to}
use Rattle.tptp.specs.Meaning.{Spells, Holds, Says, Means}

-- the tests as statements
long-text : (text : List ℕ) (a c : ℕ) → most_bytes < length text → comes_to text a c ≡ Comes.refused Refusal.too_long
unfolding comes_to
long-text text a c h =
    ap (λ (t : Bool). choose t (Comes.refused Refusal.too_long) (of_text (sound text) (tokens text) a c)) (lt-ltb most_bytes (length text) h)

pub short-text : (text : List ℕ) (a c : ℕ) (t : Bool) → length text ≤ most_bytes → sound text ≡ t → comes_to text a c ≡ of_text t (tokens text) a c
unfolding comes_to
short-text text a c t h e =
    ap (λ (t : Bool). choose t (Comes.refused Refusal.too_long) (of_text (sound text) (tokens text) a c)) (le-ltb most_bytes (length text) h)
    ∙ ap (λ (t : Bool). of_text t (tokens text) a c) e

-- of a text that spells lines, what crate fof_truth says of them
spelt-text : (text : List ℕ) (a c : ℕ) (ls : List Line) → length text ≤ most_bytes → Spells text ls → comes_to text a c ≡ of_made (shown (book_of ls a c))
spelt-text text a c ls h s =
    short-text text a c true h (tells-once (Sound text) (sound text) true (sound-exactly text) (book-sound text s.cut ls s.cuts s.spelt))
    ∙ ap (λ (o : Option (List Token)). of_tokens o a c) ((tokens-right text s.cut).1 s.cuts)
    ∙ ap of_made (book-made ls (signs s.cut) a c s.spelt)

-- a text spells these lines only if its tokens do
spelt-by : (text : List ℕ) (ts : List Token) (ls : List Line) → tokens text ≡ some ts → Spells text ls → BookSpelt ls (signs ts)
spelt-by text ts ls e s = subst (λ (x : List Token). BookSpelt ls (signs x)) (cut-once text s.cut ts s.cuts ((tokens-right text ts).0 e)) s.spelt

-- a text spells one list of lines at most
pub spells-once : (text : List ℕ) (ls ms : List Line) → Spells text ls → Spells text ms → ls ≡ ms
spells-once text ls ms s t = spelt-once (signs s.cut) ls ms s.spelt (spelt-by text s.cut ms ((tokens-right text s.cut).1 s.cuts) t)

-- where the tokens are no items, no lines of the part are spelt
none-in-part : (text : List ℕ) (ts : List Token) → tokens text ≡ some ts → lines_at (signs ts) ≡ none → (ls : List Line) → Spells text ls → BookInPart ls → ⊥
none-in-part text ts e n ls s p =
    let (b, h) = (book-exactly ls).1 p in
    let (ss, i, r) = bind-some (sentences_of ls) with_goal b h in
    nope (sym n ∙ book-read ls (signs ts) (spelt-by text ts ls e s) ∙ ap (λ o. o >>= λ x. some (items x)) i)

module _ (text : List ℕ) (a c : ℕ) where
  -- what lines come to, said of the text that spells them
  book-means : (ls : List Line) (o : Outcome) → length text ≤ most_bytes → Sound text → Spells text ls → lines.Means ls a c o → Means text a c (of_made (shown o))
  book-means ls o h s p (lines.outside n) = (h, s, λ ms q m. n (subst BookInPart (sym (spells-once text ls ms p q)) m))
  book-means ls o h s p (lines.too_many b i e m) = (b, record { short = h; lines = ls; spells = p; in_part = i; becomes = e }, m)
  book-means ls o h s p (lines.too_deep b i e f m) = (b, record { short = h; lines = ls; spells = p; in_part = i; becomes = e }, f, m)
  book-means ls o h s p (lines.too_long b i e f g m) = (b, record { short = h; lines = ls; spells = p; in_part = i; becomes = e }, f, g, m)
  book-means ls o h s p (lines.written {b = b} i e f g k) =
      record { book = b; holds = record { short = h; lines = ls; spells = p; in_part = i; becomes = e }; few = f; flat = g; short = k; rules = refl; goal = refl }

  -- a text that can be read: its tokens are items of lines that are spelt so, or of none
  tokens-mean : (ts : List Token) → tokens text ≡ some ts → length text ≤ most_bytes → Sound text → (o : Option (List (Role × List Mark))) → lines_at (signs ts) ≡ o → Means text a c (of_made (made_of (lines_at (signs ts)) a c))
  unfolding made_of
  tokens-mean ts e h s none n =
      subst (λ (o : Option (List (Role × List Mark))). Means text a c (of_made (made_of o a c))) (sym n) (h, s, none-in-part text ts e n)
  tokens-mean ts e h s (some its) n =
      let k = part.sound (signs ts) its n in
      subst (λ (m : Made). Means text a c (of_made m)) (sym (book-made k.lines (signs ts) a c k.spelt))
      (book-means k.lines (book_of k.lines a c) h s (record { cut = ts; cuts = (tokens-right text ts).0 e; spelt = k.spelt }) (book-told k.lines a c))

  sound-means : length text ≤ most_bytes → Sound text → (o : Option (List Token)) → tokens text ≡ o → Means text a c (of_tokens o a c)
  sound-means h s none e = absurd ((no-tokens text).0 e s.cut s.cuts)
  sound-means h s (some ts) e = tokens-mean ts e h s (lines_at (signs ts)) refl

  -- what a text comes to is what it means
  pub text-told : Means text a c (comes_to text a c)
  unfolding comes_to
  text-told = go (ltb most_bytes (length text)) refl
    where
      then : (t : Bool) → Tells t (Sound text) → length text ≤ most_bytes → Means text a c (of_text t (tokens text) a c)
      then true s h = sound-means h s (tokens text) refl
      then false s h = (h, s)

      go : (t : Bool) → ltb most_bytes (length text) ≡ t → Means text a c (choose t (Comes.refused Refusal.too_long) (of_text (sound text) (tokens text) a c))
      go true e = ltb-true most_bytes (length text) e
      go false e = then (sound text) (sound-exactly text) (ltb-false most_bytes (length text) e)

  -- a text that holds a book comes to what crate fof_truth says of its lines
  held-text : (b : Book) (h : Holds text b) (o : Outcome) → lines.Means h.lines a c o → comes_to text a c ≡ of_made (shown o)
  held-text b h o m = spelt-text text a c h.lines h.short h.spells ∙ ap (λ (x : Outcome). of_made (shown x)) (book-only h.lines a c o m)

  -- sound lines outside the part
  outside-only : Says text a c (Refusal.lines Why.outside) → (x : Comes) → Means text a c x → x ≡ Comes.refused (Refusal.lines Why.outside)
  outside-only (h, s, n) (Comes.files rs g) m = let k = m.holds in absurd (n k.lines k.spells k.in_part)
  outside-only (h, s, n) (Comes.refused Refusal.too_long) m = absurd (omega arith)
  outside-only (h, s, n) (Comes.refused Refusal.unsound) (i, m) = absurd (m s)
  outside-only (h, s, n) (Comes.refused (Refusal.lines Why.outside)) m = refl
  outside-only (h, s, n) (Comes.refused (Refusal.lines Why.too_many)) (b, k, m) = absurd (n k.lines k.spells k.in_part)
  outside-only (h, s, n) (Comes.refused (Refusal.lines Why.too_deep)) (b, k, f, m) = absurd (n k.lines k.spells k.in_part)
  outside-only (h, s, n) (Comes.refused (Refusal.lines Why.too_long)) (b, k, f, g, m) = absurd (n k.lines k.spells k.in_part)

  -- and nothing else is meant
  pub text-only : (x : Comes) → Means text a c x → comes_to text a c ≡ x
  text-only (Comes.files rs g) m =
      let k = m.holds in
      held-text m.book k (Outcome.written m.book) (lines.written k.in_part k.becomes m.few m.flat m.short)
      ∙ ap₂ Comes.files (sym m.rules) (sym m.goal)
  text-only (Comes.refused Refusal.too_long) m = long-text text a c m
  text-only (Comes.refused Refusal.unsound) (h, m) = short-text text a c false h ((refused-exactly text).1 m)
  text-only (Comes.refused (Refusal.lines Why.outside)) m = outside-only m (comes_to text a c) text-told
  text-only (Comes.refused (Refusal.lines Why.too_many)) (b, k, m) = held-text b k (Outcome.refused Why.too_many) (lines.too_many b k.in_part k.becomes m)
  text-only (Comes.refused (Refusal.lines Why.too_deep)) (b, k, f, m) = held-text b k (Outcome.refused Why.too_deep) (lines.too_deep b k.in_part k.becomes f m)
  text-only (Comes.refused (Refusal.lines Why.too_long)) (b, k, f, g, m) = held-text b k (Outcome.refused Why.too_long) (lines.too_long b k.in_part k.becomes f g m)

  pub text-exactly : (x : Comes) → comes_to text a c ≡ x ↔ Means text a c x
  text-exactly x = (λ e. subst (Means text a c) e text-told, text-only x)
