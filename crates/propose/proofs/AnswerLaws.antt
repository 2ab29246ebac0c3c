-- What a search answers, put together: of a packet that is read from its parts, then of any height and files, then of any room; each with the buffer and the room afterwards.
use Prim.Native.Nat.{ℕ, min, ◌≤◌, ◌<◌}
use native.Mathlib.Omega.{arith}
use mathlib.Core.Path.{◌≡◌, refl, sym, ◌∙◌, ap, ap₂, subst}
use mathlib.Core.Bool.{Bool, true, false, false≢true}
use mathlib.Core.List.{List}
use mathlib.Core.Option.{Option, none, some}
use lib.ListN.{length, take, replicate}
use lib.Seq.{length-take-le}
use Rattle.std.specs.Prelude.{Result, Ok, Err}
use Rattle.harrop.specs.Formula.{Strip, height, nodes}
use Rattle.packet.specs.declared.Reason.{Reason}
use Rattle.packet.specs.declared.Reason.TheVariants as R
use Rattle.packet.specs.declared.File.{File}
use Rattle.packet.specs.declared.File.TheVariants as F
use Rattle.packet.specs.File.{most_bytes, Outcome, Books, books_of}
use Rattle.reader.specs.declared.files.Counts.{Counts}
use Rattle.reader.specs.declared.files.Refusal.{Refusal}
use Rattle.reader.specs.Judged.{books_read}
use Rattle.packet.specs.Sound.{SoundBooks, BooksMean}
use Rattle.packet.proofs.PacketLaws.{books-told}
use Rattle.room.specs.Files.{Files, files_of}
use Rattle.room.specs.Layout.{words}
use Rattle.room.proofs.StartLaws.{cleared, untouched}
use Rattle.proving.specs.Provable.{is_some}
use Rattle.drawing.specs.Spelled.{written}
use Rattle.pen.specs.Laid.{counted, Puts}
use Rattle.pen.proofs.LaidLaws.{puts-as, laid-over}
use Rattle.drawing.specs.declared.Drawn.{Drawn}
use Rattle.proposal.specs.declared.Proposal.{Proposal}
use Rattle.proposal.specs.declared.Proposal.TheVariants as P
use Rattle.proposal.specs.Proposed.{most_height, Comes, first_strip, unless_long, of_first, of_books, comes_to, proposal, proposal_of, over, left, buffer_after, paper, Proposes}
use Rattle.propose.specs.Parts.{SetOut, Telling, Measuring, Handing, Filling, Says, Searching, Answering}
use Rattle.proposal.proofs.MeaningLaws.{unless-fits, unless-long, on_room, on-height, on-refused, once-low}
use Rattle.proposal.proofs.WrittenLaws.{front-filled}

-- a refusal leaves the buffer as it came
pub refusing : (x : Comes) (r : Reason) (f : File) (d : List ℕ) (q : Proposal) → x ≡ Comes.refuses r f → q ≡ proposal (Comes.refuses r f) → Says x d d q
unfolding left
refusing x r f d q e a = record { answer = a ∙ ap proposal (sym e); strip = ap (λ (y : Comes). left y d) (sym e) }

-- whether there is an answer, told by yes or no
yes-some : {A : Type 0} (o : Option A) (r : Bool) → r ≡ is_some o → r ≡ true → (a : A) × (o ≡ some a)
yes-some none r e t = absurd (false≢true (sym e ∙ t))
yes-some (some a) r e t = (a, refl)

no_none : {A : Type 0} (o : Option A) (r : Bool) → r ≡ is_some o → r ≡ false → o ≡ none
no_none none r e t = refl
no_none (some a) r e t = absurd (false≢true (sym t ∙ e))

-- what is counted tells whether it is too long
counted-long : (size n m : ℕ) → m ≡ counted n → min size most_bytes < m → min size most_bytes < n
counted-long size n m e l = omega arith

counted-short : (size n m : ℕ) → m ≡ counted n → m ≤ min size most_bytes → (n ≤ min size most_bytes) × (m ≡ n)
counted-short size n m e l = (omega arith, omega arith)

-- a strip that the buffer has no room for, by what is counted of it
no_room : (S : Strip) (d : List ℕ) (n : ℕ) (q : Proposal) → n ≡ counted (length (written S)) → min (length d) most_bytes < n → q ≡ proposal (Comes.refuses R.Buffer F.None) → Says (unless_long (length d) S) d d q
no_room S d n q e l a = refusing (unless_long (length d) S) R.Buffer F.None d q (unless-long (length d) S (counted-long (length d) (length (written S)) n e l)) a

-- the strip that is written, by its measures
finding : (x : Comes) (S : Strip) (d d' : List ℕ) (m : Drawn) → x ≡ Comes.writes S → m.height ≡ height S → m.nodes ≡ nodes S → m.at ≡ length (written S) → d' ≡ over (written S) d → Says x d d' (P.Found m.height m.nodes m.at)
unfolding left proposal
finding x S d d' m e u v w z =
    record {
      answer = ap₂ (λ a b. P.Found a b m.at) u v ∙ ap (P.Found (height S) (nodes S)) w ∙ ap proposal (sym e);
      strip = z ∙ ap (λ (y : Comes). left y d) (sym e);
    }

-- the strip's bytes copied from the front of the scratch buffer
copied : (w z z' d d' : List ℕ) (n next : ℕ) → z' ≡ over w z → n ≡ length w → Puts 0 (take n z') d d' next → length w ≤ length d → length w ≤ most_bytes → d' ≡ over w d
unfolding over
copied w z z' d d' n next e k p l m =
    let front : take n z' ≡ w = ap (λ (y : List ℕ). take n y) e ∙ ap (λ (i : ℕ). take i (over w z)) k ∙ front-filled w z in
    (puts-as front p).bytes ∙ laid-over w d l m

-- what is copied lies inside the scratch buffer
pub front-inside : (z : List ℕ) (n : ℕ) → n ≤ length z → n ≡ length (take n z)
front-inside z n l = sym (length-take-le n z l)

-- the first strip drawn into `z`: copied only if it is not too long
module _ (z' d : List ℕ) (m : Drawn) (most : ℕ) (w : most ≡ min (length d) most_bytes) where
  pub too_long : (q : Proposal) → most < m.at → q ≡ proposal (Comes.refuses R.Buffer F.None) → Handing z' m d d q
  too_long q n a h f room after z same v b S s e = no_room S d m.at q (v b S s e).long (omega arith) a

  pub strip-copied : (d' : List ℕ) (next : ℕ) → m.at ≤ most → m.at ≤ length z' → Puts 0 (take m.at z') d d' next → Handing z' m d d' (P.Found m.height m.nodes m.at)
  strip-copied d' next n l p h f room after z same v b S s e =
      let y = v b S s e in
      let (x, c) = counted-short (length d) (length (written S)) m.at y.long (omega arith) in
      finding (unless_long (length d) S) S d d' m (unless-fits (length d) S x) y.high y.many c
      (copied (written S) z z' d d' m.at next (y.bytes (omega arith) (omega arith)) c p (omega arith) (omega arith))

-- a strip that is longer than any may be, whatever the buffer; and one that is drawn once more, since the packet stays set out
module _ (h : ℕ) (f : Files) (room after z z' d : List ℕ) (m : Drawn) (v : Measuring h f room after z z' m) where
  pub longer-than-any : (q : Proposal) → most_bytes < m.at → q ≡ proposal (Comes.refuses R.Buffer F.None) → Filling h f room d d q
  longer-than-any q n a b S s e = no_room S d m.at q (v b S s e).long (omega arith) a

  pub drawn-again : (d' : List ℕ) (q : Proposal) → Filling h f after d d' q → Filling h f room d d' q
  drawn-again d' q g b S s e = g b S (v b S s e).stays e

-- the search of a packet that is read: in `room₁` it is set out with the goal that it has, `room₂` is left by the yes or no
module _ (h : ℕ) (f : Files) (room room₁ room₂ d : List ℕ) (r : Bool) (t : (b : Books) → SoundBooks f.rules f.goal f.terms b → h ≤ most_height → words ≤ length room → SetOut h f room₁ b) (p : Telling h f room₁ room₂ r) where
  pub none_found : (q : Proposal) → r ≡ false → q ≡ proposal (Comes.refuses R.NoProof F.None) → Searching h f room d d q
  unfolding of_first
  none_found q n a b s low long =
      let y = p b (t b s low long) in
      refusing (of_first (length d) (first_strip h b)) R.NoProof F.None d q (ap (of_first (length d)) (no_none (first_strip h b) r y.answer n)) a

  pub some-found : (d' : List ℕ) (q : Proposal) → r ≡ true → Filling h f room₂ d d' q → Searching h f room d d' q
  unfolding of_first
  some-found d' q n g b s low long =
      let y = p b (t b s low long) in
      let (S, e) = yes-some (first_strip h b) r y.answer n in
      subst (λ (o : Option Strip). Says (of_first (length d) o) d d' q) (sym e) (g b S y.stays e)

-- any height and files
module _ (h : ℕ) (rs gs ts room d : List ℕ) where
  pub too-high : (q : Proposal) → most_height < h → q ≡ proposal (Comes.refuses R.Height F.None) → Answering h rs gs ts room d d q
  too-high q m a l = refusing (comes_to h (length d) (length room) rs gs ts) R.Height F.None d q (on-height h (length d) (length room) rs gs ts l m) a

  module _ (low : h ≤ most_height) (x : Result Counts Refusal) (e : x ≡ books_read (books_of rs gs ts)) where
    pub file-at-fault : {y : Refusal} → x ≡ Err y → Answering h rs gs ts room d d (P.Refused y.reason y.file 0)
    unfolding proposal
    file-at-fault {y} q l = go (books_of rs gs ts) refl (sym q ∙ e)
      where
        go : (o : Outcome Books) → books_of rs gs ts ≡ o → Err y ≡ books_read o → Says (comes_to h (length d) (length room) rs gs ts) d d (P.Refused y.reason y.file 0)
        go (Outcome.sound b) u v = let z : ◌≡◌ {A = ℕ} 0 1 = cc in absurd (omega arith)
        go (Outcome.refused r' f' at') u v =
            let z : y ≡ record { reason = r'; file = f'; place = at' } = cc in
            refusing (comes_to h (length d) (length room) rs gs ts) r' f' d (P.Refused y.reason y.file 0) (on-refused h (length d) (length room) rs gs ts l low r' f' at' u) (ap (λ (k : Refusal). P.Refused k.reason k.file 0) z)

    pub files-read : (d' : List ℕ) (q : Proposal) {k : Counts} → x ≡ Ok k → Searching h (files_of rs gs ts) room d d' q → Answering h rs gs ts room d d' q
    unfolding of_books
    files-read d' q {k} i s l = go (books_of rs gs ts) refl (books-told rs gs ts)
      where
        go : (o : Outcome Books) → books_of rs gs ts ≡ o → BooksMean rs gs ts o → Says (comes_to h (length d) (length room) rs gs ts) d d' q
        go (Outcome.sound b) u v =
            subst (λ (y : Comes). Says y d d' q) (sym (once-low h (length d) (length room) rs gs ts l low ∙ ap (of_books h (length d)) u)) (s b v low l)
        go (Outcome.refused r f at) u v =
            let w : Ok k ≡ books_read (Outcome.refused r f at) = sym i ∙ e ∙ ap books_read u in
            let z : ◌≡◌ {A = ℕ} 0 1 = cc in
            absurd (omega arith)

-- the promise of a call, with room enough and without
module _ (h : ℕ) (rs gs ts d d' room : List ℕ) (q : Proposal) where
  pub proposed : (room' : List ℕ) → words ≤ length room → Answering h rs gs ts room d d' q → room' ≡ replicate (length room) 0 → Proposes h rs gs ts d d' room room' q
  unfolding proposal_of buffer_after
  proposed room' l a z = record { answer = ap paper (a l).answer; strip = (a l).strip; words = z ∙ sym (cleared room l) }

pub short-of-room : (h : ℕ) (rs gs ts d room : List ℕ) (q : Proposal) → length room < words → q ≡ proposal (Comes.refuses R.Room F.None) → Proposes h rs gs ts d d room room q
unfolding proposal_of buffer_after
short-of-room h rs gs ts d room q l e =
    let s = refusing (comes_to h (length d) (length room) rs gs ts) R.Room F.None d q (on_room h (length d) (length room) rs gs ts l) e in
    record { answer = ap paper s.answer; strip = s.strip; words = sym (untouched room l) }
