-- What a search answers and leaves behind, for every input (document 01, "Which strip the search writes", "Sizes", "What comes back"): the order of refusals, the first strip, the buffer and the room afterwards.
-- The first strip is crate harrop's, the files are read as crate packet says; that this is what document 01 asks is shown in proofs/.
use Rattle.std.specs.Prelude.{ℕ, min, ◌≡◌, List, ◌++◌, ltb, leb, length, drop}
use Rattle.std.proofs.Math.Option.{Option, none, some}
use Rattle.basics.specs.Choice.{choose}
use Rattle.harrop.specs.Formula.{Strip, height, nodes}
use Rattle.harrop.specs.Place.{listed, root}
use Rattle.harrop.specs.Search.{first_at}
use Rattle.packet.specs.declared.Reason.{Reason}
use Rattle.packet.specs.declared.Reason.TheVariants as R
use Rattle.packet.specs.declared.File.{File}
use Rattle.packet.specs.declared.File.TheVariants as F
use Rattle.packet.specs.Numbers.{reason_number, file_number}
use Rattle.packet.specs.File.{most_bytes, Outcome, Books, books_of}
use Rattle.room.specs.Layout.{words}
use Rattle.room.specs.Start.{room_after}
use Rattle.drawing.specs.Spelled.{written}
use Rattle.proposal.specs.declared.Proposal.{Proposal}
use Rattle.proposal.specs.declared.Proposal.TheVariants as P

-- the most that a search's height may be
abbrev pub most_height : ℕ
most_height = 32

-- what a search comes to: the strip that is written, or why none is, and the file at fault
pub data Comes : Type 0 where
  writes : Strip → Comes
  refuses : Reason → File → Comes

-- the first strip of a packet within a height
unfoldable pub first_strip : ℕ → Books → Option Strip
first_strip h b = first_at (listed b.candidates) h (root b.rules b.goal)

-- 10: the first strip is longer than its buffer or than a file may be
unfoldable pub unless_long : ℕ → Strip → Comes
unless_long size S = choose (leb (length (written S)) (min size most_bytes)) (Comes.writes S) (Comes.refuses R.Buffer F.None)

-- 8: no proof within the height
unfoldable pub of_first : ℕ → Option Strip → Comes
of_first size none = Comes.refuses R.NoProof F.None
of_first size (some S) = unless_long size S

-- the three files in turn
unfoldable pub of_books : ℕ → ℕ → Outcome Books → Comes
of_books h size (Outcome.refused r f at) = Comes.refuses r f
of_books h size (Outcome.sound b) = of_first size (first_strip h b)

-- 11, then 9, before any file is looked at; `size` is the buffer's, `room` the number of words
unfoldable pub comes_to : ℕ → ℕ → ℕ → List ℕ → List ℕ → List ℕ → Comes
comes_to h size room rs gs ts =
    choose (ltb room words) (Comes.refuses R.Room F.None)
    (choose (ltb most_height h) (Comes.refuses R.Height F.None) (of_books h size (books_of rs gs ts)))

-- the answer; the place is 0 but for number 7, which no search gives
unfoldable pub proposal : Comes → Proposal
proposal (Comes.writes S) = P.Found (height S) (nodes S) (length (written S))
proposal (Comes.refuses r f) = P.Refused r f 0

unfoldable pub proposal_of : ℕ → ℕ → ℕ → List ℕ → List ℕ → List ℕ → Proposal
proposal_of h size room rs gs ts = proposal (comes_to h size room rs gs ts)

-- the front filled, the rest kept
unfoldable pub over : List ℕ → List ℕ → List ℕ
over w d = w ++ drop (length w) d

-- the buffer afterwards: the strip fills its front and the rest keeps its bytes; on any refusal it is as it came
unfoldable pub left : Comes → List ℕ → List ℕ
left (Comes.writes S) buffer = over (written S) buffer
left (Comes.refuses r f) buffer = buffer

unfoldable pub buffer_after : ℕ → ℕ → List ℕ → List ℕ → List ℕ → List ℕ → List ℕ
buffer_after h room rs gs ts buffer = left (comes_to h (length buffer) room rs gs ts) buffer

-- the paper's numbers, for every case of the answer
pub data Paper : Type 0 where
  found : ℕ → ℕ → ℕ → Paper  -- height, nodes, length in bytes
  refused : ℕ → ℕ → ℕ → Paper  -- number, file, place

abbrev pub paper : Proposal → Paper
paper (P.Found h n l) = Paper.found h n l
paper (P.Refused r f at) = Paper.refused (reason_number r) (file_number f) at

-- what is promised of a search, for every input: its answer in the paper's numbers, the buffer and the room afterwards
pub record Proposes (h : ℕ) (rs gs ts buffer buffer' room room' : List ℕ) (r : Proposal) : Type 0 where
  pub answer : paper r ≡ paper (proposal_of h (length buffer) (length room) rs gs ts)
  pub strip : buffer' ≡ buffer_after h (length room) rs gs ts buffer
  pub words : room' ≡ room_after room
