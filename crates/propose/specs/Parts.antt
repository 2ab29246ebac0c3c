-- What the parts of a search say, for every input (document 01, "Which strip the search writes", "What comes back"): the room set out, whether there is a strip, the strip drawn with its measures, and copied; then the whole of a packet that is read.
-- `room` and `after` are the room's words before and after a call, `d` and `d'` the buffer's bytes, `z` and `z'` the scratch buffer's. The buffer is spoken of by the part that copies the strip, and by none before it.
use Rattle.std.specs.Prelude.{ℕ, ◌≤◌, ◌≡◌, Bool, List, [], length}
use Rattle.std.proofs.Math.Option.{some}
use Rattle.harrop.specs.Formula.{Strip, height, nodes}
use Rattle.harrop.specs.Place.{at_start}
use Rattle.packet.specs.File.{most_bytes, Books}
use Rattle.packet.specs.Sound.{SoundBooks}
use Rattle.room.specs.Layout.{words}
use Rattle.room.specs.Where.{Means}
use Rattle.room.specs.Files.{Files, files_of}
use Rattle.room.specs.Start.{start}
use Rattle.proving.specs.Provable.{is_some}
use Rattle.proving.specs.Stock.{Stock}
use Rattle.drawing.specs.Spelled.{written}
use Rattle.pen.specs.Laid.{counted}
use Rattle.drawing.specs.declared.Drawn.{Drawn}
use Rattle.proposal.specs.declared.Proposal.{Proposal}
use Rattle.proposal.specs.Proposed.{most_height, Comes, first_strip, unless_long, of_first, comes_to, proposal, over, left}

-- a packet is set out: its root place stands in the room, which has enough words for the height, and what the search keeps there is right
pub record SetOut (h : ℕ) (f : Files) (room : List ℕ) (b : Books) : Type 0 where
  pub low : h ≤ most_height
  pub long : words ≤ length room
  pub place : Means f room b.rules b.candidates start [] (at_start b.rules) [] b.goal
  pub stock : Stock f b.rules b.candidates 0 (at_start b.rules) room

-- the room made so that a packet that is read is set out, whichever goal it has
abbrev pub Setting : Files → List ℕ → List ℕ → Type 0
Setting f room after = (h : ℕ) (gs : List ℕ) (b : Books) → SoundBooks f.rules gs f.terms b → h ≤ most_height → words ≤ length room → SetOut h (files_of f.rules gs f.terms) after b

-- whether there is a strip within the height; the packet stays set out
pub record Told (h : ℕ) (f : Files) (after : List ℕ) (b : Books) (r : Bool) : Type 0 where
  pub stays : SetOut h f after b
  pub answer : r ≡ is_some (first_strip h b)

abbrev pub Telling : ℕ → Files → List ℕ → List ℕ → Bool → Type 0
Telling h f room after r = (b : Books) → SetOut h f room b → Told h f after b r

-- the height and nodes of the first strip, its length as far as it is counted, and its bytes in front of a scratch buffer that has room for them
pub record Measured (h : ℕ) (f : Files) (after z z' : List ℕ) (b : Books) (S : Strip) (r : Drawn) : Type 0 where
  pub stays : SetOut h f after b
  pub high : r.height ≡ height S
  pub many : r.nodes ≡ nodes S
  pub long : r.at ≡ counted (length (written S))
  pub bytes : length (written S) ≤ length z → length (written S) ≤ most_bytes → z' ≡ over (written S) z

abbrev pub Measuring : ℕ → Files → List ℕ → List ℕ → List ℕ → List ℕ → Drawn → Type 0
Measuring h f room after z z' r = (b : Books) (S : Strip) → SetOut h f room b → first_strip h b ≡ some S → Measured h f after z z' b S r

-- an answer and the buffer behind it, as a search comes to them
pub record Says (x : Comes) (d d' : List ℕ) (r : Proposal) : Type 0 where
  pub answer : r ≡ proposal x
  pub strip : d' ≡ left x d

-- the first strip fills the front of a buffer that has room for it, and a buffer that has not is as it came; with the answer
abbrev pub Filling : ℕ → Files → List ℕ → List ℕ → List ℕ → Proposal → Type 0
Filling h f room d d' r = (b : Books) (S : Strip) → SetOut h f room b → first_strip h b ≡ some S → Says (unless_long (length d) S) d d' r

-- the same of a strip that is drawn whole in the scratch buffer `z'`, wherever it was drawn from
abbrev pub Handing : List ℕ → Drawn → List ℕ → List ℕ → Proposal → Type 0
Handing z' m d d' r = (h : ℕ) (f : Files) (room after z : List ℕ) → length z' ≡ length z → Measuring h f room after z z' m → Filling h f room d d' r

-- a packet that is read, with a height that may be asked for and room enough
abbrev pub Searching : ℕ → Files → List ℕ → List ℕ → List ℕ → Proposal → Type 0
Searching h f room d d' r =
    (b : Books) → SoundBooks f.rules f.goal f.terms b → h ≤ most_height → words ≤ length room → Says (of_first (length d) (first_strip h b)) d d' r

-- any height and files, with room enough
abbrev pub Answering : ℕ → List ℕ → List ℕ → List ℕ → List ℕ → List ℕ → List ℕ → Proposal → Type 0
Answering h rs gs ts room d d' r = words ≤ length room → Says (comes_to h (length d) (length room) rs gs ts) d d' r
