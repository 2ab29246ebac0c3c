-- What a search's answer means, line by line of document 01's table in its order ("What comes back"; "Which strip the search writes"): which refusal is given exactly when, and which strip is written. Nothing here knows how the answer is found: the files are what crate packet says a file is, a proof is crate harrop's, and the first strip is its `First`, which no search defines.
use Rattle.std.specs.Prelude.{ℕ, ◌≤◌, ◌<◌, List, ◌⊎◌, length}
use Rattle.harrop.specs.Formula.{Strip}
use Rattle.harrop.specs.Place.{Place, Candidates, Plain, listed, root}
use Rattle.harrop.specs.First.{Within, First}
use Rattle.packet.specs.declared.Reason.{Reason}
use Rattle.packet.specs.declared.Reason.TheVariants as R
use Rattle.packet.specs.declared.File.{File}
use Rattle.packet.specs.declared.File.TheVariants as F
use Rattle.packet.specs.File.{most_bytes, Books}
use Rattle.packet.specs.Sound.{SoundBooks, RefusedBooks}
use Rattle.room.specs.Layout.{words}
use Rattle.drawing.specs.Spelled.{written}
use Rattle.proposal.specs.Proposed.{most_height, Comes}

-- where a packet's search starts, and its candidates
abbrev pub start : Books → Place Plain
start b = root b.rules b.goal

abbrev pub offered : Books → Candidates Plain
offered b = listed b.candidates

-- room enough, a height that may be asked for, and three files that read
pub record Searched (h room : ℕ) (rs gs ts : List ℕ) (b : Books) : Type 0 where
  pub roomy : words ≤ room
  pub low : h ≤ most_height
  pub books : SoundBooks rs gs ts b

-- the first proof within the height, in document 01's order
abbrev pub TheFirst : ℕ → Books → Strip → Type 0
TheFirst h b S = First (offered b) h (start b) S

-- a proof within the height
abbrev pub Provable : ℕ → Books → Type 0
Provable h b = Within (offered b) h (start b)

pub data Told (h size room : ℕ) (rs gs ts : List ℕ) : Comes → Type 0 where
  no_room : room < words → Told h size room rs gs ts (Comes.refuses R.Room F.None)
  too_high : words ≤ room → most_height < h → Told h size room rs gs ts (Comes.refuses R.Height F.None)
  at_fault : {r : Reason} {f : File} {at : ℕ} → words ≤ room → h ≤ most_height → RefusedBooks rs gs ts r f at → Told h size room rs gs ts (Comes.refuses r f)
  no_proof : {b : Books} → Searched h room rs gs ts b → (Provable h b → ⊥) → Told h size room rs gs ts (Comes.refuses R.NoProof F.None)
  too_long : {b : Books} {S : Strip} → Searched h room rs gs ts b → TheFirst h b S → (size < length (written S)) ⊎ (most_bytes < length (written S)) → Told h size room rs gs ts (Comes.refuses R.Buffer F.None)
  wrote : {b : Books} {S : Strip} → Searched h room rs gs ts b → TheFirst h b S → length (written S) ≤ size → length (written S) ≤ most_bytes → Told h size room rs gs ts (Comes.writes S)
