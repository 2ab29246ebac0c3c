-- The two halves of a judgement: rules and terms read and their tables filled; then one goal and strip judged, with the tables left as they were.
-- The first refusal is that of files 1, 2, 3, 4 in turn, whichever half reads them (document 01, "What comes back").
use Rattle.std.specs.Prelude.{ℕ, ◌≤◌, ◌≡◌, List, length, Result}
use Rattle.packet.specs.declared.Kind.TheVariants as K
use Rattle.packet.specs.declared.File.TheVariants as F
use Rattle.reader.specs.declared.files.Counts.{Counts}
use Rattle.reader.specs.declared.files.Refusal.{Refusal}
use Rattle.packet.specs.Sound.{SoundPacket}
use Rattle.packet.specs.File.{Packet, packet_of}
use Rattle.reader.specs.Judged.{of_file, judged_of, packet_read}
use Rattle.room.specs.Files.{Files}
use Rattle.room.specs.Layout.{words, stack}
use Rattle.room.specs.Where.{Kept}
use Rattle.room.specs.Start.{Tabled}
use Rattle.judge.specs.declared.Verdict.{Verdict}
use Rattle.judge.specs.declared.request.Books.{Books}
use Rattle.judge.specs.Verdict.{judgement_of, judged_as, files_verdict}

-- what is found of rules and terms
pub record Found (rs ts : List ℕ) (b : Books) : Type 0 where
  pub rules : b.rules ≡ of_file (judged_of K.Rules rs) F.Rules
  pub terms : b.terms ≡ of_file (judged_of K.Terms ts) F.Terms

-- the first half
pub record Opens (rs ts before after : List ℕ) (b : Books) : Type 0 where
  pub found : Found rs ts b
  pub tables : words ≤ length before → Tabled after rs ts

-- the files in turn, once rules and terms are read
abbrev pub ReadsAll : List ℕ → List ℕ → Books → Result Counts Refusal → Type 0
ReadsAll gs ss b r = (rs ts : List ℕ) → Found rs ts b → r ≡ packet_read (packet_of rs gs ts ss)

-- the strip of a packet that is read, judged at the root place
pub record Strips (before after : List ℕ) (p : Packet) (r : Verdict) : Type 0 where
  pub verdict : r ≡ judged_as p.strip (judgement_of p)
  pub kept : Kept 0 stack before after

abbrev pub Stripping : Files → List ℕ → List ℕ → List ℕ → Verdict → Type 0
Stripping f ss before after r = (p : Packet) → SoundPacket f.rules f.goal f.terms ss p → words ≤ length before → Tabled before f.rules f.terms → Strips before after p r

-- the second half
pub record Requests (f : Files) (ss before after : List ℕ) (r : Verdict) : Type 0 where
  pub verdict : r ≡ files_verdict (packet_of f.rules f.goal f.terms ss)
  pub kept : Kept 0 stack before after

abbrev pub Requesting : Files → List ℕ → List ℕ → List ℕ → Books → Verdict → Type 0
Requesting f ss before after b r = Found f.rules f.terms b → words ≤ length before → Tabled before f.rules f.terms → Requests f ss before after r
