-- What the checker answers, for any four files and any work room, and what document 01 calls it ("What comes back", "Sizes").
-- Which strip fits is said in crate harrop, and which files are refused in crate packet.
use Rattle.std.specs.Prelude.{ℕ, ◌≡◌, List, ltb, length}
use Rattle.basics.specs.Choice.{choose}
use Rattle.harrop.specs.Formula.{Strip}
use Rattle.harrop.specs.Place.{listed, root}
use Rattle.harrop.specs.Check.{Judged, check_at}
use Rattle.packet.specs.declared.Reason.TheVariants as R
use Rattle.packet.specs.declared.File.TheVariants as F
use Rattle.packet.specs.Numbers.{reason_number, file_number}
use Rattle.packet.specs.Offset.{offset_of}
use Rattle.packet.specs.File.{Outcome, Packet, packet_of}
use Rattle.room.specs.Layout.{words}
use Rattle.room.specs.Start.{room_after}
use Rattle.judge.specs.declared.Verdict.{Verdict}
use Rattle.judge.specs.declared.Verdict.TheVariants as Ver

-- the strip of a packet, judged at the packet's root place
abbrev pub judgement_of : Packet → Judged
judgement_of p = check_at (listed p.books.candidates) (root p.books.rules p.books.goal) p.strip

-- the verdict on a strip that is judged so: height and nodes, or 7 with the offset of the first node that does not fit
abbrev pub judged_as : Strip → Judged → Verdict
judged_as P (Judged.fits h n) = Ver.Accepted h n
judged_as P (Judged.misfit at) = Ver.Refused R.Misfit F.Strip (offset_of P at)

-- the verdict on what the files come to: refused as the first refused file is, or judged. A place is 0 but for number 7
abbrev pub files_verdict : Outcome Packet → Verdict
files_verdict (Outcome.sound p) = judged_as p.strip (judgement_of p)
files_verdict (Outcome.refused r f at) = Ver.Refused r f 0

-- the verdict, with a work room of so many words: 11 comes before all else
unfoldable pub verdict_of : ℕ → List ℕ → List ℕ → List ℕ → List ℕ → Verdict
verdict_of n rs gs ts ss = choose (ltb n words) (Ver.Refused R.Room F.None 0) (files_verdict (packet_of rs gs ts ss))

-- what comes back in document 01's numbers: accepted with height and nodes; refused with number, file and place
pub data Answer : Type 0 where
  accepted : ℕ → ℕ → Answer
  refused : ℕ → ℕ → ℕ → Answer

abbrev pub paper : Verdict → Answer
paper (Ver.Accepted h n) = Answer.accepted h n
paper (Ver.Refused r f at) = Answer.refused (reason_number r) (file_number f) at

-- what is promised of one call
pub record Judgement (rules goal terms strip before after : List ℕ) (r : Verdict) : Type 0 where
  pub verdict : r ≡ verdict_of (length before) rules goal terms strip
  pub numbers : paper r ≡ paper (verdict_of (length before) rules goal terms strip)
  pub room : after ≡ room_after before
