-- The paper's numbers of refusals and files (document 01, "What comes back"). Only here are the two enums taken apart, and in the functions that return these numbers.
use Rattle.std.specs.Prelude.{ℕ}
use Rattle.packet.specs.declared.Reason.{Reason}
use Rattle.packet.specs.declared.Reason.TheVariants as R
use Rattle.packet.specs.declared.File.{File}
use Rattle.packet.specs.declared.File.TheVariants as F

abbrev pub reason_number : Reason → ℕ
reason_number R.Long = 1
reason_number R.Carrier = 2
reason_number R.Deep = 3
reason_number R.Words = 4
reason_number R.Barred = 5
reason_number R.Many = 6
reason_number R.Misfit = 7
reason_number R.NoProof = 8
reason_number R.Height = 9
reason_number R.Buffer = 10
reason_number R.Room = 11

abbrev pub file_number : File → ℕ
file_number F.None = 0
file_number F.Rules = 1
file_number F.Goal = 2
file_number F.Terms = 3
file_number F.Strip = 4
