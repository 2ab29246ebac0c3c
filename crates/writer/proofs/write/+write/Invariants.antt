use mathlib.Core.Path.{refl, ap, ◌∙◌}
use lib.ListN.{length, set}
use borrow.Rule.Slice.PartMut.{put_mid}
use Rattle.harrop.specs.declared.Binding.TheVariants.{Candidate}
use Rattle.packet.specs.declared.Kind.TheVariants as K
use Rattle.packet.specs.declared.Word.TheVariants as W
use Rattle.packet.specs.Table.{rows, rank}
use Rattle.rows.proofs.TableLaws.{no_row}
use Rattle.room.specs.Frame.{binding_word, held}
use Rattle.proving.proofs.PassingLaws as passing
use Rattle.drawing.proofs.WritingLaws as writing
use Rattle.drawing.proofs.PathingLaws as pathing
use native.Mathlib.Omega.{arith}
use borrow.Author.Rules.{rules}
use Prim.Native.Nat.{ℕ, ◌+◌, ◌-◌, ◌*◌, ◌<◌}
use Rattle.writer.proofs.write.+write.{
  statement,
}
use Rattle.writer.proofs.write.+write.Given as goal

abbrev pub decreases-path_all : goal.decreases-path_all
decreases-path_all l = 1000 * l.left + 1000 + 3 * l.nest + 4

abbrev pub decreases-path_and : goal.decreases-path_and
decreases-path_and l = 1000 * l.left + 1000 + 3 * l.nest + 4

abbrev pub decreases-write_all : goal.decreases-write_all
decreases-write_all l = 1000 * l.left + 1998

abbrev pub decreases-write_body : goal.decreases-write_body
decreases-write_body l = 1000 * l.left + 1001

abbrev pub decreases-write_both : goal.decreases-write_both
decreases-write_both l = 1000 * l.left + 1998

abbrev pub decreases-write_either : goal.decreases-write_either
decreases-write_either l = 1000 * l.left + 1998

abbrev pub decreases-write_goal : goal.decreases-write_goal
decreases-write_goal l = 1000 * l.height + 999

abbrev pub decreases-write_path : goal.decreases-write_path
decreases-write_path l = 1000 * l.left + 1000 + 3 * l.nest + 2

abbrev pub decreases-write_some : goal.decreases-write_some
decreases-write_some l = 1000 * l.left + 1998

abbrev pub decreases-write_under : goal.decreases-write_under
decreases-write_under l = 1000 * l.left + 1998

abbrev pub decreases-write_use : goal.decreases-write_use
decreases-write_use l = 1000 * l.left + 1998

abbrev pub decreases-write_part : goal.decreases-write_part
decreases-write_part l = 1000 * l.height + 1000

abbrev pub decreases-path_part : goal.decreases-path_part
decreases-path_part l = 1000 * l.left + 1000 + 3 * l.nest + 3
