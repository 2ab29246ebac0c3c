use native.Mathlib.Omega.{arith}
use borrow.Author.Rules.{rules}
use Prim.Native.Nat.{ℕ, ◌+◌, ◌-◌, ◌*◌, ◌<◌}
use mathlib.Core.Path.{refl}
use Rattle.packet.specs.declared.Kind.TheVariants as K
use Rattle.packet.specs.declared.Word.TheVariants as W
use Rattle.packet.specs.Table.{rows, rank}
use Rattle.rows.proofs.TableLaws.{no_row}
use Rattle.heads.proofs.PredicateLaws.{no-nest, by_word, by-other, atom-head, all_head, and-lost, and_first, and_second}
use Rattle.heads.proofs.predicate.+head.Given as goal

abbrev pub decreases-has_either : goal.decreases-has_either
decreases-has_either l = 2 * l.nest + 1

abbrev pub decreases-has_head : goal.decreases-has_head
decreases-has_head l = 2 * l.nest
