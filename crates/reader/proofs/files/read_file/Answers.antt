-- One file in its turn, told with its file.
use mathlib.Core.Path.{ap, ◌∙◌}
use Prim.Native.Nat.{ℕ}
use Rattle.std.specs.Prelude.{Result}
use Rattle.reader.specs.declared.files.Fault.{Fault}
use Rattle.reader.specs.Judged.{of_file}
use Rattle.reader.proofs.JudgedLaws.{told-file}
use borrow.Author.Rules.{rules}
use Rattle.reader.proofs.files.read_file.Goals as goal

pub returns : goal.returns
returns c =
    told-file c.judge_file.result c.map_err.result c.args.file (λ x y h. search rules) c.map_err.ensures.cases
    ∙ ap (λ (j : Result ℕ Fault). of_file j c.args.file) c.judge_file.ensures
