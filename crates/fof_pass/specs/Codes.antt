-- The number of a sign that is ahead, which is fof_part's `code` of it; 16 where none is.
use Rattle.std.specs.Prelude.{ℕ}
use Rattle.fof_pass.specs.declared.ahead.Sign.{Sign}
use Rattle.fof_pass.specs.declared.ahead.Sign.TheVariants as S

abbrev pub code_is : Sign → ℕ
code_is S.Lower = 0
code_is S.Upper = 1
code_is S.Truth = 2
code_is S.Opens = 3
code_is S.Closes = 4
code_is S.Lists = 5
code_is S.Ends = 6
code_is S.Comma = 7
code_is S.Colon = 8
code_is S.Dot = 9
code_is S.Every = 10
code_is S.Exist = 11
code_is S.Both = 12
code_is S.Either = 13
code_is S.Then = 14
code_is S.Other = 15
code_is S.Nothing = 16
