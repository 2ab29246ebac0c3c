-- `fits` of src/kept.rt meets its contract. Assumes nothing.
use mathlib.Core.Bool.{false≢true}
use borrow.Author.Tests.{leb-true}
use native.Mathlib.Omega.{arith}
use borrow.Author.Rules.{rules}
use Rattle.table.proofs.kept.fits.Goals as goal

pub returns-then-x-gt8 : goal.returns-then-x-gt8
returns-then-x-gt8 c = λ e. absurd (false≢true e)

pub returns-then-x-gt5240 : goal.returns-then-x-gt5240
returns-then-x-gt5240 c = λ e. absurd (false≢true e)

pub returns-then-x-gt4294967295 : goal.returns-then-x-gt4294967295
returns-then-x-gt4294967295 c = λ e. absurd (false≢true e)

pub returns-then-supposed-gt4294967294 : goal.returns-then-supposed-gt4294967294
returns-then-supposed-gt4294967294 c = λ e. absurd (false≢true e)

pub returns-then-parameters-gt4294967295 : goal.returns-then-parameters-gt4294967295
returns-then-parameters-gt4294967295 c = λ e. absurd (false≢true e)

pub returns : goal.returns
returns c = λ e. record { few = omega arith; below = omega arith; offset = omega arith; clauses = omega arith; opened = omega arith; high = leb-true _ _ e }
