-- `set_one` of src/setting.rt meets its contract. Assumes nothing.
use native.Mathlib.Omega.{arith}
use Rattle.narrowing.proofs.SetLaws.{one_none, one_set}
use Rattle.narrowing.proofs.setting.set_one.Goals as goal

pub returns-then-n-eq0 : goal.returns-then-n-eq0
returns-then-n-eq0 c = one_none

pub returns-then-n-ge1021 : goal.returns-then-n-ge1021
returns-then-n-ge1021 c = one_none

pub returns-in_default : goal.returns-in_default
returns-in_default c = one_none

pub returns : goal.returns
returns c = one_set (omega (arith, c.if-n-ge1021.false)) c.open_at.ensures c.in-Some.is c.word_of.ensures c.push.ensures
