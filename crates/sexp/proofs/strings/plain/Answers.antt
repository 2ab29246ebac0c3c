-- `plain` meets its contract: it is what `verbatim` reads, at any offset.
use Rattle.sexp.proofs.StandLaws.{stands-before}
use Rattle.sexp.proofs.SkipLaws.{plain-spans, plain-stuck}
use native.Mathlib.Omega.{arith}
use Rattle.sexp.proofs.strings.plain.Goals as goal

pub returns-then-s-at : goal.returns-then-s-at
returns-then-s-at c = λ w h. let k = stands-before h in omega arith

pub returns-in-Err : goal.returns-in-Err
returns-in-Err c = let x = c.args in plain-stuck x.s.now x.at c.in-Err.field-0 c.verbatim.result c.in-Err.is c.verbatim.ensures

pub returns-in-Ok : goal.returns-in-Ok
returns-in-Ok c = let x = c.args in plain-spans x.s.now x.at c.in-Ok.from c.in-Ok.to c.verbatim.result c.in-Ok.is c.verbatim.ensures
