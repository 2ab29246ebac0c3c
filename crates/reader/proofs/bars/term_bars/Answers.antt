-- A term with a number, allowed at its place or not.
use Prim.Native.Nat.{ℕ, ◌+◌}
use mathlib.Core.Path.{sym, ap, ◌∙◌}
use mathlib.Core.Bool.{Bool}
use lib.ListN.{length}
use Rattle.std.specs.Prelude.{Ok, Err}
use Rattle.std.specs.Prelude.{Ok, Err}
use Rattle.basics.specs.Choice.{choose}
use Rattle.sexp.specs.Sexp.{str, spell}
use native.Mathlib.Omega.{arith}
use Rattle.reader.proofs.bars.term_bars.Goals as goal

pub overflow_add-result : goal.overflow_add-result
overflow_add-result c = let k = c.past_text-end.ensures.inside in omega arith

pub returns-then-ok : goal.returns-then-ok
returns-then-ok c = λ w g. ap (λ (m : ℕ). Ok (m + 1)) (c.past_text-end.ensures.ends w g) ∙ sym (ap (λ (t : Bool). choose t (Ok (c.args.to + length (spell (str w)) + 1)) (Err c.args.at)) c.if-ok.true)

pub returns : goal.returns
returns c = λ w g. sym (ap (λ (t : Bool). choose t (Ok (c.args.to + length (spell (str w)) + 1)) (Err c.args.at)) c.if-ok.false)
