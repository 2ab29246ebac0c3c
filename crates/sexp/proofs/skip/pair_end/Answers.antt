-- `pair_end` meets its contract: the two strings are passed, and the list closes after them.
use Prim.Native.Nat.{◌+◌, ◌-◌}
use mathlib.Core.Path.{refl, sym, ◌∙◌}
use lib.ListN.{get_or}
use Rattle.sexp.proofs.DecimalLaws.{digit_low}
use Rattle.sexp.proofs.SkipLaws.{pair_ends}
use native.Mathlib.Omega.{arith}
use Rattle.sexp.proofs.skip.pair_end.Goals as goal

pub overflow_sub-n : goal.overflow_sub-n
overflow_sub-n c = let x = c.args in let d = sym c.digit.ensures ∙ c.if-not-digit.false in digit_low (get_or x.s.now (x.at + 4) 0) d

pub returns-then-s-n-eq41 : goal.returns-then-s-n-eq41
returns-then-s-n-eq41 c =
    let x = c.args in
    pair_ends x.s.now x.at (omega arith) (x.at + 6 + (get_or x.s.now (x.at + 4) 0 - 48)) c.requires c.if-s-at-ne49.false c.if-s-at-ne58.false (sym c.digit.ensures ∙ c.if-not-digit.false) c.if-s-at-ne58-2.false refl c.if-n-s.true c.if-s-n-eq41.true
