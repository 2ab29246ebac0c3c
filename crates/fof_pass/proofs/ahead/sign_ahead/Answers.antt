-- `sign_ahead` of src/ahead.rt meets its contract. Assumes nothing.
use mathlib.Core.Path.{◌∙◌, ap}
use Rattle.std.specs.Prelude.{Ok}
use Rattle.fof_pass.proofs.AheadLaws.{ahead-end, ahead-bad, ahead-token}
use mathlib.Core.List.{List}
use Prim.Native.Nat.{ℕ}
use Rattle.fof_part.specs.Sign.{code, sign_of}
use Rattle.fof_pass.proofs.ahead.sign_ahead.Goals as goal

pub returns-in-Ok-None : goal.returns-in-Ok-None
returns-in-Ok-None c = ahead-end c.args.text.now c.args.at c.next_token.ensures (c.in-Ok-None.is ∙ ap (λ o. Ok o) c.in-Ok-None.field-0-is) c.none_at.ensures

pub returns-in-Err : goal.returns-in-Err
returns-in-Err c = ahead-bad c.args.text.now c.args.at c.next_token.ensures c.in-Err.is c.none_at-in-Err.ensures

pub returns-in-Ok-Some : goal.returns-in-Ok-Some
returns-in-Ok-Some c = ahead-token c.args.text.now c.args.at c.next_token.ensures (c.in-Ok-Some.is ∙ ap (λ o. Ok o) c.in-Ok-Some.field-0-is) (c.sign_of-sign.ensures ∙ ap (λ (w : List ℕ). code (sign_of c.in-Ok-Some.token.kind w)) c.cut.ensures)
