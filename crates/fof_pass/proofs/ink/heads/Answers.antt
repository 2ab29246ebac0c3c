-- `heads` of src/ink.rt meets its contract. Assumes nothing.
use mathlib.Core.Path.{◌≡◌, subst}
use Prim.Native.Nat.{ℕ}
use Rattle.fof_part.specs.Due.{many_headed}
use Rattle.fof_pass.specs.Ink.{Inks}
use Rattle.fof_pass.proofs.InkLaws.{inks-none, inks-many}
use native.Mathlib.Omega.{arith}
use Rattle.fof_pass.proofs.ink.heads.Goals as goal

pub loop-init : goal.loop-init
loop-init c = inks-none c.args.pen c.args.buf.now

pub loop-preserved : goal.loop-preserved
loop-preserved c = inks-many c.args.word.now c.loop.counter c.loop.invariant c.head-p.ensures

pub returns : goal.returns
returns c = let l = c.loop in let x : l.counter ≡ c.args.n = omega (arith, c.loop.auto, c.loop-test.false) in subst (λ (m : ℕ). Inks (many_headed c.args.word.now m) c.args.pen c.args.buf.now l.buf l.p) x l.invariant
