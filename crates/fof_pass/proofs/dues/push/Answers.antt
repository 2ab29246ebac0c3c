-- `push` of src/dues.rt meets its contract. Assumes nothing.
use Prim.Native.Nat.{◌+◌}
use mathlib.Core.Path.{◌≡◌, refl, sym, ◌∙◌, subst}
use mathlib.Core.Bool.{true, false}
use Rattle.fof_pass.specs.declared.dues.Due.TheVariants as D
use Rattle.fof_pass.specs.Dues.{Stack, Pushes}
use Rattle.fof_pass.proofs.DueLaws.{push-one}
use Rattle.fof_pass.proofs.dues.push.Goals as goal
use Rattle.fof_pass.proofs.dues.push.Goals.{in-Nothing, in_default}

pub returns-then-top-lt98400 : goal.returns-then-top-lt98400
returns-then-top-lt98400 c =
    let a = c.args in
    let due : a.d ≡ D.Nothing → ⊥ = λ e. elim c.match-matches.branch [ in-Nothing w ↦ let y : true ≡ false = sym w.matches-is ∙ c.if-matches.false in cc | in_default w ↦ w.in_default.not-Nothing e ] in
    subst (λ (x : Stack). Pushes a.d a.stack.now x a.top (a.top + 1)) (sym c.enter.ensures) (push-one a.d a.stack.now a.top (λ _. refl) due)
