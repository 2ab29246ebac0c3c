-- `enter_use` of src/uses.rt meets its contract. Assumes nothing.
use Prim.Native.Nat.{ℕ, ◌+◌}
use mathlib.Core.Path.{◌≡◌, sym, ap, subst, ◌∙◌}
use borrow.Author.Tests.{not-true, not-false}
use Rattle.basics.specs.Tells.{told-yes, told-no}
use Rattle.packet.specs.Written.{number}
use Rattle.packet.specs.Offset.{width}
use Rattle.room.specs.Files.{file_of}
use Rattle.uses.specs.Use.{use_of}
use Rattle.uses.proofs.UseLaws.{use-shape, asks-as, inside-as, goal-atom, goal-other, enter-far, enter-other, use-stands, enter-using, enter-used}
use borrow.Author.Rules.{rules}
use Rattle.uses.proofs.uses.enter_use.Goals as goal

pub returns-in_err-asked : goal.returns-in_err-asked
returns-in_err-asked c = let x = c.args in
    rw c.from_residual.ensures (λ ds us P o d bs g e ready.
    let (k, steps, more, q) = use-shape P e in
    let t = asks-as x.strip.now x.at k c.asked_for.result _ c.in_err-asked.was (c.asked_for.ensures.asks k steps more (use-stands ready k steps more q)) in
    enter-far ready k steps more q t)

pub returns-then-not-is_word : goal.returns-then-not-is_word
returns-then-not-is_word c = let x = c.args in
    λ ds us P o d bs g e ready.
    let (k, steps, more, q) = use-shape P e in
    enter-other ready k steps more q (goal-other (file_of x.files.now x.w.goal.source) _ x.w.goal.at c.part-g.ensures.bytes g (told-no (not-true c.is_word.result c.if-not-is_word.true-raw) c.is_word.ensures) ready.place.framed.stands)

pub use_clause-requires : goal.use_clause-requires
use_clause-requires c = let x = c.args in
    let l = inside-as x.strip.now c.asked_for.result _ c.in_ok-asked.was c.asked_for.ensures.inside in
    search rules

pub returns : goal.returns
returns c = let x = c.args in
    λ ds us P o d bs g e ready.
    let (k, steps, more, q) = use-shape P e in
    let t = asks-as x.strip.now x.at k c.asked_for.result _ c.in_ok-asked.was (c.asked_for.ensures.asks k steps more (use-stands ready k steps more q)) in
    let (a, s) = goal-atom (file_of x.files.now x.w.goal.source) _ x.w.goal.at c.part-g.ensures.bytes g (told-yes (not-false c.is_word.result c.if-not-is_word.false-raw) c.is_word.ensures) ready.place.framed.stands in
    let r = subst (λ (i : ℕ). P ≡ use_of i steps more) (sym t.0) q in
    let m = t.1 ∙ ap (λ (i : ℕ). x.at + 6 + width (number i)) (sym t.0) in
    enter-used ready c.in_ok-asked.asked.clause steps more r s
    (c.use_clause.ensures ds us x.at steps more o d bs a (enter-using ready c.in_ok-asked.asked.clause steps more r s c.in_ok-asked.asked.path m))
