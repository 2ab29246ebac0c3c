-- `conclude` of src/uses.rt meets its contract. Assumes nothing.
use mathlib.Core.Path.{ap, ◌∙◌}
use Rattle.std.specs.Prelude.{Some}
use borrow.Author.Tests.{not-true, not-false}
use Rattle.sexp.proofs.AnswerLaws.{past_next, past-nothing}
use Rattle.uses.proofs.PathLaws.{closes-yes, closes-no}
use Rattle.uses.proofs.EndLaws.{end-found, end-next, end-heads, end-nothing, fact-open, fact-differs, fact-fits, imp-shut, imp-differs, imp-fits}
use Rattle.uses.proofs.uses.conclude.Goals as goal

pub returns-in_err-next : goal.returns-in_err-next
returns-in_err-next c = let x = c.args in
    let f = x.files.now in
    rw c.from_residual.ensures (λ ds us at k steps more o d bs a e bs' h. absurd (end-found f x.strip.now x.room.now ds us x.w at x.path k steps o d bs a x.x x.end e bs' more h (past-nothing c.in_err-next.was c.past.ensures)))

pub returns-then-not-closes : goal.returns-then-not-closes
returns-then-not-closes c = let x = c.args in
    let f = x.files.now in
    λ ds us at k steps more o d bs a e bs' h.
    let t = end-heads f x.strip.now x.room.now ds us x.w at x.path k steps o d bs a x.x x.end e bs' more h (c.in_ok-a.was ∙ ap Some c.in-Fact.is) c.head_of.ensures in
    fact-open f x.strip.now x.room.now ds us x.w at x.path k steps o d bs a x.x x.end e bs' t.1 more h c.in_ok-next.next (end-next f x.strip.now x.room.now ds us x.w at x.path k steps o d bs a x.x x.end e bs' more h c.in_ok-next.next (past_next c.in_ok-next.was c.past.ensures)) (closes-no c.closes.ensures (not-true c.closes.result c.if-not-closes.true-raw))

pub returns-then-not-same_atoms : goal.returns-then-not-same_atoms
returns-then-not-same_atoms c = let x = c.args in
    let f = x.files.now in
    λ ds us at k steps more o d bs a e bs' h.
    let t = end-heads f x.strip.now x.room.now ds us x.w at x.path k steps o d bs a x.x x.end e bs' more h (c.in_ok-a.was ∙ ap Some c.in-Fact.is) c.head_of.ensures in
    fact-differs f x.strip.now x.room.now ds us x.w at x.path k steps o d bs a x.x x.end e bs' t.1 more h c.in-Fact.a c.same_atoms.result t.2 c.same_atoms.ensures (not-true c.same_atoms.result c.if-not-same_atoms.true-raw)

pub returns-then-closes : goal.returns-then-closes
returns-then-closes c = let x = c.args in
    let f = x.files.now in
    λ ds us at k steps more o d bs a e bs' h.
    let t = end-heads f x.strip.now x.room.now ds us x.w at x.path k steps o d bs a x.x x.end e bs' more h (c.in_ok-a.was ∙ ap Some c.in-Implies.is) c.head_of.ensures in
    imp-shut f x.strip.now x.room.now ds us x.w at x.path k steps o d bs a x.x x.end e bs' t.2 more h c.in_ok-next.next (end-next f x.strip.now x.room.now ds us x.w at x.path k steps o d bs a x.x x.end e bs' more h c.in_ok-next.next (past_next c.in_ok-next.was c.past.ensures)) (closes-yes c.closes-in-Implies.ensures c.if-closes.true)

pub returns-then-not-same_atoms-2 : goal.returns-then-not-same_atoms-2
returns-then-not-same_atoms-2 c = let x = c.args in
    let f = x.files.now in
    λ ds us at k steps more o d bs a e bs' h.
    let t = end-heads f x.strip.now x.room.now ds us x.w at x.path k steps o d bs a x.x x.end e bs' more h (c.in_ok-a.was ∙ ap Some c.in-Implies.is) c.head_of.ensures in
    imp-differs f x.strip.now x.room.now ds us x.w at x.path k steps o d bs a x.x x.end e bs' t.2 more h t.4 c.in-Implies.a c.same_atoms-in-Implies.result t.5 t.7 c.same_atoms-in-Implies.ensures (not-true c.same_atoms-in-Implies.result c.if-not-same_atoms-2.true-raw)

pub returns-in_err-a : goal.returns-in_err-a
returns-in_err-a c = let x = c.args in
    let f = x.files.now in
    rw c.from_residual-in_err-a.ensures (λ ds us at k steps more o d bs a e bs' h. end-nothing f x.strip.now x.room.now ds us x.w at x.path k steps o d bs a x.x x.end e bs' more h (end-heads f x.strip.now x.room.now ds us x.w at x.path k steps o d bs a x.x x.end e bs' more h c.in_err-a.was c.head_of.ensures))

pub returns-else-not-same_atoms : goal.returns-else-not-same_atoms
returns-else-not-same_atoms c = let x = c.args in
    let f = x.files.now in
    λ ds us at k steps more o d bs a e bs' h.
    let t = end-heads f x.strip.now x.room.now ds us x.w at x.path k steps o d bs a x.x x.end e bs' more h (c.in_ok-a.was ∙ ap Some c.in-Fact.is) c.head_of.ensures in
    fact-fits f x.strip.now x.room.now ds us x.w at x.path k steps o d bs a x.x x.end e bs' t.1 more h c.in_ok-next.next (end-next f x.strip.now x.room.now ds us x.w at x.path k steps o d bs a x.x x.end e bs' more h c.in_ok-next.next (past_next c.in_ok-next.was c.past.ensures)) (closes-yes c.closes.ensures (not-false c.closes.result c.if-not-closes.false-raw)) c.in-Fact.a c.same_atoms.result t.2 c.same_atoms.ensures (not-false c.same_atoms.result c.if-not-same_atoms.false-raw)

pub returns-else-not-same_atoms-2 : goal.returns-else-not-same_atoms-2
returns-else-not-same_atoms-2 c = let x = c.args in
    let f = x.files.now in
    λ ds us at k steps more o d bs a e bs' h.
    let t = end-heads f x.strip.now x.room.now ds us x.w at x.path k steps o d bs a x.x x.end e bs' more h (c.in_ok-a.was ∙ ap Some c.in-Implies.is) c.head_of.ensures in
    imp-fits f x.strip.now x.room.now ds us x.w at x.path k steps o d bs a x.x x.end e bs' t.2 more h c.in_ok-next.next (end-next f x.strip.now x.room.now ds us x.w at x.path k steps o d bs a x.x x.end e bs' more h c.in_ok-next.next (past_next c.in_ok-next.was c.past.ensures)) (closes-no c.closes-in-Implies.ensures c.if-closes.false) t.4 c.in-Implies.a c.in-Implies.g c.same_atoms-in-Implies.result t.3 t.6 t.5 t.7 c.same_atoms-in-Implies.ensures (not-false c.same_atoms-in-Implies.result c.if-not-same_atoms-2.false-raw)
