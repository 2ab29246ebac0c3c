-- `text` (src/text.rt): hints not read, no bracket, or a hint and what follows it; each answer is one law of TextLaws.
use Prim.Native.Nat.{◌<◌, ◌≤◌}
use lib.ListN.{length}
use Rattle.std.proofs.lemmas.Result.{err_from_is_err_and}
use Rattle.sexp.proofs.TextLaws.{text-unread, text-unhinted, hint-stuck, hint-inside, hint-end, hint-open, hint-text}
use native.Mathlib.Omega.{arith}
use Rattle.sexp.proofs.text.text.Goals as goal
use Rattle.sexp.proofs.text.text.Goals.{In_ok-to}

-- the hint that was read ends inside the file
inside-known : (c : In_ok-to) → (c.args.at < c.in_ok-to.to) × (c.in_ok-to.to ≤ length c.args.s.now)
inside-known c =
    let x = c.args in
    hint-inside x.hints c.if-not-hints.false x.s.now x.at c.requires c.if-s-at-ne91.false c.in_ok-to.field-0-0 c.in_ok-to.to c.in_ok-to.ensures

pub returns-then-not-hints : goal.returns-then-not-hints
returns-then-not-hints c = let x = c.args in text-unread x.hints x.s.now x.at c.verbatim.result c.requires c.if-not-hints.true c.verbatim.ensures

pub returns-then-s-at-ne91 : goal.returns-then-s-at-ne91
returns-then-s-at-ne91 c = let x = c.args in text-unhinted x.hints x.s.now x.at c.verbatim-then-s-at-ne91.result c.requires c.if-s-at-ne91.true c.verbatim-then-s-at-ne91.ensures

pub returns-in_err-to : goal.returns-in_err-to
returns-in_err-to c =
    let x = c.args in
    let h = hint-stuck x.hints c.if-not-hints.false x.s.now x.at c.requires c.if-s-at-ne91.false c.in_err-to.field-0.0 c.in_err-to.ensures in
    let p = err_from_is_err_and c.from_residual.result c.from_residual.ensures.1 in
    rw (p.1, p.2) h

pub returns-then-to-s : goal.returns-then-to-s
returns-then-to-s c =
    let x = c.args in
    hint-end x.hints c.if-not-hints.false x.s.now x.at c.requires c.if-s-at-ne91.false c.in_ok-to.field-0-0 c.in_ok-to.to c.in_ok-to.ensures (omega arith)

pub returns-then-s-to-ne93 : goal.returns-then-s-to-ne93
returns-then-s-to-ne93 c =
    let x = c.args in
    let k = inside-known (goal.at.returns-then-s-to-ne93 c).In_ok-to in
    hint-open x.hints c.if-not-hints.false x.s.now x.at c.requires c.if-s-at-ne91.false c.in_ok-to.field-0-0 c.in_ok-to.to c.in_ok-to.ensures (omega arith) c.if-s-to-ne93.true

pub returns : goal.returns
returns c =
    let x = c.args in
    let k = inside-known (goal.at.returns c).In_ok-to in
    hint-text x.hints c.if-not-hints.false x.s.now x.at c.requires c.if-s-at-ne91.false c.in_ok-to.field-0-0 c.in_ok-to.to c.in_ok-to.ensures c.verbatim-3.result (omega arith) c.if-s-to-ne93.false c.verbatim-3.ensures
