-- `tptp` of src/lib.rt: 1, 12, the refusals of the lines, or both files written by a second reading.
use borrow.Author.Tests.{not-true, not-false}
use Rattle.tptp.proofs.ConvertedLaws.{too_long, not_sound, refused-lines, written-lines}
use borrow.Author.Rules.{rules}
use Rattle.tptp.proofs.tptp.Goals as goal

pub returns-then-text-gt16384 : goal.returns-then-text-gt16384
returns-then-text-gt16384 c =
    let x = c.args in
    too_long x.text.now x.rules.now x.goal.now c.refused.result c.if-text-gt16384.true c.refused.ensures

pub returns-then-not-sound_text : goal.returns-then-not-sound_text
returns-then-not-sound_text c =
    let x = c.args in
    let s = c.sound_text in
    not_sound x.text.now x.rules.now x.goal.now s.result c.refused-then-not-sound_text.result c.if-text-gt16384.false s.ensures (not-true s.result c.if-not-sound_text.true-raw) c.refused-then-not-sound_text.ensures

pub returns-in-Some : goal.returns-in-Some
returns-in-Some c =
    let x = c.args in
    let s = c.sound_text in
    let m = c.measured in
    let n = c.reason in
    refused-lines x.text.now x.rules.now x.goal.now s.result m.result n.result c.in-Some.n c.refused-in-Some.result c.if-text-gt16384.false s.ensures (not-false s.result c.if-not-sound_text.false-raw) m.ensures n.ensures c.in-Some.is c.refused-in-Some.ensures

pub returns : goal.returns
returns c =
    let x = c.args in
    let s = c.sound_text in
    let m = c.measured in
    let n = c.reason in
    let q = c.pass-p in
    written-lines x.text.now x.rules.now q.new.rules x.goal.now q.new.goal s.result m.result q.result n.result c.if-text-gt16384.false s.ensures (not-false s.result c.if-not-sound_text.false-raw) m.ensures n.ensures c.in_default.is q.ensures
