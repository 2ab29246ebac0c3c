-- `key_at` and `keys_at` of src/term.rt meet their contracts: the nesting that is left falls. Assumes nothing.
use borrow.Author.Tests.{not-true, not-false}
use Rattle.equal.proofs.RestLaws.{past-on}
use Rattle.keys.proofs.WalkLaws.{key-never, key-known, key-rest, keys-start, keys-lost, keys-next, keys-end}
use borrow.Author.Rules.{rules}
use Rattle.keys.proofs.term.+key.Goals as goal

pub key_at-returns-then-nest-eq0 : goal.key_at-returns-then-nest-eq0
key_at-returns-then-nest-eq0 t c = let x = c.args in key-never x.s.now x.at x.room.now x.x x.nest c.if-nest-eq0.true

pub key_at-returns-in-Key : goal.key_at-returns-in-Key
key_at-returns-in-Key t c = let x = c.args in
    key-known x.s.now x.at x.room.now x.x x.nest c.from-t.ensures c.begins.ensures c.in-Key.is

pub key_at-returns-in-Terms : goal.key_at-returns-in-Terms
key_at-returns-in-Terms t c = let x = c.args in
    key-rest x.s.now x.at x.room.now x.x x.nest c.from-t.ensures c.begins.ensures c.keys_at.result c.in-Terms.is c.if-nest-eq0.false c.keys_at.ensures

pub keys_at-loop-x-init : goal.keys_at-loop-x-init
keys_at-loop-x-init t c = let x = c.args in keys-start x.s.now x.at x.room.now x.x x.h x.nest

pub keys_at-returns-in_default : goal.keys_at-returns-in_default
keys_at-returns-in_default t c = let x = c.args in
    let l = c.loop-x in
    keys-lost x.s.now x.at x.room.now x.x x.h x.nest l.p l.k l.invariant c.closes.ensures (not-true c.closes.result c.loop-x-test.true-raw) c.key_at.ensures c.in_default.is c.past.ensures

pub keys_at-loop-x-smaller : goal.keys_at-loop-x-smaller
keys_at-loop-x-smaller t c = let x = c.args in
    let l = c.loop-x in
    let h = past-on x.s.now l.p 64 c.in-Some.is c.past.ensures in
    search rules

pub keys_at-loop-x-preserved : goal.keys_at-loop-x-preserved
keys_at-loop-x-preserved t c = let x = c.args in
    let l = c.loop-x in
    keys-next x.s.now x.at x.room.now x.x x.h x.nest l.p l.k l.invariant c.closes.ensures (not-true c.closes.result c.loop-x-test.true-raw) c.key_at.ensures c.mix-k.result c.mix-k.ensures c.in-Some.is c.past.ensures

pub keys_at-returns : goal.keys_at-returns
keys_at-returns t c = let x = c.args in
    let l = c.loop-x in
    keys-end x.s.now x.at x.room.now x.x x.h x.nest l.p l.k l.invariant c.closes.ensures (not-false c.closes.result c.loop-x-test.false-raw)
