-- `has_variable` and `have_variable` of src/rule.rt meet their contracts: the nesting that is left falls. Assumes nothing.
use borrow.Author.Tests.{not-true, not-false}
use Rattle.equal.proofs.RestLaws.{past-on}
use Rattle.keys.proofs.RuleLaws.{has-never, is-variable, has-lost, has_rest, have-start, have-found, have-lost, have-next, have-end}
use borrow.Author.Rules.{rules}
use Rattle.keys.proofs.rule.+variable.Goals as goal

pub has_variable-returns-then-nest-eq0 : goal.has_variable-returns-then-nest-eq0
has_variable-returns-then-nest-eq0 t c = let x = c.args in has-never x.s.now x.at x.nest c.if-nest-eq0.true

pub has_variable-returns-then-is_word : goal.has_variable-returns-then-is_word
has_variable-returns-then-is_word t c = let x = c.args in
    is-variable x.s.now x.at x.nest c.from-t.ensures {r = c.is_word.result} c.is_word.ensures c.if-is_word.true

pub has_variable-returns-in-None : goal.has_variable-returns-in-None
has_variable-returns-in-None t c = let x = c.args in
    has-lost x.s.now x.at x.nest c.from-t.ensures {r = c.is_word.result} c.is_word.ensures c.if-is_word.false c.in-None.is c.past.ensures

pub has_variable-returns-in-Some : goal.has_variable-returns-in-Some
has_variable-returns-in-Some t c = let x = c.args in
    has_rest x.s.now x.at x.nest c.from-t.ensures {r = c.is_word.result} c.is_word.ensures c.if-is_word.false c.have_variable.result c.in-Some.is c.past.ensures c.if-nest-eq0.false c.have_variable.ensures

pub have_variable-loop-at-init : goal.have_variable-loop-at-init
have_variable-loop-at-init t c = let x = c.args in have-start x.s.now x.at x.nest

pub have_variable-returns-then-has_variable : goal.have_variable-returns-then-has_variable
have_variable-returns-then-has_variable t c = let x = c.args in
    let l = c.loop-at in
    have-found x.s.now x.at x.nest l.p l.invariant c.closes.ensures (not-true c.closes.result c.loop-at-test.true-raw) c.has_variable.ensures c.if-has_variable.true

pub have_variable-returns-in_default : goal.have_variable-returns-in_default
have_variable-returns-in_default t c = let x = c.args in
    let l = c.loop-at in
    have-lost x.s.now x.at x.nest l.p l.invariant c.closes.ensures (not-true c.closes.result c.loop-at-test.true-raw) c.has_variable.ensures c.in_default.is c.past.ensures

pub have_variable-loop-at-smaller : goal.have_variable-loop-at-smaller
have_variable-loop-at-smaller t c = let x = c.args in
    let l = c.loop-at in
    let h = past-on x.s.now l.p 64 c.in-Some.is c.past.ensures in
    search rules

pub have_variable-loop-at-preserved : goal.have_variable-loop-at-preserved
have_variable-loop-at-preserved t c = let x = c.args in
    let l = c.loop-at in
    have-next x.s.now x.at x.nest l.p l.invariant c.closes.ensures (not-true c.closes.result c.loop-at-test.true-raw) c.has_variable.ensures c.if-has_variable.false c.in-Some.is c.past.ensures

pub have_variable-returns : goal.have_variable-returns
have_variable-returns t c = let x = c.args in
    let l = c.loop-at in
    have-end x.s.now x.at x.nest l.p l.invariant c.closes.ensures (not-false c.closes.result c.loop-at-test.false-raw)
