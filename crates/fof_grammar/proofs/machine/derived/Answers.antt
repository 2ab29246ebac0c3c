use native.Mathlib.Omega.{arith}
use Prim.Native.Nat.{◌+◌, ◌-◌}
use mathlib.Core.Path.{refl, ◌∙◌}
use lib.ListN.{length, get_or, length-set}
use mir.Syntax.{w64}
use mathlib.Core.List.{[], ◌∷◌}
use lib.Dec.{eqb}
use Rattle.grammar.specs.Derives.{any}
use Rattle.fof_productions.specs.Name.{file}
use borrow.Author.Rules.{Fits-under}
use Rattle.fof_productions.proofs.Same.{as-decided, tells-published}
use Rattle.fof_grammar.proofs.Running.{starts, symbol_low, name-low, token-next, token-fails, name-fails, name-room, name-next, in-room, nearby, finishes}
use Rattle.fof_grammar.proofs.machine.derived.Goals as goal

pub loop-top-init : goal.loop-top-init
loop-top-init c = (refl, starts c.args.codes.now c.args.stack.now (let l = c.requires.1 in omega arith))

pub bounds-stack-top : goal.bounds-stack-top
bounds-stack-top c = let l = in-room c.args.codes.now c.loop-top.stack c.loop-top.top c.loop-top.at c.loop-top.invariant.1 c.requires.0 in let h = c.loop-top-test.true in let k = c.loop-top.invariant.0 ∙ length-set c.args.stack.now 0 75 in let m = c.requires.1 in omega arith

pub overflow_sub-s-then-s-lt75 : goal.overflow_sub-s-then-s-lt75
overflow_sub-s-then-s-lt75 c = symbol_low c.args.codes.now c.loop-top.stack c.loop-top.top c.loop-top.at c.loop-top.invariant.1 c.loop-top-test.true (get_or c.loop-top.stack (c.loop-top.top - 1) 0) refl

pub shape_of-stack-then-s-c : goal.shape_of-stack-then-s-c
shape_of-stack-then-s-c c = c.loop-top.invariant.0 ∙ length-set c.args.stack.now 0 75

pub returns-then-s-c : goal.returns-then-s-c
returns-then-s-c c = λ w e t. token-fails c.args.codes.now c.loop-top.stack c.loop-top.top c.loop-top.at c.loop-top.invariant.1 c.loop-top-test.true (get_or c.loop-top.stack (c.loop-top.top - 1) 0) refl c.if-s-lt75.true c.next-c.result c.next-c.ensures c.if-s-c.true w e (as-decided t)

pub overflow_sub-top : goal.overflow_sub-top
overflow_sub-top c = c.loop-top-test.true

pub overflow_add-at : goal.overflow_add-at
overflow_add-at c = let r = (token-next c.args.codes.now c.loop-top.stack c.loop-top.top c.loop-top.at c.loop-top.invariant.1 c.loop-top-test.true (get_or c.loop-top.stack (c.loop-top.top - 1) 0) refl c.if-s-lt75.true c.next-c.result c.next-c.ensures c.if-s-c.false).0 in Fits-under w64 _ 16386 (nearby (c.loop-top.at + 1) (length c.args.codes.now) r.inside c.requires.0) tt

pub loop-top-smaller-then-s-lt75 : goal.loop-top-smaller-then-s-lt75
loop-top-smaller-then-s-lt75 c = (token-next c.args.codes.now c.loop-top.stack c.loop-top.top c.loop-top.at c.loop-top.invariant.1 c.loop-top-test.true (get_or c.loop-top.stack (c.loop-top.top - 1) 0) refl c.if-s-lt75.true c.next-c.result c.next-c.ensures c.if-s-c.false).1

pub loop-top-preserved-then-s-lt75 : goal.loop-top-preserved-then-s-lt75
loop-top-preserved-then-s-lt75 c = (c.loop-top.invariant.0, (token-next c.args.codes.now c.loop-top.stack c.loop-top.top c.loop-top.at c.loop-top.invariant.1 c.loop-top-test.true (get_or c.loop-top.stack (c.loop-top.top - 1) 0) refl c.if-s-lt75.true c.next-c.result c.next-c.ensures c.if-s-c.false).0)

pub decide-k-requires : goal.decide-k-requires
decide-k-requires c = name-low c.args.codes.now c.loop-top.stack c.loop-top.top c.loop-top.at c.loop-top.invariant.1 c.loop-top-test.true (get_or c.loop-top.stack (c.loop-top.top - 1) 0) refl c.if-s-lt75.false

pub shape_of-stack-then-k : goal.shape_of-stack-then-k
shape_of-stack-then-k c = c.loop-top.invariant.0 ∙ length-set c.args.stack.now 0 75

pub returns-then-k : goal.returns-then-k
returns-then-k c = λ w e t. name-fails c.args.codes.now c.loop-top.stack c.loop-top.top c.loop-top.at c.loop-top.invariant.1 c.loop-top-test.true (get_or c.loop-top.stack (c.loop-top.top - 1) 0) refl c.if-s-lt75.false c.decide-k.result c.decide-k.ensures.decides c.if-k.true w e (as-decided t)

pub push-top-requires : goal.push-top-requires
push-top-requires c = ((c.decide-k.ensures.one c.if-k.false).0, name-room c.args.codes.now c.loop-top.stack c.loop-top.top c.loop-top.at c.loop-top.invariant.1 c.loop-top-test.true (get_or c.loop-top.stack (c.loop-top.top - 1) 0) refl c.if-s-lt75.false c.decide-k.result c.decide-k.ensures.decides (c.decide-k.ensures.one c.if-k.false).1 c.requires.0 (let k = c.loop-top.invariant.0 ∙ length-set c.args.stack.now 0 75 in let m = c.requires.1 in omega arith))

pub loop-top-smaller : goal.loop-top-smaller
loop-top-smaller c = (name-next c.args.codes.now c.loop-top.stack c.loop-top.top c.loop-top.at c.loop-top.invariant.1 c.loop-top-test.true (get_or c.loop-top.stack (c.loop-top.top - 1) 0) refl c.if-s-lt75.false c.decide-k.result c.decide-k.ensures.decides (c.decide-k.ensures.one c.if-k.false).1 c.push-top.new.stack c.push-top.result c.if-k.false c.push-top.ensures).1

pub loop-top-preserved : goal.loop-top-preserved
loop-top-preserved c = (c.push-top.auto.stack ∙ c.loop-top.invariant.0, (name-next c.args.codes.now c.loop-top.stack c.loop-top.top c.loop-top.at c.loop-top.invariant.1 c.loop-top-test.true (get_or c.loop-top.stack (c.loop-top.top - 1) 0) refl c.if-s-lt75.false c.decide-k.result c.decide-k.ensures.decides (c.decide-k.ensures.one c.if-k.false).1 c.push-top.new.stack c.push-top.result c.if-k.false c.push-top.ensures).0)

pub shape_of-stack : goal.shape_of-stack
shape_of-stack c = c.loop-top.invariant.0 ∙ length-set c.args.stack.now 0 75

pub returns : goal.returns
returns c = λ w e. tells-published (eqb c.loop-top.at (length c.args.codes.now)) (any file ∷ []) w (finishes c.args.codes.now c.loop-top.stack c.loop-top.top c.loop-top.at c.loop-top.invariant.1 c.loop-top-test.false w e)
