-- The cycle of calls of src/provable.rt meets its contracts: the search of a goal, over the clauses at hand, through one clause, and of its body with one less. Assumes nothing.
use borrow.Enum.Refused.{opened}
use native.Mathlib.Omega.{arith}
use Prim.Native.Nat.{ℕ, ◌+◌, ◌-◌}
use mathlib.Core.Path.{refl, ap, subst, ◌∙◌}
use mathlib.Core.Bool.{true, false}
use mathlib.Core.List.{[], ◌∷◌}
use lib.ListN.{set}
use borrow.Author.Tests.{not-true, not-false}
use Rattle.harrop.specs.declared.Binding.TheVariants.{Candidate}
use Rattle.packet.specs.declared.Kind.TheVariants as K
use Rattle.packet.specs.declared.Word.TheVariants as W
use Rattle.packet.specs.Table.{rows, rank}
use Rattle.rows.proofs.TableLaws.{no_row, tag-rank}
use Rattle.room.specs.Frame.{binding_word, held}
use Rattle.table.specs.Recall.{Says}
use Rattle.proving.proofs.ProvingLaws as laws
use Rattle.proving.proofs.AtomLaws as atoms
use Rattle.proving.proofs.PassingLaws as passing
use Rattle.proving.proofs.FillLaws as filling
use Rattle.narrowing.proofs.TriedLaws as tried
use Rattle.proving.proofs.LocatingLaws as locating
use Rattle.provable.proofs.provable.+proves.Goals as goal

pub ask-returns-then-not-is_due : goal.ask-returns-then-not-is_due
ask-returns-then-not-is_due t c = filling.one-waits c.args.height c.is_due.ensures (not-true c.is_due.result c.if-not-is_due.true-raw)

pub ask-prove_goal-requires : goal.ask-prove_goal-requires
ask-prove_goal-requires t c = (omega (arith, c.decreases), tt)

pub ask-shape_of-room : goal.ask-shape_of-room
ask-shape_of-room t c = c.prove_goal.auto.room

pub ask-returns : goal.ask-returns
ask-returns t c = filling.one-asked c.args.height c.is_due.ensures (not-false c.is_due.result c.if-not-is_due.false-raw) c.prove_goal.ensures

pub body-returns-then-not-p : goal.body-returns-then-not-p
body-returns-then-not-p t c = filling.body-none (not-true c.args.p.body c.if-not-p.true)

pub body-look-requires : goal.body-look-requires
body-look-requires t c = (omega (arith, c.decreases), tt)

pub body-shape_of-room : goal.body-shape_of-room
body-shape_of-room t c = c.look.auto.room

pub body-returns : goal.body-returns
body-returns t c = filling.body-looked (not-false c.args.p.body c.if-not-p.false) c.body_place.ensures c.look.ensures

pub both-returns-then-not-prove_goal : goal.both-returns-then-not-prove_goal
both-returns-then-not-prove_goal t c = laws.both_first c.within.ensures c.prove_goal.ensures (not-true c.prove_goal.result c.if-not-prove_goal.true-raw)

pub both-shape_of-room-in_default : goal.both-shape_of-room-in_default
both-shape_of-room-in_default t c = c.prove_goal.auto.room

pub both-returns-in_default : goal.both-returns-in_default
both-returns-in_default t c = laws.both-lost c.past_part.ensures c.in_default.is

pub both-prove_goal-requires-2 : goal.both-prove_goal-requires-2
both-prove_goal-requires-2 t c = (omega (arith, c.decreases), tt)

pub both-shape_of-room : goal.both-shape_of-room
both-shape_of-room t c = c.prove_goal-2.auto.room ∙ c.prove_goal.auto.room

pub both-returns : goal.both-returns
both-returns t c = laws.both-second c.within.ensures c.within-2.ensures c.past_part.ensures c.in-Some.is c.prove_goal.ensures (not-false c.prove_goal.result c.if-not-prove_goal.false-raw) c.prove_goal.auto.room c.prove_goal-2.ensures

pub decide-find_clause-requires : goal.decide-find_clause-requires
decide-find_clause-requires t c = (omega (arith, c.decreases), tt)

pub decide-shape_of-room-in_default : goal.decide-shape_of-room-in_default
decide-shape_of-room-in_default t c = c.keep.auto.room ∙ c.find_clause.auto.room

pub decide-returns-in_default : goal.decide-returns-in_default
decide-returns-in_default t c = atoms.decide-none c.args.at c.find_clause.ensures.0 c.in_default.is c.find_clause.auto.room c.plus.ensures c.keep.ensures.only c.keep.ensures.kept

pub decide-shape_of-room-then-is_fact : goal.decide-shape_of-room-then-is_fact
decide-shape_of-room-then-is_fact t c = c.find_clause.auto.room

pub decide-returns-then-is_fact : goal.decide-returns-then-is_fact
decide-returns-then-is_fact t c = atoms.decide-fact c.args.at c.find_clause.ensures.0 c.in-Some.is

pub decide-shape_of-room : goal.decide-shape_of-room
decide-shape_of-room t c = c.keep-2.auto.room ∙ c.find_clause.auto.room

pub decide-returns : goal.decide-returns
decide-returns t c = atoms.decide-some c.args.at c.find_clause.ensures.0 c.find_clause.ensures.1 c.in-Some.is c.find_clause.auto.room c.plus-2.ensures c.rule_number-number.ensures c.keep-2.ensures.only c.keep-2.ensures.kept

pub each-loop-i-init : goal.each-loop-i-init
each-loop-i-init t c = let x = c.args in
    (refl, passing.all_start x.nest)

pub each-shape_of-room-then-through_with : goal.each-shape_of-room-then-through_with
each-shape_of-room-then-through_with t c = c.through_with.auto.room ∙ c.loop-i.invariant.0

pub each-returns-then-through_with : goal.each-returns-then-through_with
each-returns-then-through_with t c = let x = c.args in
    let l = c.loop-i in
    passing.all-hit x.nest l.i c.candidates-n.result c.loop-i-test.true c.candidates-n.ensures l.invariant.1 l.invariant.0 c.through_with.ensures c.if-through_with.true

pub each-loop-i-preserved : goal.each-loop-i-preserved
each-loop-i-preserved t c = let x = c.args in
    let l = c.loop-i in
    (c.through_with.auto.room ∙ l.invariant.0, passing.all-miss x.nest l.i c.candidates-n.result c.loop-i-test.true c.candidates-n.ensures l.invariant.1 l.invariant.0 c.through_with.ensures c.if-through_with.false)

pub each-shape_of-room : goal.each-shape_of-room
each-shape_of-room t c = c.loop-i.invariant.0

pub each-returns : goal.each-returns
each-returns t c = let x = c.args in
    let l = c.loop-i in
    passing.all_done x.nest l.i c.candidates-n.result c.loop-i-test.false c.candidates-n.ensures l.invariant.1

pub fill-returns-then-k-eq0 : goal.fill-returns-then-k-eq0
fill-returns-then-k-eq0 t c = filling.fill_end c.args.k c.if-k-eq0.true c.fits.ensures

pub fill-try_all-requires : goal.fill-try_all-requires
fill-try_all-requires t c = (omega (arith, c.decreases, c.if-k-eq0.false), tt)

pub fill-shape_of-room-then-is_open : goal.fill-shape_of-room-then-is_open
fill-shape_of-room-then-is_open t c = c.try_all.auto.room

pub fill-returns-then-is_open : goal.fill-returns-then-is_open
fill-returns-then-is_open t c = filling.fill_here c.args.k c.if-k-eq0.false c.is_open.ensures c.if-is_open.true c.try_all.ensures

pub fill-fill-requires : goal.fill-fill-requires
fill-fill-requires t c = (omega (arith, c.decreases, c.if-k-eq0.false), tt)

pub fill-shape_of-room : goal.fill-shape_of-room
fill-shape_of-room t c = c.fill.auto.room

pub fill-returns : goal.fill-returns
fill-returns t c = filling.fill-set c.args.k c.if-k-eq0.false c.is_open.ensures c.if-is_open.false c.fill.ensures

pub find_clause-loop-k-init : goal.find_clause-loop-k-init
find_clause-loop-k-init t c = (c.next_clause-k.ensures.few, (refl, atoms.find-start c.next_clause-k.ensures))

pub find_clause-use_clause-requires : goal.find_clause-use_clause-requires
find_clause-use_clause-requires t c = (omega (arith, c.decreases), tt)

pub find_clause-shape_of-room-then-use_clause : goal.find_clause-shape_of-room-then-use_clause
find_clause-shape_of-room-then-use_clause t c = c.use_clause.auto.room ∙ c.loop-k.invariant.1.0

pub find_clause-returns-then-use_clause : goal.find_clause-returns-then-use_clause
find_clause-returns-then-use_clause t c = let l = c.loop-k in
    (atoms.find-hit l.k c.clauses-n.result c.loop-k-test.true c.clauses-n.ensures l.invariant.1.1 l.invariant.1.0 c.use_clause.ensures.0 c.if-use_clause.true, locating.located-hit l.k l.invariant.1.1 l.invariant.1.0 c.use_clause.ensures.1 c.if-use_clause.true)

pub find_clause-loop-k-smaller : goal.find_clause-loop-k-smaller
find_clause-loop-k-smaller t c = let z = c.next_clause-k-in-loop-k.ensures.further (omega (arith, c.loop-k-test.true)) in
    omega (arith, c.loop-k-test.true)

pub find_clause-loop-k-preserved : goal.find_clause-loop-k-preserved
find_clause-loop-k-preserved t c = let l = c.loop-k in
    (c.next_clause-k-in-loop-k.ensures.few, (c.use_clause.auto.room ∙ l.invariant.1.0, atoms.find-miss l.k l.invariant.1.1 l.invariant.1.0 (c.use_clause.auto.room ∙ l.invariant.1.0) c.use_clause.ensures.0 c.if-use_clause.false c.next_clause-k-in-loop-k.ensures))

pub find_clause-shape_of-room : goal.find_clause-shape_of-room
find_clause-shape_of-room t c = c.loop-k.invariant.1.0

pub find_clause-returns : goal.find_clause-returns
find_clause-returns t c = let l = c.loop-k in
    (atoms.find-done l.k c.clauses-n.result c.loop-k-test.false c.clauses-n.ensures l.invariant.1.1, locating.located-none)

pub fork-returns-in_default : goal.fork-returns-in_default
fork-returns-in_default t c = passing.and-lost c.args.nest c.past_part.ensures c.in_default.is

pub fork-returns-then-through : goal.fork-returns-then-through
fork-returns-then-through t c = passing.and_first c.args.nest c.further.ensures c.through.ensures.0 c.if-through.true

pub fork-returns : goal.fork-returns
fork-returns t c = passing.and_second c.args.nest c.further.ensures c.further-2.ensures c.past_part.ensures c.in-Some.is c.through.ensures.0 c.if-through.false c.through.auto.room c.through-2.ensures.0

pub look-look_and-requires : goal.look-look_and-requires
look-look_and-requires t c = (omega (arith, c.decreases), tt)

pub look-returns-then-not-is_due : goal.look-returns-then-not-is_due
unfolding rank
look-returns-then-not-is_due t c = let k = c.word_there.result in
    filling.look-other k c.word_there.ensures (filling.other_word k W.And (3 ∷ []) (tag-rank k) c.in-Atom.in-Atom-own.keys2 refl) (filling.one-waits c.args.height c.is_due.ensures (not-true c.is_due.result c.if-not-is_due.true-raw))

pub look-returns-then-height-eq0 : goal.look-returns-then-height-eq0
unfolding rank
look-returns-then-height-eq0 t c = let k = c.word_there.result in
    filling.look-other k c.word_there.ensures (filling.other_word k W.And (3 ∷ []) (tag-rank k) c.in-Atom.in-Atom-own.keys2 refl) (filling.one-asked c.args.height c.is_due.ensures (not-false c.is_due.result c.if-not-is_due.false-raw) (laws.no-height c.args.height c.if-height-eq0.true))

pub look-prove_atom-requires : goal.look-prove_atom-requires
look-prove_atom-requires t c = (omega (arith, c.decreases, c.if-height-eq0.false), tt)

pub look-ask-requires : goal.look-ask-requires
look-ask-requires t c = (omega (arith, c.decreases), tt)

pub look-shape_of-room-in-And : goal.look-shape_of-room-in-And
look-shape_of-room-in-And t c = c.look_and.auto.room

pub look-returns-in-And : goal.look-returns-in-And
look-returns-in-And t c = let k = c.word_there.result in
    filling.look-and k c.word_there.ensures c.in-And.is c.look_and.ensures

pub look-shape_of-room-else-height-eq0 : goal.look-shape_of-room-else-height-eq0
look-shape_of-room-else-height-eq0 t c = c.prove_atom.auto.room

pub look-returns-else-height-eq0 : goal.look-returns-else-height-eq0
unfolding rank
look-returns-else-height-eq0 t c = let k = c.word_there.result in
    filling.look-other k c.word_there.ensures (filling.other_word k W.And (3 ∷ []) (tag-rank k) c.in-Atom.in-Atom-own.keys2 refl) (filling.one-asked c.args.height c.is_due.ensures (not-false c.is_due.result c.if-not-is_due.false-raw) (laws.by_word c.args.height W.Atom k c.if-height-eq0.false c.word_there.ensures c.in-Atom.is c.prove_atom.ensures))

pub look-shape_of-room-in_default : goal.look-shape_of-room-in_default
look-shape_of-room-in_default t c = c.ask.auto.room

pub look-returns-in_default : goal.look-returns-in_default
look-returns-in_default t c = let k = c.word_there.result in
    filling.look-other k c.word_there.ensures c.in_default.not-And c.ask.ensures

pub look_and-returns-then-height-eq0 : goal.look_and-returns-then-height-eq0
look_and-returns-then-height-eq0 t c = filling.both-flat c.args.height c.if-height-eq0.true

pub look_and-look-requires : goal.look_and-look-requires
look_and-look-requires t c = (omega (arith, c.decreases, c.if-height-eq0.false), tt)

pub look_and-shape_of-room-then-not-look : goal.look_and-shape_of-room-then-not-look
look_and-shape_of-room-then-not-look t c = c.look.auto.room

pub look_and-returns-then-not-look : goal.look_and-returns-then-not-look
look_and-returns-then-not-look t c = filling.both_first c.args.height c.if-height-eq0.false c.within.ensures c.look.ensures (not-true c.look.result c.if-not-look.true-raw)

pub look_and-shape_of-room-in_default : goal.look_and-shape_of-room-in_default
look_and-shape_of-room-in_default t c = c.look.auto.room

pub look_and-returns-in_default : goal.look_and-returns-in_default
look_and-returns-in_default t c = filling.both-lost c.args.height c.past_part.ensures c.in_default.is

pub look_and-overflow_sub-height-2 : goal.look_and-overflow_sub-height-2
look_and-overflow_sub-height-2 t c = omega (arith, c.if-height-eq0.false)

pub look_and-look-requires-2 : goal.look_and-look-requires-2
look_and-look-requires-2 t c = (omega (arith, c.decreases, c.if-height-eq0.false), tt)

pub look_and-shape_of-room : goal.look_and-shape_of-room
look_and-shape_of-room t c = c.look-2.auto.room ∙ c.look.auto.room

pub look_and-returns : goal.look_and-returns
look_and-returns t c = filling.both-second c.args.height c.if-height-eq0.false c.within.ensures c.within-2.ensures c.past_part.ensures c.in-Some.is c.look.ensures (not-false c.look.result c.if-not-look.false-raw) c.look.auto.room c.look-2.ensures

pub prove_all-returns-then-w-ge64 : goal.prove_all-returns-then-w-ge64
prove_all-returns-then-w-ge64 t c = laws.all-full c.if-w-ge64.true

pub prove_all-returns : goal.prove_all-returns
prove_all-returns t c = laws.all-goes {p = c.args.w.parameters + 1} refl c.bound.ensures (laws.proving-from c.push.ensures c.prove_goal.ensures)

pub prove_atom-returns-then-n-next_clause : goal.prove_atom-returns-then-n-next_clause
prove_atom-returns-then-n-next_clause t c = atoms.atom-barred c.clauses-n.result c.next_clause.result c.both_keys-of.ensures.0 c.both_keys-of.ensures.1 c.clauses-n.ensures c.next_clause.ensures c.if-n-next_clause.true

pub prove_atom-decide-requires : goal.prove_atom-decide-requires
prove_atom-decide-requires t c = (omega (arith, c.decreases), tt)

pub prove_atom-returns-in-Some : goal.prove_atom-returns-in-Some
prove_atom-returns-in-Some t c = atoms.atom-recalled c.slot_for-at.result c.recall.result c.in-Some.known c.plus.ensures c.slot_for-at.ensures.1 c.recall.ensures (λ b x. subst (Says b) c.in-Some.is x)

pub prove_atom-shape_of-room-in-None : goal.prove_atom-shape_of-room-in-None
prove_atom-shape_of-room-in-None t c = c.decide.auto.room

pub prove_atom-returns-in-None : goal.prove_atom-returns-in-None
prove_atom-returns-in-None t c = atoms.atom-decided c.slot_for-at.result c.both_keys-of.ensures.0 c.both_keys-of.ensures.1 c.slot_for-at.ensures.1 c.decide.ensures

pub prove_goal-returns-then-height-eq0 : goal.prove_goal-returns-then-height-eq0
prove_goal-returns-then-height-eq0 t c = laws.no-height c.args.height c.if-height-eq0.true

pub prove_goal-returns-in-Top : goal.prove_goal-returns-in-Top
prove_goal-returns-in-Top t c = let x = c.args in
    laws.by_word x.height W.Top c.word_there.result c.if-height-eq0.false c.word_there.ensures c.in-Top.is (laws.top-proved (x.height - 1))

pub prove_goal-returns-in-Atom : goal.prove_goal-returns-in-Atom
prove_goal-returns-in-Atom t c = let x = c.args in
    laws.by_word x.height W.Atom c.word_there.result c.if-height-eq0.false c.word_there.ensures c.in-Atom.is c.prove_atom.ensures

pub prove_goal-returns-in-And : goal.prove_goal-returns-in-And
prove_goal-returns-in-And t c = let x = c.args in
    laws.by_word x.height W.And c.word_there.result c.if-height-eq0.false c.word_there.ensures c.in-And.is c.both.ensures

pub prove_goal-returns-in-Or : goal.prove_goal-returns-in-Or
prove_goal-returns-in-Or t c = let x = c.args in
    laws.by_word x.height W.Or c.word_there.result c.if-height-eq0.false c.word_there.ensures c.in-Or.is c.prove_or.ensures

pub prove_goal-returns-in-Some : goal.prove_goal-returns-in-Some
prove_goal-returns-in-Some t c = let x = c.args in
    laws.by_word x.height W.Some c.word_there.result c.if-height-eq0.false c.word_there.ensures c.in-Some.is c.prove_some.ensures.0

pub prove_goal-returns-in-All : goal.prove_goal-returns-in-All
prove_goal-returns-in-All t c = let x = c.args in
    laws.by_word x.height W.All c.word_there.result c.if-height-eq0.false c.word_there.ensures c.in-All.is c.prove_all.ensures

pub prove_goal-returns-in-Imp : goal.prove_goal-returns-in-Imp
prove_goal-returns-in-Imp t c = let x = c.args in
    laws.by_word x.height W.Imp c.word_there.result c.if-height-eq0.false c.word_there.ensures c.in-Imp.is c.under.ensures

pub prove_goal-returns-in_default : goal.prove_goal-returns-in_default
unfolding rows rank
prove_goal-returns-in_default t c =
    let k = c.word_there.result in
    laws.by-other c.args.height k c.word_there.ensures (no_row K.Goal k (opened c.in_default.in_default-own.keys8) refl)

pub prove_or-returns-in_default : goal.prove_or-returns-in_default
prove_or-returns-in_default t c = laws.either-lost c.past_part.ensures c.in_default.is

pub prove_or-returns-then-prove_goal : goal.prove_or-returns-then-prove_goal
prove_or-returns-then-prove_goal t c = laws.either_first c.within.ensures c.prove_goal.ensures c.if-prove_goal.true

pub prove_or-prove_goal-requires-2 : goal.prove_or-prove_goal-requires-2
prove_or-prove_goal-requires-2 t c = (omega (arith, c.decreases), tt)

pub prove_or-returns : goal.prove_or-returns
prove_or-returns t c = laws.either_second c.within.ensures c.within-2.ensures c.past_part.ensures c.in-Some.is c.prove_goal.ensures c.if-prove_goal.false c.prove_goal.auto.room c.prove_goal-2.ensures

pub prove_some-returns-then-left-p : goal.prove_some-returns-then-left-p
prove_some-returns-then-left-p t c = (filling.some-low c.args.left c.deeper.ensures c.chain_of-p.ensures c.if-left-p.true, locating.located-no-some)

pub prove_some-overflow_sub-p : goal.prove_some-overflow_sub-p
prove_some-overflow_sub-p t c = c.chain_of-p.ensures.some (omega arith)

pub prove_some-overflow_sub-left : goal.prove_some-overflow_sub-left
prove_some-overflow_sub-left t c = omega (arith, c.if-left-p.false)

pub prove_some-start-requires : goal.prove_some-start-requires
prove_some-start-requires t c = (let l = c.chain_of-p.ensures.some (omega arith) in omega (arith, l, c.decreases, c.if-left-p.false), tt)

pub prove_some-shape_of-room : goal.prove_some-shape_of-room
prove_some-shape_of-room t c = c.start.auto.room

pub prove_some-returns : goal.prove_some-returns
prove_some-returns t c = let x = c.args in
    let f = x.files.now in
    (filling.some-goes {f = f} x.left c.deeper.ensures c.chain_of-p.ensures c.if-left-p.false c.start.ensures, filling.some-located {f = f} x.left c.deeper.ensures c.chain_of-p.ensures c.if-left-p.false c.start.ensures)

pub start-shape_of-room-in_default : goal.start-shape_of-room-in_default
start-shape_of-room-in_default t c = c.meet.auto.room ∙ c.unset_all.auto.room

pub start-returns-in_default : goal.start-returns-in_default
start-returns-in_default t c = filling.plain-settled c.unset_all.ensures c.meet.ensures c.in_default.is

pub start-body-requires : goal.start-body-requires
start-body-requires t c = (omega (arith, c.decreases), tt)

pub start-shape_of-room-then-not-body : goal.start-shape_of-room-then-not-body
start-shape_of-room-then-not-body t c = c.body.auto.room ∙ (c.meet.auto.room ∙ c.unset_all.auto.room)

pub start-returns-then-not-body : goal.start-returns-then-not-body
start-returns-then-not-body t c = filling.plain_body c.unset_all.ensures c.meet.ensures c.in-Some.is c.body.ensures (not-true c.body.result c.if-not-body.true-raw)

pub start-fill-requires : goal.start-fill-requires
start-fill-requires t c = (omega (arith, c.decreases), tt)

pub start-shape_of-room : goal.start-shape_of-room
start-shape_of-room t c = c.fill.auto.room ∙ (c.body.auto.room ∙ (c.meet.auto.room ∙ c.unset_all.auto.room))

pub start-returns : goal.start-returns
start-returns t c = filling.plain-goes c.unset_all.ensures c.meet.ensures c.in-Some.is c.body.ensures (not-false c.body.result c.if-not-body.false-raw) c.body.auto.room c.fill.ensures

pub through-returns-then-nest-eq0 : goal.through-returns-then-nest-eq0
through-returns-then-nest-eq0 t c = (passing.no-nest c.args.nest c.if-nest-eq0.true, locating.located-no)

pub through-start-requires : goal.through-start-requires
through-start-requires t c = (let l = c.parts_of.ensures.few c.in-Some.p c.in-Some.is in omega (arith, c.decreases, l), tt)

pub through-shape_of-room-in-Some : goal.through-shape_of-room-in-Some
through-shape_of-room-in-Some t c = c.start.auto.room

pub through-returns-in-Some : goal.through-returns-in-Some
through-returns-in-Some t c = (filling.plain-found c.args.nest c.parts_of.ensures c.in-Some.is c.start.ensures, locating.located-plain c.parts_of.ensures c.in-Some.is c.start.ensures)

pub through-returns-then-not-has_head : goal.through-returns-then-not-has_head
through-returns-then-not-has_head t c = (passing.passes_none c.args.nest c.has_head.ensures (not-true c.has_head.result c.if-not-has_head.true-raw), locating.located-no)

pub through-fork-requires : goal.through-fork-requires
through-fork-requires t c = (omega (arith, c.decreases, c.if-nest-eq0.false), tt)

pub through-each-requires : goal.through-each-requires
through-each-requires t c = (omega (arith, c.decreases, c.if-nest-eq0.false), tt)

pub through-shape_of-room-in-And : goal.through-shape_of-room-in-And
through-shape_of-room-in-And t c = c.fork.auto.room

pub through-returns-in-And : goal.through-returns-in-And
through-returns-in-And t c = let x = c.args in
    (passing.by_word x.nest W.And c.word_there.result c.if-nest-eq0.false c.word_there.ensures c.in-And.is c.fork.ensures, locating.located-not c.parts_of.ensures c.in_default.is)

pub through-shape_of-room-in-All : goal.through-shape_of-room-in-All
through-shape_of-room-in-All t c = c.each.auto.room

pub through-returns-in-All : goal.through-returns-in-All
through-returns-in-All t c = let x = c.args in
    (passing.by_word x.nest W.All c.word_there.result c.if-nest-eq0.false c.word_there.ensures c.in-All.is c.each.ensures, locating.located-not c.parts_of.ensures c.in_default.is)

pub through-returns-in_default-word_there : goal.through-returns-in_default-word_there
through-returns-in_default-word_there t c = let w = c.in_default-word_there in
    (filling.no-path c.args.nest c.word_there.result c.word_there.ensures w.not-And w.not-All c.parts_of.ensures c.in_default.is, locating.located-no)

pub through_with-returns-then-not-may_use : goal.through_with-returns-then-not-may_use
through_with-returns-then-not-may_use t c = passing.with-barred c.args.i c.args.nest c.may_use.result c.may_use.ensures (not-true c.may_use.result c.if-not-may_use.true-raw)

pub through_with-returns : goal.through_with-returns
through_with-returns t c = let x = c.args in
    passing.with-goes x.i x.nest c.may_use.result c.may_use.ensures (not-false c.may_use.result c.if-not-may_use.false-raw) c.deeper.ensures (passing.passing-from (c.push.ensures ∙ ap (λ (j : ℕ). set x.room.now j (held (binding_word (Candidate x.i)))) c.plus.ensures) c.through.ensures.0)

pub try_all-loop-i-init : goal.try_all-loop-i-init
try_all-loop-i-init t c = (refl, tried.from_start c.args.v c.candidates-n.result)

pub try_all-loop-i-preserved-then-is_left_out : goal.try_all-loop-i-preserved-then-is_left_out
try_all-loop-i-preserved-then-is_left_out t c = let l = c.loop-i in
    let s = c.is_left_out.ensures c.if-is_left_out.true in
    (l.invariant.0, tried.from-skip c.args.v c.candidates-n.result l.i c.loop-i-test.true l.invariant.1 s.0 c.narrow_body-narrowed.auto.marks s.1)

pub try_all-try_one-requires : goal.try_all-try_one-requires
try_all-try_one-requires t c = (omega (arith, c.decreases), tt)

pub try_all-shape_of-room-then-try_one : goal.try_all-shape_of-room-then-try_one
try_all-shape_of-room-then-try_one t c = c.try_one.auto.room ∙ (c.loop-i.invariant.0 ∙ c.narrow_body-narrowed.auto.room)

pub try_all-returns-then-try_one : goal.try_all-returns-then-try_one
try_all-returns-then-try_one t c = let l = c.loop-i in
    let x = c.args in
    let n = c.narrow_body-narrowed in
    filling.each-hit x.v l.i c.candidates-n.result c.loop-i-test.true c.candidates-n.ensures (l.invariant.1 x.room.now n.ensures n.auto.room c.candidates-n.ensures) (l.invariant.0 ∙ n.auto.room) c.try_one.ensures c.if-try_one.true

pub try_all-loop-i-preserved : goal.try_all-loop-i-preserved
try_all-loop-i-preserved t c = let l = c.loop-i in
    (c.try_one.auto.room ∙ l.invariant.0, tried.from-miss c.args.v c.candidates-n.result l.i c.loop-i-test.true l.invariant.1 l.invariant.0 c.try_one.ensures c.if-try_one.false)

pub try_all-shape_of-room : goal.try_all-shape_of-room
try_all-shape_of-room t c = c.push.auto.room ∙ (c.loop-i.invariant.0 ∙ c.narrow_body-narrowed.auto.room)

pub try_all-returns : goal.try_all-returns
try_all-returns t c = let l = c.loop-i in
    let x = c.args in
    let n = c.narrow_body-narrowed in
    filling.each-done x.v l.i c.candidates-n.result c.loop-i-test.false c.candidates-n.ensures (l.invariant.1 x.room.now n.ensures n.auto.room c.candidates-n.ensures) (l.invariant.0 ∙ n.auto.room) c.word_of.ensures c.push.ensures

pub try_one-returns-then-not-may_use : goal.try_one-returns-then-not-may_use
try_one-returns-then-not-may_use t c = let x = c.args in
    filling.with-barred x.v x.i c.may_use.result c.may_use.ensures (not-true c.may_use.result c.if-not-may_use.true-raw)

pub try_one-shape_of-room-then-not-may_fit : goal.try_one-shape_of-room-then-not-may_fit
try_one-shape_of-room-then-not-may_fit t c = c.push.auto.room

pub try_one-returns-then-not-may_fit : goal.try_one-returns-then-not-may_fit
try_one-returns-then-not-may_fit t c = let x = c.args in
    filling.with-head x.v x.i c.may_use.result c.may_use.ensures (not-false c.may_use.result c.if-not-may_use.false-raw) c.word_of.ensures c.push.ensures c.may_fit.ensures (not-true c.may_fit.result c.if-not-may_fit.true-raw)

pub try_one-body-requires : goal.try_one-body-requires
try_one-body-requires t c = (omega (arith, c.decreases), tt)

pub try_one-shape_of-room-then-not-body : goal.try_one-shape_of-room-then-not-body
try_one-shape_of-room-then-not-body t c = c.body.auto.room ∙ c.push.auto.room

pub try_one-returns-then-not-body : goal.try_one-returns-then-not-body
try_one-returns-then-not-body t c = let x = c.args in
    filling.with-body x.v x.i c.may_use.result c.may_use.ensures (not-false c.may_use.result c.if-not-may_use.false-raw) c.word_of.ensures c.push.ensures c.body.ensures (not-true c.body.result c.if-not-body.true-raw)

pub try_one-fill-requires : goal.try_one-fill-requires
try_one-fill-requires t c = (omega (arith, c.decreases), tt)

pub try_one-shape_of-room : goal.try_one-shape_of-room
try_one-shape_of-room t c = c.fill.auto.room ∙ (c.body.auto.room ∙ c.push.auto.room)

pub try_one-returns : goal.try_one-returns
try_one-returns t c = let x = c.args in
    filling.with-goes x.v x.i c.may_use.result c.may_use.ensures (not-false c.may_use.result c.if-not-may_use.false-raw) c.word_of.ensures c.push.ensures c.body.ensures (not-false c.body.result c.if-not-body.false-raw) c.body.auto.room c.fill.ensures

pub under-returns-then-left-eq0 : goal.under-returns-then-left-eq0
under-returns-then-left-eq0 t c = laws.under-flat c.if-left-eq0.true

pub under-returns-in_default : goal.under-returns-in_default
under-returns-in_default t c = laws.under-lost c.past_part.ensures c.in_default.is

pub under-prove_goal-requires : goal.under-prove_goal-requires
under-prove_goal-requires t c = (omega (arith, c.decreases), tt)

pub under-shape_of-room : goal.under-shape_of-room
under-shape_of-room t c = c.prove_goal.auto.room ∙ (c.forget.auto.room ∙ c.suppose.auto.room)

pub under-returns : goal.under-returns
under-returns t c = laws.under_goes c.if-left-eq0.false c.further.ensures c.plus.ensures c.supposes.ensures c.past_part.ensures c.in-Some.is c.suppose.ensures c.forget.ensures.only c.forget.ensures.gone c.prove_goal.ensures

pub use_clause-returns-in_default : goal.use_clause-returns-in_default
use_clause-returns-in_default t c = (passing.by-none c.args.k c.open_clause.ensures c.in_default.is, locating.located-no-clause c.args.k)

pub use_clause-start-requires : goal.use_clause-start-requires
use_clause-start-requires t c = (let l = c.clause_parts.ensures.few c.in-Some-clause_parts.p c.in-Some-clause_parts.is in omega (arith, c.decreases, l), tt)

pub use_clause-returns-in-Some-clause_parts : goal.use_clause-returns-in-Some-clause_parts
use_clause-returns-in-Some-clause_parts t c = (filling.by_parts c.args.k c.open_clause.ensures c.in-Some.is c.clause_parts.ensures c.in-Some-clause_parts.is c.start.ensures, locating.located-parts c.args.k c.open_clause.ensures c.in-Some.is c.clause_parts.ensures c.in-Some-clause_parts.is c.start.ensures)

pub use_clause-returns : goal.use_clause-returns
use_clause-returns t c = (passing.by-clause c.args.k c.open_clause.ensures c.in-Some.is c.through.ensures.0, locating.located-by c.args.k c.open_clause.ensures c.in-Some.is c.through.ensures.1)
