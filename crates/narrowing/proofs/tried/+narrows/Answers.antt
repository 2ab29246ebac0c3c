-- The cycle of calls of src/tried.rt meets its contracts: a goal by its atoms, an atom by the clauses at hand, a clause by its body with one less of the height. Assumes nothing.
use native.Mathlib.Omega.{arith}
use mathlib.Core.Path.{refl, subst, ◌∙◌}
use borrow.Author.Tests.{not-false}
use Rattle.packet.specs.declared.Word.TheVariants as W
use Rattle.room.specs.declared.Spot.{Spot}
use Rattle.narrow.specs.Narrow.{Adds, ByClause}
use Rattle.narrow.proofs.MarkLaws.{more-none, more-then}
use Rattle.narrowing.proofs.TriedLaws as tried
use Rattle.narrowing.proofs.RuleLaws as rules
use Rattle.narrowing.proofs.tried.+narrows.Goals as goal

pub narrow_and-narrow_goal-requires : goal.narrow_and-narrow_goal-requires
narrow_and-narrow_goal-requires t c = (omega (arith, c.decreases), tt)

pub narrow_and-shape_of-room-then-narrow_goal : goal.narrow_and-shape_of-room-then-narrow_goal
narrow_and-shape_of-room-then-narrow_goal t c = c.narrow_goal.auto.room

pub narrow_and-shape_of-marks-then-narrow_goal : goal.narrow_and-shape_of-marks-then-narrow_goal
narrow_and-shape_of-marks-then-narrow_goal t c = c.narrow_goal.auto.marks

pub narrow_and-returns-then-narrow_goal : goal.narrow_and-returns-then-narrow_goal
narrow_and-returns-then-narrow_goal t c = (c.narrow_goal.ensures.0, tried.and_first c.args.left c.within-x.ensures c.narrow_goal.ensures.1 c.if-narrow_goal.true)

pub narrow_and-shape_of-room-in_default : goal.narrow_and-shape_of-room-in_default
narrow_and-shape_of-room-in_default t c = c.narrow_goal.auto.room

pub narrow_and-shape_of-marks-in_default : goal.narrow_and-shape_of-marks-in_default
narrow_and-shape_of-marks-in_default t c = c.again.auto.marks ∙ c.narrow_goal.auto.marks

pub narrow_and-returns-in_default : goal.narrow_and-returns-in_default
narrow_and-returns-in_default t c = (λ e. tried.more_same (c.again.ensures e) (c.narrow_goal.ensures.0 e), tried.and-lost c.args.left c.past_part.ensures c.in_default.is)

pub narrow_and-narrow_goal-requires-2 : goal.narrow_and-narrow_goal-requires-2
narrow_and-narrow_goal-requires-2 t c = (omega (arith, c.decreases), tt)

pub narrow_and-shape_of-room : goal.narrow_and-shape_of-room
narrow_and-shape_of-room t c = c.narrow_goal-2.auto.room ∙ c.narrow_goal.auto.room

pub narrow_and-shape_of-marks : goal.narrow_and-shape_of-marks
narrow_and-shape_of-marks t c = c.narrow_goal-2.auto.marks ∙ (c.again.auto.marks ∙ c.narrow_goal.auto.marks)

pub narrow_and-returns : goal.narrow_and-returns
narrow_and-returns t c = (λ e. more-then (c.narrow_goal.ensures.0 e) (tried.more-from (c.again.ensures e) (c.narrow_goal-2.ensures.0 e)), tried.and_second c.args.left c.within-x.ensures c.narrow_goal.ensures.1 c.narrow_goal.auto.room c.past_part.ensures c.in-Some.is c.within-y.ensures c.narrow_goal-2.ensures.1)

pub narrow_atom-returns-then-not-has_variable : goal.narrow_atom-returns-then-not-has_variable
narrow_atom-returns-then-not-has_variable t c = let x = c.args in (more-none x.marks.now, tried.as-nothing W.Atom x.left)

pub narrow_atom-loop-k-init : goal.narrow_atom-loop-k-init
narrow_atom-loop-k-init t c = (refl, (more-none c.args.marks.now, tried.atom-start))

pub narrow_atom-narrow_clause-requires : goal.narrow_atom-narrow_clause-requires
narrow_atom-narrow_clause-requires t c = (omega (arith, c.decreases), tt)

pub narrow_atom-shape_of-room-then-not-narrow_clause : goal.narrow_atom-shape_of-room-then-not-narrow_clause
narrow_atom-shape_of-room-then-not-narrow_clause t c = c.narrow_clause.auto.room ∙ c.loop-k.invariant.0

pub narrow_atom-shape_of-marks-then-not-narrow_clause : goal.narrow_atom-shape_of-marks-then-not-narrow_clause
narrow_atom-shape_of-marks-then-not-narrow_clause t c = c.narrow_clause.auto.marks ∙ c.loop-k.invariant.1.0.long

pub narrow_atom-returns-then-not-narrow_clause : goal.narrow_atom-returns-then-not-narrow_clause
narrow_atom-returns-then-not-narrow_clause t c = let l = c.loop-k in
    let n = c.narrow_clause in
    (more-then l.invariant.1.0 n.ensures.0, tried.atom-stops l.k l.invariant.1.1 l.invariant.0 c.predicate_key.ensures c.arguments_of.ensures (n.ensures.1 refl))

pub narrow_atom-loop-k-preserved : goal.narrow_atom-loop-k-preserved
narrow_atom-loop-k-preserved t c = let l = c.loop-k in
    let n = c.narrow_clause in
    (n.auto.room ∙ l.invariant.0, (more-then l.invariant.1.0 n.ensures.0, tried.atom-next l.k l.invariant.1.1 l.invariant.0 c.predicate_key.ensures c.arguments_of.ensures (n.ensures.1 refl) (not-false n.result c.if-not-narrow_clause.false-raw) n.ensures.0))

pub narrow_atom-shape_of-room : goal.narrow_atom-shape_of-room
narrow_atom-shape_of-room t c = c.loop-k.invariant.0

pub narrow_atom-shape_of-marks : goal.narrow_atom-shape_of-marks
narrow_atom-shape_of-marks t c = c.loop-k.invariant.1.0.long

pub narrow_atom-returns : goal.narrow_atom-returns
narrow_atom-returns t c = let l = c.loop-k in (l.invariant.1.0, tried.atom-done l.k c.clauses-n.result c.loop-k-test.false c.clauses-n.ensures l.invariant.1.1)

pub narrow_clause-shape_of-marks-then-by_clause : goal.narrow_clause-shape_of-marks-then-by_clause
narrow_clause-shape_of-marks-then-by_clause t c = c.by_clause.ensures.more.long

pub narrow_clause-returns-then-by_clause : goal.narrow_clause-returns-then-by_clause
narrow_clause-returns-then-by_clause t c = let x = c.args in
    let b = c.by_clause in
    (b.ensures.more, λ e. tried.clause-heads (subst (λ (y : Spot). Adds x.marks.now b.new.marks b.result (ByClause x.files.now x.room.now y x.a.own x.a.variable x.a.predicate x.a.arguments b.new.marks x.k)) e b.ensures) c.if-by_clause.true)

pub narrow_clause-narrow_rule-requires : goal.narrow_clause-narrow_rule-requires
narrow_clause-narrow_rule-requires t c = (omega (arith, c.decreases), tt)

pub narrow_clause-shape_of-room : goal.narrow_clause-shape_of-room
narrow_clause-shape_of-room t c = c.narrow_rule.auto.room

pub narrow_clause-shape_of-marks : goal.narrow_clause-shape_of-marks
narrow_clause-shape_of-marks t c = c.narrow_rule.auto.marks ∙ c.by_clause.ensures.more.long

pub narrow_clause-returns : goal.narrow_clause-returns
narrow_clause-returns t c = (more-then c.by_clause.ensures.more c.narrow_rule.ensures.0, λ e P. c.narrow_rule.ensures.1 c.args.a.own)

pub narrow_goal-returns-then-height-eq0 : goal.narrow_goal-returns-then-height-eq0
narrow_goal-returns-then-height-eq0 t c = let x = c.args in (λ e. more-none x.marks.now, tried.goal-nothing x.height)

pub narrow_goal-narrow_atom-requires : goal.narrow_goal-narrow_atom-requires
narrow_goal-narrow_atom-requires t c = (omega (arith, c.decreases, c.if-height-eq0.false), tt)

pub narrow_goal-narrow_and-requires : goal.narrow_goal-narrow_and-requires
narrow_goal-narrow_and-requires t c = (omega (arith, c.decreases, c.if-height-eq0.false), tt)

pub narrow_goal-shape_of-room-in-Atom : goal.narrow_goal-shape_of-room-in-Atom
narrow_goal-shape_of-room-in-Atom t c = c.narrow_atom.auto.room

pub narrow_goal-shape_of-marks-in-Atom : goal.narrow_goal-shape_of-marks-in-Atom
narrow_goal-shape_of-marks-in-Atom t c = c.narrow_atom.auto.marks

pub narrow_goal-returns-in-Atom : goal.narrow_goal-returns-in-Atom
narrow_goal-returns-in-Atom t c = (λ e. c.narrow_atom.ensures.0, tried.goal-word c.args.height W.Atom c.word_there.result c.if-height-eq0.false c.word_there.ensures c.in-Atom.is c.narrow_atom.ensures.1)

pub narrow_goal-shape_of-room-in-And : goal.narrow_goal-shape_of-room-in-And
narrow_goal-shape_of-room-in-And t c = c.narrow_and.auto.room

pub narrow_goal-shape_of-marks-in-And : goal.narrow_goal-shape_of-marks-in-And
narrow_goal-shape_of-marks-in-And t c = c.narrow_and.auto.marks

pub narrow_goal-returns-in-And : goal.narrow_goal-returns-in-And
narrow_goal-returns-in-And t c = (c.narrow_and.ensures.0, tried.goal-word c.args.height W.And c.word_there.result c.if-height-eq0.false c.word_there.ensures c.in-And.is c.narrow_and.ensures.1)

pub narrow_goal-returns-in_default : goal.narrow_goal-returns-in_default
narrow_goal-returns-in_default t c = let x = c.args in (λ e. more-none x.marks.now, tried.goal-nothing x.height)

pub narrow_rule-shape_of-room-in_default : goal.narrow_rule-shape_of-room-in_default
narrow_rule-shape_of-room-in_default t c = c.open_clause.auto.room

pub narrow_rule-returns-in_default : goal.narrow_rule-returns-in_default
narrow_rule-returns-in_default t c = let x = c.args in (more-none x.marks.now, λ own. rules.rule-none x.k c.open_clause.ensures c.in_default.is)

pub narrow_rule-shape_of-room-in_default-clause_parts : goal.narrow_rule-shape_of-room-in_default-clause_parts
narrow_rule-shape_of-room-in_default-clause_parts t c = c.open_clause.auto.room

pub narrow_rule-returns-in_default-clause_parts : goal.narrow_rule-returns-in_default-clause_parts
narrow_rule-returns-in_default-clause_parts t c = let x = c.args in (more-none x.marks.now, λ own. rules.rule-stops x.k c.open_clause.ensures c.in-Some.is)

pub narrow_rule-shape_of-room-then-not-p : goal.narrow_rule-shape_of-room-then-not-p
narrow_rule-shape_of-room-then-not-p t c = c.open_clause.auto.room

pub narrow_rule-returns-then-not-p : goal.narrow_rule-returns-then-not-p
narrow_rule-returns-then-not-p t c = let x = c.args in (more-none x.marks.now, λ own. rules.rule-stops x.k c.open_clause.ensures c.in-Some.is)

pub narrow_rule-shape_of-room-in_default-same_as : goal.narrow_rule-shape_of-room-in_default-same_as
narrow_rule-shape_of-room-in_default-same_as t c = c.open_clause.auto.room

pub narrow_rule-returns-in_default-same_as : goal.narrow_rule-returns-in_default-same_as
narrow_rule-returns-in_default-same_as t c = let x = c.args in (more-none x.marks.now, λ own. rules.rule-stops x.k c.open_clause.ensures c.in-Some.is)

pub narrow_rule-shape_of-room-then-not-spend : goal.narrow_rule-shape_of-room-then-not-spend
narrow_rule-shape_of-room-then-not-spend t c = c.open_clause.auto.room

pub narrow_rule-shape_of-marks-then-not-spend : goal.narrow_rule-shape_of-marks-then-not-spend
narrow_rule-shape_of-marks-then-not-spend t c = c.spend.ensures.long

pub narrow_rule-returns-then-not-spend : goal.narrow_rule-returns-then-not-spend
narrow_rule-returns-then-not-spend t c = (c.spend.ensures, λ own. rules.rule-stops c.args.k c.open_clause.ensures c.in-Some.is)

pub narrow_rule-narrow_goal-requires : goal.narrow_rule-narrow_goal-requires
narrow_rule-narrow_goal-requires t c = (omega (arith, c.decreases), tt)

pub narrow_rule-shape_of-room : goal.narrow_rule-shape_of-room
narrow_rule-shape_of-room t c = c.narrow_goal.auto.room ∙ (c.set_beside.auto.room ∙ (c.unset_all.auto.room ∙ c.open_clause.auto.room))

pub narrow_rule-shape_of-marks : goal.narrow_rule-shape_of-marks
narrow_rule-shape_of-marks t c = c.narrow_goal.auto.marks ∙ c.spend.ensures.long

pub narrow_rule-returns : goal.narrow_rule-returns
narrow_rule-returns t c = let p = c.in-Some-clause_parts.p in
    (more-then c.spend.ensures (c.narrow_goal.ensures.0 refl), λ own. rules.rule-goes c.args.k c.open_clause.ensures c.in-Some.is c.clause_parts.ensures c.in-Some-clause_parts.is (not-false p.body c.if-not-p.false) c.same_as.ensures c.in-Some-same_as.is c.unset_all.ensures c.set_beside.ensures c.body_place-y.ensures c.narrow_goal.ensures.1)
