-- `follow` of src/uses.rt meets its contract: what is left of the nesting falls at each step. Assumes nothing.
use mathlib.Core.Path.{refl, ap, ◌∙◌}
use Rattle.std.specs.Prelude.{Some}
use mathlib.Core.Bool.{true, false}
use lib.ListN.{take}
use borrow.Author.Tests.{not-true, not-false}
use Rattle.sexp.proofs.StandLaws.{stands-before}
use Rattle.room.proofs.FileLaws.{rest-whole}
use Rattle.uses.proofs.FollowLaws.{follow-shut, follow-none, follow-ended, into-followed, bound-shut, bound-followed, bound-kept, turns_as, small-as, binds-as}
use native.Mathlib.Omega.{arith}
use borrow.Author.Rules.{rules}
use Rattle.uses.proofs.uses.+follow.Goals as goal

pub returns-then-nest-eq0 : goal.returns-then-nest-eq0
returns-then-nest-eq0 t c = record { kept = refl; followed = λ f ds us o base count d bs path e h. absurd (follow-shut h o c.if-nest-eq0.true) }

pub returns-then-clause-i : goal.returns-then-clause-i
returns-then-clause-i t c = let x = c.args in
    let m = c.if-clause-i.true in record {
      kept = refl;
      followed = λ f ds us o base count d bs path e h.
          let n = turns_as x.clause.now x.strip.now d path c.next_turn.result _ (c.in_ok-next_turn.was ∙ ap Some c.in-Into.is) (c.next_turn.ensures.turned d path h.stands (omega (arith, h.shallow)) h.steps) in
          absurd (omega (arith, stands-before n.stands));
    }

pub returns-then-clause-lt6 : goal.returns-then-clause-lt6
returns-then-clause-lt6 t c = let x = c.args in
    let m = c.if-clause-lt6.true in record {
      kept = refl;
      followed = λ f ds us o base count d bs path e h.
          let n = turns_as x.clause.now x.strip.now d path c.next_turn.result _ (c.in_ok-next_turn.was ∙ ap Some c.in-Bound.is) (c.next_turn.ensures.turned d path h.stands (omega (arith, h.shallow)) h.steps) in
          absurd (omega (arith, stands-before n.stands));
    }

pub bind-requires : goal.bind-requires
bind-requires t c = let l = small-as c.next_turn.result _ (c.in_ok-next_turn.was ∙ ap Some c.in-Bound.is) c.next_turn.ensures.small in
    search rules

pub returns-then-not-bind : goal.returns-then-not-bind
returns-then-not-bind t c = let x = c.args in
    let b = binds-as x.room.now _ x.top c.in-Bound.n x.parameters c.bind.result false (not-true c.bind.result c.if-not-bind.true-raw) c.bind.ensures in record {
      kept = ap (take x.top) b.0;
      followed = λ f ds us o base count d bs path e h.
          let n = turns_as x.clause.now x.strip.now d path c.next_turn.result _ (c.in_ok-next_turn.was ∙ ap Some c.in-Bound.is) (c.next_turn.ensures.turned d path h.stands (omega (arith, h.shallow)) h.steps) in
          bound-shut h o e n b;
    }

pub overflow_add-top : goal.overflow_add-top
overflow_add-top t c = let x = c.args in
    let b = binds-as x.room.now _ x.top c.in-Bound.n x.parameters c.bind.result true (not-false c.bind.result c.if-not-bind.false-raw) c.bind.ensures in
    let l = b.0 in
    search rules

pub returns-in_err-next_turn-clause-followed : goal.returns-in_err-next_turn-clause-followed
returns-in_err-next_turn-clause-followed t c = let x = c.args in
    rw c.from_residual.ensures (λ f ds us o base count d bs path e h. follow-none h o (turns_as x.clause.now x.strip.now d path c.next_turn.result _ c.in_err-next_turn.was (c.next_turn.ensures.turned d path h.stands (omega (arith, h.shallow)) h.steps)))

pub returns-in-Ended : goal.returns-in-Ended
returns-in-Ended t c = let x = c.args in
    record { kept = refl; followed = λ f ds us o base count d bs path e h. follow-ended h o (turns_as x.clause.now x.strip.now d path c.next_turn.result _ (c.in_ok-next_turn.was ∙ ap Some c.in-Ended.is) (c.next_turn.ensures.turned d path h.stands (omega (arith, h.shallow)) h.steps)) }

pub returns-else-clause-i : goal.returns-else-clause-i
returns-else-clause-i t c = let x = c.args in record {
  kept = c.follow.ensures.kept;
  followed = λ f ds us o base count d bs path e h.
      let n = turns_as x.clause.now x.strip.now d path c.next_turn.result _ (c.in_ok-next_turn.was ∙ ap Some c.in-Into.is) (c.next_turn.ensures.turned d path h.stands (omega (arith, h.shallow)) h.steps) in
      into-followed h o e c.if-nest-eq0.false n _ (rest-whole x.clause.now c.in-Into.i) _ c.follow.result c.follow.ensures.followed;
}

pub returns-else-not-bind : goal.returns-else-not-bind
returns-else-not-bind t c = let x = c.args in
    let b = binds-as x.room.now _ x.top c.in-Bound.n x.parameters c.bind.result true (not-false c.bind.result c.if-not-bind.false-raw) c.bind.ensures in
    let l = small-as c.next_turn.result _ (c.in_ok-next_turn.was ∙ ap Some c.in-Bound.is) c.next_turn.ensures.small in record {
      kept = bound-kept x.room.now _ _ x.top c.in-Bound.n x.parameters b c.follow-in-Bound.ensures.kept;
      followed = λ f ds us o base count d bs path e h.
          let n = turns_as x.clause.now x.strip.now d path c.next_turn.result _ (c.in_ok-next_turn.was ∙ ap Some c.in-Bound.is) (c.next_turn.ensures.turned d path h.stands (omega (arith, h.shallow)) h.steps) in
          bound-followed h o e n c.if-nest-eq0.false l b _ (rest-whole x.clause.now 6) _ c.follow-in-Bound.result c.follow-in-Bound.ensures.followed;
    }
