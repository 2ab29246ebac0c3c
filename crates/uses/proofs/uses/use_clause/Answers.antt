-- `use_clause` of src/uses.rt meets its contract. Assumes nothing.
use mathlib.Core.Path.{ap, ◌∙◌}
use lib.ListN.{length}
use Rattle.harrop.specs.Place.{follow, listed}
use Rattle.uses.proofs.FollowLaws.{reaches-as}
use Rattle.uses.proofs.HandLaws.{opened-as, opened_inside, opened-none, opened-clause}
use Rattle.uses.proofs.UseLaws.{use-none, open-following, use-lost, left-inside, end-above, use-end, use-says}
use native.Mathlib.Omega.{arith}
use Rattle.uses.proofs.uses.use_clause.Goals as goal

pub returns-in_err-x : goal.returns-in_err-x
returns-in_err-x c = let x = c.args in
    let n = opened-as x.room.now _ x.k x.w.supposed x.w.top c.open_clause.result _ c.in_err-x.was c.open_clause.ensures in
    rw c.from_residual.ensures (λ ds us at steps more o d bs a u. use-none u _ n.0 (opened-none u.place x.k _ u.long n))

pub overflow_add-x : goal.overflow_add-x
overflow_add-x c = let x = c.args in
    let l = opened_inside x.room.now _ x.k x.w.supposed x.w.top c.in_ok-x.x (opened-as x.room.now _ x.k x.w.supposed x.w.top c.open_clause.result _ c.in_ok-x.was c.open_clause.ensures) in
    let g = c.well_formed in
    record { fits = omega (arith, l, g) }

pub returns-in_err-reached : goal.returns-in_err-reached
returns-in_err-reached c = let x = c.args in
    rw c.from_residual-in_err-reached.ensures (λ ds us at steps more o d bs a u.
    let p = opened-clause u.place x.k _ c.in_ok-x.x (opened-as x.room.now _ x.k x.w.supposed x.w.top c.open_clause.result _ c.in_ok-x.was c.open_clause.ensures) in
    let z = reaches-as _ _ us o (follow (listed us) o p.hand.clause p.hand.bindings steps) c.in_ok-x.x.base c.follow.result _ c.in_err-reached.was (c.follow.ensures.followed x.files.now ds us o c.in_ok-x.x.base c.in_ok-x.x.count p.hand.clause p.hand.bindings steps u.place.openly (open-following u p _ c.part-clause.ensures.bytes)) in
    use-lost u p _ c.follow.ensures.kept z)

pub returns-then-whole-reached : goal.returns-then-whole-reached
returns-then-whole-reached c = let x = c.args in
    let m = c.if-whole-reached.true in
    λ ds us at steps more o d bs a u.
    let p = opened-clause u.place x.k _ c.in_ok-x.x (opened-as x.room.now _ x.k x.w.supposed x.w.top c.open_clause.result _ c.in_ok-x.was c.open_clause.ensures) in
    let z = reaches-as _ _ us o (follow (listed us) o p.hand.clause p.hand.bindings steps) c.in_ok-x.x.base c.follow.result _ c.in_ok-reached.was (c.follow.ensures.followed x.files.now ds us o c.in_ok-x.x.base c.in_ok-x.x.count p.hand.clause p.hand.bindings steps u.place.openly (open-following u p _ c.part-clause.ensures.bytes)) in
    absurd (omega (arith, left-inside u p _ c.follow.ensures.kept c.part-clause.ensures.bytes z _ (ap length c.file-whole.ensures)))

pub returns-then-reached-w : goal.returns-then-reached-w
returns-then-reached-w c = let x = c.args in
    let m = c.if-reached-w.true in
    λ ds us at steps more o d bs a u.
    let p = opened-clause u.place x.k _ c.in_ok-x.x (opened-as x.room.now _ x.k x.w.supposed x.w.top c.open_clause.result _ c.in_ok-x.was c.open_clause.ensures) in
    let z = reaches-as _ _ us o (follow (listed us) o p.hand.clause p.hand.bindings steps) c.in_ok-x.x.base c.follow.result _ c.in_ok-reached.was (c.follow.ensures.followed x.files.now ds us o c.in_ok-x.x.base c.in_ok-x.x.count p.hand.clause p.hand.bindings steps u.place.openly (open-following u p _ c.part-clause.ensures.bytes)) in
    absurd (omega (arith, end-above u p _ c.follow.ensures.kept c.part-clause.ensures.bytes z))

pub shape_of-room : goal.shape_of-room
shape_of-room c = c.follow.auto.room ∙ c.open_clause.auto.room

pub returns : goal.returns
returns c = let x = c.args in
    λ ds us at steps more o d bs a u.
    let p = opened-clause u.place x.k _ c.in_ok-x.x (opened-as x.room.now _ x.k x.w.supposed x.w.top c.open_clause.result _ c.in_ok-x.was c.open_clause.ensures) in
    let z = reaches-as _ _ us o (follow (listed us) o p.hand.clause p.hand.bindings steps) c.in_ok-x.x.base c.follow.result _ c.in_ok-reached.was (c.follow.ensures.followed x.files.now ds us o c.in_ok-x.x.base c.in_ok-x.x.count p.hand.clause p.hand.bindings steps u.place.openly (open-following u p _ c.part-clause.ensures.bytes)) in
    use-says u p _ c.follow.ensures.kept c.part-clause.ensures.bytes z
    (c.conclude.ensures ds us at x.k steps more o d bs a z.last z.bindings
    (use-end u p _ c.follow.ensures.kept c.part-clause.ensures.bytes z _ (ap length c.file-whole.ensures) c.follow.auto.room))
