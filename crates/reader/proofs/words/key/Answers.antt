-- The number of some octets, octet by octet.
use Prim.Native.Nat.{ℕ}
use mathlib.Core.Path.{◌≡◌, subst}
use lib.ListN.{length, get_or, drop}
use Rattle.reader.specs.Key.{key_from, key_of}
use Rattle.reader.proofs.KeyLaws.{top, key-start, key-next, key-end, key_fits}
use native.Mathlib.Omega.{arith}
use Rattle.reader.proofs.words.key.Goals as goal

pub loop-b-init : goal.loop-b-init
unfolding top
loop-b-init c = record { small = omega arith; key = key-start c.args.w.now }

pub overflow_mul-k : goal.overflow_mul-k
overflow_mul-k c = let l = c.loop-b in let h = key_fits l.b-index (length c.args.w.now) l.k (get_or c.args.w.now l.b-index 0) c.loop-b-test.true c.requires l.invariant.small (omega (arith, c.type_inv.w l.b-index)) in omega arith

pub overflow_add-k : goal.overflow_add-k
overflow_add-k c = let l = c.loop-b in let h = key_fits l.b-index (length c.args.w.now) l.k (get_or c.args.w.now l.b-index 0) c.loop-b-test.true c.requires l.invariant.small (omega (arith, c.type_inv.w l.b-index)) in omega arith

pub loop-b-preserved : goal.loop-b-preserved
loop-b-preserved c =
    let l = c.loop-b in
    let h = key_fits l.b-index (length c.args.w.now) l.k (get_or c.args.w.now l.b-index 0) c.loop-b-test.true c.requires l.invariant.small (omega (arith, c.type_inv.w l.b-index)) in
    record { small = h.0; key = key-next c.args.w.now l.b-index l.k c.loop-b-test.true l.invariant.key }

pub returns : goal.returns
returns c =
    let l = c.loop-b in
    key-end c.args.w.now l.k (λ i. omega (arith, c.type_inv.w i))
    (subst (λ (n : ℕ). key_from l.k (drop n c.args.w.now) ≡ key_of c.args.w.now) {x = l.b-index} {y = length c.args.w.now} (omega arith) l.invariant.key)
