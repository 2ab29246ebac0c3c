-- What a yes leaves behind the frame of a clause with no `and` on the way to its head, the numbers of the first path (specs/First), handed on from the frame to the clause that serves.
-- Each law ends in the contract of a function of crate provable, src/provable.
use Prim.Native.Nat.{ℕ, ◌+◌}
use native.Mathlib.Omega.{arith}
use mathlib.Core.Path.{◌≡◌, sym, ◌∙◌, ap, subst}
use mathlib.Core.Bool.{Bool, true, false, false≢true}
use mathlib.Core.List.{List}
use mathlib.Core.Option.{some-injective}
use lib.ListN.{length}
use Rattle.std.specs.Prelude.{Option, Some, None, is_some}
use Rattle.std.proofs.lemmas.Option.{none-some, same_Some}
use Rattle.harrop.specs.Place.{AtHand, Hand, Plain}
use Rattle.harrop.specs.Formula.{Term, Atom, Clause}
use Rattle.harrop.specs.Bindings.{Bindings}
use Rattle.room.specs.Files.{Files}
use Rattle.room.specs.declared.Spot.{Spot}
use Rattle.room.specs.declared.Where.{Where}
use Rattle.room.proofs.FrameLaws.{frame-length}
use Rattle.proving.specs.Hand.{Opened}
use Rattle.proving.specs.Parts.{PartsAt, PartsOf, ClauseParts, is_plain, quantifiers, core}
use Rattle.proving.specs.Proving.{Taken}
use Rattle.proving.specs.First.{Located}
use Rattle.proving.specs.Filling.{floor, PassingParts, Locating, LocatedAt, LocatingAt, LocatingFirst, LocatingSome}
use Rattle.proving.specs.declared.plain.Parts.{Parts}
use Rattle.proving.proofs.ReadyLaws.{ready-kept}
use Rattle.proving.proofs.HandLaws.{Opens, opened-clause}
use Rattle.proving.proofs.AtomLaws.{FindLeft}
use Rattle.proving.proofs.PassingLaws.{clause-there}
use Rattle.proving.proofs.FillLaws.{starting, opened-parts}

module _ {f : Files} {room after : List ℕ} {w : Where} {x : Spot} {left : ℕ} where
  pub located-no : Locating f room after w x left false
  located-no ds us o c bs a d bs' t plain y = absurd (false≢true y)

  -- a clause with an `and` leaves nothing
  pub located-not : {p : Option Parts} {r : Bool} → PartsOf f x 0 64 p → p ≡ None → Locating f room after w x left r
  located-not q n ds us o c bs a d bs' t plain y =
      absurd (false≢true (sym (ap (λ (z : Option Parts). is_some z) n) ∙ (q.told d (omega (arith, t.framed.shallow)) (clause-there t) (omega (arith, t.framed.shallow)) (omega arith) ∙ plain)))

  -- one without leaves what its parts leave
  pub parts-located : {p : Parts} {r : Bool} {ds : List (Clause Plain)} {us : List Term} {o : List Plain} {c : Hand Plain} {bs : Bindings} {a : Atom} {d : Clause Plain} {bs' : Bindings} → Taken f room ds us w x left o c bs a d bs' → PartsAt f x 0 d p → PassingParts f room after w p left r → r ≡ true → Located us left o c bs a (quantifiers d) (core d) bs' after (x.base + x.count)
  parts-located {p} {ds = ds} {us = us} {o = o} {c = c} {bs = bs} {a = a} {d = d} {bs' = bs'} t at m z =
      let L = (m ds us o c bs a (core d) bs' (starting t at)).1 z in
      subst (λ (n : ℕ). Located us left o c bs a n (core d) bs' after (x.base + x.count)) {x = p.own} {y = quantifiers d} (omega (arith, at.own))
      (subst (λ (n : ℕ). Located us left o c bs a p.own (core d) bs' after n) {x = floor p} {y = x.base + x.count} (omega (arith, at.base.0, at.count.0, at.own)) L)

  pub located-plain : {q : Option Parts} {p : Parts} {r : Bool} → PartsOf f x 0 64 q → q ≡ Some p → PassingParts f room after w p left r → Locating f room after w x left r
  located-plain {p = p} q y m ds us o c bs a d bs' t plain z = parts-located t (q.parts d (omega (arith, t.framed.shallow)) (clause-there t) (omega (arith, t.framed.shallow)) (omega arith) p y) m z

-- the clause of a number, opened on top of the stack
pub located-no-clause : {f : Files} {room after : List ℕ} {w : Where} {left : ℕ} (k : ℕ) → false ≡ true → LocatingAt f room after w left k
located-no-clause k y = absurd (false≢true y)

pub located-opened : {f : Files} {room mid after : List ℕ} {w : Where} {left : ℕ} {q : Option Spot} {y : Spot} (k : ℕ) → Opened room mid k w.supposed w.top q → q ≡ Some y
    → ((ds : List (Clause Plain)) (us : List Term) (o : List Plain) (c : Hand Plain) (bs : Bindings) (a : Atom) (z : Opens f room mid ds us w y left o c bs a k) → is_plain z.clause.clause ≡ true → Located us left o c bs a (quantifiers z.clause.clause) (core z.clause.clause) z.clause.bindings after (y.base + y.count))
    → LocatingAt f room after w left k
located-opened {f} {room} {mid} {after} {w} {left} {y = y} k p e m ds us o c bs a r h there plain =
    let x = opened-clause r k (subst (Opened room mid k w.supposed w.top) e p) in
    let same : h ≡ x.clause = some-injective h x.clause (sym there ∙ x.there) in
    let many = ap length (sym x.taken.framed.holds) ∙ frame-length mid y.base y.count in
    let L = m ds us o c bs a x (ap (λ (g : AtHand Plain). is_plain g.clause) (sym same) ∙ plain) in
    subst (λ (g : AtHand Plain). Located us left o c bs a (quantifiers g.clause) (core g.clause) g.bindings after (w.top + length g.bindings)) (sym same)
    (subst (λ (n : ℕ). Located us left o c bs a (quantifiers x.clause.clause) (core x.clause.clause) x.clause.bindings after n) {x = y.base + y.count} {y = w.top + length x.clause.bindings} (omega (arith, x.taken.fresh, many)) L)

pub located-by : {f : Files} {room mid after : List ℕ} {w : Where} {left : ℕ} {q : Option Spot} {y : Spot} {s : Bool} (k : ℕ) → Opened room mid k w.supposed w.top q → q ≡ Some y → Locating f mid after w y left s → s ≡ true → LocatingAt f room after w left k
located-by k p e m z = located-opened k p e λ ds us o c bs a x plain. m ds us o c bs a x.clause.clause x.clause.bindings x.taken plain z

-- by its parts
pub located-parts : {f : Files} {room mid after : List ℕ} {w : Where} {left : ℕ} {q : Option Spot} {y : Spot} {v : Option Parts} {p : Parts} {s : Bool} (k : ℕ) → Opened room mid k w.supposed w.top q → q ≡ Some y → ClauseParts f mid k y v → v ≡ Some p → PassingParts f mid after w p left s → s ≡ true → LocatingAt f room after w left k
located-parts k o e q y m z = located-opened k o e λ ds us o c bs a x plain. parts-located x.taken (opened-parts x q y).0 m z

-- and a `some` that has no proof
pub located-no-some : {f : Files} {room after : List ℕ} {w : Where} {left : ℕ} → false ≡ true → LocatingSome f room after w left
located-no-some y = absurd (false≢true y)

-- the first clause that serves, by its number; past the last there is none
module _ {f : Files} {room now : List ℕ} {w : Where} {predicate key left : ℕ} where
  pub located-hit : {after : List ℕ} {s : Bool} (k : ℕ) → FindLeft f room w predicate key left now k → length now ≡ length room → (s ≡ true → LocatingAt f now after w left k) → s ≡ true → LocatingFirst f room after w predicate key left (Some k)
  located-hit {after} k inv l p z m q ds us o c bs a r e e' = subst (λ (i : ℕ). LocatedAt us left o c bs a w.top after i) (same_Some k m q) (p z ds us o c bs a (ready-kept (inv ds us o c bs a r e e').0 l r))

  pub located-none : LocatingFirst f room now w predicate key left None
  located-none m q = absurd (none-some m q)
