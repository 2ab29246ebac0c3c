-- Where member number i of a list stands, and when there is none: for refusal 6 and its place, the opening of the 257th (document 01, "Sizes"; document 02, Two).
use Prim.Native.Nat.{ℕ, zero, suc, ◌+◌, ◌≤◌}
use mathlib.Core.Path.{◌≡◌, refl, sym, ◌∙◌, ap}
use mathlib.Core.Bool.{Bool, true, false, false≢true}
use mathlib.Core.Option.{Option, none, some, some-injective}
use native.Mathlib.Omega.{arith}
use lib.ListN.{length}
use Rattle.basics.specs.Choice.{choose, nope}
use Rattle.sexp.specs.Sexp.{Sexp, Sexps, spell, spells}
use Rattle.sexp.proofs.StandLaws.{cons-length}
use Rattle.packet.specs.declared.Kind.{Kind}
use Rattle.packet.specs.File.{most_members, counted, member_at, surplus}
use Rattle.packet.specs.Refusal.{number, members_after, Few, joined, Surplus}

-- where a member stands, and that there is none so far out
pub record Member (i at : ℕ) (xs : Sexps) (o : ℕ) : Type 0 where
  pub front : Sexps
  pub one : Sexp
  pub back : Sexps
  pub is : xs ≡ joined front (Sexps.cons one back)
  pub before : number front ≡ i
  pub opens : o ≡ at + length (spells front)

pub member-stands : (xs : Sexps) (i at o : ℕ) → member_at i at xs ≡ some o → Member i at xs o
unfolding member_at
member-stands Sexps.nil i at o h = nope h
member-stands (Sexps.cons x xs) zero at o h = record { front = Sexps.nil; one = x; back = xs; is = refl; before = refl; opens = omega (arith, some-injective at o h) }
member-stands (Sexps.cons x xs) (suc i) at o h =
    let m = member-stands xs i (at + length (spell x)) o h in
    record {
      front = Sexps.cons x m.front;
      one = m.one;
      back = m.back;
      is = ap (Sexps.cons x) m.is;
      before = ap suc m.before;
      opens = omega (arith, m.opens, cons-length x m.front);
    }

pub member-none : (xs : Sexps) (i at : ℕ) → member_at i at xs ≡ none → number xs ≤ i
unfolding member_at
member-none Sexps.nil i at h = omega arith
member-none (Sexps.cons x xs) zero at h = nope (sym h)
member-none (Sexps.cons x xs) (suc i) at h = let r = member-none xs i (at + length (spell x)) h in omega arith

pub none-member : (xs : Sexps) (i at : ℕ) → number xs ≤ i → member_at i at xs ≡ none
unfolding member_at
none-member Sexps.nil i at h = refl
none-member (Sexps.cons x xs) zero at h = absurd (omega arith)
none-member (Sexps.cons x xs) (suc i) at h = none-member xs i (at + length (spell x)) (omega arith)

pub stands-member : (front : Sexps) (x : Sexp) (back : Sexps) (i at : ℕ) → number front ≡ i → member_at i at (joined front (Sexps.cons x back)) ≡ some (at + length (spells front))
unfolding member_at
stands-member Sexps.nil x back zero at h = ap some {x = at} {y = at + 0} (omega arith)
stands-member Sexps.nil x back (suc i) at h = absurd (omega arith)
stands-member (Sexps.cons y front) x back zero at h = absurd (omega arith)
stands-member (Sexps.cons y front) x back (suc i) at h =
    stands-member front x back i (at + length (spell y)) (omega arith) ∙ ap some {x = at + length (spell y) + length (spells front)} {y = at + length (spells (Sexps.cons y front))} (omega (arith, cons-length y front))

-- the number of rules or candidates
surplus-list : (k : Kind) (xs : Sexps) (t : Bool) → counted k ≡ t → (o : Option ℕ) → o ≡ member_at (suc most_members) 1 xs → choose t o none ≡ none → Few k (Sexp.list xs)
surplus-list k Sexps.nil t e o f h c = omega arith
surplus-list k (Sexps.cons x xs) false e o f h c = absurd (false≢true (sym e ∙ c))
surplus-list k (Sexps.cons x xs) true e o f h c = let r = member-none (Sexps.cons x xs) (suc most_members) 1 (sym f ∙ h) in omega arith

pub few-none : (k : Kind) (e : Sexp) → surplus k e ≡ none → Few k e
unfolding surplus
few-none k (Sexp.str w) h = λ c. omega arith
few-none k (Sexp.hinted t w) h = λ c. omega arith
few-none k (Sexp.list xs) h = surplus-list k xs (counted k) refl (member_at (suc most_members) 1 xs) refl h

pub none-few : (k : Kind) (e : Sexp) → Few k e → surplus k e ≡ none
unfolding surplus
none-few k (Sexp.str w) f = refl
none-few k (Sexp.hinted t w) f = refl
none-few k (Sexp.list xs) f = go (counted k) refl
  where
    few : (xs : Sexps) → members_after (Sexp.list xs) ≤ most_members → member_at (suc most_members) 1 xs ≡ none
    few Sexps.nil l = none-member Sexps.nil (suc most_members) 1 (omega arith)
    few (Sexps.cons x xs) l = none-member (Sexps.cons x xs) (suc most_members) 1 (omega arith)

    go : (t : Bool) → counted k ≡ t → choose t (member_at (suc most_members) 1 xs) none ≡ none
    go true e = few xs (f e)
    go false e = refl

pub surplus-some : (k : Kind) (e : Sexp) (o : ℕ) → surplus k e ≡ some o → Surplus k e o
unfolding surplus
surplus-some k (Sexp.str w) o h = nope h
surplus-some k (Sexp.hinted t w) o h = nope h
surplus-some k (Sexp.list xs) o h = go (counted k) refl h
  where
    go : (t : Bool) → counted k ≡ t → choose t (member_at (suc most_members) 1 xs) none ≡ some o → Surplus k (Sexp.list xs) o
    go true e g =
        let m = member-stands xs (suc most_members) 1 o g in
        record { is_counted = e; front = m.front; one = m.one; back = m.back; is = ap Sexp.list m.is; before = m.before; opens = m.opens }
    go false e g = nope g

pub some-surplus : (k : Kind) (e : Sexp) (o : ℕ) → Surplus k e o → surplus k e ≡ some o
unfolding surplus
some-surplus k e o m =
    ap (surplus k) m.is
    ∙ ap (λ (t : Bool). choose t (member_at (suc most_members) 1 (joined m.front (Sexps.cons m.one m.back))) none) m.is_counted
    ∙ stands-member m.front m.one m.back (suc most_members) 1 m.before
    ∙ ap some (sym m.opens)
