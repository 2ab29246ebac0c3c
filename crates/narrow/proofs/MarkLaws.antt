-- Marks that are added, and what one head says of the candidates that stay without (document 02, Three): the head differs whatever the frame becomes, no candidate makes it the atom, or the candidate that it forces is marked.
use Prim.Native.Nat.{ℕ, ◌≤◌, ◌<◌}
use native.Mathlib.Omega.{arith}
use mathlib.Core.Path.{◌≡◌, refl, sym, ◌∙◌, ap, subst}
use mathlib.Core.Bool.{Bool, true, false, false≢true}
use mathlib.Core.List.{List, ◌++◌, append-nil}
use lib.Dec.{eqb, ltb}
use lib.ListN.{length, get_or, set, drop, replicate, length-set}
use lib.Seq.{drop-length, set_out, get_or-set_same, get_or-set_other}
use borrow.Author.Tests.{eqb-true, eqb-false, ltb-true, ltb-false}
use Rattle.harrop.specs.declared.Binding.TheVariants.{Candidate}
use Rattle.harrop.specs.Formula.{Term, Atom}
use Rattle.harrop.specs.Bindings.{Bindings, meant, replaced_atom, same_atom}
use Rattle.harrop.proofs.ListLaws.{below-member}
use Rattle.harrop.proofs.SameLaws.{equal-atoms-same}
use Rattle.room.specs.Spot.{bindings_at}
use Rattle.room.specs.Files.{Files}
use Rattle.room.specs.declared.Spot.{Spot}
use Rattle.keys.proofs.WalkLaws.{candidate-meant}
use Rattle.unset.specs.declared.Forced.{Forced}
use Rattle.unset.specs.declared.Forced.TheVariants as F
use Rattle.unset.specs.Unset.{MayBe, ForcedAs, Forces}
use Rattle.narrow.specs.Narrow.{LeftOut, Gives, More, Adds, ByHead}
use Rattle.narrow.proofs.NoHeadLaws.{never-same, not_equal}

-- marks all written, up to the last
pub all-filled : (marks : List ℕ) (n m : ℕ) → length marks ≤ n → n ≤ length marks → replicate n m ++ drop n marks ≡ replicate (length marks) m
all-filled marks n m p q = let e : n ≡ length marks = omega arith in rw (e, drop-length) (append-nil _)

-- none is added, one is, some and then more are
pub more-none : (marks : List ℕ) → More marks marks
more-none marks = record { long = refl; kept = λ i e. e }

pub more-then : {a b c : List ℕ} → More a b → More b c → More a c
more-then M N = record { long = N.long ∙ M.long; kept = λ i e. M.kept i (N.kept i e) }

pub more-set : (marks : List ℕ) (n m : ℕ) → (m ≡ 0 → ⊥) → More marks (set marks n m)
more-set marks n m some = record { long = length-set marks n m; kept = λ i e. go i e (ltb n (length marks)) refl (eqb i n) refl }
  where
    go : (i : ℕ) → get_or (set marks n m) i 0 ≡ 0 → (b : Bool) → ltb n (length marks) ≡ b → (d : Bool) → eqb i n ≡ d → get_or marks i 0 ≡ 0
    go i e false b d z = ap (λ (l : List ℕ). get_or l i 0) (sym (set_out marks n m (ltb-false n (length marks) b))) ∙ e
    go i e true b false z = sym (get_or-set_other marks n i m 0 (eqb-false i n z)) ∙ e
    go i e true b true z =
        let w = get_or-set_same marks n m 0 (ltb-true n (length marks) b) in
        let y = ap (λ (j : ℕ). get_or (set marks n m) j 0) (eqb-true i n z) in
        absurd (some (omega (arith, w, y, e)))

-- a candidate left out by more marks is left out by fewer
pub left-more : {us : List Term} {before after : List ℕ} {i : ℕ} → More before after → LeftOut us after i → LeftOut us before i
left-more {i = i} M L = record { few = L.few; enough = omega (arith, L.enough, M.long); unmarked = M.kept i L.unmarked; first = L.first }

pub gives_more : {room : List ℕ} {us : List Term} {x : Spot} {own v : ℕ} {before after : List ℕ} {i : ℕ} {es : Bindings} → More before after → Gives room us x own v after i es → Gives room us x own v before i es
gives_more M G = record { left = left-more M G.left; becomes = G.becomes; value = G.value }

-- nothing is said
pub adds-not : (marks : List ℕ) {says : Type 0} → Adds marks marks false says
adds-not marks = record { more = more-none marks; told = λ e. absurd (false≢true e) }

-- not one candidate left out has the term of one that is marked and is the lowest with it
pub forced-out : (us : List Term) (marks : List ℕ) (n i : ℕ) → ((j : ℕ) → j < n → meant us (Candidate j) ≡ meant us (Candidate n) → ⊥) → LeftOut us (set marks n 1) i → meant us (Candidate i) ≡ meant us (Candidate n) → ⊥
forced-out us marks n i low L e = go (ltb i n) refl (ltb n i) refl
  where
    go : (b : Bool) → ltb i n ≡ b → (d : Bool) → ltb n i ≡ d → ⊥
    go true b d z = low i (ltb-true i n b) e
    go false b true z = L.first n (ltb-true n i z) (sym e)
    go false b false z =
        let same : n ≡ i = omega (arith, ltb-false i n b, ltb-false n i z) in
        let w = get_or-set_same marks i 1 0 (omega (arith, L.few, L.enough, length-set marks n 1)) in
        let y = ap (λ (j : ℕ). get_or (set marks j 1) i 0) same in
        absurd (omega (arith, w, y, L.unmarked))

same_not : (a b : Atom) → same_atom a b ≡ false → same_atom b a ≡ false
same_not a b e = never-same b a (λ h. not_equal a b e (sym h))

module _ (f : Files) (room : List ℕ) (x y : Spot) (own v : ℕ) (marks : List ℕ) where
  pub head-differs : {r : Bool} → MayBe f room x y own r → r ≡ false → Adds marks marks true (ByHead f room x y own v marks)
  head-differs M e = record {
    more = more-none marks;
    told = λ _ us a b S C K X Y i es G. same_not (replaced_atom us es a) (replaced_atom us (bindings_at room y) b) (M us a b S C X Y e es G.becomes);
  }

  module _ {r : Forced} (H : Forces f room x y v r) where
    pub head_never : r ≡ F.Never → Adds marks marks true (ByHead f room x y own v marks)
    head_never e = record {
      more = more-none marks;
      told = λ _ us a b S C K X Y i es G.
          let (t, m) = below-member us i G.left.few in
          let says = subst (ForcedAs us (bindings_at room y) a b v) e (H us a b S C K X Y) in
          same_not (replaced_atom us es a) (replaced_atom us (bindings_at room y) b) (says es i t m (G.value ∙ sym (candidate-meant us i t m)));
    }

    pub head-forces : {n : ℕ} {after : List ℕ} → r ≡ F.Candidate n → after ≡ set marks n 1 → Adds marks after true (ByHead f room x y own v after)
    head-forces {n} e g = subst (λ (m : List ℕ). Adds marks m true (ByHead f room x y own v m)) (sym g) (record {
      more = more-set marks n 1 (λ e. omega arith);
      told = λ _ us a b S C K X Y i es G.
          let T = subst (ForcedAs us (bindings_at room y) a b v) e (H us a b S C K X Y) in
          never-same (replaced_atom us (bindings_at room y) b) (replaced_atom us es a)
          (λ h. forced-out us marks n i T.lowest G.left (sym G.value ∙ T.gives es (equal-atoms-same (replaced_atom us es a) (replaced_atom us (bindings_at room y) b) (sym h))));
    })
