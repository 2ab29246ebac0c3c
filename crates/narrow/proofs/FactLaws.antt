-- What one head without variables says of the candidates that stay without a mark, by the words of its arguments and of the atom's (document 02, Three): it is not the atom, or the candidate that the variable must be is marked.
use Prim.Native.Nat.{ℕ}
use native.Mathlib.Omega.{arith}
use mathlib.Core.Path.{◌≡◌, refl, sym, ◌∙◌, ap, subst}
use mathlib.Core.Bool.{Bool, true}
use mathlib.Core.List.{List}
use lib.ListN.{set}
use Rattle.harrop.specs.Formula.{Term, Atom}
use Rattle.harrop.specs.Bindings.{Bindings, replaced_atom, value_of}
use Rattle.room.specs.Spot.{bindings_at}
use Rattle.room.specs.Files.{Files}
use Rattle.room.specs.declared.Spot.{Spot}
use Rattle.keys.proofs.WalkLaws.{candidate-meant}
use Rattle.unset.specs.declared.Forced.{Forced}
use Rattle.unset.specs.declared.Forced.TheVariants as F
use Rattle.unset.proofs.HeadLaws.{lowest-means}
use Rattle.arguments.specs.Arguments.{ArgumentsAre, arguments_of, Told, Between}
use Rattle.arguments.proofs.BesideLaws.{replaced-arguments}
use Rattle.narrow.specs.Narrow.{Gives, Adds, ByHead, ByFact}
use Rattle.narrow.specs.Kept.{no_variable}
use Rattle.narrow.proofs.NoHeadLaws.{never-same}
use Rattle.narrow.proofs.MarkLaws.{more-none, more-set, forced-out}

module _ (f : Files) (room : List ℕ) (x y : Spot) (own v asked kept : ℕ) (marks : List ℕ) where
  -- the words say nothing, so the bytes are asked
  pub fact-by-head : {after : List ℕ} {r : Bool} → Adds marks after r (ByHead f room x y own v after) → Adds marks after r (ByFact f room x y own v asked kept after)
  fact-by-head A = record { more = A.more; told = λ t us a b S C K X Y Q w. A.told t us a b S C K X Y }

  module _ (n : asked ≡ 0 → ⊥) (m : kept ≡ 0 → ⊥) (c : Forced) (B : Between asked kept c) where
    -- what is told where the head is the atom
    told : {after : List ℕ} (us : List Term) (a b : Atom) → ArgumentsAre us own (bindings_at room x) v a asked → ArgumentsAre us 0 (bindings_at room y) no_variable b kept
        → (i : ℕ) (es : Bindings) → Gives room us x own v after i es → replaced_atom us (bindings_at room y) b ≡ replaced_atom us es a → Told us es v c
    told us a b Q w i es G h =
        B us own 0 (bindings_at room x) (bindings_at room y) v no_variable es (bindings_at room y)
        (record { one = G.becomes; two = λ j e. refl; candidate = i; few = G.left.few; value = G.value })
        (arguments_of a) (arguments_of b) (Q n) (w m)
        (sym (replaced-arguments us es a) ∙ ap arguments_of (sym h) ∙ replaced-arguments us (bindings_at room y) b)

    pub fact-never : c ≡ F.Never → Adds marks marks true (ByFact f room x y own v asked kept marks)
    fact-never e = record {
      more = more-none marks;
      told = λ _ us a b S C K X Y Q w i es G. never-same (replaced_atom us (bindings_at room y) b) (replaced_atom us es a) (λ h. subst (Told us es v) e (told us a b Q w i es G h));
    }

    pub fact-is : {n : ℕ} {after : List ℕ} → c ≡ F.Candidate n → after ≡ set marks n 1 → Adds marks after true (ByFact f room x y own v asked kept after)
    fact-is {n} e g = subst (λ (l : List ℕ). Adds marks l true (ByFact f room x y own v asked kept l)) (sym g) (record {
      more = more-set marks n 1 (λ q. omega arith);
      told = λ _ us a b S C K X Y Q w i es G.
          never-same (replaced_atom us (bindings_at room y) b) (replaced_atom us es a)
          (λ h.
          let (k, low) = subst (Told us es v) e (told us a b Q w i es G h) in
          forced-out us marks n i (lowest-means us (value_of us es v) n k low) G.left (sym G.value ∙ candidate-meant us n (value_of us es v) k));
    })
