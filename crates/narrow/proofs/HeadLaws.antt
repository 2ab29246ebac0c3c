-- Where the head of a clause stands, found by its words: through `all` and `imp` to the atom, and no further than an `and` (document 01, the table of words).
use Prim.Native.Nat.{ℕ, ◌-◌, ◌≤◌}
use native.Mathlib.Omega.{arith}
use mathlib.Core.Path.{◌≡◌, sym, ◌∙◌, subst}
use mathlib.Core.List.{List}
use lib.ListN.{length, drop}
use Rattle.basics.specs.Text.{octets}
use Rattle.harrop.specs.Formula.{Clause}
use Rattle.harrop.specs.Place.{Plain}
use Rattle.std.specs.Prelude.{Option, Some, None}
use Rattle.sexp.specs.Sexp.{Stands, nesting}
use Rattle.sexp.specs.Past.{PastAt}
use Rattle.packet.specs.declared.Word.{Word}
use Rattle.packet.specs.declared.Word.TheVariants as W
use Rattle.packet.specs.declared.Kind.TheVariants as K
use Rattle.rows.specs.Rows.{row_of}
use Rattle.packet.specs.Table.{due_after}
use Rattle.reader.specs.WordAt.{WordAt}
use Rattle.packet.specs.Written.{atom_sexp, clause_sexp}
use Rattle.packet.specs.File.{most_bytes}
use Rattle.room.specs.Layout.{levels}
use Rattle.room.specs.Where.{plus}
use Rattle.room.proofs.NestLaws.{clause-nests}
use Rattle.room.proofs.WhereLaws.{plus-inside}
use Rattle.heads.specs.Heads.{clause_word}
use Rattle.heads.proofs.HeadLaws.{clause-says, clause-is, clause-has-row, heads, first_part, second-found, first_found}
use Rattle.narrow.specs.Heads.{head_of, HeadIs, HeadAt}

module _ (s : List ℕ) (at nest : ℕ) where
  -- what is claimed of a clause
  abbrev Claim : Option ℕ → Clause Plain → Type 0
  Claim r d = Stands s at (clause_sexp d) → nesting (clause_sexp d) ≤ levels → nesting (clause_sexp d) ≤ nest → length s ≤ most_bytes → HeadIs s r (head_of d)

  -- a clause is a list
  pub head_never : nest ≡ 0 → HeadAt s at nest None
  head_never e d g l m z = absurd (omega (arith, clause-nests d))

  module _ {t : List ℕ} (p : t ≡ drop at s) {k : Word} (q : WordAt t 1 k) where
    says : (d : Clause Plain) → Stands s at (clause_sexp d) → k ≡ clause_word d
    says d g = clause-says s at d k g (subst (λ (w : List ℕ). WordAt w 1 k) p q)

    pub head-atom : k ≡ W.Atom → HeadAt s at nest (Some at)
    head-atom e d g =
        let (b, y) = clause-is d (sym (says d g) ∙ e) in
        subst (Claim (Some at)) (sym y) (λ g l m z. g) g

    there : (a : Option ℕ) → PastAt t 6 64 a → PastAt (drop at s) 6 64 a
    there a w = subst (λ (v : List ℕ). PastAt v 6 64 a) p w

    module _ (e : k ≡ W.Imp) (a : Option ℕ) (w : PastAt t 6 64 a) where
      pub head-lost : a ≡ None → HeadAt s at nest None
      head-lost z d g =
          let (c, b, y) = clause-is d (sym (says d g) ∙ e) in
          subst (Claim None) (sym y) (λ g l m o. absurd (first_found (octets "imp") heads.1.1.1.1 g (omega (arith, l)) (there a w) z)) g

      pub head-behind : {n i : ℕ} → a ≡ Some n → i ≡ plus at n → HeadAt s at nest (Some i)
      head-behind {n} {i} z j d g =
          let (c, b, y) = clause-is d (sym (says d g) ∙ e) in
          subst (Claim (Some i)) (sym y)
          (λ g l m o.
          let st = second-found (octets "imp") heads.1.1.1.1 g (there a w) z in
          subst (λ (x : ℕ). Stands s x (atom_sexp b)) (sym (j ∙ plus-inside s at n o st)) st)
          g

    pub head-and : k ≡ W.And → HeadAt s at nest None
    head-and e d g =
        let (c, b, y) = clause-is d (sym (says d g) ∙ e) in
        subst (Claim None) (sym y) (λ g l m o. tt) g

    pub head-inside : {i : ℕ} (r : Option ℕ) → k ≡ W.All → (nest ≡ 0 → ⊥) → i ≡ plus at 6 → HeadAt s i (nest - 1) r → HeadAt s at nest r
    head-inside r e w j T d g =
        let (c, b, y) = clause-is d (sym (says d g) ∙ e) in
        subst (Claim r) (sym y)
        (λ g l m o.
        let st = first_part (octets "all") heads.1.1.1.0 g in
        T b (subst (λ (x : ℕ). Stands s x (clause_sexp b)) (sym (j ∙ plus-inside s at 6 o st)) st) (omega (arith, l)) (omega (arith, m, w)) o)
        g

    pub head-other : None ≡ row_of (due_after K.Clause k) → HeadAt s at nest None
    head-other w d g l m o = absurd (clause-has-row d k (says d g) w)
