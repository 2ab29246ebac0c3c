-- A word that is none of a kind's words has no row there: for the arm of the code's match that takes all other words.
use Prim.Native.Nat.{ℕ}
use mathlib.Core.Path.{◌≡◌, refl, sym, ap, subst, ◌∙◌}
use mathlib.Core.Bool.{Bool, true, false, ◌&&◌, not}
use mathlib.Core.List.{List, [], ◌∷◌}
use mathlib.Core.Logic.{⊎_elim}
use mathlib.Core.Option.{none}
use lib.Dec.{eqb}
use types.Run.{OneOf}
use denote.Enum.Declared.{tag_of}
use borrow.Author.Tests.{ne_eqb, eqb-false, not-true}
use Rattle.basics.specs.Choice.{both_true}
use Rattle.std.specs.Prelude.{None}
use Rattle.packet.specs.declared.Word.{Word}
use Rattle.packet.specs.contracts.Word.{the_type}
use Rattle.packet.specs.declared.Word.TheVariants as W
use Rattle.packet.specs.declared.Kind.{Kind}
use Rattle.rows.specs.Rows.{row_of}
use Rattle.packet.specs.Table.{Row, rank, rows, look, due_after}

-- the code's place of a word among the words is the table's
pub tag-rank : (w : Word) → tag_of the_type w ≡ rank w
unfolding rank
tag-rank W.V = refl
tag-rank W.F = refl
tag-rank W.E = refl
tag-rank W.Atom = refl
tag-rank W.Top = refl
tag-rank W.And = refl
tag-rank W.Or = refl
tag-rank W.Some = refl
tag-rank W.All = refl
tag-rank W.Imp = refl
tag-rank W.Left = refl
tag-rank W.Right = refl
tag-rank W.Use = refl
tag-rank W.Rules = refl
tag-rank W.Terms = refl
tag-rank W.Nothing = refl

not_same : (k n : ℕ) → not (eqb k n) ≡ true → k ≡ n → ⊥
not_same k n t e = eqb-false k n (not-true (eqb k n) t) e

-- a number is none of these
abbrev pub out : List ℕ → ℕ → Bool
out [] n = true
out (k ∷ ks) n = not (eqb k n) && out ks n

-- none of these rows is of one of these words
abbrev pub free : List Row → List ℕ → Bool
free [] ks = true
free (r ∷ rs) ks = out ks (rank r.0) && free rs ks

-- one of these is no number outside
differs : (ks : List ℕ) (x n : ℕ) → OneOf ks x → out ks n ≡ true → x ≡ n → ⊥
differs [] x n h o e = h
differs (k ∷ []) x n h o e = not_same k n (both_true (not (eqb k n)) true o).0 (sym h ∙ e)
differs (k ∷ (j ∷ ks)) x n h o e =
    let (a, b) = both_true (not (eqb k n)) (out (j ∷ ks) n) o in
    ⊎_elim (λ g. not_same k n a (sym g ∙ e)) (λ g. differs (j ∷ ks) x n g b e) h

missed : (w : Word) (ks : List ℕ) (rs : List Row) → OneOf ks (rank w) → free rs ks ≡ true → look w rs ≡ none
missed w ks [] h f = refl
missed w ks (r ∷ rs) h f =
    let (a, b) = both_true (out ks (rank r.0)) (free rs ks) f in
    rw (ne_eqb (rank w) (rank r.0) (λ e. differs ks (rank w) (rank r.0) h a e)) (missed w ks rs h b)

-- the places of all words but those of these rows
abbrev without : List Row → List ℕ → List ℕ
without rs [] = []
without rs (n ∷ ns) = elim (free rs (n ∷ [])) [ true ↦ n ∷ without rs ns | false ↦ without rs ns ]

abbrev pub others : Kind → List ℕ
others k = without (rows k) (0 ∷ 1 ∷ 2 ∷ 3 ∷ 4 ∷ 5 ∷ 6 ∷ 7 ∷ 8 ∷ 9 ∷ 10 ∷ 11 ∷ 12 ∷ 13 ∷ 14 ∷ 15 ∷ [])

-- so the table has nothing for any of them
pub no_row : (k : Kind) (w : Word) → OneOf (others k) (tag_of the_type w) → free (rows k) (others k) ≡ true → None ≡ row_of (due_after k w)
unfolding due_after
no_row k w h f = ap row_of (sym (missed w (others k) (rows k) (subst (λ (x : ℕ). OneOf (others k) x) (tag-rank w) h) f))
