-- What stands in a list that begins with a word: its parts, and how wide it is. The word of a node and of a goal, read from its bytes.
use Prim.Native.Nat.{ℕ, ◌+◌}
use native.Mathlib.Omega.{arith}
use mathlib.Core.Path.{◌≡◌, refl, sym, ◌∙◌, ap, subst}
use mathlib.Core.List.{List}
use mathlib.Core.Logic.{inl, inr}
use lib.ListN.{length, drop}
use lib.Seq.{drop-drop}
use Rattle.harrop.specs.Formula.{Atom, Goal, Strip}
use Rattle.harrop.specs.Place.{Plain}
use Rattle.sexp.specs.Sexp.{Sexp, Sexps, Stands, StandsAll, spell, spells}
use Rattle.sexp.proofs.StandLaws.{members-stand, first-stands, others-stand, list_length, cons-length}
use Rattle.packet.specs.declared.Word.{Word}
use Rattle.packet.specs.Table.{word_of, rank}
use Rattle.reader.specs.WordAt.{WordAt}
use Rattle.reader.proofs.WordLaws.{word-is}
use Rattle.packet.specs.Written.{word, goal_sexp, strip_sexp}
use mathlib.Core.Option.{none}
use lib.Dec.{eqb}
use Rattle.basics.specs.Choice.{choose}
use Rattle.packet.specs.declared.Word.TheVariants as W
use Rattle.harrop.specs.Views.{as_top, as_atom, as_and, as_or, as_some, as_all, as_imp}
use Rattle.harrop.proofs.ViewLaws.{goal-cases}
use Rattle.uses.specs.Heads.{strip_word, goal_word, NodeShape, GoalShape}

-- an expression at an offset of a part of a file, and of the file
pub part-stands : {s : List ℕ} {at : ℕ} {e : Sexp} → Stands s at e → Stands (drop at s) 0 e
part-stands h = record { rest = h.rest; spelt = h.spelt }

pub whole-stands-at : (s : List ℕ) (at i : ℕ) {e : Sexp} → Stands (drop at s) i e → Stands s (at + i) e
whole-stands-at s at i h = record { rest = h.rest; spelt = sym (drop-drop i at s) ∙ h.spelt }

module _ {s : List ℕ} {at : ℕ} {w : List ℕ} where
  -- the members after the word
  pub after-word : {xs : Sexps} → Stands s at (word w xs) → StandsAll s (at + 1 + length (spell (Sexp.str w))) xs
  after-word h = others-stand (members-stand h)

  pub word-says : {xs : Sexps} {r : Word} → Stands s at (word w xs) → WordAt s (at + 1) r → r ≡ word_of w
  word-says h q = word-is q (first-stands (members-stand h))

pub word_width : (w : List ℕ) (xs : Sexps) → length (spell (word w xs)) ≡ 1 + length (spell (Sexp.str w)) + length (spells xs) + 1
word_width w xs = omega (arith, list_length (Sexps.cons (Sexp.str w) xs), cons-length (Sexp.str w) xs)

pub strip-says : (s : List ℕ) (at : ℕ) (P : Strip) (r : Word) → Stands s at (strip_sexp P) → WordAt s (at + 1) r → r ≡ strip_word P
unfolding strip_word word_of
strip-says s at Strip.top r h q = word-says h q
strip-says s at (Strip.and P R) r h q = word-says h q
strip-says s at (Strip.left P) r h q = word-says h q
strip-says s at (Strip.right P) r h q = word-says h q
strip-says s at (Strip.some i P) r h q = word-says h q
strip-says s at (Strip.all P) r h q = word-says h q
strip-says s at (Strip.imp P) r h q = word-says h q
strip-says s at (Strip.use₀ k path) r h q = word-says h q
strip-says s at (Strip.use₁ k path P) r h q = word-says h q

pub goal-says : (s : List ℕ) (at : ℕ) (g : Goal Plain) (r : Word) → Stands s at (goal_sexp g) → WordAt s (at + 1) r → r ≡ goal_word g
unfolding goal_word word_of
goal-says s at Goal.top r h q = word-says h q
goal-says s at (Goal.atom (Atom.atom p ts)) r h q = word-says h q
goal-says s at (Goal.and g g') r h q = word-says h q
goal-says s at (Goal.or g g') r h q = word-says h q
goal-says s at (Goal.some x g) r h q = word-says h q
goal-says s at (Goal.all x g) r h q = word-says h q
goal-says s at (Goal.imp d g) r h q = word-says h q

-- what a node is by its word
pub node-shape : (P : Strip) → NodeShape (strip_word P) P
unfolding strip_word
node-shape Strip.top = refl
node-shape (Strip.and P R) = (P, R, refl)
node-shape (Strip.left P) = (P, refl)
node-shape (Strip.right P) = (P, refl)
node-shape (Strip.some i P) = (i, P, refl)
node-shape (Strip.all P) = (P, refl)
node-shape (Strip.imp P) = (P, refl)
node-shape (Strip.use₀ k path) = inl (k, path, refl)
node-shape (Strip.use₁ k path P) = inr (k, path, P, refl)

-- what a goal is by its word
pub goal-shape : (g : Goal Plain) → GoalShape (goal_word g) g
unfolding goal_word
goal-shape Goal.top = refl
goal-shape (Goal.atom a) = (a, refl)
goal-shape (Goal.and g h) = (g, h, refl)
goal-shape (Goal.or g h) = (g, h, refl)
goal-shape (Goal.some q g) = (q, g, refl)
goal-shape (Goal.all q g) = (q, g, refl)
goal-shape (Goal.imp d g) = (d, g, refl)

pub shape_is : (g : Goal Plain) {w : Word} → goal_word g ≡ w → GoalShape w g
shape_is g e = subst (λ (w : Word). GoalShape w g) e (goal-shape g)

-- a goal with another word does not answer a word's view
pub not_top : (g : Goal Plain) → (rank (goal_word g) ≡ rank W.Top → ⊥) → as_top g ≡ none
unfolding goal_word rank
not_top = goal-cases (λ g. (rank (goal_word g) ≡ rank W.Top → ⊥) → as_top g ≡ none) (λ n. absurd (n refl)) (λ a n. refl) (λ g h n. refl) (λ g h n. refl) (λ q g n. refl) (λ q g n. refl) (λ d g n. refl)

pub not-atom : (g : Goal Plain) → (rank (goal_word g) ≡ rank W.Atom → ⊥) → as_atom g ≡ none
unfolding goal_word rank
not-atom = goal-cases (λ g. (rank (goal_word g) ≡ rank W.Atom → ⊥) → as_atom g ≡ none) (λ n. refl) (λ a n. absurd (n refl)) (λ g h n. refl) (λ g h n. refl) (λ q g n. refl) (λ q g n. refl) (λ d g n. refl)

pub not-and : (g : Goal Plain) → (rank (goal_word g) ≡ rank W.And → ⊥) → as_and g ≡ none
unfolding goal_word rank
not-and = goal-cases (λ g. (rank (goal_word g) ≡ rank W.And → ⊥) → as_and g ≡ none) (λ n. refl) (λ a n. refl) (λ g h n. absurd (n refl)) (λ g h n. refl) (λ q g n. refl) (λ q g n. refl) (λ d g n. refl)

pub not-or : (g : Goal Plain) → (rank (goal_word g) ≡ rank W.Or → ⊥) → as_or g ≡ none
unfolding goal_word rank
not-or = goal-cases (λ g. (rank (goal_word g) ≡ rank W.Or → ⊥) → as_or g ≡ none) (λ n. refl) (λ a n. refl) (λ g h n. refl) (λ g h n. absurd (n refl)) (λ q g n. refl) (λ q g n. refl) (λ d g n. refl)

pub not_some : (g : Goal Plain) → (rank (goal_word g) ≡ rank W.Some → ⊥) → as_some g ≡ none
unfolding goal_word rank
not_some = goal-cases (λ g. (rank (goal_word g) ≡ rank W.Some → ⊥) → as_some g ≡ none) (λ n. refl) (λ a n. refl) (λ g h n. refl) (λ g h n. refl) (λ q g n. absurd (n refl)) (λ q g n. refl) (λ d g n. refl)

pub not-all : (g : Goal Plain) → (rank (goal_word g) ≡ rank W.All → ⊥) → as_all g ≡ none
unfolding goal_word rank
not-all = goal-cases (λ g. (rank (goal_word g) ≡ rank W.All → ⊥) → as_all g ≡ none) (λ n. refl) (λ a n. refl) (λ g h n. refl) (λ g h n. refl) (λ q g n. refl) (λ q g n. absurd (n refl)) (λ d g n. refl)

pub not-imp : (g : Goal Plain) → (rank (goal_word g) ≡ rank W.Imp → ⊥) → as_imp g ≡ none
unfolding goal_word rank
not-imp = goal-cases (λ g. (rank (goal_word g) ≡ rank W.Imp → ⊥) → as_imp g ≡ none) (λ n. refl) (λ a n. refl) (λ g h n. refl) (λ g h n. refl) (λ q g n. refl) (λ q g n. refl) (λ d g n. absurd (n refl))

-- words of one rank are one word
unfoldable unrank : ℕ → Word
unrank n =
    choose (eqb n 0) W.V (choose (eqb n 1) W.F (choose (eqb n 2) W.E (choose (eqb n 3) W.Atom (choose (eqb n 4) W.Top (choose (eqb n 5) W.And (choose (eqb n 6) W.Or (choose (eqb n 7) W.Some
    (choose (eqb n 8) W.All (choose (eqb n 9) W.Imp (choose (eqb n 10) W.Left (choose (eqb n 11) W.Right (choose (eqb n 12) W.Use (choose (eqb n 13) W.Rules (choose (eqb n 14) W.Terms W.Nothing))))))))))))))

ranked : (w : Word) → unrank (rank w) ≡ w
unfolding rank unrank
ranked W.V = refl
ranked W.F = refl
ranked W.E = refl
ranked W.Atom = refl
ranked W.Top = refl
ranked W.And = refl
ranked W.Or = refl
ranked W.Some = refl
ranked W.All = refl
ranked W.Imp = refl
ranked W.Left = refl
ranked W.Right = refl
ranked W.Use = refl
ranked W.Rules = refl
ranked W.Terms = refl
ranked W.Nothing = refl

pub rank-once : (w k : Word) → rank w ≡ rank k → w ≡ k
rank-once w k e = sym (ranked w) ∙ (ap unrank e ∙ ranked k)
