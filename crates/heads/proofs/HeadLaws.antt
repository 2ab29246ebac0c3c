-- The word of a goal or a clause, read from its bytes, and what it says; where the parts of a list stand that begins with a word (document 01, the table of words).
use Prim.Native.Nat.{ℕ, ◌+◌, ◌≤◌}
use native.Mathlib.Omega.{arith}
use mathlib.Core.Path.{◌≡◌, refl, sym, ◌∙◌, ap, subst}
use mathlib.Core.Bool.{Bool, true, false, false≢true}
use mathlib.Core.List.{List}
use lib.ListN.{length, drop}
use lib.Seq.{drop-drop}
use Rattle.basics.specs.Text.{octets}
use Rattle.harrop.specs.Formula.{Atom, Goal, Clause}
use Rattle.harrop.specs.Place.{Plain}
use Rattle.std.specs.Prelude.{Option, Some, None}
use Rattle.sexp.specs.Decimal.{decimal_onto}
use Rattle.sexp.specs.Sexp.{Sexp, Sexps, Stands, StandsAll, spell, nesting}
use Rattle.sexp.specs.Past.{PastAt}
use Rattle.sexp.proofs.StandLaws.{members-stand, first-stands, others-stand}
use Rattle.sexp.proofs.FoundLaws.{ends-here}
use Rattle.packet.specs.declared.Word.{Word}
use Rattle.packet.specs.Table.{word_of, due_after, rows, rank}
use Rattle.reader.specs.WordAt.{WordAt}
use Rattle.reader.proofs.WordLaws.{word-is}
use Rattle.packet.specs.Written.{word, goal_sexp, clause_sexp}
use Rattle.packet.specs.declared.Due.{Due}
use Rattle.packet.specs.declared.Kind.TheVariants as K
use Rattle.rows.specs.Rows.{row_of}
use Rattle.heads.specs.Heads.{goal_word, clause_word, GoalShape, ClauseShape}

-- an expression at an offset of a file, and of the part of the file from a spot on
pub part-stands : {s : List ℕ} {at : ℕ} {e : Sexp} → Stands s at e → Stands (drop at s) 0 e
part-stands h = record { rest = h.rest; spelt = h.spelt }

pub stands-in-part : (s : List ℕ) (at i : ℕ) {e : Sexp} → Stands s (at + i) e → Stands (drop at s) i e
stands-in-part s at i h = record { rest = h.rest; spelt = drop-drop i at s ∙ h.spelt }

word-says : {s : List ℕ} {at : ℕ} {v : List ℕ} {xs : Sexps} {r : Word} → Stands s at (word v xs) → WordAt (drop at s) 1 r → r ≡ word_of v
word-says h q = word-is q (first-stands (members-stand (part-stands h)))

pub goal-says : (s : List ℕ) (at : ℕ) (g : Goal Plain) (r : Word) → Stands s at (goal_sexp g) → WordAt (drop at s) 1 r → r ≡ goal_word g
unfolding goal_word word_of
goal-says s at Goal.top r h q = word-says h q
goal-says s at (Goal.atom (Atom.atom p ts)) r h q = word-says h q
goal-says s at (Goal.and g g') r h q = word-says h q
goal-says s at (Goal.or g g') r h q = word-says h q
goal-says s at (Goal.some x g) r h q = word-says h q
goal-says s at (Goal.all x g) r h q = word-says h q
goal-says s at (Goal.imp d g) r h q = word-says h q

pub clause-says : (s : List ℕ) (at : ℕ) (d : Clause Plain) (r : Word) → Stands s at (clause_sexp d) → WordAt (drop at s) 1 r → r ≡ clause_word d
unfolding clause_word word_of
clause-says s at (Clause.atom_d (Atom.atom p ts)) r h q = word-says h q
clause-says s at (Clause.imp_d g a) r h q = word-says h q
clause-says s at (Clause.all_d x d) r h q = word-says h q
clause-says s at (Clause.and_d c d) r h q = word-says h q

-- what a goal or a clause is by its word
goal-shape : (g : Goal Plain) → GoalShape (goal_word g) g
unfolding goal_word
goal-shape Goal.top = refl
goal-shape (Goal.atom a) = (a, refl)
goal-shape (Goal.and g h) = (g, h, refl)
goal-shape (Goal.or g h) = (g, h, refl)
goal-shape (Goal.some q g) = (q, g, refl)
goal-shape (Goal.all q g) = (q, g, refl)
goal-shape (Goal.imp d g) = (d, g, refl)

pub goal-is : (g : Goal Plain) {w : Word} → goal_word g ≡ w → GoalShape w g
goal-is g e = subst (λ (w : Word). GoalShape w g) e (goal-shape g)

clause-shape : (d : Clause Plain) → ClauseShape (clause_word d) d
unfolding clause_word
clause-shape (Clause.atom_d a) = (a, refl)
clause-shape (Clause.imp_d g a) = (g, a, refl)
clause-shape (Clause.all_d q d) = (q, d, refl)
clause-shape (Clause.and_d c d) = (c, d, refl)

pub clause-is : (d : Clause Plain) {w : Word} → clause_word d ≡ w → ClauseShape w d
clause-is d e = subst (λ (w : Word). ClauseShape w d) e (clause-shape d)

-- the table has a row for the word of every goal and every clause
abbrev is_row : Option Due → Bool
is_row (Some d) = true
is_row None = false

goal-row : (g : Goal Plain) → is_row (row_of (due_after K.Goal (goal_word g))) ≡ true
unfolding goal_word due_after rows rank
goal-row Goal.top = refl
goal-row (Goal.atom a) = refl
goal-row (Goal.and g h) = refl
goal-row (Goal.or g h) = refl
goal-row (Goal.some q g) = refl
goal-row (Goal.all q g) = refl
goal-row (Goal.imp d g) = refl

pub goal-has-row : (g : Goal Plain) (k : Word) → k ≡ goal_word g → None ≡ row_of (due_after K.Goal k) → ⊥
goal-has-row g k e n = false≢true (ap is_row n ∙ (ap (λ (w : Word). is_row (row_of (due_after K.Goal w))) e ∙ goal-row g))

clause-row : (d : Clause Plain) → is_row (row_of (due_after K.Clause (clause_word d))) ≡ true
unfolding clause_word due_after rows rank
clause-row (Clause.atom_d a) = refl
clause-row (Clause.imp_d g a) = refl
clause-row (Clause.all_d q d) = refl
clause-row (Clause.and_d c d) = refl

pub clause-has-row : (d : Clause Plain) (k : Word) → k ≡ clause_word d → None ≡ row_of (due_after K.Clause k) → ⊥
clause-has-row d k e n = false≢true (ap is_row n ∙ (ap (λ (w : Word). is_row (row_of (due_after K.Clause w))) e ∙ clause-row d))

-- how many bytes come before the members of a list with a word: its parenthesis and the word
abbrev pub head : List ℕ → ℕ
head v = 1 + length (spell (Sexp.str v))

pub heads : (head (octets "and") ≡ 6) × ((head (octets "or") ≡ 5) × ((head (octets "some") ≡ 7) × ((head (octets "all") ≡ 6) × (head (octets "imp") ≡ 6))))
unfolding decimal_onto
heads = (refl, (refl, (refl, (refl, refl))))

-- the first and the second member after a word
module _ {s : List ℕ} {at k : ℕ} (v : List ℕ) (e : head v ≡ k) where
  after-word : {xs : Sexps} → Stands s at (word v xs) → StandsAll s (at + 1 + length (spell (Sexp.str v))) xs
  after-word h = others-stand (members-stand h)

  pub first_part : {x : Sexp} {xs : Sexps} → Stands s at (word v (Sexps.cons x xs)) → Stands s (at + k) x
  first_part {x} h = subst (λ (i : ℕ). Stands s i x) (omega arith) (first-stands (after-word h))

  second-part : {x y : Sexp} {xs : Sexps} → Stands s at (word v (Sexps.cons x (Sexps.cons y xs))) → Stands s (at + (k + length (spell x))) y
  second-part {x} {y} h = subst (λ (i : ℕ). Stands s i y) (omega arith) (first-stands (others-stand (after-word h)))

  -- the second stands where the first is found to end
  pub second-found : {x y : Sexp} {xs : Sexps} {q : Option ℕ} {n : ℕ} → Stands s at (word v (Sexps.cons x (Sexps.cons y xs))) → PastAt (drop at s) k 64 q → q ≡ Some n → Stands s (at + n) y
  second-found {x} {y} {q = q} {n = n} h p f =
      let z = ends-here (stands-in-part s at k (first_part h)) (subst (λ (r : Option ℕ). PastAt (drop at s) k 64 r) f p) in
      subst (λ (i : ℕ). Stands s (at + i) y) (sym z) (second-part h)

  -- and the first is found
  pub first_found : {x : Sexp} {xs : Sexps} {q : Option ℕ} → Stands s at (word v (Sexps.cons x xs)) → nesting x ≤ 64 → PastAt (drop at s) k 64 q → q ≡ None → ⊥
  first_found {x} {q = q} h l p f = subst (λ (r : Option ℕ). PastAt (drop at s) k 64 r) f p x (stands-in-part s at k (first_part h)) l
