-- The answer and the two buffers are decided for every input; which refusal is given exactly when, and when the files are written; and on any refusal both buffers are as they came (document 02, One).
use Prim.Native.Nat.{ℕ, ◌≤◌}
use mathlib.Core.Path.{◌≡◌, refl, sym, ◌∙◌, ap, ap₂, subst}
use mathlib.Core.List.{List, [], ◌∷◌}
use mathlib.Core.Logic.{◌↔◌}
use native.Mathlib.Omega.{arith}
use lib.ListN.{length, get_or}
use Rattle.packet.specs.File.{most_bytes}
use Rattle.fof_productions.specs.Sound.{Sound}
use Rattle.fof_truth.specs.Formula.{Line}
use Rattle.fof_truth.specs.Part.{BookInPart}
use Rattle.fof_truth.specs.Book.{Why}
use Rattle.std.specs.Prelude.{Ok, Err}
use Rattle.tptp.specs.Converted.{Converted}
use Rattle.tptp.specs.Converted as converted
use Rattle.tptp.specs.Comes.{Refusal, number, Comes, comes_to, answered, rules_after, goal_after, Converts}
use Rattle.tptp.specs.Meaning.{Spells, Says, Fits, Means}
use Rattle.tptp.proofs.MeaningLaws.{text-told, text-only}

-- any two results for one input are equal
pub any-two-results-are-equal : (text rules goal r₁ r₂ g₁ g₂ : List ℕ) (x y : Converted) → Converts text rules r₁ goal g₁ x → Converts text rules r₂ goal g₂ y → (x ≡ y) × (r₁ ≡ r₂) × (g₁ ≡ g₂)
any-two-results-are-equal text rules goal r₁ r₂ g₁ g₂ x y p q = (p.answer ∙ sym q.answer, p.ruled ∙ sym q.ruled, p.asked ∙ sym q.asked)

-- the refusal that a number stands for
abbrev refusals : List Refusal
refusals =
    Refusal.too_long ∷ Refusal.too_long ∷ Refusal.too_long ∷ Refusal.lines Why.too_deep ∷ Refusal.too_long ∷ Refusal.too_long ∷ Refusal.lines Why.too_many ∷ Refusal.too_long ∷ Refusal.too_long ∷ Refusal.too_long
    ∷ Refusal.lines Why.too_long ∷ Refusal.too_long ∷ Refusal.unsound ∷ Refusal.lines Why.outside ∷ []

number-back : (w : Refusal) → get_or refusals (number w) Refusal.too_long ≡ w
number-back Refusal.too_long = refl
number-back Refusal.unsound = refl
number-back (Refusal.lines Why.outside) = refl
number-back (Refusal.lines Why.too_many) = refl
number-back (Refusal.lines Why.too_deep) = refl
number-back (Refusal.lines Why.too_long) = refl

-- no two refusals have one number
pub number-once : (v w : Refusal) → number v ≡ number w → v ≡ w
number-once v w e = sym (number-back v) ∙ ap (λ (n : ℕ). get_or refusals n Refusal.too_long) e ∙ number-back w

-- the numbers of an answer, and whether it is a refusal
abbrev pub first_of : Converted → ℕ
first_of (Ok w) = w.rules
first_of (Err n) = n.reason

abbrev pub second_of : Converted → ℕ
second_of (Ok w) = w.goal
second_of (Err n) = n.file

abbrev pub third_of : Converted → ℕ
third_of (Ok w) = 0
third_of (Err n) = n.place

abbrev pub kind_of : Converted → ℕ
kind_of (Ok w) = 0
kind_of (Err n) = 1

module _ {text rules rules' goal goal' : List ℕ} {r : Converted} (h : Converts text rules rules' goal goal' r) where
  refused-there : (w : Refusal) (x : Comes) → Means text (length rules) (length goal) x → answered x ≡ converted.refused (number w) 1 0 → Says text (length rules) (length goal) w
  refused-there w (Comes.files rs g) m e = absurd (let z : ◌≡◌ {A = ℕ} 0 1 = ap kind_of e in omega arith)
  refused-there w (Comes.refused v) m e = subst (Says text (length rules) (length goal)) (number-once v w (ap first_of e)) m

  -- which refusal is given exactly when
  pub refused-exactly : (w : Refusal) → (r ≡ converted.refused (number w) 1 0) ↔ Says text (length rules) (length goal) w
  refused-exactly w = (
    λ e. refused-there w (comes_to text (length rules) (length goal)) (text-told text (length rules) (length goal)) (sym h.answer ∙ e),
    λ s. h.answer ∙ ap answered (text-only text (length rules) (length goal) (Comes.refused w) s),
  )

  written-there : (x y : ℕ) (z : Comes) → Means text (length rules) (length goal) z → answered z ≡ converted.written x y → (rs : List ℕ) × (g : List ℕ) × Fits text (length rules) (length goal) rs g × (length rs ≡ x) × (length g ≡ y)
  written-there x y (Comes.files rs g) m e = (rs, g, m, ap first_of e, ap second_of e)
  written-there x y (Comes.refused w) m e = absurd (let z : ◌≡◌ {A = ℕ} 1 0 = ap kind_of e in omega arith)

  -- written exactly if the text holds a book whose two files, of these lengths, are within all sizes
  pub written-exactly : (x y : ℕ) → (r ≡ converted.written x y) ↔ ((rs : List ℕ) × (g : List ℕ) × Fits text (length rules) (length goal) rs g × (length rs ≡ x) × (length g ≡ y))
  written-exactly x y = (
    λ e. written-there x y (comes_to text (length rules) (length goal)) (text-told text (length rules) (length goal)) (sym h.answer ∙ e),
    λ (rs, g, m, u, v). h.answer ∙ ap answered (text-only text (length rules) (length goal) (Comes.files rs g) m) ∙ ap₂ converted.written u v,
  )

  -- 12 exactly if the whole text, of at most 16,384 bytes, is no list of `fof` lines by the grammar
  pub twelve-exactly : length text ≤ most_bytes → (r ≡ converted.refused 12 1 0) ↔ (Sound text → ⊥)
  twelve-exactly l = (λ e. ((refused-exactly Refusal.unsound).0 e).1, λ s. (refused-exactly Refusal.unsound).1 (l, s))

  -- 13 exactly if the sound text spells no book in the part: lines that are all in the part, one of them a conjecture
  pub thirteen-exactly : length text ≤ most_bytes → Sound text → (r ≡ converted.refused 13 1 0) ↔ ((ls : List Line) → Spells text ls → BookInPart ls → ⊥)
  thirteen-exactly l s = (λ e. ((refused-exactly (Refusal.lines Why.outside)).0 e).2, λ n. (refused-exactly (Refusal.lines Why.outside)).1 (l, s, n))

  buffers-kept : (x : Comes) (n f p : ℕ) → comes_to text (length rules) (length goal) ≡ x → answered x ≡ converted.refused n f p → (f ≡ 1) × (p ≡ 0) × (rules' ≡ rules) × (goal' ≡ goal)
  buffers-kept (Comes.files rs g) n f p e q = absurd (let z : ◌≡◌ {A = ℕ} 0 1 = ap kind_of q in omega arith)
  buffers-kept (Comes.refused w) n f p e q =
      (sym (ap second_of q), sym (ap third_of q), h.ruled ∙ ap (λ (x : Comes). rules_after x rules) e, h.asked ∙ ap (λ (x : Comes). goal_after x goal) e)

  -- every refusal is of file 1, with place 0, and leaves both buffers as they came
  pub refusals-write-nothing : (n f p : ℕ) → r ≡ converted.refused n f p → (f ≡ 1) × (p ≡ 0) × (rules' ≡ rules) × (goal' ≡ goal)
  refusals-write-nothing n f p e = buffers-kept (comes_to text (length rules) (length goal)) n f p refl (sym h.answer ∙ e)
