-- From the bytes of the text to the bytes of the files (document 02, One: "What is written is true in the same structures as the TPTP formula"): what is written is read as rules and a goal that are
-- as true as the axioms and the conjecture of the lines that the text spells, in file order, in every structure and for every logic.
use Prim.Native.Nat.{ℕ, ◌≤◌}
use mathlib.Core.Path.{◌≡◌, refl, sym, ◌∙◌, ap, ap₂, subst}
use mathlib.Core.List.{List, [], ◌∷◌, map}
use mathlib.Core.Logic.{◌↔◌}
use native.Mathlib.Omega.{arith}
use lib.ListN.{length, take, drop}
use lib.Seq.{take-append_seam, drop-append_seam}
use Rattle.packet.specs.declared.Kind.TheVariants as K
use Rattle.packet.specs.declared.File.TheVariants as F
use Rattle.packet.specs.Read.{goal_of, rules_of}
use Rattle.packet.specs.File.{most_bytes, file_of}
use Rattle.calculus.specs.Translation.{goal_formula, clause_formula}
use Rattle.fof_truth.specs.Formula.{Line}
use Rattle.fof_truth.specs.Truth.{Logic, evident, classical, truth, plain_truth}
use Rattle.fof_truth.specs.Part.{axioms, conjectures}
use Rattle.fof_truth.specs.Book.{Book, rules_file, goal_file, Outcome}
use Rattle.fof_truth.specs.Meaning as lines
use Rattle.fof_truth.proofs.BookLaws.{book-only, book-is-as-true}
use Rattle.fof_truth.proofs.ReadLaws.{what-is-written-is-read}
use Rattle.tptp.specs.Converted.{Converted}
use Rattle.tptp.specs.Converted as converted
use Rattle.tptp.specs.Comes.{Comes, comes_to, answered, over, rules_after, goal_after, Converts}
use Rattle.tptp.specs.Meaning.{Means}
use Rattle.tptp.specs.True.{Front, AsTrue, Translated, InStep, Alike}
use Rattle.tptp.proofs.MeaningLaws.{text-told}
use Rattle.tptp.proofs.AnswerLaws.{first_of, second_of, kind_of}

front_of : (w d d' : List ℕ) (n : ℕ) → length w ≤ length d → length w ≤ most_bytes → n ≡ length w → d' ≡ over w d → Front w d d' n
front_of w d d' n l m e f = record { fits = l; allowed = m; long = e; filled = ap₂ take e f ∙ take-append_seam w (drop (length w) d); kept = ap₂ drop e f ∙ drop-append_seam w (drop (length w) d) ∙ ap (λ (m : ℕ). drop m d) (sym e) }

module _ {text rules rules' goal goal' : List ℕ} {r : Converted} (h : Converts text rules rules' goal goal' r) where
  translated : (z : Comes) → comes_to text (length rules) (length goal) ≡ z → Means text (length rules) (length goal) z → (x y : ℕ) → answered z ≡ converted.written x y → Translated text rules rules' goal goal' x y
  translated (Comes.refused w) e m x y q = absurd (let z : ◌≡◌ {A = ℕ} 1 0 = ap kind_of q in omega arith)
  translated (Comes.files rs g) e m x y q =
      let k = m.holds in
      let b = m.book in
      let read = what-is-written-is-read k.lines (length rules) (length goal) b (book-only k.lines (length rules) (length goal) (Outcome.written b) (lines.written k.in_part k.becomes m.few m.flat m.short)) in
      let fr = front_of (rules_file b) rules rules' x m.short.rules m.short.rules_allowed (sym (ap first_of q) ∙ ap length m.rules) (h.ruled ∙ ap (λ (z : Comes). rules_after z rules) e ∙ ap (λ (w : List ℕ). over w rules) m.rules) in
      let fg = front_of (goal_file b) goal goal' y m.short.goal m.short.goal_allowed (sym (ap second_of q) ∙ ap length m.goal) (h.asked ∙ ap (λ (z : Comes). goal_after z goal) e ∙ ap (λ (w : List ℕ). over w goal) m.goal) in
      record {
        lines = k.lines;
        spells = k.spells;
        in_part = k.in_part;
        book = b;
        as_true = λ L S π ρ σ. book-is-as-true L S π ρ σ k.lines b k.becomes;
        rules_front = fr;
        goal_front = fg;
        rules_read = ap (file_of K.Rules F.Rules rules_of) fr.filled ∙ read.rules;
        goal_read = ap (file_of K.Goal F.Goal goal_of) fg.filled ∙ read.goal;
      }

  -- what is written is read as rules and a goal that are as true as the lines that the text spells
  pub what-is-written-is-as-true : (x y : ℕ) → r ≡ converted.written x y → Translated text rules rules' goal goal' x y
  what-is-written-is-as-true x y e =
      translated (comes_to text (length rules) (length goal)) refl (text-told text (length rules) (length goal)) x y (sym h.answer ∙ e)

  -- so the two files lie inside the two buffers
  pub written-inside : (x y : ℕ) → r ≡ converted.written x y → (x ≤ length rules) × (y ≤ length goal)
  written-inside x y e =
      let t = what-is-written-is-as-true x y e in
      (omega (arith, t.rules_front.fits, t.rules_front.long), omega (arith, t.goal_front.fits, t.goal_front.long))

-- equal lists are in step, where each member stands so to itself
equal-in-step : {W : Type 1} (R : W → W → Type 0) → ((v : W) → R v v) → (vs ws : List W) → vs ≡ ws → InStep R vs ws
equal-in-step {W} R h vs ws e = subst (InStep R vs) e (go vs)
  where
    go : (us : List W) → InStep R us us
    go [] = tt
    go (u ∷ us) = (h u, go us)

-- so are equal truths, in any logic
as-true-alike : (L : Logic) (R : L.Value → L.Value → Type 0) → ((v : L.Value) → R v v) → (ls : List Line) (b : Book) → AsTrue ls b → Alike L R ls b
as-true-alike L R h ls b t = λ S π ρ σ. let (u, v) = t L S π ρ σ in (
  equal-in-step R h (map (truth L S ρ) (axioms ls)) (map (λ d. plain_truth L S π σ (clause_formula d)) b.rules) u,
  equal-in-step R h (map (truth L S ρ) (conjectures ls)) (plain_truth L S π σ (goal_formula b.goal) ∷ []) v,
)

exactly-itself : (A : Type 0) → A ↔ A
exactly-itself A = (λ a. a, λ a. a)

module _ {text rules rules' goal goal' : List ℕ} {x y : ℕ} (t : Translated text rules rules' goal goal' x y) where
  -- where a truth is its evidence: each axiom of the text is true exactly if the rule at its place is, and the conjecture exactly if the goal is
  pub evident-exactly : Alike evident (λ (A B : Type 0). A ↔ B) t.lines t.book
  evident-exactly = as-true-alike evident (λ (A B : Type 0). A ↔ B) exactly-itself t.lines t.book t.as_true

  -- the same classically
  pub classically-exactly : Alike classical (λ (A B : Type 0). A ↔ B) t.lines t.book
  classically-exactly = as-true-alike classical (λ (A B : Type 0). A ↔ B) exactly-itself t.lines t.book t.as_true
