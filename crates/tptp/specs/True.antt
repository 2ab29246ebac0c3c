-- What an answer "written" with two lengths says, from the bytes of the text to the bytes of the files (document 02, One: "What is written is true in the same structures as the TPTP formula"):
-- the text spells lines in the part, and in front of the buffers stand two files that document 01's readers read as rules and a goal, as true as the lines' axioms and conjecture.
use Rattle.std.specs.Prelude.{ℕ, ◌≤◌, ◌≡◌, List, [], ◌∷◌, map, length, take, drop}
use Rattle.harrop.specs.Formula.{Name}
use Rattle.packet.specs.declared.Kind.TheVariants as K
use Rattle.packet.specs.declared.File.TheVariants as F
use Rattle.packet.specs.Read.{goal_of, rules_of}
use Rattle.packet.specs.File as file
use Rattle.packet.specs.File.{most_bytes, file_of}
use Rattle.calculus.specs.Translation.{goal_formula, clause_formula}
use Rattle.fof_truth.specs.Formula.{Line}
use Rattle.fof_truth.specs.Truth.{Logic, Structure, truth, plain_truth}
use Rattle.fof_truth.specs.Part.{axioms, conjectures, BookInPart}
use Rattle.fof_truth.specs.Book.{Book, rules_file, goal_file}
use Rattle.tptp.specs.Meaning.{Spells}

-- a file stands in front of a buffer of which the rest is kept
pub record Front (w d d' : List ℕ) (n : ℕ) : Type 0 where
  pub fits : length w ≤ length d
  pub allowed : length w ≤ most_bytes
  pub long : n ≡ length w
  pub filled : take n d' ≡ w
  pub kept : drop n d' ≡ drop n d

-- the truths of the axioms, in file order, are those of the rules, and the conjecture's is the goal's, whatever the variables and the parameters stand for
abbrev pub AsTrue : List Line → Book → Type 2
AsTrue ls b =
    (L : Logic) (S : Structure L.Value) (π : ℕ → S.Domain) (ρ : Name → S.Domain) (σ : ℕ → S.Domain) →
    (map (truth L S ρ) (axioms ls) ≡ map (λ d. plain_truth L S π σ (clause_formula d)) b.rules)
    × (map (truth L S ρ) (conjectures ls) ≡ plain_truth L S π σ (goal_formula b.goal) ∷ [])

-- what an answer "written" with two lengths says of a text and of the buffers before and after
pub record Translated (text rules rules' goal goal' : List ℕ) (x y : ℕ) : Type 2 where
  pub lines : List Line
  pub spells : Spells text lines
  pub in_part : BookInPart lines
  pub book : Book
  pub as_true : AsTrue lines book
  pub rules_front : Front (rules_file book) rules rules' x
  pub goal_front : Front (goal_file book) goal goal' y
  pub rules_read : file_of K.Rules F.Rules rules_of (take x rules') ≡ file.Outcome.sound book.rules
  pub goal_read : file_of K.Goal F.Goal goal_of (take y goal') ≡ file.Outcome.sound book.goal

-- as many of one as of the other, and each stands so to the one at its place
abbrev pub InStep : {W : Type 1} → (W → W → Type 0) → List W → List W → Type 0
InStep R [] [] = Unit {0}
InStep R [] (w ∷ ws) = ⊥
InStep R (v ∷ vs) [] = ⊥
InStep R (v ∷ vs) (w ∷ ws) = R v w × InStep R vs ws

-- in every structure of a logic the truth of each axiom stands so to that of the rule at its place, in file order, and the conjecture's to the goal's
abbrev pub Alike : (L : Logic) → (L.Value → L.Value → Type 0) → List Line → Book → Type 1
Alike L R ls b =
    (S : Structure L.Value) (π : ℕ → S.Domain) (ρ : Name → S.Domain) (σ : ℕ → S.Domain) →
    InStep R (map (truth L S ρ) (axioms ls)) (map (λ d. plain_truth L S π σ (clause_formula d)) b.rules)
    × InStep R (map (truth L S ρ) (conjectures ls)) (plain_truth L S π σ (goal_formula b.goal) ∷ [])
