-- What each answer means, line by line of document 02 (One), without the tests: nothing here knows how the answer is found.
-- Sound texts are crate fof_productions'; how lines are spelt in tokens is crate fof_part's; which lines are in the part, and what they become, is crate fof_truth's.
use Rattle.std.specs.Prelude.{ℕ, ◌<◌, ◌≤◌, ◌≡◌, List, length}
use Rattle.packet.specs.File.{most_bytes}
use Rattle.fof_tokens.specs.Token.{Token}
use Rattle.fof_tokens.specs.Cuts.{Cuts}
use Rattle.fof_productions.specs.Sound.{Sound}
use Rattle.fof_truth.specs.Formula.{Line}
use Rattle.fof_truth.specs.Part.{BookInPart}
use Rattle.fof_truth.specs.Book.{Book, rules_file, goal_file, Why}
use Rattle.fof_truth.specs.Meaning.{Few, Flat, Short, Becomes}
use Rattle.fof_part.specs.Sign.{signs}
use Rattle.fof_part.specs.Spelled.{BookSpelt}
use Rattle.tptp.specs.Comes.{Refusal, Comes}

-- the text spells these lines: it is cut into tokens, and they are spelt so
pub record Spells (text : List ℕ) (ls : List Line) : Type 0 where
  pub cut : List Token
  pub cuts : Cuts text cut
  pub spelt : BookSpelt ls (signs cut)

-- a text of at most 16,384 bytes spells lines in the part, and these become this book
pub record Holds (text : List ℕ) (b : Book) : Type 0 where
  pub short : length text ≤ most_bytes
  pub lines : List Line
  pub spells : Spells text lines
  pub in_part : BookInPart lines
  pub becomes : Becomes lines b

-- what each refusal says, where a and c are the lengths of the two buffers; each supposes that those before it do not apply
abbrev pub Says : List ℕ → ℕ → ℕ → Refusal → Type 0
Says text a c Refusal.too_long = most_bytes < length text
Says text a c Refusal.unsound = length text ≤ most_bytes × (Sound text → ⊥)
Says text a c (Refusal.lines Why.outside) = length text ≤ most_bytes × Sound text × ((ls : List Line) → Spells text ls → BookInPart ls → ⊥)
Says text a c (Refusal.lines Why.too_many) = (b : Book) × Holds text b × (Few b → ⊥)
Says text a c (Refusal.lines Why.too_deep) = (b : Book) × Holds text b × Few b × (Flat b → ⊥)
Says text a c (Refusal.lines Why.too_long) = (b : Book) × Holds text b × Few b × Flat b × (Short a c b → ⊥)

-- what the two files say: they are those of the book that the text holds, and within all sizes
pub record Fits (text : List ℕ) (a c : ℕ) (rs g : List ℕ) : Type 0 where
  pub book : Book
  pub holds : Holds text book
  pub few : Few book
  pub flat : Flat book
  pub short : Short a c book
  pub rules : rs ≡ rules_file book
  pub goal : g ≡ goal_file book

abbrev pub Means : List ℕ → ℕ → ℕ → Comes → Type 0
Means text a c (Comes.files rs g) = Fits text a c rs g
Means text a c (Comes.refused w) = Says text a c w
