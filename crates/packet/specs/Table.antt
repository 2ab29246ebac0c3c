-- Document 01's table of words, row by row: for each kind of list its words, and what is due after each.
use Rattle.std.specs.Prelude.{ℕ, Bool, true, false, List, [], ◌∷◌, eqb}
use Rattle.std.proofs.Math.Option.{Option, none, some}
use Rattle.basics.specs.Choice.{choose}
use Rattle.basics.specs.Text.{octets}
use Rattle.harrop.specs.Bindings.{same_name}
use Rattle.packet.specs.declared.Word.{Word}
use Rattle.packet.specs.declared.Word.TheVariants as W
use Rattle.packet.specs.declared.Kind.{Kind}
use Rattle.packet.specs.declared.Kind.TheVariants as K
use Rattle.packet.specs.declared.Due.{Due}
use Rattle.packet.specs.declared.Due.TheVariants as D

-- how each word is written
abbrev pub words : List (List ℕ × Word)
words =
    (octets "v", W.V)
    ∷ (octets "f", W.F)
    ∷ (octets "e", W.E)
    ∷ (octets "atom", W.Atom)
    ∷ (octets "top", W.Top)
    ∷ (octets "and", W.And)
    ∷ (octets "or", W.Or)
    ∷ (octets "some", W.Some)
    ∷ (octets "all", W.All)
    ∷ (octets "imp", W.Imp)
    ∷ (octets "left", W.Left)
    ∷ (octets "right", W.Right)
    ∷ (octets "use", W.Use)
    ∷ (octets "rules", W.Rules)
    ∷ (octets "terms", W.Terms)
    ∷ []

abbrev pub look_for : List ℕ → List (List ℕ × Word) → Word
look_for w [] = W.Nothing
look_for w (r ∷ rs) = choose (same_name w r.0) r.1 (look_for w rs)

-- the word that a string is
unfoldable pub word_of : List ℕ → Word
word_of w = look_for w words

-- a word's place in the list above, to compare words by
unfoldable pub rank : Word → ℕ
rank W.V = 0
rank W.F = 1
rank W.E = 2
rank W.Atom = 3
rank W.Top = 4
rank W.And = 5
rank W.Or = 6
rank W.Some = 7
rank W.All = 8
rank W.Imp = 9
rank W.Left = 10
rank W.Right = 11
rank W.Use = 12
rank W.Rules = 13
rank W.Terms = 14
rank W.Nothing = 15

abbrev pub Row : Type 0
Row = Word × Due

-- the rows of a kind; the kinds that are strings, and a path, have none
unfoldable pub rows : Kind → List Row
rows K.Name = []
rows K.Number = []
rows K.Step = []
rows K.Path = []
rows K.Term = (W.V, D.One K.Number) ∷ (W.F, D.OneEach K.Name K.Term) ∷ (W.E, D.One K.Number) ∷ []
rows K.Atom = (W.Atom, D.OneEach K.Name K.Term) ∷ []
rows K.Goal =
    (W.Top, D.End)
    ∷ (W.Atom, D.OneEach K.Name K.Term)
    ∷ (W.And, D.Two K.Goal K.Goal)
    ∷ (W.Or, D.Two K.Goal K.Goal)
    ∷ (W.Some, D.One K.Goal)
    ∷ (W.All, D.One K.Goal)
    ∷ (W.Imp, D.Two K.Clause K.Goal)
    ∷ []
rows K.Clause =
    (W.Atom, D.OneEach K.Name K.Term)
    ∷ (W.Imp, D.Two K.Goal K.Atom)
    ∷ (W.All, D.One K.Clause)
    ∷ (W.And, D.Two K.Clause K.Clause)
    ∷ []
rows K.Rules = (W.Rules, D.Each K.Clause) ∷ []
rows K.Terms = (W.Terms, D.Each K.Term) ∷ []
rows K.Strip =
    (W.Top, D.End)
    ∷ (W.And, D.Two K.Strip K.Strip)
    ∷ (W.Left, D.One K.Strip)
    ∷ (W.Right, D.One K.Strip)
    ∷ (W.Some, D.Two K.Number K.Strip)
    ∷ (W.All, D.One K.Strip)
    ∷ (W.Imp, D.One K.Strip)
    ∷ (W.Use, D.TwoPerhaps K.Number K.Path K.Strip)
    ∷ []

-- the row with this word
abbrev pub look : Word → List Row → Option Due
look w [] = none
look w (r ∷ rs) = choose (eqb (rank w) (rank r.0)) (some r.1) (look w rs)

-- what is due after a word of a kind, if the table has it there
unfoldable pub due_after : Kind → Word → Option Due
due_after k w = look w (rows k)

-- the kind of the next member, and what is due after it; none where no member may follow
unfoldable pub next : Due → Option (Kind × Due)
next D.End = none
next (D.One a) = some (a, D.End)
next (D.Two a b) = some (a, D.One b)
next (D.Each a) = some (a, D.Each a)
next (D.OneEach a b) = some (a, D.Each b)
next (D.Perhaps a) = some (a, D.End)
next (D.OnePerhaps a b) = some (a, D.Perhaps b)
next (D.TwoPerhaps a b c) = some (a, D.OnePerhaps b c)

-- the list may end here
unfoldable pub may_end : Due → Bool
may_end D.End = true
may_end (D.One a) = false
may_end (D.Two a b) = false
may_end (D.Each a) = true
may_end (D.OneEach a b) = false
may_end (D.Perhaps a) = true
may_end (D.OnePerhaps a b) = false
may_end (D.TwoPerhaps a b c) = false
