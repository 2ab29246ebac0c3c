-- A symbol is a name with its number of arguments (document 01, "The carrier and the words": the same name with another number of arguments is another symbol).
use Rattle.std.specs.Prelude.{ℕ, suc}
use Rattle.harrop.specs.Formula.{Name, Terms, Atom}

abbrev pub Symbol : Type 0
Symbol = Name × ℕ

-- the number of arguments
abbrev pub count : Terms → ℕ
count Terms.nil = 0
count (Terms.cons t ts) = suc (count ts)

-- the predicate of an atom
abbrev pub predicate_of : Atom → Symbol
predicate_of (Atom.atom p ts) = (p, count ts)
