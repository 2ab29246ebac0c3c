-- What a word of digits says when a program is given it as a height or a size: any number of digits, a leading zero among them. (The numbers of the files are crate sexp's, and have none.)
use Rattle.std.specs.Prelude.{ℕ, min, List, [], ◌∷◌, Option, Some, None}
use Rattle.basics.specs.Choice.{choose}
use Rattle.sexp.specs.Decimal.{is_digit}
use Rattle.sexp.specs.Number.{largest}
use Rattle.sexp.specs.Words.{every, worth}

-- the number that is meant, if it is a word of digits alone, and of one at least
unfoldable pub said : List ℕ → Option ℕ
said [] = None
said (c ∷ w) = choose (every is_digit (c ∷ w)) (Some (worth (c ∷ w))) None

-- as far as a machine word holds it
abbrev pub held : Option ℕ → Option ℕ
held None = None
held (Some n) = Some (min n largest)
