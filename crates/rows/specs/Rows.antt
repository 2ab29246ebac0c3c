-- The code's answers for what the table of words gives: a row's due, and the next member with what is due after it (document 01, the table of words).
use Rattle.std.specs.Prelude as code
use Rattle.std.proofs.Math.Option.{Option, none, some}
use Rattle.packet.specs.declared.Kind.{Kind}
use Rattle.packet.specs.declared.Due.{Due}

abbrev pub row_of : Option Due → code.Option Due
row_of none = code.None
row_of (some due) = code.Some due

abbrev pub follows_of : Option (Kind × Due) → code.Option (Kind × Due)
follows_of none = code.None
follows_of (some n) = code.Some (n.0, n.1)
