-- Document 01's cases 1 to 10, as trees, with the options in order and the counts: the definitions answer what is stated, by computing.
use mathlib.Core.Path.{◌≡◌, refl}
use Rattle.harrop.specs.Cases.{table, options, counts, answers, stated}

pub the-cases-are-answered-as-stated : answers table ≡ stated table
the-cases-are-answered-as-stated = refl

pub the-options-are-taken-in-order : answers options ≡ stated options
the-options-are-taken-in-order = refl

pub height-and-nodes-are-counted : answers counts ≡ stated counts
height-and-nodes-are-counted = refl
