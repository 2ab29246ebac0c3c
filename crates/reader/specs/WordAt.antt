-- What is said of the word at an offset of any bytes (document 01, "Each word below is the first string of its list"): it is the word of the plain string that stands
-- there, and where none stands there it is no word.
use Rattle.std.specs.Prelude.{ℕ, ◌≡◌, List}
use Rattle.sexp.specs.Sexp.{str, Stands}
use Rattle.packet.specs.declared.Word.{Word}
use Rattle.packet.specs.declared.Word.TheVariants as W
use Rattle.packet.specs.Table.{word_of}

pub data WordAt (s : List ℕ) (at : ℕ) (r : Word) : Type 0 where
  of : {w : List ℕ} → Stands s at (str w) → r ≡ word_of w → WordAt s at r
  no : ((w : List ℕ) → Stands s at (str w) → ⊥) → r ≡ W.Nothing → WordAt s at r
