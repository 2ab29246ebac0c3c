-- Bytes of one class, one after another.
use Rattle.std.specs.Prelude.{ℕ, suc, Bool, true, false, List, [], ◌∷◌}
use Rattle.fof_tokens.specs.declared.run.Class.{Class}
use Rattle.fof_tokens.specs.declared.run.Class.TheVariants as class
use Rattle.fof_tokens.specs.Bytes.{is_alnum, is_digit, in_line}

abbrev pub passes : Class → ℕ → Bool
passes class.Alnum c = is_alnum c
passes class.Digit c = is_digit c
passes class.Line c = in_line c

-- how many bytes at the head pass a test
unfoldable pub span : (ℕ → Bool) → List ℕ → ℕ
span t [] = 0
span t (c ∷ w) = elim (t c) [ true ↦ suc (span t w) | false ↦ 0 ]
