-- The answer to a text in TPTP: written, with the lengths of both files, or refused, with a reason, a file and a place.
use Rattle.std.specs.Prelude.{ℕ, Result, Ok, Err}
use Rattle.tptp.specs.declared.Refusal.{Refusal}
use Rattle.tptp.specs.declared.Written.{Written}

abbrev pub Converted : Type 0
Converted = Result Written Refusal

abbrev pub written : ℕ → ℕ → Converted
written rules goal = Ok (record { rules = rules; goal = goal })

abbrev pub refused : ℕ → ℕ → ℕ → Converted
refused reason file place = Err (record { reason = reason; file = file; place = place })
