-- What stands in bytes where a string is looked for: the string and where it ends, or that none stands there and how far the bytes could have begun one.
use Rattle.std.specs.Prelude.{ℕ, ◌+◌, ◌<◌, ◌≤◌, ◌≡◌, Bool, List, ◌++◌, length, drop, get_or, Result, Ok, Err}
use Rattle.std.proofs.Math.Option.{Option}
use Rattle.sexp.specs.declared.carrier.Carrier.{Carrier}
use Rattle.sexp.specs.declared.carrier.Carrier.TheVariants.{Fault}
use Rattle.sexp.specs.Sexp.{verbatim_onto, spell_onto}
use Rattle.sexp.specs.Known.{Known, text_of}
use Rattle.sexp.specs.Scan.{Then, State, due, string, scan}

-- bs are the bytes from `from` to `to`
pub record Span (s : List ℕ) (from to : ℕ) (bs : List ℕ) : Type 0 where
  pub lies : drop from s ≡ bs ++ drop to s
  pub long : from + length bs ≡ to
  pub inside : to ≤ length s

-- from what is due at an offset no expression can come of more bytes than o
abbrev pub Stops : Bool → State → List ℕ → ℕ → ℕ → Type 0
Stops hints q s at o = (limit : ℕ) (v : Carrier) → scan hints limit q at v (drop at s) ≡ Fault o

-- a string without regard to hints
abbrev pub VerbatimAt : List ℕ → ℕ → Result (ℕ × ℕ) ℕ → Type 0
VerbatimAt s at (Ok (from, to)) =
    (at < from) × ((bs : List ℕ) × (drop at s ≡ verbatim_onto bs (drop to s)) × Span s from to bs)
VerbatimAt s at (Err o) =
    ((bs rest : List ℕ) → drop at s ≡ verbatim_onto bs rest → ⊥) × ((hints : Bool) (t : Then) → Stops hints (string t) s at o)

-- a string, with a hint only where hints are read
abbrev pub TextAt : Bool → List ℕ → ℕ → Result (ℕ × ℕ) ℕ → Type 0
TextAt hints s at (Ok (from, to)) =
    (at < from)
    × ((h : Option (List ℕ)) × (bs : List ℕ) × Known hints (text_of h bs) × (drop at s ≡ spell_onto (text_of h bs) (drop to s)) × Span s from to bs)
TextAt hints s at (Err o) =
    ((h : Option (List ℕ)) (bs rest : List ℕ) → Known hints (text_of h bs) → drop at s ≡ spell_onto (text_of h bs) rest → ⊥)
    × ((d : ℕ) → (get_or s at 0 ≡ 40 → ⊥) → Stops hints (due d) s at o)
