-- What the carrier's answers mean (document 01, refusals 2 and 3; document 02, Two, for their places). Nothing here knows how the answer is found.
use Rattle.std.specs.Prelude.{ℕ, ◌<◌, ◌≤◌, ◌≡◌, Bool, List, [], ◌∷◌, ◌++◌, length, take}
use Rattle.sexp.specs.declared.carrier.Carrier.{Carrier}
use Rattle.sexp.specs.declared.carrier.Carrier.TheVariants.{Sound, Fault, Deep}
use Rattle.sexp.specs.Sexp.{Sexp, spell, nesting}
use Rattle.sexp.specs.Known.{Known}
use Rattle.sexp.specs.Place.{Opens}
use Rattle.sexp.specs.Scan.{hints_read}

-- bytes
abbrev pub Octets : List ℕ → Type 0
Octets [] = Unit {0}
Octets (b ∷ w) = (b < 256) × Octets w

module _ (hints : Bool) where
  -- some known expression begins so, and goes on with bytes
  abbrev pub Viable : List ℕ → Type 0
  Viable b = (e : Sexp) × (rest : List ℕ) × Known hints e × Octets rest × (spell e ≡ b ++ rest)

  -- o is the length of the longest beginning of s that some known expression also begins with
  pub record Longest (s : List ℕ) (o : ℕ) : Type 0 where
    pub inside : o ≤ length s
    pub viable : Viable (take o s)
    pub longest : (p : ℕ) → o < p → p ≤ length s → Viable (take p s) → ⊥

-- o is where the first list opens at level l + 1
pub record First (e : Sexp) (l o : ℕ) : Type 0 where
  pub opens : Opens e l o
  pub before : (p : ℕ) → Opens e l p → o ≤ p

-- what an answer means of a file and a limit of nesting, where hints are read or not
abbrev pub MeansWith : Bool → List ℕ → ℕ → Carrier → Type 0
MeansWith hints s limit Sound = (e : Sexp) × Known hints e × (spell e ≡ s) × (nesting e ≤ limit)
MeansWith hints s limit (Fault o) = Longest hints s o × ((e : Sexp) → Known hints e → spell e ≡ s → ⊥)
MeansWith hints s limit (Deep o) = (e : Sexp) × Known hints e × (spell e ≡ s) × First e limit o

-- what the carrier's answer means: today a known expression is one without a hint (Known.Plain)
abbrev pub Means : List ℕ → ℕ → Carrier → Type 0
Means s limit r = MeansWith hints_read s limit r
