-- What the derivation of a proof needs of the candidates: whichever may be used at a place has, over the signature there, the sort that is asked for (document 004, Figure 1: Σ ⊢ t : τ).
use Rattle.std.specs.Prelude.{ℕ, List}
use Rattle.harrop.specs.declared.Binding.TheVariants.{Candidate}
use Rattle.harrop.specs.Bindings.{meant}
use Rattle.harrop.specs.Place.{Candidates}
use Rattle.harrop.specs.Proves.{May}
use Rattle.calculus.specs.Signature.{Symbols, Has}
use Rattle.calculus.specs.Translation.{signature_at}

abbrev pub Apt : {Q : Type 0} → Symbols Q → Candidates Q → Type 0
Apt {Q} Y cs = (o : List Q) (q : Q) (i : ℕ) → May cs o q i → Has (signature_at Y o) (meant cs.terms (Candidate i)) q
