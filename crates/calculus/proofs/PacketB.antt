-- Packet B (document 01, "Strips to try"): its strip is a proof, and so its sequent has a uniform derivation, by just these rules.
use mathlib.Core.Path.{◌≡◌, refl}
use mathlib.Core.List.Permᴰ
use mathlib.Core.List.{[], ◌∷◌, map}
use native.Mathlib.Omega.{arith}
use Rattle.harrop.specs.Place.{listed, root}
use Rattle.harrop.specs.Proves.{May, Reaches, Proves, ProvesAt}
use Rattle.harrop.specs.Scoped.{Fair}
use Rattle.harrop.specs.Cases.{p7, B, strip_b}
use Rattle.calculus.specs.Uniform.{UniformProof, Rule, rules_in}
use Rattle.calculus.specs.Translation.{goal_formula, clause_formula}
use Rattle.calculus.specs.Packet.{packet_symbols, packet_signature}
use Rattle.calculus.proofs.Derive.{tree}
use Rattle.calculus.proofs.PacketLaws.{packet-apt}
use Rattle.calculus.proofs.RootDerived.{root-typed, packet-derived}

pub B-fair : Fair B.rules B.goal B.terms
B-fair = record { rules = omega arith; goal = omega arith; terms = omega arith }

B-may : May (listed B.terms) [] tt 0
B-may = record { term = p7; is_listed = refl; is_open = omega arith; does_suit = refl }

pub B-proves : ProvesAt (listed B.terms) (root B.rules B.goal) (strip_b 1)
B-proves = Proves.by-imp (Proves.by-use₁ refl (Reaches.by_number B-may Reaches.at-imp) refl (Proves.by-use₀ refl Reaches.at-atom refl))

pub B-derived : UniformProof (packet_signature B.rules B.goal B.terms) (map clause_formula B.rules) (goal_formula B.goal)
B-derived = packet-derived B.rules B.goal B.terms B-fair (strip_b 1) B-proves (map clause_formula B.rules) (Permᴰ.refl (map clause_formula B.rules))

-- contraction, the path, the implication, and the clauses at hand weakened away before id
pub B-rules : rules_in (tree (packet_symbols B.rules B.goal B.terms) (listed B.terms) (packet-apt B.rules B.goal B.terms B-fair) B-proves (root-typed B.rules B.goal B.terms B-fair)) ≡ Rule.implies-R ∷ Rule.contr-L ∷ Rule.all-L ∷ Rule.implies-L ∷ Rule.contr-L ∷ Rule.weak-L ∷ Rule.weak-L ∷ Rule.id ∷ Rule.weak-L ∷ Rule.weak-L ∷ Rule.id ∷ []
unfolding B-proves
B-rules = refl
