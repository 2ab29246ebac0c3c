-- What is sure of a strip that is a proof within a height: its numbers are among the clauses at hand and the candidates, so few that document 01's three digits hold them; it nests one deeper than it is high, for a path is a list too; and it has fewer than 2 ^ h nodes.
use Prim.Native.Nat.{ℕ, zero, suc, ◌+◌, ◌^◌, ◌≤◌, ◌<◌}
use mathlib.Core.Path.{◌≡◌, refl, ◌∙◌}
use mathlib.Core.List.{List, [], ◌∷◌, ◌++◌}
use native.Mathlib.Omega.{arith}
use lib.ListN.{length, length-append}
use lib.Pow.{pow_pos}
use native.Mathlib.Nat.{pow-suc, mul_comm, two-mul}
use Rattle.harrop.specs.Formula.{Goal, Clause, Step, Strip, height, nodes}
use Rattle.harrop.specs.Bindings.{Bindings}
use Rattle.harrop.specs.Place.{Candidates, AtHand, Hand, End}
use Rattle.harrop.specs.Proves.{May, Reaches, at-atom, at-imp, by_number, by-l, by-r, Proves, by-top, by_and, by_left, by_right, by-some, by_all, by-imp, by-use₀, by-use₁}
use Rattle.harrop.proofs.ListLaws.{member_below}
use Rattle.harrop.proofs.PlaceLaws.{may-below}
use Rattle.harrop.proofs.HeightLaws.{no-strip-within-0}
use Rattle.sexp.specs.Sexp.{Sexp, Sexps, nesting, nestings}
use Rattle.packet.specs.Written.{each, step_sexp, path_sexp, strip_sexp}
use Rattle.basics.specs.Each.{Each}
use Rattle.packet.specs.Spells.{StepWords, StripWords}

module _ {Q : Type 0} (cs : Candidates Q) (few : length cs.terms ≤ 1000) where
  pub path-words : {o : List Q} {d : Clause Q} {bs : Bindings} {path : List Step} {x : End Q} → Reaches cs o d bs path x → Each StepWords path
  path-words at-atom = tt
  path-words at-imp = tt
  path-words {o = o} (by_number {q = q} {i = i} m r) = (omega (arith, may-below cs o q i m), path-words r)
  path-words (by-l r) = (tt, path-words r)
  path-words (by-r r) = (tt, path-words r)

  pub proof-words : {o : List Q} {c : Hand Q} {bs : Bindings} {g : Goal Q} {P : Strip} → Proves cs o c bs g P → length c + height P ≤ 1000 → StripWords P
  proof-words by-top l = tt
  proof-words (by_and t u) l = (proof-words t (omega arith), proof-words u (omega arith))
  proof-words (by_left t) l = proof-words t (omega arith)
  proof-words (by_right t) l = proof-words t (omega arith)
  proof-words {o = o} (by-some {q = q} {i = i} m t) l = (omega (arith, may-below cs o q i m), proof-words t (omega arith))
  proof-words (by_all t) l = proof-words t (omega arith)
  proof-words {c = c} (by-imp {bs = bs} {d = d} t) l = proof-words t (omega (arith, length-append c (record { clause = d; bindings = bs } ∷ [])))
  proof-words {c = c} (by-use₀ {h = d} {k = k} e r s) l = (omega (arith, member_below c k d e), path-words r)
  proof-words {c = c} (by-use₁ {h = d} {k = k} e r s t) l = (omega (arith, member_below c k d e), path-words r, proof-words t (omega arith))

pub steps-flat : (path : List Step) → nestings (each step_sexp path) ≡ 0
steps-flat [] = refl
steps-flat (Step.l ∷ path) = omega (arith, steps-flat path)
steps-flat (Step.r ∷ path) = omega (arith, steps-flat path)
steps-flat (Step.n i ∷ path) = omega (arith, steps-flat path)

pub strip-nests : (P : Strip) → nesting (strip_sexp P) ≤ height P + 1
strip-nests Strip.top = omega arith
strip-nests (Strip.and P R) = omega (arith, strip-nests P, strip-nests R)
strip-nests (Strip.left P) = omega (arith, strip-nests P)
strip-nests (Strip.right P) = omega (arith, strip-nests P)
strip-nests (Strip.some i P) = omega (arith, strip-nests P)
strip-nests (Strip.all P) = omega (arith, strip-nests P)
strip-nests (Strip.imp P) = omega (arith, strip-nests P)
strip-nests (Strip.use₀ k path) = omega (arith, steps-flat path)
strip-nests (Strip.use₁ k path P) = omega (arith, steps-flat path, strip-nests P)

-- powers of two double
twice : (h : ℕ) → 2 ^ suc h ≡ 2 ^ h + 2 ^ h
twice h = pow-suc 2 h ∙ mul_comm (2 ^ h) 2 ∙ two-mul (2 ^ h)

leaf-below : {p q : ℕ} → 0 < p → q ≡ p + p → 1 < q
leaf-below l e = omega arith

one_below : {a p q : ℕ} → a < p → q ≡ p + p → suc a < q
one_below l e = omega arith

two-below : {a b p q : ℕ} → a < p → b < p → q ≡ p + p → suc (a + b) < q
two-below l m e = omega arith

pub few-nodes : (h : ℕ) (P : Strip) → height P ≤ h → nodes P < 2 ^ h
few-nodes zero P l = absurd (no-strip-within-0 P l)
few-nodes (suc h) Strip.top l = leaf-below (pow_pos h) (twice h)
few-nodes (suc h) (Strip.and P R) l = two-below (few-nodes h P (omega arith)) (few-nodes h R (omega arith)) (twice h)
few-nodes (suc h) (Strip.left P) l = one_below (few-nodes h P (omega arith)) (twice h)
few-nodes (suc h) (Strip.right P) l = one_below (few-nodes h P (omega arith)) (twice h)
few-nodes (suc h) (Strip.some i P) l = one_below (few-nodes h P (omega arith)) (twice h)
few-nodes (suc h) (Strip.all P) l = one_below (few-nodes h P (omega arith)) (twice h)
few-nodes (suc h) (Strip.imp P) l = one_below (few-nodes h P (omega arith)) (twice h)
few-nodes (suc h) (Strip.use₀ k path) l = leaf-below (pow_pos h) (twice h)
few-nodes (suc h) (Strip.use₁ k path P) l = one_below (few-nodes h P (omega arith)) (twice h)
