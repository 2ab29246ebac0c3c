-- The first two theorems of this crate: the executable twin answers height and nodes exactly if the strip is a proof, and they are the strip's own; otherwise it names the first node in file order that does not fit; and whether a strip is a proof is decidable.
use Prim.Native.Nat.{ℕ}
use mathlib.Core.Path.{◌≡◌, refl, sym, ◌∙◌, ap, ap₂, subst}
use native.Mathlib.Omega.{arith}
use Rattle.harrop.specs.Formula.{Strip, height, nodes}
use Rattle.harrop.specs.Place.{Candidates, Place}
use Rattle.harrop.specs.Proves.{ProvesAt}
use Rattle.harrop.specs.Position.{Position, Before}
use Rattle.harrop.specs.Fits.{Fitting, FirstMisfit, EveryNodeFits}
use Rattle.harrop.specs.Order.{Compared}
use Rattle.harrop.specs.Check.{Judged, check_at}
use Rattle.harrop.proofs.PositionLaws.{positions-compared}
use Rattle.harrop.proofs.FitsLaws.{proof-every-node-fits, stands-in-strip, stands-at-one-place}
use Rattle.harrop.proofs.CheckLaws.{Says, check-says}

misfits-differ : (h m : ℕ) (at : Position) → Judged.fits h m ≡ Judged.misfit at → ⊥
misfits-differ h m at e = let z : ◌≡◌ {A = ℕ} 0 1 = cc in omega arith

module _ {Q : Type 0} (cs : Candidates Q) (pl : Place Q) (P : Strip) where
  says : (j : Judged) → check_at cs pl P ≡ j → Says cs pl P j
  says j e = subst (λ (x : Judged). Says cs pl P x) e (check-says cs P pl.opened pl.hand pl.bindings pl.goal)

  -- what the twin accepts is a proof, and it tells the strip's height and nodes
  pub accepted-is-a-proof : (h m : ℕ) → check_at cs pl P ≡ Judged.fits h m → ProvesAt cs pl P × (h ≡ height P) × (m ≡ nodes P)
  accepted-is-a-proof h m e = says (Judged.fits h m) e

  -- where it names a node, that node does not fit at its place, and every node before it in file order does
  pub named-is-the-first-misfit : (at : Position) → check_at cs pl P ≡ Judged.misfit at → FirstMisfit cs pl P at
  named-is-the-first-misfit at e = says (Judged.misfit at) e

  -- a strip all of whose nodes fit has no first misfit
  pub no-misfit-where-every-node-fits : (at : Position) → FirstMisfit cs pl P at → EveryNodeFits cs pl P → ⊥
  no-misfit-where-every-node-fits at m every =
      let (pl₁, s, f) = every at m.node (stands-in-strip cs m.stands) in
      m.misfits (subst (λ (x : Place Q). Fitting cs x m.node) (stands-at-one-place cs s m.stands) f)

  -- a proof is accepted
  pub proof-is-accepted : ProvesAt cs pl P → check_at cs pl P ≡ Judged.fits (height P) (nodes P)
  proof-is-accepted t = go (check_at cs pl P) refl
    where
      go : (j : Judged) → check_at cs pl P ≡ j → check_at cs pl P ≡ Judged.fits (height P) (nodes P)
      go (Judged.fits h m) e = let (u, p, q) = accepted-is-a-proof h m e in e ∙ ap₂ Judged.fits p q
      go (Judged.misfit at) e = absurd (no-misfit-where-every-node-fits at (named-is-the-first-misfit at e) (proof-every-node-fits cs pl P t))

  -- a strip is a proof if every node fits
  pub every-node-fits-proof : EveryNodeFits cs pl P → ProvesAt cs pl P
  every-node-fits-proof every = go (check_at cs pl P) refl
    where
      go : (j : Judged) → check_at cs pl P ≡ j → ProvesAt cs pl P
      go (Judged.fits h m) e = (accepted-is-a-proof h m e).0
      go (Judged.misfit at) e = absurd (no-misfit-where-every-node-fits at (named-is-the-first-misfit at e) every)

  -- the first misfit is the node that is named
  pub first-misfit-is-named : (at : Position) → FirstMisfit cs pl P at → check_at cs pl P ≡ Judged.misfit at
  first-misfit-is-named at m = go (check_at cs pl P) refl
    where
      one : (at₁ : Position) → FirstMisfit cs pl P at₁ → Compared Before at₁ at → at₁ ≡ at
      one at₁ n (Compared.before b) =
          let (pl₁, s, f) = m.all-before at₁ n.node b (stands-in-strip cs n.stands) in
          absurd (n.misfits (subst (λ (x : Place Q). Fitting cs x n.node) (stands-at-one-place cs s n.stands) f))
      one at₁ n (Compared.same e) = e
      one at₁ n (Compared.after b) =
          let (pl₁, s, f) = n.all-before at m.node b (stands-in-strip cs m.stands) in
          absurd (m.misfits (subst (λ (x : Place Q). Fitting cs x m.node) (stands-at-one-place cs s m.stands) f))

      go : (j : Judged) → check_at cs pl P ≡ j → check_at cs pl P ≡ Judged.misfit at
      go (Judged.fits h k) e = absurd (no-misfit-where-every-node-fits at m (proof-every-node-fits cs pl P (accepted-is-a-proof h k e).0))
      go (Judged.misfit at₁) e = e ∙ ap Judged.misfit (one at₁ (named-is-the-first-misfit at₁ e) (positions-compared at₁ at))

  -- whether a strip is a proof is decidable
  pub whether-a-proof : Dec (ProvesAt cs pl P)
  whether-a-proof = go (check_at cs pl P) refl
    where
      go : (j : Judged) → check_at cs pl P ≡ j → Dec (ProvesAt cs pl P)
      go (Judged.fits h m) e = yes (accepted-is-a-proof h m e).0
      go (Judged.misfit at) e = no (λ t. no-misfit-where-every-node-fits at (named-is-the-first-misfit at e) (proof-every-node-fits cs pl P t))

-- height and nodes are functions of the strip alone: what is told of one strip at two places, with two files of candidates, is the same
pub height-and-nodes-are-the-strips : {Q Q' : Type 0} (cs : Candidates Q) (cs' : Candidates Q') (pl : Place Q) (pl' : Place Q') (P : Strip) (h m h' m' : ℕ) → check_at cs pl P ≡ Judged.fits h m → check_at cs' pl' P ≡ Judged.fits h' m' → (h ≡ h') × (m ≡ m')
height-and-nodes-are-the-strips cs cs' pl pl' P h m h' m' e e' =
    let (t, p, q) = accepted-is-a-proof cs pl P h m e in
    let (u, r, s) = accepted-is-a-proof cs' pl' P h' m' e' in
    (p ∙ sym r, q ∙ sym s)
