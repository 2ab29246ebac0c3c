-- With at least 8,192 words, three files that read and a height of at most 32, in the paper's numbers: 8 exactly if there is no proof within the height, whatever the buffer; found or 10 exactly if there is one; 10 exactly if the first is longer than the buffer or than 16,384 bytes; and found tells the first strip's own height, nodes and length.
use Prim.Native.Nat.{ℕ, ◌≤◌, ◌<◌}
use mathlib.Core.Path.{◌≡◌, refl, sym, ◌∙◌, ap, ap₂}
use mathlib.Core.Bool.{Bool, true, false}
use mathlib.Core.List.{List}
use mathlib.Core.Logic.{◌⊎◌, inl, inr, ◌↔◌}
use native.Mathlib.Omega.{arith}
use lib.Dec.{ltb}
use lib.ListN.{length}
use borrow.Author.Tests.{ltb-true, ltb-false}
use Rattle.harrop.specs.Formula.{Strip, height, nodes}
use Rattle.harrop.proofs.FirstLaws.{first-proves, first-within}
use Rattle.harrop.proofs.Finding.{proof-found, found-is-the-first, whether-provable-within}
use Rattle.packet.specs.declared.Reason.TheVariants as R
use Rattle.packet.specs.declared.File.TheVariants as F
use Rattle.packet.specs.File.{most_bytes, Books}
use Rattle.drawing.specs.Spelled.{written}
use Rattle.proposal.specs.Proposed.{Comes, comes_to, proposal, proposal_of, Paper, paper}
use Rattle.proposal.specs.Meaning.{start, offered, Searched, TheFirst, Provable, no_proof, too_long, wrote}
use Rattle.proposal.proofs.PaperLaws.{first_of, second_of, third_of, kind_of}
use Rattle.proposal.proofs.MeaningLaws.{only-the-table's-is-the-answer}

-- the three ways that a search of files that read can end
data Ways (h size room : ℕ) (rs gs ts : List ℕ) (b : Books) : Type 0 where
  none : (Provable h b → ⊥) → comes_to h size room rs gs ts ≡ Comes.refuses R.NoProof F.None → Ways h size room rs gs ts b
  fits : (S : Strip) → TheFirst h b S → length (written S) ≤ size → length (written S) ≤ most_bytes → comes_to h size room rs gs ts ≡ Comes.writes S → Ways h size room rs gs ts b
  long : (S : Strip) → TheFirst h b S → (size < length (written S)) ⊎ (most_bytes < length (written S)) → comes_to h size room rs gs ts ≡ Comes.refuses R.Buffer F.None → Ways h size room rs gs ts b

module _ (h size room : ℕ) (rs gs ts : List ℕ) (b : Books) (s : Searched h room rs gs ts b) where
  is-long : (S : Strip) → TheFirst h b S → (size < length (written S)) ⊎ (most_bytes < length (written S)) → Ways h size room rs gs ts b
  is-long S f l = Ways.long S f l (only-the-table's-is-the-answer h size room rs gs ts (Comes.refuses R.Buffer F.None) (too_long s f l))

  of-first : (S : Strip) → TheFirst h b S → Ways h size room rs gs ts b
  of-first S f = go (ltb size (length (written S))) (ltb most_bytes (length (written S))) refl refl
    where
      go : (t u : Bool) → ltb size (length (written S)) ≡ t → ltb most_bytes (length (written S)) ≡ u → Ways h size room rs gs ts b
      go true u e g = is-long S f (inl (ltb-true size (length (written S)) e))
      go false true e g = is-long S f (inr (ltb-true most_bytes (length (written S)) g))
      go false false e g =
          let l = ltb-false size (length (written S)) e in
          let m = ltb-false most_bytes (length (written S)) g in
          Ways.fits S f l m (only-the-table's-is-the-answer h size room rs gs ts (Comes.writes S) (wrote s f l m))

  ways : Ways h size room rs gs ts b
  ways = go (whether-provable-within (offered b) h (start b))
    where
      go : Dec (Provable h b) → Ways h size room rs gs ts b
      go (yes p) = let (S, e) = proof-found (offered b) h (start b) p in of-first S (found-is-the-first (offered b) h (start b) S e)
      go (no n) = Ways.none n (only-the-table's-is-the-answer h size room rs gs ts (Comes.refuses R.NoProof F.None) (no_proof s n))

module _ (h size room : ℕ) (rs gs ts : List ℕ) (b : Books) (s : Searched h room rs gs ts b) where
  -- the answer in the paper's numbers
  abbrev pub answer : Paper
  answer = paper (proposal_of h size room rs gs ts)

  says : (x : Comes) → comes_to h size room rs gs ts ≡ x → answer ≡ paper (proposal x)
  unfolding proposal_of
  says x e = ap (λ (y : Comes). paper (proposal y)) e

  says-found : (S : Strip) → comes_to h size room rs gs ts ≡ Comes.writes S → answer ≡ Paper.found (height S) (nodes S) (length (written S))
  unfolding proposal
  says-found S e = says (Comes.writes S) e

  says-eight : comes_to h size room rs gs ts ≡ Comes.refuses R.NoProof F.None → answer ≡ Paper.refused 8 0 0
  unfolding proposal
  says-eight e = says (Comes.refuses R.NoProof F.None) e

  says-ten : comes_to h size room rs gs ts ≡ Comes.refuses R.Buffer F.None → answer ≡ Paper.refused 10 0 0
  unfolding proposal
  says-ten e = says (Comes.refuses R.Buffer F.None) e

  -- the first strip is a proof within the height, and there is a first where there is one
  first-is-within : (S : Strip) → TheFirst h b S → Provable h b
  first-is-within S f = record { strip = S; proves = first-proves (offered b) f; is_low = first-within (offered b) f }

  -- no two lines are the same
  not-both : (i n l m f at : ℕ) → answer ≡ Paper.found i n l → answer ≡ Paper.refused m f at → ⊥
  not-both i n l m f at e g = let z : ◌≡◌ {A = ℕ} 0 1 = ap kind_of (sym e ∙ g) in omega arith

  eight-not-ten : answer ≡ Paper.refused 8 0 0 → answer ≡ Paper.refused 10 0 0 → ⊥
  eight-not-ten e g = let z : ◌≡◌ {A = ℕ} 8 10 = ap first_of (sym e ∙ g) in omega arith

  -- 8 exactly if there is no proof within the height
  pub eight-exactly : answer ≡ Paper.refused 8 0 0 ↔ (Provable h b → ⊥)
  eight-exactly = (to (ways h size room rs gs ts b s), λ n. says-eight (only-the-table's-is-the-answer h size room rs gs ts (Comes.refuses R.NoProof F.None) (no_proof s n)))
    where
      to : Ways h size room rs gs ts b → answer ≡ Paper.refused 8 0 0 → Provable h b → ⊥
      to (Ways.none n e) g = n
      to (Ways.fits S f l m e) g = λ p. not-both (height S) (nodes S) (length (written S)) 8 0 0 (says-found S e) g
      to (Ways.long S f l e) g = λ p. eight-not-ten g (says-ten e)

  -- 10 exactly if the first is longer than the buffer or than a file may be
  pub ten-exactly : answer ≡ Paper.refused 10 0 0 ↔ ((S : Strip) × TheFirst h b S × ((size < length (written S)) ⊎ (most_bytes < length (written S))))
  ten-exactly = (to (ways h size room rs gs ts b s), λ (S, f, l). says-ten (only-the-table's-is-the-answer h size room rs gs ts (Comes.refuses R.Buffer F.None) (too_long s f l)))
    where
      to : Ways h size room rs gs ts b → answer ≡ Paper.refused 10 0 0 → (S : Strip) × TheFirst h b S × ((size < length (written S)) ⊎ (most_bytes < length (written S)))
      to (Ways.none n e) g = absurd (eight-not-ten (says-eight e) g)
      to (Ways.fits S f l m e) g = absurd (not-both (height S) (nodes S) (length (written S)) 10 0 0 (says-found S e) g)
      to (Ways.long S f l e) g = (S, f, l)

  -- found or 10 exactly if there is a proof within the height
  pub found-or-ten-exactly : (((i : ℕ) × (n : ℕ) × (l : ℕ) × (answer ≡ Paper.found i n l)) ⊎ (answer ≡ Paper.refused 10 0 0)) ↔ Provable h b
  found-or-ten-exactly = (to (ways h size room rs gs ts b s), from (ways h size room rs gs ts b s))
    where
      to : Ways h size room rs gs ts b → ((i : ℕ) × (n : ℕ) × (l : ℕ) × (answer ≡ Paper.found i n l)) ⊎ (answer ≡ Paper.refused 10 0 0) → Provable h b
      to (Ways.none n e) (inl (i, m, l, g)) = absurd (not-both i m l 8 0 0 g (says-eight e))
      to (Ways.none n e) (inr g) = absurd (eight-not-ten (says-eight e) g)
      to (Ways.fits S f l m e) g = first-is-within S f
      to (Ways.long S f l e) g = first-is-within S f

      from : Ways h size room rs gs ts b → Provable h b → ((i : ℕ) × (n : ℕ) × (l : ℕ) × (answer ≡ Paper.found i n l)) ⊎ (answer ≡ Paper.refused 10 0 0)
      from (Ways.none n e) p = absurd (n p)
      from (Ways.fits S f l m e) p = inl (height S, nodes S, length (written S), says-found S e)
      from (Ways.long S f l e) p = inr (says-ten e)

  -- found exactly if the first is no longer, and it tells its height, nodes and length
  pub found-exactly : (i n l : ℕ) → answer ≡ Paper.found i n l ↔ ((S : Strip) × TheFirst h b S × (length (written S) ≤ size) × (length (written S) ≤ most_bytes) × (i ≡ height S) × (n ≡ nodes S) × (l ≡ length (written S)))
  found-exactly i n l = (to (ways h size room rs gs ts b s), from)
    where
      to : Ways h size room rs gs ts b → answer ≡ Paper.found i n l → (S : Strip) × TheFirst h b S × (length (written S) ≤ size) × (length (written S) ≤ most_bytes) × (i ≡ height S) × (n ≡ nodes S) × (l ≡ length (written S))
      to (Ways.none x e) g = absurd (not-both i n l 8 0 0 g (says-eight e))
      to (Ways.fits S f y m e) g =
          let z = sym g ∙ says-found S e in
          (S, f, y, m, ap first_of z, ap second_of z, ap third_of z)
      to (Ways.long S f y e) g = absurd (not-both i n l 10 0 0 g (says-ten e))

      from : ((S : Strip) × TheFirst h b S × (length (written S) ≤ size) × (length (written S) ≤ most_bytes) × (i ≡ height S) × (n ≡ nodes S) × (l ≡ length (written S))) → answer ≡ Paper.found i n l
      from (S, f, y, m, p, q, r) = says-found S (only-the-table's-is-the-answer h size room rs gs ts (Comes.writes S) (wrote s f y m)) ∙ sym (ap₂ (λ u v. Paper.found u v l) p q ∙ ap (Paper.found (height S) (nodes S)) r)
