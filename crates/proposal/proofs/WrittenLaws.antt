-- What a search writes, the checker accepts: the bytes written, with the same rules, goal and terms, are a strip file that spells the strip found, which is a proof, with the height and nodes that the search told. And what is in the buffer then.
use Prim.Native.Nat.{ℕ, ◌≤◌}
use mathlib.Core.Path.{◌≡◌, refl, sym, ◌∙◌, ap, ap₂, subst}
use mathlib.Core.List.{List}
use native.Mathlib.Omega.{arith}
use lib.ListN.{length, take, drop, length-append, length-drop}
use lib.Seq.{take-append_seam, drop-append_seam}
use Rattle.harrop.specs.Formula.{Strip, height, nodes}
use Rattle.harrop.specs.Proves.{ProvesAt}
use Rattle.harrop.proofs.FirstLaws.{first-proves, first-within}
use Rattle.packet.specs.File.{most_bytes, Books}
use Rattle.packet.specs.Sound.{SoundFile}
use Rattle.packet.specs.Spells.{StripWords}
use Rattle.packet.specs.Written.{strip_sexp}
use Rattle.room.specs.Layout.{words}
use Rattle.room.proofs.StartLaws.{start-number}
use Rattle.judge.specs.declared.Verdict.{Verdict}
use Rattle.judge.specs.declared.Verdict.TheVariants.{Accepted}
use Rattle.judge.specs.Verdict.{verdict_of, Judgement}
use Rattle.judge.proofs.VerdictLaws.{accepted-exactly, accepted-is-derived, Derived}
use Rattle.drawing.specs.Spelled.{written}
use Rattle.proposal.specs.declared.Proposal.TheVariants as P
use Rattle.proposal.specs.Proposed.{Comes, comes_to, proposal, proposal_of, over, left, buffer_after, Paper, paper, Proposes}
use Rattle.proposal.specs.Meaning.{start, offered, Searched, TheFirst, Told, wrote}
use Rattle.drawing.proofs.StripLaws.{proof-words, strip-nests}
use Rattle.proposal.proofs.MeaningLaws.{the-answer-is-the-table's}
use Rattle.proposal.proofs.PaperLaws.{first_of, second_of, third_of, kind_of}

-- a strip that is written: of which packet, and what is known of it
pub record IsWritten (h size room : ℕ) (rs gs ts : List ℕ) (S : Strip) : Type 0 where
  pub books : Books
  pub searched : Searched h room rs gs ts books
  pub is_first : TheFirst h books S
  pub fits : length (written S) ≤ size
  pub short : length (written S) ≤ most_bytes

module _ {h size room : ℕ} {rs gs ts : List ℕ} {S : Strip} where
  is-written : Told h size room rs gs ts (Comes.writes S) → IsWritten h size room rs gs ts S
  is-written (wrote {b = b} s f l m) = record { books = b; searched = s; is_first = f; fits = l; short = m }

  pub what-is-written : comes_to h size room rs gs ts ≡ Comes.writes S → IsWritten h size room rs gs ts S
  what-is-written e = is-written (subst (Told h size room rs gs ts) e (the-answer-is-the-table's h size room rs gs ts))

  module _ (w : IsWritten h size room rs gs ts S) where
    -- it is a proof, within the height
    pub written-proves : ProvesAt (offered w.books) (start w.books) S
    written-proves = first-proves (offered w.books) w.is_first

    pub written_low : height S ≤ h
    written_low = first-within (offered w.books) w.is_first

    -- its bytes are a strip file that reads as it
    written-words : StripWords S
    written-words =
        let b = w.searched.books in
        proof-words (offered w.books) (omega (arith, b.good_candidates.few)) written-proves
        (omega (arith, start-number w.books.rules, b.good_rules.few, written_low, w.searched.low))

    pub written-file : SoundFile strip_sexp StripWords (written S) S
    written-file = record { short = w.short; spelt = refl; flat = omega (arith, strip-nests S, written_low, w.searched.low); words = written-words }

    -- and the checker accepts it, with its height and nodes, in any room that is large enough
    pub written-is-accepted : (n : ℕ) → words ≤ n → verdict_of n rs gs ts (written S) ≡ Accepted (height S) (nodes S)
    written-is-accepted n l =
        (accepted-exactly n rs gs ts (written S) l w.books w.searched.books (height S) (nodes S)).1
        (record { strip = S; spelt = written-file; proves = written-proves; high = refl; many = refl })

-- the buffer: the strip fills its front and the rest keeps its bytes
module _ (w d : List ℕ) where
  pub front-filled : take (length w) (over w d) ≡ w
  unfolding over
  front-filled = take-append_seam w (drop (length w) d)

  pub rest-kept : drop (length w) (over w d) ≡ drop (length w) d
  unfolding over
  rest-kept = drop-append_seam w (drop (length w) d)

  pub length-kept : length w ≤ length d → length (over w d) ≡ length d
  unfolding over
  length-kept l = omega (arith, length-append w (drop (length w) d), length-drop (length w) d)

-- a strip that a call of the search found, and where it stands
pub record FoundStrip (h : ℕ) (rs gs ts d d' room : List ℕ) (i n l : ℕ) : Type 0 where
  pub strip : Strip
  pub comes : comes_to h (length d) (length room) rs gs ts ≡ Comes.writes strip
  pub high : i ≡ height strip
  pub many : n ≡ nodes strip
  pub front : take l d' ≡ written strip

-- what a call of the search found, the checker accepts: the front of the buffer, with the same rules, goal and terms, has the height and nodes that were told
module _ {h : ℕ} {rs gs ts d d' room room' : List ℕ} {i n l : ℕ} (p : Proposes h rs gs ts d d' room room' (P.Found i n l)) where
  -- it was a strip that was written
  of-found : (x : Comes) → comes_to h (length d) (length room) rs gs ts ≡ x → Paper.found i n l ≡ paper (proposal x) → (S : Strip) × (x ≡ Comes.writes S) × (i ≡ height S) × (n ≡ nodes S) × (l ≡ length (written S))
  unfolding proposal
  of-found (Comes.writes S) e q = (S, refl, ap first_of q, ap second_of q, ap third_of q)
  of-found (Comes.refuses r f) e q = absurd (let z : ◌≡◌ {A = ℕ} 0 1 = ap kind_of q in omega arith)

  pub found-strip : FoundStrip h rs gs ts d d' room i n l
  unfolding proposal_of buffer_after left
  found-strip =
      let (S, e, u, v, w) = of-found (comes_to h (length d) (length room) rs gs ts) refl p.answer in
      record {
        strip = S;
        comes = e;
        high = u;
        many = v;
        front = ap (λ (b : List ℕ). take l b) (p.strip ∙ ap (λ (x : Comes). left x d) e) ∙ ap (λ (k : ℕ). take k (over (written S) d)) w ∙ front-filled (written S) d;
      }

  pub found-is-accepted : (m : ℕ) → words ≤ m → verdict_of m rs gs ts (take l d') ≡ Accepted i n
  found-is-accepted m k =
      let f = found-strip in
      ap (verdict_of m rs gs ts) f.front ∙ written-is-accepted (what-is-written f.comes) m k ∙ sym (ap₂ Accepted f.high f.many)

  -- so any call of the checker on it says so
  pub found-is-judged : (before after : List ℕ) (v : Verdict) → words ≤ length before → Judgement rs gs ts (take l d') before after v → v ≡ Accepted i n
  found-is-judged before after v k j = j.verdict ∙ found-is-accepted (length before) k

  -- and the goal has a uniform derivation of Figure 1 from the rules
  pub found-is-derived : Derived rs gs ts
  found-is-derived = accepted-is-derived words rs gs ts (take l d') i n (found-is-accepted words (omega arith))
