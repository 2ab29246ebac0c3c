-- What a verdict means (demand 2): accepted exactly if the strip is a proof of the goal from the rules, with its height and nodes; refused 7 exactly at the first node
-- that does not fit; accepted, a derivation of Figure 1; and one answer only. Of the definition that the contract of `judge` cites.
use Prim.Native.Nat.{ℕ, ◌≤◌, ◌<◌}
use native.Mathlib.Omega.{arith}
use mathlib.Core.Path.{◌≡◌, refl, sym, ◌∙◌, ap, ap₂, subst}
use mathlib.Core.Bool.{Bool, true, false}
use mathlib.Core.List.{List, map}
use mathlib.Core.Logic.{◌↔◌}
use mathlib.Core.Option.{Option, none, some}
use lib.Dec.{ltb}
use lib.ListN.{length, replicate}
use borrow.Author.Tests.{lt-ltb, le-ltb, ltb-true, ltb-false}
use Rattle.harrop.specs.Formula.{Strip, height, nodes}
use Rattle.harrop.specs.Place.{Plain, listed, root}
use Rattle.harrop.specs.Position.{Position}
use Rattle.harrop.specs.Proves.{ProvesAt}
use Rattle.harrop.specs.Fits.{FirstMisfit}
use Rattle.harrop.specs.Check.{Judged}
use Rattle.harrop.proofs.Judgement.{accepted-is-a-proof, proof-is-accepted, named-is-the-first-misfit, first-misfit-is-named}
use Rattle.calculus.specs.Formula.{Formula}
use Rattle.calculus.specs.Multiset.{◌≈◌}
use Rattle.calculus.specs.Uniform.{UniformProof}
use Rattle.calculus.specs.Translation.{goal_formula, clause_formula}
use Rattle.calculus.specs.Packet.{packet_signature}
use Rattle.calculus.proofs.RootDerived.{accepted-derived}
use Rattle.packet.specs.declared.Kind.{Kind}
use Rattle.packet.specs.declared.Reason.{Reason}
use Rattle.packet.specs.declared.Reason.TheVariants as R
use Rattle.packet.specs.declared.File.{File}
use Rattle.packet.specs.declared.File.TheVariants as F
use Rattle.packet.specs.Numbers.{reason_number}
use Rattle.packet.specs.Written.{strip_sexp}
use Rattle.packet.specs.Spells.{StripWords}
use Rattle.packet.specs.Offset.{offset_of}
use Rattle.packet.specs.File.{Outcome, Books, Packet, packet_of}
use Rattle.packet.specs.Refusal.{Refusal, too_long, not_one, too_deep, not_built, too_many, is_barred, sound}
use Rattle.packet.specs.Sound.{SoundFile, SoundBooks, SoundPacket, RefusedBooks, RefusedPacket, by_rules, by_goal, by_terms, by_books, by_strip}
use Rattle.packet.proofs.PacketLaws.{books-only, packet-only, packet-exactly}
use Rattle.room.specs.Layout.{words}
use Rattle.room.proofs.StartLaws.{cleared, untouched}
use Rattle.judge.specs.declared.Verdict.{Verdict}
use Rattle.judge.specs.declared.Verdict.TheVariants as Ver
use Rattle.judge.specs.Verdict.{judgement_of, judged_as, files_verdict, verdict_of, paper, Judgement}
use Rattle.judge.proofs.FairLaws.{read-is-fair}

-- with room enough the files decide, and else 11
pub room-enough : (n : ℕ) (rs gs ts ss : List ℕ) → words ≤ n → verdict_of n rs gs ts ss ≡ files_verdict (packet_of rs gs ts ss)
unfolding verdict_of
room-enough n rs gs ts ss l = rw (le-ltb n words l) refl

pub room-short : (n : ℕ) (rs gs ts ss : List ℕ) → n < words → verdict_of n rs gs ts ss ≡ Ver.Refused R.Room F.None 0
unfolding verdict_of
room-short n rs gs ts ss l = rw (lt-ltb n words l) refl

-- the promise of a call, with room enough and without
pub judgement-long : (rs gs ts ss before after : List ℕ) (v : Verdict) → words ≤ length before → v ≡ files_verdict (packet_of rs gs ts ss) → after ≡ replicate (length before) 0 → Judgement rs gs ts ss before after v
judgement-long rs gs ts ss before after v l e z =
    let q = e ∙ sym (room-enough (length before) rs gs ts ss l) in
    record { verdict = q; numbers = ap paper q; room = z ∙ sym (cleared before l) }

pub judgement-short : (rs gs ts ss room : List ℕ) → length room < words → Judgement rs gs ts ss room room (Ver.Refused R.Room F.None 0)
judgement-short rs gs ts ss room l =
    let q = sym (room-short (length room) rs gs ts ss l) in
    record { verdict = q; numbers = ap paper q; room = sym (untouched room l) }

-- any two results for one input are equal, the room included
pub one-judgement : (rs gs ts ss room a b : List ℕ) (v w : Verdict) → Judgement rs gs ts ss room a v → Judgement rs gs ts ss room b w → (v ≡ w) × (a ≡ b)
one-judgement rs gs ts ss room a b v w x y = (x.verdict ∙ sym y.verdict, x.room ∙ sym y.room)

-- no verdict is another
accepted-not-refused : {h n o : ℕ} {r : Reason} {f : File} → Ver.Accepted h n ≡ Ver.Refused r f o → ⊥
accepted-not-refused e = let z : ◌≡◌ {A = ℕ} 0 1 = cc in omega arith

-- an accepted packet was read, and its strip judged to fit
pub record AcceptedPacket (rs gs ts ss : List ℕ) (h n : ℕ) : Type 0 where
  pub packet : Packet
  pub read : SoundPacket rs gs ts ss packet
  pub fits : judgement_of packet ≡ Judged.fits h n

files-accepted : (rs gs ts ss : List ℕ) (h n : ℕ) → files_verdict (packet_of rs gs ts ss) ≡ Ver.Accepted h n → AcceptedPacket rs gs ts ss h n
files-accepted rs gs ts ss h n e = go (packet_of rs gs ts ss) refl e
  where
    on : (P : Strip) (j : Judged) → judged_as P j ≡ Ver.Accepted h n → j ≡ Judged.fits h n
    on P (Judged.fits a b) q = cc
    on P (Judged.misfit at) q = absurd (accepted-not-refused (sym q))

    go : (o : Outcome Packet) → packet_of rs gs ts ss ≡ o → files_verdict o ≡ Ver.Accepted h n → AcceptedPacket rs gs ts ss h n
    go (Outcome.sound p) s q = record { packet = p; read = (packet-exactly rs gs ts ss (Outcome.sound p)).0 s; fits = on p.strip (judgement_of p) q }
    go (Outcome.refused r f at) s q = absurd (accepted-not-refused (sym q))

-- the room was large enough
room-was-enough : (n : ℕ) (rs gs ts ss : List ℕ) {h m : ℕ} → verdict_of n rs gs ts ss ≡ Ver.Accepted h m → words ≤ n
room-was-enough n rs gs ts ss {h} {m} e = go (ltb n words) refl
  where
    go : (b : Bool) → ltb n words ≡ b → words ≤ n
    go true q = absurd (accepted-not-refused {h = h} {n = m} (sym e ∙ room-short n rs gs ts ss (ltb-true n words q)))
    go false q = ltb-false n words q

pub accepted-packet : (n : ℕ) (rs gs ts ss : List ℕ) (h m : ℕ) → verdict_of n rs gs ts ss ≡ Ver.Accepted h m → AcceptedPacket rs gs ts ss h m
accepted-packet n rs gs ts ss h m e =
    files-accepted rs gs ts ss h m (sym (room-enough n rs gs ts ss (room-was-enough n rs gs ts ss e)) ∙ e)

-- files read one way only
sound-one : {A : Type 0} (a b : A) → Outcome.sound a ≡ Outcome.sound b → a ≡ b
sound-one a b e = cc

books-one : {rs gs ts : List ℕ} (a b : Books) → SoundBooks rs gs ts a → SoundBooks rs gs ts b → a ≡ b
books-one {rs} {gs} {ts} a b x y = sound-one a b (sym (books-only rs gs ts (Outcome.sound a) x) ∙ books-only rs gs ts (Outcome.sound b) y)

-- the strip file spells a proof of this height with so many nodes
pub record Proof (ss : List ℕ) (b : Books) (h m : ℕ) : Type 0 where
  pub strip : Strip
  pub spelt : SoundFile strip_sexp StripWords ss strip
  pub proves : ProvesAt (listed b.candidates) (root b.rules b.goal) strip
  pub high : height strip ≡ h
  pub many : nodes strip ≡ m

-- the strip file spells a strip whose first node that does not fit stands at this offset
pub record Misfitting (ss : List ℕ) (b : Books) (o : ℕ) : Type 0 where
  pub strip : Strip
  pub spelt : SoundFile strip_sexp StripWords ss strip
  pub position : Position
  pub first : FirstMisfit (listed b.candidates) (root b.rules b.goal) strip position
  pub there : offset_of strip position ≡ o

-- a strip file is refused for none of the reasons from 7 on
unfoldable reason_in : Option (Reason × ℕ) → ℕ
reason_in none = 0
reason_in (some r) = reason_number r.0

never-seven : (k : Kind) (s : List ℕ) (x : Option (Reason × ℕ)) → Refusal k s x → reason_in x < 7
unfolding reason_in
never-seven k s x (too_long l) = omega arith
never-seven k s x (not_one l u v) = omega arith
never-seven k s x (too_deep l y w d) = omega arith
never-seven k s x (not_built c t g) = omega arith
never-seven k s x (too_many c t m) = omega arith
never-seven k s x (is_barred c t f b) = omega arith
never-seven k s x (sound c t f u) = omega arith

books-never-seven : {rs gs ts : List ℕ} {r : Reason} {f : File} {at : ℕ} → RefusedBooks rs gs ts r f at → reason_number r < 7
unfolding reason_in
books-never-seven (by_rules u) = never-seven _ _ _ u
books-never-seven (by_goal a u) = never-seven _ _ _ u
books-never-seven (by_terms a b u) = never-seven _ _ _ u

packet-never-seven : {rs gs ts ss : List ℕ} {r : Reason} {f : File} {at : ℕ} → RefusedPacket rs gs ts ss r f at → reason_number r < 7
unfolding reason_in
packet-never-seven (by_books u) = books-never-seven u
packet-never-seven (by_strip a b c u) = never-seven _ _ _ u

module _ (n : ℕ) (rs gs ts ss : List ℕ) (l : words ≤ n) (b : Books) (reads : SoundBooks rs gs ts b) where
  whole : (P : Strip) → SoundFile strip_sexp StripWords ss P → verdict_of n rs gs ts ss ≡ judged_as P (judgement_of (record { books = b; strip = P }))
  whole P s =
      room-enough n rs gs ts ss l
      ∙ ap files_verdict (packet-only rs gs ts ss (Outcome.sound (record { books = b; strip = P })) (record { books = reads; strip = s }))

  -- accepted h m exactly if the strip file spells a proof at the root place, with height h and m nodes
  pub accepted-exactly : (h m : ℕ) → verdict_of n rs gs ts ss ≡ Ver.Accepted h m ↔ Proof ss b h m
  accepted-exactly h m = (there, back)
    where
      there : verdict_of n rs gs ts ss ≡ Ver.Accepted h m → Proof ss b h m
      there e =
          let a = accepted-packet n rs gs ts ss h m e in
          let p = a.packet in
          let q = books-one p.books b a.read.books reads in
          let (t, u, v) = accepted-is-a-proof (listed p.books.candidates) (root p.books.rules p.books.goal) p.strip h m a.fits in
          record {
            strip = p.strip;
            spelt = a.read.strip;
            proves = subst (λ (x : Books). ProvesAt (listed x.candidates) (root x.rules x.goal) p.strip) q t;
            high = sym u;
            many = sym v;
          }

      back : Proof ss b h m → verdict_of n rs gs ts ss ≡ Ver.Accepted h m
      back x =
          whole x.strip x.spelt
          ∙ ap (judged_as x.strip) (proof-is-accepted (listed b.candidates) (root b.rules b.goal) x.strip x.proves)
          ∙ ap₂ Ver.Accepted x.high x.many

  -- refused 7 at o exactly if the node at o is the first, in file order, that does not fit
  pub misfit-exactly : (o : ℕ) → verdict_of n rs gs ts ss ≡ Ver.Refused R.Misfit F.Strip o ↔ Misfitting ss b o
  misfit-exactly o = (λ e. there (packet_of rs gs ts ss) refl (sym (room-enough n rs gs ts ss l) ∙ e), back)
    where
      on : (p : Packet) → SoundPacket rs gs ts ss p → (j : Judged) → judgement_of p ≡ j → judged_as p.strip j ≡ Ver.Refused R.Misfit F.Strip o → Misfitting ss b o
      on p s (Judged.fits h m) q e = absurd (accepted-not-refused e)
      on p s (Judged.misfit at) q e =
          record {
            strip = p.strip;
            spelt = s.strip;
            position = at;
            first =
                subst (λ (x : Books). FirstMisfit (listed x.candidates) (root x.rules x.goal) p.strip at) (books-one p.books b s.books reads)
                (named-is-the-first-misfit (listed p.books.candidates) (root p.books.rules p.books.goal) p.strip at q);
            there = cc;
          }

      there : (x : Outcome Packet) → packet_of rs gs ts ss ≡ x → files_verdict x ≡ Ver.Refused R.Misfit F.Strip o → Misfitting ss b o
      there (Outcome.sound p) s e = on p ((packet-exactly rs gs ts ss (Outcome.sound p)).0 s) (judgement_of p) refl e
      there (Outcome.refused r f at) s e =
          let k = packet-never-seven ((packet-exactly rs gs ts ss (Outcome.refused r f at)).0 s) in
          let q : r ≡ R.Misfit = cc in
          let z : reason_number r ≡ 7 = ap reason_number q in
          absurd (omega arith)

      back : Misfitting ss b o → verdict_of n rs gs ts ss ≡ Ver.Refused R.Misfit F.Strip o
      back x =
          whole x.strip x.spelt
          ∙ ap (judged_as x.strip) (first-misfit-is-named (listed b.candidates) (root b.rules b.goal) x.strip x.position x.first)
          ∙ ap (Ver.Refused R.Misfit F.Strip) x.there

-- refused 1 to 6 as the first file that the table refuses is, with place 0
pub refused-files : (n : ℕ) (rs gs ts ss : List ℕ) → words ≤ n → (r : Reason) (f : File) (at : ℕ) → RefusedPacket rs gs ts ss r f at → verdict_of n rs gs ts ss ≡ Ver.Refused r f 0
refused-files n rs gs ts ss l r f at h = room-enough n rs gs ts ss l ∙ ap files_verdict (packet-only rs gs ts ss (Outcome.refused r f at) h)

-- from "accepted" alone: a uniform derivation of Figure 1 without cut, rules on the left in any order and goal on the right
pub record Derived (rs gs ts : List ℕ) : Type 1 where
  pub books : Books
  pub read : SoundBooks rs gs ts books
  pub derived : (Γ : List (Formula Plain)) → Γ ≈ map clause_formula books.rules → UniformProof (packet_signature books.rules books.goal books.candidates) Γ (goal_formula books.goal)

pub accepted-is-derived : (n : ℕ) (rs gs ts ss : List ℕ) (h m : ℕ) → verdict_of n rs gs ts ss ≡ Ver.Accepted h m → Derived rs gs ts
accepted-is-derived n rs gs ts ss h m e =
    let a = accepted-packet n rs gs ts ss h m e in
    let b = a.packet.books in
    record {
      books = b;
      read = a.read.books;
      derived = accepted-derived b.rules b.goal b.candidates (read-is-fair b a.read.books) a.packet.strip h m a.fits;
    }
