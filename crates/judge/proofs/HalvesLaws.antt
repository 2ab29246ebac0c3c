-- The two halves make one judgement: the files' refusals come in turn whichever half reads them.
use Prim.Native.Nat.{ℕ, ◌≤◌}
use native.Mathlib.Omega.{arith}
use mathlib.Core.Path.{◌≡◌, refl, sym, ◌∙◌, ap}
use mathlib.Core.List.{List}
use lib.ListN.{length}
use Rattle.std.specs.Prelude.{Result, Ok, Err}
use Rattle.packet.specs.declared.Kind.TheVariants as K
use Rattle.packet.specs.declared.File.TheVariants as F
use Rattle.packet.specs.File.{Outcome, Packet, books_of, packet_of}
use Rattle.reader.specs.declared.files.Counts.{Counts}
use Rattle.reader.specs.declared.files.Refusal.{Refusal}
use Rattle.reader.specs.Judged.{sound, of_file, judged_of, terms_read, goal_read, strip_read, books_read, packet_read}
use Rattle.reader.proofs.JudgedLaws.{told-refused, told-read, books-are, packet-refused, packet-read}
use Rattle.packet.proofs.PacketLaws.{packet-exactly}
use Rattle.room.specs.Files.{Files}
use Rattle.room.specs.Layout.{words}
use Rattle.room.specs.Start.{Tabled}
use Rattle.judge.specs.declared.Verdict.{Verdict}
use Rattle.judge.specs.declared.Verdict.TheVariants as Ver
use Rattle.judge.specs.declared.request.Books.{Books}
use Rattle.judge.specs.Verdict.{files_verdict}
use Rattle.judge.specs.Halves.{Opens, Stripping, Requests}

-- the first half
pub opens : (rs ts before after : List ℕ) (b : Books) → b.rules ≡ of_file (judged_of K.Rules rs) F.Rules → b.terms ≡ of_file (judged_of K.Terms ts) F.Terms → (words ≤ length before → Tabled after rs ts) → Opens rs ts before after b
opens rs ts before after b u v t = record { found = record { rules = u; terms = v }; tables = t }

-- the files in turn, each told with its file
module _ (rs gs ts ss : List ℕ) where
  pub by-rules : {x : Refusal} → Err x ≡ of_file (judged_of K.Rules rs) F.Rules → Err x ≡ packet_read (packet_of rs gs ts ss)
  by-rules {x} v = packet-refused rs gs ts ss (Err x) (told-refused (judged_of K.Rules rs) F.Rules (λ n. goal_read n gs ts) v ∙ books-are rs gs ts) refl

  module _ {n : ℕ} (u : Ok n ≡ of_file (judged_of K.Rules rs) F.Rules) where
    after-rules : goal_read n gs ts ≡ books_read (books_of rs gs ts)
    after-rules = told-read (judged_of K.Rules rs) F.Rules (λ i. goal_read i gs ts) u ∙ books-are rs gs ts

    pub by-goal : {x : Refusal} → Err x ≡ of_file (judged_of K.Goal gs) F.Goal → Err x ≡ packet_read (packet_of rs gs ts ss)
    unfolding goal_read
    by-goal {x} v = packet-refused rs gs ts ss (Err x) (told-refused (judged_of K.Goal gs) F.Goal (λ i. terms_read n ts) v ∙ after-rules) refl

    module _ {i : ℕ} (v : Ok i ≡ of_file (judged_of K.Goal gs) F.Goal) where
      after-goal : terms_read n ts ≡ books_read (books_of rs gs ts)
      unfolding goal_read
      after-goal = told-read (judged_of K.Goal gs) F.Goal (λ k. terms_read n ts) v ∙ after-rules

      pub by-terms : {x : Refusal} → Err x ≡ of_file (judged_of K.Terms ts) F.Terms → Err x ≡ packet_read (packet_of rs gs ts ss)
      unfolding terms_read
      by-terms {x} w = packet-refused rs gs ts ss (Err x) (told-refused (judged_of K.Terms ts) F.Terms (λ m. sound n m) w ∙ after-goal) refl

      module _ {m : ℕ} (w : Ok m ≡ of_file (judged_of K.Terms ts) F.Terms) where
        after-terms : strip_read n m ss ≡ packet_read (packet_of rs gs ts ss)
        unfolding terms_read
        after-terms = packet-read rs gs ts ss (sound n m) (told-read (judged_of K.Terms ts) F.Terms (λ k. sound n k) w ∙ after-goal) refl

        pub by-strip : {x : Refusal} → Err x ≡ of_file (judged_of K.Strip ss) F.Strip → Err x ≡ packet_read (packet_of rs gs ts ss)
        unfolding strip_read
        by-strip y = told-refused (judged_of K.Strip ss) F.Strip (λ k. sound n m) y ∙ after-terms

        pub all_read : {k : ℕ} → Ok k ≡ of_file (judged_of K.Strip ss) F.Strip → sound n m ≡ packet_read (packet_of rs gs ts ss)
        unfolding strip_read
        all_read y = told-read (judged_of K.Strip ss) F.Strip (λ z. sound n m) y ∙ after-terms

-- the second half, by what the files come to
refused-by : (o : Outcome Packet) {x : Refusal} → Err x ≡ packet_read o → Ver.Refused x.reason x.file 0 ≡ files_verdict o
refused-by (Outcome.sound p) e = let z : ◌≡◌ {A = ℕ} 0 1 = cc in absurd (omega arith)
refused-by (Outcome.refused r f at) {x} e = let z : x ≡ record { reason = r; file = f; place = at } = cc in ap (λ (y : Refusal). Ver.Refused y.reason y.file 0) z

module _ (f : Files) (ss : List ℕ) (x : Result Counts Refusal) (e : x ≡ packet_read (packet_of f.rules f.goal f.terms ss)) where
  pub request-refused : (room : List ℕ) {y : Refusal} → x ≡ Err y → Requests f ss room room (Ver.Refused y.reason y.file 0)
  request-refused room q = record { verdict = refused-by (packet_of f.rules f.goal f.terms ss) (sym q ∙ e); kept = λ i l. refl }

  pub request-judged : (before after : List ℕ) (v : Verdict) {d : Counts} → x ≡ Ok d → ((p : Packet) → packet_of f.rules f.goal f.terms ss ≡ Outcome.sound p → Requests f ss before after v) → Requests f ss before after v
  request-judged before after v {d} q k = go (packet_of f.rules f.goal f.terms ss) refl
    where
      go : (o : Outcome Packet) → packet_of f.rules f.goal f.terms ss ≡ o → Requests f ss before after v
      go (Outcome.sound p) h = k p h
      go (Outcome.refused r g at) h = let z : Ok d ≡ packet_read (Outcome.refused r g at) = sym q ∙ e ∙ ap packet_read h in let u : ◌≡◌ {A = ℕ} 0 1 = cc in absurd (omega arith)

pub strip-judged : (f : Files) (ss before after : List ℕ) (v : Verdict) → Stripping f ss before after v → words ≤ length before → Tabled before f.rules f.terms → (p : Packet) → packet_of f.rules f.goal f.terms ss ≡ Outcome.sound p → Requests f ss before after v
strip-judged f ss before after v s l t p h =
    let d = s p ((packet-exactly f.rules f.goal f.terms ss (Outcome.sound p)).0 h) l t in
    record { verdict = d.verdict ∙ ap files_verdict (sym h); kept = d.kept }
