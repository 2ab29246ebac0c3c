-- The root place of a packet that is read is ready for the walk (document 01, "When a strip fits": it starts with the goal file, the rules in file order numbered
-- from 0, and p = 0), and the walk's answer there is the verdict.
use Rattle.std.specs.Prelude.{Result, Ok, Err}
use Prim.Native.Nat.{ℕ, ◌+◌, ◌≤◌}
use native.Mathlib.Omega.{arith}
use mathlib.Core.Path.{◌≡◌, sym, ◌∙◌, ap, ap₂, subst}
use mathlib.Core.List.{List, []}
use lib.ListN.{length}
use Rattle.harrop.specs.Formula.{Strip}
use Rattle.harrop.specs.Place.{at_start}
use Rattle.harrop.specs.Check.{Judged}
use Rattle.sexp.proofs.StandLaws.{whole-stands}
use Rattle.packet.specs.declared.Reason.TheVariants as R
use Rattle.packet.specs.declared.File.TheVariants as F
use Rattle.packet.specs.File.{Packet}
use Rattle.packet.specs.Sound.{SoundPacket}
use Rattle.room.specs.Files.{Files, files_of}
use Rattle.room.specs.Layout.{words}
use Rattle.room.specs.declared.Where.{Where}
use Rattle.room.specs.Start.{start, Tabled}
use Rattle.room.proofs.StartLaws.{root-means}
use Rattle.room.proofs.EnoughLaws.{enough-at-start}
use Rattle.uses.specs.declared.Fit.{Fit}
use Rattle.judge.specs.declared.Verdict.TheVariants as Ver
use Rattle.uses.proofs.WalkLaws.{fit-parts}
use Rattle.uses.specs.Walk.{Ready, Judging, outcome}
use Rattle.judge.specs.Verdict.{judgement_of, judged_as}
use Rattle.judge.specs.Halves.{Stripping}

module _ {rs gs ts ss room : List ℕ} (p : Packet) (s : SoundPacket rs gs ts ss p) (long : words ≤ length room) (t : Tabled room rs ts) where
  pub root-ready : Ready (files_of rs gs ts) ss room p.books.rules p.books.candidates start 0 64 p.strip [] (at_start p.books.rules) [] p.books.goal
  root-ready =
      record {
        place = root-means p.books s.books t;
        small = s.strip.short;
        stands = whole-stands s.strip.spelt;
        nests = s.strip.flat;
        enough = enough-at-start 64 (omega arith);
        long = long;
      }

-- what the walk says of the whole strip, as a verdict
fits-verdict : (P : Strip) (j : Judged) {x : Fit} → Ok x ≡ outcome 0 P j → Ver.Accepted x.height x.nodes ≡ judged_as P j
fits-verdict P (Judged.fits h n) e = let a = fit-parts e in ap₂ Ver.Accepted a.1.0 a.1.1
fits-verdict P (Judged.misfit at) e = let z : ◌≡◌ {A = ℕ} 0 1 = cc in absurd (omega arith)

misfit-verdict : (P : Strip) (j : Judged) {o : ℕ} → Err o ≡ outcome 0 P j → Ver.Refused R.Misfit F.Strip o ≡ judged_as P j
misfit-verdict P (Judged.fits h n) e = let z : ◌≡◌ {A = ℕ} 0 1 = cc in absurd (omega arith)
misfit-verdict P (Judged.misfit at) {o} e = ap (Ver.Refused R.Misfit F.Strip) (go e)
  where
    go : {a b : ℕ} → ◌≡◌ {A = Result Fit ℕ} (Err a) (Err (0 + b)) → a ≡ b
    go {a} {b} q = let z : a ≡ 0 + b = cc in omega arith

module _ (f : Files) (ss before after : List ℕ) (w : Where) (r : Result Fit ℕ) (e : w ≡ start) (j : Judging f ss before after 0 w 64 r) where
  from_start : Judging f ss before after 0 start 64 r
  from_start = subst (λ (x : Where). Judging f ss before after 0 x 64 r) e j

  pub strip-fits : {x : Fit} → r ≡ Ok x → Stripping f ss before after (Ver.Accepted x.height x.nodes)
  strip-fits q p s l t =
      let d = from_start p.books.rules p.books.candidates p.strip [] (at_start p.books.rules) [] p.books.goal (root-ready p s l t) in
      record { verdict = fits-verdict p.strip (judgement_of p) (sym q ∙ d.answer); kept = d.kept }

  pub strip-misfits : {o : ℕ} → r ≡ Err o → Stripping f ss before after (Ver.Refused R.Misfit F.Strip o)
  strip-misfits q p s l t =
      let d = from_start p.books.rules p.books.candidates p.strip [] (at_start p.books.rules) [] p.books.goal (root-ready p s l t) in
      record { verdict = misfit-verdict p.strip (judgement_of p) (sym q ∙ d.answer); kept = d.kept }
