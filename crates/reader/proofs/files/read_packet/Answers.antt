-- The books, and then the strip.
use Prim.Native.Nat.{ℕ}
use mathlib.Core.Path.{sym, ◌∙◌}
use Rattle.std.proofs.lemmas.Result.{err_from_is_err_and}
use Rattle.packet.specs.declared.Kind.TheVariants as K
use Rattle.packet.specs.declared.File.TheVariants as F
use Rattle.reader.specs.Judged.{sound, judged_of, strip_read}
use Rattle.reader.proofs.JudgedLaws.{told-refused, told-read, packet-refused, packet-read}
use Rattle.reader.proofs.files.read_packet.Goals as goal

pub returns-in_err-counts : goal.returns-in_err-counts
returns-in_err-counts c =
    let x = c.args in
    let p = err_from_is_err_and c.from_residual.result c.from_residual.ensures.1 in
    rw (p.1, p.2) (packet-refused x.rules.now x.goal.now x.terms.now x.strip.now c.read_books.result c.read_books.ensures c.in_err-counts.was)

pub returns-in_err-read_file : goal.returns-in_err-read_file
unfolding strip_read
returns-in_err-read_file c =
    let x = c.args in
    let d = c.in_ok-counts.counts in
    let p = err_from_is_err_and c.from_residual-in_err-read_file.result c.from_residual-in_err-read_file.ensures.1 in
    rw (p.1, p.2) (told-refused (judged_of K.Strip x.strip.now) F.Strip (λ (i : ℕ). sound d.rules d.candidates) (sym c.in_err-read_file.was ∙ c.read_file.ensures)
    ∙ packet-read x.rules.now x.goal.now x.terms.now x.strip.now c.read_books.result c.read_books.ensures c.in_ok-counts.was)

pub returns : goal.returns
unfolding strip_read
returns c =
    let x = c.args in
    let d = c.in_ok-counts.counts in
    told-read (judged_of K.Strip x.strip.now) F.Strip (λ (i : ℕ). sound d.rules d.candidates) (sym c.in_ok-read_file.was ∙ c.read_file.ensures)
    ∙ packet-read x.rules.now x.goal.now x.terms.now x.strip.now c.read_books.result c.read_books.ensures c.in_ok-counts.was
