-- Rules, goal and terms in turn.
use Prim.Native.Nat.{ℕ}
use mathlib.Core.Path.{sym, ◌∙◌}
use Rattle.std.proofs.lemmas.Result.{err_from_is_err_and}
use Rattle.packet.specs.declared.Kind.TheVariants as K
use Rattle.packet.specs.declared.File.TheVariants as F
use Rattle.reader.specs.Judged.{sound, judged_of, terms_read, goal_read}
use Rattle.reader.proofs.JudgedLaws.{told-refused, told-read, books-are}
use Rattle.reader.proofs.files.read_books.Goals as goal

pub returns-in_err-n : goal.returns-in_err-n
returns-in_err-n c =
    let x = c.args in
    let p = err_from_is_err_and c.from_residual.result c.from_residual.ensures.1 in
    rw (p.1, p.2) (told-refused (judged_of K.Rules x.rules.now) F.Rules (λ (n : ℕ). goal_read n x.goal.now x.terms.now) (sym c.in_err-n.was ∙ c.read_file.ensures) ∙ books-are x.rules.now x.goal.now x.terms.now)

pub returns-in_err-read_file : goal.returns-in_err-read_file
unfolding goal_read
returns-in_err-read_file c =
    let x = c.args in
    let p = err_from_is_err_and c.from_residual-in_err-read_file.result c.from_residual-in_err-read_file.ensures.1 in
    rw (p.1, p.2) (told-refused (judged_of K.Goal x.goal.now) F.Goal (λ (i : ℕ). terms_read c.in_ok-n.n x.terms.now) (sym c.in_err-read_file.was ∙ c.read_file-2.ensures)
    ∙ told-read (judged_of K.Rules x.rules.now) F.Rules (λ (n : ℕ). goal_read n x.goal.now x.terms.now) (sym c.in_ok-n.was ∙ c.read_file.ensures)
    ∙ books-are x.rules.now x.goal.now x.terms.now)

pub returns-in_err-m : goal.returns-in_err-m
unfolding goal_read terms_read
returns-in_err-m c =
    let x = c.args in
    let p = err_from_is_err_and c.from_residual-in_err-m.result c.from_residual-in_err-m.ensures.1 in
    rw (p.1, p.2) (told-refused (judged_of K.Terms x.terms.now) F.Terms (λ (m : ℕ). sound c.in_ok-n.n m) (sym c.in_err-m.was ∙ c.read_file-3.ensures)
    ∙ told-read (judged_of K.Goal x.goal.now) F.Goal (λ (i : ℕ). terms_read c.in_ok-n.n x.terms.now) (sym c.in_ok-read_file.was ∙ c.read_file-2.ensures)
    ∙ told-read (judged_of K.Rules x.rules.now) F.Rules (λ (n : ℕ). goal_read n x.goal.now x.terms.now) (sym c.in_ok-n.was ∙ c.read_file.ensures)
    ∙ books-are x.rules.now x.goal.now x.terms.now)

pub returns : goal.returns
unfolding goal_read terms_read
returns c =
    let x = c.args in
    told-read (judged_of K.Terms x.terms.now) F.Terms (λ (m : ℕ). sound c.in_ok-n.n m) (sym c.in_ok-m.was ∙ c.read_file-3.ensures)
    ∙ told-read (judged_of K.Goal x.goal.now) F.Goal (λ (i : ℕ). terms_read c.in_ok-n.n x.terms.now) (sym c.in_ok-read_file.was ∙ c.read_file-2.ensures)
    ∙ told-read (judged_of K.Rules x.rules.now) F.Rules (λ (n : ℕ). goal_read n x.goal.now x.terms.now) (sym c.in_ok-n.was ∙ c.read_file.ensures)
    ∙ books-are x.rules.now x.goal.now x.terms.now
