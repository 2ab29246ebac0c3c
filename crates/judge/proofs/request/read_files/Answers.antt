-- `read_files` of src/request.rt: the files in turn.
use mathlib.Core.Path.{sym, ◌∙◌}
use Rattle.std.proofs.lemmas.Result.{err_from_is_err_and}
use Rattle.judge.proofs.HalvesLaws.{by-rules, by-goal, by-terms, by-strip, all_read}
use Rattle.judge.proofs.request.read_files.Goals as goal

pub returns-in_err-n : goal.returns-in_err-n
returns-in_err-n c rs ts f =
    let x = c.args in
    let p = err_from_is_err_and c.from_residual.result c.from_residual.ensures.1 in
    rw (p.1, p.2) (by-rules rs x.goal.now ts x.strip.now (sym c.in_err-n.was ∙ f.rules))

pub returns-in_err-read_file : goal.returns-in_err-read_file
returns-in_err-read_file c rs ts f =
    let x = c.args in
    let p = err_from_is_err_and c.from_residual-in_err-read_file.result c.from_residual-in_err-read_file.ensures.1 in
    rw (p.1, p.2) (by-goal rs x.goal.now ts x.strip.now (sym c.in_ok-n.was ∙ f.rules) (sym c.in_err-read_file.was ∙ c.read_file.ensures))

pub returns-in_err-m : goal.returns-in_err-m
returns-in_err-m c rs ts f =
    let x = c.args in
    let p = err_from_is_err_and c.from_residual-in_err-m.result c.from_residual-in_err-m.ensures.1 in
    rw (p.1, p.2) (by-terms rs x.goal.now ts x.strip.now (sym c.in_ok-n.was ∙ f.rules) (sym c.in_ok-read_file.was ∙ c.read_file.ensures) (sym c.in_err-m.was ∙ f.terms))

pub returns-in_err-read_file-2 : goal.returns-in_err-read_file-2
returns-in_err-read_file-2 c rs ts f =
    let x = c.args in
    let p = err_from_is_err_and c.from_residual-in_err-read_file-2.result c.from_residual-in_err-read_file-2.ensures.1 in
    rw (p.1, p.2) (by-strip rs x.goal.now ts x.strip.now (sym c.in_ok-n.was ∙ f.rules) (sym c.in_ok-read_file.was ∙ c.read_file.ensures) (sym c.in_ok-m.was ∙ f.terms) (sym c.in_err-read_file-2.was ∙ c.read_file-2.ensures))

pub returns : goal.returns
returns c rs ts f =
    let x = c.args in
    all_read rs x.goal.now ts x.strip.now (sym c.in_ok-n.was ∙ f.rules) (sym c.in_ok-read_file.was ∙ c.read_file.ensures) (sym c.in_ok-m.was ∙ f.terms) (sym c.in_ok-read_file-2.was ∙ c.read_file-2.ensures)
