-- `begin` (src/first.rt): each class and each byte is one law of BeginLaws.
use mathlib.Core.Path.{sym, ◌∙◌}
use Rattle.fof_tokens.specs.declared.first.First.TheVariants as first
use Rattle.fof_tokens.proofs.BeginLaws.{space-begins, small-begins, capital-begins, nonzero-begins, other_at, other-table, no_other, rest-begins}
use native.Mathlib.Omega.{arith}
use Rattle.fof_tokens.proofs.first.begin.Goals as goal

pub returns-then-is_space : goal.returns-then-is_space
returns-then-is_space c = space-begins c.args.c (sym c.is_space.ensures ∙ c.if-is_space.true)

pub returns-then-is_ascii_lowercase : goal.returns-then-is_ascii_lowercase
returns-then-is_ascii_lowercase c = small-begins c.args.c (sym c.is_ascii_lowercase.ensures.value ∙ c.if-is_ascii_lowercase.true)

pub returns-then-is_ascii_uppercase : goal.returns-then-is_ascii_uppercase
returns-then-is_ascii_uppercase c = capital-begins c.args.c (sym c.is_ascii_uppercase.ensures.value ∙ c.if-is_ascii_uppercase.true)

pub returns-then-is_nonzero : goal.returns-then-is_nonzero
returns-then-is_nonzero c = nonzero-begins c.args.c (sym c.is_nonzero.ensures ∙ c.if-is_nonzero.true)

pub returns-in-37 : goal.returns-in-37
returns-in-37 c = other_at first.Percent 37 c.args.c c.in-37.is other-table.0

pub returns-in-47 : goal.returns-in-47
returns-in-47 c = other_at first.Slash 47 c.args.c c.in-47.is other-table.1

pub returns-in-39 : goal.returns-in-39
returns-in-39 c = other_at first.Quote 39 c.args.c c.in-39.is other-table.2

pub returns-in-34 : goal.returns-in-34
returns-in-34 c = other_at first.DoubleQuote 34 c.args.c c.in-34.is other-table.3

pub returns-in-36 : goal.returns-in-36
returns-in-36 c = other_at first.Dollar 36 c.args.c c.in-36.is other-table.4

pub returns-in-48 : goal.returns-in-48
returns-in-48 c = other_at first.Zero 48 c.args.c c.in-48.is other-table.5

pub returns-in_default : goal.returns-in_default
returns-in_default c =
    let x = c.args.c in
    let y = c.ranges.c.fits in
    rest-begins x c.sign_first.result (omega arith) (sym c.is_space.ensures ∙ c.if-is_space.false) (sym c.is_ascii_lowercase.ensures.value ∙ c.if-is_ascii_lowercase.false) (sym c.is_ascii_uppercase.ensures.value ∙ c.if-is_ascii_uppercase.false) (sym c.is_nonzero.ensures ∙ c.if-is_nonzero.false) (no_other x c.in_default.in_default-own.rest.0.0.0.0.0.1 c.in_default.in_default-own.rest.0.0.0.0.1 c.in_default.in_default-own.rest.0.0.0.1 c.in_default.in_default-own.rest.0.0.1 c.in_default.in_default-own.rest.0.1 c.in_default.in_default-own.rest.1) c.in_default.in_default-own.rest.0.0.0.0.1 c.sign_first.ensures
