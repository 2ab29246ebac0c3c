-- `rest` (src/pieces.rt): each first byte is one law of PieceAtLaws.
use mathlib.Core.Path.{refl, sym, ◌∙◌}
use mathlib.Core.Option.{none}
use lib.ListN.{drop}
use Rattle.fof_tokens.specs.declared.Kind.TheVariants as kind
use Rattle.fof_tokens.specs.declared.first.First.TheVariants as first
use Rattle.fof_tokens.specs.Machine.{token}
use Rattle.fof_tokens.proofs.NumberLaws.{decimal-run}
use Rattle.fof_tokens.proofs.PieceAtLaws.{rest-is, rest-nothing, rest-space, rest-line, rest-slash, rest-word, rest-quote, rest-double-quote, rest-dollar, rest-zero, rest-nonzero, rest-plus, rest-minus, rest-single, rest-double, rest-tilde, rest-less}
use Rattle.fof_tokens.proofs.pieces.rest.Goals as goal

pub quoted_end-requires : goal.quoted_end-requires
quoted_end-requires c = refl

pub returns-in-Nothing : goal.returns-in-Nothing
returns-in-Nothing c =
    let x = c.args in
    rest-nothing x.at x.text.now ∙ rest-is x.f first.Nothing x.at (drop x.at x.text.now) c.in-Nothing.is

pub returns-in-Space : goal.returns-in-Space
returns-in-Space c =
    let x = c.args in
    rest-space x.at x.text.now ∙ rest-is x.f first.Space x.at (drop x.at x.text.now) c.in-Space.is

pub returns-in-Percent : goal.returns-in-Percent
returns-in-Percent c =
    let x = c.args in
    rest-line x.at c.run_end.result x.text.now c.run_end.ensures ∙ rest-is x.f first.Percent x.at (drop x.at x.text.now) c.in-Percent.is

pub returns-in-Slash : goal.returns-in-Slash
returns-in-Slash c =
    let x = c.args in
    c.gap_to.ensures ∙ rest-slash c.block_end.result x.at (drop x.at x.text.now) c.block_end.ensures ∙ rest-is x.f first.Slash x.at (drop x.at x.text.now) c.in-Slash.is

pub returns-in-Letter : goal.returns-in-Letter
returns-in-Letter c =
    let x = c.args in
    rest-word c.in-Letter.kind x.at c.run_end-in-Letter.result x.text.now c.run_end-in-Letter.ensures ∙ rest-is x.f (first.Letter c.in-Letter.kind) x.at (drop x.at x.text.now) c.in-Letter.is

pub returns-in-Quote : goal.returns-in-Quote
returns-in-Quote c =
    let x = c.args in
    c.quoted.ensures ∙ rest-quote x.at (drop x.at x.text.now) ∙ rest-is x.f first.Quote x.at (drop x.at x.text.now) c.in-Quote.is

pub returns-in-DoubleQuote : goal.returns-in-DoubleQuote
returns-in-DoubleQuote c =
    let x = c.args in
    c.token_to.ensures ∙ sym (c.quoted_end.ensures (token kind.Distinct) none) ∙ rest-double-quote x.at (drop x.at x.text.now) ∙ rest-is x.f first.DoubleQuote x.at (drop x.at x.text.now) c.in-DoubleQuote.is

pub returns-in-Dollar : goal.returns-in-Dollar
returns-in-Dollar c =
    let x = c.args in
    c.dollar.ensures ∙ rest-dollar x.at (drop x.at x.text.now) ∙ rest-is x.f first.Dollar x.at (drop x.at x.text.now) c.in-Dollar.is

pub returns-in-Zero : goal.returns-in-Zero
returns-in-Zero c =
    let x = c.args in
    c.number_tail.ensures none ∙ rest-zero x.at (drop x.at x.text.now) ∙ rest-is x.f first.Zero x.at (drop x.at x.text.now) c.in-Zero.is

pub returns-in-Nonzero : goal.returns-in-Nonzero
returns-in-Nonzero c =
    let x = c.args in
    c.number_tail-in-Nonzero.ensures none ∙ decimal-run x.at c.run_end-in-Nonzero.result none none x.text.now c.run_end-in-Nonzero.ensures ∙ rest-nonzero x.at (drop x.at x.text.now) ∙ rest-is x.f first.Nonzero x.at (drop x.at x.text.now) c.in-Nonzero.is

pub returns-in-Plus : goal.returns-in-Plus
returns-in-Plus c =
    let x = c.args in
    c.plus.ensures ∙ rest-plus x.at (drop x.at x.text.now) ∙ rest-is x.f first.Plus x.at (drop x.at x.text.now) c.in-Plus.is

pub returns-in-Minus : goal.returns-in-Minus
returns-in-Minus c =
    let x = c.args in
    c.minus.ensures ∙ rest-minus x.at (drop x.at x.text.now) ∙ rest-is x.f first.Minus x.at (drop x.at x.text.now) c.in-Minus.is

pub returns-in-Single : goal.returns-in-Single
returns-in-Single c =
    let x = c.args in
    rest-single c.in-Single.kind x.at x.text.now ∙ rest-is x.f (first.Single c.in-Single.kind) x.at (drop x.at x.text.now) c.in-Single.is

pub returns-in-Double : goal.returns-in-Double
returns-in-Double c =
    let x = c.args in
    c.one_more.ensures ∙ rest-double c.in-Double.short c.in-Double.more c.in-Double.long x.at (drop x.at x.text.now) ∙ rest-is x.f (first.Double c.in-Double.short c.in-Double.more c.in-Double.long) x.at (drop x.at x.text.now) c.in-Double.is

pub returns-in-Tilde : goal.returns-in-Tilde
returns-in-Tilde c =
    let x = c.args in
    c.tilde.ensures ∙ rest-tilde x.at (drop x.at x.text.now) ∙ rest-is x.f first.Tilde x.at (drop x.at x.text.now) c.in-Tilde.is

pub returns-in-Less : goal.returns-in-Less
returns-in-Less c =
    let x = c.args in
    c.less.ensures ∙ rest-less x.at (drop x.at x.text.now) ∙ rest-is x.f first.Less x.at (drop x.at x.text.now) c.in-Less.is
