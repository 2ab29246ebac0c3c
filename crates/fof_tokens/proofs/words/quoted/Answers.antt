-- `quoted` (src/words.rt): a quote at once, or text.
use mathlib.Core.Path.{refl, sym, ◌∙◌}
use mathlib.Core.Option.{none}
use Rattle.fof_tokens.specs.declared.Kind.TheVariants.{Quoted}
use Rattle.fof_tokens.specs.Machine.{token}
use Rattle.fof_tokens.proofs.WordLaws.{quote-empty, quote-as}
use Rattle.fof_tokens.proofs.words.quoted.Goals as goal

pub returns-then-byte-eq39 : goal.returns-then-byte-eq39
returns-then-byte-eq39 c = let x = c.args in quote-empty x.at x.text.now (sym c.byte.ensures ∙ c.if-byte-eq39.true)

pub quoted_end-requires : goal.quoted_end-requires
quoted_end-requires c = refl

pub returns : goal.returns
returns c = let x = c.args in c.token_to.ensures ∙ sym (c.quoted_end.ensures (token Quoted) none) ∙ quote-as x.at x.text.now (λ z. c.if-byte-eq39.false (c.byte.ensures ∙ z))
