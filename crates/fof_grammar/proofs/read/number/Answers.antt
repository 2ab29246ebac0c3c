use mathlib.Core.Path.{ap, sym, ◌∙◌}
use Rattle.fof_tokens.specs.declared.Kind.{Kind}
use Rattle.fof_productions.specs.Terminal.{terminal, code}
use Rattle.fof_grammar.proofs.read.number.Goals as goal

pub returns-in-Lower : goal.returns-in-Lower
returns-in-Lower c = c.lower_word.ensures ∙ ap (λ (k : Kind). code (terminal k c.args.w.now)) (sym c.in-Lower.is)

pub returns-in-Dollar : goal.returns-in-Dollar
returns-in-Dollar c = c.dollar_word.ensures ∙ ap (λ (k : Kind). code (terminal k c.args.w.now)) (sym c.in-Dollar.is)

pub returns-in-Quoted : goal.returns-in-Quoted
returns-in-Quoted c = ap (λ (k : Kind). code (terminal k c.args.w.now)) (sym c.in-Quoted.is)

pub returns-in-Upper : goal.returns-in-Upper
returns-in-Upper c = ap (λ (k : Kind). code (terminal k c.args.w.now)) (sym c.in-Upper.is)

pub returns-in-Distinct : goal.returns-in-Distinct
returns-in-Distinct c = ap (λ (k : Kind). code (terminal k c.args.w.now)) (sym c.in-Distinct.is)

pub returns-in-DoubleDollar : goal.returns-in-DoubleDollar
returns-in-DoubleDollar c = ap (λ (k : Kind). code (terminal k c.args.w.now)) (sym c.in-DoubleDollar.is)

pub returns-in-Integer : goal.returns-in-Integer
returns-in-Integer c = ap (λ (k : Kind). code (terminal k c.args.w.now)) (sym c.in-Integer.is)

pub returns-in-Rational : goal.returns-in-Rational
returns-in-Rational c = ap (λ (k : Kind). code (terminal k c.args.w.now)) (sym c.in-Rational.is)

pub returns-in-Real : goal.returns-in-Real
returns-in-Real c = ap (λ (k : Kind). code (terminal k c.args.w.now)) (sym c.in-Real.is)

pub returns-in-OpenParen : goal.returns-in-OpenParen
returns-in-OpenParen c = ap (λ (k : Kind). code (terminal k c.args.w.now)) (sym c.in-OpenParen.is)

pub returns-in-CloseParen : goal.returns-in-CloseParen
returns-in-CloseParen c = ap (λ (k : Kind). code (terminal k c.args.w.now)) (sym c.in-CloseParen.is)

pub returns-in-OpenBracket : goal.returns-in-OpenBracket
returns-in-OpenBracket c = ap (λ (k : Kind). code (terminal k c.args.w.now)) (sym c.in-OpenBracket.is)

pub returns-in-CloseBracket : goal.returns-in-CloseBracket
returns-in-CloseBracket c = ap (λ (k : Kind). code (terminal k c.args.w.now)) (sym c.in-CloseBracket.is)

pub returns-in-OpenBrace : goal.returns-in-OpenBrace
returns-in-OpenBrace c = ap (λ (k : Kind). code (terminal k c.args.w.now)) (sym c.in-OpenBrace.is)

pub returns-in-CloseBrace : goal.returns-in-CloseBrace
returns-in-CloseBrace c = ap (λ (k : Kind). code (terminal k c.args.w.now)) (sym c.in-CloseBrace.is)

pub returns-in-Comma : goal.returns-in-Comma
returns-in-Comma c = ap (λ (k : Kind). code (terminal k c.args.w.now)) (sym c.in-Comma.is)

pub returns-in-Dot : goal.returns-in-Dot
returns-in-Dot c = ap (λ (k : Kind). code (terminal k c.args.w.now)) (sym c.in-Dot.is)

pub returns-in-Colon : goal.returns-in-Colon
returns-in-Colon c = ap (λ (k : Kind). code (terminal k c.args.w.now)) (sym c.in-Colon.is)

pub returns-in-Minus : goal.returns-in-Minus
returns-in-Minus c = ap (λ (k : Kind). code (terminal k c.args.w.now)) (sym c.in-Minus.is)

pub returns-in-ForAll : goal.returns-in-ForAll
returns-in-ForAll c = ap (λ (k : Kind). code (terminal k c.args.w.now)) (sym c.in-ForAll.is)

pub returns-in-Exists : goal.returns-in-Exists
returns-in-Exists c = ap (λ (k : Kind). code (terminal k c.args.w.now)) (sym c.in-Exists.is)

pub returns-in-Not : goal.returns-in-Not
returns-in-Not c = ap (λ (k : Kind). code (terminal k c.args.w.now)) (sym c.in-Not.is)

pub returns-in-And : goal.returns-in-And
returns-in-And c = ap (λ (k : Kind). code (terminal k c.args.w.now)) (sym c.in-And.is)

pub returns-in-Or : goal.returns-in-Or
returns-in-Or c = ap (λ (k : Kind). code (terminal k c.args.w.now)) (sym c.in-Or.is)

pub returns-in-Equal : goal.returns-in-Equal
returns-in-Equal c = ap (λ (k : Kind). code (terminal k c.args.w.now)) (sym c.in-Equal.is)

pub returns-in-Unequal : goal.returns-in-Unequal
returns-in-Unequal c = ap (λ (k : Kind). code (terminal k c.args.w.now)) (sym c.in-Unequal.is)

pub returns-in-Implies : goal.returns-in-Implies
returns-in-Implies c = ap (λ (k : Kind). code (terminal k c.args.w.now)) (sym c.in-Implies.is)

pub returns-in-ImpliedBy : goal.returns-in-ImpliedBy
returns-in-ImpliedBy c = ap (λ (k : Kind). code (terminal k c.args.w.now)) (sym c.in-ImpliedBy.is)

pub returns-in-Iff : goal.returns-in-Iff
returns-in-Iff c = ap (λ (k : Kind). code (terminal k c.args.w.now)) (sym c.in-Iff.is)

pub returns-in-Xor : goal.returns-in-Xor
returns-in-Xor c = ap (λ (k : Kind). code (terminal k c.args.w.now)) (sym c.in-Xor.is)

pub returns-in-Nor : goal.returns-in-Nor
returns-in-Nor c = ap (λ (k : Kind). code (terminal k c.args.w.now)) (sym c.in-Nor.is)

pub returns-in-Nand : goal.returns-in-Nand
returns-in-Nand c = ap (λ (k : Kind). code (terminal k c.args.w.now)) (sym c.in-Nand.is)

pub returns-in-Sequent : goal.returns-in-Sequent
returns-in-Sequent c = ap (λ (k : Kind). code (terminal k c.args.w.now)) (sym c.in-Sequent.is)
