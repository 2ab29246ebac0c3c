-- `sign_of` of src/ahead.rt meets its contract. Assumes nothing.
use mathlib.Core.Path.{sym, ap, ◌∙◌}
use Rattle.fof_tokens.specs.declared.Kind.{Kind}
use Rattle.fof_part.specs.Sign.{code, sign_of}
use Rattle.fof_pass.proofs.ahead.sign_of.Goals as goal

pub returns-in-Lower : goal.returns-in-Lower
returns-in-Lower c = let a = c.args in sym (ap (λ (k : Kind). code (sign_of k a.w.now)) c.in-Lower.is)

pub returns-in-Upper : goal.returns-in-Upper
returns-in-Upper c = let a = c.args in sym (ap (λ (k : Kind). code (sign_of k a.w.now)) c.in-Upper.is)

pub returns-in-Dollar : goal.returns-in-Dollar
returns-in-Dollar c = let a = c.args in c.dollar_sign.ensures ∙ sym (ap (λ (k : Kind). code (sign_of k a.w.now)) c.in-Dollar.is)

pub returns-in-OpenParen : goal.returns-in-OpenParen
returns-in-OpenParen c = let a = c.args in sym (ap (λ (k : Kind). code (sign_of k a.w.now)) c.in-OpenParen.is)

pub returns-in-CloseParen : goal.returns-in-CloseParen
returns-in-CloseParen c = let a = c.args in sym (ap (λ (k : Kind). code (sign_of k a.w.now)) c.in-CloseParen.is)

pub returns-in-OpenBracket : goal.returns-in-OpenBracket
returns-in-OpenBracket c = let a = c.args in sym (ap (λ (k : Kind). code (sign_of k a.w.now)) c.in-OpenBracket.is)

pub returns-in-CloseBracket : goal.returns-in-CloseBracket
returns-in-CloseBracket c = let a = c.args in sym (ap (λ (k : Kind). code (sign_of k a.w.now)) c.in-CloseBracket.is)

pub returns-in-Comma : goal.returns-in-Comma
returns-in-Comma c = let a = c.args in sym (ap (λ (k : Kind). code (sign_of k a.w.now)) c.in-Comma.is)

pub returns-in-Colon : goal.returns-in-Colon
returns-in-Colon c = let a = c.args in sym (ap (λ (k : Kind). code (sign_of k a.w.now)) c.in-Colon.is)

pub returns-in-Dot : goal.returns-in-Dot
returns-in-Dot c = let a = c.args in sym (ap (λ (k : Kind). code (sign_of k a.w.now)) c.in-Dot.is)

pub returns-in-ForAll : goal.returns-in-ForAll
returns-in-ForAll c = let a = c.args in sym (ap (λ (k : Kind). code (sign_of k a.w.now)) c.in-ForAll.is)

pub returns-in-Exists : goal.returns-in-Exists
returns-in-Exists c = let a = c.args in sym (ap (λ (k : Kind). code (sign_of k a.w.now)) c.in-Exists.is)

pub returns-in-And : goal.returns-in-And
returns-in-And c = let a = c.args in sym (ap (λ (k : Kind). code (sign_of k a.w.now)) c.in-And.is)

pub returns-in-Or : goal.returns-in-Or
returns-in-Or c = let a = c.args in sym (ap (λ (k : Kind). code (sign_of k a.w.now)) c.in-Or.is)

pub returns-in-Implies : goal.returns-in-Implies
returns-in-Implies c = let a = c.args in sym (ap (λ (k : Kind). code (sign_of k a.w.now)) c.in-Implies.is)

pub returns-in-Quoted : goal.returns-in-Quoted
returns-in-Quoted c = let a = c.args in sym (ap (λ (k : Kind). code (sign_of k a.w.now)) c.in-Quoted.is)

pub returns-in-Distinct : goal.returns-in-Distinct
returns-in-Distinct c = let a = c.args in sym (ap (λ (k : Kind). code (sign_of k a.w.now)) c.in-Distinct.is)

pub returns-in-DoubleDollar : goal.returns-in-DoubleDollar
returns-in-DoubleDollar c = let a = c.args in sym (ap (λ (k : Kind). code (sign_of k a.w.now)) c.in-DoubleDollar.is)

pub returns-in-Integer : goal.returns-in-Integer
returns-in-Integer c = let a = c.args in sym (ap (λ (k : Kind). code (sign_of k a.w.now)) c.in-Integer.is)

pub returns-in-Rational : goal.returns-in-Rational
returns-in-Rational c = let a = c.args in sym (ap (λ (k : Kind). code (sign_of k a.w.now)) c.in-Rational.is)

pub returns-in-Real : goal.returns-in-Real
returns-in-Real c = let a = c.args in sym (ap (λ (k : Kind). code (sign_of k a.w.now)) c.in-Real.is)

pub returns-in-OpenBrace : goal.returns-in-OpenBrace
returns-in-OpenBrace c = let a = c.args in sym (ap (λ (k : Kind). code (sign_of k a.w.now)) c.in-OpenBrace.is)

pub returns-in-CloseBrace : goal.returns-in-CloseBrace
returns-in-CloseBrace c = let a = c.args in sym (ap (λ (k : Kind). code (sign_of k a.w.now)) c.in-CloseBrace.is)

pub returns-in-Minus : goal.returns-in-Minus
returns-in-Minus c = let a = c.args in sym (ap (λ (k : Kind). code (sign_of k a.w.now)) c.in-Minus.is)

pub returns-in-Not : goal.returns-in-Not
returns-in-Not c = let a = c.args in sym (ap (λ (k : Kind). code (sign_of k a.w.now)) c.in-Not.is)

pub returns-in-Equal : goal.returns-in-Equal
returns-in-Equal c = let a = c.args in sym (ap (λ (k : Kind). code (sign_of k a.w.now)) c.in-Equal.is)

pub returns-in-Unequal : goal.returns-in-Unequal
returns-in-Unequal c = let a = c.args in sym (ap (λ (k : Kind). code (sign_of k a.w.now)) c.in-Unequal.is)

pub returns-in-ImpliedBy : goal.returns-in-ImpliedBy
returns-in-ImpliedBy c = let a = c.args in sym (ap (λ (k : Kind). code (sign_of k a.w.now)) c.in-ImpliedBy.is)

pub returns-in-Iff : goal.returns-in-Iff
returns-in-Iff c = let a = c.args in sym (ap (λ (k : Kind). code (sign_of k a.w.now)) c.in-Iff.is)

pub returns-in-Xor : goal.returns-in-Xor
returns-in-Xor c = let a = c.args in sym (ap (λ (k : Kind). code (sign_of k a.w.now)) c.in-Xor.is)

pub returns-in-Nor : goal.returns-in-Nor
returns-in-Nor c = let a = c.args in sym (ap (λ (k : Kind). code (sign_of k a.w.now)) c.in-Nor.is)

pub returns-in-Nand : goal.returns-in-Nand
returns-in-Nand c = let a = c.args in sym (ap (λ (k : Kind). code (sign_of k a.w.now)) c.in-Nand.is)

pub returns-in-Sequent : goal.returns-in-Sequent
returns-in-Sequent c = let a = c.args in sym (ap (λ (k : Kind). code (sign_of k a.w.now)) c.in-Sequent.is)
