-- `is_name_of` meets its contract: the first octet is a letter, and the test of the others is the library's `all`.
use Prim.Native.Nat.{ℕ, ◌≤◌}
use mathlib.Core.List.{List}
use lib.ListN.{length}
use mathlib.Core.Path.{sym, ◌∙◌, ap, subst}
use Rattle.std.proofs.lemmas.Iterator.{YieldsList-from_slice}
use Rattle.std.proofs.lemmas.Iterator.Search.{all_from_yields_List}
use Rattle.sexp.specs.Words.{is_name_octet, is_name}
use Rattle.sexp.proofs.NameLaws.{name-none, name-long, name-first, name-rest}
use borrow.Author.Rules.{rules}
use borrow.Author.Tests.{tests}
use Rattle.sexp.proofs.words.is_name_of.Goals as goal

pub returns-then-w-gt32 : goal.returns-then-w-gt32
returns-then-w-gt32 c = name-long c.args.w.now c.if-w-gt32.true

pub returns-in_default : goal.returns-in_default
returns-in_default c = name-none c.args.w.now c.in_default.ensures.cases

pub returns-then-letter : goal.returns-then-letter
returns-then-letter c =
    let all = all_from_yields_List is_name_octet _ _ c.all.result c.all.ensures.ran (YieldsList-from_slice c.in-Some.rest.now c.iter.ensures.rest) (λ x b q k. search (rules, tests)) in
    let whole = c.in-Some.ensures.cases.0 in
    name-rest c.all.result c.in-Some.first.now c.in-Some.rest.now all (sym c.letter.ensures ∙ c.if-letter.true) (subst (λ (v : List ℕ). length v ≤ 32) whole c.if-w-gt32.false) ∙ sym (ap is_name whole)

pub returns-else-letter : goal.returns-else-letter
returns-else-letter c =
    let whole = c.in-Some.ensures.cases.0 in
    c.if-letter.false ∙ name-first c.in-Some.first.now c.in-Some.rest.now (sym c.letter.ensures ∙ c.if-letter.false) ∙ sym (ap is_name whole)
