-- `octets_key` of src/mix.rt meets its contract.
use mathlib.Core.Path.{◌≡◌, ◌∙◌}
use Rattle.std.specs.List.{fold}
use Rattle.keys.specs.Key.{more}
use Rattle.keys.proofs.WalkLaws.{text-folds}
use borrow.Author.Rules.{rules}
use Rattle.keys.proofs.mix.octets_key.Goals as goal

pub returns : goal.returns
returns c = let x = c.args in
    let e : c.fold.result ≡ fold more 1 x.w.now = search rules in
    e ∙ text-folds 1 x.w.now
