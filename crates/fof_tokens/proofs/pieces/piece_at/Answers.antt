-- `piece_at` (src/pieces.rt): the end of the text, or a first byte and what follows.
use mathlib.Core.Path.{◌∙◌}
use Rattle.fof_tokens.proofs.PieceAtLaws.{piece-none, piece-begun}
use Rattle.fof_tokens.proofs.pieces.piece_at.Goals as goal

pub returns-then-text-at : goal.returns-then-text-at
returns-then-text-at c = let x = c.args in piece-none x.at x.text.now c.if-text-at.true

pub returns : goal.returns
returns c = let x = c.args in c.rest.ensures ∙ piece-begun c.begin.result x.at x.text.now c.if-text-at.false c.begin.ensures
