-- `is_fact` meets its contract.
use Rattle.proving.proofs.HandLaws.{fact-at, fact-word, no-fact-word}
use Rattle.proving.proofs.opening.is_fact.Goals as goal

pub returns-in-Atom : goal.returns-in-Atom
returns-in-Atom c = fact-word (fact-at c.args.room.now c.args.k c.plus.ensures c.word-at.ensures c.plus-2.ensures) c.word_at.ensures c.in-Atom.is

pub returns-in_default : goal.returns-in_default
returns-in_default c = no-fact-word (fact-at c.args.room.now c.args.k c.plus.ensures c.word-at.ensures c.plus-2.ensures) c.word_at.ensures c.in_default.not-Atom
