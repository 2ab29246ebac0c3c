-- `term_key` of src/term.rt meets its contract. Assumes nothing.
use Rattle.keys.proofs.AtomLaws.{term-there}
use Rattle.keys.proofs.term.term_key.Goals as goal

pub returns : goal.returns
returns c = let x = c.args in
    term-there x.files.now x.x x.room.now c.key_at.result c.file-s.ensures c.key_at.ensures
