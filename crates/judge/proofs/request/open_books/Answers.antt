-- `open_books` of src/request.rt: the tables of sound files are right.
use Rattle.judge.proofs.HalvesLaws.{opens}
use Rattle.judge.proofs.request.open_books.Goals as goal

pub returns : goal.returns
returns c =
    let x = c.args in
    opens x.rules.now x.terms.now x.room.now c.fill_tables.new.room (record { rules = c.read_file.result; terms = c.read_file-2.result }) c.read_file.ensures c.read_file-2.ensures c.fill_tables.ensures
