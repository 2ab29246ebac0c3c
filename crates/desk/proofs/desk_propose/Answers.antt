-- The answer of a search as numbers.
use Rattle.desk.proofs.NumberLaws.{found, not_found}
use Rattle.desk.proofs.desk_propose.Goals as goal

pub returns-in-Found : goal.returns-in-Found
returns-in-Found c = let j = c.propose-v.ensures in record { answer = found c.in-Found.is j.answer; written = j.strip; cleared = j.words }

pub returns-in-Refused : goal.returns-in-Refused
returns-in-Refused c = let j = c.propose-v.ensures in record { answer = not_found c.in-Refused.is c.reason_number.ensures c.file_number.ensures j.answer; written = j.strip; cleared = j.words }
