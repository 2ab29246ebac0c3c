-- The verdict as numbers.
use Rattle.desk.proofs.NumberLaws.{accepted, refused}
use Rattle.desk.proofs.desk_judge.Goals as goal

pub returns-in-Accepted : goal.returns-in-Accepted
returns-in-Accepted c = let j = c.judge-v.ensures in record { answer = accepted c.in-Accepted.is j.numbers; cleared = j.room }

pub returns-in-Refused : goal.returns-in-Refused
returns-in-Refused c = let j = c.judge-v.ensures in record { answer = refused c.in-Refused.is c.reason_number.ensures c.file_number.ensures j.numbers; cleared = j.room }
