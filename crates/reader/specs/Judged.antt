-- What the code answers of one file, and of the files in turn (document 01, "What comes back"): the refusal with its place, or how many rules and candidates there
-- are. File says which refusal it is, and what the files mean.
use Rattle.std.specs.Prelude.{ℕ, suc, List, length, Result, Ok, Err}
use Rattle.basics.specs.Choice.{choose, maybe}
use Rattle.sexp.specs.Sexp.{Sexp, Sexps}
use Rattle.packet.specs.declared.Kind.{Kind}
use Rattle.packet.specs.declared.Kind.TheVariants as K
use Rattle.packet.specs.declared.File.{File}
use Rattle.packet.specs.declared.File.TheVariants as F
use Rattle.packet.specs.declared.Reason.{Reason}
use Rattle.packet.specs.declared.Reason.TheVariants as R
use Rattle.reader.specs.declared.files.Fault.{Fault}
use Rattle.reader.specs.declared.files.Refusal.{Refusal}
use Rattle.reader.specs.declared.files.Counts.{Counts}
use Rattle.packet.specs.Wrong.{wrong}
use Rattle.packet.specs.Barred.{barred}
use Rattle.packet.specs.File.{most_members, counted, holds, member_at, surplus, refusal_of, expression_of, Outcome, Books, Packet}
use Rattle.packet.specs.Refusal.{number, members_after}

-- one file is at fault, at a place
abbrev pub at_fault : Reason → ℕ → Result ℕ Fault
at_fault r at = Err (record { reason = r; place = at })

-- files are refused for one of them, at a place; and what its fault makes of it
abbrev pub refused : Reason → File → ℕ → Result Counts Refusal
refused r f at = Err (record { reason = r; file = f; place = at })

abbrev pub in_file : Fault → File → Refusal
in_file x f = record { reason = x.reason; file = f; place = x.place }

abbrev pub of_file : Result ℕ Fault → File → Result ℕ Refusal
of_file (Ok n) f = Ok n
of_file (Err x) f = Err (in_file x f)

-- files are sound, with so many rules and candidates
abbrev pub sound : ℕ → ℕ → Result Counts Refusal
sound n m = Ok (record { rules = n; candidates = m })

-- the members of a list whose first stands at an offset: where the first above the number allowed opens, or how many they are
unfoldable pub count_in : ℕ → Sexps → Result ℕ ℕ
count_in at xs = maybe (member_at (suc most_members) at xs) (Ok (number xs)) Err

-- how many rules or candidates a file of a kind has
unfoldable pub number_of : Kind → Sexp → ℕ
number_of k e = choose (counted k) (members_after e) 0

-- refusal 5 of a file's expression, or n rules or candidates
unfoldable pub bars_judged : Kind → ℕ → Sexp → Result ℕ Fault
bars_judged k n e = maybe (barred (holds k) 0 0 e) (Ok n) (at_fault R.Barred)

-- refusals 6 and 5
unfoldable pub sizes_judged : Kind → Sexp → Result ℕ Fault
sizes_judged k e = maybe (surplus k e) (bars_judged k (number_of k e) e) (at_fault R.Many)

-- refusals 4, 6 and 5
unfoldable pub words_judged : Kind → Sexp → Result ℕ Fault
words_judged k e = maybe (wrong k 0 e) (sizes_judged k e) (at_fault R.Words)

-- one file
unfoldable pub judged_of : Kind → List ℕ → Result ℕ Fault
judged_of k s = maybe (refusal_of k s) (Ok (number_of k (expression_of s))) λ r. at_fault r.0 r.1

-- what one file after others comes to: refused, or what its number makes
abbrev pub after_file : Result ℕ Fault → File → (ℕ → Result Counts Refusal) → Result Counts Refusal
after_file (Ok n) f next = next n
after_file (Err x) f next = Err (in_file x f)

-- the terms after n rules and the goal; the goal and the terms after n rules; the strip after n rules, the goal and m candidates
unfoldable pub terms_read : ℕ → List ℕ → Result Counts Refusal
terms_read n ts = after_file (judged_of K.Terms ts) F.Terms λ m. sound n m

unfoldable pub goal_read : ℕ → List ℕ → List ℕ → Result Counts Refusal
goal_read n gs ts = after_file (judged_of K.Goal gs) F.Goal λ i. terms_read n ts

unfoldable pub strip_read : ℕ → ℕ → List ℕ → Result Counts Refusal
strip_read n m ss = after_file (judged_of K.Strip ss) F.Strip λ i. sound n m

-- the files of a search, and those of a checker
abbrev pub books_read : Outcome Books → Result Counts Refusal
books_read (Outcome.sound b) = sound (length b.rules) (length b.candidates)
books_read (Outcome.refused r f at) = refused r f at

abbrev pub packet_read : Outcome Packet → Result Counts Refusal
packet_read (Outcome.sound p) = sound (length p.books.rules) (length p.books.candidates)
packet_read (Outcome.refused r f at) = refused r f at
