-- Document 01's cases marked P get the answers that the document states, all in one statement, of the definitions that the contracts of `judge` and `propose` cite; by computing.
use mathlib.Core.Path.{◌≡◌, refl}
use Rattle.sexp.specs.Decimal.{decimal_onto, decimal, is_digit}
use Rattle.sexp.specs.Scan.{step, digit, begin, note, deeper, ended, scan, judgement, carrier_of}
use Rattle.sexp.specs.Read.{read}
use Rattle.sexp.specs.Words.{is_letter, every, is_name_octet, is_name, no_leading_zero, is_number, worth_after, worth}
use Rattle.packet.specs.Table.{word_of, rank, rows, due_after, next, may_end}
use Rattle.packet.specs.Wrong.{is_step, is_text, begins, wrong}
use Rattle.packet.specs.Barred.{sort_of, number_in, barred}
use Rattle.packet.specs.Read.{name_in, term_of, atom_in, atom_of, atom_second, goal_of, members_of, rest_of, rules_of, candidates_of, step_of, path_of, strip_of}
use Rattle.packet.specs.File.{counted, holds, member_at, surplus, long, faulty, deep, unbuilt, many, unsound, tests, first_of, refusal_of, expression_of, file_of, books_of, packet_of}
use Rattle.judge.specs.Verdict.{verdict_of}
use Rattle.proposal.specs.Proposed.{first_strip, unless_long, of_first, of_books, comes_to, proposal, proposal_of, over, left, buffer_after}
use Rattle.proposal.specs.Cases.{table, answers, stated}

pub the-cases-are-answered-as-stated : answers table ≡ stated table
unfolding decimal_onto decimal is_digit digit begin step deeper note ended scan judgement carrier_of read is_letter every is_name_octet is_name no_leading_zero is_number worth_after worth word_of rank rows due_after next may_end is_step is_text begins wrong sort_of number_in barred name_in term_of atom_in atom_of atom_second goal_of members_of rest_of rules_of candidates_of step_of path_of strip_of counted holds member_at surplus long faulty deep unbuilt many unsound tests first_of refusal_of expression_of file_of books_of packet_of verdict_of first_strip unless_long of_first of_books comes_to proposal proposal_of over left buffer_after
the-cases-are-answered-as-stated = refl
