-- The books of specs/Cases are answered as stated, by computing.
use mathlib.Core.Path.{◌≡◌, refl}
use mathlib.Core.List.{map}
use Rattle.sexp.specs.Decimal.{decimal_onto, decimal, is_digit}
use Rattle.sexp.specs.Words.{is_name, is_letter, every, is_name_octet}
use Rattle.fof_truth.specs.Book.{sized, book_of}
use Rattle.fof_truth.specs.Cases.{Row, goal_text, rules_text, goals, rules, Answer, Asked, answer_to, books}

pub the-goals-are-as-stated : map (λ (c : Row). goal_text c.0) goals ≡ map (λ (c : Row). c.1) goals
unfolding goals is_name is_letter every is_name_octet is_digit decimal_onto decimal
the-goals-are-as-stated = refl

pub the-rules-are-as-stated : map (λ (c : Row). rules_text c.0) rules ≡ map (λ (c : Row). c.1) rules
unfolding rules is_name is_letter every is_name_octet is_digit decimal_onto decimal
the-rules-are-as-stated = refl

pub the-books-are-answered-as-stated : map (λ (c : Asked × Answer). answer_to c.0) books ≡ map (λ (c : Asked × Answer). c.1) books
unfolding books book_of sized is_name is_letter every is_name_octet is_digit decimal_onto decimal
the-books-are-answered-as-stated = refl
