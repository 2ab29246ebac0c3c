-- The texts of specs/Cases come to what is stated, by computing.
use mathlib.Core.Path.{◌≡◌, refl}
use mathlib.Core.List.{map}
use Rattle.basics.specs.Text.{octets}
use Rattle.fof_tokens.specs.Bytes.{is_space, is_alnum, is_sign, is_exponent, is_plain, is_escaped, in_line}
use Rattle.fof_tokens.specs.Machine.{scan, soonest}
use Rattle.fof_tokens.specs.Next.{piece_at, tokens_from, tokens_at, tokens}
use Rattle.sexp.specs.Decimal.{decimal_onto, decimal, is_digit}
use Rattle.sexp.specs.Words.{is_name, is_letter, every, is_name_octet}
use Rattle.fof_part.specs.Due.{due_at, run, formula_at}
use Rattle.fof_part.specs.Lines.{line_at, lines_from, lines_at}
use Rattle.fof_part.specs.Cases.{Row, answer_to, asked, given, goals, rules, texts}

pub the-goals-are-as-stated : map (λ (c : Row). asked c.0) goals ≡ map (λ (c : Row). c.1) goals
unfolding goals is_space is_alnum is_sign is_exponent is_plain is_escaped in_line scan soonest piece_at tokens_from tokens_at tokens is_name is_letter every is_name_octet is_digit decimal_onto decimal due_at run formula_at line_at lines_from lines_at
the-goals-are-as-stated = refl

pub the-rules-are-as-stated : map (λ (c : Row). given c.0) rules ≡ map (λ (c : Row). c.1) rules
unfolding rules is_space is_alnum is_sign is_exponent is_plain is_escaped in_line scan soonest piece_at tokens_from tokens_at tokens is_name is_letter every is_name_octet is_digit decimal_onto decimal due_at run formula_at line_at lines_from lines_at
the-rules-are-as-stated = refl

pub the-texts-are-as-stated : map (λ (c : Row). answer_to (octets c.0)) texts ≡ map (λ (c : Row). c.1) texts
unfolding texts is_space is_alnum is_sign is_exponent is_plain is_escaped in_line scan soonest piece_at tokens_from tokens_at tokens is_name is_letter every is_name_octet is_digit decimal_onto decimal due_at run formula_at line_at lines_from lines_at
the-texts-are-as-stated = refl
