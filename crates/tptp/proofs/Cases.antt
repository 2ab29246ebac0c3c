-- The texts of specs/Cases are answered as stated, by computing.
use mathlib.Core.Path.{◌≡◌, refl}
use mathlib.Core.List.{map}
use Rattle.sexp.specs.Decimal.{decimal_onto, decimal, is_digit}
use Rattle.sexp.specs.Words.{is_name, is_letter, every, is_name_octet}
use Rattle.fof_tokens.specs.Bytes.{is_space, is_alnum, is_sign, is_exponent, is_plain, is_escaped, in_line}
use Rattle.fof_tokens.specs.Machine.{scan, soonest}
use Rattle.fof_tokens.specs.Next.{piece_at, tokens_from, tokens_at, tokens}
use Rattle.grammar.specs.Machine.{accepts}
use Rattle.fof_productions.specs.Sound.{sound}
use Rattle.fof_part.specs.Due.{due_at, run, formula_at}
use Rattle.fof_part.specs.Lines.{line_at, lines_from, lines_at}
use Rattle.fof_part.specs.Made.{sized_marks, made_of}
use Rattle.tptp.specs.Comes.{comes_to}
use Rattle.tptp.specs.Cases.{Row, answer_to, texts}

pub the-texts-are-answered-as-stated : map (λ (c : Row). answer_to c.0) texts ≡ map (λ (c : Row). c.1) texts
unfolding texts comes_to sound accepts is_space is_alnum is_sign is_exponent is_plain is_escaped in_line scan soonest piece_at tokens_from tokens_at tokens is_name is_letter every is_name_octet is_digit decimal_onto decimal due_at run formula_at line_at lines_from lines_at sized_marks made_of
the-texts-are-answered-as-stated = refl
