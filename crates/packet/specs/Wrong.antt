-- Refusal 4 and its place: the start of the first string or parenthesis, opening or closing, that the table of words does not allow there (document 01, the table of words; request Two).
-- An expression is built from the table exactly if there is none.
use Rattle.std.specs.Prelude.{ℕ, ◌+◌, Bool, true, false, ◌||◌, List, [], ◌∷◌, length}
use Rattle.std.proofs.Math.Option.{Option, none, some}
use Rattle.basics.specs.Choice.{choose, maybe, or_else}
use Rattle.basics.specs.Text.{octets}
use Rattle.harrop.specs.Bindings.{same_name}
use Rattle.sexp.specs.Sexp.{Sexp, Sexps, spell}
use Rattle.sexp.specs.Words.{is_name, is_number}
use Rattle.packet.specs.declared.Kind.{Kind}
use Rattle.packet.specs.declared.Kind.TheVariants as K
use Rattle.packet.specs.declared.Due.{Due}
use Rattle.packet.specs.declared.Due.TheVariants as D
use Rattle.packet.specs.Table.{word_of, due_after, next, may_end}

-- a step of a path: `l`, `r` or a number
unfoldable pub is_step : List ℕ → Bool
is_step w = same_name w (octets "l") || same_name w (octets "r") || is_number w

-- a string that is of this kind by itself
unfoldable pub is_text : Kind → List ℕ → Bool
is_text K.Name w = is_name w
is_text K.Number w = is_number w
is_text K.Step w = is_step w
is_text K.Path w = false
is_text K.Term w = false
is_text K.Atom w = false
is_text K.Goal w = false
is_text K.Clause w = false
is_text K.Rules w = false
is_text K.Terms w = false
is_text K.Strip w = false

-- how a list of this kind begins: not at all, with a step or its end, or with a word
pub data Begins : Type 0 where
  never : Begins
  plainly : Begins
  with_word : Begins

unfoldable pub begins : Kind → Begins
begins K.Name = Begins.never
begins K.Number = Begins.never
begins K.Step = Begins.never
begins K.Path = Begins.plainly
begins K.Term = Begins.with_word
begins K.Atom = Begins.with_word
begins K.Goal = Begins.with_word
begins K.Clause = Begins.with_word
begins K.Rules = Begins.with_word
begins K.Terms = Begins.with_word
begins K.Strip = Begins.with_word

unfoldable mutual
  -- in an expression of a kind that starts at an offset
  pub wrong : Kind → ℕ → Sexp → Option ℕ
  wrong k at (Sexp.str w) = choose (is_text k w) none (some at)
  wrong k at (Sexp.hinted h w) = some at
  wrong k at (Sexp.list xs) =
      elim (begins k) [ Begins.never ↦ some at | Begins.plainly ↦ wrong_in (D.Each K.Step) (at + 1) xs | Begins.with_word ↦ wrong_word k (at + 1) xs ]

  -- in the members of a list of a kind, the word first
  pub wrong_word : Kind → ℕ → Sexps → Option ℕ
  wrong_word k at Sexps.nil = some at
  wrong_word k at (Sexps.cons (Sexp.str w) xs) =
      elim (due_after k (word_of w)) [ none ↦ some at | some due ↦ wrong_in due (at + length (spell (Sexp.str w))) xs ]
  wrong_word k at (Sexps.cons (Sexp.hinted h w) xs) = some at
  wrong_word k at (Sexps.cons (Sexp.list ys) xs) = some at

  -- in the further members, as they are due; the offset of the end is that of the closing parenthesis
  pub wrong_in : Due → ℕ → Sexps → Option ℕ
  wrong_in due at Sexps.nil = choose (may_end due) none (some at)
  wrong_in due at (Sexps.cons x xs) =
      elim (next due) [ none ↦ some at | some n ↦ or_else (wrong n.0 at x) (wrong_in n.1 (at + length (spell x)) xs) ]
