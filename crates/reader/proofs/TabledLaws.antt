-- What is built from the table of words is such as refusal 5 asks it to be: a list that begins with `v` or `e` holds one number, and no string has a hint.
use Prim.Native.Nat.{ℕ, ◌+◌}
use mathlib.Core.Path.{◌≡◌, refl, sym, ◌∙◌, ap, subst}
use mathlib.Core.Bool.{Bool, true, false, false≢true}
use mathlib.Core.List.{List}
use mathlib.Core.Logic.{⊎_elim}
use mathlib.Core.Option.{Option, none, some}
use lib.ListN.{length}
use Rattle.basics.specs.Choice.{choose, or_else, nope, or_else-none}
use Rattle.sexp.specs.Sexp.{Sexp, Sexps, str, hinted, list, nil, cons, spell}
use Rattle.sexp.specs.Decimal.{is_digit}
use Rattle.sexp.specs.Words.{is_number}
use Rattle.packet.specs.declared.Word.{Word}
use Rattle.packet.specs.declared.Word.TheVariants as W
use Rattle.packet.specs.declared.Kind.{Kind}
use Rattle.packet.specs.declared.Kind.TheVariants as K
use Rattle.packet.specs.declared.Due.{Due}
use Rattle.packet.specs.declared.Due.TheVariants as D
use Rattle.packet.specs.Table.{word_of, rows, due_after, next, may_end}
use Rattle.packet.specs.Wrong.{is_step, is_text, Begins, begins, wrong, wrong_word, wrong_in}
use Rattle.packet.specs.Barred.{sort_of}
use Rattle.reader.specs.Bars.{holds_number, OneNumber, Tabled, TabledList, Tableds}
use Rattle.packet.proofs.SpellsLaws.{writing, wrote, by_rows}

-- after a word that holds a number, one number is due
NumberDue : Word → Due → Type 0
NumberDue x due = holds_number (sort_of x) ≡ true → due ≡ D.One K.Number

number-due : (k : Kind) (x : Word) (due : Due) → due_after k x ≡ some due → NumberDue x due
unfolding NumberDue due_after rows sort_of
number-due K.Name x due h = nope h
number-due K.Number x due h = nope h
number-due K.Step x due h = nope h
number-due K.Path x due h = nope h
number-due K.Term x due h = by_rows NumberDue (rows K.Term) (λ t. refl, (λ t. absurd (false≢true t), (λ t. refl, tt))) x due h
number-due K.Atom x due h = by_rows NumberDue (rows K.Atom) (λ t. absurd (false≢true t), tt) x due h
number-due K.Goal x due h =
    by_rows NumberDue (rows K.Goal)
    (λ t. absurd (false≢true t), (λ t. absurd (false≢true t), (λ t. absurd (false≢true t), (λ t. absurd (false≢true t), (λ t. absurd (false≢true t), (λ t. absurd (false≢true t), (λ t. absurd (false≢true t), tt)))))))
    x due h
number-due K.Clause x due h =
    by_rows NumberDue (rows K.Clause)
    (λ t. absurd (false≢true t), (λ t. absurd (false≢true t), (λ t. absurd (false≢true t), (λ t. absurd (false≢true t), tt))))
    x due h
number-due K.Rules x due h = by_rows NumberDue (rows K.Rules) (λ t. absurd (false≢true t), tt) x due h
number-due K.Terms x due h = by_rows NumberDue (rows K.Terms) (λ t. absurd (false≢true t), tt) x due h
number-due K.Strip x due h =
    by_rows NumberDue (rows K.Strip)
    (λ t. absurd (false≢true t), (λ t. absurd (false≢true t), (λ t. absurd (false≢true t), (λ t. absurd (false≢true t), (λ t. absurd (false≢true t), (λ t. absurd (false≢true t), (λ t. absurd (false≢true t), (λ t. absurd (false≢true t), tt))))))))
    x due h

-- a step of a path is no word that holds a number
step-free : (x : Word) → holds_number (sort_of x) ≡ true → is_step (writing x) ≡ false
unfolding sort_of writing is_step is_number is_digit
step-free W.V h = refl
step-free W.F h = absurd (false≢true h)
step-free W.E h = refl
step-free W.Atom h = absurd (false≢true h)
step-free W.Top h = absurd (false≢true h)
step-free W.And h = absurd (false≢true h)
step-free W.Or h = absurd (false≢true h)
step-free W.Some h = absurd (false≢true h)
step-free W.All h = absurd (false≢true h)
step-free W.Imp h = absurd (false≢true h)
step-free W.Left h = absurd (false≢true h)
step-free W.Right h = absurd (false≢true h)
step-free W.Use h = absurd (false≢true h)
step-free W.Rules h = absurd (false≢true h)
step-free W.Terms h = absurd (false≢true h)
step-free W.Nothing h = absurd (false≢true h)

no_number : holds_number (sort_of W.Nothing) ≡ false
unfolding sort_of
no_number = refl

step-number : (w : List ℕ) → is_step w ≡ true → holds_number (sort_of (word_of w)) ≡ true → ⊥
step-number w s h =
    ⊎_elim
    (λ e. false≢true (sym no_number ∙ ap (λ (x : Word). holds_number (sort_of x)) (sym e) ∙ h))
    (λ e. false≢true (sym (step-free (word_of w) h) ∙ ap is_step (sym e) ∙ s))
    (wrote w)

-- a test that finds nothing wrong passes
passes : (t : Bool) (at : ℕ) → choose t none (some at) ≡ none → t ≡ true
passes true at h = refl
passes false at h = nope (sym h)

-- one number where one is due
one_number : (xs : Sexps) (at : ℕ) → wrong_in (D.One K.Number) at xs ≡ none → OneNumber xs
unfolding wrong next may_end is_text begins
one_number nil at h = nope (sym h)
one_number (cons (str w) nil) at h = (w, refl, passes (is_number w) at (or_else-none (choose (is_number w) none (some at)) none h).0)
one_number (cons (str w) (cons y ys)) at h = nope (sym (or_else-none (choose (is_number w) none (some at)) (some (at + length (spell (str w)))) h).1)
one_number (cons (hinted t w) ys) at h = nope (sym h)
one_number (cons (list zs) ys) at h = nope (sym h)

-- a member, and those after it
after : (x : Sexp) (xs : Sexps) (at to : ℕ) → ((k : Kind) → wrong k at x ≡ none → Tabled x) → ((due : Due) → wrong_in due to xs ≡ none → Tableds xs) → (o : Option (Kind × Due))
    → ◌≡◌ {A = Option ℕ} (elim o as (λ y. Option ℕ) [ none ↦ some at | some n ↦ or_else (wrong n.0 at x) (wrong_in n.1 to xs) ]) none → Tabled x × Tableds xs
after x xs at to f g none h = nope (sym h)
after x xs at to f g (some n) h = let (a, b) = or_else-none (wrong n.0 at x) (wrong_in n.1 to xs) h in (f n.0 a, g n.1 b)

-- the members of a list after its word
after-word : (k : Kind) (w : List ℕ) (xs : Sexps) (at to : ℕ) → ((due : Due) → wrong_in due to xs ≡ none → Tableds xs) → (o : Option Due) → due_after k (word_of w) ≡ o
    → ◌≡◌ {A = Option ℕ} (elim o as (λ y. Option ℕ) [ none ↦ some at | some due ↦ wrong_in due to xs ]) none → TabledList (cons (str w) xs)
unfolding NumberDue
after-word k w xs at to g none e h = nope (sym h)
after-word k w xs at to g (some due) e h = (
  λ t. one_number xs to (subst (λ (d : Due). wrong_in d to xs ≡ none) (number-due k (word_of w) due e t) h),
  g due h,
)

-- a path's list
after-step : (w : List ℕ) (xs : Sexps) (at to : ℕ) → ((due : Due) → wrong_in due to xs ≡ none → Tableds xs) → or_else (choose (is_step w) none (some at)) (wrong_in (D.Each K.Step) to xs) ≡ none → TabledList (cons (str w) xs)
after-step w xs at to g h =
    let (a, b) = or_else-none (choose (is_step w) none (some at)) (wrong_in (D.Each K.Step) to xs) h in
    (λ t. absurd (step-number w (passes (is_step w) at a) t), g (D.Each K.Step) b)

mutual
  unfolding wrong next is_text begins

  pub built-tabled : (e : Sexp) (k : Kind) (at : ℕ) → wrong k at e ≡ none → Tabled e
  built-tabled (str w) k at h = tt
  built-tabled (hinted t w) k at h = nope (sym h)
  built-tabled (list xs) k at h = list-tabled xs k at (begins k) h

  list-tabled : (xs : Sexps) (k : Kind) (at : ℕ) (b : Begins)
      → ◌≡◌ {A = Option ℕ} (elim b as (λ x. Option ℕ) [ Begins.never ↦ some at | Begins.plainly ↦ wrong_in (D.Each K.Step) (at + 1) xs | Begins.with_word ↦ wrong_word k (at + 1) xs ]) none → TabledList xs
  list-tabled nil k at b h = tt
  list-tabled (cons (str w) xs) k at Begins.never h = nope (sym h)
  list-tabled (cons (str w) xs) k at Begins.plainly h = after-step w xs (at + 1) (at + 1 + length (spell (str w))) (λ due g. members-tabled xs due (at + 1 + length (spell (str w))) g) h
  list-tabled (cons (str w) xs) k at Begins.with_word h = after-word k w xs (at + 1) (at + 1 + length (spell (str w))) (λ due g. members-tabled xs due (at + 1 + length (spell (str w))) g) (due_after k (word_of w)) refl h
  list-tabled (cons (hinted t w) xs) k at Begins.never h = nope (sym h)
  list-tabled (cons (hinted t w) xs) k at Begins.plainly h = nope (sym h)
  list-tabled (cons (hinted t w) xs) k at Begins.with_word h = nope (sym h)
  list-tabled (cons (list ys) xs) k at Begins.never h = nope (sym h)
  list-tabled (cons (list ys) xs) k at Begins.plainly h = nope (sym h)
  list-tabled (cons (list ys) xs) k at Begins.with_word h = nope (sym h)

  members-tabled : (xs : Sexps) (due : Due) (at : ℕ) → wrong_in due at xs ≡ none → Tableds xs
  members-tabled nil due at h = tt
  members-tabled (cons x xs) due at h = after x xs at (at + length (spell x)) (λ k g. built-tabled x k at g) (λ d g. members-tabled xs d (at + length (spell x)) g) (next due) h
