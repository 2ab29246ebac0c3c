-- What is built from the table of words is something written, with document 01's names and numbers: an expression in which Wrong has no place spells its kind.
use Prim.Native.Nat.{ℕ, zero, suc, ◌+◌, ◌≤◌}
use mathlib.Core.Path.{◌≡◌, refl, sym, ◌∙◌, ap, ap₂, subst}
use mathlib.Core.Bool.{Bool, true, false, ◌||◌, false≢true}
use mathlib.Core.List.{List, [], ◌∷◌}
use mathlib.Core.Logic.{◌⊎◌, inl, inr, ⊎_elim}
use mathlib.Core.Option.{Option, none, some, some-injective}
use lib.Dec.{eqb}
use lib.ListN.{length}
use borrow.Author.Tests.{eqb-true}
use Rattle.basics.specs.Each.{Each}
use Rattle.basics.specs.Choice.{choose, or_else, or_else-none, nope}
use Rattle.basics.specs.Text.{octets}
use Rattle.harrop.specs.Formula.{Name, Term, Terms, Atom, Goal, Clause, Step, Strip}
use Rattle.harrop.specs.Bindings.{same_name}
use Rattle.harrop.specs.Place.{Plain}
use Rattle.harrop.proofs.SameLaws.{same-names-equal}
use Rattle.sexp.specs.Decimal.{decimal}
use Rattle.sexp.specs.Sexp.{Sexp, Sexps, spell}
use Rattle.sexp.specs.Words.{is_name, is_number, worth}
use Rattle.sexp.proofs.WordLaws.{number-back}
use Rattle.packet.specs.declared.Word.{Word}
use Rattle.packet.specs.declared.Word.TheVariants as W
use Rattle.packet.specs.declared.Kind.{Kind}
use Rattle.packet.specs.declared.Kind.TheVariants as K
use Rattle.packet.specs.declared.Due.{Due}
use Rattle.packet.specs.declared.Due.TheVariants as D
use Rattle.packet.specs.Written.{word, one, two, each, number, term_sexp, term_sexps, atom_sexp, goal_sexp, clause_sexp, step_sexp, path_sexp, strip_sexp, rules_sexp, terms_sexp}
use Rattle.packet.specs.Table.{words, look_for, word_of, rank, Row, rows, look, due_after, next, may_end}
use Rattle.packet.specs.Wrong.{is_step, is_text, Begins, begins, wrong, wrong_word, wrong_in}
use Rattle.packet.specs.Spells.{NameWords, NumberWords, TermWords, TermsWords, AtomWords, GoalWords, ClauseWords, StepWords, StripWords, Is, Spells}

-- how a word is written; what is none of them has no writing
unfoldable pub writing : Word → List ℕ
writing W.V = octets "v"
writing W.F = octets "f"
writing W.E = octets "e"
writing W.Atom = octets "atom"
writing W.Top = octets "top"
writing W.And = octets "and"
writing W.Or = octets "or"
writing W.Some = octets "some"
writing W.All = octets "all"
writing W.Imp = octets "imp"
writing W.Left = octets "left"
writing W.Right = octets "right"
writing W.Use = octets "use"
writing W.Rules = octets "rules"
writing W.Terms = octets "terms"
writing W.Nothing = []

-- a string is the writing of the word that it is
abbrev Wrote : List ℕ → Word → Type 0
Wrote w x = (x ≡ W.Nothing) ⊎ (w ≡ writing x)

wrote-in : (w : List ℕ) (rs : List (List ℕ × Word)) → Each (λ r. r.0 ≡ writing r.1) rs → Wrote w (look_for w rs)
wrote-in w [] u = inl refl
wrote-in w (r ∷ rs) (u, v) = go (same_name w r.0) refl (wrote-in w rs v)
  where
    go : (t : Bool) → same_name w r.0 ≡ t → Wrote w (look_for w rs) → Wrote w (choose t r.1 (look_for w rs))
    go true e ih = inr (same-names-equal w r.0 e ∙ u)
    go false e ih = ih

pub wrote : (w : List ℕ) → Wrote w (word_of w)
unfolding word_of writing
wrote w = wrote-in w words (search)

-- words of one rank are one word
numbered : ℕ → List (List ℕ × Word) → Word
numbered i [] = W.Nothing
numbered zero (r ∷ rs) = r.1
numbered (suc i) (r ∷ rs) = numbered i rs

ranked : (x : Word) → numbered (rank x) words ≡ x
unfolding rank numbered
ranked W.V = refl
ranked W.F = refl
ranked W.E = refl
ranked W.Atom = refl
ranked W.Top = refl
ranked W.And = refl
ranked W.Or = refl
ranked W.Some = refl
ranked W.All = refl
ranked W.Imp = refl
ranked W.Left = refl
ranked W.Right = refl
ranked W.Use = refl
ranked W.Rules = refl
ranked W.Terms = refl
ranked W.Nothing = refl

pub rank-once : (x y : Word) → rank x ≡ rank y → x ≡ y
rank-once x y e = sym (ranked x) ∙ ap (λ (i : ℕ). numbered i words) e ∙ ranked y

-- what holds of every row of a kind holds of a word and what is due after it
pub by_rows : (P : Word → Due → Type 0) (rs : List Row) → Each (λ r. P r.0 r.1) rs → (x : Word) (due : Due) → look x rs ≡ some due → P x due
by_rows P [] u x due h = nope h
by_rows P (r ∷ rs) (u, v) x due h = go (eqb (rank x) (rank r.0)) refl h (by_rows P rs v x due)
  where
    go : (t : Bool) → eqb (rank x) (rank r.0) ≡ t → choose t (some r.1) (look x rs) ≡ some due → (look x rs ≡ some due → P x due) → P x due
    go true e f ih =
        subst (λ (y : Word). P y due) (sym (rank-once x r.0 (eqb-true (rank x) (rank r.0) e)))
        (subst (P r.0) (some-injective r.1 due f) u)
    go false e f ih = ih f

-- no kind has a row for what is no word
no_row : (k : Kind) → due_after k W.Nothing ≡ none
unfolding due_after rows rank
no_row K.Name = refl
no_row K.Number = refl
no_row K.Step = refl
no_row K.Path = refl
no_row K.Term = refl
no_row K.Atom = refl
no_row K.Goal = refl
no_row K.Clause = refl
no_row K.Rules = refl
no_row K.Terms = refl
no_row K.Strip = refl

-- a list whose word has a row begins with the writing of that word
row_wrote : (k : Kind) (w : List ℕ) (due : Due) → due_after k (word_of w) ≡ some due → w ≡ writing (word_of w)
row_wrote k w due h = ⊎_elim (λ e. nope (sym (no_row k) ∙ ap (due_after k) (sym e) ∙ h)) (λ e. e) (wrote w)

-- members as they are due, each spelling its kind
abbrev In : Due → Sexps → Type 0
In due Sexps.nil = may_end due ≡ true
In due (Sexps.cons x xs) = elim (next due) [ none ↦ ⊥ | some n ↦ Spells n.0 x × In n.1 xs ]

-- and a list that begins with a word of its kind
abbrev InWord : Kind → Sexps → Type 0
InWord k Sexps.nil = ⊥
InWord k (Sexps.cons (Sexp.hinted h w) xs) = ⊥
InWord k (Sexps.cons (Sexp.list ys) xs) = ⊥
InWord k (Sexps.cons (Sexp.str w) xs) = (due : Due) × (due_after k (word_of w) ≡ some due) × In due xs

-- one member, two, any number after one
by_one : (a : Kind) (P : Sexps → Type 0) → ((x : Sexp) → Spells a x → P (one x)) → (xs : Sexps) → In (D.One a) xs → P xs
unfolding next may_end
by_one a P f Sexps.nil i = absurd (false≢true i)
by_one a P f (Sexps.cons x Sexps.nil) (u, i) = f x u
by_one a P f (Sexps.cons x (Sexps.cons y xs)) (u, i) = absurd i

by_two : (a b : Kind) (P : Sexps → Type 0) → ((x y : Sexp) → Spells a x → Spells b y → P (two x y)) → (xs : Sexps) → In (D.Two a b) xs → P xs
unfolding next may_end
by_two a b P f Sexps.nil i = absurd (false≢true i)
by_two a b P f (Sexps.cons x xs) (u, i) = by_one b (λ ys. P (Sexps.cons x ys)) (λ y v. f x y u v) xs i

by_end : (P : Sexps → Type 0) → P Sexps.nil → (xs : Sexps) → In D.End xs → P xs
unfolding next may_end
by_end P p Sexps.nil i = p
by_end P p (Sexps.cons x xs) i = absurd i

each_of : {A : Type 0} (k : Kind) (written : A → Sexp) (Words : A → Type 0) → ((x : Sexp) → Spells k x → Is written Words x) → (xs : Sexps) → In (D.Each k) xs → (ys : List A) × (xs ≡ each written ys) × Each Words ys
unfolding next may_end
each_of k written Words f Sexps.nil i = ([], refl, tt)
each_of k written Words f (Sexps.cons x xs) (u, i) =
    let (a, e, v) = f x u in
    let (ys, e', v') = each_of k written Words f xs i in
    (a ∷ ys, ap₂ Sexps.cons e e', (v, v'))

terms-of : (xs : Sexps) → In (D.Each K.Term) xs → (ts : Terms) × (xs ≡ term_sexps ts) × TermsWords ts
unfolding next may_end
terms-of Sexps.nil i = (Terms.nil, refl, tt)
terms-of (Sexps.cons x xs) ((t, e, v), i) = let (ts, e', v') = terms-of xs i in (Terms.cons t ts, ap₂ Sexps.cons e e', (v, v'))

-- a name and terms
by_name : (P : Sexps → Type 0) → ((g : Name) (ts : Terms) → NameWords g → TermsWords ts → P (Sexps.cons (Sexp.str g) (term_sexps ts))) → (xs : Sexps) → In (D.OneEach K.Name K.Term) xs → P xs
unfolding next may_end
by_name P f Sexps.nil i = absurd (false≢true i)
by_name P f (Sexps.cons x xs) ((g, e, u), i) =
    let (ts, e', v) = terms-of xs i in
    subst P (sym (ap₂ Sexps.cons e e')) (f g ts u v)

-- every row of a kind makes something of that kind
abbrev Makes : Kind → Word → Due → Type 0
Makes k x due = (xs : Sexps) → In due xs → Spells k (word (writing x) xs)

abbrev Table : Kind → Type 0
Table k = Each (λ r. Makes k r.0 r.1) (rows k)

-- a list of a word and one member, or two, as what the members are written
of_one : (k a : Kind) (w : List ℕ) → ((x : Sexp) → Spells a x → Spells k (word w (one x))) → (xs : Sexps) → In (D.One a) xs → Spells k (word w xs)
of_one k a w = by_one a (λ xs. Spells k (word w xs))

of_two : (k a b : Kind) (w : List ℕ) → ((x y : Sexp) → Spells a x → Spells b y → Spells k (word w (two x y))) → (xs : Sexps) → In (D.Two a b) xs → Spells k (word w xs)
of_two k a b w = by_two a b (λ xs. Spells k (word w xs))

holding : (w : List ℕ) {x x' : Sexp} → x ≡ x' → word w (one x) ≡ word w (one x')
holding w e = ap (λ y. word w (one y)) e

holding-two : (w : List ℕ) {x x' y y' : Sexp} → x ≡ x' → y ≡ y' → word w (two x y) ≡ word w (two x' y')
holding-two w e f = ap₂ (λ a b. word w (two a b)) e f

infixr 2 ◌⨾◌
-- one row, and those after it
◌⨾◌ : {A B : Type 0} → A → B → A × B
a ⨾ b = (a, b)

term-table : Table K.Term
unfolding rows writing
term-table =
    (of_one K.Term K.Number (octets "v") λ x (i, e, u). (Term.v i, holding (octets "v") e, u))
    ⨾ (by_name (λ xs. Spells K.Term (word (octets "f") xs)) λ g ts u v. (Term.f g ts, refl, (u, v)))
    ⨾ (of_one K.Term K.Number (octets "e") λ x (i, e, u). (Term.e i, holding (octets "e") e, u))
    ⨾ tt

atom-table : Table K.Atom
unfolding rows writing
atom-table = (by_name (λ xs. Spells K.Atom (word (octets "atom") xs)) λ p ts u v. (Atom.atom p ts, refl, (u, v))) ⨾ tt

goal-table : Table K.Goal
unfolding rows writing
goal-table =
    by_end (λ xs. Spells K.Goal (word (octets "top") xs)) (Goal.top, refl, tt)
    ⨾ (by_name (λ xs. Spells K.Goal (word (octets "atom") xs)) λ p ts u v. (Goal.atom (Atom.atom p ts), refl, (u, v)))
    ⨾ (of_two K.Goal K.Goal K.Goal (octets "and") λ x y (g, e, u) (h, f, v). (Goal.and g h, holding-two (octets "and") e f, (u, v)))
    ⨾ (of_two K.Goal K.Goal K.Goal (octets "or") λ x y (g, e, u) (h, f, v). (Goal.or g h, holding-two (octets "or") e f, (u, v)))
    ⨾ (of_one K.Goal K.Goal (octets "some") λ x (g, e, u). (Goal.some tt g, holding (octets "some") e, u))
    ⨾ (of_one K.Goal K.Goal (octets "all") λ x (g, e, u). (Goal.all tt g, holding (octets "all") e, u))
    ⨾ (of_two K.Goal K.Clause K.Goal (octets "imp") λ x y (d, e, u) (g, f, v). (Goal.imp d g, holding-two (octets "imp") e f, (u, v)))
    ⨾ tt

clause-table : Table K.Clause
unfolding rows writing
clause-table =
    (by_name (λ xs. Spells K.Clause (word (octets "atom") xs)) λ p ts u v. (Clause.atom_d (Atom.atom p ts), refl, (u, v)))
    ⨾ (of_two K.Clause K.Goal K.Atom (octets "imp") λ x y (g, e, u) (a, f, v). (Clause.imp_d g a, holding-two (octets "imp") e f, (u, v)))
    ⨾ (of_one K.Clause K.Clause (octets "all") λ x (d, e, u). (Clause.all_d tt d, holding (octets "all") e, u))
    ⨾ (of_two K.Clause K.Clause K.Clause (octets "and") λ x y (c, e, u) (d, f, v). (Clause.and_d c d, holding-two (octets "and") e f, (u, v)))
    ⨾ tt

rules-table : Table K.Rules
unfolding rows writing
rules-table =
    (λ xs i. let (ds, e, u) = each_of K.Clause clause_sexp ClauseWords (λ x s. s) xs i in (ds, ap (word (octets "rules")) e, u)) ⨾ tt

candidates-table : Table K.Terms
unfolding rows writing
candidates-table =
    (λ xs i. let (ts, e, u) = each_of K.Term term_sexp TermWords (λ x s. s) xs i in (ts, ap (word (octets "terms")) e, u)) ⨾ tt

-- a `use`, without a third part and with one
of-use : (xs : Sexps) → In (D.TwoPerhaps K.Number K.Path K.Strip) xs → Spells K.Strip (word (octets "use") xs)
unfolding next may_end
of-use Sexps.nil i = absurd (false≢true i)
of-use (Sexps.cons x Sexps.nil) (u, i) = absurd (false≢true i)
of-use (Sexps.cons x (Sexps.cons y Sexps.nil)) ((k, e, u), ((path, f, v), i)) = (Strip.use₀ k path, holding-two (octets "use") e f, (u, v))
of-use (Sexps.cons x (Sexps.cons y (Sexps.cons z Sexps.nil))) ((k, e, u), ((path, f, v), ((P, g, w), i))) = (
  Strip.use₁ k path P,
  ap₂ (λ a b. word (octets "use") (Sexps.cons a b)) e (ap₂ two f g),
  (u, v, w),
)
of-use (Sexps.cons x (Sexps.cons y (Sexps.cons z (Sexps.cons t xs)))) (u, (v, (w, i))) = absurd i

strip-table : Table K.Strip
unfolding rows writing
strip-table =
    by_end (λ xs. Spells K.Strip (word (octets "top") xs)) (Strip.top, refl, tt)
    ⨾ (of_two K.Strip K.Strip K.Strip (octets "and") λ x y (P, e, u) (R, f, v). (Strip.and P R, holding-two (octets "and") e f, (u, v)))
    ⨾ (of_one K.Strip K.Strip (octets "left") λ x (P, e, u). (Strip.left P, holding (octets "left") e, u))
    ⨾ (of_one K.Strip K.Strip (octets "right") λ x (P, e, u). (Strip.right P, holding (octets "right") e, u))
    ⨾ (of_two K.Strip K.Number K.Strip (octets "some") λ x y (i, e, u) (P, f, v). (Strip.some i P, holding-two (octets "some") e f, (u, v)))
    ⨾ (of_one K.Strip K.Strip (octets "all") λ x (P, e, u). (Strip.all P, holding (octets "all") e, u))
    ⨾ (of_one K.Strip K.Strip (octets "imp") λ x (P, e, u). (Strip.imp P, holding (octets "imp") e, u))
    ⨾ of-use
    ⨾ tt

-- a list that begins with a word of its kind
worded : (k : Kind) → Table k → (xs : Sexps) → InWord k xs → Spells k (Sexp.list xs)
unfolding due_after
worded k t Sexps.nil i = absurd i
worded k t (Sexps.cons (Sexp.hinted h w) xs) i = absurd i
worded k t (Sexps.cons (Sexp.list ys) xs) i = absurd i
worded k t (Sexps.cons (Sexp.str w) xs) (due, h, i) =
    subst (λ (v : List ℕ). Spells k (word v xs)) (sym (row_wrote k w due h)) (by_rows (Makes k) (rows k) t (word_of w) due h xs i)

-- a string
chosen : (t : Bool) (at : ℕ) → choose t none (some at) ≡ none → t ≡ true
chosen true at e = refl
chosen false at e = nope (sym e)

step-text : (w : List ℕ) → is_step w ≡ true → Spells K.Step (Sexp.str w)
unfolding is_step
step-text w h = go (same_name w (octets "l")) refl (same_name w (octets "r")) refl h
  where
    go : (s : Bool) → same_name w (octets "l") ≡ s → (t : Bool) → same_name w (octets "r") ≡ t → (s || t || is_number w) ≡ true → Spells K.Step (Sexp.str w)
    go true e t f g = (Step.l, ap Sexp.str (same-names-equal w (octets "l") e), tt)
    go false e true f g = (Step.r, ap Sexp.str (same-names-equal w (octets "r") f), tt)
    go false e false f g = let (n, m) = number-back w g in (Step.n (worth w), ap Sexp.str n, m)

text-spells : (k : Kind) (w : List ℕ) → is_text k w ≡ true → Spells k (Sexp.str w)
unfolding is_text
text-spells K.Name w h = (w, refl, h)
text-spells K.Number w h = let (n, m) = number-back w h in (worth w, ap Sexp.str n, m)
text-spells K.Step w h = step-text w h
text-spells K.Path w h = absurd (false≢true h)
text-spells K.Term w h = absurd (false≢true h)
text-spells K.Atom w h = absurd (false≢true h)
text-spells K.Goal w h = absurd (false≢true h)
text-spells K.Clause w h = absurd (false≢true h)
text-spells K.Rules w h = absurd (false≢true h)
text-spells K.Terms w h = absurd (false≢true h)
text-spells K.Strip w h = absurd (false≢true h)

-- a list
list-spells : (k : Kind) (xs : Sexps) (at : ℕ) → (wrong_in (D.Each K.Step) (at + 1) xs ≡ none → In (D.Each K.Step) xs) → (wrong_word k (at + 1) xs ≡ none → InWord k xs) → wrong k at (Sexp.list xs) ≡ none → Spells k (Sexp.list xs)
unfolding wrong begins
list-spells K.Name xs at f g h = nope (sym h)
list-spells K.Number xs at f g h = nope (sym h)
list-spells K.Step xs at f g h = nope (sym h)
list-spells K.Path xs at f g h = let (path, e, u) = each_of K.Step step_sexp StepWords (λ x s. s) xs (f h) in (path, ap Sexp.list e, u)
list-spells K.Term xs at f g h = worded K.Term term-table xs (g h)
list-spells K.Atom xs at f g h = worded K.Atom atom-table xs (g h)
list-spells K.Goal xs at f g h = worded K.Goal goal-table xs (g h)
list-spells K.Clause xs at f g h = worded K.Clause clause-table xs (g h)
list-spells K.Rules xs at f g h = worded K.Rules rules-table xs (g h)
list-spells K.Terms xs at f g h = worded K.Terms candidates-table xs (g h)
list-spells K.Strip xs at f g h = worded K.Strip strip-table xs (g h)

-- a word and what is due after it
after-word : (k : Kind) (w : List ℕ) (xs : Sexps) (at to : ℕ) → ((due : Due) → wrong_in due to xs ≡ none → In due xs) → (o : Option Due) → due_after k (word_of w) ≡ o → ◌≡◌ {A = Option ℕ} (elim o as (λ y. Option ℕ) [ none ↦ some at | some due ↦ wrong_in due to xs ]) none → InWord k (Sexps.cons (Sexp.str w) xs)
after-word k w xs at to f none e h = nope (sym h)
after-word k w xs at to f (some due) e h = (due, e, f due h)

-- a member and what is due after it
after-member : (x : Sexp) (xs : Sexps) (at to : ℕ) → ((k : Kind) → wrong k at x ≡ none → Spells k x) → ((due : Due) → wrong_in due to xs ≡ none → In due xs) → (o : Option (Kind × Due)) → ◌≡◌ {A = Option ℕ} (elim o as (λ y. Option ℕ) [ none ↦ some at | some n ↦ or_else (wrong n.0 at x) (wrong_in n.1 to xs) ]) none → elim o as (λ y. Type 0) [ none ↦ ⊥ | some n ↦ Spells n.0 x × In n.1 xs ]
after-member x xs at to f g none h = nope (sym h)
after-member x xs at to f g (some n) h = let (a, b) = or_else-none (wrong n.0 at x) (wrong_in n.1 to xs) h in (f n.0 a, g n.1 b)

mutual
  unfolding wrong

  -- an expression in which nothing is wrong
  pub built-spells : (e : Sexp) (k : Kind) (at : ℕ) → wrong k at e ≡ none → Spells k e
  built-spells (Sexp.str w) k at h = text-spells k w (chosen (is_text k w) at h)
  built-spells (Sexp.hinted t w) k at h = nope (sym h)
  built-spells (Sexp.list xs) k at h = list-spells k xs at (λ f. built_in xs (D.Each K.Step) (at + 1) f) (λ f. built-word xs k (at + 1) f) h

  built-word : (xs : Sexps) (k : Kind) (at : ℕ) → wrong_word k at xs ≡ none → InWord k xs
  built-word Sexps.nil k at h = nope (sym h)
  built-word (Sexps.cons (Sexp.hinted t w) xs) k at h = nope (sym h)
  built-word (Sexps.cons (Sexp.list ys) xs) k at h = nope (sym h)
  built-word (Sexps.cons (Sexp.str w) xs) k at h =
      after-word k w xs at (at + length (spell (Sexp.str w))) (λ due f. built_in xs due (at + length (spell (Sexp.str w))) f) (due_after k (word_of w)) refl h

  built_in : (xs : Sexps) (due : Due) (at : ℕ) → wrong_in due at xs ≡ none → In due xs
  built_in Sexps.nil due at h = chosen (may_end due) at h
  built_in (Sexps.cons x xs) due at h =
      after-member x xs at (at + length (spell x)) (λ k f. built-spells x k at f) (λ due f. built_in xs due (at + length (spell x)) f) (next due) h
