-- What the tests of a file's expression say on the trees: known to the carrier, few, and with nothing barred.
use Prim.Native.Nat.{ℕ, suc, ◌+◌, ◌≤◌}
use mathlib.Core.Path.{◌≡◌, refl, sym, ◌∙◌, ap}
use mathlib.Core.Bool.{Bool, true, false, false≢true}
use mathlib.Core.List.{List, [], ◌∷◌}
use mathlib.Core.Logic.{◌↔◌}
use mathlib.Core.Option.{Option, none, some}
use native.Mathlib.Omega.{arith}
use lib.ListN.{length}
use Rattle.basics.specs.Choice.{nope, or_else-none, or_else}
use Rattle.harrop.specs.Formula.{Term, Goal, Clause, Strip}
use Rattle.harrop.specs.Place.{Plain}
use Rattle.sexp.specs.Sexp.{Sexp, Sexps, spell}
use Rattle.sexp.specs.Known.{Known, Knowns}
use Rattle.packet.specs.declared.Kind.{Kind}
use Rattle.packet.specs.declared.Kind.TheVariants as K
use Rattle.packet.specs.declared.Due.{Due}
use Rattle.packet.specs.declared.Due.TheVariants as D
use Rattle.packet.specs.Written.{each, rules_sexp, goal_sexp, clause_sexp, term_sexp, terms_sexp, strip_sexp}
use Rattle.packet.specs.Table.{word_of, due_after, next}
use Rattle.packet.specs.Wrong.{Begins, begins, wrong, wrong_word, wrong_in}
use Rattle.packet.specs.Barred.{term_ok, goal_ok, clause_ok, each_ok, barred}
use Rattle.packet.specs.File.{most_members, counted, holds}
use Rattle.packet.specs.Refusal.{Unbarred, number, Few}
use Rattle.packet.specs.Sound.{GoodRules, GoodGoal, GoodCandidates, GoodStrip}
use Rattle.packet.proofs.BarredLaws.{clear, rules-clear, goal-clear, candidates-clear, strip-clear}
use Rattle.packet.proofs.FileLaws.{none-barred, barred-none}

-- what is built from the table has no hint: the carrier knows it
built-list : (k : Kind) (xs : Sexps) (at : ℕ) (hints : Bool) → (wrong_in (D.Each K.Step) (at + 1) xs ≡ none → Knowns hints xs) → (wrong_word k (at + 1) xs ≡ none → Knowns hints xs) → (b : Begins) → ◌≡◌ {A = Option ℕ} (elim b as (λ y. Option ℕ) [ Begins.never ↦ some at | Begins.plainly ↦ wrong_in (D.Each K.Step) (at + 1) xs | Begins.with_word ↦ wrong_word k (at + 1) xs ]) none → Knowns hints xs
built-list k xs at hints f g Begins.never h = nope (sym h)
built-list k xs at hints f g Begins.plainly h = f h
built-list k xs at hints f g Begins.with_word h = g h

built-rest : (xs : Sexps) (hints : Bool) (at to : ℕ) → ((due : Due) → wrong_in due to xs ≡ none → Knowns hints xs) → (o : Option Due) → ◌≡◌ {A = Option ℕ} (elim o as (λ y. Option ℕ) [ none ↦ some at | some due ↦ wrong_in due to xs ]) none → Knowns hints xs
built-rest xs hints at to f none h = nope (sym h)
built-rest xs hints at to f (some due) h = f due h

built-both : (x : Sexp) (xs : Sexps) (hints : Bool) (at to : ℕ) → ((k : Kind) → wrong k at x ≡ none → Known hints x) → ((due : Due) → wrong_in due to xs ≡ none → Knowns hints xs) → (o : Option (Kind × Due)) → ◌≡◌ {A = Option ℕ} (elim o as (λ y. Option ℕ) [ none ↦ some at | some n ↦ or_else (wrong n.0 at x) (wrong_in n.1 to xs) ]) none → Known hints x × Knowns hints xs
built-both x xs hints at to f g none h = nope (sym h)
built-both x xs hints at to f g (some n) h = let (a, b) = or_else-none (wrong n.0 at x) (wrong_in n.1 to xs) h in (f n.0 a, g n.1 b)

mutual
  unfolding wrong

  pub built-known : (e : Sexp) (hints : Bool) (k : Kind) (at : ℕ) → wrong k at e ≡ none → Known hints e
  built-known (Sexp.str w) hints k at h = tt
  built-known (Sexp.hinted t w) hints k at h = nope (sym h)
  built-known (Sexp.list xs) hints k at h =
      built-list k xs at hints (λ f. built-knowns xs hints (D.Each K.Step) (at + 1) f) (λ f. built-word xs hints k (at + 1) f) (begins k) h

  built-word : (xs : Sexps) (hints : Bool) (k : Kind) (at : ℕ) → wrong_word k at xs ≡ none → Knowns hints xs
  built-word Sexps.nil hints k at h = tt
  built-word (Sexps.cons (Sexp.hinted t w) xs) hints k at h = nope (sym h)
  built-word (Sexps.cons (Sexp.list ys) xs) hints k at h = nope (sym h)
  built-word (Sexps.cons (Sexp.str w) xs) hints k at h =
      (tt, built-rest xs hints at (at + length (spell (Sexp.str w))) (λ due f. built-knowns xs hints due (at + length (spell (Sexp.str w))) f) (due_after k (word_of w)) h)

  built-knowns : (xs : Sexps) (hints : Bool) (due : Due) (at : ℕ) → wrong_in due at xs ≡ none → Knowns hints xs
  built-knowns Sexps.nil hints due at h = tt
  built-knowns (Sexps.cons x xs) hints due at h =
      built-both x xs hints at (at + length (spell x)) (λ k f. built-known x hints k at f) (λ d f. built-knowns xs hints d (at + length (spell x)) f) (next due) h

-- as many rules or candidates as are written
number-each : {A : Type 0} (written : A → Sexp) (xs : List A) → number (each written xs) ≡ length xs
number-each written [] = refl
number-each written (x ∷ xs) = ap suc (number-each written xs)

-- nothing is barred exactly if the test says so
clear_none : (o : Option ℕ) → clear o ≡ true → o ≡ none
clear_none none h = refl
clear_none (some at) h = absurd (false≢true h)

unbarred-when : (k : Kind) (e : Sexp) (ok : Bool) → clear (barred (holds k) 0 0 e) ≡ ok → Unbarred k e ↔ (ok ≡ true)
unbarred-when k e ok h = (
  λ u. sym h ∙ ap clear (none-barred k e u),
  λ t. barred-none k e (clear_none (barred (holds k) 0 0 e) (h ∙ t)),
)

pub rules-good : (ds : List (Clause Plain)) → (Few K.Rules (rules_sexp ds) × Unbarred K.Rules (rules_sexp ds)) ↔ GoodRules ds
unfolding counted holds
rules-good ds =
    let n = number-each clause_sexp ds in
    let (f, g) = unbarred-when K.Rules (rules_sexp ds) (each_ok (clause_ok 0) ds) (rules-clear 0 0 ds) in
    (λ (a, b). record { few = let y = a refl in omega arith; unbarred = f b }, λ r. (λ c. let y = r.few in omega arith, g r.unbarred))

pub goal-good : (g : Goal Plain) → (Few K.Goal (goal_sexp g) × Unbarred K.Goal (goal_sexp g)) ↔ GoodGoal g
unfolding counted holds
goal-good g =
    let (f, h) = unbarred-when K.Goal (goal_sexp g) (goal_ok 0 g) (goal-clear 0 0 g) in
    (λ (a, b). f b, λ r. (λ c. absurd (false≢true c), h r))

pub candidates-good : (ts : List Term) → (Few K.Terms (terms_sexp ts) × Unbarred K.Terms (terms_sexp ts)) ↔ GoodCandidates ts
unfolding counted holds
candidates-good ts =
    let n = number-each term_sexp ts in
    let (f, g) = unbarred-when K.Terms (terms_sexp ts) (each_ok (term_ok true 0) ts) (candidates-clear 0 0 ts) in
    (λ (a, b). record { few = let y = a refl in omega arith; unbarred = f b }, λ r. (λ c. let y = r.few in omega arith, g r.unbarred))

pub strip-good : (P : Strip) → (Few K.Strip (strip_sexp P) × Unbarred K.Strip (strip_sexp P)) ↔ GoodStrip P
unfolding counted
strip-good P = (λ x. tt, λ u. (λ c. absurd (false≢true c), barred-none K.Strip (strip_sexp P) (strip-clear (holds K.Strip) P 0 0)))
