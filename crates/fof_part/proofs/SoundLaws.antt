-- What the machine reads is spelt (document 02, One): where it gives the items of a text, there are lines that are spelt so, crate fof_truth makes a rule or a goal of each, and the items are those.
-- A step of the machine gives its due the meaning that it has (MeantLaws) if those that it leaves have theirs; so a run of any length does, by one induction on the steps.
use Prim.Native.Nat.{ℕ, zero, suc, ◌+◌, ◌*◌, ◌≤◌}
use mathlib.Core.Path.{◌≡◌, refl, sym, ◌∙◌, ap, ap₂, subst}
use mathlib.Core.Bool.{Bool, true, false}
use mathlib.Core.List.{List, [], ◌∷◌, ◌++◌, append_assoc}
use mathlib.Core.Option.{Option, none, some, some-injective}
use native.Mathlib.Omega.{arith}
use borrow.Author.Tests.{eqb-true}
use lib.Dec.{eqb}
use lib.ListN.{length}
use Rattle.basics.specs.Choice.{choose, ◌>>=◌, maybe, provided, nope, bind-some, provided-some}
use Rattle.basics.specs.Text.{octets}
use Rattle.harrop.specs.Formula.{Name, Goal, Clause}
use Rattle.harrop.specs.Bindings.{same_name}
use Rattle.harrop.specs.Place.{Plain}
use Rattle.harrop.proofs.SameLaws.{same-names-equal}
use Rattle.sexp.specs.Sexp.{Sexp}
use Rattle.sexp.specs.Words.{is_name}
use Rattle.calculus.specs.Formula as numbered
use Rattle.fof_truth.specs.Formula.{Formula, Role, Line}
use Rattle.fof_truth.specs.Numbered.{Scope, number_of}
use Rattle.fof_truth.specs.Sentence.{Sentence, in_role, sentence_of}
use Rattle.fof_truth.specs.Book.{sentences_of}
use Rattle.fof_part.specs.Sign.{Sign, code, opens_code, closes_code, lists_code, ends_code, comma_code, colon_code, dot_code, then_code}
use Rattle.fof_part.specs.Spelled as spelled
use Rattle.fof_part.specs.Spelled.{LogicSpelt, role_word, LineSpelt, BookSpelt}
use Rattle.fof_part.specs.Mark.{Mark, marks_of}
use Rattle.fof_part.specs.Due.{Sort, Link, Quantifier, Due, Chain, chain, headed, Did, did, by_chain, quantified, topped, unit_at, taking, link_code, variable_at, behind_at, arguments_at, terms_at, term_at, left, due_at, Ran, after, run, formula_at}
use Rattle.fof_part.specs.Lines.{word, role_of, sort_of, Read, introduced, line_at, lines_from, lines_at, item, items}
use Rattle.fof_part.proofs.RunLaws.{run_step}
use Rattle.fof_part.proofs.BecomesLaws as becomes
use Rattle.fof_part.proofs.BecomesLaws.{Becomes}
use Rattle.fof_part.proofs.MeantLaws as meant
use Rattle.fof_part.proofs.MeantLaws.{Formed, formed, Meant, scope_after, Meants, scopes_after, done, next, just}

-- the sign of a number, for those without a word
abbrev plain_sign : ℕ → Sign
plain_sign n =
    choose (eqb n 2) Sign.truth (choose (eqb n 3) Sign.opens (choose (eqb n 4) Sign.closes (choose (eqb n 5) Sign.lists (choose (eqb n 6) Sign.ends (choose (eqb n 7) Sign.comma
    (choose (eqb n 8) Sign.colon (choose (eqb n 9) Sign.dot (choose (eqb n 10) Sign.every (choose (eqb n 11) Sign.exist (choose (eqb n 12) Sign.both (choose (eqb n 13) Sign.either
    (choose (eqb n 14) Sign.then Sign.other))))))))))))

decoded : (s : Sign) → 2 ≤ code s → s ≡ plain_sign (code s)
decoded (Sign.lower w) h = absurd (omega arith)
decoded (Sign.upper w) h = absurd (omega arith)
decoded Sign.truth h = refl
decoded Sign.opens h = refl
decoded Sign.closes h = refl
decoded Sign.lists h = refl
decoded Sign.ends h = refl
decoded Sign.comma h = refl
decoded Sign.colon h = refl
decoded Sign.dot h = refl
decoded Sign.every h = refl
decoded Sign.exist h = refl
decoded Sign.both h = refl
decoded Sign.either h = refl
decoded Sign.then h = refl
decoded Sign.other h = refl

-- a sign that is taken was ahead
taken : (c : ℕ) (ss r : List Sign) → 2 ≤ c → taking c ss ≡ some r → ss ≡ plain_sign c ∷ r
taken c [] r l e = nope e
taken c (s ∷ ss) r l e =
    let (t, h) = provided-some (eqb (code s) c) (some ss) r e in
    let k = eqb-true (code s) c t in
    ap₂ ◌∷◌ (decoded s (subst (λ (n : ℕ). 2 ≤ n) (sym k) l) ∙ ap plain_sign k) (some-injective ss r h)

-- what a step does for its due: the signs that it took, and its meaning from that of what it left
abbrev Stepped : Due → Scope → List Sign → Option Did → Type 0
Stepped d sc ss none = Unit {0}
Stepped d sc ss (some x) = (v : List Sign) × (ss ≡ v ++ x.rest) × (scopes_after x.dues x.scope ≡ scope_after d sc) × ((w : List Sign) (ms : List Mark) → Meants x.dues x.scope w ms → Meant d sc (v ++ w) (x.marks ++ ms))

bind-stepped : {A : Type 0} (d : Due) (sc : Scope) (ss : List Sign) (o : Option A) (f : A → Option Did) → ((a : A) → o ≡ some a → Stepped d sc ss (f a)) → Stepped d sc ss (o >>= f)
bind-stepped d sc ss none f k = tt
bind-stepped d sc ss (some a) f k = k a refl

maybe-stepped : {A : Type 0} (d : Due) (sc : Scope) (ss : List Sign) (o : Option A) (b : Option Did) (f : A → Option Did) → Stepped d sc ss b → ((a : A) → o ≡ some a → Stepped d sc ss (f a)) → Stepped d sc ss (maybe o b f)
maybe-stepped d sc ss none b f h k = h
maybe-stepped d sc ss (some a) b f h k = k a refl

provided-stepped : (d : Due) (sc : Scope) (ss : List Sign) (t : Bool) (o : Option Did) → (t ≡ true → Stepped d sc ss o) → Stepped d sc ss (provided t o)
provided-stepped d sc ss true o k = k refl
provided-stepped d sc ss false o k = tt

formula-step : (s : Sort) (c : Chain) (sc : Scope) (ss : List Sign) → Stepped (Due.formula s) sc ss (by_chain s c sc ss)
formula-step Sort.goal Chain.lone sc ss = ([], refl, refl, λ w ms m. meant.alone (just (Due.unit Sort.goal) sc w ms m))
formula-step Sort.clause Chain.lone sc ss = ([], refl, refl, λ w ms m. meant.alone (just (Due.unit Sort.clause) sc w ms m))
formula-step Sort.head Chain.lone sc ss = ([], refl, refl, λ w ms m. meant.alone (just (Due.unit Sort.head) sc w ms m))
formula-step Sort.goal (Chain.linked l n) sc ss = ([], refl, refl, λ w ms m. meant.linked l Sort.goal n sc w ms tt m)
formula-step Sort.clause (Chain.linked Link.conj n) sc ss = ([], refl, refl, λ w ms m. meant.linked Link.conj Sort.clause n sc w ms tt m)
formula-step Sort.clause (Chain.linked Link.disj n) sc ss = tt
formula-step Sort.head (Chain.linked l n) sc ss = tt
formula-step Sort.goal (Chain.implied n) sc ss = ([], refl, refl, λ w ms m. meant.asked sc w ms m)
formula-step Sort.clause (Chain.implied n) sc ss = ([], refl, refl, λ w ms m. meant.ruled sc w ms m)
formula-step Sort.head (Chain.implied n) sc ss = tt

every-step : (s : Sort) (sc : Scope) (ss : List Sign) → Stepped (Due.unit s) sc (Sign.every ∷ ss) (quantified Quantifier.for_all s sc ss)
every-step Sort.goal sc ss = (Sign.every ∷ [], refl, refl, λ w ms m. meant.spelt-as Sort.goal sc Sign.every (λ F v u. meant.every-unit u) (just (Due.list Quantifier.for_all Sort.goal) sc w ms m tt))
every-step Sort.clause sc ss = (Sign.every ∷ [], refl, refl, λ w ms m. meant.spelt-as Sort.clause sc Sign.every (λ F v u. meant.every-unit u) (just (Due.list Quantifier.for_all Sort.clause) sc w ms m tt))
every-step Sort.head sc ss = tt

exist-step : (s : Sort) (sc : Scope) (ss : List Sign) → Stepped (Due.unit s) sc (Sign.exist ∷ ss) (quantified Quantifier.exists s sc ss)
exist-step Sort.goal sc ss = (Sign.exist ∷ [], refl, refl, λ w ms m. meant.spelt-as Sort.goal sc Sign.exist (λ F v u. meant.exist-unit u) (just (Due.list Quantifier.exists Sort.goal) sc w ms m tt))
exist-step Sort.clause sc ss = tt
exist-step Sort.head sc ss = tt

top-step : (s : Sort) (sc : Scope) (ss : List Sign) → Stepped (Due.unit s) sc (Sign.truth ∷ ss) (topped s sc ss)
top-step Sort.goal sc ss = (Sign.truth ∷ [], refl, refl, λ w ms m. meant.topped sc w ms m)
top-step Sort.clause sc ss = tt
top-step Sort.head sc ss = tt

unit-step : (s : Sort) (sc : Scope) (ss : List Sign) → Stepped (Due.unit s) sc ss (unit_at s sc ss)
unit-step s sc [] = tt
unit-step s sc (Sign.lower p ∷ ss) = provided-stepped (Due.unit s) sc (Sign.lower p ∷ ss) (is_name p) (did (headed (octets "atom") ++ (Mark.string p ∷ [])) (Due.arguments ∷ Due.shut ∷ []) sc ss) λ n. (Sign.lower p ∷ [], refl, refl, λ w ms m. meant.atomic s sc p w ms n m)
unit-step s sc (Sign.upper w ∷ ss) = tt
unit-step s sc (Sign.truth ∷ ss) = top-step s sc ss
unit-step s sc (Sign.opens ∷ ss) = (Sign.opens ∷ [], refl, refl, λ w ms m. meant.closed s sc w ms m)
unit-step s sc (Sign.closes ∷ ss) = tt
unit-step s sc (Sign.lists ∷ ss) = tt
unit-step s sc (Sign.ends ∷ ss) = tt
unit-step s sc (Sign.comma ∷ ss) = tt
unit-step s sc (Sign.colon ∷ ss) = tt
unit-step s sc (Sign.dot ∷ ss) = tt
unit-step s sc (Sign.every ∷ ss) = every-step s sc ss
unit-step s sc (Sign.exist ∷ ss) = exist-step s sc ss
unit-step s sc (Sign.both ∷ ss) = tt
unit-step s sc (Sign.either ∷ ss) = tt
unit-step s sc (Sign.then ∷ ss) = tt
unit-step s sc (Sign.other ∷ ss) = tt

variable-step : (q : Quantifier) (s : Sort) (sc : Scope) (ss : List Sign) → Stepped (Due.variable q s) sc ss (variable_at q s sc ss)
variable-step q s sc [] = tt
variable-step q s sc (Sign.upper x ∷ ss) = (Sign.upper x ∷ [], refl, refl, λ w ms m. meant.bound q s sc x w ms m)
variable-step q s sc (Sign.lower w ∷ ss) = tt
variable-step q s sc (Sign.truth ∷ ss) = tt
variable-step q s sc (Sign.opens ∷ ss) = tt
variable-step q s sc (Sign.closes ∷ ss) = tt
variable-step q s sc (Sign.lists ∷ ss) = tt
variable-step q s sc (Sign.ends ∷ ss) = tt
variable-step q s sc (Sign.comma ∷ ss) = tt
variable-step q s sc (Sign.colon ∷ ss) = tt
variable-step q s sc (Sign.dot ∷ ss) = tt
variable-step q s sc (Sign.every ∷ ss) = tt
variable-step q s sc (Sign.exist ∷ ss) = tt
variable-step q s sc (Sign.both ∷ ss) = tt
variable-step q s sc (Sign.either ∷ ss) = tt
variable-step q s sc (Sign.then ∷ ss) = tt
variable-step q s sc (Sign.other ∷ ss) = tt

behind-step : (q : Quantifier) (s : Sort) (sc : Scope) (ss : List Sign) → Stepped (Due.behind q s) sc ss (behind_at q s sc ss)
behind-step q s sc ss =
    maybe-stepped (Due.behind q s) sc ss (taking comma_code ss) (taking ends_code ss >>= λ r. did [] (Due.over s ∷ []) sc r) (λ r. did [] (Due.variable q s ∷ []) sc r)
    (bind-stepped (Due.behind q s) sc ss (taking ends_code ss) (λ r. did [] (Due.over s ∷ []) sc r)
    λ r e. (Sign.ends ∷ [], taken ends_code ss r (omega arith) e, refl, λ w ms m a. meant.spelt-as s sc Sign.ends (λ F v u. meant.last u) (just (Due.over s) sc w ms m)))
    λ r e. (Sign.comma ∷ [], taken comma_code ss r (omega arith) e, refl, λ w ms m a. meant.spelt-as s sc Sign.comma (λ F v u. meant.further u) (just (Due.variable q s) sc w ms m a))

arguments-step : (sc : Scope) (ss : List Sign) → Stepped Due.arguments sc ss (arguments_at sc ss)
arguments-step sc ss =
    maybe-stepped Due.arguments sc ss (taking opens_code ss) (did [] [] sc ss) (λ r. did [] (Due.term ∷ Due.terms ∷ []) sc r)
    ([], refl, refl, λ w ms m. meant.no_arguments sc w ms m)
    λ r e. (Sign.opens ∷ [], taken opens_code ss r (omega arith) e, refl, λ w ms m. meant.terms-as sc Sign.opens (λ ts v u. meant.given u) (meant.with-terms sc w ms m))

terms-step : (sc : Scope) (ss : List Sign) → Stepped Due.terms sc ss (terms_at sc ss)
terms-step sc ss =
    maybe-stepped Due.terms sc ss (taking comma_code ss) (taking closes_code ss >>= λ r. did [] [] sc r) (λ r. did [] (Due.term ∷ Due.terms ∷ []) sc r)
    (bind-stepped Due.terms sc ss (taking closes_code ss) (λ r. did [] [] sc r)
    λ r e. (Sign.closes ∷ [], taken closes_code ss r (omega arith) e, refl, λ w ms m. meant.no-terms sc w ms m))
    λ r e. (Sign.comma ∷ [], taken comma_code ss r (omega arith) e, refl, λ w ms m. meant.terms-as sc Sign.comma (λ ts v u. meant.further-term u) (meant.with-terms sc w ms m))

term-step : (sc : Scope) (ss : List Sign) → Stepped Due.term sc ss (term_at sc ss)
term-step sc [] = tt
term-step sc (Sign.upper x ∷ ss) = bind-stepped Due.term sc (Sign.upper x ∷ ss) (number_of sc x) _ λ i e. (Sign.upper x ∷ [], refl, refl, λ w ms m. meant.numbered sc x i w ms e m)
term-step sc (Sign.lower g ∷ ss) = provided-stepped Due.term sc (Sign.lower g ∷ ss) (is_name g) (did (headed (octets "f") ++ (Mark.string g ∷ [])) (Due.arguments ∷ Due.shut ∷ []) sc ss) λ n. (Sign.lower g ∷ [], refl, refl, λ w ms m. meant.functional sc g w ms n m)
term-step sc (Sign.truth ∷ ss) = tt
term-step sc (Sign.opens ∷ ss) = tt
term-step sc (Sign.closes ∷ ss) = tt
term-step sc (Sign.lists ∷ ss) = tt
term-step sc (Sign.ends ∷ ss) = tt
term-step sc (Sign.comma ∷ ss) = tt
term-step sc (Sign.colon ∷ ss) = tt
term-step sc (Sign.dot ∷ ss) = tt
term-step sc (Sign.every ∷ ss) = tt
term-step sc (Sign.exist ∷ ss) = tt
term-step sc (Sign.both ∷ ss) = tt
term-step sc (Sign.either ∷ ss) = tt
term-step sc (Sign.then ∷ ss) = tt
term-step sc (Sign.other ∷ ss) = tt

link-code : (l : Link) → 2 ≤ link_code l
link-code Link.conj = omega arith
link-code Link.disj = omega arith

link-sign : (l : Link) → plain_sign (link_code l) ≡ becomes.link_sign l
link-sign Link.conj = refl
link-sign Link.disj = refl

step : (d : Due) (sc : Scope) (ss : List Sign) → Stepped d sc ss (due_at d sc ss)
unfolding due_at
step (Due.formula s) sc ss = formula-step s (chain 0 ss) sc ss
step (Due.unit s) sc ss = unit-step s sc ss
step (Due.more l s zero) sc ss = ([], refl, refl, λ w ms m. meant.no-members l s sc w ms m)
step (Due.more l s (suc n)) sc ss = bind-stepped (Due.more l s (suc n)) sc ss (taking (link_code l) ss) (λ r. did [] (Due.unit s ∷ Due.shut ∷ Due.more l s n ∷ []) sc r) λ r e. (becomes.link_sign l ∷ [], taken (link_code l) ss r (link-code l) e ∙ ap (λ (x : Sign). x ∷ r) (link-sign l), refl, λ w ms m. meant.member l s n sc w ms m)
step Due.arrow sc ss = bind-stepped Due.arrow sc ss (taking then_code ss) (λ r. did [] [] sc r) λ r e. (Sign.then ∷ [], taken then_code ss r (omega arith) e, refl, λ w ms m. meant.nothing (Sign.then ∷ []) [] sc w ms m)
step Due.close sc ss = bind-stepped Due.close sc ss (taking closes_code ss) (λ r. did [] [] sc r) λ r e. (Sign.closes ∷ [], taken closes_code ss r (omega arith) e, refl, λ w ms m. meant.nothing (Sign.closes ∷ []) [] sc w ms m)
step (Due.list q s) sc ss = bind-stepped (Due.list q s) sc ss (taking lists_code ss) (λ r. did [] (Due.variable q s ∷ []) sc r) λ r e. (Sign.lists ∷ [], taken lists_code ss r (omega arith) e, refl, λ w ms m a. meant.spelt-as s sc Sign.lists (λ F v u. meant.list u) (just (Due.variable q s) sc w ms m a))
step (Due.variable q s) sc ss = variable-step q s sc ss
step (Due.behind q s) sc ss = behind-step q s sc ss
step (Due.over s) sc ss = bind-stepped (Due.over s) sc ss (taking colon_code ss) (λ r. did [] (Due.unit s ∷ []) sc r) λ r e. (Sign.colon ∷ [], taken colon_code ss r (omega arith) e, refl, λ w ms m. meant.spelt-as s sc Sign.colon (λ F v u. meant.over u) (just (Due.unit s) sc w ms m))
step Due.arguments sc ss = arguments-step sc ss
step Due.term sc ss = term-step sc ss
step Due.terms sc ss = terms-step sc ss
step Due.shut sc ss = ([], refl, refl, λ w ms m. meant.nothing [] (Mark.end ∷ []) sc w ms m)
step Due.leave sc ss = ([], refl, refl, λ w ms m. meant.nothing [] (Mark.end ∷ []) (left sc) w ms m)

-- dues and then others
record Parted (ds es : List Due) (sc : Scope) (w : List Sign) (ms : List Mark) : Type 0 where
  signs : List Sign
  marks : List Mark
  later_signs : List Sign
  later_marks : List Mark
  first : Meants ds sc signs marks
  second : Meants es (scopes_after ds sc) later_signs later_marks
  all_signs : w ≡ signs ++ later_signs
  all_marks : ms ≡ marks ++ later_marks

part : (ds es : List Due) (sc : Scope) (w : List Sign) (ms : List Mark) → Meants (ds ++ es) sc w ms → Parted ds es sc w ms
part [] es sc w ms m = record { signs = []; marks = []; later_signs = w; later_marks = ms; first = done; second = m; all_signs = refl; all_marks = refl }
part (d ∷ ds) es sc w ms (next x y ns ks m r) =
    let p = part ds es (scope_after d sc) y ks r in
    record {
      signs = x ++ p.signs;
      marks = ns ++ p.marks;
      later_signs = p.later_signs;
      later_marks = p.later_marks;
      first = next x p.signs ns p.marks m p.first;
      second = p.second;
      all_signs = ap (λ (z : List Sign). x ++ z) p.all_signs ∙ sym (append_assoc x p.signs p.later_signs);
      all_marks = ap (λ (z : List Mark). ns ++ z) p.all_marks ∙ sym (append_assoc ns p.marks p.later_marks);
    }

scopes-after : (ds es : List Due) (sc : Scope) → scopes_after (ds ++ es) sc ≡ scopes_after es (scopes_after ds sc)
scopes-after [] es sc = refl
scopes-after (d ∷ ds) es sc = scopes-after ds es (scope_after d sc)

-- what a run read, and what it left
pub record Told (ds : List Due) (sc : Scope) (ss : List Sign) (r : Ran) : Type 0 where
  pub signs : List Sign
  pub meant : Meants ds sc signs r.marks
  pub all : ss ≡ signs ++ r.rest
  pub bound : r.scope ≡ scopes_after ds sc

no_run : (sc : Scope) (ss : List Sign) (r : Ran) → some (record { marks = []; scope = sc; rest = ss }) ≡ some r → Told [] sc ss r
no_run sc ss r e = subst (Told [] sc ss) (some-injective (record { marks = []; scope = sc; rest = ss }) r e) (record { signs = []; meant = done; all = refl; bound = refl })

-- a step, and then a run of what it left and what was due behind it
then-run : (d : Due) (ds : List Due) (sc : Scope) (ss : List Sign) (x : Did) (r : Ran) → Stepped d sc ss (some x) → Told (x.dues ++ ds) x.scope x.rest r → Told (d ∷ ds) sc ss (after x.marks r)
then-run d ds sc ss x r (v, e, h, k) t =
    let p = part x.dues ds x.scope t.signs r.marks t.meant in
    record {
      signs = (v ++ p.signs) ++ p.later_signs;
      meant =
          subst (Meants (d ∷ ds) sc ((v ++ p.signs) ++ p.later_signs)) (append_assoc x.marks p.marks p.later_marks ∙ ap (λ (z : List Mark). x.marks ++ z) (sym p.all_marks))
          (next (v ++ p.signs) p.later_signs (x.marks ++ p.marks) p.later_marks (k p.signs p.marks p.first)
          (subst (λ (z : Scope). Meants ds z p.later_signs p.later_marks) h p.second));
      all =
          e
          ∙ ap (λ (z : List Sign). v ++ z) (t.all ∙ ap (λ (z : List Sign). z ++ r.rest) p.all_signs)
          ∙ sym (append_assoc v (p.signs ++ p.later_signs) r.rest)
          ∙ ap (λ (z : List Sign). z ++ r.rest) (sym (append_assoc v p.signs p.later_signs));
      bound = t.bound ∙ scopes-after x.dues ds x.scope ∙ ap (scopes_after ds) h;
    }

pub run-told : (f : ℕ) (ds : List Due) (sc : Scope) (ss : List Sign) (r : Ran) → run f ds sc ss ≡ some r → Told ds sc ss r
unfolding run
run-told zero [] sc ss r e = no_run sc ss r e
run-told zero (d ∷ ds) sc ss r e = nope e
run-told (suc f) [] sc ss r e = no_run sc ss r e
run-told (suc f) (d ∷ ds) sc ss r e =
    let t = run_step f d ds sc ss r e in
    let x = t.done in
    subst (Told (d ∷ ds) sc ss) t.makes (then-run d ds sc ss x t.then (subst (Stepped d sc ss) t.is_done (step d sc ss)) (run-told f (x.dues ++ ds) x.scope x.rest t.then t.is_then))

-- a formula that is read is spelt
formula-told : (s : Sort) (ss : List Sign) (r : Ran) → formula_at s ss ≡ some r → (w : List Sign) × Formed LogicSpelt s [] w r.marks × (ss ≡ w ++ r.rest)
unfolding formula_at
formula-told s ss r e =
    let t = run-told (5 + 6 * length ss) (Due.formula s ∷ []) [] ss r e in
    (t.signs, just (Due.formula s) [] t.signs r.marks t.meant, t.all)

-- the front of a line
word-told : (ss : List Sign) (x : Name × List Sign) → word ss ≡ some x → ss ≡ Sign.lower x.0 ∷ x.1
word-told [] x e = nope e
word-told (Sign.lower w ∷ ss) x e = ap (λ (y : Name × List Sign). Sign.lower y.0 ∷ y.1) (some-injective (w, ss) x e)
word-told (Sign.upper w ∷ ss) x e = nope e
word-told (Sign.truth ∷ ss) x e = nope e
word-told (Sign.opens ∷ ss) x e = nope e
word-told (Sign.closes ∷ ss) x e = nope e
word-told (Sign.lists ∷ ss) x e = nope e
word-told (Sign.ends ∷ ss) x e = nope e
word-told (Sign.comma ∷ ss) x e = nope e
word-told (Sign.colon ∷ ss) x e = nope e
word-told (Sign.dot ∷ ss) x e = nope e
word-told (Sign.every ∷ ss) x e = nope e
word-told (Sign.exist ∷ ss) x e = nope e
word-told (Sign.both ∷ ss) x e = nope e
word-told (Sign.either ∷ ss) x e = nope e
word-told (Sign.then ∷ ss) x e = nope e
word-told (Sign.other ∷ ss) x e = nope e

role-told : (w : Name) (k : Role) → role_of w ≡ some k → w ≡ role_word k
role-told w k e = go (same_name w (octets "axiom")) refl e
  where
    second : (b : Bool) → same_name w (octets "conjecture") ≡ b → choose b (some Role.as_conjecture) none ≡ some k → w ≡ role_word k
    second true h q = same-names-equal w (octets "conjecture") h ∙ ap role_word (some-injective Role.as_conjecture k q)
    second false h q = nope q

    go : (b : Bool) → same_name w (octets "axiom") ≡ b → choose b (some Role.as_axiom) (choose (same_name w (octets "conjecture")) (some Role.as_conjecture) none) ≡ some k → w ≡ role_word k
    go true h q = same-names-equal w (octets "axiom") h ∙ ap role_word (some-injective Role.as_axiom k q)
    go false h q = second (same_name w (octets "conjecture")) refl q

abbrev opening : Name → Role → List Sign → List Sign
opening l k s = Sign.lower (octets "fof") ∷ Sign.opens ∷ Sign.lower l ∷ Sign.comma ∷ Sign.lower (role_word k) ∷ Sign.comma ∷ s

opening-is : (ss o c s a b d : List Sign) (f l r : Name) (k : Role) → ss ≡ Sign.lower f ∷ a → f ≡ octets "fof" → a ≡ Sign.opens ∷ o → o ≡ Sign.lower l ∷ b → b ≡ Sign.comma ∷ c → c ≡ Sign.lower r ∷ d → r ≡ role_word k → d ≡ Sign.comma ∷ s → ss ≡ opening l k s
opening-is ss o c s a b d f l r k e₁ e₂ e₃ e₄ e₅ e₆ e₇ e₈ =
    e₁
    ∙ ap₂ (λ (y : Name) (z : List Sign). Sign.lower y ∷ z) e₂ e₃
    ∙ ap (λ (z : List Sign). Sign.lower (octets "fof") ∷ Sign.opens ∷ z) (e₄ ∙ ap (λ (z : List Sign). Sign.lower l ∷ z) e₅)
    ∙ ap (λ (z : List Sign). Sign.lower (octets "fof") ∷ Sign.opens ∷ Sign.lower l ∷ Sign.comma ∷ z) (e₆ ∙ ap₂ (λ (y : Name) (z : List Sign). Sign.lower y ∷ z) e₇ e₈)

record Opened (ss : List Sign) (x : Role × List Sign) : Type 0 where
  label : Name
  is_label : is_name label ≡ true
  all : ss ≡ opening label x.0 x.1

-- from the role on
role-taken : (ss c : List Sign) (l : Name) (x : Role × List Sign) → is_name l ≡ true → ((r : Name) (d s : List Sign) (k : Role) → c ≡ Sign.lower r ∷ d → r ≡ role_word k → d ≡ Sign.comma ∷ s → ss ≡ opening l k s) → (word c >>= λ r. role_of r.0 >>= λ k. taking comma_code r.1 >>= λ s. some (k, s)) ≡ some x → Opened ss x
role-taken ss c l x n f e =
    let (r, hr, e₅) = bind-some (word c) (λ r. role_of r.0 >>= λ k. taking comma_code r.1 >>= λ s. some (k, s)) x e in
    let (k, hk, e₆) = bind-some (role_of r.0) (λ k. taking comma_code r.1 >>= λ s. some (k, s)) x e₅ in
    let (s, hs, e₇) = bind-some (taking comma_code r.1) (λ s. some (k, s)) x e₆ in
    subst (Opened ss) {x = (k, s)} (some-injective (k, s) x e₇)
    (record { label = l; is_label = n; all = f r.0 r.1 s k (word-told c r hr) (role-told r.0 k hk) (taken comma_code r.1 s (omega arith) hs) })

opening-told : (ss : List Sign) (x : Role × List Sign) → introduced ss ≡ some x → Opened ss x
opening-told ss x e =
    let (f, hf, e₁) = bind-some (word ss) _ x e in
    let (o, ho, e₂) = bind-some (provided (same_name f.0 (octets "fof")) (taking opens_code f.1)) _ x e₁ in
    let (l, hl, e₃) = bind-some (word o) _ x e₂ in
    let (c, hc, e₄) = bind-some (provided (is_name l.0) (taking comma_code l.1)) _ x e₃ in
    let (n, ho') = provided-some (same_name f.0 (octets "fof")) (taking opens_code f.1) o ho in
    let (m, hc') = provided-some (is_name l.0) (taking comma_code l.1) c hc in
    role-taken ss c l.0 x m
    (λ r d s k h i j. opening-is ss o c s f.1 l.1 d f.0 l.0 r k (word-told ss f hf) (same-names-equal f.0 (octets "fof") n) (taken opens_code f.1 o (omega arith) ho') (word-told o l hl) (taken comma_code l.1 c (omega arith) hc') h i j)
    e₄

-- a rule of an axiom, a goal of a conjecture
abbrev labelled : Name → Role → Formula → Line
labelled l k F = record { label = l; role = k; formula = F }

become : (l : Name) (k : Role) (F : Formula) (e : Sexp) → is_name l ≡ true → Becomes (sort_of k) [] F e → (s : Sentence) × (sentence_of (labelled l k F) ≡ some s) × ((k, marks_of e) ≡ item s)
become l Role.as_axiom F e n (becomes.clause {B = B} {d = d} h q) = (
  Sentence.rule d,
  ap₂ (λ (b : Bool) (o : Option (numbered.Formula Plain)). provided b (o >>= λ B. in_role Role.as_axiom B)) n h ∙ ap (λ (o : Option (Clause Plain)). o >>= λ d. some (Sentence.rule d)) q,
  refl,
)
become l Role.as_conjecture F e n (becomes.goal {B = B} {g = g} h q) = (
  Sentence.goal g,
  ap₂ (λ (b : Bool) (o : Option (numbered.Formula Plain)). provided b (o >>= λ B. in_role Role.as_conjecture B)) n h ∙ ap (λ (o : Option (Goal Plain)). o >>= λ g. some (Sentence.goal g)) q,
  refl,
)

-- a line that is read is spelt, and becomes what is written
record LineTold (ss rest : List Sign) (k : Role) (ms : List Mark) : Type 0 where
  line : Line
  signs : List Sign
  sentence : Sentence
  spelt : LineSpelt line signs
  all : ss ≡ signs ++ rest
  becomes : sentence_of line ≡ some sentence
  is : (k, ms) ≡ item sentence

line_of : (l : Name) (k : Role) (w rest : List Sign) (ms : List Mark) → is_name l ≡ true → Formed LogicSpelt (sort_of k) [] w ms → LineTold (opening l k (w ++ (Sign.closes ∷ Sign.dot ∷ rest))) rest k ms
line_of l k w rest ms n (formed {F = F} {e = e} u b) =
    let (s, q, i) = become l k F e n b in
    record {
      line = labelled l k F;
      signs = opening l k (w ++ (Sign.closes ∷ Sign.dot ∷ []));
      sentence = s;
      spelt = spelled.LineSpelt.line u;
      all = ap (opening l k) (sym (append_assoc w (Sign.closes ∷ Sign.dot ∷ []) rest));
      becomes = q;
      is = i;
    }

line-told : (ss : List Sign) (x : Read) → line_at ss ≡ some x → LineTold ss x.rest x.role x.marks
unfolding line_at
line-told ss x e =
    let (i, hi, e₁) = bind-some (introduced ss) _ x e in
    let (r, hr, e₂) = bind-some (formula_at (sort_of i.0) i.1) _ x e₁ in
    let (c, hc, e₃) = bind-some (taking closes_code r.rest) _ x e₂ in
    let (d, hd, e₄) = bind-some (taking dot_code c) (λ d. some (record { role = i.0; marks = r.marks; rest = d })) x e₃ in
    let o = opening-told ss i hi in
    let (w, m, a) = formula-told (sort_of i.0) i.1 r hr in
    let z = taken closes_code r.rest c (omega arith) hc ∙ ap (λ (y : List Sign). Sign.closes ∷ y) (taken dot_code c d (omega arith) hd) in
    subst (λ (y : Read). LineTold ss y.rest y.role y.marks) (some-injective (record { role = i.0; marks = r.marks; rest = d }) x e₄)
    (subst (λ (y : List Sign). LineTold y d i.0 r.marks) (sym (o.all ∙ ap (opening o.label i.0) (a ∙ ap (λ (y : List Sign). w ++ y) z)))
    (line_of o.label i.0 w d r.marks o.is_label m))

-- the lines of a text whose items are given
pub record Sound (ss : List Sign) (its : List (Role × List Mark)) : Type 0 where
  pub lines : List Line
  pub sentences : List Sentence
  pub spelt : BookSpelt lines ss
  pub become : sentences_of lines ≡ some sentences
  pub are : its ≡ items sentences

no_lines : (its : List (Role × List Mark)) → some [] ≡ some its → Sound [] its
no_lines its e = subst (Sound []) (some-injective [] its e) (record { lines = []; sentences = []; spelt = spelled.BookSpelt.none; become = refl; are = refl })

line-then : (ss rest : List Sign) (k : Role) (ms : List Mark) (its : List (Role × List Mark)) → LineTold ss rest k ms → Sound rest its → Sound ss ((k, ms) ∷ its)
line-then ss rest k ms its t b =
    record {
      lines = t.line ∷ b.lines;
      sentences = t.sentence ∷ b.sentences;
      spelt = subst (BookSpelt (t.line ∷ b.lines)) (sym t.all) (spelled.BookSpelt.further t.spelt b.spelt);
      become =
          ap (λ (o : Option Sentence). o >>= λ s. sentences_of b.lines >>= λ ss. some (s ∷ ss)) t.becomes
          ∙ ap (λ (o : Option (List Sentence)). o >>= λ ss. some (t.sentence ∷ ss)) b.become;
      are = ap₂ ◌∷◌ t.is b.are;
    }

read-then : (ss : List Sign) (x : Read) (ls its : List (Role × List Mark)) → line_at ss ≡ some x → Sound x.rest ls → some ((x.role, x.marks) ∷ ls) ≡ some its → Sound ss its
read-then ss x ls its h b e = subst (Sound ss) (some-injective ((x.role, x.marks) ∷ ls) its e) (line-then ss x.rest x.role x.marks ls (line-told ss x h) b)

lines-told : (f : ℕ) (ss : List Sign) (its : List (Role × List Mark)) → lines_from f ss ≡ some its → Sound ss its
unfolding lines_from
lines-told zero [] its e = no_lines its e
lines-told zero (s ∷ ss) its e = nope e
lines-told (suc f) [] its e = no_lines its e
lines-told (suc f) (s ∷ ss) its e =
    let (l, hl, q) = bind-some (line_at (s ∷ ss)) (λ l. lines_from f l.rest >>= λ ls. some ((l.role, l.marks) ∷ ls)) its e in
    let (ls, hs, r) = bind-some (lines_from f l.rest) (λ ls. some ((l.role, l.marks) ∷ ls)) its q in
    read-then (s ∷ ss) l ls its hl (lines-told f l.rest ls hs) r

-- where the machine gives items, they are those of lines that are spelt so
pub sound : (ss : List Sign) (its : List (Role × List Mark)) → lines_at ss ≡ some its → Sound ss its
unfolding lines_at
sound ss its e = lines-told (length ss) ss its e
