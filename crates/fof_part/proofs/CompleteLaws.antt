-- What is spelt in the part and becomes rules and goals is read by the machine, and what it writes are the rules and goals (document 02, One). Following the spelling, production by production.
use Prim.Native.Nat.{ℕ, zero, suc, ◌≤◌, ◌<◌}
use mathlib.Core.Path.{◌≡◌, refl, sym, ◌∙◌, ap}
use mathlib.Core.Bool.{Bool, true}
use mathlib.Core.List.{List, [], ◌∷◌, ◌++◌, append_assoc, append-nil}
use mathlib.Core.Option.{Option, none, some, some-injective}
use native.Mathlib.Omega.{arith}
use lib.ListN.{length, length-append}
use Rattle.basics.specs.Choice.{◌>>=◌, nope, provided, provided-some}
use Rattle.basics.specs.Text.{octets}
use Rattle.harrop.specs.Formula as plain
use Rattle.harrop.specs.Formula.{Name}
use Rattle.harrop.specs.Place.{Plain}
use Rattle.sexp.specs.Sexp.{Sexp, Sexps}
use Rattle.sexp.specs.Words.{is_name}
use Rattle.packet.specs.Written.{word, one, two, term_sexp, term_sexps, atom_sexp, goal_sexp, clause_sexp}
use Rattle.calculus.specs.Formula as numbered
use Rattle.fof_truth.specs.Formula.{Term, Terms, Formula, Role, Line, grouped, nested}
use Rattle.fof_truth.specs.Numbered.{Scope, number_of, term_in, terms_in, formula_in}
use Rattle.fof_truth.specs.Sentence.{as_goal, as_clause, Sentence, in_role, sentence_of}
use Rattle.fof_truth.specs.Book.{sentences_of}
use Rattle.fof_truth.proofs.SentenceLaws.{one-some, two-some, turned}
use Rattle.fof_part.specs.Sign.{Sign, opens_code, closes_code, comma_code, dot_code}
use Rattle.fof_part.specs.Spelled.{TermSpelt, TermsSpelt, NamesSpelt, UnitSpelt, LogicSpelt, ChainSpelt, role_word, LineSpelt, BookSpelt}
use Rattle.fof_part.specs.Mark.{Mark, marks_all_onto, marks_of}
use Rattle.fof_part.specs.Due.{Sort, Link, Quantifier, Due, Chain, chain, taking, link_word, quantifier_word, many_headed, Ran, formula_at}
use Rattle.fof_part.specs.Lines as lines
use Rattle.fof_part.specs.Lines.{role_of, sort_of, Read, introduced, line_at, lines_from, lines_at, item, items}
use Rattle.fof_part.proofs.OntoLaws.{onto, onto-all}
use Rattle.fof_part.proofs.CostLaws.{formula-enough}
use Rattle.fof_part.proofs.ChainLaws.{front-within, back-within, body-within, alone-chain, linked-chain, implied-chain}
use Rattle.fof_part.proofs.BecomesLaws.{Becomes, goal, clause, linking, link_sign, quantifying, grouped_sexp, behind_marks, count, one-marks, two-marks, grouped-marks}
use Rattle.fof_part.proofs.TakenLaws.{implied-of, quantified-of, true_of, atom-of, EachBecomes, grouped-of, links-of}
use Rattle.fof_part.proofs.WriteLaws.{Writes, writes-none, writes-step, writes_then, writes_as, due-variable-term, due-function, due-terms-end, due-terms-more, due-arguments, due-no-arguments, due-shut, due-atom, due-parens, due-close, quantifier_sign, due-quantifier, due-list, due-variable, due-behind-more, due-behind-end, due-over, due-leave, due-chain, due-lone, due-linked, due-more, due-no-more, due-arrow, due-true}

-- signs that do not go on with arguments
abbrev pub NoOpens : List Sign → Type 0
NoOpens k = taking opens_code k ≡ none

shut-writes : (sc : Scope) (k : List Sign) → Writes (Due.shut ∷ []) sc k (Mark.end ∷ []) sc k
shut-writes sc k = writes-step (due-shut sc k) (writes-none sc k)

-- no arguments, and the end of the list
bare-writes : (sc : Scope) (k : List Sign) → NoOpens k → Writes (Due.arguments ∷ Due.shut ∷ []) sc k (Mark.end ∷ []) sc k
bare-writes sc k o = writes-step (due-no-arguments sc k o) (shut-writes sc k)

-- arguments in parentheses, and the end of the list
applied-writes : (sc : Scope) (w k : List Sign) (us : plain.Terms) → Writes (Due.term ∷ Due.terms ∷ []) sc (w ++ (Sign.closes ∷ k)) (marks_all_onto (term_sexps us) []) sc k → Writes (Due.arguments ∷ Due.shut ∷ []) sc (Sign.opens ∷ ((w ++ (Sign.closes ∷ [])) ++ k)) (marks_all_onto (term_sexps us) (Mark.end ∷ [])) sc k
applied-writes sc w k us x =
    writes_as (ap (λ (z : List Sign). Sign.opens ∷ z) (sym (append_assoc w (Sign.closes ∷ []) k))) (sym (onto-all (term_sexps us) (Mark.end ∷ [])))
    (writes-step (due-arguments sc (w ++ (Sign.closes ∷ k))) (writes_then x (shut-writes sc k)))

-- terms of less than n signs are read
abbrev TermsWrite : ℕ → Type 0
TermsWrite n = (t : Term) (w : List Sign) → TermSpelt t w → length w < n → (sc : Scope) (u : plain.Term) → term_in sc t ≡ some u → (k : List Sign) → NoOpens k → Writes (Due.term ∷ []) sc (w ++ k) (marks_of (term_sexp u)) sc k

abbrev all_marks : plain.Terms → List Mark
all_marks us = marks_all_onto (term_sexps us) []

terms-by : (n : ℕ) → TermsWrite n → {t : Term} {ts : Terms} {w : List Sign} → TermsSpelt t ts w → length w < n → (sc : Scope) (us : plain.Terms) → terms_in sc (Terms.cons t ts) ≡ some us → (k : List Sign) → Writes (Due.term ∷ Due.terms ∷ []) sc (w ++ (Sign.closes ∷ k)) (all_marks us) sc k
terms-by n p (TermsSpelt.last {t = t} {w = w} s) h sc us e k =
    let y = two-some (term_in sc t) (some plain.Terms.nil) plain.Terms.cons us e in
    let x = p t w s h sc y.first y.is_first (Sign.closes ∷ k) refl in
    let z = some-injective plain.Terms.nil y.second y.is_second in
    writes_as refl (append-nil (marks_of (term_sexp y.first)) ∙ ap (λ (r : plain.Terms). all_marks (plain.Terms.cons y.first r)) z ∙ ap all_marks y.makes)
    (writes_then x (writes-step (due-terms-end sc k) (writes-none sc k)))
terms-by n p (TermsSpelt.further {t = t} {u = u} {us = ts} {w = w} {v = v} s ss) h sc us e k =
    let y = two-some (term_in sc t) (terms_in sc (Terms.cons u ts)) plain.Terms.cons us e in
    let x = p t w s (front-within w (Sign.comma ∷ v) n h) sc y.first y.is_first (Sign.comma ∷ (v ++ (Sign.closes ∷ k))) refl in
    let z = terms-by n p ss (back-within (Sign.comma ∷ []) v n (back-within w (Sign.comma ∷ v) n h)) sc y.second y.is_second k in
    writes_as (sym (append_assoc w (Sign.comma ∷ v) (Sign.closes ∷ k))) (sym (onto (term_sexp y.first) (all_marks y.second)) ∙ ap all_marks y.makes)
    (writes_then x (writes-step (due-terms-more sc (v ++ (Sign.closes ∷ k))) z))

abbrev term_marks : plain.Term → List Mark
term_marks u = marks_of (term_sexp u)

term-step : (n : ℕ) → TermsWrite n → TermsWrite (suc n)
term-step n p t w (TermSpelt.variable {x = x}) h sc u e k o =
    let y = one-some (number_of sc x) plain.Term.v u e in
    writes_as refl (ap term_marks y.makes) (writes-step (due-variable-term sc x y.first k y.is_first) (writes-none sc k))
term-step n p t w (TermSpelt.constant {g = g}) h sc u e k o =
    let (a, r) = provided-some (is_name g) (some (plain.Term.f g plain.Terms.nil)) u e in
    writes_as refl (ap term_marks (some-injective (plain.Term.f g plain.Terms.nil) u r)) (writes-step (due-function sc g k a) (bare-writes sc k o))
term-step n p t w (TermSpelt.applied {g = g} {t = s} {ts = ts} {w = v} m) h sc u e k o =
    let (a, r) = provided-some (is_name g) (terms_in sc (Terms.cons s ts) >>= λ us. some (plain.Term.f g us)) u e in
    let y = one-some (terms_in sc (Terms.cons s ts)) (plain.Term.f g) u r in
    let x = terms-by n p m (front-within v (Sign.closes ∷ []) n (omega arith)) sc y.first y.is_first k in
    writes_as refl (ap term_marks y.makes) (writes-step (due-function sc g (Sign.opens ∷ ((v ++ (Sign.closes ∷ [])) ++ k)) a) (applied-writes sc v k y.first x))

term-to : (n : ℕ) → TermsWrite n
term-to zero t w s h sc u e k o = absurd (omega arith)
term-to (suc n) t w s h sc u e k o = term-step n (term-to n) t w s h sc u e k o

terms-write : {t : Term} {ts : Terms} {w : List Sign} → TermsSpelt t ts w → (sc : Scope) (us : plain.Terms) → terms_in sc (Terms.cons t ts) ≡ some us → (k : List Sign) → Writes (Due.term ∷ Due.terms ∷ []) sc (w ++ (Sign.closes ∷ k)) (all_marks us) sc k
terms-write {w = w} s sc us e k = terms-by (suc (length w)) (term-to (suc (length w))) s (omega arith) sc us e k

-- a quantifier's variables, around a unit that is read
module _ (q : Quantifier) (s : Sort) where
  bound-writes : (sc : Scope) (x : Name) (r k : List Sign) (e : Sexp) → Writes (Due.behind q s ∷ []) (x ∷ sc) r (marks_of e) (x ∷ sc) k → Writes (Due.variable q s ∷ []) sc (Sign.upper x ∷ r) (marks_of (word (quantifier_word q) (one e))) sc k
  bound-writes sc x r k e w =
      writes_as refl (one-marks (quantifier_word q) e)
      (writes-step (due-variable q s sc x r) (writes_then w (writes-step (due-leave sc x k) (writes-none sc k))))

  names-write : {x : Name} {xs : List Name} {w : List Sign} → NamesSpelt x xs w → (F : Formula) (v k : List Sign) → ((sc : Scope) (e : Sexp) → Becomes s sc F e → Writes (Due.unit s ∷ []) sc (v ++ k) (marks_of e) sc k) → (sc : Scope) (e : Sexp) → Becomes s sc (nested (quantifying q) (x ∷ xs) F) e → Writes (Due.variable q s ∷ []) sc (w ++ (Sign.ends ∷ Sign.colon ∷ (v ++ k))) (marks_of e) sc k
  names-write (NamesSpelt.last {x = x}) F v k p sc e b =
      let y = quantified-of q s sc x F e b in
      let u = p (x ∷ sc) y.body y.is_body in
      writes_as refl (ap marks_of y.makes)
      (bound-writes sc x (Sign.ends ∷ Sign.colon ∷ (v ++ k)) k y.body (writes-step (due-behind-end q s (x ∷ sc) (Sign.colon ∷ (v ++ k))) (writes-step (due-over s (x ∷ sc) (v ++ k)) u)))
  names-write (NamesSpelt.further {x = x} {y = z} {ys = zs} {w = w} ns) F v k p sc e b =
      let y = quantified-of q s sc x (nested (quantifying q) (z ∷ zs) F) e b in
      let u = names-write ns F v k p (x ∷ sc) y.body y.is_body in
      writes_as refl (ap marks_of y.makes)
      (bound-writes sc x (Sign.comma ∷ (w ++ (Sign.ends ∷ Sign.colon ∷ (v ++ k)))) k y.body (writes-step (due-behind-more q s (x ∷ sc) (w ++ (Sign.ends ∷ Sign.colon ∷ (v ++ k)))) u))

  quantified-write : {x : Name} {xs : List Name} {w : List Sign} → NamesSpelt x xs w → (F : Formula) (v k : List Sign) → ((sc : Scope) (e : Sexp) → Becomes s sc F e → Writes (Due.unit s ∷ []) sc (v ++ k) (marks_of e) sc k) → (sc : Scope) (e : Sexp) → Becomes s sc (nested (quantifying q) (x ∷ xs) F) e → Writes (Due.unit s ∷ []) sc (quantifier_sign q ∷ Sign.lists ∷ ((w ++ (Sign.ends ∷ Sign.colon ∷ v)) ++ k)) (marks_of e) sc k
  quantified-write {x = x} {xs = xs} {w = w} ns F v k p sc e b =
      let y = quantified-of q s sc x (nested (quantifying q) xs F) e b in
      let r = w ++ (Sign.ends ∷ Sign.colon ∷ (v ++ k)) in
      writes_as (ap (λ (z : List Sign). quantifier_sign q ∷ Sign.lists ∷ z) (sym (append_assoc w (Sign.ends ∷ Sign.colon ∷ v) k))) refl
      (writes-step (due-quantifier q s sc (Sign.lists ∷ r) y.allowed) (writes-step (due-list q s sc r) (names-write ns F v k p sc e b)))

-- units of less than n signs are read
abbrev UnitsWrite : ℕ → Type 0
UnitsWrite n = (F : Formula) (w : List Sign) → UnitSpelt F w → length w < n → (s : Sort) (sc : Scope) (e : Sexp) → Becomes s sc F e → (k : List Sign) → NoOpens k → Writes (Due.unit s ∷ []) sc (w ++ k) (marks_of e) sc k

-- further members of a chain
link-shut : (l : Link) (k : List Sign) → NoOpens (link_sign l ∷ k)
link-shut Link.conj k = refl
link-shut Link.disj k = refl

links-shut : {c : Sign} {G : Formula} {Gs : List Formula} {v : List Sign} → ChainSpelt c G Gs v → (l : Link) → c ≡ link_sign l → (k : List Sign) → NoOpens (v ++ k)
links-shut (ChainSpelt.last {w = w} u) l h k = ap (λ (c : Sign). taking opens_code (c ∷ (w ++ k))) h ∙ link-shut l (w ++ k)
links-shut (ChainSpelt.further {w = w} {v = v} u c) l h k = ap (λ (c : Sign). taking opens_code (c ∷ ((w ++ v) ++ k))) h ∙ link-shut l ((w ++ v) ++ k)

member-writes : (l : Link) (s : Sort) (m : ℕ) (sc : Scope) (r k t : List Sign) (e : Sexp) (ms : List Mark) → Writes (Due.unit s ∷ []) sc r (marks_of e) sc k → Writes (Due.more l s m ∷ []) sc k ms sc t → Writes (Due.more l s (suc m) ∷ []) sc (link_sign l ∷ r) (marks_of e ++ (Mark.end ∷ ms)) sc t
member-writes l s m sc r k t e ms u w = writes-step (due-more l s m sc r) (writes_then u (writes-step (due-shut sc k) w))

links-by : (n : ℕ) → UnitsWrite n → (l : Link) → {c : Sign} {G : Formula} {Gs : List Formula} {v : List Sign} → ChainSpelt c G Gs v → c ≡ link_sign l → length v < n → (s : Sort) (sc : Scope) (e : Sexp) (es : List Sexp) → Becomes s sc G e → EachBecomes s sc Gs es → (k : List Sign) → NoOpens k → Writes (Due.more l s (suc (length Gs)) ∷ []) sc (v ++ k) (behind_marks (e ∷ es)) sc k
links-by n p l (ChainSpelt.last {s = c} {G = G} {w = w} u) h m s sc e [] b bs k o =
    writes_as (ap (λ (c : Sign). c ∷ (w ++ k)) (sym h)) refl
    (member-writes l s 0 sc (w ++ k) k k e [] (p G w u (back-within (c ∷ []) w n m) s sc e b k o) (writes-step (due-no-more l s sc k) (writes-none sc k)))
links-by n p l (ChainSpelt.last {s = c} {G = G} {w = w} u) h m s sc e (f ∷ fs) b bs k o = absurd bs
links-by n p l (ChainSpelt.further u c) h m s sc e [] b bs k o = absurd bs
links-by n p l (ChainSpelt.further {s = c} {G = G} {Hs = Hs} {w = w} {v = v} u x) h m s sc e (f ∷ fs) b bs k o =
    let i = back-within (c ∷ []) (w ++ v) n m in
    let y = p G w u (front-within w v n i) s sc e b (v ++ k) (links-shut x l h k) in
    let z = links-by n p l x h (back-within w v n i) s sc f fs bs.0 bs.1 k o in
    writes_as (ap (λ (c : Sign). c ∷ (w ++ (v ++ k))) (sym h) ∙ ap (λ (r : List Sign). c ∷ r) (sym (append_assoc w v k))) refl
    (member-writes l s (suc (length Hs)) sc (w ++ (v ++ k)) (v ++ k) k e (behind_marks (f ∷ fs)) y z)

count_of : (s : Sort) (sc : Scope) (Gs : List Formula) (es : List Sexp) → EachBecomes s sc Gs es → count es ≡ length Gs
count_of s sc [] [] b = refl
count_of s sc [] (e ∷ es) b = absurd b
count_of s sc (G ∷ Gs) [] b = absurd b
count_of s sc (G ∷ Gs) (e ∷ es) b = ap suc (count_of s sc Gs es b.1)

linked-write : (n : ℕ) → UnitsWrite n → (l : Link) {F G : Formula} {Gs : List Formula} {w v : List Sign} → UnitSpelt F w → ChainSpelt (link_sign l) G Gs v → length (w ++ v) < n → (s : Sort) (sc : Scope) (e : Sexp) → Becomes s sc (grouped (linking l) F (G ∷ Gs)) e → (k : List Sign) → NoOpens k → chain 0 k ≡ Chain.lone → Writes (Due.formula s ∷ []) sc ((w ++ v) ++ k) (marks_of e) sc k
linked-write n p l {F = F} {G = G} {Gs = Gs} {w = w} {v = v} u c h s sc e b k o i =
    let y = grouped-of l s sc F (G ∷ Gs) e b in
    go y.first y.others y.is_first y.are_others y.makes
  where
    go : (f : Sexp) (es : List Sexp) → Becomes s sc F f → EachBecomes s sc (G ∷ Gs) es → grouped_sexp (link_word l) f es ≡ e → Writes (Due.formula s ∷ []) sc ((w ++ v) ++ k) (marks_of e) sc k
    go f [] a bs m = absurd bs
    go f (g ∷ gs) a bs m =
        let x = p F w u (front-within w v n h) s sc f a (v ++ k) (links-shut c l refl k) in
        let z = links-by n p l c refl (back-within w v n h) s sc g gs bs.0 bs.1 k o in
        let d = due-linked l s (suc (length Gs)) sc (w ++ (v ++ k)) (links-of l s sc F G Gs e b) (linked-chain u l c k i) in
        let q = ap (λ (j : ℕ). many_headed (link_word l) (suc j) ++ (marks_of f ++ behind_marks (g ∷ gs))) (sym (count_of s sc Gs gs bs.1)) in
        writes_as (sym (append_assoc w v k)) (q ∙ grouped-marks (link_word l) f (g ∷ gs) ∙ ap marks_of m) (writes-step d (writes_then x z))

implied-write : (n : ℕ) → UnitsWrite n → {F G : Formula} {w v : List Sign} → UnitSpelt F w → UnitSpelt G v → length (w ++ (Sign.then ∷ v)) < n → (s : Sort) (sc : Scope) (e : Sexp) → Becomes s sc (Formula.implies F G) e → (k : List Sign) → NoOpens k → chain 0 k ≡ Chain.lone → Writes (Due.formula s ∷ []) sc ((w ++ (Sign.then ∷ v)) ++ k) (marks_of e) sc k
implied-write n p {F = F} {G = G} {w = w} {v = v} u t h s sc e b k o i =
    let y = implied-of s sc F G e b in
    let x = p F w u (front-within w (Sign.then ∷ v) n h) y.left sc y.first y.is_first (Sign.then ∷ (v ++ k)) refl in
    let z = p G v t (back-within (Sign.then ∷ []) v n (back-within w (Sign.then ∷ v) n h)) y.right sc y.second y.is_second k o in
    let r = w ++ (Sign.then ∷ (v ++ k)) in
    let d = due-chain s sc r (Chain.implied 1) (implied-chain u t k i) ∙ y.allowed 1 r in
    writes_as (sym (append_assoc w (Sign.then ∷ v) k)) (two-marks (octets "imp") y.first y.second ∙ ap marks_of y.makes)
    (writes-step d (writes_then x (writes-step (due-arrow sc (v ++ k)) (writes_then z (shut-writes sc k)))))

-- formulas are, in front of signs that end them
logic-by : (n : ℕ) → UnitsWrite n → {F : Formula} {w : List Sign} → LogicSpelt F w → length w < n → (s : Sort) (sc : Scope) (e : Sexp) → Becomes s sc F e → (k : List Sign) → NoOpens k → chain 0 k ≡ Chain.lone → Writes (Due.formula s ∷ []) sc (w ++ k) (marks_of e) sc k
logic-by n p (LogicSpelt.alone {F = F} {w = w} u) h s sc e b k o i = writes-step (due-lone s sc (w ++ k) (alone-chain u k i)) (p F w u h s sc e b k o)
logic-by n p (LogicSpelt.conjoined u c) h s sc e b k o i = linked-write n p Link.conj u c h s sc e b k o i
logic-by n p (LogicSpelt.disjoined u c) h s sc e b k o i = linked-write n p Link.disj u c h s sc e b k o i
logic-by n p (LogicSpelt.implied u t) h s sc e b k o i = implied-write n p u t h s sc e b k o i

unit-step : (n : ℕ) → UnitsWrite n → UnitsWrite (suc n)
unit-step n p F w UnitSpelt.truth h s sc e b k o =
    let y = true_of s sc e b in
    writes_as refl (ap marks_of y.makes) (writes-step (due-true s sc k ∙ y.allowed k) (writes-none sc k))
unit-step n p F w (UnitSpelt.plain {p = q}) h s sc e b k o =
    let y = atom-of s sc q Terms.nil e b in
    let z = some-injective plain.Terms.nil y.terms y.are_terms in
    writes_as refl (ap (λ (us : plain.Terms). marks_of (atom_sexp (plain.Atom.atom q us))) z ∙ ap marks_of y.makes) (writes-step (due-atom s sc q k y.named) (bare-writes sc k o))
unit-step n p F w (UnitSpelt.applied {p = q} {t = t} {ts = ts} {w = v} m) h s sc e b k o =
    let y = atom-of s sc q (Terms.cons t ts) e b in
    let x = terms-write m sc y.terms y.are_terms k in
    writes_as refl (ap marks_of y.makes) (writes-step (due-atom s sc q (Sign.opens ∷ ((v ++ (Sign.closes ∷ [])) ++ k)) y.named) (applied-writes sc v k y.terms x))
unit-step n p F w (UnitSpelt.every {F = G} {w = x} {v = v} ns u) h s sc e b k o =
    quantified-write Quantifier.for_all s ns G v k (λ to f c. p G v u (body-within x v n h) s to f c k o) sc e b
unit-step n p F w (UnitSpelt.exist {F = G} {w = x} {v = v} ns u) h s sc e b k o =
    quantified-write Quantifier.exists s ns G v k (λ to f c. p G v u (body-within x v n h) s to f c k o) sc e b
unit-step n p F w (UnitSpelt.parens {w = v} l) h s sc e b k o =
    let x = logic-by n p l (front-within v (Sign.closes ∷ []) n (omega arith)) s sc e b (Sign.closes ∷ k) refl refl in
    writes_as (ap (λ (z : List Sign). Sign.opens ∷ z) (sym (append_assoc v (Sign.closes ∷ []) k))) (append-nil (marks_of e))
    (writes-step (due-parens s sc (v ++ (Sign.closes ∷ k))) (writes_then x (writes-step (due-close sc k) (writes-none sc k))))

unit-to : (n : ℕ) → UnitsWrite n
unit-to zero F w u h s sc e b k o = absurd (omega arith)
unit-to (suc n) F w u h s sc e b k o = unit-step n (unit-to n) F w u h s sc e b k o

-- a formula that is spelt and becomes an expression is read, and the expression is written
pub formula-complete : {F : Formula} {w : List Sign} → LogicSpelt F w → (s : Sort) (e : Sexp) → Becomes s [] F e → (k : List Sign) → formula_at s (w ++ (Sign.closes ∷ k)) ≡ some (record { marks = marks_of e; scope = []; rest = Sign.closes ∷ k })
formula-complete {w = w} l s e b k =
    let x = logic-by (suc (length w)) (unit-to (suc (length w))) l (omega arith) s [] e b (Sign.closes ∷ k) refl refl in
    formula-enough x.steps s (w ++ (Sign.closes ∷ k)) (record { marks = marks_of e; scope = []; rest = Sign.closes ∷ k }) x.runs

-- what stands before a line's formula
introduced-is : (l : Name) (r : Role) (ss : List Sign) → is_name l ≡ true → introduced (Sign.lower (octets "fof") ∷ Sign.opens ∷ Sign.lower l ∷ Sign.comma ∷ Sign.lower (role_word r) ∷ Sign.comma ∷ ss) ≡ some (r, ss)
introduced-is l Role.as_axiom ss n = ap (λ (b : Bool). provided b (some (Sign.lower (octets "axiom") ∷ Sign.comma ∷ ss)) >>= λ c. lines.word c >>= λ r. role_of r.0 >>= λ k. taking comma_code r.1 >>= λ s. some (k, s)) n
introduced-is l Role.as_conjecture ss n = ap (λ (b : Bool). provided b (some (Sign.lower (octets "conjecture") ∷ Sign.comma ∷ ss)) >>= λ c. lines.word c >>= λ r. role_of r.0 >>= λ k. taking comma_code r.1 >>= λ s. some (k, s)) n

line_read : (ss : List Sign) (r : Role) (fs : List Sign) (ms : List Mark) (k : List Sign) → introduced ss ≡ some (r, fs) → formula_at (sort_of r) fs ≡ some (record { marks = ms; scope = []; rest = Sign.closes ∷ Sign.dot ∷ k }) → line_at ss ≡ some (record { role = r; marks = ms; rest = k })
unfolding line_at
line_read ss r fs ms k e h =
    ap (λ (o : Option (Role × List Sign)). o >>= λ i. formula_at (sort_of i.0) i.1 >>= λ x. taking closes_code x.rest >>= λ c. taking dot_code c >>= λ d. some (record { role = i.0; marks = x.marks; rest = d })) e
    ∙ ap (λ (o : Option Ran). o >>= λ x. taking closes_code x.rest >>= λ c. taking dot_code c >>= λ d. some (record { role = r; marks = x.marks; rest = d })) h

-- the expression of a sentence, by the role of its line
pub record Expressed (r : Role) (F : Formula) (s : Sentence) : Type 0 where
  pub sexp : Sexp
  pub becomes : Becomes (sort_of r) [] F sexp
  pub is_item : (r, marks_of sexp) ≡ item s

expressed : (r : Role) (F : Formula) (B : numbered.Formula Plain) (s : Sentence) → formula_in [] F ≡ some B → in_role r B ≡ some s → Expressed r F s
expressed Role.as_axiom F B s e h =
    let t = one-some (as_clause B) Sentence.rule s h in
    record { sexp = clause_sexp t.first; becomes = clause {B = B} {d = t.first} e t.is_first; is_item = ap item t.makes }
expressed Role.as_conjecture F B s e h =
    let t = one-some (as_goal B) Sentence.goal s h in
    record { sexp = goal_sexp t.first; becomes = goal {B = B} {g = t.first} e t.is_first; is_item = ap item t.makes }

-- a line that is spelt and becomes a sentence is read as the sentence's item
pub record LineRead (ss : List Sign) (s : Sentence) (k : List Sign) : Type 0 where
  pub read : Read
  pub is_read : line_at ss ≡ some read
  pub is_item : (read.role, read.marks) ≡ item s
  pub is_rest : read.rest ≡ k

pub line-complete : {l : Line} {w : List Sign} → LineSpelt l w → (s : Sentence) → sentence_of l ≡ some s → (k : List Sign) → LineRead (w ++ k) s k
line-complete (LineSpelt.line {l = l} {r = r} {F = F} {w = w} g) s e k =
    let t = turned (record { label = l; role = r; formula = F }) s e in
    let x = expressed r F t.formula s t.numbered t.read in
    let fs = (w ++ (Sign.closes ∷ Sign.dot ∷ [])) ++ k in
    let f = ap (formula_at (sort_of r)) (append_assoc w (Sign.closes ∷ Sign.dot ∷ []) k) ∙ formula-complete g (sort_of r) x.sexp x.becomes (Sign.dot ∷ k) in
    record {
      read = record { role = r; marks = marks_of x.sexp; rest = k };
      is_read = line_read (Sign.lower (octets "fof") ∷ Sign.opens ∷ Sign.lower l ∷ Sign.comma ∷ Sign.lower (role_word r) ∷ Sign.comma ∷ fs) r fs (marks_of x.sexp) k (introduced-is l r fs t.labelled) f;
      is_item = x.is_item;
      is_rest = refl;
    }

-- lines one after another
lines-further : (f : ℕ) (ss : List Sign) (x : Read) (is : List (Role × List Mark)) → line_at ss ≡ some x → lines_from f x.rest ≡ some is → lines_from (suc f) ss ≡ some ((x.role, x.marks) ∷ is)
unfolding line_at lines_from
lines-further f [] x is e h = nope e
lines-further f (s ∷ ss) x is e h =
    ap (λ (o : Option Read). o >>= λ l. lines_from f l.rest >>= λ ls. some ((l.role, l.marks) ∷ ls)) e
    ∙ ap (λ (o : Option (List (Role × List Mark))). o >>= λ ls. some ((x.role, x.marks) ∷ ls)) h

lines_end : (f : ℕ) → lines_from f [] ≡ some []
unfolding lines_from
lines_end zero = refl
lines_end (suc f) = refl

pub line-shorter : {l : Line} {w : List Sign} → LineSpelt l w → (v : List Sign) (f : ℕ) → length (w ++ v) ≤ f → suc (length v) ≤ f
line-shorter (LineSpelt.line {w = w} g) v f h =
    let e = length-append (w ++ (Sign.closes ∷ Sign.dot ∷ [])) v in
    omega arith

lines-complete : {ls : List Line} {ss : List Sign} → BookSpelt ls ss → (sents : List Sentence) → sentences_of ls ≡ some sents → (f : ℕ) → length ss ≤ f → lines_from f ss ≡ some (items sents)
lines-complete BookSpelt.none sents e f h = lines_end f ∙ ap (λ (x : List Sentence). some (items x)) (some-injective [] sents e)
lines-complete (BookSpelt.further {l = l} {ls = ls} {w = w} {v = v} g bs) sents e zero h =
    let i = line-shorter g v zero h in
    absurd (omega arith)
lines-complete (BookSpelt.further {l = l} {ls = ls} {w = w} {v = v} g bs) sents e (suc f) h =
    let t = two-some (sentence_of l) (sentences_of ls) ◌∷◌ sents e in
    let i = line-shorter g v (suc f) h in
    let x = line-complete g t.first t.is_first v in
    let r = ap (lines_from f) x.is_rest ∙ lines-complete bs t.second t.is_second f (omega arith) in
    lines-further f (w ++ v) x.read (items t.second) x.is_read r
    ∙ ap (λ (j : Role × List Mark). some (j ∷ items t.second)) x.is_item
    ∙ ap (λ (z : List Sentence). some (items z)) t.makes

-- a book that is spelt, and whose lines become sentences, is read as these
pub complete : (ls : List Line) (ss : List Sign) (sents : List Sentence) → BookSpelt ls ss → sentences_of ls ≡ some sents → lines_at ss ≡ some (items sents)
unfolding lines_at
complete ls ss sents b e = lines-complete b sents e (length ss) (omega arith)
