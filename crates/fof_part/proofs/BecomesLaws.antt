-- What a formula becomes where a goal, a clause or an atom is due, as an expression (crates fof_truth and packet): connective by connective, and for a chain that is grouped to the left.
use Prim.Native.Nat.{ℕ, zero, suc}
use mathlib.Core.Path.{◌≡◌, refl, sym, ◌∙◌, ap, ap₂}
use mathlib.Core.Bool.{Bool, true}
use mathlib.Core.List.{List, [], ◌∷◌, ◌++◌, append_assoc, append-nil}
use mathlib.Core.Option.{Option, some}
use Rattle.basics.specs.Choice.{◌>>=◌, provided}
use Rattle.basics.specs.Text.{octets}
use Rattle.harrop.specs.Formula as plain
use Rattle.harrop.specs.Formula.{Name, Goal, Clause}
use Rattle.harrop.specs.Place.{Plain}
use Rattle.sexp.specs.Sexp.{Sexp}
use Rattle.sexp.specs.Words.{is_name}
use Rattle.packet.specs.Written.{word, one, two, atom_sexp, goal_sexp, clause_sexp}
use Rattle.calculus.specs.Formula as numbered
use Rattle.fof_truth.specs.Formula.{Terms, Formula}
use Rattle.fof_truth.specs.Numbered.{Scope, terms_in, formula_in}
use Rattle.fof_truth.specs.Sentence.{as_atom, as_goal, as_clause}
use Rattle.fof_part.specs.Sign.{Sign}
use Rattle.fof_part.specs.Mark.{Mark, marks_onto, marks_of}
use Rattle.fof_part.specs.Due.{Sort, Link, Quantifier, link_word, quantifier_word, headed, many_headed}
use Rattle.fof_part.proofs.OntoLaws.{onto}

-- with these variables bound, a formula of a sort becomes an expression
pub data Becomes : Sort → Scope → Formula → Sexp → Type 0 where
  goal : {sc : Scope} {F : Formula} {B : numbered.Formula Plain} {g : Goal Plain} → formula_in sc F ≡ some B → as_goal B ≡ some g → Becomes Sort.goal sc F (goal_sexp g)
  clause : {sc : Scope} {F : Formula} {B : numbered.Formula Plain} {d : Clause Plain} → formula_in sc F ≡ some B → as_clause B ≡ some d → Becomes Sort.clause sc F (clause_sexp d)
  head : {sc : Scope} {F : Formula} {B : numbered.Formula Plain} {a : plain.Atom} → formula_in sc F ≡ some B → as_atom B ≡ some a → Becomes Sort.head sc F (atom_sexp a)

bind-both : {A B C : Type 0} {o : Option A} {p : Option B} {a : A} {b : B} (f : A → B → C) → o ≡ some a → p ≡ some b → (o >>= λ x. p >>= λ y. some (f x y)) ≡ some (f a b)
bind-both f h k = ap₂ (λ x y. x >>= λ a. y >>= λ b. some (f a b)) h k

bind-one : {A B : Type 0} {o : Option A} {a : A} (f : A → B) → o ≡ some a → (o >>= λ x. some (f x)) ≡ some (f a)
bind-one f h = ap (λ x. x >>= λ a. some (f a)) h

pub becomes-true : (sc : Scope) → Becomes Sort.goal sc Formula.true (goal_sexp Goal.top)
becomes-true sc = goal {B = numbered.Formula.top} {g = Goal.top} refl refl

-- an atom is one where any sort is due
pub becomes-atom : (s : Sort) (sc : Scope) (p : Name) (ts : Terms) (us : plain.Terms) → is_name p ≡ true → terms_in sc ts ≡ some us → Becomes s sc (Formula.atom p ts) (atom_sexp (plain.Atom.atom p us))
becomes-atom s sc p ts us n e = go s
  where
    numbers : formula_in sc (Formula.atom p ts) ≡ some (numbered.Formula.atom (plain.Atom.atom p us))
    numbers =
        ap (λ (b : Bool). provided b (terms_in sc ts >>= λ us. some (numbered.Formula.atom (plain.Atom.atom p us)))) n
        ∙ bind-one (λ us. numbered.Formula.atom (plain.Atom.atom p us)) e

    go : (s : Sort) → Becomes s sc (Formula.atom p ts) (atom_sexp (plain.Atom.atom p us))
    go Sort.goal = goal {g = Goal.atom (plain.Atom.atom p us)} numbers refl
    go Sort.clause = clause {d = Clause.atom_d (plain.Atom.atom p us)} numbers refl
    go Sort.head = head {a = plain.Atom.atom p us} numbers refl

-- the two implications
pub becomes-asked : (sc : Scope) (F G : Formula) (d e : Sexp) → Becomes Sort.clause sc F d → Becomes Sort.goal sc G e → Becomes Sort.goal sc (Formula.implies F G) (word (octets "imp") (two d e))
becomes-asked sc F G d e (clause {B = B} {d = c} p h) (goal {B = C} {g = g} q k) =
    goal {B = numbered.Formula.implies B C} {g = Goal.imp c g} (bind-both numbered.Formula.implies p q) (bind-both Goal.imp h k)

pub becomes-ruled : (sc : Scope) (F G : Formula) (d e : Sexp) → Becomes Sort.goal sc F d → Becomes Sort.head sc G e → Becomes Sort.clause sc (Formula.implies F G) (word (octets "imp") (two d e))
becomes-ruled sc F G d e (goal {B = B} {g = g} p h) (head {B = C} {a = a} q k) =
    clause {B = numbered.Formula.implies B C} {d = Clause.imp_d g a} (bind-both numbered.Formula.implies p q) (bind-both Clause.imp_d h k)

-- which connectives and quantifiers a sort has
abbrev pub Links : Link → Sort → Type 0
Links l Sort.goal = Unit {0}
Links Link.conj Sort.clause = Unit {0}
Links Link.disj Sort.clause = ⊥
Links l Sort.head = ⊥

abbrev pub linking : Link → Formula → Formula → Formula
linking Link.conj = Formula.and
linking Link.disj = Formula.or

-- the sign of a connective
abbrev pub link_sign : Link → Sign
link_sign Link.conj = Sign.both
link_sign Link.disj = Sign.either

pub becomes-linked : (l : Link) (s : Sort) (sc : Scope) (F G : Formula) (d e : Sexp) → Links l s → Becomes s sc F d → Becomes s sc G e → Becomes s sc (linking l F G) (word (link_word l) (two d e))
becomes-linked Link.conj Sort.goal sc F G d e a (goal {B = B} {g = g} p h) (goal {B = C} {g = k} q i) =
    goal {B = numbered.Formula.and B C} {g = Goal.and g k} (bind-both numbered.Formula.and p q) (bind-both Goal.and h i)
becomes-linked Link.disj Sort.goal sc F G d e a (goal {B = B} {g = g} p h) (goal {B = C} {g = k} q i) =
    goal {B = numbered.Formula.or B C} {g = Goal.or g k} (bind-both numbered.Formula.or p q) (bind-both Goal.or h i)
becomes-linked Link.conj Sort.clause sc F G d e a (clause {B = B} {d = g} p h) (clause {B = C} {d = k} q i) =
    clause {B = numbered.Formula.and B C} {d = Clause.and_d g k} (bind-both numbered.Formula.and p q) (bind-both Clause.and_d h i)
becomes-linked Link.disj Sort.clause sc F G d e a x y = absurd a
becomes-linked Link.conj Sort.head sc F G d e a x y = absurd a
becomes-linked Link.disj Sort.head sc F G d e a x y = absurd a

abbrev pub Quantifies : Quantifier → Sort → Type 0
Quantifies q Sort.goal = Unit {0}
Quantifies Quantifier.for_all Sort.clause = Unit {0}
Quantifies Quantifier.exists Sort.clause = ⊥
Quantifies q Sort.head = ⊥

abbrev pub quantifying : Quantifier → Name → Formula → Formula
quantifying Quantifier.for_all = Formula.all
quantifying Quantifier.exists = Formula.some

pub becomes-quantified : (q : Quantifier) (s : Sort) (sc : Scope) (x : Name) (F : Formula) (e : Sexp) → Quantifies q s → Becomes s (x ∷ sc) F e → Becomes s sc (quantifying q x F) (word (quantifier_word q) (one e))
becomes-quantified Quantifier.for_all Sort.goal sc x F e a (goal {B = B} {g = g} p h) =
    goal {B = numbered.Formula.all tt B} {g = Goal.all tt g} (bind-one (numbered.Formula.all tt) p) (bind-one (Goal.all tt) h)
becomes-quantified Quantifier.exists Sort.goal sc x F e a (goal {B = B} {g = g} p h) =
    goal {B = numbered.Formula.some tt B} {g = Goal.some tt g} (bind-one (numbered.Formula.some tt) p) (bind-one (Goal.some tt) h)
becomes-quantified Quantifier.for_all Sort.clause sc x F e a (clause {B = B} {d = d} p h) =
    clause {B = numbered.Formula.all tt B} {d = Clause.all_d tt d} (bind-one (numbered.Formula.all tt) p) (bind-one (Clause.all_d tt) h)
becomes-quantified Quantifier.exists Sort.clause sc x F e a y = absurd a
becomes-quantified Quantifier.for_all Sort.head sc x F e a y = absurd a
becomes-quantified Quantifier.exists Sort.head sc x F e a y = absurd a

-- so many expressions, grouped to the left under one word
abbrev pub grouped_sexp : List ℕ → Sexp → List Sexp → Sexp
grouped_sexp w e [] = e
grouped_sexp w e (f ∷ fs) = grouped_sexp w (word w (two e f)) fs

-- the marks of those behind the first: each is ended as it is written
abbrev pub behind_marks : List Sexp → List Mark
behind_marks [] = []
behind_marks (e ∷ es) = marks_of e ++ (Mark.end ∷ behind_marks es)

abbrev pub count : List Sexp → ℕ
count [] = zero
count (e ∷ es) = suc (count es)

heads-turn : (w : List ℕ) (n : ℕ) → headed w ++ many_headed w n ≡ many_headed w n ++ headed w
heads-turn w zero = refl
heads-turn w (suc n) = ap (λ (x : List Mark). headed w ++ x) (heads-turn w n)

-- a word with one member, and with two
pub one-marks : (w : List ℕ) (e : Sexp) → headed w ++ (marks_of e ++ (Mark.end ∷ [])) ≡ marks_of (word w (one e))
one-marks w e = ap (λ (x : List Mark). headed w ++ x) (sym (onto e (Mark.end ∷ [])))

pub two-marks : (w : List ℕ) (e f : Sexp) → headed w ++ (marks_of e ++ (marks_of f ++ (Mark.end ∷ []))) ≡ marks_of (word w (two e f))
two-marks w e f =
    ap (λ (x : List Mark). headed w ++ x)
    (ap (λ (x : List Mark). marks_of e ++ x) (sym (onto f (Mark.end ∷ []))) ∙ sym (onto e (marks_onto f (Mark.end ∷ []))))

two-marks-then : (w : List ℕ) (e f : Sexp) (k : List Mark) → headed w ++ (marks_of e ++ (marks_of f ++ (Mark.end ∷ k))) ≡ marks_of (word w (two e f)) ++ k
two-marks-then w e f k =
    ap (λ (x : List Mark). headed w ++ x)
    (ap (λ (x : List Mark). marks_of e ++ x) (sym (append_assoc (marks_of f) (Mark.end ∷ []) k))
    ∙ sym (append_assoc (marks_of e) (marks_of f ++ (Mark.end ∷ [])) k))
    ∙ ap (λ (x : List Mark). x ++ k) (two-marks w e f)

-- all heads first, then the members
pub grouped-marks : (w : List ℕ) (e : Sexp) (es : List Sexp) → many_headed w (count es) ++ (marks_of e ++ behind_marks es) ≡ marks_of (grouped_sexp w e es)
grouped-marks w e [] = append-nil (marks_of e)
grouped-marks w e (f ∷ fs) =
    ap (λ (x : List Mark). x ++ (marks_of e ++ (marks_of f ++ (Mark.end ∷ behind_marks fs)))) (heads-turn w (count fs))
    ∙ append_assoc (many_headed w (count fs)) (headed w) (marks_of e ++ (marks_of f ++ (Mark.end ∷ behind_marks fs)))
    ∙ ap (λ (x : List Mark). many_headed w (count fs) ++ x) (two-marks-then w e f (behind_marks fs))
    ∙ grouped-marks w (word w (two e f)) fs
