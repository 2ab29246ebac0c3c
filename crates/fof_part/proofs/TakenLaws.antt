-- A formula that becomes an expression of a sort, taken apart: its connective or quantifier is one that the sort has, its parts become expressions, and these make the whole.
use Prim.Native.Nat.{ℕ}
use mathlib.Core.Path.{◌≡◌, refl, ◌∙◌, ap}
use mathlib.Core.Bool.{true}
use mathlib.Core.List.{List, [], ◌∷◌, ◌++◌}
use mathlib.Core.Option.{Option, some, some-injective}
use Rattle.basics.specs.Choice.{◌>>=◌, nope, provided-some}
use Rattle.basics.specs.Text.{octets}
use Rattle.harrop.specs.Formula as plain
use Rattle.harrop.specs.Formula.{Name, Goal, Clause}
use Rattle.harrop.specs.Place.{Plain}
use Rattle.sexp.specs.Sexp.{Sexp, Sexps}
use Rattle.sexp.specs.Words.{is_name}
use Rattle.packet.specs.Written.{word, one, two, atom_sexp, goal_sexp, clause_sexp}
use Rattle.calculus.specs.Formula as numbered
use Rattle.fof_truth.specs.Formula.{Terms, Formula, grouped}
use Rattle.fof_truth.specs.Numbered.{Scope, terms_in, formula_in}
use Rattle.fof_truth.specs.Sentence.{as_atom, as_goal, as_clause}
use Rattle.fof_truth.proofs.SentenceLaws.{one-some, two-some}
use Rattle.fof_part.specs.Sign.{Sign}
use Rattle.fof_part.specs.Mark.{Mark}
use Rattle.fof_part.specs.Due.{Sort, Link, Quantifier, Due, Chain, did, by_chain, topped, link_word, quantifier_word, headed}
use Rattle.fof_part.proofs.BecomesLaws.{Becomes, goal, clause, head, Links, linking, Quantifies, quantifying, grouped_sexp}

pub record LinkedOf (l : Link) (s : Sort) (sc : Scope) (F G : Formula) (e : Sexp) : Type 0 where
  pub allowed : Links l s
  pub first : Sexp
  pub second : Sexp
  pub is_first : Becomes s sc F first
  pub is_second : Becomes s sc G second
  pub makes : word (link_word l) (two first second) ≡ e

pub linked_of : (l : Link) (s : Sort) (sc : Scope) (F G : Formula) (e : Sexp) → Becomes s sc (linking l F G) e → LinkedOf l s sc F G e
linked_of Link.conj Sort.goal sc F G e (goal {B = B} {g = g} p h) =
    let t = two-some (formula_in sc F) (formula_in sc G) numbered.Formula.and B p in
    let u = two-some (as_goal t.first) (as_goal t.second) Goal.and g (ap as_goal t.makes ∙ h) in
    record {
      allowed = tt;
      first = goal_sexp u.first;
      second = goal_sexp u.second;
      is_first = goal {B = t.first} {g = u.first} t.is_first u.is_first;
      is_second = goal {B = t.second} {g = u.second} t.is_second u.is_second;
      makes = ap goal_sexp u.makes;
    }
linked_of Link.disj Sort.goal sc F G e (goal {B = B} {g = g} p h) =
    let t = two-some (formula_in sc F) (formula_in sc G) numbered.Formula.or B p in
    let u = two-some (as_goal t.first) (as_goal t.second) Goal.or g (ap as_goal t.makes ∙ h) in
    record {
      allowed = tt;
      first = goal_sexp u.first;
      second = goal_sexp u.second;
      is_first = goal {B = t.first} {g = u.first} t.is_first u.is_first;
      is_second = goal {B = t.second} {g = u.second} t.is_second u.is_second;
      makes = ap goal_sexp u.makes;
    }
linked_of Link.conj Sort.clause sc F G e (clause {B = B} {d = d} p h) =
    let t = two-some (formula_in sc F) (formula_in sc G) numbered.Formula.and B p in
    let u = two-some (as_clause t.first) (as_clause t.second) Clause.and_d d (ap as_clause t.makes ∙ h) in
    record {
      allowed = tt;
      first = clause_sexp u.first;
      second = clause_sexp u.second;
      is_first = clause {B = t.first} {d = u.first} t.is_first u.is_first;
      is_second = clause {B = t.second} {d = u.second} t.is_second u.is_second;
      makes = ap clause_sexp u.makes;
    }
linked_of Link.disj Sort.clause sc F G e (clause {B = B} {d = d} p h) =
    let t = two-some (formula_in sc F) (formula_in sc G) numbered.Formula.or B p in
    nope (ap as_clause t.makes ∙ h)
linked_of Link.conj Sort.head sc F G e (head {B = B} {a = a} p h) =
    let t = two-some (formula_in sc F) (formula_in sc G) numbered.Formula.and B p in
    nope (ap as_atom t.makes ∙ h)
linked_of Link.disj Sort.head sc F G e (head {B = B} {a = a} p h) =
    let t = two-some (formula_in sc F) (formula_in sc G) numbered.Formula.or B p in
    nope (ap as_atom t.makes ∙ h)

-- the two sides of an implication, by the sort that it has to be of
pub record ImpliedOf (s : Sort) (sc : Scope) (F G : Formula) (e : Sexp) : Type 0 where
  pub left : Sort
  pub right : Sort
  pub allowed : (n : ℕ) (ss : List Sign) → by_chain s (Chain.implied n) sc ss ≡ did (headed (octets "imp")) (Due.unit left ∷ Due.arrow ∷ Due.unit right ∷ Due.shut ∷ []) sc ss
  pub first : Sexp
  pub second : Sexp
  pub is_first : Becomes left sc F first
  pub is_second : Becomes right sc G second
  pub makes : word (octets "imp") (two first second) ≡ e

pub implied-of : (s : Sort) (sc : Scope) (F G : Formula) (e : Sexp) → Becomes s sc (Formula.implies F G) e → ImpliedOf s sc F G e
implied-of Sort.goal sc F G e (goal {B = B} {g = g} p h) =
    let t = two-some (formula_in sc F) (formula_in sc G) numbered.Formula.implies B p in
    let u = two-some (as_clause t.first) (as_goal t.second) Goal.imp g (ap as_goal t.makes ∙ h) in
    record {
      left = Sort.clause;
      right = Sort.goal;
      allowed = λ n ss. refl;
      first = clause_sexp u.first;
      second = goal_sexp u.second;
      is_first = clause {B = t.first} {d = u.first} t.is_first u.is_first;
      is_second = goal {B = t.second} {g = u.second} t.is_second u.is_second;
      makes = ap goal_sexp u.makes;
    }
implied-of Sort.clause sc F G e (clause {B = B} {d = d} p h) =
    let t = two-some (formula_in sc F) (formula_in sc G) numbered.Formula.implies B p in
    let u = two-some (as_goal t.first) (as_atom t.second) Clause.imp_d d (ap as_clause t.makes ∙ h) in
    record {
      left = Sort.goal;
      right = Sort.head;
      allowed = λ n ss. refl;
      first = goal_sexp u.first;
      second = atom_sexp u.second;
      is_first = goal {B = t.first} {g = u.first} t.is_first u.is_first;
      is_second = head {B = t.second} {a = u.second} t.is_second u.is_second;
      makes = ap clause_sexp u.makes;
    }
implied-of Sort.head sc F G e (head {B = B} {a = a} p h) =
    let t = two-some (formula_in sc F) (formula_in sc G) numbered.Formula.implies B p in
    nope (ap as_atom t.makes ∙ h)

pub record QuantifiedOf (q : Quantifier) (s : Sort) (sc : Scope) (x : Name) (F : Formula) (e : Sexp) : Type 0 where
  pub allowed : Quantifies q s
  pub body : Sexp
  pub is_body : Becomes s (x ∷ sc) F body
  pub makes : word (quantifier_word q) (one body) ≡ e

pub quantified-of : (q : Quantifier) (s : Sort) (sc : Scope) (x : Name) (F : Formula) (e : Sexp) → Becomes s sc (quantifying q x F) e → QuantifiedOf q s sc x F e
quantified-of Quantifier.for_all Sort.goal sc x F e (goal {B = B} {g = g} p h) =
    let t = one-some (formula_in (x ∷ sc) F) (numbered.Formula.all tt) B p in
    let u = one-some (as_goal t.first) (Goal.all tt) g (ap as_goal t.makes ∙ h) in
    record { allowed = tt; body = goal_sexp u.first; is_body = goal {B = t.first} {g = u.first} t.is_first u.is_first; makes = ap goal_sexp u.makes }
quantified-of Quantifier.exists Sort.goal sc x F e (goal {B = B} {g = g} p h) =
    let t = one-some (formula_in (x ∷ sc) F) (numbered.Formula.some tt) B p in
    let u = one-some (as_goal t.first) (Goal.some tt) g (ap as_goal t.makes ∙ h) in
    record { allowed = tt; body = goal_sexp u.first; is_body = goal {B = t.first} {g = u.first} t.is_first u.is_first; makes = ap goal_sexp u.makes }
quantified-of Quantifier.for_all Sort.clause sc x F e (clause {B = B} {d = d} p h) =
    let t = one-some (formula_in (x ∷ sc) F) (numbered.Formula.all tt) B p in
    let u = one-some (as_clause t.first) (Clause.all_d tt) d (ap as_clause t.makes ∙ h) in
    record { allowed = tt; body = clause_sexp u.first; is_body = clause {B = t.first} {d = u.first} t.is_first u.is_first; makes = ap clause_sexp u.makes }
quantified-of Quantifier.exists Sort.clause sc x F e (clause {B = B} {d = d} p h) =
    let t = one-some (formula_in (x ∷ sc) F) (numbered.Formula.some tt) B p in
    nope (ap as_clause t.makes ∙ h)
quantified-of Quantifier.for_all Sort.head sc x F e (head {B = B} {a = a} p h) =
    let t = one-some (formula_in (x ∷ sc) F) (numbered.Formula.all tt) B p in
    nope (ap as_atom t.makes ∙ h)
quantified-of Quantifier.exists Sort.head sc x F e (head {B = B} {a = a} p h) =
    let t = one-some (formula_in (x ∷ sc) F) (numbered.Formula.some tt) B p in
    nope (ap as_atom t.makes ∙ h)

-- `$true` is a goal only
pub record TrueOf (s : Sort) (sc : Scope) (e : Sexp) : Type 0 where
  pub allowed : (ss : List Sign) → topped s sc ss ≡ did (headed (octets "top") ++ (Mark.end ∷ [])) [] sc ss
  pub makes : word (octets "top") Sexps.nil ≡ e

pub true_of : (s : Sort) (sc : Scope) (e : Sexp) → Becomes s sc Formula.true e → TrueOf s sc e
true_of Sort.goal sc e (goal {B = B} {g = g} p h) = record {
  allowed = λ ss. refl;
  makes = ap goal_sexp (some-injective Goal.top g (ap as_goal (some-injective numbered.Formula.top B p) ∙ h));
}
true_of Sort.clause sc e (clause {B = B} {d = d} p h) = nope (ap as_clause (some-injective numbered.Formula.top B p) ∙ h)
true_of Sort.head sc e (head {B = B} {a = a} p h) = nope (ap as_atom (some-injective numbered.Formula.top B p) ∙ h)

-- an atom is of every sort
pub record AtomOf (sc : Scope) (p : Name) (ts : Terms) (e : Sexp) : Type 0 where
  pub named : is_name p ≡ true
  pub terms : plain.Terms
  pub are_terms : terms_in sc ts ≡ some terms
  pub makes : atom_sexp (plain.Atom.atom p terms) ≡ e

record AtomNumbered (sc : Scope) (p : Name) (ts : Terms) (B : numbered.Formula Plain) : Type 0 where
  pub named : is_name p ≡ true
  pub terms : plain.Terms
  pub are_terms : terms_in sc ts ≡ some terms
  pub makes : numbered.Formula.atom (plain.Atom.atom p terms) ≡ B

atom-numbered : (sc : Scope) (p : Name) (ts : Terms) (B : numbered.Formula Plain) → formula_in sc (Formula.atom p ts) ≡ some B → AtomNumbered sc p ts B
atom-numbered sc p ts B e =
    let (n, h) = provided-some (is_name p) (terms_in sc ts >>= λ us. some (numbered.Formula.atom (plain.Atom.atom p us))) B e in
    let t = one-some (terms_in sc ts) (λ us. numbered.Formula.atom (plain.Atom.atom p us)) B h in
    record { named = n; terms = t.first; are_terms = t.is_first; makes = t.makes }

pub atom-of : (s : Sort) (sc : Scope) (p : Name) (ts : Terms) (e : Sexp) → Becomes s sc (Formula.atom p ts) e → AtomOf sc p ts e
atom-of Sort.goal sc p ts e (goal {B = B} {g = g} q h) =
    let t = atom-numbered sc p ts B q in
    let k = some-injective (Goal.atom (plain.Atom.atom p t.terms)) g (ap as_goal t.makes ∙ h) in
    record { named = t.named; terms = t.terms; are_terms = t.are_terms; makes = ap goal_sexp k }
atom-of Sort.clause sc p ts e (clause {B = B} {d = d} q h) =
    let t = atom-numbered sc p ts B q in
    let k = some-injective (Clause.atom_d (plain.Atom.atom p t.terms)) d (ap as_clause t.makes ∙ h) in
    record { named = t.named; terms = t.terms; are_terms = t.are_terms; makes = ap clause_sexp k }
atom-of Sort.head sc p ts e (head {B = B} {a = a} q h) =
    let t = atom-numbered sc p ts B q in
    let k = some-injective (plain.Atom.atom p t.terms) a (ap as_atom t.makes ∙ h) in
    record { named = t.named; terms = t.terms; are_terms = t.are_terms; makes = ap atom_sexp k }

-- formulas that become expressions, one by one
abbrev pub EachBecomes : Sort → Scope → List Formula → List Sexp → Type 0
EachBecomes s sc [] [] = Unit {0}
EachBecomes s sc [] (e ∷ es) = ⊥
EachBecomes s sc (F ∷ Fs) [] = ⊥
EachBecomes s sc (F ∷ Fs) (e ∷ es) = Becomes s sc F e × EachBecomes s sc Fs es

-- a chain
pub record GroupedOf (l : Link) (s : Sort) (sc : Scope) (F : Formula) (Gs : List Formula) (e : Sexp) : Type 0 where
  pub first : Sexp
  pub others : List Sexp
  pub is_first : Becomes s sc F first
  pub are_others : EachBecomes s sc Gs others
  pub makes : grouped_sexp (link_word l) first others ≡ e

pub grouped-of : (l : Link) (s : Sort) (sc : Scope) (F : Formula) (Gs : List Formula) (e : Sexp) → Becomes s sc (grouped (linking l) F Gs) e → GroupedOf l s sc F Gs e
grouped-of l s sc F [] e b = record { first = e; others = []; is_first = b; are_others = tt; makes = refl }
grouped-of l s sc F (G ∷ Gs) e b =
    let t = grouped-of l s sc (linking l F G) Gs e b in
    let u = linked_of l s sc F G t.first t.is_first in
    record {
      first = u.first;
      others = u.second ∷ t.others;
      is_first = u.is_first;
      are_others = (u.is_second, t.are_others);
      makes = ap (λ (x : Sexp). grouped_sexp (link_word l) x t.others) u.makes ∙ t.makes;
    }

pub links-of : (l : Link) (s : Sort) (sc : Scope) (F G : Formula) (Gs : List Formula) (e : Sexp) → Becomes s sc (grouped (linking l) F (G ∷ Gs)) e → Links l s
links-of l s sc F G [] e b = (linked_of l s sc F G e b).allowed
links-of l s sc F G (H ∷ Hs) e b = links-of l s sc (linking l F G) H Hs e b
