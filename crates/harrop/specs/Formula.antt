-- Terms, atoms, goals, clauses and strips (document 01, "What the desk judges", the table of words; document 003, appendix, D3 and G3).
-- A constructor is the table's word, with a D behind a clause's. A name is any list of octets and a number any number: what the table bars is said in crate `packet`.
-- Goals and clauses are over a type Q, what a quantifier carries: nothing in the first edition, a sort in request Twelve.
use Rattle.std.specs.Prelude.{ℕ, suc, ◌+◌, max, List}

abbrev pub Name : Type 0
Name = List ℕ

mutual
  -- the variable of the quantifier n places outward, 0 the nearest; a function of terms; parameter k
  pub data Term : Type 0 where
    v : ℕ → Term
    f : Name → Terms → Term
    e : ℕ → Term

  pub data Terms : Type 0 where
    nil : Terms
    cons : Term → Terms → Terms

pub data Atom : Type 0 where
  atom : Name → Terms → Atom

mutual
  pub data Goal (Q : Type 0) : Type 0 where
    top : Goal Q
    atom : Atom → Goal Q
    and : Goal Q → Goal Q → Goal Q
    or : Goal Q → Goal Q → Goal Q
    some : Q → Goal Q → Goal Q
    all : Q → Goal Q → Goal Q
    imp : Clause Q → Goal Q → Goal Q

  pub data Clause (Q : Type 0) : Type 0 where
    atom_d : Atom → Clause Q
    imp_d : Goal Q → Atom → Clause Q
    all_d : Q → Clause Q → Clause Q
    and_d : Clause Q → Clause Q → Clause Q

-- what a path says: left or right at an `and`, a candidate's number at an `all`
pub data Step : Type 0 where
  l : Step
  r : Step
  n : ℕ → Step

-- a strip is its first node with its parts; `use` is two constructors, without a third part and with one
pub data Strip : Type 0 where
  top : Strip
  and : Strip → Strip → Strip
  left : Strip → Strip
  right : Strip → Strip
  some : ℕ → Strip → Strip
  all : Strip → Strip
  imp : Strip → Strip
  use₀ : ℕ → List Step → Strip
  use₁ : ℕ → List Step → Strip → Strip

-- a node with no part has height 1, any other one more than the highest of its parts; a path adds nothing
abbrev pub height : Strip → ℕ
height Strip.top = 1
height (Strip.and P R) = suc (max (height P) (height R))
height (Strip.left P) = suc (height P)
height (Strip.right P) = suc (height P)
height (Strip.some i P) = suc (height P)
height (Strip.all P) = suc (height P)
height (Strip.imp P) = suc (height P)
height (Strip.use₀ k path) = 1
height (Strip.use₁ k path P) = suc (height P)

-- the number of strip nodes
abbrev pub nodes : Strip → ℕ
nodes Strip.top = 1
nodes (Strip.and P R) = suc (nodes P + nodes R)
nodes (Strip.left P) = suc (nodes P)
nodes (Strip.right P) = suc (nodes P)
nodes (Strip.some i P) = suc (nodes P)
nodes (Strip.all P) = suc (nodes P)
nodes (Strip.imp P) = suc (nodes P)
nodes (Strip.use₀ k path) = 1
nodes (Strip.use₁ k path P) = suc (nodes P)
