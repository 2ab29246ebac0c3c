-- The formulas of the part of TPTP that is read, with named variables (document 02, One): `$true`, atoms, `&`, `|`, `=>`, `!` and `?`; and the lines that hold them.
-- A chain of one connective is grouped to the left; a list of variables is nested quantifiers, the first outermost. A word is any octets here: which are document 01's names is asked in Part.
-- Left out: everything else that the grammar of `fof` lines allows. A line with any of it is refusal 13 before there is a formula.
use Rattle.std.specs.Prelude.{List, [], ◌∷◌}
use Rattle.harrop.specs.Formula.{Name}

mutual
  -- a variable, by its upper-case word; a function of terms, by its lower-case word
  pub data Term : Type 0 where
    var : Name → Term
    fun : Name → Terms → Term

  pub data Terms : Type 0 where
    nil : Terms
    cons : Term → Terms → Terms

pub data Formula : Type 0 where
  true : Formula
  atom : Name → Terms → Formula
  and : Formula → Formula → Formula
  or : Formula → Formula → Formula
  implies : Formula → Formula → Formula
  all : Name → Formula → Formula
  some : Name → Formula → Formula

-- a chain of units with one connective between them: F c G c H is (F c G) c H
abbrev pub grouped : (Formula → Formula → Formula) → Formula → List Formula → Formula
grouped c F [] = F
grouped c F (G ∷ Gs) = grouped c (c F G) Gs

-- a quantifier over a list of variables, the first outermost
abbrev pub nested : (Name → Formula → Formula) → List Name → Formula → Formula
nested q [] F = F
nested q (x ∷ xs) F = q x (nested q xs F)

-- the two roles that are read
pub data Role : Type 0 where
  as_axiom : Role
  as_conjecture : Role

-- fof(label, role, formula).
pub record Line : Type 0 where
  pub label : Name
  pub role : Role
  pub formula : Formula
