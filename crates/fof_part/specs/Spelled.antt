-- How the lines of the part are spelt in tokens (document 02, One), production by production as the grammar of `fof` lines has them: a formula is a unit, or units with one connective between
-- them; a quantifier takes one unit; parentheses go round formulas. A chain groups to the left, a variable list is nested quantifiers with the first outermost (crate fof_truth, Formula).
use Rattle.std.specs.Prelude.{List, [], ◌∷◌, ◌++◌}
use Rattle.basics.specs.Text.{octets}
use Rattle.harrop.specs.Formula.{Name}
use Rattle.fof_truth.specs.Formula.{Term, Terms, Formula, Role, Line, grouped, nested}
use Rattle.fof_part.specs.Sign.{Sign}

mutual
  -- a term; terms with commas between them, at least one
  pub data TermSpelt : Term → List Sign → Type 0 where
    variable : {x : Name} → TermSpelt (Term.var x) (Sign.upper x ∷ [])
    constant : {g : Name} → TermSpelt (Term.fun g Terms.nil) (Sign.lower g ∷ [])
    applied : {g : Name} {t : Term} {ts : Terms} {w : List Sign} → TermsSpelt t ts w → TermSpelt (Term.fun g (Terms.cons t ts)) (Sign.lower g ∷ Sign.opens ∷ (w ++ (Sign.closes ∷ [])))

  pub data TermsSpelt : Term → Terms → List Sign → Type 0 where
    last : {t : Term} {w : List Sign} → TermSpelt t w → TermsSpelt t Terms.nil w
    further : {t u : Term} {us : Terms} {w v : List Sign} → TermSpelt t w → TermsSpelt u us v → TermsSpelt t (Terms.cons u us) (w ++ (Sign.comma ∷ v))

-- a variable list, with commas between
pub data NamesSpelt : Name → List Name → List Sign → Type 0 where
  last : {x : Name} → NamesSpelt x [] (Sign.upper x ∷ [])
  further : {x y : Name} {ys : List Name} {w : List Sign} → NamesSpelt y ys w → NamesSpelt x (y ∷ ys) (Sign.upper x ∷ Sign.comma ∷ w)

mutual
  pub data UnitSpelt : Formula → List Sign → Type 0 where
    truth : UnitSpelt Formula.true (Sign.truth ∷ [])
    plain : {p : Name} → UnitSpelt (Formula.atom p Terms.nil) (Sign.lower p ∷ [])
    applied : {p : Name} {t : Term} {ts : Terms} {w : List Sign} → TermsSpelt t ts w → UnitSpelt (Formula.atom p (Terms.cons t ts)) (Sign.lower p ∷ Sign.opens ∷ (w ++ (Sign.closes ∷ [])))
    every : {x : Name} {xs : List Name} {F : Formula} {w v : List Sign} → NamesSpelt x xs w → UnitSpelt F v → UnitSpelt (nested Formula.all (x ∷ xs) F) (Sign.every ∷ Sign.lists ∷ (w ++ (Sign.ends ∷ Sign.colon ∷ v)))
    exist : {x : Name} {xs : List Name} {F : Formula} {w v : List Sign} → NamesSpelt x xs w → UnitSpelt F v → UnitSpelt (nested Formula.some (x ∷ xs) F) (Sign.exist ∷ Sign.lists ∷ (w ++ (Sign.ends ∷ Sign.colon ∷ v)))
    parens : {F : Formula} {w : List Sign} → LogicSpelt F w → UnitSpelt F (Sign.opens ∷ (w ++ (Sign.closes ∷ [])))

  pub data LogicSpelt : Formula → List Sign → Type 0 where
    alone : {F : Formula} {w : List Sign} → UnitSpelt F w → LogicSpelt F w
    conjoined : {F G : Formula} {Gs : List Formula} {w v : List Sign} → UnitSpelt F w → ChainSpelt Sign.both G Gs v → LogicSpelt (grouped Formula.and F (G ∷ Gs)) (w ++ v)
    disjoined : {F G : Formula} {Gs : List Formula} {w v : List Sign} → UnitSpelt F w → ChainSpelt Sign.either G Gs v → LogicSpelt (grouped Formula.or F (G ∷ Gs)) (w ++ v)
    implied : {F G : Formula} {w v : List Sign} → UnitSpelt F w → UnitSpelt G v → LogicSpelt (Formula.implies F G) (w ++ (Sign.then ∷ v))

  -- further units, each behind the connective
  pub data ChainSpelt : Sign → Formula → List Formula → List Sign → Type 0 where
    last : {s : Sign} {G : Formula} {w : List Sign} → UnitSpelt G w → ChainSpelt s G [] (s ∷ w)
    further : {s : Sign} {G H : Formula} {Hs : List Formula} {w v : List Sign} → UnitSpelt G w → ChainSpelt s H Hs v → ChainSpelt s G (H ∷ Hs) (s ∷ (w ++ v))

-- the words of the two roles
abbrev pub role_word : Role → Name
role_word Role.as_axiom = octets "axiom"
role_word Role.as_conjecture = octets "conjecture"

-- fof(label, role, formula).
pub data LineSpelt : Line → List Sign → Type 0 where
  line : {l : Name} {r : Role} {F : Formula} {w : List Sign} → LogicSpelt F w → LineSpelt (record { label = l; role = r; formula = F }) (Sign.lower (octets "fof") ∷ Sign.opens ∷ Sign.lower l ∷ Sign.comma ∷ Sign.lower (role_word r) ∷ Sign.comma ∷ (w ++ (Sign.closes ∷ Sign.dot ∷ [])))

pub data BookSpelt : List Line → List Sign → Type 0 where
  none : BookSpelt [] []
  further : {l : Line} {ls : List Line} {w v : List Sign} → LineSpelt l w → BookSpelt ls v → BookSpelt (l ∷ ls) (w ++ v)
