-- Worked examples of the grammar (document 02, request One), each computed: texts that are `fof` lines, and texts that are not and so get refusal 12.
-- Whole texts; then formulas, each as the formula of a line; then annotations, each as what follows the formula of a line.
use Prim.Native.String.{String}
use mathlib.Core.Path.{◌≡◌, refl}
use mathlib.Core.Bool.{Bool, true, false, beq}
use mathlib.Core.List.{List, [], ◌∷◌, ◌++◌}
use Prim.Native.Nat.{ℕ}
use Rattle.basics.specs.Text.{octets}
use Rattle.fof_tokens.specs.Bytes.{is_space, is_alnum, is_sign, is_exponent, is_plain, is_escaped, in_line}
use Rattle.fof_tokens.specs.Machine.{scan, soonest}
use Rattle.fof_tokens.specs.Next.{piece_at, tokens_from, tokens_at, tokens}
use Rattle.grammar.specs.Machine.{accepts}
use Rattle.fof_productions.specs.Sound.{sound}

abbrev unless : Bool → String → List String → List String
unless true s ss = ss
unless false s ss = s ∷ ss

-- the texts that are not as they should be: none
abbrev wrong : Bool → (String → List ℕ) → List String → List String
wrong b f [] = []
wrong b f (s ∷ ss) = unless (beq (sound (f s)) b) s (wrong b f ss)

abbrev formula : String → List ℕ
formula s = octets "fof(a,axiom," ++ octets s ++ octets ")."

abbrev annotation : String → List ℕ
annotation s = octets "fof(a,axiom,p," ++ octets s ++ octets ")."

-- Files and lines: sound
abbrev sound-texts : List String
sound-texts =
    ""
    ∷ "% only a comment"
    ∷ "/* only */ /**/ % comments"
    ∷ "fof(a,axiom,p)."
    ∷ "fof(a,axiom,p). fof(b,conjecture,q)."
    ∷ "fof(a,axiom,p).fof(a,axiom,p)."
    ∷ "fof ( a /* the name */ , axiom , p ) ."
    ∷ "fof('a b',axiom,p)."
    ∷ "fof(17,axiom,p)."
    ∷ "fof(-17,axiom,p)."
    ∷ "fof(a,anything_At_all,p)."
    ∷ "fof(a,axiom-local,p)."
    ∷ "fof(fof,fof,fof(fof))."
    ∷ "fof(include,cnf,axiom & conjecture)."
    ∷ []

-- Files and lines: 12
abbrev other-texts : List String
other-texts =
    "p"
    ∷ "fof"
    ∷ "fof(a,axiom,p)"
    ∷ "fof(a,axiom,p))."
    ∷ "fof(a,axiom)."
    ∷ "fof(a,axiom,)."
    ∷ "fof(,axiom,p)."
    ∷ "fof(a,axiom,p).. "
    ∷ "FOF(a,axiom,p)."
    ∷ "'fof'(a,axiom,p)."
    ∷ "cnf(a,axiom,p)."
    ∷ "tff(a,axiom,p)."
    ∷ "thf(a,axiom,p)."
    ∷ "tcf(a,axiom,p)."
    ∷ "tpi(a,axiom,p)."
    ∷ "include('a.p')."
    ∷ "fof(a,axiom,p). include('a.p')."
    ∷ "fof(A,axiom,p)."
    ∷ "fof($a,axiom,p)."
    ∷ "fof(1.5,axiom,p)."
    ∷ "fof(a,Axiom,p)."
    ∷ "fof(a,'axiom',p)."
    ∷ "fof(a,$axiom,p)."
    ∷ "fof(a,axiom-1,p)."
    ∷ "fof(a,axiom-,p)."
    ∷ "fof(a,axiom,p) fof(b,axiom,q)."
    ∷ "fof(a,axiom,p#)."
    ∷ []

pub texts-sound : wrong true octets sound-texts ≡ []
unfolding sound accepts scan soonest tokens tokens_at tokens_from piece_at is_space is_alnum is_sign is_exponent is_plain is_escaped in_line
texts-sound = refl

pub texts-refused : wrong false octets other-texts ≡ []
unfolding sound accepts scan soonest tokens tokens_at tokens_from piece_at is_space is_alnum is_sign is_exponent is_plain is_escaped in_line
texts-refused = refl

-- Formulas and terms: sound
abbrev sound-formulas : List String
sound-formulas =
    "p"
    ∷ "p & q & r"
    ∷ "p | q | r"
    ∷ "p <=> q"
    ∷ "p => q"
    ∷ "p <= q"
    ∷ "p <~> q"
    ∷ "p ~| q"
    ∷ "p ~& q"
    ∷ "~ p"
    ∷ "~ ~ p"
    ∷ "~ p & ~ q"
    ∷ "(p)"
    ∷ "(((p)))"
    ∷ "(p & q) => r"
    ∷ "p => (q => r)"
    ∷ "! [X] : p(X)"
    ∷ "! [X,Y] : p(X,Y)"
    ∷ "! [X,X] : p(X)"
    ∷ "? [X] : ! [Y] : ~ p(X)"
    ∷ "! [X] : p(X) & q"
    ∷ "! [X] : p(X) => q(X)"
    ∷ "p => ? [X] : q(X)"
    ∷ "X = Y"
    ∷ "X != Y"
    ∷ "~ a = b"
    ∷ "f(a) != 1"
    ∷ "\"d\" = 'x y'"
    ∷ "$true"
    ∷ "$true & $false"
    ∷ "[p] --> [q]"
    ∷ "[] --> []"
    ∷ "{} --> {}"
    ∷ "{p,q} --> {r}"
    ∷ "[p & q] --> {q => r}"
    ∷ "(([p,q] --> [r]))"
    ∷ "p(a) & p(a,b) & p"
    ∷ "$true(a)"
    ∷ "p($true)"
    ∷ "$foo"
    ∷ "$$own(a)"
    ∷ "p(1,1/2,1.5,\"d\",X,'q'(f(X)))"
    ∷ "'p q'"
    ∷ "p (a)"
    ∷ []

-- Formulas and terms: 12
abbrev other-formulas : List String
other-formulas =
    "p & q | r"
    ∷ "p | q & r"
    ∷ "p & q => r"
    ∷ "p => q & r"
    ∷ "p => q => r"
    ∷ "a <=> b <=> c"
    ∷ "p & "
    ∷ "& p"
    ∷ "p q"
    ∷ "~"
    ∷ "~ | p"
    ∷ "p ~ | q"
    ∷ "()"
    ∷ "(p"
    ∷ "! [] : p"
    ∷ "! [x] : p"
    ∷ "! [X:$i] : p(X)"
    ∷ "! [X] p"
    ∷ "! [X,] : p"
    ∷ "! X : p"
    ∷ "! = p"
    ∷ "(a) = b"
    ∷ "a = (b)"
    ∷ "a = b = c"
    ∷ "p((a))"
    ∷ "([p] --> [q]) & r"
    ∷ "[p]"
    ∷ "[p] => [q]"
    ∷ "([p]) --> [q]"
    ∷ "[p] --> [q] --> [r]"
    ∷ "~ [p] --> [q]"
    ∷ "X"
    ∷ "1"
    ∷ "\"d\""
    ∷ "~ X"
    ∷ "X & p"
    ∷ "p()"
    ∷ "p(a,)"
    ∷ "p(q & r)"
    ∷ "p(~ q)"
    ∷ "$ite(p & q,a,b)"
    ∷ "p(! [X] : q)"
    ∷ "X(a)"
    ∷ "1(a)"
    ∷ "p(a)(b)"
    ∷ "01 = a"
    ∷ []

pub formulas-sound : wrong true formula sound-formulas ≡ []
unfolding sound accepts scan soonest tokens tokens_at tokens_from piece_at is_space is_alnum is_sign is_exponent is_plain is_escaped in_line
formulas-sound = refl

pub formulas-refused : wrong false formula other-formulas ≡ []
unfolding sound accepts scan soonest tokens tokens_at tokens_from piece_at is_space is_alnum is_sign is_exponent is_plain is_escaped in_line
formulas-refused = refl

-- Annotations: sound
abbrev sound-annotations : List String
sound-annotations =
    "x"
    ∷ "file('a.p',b)"
    ∷ "inference(a,[status(thm)],[b,c])"
    ∷ "X"
    ∷ "1/2"
    ∷ "\"d\""
    ∷ "a:b:[c]"
    ∷ "f(a):b"
    ∷ "[]"
    ∷ "[ ]"
    ∷ "[a,[b],c:d]"
    ∷ "$fof(p & q)"
    ∷ "$fof([p] --> [q])"
    ∷ "$cnf(p | ~ q)"
    ∷ "$cnf((p | ~ (q)))"
    ∷ "$cnf(a = b | a != b)"
    ∷ "$cnf(~ a = b)"
    ∷ "$fot(f(X))"
    ∷ "x,[]"
    ∷ "x,[y,z]"
    ∷ []

-- Annotations: 12
abbrev other-annotations : List String
other-annotations =
    "x,y"
    ∷ "x,[y],z"
    ∷ "x,[y],[z]"
    ∷ "[a]:b"
    ∷ "a:"
    ∷ "$foo"
    ∷ "$$own"
    ∷ "$thf(p)"
    ∷ "$tff(p)"
    ∷ "$fof"
    ∷ "$fof(p & q => r)"
    ∷ "$cnf(p & q)"
    ∷ "$cnf(~ ~ p)"
    ∷ "$cnf(~ (p | q))"
    ∷ "$cnf(X)"
    ∷ "$cnf(! [X] : p)"
    ∷ "$fot(p & q)"
    ∷ "a b"
    ∷ "f()"
    ∷ "(a)"
    ∷ "[a,]"
    ∷ "p & q"
    ∷ []

pub annotations-sound : wrong true annotation sound-annotations ≡ []
unfolding sound accepts scan soonest tokens tokens_at tokens_from piece_at is_space is_alnum is_sign is_exponent is_plain is_escaped in_line
annotations-sound = refl

pub annotations-refused : wrong false annotation other-annotations ≡ []
unfolding sound accepts scan soonest tokens tokens_at tokens_from piece_at is_space is_alnum is_sign is_exponent is_plain is_escaped in_line
annotations-refused = refl
