-- Small texts with what the part makes of them (document 02, One, and the decisions in docs/DECISIONS.md): for each line its role and the bytes of the rule or the goal that it becomes, or nothing.
use Rattle.std.specs.Prelude.{ℕ, List, [], ◌∷◌, ◌++◌, map}
use Prim.Native.String.{String}
use Rattle.std.proofs.Math.Option.{Option, none, some}
use Rattle.basics.specs.Choice.{◌>>=◌}
use Rattle.basics.specs.Text.{octets}
use Rattle.fof_tokens.specs.Next.{tokens}
use Rattle.fof_truth.specs.Formula.{Role}
use Rattle.fof_part.specs.Sign.{signs}
use Rattle.fof_part.specs.Mark.{Mark, inked}
use Rattle.fof_part.specs.Lines.{lines_at}

abbrev pub Answer : Type 0
Answer = Option (List (Role × List ℕ))

abbrev pub Row : Type 0
Row = String × Answer

-- what the part makes of a text
abbrev pub answer_to : List ℕ → Answer
answer_to t = tokens t >>= λ ts. lines_at (signs ts) >>= λ is. some (map (λ (i : Role × List Mark). (i.0, inked i.1)) is)

-- of a conjecture, and of an axiom, by its formula
abbrev pub asked : String → Answer
asked s = answer_to (octets "fof(c,conjecture," ++ octets s ++ octets ").")

abbrev pub given : String → Answer
given s = answer_to (octets "fof(a,axiom," ++ octets s ++ octets ").")

abbrev goal : String → Answer
goal s = some ((Role.as_conjecture, octets s) ∷ [])

abbrev rule : String → Answer
rule s = some ((Role.as_axiom, octets s) ∷ [])

unfoldable pub goals : List Row
goals =
    ("$true", goal "(3:top)")
    ∷ ("p", goal "(4:atom1:p)")
    ∷ ("p(a,f(a,b))", goal "(4:atom1:p(1:f1:a)(1:f1:f(1:f1:a)(1:f1:b)))")
    ∷ ("p & q & r", goal "(3:and(3:and(4:atom1:p)(4:atom1:q))(4:atom1:r))")
    ∷ ("p & (q & r)", goal "(3:and(4:atom1:p)(3:and(4:atom1:q)(4:atom1:r)))")
    ∷ ("p | q | r | s", goal "(2:or(2:or(2:or(4:atom1:p)(4:atom1:q))(4:atom1:r))(4:atom1:s))")
    ∷ ("p => q", goal "(3:imp(4:atom1:p)(4:atom1:q))")
    ∷ ("(p & q) => (q | r)", goal "(3:imp(3:and(4:atom1:p)(4:atom1:q))(2:or(4:atom1:q)(4:atom1:r)))")
    ∷ ("(((p)))", goal "(4:atom1:p)")
    ∷ ("! [X,Y] : p(X,Y)", goal "(3:all(3:all(4:atom1:p(1:v1:1)(1:v1:0))))")
    ∷ ("? [X,X] : p(X)", goal "(4:some(4:some(4:atom1:p(1:v1:0))))")
    ∷ ("! [X] : ? [Y] : p(X)", goal "(3:all(4:some(4:atom1:p(1:v1:1))))")
    ∷ ("! [X] : p(X) & q", goal "(3:and(3:all(4:atom1:p(1:v1:0)))(4:atom1:q))")
    ∷ ("! [X] : (p(X) & q(X))", goal "(3:all(3:and(4:atom1:p(1:v1:0))(4:atom1:q(1:v1:0))))")
    ∷ ("! [X] : p(X) & q(X)", none)  -- the last X is free
    ∷ ("! [X] : (? [X] : p(X) & q(X))", goal "(3:all(3:and(4:some(4:atom1:p(1:v1:0)))(4:atom1:q(1:v1:0))))")
    ∷ ("p(X)", none)
    ∷ ("$true(a)", none)
    ∷ ("p($true)", none)
    ∷ ("isShut", none)
    ∷ ("'p'", none)
    ∷ ("~ p", none)
    ∷ ("a = b", none)
    ∷ ("p <= q", none)
    ∷ ("p <=> q", none)
    ∷ ("(p | q) => r", none)  -- no clause before the arrow
    ∷ ("p,x", none)  -- an annotation
    ∷ []

unfoldable pub rules : List Row
rules =
    ("p", rule "(4:atom1:p)")
    ∷ ("! [X] : (shut(X) => dry(X))", rule "(3:all(3:imp(4:atom4:shut(1:v1:0))(4:atom3:dry(1:v1:0))))")
    ∷ ("p & ! [X] : q(X)", rule "(3:and(4:atom1:p)(3:all(4:atom1:q(1:v1:0))))")
    ∷ ("$true => q", rule "(3:imp(3:top)(4:atom1:q))")
    ∷ ("! [X] : q(X) => r", rule "(3:imp(3:all(4:atom1:q(1:v1:0)))(4:atom1:r))")
    ∷ ("(p | q) => r", rule "(3:imp(2:or(4:atom1:p)(4:atom1:q))(4:atom1:r))")
    ∷ ("p | q", none)
    ∷ ("$true", none)
    ∷ ("? [X] : q(X)", none)
    ∷ ("q => (r & t)", none)
    ∷ ("q => (r => t)", none)
    ∷ ("q => ((r))", rule "(3:imp(4:atom1:q)(4:atom1:r))")
    ∷ []

unfoldable pub texts : List Row
texts =
    ("", some [])
    ∷ ("% only a comment", some [])
    ∷ ("fof(a,axiom,p). fof(c,conjecture,q).", some ((Role.as_axiom, octets "(4:atom1:p)") ∷ (Role.as_conjecture, octets "(4:atom1:q)") ∷ []))
    ∷ ("fof(fof,axiom,fof(fof)).", rule "(4:atom3:fof(1:f3:fof))")
    ∷ ("fof(a/**/,axiom,p/* */&\nq).", rule "(3:and(4:atom1:p)(4:atom1:q))")
    ∷ ("fof(isShut,axiom,p).", none)
    ∷ ("fof(17,axiom,p).", none)
    ∷ ("fof(a,lemma,p).", none)
    ∷ ("fof(a,axiom,p). fof(b,axiom,~ p).", none)
    ∷ []
