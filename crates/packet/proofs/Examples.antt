-- Refusals 1 to 6 of single files with their places, at their limits and in their order, by computing with the definitions (document 01, "The carrier and the words", "Sizes", "What comes
-- back", cases 11 and 12; document 02, Two, for the places). No file here is a proof of anything: what holds of all files is in the other laws.
use Prim.Native.Nat.{ℕ, zero, suc}
use Prim.Native.String.{String}
use mathlib.Core.Path.{◌≡◌, refl}
use mathlib.Core.List.{List, [], ◌∷◌, ◌++◌}
use mathlib.Core.Option.{Option, none, some}
use lib.ListN.{replicate}
use Rattle.basics.specs.Text.{octets}
use Rattle.sexp.specs.Decimal.{decimal_onto, is_digit}
use Rattle.sexp.specs.Scan.{step, digit, begin, note, deeper, ended, scan, judgement, carrier_of}
use Rattle.sexp.specs.Read.{read}
use Rattle.sexp.specs.Words.{is_letter, every, is_name_octet, is_name, no_leading_zero, is_number, worth_after, worth}
use Rattle.packet.specs.declared.Kind.{Kind}
use Rattle.packet.specs.declared.Kind.TheVariants as K
use Rattle.packet.specs.declared.Reason.{Reason}
use Rattle.packet.specs.declared.Reason.TheVariants as R
use Rattle.packet.specs.Table.{word_of, rank, rows, due_after, next, may_end}
use Rattle.packet.specs.Wrong.{is_step, is_text, begins, wrong}
use Rattle.packet.specs.Barred.{sort_of, number_in, barred}
use Rattle.packet.specs.File.{counted, holds, member_at, surplus, long, faulty, deep, unbuilt, many, unsound, tests, first_of, refusal_of}

-- a file, and its refusal with its place
abbrev Row : Type 0
Row = List ℕ × Option (Reason × ℕ)

abbrev good : List ℕ → Row
good s = (s, none)

abbrev bad : Reason → ℕ → List ℕ → Row
bad r at s = (s, some (r, at))

abbrev answers : Kind → List Row → List (Option (Reason × ℕ))
answers k [] = []
answers k (r ∷ rs) = refusal_of k r.0 ∷ answers k rs

abbrev stated : List Row → List (Option (Reason × ℕ))
stated [] = []
stated (r ∷ rs) = r.1 ∷ stated rs

-- n times the same text
abbrev times : ℕ → String → List ℕ
times zero s = []
times (suc n) s = octets s ++ times n s

-- a file of n members after one
abbrev listed : String → ℕ → String → List ℕ
listed s n t = octets s ++ times n t ++ octets ")"

-- n lists around
abbrev around : ℕ → String → String → List ℕ
around n s t = times n s ++ octets t ++ times n ")"

-- sizes: 16,384 bytes are asked whether they are an expression, 16,385 are not
abbrev sizes : List Row
sizes = bad R.Carrier 16384 (times 16384 "(") ∷ bad R.Long 16384 (times 16385 "(") ∷ []

abbrev rules : List Row
rules =
    bad R.Carrier 0 (octets "")
    ∷ bad R.Carrier 1 (octets "01:a")
    ∷ good (octets "(5:rules)")
    ∷ good (octets "(5:rules(4:atom1:p)(3:imp(3:top)(4:atom1:p))(3:all(4:atom1:p(1:v1:0)))(3:and(4:atom1:p)(4:atom1:p)))")
    ∷ good (listed "(5:rules" 256 "(4:atom1:p)")  -- 256 rules, 257
    ∷ bad R.Many 2824 (listed "(5:rules" 257 "(4:atom1:p)")
    ∷ bad R.Many 2832 (listed "(5:rules(4:atom1:q(1:v1:0))" 256 "(4:atom1:p)")  -- 6 before 5
    ∷ bad R.Words 9 (listed "(5:rules(3:top)" 256 "(4:atom1:p)")  -- 4 before 6
    ∷ good (octets "(5:rules(4:atom32:" ++ replicate 32 97 ++ octets "))")  -- a name of 32 octets, of 33
    ∷ bad R.Words 15 (octets "(5:rules(4:atom33:" ++ replicate 33 97 ++ octets "))")
    ∷ bad R.Barred 18 (octets "(5:rules(4:atom1:p(1:v1:0)))")  -- `v` below the number of quantifiers around it, and not
    ∷ bad R.Barred 24 (octets "(5:rules(3:all(4:atom1:p(1:v1:1))))")
    ∷ bad R.Barred 65 (octets "(5:rules(3:all(3:imp(4:some(4:atom1:p(1:v1:1)(1:v1:0)))(4:atom1:p(1:v1:1)))))")
    ∷ bad R.Barred 18 (octets "(5:rules(4:atom1:p(1:v3:999)))")  -- a number of three digits, of four
    ∷ bad R.Words 22 (octets "(5:rules(4:atom1:p(1:v4:1000)))")
    ∷ bad R.Barred 18 (octets "(5:rules(4:atom1:p(1:e1:1)))")
    ∷ []

abbrev goals : List Row
goals =
    bad R.Words 0 (octets "1:a")
    ∷ bad R.Words 7 (octets "(3:imp(3:top)(4:atom1:p))")
    ∷ good (around 63 "(3:all" "(4:atom1:p)")  -- 64 levels, 65
    ∷ bad R.Deep 384 (around 64 "(3:all" "(4:atom1:p)")
    ∷ bad R.Carrier 65 (times 65 "(")  -- 2 before 3
    ∷ bad R.Deep 384 (octets "(3:bad" ++ around 63 "(3:all" "(3:all(4:atom1:p))" ++ octets ")")  -- 3 before 4
    ∷ good (around 62 "(3:all" "(4:atom1:p(1:v2:61))")  -- 62 quantifiers
    ∷ bad R.Barred 382 (around 62 "(3:all" "(4:atom1:p(1:v2:62))")
    ∷ bad R.Barred 10 (octets "(4:atom1:p(1:e1:1))")
    ∷ bad R.Barred 34 (octets "(3:and(3:all(4:atom1:p))(4:atom1:p(1:v1:0)))")
    ∷ []

abbrev candidates : List Row
candidates =
    good (octets "(5:terms)")
    ∷ good (octets "(5:terms(1:f2:p7)(1:e1:1)(1:e2:64))")  -- `e` from 1 to 64, and 0, 65
    ∷ bad R.Barred 8 (octets "(5:terms(1:e1:0))")
    ∷ bad R.Barred 8 (octets "(5:terms(1:e2:65))")
    ∷ bad R.Barred 8 (octets "(5:terms(1:e3:999))")
    ∷ bad R.Words 12 (octets "(5:terms(1:e4:1000))")
    ∷ bad R.Barred 24 (octets "(5:terms(1:f1:g(1:e2:64)(1:e2:65)(1:e1:0)))")
    ∷ bad R.Barred 8 (octets "(5:terms(1:v1:0))")
    ∷ good (listed "(5:terms" 256 "(1:f1:a)")  -- 256 candidates, 257
    ∷ bad R.Many 2056 (listed "(5:terms(1:v1:0)" 256 "(1:f1:a)")
    ∷ bad R.Words 37 (octets "(5:terms(1:f1:g(1:e2:65))(1:v1:0)(1:v))")  -- 4 before 5
    ∷ []

abbrev strips : List Row
strips =
    bad R.Carrier 0 (octets "")
    ∷ good (octets "(3:imp(3:use1:0(1:0)(3:use1:1())))")
    ∷ good (octets "(3:use3:999(1:l1:r1:03:999))")
    ∷ bad R.Words 7 (octets "(4:some4:1000(3:top))")
    ∷ bad R.Words 1 (octets "(1:v1:0)")  -- neither word is in the table
    ∷ bad R.Words 1 (octets "(1:e1:1)")
    ∷ good (around 62 "(3:all" "(3:use1:0())")  -- 64 levels, 65: the path's list counts
    ∷ bad R.Deep 387 (around 63 "(3:all" "(3:use1:0())")
    ∷ []

pub the-limits-and-the-order :
    (answers K.Goal sizes ≡ stated sizes)
    × (answers K.Rules rules ≡ stated rules)
    × (answers K.Goal goals ≡ stated goals)
    × (answers K.Terms candidates ≡ stated candidates)
    × (answers K.Strip strips ≡ stated strips)
unfolding refusal_of first_of tests unsound many unbuilt deep faulty long surplus member_at holds counted barred number_in sort_of wrong begins is_text is_step may_end next due_after rows rank word_of worth worth_after is_number no_leading_zero is_name is_name_octet every is_letter read carrier_of judgement scan step begin digit note deeper ended is_digit decimal_onto
the-limits-and-the-order = (refl, refl, refl, refl, refl)
