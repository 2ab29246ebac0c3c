-- Files that document 01 and RFC 9804 name, judged by computing with the definition: case 11, case 12, the examples of the canonical form, and bad input.
use Prim.Native.String.{String}
use mathlib.Core.Path.{◌≡◌, refl}
use mathlib.Core.Bool.{true}
use mathlib.Core.List.{List, [], ◌∷◌, ◌++◌}
use mathlib.Core.Option.{some}
use lib.ListN.{replicate}
use Rattle.basics.specs.Text.{octets}
use Rattle.sexp.specs.declared.carrier.Carrier.{Carrier}
use Rattle.sexp.specs.declared.carrier.Carrier.TheVariants.{Sound, Fault, Deep}
use Rattle.sexp.specs.Decimal.{is_digit}
use Rattle.sexp.specs.Sexp.{str, hinted, list, nil, cons}
use Rattle.sexp.specs.Scan.{step, digit, begin, note, deeper, ended, scan, judgement, carrier_of}
use Rattle.sexp.specs.Read.{read}

abbrev answers : List String → List Carrier
answers [] = []
answers (s ∷ r) = carrier_of 64 (octets s) ∷ answers r

-- document 01, case 11, and the bad input of the carrier
bad : answers ("" ∷ "01:a" ∷ "1:a" ∷ "0:" ∷ "00:" ∷ "3:ab" ∷ "3ab" ∷ ":a" ∷ "()x" ∷ "() " ∷ " ()" ∷ "(" ∷ ")" ∷ "())" ∷ "(1:a:1:b)" ∷ "1:a1:b" ∷ "99999999999999999999999999:a" ∷ [])
    ≡ (Fault 0 ∷ Fault 1 ∷ Sound ∷ Sound ∷ Fault 1 ∷ Fault 4 ∷ Fault 1 ∷ Fault 0 ∷ Fault 2 ∷ Fault 2 ∷ Fault 0 ∷ Fault 1 ∷ Fault 0 ∷ Fault 2 ∷ Fault 4 ∷ Fault 3 ∷ Fault 28 ∷ [])
unfolding carrier_of judgement scan step begin digit note deeper ended is_digit
bad = refl

-- RFC 9804's examples; the hinted one is a fault today
examples : answers ("(6:issuer3:bob)" ∷ "(7:subject(3:ref5:alice6:mother))" ∷ "7:subject" ∷ "12:hello world!" ∷ "3:abc" ∷ "()" ∷ "(1:a1:b1:c)" ∷ "4:::::" ∷ "10:abcdefghij" ∷ "(11:certificate(6:issuer3:bob)(7:subject5:alice))" ∷ "(4:icon[12:image/bitmap]9:xxxxxxxxx)" ∷ [])
    ≡ (Sound ∷ Sound ∷ Sound ∷ Sound ∷ Sound ∷ Sound ∷ Sound ∷ Sound ∷ Sound ∷ Sound ∷ Fault 7 ∷ [])
unfolding carrier_of judgement scan step begin digit note deeper ended is_digit
examples = refl

-- where hints are read it is not, and a malformed one is
hints : (judgement true 64 (octets "(4:icon[12:image/bitmap]9:xxxxxxxxx)") ∷ judgement true 64 (octets "[1:a](1:b)") ∷ judgement true 64 (octets "[1:a") ∷ judgement true 64 (octets "[]1:b") ∷ [])
    ≡ (Sound ∷ Fault 5 ∷ Fault 4 ∷ Fault 1 ∷ [])
unfolding judgement scan step begin digit note deeper ended is_digit
hints = refl

-- document 01, case 12: nesting 64 reads, 65 does not; and a fault comes before too deep
nested-64 : carrier_of 64 (replicate 64 40 ++ replicate 64 41) ≡ Sound
unfolding carrier_of judgement scan step begin digit note deeper ended is_digit
nested-64 = refl

nested-65 : carrier_of 64 (replicate 65 40 ++ replicate 65 41) ≡ Deep 64
unfolding carrier_of judgement scan step begin digit note deeper ended is_digit
nested-65 = refl

nested-cut : carrier_of 64 (replicate 65 40 ++ replicate 64 41) ≡ Fault 129
unfolding carrier_of judgement scan step begin digit note deeper ended is_digit
nested-cut = refl

-- the definition computes on whole files
hinted-read : read (octets "(1:a[1:b]2:cd())") ≡ some (list (cons (str (octets "a")) (cons (hinted (octets "b") (octets "cd")) (cons (list nil) nil))))
unfolding read judgement scan step begin digit note deeper ended is_digit
hinted-read = refl
