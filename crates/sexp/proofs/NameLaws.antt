-- Names, octet by octet (document 01: a first octet from a to z, then a to z, 0 to 9 or underscore, 1 to 32 octets).
use Prim.Native.Nat.{ℕ, ◌<◌, ◌≤◌}
use mathlib.Core.Path.{◌≡◌, refl, sym, ◌∙◌, ap}
use mathlib.Core.Bool.{Bool, true, false, ◌&&◌}
use mathlib.Core.List.{List, [], ◌∷◌}
use native.Mathlib.Omega.{arith}
use lib.Dec.{leb, eqb}
use lib.ListN.{length}
use borrow.Author.Tests.{le-leb, lt-leb}
use Rattle.sexp.specs.Decimal.{is_digit}
use Rattle.sexp.specs.Words.{is_letter, every, is_name_octet, is_name}
use Rattle.std.specs.List.{list_all}

-- which octets are a name's
pub octet-letter : (c : ℕ) → is_letter c ≡ true → true ≡ is_name_octet c
unfolding is_name_octet
octet-letter c e = rw e refl

pub octet-digit : (c : ℕ) → is_letter c ≡ false → is_digit c ≡ true → true ≡ is_name_octet c
unfolding is_name_octet
octet-digit c e f = rw e (rw f refl)

pub octet-other : (c : ℕ) → is_letter c ≡ false → is_digit c ≡ false → eqb c 95 ≡ is_name_octet c
unfolding is_name_octet
octet-other c e f = rw e (rw f refl)

-- what no name is
pub name-none : (w : List ℕ) → length w ≡ 0 → false ≡ is_name w
unfolding is_name
name-none [] h = refl
name-none (c ∷ w) h = absurd (omega arith)

and-true : (b : Bool) → b && true ≡ b
and-true true = refl
and-true false = refl

and-false : (b : Bool) → false ≡ b && false
and-false true = refl
and-false false = refl

pub name-long : (w : List ℕ) → 32 < length w → false ≡ is_name w
unfolding is_name
name-long [] h = absurd (omega arith)
name-long (c ∷ w) h = let e : leb (length w) 31 ≡ false = lt-leb (length w) 31 (omega arith) in rw e (and-false (is_letter c && every is_name_octet w))

pub name-first : (c : ℕ) (w : List ℕ) → is_letter c ≡ false → false ≡ is_name (c ∷ w)
unfolding is_name
name-first c w e = rw e refl

-- the library's test of every octet
every-all : (t : ℕ → Bool) (w : List ℕ) → list_all t w ≡ every t w
unfolding every
every-all t [] = refl
every-all t (c ∷ w) = ap (λ (b : Bool). t c && b) (every-all t w)

pub name-rest : (r : Bool) (c : ℕ) (w : List ℕ) → r ≡ list_all is_name_octet w → is_letter c ≡ true → length (c ∷ w) ≤ 32 → r ≡ is_name (c ∷ w)
unfolding is_name
name-rest r c w h e l =
    let g : leb (length w) 31 ≡ true = le-leb (length w) 31 (omega arith) in
    h ∙ every-all is_name_octet w ∙ rw e (rw g (sym (and-true (every is_name_octet w))))
