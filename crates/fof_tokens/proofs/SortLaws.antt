-- A byte string is a piece of one sort only: a space or comment, or a token of one kind. `sort_of` tells which, from the first bytes and, in a number, from `/`, `.`, `E` and `e`.
use Prim.Native.Nat.{ℕ, ◌<◌, ◌≤◌}
use mathlib.Core.Path.{◌≡◌, refl, sym, ◌∙◌, ap}
use mathlib.Core.Bool.{Bool, true, false, ◌&&◌, ◌||◌, not, false≢true, or_assoc, and-false}
use mathlib.Core.List.{List, [], ◌∷◌, ◌++◌}
use mathlib.Core.Logic.{inl, inr, ⊎_elim}
use native.Mathlib.Omega.{arith}
use lib.Dec.{eqb, leb}
use borrow.Author.Tests.{leb-true, le-leb, eqb-true, ne_eqb, lt-leb, not-true}
use Rattle.basics.specs.Choice.{choose, both_true}
use Rattle.basics.specs.Text.{octets}
use Rattle.fof_tokens.specs.declared.Kind.{Kind}
use Rattle.fof_tokens.specs.declared.Kind.TheVariants.{Lower, Upper, Quoted, Distinct, Dollar, DoubleDollar, Integer, Rational, Real}
use Rattle.fof_tokens.specs.declared.Kind.TheVariants.{OpenParen, CloseParen, OpenBracket, CloseBracket, OpenBrace, CloseBrace, Comma, Dot, Colon, Minus}
use Rattle.fof_tokens.specs.declared.Kind.TheVariants.{ForAll, Exists, Not, And, Or, Equal, Unequal, Implies, ImpliedBy, Iff, Xor, Nor, Nand, Sequent}
use Rattle.fof_tokens.specs.Bytes.{within, is_space, is_small, is_capital, is_alnum, is_digit, is_nonzero, is_sign, is_exponent, in_line}
use Rattle.fof_tokens.specs.Rule.{Rule, never, empty, byte, ◌▸◌, ◌∣◌, many, Many, done, more, ◌by◌, just, text, optional}
use Rattle.fof_tokens.specs.Token.{lower_word, character, sign, positive, decimal, fraction, exponent, real, IsToken}
use Rattle.fof_tokens.specs.Cuts.{block, Gap}
use Rattle.fof_tokens.specs.Machine.{Sort, gap, token}
use Rattle.fof_tokens.proofs.RuleLaws.{or-true, or-too, true-or}

-- bytes that a string has

abbrev has : ℕ → List ℕ → Bool
has b [] = false
has b (c ∷ w) = eqb c b || has b w

has-append : (b : ℕ) (u v : List ℕ) → has b (u ++ v) ≡ has b u || has b v
has-append b [] v = refl
has-append b (c ∷ u) v = ap (λ (x : Bool). eqb c b || x) (has-append b u v) ∙ sym (or_assoc (eqb c b) (has b u) (has b v))

has_left : (b : ℕ) (u v : List ℕ) → has b u ≡ true → has b (u ++ v) ≡ true
has_left b u v h = has-append b u v ∙ true-or (has b u) (has b v) h

has_right : (b : ℕ) (u v : List ℕ) → has b v ≡ true → has b (u ++ v) ≡ true
has_right b u v h = has-append b u v ∙ or-too (has b u) (has b v) h

-- the rule has no use for this byte
abbrev lacks : ℕ → Rule → Bool
lacks b never = true
lacks b empty = true
lacks b (byte t) = not (t b)
lacks b (r ▸ s) = lacks b r && lacks b s
lacks b (r ∣ s) = lacks b r && lacks b s
lacks b (many r) = lacks b r

neither : {a b : Bool} → a ≡ false → b ≡ false → a || b ≡ false
neither e f = rw e f

lacks-many : (b : ℕ) {P : List ℕ → Type 0} {w : List ℕ} → ((u : List ℕ) → P u → has b u ≡ false) → Many P w → has b w ≡ false
lacks-many b f (done e) = ap (has b) e
lacks-many b f (more {u = u} {v = v} e h k) = ap (has b) e ∙ has-append b u v ∙ neither (f u h) (lacks-many b f k)

lacks-byte : (b : ℕ) (t : ℕ → Bool) (c : ℕ) → not (t b) ≡ true → t c ≡ true → eqb c b ≡ false
lacks-byte b t c n h = ne_eqb c b (λ e. false≢true (sym (not-true (t b) n) ∙ ap t (sym e) ∙ h))

lacks-by : (b : ℕ) (r : Rule) (w : List ℕ) → lacks b r ≡ true → w by r → has b w ≡ false
lacks-by b never w e h = absurd h
lacks-by b empty w e h = ap (has b) h
lacks-by b (byte t) w e (c, q, h) = ap (has b) q ∙ neither (lacks-byte b t c e h) refl
lacks-by b (r ▸ s) w e (u, v, q, h, k) =
    let (x, y) = both_true (lacks b r) (lacks b s) e in
    ap (has b) q ∙ has-append b u v ∙ neither (lacks-by b r u x h) (lacks-by b s v y k)
lacks-by b (r ∣ s) w e (inl h) = lacks-by b r w (both_true (lacks b r) (lacks b s) e).0 h
lacks-by b (r ∣ s) w e (inr h) = lacks-by b s w (both_true (lacks b r) (lacks b s) e).1 h
lacks-by b (many r) w e h = lacks-many b (λ u k. lacks-by b r u e k) h

-- which sort a piece is

-- of a number without its sign
abbrev number_kind : List ℕ → Kind
number_kind v = choose (has 47 v) Rational (choose (has 46 v || (has 69 v || has 101 v)) Real Integer)

abbrev dollar_kind : List ℕ → Kind
dollar_kind [] = Dollar
dollar_kind (d ∷ w) = choose (eqb d 36) DoubleDollar Dollar

abbrev minus_kind : List ℕ → Kind
minus_kind [] = Minus
minus_kind (d ∷ w) = choose (eqb d 45) Sequent (number_kind (d ∷ w))

abbrev one : ℕ → Kind
one c = choose (eqb c 40) OpenParen (choose (eqb c 41) CloseParen (choose (eqb c 91) OpenBracket (choose (eqb c 93) CloseBracket
    (choose (eqb c 123) OpenBrace (choose (eqb c 125) CloseBrace (choose (eqb c 44) Comma (choose (eqb c 46) Dot (choose (eqb c 58) Colon
    (choose (eqb c 33) ForAll (choose (eqb c 63) Exists (choose (eqb c 126) Not (choose (eqb c 38) And (choose (eqb c 124) Or Equal)))))))))))))

abbrev sign_kind : ℕ → List ℕ → Kind
sign_kind c [] = one c
sign_kind c (d ∷ []) = choose (eqb c 33) Unequal (choose (eqb c 61) Implies (choose (eqb c 60) ImpliedBy (choose (eqb d 124) Nor Nand)))
sign_kind c (d ∷ e ∷ w) = choose (eqb d 61) Iff Xor

abbrev mark_kind : ℕ → List ℕ → Kind
mark_kind c w = choose (eqb c 39) Quoted (choose (eqb c 34) Distinct (choose (eqb c 36) (dollar_kind w)
    (choose (eqb c 43) (number_kind w) (choose (eqb c 45) (minus_kind w) (sign_kind c w)))))

abbrev pub sort_of : List ℕ → Sort
sort_of [] = gap
sort_of (c ∷ w) = choose (is_small c) (token Lower) (choose (is_capital c) (token Upper) (choose (is_digit c) (token (number_kind (c ∷ w)))
    (choose (is_space c || (eqb c 37 || eqb c 47)) gap (token (mark_kind c w)))))

-- classes of bytes apart from each other

pub inside : (a b c : ℕ) → within a b c ≡ true → (a ≤ c) × (c ≤ b)
inside a b c h = let (x, y) = both_true (leb a c) (leb c b) h in (leb-true a c x, leb-true c b y)

pub below : (a b c : ℕ) → c < a → within a b c ≡ false
below a b c h = rw (lt-leb a c h) refl

pub above : (a b c : ℕ) → b < c → within a b c ≡ false
above a b c h = ap (λ (x : Bool). leb a c && x) (lt-leb c b h) ∙ and-false (leb a c)

small-sort : (c : ℕ) (w : List ℕ) → is_small c ≡ true → sort_of (c ∷ w) ≡ token Lower
small-sort c w h = rw h refl

capital-sort : (c : ℕ) (w : List ℕ) → is_capital c ≡ true → sort_of (c ∷ w) ≡ token Upper
capital-sort c w h = let (x, y) = inside 65 90 c h in rw (below 97 122 c (omega arith)) (rw h refl)

digit-sort : (c : ℕ) (w : List ℕ) → is_digit c ≡ true → sort_of (c ∷ w) ≡ token (number_kind (c ∷ w))
digit-sort c w h =
    let (x, y) = inside 48 57 c h in rw (below 97 122 c (omega arith)) (rw (below 65 90 c (omega arith)) (rw h refl))

space-sort : (c : ℕ) (w : List ℕ) → is_space c ≡ true → sort_of (c ∷ w) ≡ gap
unfolding is_space
space-sort c w h = ⊎_elim
    (λ k. let (x, y) = inside 9 13 c k in
    rw (below 97 122 c (omega arith)) (rw (below 65 90 c (omega arith)) (rw (below 48 57 c (omega arith)) (rw k refl))))
    (λ k. ap (λ (x : ℕ). sort_of (x ∷ w)) (eqb-true c 32 k))
    (or-true (within 9 13 c) (eqb c 32) h)

-- a rule that is written out allows what is written
text-is : (bs w : List ℕ) → w by text bs → w ≡ bs
text-is [] w h = h
text-is (b ∷ []) w (c, e, h) = e ∙ ap (λ (x : ℕ). x ∷ []) (eqb-true c b h)
text-is (b ∷ d ∷ bs) w (u, v, e, (c, q, h), k) =
    e ∙ ap (λ (x : List ℕ). x ++ v) (q ∙ ap (λ (x : ℕ). x ∷ []) (eqb-true c b h)) ∙ ap (λ (x : List ℕ). b ∷ x) (text-is (d ∷ bs) v k)

-- what starts with a byte that passes a test
headed : (t : ℕ → Bool) (s : Rule) (w : List ℕ) → w by (byte t ▸ s) → (c : ℕ) × (v : List ℕ) × (w ≡ c ∷ v) × (t c ≡ true) × (v by s)
headed t s w (u, v, e, (c, q, h), k) = (c, v, e ∙ ap (λ (x : List ℕ). x ++ v) q, h, k)

-- what starts with one byte
marked : (b : ℕ) (s : Rule) (w : List ℕ) → w by (just b ▸ s) → (v : List ℕ) × (w ≡ b ∷ v) × (v by s)
marked b s w h =
    let (c, v, e, q, k) = headed (λ (c : ℕ). eqb c b) s w h in (v, e ∙ ap (λ (x : ℕ). x ∷ v) (eqb-true c b q), k)

-- numbers without their sign: what they start with, and which they are

abbrev Unsigned : Kind → List ℕ → Type 0
Unsigned k v = ((d : ℕ) × (w : List ℕ) × (v ≡ d ∷ w) × (is_digit d ≡ true)) × (number_kind v ≡ k)

pub nonzero-digit : (c : ℕ) → is_nonzero c ≡ true → is_digit c ≡ true
nonzero-digit c h = let (x, y) = inside 49 57 c h in rw (le-leb 48 c (omega arith)) (le-leb c 57 y)

decimal-starts : (v : List ℕ) → v by decimal → (d : ℕ) × (w : List ℕ) × (v ≡ d ∷ w) × (is_digit d ≡ true)
decimal-starts v (inl (c, e, h)) = (48, [], e ∙ ap (λ (x : ℕ). x ∷ []) (eqb-true c 48 h), refl)
decimal-starts v (inr h) =
    let (c, w, e, q, k) = headed is_nonzero (many (byte is_digit)) v h in (c, w, e, nonzero-digit c q)

longer-starts : (r s : Rule) (v : List ℕ) →
    ((u : List ℕ) → u by r → (d : ℕ) × (w : List ℕ) × (u ≡ d ∷ w) × (is_digit d ≡ true)) →
    v by (r ▸ s) → (d : ℕ) × (w : List ℕ) × (v ≡ d ∷ w) × (is_digit d ≡ true)
longer-starts r s v f (u, x, e, h, k) =
    let (d, w, q, g) = f u h in (d, w ++ x, e ∙ ap (λ (y : List ℕ). y ++ x) q, g)

integer-is : (v : List ℕ) → v by decimal → Unsigned Integer v
integer-is v h = (
  decimal-starts v h,
  rw (lacks-by 47 decimal v refl h) (rw (lacks-by 46 decimal v refl h) (rw (lacks-by 69 decimal v refl h) (rw (lacks-by 101 decimal v refl h) refl))),
)

rational-is : (v : List ℕ) → v by (decimal ▸ just 47 ▸ positive) → Unsigned Rational v
rational-is v h = (longer-starts decimal (just 47 ▸ positive) v decimal-starts h, rw slash refl)
  where
    slash : has 47 v ≡ true
    slash =
        let (u, x, e, k, m) = h in
        let (y, q, n) = marked 47 positive x m in
        ap (has 47) e ∙ has_right 47 u x (ap (has 47) q)

point-or : (v : List ℕ) → v by real → has 46 v || (has 69 v || has 101 v) ≡ true
unfolding is_exponent
point-or v (u, x, e, k, inl (f, o, q, m, n)) =
    let (y, p, l) = marked 46 (byte is_digit ▸ many (byte is_digit)) f m in
    true-or (has 46 v) (has 69 v || has 101 v)
    (ap (has 46) e ∙ has_right 46 u x (ap (has 46) q ∙ has_left 46 f o (ap (has 46) p)))
point-or v (u, x, e, k, inr m) =
    let (c, y, q, g, n) = headed is_exponent (optional sign ▸ byte is_digit ▸ many (byte is_digit)) x m in
    or-too (has 46 v) (has 69 v || has 101 v) (⊎_elim
    (λ z. true-or (has 69 v) (has 101 v) (ap (has 69) e ∙ has_right 69 u x (ap (has 69) q ∙ true-or (eqb c 69) (has 69 y) z)))
    (λ z. or-too (has 69 v) (has 101 v) (ap (has 101) e ∙ has_right 101 u x (ap (has 101) q ∙ true-or (eqb c 101) (has 101 y) z)))
    (or-true (eqb c 69) (eqb c 101) g))

real-is : (v : List ℕ) → v by real → Unsigned Real v
unfolding is_sign is_exponent
real-is v h = (
  longer-starts decimal (fraction ▸ optional exponent ∣ exponent) v decimal-starts h,
  rw (lacks-by 47 real v refl h) (rw (point-or v h) refl),
)

-- after a minus
minus-sort : (d : ℕ) (x : List ℕ) → is_digit d ≡ true → minus_kind (d ∷ x) ≡ number_kind (d ∷ x)
minus-sort d x g = let (a, b) = inside 48 57 d g in rw (ne_eqb d 45 (λ e. absurd (omega arith))) refl

-- with its sign
signed-sort : (k : Kind) (r : Rule) (w : List ℕ) → ((v : List ℕ) → v by r → Unsigned k v) → w by (optional sign ▸ r) → sort_of w ≡ token k
unfolding is_sign is_space
signed-sort k r w f (u, v, e, inr q, h) =
    let ((d, x, p, g), n) = f v h in
    ap sort_of (e ∙ ap (λ (y : List ℕ). y ++ v) q ∙ p) ∙ digit-sort d x g ∙ ap (λ (y : List ℕ). token (number_kind y)) (sym p) ∙ ap token n
signed-sort k r w f (u, v, e, inl (c, q, g), h) =
    let ((d, x, p, z), n) = f v h in
    let whole : w ≡ c ∷ v = e ∙ ap (λ (y : List ℕ). y ++ v) q in
    ⊎_elim
    (λ a. ap sort_of (whole ∙ ap (λ (y : ℕ). y ∷ v) (eqb-true c 43 a)) ∙ ap token n)
    (λ a. ap sort_of (whole ∙ ap (λ (y : ℕ). y ∷ v) (eqb-true c 45 a))
    ∙ ap (λ (y : List ℕ). token (minus_kind y)) p
    ∙ ap token (minus-sort d x z)
    ∙ ap (λ (y : List ℕ). token (number_kind y)) (sym p)
    ∙ ap token n)
    (or-true (eqb c 43) (eqb c 45) g)

-- with what a word starts after a dollar
dollar-sort : (v : List ℕ) → v by lower_word → sort_of (36 ∷ v) ≡ token Dollar
unfolding is_space
dollar-sort v h =
    let (c, x, e, g, k) = headed is_small (many (byte is_alnum)) v h in
    let (a, b) = inside 97 122 c g in
    ap (λ (y : List ℕ). sort_of (36 ∷ y)) e ∙ rw (ne_eqb c 36 (λ q. absurd (omega arith))) refl

-- each kind of token, from its rule
pub token-sort : (k : Kind) (w : List ℕ) → IsToken k w → sort_of w ≡ token k
unfolding is_space
token-sort Lower w h =
    let (c, v, e, g, k) = headed is_small (many (byte is_alnum)) w h in ap sort_of e ∙ small-sort c v g
token-sort Upper w h =
    let (c, v, e, g, k) = headed is_capital (many (byte is_alnum)) w h in ap sort_of e ∙ capital-sort c v g
token-sort Quoted w h = let (v, e, k) = marked 39 (character 39 ▸ many (character 39) ▸ just 39) w h in ap sort_of e
token-sort Distinct w h = let (v, e, k) = marked 34 (many (character 34) ▸ just 34) w h in ap sort_of e
token-sort Dollar w h = let (v, e, k) = marked 36 lower_word w h in ap sort_of e ∙ dollar-sort v k
token-sort DoubleDollar w h =
    let (v, e, k) = marked 36 (just 36 ▸ lower_word) w h in
    let (x, q, l) = marked 36 lower_word v k in
    ap sort_of (e ∙ ap (λ (y : List ℕ). 36 ∷ y) q)
token-sort Integer w h = signed-sort Integer decimal w integer-is h
token-sort Rational w h = signed-sort Rational (decimal ▸ just 47 ▸ positive) w rational-is h
token-sort Real w h = signed-sort Real real w real-is h
token-sort OpenParen w h = ap sort_of (text-is (octets "(") w h)
token-sort CloseParen w h = ap sort_of (text-is (octets ")") w h)
token-sort OpenBracket w h = ap sort_of (text-is (octets "[") w h)
token-sort CloseBracket w h = ap sort_of (text-is (octets "]") w h)
token-sort OpenBrace w h = ap sort_of (text-is (octets "{") w h)
token-sort CloseBrace w h = ap sort_of (text-is (octets "}") w h)
token-sort Comma w h = ap sort_of (text-is (octets ",") w h)
token-sort Dot w h = ap sort_of (text-is (octets ".") w h)
token-sort Colon w h = ap sort_of (text-is (octets ":") w h)
token-sort Minus w h = ap sort_of (text-is (octets "-") w h)
token-sort ForAll w h = ap sort_of (text-is (octets "!") w h)
token-sort Exists w h = ap sort_of (text-is (octets "?") w h)
token-sort Not w h = ap sort_of (text-is (octets "~") w h)
token-sort And w h = ap sort_of (text-is (octets "&") w h)
token-sort Or w h = ap sort_of (text-is (octets "|") w h)
token-sort Equal w h = ap sort_of (text-is (octets "=") w h)
token-sort Unequal w h = ap sort_of (text-is (octets "!=") w h)
token-sort Implies w h = ap sort_of (text-is (octets "=>") w h)
token-sort ImpliedBy w h = ap sort_of (text-is (octets "<=") w h)
token-sort Iff w h = ap sort_of (text-is (octets "<=>") w h)
token-sort Xor w h = ap sort_of (text-is (octets "<~>") w h)
token-sort Nor w h = ap sort_of (text-is (octets "~|") w h)
token-sort Nand w h = ap sort_of (text-is (octets "~&") w h)
token-sort Sequent w h = ap sort_of (text-is (octets "-->") w h)

-- a block comment starts with its sign
pub block-starts : (w : List ℕ) → w by block → (v : List ℕ) × (w ≡ 47 ∷ v)
block-starts w (u, v, e, h, k) =
    (42 ∷ v, e ∙ ap (λ (y : List ℕ). y ++ v) (text-is (octets "/*") u h))

-- spaces and comments
pub gap-sort : (w : List ℕ) → Gap w → sort_of w ≡ gap
unfolding is_space
gap-sort w (inl (c, e, h)) = ap sort_of e ∙ space-sort c [] h
gap-sort w (inr (inl h)) = let (v, e, k) = marked 37 (many (byte in_line)) w h in ap sort_of e
gap-sort w (inr (inr h)) = let (v, e) = block-starts w h.whole in ap sort_of e

-- a piece as such a sort
abbrev pub Sorted : Sort → List ℕ → Type 0
Sorted gap w = Gap w
Sorted (token k) w = IsToken k w

-- a byte string is of one sort
pub sorted-once : (s s' : Sort) (w : List ℕ) → Sorted s w → Sorted s' w → s ≡ s'
sorted-once s s' w h k = sym (sort-of s w h) ∙ sort-of s' w k
  where
    sort-of : (s : Sort) (w : List ℕ) → Sorted s w → sort_of w ≡ s
    sort-of gap w h = gap-sort w h
    sort-of (token k) w h = token-sort k w h
