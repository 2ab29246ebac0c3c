-- What a piece may be, by its first byte. Classes of bytes are gone through byte by byte: each is one computation.
use Prim.Native.Nat.{ℕ, zero, suc, ◌+◌, ◌<◌, ◌≤◌}
use mathlib.Core.Path.{◌≡◌, refl, sym, ◌∙◌, ap, subst}
use mathlib.Core.Bool.{Bool, true, false, ◌&&◌, ◌||◌, false≢true}
use mathlib.Core.List.{List, [], ◌∷◌}
use mathlib.Core.Logic.{⊎_elim}
use native.Mathlib.Omega.{arith}
use lib.Dec.{eqb}
use borrow.Author.Tests.{eqb-true, eqb-false, ne_eqb}
use Rattle.basics.specs.Choice.{both_true}
use Rattle.fof_tokens.specs.declared.Kind.TheVariants as kind
use Rattle.fof_tokens.specs.declared.first.First.{First}
use Rattle.fof_tokens.specs.declared.first.First.TheVariants as first
use Rattle.fof_tokens.specs.Bytes.{within, is_space, is_small, is_capital, is_nonzero, is_sign, is_exponent, is_plain}
use Rattle.fof_tokens.specs.Machine.{Row, step}
use Rattle.fof_tokens.specs.Next.{table}
use Rattle.fof_tokens.specs.Begins.{in_word, dollars, in_quotes, quote_open, unsigned, in_decimal, after_decimal, one_more, after_minus, after_tilde, after_less, begun, Begins, one_of, signs, SignOf}
use Rattle.fof_tokens.proofs.RuleLaws.{or-true}
use Rattle.fof_tokens.proofs.SortLaws.{inside}

-- going through numbers one by one

-- P of n numbers from a on
abbrev Along : (ℕ → Type 0) → ℕ → ℕ → Type 0
Along P a zero = Unit {0}
Along P a (suc n) = P a × Along P (suc a) n

along : (P : ℕ → Type 0) (n a c : ℕ) → Along P a n → a ≤ c → c < a + n → P c
along P zero a c h l u = absurd (omega arith)
along P (suc n) a c (p, h) l u = go (eqb a c) refl (λ b. along P n (suc a) c h b (omega arith))
  where
    go : (b : Bool) → eqb a c ≡ b → (suc a ≤ c → P c) → P c
    go true e f = subst P (eqb-true a c e) p
    go false e f = f (let z = eqb-false a c e in omega (arith, z))

-- a test passed by every number below n
abbrev all_below : (ℕ → Bool) → ℕ → Bool
all_below f zero = true
all_below f (suc n) = f n && all_below f n

all-below : (f : ℕ → Bool) (n c : ℕ) → all_below f n ≡ true → c < n → f c ≡ true
all-below f zero c e h = absurd (omega arith)
all-below f (suc n) c e h = go (eqb c n) refl (λ b. all-below f n c (both_true (f n) (all_below f n) e).1 b)
  where
    go : (b : Bool) → eqb c n ≡ b → (c < n → f c ≡ true) → f c ≡ true
    go true q g = ap f (eqb-true c n q) ∙ (both_true (f n) (all_below f n) e).0
    go false q g = g (let z = eqb-false c n q in omega (arith, z))

-- classes

pub small-begins : (c : ℕ) → is_small c ≡ true → Begins c (first.Letter kind.Lower)
unfolding Begins begun in_word in_decimal is_space is_sign is_exponent is_plain
small-begins c h =
    let (x, y) = inside 97 122 c h in
    along (λ (c : ℕ). Begins c (first.Letter kind.Lower)) 26 97 c
    ((refl, refl), ((refl, refl), ((refl, refl), ((refl, refl), ((refl, refl), ((refl, refl), ((refl, refl), ((refl, refl), ((refl, refl), ((refl, refl), ((refl, refl), ((refl, refl), ((refl, refl), ((refl, refl), ((refl, refl), ((refl, refl), ((refl, refl), ((refl, refl), ((refl, refl), ((refl, refl), ((refl, refl), ((refl, refl), ((refl, refl), ((refl, refl), ((refl, refl), ((refl, refl), tt))))))))))))))))))))))))))
    x (omega arith)

pub capital-begins : (c : ℕ) → is_capital c ≡ true → Begins c (first.Letter kind.Upper)
unfolding Begins begun in_word in_decimal is_space is_sign is_exponent is_plain
capital-begins c h =
    let (x, y) = inside 65 90 c h in
    along (λ (c : ℕ). Begins c (first.Letter kind.Upper)) 26 65 c
    ((refl, refl), ((refl, refl), ((refl, refl), ((refl, refl), ((refl, refl), ((refl, refl), ((refl, refl), ((refl, refl), ((refl, refl), ((refl, refl), ((refl, refl), ((refl, refl), ((refl, refl), ((refl, refl), ((refl, refl), ((refl, refl), ((refl, refl), ((refl, refl), ((refl, refl), ((refl, refl), ((refl, refl), ((refl, refl), ((refl, refl), ((refl, refl), ((refl, refl), ((refl, refl), tt))))))))))))))))))))))))))
    x (omega arith)

pub nonzero-begins : (c : ℕ) → is_nonzero c ≡ true → Begins c first.Nonzero
unfolding Begins begun in_word in_decimal is_space is_sign is_exponent is_plain
nonzero-begins c h =
    let (x, y) = inside 49 57 c h in
    along (λ (c : ℕ). Begins c first.Nonzero) 9 49 c
    ((refl, refl), ((refl, refl), ((refl, refl), ((refl, refl), ((refl, refl), ((refl, refl), ((refl, refl), ((refl, refl), ((refl, refl), tt)))))))))
    x (omega arith)

pub space-begins : (c : ℕ) → is_space c ≡ true → Begins c first.Space
unfolding Begins begun is_space is_sign is_exponent is_plain
space-begins c h = ⊎_elim
    (λ k. let (x, y) = inside 9 13 c k in along (λ (c : ℕ). Begins c first.Space) 5 9 c ((refl, refl), ((refl, refl), ((refl, refl), ((refl, refl), ((refl, refl), tt))))) x (omega arith))
    (λ k. subst (λ (c : ℕ). Begins c first.Space) (sym (eqb-true c 32 k)) (refl, refl))
    (or-true (within 9 13 c) (eqb c 32) h)

-- each sign
pub sign-table :
    SignOf 40 (first.Single kind.OpenParen)
    × SignOf 41 (first.Single kind.CloseParen)
    × SignOf 91 (first.Single kind.OpenBracket)
    × SignOf 93 (first.Single kind.CloseBracket)
    × SignOf 123 (first.Single kind.OpenBrace)
    × SignOf 125 (first.Single kind.CloseBrace)
    × SignOf 44 (first.Single kind.Comma)
    × SignOf 46 (first.Single kind.Dot)
    × SignOf 58 (first.Single kind.Colon)
    × SignOf 63 (first.Single kind.Exists)
    × SignOf 38 (first.Single kind.And)
    × SignOf 124 (first.Single kind.Or)
    × SignOf 33 (first.Double kind.ForAll 61 kind.Unequal)
    × SignOf 61 (first.Double kind.Equal 62 kind.Implies)
    × SignOf 126 first.Tilde
    × SignOf 60 first.Less
    × SignOf 43 first.Plus
    × SignOf 45 first.Minus
unfolding SignOf Begins begun in_word quote_open in_quotes dollars unsigned in_decimal after_decimal after_minus one_more after_tilde after_less is_space is_sign is_exponent is_plain
sign-table = ((refl, refl), (refl, refl), (refl, refl), (refl, refl), (refl, refl), (refl, refl), (refl, refl), (refl, refl), (refl, refl), (refl, refl), (refl, refl), (refl, refl), (refl, refl), (refl, refl), (refl, refl), (refl, refl), (refl, refl), (refl, refl))

-- each other byte that a piece may start with
pub other-table :
    Begins 37 first.Percent
    × Begins 47 first.Slash
    × Begins 39 first.Quote
    × Begins 34 first.DoubleQuote
    × Begins 36 first.Dollar
    × Begins 48 first.Zero
unfolding SignOf Begins begun in_word quote_open in_quotes dollars unsigned in_decimal after_decimal after_minus one_more after_tilde after_less is_space is_sign is_exponent is_plain
other-table = ((refl, refl), (refl, refl), (refl, refl), (refl, refl), (refl, refl), (refl, refl))

-- a byte that is known
pub sign_at : (f : First) (b c : ℕ) → c ≡ b → SignOf b f → SignOf c f
sign_at f b c e h = subst (λ (x : ℕ). SignOf x f) (sym e) h

pub other_at : (f : First) (b c : ℕ) → c ≡ b → Begins b f → Begins c f
other_at f b c e h = subst (λ (x : ℕ). Begins x f) (sym e) h

-- none of the signs
pub no_sign : (c : ℕ) → (c ≡ 40 → ⊥) → (c ≡ 41 → ⊥) → (c ≡ 91 → ⊥) → (c ≡ 93 → ⊥) → (c ≡ 123 → ⊥) → (c ≡ 125 → ⊥) → (c ≡ 44 → ⊥) → (c ≡ 46 → ⊥) → (c ≡ 58 → ⊥) → (c ≡ 63 → ⊥) → (c ≡ 38 → ⊥) → (c ≡ 124 → ⊥) → (c ≡ 33 → ⊥) → (c ≡ 61 → ⊥) → (c ≡ 126 → ⊥) → (c ≡ 60 → ⊥) → (c ≡ 43 → ⊥) → (c ≡ 45 → ⊥) → SignOf c first.Nothing
unfolding SignOf
no_sign c n40 n41 n91 n93 n123 n125 n44 n46 n58 n63 n38 n124 n33 n61 n126 n60 n43 n45 =
    rw (ne_eqb c 40 n40) (rw (ne_eqb c 41 n41) (rw (ne_eqb c 91 n91) (rw (ne_eqb c 93 n93) (rw (ne_eqb c 123 n123) (rw (ne_eqb c 125 n125) (rw (ne_eqb c 44 n44) (rw (ne_eqb c 46 n46) (rw (ne_eqb c 58 n58) (rw (ne_eqb c 63 n63) (rw (ne_eqb c 38 n38) (rw (ne_eqb c 124 n124) (rw (ne_eqb c 33 n33) (rw (ne_eqb c 61 n61) (rw (ne_eqb c 126 n126) (rw (ne_eqb c 60 n60) (rw (ne_eqb c 43 n43) (rw (ne_eqb c 45 n45) refl)))))))))))))))))

-- all other bytes start no piece

abbrev pub others : List ℕ
others = 37 ∷ 47 ∷ 39 ∷ 34 ∷ 36 ∷ 48 ∷ []

pub no_other : (c : ℕ) → (c ≡ 37 → ⊥) → (c ≡ 47 → ⊥) → (c ≡ 39 → ⊥) → (c ≡ 34 → ⊥) → (c ≡ 36 → ⊥) → (c ≡ 48 → ⊥) → one_of others c ≡ false
no_other c n37 n47 n39 n34 n36 n48 =
    rw (ne_eqb c 37 n37) (rw (ne_eqb c 47 n47) (rw (ne_eqb c 39 n39) (rw (ne_eqb c 34 n34) (rw (ne_eqb c 36 n36) (rw (ne_eqb c 48 n48) refl)))))

abbrev starts : ℕ → Bool
starts c = is_space c || (is_small c || (is_capital c || (is_nonzero c || (one_of others c || one_of signs c))))

abbrev is_none : List Row → Bool
is_none [] = true
is_none (x ∷ q) = false

is-none : (q : List Row) → is_none q ≡ true → q ≡ []
is-none [] e = refl
is-none (x ∷ q) e = absurd (false≢true e)

no-piece : all_below (λ c. starts c || is_none (step c table)) 256 ≡ true
unfolding is_space is_sign is_exponent is_plain
no-piece = refl

or_else : (a b : Bool) → a ≡ false → a || b ≡ true → b ≡ true
or_else a b e h = subst (λ (x : Bool). x || b ≡ true) e h

nothing-begins : (c : ℕ) → c < 256 → is_space c ≡ false → is_small c ≡ false → is_capital c ≡ false → is_nonzero c ≡ false →
    one_of others c ≡ false → one_of signs c ≡ false → (c ≡ 47 → ⊥) → Begins c first.Nothing
unfolding Begins begun
nothing-begins c u s l m d o g n = (
  is-none (step c table) (or_else (starts c) (is_none (step c table)) (rw s (rw l (rw m (rw d (rw o g)))))
      (all-below (λ c. starts c || is_none (step c table)) 256 c no-piece u)),
  ne_eqb c 47 n,
)

pub rest-begins : (c : ℕ) (f : First) → c < 256 → is_space c ≡ false → is_small c ≡ false → is_capital c ≡ false → is_nonzero c ≡ false →
    one_of others c ≡ false → (c ≡ 47 → ⊥) → SignOf c f → Begins c f
unfolding SignOf
rest-begins c first.Nothing u s l m d o n h = nothing-begins c u s l m d o h n
rest-begins c first.Space u s l m d o n h = h
rest-begins c first.Percent u s l m d o n h = h
rest-begins c first.Slash u s l m d o n h = h
rest-begins c (first.Letter k) u s l m d o n h = h
rest-begins c first.Quote u s l m d o n h = h
rest-begins c first.DoubleQuote u s l m d o n h = h
rest-begins c first.Dollar u s l m d o n h = h
rest-begins c first.Zero u s l m d o n h = h
rest-begins c first.Nonzero u s l m d o n h = h
rest-begins c first.Plus u s l m d o n h = h
rest-begins c first.Minus u s l m d o n h = h
rest-begins c (first.Single k) u s l m d o n h = h
rest-begins c (first.Double a b d') u s l m d o n h = h
rest-begins c first.Tilde u s l m d o n h = h
rest-begins c first.Less u s l m d o n h = h
