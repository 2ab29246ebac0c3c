-- Numbers along a text: digits, a slash, a point, an exponent, a sign.
use Prim.Native.Nat.{ℕ, ◌+◌, ◌<◌, ◌≤◌}
use mathlib.Core.Path.{◌≡◌, refl, sym, ◌∙◌, ap}
use mathlib.Core.Bool.{Bool, true, false, false≢true}
use mathlib.Core.List.{List, [], ◌∷◌}
use mathlib.Core.Option.{Option, none, some}
use native.Mathlib.Omega.{arith}
use lib.Dec.{eqb}
use lib.ListN.{length, drop, get_or}
use borrow.Author.Tests.{le-leb, ne_eqb}
use Rattle.fof_tokens.specs.declared.Kind.TheVariants as kind
use Rattle.fof_tokens.specs.Bytes.{is_digit, is_nonzero, is_sign, is_exponent}
use Rattle.fof_tokens.specs.Rule.{empty, byte, ◌▸◌, many, just, optional}
use Rattle.fof_tokens.specs.Token.{digits, positive, exponent}
use Rattle.fof_tokens.specs.Machine.{Sort, token, Row, step, ended, note, scan}
use Rattle.fof_tokens.specs.Runs.{span}
use Rattle.fof_tokens.specs.Begins.{unsigned, in_decimal, after_decimal, exponent_digits, Digits, after_minus}
use Rattle.fof_tokens.proofs.SortLaws.{inside, nonzero-digit}
use Rattle.fof_tokens.proofs.ScanLaws.{halts, goes, alike, inside-text, full, Passing, run-text, run-full}
use Rattle.fof_tokens.proofs.SignLaws.{goes_by, two-on}

-- digits are no other bytes

-- a byte that passes a test which 0 does not pass is in the text
pub in-text : (f : ℕ → Bool) (t : List ℕ) (at b : ℕ) → f 0 ≡ false → b ≡ get_or t at 0 → f b ≡ true → at < length t
in-text f t at b z e h = inside-text t at (λ q. false≢true (sym z ∙ ap f (sym (e ∙ q)) ∙ h))

digit_not : (c b : ℕ) → is_digit c ≡ true → (48 ≤ b → b ≤ 57 → ⊥) → eqb c b ≡ false
digit_not c b h n = let (x, y) = inside 48 57 c h in ne_eqb c b (λ e. n (omega arith) (omega arith))

digit-no-exponent : (c : ℕ) → is_digit c ≡ true → is_exponent c ≡ false
unfolding is_exponent
digit-no-exponent c h = rw (digit_not c 69 h (λ a b. absurd (omega arith))) (digit_not c 101 h (λ a b. absurd (omega arith)))

digit-no-sign : (c : ℕ) → is_digit c ≡ true → is_sign c ≡ false
unfolding is_sign
digit-no-sign c h = rw (digit_not c 43 h (λ a b. absurd (omega arith))) (digit_not c 45 h (λ a b. absurd (omega arith)))

pub zero_or : (c : ℕ) → is_digit c ≡ true → (c ≡ 48 → ⊥) → is_nonzero c ≡ true
zero_or c h n = let (x, y) = inside 48 57 c h in rw (le-leb 49 c (omega (arith, n))) (le-leb c 57 y)

no-digit-no-zero : (c : ℕ) → is_digit c ≡ false → eqb c 48 ≡ false
no-digit-no-zero c h = ne_eqb c 48 (λ e. false≢true (sym h ∙ ap is_digit e))

no-digit-no-nonzero : (c : ℕ) → is_digit c ≡ false → is_nonzero c ≡ false
no-digit-no-nonzero c h = go (is_nonzero c) refl
  where
    go : (b : Bool) → is_nonzero c ≡ b → b ≡ false
    go true e = absurd (false≢true (sym h ∙ nonzero-digit c e))
    go false e = refl

-- exponents

pub power-digit : (s : Sort) (at e : ℕ) (last : Option (Sort × ℕ)) (t : List ℕ) → is_digit (get_or t at 0) ≡ true →
    e ≡ at + 1 + span is_digit (drop (at + 1) t) → scan (exponent_digits s) at last (drop at t) ≡ some (s, e)
unfolding exponent_digits
power-digit s at e last t h q =
    goes (exponent_digits s) ((s, many (byte is_digit)) ∷ []) at last t (in-text is_digit t at (get_or t at 0) refl refl h)
    (rw (digit-no-sign (get_or t at 0) h) (rw h refl))
    ∙ run-full is_digit s t (at + 1) e last q

pub power-none : (s : Sort) (at : ℕ) (last : Option (Sort × ℕ)) (t : List ℕ) → is_digit (get_or t at 0) ≡ false → is_sign (get_or t at 0) ≡ false →
    scan (exponent_digits s) at last (drop at t) ≡ last
unfolding exponent_digits
power-none s at last t h k = halts (exponent_digits s) at last t (rw k (rw h refl))

sign-step : (s : Sort) (at : ℕ) (last : Option (Sort × ℕ)) (t : List ℕ) → is_digit (get_or t at 0) ≡ false → is_sign (get_or t at 0) ≡ true →
    scan (exponent_digits s) at last (drop at t) ≡ scan ((s, digits) ∷ []) (at + 1) last (drop (at + 1) t)
unfolding exponent_digits is_sign
sign-step s at last t h k =
    goes (exponent_digits s) ((s, digits) ∷ []) at last t (in-text is_sign t at (get_or t at 0) refl refl k) (rw k (rw h refl))

pub power-sign-none : (s : Sort) (at : ℕ) (last : Option (Sort × ℕ)) (t : List ℕ) → is_digit (get_or t at 0) ≡ false → is_sign (get_or t at 0) ≡ true →
    is_digit (get_or t (at + 1) 0) ≡ false → scan (exponent_digits s) at last (drop at t) ≡ last
power-sign-none s at last t h k l = sign-step s at last t h k ∙ halts ((s, digits) ∷ []) (at + 1) last t (rw l refl)

pub power-sign : (s : Sort) (at e : ℕ) (last : Option (Sort × ℕ)) (t : List ℕ) → is_digit (get_or t at 0) ≡ false → is_sign (get_or t at 0) ≡ true →
    is_digit (get_or t (at + 1) 0) ≡ true → e ≡ at + 2 + span is_digit (drop (at + 2) t) → scan (exponent_digits s) at last (drop at t) ≡ some (s, e)
power-sign s at e last t h k l q =
    sign-step s at last t h k
    ∙ goes ((s, digits) ∷ []) ((s, many (byte is_digit)) ∷ []) (at + 1) last t (in-text is_digit t (at + 1) (get_or t (at + 1) 0) refl refl l) (rw l refl)
    ∙ ap (λ (x : ℕ). scan ((s, many (byte is_digit)) ∷ []) x last (drop x t)) (two-on at)
    ∙ run-full is_digit s t (at + 2) e last q

pub exponent-none : (s : Sort) (at : ℕ) (last : Option (Sort × ℕ)) (t : List ℕ) → is_exponent (get_or t at 0) ≡ false →
    scan ((s, exponent) ∷ []) at last (drop at t) ≡ last
exponent-none s at last t h = halts ((s, exponent) ∷ []) at last t (rw h refl)

zero-no-exponent : is_exponent 0 ≡ false
unfolding is_exponent
zero-no-exponent = refl

pub exponent-in-text : (t : List ℕ) (at b : ℕ) → b ≡ get_or t at 0 → is_exponent b ≡ true → at < length t
exponent-in-text t at b e h = in-text is_exponent t at b zero-no-exponent e h

pub sign-in-text : (t : List ℕ) (at b : ℕ) → b ≡ get_or t at 0 → is_sign b ≡ true → at < length t
unfolding is_sign
sign-in-text t at b e h = in-text is_sign t at b refl e h

pub exponent-more : (s : Sort) (at : ℕ) (last : Option (Sort × ℕ)) (t : List ℕ) → is_exponent (get_or t at 0) ≡ true →
    scan ((s, exponent) ∷ []) at last (drop at t) ≡ scan (exponent_digits s) (at + 1) last (drop (at + 1) t)
unfolding exponent_digits
exponent-more s at last t h =
    goes ((s, exponent) ∷ []) (exponent_digits s) at last t (exponent-in-text t at (get_or t at 0) refl h) (rw h refl)

-- after the digits

slash-step : (at : ℕ) (last : Option (Sort × ℕ)) (t : List ℕ) → get_or t at 0 ≡ 47 →
    scan after_decimal at last (drop at t) ≡ scan ((token kind.Rational, positive) ∷ []) (at + 1) (some (token kind.Integer, at)) (drop (at + 1) t)
unfolding after_decimal is_exponent
slash-step at last t h = goes_by after_decimal ((token kind.Rational, positive) ∷ []) at 47 last t (λ z. omega arith) h refl

pub slash-none : (at : ℕ) (last : Option (Sort × ℕ)) (t : List ℕ) → get_or t at 0 ≡ 47 → is_nonzero (get_or t (at + 1) 0) ≡ false →
    some (token kind.Integer, at) ≡ scan after_decimal at last (drop at t)
slash-none at last t h k =
    sym (slash-step at last t h ∙ halts ((token kind.Rational, positive) ∷ []) (at + 1) (some (token kind.Integer, at)) t (rw k refl))

pub slash-more : (at e : ℕ) (last : Option (Sort × ℕ)) (t : List ℕ) → get_or t at 0 ≡ 47 → is_nonzero (get_or t (at + 1) 0) ≡ true →
    e ≡ at + 2 + span is_digit (drop (at + 2) t) → some (token kind.Rational, e) ≡ scan after_decimal at last (drop at t)
slash-more at e last t h k q =
    let l : Option (Sort × ℕ) = some (token kind.Integer, at) in
    sym (slash-step at last t h
    ∙ goes ((token kind.Rational, positive) ∷ []) ((token kind.Rational, many (byte is_digit)) ∷ []) (at + 1) l t
    (in-text is_nonzero t (at + 1) (get_or t (at + 1) 0) refl refl k) (rw k refl)
    ∙ ap (λ (x : ℕ). scan ((token kind.Rational, many (byte is_digit)) ∷ []) x l (drop x t)) (two-on at)
    ∙ run-full is_digit (token kind.Rational) t (at + 2) e l q)

-- after a point, and after the first digit there
abbrev pointed : List Row
pointed = (token kind.Real, byte is_digit ▸ many (byte is_digit) ▸ optional exponent) ∷ []

abbrev in_fraction : List Row
in_fraction = (token kind.Real, many (byte is_digit) ▸ optional exponent) ∷ []

abbrev after_fraction : List Row
after_fraction = (token kind.Real, optional exponent) ∷ []

point-step : (at : ℕ) (last : Option (Sort × ℕ)) (t : List ℕ) → get_or t at 0 ≡ 46 →
    scan after_decimal at last (drop at t) ≡ scan pointed (at + 1) (some (token kind.Integer, at)) (drop (at + 1) t)
unfolding after_decimal is_exponent
point-step at last t h = goes_by after_decimal pointed at 46 last t (λ z. omega arith) h refl

pub point-none : (at : ℕ) (last : Option (Sort × ℕ)) (t : List ℕ) → get_or t at 0 ≡ 46 → is_digit (get_or t (at + 1) 0) ≡ false →
    some (token kind.Integer, at) ≡ scan after_decimal at last (drop at t)
point-none at last t h k = sym (point-step at last t h ∙ halts pointed (at + 1) (some (token kind.Integer, at)) t (rw k refl))

-- an exponent may come, or the number ends
optional-as : (s : Sort) (at : ℕ) (last : Option (Sort × ℕ)) (t : List ℕ) →
    scan ((s, optional exponent) ∷ []) at last (drop at t) ≡ scan ((s, exponent) ∷ []) at (some (s, at)) (drop at t)
optional-as s at last t =
    alike ((s, optional exponent) ∷ []) ((s, exponent) ∷ []) at last (some (s, at)) t (go (is_exponent (get_or t at 0)) refl) refl
  where
    go : (b : Bool) → is_exponent (get_or t at 0) ≡ b → step (get_or t at 0) ((s, optional exponent) ∷ []) ≡ step (get_or t at 0) ((s, exponent) ∷ [])
    go true e = rw e refl
    go false e = rw e refl

fraction-passing : Passing is_digit in_fraction after_fraction (token kind.Real)
fraction-passing = record {
  stays = λ c h. rw h (rw (digit-no-exponent c h) refl);
  leaves = λ c h. go c h (is_exponent c) refl;
  ends = refl;
  ends' = refl;
}
  where
    go : (c : ℕ) → is_digit c ≡ false → (b : Bool) → is_exponent c ≡ b → step c in_fraction ≡ step c after_fraction
    go c h true e = rw h (rw e refl)
    go c h false e = rw h (rw e refl)

pub point-more : (at e : ℕ) (last : Option (Sort × ℕ)) (t : List ℕ) → get_or t at 0 ≡ 46 → is_digit (get_or t (at + 1) 0) ≡ true →
    e ≡ at + 2 + span is_digit (drop (at + 2) t) →
    scan ((token kind.Real, exponent) ∷ []) e (some (token kind.Real, e)) (drop e t) ≡ scan after_decimal at last (drop at t)
point-more at e last t h k q =
    let l : Option (Sort × ℕ) = some (token kind.Integer, at) in
    sym (point-step at last t h
    ∙ goes pointed in_fraction (at + 1) l t (in-text is_digit t (at + 1) (get_or t (at + 1) 0) refl refl k) (rw k refl)
    ∙ ap (λ (x : ℕ). scan in_fraction x l (drop x t)) (two-on at)
    ∙ run-text is_digit in_fraction after_fraction (token kind.Real) t (at + 2) e l l fraction-passing q
    ∙ optional-as (token kind.Real) e l t)

pub decimal-as : (at : ℕ) (last : Option (Sort × ℕ)) (t : List ℕ) → (get_or t at 0 ≡ 47 → ⊥) → (get_or t at 0 ≡ 46 → ⊥) →
    scan ((token kind.Real, exponent) ∷ []) at (some (token kind.Integer, at)) (drop at t) ≡ scan after_decimal at last (drop at t)
unfolding after_decimal
decimal-as at last t h k =
    sym (alike after_decimal ((token kind.Real, exponent) ∷ []) at last (some (token kind.Integer, at)) t
    (rw (ne_eqb (get_or t at 0) 47 h) (rw (ne_eqb (get_or t at 0) 46 k) refl)) refl)

-- the digits before

decimal-passing : Passing is_digit in_decimal after_decimal (token kind.Integer)
unfolding in_decimal after_decimal
decimal-passing = record {
  stays = λ c h.
      rw h (rw (digit_not c 47 h (λ a b. absurd (omega arith))) (rw (digit_not c 46 h (λ a b. absurd (omega arith))) (rw (digit-no-exponent c h) refl)));
  leaves = λ c h. rw h refl;
  ends = refl;
  ends' = refl;
}

pub decimal-run : (at e : ℕ) (last last' : Option (Sort × ℕ)) (t : List ℕ) → e ≡ at + span is_digit (drop at t) →
    scan after_decimal e last' (drop e t) ≡ scan in_decimal at last (drop at t)
decimal-run at e last last' t q = sym (run-text is_digit in_decimal after_decimal (token kind.Integer) t at e last last' decimal-passing q)

pub number-zero : (q : List Row) (at : ℕ) (last : Option (Sort × ℕ)) (t : List ℕ) → Digits q → get_or t at 0 ≡ 48 →
    scan after_decimal (at + 1) (note (ended q) at last) (drop (at + 1) t) ≡ scan q at last (drop at t)
unfolding Digits
number-zero q at last t d h = sym (goes_by q after_decimal at 48 last t (λ z. omega arith) h d.0)

pub number-nonzero : (q : List Row) (at : ℕ) (last : Option (Sort × ℕ)) (t : List ℕ) → Digits q → is_nonzero (get_or t at 0) ≡ true →
    scan in_decimal (at + 1) (note (ended q) at last) (drop (at + 1) t) ≡ scan q at last (drop at t)
unfolding Digits
number-nonzero q at last t d h =
    sym (goes q in_decimal at last t (in-text is_nonzero t at (get_or t at 0) refl refl h) (d.1 (get_or t at 0) h))

-- after a sign

nonzero-not : (c b : ℕ) → is_nonzero c ≡ true → (49 ≤ b → b ≤ 57 → ⊥) → eqb c b ≡ false
nonzero-not c b h n = let (x, y) = inside 49 57 c h in ne_eqb c b (λ e. n (omega arith) (omega arith))

pub unsigned-digits : Digits unsigned
unfolding Digits unsigned in_decimal after_decimal
unsigned-digits = (refl, λ c h. rw (nonzero-not c 48 h (λ a b. absurd (omega arith))) (rw h refl))

pub minus-digits : Digits after_minus
unfolding Digits after_minus in_decimal after_decimal
minus-digits = (
  refl,
  λ c h.
      rw (nonzero-not c 48 h (λ a b. absurd (omega arith))) (rw (nonzero-not c 45 h (λ a b. absurd (omega arith))) (rw h refl)),
)

pub plus_none : (at : ℕ) (t : List ℕ) → is_digit (get_or t at 0) ≡ false → none ≡ scan unsigned at none (drop at t)
unfolding unsigned
plus_none at t h =
    sym (halts unsigned at none t (rw (no-digit-no-zero (get_or t at 0) h) (rw (no-digit-no-nonzero (get_or t at 0) h) refl)))

pub minus-alone : (at : ℕ) (t : List ℕ) → is_digit (get_or t at 0) ≡ false → (get_or t at 0 ≡ 45 → ⊥) →
    some (token kind.Minus, at) ≡ scan after_minus at none (drop at t)
unfolding after_minus
minus-alone at t h n =
    sym (halts after_minus at none t
    (rw (no-digit-no-zero (get_or t at 0) h) (rw (no-digit-no-nonzero (get_or t at 0) h) (rw (ne_eqb (get_or t at 0) 45 n) refl))))

dash-step : (at : ℕ) (t : List ℕ) → get_or t at 0 ≡ 45 →
    scan after_minus at none (drop at t) ≡ scan ((token kind.Sequent, just 62) ∷ []) (at + 1) (some (token kind.Minus, at)) (drop (at + 1) t)
unfolding after_minus
dash-step at t h = goes_by after_minus ((token kind.Sequent, just 62) ∷ []) at 45 none t (λ z. omega arith) h refl

pub dash-none : (at : ℕ) (t : List ℕ) → get_or t at 0 ≡ 45 → (get_or t (at + 1) 0 ≡ 62 → ⊥) →
    some (token kind.Minus, at) ≡ scan after_minus at none (drop at t)
dash-none at t h n =
    sym (dash-step at t h
    ∙ halts ((token kind.Sequent, just 62) ∷ []) (at + 1) (some (token kind.Minus, at)) t (rw (ne_eqb (get_or t (at + 1) 0) 62 n) refl))

pub dash-more : (at : ℕ) (t : List ℕ) → get_or t at 0 ≡ 45 → get_or t (at + 1) 0 ≡ 62 → some (token kind.Sequent, at + 2) ≡ scan after_minus at none (drop at t)
dash-more at t h k =
    sym (dash-step at t h
    ∙ goes_by ((token kind.Sequent, just 62) ∷ []) ((token kind.Sequent, empty) ∷ []) (at + 1) 62 (some (token kind.Minus, at)) t (λ z. omega arith) k refl
    ∙ full (token kind.Sequent) (at + 1 + 1) (some (token kind.Minus, at)) (drop (at + 1 + 1) t)
    ∙ ap (λ (x : ℕ). some (token kind.Sequent, x)) (two-on at))
