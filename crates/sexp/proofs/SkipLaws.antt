-- Going past an expression: a string, a hinted string, or a list whose members are passed one after the other.
-- From document 01, "comparing and skipping nested terms in bytes, remaining nesting falls".
use Prim.Native.Nat.{ℕ, ◌+◌, ◌-◌, ◌<◌, ◌≤◌}
use mathlib.Core.Path.{◌≡◌, refl, sym, ◌∙◌, ap, ap₂, subst}
use mathlib.Core.Bool.{true}
use mathlib.Core.List.{List}
use mathlib.Core.Option.{Option, none, some}
use native.Mathlib.Omega.{arith}
use lib.ListN.{length, get_or, take, drop, length-drop}
use lib.Seq.{take-append_seam}
use Rattle.std.specs.Prelude as std
use Rattle.std.specs.Prelude.{Some, None, Result, Ok, Err}
use Rattle.sexp.specs.Decimal.{is_digit}
use Rattle.sexp.specs.Sexp.{Sexp, Sexps, str, hinted, list, nil, cons, spell_onto, spell, spells, nesting, nestings, Stands, StandsAll}
use Rattle.sexp.specs.Known.{Known, text_of}
use Rattle.sexp.specs.Text.{VerbatimAt, TextAt}
use Rattle.sexp.specs.Strings.{Plain}
use Rattle.sexp.specs.Past.{Ends, PastAt}
use Rattle.sexp.proofs.DecimalLaws.{digit_low, digit-high}
use Rattle.sexp.proofs.SpellLaws.{spell-length}
use Rattle.sexp.proofs.OntoLaws.{spell-some}
use Rattle.sexp.proofs.StandLaws.{none-closes, all-before, stands-once, members-stand, first-stands, others-stand, list-stands, none-stand, more-stand, opens-list, opens_not, list_length, cons-length}
use Rattle.sexp.proofs.ShortLaws.{short-spans, short_stuck}
use Rattle.sexp.proofs.TextLaws.{text-unhinted}

-- a plain string that is read, and one that is not
pub plain-spans : (s : List ℕ) (at from to : ℕ) (r : Result (ℕ × ℕ) ℕ) → r ≡ Ok (from, to) → VerbatimAt s at r → Plain s at from (to - from)
plain-spans s at from to r q h = spans (subst (λ (x : Result (ℕ × ℕ) ℕ). VerbatimAt s at x) q h)
  where
    spans : VerbatimAt s at (Ok (from, to)) → Plain s at from (to - from)
    spans (a, (bs, e, w)) =
        let n : to - from ≡ length bs = omega (arith, w.long) in
        let l = sym (length-drop at s) ∙ ap length e ∙ spell-length (str bs) (drop to s) in
        record {
          octets = bs;
          stands = record { rest = drop to s; spelt = e };
          lies = sym (ap₂ take n w.lies ∙ take-append_seam bs (drop to s));
          count = sym n;
          ends = omega (arith, a, l, w.long, w.inside, length-drop to s);
        }

pub plain-order : (s : List ℕ) (at from to : ℕ) (r : Result (ℕ × ℕ) ℕ) → r ≡ Ok (from, to) → VerbatimAt s at r → from ≤ to
plain-order s at from to r q h = let z = (subst (λ (x : Result (ℕ × ℕ) ℕ). VerbatimAt s at x) q h).1.2.long in omega arith

pub plain-stuck : (s : List ℕ) (at o : ℕ) (r : Result (ℕ × ℕ) ℕ) → r ≡ Err o → VerbatimAt s at r → (w : List ℕ) → Stands s at (str w) → ⊥
plain-stuck s at o r q h w g = (subst (λ (x : Result (ℕ × ℕ) ℕ). VerbatimAt s at x) q h).0 w g.rest g.spelt

-- one whose length is one digit
pub plain-short : (s : List ℕ) (at : ℕ) → at + 1 < length s → is_digit (get_or s at 0) ≡ true → get_or s (at + 1) 0 ≡ 58 → get_or s at 0 - 48 < length s - at - 1 → length s < 9223372036854775808 → Plain s at (at + 2) (get_or s at 0 - 48)
plain-short s at h d c l b =
    let to = at + 2 + (get_or s at 0 - 48) in
    subst (Plain s at (at + 2)) {x = to - (at + 2)} {y = get_or s at 0 - 48} (omega arith)
    (plain-spans s at (at + 2) to (Ok (at + 2, to)) refl (short-spans s at h d c l b))

-- the same of a string with a hint or without
flat : (h : Option (List ℕ)) (bs : List ℕ) → nesting (text_of h bs) ≡ 0
flat none bs = refl
flat (some h) bs = refl

pub past-spans : (s : List ℕ) (at from to : ℕ) (r : Result (ℕ × ℕ) ℕ) → r ≡ Ok (from, to) → TextAt true s at r → Ends s at 0 to
past-spans s at from to r q h = spans (subst (λ (x : Result (ℕ × ℕ) ℕ). TextAt true s at x) q h)
  where
    spans : TextAt true s at (Ok (from, to)) → Ends s at 0 to
    spans (a, (h, bs, k, e, w)) =
        let l = sym (length-drop at s) ∙ ap length e ∙ spell-length (text_of h bs) (drop to s) in
        record {
          expression = text_of h bs;
          stands = record { rest = drop to s; spelt = e };
          shallow = omega (arith, flat h bs);
          ends = omega (arith, a, l, w.long, w.inside, length-drop to s);
        }

pub past-stuck : (s : List ℕ) (at o : ℕ) (r : Result (ℕ × ℕ) ℕ) → r ≡ Err o → TextAt true s at r → (e : Sexp) → Stands s at e → nesting e ≤ 0 → ⊥
past-stuck s at o r q h = stuck (subst (λ (x : Result (ℕ × ℕ) ℕ). TextAt true s at x) q h).0
  where
    stuck : ((h : Option (List ℕ)) (bs rest : List ℕ) → Known true (text_of h bs) → drop at s ≡ spell_onto (text_of h bs) rest → ⊥) → (e : Sexp) → Stands s at e → nesting e ≤ 0 → ⊥
    stuck n (str w) g d = n none w g.rest tt g.spelt
    stuck n (hinted t w) g d = n (some t) w g.rest refl g.spelt
    stuck n (list xs) g d = omega arith

-- past an expression that opens no list it does not matter how deep lists may nest; and where one opens, it must be allowed
pub past-flat : (s : List ℕ) (at nest : ℕ) (r : std.Option ℕ) → (get_or s at 0 ≡ 40 → ⊥) → PastAt s at 0 r → PastAt s at nest r
past-flat s at nest (Some n) b h = record { expression = h.expression; stands = h.stands; shallow = omega (arith, h.shallow); ends = h.ends }
past-flat s at nest None b h = λ e g d. h e g (omega (arith, opens_not g b))

pub past-deep : (s : List ℕ) (at nest : ℕ) → get_or s at 0 ≡ 40 → nest ≡ 0 → PastAt s at nest None
past-deep s at nest b z = none
  where
    none : (e : Sexp) → Stands s at e → nesting e ≤ nest → ⊥
    none e g d = let (xs, q) = opens-list g b in omega (arith, z, d, ap nesting q)

-- members of a list stand from an offset up to n, and nest at most so deep
pub record Members (s : List ℕ) (at nest n : ℕ) : Type 0 where
  pub members : Sexps
  pub stand : StandsAll s at members
  pub shallow : nestings members ≤ nest
  pub ends : n ≡ at + length (spells members)

-- of the list that opens at an offset, members are passed up to i: any that stand there make a whole, and any whole leaves some to stand there
pub record Going (s : List ℕ) (at nest i : ℕ) : Type 0 where
  pub whole : (ys : Sexps) → StandsAll s i ys → nestings ys ≤ nest → Members s (at + 1) nest (i + length (spells ys))
  pub left : (xs : Sexps) → StandsAll s (at + 1) xs → nestings xs ≤ nest → (ys : Sexps) × StandsAll s i ys × (nestings ys ≤ nest)

pub going_start : (s : List ℕ) (at nest : ℕ) → Going s at nest (at + 1)
going_start s at nest = record {
  whole = λ ys h d. record { members = ys; stand = h; shallow = d; ends = refl };
  left = λ xs h d. (xs, h, d);
}

module _ (s : List ℕ) (at nest i : ℕ) (g : Going s at nest i) where
  -- a member is passed
  pub going_on : (n : ℕ) → (get_or s i 0 ≡ 41 → ⊥) → Ends s i nest n → Going s at nest n
  going_on n b h = record {
    whole = λ ys k d. more ys (subst (λ (j : ℕ). StandsAll s j ys) h.ends k) d;
    left = λ xs k d. rest (g.left xs k d);
  }
    where
      x : Sexp
      x = h.expression

      more : (ys : Sexps) → StandsAll s (i + length (spell x)) ys → nestings ys ≤ nest → Members s (at + 1) nest (n + length (spells ys))
      more ys k d =
          let m = g.whole (cons x ys) (more-stand h.stands k) (omega (arith, h.shallow, d)) in
          record { members = m.members; stand = m.stand; shallow = m.shallow; ends = omega (arith, m.ends, h.ends, cons-length x ys) }

      rest : (ys : Sexps) × StandsAll s i ys × (nestings ys ≤ nest) → (zs : Sexps) × StandsAll s n zs × (nestings zs ≤ nest)
      rest (nil, k, d) = absurd (b (none-closes k))
      rest (cons y zs, k, d) =
          let e = ap (λ (z : Sexp). i + length (spell z)) (stands-once (first-stands k) h.stands) ∙ sym h.ends in
          (zs, subst (λ (j : ℕ). StandsAll s j zs) e (others-stand k), omega (arith, d))

-- what is passed ends further on
pub ends-further : (s : List ℕ) (at nest n : ℕ) → Ends s at nest n → at < n
ends-further s at nest n h = omega (arith, h.ends, spell-some h.expression)

module _ (s : List ℕ) (at nest i : ℕ) (b : get_or s at 0 ≡ 40) (z : nest ≡ 0 → ⊥) (g : Going s at (nest - 1) i) where
  -- the closing parenthesis ends the list
  pub past-whole : get_or s i 0 ≡ 41 → Ends s at nest (i + 1)
  past-whole c =
      let m = g.whole nil (none-stand c) (omega arith) in
      record {
        expression = list m.members;
        stands = list-stands b m.stand;
        shallow = omega (arith, z, m.shallow);
        ends = omega (arith, m.ends, list_length m.members);
      }

  -- where the bytes end there is no list
  pub past-cut : length s ≤ i → (e : Sexp) → Stands s at e → nesting e ≤ nest → ⊥
  past-cut c e h d =
      let (xs, q) = opens-list h b in
      let (ys, k, m) = g.left xs (members-stand (subst (Stands s at) q h)) (omega (arith, d, ap nesting q)) in
      omega (arith, c, all-before k)

  -- nor where none closes and no member stands
  pub past_stop : (get_or s i 0 ≡ 41 → ⊥) → ((e : Sexp) → Stands s i e → nesting e ≤ nest - 1 → ⊥) → (e : Sexp) → Stands s at e → nesting e ≤ nest → ⊥
  past_stop c f e h d =
      let (xs, q) = opens-list h b in
      stop (g.left xs (members-stand (subst (Stands s at) q h)) (omega (arith, d, ap nesting q)))
    where
      stop : (ys : Sexps) × StandsAll s i ys × (nestings ys ≤ nest - 1) → ⊥
      stop (nil, k, d) = c (none-closes k)
      stop (cons y ys, k, d) = f y (first-stands k) (omega (arith, d))

-- the end of a string whose length is one digit, and that none stands there where the bytes end before it
module _ (s : List ℕ) (at : ℕ) (b : length s < 9223372036854775808) (h : at + 1 < length s) (d : is_digit (get_or s at 0) ≡ true) (c : get_or s (at + 1) 0 ≡ 58) where
  bracket : get_or s at 0 ≡ 91 → ⊥
  bracket e = omega (arith, e, digit-high (get_or s at 0) d)

  pub string-short : at + 2 + (get_or s at 0 - 48) ≤ length s → Ends s at 0 (at + 2 + (get_or s at 0 - 48))
  string-short l =
      let v = get_or s at 0 - 48 in
      past-spans s at (at + 2) (at + 2 + v) (Ok (at + 2, at + 2 + v)) refl (text-unhinted true s at (Ok (at + 2, at + 2 + v)) (omega arith) bracket (short-spans s at h d c (omega (arith, l)) b))

  pub string-long : length s < at + 2 + (get_or s at 0 - 48) → PastAt s at 0 None
  string-long l = past-stuck s at (length s) (Err (length s)) refl (text-unhinted true s at (Err (length s)) (omega arith) bracket (short_stuck s at h d c (omega (arith, l)) b))

-- a list that holds no other may stand wherever a list may
pub pair-past : (s : List ℕ) (at nest n : ℕ) → (nest ≡ 0 → ⊥) → Ends s at 1 n → Ends s at nest n
pair-past s at nest n z h = record { expression = h.expression; stands = h.stands; shallow = omega (arith, z, h.shallow); ends = h.ends }

-- the end of a list of two strings whose lengths are one digit each, the first of them 1
module _ (s : List ℕ) (at : ℕ) (b : length s < 9223372036854775808) where
  pub pair_ends : (n : ℕ) → get_or s at 0 ≡ 40 → get_or s (at + 1) 0 ≡ 49 → get_or s (at + 2) 0 ≡ 58 → is_digit (get_or s (at + 4) 0) ≡ true → get_or s (at + 5) 0 ≡ 58 → n ≡ at + 6 + (get_or s (at + 4) 0 - 48) → n < length s → get_or s n 0 ≡ 41 → Ends s at 1 (n + 1)
  unfolding is_digit
  pair_ends n o e c d f q l z = past-whole s at 1 n o (λ k. omega arith) last z
    where
      first : Going s at 0 (at + 4)
      first =
          subst (Going s at 0) {x = at + 1 + 2 + (get_or s (at + 1) 0 - 48)} {y = at + 4} (omega (arith, e))
          (going_on s at 0 (at + 1) (going_start s at 0) (at + 1 + 2 + (get_or s (at + 1) 0 - 48)) (λ k. omega (arith, e, k))
          (string-short s (at + 1) b (omega (arith, q, l)) (ap is_digit e) (ap (λ (i : ℕ). get_or s i 0) {x = at + 1 + 1} {y = at + 2} (omega arith) ∙ c) (omega (arith, e, q, l))))

      last : Going s at 0 n
      last =
          subst (Going s at 0) {x = at + 4 + 2 + (get_or s (at + 4) 0 - 48)} {y = n} (omega (arith, q))
          (going_on s at 0 (at + 4) first (at + 4 + 2 + (get_or s (at + 4) 0 - 48)) (λ k. omega (arith, k, digit_low (get_or s (at + 4) 0) d))
          (string-short s (at + 4) b (omega (arith, q, l)) d (ap (λ (i : ℕ). get_or s i 0) {x = at + 4 + 1} {y = at + 5} (omega arith) ∙ f) (omega (arith, q, l))))
