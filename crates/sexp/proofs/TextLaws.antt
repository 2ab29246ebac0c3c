-- What the reader of a string finds, case by case: the string and where it ends, or that none stands there and where the scan stops.
use Prim.Native.Nat.{ℕ, ◌+◌, ◌-◌, ◌<◌, ◌≤◌}
use mathlib.Core.Path.{◌≡◌, refl, sym, ap, subst, ◌∙◌}
use mathlib.Core.Bool.{Bool, true, false, ◌&&◌, false≢true}
use mathlib.Core.List.{List, [], ◌∷◌, ◌++◌}
use mathlib.Core.Option.{Option, none, some}
use native.Mathlib.Omega.{arith}
use lib.Dec.{ltb, eqb}
use lib.ListN.{length, get_or, take, drop, length-drop, length-take, length-append, drop_of_length-le, take-append-drop, get_or-eq_default}
use lib.Seq.{drop-drop}
use borrow.Author.Tests.{ltb-true, ltb-false, eq-eqb}
use Rattle.sexp.specs.declared.carrier.Carrier.{Carrier}
use Rattle.sexp.specs.declared.carrier.Carrier.TheVariants.{Fault}
use Rattle.std.specs.Prelude.{Result, Ok, Err}
use Rattle.sexp.specs.Decimal.{decimal_onto, is_digit}
use Rattle.sexp.specs.Number.{Number}
use Rattle.sexp.specs.Sexp.{verbatim_onto, spell_onto}
use Rattle.sexp.specs.Known.{Known, text_of}
use Rattle.sexp.specs.Scan.{Then, after, shut, due, string, number, owed, note, ended, scan}
use Rattle.sexp.specs.Text.{VerbatimAt, TextAt}
use Rattle.sexp.proofs.DecimalLaws.{digit-is, onto-small, onto-length, onto-first, decimal-once, no-leading-zero, NoDigit}
use Rattle.sexp.proofs.NumberLaws.{drop_here}
use Rattle.sexp.proofs.SpellLaws.{verbatim-length, verbatim-once}
use Rattle.sexp.proofs.StandLaws.{byte_at, after-byte}
use Rattle.sexp.proofs.ScanLaws.{no-bracket, at_some, at_none, at-end, at-due-string, string-none, number-colon, number-over, due-hint, hint-shut, hint-none, note-other, octets-short}
use Rattle.sexp.proofs.Spelt.{spelt-number, spelt-string}

-- no string stands at an offset
abbrev None : List ℕ → ℕ → Type 0
None s at = (bs rest : List ℕ) → drop at s ≡ verbatim_onto bs rest → ⊥

module _ (s : List ℕ) (at : ℕ) where
  -- the first of the bytes from an offset on
  starts : (c : ℕ) (r : List ℕ) → drop at s ≡ c ∷ r → (at < length s) × ((get_or s at 0 ≡ c) × (drop (at + 1) s ≡ r))
  starts c r e = (omega (arith, ap length e, length-drop at s), (byte_at s at (c ∷ r) e, after-byte s at (c ∷ r) e))

  -- where the next byte is no digit, and so at the end too, no string stands
  none-digit : is_digit (get_or s at 0) ≡ false → None s at
  none-digit h bs rest f =
      let (c, r, e, l) = onto-first (length bs) (58 ∷ (bs ++ rest)) in
      let t = starts c r (f ∙ e) in
      false≢true (sym h ∙ ap is_digit t.1.0 ∙ digit-is c l.0 l.1)

  pub stuck-end : length s ≤ at → VerbatimAt s at (Err at)
  unfolding is_digit ended
  stuck-end h =
      (none-digit (ap is_digit (get_or-eq_default s 0 h)), λ hints t limit v. at-end hints limit s (string t) at v h)

  pub stuck-digit : at < length s → is_digit (get_or s at 0) ≡ false → VerbatimAt s at (Err at)
  stuck-digit h e =
      (none-digit e, λ hints t limit v. at_none hints limit s (string t) at v h (string-none hints t (get_or s at 0) e))

  -- where a number stands
  module _ (v i : ℕ) (r : Number s at v i) where
    over : 0 < r.digits.worth → NoDigit (drop i s)
    over h = go (ltb i (length s)) refl
      where
        go : (b : Bool) → ltb i (length s) ≡ b → NoDigit (drop i s)
        go true t = subst NoDigit (sym (drop_here s i (ltb-true i (length s) t))) (r.over h)
        go false t = subst NoDigit (sym (drop_of_length-le s {i = i} (ltb-false i (length s) t))) tt

    -- a number there that no digit follows is that number, and the same follows
    pub number_read : (n : ℕ) (k : List ℕ) → NoDigit k → drop at s ≡ decimal_onto n k → (r.digits.worth ≡ n) × (drop i s ≡ k)
    number_read n k d f = go (ltb 0 r.digits.worth) refl
      where
        go : (b : Bool) → ltb 0 r.digits.worth ≡ b → (r.digits.worth ≡ n) × (drop i s ≡ k)
        go true t =
            decimal-once r.digits.worth n (drop i s) k (over (ltb-true 0 r.digits.worth t)) d (sym r.digits.reads ∙ f)
        go false t =
            let z : r.digits.worth ≡ 0 = let l = ltb-false 0 r.digits.worth t in omega arith in
            let (e, g) = no-leading-zero n k (drop i s) (sym f ∙ r.digits.reads ∙ ap (λ (x : ℕ). decimal_onto x (drop i s)) z ∙ onto-small 0 (drop i s) (omega arith)) in
            (z ∙ sym e, sym g)

    -- a string there has that number as its length, and its colon follows
    number-once : (n : ℕ) (k : List ℕ) → drop at s ≡ decimal_onto n (58 ∷ k) → (r.digits.worth ≡ n) × (drop i s ≡ 58 ∷ k)
    unfolding is_digit
    number-once n k f = number_read n (58 ∷ k) refl f

    scan-number : (hints : Bool) (t : Then) (limit : ℕ) (m : Carrier) → scan hints limit (string t) at m (drop at s) ≡ scan hints limit (number t r.digits.worth) i m (drop i s)
    scan-number hints t limit m =
        let e = r.digits.reads in
        let f = ap length e in
        let a = r.digits.after in
        let l = r.digits.inside in
        ap (λ (w : List ℕ). scan hints limit (string t) at m w) e
        ∙ spelt-number hints limit r.digits.worth t at m (drop i s)
        ∙ ap (λ (x : ℕ). scan hints limit (number t r.digits.worth) x m (drop i s)) {x = at + length (decimal_onto r.digits.worth [])} {y = i} (omega (arith, f, onto-length r.digits.worth (drop i s), length-drop at s, length-drop i s, a, l))

    pub stuck-number : length s ≤ i → VerbatimAt s at (Err i)
    unfolding ended
    stuck-number h = (
      λ bs rest f.
          let g = ap length (sym (drop_of_length-le s {i = i} h) ∙ (number-once (length bs) (bs ++ rest) f).1) in
          omega arith,
      λ hints t limit m. scan-number hints t limit m ∙ at-end hints limit s (number t r.digits.worth) i m h,
    )

    pub stuck-colon : i < length s → (get_or s i 0 ≡ 58 → ⊥) → VerbatimAt s at (Err i)
    stuck-colon h n = (
      λ bs rest f. n (ap (λ (w : List ℕ). get_or w 0 0) (sym (drop_here s i h) ∙ (number-once (length bs) (bs ++ rest) f).1)),
      λ hints t limit m.
          scan-number hints t limit m
          ∙ at_none hints limit s (number t r.digits.worth) i m h (number-over hints t r.digits.worth (get_or s i 0) n r.over),
    )

    scan-colon : i < length s → get_or s i 0 ≡ 58 → (hints : Bool) (t : Then) (limit : ℕ) (m : Carrier) → scan hints limit (string t) at m (drop at s) ≡ scan hints limit (owed t r.digits.worth) (i + 1) m (drop (i + 1) s)
    unfolding note
    scan-colon h e hints t limit m =
        scan-number hints t limit m
        ∙ at_some hints limit s (number t r.digits.worth) (owed t r.digits.worth) i m h (number-colon hints t r.digits.worth (get_or s i 0) e)

    pub stuck-octets : i < length s → get_or s i 0 ≡ 58 → (v < length s - i → ⊥) → length s < 9223372036854775808 → VerbatimAt s at (Err (length s))
    stuck-octets h e l b =
        let k = r.digits.clipped in
        let many : length s - i ≤ r.digits.worth = omega arith in (
          λ bs rest f.
              let g = number-once (length bs) (bs ++ rest) f in
              let n = ap length g.1 in
              omega (arith, g.0, n, length-drop i s, length-append bs rest, many),
          λ hints t limit m.
              scan-colon h e hints t limit m
              ∙ octets-short hints limit r.digits.worth t (i + 1) m (drop (i + 1) s) (omega (arith, length-drop (i + 1) s, many))
              ∙ ap Fault (omega (arith, length-drop (i + 1) s)),
        )

    pub spans : i < length s → get_or s i 0 ≡ 58 → v < length s - i → length s < 9223372036854775808 → VerbatimAt s at (Ok (i + 1, i + 1 + v))
    spans h e l b =
        let k = r.digits.clipped in
        let a = r.digits.after in
        let z : r.digits.worth ≡ v = omega arith in
        let bs = take v (drop (i + 1) s) in
        let n : length bs ≡ v = omega (arith, length-take v (drop (i + 1) s), length-drop (i + 1) s) in
        let w : drop (i + 1) s ≡ bs ++ drop (i + 1 + v) s =
        sym (take-append-drop v (drop (i + 1) s)) ∙ ap (λ (x : List ℕ). bs ++ x) (drop-drop v (i + 1) s) in (
          omega arith,
          (
            bs,
            r.digits.reads
                ∙ ap (λ (x : ℕ). decimal_onto x (drop i s)) (z ∙ sym n)
                ∙ ap (decimal_onto (length bs)) (drop_here s i h ∙ ap (λ (x : ℕ). x ∷ drop (i + 1) s) e ∙ ap (λ (x : List ℕ). 58 ∷ x) w),
            record { lies = w; long = omega (arith, n); inside = omega arith },
          ),
        )

-- a string without a hint
bracket-known : (hints : Bool) (c : ℕ) → hints && eqb c 91 ≡ false → hints ≡ true → c ≡ 91 → ⊥
bracket-known hints c n h e = false≢true (sym n ∙ ap (λ (b : Bool). b && eqb c 91) h ∙ eq-eqb c 91 e)

text-bare : (hints : Bool) (s : List ℕ) (at : ℕ) (r : Result (ℕ × ℕ) ℕ) → at < length s → hints && eqb (get_or s at 0) 91 ≡ false → VerbatimAt s at r → TextAt hints s at r
text-bare hints s at (Ok (from, to)) l n (a, (bs, e, w)) = (a, (none, bs, tt, e, w))
text-bare hints s at (Err o) l n (m, t) = (
  λ h bs rest y e. go h bs rest y e,
  λ d x limit v. at-due-string hints limit s d at v l x n ∙ t hints (after d) limit v,
)
  where
    go : (h : Option (List ℕ)) (bs rest : List ℕ) → Known hints (text_of h bs) → drop at s ≡ spell_onto (text_of h bs) rest → ⊥
    go none bs rest y e = m bs rest e
    go (some h) bs rest y e = bracket-known hints (get_or s at 0) n y (starts s at 91 (verbatim_onto h (93 ∷ verbatim_onto bs rest)) e).1.0

-- hints are not read
pub text-unread : (hints : Bool) (s : List ℕ) (at : ℕ) (r : Result (ℕ × ℕ) ℕ) → at < length s → hints ≡ false → VerbatimAt s at r → TextAt hints s at r
text-unread hints s at r l n = text-bare hints s at r l (ap (λ (b : Bool). b && eqb (get_or s at 0) 91) n)

-- or there is none
pub text-unhinted : (hints : Bool) (s : List ℕ) (at : ℕ) (r : Result (ℕ × ℕ) ℕ) → at < length s → (get_or s at 0 ≡ 91 → ⊥) → VerbatimAt s at r → TextAt hints s at r
text-unhinted hints s at r l n = text-bare hints s at r l (no-bracket hints (get_or s at 0) n)

-- a bracket, where hints are read
module _ (hints : Bool) (y : hints ≡ true) (s : List ℕ) (at : ℕ) (l : at < length s) (c : get_or s at 0 ≡ 91) where
  scan-bracket : (d limit : ℕ) (v : Carrier) → scan hints limit (due d) at v (drop at s) ≡ scan hints limit (string (shut d)) (at + 1) v (drop (at + 1) s)
  scan-bracket d limit v =
      at_some hints limit s (due d) (string (shut d)) at v l (due-hint hints d (get_or s at 0) y c)
      ∙ ap (λ (x : Carrier). scan hints limit (string (shut d)) (at + 1) x (drop (at + 1) s)) (note-other limit d at (get_or s at 0) v (λ x. omega arith))

  -- no string stands here if none with this hint does
  no_text : ((h bs rest : List ℕ) → drop (at + 1) s ≡ verbatim_onto h (93 ∷ verbatim_onto bs rest) → ⊥) → (h : Option (List ℕ)) (bs rest : List ℕ) → Known hints (text_of h bs) → drop at s ≡ spell_onto (text_of h bs) rest → ⊥
  unfolding is_digit
  no_text n none bs rest y e = none-digit s at (ap is_digit c) bs rest e
  no_text n (some h) bs rest y e = n h bs rest (starts s at 91 (verbatim_onto h (93 ∷ verbatim_onto bs rest)) e).1.1

  pub hint-stuck : (o : ℕ) → VerbatimAt s (at + 1) (Err o) → TextAt hints s at (Err o)
  hint-stuck o (n, t) = (
    no_text (λ h bs rest e. n h (93 ∷ verbatim_onto bs rest) e),
    λ d x limit v. scan-bracket d limit v ∙ t hints (shut d) limit v,
  )

  module _ (from to : ℕ) (p : VerbatimAt s (at + 1) (Ok (from, to))) where
    pub hint-inside : (at < to) × (to ≤ length s)
    hint-inside = let (a, (bs, e, w)) = p in (omega (arith, a, w.long), w.inside)

    scan-hint : (d limit : ℕ) (v : Carrier) → scan hints limit (due d) at v (drop at s) ≡ scan hints limit (owed (shut d) 0) to v (drop to s)
    scan-hint d limit v =
        let (a, (bs, e, w)) = p in
        let f = ap length e in
        scan-bracket d limit v
        ∙ ap (λ (x : List ℕ). scan hints limit (string (shut d)) (at + 1) v x) e
        ∙ spelt-string hints limit bs (shut d) (at + 1) v (drop to s)
        ∙ ap (λ (x : ℕ). scan hints limit (owed (shut d) 0) x v (drop to s)) {x = at + 1 + length (verbatim_onto bs [])} {y = to} (omega (arith, f, verbatim-length bs (drop to s), length-drop (at + 1) s, length-drop to s, hint-inside))

    -- what stands after the hint
    hint-once : (h k : List ℕ) → drop (at + 1) s ≡ verbatim_onto h k → drop to s ≡ k
    hint-once h k f = let (a, (bs, e, w)) = p in (verbatim-once bs h (drop to s) k (sym e ∙ f)).1

    pub hint-end : length s ≤ to → TextAt hints s at (Err to)
    unfolding ended
    hint-end x = (
      no_text (λ h bs rest e. let t = starts s to 93 (verbatim_onto bs rest) (hint-once h (93 ∷ verbatim_onto bs rest) e) in omega (arith, t.0, x)),
      λ d n limit v. scan-hint d limit v ∙ at-end hints limit s (owed (shut d) 0) to v x,
    )

    pub hint-open : to < length s → (get_or s to 0 ≡ 93 → ⊥) → TextAt hints s at (Err to)
    hint-open x g = (
      no_text (λ h bs rest e. g (starts s to 93 (verbatim_onto bs rest) (hint-once h (93 ∷ verbatim_onto bs rest) e)).1.0),
      λ d n limit v. scan-hint d limit v ∙ at_none hints limit s (owed (shut d) 0) to v x (hint-none hints d (get_or s to 0) g),
    )

    pub hint-text : (r : Result (ℕ × ℕ) ℕ) → to < length s → get_or s to 0 ≡ 93 → VerbatimAt s (to + 1) r → TextAt hints s at r
    unfolding note
    hint-text (Ok (from', to')) x g (a, (bs, e, w)) =
        let (b, (h, f, u)) = p in (
          omega (arith, hint-inside),
          (
            some h,
            bs,
            y,
            drop_here s at l
                ∙ ap (λ (z : ℕ). z ∷ drop (at + 1) s) c
                ∙ ap (λ (z : List ℕ). 91 ∷ z) f
                ∙ ap (λ (z : List ℕ). 91 ∷ verbatim_onto h z) (drop_here s to x ∙ ap (λ (z : ℕ). z ∷ drop (to + 1) s) g ∙ ap (λ (z : List ℕ). 93 ∷ z) e),
            w,
          ),
        )
    hint-text (Err o) x g (n, t) = (
      no_text (λ h bs rest e. n bs rest (starts s to 93 (verbatim_onto bs rest) (hint-once h (93 ∷ verbatim_onto bs rest) e)).1.1),
      λ d m limit v.
          scan-hint d limit v
          ∙ at_some hints limit s (owed (shut d) 0) (string (after d)) to v x (hint-shut hints d (get_or s to 0) g)
          ∙ t hints (after d) limit v,
    )
