-- The sign ahead of an offset, from the next token; it ends behind the offset and in the text.
use Prim.Native.Nat.{ℕ, ◌+◌, ◌-◌, ◌<◌, ◌≤◌, min}
use mathlib.Core.Path.{◌≡◌, refl, sym, ◌∙◌, ap, subst}
use mathlib.Core.Bool.{Bool, true, false}
use mathlib.Core.List.{List, [], ◌∷◌}
use mathlib.Core.Option.{Option, some, some-injective}
use native.Mathlib.Omega.{arith}
use lib.Dec.{ltb}
use lib.ListN.{length, take, drop, length-drop, drop_of_length-le}
use lib.Seq.{take_all}
use borrow.Author.Tests.{ltb-true, ltb-false}
use Rattle.basics.specs.Text.{octets}
use Rattle.basics.specs.Tells.{Tells}
use Rattle.harrop.specs.Bindings.{same_name}
use Rattle.harrop.proofs.SameLaws.{same-names-equal, equal-names-same}
use Rattle.basics.specs.Choice.{choose, ◌>>=◌, nope, bind-some}
use Rattle.fof_tokens.specs.declared.Kind.{Kind}
use Rattle.fof_tokens.specs.declared.Kind.TheVariants as K
use Rattle.std.specs.Prelude.{Some, None, Ok, Err}
use Rattle.fof_tokens.specs.Lexed.{Lexed}
use Rattle.fof_tokens.specs.Lexed as lexed
use Rattle.fof_tokens.specs.Token.{Token}
use Rattle.fof_tokens.specs.Lexes.{Lexes, ends, fails, drops, takes}
use Rattle.fof_tokens.specs.Next.{lexed_at, tokens_at, tokens_by}
use Rattle.fof_tokens.proofs.CutsLaws.{longest-filled}
use Rattle.fof_tokens.proofs.NextLaws.{lexed-right, tokens-next}
use Rattle.fof_part.specs.Sign.{Sign, code, sign_of, signs}
use Rattle.fof_pass.specs.declared.ahead.Ahead.{Ahead}
use Rattle.fof_pass.specs.declared.ahead.Sign as ahead
use Rattle.fof_pass.specs.declared.ahead.Sign.TheVariants as S
use Rattle.fof_pass.specs.Codes.{code_is}
use Rattle.fof_pass.specs.Ahead.{signs_at, between, name_in, SeesAll, Aheads}

-- a token ends behind the offset and in the text
abbrev Within : Lexed → ℕ → ℕ → Type 0
Within (Ok None) at n = Unit {0}
Within (Err x) at n = Unit {0}
Within (Ok (Some k)) at n = (at < k.end) × (k.end ≤ n)

wider : (r : Lexed) (a b n m : ℕ) → a ≤ b → n ≤ m → Within r b n → Within r a m
wider (Ok None) a b n m l k h = h
wider (Err x) a b n m l k h = h
wider (Ok (Some x)) a b n m l k h = (omega (arith, h.0), omega (arith, h.1))

within : {at : ℕ} {u : List ℕ} {r : Lexed} → Lexes at u r → Within r at (at + length u)
within ends = tt
within (fails f) = tt
within (drops {at = at} {n = n} {t = t} {r = r} l g x) =
    wider r at (at + n) (at + n + length (drop n t)) (at + length t) (omega arith) (omega (arith, length-drop n t, l.within)) (within x)
within (takes {at = at} {n = n} {t = t} l i) = (omega (arith, longest-filled t n l), omega (arith, l.within))

-- the name that a sign holds is its token's bytes
name_in_lem : (k : Kind) (w : List ℕ) → code (sign_of k w) < 2 → w ≡ name_in (sign_of k w)
name_in_lem K.Lower w l = refl
name_in_lem K.Upper w l = refl
name_in_lem K.Quoted w l = absurd (omega arith)
name_in_lem K.Distinct w l = absurd (omega arith)
name_in_lem K.Dollar w l = go (same_name w (octets "$true")) l
  where
    go : (b : Bool) → code (choose b Sign.truth Sign.other) < 2 → w ≡ name_in (choose b Sign.truth Sign.other)
    go true h = absurd (omega arith)
    go false h = absurd (omega arith)
name_in_lem K.DoubleDollar w l = absurd (omega arith)
name_in_lem K.Integer w l = absurd (omega arith)
name_in_lem K.Rational w l = absurd (omega arith)
name_in_lem K.Real w l = absurd (omega arith)
name_in_lem K.OpenParen w l = absurd (omega arith)
name_in_lem K.CloseParen w l = absurd (omega arith)
name_in_lem K.OpenBracket w l = absurd (omega arith)
name_in_lem K.CloseBracket w l = absurd (omega arith)
name_in_lem K.OpenBrace w l = absurd (omega arith)
name_in_lem K.CloseBrace w l = absurd (omega arith)
name_in_lem K.Comma w l = absurd (omega arith)
name_in_lem K.Dot w l = absurd (omega arith)
name_in_lem K.Colon w l = absurd (omega arith)
name_in_lem K.Minus w l = absurd (omega arith)
name_in_lem K.ForAll w l = absurd (omega arith)
name_in_lem K.Exists w l = absurd (omega arith)
name_in_lem K.Not w l = absurd (omega arith)
name_in_lem K.And w l = absurd (omega arith)
name_in_lem K.Or w l = absurd (omega arith)
name_in_lem K.Equal w l = absurd (omega arith)
name_in_lem K.Unequal w l = absurd (omega arith)
name_in_lem K.Implies w l = absurd (omega arith)
name_in_lem K.ImpliedBy w l = absurd (omega arith)
name_in_lem K.Iff w l = absurd (omega arith)
name_in_lem K.Xor w l = absurd (omega arith)
name_in_lem K.Nor w l = absurd (omega arith)
name_in_lem K.Nand w l = absurd (omega arith)
name_in_lem K.Sequent w l = absurd (omega arith)

module _ (t : List ℕ) (at : ℕ) {r : Lexed} (is : r ≡ lexed_at t at) where
  by_token : (ss : List Sign) → signs_at t at ≡ some ss → (tokens_by t r >>= λ ts. some (signs ts)) ≡ some ss
  unfolding signs_at
  by_token ss e = ap (λ (x : Lexed). tokens_by t x >>= λ ts. some (signs ts)) is ∙ ap (λ (o : Option (List Token)). o >>= λ ts. some (signs ts)) (sym (tokens-next t at)) ∙ e

  pub ahead-end : r ≡ lexed.ended → {a : Ahead} → a ≡ record { sign = S.Nothing; start = at; end = at } → Aheads t at a
  ahead-end f {a} g = record {
    seen = λ ss e. subst (SeesAll t a) (some-injective [] ss (ap (λ (x : Lexed). tokens_by t x >>= λ ts. some (signs ts)) (sym f) ∙ by_token ss e)) (ap (λ (x : Ahead). (code_is x.sign)) g);
    further = λ l. absurd (omega (arith, ap (λ (x : Ahead). (code_is x.sign)) g));
  }

  pub ahead-bad : r ≡ lexed.bad → {a : Ahead} → a ≡ record { sign = S.Nothing; start = at; end = at } → Aheads t at a
  ahead-bad f {a} g = record {
    seen = λ ss e. nope (ap (λ (x : Lexed). tokens_by t x >>= λ ts. some (signs ts)) (sym f) ∙ by_token ss e);
    further = λ l. absurd (omega (arith, ap (λ (x : Ahead). (code_is x.sign)) g));
  }

  module _ {k : Kind} {s e : ℕ} (f : r ≡ lexed.token k s e) where
    pub token-within : (at < e) × (e ≤ length t)
    token-within =
        let h : Within (lexed.token k s e) at (at + length (drop at t)) = subst (λ (x : Lexed). Within x at (at + length (drop at t))) (sym is ∙ f) (within (lexed-right t at)) in
        (h.0, omega (arith, h.0, h.1, length-drop at t))

    pub ahead-token : {c : ahead.Sign} → code_is c ≡ code (sign_of k (between t s e)) → Aheads t at (record { sign = c; start = s; end = e })
    unfolding signs_at
    ahead-token {c} g = record {
      seen = λ ss h.
          let (ts, o, q) = bind-some (tokens_by t (lexed.token k s e)) (λ ts. some (signs ts)) ss (ap (λ (x : Lexed). tokens_by t x >>= λ ts. some (signs ts)) (sym f) ∙ by_token ss h) in
          let (us, o', q') = bind-some (tokens_at t e) (λ ts. some (record { kind = k; at = s; bytes = between t s e } ∷ ts)) ts o in
          let z = ap signs (some-injective (record { kind = k; at = s; bytes = between t s e } ∷ us) ts q') ∙ some-injective (signs ts) ss q in
          subst (SeesAll t (record { sign = c; start = s; end = e })) z
          (record { number = g; name = λ l. name_in_lem k (between t s e) (omega arith); rest = ap (λ (x : Option (List Token)). x >>= λ ts. some (signs ts)) o' });
      further = λ _. token-within;
    }

-- the bytes from one place to another, where both are brought into the text
pub cut-is : (t : List ℕ) (start end e s : ℕ) → e ≡ min end (length t) → s ≡ min start e → take (e - s) (drop s t) ≡ between t start end
cut-is t start end e s f g = go (ltb start e) (ltb end (length t)) refl refl
  where
    go : (b c : Bool) → ltb start e ≡ b → ltb end (length t) ≡ c → take (e - s) (drop s t) ≡ between t start end
    go true true h k =
        let x = ltb-true start e h in
        let y = ltb-true end (length t) k in
        ap (λ (n : ℕ). take (e - n) (drop n t)) {x = s} {y = start} (omega arith) ∙ ap (λ (n : ℕ). take (n - start) (drop start t)) {x = e} {y = end} (omega arith)
    go true false h k =
        let x = ltb-true start e h in
        let y = ltb-false end (length t) k in
        ap (λ (n : ℕ). take (e - n) (drop n t)) {x = s} {y = start} (omega arith)
        ∙ take_all (e - start) (drop start t) (omega (arith, length-drop start t))
        ∙ sym (take_all (end - start) (drop start t) (omega (arith, length-drop start t)))
    go false true h k =
        let x = ltb-false start e h in
        let y = ltb-true end (length t) k in
        ap (λ (n : ℕ). take n (drop s t)) {x = e - s} {y = 0} (omega arith) ∙ ap (λ (n : ℕ). take n (drop start t)) {x = 0} {y = end - start} (omega arith)
    go false false h k =
        let x = ltb-false start e h in
        let y = ltb-false end (length t) k in
        ap (λ (n : ℕ). take n (drop s t)) {x = e - s} {y = 0} (omega arith)
        ∙ sym (ap (take (end - start)) (drop_of_length-le t {i = start} (omega arith)) ∙ take_all (end - start) [] (omega arith))

-- a word behind a dollar
dollar-true : (w : List ℕ) → w ≡ octets "$true" → 2 ≡ code (sign_of K.Dollar w)
dollar-true w e = rw (equal-names-same w (octets "$true") e) refl

dollar-other : (w : List ℕ) → (w ≡ octets "$true" → ⊥) → 15 ≡ code (sign_of K.Dollar w)
dollar-other w n = go (same_name w (octets "$true")) refl
  where
    go : (b : Bool) → same_name w (octets "$true") ≡ b → ◌≡◌ {A = ℕ} 15 (code (choose (same_name w (octets "$true")) Sign.truth Sign.other))
    go true e = absurd (n (same-names-equal w (octets "$true") e))
    go false e = rw e refl

pub dollar-hit : {v : List ℕ} {b : Bool} (w : List ℕ) → v ≡ w → b ≡ true → Tells b (v ≡ octets "$true") → 2 ≡ code (sign_of K.Dollar w)
dollar-hit {v} w e f h = dollar-true w (sym e ∙ subst (λ (b : Bool). Tells b (v ≡ octets "$true")) f h)

pub dollar-miss : {v : List ℕ} {b : Bool} (w : List ℕ) → v ≡ w → b ≡ false → Tells b (v ≡ octets "$true") → 15 ≡ code (sign_of K.Dollar w)
dollar-miss {v} w e f h = dollar-other w (λ z. subst (λ (b : Bool). Tells b (v ≡ octets "$true")) f h (e ∙ z))
