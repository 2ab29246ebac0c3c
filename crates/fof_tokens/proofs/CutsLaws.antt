-- The tokens that are computed are those into which the text is cut, and a text is cut in one way or in none.
use Prim.Native.Nat.{ℕ, zero, suc, ◌+◌, ◌-◌, ◌<◌, ◌≤◌}
use mathlib.Core.Path.{◌≡◌, refl, sym, ◌∙◌, ap, subst}
use mathlib.Core.List.{List, [], ◌∷◌}
use mathlib.Core.Option.{Option, none, some, some-injective}
use mathlib.Core.Logic.{◌↔◌}
use native.Mathlib.Omega.{arith}
use lib.ListN.{length, take, drop}
use Rattle.basics.specs.Choice.{nope, bind-some}
use Rattle.fof_tokens.specs.Token.{Token}
use Rattle.fof_tokens.specs.Cuts.{Longest, CutsFrom, ends, drops, takes, Cuts}
use Rattle.fof_tokens.specs.Machine.{Sort, gap, token}
use Rattle.fof_tokens.specs.Next.{piece_at, adds, with_piece, tokens_from, tokens_at, tokens}
use Rattle.fof_tokens.proofs.SortLaws.{Sorted}
use Rattle.fof_tokens.proofs.PieceLaws.{PieceTold, piece-told, piece-found, piece-filled}

-- bytes that are owed are passed
pub tokens-owed : (n at : ℕ) (t : List ℕ) → n ≤ length t → tokens_from n at t ≡ tokens_from 0 (at + n) (drop n t)
unfolding tokens_from
tokens-owed zero at t h = ap (λ (x : ℕ). tokens_from 0 x t) {x = at} {y = at + 0} (omega arith)
tokens-owed (suc n) at [] h = absurd (omega arith)
tokens-owed (suc n) at (c ∷ w) h =
    tokens-owed n (at + 1) w (omega arith) ∙ ap (λ (x : ℕ). tokens_from 0 x (drop n w)) {x = at + 1 + n} {y = at + suc n} (omega arith)

-- where a piece is found, it is passed
pub tokens-piece : (at : ℕ) (t : List ℕ) (s : Sort) (n : ℕ) → 0 < n → n ≤ length t → piece_at at t ≡ some (s, at + n) →
    tokens_from 0 at t ≡ adds s (at + n) at t (tokens_from 0 (at + n) (drop n t))
unfolding tokens_from
tokens-piece at t s zero p h e = absurd (omega arith)
tokens-piece at [] s (suc n) p h e = absurd (omega arith)
tokens-piece at (c ∷ w) s (suc n) p h e =
    ap (λ (x : Option (Sort × ℕ)). with_piece x at (c ∷ w) (λ owed. tokens_from owed (at + 1) w)) e
    ∙ ap (λ (x : Option (List Token)). adds s (at + suc n) at (c ∷ w) x)
    (ap (λ (x : ℕ). tokens_from x (at + 1) w) {x = at + suc n - (at + 1)} {y = n} (omega arith)
    ∙ tokens-owed n (at + 1) w (omega arith)
    ∙ ap (λ (x : ℕ). tokens_from 0 x (drop n w)) {x = at + 1 + n} {y = at + suc n} (omega arith))

-- what a token says of itself
pub bytes_of : (at n : ℕ) (t : List ℕ) → take (at + n - at) t ≡ take n t
bytes_of at n t = ap (λ (x : ℕ). take x t) {x = at + n - at} {y = n} (omega arith)

-- what is cut is computed
pub longest-filled : (t : List ℕ) (n : ℕ) → Longest t n → 0 < n
longest-filled t zero l = absurd (piece-filled l.piece)
longest-filled t (suc n) l = omega arith

pub cut-tokens : {at : ℕ} {t : List ℕ} {ts : List Token} → CutsFrom at t ts → tokens_from 0 at t ≡ some ts
unfolding tokens_from
cut-tokens ends = refl
cut-tokens (drops {at = at} {n = n} {t = t} l g r) =
    tokens-piece at t gap n (longest-filled t n l) l.within (piece-found at t n gap l g) ∙ cut-tokens r
cut-tokens (takes {at = at} {n = n} {t = t} {ts = ts} {k = k} l i r) =
    tokens-piece at t (token k) n (longest-filled t n l) l.within (piece-found at t n (token k) l i)
    ∙ ap (λ (x : Option (List Token)). adds (token k) (at + n) at t x) (cut-tokens r)
    ∙ ap (λ (x : List ℕ). some (record { kind = k; at = at; bytes = x } ∷ ts)) (bytes_of at n t)

-- what is computed is cut
cut-nil : (at owed : ℕ) (ts : List Token) → tokens_from owed at [] ≡ some ts → CutsFrom (at + owed) (drop owed []) ts
unfolding tokens_from
cut-nil at zero ts e = subst (λ (x : List Token). CutsFrom (at + 0) [] x) (some-injective [] ts e) ends
cut-nil at (suc n) ts e = subst (λ (x : List Token). CutsFrom (at + suc n) [] x) (some-injective [] ts e) ends

-- a piece, and what is cut after it
cut-piece : (at : ℕ) (t : List ℕ) (n : ℕ) (s : Sort) (o : Option (List Token)) (ts : List Token) → Longest t n → Sorted s (take n t) →
    ((us : List Token) → o ≡ some us → CutsFrom (at + n) (drop n t) us) → adds s (at + n) at t o ≡ some ts → CutsFrom at t ts
cut-piece at t n gap o ts l h f e = drops l h (f ts e)
cut-piece at t n (token k) o ts l h f e =
    let (us, q, p) = bind-some o (λ us. some (record { kind = k; at = at; bytes = take (at + n - at) t } ∷ us)) ts e in
    subst (λ (x : List Token). CutsFrom at t x)
    (ap (λ (x : List ℕ). record { kind = k; at = at; bytes = x } ∷ us) (sym (bytes_of at n t)) ∙ some-injective (record { kind = k; at = at; bytes = take (at + n - at) t } ∷ us) ts p)
    (takes l h (f us q))

pub tokens-cut : (t : List ℕ) (owed at : ℕ) (ts : List Token) → owed ≤ length t → tokens_from owed at t ≡ some ts → CutsFrom (at + owed) (drop owed t) ts
unfolding tokens_from
tokens-cut [] owed at ts h e = cut-nil at owed ts e
tokens-cut (c ∷ w) (suc n) at ts h e =
    subst (λ (x : ℕ). CutsFrom x (drop n w) ts) {x = at + 1 + n} {y = at + suc n} (omega arith) (tokens-cut w n (at + 1) ts (omega arith) e)
tokens-cut (c ∷ w) zero at ts h e =
    subst (λ (x : ℕ). CutsFrom x (c ∷ w) ts) {x = at} {y = at + 0} (omega arith)
    (go (piece_at at (c ∷ w)) (piece-told at (c ∷ w)) e (λ n us b q. tokens-cut w n (at + 1) us b q))
  where
    go : (o : Option (Sort × ℕ)) → PieceTold at (c ∷ w) o → with_piece o at (c ∷ w) (λ owed. tokens_from owed (at + 1) w) ≡ some ts →
        ((n : ℕ) (us : List Token) → n ≤ length w → tokens_from n (at + 1) w ≡ some us → CutsFrom (at + 1 + n) (drop n w) us) → CutsFrom at (c ∷ w) ts
    go none f q ih = nope q
    go (some (s, e)) (zero, p, b, l, h) q ih = absurd (omega arith)
    go (some (s, e)) (suc n, p, b, l, h) q ih =
        cut-piece at (c ∷ w) (suc n) s (tokens_from (e - (at + 1)) (at + 1) w) ts l h
        (λ us r. subst (λ (x : ℕ). CutsFrom x (drop n w) us) {x = at + 1 + n} {y = at + suc n} (omega arith)
        (ih n us (let z = l.within in omega arith) (ap (λ (x : ℕ). tokens_from x (at + 1) w) {x = n} {y = e - (at + 1)} (omega arith) ∙ r)))
        (ap (λ (x : ℕ). adds s x at (c ∷ w) (tokens_from (e - (at + 1)) (at + 1) w)) (sym p) ∙ q)

-- the tokens computed are those into which the text is cut
pub tokens-right : (t : List ℕ) (ts : List Token) → (tokens t ≡ some ts) ↔ Cuts t ts
unfolding tokens tokens_at
tokens-right t ts = (λ e. tokens-cut t 0 0 ts (omega arith) e, λ h. cut-tokens h)

-- a text is cut in one way at most
pub cut-once : (t : List ℕ) (ts us : List Token) → Cuts t ts → Cuts t us → ts ≡ us
cut-once t ts us h k = some-injective ts us (sym (cut-tokens h) ∙ cut-tokens k)

-- where nothing is computed, the text cannot be cut
pub no-tokens : (t : List ℕ) → (tokens t ≡ none) ↔ ((ts : List Token) → Cuts t ts → ⊥)
unfolding tokens tokens_at
no-tokens t = (λ e ts h. nope (sym e ∙ cut-tokens h), λ f. go (tokens t) refl f)
  where
    go : (o : Option (List Token)) → tokens t ≡ o → ((ts : List Token) → Cuts t ts → ⊥) → o ≡ none
    go none e f = refl
    go (some ts) e f = absurd (f ts (tokens-cut t 0 0 ts (omega arith) e))
