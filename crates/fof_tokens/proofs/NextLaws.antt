-- What is computed to be next is what is next; nothing else is; and the tokens of a text follow from what is next, one after another.
use Prim.Native.Nat.{ℕ, zero, suc, ◌+◌, ◌-◌, ◌<◌, ◌≤◌}
use mathlib.Core.Path.{◌≡◌, refl, sym, ◌∙◌, ap, subst}
use mathlib.Core.List.{List, [], ◌∷◌}
use mathlib.Core.Option.{Option, none, some, some-injective}
use native.Mathlib.Omega.{arith}
use lib.ListN.{length, take, drop, length-drop, drop_of_length-le}
use lib.Seq.{drop-drop}
use Rattle.basics.specs.Choice.{nope}
use Rattle.fof_tokens.specs.declared.Kind.{Kind}
use Rattle.fof_tokens.specs.Lexed.{Lexed}
use Rattle.fof_tokens.specs.Lexed as lexed
use Rattle.fof_tokens.specs.Cuts.{Piece, Longest}
use Rattle.fof_tokens.specs.Lexes.{Lexes, ends, fails, drops, takes}
use Rattle.fof_tokens.specs.Machine.{Sort, gap, token}
use Rattle.fof_tokens.specs.Next.{piece_at, adds, with_piece, next_sort, next_piece, next_from, lexed_at, tokens_from, tokens_at, tokens_by}
use Rattle.fof_tokens.proofs.SortLaws.{Sorted}
use Rattle.fof_tokens.proofs.PieceLaws.{PieceTold, piece-told, piece-found}
use Rattle.fof_tokens.proofs.CutsLaws.{tokens-piece, longest-filled}

-- bytes that are owed are passed
pub next-owed : (n at : ℕ) (t : List ℕ) → n ≤ length t → next_from n at t ≡ next_from 0 (at + n) (drop n t)
unfolding next_from
next-owed zero at t h = ap (λ (x : ℕ). next_from 0 x t) {x = at} {y = at + 0} (omega arith)
next-owed (suc n) at [] h = absurd (omega arith)
next-owed (suc n) at (c ∷ w) h =
    next-owed n (at + 1) w (omega arith) ∙ ap (λ (x : ℕ). next_from 0 x (drop n w)) {x = at + 1 + n} {y = at + suc n} (omega arith)

-- where a piece is found, it is passed or it is the token
pub next-gap : (at : ℕ) (t : List ℕ) (n : ℕ) → 0 < n → n ≤ length t → piece_at at t ≡ some (gap, at + n) → next_from 0 at t ≡ next_from 0 (at + n) (drop n t)
unfolding next_from
next-gap at t zero p h e = absurd (omega arith)
next-gap at [] (suc n) p h e = absurd (omega arith)
next-gap at (c ∷ w) (suc n) p h e =
    ap (λ (x : Option (Sort × ℕ)). next_piece x at (λ owed. next_from owed (at + 1) w)) e
    ∙ ap (λ (x : ℕ). next_from x (at + 1) w) {x = at + suc n - (at + 1)} {y = n} (omega arith)
    ∙ next-owed n (at + 1) w (omega arith)
    ∙ ap (λ (x : ℕ). next_from 0 x (drop n w)) {x = at + 1 + n} {y = at + suc n} (omega arith)

pub next-token : (at : ℕ) (t : List ℕ) (k : Kind) (e : ℕ) → 0 < length t → piece_at at t ≡ some (token k, e) → next_from 0 at t ≡ lexed.token k at e
unfolding next_from
next-token at [] k e h q = absurd (omega arith)
next-token at (c ∷ w) k e h q = ap (λ (x : Option (Sort × ℕ)). next_piece x at (λ owed. next_from owed (at + 1) w)) q

pub next-bad : (at : ℕ) (t : List ℕ) → 0 < length t → piece_at at t ≡ none → next_from 0 at t ≡ lexed.bad
unfolding next_from
next-bad at [] h q = absurd (omega arith)
next-bad at (c ∷ w) h q = ap (λ (x : Option (Sort × ℕ)). next_piece x at (λ owed. next_from owed (at + 1) w)) q

none_found : (at : ℕ) (t : List ℕ) → ((n : ℕ) → n ≤ length t → Piece (take n t) → ⊥) → piece_at at t ≡ none
none_found at t f = go (piece_at at t) (piece-told at t)
  where
    go : (o : Option (Sort × ℕ)) → PieceTold at t o → o ≡ none
    go none h = refl
    go (some p) (n, e, b, l, h) = absurd (f n l.within l.piece)

-- in a whole text: a space or a comment is passed, and the rest is nearer the end
pub lexed-gap : (t : List ℕ) (at e : ℕ) → at < length t → some (gap, e) ≡ piece_at at (drop at t) → (at < e) × (lexed_at t at ≡ lexed_at t e)
unfolding lexed_at
lexed-gap t at e h q = go (piece_at at (drop at t)) (piece-told at (drop at t)) q refl
  where
    go : (o : Option (Sort × ℕ)) → PieceTold at (drop at t) o → some (gap, e) ≡ o → o ≡ piece_at at (drop at t) → (at < e) × (next_from 0 at (drop at t) ≡ next_from 0 e (drop e t))
    go none f r w = nope (sym r)
    go (some p) (n, z, b, l, i) r w =
        let y : e ≡ at + n = ap (λ (x : Sort × ℕ). x.1) (some-injective (gap, e) p r) ∙ z in (
          omega arith,
          next-gap at (drop at t) n b l.within (sym q ∙ ap (λ (x : ℕ). some (gap, x)) y)
              ∙ ap (λ (x : List ℕ). next_from 0 (at + n) x) (drop-drop n at t)
              ∙ ap (λ (x : ℕ). next_from 0 x (drop x t)) (sym y),
        )

in_rest : (t : List ℕ) (at : ℕ) → at < length t → 0 < length (drop at t)
in_rest t at h = let z = length-drop at t in omega arith

pub lexed-token : (t : List ℕ) (at : ℕ) (k : Kind) (e : ℕ) → at < length t → some (token k, e) ≡ piece_at at (drop at t) → lexed_at t at ≡ lexed.token k at e
unfolding lexed_at
lexed-token t at k e h q = next-token at (drop at t) k e (in_rest t at h) (sym q)

pub lexed-bad : (t : List ℕ) (at : ℕ) → at < length t → none ≡ piece_at at (drop at t) → lexed_at t at ≡ lexed.bad
unfolding lexed_at
lexed-bad t at h q = next-bad at (drop at t) (in_rest t at h) (sym q)

pub lexed-end : (t : List ℕ) (at : ℕ) → length t ≤ at → lexed_at t at ≡ lexed.ended
unfolding lexed_at next_from
lexed-end t at h = ap (λ (x : List ℕ). next_from 0 at x) (drop_of_length-le t {i = at} h)

-- what is next is computed
pub next-only : {at : ℕ} {t : List ℕ} {r : Lexed} → Lexes at t r → r ≡ next_from 0 at t
unfolding next_from
next-only ends = refl
next-only (fails {at = at} {c = c} {w = w} f) = sym (next-bad at (c ∷ w) (omega arith) (none_found at (c ∷ w) f))
next-only (drops {at = at} {n = n} {t = t} l g r) =
    next-only r ∙ sym (next-gap at t n (longest-filled t n l) l.within (piece-found at t n gap l g))
next-only (takes {at = at} {n = n} {t = t} {k = k} l i) =
    let z = longest-filled t n l in
    let y = l.within in
    sym (next-token at t k (at + n) (omega arith) (piece-found at t n (token k) l i))

-- what is computed is next
next-piece : (at n e : ℕ) (t : List ℕ) (s : Sort) (f : ℕ → Lexed) → Longest t n → Sorted s (take n t) → e ≡ at + n →
    Lexes (at + n) (drop n t) (f (e - (at + 1))) → Lexes at t (next_sort s e at f)
next-piece at n e t gap f l h q r = drops l h r
next-piece at n e t (token k) f l h q r = subst (λ (x : ℕ). Lexes at t (lexed.token k at x)) (sym q) (takes l h)

pub next-lexes : (t : List ℕ) (owed at : ℕ) → owed ≤ length t → Lexes (at + owed) (drop owed t) (next_from owed at t)
unfolding next_from
next-lexes [] zero at h = ends
next-lexes [] (suc n) at h = ends
next-lexes (c ∷ w) (suc n) at h =
    subst (λ (x : ℕ). Lexes x (drop n w) (next_from n (at + 1) w)) {x = at + 1 + n} {y = at + suc n} (omega arith) (next-lexes w n (at + 1) (omega arith))
next-lexes (c ∷ w) zero at h =
    subst (λ (x : ℕ). Lexes x (c ∷ w) (next_piece (piece_at at (c ∷ w)) at (λ owed. next_from owed (at + 1) w))) {x = at} {y = at + 0} (omega arith)
    (go (piece_at at (c ∷ w)) (piece-told at (c ∷ w)) (λ n b. next-lexes w n (at + 1) b))
  where
    go : (o : Option (Sort × ℕ)) → PieceTold at (c ∷ w) o →
        ((n : ℕ) → n ≤ length w → Lexes (at + 1 + n) (drop n w) (next_from n (at + 1) w)) →
        Lexes at (c ∷ w) (next_piece o at (λ owed. next_from owed (at + 1) w))
    go none f ih = fails f
    go (some (s, e)) (zero, p, b, l, i) ih = absurd (omega arith)
    go (some (s, e)) (suc n, p, b, l, i) ih =
        next-piece at (suc n) e (c ∷ w) s (λ owed. next_from owed (at + 1) w) l i p
        (subst (λ (x : ℕ). Lexes x (drop n w) (next_from (e - (at + 1)) (at + 1) w)) {x = at + 1 + n} {y = at + suc n} (omega arith)
        (subst (λ (x : ℕ). Lexes (at + 1 + n) (drop n w) (next_from x (at + 1) w)) {x = n} {y = e - (at + 1)} (omega arith)
        (ih n (let z = l.within in omega arith))))

-- in a whole text, from any offset on
pub lexed-right : (t : List ℕ) (at : ℕ) → Lexes at (drop at t) (lexed_at t at)
unfolding lexed_at
lexed-right t at =
    subst (λ (x : ℕ). Lexes x (drop at t) (next_from 0 at (drop at t))) {x = at + 0} {y = at} (omega arith)
    (next-lexes (drop at t) 0 at (omega arith))

pub lexed-only : (t : List ℕ) (at : ℕ) (r : Lexed) → Lexes at (drop at t) r → r ≡ lexed_at t at
unfolding lexed_at
lexed-only t at r h = next-only h

-- two answers that are right are the same
pub lexed-once : (t : List ℕ) (at : ℕ) (r r' : Lexed) → Lexes at (drop at t) r → Lexes at (drop at t) r' → r ≡ r'
lexed-once t at r r' h k = lexed-only t at r h ∙ sym (lexed-only t at r' k)

-- the tokens of a text, from what is next and the tokens after it
tokens-next-from : {at : ℕ} {u : List ℕ} {r : Lexed} → Lexes at u r → (t : List ℕ) → u ≡ drop at t → tokens_from 0 at u ≡ tokens_by t r
unfolding tokens_from tokens_at
tokens-next-from ends t e = refl
tokens-next-from (fails {at = at} {c = c} {w = w} f) t e =
    ap (λ (x : Option (Sort × ℕ)). with_piece x at (c ∷ w) (λ owed. tokens_from owed (at + 1) w)) (none_found at (c ∷ w) f)
tokens-next-from (drops {at = at} {n = n} {t = u} l g r) t e =
    tokens-piece at u gap n (longest-filled u n l) l.within (piece-found at u n gap l g)
    ∙ tokens-next-from r t (ap (drop n) e ∙ drop-drop n at t)
tokens-next-from (takes {at = at} {n = n} {t = u} {k = k} l i) t e =
    tokens-piece at u (token k) n (longest-filled u n l) l.within (piece-found at u n (token k) l i)
    ∙ ap (λ (x : List ℕ). adds (token k) (at + n) at x (tokens_from 0 (at + n) (drop n x))) e
    ∙ ap (λ (x : List ℕ). adds (token k) (at + n) at (drop at t) (tokens_from 0 (at + n) x)) (drop-drop n at t)

pub tokens-next : (t : List ℕ) (at : ℕ) → tokens_at t at ≡ tokens_by t (lexed_at t at)
unfolding tokens_at
tokens-next t at = tokens-next-from (lexed-right t at) t refl
