-- Words behind dollars and text in quotes, along a text.
use Prim.Native.Nat.{ℕ, ◌+◌, ◌<◌, ◌≤◌}
use mathlib.Core.Path.{◌≡◌, refl, sym, ◌∙◌, ap}
use mathlib.Core.Bool.{Bool, true, false, ◌&&◌, not}
use mathlib.Core.List.{List, [], ◌∷◌}
use mathlib.Core.Option.{Option, none, some}
use mathlib.Core.Logic.{⊎_elim}
use native.Mathlib.Omega.{arith}
use lib.Dec.{eqb}
use lib.ListN.{length, drop, get_or}
use borrow.Author.Tests.{eqb-true, eq-eqb, ne_eqb}
use Rattle.fof_tokens.specs.declared.Kind.TheVariants as kind
use Rattle.fof_tokens.specs.Bytes.{within, is_small, is_alnum, is_plain, is_escaped}
use Rattle.fof_tokens.specs.Rule.{empty, byte, ◌▸◌, many, just}
use Rattle.fof_tokens.specs.Token.{lower_word, character}
use Rattle.fof_tokens.specs.Machine.{Sort, token, Row, step, scan}
use Rattle.fof_tokens.specs.Runs.{span}
use Rattle.fof_tokens.specs.Begins.{dollars, is_quote, in_quotes, quote_open}
use Rattle.fof_tokens.proofs.RuleLaws.{or-true}
use Rattle.fof_tokens.proofs.SortLaws.{inside}
use Rattle.fof_tokens.proofs.ScanLaws.{scan-end, halts, goes, alike, inside-text, full, run-full}
use Rattle.fof_tokens.proofs.SignLaws.{goes_by, two-on}
use Rattle.fof_tokens.proofs.NumberLaws.{in-text}

-- behind a dollar

small-not-dollar : (c : ℕ) → is_small c ≡ true → eqb c 36 ≡ false
small-not-dollar c h = let (x, y) = inside 97 122 c h in ne_eqb c 36 (λ e. absurd (omega arith))

pub dollar-word : (at e : ℕ) (t : List ℕ) → is_small (get_or t at 0) ≡ true → e ≡ at + 1 + span is_alnum (drop (at + 1) t) →
    some (token kind.Dollar, e) ≡ scan dollars at none (drop at t)
unfolding dollars
dollar-word at e t h q =
    sym (goes dollars ((token kind.Dollar, many (byte is_alnum)) ∷ []) at none t (in-text is_small t at (get_or t at 0) refl refl h)
    (rw h (rw (small-not-dollar (get_or t at 0) h) refl))
    ∙ run-full is_alnum (token kind.Dollar) t (at + 1) e none q)

pub dollar-none : (at : ℕ) (t : List ℕ) → is_small (get_or t at 0) ≡ false → (get_or t at 0 ≡ 36 → ⊥) → none ≡ scan dollars at none (drop at t)
unfolding dollars
dollar-none at t h n = sym (halts dollars at none t (rw h (rw (ne_eqb (get_or t at 0) 36 n) refl)))

second-dollar : (at : ℕ) (t : List ℕ) → get_or t at 0 ≡ 36 →
    scan dollars at none (drop at t) ≡ scan ((token kind.DoubleDollar, lower_word) ∷ []) (at + 1) none (drop (at + 1) t)
unfolding dollars
second-dollar at t h = goes_by dollars ((token kind.DoubleDollar, lower_word) ∷ []) at 36 none t (λ z. omega arith) h refl

pub dollars-none : (at : ℕ) (t : List ℕ) → get_or t at 0 ≡ 36 → is_small (get_or t (at + 1) 0) ≡ false → none ≡ scan dollars at none (drop at t)
dollars-none at t h k =
    sym (second-dollar at t h ∙ halts ((token kind.DoubleDollar, lower_word) ∷ []) (at + 1) none t (rw k refl))

pub dollars-word : (at e : ℕ) (t : List ℕ) → get_or t at 0 ≡ 36 → is_small (get_or t (at + 1) 0) ≡ true →
    e ≡ at + 2 + span is_alnum (drop (at + 2) t) → some (token kind.DoubleDollar, e) ≡ scan dollars at none (drop at t)
dollars-word at e t h k q =
    sym (second-dollar at t h
    ∙ goes ((token kind.DoubleDollar, lower_word) ∷ []) ((token kind.DoubleDollar, many (byte is_alnum)) ∷ []) (at + 1) none t
    (in-text is_small t (at + 1) (get_or t (at + 1) 0) refl refl k) (rw k refl)
    ∙ ap (λ (x : ℕ). scan ((token kind.DoubleDollar, many (byte is_alnum)) ∷ []) x none (drop x t)) (two-on at)
    ∙ run-full is_alnum (token kind.DoubleDollar) t (at + 2) e none q)

-- in quotes

pub not-backslash : (q : ℕ) → is_quote q ≡ true → q ≡ 92 → ⊥
not-backslash q h e = ⊎_elim (λ a. let z = eqb-true q 34 a in absurd (omega arith)) (λ a. let z = eqb-true q 39 a in absurd (omega arith)) (or-true (eqb q 34) (eqb q 39) h)

pub quote-filled : (q : ℕ) → is_quote q ≡ true → 0 < q
quote-filled q h = ⊎_elim (λ a. let z = eqb-true q 34 a in omega arith) (λ a. let z = eqb-true q 39 a in omega arith) (or-true (eqb q 34) (eqb q 39) h)

quote-not-plain : (q : ℕ) → is_plain q q ≡ false
unfolding is_plain
quote-not-plain q = rw (eq-eqb q q refl) (go (within 32 126 q))
  where
    go : (b : Bool) → b && not true && not (eqb q 92) ≡ false
    go true = refl
    go false = refl

backslash-not-plain : (q : ℕ) → is_plain q 92 ≡ false
unfolding is_plain
backslash-not-plain q = go (not (eqb 92 q))
  where
    go : (b : Bool) → true && b && false ≡ false
    go true = refl
    go false = refl

plain-is : (q c : ℕ) → within 32 126 c ≡ true → (c ≡ q → ⊥) → (c ≡ 92 → ⊥) → is_plain q c ≡ true
unfolding is_plain
plain-is q c h n m = rw h (rw (ne_eqb c q n) (rw (ne_eqb c 92 m) refl))

plain-not : (q c : ℕ) → within 32 126 c ≡ false → is_plain q c ≡ false
unfolding is_plain
plain-not q c h = rw h refl

pub quotes-shut : (q : ℕ) (s : Sort) (i : ℕ) (last : Option (Sort × ℕ)) (t : List ℕ) → is_quote q ≡ true → i < length t → get_or t i 0 ≡ q →
    scan (in_quotes q s) i last (drop i t) ≡ some (s, i + 1)
unfolding in_quotes
quotes-shut q s i last t h l e =
    goes (in_quotes q s) ((s, empty) ∷ []) i last t l
    (ap (λ (c : ℕ). step c (in_quotes q s)) e
    ∙ rw (quote-not-plain q) (rw (ne_eqb q 92 (not-backslash q h)) (rw (eq-eqb q q refl) refl)))
    ∙ full s (i + 1) last (drop (i + 1) t)

escape : ℕ → Sort → List Row
escape q s = (s, byte (is_escaped q) ▸ many (character q) ▸ just q) ∷ []

backslash-step : (q : ℕ) (s : Sort) (i : ℕ) (last : Option (Sort × ℕ)) (t : List ℕ) → i < length t → (get_or t i 0 ≡ q → ⊥) → get_or t i 0 ≡ 92 →
    scan (in_quotes q s) i last (drop i t) ≡ scan (escape q s) (i + 1) last (drop (i + 1) t)
unfolding in_quotes escape
backslash-step q s i last t l n e =
    goes (in_quotes q s) (escape q s) i last t l
    (ap (λ (c : ℕ). step c (in_quotes q s)) e ∙ rw (backslash-not-plain q) (rw (ne_eqb 92 q (λ z. n (e ∙ z))) refl))

pub quotes-escape-none : (q : ℕ) (s : Sort) (i : ℕ) (last : Option (Sort × ℕ)) (t : List ℕ) → i < length t → (get_or t i 0 ≡ q → ⊥) → get_or t i 0 ≡ 92 →
    is_escaped q (get_or t (i + 1) 0) ≡ false → scan (in_quotes q s) i last (drop i t) ≡ last
unfolding escape
quotes-escape-none q s i last t l n e h =
    backslash-step q s i last t l n e ∙ halts (escape q s) (i + 1) last t (rw h refl)

pub escaped-in-text : (q : ℕ) (t : List ℕ) (i b : ℕ) → is_quote q ≡ true → b ≡ get_or t i 0 → is_escaped q b ≡ true → i < length t
unfolding is_escaped
escaped-in-text q t i b h e k = ⊎_elim
    (λ a. inside-text t i (λ z. absurd (let y = eqb-true b 92 a in omega arith)))
    (λ a. inside-text t i (λ z. absurd (let y = eqb-true b q a in let x = quote-filled q h in omega arith)))
    (or-true (eqb b 92) (eqb b q) k)

pub quotes-escape : (q : ℕ) (s : Sort) (i : ℕ) (last : Option (Sort × ℕ)) (t : List ℕ) → is_quote q ≡ true → i < length t → (get_or t i 0 ≡ q → ⊥) →
    get_or t i 0 ≡ 92 → is_escaped q (get_or t (i + 1) 0) ≡ true → scan (in_quotes q s) i last (drop i t) ≡ scan (in_quotes q s) (i + 2) last (drop (i + 2) t)
unfolding escape in_quotes
quotes-escape q s i last t z l n e h =
    backslash-step q s i last t l n e
    ∙ goes (escape q s) (in_quotes q s) (i + 1) last t (escaped-in-text q t (i + 1) (get_or t (i + 1) 0) z refl h) (rw h refl)
    ∙ ap (λ (x : ℕ). scan (in_quotes q s) x last (drop x t)) (two-on i)

pub quotes-plain : (q : ℕ) (s : Sort) (i : ℕ) (last : Option (Sort × ℕ)) (t : List ℕ) → i < length t → (get_or t i 0 ≡ q → ⊥) → (get_or t i 0 ≡ 92 → ⊥) →
    within 32 126 (get_or t i 0) ≡ true → scan (in_quotes q s) i last (drop i t) ≡ scan (in_quotes q s) (i + 1) last (drop (i + 1) t)
unfolding in_quotes
quotes-plain q s i last t l n m h =
    goes (in_quotes q s) (in_quotes q s) i last t l
    (rw (plain-is q (get_or t i 0) h n m) (rw (ne_eqb (get_or t i 0) 92 m) (rw (ne_eqb (get_or t i 0) q n) refl)))

pub quotes-none : (q : ℕ) (s : Sort) (i : ℕ) (last : Option (Sort × ℕ)) (t : List ℕ) → (get_or t i 0 ≡ q → ⊥) → (get_or t i 0 ≡ 92 → ⊥) →
    within 32 126 (get_or t i 0) ≡ false → scan (in_quotes q s) i last (drop i t) ≡ last
unfolding in_quotes
quotes-none q s i last t n m h =
    halts (in_quotes q s) i last t
    (rw (plain-not q (get_or t i 0) h) (rw (ne_eqb (get_or t i 0) 92 m) (rw (ne_eqb (get_or t i 0) q n) refl)))

pub quotes-end : (q : ℕ) (s : Sort) (i : ℕ) (last : Option (Sort × ℕ)) (t : List ℕ) → length t ≤ i → scan (in_quotes q s) i last (drop i t) ≡ last
unfolding in_quotes
quotes-end q s i last t h = scan-end (in_quotes q s) i last t h

-- single quotes: not an empty text
pub quote-empty : (at : ℕ) (t : List ℕ) → get_or t at 0 ≡ 39 → none ≡ scan quote_open at none (drop at t)
unfolding quote_open
quote-empty at t e =
    sym (halts quote_open at none t (ap (λ (c : ℕ). step c quote_open) e ∙ rw (quote-not-plain 39) refl))

pub quote-as : (at : ℕ) (t : List ℕ) → (get_or t at 0 ≡ 39 → ⊥) →
    scan (in_quotes 39 (token kind.Quoted)) at none (drop at t) ≡ scan quote_open at none (drop at t)
unfolding quote_open in_quotes
quote-as at t n =
    alike (in_quotes 39 (token kind.Quoted)) quote_open at none none t (go (get_or t at 0) n (is_plain 39 (get_or t at 0)) refl (eqb (get_or t at 0) 92) refl) refl
  where
    go : (c : ℕ) → (c ≡ 39 → ⊥) → (a : Bool) → is_plain 39 c ≡ a → (b : Bool) → eqb c 92 ≡ b →
        step c (in_quotes 39 (token kind.Quoted)) ≡ step c quote_open
    go c n true e true f = rw (ne_eqb c 39 n) (rw e (rw f refl))
    go c n true e false f = rw (ne_eqb c 39 n) (rw e (rw f refl))
    go c n false e true f = rw (ne_eqb c 39 n) (rw e (rw f refl))
    go c n false e false f = rw (ne_eqb c 39 n) (rw e (rw f refl))
