-- The piece after its first byte, and the piece as a whole.
use Prim.Native.Nat.{ℕ, ◌+◌, ◌<◌, ◌≤◌}
use mathlib.Core.Path.{◌≡◌, refl, sym, ◌∙◌, ap, ap₂}
use mathlib.Core.Bool.{Bool, true, false}
use mathlib.Core.List.{List, []}
use mathlib.Core.Option.{Option, none, some}
use lib.Dec.{eqb}
use lib.ListN.{length, drop, get_or}
use borrow.Author.Tests.{eqb-true}
use Rattle.basics.specs.Choice.{◌>>=◌, or_else}
use Rattle.fof_tokens.specs.declared.Kind.{Kind}
use Rattle.fof_tokens.specs.declared.Kind.TheVariants as kind
use Rattle.std.specs.Prelude as std
use Rattle.fof_tokens.specs.declared.first.First.{First}
use Rattle.fof_tokens.specs.declared.first.First.TheVariants as first
use Rattle.fof_tokens.specs.Bytes.{is_space, is_alnum, is_sign, is_exponent, is_plain, in_line}
use Rattle.fof_tokens.specs.Rule.{Rule, never}
use Rattle.fof_tokens.specs.Cuts.{block}
use Rattle.fof_tokens.specs.Machine.{after, Sort, gap, token, step, ended, note, scan, soonest}
use Rattle.fof_tokens.specs.Runs.{span}
use Rattle.fof_tokens.specs.Next.{table, block_at, piece_at}
use Rattle.fof_tokens.specs.Begins.{comment_text, comment_star, in_word, dollars, in_quotes, quote_open, unsigned, in_decimal, after_decimal, one_more, after_minus, after_tilde, after_less, begun, is_slash, Begins, rest_of}
use Rattle.fof_tokens.proofs.ScanLaws.{scan-end, halts, goes, full, run-full}
use Rattle.fof_tokens.specs.Found.{end_of, ending}
use Rattle.fof_tokens.proofs.GapLaws.{ending-bind, soon-end, soon-byte, soon-never}

-- after the first byte

pub rest-nothing : (at : ℕ) (t : List ℕ) → none ≡ rest_of first.Nothing at (drop at t)
unfolding rest_of begun
rest-nothing at t = sym (halts [] at none t refl)

pub rest-space : (at : ℕ) (t : List ℕ) → some (gap, at) ≡ rest_of first.Space at (drop at t)
unfolding rest_of begun
rest-space at t = sym (full gap at none (drop at t))

pub rest-line : (at e : ℕ) (t : List ℕ) → e ≡ at + span in_line (drop at t) → some (gap, e) ≡ rest_of first.Percent at (drop at t)
unfolding rest_of begun
rest-line at e t q = sym (run-full in_line gap t at e none q)

pub rest-word : (k : Kind) (at e : ℕ) (t : List ℕ) → e ≡ at + span is_alnum (drop at t) → some (token k, e) ≡ rest_of (first.Letter k) at (drop at t)
unfolding rest_of begun in_word
rest-word k at e t q = sym (run-full is_alnum (token k) t at e none q)

pub rest-single : (k : Kind) (at : ℕ) (t : List ℕ) → some (token k, at) ≡ rest_of (first.Single k) at (drop at t)
unfolding rest_of begun
rest-single k at t = sym (full (token k) at none (drop at t))

-- a block comment, if it ends
pub rest-slash : (e : std.Option ℕ) (at : ℕ) (t : List ℕ) → end_of e ≡ soonest comment_star at t → ending e gap none ≡ rest_of first.Slash at t
unfolding rest_of
rest-slash e at t q = ending-bind e gap ∙ ap (λ (o : Option ℕ). o >>= λ x. some (gap, x)) q

pub rest-quote : (at : ℕ) (t : List ℕ) → scan quote_open at none t ≡ rest_of first.Quote at t
unfolding rest_of begun
rest-quote at t = refl

pub rest-double-quote : (at : ℕ) (t : List ℕ) → scan (in_quotes 34 (token kind.Distinct)) at none t ≡ rest_of first.DoubleQuote at t
unfolding rest_of begun
rest-double-quote at t = refl

pub rest-dollar : (at : ℕ) (t : List ℕ) → scan dollars at none t ≡ rest_of first.Dollar at t
unfolding rest_of begun
rest-dollar at t = refl

pub rest-zero : (at : ℕ) (t : List ℕ) → scan after_decimal at none t ≡ rest_of first.Zero at t
unfolding rest_of begun
rest-zero at t = refl

pub rest-nonzero : (at : ℕ) (t : List ℕ) → scan in_decimal at none t ≡ rest_of first.Nonzero at t
unfolding rest_of begun
rest-nonzero at t = refl

pub rest-plus : (at : ℕ) (t : List ℕ) → scan unsigned at none t ≡ rest_of first.Plus at t
unfolding rest_of begun
rest-plus at t = refl

pub rest-minus : (at : ℕ) (t : List ℕ) → scan after_minus at none t ≡ rest_of first.Minus at t
unfolding rest_of begun
rest-minus at t = refl

pub rest-double : (short : Kind) (more : ℕ) (long : Kind) (at : ℕ) (t : List ℕ) → scan (one_more short more long) at none t ≡ rest_of (first.Double short more long) at t
unfolding rest_of begun
rest-double short more long at t = refl

pub rest-tilde : (at : ℕ) (t : List ℕ) → scan after_tilde at none t ≡ rest_of first.Tilde at t
unfolding rest_of begun
rest-tilde at t = refl

pub rest-less : (at : ℕ) (t : List ℕ) → scan after_less at none t ≡ rest_of first.Less at t
unfolding rest_of begun
rest-less at t = refl

-- a byte that is such
pub rest-is : (f f' : First) (at : ℕ) (t : List ℕ) → f ≡ f' → rest_of f' at t ≡ rest_of f at t
rest-is f f' at t e = ap (λ (x : First). rest_of x at t) (sym e)

-- the piece as a whole

pub piece-none : (at : ℕ) (t : List ℕ) → length t ≤ at → none ≡ piece_at at (drop at t)
unfolding piece_at is_space
piece-none at t h = sym (ap₂ (λ (x : Option ℕ) (y : Option (Sort × ℕ)). or_else (x >>= λ e. some (gap, e)) y)
    (soon-end block at t refl h) (scan-end table at none t h))

or-none : {A : Type 0} (o : Option A) → or_else o none ≡ o
or-none none = refl
or-none (some a) = refl

block-other : (c : ℕ) → eqb c 47 ≡ false → after c block ≡ never
block-other c e = rw e refl

table-open : ended table ≡ none
unfolding is_space
table-open = refl

no_slash : step 47 table ≡ []
unfolding is_space is_sign is_exponent is_plain
no_slash = refl

after-slash : after 47 block ≡ comment_star
unfolding comment_star comment_text
after-slash = refl

-- a slash, or another byte
pub piece-begun : (f : First) (at : ℕ) (t : List ℕ) → at < length t → Begins (get_or t at 0) f → rest_of f (at + 1) (drop (at + 1) t) ≡ piece_at at (drop at t)
unfolding Begins rest_of piece_at
piece-begun f at t l (e, s) = go (is_slash f) refl
  where
    found : scan table at none (drop at t) ≡ scan (begun f) (at + 1) none (drop (at + 1) t)
    found = goes table (begun f) at none t l e ∙ ap (λ (o : Option Sort). scan (begun f) (at + 1) (note o at none) (drop (at + 1) t)) table-open

    slash : is_slash f ≡ true → get_or t at 0 ≡ 47
    slash q = eqb-true (get_or t at 0) 47 (s ∙ q)

    go : (b : Bool) → is_slash f ≡ b →
        elim b as (λ x. Option (Sort × ℕ)) [ true ↦ (soonest comment_star (at + 1) (drop (at + 1) t) >>= λ e. some (gap, e)) | false ↦ scan (begun f) (at + 1) none (drop (at + 1) t) ]
        ≡ or_else (block_at at (drop at t)) (scan table at none (drop at t))
    go true q = sym (ap₂ (λ (x : Option ℕ) (y : Option (Sort × ℕ)). or_else (x >>= λ e. some (gap, e)) y)
        (soon-byte block at t refl l ∙ ap (λ (c : ℕ). soonest (after c block) (at + 1) (drop (at + 1) t)) (slash q) ∙ ap (λ (r : Rule). soonest r (at + 1) (drop (at + 1) t)) after-slash)
        (halts table at none t (ap (λ (c : ℕ). step c table) (slash q) ∙ no_slash) ∙ ap (λ (o : Option Sort). note o at none) table-open)
        ∙ or-none (soonest comment_star (at + 1) (drop (at + 1) t) >>= λ e. some (gap, e)))
    go false q = sym (ap₂ (λ (x : Option ℕ) (y : Option (Sort × ℕ)). or_else (x >>= λ e. some (gap, e)) y)
        (soon-byte block at t refl l
        ∙ ap (λ (r : Rule). soonest r (at + 1) (drop (at + 1) t)) (block-other (get_or t at 0) (s ∙ q))
        ∙ soon-never (at + 1) (drop (at + 1) t))
        found)
