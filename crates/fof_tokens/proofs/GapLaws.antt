-- Block comments along a text: where one first can end.
use Prim.Native.Nat.{ℕ, suc, ◌+◌, ◌<◌, ◌≤◌}
use mathlib.Core.Path.{◌≡◌, refl, sym, ◌∙◌, ap}
use mathlib.Core.Bool.{Bool, true, false, ◌&&◌}
use mathlib.Core.List.{List, [], ◌∷◌}
use mathlib.Core.Option.{Option, none, some}
use native.Mathlib.Omega.{arith}
use lib.Dec.{eqb}
use lib.ListN.{length, drop, get_or, drop_of_length-le}
use lib.Seq.{drop-cons}
use borrow.Author.Tests.{eq-eqb, ne_eqb, eqb-true}
use Rattle.basics.specs.Choice.{◌>>=◌, choose, both_true}
use Rattle.std.specs.Prelude.{Some, None}
use Rattle.std.specs.Prelude as std
use Rattle.fof_tokens.specs.Rule.{Rule, never, just, ◌∣◌}
use Rattle.fof_tokens.specs.Machine.{may_end, after, Sort, soonest}
use Rattle.fof_tokens.specs.Begins.{comment_text, comment_star}
use Rattle.fof_tokens.specs.Found.{end_of, ending}
use Rattle.fof_tokens.proofs.ScanLaws.{at-text, inside-text}

-- where something ends, or nothing is found
pub ending-bind : (e : std.Option ℕ) (s : Sort) → ending e s none ≡ (end_of e >>= λ x. some (s, x))
ending-bind (Some e) s = refl
ending-bind None s = refl

-- along a text

pub soon-end : (r : Rule) (i : ℕ) (t : List ℕ) → may_end r ≡ false → length t ≤ i → soonest r i (drop i t) ≡ none
unfolding soonest
soon-end r i t m h =
    ap (λ (x : List ℕ). soonest r i x) (drop_of_length-le t {i = i} h) ∙ ap (λ (b : Bool). choose b (some i) none) m

pub soon-byte : (r : Rule) (i : ℕ) (t : List ℕ) → may_end r ≡ false → i < length t →
    soonest r i (drop i t) ≡ soonest (after (get_or t i 0) r) (i + 1) (drop (i + 1) t)
unfolding soonest
soon-byte r i t m h =
    ap (λ (x : List ℕ). soonest r i x) (drop-cons t i 0 h)
    ∙ ap (λ (b : Bool). elim b as (λ x. Option ℕ) [ true ↦ some i | false ↦ soonest (after (get_or t i 0) r) (i + 1) (drop (suc i) t) ]) m
    ∙ ap (λ (x : ℕ). soonest (after (get_or t i 0) r) (i + 1) (drop x t)) {x = suc i} {y = i + 1} (omega arith)

soon-now : (r : Rule) (i : ℕ) (w : List ℕ) → may_end r ≡ true → soonest r i w ≡ some i
unfolding soonest
soon-now r i [] m = ap (λ (b : Bool). choose b (some i) none) m
soon-now r i (c ∷ w) m = ap (λ (b : Bool). elim b as (λ x. Option ℕ) [ true ↦ some i | false ↦ soonest (after c r) (i + 1) w ]) m

pub soon-never : (i : ℕ) (w : List ℕ) → soonest never i w ≡ none
unfolding soonest
soon-never i [] = refl
soon-never i (c ∷ w) = soon-never (i + 1) w

-- the text of a comment: after a star the slash may come, or all goes on as before
starred : Rule
starred = comment_text ∣ just 47

after-other : (c : ℕ) → eqb c 42 ≡ false → after c comment_text ≡ comment_text
unfolding comment_text
after-other c e = rw e refl

after-star : after 42 comment_text ≡ starred
unfolding comment_text starred
after-star = refl

starred-on : (c : ℕ) → eqb c 47 ≡ false → after c starred ≡ after c comment_text
unfolding starred comment_text
starred-on c e = go (eqb c 42) refl
  where
    go : (b : Bool) → eqb c 42 ≡ b → after c starred ≡ after c comment_text
    go true f = rw f (rw e refl)
    go false f = rw f (rw e refl)

starred-shut : may_end (after 47 starred) ≡ true
unfolding starred comment_text
starred-shut = refl

text-open : may_end comment_text ≡ false
unfolding comment_text
text-open = refl

starred-open : may_end starred ≡ false
unfolding starred comment_text
starred-open = refl

starred-as : (i : ℕ) (t : List ℕ) → eqb (get_or t i 0) 47 ≡ false → soonest starred i (drop i t) ≡ soonest comment_text i (drop i t)
starred-as i t e = at-text (soonest starred i (drop i t) ≡ soonest comment_text i (drop i t)) t i
    (λ h. soon-byte starred i t starred-open h
    ∙ ap (λ (x : Rule). soonest x (i + 1) (drop (i + 1) t)) (starred-on (get_or t i 0) e)
    ∙ sym (soon-byte comment_text i t text-open h))
    (λ h. soon-end starred i t starred-open h ∙ sym (soon-end comment_text i t text-open h))

pub text-none : (i : ℕ) (t : List ℕ) → length t ≤ i → soonest comment_text i (drop i t) ≡ none
text-none i t h = soon-end comment_text i t text-open h

pub text-more : (i : ℕ) (t : List ℕ) → i < length t → eqb (get_or t i 0) 42 && eqb (get_or t (i + 1) 0) 47 ≡ false →
    soonest comment_text i (drop i t) ≡ soonest comment_text (i + 1) (drop (i + 1) t)
text-more i t h e = soon-byte comment_text i t text-open h ∙ go (eqb (get_or t i 0) 42) refl
  where
    go : (b : Bool) → eqb (get_or t i 0) 42 ≡ b →
        soonest (after (get_or t i 0) comment_text) (i + 1) (drop (i + 1) t) ≡ soonest comment_text (i + 1) (drop (i + 1) t)
    go false f = ap (λ (x : Rule). soonest x (i + 1) (drop (i + 1) t)) (after-other (get_or t i 0) f)
    go true f =
        ap (λ (x : ℕ). soonest (after x comment_text) (i + 1) (drop (i + 1) t)) (eqb-true (get_or t i 0) 42 f)
        ∙ ap (λ (x : Rule). soonest x (i + 1) (drop (i + 1) t)) after-star
        ∙ starred-as (i + 1) t (ap (λ (x : Bool). x && eqb (get_or t (i + 1) 0) 47) (sym f) ∙ e)

pub text-shuts : (i : ℕ) (t : List ℕ) → eqb (get_or t i 0) 42 && eqb (get_or t (i + 1) 0) 47 ≡ true → soonest comment_text i (drop i t) ≡ some (i + 2)
text-shuts i t e =
    let (f, g) = both_true (eqb (get_or t i 0) 42) (eqb (get_or t (i + 1) 0) 47) e in
    let star = eqb-true (get_or t i 0) 42 f in
    let slash = eqb-true (get_or t (i + 1) 0) 47 g in
    soon-byte comment_text i t text-open (inside-text t i (λ z. absurd (omega arith)))
    ∙ ap (λ (x : ℕ). soonest (after x comment_text) (i + 1) (drop (i + 1) t)) star
    ∙ ap (λ (x : Rule). soonest x (i + 1) (drop (i + 1) t)) after-star
    ∙ soon-byte starred (i + 1) t starred-open (inside-text t (i + 1) (λ z. absurd (omega arith)))
    ∙ ap (λ (x : ℕ). soonest (after x starred) (i + 1 + 1) (drop (i + 1 + 1) t)) slash
    ∙ soon-now (after 47 starred) (i + 1 + 1) (drop (i + 1 + 1) t) starred-shut
    ∙ ap (λ (x : ℕ). some x) {x = i + 1 + 1} {y = i + 2} (omega arith)

-- the star that must come first
pub star-none : (at : ℕ) (t : List ℕ) → (get_or t at 0 ≡ 42 → ⊥) → none ≡ soonest comment_star at (drop at t)
unfolding comment_star
star-none at t n = sym (at-text (soonest comment_star at (drop at t) ≡ none) t at
    (λ h. soon-byte comment_star at t refl h
    ∙ ap (λ (x : Rule). soonest x (at + 1) (drop (at + 1) t)) {x = after (get_or t at 0) comment_star} {y = never} (rw (ne_eqb (get_or t at 0) 42 n) refl)
    ∙ soon-never (at + 1) (drop (at + 1) t))
    (λ h. soon-end comment_star at t refl h))

pub star-more : (at : ℕ) (t : List ℕ) → get_or t at 0 ≡ 42 → soonest comment_text (at + 1) (drop (at + 1) t) ≡ soonest comment_star at (drop at t)
unfolding comment_star comment_text
star-more at t e = sym (soon-byte comment_star at t refl (inside-text t at (λ z. absurd (omega arith)))
    ∙ ap (λ (x : ℕ). soonest (after x comment_star) (at + 1) (drop (at + 1) t)) e)

-- the code's two tests
pub shuts-first : (t : List ℕ) (at b : ℕ) → b ≡ get_or t at 0 → (b ≡ 42 → ⊥) → false ≡ eqb (get_or t at 0) 42 && eqb (get_or t (at + 1) 0) 47
shuts-first t at b e n = rw (ne_eqb (get_or t at 0) 42 (λ z. n (e ∙ z))) refl

pub shuts-second : (t : List ℕ) (at b d : ℕ) → b ≡ get_or t at 0 → b ≡ 42 → d ≡ get_or t (at + 1) 0 → eqb d 47 ≡ (eqb (get_or t at 0) 42 && eqb (get_or t (at + 1) 0) 47)
shuts-second t at b d e h q = ap (λ (x : ℕ). eqb x 47) q ∙ ap (λ (x : Bool). x && eqb (get_or t (at + 1) 0) 47) (sym (eq-eqb (get_or t at 0) 42 (sym e ∙ h)))
