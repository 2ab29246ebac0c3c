-- `sound` says yes exactly of the texts that are `fof` lines by the grammar: so refusal 12 is given exactly if the whole text is no list of fof lines (document 02, request One).
use Prim.Native.Nat.{ℕ, ◌<◌, ◌≤◌}
use mathlib.Core.Path.{◌≡◌, refl, sym, ◌∙◌, ap, subst}
use mathlib.Core.Bool.{Bool, true, false, ◌&&◌, and-false}
use mathlib.Core.Logic.{◌↔◌}
use mathlib.Core.List.{List, [], ◌∷◌, map}
use mathlib.Core.Option.{Option, none, some}
use lib.Dec.{leb}
use lib.ListN.{length}
use borrow.Author.Tests.{lt-leb, le-leb}
use Rattle.basics.specs.Tells.{Tells, tells_as, tells-once, told-no}
use Rattle.fof_tokens.specs.Token.{Token}
use Rattle.fof_tokens.specs.Next.{tokens}
use Rattle.fof_tokens.proofs.CutsLaws.{tokens-right, cut-once, no-tokens}
use Rattle.grammar.specs.Derives.{any, Derives}
use Rattle.grammar.specs.Machine.{accepts}
use Rattle.grammar.proofs.Machine.{accepts-exactly}
use Rattle.fof_productions.specs.Name.{file}
use Rattle.fof_productions.specs.Grammar.{productions}
use Rattle.fof_productions.specs.Decided.{decided}
use Rattle.fof_productions.specs.Sound.{terminal_of, Sound, sound, sound_tokens, sound_book}
use Rattle.fof_productions.proofs.Once.{code-once}
use Rattle.fof_productions.proofs.Right.{rightly}
use Rattle.fof_productions.proofs.Same.{tells-published}

abbrev Derived : List Token → Type 0
Derived ts = Derives productions (any file ∷ []) (map terminal_of ts)

pub sound-exactly : (text : List ℕ) → Tells (sound text) (Sound text)
unfolding sound
sound-exactly text = go (tokens text) refl
  where
    go : (o : Option (List Token)) → tokens text ≡ o → Tells (sound_tokens o) (Sound text)
    go none e = λ s. (no-tokens text).0 e s.cut s.cuts
    go (some ts) e =
        tells_as (accepts decided file (map terminal_of ts)) (λ t. record { cut = ts; cuts = (tokens-right text ts).0 e; derived = t })
        (λ s. subst Derived (cut-once text s.cut ts s.cuts ((tokens-right text ts).0 e)) s.derived)
        (tells-published (accepts decided file (map terminal_of ts)) (any file ∷ []) (map terminal_of ts)
        (accepts-exactly decided code-once rightly file (map terminal_of ts) refl))

-- 12 exactly if the whole text is no list of fof lines by the grammar
pub refused-exactly : (text : List ℕ) → (sound text ≡ false) ↔ (Sound text → ⊥)
refused-exactly text = (λ e. told-no e (sound-exactly text), λ h. go (sound text) (sound-exactly text) h)
  where
    go : (b : Bool) → Tells b (Sound text) → (Sound text → ⊥) → b ≡ false
    go true s h = absurd (h s)
    go false s h = refl

-- the answer on a text: too long, without tokens, or as its tokens are derived
pub too_long : (text : List ℕ) → 16384 < length text → false ≡ sound_book text
unfolding sound_book
too_long text h = ap (λ (b : Bool). b && sound text) (sym (lt-leb (length text) 16384 h))

pub not-cut : (text : List ℕ) → tokens text ≡ none → false ≡ sound_book text
unfolding sound_book sound
not-cut text e =
    sym (and-false (leb (length text) 16384)) ∙ ap (λ (o : Option (List Token)). leb (length text) 16384 && sound_tokens o) (sym e)

pub cut-derived : (text : List ℕ) (ts : List Token) (r : Bool) → length text ≤ 16384 → tokens text ≡ some ts → Tells r (Derived ts) → r ≡ sound_book text
unfolding sound_book sound
cut-derived text ts r l e h =
    tells-once (Derived ts) r (accepts decided file (map terminal_of ts)) h
    (tells-published (accepts decided file (map terminal_of ts)) (any file ∷ []) (map terminal_of ts)
    (accepts-exactly decided code-once rightly file (map terminal_of ts) refl))
    ∙ ap (λ (o : Option (List Token)). sound_tokens o) (sym e)
    ∙ ap (λ (b : Bool). b && sound_tokens (tokens text)) (sym (le-leb (length text) 16384 l))
