-- Where it is known what stands at an offset, each function's answer there is known. For callers that read bytes of which they know the expression.
use Prim.Native.Nat.{ℕ, ◌+◌, ◌≤◌}
use mathlib.Core.Path.{◌≡◌, refl, sym, ◌∙◌, ap, subst}
use mathlib.Core.Bool.{Bool, true, false, false≢true}
use mathlib.Core.List.{List}
use lib.ListN.{length, take, drop}
use Rattle.basics.specs.Tells.{Tells, tells-once, tells_as}
use Rattle.std.specs.Prelude.{Option, Some, None}
use Rattle.sexp.specs.Sexp.{Sexp, Sexps, str, hinted, list, cons, spell, nesting, Stands, StandsAll}
use Rattle.sexp.specs.Past.{Ends, PastAt}
use Rattle.sexp.specs.Strings.{Plain, PlainAt}
use Rattle.sexp.specs.Words.{is_name, is_number, worth}
use Rattle.sexp.specs.WordsAt.{Named, NumberAt}
use Rattle.sexp.proofs.StandLaws.{stands-once, string-once, first-stands, others-stand}
use Rattle.sexp.proofs.AnswerLaws.{past-answer, plain-answer}
use Rattle.sexp.proofs.WordsAtLaws.{test-tells, number-answer}

-- past an expression
pub found-past : (s : List ℕ) (at nest : ℕ) (r : Option ℕ) {e : Sexp} → Stands s at e → nesting e ≤ nest → PastAt s at nest r → r ≡ Some (at + length (spell e))
found-past s at nest r {e} h d p = past-answer s at nest r (Some (at + length (spell e))) p (record { expression = e; stands = h; shallow = d; ends = refl })

-- past a member of a list, to the others
pub ends-here : {s : List ℕ} {at nest n : ℕ} {e : Sexp} → Stands s at e → Ends s at nest n → n ≡ at + length (spell e)
ends-here {at} h p = p.ends ∙ ap (λ (e : Sexp). at + length (spell e)) (stands-once p.stands h)

pub ends-others : {s : List ℕ} {at nest n : ℕ} {x : Sexp} {xs : Sexps} → StandsAll s at (cons x xs) → Ends s at nest n → StandsAll s n xs
ends-others {s} {xs} h p = subst (λ (i : ℕ). StandsAll s i xs) (sym (ends-here (first-stands h) p)) (others-stand h)

-- a plain string, and what is none
pub found_plain : {s : List ℕ} {at b n : ℕ} {w : List ℕ} → Stands s at (str w) → Plain s at b n → (n ≡ length w) × (w ≡ take n (drop b s))
found_plain h p = let e = string-once p.stands h in (sym p.count ∙ ap length e, sym e ∙ p.lies)

is-string : Sexp → Bool
is-string (str w) = true
is-string (hinted t w) = false
is-string (list xs) = false

pub list-no-string : {s : List ℕ} {at : ℕ} {xs : Sexps} {w : List ℕ} → Stands s at (list xs) → Stands s at (str w) → ⊥
unfolding is-string
list-no-string h g = false≢true (ap is-string (stands-once h g))

pub list-no-plain : (s : List ℕ) (at : ℕ) (r : Option (ℕ × ℕ)) {xs : Sexps} → Stands s at (list xs) → PlainAt s at r → r ≡ None
list-no-plain s at r h p = plain-answer s at r None p (λ w g. list-no-string h g)

-- words, names and numbers
pub found_word : {s : List ℕ} {at : ℕ} {w : List ℕ} (v : List ℕ) (r : Bool) → Stands s at (str w) → Tells r (Stands s at (str v)) → Tells r (w ≡ v)
found_word {s} {at} v r h = tells_as r (λ g. string-once h g) (λ e. subst (λ (x : List ℕ). Stands s at (str x)) e h)

pub found_name : {s : List ℕ} {at : ℕ} {w : List ℕ} (r : Bool) → Stands s at (str w) → Tells r (Named s at) → r ≡ is_name w
found_name {s} {at} {w} r h p =
    tells-once (Named s at) r (is_name w) p
    (tells_as (is_name w)
    (λ e. record { octets = w; stands = h; name = e })
    (λ g. ap is_name (string-once h g.stands) ∙ g.name)
    (test-tells (is_name w) (is_name w) refl))

pub list-no-name : {s : List ℕ} {at : ℕ} {xs : Sexps} (r : Bool) → Stands s at (list xs) → Tells r (Named s at) → r ≡ false
list-no-name {s} {at} r h p = tells-once (Named s at) r false p (λ g. list-no-string h g.stands)

pub found_number : (s : List ℕ) (at : ℕ) (r : Option ℕ) {w : List ℕ} → Stands s at (str w) → is_number w ≡ true → NumberAt s at r → r ≡ Some (worth w)
found_number s at r {w} h e p = number-answer s at r (Some (worth w)) p (record { octets = w; stands = h; number = e; says = refl })

pub found-no-number : (s : List ℕ) (at : ℕ) (r : Option ℕ) {w : List ℕ} → Stands s at (str w) → is_number w ≡ false → NumberAt s at r → r ≡ None
found-no-number s at r h e p =
    number-answer s at r None p (λ v g f. false≢true (sym e ∙ ap is_number (string-once h g) ∙ f))

pub list-no-number : (s : List ℕ) (at : ℕ) (r : Option ℕ) {xs : Sexps} → Stands s at (list xs) → NumberAt s at r → r ≡ None
list-no-number s at r h p = number-answer s at r None p (λ v g f. list-no-string h g)
