-- The names of the fifth file of cases (second/src/make/names.rs) have one number, by the definition that the search's numbers are proved against (crate `keys`, specs/Key; document 02, Three).
-- Should that definition move, this is refused, and other names are to be found. Which names the file holds is the second program's to say.
use Prim.Native.Nat.{ℕ}
use mathlib.Core.Path.{◌≡◌, refl, ap, ap₂}
use Rattle.basics.specs.Text.{octets}
use Rattle.harrop.specs.Formula.{Term, Terms, Atom}
use Rattle.keys.specs.Key.{mix, more, text_from, text_key, term_key, predicate_key}

-- a first name, changed from each of the six places on, and from all of them
pub one_name : (text_key (octets "ccljlmmnkt") ≡ text_key (octets "bgfnkmmnkt")) × ((text_key (octets "bhbtgnmnkt") ≡ text_key (octets "bgfnkmmnkt")) × ((text_key (octets "bggjqinnkt") ≡ text_key (octets "bgfnkmmnkt")) × ((text_key (octets "bgfogsiokt") ≡ text_key (octets "bgfnkmmnkt")) × ((text_key (octets "bgfnlisjlt") ≡ text_key (octets "bgfnkmmnkt")) × ((text_key (octets "bgfnknitgu") ≡ text_key (octets "bgfnkmmnkt")) × ((text_key (octets "cdimkmlqhu") ≡ text_key (octets "bgfnkmmnkt"))))))))
unfolding more text_from
one_name = (refl, (refl, (refl, (refl, (refl, (refl, refl))))))

-- predicates of no argument, of one, two and three
pub one-predicate : (t u w : Term) → (predicate_key (Atom.atom (octets "hmkqrkmowv") (Terms.cons t Terms.nil)) ≡ predicate_key (Atom.atom (octets "bgfnkmmnkt") Terms.nil)) × ((predicate_key (Atom.atom (octets "vkjpkjpnfapj") (Terms.cons t (Terms.cons u Terms.nil))) ≡ predicate_key (Atom.atom (octets "bgfnkmmnkt") Terms.nil)) × (predicate_key (Atom.atom (octets "chfjproghnbl") (Terms.cons t (Terms.cons u (Terms.cons w Terms.nil)))) ≡ predicate_key (Atom.atom (octets "bgfnkmmnkt") Terms.nil)))
unfolding mix more text_from
one-predicate t u w = (refl, (refl, refl))

-- terms with the number 1: of a function of no argument, and of one and two such arguments
pub number-one : (t u : Term) → term_key t ≡ 1 → term_key u ≡ 1 → (term_key (Term.f (octets "tigqklimgqea") Terms.nil) ≡ 1) × ((term_key (Term.f (octets "qliklorketp") (Terms.cons t Terms.nil)) ≡ 1) × (term_key (Term.f (octets "gslnkqqlqubc") (Terms.cons t (Terms.cons u Terms.nil))) ≡ 1))
unfolding mix more text_from
number-one t u e k = (refl, (ap (λ (n : ℕ). mix (text_key (octets "qliklorketp")) n) e, ap₂ (λ (n m : ℕ). mix (mix (text_key (octets "gslnkqqlqubc")) n) m) e k))

-- and terms with the number of the first parameter
pub number-of-a-parameter : (t u : Term) → term_key t ≡ term_key (Term.e 1) → term_key u ≡ term_key (Term.e 1) → (term_key (Term.f (octets "kulsppjnjakgb") Terms.nil) ≡ term_key (Term.e 1)) × ((term_key (Term.f (octets "ighjkkjfpmzct") (Terms.cons t Terms.nil)) ≡ term_key (Term.e 1)) × (term_key (Term.f (octets "gwfpkpigytcdc") (Terms.cons t (Terms.cons u Terms.nil))) ≡ term_key (Term.e 1)))
unfolding mix more text_from
number-of-a-parameter t u e k = (refl, (ap (λ (n : ℕ). mix (text_key (octets "ighjkkjfpmzct")) n) e, ap₂ (λ (n m : ℕ). mix (mix (text_key (octets "gwfpkpigytcdc")) n) m) e k))
