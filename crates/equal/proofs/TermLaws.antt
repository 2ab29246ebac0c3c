-- How a term or an atom that stands at a spot is read: every one is a list of a word, a name or number, and terms.
-- From document 01's table of words; all of it on the part of the file that starts at the spot.
use Prim.Native.Nat.{ℕ, ◌+◌, ◌≤◌}
use mathlib.Core.Path.{◌≡◌, refl, sym, ◌∙◌, ap, ap₂, subst}
use mathlib.Core.Bool.{Bool, true, false, false≢true}
use mathlib.Core.List.{List}
use native.Mathlib.Omega.{arith}
use lib.ListN.{length, drop}
use lib.Seq.{drop-drop}
use borrow.Author.Tests.{ltb-true, eq-eqb, ne_eqb}
use Rattle.basics.specs.Choice.{both_true}
use Rattle.basics.specs.Text.{octets}
use Rattle.harrop.specs.Formula.{Name, Term, Terms, Atom}
use Rattle.harrop.specs.Bindings.{Bindings, replaced, replaceds, same_name, same_term, same_terms}
use Rattle.harrop.proofs.SameLaws.{same-names-equal, equal-names-same}
use Rattle.packet.specs.Written.{word, term_sexp, term_sexps, atom_sexp}
use Rattle.packet.specs.Barred.{Holds, term_ok, terms_ok}
use Rattle.sexp.specs.Decimal.{decimal_onto, decimal}
use Rattle.sexp.specs.Words.{worth}
use Rattle.sexp.specs.Sexp.{Sexp, Sexps, str, cons, spell, Stands, StandsAll, nesting, nestings}
use Rattle.sexp.proofs.StandLaws.{members-stand, first-stands, others-stand, stands-once}
use Rattle.sexp.proofs.WordLaws.{worth-decimal}
use Rattle.equal.specs.Term.{is_written}

-- a part of a file: what stands in it stands in the file
pub part-stands : {s : List ℕ} {at : ℕ} {e : Sexp} → Stands s at e → Stands (drop at s) 0 e
part-stands h = record { rest = h.rest; spelt = h.spelt }

pub all-further : {s : List ℕ} (at n : ℕ) {xs : Sexps} → StandsAll (drop at s) n xs → StandsAll s (at + n) xs
all-further {s} at n h = record { rest = h.rest; spelt = sym (drop-drop n at s) ∙ h.spelt }

-- the word of a term, the name or number after it, and the terms after that
abbrev pub term_word : Term → List ℕ
term_word (Term.v i) = octets "v"
term_word (Term.f g ts) = octets "f"
term_word (Term.e k) = octets "e"

abbrev pub term_text : Term → List ℕ
term_text (Term.v i) = decimal i
term_text (Term.f g ts) = g
term_text (Term.e k) = decimal k

abbrev pub term_rest : Term → Terms
term_rest (Term.v i) = Terms.nil
term_rest (Term.f g ts) = ts
term_rest (Term.e k) = Terms.nil

pub term-shape : (t : Term) → term_sexp t ≡ word (term_word t) (cons (str (term_text t)) (term_sexps (term_rest t)))
term-shape (Term.v i) = refl
term-shape (Term.f g ts) = refl
term-shape (Term.e k) = refl

pub word-length : (t : Term) → length (spell (str (term_word t))) ≡ 3
unfolding decimal_onto
word-length (Term.v i) = refl
word-length (Term.f g ts) = refl
word-length (Term.e k) = refl

atom-word-length : length (spell (str (octets "atom"))) ≡ 6
unfolding decimal_onto
atom-word-length = refl

-- a list of a word of n bytes, a string and more, at the start of a part
module _ {s : List ℕ} (w x : List ℕ) (xs : Sexps) (n : ℕ) (long : length (spell (str w)) ≡ n) (h : Stands s 0 (word w (cons (str x) xs))) where
  pub list-word : Stands s 1 (str w)
  list-word = first-stands (members-stand h)

  after-word : StandsAll s (1 + n) (cons (str x) xs)
  after-word = subst (λ (k : ℕ). StandsAll s (1 + k) (cons (str x) xs)) long (others-stand (members-stand h))

  pub list-text : Stands s (1 + n) (str x)
  list-text = first-stands after-word

  pub list-rest : StandsAll s (1 + n + length (spell (str x))) xs
  list-rest = others-stand after-word

module _ {s : List ℕ} (t : Term) (h : Stands s 0 (term_sexp t)) where
  shaped : Stands s 0 (word (term_word t) (cons (str (term_text t)) (term_sexps (term_rest t))))
  shaped = subst (λ (e : Sexp). Stands s 0 e) (term-shape t) h

  pub term-word : Stands s 1 (str (term_word t))
  term-word = list-word (term_word t) (term_text t) (term_sexps (term_rest t)) 3 (word-length t) shaped

  pub term-text : Stands s 4 (str (term_text t))
  term-text = list-text (term_word t) (term_text t) (term_sexps (term_rest t)) 3 (word-length t) shaped

  pub term-rest : StandsAll s (4 + length (spell (str (term_text t)))) (term_sexps (term_rest t))
  term-rest = list-rest (term_word t) (term_text t) (term_sexps (term_rest t)) 3 (word-length t) shaped

module _ {s : List ℕ} (p : Name) (ts : Terms) (h : Stands s 0 (atom_sexp (Atom.atom p ts))) where
  pub atom-text : Stands s 7 (str p)
  atom-text = list-text (octets "atom") p (term_sexps ts) 6 atom-word-length h

  pub atom-rest : StandsAll s (7 + length (spell (str p))) (term_sexps ts)
  atom-rest = list-rest (octets "atom") p (term_sexps ts) 6 atom-word-length h

-- only one string stands at an offset
pub text-once : {s : List ℕ} {at : ℕ} {x y : List ℕ} → Stands s at (str x) → Stands s at (str y) → x ≡ y
text-once {x = x} {y = y} h g = let e = stands-once h g in cc

-- two decimal numbers are the same if the numbers are
pub decimal-same : (k m : ℕ) → decimal k ≡ decimal m → k ≡ m
decimal-same k m e = sym (worth-decimal k) ∙ ap worth e ∙ worth-decimal m

-- names that are not equal are not the same
pub names-differ : (g h : Name) → (g ≡ h → ⊥) → same_name g h ≡ false
names-differ g h w = go (same_name g h) refl
  where
    go : (b : Bool) → same_name g h ≡ b → b ≡ false
    go true e = absurd (w (same-names-equal g h e))
    go false e = refl

-- two written terms: their words, the names or numbers, and the terms after them
module _ (cs : List Term) (bs ds : Bindings) where
  pub written_same : (t u : Term) → is_written t ≡ true → is_written u ≡ true → term_word t ≡ term_word u → term_text t ≡ term_text u
      → same_term (replaced cs bs t) (replaced cs ds u) ≡ same_terms (replaceds cs bs (term_rest t)) (replaceds cs ds (term_rest u))
  written_same (Term.v i) u p q w x = absurd (false≢true p)
  written_same (Term.f g ts) (Term.v j) p q w x = absurd (false≢true q)
  written_same (Term.f g ts) (Term.f h us) p q w x = rw (equal-names-same g h x) refl
  written_same (Term.f g ts) (Term.e m) p q w x = let z : ◌≡◌ {A = ℕ} 101 102 = cc in absurd (omega arith)
  written_same (Term.e k) (Term.v j) p q w x = absurd (false≢true q)
  written_same (Term.e k) (Term.f h us) p q w x = let z : ◌≡◌ {A = ℕ} 101 102 = cc in absurd (omega arith)
  written_same (Term.e k) (Term.e m) p q w x = eq-eqb k m (decimal-same k m x)

  pub words-differ : (t u : Term) → is_written t ≡ true → is_written u ≡ true → (term_word t ≡ term_word u → ⊥) → same_term (replaced cs bs t) (replaced cs ds u) ≡ false
  words-differ (Term.v i) u p q w = absurd (false≢true p)
  words-differ (Term.f g ts) (Term.v j) p q w = absurd (false≢true q)
  words-differ (Term.f g ts) (Term.f h us) p q w = absurd (w refl)
  words-differ (Term.f g ts) (Term.e m) p q w = refl
  words-differ (Term.e k) (Term.v j) p q w = absurd (false≢true q)
  words-differ (Term.e k) (Term.f h us) p q w = refl
  words-differ (Term.e k) (Term.e m) p q w = absurd (w refl)

  pub texts-differ : (t u : Term) → is_written t ≡ true → is_written u ≡ true → (term_text t ≡ term_text u → ⊥) → same_term (replaced cs bs t) (replaced cs ds u) ≡ false
  texts-differ (Term.v i) u p q w = absurd (false≢true p)
  texts-differ (Term.f g ts) (Term.v j) p q w = absurd (false≢true q)
  texts-differ (Term.f g ts) (Term.f h us) p q w = rw (names-differ g h w) refl
  texts-differ (Term.f g ts) (Term.e m) p q w = refl
  texts-differ (Term.e k) (Term.v j) p q w = absurd (false≢true q)
  texts-differ (Term.e k) (Term.f h us) p q w = refl
  texts-differ (Term.e k) (Term.e m) p q w = ne_eqb k m (λ e. w (ap decimal e))

  -- the terms after it nest less
  pub rest-less : (t : Term) → is_written t ≡ true → nestings (term_sexps (replaceds cs bs (term_rest t))) + 1 ≤ nesting (term_sexp (replaced cs bs t))
  rest-less (Term.v i) p = absurd (false≢true p)
  rest-less (Term.f g ts) p = omega arith
  rest-less (Term.e k) p = omega arith

-- the terms after it are as it is
pub rest-shallow : (t : Term) → nestings (term_sexps (term_rest t)) ≤ nesting (term_sexp t)
rest-shallow (Term.v i) = omega arith
rest-shallow (Term.f g ts) = omega arith
rest-shallow (Term.e k) = omega arith

pub rest_ok : (holds : Holds) (n : ℕ) (t : Term) → term_ok holds n t ≡ true → terms_ok holds n (term_rest t) ≡ true
rest_ok holds n (Term.v i) e = refl
rest_ok holds n (Term.f g ts) e = e
rest_ok holds n (Term.e k) e = refl

-- a term without variables stays as it is
mutual
  pub closed-stays : (cs : List Term) (bs : Bindings) (holds : Holds) (t : Term) → term_ok holds 0 t ≡ true → replaced cs bs t ≡ t
  closed-stays cs bs holds (Term.v i) e = let z = ltb-true i 0 e in absurd (omega arith)
  closed-stays cs bs holds (Term.f g ts) e = ap (Term.f g) (all_stay cs bs holds ts e)
  closed-stays cs bs holds (Term.e k) e = refl

  pub all_stay : (cs : List Term) (bs : Bindings) (holds : Holds) (ts : Terms) → terms_ok holds 0 ts ≡ true → replaceds cs bs ts ≡ ts
  all_stay cs bs holds Terms.nil e = refl
  all_stay cs bs holds (Terms.cons t ts) e =
      let (a, b) = both_true (term_ok holds 0 t) (terms_ok holds 0 ts) e in
      ap₂ Terms.cons (closed-stays cs bs holds t a) (all_stay cs bs holds ts b)

pub closed-written : (holds : Holds) (t : Term) → term_ok holds 0 t ≡ true → is_written t ≡ true
closed-written holds (Term.v i) e = let z = ltb-true i 0 e in absurd (omega arith)
closed-written holds (Term.f g ts) e = refl
closed-written holds (Term.e k) e = refl
