-- A head beside an atom where some variables of the head's frame are unset: from what is read of the bytes to what is said of the two (document 02, Three).
-- A term that holds no unset variable is the same term whatever the frame becomes, so where it differs it differs for good; and a head that becomes the atom gives each of its arguments the atom's argument there, so an argument that is a variable decides what the variable is.
use Prim.Native.Nat.{ℕ, ◌+◌, ◌≤◌, ◌<◌}
use mathlib.Core.Path.{◌≡◌, refl, sym, ◌∙◌, ap, ap₂, subst}
use mathlib.Core.Bool.{Bool, true, false, ◌&&◌, ◌||◌, false≢true}
use mathlib.Core.List.{List}
use mathlib.Core.Option.{some}
use native.Mathlib.Omega.{arith}
use lib.Dec.{eqb}
use lib.ListN.{length, get_or, drop, get_elem?, length-drop}
use lib.Seq.{drop-drop}
use borrow.Author.Tests.{eqb-true, eqb-false, eq-eqb, ltb-true}
use Rattle.basics.specs.Choice.{both_true}
use Rattle.basics.specs.Tells.{Tells, told-yes, told-no}
use Rattle.basics.specs.Text.{octets}
use Rattle.harrop.specs.declared.Binding.TheVariants.{Candidate}
use Rattle.harrop.specs.Formula.{Name, Term, Terms, Atom}
use Rattle.harrop.specs.Bindings.{Bindings, meant, value_of, replaced, replaceds, replaced_atom, same_name, same_term, same_terms, same_atom}
use Rattle.harrop.proofs.ListLaws.{member_below, below-member}
use Rattle.harrop.proofs.SameLaws.{same-terms-equal}
use Rattle.std.specs.Option.{option_eq}
use Rattle.std.specs.Prelude.{Option, Some, None}
use Rattle.sexp.specs.Sexp.{Sexp, str, spell, Stands, StandsAll}
use Rattle.sexp.specs.Past.{PastAt}
use Rattle.sexp.specs.WordsAt.{Shared, NumberAt}
use Rattle.sexp.proofs.AnswerLaws.{past_next}
use Rattle.sexp.proofs.StandLaws.{stands-once, first-stands, others-stand, none-closes, more-stand, no-closing}
use Rattle.packet.specs.Barred.{term_ok, terms_ok}
use Rattle.packet.specs.File.{most_bytes}
use Rattle.packet.specs.Written.{term_sexp, term_sexps, atom_sexp}
use Rattle.room.specs.Layout.{levels}
use Rattle.room.specs.Spot.{bindings_at}
use Rattle.room.specs.Table.{CandidatesIn}
use Rattle.equal.specs.Term.{AtomAt, TermAt, SameTerms}
use Rattle.room.specs.Where.{plus, further}
use Rattle.room.specs.Files.{Files}
use Rattle.room.specs.declared.Spot.{Spot}
use Rattle.room.proofs.NestLaws.{replaced-nests}
use Rattle.equal.proofs.SeeLaws.{number_read, unread}
use Rattle.equal.proofs.TermLaws.{part-stands, term_word, term-word, term-text, atom-text, atom-rest, text-once, names-differ}
use Rattle.room.proofs.WhereLaws.{plus-inside}
use Rattle.heads.specs.Predicate.{bytes_at}
use Rattle.mentions.specs.Mentions.{insides, mentions_term, mentions_terms}
use Rattle.mentions.specs.Open.{is_open, asked, Becomes}
use Rattle.keys.proofs.WalkLaws.{candidate-meant, no-f-v, no-e-v}
use Rattle.unset.specs.declared.Forced.{Forced}
use Rattle.unset.specs.declared.Forced.TheVariants as F
use Rattle.held.specs.Held.{Holding}
use Rattle.unset.specs.Unset.{Small, MayBe, ForcedAs, Forces}
use Rattle.unset.specs.Beside.{IsVariable, VariableIs, BesideOf, BesideIs, BesideAt, SameIs, SameAs}
use Rattle.unset.specs.declared.Likeness.{Likeness}
use Rattle.unset.specs.declared.Likeness.TheVariants as L
use Rattle.unset.specs.Head.{LikeAs, Comparing, DiffersAt, NoneOf, CandidateOf, CandidateAt, is_variable, VariableAt, Row}

neither : (a b : Bool) → a || b ≡ false → (a ≡ false) × (b ≡ false)
neither true b e = absurd (false≢true (sym e))
neither false b e = (refl, e)

-- a term whose variables mean the same under two bindings, as far as they occur in it, is the same under both
module _ (us : List Term) (p : ℕ → Bool) (bs ds : Bindings) (h : (i : ℕ) → p i ≡ false → value_of us ds i ≡ value_of us bs i) where
  mutual
    term-settled : (t : Term) → mentions_term p t ≡ false → replaced us ds t ≡ replaced us bs t
    term-settled (Term.v i) e = h i e
    term-settled (Term.f g ts) e = ap (Term.f g) (terms-settled ts e)
    term-settled (Term.e k) e = refl

    terms-settled : (ts : Terms) → mentions_terms p ts ≡ false → replaceds us ds ts ≡ replaceds us bs ts
    terms-settled Terms.nil e = refl
    terms-settled (Terms.cons t ts) e =
        let (a, b) = neither (mentions_term p t) (mentions_terms p ts) e in
        ap (λ (z : Term). Terms.cons z (replaceds us ds ts)) (term-settled t a) ∙ ap (Terms.cons (replaced us bs t)) (terms-settled ts b)

-- so a term that holds no unset variable is the same whatever the frame becomes
pub settled : (us : List Term) (own : ℕ) (bs ds : Bindings) → Becomes us own bs ds → (t : Term) → mentions_term (insides 0 (asked own bs false 0)) t ≡ false → replaced us ds t ≡ replaced us bs t
unfolding asked
settled us own bs ds B t e = term-settled us (insides 0 (asked own bs false 0)) bs ds (λ i q. B i (neither (is_open own bs i) false q).0) t e

-- a test that is not a yes is a no, and so is one whose yes would bring another
pub never : (a : Bool) → (a ≡ true → ⊥) → a ≡ false
never true h = absurd (h refl)
never false h = refl

refuted : (a b : Bool) → (a ≡ true → b ≡ true) → b ≡ false → a ≡ false
refuted a b h e = never a (λ q. false≢true (sym e ∙ h q))

-- a term that is variable v
pub is-this : (v : ℕ) (t : Term) → is_variable v t ≡ true → t ≡ Term.v v
is-this v (Term.v n) e = ap Term.v (eqb-true n v e)
is-this v (Term.f g ts) e = absurd (false≢true e)
is-this v (Term.e m) e = absurd (false≢true e)

-- no candidate before the lowest that is a term means the same
pub lowest-means : (us : List Term) (w : Term) (n : ℕ) → get_elem? us n ≡ some w → NoneOf us n w → (i : ℕ) → i < n → meant us (Candidate i) ≡ meant us (Candidate n) → ⊥
lowest-means us w n m low i l e =
    let (t, k) = below-member us i (omega (arith, member_below us n w m)) in
    low i l (k ∙ ap some (candidate-meant us i t k ∙ e ∙ sym (candidate-meant us n w m)))

-- what is forced on a variable that becomes a term, by the lowest candidate that is the term
abbrev pub forced : Option ℕ → Forced
forced (Some n) = F.Candidate n
forced None = F.Never

forced-as : (us : List Term) (bs : Bindings) (b a : Atom) (v : ℕ) (w : Term) → ((ds : Bindings) → same_atom (replaced_atom us ds b) (replaced_atom us bs a) ≡ true → value_of us ds v ≡ w)
    → (r : Option ℕ) → CandidateOf us w r → ForcedAs us bs b a v (forced r)
forced-as us bs b a v w h (Some n) o = record { gives = λ ds e. h ds e ∙ candidate-meant us n w o.0; lowest = lowest-means us w n o.0 o.1 }
forced-as us bs b a v w h None o = λ ds n t m e.
    never (same_atom (replaced_atom us ds b) (replaced_atom us bs a)) (λ z. o n (member_below us n t m) (m ∙ ap some (sym e ∙ h ds z)))

-- a part of a file
pub part_small : {s : List ℕ} (file : List ℕ) (at : ℕ) → s ≡ drop at file → length file ≤ most_bytes → length s ≤ most_bytes
part_small file at e l = omega (arith, ap length e ∙ length-drop at file)

from-part : {s file : List ℕ} (at i : ℕ) {e : Sexp} → s ≡ drop at file → Stands s i e → Stands file (at + i) e
from-part {file = file} at i {e} q h =
    let g = subst (λ (l : List ℕ). Stands l i e) q h in
    record { rest = g.rest; spelt = sym (drop-drop i at file) ∙ g.spelt }

-- whether variable v stands at an offset
module _ (s : List ℕ) (at v : ℕ) where
  at_offset : (i : ℕ) {j : ℕ} {e : Sexp} → length s ≤ most_bytes → Stands (drop at s) i e → j ≡ plus at i → Stands s j e
  at_offset i {e = e} l h q = let w = from-part at i refl h in subst (λ (k : ℕ). Stands s k e) (sym (q ∙ plus-inside s at i l w)) w

  pub variable-none : {p : ℕ} {r : Bool} → p ≡ plus at 1 → Tells r (Stands s p (str (octets "v"))) → r ≡ false → VariableAt s at v false
  variable-none i h f t around S l few ok = go t S
    where
      go : (t : Term) → Stands s at (term_sexp t) → false ≡ is_variable v t
      go (Term.v j) S = absurd (told-no f h (at_offset 1 l (term-word (Term.v j) (part-stands S)) i))
      go (Term.f g ts) S = refl
      go (Term.e k) S = refl

  module _ {p q : ℕ} {r : Bool} (w : Option ℕ) (i : p ≡ plus at 1) (h : Tells r (Stands s p (str (octets "v")))) (f : r ≡ true) (j : q ≡ plus at 4) (n : NumberAt s q w) where
    word-there : (t : Term) → length s ≤ most_bytes → Stands s at (term_sexp t) → term_word t ≡ octets "v"
    word-there t l S = text-once (at_offset 1 l (term-word t (part-stands S)) i) (told-yes f h)

    number-there : (m around : ℕ) → length s ≤ most_bytes → Stands s at (term_sexp (Term.v m)) → around ≤ levels → term_ok false around (Term.v m) ≡ true → w ≡ Some m
    number-there m around l S few ok =
        let b = ltb-true m around ok in
        number_read m w (at_offset 4 l (term-text (Term.v m) (part-stands S)) j) (omega (arith, b, few)) n

    pub variable-read : {k : ℕ} → w ≡ Some k → VariableAt s at v (eqb k v)
    variable-read {k} z t around S l few ok = go t S ok
      where
        go : (t : Term) → Stands s at (term_sexp t) → term_ok false around t ≡ true → eqb k v ≡ is_variable v t
        go (Term.v m) S ok =
            let y = number-there m around l S few ok in
            let same : k ≡ m = cc in
            ap (λ (o : ℕ). eqb o v) same
        go (Term.f g ts) S ok = absurd (no-f-v (word-there (Term.f g ts) l S))
        go (Term.e m) S ok = absurd (no-e-v (word-there (Term.e m) l S))

    pub variable-unread : w ≡ None → VariableAt s at v false
    variable-unread z t around S l few ok = go t S ok
      where
        go : (t : Term) → Stands s at (term_sexp t) → term_ok false around t ≡ true → false ≡ is_variable v t
        go (Term.v m) S ok = absurd (unread (number-there m around l S few ok) z)
        go (Term.f g ts) S ok = refl
        go (Term.e m) S ok = refl

    pub variable-same : {b : Bool} → b ≡ option_eq eqb w (Some v) → VariableAt s at v b
    variable-same {b} e = go w refl e
      where
        go : (x : Option ℕ) → w ≡ x → b ≡ option_eq eqb x (Some v) → VariableAt s at v b
        go (Some k) z e = subst (VariableAt s at v) (sym e) (variable-read z)
        go None z e = subst (VariableAt s at v) (sym e) (variable-unread z)

-- which variable stands there, if one does
pub variable-is : (s : List ℕ) (at : ℕ) {p q : ℕ} {r : Bool} (w : Option ℕ) → p ≡ plus at 1 → Tells r (Stands s p (str (octets "v"))) → r ≡ true → q ≡ plus at 4 → NumberAt s q w → VariableIs s at w
variable-is s at None i h f j n t around S l few ok = tt
variable-is s at (Some k) i h f j n t around S l few ok = is-this k t (sym (variable-read s at k (Some k) i h f j n refl t around S l few ok) ∙ eq-eqb k k refl)

-- a term beside another: one that holds no unset variable is compared for good
module _ (f : Files) (room : List ℕ) (x y : Spot) (own : ℕ) where
  pub compare-open : Comparing f room x y own L.Open
  compare-open us t u C T U = tt

  module _ {s : List ℕ} {h r : Bool} (q : s ≡ drop x.at (bytes_at f x)) (H : Holding s 0 0 64 (asked own (bindings_at room x) false 0) h) (e : h ≡ false) (M : SameTerms f room x y 128 r) where
    for-good : (us : List Term) (t u : Term) → CandidatesIn room f.terms us → TermAt f x t → TermAt f y u
        → (ds : Bindings) → Becomes us own (bindings_at room x) ds → same_term (replaced us ds t) (replaced us (bindings_at room y) u) ≡ r
    for-good us t u C T U ds B =
        let st = subst (λ (l : List ℕ). Stands l 0 (term_sexp t)) (sym q) (part-stands T.stands) in
        let none = sym (H.term t T.holds x.count st T.shallow (omega arith) (omega arith) T.few T.ok) ∙ e in
        let n = replaced-nests us C.shallow (bindings_at room x) t in
        ap (λ (w : Term). same_term w (replaced us (bindings_at room y) u)) (settled us own (bindings_at room x) ds B t none)
        ∙ sym (M us t u C T U (omega (arith, n, T.shallow)))

    pub compare_same : r ≡ true → Comparing f room x y own L.Same
    compare_same z us t u C T U ds B = for-good us t u C T U ds B ∙ z

    pub compare-never : r ≡ false → Comparing f room x y own L.Never
    compare-never z us t u C T U ds B = for-good us t u C T U ds B ∙ z

  -- whether it differs for good
  pub differs-not : DiffersAt f room x y own false
  differs-not us t u C T U e ds B = absurd (false≢true e)

  pub differs-yes : {r : Likeness} → Comparing f room x y own r → r ≡ L.Never → DiffersAt f room x y own true
  differs-yes D e us t u C T U z = subst (LikeAs us own (bindings_at room x) t (replaced us (bindings_at room y) u)) e (D us t u C T U)

-- what is left of the arguments of a head b and an atom a, at the offsets p and q: frames that make the head the atom make them the same
pub record Left (x y : Spot) (s t : List ℕ) (us : List Term) (b a : Atom) (p q : ℕ) : Type 0 where
  pub one : Terms
  pub two : Terms
  pub here : Row x.count s p one
  pub there : Row y.count t q two
  pub implied : (ds es : Bindings) → same_atom (replaced_atom us ds b) (replaced_atom us es a) ≡ true → same_terms (replaceds us ds one) (replaceds us es two) ≡ true

abbrev pub LeftAt : Files → List ℕ → Spot → Spot → List ℕ → List ℕ → ℕ → ℕ → Type 0
LeftAt f room x y s t p q =
    (us : List Term) (b a : Atom) → Small f → CandidatesIn room f.terms us → AtomAt f x b → AtomAt f y a
    → Left x y s t us b a p q

-- the same of whatever spot the head's part starts at
abbrev pub PartsLeft : Files → List ℕ → Spot → List ℕ → List ℕ → ℕ → ℕ → Type 0
PartsLeft f room y s t p q = (x : Spot) → s ≡ drop x.at (bytes_at f x) → LeftAt f room x y s t p q

-- an argument of a head b beside one of an atom a, at the offsets p and q: a frame that makes the head the atom makes them the same. Each stands before whatever terms stand after it
pub record Beside (f : Files) (room : List ℕ) (x y : Spot) (s t : List ℕ) (us : List Term) (b a : Atom) (p q : ℕ) : Type 0 where
  pub u : Term
  pub w : Term
  pub before : {m : ℕ} {v : Option ℕ} → v ≡ Some m → PastAt s p 64 v → (one : Terms) → Row x.count s m one → Row x.count s p (Terms.cons u one)
  pub beyond : {m : ℕ} {v : Option ℕ} → v ≡ Some m → PastAt t q 64 v → (two : Terms) → Row y.count t m two → Row y.count t q (Terms.cons w two)
  pub here : TermAt f (further x p) u
  pub there : TermAt f (further y q) w
  pub implied : (ds : Bindings) → same_atom (replaced_atom us ds b) (replaced_atom us (bindings_at room y) a) ≡ true → same_term (replaced us ds u) (replaced us (bindings_at room y) w) ≡ true

-- the arguments of an atom stand after its name
module _ {f : Files} {x : Spot} {s : List ℕ} (n : Name) (ts : Terms) (X : AtomAt f x (Atom.atom n ts)) (e : s ≡ drop x.at (bytes_at f x)) where
  pub atom-here : Stands s 0 (atom_sexp (Atom.atom n ts))
  atom-here = subst (λ (l : List ℕ). Stands l 0 (atom_sexp (Atom.atom n ts))) (sym e) (part-stands X.stands)

  pub row-after : (p : ℕ) → p ≡ 7 + length (spell (str n)) → Row x.count s p ts
  row-after p z = record {
    stands = subst (λ (j : ℕ). StandsAll s j (term_sexps ts)) (sym z) (atom-rest n ts atom-here);
    shallow = omega (arith, X.shallow);
    few = X.few;
    ok = X.ok;
  }

  pub name-past : {a : Option ℕ} {i : ℕ} → PastAt s 7 0 a → a ≡ Some i → i ≡ 7 + length (spell (str n))
  name-past a z = let E = past_next z a in E.ends ∙ ap (λ (y : Sexp). 7 + length (spell y)) (stands-once E.stands (atom-text n ts atom-here))

-- a term at an offset of a part stands at a spot
pub term-there : (f : Files) (x : Spot) {s : List ℕ} {p : ℕ} {z : Spot} (t : Term) (ts : Terms) → Small f → s ≡ drop x.at (bytes_at f x) → z ≡ further x p → Row x.count s p (Terms.cons t ts) → TermAt f z t
term-there f x {p = p} t ts S e q R =
    let st = from-part x.at p e (first-stands R.stands) in
    subst (λ (v : Spot). TermAt f v t) (sym q) (record {
      stands = subst (λ (j : ℕ). Stands (bytes_at f x) j (term_sexp t)) (sym (plus-inside (bytes_at f x) x.at p (S x.source) st)) st;
      shallow = omega (arith, R.shallow);
      few = R.few;
      holds = false;
      ok = (both_true (term_ok false x.count t) (terms_ok false x.count ts) R.ok).0;
    })

-- the others of a row
pub row_next : {around : ℕ} {s : List ℕ} {p m : ℕ} {a : Option ℕ} (t : Term) (ts : Terms) → a ≡ Some m → PastAt s p 64 a → Row around s p (Terms.cons t ts) → Row around s m ts
row_next {around} {s} {p} t ts z a R =
    let E = past_next z a in
    let end = E.ends ∙ ap (λ (y : Sexp). p + length (spell y)) (stands-once E.stands (first-stands R.stands)) in
    record {
      stands = subst (λ (j : ℕ). StandsAll s j (term_sexps ts)) (sym end) (others-stand R.stands);
      shallow = omega (arith, R.shallow);
      few = R.few;
      ok = (both_true (term_ok false around t) (terms_ok false around ts) R.ok).1;
    }

-- a term before others
row_back : {around : ℕ} {s : List ℕ} {p m : ℕ} {a : Option ℕ} (t : Term) (ts us : Terms) → a ≡ Some m → PastAt s p 64 a → Row around s p (Terms.cons t ts) → Row around s m us → Row around s p (Terms.cons t us)
row_back {around} {s} {p} t ts us z a R Q =
    let E = past_next z a in
    let end = E.ends ∙ ap (λ (y : Sexp). p + length (spell y)) (stands-once E.stands (first-stands R.stands)) in
    record {
      stands = more-stand (first-stands R.stands) (subst (λ (j : ℕ). StandsAll s j (term_sexps us)) end Q.stands);
      shallow = omega (arith, R.shallow, Q.shallow);
      few = R.few;
      ok = ap₂ ◌&&◌ (both_true (term_ok false around t) (terms_ok false around ts) R.ok).0 Q.ok;
    }

-- where a row closes
pub shut : (l : List ℕ) (k : ℕ) {r : Bool} → r ≡ eqb (get_or l k 0) 41 → r ≡ true → get_or l k 0 ≡ 41
shut l k e h = eqb-true (get_or l k 0) 41 (sym e ∙ h)

pub going : (l : List ℕ) (k : ℕ) {r : Bool} → r ≡ eqb (get_or l k 0) 41 → r ≡ false → get_or l k 0 ≡ 41 → ⊥
going l k e h z = eqb-false (get_or l k 0) 41 (sym e ∙ h) z

-- nothing is said
pub may-be-yes : (f : Files) (room : List ℕ) (x y : Spot) (own : ℕ) → MayBe f room x y own true
may-be-yes f room x y own us b a S C X Y e ds B = absurd (false≢true (sym e))

pub forces-nothing : (f : Files) (room : List ℕ) (x y : Spot) (v : ℕ) → Forces f room x y v F.Nothing
forces-nothing f room x y v us b a S C K X Y = tt

module _ (f : Files) (room : List ℕ) (x y : Spot) {s t : List ℕ} (ex : s ≡ drop x.at (bytes_at f x)) (ey : t ≡ drop y.at (bytes_at f y)) where
  -- other names
  pub may-be-no : (own : ℕ) {r : Bool} → Tells r (Shared s 7 t 7) → r ≡ false → MayBe f room x y own false
  may-be-no own h e us (Atom.atom n ts) (Atom.atom m ws) S C X Y z ds B =
      let d : n ≡ m → ⊥ = λ q. told-no e h (record { octets = n; here = atom-text n ts (atom-here n ts X ex); there = subst (λ (l : List ℕ). Stands t 7 (str l)) (sym q) (atom-text m ws (atom-here m ws Y ey)) }) in
      ap (λ (c : Bool). c && same_terms (replaceds us ds ts) (replaceds us (bindings_at room y) ws)) (names-differ n m d)

  start : (us : List Term) (n m : Name) (ts ws : Terms) (p q : ℕ) → AtomAt f x (Atom.atom n ts) → AtomAt f y (Atom.atom m ws)
      → p ≡ 7 + length (spell (str n)) → q ≡ 7 + length (spell (str m)) → Left x y s t us (Atom.atom n ts) (Atom.atom m ws) p q
  start us n m ts ws p q X Y i j = record {
    one = ts;
    two = ws;
    here = row-after n ts X ex p i;
    there = row-after m ws Y ey q j;
    implied = λ ds es e. (both_true (same_name n m) (same_terms (replaceds us ds ts) (replaceds us es ws)) e).1;
  }

  -- the arguments, all of them, after two names or after one name that both have
  pub left-two : {a b : Option ℕ} {i j : ℕ} → PastAt s 7 0 a → a ≡ Some i → PastAt t 7 0 b → b ≡ Some j → LeftAt f room x y s t i j
  left-two {i = i} {j = j} a z b w us (Atom.atom n ts) (Atom.atom m ws) S C X Y = start us n m ts ws i j X Y (name-past n ts X ex a z) (name-past m ws Y ey b w)

  pub left_one : {r : Bool} {a : Option ℕ} {i : ℕ} → Tells r (Shared s 7 t 7) → r ≡ true → PastAt s 7 0 a → a ≡ Some i → LeftAt f room x y s t i i
  left_one {i = i} h e a z us (Atom.atom n ts) (Atom.atom m ws) S C X Y =
      let N = told-yes e h in
      let same : n ≡ m = text-once (atom-text n ts (atom-here n ts X ex)) N.here ∙ text-once N.there (atom-text m ws (atom-here m ws Y ey)) in
      let long = name-past n ts X ex a z in
      start us n m ts ws i i X Y long (long ∙ ap (λ (l : Name). 7 + length (spell (str l))) same)

  module _ (p q : ℕ) (L : LeftAt f room x y s t p q) where
    -- the head has no argument left: the atom may have none either
    pub left_end : (own : ℕ) {c d : Bool} → c ≡ eqb (get_or s p 0) 41 → c ≡ true → d ≡ eqb (get_or t q 0) 41 → MayBe f room x y own d
    left_end own {c} {d} e h g us b a S C X Y z ds B =
        let l = L us b a S C X Y in
        refuted (same_atom (replaced_atom us ds b) (replaced_atom us (bindings_at room y) a)) (same_terms (replaceds us ds l.one) (replaceds us (bindings_at room y) l.two)) (l.implied ds (bindings_at room y)) (go l.one l.two l.here l.there)
      where
        go : (one two : Terms) → Row x.count s p one → Row y.count t q two → same_terms (replaceds us ds one) (replaceds us (bindings_at room y) two) ≡ false
        go (Terms.cons u one) two R R' = absurd (no-closing (first-stands R.stands) (shut s p e h))
        go Terms.nil Terms.nil R R' = absurd (going t q g z (none-closes R'.stands))
        go Terms.nil (Terms.cons w two) R R' = refl

    -- the atom has none left and the head has one
    pub left-short : (own : ℕ) {c d : Bool} → c ≡ eqb (get_or s p 0) 41 → c ≡ false → d ≡ eqb (get_or t q 0) 41 → d ≡ true → MayBe f room x y own false
    left-short own e h g k us b a S C X Y z ds B =
        let l = L us b a S C X Y in
        refuted (same_atom (replaced_atom us ds b) (replaced_atom us (bindings_at room y) a)) (same_terms (replaceds us ds l.one) (replaceds us (bindings_at room y) l.two)) (l.implied ds (bindings_at room y)) (go l.one l.two l.here l.there)
      where
        go : (one two : Terms) → Row x.count s p one → Row y.count t q two → same_terms (replaceds us ds one) (replaceds us (bindings_at room y) two) ≡ false
        go Terms.nil two R R' = absurd (going s p e h (none-closes R.stands))
        go (Terms.cons u one) Terms.nil R R' = refl
        go (Terms.cons u one) (Terms.cons w two) R R' = absurd (no-closing (first-stands R'.stands) (shut t q g k))

    -- both have one
    record Firsts (us : List Term) (b a : Atom) : Type 0 where
      pub u : Term
      pub w : Term
      pub one : Terms
      pub two : Terms
      pub here : Row x.count s p (Terms.cons u one)
      pub there : Row y.count t q (Terms.cons w two)
      pub implied : (ds es : Bindings) → same_atom (replaced_atom us ds b) (replaced_atom us es a) ≡ true → (same_term (replaced us ds u) (replaced us es w) ≡ true) × (same_terms (replaceds us ds one) (replaceds us es two) ≡ true)

    module _ {c d : Bool} (e : c ≡ eqb (get_or s p 0) 41) (h : c ≡ false) (g : d ≡ eqb (get_or t q 0) 41) (k : d ≡ false) where
      firsts : (us : List Term) (b a : Atom) → Left x y s t us b a p q → Firsts us b a
      firsts us b a l = go l.one l.two l.here l.there l.implied
        where
          go : (one two : Terms) → Row x.count s p one → Row y.count t q two
              → ((ds es : Bindings) → same_atom (replaced_atom us ds b) (replaced_atom us es a) ≡ true → same_terms (replaceds us ds one) (replaceds us es two) ≡ true)
              → Firsts us b a
          go Terms.nil two R R' i = absurd (going s p e h (none-closes R.stands))
          go (Terms.cons u one) Terms.nil R R' i = absurd (going t q g k (none-closes R'.stands))
          go (Terms.cons u one) (Terms.cons w two) R R' i =
              record { u = u; w = w; one = one; two = two; here = R; there = R'; implied = λ ds es z. both_true (same_term (replaced us ds u) (replaced us es w)) (same_terms (replaceds us ds one) (replaceds us es two)) (i ds es z) }

      -- they are beside each other
      pub left-beside : (us : List Term) (b a : Atom) → Small f → CandidatesIn room f.terms us → AtomAt f x b → AtomAt f y a → Beside f room x y s t us b a p q
      left-beside us b a S C X Y =
          let l = firsts us b a (L us b a S C X Y) in
          record {
            u = l.u;
            w = l.w;
            before = λ z v one R. row_back l.u l.one one z v l.here R;
            beyond = λ z v two R. row_back l.w l.two two z v l.there R;
            here = term-there f x l.u l.one S ex refl l.here;
            there = term-there f y l.w l.two S ey refl l.there;
            implied = λ ds m. (l.implied ds (bindings_at room y) m).0;
          }

      -- they differ for good
      pub left-differs : (own : ℕ) {r : Bool} {v v' : Spot} → v ≡ further x p → v' ≡ further y q → DiffersAt f room v v' own r → r ≡ true → MayBe f room x y own false
      left-differs own {r} {v} {v'} i j D o us b a S C X Y z ds B =
          let l = left-beside us b a S C X Y in
          let D' = subst (λ (n : Spot). DiffersAt f room (further x p) n own r) j (subst (λ (n : Spot). DiffersAt f room n v' own r) i D) in
          refuted (same_atom (replaced_atom us ds b) (replaced_atom us (bindings_at room y) a)) (same_term (replaced us ds l.u) (replaced us (bindings_at room y) l.w)) (l.implied ds) (D' us l.u l.w C l.here l.there o ds B)

      -- they are gone past
      pub left-next : {a b : Option ℕ} {m n : ℕ} → a ≡ Some m → PastAt s p 64 a → b ≡ Some n → PastAt t q 64 b → LeftAt f room x y s t m n
      left-next i A j B us b a S C X Y =
          let l = firsts us b a (L us b a S C X Y) in
          record {
            one = l.one;
            two = l.two;
            here = row_next l.u l.one i A l.here;
            there = row_next l.w l.two j B l.there;
            implied = λ ds es m. (l.implied ds es m).1;
          }

      -- the head's is the variable: wherever the two are the same, it is the atom's
      pub left-argument : (v : ℕ) {r : Bool} → VariableAt s p v r → r ≡ true → (us : List Term) (b a : Atom) → Small f → CandidatesIn room f.terms us → AtomAt f x b → AtomAt f y a → BesideOf f y us b a v q
      left-argument v at i us b a S C X Y =
          let l = firsts us b a (L us b a S C X Y) in
          let ok = (both_true (term_ok false x.count l.u) (terms_ok false x.count l.one) l.here.ok).0 in
          let it = is-this v l.u (sym (at l.u x.count (first-stands l.here.stands) (part_small (bytes_at f x) x.at ex (S x.source)) l.here.few ok) ∙ i) in
          record {
            term = l.w;
            stands = subst (λ (k : List ℕ). Stands k q (term_sexp l.w)) ey (first-stands l.there.stands);
            ok = (both_true (term_ok false y.count l.w) (terms_ok false y.count l.two) l.there.ok).0;
            here = term-there f y l.w l.two S ey refl l.there;
            is = λ ds es m. sym (ap (replaced us ds) it) ∙ same-terms-equal (replaced us ds l.u) (replaced us es l.w) (l.implied ds es m).0;
          }

-- an argument beside a variable: what it forces, and which variable it is
module _ (f : Files) (x y : Spot) (v : ℕ) {r : Option ℕ} {q : ℕ} (B : BesideAt f x y v r) (i : r ≡ Some q) where
  pub forced-there : (room : List ℕ) {o : Spot} {z : Option ℕ} (k : Option ℕ) → o ≡ further y q → CandidateAt f room o z → z ≡ k → Forces f room x y v (forced k)
  forced-there room {z = z} k j H e us b a S C K X Y =
      let l = subst (BesideIs f y us b a v) i (B room us b a S C X Y) in
      let w = replaced us (bindings_at room y) l.term in
      forced-as us (bindings_at room y) b a v w (λ ds m. l.is ds (bindings_at room y) m) k
      (subst (CandidateOf us w) e (subst (λ (n : Spot). CandidateAt f room n z) j H us l.term C K l.here))

  pub same-there : {t : List ℕ} (z : Option ℕ) → t ≡ drop y.at (bytes_at f y) → VariableIs t q z → SameAs f x y v z
  same-there z e H room us b a S C X Y =
      let l = subst (BesideIs f y us b a v) i (B room us b a S C X Y) in
      go l z (H l.term y.count (subst (λ (k : List ℕ). Stands k q (term_sexp l.term)) (sym e) l.stands) (part_small (bytes_at f y) y.at e (S y.source)) Y.few l.ok)
    where
      go : (l : BesideOf f y us b a v q) (z : Option ℕ) → IsVariable l.term z → SameIs us b a v z
      go l None it = tt
      go l (Some n) it = λ ds es m. l.is ds es m ∙ ap (replaced us es) it
