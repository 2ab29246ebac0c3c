-- What is seen at a spot: what a binding stands for, the term that a variable stands for, and whether a written term is a given parameter.
use Prim.Native.Nat.{ℕ, ◌≤◌, ◌<◌}
use mathlib.Core.Path.{◌≡◌, refl, sym, ◌∙◌, ap, subst}
use mathlib.Core.Bool.{Bool, true, false, ◌&&◌, false≢true}
use mathlib.Core.List.{List}
use mathlib.Core.Option.{some}
use native.Mathlib.Omega.{arith}
use lib.Dec.{eqb, leb, ltb}
use lib.ListN.{length, get_or, drop, get_elem?}
use borrow.Author.Tests.{ltb-true, ltb-false, lt-ltb, le-ltb, leb-true}
use Rattle.basics.specs.Choice.{both_true}
use Rattle.basics.specs.Tells.{Tells, told-yes, told-no}
use Rattle.basics.specs.Text.{octets}
use Rattle.harrop.specs.declared.Binding.{Binding}
use Rattle.harrop.specs.declared.Binding.TheVariants as B
use Rattle.harrop.specs.Formula.{Term}
use Rattle.harrop.specs.Bindings.{meant, value_of, replaced, same_term}
use Rattle.harrop.proofs.ListLaws.{below-member, beyond-none}
use Rattle.packet.specs.Written.{term_sexp}
use Rattle.packet.specs.Barred.{Holds, parameter_ok}
use Rattle.std.specs.Prelude as std
use Rattle.std.specs.Prelude.{Some, None}
use Rattle.sexp.specs.Decimal.{decimal}
use Rattle.sexp.specs.Sexp.{str, Stands}
use Rattle.sexp.specs.WordsAt.{NumberAt}
use Rattle.sexp.specs.Words.{worth}
use Rattle.sexp.proofs.WordLaws.{worth-decimal, decimal-is}
use Rattle.room.specs.declared.Source.TheVariants as S
use Rattle.room.specs.declared.Spot.{Spot}
use Rattle.equal.specs.declared.equal.Seen.{Seen}
use Rattle.equal.specs.declared.equal.Seen.TheVariants.{Parameter, Written}
use Rattle.room.specs.Layout.{candidates_word, candidate_word}
use Rattle.room.specs.Frame.{bound_to}
use Rattle.room.specs.Spot.{bindings_at}
use Rattle.room.specs.Files.{Files, file_of}
use Rattle.room.specs.Table.{CandidatesIn}
use Rattle.equal.specs.Term.{TermAt, is_written, WrittenAt, Sees, candidate_seen, binding_seen, SeesAt, IsParameter}
use Rattle.room.proofs.FrameLaws.{bound-means}
use Rattle.equal.proofs.TermLaws.{part-stands, term-word, term-text, text-once, closed-stays, closed-written}

-- a number of a packet that stands at an offset is read
pub number_read : {s : List ℕ} {at : ℕ} (i : ℕ) (v : std.Option ℕ) → Stands s at (str (decimal i)) → i ≤ 999 → NumberAt s at v → v ≡ Some i
number_read i (Some n) h l a = ap Some (a.says ∙ ap worth (text-once a.stands h) ∙ worth-decimal i)
number_read i None h l a = absurd (a (decimal i) h (decimal-is i l))

-- no word is another
no-f-v : octets "f" ≡ octets "v" → ⊥
no-f-v z = let z' : ◌≡◌ {A = ℕ} 118 102 = cc in omega arith

no-e-v : octets "e" ≡ octets "v" → ⊥
no-e-v z = let z' : ◌≡◌ {A = ℕ} 118 101 = cc in omega arith

pub no-f-e : octets "f" ≡ octets "e" → ⊥
no-f-e z = let z' : ◌≡◌ {A = ℕ} 102 101 = cc in omega arith

pub unread : {v : std.Option ℕ} {i : ℕ} → v ≡ Some i → v ≡ None → ⊥
unread p q = let z : ◌≡◌ {A = ℕ} 0 1 = cc in omega arith

-- a parameter that may stand there is small
pub parameter-small : (holds : Holds) (k : ℕ) → parameter_ok holds k ≡ true → k ≤ 999
parameter-small holds k e =
    let (a, b) = both_true (holds && leb 1 k) (leb k 64) e in
    let l = leb-true k 64 b in
    omega arith

-- a candidate's spot, and what is seen of it
abbrev pub candidate_spot : List ℕ → ℕ → Spot
candidate_spot room i = record { source = S.Terms; at = get_or room (candidate_word i) 0; base = 0; count = 0 }

pub candidate-below : (room : List ℕ) (i : ℕ) → i < get_or room candidates_word 0 → candidate_seen room i ≡ Written (candidate_spot room i)
unfolding candidate_seen
candidate-below room i h = rw (lt-ltb i (get_or room candidates_word 0) h) refl

pub candidate-beyond : (room : List ℕ) (i : ℕ) → get_or room candidates_word 0 ≤ i → candidate_seen room i ≡ Parameter 0
unfolding candidate_seen
candidate-beyond room i h = rw (le-ltb i (get_or room candidates_word 0) h) refl

module _ (fs : Files) (room : List ℕ) where
  sees-as : (cs : List Term) (w : Term) {a b : Seen} → b ≡ a → Sees fs room cs w a → Sees fs room cs w b
  sees-as cs w e h = subst (λ (x : Seen). Sees fs room cs w x) (sym e) h

  candidate-at : (cs : List Term) (C : CandidatesIn room fs.terms cs) (i : ℕ) (t : Term) → get_elem? cs i ≡ some t → WrittenAt fs room cs (candidate_spot room i) (meant cs (B.Candidate i))
  candidate-at cs C i t e = record {
    term = t;
    here = record { stands = C.starts i t e; shallow = C.shallow i t e; few = omega arith; holds = true; ok = C.closed i t e };
    plain = closed-written true t (C.closed i t e);
    means = closed-stays cs (bindings_at room (candidate_spot room i)) true t (C.closed i t e) ∙ rw (e, meant) refl;
  }

  -- what is seen of a binding is what it stands for
  pub binding-sees : (cs : List Term) → CandidatesIn room fs.terms cs → (b : Binding) → Sees fs room cs (meant cs b) (binding_seen room b)
  unfolding binding_seen
  binding-sees cs C (B.Candidate i) = go (ltb i (length cs)) refl
    where
      go : (t : Bool) → ltb i (length cs) ≡ t → Sees fs room cs (meant cs (B.Candidate i)) (candidate_seen room i)
      go true e =
          let l = ltb-true i (length cs) e in
          let (t, m) = below-member cs i l in
          sees-as cs (meant cs (B.Candidate i)) (candidate-below room i (omega (arith, C.counted, l))) (candidate-at cs C i t m)
      go false e =
          let l = ltb-false i (length cs) e in
          sees-as cs (meant cs (B.Candidate i)) (candidate-beyond room i (omega (arith, C.counted, l))) (rw (beyond-none cs i l, meant) refl)
  binding-sees cs C (B.Parameter k) = refl

  -- the part that starts at the spot
  abbrev PartAt : Spot → List ℕ → Type 0
  PartAt x s = s ≡ drop x.at (file_of fs x.source)

  pub in-part : {x : Spot} {s : List ℕ} → PartAt x s → {t : Term} → TermAt fs x t → Stands s 0 (term_sexp t)
  in-part e {t} T = subst (λ (y : List ℕ). Stands y 0 (term_sexp t)) (sym e) (part-stands T.stands)

  -- no variable stands there: the term is written
  pub see-written : {x : Spot} {s : List ℕ} {r : Bool} → PartAt x s → Tells r (Stands s 1 (str (octets "v"))) → r ≡ false → SeesAt fs room x (Written x)
  see-written {x} {s} {r} e h f cs t C T = record { term = t; here = T; plain = go t (in-part e T); means = refl }
    where
      go : (t : Term) → Stands s 0 (term_sexp t) → is_written t ≡ true
      go (Term.v i) g = absurd (told-no f h (term-word (Term.v i) g))
      go (Term.f n ts) g = refl
      go (Term.e k) g = refl

  -- a variable stands there
  pub see-variable : {x : Spot} {s : List ℕ} {r : Bool} {v : std.Option ℕ} {i : ℕ} {a : Seen} → PartAt x s → Tells r (Stands s 1 (str (octets "v"))) → r ≡ true → v ≡ Some i → NumberAt s 4 v
      → a ≡ binding_seen room (bound_to (bindings_at room x) i) → SeesAt fs room x a
  see-variable {x} {s} {r} {v} {i} {a} e h f p n q cs t C T = go t T (in-part e T)
    where
      go : (t : Term) → TermAt fs x t → Stands s 0 (term_sexp t) → Sees fs room cs (replaced cs (bindings_at room x) t) a
      go (Term.v j) T g =
          let l = ltb-true j x.count T.ok in
          let m = number_read j v (term-text (Term.v j) g) (omega (arith, l, T.few)) n in
          let same : i ≡ j = cc in
          sees-as cs (value_of cs (bindings_at room x) j) q
          (subst (λ (w : Term). Sees fs room cs w (binding_seen room (bound_to (bindings_at room x) i)))
          (bound-means cs (bindings_at room x) i ∙ ap (value_of cs (bindings_at room x)) same)
          (binding-sees cs C (bound_to (bindings_at room x) i)))
      go (Term.f n ts) T g = absurd (no-f-v (text-once (term-word (Term.f n ts) g) (told-yes f h)))
      go (Term.e k) T g = absurd (no-e-v (text-once (term-word (Term.e k) g) (told-yes f h)))

  -- and its number is one of a packet
  pub see-none : {x : Spot} {s : List ℕ} {r : Bool} {v : std.Option ℕ} (a : Seen) → PartAt x s → Tells r (Stands s 1 (str (octets "v"))) → r ≡ true → v ≡ None → NumberAt s 4 v → SeesAt fs room x a
  see-none {x} {s} {r} {v} a e h f p n cs t C T = go t T (in-part e T)
    where
      go : (t : Term) → TermAt fs x t → Stands s 0 (term_sexp t) → Sees fs room cs (replaced cs (bindings_at room x) t) a
      go (Term.v j) T g =
          let l = ltb-true j x.count T.ok in
          absurd (unread (number_read j v (term-text (Term.v j) g) (omega (arith, l, T.few)) n) p)
      go (Term.f n ts) T g = absurd (no-f-v (text-once (term-word (Term.f n ts) g) (told-yes f h)))
      go (Term.e k) T g = absurd (no-e-v (text-once (term-word (Term.e k) g) (told-yes f h)))

  -- a term written at a spot is a given parameter, or not
  pub no-parameter : (k : ℕ) {x : Spot} {s : List ℕ} {r : Bool} → PartAt x s → Tells r (Stands s 1 (str (octets "e"))) → r ≡ false → IsParameter fs x k false
  no-parameter k {x} {s} {r} e h f t T w = go t w (in-part e T)
    where
      go : (t : Term) → is_written t ≡ true → Stands s 0 (term_sexp t) → false ≡ same_term t (Term.e k)
      go (Term.v i) w g = absurd (false≢true w)
      go (Term.f n ts) w g = refl
      go (Term.e m) w g = absurd (told-no f h (term-word (Term.e m) g))

  pub unread-parameter : (k : ℕ) {x : Spot} {s : List ℕ} {r : Bool} {v : std.Option ℕ} → PartAt x s → Tells r (Stands s 1 (str (octets "e"))) → r ≡ true → v ≡ None → NumberAt s 4 v → IsParameter fs x k false
  unread-parameter k {x} {s} {r} {v} e h f p n t T w = go t T w (in-part e T)
    where
      go : (t : Term) → TermAt fs x t → is_written t ≡ true → Stands s 0 (term_sexp t) → false ≡ same_term t (Term.e k)
      go (Term.v i) T w g = absurd (false≢true w)
      go (Term.f m ts) T w g = refl
      go (Term.e m) T w g = absurd (unread (number_read m v (term-text (Term.e m) g) (parameter-small T.holds m T.ok) n) p)

  pub parameter-told : (k : ℕ) {x : Spot} {s : List ℕ} {r : Bool} {v : std.Option ℕ} {i : ℕ} → PartAt x s → Tells r (Stands s 1 (str (octets "e"))) → r ≡ true → v ≡ Some i → NumberAt s 4 v → IsParameter fs x k (eqb i k)
  parameter-told k {x} {s} {r} {v} {i} e h f p n t T w = go t T w (in-part e T)
    where
      go : (t : Term) → TermAt fs x t → is_written t ≡ true → Stands s 0 (term_sexp t) → eqb i k ≡ same_term t (Term.e k)
      go (Term.v j) T w g = absurd (false≢true w)
      go (Term.f m ts) T w g = absurd (no-f-e (text-once (term-word (Term.f m ts) g) (told-yes f h)))
      go (Term.e m) T w g =
          let q = number_read m v (term-text (Term.e m) g) (parameter-small T.holds m T.ok) n in
          let same : i ≡ m = cc in
          ap (λ (j : ℕ). eqb j k) same
