-- The numbers of arguments, read from the bytes of an atom (document 02, Three): each is what the term at its spot has, and together they are the word.
use Prim.Native.Nat.{ℕ, ◌+◌, ◌-◌, ◌*◌, ◌/◌, ◌%◌, ◌<◌}
use native.Mathlib.Omega.{arith}
use mathlib.Core.Path.{◌≡◌, refl, sym, ◌∙◌, subst}
use mathlib.Core.Bool.{Bool, true, false}
use mathlib.Core.List.{List}
use lib.Dec.{eqb}
use lib.ListN.{get_or, drop}
use Rattle.basics.specs.Choice.{both_true}
use Rattle.harrop.specs.Formula.{Term, Terms, Atom}
use Rattle.harrop.specs.Bindings.{Bindings, replaced}
use Rattle.std.specs.Option.{unwrap_or}
use Rattle.std.specs.Prelude.{Option, Some, None}
use Rattle.sexp.specs.Past.{PastAt}
use Rattle.sexp.specs.Sexp.{Stands}
use Rattle.packet.specs.Written.{term_sexp}
use Rattle.packet.specs.Barred.{term_ok, terms_ok}
use Rattle.room.specs.Spot.{bindings_at}
use Rattle.room.specs.Where.{further}
use Rattle.room.specs.Files.{Files}
use Rattle.room.specs.declared.Spot.{Spot}
use Rattle.equal.specs.Term.{TermAt}
use Rattle.heads.specs.Predicate.{bytes_at}
use Rattle.mentions.specs.Open.{asked, Becomes}
use Rattle.held.specs.Held.{Holding}
use Rattle.unset.specs.Head.{VariableAt, CandidateOf, CandidateAt, Row}
use Rattle.unset.proofs.HeadLaws.{settled, is-this, part_small, row-after, row_next, name-past, term-there, shut, going}
use Rattle.arguments.specs.Arguments.{Argument, Arguments, NumberAt, ArgumentsFrom, ArgumentsAt}
use Rattle.equal.proofs.TermLaws.{part-stands}
use Rattle.sexp.proofs.StandLaws.{first-stands, none-closes, no-closing}

-- nothing is said of a term
pub number-open : (f : Files) (room : List ℕ) (x : Spot) (own v : ℕ) → NumberAt f room x own v 1022
number-open f room x own v us t S C K T o = record { number = omega arith; small = omega arith; variable = λ e. absurd (omega arith); candidate = λ l. absurd (omega arith); none = λ e. absurd (omega arith) }

module _ (f : Files) (room : List ℕ) (x : Spot) (own v : ℕ) {s : List ℕ} (e : s ≡ drop x.at (bytes_at f x)) where
  there : {t : Term} → TermAt f x t → Stands s 0 (term_sexp t)
  there {t} T = subst (λ (l : List ℕ). Stands l 0 (term_sexp t)) (sym e) (part-stands T.stands)

  -- it is the variable
  pub number-variable : {r : Bool} → VariableAt s 0 v r → r ≡ true → NumberAt f room x own v 1021
  number-variable W i us t S C K T o = record {
    number = omega arith;
    small = omega arith;
    variable = λ _. is-this v t (sym (W t x.count (there T) (part_small (bytes_at f x) x.at e (S x.source)) T.few o) ∙ i);
    candidate = λ l. absurd (omega arith);
    none = λ z. absurd (omega arith);
  }

  module _ {h : Bool} (H : Holding s 0 0 64 (asked own (bindings_at room x) false 0) h) (i : h ≡ false) where
    -- it holds no unset variable, so it is the same whatever the frame becomes
    stays : (us : List Term) (t : Term) → TermAt f x t → (es : Bindings) → Becomes us own (bindings_at room x) es → replaced us (bindings_at room x) t ≡ replaced us es t
    stays us t T es B = sym (settled us own (bindings_at room x) es B t (sym (H.term t T.holds x.count (there T) T.shallow (omega arith) (omega arith) T.few T.ok) ∙ i))

    pub number-candidate : {r : Option ℕ} {c : ℕ} → CandidateAt f room x r → r ≡ Some c → c < 1020 → NumberAt f room x own v (c + 1)
    number-candidate {c = c} D z l us t S C K T o = record {
      number = omega arith;
      small = omega arith;
      variable = λ q. absurd (omega arith);
      candidate = λ q es B. subst (λ (n : ℕ). CandidateOf us (replaced us es t) (Some n)) less (subst (λ (w : Term). CandidateOf us w (Some c)) (stays us t T es B) (subst (CandidateOf us (replaced us (bindings_at room x) t)) z (D us t C K T)));
      none = λ q. absurd (omega arith);
    }
      where
        less : c ≡ c + 1 - 1
        less = omega arith

    pub number-none : {r : Option ℕ} → CandidateAt f room x r → r ≡ None → NumberAt f room x own v 1023
    number-none D z us t S C K T o = record {
      number = omega arith;
      small = omega arith;
      variable = λ q. absurd (omega arith);
      candidate = λ q. absurd (omega arith);
      none = λ q es B. subst (λ (w : Term). CandidateOf us w None) (stays us t T es B) (subst (CandidateOf us (replaced us (bindings_at room x) t)) z (D us t C K T));
    }

-- the arguments from an offset on
module _ (f : Files) (room : List ℕ) (x : Spot) (p own v : ℕ) {s : List ℕ} (e : s ≡ drop x.at (bytes_at f x)) {c : Bool} (g : c ≡ eqb (get_or s p 0) 41) where
  row : {ts : Terms} → Row x.count (drop x.at (bytes_at f x)) p ts → Row x.count s p ts
  row {ts} R = subst (λ (l : List ℕ). Row x.count l p ts) (sym e) R

  pub arguments-end : c ≡ true → ArgumentsFrom f room x p own v (Some 0)
  arguments-end h us Terms.nil S C K R = refl
  arguments-end h us (Terms.cons t ts) S C K R = absurd (no-closing (first-stands (row R).stands) (shut s p g h))

  pub arguments-more : {a o : Option ℕ} {m rest k : ℕ} {y : Spot} → c ≡ false → PastAt s p 64 a → a ≡ Some m → ArgumentsFrom f room x m own v o → o ≡ Some rest → rest < 1048576 → y ≡ further x p → NumberAt f room y own v k → k < 1024
      → ArgumentsFrom f room x p own v (Some (k + rest * 1024))
  arguments-more h P z Q d l q N less us Terms.nil S C K R = absurd (going s p g h (none-closes (row R).stands))
  arguments-more {m = m} {rest} {k} {y} h P z Q d l q N less us (Terms.cons t ts) S C K R =
      let T = term-there f x t ts S e refl (row R) in
      let o = (both_true (term_ok false x.count t) (terms_ok false x.count ts) R.ok).0 in
      let one = subst (λ (w : Spot). NumberAt f room w own v k) q N us t S C K T o in
      let next = subst (λ (j : List ℕ). Row x.count j m ts) e (row_next t ts z P (row R)) in
      let others = subst (ArgumentsFrom f room x m own v) d Q us ts S C K next in
      (subst (Argument us own (bindings_at room x) v t) first one, subst (Arguments us own (bindings_at room x) v ts) second others)
    where
      first : k ≡ (k + rest * 1024) % 1024
      first = omega arith

      second : rest ≡ (k + rest * 1024) / 1024
      second = omega arith

-- the atom at a spot
pub no_arguments : (f : Files) (room : List ℕ) (x : Spot) (own v : ℕ) → ArgumentsAt f room x own v 0
no_arguments f room x own v us a S C K X n = absurd (n refl)

pub arguments-all : (f : Files) (room : List ℕ) (x : Spot) (own v : ℕ) {s : List ℕ} {a : Option ℕ} {p r : ℕ} (o : Option ℕ) → s ≡ drop x.at (bytes_at f x) → PastAt s 7 0 a → a ≡ Some p → ArgumentsFrom f room x p own v o → r ≡ unwrap_or o 0 → ArgumentsAt f room x own v r
arguments-all f room x own v {s} {p = p} {r} o e P z Q w us (Atom.atom n ts) S C K X i = go o Q w
  where
    go : (o : Option ℕ) → ArgumentsFrom f room x p own v o → r ≡ unwrap_or o 0 → Arguments us own (bindings_at room x) v ts r
    go None Q w = absurd (i w)
    go (Some d) Q w = subst (Arguments us own (bindings_at room x) v ts) (sym w) (Q us ts S C K (subst (λ (l : List ℕ). Row x.count l p ts) e (row-after n ts X e p (name-past n ts X e P z))))
