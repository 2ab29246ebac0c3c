-- A path that takes a clause apart from outside (document 01, "When a strip fits"): what its next step does to a clause, where both stand in bytes.
use Rattle.std.specs.Prelude.{None, Option}
use Prim.Native.Nat.{ℕ, ◌+◌, ◌≤◌, ◌<◌}
use native.Mathlib.Omega.{arith}
use mathlib.Core.Path.{◌≡◌, refl, sym, ◌∙◌, ap, subst}
use mathlib.Core.Bool.{Bool, true, false}
use mathlib.Core.List.{List, [], ◌∷◌}
use lib.Dec.{ltb, eqb}
use lib.ListN.{get_or}
use borrow.Author.Tests.{ltb-true, ltb-false, eqb-true, eqb-false}
use Rattle.basics.specs.Choice.{both_true, provided}
use Rattle.basics.specs.Text.{octets}
use Rattle.harrop.specs.declared.Binding.TheVariants.{Candidate}
use Rattle.harrop.specs.Formula.{Atom, Clause, Step}
use Rattle.harrop.specs.Place.{Plain, allowed, follow, listed}
use Rattle.harrop.proofs.ListLaws.{beyond-none}
use Rattle.sexp.specs.Decimal.{decimal}
use Rattle.sexp.specs.Words.{worth, is_number}
use Rattle.sexp.specs.WordsAt.{Numeral}
use Rattle.sexp.specs.Past.{Ends}
use Rattle.sexp.specs.Sexp.{Sexp, Sexps, Stands, StandsAll, nesting}
use Rattle.sexp.proofs.DecimalLaws.{onto-first}
use Rattle.sexp.proofs.WordLaws.{worth-decimal, decimal-is}
use Rattle.sexp.proofs.WordsAtLaws.{numeral-stands}
use Rattle.sexp.proofs.StandLaws.{members-stand, first-stands, others-stand, none-closes, no-closing, string-once}
use Rattle.packet.specs.Written.{word, number, each, clause_sexp, step_sexp}
use Rattle.packet.specs.Barred.{clause_ok}
use Rattle.packet.specs.Offset.{width}
use Rattle.room.specs.Layout.{levels}
use Rattle.uses.specs.Use.{Inner, Bound, Turns, AtAnd, AtAll}
use Rattle.uses.specs.declared.uses.Turn.{Turn}
use Rattle.uses.proofs.NodeLaws.{heads, first_part, second-part, ends_is}

-- whether a list closes at an offset, by the code's test
pub closes-yes : {c : ℕ} {r : Bool} → r ≡ eqb c 41 → r ≡ true → c ≡ 41
closes-yes {c} e t = eqb-true c 41 (sym e ∙ t)

pub closes-no : {c : ℕ} {r : Bool} → r ≡ eqb c 41 → r ≡ false → c ≡ 41 → ⊥
closes-no {c} e t = eqb-false c 41 (sym e ∙ t)

-- no number is the word `l` or `r`
decimal_digit : (n : ℕ) → get_or (decimal n) 0 0 < 58
unfolding decimal
decimal_digit n = let (c, r, e, l) = onto-first n [] in omega (arith, ap (λ (w : List ℕ). get_or w 0 0) e, l.1)

pub no_number : (n c : ℕ) (w : List ℕ) → 58 ≤ c → c ∷ w ≡ decimal n → ⊥
no_number n c w h e = omega (arith, ap (λ (x : List ℕ). get_or x 0 0) e, decimal_digit n)

-- a number at an offset is the one whose digits stand there
pub number-agrees : {s : List ℕ} {at n k : ℕ} → Numeral s at n → Stands s at (number k) → n ≡ k
number-agrees {s} {at} {n} {k} h g = sym (worth-decimal n) ∙ ap worth (string-once (numeral-stands h).1 g) ∙ worth-decimal k

-- digits that are no number of one to three say more than 999
pub far-number : {s : List ℕ} {at k : ℕ} → Stands s at (number k) → ((w : List ℕ) → Stands s at (Sexp.str w) → is_number w ≡ true → ⊥) → 999 < k
far-number {s} {at} {k} h n = go (ltb 999 k) refl
  where
    go : (b : Bool) → ltb 999 k ≡ b → 999 < k
    go true t = ltb-true 999 k t
    go false t = absurd (n (decimal k) h (decimal-is k (ltb-false 999 k t)))

-- a step is a string
pub step-flat : (s : Step) → nesting (step_sexp s) ≡ 0
step-flat Step.l = refl
step-flat Step.r = refl
step-flat (Step.n i) = refl

-- the steps after the next one
later-steps : (strip : List ℕ) (at next : ℕ) (s : Step) (path : List Step) → StandsAll strip at (each step_sexp (s ∷ path)) → next ≡ at + width (step_sexp s) → StandsAll strip next (each step_sexp path)
later-steps strip at next s path h e = subst (λ (i : ℕ). StandsAll strip i (each step_sexp path)) (sym e) (others-stand h)

-- at an `and`
module _ (clause strip : List ℕ) (at next : ℕ) (c d : Clause Plain) (path : List Step) where
  pub and_left : (s : Step) → Stands clause 0 (clause_sexp (Clause.and_d c d)) → StandsAll strip at (each step_sexp (s ∷ path)) → next ≡ at + width (step_sexp s) → Stands strip at (Sexp.str (octets "l")) → Inner clause strip (Clause.and_d c d) (s ∷ path) 6 next
  and_left Step.l k h e w =
      record {
        inner = c;
        rest = path;
        stands = first_part (octets "and") heads.1.0 k;
        steps = later-steps strip at next Step.l path h e;
        shallower = omega arith;
        scoped = λ m t. (both_true (clause_ok m c) (clause_ok m d) t).0;
        same = λ us o bs. refl;
      }
  and_left Step.r k h e w = absurd (omega (arith, ap (λ (x : List ℕ). get_or x 0 0) (string-once w (first-stands h))))
  and_left (Step.n i) k h e w = absurd (no_number i 108 [] (omega arith) (string-once w (first-stands h)))

  pub and_right : (s : Step) (i : ℕ) → Stands clause 0 (clause_sexp (Clause.and_d c d)) → StandsAll strip at (each step_sexp (s ∷ path)) → next ≡ at + width (step_sexp s) → Stands strip at (Sexp.str (octets "r")) → Ends clause 6 levels i → Inner clause strip (Clause.and_d c d) (s ∷ path) i next
  and_right Step.l i k h e w x = absurd (omega (arith, ap (λ (x : List ℕ). get_or x 0 0) (string-once w (first-stands h))))
  and_right Step.r i k h e w x =
      record {
        inner = d;
        rest = path;
        stands = subst (λ (j : ℕ). Stands clause j (clause_sexp d)) (omega (arith, ends_is (first_part (octets "and") heads.1.0 k) x)) (second-part (octets "and") heads.1.0 k);
        steps = later-steps strip at next Step.r path h e;
        shallower = omega arith;
        scoped = λ m t. (both_true (clause_ok m c) (clause_ok m d) t).1;
        same = λ us o bs. refl;
      }
  and_right (Step.n j) i k h e w x = absurd (no_number j 114 [] (omega arith) (string-once w (first-stands h)))

  pub and-neither : (s : Step) → StandsAll strip at (each step_sexp (s ∷ path)) → (Stands strip at (Sexp.str (octets "l")) → ⊥) → (Stands strip at (Sexp.str (octets "r")) → ⊥) → Turns clause strip (Clause.and_d c d) (s ∷ path) None
  and-neither Step.l h n m = absurd (n (first-stands h))
  and-neither Step.r h n m = absurd (m (first-stands h))
  and-neither (Step.n i) h n m = λ us o bs l. refl

  -- the first clause of two is found
  pub and-found : Stands clause 0 (clause_sexp (Clause.and_d c d)) → nesting (clause_sexp (Clause.and_d c d)) ≤ levels → ((e : Sexp) → Stands clause 6 e → nesting e ≤ levels → ⊥) → ⊥
  and-found k l n = n (clause_sexp c) (first_part (octets "and") heads.1.0 k) (omega arith)

-- at an `all`
module _ (clause strip : List ℕ) (at next : ℕ) (q : Plain) (d : Clause Plain) (path : List Step) where
  pub all-bound : (n : ℕ) (s : Step) → Stands clause 0 (clause_sexp (Clause.all_d q d)) → StandsAll strip at (each step_sexp (s ∷ path)) → next ≡ at + width (step_sexp s) → Numeral strip at n → Bound clause strip (Clause.all_d q d) (s ∷ path) n next
  all-bound n Step.l k h e w = absurd (no_number n 108 [] (omega arith) (string-once (first-stands h) (numeral-stands w).1))
  all-bound n Step.r k h e w = absurd (no_number n 114 [] (omega arith) (string-once (first-stands h) (numeral-stands w).1))
  all-bound n (Step.n i) k h e w =
      record {
        carried = q;
        inner = d;
        rest = path;
        stands = first_part (octets "all") heads.1.1.1.1.1.1.0 k;
        steps = later-steps strip at next (Step.n i) path h e;
        shallower = omega arith;
        scoped = λ m t. t;
        same = λ us o bs. ap (λ (j : ℕ). provided (allowed (listed us) o q j) (follow (listed us) o d (Candidate j ∷ bs) path)) (sym (number-agrees w (first-stands h)));
      }

  pub all_none : (s : Step) → StandsAll strip at (each step_sexp (s ∷ path)) → ((w : List ℕ) → Stands strip at (Sexp.str w) → is_number w ≡ true → ⊥) → Turns clause strip (Clause.all_d q d) (s ∷ path) None
  all_none Step.l h n = λ us o bs l. refl
  all_none Step.r h n = λ us o bs l. refl
  all_none (Step.n i) h n = λ us o bs l. rw (beyond-none us i (omega (arith, far-number (first-stands h) n, l)), allowed) refl

-- what a clause is by its word: the second octets of the four words differ
pub clause-word : (clause w v : List ℕ) (xs : Sexps) → Stands clause 0 (word v xs) → Stands clause 1 (Sexp.str w) → get_or w 1 0 ≡ get_or v 1 0
clause-word clause w v xs h g = ap (λ (x : List ℕ). get_or x 1 0) (string-once g (first-stands (members-stand h)))

module _ (clause strip : List ℕ) (at next : ℕ) (r : Option Turn) where
  -- the next step of a path, at a clause that begins with `and`, with `all`, or with neither
  pub turn-and : (d : Clause Plain) (path : List Step) → (get_or strip at 0 ≡ 41 → ⊥) → Ends strip at 0 next → Stands clause 1 (Sexp.str (octets "and")) → AtAnd clause strip at next r → Stands clause 0 (clause_sexp d) → nesting (clause_sexp d) ≤ levels → StandsAll strip at (each step_sexp path) → Turns clause strip d path r
  turn-and (Clause.atom_d (Atom.atom p ts)) path n x w t k l h = absurd (omega (arith, clause-word clause (octets "and") (octets "atom") _ k w))
  turn-and (Clause.imp_d g a) path n x w t k l h = absurd (omega (arith, clause-word clause (octets "and") (octets "imp") _ k w))
  turn-and (Clause.all_d q d) path n x w t k l h = absurd (omega (arith, clause-word clause (octets "and") (octets "all") _ k w))
  turn-and (Clause.and_d c d) [] n x w t k l h = absurd (n (none-closes h))
  turn-and (Clause.and_d c d) (s ∷ path) n x w t k l h = t c d s path k l h (ends_is (first-stands h) x)

  pub turn-all : (d : Clause Plain) (path : List Step) → (get_or strip at 0 ≡ 41 → ⊥) → Ends strip at 0 next → Stands clause 1 (Sexp.str (octets "all")) → AtAll strip at next r → Stands clause 0 (clause_sexp d) → StandsAll strip at (each step_sexp path) → Turns clause strip d path r
  turn-all (Clause.atom_d (Atom.atom p ts)) path n x w t k h = absurd (omega (arith, clause-word clause (octets "all") (octets "atom") _ k w))
  turn-all (Clause.imp_d g a) path n x w t k h = absurd (omega (arith, clause-word clause (octets "all") (octets "imp") _ k w))
  turn-all (Clause.and_d c d) path n x w t k h = absurd (omega (arith, clause-word clause (octets "all") (octets "and") _ k w))
  turn-all (Clause.all_d q d) [] n x w t k h = absurd (n (none-closes h))
  turn-all (Clause.all_d q d) (s ∷ path) n x w t k h = t clause q d s path k h (ends_is (first-stands h) x)

pub turn-neither : (clause strip : List ℕ) (at : ℕ) (d : Clause Plain) (path : List Step) → (get_or strip at 0 ≡ 41 → ⊥) → (Stands clause 1 (Sexp.str (octets "and")) → ⊥) → (Stands clause 1 (Sexp.str (octets "all")) → ⊥) → Stands clause 0 (clause_sexp d) → StandsAll strip at (each step_sexp path) → Turns clause strip d path None
turn-neither clause strip at (Clause.atom_d a) [] n u v k h = absurd (n (none-closes h))
turn-neither clause strip at (Clause.atom_d a) (s ∷ path) n u v k h = λ us o bs l. refl
turn-neither clause strip at (Clause.imp_d g a) [] n u v k h = absurd (n (none-closes h))
turn-neither clause strip at (Clause.imp_d g a) (s ∷ path) n u v k h = λ us o bs l. refl
turn-neither clause strip at (Clause.all_d q d) path n u v k h = absurd (v (first-stands (members-stand k)))
turn-neither clause strip at (Clause.and_d c d) path n u v k h = absurd (u (first-stands (members-stand k)))

module _ (strip : List ℕ) (at : ℕ) where
  pub turn-ended : (path : List Step) → get_or strip at 0 ≡ 41 → StandsAll strip at (each step_sexp path) → path ≡ []
  turn-ended [] e h = refl
  turn-ended (s ∷ path) e h = absurd (no-closing (first-stands h) e)

  -- a step stands there and nests not at all, so what is past it is found
  pub turn-found : (path : List Step) → (get_or strip at 0 ≡ 41 → ⊥) → ((e : Sexp) → Stands strip at e → nesting e ≤ 0 → ⊥) → StandsAll strip at (each step_sexp path) → ⊥
  turn-found [] n x h = n (none-closes h)
  turn-found (s ∷ path) n x h = x (step_sexp s) (first-stands h) (omega (arith, step-flat s))
