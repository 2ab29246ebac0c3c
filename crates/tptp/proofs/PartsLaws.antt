-- What is measured of the lines comes to what crate fof_part makes of them, one test after the other; and the second reading writes just the files that were measured.
use Prim.Native.Nat.{ℕ, ◌+◌, ◌<◌, ◌≤◌, min}
use mathlib.Core.Path.{◌≡◌, refl, sym, ◌∙◌, ap, ap₂}
use mathlib.Core.Bool.{Bool, true, false, ◌||◌, false≢true}
use mathlib.Core.List.{List, [], ◌∷◌, append-nil}
use mathlib.Core.Option.{Option, none, some}
use native.Mathlib.Omega.{arith}
use lib.Dec.{ltb, leb}
use lib.ListN.{length}
use borrow.Author.Tests.{ltb-true, ltb-false, lt-ltb, le-ltb, le-leb, lt-leb, leb-true, leb-false}
use Rattle.std.specs.Prelude.{Some, None}
use Rattle.std.specs.Prelude as std
use Rattle.basics.specs.Choice.{choose, ◌>>=◌, maybe}
use Rattle.packet.specs.File.{most_bytes, most_members}
use Rattle.pen.specs.Laid.{counted}
use Rattle.fof_tokens.specs.Token.{Token}
use Rattle.fof_tokens.specs.Next.{tokens}
use Rattle.fof_truth.specs.Formula.{Role}
use Rattle.fof_truth.specs.Book.{Why}
use Rattle.fof_part.specs.Sign.{signs}
use Rattle.fof_part.specs.Mark.{Mark, inked}
use Rattle.fof_part.specs.Lines.{lines_at}
use Rattle.fof_part.specs.Files.{axioms_in, conjectures_in, joined, rules_marks}
use Rattle.fof_part.specs.Made.{Made, only_marks, by_tests, are_deep, are_long, sized_marks, made_from, made_of}
use Rattle.fof_pass.specs.declared.ink.Pen.{Pen}
use Rattle.fof_lines.specs.declared.lines.Passed.{Passed}
use Rattle.fof_pass.specs.Ahead.{signs_at}
use Rattle.fof_pass.specs.Ink.{Level, Inks}
use Rattle.fof_lines.specs.Lined.{begins, FiledAs, Passes}
use Rattle.fof_pass.proofs.InkLaws.{deep_is}
use Rattle.tptp.specs.Parts.{made_number, Measured, Sized, SizedAs, Measures, Reasons}

abbrev Items : Type 0
Items = List (Role × List Mark)

-- marks that a pen has written from the start are measured
inks-measure : {ms : List Mark} {d d' : List ℕ} {q : Pen} → Inks ms begins d d' q → Measured ms q
inks-measure {ms} i = record {
  bytes = (i.puts (omega arith)).ahead ∙ ap counted {x = 0 + length (inked ms)} {y = length (inked ms)} (omega arith);
  deep = ap (λ (l : Level). l.1) i.level ∙ deep_is 0 ms (omega arith);
}

filed-sized : (o : Option Items) (rs rs' gs gs' : List ℕ) (p : Passed) → FiledAs o rs rs' gs gs' p → SizedAs o p
filed-sized none rs rs' gs gs' p f = f
filed-sized (some is) rs rs' gs gs' p f = record { ok = f.ok; rules = inks-measure f.rules; goal = inks-measure f.goal; axioms = f.axioms; conjectures = f.conjectures }

pub signs_of : (t : List ℕ) (ts : List Token) → tokens t ≡ some ts → signs_at t 0 ≡ some (signs ts)
unfolding signs_at tokens
signs_of t ts e = ap (λ (o : Option (List Token)). o >>= λ us. some (signs us)) e

-- a reading of the lines measures them
pub pass-measures : {t rs rs' gs gs' : List ℕ} {p : Passed} → Passes t rs rs' gs gs' p → Measures t p
pass-measures {t} {rs} {rs'} {gs} {gs'} {p} h = record { does = λ l ts e. filed-sized (lines_at (signs ts)) rs rs' gs gs' p (h.does l (signs ts) (signs_of t ts e)) }

-- a length within both bounds
pub fits-room : (n a : ℕ) → n ≤ most_bytes → leb n a ≡ leb n (min a most_bytes)
fits-room n a h = go (leb n a) refl
  where
    go : (t : Bool) → leb n a ≡ t → t ≡ leb n (min a most_bytes)
    go true e = let k = leb-true n a e in sym (le-leb n (min a most_bytes) (omega arith))
    go false e = let k = leb-false n a e in sym (lt-leb n (min a most_bytes) (omega arith))

pub fits-none : (n a : ℕ) → most_bytes < n → leb n most_bytes ≡ leb n (min a most_bytes)
fits-none n a h = lt-leb n most_bytes h ∙ sym (lt-leb n (min a most_bytes) (omega arith))

-- one conjecture or not
one_only : (cs : List (List Mark)) → length cs ≡ 1 → only_marks cs ≡ some (joined cs)
one_only [] e = absurd (omega arith)
one_only (g ∷ []) e = ap some (sym (append-nil g))
one_only (g ∷ h ∷ gs) e = absurd (omega arith)

not-one : (cs : List (List Mark)) → (length cs ≡ 1 → ⊥) → only_marks cs ≡ none
not-one [] n = refl
not-one (g ∷ []) n = absurd (n refl)
not-one (g ∷ h ∷ gs) n = refl

-- a length is as long as it is counted, where it is held to a file's bytes
counted-long : (m n : ℕ) → ltb (min m most_bytes) (counted n) ≡ ltb (min m most_bytes) n
counted-long m n = go (ltb (min m most_bytes) n) refl
  where
    go : (t : Bool) → ltb (min m most_bytes) n ≡ t → ltb (min m most_bytes) (counted n) ≡ t
    go true e = let h = ltb-true (min m most_bytes) n e in lt-ltb (min m most_bytes) (counted n) (omega arith)
    go false e = let h = ltb-false (min m most_bytes) n e in le-ltb (min m most_bytes) (counted n) (omega arith)

-- the number by the three tests, in the order 6, 3, 10
abbrev number_by : Bool → Bool → Bool → std.Option ℕ
number_by m d l = choose m (Some 6) (choose d (Some 3) (choose l (Some 10) None))

tests-number : (m d l : Bool) (rs g : List ℕ) → made_number (by_tests m d l rs g) ≡ number_by m d l
tests-number true d l rs g = refl
tests-number false true l rs g = refl
tests-number false false true rs g = refl
tests-number false false false rs g = refl

module _ (p : Passed) (a c : ℕ) where
  abbrev Many : Bool
  Many = ltb most_members p.axioms

  abbrev Deep : Bool
  Deep = p.rules.deep || p.goal.deep

  abbrev Long : Bool
  Long = ltb (min a most_bytes) p.rules.at || ltb (min c most_bytes) p.goal.at

  -- what is measured of items of which one is a conjecture
  sized-number : (is : Items) → Sized is p → p.conjectures ≡ 1 → made_number (made_from a c is) ≡ number_by Many Deep Long
  unfolding sized_marks
  sized-number is s e =
      let rs = rules_marks (axioms_in is) in
      let g = joined (conjectures_in is) in
      ap (λ (o : Option (List Mark)). made_number (maybe o (Made.refused Why.outside) λ x. sized_marks a c (axioms_in is) x)) (one_only (conjectures_in is) (sym s.conjectures ∙ e))
      ∙ tests-number (ltb most_members (length (axioms_in is))) (are_deep rs g) (are_long a c (inked rs) (inked g)) (inked rs) (inked g)
      ∙ ap (λ (n : ℕ). number_by (ltb most_members n) (are_deep rs g) (are_long a c (inked rs) (inked g))) (sym s.axioms)
      ∙ ap₂ (λ (x y : Bool). number_by Many (x || y) (are_long a c (inked rs) (inked g))) (sym s.rules.deep) (sym s.goal.deep)
      ∙ ap₂ (λ (x y : Bool). number_by Many Deep (x || y)) (sym (counted-long a (length (inked rs)))) (sym (counted-long c (length (inked g))))
      ∙ ap₂ (λ (x y : ℕ). number_by Many Deep (ltb (min a most_bytes) x || ltb (min c most_bytes) y)) (sym s.rules.bytes) (sym s.goal.bytes)

  -- 13: a line outside the part
  pub outside-reason : p.ok ≡ false → Reasons p a c (Some 13)
  unfolding made_of
  outside-reason e = record { does = go }
    where
      go : (o : Option Items) → SizedAs o p → Some 13 ≡ made_number (made_of o a c)
      go none s = refl
      go (some is) s = absurd (false≢true (sym e ∙ s.ok))

  -- 13: no conjecture, or two
  pub conjectures-reason : (p.conjectures ≡ 1 → ⊥) → Reasons p a c (Some 13)
  unfolding made_of
  conjectures-reason n = record { does = go }
    where
      go : (o : Option Items) → SizedAs o p → Some 13 ≡ made_number (made_of o a c)
      go none s = refl
      go (some is) s =
          ap (λ (o : Option (List Mark)). made_number (maybe o (Made.refused Why.outside) λ x. sized_marks a c (axioms_in is) x)) (sym (not-one (conjectures_in is) λ e. n (s.conjectures ∙ e)))

  -- the three tests
  tests-reason : (m d l : Bool) → p.ok ≡ true → p.conjectures ≡ 1 → Many ≡ m → Deep ≡ d → Long ≡ l → Reasons p a c (number_by m d l)
  unfolding made_of
  tests-reason m d l y e f g h = record { does = go }
    where
      go : (o : Option Items) → SizedAs o p → number_by m d l ≡ made_number (made_of o a c)
      go none s = absurd (false≢true (sym s ∙ y))
      go (some is) s =
          sym (ap₂ (λ (x z : Bool). number_by x z Long) f g ∙ ap (number_by m d) h)
          ∙ sym (sized-number is s e)

  -- 6
  pub many-reason : p.ok ≡ true → p.conjectures ≡ 1 → most_members < p.axioms → Reasons p a c (Some 6)
  many-reason y e m = tests-reason true Deep Long y e (lt-ltb most_members p.axioms m) refl refl

  -- 3: the rules, or else the goal
  pub rules-deep-reason : p.ok ≡ true → p.conjectures ≡ 1 → p.axioms ≤ most_members → p.rules.deep ≡ true → Reasons p a c (Some 3)
  rules-deep-reason y e m d = tests-reason false true Long y e (le-ltb most_members p.axioms m) (ap (λ (t : Bool). t || p.goal.deep) d) refl

  pub goal-deep-reason : p.ok ≡ true → p.conjectures ≡ 1 → p.axioms ≤ most_members → p.rules.deep ≡ false → p.goal.deep ≡ true → Reasons p a c (Some 3)
  goal-deep-reason y e m d f = tests-reason false true Long y e (le-ltb most_members p.axioms m) (ap₂ ◌||◌ d f) refl

  -- 10: the rules, or else the goal
  long-is : (n b : ℕ) (t : Bool) → t ≡ leb n (min b most_bytes) → t ≡ false → ltb (min b most_bytes) n ≡ true
  long-is n b t e f = lt-ltb (min b most_bytes) n (leb-false n (min b most_bytes) (sym e ∙ f))

  short-is : (n b : ℕ) (t : Bool) → t ≡ leb n (min b most_bytes) → t ≡ true → ltb (min b most_bytes) n ≡ false
  short-is n b t e f = le-ltb (min b most_bytes) n (leb-true n (min b most_bytes) (sym e ∙ f))

  pub rules-long-reason : (t : Bool) → p.ok ≡ true → p.conjectures ≡ 1 → p.axioms ≤ most_members → p.rules.deep ≡ false → p.goal.deep ≡ false → t ≡ leb p.rules.at (min a most_bytes) → t ≡ false → Reasons p a c (Some 10)
  rules-long-reason t y e m d f k n =
      tests-reason false false true y e (le-ltb most_members p.axioms m) (ap₂ ◌||◌ d f) (ap (λ (t : Bool). t || ltb (min c most_bytes) p.goal.at) (long-is p.rules.at a t k n))

  pub goal-long-reason : (t u : Bool) → p.ok ≡ true → p.conjectures ≡ 1 → p.axioms ≤ most_members → p.rules.deep ≡ false → p.goal.deep ≡ false → t ≡ leb p.rules.at (min a most_bytes) → t ≡ true → u ≡ leb p.goal.at (min c most_bytes) → u ≡ false → Reasons p a c (Some 10)
  goal-long-reason t u y e m d f k n j o =
      tests-reason false false true y e (le-ltb most_members p.axioms m) (ap₂ ◌||◌ d f) (ap₂ ◌||◌ (short-is p.rules.at a t k n) (long-is p.goal.at c u j o))

  -- none: both files fit
  pub no-reason : (t u : Bool) → p.ok ≡ true → p.conjectures ≡ 1 → p.axioms ≤ most_members → p.rules.deep ≡ false → p.goal.deep ≡ false → t ≡ leb p.rules.at (min a most_bytes) → t ≡ true → u ≡ leb p.goal.at (min c most_bytes) → u ≡ true → Reasons p a c None
  no-reason t u y e m d f k n j o =
      tests-reason false false false y e (le-ltb most_members p.axioms m) (ap₂ ◌||◌ d f) (ap₂ ◌||◌ (short-is p.rules.at a t k n) (short-is p.goal.at c u j o))
