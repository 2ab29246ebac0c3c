-- One walk through an expression that says which variables it holds and where it ends: from what is met in the members of a list to what is met in the list (document 01, the table of words).
use Prim.Native.Nat.{ℕ, ◌+◌, ◌-◌, ◌≤◌, ◌<◌}
use mathlib.Core.Path.{◌≡◌, refl, sym, ◌∙◌, ap, ap₂, subst}
use mathlib.Core.Bool.{Bool, true, false, ◌||◌}
use mathlib.Core.List.{List, []}
use native.Mathlib.Omega.{arith}
use lib.Dec.{eqb}
use lib.ListN.{length, get_or}
use borrow.Author.Tests.{eqb-true, eqb-false}
use Rattle.basics.specs.Choice.{choose}
use Rattle.basics.specs.Tells.{Tells, told-yes}
use Rattle.basics.specs.Text.{octets}
use Rattle.std.specs.Prelude.{Option, Some, None}
use Rattle.sexp.specs.Decimal.{decimal_onto, decimal}
use Rattle.sexp.specs.Past.{Ends, PastAt}
use Rattle.sexp.specs.Sexp.{Sexp, Sexps, str, list, nil, cons, spell, spells, Stands, StandsAll, nesting, nestings}
use Rattle.sexp.specs.WordsAt.{Numeral, NumberAt}
use Rattle.sexp.proofs.DecimalLaws.{onto-small}
use Rattle.sexp.proofs.FoundLaws.{ends-others}
use Rattle.sexp.proofs.OntoLaws.{spell-some}
use Rattle.sexp.proofs.StandLaws.{byte_inside, stands-inside, first-stands, none-closes, closes-none, opens-list, list-stands, more-stand, none-stand, list_length, cons-length}
use Rattle.sexp.proofs.WordsAtLaws.{number_is, numeral-stands}
use Rattle.packet.specs.File.{most_bytes}
use Rattle.room.specs.Layout.{levels}
use Rattle.room.specs.Where.{plus}
use Rattle.mentions.specs.Mentions.{inside, insides}
use Rattle.held.specs.declared.variables.Met.{Met}
use Rattle.held.specs.declared.variables.Met.TheVariants as M
use Rattle.held.specs.Held.{binds, after_first, asks_first, held_in, held_any, AroundAt, HeldAt, Holding, PastBy, Meets, MeetsVariable, PastVariable, met_by}
use Rattle.held.proofs.VariableLaws.{slice, word-length, or-none, members-at, begins-told, around-insides, around-most, asks_none, asks-within, asks-without, held-list, held-variable, holding}

-- members still to come: whether one of them holds a variable decides, unless one before them does
pub record HeldRest (s : List ℕ) (depth nest : ℕ) (p : ℕ → Bool) (q d : ℕ) (before whole : Bool) : Type 0 where
  pub rest : Sexps
  pub stands : StandsAll s q rest
  pub less : nestings rest + 1 ≤ nest
  pub deep : d ≤ depth + 1
  pub same : nest ≤ levels → depth + nest ≤ most_bytes → whole ≡ before || held_any (insides d p) rest

-- of the list at an offset, members are asked up to q, each d quantifiers inside
abbrev pub HeldLeft : List ℕ → ℕ → ℕ → ℕ → (ℕ → Bool) → ℕ → ℕ → Bool → Type 0
HeldLeft s at depth nest p q d before = (xs : Sexps) → Stands s at (list xs) → nesting (list xs) ≤ nest → HeldRest s depth nest p q d before (held_in (insides depth p) (list xs))

or-next : (a b c : Bool) → a || (b || c) ≡ (a || b) || c
or-next true b c = refl
or-next false b c = refl

module _ (s : List ℕ) (at depth nest : ℕ) (p : ℕ → Bool) where
  left-start : length s ≤ slice → {i q d : ℕ} {t : Bool} → i ≡ plus at 1 → Tells t (Stands s i (str (octets "v"))) → t ≡ false → AroundAt s at depth d → q ≡ plus at 1 → HeldLeft s at depth nest p q d false
  left-start small {i} {q} {d} {t} j T y around k xs h n = record {
    rest = xs;
    stands = members-at s at small k h;
    less = n;
    deep = around-most depth (binds xs) (around xs h);
    same = λ l m.
        ap (λ (z : Bool). choose z (asks_first (insides depth p) (after_first xs)) (held_any (choose (binds xs) (inside (insides depth p)) (insides depth p)) xs)) (sym (begins-told s at small (octets "v") j T xs h) ∙ y)
        ∙ ap (λ (P : ℕ → Bool). held_any P xs) (around-insides depth p (binds xs) (omega (arith, n, m)) (around xs h));
  }

  module _ {q d : ℕ} {before : Bool} (L : HeldLeft s at depth nest p q d before) where
    -- no member is left
    left_end : get_or s at 0 ≡ 40 → get_or s q 0 ≡ 41 → HeldAt s at depth nest p before
    left_end b c = held-list s at depth nest p before b (λ xs h n l m. go (L xs h n) l m)
      where
        go : {whole : Bool} → HeldRest s depth nest p q d before whole → nest ≤ levels → depth + nest ≤ most_bytes → before ≡ whole
        go R l m = sym (R.same l m ∙ ap (λ (z : Sexps). before || held_any (insides d p) z) (closes-none R.stands c) ∙ or-none before)

    module _ (c : get_or s q 0 ≡ 41 → ⊥) where
      -- one is, and it holds a variable
      left-asked : get_or s at 0 ≡ 40 → before ≡ false → HeldAt s q d (nest - 1) p true → HeldAt s at depth nest p true
      left-asked b f H = held-list s at depth nest p true b (λ xs h n l m. go (L xs h n) l m)
        where
          go : {whole : Bool} → HeldRest s depth nest p q d before whole → nest ≤ levels → depth + nest ≤ most_bytes → true ≡ whole
          go {whole} R l m = some R.rest R.stands R.less (R.same l m)
            where
              some : (xs : Sexps) → StandsAll s q xs → nestings xs + 1 ≤ nest → whole ≡ before || held_any (insides d p) xs → true ≡ whole
              some nil h n e = absurd (c (none-closes h))
              some (cons x xs) h n e =
                  let z = H x (first-stands h) (omega (arith, n)) (omega (arith, l)) (omega (arith, R.deep, n, m)) in
                  sym (e ∙ ap₂ (λ (a b : Bool). a || (b || held_any (insides d p) xs)) f (sym z))

      -- one is, and those after it are left
      left-next : {r : Bool} {k : ℕ} → HeldAt s q d (nest - 1) p r → Ends s q (nest - 1) k → HeldLeft s at depth nest p k d (before || r)
      left-next {r} {k} H E xs h n = go (L xs h n)
        where
          go : {whole : Bool} → HeldRest s depth nest p q d before whole → HeldRest s depth nest p k d (before || r) whole
          go {whole} R = some R.rest R.stands R.less R.same
            where
              some : (xs : Sexps) → StandsAll s q xs → nestings xs + 1 ≤ nest → (nest ≤ levels → depth + nest ≤ most_bytes → whole ≡ before || held_any (insides d p) xs) → HeldRest s depth nest p k d (before || r) whole
              some nil h n e = absurd (c (none-closes h))
              some (cons x xs) h n e = record {
                rest = xs;
                stands = ends-others h E;
                less = omega (arith, n);
                deep = R.deep;
                same = λ l m.
                    e l m
                    ∙ ap (λ (y : Bool). before || (y || held_any (insides d p) xs)) (sym (H x (first-stands h) (omega (arith, n)) (omega (arith, l)) (omega (arith, R.deep, n, m))))
                    ∙ or-next before r (held_any (insides d p) xs);
              }

      -- one is, and none stands there
      left-lost : get_or s at 0 ≡ 40 → PastAt s q (nest - 1) None → PastAt s at nest None
      left-lost b f = none
        where
          some : (xs : Sexps) → StandsAll s q xs → nestings xs + 1 ≤ nest → ⊥
          some nil h n = c (none-closes h)
          some (cons x xs) h n = f x (first-stands h) (omega (arith, n))

          none : (e : Sexp) → Stands s at e → nesting e ≤ nest → ⊥
          none e h n =
              let (xs, z) = opens-list h b in
              let R = L xs (subst (λ (y : Sexp). Stands s at y) z h) (subst (λ (y : Sexp). nesting y ≤ nest) z n) in
              some R.rest R.stands R.less

-- the members up to q and any that stand there make the list at an offset
abbrev pub Closing : List ℕ → ℕ → ℕ → ℕ → Type 0
Closing s at nest q = (ys : Sexps) → StandsAll s q ys → nestings ys + 1 ≤ nest → Ends s at nest (q + length (spells ys) + 1)

module _ (s : List ℕ) (at nest : ℕ) where
  closing-start : {q : ℕ} → get_or s at 0 ≡ 40 → q ≡ at + 1 → Closing s at nest q
  closing-start {q} b e ys h n = record {
    expression = list ys;
    stands = list-stands b (subst (λ (i : ℕ). StandsAll s i ys) e h);
    shallow = n;
    ends = omega (arith, e, list_length ys);
  }

  closing-next : {q n : ℕ} → (nest ≡ 0 → ⊥) → Closing s at nest q → Ends s q (nest - 1) n → Closing s at nest n
  closing-next {q} {n} z C E ys h k =
      let x = E.expression in
      let r = C (cons x ys) (more-stand E.stands (subst (λ (i : ℕ). StandsAll s i ys) E.ends h)) (omega (arith, z, E.shallow, k)) in
      record { expression = r.expression; stands = r.stands; shallow = r.shallow; ends = omega (arith, r.ends, E.ends, cons-length x ys) }

  closing_end : {q : ℕ} → (nest ≡ 0 → ⊥) → Closing s at nest q → get_or s q 0 ≡ 41 → Ends s at nest (q + 1)
  closing_end {q} z C c =
      let r = C nil (none-stand c) (omega (arith, z)) in
      record { expression = r.expression; stands = r.stands; shallow = r.shallow; ends = omega (arith, r.ends) }

-- of the list at an offset, members are walked through up to q: none holds a variable that is asked for, and whether one holds another is known
pub record Meeting (s : List ℕ) (at depth nest : ℕ) (p o : ℕ → Bool) (q d : ℕ) (with : Bool) : Type 0 where
  pub none : HeldLeft s at depth nest p q d false
  pub others : HeldLeft s at depth nest o q d with
  pub closing : Closing s at nest q

-- a word where it is found
pub word-there : {s : List ℕ} (at : ℕ) {i : ℕ} {t : Bool} {w : List ℕ} → i ≡ plus at 1 → Tells t (Stands s i (str w)) → t ≡ true → Stands s (plus at 1) (str w)
word-there {s} at {w = w} e T y = subst (λ (i : ℕ). Stands s i (str w)) e (told-yes y T)

module _ (s : List ℕ) (at depth nest : ℕ) (p o : ℕ → Bool) where
  -- what is met, by the end that is found
  pub meets-asked : HeldAt s at depth nest p true → Meets s at depth nest p o M.Asked
  meets-asked H = holding s at depth nest p true H

  pub meets-ended : {r : Met} (a : Option ℕ) (b : Bool) → r ≡ met_by a b → PastAt s at nest a → HeldAt s at depth nest p false → HeldAt s at depth nest o b → Meets s at depth nest p o r
  meets-ended {r} a b e E H G = subst (Meets s at depth nest p o) (sym e) (go a E)
    where
      go : (a : Option ℕ) → PastAt s at nest a → Meets s at depth nest p o (met_by a b)
      go (Some n) E = record { none = holding s at depth nest p false H; others = holding s at depth nest o b G; ends = E }
      go None E = E

  -- where it is known what is met: whether the expression holds a variable that is asked for
  pub met-asked : (r : Met) → r ≡ M.Asked → Meets s at depth nest p o r → Holding s at depth nest p true
  met-asked r e h = subst (Meets s at depth nest p o) e h

  pub met-past : (r : Met) {b : Bool} {n : ℕ} → r ≡ M.Past b n → Meets s at depth nest p o r → PastBy s at depth nest p o b n
  met-past r e h = subst (Meets s at depth nest p o) e h

  pub met-nothing : (r : Met) → r ≡ M.Nothing → Meets s at depth nest p o r → (q : ℕ → Bool) → Holding s at depth nest q false
  met-nothing r e h q = let none = subst (Meets s at depth nest p o) e h in holding s at depth nest q false (λ x g n l m. absurd (none x g n))

  module _ {b : Bool} (e : b ≡ eqb (get_or s at 0) 40) (f : b ≡ true) where
    opens : get_or s at 0 ≡ 40
    opens = eqb-true (get_or s at 0) 40 (sym e ∙ f)

    pub meeting-start : length s ≤ slice → {i q d : ℕ} {t : Bool} → i ≡ plus at 1 → Tells t (Stands s i (str (octets "v"))) → t ≡ false → AroundAt s at depth d → q ≡ plus at 1 → Meeting s at depth nest p o q d false
    meeting-start small j T y around k =
        let i = byte_inside s at 40 opens (omega arith) in
        record {
          none = left-start s at depth nest p small j T y around k;
          others = left-start s at depth nest o small j T y around k;
          closing = closing-start s at nest opens (omega (arith, i, k, small));
        }

    module _ (z : nest ≡ 0 → ⊥) {q d : ℕ} {with : Bool} (L : Meeting s at depth nest p o q d with) {c : Bool} (g : c ≡ eqb (get_or s q 0) 41) where
      pub meeting-end : length s ≤ slice → {n : ℕ} → c ≡ true → n ≡ plus q 1 → Meets s at depth nest p o (M.Past with n)
      meeting-end small {n} t k =
          let b = eqb-true (get_or s q 0) 41 (sym g ∙ t) in
          let i = byte_inside s q 41 b (omega arith) in
          record {
            none = holding s at depth nest p false (left_end s at depth nest p L.none opens b);
            others = holding s at depth nest o with (left_end s at depth nest o L.others opens b);
            ends = subst (λ (j : ℕ). Ends s at nest j) {x = q + 1} {y = n} (omega (arith, i, k, small)) (closing_end s at nest z L.closing b);
          }

      module _ (t : c ≡ false) (r : Met) (R : Meets s q d (nest - 1) p o r) where
        more : get_or s q 0 ≡ 41 → ⊥
        more = eqb-false (get_or s q 0) 41 (sym g ∙ t)

        pub meeting-asked : r ≡ M.Asked → Meets s at depth nest p o M.Asked
        meeting-asked y = holding s at depth nest p true (left-asked s at depth nest p L.none more opens refl (subst (Meets s q d (nest - 1) p o) y R).expression)

        pub meeting-lost : r ≡ M.Nothing → Meets s at depth nest p o M.Nothing
        meeting-lost y = left-lost s at depth nest p L.none more opens (subst (Meets s q d (nest - 1) p o) y R)

        pub meeting-next : {b : Bool} {n : ℕ} {new : Bool} → r ≡ M.Past b n → new ≡ with || b → Meeting s at depth nest p o n d new
        meeting-next {b} {n} y k =
            let P : PastBy s q d (nest - 1) p o b n = subst (Meets s q d (nest - 1) p o) y R in
            subst (Meeting s at depth nest p o n d) (sym k)
            (record {
              none = left-next s at depth nest p L.none more P.none.expression P.ends;
              others = left-next s at depth nest o L.others more P.others.expression P.ends;
              closing = closing-next s at nest z L.closing P.ends;
            })

        pub meeting-less : {b : Bool} {n : ℕ} → r ≡ M.Past b n → (q < n) × (n ≤ length s)
        meeting-less {b} {n} y =
            let P : PastBy s q d (nest - 1) p o b n = subst (Meets s q d (nest - 1) p o) y R in
            let E = P.ends in
            let i = stands-inside E.stands in
            let k = spell-some E.expression in
            (omega (arith, E.ends), omega (arith, E.ends))

-- a variable, by its number
module _ (s : List ℕ) (at depth nest : ℕ) (p o : ℕ → Bool) (small : length s ≤ slice) {j : ℕ} (k : j ≡ plus at 4) (n : Option ℕ) (N : NumberAt s j n) where
  there : NumberAt s (plus at 4) n
  there = subst (λ (i : ℕ). NumberAt s i n) k N

  pub variable-none : {r : Met} (a : Option ℕ) → n ≡ None → r ≡ met_by a false → PastAt s at nest a → MeetsVariable s at depth nest p o r
  variable-none a y e E b z w = meets-ended s at depth nest p o a false e E (none p) (none o)
    where
      none : (p : ℕ → Bool) → HeldAt s at depth nest p false
      none p = held-variable s at depth nest p small b w false (asks_none s (plus at 4) depth p y there)

  module _ {i : ℕ} (y : n ≡ Some i) where
    pub variable-within : {r : Met} (a : Option ℕ) → i < depth → r ≡ met_by a false → PastVariable s at nest i a → MeetsVariable s at depth nest p o r
    variable-within a l e E b z w = meets-ended s at depth nest p o a false e (E b z w (number_is y there)) (none p) (none o)
      where
        none : (p : ℕ → Bool) → HeldAt s at depth nest p false
        none p = held-variable s at depth nest p small b w false (asks-within s (plus at 4) depth p y there l)

    module _ (l : depth ≤ i) where
      says : (p : ℕ → Bool) (x : Bool) → x ≡ p (i - depth) → get_or s at 0 ≡ 40 → Stands s (plus at 1) (str (octets "v")) → HeldAt s at depth nest p x
      says p x f b w = held-variable s at depth nest p small b w x (asks-without s (plus at 4) depth p x y there l f)

      pub variable-asked : true ≡ p (i - depth) → MeetsVariable s at depth nest p o M.Asked
      variable-asked f b z w = meets-asked s at depth nest p o (says p true f b w)

      pub variable-past : {r : Met} (a : Option ℕ) (x : Bool) → false ≡ p (i - depth) → x ≡ o (i - depth) → r ≡ met_by a x → PastVariable s at nest i a → MeetsVariable s at depth nest p o r
      variable-past a x f g e E b z w = meets-ended s at depth nest p o a x e (E b z w (number_is y there)) (says p false f b w) (says o x g b w)

-- one whose number has one digit is eight bytes long
digit-length : (i : ℕ) → i < 10 → length (spell (str (decimal i))) ≡ 3
unfolding decimal decimal_onto
digit-length i l = ap (λ (w : List ℕ). length (spell (str w))) (onto-small i [] l)

pub variable-ends : (s : List ℕ) (at nest i : ℕ) {c : Bool} {q n : ℕ} → length s ≤ slice → i ≤ 9 → q ≡ plus at 7 → c ≡ eqb (get_or s q 0) 41 → c ≡ true → n ≡ plus at 8 → get_or s at 0 ≡ 40 → (nest ≡ 0 → ⊥) → Stands s (plus at 1) (str (octets "v")) → Numeral s (plus at 4) i → Ends s at nest n
variable-ends s at nest i {c} {q} {n} small l j g t k b z w d =
    let v = byte_inside s at 40 b (omega arith) in
    let a = stands-inside w in
    let m = digit-length i (omega (arith, l)) in
    let y = (numeral-stands d).1 in
    let u = stands-inside y in
    let x = str (decimal i) in
    let e : plus at 1 + length (spell (str (octets "v"))) ≡ plus at 4 = omega (arith, v, word-length, small) in
    let f : plus at 4 + length (spell x) ≡ q = omega (arith, v, word-length, m, a, j, small) in
    let ys : Sexps = cons (str (octets "v")) (cons x nil) in
    let h = closing-start s at nest {q = plus at 1} b (omega (arith, v, small)) ys (more-stand w (subst (λ (o : ℕ). StandsAll s o (cons x nil)) (sym e) (more-stand y (subst (λ (o : ℕ). StandsAll s o nil) (sym f) (none-stand (eqb-true (get_or s q 0) 41 (sym g ∙ t))))))) (omega (arith, z)) in
    record { expression = h.expression; stands = h.stands; shallow = h.shallow; ends = omega (arith, h.ends, cons-length (str (octets "v")) (cons x nil), cons-length x nil, word-length, m, v, a, k, small) }
