-- Two expressions with one spelling are the same, and no spelling is a proper beginning of another; hinted strings included.
-- Both are one law: the bytes tell the expression at their front and what follows it. From document 01, "A file is one expression and not a byte more".
use Prim.Native.Nat.{ℕ, ◌+◌, ◌≤◌}
use mathlib.Core.Path.{◌≡◌, refl, sym, ◌∙◌, ap, ap₂}
use mathlib.Core.List.{List, [], ◌∷◌, ◌++◌}
use native.Mathlib.Omega.{arith}
use lib.ListN.{length, get_or, take, drop, length-append}
use lib.Seq.{take-append_seam, drop-append_seam}
use Rattle.sexp.specs.Decimal.{is_digit}
use Rattle.sexp.specs.Sexp.{Sexp, Sexps, str, hinted, list, nil, cons, verbatim_onto, spell_onto, spells_onto, spell, spells}
use Rattle.sexp.proofs.DecimalLaws.{onto-length, onto-first, decimal-once}
use Rattle.sexp.proofs.OntoLaws.{spell-onto}

-- how long a string is, and an expression, does not depend on what follows
pub verbatim-length : (bs k : List ℕ) → length (verbatim_onto bs k) ≡ length (verbatim_onto bs []) + length k
verbatim-length bs k =
    let a = onto-length (length bs) (58 ∷ (bs ++ k)) in
    let b = onto-length (length bs) (58 ∷ (bs ++ [])) in
    omega (arith, a, b, length-append bs k, length-append bs [])

mutual
  pub spell-length : (e : Sexp) (k : List ℕ) → length (spell_onto e k) ≡ length (spell e) + length k
  spell-length (str bs) k = verbatim-length bs k
  spell-length (hinted h bs) k =
      omega (arith, verbatim-length h (93 ∷ verbatim_onto bs k), verbatim-length h (93 ∷ verbatim_onto bs []), verbatim-length bs k)
  spell-length (list xs) k = omega (arith, spells-length xs (41 ∷ k), spells-length xs (41 ∷ []))

  pub spells-length : (xs : Sexps) (k : List ℕ) → length (spells_onto xs k) ≡ length (spells xs) + length k
  spells-length nil k = omega arith
  spells-length (cons x xs) k =
      omega (arith, spell-length x (spells_onto xs k), spell-length x (spells xs), spells-length xs k)

-- the first byte, and the others
first : {v w : List ℕ} → v ≡ w → get_or v 0 0 ≡ get_or w 0 0
first e = ap (λ (x : List ℕ). get_or x 0 0) e

others : {v w : List ℕ} → v ≡ w → drop 1 v ≡ drop 1 w
others e = ap (drop 1) e

-- no expression begins with a closing parenthesis
pub spell-first : (e : Sexp) (k : List ℕ) → get_or (spell_onto e k) 0 0 ≡ 41 → ⊥
spell-first (str bs) k h = let (c, r, e, l) = onto-first (length bs) (58 ∷ (bs ++ k)) in omega (arith, first e, h, l)
spell-first (hinted x bs) k h = omega (arith, h)
spell-first (list xs) k h = omega (arith, h)

-- as many octets as another part it from what follows alike
append-once : (bs cs k l : List ℕ) → length bs ≡ length cs → bs ++ k ≡ cs ++ l → (bs ≡ cs) × (k ≡ l)
append-once bs cs k l n e = (
  sym (take-append_seam bs k)
      ∙ ap (take (length bs)) e
      ∙ ap (λ (i : ℕ). take i (cs ++ l)) n
      ∙ take-append_seam cs l,
  sym (drop-append_seam bs k)
      ∙ ap (drop (length bs)) e
      ∙ ap (λ (i : ℕ). drop i (cs ++ l)) n
      ∙ drop-append_seam cs l,
)

-- a string and what follows it are known from the bytes
pub verbatim-once : (bs cs k l : List ℕ) → verbatim_onto bs k ≡ verbatim_onto cs l → (bs ≡ cs) × (k ≡ l)
unfolding is_digit
verbatim-once bs cs k l e =
    let (n, f) = decimal-once (length bs) (length cs) (58 ∷ (bs ++ k)) (58 ∷ (cs ++ l)) refl refl e in
    append-once bs cs k l n (others f)

no_digit : (bs k w : List ℕ) → verbatim_onto bs k ≡ w → ((48 ≤ get_or w 0 0) × (get_or w 0 0 ≤ 57))
no_digit bs k w h =
    let (c, r, e, l) = onto-first (length bs) (58 ∷ (bs ++ k)) in
    let f = sym (first h) ∙ first e in
    (omega (arith, f, l), omega (arith, f, l))

mutual
  -- an expression and what follows it are known from the bytes
  pub spell-once : (a b : Sexp) (k l : List ℕ) → spell_onto a k ≡ spell_onto b l → (a ≡ b) × (k ≡ l)
  spell-once (str bs) (str cs) k l e = let (f, g) = verbatim-once bs cs k l e in (ap str f, g)
  spell-once (str bs) (hinted h cs) k l e = absurd (omega (arith, no_digit bs k (spell_onto (hinted h cs) l) e))
  spell-once (str bs) (list ys) k l e = absurd (omega (arith, no_digit bs k (spell_onto (list ys) l) e))
  spell-once (hinted h bs) (str cs) k l e = absurd (omega (arith, no_digit cs l (spell_onto (hinted h bs) k) (sym e)))
  spell-once (hinted h bs) (hinted i cs) k l e =
      let (f, g) = verbatim-once h i (93 ∷ verbatim_onto bs k) (93 ∷ verbatim_onto cs l) (others e) in
      let (f', g') = verbatim-once bs cs k l (others g) in
      (ap₂ hinted f f', g')
  spell-once (hinted h bs) (list ys) k l e = absurd (omega (arith, first e))
  spell-once (list xs) (str cs) k l e = absurd (omega (arith, no_digit cs l (spell_onto (list xs) k) (sym e)))
  spell-once (list xs) (hinted h cs) k l e = absurd (omega (arith, first e))
  spell-once (list xs) (list ys) k l e = let (f, g) = spells-once xs ys k l (others e) in (ap list f, g)

  -- and so are the members of a list, up to its closing parenthesis
  pub spells-once : (xs ys : Sexps) (k l : List ℕ) → spells_onto xs (41 ∷ k) ≡ spells_onto ys (41 ∷ l) → (xs ≡ ys) × (k ≡ l)
  spells-once nil nil k l e = (refl, others e)
  spells-once nil (cons y ys) k l e = absurd (spell-first y (spells_onto ys (41 ∷ l)) (sym (first e)))
  spells-once (cons x xs) nil k l e = absurd (spell-first x (spells_onto xs (41 ∷ k)) (first e))
  spells-once (cons x xs) (cons y ys) k l e =
      let (f, g) = spell-once x y (spells_onto xs (41 ∷ k)) (spells_onto ys (41 ∷ l)) e in
      let (f', g') = spells-once xs ys k l g in
      (ap₂ cons f f', g')

-- two expressions with one spelling are the same
pub spelling-is-injective : (a b : Sexp) → spell a ≡ spell b → a ≡ b
spelling-is-injective a b e = (spell-once a b [] [] e).0

-- no spelling is a proper beginning of another
pub no-spelling-begins-another : (a b : Sexp) (rest : List ℕ) → spell b ≡ spell a ++ rest → rest ≡ []
no-spelling-begins-another a b rest e = sym (spell-once b a [] rest (e ∙ sym (spell-onto a rest))).1
