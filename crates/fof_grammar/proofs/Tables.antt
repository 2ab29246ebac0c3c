-- The code's tables, as in src/table.rt, and that they are right: one test for each table, computed entry by entry.
use Prim.Native.Nat.{ℕ, ◌+◌, ◌-◌, ◌*◌, ◌/◌, ◌%◌, ◌<◌, ◌≤◌}
use mathlib.Core.Path.{◌≡◌, refl, sym, ◌∙◌, ap, ap₂, subst}
use mathlib.Core.Bool.{Bool, true, false, ◌&&◌, false≢true}
use mathlib.Core.List.{List, [], ◌∷◌, ◌++◌}
use mathlib.Core.Option.{Option, none, some}
use native.Mathlib.Omega.{arith}
use lib.Dec.{eqb, ltb, leb}
use lib.ListN.{length, get_or}
use borrow.Author.Tests.{eqb-true, ltb-true, leb-true, lt-ltb, le-ltb, eq-eqb, ne_eqb, le-leb}
use Rattle.basics.specs.Choice.{choose, both_true}
use Rattle.basics.specs.Text.{octets}
use Rattle.grammar.specs.Derives.{Symbol, Has}
use Rattle.grammar.specs.Machine.{chosen}
use Rattle.grammar.specs.Recast.{same_symbol}
use Rattle.grammar.proofs.Recast.{same-symbol}
use Rattle.grammar.proofs.Machine.{chosen-has}
use Rattle.fof_productions.specs.Terminal.{Terminal, code}
use Rattle.fof_productions.specs.Name.{Name, ordinal}
use Rattle.fof_productions.specs.Decided.{choices, decided}
use Rattle.fof_productions.specs.Coded.{terminal_at, name_at, token_at, mark, flat, alternative_at, mark_at}
use Rattle.fof_productions.proofs.Once.{code-once, ordinal-once}
use Rattle.fof_grammar.proofs.Entries.{every, entry}

abbrev pub choice_table : List ℕ
choice_table =
    octets "1....................................0"
    ++ octets "0....................................."
    ++ octets "001.......2..........................."
    ++ octets "00...................................."
    ++ octets "..............0....1.................."
    ++ octets "..............0....1.................."
    ++ octets "0000000000000..1.1.....000............"
    ++ octets "00000000000000.........000............"
    ++ octets "..............0.0.00......1..........."
    ++ octets "..............0.0.00.......1.........."
    ++ octets "..............................120345.."
    ++ octets "55524666673338.........001............"
    ++ octets ".......................01............."
    ++ octets "...0.................................."
    ++ octets "................0..1.................."
    ++ octets ".............1.0.0...................."
    ++ octets "...............0.1...................."
    ++ octets "11111111111111..0.0....111............"
    ++ octets "................0.01.................."
    ++ octets "1110522223444........................."
    ++ octets "001..................................."
    ++ octets ".....0000............................."
    ++ octets ".........0............................"
    ++ octets ".............10.0.00......0000000000.."
    ++ octets "..............0....1.................."
    ++ octets "..........012........................."
    ++ octets "00000000..000..1......................"
    ++ octets "00124567..333........................."
    ++ octets ".............10.0..0.0................"
    ++ octets "..............0.0..1.................."
    ++ octets "...............0......................"
    ++ octets "11111111..111..10....................."
    ++ octets "00000000000001...........0............"
    ++ octets "..............0............1.........."
    ++ octets "4441355556222............0............"
    ++ octets "3330244445111........................."
    ++ octets "01...................................."
    ++ octets ".....0123............................."
    ++ octets "...................0..1..............."
    ++ octets "..............0.0.00......23..111111.."
    ++ octets "............................10........"
    ++ octets "..............0.0.00......0021000000.."
    ++ octets "..............0.0..0.1................"
    ++ octets "00000000000001........................"
    ++ octets "..............0............01........."

abbrev pub first_table : List ℕ
first_table = 0 ∷ 2 ∷ 3 ∷ 6 ∷ 7 ∷ 9 ∷ 11 ∷ 13 ∷ 14 ∷ 16 ∷ 18 ∷ 24 ∷ 33 ∷ 35 ∷ 36 ∷ 38 ∷ 40 ∷ 42 ∷ 44 ∷ 46 ∷ 52 ∷ 54 ∷ 55 ∷ 56 ∷ 58 ∷ 60 ∷ 63 ∷ 65 ∷ 73 ∷ 75 ∷ 77 ∷ 78 ∷ 80 ∷ 82 ∷ 84 ∷ 91 ∷ 97 ∷ 99 ∷ 103 ∷ 105 ∷ 109 ∷ 111 ∷ 114 ∷ 116 ∷ 118 ∷ []

abbrev pub row_table : List ℕ
row_table =
    octets "0##########"
    ++ octets "2KL########"
    ++ octets ":71OQ6N6M0#"
    ++ octets "1o#########"
    ++ octets "1%#########"
    ++ octets "1-#########"
    ++ octets "2qo########"
    ++ octets "0##########"
    ++ octets "3Pe6#######"
    ++ octets "0##########"
    ++ octets "2i6########"
    ++ octets "1R#########"
    ++ octets "1Z#########"
    ++ octets "2rV########"
    ++ octets "0##########"
    ++ octets "3SV=#######"
    ++ octets "0##########"
    ++ octets "3TV>#######"
    ++ octets "1C#########"
    ++ octets "1A#########"
    ++ octets "1B#########"
    ++ octets "1D#########"
    ++ octets "1E#########"
    ++ octets "1F#########"
    ++ octets "7V83YX2W###"
    ++ octets "2V<########"
    ++ octets "2sX########"
    ++ octets "2sd########"
    ++ octets "2s'########"
    ++ octets "2t_########"
    ++ octets "2t`########"
    ++ octets "2ta########"
    ++ octets "31R0#######"
    ++ octets "1:#########"
    ++ octets "1;#########"
    ++ octets "1&#########"
    ++ octets "0##########"
    ++ octets "3YX6#######"
    ++ octets "3[G[#######"
    ++ octets "31Z0#######"
    ++ octets "33\\2#######"
    ++ octets "35\\4#######"
    ++ octets "0##########"
    ++ octets "2]R########"
    ++ octets "0##########"
    ++ octets "3]R6#######"
    ++ octets "1X#########"
    ++ octets "1_#########"
    ++ octets "1`#########"
    ++ octets "1a#########"
    ++ octets "1d#########"
    ++ octets "1'#########"
    ++ octets "2bo########"
    ++ octets "2b%########"
    ++ octets "2bp########"
    ++ octets "2b,########"
    ++ octets "0##########"
    ++ octets "41c^0######"
    ++ octets "0##########"
    ++ octets "3c^6#######"
    ++ octets "1-#########"
    ++ octets "1.#########"
    ++ octets "1/#########"
    ++ octets "2uf########"
    ++ octets "1i#########"
    ++ octets "2go########"
    ++ octets "2g%########"
    ++ octets "1&#########"
    ++ octets "1d#########"
    ++ octets "1'#########"
    ++ octets "41Q0(######"
    ++ octets "41k0)######"
    ++ octets "41^0*######"
    ++ octets "0##########"
    ++ octets "41he0######"
    ++ octets "0##########"
    ++ octets "3he6#######"
    ++ octets "33j2#######"
    ++ octets "0##########"
    ++ octets "2he########"
    ++ octets "2lm########"
    ++ octets "31k0#######"
    ++ octets "0##########"
    ++ octets "3lm>#######"
    ++ octets "2v<########"
    ++ octets "2sX########"
    ++ octets "2sd########"
    ++ octets "2s'########"
    ++ octets "2t_########"
    ++ octets "2t`########"
    ++ octets "2ta########"
    ++ octets "3^?X#######"
    ++ octets "3^?d#######"
    ++ octets "3^?'#######"
    ++ octets "2w_########"
    ++ octets "2w`########"
    ++ octets "2wa########"
    ++ octets "1##########"
    ++ octets "1$#########"
    ++ octets "1(#########"
    ++ octets "1)#########"
    ++ octets "1*#########"
    ++ octets "1+#########"
    ++ octets "0##########"
    ++ octets "2e9########"
    ++ octets "0##########"
    ++ octets "2VU########"
    ++ octets "3SV=#######"
    ++ octets "3TV>#######"
    ++ octets "2^@########"
    ++ octets "2^?########"
    ++ octets "0##########"
    ++ octets "2^@########"
    ++ octets "2^?########"
    ++ octets "0##########"
    ++ octets "2e8########"
    ++ octets "1n#########"
    ++ octets "31n0#######"
    ++ octets "0##########"
    ++ octets "2^?########"

-- two alternatives, symbol by symbol
abbrev same_row : List (Symbol Terminal Name) → List (Symbol Terminal Name) → Bool
same_row [] [] = true
same_row [] (y ∷ ys) = false
same_row (x ∷ xs) [] = false
same_row (x ∷ xs) (y ∷ ys) = same_symbol code ordinal choices x y && same_row xs ys

same_row_lem : (xs ys : List (Symbol Terminal Name)) → same_row xs ys ≡ true → xs ≡ ys
same_row_lem [] [] e = refl
same_row_lem [] (y ∷ ys) e = absurd (false≢true e)
same_row_lem (x ∷ xs) [] e = absurd (false≢true e)
same_row_lem (x ∷ xs) (y ∷ ys) e =
    let (p, q) = both_true (same_symbol code ordinal choices x y) _ e in
    ap₂ ◌∷◌ (same-symbol code ordinal code-once ordinal-once choices x y p) (same_row_lem xs ys q)

-- an entry of the choices: none, or the alternative that is chosen
abbrev is_none : Option (List (Symbol Terminal Name)) → Bool
is_none none = true
is_none (some alt) = false

abbrev is_some : Option (List (Symbol Terminal Name)) → List (Symbol Terminal Name) → Bool
is_some none xs = false
is_some (some alt) xs = same_row alt xs

abbrev right_choice : ℕ → ℕ → Bool
right_choice i x =
    let o = chosen decided (name_at (i / 38)) (token_at (i % 38)) in
    let k = get_or first_table (i / 38) 0 + (x - 48) in
    elim (ltb x 48) [ true ↦ is_none o | false ↦ is_some o (flat k) && ltb k 120 ]

choices-right : every right_choice 0 choice_table ≡ true
unfolding name_at token_at terminal_at flat
choices-right = refl

is-none : (o : Option (List (Symbol Terminal Name))) → is_none o ≡ true → o ≡ none
is-none none e = refl
is-none (some alt) e = absurd (false≢true e)

is-some : (o : Option (List (Symbol Terminal Name))) (xs : List (Symbol Terminal Name)) → is_some o xs ≡ true → o ≡ some xs
is-some none xs e = absurd (false≢true e)
is-some (some alt) xs e = ap some (same_row_lem alt xs e)

module _ (n d x : ℕ) (h : n < 45) (l : d ≤ 37) (e : x ≡ get_or choice_table (n * 38 + d) 0) where
  here : right_choice (n * 38 + d) x ≡ true
  here = subst (λ (y : ℕ). right_choice (n * 38 + d) y ≡ true) (sym e) (entry right_choice choice_table choices-right (n * 38 + d) (omega arith))

  at_name : (o : Option (List (Symbol Terminal Name)) → ℕ → Type 0) → o (chosen decided (name_at ((n * 38 + d) / 38)) (token_at ((n * 38 + d) % 38))) (get_or first_table ((n * 38 + d) / 38) 0) → o (chosen decided (name_at n) (token_at d)) (get_or first_table n 0)
  at_name o t =
      subst (λ (i : ℕ). o (chosen decided (name_at n) (token_at i)) (get_or first_table n 0)) {x = (n * 38 + d) % 38} {y = d} (omega arith)
      (subst (λ (i : ℕ). o (chosen decided (name_at i) (token_at ((n * 38 + d) % 38))) (get_or first_table i 0)) {x = (n * 38 + d) / 38} {y = n} (omega arith) t)

  pub none-chosen : x < 48 → chosen decided (name_at n) (token_at d) ≡ none
  none-chosen q = at_name (λ o f. o ≡ none) (go (ltb x 48) (lt-ltb x 48 q) here)
    where
      go : (b : Bool) → b ≡ true → elim b as (λ y. Bool) [ true ↦ is_none (chosen decided (name_at ((n * 38 + d) / 38)) (token_at ((n * 38 + d) % 38))) | false ↦ is_some (chosen decided (name_at ((n * 38 + d) / 38)) (token_at ((n * 38 + d) % 38))) (flat (get_or first_table ((n * 38 + d) / 38) 0 + (x - 48))) && ltb (get_or first_table ((n * 38 + d) / 38) 0 + (x - 48)) 120 ] ≡ true → chosen decided (name_at ((n * 38 + d) / 38)) (token_at ((n * 38 + d) % 38)) ≡ none
      go true b t = is-none _ t
      go false b t = absurd (false≢true b)

  pub some-chosen : 48 ≤ x → (chosen decided (name_at n) (token_at d) ≡ some (flat (get_or first_table n 0 + (x - 48)))) × (get_or first_table n 0 + (x - 48) < 120)
  some-chosen q = at_name (λ o f. (o ≡ some (flat (f + (x - 48)))) × (f + (x - 48) < 120)) (go (ltb x 48) (le-ltb x 48 q) here)
    where
      go : (b : Bool) → b ≡ false → elim b as (λ y. Bool) [ true ↦ is_none (chosen decided (name_at ((n * 38 + d) / 38)) (token_at ((n * 38 + d) % 38))) | false ↦ is_some (chosen decided (name_at ((n * 38 + d) / 38)) (token_at ((n * 38 + d) % 38))) (flat (get_or first_table ((n * 38 + d) / 38) 0 + (x - 48))) && ltb (get_or first_table ((n * 38 + d) / 38) 0 + (x - 48)) 120 ] ≡ true → (chosen decided (name_at ((n * 38 + d) / 38)) (token_at ((n * 38 + d) % 38)) ≡ some (flat (get_or first_table ((n * 38 + d) / 38) 0 + (x - 48)))) × (get_or first_table ((n * 38 + d) / 38) 0 + (x - 48) < 120)
      go true b t = absurd (false≢true (sym b))
      go false b t = let (u, v) = both_true _ _ t in (is-some _ _ u, ltb-true _ _ v)

-- an entry of the rows: how many symbols, and each of them from the last on
abbrev right_row : ℕ → ℕ → Bool
right_row j x =
    elim (eqb (j % 11) 0) [
      | true ↦ eqb x (48 + length (flat (j / 11))) && leb (length (flat (j / 11))) 10
      | false ↦ elim (leb (j % 11) (length (flat (j / 11)))) [ true ↦ eqb x (mark_at (j / 11) (j % 11 - 1)) | false ↦ true ]
    ]

rows_right : every right_row 0 row_table ≡ true
unfolding flat mark_at mark
rows_right = refl

-- the entries of a row, for a row whose number is below 120
row-bytes : (k : ℕ) → k < 120 → (48 ≤ get_or row_table (k * 11) 0) × (get_or row_table (k * 11) 0 - 48 ≡ length (flat k)) × (length (flat k) ≤ 10)
row-bytes k h =
    let j = k * 11 in
    go (eqb (k * 11 % 11) 0) (eq-eqb (k * 11 % 11) 0 (omega arith)) (entry right_row row_table rows_right (k * 11) (omega arith))
  where
    go : (b : Bool) → b ≡ true → elim b as (λ y. Bool) [
      | true ↦ eqb (get_or row_table (k * 11) 0) (48 + length (flat (k * 11 / 11))) && leb (length (flat (k * 11 / 11))) 10
      | false ↦ elim (leb (k * 11 % 11) (length (flat (k * 11 / 11)))) [ true ↦ eqb (get_or row_table (k * 11) 0) (mark_at (k * 11 / 11) (k * 11 % 11 - 1)) | false ↦ true ]
    ] ≡ true → (48 ≤ get_or row_table (k * 11) 0) × (get_or row_table (k * 11) 0 - 48 ≡ length (flat k)) × (length (flat k) ≤ 10)
    go true b t =
        let (u, v) = both_true (eqb (get_or row_table (k * 11) 0) (48 + length (flat (k * 11 / 11)))) _ t in
        let p = eqb-true (get_or row_table (k * 11) 0) (48 + length (flat (k * 11 / 11))) u in
        let q = leb-true (length (flat (k * 11 / 11))) 10 v in
        let e = ap (λ (i : ℕ). length (flat i)) {x = k * 11 / 11} {y = k} (omega arith) in
        widths (get_or row_table (k * 11) 0) (length (flat (k * 11 / 11))) (length (flat k)) p e q
      where
        widths : (x l m : ℕ) → x ≡ 48 + l → l ≡ m → l ≤ 10 → (48 ≤ x) × (x - 48 ≡ m) × (m ≤ 10)
        widths x l m p e q = (omega arith, omega arith, omega arith)
    go false b t = absurd (false≢true b)

-- how many symbols an alternative has: at most ten
pub few-symbols : (k : ℕ) → k < 120 → length (flat k) ≤ 10
few-symbols k h = (row-bytes k h).2

pub row-filled : (r k : ℕ) → r ≡ k → k < 120 → 48 ≤ get_or row_table (r * 11) 0
row-filled r k e h = (row-bytes r (omega arith)).0

pub row-width : (r k x : ℕ) → r ≡ k → k < 120 → x ≡ get_or row_table (r * 11) 0 - 48 → x ≡ length (flat k)
row-width r k x e h q = q ∙ (row-bytes r (omega arith)).1 ∙ ap (λ (i : ℕ). length (flat i)) e

row_at : (k i : ℕ) → k < 120 → i < length (flat k) → i < 10 → get_or row_table (k * 11 + 1 + i) 0 ≡ mark_at k i
row_at k i h l m =
    go (eqb ((k * 11 + 1 + i) % 11) 0) (ne_eqb ((k * 11 + 1 + i) % 11) 0 (λ e. omega (arith, e)))
    (leb ((k * 11 + 1 + i) % 11) (length (flat ((k * 11 + 1 + i) / 11)))) (le-leb _ _ bound) (entry right_row row_table rows_right (k * 11 + 1 + i) (omega arith))
  where
    same : length (flat ((k * 11 + 1 + i) / 11)) ≡ length (flat k)
    same = ap (λ (n : ℕ). length (flat n)) {x = (k * 11 + 1 + i) / 11} {y = k} (omega arith)

    bound : (k * 11 + 1 + i) % 11 ≤ length (flat ((k * 11 + 1 + i) / 11))
    bound = let e = same in omega arith

    back : mark_at ((k * 11 + 1 + i) / 11) ((k * 11 + 1 + i) % 11 - 1) ≡ mark_at k i
    back =
        ap (λ (n : ℕ). mark_at n ((k * 11 + 1 + i) % 11 - 1)) {x = (k * 11 + 1 + i) / 11} {y = k} (omega arith)
        ∙ ap (mark_at k) {x = (k * 11 + 1 + i) % 11 - 1} {y = i} (omega arith)

    go : (b : Bool) → b ≡ false → (d : Bool) → d ≡ true → elim b as (λ y. Bool) [
      | true ↦ eqb (get_or row_table (k * 11 + 1 + i) 0) (48 + length (flat ((k * 11 + 1 + i) / 11))) && leb (length (flat ((k * 11 + 1 + i) / 11))) 10
      | false ↦ elim d as (λ y. Bool) [ true ↦ eqb (get_or row_table (k * 11 + 1 + i) 0) (mark_at ((k * 11 + 1 + i) / 11) ((k * 11 + 1 + i) % 11 - 1)) | false ↦ true ]
    ] ≡ true → get_or row_table (k * 11 + 1 + i) 0 ≡ mark_at k i
    go true b d q t = absurd (false≢true (sym b))
    go false b true q t = eqb-true (get_or row_table (k * 11 + 1 + i) 0) _ t ∙ back
    go false b false q t = absurd (false≢true q)

pub row-symbol : (r k i : ℕ) → r ≡ k → k < 120 → i < length (flat k) → get_or row_table (r * 11 + 1 + i) 0 ≡ mark_at k i
row-symbol r k i e h l =
    let f = few-symbols k h in
    ap (λ (n : ℕ). get_or row_table (n * 11 + 1 + i) 0) e ∙ row_at k i h l (omega arith)

pub row_inside : (r k i : ℕ) → r ≡ k → k < 120 → i < length (flat k) → r * 11 + 1 + i < 1320
row_inside r k i e h l = let f = few-symbols k h in omega arith

numbered : (r : ℕ) → r < 120 → some (flat r) ≡ alternative_at r
unfolding alternative_at
numbered r h = ap (λ (b : Bool). choose b none (some (flat r))) (sym (ne_eqb r 255 (λ e. omega (arith, e))))

-- what the function `choice` answers: none, or an alternative
abbrev pub Chooses : ℕ → ℕ → ℕ → Type 0
Chooses name ahead r =
    (ahead ≤ 37 → chosen decided (name_at name) (token_at ahead) ≡ alternative_at r)
    × ((r ≡ 255 → ⊥) → (r < 120) × Has (choices (name_at name)) (flat r))

pub far-ahead : (name ahead : ℕ) → 37 < ahead → Chooses name ahead 255
far-ahead name ahead h = (λ l. absurd (omega arith), λ q. absurd (q refl))

pub chooses_none : (name ahead n d : ℕ) → n ≡ name → d ≡ ahead → name < 45 → ahead ≤ 37 → get_or choice_table (n * 38 + d) 0 < 48 → Chooses name ahead 255
unfolding alternative_at
chooses_none name ahead n d e f h l q =
    (λ m. none-chosen name ahead (get_or choice_table (n * 38 + d) 0) h l (cells n name d ahead e f) q, λ p. absurd (p refl))
  where
    cells : (n m d a : ℕ) → n ≡ m → d ≡ a → get_or choice_table (n * 38 + d) 0 ≡ get_or choice_table (m * 38 + a) 0
    cells n m d a e f = ap (λ (x : ℕ). get_or choice_table x 0) {x = n * 38 + d} {y = m * 38 + a} (omega arith)

pub chosen-few : (name ahead n d : ℕ) → n ≡ name → d ≡ ahead → name < 45 → ahead ≤ 37 → 48 ≤ get_or choice_table (n * 38 + d) 0 → get_or first_table n 0 + (get_or choice_table (n * 38 + d) 0 - 48) < 120
chosen-few name ahead n d e f h l q = (some-chosen n d (get_or choice_table (n * 38 + d) 0) (omega arith) (omega arith) refl q).1

pub chooses-some : (name ahead n d : ℕ) → n ≡ name → d ≡ ahead → name < 45 → ahead ≤ 37 → 48 ≤ get_or choice_table (n * 38 + d) 0 → Chooses name ahead (get_or first_table n 0 + (get_or choice_table (n * 38 + d) 0 - 48))
chooses-some name ahead n d e f h l q =
    subst (λ (x : ℕ). Chooses x ahead (get_or first_table n 0 + (get_or choice_table (n * 38 + d) 0 - 48))) e
    (subst (λ (x : ℕ). Chooses n x (get_or first_table n 0 + (get_or choice_table (n * 38 + d) 0 - 48))) f (found n d (omega arith) (omega arith) q))
  where
    found : (n d : ℕ) → n < 45 → d ≤ 37 → 48 ≤ get_or choice_table (n * 38 + d) 0 → Chooses n d (get_or first_table n 0 + (get_or choice_table (n * 38 + d) 0 - 48))
    found n d h l q =
        let (u, v) = some-chosen n d (get_or choice_table (n * 38 + d) 0) h l refl q in
        (λ m. u ∙ numbered (get_or first_table n 0 + (get_or choice_table (n * 38 + d) 0 - 48)) v, λ p. (v, chosen-has decided (name_at n) (token_at d) (choices (name_at n)) _ u))

-- the names and their numbers
names-right : every (λ i x. eqb (ordinal (name_at i)) i) 0 first_table ≡ true
unfolding name_at
names-right = refl

pub ordinal-at : (i : ℕ) → i < 45 → ordinal (name_at i) ≡ i
ordinal-at i h = eqb-true (ordinal (name_at i)) i (entry (λ j x. eqb (ordinal (name_at j)) j) first_table names-right i h)
