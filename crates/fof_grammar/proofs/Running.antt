-- The machine while it runs: what its stack and its place in the tokens say of the whole, and that each step keeps it and comes nearer to the end.
-- From the grammar's law of a step (crate grammar, proofs/Machine); the numbers 12 and 13 are what a token pays and what `file` costs (crate fof_productions, specs/Decided).
use Prim.Native.Nat.{ℕ, zero, suc, ◌+◌, ◌-◌, ◌*◌, ◌<◌, ◌≤◌}
use mathlib.Core.Path.{◌≡◌, refl, sym, ◌∙◌, ap, ap₂, subst}
use mathlib.Core.Bool.{Bool, true, false}
use mathlib.Core.Logic.{inl}
use mathlib.Core.List.{List, [], ◌∷◌, ◌++◌, map}
use mathlib.Core.Option.{none, some}
use native.Mathlib.Omega.{arith}
use lib.Dec.{eqb, ltb}
use lib.ListN.{length, get_or, drop, set, length-append}
use borrow.Author.Tests.{eqb-true, eqb-false, ltb-true, ltb-false, lt-ltb, le-ltb, ne_eqb}
use Rattle.basics.specs.Choice.{choose}
use Rattle.basics.specs.Tells.{Tells}
use Rattle.grammar.specs.Derives.{Symbol, the, any, Has, Derives, end, token, choice}
use Rattle.grammar.specs.Machine.{ahead, chosen, due, cost_of}
use Rattle.grammar.proofs.Ahead.{Fits, fits-choice}
use Rattle.grammar.proofs.Machine.{back, step_down, step-none, few-entries, due_below, due-falls}
use Rattle.fof_productions.specs.Terminal.{Terminal, code}
use Rattle.fof_productions.specs.Name.{Name, file, ordinal}
use Rattle.fof_productions.specs.Decided.{choices, looks, cost, decided}
use Rattle.fof_productions.specs.Coded.{name_at, mark, flat, alternative_at, Holds}
use Rattle.fof_productions.proofs.Once.{code-once, code_below, ordinal-back, ordinal-below}
use Rattle.fof_productions.proofs.Right.{rightly}
use Rattle.fof_grammar.proofs.StackLaws.{holds-put}

abbrev pub Row : Type 0
Row = List (Symbol Terminal Name)

-- the whole text is derived exactly if what is due derives the tokens from `at` on
pub record Running (codes stack : List ℕ) (top at : ℕ) : Type 0 where
  pub dues : Row
  pub holds : Holds stack top dues
  pub inside : at ≤ length codes
  pub paid : due decided dues + 12 * (length codes - at) ≤ 13 + 12 * length codes
  pub fits : Fits decided code-once rightly dues
  pub down : (w : List Terminal) → codes ≡ map code w → Derives choices (any file ∷ []) w → Derives choices dues (drop at w)
  pub up : (w : List Terminal) → codes ≡ map code w → Derives choices dues (drop at w) → Derives choices (any file ∷ []) w

-- what the stack costs, by its bytes
abbrev pub cost_at : ℕ → ℕ
cost_at x = choose (ltb x 75) 1 (cost (name_at (x - 75)))

abbrev pub due_at : List ℕ → ℕ → ℕ
due_at stack zero = 12
due_at stack (suc k) = cost_at (get_or stack k 0) + k

pub held-length : (stack : List ℕ) (n : ℕ) (ss : Row) → Holds stack n ss → length ss ≡ n
held-length stack n [] h = sym h
held-length stack n (s ∷ ss) (k, e, m, h) = let l = held-length stack k ss h in omega arith

cost-of : (s : Symbol Terminal Name) → cost_at (mark s) ≡ cost_of decided s
unfolding mark
cost-of (the a) =
    let l = code_below a in
    ap (λ (b : Bool). choose b 1 (cost (name_at (35 + code a - 75)))) (lt-ltb (35 + code a) 75 (omega arith))
cost-of (any m) =
    ap (λ (b : Bool). choose b 1 (cost (name_at (75 + ordinal m - 75)))) (le-ltb (75 + ordinal m) 75 (omega arith))
    ∙ ap (λ (i : ℕ). cost (name_at i)) {x = 75 + ordinal m - 75} {y = ordinal m} (omega arith)
    ∙ ap cost (ordinal-back m)

due-held : (stack : List ℕ) (n : ℕ) (ss : Row) → Holds stack n ss → due_at stack n ≡ due decided ss
due-held stack n [] h = ap (due_at stack) h
due-held stack n (s ∷ ss) (k, e, m, h) =
    let l = held-length stack k ss h in
    ap (due_at stack) {x = n} {y = suc k} (omega arith) ∙ ap₂ ◌+◌ (ap cost_at m ∙ cost-of s) (sym l)

-- the token at a place, by its number
at_code : (w : List Terminal) (at : ℕ) (a : Terminal) → get_or (map code w) at 37 ≡ code a → drop at w ≡ a ∷ drop (at + 1) w
at_code [] at a e = let l = code_below a in absurd (omega (arith, e))
at_code (b ∷ w) zero a e = ap (λ (c : Terminal). c ∷ w) (code-once b a e)
at_code (b ∷ w) (suc at) a e = at_code w at a e ∙ ap (λ (i : ℕ). a ∷ drop i (b ∷ w)) {x = suc (at + 1)} {y = suc at + 1} (omega arith)

code_at : (w : List Terminal) (at : ℕ) (a : Terminal) (v : List Terminal) → drop at w ≡ a ∷ v → get_or (map code w) at 37 ≡ code a
code_at [] zero a v e = let h = ap length e in absurd (omega arith)
code_at [] (suc at) a v e = let h = ap length e in absurd (omega arith)
code_at (b ∷ w) zero a v e = ap code {x = b} {y = a} (cc e)
code_at (b ∷ w) (suc at) a v e = code_at w at a v e

beyond-end : (l : List ℕ) (i : ℕ) → length l ≤ i → get_or l i 37 ≡ 37
beyond-end [] i h = refl
beyond-end (x ∷ l) zero h = absurd (omega arith)
beyond-end (x ∷ l) (suc i) h = beyond-end l i (omega arith)

-- the alternatives by their numbers
none-at : alternative_at 255 ≡ none
unfolding alternative_at
none-at = refl

some_at : (k : ℕ) → (k ≡ 255 → ⊥) → alternative_at k ≡ some (flat k)
unfolding alternative_at
some_at k h = ap (λ (b : Bool). choose b none (some (flat k))) (ne_eqb k 255 h)

strictly : (a b : ℕ) → (a ≡ b → ⊥) → a ≤ b → a < b
strictly a b h l = go (ltb a b) refl
  where
    go : (t : Bool) → ltb a b ≡ t → a < b
    go true e = ltb-true a b e
    go false e = absurd (h (let m = ltb-false a b e in omega arith))

-- the start: `file` on the stack, and all tokens ahead
pub starts : (codes stack : List ℕ) → 0 < length stack → Running codes (set stack 0 75) 1 0
unfolding mark
starts codes stack h = record {
  dues = any file ∷ [];
  holds = holds-put stack 75 0 (any file) [] h refl refl;
  inside = omega arith;
  paid = omega arith;
  fits = (λ d e. inl (sym e), tt);
  down = λ w e t. t;
  up = λ w e t. t;
}

module _ (codes stack : List ℕ) (top at : ℕ) (r : Running codes stack top at) (h : 0 < top) (x : ℕ) (q : x ≡ get_or stack (top - 1) 0) where
  -- the top of the stack
  data Top : Type 0 where
    of-token : (a : Terminal) (ss : Row) → r.dues ≡ the a ∷ ss → x ≡ 35 + code a → Holds stack (top - 1) ss → Top
    of-name : (m : Name) (ss : Row) → r.dues ≡ any m ∷ ss → x ≡ 75 + ordinal m → Holds stack (top - 1) ss → Top

  top_of : Top
  unfolding mark
  top_of = go r.dues refl r.holds
    where
      below : (k : ℕ) → top ≡ k + 1 → k ≡ top - 1
      below k e = omega arith

      go : (ds : Row) → r.dues ≡ ds → Holds stack top ds → Top
      go [] e z = absurd (omega (arith, z))
      go (the a ∷ ss) e (k, f, m, z) =
          of-token a ss e (q ∙ ap (λ (i : ℕ). get_or stack i 0) (sym (below k f)) ∙ m) (subst (λ (i : ℕ). Holds stack i ss) (below k f) z)
      go (any m ∷ ss) e (k, f, z, y) =
          of-name m ss e (q ∙ ap (λ (i : ℕ). get_or stack i 0) (sym (below k f)) ∙ z) (subst (λ (i : ℕ). Holds stack i ss) (below k f) y)

  -- the byte on top is a symbol
  pub symbol_low : 35 ≤ x
  symbol_low = go top_of
    where
      go : Top → 35 ≤ x
      go (of-token a ss e p z) = omega arith
      go (of-name m ss e p z) = omega arith

  pub name-low : 75 ≤ x → x - 75 < 45
  name-low l = go top_of
    where
      go : Top → x - 75 < 45
      go (of-token a ss e p z) = let k = code_below a in absurd (omega arith)
      go (of-name m ss e p z) = let k = ordinal-below m in omega arith

  -- the place comes nearer
  abbrev pub Nearer : List ℕ → ℕ → ℕ → Type 0
  Nearer stack' top' at' = due_at stack' top' + 12 * (length codes - at') < due_at stack top + 12 * (length codes - at)

  module _ (low : x < 75) (c : ℕ) (n : c ≡ get_or codes at 37) where
    -- a token is due and it is the next
    token-step : (a : Terminal) (ss : Row) → r.dues ≡ the a ∷ ss → x ≡ 35 + code a → Holds stack (top - 1) ss → x - 35 ≡ c → Running codes stack (top - 1) (at + 1) × Nearer stack (top - 1) (at + 1)
    token-step a ss e p z g =
        let k = code_below a in
        let m : c ≡ code a = omega arith in
        let i = here m in
        let d = ap (due decided) e in
        let b = due_below decided code-once rightly ss in
        let u = r.paid in
        let f = due-held stack (top - 1) ss z in
        let v = due-held stack top r.dues r.holds in (
          record {
            dues = ss;
            holds = z;
            inside = omega arith;
            paid = omega arith;
            fits = subst (Fits decided code-once rightly) e r.fits;
            down = λ w y t.
                let o = ahead-is w y m in
                (back decided (subst (Derives choices (the a ∷ ss)) o (subst (λ (ds : Row). Derives choices ds (drop at w)) e (r.down w y t)))).1;
            up = λ w y t.
                r.up w y (subst (λ (ds : Row). Derives choices ds (drop at w)) (sym e) (subst (Derives choices (the a ∷ ss)) (sym (ahead-is w y m)) (token t)));
          },
          omega arith,
        )
      where
        here : c ≡ code a → at < length codes
        here m = go (ltb at (length codes)) refl
          where
            go : (b : Bool) → ltb at (length codes) ≡ b → at < length codes
            go true t = ltb-true at (length codes) t
            go false t = let k = code_below a in absurd (omega (arith, beyond-end codes at (ltb-false at (length codes) t)))

        ahead-is : (w : List Terminal) → codes ≡ map code w → c ≡ code a → drop at w ≡ a ∷ drop (at + 1) w
        ahead-is w y m = at_code w at a (sym (ap (λ (l : List ℕ). get_or l at 37) y) ∙ sym n ∙ m)

    pub token-next : x - 35 ≡ c → Running codes stack (top - 1) (at + 1) × Nearer stack (top - 1) (at + 1)
    token-next g = go top_of
      where
        go : Top → Running codes stack (top - 1) (at + 1) × Nearer stack (top - 1) (at + 1)
        go (of-token a ss e p z) = token-step a ss e p z g
        go (of-name m ss e p z) = absurd (omega arith)

    -- it is not: nothing is derived
    pub token-fails : (x - 35 ≡ c → ⊥) → (w : List Terminal) → codes ≡ map code w → Derives choices (any file ∷ []) w → ⊥
    token-fails g w y t = go top_of
      where
        go : Top → ⊥
        go (of-name m ss e p z) = omega arith
        go (of-token a ss e p z) = met (drop at w) refl (subst (λ (ds : Row). Derives choices ds (drop at w)) e (r.down w y t))
          where
            met : (v : List Terminal) → drop at w ≡ v → Derives choices (the a ∷ ss) v → ⊥
            met [] f u = back decided u
            met (b ∷ v) f u =
                let m = (back decided u).0 in
                let o = n ∙ ap (λ (l : List ℕ). get_or l at 37) y ∙ code_at w at b v f ∙ ap code (sym m) in
                g (omega arith)

  module _ (high : 75 ≤ x) (k : ℕ) (decides : (w : List Terminal) → codes ≡ map code w → chosen decided (name_at (x - 75)) (ahead decided (looks (name_at (x - 75))) (drop at w)) ≡ alternative_at k) where
    named : (m : Name) → x ≡ 75 + ordinal m → name_at (x - 75) ≡ m
    named m p = ap name_at {x = x - 75} {y = ordinal m} (omega arith) ∙ ordinal-back m

    decides-for : (m : Name) → x ≡ 75 + ordinal m → (w : List Terminal) → codes ≡ map code w → chosen decided m (ahead decided (looks m) (drop at w)) ≡ alternative_at k
    decides-for m p w y = subst (λ (n : Name). chosen decided n (ahead decided (looks n) (drop at w)) ≡ alternative_at k) (named m p) (decides w y)

    -- no alternative is decided: nothing is derived
    pub name-fails : k ≡ 255 → (w : List Terminal) → codes ≡ map code w → Derives choices (any file ∷ []) w → ⊥
    name-fails g w y t = go top_of
      where
        go : Top → ⊥
        go (of-token a ss e p z) = let l = code_below a in omega arith
        go (of-name m ss e p z) =
            step-none decided code-once rightly m ss (drop at w) (subst (Fits decided code-once rightly) e r.fits) (decides-for m p w y ∙ ap alternative_at g ∙ none-at) (subst (λ (ds : Row). Derives choices ds (drop at w)) e (r.down w y t))

    module _ (one : Has (choices (name_at (x - 75))) (flat k)) where
      has-for : (m : Name) → x ≡ 75 + ordinal m → Has (choices m) (flat k)
      has-for m p = subst (λ (n : Name). Has (choices n) (flat k)) (named m p) one

      -- the stack has room for the alternative
      pub name-room : length codes ≤ 16384 → 196621 ≤ length stack → top - 1 + length (flat k) ≤ length stack
      name-room l b = go top_of
        where
          go : Top → top - 1 + length (flat k) ≤ length stack
          go (of-token a ss e p z) = let i = code_below a in absurd (omega arith)
          go (of-name m ss e p z) =
              let i = held-length stack (top - 1) ss z in
              let f = few-entries decided code-once rightly (flat k ++ ss) in
              let d = due-falls decided code-once rightly m (flat k) ss (has-for m p) in
              let j = length-append (flat k) ss in
              let u = r.paid in
              let v = ap (due decided) e in
              omega arith

      -- an alternative is decided, and put on the stack
      name-step : (stack' : List ℕ) (top' : ℕ) → (k ≡ 255 → ⊥) → ((ss : Row) → Holds stack (top - 1) ss → Holds stack' top' (flat k ++ ss)) → (m : Name) (ss : Row) → r.dues ≡ any m ∷ ss → x ≡ 75 + ordinal m → Holds stack (top - 1) ss → Running codes stack' top' at × Nearer stack' top' at
      name-step stack' top' g put m ss e p z =
          let d = due-falls decided code-once rightly m (flat k) ss (has-for m p) in
          let u = r.paid in
          let v = ap (due decided) e in
          let f = due-held stack' top' (flat k ++ ss) (put ss z) in
          let o = due-held stack top r.dues r.holds in
          let fs = subst (Fits decided code-once rightly) e r.fits in (
            record {
              dues = flat k ++ ss;
              holds = put ss z;
              inside = r.inside;
              paid = omega arith;
              fits = fits-choice decided code-once rightly m (flat k) ss (has-for m p) fs;
              down = λ w y t.
                  step_down decided code-once rightly m (flat k) ss (drop at w) fs (decides-for m p w y ∙ some_at k g) (subst (λ (ds : Row). Derives choices ds (drop at w)) e (r.down w y t));
              up = λ w y t.
                  r.up w y (subst (λ (ds : Row). Derives choices ds (drop at w)) (sym e) (choice (flat k) (has-for m p) t));
            },
            omega arith,
          )

      pub name-next : (stack' : List ℕ) (top' : ℕ) → (k ≡ 255 → ⊥) → ((ss : Row) → Holds stack (top - 1) ss → Holds stack' top' (flat k ++ ss)) → Running codes stack' top' at × Nearer stack' top' at
      name-next stack' top' g put = go top_of
        where
          go : Top → Running codes stack' top' at × Nearer stack' top' at
          go (of-token a ss e p z) = let i = code_below a in absurd (omega arith)
          go (of-name m ss e p z) = name-step stack' top' g put m ss e p z

-- the stack has room for its entries
pub in-room : (codes stack : List ℕ) (top at : ℕ) → Running codes stack top at → length codes ≤ 16384 → top ≤ 196621
in-room codes stack top at r l =
    let i = held-length stack top r.dues r.holds in
    let f = few-entries decided code-once rightly r.dues in
    let u = r.paid in
    omega arith

-- a place in the tokens fits a word
pub nearby : (at n : ℕ) → at ≤ n → n ≤ 16384 → at < 16386
nearby at n l h = omega arith

-- nothing is due any more
pub finishes : (codes stack : List ℕ) (top at : ℕ) → Running codes stack top at → top ≤ 0 → (w : List Terminal) → codes ≡ map code w → Tells (eqb at (length codes)) (Derives choices (any file ∷ []) w)
finishes codes stack top at r h w y = go r.dues refl r.holds
  where
    over : (v : List Terminal) (i : ℕ) → i ≡ length (map code v) → drop i v ≡ []
    over [] zero e = refl
    over [] (suc i) e = refl
    over (a ∷ v) zero e = absurd (omega (arith, e))
    over (a ∷ v) (suc i) e = over v i (omega (arith, e))

    more : (v : List Terminal) (i : ℕ) → i < length (map code v) → (b : Terminal) × (u : List Terminal) × (drop i v ≡ b ∷ u)
    more [] i e = absurd (omega arith)
    more (a ∷ v) zero e = (a, v, refl)
    more (a ∷ v) (suc i) e = more v i (omega arith)

    all : (b : Bool) → eqb at (length codes) ≡ b → r.dues ≡ [] → Tells b (Derives choices (any file ∷ []) w)
    all true t e =
        let m = eqb-true at (length codes) t in
        r.up w y (subst (λ (ds : Row). Derives choices ds (drop at w)) (sym e) (subst (Derives choices []) (sym (over w at (m ∙ ap length y))) end))
    all false t e = λ u.
        let m = eqb-false at (length codes) t in
        let n = r.inside in
        let (b, v, f) = more w at (subst (λ (l : List ℕ). at < length l) y (strictly at (length codes) m n)) in
        back decided (subst (Derives choices []) f (subst (λ (ds : Row). Derives choices ds (drop at w)) e (r.down w y u)))

    go : (ds : Row) → r.dues ≡ ds → Holds stack top ds → Tells (eqb at (length codes)) (Derives choices (any file ∷ []) w)
    go [] e z = all (eqb at (length codes)) refl e
    go (s ∷ ss) e (k, f, m, z) = absurd (omega arith)
