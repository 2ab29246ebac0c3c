-- The tokens ahead, by their numbers in the code's list: the next one, and the next that is no `(`.
use Prim.Native.Nat.{ℕ, zero, suc, ◌+◌, ◌<◌, ◌≤◌}
use mathlib.Core.Path.{◌≡◌, refl, sym, ◌∙◌, ap, subst}
use mathlib.Core.Bool.{Bool, true, false}
use mathlib.Core.List.{List, [], ◌∷◌, map}
use mathlib.Core.Option.{none, some}
use native.Mathlib.Omega.{arith}
use lib.Dec.{eqb}
use lib.ListN.{length, get_or, drop}
use borrow.Author.Tests.{eq-eqb, ne_eqb}
use Rattle.basics.specs.Choice.{choose}
use Rattle.grammar.specs.Machine.{ahead, chosen}
use Rattle.fof_productions.specs.Terminal.{Terminal, code}
use Rattle.fof_productions.specs.Decided.{decided, looks}
use Rattle.fof_productions.specs.Coded.{name_at, token_at, alternative_at}
use Rattle.fof_productions.proofs.Once.{token_back, code_below}
use Rattle.fof_grammar.proofs.Tables.{ordinal-at}

formula-looks : looks (name_at 6) ≡ true
unfolding name_at
formula-looks = refl

end-ahead : none ≡ token_at 37
unfolding token_at
end-ahead = refl

-- without looking past
pub next-ahead : (w : List Terminal) (at : ℕ) → ahead decided false (drop at w) ≡ token_at (get_or (map code w) at 37)
next-ahead [] zero = end-ahead
next-ahead [] (suc at) = end-ahead
next-ahead (a ∷ w) zero = sym (token_back a)
next-ahead (a ∷ w) (suc at) = next-ahead w at

-- a token that is looked past, and one that is not
skips-ahead : (w : List Terminal) (i : ℕ) → i < length (map code w) → get_or (map code w) i 0 ≡ 13 → ahead decided true (drop i w) ≡ ahead decided true (drop (i + 1) w)
skips-ahead [] i l e = absurd (omega arith)
skips-ahead (a ∷ w) zero l e = ap (λ (b : Bool). choose b (ahead decided true w) (some a)) (eq-eqb (code a) 13 e)
skips-ahead (a ∷ w) (suc i) l e =
    skips-ahead w i (omega arith) e ∙ ap (λ (n : ℕ). ahead decided true (drop n (a ∷ w))) {x = suc (i + 1)} {y = suc i + 1} (omega arith)

stops-ahead : (w : List Terminal) (i : ℕ) → i < length (map code w) → (get_or (map code w) i 0 ≡ 13 → ⊥) → ahead decided true (drop i w) ≡ token_at (get_or (map code w) i 0)
stops-ahead [] i l e = absurd (omega arith)
stops-ahead (a ∷ w) zero l e = ap (λ (b : Bool). choose b (ahead decided true w) (some a)) (ne_eqb (code a) 13 e) ∙ sym (token_back a)
stops-ahead (a ∷ w) (suc i) l e = stops-ahead w i (omega arith) e

over-ahead : (w : List Terminal) (i : ℕ) → length (map code w) ≤ i → ahead decided true (drop i w) ≡ token_at 37
over-ahead [] zero l = end-ahead
over-ahead [] (suc i) l = end-ahead
over-ahead (a ∷ w) zero l = absurd (omega arith)
over-ahead (a ∷ w) (suc i) l = over-ahead w i (omega arith)

-- an entry that is there does not depend on what stands for none
pub get_d_any : (l : List ℕ) (i d e : ℕ) → i < length l → get_or l i d ≡ get_or l i e
get_d_any [] i d e h = absurd (omega arith)
get_d_any (x ∷ l) zero d e h = refl
get_d_any (x ∷ l) (suc i) d e h = get_d_any l i d e (omega arith)

-- a token's number is below that of the end
pub code-few : (w : List Terminal) (i : ℕ) → get_or (map code w) i 37 ≤ 37
code-few [] i = omega arith
code-few (a ∷ w) zero = let h = code_below a in omega arith
code-few (a ∷ w) (suc i) = code-few w i

-- the same of the code's list
module _ (codes : List ℕ) (w : List Terminal) (i : ℕ) (e : codes ≡ map code w) where
  pub skips : i < length codes → (get_or codes i 0 ≡ 13) → ahead decided true (drop i w) ≡ ahead decided true (drop (i + 1) w)
  skips l h = skips-ahead w i (subst (λ (c : List ℕ). i < length c) e l) (ap (λ (c : List ℕ). get_or c i 0) (sym e) ∙ h)

  pub stops : i < length codes → (get_or codes i 0 ≡ 13 → ⊥) → (get_or codes i 0 ≤ 37) × (ahead decided true (drop i w) ≡ token_at (get_or codes i 0))
  stops l h = (
    subst (λ (c : ℕ). c ≤ 37) (ap (λ (c : List ℕ). get_or c i 37) (sym e) ∙ get_d_any codes i 37 0 l) (code-few w i),
    stops-ahead w i (subst (λ (c : List ℕ). i < length c) e l) (λ q. h (ap (λ (c : List ℕ). get_or c i 0) e ∙ q))
        ∙ ap (λ (c : List ℕ). token_at (get_or c i 0)) (sym e),
  )

  pub over : length codes ≤ i → (37 ≤ 37) × (ahead decided true (drop i w) ≡ token_at 37)
  over l = (omega arith, over-ahead w i (subst (λ (c : List ℕ). length c ≤ i) e l))

  pub nears : (c : ℕ) → c ≡ get_or codes i 37 → (c ≤ 37) × (ahead decided false (drop i w) ≡ token_at c)
  nears c q =
      let p = q ∙ ap (λ (x : List ℕ). get_or x i 37) e in
      (subst (λ (x : ℕ). x ≤ 37) (sym p) (code-few w i), next-ahead w i ∙ ap token_at (sym p))

-- where a name is decided: a formula by the token beyond the `(`s, any other by the next
module _ (name : ℕ) (w : List Terminal) (c r : ℕ) (chooses : c ≤ 37 → chosen decided (name_at name) (token_at c) ≡ alternative_at r) where
  by-view : (v : Bool) → looks (name_at name) ≡ v → (c ≤ 37) × (ahead decided v w ≡ token_at c) → chosen decided (name_at name) (ahead decided (looks (name_at name)) w) ≡ alternative_at r
  by-view v e (l, q) =
      ap (λ (u : Bool). chosen decided (name_at name) (ahead decided u w)) e ∙ ap (chosen decided (name_at name)) q ∙ chooses l

  pub formula-decides : name ≡ 6 → (c ≤ 37) × (ahead decided true w ≡ token_at c) → chosen decided (name_at name) (ahead decided (looks (name_at name)) w) ≡ alternative_at r
  formula-decides e q = by-view true (ap (λ (n : ℕ). looks (name_at n)) e ∙ formula-looks) q

  pub other-decides : name < 45 → (name ≡ 6 → ⊥) → (c ≤ 37) × (ahead decided false w ≡ token_at c) → chosen decided (name_at name) (ahead decided (looks (name_at name)) w) ≡ alternative_at r
  other-decides h n q = by-view false (ap (λ (i : ℕ). eqb i 6) (ordinal-at name h) ∙ ne_eqb name 6 n) q
