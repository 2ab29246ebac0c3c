-- What the machine sees when it looks a spelt formula over for its connectives: brackets balance in it, so that a unit is passed whole, and the chain is the formula's own.
use Prim.Native.Nat.{ℕ, zero, suc, ◌<◌}
use mathlib.Core.Path.{◌≡◌, refl, ◌∙◌, ap}
use mathlib.Core.List.{List, [], ◌∷◌, ◌++◌, append_assoc}
use native.Mathlib.Omega.{arith}
use lib.ListN.{length, length-append}
use Rattle.harrop.specs.Formula.{Name}
use Rattle.fof_truth.specs.Formula.{Term, Terms, Formula}
use Rattle.fof_part.specs.Sign.{Sign}
use Rattle.fof_part.specs.Spelled.{TermSpelt, TermsSpelt, NamesSpelt, UnitSpelt, LogicSpelt, ChainSpelt}
use Rattle.fof_part.specs.Due.{Link, Chain, number_in, chain}
use Rattle.fof_part.proofs.BecomesLaws.{link_sign}

-- the parts of signs are no longer than the whole
pub front-within : (w v : List Sign) (n : ℕ) → length (w ++ v) < n → length w < n
front-within w v n h =
    let e = length-append w v in
    omega arith

pub back-within : (w v : List Sign) (n : ℕ) → length (w ++ v) < n → length v < n
back-within w v n h =
    let e = length-append w v in
    omega arith

-- in parentheses
closed-by : (w : List Sign) (d : ℕ) (k : List Sign) → chain (suc d) (w ++ (Sign.closes ∷ k)) ≡ chain d k → chain (suc d) ((w ++ (Sign.closes ∷ [])) ++ k) ≡ chain d k
closed-by w d k e = ap (chain (suc d)) (append_assoc w (Sign.closes ∷ []) k) ∙ e

-- terms of less than n signs are passed: what is spelt inside brackets is shorter than the whole
abbrev TermsTo : ℕ → Type 0
TermsTo n = (t : Term) (w : List Sign) → TermSpelt t w → length w < n → (d : ℕ) (k : List Sign) → chain d (w ++ k) ≡ chain d k

terms-by : (n : ℕ) → TermsTo n → {t : Term} {ts : Terms} {w : List Sign} → TermsSpelt t ts w → length w < n → (d : ℕ) (k : List Sign) → chain (suc d) (w ++ k) ≡ chain (suc d) k
terms-by n p (TermsSpelt.last {t = t} {w = w} s) h d k = p t w s h (suc d) k
terms-by n p (TermsSpelt.further {t = t} {w = w} {v = v} s ts) h d k =
    ap (chain (suc d)) (append_assoc w (Sign.comma ∷ v) k)
    ∙ p t w s (front-within w (Sign.comma ∷ v) n h) (suc d) (Sign.comma ∷ (v ++ k))
    ∙ terms-by n p ts (back-within (Sign.comma ∷ []) v n (back-within w (Sign.comma ∷ v) n h)) d k

term-step : (n : ℕ) → TermsTo n → TermsTo (suc n)
term-step n p t w TermSpelt.variable h d k = refl
term-step n p t w TermSpelt.constant h d k = refl
term-step n p t w (TermSpelt.applied {w = v} ts) h d k = closed-by v d k (terms-by n p ts (front-within v (Sign.closes ∷ []) n (omega arith)) d (Sign.closes ∷ k))

term-to : (n : ℕ) → TermsTo n
term-to zero t w s h d k = absurd (omega arith)
term-to (suc n) t w s h d k = term-step n (term-to n) t w s h d k

terms-passed : {t : Term} {ts : Terms} {w : List Sign} → TermsSpelt t ts w → (d : ℕ) (k : List Sign) → chain (suc d) (w ++ k) ≡ chain (suc d) k
terms-passed {w = w} s d k = terms-by (suc (length w)) (term-to (suc (length w))) s (omega arith) d k

names-passed : {x : Name} {xs : List Name} {w : List Sign} → NamesSpelt x xs w → (d : ℕ) (k : List Sign) → chain (suc d) (w ++ k) ≡ chain (suc d) k
names-passed NamesSpelt.last d k = refl
names-passed (NamesSpelt.further ns) d k = names-passed ns d k

-- a variable list, its end and a colon
list-passed : {x : Name} {xs : List Name} {w : List Sign} → NamesSpelt x xs w → (v : List Sign) (d : ℕ) (k : List Sign) → chain (suc d) ((w ++ (Sign.ends ∷ Sign.colon ∷ v)) ++ k) ≡ chain d (v ++ k)
list-passed {w = w} ns v d k = ap (chain (suc d)) (append_assoc w (Sign.ends ∷ Sign.colon ∷ v) k) ∙ names-passed ns d (Sign.ends ∷ Sign.colon ∷ (v ++ k))

-- what a quantifier takes is shorter than the whole
pub body-within : (x v : List Sign) (n : ℕ) → suc (suc (length (x ++ (Sign.ends ∷ Sign.colon ∷ v)))) < suc n → length v < n
body-within x v n h =
    let e = length-append x (Sign.ends ∷ Sign.colon ∷ v) in
    omega arith

-- units of less than n signs are passed
abbrev UnitsTo : ℕ → Type 0
UnitsTo n = (F : Formula) (w : List Sign) → UnitSpelt F w → length w < n → (d : ℕ) (k : List Sign) → chain d (w ++ k) ≡ chain d k

links-by : (n : ℕ) → UnitsTo n → {s : Sign} {G : Formula} {Gs : List Formula} {v : List Sign} → ChainSpelt s G Gs v → length v < n → (d : ℕ) (k : List Sign) → ((x : List Sign) → chain (suc d) (s ∷ x) ≡ chain (suc d) x) → chain (suc d) (v ++ k) ≡ chain (suc d) k
links-by n p (ChainSpelt.last {s = s} {G = G} {w = w} u) h d k f = f (w ++ k) ∙ p G w u (back-within (s ∷ []) w n h) (suc d) k
links-by n p (ChainSpelt.further {s = s} {G = G} {w = w} {v = v} u c) h d k f =
    let l = back-within (s ∷ []) (w ++ v) n h in
    f ((w ++ v) ++ k)
    ∙ ap (chain (suc d)) (append_assoc w v k)
    ∙ p G w u (front-within w v n l) (suc d) (v ++ k)
    ∙ links-by n p c (back-within w v n l) d k f

-- any formula is, inside brackets
logic-by : (n : ℕ) → UnitsTo n → {F : Formula} {w : List Sign} → LogicSpelt F w → length w < n → (d : ℕ) (k : List Sign) → chain (suc d) (w ++ k) ≡ chain (suc d) k
logic-by n p (LogicSpelt.alone {F = F} {w = w} u) h d k = p F w u h (suc d) k
logic-by n p (LogicSpelt.conjoined {F = F} {w = w} {v = v} u c) h d k =
    ap (chain (suc d)) (append_assoc w v k) ∙ p F w u (front-within w v n h) (suc d) (v ++ k) ∙ links-by n p c (back-within w v n h) d k (λ x. refl)
logic-by n p (LogicSpelt.disjoined {F = F} {w = w} {v = v} u c) h d k =
    ap (chain (suc d)) (append_assoc w v k) ∙ p F w u (front-within w v n h) (suc d) (v ++ k) ∙ links-by n p c (back-within w v n h) d k (λ x. refl)
logic-by n p (LogicSpelt.implied {F = F} {G = G} {w = w} {v = v} u x) h d k =
    ap (chain (suc d)) (append_assoc w (Sign.then ∷ v) k)
    ∙ p F w u (front-within w (Sign.then ∷ v) n h) (suc d) (Sign.then ∷ (v ++ k))
    ∙ p G v x (back-within (Sign.then ∷ []) v n (back-within w (Sign.then ∷ v) n h)) (suc d) k

unit-step : (n : ℕ) → UnitsTo n → UnitsTo (suc n)
unit-step n p F w UnitSpelt.truth h d k = refl
unit-step n p F w UnitSpelt.plain h d k = refl
unit-step n p F w (UnitSpelt.applied {w = v} ts) h d k = closed-by v d k (terms-passed ts d (Sign.closes ∷ k))
unit-step n p F w (UnitSpelt.every {F = G} {w = x} {v = v} ns u) h d k = list-passed ns v d k ∙ p G v u (body-within x v n h) d k
unit-step n p F w (UnitSpelt.exist {F = G} {w = x} {v = v} ns u) h d k = list-passed ns v d k ∙ p G v u (body-within x v n h) d k
unit-step n p F w (UnitSpelt.parens {w = v} l) h d k = closed-by v d k (logic-by n p l (front-within v (Sign.closes ∷ []) n (omega arith)) d (Sign.closes ∷ k))

unit-to : (n : ℕ) → UnitsTo n
unit-to zero F w u h d k = absurd (omega arith)
unit-to (suc n) F w u h d k = unit-step n (unit-to n) F w u h d k

-- a unit is passed wherever it stands
pub unit-passed : {F : Formula} {w : List Sign} → UnitSpelt F w → (d : ℕ) (k : List Sign) → chain d (w ++ k) ≡ chain d k
unit-passed {F = F} {w = w} u d k = unit-to (suc (length w)) F w u (omega arith) d k

-- in front of signs that end a formula: a unit alone, a chain of one connective, an implication
pub alone-chain : {F : Formula} {w : List Sign} → UnitSpelt F w → (k : List Sign) → chain 0 k ≡ Chain.lone → chain 0 (w ++ k) ≡ Chain.lone
alone-chain u k e = unit-passed u 0 k ∙ e

link-counts : (l : Link) (x : List Sign) → chain 0 (link_sign l ∷ x) ≡ Chain.linked l (suc (number_in (chain 0 x)))
link-counts Link.conj x = refl
link-counts Link.disj x = refl

links-chain : {s : Sign} {G : Formula} {Gs : List Formula} {v : List Sign} → ChainSpelt s G Gs v → (l : Link) → s ≡ link_sign l → (k : List Sign) → chain 0 k ≡ Chain.lone → chain 0 (v ++ k) ≡ Chain.linked l (suc (length Gs))
links-chain (ChainSpelt.last {w = w} u) l h k e =
    ap (λ (s : Sign). chain 0 (s ∷ (w ++ k))) h ∙ link-counts l (w ++ k) ∙ ap (λ (c : Chain). Chain.linked l (suc (number_in c))) (unit-passed u 0 k ∙ e)
links-chain (ChainSpelt.further {w = w} {v = v} u c) l h k e =
    ap (λ (s : Sign). chain 0 (s ∷ ((w ++ v) ++ k))) h
    ∙ link-counts l ((w ++ v) ++ k)
    ∙ ap (λ (c : Chain). Chain.linked l (suc (number_in c))) (ap (chain 0) (append_assoc w v k) ∙ unit-passed u 0 (v ++ k) ∙ links-chain c l h k e)

pub linked-chain : {F G : Formula} {Gs : List Formula} {w v : List Sign} → UnitSpelt F w → (l : Link) → ChainSpelt (link_sign l) G Gs v → (k : List Sign) → chain 0 k ≡ Chain.lone → chain 0 (w ++ (v ++ k)) ≡ Chain.linked l (suc (length Gs))
linked-chain {v = v} u l c k e = unit-passed u 0 (v ++ k) ∙ links-chain c l refl k e

pub implied-chain : {F G : Formula} {w v : List Sign} → UnitSpelt F w → UnitSpelt G v → (k : List Sign) → chain 0 k ≡ Chain.lone → chain 0 (w ++ (Sign.then ∷ (v ++ k))) ≡ Chain.implied 1
implied-chain {v = v} u x k e = unit-passed u 0 (Sign.then ∷ (v ++ k)) ∙ ap (λ (c : Chain). Chain.implied (suc (number_in c))) (unit-passed x 0 k ∙ e)
