-- One due after the other: the due on top is done as fof_part's machine does it, what it leaves has room, and the steps that are allowed are enough.
use Prim.Native.Nat.{ℕ, zero, suc, ◌+◌, ◌*◌, ◌-◌, ◌<◌, ◌≤◌}
use mathlib.Core.Path.{◌≡◌, refl, sym, ◌∙◌, ap, subst}
use mathlib.Core.Bool.{Bool, true, false, false≢true}
use mathlib.Core.List.{List, [], ◌∷◌, ◌++◌, append-nil, append_assoc}
use mathlib.Core.Option.{Option, none, some, some-injective}
use native.Mathlib.Omega.{arith}
use lib.ListN.{length, get_or, drop, length-drop}
use Rattle.basics.specs.Choice.{◌>>=◌, nope, provided, bind-some}
use Rattle.fof_tokens.specs.Token.{Token}
use Rattle.fof_tokens.specs.Machine.{Sort, gap, token}
use Rattle.fof_tokens.specs.Next.{piece_at, adds, with_piece, tokens_from, tokens_at}
use Rattle.fof_truth.specs.Numbered.{Scope}
use Rattle.fof_part.specs.Sign.{Sign, signs}
use Rattle.fof_part.specs.Mark.{Mark}
use Rattle.fof_part.specs.Due as part
use Rattle.fof_part.specs.Due.{Did, did, due_at, left, Ran, after, run, costs, formula_at}
use Rattle.fof_part.proofs.CostLaws.{step-pays, costs-append, run-enough}
use Rattle.fof_part.proofs.RunLaws.{run_none}
use Rattle.fof_pass.specs.declared.ink.Pen.{Pen}
use Rattle.fof_pass.specs.declared.ahead.Ahead.{Ahead}
use Rattle.fof_pass.specs.declared.dues.Sort as dues
use Rattle.fof_pass.specs.declared.dues.Due.{Due}
use Rattle.fof_pass.specs.declared.dues.Due.TheVariants as D
use Rattle.fof_plan.specs.declared.plan.Plan.{Plan}
use Rattle.fof_plan.specs.declared.plan.Writes.{Writes}
use Rattle.fof_plan.specs.declared.plan.Writes.TheVariants as W
use Rattle.fof_act.specs.declared.act.Now.{Now}
use Rattle.fof_pass.specs.Codes.{code_is}
use Rattle.fof_pass.specs.Ahead.{signs_at, SeesAll, Aheads}
use Rattle.fof_pass.specs.Dues.{sort_is, meant, Few, Stack, Held, Pushes}
use Rattle.fof_pass.specs.Ink.{Inks}
use Rattle.fof_plan.specs.Planned.{code_ahead, beyond, written, scope_then, dues_in, planned, Named, Plans}
use Rattle.fof_act.specs.Holding.{Enough, Roomy, Holds, DoneAs, Kept, Acts, Steps, ReadAs, Formulas}
use Rattle.fof_pass.proofs.InkLaws.{inks-none, inks-then}

-- a text has no more tokens than bytes: each takes at least one
adds-few : (s : Sort) (e at : ℕ) (w : List ℕ) (o : Option (List Token)) (n : ℕ) → ((ts : List Token) → o ≡ some ts → length ts ≤ n) → (us : List Token) → adds s e at w o ≡ some us → length us ≤ suc n
adds-few gap e at w o n h us q = let z = h us q in omega arith
adds-few (token k) e at w o n h us q =
    let (ts, f, g) = bind-some o (λ ts. some (record { kind = k; at = at; bytes = _ } ∷ ts)) us q in
    let z = h ts f in
    let y = ap length (some-injective (record { kind = k; at = at; bytes = _ } ∷ ts) us g) in
    omega arith

piece-few : (p : Option (Sort × ℕ)) (at : ℕ) (w : List ℕ) (rest : ℕ → Option (List Token)) (n : ℕ) → ((i : ℕ) (ts : List Token) → rest i ≡ some ts → length ts ≤ n) → (us : List Token) → with_piece p at w rest ≡ some us → length us ≤ suc n
piece-few none at w rest n h us q = nope q
piece-few (some p) at w rest n h us q = adds-few p.0 p.1 at w (rest (p.1 - (at + 1))) n (h (p.1 - (at + 1))) us q

tokens-few : (w : List ℕ) (owed at : ℕ) (ts : List Token) → tokens_from owed at w ≡ some ts → length ts ≤ length w
unfolding tokens_from
tokens-few [] zero at ts e = let z = ap length (some-injective [] ts e) in omega arith
tokens-few [] (suc owed) at ts e = let z = ap length (some-injective [] ts e) in omega arith
tokens-few (c ∷ w) (suc owed) at ts e = let z = tokens-few w owed (at + 1) ts e in omega arith
tokens-few (c ∷ w) zero at ts e = piece-few (piece_at at (c ∷ w)) at (c ∷ w) (λ owed. tokens_from owed (at + 1) w) (length w) (λ i us h. tokens-few w i (at + 1) us h) ts e

signs-length : (ts : List Token) → length (signs ts) ≡ length ts
signs-length [] = refl
signs-length (t ∷ ts) = ap suc (signs-length ts)

pub signs-few : (t : List ℕ) (at : ℕ) (ss : List Sign) → signs_at t at ≡ some ss → length ss ≤ length t
unfolding signs_at tokens_at
signs-few t at ss e =
    let (ts, f, g) = bind-some (tokens_from 0 at (drop at t)) (λ ts. some (signs ts)) ss e in
    let z = tokens-few (drop at t) 0 at ts f in
    let y = ap length (some-injective (signs ts) ss g) in
    let x = signs-length ts in
    omega (arith, length-drop at t)

-- the number of the sign ahead
pub code-seen : (t : List ℕ) (a : Ahead) (ss : List Sign) → SeesAll t a ss → (code_is a.sign) ≡ code_ahead ss
code-seen t a [] h = h
code-seen t a (s ∷ ss) h = h.number

-- a variable becomes bound only where its sign is taken
beyond-fits : (takes : Bool) (ss : List Sign) → length (beyond takes ss) ≤ length ss
beyond-fits false ss = omega arith
beyond-fits true [] = omega arith
beyond-fits true (s ∷ ss) = omega arith

bound-fits : (takes : Bool) (ss : List Sign) → code_ahead ss ≡ 1 → takes ≡ true → suc (length (beyond takes ss)) ≤ length ss
bound-fits takes [] e f = absurd (omega arith)
bound-fits false (s ∷ ss) e f = absurd (false≢true f)
bound-fits true (s ∷ ss) e f = omega arith

left-fits : (sc : Scope) → length (left sc) ≤ length sc
left-fits [] = omega arith
left-fits (x ∷ sc) = omega arith

pub scope-fits : (w : Writes) (takes : Bool) (sc : Scope) (ss : List Sign) → Named w takes (code_ahead ss) → length (scope_then w sc ss) + length (beyond takes ss) ≤ length sc + length ss
scope-fits W.Nothing takes sc ss h = let z = beyond-fits takes ss in omega arith
scope-fits (W.Heads c n) takes sc ss h = let z = beyond-fits takes ss in omega arith
scope-fits W.Implies takes sc ss h = let z = beyond-fits takes ss in omega arith
scope-fits (W.Binds e) takes sc ss h = let z = bound-fits takes ss h.0 h.1 in omega arith
scope-fits W.Top takes sc ss h = let z = beyond-fits takes ss in omega arith
scope-fits W.Atom takes sc ss h = let z = beyond-fits takes ss in omega arith
scope-fits W.Function takes sc ss h = let z = beyond-fits takes ss in omega arith
scope-fits W.Variable takes sc ss h = let z = beyond-fits takes ss in omega arith
scope-fits W.End takes sc ss h = let z = beyond-fits takes ss in omega arith
scope-fits W.Leaves takes sc ss h =
    let z = beyond-fits takes ss in
    let y = left-fits sc in
    omega arith

-- what a plan leaves of the variables and the signs
planned-fits : (p : Plan) (sc : Scope) (ss : List Sign) (x : Did) → Named p.writes p.takes (code_ahead ss) → planned p sc ss ≡ some x → length x.scope + length x.rest ≤ length sc + length ss
planned-fits p sc ss x h e = go p.ok (written p.writes sc ss) e
  where
    go : (b : Bool) (o : Option (List Mark)) → provided b (o >>= λ ms. did ms (dues_in p) (scope_then p.writes sc ss) (beyond p.takes ss)) ≡ some x → length x.scope + length x.rest ≤ length sc + length ss
    go false o q = nope q
    go true none q = nope q
    go true (some ms) q =
        let y = some-injective (record { marks = ms; dues = dues_in p; scope = scope_then p.writes sc ss; rest = beyond p.takes ss }) x q in
        subst (λ (z : Did). length z.scope + length z.rest ≤ length sc + length ss) y (scope-fits p.writes p.takes sc ss h)

-- so what a due leaves has room
enough-then : (x : part.Due) (ds : List part.Due) (sc : Scope) (ss : List Sign) (y : Did) → due_at x sc ss ≡ some y → length y.scope + length y.rest ≤ length sc + length ss → Enough (x ∷ ds) sc ss → Enough (y.dues ++ ds) y.scope y.rest
enough-then x ds sc ss y e l (c, k) =
    let p = step-pays x sc ss y e in
    let q = costs-append y.dues ds in
    (omega arith, omega arith)

-- the due on top, done
module _ {t : List ℕ} {st st' : Stack} {ns ns' b b' : List ℕ} {n r : Now} {top : ℕ} {d : Due ℕ} {a : Ahead} {p : Plan} (low : top ≡ n.top - 1) (due : d ≡ get_or st top D.Nothing) (ahead : Aheads t n.at a) (plan : Plans t n.at d (code_is a.sign) p) (act : Acts t st st' ns ns' b b' (record { ok = n.ok; at = n.at; top = top; bound = n.bound; pen = n.pen }) a p r) where
  does-top : length t ≤ 16384 → (x : part.Due) (ds : List part.Due) (sc : Scope) (ss : List Sign) → Holds t st ns n (x ∷ ds) sc ss → DoneAs (due_at x sc ss) ds t st' ns' b b' n.pen r
  does-top short x ds sc ss h =
      let (k, e, m, f, rest) = h.dues in
      let at : top ≡ k = omega arith in
      let is : get_or st k D.Nothing ≡ d = sym (due ∙ ap (λ (i : ℕ). get_or st i D.Nothing) at) in
      let c = code-seen t a ss (ahead.seen ss h.signs) in
      let same : due_at x sc ss ≡ planned p sc ss = plan.does ss h.signs c x (subst (λ (y : Due ℕ). meant y ≡ x ∷ []) is m) sc in
      let now : Holds t st ns (record { ok = n.ok; at = n.at; top = top; bound = n.bound; pen = n.pen }) ds sc ss = record {
        dues = subst (λ (i : ℕ). Held st i ds) (sym at) rest;
        names = h.names;
        signs = h.signs;
        enough = (omega (arith, h.enough.0), h.enough.1);
        roomy = h.roomy;
      } in
      let room : (y : Did) → planned p sc ss ≡ some y → Enough (y.dues ++ ds) y.scope y.rest = λ y q. enough-then x ds sc ss y (same ∙ q) (planned-fits p sc ss y (subst (λ (i : ℕ). Named p.writes p.takes i) c plan.named) q) h.enough in
      subst (λ (o : Option Did). DoneAs o ds t st' ns' b b' n.pen r) (sym same)
      (act.does ds sc ss now ahead plan.named plan.taken (plan.few short (subst Few is f)) room)

  pub steps : Steps t st st' ns ns' b b' n r
  steps = record { kept = act.kept; does = does-top }

-- how far a formula is read that comes to `o`: so many steps are allowed, and they are enough; or there is no formula
pub data Going (t : List ℕ) (st : Stack) (ns d d' : List ℕ) (p : Pen) (n : Now) (steps : ℕ) (o : Option Ran) : Type 0 where
  on : (ds : List part.Due) (sc : Scope) (ss : List Sign) (ms : List Mark) → n.ok ≡ true → Holds t st ns n ds sc ss → Inks ms p d d' n.pen → costs ds + 6 * length ss ≤ steps → o ≡ (run steps ds sc ss >>= λ r. some (after ms r)) → Going t st ns d d' p n steps o
  over : n.ok ≡ false → o ≡ none → Going t st ns d d' p n steps o

from_nothing : (o : Option Ran) → o ≡ (o >>= λ r. some (after [] r))
from_nothing none = refl
from_nothing (some r) = refl

after_both : (ms ns : List Mark) (o : Option Ran) → ((o >>= λ r. some (after ns r)) >>= λ r. some (after ms r)) ≡ (o >>= λ r. some (after (ms ++ ns) r))
after_both ms ns none = refl
after_both ms ns (some r) = ap (λ (x : List Mark). some (record { marks = x; scope = r.scope; rest = r.rest })) (sym (append_assoc ms ns r.marks))

-- at most 16,384 signs, so the work memory and 98,400 steps are enough for the formula that is due
going-first : {t : List ℕ} {st st' : Stack} {ns : List ℕ} {at top : ℕ} (p : Pen) (sort : dues.Sort) (d : List ℕ) → Pushes (D.Formula sort) st st' 0 top → length t ≤ 16384 → Roomy st ns → (ss : List Sign) → signs_at t at ≡ some ss → Going t st' ns d d p (record { ok = true; at = at; top = top; bound = 0; pen = p }) 98400 (formula_at (sort_is sort) ss)
unfolding formula_at
going-first {t} {at = at} p sort d push short roomy ss here =
    let few = signs-few t at ss here in
    let ds : List part.Due = part.Due.formula (sort_is sort) ∷ [] in
    on ds [] ss [] refl
    (record {
      dues = push.held (omega arith) (omega (arith, roomy.0)) tt [] refl;
      names = refl;
      signs = here;
      enough = (omega arith, omega arith);
      roomy = (omega (arith, roomy.0, push.long), roomy.1);
    })
    (inks-none p d)
    (omega arith)
    (run-enough (5 + 6 * length ss) 98400 ds [] ss (omega arith) (omega arith) ∙ from_nothing (run 98400 ds [] ss))

-- no step is left, but a due: there is no formula
going-out : {t : List ℕ} {st : Stack} {ns d d' : List ℕ} {p : Pen} {n : Now} {steps : ℕ} {o : Option Ran} → 0 < n.top → steps ≡ 0 → Going t st ns d d' p n steps o → o ≡ none
unfolding run
going-out high e (on [] sc ss ms f h i c q) = absurd (omega (arith, h.dues))
going-out high e (on (x ∷ ds) sc ss ms f h i c q) = q ∙ ap (λ (k : ℕ). run k (x ∷ ds) sc ss >>= λ r. some (after ms r)) e
going-out high e (over f q) = q

-- what stood there is outside the part
going-wrong : {t : List ℕ} {st : Stack} {ns d d' : List ℕ} {p : Pen} {n : Now} {steps : ℕ} {o : Option Ran} → n.ok ≡ false → Going t st ns d d' p n steps o → o ≡ none
going-wrong e (on ds sc ss ms f h i c q) = absurd (false≢true (sym e ∙ f))
going-wrong e (over f q) = q

-- nothing is due any more
going_done : {t : List ℕ} {st : Stack} {ns d d' : List ℕ} {p : Pen} {n : Now} {steps : ℕ} {o : Option Ran} → n.top ≤ 0 → Going t st ns d d' p n steps o → ReadAs o t d d' p n
going_done {t} {d = d} {d'} {p} {n} {steps} low (on [] sc ss ms f h i c q) =
    subst (λ (x : Option Ran). ReadAs x t d d' p n) (sym (q ∙ ap (λ (x : Option Ran). x >>= λ r. some (after ms r)) (run_none steps sc ss)))
    (f, h.signs, subst (λ (x : List Mark). Inks x p d d' n.pen) (sym (append-nil ms)) i)
going_done low (on (x ∷ ds) sc ss ms f h i c q) = absurd (omega (arith, h.dues.1))
going_done {t} {d = d} {d'} {p} {n} low (over f q) = subst (λ (x : Option Ran). ReadAs x t d d' p n) (sym q) f

-- what one due did, with k steps left
done_next : {t : List ℕ} {st : Stack} {ns d d' d'' : List ℕ} {p q : Pen} {n : Now} {o : Option Ran} (k : ℕ) (x : part.Due) (ds : List part.Due) (sc : Scope) (ss : List Sign) (ms : List Mark) (y : Option Did) → due_at x sc ss ≡ y → DoneAs y ds t st ns d' d'' q n → Inks ms p d d' q → costs (x ∷ ds) + 6 * length ss ≤ suc k → o ≡ (run (suc k) (x ∷ ds) sc ss >>= λ r. some (after ms r)) → Going t st ns d d'' p n k o
unfolding run
done_next k x ds sc ss ms none e h i c g =
    over h (g ∙ ap (λ (z : Option Did). z >>= (λ z. run k (z.dues ++ ds) z.scope z.rest >>= λ r. some (after z.marks r)) >>= λ r. some (after ms r)) e)
done_next k x ds sc ss ms (some y) e (f, h, j) i c g =
    let a = step-pays x sc ss y e in
    let b = costs-append y.dues ds in
    on (y.dues ++ ds) y.scope y.rest (ms ++ y.marks) f h (inks-then i j) (omega arith)
    (g
    ∙ ap (λ (z : Option Did). z >>= (λ z. run k (z.dues ++ ds) z.scope z.rest >>= λ r. some (after z.marks r)) >>= λ r. some (after ms r)) e
    ∙ after_both ms y.marks (run k (y.dues ++ ds) y.scope y.rest))

going_next : {t : List ℕ} {st st' : Stack} {ns ns' d d' d'' : List ℕ} {p : Pen} {n m : Now} {steps : ℕ} {o : Option Ran} → Steps t st st' ns ns' d' d'' n m → length t ≤ 16384 → 0 < n.top → (steps ≡ 0 → ⊥) → n.ok ≡ true → Going t st ns d d' p n steps o → Going t st' ns' d d'' p m (steps - 1) o
going_next step short high more ok (on [] sc ss ms f h i c q) = absurd (omega (arith, h.dues))
going_next {steps = steps} step short high more ok (on (x ∷ ds) sc ss ms f h i c q) =
    let s : steps ≡ suc (steps - 1) = omega arith in
    done_next (steps - 1) x ds sc ss ms (due_at x sc ss) refl (step.does short x ds sc ss h) i (omega arith) (q ∙ ap (λ (k : ℕ). run k (x ∷ ds) sc ss >>= λ r. some (after ms r)) s)
going_next step short high more ok (over f q) = absurd (false≢true (sym f ∙ ok))

-- from one place of the loop to another
pub record Runs (t : List ℕ) (st st' : Stack) (ns ns' d d' : List ℕ) (n m : Now) (steps left : ℕ) : Type 0 where
  pub kept : Kept st st' ns ns' d d'
  pub goes : length t ≤ 16384 → (o : Option Ran) → Going t st ns d d n.pen n steps o → Going t st' ns' d d' n.pen m left o

pub runs-first : (t : List ℕ) (st : Stack) (ns d : List ℕ) (n : Now) (steps : ℕ) → Runs t st st ns ns d d n n steps steps
runs-first t st ns d n _ = record { kept = record { stack = refl; names = refl; bytes = refl }; goes = λ _ o g. g }

kept_then : {st st' st'' : Stack} {ns ns' ns'' d d' d'' : List ℕ} → Kept st st' ns ns' d d' → Kept st' st'' ns' ns'' d' d'' → Kept st st'' ns ns'' d d''
kept_then a b = record { stack = b.stack ∙ a.stack; names = b.names ∙ a.names; bytes = b.bytes ∙ a.bytes }

pub runs-next : {t : List ℕ} {st st' st'' : Stack} {ns ns' ns'' d d' d'' : List ℕ} {n m r : Now} {steps left : ℕ} → Runs t st st' ns ns' d d' n m steps left → 0 < m.top → (left ≡ 0 → ⊥) → m.ok ≡ true → Steps t st' st'' ns' ns'' d' d'' m r → Runs t st st'' ns ns'' d d'' n r steps (left - 1)
runs-next runs high more ok step = record {
  kept = kept_then runs.kept step.kept;
  goes = λ short o g. going_next step short high more ok (runs.goes short o g);
}

-- a formula, from the due that is pushed to where the loop is left
module _ {t : List ℕ} {st st' st'' : Stack} {ns ns'' d d'' : List ℕ} {at top left : ℕ} {p : Pen} {n : Now} (sort : dues.Sort) (push : Pushes (D.Formula sort) st st' 0 top) (runs : Runs t st' st'' ns ns'' d d'' (record { ok = true; at = at; top = top; bound = 0; pen = p }) n 98400 left) where
  formula-kept : Kept st st'' ns ns'' d d''
  formula-kept = kept_then (record { stack = push.long; names = refl; bytes = refl }) runs.kept

  goes-all : length t ≤ 16384 → Roomy st ns → (ss : List Sign) → signs_at t at ≡ some ss → Going t st'' ns'' d d'' p n left (formula_at (sort_is sort) ss)
  goes-all short roomy ss here = runs.goes short (formula_at (sort_is sort) ss) (going-first p sort d push short roomy ss here)

  pub formula-out : {r : Now} → 0 < n.top → left ≡ 0 → r.ok ≡ false → Formulas t st st'' ns ns'' d d'' p at (sort_is sort) r
  formula-out {r} high e f = record {
    kept = formula-kept;
    does = λ short roomy ss here. subst (λ (x : Option Ran). ReadAs x t d d'' p r) (sym (going-out high e (goes-all short roomy ss here))) f;
  }

  pub formula-wrong : {r : Now} → n.ok ≡ false → r.ok ≡ false → Formulas t st st'' ns ns'' d d'' p at (sort_is sort) r
  formula-wrong {r} e f = record {
    kept = formula-kept;
    does = λ short roomy ss here. subst (λ (x : Option Ran). ReadAs x t d d'' p r) (sym (going-wrong e (goes-all short roomy ss here))) f;
  }

  pub formula-done : n.top ≤ 0 → Formulas t st st'' ns ns'' d d'' p at (sort_is sort) n
  formula-done low = record { kept = formula-kept; does = λ short roomy ss here. going_done low (goes-all short roomy ss here) }
