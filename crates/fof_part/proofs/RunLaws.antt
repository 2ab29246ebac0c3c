-- How a run of the machine is put together and taken apart: with more steps allowed it answers the same, a run of dues and then of others is a run of both, and a run of both is one of each.
use Prim.Native.Nat.{ℕ, zero, suc, ◌+◌, ◌≤◌}
use mathlib.Core.Path.{◌≡◌, refl, sym, ◌∙◌, ap, subst}
use mathlib.Core.List.{List, [], ◌∷◌, ◌++◌, append_assoc}
use mathlib.Core.Option.{Option, none, some, some-injective}
use native.Mathlib.Omega.{arith}
use Rattle.basics.specs.Choice.{◌>>=◌, nope, bind-some}
use Rattle.fof_truth.specs.Numbered.{Scope}
use Rattle.fof_part.specs.Sign.{Sign}
use Rattle.fof_part.specs.Mark.{Mark}
use Rattle.fof_part.specs.Due.{Due, Did, due_at, Ran, after, run}

-- a step of a run, taken apart and put together
pub record Step (f : ℕ) (d : Due) (ds : List Due) (sc : Scope) (ss : List Sign) (r : Ran) : Type 0 where
  pub done : Did
  pub is_done : due_at d sc ss ≡ some done
  pub then : Ran
  pub is_then : run f (done.dues ++ ds) done.scope done.rest ≡ some then
  pub makes : after done.marks then ≡ r

pub run_step : (f : ℕ) (d : Due) (ds : List Due) (sc : Scope) (ss : List Sign) (r : Ran) → run (suc f) (d ∷ ds) sc ss ≡ some r → Step f d ds sc ss r
unfolding run
run_step f d ds sc ss r e =
    let (x, h, k) = bind-some (due_at d sc ss) (λ x. run f (x.dues ++ ds) x.scope x.rest >>= λ r. some (after x.marks r)) r e in
    let (t, g, m) = bind-some (run f (x.dues ++ ds) x.scope x.rest) (λ r. some (after x.marks r)) r k in
    record { done = x; is_done = h; then = t; is_then = g; makes = some-injective (after x.marks t) r m }

pub step_run : (f : ℕ) (d : Due) (ds : List Due) (sc : Scope) (ss : List Sign) (x : Did) (t : Ran) → due_at d sc ss ≡ some x → run f (x.dues ++ ds) x.scope x.rest ≡ some t → run (suc f) (d ∷ ds) sc ss ≡ some (after x.marks t)
unfolding run
step_run f d ds sc ss x t h g =
    ap (λ (o : Option Did). o >>= λ x. run f (x.dues ++ ds) x.scope x.rest >>= λ r. some (after x.marks r)) h
    ∙ ap (λ (o : Option Ran). o >>= λ r. some (after x.marks r)) g

pub run_none : (f : ℕ) (sc : Scope) (ss : List Sign) → run f [] sc ss ≡ some (record { marks = []; scope = sc; rest = ss })
unfolding run
run_none zero sc ss = refl
run_none (suc f) sc ss = refl

run-zero : {P : Type 0} (d : Due) (ds : List Due) (sc : Scope) (ss : List Sign) (r : Ran) → run zero (d ∷ ds) sc ss ≡ some r → P
unfolding run
run-zero d ds sc ss r e = nope e

-- with more steps allowed the answer is the same
pub run_more : (f g : ℕ) (ds : List Due) (sc : Scope) (ss : List Sign) (r : Ran) → f ≤ g → run f ds sc ss ≡ some r → run g ds sc ss ≡ some r
run_more zero g [] sc ss r l e = run_none g sc ss ∙ sym (run_none zero sc ss) ∙ e
run_more zero g (d ∷ ds) sc ss r l e = run-zero d ds sc ss r e
run_more (suc f) g [] sc ss r l e = run_none g sc ss ∙ sym (run_none (suc f) sc ss) ∙ e
run_more (suc f) zero (d ∷ ds) sc ss r l e = absurd (omega arith)
run_more (suc f) (suc g) (d ∷ ds) sc ss r l e =
    let t = run_step f d ds sc ss r e in
    step_run g d ds sc ss t.done t.then t.is_done (run_more f g (t.done.dues ++ ds) t.done.scope t.done.rest t.then (omega arith) t.is_then) ∙ ap some t.makes

after-after : (ms ns : List Mark) (r : Ran) → after ms (after ns r) ≡ after (ms ++ ns) r
after-after ms ns r = ap (λ (x : List Mark). record { marks = x; scope = r.scope; rest = r.rest }) (sym (append_assoc ms ns r.marks))

-- no due is left to be done
nothing_then : (f g : ℕ) (ys : List Due) (sc : Scope) (ss : List Sign) (r q : Ran) → run f [] sc ss ≡ some r → run g ys r.scope r.rest ≡ some q → run (f + g) ys sc ss ≡ some (after r.marks q)
nothing_then f g ys sc ss r q e h =
    let k = some-injective (record { marks = []; scope = sc; rest = ss }) r (sym (run_none f sc ss) ∙ e) in
    run_more g (f + g) ys sc ss (after r.marks q) (omega arith) (subst (λ (x : Ran). run g ys x.scope x.rest ≡ some q) (sym k) h ∙ ap (λ (x : Ran). some (after x.marks q)) k)

-- a run of dues and then of others
pub run-then : (f g : ℕ) (xs ys : List Due) (sc : Scope) (ss : List Sign) (r q : Ran) → run f xs sc ss ≡ some r → run g ys r.scope r.rest ≡ some q → run (f + g) (xs ++ ys) sc ss ≡ some (after r.marks q)
run-then zero g [] ys sc ss r q e h = nothing_then zero g ys sc ss r q e h
run-then zero g (x ∷ xs) ys sc ss r q e h = run-zero x xs sc ss r e
run-then (suc f) g [] ys sc ss r q e h = nothing_then (suc f) g ys sc ss r q e h
run-then (suc f) g (x ∷ xs) ys sc ss r q e h =
    let t = run_step f x xs sc ss r e in
    let d = t.done in
    let k = subst (λ (y : Ran). run g ys y.scope y.rest ≡ some q) (sym t.makes) h in
    let m = run-then f g (d.dues ++ xs) ys d.scope d.rest t.then q t.is_then k in
    let n = subst (λ (zs : List Due). run (f + g) zs d.scope d.rest ≡ some (after t.then.marks q)) (append_assoc d.dues xs ys) m in
    ap (λ a. run a (x ∷ (xs ++ ys)) sc ss) {x = suc f + g} {y = suc (f + g)} (omega arith)
    ∙ step_run (f + g) x (xs ++ ys) sc ss d (after t.then.marks q) t.is_done n
    ∙ ap some (after-after d.marks t.then.marks q ∙ ap (λ (y : Ran). after y.marks q) t.makes)

-- a run of both, taken apart
pub record Split (f : ℕ) (xs ys : List Due) (sc : Scope) (ss : List Sign) (r : Ran) : Type 0 where
  pub first : Ran
  pub is_first : run f xs sc ss ≡ some first
  pub second : Ran
  pub is_second : run f ys first.scope first.rest ≡ some second
  pub makes : after first.marks second ≡ r

nothing-split : (f : ℕ) (ys : List Due) (sc : Scope) (ss : List Sign) (r : Ran) → run f ys sc ss ≡ some r → Split f [] ys sc ss r
nothing-split f ys sc ss r e = record { first = record { marks = []; scope = sc; rest = ss }; is_first = run_none f sc ss; second = r; is_second = e; makes = refl }

after_both : (ms : List Mark) (a b t r : Ran) → after a.marks b ≡ t → after ms t ≡ r → after (ms ++ a.marks) b ≡ r
after_both ms a b t r e h = sym (after-after ms a.marks b) ∙ ap (after ms) e ∙ h

pub run-split : (f : ℕ) (xs ys : List Due) (sc : Scope) (ss : List Sign) (r : Ran) → run f (xs ++ ys) sc ss ≡ some r → Split f xs ys sc ss r
run-split zero [] ys sc ss r e = nothing-split zero ys sc ss r e
run-split zero (x ∷ xs) ys sc ss r e = run-zero x (xs ++ ys) sc ss r e
run-split (suc f) [] ys sc ss r e = nothing-split (suc f) ys sc ss r e
run-split (suc f) (x ∷ xs) ys sc ss r e =
    let t = run_step f x (xs ++ ys) sc ss r e in
    let d = t.done in
    let m = subst (λ (zs : List Due). run f zs d.scope d.rest ≡ some t.then) (sym (append_assoc d.dues xs ys)) t.is_then in
    let p = run-split f (d.dues ++ xs) ys d.scope d.rest t.then m in
    record {
      first = after d.marks p.first;
      is_first = step_run f x xs sc ss d p.first t.is_done p.is_first;
      second = p.second;
      is_second = run_more f (suc f) ys p.first.scope p.first.rest p.second (omega arith) p.is_second;
      makes = after_both d.marks p.first p.second t.then r p.makes t.makes;
    }
