-- A plan carried out: the marks that are written, the variables bound then, the dues that are pushed, and the signs left.
use Prim.Native.Nat.{ℕ, suc, ◌+◌, ◌-◌, ◌≤◌, ◌<◌}
use mathlib.Core.Path.{◌≡◌, refl, sym, ◌∙◌, ap, subst}
use mathlib.Core.Bool.{Bool, true, false, not}
use mathlib.Core.List.{List, [], ◌∷◌, ◌++◌, append_assoc}
use mathlib.Core.Option.{Option, none, some}
use native.Mathlib.Omega.{arith}
use lib.ListN.{length, set, length-set, length-append}
use lib.Seq.{get_or-set_same, get_or-set_other}
use borrow.Author.Tests.{not-true, not-false}
use Rattle.basics.specs.Choice.{choose, ◌>>=◌, provided}
use Rattle.basics.specs.Text.{octets}
use Rattle.harrop.specs.Formula.{Name}
use Rattle.sexp.specs.Decimal.{decimal}
use Rattle.sexp.specs.Words.{is_name}
use Rattle.fof_truth.specs.Numbered.{Scope, number_of}
use Rattle.fof_part.specs.Sign.{Sign, code}
use Rattle.fof_part.specs.Mark.{Mark}
use Rattle.fof_part.specs.Due as part
use Rattle.fof_part.specs.Due.{Did, did, cost, costs, left, headed, many_headed, link_word, quantifier_word}
use Rattle.fof_pass.specs.declared.ink.Pen.{Pen}
use Rattle.fof_pass.specs.declared.ahead.Ahead.{Ahead}
use Rattle.std.specs.Prelude.{Some, None}
use Rattle.std.specs.Prelude as std
use Rattle.fof_pass.specs.declared.dues.Due.{Due}
use Rattle.fof_plan.specs.declared.plan.Plan.{Plan}
use Rattle.fof_plan.specs.declared.plan.Writes.{Writes}
use Rattle.fof_plan.specs.declared.plan.Writes.TheVariants as W
use Rattle.fof_act.specs.declared.act.Now.{Now}
use Rattle.fof_act.specs.declared.act.Wrote.{Wrote}
use Rattle.fof_pass.specs.Codes.{code_is}
use Rattle.fof_pass.specs.Ahead.{signs_at, between, name_in, Aheads}
use Rattle.fof_pass.specs.Dues.{link_is, quantifier_is, meant, Few, Stack, Held, Pushes}
use Rattle.fof_pass.specs.Ink.{Inks}
use Rattle.fof_pass.specs.Names.{Scoped, number_is}
use Rattle.fof_plan.specs.Planned.{name_ahead, beyond, written, scope_then, dues_in, planned, Named}
use Rattle.fof_act.specs.Holding.{named_marks, variable_marks, WrittenAs, Writing, Binding, Pushing, Enough, Holds, DoneAs, Acts}
use Rattle.fof_part.proofs.CostLaws.{cost-some}
use Rattle.fof_pass.proofs.InkLaws.{inks-then}

-- the sign ahead: its name, the signs behind it, and that a sign of number 1 is a variable
name-ahead : (t : List ℕ) (at : ℕ) (a : Ahead) (ss : List Sign) → signs_at t at ≡ some ss → Aheads t at a → (code_is a.sign) < 2 → between t a.start a.end ≡ name_ahead ss
name-ahead t at a [] e h l = let z : (code_is a.sign) ≡ 16 = h.seen [] e in absurd (omega arith)
name-ahead t at a (s ∷ ss) e h l = (h.seen (s ∷ ss) e).name l

rest-ahead : (t : List ℕ) (at : ℕ) (a : Ahead) (ss : List Sign) → signs_at t at ≡ some ss → Aheads t at a → (code_is a.sign) < 16 → signs_at t a.end ≡ some (beyond true ss)
rest-ahead t at a [] e h l = let z : (code_is a.sign) ≡ 16 = h.seen [] e in absurd (omega arith)
rest-ahead t at a (s ∷ ss) e h l = (h.seen (s ∷ ss) e).rest

upper_is : (s : Sign) → code s ≡ 1 → s ≡ Sign.upper (name_in s)
upper_is (Sign.lower w) e = absurd (omega arith)
upper_is (Sign.upper w) e = refl
upper_is Sign.truth e = absurd (omega arith)
upper_is Sign.opens e = absurd (omega arith)
upper_is Sign.closes e = absurd (omega arith)
upper_is Sign.lists e = absurd (omega arith)
upper_is Sign.ends e = absurd (omega arith)
upper_is Sign.comma e = absurd (omega arith)
upper_is Sign.colon e = absurd (omega arith)
upper_is Sign.dot e = absurd (omega arith)
upper_is Sign.every e = absurd (omega arith)
upper_is Sign.exist e = absurd (omega arith)
upper_is Sign.both e = absurd (omega arith)
upper_is Sign.either e = absurd (omega arith)
upper_is Sign.then e = absurd (omega arith)
upper_is Sign.other e = absurd (omega arith)

-- marks that are written
pub wrote-all : {ms : List Mark} {p q : Pen} {d d' : List ℕ} {r : Wrote} → Inks ms p d d' q → r ≡ record { ok = true; pen = q } → WrittenAs (some ms) r p d d'
wrote-all {ms} {p} {q} {d} {d'} i e = (ap (λ (x : Wrote). x.ok) e, subst (λ (x : Wrote). Inks ms p d d' x.pen) (sym e) i)

-- the heads of a chain and of a quantifier, by the choice that was made
pub links-by : (c : Bool) {b : Bool} (n : ℕ) {p q : Pen} {d d' : List ℕ} → b ≡ c → Inks (many_headed (link_word (link_is c)) n) p d d' q → Inks (many_headed (link_word (link_is b)) n) p d d' q
links-by c n {p} {q} {d} {d'} e i = subst (λ (x : Bool). Inks (many_headed (link_word (link_is x)) n) p d d' q) (sym e) i

pub quantifier-by : (c : Bool) {b : Bool} {p q : Pen} {d d' : List ℕ} → b ≡ c → Inks (headed (quantifier_word (quantifier_is c))) p d d' q → Inks (headed (quantifier_word (quantifier_is b))) p d d' q
quantifier-by c {p = p} {q = q} {d = d} {d' = d'} e i = subst (λ (x : Bool). Inks (headed (quantifier_word (quantifier_is x))) p d d' q) (sym e) i

-- a name that is none of document 01, and one that is
pub named-not : (word x : List ℕ) {v : List ℕ} {b : Bool} (p : Pen) (d : List ℕ) (r : Wrote) → v ≡ x → b ≡ is_name v → not b ≡ true → r.ok ≡ false → WrittenAs (named_marks word x) r p d d
named-not word x {b = b} p d r k e f g =
    subst (λ (y : Bool). WrittenAs (provided y (some (headed word ++ (Mark.string x ∷ [])))) r p d d) (sym (not-true b f) ∙ e ∙ ap is_name k) g

pub named-is : (word x : List ℕ) {v : List ℕ} {b : Bool} {p q s : Pen} {d d1 d2 : List ℕ} {r : Wrote} → v ≡ x → b ≡ is_name v → not b ≡ false → Inks (headed word) p d d1 q → Inks (Mark.string v ∷ []) q d1 d2 s → r ≡ record { ok = true; pen = s } → WrittenAs (named_marks word x) r p d d2
named-is word x {b = b} {p} {q} {s} {d} {d1} {d2} {r} y e f i j k =
    subst (λ (y : Bool). WrittenAs (provided y (some (headed word ++ (Mark.string x ∷ [])))) r p d d2) (sym (not-false b f) ∙ e ∙ ap is_name y) (wrote-all (inks-then i (subst (λ (z : List ℕ). Inks (Mark.string z ∷ []) q d1 d2 s) y j)) k)

-- a variable that is free, and one that is bound
variable-as : (sc : Scope) (x : Name) (v : std.Option ℕ) (p : Pen) (d d' : List ℕ) (r : Wrote) → number_is v ≡ number_of sc x → WrittenAs (number_is v >>= λ i. some (headed (octets "v") ++ (Mark.string (decimal i) ∷ Mark.end ∷ []))) r p d d' → WrittenAs (variable_marks sc x) r p d d'
variable-as sc x v p d d' r e h = subst (λ (o : Option ℕ). WrittenAs (o >>= λ i. some (headed (octets "v") ++ (Mark.string (decimal i) ∷ Mark.end ∷ []))) r p d d') e h

pub variable-free : (sc : Scope) (x : Name) {y : Name} (v : std.Option ℕ) (p : Pen) (d : List ℕ) (r : Wrote) → y ≡ x → number_is v ≡ number_of sc y → v ≡ None → r.ok ≡ false → WrittenAs (variable_marks sc x) r p d d
variable-free sc x v p d r k e f g = variable-as sc x None p d d r (sym (ap number_is f) ∙ e ∙ ap (number_of sc) k) g

pub variable-bound : (sc : Scope) (x : Name) (i : ℕ) {y : Name} (v : std.Option ℕ) {p q s u : Pen} {d d1 d2 d3 : List ℕ} {r : Wrote} → y ≡ x → number_is v ≡ number_of sc y → v ≡ Some i → Inks (headed (octets "v")) p d d1 q → Inks (Mark.string (decimal i) ∷ []) q d1 d2 s → Inks (Mark.end ∷ []) s d2 d3 u → r ≡ record { ok = true; pen = u } → WrittenAs (variable_marks sc x) r p d d3
variable-bound sc x i v {p = p} {d = d} {d3 = d3} {r = r} k e f a b c g =
    variable-as sc x (Some i) p d d3 r (sym (ap number_is f) ∙ e ∙ ap (number_of sc) k) (wrote-all (inks-then a (inks-then b c)) g)

-- what a plan writes: marks that do not ask for the sign ahead, a name, a variable
module _ (t ns : List ℕ) (bound : ℕ) {d d' : List ℕ} (p : Pen) (a : Ahead) {w : Writes} {r : Wrote} where
  pub write-plain : {v : Writes} {ms : List Mark} {q : Pen} → w ≡ v → ((sc : Scope) (ss : List Sign) → written v sc ss ≡ some ms) → Inks ms p d d' q → r ≡ record { ok = true; pen = q } → Writing t ns bound d d' p a w r
  write-plain e f i g = record {
    long = i.long;
    does = λ at takes sc ss _ _ _ _. subst (λ (o : Option (List Mark)). WrittenAs o r p d d') (sym (ap (λ (x : Writes). written x sc ss) e ∙ f sc ss)) (wrote-all i g);
  }

  pub write-named : {v : Writes} (word : List ℕ) → w ≡ v → ((sc : Scope) (ss : List Sign) → written v sc ss ≡ named_marks word (name_ahead ss)) → ((takes : Bool) (c : ℕ) → Named v takes c → c ≡ 0) → length d' ≡ length d → WrittenAs (named_marks word (between t a.start a.end)) r p d d' → Writing t ns bound d d' p a w r
  write-named word e f g l k = record {
    long = l;
    does = λ at takes sc ss s h m _.
        let z : (code_is a.sign) ≡ 0 = g takes (code_is a.sign) (subst (λ (x : Writes). Named x takes (code_is a.sign)) e m) in
        subst (λ (o : Option (List Mark)). WrittenAs o r p d d') (ap (named_marks word) (name-ahead t at a ss s h (omega arith)) ∙ sym (f sc ss) ∙ sym (ap (λ (x : Writes). written x sc ss) e)) k;
  }

  pub write-variable : w ≡ W.Variable → length d' ≡ length d → ((sc : Scope) → Scoped t ns bound sc → WrittenAs (variable_marks sc (between t a.start a.end)) r p d d') → Writing t ns bound d d' p a w r
  write-variable e l k = record {
    long = l;
    does = λ at takes sc ss s h m b.
        let z : (code_is a.sign) ≡ 1 = subst (λ (x : Writes). Named x takes (code_is a.sign)) e m in
        subst (λ (o : Option (List Mark)). WrittenAs o r p d d') (ap (variable_marks sc) (name-ahead t at a ss s h (omega arith)) ∙ sym (ap (λ (x : Writes). written x sc ss) e)) (k sc b);
  }

-- as many variables are bound as the number says
scoped-length : (sc : Scope) (t ns : List ℕ) (n : ℕ) → Scoped t ns n sc → n ≡ length sc
scoped-length [] t ns n h = h
scoped-length (x ∷ sc) t ns n (m, e, ss, s, h) = e ∙ ap suc (scoped-length sc t ns m h)

-- what is entered above them leaves them
scoped-set : (sc : Scope) (t ns : List ℕ) (n i w : ℕ) → Scoped t ns n sc → n ≤ i → Scoped t (set ns i w) n sc
scoped-set [] t ns n i w h l = h
scoped-set (x ∷ sc) t ns n i w (m, e, ss, s, h) l =
    let o = sym (get_or-set_other ns i m w 0 (λ z. absurd (omega arith))) in
    (m, e, ss, subst (λ (y : ℕ). signs_at t y ≡ some (Sign.upper x ∷ ss)) o s, scoped-set sc t ns m i w h (omega arith))

-- all but the nearest
scoped-left : (sc : Scope) (t ns : List ℕ) (n : ℕ) → Scoped t ns n sc → Scoped t ns (n - 1) (left sc)
scoped-left [] t ns n h = omega arith
scoped-left (x ∷ sc) t ns n (m, e, ss, s, h) = subst (λ (y : ℕ). Scoped t ns y sc) {x = m} {y = n - 1} (omega arith) h

-- and one more, the variable ahead
scoped_more : (sc : Scope) (t ns : List ℕ) (n at : ℕ) (a : Ahead) (ss : List Sign) → signs_at t at ≡ some ss → Aheads t at a → (code_is a.sign) ≡ 1 → n < length ns → Scoped t ns n sc → Scoped t (set ns n at) (n + 1) (name_ahead ss ∷ sc)
scoped_more sc t ns n at a [] e h c l b = let z : (code_is a.sign) ≡ 16 = h.seen [] e in absurd (omega arith)
scoped_more sc t ns n at a (s ∷ ss) e h c l b =
    let u = upper_is s (sym (h.seen (s ∷ ss) e).number ∙ c) in
    (n, omega arith, ss, subst (λ (y : ℕ). signs_at t y ≡ some (Sign.upper (name_in s) ∷ ss)) (sym (get_or-set_same ns n at 0 l)) (e ∙ ap (λ (x : Sign). some (x ∷ ss)) u), scoped-set sc t ns n n at b (omega arith))

-- the variables bound then: the same, one more, one less
pub bind-same : (ns : List ℕ) (bound at : ℕ) {v w : Writes} → w ≡ v → ((sc : Scope) (ss : List Sign) → scope_then v sc ss ≡ sc) → Binding ns ns bound at w bound
bind-same ns bound at e f = record {
  long = refl;
  does = λ t takes a sc ss _ _ _ _ _ b. subst (λ (x : Scope). Scoped t ns bound x) (sym (ap (λ (x : Writes). scope_then x sc ss) e ∙ f sc ss)) b;
}

pub bind-more : (ns ns' : List ℕ) (bound at : ℕ) {every : Bool} {w : Writes} {r : ℕ} → w ≡ W.Binds every → ns' ≡ set ns bound at → (bound ≤ 16384 → r ≡ bound + 1) → Binding ns ns' bound at w r
bind-more ns ns' bound at {w = w} {r = r} e f g = record {
  long = ap length f ∙ length-set ns bound at;
  does = λ t takes a sc ss s h m l k b.
      let z : ((code_is a.sign) ≡ 1) × (takes ≡ true) = subst (λ (x : Writes). Named x takes (code_is a.sign)) e m in
      subst (λ (x : List ℕ). Scoped t x r (scope_then w sc ss)) (sym f)
      (subst (λ (n : ℕ). Scoped t (set ns bound at) n (scope_then w sc ss)) (sym (g l))
      (subst (λ (x : Writes). Scoped t (set ns bound at) (bound + 1) (scope_then x sc ss)) (sym e)
      (scoped_more sc t ns bound at a ss s h z.0 (omega arith) b)));
}

pub bind-less : (ns : List ℕ) (bound at : ℕ) {w : Writes} {r : ℕ} → w ≡ W.Leaves → r ≡ bound - 1 → Binding ns ns bound at w r
bind-less ns bound at {w} {r} e f = record {
  long = refl;
  does = λ t takes a sc ss _ _ _ _ _ b.
      subst (λ (n : ℕ). Scoped t ns n (scope_then w sc ss)) (sym f)
      (subst (λ (x : Writes). Scoped t ns (bound - 1) (scope_then x sc ss)) (sym e) (scoped-left sc t ns bound b));
}

-- the height is the number of dues
held-length : (ds : List part.Due) (st : Stack) (top : ℕ) → Held st top ds → top ≡ length ds
held-length [] st top h = h
held-length (d ∷ ds) st top (n, e, m, f, h) = e ∙ ap suc (held-length ds st n h)

shorter : {A : Type 0} (xs ys : List A) {n : ℕ} → length (xs ++ ys) < n → length ys < n
shorter xs ys l = omega (arith, length-append xs ys)

push-on : (d : Due ℕ) {st st' : Stack} {n n' : ℕ} (ds : List part.Due) → Pushes d st st' n n' → Held st n ds → length (meant d ++ ds) < 98400 → 98400 ≤ length st → Few d → Held st' n' (meant d ++ ds)
push-on d {st} {st'} {n} {n'} ds p h l m f =
    let z = held-length ds st n h in
    let y = shorter (meant d) ds l in
    p.held (omega arith) (omega arith) f ds h

four : (a b c e ds : List part.Due) → (a ++ (b ++ (c ++ e))) ++ ds ≡ a ++ (b ++ (c ++ (e ++ ds)))
four a b c e ds =
    append_assoc a (b ++ (c ++ e)) ds
    ∙ ap (λ (x : List part.Due). a ++ x) (append_assoc b (c ++ e) ds ∙ ap (λ (x : List part.Due). b ++ x) (append_assoc c e ds))

-- what a plan leaves due, pushed from its last due on
pub push-four : (p : Plan) {st st1 st2 st3 st4 : Stack} {n n1 n2 n3 n4 : ℕ} → Pushes p.fourth st st1 n n1 → Pushes p.third st1 st2 n1 n2 → Pushes p.second st2 st3 n2 n3 → Pushes p.first st3 st4 n3 n4 → Pushing st st4 n p n4
push-four p {st} {st1} {st2} {st3} {st4} {n4 = n4} a b c e = record {
  long = e.long ∙ c.long ∙ b.long ∙ a.long;
  does = λ ds h l m f.
      let m1 = meant p.first in
      let m2 = meant p.second in
      let m3 = meant p.third in
      let m4 = meant p.fourth in
      let l1 : length (m1 ++ (m2 ++ (m3 ++ (m4 ++ ds)))) < 98400 = subst (λ (x : List part.Due). length x < 98400) (four m1 m2 m3 m4 ds) l in
      let l2 = shorter m1 (m2 ++ (m3 ++ (m4 ++ ds))) l1 in
      let l3 = shorter m2 (m3 ++ (m4 ++ ds)) l2 in
      let l4 = shorter m3 (m4 ++ ds) l3 in
      let h4 = push-on p.fourth ds a h l4 m f.3 in
      let h3 = push-on p.third (m4 ++ ds) b h4 l3 (omega (arith, a.long)) f.2 in
      let h2 = push-on p.second (m3 ++ (m4 ++ ds)) c h3 l2 (omega (arith, a.long, b.long)) f.1 in
      let h1 = push-on p.first (m2 ++ (m3 ++ (m4 ++ ds))) e h2 l1 (omega (arith, a.long, b.long, c.long)) f.0 in
      subst (λ (x : List part.Due). Held st4 n4 x) (sym (four m1 m2 m3 m4 ds)) h1;
}

length-costs : (ds : List part.Due) → length ds ≤ costs ds
length-costs [] = omega arith
length-costs (d ∷ ds) = omega (arith, cost-some d, length-costs ds)

-- the signs left start where the plan says
place-signs : (takes : Bool) (t : List ℕ) (at : ℕ) (a : Ahead) (ss : List Sign) → signs_at t at ≡ some ss → Aheads t at a → (takes ≡ true → (code_is a.sign) < 16) → signs_at t (choose takes a.end at) ≡ some (beyond takes ss)
place-signs true t at a ss e h l = rest-ahead t at a ss e h (l refl)
place-signs false t at a ss e h l = e

-- a plan that cannot be carried out, and one that is
pub act-not : (t : List ℕ) (st : Stack) (ns d : List ℕ) (n : Now) (a : Ahead) (p : Plan) (r : Now) → p.ok ≡ false → r.ok ≡ false → Acts t st st ns ns d d n a p r
act-not t st ns d n a p r e f = record {
  kept = record { stack = refl; names = refl; bytes = refl };
  does = λ ds sc ss _ _ _ _ _ _.
      subst (λ (b : Bool). DoneAs (provided b (written p.writes sc ss >>= λ ms. did ms (dues_in p) (scope_then p.writes sc ss) (beyond p.takes ss))) ds t st ns d d n.pen r) (sym e) f;
}

pub act-done : (t : List ℕ) (st st' : Stack) (ns ns' d d' : List ℕ) (n : Now) (a : Ahead) (p : Plan) {w : Wrote} {top bound at : ℕ} → p.ok ≡ true → Writing t ns n.bound d d' n.pen a p.writes w → Binding ns ns' n.bound n.at p.writes bound → Pushing st st' n.top p top → at ≡ choose p.takes a.end n.at → Acts t st st' ns ns' d d' n a p (record { ok = w.ok; at = at; top = top; bound = bound; pen = w.pen })
act-done t st st' ns ns' d d' n a p {w} {top} {bound} {at} okay wr bi pu pl = record {
  kept = record { stack = pu.long; names = bi.long; bytes = wr.long };
  does = λ ds sc ss h ah nm tk few en. go ds sc ss h ah nm tk few en (written p.writes sc ss) refl;
}
  where
    then : Scope → List Sign → Option (List Mark) → Option Did
    then sc ss o = o >>= λ ms. did ms (dues_in p) (scope_then p.writes sc ss) (beyond p.takes ss)

    r : Now
    r = record { ok = w.ok; at = at; top = top; bound = bound; pen = w.pen }

    is : (sc : Scope) (ss : List Sign) (o : Option (List Mark)) → written p.writes sc ss ≡ o → planned p sc ss ≡ then sc ss o
    is sc ss o e = ap (λ (b : Bool). provided b (then sc ss (written p.writes sc ss))) okay ∙ ap (then sc ss) e

    go : (ds : List part.Due) (sc : Scope) (ss : List Sign) → Holds t st ns n ds sc ss → Aheads t n.at a → Named p.writes p.takes (code_is a.sign) → (p.takes ≡ true → (code_is a.sign) < 16) → Few p.first × Few p.second × Few p.third × Few p.fourth → ((x : Did) → planned p sc ss ≡ some x → Enough (x.dues ++ ds) x.scope x.rest) → (o : Option (List Mark)) → written p.writes sc ss ≡ o → DoneAs (planned p sc ss) ds t st' ns' d d' n.pen r
    go ds sc ss h ah nm tk few en none e =
        subst (λ (x : Option Did). DoneAs x ds t st' ns' d d' n.pen r) (sym (is sc ss none e))
        (subst (λ (o : Option (List Mark)). WrittenAs o w n.pen d d') e (wr.does n.at p.takes sc ss h.signs ah nm h.names))
    go ds sc ss h ah nm tk few en (some ms) e =
        let k : WrittenAs (some ms) w n.pen d d' = subst (λ (o : Option (List Mark)). WrittenAs o w n.pen d d') e (wr.does n.at p.takes sc ss h.signs ah nm h.names) in
        let x : Did = record { marks = ms; dues = dues_in p; scope = scope_then p.writes sc ss; rest = beyond p.takes ss } in
        let q : Enough (dues_in p ++ ds) (scope_then p.writes sc ss) (beyond p.takes ss) = en x (is sc ss (some ms) e) in
        let low : length (dues_in p ++ ds) < 98400 = omega (arith, q.0, length-costs (dues_in p ++ ds)) in
        let few' : n.bound ≤ 16384 = omega (arith, scoped-length sc t ns n.bound h.names, h.enough.1) in
        subst (λ (y : Option Did). DoneAs y ds t st' ns' d d' n.pen r) (sym (is sc ss (some ms) e)) (
          k.0,
          record {
            dues = pu.does ds h.dues low h.roomy.0 few;
            names = bi.does t p.takes a sc ss h.signs ah nm few' h.roomy.1 h.names;
            signs = subst (λ (y : ℕ). signs_at t y ≡ some (beyond p.takes ss)) (sym pl) (place-signs p.takes t n.at a ss h.signs ah tk);
            enough = q;
            roomy = (omega (arith, pu.long, h.roomy.0), omega (arith, bi.long, h.roomy.1));
          },
          k.1,
        )
