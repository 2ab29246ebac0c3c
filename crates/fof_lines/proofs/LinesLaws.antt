-- All lines, one after the other: every line takes a sign, so any two numbers of lines that are enough give the same answer; and what is read so far, with what is left.
use Prim.Native.Nat.{ℕ, zero, suc, ◌+◌, ◌*◌, ◌-◌, ◌<◌, ◌≤◌}
use mathlib.Core.Path.{◌≡◌, refl, sym, ◌∙◌, ap, subst}
use mathlib.Core.Bool.{Bool, true, false, false≢true}
use mathlib.Core.List.{List, [], ◌∷◌, ◌++◌, append-nil, append_assoc}
use mathlib.Core.Option.{Option, none, some, some-injective}
use native.Mathlib.Omega.{arith}
use lib.Dec.{eqb}
use lib.ListN.{length, length-append}
use Rattle.basics.specs.Choice.{◌>>=◌, provided, nope, bind-some, provided-some}
use Rattle.basics.specs.Text.{octets}
use Rattle.harrop.specs.Formula.{Name}
use Rattle.harrop.specs.Bindings.{same_name}
use Rattle.sexp.specs.Words.{is_name}
use Rattle.fof_truth.specs.Formula.{Role}
use Rattle.fof_truth.specs.Numbered.{Scope}
use Rattle.fof_part.specs.Sign.{Sign, code, opens_code, closes_code, comma_code, dot_code}
use Rattle.fof_part.specs.Mark.{Mark}
use Rattle.fof_part.specs.Due.{Sort, Due, Ran, taking, run, formula_at}
use Rattle.fof_part.specs.Lines.{word, role_of, sort_of, introduced, Read, line_at, lines_from, lines_at}
use Rattle.fof_part.specs.Files.{axiom_then, conjecture_then, axioms_in, conjectures_in, joined}
use Rattle.fof_part.proofs.RunLaws.{run_step}
use Rattle.fof_part.proofs.CostLaws.{step-pays, costs-append, worth}
use Rattle.fof_pass.specs.declared.ahead.Ahead.{Ahead}
use Rattle.fof_pass.specs.declared.ink.Pen.{Pen}
use Rattle.fof_lines.specs.declared.lines.Passed.{Passed}
use Rattle.fof_pass.specs.Codes.{code_is}
use Rattle.fof_pass.specs.Ahead.{signs_at, SeesAll, Aheads}
use Rattle.fof_pass.specs.Dues.{Stack}
use Rattle.fof_pass.specs.Ink.{Inks}
use Rattle.fof_act.specs.Holding.{Roomy}
use Rattle.fof_lines.specs.Lined.{opened, labelled, roled, Added, AddedAs, KeptBoth, Counted, begins, FiledAs, Starts, Ends}
use Rattle.fof_pass.proofs.InkLaws.{inks-none, inks-then}
use Rattle.fof_lines.proofs.LineLaws.{unopened, then-opened}
use Rattle.fof_act.proofs.RunLaws.{signs-few}

-- what a run leaves of the signs is no more than they and the dues were worth
run-rest : (f : ℕ) (ds : List Due) (sc : Scope) (ss : List Sign) (r : Ran) → run f ds sc ss ≡ some r → 6 * length r.rest ≤ worth ds ss
unfolding run
run-rest zero [] sc ss r e =
    let z = ap (λ (x : Ran). length x.rest) (some-injective (record { marks = []; scope = sc; rest = ss }) r e) in
    omega arith
run-rest zero (d ∷ ds) sc ss r e = nope e
run-rest (suc f) [] sc ss r e =
    let z = ap (λ (x : Ran). length x.rest) (some-injective (record { marks = []; scope = sc; rest = ss }) r e) in
    omega arith
run-rest (suc f) (d ∷ ds) sc ss r e =
    let t = run_step f d ds sc ss r e in
    let k = run-rest f (t.done.dues ++ ds) t.done.scope t.done.rest t.then t.is_then in
    let q = step-pays d sc ss t.done t.is_done in
    let c = costs-append t.done.dues ds in
    let m = ap (λ (x : Ran). length x.rest) t.makes in
    omega arith

formula-rest : (s : Sort) (ss : List Sign) (r : Ran) → formula_at s ss ≡ some r → length r.rest ≤ length ss
unfolding formula_at
formula-rest s ss r e =
    let k = run-rest (5 + 6 * length ss) (Due.formula s ∷ []) [] ss r e in
    omega arith

taking-rest : (c : ℕ) (ss r : List Sign) → taking c ss ≡ some r → length r < length ss
taking-rest c [] r e = nope e
taking-rest c (s ∷ ss) r e =
    let z = ap (λ (x : List Sign). length x) (some-injective ss r (provided-some (eqb (code s) c) (some ss) r e).1) in
    omega arith

word-rest : (ss : List Sign) (x : Name × List Sign) → word ss ≡ some x → length x.1 < length ss
word-rest [] x e = nope e
word-rest (Sign.lower w ∷ ss) x e =
    let z = ap (λ (y : Name × List Sign). length y.1) (some-injective (w, ss) x e) in
    omega arith
word-rest (Sign.upper w ∷ ss) x e = nope e
word-rest (Sign.truth ∷ ss) x e = nope e
word-rest (Sign.opens ∷ ss) x e = nope e
word-rest (Sign.closes ∷ ss) x e = nope e
word-rest (Sign.lists ∷ ss) x e = nope e
word-rest (Sign.ends ∷ ss) x e = nope e
word-rest (Sign.comma ∷ ss) x e = nope e
word-rest (Sign.colon ∷ ss) x e = nope e
word-rest (Sign.dot ∷ ss) x e = nope e
word-rest (Sign.every ∷ ss) x e = nope e
word-rest (Sign.exist ∷ ss) x e = nope e
word-rest (Sign.both ∷ ss) x e = nope e
word-rest (Sign.either ∷ ss) x e = nope e
word-rest (Sign.then ∷ ss) x e = nope e
word-rest (Sign.other ∷ ss) x e = nope e

asked-rest : (test : Name → Bool) (c : ℕ) (ss r : List Sign) → (word ss >>= λ f. provided (test f.0) (taking c f.1)) ≡ some r → length r < length ss
asked-rest test c ss r e =
    let (f, g, h) = bind-some (word ss) (λ f. provided (test f.0) (taking c f.1)) r e in
    omega (arith, word-rest ss f g, taking-rest c f.1 r (provided-some (test f.0) (taking c f.1) r h).1)

roled-rest : (ss : List Sign) (i : Role × List Sign) → roled ss ≡ some i → length i.1 < length ss
roled-rest ss i e =
    let (r, g, h) = bind-some (word ss) (λ r. role_of r.0 >>= λ k. taking comma_code r.1 >>= λ s. some (k, s)) i e in
    let (k, _, m) = bind-some (role_of r.0) (λ k. taking comma_code r.1 >>= λ s. some (k, s)) i h in
    let (s, n, q) = bind-some (taking comma_code r.1) (λ s. some (k, s)) i m in
    let z = ap (λ (x : Role × List Sign). length x.1) (some-injective (k, s) i q) in
    omega (arith, z, word-rest ss r g, taking-rest comma_code r.1 s n)

introduced-rest : (ss : List Sign) (i : Role × List Sign) → introduced ss ≡ some i → length i.1 < length ss
introduced-rest ss i e = go (opened ss) refl
  where
    go : (o : Option (List Sign)) → opened ss ≡ o → length i.1 < length ss
    go none f = nope (sym (unopened ss f) ∙ e)
    go (some os) f =
        let (ls, g, h) = bind-some (labelled os) roled i (sym (then-opened ss os f) ∙ e) in
        omega (arith, asked-rest (λ w. same_name w (octets "fof")) opens_code ss os f, asked-rest is_name comma_code os ls g, roled-rest ls i h)

line-rest : (ss : List Sign) (x : Read) → line_at ss ≡ some x → length x.rest < length ss
unfolding line_at
line-rest ss x e =
    let (i, e1, h1) = bind-some (introduced ss) (λ i. formula_at (sort_of i.0) i.1 >>= λ x. taking closes_code x.rest >>= λ c. taking dot_code c >>= λ d. some (record { role = i.0; marks = x.marks; rest = d })) x e in
    let (y, e2, h2) = bind-some (formula_at (sort_of i.0) i.1) (λ x. taking closes_code x.rest >>= λ c. taking dot_code c >>= λ d. some (record { role = i.0; marks = x.marks; rest = d })) x h1 in
    let (c, e3, h3) = bind-some (taking closes_code y.rest) (λ c. taking dot_code c >>= λ d. some (record { role = i.0; marks = y.marks; rest = d })) x h2 in
    let (d, e4, h4) = bind-some (taking dot_code c) (λ d. some (record { role = i.0; marks = y.marks; rest = d })) x h3 in
    let z1 = introduced-rest ss i e1 in
    let z2 = formula-rest (sort_of i.0) i.1 y e2 in
    let z3 = taking-rest closes_code y.rest c e3 in
    let z4 = taking-rest dot_code c d e4 in
    let z5 = ap (λ (r : Read). length r.rest) (some-injective (record { role = i.0; marks = y.marks; rest = d }) x h4) in
    omega (arith, z1, z2, z3, z4, z5)

-- enough lines answer as any other number that is enough
abbrev Items : Type 0
Items = List (Role × List Mark)

line-alike : (f g : ℕ) (s : Sign) (ss : List Sign) → ((x : Read) → line_at (s ∷ ss) ≡ some x → lines_from f x.rest ≡ lines_from g x.rest) → lines_from (suc f) (s ∷ ss) ≡ lines_from (suc g) (s ∷ ss)
unfolding lines_from
line-alike f g s ss h = go (line_at (s ∷ ss)) refl
  where
    go : (o : Option Read) → line_at (s ∷ ss) ≡ o → (o >>= λ l. lines_from f l.rest >>= λ ls. some ((l.role, l.marks) ∷ ls)) ≡ (o >>= λ l. lines_from g l.rest >>= λ ls. some ((l.role, l.marks) ∷ ls))
    go none e = refl
    go (some x) e = ap (λ (o : Option Items). o >>= λ ls. some ((x.role, x.marks) ∷ ls)) (h x e)

lines_none : (f : ℕ) → lines_from f [] ≡ some []
unfolding lines_from
lines_none zero = refl
lines_none (suc f) = refl

lines-enough : (f g : ℕ) (ss : List Sign) → length ss ≤ f → length ss ≤ g → lines_from f ss ≡ lines_from g ss
lines-enough zero g [] l m = lines_none zero ∙ sym (lines_none g)
lines-enough zero g (s ∷ ss) l m = absurd (omega arith)
lines-enough (suc f) g [] l m = lines_none (suc f) ∙ sym (lines_none g)
lines-enough (suc f) zero (s ∷ ss) l m = absurd (omega arith)
lines-enough (suc f) (suc g) (s ∷ ss) l m = line-alike f g s ss λ x e. lines-enough f g x.rest (omega (arith, line-rest (s ∷ ss) x e)) (omega (arith, line-rest (s ∷ ss) x e))

-- a line more
lines-stop : (f : ℕ) (s : Sign) (ss : List Sign) → line_at (s ∷ ss) ≡ none → lines_from (suc f) (s ∷ ss) ≡ none
unfolding lines_from
lines-stop f s ss e = ap (λ (o : Option Read). o >>= λ l. lines_from f l.rest >>= λ ls. some ((l.role, l.marks) ∷ ls)) e

lines_step : (f : ℕ) (s : Sign) (ss : List Sign) (x : Read) → line_at (s ∷ ss) ≡ some x → lines_from (suc f) (s ∷ ss) ≡ (lines_from f x.rest >>= λ ls. some ((x.role, x.marks) ∷ ls))
unfolding lines_from
lines_step f s ss x e = ap (λ (o : Option Read). o >>= λ l. lines_from f l.rest >>= λ ls. some ((l.role, l.marks) ∷ ls)) e

-- what lines become, with one more
axiom-first : (k : Role) (ms : List Mark) (xs ys : List (List Mark)) → axiom_then k ms (xs ++ ys) ≡ axiom_then k ms xs ++ ys
axiom-first Role.as_axiom ms xs ys = refl
axiom-first Role.as_conjecture ms xs ys = refl

conjecture-first : (k : Role) (ms : List Mark) (xs ys : List (List Mark)) → conjecture_then k ms (xs ++ ys) ≡ conjecture_then k ms xs ++ ys
conjecture-first Role.as_axiom ms xs ys = refl
conjecture-first Role.as_conjecture ms xs ys = refl

axioms-more : (is : Items) (k : Role) (ms : List Mark) → axioms_in (is ++ ((k, ms) ∷ [])) ≡ axioms_in is ++ axiom_then k ms []
axioms-more [] k ms = refl
axioms-more (i ∷ is) k ms = ap (axiom_then i.0 i.1) (axioms-more is k ms) ∙ axiom-first i.0 i.1 (axioms_in is) (axiom_then k ms [])

conjectures-more : (is : Items) (k : Role) (ms : List Mark) → conjectures_in (is ++ ((k, ms) ∷ [])) ≡ conjectures_in is ++ conjecture_then k ms []
conjectures-more [] k ms = refl
conjectures-more (i ∷ is) k ms = ap (conjecture_then i.0 i.1) (conjectures-more is k ms) ∙ conjecture-first i.0 i.1 (conjectures_in is) (conjecture_then k ms [])

joined-append : (xs ys : List (List Mark)) → joined (xs ++ ys) ≡ joined xs ++ joined ys
joined-append [] ys = refl
joined-append (x ∷ xs) ys = ap (λ (z : List Mark). x ++ z) (joined-append xs ys) ∙ sym (append_assoc x (joined xs) (joined ys))

axioms-few : (is : Items) → length (axioms_in is) ≤ length is
axioms-few [] = omega arith
axioms-few ((Role.as_axiom, ms) ∷ is) = omega (arith, axioms-few is)
axioms-few ((Role.as_conjecture, ms) ∷ is) = omega (arith, axioms-few is)

conjectures-few : (is : Items) → length (conjectures_in is) ≤ length is
conjectures-few [] = omega arith
conjectures-few ((Role.as_axiom, ms) ∷ is) = omega (arith, conjectures-few is)
conjectures-few ((Role.as_conjecture, ms) ∷ is) = omega (arith, conjectures-few is)

-- the lines read so far, and the signs that are left for so many lines more; q is where it began
pub record Sofar (t : List ℕ) (all : List Sign) (q : Passed) (rs rs' gs gs' : List ℕ) (p : Passed) (left : ℕ) : Type 0 where
  pub items : Items
  pub signs : List Sign
  pub there : signs_at t p.at ≡ some signs
  pub whole : lines_at all ≡ (lines_from left signs >>= λ ls. some (items ++ ls))
  pub ok : p.ok ≡ true
  pub rules : Inks (joined (axioms_in items)) q.rules rs rs' p.rules
  pub goal : Inks (joined (conjectures_in items)) q.goal gs gs' p.goal
  pub axioms : p.axioms ≡ length (axioms_in items)
  pub conjectures : p.conjectures ≡ length (conjectures_in items)
  pub few : length items + left ≤ 16385

bind-self : (o : Option Items) → o ≡ (o >>= λ ls. some ls)
bind-self none = refl
bind-self (some ls) = refl

lines-given : (all : List Sign) (n : ℕ) → length all ≤ n → lines_at all ≡ lines_from n all
unfolding lines_at
lines-given all n l = lines-enough (length all) n all (omega arith) l

-- the same with so many lines to come, whatever number they are
sofar-from : (t : List ℕ) (all : List Sign) (q : Passed) (rs₀ rs gs : List ℕ) (left : ℕ) → left ≤ 16385 → length all ≤ left → Starts rs₀ rs q → signs_at t 0 ≡ some all → Sofar t all q rs rs gs gs q left
sofar-from t all q rs₀ rs gs left l m b s = record {
  items = [];
  signs = all;
  there = ap (signs_at t) b.at ∙ s;
  whole = lines-given all left m ∙ bind-self (lines_from left all);
  ok = b.ok;
  rules = inks-none q.rules rs;
  goal = inks-none q.goal gs;
  axioms = b.axioms;
  conjectures = b.conjectures;
  few = omega arith;
}

pub sofar-start : (t : List ℕ) (all : List Sign) (q : Passed) (rs₀ rs gs : List ℕ) (left : ℕ) → left ≡ 16385 → length t ≤ 16384 → Starts rs₀ rs q → signs_at t 0 ≡ some all → Sofar t all q rs rs gs gs q left
sofar-start t all q rs₀ rs gs left w l b s = sofar-from t all q rs₀ rs gs left (omega arith) (omega (arith, signs-few t 0 all s)) b s

-- every sign has a number below 16
code-few : (s : Sign) → code s < 16
code-few (Sign.lower w) = omega arith
code-few (Sign.upper w) = omega arith
code-few Sign.truth = omega arith
code-few Sign.opens = omega arith
code-few Sign.closes = omega arith
code-few Sign.lists = omega arith
code-few Sign.ends = omega arith
code-few Sign.comma = omega arith
code-few Sign.colon = omega arith
code-few Sign.dot = omega arith
code-few Sign.every = omega arith
code-few Sign.exist = omega arith
code-few Sign.both = omega arith
code-few Sign.either = omega arith
code-few Sign.then = omega arith
code-few Sign.other = omega arith

none_left : (t : List ℕ) (a : Ahead) (ss : List Sign) → (code_is a.sign) ≡ 16 → SeesAll t a ss → ss ≡ []
none_left t a [] e h = refl
none_left t a (s ∷ ss) e h = absurd (omega (arith, h.number, code-few s))

some_left : (t : List ℕ) (a : Ahead) (ss : List Sign) → ((code_is a.sign) ≡ 16 → ⊥) → SeesAll t a ss → (s : Sign) × (us : List Sign) × (ss ≡ s ∷ us)
some_left t a [] n h = absurd (n h)
some_left t a (s ∷ us) n h = (s, us, refl)

behind : (is : Items) (i : Role × List Mark) (o : Option Items) → ((o >>= λ ls. some (i ∷ ls)) >>= λ ls. some (is ++ ls)) ≡ (o >>= λ ls. some ((is ++ (i ∷ [])) ++ ls))
behind is i none = refl
behind is i (some ls) = ap some (sym (append_assoc is (i ∷ []) ls))

module _ (t : List ℕ) (all : List Sign) (q : Passed) (rs rs' gs gs' : List ℕ) (p : Passed) (left : ℕ) (h : Sofar t all q rs rs' gs gs' p left) (a : Ahead) (see : Aheads t p.at a) where
  -- no sign is ahead: all lines are read
  all_read : (code_is a.sign) ≡ 16 → lines_at all ≡ some h.items
  all_read e =
      h.whole
      ∙ ap (λ (ss : List Sign). lines_from left ss >>= λ ls. some (h.items ++ ls)) (none_left t a h.signs e (see.seen h.signs h.there))
      ∙ ap (λ (o : Option Items). o >>= λ ls. some (h.items ++ ls)) (lines_none left)
      ∙ ap some (append-nil h.items)

  pub sofar-end : (code_is a.sign) ≡ 16 → (rs₀ rs'' : List ℕ) (r : Passed) → Starts rs₀ rs q → Ends rs' rs'' p r → FiledAs (lines_at all) rs₀ rs'' gs gs' r
  sofar-end e rs₀ rs'' r b z =
      subst (λ (o : Option Items). FiledAs o rs₀ rs'' gs gs' r) (sym (all_read e))
      (record {
        ok = z.ok ∙ h.ok;
        rules = inks-then (inks-then b.rules h.rules) z.rules;
        goal = subst (λ (y : Pen). Inks (joined (conjectures_in h.items)) begins gs gs' y) (sym z.goal) (subst (λ (y : Pen). Inks (joined (conjectures_in h.items)) y gs gs' p.goal) b.goal h.goal);
        axioms = z.axioms ∙ h.axioms;
        conjectures = z.conjectures ∙ h.conjectures;
      })

  module _ (n : (code_is a.sign) ≡ 16 → ⊥) where
    -- a sign is ahead, and no line may follow
    over_none : (ss : List Sign) → (s : Sign) × (us : List Sign) × (ss ≡ s ∷ us) → lines_from zero ss ≡ none
    unfolding lines_from
    over_none ss (s, us, e) = ap (lines_from zero) e

    pub sofar-over : left ≡ 0 → (rs₀ rs'' gs₀ gs'' : List ℕ) (r : Passed) → r.ok ≡ false → FiledAs (lines_at all) rs₀ rs'' gs₀ gs'' r
    sofar-over e rs₀ rs'' gs₀ gs'' r f =
        subst (λ (o : Option Items). FiledAs o rs₀ rs'' gs₀ gs'' r)
        (sym
        (h.whole
        ∙ ap (λ (k : ℕ). lines_from k h.signs >>= λ ls. some (h.items ++ ls)) e
        ∙ ap (λ (o : Option Items). o >>= λ ls. some (h.items ++ ls)) (over_none h.signs (some_left t a h.signs n (see.seen h.signs h.there)))))
        f

    module _ (l : left ≡ 0 → ⊥) where
      -- one line more is counted
      pub sofar-counted : Counted p
      sofar-counted = (omega (arith, l, h.few, h.axioms, axioms-few h.items), omega (arith, l, h.few, h.conjectures, conjectures-few h.items))

      one_fewer : left ≡ suc (left - 1)
      one_fewer = omega arith

      -- the line ahead is none of the part
      stops : (ss : List Sign) → (s : Sign) × (us : List Sign) × (ss ≡ s ∷ us) → line_at ss ≡ none → lines_from left ss ≡ none
      stops ss (s, us, e) f = ap (λ (k : ℕ). lines_from k ss) one_fewer ∙ ap (lines_from (suc (left - 1))) e ∙ lines-stop (left - 1) s us (ap line_at (sym e) ∙ f)

      -- it is one, and the others follow
      steps : (ss : List Sign) → (s : Sign) × (us : List Sign) × (ss ≡ s ∷ us) → (x : Read) → line_at ss ≡ some x → lines_from left ss ≡ (lines_from (left - 1) x.rest >>= λ ls. some ((x.role, x.marks) ∷ ls))
      steps ss (s, us, e) x f = ap (λ (k : ℕ). lines_from k ss) one_fewer ∙ ap (lines_from (suc (left - 1))) e ∙ lines_step (left - 1) s us x (ap line_at (sym e) ∙ f)

      module _ (rs'' gs'' : List ℕ) (r : Passed) where
        pub sofar-refused : AddedAs (line_at h.signs) t rs' rs'' gs' gs'' p r → r.ok ≡ false → (rs₀ gs₀ : List ℕ) → FiledAs (lines_at all) rs₀ rs'' gs₀ gs'' r
        sofar-refused k f rs₀ gs₀ = go (line_at h.signs) refl k
          where
            go : (o : Option Read) → line_at h.signs ≡ o → AddedAs o t rs' rs'' gs' gs'' p r → FiledAs (lines_at all) rs₀ rs'' gs₀ gs'' r
            go none e z =
                subst (λ (o : Option Items). FiledAs o rs₀ rs'' gs₀ gs'' r)
                (sym (h.whole ∙ ap (λ (o : Option Items). o >>= λ ls. some (h.items ++ ls)) (stops h.signs (some_left t a h.signs n (see.seen h.signs h.there)) e)))
                f
            go (some x) e z = absurd (false≢true (sym f ∙ z.ok))

        more-read : (x : Read) → line_at h.signs ≡ some x → Added x t rs' rs'' gs' gs'' p r → Sofar t all q rs rs'' gs gs'' r (left - 1)
        more-read x e z = record {
          items = h.items ++ ((x.role, x.marks) ∷ []);
          signs = x.rest;
          there = z.signs;
          whole =
              h.whole
              ∙ ap (λ (o : Option Items). o >>= λ ls. some (h.items ++ ls)) (steps h.signs (some_left t a h.signs n (see.seen h.signs h.there)) x e)
              ∙ behind h.items (x.role, x.marks) (lines_from (left - 1) x.rest);
          ok = z.ok;
          rules = subst (λ (ms : List Mark). Inks ms q.rules rs rs'' r.rules) (sym (ap joined (axioms-more h.items x.role x.marks) ∙ joined-append (axioms_in h.items) (axiom_then x.role x.marks []))) (inks-then h.rules z.rules);
          goal = subst (λ (ms : List Mark). Inks ms q.goal gs gs'' r.goal) (sym (ap joined (conjectures-more h.items x.role x.marks) ∙ joined-append (conjectures_in h.items) (conjecture_then x.role x.marks []))) (inks-then h.goal z.goal);
          axioms = omega (arith, z.axioms, h.axioms, ap (λ (xs : List (List Mark)). length xs) (axioms-more h.items x.role x.marks), length-append (axioms_in h.items) (axiom_then x.role x.marks []));
          conjectures = omega (arith, z.conjectures, h.conjectures, ap (λ (xs : List (List Mark)). length xs) (conjectures-more h.items x.role x.marks), length-append (conjectures_in h.items) (conjecture_then x.role x.marks []));
          few = omega (arith, l, h.few, length-append h.items ((x.role, x.marks) ∷ []));
        }

        pub sofar-next : AddedAs (line_at h.signs) t rs' rs'' gs' gs'' p r → r.ok ≡ true → Sofar t all q rs rs'' gs gs'' r (left - 1)
        sofar-next k f = go (line_at h.signs) refl k
          where
            go : (o : Option Read) → line_at h.signs ≡ o → AddedAs o t rs' rs'' gs' gs'' p r → Sofar t all q rs rs'' gs gs'' r (left - 1)
            go none e z = absurd (false≢true (sym z ∙ f))
            go (some x) e z = more-read x e z

-- lengths that are kept, one after the other
pub kept-none : (st : Stack) (ns rs gs : List ℕ) → KeptBoth st st ns ns rs rs gs gs
kept-none st ns rs gs = record { stack = refl; names = refl; rules = refl; goal = refl }

pub kept_then : {st st1 st2 : Stack} {ns ns1 ns2 rs rs1 rs2 gs gs1 gs2 : List ℕ} → KeptBoth st st1 ns ns1 rs rs1 gs gs1 → KeptBoth st1 st2 ns1 ns2 rs1 rs2 gs1 gs2 → KeptBoth st st2 ns ns2 rs rs2 gs gs2
kept_then a b = record { stack = b.stack ∙ a.stack; names = b.names ∙ a.names; rules = b.rules ∙ a.rules; goal = b.goal ∙ a.goal }

pub kept-roomy : {st st1 : Stack} {ns ns1 rs rs1 gs gs1 : List ℕ} → KeptBoth st st1 ns ns1 rs rs1 gs gs1 → Roomy st ns → Roomy st1 ns1
kept-roomy a r = (omega (arith, a.stack, r.0), omega (arith, a.names, r.1))

-- memory of these lengths is room enough
pub room_for : (m n a b : ℕ) → a ≡ m → b ≡ n → (m ≤ a) × (n ≤ b)
room_for m n a b e f = (omega arith, omega arith)
