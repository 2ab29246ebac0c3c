-- A line's parts, taken one after the other: what stands before its formula, the formula, and what closes it.
use Prim.Native.Nat.{ℕ, ◌+◌, ◌<◌}
use mathlib.Core.Path.{◌≡◌, refl, sym, ◌∙◌, ap, subst}
use mathlib.Core.Bool.{Bool, true, false, false≢true}
use mathlib.Core.List.{List, [], ◌∷◌, append-nil}
use mathlib.Core.Option.{Option, none, some}
use native.Mathlib.Omega.{arith}
use Rattle.basics.specs.Choice.{choose, ◌>>=◌, provided}
use Rattle.basics.specs.Tells.{Tells, told-yes, told-no}
use Rattle.basics.specs.Text.{octets}
use Rattle.harrop.specs.Formula.{Name}
use Rattle.harrop.specs.Bindings.{same_name}
use Rattle.harrop.proofs.SameLaws.{same-names-equal, equal-names-same}
use Rattle.sexp.specs.Words.{is_name}
use Rattle.fof_truth.specs.Formula as truth
use Rattle.fof_part.specs.Sign.{Sign, opens_code, closes_code, comma_code, dot_code}
use Rattle.fof_part.specs.Mark.{Mark}
use Rattle.fof_part.specs.Due.{Ran, taking, formula_at}
use Rattle.fof_part.specs.Lines.{word, role_of, sort_of, introduced, Read, line_at}
use Rattle.fof_pass.specs.declared.ahead.Ahead.{Ahead}
use Rattle.fof_pass.specs.declared.ink.Pen.{Pen}
use Rattle.fof_act.specs.declared.act.Now.{Now}
use Rattle.std.specs.Prelude.{Some, None}
use Rattle.std.specs.Prelude as std
use Rattle.fof_lines.specs.declared.line.Role.{Role}
use Rattle.fof_lines.specs.declared.line.Role.TheVariants as R
use Rattle.fof_lines.specs.declared.line.Opened.{Opened}
use Rattle.fof_lines.specs.declared.lines.Passed.{Passed}
use Rattle.fof_pass.specs.Codes.{code_is}
use Rattle.fof_pass.specs.Ahead.{signs_at, between, SeesAll, Aheads}
use Rattle.fof_pass.specs.Ink.{Inks}
use Rattle.fof_pass.specs.Taking.{TakesTo}
use Rattle.fof_act.specs.Holding.{ReadAs}
use Rattle.fof_lines.specs.Lined.{role_is, opened, labelled, roled, OpenedAs, closed, lined, AddedAs}
use Rattle.fof_pass.proofs.InkLaws.{inks-none}

-- no word is ahead
word-no : (t : List ℕ) (a : Ahead) (ss : List Sign) → ((code_is a.sign) ≡ 0 → ⊥) → SeesAll t a ss → word ss ≡ none
word-no t a [] n h = refl
word-no t a (Sign.lower w ∷ ss) n h = absurd (n h.number)
word-no t a (Sign.upper w ∷ ss) n h = refl
word-no t a (Sign.truth ∷ ss) n h = refl
word-no t a (Sign.opens ∷ ss) n h = refl
word-no t a (Sign.closes ∷ ss) n h = refl
word-no t a (Sign.lists ∷ ss) n h = refl
word-no t a (Sign.ends ∷ ss) n h = refl
word-no t a (Sign.comma ∷ ss) n h = refl
word-no t a (Sign.colon ∷ ss) n h = refl
word-no t a (Sign.dot ∷ ss) n h = refl
word-no t a (Sign.every ∷ ss) n h = refl
word-no t a (Sign.exist ∷ ss) n h = refl
word-no t a (Sign.both ∷ ss) n h = refl
word-no t a (Sign.either ∷ ss) n h = refl
word-no t a (Sign.then ∷ ss) n h = refl
word-no t a (Sign.other ∷ ss) n h = refl

-- a word is ahead: its bytes are its name, and these are the signs behind it
record Word (t : List ℕ) (a : Ahead) (ss : List Sign) : Type 0 where
  pub name : Name
  pub rest : List Sign
  pub is : word ss ≡ some (name, rest)
  pub bytes : between t a.start a.end ≡ name
  pub behind : signs_at t a.end ≡ some rest

word-yes : (t : List ℕ) (a : Ahead) (ss : List Sign) → (code_is a.sign) ≡ 0 → SeesAll t a ss → Word t a ss
word-yes t a [] e h = absurd (omega arith)
word-yes t a (Sign.lower w ∷ ss) e h = record { name = w; rest = ss; is = refl; bytes = h.name (omega arith); behind = h.rest }
word-yes t a (Sign.upper w ∷ ss) e h = absurd (omega (arith, h.number))
word-yes t a (Sign.truth ∷ ss) e h = absurd (omega (arith, h.number))
word-yes t a (Sign.opens ∷ ss) e h = absurd (omega (arith, h.number))
word-yes t a (Sign.closes ∷ ss) e h = absurd (omega (arith, h.number))
word-yes t a (Sign.lists ∷ ss) e h = absurd (omega (arith, h.number))
word-yes t a (Sign.ends ∷ ss) e h = absurd (omega (arith, h.number))
word-yes t a (Sign.comma ∷ ss) e h = absurd (omega (arith, h.number))
word-yes t a (Sign.colon ∷ ss) e h = absurd (omega (arith, h.number))
word-yes t a (Sign.dot ∷ ss) e h = absurd (omega (arith, h.number))
word-yes t a (Sign.every ∷ ss) e h = absurd (omega (arith, h.number))
word-yes t a (Sign.exist ∷ ss) e h = absurd (omega (arith, h.number))
word-yes t a (Sign.both ∷ ss) e h = absurd (omega (arith, h.number))
word-yes t a (Sign.either ∷ ss) e h = absurd (omega (arith, h.number))
word-yes t a (Sign.then ∷ ss) e h = absurd (omega (arith, h.number))
word-yes t a (Sign.other ∷ ss) e h = absurd (omega (arith, h.number))

-- whether the bytes that are cut out are these
pub same-yes : {v : List ℕ} {b : Bool} (x w : List ℕ) → v ≡ x → b ≡ true → Tells b (v ≡ w) → same_name x w ≡ true
same-yes {v} x w e f h = equal-names-same x w (sym e ∙ told-yes f h)

pub same-no : {v : List ℕ} {b : Bool} (x w : List ℕ) → v ≡ x → b ≡ false → Tells b (v ≡ w) → same_name x w ≡ false
same-no {v} x w e f h = go (same_name x w) refl
  where
    go : (b : Bool) → same_name x w ≡ b → same_name x w ≡ false
    go true k = absurd (told-no f h (e ∙ same-names-equal x w k))
    go false k = k

-- a word that is asked for, with a sign behind it
module _ (t : List ℕ) (at : ℕ) (a : Ahead) (h : Aheads t at a) (test : Name → Bool) (c : ℕ) where
  pub asked-none : ((code_is a.sign) ≡ 0 → ⊥) → (ss : List Sign) → signs_at t at ≡ some ss → TakesTo t None (word ss >>= λ f. provided (test f.0) (taking c f.1))
  asked-none n ss s = ap (λ (o : Option (Name × List Sign)). o >>= λ f. provided (test f.0) (taking c f.1)) (word-no t a ss n (h.seen ss s))

  asked-as : (e : (code_is a.sign) ≡ 0) {b : Bool} → test (between t a.start a.end) ≡ b → (ss : List Sign) (w : Word t a ss) → (word ss >>= λ f. provided (test f.0) (taking c f.1)) ≡ provided b (taking c w.rest)
  asked-as e q ss w =
      ap (λ (o : Option (Name × List Sign)). o >>= λ f. provided (test f.0) (taking c f.1)) w.is
      ∙ ap (λ (b : Bool). provided b (taking c w.rest)) (ap test (sym w.bytes) ∙ q)

  pub asked-other : (code_is a.sign) ≡ 0 → test (between t a.start a.end) ≡ false → (ss : List Sign) → signs_at t at ≡ some ss → TakesTo t None (word ss >>= λ f. provided (test f.0) (taking c f.1))
  asked-other e q ss s = asked-as e q ss (word-yes t a ss e (h.seen ss s))

  pub asked-then : (code_is a.sign) ≡ 0 → test (between t a.start a.end) ≡ true → c < 16 → (r : std.Option ℕ) → (c < 16 → (ss : List Sign) → signs_at t a.end ≡ some ss → TakesTo t r (taking c ss)) → (ss : List Sign) → signs_at t at ≡ some ss → TakesTo t r (word ss >>= λ f. provided (test f.0) (taking c f.1))
  asked-then e q l r k ss s =
      let w = word-yes t a ss e (h.seen ss s) in
      subst (TakesTo t r) (sym (asked-as e q ss w)) (k l w.rest w.behind)

-- a role, with the comma behind it
abbrev role_then : Option truth.Role → Option (List Sign) → Option (truth.Role × List Sign)
role_then o p = o >>= λ k. p >>= λ s. some (k, s)

no-comma : (o : Option truth.Role) → role_then o none ≡ none
no-comma none = refl
no-comma (some k) = refl

module _ (t : List ℕ) (at : ℕ) (a : Ahead) (h : Aheads t at a) where
  pub role-none : ((code_is a.sign) ≡ 0 → ⊥) → (ss : List Sign) → signs_at t at ≡ some ss → OpenedAs (roled ss) t None
  role-none n ss s =
      (ap (λ (o : Option (Name × List Sign)). o >>= λ x. role_then (role_of x.0) (taking comma_code x.1)) (word-no t a ss n (h.seen ss s)))

  role-as : (r : std.Option Opened) (ss : List Sign) (w : Word t a ss) {o : Option truth.Role} {p : Option (List Sign)} → role_of (between t a.start a.end) ≡ o → taking comma_code w.rest ≡ p → OpenedAs (role_then o p) t r → OpenedAs (roled ss) t r
  role-as r ss w {o} {p} e f k =
      subst (λ (x : Option (truth.Role × List Sign)). OpenedAs x t r)
      (sym
      (ap (λ (x : Option (Name × List Sign)). x >>= λ x. role_then (role_of x.0) (taking comma_code x.1)) w.is
      ∙ ap (λ (x : Name). role_then (role_of x) (taking comma_code w.rest)) (sym w.bytes)
      ∙ ap (λ (x : Option truth.Role). role_then x (taking comma_code w.rest)) e
      ∙ ap (role_then o) f))
      k

  module _ (e : (code_is a.sign) ≡ 0) (r' : std.Option ℕ) (k : 7 < 16 → (ss : List Sign) → signs_at t a.end ≡ some ss → TakesTo t r' (taking 7 ss)) where
    pub role-bare : r' ≡ None → (ss : List Sign) → signs_at t at ≡ some ss → OpenedAs (roled ss) t None
    role-bare f ss s =
        let w = word-yes t a ss e (h.seen ss s) in
        let z : taking 7 w.rest ≡ none = subst (λ (x : std.Option ℕ). TakesTo t x (taking 7 w.rest)) f (k (omega arith) w.rest w.behind) in
        role-as None ss w refl z (no-comma (role_of (between t a.start a.end)))

    pub role-other : role_of (between t a.start a.end) ≡ none → (ss : List Sign) → signs_at t at ≡ some ss → OpenedAs (roled ss) t None
    role-other f ss s = role-as None ss (word-yes t a ss e (h.seen ss s)) f refl refl

    pub role-is : (n : ℕ) → r' ≡ Some n → (x : truth.Role) → role_of (between t a.start a.end) ≡ some x → (r : Opened) → r.role ≡ role_is x → r.at ≡ n → (ss : List Sign) → signs_at t at ≡ some ss → OpenedAs (roled ss) t (Some r)
    role-is n f x g r q m ss s =
        let w = word-yes t a ss e (h.seen ss s) in
        let (us, y, z) = subst (λ (x : std.Option ℕ). TakesTo t x (taking 7 w.rest)) f (k (omega arith) w.rest w.behind) in
        role-as (Some r) ss w g y ((x, us), refl, q, ap (signs_at t) m ∙ z)

pub role-axiom : (w : Name) → same_name w (octets "axiom") ≡ true → role_of w ≡ some truth.Role.as_axiom
role-axiom w e = ap (λ (b : Bool). choose b (some truth.Role.as_axiom) (choose (same_name w (octets "conjecture")) (some truth.Role.as_conjecture) none)) e

pub role-conjecture : (w : Name) → same_name w (octets "axiom") ≡ false → same_name w (octets "conjecture") ≡ true → role_of w ≡ some truth.Role.as_conjecture
role-conjecture w e f =
    ap (λ (b : Bool). choose b (some truth.Role.as_axiom) (choose (same_name w (octets "conjecture")) (some truth.Role.as_conjecture) none)) e
    ∙ ap (λ (b : Bool). choose b (some truth.Role.as_conjecture) none) f

pub role-neither : (w : Name) → same_name w (octets "axiom") ≡ false → same_name w (octets "conjecture") ≡ false → role_of w ≡ none
role-neither w e f =
    ap (λ (b : Bool). choose b (some truth.Role.as_axiom) (choose (same_name w (octets "conjecture")) (some truth.Role.as_conjecture) none)) e
    ∙ ap (λ (b : Bool). choose b (some truth.Role.as_conjecture) none) f

-- up to the formula, part by part
bind-bind : {A B C : Type 0} (o : Option A) (f : A → Option B) (g : B → Option C) → (o >>= λ a. f a >>= g) ≡ ((o >>= f) >>= g)
bind-bind none f g = refl
bind-bind (some a) f g = refl

pub unopened : (ss : List Sign) → opened ss ≡ none → introduced ss ≡ none
unopened ss e =
    bind-bind (word ss) (λ f. provided (same_name f.0 (octets "fof")) (taking opens_code f.1)) (λ o. word o >>= λ l. provided (is_name l.0) (taking comma_code l.1) >>= roled)
    ∙ ap (λ (x : Option (List Sign)). x >>= λ o. word o >>= λ l. provided (is_name l.0) (taking comma_code l.1) >>= roled) e

pub then-opened : (ss os : List Sign) → opened ss ≡ some os → introduced ss ≡ (labelled os >>= roled)
then-opened ss os e =
    bind-bind (word ss) (λ f. provided (same_name f.0 (octets "fof")) (taking opens_code f.1)) (λ o. word o >>= λ l. provided (is_name l.0) (taking comma_code l.1) >>= roled)
    ∙ ap (λ (x : Option (List Sign)). x >>= λ o. word o >>= λ l. provided (is_name l.0) (taking comma_code l.1) >>= roled) e
    ∙ bind-bind (word os) (λ l. provided (is_name l.0) (taking comma_code l.1)) roled

module _ (t : List ℕ) (at : ℕ) (x : std.Option ℕ) (h : (ss : List Sign) → signs_at t at ≡ some ss → TakesTo t x (opened ss)) where
  pub intro-none : x ≡ None → (ss : List Sign) → signs_at t at ≡ some ss → OpenedAs (introduced ss) t None
  intro-none e ss s =
      let z : opened ss ≡ none = subst (λ (y : std.Option ℕ). TakesTo t y (opened ss)) e (h ss s) in
      unopened ss z

  module _ (n : ℕ) (e : x ≡ Some n) (y : std.Option ℕ) (k : (ss : List Sign) → signs_at t n ≡ some ss → TakesTo t y (labelled ss)) where
    pub intro-bare : y ≡ None → (ss : List Sign) → signs_at t at ≡ some ss → OpenedAs (introduced ss) t None
    intro-bare f ss s =
        let (os, z, g) = subst (λ (y : std.Option ℕ). TakesTo t y (opened ss)) e (h ss s) in
        let m : labelled os ≡ none = subst (λ (y : std.Option ℕ). TakesTo t y (labelled os)) f (k os g) in
        then-opened ss os z ∙ ap (λ (o : Option (List Sign)). o >>= roled) m

    pub intro-then : (r : std.Option Opened) (i : ℕ) → y ≡ Some i → ((ss : List Sign) → signs_at t i ≡ some ss → OpenedAs (roled ss) t r) → (ss : List Sign) → signs_at t at ≡ some ss → OpenedAs (introduced ss) t r
    intro-then r i f q ss s =
        let (os, z, g) = subst (λ (y : std.Option ℕ). TakesTo t y (opened ss)) e (h ss s) in
        let (ls, m, j) = subst (λ (y : std.Option ℕ). TakesTo t y (labelled os)) f (k os g) in
        subst (λ (o : Option (truth.Role × List Sign)). OpenedAs o t r) (sym (then-opened ss os z ∙ ap (λ (o : Option (List Sign)). o >>= roled) m)) (q ls j)

-- a formula that is read, and what closes its line
module _ (t d d' : List ℕ) (p : Pen) (n r : Now) where
  pub body-none : (o : Option Ran) → n.ok ≡ false → ReadAs o t d d' p n → ReadAs (closed o) t d d' p n
  body-none none e h = h
  body-none (some x) e h = absurd (false≢true (sym e ∙ h.0))

  module _ (x : std.Option ℕ) (k : closes_code < 16 → (ss : List Sign) → signs_at t n.at ≡ some ss → TakesTo t x (taking closes_code ss)) where
    pub body_open : (o : Option Ran) → n.ok ≡ true → x ≡ None → r.ok ≡ false → ReadAs o t d d' p n → ReadAs (closed o) t d d' p r
    body_open none e f q h = q
    body_open (some y) e f q h =
        let z : taking closes_code y.rest ≡ none = subst (λ (u : std.Option ℕ). TakesTo t u (taking closes_code y.rest)) f (k (omega arith) y.rest h.1) in
        subst (λ (o : Option Ran). ReadAs o t d d' p r) (sym (ap (λ (o : Option (List Sign)). o >>= λ c. taking dot_code c >>= λ d. some (record { marks = y.marks; scope = y.scope; rest = d })) z)) q

    module _ (m : ℕ) (f : x ≡ Some m) (u : std.Option ℕ) (l : dot_code < 16 → (ss : List Sign) → signs_at t m ≡ some ss → TakesTo t u (taking dot_code ss)) where
      pub body-undotted : (o : Option Ran) → n.ok ≡ true → u ≡ None → r.ok ≡ false → ReadAs o t d d' p n → ReadAs (closed o) t d d' p r
      body-undotted none e g q h = q
      body-undotted (some y) e g q h =
          let (cs, z, j) = subst (λ (u : std.Option ℕ). TakesTo t u (taking closes_code y.rest)) f (k (omega arith) y.rest h.1) in
          let v : taking dot_code cs ≡ none = subst (λ (u : std.Option ℕ). TakesTo t u (taking dot_code cs)) g (l (omega arith) cs j) in
          subst (λ (o : Option Ran). ReadAs o t d d' p r)
          (sym
          (ap (λ (o : Option (List Sign)). o >>= λ c. taking dot_code c >>= λ d. some (record { marks = y.marks; scope = y.scope; rest = d })) z
          ∙ ap (λ (o : Option (List Sign)). o >>= λ d. some (record { marks = y.marks; scope = y.scope; rest = d })) v))
          q

      pub body-read : (o : Option Ran) → n.ok ≡ true → (i : ℕ) → u ≡ Some i → r.ok ≡ true → r.at ≡ i → r.pen ≡ n.pen → ReadAs o t d d' p n → ReadAs (closed o) t d d' p r
      body-read none e i g q a w h = absurd (false≢true (sym h ∙ e))
      body-read (some y) e i g q a w h =
          let (cs, z, j) = subst (λ (u : std.Option ℕ). TakesTo t u (taking closes_code y.rest)) f (k (omega arith) y.rest h.1) in
          let (ds, v, b) = subst (λ (u : std.Option ℕ). TakesTo t u (taking dot_code cs)) g (l (omega arith) cs j) in
          subst (λ (o : Option Ran). ReadAs o t d d' p r)
          (sym
          (ap (λ (o : Option (List Sign)). o >>= λ c. taking dot_code c >>= λ d. some (record { marks = y.marks; scope = y.scope; rest = d })) z
          ∙ ap (λ (o : Option (List Sign)). o >>= λ d. some (record { marks = y.marks; scope = y.scope; rest = d })) v))
          (q, ap (signs_at t) a ∙ b, subst (λ (z : Pen). Inks y.marks p d d' z) (sym w) h.2)

-- a line whose role is known: its marks in its file, nothing in the other
module _ (t rs rs' gs : List ℕ) (p : Passed) (n : Now) (m : ℕ) where
  pub added-axiom : p.axioms < 16385 → (p.axioms < 16385 → m ≡ p.axioms + 1) → (o : Option Ran) → ReadAs o t rs rs' p.rules n →
      AddedAs (o >>= λ x. some (record { role = truth.Role.as_axiom; marks = x.marks; rest = x.rest })) t rs rs' gs gs p (record { ok = n.ok; at = n.at; rules = n.pen; goal = p.goal; axioms = m; conjectures = p.conjectures })
  added-axiom l k none h = h
  added-axiom l k (some x) h = record {
    ok = h.0;
    signs = h.1;
    rules = subst (λ (z : List Mark). Inks z p.rules rs rs' n.pen) (sym (append-nil x.marks)) h.2;
    goal = inks-none p.goal gs;
    axioms = k l;
    conjectures = omega arith;
  }

  pub added-conjecture : p.conjectures < 16385 → (p.conjectures < 16385 → m ≡ p.conjectures + 1) → (o : Option Ran) → ReadAs o t rs rs' p.goal n →
      AddedAs (o >>= λ x. some (record { role = truth.Role.as_conjecture; marks = x.marks; rest = x.rest })) t gs gs rs rs' p (record { ok = n.ok; at = n.at; rules = p.rules; goal = n.pen; axioms = p.axioms; conjectures = m })
  added-conjecture l k none h = h
  added-conjecture l k (some x) h = record {
    ok = h.0;
    signs = h.1;
    rules = inks-none p.rules gs;
    goal = subst (λ (z : List Mark). Inks z p.goal rs rs' n.pen) (sym (append-nil x.marks)) h.2;
    axioms = omega arith;
    conjectures = k l;
  }

-- a line, by what stands before its formula
line_made : (k : truth.Role) (o : Option Ran) →
    Path (Option Read)
    (o >>= λ x. taking closes_code x.rest >>= λ c. taking dot_code c >>= λ d. some (record { role = k; marks = x.marks; rest = d }))
    (closed o >>= λ x. some (record { role = k; marks = x.marks; rest = x.rest }))
line_made k none = refl
line_made k (some x) = go (taking closes_code x.rest)
  where
    dotted : (o : Option (List Sign)) →
        Path (Option Read) (o >>= λ d. some (record { role = k; marks = x.marks; rest = d })) (◌>>=◌ {A = Ran} (o >>= λ d. some (record { marks = x.marks; scope = x.scope; rest = d })) λ x. some (record { role = k; marks = x.marks; rest = x.rest }))
    dotted none = refl
    dotted (some d) = refl

    go : (o : Option (List Sign)) →
        Path (Option Read) (o >>= λ c. taking dot_code c >>= λ d. some (record { role = k; marks = x.marks; rest = d })) (◌>>=◌ {A = Ran} (o >>= λ c. taking dot_code c >>= λ d. some (record { marks = x.marks; scope = x.scope; rest = d })) λ x. some (record { role = k; marks = x.marks; rest = x.rest }))
    go none = refl
    go (some c) = dotted (taking dot_code c)

line-none : (ss : List Sign) → introduced ss ≡ none → line_at ss ≡ none
unfolding line_at
line-none ss e =
    ap (λ (o : Option (truth.Role × List Sign)). o >>= λ i. formula_at (sort_of i.0) i.1 >>= λ x. taking closes_code x.rest >>= λ c. taking dot_code c >>= λ d. some (record { role = i.0; marks = x.marks; rest = d })) e

line-is : (ss : List Sign) (k : truth.Role) (fs : List Sign) → introduced ss ≡ some (k, fs) → line_at ss ≡ lined k fs
unfolding line_at
line-is ss k fs e =
    ap (λ (o : Option (truth.Role × List Sign)). o >>= λ i. formula_at (sort_of i.0) i.1 >>= λ x. taking closes_code x.rest >>= λ c. taking dot_code c >>= λ d. some (record { role = i.0; marks = x.marks; rest = d })) e
    ∙ line_made k (formula_at (sort_of k) fs)

-- no two roles are one
abbrev IsAxiom : Role → Type 0
IsAxiom R.Axiom = Unit {0}
IsAxiom R.Conjecture = ⊥

module _ (t rs rs' gs gs' : List ℕ) (p r : Passed) (o : std.Option Opened) where
  pub line_refused : o ≡ None → r.ok ≡ false → (ss : List Sign) → OpenedAs (introduced ss) t o → AddedAs (line_at ss) t rs rs' gs gs' p r
  line_refused e q ss h = subst (λ (o : Option Read). AddedAs o t rs rs' gs gs' p r) (sym (line-none ss (subst (OpenedAs (introduced ss) t) e h))) q

  pub line-axiom : (x : Opened) → o ≡ Some x → x.role ≡ R.Axiom → ((fs : List Sign) → signs_at t x.at ≡ some fs → AddedAs (lined truth.Role.as_axiom fs) t rs rs' gs gs' p r) → (ss : List Sign) → OpenedAs (introduced ss) t o → AddedAs (line_at ss) t rs rs' gs gs' p r
  line-axiom x d e q ss h = go (subst (OpenedAs (introduced ss) t) d h)
    where
      go : OpenedAs (introduced ss) t (Some x) → AddedAs (line_at ss) t rs rs' gs gs' p r
      go ((truth.Role.as_axiom, fs), f, k, s) = subst (λ (o : Option Read). AddedAs o t rs rs' gs gs' p r) (sym (line-is ss truth.Role.as_axiom fs f)) (q fs s)
      go ((truth.Role.as_conjecture, fs), f, k, s) = absurd (subst IsAxiom (sym e ∙ k) tt)

  pub line-conjecture : (x : Opened) → o ≡ Some x → x.role ≡ R.Conjecture → ((fs : List Sign) → signs_at t x.at ≡ some fs → AddedAs (lined truth.Role.as_conjecture fs) t rs rs' gs gs' p r) → (ss : List Sign) → OpenedAs (introduced ss) t o → AddedAs (line_at ss) t rs rs' gs gs' p r
  line-conjecture x d e q ss h = go (subst (OpenedAs (introduced ss) t) d h)
    where
      go : OpenedAs (introduced ss) t (Some x) → AddedAs (line_at ss) t rs rs' gs gs' p r
      go ((truth.Role.as_axiom, fs), f, k, s) = absurd (subst IsAxiom (sym k ∙ e) tt)
      go ((truth.Role.as_conjecture, fs), f, k, s) = subst (λ (o : Option Read). AddedAs o t rs rs' gs gs' p r) (sym (line-is ss truth.Role.as_conjecture fs f)) (q fs s)
