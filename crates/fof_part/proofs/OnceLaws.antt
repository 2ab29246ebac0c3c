-- Signs are the spelling of one book or of none. The lines are read back from their signs, looking at the next sign only; whatever spells a book is read back as that book, so there is only one.
-- What is read back here is named formulas, of any shape: whether they are clauses or goals plays no part.
use Prim.Native.Nat.{ℕ, zero, suc, ◌+◌, ◌≤◌, ◌<◌}
use mathlib.Core.Path.{◌≡◌, refl, sym, ◌∙◌, ap}
use mathlib.Core.List.{List, [], ◌∷◌, ◌++◌, append_assoc}
use mathlib.Core.Option.{Option, none, some, some-injective}
use native.Mathlib.Omega.{arith}
use lib.ListN.{length, length-append}
use Rattle.basics.specs.Choice.{◌>>=◌, maybe, nope}
use Rattle.harrop.specs.Formula.{Name}
use Rattle.fof_truth.specs.Formula.{Term, Terms, Formula, Role, Line, grouped, nested}
use Rattle.fof_part.specs.Sign.{Sign, opens_code, closes_code, lists_code, ends_code, comma_code, colon_code, dot_code, both_code, either_code, then_code}
use Rattle.fof_part.specs.Spelled.{TermSpelt, TermsSpelt, NamesSpelt, UnitSpelt, LogicSpelt, ChainSpelt, role_word, LineSpelt, BookSpelt}
use Rattle.fof_part.specs.Due.{taking}
use Rattle.fof_part.specs.Lines.{word, role_of}
use Rattle.fof_part.proofs.ChainLaws.{front-within, back-within, body-within}
use Rattle.fof_part.proofs.CompleteLaws.{NoOpens, line-shorter}

-- what signs begin with, and the signs behind it
abbrev Reader : Type 0 → Type 0
Reader A = List Sign → Option (A × List Sign)

bind_is : {A B : Type 0} (o : Option A) (a : A) (f : A → Option B) → o ≡ some a → (o >>= f) ≡ f a
bind_is {A = A} o a f e = ap (λ (x : Option A). x >>= f) e

-- an upper-case word
abbrev upper : Reader Name
upper [] = none
upper (Sign.upper x ∷ ss) = some (x, ss)
upper (Sign.lower w ∷ ss) = none
upper (Sign.truth ∷ ss) = none
upper (Sign.opens ∷ ss) = none
upper (Sign.closes ∷ ss) = none
upper (Sign.lists ∷ ss) = none
upper (Sign.ends ∷ ss) = none
upper (Sign.comma ∷ ss) = none
upper (Sign.colon ∷ ss) = none
upper (Sign.dot ∷ ss) = none
upper (Sign.every ∷ ss) = none
upper (Sign.exist ∷ ss) = none
upper (Sign.both ∷ ss) = none
upper (Sign.either ∷ ss) = none
upper (Sign.then ∷ ss) = none
upper (Sign.other ∷ ss) = none

-- terms up to the closing parenthesis, each by p
abbrev term_then : Reader Terms → Term × List Sign → Option (Terms × List Sign)
term_then rest t =
    maybe (taking comma_code t.1) (taking closes_code t.1 >>= λ r. some (Terms.cons t.0 Terms.nil, r)) λ r. rest r >>= λ us. some (Terms.cons t.0 us.0, us.1)

abbrev terms_with : Reader Term → ℕ → Reader Terms
terms_with p zero ss = none
terms_with p (suc m) ss = p ss >>= term_then (λ r. terms_with p m r)

abbrev arguments_with : Reader Term → Reader Terms
arguments_with p ss = maybe (taking opens_code ss) (some (Terms.nil, ss)) λ r. terms_with p (length r) r

abbrev term_with : Reader Term → Reader Term
term_with p ss = maybe (word ss) (upper ss >>= λ x. some (Term.var x.0, x.1)) λ g. arguments_with p g.1 >>= λ ts. some (Term.fun g.0 ts.0, ts.1)

abbrev term_at : ℕ → Reader Term
term_at zero ss = none
term_at (suc n) ss = term_with (λ r. term_at n r) ss

abbrev TermsBack : ℕ → Reader Term → Type 0
TermsBack n p = (t : Term) (w : List Sign) → TermSpelt t w → length w < n → (k : List Sign) → NoOpens k → p (w ++ k) ≡ some (t, k)

terms-back : (n : ℕ) (p : Reader Term) → TermsBack n p → {t : Term} {ts : Terms} {w : List Sign} → TermsSpelt t ts w → length w < n → (m : ℕ) → length w < m → (k : List Sign) → terms_with p m (w ++ (Sign.closes ∷ k)) ≡ some (Terms.cons t ts, k)
terms-back n p b (TermsSpelt.last s) h zero l k = absurd (omega arith)
terms-back n p b (TermsSpelt.last {t = t} {w = w} s) h (suc m) l k = bind_is (p (w ++ (Sign.closes ∷ k))) (t, Sign.closes ∷ k) (term_then (λ r. terms_with p m r)) (b t w s h (Sign.closes ∷ k) refl)
terms-back n p b (TermsSpelt.further s ss) h zero l k = absurd (omega arith)
terms-back n p b (TermsSpelt.further {t = t} {u = u} {us = us} {w = w} {v = v} s ss) h (suc m) l k =
    let r = v ++ (Sign.closes ∷ k) in
    let e = length-append w (Sign.comma ∷ v) in
    ap (terms_with p (suc m)) (append_assoc w (Sign.comma ∷ v) (Sign.closes ∷ k))
    ∙ bind_is (p (w ++ (Sign.comma ∷ r))) (t, Sign.comma ∷ r) (term_then (λ r. terms_with p m r)) (b t w s (front-within w (Sign.comma ∷ v) n h) (Sign.comma ∷ r) refl)
    ∙ bind_is (terms_with p m r) (Terms.cons u us, k) (λ us. some (Terms.cons t us.0, us.1)) (terms-back n p b ss (back-within (Sign.comma ∷ []) v n (back-within w (Sign.comma ∷ v) n h)) m (omega arith) k)

bare-back : (p : Reader Term) (k : List Sign) → NoOpens k → arguments_with p k ≡ some (Terms.nil, k)
bare-back p k o = ap (λ (x : Option (List Sign)). maybe x (some (Terms.nil, k)) λ r. terms_with p (length r) r) o

applied_back : (n : ℕ) (p : Reader Term) → TermsBack n p → {t : Term} {ts : Terms} {w : List Sign} → TermsSpelt t ts w → length w < n → (k : List Sign) → arguments_with p (Sign.opens ∷ ((w ++ (Sign.closes ∷ [])) ++ k)) ≡ some (Terms.cons t ts, k)
applied_back n p b {w = w} s h k =
    let e = length-append w (Sign.closes ∷ k) in
    ap (λ (r : List Sign). terms_with p (length r) r) (append_assoc w (Sign.closes ∷ []) k) ∙ terms-back n p b s h (length (w ++ (Sign.closes ∷ k))) (omega arith) k

term-back : (n : ℕ) (p : Reader Term) → TermsBack n p → TermsBack (suc n) (term_with p)
term-back n p b t w (TermSpelt.variable {x = x}) h k o = refl
term-back n p b t w (TermSpelt.constant {g = g}) h k o = bind_is (arguments_with p k) (Terms.nil, k) (λ ts. some (Term.fun g ts.0, ts.1)) (bare-back p k o)
term-back n p b t w (TermSpelt.applied {g = g} {t = s} {ts = ts} {w = v} m) h k o =
    bind_is (arguments_with p (Sign.opens ∷ ((v ++ (Sign.closes ∷ [])) ++ k))) (Terms.cons s ts, k) (λ ts. some (Term.fun g ts.0, ts.1))
    (applied_back n p b m (front-within v (Sign.closes ∷ []) n (omega arith)) k)

term-to : (n : ℕ) → TermsBack n (term_at n)
term-to zero t w s h k o = absurd (omega arith)
term-to (suc n) t w s h k o = term-back n (λ r. term_at n r) (term-to n) t w s h k o

-- a variable list up to the colon
abbrev name_then : Reader (List Name) → Name × List Sign → Option (List Name × List Sign)
name_then rest x =
    maybe (taking comma_code x.1) (taking ends_code x.1 >>= λ r. taking colon_code r >>= λ q. some (x.0 ∷ [], q)) λ r. rest r >>= λ xs. some (x.0 ∷ xs.0, xs.1)

abbrev names_with : ℕ → Reader (List Name)
names_with zero ss = none
names_with (suc m) ss = upper ss >>= name_then (λ r. names_with m r)

names-back : {x : Name} {xs : List Name} {w : List Sign} → NamesSpelt x xs w → (m : ℕ) → length w < m → (k : List Sign) → names_with m (w ++ (Sign.ends ∷ Sign.colon ∷ k)) ≡ some (x ∷ xs, k)
names-back NamesSpelt.last zero l k = absurd (omega arith)
names-back NamesSpelt.last (suc m) l k = refl
names-back (NamesSpelt.further ns) zero l k = absurd (omega arith)
names-back (NamesSpelt.further {x = x} {y = y} {ys = ys} {w = w} ns) (suc m) l k =
    bind_is (names_with m (w ++ (Sign.ends ∷ Sign.colon ∷ k))) (y ∷ ys, k) (λ xs. some (x ∷ xs.0, xs.1)) (names-back ns m (omega arith) k)

-- further members of a chain behind F, each by q
module _ (q : Reader Formula) (c : ℕ) (op : Formula → Formula → Formula) where
  abbrev member_then : (Formula → Reader Formula) → Formula → Formula × List Sign → Option (Formula × List Sign)
  member_then rest F G = maybe (taking c G.1) (some (op F G.0, G.1)) λ r. rest (op F G.0) r

  abbrev members_with : ℕ → Formula → Reader Formula
  members_with zero F ss = none
  members_with (suc m) F ss = q ss >>= member_then (λ H r. members_with m H r) F

-- what stands behind the first unit of a formula
abbrev behind : Reader Formula → Formula × List Sign → Option (Formula × List Sign)
behind q F =
    maybe (taking both_code F.1) (maybe (taking either_code F.1) (maybe (taking then_code F.1) (some F) λ r. q r >>= λ G. some (Formula.implies F.0 G.0, G.1)) λ r. members_with q either_code Formula.or (suc (length r)) F.0 r) λ r. members_with q both_code Formula.and (suc (length r)) F.0 r

abbrev logic_with : Reader Formula → Reader Formula
logic_with q ss = q ss >>= behind q

abbrev quantified_with : Reader Formula → (Name → Formula → Formula) → List Sign → Option (Formula × List Sign)
quantified_with q c r = taking lists_code r >>= λ l. names_with (length l) l >>= λ xs. q xs.1 >>= λ F. some (nested c xs.0 F.0, F.1)

abbrev closed_with : Reader Formula → List Sign → Option (Formula × List Sign)
closed_with q r = logic_with q r >>= λ F. taking closes_code F.1 >>= λ k. some (F.0, k)

abbrev atom_with : Name × List Sign → Option (Formula × List Sign)
atom_with p = arguments_with (term_at (length p.1)) p.1 >>= λ ts. some (Formula.atom p.0 ts.0, ts.1)

-- the signs `$true`, `!` and `?` by their numbers
abbrev unit_with : Reader Formula → Reader Formula
unit_with q ss =
    maybe (word ss) (maybe (taking 2 ss) (maybe (taking opens_code ss) (maybe (taking 10 ss) (taking 11 ss >>= quantified_with q Formula.some) (quantified_with q Formula.all)) (closed_with q)) λ r. some (Formula.true, r)) atom_with

abbrev unit_at : ℕ → Reader Formula
unit_at zero ss = none
unit_at (suc n) ss = unit_with (λ r. unit_at n r) ss

abbrev UnitsBack : ℕ → Reader Formula → Type 0
UnitsBack n q = (F : Formula) (w : List Sign) → UnitSpelt F w → length w < n → (k : List Sign) → NoOpens k → q (w ++ k) ≡ some (F, k)

-- a chain begins with its sign
record Begins (s : Sign) (v k : List Sign) : Type 0 where
  pub rest : List Sign
  pub is : v ++ k ≡ s ∷ rest

chain-begins : {s : Sign} {G : Formula} {Gs : List Formula} {v : List Sign} → ChainSpelt s G Gs v → (k : List Sign) → Begins s v k
chain-begins (ChainSpelt.last {w = w} u) k = record { rest = w ++ k; is = refl }
chain-begins (ChainSpelt.further {w = w} {v = v} u c) k = record { rest = (w ++ v) ++ k; is = refl }

module _ (n : ℕ) (q : Reader Formula) (b : UnitsBack n q) (s : Sign) (c : ℕ) (op : Formula → Formula → Formula) (own : (r : List Sign) → taking c (s ∷ r) ≡ some r) (shut : (r : List Sign) → NoOpens (s ∷ r)) where
  chain-shut : {s' : Sign} {G : Formula} {Gs : List Formula} {v : List Sign} → ChainSpelt s' G Gs v → s' ≡ s → (k : List Sign) → NoOpens (v ++ k)
  chain-shut d e k =
      let y = chain-begins d k in
      ap (taking opens_code) (y.is ∙ ap (λ (z : Sign). z ∷ y.rest) e) ∙ shut y.rest

  chain-taken : {s' : Sign} {G : Formula} {Gs : List Formula} {v : List Sign} (d : ChainSpelt s' G Gs v) → s' ≡ s → (k : List Sign) → taking c (v ++ k) ≡ some (chain-begins d k).rest
  chain-taken d e k =
      let y = chain-begins d k in
      ap (taking c) (y.is ∙ ap (λ (z : Sign). z ∷ y.rest) e) ∙ own y.rest

  abbrev members : ℕ → Formula → Reader Formula
  members m F ss = members_with q c op m F ss

  -- the first of them
  member_back : (s' : Sign) → s' ≡ s → (m : ℕ) (F G : Formula) (w k : List Sign) → q (w ++ k) ≡ some (G, k) → (taking c (s' ∷ (w ++ k)) >>= members (suc m) F) ≡ member_then q c op (λ H r. members m H r) F (G, k)
  member_back s' e m F G w k h =
      ap (λ (z : Sign). taking c (z ∷ (w ++ k)) >>= members (suc m) F) e
      ∙ bind_is (taking c (s ∷ (w ++ k))) (w ++ k) (members (suc m) F) (own (w ++ k))
      ∙ bind_is (q (w ++ k)) (G, k) (member_then q c op (λ H r. members m H r) F) h

  members-back : {s' : Sign} {G : Formula} {Gs : List Formula} {v : List Sign} → ChainSpelt s' G Gs v → s' ≡ s → length v < n → (m : ℕ) → length v ≤ m → (k : List Sign) → taking c (Sign.closes ∷ k) ≡ none → (F : Formula) → (taking c (v ++ (Sign.closes ∷ k)) >>= members m F) ≡ some (grouped op F (G ∷ Gs), Sign.closes ∷ k)
  members-back (ChainSpelt.last u) e h zero l k o F = absurd (omega arith)
  members-back (ChainSpelt.last {s = s'} {G = G} {w = w} u) e h (suc m) l k o F =
      member_back s' e m F G w (Sign.closes ∷ k) (b G w u (back-within (s' ∷ []) w n h) (Sign.closes ∷ k) refl)
      ∙ ap (λ (x : Option (List Sign)). maybe x (some (op F G, Sign.closes ∷ k)) λ r. members m (op F G) r) o
  members-back (ChainSpelt.further u d) e h zero l k o F = absurd (omega arith)
  members-back (ChainSpelt.further {s = s'} {G = G} {w = w} {v = v} u d) e h (suc m) l k o F =
      let i = back-within (s' ∷ []) (w ++ v) n h in
      let a = length-append w v in
      let x = v ++ (Sign.closes ∷ k) in
      let t = chain-taken d e (Sign.closes ∷ k) in
      ap (λ (r : List Sign). taking c (s' ∷ r) >>= members (suc m) F) (append_assoc w v (Sign.closes ∷ k))
      ∙ member_back s' e m F G w x (b G w u (front-within w v n i) x (chain-shut d e (Sign.closes ∷ k)))
      ∙ ap (λ (y : Option (List Sign)). maybe y (some (op F G, x)) λ r. members m (op F G) r) t
      ∙ sym (bind_is (taking c x) (chain-begins d (Sign.closes ∷ k)).rest (members m (op F G)) t)
      ∙ members-back d e (back-within w v n i) m (omega arith) k o (op F G)

  -- a whole chain
  linked-back : (seen : (F : Formula) (r : List Sign) → behind q (F, s ∷ r) ≡ members (suc (length r)) F r) {F G : Formula} {Gs : List Formula} {w v : List Sign} → UnitSpelt F w → ChainSpelt s G Gs v → length (w ++ v) < n → (k : List Sign) → taking c (Sign.closes ∷ k) ≡ none → logic_with q ((w ++ v) ++ (Sign.closes ∷ k)) ≡ some (grouped op F (G ∷ Gs), Sign.closes ∷ k)
  linked-back seen {F = F} {w = w} {v = v} u d h k o =
      let x = v ++ (Sign.closes ∷ k) in
      let y = chain-begins d (Sign.closes ∷ k) in
      let m = suc (length y.rest) in
      let a = length-append v (Sign.closes ∷ k) in
      let z = ap length y.is in
      ap (logic_with q) (append_assoc w v (Sign.closes ∷ k))
      ∙ bind_is (q (w ++ x)) (F, x) (behind q) (b F w u (front-within w v n h) x (chain-shut d refl (Sign.closes ∷ k)))
      ∙ ap (λ (r : List Sign). behind q (F, r)) y.is
      ∙ seen F y.rest
      ∙ sym (bind_is (taking c x) y.rest (members m F) (chain-taken d refl (Sign.closes ∷ k)))
      ∙ members-back d refl (back-within w v n h) m (omega arith) k o F

module _ (n : ℕ) (q : Reader Formula) (b : UnitsBack n q) where
  logic-back : {F : Formula} {w : List Sign} → LogicSpelt F w → length w < n → (k : List Sign) → logic_with q (w ++ (Sign.closes ∷ k)) ≡ some (F, Sign.closes ∷ k)
  logic-back (LogicSpelt.alone {F = F} {w = w} u) h k = bind_is (q (w ++ (Sign.closes ∷ k))) (F, Sign.closes ∷ k) (behind q) (b F w u h (Sign.closes ∷ k) refl)
  logic-back (LogicSpelt.conjoined u d) h k = linked-back n q b Sign.both both_code Formula.and (λ r. refl) (λ r. refl) (λ F r. refl) u d h k refl
  logic-back (LogicSpelt.disjoined u d) h k = linked-back n q b Sign.either either_code Formula.or (λ r. refl) (λ r. refl) (λ F r. refl) u d h k refl
  logic-back (LogicSpelt.implied {F = F} {G = G} {w = w} {v = v} u t) h k =
      let x = Sign.then ∷ (v ++ (Sign.closes ∷ k)) in
      ap (logic_with q) (append_assoc w (Sign.then ∷ v) (Sign.closes ∷ k))
      ∙ bind_is (q (w ++ x)) (F, x) (behind q) (b F w u (front-within w (Sign.then ∷ v) n h) x refl)
      ∙ bind_is (q (v ++ (Sign.closes ∷ k))) (G, Sign.closes ∷ k) (λ G. some (Formula.implies F G.0, G.1)) (b G v t (back-within (Sign.then ∷ []) v n (back-within w (Sign.then ∷ v) n h)) (Sign.closes ∷ k) refl)

  abbrev body_with : (Name → Formula → Formula) → List Name × List Sign → Option (Formula × List Sign)
  body_with c xs = q xs.1 >>= λ F. some (nested c xs.0 F.0, F.1)

  quantified-back : (c : Name → Formula → Formula) {x : Name} {xs : List Name} {F : Formula} {w v : List Sign} → NamesSpelt x xs w → UnitSpelt F v → length v < n → (k : List Sign) → NoOpens k → quantified_with q c (Sign.lists ∷ ((w ++ (Sign.ends ∷ Sign.colon ∷ v)) ++ k)) ≡ some (nested c (x ∷ xs) F, k)
  quantified-back c {x = x} {xs = xs} {F = F} {w = w} {v = v} ns u h k o =
      let l = w ++ (Sign.ends ∷ Sign.colon ∷ (v ++ k)) in
      let a = length-append w (Sign.ends ∷ Sign.colon ∷ (v ++ k)) in
      ap (λ (r : List Sign). names_with (length r) r >>= body_with c) (append_assoc w (Sign.ends ∷ Sign.colon ∷ v) k)
      ∙ bind_is (names_with (length l) l) (x ∷ xs, v ++ k) (body_with c) (names-back ns (length l) (omega arith) (v ++ k))
      ∙ bind_is (q (v ++ k)) (F, k) (λ F. some (nested c (x ∷ xs) F.0, F.1)) (b F v u h k o)

  unit-back : UnitsBack (suc n) (unit_with q)
  unit-back F w UnitSpelt.truth h k o = refl
  unit-back F w (UnitSpelt.plain {p = p}) h k o = bind_is (arguments_with (term_at (length k)) k) (Terms.nil, k) (λ ts. some (Formula.atom p ts.0, ts.1)) (bare-back (term_at (length k)) k o)
  unit-back F w (UnitSpelt.applied {p = p} {t = t} {ts = ts} {w = v} m) h k o =
      let r = Sign.opens ∷ ((v ++ (Sign.closes ∷ [])) ++ k) in
      let a = length-append (v ++ (Sign.closes ∷ [])) k in
      let e = length-append v (Sign.closes ∷ []) in
      bind_is (arguments_with (term_at (length r)) r) (Terms.cons t ts, k) (λ ts. some (Formula.atom p ts.0, ts.1))
      (applied_back (length r) (term_at (length r)) (term-to (length r)) m (omega arith) k)
  unit-back F w (UnitSpelt.every {w = x} {v = v} ns u) h k o = quantified-back Formula.all ns u (body-within x v n h) k o
  unit-back F w (UnitSpelt.exist {w = x} {v = v} ns u) h k o = quantified-back Formula.some ns u (body-within x v n h) k o
  unit-back F w (UnitSpelt.parens {w = v} l) h k o =
      ap (closed_with q) (append_assoc v (Sign.closes ∷ []) k)
      ∙ bind_is (logic_with q (v ++ (Sign.closes ∷ k))) (F, Sign.closes ∷ k) (λ F. taking closes_code F.1 >>= λ k. some (F.0, k)) (logic-back l (front-within v (Sign.closes ∷ []) n (omega arith)) k)

unit-to : (n : ℕ) → UnitsBack n (unit_at n)
unit-to zero F w u h k o = absurd (omega arith)
unit-to (suc n) F w u h k o = unit-back n (λ r. unit_at n r) (unit-to n) F w u h k o

-- a line
abbrev line_end : Name → Role → Formula × List Sign → Option (Line × List Sign)
line_end l r F = taking closes_code F.1 >>= λ c. taking dot_code c >>= λ d. some (record { label = l; role = r; formula = F.0 }, d)

abbrev line_body : Name → List Sign → Role → Option (Line × List Sign)
line_body l ss r = taking comma_code ss >>= λ s. logic_with (unit_at (length s)) s >>= line_end l r

abbrev line_of : Reader Line
line_of ss = word ss >>= λ f. taking opens_code f.1 >>= λ o. word o >>= λ l. taking comma_code l.1 >>= λ c. word c >>= λ r. role_of r.0 >>= line_body l.0 r.1

role-is : (r : Role) → role_of (role_word r) ≡ some r
role-is Role.as_axiom = refl
role-is Role.as_conjecture = refl

line-back : {l : Line} {w : List Sign} → LineSpelt l w → (v : List Sign) → line_of (w ++ v) ≡ some (l, v)
line-back (LineSpelt.line {l = l} {r = r} {F = F} {w = w} g) v =
    let s = w ++ (Sign.closes ∷ Sign.dot ∷ v) in
    let n = length s in
    let a = length-append w (Sign.closes ∷ Sign.dot ∷ v) in
    bind_is (role_of (role_word r)) r (line_body l (Sign.comma ∷ ((w ++ (Sign.closes ∷ Sign.dot ∷ [])) ++ v))) (role-is r)
    ∙ ap (λ (x : List Sign). logic_with (unit_at (length x)) x >>= line_end l r) (append_assoc w (Sign.closes ∷ Sign.dot ∷ []) v)
    ∙ bind_is (logic_with (unit_at n) s) (F, Sign.closes ∷ Sign.dot ∷ v) (line_end l r) (logic-back n (unit_at n) (unit-to n) g (omega arith) (Sign.dot ∷ v))

-- a book, of at most so many lines
abbrev book_at : ℕ → List Sign → Option (List Line)
book_at zero [] = some []
book_at zero (s ∷ ss) = none
book_at (suc f) [] = some []
book_at (suc f) (s ∷ ss) = line_of (s ∷ ss) >>= λ l. book_at f l.1 >>= λ ls. some (l.0 ∷ ls)

book-end : (f : ℕ) → book_at f [] ≡ some []
book-end zero = refl
book-end (suc f) = refl

book-further : (f : ℕ) (ss : List Sign) (l : Line) (r : List Sign) (ls : List Line) → line_of ss ≡ some (l, r) → book_at f r ≡ some ls → book_at (suc f) ss ≡ some (l ∷ ls)
book-further f [] l r ls e h = nope e
book-further f (s ∷ ss) l r ls e h =
    bind_is (line_of (s ∷ ss)) (l, r) (λ l. book_at f l.1 >>= λ ls. some (l.0 ∷ ls)) e ∙ bind_is (book_at f r) ls (λ ls. some (l ∷ ls)) h

book-back : {ls : List Line} {ss : List Sign} → BookSpelt ls ss → (f : ℕ) → length ss ≤ f → book_at f ss ≡ some ls
book-back BookSpelt.none f h = book-end f
book-back (BookSpelt.further {v = v} g bs) zero h =
    let i = line-shorter g v zero h in
    absurd (omega arith)
book-back (BookSpelt.further {l = l} {ls = ls} {w = w} {v = v} g bs) (suc f) h =
    let i = line-shorter g v (suc f) h in
    book-further f (w ++ v) l v ls (line-back g v) (book-back bs f (omega arith))

-- signs are the spelling of one book or of none
pub spelt-once : (ss : List Sign) (ls ms : List Line) → BookSpelt ls ss → BookSpelt ms ss → ls ≡ ms
spelt-once ss ls ms b c = some-injective ls ms (sym (book-back b (length ss) (omega arith)) ∙ book-back c (length ss) (omega arith))
