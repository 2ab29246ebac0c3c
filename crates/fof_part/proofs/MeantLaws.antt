-- What each due of the machine means: which signs it reads, and which marks it writes for them. Nothing here knows a run: a due's meaning is made from the meanings of those that it leaves.
use Prim.Native.Nat.{ℕ, zero, suc}
use mathlib.Core.Path.{◌≡◌, refl, sym, ◌∙◌, ap, subst}
use mathlib.Core.Bool.{Bool, true}
use mathlib.Core.List.{List, [], ◌∷◌, ◌++◌, append_assoc, append-nil}
use mathlib.Core.Option.{Option, some}
use Rattle.basics.specs.Choice.{◌>>=◌, provided}
use Rattle.basics.specs.Text.{octets}
use Rattle.harrop.specs.Formula as plain
use Rattle.harrop.specs.Formula.{Name}
use Rattle.sexp.specs.Decimal.{decimal}
use Rattle.sexp.specs.Sexp.{Sexp, Sexps}
use Rattle.sexp.specs.Words.{is_name}
use Rattle.packet.specs.Written.{term_sexp, term_sexps}
use Rattle.fof_truth.specs.Formula.{Term, Terms, Formula, grouped, nested}
use Rattle.fof_truth.specs.Numbered.{Scope, number_of, term_in, terms_in}
use Rattle.fof_part.specs.Sign.{Sign}
use Rattle.fof_part.specs.Spelled as spelled
use Rattle.fof_part.specs.Spelled.{TermSpelt, TermsSpelt, NamesSpelt, UnitSpelt, LogicSpelt, ChainSpelt}
use Rattle.fof_part.specs.Mark.{Mark, marks_all_onto, marks_of}
use Rattle.fof_part.specs.Due.{Sort, Link, Quantifier, Due, link_word, quantifier_word, headed, many_headed, left}
use Rattle.fof_part.proofs.OntoLaws.{onto, onto-all}
use Rattle.fof_part.proofs.BecomesLaws.{link_sign, Becomes, becomes-true, becomes-atom, becomes-asked, becomes-ruled, Links, linking, becomes-linked, Quantifies, quantifying, becomes-quantified, grouped_sexp, behind_marks, count, one-marks, two-marks, grouped-marks}

-- these signs and these marks, and no others
pub data Exactly (w : List Sign) (ms : List Mark) : List Sign → List Mark → Type 0 where
  exactly : Exactly w ms w ms

-- a formula that is spelt in some way, and the marks of what it becomes
pub data Formed (S : Formula → List Sign → Type 0) (s : Sort) (sc : Scope) : List Sign → List Mark → Type 0 where
  formed : {F : Formula} {w : List Sign} {e : Sexp} → S F w → Becomes s sc F e → Formed S s sc w (marks_of e)

-- a quantifier behind its sign: from `[` on, from a variable on, from behind a variable on, from `:` on
pub data OverSpelt : Formula → List Sign → Type 0 where
  over : {F : Formula} {w : List Sign} → UnitSpelt F w → OverSpelt F (Sign.colon ∷ w)

pub data VariableSpelt (q : Quantifier) : Formula → List Sign → Type 0 where
  variable : {x : Name} {xs : List Name} {F : Formula} {w v : List Sign} → NamesSpelt x xs w → UnitSpelt F v → VariableSpelt q (nested (quantifying q) (x ∷ xs) F) (w ++ (Sign.ends ∷ Sign.colon ∷ v))

pub data ListSpelt (q : Quantifier) : Formula → List Sign → Type 0 where
  list : {F : Formula} {w : List Sign} → VariableSpelt q F w → ListSpelt q F (Sign.lists ∷ w)

pub data BehindSpelt (q : Quantifier) : Formula → List Sign → Type 0 where
  last : {F : Formula} {w : List Sign} → OverSpelt F w → BehindSpelt q F (Sign.ends ∷ w)
  further : {F : Formula} {w : List Sign} → VariableSpelt q F w → BehindSpelt q F (Sign.comma ∷ w)

-- further members of a chain, each behind the connective
pub data Members (l : Link) (s : Sort) (sc : Scope) : List Formula → List Sexp → List Sign → Type 0 where
  no_more : Members l s sc [] [] []
  one_more : {G : Formula} {Gs : List Formula} {e : Sexp} {es : List Sexp} {w v : List Sign} → UnitSpelt G w → Becomes s sc G e → Members l s sc Gs es v → Members l s sc (G ∷ Gs) (e ∷ es) (link_sign l ∷ (w ++ v))

pub data MembersRead (l : Link) (s : Sort) (sc : Scope) : ℕ → List Sign → List Mark → Type 0 where
  members : {Gs : List Formula} {es : List Sexp} {w : List Sign} → Members l s sc Gs es w → MembersRead l s sc (count es) w (behind_marks es)

-- terms: with the closing parenthesis behind them, with the opening one before them if there are any, and from behind one on
pub data EndedSpelt : Terms → List Sign → Type 0 where
  ended : {t : Term} {ts : Terms} {w : List Sign} → TermsSpelt t ts w → EndedSpelt (Terms.cons t ts) (w ++ (Sign.closes ∷ []))

pub data ArgumentsSpelt : Terms → List Sign → Type 0 where
  bare : ArgumentsSpelt Terms.nil []
  given : {ts : Terms} {w : List Sign} → EndedSpelt ts w → ArgumentsSpelt ts (Sign.opens ∷ w)

pub data BehindTermSpelt : Terms → List Sign → Type 0 where
  last-term : BehindTermSpelt Terms.nil (Sign.closes ∷ [])
  further-term : {ts : Terms} {w : List Sign} → EndedSpelt ts w → BehindTermSpelt ts (Sign.comma ∷ w)

pub data TermRead (sc : Scope) : List Sign → List Mark → Type 0 where
  term : {t : Term} {u : plain.Term} {w : List Sign} → TermSpelt t w → term_in sc t ≡ some u → TermRead sc w (marks_of (term_sexp u))

pub data TermsRead (S : Terms → List Sign → Type 0) (sc : Scope) : List Sign → List Mark → Type 0 where
  terms : {ts : Terms} {us : plain.Terms} {w : List Sign} → S ts w → terms_in sc ts ≡ some us → TermsRead S sc w (marks_all_onto (term_sexps us) [])

-- with these variables bound, a due reads these signs and writes these marks. A quantifier is only met where its sort has it
abbrev pub Meant : Due → Scope → List Sign → List Mark → Type 0
Meant (Due.formula s) sc w ms = Formed LogicSpelt s sc w ms
Meant (Due.unit s) sc w ms = Formed UnitSpelt s sc w ms
Meant (Due.more l s n) sc w ms = MembersRead l s sc n w ms
Meant Due.arrow sc w ms = Exactly (Sign.then ∷ []) [] w ms
Meant Due.close sc w ms = Exactly (Sign.closes ∷ []) [] w ms
Meant (Due.list q s) sc w ms = Quantifies q s → Formed (ListSpelt q) s sc w ms
Meant (Due.variable q s) sc w ms = Quantifies q s → Formed (VariableSpelt q) s sc w ms
Meant (Due.behind q s) sc w ms = Quantifies q s → Formed (BehindSpelt q) s sc w ms
Meant (Due.over s) sc w ms = Formed OverSpelt s sc w ms
Meant Due.arguments sc w ms = TermsRead ArgumentsSpelt sc w ms
Meant Due.term sc w ms = TermRead sc w ms
Meant Due.terms sc w ms = TermsRead BehindTermSpelt sc w ms
Meant Due.shut sc w ms = Exactly [] (Mark.end ∷ []) w ms
Meant Due.leave sc w ms = Exactly [] (Mark.end ∷ []) w ms

-- the variables that are bound after it
abbrev pub scope_after : Due → Scope → Scope
scope_after (Due.formula s) sc = sc
scope_after (Due.unit s) sc = sc
scope_after (Due.more l s n) sc = sc
scope_after Due.arrow sc = sc
scope_after Due.close sc = sc
scope_after (Due.list q s) sc = sc
scope_after (Due.variable q s) sc = sc
scope_after (Due.behind q s) sc = sc
scope_after (Due.over s) sc = sc
scope_after Due.arguments sc = sc
scope_after Due.term sc = sc
scope_after Due.terms sc = sc
scope_after Due.shut sc = sc
scope_after Due.leave sc = left sc

-- one due after the other
pub data Meants : List Due → Scope → List Sign → List Mark → Type 0 where
  done : {sc : Scope} → Meants [] sc [] []
  next : {d : Due} {ds : List Due} {sc : Scope} (w v : List Sign) (ms ns : List Mark) → Meant d sc w ms → Meants ds (scope_after d sc) v ns → Meants (d ∷ ds) sc (w ++ v) (ms ++ ns)

abbrev pub scopes_after : List Due → Scope → Scope
scopes_after [] sc = sc
scopes_after (d ∷ ds) sc = scopes_after ds (scope_after d sc)

meant-at : (d : Due) (sc : Scope) (w v : List Sign) (ms ns : List Mark) → w ≡ v → ms ≡ ns → Meant d sc w ms → Meant d sc v ns
meant-at d sc w v ms ns e h m = subst (λ (x : List Sign). Meant d sc x ns) e (subst (λ (x : List Mark). Meant d sc w x) h m)

pub just : (d : Due) (sc : Scope) (w : List Sign) (ms : List Mark) → Meants (d ∷ []) sc w ms → Meant d sc w ms
just d sc w ms (next v _ ns _ m done) = meant-at d sc v (v ++ []) ns (ns ++ []) (sym (append-nil v)) (sym (append-nil ns)) m

-- formulas: one unit, a chain, the two implications
pub alone : {s : Sort} {sc : Scope} {w : List Sign} {ms : List Mark} → Formed UnitSpelt s sc w ms → Formed LogicSpelt s sc w ms
alone (formed u b) = formed (spelled.LogicSpelt.alone u) b

chained : {l : Link} {s : Sort} {sc : Scope} {G : Formula} {Gs : List Formula} {es : List Sexp} {w v : List Sign} → UnitSpelt G w → Members l s sc Gs es v → ChainSpelt (link_sign l) G Gs (link_sign l ∷ (w ++ v))
chained {l = l} {G = G} {w = w} u no_more = subst (λ (x : List Sign). ChainSpelt (link_sign l) G [] (link_sign l ∷ x)) (sym (append-nil w)) (spelled.ChainSpelt.last u)
chained u (one_more v b m) = spelled.ChainSpelt.further u (chained v m)

joined : (l : Link) {F G : Formula} {Gs : List Formula} {w v : List Sign} → UnitSpelt F w → ChainSpelt (link_sign l) G Gs v → LogicSpelt (grouped (linking l) F (G ∷ Gs)) (w ++ v)
joined Link.conj u c = spelled.LogicSpelt.conjoined u c
joined Link.disj u c = spelled.LogicSpelt.disjoined u c

spelt-chain : {l : Link} {s : Sort} {sc : Scope} {F : Formula} {Gs : List Formula} {es : List Sexp} {w v : List Sign} → UnitSpelt F w → Members l s sc Gs es v → LogicSpelt (grouped (linking l) F Gs) (w ++ v)
spelt-chain {F = F} {w = w} u no_more = subst (LogicSpelt F) (sym (append-nil w)) (spelled.LogicSpelt.alone u)
spelt-chain {l = l} u (one_more v b m) = joined l u (chained v m)

chain-becomes : {l : Link} {s : Sort} {sc : Scope} (F : Formula) (e : Sexp) {Gs : List Formula} {es : List Sexp} {v : List Sign} → Links l s → Becomes s sc F e → Members l s sc Gs es v → Becomes s sc (grouped (linking l) F Gs) (grouped_sexp (link_word l) e es)
chain-becomes F e a b no_more = b
chain-becomes {l = l} {s = s} {sc = sc} F e a b (one_more {G = G} {e = f} v c m) = chain-becomes (linking l F G) _ a (becomes-linked l s sc F G e f a b c) m

pub linked : (l : Link) (s : Sort) (n : ℕ) (sc : Scope) (w : List Sign) (ms : List Mark) → Links l s → Meants (Due.unit s ∷ Due.more l s n ∷ []) sc w ms → Formed LogicSpelt s sc w (many_headed (link_word l) n ++ ms)
linked l s n sc w ms a (next x _ _ _ (formed {F = F} {e = e} u b) (next y _ _ _ (members {es = es} m) done)) =
    meant-at (Due.formula s) sc (x ++ y) (x ++ (y ++ [])) (marks_of (grouped_sexp (link_word l) e es)) (many_headed (link_word l) (count es) ++ (marks_of e ++ (behind_marks es ++ [])))
    (ap (λ (z : List Sign). x ++ z) (sym (append-nil y)))
    (sym (ap (λ (z : List Mark). many_headed (link_word l) (count es) ++ (marks_of e ++ z)) (append-nil (behind_marks es)) ∙ grouped-marks (link_word l) e es))
    (formed (spelt-chain u m) (chain-becomes F e a b m))

pub asked : (sc : Scope) (w : List Sign) (ms : List Mark) → Meants (Due.unit Sort.clause ∷ Due.arrow ∷ Due.unit Sort.goal ∷ Due.shut ∷ []) sc w ms → Formed LogicSpelt Sort.goal sc w (headed (octets "imp") ++ ms)
asked sc w ms (next x _ _ _ (formed {F = F} {e = d} u b) (next _ _ _ _ exactly (next y _ _ _ (formed {F = G} {e = e} v c) (next _ _ _ _ exactly done)))) =
    meant-at (Due.formula Sort.goal) sc (x ++ (Sign.then ∷ y)) (x ++ (Sign.then ∷ (y ++ []))) _ (headed (octets "imp") ++ (marks_of d ++ (marks_of e ++ (Mark.end ∷ []))))
    (ap (λ (z : List Sign). x ++ (Sign.then ∷ z)) (sym (append-nil y)))
    (sym (two-marks (octets "imp") d e))
    (formed (spelled.LogicSpelt.implied u v) (becomes-asked sc F G d e b c))

pub ruled : (sc : Scope) (w : List Sign) (ms : List Mark) → Meants (Due.unit Sort.goal ∷ Due.arrow ∷ Due.unit Sort.head ∷ Due.shut ∷ []) sc w ms → Formed LogicSpelt Sort.clause sc w (headed (octets "imp") ++ ms)
ruled sc w ms (next x _ _ _ (formed {F = F} {e = d} u b) (next _ _ _ _ exactly (next y _ _ _ (formed {F = G} {e = e} v c) (next _ _ _ _ exactly done)))) =
    meant-at (Due.formula Sort.clause) sc (x ++ (Sign.then ∷ y)) (x ++ (Sign.then ∷ (y ++ []))) _ (headed (octets "imp") ++ (marks_of d ++ (marks_of e ++ (Mark.end ∷ []))))
    (ap (λ (z : List Sign). x ++ (Sign.then ∷ z)) (sym (append-nil y)))
    (sym (two-marks (octets "imp") d e))
    (formed (spelled.LogicSpelt.implied u v) (becomes-ruled sc F G d e b c))

-- one member more of a chain
pub member : (l : Link) (s : Sort) (n : ℕ) (sc : Scope) (w : List Sign) (ms : List Mark) → Meants (Due.unit s ∷ Due.shut ∷ Due.more l s n ∷ []) sc w ms → MembersRead l s sc (suc n) (link_sign l ∷ w) ms
member l s n sc w ms (next x _ _ _ (formed {e = e} u b) (next _ _ _ _ exactly (next y _ _ _ (members {es = es} m) done))) =
    meant-at (Due.more l s (suc (count es))) sc (link_sign l ∷ (x ++ y)) (link_sign l ∷ (x ++ (y ++ []))) (marks_of e ++ (Mark.end ∷ behind_marks es)) (marks_of e ++ (Mark.end ∷ (behind_marks es ++ [])))
    (ap (λ (z : List Sign). link_sign l ∷ (x ++ z)) (sym (append-nil y)))
    (ap (λ (z : List Mark). marks_of e ++ (Mark.end ∷ z)) (sym (append-nil (behind_marks es))))
    (members (one_more u b m))

-- parentheses
pub closed : (s : Sort) (sc : Scope) (w : List Sign) (ms : List Mark) → Meants (Due.formula s ∷ Due.close ∷ []) sc w ms → Formed UnitSpelt s sc (Sign.opens ∷ w) ms
closed s sc w ms (next x _ _ _ (formed {e = e} u b) (next _ _ _ _ exactly done)) =
    meant-at (Due.unit s) sc (Sign.opens ∷ (x ++ (Sign.closes ∷ []))) (Sign.opens ∷ (x ++ (Sign.closes ∷ []))) (marks_of e) (marks_of e ++ []) refl (sym (append-nil (marks_of e)))
    (formed (spelled.UnitSpelt.parens u) b)

-- quantifiers
named : {q : Quantifier} {F : Formula} {w : List Sign} (x : Name) → BehindSpelt q F w → VariableSpelt q (quantifying q x F) (Sign.upper x ∷ w)
named x (last (over u)) = variable {xs = []} spelled.NamesSpelt.last u
named x (further (variable {x = y} {xs = ys} n u)) = variable {xs = y ∷ ys} (spelled.NamesSpelt.further n) u

pub bound : (q : Quantifier) (s : Sort) (sc : Scope) (x : Name) (w : List Sign) (ms : List Mark) → Meants (Due.behind q s ∷ Due.leave ∷ []) (x ∷ sc) w ms → Quantifies q s → Formed (VariableSpelt q) s sc (Sign.upper x ∷ w) (headed (quantifier_word q) ++ ms)
bound q s sc x w ms (next v _ ns _ m (next _ _ _ _ exactly done)) a = go (m a)
  where
    go : {v : List Sign} {ns : List Mark} → Formed (BehindSpelt q) s (x ∷ sc) v ns → Formed (VariableSpelt q) s sc (Sign.upper x ∷ (v ++ [])) (headed (quantifier_word q) ++ (ns ++ (Mark.end ∷ [])))
    go {v = v} (formed {F = F} {e = e} u b) =
        meant-at (Due.variable q s) sc (Sign.upper x ∷ v) (Sign.upper x ∷ (v ++ [])) _ (headed (quantifier_word q) ++ (marks_of e ++ (Mark.end ∷ [])))
        (ap (λ (z : List Sign). Sign.upper x ∷ z) (sym (append-nil v)))
        (sym (one-marks (quantifier_word q) e))
        (λ i. formed (named x u) (becomes-quantified q s sc x F e a b)) a

pub every-unit : {F : Formula} {w : List Sign} → ListSpelt Quantifier.for_all F w → UnitSpelt F (Sign.every ∷ w)
every-unit (list (variable n u)) = spelled.UnitSpelt.every n u

pub exist-unit : {F : Formula} {w : List Sign} → ListSpelt Quantifier.exists F w → UnitSpelt F (Sign.exist ∷ w)
exist-unit (list (variable n u)) = spelled.UnitSpelt.exist n u

pub spelt-as : {S T : Formula → List Sign → Type 0} (s : Sort) (sc : Scope) (x : Sign) {w : List Sign} {ms : List Mark} → ((F : Formula) (v : List Sign) → S F v → T F (x ∷ v)) → Formed S s sc w ms → Formed T s sc (x ∷ w) ms
spelt-as s sc x f (formed {F = F} {w = v} u b) = formed (f F v u) b

-- terms
end-terms : {t : Term} {ts : Terms} {w v : List Sign} → TermSpelt t w → BehindTermSpelt ts v → EndedSpelt (Terms.cons t ts) (w ++ v)
end-terms u last-term = ended (spelled.TermsSpelt.last u)
end-terms {t = t} {w = w} u (further-term (ended {t = x} {ts = xs} {w = v} h)) =
    subst (EndedSpelt (Terms.cons t (Terms.cons x xs))) (append_assoc w (Sign.comma ∷ v) (Sign.closes ∷ [])) (ended (spelled.TermsSpelt.further u h))

terms-in : (sc : Scope) (t : Term) (ts : Terms) (u : plain.Term) (us : plain.Terms) → term_in sc t ≡ some u → terms_in sc ts ≡ some us → terms_in sc (Terms.cons t ts) ≡ some (plain.Terms.cons u us)
terms-in sc t ts u us h k =
    ap (λ (o : Option plain.Term). o >>= λ x. terms_in sc ts >>= λ xs. some (plain.Terms.cons x xs)) h
    ∙ ap (λ (o : Option plain.Terms). o >>= λ xs. some (plain.Terms.cons u xs)) k

pub with-terms : (sc : Scope) (w : List Sign) (ms : List Mark) → Meants (Due.term ∷ Due.terms ∷ []) sc w ms → TermsRead EndedSpelt sc w ms
with-terms sc w ms (next x _ _ _ (term {t = t} {u = u} s h) (next y _ _ _ (terms {ts = ts} {us = us} b k) done)) =
    subst (λ (z : List Sign). TermsRead EndedSpelt sc z (marks_of (term_sexp u) ++ (marks_all_onto (term_sexps us) [] ++ []))) (ap (λ (z : List Sign). x ++ z) (sym (append-nil y)))
    (subst (TermsRead EndedSpelt sc (x ++ y))
    (onto (term_sexp u) (marks_all_onto (term_sexps us) []) ∙ ap (λ (z : List Mark). marks_of (term_sexp u) ++ z) (sym (append-nil (marks_all_onto (term_sexps us) []))))
    (terms (end-terms s b) (terms-in sc t ts u us h k)))

pub terms-as : {S T : Terms → List Sign → Type 0} (sc : Scope) (x : Sign) {w : List Sign} {ms : List Mark} → ((ts : Terms) (v : List Sign) → S ts v → T ts (x ∷ v)) → TermsRead S sc w ms → TermsRead T sc (x ∷ w) ms
terms-as sc x f (terms {ts = ts} {w = v} u h) = terms (f ts v u) h

atom-unit : {ts : Terms} {w : List Sign} (p : Name) → ArgumentsSpelt ts w → UnitSpelt (Formula.atom p ts) (Sign.lower p ∷ w)
atom-unit p bare = spelled.UnitSpelt.plain
atom-unit p (given (ended h)) = spelled.UnitSpelt.applied h

fun-term : {ts : Terms} {w : List Sign} (g : Name) → ArgumentsSpelt ts w → TermSpelt (Term.fun g ts) (Sign.lower g ∷ w)
fun-term g bare = spelled.TermSpelt.constant
fun-term g (given (ended h)) = spelled.TermSpelt.applied h

-- a word, a name and arguments
named-marks : (w : List ℕ) (p : Name) (us : plain.Terms) → (headed w ++ (Mark.string p ∷ [])) ++ (marks_all_onto (term_sexps us) [] ++ (Mark.end ∷ [])) ≡ marks_of (Sexp.list (Sexps.cons (Sexp.str w) (Sexps.cons (Sexp.str p) (term_sexps us))))
named-marks w p us = ap (λ (z : List Mark). headed w ++ (Mark.string p ∷ z)) (sym (onto-all (term_sexps us) (Mark.end ∷ [])))

pub atomic : (s : Sort) (sc : Scope) (p : Name) (w : List Sign) (ms : List Mark) → is_name p ≡ true → Meants (Due.arguments ∷ Due.shut ∷ []) sc w ms → Formed UnitSpelt s sc (Sign.lower p ∷ w) ((headed (octets "atom") ++ (Mark.string p ∷ [])) ++ ms)
atomic s sc p w ms n (next x _ _ _ (terms {ts = ts} {us = us} u h) (next _ _ _ _ exactly done)) =
    meant-at (Due.unit s) sc (Sign.lower p ∷ x) (Sign.lower p ∷ (x ++ [])) _ ((headed (octets "atom") ++ (Mark.string p ∷ [])) ++ (marks_all_onto (term_sexps us) [] ++ (Mark.end ∷ [])))
    (ap (λ (z : List Sign). Sign.lower p ∷ z) (sym (append-nil x)))
    (sym (named-marks (octets "atom") p us))
    (formed (atom-unit p u) (becomes-atom s sc p ts us n h))

pub functional : (sc : Scope) (g : Name) (w : List Sign) (ms : List Mark) → is_name g ≡ true → Meants (Due.arguments ∷ Due.shut ∷ []) sc w ms → TermRead sc (Sign.lower g ∷ w) ((headed (octets "f") ++ (Mark.string g ∷ [])) ++ ms)
functional sc g w ms n (next x _ _ _ (terms {ts = ts} {us = us} u h) (next _ _ _ _ exactly done)) =
    meant-at Due.term sc (Sign.lower g ∷ x) (Sign.lower g ∷ (x ++ [])) _ ((headed (octets "f") ++ (Mark.string g ∷ [])) ++ (marks_all_onto (term_sexps us) [] ++ (Mark.end ∷ [])))
    (ap (λ (z : List Sign). Sign.lower g ∷ z) (sym (append-nil x)))
    (sym (named-marks (octets "f") g us))
    (term {u = plain.Term.f g us} (fun-term g u)
    (ap (λ (b : Bool). provided b (terms_in sc ts >>= λ us. some (plain.Term.f g us))) n ∙ ap (λ (o : Option plain.Terms). o >>= λ us. some (plain.Term.f g us)) h))

-- dues that leave nothing
pub nothing : (v : List Sign) (ns : List Mark) (sc : Scope) (w : List Sign) (ms : List Mark) → Meants [] sc w ms → Exactly v ns (v ++ w) (ns ++ ms)
nothing v ns sc w ms done = subst (λ (x : List Sign). Exactly v ns x (ns ++ [])) (sym (append-nil v)) (subst (Exactly v ns v) (sym (append-nil ns)) exactly)

pub topped : (sc : Scope) (w : List Sign) (ms : List Mark) → Meants [] sc w ms → Formed UnitSpelt Sort.goal sc (Sign.truth ∷ w) ((headed (octets "top") ++ (Mark.end ∷ [])) ++ ms)
topped sc w ms done = formed spelled.UnitSpelt.truth (becomes-true sc)

pub no_arguments : (sc : Scope) (w : List Sign) (ms : List Mark) → Meants [] sc w ms → TermsRead ArgumentsSpelt sc w ms
no_arguments sc w ms done = terms {us = plain.Terms.nil} bare refl

pub no-terms : (sc : Scope) (w : List Sign) (ms : List Mark) → Meants [] sc w ms → TermsRead BehindTermSpelt sc (Sign.closes ∷ w) ms
no-terms sc w ms done = terms {us = plain.Terms.nil} last-term refl

pub no-members : (l : Link) (s : Sort) (sc : Scope) (w : List Sign) (ms : List Mark) → Meants [] sc w ms → MembersRead l s sc zero w ms
no-members l s sc w ms done = members {es = []} no_more

pub numbered : (sc : Scope) (x : Name) (i : ℕ) (w : List Sign) (ms : List Mark) → number_of sc x ≡ some i → Meants [] sc w ms → TermRead sc (Sign.upper x ∷ w) ((headed (octets "v") ++ (Mark.string (decimal i) ∷ Mark.end ∷ [])) ++ ms)
numbered sc x i w ms e done = term {u = plain.Term.v i} spelled.TermSpelt.variable (ap (λ (o : Option ℕ). o >>= λ i. some (plain.Term.v i)) e)
