-- What dues write where the signs ahead are what they wait for: some number of steps does it. Due by due, and for dues one after another.
use Prim.Native.Nat.{ℕ, zero, suc, ◌+◌}
use mathlib.Core.Path.{◌≡◌, refl, ◌∙◌, ap, subst}
use mathlib.Core.Bool.{Bool, true}
use mathlib.Core.List.{List, [], ◌∷◌, ◌++◌}
use mathlib.Core.Option.{Option, none, some}
use Rattle.basics.specs.Choice.{◌>>=◌, maybe, provided}
use Rattle.basics.specs.Text.{octets}
use Rattle.harrop.specs.Formula.{Name}
use Rattle.sexp.specs.Decimal.{decimal}
use Rattle.sexp.specs.Words.{is_name}
use Rattle.fof_truth.specs.Numbered.{Scope, number_of}
use Rattle.fof_part.specs.Sign.{Sign, opens_code}
use Rattle.fof_part.specs.Mark.{Mark}
use Rattle.fof_part.specs.Due.{Sort, Link, Quantifier, Due, Chain, chain, did, by_chain, quantified, topped, taking, link_word, quantifier_word, headed, many_headed, due_at, run}
use Rattle.fof_part.proofs.RunLaws.{step_run, run_none, run-then}
use Rattle.fof_part.proofs.BecomesLaws.{Links, link_sign, Quantifies}

-- from these variables and signs on, the dues write these marks, and leave those variables and signs
pub record Writes (ds : List Due) (sc : Scope) (ss : List Sign) (ms : List Mark) (to : Scope) (r : List Sign) : Type 0 where
  pub steps : ℕ
  pub runs : run steps ds sc ss ≡ some (record { marks = ms; scope = to; rest = r })

pub writes-none : (sc : Scope) (ss : List Sign) → Writes [] sc ss [] sc ss
writes-none sc ss = record { steps = 0; runs = run_none 0 sc ss }

-- a due that has been done, and then what it left and the others
pub writes-step : {d : Due} {ds es : List Due} {sc to end : Scope} {ss r t : List Sign} {ms ns : List Mark} → due_at d sc ss ≡ did ms ds to r → Writes (ds ++ es) to r ns end t → Writes (d ∷ es) sc ss (ms ++ ns) end t
writes-step {d = d} {ds = ds} {es = es} {sc = sc} {to = to} {end = end} {ss = ss} {r = r} {t = t} {ms = ms} {ns = ns} e w = record {
  steps = suc w.steps;
  runs = step_run w.steps d es sc ss (record { marks = ms; dues = ds; scope = to; rest = r }) (record { marks = ns; scope = end; rest = t }) e w.runs;
}

-- dues one after another
pub writes_then : {ds es : List Due} {sc to end : Scope} {ss r t : List Sign} {ms ns : List Mark} → Writes ds sc ss ms to r → Writes es to r ns end t → Writes (ds ++ es) sc ss (ms ++ ns) end t
writes_then {ds = ds} {es = es} {sc = sc} {to = to} {end = end} {ss = ss} {r = r} {t = t} {ms = ms} {ns = ns} v w = record {
  steps = v.steps + w.steps;
  runs = run-then v.steps w.steps ds es sc ss (record { marks = ms; scope = to; rest = r }) (record { marks = ns; scope = end; rest = t }) v.runs w.runs;
}

-- the same of equal signs and marks
pub writes_as : {ds : List Due} {sc to : Scope} {ss ss' r : List Sign} {ms ms' : List Mark} → ss ≡ ss' → ms ≡ ms' → Writes ds sc ss ms to r → Writes ds sc ss' ms' to r
writes_as {ds = ds} {sc = sc} {to = to} {ss' = ss'} {r = r} {ms = ms} e f w = subst (λ (x : List Mark). Writes ds sc ss' x to r) f (subst (λ (x : List Sign). Writes ds sc x ms to r) e w)

-- terms and their lists
pub due-variable-term : (sc : Scope) (x : Name) (i : ℕ) (k : List Sign) → number_of sc x ≡ some i → due_at Due.term sc (Sign.upper x ∷ k) ≡ did (headed (octets "v") ++ (Mark.string (decimal i) ∷ Mark.end ∷ [])) [] sc k
unfolding due_at
due-variable-term sc x i k e = ap (λ (o : Option ℕ). o >>= λ j. did (headed (octets "v") ++ (Mark.string (decimal j) ∷ Mark.end ∷ [])) [] sc k) e

pub due-function : (sc : Scope) (g : Name) (k : List Sign) → is_name g ≡ true → due_at Due.term sc (Sign.lower g ∷ k) ≡ did (headed (octets "f") ++ (Mark.string g ∷ [])) (Due.arguments ∷ Due.shut ∷ []) sc k
unfolding due_at
due-function sc g k e = ap (λ (b : Bool). provided b (did (headed (octets "f") ++ (Mark.string g ∷ [])) (Due.arguments ∷ Due.shut ∷ []) sc k)) e

pub due-terms-end : (sc : Scope) (k : List Sign) → due_at Due.terms sc (Sign.closes ∷ k) ≡ did [] [] sc k
unfolding due_at
due-terms-end sc k = refl

pub due-terms-more : (sc : Scope) (k : List Sign) → due_at Due.terms sc (Sign.comma ∷ k) ≡ did [] (Due.term ∷ Due.terms ∷ []) sc k
unfolding due_at
due-terms-more sc k = refl

pub due-arguments : (sc : Scope) (k : List Sign) → due_at Due.arguments sc (Sign.opens ∷ k) ≡ did [] (Due.term ∷ Due.terms ∷ []) sc k
unfolding due_at
due-arguments sc k = refl

pub due-no-arguments : (sc : Scope) (k : List Sign) → taking opens_code k ≡ none → due_at Due.arguments sc k ≡ did [] [] sc k
unfolding due_at
due-no-arguments sc k e = ap (λ (o : Option (List Sign)). maybe o (did [] [] sc k) λ r. did [] (Due.term ∷ Due.terms ∷ []) sc r) e

pub due-shut : (sc : Scope) (k : List Sign) → due_at Due.shut sc k ≡ did (Mark.end ∷ []) [] sc k
unfolding due_at
due-shut sc k = refl

-- units
pub due-atom : (s : Sort) (sc : Scope) (p : Name) (k : List Sign) → is_name p ≡ true → due_at (Due.unit s) sc (Sign.lower p ∷ k) ≡ did (headed (octets "atom") ++ (Mark.string p ∷ [])) (Due.arguments ∷ Due.shut ∷ []) sc k
unfolding due_at
due-atom s sc p k e = ap (λ (b : Bool). provided b (did (headed (octets "atom") ++ (Mark.string p ∷ [])) (Due.arguments ∷ Due.shut ∷ []) sc k)) e

pub due-parens : (s : Sort) (sc : Scope) (k : List Sign) → due_at (Due.unit s) sc (Sign.opens ∷ k) ≡ did [] (Due.formula s ∷ Due.close ∷ []) sc k
unfolding due_at
due-parens s sc k = refl

pub due-close : (sc : Scope) (k : List Sign) → due_at Due.close sc (Sign.closes ∷ k) ≡ did [] [] sc k
unfolding due_at
due-close sc k = refl

-- quantifiers
quantifies-did : (q : Quantifier) (s : Sort) (sc : Scope) (k : List Sign) → Quantifies q s → quantified q s sc k ≡ did [] (Due.list q s ∷ []) sc k
quantifies-did Quantifier.for_all Sort.goal sc k a = refl
quantifies-did Quantifier.exists Sort.goal sc k a = refl
quantifies-did Quantifier.for_all Sort.clause sc k a = refl
quantifies-did Quantifier.exists Sort.clause sc k a = absurd a
quantifies-did Quantifier.for_all Sort.head sc k a = absurd a
quantifies-did Quantifier.exists Sort.head sc k a = absurd a

abbrev pub quantifier_sign : Quantifier → Sign
quantifier_sign Quantifier.for_all = Sign.every
quantifier_sign Quantifier.exists = Sign.exist

pub due-quantifier : (q : Quantifier) (s : Sort) (sc : Scope) (k : List Sign) → Quantifies q s → due_at (Due.unit s) sc (quantifier_sign q ∷ k) ≡ did [] (Due.list q s ∷ []) sc k
unfolding due_at
due-quantifier Quantifier.for_all s sc k a = quantifies-did Quantifier.for_all s sc k a
due-quantifier Quantifier.exists s sc k a = quantifies-did Quantifier.exists s sc k a

pub due-list : (q : Quantifier) (s : Sort) (sc : Scope) (k : List Sign) → due_at (Due.list q s) sc (Sign.lists ∷ k) ≡ did [] (Due.variable q s ∷ []) sc k
unfolding due_at
due-list q s sc k = refl

pub due-variable : (q : Quantifier) (s : Sort) (sc : Scope) (x : Name) (k : List Sign) → due_at (Due.variable q s) sc (Sign.upper x ∷ k) ≡ did (headed (quantifier_word q)) (Due.behind q s ∷ Due.leave ∷ []) (x ∷ sc) k
unfolding due_at
due-variable q s sc x k = refl

pub due-behind-more : (q : Quantifier) (s : Sort) (sc : Scope) (k : List Sign) → due_at (Due.behind q s) sc (Sign.comma ∷ k) ≡ did [] (Due.variable q s ∷ []) sc k
unfolding due_at
due-behind-more q s sc k = refl

pub due-behind-end : (q : Quantifier) (s : Sort) (sc : Scope) (k : List Sign) → due_at (Due.behind q s) sc (Sign.ends ∷ k) ≡ did [] (Due.over s ∷ []) sc k
unfolding due_at
due-behind-end q s sc k = refl

pub due-over : (s : Sort) (sc : Scope) (k : List Sign) → due_at (Due.over s) sc (Sign.colon ∷ k) ≡ did [] (Due.unit s ∷ []) sc k
unfolding due_at
due-over s sc k = refl

pub due-leave : (sc : Scope) (x : Name) (k : List Sign) → due_at Due.leave (x ∷ sc) k ≡ did (Mark.end ∷ []) [] sc k
unfolding due_at
due-leave sc x k = refl

-- formulas, by their chain
by-lone : (s : Sort) (sc : Scope) (ss : List Sign) → by_chain s Chain.lone sc ss ≡ did [] (Due.unit s ∷ []) sc ss
by-lone Sort.goal sc ss = refl
by-lone Sort.clause sc ss = refl
by-lone Sort.head sc ss = refl

by-linked : (l : Link) (s : Sort) (n : ℕ) (sc : Scope) (ss : List Sign) → Links l s → by_chain s (Chain.linked l n) sc ss ≡ did (many_headed (link_word l) n) (Due.unit s ∷ Due.more l s n ∷ []) sc ss
by-linked Link.conj Sort.goal n sc ss a = refl
by-linked Link.disj Sort.goal n sc ss a = refl
by-linked Link.conj Sort.clause n sc ss a = refl
by-linked Link.disj Sort.clause n sc ss a = absurd a
by-linked Link.conj Sort.head n sc ss a = absurd a
by-linked Link.disj Sort.head n sc ss a = absurd a

pub due-chain : (s : Sort) (sc : Scope) (ss : List Sign) (c : Chain) → chain 0 ss ≡ c → due_at (Due.formula s) sc ss ≡ by_chain s c sc ss
unfolding due_at
due-chain s sc ss c e = ap (λ (x : Chain). by_chain s x sc ss) e

pub due-lone : (s : Sort) (sc : Scope) (ss : List Sign) → chain 0 ss ≡ Chain.lone → due_at (Due.formula s) sc ss ≡ did [] (Due.unit s ∷ []) sc ss
due-lone s sc ss e = due-chain s sc ss Chain.lone e ∙ by-lone s sc ss

pub due-linked : (l : Link) (s : Sort) (n : ℕ) (sc : Scope) (ss : List Sign) → Links l s → chain 0 ss ≡ Chain.linked l n → due_at (Due.formula s) sc ss ≡ did (many_headed (link_word l) n) (Due.unit s ∷ Due.more l s n ∷ []) sc ss
due-linked l s n sc ss a e = due-chain s sc ss (Chain.linked l n) e ∙ by-linked l s n sc ss a

pub due-more : (l : Link) (s : Sort) (n : ℕ) (sc : Scope) (k : List Sign) → due_at (Due.more l s (suc n)) sc (link_sign l ∷ k) ≡ did [] (Due.unit s ∷ Due.shut ∷ Due.more l s n ∷ []) sc k
unfolding due_at
due-more Link.conj s n sc k = refl
due-more Link.disj s n sc k = refl

pub due-no-more : (l : Link) (s : Sort) (sc : Scope) (k : List Sign) → due_at (Due.more l s zero) sc k ≡ did [] [] sc k
unfolding due_at
due-no-more l s sc k = refl

pub due-arrow : (sc : Scope) (k : List Sign) → due_at Due.arrow sc (Sign.then ∷ k) ≡ did [] [] sc k
unfolding due_at
due-arrow sc k = refl

pub due-true : (s : Sort) (sc : Scope) (k : List Sign) → due_at (Due.unit s) sc (Sign.truth ∷ k) ≡ topped s sc k
unfolding due_at
due-true s sc k = refl
