-- Candidates that are passed over do not do (document 02, Three: no verdict and no strip changes): an atom of the body that no clause at hand serves leaves the body without a proof, and a candidate with the term of a lower one fails with it.
use Prim.Native.Nat.{ℕ, zero, suc, ◌+◌, ◌-◌, ◌≤◌, ◌<◌}
use native.Mathlib.Omega.{arith}
use mathlib.Core.Path.{◌≡◌, refl, sym, ◌∙◌, ap, subst}
use mathlib.Core.Bool.{Bool, true, false, ◌&&◌, false≢true}
use mathlib.Core.List.{List}
use mathlib.Core.Logic.{◌⊎◌, inl, inr}
use mathlib.Core.Option.{some}
use lib.Dec.{eqb, ltb}
use lib.ListN.{length, get_or, get_elem?, drop}
use borrow.Author.Tests.{eqb-true, eqb-false, ltb-true, ltb-false}
use Rattle.basics.specs.Text.{octets}
use Rattle.harrop.specs.declared.Binding.TheVariants.{Candidate}
use Rattle.harrop.specs.Formula.{Term, Atom, Goal, Clause}
use Rattle.harrop.specs.Bindings.{Bindings, meant, value_of, replaced_atom, same_term}
use Rattle.harrop.specs.Place.{AtHand, Hand, Plain, listed}
use Rattle.harrop.proofs.ListLaws.{member_below}
use Rattle.harrop.proofs.SameLaws.{same-terms-equal, equal-terms-same}
use Rattle.std.specs.Prelude.{Option, Some, None}
use Rattle.sexp.specs.Past.{PastAt}
use Rattle.packet.specs.declared.Word.{Word}
use Rattle.packet.specs.declared.Word.TheVariants as W
use Rattle.reader.specs.WordAt.{WordAt}
use Rattle.packet.specs.Barred.{goal_ok}
use Rattle.room.specs.Layout.{rules_word, candidates_word}
use Rattle.room.specs.Where.{plus, within}
use Rattle.room.specs.Files.{Files}
use Rattle.room.specs.declared.Where.{Where}
use Rattle.equal.proofs.AtomLaws.{atom-at}
use Rattle.room.proofs.WhereLaws.{file-small}
use Rattle.mentions.specs.Open.{is_open, Becomes}
use Rattle.heads.specs.Heads.{goal_word}
use Rattle.heads.proofs.HeadLaws.{goal-says, goal-is, heads, first_part, first_found, second-found}
use Rattle.keys.specs.Keys.{PredicateKeyAt}
use Rattle.arguments.specs.Arguments.{ArgumentsAre, ArgumentsAt}
use Rattle.narrow.specs.Narrow.{Gives, Known, More, Adds, ByClause}
use Rattle.narrow.proofs.MarkLaws.{left-more}
use Rattle.proving.specs.Provable.{provable}
use Rattle.proving.specs.Stock.{Stock, Keeps}
use Rattle.proving.specs.Proving.{Ready}
use Rattle.proving.specs.Parts.{body_place}
use Rattle.proving.specs.Frames.{set_to, Completes}
use Rattle.proving.specs.Filling.{Filling, FillingWith, Fails}
use Rattle.narrowing.specs.Tried.{Given, Lacks, ServesNot, Narrows, NarrowsGoal, NarrowsAs, NarrowsKnown, Skips, NarrowsBody}
use Rattle.narrowing.proofs.RuleLaws.{none-serves, says_nothing}
use Rattle.proving.specs.declared.plain.Parts.{Parts}
use Rattle.proving.proofs.StockLaws.{keeps_same, keeps_then, keeps-less}
use Rattle.proving.proofs.ReadyLaws.{ready-part, ready-kept}
use Rattle.proving.proofs.ProvingLaws.{bytes_at, both_of}
use Rattle.proving.proofs.HeadlessLaws.{no-head-passes-not}
use Rattle.proving.proofs.AlikeLaws.{passes-alike}
use Rattle.proving.proofs.CompletesLaws.{open-below, set-open, becomes-less, becomes-value, set-alike, may-too, completes-becomes, completes-less, completes-swap}
use Rattle.proving.proofs.FillingLaws.{and_none, body-lacks}
use Rattle.proving.proofs.PlainLaws.{filling-body, frame-ends}
use Rattle.proving.proofs.SettleLaws.{no-stand-in}
use Rattle.proving.proofs.FillLaws.{one_more, EachLeft, each-miss}

-- marks that are added leave out fewer
given-more : {us : List Term} {own v : ℕ} {before after : List ℕ} {i : ℕ} {bs es : Bindings} → More before after → Given us own v after i bs es → Given us own v before i bs es
given-more M G = record { left = left-more M G.left; becomes = G.becomes; value = G.value }

pub more-from : {a b c : List ℕ} → b ≡ a → More b c → More a c
more-from {c = c} e M = subst (λ (m : List ℕ). More m c) e M

pub more_same : {a b c : List ℕ} → c ≡ b → More a b → More a c
more_same {a} e M = subst (More a) (sym e) M

module _ {f : Files} {room : List ℕ} {w : Where} {own v : ℕ} {marks : List ℕ} where
  -- nothing is said
  pub goal-nothing : (height : ℕ) → NarrowsGoal f room room w own v height marks false
  goal-nothing height ds us o c bs g rd = says_nothing room

  pub as-nothing : (word : Word) (left : ℕ) → NarrowsAs word f room room w own v left marks false
  as-nothing word left ds us o c bs g h rd = says_nothing room

  -- a goal by its word
  pub goal-word : {after : List ℕ} {r : Bool} (height : ℕ) (word k : Word) → (height ≡ 0 → ⊥) → WordAt (drop w.goal.at (bytes_at f w.goal)) 1 k → k ≡ word → NarrowsAs word f room after w own v (height - 1) marks r → NarrowsGoal f room after w own v height marks r
  goal-word {after} {r} height word k z q e n ds us o c bs g rd =
      let same : suc (height - 1) ≡ height = omega arith in
      subst (λ (m : ℕ). Ready f room ds us w m o c bs g → Narrows (Stock f ds us w.supposed c) w.supposed w.top room after r (Lacks us m o c own v marks bs g)) same
      (n ds us o c bs g (sym (goal-says (bytes_at f w.goal) w.goal.at g k rd.place.framed.stands q) ∙ e)) rd

  -- an `and` by its parts
  and_parts : {after : List ℕ} {r : Bool} (left : ℕ) (ds : List (Clause Plain)) (us : List Term) (o : List Plain) (c : Hand Plain) (bs : Bindings) (g : Goal Plain) → goal_word g ≡ W.And
      → ((x y : Goal Plain) → Ready f room ds us w (suc left) o c bs (Goal.and x y)
      → Narrows (Stock f ds us w.supposed c) w.supposed w.top room after r ((i : ℕ) (es : Bindings) → Given us own v marks i bs es → provable (listed us) left o c es x && provable (listed us) left o c es y ≡ false))
      → Ready f room ds us w (suc left) o c bs g → Narrows (Stock f ds us w.supposed c) w.supposed w.top room after r (Lacks us (suc left) o c own v marks bs g)
  unfolding provable
  and_parts {after} {r} left ds us o c bs g h parts =
      let (x, y, m) = goal-is g h in
      subst (λ (t : Goal Plain). Ready f room ds us w (suc left) o c bs t → Narrows (Stock f ds us w.supposed c) w.supposed w.top room after r (Lacks us (suc left) o c own v marks bs t)) (sym m) (parts x y)

  -- the first part says it
  pub and_first : {mid : List ℕ} {u : Where} {s : Bool} (left : ℕ) → u ≡ within w 6 → NarrowsGoal f room mid u own v left marks s → s ≡ true → NarrowsAs W.And f room mid w own v left marks true
  and_first {mid} {s = s} left e n z ds us o c bs g h = and_parts left ds us o c bs g h (λ x y r.
      let ok = both_of (goal_ok (length bs) x) (goal_ok (length bs) y) r.place.scoped in
      let part = ready-part r 6 x (first_part (octets "and") heads.0 r.place.framed.stands) (omega arith) ok.0 in
      let m = subst (λ (q : Where). NarrowsGoal f room mid q own v left marks s) e n ds us o c bs x part in
      record { kept = m.kept; told = λ t i es G. ap (λ (b : Bool). b && provable (listed us) left o c es y) (m.told z i es G) })

  -- there is always a second
  pub and-lost : {mid : List ℕ} {q : Option ℕ} (left : ℕ) → PastAt (drop w.goal.at (bytes_at f w.goal)) 6 64 q → q ≡ None → NarrowsAs W.And f room mid w own v left marks false
  and-lost left past e ds us o c bs g h = and_parts left ds us o c bs g h (λ x y r. absurd (first_found (octets "and") heads.0 r.place.framed.stands (omega (arith, r.place.framed.shallow)) past e))

  -- which says it if the first does not
  pub and_second : {mid after before : List ℕ} {u u' : Where} {q : Option ℕ} {j : ℕ} {s r : Bool} (left : ℕ) → u ≡ within w 6 → NarrowsGoal f room mid u own v left before s → length mid ≡ length room
      → PastAt (drop w.goal.at (bytes_at f w.goal)) 6 64 q → q ≡ Some j → u' ≡ within w j → NarrowsGoal f mid after u' own v left marks r → NarrowsAs W.And f room after w own v left marks r
  and_second {mid} {after} {before} {j = j} {s = s} {r = r} left e n long past next e' n' ds us o c bs g h = and_parts left ds us o c bs g h (λ x y rd.
      let ok = both_of (goal_ok (length bs) x) (goal_ok (length bs) y) rd.place.scoped in
      let part = ready-part rd 6 x (first_part (octets "and") heads.0 rd.place.framed.stands) (omega arith) ok.0 in
      let part' = ready-part rd j y (second-found (octets "and") heads.0 rd.place.framed.stands past next) (omega arith) ok.1 in
      let m = subst (λ (q : Where). NarrowsGoal f room mid q own v left before s) e n ds us o c bs x part in
      let m' = subst (λ (q : Where). NarrowsGoal f mid after q own v left marks r) e' n' ds us o c bs y (ready-kept m.kept long part') in
      record {
        kept = keeps_then room mid after (omega arith) (omega arith) m.kept m'.kept;
        told = λ t i es G. ap (λ (b : Bool). provable (listed us) left o c es x && b) (m'.told t i es G) ∙ and_none (provable (listed us) left o c es x);
      })

-- where the loop over the clauses is: what the place relies on is kept, and none of the first k serves
abbrev pub AtomLeft : Files → List ℕ → Where → ℕ → ℕ → ℕ → List ℕ → List ℕ → ℕ → Type 0
AtomLeft f room w own v left marks now k =
    (ds : List (Clause Plain)) (us : List Term) (o : List Plain) (c : Hand Plain) (bs : Bindings) (a : Atom) →
    Ready f room ds us w (suc left) o c bs (Goal.atom a) →
    Keeps (Stock f ds us w.supposed c) w.supposed w.top room now × ((j : ℕ) (h : AtHand Plain) → j < k → get_elem? c j ≡ some h → ServesNot us left o c own v marks bs a h)

module _ {f : Files} {room : List ℕ} {w : Where} {own v left : ℕ} where
  pub atom-start : {marks : List ℕ} → AtomLeft f room w own v left marks room 0
  atom-start ds us o c bs a rd = (keeps_same room, λ j h l. absurd (omega arith))

  -- the word of its arguments, which holds whatever of the room changes
  asked_of : {asked : ℕ} → ArgumentsAt f room w.goal own v asked → {ds : List (Clause Plain)} (us : List Term) {o : List Plain} {c : Hand Plain} (bs : Bindings) (a : Atom) → Ready f room ds us w (suc left) o c bs (Goal.atom a) → ArgumentsAre us own bs v a asked
  asked_of {asked} Q us bs a rd =
      subst (λ (x : Bindings). ArgumentsAre us own x v a asked) rd.place.framed.holds
      (Q us a (file-small rd.place.booked) rd.place.booked.candidates rd.stock.keys.candidates (atom-at a rd.place.framed rd.place.scoped))

  pub atom-next : {marks more now after : List ℕ} {predicate asked : ℕ} {r : Bool} (k : ℕ) → AtomLeft f room w own v left marks now k → length now ≡ length room → PredicateKeyAt f w.goal predicate → ArgumentsAt f room w.goal own v asked → NarrowsKnown f now after w own v predicate asked k left more r → r ≡ true → More marks more
      → AtomLeft f room w own v left more after (k + 1)
  atom-next {marks} {more} {now} {after} k inv long P Q call z M ds us o c bs a rd =
      let (kept, before) = inv ds us o c bs a rd in
      let n = call P ds us o c bs a (ready-kept kept long rd) (asked_of Q us bs a rd) in
      (keeps_then room now after (omega arith) (omega arith) kept n.kept, λ j h l m. go j h l m before (n.told z) (ltb j k) refl)
    where
      go : (j : ℕ) (h : AtHand Plain) → j < k + 1 → get_elem? c j ≡ some h → ((j : ℕ) (h : AtHand Plain) → j < k → get_elem? c j ≡ some h → ServesNot us left o c own v marks bs a h)
          → ((h : AtHand Plain) → get_elem? c k ≡ some h → ServesNot us left o c own v more bs a h) → (b : Bool) → ltb j k ≡ b → ServesNot us left o c own v more bs a h
      go j h l m before here true b = λ i es G. before j h (ltb-true j k b) m i es (given-more M G)
      go j h l m before here false b =
          let same : j ≡ k = omega (arith, ltb-false j k b, l) in
          here h (subst (λ (y : ℕ). get_elem? c y ≡ some h) same m)

  -- nothing is said of one
  pub atom-stops : {marks more now after : List ℕ} {predicate asked : ℕ} {r : Bool} (k : ℕ) → AtomLeft f room w own v left marks now k → length now ≡ length room → PredicateKeyAt f w.goal predicate → ArgumentsAt f room w.goal own v asked → NarrowsKnown f now after w own v predicate asked k left more r
      → NarrowsAs W.Atom f room after w own v left more false
  atom-stops {more = more} {now = now} {after = after} k inv long P Q call ds us o c bs g h =
      let (a, m) = goal-is g h in
      subst (λ (t : Goal Plain). Ready f room ds us w (suc left) o c bs t → Narrows (Stock f ds us w.supposed c) w.supposed w.top room after false (Lacks us (suc left) o c own v more bs t)) (sym m)
      (λ rd.
      let (kept, before) = inv ds us o c bs a rd in
      record { kept = keeps_then room now after (omega arith) (omega arith) kept (call P ds us o c bs a (ready-kept kept long rd) (asked_of Q us bs a rd)).kept; told = λ e. absurd (false≢true e) })

  -- or none of all serves
  pub atom-done : {marks now : List ℕ} (k n : ℕ) → n ≤ k → n ≡ plus (get_or room rules_word 0) w.supposed → AtomLeft f room w own v left marks now k → NarrowsAs W.Atom f room now w own v left marks true
  atom-done {marks} {now} k n l q inv ds us o c bs g h =
      let (a, m) = goal-is g h in
      subst (λ (t : Goal Plain). Ready f room ds us w (suc left) o c bs t → Narrows (Stock f ds us w.supposed c) w.supposed w.top room now true (Lacks us (suc left) o c own v marks bs t)) (sym m)
      (λ rd.
      let (kept, before) = inv ds us o c bs a rd in
      let all : length c ≤ k = omega (arith, l, q, rd.place.hand.number, rd.place.booked.rules.counted, rd.place.booked.rules.few, rd.enough.supposed) in
      record { kept = kept; told = λ e i es G. none-serves us left o c es a (λ j d y. before j d (omega (arith, all, member_below c j d y)) y i es G) })

  -- one clause, by its heads or by its body
  pub clause-heads : {marks after : List ℕ} {predicate asked k : ℕ} {r : Bool} → Adds marks after r (ByClause f room w.goal own v predicate asked after k) → r ≡ true → NarrowsKnown f room room w own v predicate asked k left after true
  clause-heads {after = after} {asked = asked} A z P ds us o c bs a rd Q =
      let known : Known f room ds us w.goal a = record { booked = rd.place.booked; keys = rd.stock.keys; heads = rd.stock.heads; arguments = rd.stock.arguments; atom = atom-at a rd.place.framed rd.place.scoped } in
      record {
        kept = keeps_same room;
        told = λ e h m i es G.
            let gives : Gives room us w.goal own v after i es = record { left = G.left; becomes = subst (λ (x : Bindings). Becomes us own x es) (sym rd.place.framed.holds) G.becomes; value = G.value } in
            no-head-passes-not (listed us) o (replaced_atom us es a) (λ g ds. provable (listed us) left o c ds g) h.clause h.bindings (A.told z P ds us a known (subst (λ (x : Bindings). ArgumentsAre us own x v a asked) (sym rd.place.framed.holds) Q) w.supposed w.top c rd.place.hand h m i es gives);
      }

-- a frame with a candidate for an open variable, completed: what was set is as it was, and the variable stands for the candidate
given : (us : List Term) (o : List Plain) (m v i : ℕ) (fr es : Bindings) → is_open m fr v ≡ true → (i ≡ 2147483647 → ⊥) → Completes us o m (set_to v (Candidate i) fr) es → Becomes us m fr es × (value_of us es v ≡ meant us (Candidate i))
given us o m v i fr es y n k =
    let b = completes-becomes us o m (set_to v (Candidate i) fr) es k in
    let (own, long) = open-below m fr v y in
    (subst (λ (x : Bindings). Becomes us m x es) (set-open m fr v y) (becomes-less us m v (Candidate i) fr es own long b), becomes-value us m v i fr es long n b)

module _ {f : Files} {room : List ℕ} {w : Where} {p : Parts} {left : ℕ} (v : ℕ) {marks : List ℕ} where
  pub body-nothing : NarrowsBody f room room w p v left marks false
  body-nothing ds us o c bs a e fr t y = says_nothing room

  -- the clause, by its body
  pub body-narrowed : {after : List ℕ} {u : Where} {r : Bool} → p.body ≡ true → u ≡ body_place w p → NarrowsGoal f room after u p.own v left marks r → NarrowsBody f room after w p v left marks r
  body-narrowed {after} {r = r} z e n ds us o c bs a d fr t y = go d t
    where
      go : (d : Clause Plain) → Filling f room ds us w p left o c bs a d fr → Narrows (Stock f ds us w.supposed c) w.supposed (p.head.base + p.head.count) room after r (Skips us left o c bs a d p.own v marks fr)
      go (Clause.atom_d b) t = absurd (false≢true (sym t.parts.0 ∙ z))
      go (Clause.imp_d g b) t =
          let m = subst (λ (q : Where). NarrowsGoal f room after q p.own v left marks r) e n ds us o c fr g (filling-body t) in
          let ends = (frame-ends t).1 in
          let high : p.head.base + p.head.count ≤ plus p.goal.base p.goal.count = omega (arith, t.parts.2.base, t.parts.2.count, ends) in
          record {
            kept = keeps-less room after (omega arith) high m.kept;
            told = λ x i L.
                (body-lacks us left o c bs a g b p.own (set_to v (Candidate i) fr) (λ es k.
                let (becomes, value) = given us o p.own v i fr es y (λ q. omega (arith, L.few, t.ready.place.booked.candidates.few)) k in
                m.told x i es (record { left = L; becomes = becomes; value = value }))
                ).no refl;
          }
      go (Clause.all_d q x) t = absurd t.parts
      go (Clause.and_d x x') t = absurd t.parts

-- a lower candidate with the same term, or none
lower : (us : List Term) (i k : ℕ) → ((j : ℕ) × (j < k) × (meant us (Candidate j) ≡ meant us (Candidate i))) ⊎ ((j : ℕ) → j < k → meant us (Candidate j) ≡ meant us (Candidate i) → ⊥)
lower us i zero = inr (λ j l. absurd (omega arith))
lower us i (suc k) = more (lower us i k) (same_term (meant us (Candidate k)) (meant us (Candidate i))) refl
  where
    more : ((j : ℕ) × (j < k) × (meant us (Candidate j) ≡ meant us (Candidate i))) ⊎ ((j : ℕ) → j < k → meant us (Candidate j) ≡ meant us (Candidate i) → ⊥)
        → (b : Bool) → same_term (meant us (Candidate k)) (meant us (Candidate i)) ≡ b
        → ((j : ℕ) × (j < suc k) × (meant us (Candidate j) ≡ meant us (Candidate i))) ⊎ ((j : ℕ) → j < suc k → meant us (Candidate j) ≡ meant us (Candidate i) → ⊥)
    more (inl (j, l, e)) b s = inl (j, omega arith, e)
    more (inr n) true s = inl (k, omega arith, same-terms-equal (meant us (Candidate k)) (meant us (Candidate i)) s)
    more (inr n) false s = inr (λ j l e. last j l e (eqb j k) refl)
      where
        last : (j : ℕ) → j < suc k → meant us (Candidate j) ≡ meant us (Candidate i) → (b : Bool) → eqb j k ≡ b → ⊥
        last j l e true q = false≢true (sym s ∙ equal-terms-same (meant us (Candidate k)) (meant us (Candidate i)) (ap (λ (h : ℕ). meant us (Candidate h)) (sym (eqb-true j k q)) ∙ e))
        last j l e false q = let d = eqb-false j k q in n j (omega arith) e

module _ {f : Files} {room : List ℕ} {ds : List (Clause Plain)} {us : List Term} {w : Where} {p : Parts} {left : ℕ} {o : List Plain} {c : Hand Plain} {bs : Bindings} {a : Atom} {e : Clause Plain} {fr : Bindings} (t : Filling f room ds us w p left o c bs a e fr) (v : ℕ) (y : is_open p.own fr v ≡ true) (i : ℕ) (l : i < length us) where
  -- fails with every candidate that has its term
  fails-alike : (j : ℕ) → meant us (Candidate j) ≡ meant us (Candidate i) → Fails us left o c bs a e p.own v j fr → Fails us left o c bs a e p.own v i fr
  fails-alike j q fails ok es k =
      let own = (open-below p.own fr v y).0 in
      let may = may-too us o i j (no-stand-in t.ready.place.booked.candidates) ok (sym q) in
      let value = (given us o p.own v i fr es y (λ z. omega (arith, l, t.ready.place.booked.candidates.few)) k).1 in
      passes-alike (listed us) left o c a bs e es (set_to v (Candidate j) es) (set-alike us v (Candidate j) es (value ∙ sym q))
      ∙ fails may (set_to v (Candidate j) es) (completes-swap us o p.own v j fr es own may (completes-less us o p.own v i fr es own ok k))

  -- so a candidate without a mark fails where all before it do
  pub unmarked-fails : {marks : List ℕ} → Skips us left o c bs a e p.own v marks fr → length us ≤ length marks → get_or marks i 0 ≡ 0 → ((j : ℕ) → j < i → Fails us left o c bs a e p.own v j fr) → Fails us left o c bs a e p.own v i fr
  unmarked-fails {marks} n long none before = go (lower us i i)
    where
      go : ((j : ℕ) × (j < i) × (meant us (Candidate j) ≡ meant us (Candidate i))) ⊎ ((j : ℕ) → j < i → meant us (Candidate j) ≡ meant us (Candidate i) → ⊥) → Fails us left o c bs a e p.own v i fr
      go (inl (j, h, q)) = fails-alike j q (before j h)
      go (inr first) = λ ok. n i (record { few = l; enough = long; unmarked = none; first = first })

-- the loop over candidates starts after the marks are found, and goes on past one without
module _ {f : Files} {room mid : List ℕ} {w : Where} {p : Parts} {left : ℕ} (v : ℕ) {marks : List ℕ} {r : Bool} (narrows : NarrowsBody f room mid w p v left marks r) where
  each_start : EachLeft f room w p v left mid 0
  each_start ds us o c bs a e fr t y above looked =
      let n = narrows ds us o c bs a e fr t y in
      (record { words = λ i l h. n.kept.words i l; stock = n.kept.stock }, λ j l. absurd (omega arith))

  each-skip : {now : List ℕ} (i n : ℕ) → i < n → n ≡ get_or room candidates_word 0 → EachLeft f room w p v left now i → r ≡ true → length marks ≡ 257 → get_or marks i 0 ≡ 0 → EachLeft f room w p v left now (i + 1)
  each-skip i n l q inv z many none ds us o c bs a e fr t y above looked =
      let (but, before) = inv ds us o c bs a e fr t y above looked in
      let known = t.ready.place.booked.candidates in
      let skips = (narrows ds us o c bs a e fr t y).told z in
      (but, one_more (λ j. Fails us left o c bs a e p.own v j fr) i before (unmarked-fails t v y i (omega (arith, l, q, known.counted)) skips (omega (arith, many, known.few)) none before))

-- the same of whatever room there was before the marks were found
abbrev pub EachFrom : Files → List ℕ → Where → Parts → ℕ → ℕ → List ℕ → Bool → ℕ → List ℕ → ℕ → Type 0
EachFrom f mid w p v left marks r n now i = (room : List ℕ) → NarrowsBody f room mid w p v left marks r → length mid ≡ length room → n ≡ get_or room candidates_word 0 → EachLeft f room w p v left now i

module _ {f : Files} {mid : List ℕ} {w : Where} {p : Parts} {left : ℕ} (v : ℕ) {marks : List ℕ} {r : Bool} (n : ℕ) where
  pub from_start : EachFrom f mid w p v left marks r n mid 0
  from_start room narrows e q = each_start v narrows

  pub from-skip : {now : List ℕ} (i : ℕ) → i < n → EachFrom f mid w p v left marks r n now i → r ≡ true → length marks ≡ 257 → get_or marks i 0 ≡ 0 → EachFrom f mid w p v left marks r n now (i + 1)
  from-skip i l inv z many none room narrows e q = each-skip v narrows i n l q (inv room narrows e q) z many none

  pub from-miss : {now after : List ℕ} {s : Bool} (i : ℕ) → i < n → EachFrom f mid w p v left marks r n now i → length now ≡ length mid → FillingWith f now after w p v i left s → s ≡ false → EachFrom f mid w p v left marks r n after (i + 1)
  from-miss i l inv long call z room narrows e q = each-miss v i n l q (inv room narrows e q) (long ∙ e) call z
