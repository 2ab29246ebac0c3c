-- The head of a clause beside the atom, one argument after the other: what each argument decides of the frame, and what the whole head decides (document 02, Three).
-- Each law ends in the contract of a function of src/matching.
use Prim.Native.Nat.{ℕ}
use native.Mathlib.Omega.{arith}
use mathlib.Core.Path.{◌≡◌, refl, sym, ◌∙◌, ap, subst}
use mathlib.Core.Bool.{Bool, true, false, ◌&&◌, false≢true}
use mathlib.Core.List.{List}
use mathlib.Core.Option.{some}
use lib.Dec.{ltb, leb, eqb}
use lib.ListN.{get_or, get_elem?, drop, set}
use Rattle.basics.specs.Choice.{both_true}
use Rattle.basics.specs.Tells.{Tells}
use Rattle.harrop.specs.declared.Binding.TheVariants.{Candidate}
use Rattle.harrop.specs.Formula.{Term, Atom, Clause}
use Rattle.harrop.specs.Bindings.{Bindings, nothing, meant, value_of, replaced, replaced_atom, same_term, same_atom}
use Rattle.harrop.specs.Place.{Hand, Plain}
use Rattle.harrop.proofs.ListLaws.{member_below}
use Rattle.harrop.proofs.SameLaws.{same-terms-equal, equal-terms-same}
use Rattle.std.specs.Prelude.{Option, Some, None}
use Rattle.sexp.specs.Past.{PastAt}
use Rattle.sexp.specs.WordsAt.{Shared}
use Rattle.packet.specs.Barred.{term_ok}
use Rattle.room.specs.Layout.{candidates_word, highest_word}
use Rattle.room.specs.Frame.{binding_word, held}
use Rattle.room.specs.Spot.{bindings_at}
use Rattle.room.specs.Table.{CandidatesIn}
use Rattle.room.specs.Where.{further}
use Rattle.room.specs.Files.{Files}
use Rattle.room.specs.declared.Spot.{Spot}
use Rattle.room.specs.declared.Where.{Where}
use Rattle.room.proofs.WhereLaws.{file-small}
use Rattle.equal.specs.Term.{TermAt, SameAtoms}
use Rattle.equal.proofs.AtomLaws.{same-there}
use Rattle.heads.specs.Predicate.{bytes_at}
use Rattle.mentions.specs.Open.{is_open, Becomes}
use Rattle.keys.proofs.WalkLaws.{candidate-meant}
use Rattle.unset.specs.Unset.{MayBe}
use Rattle.unset.specs.declared.Likeness.{Likeness}
use Rattle.unset.specs.declared.Likeness.TheVariants as L
use Rattle.unset.specs.Head.{LikeAs, Comparing, CandidateOf, CandidateAt, OpenAs, OpenAt}
use Rattle.unset.proofs.HeadLaws.{LeftAt, lowest-means, left-beside, left_end}
use Rattle.unset.proofs.HeadLaws as heads
use Rattle.unset.proofs.WholeLaws.{Enough, enough-start, enough-next, enough-end}
use Rattle.proving.specs.Stock.{Stock, Keeps}
use Rattle.proving.specs.Parts.{variable_word, head_of, with_head}
use Rattle.proving.specs.Proving.{passes}
use Rattle.proving.specs.Frames.{set_to}
use Rattle.proving.specs.Filling.{PartsIn, Filling, Fillable, Onward, is_never, is_same, Settled, Settling, Meeting, MayFit, Fits, floor}
use Rattle.proving.specs.Matching.{TermIs, at_end, Matching, MatchingVariable}
use Rattle.proving.specs.declared.plain.Parts.{Parts}
use Rattle.proving.proofs.StockLaws.{keeps_same, keeps_then}
use Rattle.proving.proofs.ReadyLaws.{may-be, allowed-below}
use Rattle.proving.proofs.PlainLaws.{head_in, frame_is, ready-atom, head-at, atom-there, write_keeps, filling-set, filling-compared}
use Rattle.proving.proofs.CompletesLaws.{open-below, set-open, becomes-less, becomes-value, completes-becomes}
use Rattle.proving.proofs.FirstLaws.{forcing-set}
use Rattle.proving.proofs.FillingLaws.{HeadOf, refuted, head-yes, head-differs, never-fills, forced-set, forced-barred, forced-never}

-- no candidate is `e` 0
pub no-stand-in : {room terms : List ℕ} {us : List Term} → CandidatesIn room terms us → (i : ℕ) (t : Term) → get_elem? us i ≡ some t → t ≡ nothing → ⊥
no-stand-in C i t e z = false≢true (subst (λ (u : Term). term_ok true 0 u ≡ true) z (C.closed i t e))

-- the clause's head
pub has-head : (f : Files) (room : List ℕ) (p : Parts) (e : Clause Plain) (fr : Bindings) → PartsIn f room p e fr → HeadOf e (head_of e)
has-head f room p (Clause.atom_d b) fr h = refl
has-head f room p (Clause.imp_d g b) fr h = refl
has-head f room p (Clause.all_d q d) fr h = absurd h
has-head f room p (Clause.and_d c d) fr h = absurd h

-- what is claimed of a frame
abbrev Claim : Files → List ℕ → List ℕ → List (Clause Plain) → List Term → Where → Parts → ℕ → List Plain → Hand Plain → Bindings → Atom → Clause Plain → Bindings → (Bindings → Type 0) → Likeness → Type 0
Claim f room after ds us w p left o c bs a e fr same r = Keeps (Stock f ds us w.supposed c) w.supposed (floor p) room after × Settled f after ds us w p left o c bs a e fr same r

-- what is known of it is something else
onward-as : {f : Files} {after : List ℕ} {ds : List (Clause Plain)} {us : List Term} {w : Where} {p : Parts} {left : ℕ} {o : List Plain} {c : Hand Plain} {bs : Bindings} {a : Atom} {e : Clause Plain} {fr : Bindings} {known other : Bindings → Type 0} (n : Onward f after ds us w p left o c bs a e fr known) → other n.frame → Onward f after ds us w p left o c bs a e fr other
onward-as n h = record { frame = n.frame; filling = n.filling; forcing = n.forcing; less = n.less; back = n.back; is = h }

module _ {f : Files} {room : List ℕ} {ds : List (Clause Plain)} {us : List Term} {w : Where} {p : Parts} {left : ℕ} {o : List Plain} {c : Hand Plain} {bs : Bindings} {a : Atom} {e : Clause Plain} {fr : Bindings} where
  -- nothing completes it
  denied : {now : List ℕ} {same : Bindings → Type 0} → Keeps (Stock f ds us w.supposed c) w.supposed (floor p) room now → Fillable us left o c bs a e p.own fr false → Claim f room now ds us w p left o c bs a e fr same L.Never
  denied k n = (k, record { yes = λ z. absurd (false≢true (sym z)); no = λ z. n })

  -- it stays as it is
  unmoved : {known : Bindings → Type 0} → Filling f room ds us w p left o c bs a e fr → known fr → Onward f room ds us w p left o c bs a e fr known
  unmoved t h = record { frame = fr; filling = t; forcing = λ around q. q; less = λ es q. q; back = λ s q. q; is = h }

  -- nothing is decided
  open-still : {same : Bindings → Type 0} → Filling f room ds us w p left o c bs a e fr → Claim f room room ds us w p left o c bs a e fr same L.Open
  open-still t = (keeps_same room, record { yes = λ z. unmoved t (λ q. absurd (false≢true q)); no = λ z. absurd (false≢true z) })

  -- one decides after the other
  module _ {now after : List ℕ} {known same : Bindings → Type 0} {r : Likeness} (k : Keeps (Stock f ds us w.supposed c) w.supposed (floor p) room now) (n : Onward f now ds us w p left o c bs a e fr known) (m : Claim f now after ds us w p left o c bs a e n.frame same r) where
    then-kept : Keeps (Stock f ds us w.supposed c) w.supposed (floor p) room after
    then-kept = keeps_then room now after (omega arith) (omega arith) k m.0

    then_never : {same' : Bindings → Type 0} → is_never r ≡ true → Claim f room after ds us w p left o c bs a e fr same' L.Never
    then_never z = denied then-kept (n.back false (m.1.no z))

    then-on : is_never r ≡ false → Onward f after ds us w p left o c bs a e fr (λ x. ((es : Bindings) → Becomes us p.own x es → Becomes us p.own n.frame es) × (is_same r ≡ true → same x))
    then-on z =
        let n' = m.1.yes z in
        record {
          frame = n'.frame;
          filling = n'.filling;
          forcing = λ around h. n'.forcing around (n.forcing around h);
          less = λ es h. n.less es (n'.less es h);
          back = λ s h. n.back s (n'.back s h);
          is = (n'.less, n'.is);
        }

  -- the head cannot become the atom
  head-no : Filling f room ds us w p left o c bs a e fr → p.headed ≡ true → {b : Bool} → MayBe f room p.head w.goal p.own b → b ≡ false → Fillable us left o c bs a e p.own fr false
  head-no t y h n =
      let q = t.ready.place in
      head-differs us left o c bs a e p.own fr (head_of e) (has-head f room p e fr t.parts) (λ ds' m.
      ap (λ (z : Bindings). same_atom (replaced_atom us ds' (head_of e)) (replaced_atom us z a)) (sym q.framed.holds)
      ∙ h us (head_of e) a (λ s. file-small q.booked s) q.booked.candidates (head-at t y) (atom-there t y) n ds' (subst (λ (z : Bindings). Becomes us p.own z ds') (sym (frame_is t)) m))

-- a variable that is unset, by the lowest candidate that is the atom's term
module _ {f : Files} {room : List ℕ} {w : Where} {p : Parts} {y : Spot} (v : ℕ) {z : Option ℕ} (C : CandidateAt f room y z) where
  told : {q : Option ℕ} {ds : List (Clause Plain)} {us : List Term} {left : ℕ} {o : List Plain} {c : Hand Plain} {bs : Bindings} {a : Atom} {e : Clause Plain} {fr : Bindings} {u : Term} → Filling f room ds us w p left o c bs a e fr → TermAt f y u → bindings_at room y ≡ bs → z ≡ q → CandidateOf us (replaced us bs u) q
  told {us = us} {u = u} t T b i =
      subst (CandidateOf us (replaced us _ u)) i
      (subst (λ (x : Bindings). CandidateOf us (replaced us x u) z) b (C us u t.ready.place.booked.candidates t.ready.stock.keys.candidates T))

  pub variable-never : z ≡ None → MatchingVariable f room room w p v y L.Never
  variable-never i ds us left o c bs a e fr u t n T b s =
      let none = told t T b i in
      denied (keeps_same room) (forced-never us left o c bs a e p.own fr v n (replaced us bs u) s (λ j m. none j (member_below us j (replaced us bs u) m) m))

  module _ (i : ℕ) (j : z ≡ Some i) where
    gives : {ds : List (Clause Plain)} {us : List Term} {left : ℕ} {o : List Plain} {c : Hand Plain} {bs : Bindings} {a : Atom} {e : Clause Plain} {fr : Bindings} {u : Term} → Filling f room ds us w p left o c bs a e fr → TermAt f y u → bindings_at room y ≡ bs → ((es : Bindings) → passes us left o c bs a e es ≡ true → value_of us es v ≡ replaced us bs u)
        → (es : Bindings) → passes us left o c bs a e es ≡ true → value_of us es v ≡ meant us (Candidate i)
    gives {us = us} {bs = bs} {u = u} t T b s es q = s es q ∙ candidate-meant us i (replaced us bs u) (told t T b j).0

    module _ {q : Bool} (g : q ≡ (ltb i (get_or room candidates_word 0) && leb (get_or room (highest_word i) 0) w.parameters)) where
      pub variable-barred : q ≡ false → MatchingVariable f room room w p v y L.Never
      variable-barred n ds us left o c bs a e fr u t k T b s =
          let place = t.ready.place in
          let barred = sym (may-be room f.terms us o tt i w.parameters place.booked.candidates place.openly) ∙ (sym g ∙ n) in
          denied (keeps_same room) (forced-barred us left o c bs a e p.own fr v k i (no-stand-in place.booked.candidates) (gives t T b s) barred)

      pub variable-set : {after : List ℕ} {x : ℕ} → q ≡ true → x ≡ variable_word p.head v → after ≡ set room x (held (binding_word (Candidate i))) → MatchingVariable f room after w p v y L.Same
      variable-set n x h =
          subst (λ (l : List ℕ). MatchingVariable f room l w p v y L.Same) (sym (h ∙ ap (λ (m : ℕ). set room m (held (binding_word (Candidate i)))) x))
          (λ ds us left o c bs a e fr u t k T b s.
          let place = t.ready.place in
          let may = sym (may-be room f.terms us o tt i w.parameters place.booked.candidates place.openly) ∙ (sym g ∙ n) in
          let few = allowed-below us o tt i may in
          let below = (open-below p.own fr v k).0 in
          let long = (open-below p.own fr v k).1 in
          let real : i ≡ 2147483647 → ⊥ = λ z. omega (arith, few, place.booked.candidates.few) in
          let here = told t T b j in (
            write_keeps t v (Candidate i) below,
            record {
              yes = λ m. record {
                frame = set_to v (Candidate i) fr;
                filling = filling-set t v (Candidate i) below (omega (arith, place.booked.candidates.few));
                forcing = λ around. forcing-set us o p.own (passes us left o c bs a e) v i below (record { may = may; lowest = lowest-means us (replaced us bs u) i here.0 here.1; only = gives t T b s });
                less = λ es h. subst (λ (x : Bindings). Becomes us p.own x es) (set-open p.own fr v k) (becomes-less us p.own v (Candidate i) fr es below long h);
                back = λ r. forced-set us left o c bs a e p.own fr v k i r (gives t T b s) may;
                is = λ q es h. equal-terms-same (value_of us es v) (replaced us bs u) (becomes-value us p.own v i fr es long real h ∙ sym (candidate-meant us i (replaced us bs u) here.0));
              };
              no = λ m. absurd (false≢true m);
            },
          ))

-- an argument of the head beside one of the atom
module _ {f : Files} {room : List ℕ} {w : Where} {p : Parts} {x y : Spot} where
  pub match-variable : {after : List ℕ} {q : Option ℕ} {v : ℕ} {r : Likeness} → OpenAt f room x p.own q → q ≡ Some v → MatchingVariable f room after w p v y r → Matching f room after w p x y r
  match-variable {after} {v = v} {r = r} O i M ds us left o c bs a e fr t u F B =
      let (is, n) = subst (OpenAs p.own (bindings_at room x) t) i (O t B.here) in
      subst (λ (z : Term). Claim f room after ds us w p left o c bs a e fr (TermIs us p.own bs z u) r) (sym is)
      (M ds us left o c bs a e fr u F (ap (λ (z : Bindings). is_open p.own z v) (sym B.frame) ∙ n) B.there B.around (λ es q. ap (replaced us es) (sym is) ∙ B.same es q))

  pub match-compared : (d : Likeness) → Comparing f room x y p.own d → Matching f room room w p x y d
  match-compared d D ds us left o c bs a e fr t u F B =
      go d
      (subst (λ (z : Bindings). LikeAs us p.own fr t (replaced us z u) d) B.around
      (subst (λ (z : Bindings). LikeAs us p.own z t (replaced us (bindings_at room y) u) d) B.frame (D us t u F.ready.place.booked.candidates B.here B.there)))
    where
      go : (d : Likeness) → LikeAs us p.own fr t (replaced us bs u) d → Claim f room room ds us w p left o c bs a e fr (TermIs us p.own bs t u) d
      go L.Open h = open-still F
      go L.Same h = (keeps_same room, record { yes = λ z. unmoved F (λ q. h); no = λ z. absurd (false≢true z) })
      go L.Never h =
          denied (keeps_same room) (never-fills us left o c bs a e p.own fr (λ es k. refuted (passes us left o c bs a e es) (λ q.
          false≢true (sym (h es (completes-becomes us o p.own fr es k)) ∙ equal-terms-same (replaced us es t) (replaced us bs u) (B.same es q)))))

-- what is settled before the offsets i and j of head and atom, where what is left of the arguments may make the head the atom; if all before were sure, it does so whatever the frame becomes
abbrev pub SettledTo : Files → List ℕ → List ℕ → Where → Parts → List ℕ → List ℕ → ℕ → ℕ → Bool → Type 0
SettledTo f room now w p s t i j sure =
    (ds : List (Clause Plain)) (us : List Term) (left : ℕ) (o : List Plain) (c : Hand Plain) (bs : Bindings) (a : Atom) (e : Clause Plain) (fr : Bindings) →
    Filling f room ds us w p left o c bs a e fr → p.headed ≡ true →
    Keeps (Stock f ds us w.supposed c) w.supposed (floor p) room now
    × Onward f now ds us w p left o c bs a e fr (λ x. sure ≡ true → Enough p.head w.goal s t us (head_of e) a bs (Becomes us p.own x) i j)

-- the whole head
module _ {f : Files} {room : List ℕ} {w : Where} {p : Parts} where
  -- nothing is said yet, or of what is settled so far
  pub settle-open : Settling f room room w p L.Open
  settle-open ds us left o c bs a e fr t y = open-still t

  pub settled-open : {now s t : List ℕ} {i j : ℕ} {sure : Bool} → SettledTo f room now w p s t i j sure → Settling f room now w p L.Open
  settled-open inv ds us left o c bs a e fr t y = let (k, n) = inv ds us left o c bs a e fr t y in (k, record { yes = λ z. onward-as n (λ q. absurd (false≢true q)); no = λ z. absurd (false≢true z) })

  -- head and atom as they stood say that it cannot be
  pub settle-never : {now : List ℕ} → Settling f room now w p L.Open → MayBe f room p.head w.goal p.own false → Settling f room now w p L.Never
  settle-never inv m ds us left o c bs a e fr t y = denied (inv ds us left o c bs a e fr t y).0 (head-no t y m refl)

  module _ {s t : List ℕ} (es : s ≡ drop p.head.at (bytes_at f p.head)) (et : t ≡ drop w.goal.at (bytes_at f w.goal)) where
    -- after the name
    pub settle-start : {r : Bool} {v : Option ℕ} {i : ℕ} → Tells r (Shared s 7 t 7) → r ≡ true → PastAt s 7 0 v → v ≡ Some i → SettledTo f room room w p s t i i true
    settle-start h n v z ds us left o c bs a e fr F y = (keeps_same room, unmoved F (λ q. enough-start f room p.head w.goal es et h n v z us (head_of e) a bs (Becomes us p.own fr) (head-at F y) (atom-there F y)))

    module _ {now : List ℕ} (i j : ℕ) (rest : LeftAt f room p.head w.goal s t i j) {sure : Bool} (inv : SettledTo f room now w p s t i j sure) where
      -- the next argument
      module _ {after : List ℕ} {x y : Spot} {g h : Bool} {r : Likeness} (ge : g ≡ eqb (get_or s i 0) 41) (gn : g ≡ false) (he : h ≡ eqb (get_or t j 0) 41) (hn : h ≡ false) (ex : x ≡ further p.head i) (ey : y ≡ further w.goal j) (M : Matching f now after w p x y r) where
        module _ {ds : List (Clause Plain)} {us : List Term} {left : ℕ} {o : List Plain} {c : Hand Plain} {bs : Bindings} {a : Atom} {e : Clause Plain} {fr : Bindings} (F : Filling f room ds us w p left o c bs a e fr) (k : p.headed ≡ true) where
          beside : heads.Beside f room p.head w.goal s t us (head_of e) a i j
          beside = let q = F.ready.place in left-beside f room p.head w.goal es et i j rest ge gn he hn us (head_of e) a (λ z. file-small q.booked z) q.booked.candidates (head-at F k) (atom-there F k)

          matched : Claim f now after ds us w p left o c bs a e (inv ds us left o c bs a e fr F k).1.frame (TermIs us p.own bs beside.u beside.w) r
          matched =
              let l = beside in
              let n = (inv ds us left o c bs a e fr F k).1 in
              let implied = subst (λ (z : Bindings). (ds : Bindings) → same_atom (replaced_atom us ds (head_of e)) (replaced_atom us z a) ≡ true → same_term (replaced us ds l.u) (replaced us z l.w) ≡ true) F.ready.place.framed.holds l.implied in
              let M' = subst (λ (z : Spot). Matching f now after w p (further p.head i) z r) ey (subst (λ (z : Spot). Matching f now after w p z y r) ex M) in
              M' ds us left o c bs a e n.frame l.u l.w n.filling (record {
                here = l.here;
                there = l.there;
                frame = frame_is n.filling;
                around = n.filling.ready.place.framed.holds;
                same = λ es h. same-terms-equal (replaced us es l.u) (replaced us bs l.w) (implied es (head-yes us left o c bs a e (head_of e) es (has-head f room p e fr F.parts) h));
              })

        pub settle-lost : is_never r ≡ true → Settling f room after w p L.Never
        settle-lost z ds us left o c bs a e fr F k = let (kept, n) = inv ds us left o c bs a e fr F k in then_never kept n (matched F k) z

        pub settle-stops : is_never r ≡ false → Settling f room after w p L.Open
        settle-stops z ds us left o c bs a e fr F k =
            let (kept, n) = inv ds us left o c bs a e fr F k in
            (then-kept kept n (matched F k), record { yes = λ q. onward-as (then-on kept n (matched F k) z) (λ q. absurd (false≢true q)); no = λ q. absurd (false≢true q) })

        pub settle-next : {b : Bool} {v v' : Option ℕ} {m m' : ℕ} → is_never r ≡ false → b ≡ (is_same r && sure) → v ≡ Some m → PastAt s i 64 v → v' ≡ Some m' → PastAt t j 64 v' → SettledTo f room after w p s t m m' b
        settle-next {b} z still v P u Q ds us left o c bs a e fr F k =
            let (kept, n) = inv ds us left o c bs a e fr F k in
            let n' = then-on kept n (matched F k) z in
            let both : b ≡ true → (is_same r ≡ true) × (sure ≡ true) = λ q. both_true (is_same r) sure (sym still ∙ q) in
            (then-kept kept n (matched F k), onward-as n' (λ q. enough-next f room p.head w.goal es et {us = us} {b = head_of e} {a = a} {bs = bs} {p = i} {q = j} {frames = Becomes us p.own n.frame} {fewer = Becomes us p.own n'.frame} (beside F k) (n.is (both q).1) n'.is.0 (n'.is.1 (both q).0) v P u Q))

      -- the end of the head
      pub settle-end : {g : Bool} (d : Bool) {r : Likeness} → g ≡ eqb (get_or s i 0) 41 → g ≡ true → d ≡ eqb (get_or t j 0) 41 → r ≡ at_end d sure → Settling f room now w p r
      settle-end {g} d ge gy de q = subst (Settling f room now w p) (sym q) (go d sure de inv)
        where
          go : (d sure : Bool) → d ≡ eqb (get_or t j 0) 41 → SettledTo f room now w p s t i j sure → Settling f room now w p (at_end d sure)
          go false sure de inv = settle-never (settled-open inv) (left_end f room p.head w.goal es et i j rest p.own ge gy de)
          go true false de inv = settled-open inv
          go true true de inv = λ ds us left o c bs a e fr F k.
              let (kept, n) = inv ds us left o c bs a e fr F k in
              let place = F.ready.place in (
                kept,
                record {
                  yes = λ z. onward-as n (λ y. enough-end f room p.head w.goal es et {us = us} {b = head_of e} {a = a} {bs = bs} {p = i} {q = j} {frames = Becomes us p.own n.frame} rest ge gy de refl (λ x. file-small place.booked x) place.booked.candidates (head-at F k) (atom-there F k) (n.is refl));
                  no = λ z. absurd (false≢true z);
                },
              )

-- with or without a head to compare: at first, while a variable is tried, and where all are set
module _ {f : Files} {room : List ℕ} {w : Where} {p : Parts} where
  pub meet-none : Meeting f room room w p (Some p)
  meet-none ds us left o c bs a e fr t h = (keeps_same room, (p.headed, refl, unmoved t h))

  module _ {after : List ℕ} {r : Likeness} (y : p.headed ≡ true) (m : Settling f room after w p r) where
    pub meet-never : r ≡ L.Never → Meeting f room after w p None
    meet-never z ds us left o c bs a e fr t h = let (k, n) = m ds us left o c bs a e fr t y in (k, n.no (ap is_never z))

    pub meet-open : r ≡ L.Open → Meeting f room after w p (Some p)
    meet-open z ds us left o c bs a e fr t h = let (k, n) = m ds us left o c bs a e fr t y in (k, (p.headed, refl, onward-as (n.yes (ap is_never z)) (λ q. absurd (false≢true (sym q ∙ y)))))

    pub meet-same : {q : Parts} → r ≡ L.Same → q ≡ with_head p false → Meeting f room after w p (Some q)
    meet-same z q ds us left o c bs a e fr t h =
        let (k, s) = m ds us left o c bs a e fr t y in
        let n = s.yes (ap is_never z) in
        (k, (false, q, record { frame = n.frame; filling = filling-compared n.filling; forcing = n.forcing; less = n.less; back = n.back; is = λ x. n.is (ap is_same z) }))

  pub may_none : MayFit f room w p true
  may_none ds us left o c bs a e fr t n = absurd (false≢true (sym n))

  pub may-head : {b : Bool} → p.headed ≡ true → MayBe f room p.head w.goal p.own b → MayFit f room w p b
  may-head y h ds us left o c bs a e fr t n = head-no t y h n

  pub fits-none : p.headed ≡ false → Fits f room w p true
  fits-none y ds us left o c bs a e fr t h = sym (h y fr (λ i q. refl))

  pub fits_head : {b : Bool} → p.headed ≡ true → SameAtoms f room p.head w.goal b → Fits f room w p b
  fits_head {b} y s ds us left o c bs a e fr t n =
      let h = head_in f room p e fr t.parts in
      let m = (ready-atom t y).place in
      same-there us (head_of e) a b s m.booked.candidates (h.framed y) (h.scoped y) m.framed m.scoped
