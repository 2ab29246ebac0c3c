-- Whether two atoms have the same predicate, and which heads a clause has: from what is read of the bytes to the answer (document 02, Three).
use Prim.Native.Nat.{ℕ, suc, ◌+◌, ◌-◌, ◌≤◌, ◌<◌}
use mathlib.Core.Path.{◌≡◌, refl, sym, ◌∙◌, ap, ap₂, subst}
use mathlib.Core.Bool.{Bool, true, false, ◌&&◌, ◌||◌}
use mathlib.Core.List.{List}
use native.Mathlib.Omega.{arith}
use lib.Dec.{eqb}
use lib.ListN.{length, get_or, drop}
use borrow.Author.Tests.{eq-eqb, ne_eqb, eqb-true, eqb-false}
use Rattle.basics.specs.Tells.{Tells, told-yes, told-no}
use Rattle.basics.specs.Text.{octets}
use Rattle.harrop.specs.Formula.{Name, Terms, Atom, Goal, Clause}
use Rattle.harrop.specs.Bindings.{same_name}
use Rattle.harrop.specs.Place.{Plain}
use Rattle.harrop.proofs.SameLaws.{equal-names-same}
use Rattle.std.specs.Prelude.{Option, Some, None}
use Rattle.sexp.specs.Sexp.{Sexp, Sexps, str, nil, cons, spell, Stands, StandsAll, nesting, nestings}
use Rattle.sexp.specs.Past.{PastAt}
use Rattle.sexp.specs.WordsAt.{Shared}
use Rattle.sexp.proofs.AnswerLaws.{past_next, past-nothing}
use Rattle.sexp.proofs.StandLaws.{stands-once, first-stands, others-stand, none-closes, no-closing}
use Rattle.packet.specs.declared.Word.{Word}
use Rattle.packet.specs.declared.Word.TheVariants as W
use Rattle.reader.specs.WordAt.{WordAt}
use Rattle.packet.specs.declared.Kind.TheVariants as K
use Rattle.rows.specs.Rows.{row_of}
use Rattle.packet.specs.Table.{due_after}
use Rattle.packet.specs.Written.{term_sexps, atom_sexp, clause_sexp}
use Rattle.room.specs.Where.{plus, further}
use Rattle.room.specs.Files.{Files}
use Rattle.room.specs.declared.Spot.{Spot}
use Rattle.room.proofs.NestLaws.{clause-nests}
use Rattle.equal.proofs.TermLaws.{atom-text, atom-rest, text-once, names-differ}
use Rattle.room.proofs.WhereLaws.{plus-inside}
use Rattle.heads.specs.Predicate.{arguments, same_predicate, has_head, many, SameNumber, SamePredicate, bytes_at, AtomThere, ClauseThere, SameThere, HasHead, HasHeadAs}
use Rattle.heads.proofs.HeadLaws.{part-stands, clause-says, clause-is, clause-has-row, heads, first_part, second-found, first_found}

-- one more on both sides
same_next : (a b : ℕ) → eqb (suc a) (suc b) ≡ eqb a b
same_next a b = go (eqb a b) refl
  where
    go : (t : Bool) → eqb a b ≡ t → eqb (suc a) (suc b) ≡ t
    go true e = eq-eqb (suc a) (suc b) (ap suc (eqb-true a b e))
    go false e = ne_eqb (suc a) (suc b) (λ z. eqb-false a b e (omega arith))

-- what is left of two rows, at the offsets p and q
pub record Left (s t : List ℕ) (p q : ℕ) (xs ys : Sexps) : Type 0 where
  pub one : Sexps
  pub two : Sexps
  pub here : StandsAll s p one
  pub there : StandsAll t q two
  pub flat : nestings one ≤ 64
  pub flat' : nestings two ≤ 64
  pub decides : eqb (many xs) (many ys) ≡ eqb (many one) (many two)

abbrev pub LeftAt : List ℕ → List ℕ → ℕ → ℕ → ℕ → ℕ → Type 0
LeftAt s t i j p q =
    (xs ys : Sexps) → StandsAll s i xs → nestings xs ≤ 64 → StandsAll t j ys → nestings ys ≤ 64 → Left s t p q xs ys

pub left-start : (s t : List ℕ) (i j : ℕ) → LeftAt s t i j i j
left-start s t i j xs ys X n Y m = record { one = xs; two = ys; here = X; there = Y; flat = n; flat' = m; decides = refl }

module _ (s t : List ℕ) (i j p q : ℕ) (L : LeftAt s t i j p q) where
  shut : (l : List ℕ) (k : ℕ) {r : Bool} → r ≡ eqb (get_or l k 0) 41 → r ≡ true → get_or l k 0 ≡ 41
  shut l k e h = eqb-true (get_or l k 0) 41 (sym e ∙ h)

  going : (l : List ℕ) (k : ℕ) {r : Bool} → r ≡ eqb (get_or l k 0) 41 → r ≡ false → get_or l k 0 ≡ 41 → ⊥
  going l k e h z = eqb-false (get_or l k 0) 41 (sym e ∙ h) z

  -- the first row is at its end: so must the second be
  pub left_end : {c d : Bool} → c ≡ eqb (get_or s p 0) 41 → c ≡ true → d ≡ eqb (get_or t q 0) 41 → SameNumber s t i j d
  left_end {c} {d} e h f xs ys X n Y m = let l = L xs ys X n Y m in go l.one l.two l.here l.there d refl ∙ sym l.decides
    where
      go : (one two : Sexps) → StandsAll s p one → StandsAll t q two → (b : Bool) → d ≡ b → d ≡ eqb (many one) (many two)
      go (cons x one) two X Y b g = absurd (no-closing (first-stands X) (shut s p e h))
      go nil nil X Y true g = g
      go nil nil X Y false g = absurd (going t q f g (none-closes Y))
      go nil (cons y two) X Y true g = absurd (no-closing (first-stands Y) (shut t q f g))
      go nil (cons y two) X Y false g = g ∙ sym (ne_eqb 0 (suc (many two)) (λ z. absurd (omega arith)))

  -- the second is at its end, and the first is not
  pub left-short : {c d : Bool} → c ≡ eqb (get_or s p 0) 41 → c ≡ false → d ≡ eqb (get_or t q 0) 41 → d ≡ true → SameNumber s t i j false
  left-short {c} {d} e h f g xs ys X n Y m = let l = L xs ys X n Y m in go l.one l.two l.here l.there ∙ sym l.decides
    where
      go : (one two : Sexps) → StandsAll s p one → StandsAll t q two → false ≡ eqb (many one) (many two)
      go nil two X Y = absurd (going s p e h (none-closes X))
      go (cons x one) nil X Y = sym (ne_eqb (suc (many one)) 0 (λ z. absurd (omega arith)))
      go (cons x one) (cons y two) X Y = absurd (no-closing (first-stands Y) (shut t q f g))

  -- neither is: a member stands at each
  record Firsts (xs ys : Sexps) : Type 0 where
    pub x : Sexp
    pub y : Sexp
    pub one : Sexps
    pub two : Sexps
    pub here : StandsAll s p (cons x one)
    pub there : StandsAll t q (cons y two)
    pub flat : nestings (cons x one) ≤ 64
    pub flat' : nestings (cons y two) ≤ 64
    pub decides : eqb (many xs) (many ys) ≡ eqb (many (cons x one)) (many (cons y two))

  firsts : {c d : Bool} → c ≡ eqb (get_or s p 0) 41 → c ≡ false → d ≡ eqb (get_or t q 0) 41 → d ≡ false → (xs ys : Sexps) → Left s t p q xs ys → Firsts xs ys
  firsts {c} {d} e h f g xs ys l = go l.one l.two l.here l.there l.flat l.flat' l.decides
    where
      go : (one two : Sexps) → StandsAll s p one → StandsAll t q two → nestings one ≤ 64 → nestings two ≤ 64 → eqb (many xs) (many ys) ≡ eqb (many one) (many two) → Firsts xs ys
      go nil two X Y n m k = absurd (going s p e h (none-closes X))
      go (cons x one) nil X Y n m k = absurd (going t q f g (none-closes Y))
      go (cons x one) (cons y two) X Y n m k = record { x = x; y = y; one = one; two = two; here = X; there = Y; flat = n; flat' = m; decides = k }

  module _ {c d : Bool} (e : c ≡ eqb (get_or s p 0) 41) (h : c ≡ false) (f : d ≡ eqb (get_or t q 0) 41) (g : d ≡ false) where
    -- it is gone past
    pub left-lost : {a : Option ℕ} → a ≡ None → PastAt s p 64 a → SameNumber s t i j false
    left-lost z a xs ys X n Y m = let F = firsts e h f g xs ys (L xs ys X n Y m) in absurd (past-nothing z a F.x (first-stands F.here) (omega (arith, F.flat)))

    pub left-lost-too : {a : Option ℕ} → a ≡ None → PastAt t q 64 a → SameNumber s t i j false
    left-lost-too z a xs ys X n Y m = let F = firsts e h f g xs ys (L xs ys X n Y m) in absurd (past-nothing z a F.y (first-stands F.there) (omega (arith, F.flat')))

    pub left-next : {a b : Option ℕ} {u v : ℕ} → a ≡ Some u → PastAt s p 64 a → b ≡ Some v → PastAt t q 64 b → LeftAt s t i j u v
    left-next {u = u} {v = v} k a l b xs ys X n Y m =
        let F = firsts e h f g xs ys (L xs ys X n Y m) in
        let E = past_next k a in
        let G = past_next l b in
        let uu = E.ends ∙ ap (λ (z : Sexp). p + length (spell z)) (stands-once E.stands (first-stands F.here)) in
        let vv = G.ends ∙ ap (λ (z : Sexp). q + length (spell z)) (stands-once G.stands (first-stands F.there)) in
        record {
          one = F.one;
          two = F.two;
          here = subst (λ (z : ℕ). StandsAll s z F.one) (sym uu) (others-stand F.here);
          there = subst (λ (z : ℕ). StandsAll t z F.two) (sym vv) (others-stand F.there);
          flat = omega (arith, F.flat);
          flat' = omega (arith, F.flat');
          decides = F.decides ∙ same_next (many F.one) (many F.two);
        }

-- an atom's arguments in its bytes
arguments-many : (ts : Terms) → many (term_sexps ts) ≡ arguments ts
arguments-many Terms.nil = refl
arguments-many (Terms.cons t ts) = ap suc (arguments-many ts)

module _ (s t : List ℕ) where
  -- another name
  pub named-otherwise : {r : Bool} → Tells r (Shared s 7 t 7) → r ≡ false → SamePredicate s t false
  unfolding same_predicate
  named-otherwise {r} h e (Atom.atom n ts) (Atom.atom m us) X l Y k =
      let d : n ≡ m → ⊥ = λ z. told-no e h (record { octets = n; here = atom-text n ts X; there = subst (λ (w : List ℕ). Stands t 7 (str w)) (sym z) (atom-text m us Y) }) in
      ap (λ (b : Bool). b && eqb (arguments ts) (arguments us)) (sym (names-differ n m d))

  -- a name stands there, so it is gone past
  pub name-lost : {q : Option ℕ} → PastAt s 7 0 q → q ≡ None → SamePredicate s t false
  name-lost p e (Atom.atom n ts) (Atom.atom m us) X l Y k = absurd (past-nothing e p (str n) (atom-text n ts X) (omega arith))

  pub name-lost-too : {q : Option ℕ} → PastAt t 7 0 q → q ≡ None → SamePredicate s t false
  name-lost-too p e (Atom.atom n ts) (Atom.atom m us) X l Y k = absurd (past-nothing e p (str m) (atom-text m us Y) (omega arith))

  -- the same name: the arguments decide
  pub named-alike : {r b : Bool} {q q' : Option ℕ} {u v : ℕ} → Tells r (Shared s 7 t 7) → r ≡ true → PastAt s 7 0 q → q ≡ Some u → PastAt t 7 0 q' → q' ≡ Some v → SameNumber s t u v b → SamePredicate s t b
  unfolding same_predicate
  named-alike {r} {b} {u = u} {v = v} h e p k p' k' N (Atom.atom n ts) (Atom.atom m us) X l Y o =
      let yes = told-yes e h in
      let i = text-once yes.here (atom-text n ts X) in
      let j = text-once yes.there (atom-text m us Y) in
      let E = past_next k p in
      let G = past_next k' p' in
      let uu = E.ends ∙ ap (λ (z : Sexp). 7 + length (spell z)) (stands-once E.stands (atom-text n ts X)) in
      let vv = G.ends ∙ ap (λ (z : Sexp). 7 + length (spell z)) (stands-once G.stands (atom-text m us Y)) in
      N (term_sexps ts) (term_sexps us) (subst (λ (z : ℕ). StandsAll s z (term_sexps ts)) (sym uu) (atom-rest n ts X)) (omega arith) (subst (λ (z : ℕ). StandsAll t z (term_sexps us)) (sym vv) (atom-rest m us Y)) (omega arith)
      ∙ ap₂ eqb (arguments-many ts) (arguments-many us)
      ∙ ap (λ (c : Bool). c && eqb (arguments ts) (arguments us)) (sym (equal-names-same n m (sym i ∙ j)))

-- the atoms at two spots
pub same-there : (f : Files) (x y : Spot) {s t : List ℕ} (r : Bool) → s ≡ drop x.at (bytes_at f x) → t ≡ drop y.at (bytes_at f y) → SamePredicate s t r → SameThere f x y r
same-there f x y {s} {t} r e h p a b X Y =
    p a b (subst (λ (l : List ℕ). Stands l 0 (atom_sexp a)) (sym e) (part-stands X.stands)) X.shallow (subst (λ (l : List ℕ). Stands l 0 (atom_sexp b)) (sym h) (part-stands Y.stands)) Y.shallow

-- what is claimed of a clause
abbrev Claim : Files → Spot → Spot → ℕ → Bool → Clause Plain → Type 0
Claim f x y nest r d = (a : Atom) → nesting (clause_sexp d) ≤ nest → ClauseThere f x d → AtomThere f y a → r ≡ has_head d a

-- a part of a clause
clause-part : {f : Files} {x : Spot} {d : Clause Plain} (n : ℕ) (d' : Clause Plain) → ClauseThere f x d → Stands (bytes_at f x) (x.at + n) (clause_sexp d') → nesting (clause_sexp d') ≤ nesting (clause_sexp d) → ClauseThere f (further x n) d'
clause-part {f} {x} n d' c h l =
    record {
      stands = subst (λ (i : ℕ). Stands (bytes_at f x) i (clause_sexp d')) (sym (plus-inside (bytes_at f x) x.at n c.small h)) h;
      shallow = omega (arith, c.shallow);
      small = c.small;
    }

module _ {f : Files} {x y : Spot} where
  -- a clause is a list
  pub no-nest : (nest : ℕ) → nest ≡ 0 → HasHead f x y nest false
  no-nest nest e d a l c t = absurd (omega (arith, clause-nests d))

  pub by_word : {r : Bool} (nest : ℕ) (word k : Word) → (nest ≡ 0 → ⊥) → WordAt (drop x.at (bytes_at f x)) 1 k → k ≡ word → HasHeadAs word f x y (nest - 1) r → HasHead f x y nest r
  by_word nest word k z q e p d a l c t = p d a (sym (clause-says (bytes_at f x) x.at d k c.stands q) ∙ e) (omega arith) c t

  pub by-other : (nest : ℕ) (k : Word) → WordAt (drop x.at (bytes_at f x)) 1 k → None ≡ row_of (due_after K.Clause k) → HasHead f x y nest false
  by-other nest k q n d a l c t = absurd (clause-has-row d k (clause-says (bytes_at f x) x.at d k c.stands q) n)

  module _ (nest : ℕ) where
    pub atom-head : {r : Bool} → SameThere f x y r → HasHeadAs W.Atom f x y nest r
    unfolding has_head
    atom-head {r} p d a h =
        let (b, n) = clause-is d h in
        subst (λ (z : Clause Plain). Claim f x y (suc nest) r z) (sym n) (λ a l c t. p b a (record { stands = c.stands; shallow = c.shallow }) t) a

    pub imp-lost : {q : Option ℕ} → PastAt (drop x.at (bytes_at f x)) 6 64 q → q ≡ None → HasHeadAs W.Imp f x y nest false
    imp-lost p e d a h =
        let (g, b, n) = clause-is d h in
        subst (λ (z : Clause Plain). Claim f x y (suc nest) false z) (sym n) (λ a l c t. absurd (first_found (octets "imp") heads.1.1.1.1 c.stands (omega (arith, c.shallow)) p e)) a

    pub imp_head : {q : Option ℕ} {n : ℕ} {z : Spot} {r : Bool} → PastAt (drop x.at (bytes_at f x)) 6 64 q → q ≡ Some n → z ≡ further x n → SameThere f z y r → HasHeadAs W.Imp f x y nest r
    unfolding has_head
    imp_head {n = n} {r = r} p e i k d a h =
        let (g, b, u) = clause-is d h in
        subst (λ (w : Clause Plain). Claim f x y (suc nest) r w) (sym u)
        (λ a l c t.
        let st = second-found (octets "imp") heads.1.1.1.1 c.stands p e in
        subst (λ (s : Spot). SameThere f s y r) i k b a (record { stands = subst (λ (j : ℕ). Stands (bytes_at f x) j (atom_sexp b)) (sym (plus-inside (bytes_at f x) x.at n c.small st)) st; shallow = omega (arith, c.shallow) }) t)
        a

    pub all_head : {z : Spot} {r : Bool} → z ≡ further x 6 → HasHead f z y nest r → HasHeadAs W.All f x y nest r
    unfolding has_head
    all_head {r = r} i k d a h =
        let (q, b, u) = clause-is d h in
        subst (λ (w : Clause Plain). Claim f x y (suc nest) r w) (sym u)
        (λ a l c t. subst (λ (s : Spot). HasHead f s y nest r) i k b a (omega arith) (clause-part 6 b c (first_part (octets "all") heads.1.1.1.0 c.stands) (omega arith)) t)
        a

    pub and-lost : {q : Option ℕ} → PastAt (drop x.at (bytes_at f x)) 6 64 q → q ≡ None → HasHeadAs W.And f x y nest false
    and-lost p e d a h =
        let (b, b', n) = clause-is d h in
        subst (λ (z : Clause Plain). Claim f x y (suc nest) false z) (sym n) (λ a l c t. absurd (first_found (octets "and") heads.0 c.stands (omega (arith, c.shallow)) p e)) a

    pub and_first : {z : Spot} {s : Bool} → z ≡ further x 6 → HasHead f z y nest s → s ≡ true → HasHeadAs W.And f x y nest true
    unfolding has_head
    and_first {s = s} i k e d a h =
        let (b, b', u) = clause-is d h in
        subst (λ (w : Clause Plain). Claim f x y (suc nest) true w) (sym u)
        (λ a l c t.
        let one = subst (λ (z : Spot). HasHead f z y nest s) i k b a (omega arith) (clause-part 6 b c (first_part (octets "and") heads.0 c.stands) (omega arith)) t in
        ap (λ (v : Bool). v || has_head b' a) (sym e ∙ one))
        a

    pub and_second : {z z' : Spot} {q : Option ℕ} {n : ℕ} {s r : Bool} → z ≡ further x 6 → z' ≡ further x n → PastAt (drop x.at (bytes_at f x)) 6 64 q → q ≡ Some n → HasHead f z y nest s → s ≡ false → HasHead f z' y nest r → HasHeadAs W.And f x y nest r
    unfolding has_head
    and_second {n = n} {s = s} {r = r} i j p g k e k' d a h =
        let (b, b', u) = clause-is d h in
        subst (λ (w : Clause Plain). Claim f x y (suc nest) r w) (sym u)
        (λ a l c t.
        let one = subst (λ (z : Spot). HasHead f z y nest s) i k b a (omega arith) (clause-part 6 b c (first_part (octets "and") heads.0 c.stands) (omega arith)) t in
        let two = subst (λ (z : Spot). HasHead f z y nest r) j k' b' a (omega arith) (clause-part n b' c (second-found (octets "and") heads.0 c.stands p g) (omega arith)) t in
        two ∙ ap (λ (v : Bool). v || has_head b' a) (sym e ∙ one))
        a
