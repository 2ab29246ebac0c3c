-- What the rules and the supposed clauses say of the candidates without a mark, each of them (document 02, Three: no verdict and no strip changes).
use Prim.Native.Nat.{ℕ, ◌+◌, ◌-◌, ◌%◌, ◌≤◌, ◌<◌}
use native.Mathlib.Omega.{arith}
use mathlib.Core.Path.{◌≡◌, refl, sym, ◌∙◌, ap, subst}
use mathlib.Core.Bool.{Bool, true, false, not}
use mathlib.Core.List.{List, []}
use mathlib.Core.Option.{Option, none, some}
use lib.ListN.{length, get_or, get_elem?, drop}
use borrow.Author.Tests.{not-true}
use Rattle.harrop.specs.Formula.{Term, Atom, Clause}
use Rattle.harrop.specs.Bindings.{Bindings, replaced_atom, same_atom}
use Rattle.harrop.specs.Place.{AtHand, Hand, Plain}
use Rattle.packet.specs.declared.Word.{Word}
use Rattle.packet.specs.declared.Word.TheVariants as W
use Rattle.packet.specs.Barred.{atom_ok, clause_ok}
use Rattle.reader.specs.WordAt.{WordAt}
use Rattle.packet.specs.Written.{clause_sexp}
use Rattle.room.specs.Spot.{bindings_at, supposed_in}
use Rattle.equal.specs.Term.{AtomAt}
use Rattle.room.specs.Where.{Framed, HandIn}
use Rattle.room.specs.Files.{Files}
use Rattle.room.specs.declared.Spot.{Spot}
use Rattle.room.proofs.FrameLaws.{frame-length}
use Rattle.room.proofs.WhereLaws.{file-small}
use Rattle.heads.specs.Predicate.{bytes_at, AtomThere, HasHead}
use Rattle.heads.proofs.HeadLaws.{clause-says, clause-is}
use Rattle.keys.specs.Keys.{PredicateKeyAt}
use Rattle.arguments.specs.Arguments.{ArgumentsAre}
use Rattle.narrow.specs.Heads.{head_of, HeadIn}
use Rattle.narrow.specs.Kept.{no_variable, Says}
use Rattle.narrow.specs.Narrow.{NoHead, Gives, Known, ByHead, ByFact, ByRule, ByOne, ByClause, Adds, rule_spot}
use Rattle.narrow.proofs.FillLaws.{head-nests}
use Rattle.narrow.proofs.KeptLaws.{no-frame}
use Rattle.narrow.proofs.NoHeadLaws.{headless, one-head, other-number, no-variables, head_ok, one-fact}
use Rattle.narrow.proofs.MarkLaws.{more-none}

atom-there : {f : Files} {x : Spot} {a : Atom} → AtomAt f x a → AtomThere f x a
atom-there X = record { stands = X.stands; shallow = X.shallow }

-- rule k
module _ (f : Files) (room : List ℕ) (x : Spot) (own v predicate asked k : ℕ) (marks : List ℕ) where
  -- an `and` is on the way to its heads: none has the atom's predicate
  pub rule-headless : {y : Spot} (b : Bool) → y ≡ rule_spot room (1 + k) → HasHead f y x 64 b → Adds marks marks (not b) (ByRule f room x own v predicate asked marks k)
  rule-headless b e H = record {
    more = more-none marks;
    told = λ t P ds us a N Q d m i es G.
        let there = subst (λ (z : Spot). HasHead f z x 64 b) e H d a (N.booked.shallow k d m) (record { stands = N.booked.rules.starts k d m; shallow = N.booked.shallow k d m; small = N.booked.rules-small }) (atom-there N.atom) in
        headless us es a d (sym there ∙ not-true b t) [];
  }

  module _ {p : ℕ} (e : p ≡ get_or room (3712 + k) 0) (some_key : p ≡ 0 → ⊥) where
    -- its head has another predicate
    pub rule-other : (p ≡ predicate → ⊥) → Adds marks marks true (ByRule f room x own v predicate asked marks k)
    rule-other other = record { more = more-none marks; told = λ t P ds us a N Q d m i es G. go P ds us a N d m es (head_of d) refl (N.heads k d m) }
      where
        go : PredicateKeyAt f x predicate → (ds : List (Clause Plain)) (us : List Term) (a : Atom) → Known f room ds us x a → (d : Clause Plain) → get_elem? ds k ≡ some d → (es : Bindings)
            → (o : Option Atom) → head_of d ≡ o → HeadIn room f.rules k o → NoHead us [] d (replaced_atom us es a)
        go P ds us a N d m es none z h = absurd (some_key (e ∙ h))
        go P ds us a N d m es (some b) z h =
            one-head us (replaced_atom us es a) b (λ bs. other-number us es bs b a (λ w. other (e ∙ h.0 ∙ w ∙ sym (P a (atom-there N.atom))))) d z []

    -- its head has no variables, by its number
    pub rule-fact : {w : ℕ} {y : Spot} {after : List ℕ} (r : Bool) → w ≡ get_or room (3200 + k) 0 → (w % 2 ≡ 0 → ⊥) → y ≡ rule_spot room (3968 + k) → {kept : ℕ} → kept ≡ get_or room (4608 + k) 0 → Adds marks after r (ByFact f room x y own v asked kept after)
        → Adds marks after r (ByRule f room x own v predicate asked after k)
    rule-fact {w} {y} {after} r g odd j {kept} n A = record { more = A.more; told = λ t P ds us a N Q d m i es G. go t ds us a N Q d m i es G (head_of d) refl (N.heads k d m) }
      where
        go : r ≡ true → (ds : List (Clause Plain)) (us : List Term) (a : Atom) → Known f room ds us x a → ArgumentsAre us own (bindings_at room x) v a asked → (d : Clause Plain) → get_elem? ds k ≡ some d → (i : ℕ) (es : Bindings) → Gives room us x own v after i es
            → (o : Option Atom) → head_of d ≡ o → HeadIn room f.rules k o → NoHead us [] d (replaced_atom us es a)
        go t ds us a N Q d m i es G none z h = absurd (some_key (e ∙ h))
        go t ds us a N Q d m i es G (some b) z h =
            let closed = no-variables d b z (λ q. odd (ap (λ (n : ℕ). n % 2) (g ∙ N.keys.rules k d m) ∙ q)) in
            let Y : AtomAt f (rule_spot room (3968 + k)) b = record {
              stands = h.1;
              shallow = omega (arith, head-nests d b z, N.booked.shallow k d m);
              few = omega arith;
              ok = head_ok b closed d 0 z (N.booked.scoped k d m);
            } in
            let W = subst (λ (bs : Bindings). ArgumentsAre us 0 bs no_variable b kept) (sym (no-frame room)) (subst (Says us b) (sym n) (N.arguments k d m b z)) in
            let says = subst (λ (s : Spot). ByFact f room x s own v asked kept after) j (A.told t) us a b (file-small N.booked) N.booked.candidates N.keys.candidates N.atom Y Q W i es G in
            one-head us (replaced_atom us es a) b (one-fact us (replaced_atom us es a) b (bindings_at room (rule_spot room (3968 + k))) closed says) d z []

-- supposed clause j
module _ (f : Files) (room : List ℕ) (x : Spot) (own v j : ℕ) (marks : List ℕ) {y : Spot} (e : y ≡ supposed_in room j) where
  framed : {ds : List (Clause Plain)} {supposed top : ℕ} {c : Hand Plain} → HandIn f room ds supposed top c → (h : AtHand Plain) → get_elem? c (length ds + j) ≡ some h → Framed f room y top (clause_sexp h.clause) h.bindings
  framed {top = top} T h m = subst (λ (z : Spot). Framed f room z top (clause_sexp h.clause) h.bindings) (sym e) (T.suppose j h m)

  -- none of its heads has the atom's predicate
  pub one-headless : (b : Bool) → HasHead f y x 64 b → Adds marks marks (not b) (ByOne f room x own v marks j)
  one-headless b H = record {
    more = more-none marks;
    told = λ t ds us a N supposed top c T h m i es G.
        let F = framed T h m in
        let there = H h.clause a (omega (arith, F.shallow)) (record { stands = F.stands; shallow = omega (arith, F.shallow); small = file-small N.booked y.source }) (atom-there N.atom) in
        headless us es a h.clause (sym there ∙ not-true b t) h.bindings;
  }

  -- it is an atom, in a frame that is set
  atom-at : {top : ℕ} {bs : Bindings} (b : Atom) {d : Clause Plain} → d ≡ Clause.atom_d b → Framed f room y top (clause_sexp d) bs → clause_ok (length bs) d ≡ true → AtomAt f y b
  atom-at {top} {bs} b z = subst (λ (d : Clause Plain). Framed f room y top (clause_sexp d) bs → clause_ok (length bs) d ≡ true → AtomAt f y b) (sym z) λ F o. record {
    stands = F.stands;
    shallow = omega (arith, F.shallow);
    few = omega (arith, F.shallow);
    ok = subst (λ (n : ℕ). atom_ok n b ≡ true) (sym (ap length F.holds) ∙ frame-length room y.base y.count) o;
  }

  pub one-atom : {after : List ℕ} (r : Bool) (k : Word) → WordAt (drop y.at (bytes_at f y)) 1 k → k ≡ W.Atom → Adds marks after r (ByHead f room x y own v after) → Adds marks after r (ByOne f room x own v after j)
  one-atom {after} r k q g A = record {
    more = A.more;
    told = λ t ds us a N supposed top c T h m i es G.
        let F = framed T h m in
        let (b, z) = clause-is h.clause (sym (clause-says (bytes_at f y) y.at h.clause k F.stands q) ∙ g) in
        let says = A.told t us a b (file-small N.booked) N.booked.candidates N.keys.candidates N.atom (atom-at b z F (T.scoped j h m)) i es G in
        subst (λ (d : Clause Plain). NoHead us h.bindings d (replaced_atom us es a)) (sym z) (subst (λ (bs : Bindings). same_atom (replaced_atom us bs b) (replaced_atom us es a) ≡ false) F.holds says);
  }

-- clause k at hand, which is a rule or one of those that are supposed
module _ (f : Files) (room : List ℕ) (x : Spot) (own v predicate asked : ℕ) {marks after : List ℕ} {n k i : ℕ} {r : Bool} (e : n ≡ get_or room 0 0) where
  pub clause-rule : k < n → i ≡ k → Adds marks after r (ByRule f room x own v predicate asked after i) → Adds marks after r (ByClause f room x own v predicate asked after k)
  clause-rule l q A = record {
    more = A.more;
    told = λ t P ds us a N Q supposed top c T h m j es G.
        let (z, g) = T.rule k h (omega (arith, l, e, N.booked.rules.counted)) m in
        subst (λ (bs : Bindings). NoHead us bs h.clause (replaced_atom us es a)) (sym z) (A.told t P ds us a N Q h.clause (subst (λ (y : ℕ). get_elem? ds y ≡ some h.clause) (sym q) g) j es G);
  }

  pub clause-supposed : n ≤ k → i ≡ k - n → Adds marks after r (ByOne f room x own v after i) → Adds marks after r (ByClause f room x own v predicate asked after k)
  clause-supposed l q A = record {
    more = A.more;
    told = λ t P ds us a N Q supposed top c T h m j es G.
        let same : k ≡ length ds + i = omega (arith, l, q, e, N.booked.rules.counted) in
        A.told t ds us a N supposed top c T h (subst (λ (y : ℕ). get_elem? c y ≡ some h) same m) j es G;
  }
