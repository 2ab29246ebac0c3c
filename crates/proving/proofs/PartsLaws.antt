-- A clause taken apart by its words, as far as one head: what each answer of `parts_of` says (document 01, the table of words).
use Prim.Native.Nat.{ℕ, ◌+◌, ◌-◌, ◌≤◌, ◌<◌}
use native.Mathlib.Omega.{arith}
use mathlib.Core.Path.{◌≡◌, refl, sym, ◌∙◌, ap, subst}
use mathlib.Core.Bool.{Bool, true, false, not, false≢true}
use mathlib.Core.List.{List, [], ◌∷◌}
use mathlib.Core.Logic.{⊎_elim}
use lib.Dec.{ltb, eqb}
use lib.ListN.{get_or, drop}
use types.Run.{OneOf}
use denote.Enum.Declared.{tag_of}
use borrow.Author.Tests.{ltb-true, eqb-false, not-true}
use Rattle.basics.specs.Choice.{both_true}
use Rattle.basics.specs.Text.{octets}
use Rattle.harrop.specs.Formula.{Clause}
use Rattle.harrop.specs.Place.{Plain}
use Rattle.std.specs.Prelude.{Option, Some, None, is_some}
use Rattle.std.proofs.lemmas.Option.{none-some, same_Some}
use Rattle.sexp.specs.Past.{PastAt}
use Rattle.sexp.specs.Sexp.{Sexp, Stands, nesting}
use Rattle.packet.specs.declared.Word.{Word}
use Rattle.packet.specs.declared.Word.TheVariants as W
use Rattle.reader.specs.WordAt.{WordAt}
use Rattle.packet.specs.Written.{atom_sexp, clause_sexp}
use Rattle.packet.specs.File.{most_bytes}
use Rattle.packet.specs.contracts.Word.{the_type}
use Rattle.rows.proofs.TableLaws.{out}
use Rattle.room.specs.Where.{plus, further}
use Rattle.room.specs.Files.{Files}
use Rattle.room.specs.Spot.{moved_to}
use Rattle.room.specs.declared.Spot.{Spot}
use Rattle.room.proofs.NestLaws.{clause-nests}
use Rattle.room.proofs.WhereLaws.{plus-inside}
use Rattle.heads.specs.Heads.{clause_word}
use Rattle.heads.specs.Predicate.{bytes_at, ClauseThere}
use Rattle.heads.proofs.HeadLaws.{clause-says, clause-is, heads, first_part, second-found, first_found}
use Rattle.proving.specs.Hand.{deeper}
use Rattle.proving.specs.Parts.{is_plain, HeadSaid, Behind, HeadBehind, PartsAt, PartsFrom, PartsOf, ClauseParts, PlainAt}
use Rattle.proving.specs.declared.plain.Parts.{Parts}

-- what is claimed of a clause: whether it has one head, and then its parts
abbrev Claim : Files → Spot → Bool → ℕ → ℕ → ℕ → Option Parts → Clause Plain → Type 0
Claim f x known at own nest r d =
    nesting (clause_sexp d) ≤ nest → ClauseThere f x d → x.count + nest ≤ most_bytes → own + nest ≤ most_bytes
    → (is_some r ≡ is_plain d) × ((known ≡ true → HeadSaid f x at d) → (p : Parts) → r ≡ Some p → PartsAt f x own d p)

-- the places of the words that stand before no clause with one head
abbrev others : List ℕ
others = 0 ∷ 1 ∷ 2 ∷ 4 ∷ 5 ∷ 6 ∷ 7 ∷ 10 ∷ 11 ∷ 12 ∷ 13 ∷ 14 ∷ 15 ∷ []

one_of : (ks : List ℕ) (n : ℕ) → OneOf ks n → out ks n ≡ true → ⊥
one_of [] n h o = h
one_of (k ∷ []) n h o = eqb-false k n (not-true (eqb k n) (both_true (not (eqb k n)) true o).0) (sym h)
one_of (k ∷ (j ∷ ks)) n h o =
    let (a, b) = both_true (not (eqb k n)) (out (j ∷ ks) n) o in
    ⊎_elim (λ g. eqb-false k n (not-true (eqb k n) a) (sym g)) (λ g. one_of (j ∷ ks) n g b) h

-- no part is found
none_found : (f : Files) (x : Spot) (known : Bool) (at own nest : ℕ) (d : Clause Plain) → is_plain d ≡ false → Claim f x known at own nest None d
none_found f x known at own nest d n l h s t = (sym n, λ said p y. absurd (none-some p y))

-- the parts that are found
one-found : {f : Files} {x : Spot} {own : ℕ} {d : Clause Plain} {r : Parts} → PartsAt f x own d r → (p : Parts) → ◌≡◌ {A = Option Parts} (Some r) (Some p) → PartsAt f x own d p
one-found {f} {x} {own} {d} {r} t p e = subst (PartsAt f x own d) (same_Some r p e) t

module _ {f : Files} {x : Spot} {known : Bool} {at own nest : ℕ} where
  -- a clause by its word
  by_word : {r : Option Parts} (k : Word) → WordAt (drop x.at (bytes_at f x)) 1 k → ((p : Parts) → r ≡ Some p → p.own ≤ own + nest) → ((d : Clause Plain) → clause_word d ≡ k → Claim f x known at own nest r d) → PartsFrom f x known at own nest r
  by_word k q few h =
      record {
        few = few;
        told = λ d l t a b. (h d (sym (clause-says (bytes_at f x) x.at d k t.stands q)) l t a b).0;
        parts = λ d l t a b. (h d (sym (clause-says (bytes_at f x) x.at d k t.stands q)) l t a b).1;
      }

  -- a clause is a list
  pub parts-no-nest : nest ≡ 0 → PartsFrom f x known at own nest None
  parts-no-nest e =
      record {
        few = λ p y. absurd (none-some p y);
        told = λ d l t a b. absurd (omega (arith, clause-nests d));
        parts = λ d l t a b said p y. absurd (none-some p y);
      }

  -- a clause that is an `and`; none has another word
  pub parts-other : (k : Word) → WordAt (drop x.at (bytes_at f x)) 1 k → OneOf others (tag_of the_type k) → PartsFrom f x known at own nest None
  unfolding clause_word
  parts-other k q h = by_word k q (λ p y. absurd (none-some p y)) go
    where
      no : (w : Word) → out others (tag_of the_type w) ≡ true → w ≡ k → ⊥
      no w o e = one_of others (tag_of the_type w) (subst (λ (z : Word). OneOf others (tag_of the_type z)) (sym e) h) o

      go : (d : Clause Plain) → clause_word d ≡ k → Claim f x known at own nest None d
      go (Clause.atom_d a) e = absurd (no W.Atom refl e)
      go (Clause.imp_d g a) e = absurd (no W.Imp refl e)
      go (Clause.all_d y d) e = absurd (no W.All refl e)
      go (Clause.and_d c d) e = none_found f x known at own nest (Clause.and_d c d) refl

-- the variables that are counted are few
few-of : {own : ℕ} {r : Parts} (nest : ℕ) → r.own ≡ own → (p : Parts) → ◌≡◌ {A = Option Parts} (Some r) (Some p) → p.own ≤ own + nest
few-of {own} {r} nest e p y = let f = ap (λ (z : Parts). z.own) (same_Some r p y) in omega (arith, e, f)

-- an atom
pub parts-atom : {f : Files} {x : Spot} {known : Bool} {at own nest : ℕ} (k : Word) → WordAt (drop x.at (bytes_at f x)) 1 k → k ≡ W.Atom → PartsFrom f x known at own nest (Some (record { own = own; body = false; headed = true; goal = x; head = x }))
parts-atom {f} {x} {known} {at} {own} {nest} k q e = by_word k q (λ p y. few-of nest refl p y) λ d h.
    let (b, n) = clause-is d (h ∙ e) in
    subst (Claim f x known at own nest (Some (record { own = own; body = false; headed = true; goal = x; head = x }))) (sym n)
    (λ l t s u. (refl, λ said. one-found (record { headed = refl; own = omega arith; base = (refl, refl); count = (omega arith, omega arith); stands = (refl, t.stands) })))

-- a goal that implies an atom: where the atom stands
module _ {f : Files} {x : Spot} (known : Bool) (at : ℕ) where
  pub head-known : known ≡ true → HeadBehind f x known at (Some at)
  head-known e g b t said = said e b refl

  pub head-lost : {z : Option ℕ} → PastAt (drop x.at (bytes_at f x)) 6 64 z → z ≡ None → HeadBehind f x known at None
  head-lost p z g b t = first_found (octets "imp") heads.1.1.1.1 t.stands (omega (arith, t.shallow)) p z

  pub head-past : {z : Option ℕ} {n m : ℕ} → PastAt (drop x.at (bytes_at f x)) 6 64 z → z ≡ Some n → m ≡ plus x.at n → HeadBehind f x known at (Some m)
  head-past {n = n} p z e g b t said =
      let st = second-found (octets "imp") heads.1.1.1.1 t.stands p z in
      subst (λ (j : ℕ). Stands (bytes_at f x) j (atom_sexp b)) (sym (e ∙ plus-inside (bytes_at f x) x.at n t.small st)) st

-- there is always one
pub parts-lost : {f : Files} {x : Spot} {known : Bool} {at own nest : ℕ} {z : Option ℕ} (k : Word) → WordAt (drop x.at (bytes_at f x)) 1 k → k ≡ W.Imp → HeadBehind f x known at z → z ≡ None → PartsFrom f x known at own nest None
parts-lost {f} {x} {known} {at} {own} {nest} k q e p z = by_word k q (λ p y. absurd (none-some p y)) λ d h.
    let (g, b, n) = clause-is d (h ∙ e) in
    subst (Claim f x known at own nest None) (sym n) (λ l t s u. absurd (subst (Behind f x known at g b) z (p g b t)))

-- a part n bytes further on
part-there : {f : Files} {x y : Spot} {d : Clause Plain} (n : ℕ) {e : Sexp} → ClauseThere f x d → y ≡ further x n → Stands (bytes_at f x) (x.at + n) e → Stands (bytes_at f y) y.at e
part-there {f} {x} n {e} t i h =
    subst (λ (z : Spot). Stands (bytes_at f z) z.at e) (sym i)
    (subst (λ (j : ℕ). Stands (bytes_at f x) j e) (sym (plus-inside (bytes_at f x) x.at n t.small h)) h)

pub parts-imp : {f : Files} {x u v : Spot} {known : Bool} {at own nest m : ℕ} {z : Option ℕ} (k : Word) → WordAt (drop x.at (bytes_at f x)) 1 k → k ≡ W.Imp → HeadBehind f x known at z → z ≡ Some m → u ≡ further x 6 → v ≡ moved_to x m → PartsFrom f x known at own nest (Some (record { own = own; body = true; headed = true; goal = u; head = v }))
parts-imp {f} {x} {u} {v} {known} {at} {own} {nest} {m} k q e p z i j = by_word k q (λ p y. few-of nest refl p y) λ d h.
    let (g, b, n) = clause-is d (h ∙ e) in
    subst (Claim f x known at own nest (Some (record { own = own; body = true; headed = true; goal = u; head = v }))) (sym n)
    (λ l t s y.
    let cu : u.count ≡ x.count = ap (λ (z : Spot). z.count) i in
    let cv : v.count ≡ x.count = ap (λ (z : Spot). z.count) j in (
      refl,
      λ said.
          one-found
          (record {
            headed = refl;
            own = omega arith;
            base = (ap (λ (z : Spot). z.base) j, ap (λ (z : Spot). z.base) i);
            count = (omega arith, omega arith);
            stands = (
              refl,
              subst (λ (w : Spot). Stands (bytes_at f w) w.at (atom_sexp b)) (sym j) (subst (Behind f x known at g b) z (p g b t) said),
              part-there 6 t i (first_part (octets "imp") heads.1.1.1.1 t.stands),
            );
          }),
    ))

-- a quantifier: the parts of the clause inside, with one variable more
inner-parts : {f : Files} {x : Spot} {own m : ℕ} {q : Plain} {d : Clause Plain} {r : Parts} → m ≡ own + 1 → x.count < most_bytes → PartsAt f (deeper x 6) m d r → PartsAt f x own (Clause.all_d q d) r
inner-parts e s t =
    record {
      headed = t.headed;
      own = omega (arith, t.own);
      base = t.base;
      count = (omega (arith, t.count.0), omega (arith, t.count.1));
      stands = t.stands;
    }

pub parts_all : {f : Files} {x y : Spot} {known : Bool} {at own nest m : ℕ} {r : Option Parts} (k : Word) → (nest ≡ 0 → ⊥) → WordAt (drop x.at (bytes_at f x)) 1 k → k ≡ W.All → y ≡ deeper x 6 → m ≡ plus own 1 → PartsFrom f y known at m (nest - 1) r → PartsFrom f x known at own nest r
parts_all {f} {x} {y} {known} {at} {own} {nest} {m} {r} k z q e i j p = by_word k q (λ u v. let l = p.few u v in omega (arith, l)) λ d h.
    let (o, b, n) = clause-is d (h ∙ e) in
    let p' = subst (λ (s : Spot). PartsFrom f s known at m (nest - 1) r) i p in
    subst (Claim f x known at own nest r) (sym n)
    (λ l t s u.
    let st = first_part (octets "all") heads.1.1.1.0 t.stands in
    let there : ClauseThere f (deeper x 6) b =
    record {
      stands = subst (λ (w : ℕ). Stands (bytes_at f x) w (clause_sexp b)) (sym (plus-inside (bytes_at f x) x.at 6 t.small st)) st;
      shallow = omega (arith, t.shallow);
      small = t.small;
    } in
    (p'.told b (omega arith) there (omega arith) (omega arith), λ said u' w. inner-parts (omega arith) (omega arith) (p'.parts b (omega arith) there (omega arith) (omega arith) said u' w)))

-- nothing is known of the head
pub parts_whole : {f : Files} {x : Spot} {own nest : ℕ} {r : Option Parts} → PartsFrom f x false 0 own nest r → PartsOf f x own nest r
parts_whole p = record { few = p.few; told = p.told; parts = λ d l t a b. p.parts d l t a b (λ e. absurd (false≢true e)) }

-- or what the room says of a rule's
pub parts-kept : {f : Files} (room : List ℕ) {x : Spot} {n at i : ℕ} {r : Option Parts} (k : ℕ) → n ≡ get_or room 0 0 → i ≡ plus 3968 k → at ≡ get_or room i 0 → PartsFrom f x (ltb k n) at 0 64 r → ClauseParts f room k x r
parts-kept {f} room {x} {n} {at} k e j g p =
    record {
      few = λ u v. let l = p.few u v in omega (arith, l);
      told = λ d t l. p.told d t.shallow t (omega arith) (omega arith);
      parts = λ d t l said. p.parts d t.shallow t (omega arith) (omega arith) λ y. subst (λ (q : ℕ). HeadSaid f x q d) (sym (g ∙ ap (λ (q : ℕ). get_or room q 0) j)) (said (omega (arith, ltb-true k n y)));
    }

-- whether there is one head
pub plain-told : {f : Files} {x : Spot} {known : Bool} {at : ℕ} {p : Option Parts} → PartsFrom f x known at 0 64 p → PlainAt f x (is_some p)
plain-told q d l h m = q.told d l h (omega arith) (omega arith)
