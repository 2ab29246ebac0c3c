-- A head beside an atom, argument by argument: where each of the head's becomes the atom's, the head becomes the atom (document 02, Three: a head that is the atom whatever its unset variables become is not compared again).
use Prim.Native.Nat.{ℕ, ◌+◌}
use mathlib.Core.Path.{◌≡◌, refl, sym, ◌∙◌, ap, ap₂}
use mathlib.Core.Bool.{Bool, true, ◌&&◌}
use mathlib.Core.List.{List}
use lib.Dec.{eqb}
use lib.ListN.{length, get_or, drop}
use Rattle.basics.specs.Tells.{Tells, told-yes}
use Rattle.harrop.specs.Formula.{Name, Term, Terms, Atom}
use Rattle.harrop.specs.Bindings.{Bindings, replaced, replaceds, replaced_atom, same_term, same_terms, same_atom}
use Rattle.harrop.proofs.SameLaws.{equal-names-same}
use Rattle.std.specs.Prelude.{Option, Some}
use Rattle.sexp.specs.Sexp.{str, spell}
use Rattle.sexp.specs.Past.{PastAt}
use Rattle.sexp.specs.WordsAt.{Shared}
use Rattle.sexp.proofs.StandLaws.{all_once, first-stands, no-closing}
use Rattle.packet.specs.Read.{terms_in}
use Rattle.packet.proofs.ReadLaws.{terms-read}
use Rattle.room.specs.Table.{CandidatesIn}
use Rattle.room.specs.Files.{Files}
use Rattle.room.specs.declared.Spot.{Spot}
use Rattle.equal.specs.Term.{AtomAt}
use Rattle.equal.proofs.TermLaws.{atom-text, text-once}
use Rattle.heads.specs.Predicate.{bytes_at}
use Rattle.unset.specs.Unset.{Small}
use Rattle.unset.specs.Head.{Row}
use Rattle.unset.proofs.HeadLaws.{LeftAt, Beside, atom-here, row-after, name-past, shut}

-- only one row of terms stands at an offset
row-once : {around : ℕ} {s : List ℕ} {p : ℕ} (ts us : Terms) → Row around s p ts → Row around s p us → ts ≡ us
row-once ts us R Q = sym (terms-read ts) ∙ ap terms_in (all_once R.stands Q.stands) ∙ terms-read us

-- the arguments of a head b and an atom a before the offsets p and q, under frames: where what is left of them becomes the same, the head becomes the atom
abbrev pub Enough : Spot → Spot → List ℕ → List ℕ → List Term → Atom → Atom → Bindings → (Bindings → Type 0) → ℕ → ℕ → Type 0
Enough x y s t us b a bs frames p q =
    (one two : Terms) → Row x.count s p one → Row y.count t q two
    → (es : Bindings) → frames es → same_terms (replaceds us es one) (replaceds us bs two) ≡ true → same_atom (replaced_atom us es b) (replaced_atom us bs a) ≡ true

module _ (f : Files) (room : List ℕ) (x y : Spot) {s t : List ℕ} (ex : s ≡ drop x.at (bytes_at f x)) (ey : t ≡ drop y.at (bytes_at f y)) where
  -- after the name that both have
  pub enough-start : {r : Bool} {v : Option ℕ} {i : ℕ} → Tells r (Shared s 7 t 7) → r ≡ true → PastAt s 7 0 v → v ≡ Some i
      → (us : List Term) (b a : Atom) (bs : Bindings) (frames : Bindings → Type 0) → AtomAt f x b → AtomAt f y a → Enough x y s t us b a bs frames i i
  enough-start {i = i} h e v z us (Atom.atom n ts) (Atom.atom m ws) bs frames X Y one two R R' es k same =
      let N = told-yes e h in
      let name : n ≡ m = text-once (atom-text n ts (atom-here n ts X ex)) N.here ∙ text-once N.there (atom-text m ws (atom-here m ws Y ey)) in
      let long = name-past n ts X ex v z in
      let first = row-once ts one (row-after n ts X ex i long) R in
      let second = row-once ws two (row-after m ws Y ey i (long ∙ ap (λ (l : Name). 7 + length (spell (str l))) name)) R' in
      ap₂ ◌&&◌ (equal-names-same n m name) (ap₂ (λ (l : Terms) (r : Terms). same_terms (replaceds us es l) (replaceds us bs r)) first second ∙ same)

  module _ {us : List Term} {b a : Atom} {bs : Bindings} {p q : ℕ} where
    -- past two arguments that become the same
    pub enough-next : {frames fewer : Bindings → Type 0} {v v' : Option ℕ} {m n : ℕ} (l : Beside f room x y s t us b a p q) → Enough x y s t us b a bs frames p q → ((es : Bindings) → fewer es → frames es) → ((es : Bindings) → fewer es → same_term (replaced us es l.u) (replaced us bs l.w) ≡ true)
        → v ≡ Some m → PastAt s p 64 v → v' ≡ Some n → PastAt t q 64 v' → Enough x y s t us b a bs fewer m n
    enough-next l E less here i A j B one two R R' es k same = E (Terms.cons l.u one) (Terms.cons l.w two) (l.before i A one R) (l.beyond j B two R') es (less es k) (ap₂ ◌&&◌ (here es k) same)

    -- none is left of either
    pub enough-end : {frames : Bindings → Type 0} {c d : Bool} → LeftAt f room x y s t p q → c ≡ eqb (get_or s p 0) 41 → c ≡ true → d ≡ eqb (get_or t q 0) 41 → d ≡ true
        → Small f → CandidatesIn room f.terms us → AtomAt f x b → AtomAt f y a
        → Enough x y s t us b a bs frames p q → (es : Bindings) → frames es → same_atom (replaced_atom us es b) (replaced_atom us bs a) ≡ true
    enough-end L e h g k S C X Y E es m =
        let l = L us b a S C X Y in
        go l.one l.two l.here l.there
      where
        go : (one two : Terms) → Row x.count s p one → Row y.count t q two → same_atom (replaced_atom us es b) (replaced_atom us bs a) ≡ true
        go Terms.nil Terms.nil R R' = E Terms.nil Terms.nil R R' es m refl
        go (Terms.cons u one) two R R' = absurd (no-closing (first-stands R.stands) (shut s p e h))
        go Terms.nil (Terms.cons w two) R R' = absurd (no-closing (first-stands R'.stands) (shut t q g k))
