-- What an argument of a clause's head says of its frame, beside an argument of the atom that is a candidate's term, and what all of them say (document 02, Three). Each law ends in the contract of a function of src/setting.
use Prim.Native.Nat.{ℕ, ◌-◌, ◌/◌, ◌%◌, ◌<◌}
use native.Mathlib.Omega.{arith}
use mathlib.Core.Path.{◌≡◌, refl, sym, ◌∙◌, ap, subst}
use mathlib.Core.Bool.{Bool, true, false}
use mathlib.Core.List.{List}
use lib.Dec.{eqb}
use lib.ListN.{length, get_or, drop, set}
use borrow.Author.Tests.{eqb-true, eqb-false}
use Rattle.harrop.specs.declared.Binding.TheVariants.{Candidate}
use Rattle.harrop.specs.Formula.{Term, Terms, Atom, Clause}
use Rattle.harrop.specs.Bindings.{Bindings, meant, value_of, replaced, replaceds, replaced_atom}
use Rattle.harrop.specs.Place.{Hand, Plain}
use Rattle.harrop.proofs.ListLaws.{member_below}
use Rattle.std.specs.Prelude.{Option, Some}
use Rattle.sexp.specs.Past.{PastAt}
use Rattle.sexp.proofs.StandLaws.{none-closes}
use Rattle.room.specs.Frame.{binding_word, held}
use Rattle.room.specs.Spot.{bindings_at}
use Rattle.room.specs.Where.{further}
use Rattle.room.specs.Files.{Files}
use Rattle.room.specs.declared.Spot.{Spot}
use Rattle.room.specs.declared.Where.{Where}
use Rattle.room.proofs.FrameLaws.{bound-means}
use Rattle.room.proofs.WhereLaws.{file-small}
use Rattle.equal.specs.Term.{AtomAt}
use Rattle.heads.specs.Predicate.{bytes_at}
use Rattle.mentions.specs.Open.{is_open, Becomes}
use Rattle.keys.proofs.WalkLaws.{candidate-meant}
use Rattle.unset.specs.Head.{OpenAs, OpenAt, Row}
use Rattle.unset.proofs.HeadLaws.{row-after, row_next, name-past, term-there, going}
use Rattle.arguments.specs.Arguments.{Arguments, arguments_of}
use Rattle.arguments.proofs.BesideLaws.{first_of, others_of, replaced-arguments}
use Rattle.proving.specs.Parts.{variable_word, head_of}
use Rattle.proving.specs.Frames.{set_to}
use Rattle.proving.specs.Filling.{Filling}
use Rattle.proving.specs.declared.plain.Parts.{Parts}
use Rattle.proving.proofs.StockLaws.{keeps_same, keeps_then}
use Rattle.proving.proofs.CompletesLaws.{open-below, open-there, set_here, value_there}
use Rattle.proving.proofs.PlainLaws.{frame_is, head-at, write_keeps, filling-set}
use Rattle.narrowing.specs.Sets.{SetBy, SetsOne, SetsFrom, SetsBeside}

-- a frame becomes what it does after a variable is set to what it is there
set-becomes : (us : List Term) (m v i : ℕ) (fr gs : Bindings) → v < length fr → value_of us gs v ≡ meant us (Candidate i) → Becomes us m fr gs → Becomes us m (set_to v (Candidate i) fr) gs
set-becomes us m v i fr gs long is B j shut = go (eqb j v) refl
  where
    go : (b : Bool) → eqb j v ≡ b → value_of us gs j ≡ value_of us (set_to v (Candidate i) fr) j
    go true b =
        subst (λ (k : ℕ). value_of us gs k ≡ value_of us (set_to v (Candidate i) fr) k) (sym (eqb-true j v b))
        (is ∙ ap (meant us) (sym (set_here v (Candidate i) fr long)) ∙ bound-means us (set_to v (Candidate i) fr) v)
    go false b =
        let other = eqb-false j v b in
        B j (sym (open-there m v j (Candidate i) fr other) ∙ shut) ∙ sym (value_there us v j (Candidate i) fr other)

-- nothing is set
set-none : {f : Files} {room : List ℕ} {ds : List (Clause Plain)} {us : List Term} {w : Where} {p : Parts} {left : ℕ} {o : List Plain} {c : Hand Plain} {bs : Bindings} {a : Atom} {e : Clause Plain} {fr : Bindings} {own : ℕ} {alike : Bindings → Bindings → Type 0} → Filling f room ds us w p left o c bs a e fr
    → SetBy f room room ds us w p left o c bs a e fr own alike
set-none {room = room} {fr = fr} t = record { kept = keeps_same room; frame = fr; filling = t; follows = λ es gs B z k. k }

-- one argument
module _ {f : Files} {room : List ℕ} {p : Parts} {x : Spot} {n : ℕ} where
  pub one_none : SetsOne f room room p x n
  one_none ds us w left o c bs a e fr own v t u F T h A = set-none F

  pub one_set : {after : List ℕ} {q : Option ℕ} {j y : ℕ} → n < 1021 → OpenAt f room x p.own q → q ≡ Some j → y ≡ variable_word p.head j → after ≡ set room y (held (binding_word (Candidate (n - 1)))) → SetsOne f room after p x n
  one_set {j = j} l O i y h =
      subst (λ (m : List ℕ). SetsOne f room m p x n) (sym (h ∙ ap (λ (k : ℕ). set room k (held (binding_word (Candidate (n - 1))))) y))
      (λ ds us w left o c bs a e fr own v t u F T hold A.
      let (is, unset) = subst (OpenAs p.own (bindings_at room x) t) i (O t T) in
      let (below, long) = open-below p.own fr j (ap (λ (z : Bindings). is_open p.own z j) (sym hold) ∙ unset) in
      let few = member_below us (n - 1) (replaced us bs u) (A.candidate l bs (λ k q. refl)).0 in
      record {
        kept = write_keeps F j (Candidate (n - 1)) below;
        frame = set_to j (Candidate (n - 1)) fr;
        filling = filling-set F j (Candidate (n - 1)) below (omega (arith, few, F.ready.place.booked.candidates.few));
        follows = λ es gs B z k. set-becomes us p.own j (n - 1) fr gs long (ap (replaced us gs) (sym is) ∙ z ∙ candidate-meant us (n - 1) (replaced us es u) (A.candidate l es B).0) k;
      })

-- those from an offset on
module _ {f : Files} {room : List ℕ} {p : Parts} {i : ℕ} (asked : ℕ) where
  pub from-none : SetsFrom f room room p i asked
  from-none ds us w left o c bs a e fr own v ts ws F R A = set-none F

  pub from_next : {mid after s : List ℕ} {x : Spot} {b : Bool} {q : Option ℕ} {m : ℕ} → (asked ≡ 0 → ⊥) → s ≡ drop p.head.at (bytes_at f p.head) → b ≡ eqb (get_or s i 0) 41 → b ≡ false → PastAt s i 64 q → q ≡ Some m → x ≡ further p.head i
      → SetsOne f room mid p x (asked % 1024) → SetsFrom f mid after p m (asked / 1024) → SetsFrom f room after p i asked
  from_next {mid} {after} {s} {m = m} some es g h past next at one rest ds us w left o c bs a e fr own v ts ws F R A = go ts ws (subst (λ (l : List ℕ). Row p.head.count l i ts) (sym es) R) A
    where
      go : (ts ws : Terms) → Row p.head.count s i ts → Arguments us own bs v ws asked → SetBy f room after ds us w p left o c bs a e fr own (λ es gs. replaceds us gs ts ≡ replaceds us es ws)
      go Terms.nil ws R A = absurd (going s i g h (none-closes R.stands))
      go (Terms.cons t ts) Terms.nil R A = absurd (some A)
      go (Terms.cons t ts) (Terms.cons u ws) R A =
          let T = term-there f p.head t ts (λ k. file-small F.ready.place.booked k) es at R in
          let first = one ds us w left o c bs a e fr own v t u F T (ap (bindings_at room) at ∙ frame_is F) A.0 in
          let others = rest ds us w left o c bs a e first.frame own v ts ws first.filling (subst (λ (l : List ℕ). Row p.head.count l m ts) es (row_next t ts next past R)) A.1 in
          record {
            kept = keeps_then room mid after (omega arith) (omega arith) first.kept others.kept;
            frame = others.frame;
            filling = others.filling;
            follows = λ es gs B z k. others.follows es gs B (ap others_of z) (first.follows es gs B (ap first_of z) k);
          }

-- the whole head
module _ {f : Files} {room : List ℕ} {p : Parts} (asked : ℕ) where
  pub beside_none : SetsBeside f room room p asked
  beside_none ds us w left o c bs a e fr own v F y A = set-none F

  pub beside-all : {after s : List ℕ} {q : Option ℕ} {n : ℕ} → (asked ≡ 0 → ⊥) → s ≡ drop p.head.at (bytes_at f p.head) → PastAt s 7 0 q → q ≡ Some n → SetsFrom f room after p n asked → SetsBeside f room after p asked
  beside-all {after} {n = n} some es past next all ds us w left o c bs a e fr own v F y A = go (head_of e) (head-at F y)
    where
      go : (b : Atom) → AtomAt f p.head b → SetBy f room after ds us w p left o c bs a e fr own (λ es gs. replaced_atom us gs b ≡ replaced_atom us es a)
      go (Atom.atom m ts) X =
          let R = subst (λ (l : List ℕ). Row p.head.count l n ts) es (row-after m ts X es n (name-past m ts X es past next)) in
          let S = all ds us w left o c bs a e fr own v ts (arguments_of a) F R (A some) in
          record {
            kept = S.kept;
            frame = S.frame;
            filling = S.filling;
            follows = λ es gs B h k. S.follows es gs B (ap arguments_of h ∙ replaced-arguments us es a) k;
          }
