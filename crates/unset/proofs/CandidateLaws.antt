-- The candidates beside the term at a spot: which of them is the term, and the lowest that is: those with another number are not looked at (document 02, Three).
use Prim.Native.Nat.{ℕ, ◌+◌, ◌≤◌, ◌<◌}
use mathlib.Core.Path.{◌≡◌, refl, sym, ◌∙◌, ap, subst}
use mathlib.Core.Bool.{Bool, true, false, false≢true}
use mathlib.Core.List.{List}
use mathlib.Core.Option.{some}
use native.Mathlib.Omega.{arith}
use lib.Dec.{ltb}
use lib.ListN.{length, get_or, drop, get_elem?}
use borrow.Author.Tests.{ltb-true, ltb-false}
use Rattle.basics.specs.Tells.{Tells, told-yes}
use Rattle.basics.specs.Text.{octets}
use Rattle.harrop.specs.declared.Binding.{Binding}
use Rattle.harrop.specs.declared.Binding.TheVariants.{Candidate}
use Rattle.harrop.specs.Formula.{Term}
use Rattle.harrop.specs.Bindings.{meant, replaced, same_term}
use Rattle.harrop.proofs.ListLaws.{below-member}
use Rattle.harrop.proofs.SameLaws.{same-terms-equal, equal-terms-same}
use Rattle.std.specs.Option.{unwrap_or}
use Rattle.std.specs.Prelude.{Option, Some, None}
use Rattle.sexp.specs.Sexp.{str, Stands}
use Rattle.sexp.specs.WordsAt.{NumberAt}
use Rattle.packet.specs.Written.{term_sexp}
use Rattle.room.specs.Frame.{bound_to}
use Rattle.room.specs.Spot.{bindings_at}
use Rattle.room.specs.Table.{CandidatesIn}
use Rattle.equal.specs.Term.{TermAt, SameTerms}
use Rattle.room.specs.Files.{Files}
use Rattle.room.specs.declared.Source.TheVariants as Source
use Rattle.room.specs.declared.Spot.{Spot}
use Rattle.room.proofs.FrameLaws.{bound-means}
use Rattle.room.proofs.NestLaws.{replaced-nests}
use Rattle.equal.proofs.SeeLaws.{number_read}
use Rattle.equal.proofs.TermLaws.{part-stands, term-word, term-text, text-once, closed-stays}
use Rattle.heads.specs.Predicate.{bytes_at}
use Rattle.mentions.specs.Open.{is_open}
use Rattle.keys.specs.Key.{term_key}
use Rattle.keys.specs.Keys.{CandidateKeys, TermKeyAt, NextCandidate}
use Rattle.keys.proofs.WalkLaws.{candidate-meant, no-f-v, no-e-v}
use Rattle.unset.specs.Head.{candidate_spot, Numbered, IsCandidate, NoneOf, LowestOf, LowestAt, BoundTo, CandidateOf, CandidateAt, OpenAt}

-- a spot of the terms file with no frame
abbrev pub terms_spot : ℕ → Spot
terms_spot at = record { source = Source.Terms; at = at; base = 0; count = 0 }

-- the bytes decide
pub bytes-decide : (f : Files) (room : List ℕ) (y : Spot) (i : ℕ) {z : Spot} {r : Bool} → z ≡ candidate_spot room i → SameTerms f room z y 128 r → IsCandidate f room y i r
bytes-decide f room y i {r = r} e M us t u C T m =
    let here : TermAt f (candidate_spot room i) t = record { stands = C.starts i t m; shallow = C.shallow i t m; few = omega arith; holds = true; ok = C.closed i t m } in
    let n = replaced-nests us C.shallow (bindings_at room (candidate_spot room i)) t in
    let M' = subst (λ (v : Spot). SameTerms f room v y 128 r) e M in
    M' us t u C here T (omega (arith, n, C.shallow i t m))
    ∙ ap (λ (v : Term). same_term v (replaced us (bindings_at room y) u)) (closed-stays us (bindings_at room (candidate_spot room i)) true t (C.closed i t m))

-- the candidates with the number, one after the other: none of the first i, of n, is the term at the spot
abbrev pub NoneBelow : Files → List ℕ → Spot → ℕ → ℕ → ℕ → Type 0
NoneBelow f room y key n i = Numbered f room y key (λ us w. n ≤ length us → NoneOf us i w)

module _ (f : Files) (room : List ℕ) (y : Spot) (key n : ℕ) where
  -- those with another number are other terms
  none-on : {from r : ℕ} → NoneBelow f room y key n from → NextCandidate room key from n r → NoneBelow f room y key n r
  none-on {from} N X us u C K T q few j l e = go (ltb j from) refl
    where
      go : (b : Bool) → ltb j from ≡ b → ⊥
      go true h = N us u C K T q few j (ltb-true j from h) e
      go false h = X.other (length us) K.chains few j (ltb-false j from h) l (K.numbers j (replaced us (bindings_at room y) u) e ∙ sym q)

  pub none_first : {r : ℕ} → NextCandidate room key 0 n r → NoneBelow f room y key n r
  none_first X = none-on {from = 0} (λ us u C K T q few j l e. absurd (omega arith)) X

  pub lowest-none : {i : ℕ} → n ≤ i → NoneBelow f room y key n i → LowestAt f room y key n None
  lowest-none l N us u C K T q few = λ j h. N us u C K T q few j (omega arith)

  module _ (i : ℕ) {r : Bool} (M : IsCandidate f room y i r) where
    pub lowest-found : i < n → r ≡ true → NoneBelow f room y key n i → LowestAt f room y key n (Some i)
    lowest-found l o N us u C K T q few =
        let w = replaced us (bindings_at room y) u in
        let (t, e) = below-member us i (omega arith) in
        (l, e ∙ ap some (same-terms-equal t w (sym (M us t u C T e) ∙ o)), N us u C K T q few)

    pub none-next : {k : ℕ} → r ≡ false → NoneBelow f room y key n i → NextCandidate room key (i + 1) n k → NoneBelow f room y key n k
    none-next o N X = none-on {from = i + 1} (λ us u C K T q few j l e. go us u C K T q few j l e (ltb j i) refl) X
      where
        go : (us : List Term) (u : Term) → CandidatesIn room f.terms us → CandidateKeys room us → TermAt f y u → key ≡ term_key (replaced us (bindings_at room y) u) → n ≤ length us
            → (j : ℕ) → j < i + 1 → get_elem? us j ≡ some (replaced us (bindings_at room y) u) → (b : Bool) → ltb j i ≡ b → ⊥
        go us u C K T q few j l e true h = N us u C K T q few j (ltb-true j i h) e
        go us u C K T q few j l e false h =
            let k : j ≡ i = omega (arith, ltb-false j i h, l) in
            let w = replaced us (bindings_at room y) u in
            false≢true (sym o ∙ M us w u C T (subst (λ (m : ℕ). get_elem? us m ≡ some w) k e) ∙ equal-terms-same w w refl)

-- a variable that is read at a spot stands there
variable-is : {f : Files} {y : Spot} {s : List ℕ} {r : Bool} {v : Option ℕ} {j : ℕ} → s ≡ drop y.at (bytes_at f y) → Tells r (Stands s 1 (str (octets "v"))) → r ≡ true → NumberAt s 4 v → v ≡ Some j → (u : Term) → TermAt f y u → u ≡ Term.v j
variable-is {f} {y} {s} {v = v} {j = j} e h i n k u T = go u T (subst (λ (p : List ℕ). Stands p 0 (term_sexp u)) (sym e) (part-stands T.stands))
  where
    go : (u : Term) → TermAt f y u → Stands s 0 (term_sexp u) → u ≡ Term.v j
    go (Term.v m) T g =
        let l = ltb-true m y.count T.ok in
        let z = number_read m v (term-text (Term.v m) g) (omega (arith, l, T.few)) n in
        let same : m ≡ j = cc in
        ap Term.v same
    go (Term.f g' ts) T g = absurd (no-f-v (text-once (term-word (Term.f g' ts) g) (told-yes i h)))
    go (Term.e m) T g = absurd (no-e-v (text-once (term-word (Term.e m) g) (told-yes i h)))

-- the candidate that the variable at a spot is bound to, and whether it is unset
module _ (f : Files) (room : List ℕ) (y : Spot) where
  pub open-nowhere : (own : ℕ) → OpenAt f room y own None
  open-nowhere own t T = tt

  module _ {s : List ℕ} {r : Bool} {v : Option ℕ} {j : ℕ} (e : s ≡ drop y.at (bytes_at f y)) (h : Tells r (Stands s 1 (str (octets "v")))) (i : r ≡ true) (n : NumberAt s 4 v) (k : v ≡ Some j) where
    pub bound-there : {c : ℕ} {b : Binding} → b ≡ bound_to (bindings_at room y) j → b ≡ Candidate c → BoundTo f room y (Some c)
    bound-there {c} q o us u C T l =
        let (t, m) = below-member us c l in
        m
        ∙ ap some (candidate-meant us c t m ∙ sym (ap (replaced us (bindings_at room y)) (variable-is e h i n k u T) ∙ sym (bound-means us (bindings_at room y) j) ∙ ap (meant us) (sym q ∙ o)))

    pub open-there : (own : ℕ) {b : Bool} → b ≡ is_open own (bindings_at room y) j → b ≡ true → OpenAt f room y own (Some j)
    open-there own q o t T = (variable-is e h i n k t T, sym q ∙ o)

  -- the lowest of those before it, or itself
  pub bound-serves : {n c k m : ℕ} {b : Option ℕ} (r : Option ℕ) → n ≡ get_or room 257 0 → BoundTo f room y b → b ≡ Some c → c < n → k ≡ get_or room (3456 + c) 0 → LowestAt f room y k c r → m ≡ unwrap_or r c → CandidateAt f room y (Some m)
  bound-serves {c = c} {k} {m} r e B z l q L o us u C K T =
      let w = replaced us (bindings_at room y) u in
      let i = subst (BoundTo f room y) z B us u C T (omega (arith, C.counted)) in
      subst (λ (d : ℕ). CandidateOf us w (Some d)) (sym o) (go r w i (L us u C K T (q ∙ K.numbers c w i) (omega (arith, C.counted))))
    where
      go : (r : Option ℕ) (w : Term) → get_elem? us c ≡ some w → LowestOf us c w r → CandidateOf us w (Some (unwrap_or r c))
      go (Some d) w i low = (low.1, low.2)
      go None w i low = (i, low)

  -- the lowest of all, or none
  pub lowest-serves : {n k : ℕ} (r : Option ℕ) → n ≡ get_or room 257 0 → TermKeyAt f room y k → LowestAt f room y k n r → CandidateAt f room y r
  lowest-serves (Some i) e t L us u C K T = let low = L us u C K T (t us u C K T) (omega (arith, C.counted)) in (low.1, low.2)
  lowest-serves None e t L us u C K T = λ i h. L us u C K T (t us u C K T) (omega (arith, C.counted)) i (omega (arith, C.counted))
