-- Provability sees terms, not bindings: a variable may as well be bound to any other candidate, or parameter, that stands for the same term (document 01, "When a strip fits": equality is of terms).
-- And it sees the variables that occur only: bindings are alike but for a property where each variable without it stands for the same term, and a goal that holds no variable with the property has the same answer in both.
-- Clauses at hand are alike where they are the same clauses with bindings that are alike but for variables that the clause does not hold.
use Prim.Native.Nat.{ℕ, zero, suc, ◌-◌}
use mathlib.Core.Path.{◌≡◌, refl, ◌∙◌, ap, ap₂}
use mathlib.Core.Bool.{Bool, false, ◌&&◌, ◌||◌}
use mathlib.Core.List.{List, [], ◌∷◌, ◌++◌}
use lib.ListN.{length}
use Rattle.harrop.specs.declared.Binding.{Binding}
use Rattle.harrop.specs.declared.Binding.TheVariants.{Candidate, Parameter}
use Rattle.harrop.specs.Formula.{Term, Terms, Atom, Goal, Clause}
use Rattle.harrop.specs.Bindings.{Bindings, meant, value_of, replaced, replaceds, replaced_atom, same_atom}
use Rattle.harrop.specs.Place.{Candidates, AtHand, Hand, Plain, End, allowed}
use Rattle.mentions.specs.Mentions.{inside, mentions_term, mentions_terms, mentions_atom, mentions_goal, mentions_clause}
use Rattle.proving.specs.Provable.{any_from, candidate_does, candidates_from, through, ending, clause_does, clauses_from, provable, serves}
use Rattle.proving.proofs.OccursLaws.{or-false, clause-never}

-- each variable stands for the same term
abbrev pub Alike : List Term → Bindings → Bindings → Type 0
Alike ts bs ds = (i : ℕ) → value_of ts bs i ≡ value_of ts ds i

pub alike-more : (ts : List Term) (b d : Binding) (bs ds : Bindings) → meant ts b ≡ meant ts d → Alike ts bs ds → Alike ts (b ∷ bs) (d ∷ ds)
alike-more ts b d bs ds e h zero = e
alike-more ts b d bs ds e h (suc i) = h i

-- each variable without a property does
abbrev pub AlikeBut : (ℕ → Bool) → List Term → Bindings → Bindings → Type 0
AlikeBut p ts bs ds = (i : ℕ) → p i ≡ false → value_of ts bs i ≡ value_of ts ds i

but-more : (p : ℕ → Bool) (ts : List Term) (b : Binding) (bs ds : Bindings) → AlikeBut p ts bs ds → AlikeBut (inside p) ts (b ∷ bs) (b ∷ ds)
but-more p ts b bs ds h zero n = refl
but-more p ts b bs ds h (suc i) n = h i n

module _ (p : ℕ → Bool) (ts : List Term) (bs ds : Bindings) (h : AlikeBut p ts bs ds) where
  mutual
    term-but : (t : Term) → mentions_term p t ≡ false → replaced ts bs t ≡ replaced ts ds t
    term-but (Term.v i) e = h i e
    term-but (Term.f g us) e = ap (Term.f g) (terms-but us e)
    term-but (Term.e k) e = refl

    terms-but : (us : Terms) → mentions_terms p us ≡ false → replaceds ts bs us ≡ replaceds ts ds us
    terms-but Terms.nil e = refl
    terms-but (Terms.cons t us) e =
        let (x, y) = or-false (mentions_term p t) (mentions_terms p us) e in
        ap₂ Terms.cons (term-but t x) (terms-but us y)

  pub atom-but : (a : Atom) → mentions_atom p a ≡ false → replaced_atom ts bs a ≡ replaced_atom ts ds a
  atom-but (Atom.atom n us) e = ap (Atom.atom n) (terms-but us e)

any-alike : (f g : ℕ → Bool) → ((i : ℕ) → f i ≡ g i) → (i n : ℕ) → any_from f i n ≡ any_from g i n
unfolding any_from
any-alike f g e i zero = refl
any-alike f g e i (suc n) = ap₂ ◌||◌ (e i) (any-alike f g e (suc i) n)

-- the same clause, with bindings that are alike but for variables that it does not hold
pub record AlikeClauses (ts : List Term) (x y : AtHand Plain) : Type 0 where
  pub same : x.clause ≡ y.clause
  pub but : ℕ → Bool
  pub free : mentions_clause but y.clause ≡ false
  pub alike : AlikeBut but ts x.bindings y.bindings

abbrev pub AlikeHands : List Term → Hand Plain → Hand Plain → Type 0
AlikeHands ts [] [] = Unit {0}
AlikeHands ts [] (y ∷ e) = ⊥
AlikeHands ts (x ∷ c) [] = ⊥
AlikeHands ts (x ∷ c) (y ∷ e) = AlikeClauses ts x y × AlikeHands ts c e

pub hands-same : (ts : List Term) (c : Hand Plain) → AlikeHands ts c c
hands-same ts [] = tt
hands-same ts (x ∷ c) = (record { same = refl; but = λ i. false; free = clause-never (λ i. false) (λ i. refl) x.clause; alike = λ i n. refl }, hands-same ts c)

hands-joined : (ts : List Term) (c e : Hand Plain) (d : Clause Plain) (p : ℕ → Bool) (bs ds : Bindings) → AlikeHands ts c e → mentions_clause p d ≡ false → AlikeBut p ts bs ds → AlikeHands ts (c ++ (record { clause = d; bindings = bs } ∷ [])) (e ++ (record { clause = d; bindings = ds } ∷ []))
hands-joined ts [] [] d p bs ds h m k = (record { same = refl; but = p; free = m; alike = k }, tt)
hands-joined ts [] (y ∷ e) d p bs ds h m k = absurd h
hands-joined ts (x ∷ c) [] d p bs ds h m k = absurd h
hands-joined ts (x ∷ c) (y ∷ e) d p bs ds h m k = (h.0, hands-joined ts c e d p bs ds h.1 m k)

hands-long : (ts : List Term) (c e : Hand Plain) → AlikeHands ts c e → length c ≡ length e
hands-long ts [] [] h = refl
hands-long ts [] (y ∷ e) h = absurd h
hands-long ts (x ∷ c) [] h = absurd h
hands-long ts (x ∷ c) (y ∷ e) h = ap suc (hands-long ts c e h.1)

module _ (cs : Candidates Plain) where
  -- what is asked of the end of a path answers the same
  abbrev pub Agree : (End Plain → Bool) → (End Plain → Bool) → Type 0
  Agree try try' =
      (p : ℕ → Bool) (bs ds : Bindings) → AlikeBut p cs.terms bs ds →
      ((a : Atom) → mentions_atom p a ≡ false → try (End.at_atom a bs) ≡ try' (End.at_atom a ds))
      × ((g : Goal Plain) (a : Atom) → mentions_goal p g ≡ false → mentions_atom p a ≡ false → try (End.at_imp g a bs) ≡ try' (End.at_imp g a ds))

  candidates-alike : (o : List Plain) (q : Plain) (f g : ℕ → Bool) → ((i : ℕ) → f i ≡ g i) → candidates_from cs o q f 0 ≡ candidates_from cs o q g 0
  unfolding candidates_from candidate_does
  candidates-alike o q f g e = any-alike (candidate_does cs o q f) (candidate_does cs o q g) (λ i. ap (λ (b : Bool). allowed cs o q i && b) (e i)) 0 (length cs.terms - 0)

  through-but : (o : List Plain) (d : Clause Plain) (p : ℕ → Bool) (bs ds : Bindings) (try try' : End Plain → Bool) → Agree try try' → mentions_clause p d ≡ false → AlikeBut p cs.terms bs ds → through cs o d bs try ≡ through cs o d ds try'
  unfolding through
  through-but o (Clause.atom_d a) p bs ds try try' e m h = (e p bs ds h).0 a m
  through-but o (Clause.imp_d g a) p bs ds try try' e m h =
      let (x, y) = or-false (mentions_goal p g) (mentions_atom p a) m in
      (e p bs ds h).1 g a x y
  through-but o (Clause.all_d q d) p bs ds try try' e m h =
      candidates-alike o q (λ i. through cs o d (Candidate i ∷ bs) try) (λ i. through cs o d (Candidate i ∷ ds) try')
      (λ i. through-but o d (inside p) (Candidate i ∷ bs) (Candidate i ∷ ds) try try' e m (but-more p cs.terms (Candidate i) bs ds h))
  through-but o (Clause.and_d c d) p bs ds try try' e m h =
      let (x, y) = or-false (mentions_clause p c) (mentions_clause p d) m in
      ap₂ ◌||◌ (through-but o c p bs ds try try' e x h) (through-but o d p bs ds try try' e y h)

  clause-alike : (o : List Plain) (c e : Hand Plain) (try try' : End Plain → Bool) → Agree try try' → AlikeHands cs.terms c e → (k : ℕ) → clause_does cs o c try k ≡ clause_does cs o e try' k
  unfolding clause_does
  clause-alike o [] [] try try' t h k = refl
  clause-alike o [] (y ∷ e) try try' t h k = absurd h
  clause-alike o (x ∷ c) [] try try' t h k = absurd h
  clause-alike o (x ∷ c) (y ∷ e) try try' t h zero =
      ap (λ (d : Clause Plain). through cs o d x.bindings try) h.0.same ∙ through-but o y.clause h.0.but x.bindings y.bindings try try' t h.0.free h.0.alike
  clause-alike o (x ∷ c) (y ∷ e) try try' t h (suc k) = clause-alike o c e try try' t h.1 k

  -- what the body's proof sees
  abbrev Sees : (Goal Plain → Bindings → Bool) → (Goal Plain → Bindings → Bool) → Type 0
  Sees prove prove' = (g : Goal Plain) (p : ℕ → Bool) (bs ds : Bindings) → mentions_goal p g ≡ false → AlikeBut p cs.terms bs ds → prove g bs ≡ prove' g ds

  ends-agree : (a a' : Atom) (prove prove' : Goal Plain → Bindings → Bool) → a ≡ a' → Sees prove prove' → Agree (ending cs a prove) (ending cs a' prove')
  unfolding ending
  ends-agree a a' prove prove' e s p bs ds h =
      (λ b m. ap₂ same_atom (atom-but p cs.terms bs ds h b m) e, λ g b n m. ap₂ ◌&&◌ (ap₂ same_atom (atom-but p cs.terms bs ds h b m) e) (s g p bs ds n h))

  pub provable-but : (h : ℕ) (o : List Plain) (c e : Hand Plain) (g : Goal Plain) (p : ℕ → Bool) (bs ds : Bindings) → AlikeHands cs.terms c e → mentions_goal p g ≡ false → AlikeBut p cs.terms bs ds → provable cs h o c bs g ≡ provable cs h o e ds g
  unfolding provable clauses_from
  provable-but zero o c e g p bs ds k m l = refl
  provable-but (suc h) o c e Goal.top p bs ds k m l = refl
  provable-but (suc h) o c e (Goal.atom a) p bs ds k m l =
      any-alike (clause_does cs o c (serves cs h o c bs a)) (clause_does cs o e (serves cs h o e ds a))
      (clause-alike o c e (serves cs h o c bs a) (serves cs h o e ds a)
      (ends-agree (replaced_atom cs.terms bs a) (replaced_atom cs.terms ds a) (λ g b. provable cs h o c b g) (λ g b. provable cs h o e b g) (atom-but p cs.terms bs ds l a m) (λ g q b b' n r. provable-but h o c e g q b b' k n r))
      k)
      0 (length c - 0)
      ∙ ap (λ (n : ℕ). any_from (clause_does cs o e (serves cs h o e ds a)) 0 (n - 0)) (hands-long cs.terms c e k)
  provable-but (suc h) o c e (Goal.and g g') p bs ds k m l =
      let (x, y) = or-false (mentions_goal p g) (mentions_goal p g') m in
      ap₂ ◌&&◌ (provable-but h o c e g p bs ds k x l) (provable-but h o c e g' p bs ds k y l)
  provable-but (suc h) o c e (Goal.or g g') p bs ds k m l =
      let (x, y) = or-false (mentions_goal p g) (mentions_goal p g') m in
      ap₂ ◌||◌ (provable-but h o c e g p bs ds k x l) (provable-but h o c e g' p bs ds k y l)
  provable-but (suc h) o c e (Goal.some q g) p bs ds k m l =
      candidates-alike o q (λ i. provable cs h o c (Candidate i ∷ bs) g) (λ i. provable cs h o e (Candidate i ∷ ds) g)
      (λ i. provable-but h o c e g (inside p) (Candidate i ∷ bs) (Candidate i ∷ ds) k m (but-more p cs.terms (Candidate i) bs ds l))
  provable-but (suc h) o c e (Goal.all q g) p bs ds k m l =
      provable-but h (q ∷ o) c e g (inside p) (Parameter (suc (length o)) ∷ bs) (Parameter (suc (length o)) ∷ ds) k m (but-more p cs.terms (Parameter (suc (length o))) bs ds l)
  provable-but (suc h) o c e (Goal.imp d g) p bs ds k m l =
      let (x, y) = or-false (mentions_clause p d) (mentions_goal p g) m in
      provable-but h o (c ++ (record { clause = d; bindings = bs } ∷ [])) (e ++ (record { clause = d; bindings = ds } ∷ [])) g p bs ds (hands-joined cs.terms c e d p bs ds k x l) y l

  -- so does a path through a clause
  pub passes-but : (h : ℕ) (o : List Plain) (c : Hand Plain) (a : Atom) (bs₀ : Bindings) (d : Clause Plain) (p : ℕ → Bool) (bs ds : Bindings) → mentions_clause p d ≡ false → AlikeBut p cs.terms bs ds → through cs o d bs (serves cs h o c bs₀ a) ≡ through cs o d ds (serves cs h o c bs₀ a)
  passes-but h o c a bs₀ d p bs ds m l =
      through-but o d p bs ds (serves cs h o c bs₀ a) (serves cs h o c bs₀ a)
      (ends-agree (replaced_atom cs.terms bs₀ a) (replaced_atom cs.terms bs₀ a) (λ g b. provable cs h o c b g) (λ g b. provable cs h o c b g) refl (λ g q b b' n r. provable-but h o c c g q b b' (hands-same cs.terms c) n r))
      m l

  pub passes-alike : (h : ℕ) (o : List Plain) (c : Hand Plain) (a : Atom) (bs₀ : Bindings) (d : Clause Plain) (bs ds : Bindings) → Alike cs.terms bs ds → through cs o d bs (serves cs h o c bs₀ a) ≡ through cs o d ds (serves cs h o c bs₀ a)
  passes-alike h o c a bs₀ d bs ds l = passes-but h o c a bs₀ d (λ i. false) bs ds (clause-never (λ i. false) (λ i. refl) d) (λ i n. l i)
