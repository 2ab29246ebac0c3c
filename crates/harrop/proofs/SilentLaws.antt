-- Where the search finds nothing there is no proof within the height.
use Prim.Native.Nat.{ℕ, zero, suc, ◌+◌, ◌≤◌}
use mathlib.Core.Path.{◌≡◌, refl, sym}
use mathlib.Core.List.{List, [], ◌∷◌, ◌++◌}
use mathlib.Core.Option.{Option, none, some}
use native.Mathlib.Omega.{arith}
use lib.ListN.{length, get_elem?}
use Rattle.basics.specs.Choice.{nope, ◌>>=◌}
use Rattle.harrop.specs.declared.Binding.TheVariants.{Candidate, Parameter}
use Rattle.harrop.specs.Formula.{Atom, Goal, Step, Strip, height}
use Rattle.harrop.specs.Bindings.{Bindings, replaced_atom}
use Rattle.harrop.specs.Place.{Candidates, AtHand, Hand, End}
use Rattle.harrop.specs.Proves.{Reaches, Proves, by-top, by_and, by_left, by_right, by-some, by_all, by-imp, by-use₀, by-use₁}
use Rattle.harrop.specs.Search.{first_path, at_end, first}
use Rattle.harrop.proofs.SameLaws.{equal-atoms-same}
use Rattle.harrop.proofs.ListLaws.{member_below}
use Rattle.harrop.proofs.HeightLaws.{no-strip-within-0}
use Rattle.harrop.proofs.SearchLaws.{from-none, dressed-none, candidate-none, path-none}

both-none : {A B C : Type 0} (f : A → B → C) (o : Option A) (o₁ : Option B) → (o >>= λ a. o₁ >>= λ b. some (f a b)) ≡ none → (o ≡ none → ⊥) → o₁ ≡ none
both-none f none o₁ e n = absurd (n refl)
both-none f (some a) o₁ e n = dressed-none (f a) o₁ e

pub or-none : (o o₁ : Option Strip) → ◌≡◌ {A = Option Strip} (elim o as (λ x. Option Strip) [ none ↦ (o₁ >>= λ R. some (Strip.right R)) | some P ↦ some (Strip.left P) ]) none → (o ≡ none) × (o₁ ≡ none)
or-none none o₁ e = (refl, dressed-none Strip.right o₁ e)
or-none (some b) o₁ e = nope (sym e)

module _ {Q : Type 0} (cs : Candidates Q) where
  -- what the search makes of the end of a path
  abbrev pub tried : ℕ → List Q → Hand Q → Bindings → Atom → ℕ → List Step → End Q → Option Strip
  tried h o c bs a k path x = at_end cs (replaced_atom cs.terms bs a) (λ g ds. first cs h o c ds g) k path x

  -- an end whose atom is the goal's and of which nothing comes: it has a body, and of the body nothing comes
  pub atom-not-silent : (h : ℕ) (o : List Q) (c : Hand Q) (bs bs₁ : Bindings) (a b : Atom) (k : ℕ) (path : List Step) → tried h o c bs a k path (End.at_atom b bs₁) ≡ none → replaced_atom cs.terms bs₁ b ≡ replaced_atom cs.terms bs a → ⊥
  atom-not-silent h o c bs bs₁ a b k path e s = nope (sym (rw (equal-atoms-same (replaced_atom cs.terms bs₁ b) (replaced_atom cs.terms bs a) s, at_end) at e))

  pub body-silent : (h : ℕ) (o : List Q) (c : Hand Q) (bs bs₁ : Bindings) (a b : Atom) (g : Goal Q) (k : ℕ) (path : List Step) → tried h o c bs a k path (End.at_imp g b bs₁) ≡ none → replaced_atom cs.terms bs₁ b ≡ replaced_atom cs.terms bs a → first cs h o c bs₁ g ≡ none
  body-silent h o c bs bs₁ a b g k path e s =
      dressed-none (λ (P : Strip). Strip.use₁ k path P) (first cs h o c bs₁ g) (rw (equal-atoms-same (replaced_atom cs.terms bs₁ b) (replaced_atom cs.terms bs a) s, at_end) at e)

  -- the search of an atom is silent: so is each clause and path
  pub use-silent : (h : ℕ) (o : List Q) (c : Hand Q) (bs : Bindings) (a : Atom) (k : ℕ) (d : AtHand Q) (path : List Step) (x : End Q) → first cs (suc h) o c bs (Goal.atom a) ≡ none → get_elem? c k ≡ some d → Reaches cs o d.clause d.bindings path x → tried h o c bs a k path x ≡ none
  use-silent h o c bs a k d path x e q r =
      let at : ℕ → Option Strip = λ k. get_elem? c k >>= λ d. first_path cs o d.clause d.bindings (tried h o c bs a k) in
      let z = from-none at 0 (length c) e k (omega arith) (omega (arith, member_below c k d q)) in
      path-none cs (tried h o c bs a k) r (rw q at z)

  pub silent-no-proof : (h : ℕ) (o : List Q) (c : Hand Q) (bs : Bindings) (g : Goal Q) (P : Strip) → Proves cs o c bs g P → height P ≤ h → first cs h o c bs g ≡ none → ⊥
  silent-no-proof zero o c bs g P t l e = no-strip-within-0 P l
  silent-no-proof (suc h) o c bs g P by-top l e = nope (sym e)
  silent-no-proof (suc h) o c bs g P (by_and {g = g₁} {h = g₂} {P = X} {R = Y} t u) l e =
      silent-no-proof h o c bs g₂ Y u (omega arith)
      (both-none Strip.and (first cs h o c bs g₁) (first cs h o c bs g₂) e (λ z. silent-no-proof h o c bs g₁ X t (omega arith) z))
  silent-no-proof (suc h) o c bs g P (by_left {g = g₁} {h = g₂} {P = X} t) l e =
      silent-no-proof h o c bs g₁ X t (omega arith) (or-none (first cs h o c bs g₁) (first cs h o c bs g₂) e).0
  silent-no-proof (suc h) o c bs g P (by_right {g = g₁} {h = g₂} {P = X} t) l e =
      silent-no-proof h o c bs g₂ X t (omega arith) (or-none (first cs h o c bs g₁) (first cs h o c bs g₂) e).1
  silent-no-proof (suc h) o c bs g P (by-some {q = q} {g = g₁} {i = i} {P = X} m t) l e =
      silent-no-proof h o c (Candidate i ∷ bs) g₁ X t (omega arith)
      (dressed-none (λ (R : Strip). Strip.some i R) (first cs h o c (Candidate i ∷ bs) g₁) (candidate-none cs o q (λ i. first cs h o c (Candidate i ∷ bs) g₁ >>= λ R. some (Strip.some i R)) e i m))
  silent-no-proof (suc h) o c bs g P (by_all {q = q} {g = g₁} {P = X} t) l e =
      silent-no-proof h (q ∷ o) c (Parameter (suc (length o)) ∷ bs) g₁ X t (omega arith) (dressed-none Strip.all _ e)
  silent-no-proof (suc h) o c bs g P (by-imp {d = d} {g = g₁} {P = X} t) l e =
      silent-no-proof h o (c ++ (record { clause = d; bindings = bs } ∷ [])) bs g₁ X t (omega arith) (dressed-none Strip.imp _ e)
  silent-no-proof (suc h) o c bs g P (by-use₀ {bs₁ = bs₁} {a = a} {b = b} {h = d} {k = k} {path = path} q r s) l e =
      atom-not-silent h o c bs bs₁ a b k path (use-silent h o c bs a k d path (End.at_atom b bs₁) e q r) s
  silent-no-proof (suc h) o c bs g P (by-use₁ {bs₁ = bs₁} {a = a} {b = b} {h = d} {g = g₁} {k = k} {path = path} {P = X} q r s t) l e =
      silent-no-proof h o c bs₁ g₁ X t (omega arith) (body-silent h o c bs bs₁ a b g₁ k path (use-silent h o c bs a k d path (End.at_imp g₁ b bs₁) e q r) s)
