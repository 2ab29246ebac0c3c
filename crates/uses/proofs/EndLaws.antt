-- The end of a path (document 01, "When a strip fits"): it ends exactly at an atom or at G implies atom; that atom, variables replaced, equals the goal's; a third part is
-- there exactly if an implication was reached.
use Rattle.std.specs.Prelude as code
use Rattle.std.specs.Prelude.{Some, None}
use Prim.Native.Nat.{ℕ, ◌+◌, ◌≤◌}
use native.Mathlib.Omega.{arith}
use mathlib.Core.Path.{◌≡◌, refl, sym, ◌∙◌, ap, ap₂, subst}
use mathlib.Core.Bool.{Bool, true, false}
use mathlib.Core.List.{List, [], ◌∷◌}
use mathlib.Core.Option.{Option, none, some}
use lib.ListN.{length, get_or, drop, length-drop}
use Rattle.basics.specs.Choice.{provided, both_true}
use Rattle.basics.specs.Text.{octets}
use Rattle.harrop.specs.Formula.{Term, Atom, Goal, Clause, Step, Strip}
use Rattle.harrop.specs.Bindings.{Bindings, replaced_atom, same_atom}
use Rattle.harrop.specs.Place.{Hand, End, Plain, follow, listed}
use Rattle.harrop.specs.Check.{Judged, here, check}
use Rattle.sexp.specs.Past.{Ends}
use Rattle.sexp.specs.Sexp.{Sexp, Sexps, Stands, nesting, nestings}
use Rattle.sexp.proofs.OntoLaws.{spell-some}
use Rattle.sexp.proofs.StandLaws.{members-stand, first-stands, others-stand, none-closes, no-closing, stands-inside, cons-length}
use Rattle.packet.specs.Written.{one, two, number, each, atom_sexp, goal_sexp, clause_sexp, step_sexp, path_sexp, strip_sexp}
use Rattle.packet.specs.Barred.{atom_ok, goal_ok, clause_ok}
use Rattle.packet.specs.Offset.{width}
use Rattle.room.specs.Layout.{levels}
use Rattle.room.specs.Spot.{bindings_at, moved_to}
use Rattle.room.specs.Files.{Files, file_of}
use Rattle.equal.specs.Term.{AtomAt, SameAtoms}
use Rattle.room.specs.declared.Spot.{Spot}
use Rattle.room.specs.declared.Where.{Where}
use Rattle.room.proofs.FrameLaws.{frame-length}
use Rattle.room.proofs.MoveLaws.{hand-higher}
use Rattle.uses.specs.Walk.{Means, Told}
use Rattle.uses.specs.Use.{use_of, concluded, matched, Heads, Headed, AtEnd}
use Rattle.uses.specs.declared.Entered.TheVariants as E
use Rattle.uses.specs.declared.uses.Head.{Head}
use Rattle.uses.specs.declared.uses.Head.TheVariants as H
use Rattle.uses.proofs.HeadLaws.{after-word, part-stands, whole-stands-at, word_width}
use Rattle.uses.proofs.NodeLaws.{heads, first_part, second-part, two-width, ends_is}
use Rattle.uses.proofs.PathLaws.{clause-word, step-flat}

-- what a clause is where its part of the file begins
module _ (file s : List ℕ) (x : Spot) (p : s ≡ drop x.at file) where
  here-stands : {e : Sexp} → Stands file x.at e → Stands s 0 e
  here-stands {e} h = subst (λ (t : List ℕ). Stands t 0 e) (sym p) (part-stands h)

  there-stands : (i : ℕ) {e : Sexp} → Stands s i e → Stands file (x.at + i) e
  there-stands i {e} h = whole-stands-at file x.at i (subst (λ (t : List ℕ). Stands t i e) p h)

  pub head-fact : (e : Clause Plain) → Stands s 1 (Sexp.str (octets "atom")) → Stands file x.at (clause_sexp e) → Heads file x e (Some (H.Fact x))
  head-fact (Clause.atom_d b) w k = (b, refl, refl)
  head-fact (Clause.imp_d g a) w k = absurd (omega (arith, clause-word s (octets "atom") (octets "imp") _ (here-stands k) w))
  head-fact (Clause.all_d q d) w k = absurd (omega (arith, clause-word s (octets "atom") (octets "all") _ (here-stands k) w))
  head-fact (Clause.and_d c d) w k = absurd (omega (arith, clause-word s (octets "atom") (octets "and") _ (here-stands k) w))

  pub head-neither : (e : Clause Plain) → (Stands s 1 (Sexp.str (octets "atom")) → ⊥) → (Stands s 1 (Sexp.str (octets "imp")) → ⊥) → Stands file x.at (clause_sexp e) → Heads file x e None
  head-neither (Clause.atom_d (Atom.atom n ts)) u v k = absurd (u (first-stands (members-stand (here-stands k))))
  head-neither (Clause.imp_d g a) u v k = absurd (v (first-stands (members-stand (here-stands k))))
  head-neither (Clause.all_d q d) u v k = λ us o bs. refl
  head-neither (Clause.and_d c d) u v k = λ us o bs. refl

  pub head-lost : (e : Clause Plain) → Stands s 1 (Sexp.str (octets "imp")) → ((y : Sexp) → Stands s 6 y → nesting y ≤ levels → ⊥) → Stands file x.at (clause_sexp e) → nesting (clause_sexp e) ≤ levels → ⊥
  head-lost (Clause.atom_d (Atom.atom n ts)) w f k l = omega (arith, clause-word s (octets "imp") (octets "atom") _ (here-stands k) w)
  head-lost (Clause.imp_d g a) w f k l = f (goal_sexp g) (first_part (octets "imp") heads.1.1.1.1.1.1.1.0 (here-stands k)) (omega arith)
  head-lost (Clause.all_d q d) w f k l = omega (arith, clause-word s (octets "imp") (octets "all") _ (here-stands k) w)
  head-lost (Clause.and_d c d) w f k l = omega (arith, clause-word s (octets "imp") (octets "and") _ (here-stands k) w)

  -- the offsets of both parts are inside the file
  pub head-bound : (n : ℕ) → Ends s 6 levels n → (x.at + 6 ≤ length file) × (x.at + n ≤ length file)
  head-bound n f =
      let l = ap length p ∙ length-drop x.at file in
      let i = stands-inside f.stands in
      let m = spell-some f.expression in
      (omega (arith, f.ends), omega (arith, f.ends))

  pub head-implies : (e : Clause Plain) (n : ℕ) (y z : Spot) → Stands s 1 (Sexp.str (octets "imp")) → Ends s 6 levels n → y ≡ moved_to x (x.at + 6) → z ≡ moved_to x (x.at + n) → Stands file x.at (clause_sexp e) → Heads file x e (Some (H.Implies y z))
  head-implies (Clause.atom_d (Atom.atom m ts)) n y z w f p q k = absurd (omega (arith, clause-word s (octets "imp") (octets "atom") _ (here-stands k) w))
  head-implies (Clause.imp_d g a) n y z w f p q k =
      let h = first_part (octets "imp") heads.1.1.1.1.1.1.1.0 (here-stands k) in
      let t = second-part (octets "imp") heads.1.1.1.1.1.1.1.0 (here-stands k) in
      (g, a, refl, p, x.at + n, q, there-stands 6 h, there-stands n (subst (λ (i : ℕ). Stands s i (atom_sexp a)) (omega (arith, ends_is h f)) t))
  head-implies (Clause.all_d o d) n y z w f p q k = absurd (omega (arith, clause-word s (octets "imp") (octets "all") _ (here-stands k) w))
  head-implies (Clause.and_d c d) n y z w f p q k = absurd (omega (arith, clause-word s (octets "imp") (octets "and") _ (here-stands k) w))

-- what is past an expression is inside the bytes
pub ends-inside : {s : List ℕ} {at nest n : ℕ} → Ends s at nest n → n ≤ length s
ends-inside e = omega (arith, e.ends, stands-inside e.stands)

-- a path nests once
steps-flat : (path : List Step) → nestings (each step_sexp path) ≡ 0
steps-flat [] = refl
steps-flat (s ∷ path) = omega (arith, step-flat s, steps-flat path)

pub path-nests : (path : List Step) → nesting (path_sexp path) ≤ 1
path-nests path = omega (arith, steps-flat path)

-- the parts of a `use`: its number, its path, and its third part
module _ (ss : List ℕ) (at k : ℕ) (steps : List Step) where
  pub use-number : (more : Option Strip) → Stands ss at (strip_sexp (use_of k steps more)) → Stands ss (at + 6) (number k)
  use-number none h = first_part (octets "use") heads.1.1.1.1.1.1.1.1 h
  use-number (some X) h = first_part (octets "use") heads.1.1.1.1.1.1.1.1 h

  pub use-path : (more : Option Strip) (path : ℕ) → path ≡ at + 6 + width (number k) → Stands ss at (strip_sexp (use_of k steps more)) → Stands ss path (path_sexp steps)
  use-path none path e h = subst (λ (i : ℕ). Stands ss i (path_sexp steps)) (omega (arith, e)) (second-part (octets "use") heads.1.1.1.1.1.1.1.1 h)
  use-path (some X) path e h = subst (λ (i : ℕ). Stands ss i (path_sexp steps)) (omega (arith, e)) (second-part (octets "use") heads.1.1.1.1.1.1.1.1 h)

  module _ (path next : ℕ) (e : path ≡ at + 6 + width (number k)) (f : next ≡ path + width (path_sexp steps)) where
    pub third-stands : (X : Strip) → Stands ss at (strip_sexp (use_of k steps (some X))) → Stands ss next (strip_sexp X)
    third-stands X h = let u = heads.1.1.1.1.1.1.1.1 in subst (λ (i : ℕ). Stands ss i (strip_sexp X)) (omega arith) (first-stands (others-stand (others-stand (after-word h))))

    pub third-closes : Stands ss at (strip_sexp (use_of k steps none)) → get_or ss next 0 ≡ 41
    third-closes h = let u = heads.1.1.1.1.1.1.1.1 in ap (λ (i : ℕ). get_or ss i 0) (omega arith) ∙ none-closes (others-stand (others-stand (after-word h)))

    pub none-wide : next + 1 ≡ at + width (strip_sexp (use_of k steps none))
    none-wide = let u = two-width (octets "use") heads.1.1.1.1.1.1.1.1 (number k) (path_sexp steps) in omega arith

    pub some-wide : (X : Strip) → at + width (strip_sexp (use_of k steps (some X))) ≡ next + width (strip_sexp X) + 1
    some-wide X =
        let u = heads.1.1.1.1.1.1.1.1 in
        let v = word_width (octets "use") (Sexps.cons (number k) (two (path_sexp steps) (strip_sexp X))) in
        let a = cons-length (number k) (two (path_sexp steps) (strip_sexp X)) in
        let b = cons-length (path_sexp steps) (one (strip_sexp X)) in
        let c = cons-length (strip_sexp X) Sexps.nil in
        omega arith

-- what a node says by its third part
module _ (us : List Term) (o : List Plain) (c : Hand Plain) where
  pub shut_none : (more : Option Strip) → concluded (listed us) o c more none ≡ here
  shut_none none = refl
  shut_none (some X) = refl

  fact-some : (X : Strip) (b : Atom) (bs : Bindings) (t : Bool) → concluded (listed us) o c (some X) (provided t (some (End.at_atom b bs))) ≡ here
  fact-some X b bs true = refl
  fact-some X b bs false = refl

  imp-none : (g : Goal Plain) (b : Atom) (bs : Bindings) (t : Bool) → concluded (listed us) o c none (provided t (some (End.at_imp g b bs))) ≡ here
  imp-none g b bs true = refl
  imp-none g b bs false = refl

module _ (f : Files) (ss room : List ℕ) (ds : List (Clause Plain)) (us : List Term) (w : Where) (at path k : ℕ) (steps : List Step) (o : List Plain) (c : Hand Plain) (bs : Bindings) (a : Atom) (x : Spot) (end : ℕ) (e : Clause Plain) (bs' : Bindings) where
  abbrev At : Option Strip → Type 0
  At more = AtEnd f ss room ds us w at path k steps more o c bs a x end e bs'

  abbrev Said : Option Strip → Judged
  Said more = concluded (listed us) o c more (matched us bs a (follow (listed us) o e bs' []))

  abbrev Same : Atom → Bool
  Same b = same_atom (replaced_atom us bs' b) (replaced_atom us bs a)

  -- the path is found, and what it ended at
  pub end-found : (more : Option Strip) → At more → ((y : Sexp) → Stands ss path y → nesting y ≤ 1 → ⊥) → ⊥
  end-found more h n = n (path_sexp steps) (use-path ss at k steps more path h.node.offset h.node.stands) (path-nests steps)

  pub end-next : (more : Option Strip) → At more → (next : ℕ) → Ends ss path 1 next → next ≡ path + width (path_sexp steps)
  end-next more h next n = ends_is (use-path ss at k steps more path h.node.offset h.node.stands) n

  pub end-heads : (more : Option Strip) → At more → {r t : code.Option Head} → r ≡ t → Headed (file_of f x.source) x r → Heads (file_of f x.source) x e t
  end-heads more h q n = subst (λ (y : code.Option Head). Heads (file_of f x.source) x e y) q (n e h.clause.stands (omega (arith, h.clause.shallow)))

  -- the goal's atom, and the answer whether another equals it
  goal-atom : (more : Option Strip) → At more → AtomAt f w.goal a
  goal-atom more h =
      let p = h.node.place in
      let l = p.framed.shallow in
      record {
        stands = p.framed.stands;
        shallow = omega arith;
        few = omega arith;
        ok = subst (λ (i : ℕ). atom_ok i a ≡ true) (ap length (sym p.framed.holds) ∙ frame-length room w.goal.base w.goal.count) p.scoped;
      }

  same-there : (more : Option Strip) → At more → (y : Spot) (b : Atom) (r : Bool) → AtomAt f y b → bindings_at room y ≡ bs' → SameAtoms f room y w.goal r → r ≡ Same b
  same-there more h y b r t q s =
      s us b a h.node.place.booked.candidates t (goal-atom more h)
      ∙ ap₂ (λ (p r : Bindings). same_atom (replaced_atom us p b) (replaced_atom us r a)) q h.node.place.framed.holds

  pub end-nothing : (more : Option Strip) → At more → Heads (file_of f x.source) x e None → Said more ≡ here
  end-nothing more h n = ap (λ (y : Option (End Plain)). concluded (listed us) o c more (matched us bs a y)) (n us o bs') ∙ shut_none us o c more

  -- at a fact
  module _ {b : Atom} (q : e ≡ Clause.atom_d b) where
    says-fact : (more : Option Strip) → Said more ≡ concluded (listed us) o c more (provided (Same b) (some (End.at_atom b bs')))
    says-fact more = ap (λ (y : Clause Plain). concluded (listed us) o c more (matched us bs a (follow (listed us) o y bs' []))) q

    fact-same : (more : Option Strip) → At more → (y : Spot) (r : Bool) → y ≡ x → SameAtoms f room y w.goal r → r ≡ Same b
    fact-same more h y r p s =
        let l = subst (λ (y : Clause Plain). x.count + nesting (clause_sexp y) ≤ levels) q h.clause.shallow in
        same-there more h x b r
        (record {
          stands = subst (λ (y : Clause Plain). Stands (file_of f x.source) x.at (clause_sexp y)) q h.clause.stands;
          shallow = omega arith;
          few = omega arith;
          ok = subst (λ (y : Clause Plain). clause_ok x.count y ≡ true) q h.clause.scoped;
        })
        h.clause.holds (subst (λ (z : Spot). SameAtoms f room z w.goal r) p s)

    pub fact-open : (more : Option Strip) → At more → (next : ℕ) → next ≡ path + width (path_sexp steps) → (get_or ss next 0 ≡ 41 → ⊥) → Said more ≡ here
    fact-open none h next m n = absurd (n (third-closes ss at k steps path next h.node.offset m h.node.stands))
    fact-open (some X) h next m n = says-fact (some X) ∙ fact-some us o c X b bs' (Same b)

    pub fact-differs : (more : Option Strip) → At more → (y : Spot) (r : Bool) → y ≡ x → SameAtoms f room y w.goal r → r ≡ false → Said more ≡ here
    fact-differs more h y r p s t =
        says-fact more
        ∙ ap (λ (u : Bool). concluded (listed us) o c more (provided u (some (End.at_atom b bs')))) (sym (fact-same more h y r p s) ∙ t)
        ∙ shut_none us o c more

    pub fact-fits : (more : Option Strip) → At more → (next : ℕ) → next ≡ path + width (path_sexp steps) → get_or ss next 0 ≡ 41 → (y : Spot) (r : Bool) → y ≡ x → SameAtoms f room y w.goal r → r ≡ true → Told f ss room ds us w at (use_of k steps more) (Said more) (Some (E.Leaf (next + 1)))
    fact-fits none h next m n y r p s t = (
      says-fact none ∙ ap (λ (u : Bool). concluded (listed us) o c none (provided u (some (End.at_atom b bs')))) (sym (fact-same none h y r p s) ∙ t),
      none-wide ss at k steps path next h.node.offset m,
    )
    fact-fits (some X) h next m n y r p s t = absurd (no-closing (third-stands ss at k steps path next h.node.offset m X h.node.stands) n)

  -- at an implication
  module _ {g : Goal Plain} {b : Atom} (q : e ≡ Clause.imp_d g b) where
    says-imp : (more : Option Strip) → Said more ≡ concluded (listed us) o c more (provided (Same b) (some (End.at_imp g b bs')))
    says-imp more = ap (λ (y : Clause Plain). concluded (listed us) o c more (matched us bs a (follow (listed us) o y bs' []))) q

    imp-shallow : (more : Option Strip) → At more → x.count + nesting (clause_sexp (Clause.imp_d g b)) ≤ levels
    imp-shallow more h = subst (λ (y : Clause Plain). x.count + nesting (clause_sexp y) ≤ levels) q h.clause.shallow

    imp-scoped : (more : Option Strip) → At more → (goal_ok x.count g ≡ true) × (atom_ok x.count b ≡ true)
    imp-scoped more h = both_true (goal_ok x.count g) (atom_ok x.count b) (subst (λ (y : Clause Plain). clause_ok x.count y ≡ true) q h.clause.scoped)

    imp-same : (more : Option Strip) → At more → (i : ℕ) (y : Spot) (r : Bool) → y ≡ moved_to x i → Stands (file_of f x.source) i (atom_sexp b) → SameAtoms f room y w.goal r → r ≡ Same b
    imp-same more h i y r p t s =
        let l = imp-shallow more h in
        same-there more h (moved_to x i) b r
        (record { stands = t; shallow = omega arith; few = omega arith; ok = (imp-scoped more h).1 })
        h.clause.holds
        (subst (λ (z : Spot). SameAtoms f room z w.goal r) p s)

    pub imp-shut : (more : Option Strip) → At more → (next : ℕ) → next ≡ path + width (path_sexp steps) → get_or ss next 0 ≡ 41 → Said more ≡ here
    imp-shut none h next m n = says-imp none ∙ imp-none us o c g b bs' (Same b)
    imp-shut (some X) h next m n = absurd (no-closing (third-stands ss at k steps path next h.node.offset m X h.node.stands) n)

    pub imp-differs : (more : Option Strip) → At more → (i : ℕ) (y : Spot) (r : Bool) → y ≡ moved_to x i → Stands (file_of f x.source) i (atom_sexp b) → SameAtoms f room y w.goal r → r ≡ false → Said more ≡ here
    imp-differs more h i y r p t s z =
        says-imp more
        ∙ ap (λ (u : Bool). concluded (listed us) o c more (provided u (some (End.at_imp g b bs')))) (sym (imp-same more h i y r p t s) ∙ z)
        ∙ shut_none us o c more

    -- the place of the third part
    imp-means : (more : Option Strip) → At more → Stands (file_of f x.source) (x.at + 6) (goal_sexp g) → Means f room ds us (record { goal = moved_to x (x.at + 6); supposed = w.supposed; parameters = w.parameters; top = end }) o c bs' g
    imp-means more h t =
        let p = h.node.place in
        let l = imp-shallow more h in
        record {
          booked = p.booked;
          framed =
              record {
                stands = t;
                above = omega (arith, p.framed.above, p.framed.below, h.fresh);
                below = omega (arith, h.ends);
                holds = h.clause.holds;
                shallow = omega arith;
              };
          scoped = subst (λ (i : ℕ). goal_ok i g ≡ true) (sym (frame-length room x.base x.count) ∙ ap length h.clause.holds) (imp-scoped more h).0;
          tight = h.ends;
          openly = p.openly;
          hand = hand-higher (omega (arith, h.fresh, h.ends)) p.hand;
        }

    pub imp-fits : (more : Option Strip) → At more → (next : ℕ) → next ≡ path + width (path_sexp steps) → (get_or ss next 0 ≡ 41 → ⊥) → (i : ℕ) (y z : Spot) (r : Bool) → z ≡ moved_to x (x.at + 6) → Stands (file_of f x.source) (x.at + 6) (goal_sexp g) → y ≡ moved_to x i → Stands (file_of f x.source) i (atom_sexp b) → SameAtoms f room y w.goal r → r ≡ true
        → Told f ss room ds us w at (use_of k steps more) (Said more) (Some (E.One next (record { goal = z; supposed = w.supposed; parameters = w.parameters; top = end })))
    imp-fits none h next m n i y z r pz tg p t s v = absurd (n (third-closes ss at k steps path next h.node.offset m h.node.stands))
    imp-fits (some X) h next m n i y z r pz tg p t s v =
        let l = imp-shallow (some X) h in
        subst (λ (d : Spot). Told f ss room ds us w at (use_of k steps (some X)) (Said (some X)) (Some (E.One next (record { goal = d; supposed = w.supposed; parameters = w.parameters; top = end })))) (sym pz) (
          X,
          check (listed us) X o c bs' g,
          record {
            goal = g;
            parameters = o;
            clauses = c;
            bindings = bs';
            place = imp-means (some X) h tg;
            stands = third-stands ss at k steps path next h.node.offset m X h.node.stands;
            shallower = omega arith;
            later = omega (arith, h.node.offset);
            supposes = omega arith;
            supposes-one = omega arith;
            opens_one = omega arith;
            higher = omega (arith, h.fresh, h.ends);
            room-left = omega (arith, h.fresh, h.ends);
            says = refl;
            offsets = λ pos. omega (arith, h.node.offset);
          },
          says-imp (some X) ∙ ap (λ (u : Bool). concluded (listed us) o c (some X) (provided u (some (End.at_imp g b bs')))) (sym (imp-same (some X) h i y r p t s) ∙ v),
          some-wide ss at k steps path next h.node.offset m X,
        )
