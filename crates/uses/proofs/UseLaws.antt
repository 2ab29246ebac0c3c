-- The node `use` at its place (document 01, "When a strip fits"): from the clause that is opened over the path that is followed to what the node says, and that what the
-- place relies on is kept.
use Rattle.std.specs.Prelude as code
use Rattle.std.specs.Prelude.{None}
use Prim.Native.Nat.{ℕ, ◌+◌, ◌-◌, ◌≤◌, ◌<◌}
use native.Mathlib.Omega.{arith}
use mathlib.Core.Path.{◌≡◌, refl, sym, ◌∙◌, ap, ap₂, subst}
use mathlib.Core.Bool.{true}
use mathlib.Core.List.{List, []}
use mathlib.Core.Logic.{inl, inr}
use mathlib.Core.Option.{Option, none, some}
use lib.ListN.{length, get_or, get_elem?, take, drop}
use Rattle.basics.specs.Choice.{◌>>=◌, maybe}
use Rattle.basics.specs.Text.{octets}
use Rattle.harrop.specs.Formula.{Term, Atom, Goal, Clause, Step, Strip}
use Rattle.harrop.specs.Bindings.{Bindings}
use Rattle.harrop.specs.Place.{AtHand, Hand, End, Plain, follow, listed}
use Rattle.harrop.specs.Views.{as_atom}
use Rattle.harrop.specs.Check.{Judged, here, above, body_of, used, check}
use Rattle.harrop.proofs.ListLaws.{beyond-none}
use Rattle.sexp.specs.Sexp.{Sexp, Stands}
use Rattle.sexp.proofs.StandLaws.{members-stand, first-stands}
use Rattle.packet.specs.Written.{number, goal_sexp, clause_sexp, strip_sexp}
use Rattle.packet.specs.Barred.{clause_ok}
use Rattle.packet.specs.Offset.{width}
use Rattle.packet.specs.declared.Word.{Word}
use Rattle.packet.specs.declared.Word.TheVariants as W
use Rattle.room.specs.Layout.{supposed_at_most, stack}
use Rattle.room.specs.Frame.{bindings_in}
use Rattle.room.specs.Files.{Files, file_of}
use Rattle.room.specs.declared.Spot.{Spot}
use Rattle.room.specs.declared.Where.{Where}
use Rattle.room.proofs.FrameLaws.{word_kept, kept-below}
use Rattle.room.proofs.WhereLaws.{booked-kept, means-kept}
use Rattle.uses.specs.Heads.{strip_word, NodeShape}
use Rattle.uses.specs.Walk.{Live, Kept, Means, Ready, Told, Enters}
use Rattle.uses.specs.Use.{use_of, concluded, matched, Left, Following, Ending, Using, AtEnd, use_says, Asks, Inside}
use Rattle.uses.specs.declared.uses.Asked.{Asked}
use Rattle.uses.specs.declared.Entered.{Entered}
use Rattle.uses.proofs.HeadLaws.{node-shape, part-stands}
use Rattle.uses.proofs.WalkLaws.{strip-nests}
use Rattle.uses.proofs.PathLaws.{clause-word}
use Rattle.uses.proofs.FollowLaws.{left-whole}
use Rattle.uses.proofs.HandLaws.{OpenAt}
use Rattle.uses.proofs.EndLaws.{use-path, shut_none}

-- a node with the word `use`
pub use-shape : (P : Strip) → strip_word P ≡ W.Use → (k : ℕ) × (steps : List Step) × (more : Option Strip) × (P ≡ use_of k steps more)
use-shape P e = go (subst (λ (w : Word). NodeShape w P) e (node-shape P))
  where
    go : NodeShape W.Use P → (k : ℕ) × (steps : List Step) × (more : Option Strip) × (P ≡ use_of k steps more)
    go (inl (k, path, q)) = (k, path, none, q)
    go (inr (k, path, X, q)) = (k, path, some X, q)

module _ (us : List Term) (o : List Plain) (c : Hand Plain) (bs : Bindings) (g : Goal Plain) (k : ℕ) (steps : List Step) where
  -- what the checker's definition says of it, by its third part
  pub use-check : (more : Option Strip) → check (listed us) (use_of k steps more) o c bs g ≡ concluded (listed us) o c more (used (listed us) o c bs g k steps)
  use-check none = go (used (listed us) o c bs g k steps)
    where
      go : (u : Option (End Plain)) → maybe u here (λ x. maybe (body_of x) (Judged.fits 1 1) λ y. here) ≡ concluded (listed us) o c none u
      go none = refl
      go (some x) = refl
  use-check (some X) = go (used (listed us) o c bs g k steps)
    where
      go : (u : Option (End Plain)) → maybe u here (λ x. maybe (body_of x) here λ y. above 0 (check (listed us) X o c y.1 y.0)) ≡ concluded (listed us) o c (some X) u
      go none = refl
      go (some x) = refl

  -- the goal is no atom, or no clause at hand has the number
  no-atom : as_atom g ≡ none → used (listed us) o c bs g k steps ≡ none
  no-atom e = rw (e, used) refl

  no-clause : get_elem? c k ≡ none → used (listed us) o c bs g k steps ≡ none
  no-clause e = go (as_atom g)
    where
      go : (x : Option Atom) → (x >>= λ a. (get_elem? c k >>= λ d. matched us bs a (follow (listed us) o d.clause d.bindings steps))) ≡ none
      go none = refl
      go (some a) = ap (λ (y : Option (AtHand Plain)). y >>= λ d. matched us bs a (follow (listed us) o d.clause d.bindings steps)) e

-- what lies below the top is what the place relies on
take-kept : (room after : List ℕ) (supposed top : ℕ) → supposed ≤ supposed_at_most → stack ≤ top → take top after ≡ take top room → Kept supposed top room after
take-kept room after supposed top l h e i (Live.low k) = word_kept after room top i e (omega arith)
take-kept room after supposed top l h e i (Live.high k k') = word_kept after room top i e k'

module _ {f : Files} {ss room : List ℕ} {ds : List (Clause Plain)} {us : List Term} {w : Where} {at path k : ℕ} {steps : List Step} {more : Option Strip} {o : List Plain} {c : Hand Plain} {bs : Bindings} {a : Atom} (u : Using f ss room ds us w at path k steps more o c bs a) where
  using_kept : (after : List ℕ) → take w.top after ≡ take w.top room → Kept w.supposed w.top room after
  using_kept after e = take-kept room after w.supposed w.top u.few (omega (arith, u.place.framed.above, u.place.framed.below)) e

  -- no clause at hand has the number
  pub use-none : (after : List ℕ) → after ≡ room → get_elem? c k ≡ none → Enters f ss room after ds us w at (use_of k steps more) (use_says us o c bs a k steps more) None
  use-none after e n =
      record {
        kept = λ i l. ap (λ (r : List ℕ). get_or r i 0) e;
        told =
            ap (λ (y : Option (AtHand Plain)). concluded (listed us) o c more (y >>= λ d. matched us bs a (follow (listed us) o d.clause d.bindings steps))) n
            ∙ shut_none us o c more;
      }

  module _ {room₁ : List ℕ} {y : Spot} (p : OpenAt f room room₁ w c k y) where
    -- the clause is opened: its path is followed in the new frame
    pub open-following : (s : List ℕ) → s ≡ drop y.at (file_of f y.source) → Following f s ss room₁ ds us (path + 1) (y.base + y.count) 64 y.base y.count p.hand.clause p.hand.bindings steps
    open-following s e =
        let l = p.clause.shallow in
        let b = p.fresh in
        record {
          booked = booked-kept (using_kept room₁ p.kept) u.place.booked;
          stands = subst (λ (t : List ℕ). Stands t 0 (clause_sexp p.hand.clause)) (sym e) (part-stands p.clause.stands);
          nests = omega arith;
          steps = members-stand (use-path ss at k steps more path u.offset u.stands);
          above = omega (arith, u.place.framed.above, u.place.framed.below);
          ends = refl;
          holds = p.clause.holds;
          shallow = l;
          scoped = p.clause.scoped;
          long = omega (arith, u.long, p.long);
        }

    said-open : use_says us o c bs a k steps more ≡ concluded (listed us) o c more (matched us bs a (follow (listed us) o p.hand.clause p.hand.bindings steps))
    said-open = ap (λ (y : Option (AtHand Plain)). concluded (listed us) o c more (y >>= λ d. matched us bs a (follow (listed us) o d.clause d.bindings steps))) p.found

    module _ (room₂ : List ℕ) (t : take (y.base + y.count) room₂ ≡ take (y.base + y.count) room₁) where
      open_kept : Kept w.supposed w.top room room₂
      open_kept = using_kept room₂ (kept-below room₂ room₁ w.top (y.base + y.count) t (omega (arith, p.fresh)) ∙ p.kept)

      -- the path ends nowhere
      pub use-lost : follow (listed us) o p.hand.clause p.hand.bindings steps ≡ none → Enters f ss room room₂ ds us w at (use_of k steps more) (use_says us o c bs a k steps more) None
      use-lost n =
          record {
            kept = open_kept;
            told = said-open ∙ ap (λ (x : Option (End Plain)). concluded (listed us) o c more (matched us bs a x)) n ∙ shut_none us o c more;
          }

      -- it ends at a clause, whose spot the code makes
      module _ {s : List ℕ} (q : s ≡ drop y.at (file_of f y.source)) {left end : ℕ} (z : Ending s room₂ us o (follow (listed us) o p.hand.clause p.hand.bindings steps) y.base left end) where
        left_there : Left (file_of f y.source) left (clause_sexp z.last)
        left_there = left-whole (file_of f y.source) y.at left (clause_sexp z.last) (subst (λ (r : List ℕ). Left r left (clause_sexp z.last)) q z.stands)

        pub left-inside : (n : ℕ) → n ≡ length (file_of f y.source) → left ≤ n
        left-inside n e = omega (arith, left_there.inside)

        pub end-above : w.top ≤ end
        end-above = omega (arith, p.fresh, z.ends)

        pub use-end : (n : ℕ) → n ≡ length (file_of f y.source) → length room₂ ≡ length room₁ → AtEnd f ss room₂ ds us w at path k steps more o c bs a (record { source = y.source; at = n - left; base = w.top; count = end - w.top }) end z.last z.bindings
        use-end n e l =
            let b = p.fresh in
            let m = z.ends in
            let counts : end - w.top ≡ z.count = omega arith in
            let h = z.shallow in
            record {
              node =
                  record {
                    place = means-kept open_kept u.place;
                    stands = u.stands;
                    offset = u.offset;
                    few = u.few;
                    long = omega (arith, u.long, p.long);
                  };
              clause =
                  record {
                    stands = subst (λ (i : ℕ). Stands (file_of f y.source) (i - left) (clause_sexp z.last)) (sym e) left_there.stands;
                    below = omega arith;
                    holds = ap₂ (bindings_in room₂) (sym b) counts ∙ z.holds;
                    shallow = omega arith;
                    scoped = subst (λ (i : ℕ). clause_ok i z.last ≡ true) (sym counts) z.scoped;
                  };
              fresh = refl;
              ends = omega arith;
            }

        pub use-says : {r : code.Option Entered} → Told f ss room₂ ds us w at (use_of k steps more) (concluded (listed us) o c more (matched us bs a (follow (listed us) o z.last z.bindings []))) r → Enters f ss room room₂ ds us w at (use_of k steps more) (use_says us o c bs a k steps more) r
        use-says {r} h =
            record {
              kept = open_kept;
              told = subst (λ (j : Judged). Told f ss room₂ ds us w at (use_of k steps more) j r) (sym (said-open ∙ ap (λ (x : Option (End Plain)). concluded (listed us) o c more (matched us bs a x)) z.same)) h;
            }

-- what is asked for, where the answer is known
pub asks-as : (ss : List ℕ) (at k : ℕ) (r t : code.Option Asked) → r ≡ t → Asks ss at k r → Asks ss at k t
asks-as ss at k r t e h = subst (λ (x : code.Option Asked). Asks ss at k x) e h

pub inside-as : (ss : List ℕ) (r t : code.Option Asked) → r ≡ t → Inside ss r → Inside ss t
inside-as ss r t e h = subst (λ (x : code.Option Asked). Inside ss x) e h

-- whether the goal is an atom, by its word
module _ (file s : List ℕ) (at : ℕ) (p : s ≡ drop at file) where
  goal-here : {e : Sexp} → Stands file at e → Stands s 0 e
  goal-here {e} h = subst (λ (t : List ℕ). Stands t 0 e) (sym p) (part-stands h)

  pub goal-atom : (g : Goal Plain) → Stands s 1 (Sexp.str (octets "atom")) → Stands file at (goal_sexp g) → (a : Atom) × (g ≡ Goal.atom a)
  goal-atom Goal.top w k = absurd (omega (arith, clause-word s (octets "atom") (octets "top") _ (goal-here k) w))
  goal-atom (Goal.atom a) w k = (a, refl)
  goal-atom (Goal.and g h) w k = absurd (omega (arith, clause-word s (octets "atom") (octets "and") _ (goal-here k) w))
  goal-atom (Goal.or g h) w k = absurd (omega (arith, clause-word s (octets "atom") (octets "or") _ (goal-here k) w))
  goal-atom (Goal.some q g) w k = absurd (omega (arith, clause-word s (octets "atom") (octets "some") _ (goal-here k) w))
  goal-atom (Goal.all q g) w k = absurd (omega (arith, clause-word s (octets "atom") (octets "all") _ (goal-here k) w))
  goal-atom (Goal.imp d g) w k = absurd (omega (arith, clause-word s (octets "atom") (octets "imp") _ (goal-here k) w))

  pub goal-other : (g : Goal Plain) → (Stands s 1 (Sexp.str (octets "atom")) → ⊥) → Stands file at (goal_sexp g) → as_atom g ≡ none
  goal-other Goal.top n k = refl
  goal-other (Goal.atom (Atom.atom m ts)) n k = absurd (n (first-stands (members-stand (goal-here k))))
  goal-other (Goal.and g h) n k = refl
  goal-other (Goal.or g h) n k = refl
  goal-other (Goal.some q g) n k = refl
  goal-other (Goal.all q g) n k = refl
  goal-other (Goal.imp d g) n k = refl

module _ {f : Files} {ss room : List ℕ} {ds : List (Clause Plain)} {us : List Term} {w : Where} {at nest : ℕ} {P : Strip} {o : List Plain} {c : Hand Plain} {bs : Bindings} {g : Goal Plain} (ready : Ready f ss room ds us w at nest P o c bs g) where
  few-clauses : w.supposed ≤ supposed_at_most
  few-clauses = omega (arith, ready.nests, strip-nests P, ready.enough.supposed)

  module _ (k : ℕ) (steps : List Step) (more : Option Strip) (q : P ≡ use_of k steps more) where
    -- a `use` that does not fit, and changes nothing
    use-misfit : used (listed us) o c bs g k steps ≡ none → Enters f ss room room ds us w at P (check (listed us) P o c bs g) None
    use-misfit n =
        record {
          kept = λ i l. refl;
          told =
              ap (λ (R : Strip). check (listed us) R o c bs g) q
              ∙ (use-check us o c bs g k steps more ∙ (ap (concluded (listed us) o c more) n ∙ shut_none us o c more));
        }

    pub enter-far : 999 < k → Enters f ss room room ds us w at P (check (listed us) P o c bs g) None
    enter-far l = use-misfit (no-clause us o c bs g k steps (beyond-none c k (omega (arith, ready.place.hand.number, ready.place.booked.rules.few, few-clauses))))

    pub enter-other : as_atom g ≡ none → Enters f ss room room ds us w at P (check (listed us) P o c bs g) None
    enter-other e = use-misfit (no-atom us o c bs g k steps e)

    pub use-stands : Stands ss at (strip_sexp (use_of k steps more))
    use-stands = subst (λ (R : Strip). Stands ss at (strip_sexp R)) q ready.stands

    -- the goal is an atom
    module _ {a : Atom} (e : g ≡ Goal.atom a) where
      pub enter-using : (path : ℕ) → path ≡ at + 6 + width (number k) → Using f ss room ds us w at path k steps more o c bs a
      enter-using path m =
          record {
            place = subst (λ (h : Goal Plain). Means f room ds us w o c bs h) e ready.place;
            stands = use-stands;
            offset = m;
            few = few-clauses;
            long = omega (arith, ready.nests, strip-nests P, ready.enough.bindings, ready.long);
          }

      pub enter-used : {after : List ℕ} {r : code.Option Entered} → Enters f ss room after ds us w at (use_of k steps more) (use_says us o c bs a k steps more) r → Enters f ss room after ds us w at P (check (listed us) P o c bs g) r
      enter-used {after} {r} h =
          subst (λ (R : Strip). Enters f ss room after ds us w at R (check (listed us) R o c bs g) r) (sym q)
          (subst (λ (h : Goal Plain). Enters f ss room after ds us w at (use_of k steps more) (check (listed us) (use_of k steps more) o c bs h) r) (sym e)
          (subst (λ (j : Judged). Enters f ss room after ds us w at (use_of k steps more) j r) (sym (use-check us o c bs (Goal.atom a) k steps more)) h))
