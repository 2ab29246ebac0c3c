-- What the functions of the `use` node say (document 01, "When a strip fits"): what a path's next step does to a clause, where a path ends, which clause is at hand,
-- and what the node says at the end of its path. What a `use` is right to say is crate harrop's; here stands how the files' bytes and the room show it.
use Rattle.std.specs.Prelude as code
use Rattle.std.specs.Prelude.{ℕ, suc, ◌+◌, ◌-◌, ◌≤◌, ◌<◌, ◌≡◌, Bool, true, false, ◌&&◌, List, [], ◌∷◌, ltb, leb, length, get_or, set, Some, None}
use Rattle.std.proofs.Math.Option.{Option, none, some}
use Rattle.std.proofs.Math.ListN.{get_elem?}
use Rattle.basics.specs.Choice.{◌>>=◌, provided, maybe}
use Rattle.harrop.specs.declared.Binding.TheVariants.{Candidate}
use Rattle.harrop.specs.Formula.{Term, Atom, Goal, Clause, Step, Strip}
use Rattle.harrop.specs.Bindings.{Bindings, replaced_atom, same_atom}
use Rattle.harrop.specs.Place.{Candidates, Hand, End, Plain, allowed, follow, listed}
use Rattle.harrop.specs.Check.{Judged, here, above, head_of, body_of, check}
use Rattle.sexp.specs.Sexp.{Sexp, Stands, StandsAll, nesting}
use Rattle.packet.specs.Written.{number, each, atom_sexp, goal_sexp, clause_sexp, step_sexp, strip_sexp}
use Rattle.packet.specs.Barred.{clause_ok}
use Rattle.packet.specs.Offset.{width}
use Rattle.hand.specs.Hand.{clause_in, reframed}
use Rattle.room.specs.Layout.{levels, candidates_word, candidates_at_most, highest_word, supposed_at_most, stack}
use Rattle.room.specs.Frame.{binding_word, held, bindings_in, copied}
use Rattle.room.specs.Spot.{bindings_at, moved_to}
use Rattle.room.specs.Files.{Files, file_of}
use Rattle.room.specs.declared.Spot.{Spot}
use Rattle.room.specs.declared.Where.{Where}
use Rattle.uses.specs.Walk.{Booked, Means, Told, Enters}
use Rattle.uses.specs.declared.Entered.{Entered}
use Rattle.uses.specs.declared.uses.Turn.{Turn}
use Rattle.uses.specs.declared.uses.Turn.TheVariants as T
use Rattle.uses.specs.declared.uses.Reached.{Reached}
use Rattle.uses.specs.declared.uses.Head.{Head}
use Rattle.uses.specs.declared.uses.Head.TheVariants as H
use Rattle.uses.specs.declared.uses.Asked.{Asked}

-- a `use` of clause k along a path, with a third part or without
abbrev pub use_of : ℕ → List Step → Option Strip → Strip
use_of k path none = Strip.use₀ k path
use_of k path (some X) = Strip.use₁ k path X

-- what it says, by its third part and by where the path ended
abbrev pub concluded : Candidates Plain → List Plain → Hand Plain → Option Strip → Option (End Plain) → Judged
concluded cs o c more none = here
concluded cs o c none (some x) = maybe (body_of x) (Judged.fits 1 1) λ y. here
concluded cs o c (some X) (some x) = maybe (body_of x) here λ y. above 0 (check cs X o c y.1 y.0)

-- the end of a path counts where its atom, variables replaced, equals the goal's
abbrev pub matched : List Term → Bindings → Atom → Option (End Plain) → Option (End Plain)
matched us bs a x = x >>= λ y. provided (same_atom (replaced_atom us (head_of y).1 (head_of y).0) (replaced_atom us bs a)) (some y)

-- an expression stands so many bytes before the end
pub record Left (s : List ℕ) (left : ℕ) (e : Sexp) : Type 0 where
  pub inside : left ≤ length s
  pub stands : Stands s (length s - left) e

-- a step led so many bytes into a clause: the rest of the path ends in the clause there where the path ends in the whole
pub record Inner (clause strip : List ℕ) (d : Clause Plain) (path : List Step) (i next : ℕ) : Type 0 where
  pub inner : Clause Plain
  pub rest : List Step
  pub stands : Stands clause i (clause_sexp inner)
  pub steps : StandsAll strip next (each step_sexp rest)
  pub shallower : nesting (clause_sexp inner) + 1 ≤ nesting (clause_sexp d)
  pub scoped : (m : ℕ) → clause_ok m d ≡ true → clause_ok m inner ≡ true
  pub same : (us : List Term) (o : List Plain) (bs : Bindings) → follow (listed us) o d bs path ≡ follow (listed us) o inner bs rest

-- a step bound the clause's variable to candidate n, if that may be used
pub record Bound (clause strip : List ℕ) (d : Clause Plain) (path : List Step) (n next : ℕ) : Type 0 where
  pub carried : Plain
  pub inner : Clause Plain
  pub rest : List Step
  pub stands : Stands clause 6 (clause_sexp inner)
  pub steps : StandsAll strip next (each step_sexp rest)
  pub shallower : nesting (clause_sexp inner) + 1 ≤ nesting (clause_sexp d)
  pub scoped : (m : ℕ) → clause_ok m d ≡ true → clause_ok (suc m) inner ≡ true
  pub same : (us : List Term) (o : List Plain) (bs : Bindings) → follow (listed us) o d bs path ≡ provided (allowed (listed us) o carried n) (follow (listed us) o inner (Candidate n ∷ bs) rest)

-- what a step does; no candidate has a number above 999
abbrev pub Turns : List ℕ → List ℕ → Clause Plain → List Step → code.Option Turn → Type 0
Turns clause strip d path None = (us : List Term) (o : List Plain) (bs : Bindings) → length us ≤ candidates_at_most → follow (listed us) o d bs path ≡ none
Turns clause strip d path (Some T.Ended) = path ≡ []
Turns clause strip d path (Some (T.Into i next)) = Inner clause strip d path i next
Turns clause strip d path (Some (T.Bound n next)) = Bound clause strip d path n next

-- at an `and`, and at an `all`, where a step stands and the next one after it
abbrev pub AtAnd : List ℕ → List ℕ → ℕ → ℕ → code.Option Turn → Type 0
AtAnd clause strip at next r =
    (c d : Clause Plain) (s : Step) (path : List Step) → Stands clause 0 (clause_sexp (Clause.and_d c d)) → nesting (clause_sexp (Clause.and_d c d)) ≤ levels → StandsAll strip at (each step_sexp (s ∷ path)) → next ≡ at + width (step_sexp s) → Turns clause strip (Clause.and_d c d) (s ∷ path) r

abbrev pub AtAll : List ℕ → ℕ → ℕ → code.Option Turn → Type 0
AtAll strip at next r =
    (clause : List ℕ) (q : Plain) (d : Clause Plain) (s : Step) (path : List Step) → Stands clause 0 (clause_sexp (Clause.all_d q d)) → StandsAll strip at (each step_sexp (s ∷ path)) → next ≡ at + width (step_sexp s) → Turns clause strip (Clause.all_d q d) (s ∷ path) r

abbrev pub Turned : List ℕ → List ℕ → ℕ → code.Option Turn → Type 0
Turned clause strip at r =
    (d : Clause Plain) (path : List Step) → Stands clause 0 (clause_sexp d) → nesting (clause_sexp d) ≤ levels → StandsAll strip at (each step_sexp path) → Turns clause strip d path r

abbrev pub Small : code.Option Turn → Type 0
Small None = Unit {0}
Small (Some T.Ended) = Unit {0}
Small (Some (T.Into i next)) = Unit {0}
Small (Some (T.Bound n next)) = n ≤ 999

-- whether candidate n may be used where p parameters are open: by the room's table
abbrev pub may_use : List ℕ → ℕ → ℕ → Bool
may_use room n p = ltb n (get_or room candidates_word 0) && leb (get_or room (highest_word n) 0) p

-- a binding put on top, if it may be and there is room
abbrev pub Binds : List ℕ → List ℕ → ℕ → ℕ → ℕ → Bool → Type 0
Binds room after top n p true = (top < length room) × ((may_use room n p ≡ true) × (after ≡ set room top (held (binding_word (Candidate n)))))
Binds room after top n p false = (after ≡ room) × (top < length room → may_use room n p ≡ false)

-- where a path is followed: the clause that is left, the rest of the path, and the frame so far
pub record Following (f : Files) (clause strip room : List ℕ) (ds : List (Clause Plain)) (us : List Term) (at top nest base count : ℕ) (d : Clause Plain) (bs : Bindings) (path : List Step) : Type 0 where
  pub booked : Booked f room ds us
  pub stands : Stands clause 0 (clause_sexp d)
  pub nests : nesting (clause_sexp d) ≤ nest
  pub steps : StandsAll strip at (each step_sexp path)
  pub above : stack ≤ base
  pub ends : base + count ≡ top
  pub holds : bindings_in room base count ≡ bs
  pub shallow : count + nesting (clause_sexp d) ≤ levels
  pub scoped : clause_ok count d ≡ true
  pub long : base + levels ≤ length room

-- where it ended: at a clause so many bytes before the end, with its variables as the path set them
pub record Ending (clause after : List ℕ) (us : List Term) (o : List Plain) (x : Option (End Plain)) (base left top : ℕ) : Type 0 where
  pub last : Clause Plain
  pub bindings : Bindings
  pub count : ℕ
  pub stands : Left clause left (clause_sexp last)
  pub ends : base + count ≡ top
  pub holds : bindings_in after base count ≡ bindings
  pub shallow : count + nesting (clause_sexp last) ≤ levels
  pub scoped : clause_ok count last ≡ true
  pub same : x ≡ follow (listed us) o last bindings []

abbrev pub Reaches : List ℕ → List ℕ → List Term → List Plain → Option (End Plain) → ℕ → code.Option Reached → Type 0
Reaches clause after us o x base None = x ≡ none
Reaches clause after us o x base (Some r) = Ending clause after us o x base r.left r.end

abbrev pub Followed : List ℕ → List ℕ → List ℕ → List ℕ → ℕ → ℕ → ℕ → ℕ → code.Option Reached → Type 0
Followed clause strip room after at top parameters nest r =
    (f : Files) (ds : List (Clause Plain)) (us : List Term) (o : List Plain) (base count : ℕ) (d : Clause Plain) (bs : Bindings) (path : List Step) →
    length o ≡ parameters →
    Following f clause strip room ds us at top nest base count d bs path →
    Reaches clause after us o (follow (listed us) o d bs path) base r

-- clause k, its bindings copied on top, if there is room
abbrev pub Opened : List ℕ → List ℕ → ℕ → ℕ → ℕ → code.Option Spot → Type 0
Opened room after k m top None = (after ≡ room) × ((x : Spot) → clause_in room k m ≡ Some x → top + x.count ≤ length room → ⊥)
Opened room after k m top (Some y) = (x : Spot) × (clause_in room k m ≡ Some x) × (top + x.count ≤ length room) × (after ≡ copied room x.base x.count top) × (y ≡ reframed x top)

-- a clause at a spot, with its bindings in a frame below the top
pub record ClauseAt (f : Files) (room : List ℕ) (x : Spot) (top : ℕ) (d : Clause Plain) (bs : Bindings) : Type 0 where
  pub stands : Stands (file_of f x.source) x.at (clause_sexp d)
  pub below : x.base + x.count ≤ top
  pub holds : bindings_at room x ≡ bs
  pub shallow : x.count + nesting (clause_sexp d) ≤ levels
  pub scoped : clause_ok x.count d ≡ true

-- the atom of a fact or of an implication, and the goal of that, where a path ended
abbrev pub Heads : List ℕ → Spot → Clause Plain → code.Option Head → Type 0
Heads s x e None = (us : List Term) (o : List Plain) (bs : Bindings) → follow (listed us) o e bs [] ≡ none
Heads s x e (Some (H.Fact a)) = (b : Atom) × (e ≡ Clause.atom_d b) × (a ≡ x)
Heads s x e (Some (H.Implies g a)) =
    (h : Goal Plain) × (b : Atom) × (e ≡ Clause.imp_d h b) × (g ≡ moved_to x (x.at + 6)) × (i : ℕ) × (a ≡ moved_to x i) × Stands s (x.at + 6) (goal_sexp h) × Stands s i (atom_sexp b)

abbrev pub Headed : List ℕ → Spot → code.Option Head → Type 0
Headed s x r = (e : Clause Plain) → Stands s x.at (clause_sexp e) → nesting (clause_sexp e) ≤ levels → Heads s x e r

-- a `use` node at its place: the goal is an atom, and there is room for a frame
pub record Using (f : Files) (ss room : List ℕ) (ds : List (Clause Plain)) (us : List Term) (w : Where) (at path k : ℕ) (steps : List Step) (more : Option Strip) (o : List Plain) (c : Hand Plain) (bs : Bindings) (a : Atom) : Type 0 where
  pub place : Means f room ds us w o c bs (Goal.atom a)
  pub stands : Stands ss at (strip_sexp (use_of k steps more))
  pub offset : path ≡ at + 6 + width (number k)
  pub few : w.supposed ≤ supposed_at_most
  pub long : w.top + levels ≤ length room

-- and where its path has ended
pub record AtEnd (f : Files) (ss room : List ℕ) (ds : List (Clause Plain)) (us : List Term) (w : Where) (at path k : ℕ) (steps : List Step) (more : Option Strip) (o : List Plain) (c : Hand Plain) (bs : Bindings) (a : Atom) (x : Spot) (end : ℕ) (e : Clause Plain) (bs' : Bindings) : Type 0 where
  pub node : Using f ss room ds us w at path k steps more o c bs a
  pub clause : ClauseAt f room x end e bs'
  pub fresh : x.base ≡ w.top
  pub ends : x.base + x.count ≡ end

abbrev pub Concluding : Files → List ℕ → List ℕ → ℕ → Where → Spot → ℕ → code.Option Entered → Type 0
Concluding f ss room path w x end r =
    (ds : List (Clause Plain)) (us : List Term) (at k : ℕ) (steps : List Step) (more : Option Strip) (o : List Plain) (c : Hand Plain) (bs : Bindings) (a : Atom) (e : Clause Plain) (bs' : Bindings) →
    AtEnd f ss room ds us w at path k steps more o c bs a x end e bs' →
    Told f ss room ds us w at (use_of k steps more) (concluded (listed us) o c more (matched us bs a (follow (listed us) o e bs' []))) r

-- what a `use` of clause k says
abbrev pub use_says : List Term → List Plain → Hand Plain → Bindings → Atom → ℕ → List Step → Option Strip → Judged
use_says us o c bs a k steps more = concluded (listed us) o c more (get_elem? c k >>= λ d. matched us bs a (follow (listed us) o d.clause d.bindings steps))

abbrev pub Uses : Files → List ℕ → List ℕ → List ℕ → ℕ → ℕ → Where → code.Option Entered → Type 0
Uses f ss room after path k w r =
    (ds : List (Clause Plain)) (us : List Term) (at : ℕ) (steps : List Step) (more : Option Strip) (o : List Plain) (c : Hand Plain) (bs : Bindings) (a : Atom) →
    Using f ss room ds us w at path k steps more o c bs a →
    Enters f ss room after ds us w at (use_of k steps more) (use_says us o c bs a k steps more) r

-- the number and the path of a `use`, as they stand in the strip
abbrev pub Asks : List ℕ → ℕ → ℕ → code.Option Asked → Type 0
Asks ss at k None = 999 < k
Asks ss at k (Some a) = (a.clause ≡ k) × (a.path ≡ at + 6 + width (number k))

abbrev pub AsksAt : List ℕ → ℕ → code.Option Asked → Type 0
AsksAt ss at r = (k : ℕ) (steps : List Step) (more : Option Strip) → Stands ss at (strip_sexp (use_of k steps more)) → Asks ss at k r

-- where the path starts, inside the strip
abbrev pub Inside : List ℕ → code.Option Asked → Type 0
Inside ss None = Unit {0}
Inside ss (Some a) = a.path ≤ length ss
