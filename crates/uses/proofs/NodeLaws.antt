-- What a node other than `use` says at its own place: it fits exactly if the goal has its word, and the places of its parts (document 01, "When a strip fits").
use Rattle.std.specs.Prelude.{Some, None, Option}
use Prim.Native.Nat.{ℕ, suc, ◌+◌, ◌≤◌, ◌<◌}
use native.Mathlib.Omega.{arith}
use mathlib.Core.Path.{◌≡◌, refl, sym, ◌∙◌, ap, subst}
use mathlib.Core.List.{List, [], ◌∷◌, ◌++◌}
use lib.ListN.{length, set}
use Rattle.basics.specs.Choice.{both_true}
use Rattle.basics.specs.Text.{octets}
use Rattle.harrop.specs.Formula.{Term, Goal, Clause, Strip}
use Rattle.harrop.specs.Bindings.{Bindings}
use Rattle.harrop.specs.Place.{Hand, Plain, listed, allowed}
use Rattle.harrop.specs.Check.{Judged, Position, here, check}
use Rattle.sexp.specs.Sexp.{Sexp, Sexps, Stands, spell, nesting}
use Rattle.sexp.specs.Decimal.{decimal_onto}
use Rattle.sexp.specs.Past.{Ends}
use Rattle.sexp.proofs.StandLaws.{first-stands, others-stand, stands-once, cons-length}
use Rattle.packet.specs.Written.{word, one, two, number, goal_sexp, clause_sexp, strip_sexp}
use Rattle.packet.specs.Offset.{width, offset_of}
use Rattle.packet.specs.Barred.{goal_ok, clause_ok}
use Rattle.room.specs.Files.{Files}
use Rattle.room.specs.Layout.{words, supposed_at_most}
use Rattle.room.specs.Spot.{supposing}
use Rattle.uses.specs.Walk.{Means, Ready, Part, Enters, further, within, bound, supposes}
use Rattle.room.specs.declared.Where.{Where}
use Rattle.room.proofs.WhereLaws.{file, part-means, push-keeps}
use Rattle.room.proofs.MoveLaws.{bound-means, suppose-keeps, supposes-means}
use Rattle.room.specs.Frame.{binding_word, held}
use Rattle.harrop.specs.declared.Binding.TheVariants.{Candidate, Parameter}
use Rattle.harrop.proofs.PlaceLaws.{allowed-may, may-below}
use Rattle.uses.proofs.WalkLaws.{strip-nests}
use mathlib.Core.Bool.{true}
use Rattle.uses.specs.declared.Entered.{Entered}
use Rattle.uses.specs.declared.Entered.TheVariants as E
use Rattle.uses.proofs.HeadLaws.{after-word, word_width}

-- where the expression that stands there ends
pub ends_is : {s : List ℕ} {at nest n : ℕ} {e : Sexp} → Stands s at e → Ends s at nest n → n ≡ at + length (spell e)
ends_is h x = x.ends ∙ ap (λ (y : Sexp). _ + length (spell y)) (stands-once x.stands h)

-- how many bytes come before the members of a list with a word: its parenthesis and the word
abbrev pub head : List ℕ → ℕ
head v = 1 + length (spell (Sexp.str v))

-- the heads of the words, of which the code has the numbers
pub heads : (head (octets "top") ≡ 6) × ((head (octets "and") ≡ 6) × ((head (octets "or") ≡ 5) × ((head (octets "left") ≡ 7) × ((head (octets "right") ≡ 8) × ((head (octets "some") ≡ 7) × ((head (octets "all") ≡ 6) × ((head (octets "imp") ≡ 6) × (head (octets "use") ≡ 6))))))))
unfolding decimal_onto
heads = (refl, (refl, (refl, (refl, (refl, (refl, (refl, (refl, refl))))))))

-- the first and the second member after a word, and how wide the whole is
module _ {s : List ℕ} {at k : ℕ} (v : List ℕ) (e : head v ≡ k) where
  pub first_part : {x : Sexp} {xs : Sexps} → Stands s at (word v (Sexps.cons x xs)) → Stands s (at + k) x
  first_part {x} h = subst (λ (i : ℕ). Stands s i x) (omega arith) (first-stands (after-word h))

  pub second-part : {x y : Sexp} {xs : Sexps} → Stands s at (word v (Sexps.cons x (Sexps.cons y xs))) → Stands s (at + (k + width x)) y
  second-part {x} {y} h = subst (λ (i : ℕ). Stands s i y) (omega arith) (first-stands (others-stand (after-word h)))

module _ {k : ℕ} (v : List ℕ) (e : head v ≡ k) where
  pub none-width : width (word v Sexps.nil) ≡ k + 1
  none-width = omega (arith, word_width v Sexps.nil)

  pub one_width : (x : Sexp) → width (word v (one x)) ≡ k + width x + 1
  one_width x = omega (arith, word_width v (one x), cons-length x Sexps.nil)

  pub two-width : (x y : Sexp) → width (word v (two x y)) ≡ k + width x + width y + 1
  two-width x y = omega (arith, word_width v (two x y), cons-length x (one y), cons-length y Sexps.nil)

module _ {f : Files} {ss room : List ℕ} {ds : List (Clause Plain)} {us : List Term} {w : Where} {at nest : ℕ} {P : Strip} {o : List Plain} {c : Hand Plain} {bs : Bindings} {g : Goal Plain} (ready : Ready f ss room ds us w at nest P o c bs g) where
  -- a part that changes nothing but the goal
  pub same-part : (start n i : ℕ) (part : Strip) (g' : Goal Plain) → Stands ss start (strip_sexp part) → suc (nesting (strip_sexp part)) ≤ nesting (strip_sexp P) → at < start → Stands (file ready.place) (w.goal.at + n) (goal_sexp g') → nesting (goal_sexp g') ≤ nesting (goal_sexp g) → goal_ok (length bs) g' ≡ true → ((pos : Position) → at + offset_of P (i ∷ pos) ≡ start + offset_of part pos) → Part f ss room ds us w (within w n) at start P part i (check (listed us) part o c bs g')
  same-part start n i part g' st sh la h l ok off =
      record {
        goal = g';
        parameters = o;
        clauses = c;
        bindings = bs;
        place = part-means ready.place n g' h l ok;
        stands = st;
        shallower = sh;
        later = la;
        supposes = omega arith;
        supposes-one = omega arith;
        opens_one = omega arith;
        higher = omega arith;
        room-left = omega arith;
        says = refl;
        offsets = off;
      }

abbrev Same : List ℕ → Files → List ℕ → List (Clause Plain) → List Term → Where → ℕ → Strip → Judged → Option Entered → Type 0
Same room f ss ds us w at P j r = Enters f ss room room ds us w at P j r

-- a node that does not fit, and changes nothing
pub enters-misfit : {f : Files} {ss room : List ℕ} {ds : List (Clause Plain)} {us : List Term} {w : Where} {at : ℕ} {P : Strip} {j : Judged} → j ≡ here → Same room f ss ds us w at P j None
enters-misfit e = record { kept = λ i l. refl; told = e }

module _ {f : Files} {ss room : List ℕ} {ds : List (Clause Plain)} {us : List Term} {w : Where} {at nest : ℕ} {o : List Plain} {c : Hand Plain} {bs : Bindings} where
  pub top-fits : Ready f ss room ds us w at nest Strip.top o c bs Goal.top → Same room f ss ds us w at Strip.top (check (listed us) Strip.top o c bs Goal.top) (Some (E.Leaf (at + 7)))
  top-fits r = record { kept = λ i l. refl; told = (refl, omega (arith, none-width (octets "top") heads.0)) }

  pub left-fits : {X : Strip} {a b : Goal Plain} → Ready f ss room ds us w at nest (Strip.left X) o c bs (Goal.or a b) → Same room f ss ds us w at (Strip.left X) (check (listed us) (Strip.left X) o c bs (Goal.or a b)) (Some (E.One (at + 7) (within w 5)))
  left-fits {X} {a} {b} r =
      record {
        kept = λ i l. refl;
        told = (X, check (listed us) X o c bs a, same-part r (at + 7) 5 0 X a (first_part (octets "left") heads.1.1.1.0 r.stands) (omega arith) (omega arith) (first_part (octets "or") heads.1.1.0 r.place.framed.stands) (omega arith) (both_true (goal_ok (length bs) a) (goal_ok (length bs) b) r.place.scoped).0 (λ pos. omega arith), refl, omega (arith, one_width (octets "left") heads.1.1.1.0 (strip_sexp X)));
      }

  pub right-fits : {X : Strip} {a b : Goal Plain} {n : ℕ} → Ready f ss room ds us w at nest (Strip.right X) o c bs (Goal.or a b) → n ≡ 5 + width (goal_sexp a) → Same room f ss ds us w at (Strip.right X) (check (listed us) (Strip.right X) o c bs (Goal.or a b)) (Some (E.One (at + 8) (within w n)))
  right-fits {X} {a} {b} {n} r e =
      record {
        kept = λ i l. refl;
        told = (X, check (listed us) X o c bs b, same-part r (at + 8) n 0 X b (first_part (octets "right") heads.1.1.1.1.0 r.stands) (omega arith) (omega arith) (subst (λ (i : ℕ). Stands (file r.place) (w.goal.at + i) (goal_sexp b)) (sym e) (second-part (octets "or") heads.1.1.0 r.place.framed.stands)) (omega arith) (both_true (goal_ok (length bs) a) (goal_ok (length bs) b) r.place.scoped).1 (λ pos. omega arith), refl, omega (arith, one_width (octets "right") heads.1.1.1.1.0 (strip_sexp X)));
      }

  pub and-fits : {X Y : Strip} {a b : Goal Plain} {n : ℕ} → Ready f ss room ds us w at nest (Strip.and X Y) o c bs (Goal.and a b) → n ≡ 6 + width (goal_sexp a) → Same room f ss ds us w at (Strip.and X Y) (check (listed us) (Strip.and X Y) o c bs (Goal.and a b)) (Some (E.Two (at + 6) (within w 6) (within w n)))
  and-fits {X} {Y} {a} {b} {n} r e =
      let g = r.place.framed.stands in
      record {
        kept = λ i l. refl;
        told = (
          X,
          Y,
          check (listed us) X o c bs a,
          check (listed us) Y o c bs b,
          same-part r (at + 6) 6 0 X a (first_part (octets "and") heads.1.0 r.stands) (omega arith) (omega arith) (first_part (octets "and") heads.1.0 g) (omega arith) (both_true (goal_ok (length bs) a) (goal_ok (length bs) b) r.place.scoped).0 (λ pos. omega arith),
          same-part r (at + 6 + width (strip_sexp X)) n 1 Y b (subst (λ (i : ℕ). Stands ss i (strip_sexp Y)) (omega arith) (second-part (octets "and") heads.1.0 r.stands)) (omega arith) (omega arith) (subst (λ (i : ℕ). Stands (file r.place) (w.goal.at + i) (goal_sexp b)) (sym e) (second-part (octets "and") heads.1.0 g)) (omega arith) (both_true (goal_ok (length bs) a) (goal_ok (length bs) b) r.place.scoped).1 (λ pos. omega arith),
          omega arith,
          omega arith,
          refl,
          omega (arith, two-width (octets "and") heads.1.0 (strip_sexp X) (strip_sexp Y)),
        );
      }

  -- enough of the room for one word more, and for one clause
  roomy : {P : Strip} {g : Goal Plain} → Ready f ss room ds us w at nest P o c bs g → (w.top < length room) × ((w.top ≤ words) × (w.supposed ≤ supposed_at_most))
  roomy {P} r = let z = strip-nests P in (omega (arith, r.nests, r.enough.bindings, r.long), (omega (arith, r.nests, r.enough.bindings), omega (arith, r.nests, r.enough.supposed)))

  pub some_fits : {X : Strip} {i start : ℕ} {q : Plain} {a : Goal Plain} → Ready f ss room ds us w at nest (Strip.some i X) o c bs (Goal.some q a) → allowed (listed us) o q i ≡ true → start ≡ at + (7 + width (number i)) → Enters f ss room (set room w.top (held (binding_word (Candidate i)))) ds us w at (Strip.some i X) (check (listed us) (Strip.some i X) o c bs (Goal.some q a)) (Some (E.One start (bound w 7 w.parameters)))
  some_fits {X} {i} {start} {q} {a} r ok e =
      let (inside, rest) = roomy r in
      let b = may-below (listed us) o q i (allowed-may (listed us) o q i ok) in
      let few = r.place.booked.candidates.few in
      let here' = r.place in
      record {
        kept = push-keeps room w.supposed w.top (held (binding_word (Candidate i))) rest.1 (omega (arith, here'.framed.above, here'.tight));
        told = (
          X,
          check (listed us) X o c (Candidate i ∷ bs) a,
          record {
            goal = a;
            parameters = o;
            clauses = c;
            bindings = Candidate i ∷ bs;
            place = bound-means here' (Candidate i) 7 w.parameters o a (first_part (octets "some") heads.1.1.1.1.1.0 here'.framed.stands) (omega arith) here'.scoped (omega arith) inside rest.0 rest.1 here'.openly;
            stands = subst (λ (j : ℕ). Stands ss j (strip_sexp X)) (sym e) (second-part (octets "some") heads.1.1.1.1.1.0 r.stands);
            shallower = omega arith;
            later = omega arith;
            supposes = omega arith;
            supposes-one = omega arith;
            opens_one = omega arith;
            higher = omega arith;
            room-left = omega arith;
            says = refl;
            offsets = λ pos. omega arith;
          },
          rw ok refl,
          omega (arith, two-width (octets "some") heads.1.1.1.1.1.0 (number i) (strip_sexp X)),
        );
      }

  pub all-fits : {X : Strip} {q : Plain} {a : Goal Plain} → Ready f ss room ds us w at nest (Strip.all X) o c bs (Goal.all q a) → Enters f ss room (set room w.top (held (binding_word (Parameter (w.parameters + 1))))) ds us w at (Strip.all X) (check (listed us) (Strip.all X) o c bs (Goal.all q a)) (Some (E.One (at + 6) (bound w 6 (w.parameters + 1))))
  all-fits {X} {q} {a} r =
      let (inside, rest) = roomy r in
      let here' = r.place in
      let z = strip-nests (Strip.all X) in
      let n : w.parameters + 1 ≡ suc (length o) = omega (arith, here'.openly) in
      record {
        kept = push-keeps room w.supposed w.top (held (binding_word (Parameter (w.parameters + 1)))) rest.1 (omega (arith, here'.framed.above, here'.tight));
        told = (
          X,
          check (listed us) X (q ∷ o) c (Parameter (suc (length o)) ∷ bs) a,
          record {
            goal = a;
            parameters = q ∷ o;
            clauses = c;
            bindings = Parameter (suc (length o)) ∷ bs;
            place = subst (λ (k : ℕ). Means f (set room w.top (held (binding_word (Parameter (w.parameters + 1))))) ds us (bound w 6 (w.parameters + 1)) (q ∷ o) c (Parameter k ∷ bs) a) n (bound-means here' (Parameter (w.parameters + 1)) 6 (w.parameters + 1) (q ∷ o) a (first_part (octets "all") heads.1.1.1.1.1.1.0 here'.framed.stands) (omega arith) here'.scoped (omega (arith, r.enough.opened)) inside rest.0 rest.1 (sym n));
            stands = first_part (octets "all") heads.1.1.1.1.1.1.0 r.stands;
            shallower = omega arith;
            later = omega arith;
            supposes = omega arith;
            supposes-one = omega arith;
            opens_one = omega arith;
            higher = omega arith;
            room-left = omega arith;
            says = refl;
            offsets = λ pos. omega arith;
          },
          refl,
          omega (arith, one_width (octets "all") heads.1.1.1.1.1.1.0 (strip_sexp X)),
        );
      }

  pub imp-fits : {X : Strip} {d : Clause Plain} {a : Goal Plain} {n : ℕ} → Ready f ss room ds us w at nest (Strip.imp X) o c bs (Goal.imp d a) → n ≡ 6 + width (clause_sexp d) → Enters f ss room (supposing room w.supposed (further w.goal 6)) ds us w at (Strip.imp X) (check (listed us) (Strip.imp X) o c bs (Goal.imp d a)) (Some (E.One (at + 6) (supposes w n)))
  imp-fits {X} {d} {a} {n} r e =
      let (inside, rest) = roomy r in
      let here' = r.place in
      let z = strip-nests X in
      let few : w.supposed < supposed_at_most = omega (arith, r.nests, r.enough.supposed) in
      record {
        kept = suppose-keeps room w.supposed w.top (further w.goal 6) few;
        told = (
          X,
          check (listed us) X o (c ++ (record { clause = d; bindings = bs } ∷ [])) bs a,
          record {
            goal = a;
            parameters = o;
            clauses = c ++ (record { clause = d; bindings = bs } ∷ []);
            bindings = bs;
            place = supposes-means here' 6 n d a (first_part (octets "imp") heads.1.1.1.1.1.1.1.0 here'.framed.stands) (omega arith) (both_true (clause_ok (length bs) d) (goal_ok (length bs) a) here'.scoped).0 (subst (λ (i : ℕ). Stands (file here') (w.goal.at + i) (goal_sexp a)) (sym e) (second-part (octets "imp") heads.1.1.1.1.1.1.1.0 here'.framed.stands)) (omega arith) (both_true (clause_ok (length bs) d) (goal_ok (length bs) a) here'.scoped).1 few rest.0 r.long;
            stands = first_part (octets "imp") heads.1.1.1.1.1.1.1.0 r.stands;
            shallower = omega arith;
            later = omega arith;
            supposes = omega arith;
            supposes-one = omega arith;
            opens_one = omega arith;
            higher = omega arith;
            room-left = omega arith;
            says = refl;
            offsets = λ pos. omega arith;
          },
          refl,
          omega (arith, one_width (octets "imp") heads.1.1.1.1.1.1.1.0 (strip_sexp X)),
        );
      }
