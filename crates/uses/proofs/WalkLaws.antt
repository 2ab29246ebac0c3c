-- The walk down the strip, one node at a time: from what a node says of itself and what its parts say to what the walk says.
use Rattle.std.specs.Prelude.{Some, None, Result, Ok, Err, Option}
use Prim.Native.Nat.{ℕ, ◌+◌, ◌-◌, ◌≤◌, ◌<◌, max}
use native.Mathlib.Omega.{arith}
use mathlib.Core.Path.{◌≡◌, refl, sym, ◌∙◌, ap, subst}
use mathlib.Core.List.{List, [], ◌∷◌}
use lib.ListN.{length}
use Rattle.sexp.proofs.OntoLaws.{spell-some}
use Rattle.harrop.specs.Formula.{Term, Goal, Clause, Strip}
use Rattle.harrop.specs.Bindings.{Bindings}
use Rattle.harrop.specs.Place.{Hand, Plain, listed}
use Rattle.harrop.specs.Check.{Judged, Position, above, above_both, check}
use Rattle.sexp.specs.Sexp.{Stands, nesting}
use Rattle.sexp.proofs.StandLaws.{stands-inside}
use Rattle.packet.specs.Written.{strip_sexp}
use Rattle.packet.specs.Offset.{width, offset_of}
use Rattle.uses.specs.Walk.{Ready, Part, Enters, Judges, Bounded, outcome, fitting}
use Rattle.room.specs.Files.{Files}
use Rattle.room.specs.declared.Where.{Where}
use Rattle.room.proofs.WhereLaws.{kept_then, kept_less, means-kept}
use Rattle.uses.specs.declared.Entered.{Entered}
use Rattle.uses.specs.declared.Entered.TheVariants as E
use Rattle.uses.specs.declared.Fit.{Fit}

-- the node at the root stands at the strip's own parenthesis
pub offset-root : (P : Strip) → offset_of P [] ≡ 0
offset-root Strip.top = refl
offset-root (Strip.and P R) = refl
offset-root (Strip.left P) = refl
offset-root (Strip.right P) = refl
offset-root (Strip.some i P) = refl
offset-root (Strip.all P) = refl
offset-root (Strip.imp P) = refl
offset-root (Strip.use₀ k path) = refl
offset-root (Strip.use₁ k path P) = refl

-- a strip is a list
pub strip-nests : (P : Strip) → 1 ≤ nesting (strip_sexp P)
strip-nests Strip.top = omega arith
strip-nests (Strip.and P R) = omega arith
strip-nests (Strip.left P) = omega arith
strip-nests (Strip.right P) = omega arith
strip-nests (Strip.some i P) = omega arith
strip-nests (Strip.all P) = omega arith
strip-nests (Strip.imp P) = omega arith
strip-nests (Strip.use₀ k path) = omega arith
strip-nests (Strip.use₁ k path P) = omega arith

-- what a node says above its part, in offsets
pub fits-same : {a b c a' b' c' : ℕ} → a ≡ a' → b ≡ b' → c ≡ c' → fitting a b c ≡ fitting a' b' c'
fits-same p q r = rw (p, q, r) refl

pub fit-parts : {x y : Fit} → ◌≡◌ {A = Result Fit ℕ} (Ok x) (Ok y) → (x.next ≡ y.next) × ((x.height ≡ y.height) × (x.nodes ≡ y.nodes))
fit-parts {x} {y} e = let z : x ≡ y = cc in (ap (λ (u : Fit). u.next) z, (ap (λ (u : Fit). u.height) z, ap (λ (u : Fit). u.nodes) z))

pub fits-at : (start : ℕ) (part : Strip) (k : Judged) (x : Fit) → Ok x ≡ outcome start part k → x.next ≡ start + width (strip_sexp part)
fits-at start part (Judged.fits h' n') x e = (fit-parts e).0
fits-at start part (Judged.misfit pos) x e = let z : ◌≡◌ {A = ℕ} 0 1 = cc in absurd (omega arith)

pub above-misfit : (at start : ℕ) (P part : Strip) (k : Judged) (m : ℕ) → Err m ≡ outcome start part k → ((pos : Position) → at + offset_of P (0 ∷ pos) ≡ start + offset_of part pos) → Err m ≡ outcome at P (above 0 k)
above-misfit at start P part (Judged.fits h n) m e f = let z : ◌≡◌ {A = ℕ} 0 1 = cc in absurd (omega arith)
above-misfit at start P part (Judged.misfit pos) m e f = e ∙ ap Err (sym (f pos))

pub above-fits : (at start : ℕ) (P part : Strip) (k : Judged) (x : Fit) → Ok x ≡ outcome start part k → at + width (strip_sexp P) ≡ start + width (strip_sexp part) + 1 → fitting (x.next + 1) (x.height + 1) (x.nodes + 1) ≡ outcome at P (above 0 k)
above-fits at start P part (Judged.fits h' n') x e f =
    let (a, b) = fit-parts e in
    fits-same (omega arith) (omega (arith, b.0)) (omega (arith, b.1))
above-fits at start P part (Judged.misfit pos) x e f = let z : ◌≡◌ {A = ℕ} 0 1 = cc in absurd (omega arith)

pub both_first : (at start : ℕ) (P X : Strip) (k j : Judged) (m : ℕ) → Err m ≡ outcome start X k → ((pos : Position) → at + offset_of P (0 ∷ pos) ≡ start + offset_of X pos) → Err m ≡ outcome at P (above_both k j)
both_first at start P X (Judged.fits h n) j m e f = let z : ◌≡◌ {A = ℕ} 0 1 = cc in absurd (omega arith)
both_first at start P X (Judged.misfit pos) j m e f = e ∙ ap Err (sym (f pos))

pub both-second : (at start mid : ℕ) (P X Y : Strip) (k j : Judged) (x : Fit) (m : ℕ) → Ok x ≡ outcome start X k → Err m ≡ outcome mid Y j → ((pos : Position) → at + offset_of P (1 ∷ pos) ≡ mid + offset_of Y pos) → Err m ≡ outcome at P (above_both k j)
both-second at start mid P X Y (Judged.fits h' n') (Judged.fits h'' n'') x m e d f = let z : ◌≡◌ {A = ℕ} 0 1 = cc in absurd (omega arith)
both-second at start mid P X Y (Judged.fits h' n') (Judged.misfit pos) x m e d f = d ∙ ap Err (sym (f pos))
both-second at start mid P X Y (Judged.misfit pos) j x m e d f = let z : ◌≡◌ {A = ℕ} 0 1 = cc in absurd (omega arith)

pub both-fit : (at start mid : ℕ) (P X Y : Strip) (k j : Judged) (x y : Fit) → Ok x ≡ outcome start X k → Ok y ≡ outcome mid Y j → at + width (strip_sexp P) ≡ mid + width (strip_sexp Y) + 1 → fitting (y.next + 1) (max x.height y.height + 1) (x.nodes + y.nodes + 1) ≡ outcome at P (above_both k j)
both-fit at start mid P X Y (Judged.fits h₁ n₁) (Judged.fits h₂ n₂) x y e d f =
    let (a, b) = fit-parts e in
    let (a', b') = fit-parts d in
    fits-same (omega arith) (omega (arith, b.0, b'.0)) (omega (arith, b.1, b'.1))
both-fit at start mid P X Y (Judged.fits h₁ n₁) (Judged.misfit pos) x y e d f = let z : ◌≡◌ {A = ℕ} 0 1 = cc in absurd (omega arith)
both-fit at start mid P X Y (Judged.misfit pos) j x y e d f = let z : ◌≡◌ {A = ℕ} 0 1 = cc in absurd (omega arith)

-- a node's own judgement, where the answer is known
pub enter-is : {f : Files} {ss room after : List ℕ} {ds : List (Clause Plain)} {us : List Term} {w : Where} {at : ℕ} {P : Strip} {j : Judged} {r e : Option Entered} → r ≡ e → Enters f ss room after ds us w at P j r → Enters f ss room after ds us w at P j e
enter-is {f} {ss} {room} {after} {ds} {us} {w} {at} {P} {j} q x = subst (λ (y : Option Entered). Enters f ss room after ds us w at P j y) q x

pub judges-is : {room after : List ℕ} {w : Where} {at : ℕ} {P : Strip} {j : Judged} {r e : Result Fit ℕ} → r ≡ e → Judges room after w at P j r → Judges room after w at P j e
judges-is {room} {after} {w} {at} {P} {j} q x = record { kept = x.kept; answer = sym q ∙ x.answer }

pub bounded-is : (size at nest : ℕ) {r e : Result Fit ℕ} → r ≡ e → Bounded size at nest r → Bounded size at nest e
bounded-is size at nest q x = subst (λ (y : Result Fit ℕ). Bounded size at nest y) q x

-- what the walk said of a part
abbrev pub Inner : {f : Files} {ss room : List ℕ} {ds : List (Clause Plain)} {us : List Term} {w w' : Where} {at start i : ℕ} {P part : Strip} {k : Judged} → Part f ss room ds us w w' at start P part i k → List ℕ → List ℕ → ℕ → Result Fit ℕ → Type 0
Inner {us = us} {w' = w'} {part = part} p before last start r = Judges before last w' start part (check (listed us) part p.parameters p.clauses p.bindings p.goal) r

module _ {f : Files} {ss : List ℕ} {ds : List (Clause Plain)} {us : List Term} where
  module _ {room after : List ℕ} {w : Where} {at nest : ℕ} {P : Strip} {o : List Plain} {c : Hand Plain} {bs : Bindings} {g : Goal Plain} (ready : Ready f ss room ds us w at nest P o c bs g) where
    pub misfit-node : Enters f ss room after ds us w at P (check (listed us) P o c bs g) None → Judges room after w at P (check (listed us) P o c bs g) (Err at)
    misfit-node n = record { kept = n.kept; answer = ap Err (omega (arith, offset-root P)) ∙ ap (outcome at P) (sym n.told) }

    pub leaf-node : {next : ℕ} → Enters f ss room after ds us w at P (check (listed us) P o c bs g) (Some (E.Leaf next)) → (next ≤ length ss) × ((at < next) × Judges room after w at P (check (listed us) P o c bs g) (fitting next 1 1))
    leaf-node {next} n =
        let (t, e) = n.told in
        let i = stands-inside ready.stands in
        let b = spell-some (strip_sexp P) in
        (omega arith, (omega arith, record { kept = n.kept; answer = ap (λ (m : ℕ). fitting m 1 1) e ∙ ap (outcome at P) (sym t) }))

    -- a part of a node that fits is ready with one less of nesting
    pub part-ready : {w' : Where} {start i : ℕ} {part : Strip} {j : Judged} → length after ≡ length room → (nest ≡ 0 → ⊥) → (p : Part f ss after ds us w w' at start P part i j) → Ready f ss after ds us w' start (nest - 1) part p.parameters p.clauses p.bindings p.goal
    part-ready l z p =
        record {
          place = p.place;
          small = ready.small;
          stands = p.stands;
          nests = omega (arith, p.shallower, ready.nests);
          enough =
              record {
                bindings = omega (arith, p.room-left, ready.enough.bindings);
                supposed = omega (arith, p.supposes-one, ready.enough.supposed);
                opened = omega (arith, p.opens_one, ready.enough.opened);
              };
          long = omega (arith, ready.long);
        }

    pub one-misfit : {last : List ℕ} {w' : Where} {start m : ℕ} (e : Enters f ss room after ds us w at P (check (listed us) P o c bs g) (Some (E.One start w'))) → Inner e.told.2 after last start (Err m) → Judges room last w at P (check (listed us) P o c bs g) (Err m)
    one-misfit {last} {w'} {start} {m} e d =
        let (part, k, p, j, whole) = e.told in
        record {
          kept = kept_then room after last p.supposes p.higher e.kept d.kept;
          answer = above-misfit at start P part k m (d.answer ∙ ap (outcome start part) (sym p.says)) p.offsets ∙ ap (outcome at P) (sym j);
        }

    pub one-fits : {last : List ℕ} {w' : Where} {start : ℕ} {x : Fit} (e : Enters f ss room after ds us w at P (check (listed us) P o c bs g) (Some (E.One start w'))) → Inner e.told.2 after last start (Ok x) → Bounded (length ss) start (nest - 1) (Ok x) → (nest ≡ 0 → ⊥) → (x.next < length ss) × ((at + x.nodes ≤ x.next) × ((x.height < nest) × Judges room last w at P (check (listed us) P o c bs g) (fitting (x.next + 1) (x.height + 1) (x.nodes + 1))))
    one-fits {last} {w'} {start} {x} e d b z =
        let (part, k, p, j, whole) = e.told in
        let a = d.answer ∙ ap (outcome start part) (sym p.says) in
        let q = fits-at start part k x a in
        let i = stands-inside ready.stands in (
          omega arith,
          (
            omega (arith, p.later),
            (
              omega arith,
              record {
                kept = kept_then room after last p.supposes p.higher e.kept d.kept;
                answer = above-fits at start P part k x a whole ∙ ap (outcome at P) (sym j);
              },
            ),
          ),
        )

    pub two-first : {last : List ℕ} {w' w'' : Where} {start m : ℕ} (e : Enters f ss room after ds us w at P (check (listed us) P o c bs g) (Some (E.Two start w' w''))) → Inner e.told.4 after last start (Err m) → Judges room last w at P (check (listed us) P o c bs g) (Err m)
    two-first {last} {w'} {w''} {start} {m} e d =
        let (X, Y, k, l, p, q, s, t, j, whole) = e.told in
        record {
          kept = kept_then room after last p.supposes p.higher e.kept d.kept;
          answer = both_first at start P X k l m (d.answer ∙ ap (outcome start X) (sym p.says)) p.offsets ∙ ap (outcome at P) (sym j);
        }

    -- the second part is ready when the first is done
    pub second-ready : {last : List ℕ} {w' w'' : Where} {start : ℕ} {x : Fit} (e : Enters f ss room after ds us w at P (check (listed us) P o c bs g) (Some (E.Two start w' w''))) → Inner e.told.4 after last start (Ok x) → length last ≡ length room → (nest ≡ 0 → ⊥) → Ready f ss last ds us w'' x.next (nest - 1) e.told.1 e.told.5.parameters e.told.5.clauses e.told.5.bindings e.told.5.goal
    second-ready {last} {w'} {w''} {start} {x} e d ll z =
        let (X, Y, k, l, p, q, s, t, j, whole) = e.told in
        let a = fits-at start X k x (d.answer ∙ ap (outcome start X) (sym p.says)) in
        record {
          place = means-kept (kept_less after last s t d.kept) q.place;
          small = ready.small;
          stands = subst (λ (i : ℕ). Stands ss i (strip_sexp Y)) (sym a) q.stands;
          nests = omega (arith, q.shallower, ready.nests);
          enough =
              record {
                bindings = omega (arith, q.room-left, ready.enough.bindings);
                supposed = omega (arith, q.supposes-one, ready.enough.supposed);
                opened = omega (arith, q.opens_one, ready.enough.opened);
              };
          long = omega (arith, ready.long);
        }

    pub two-second : {last final : List ℕ} {w' w'' : Where} {start m : ℕ} {x : Fit} (e : Enters f ss room after ds us w at P (check (listed us) P o c bs g) (Some (E.Two start w' w''))) → Inner e.told.4 after last start (Ok x) → Inner e.told.5 last final x.next (Err m) → Judges room final w at P (check (listed us) P o c bs g) (Err m)
    two-second {last} {final} {w'} {w''} {start} {m} {x} e d f =
        let (X, Y, k, l, p, q, s, t, j, whole) = e.told in
        let v = d.answer ∙ ap (outcome start X) (sym p.says) in
        let a = fits-at start X k x v in
        record {
          kept = kept_then room last final q.supposes q.higher (kept_then room after last p.supposes p.higher e.kept d.kept) f.kept;
          answer = both-second at start x.next P X Y k l x m v (f.answer ∙ ap (outcome x.next Y) (sym q.says)) (λ pos. q.offsets pos ∙ ap (λ (i : ℕ). i + offset_of Y pos) (sym a)) ∙ ap (outcome at P) (sym j);
        }

    pub two-fit : {last final : List ℕ} {w' w'' : Where} {start : ℕ} {x y : Fit} (e : Enters f ss room after ds us w at P (check (listed us) P o c bs g) (Some (E.Two start w' w''))) → Inner e.told.4 after last start (Ok x) → Inner e.told.5 last final x.next (Ok y) → Bounded (length ss) start (nest - 1) (Ok x) → Bounded (length ss) x.next (nest - 1) (Ok y) → (nest ≡ 0 → ⊥) → (m : ℕ) → m ≡ max x.height y.height → (y.next < length ss) × ((at + (x.nodes + y.nodes) ≤ y.next) × ((m < nest) × Judges room final w at P (check (listed us) P o c bs g) (fitting (y.next + 1) (m + 1) (x.nodes + y.nodes + 1))))
    two-fit {last} {final} {w'} {w''} {start} {x} {y} e d f b b' z m u =
        let (X, Y, k, l, p, q, s, t, j, whole) = e.told in
        let v = d.answer ∙ ap (outcome start X) (sym p.says) in
        let v' = f.answer ∙ ap (outcome x.next Y) (sym q.says) in
        let a = fits-at start X k x v in
        let a' = fits-at x.next Y l y v' in
        let i = stands-inside ready.stands in (
          omega arith,
          (
            omega (arith, p.later),
            (
              omega arith,
              record {
                kept = kept_then room last final q.supposes q.higher (kept_then room after last p.supposes p.higher e.kept d.kept) f.kept;
                answer = fits-same refl (omega arith) refl ∙ both-fit at start x.next P X Y k l x y v v' (omega arith) ∙ ap (outcome at P) (sym j);
              },
            ),
          ),
        )
