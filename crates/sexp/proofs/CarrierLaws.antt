-- How the carrier's judgement goes on where an item of a file is due: a list opens, a list closes, a string is passed, the file ends.
use Prim.Native.Nat.{ℕ, zero, suc, ◌+◌, ◌-◌, ◌<◌, ◌≤◌}
use mathlib.Core.Path.{◌≡◌, refl, sym, ap, subst, ◌∙◌}
use mathlib.Core.Bool.{Bool}
use mathlib.Core.List.{List, [], ◌∷◌}
use mathlib.Core.Option.{Option, none, some}
use native.Mathlib.Omega.{arith}
use lib.ListN.{length, get_or, drop, length-drop}
use borrow.Author.Tests.{eq-eqb, ne_eqb}
use Rattle.sexp.specs.declared.carrier.Carrier.{Carrier}
use Rattle.sexp.specs.declared.carrier.Carrier.TheVariants.{Sound, Fault, Deep}
use Rattle.std.specs.Prelude.{Result, Ok, Err}
use Rattle.sexp.specs.Decimal.{is_digit}
use Rattle.sexp.specs.Sexp.{spell}
use Rattle.sexp.specs.Known.{text_of}
use Rattle.sexp.specs.Scan.{hints_read, after, State, due, owed, step, deeper, ended, scan, judgement, carrier_of}
use Rattle.sexp.specs.Text.{TextAt}
use Rattle.sexp.proofs.NumberLaws.{drop_here}
use Rattle.sexp.proofs.SpellLaws.{spell-length}
use Rattle.sexp.proofs.ScanLaws.{at_some, at_none, at-end, at-due-string, no-bracket, string-none, due-open, owed-close, owed-due, note-open, note-other, note-owed}
use Rattle.sexp.proofs.Spelt.{mark, spelt}

-- what is due between expressions, in d lists
unfoldable pub item : ℕ → State
item zero = due 0
item (suc d) = owed (after (suc d)) 0

pub item-owed : (d : ℕ) → (d ≡ 0 → ⊥) → owed (after d) 0 ≡ item d
unfolding item
item-owed zero h = absurd (h refl)
item-owed (suc d) h = refl

pub carrier-start : (limit : ℕ) (s : List ℕ) → carrier_of limit s ≡ scan hints_read limit (item 0) 0 Sound (drop 0 s)
unfolding carrier_of judgement item
carrier-start limit [] = refl
carrier-start limit (c ∷ s) = refl

module _ (hints : Bool) (limit : ℕ) (s : List ℕ) (at : ℕ) (v : Carrier) where
  item-due : (d : ℕ) → at < length s → (get_or s at 0 ≡ 41 → ⊥) → scan hints limit (item d) at v (drop at s) ≡ scan hints limit (due d) at v (drop at s)
  unfolding item
  item-due zero h n = refl
  item-due (suc d) h n =
      subst (λ (w : List ℕ). scan hints limit (owed (after (suc d)) 0) at v w ≡ scan hints limit (due (suc d)) at v w) (sym (drop_here s at h))
      (owed-due hints limit d at (get_or s at 0) v (drop (at + 1) s) n)

  pub item-open : (d : ℕ) → at < length s → get_or s at 0 ≡ 40 → scan hints limit (item d) at v (drop at s) ≡ scan hints limit (item (d + 1)) (at + 1) (deeper limit d at v) (drop (at + 1) s)
  unfolding item
  item-open d h e =
      item-due d h (λ x. omega arith)
      ∙ at_some hints limit s (due d) (owed (after (suc d)) 0) at v h (due-open hints d (get_or s at 0) e)
      ∙ ap (λ (x : Carrier). scan hints limit (owed (after (suc d)) 0) (at + 1) x (drop (at + 1) s)) (note-open limit d at (get_or s at 0) v e)
      ∙ ap (λ (x : ℕ). scan hints limit (item x) (at + 1) (deeper limit d at v) (drop (at + 1) s)) {x = suc d} {y = d + 1} (omega arith)

  pub close-none : (d : ℕ) → at < length s → get_or s at 0 ≡ 41 → d ≡ 0 → scan hints limit (item d) at v (drop at s) ≡ Fault at
  unfolding item is_digit
  close-none zero h e z =
      at-due-string hints limit s 0 at v h (λ x. omega arith) (no-bracket hints (get_or s at 0) (λ x. omega arith))
      ∙ at_none hints limit s _ at v h (string-none hints (after 0) (get_or s at 0) (ap is_digit e))
  close-none (suc d) h e z = absurd (omega arith)

  close : (d : ℕ) → at < length s → get_or s at 0 ≡ 41 → scan hints limit (item (suc d)) at v (drop at s) ≡ scan hints limit (owed (after d) 0) (at + 1) v (drop (at + 1) s)
  unfolding item
  close d h e =
      at_some hints limit s (owed (after (suc d)) 0) (owed (after d) 0) at v h (owed-close hints d (get_or s at 0) e)
      ∙ ap (λ (x : Carrier). scan hints limit (owed (after d) 0) (at + 1) x (drop (at + 1) s)) (note-owed limit d at (get_or s at 0) v ∙ note-other limit (suc d) at (get_or s at 0) v (λ x. omega arith))

  pub close-last : (d : ℕ) → at < length s → get_or s at 0 ≡ 41 → d ≡ 1 → scan hints limit (item d) at v (drop at s) ≡ scan hints limit (owed (after 0) 0) (at + 1) v (drop (at + 1) s)
  close-last d h e z = ap (λ (x : ℕ). scan hints limit (item x) at v (drop at s)) z ∙ close 0 h e

  pub close_more : (d : ℕ) → at < length s → get_or s at 0 ≡ 41 → (d ≡ 0 → ⊥) → (d ≡ 1 → ⊥) → scan hints limit (item d) at v (drop at s) ≡ scan hints limit (item (d - 1)) (at + 1) v (drop (at + 1) s)
  close_more zero h e n m = absurd (n refl)
  close_more (suc d) h e n m =
      close d h e
      ∙ ap (λ (q : State). scan hints limit q (at + 1) v (drop (at + 1) s)) (item-owed d (λ z. m (omega arith)))
      ∙ ap (λ (x : ℕ). scan hints limit (item x) (at + 1) v (drop (at + 1) s)) (omega arith)

  pub item-end : (d : ℕ) → length s ≤ at → scan hints limit (item d) at v (drop at s) ≡ Fault at
  unfolding item ended
  item-end zero h = at-end hints limit s (due 0) at v h
  item-end (suc d) h = at-end hints limit s (owed (after (suc d)) 0) at v h

  mark-text : (h : Option (List ℕ)) (bs : List ℕ) (d : ℕ) → mark limit d at v (text_of h bs) ≡ v
  unfolding mark
  mark-text none bs d = refl
  mark-text (some h) bs d = refl

  -- a string, where the next byte is no parenthesis
  module _ (d : ℕ) (r : Result (ℕ × ℕ) ℕ) (l : at < length s) (no-open : get_or s at 0 ≡ 40 → ⊥) (no-close : get_or s at 0 ≡ 41 → ⊥) (p : TextAt hints s at r) where
    pub text-stuck : (o : ℕ) → r ≡ Err o → scan hints limit (item d) at v (drop at s) ≡ Fault o
    text-stuck o e = item-due d l no-close ∙ (subst (TextAt hints s at) e p).1 d no-open limit v

    pub text-spans : (from to : ℕ) → r ≡ Ok (from, to) → (at < to) × ((to ≤ length s) × (scan hints limit (item d) at v (drop at s) ≡ scan hints limit (owed (after d) 0) to v (drop to s)))
    text-spans from to e =
        let (a, (h, bs, y, f, w)) = subst (TextAt hints s at) e p in
        let x = text_of h bs in
        let g = ap length f in
        let i = w.inside in
        let j : at < to = omega (arith, a, w.long) in (
          j,
          (
            i,
            item-due d l no-close
                ∙ ap (λ (z : List ℕ). scan hints limit (due d) at v z) f
                ∙ spelt hints limit x y d at v (drop to s)
                ∙ ap (λ (z : Carrier). scan hints limit (owed (after d) 0) (at + length (spell x)) z (drop to s)) (mark-text h bs d)
                ∙ ap (λ (z : ℕ). scan hints limit (owed (after d) 0) z v (drop to s)) {x = at + length (spell x)} {y = to} (omega (arith, g, spell-length x (drop to s), length-drop at s, length-drop to s, i, l)),
          ),
        )

-- the verdict so far, after a list is opened
module _ (limit d at : ℕ) (v : Carrier) where
  pub deeper-here : v ≡ Sound → d ≡ limit → Deep at ≡ deeper limit d at v
  unfolding deeper
  deeper-here e h = sym (ap (deeper limit d at) e ∙ simp (eq-eqb d limit h) refl)

  pub deeper-not : v ≡ Sound → (d ≡ limit → ⊥) → Sound ≡ deeper limit d at v
  unfolding deeper
  deeper-not e h = sym (ap (deeper limit d at) e ∙ simp (ne_eqb d limit h) refl)

  pub deeper-fault : (o : ℕ) → v ≡ Fault o → Fault o ≡ deeper limit d at v
  unfolding deeper
  deeper-fault o e = sym (ap (deeper limit d at) e)

  pub deeper-deep : (o : ℕ) → v ≡ Deep o → Deep o ≡ deeper limit d at v
  unfolding deeper
  deeper-deep o e = sym (ap (deeper limit d at) e)

-- after the expression
module _ (s : List ℕ) (at : ℕ) (v : Carrier) (limit : ℕ) where
  pub finish-end : at ≡ length s → v ≡ scan hints_read limit (owed (after 0) 0) at v (drop at s)
  unfolding ended
  finish-end e = sym (at-end hints_read limit s (owed (after 0) 0) at v (omega arith))

  pub finish-more : at ≤ length s → (at ≡ length s → ⊥) → Fault at ≡ scan hints_read limit (owed (after 0) 0) at v (drop at s)
  unfolding step
  finish-more h n = sym (at_none hints_read limit s (owed (after 0) 0) at v (omega arith) refl)
