-- How the shape of an expression of a kind follows from its head, and that of a list's members from the first of them: what the walk over the bytes is proved by.
use Prim.Native.Nat.{ℕ, ◌+◌, ◌-◌, ◌<◌, ◌≤◌}
use mathlib.Core.Path.{◌≡◌, refl, sym, ◌∙◌, ap, ap₂, subst}
use mathlib.Core.Bool.{Bool, true, false}
use mathlib.Core.List.{List}
use mathlib.Core.Option.{Option, none, some}
use native.Mathlib.Omega.{arith}
use lib.ListN.{length, get_or, take, drop}
use Rattle.std.specs.Prelude as code
use Rattle.std.specs.Prelude.{Result, Ok, Err}
use Rattle.basics.specs.Choice.{choose, maybe, or_else}
use Rattle.sexp.specs.Sexp.{Sexp, Sexps, str, hinted, list, nil, cons, spell, spells, nesting, nestings, Stands, StandsAll}
use Rattle.sexp.specs.Strings.{Plain}
use Rattle.sexp.proofs.StandLaws.{byte_inside, stands-once, stands-before, list-opens, members-stand, first-stands, others-stand, none-closes, no-closing, closes-none, closes-not, opens-list, list_length, cons-length}
use Rattle.sexp.proofs.OntoLaws.{spell-some}
use Rattle.packet.specs.declared.Kind.{Kind}
use Rattle.packet.specs.declared.Kind.TheVariants as K
use Rattle.packet.specs.declared.Due.{Due}
use Rattle.packet.specs.declared.Due.TheVariants as D
use Rattle.reader.specs.declared.shape.Start.TheVariants as B
use Rattle.reader.specs.declared.shape.Head.{Head}
use Rattle.reader.specs.declared.shape.Head.TheVariants as H
use Rattle.packet.specs.Table.{word_of, due_after, next, may_end}
use Rattle.rows.specs.Rows.{follows_of}
use Rattle.packet.specs.Wrong.{Begins, begins, is_text, wrong, wrong_word, wrong_in}
use Rattle.reader.proofs.WordLaws.{octets-part}
use Rattle.reader.specs.Shape.{shape_of, shape_in, Opened, HeadAt, head_by, start_of}

-- a place of refusal 4 is the shape
shape-wrong : (k : Kind) (at o : ℕ) (e : Sexp) → wrong k at e ≡ some o → Err o ≡ shape_of k at e
unfolding shape_of
shape-wrong k at o e h = sym (ap (λ (x : Option ℕ). maybe x (Ok (at + length (spell e))) Err) h)

-- a string
module _ (s : List ℕ) (at : ℕ) (k : Kind) where
  text-shape : (w : List ℕ) (t : Bool) → is_text k w ≡ t → choose t (Ok (at + length (spell (str w)))) (Err at) ≡ shape_of k at (str w)
  unfolding shape_of wrong
  text-shape w true h = sym (ap (λ (t : Bool). maybe (choose t none (some at)) (Ok (at + length (spell (str w)))) Err) h)
  text-shape w false h = sym (ap (λ (t : Bool). maybe (choose t none (some at)) (Ok (at + length (spell (str w)))) Err) h)

  text-told : {b n : ℕ} → Plain s at b n → (t : Bool) → t ≡ is_text k (take (b + n - b) (drop b s)) → (e : Sexp) → Stands s at e → choose t (Ok (b + n)) (Err at) ≡ shape_of k at e
  text-told p t h e g =
      ap (λ (m : ℕ). choose t (Ok m) (Err at)) p.ends
      ∙ text-shape p.octets t (ap (is_text k) (octets-part p) ∙ sym h)
      ∙ ap (shape_of k at) (stands-once p.stands g)

  pub text-yes : {b n : ℕ} {t : Bool} → Plain s at b n → t ≡ is_text k (take (b + n - b) (drop b s)) → t ≡ true → (e : Sexp) → Stands s at e → Ok (b + n) ≡ shape_of k at e
  text-yes p h y e g = text-told p true (sym y ∙ h) e g

  pub text-no : {b n : ℕ} {t : Bool} → Plain s at b n → t ≡ is_text k (take (b + n - b) (drop b s)) → t ≡ false → (e : Sexp) → Stands s at e → Err at ≡ shape_of k at e
  text-no p h y e g = text-told p false (sym y ∙ h) e g

  -- no plain string and no list is of no kind
  pub text-none : ((w : List ℕ) → Stands s at (str w) → ⊥) → (e : Sexp) → (get_or s at 0 ≡ 40 → ⊥) → Stands s at e → Err at ≡ shape_of k at e
  unfolding shape_of wrong
  text-none n (str w) o g = absurd (n w g)
  text-none n (hinted h w) o g = refl
  text-none n (list xs) o g = absurd (o (list-opens g))

-- a list, by how its kind begins
abbrev list_by : Begins → Kind → ℕ → Sexps → Option ℕ
list_by Begins.never k at xs = some at
list_by Begins.plainly k at xs = wrong_in (D.Each K.Step) (at + 1) xs
list_by Begins.with_word k at xs = wrong_word k (at + 1) xs

list-by : (k : Kind) (at : ℕ) (xs : Sexps) → wrong k at (list xs) ≡ list_by (begins k) k at xs
unfolding wrong
list-by k at xs = go (begins k)
  where
    go : (b : Begins) → (elim b as (λ x. Option ℕ) [ Begins.never ↦ some at | Begins.plainly ↦ wrong_in (D.Each K.Step) (at + 1) xs | Begins.with_word ↦ wrong_word k (at + 1) xs ]) ≡ list_by b k at xs
    go Begins.never = refl
    go Begins.plainly = refl
    go Begins.with_word = refl

-- members that decide a list decide its shape
list-shape : (k : Kind) (at : ℕ) (xs : Sexps) (due : Due) (from : ℕ) (ys : Sexps) → wrong k at (list xs) ≡ wrong_in due from ys → from + length (spells ys) ≡ at + 1 + length (spells xs) → shape_in due from ys ≡ shape_of k at (list xs)
unfolding shape_of shape_in
list-shape k at xs due from ys h l =
    ap₂ (λ (o : Option ℕ) (m : ℕ). maybe o (Ok m) Err) (sym h) (let z = list_length xs in omega arith)

module _ (s : List ℕ) (at : ℕ) (k : Kind) where
  pub list-never : (xs : Sexps) → B.Never ≡ start_of (begins k) → Err at ≡ shape_of k at (list xs)
  list-never xs h = shape-wrong k at at (list xs) (list-by k at xs ∙ go (begins k) h)
    where
      go : (b : Begins) → B.Never ≡ start_of b → list_by b k at xs ≡ some at
      go Begins.never e = refl
      go Begins.plainly e = let z : ◌≡◌ {A = ℕ} 0 1 = cc in absurd (omega arith)
      go Begins.with_word e = let z : ◌≡◌ {A = ℕ} 0 1 = cc in absurd (omega arith)

  pub list-plainly : (xs : Sexps) → B.Plainly ≡ start_of (begins k) → Stands s at (list xs) → Opened s k at (list xs) (at + 1) (D.Each K.Step)
  list-plainly xs h g = record {
    members = xs;
    stand = members-stand g;
    shallow = omega arith;
    same = list-shape k at xs (D.Each K.Step) (at + 1) xs (list-by k at xs ∙ go (begins k) h) refl;
  }
    where
      go : (b : Begins) → B.Plainly ≡ start_of b → list_by b k at xs ≡ wrong_in (D.Each K.Step) (at + 1) xs
      go Begins.never e = let z : ◌≡◌ {A = ℕ} 0 1 = cc in absurd (omega arith)
      go Begins.plainly e = refl
      go Begins.with_word e = let z : ◌≡◌ {A = ℕ} 0 1 = cc in absurd (omega arith)

  pub with-word : B.WithWord ≡ start_of (begins k) → begins k ≡ Begins.with_word
  with-word h = go (begins k) h
    where
      go : (b : Begins) → B.WithWord ≡ start_of b → b ≡ Begins.with_word
      go Begins.never e = let z : ◌≡◌ {A = ℕ} 0 1 = cc in absurd (omega arith)
      go Begins.plainly e = let z : ◌≡◌ {A = ℕ} 0 1 = cc in absurd (omega arith)
      go Begins.with_word e = refl

  word-by : (xs : Sexps) → begins k ≡ Begins.with_word → wrong k at (list xs) ≡ wrong_word k (at + 1) xs
  word-by xs b = list-by k at xs ∙ ap (λ (x : Begins). list_by x k at xs) b

  -- no word, or none of the table
  pub word_none : ((w : List ℕ) → Stands s (at + 1) (str w) → ⊥) → (xs : Sexps) → begins k ≡ Begins.with_word → Stands s at (list xs) → Err (at + 1) ≡ shape_of k at (list xs)
  unfolding wrong
  word_none n xs b g = shape-wrong k at (at + 1) (list xs) (word-by xs b ∙ go xs (members-stand g))
    where
      go : (ys : Sexps) → StandsAll s (at + 1) ys → wrong_word k (at + 1) ys ≡ some (at + 1)
      go nil h = refl
      go (cons (str w) ys) h = absurd (n w (first-stands h))
      go (cons (hinted t w) ys) h = refl
      go (cons (list zs) ys) h = refl

-- the members after a word, by what is due after it
abbrev due_then : Option Due → ℕ → ℕ → Sexps → Option ℕ
due_then o at to ys = elim o [ none ↦ some at | some due ↦ wrong_in due to ys ]

module _ (s : List ℕ) (at : ℕ) (k : Kind) where
  -- a word of the table, or of none
  word_read : (w : List ℕ) (to : ℕ) (ys : Sexps) → at + 1 + length (spell (str w)) ≡ to → begins k ≡ Begins.with_word → Stands s at (list (cons (str w) ys)) → HeadAt s k at (list (cons (str w) ys)) (head_by (at + 1) to (due_after k (word_of w)))
  unfolding wrong
  word_read w to ys l b g = go (due_after k (word_of w)) refl
    where
      whole : (o : Option Due) → due_after k (word_of w) ≡ o → wrong k at (list (cons (str w) ys)) ≡ due_then o (at + 1) to ys
      whole o e =
          list-by k at (cons (str w) ys)
          ∙ ap (λ (x : Begins). list_by x k at (cons (str w) ys)) b
          ∙ ap₂ (λ (x : Option Due) (m : ℕ). due_then x (at + 1) m ys) e l

      go : (o : Option Due) → due_after k (word_of w) ≡ o → HeadAt s k at (list (cons (str w) ys)) (head_by (at + 1) to o)
      go none e = shape-wrong k at (at + 1) (list (cons (str w) ys)) (whole none e)
      go (some due) e = record {
        members = ys;
        stand = subst (λ (m : ℕ). StandsAll s m ys) l (others-stand (members-stand g));
        shallow = omega arith;
        same = list-shape k at (cons (str w) ys) due to ys (whole (some due) e) (let z = cons-length (str w) ys in omega arith);
      }

  pub word_some : {b n : ℕ} → Plain s (at + 1) b n → (xs : Sexps) → begins k ≡ Begins.with_word → Stands s at (list xs) → HeadAt s k at (list xs) (head_by (at + 1) (b + n) (due_after k (word_of (take (b + n - b) (drop b s)))))
  word_some p nil t g = absurd (no-closing p.stands (none-closes (members-stand g)))
  word_some {b} {n} p (cons x ys) t g =
      let e = stands-once p.stands (first-stands (members-stand g)) in
      let h = word_read p.octets (b + n) ys (sym p.ends) t (subst (λ (y : Sexp). Stands s at (list (cons y ys))) (sym e) g) in
      subst (λ (y : Sexp). HeadAt s k at (list (cons y ys)) (head_by (at + 1) (b + n) (due_after k (word_of (take (b + n - b) (drop b s)))))) e
      (subst (λ (w : List ℕ). HeadAt s k at (list (cons (str p.octets) ys)) (head_by (at + 1) (b + n) (due_after k (word_of w)))) (octets-part p) h)

-- where the head is known
module _ (s : List ℕ) (at : ℕ) (k : Kind) (e : Sexp) (r : Result Head ℕ) where
  pub head-text : {to : ℕ} → r ≡ Ok (H.Text to) → HeadAt s k at e r → Ok to ≡ shape_of k at e
  head-text q h = subst (HeadAt s k at e) q h

  pub head-wrong : {o : ℕ} → r ≡ Err o → HeadAt s k at e r → Err o ≡ shape_of k at e
  head-wrong q h = subst (HeadAt s k at e) q h

  pub head-list : {from : ℕ} {due : Due} → r ≡ Ok (H.List from due) → HeadAt s k at e r → Opened s k at e from due
  head-list q h = subst (HeadAt s k at e) q h

-- a list at the head, by what stands at an offset
pub head-open : (s : List ℕ) (at : ℕ) (k : Kind) (r : Result Head ℕ) → get_or s at 0 ≡ 40 → ((xs : Sexps) → Stands s at (list xs) → HeadAt s k at (list xs) r) → (e : Sexp) → Stands s at e → HeadAt s k at e r
head-open s at k r b f e h =
    let (xs, q) = opens-list h b in
    subst (λ (x : Sexp). HeadAt s k at x r) (sym q) (f xs (subst (Stands s at) q h))

-- an expression that nests is no list of no levels
pub head-flat : {s : List ℕ} {at : ℕ} {k : Kind} {e : Sexp} {from nest : ℕ} {due : Due} {r : Result ℕ ℕ} → Opened s k at e from due → nesting e ≤ nest → nest ≡ 0 → r ≡ shape_of k at e
head-flat o n z = let l = o.shallow in absurd (omega arith)

pub head-deep : {s : List ℕ} {at : ℕ} {k : Kind} {e : Sexp} {from nest : ℕ} {due : Due} {r : Result ℕ ℕ}
    → Opened s k at e from due → nesting e ≤ nest → ((xs : Sexps) → StandsAll s from xs → nestings xs ≤ nest - 1 → r ≡ shape_in due from xs) → r ≡ shape_of k at e
head-deep o n f = let l = o.shallow in f o.members o.stand (omega arith) ∙ o.same

-- one member, and then the others
abbrev and_then : Result ℕ ℕ → (ℕ → Result ℕ ℕ) → Result ℕ ℕ
and_then (Ok to) f = f to
and_then (Err o) f = Err o

abbrev follow : code.Option (Kind × Due) → ℕ → Sexp → Sexps → Option ℕ
follow code.None at x xs = some at
follow (code.Some (k, due)) at x xs = or_else (wrong k at x) (wrong_in due (at + length (spell x)) xs)

follow-is : (due : Due) (at : ℕ) (x : Sexp) (xs : Sexps) → wrong_in due at (cons x xs) ≡ follow (follows_of (next due)) at x xs
unfolding wrong
follow-is due at x xs = go (next due)
  where
    go : (o : Option (Kind × Due)) → (elim o as (λ y. Option ℕ) [ none ↦ some at | some n ↦ or_else (wrong n.0 at x) (wrong_in n.1 (at + length (spell x)) xs) ]) ≡ follow (follows_of o) at x xs
    go none = refl
    go (some n) = refl

shape-cons : (k : Kind) (due after : Due) (at : ℕ) (x : Sexp) (xs : Sexps) → code.Some (k, after) ≡ follows_of (next due) → shape_in due at (cons x xs) ≡ and_then (shape_of k at x) (λ to. shape_in after to xs)
unfolding shape_of shape_in
shape-cons k due after at x xs h =
    ap (λ (o : Option ℕ). maybe o (Ok (at + length (spells (cons x xs)) + 1)) Err)
    (follow-is due at x xs ∙ sym (ap (λ (f : code.Option (Kind × Due)). follow f at x xs) h))
    ∙ go (wrong k at x)
  where
    go : (o : Option ℕ) → maybe (or_else o (wrong_in after (at + length (spell x)) xs)) (Ok (at + length (spells (cons x xs)) + 1)) Err ≡ and_then (maybe o (Ok (at + length (spell x))) Err) (λ to. maybe (wrong_in after to xs) (Ok (to + length (spells xs) + 1)) Err)
    go none = ap (λ (m : ℕ). maybe (wrong_in after (at + length (spell x)) xs) (Ok m) Err) (let z = cons-length x xs in omega arith)
    go (some o) = refl

past_is : (k : Kind) (at to : ℕ) (e : Sexp) → Ok to ≡ shape_of k at e → to ≡ at + length (spell e)
unfolding shape_of
past_is k at to e h = go (wrong k at e) h
  where
    go : (o : Option ℕ) → Ok to ≡ maybe o (Ok (at + length (spell e))) Err → to ≡ at + length (spell e)
    go none q = cc
    go (some o) q = let z : ◌≡◌ {A = ℕ} 0 1 = cc in absurd (omega arith)

-- the members of a list are being walked: these are left at i, and they decide
pub record Left (s : List ℕ) (nest : ℕ) (want : Result ℕ ℕ) (i : ℕ) (due : Due) : Type 0 where
  pub left : Sexps
  pub stand : StandsAll s i left
  pub shallow : nestings left ≤ nest
  pub same : shape_in due i left ≡ want

pub left-start : {s : List ℕ} {nest at : ℕ} {due : Due} {xs : Sexps} → StandsAll s at xs → nestings xs ≤ nest → Left s nest (shape_in due at xs) at due
left-start {xs = xs} h n = record { left = xs; stand = h; shallow = n; same = refl }

-- one member of a kind ends, or is wrong
abbrev pub Shaped : List ℕ → ℕ → ℕ → Kind → Result ℕ ℕ → Type 0
Shaped s nest i k r = (e : Sexp) → Stands s i e → nesting e ≤ nest → r ≡ shape_of k i e

module _ {s : List ℕ} {nest : ℕ} {want : Result ℕ ℕ} {i : ℕ} {due : Due} (l : Left s nest want i due) where
  pub left-inside : i < length s
  left-inside = go l.left l.stand
    where
      go : (xs : Sexps) → StandsAll s i xs → i < length s
      go nil h = byte_inside s i 41 (none-closes h) (omega arith)
      go (cons x xs) h = stands-before (first-stands h)

  pub left-closed : get_or s i 0 ≡ 41 → choose (may_end due) (Ok (i + 1)) (Err i) ≡ want
  unfolding shape_in wrong
  left-closed b = go (may_end due) refl ∙ sym (ap (shape_in due i) (closes-none l.stand b)) ∙ l.same
    where
      go : (t : Bool) → may_end due ≡ t → choose t (Ok (i + 1)) (Err i) ≡ maybe (choose (may_end due) none (some i)) (Ok (i + 0 + 1)) Err
      go true e = ap Ok (omega arith) ∙ sym (ap (λ (t : Bool). maybe (choose t none (some i)) (Ok (i + 0 + 1)) Err) e)
      go false e = sym (ap (λ (t : Bool). maybe (choose t none (some i)) (Ok (i + 0 + 1)) Err) e)

  module _ (n : get_or s i 0 ≡ 41 → ⊥) where
    pub left_over : code.None ≡ follows_of (next due) → Err i ≡ want
    unfolding shape_in
    left_over h =
        let (x, xs, q) = closes-not l.stand n in
        sym (ap (λ (o : Option ℕ). maybe o (Ok (i + length (spells (cons x xs)) + 1)) Err) (follow-is due i x xs ∙ sym (ap (λ (f : code.Option (Kind × Due)). follow f i x xs) h)))
        ∙ sym (ap (shape_in due i) q)
        ∙ l.same

    -- where a member may follow, it comes first
    module _ {k : Kind} {after : Due} (h : code.Some (k, after) ≡ follows_of (next due)) where
      pub left-wrong : {o : ℕ} → Shaped s nest i k (Err o) → Err o ≡ want
      left-wrong f =
          let (x, xs, q) = closes-not l.stand n in
          let a = subst (StandsAll s i) q l.stand in
          let m = ap nestings q in
          let w = l.shallow in
          ap (λ (r : Result ℕ ℕ). and_then r (λ to. shape_in after to xs)) (f x (first-stands a) (omega arith))
          ∙ sym (shape-cons k due after i x xs h)
          ∙ sym (ap (shape_in due i) q)
          ∙ l.same

      pub left-next : {to : ℕ} → Shaped s nest i k (Ok to) → (i < to) × Left s nest want to after
      left-next {to} f =
          let (x, xs, q) = closes-not l.stand n in
          let a = subst (StandsAll s i) q l.stand in
          let m = ap nestings q in
          let w = l.shallow in
          let g = f x (first-stands a) (omega arith) in
          let e = past_is k i to x g in
          let p = spell-some x in (
            omega arith,
            record {
              left = xs;
              stand = subst (λ (j : ℕ). StandsAll s j xs) (sym e) (others-stand a);
              shallow = omega arith;
              same =
                  ap (λ (r : Result ℕ ℕ). and_then r (λ j. shape_in after j xs)) g
                  ∙ sym (shape-cons k due after i x xs h)
                  ∙ sym (ap (shape_in due i) q)
                  ∙ l.same;
            },
          )
