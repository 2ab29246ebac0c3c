-- The conversion's answers: a text that is too long, one that the grammar does not allow, lines that are refused, and lines that are written.
use Prim.Native.Nat.{ℕ, ◌<◌, ◌≤◌}
use mathlib.Core.Path.{◌≡◌, refl, sym, ◌∙◌, ap, ap₂, subst}
use mathlib.Core.Bool.{Bool, true, false, ◌&&◌}
use mathlib.Core.List.{List, [], ◌∷◌, append-nil}
use mathlib.Core.Option.{Option, none, some}
use native.Mathlib.Omega.{arith}
use lib.Dec.{ltb}
use lib.ListN.{length}
use borrow.Author.Tests.{le-leb}
use Rattle.basics.specs.Choice.{maybe}
use Rattle.basics.specs.Tells.{told-yes}
use Rattle.packet.specs.File.{most_bytes, most_members}
use Rattle.pen.proofs.LaidLaws.{laid-over}
use Rattle.fof_tokens.specs.Token.{Token}
use Rattle.fof_tokens.specs.Next.{tokens}
use Rattle.fof_tokens.proofs.CutsLaws.{tokens-right}
use Rattle.fof_productions.specs.Sound.{sound, sound_book}
use Rattle.fof_productions.proofs.Soundly.{sound-exactly, refused-exactly}
use Rattle.fof_truth.specs.Formula.{Role}
use Rattle.fof_truth.specs.Book.{Why, why_number}
use Rattle.fof_part.specs.Sign.{signs}
use Rattle.fof_part.specs.Mark.{Mark, inked}
use Rattle.fof_part.specs.Lines.{lines_at}
use Rattle.fof_part.specs.Files.{axioms_in, conjectures_in, joined, rules_marks}
use Rattle.fof_part.specs.Made.{Made, only_marks, by_tests, are_deep, are_long, sized_marks, made_from, made_of}
use Rattle.fof_pass.specs.declared.ink.Pen.{Pen}
use Rattle.fof_lines.specs.declared.lines.Passed.{Passed}
use Rattle.fof_pass.specs.Ink.{Inks}
use Rattle.fof_lines.specs.Lined.{begins, FiledAs, Passes}
use Rattle.std.specs.Prelude.{Some, None}
use Rattle.std.specs.Prelude as std
use Rattle.std.proofs.lemmas.Option.{none-some, same_Some}
use Rattle.tptp.specs.Converted.{Converted}
use Rattle.tptp.specs.Converted as converted
use Rattle.tptp.specs.Comes.{Refusal, number, Comes, of_made, of_tokens, comes_to, answered, over, rules_after, goal_after, Converts}
use Rattle.tptp.specs.Meaning.{Fits, Means}
use Rattle.tptp.specs.Parts.{made_number, Measures, Reasons}
use Rattle.tptp.proofs.MeaningLaws.{short-text, text-told, text-only}
use Rattle.tptp.proofs.PartsLaws.{signs_of}

-- a refusal's answer, with both buffers as they came
refused-converts : (text rules goal : List ℕ) (w : Refusal) (r : Converted) → comes_to text (length rules) (length goal) ≡ Comes.refused w → r ≡ converted.refused (number w) 1 0 → Converts text rules rules goal goal r
refused-converts text rules goal w r e f = record {
  answer = f ∙ ap answered (sym e);
  ruled = ap (λ (x : Comes). rules_after x rules) (sym e);
  asked = ap (λ (x : Comes). goal_after x goal) (sym e);
}

-- 1
pub too_long : (text rules goal : List ℕ) (r : Converted) → most_bytes < length text → r ≡ converted.refused 1 1 0 → Converts text rules rules goal goal r
too_long text rules goal r l e = refused-converts text rules goal Refusal.too_long r (text-only text (length rules) (length goal) (Comes.refused Refusal.too_long) l) e

sound-of : (text : List ℕ) → length text ≤ most_bytes → sound_book text ≡ sound text
unfolding sound_book
sound-of text l = ap (λ (t : Bool). t && sound text) (le-leb (length text) most_bytes l)

-- 12
pub not_sound : (text rules goal : List ℕ) (t : Bool) (r : Converted) → length text ≤ most_bytes → t ≡ sound_book text → t ≡ false → r ≡ converted.refused 12 1 0 → Converts text rules rules goal goal r
not_sound text rules goal t r l b n e =
    refused-converts text rules goal Refusal.unsound r
    (text-only text (length rules) (length goal) (Comes.refused Refusal.unsound) (l, (refused-exactly text).0 (sym (sound-of text l) ∙ sym b ∙ n))) e

-- a sound text has tokens, and comes to what is made of their items
record Readable (text : List ℕ) : Type 0 where
  cut : List Token
  is_cut : tokens text ≡ some cut
  comes : (a c : ℕ) → comes_to text a c ≡ of_made (made_of (lines_at (signs cut)) a c)

readable : (text : List ℕ) (t : Bool) → length text ≤ most_bytes → t ≡ sound_book text → t ≡ true → Readable text
readable text t l b y =
    let e = sym (sound-of text l) ∙ sym b ∙ y in
    let s = told-yes e (sound-exactly text) in
    let k = (tokens-right text s.cut).1 s.cuts in
    record { cut = s.cut; is_cut = k; comes = λ a c. short-text text a c true l e ∙ ap (λ (o : Option (List Token)). of_tokens o a c) k }

-- 13, 6, 3, 10
pub refused-lines : (text rules goal : List ℕ) (t : Bool) (p : Passed) (n : std.Option ℕ) (i : ℕ) (r : Converted) → length text ≤ most_bytes → t ≡ sound_book text → t ≡ true → Measures text p → Reasons p (length rules) (length goal) n → n ≡ Some i → r ≡ converted.refused i 1 0 → Converts text rules rules goal goal r
refused-lines text rules goal t p n i r l b y m s z e =
    let k = readable text t l b y in
    let o = lines_at (signs k.cut) in
    go (made_of o (length rules) (length goal)) (k.comes (length rules) (length goal)) (s.does o (m.does l k.cut k.is_cut))
  where
    go : (x : Made) → comes_to text (length rules) (length goal) ≡ of_made x → n ≡ made_number x → Converts text rules rules goal goal r
    go (Made.files rs g) c f = absurd (none-some i (sym f ∙ z))
    go (Made.refused w) c f = refused-converts text rules goal (Refusal.lines w) r c (e ∙ ap (λ (x : ℕ). converted.refused x 1 0) (same_Some i (why_number w) (sym z ∙ f)))

why-some : (w : Why) → Some (why_number w) ≡ None → ⊥
why-some w e = none-some (why_number w) (sym e)

-- marks written from the start into a buffer that has room for them
record Filled (w d d' : List ℕ) (n : ℕ) : Type 0 where
  long : n ≡ length w
  bytes : d' ≡ over w d

inks-fill : {ms : List Mark} {d d' : List ℕ} {q : Pen} → Inks ms begins d d' q → length (inked ms) ≤ length d → length (inked ms) ≤ most_bytes → Filled (inked ms) d d' q.at
inks-fill {ms} {d} i l m =
    let p = i.puts (omega arith) in
    record { long = omega (arith, p.ahead); bytes = p.bytes ∙ laid-over (inked ms) d l m }

-- the bytes of the two files
rules_in : Made → List ℕ
rules_in (Made.files rs g) = rs
rules_in (Made.refused w) = []

goal_in : Made → List ℕ
goal_in (Made.files rs g) = g
goal_in (Made.refused w) = []

-- a refusal is no files
refused-files : {P : Type 0} (w : Why) (rs g : List ℕ) → Made.refused w ≡ Made.files rs g → P
refused-files w rs g e = absurd (why-some w (ap made_number e))

tests-files : (m d l : Bool) (x y rs g : List ℕ) → by_tests m d l x y ≡ Made.files rs g → (rs ≡ x) × (g ≡ y)
unfolding rules_in goal_in
tests-files true d l x y rs g e = refused-files Why.too_many rs g e
tests-files false true l x y rs g e = refused-files Why.too_deep rs g e
tests-files false false true x y rs g e = refused-files Why.too_long rs g e
tests-files false false false x y rs g e = (sym (ap rules_in e), sym (ap goal_in e))

-- files are those of all items, where there are any
items-files : (is : List (Role × List Mark)) (a c : ℕ) (rs g : List ℕ) → made_from a c is ≡ Made.files rs g → (rs ≡ inked (rules_marks (axioms_in is))) × (g ≡ inked (joined (conjectures_in is)))
unfolding sized_marks
items-files is a c rs g e = go (conjectures_in is) e
  where
    go : (cs : List (List Mark)) → maybe (only_marks cs) (Made.refused Why.outside) (λ x. sized_marks a c (axioms_in is) x) ≡ Made.files rs g → (rs ≡ inked (rules_marks (axioms_in is))) × (g ≡ inked (joined cs))
    go [] h = refused-files Why.outside rs g h
    go (x ∷ []) h =
        let ms = rules_marks (axioms_in is) in
        let (u, v) = tests-files (ltb most_members (length (axioms_in is))) (are_deep ms x) (are_long a c (inked ms) (inked x)) (inked ms) (inked x) rs g h in
        (u, v ∙ ap inked (sym (append-nil x)))
    go (x ∷ y ∷ zs) h = refused-files Why.outside rs g h

-- what the second reading leaves in the buffers is the files
filed-converts : (text rules rules' goal goal' : List ℕ) (q : Passed) (rs g : List ℕ) (o : Option (List (Role × List Mark))) → FiledAs o rules rules' goal goal' q → made_of o (length rules) (length goal) ≡ Made.files rs g → comes_to text (length rules) (length goal) ≡ Comes.files rs g → Converts text rules rules' goal goal' (converted.written q.rules.at q.goal.at)
unfolding made_of
filed-converts text rules rules' goal goal' q rs g none f e k = refused-files Why.outside rs g e
filed-converts text rules rules' goal goal' q rs g (some is) f e k =
    let (u, v) = items-files is (length rules) (length goal) rs g e in
    let m : Fits text (length rules) (length goal) rs g = subst (Means text (length rules) (length goal)) k (text-told text (length rules) (length goal)) in
    let u₁ = ap length u in
    let v₁ = ap length v in
    let u₂ = ap length m.rules in
    let v₂ = ap length m.goal in
    let x = inks-fill f.rules (omega (arith, m.short.rules)) (omega (arith, m.short.rules_allowed)) in
    let y = inks-fill f.goal (omega (arith, m.short.goal)) (omega (arith, m.short.goal_allowed)) in
    record {
      answer = ap₂ converted.written (x.long ∙ sym u₁) (y.long ∙ sym v₁) ∙ ap answered (sym k);
      ruled = x.bytes ∙ ap (λ (w : List ℕ). over w rules) (sym u) ∙ ap (λ (z : Comes). rules_after z rules) (sym k);
      asked = y.bytes ∙ ap (λ (w : List ℕ). over w goal) (sym v) ∙ ap (λ (z : Comes). goal_after z goal) (sym k);
    }

-- written
pub written-lines : (text rules rules' goal goal' : List ℕ) (t : Bool) (p q : Passed) (n : std.Option ℕ) → length text ≤ most_bytes → t ≡ sound_book text → t ≡ true → Measures text p → Reasons p (length rules) (length goal) n → n ≡ None → Passes text rules rules' goal goal' q → Converts text rules rules' goal goal' (converted.written q.rules.at q.goal.at)
written-lines text rules rules' goal goal' t p q n l b y m s z h =
    let k = readable text t l b y in
    let o = lines_at (signs k.cut) in
    go k.cut (made_of o (length rules) (length goal)) refl (k.comes (length rules) (length goal)) (s.does o (m.does l k.cut k.is_cut)) (h.does l (signs k.cut) (signs_of text k.cut k.is_cut))
  where
    go : (ts : List Token) (x : Made) → made_of (lines_at (signs ts)) (length rules) (length goal) ≡ x → comes_to text (length rules) (length goal) ≡ of_made (made_of (lines_at (signs ts)) (length rules) (length goal)) → n ≡ made_number (made_of (lines_at (signs ts)) (length rules) (length goal)) → FiledAs (lines_at (signs ts)) rules rules' goal goal' q → Converts text rules rules' goal goal' (converted.written q.rules.at q.goal.at)
    go ts (Made.files rs g) e c f d = filed-converts text rules rules' goal goal' q rs g (lines_at (signs ts)) d e (c ∙ ap of_made e)
    go ts (Made.refused w) e c f d = absurd (why-some w (sym (ap made_number e) ∙ sym f ∙ z))
