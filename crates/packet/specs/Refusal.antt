-- Document 01's table of refusals, lines 1 to 6, as it is read: what holds of a file of a kind when it gets a refusal and its place, or none. Each line supposes that those asked
-- before it do not apply, in the order 1, 2, 3, 4, 6, 5. Nothing here knows how the answer is found.
-- The place of 4 is said by Wrong; what it means, document 02's Two.
use Rattle.std.specs.Prelude.{ℕ, zero, suc, ◌+◌, ◌≤◌, ◌<◌, ◌≡◌, Bool, true, false, List, ◌⊎◌, length}
use Rattle.std.proofs.Math.Option.{Option, none, some}
use Rattle.sexp.specs.Sexp.{Sexp, Sexps, spell, spells, nesting}
use Rattle.sexp.specs.Known.{Known}
use Rattle.sexp.specs.Scan.{hints_read}
use Rattle.sexp.specs.Meaning.{Longest, First}
use Rattle.packet.specs.declared.Word.{Word}
use Rattle.packet.specs.declared.Word.TheVariants as W
use Rattle.packet.specs.declared.Kind.{Kind}
use Rattle.packet.specs.declared.Reason.{Reason}
use Rattle.packet.specs.declared.Reason.TheVariants as R
use Rattle.packet.specs.Table.{word_of}
use Rattle.packet.specs.Wrong.{wrong}
use Rattle.packet.specs.Barred.{Holds, parameter_ok, Sort, sort_of, number_in}
use Rattle.packet.specs.Spells.{Spells}
use Rattle.packet.specs.File.{most_bytes, most_levels, most_members, counted, holds}

-- a list that stands in an expression: `Found n from e m o x` reads "in e, which starts at `from` with n quantifiers around it, at offset o, with m quantifiers around it, stands x".
-- A list whose word is `some` or `all` is a quantifier around its members; a variable or a parameter holds no list.
abbrev mutual
  pub Found : ℕ → ℕ → Sexp → ℕ → ℕ → Sexp → Type 0
  Found n from (Sexp.str w) m o x = ⊥
  Found n from (Sexp.hinted h w) m o x = ⊥
  Found n from (Sexp.list xs) m o x = ((m ≡ n) × (o ≡ from) × (x ≡ Sexp.list xs)) ⊎ FoundInside n from xs m o x

  pub FoundInside : ℕ → ℕ → Sexps → ℕ → ℕ → Sexp → Type 0
  FoundInside n from Sexps.nil m o x = ⊥
  FoundInside n from (Sexps.cons (Sexp.hinted h w) xs) m o x = ⊥
  FoundInside n from (Sexps.cons (Sexp.list ys) xs) m o x = ⊥
  FoundInside n from (Sexps.cons (Sexp.str w) xs) m o x =
      elim (sort_of (word_of w)) [
        | Sort.variable ↦ ⊥
        | Sort.parameter ↦ ⊥
        | Sort.quantifier ↦ FoundAmong (suc n) (from + 1 + length (spell (Sexp.str w))) xs m o x
        | Sort.other ↦ FoundAmong n (from + 1 + length (spell (Sexp.str w))) xs m o x
      ]

  pub FoundAmong : ℕ → ℕ → Sexps → ℕ → ℕ → Sexp → Type 0
  FoundAmong n from Sexps.nil m o x = ⊥
  FoundAmong n from (Sexps.cons y xs) m o x = Found n from y m o x ⊎ FoundAmong n (from + length (spell y)) xs m o x

-- a list that is barred with m quantifiers around it: `v` and a number not below m, or `e` and a number that no parameter has there
abbrev pub Bars : Holds → ℕ → Sexp → Type 0
Bars h m (Sexp.str w) = ⊥
Bars h m (Sexp.hinted t w) = ⊥
Bars h m (Sexp.list Sexps.nil) = ⊥
Bars h m (Sexp.list (Sexps.cons (Sexp.hinted t w) xs)) = ⊥
Bars h m (Sexp.list (Sexps.cons (Sexp.list ys) xs)) = ⊥
Bars h m (Sexp.list (Sexps.cons (Sexp.str w) xs)) =
    ((sort_of (word_of w) ≡ Sort.variable) × (m ≤ number_in xs)) ⊎ ((sort_of (word_of w) ≡ Sort.parameter) × (parameter_ok h (number_in xs) ≡ false))

-- at offset o of a file's expression stands a barred term
abbrev pub BarredAt : Kind → Sexp → ℕ → Type 0
BarredAt k e o = (m : ℕ) × (x : Sexp) × Found 0 0 e m o x × Bars (holds k) m x

-- the first, and that there is none
pub record FirstBarred (k : Kind) (e : Sexp) (o : ℕ) : Type 0 where
  pub stands : BarredAt k e o
  pub before : (p : ℕ) → BarredAt k e p → o ≤ p

abbrev pub Unbarred : Kind → Sexp → Type 0
Unbarred k e = (o : ℕ) → BarredAt k e o → ⊥

-- how many members
abbrev pub number : Sexps → ℕ
number Sexps.nil = 0
number (Sexps.cons x xs) = suc (number xs)

-- how many rules or candidates a file has: the members after the word
abbrev pub members_after : Sexp → ℕ
members_after (Sexp.str w) = 0
members_after (Sexp.hinted h w) = 0
members_after (Sexp.list Sexps.nil) = 0
members_after (Sexp.list (Sexps.cons x xs)) = number xs

abbrev pub Few : Kind → Sexp → Type 0
Few k e = counted k ≡ true → members_after e ≤ most_members

-- these members, and then those
abbrev pub joined : Sexps → Sexps → Sexps
joined Sexps.nil ys = ys
joined (Sexps.cons x xs) ys = Sexps.cons x (joined xs ys)

-- the 257th rule or candidate opens at an offset: the word and 256 others stand before it
pub record Surplus (k : Kind) (e : Sexp) (o : ℕ) : Type 0 where
  pub is_counted : counted k ≡ true
  pub front : Sexps
  pub one : Sexp
  pub back : Sexps
  pub is : e ≡ Sexp.list (joined front (Sexps.cons one back))
  pub before : number front ≡ suc most_members
  pub opens : o ≡ 1 + length (spells front)

-- one canonical expression, of a file not too long, not too deep
pub record Canonical (s : List ℕ) (e : Sexp) : Type 0 where
  pub short : length s ≤ most_bytes
  pub known : Known hints_read e
  pub spelt : spell e ≡ s
  pub flat : nesting e ≤ most_levels

-- the lines of the table, in the order in which they are asked
pub data Refusal (k : Kind) (s : List ℕ) : Option (Reason × ℕ) → Type 0 where
  too_long : most_bytes < length s → Refusal k s (some (R.Long, most_bytes))
  not_one : {o : ℕ} → length s ≤ most_bytes → Longest hints_read s o → ((e : Sexp) → Known hints_read e → spell e ≡ s → ⊥) → Refusal k s (some (R.Carrier, o))
  too_deep : {e : Sexp} {o : ℕ} → length s ≤ most_bytes → Known hints_read e → spell e ≡ s → First e most_levels o → Refusal k s (some (R.Deep, o))
  not_built : {e : Sexp} {o : ℕ} → Canonical s e → (Spells k e → ⊥) → wrong k 0 e ≡ some o → Refusal k s (some (R.Words, o))
  too_many : {e : Sexp} {o : ℕ} → Canonical s e → Spells k e → Surplus k e o → Refusal k s (some (R.Many, o))
  is_barred : {e : Sexp} {o : ℕ} → Canonical s e → Spells k e → Few k e → FirstBarred k e o → Refusal k s (some (R.Barred, o))
  sound : {e : Sexp} → Canonical s e → Spells k e → Few k e → Unbarred k e → Refusal k s none
