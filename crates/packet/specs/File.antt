-- Refusals 1 to 6 of one file, in document 01's order 1, 2, 3, 4, 6, 5, as one list of tests, each asked of the whole file before the next; and the files in turn (document 01,
-- "Sizes", "What comes back"; document 02, Two, for the places). What the tests ask of an expression is said in Wrong and Barred.
use Rattle.std.specs.Prelude.{ℕ, zero, suc, ◌+◌, Bool, true, false, List, [], ◌∷◌, ltb, length}
use Rattle.std.proofs.Math.Option.{Option, none, some}
use Rattle.basics.specs.Choice.{choose, maybe}
use Rattle.harrop.specs.Formula.{Term, Goal, Clause, Strip}
use Rattle.harrop.specs.Place.{Plain}
use Rattle.sexp.specs.declared.carrier.Carrier.{Carrier}
use Rattle.sexp.specs.declared.carrier.Carrier.TheVariants as C
use Rattle.sexp.specs.Sexp.{Sexp, Sexps, spell}
use Rattle.sexp.specs.Scan.{carrier_of}
use Rattle.sexp.specs.Read.{read}
use Rattle.packet.specs.declared.Kind.{Kind}
use Rattle.packet.specs.declared.Kind.TheVariants as K
use Rattle.packet.specs.declared.Reason.{Reason}
use Rattle.packet.specs.declared.Reason.TheVariants as R
use Rattle.packet.specs.declared.File.{File}
use Rattle.packet.specs.declared.File.TheVariants as F
use Rattle.packet.specs.Wrong.{wrong}
use Rattle.packet.specs.Barred.{Holds, barred}
use Rattle.packet.specs.Read.{goal_of, rules_of, candidates_of, strip_of}

-- the sizes: bytes of a file, levels of lists, rules or candidates
abbrev pub most_bytes : ℕ
most_bytes = 16384

abbrev pub most_levels : ℕ
most_levels = 64

abbrev pub most_members : ℕ
most_members = 256

-- the kinds of file whose members are counted
unfoldable pub counted : Kind → Bool
counted K.Name = false
counted K.Number = false
counted K.Step = false
counted K.Path = false
counted K.Term = false
counted K.Atom = false
counted K.Goal = false
counted K.Clause = false
counted K.Rules = true
counted K.Terms = true
counted K.Strip = false

-- the kind of file that may hold parameters
unfoldable pub holds : Kind → Holds
holds K.Name = false
holds K.Number = false
holds K.Step = false
holds K.Path = false
holds K.Term = false
holds K.Atom = false
holds K.Goal = false
holds K.Clause = false
holds K.Rules = false
holds K.Terms = true
holds K.Strip = false

-- where member number i of these starts, the first being number 0, from an offset on
unfoldable pub member_at : ℕ → ℕ → Sexps → Option ℕ
member_at i at Sexps.nil = none
member_at zero at (Sexps.cons x xs) = some at
member_at (suc i) at (Sexps.cons x xs) = member_at i (at + length (spell x)) xs

-- the first rule or candidate above the number allowed; the word is member number 0
unfoldable pub surplus : Kind → Sexp → Option ℕ
surplus k (Sexp.str w) = none
surplus k (Sexp.hinted h w) = none
surplus k (Sexp.list xs) = choose (counted k) (member_at (suc most_members) 1 xs) none

-- a test says where a file of a kind is at fault
abbrev pub Test : Type 0
Test = Kind → List ℕ → Option ℕ

-- over the bytes allowed
unfoldable pub long : Test
long k s = choose (ltb most_bytes (length s)) (some most_bytes) none

-- not one canonical expression
unfoldable pub faulty : Test
faulty k s = elim (carrier_of most_levels s) [ C.Sound ↦ none | C.Fault o ↦ some o | C.Deep o ↦ none ]

-- a list deeper than the levels allowed
unfoldable pub deep : Test
deep k s = elim (carrier_of most_levels s) [ C.Sound ↦ none | C.Fault o ↦ none | C.Deep o ↦ some o ]

-- not built from the table of words
unfoldable pub unbuilt : Test
unbuilt k s = maybe (read s) none λ e. wrong k 0 e

-- over the rules or candidates allowed
unfoldable pub many : Test
many k s = maybe (read s) none λ e. surplus k e

-- a variable or parameter barred at its place
unfoldable pub unsound : Test
unsound k s = maybe (read s) none λ e. barred (holds k) 0 0 e

-- the order of the tests
unfoldable pub tests : List (Reason × Test)
tests = (R.Long, long) ∷ (R.Carrier, faulty) ∷ (R.Deep, deep) ∷ (R.Words, unbuilt) ∷ (R.Many, many) ∷ (R.Barred, unsound) ∷ []

-- the first of these tests that finds fault, and where
unfoldable pub first_of : List (Reason × Test) → Kind → List ℕ → Option (Reason × ℕ)
first_of [] k s = none
first_of (t ∷ ts) k s = elim (t.1 k s) [ none ↦ first_of ts k s | some at ↦ some (t.0, at) ]

-- the refusal of a file of a kind, and its place
unfoldable pub refusal_of : Kind → List ℕ → Option (Reason × ℕ)
refusal_of k s = first_of tests k s

-- what files come to: read, or refused for a reason, with the file and the place
pub data Outcome (A : Type 0) : Type 0 where
  sound : A → Outcome A
  refused : Reason → File → ℕ → Outcome A

-- the next file, once what comes before is sound
abbrev pub and_then : {A B : Type 0} → Outcome A → (A → Outcome B) → Outcome B
and_then (Outcome.sound a) f = f a
and_then (Outcome.refused r x at) f = Outcome.refused r x at

-- the expression that a file is
unfoldable pub expression_of : List ℕ → Sexp
expression_of s = maybe (read s) (Sexp.str []) λ e. e

-- one file, of a kind, read by what makes a tree of its expression
unfoldable pub file_of : {A : Type 0} → Kind → File → (Sexp → A) → List ℕ → Outcome A
file_of k f of s = elim (refusal_of k s) [ none ↦ Outcome.sound (of (expression_of s)) | some r ↦ Outcome.refused r.0 f r.1 ]

-- rules, goal and candidates, which a search reads
pub record Books : Type 0 where
  pub rules : List (Clause Plain)
  pub goal : Goal Plain
  pub candidates : List Term

-- and the strip, which a checker reads too
pub record Packet : Type 0 where
  pub books : Books
  pub strip : Strip

unfoldable pub books_of : List ℕ → List ℕ → List ℕ → Outcome Books
books_of rs gs ts =
    and_then (file_of K.Rules F.Rules rules_of rs) λ ds.
    and_then (file_of K.Goal F.Goal goal_of gs) λ g.
    and_then (file_of K.Terms F.Terms candidates_of ts) λ us. Outcome.sound (record { rules = ds; goal = g; candidates = us })

unfoldable pub packet_of : List ℕ → List ℕ → List ℕ → List ℕ → Outcome Packet
packet_of rs gs ts ss =
    and_then (books_of rs gs ts) λ b.
    and_then (file_of K.Strip F.Strip strip_of ss) λ P. Outcome.sound (record { books = b; strip = P })
