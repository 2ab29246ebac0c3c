-- Choices that every definition makes: by a test, and by whether there is an answer. Those that give an answer, `>>=`, `provided` and `or_else`, have a law that takes them apart again;
-- `choose` and `maybe` have none, because whoever uses them has the test or the answer to split on.
use Rattle.std.specs.Prelude.{ℕ, ◌≡◌, refl, Bool, true, false, ◌&&◌}
use Rattle.std.proofs.Common.{sym}
use Rattle.std.proofs.lemmas.Bool.{false≢true}
use Rattle.std.proofs.Math.Option.{Option, none, some, none-ne-some}

-- the first where the test holds, else the second
abbrev pub choose : {A : Type 0} → Bool → A → A → A
choose true a b = a
choose false a b = b

infixl 1 ◌>>=◌
-- what f makes of an answer, if there is one (antt's `do` is written with it)
abbrev pub ◌>>=◌ : {A B : Type 0} → Option A → (A → Option B) → Option B
none >>= f = none
some a >>= f = f a

-- an answer only where the test holds
abbrev pub provided : {A : Type 0} → Bool → Option A → Option A
provided true o = o
provided false o = none

-- the first answer, else the second
abbrev pub or_else : {A : Type 0} → Option A → Option A → Option A
or_else none o = o
or_else (some a) o = some a

-- by whether there is an answer
abbrev pub maybe : {A B : Type 0} → Option A → B → (A → B) → B
maybe none b f = b
maybe (some a) b f = f a

-- no answer is not an answer
pub nope : {A : Type 0} {P : Type 0} {a : A} → Path (Option A) none (some a) → P
nope {a = a} e = absurd (none-ne-some a e)

pub both_true : (a b : Bool) → a && b ≡ true → (a ≡ true) × (b ≡ true)
both_true true b e = (refl, e)
both_true false b e = absurd (false≢true e)

pub bind-some : {A B : Type 0} (o : Option A) (f : A → Option B) (b : B) → (o >>= f) ≡ some b → (a : A) × (o ≡ some a) × (f a ≡ some b)
bind-some none f b e = absurd (none-ne-some b e)
bind-some (some a) f b e = (a, refl, e)

pub provided-some : {A : Type 0} (t : Bool) (o : Option A) (a : A) → provided t o ≡ some a → (t ≡ true) × (o ≡ some a)
provided-some true o a e = (refl, e)
provided-some false o a e = absurd (none-ne-some a e)

pub or_else-none : {A : Type 0} (a b : Option A) → or_else a b ≡ none → (a ≡ none) × (b ≡ none)
or_else-none none b e = (refl, e)
or_else-none (some a) b e = absurd (none-ne-some a (sym e))
