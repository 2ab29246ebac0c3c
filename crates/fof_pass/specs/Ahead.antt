-- The signs of a text from an offset on, and the sign ahead of it (document 02, One): its number, and where its bytes start and end. The number 16 says that no sign is ahead.
use Rattle.std.specs.Prelude.{ℕ, ◌-◌, ◌<◌, ◌≤◌, ◌≡◌, List, [], ◌∷◌, length, take, drop}
use Rattle.std.proofs.Math.Option.{Option, some}
use Rattle.basics.specs.Choice.{◌>>=◌}
use Rattle.harrop.specs.Formula.{Name}
use Rattle.fof_tokens.specs.Next.{tokens_at}
use Rattle.fof_part.specs.Sign.{Sign, code, signs}
use Rattle.fof_pass.specs.Codes.{code_is}
use Rattle.fof_pass.specs.declared.ahead.Ahead.{Ahead}

unfoldable pub signs_at : List ℕ → ℕ → Option (List Sign)
signs_at t at = tokens_at t at >>= λ ts. some (signs ts)

-- the bytes from one place to another
abbrev pub between : List ℕ → ℕ → ℕ → List ℕ
between t a b = take (b - a) (drop a t)

-- the name that a sign holds
abbrev pub name_in : Sign → Name
name_in (Sign.lower w) = w
name_in (Sign.upper w) = w
name_in Sign.truth = []
name_in Sign.opens = []
name_in Sign.closes = []
name_in Sign.lists = []
name_in Sign.ends = []
name_in Sign.comma = []
name_in Sign.colon = []
name_in Sign.dot = []
name_in Sign.every = []
name_in Sign.exist = []
name_in Sign.both = []
name_in Sign.either = []
name_in Sign.then = []
name_in Sign.other = []

-- this sign is ahead of an offset, and these are behind it
pub record Sees (t : List ℕ) (a : Ahead) (s : Sign) (ss : List Sign) : Type 0 where
  pub number : (code_is a.sign) ≡ code s
  pub name : (code_is a.sign) < 2 → between t a.start a.end ≡ name_in s
  pub rest : signs_at t a.end ≡ some ss

abbrev pub SeesAll : List ℕ → Ahead → List Sign → Type 0
SeesAll t a [] = (code_is a.sign) ≡ 16
SeesAll t a (s ∷ ss) = Sees t a s ss

-- what is ahead of an offset; where something is, it ends behind the offset and in the text
pub record Aheads (t : List ℕ) (at : ℕ) (a : Ahead) : Type 0 where
  pub seen : (ss : List Sign) → signs_at t at ≡ some ss → SeesAll t a ss
  pub further : (code_is a.sign) < 16 → (at < a.end) × (a.end ≤ length t)
