-- The paper's numbers tell the answers apart, so any two results that the promise allows for one input are equal, the buffer and the room included.
use Prim.Native.Nat.{ℕ}
use mathlib.Core.Path.{◌≡◌, refl, sym, ◌∙◌, ap, ap₂}
use mathlib.Core.List.{List, [], ◌∷◌}
use native.Mathlib.Omega.{arith}
use lib.ListN.{get_or}
use Rattle.packet.specs.declared.Reason.{Reason}
use Rattle.packet.specs.declared.Reason.TheVariants as R
use Rattle.packet.specs.declared.File.{File}
use Rattle.packet.specs.declared.File.TheVariants as F
use Rattle.packet.specs.Numbers.{reason_number, file_number}
use Rattle.proposal.specs.declared.Proposal.{Proposal}
use Rattle.proposal.specs.declared.Proposal.TheVariants as P
use Rattle.proposal.specs.Proposed.{Paper, paper, Proposes}

-- the refusal and the file that a number stands for
abbrev reasons : List Reason
reasons = R.Long ∷ R.Long ∷ R.Carrier ∷ R.Deep ∷ R.Words ∷ R.Barred ∷ R.Many ∷ R.Misfit ∷ R.NoProof ∷ R.Height ∷ R.Buffer ∷ R.Room ∷ []

abbrev files : List File
files = F.None ∷ F.Rules ∷ F.Goal ∷ F.Terms ∷ F.Strip ∷ []

reason-back : (r : Reason) → get_or reasons (reason_number r) R.Long ≡ r
reason-back R.Long = refl
reason-back R.Carrier = refl
reason-back R.Deep = refl
reason-back R.Words = refl
reason-back R.Barred = refl
reason-back R.Many = refl
reason-back R.Misfit = refl
reason-back R.NoProof = refl
reason-back R.Height = refl
reason-back R.Buffer = refl
reason-back R.Room = refl

file-back : (f : File) → get_or files (file_number f) F.None ≡ f
file-back F.None = refl
file-back F.Rules = refl
file-back F.Goal = refl
file-back F.Terms = refl
file-back F.Strip = refl

pub reason-once : (r s : Reason) → reason_number r ≡ reason_number s → r ≡ s
reason-once r s e = sym (reason-back r) ∙ ap (λ (n : ℕ). get_or reasons n R.Long) e ∙ reason-back s

pub file-once : (f g : File) → file_number f ≡ file_number g → f ≡ g
file-once f g e = sym (file-back f) ∙ ap (λ (n : ℕ). get_or files n F.None) e ∙ file-back g

-- the three numbers of a line
abbrev pub first_of : Paper → ℕ
first_of (Paper.found h n l) = h
first_of (Paper.refused n f at) = n

abbrev pub second_of : Paper → ℕ
second_of (Paper.found h n l) = n
second_of (Paper.refused n f at) = f

abbrev pub third_of : Paper → ℕ
third_of (Paper.found h n l) = l
third_of (Paper.refused n f at) = at

-- found or refused
abbrev pub kind_of : Paper → ℕ
kind_of (Paper.found h n l) = 0
kind_of (Paper.refused n f at) = 1

-- one line of the paper, one answer
pub paper-once : (a b : Proposal) → paper a ≡ paper b → a ≡ b
paper-once (P.Found h n l) (P.Found h' n' l') e =
    ap₂ (λ x y. P.Found x y l) (ap first_of e) (ap second_of e) ∙ ap (λ (x : ℕ). P.Found h' n' x) (ap third_of e)
paper-once (P.Found h n l) (P.Refused r f at) e = absurd (let z : ◌≡◌ {A = ℕ} 0 1 = ap kind_of e in omega arith)
paper-once (P.Refused r f at) (P.Found h n l) e = absurd (let z : ◌≡◌ {A = ℕ} 1 0 = ap kind_of e in omega arith)
paper-once (P.Refused r f at) (P.Refused r' f' at') e =
    ap₂ (λ x y. P.Refused x y at) (reason-once r r' (ap first_of e)) (file-once f f' (ap second_of e)) ∙ ap (λ (x : ℕ). P.Refused r' f' x) (ap third_of e)

-- any two results for one input are equal
pub any-two-results-are-equal : (h : ℕ) (rs gs ts buffer room b₁ b₂ w₁ w₂ : List ℕ) (x y : Proposal) → Proposes h rs gs ts buffer b₁ room w₁ x → Proposes h rs gs ts buffer b₂ room w₂ y → (x ≡ y) × (b₁ ≡ b₂) × (w₁ ≡ w₂)
any-two-results-are-equal h rs gs ts buffer room b₁ b₂ w₁ w₂ x y p q =
    (paper-once x y (p.answer ∙ sym q.answer), p.strip ∙ sym q.strip, p.words ∙ sym q.words)
