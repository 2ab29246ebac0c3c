-- How a candidate begins (document 01, the table of words): it is a parameter, or a function of terms; and what its highest parameter is told from.
use Rattle.std.specs.Prelude.{ℕ, ◌+◌, ◌<◌, ◌≤◌, ◌≡◌, true, List, length, get_or, take, drop}
use Rattle.harrop.specs.Formula.{Term, Terms}
use Rattle.harrop.specs.Bindings.{highest, highests}
use Rattle.packet.specs.Written.{term_sexp, term_sexps}
use Rattle.packet.specs.Barred.{term_ok, terms_ok}
use Rattle.sexp.specs.Decimal.{decimal}
use Rattle.sexp.specs.Sexp.{str, Stands, StandsAll, nesting, nestings}
use Rattle.start.specs.declared.table.Head.{Head}
use Rattle.start.specs.declared.table.Head.TheVariants as head
use Rattle.room.specs.Layout.{words, levels, candidate_word, highest_word, supposed_word}

-- the answer is the number after a word of one letter
abbrev pub NumberAfter : List ℕ → ℕ → Type 0
NumberAfter s r = (i : ℕ) → Stands s 4 (str (decimal i)) → i ≤ 999 → r ≡ i

-- terms stand at an offset, nest less than a term, and have its highest parameter
pub record TermsOf (s : List ℕ) (at : ℕ) (t : Term) : Type 0 where
  pub ts : Terms
  pub stands : StandsAll s at (term_sexps ts)
  pub ok : terms_ok true 0 ts ≡ true
  pub less : nestings (term_sexps ts) + 1 ≤ nesting (term_sexp t)
  pub high : highest t ≡ highests ts

abbrev pub Heads : List ℕ → Term → Head → Type 0
Heads s t (head.Parameter k) = k ≡ highest t
Heads s t (head.Terms p) = TermsOf s p t

abbrev pub HeadAt : List ℕ → ℕ → Head → Type 0
HeadAt s at r = (t : Term) → Stands s at (term_sexp t) → term_ok true 0 t ≡ true → Heads s t r

-- the highest parameters of the first n candidates, whose starts are known; nothing but their words is written
pub record HighestIn (before after terms : List ℕ) (n : ℕ) : Type 0 where
  pub long : length after ≡ length before
  pub below : take (highest_word 0) after ≡ take (highest_word 0) before
  pub above : drop (supposed_word 0) after ≡ drop (supposed_word 0) before
  pub right : words ≤ length before → (i : ℕ) → i < n → (t : Term) → Stands terms (get_or before (candidate_word i) 0) (term_sexp t) → term_ok true 0 t ≡ true → nesting (term_sexp t) ≤ levels
      → get_or after (highest_word i) 0 ≡ highest t
