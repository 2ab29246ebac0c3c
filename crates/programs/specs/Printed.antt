-- The line of a refusal, without its end (document 01, "What comes back"): the word, and its three numbers in decimal, a space before each.
use Rattle.std.specs.Prelude.{ℕ, List, ◌++◌, codes, decimal}

abbrev pub refusal_text : ℕ → ℕ → ℕ → List ℕ
refusal_text reason file place = codes "refused " ++ (decimal reason ++ (codes " " ++ (decimal file ++ (codes " " ++ decimal place))))
