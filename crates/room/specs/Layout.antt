-- The layout of the work room, said once: which of its 32-bit words holds what (document 01, "Sizes"). The tables of rules and candidates, the supposed clauses, then
-- bindings in frames, a stack from a fixed word on. Everything from the stack's top on is free. That 8,192 words are always enough is proved of it in proofs/EnoughLaws.
use Rattle.std.specs.Prelude.{ℕ, ◌+◌, ◌*◌, ◌≤◌}
use Rattle.packet.specs.File.{most_levels, most_members}

-- document 01's sizes, as far as they bound the room
abbrev pub words : ℕ
words = 8192

abbrev pub rules_at_most : ℕ
rules_at_most = most_members

abbrev pub candidates_at_most : ℕ
candidates_at_most = most_members

abbrev pub levels : ℕ
levels = most_levels

-- the number of rules, and where rule k starts in its file
abbrev pub rules_word : ℕ
rules_word = 0

abbrev pub rule_word : ℕ → ℕ
rule_word k = 1 + k

-- the number of candidates, where candidate i starts in its file, and its highest parameter
abbrev pub candidates_word : ℕ
candidates_word = 257

abbrev pub candidate_word : ℕ → ℕ
candidate_word i = 258 + i

abbrev pub highest_word : ℕ → ℕ
highest_word i = 514 + i

-- supposed clause m, in five words: source, offset, where its bindings start, how many they are, and one word kept for request Nine
abbrev pub supposed_word : ℕ → ℕ
supposed_word m = 770 + 5 * m

abbrev pub supposed_at_most : ℕ
supposed_at_most = 63

-- where the stack of bindings starts
abbrev pub stack : ℕ
stack = 1085

-- what is still free: at a place with `nest` levels to come (of a strip's nesting, or of a search's height), `top` is the stack's top, m clauses are supposed and p parameters open.
-- A node pushes at most 64 words and supposes one clause or opens one parameter at most
pub record Enough (top m p nest : ℕ) : Type 0 where
  pub bindings : top + levels * nest ≤ words
  pub supposed : m + nest ≤ levels
  pub opened : p + nest ≤ levels
