-- Bindings in the work room: a word for each, in frames (document 01, "When a strip fits": what a variable stands for is either a candidate, by number, or a parameter, by number).
-- A frame holds the bindings of one formula, outermost first.
use Rattle.std.specs.Prelude.{ℕ, zero, suc, ◌+◌, ◌*◌, ◌/◌, ◌%◌, min, ◌&&◌, List, [], ◌∷◌, eqb, leb, length, get_or, drop}
use Rattle.std.proofs.Math.Seq.{paste}
use Rattle.basics.specs.Choice.{choose}
use Rattle.harrop.specs.declared.Binding.{Binding}
use Rattle.harrop.specs.declared.Binding.TheVariants.{Candidate, Parameter}
use Rattle.harrop.specs.Bindings.{Bindings}

-- the word for a binding: twice the number, and one more for a parameter
abbrev pub binding_word : Binding → ℕ
binding_word (Candidate i) = i * 2
binding_word (Parameter k) = k * 2 + 1

-- and the binding that a word stands for
unfoldable pub binding_of : ℕ → Binding
binding_of w = choose (eqb (w % 2) 0) (Candidate (w / 2)) (Parameter (w / 2))

-- what a word of the room holds of a number: one that is too large counts as the largest word. No number of a packet is
abbrev pub held : ℕ → ℕ
held n = min n 4294967295

-- the bindings of a frame of n words from a base on, the nearest quantifier's first
unfoldable pub bindings_in : List ℕ → ℕ → ℕ → Bindings
bindings_in room base zero = []
bindings_in room base (suc n) = binding_of (get_or room (base + n) 0) ∷ bindings_in room base n

-- what variable i is bound to; one that nothing is bound to, to parameter 0, which is none
unfoldable pub bound_to : Bindings → ℕ → Binding
bound_to [] i = Parameter 0
bound_to (b ∷ bs) zero = b
bound_to (b ∷ bs) (suc i) = bound_to bs i

-- the room after the frame of n words at a base is copied to a place above it, if there is room; else as it was
unfoldable pub copied : List ℕ → ℕ → ℕ → ℕ → List ℕ
copied room base n top = choose (leb (base + n) top && leb (top + n) (length room)) (paste room top (drop base room) n) room
