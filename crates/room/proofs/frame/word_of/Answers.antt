-- `word_of` of src/frame.rt meets its contract. Assumes nothing.
use Rattle.room.specs.Frame.{held, binding_word}
use Rattle.harrop.specs.declared.Binding.{Binding}
use mathlib.Core.Path.{sym, ap, ◌∙◌}
use Rattle.room.proofs.frame.word_of.Goals as goal

pub returns-in-Candidate : goal.returns-in-Candidate
returns-in-Candidate c = c.hold.ensures ∙ ap (λ (b : Binding). held (binding_word b)) (sym c.in-Candidate.is)

pub returns-in-Parameter : goal.returns-in-Parameter
returns-in-Parameter c = c.hold-in-Parameter.ensures ∙ ap (λ (b : Binding). held (binding_word b)) (sym c.in-Parameter.is)
