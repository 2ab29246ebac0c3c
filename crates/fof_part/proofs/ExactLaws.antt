-- Both directions in one: the machine gives items exactly if they are those of lines that are spelt so and become sentences; it gives none exactly if there are no such lines. Signs spell one
-- book or none, so of a spelt book the machine gives what that book comes to.
use mathlib.Core.Path.{◌≡◌, refl, sym, ◌∙◌, ap}
use mathlib.Core.List.{List}
use mathlib.Core.Logic.{◌↔◌}
use mathlib.Core.Option.{Option, none, some}
use Rattle.basics.specs.Choice.{◌>>=◌, nope}
use Rattle.fof_truth.specs.Formula.{Role, Line}
use Rattle.fof_truth.specs.Sentence.{Sentence}
use Rattle.fof_truth.specs.Book.{sentences_of}
use Rattle.fof_part.specs.Sign.{Sign}
use Rattle.fof_part.specs.Spelled.{BookSpelt}
use Rattle.fof_part.specs.Mark.{Mark}
use Rattle.fof_part.specs.Lines.{lines_at, items}
use Rattle.fof_part.proofs.SoundLaws.{Sound, sound}
use Rattle.fof_part.proofs.CompleteLaws.{complete}
use Rattle.fof_part.proofs.OnceLaws.{spelt-once}

read_of : (ss : List Sign) (its : List (Role × List Mark)) → Sound ss its → lines_at ss ≡ some its
read_of ss its k = complete k.lines ss k.sentences k.spelt k.become ∙ ap some (sym k.are)

pub read-exactly : (ss : List Sign) (its : List (Role × List Mark)) → (lines_at ss ≡ some its) ↔ Sound ss its
read-exactly ss its = (sound ss its, read_of ss its)

pub outside-exactly : (ss : List Sign) → (lines_at ss ≡ none) ↔ ((its : List (Role × List Mark)) → Sound ss its → ⊥)
outside-exactly ss = (λ e its k. nope (sym e ∙ read_of ss its k), λ h. go (lines_at ss) refl h)
  where
    go : (o : Option (List (Role × List Mark))) → lines_at ss ≡ o → ((its : List (Role × List Mark)) → Sound ss its → ⊥) → o ≡ none
    go none e h = refl
    go (some its) e h = absurd (h its (sound ss its e))

-- of a spelt book: the items of its sentences, and none where it has none
pub book-read : (ls : List Line) (ss : List Sign) → BookSpelt ls ss → lines_at ss ≡ (sentences_of ls >>= λ sents. some (items sents))
book-read ls ss b = go (sentences_of ls) refl
  where
    none_read : sentences_of ls ≡ none → (o : Option (List (Role × List Mark))) → lines_at ss ≡ o → o ≡ none
    none_read e none h = refl
    none_read e (some its) h =
        let k = sound ss its h in
        nope (sym e ∙ ap sentences_of (spelt-once ss ls k.lines b k.spelt) ∙ k.become)

    go : (o : Option (List Sentence)) → sentences_of ls ≡ o → lines_at ss ≡ (o >>= λ sents. some (items sents))
    go none e = none_read e (lines_at ss) refl
    go (some sents) e = complete ls ss sents b e
