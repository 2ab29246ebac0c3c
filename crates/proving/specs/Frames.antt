-- The frame of a clause with some of its variables unset, and what it may become (document 02, Three: the head decides before candidates are tried).
use Rattle.std.specs.Prelude.{ℕ, zero, suc, ◌≡◌, true, false, List, [], ◌∷◌}
use Rattle.harrop.specs.declared.Binding.{Binding}
use Rattle.harrop.specs.declared.Binding.TheVariants.{Candidate}
use Rattle.harrop.specs.Formula.{Term, Clause}
use Rattle.harrop.specs.Bindings.{Bindings}
use Rattle.harrop.specs.Place.{Plain, listed, allowed}
use Rattle.mentions.specs.Open.{unset, is_unset}

-- so many quantifiers around a clause, so many unset variables before others, and a frame with another binding for variable v
abbrev pub alls : ℕ → Clause Plain → Clause Plain
alls zero d = d
alls (suc m) d = Clause.all_d tt (alls m d)

abbrev pub unsets : ℕ → Bindings → Bindings
unsets zero bs = bs
unsets (suc m) bs = unset ∷ unsets m bs

abbrev pub set_to : ℕ → Binding → Bindings → Bindings
set_to v d [] = []
set_to zero d (b ∷ bs) = d ∷ bs
set_to (suc v) d (b ∷ bs) = b ∷ set_to v d bs

-- a frame completed: each of its first m variables that is unset gets a candidate that may be used, and the others stay
module _ (us : List Term) (o : List Plain) where
  pub record Fills (b d : Binding) : Type 0 where
    pub gets : is_unset b ≡ true → (i : ℕ) × (d ≡ Candidate i) × (allowed (listed us) o tt i ≡ true)
    pub stays : is_unset b ≡ false → d ≡ b

  abbrev pub Completes : ℕ → Bindings → Bindings → Type 0
  Completes zero bs ds = ds ≡ bs
  Completes (suc m) [] ds = ⊥
  Completes (suc m) (b ∷ bs) [] = ⊥
  Completes (suc m) (b ∷ bs) (d ∷ ds) = Fills b d × Completes m bs ds
