-- What stands where inside an expression: inside how many lists, and at which offset of its spelling. The outermost list of an expression is level 1, so a list
-- that stands inside l lists opens at level l + 1 (document 01, "Sizes").
use Rattle.std.specs.Prelude.{ℕ, suc, ◌+◌, length}
use Rattle.sexp.specs.Sexp.{Sexp, Sexps, list, cons, spell}

mutual
  -- At e l o x: in e, inside l lists, at offset o, stands x
  pub data At : Sexp → ℕ → ℕ → Sexp → Type 0 where
    here : {e : Sexp} → At e 0 0 e
    within : {xs : Sexps} {l o : ℕ} {x : Sexp} → Among xs l o x → At (list xs) (suc l) (suc o) x

  -- the same among the members of a list
  pub data Among : Sexps → ℕ → ℕ → Sexp → Type 0 where
    first : {e : Sexp} {es : Sexps} {l o : ℕ} {x : Sexp} → At e l o x → Among (cons e es) l o x
    later : {e : Sexp} {es : Sexps} {l o : ℕ} {x : Sexp} → Among es l o x → Among (cons e es) l (length (spell e) + o) x

-- at offset o of e a list opens at level l + 1
abbrev pub Opens : Sexp → ℕ → ℕ → Type 0
Opens e l o = (xs : Sexps) × At e l o (list xs)
