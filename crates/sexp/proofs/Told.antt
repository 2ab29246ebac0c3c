-- What the scan takes can be completed to an expression that it knows, and what it takes to the end is spelt; and a fault stays whatever follows it.
-- From document 01, refusal 2, and document 02, Two, for its place.
use Prim.Native.Nat.{ℕ, zero, suc, ◌+◌, ◌*◌, ◌-◌, ◌≤◌, ◌<◌}
use mathlib.Core.Path.{◌≡◌, refl, sym, ◌∙◌, ap, subst}
use mathlib.Core.Bool.{Bool, true, false, ◌&&◌}
use mathlib.Core.List.{List, [], ◌∷◌, ◌++◌}
use mathlib.Core.Option.{Option, none, some}
use native.Mathlib.Omega.{arith}
use lib.Dec.{eqb, ltb}
use lib.ListN.{length, take, replicate, length-replicate}
use borrow.Author.Tests.{eqb-true, ltb-true}
use Rattle.basics.specs.Choice.{choose}
use Rattle.sexp.specs.declared.carrier.Carrier.{Carrier}
use Rattle.sexp.specs.declared.carrier.Carrier.TheVariants.{Sound, Fault, Deep}
use Rattle.sexp.specs.Decimal.{decimal_onto, is_digit}
use Rattle.sexp.specs.Sexp.{Sexp, Sexps, str, hinted, list, nil, cons, spell_onto, spells_onto, verbatim_onto}
use Rattle.sexp.specs.Known.{Known, Knowns}
use Rattle.sexp.specs.Scan.{Then, after, shut, State, due, string, number, owed, digit, begin, step, deeper, note, ended, scan}
use Rattle.sexp.specs.Meaning.{Octets}
use Rattle.sexp.proofs.DecimalLaws.{onto-small, onto-step, both_true, digit_low, digit-high}

module _ (hints : Bool) where
  -- w ends d lists: the members that are left of each, and its parenthesis
  abbrev Closes : ℕ → List ℕ → Type 0
  Closes zero w = w ≡ []
  Closes (suc d) w = (xs : Sexps) × (k : List ℕ) × (w ≡ spells_onto xs (41 ∷ k)) × Knowns hints xs × Closes d k

  -- w is an expression in d lists, and ends them
  abbrev Due : ℕ → List ℕ → Type 0
  Due d w = (e : Sexp) × (k : List ℕ) × (w ≡ spell_onto e k) × Known hints e × Closes d k

  -- w is what follows a string
  abbrev Ends : Then → List ℕ → Type 0
  Ends (after d) w = Closes d w
  Ends (shut d) w = (bs : List ℕ) × (k : List ℕ) × (w ≡ 93 ∷ verbatim_onto bs k) × Closes d k

  -- w is a string and what follows it
  abbrev Text : Then → List ℕ → Type 0
  Text t w = (bs : List ℕ) × (k : List ℕ) × (w ≡ verbatim_onto bs k) × Ends t k

  -- w is what is due
  abbrev pub Rest : State → List ℕ → Type 0
  Rest (due d) w = Due d w
  Rest (string t) w = Text t w
  Rest (number t n) w = Text t (decimal_onto n w)
  Rest (owed t n) w = (bs : List ℕ) × (k : List ℕ) × (length bs ≡ n) × (w ≡ bs ++ k) × Ends t k

  abbrev After : Option State → List ℕ → Type 0
  After none w = ⊥
  After (some q) w = Rest q w

  -- no octets are due
  owed_none : (t : Then) (w : List ℕ) → Rest (owed t 0) w → Ends t w
  owed_none t w ([], k, l, e, u) = subst (Ends t) (sym e) u
  owed_none t w (b ∷ bs, k, l, e, u) = absurd (omega arith)

  none-owed : (t : Then) (w : List ℕ) → Ends t w → Rest (owed t 0) w
  none-owed t w u = ([], w, refl, refl, u)

  due-member : (d : ℕ) (w : List ℕ) → Due (suc d) w → Closes (suc d) w
  due-member d w (e, k, h, y, (xs, k', h', z, t)) = (cons e xs, k', h ∙ ap (spell_onto e) h', (y, z), t)

  -- one byte back
  digit-back : (t : Then) (c : ℕ) (w : List ℕ) → After (digit t c) w → Text t (c ∷ w)
  unfolding digit
  digit-back t c w a = go (is_digit c) refl a
    where
      go : (b : Bool) → is_digit c ≡ b → After (choose b (some (number t (c - 48))) none) w → Text t (c ∷ w)
      go true e a =
          let l = digit_low c e in
          let h = digit-high c e in
          subst (Text t) (onto-small (c - 48) w (omega arith) ∙ ap (λ (x : ℕ). x ∷ w) {x = 48 + (c - 48)} {y = c} (omega arith)) a
      go false e a = absurd a

  begin-back : (d c : ℕ) (w : List ℕ) → After (begin hints d c) w → Due d (c ∷ w)
  unfolding begin
  begin-back d c w a = go (eqb c 40) refl a
    where
      go₂ : (b : Bool) → hints && eqb c 91 ≡ b → After (choose b (some (string (shut d))) (digit (after d) c)) w → Due d (c ∷ w)
      go₂ true e (h, k, f, (bs, k', f', t)) =
          let p = both_true hints (eqb c 91) e in
          (hinted h bs, k', ap (λ (x : ℕ). x ∷ w) (eqb-true c 91 p.1) ∙ ap (λ (x : List ℕ). 91 ∷ x) (f ∙ ap (verbatim_onto h) f'), p.0, t)
      go₂ false e a = let (bs, k, h, t) = digit-back (after d) c w a in (str bs, k, h, tt, t)

      go : (b : Bool) → eqb c 40 ≡ b → After (choose b (some (owed (after (suc d)) 0)) (choose (hints && eqb c 91) (some (string (shut d))) (digit (after d) c))) w → Due d (c ∷ w)
      go true e a =
          let (xs, k, h, y, t) = owed_none (after (suc d)) w a in
          (list xs, k, ap (λ (x : ℕ). x ∷ w) (eqb-true c 40 e) ∙ ap (λ (x : List ℕ). 40 ∷ x) h, y, t)
      go false e a = go₂ (hints && eqb c 91) refl a

  pub back : (q : State) (c : ℕ) (w : List ℕ) → After (step hints q c) w → Rest q (c ∷ w)
  unfolding step
  back (due d) c w a = begin-back d c w a
  back (string t) c w a = digit-back t c w a
  back (number t n) c w a = go (eqb c 58) refl a
    where
      go₂ : (b : Bool) → is_digit c && ltb 0 n ≡ b → After (choose b (some (number t (n * 10 + (c - 48)))) none) w → Text t (decimal_onto n (c ∷ w))
      go₂ true e a =
          let p = both_true (is_digit c) (ltb 0 n) e in
          let l = digit_low c p.0 in
          let h = digit-high c p.0 in
          subst (Text t)
          (onto-step n (c - 48) w (ltb-true 0 n p.1) (omega arith)
          ∙ ap (λ (x : ℕ). decimal_onto n (x ∷ w)) {x = 48 + (c - 48)} {y = c} (omega arith))
          a
      go₂ false e a = absurd a

      go : (b : Bool) → eqb c 58 ≡ b → After (choose b (some (owed t n)) (choose (is_digit c && ltb 0 n) (some (number t (n * 10 + (c - 48)))) none)) w → Text t (decimal_onto n (c ∷ w))
      go true e (bs, k, l, h, u) = (
        bs,
        k,
        ap (λ (x : ℕ). decimal_onto n (x ∷ w)) (eqb-true c 58 e)
            ∙ ap (λ (x : List ℕ). decimal_onto n (58 ∷ x)) h
            ∙ ap (λ (x : ℕ). decimal_onto x (58 ∷ (bs ++ k))) (sym l),
        u,
      )
      go false e a = go₂ (is_digit c && ltb 0 n) refl a
  back (owed d (suc n)) c w (bs, k, l, h, t) = (c ∷ bs, k, omega arith, ap (λ (x : List ℕ). c ∷ x) h, t)
  back (owed (shut d) zero) c w a = go (eqb c 93) refl a
    where
      go : (b : Bool) → eqb c 93 ≡ b → After (choose b (some (string (after d))) none) w → Rest (owed (shut d) 0) (c ∷ w)
      go true e (bs, k, h, t) =
          none-owed (shut d) (c ∷ w) (bs, k, ap (λ (x : ℕ). x ∷ w) (eqb-true c 93 e) ∙ ap (λ (x : List ℕ). 93 ∷ x) h, t)
      go false e a = absurd a
  back (owed (after zero) zero) c w a = absurd a
  back (owed (after (suc d)) zero) c w a = go (eqb c 41) refl a
    where
      go : (b : Bool) → eqb c 41 ≡ b → After (choose b (some (owed (after d) 0)) (begin hints (suc d) c)) w → Rest (owed (after (suc d)) 0) (c ∷ w)
      go true e a = none-owed (after (suc d)) (c ∷ w) (nil, w, ap (λ (x : ℕ). x ∷ w) (eqb-true c 41 e), tt, owed_none (after d) w a)
      go false e a = none-owed (after (suc d)) (c ∷ w) (due-member d (c ∷ w) (begin-back (suc d) c w a))

  -- whatever is due can come: zeros for the octets, then the parentheses
  closing : (d : ℕ) → (w : List ℕ) × Octets w × Closes d w
  closing zero = ([], tt, refl)
  closing (suc d) = let (w, o, t) = closing d in (41 ∷ w, (omega arith, o), (nil, w, refl, tt, t))

  zeros : (n : ℕ) (w : List ℕ) → Octets w → Octets (replicate n 48 ++ w)
  zeros zero w o = o
  zeros (suc n) w o = (omega arith, zeros n w o)

  ending : (t : Then) → (w : List ℕ) × Octets w × Ends t w
  ending (after d) = closing d
  ending (shut d) =
      let (k, o, u) = closing d in
      (93 ∷ 48 ∷ 58 ∷ k, (omega arith, (omega arith, (omega arith, o))), ([], k, ap (λ (x : List ℕ). 93 ∷ x) (sym (onto-small 0 (58 ∷ k) (omega arith))), u))

  pub completion : (q : State) → (w : List ℕ) × Octets w × Rest q w
  completion (due d) =
      let (k, o, t) = closing d in
      (40 ∷ 41 ∷ k, (omega arith, (omega arith, o)), (list nil, k, refl, tt, t))
  completion (string t) =
      let (k, o, u) = ending t in
      (48 ∷ 58 ∷ k, (omega arith, (omega arith, o)), ([], k, sym (onto-small 0 (58 ∷ k) (omega arith)), u))
  completion (number t n) =
      let (k, o, u) = ending t in
      (58 ∷ (replicate n 48 ++ k), (omega arith, zeros n k o), (replicate n 48, k, ap (λ (x : ℕ). decimal_onto x (58 ∷ (replicate n 48 ++ k))) (sym (length-replicate n 48)), u))
  completion (owed t n) =
      let (k, o, u) = ending t in
      (replicate n 48 ++ k, zeros n k o, (replicate n 48, k, length-replicate n 48, refl, u))

-- a verdict so far is no fault
abbrev pub Calm : Carrier → Type 0
Calm Sound = Unit {0}
Calm (Deep o) = Unit {0}
Calm (Fault o) = ⊥

module _ (limit : ℕ) where
  pub deeper-calm : (d at : ℕ) (v : Carrier) → Calm v → Calm (deeper limit d at v)
  unfolding deeper
  deeper-calm d at Sound h = go (eqb d limit)
    where
      go : (b : Bool) → Calm (choose b (Deep at) Sound)
      go true = tt
      go false = tt
  deeper-calm d at (Deep o) h = tt
  deeper-calm d at (Fault o) h = absurd h

  open-calm : (b : Bool) (d at : ℕ) (v : Carrier) → Calm v → Calm (choose b (deeper limit d at v) v)
  open-calm true d at v h = deeper-calm d at v h
  open-calm false d at v h = h

  note-calm : (q : State) (c at : ℕ) (v : Carrier) → Calm v → Calm (note limit q c at v)
  unfolding note
  note-calm (due d) c at v h = open-calm (eqb c 40) d at v h
  note-calm (string t) c at v h = h
  note-calm (number d n) c at v h = h
  note-calm (owed d (suc n)) c at v h = h
  note-calm (owed (shut d) zero) c at v h = h
  note-calm (owed (after zero) zero) c at v h = h
  note-calm (owed (after (suc d)) zero) c at v h = open-calm (eqb c 40) (suc d) at v h

module _ (hints : Bool) where
  -- what a verdict says of the bytes that were scanned
  abbrev pub Told : State → ℕ → List ℕ → Carrier → Type 0
  Told q at w Sound = Rest hints q w
  Told q at w (Deep o) = Rest hints q w
  Told q at w (Fault o) = (n : ℕ) × (o ≡ at + n) × (n ≤ length w) × (x : List ℕ) × Octets x × Rest hints q (take n w ++ x)

  -- nothing more was taken
  stopped : (q : State) (at : ℕ) (w : List ℕ) → Told q at w (Fault at)
  stopped q at w = let (x, o, r) = completion hints q in (0, omega arith, omega arith, x, o, r)

  told_more : (q p : State) (c at : ℕ) (w : List ℕ) (r : Carrier) → ((x : List ℕ) → Rest hints p x → Rest hints q (c ∷ x)) → Told p (at + 1) w r → Told q at (c ∷ w) r
  told_more q p c at w Sound b t = b w t
  told_more q p c at w (Deep o) b t = b w t
  told_more q p c at w (Fault o) b (n, e, l, x, y, t) = (suc n, omega arith, omega arith, x, y, b (take n w ++ x) t)

  told-end : (q : State) (at : ℕ) (v : Carrier) → Calm v → Told q at [] (ended q at v)
  unfolding ended
  told-end (due d) at v h = stopped (due d) at []
  told-end (string t) at v h = stopped (string t) at []
  told-end (number d n) at v h = stopped (number d n) at []
  told-end (owed d (suc n)) at v h = stopped (owed d (suc n)) at []
  told-end (owed (shut d) zero) at v h = stopped (owed (shut d) zero) at []
  told-end (owed (after (suc d)) zero) at v h = stopped (owed (after (suc d)) zero) at []
  told-end (owed (after zero) zero) at Sound h = ([], [], refl, refl, refl)
  told-end (owed (after zero) zero) at (Deep o) h = ([], [], refl, refl, refl)
  told-end (owed (after zero) zero) at (Fault o) h = absurd h

module _ (hints : Bool) (limit : ℕ) where
  pub told : (w : List ℕ) (q : State) (at : ℕ) (v : Carrier) → Calm v → Told hints q at w (scan hints limit q at v w)
  unfolding scan
  told [] q at v h = told-end hints q at v h
  told (c ∷ w) q at v h = go (step hints q c) refl (λ p. told w p (at + 1) (note limit q c at v) (note-calm limit q c at v h))
    where
      go : (o : Option State) → step hints q c ≡ o → ((p : State) → Told hints p (at + 1) w (scan hints limit p (at + 1) (note limit q c at v) w)) → Told hints q at (c ∷ w) (elim o as (λ x. Carrier) [ none ↦ Fault at | some p ↦ scan hints limit p (at + 1) (note limit q c at v) w ])
      go none e ih = stopped hints q at (c ∷ w)
      go (some p) e ih = told_more hints q p c at w (scan hints limit p (at + 1) (note limit q c at v) w) (λ x r. back hints q c x (subst (λ (o : Option State). After hints o x) (sym e) r)) (ih p)

  -- a fault stays, whatever comes after the byte that made it
  pub steady : (w : List ℕ) (q : State) (at : ℕ) (v : Carrier) (o : ℕ) → Calm v → scan hints limit q at v w ≡ Fault o → (m : ℕ) → o < at + m → m ≤ length w → (x : List ℕ) → scan hints limit q at v (take m w ++ x) ≡ Fault o
  unfolding scan
  steady w q at v o h e zero l l' x = let (n, t, i, y, z, r) = subst (Told hints q at w) e (told w q at v h) in absurd (omega arith)
  steady [] q at v o h e (suc m) l l' x = absurd (omega arith)
  steady (c ∷ w) q at v o h e (suc m) l l' x = go (step hints q c) e (λ p e. steady w p (at + 1) (note limit q c at v) o (note-calm limit q c at v h) e m (omega arith) (omega arith) x)
    where
      go : (s : Option State) → elim s as (λ x. Carrier) [ none ↦ Fault at | some p ↦ scan hints limit p (at + 1) (note limit q c at v) w ] ≡ Fault o → ((p : State) → scan hints limit p (at + 1) (note limit q c at v) w ≡ Fault o → scan hints limit p (at + 1) (note limit q c at v) (take m w ++ x) ≡ Fault o) → elim s as (λ x. Carrier) [ none ↦ Fault at | some p ↦ scan hints limit p (at + 1) (note limit q c at v) (take m w ++ x) ] ≡ Fault o
      go none e ih = e
      go (some p) e ih = ih p e
