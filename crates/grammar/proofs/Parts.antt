-- Derivations put together and taken apart: what two rows of symbols derive, one after the other.
use mathlib.Core.Path.{◌≡◌, refl, sym, ◌∙◌, ap, subst}
use mathlib.Core.List.{List, [], ◌∷◌, ◌++◌, append_assoc}
use native.Mathlib.Omega.{arith}
use lib.ListN.{length}
use Rattle.grammar.specs.Derives.{Symbol, the, any, Derives, end, token, choice}

module _ {T N : Type 0} (alternatives : N → List (List (Symbol T N))) where
  pub join : {xs ys : List (Symbol T N)} {u v : List T} → Derives alternatives xs u → Derives alternatives ys v → Derives alternatives (xs ++ ys) (u ++ v)
  join end t = t
  join (token s) t = token (join s t)
  join {ys} {v} (choice {ss} {w} alt a s) t =
      choice alt a (subst (λ (zs : List (Symbol T N)). Derives alternatives zs (w ++ v)) (append_assoc alt ss ys) (join s t))

  -- w in two parts, one for each row
  pub record Split (xs ys : List (Symbol T N)) (w : List T) : Type 0 where
    pub front : List T
    pub back : List T
    pub whole : front ++ back ≡ w
    pub first : Derives alternatives xs front
    pub second : Derives alternatives ys back

  at_front : {zs : List (Symbol T N)} {w : List T} → Derives alternatives zs w → (ys : List (Symbol T N)) → zs ≡ ys → Split [] ys w
  at_front {w} t ys e = record { front = []; back = w; whole = refl; first = end; second = subst (λ (x : List (Symbol T N)). Derives alternatives x w) e t }

  split-eq : {zs : List (Symbol T N)} {w : List T} → Derives alternatives zs w → (xs ys : List (Symbol T N)) → zs ≡ xs ++ ys → Split xs ys w
  split-eq end xs ys e = go xs e
    where
      go : (xs : List (Symbol T N)) → [] ≡ xs ++ ys → Split xs ys []
      go [] e = at_front end ys e
      go (x ∷ xs) e = let h = ap length e in absurd (omega arith)
  split-eq (token {a} {ss} {w} t) xs ys e = go xs e (λ rs h. split-eq t rs ys h)
    where
      go : (xs : List (Symbol T N)) → the a ∷ ss ≡ xs ++ ys → ((rs : List (Symbol T N)) → ss ≡ rs ++ ys → Split rs ys w) → Split xs ys (a ∷ w)
      go [] e f = at_front (token t) ys e
      go (x ∷ xs) e f =
          let p = f xs (cc e) in
          record {
            front = a ∷ p.front;
            back = p.back;
            whole = ap (λ (u : List T). a ∷ u) p.whole;
            first = subst (λ (s : Symbol T N). Derives alternatives (s ∷ xs) (a ∷ p.front)) (cc e) (token p.first);
            second = p.second;
          }
  split-eq (choice {m} {ss} {w} alt a t) xs ys e = go xs e (λ rs h. split-eq t rs ys h)
    where
      go : (xs : List (Symbol T N)) → any m ∷ ss ≡ xs ++ ys → ((rs : List (Symbol T N)) → alt ++ ss ≡ rs ++ ys → Split rs ys w) → Split xs ys w
      go [] e f = at_front (choice alt a t) ys e
      go (x ∷ xs) e f =
          let q : ss ≡ xs ++ ys = cc e in
          let p = f (alt ++ xs) (ap (λ (r : List (Symbol T N)). alt ++ r) q ∙ sym (append_assoc alt xs ys)) in
          record {
            front = p.front;
            back = p.back;
            whole = p.whole;
            first = subst (λ (s : Symbol T N). Derives alternatives (s ∷ xs) p.front) (cc e) (choice alt a p.first);
            second = p.second;
          }

  pub split : (xs ys : List (Symbol T N)) {w : List T} → Derives alternatives (xs ++ ys) w → Split xs ys w
  split xs ys t = split-eq t xs ys refl

  -- under the same first symbol
  pub under : (s : Symbol T N) (xs ys : List (Symbol T N)) (w : List T) → ((v : List T) → Derives alternatives xs v → Derives alternatives ys v) → Derives alternatives (s ∷ xs) w → Derives alternatives (s ∷ ys) w
  under s xs ys w f t =
      let p = split (s ∷ []) xs t in
      subst (λ (u : List T). Derives alternatives (s ∷ ys) u) p.whole (join p.first (f p.back p.second))
