-- Reading the tokens of a text one after the other: what is read so far and what is left are all of them.
use Prim.Native.Nat.{ℕ, zero, suc, ◌+◌, ◌-◌, ◌<◌, ◌≤◌}
use mathlib.Core.Path.{◌≡◌, refl, sym, ◌∙◌, ap, subst}
use mathlib.Core.Bool.{Bool, true, false}
use mathlib.Core.List.{List, [], ◌∷◌, ◌++◌, map, append-nil, append_assoc}
use mathlib.Core.Option.{Option, none, some}
use native.Mathlib.Omega.{arith}
use lib.ListN.{length, drop, set, take, length-take, length-drop}
use Rattle.basics.specs.Choice.{choose, ◌>>=◌}
use Rattle.basics.specs.Tells.{Tells}
use Rattle.basics.specs.Text.{octets}
use Rattle.harrop.specs.Bindings.{same_name}
use Rattle.harrop.proofs.SameLaws.{same-names-equal, name-same}
use Rattle.fof_tokens.specs.declared.Kind.{Kind}
use Rattle.fof_tokens.specs.declared.Kind.TheVariants as K
use Rattle.std.specs.Prelude.{Some, None, Result, Ok, Err}
use Rattle.std.specs.Result.{IsErr}
use Rattle.fof_tokens.specs.declared.NoToken.{NoToken}
use Rattle.fof_tokens.specs.Lexed.{Lexed}
use Rattle.fof_tokens.specs.Lexed as lexed
use Rattle.fof_tokens.specs.Token.{Token}
use Rattle.fof_tokens.specs.Lexes.{Lexes, ends, fails, drops, takes}
use Rattle.fof_tokens.specs.Next.{lexed_at, tokens_at, tokens_by, tokens}
use Rattle.fof_tokens.proofs.CutsLaws.{longest-filled}
use Rattle.fof_tokens.proofs.NextLaws.{lexed-right, tokens-next}
use Rattle.fof_productions.specs.Terminal.{'fof', other_word, '$fof', '$cnf', '$fot', other-dollar, same_octets, terminal, code}
use Rattle.fof_productions.specs.Sound.{terminal_of}
use Rattle.fof_grammar.specs.Read.{ReadAs}

-- a word that was compared
compared : (w v : List ℕ) (r : Bool) → Tells r (w ≡ v) → same_name w v ≡ r
compared w v true h = subst (λ (x : List ℕ). same_name w x ≡ true) h (name-same w)
compared w v false h = go (same_name w v) refl
  where
    go : (b : Bool) → same_name w v ≡ b → b ≡ false
    go true e = absurd (h (same-names-equal w v e))
    go false e = refl

pub said : (w v : List ℕ) (r b : Bool) → Tells r (w ≡ v) → r ≡ b → same_octets w v ≡ b
said w v r b h e = compared w v r h ∙ e

-- the token, where the words were compared
pub by-lower : (w : List ℕ) (a : Bool) → same_octets w (octets "fof") ≡ a → code (choose a 'fof' other_word) ≡ code (terminal K.Lower w)
by-lower w a e = ap (λ (x : Bool). code (choose x 'fof' other_word)) (sym e)

pub by-dollar : (w : List ℕ) (a b c : Bool) → same_octets w (octets "$fof") ≡ a → same_octets w (octets "$cnf") ≡ b → same_octets w (octets "$fot") ≡ c → code (choose a '$fof' (choose b '$cnf' (choose c '$fot' other-dollar))) ≡ code (terminal K.Dollar w)
by-dollar w a b c e f g =
    sym
    (ap (λ (x : Bool). code (choose x '$fof' (choose (same_octets w (octets "$cnf")) '$cnf' (choose (same_octets w (octets "$fot")) '$fot' other-dollar)))) e
    ∙ ap (λ (x : Bool). code (choose a '$fof' (choose x '$cnf' (choose (same_octets w (octets "$fot")) '$fot' other-dollar)))) f
    ∙ ap (λ (x : Bool). code (choose a '$fof' (choose b '$cnf' (choose x '$fot' other-dollar)))) g)

-- a token lies where it is looked for, and has bytes
abbrev Within : ℕ → List ℕ → Lexed → Type 0
Within at u (Ok None) = Unit {0}
Within at u (Err e) = Unit {0}
Within at u (Ok (Some k)) = (at ≤ k.start) × (k.start < k.end) × (k.end ≤ at + length u)

further : (at n : ℕ) (u : List ℕ) (r : Lexed) → n ≤ length u → Within (at + n) (drop n u) r → Within at u r
further at n u (Ok None) l h = tt
further at n u (Err e) l h = tt
further at n u (Ok (Some k)) l (a, b, c) = let d = length-drop n u in (omega arith, b, omega arith)

lexes-within : {at : ℕ} {u : List ℕ} {r : Lexed} → Lexes at u r → Within at u r
lexes-within ends = tt
lexes-within (fails f) = tt
lexes-within (drops {at = at} {n = n} {t = t} {r = r} l g x) = further at n t r l.within (lexes-within x)
lexes-within (takes {at = at} {n = n} {t = t} l i) = let h = longest-filled t n l in let m = l.within in (omega arith, omega arith, omega arith)

pub token-within : (text : List ℕ) (at : ℕ) (k : Kind) (s e : ℕ) → at ≤ length text → lexed.token k s e ≡ lexed_at text at → (at ≤ s) × (s < e) × (e ≤ length text)
token-within text at k s e h q =
    let (a, b, c) = subst (Within at (drop at text)) (sym q) (lexes-within (lexed-right text at)) in
    let d = length-drop at text in
    (a, b, omega arith)

-- one number more in front
put_last : (codes : List ℕ) (n x : ℕ) → n < length codes → take (n + 1) (set codes n x) ≡ take n codes ++ x ∷ []
put_last [] n x l = absurd (omega arith)
put_last (c ∷ codes) zero x l = refl
put_last (c ∷ codes) (suc n) x l =
    ap (λ (i : ℕ). take i (c ∷ set codes n x)) {x = suc n + 1} {y = suc (n + 1)} (omega arith) ∙ ap (λ (u : List ℕ). c ∷ u) (put_last codes n x (omega arith))

-- what is read so far
pub record Reading (text codes : List ℕ) (at n : ℕ) : Type 0 where
  pub before : List Token
  pub told : tokens text ≡ (tokens_at text at >>= λ ts. some (before ++ ts))
  pub put : take n codes ≡ map code (map terminal_of before)
  pub inside : at ≤ length text
  pub few : n ≤ at

bind-id : (o : Option (List Token)) → o ≡ (o >>= λ ts. some ts)
bind-id none = refl
bind-id (some ts) = refl

pub reads_first : (text codes : List ℕ) → Reading text codes 0 0
unfolding tokens
reads_first text codes = record { before = []; told = bind-id (tokens_at text 0); put = refl; inside = omega arith; few = omega arith }

module _ (text codes : List ℕ) (at n : ℕ) (r : Reading text codes at n) where
  next-is : (x : Lexed) → x ≡ lexed_at text at → tokens_at text at ≡ tokens_by text x
  next-is x e = tokens-next text at ∙ ap (tokens_by text) (sym e)

  pub reads-bad : lexed.bad ≡ lexed_at text at → tokens text ≡ none
  reads-bad e = r.told ∙ ap (λ (o : Option (List Token)). o >>= λ ts. some (r.before ++ ts)) (next-is lexed.bad e)

  pub reads_all : lexed.ended ≡ lexed_at text at → (n ≤ length text) × ((ts : List Token) × (tokens text ≡ some ts) × (take n codes ≡ map code (map terminal_of ts)))
  reads_all e =
      let i = r.inside in
      let f = r.few in
      (omega arith, (r.before, r.told ∙ ap (λ (o : Option (List Token)). o >>= λ ts. some (r.before ++ ts)) (next-is lexed.ended e) ∙ ap some (append-nil r.before), r.put))

  module _ (k : Kind) (s e : ℕ) (q : lexed.token k s e ≡ lexed_at text at) where
    abbrev it : Token
    it = record { kind = k; at = s; bytes = take (e - s) (drop s text) }

    one_more : (o : Option (List Token)) → ((o >>= λ ts. some (it ∷ ts)) >>= λ ts. some (r.before ++ ts)) ≡ (o >>= λ ts. some ((r.before ++ it ∷ []) ++ ts))
    one_more none = refl
    one_more (some ts) = ap some (sym (append_assoc r.before (it ∷ []) ts))

    mapped : (ts : List Token) → map code (map terminal_of (ts ++ it ∷ [])) ≡ map code (map terminal_of ts) ++ code (terminal_of it) ∷ []
    mapped [] = refl
    mapped (t ∷ ts) = ap (λ (l : List ℕ). code (terminal_of t) ∷ l) (mapped ts)

    pub reads_more : (x : ℕ) → n < length codes → x ≡ code (terminal k (take (e - s) (drop s text))) → Reading text (set codes n x) e (n + 1)
    reads_more x l m =
        let (a, b, c) = token-within text at k s e r.inside q in
        let f = r.few in
        record {
          before = r.before ++ it ∷ [];
          told = r.told ∙ ap (λ (o : Option (List Token)). o >>= λ ts. some (r.before ++ ts)) (next-is (lexed.token k s e) q) ∙ one_more (tokens_at text e);
          put = put_last codes n x l ∙ ap (λ (u : List ℕ). u ++ x ∷ []) r.put ∙ ap (λ (y : ℕ). map code (map terminal_of r.before) ++ y ∷ []) m ∙ sym (mapped r.before);
          inside = c;
          few = omega arith;
        }

-- by what was answered
pub counted : (text codes : List ℕ) (r : Result ℕ NoToken) (n : ℕ) → r ≡ Ok n → ReadAs text codes r → ReadAs text codes (Ok n)
counted text codes r n e h = subst (ReadAs text codes) e h

pub uncut : (text codes : List ℕ) (r : Result ℕ NoToken) → {e : NoToken} → r ≡ Err e → ReadAs text codes r → tokens text ≡ none
uncut text codes r f h = subst (ReadAs text codes) f h

-- something is no token
pub refused : (text codes : List ℕ) (r : Result ℕ NoToken) → IsErr r → tokens text ≡ none → ReadAs text codes r
refused text codes (Ok n) h e = cc
refused text codes (Err x) h e = e

-- the first n of a list that is long enough
pub short-prefix : (codes : List ℕ) (n m k : ℕ) → n ≤ m → m ≤ k → length codes ≡ k → n ≤ length codes
short-prefix codes n m k h l e = omega arith

pub prefix-length : (codes : List ℕ) (n : ℕ) → n ≤ length codes → n ≡ length (take n codes)
prefix-length codes n h = let e = length-take n codes in omega arith

pub prefix-few : (codes : List ℕ) (n m : ℕ) → n ≤ m → m ≤ 16384 → length (take n codes) ≤ 16384
prefix-few codes n m h l = let e = length-take n codes in omega arith

pub same-room : (n k : ℕ) → k ≡ n → n ≤ k
same-room n k e = omega arith
