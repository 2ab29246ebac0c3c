-- What is drawn of a strip, node by node: a head, the parts one behind another, and the closing parenthesis. No strip that is 64 high has more nodes than a machine word counts.
use Prim.Native.Nat.{ℕ, suc, ◌-◌, ◌≤◌, ◌<◌}
use mathlib.Core.Path.{◌≡◌, refl, sym, ◌∙◌, ap, subst}
use mathlib.Core.List.{List, [], ◌∷◌, ◌++◌, append_assoc}
use mathlib.Core.Option.{Option, none, some, some-injective}
use native.Mathlib.Omega.{arith}
use lib.ListN.{length}
use borrow.Rule.Slice.PartMut.{mid_of, put_mid}
use Rattle.basics.specs.Text.{octets}
use Rattle.basics.specs.Choice.{◌>>=◌, bind-some}
use Rattle.harrop.specs.Formula.{Goal, Step, Strip, height, nodes}
use Rattle.harrop.specs.Bindings.{Bindings}
use Rattle.harrop.specs.Place.{End}
use Rattle.drawing.specs.Spelled.{written, step_bytes, path_bytes}
use Rattle.pen.specs.Numeral.{numeral}
use Rattle.drawing.specs.Chosen.{used_at}
use Rattle.pen.specs.Laid.{Puts}
use Rattle.drawing.specs.Drawn.{nothing, Cuts, behind, beside, Closes, Draws, DrawsRest, rest_bytes, rest_height, rest_nodes, ended, use_of}
use Rattle.drawing.specs.declared.Drawn.{Drawn}
use Rattle.drawing.proofs.StripLaws.{few-nodes}
use Rattle.drawing.proofs.SpelledLaws.{top-spelled, and-spelled, left-spelled, right-spelled, some-spelled, all-spelled, imp-spelled, use₀-spelled, use₁-spelled, no_steps, one-step, l-bytes, r-bytes, n-bytes}
use Rattle.pen.proofs.LaidLaws.{puts_then, puts-as, puts-lent}

few : (S : Strip) → height S ≤ 64 → nodes S < 18446744073709551616
few S l = few-nodes 64 S l

pub draws-top : {at m : ℕ} {d d1 d2 : List ℕ} {a r : Drawn} → Puts at (octets "(3:top") d d1 m → a ≡ nothing m → Closes a d1 d2 r → Draws at Strip.top d d2 r
draws-top {at} {m} {d} {d1} {d2} {a} {r} p e h =
    let c = subst (λ (x : Drawn). Closes x d1 d2 r) e h in
    record { puts = puts-as (sym top-spelled) (puts_then p c.puts); high = c.high; many = c.many }

pub draws-and : {at m : ℕ} {X Y : Strip} {d d1 d2 d3 d4 : List ℕ} {a b r : Drawn} → height (Strip.and X Y) ≤ 64 → Puts at (octets "(3:and") d d1 m → Draws m X d1 d2 a → Draws a.at Y d2 d3 b → Closes (beside a b) d3 d4 r → Draws at (Strip.and X Y) d d4 r
draws-and {X = X} {Y} l p x y c = record {
  puts = puts-as (sym (and-spelled X Y)) (puts_then p (puts_then x.puts (puts_then y.puts c.puts)));
  high = omega (arith, c.high, x.high, y.high);
  many = omega (arith, c.many, x.many, y.many, few (Strip.and X Y) l);
}

pub draws-left : {at m : ℕ} {X : Strip} {d d1 d2 d3 : List ℕ} {a r : Drawn} → height (Strip.left X) ≤ 64 → Puts at (octets "(4:left") d d1 m → Draws m X d1 d2 a → Closes a d2 d3 r → Draws at (Strip.left X) d d3 r
draws-left {X = X} l p x c = record {
  puts = puts-as (sym (left-spelled X)) (puts_then p (puts_then x.puts c.puts));
  high = omega (arith, c.high, x.high);
  many = omega (arith, c.many, x.many, few (Strip.left X) l);
}

pub draws-right : {at m : ℕ} {X : Strip} {d d1 d2 d3 : List ℕ} {a r : Drawn} → height (Strip.right X) ≤ 64 → Puts at (octets "(5:right") d d1 m → Draws m X d1 d2 a → Closes a d2 d3 r → Draws at (Strip.right X) d d3 r
draws-right {X = X} l p x c = record {
  puts = puts-as (sym (right-spelled X)) (puts_then p (puts_then x.puts c.puts));
  high = omega (arith, c.high, x.high);
  many = omega (arith, c.many, x.many, few (Strip.right X) l);
}

pub draws-all : {at m : ℕ} {X : Strip} {d d1 d2 d3 : List ℕ} {a r : Drawn} → height (Strip.all X) ≤ 64 → Puts at (octets "(3:all") d d1 m → Draws m X d1 d2 a → Closes a d2 d3 r → Draws at (Strip.all X) d d3 r
draws-all {X = X} l p x c = record {
  puts = puts-as (sym (all-spelled X)) (puts_then p (puts_then x.puts c.puts));
  high = omega (arith, c.high, x.high);
  many = omega (arith, c.many, x.many, few (Strip.all X) l);
}

pub draws-imp : {at m : ℕ} {X : Strip} {d d1 d2 d3 : List ℕ} {a r : Drawn} → height (Strip.imp X) ≤ 64 → Puts at (octets "(3:imp") d d1 m → Draws m X d1 d2 a → Closes a d2 d3 r → Draws at (Strip.imp X) d d3 r
draws-imp {X = X} l p x c = record {
  puts = puts-as (sym (imp-spelled X)) (puts_then p (puts_then x.puts c.puts));
  high = omega (arith, c.high, x.high);
  many = omega (arith, c.many, x.many, few (Strip.imp X) l);
}

pub draws-some : {at m n i : ℕ} {X : Strip} {d d1 d2 d3 d4 : List ℕ} {a r : Drawn} → height (Strip.some i X) ≤ 64 → Puts at (octets "(4:some") d d1 m → Puts m (numeral i) d1 d2 n → Draws n X d2 d3 a → Closes a d3 d4 r → Draws at (Strip.some i X) d d4 r
draws-some {i = i} {X} l p q x c = record {
  puts = puts-as (sym (some-spelled X i)) (puts_then p (puts_then q (puts_then x.puts c.puts)));
  high = omega (arith, c.high, x.high);
  many = omega (arith, c.many, x.many, few (Strip.some i X) l);
}

-- the use of a clause: its bytes are its number, the rest behind the opening of its path, and the closing parenthesis
use-spelled : (k : ℕ) (path : List Step) (B : Option Strip) → octets "(3:use" ++ (numeral k ++ (octets "(" ++ (rest_bytes path B ++ octets ")"))) ≡ written (use_of k path B)
use-spelled k path none =
    ap (λ (x : List ℕ). octets "(3:use" ++ (numeral k ++ (octets "(" ++ x))) (append_assoc (path_bytes path) (octets ")") (octets ")"))
    ∙ sym (use₀-spelled k path)
use-spelled k path (some X) =
    ap (λ (x : List ℕ). octets "(3:use" ++ (numeral k ++ (octets "(" ++ x))) (append_assoc (path_bytes path) (octets ")" ++ written X) (octets ")"))
    ∙ sym (use₁-spelled k path X)

use-high : (k : ℕ) (path : List Step) (B : Option Strip) → height (use_of k path B) ≡ suc (rest_height B)
use-high k path none = refl
use-high k path (some X) = refl

use-many : (k : ℕ) (path : List Step) (B : Option Strip) → nodes (use_of k path B) ≡ suc (rest_nodes B)
use-many k path none = refl
use-many k path (some X) = refl

pub draws-use : (k : ℕ) {at l m n : ℕ} {path : List Step} {B : Option Strip} {d d1 d2 d3 d4 d5 : List ℕ} {a r : Drawn} → height (use_of k path B) ≤ 64 → Puts at (octets "(3:use") d d1 l → Puts l (numeral k) d1 d2 m → Puts m (octets "(") d2 d3 n → DrawsRest n path B d3 d4 a → Closes a d4 d5 r → Draws at (use_of k path B) d d5 r
draws-use k {path = path} {B} h p q o x c = record {
  puts = puts-as (use-spelled k path B) (puts_then p (puts_then q (puts_then o (puts_then x.puts c.puts))));
  high = omega (arith, c.high, x.high, use-high k path B);
  many = omega (arith, c.many, x.many, use-many k path B, few (use_of k path B) h);
}

-- the rest of a use: the end of the path with nothing behind it, the end with the body's strip, and a step before the rest
pub rest-none : {at m : ℕ} {d d1 : List ℕ} {r : Drawn} → Puts at (octets ")") d d1 m → r ≡ nothing m → DrawsRest at [] none d d1 r
rest-none {at} {d = d} {d1} p e =
    subst (λ (x : Drawn). DrawsRest at [] none d d1 x) (sym e) (record { puts = puts-as (ap (λ (x : List ℕ). x ++ octets ")") (sym no_steps)) p; high = refl; many = refl })

pub rest-body : {at m : ℕ} {X : Strip} {d d1 d2 : List ℕ} {a : Drawn} → Puts at (octets ")") d d1 m → Draws m X d1 d2 a → DrawsRest at [] (some X) d d2 a
rest-body {X = X} p x = record {
  puts = puts-as (ap (λ (y : List ℕ). y ++ (octets ")" ++ written X)) (sym no_steps)) (puts_then p x.puts);
  high = x.high;
  many = x.many;
}

step-spelled : (s : Step) (path : List Step) (B : Option Strip) (w : List ℕ) → step_bytes s ≡ w → w ++ rest_bytes path B ≡ rest_bytes (s ∷ path) B
step-spelled s path none w e =
    sym (append_assoc w (path_bytes path) (octets ")"))
    ∙ ap (λ (x : List ℕ). x ++ octets ")") (ap (λ (x : List ℕ). x ++ path_bytes path) (sym e) ∙ sym (one-step s path))
step-spelled s path (some X) w e =
    sym (append_assoc w (path_bytes path) (octets ")" ++ written X))
    ∙ ap (λ (x : List ℕ). x ++ (octets ")" ++ written X)) (ap (λ (x : List ℕ). x ++ path_bytes path) (sym e) ∙ sym (one-step s path))

rest-step : {at m : ℕ} {w : List ℕ} {s : Step} {path : List Step} {B : Option Strip} {d d1 d2 : List ℕ} {a : Drawn} → step_bytes s ≡ w → Puts at w d d1 m → DrawsRest m path B d1 d2 a → DrawsRest at (s ∷ path) B d d2 a
rest-step {w = w} {s} {path} {B} e p x = record { puts = puts-as (step-spelled s path B w e) (puts_then p x.puts); high = x.high; many = x.many }

pub rest-l : {at m : ℕ} {path : List Step} {B : Option Strip} {d d1 d2 : List ℕ} {a : Drawn} → Puts at (octets "1:l") d d1 m → DrawsRest m path B d1 d2 a → DrawsRest at (Step.l ∷ path) B d d2 a
rest-l p x = rest-step l-bytes p x

pub rest-r : {at m : ℕ} {path : List Step} {B : Option Strip} {d d1 d2 : List ℕ} {a : Drawn} → Puts at (octets "1:r") d d1 m → DrawsRest m path B d1 d2 a → DrawsRest at (Step.r ∷ path) B d d2 a
rest-r p x = rest-step r-bytes p x

pub rest-n : {at m i : ℕ} {path : List Step} {B : Option Strip} {d d1 d2 : List ℕ} {a : Drawn} → Puts at (numeral i) d d1 m → DrawsRest m path B d1 d2 a → DrawsRest at (Step.n i ∷ path) B d d2 a
rest-n {i = i} p x = rest-step (n-bytes i) p x

-- the strip of a use is known from the body's
pub used-rest : {Q : Type 0} (prove : Goal Q → Bindings → Option Strip) (k : ℕ) (path : List Step) (x : End Q) (S : Strip) → used_at prove k path x ≡ some S → (B : Option Strip) × (ended prove x ≡ some B) × (S ≡ use_of k path B)
used-rest prove k path (End.at_atom b bs) S e = (none, refl, sym (some-injective (Strip.use₀ k path) S e))
used-rest prove k path (End.at_imp g b bs) S e =
    let (X, f, i) = bind-some (prove g bs) (λ P. some (Strip.use₁ k path P)) S e in
    (some X, ap (λ (o : Option Strip). o >>= λ Y. some (some Y)) f, sym (some-injective (Strip.use₁ k path X) S i))

-- what is drawn in the remaining part of a buffer, which is lent, is drawn in the buffer
pub draws-lent : {i m : ℕ} {S : Strip} {d p' : List ℕ} {a r : Drawn} → Cuts m (length d) i → r ≡ behind i a → Draws (m - i) S (mid_of i (length d - i) d) p' a → Draws m S d (put_mid i (length d - i) d p') r
draws-lent {i} {m} {S} {d} {p'} {a} c e x =
    subst (λ (z : Drawn). Draws m S d (put_mid i (length d - i) d p') z) (sym e)
    (record { puts = puts-lent {i = i} {m = m} (omega (arith, c.there)) (omega (arith, c.there)) c.small x.puts refl; high = x.high; many = x.many })

pub rest-lent : {i m : ℕ} {path : List Step} {B : Option Strip} {d p' : List ℕ} {a r : Drawn} → Cuts m (length d) i → r ≡ behind i a → DrawsRest (m - i) path B (mid_of i (length d - i) d) p' a → DrawsRest m path B d (put_mid i (length d - i) d p') r
rest-lent {i} {m} {path} {B} {d} {p'} {a} c e x =
    subst (λ (z : Drawn). DrawsRest m path B d (put_mid i (length d - i) d p') z) (sym e)
    (record { puts = puts-lent {i = i} {m = m} (omega (arith, c.there)) (omega (arith, c.there)) c.small x.puts refl; high = x.high; many = x.many })
