-- What the search keeps in the room beside its stack stays right (document 02, Three): after a call that keeps it, after anything written below it, and under one supposed clause more or less.
use Prim.Native.Nat.{ℕ, ◌+◌, ◌≤◌, ◌<◌}
use native.Mathlib.Omega.{arith}
use mathlib.Core.Path.{◌≡◌, refl, ◌∙◌, sym, subst}
use mathlib.Core.List.{List, ◌++◌}
use lib.ListN.{length, get_or, set, length-set}
use lib.Seq.{get_or-set_other, length-sets}
use Rattle.harrop.specs.Formula.{Term, Clause}
use Rattle.harrop.specs.Place.{Hand, Plain}
use Rattle.harrop.proofs.ListLaws.{member_below}
use Rattle.room.specs.Layout.{levels, rules_at_most, candidates_at_most, supposed_word, supposed_at_most, stack}
use Rattle.room.specs.Spot.{spot_words, supposing}
use Rattle.room.specs.Where.{Live, Kept, Booked}
use Rattle.room.specs.Files.{Files}
use Rattle.room.specs.declared.Spot.{Spot}
use Rattle.room.proofs.FileLaws.{supposing-some}
use Rattle.room.proofs.WhereLaws.{kept_then, kept_less, push-keeps}
use Rattle.room.proofs.MoveLaws.{sets-after}
use Rattle.keys.specs.Chains.{chain_words}
use Rattle.keys.specs.Walk.{kept_word}
use Rattle.keys.specs.Keys.{key_word, keys_end, rule_chains, candidate_chains, KeysIn}
use Rattle.keys.proofs.ChainLaws.{chained-kept}
use Rattle.keys.proofs.FillLaws.{candidates-kept}
use Rattle.narrow.specs.Heads.{predicate_word, head_word, HeadsIn}
use Rattle.narrow.specs.Kept.{arguments_word, ArgumentsIn}
use Rattle.narrow.proofs.KeptLaws.{arguments-kept}
use Rattle.narrow.proofs.FillLaws.{heads-kept}
use Rattle.table.specs.Slots.{table_word}
use Rattle.table.specs.Recall.{TableOnly, Forgets}
use Rattle.table.proofs.GoodLaws.{good-kept, good-fewer, good-truth}
use Rattle.table.proofs.ForgetLaws.{forgets-good}
use Rattle.proving.specs.Stock.{Stock, Keeps}
use Rattle.proving.proofs.TruthLaws.{truth-before}
use Rattle.proving.proofs.ChoiceLaws.{choice-later, choice-sooner}

-- calls one after the other
module _ {right : List ℕ → Type 0} where
  pub keeps_same : {s t : ℕ} (a : List ℕ) → Keeps right s t a a
  keeps_same a = record { words = λ i l. refl; stock = λ x. x }

  pub keeps_then : {s s' t t' : ℕ} (a b c : List ℕ) → s ≤ s' → t ≤ t' → Keeps right s t a b → Keeps right s' t' b c → Keeps right s t a c
  keeps_then a b c p q x y = record { words = kept_then a b c p q x.words y.words; stock = λ g. y.stock (x.stock g) }

  pub keeps-less : {s s' t t' : ℕ} (a b : List ℕ) → s ≤ s' → t ≤ t' → Keeps right s' t' a b → Keeps right s t a b
  keeps-less a b p q x = record { words = kept_less a b p q x.words; stock = x.stock }

module _ {f : Files} {ds : List (Clause Plain)} {us : List Term} {m : ℕ} {c : Hand Plain} where
  -- it lies above the stack
  pub stock-low : {room after : List ℕ} → length after ≡ length room → ((i : ℕ) → key_word 0 ≤ i → get_or after i 0 ≡ get_or room i 0) → Stock f ds us m c room → Stock f ds us m c after
  stock-low {room} {after} e k s =
      record {
        keys =
            record {
              rules = λ j d q. k (key_word j) (omega arith) ∙ s.keys.rules j d q;
              candidates = candidates-kept (λ j l. k (kept_word j) (omega arith)) (λ j l. k (candidate_chains + j) (omega arith)) (λ b l. k (candidate_chains + 256 + b) (omega arith)) s.keys.candidates;
              chains = chained-kept (λ j l. k (key_word j) (omega arith)) (λ j l. k (rule_chains + j) (omega arith)) (λ b l. k (rule_chains + 256 + b) (omega arith)) s.keys.chains;
            };
        heads = heads-kept f.rules after room ds (λ j l. (k (predicate_word j) (omega arith), k (head_word j) (omega arith))) s.heads;
        arguments = arguments-kept after room ds us (λ j l. k (arguments_word j) (omega arith)) s.arguments;
        good = good-kept s.good e (λ i l. k i (omega arith));
      }

  pub stock-set : {room : List ℕ} (i v : ℕ) → i < key_word 0 → Stock f ds us m c room → Stock f ds us m c (set room i v)
  stock-set {room} i v l s = stock-low (length-set room i v) (λ j k. get_or-set_other room i j v 0 (λ e. omega arith)) s

  pub keeps-push : (room : List ℕ) (supposed top v : ℕ) → supposed ≤ 63 → stack ≤ top → top < key_word 0 → Keeps (Stock f ds us m c) supposed top room (set room top v)
  keeps-push room supposed top v l h b = record { words = push-keeps room supposed top v l h; stock = stock-set top v b }

-- below the table lie the words that a place relies on, the numbers, the heads, and the chains
pub kept-below : {supposed top : ℕ} {room after : List ℕ} → supposed ≤ levels → top ≤ table_word → TableOnly room after → Kept supposed top room after
kept-below l h t i (Live.low k) = t.below i (omega arith)
kept-below l h t i (Live.high k b) = t.below i (omega arith)

pub keys_kept : {ds : List (Clause Plain)} {us : List Term} {room after : List ℕ} → length ds ≤ rules_at_most → length us ≤ candidates_at_most → ((i : ℕ) → i < keys_end → get_or after i 0 ≡ get_or room i 0)
    → ((i : ℕ) → rule_chains ≤ i → i < rule_chains + chain_words → get_or after i 0 ≡ get_or room i 0) → ((i : ℕ) → candidate_chains ≤ i → i < candidate_chains + chain_words → get_or after i 0 ≡ get_or room i 0) → KeysIn room ds us → KeysIn after ds us
keys_kept {ds} {us} l l' e g h k =
    record {
      rules = λ j d q. e (key_word j) (omega (arith, member_below ds j d q)) ∙ k.rules j d q;
      candidates = candidates-kept (λ j m. e (kept_word j) (omega (arith, m, l'))) (λ j m. h (candidate_chains + j) (omega arith) (omega (arith, m, l'))) (λ b m. h (candidate_chains + 256 + b) (omega arith) (omega (arith, m))) k.candidates;
      chains = chained-kept (λ j m. e (key_word j) (omega (arith, m, l))) (λ j m. g (rule_chains + j) (omega arith) (omega (arith, m, l))) (λ b m. g (rule_chains + 256 + b) (omega arith) (omega (arith, m))) k.chains;
    }

pub keys_below : {ds : List (Clause Plain)} {us : List Term} {room after : List ℕ} → length ds ≤ rules_at_most → length us ≤ candidates_at_most → TableOnly room after → KeysIn room ds us → KeysIn after ds us
keys_below l l' t k = keys_kept l l' (λ i h. t.below i (omega arith)) (λ i h h'. t.below i (omega arith)) (λ i h h'. t.below i (omega arith)) k

pub heads-below : (rules : List ℕ) (ds : List (Clause Plain)) {room after : List ℕ} → length ds ≤ rules_at_most → TableOnly room after → HeadsIn room rules ds → HeadsIn after rules ds
heads-below rules ds {room} {after} l t h = heads-kept rules after room ds (λ j m. (t.below (predicate_word j) (omega arith), t.below (head_word j) (omega arith))) h

pub arguments-below : (ds : List (Clause Plain)) (us : List Term) {room after : List ℕ} → length ds ≤ rules_at_most → TableOnly room after → ArgumentsIn room ds us → ArgumentsIn after ds us
arguments-below ds us {room} {after} l t h = arguments-kept after room ds us (λ j m. t.below (arguments_word j) (omega arith)) h

module _ {f : Files} {ds : List (Clause Plain)} {us : List Term} {m : ℕ} {c : Hand Plain} where
  -- a clause that is supposed lies below the stack
  pub stock-supposing : {room : List ℕ} (x : Spot) → m < supposed_at_most → Stock f ds us m c room → Stock f ds us m c (supposing room m x)
  stock-supposing {room} x l s =
      let e = supposing-some room m x l in
      subst (Stock f ds us m c) (sym e)
      (stock-low (length-sets room (supposed_word m) (spot_words x)) (λ i k. sets-after (spot_words x) room (supposed_word m) i (omega arith)) s)

  -- under one clause more, once what was found under another in its place is forgotten
  pub stock-under : {room after : List ℕ} (k : ℕ) (x : Spot) (xs : Hand Plain) → k ≡ m + 1 → m < supposed_at_most → length c ≡ length ds + m → Booked f room ds us → TableOnly (supposing room m x) after → Forgets (supposing room m x) after k → Stock f ds us m c room → Stock f ds us k (c ++ xs) after
  stock-under {room} {after} k x xs e l n b t g s =
      let z = stock-supposing x l s in
      subst (λ (i : ℕ). Stock f ds us i (c ++ xs) after) (sym e)
      (record {
        keys = keys_below b.rules.few b.candidates.few t z.keys;
        heads = heads-below f.rules ds b.rules.few t z.heads;
        arguments = arguments-below ds us b.rules.few t z.arguments;
        good = forgets-good m g e (truth-before us (length ds) m c xs (omega arith)) (choice-later us (length ds) m c xs (omega arith)) z.good;
      })

  -- and back under fewer
  pub stock-back : {room : List ℕ} (k : ℕ) (xs : Hand Plain) → m ≤ k → length ds + m ≤ length c → Stock f ds us k (c ++ xs) room → Stock f ds us m c room
  stock-back k xs l n s =
      record {
        keys = s.keys;
        heads = s.heads;
        arguments = s.arguments;
        good = good-truth (λ i p h a q. sym (truth-before us (length ds) m c xs n i p h a q)) (choice-sooner us (length ds) m c xs n) (good-fewer l s.good);
      }
