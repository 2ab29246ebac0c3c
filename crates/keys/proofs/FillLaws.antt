-- The tables of numbers in the room, word by word: nothing else of the room is written, and the numbers are those of the candidates and the rules.
use Prim.Native.Nat.{ℕ, ◌+◌, ◌≤◌, ◌<◌, min}
use mathlib.Core.Path.{◌≡◌, refl, sym, ◌∙◌, ap, subst}
use mathlib.Core.Bool.{Bool, true, false}
use mathlib.Core.List.{List, []}
use mathlib.Core.Option.{some}
use native.Mathlib.Omega.{arith}
use lib.Dec.{ltb}
use lib.ListN.{length, get_or, set, get_elem?}
use lib.Seq.{get_or-set_same, get_or-set_other}
use borrow.Author.Tests.{ltb-true, ltb-false}
use Rattle.harrop.specs.Formula.{Term, Clause}
use Rattle.harrop.specs.Place.{Plain}
use Rattle.harrop.proofs.ListLaws.{member_below}
use Rattle.packet.specs.Written.{term_sexp, clause_sexp}
use Rattle.packet.specs.Barred.{term_ok, clause_ok}
use Rattle.sexp.specs.Sexp.{Stands, nesting}
use Rattle.room.specs.Layout.{words, levels, rules_word, rule_word, candidates_word, candidate_word}
use Rattle.room.specs.Spot.{bindings_at, nowhere}
use Rattle.room.specs.Where.{Booked}
use Rattle.room.specs.Files.{files_of}
use Rattle.room.specs.declared.Spot.{Spot}
use Rattle.equal.proofs.TermLaws.{closed-stays}
use Rattle.keys.specs.Key.{term_key, clause_key}
use Rattle.keys.specs.Walk.{kept_word, TermAtKey, ClauseAt}
use Rattle.keys.specs.Chains.{link_at, first_at, Chained, ChainsFilled}
use Rattle.keys.specs.Keys.{key_word, keys_end, rule_chains, candidate_chains, CandidateKeys, CandidatesDone, RulesDone, CandidatesKept, RulesKept, KeysFilled}
use Rattle.keys.proofs.WalkLaws.{keyed-none}
use Rattle.keys.proofs.ChainLaws.{within_none, within_more, chained-kept}

-- the numbers of candidates
pub candidates-none : (before terms : List ℕ) → CandidatesDone before before terms 0
candidates-none before terms = record { within = within_none before (kept_word 0) keys_end; right = λ r i l t g o d. absurd (omega arith) }

pub candidates-more : (before terms : List ℕ) {now after : List ℕ} {i : ℕ} {x : Spot} (a k : ℕ) → CandidatesDone before now terms i → i < 256 → a ≡ get_or now (258 + i) 0 → x ≡ nowhere → TermAtKey terms a now x 64 k
    → after ≡ set now (3456 + i) k → CandidatesDone before after terms (i + 1)
candidates-more before terms {now} {after} {i} {x} a k H l e y G f = subst (λ (r : List ℕ). CandidatesDone before r terms (i + 1)) (sym f) (record {
  within = within_more before now (kept_word 0) keys_end (3456 + i) k H.within (omega arith) (omega (arith, l));
  right = right;
})
  where
    right : keys_end ≤ length before → (j : ℕ) → j < i + 1 → (t : Term) → Stands terms (get_or before (candidate_word j) 0) (term_sexp t) → term_ok true 0 t ≡ true → nesting (term_sexp t) ≤ levels
        → get_or (set now (3456 + i) k) (kept_word j) 0 ≡ term_key t
    right r j m t g o d = by (ltb j i) refl
      where
        by : (b : Bool) → ltb j i ≡ b → get_or (set now (3456 + i) k) (kept_word j) 0 ≡ term_key t
        by true b = let v = ltb-true j i b in get_or-set_other now (3456 + i) (3456 + j) k 0 (omega arith) ∙ H.right r j v t g o d
        by false b =
            let v = ltb-false j i b in
            let ji : j ≡ i = omega arith in
            let at : a ≡ get_or before (258 + j) 0 = e ∙ H.within.below (258 + i) (omega (arith, l)) ∙ ap (λ (z : ℕ). get_or before (258 + z) 0) (sym ji) in
            let made = subst (λ (z : Spot). TermAtKey terms a now z 64 k) y G [] true t (keyed-none now []) (subst (λ (z : ℕ). Stands terms z (term_sexp t)) (sym at) g) o d d in
            ap (λ (z : ℕ). get_or (set now (3456 + i) k) (3456 + z) 0) ji ∙ get_or-set_same now (3456 + i) k 0 (omega (arith, H.within.long, l, r)) ∙ made ∙ ap term_key (closed-stays [] (bindings_at now nowhere) true t o)

-- the numbers of rules
pub rules-none : (before rules : List ℕ) → RulesDone before before rules 0
rules-none before rules = record { within = within_none before (key_word 0) (kept_word 0); right = λ r i l t g o d. absurd (omega arith) }

pub rules-more : (before rules : List ℕ) {now after : List ℕ} {i : ℕ} (a k : ℕ) → RulesDone before now rules i → i < 256 → a ≡ get_or now (1 + i) 0 → ClauseAt rules a 64 k
    → after ≡ set now (3200 + i) k → RulesDone before after rules (i + 1)
rules-more before rules {now} {after} {i} a k H l e G f = subst (λ (r : List ℕ). RulesDone before r rules (i + 1)) (sym f) (record {
  within = within_more before now (key_word 0) (kept_word 0) (3200 + i) k H.within (omega arith) (omega (arith, l));
  right = right;
})
  where
    right : keys_end ≤ length before → (j : ℕ) → j < i + 1 → (d : Clause Plain) → Stands rules (get_or before (rule_word j) 0) (clause_sexp d) → clause_ok 0 d ≡ true → nesting (clause_sexp d) ≤ levels
        → get_or (set now (3200 + i) k) (key_word j) 0 ≡ clause_key d
    right r j m d g o n = by (ltb j i) refl
      where
        by : (b : Bool) → ltb j i ≡ b → get_or (set now (3200 + i) k) (key_word j) 0 ≡ clause_key d
        by true b = let v = ltb-true j i b in get_or-set_other now (3200 + i) (3200 + j) k 0 (omega arith) ∙ H.right r j v d g o n
        by false b =
            let v = ltb-false j i b in
            let ji : j ≡ i = omega arith in
            let at : a ≡ get_or before (1 + j) 0 = e ∙ H.within.below (1 + i) (omega (arith, l)) ∙ ap (λ (z : ℕ). get_or before (1 + z) 0) (sym ji) in
            let made = G d 0 (subst (λ (z : ℕ). Stands rules z (clause_sexp d)) (sym at) g) n n o in
            ap (λ (z : ℕ). get_or (set now (3200 + i) k) (3200 + z) 0) ji ∙ get_or-set_same now (3200 + i) k 0 (omega (arith, H.within.long, l, r)) ∙ made

-- both tables, and the chains
pub keys_filled : {n m : ℕ} (before mid kept rows after rules terms : List ℕ) → CandidatesKept before mid terms → RulesKept mid kept rules → n ≡ get_or kept rules_word 0 → ChainsFilled (key_word 0) rule_chains n kept rows
    → m ≡ get_or rows candidates_word 0 → ChainsFilled (kept_word 0) candidate_chains m rows after → KeysFilled before after rules terms
keys_filled {n} {m} before mid kept rows after rules terms C D e F e' G = record {
  within = record {
    long = G.within.long ∙ F.within.long ∙ D.within.long ∙ C.within.long;
    below = λ j l. later j (omega (arith, l)) ∙ D.within.below j l ∙ C.within.below j (omega (arith, l));
    above = λ j l. G.within.above j l ∙ F.within.above j (omega (arith, l)) ∙ D.within.above j (omega (arith, l)) ∙ C.within.above j (omega (arith, l));
  };
  right = λ l goal ds cs B. record { rules = rule l goal ds cs B; candidates = record { numbers = candidate l goal ds cs B; chains = candidate-chains l goal ds cs B }; chains = rule-chains l goal ds cs B };
}
  where
    later : (j : ℕ) → j < rule_chains → get_or after j 0 ≡ get_or kept j 0
    later j l = G.within.below j (omega (arith, l)) ∙ F.within.below j l

    rule : words ≤ length before → (goal : List ℕ) (ds : List (Clause Plain)) (cs : List Term) → Booked (files_of rules goal terms) before ds cs → (k : ℕ) (d : Clause Plain) → get_elem? ds k ≡ some d → get_or after (key_word k) 0 ≡ clause_key d
    rule l goal ds cs B k d e =
        let m = member_below ds k d e in
        later (3200 + k) (omega (arith, m, B.rules.few))
        ∙ D.right (omega (arith, C.within.long, l)) k (omega (arith, m, B.rules.few, B.rules.counted, C.within.below 0 (omega arith))) d
        (subst (λ (z : ℕ). Stands rules z (clause_sexp d)) (sym (C.within.below (1 + k) (omega (arith, m, B.rules.few)))) (B.rules.starts k d e))
        (B.scoped k d e) (B.shallow k d e)

    candidate : words ≤ length before → (goal : List ℕ) (ds : List (Clause Plain)) (cs : List Term) → Booked (files_of rules goal terms) before ds cs → (i : ℕ) (t : Term) → get_elem? cs i ≡ some t → get_or after (kept_word i) 0 ≡ term_key t
    candidate l goal ds cs B i t e =
        let m = member_below cs i t e in
        later (3456 + i) (omega (arith, m, B.candidates.few))
        ∙ D.within.above (3456 + i) (omega arith)
        ∙ C.right (omega (arith, l)) i (omega (arith, m, B.candidates.few, B.candidates.counted)) t (B.candidates.starts i t e) (B.candidates.closed i t e) (B.candidates.shallow i t e)

    -- the chains of rules are filled first, and stay
    rule-chains : words ≤ length before → (goal : List ℕ) (ds : List (Clause Plain)) (cs : List Term) → Booked (files_of rules goal terms) before ds cs → Chained (key_word 0) rule_chains after 0 (length ds)
    rule-chains l goal ds cs B =
        let z = D.within.below 0 (omega arith) ∙ C.within.below 0 (omega arith) in
        chained-kept (λ i h. G.within.below (3200 + i) (omega (arith, h, B.rules.few))) (λ i h. G.within.below (4224 + i) (omega (arith, h, B.rules.few))) (λ b h. G.within.below (4480 + b) (omega (arith, h)))
        (subst (Chained (key_word 0) rule_chains rows 0) {x = min n 256} {y = length ds} (omega (arith, z, e, B.rules.few, B.rules.counted)) (F.right (omega arith) (omega (arith, D.within.long, C.within.long, l))))

    candidate-chains : words ≤ length before → (goal : List ℕ) (ds : List (Clause Plain)) (cs : List Term) → Booked (files_of rules goal terms) before ds cs → Chained (kept_word 0) candidate_chains after 0 (length cs)
    candidate-chains l goal ds cs B =
        let z = F.within.below 257 (omega arith) ∙ D.within.below 257 (omega arith) ∙ C.within.below 257 (omega arith) in
        subst (Chained (kept_word 0) candidate_chains after 0) {x = min m 256} {y = length cs} (omega (arith, z, e', B.candidates.few, B.candidates.counted)) (G.right (omega arith) (omega (arith, F.within.long, D.within.long, C.within.long, l)))

-- the numbers of candidates and their chains are right while their words stay
pub candidates-kept : {room after : List ℕ} {cs : List Term} → ((i : ℕ) → i < length cs → get_or after (kept_word i) 0 ≡ get_or room (kept_word i) 0) → ((i : ℕ) → i < length cs → link_at candidate_chains after i ≡ link_at candidate_chains room i)
    → ((b : ℕ) → b < 128 → first_at candidate_chains after b ≡ first_at candidate_chains room b) → CandidateKeys room cs → CandidateKeys after cs
candidates-kept {cs = cs} numbers links firsts K = record { numbers = λ i t e. numbers i (member_below cs i t e) ∙ K.numbers i t e; chains = chained-kept numbers links firsts K.chains }
