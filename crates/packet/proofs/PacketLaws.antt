-- What a packet comes to, exactly, over all bytes: `packet_of` and `books_of` say "sound" of what Sound says is sound, with the trees that the files spell, and refuse for the reason,
-- file and place that document 01's table gives, files in turn; and no other outcome is meant.
use Prim.Native.Nat.{ℕ, ◌≤◌}
use mathlib.Core.Path.{◌≡◌, refl, sym, ◌∙◌, ap, ap₂, subst}
use mathlib.Core.Bool.{Bool, true}
use mathlib.Core.List.{List, []}
use mathlib.Core.Logic.{◌↔◌}
use mathlib.Core.Option.{Option, none, some}
use Rattle.basics.specs.Each.{Each}
use Rattle.basics.specs.Choice.{maybe}
use Rattle.harrop.specs.Formula.{Term, Goal, Clause, Strip}
use Rattle.harrop.specs.Place.{Plain}
use Rattle.sexp.specs.Sexp.{Sexp, spell, nesting}
use Rattle.sexp.specs.Scan.{hints_read}
use Rattle.sexp.specs.Read.{read}
use Rattle.sexp.proofs.ReadLaws.{what-is-spelt-is-read}
use Rattle.packet.specs.declared.Kind.{Kind}
use Rattle.packet.specs.declared.Kind.TheVariants as K
use Rattle.packet.specs.declared.Reason.{Reason}
use Rattle.packet.specs.declared.File.{File}
use Rattle.packet.specs.declared.File.TheVariants as F
use Rattle.packet.specs.Written.{rules_sexp, goal_sexp, terms_sexp, strip_sexp}
use Rattle.packet.specs.Read.{goal_of, rules_of, candidates_of, strip_of}
use Rattle.packet.specs.Spells.{TermWords, GoalWords, ClauseWords, StripWords, Is, Spells}
use Rattle.packet.specs.File.{most_levels, refusal_of, Outcome, and_then, expression_of, file_of, Books, Packet, books_of, packet_of}
use Rattle.packet.specs.Refusal.{Few, Unbarred, Canonical, Refusal, sound}
use Rattle.packet.specs.Sound.{SoundFile, GoodRules, GoodGoal, GoodCandidates, GoodStrip, FileMeans, SoundBooks, RefusedBooks, by_rules, by_goal, by_terms, BooksMean, SoundPacket, RefusedPacket, by_books, by_strip, PacketMeans}
use Rattle.packet.proofs.BuiltLaws.{Built}
use Rattle.packet.proofs.ExactLaws.{spells-built}
use Rattle.packet.proofs.ReadLaws.{goal-read, rules-read, candidates-read, strip-read}
use Rattle.packet.proofs.FileLaws.{the-answer-is-the-table's, only-the-table's-is-the-answer}
use Rattle.packet.proofs.GoodLaws.{built-known, rules-good, goal-good, candidates-good, strip-good}

same : {A : Type 0} → A ↔ A
same = (λ x. x, λ x. x)

-- one file
module _ {A : Type 0} (k : Kind) (f : File) (written : A → Sexp) (Words Good : A → Type 0) (of : Sexp → A) (undo : (a : A) → of (written a) ≡ a) (spelt : (e : Sexp) → Spells k e ↔ Is written Words e) (good : (a : A) → (Few k (written a) × Unbarred k (written a)) ↔ Good a) where
  -- the tree that a file spells is the one that is read
  is_read : (s : List ℕ) (e : Sexp) → spell e ≡ s → expression_of s ≡ e
  unfolding expression_of
  is_read s e h = ap (λ (o : Option Sexp). maybe o (Sexp.str []) λ x. x) (ap read (sym h) ∙ what-is-spelt-is-read e)

  sound-file : (s : List ℕ) → Refusal k s none → SoundFile written Words s (of (expression_of s)) × Good (of (expression_of s))
  sound-file s (sound {e = e} c t few u) =
      let (a, p, w) = (spelt e).0 t in
      let q : of (expression_of s) ≡ a = ap of (is_read s e c.spelt ∙ p) ∙ undo a in
      subst (λ (x : A). SoundFile written Words s x × Good x) (sym q) (
        record {
          short = c.short;
          spelt = sym c.spelt ∙ ap spell p;
          flat = subst (λ (x : Sexp). nesting x ≤ most_levels) p c.flat;
          words = w;
        },
        (good a).0 (subst (Few k) p few, subst (Unbarred k) p u),
      )

  file-sound : (s : List ℕ) (a : A) → SoundFile written Words s a → Good a → Refusal k s none
  file-sound s a c g =
      let t : Spells k (written a) = (spelt (written a)).1 (a, refl, c.words) in
      let (few, u) = (good a).1 g in
      sound
      (record { short = c.short; known = built-known (written a) hints_read k 0 ((spells-built k (written a) t).clean 0); spelt = sym c.spelt; flat = c.flat })
      t few u

  pub file-told : (s : List ℕ) → FileMeans k f written Words Good s (file_of k f of s)
  unfolding file_of
  file-told s = go (refusal_of k s) (the-answer-is-the-table's k s)
    where
      go : (o : Option (Reason × ℕ)) → Refusal k s o → FileMeans k f written Words Good s (elim o as (λ y. Outcome A) [ none ↦ Outcome.sound (of (expression_of s)) | some r ↦ Outcome.refused r.0 f r.1 ])
      go none h = sound-file s h
      go (some r) h = (refl, h)

  answers : (s : List ℕ) (o : Option (Reason × ℕ)) → Refusal k s o → file_of k f of s ≡ elim o as (λ y. Outcome A) [ none ↦ Outcome.sound (of (expression_of s)) | some r ↦ Outcome.refused r.0 f r.1 ]
  unfolding file_of
  answers s o h =
      ap (λ (x : Option (Reason × ℕ)). elim x as (λ y. Outcome A) [ none ↦ Outcome.sound (of (expression_of s)) | some r ↦ Outcome.refused r.0 f r.1 ])
      (only-the-table's-is-the-answer k s o h)

  pub file-only : (s : List ℕ) (o : Outcome A) → FileMeans k f written Words Good s o → file_of k f of s ≡ o
  file-only s (Outcome.sound a) (c, g) =
      answers s none (file-sound s a c g) ∙ ap Outcome.sound (ap of (is_read s (written a) (sym c.spelt)) ∙ undo a)
  file-only s (Outcome.refused r x at) (e, h) = answers s (some (r, at)) h ∙ ap (λ (y : File). Outcome.refused r y at) (sym e)

-- the four files
abbrev RulesMean : List ℕ → Outcome (List (Clause Plain)) → Type 0
RulesMean = FileMeans K.Rules F.Rules rules_sexp (Each ClauseWords) GoodRules

abbrev GoalMeans : List ℕ → Outcome (Goal Plain) → Type 0
GoalMeans = FileMeans K.Goal F.Goal goal_sexp GoalWords GoodGoal

abbrev TermsMean : List ℕ → Outcome (List Term) → Type 0
TermsMean = FileMeans K.Terms F.Terms terms_sexp (Each TermWords) GoodCandidates

abbrev StripMeans : List ℕ → Outcome Strip → Type 0
StripMeans = FileMeans K.Strip F.Strip strip_sexp StripWords GoodStrip

pub rules-file : (s : List ℕ) → RulesMean s (file_of K.Rules F.Rules rules_of s)
rules-file = file-told K.Rules F.Rules rules_sexp (Each ClauseWords) GoodRules rules_of rules-read (λ e. same) rules-good

pub goal-file : (s : List ℕ) → GoalMeans s (file_of K.Goal F.Goal goal_of s)
goal-file = file-told K.Goal F.Goal goal_sexp GoalWords GoodGoal goal_of goal-read (λ e. same) goal-good

pub terms-file : (s : List ℕ) → TermsMean s (file_of K.Terms F.Terms candidates_of s)
terms-file = file-told K.Terms F.Terms terms_sexp (Each TermWords) GoodCandidates candidates_of candidates-read (λ e. same) candidates-good

pub strip-file : (s : List ℕ) → StripMeans s (file_of K.Strip F.Strip strip_of s)
strip-file = file-told K.Strip F.Strip strip_sexp StripWords GoodStrip strip_of strip-read (λ e. same) strip-good

pub rules-only : (s : List ℕ) (o : Outcome (List (Clause Plain))) → RulesMean s o → file_of K.Rules F.Rules rules_of s ≡ o
rules-only = file-only K.Rules F.Rules rules_sexp (Each ClauseWords) GoodRules rules_of rules-read (λ e. same) rules-good

pub goal-only : (s : List ℕ) (o : Outcome (Goal Plain)) → GoalMeans s o → file_of K.Goal F.Goal goal_of s ≡ o
goal-only = file-only K.Goal F.Goal goal_sexp GoalWords GoodGoal goal_of goal-read (λ e. same) goal-good

pub terms-only : (s : List ℕ) (o : Outcome (List Term)) → TermsMean s o → file_of K.Terms F.Terms candidates_of s ≡ o
terms-only = file-only K.Terms F.Terms terms_sexp (Each TermWords) GoodCandidates candidates_of candidates-read (λ e. same) candidates-good

pub strip-only : (s : List ℕ) (o : Outcome Strip) → StripMeans s o → file_of K.Strip F.Strip strip_of s ≡ o
strip-only = file-only K.Strip F.Strip strip_sexp StripWords GoodStrip strip_of strip-read (λ e. same) strip-good

-- the four, each sound
rules-none : (s : List ℕ) (ds : List (Clause Plain)) → SoundFile rules_sexp (Each ClauseWords) s ds → GoodRules ds → Refusal K.Rules s none
rules-none = file-sound K.Rules F.Rules rules_sexp (Each ClauseWords) GoodRules rules_of rules-read (λ e. same) rules-good

goal-none : (s : List ℕ) (g : Goal Plain) → SoundFile goal_sexp GoalWords s g → GoodGoal g → Refusal K.Goal s none
goal-none = file-sound K.Goal F.Goal goal_sexp GoalWords GoodGoal goal_of goal-read (λ e. same) goal-good

terms-none : (s : List ℕ) (ts : List Term) → SoundFile terms_sexp (Each TermWords) s ts → GoodCandidates ts → Refusal K.Terms s none
terms-none = file-sound K.Terms F.Terms terms_sexp (Each TermWords) GoodCandidates candidates_of candidates-read (λ e. same) candidates-good

rules-reads : (s : List ℕ) → Refusal K.Rules s none → file_of K.Rules F.Rules rules_of s ≡ Outcome.sound (rules_of (expression_of s))
rules-reads s = answers K.Rules F.Rules rules_sexp (Each ClauseWords) GoodRules rules_of rules-read (λ e. same) rules-good s none

goal-reads : (s : List ℕ) → Refusal K.Goal s none → file_of K.Goal F.Goal goal_of s ≡ Outcome.sound (goal_of (expression_of s))
goal-reads s = answers K.Goal F.Goal goal_sexp GoalWords GoodGoal goal_of goal-read (λ e. same) goal-good s none

terms-reads : (s : List ℕ) → Refusal K.Terms s none → file_of K.Terms F.Terms candidates_of s ≡ Outcome.sound (candidates_of (expression_of s))
terms-reads s = answers K.Terms F.Terms terms_sexp (Each TermWords) GoodCandidates candidates_of candidates-read (λ e. same) candidates-good s none

-- one after the other
module _ {A B : Type 0} (f : A → Outcome B) (x : Outcome A) where
  then-sound : (a : A) → x ≡ Outcome.sound a → and_then x f ≡ f a
  then-sound a h = ap (λ (y : Outcome A). and_then y f) h

  then-refused : (r : Reason) (g : File) (at : ℕ) → x ≡ Outcome.refused r g at → and_then x f ≡ Outcome.refused r g at
  then-refused r g at h = ap (λ (y : Outcome A). and_then y f) h

module _ (rs gs ts : List ℕ) where
  abbrev on_terms : List (Clause Plain) → Goal Plain → List Term → Outcome Books
  on_terms ds g us = Outcome.sound (record { rules = ds; goal = g; candidates = us })

  abbrev on_goal : List (Clause Plain) → Goal Plain → Outcome Books
  on_goal ds g = and_then (file_of K.Terms F.Terms candidates_of ts) (on_terms ds g)

  abbrev on_rules : List (Clause Plain) → Outcome Books
  on_rules ds = and_then (file_of K.Goal F.Goal goal_of gs) (on_goal ds)

  -- what the three files come to is what it means
  pub books-told : BooksMean rs gs ts (books_of rs gs ts)
  unfolding books_of
  books-told = go (file_of K.Rules F.Rules rules_of rs) (rules-file rs)
    where
      on-terms : (ds : List (Clause Plain)) → SoundFile rules_sexp (Each ClauseWords) rs ds → GoodRules ds → (g : Goal Plain) → SoundFile goal_sexp GoalWords gs g → GoodGoal g → (o : Outcome (List Term)) → TermsMean ts o → BooksMean rs gs ts (and_then o (on_terms ds g))
      on-terms ds c a g d b (Outcome.sound us) (u, v) = record { rules = c; goal = d; terms = u; good_rules = a; good_goal = b; good_candidates = v }
      on-terms ds c a g d b (Outcome.refused r x at) (e, h) =
          subst (λ (y : File). RefusedBooks rs gs ts r y at) (sym e) (by_terms (rules-none rs ds c a) (goal-none gs g d b) h)

      on-goal : (ds : List (Clause Plain)) → SoundFile rules_sexp (Each ClauseWords) rs ds → GoodRules ds → (o : Outcome (Goal Plain)) → GoalMeans gs o → BooksMean rs gs ts (and_then o (on_goal ds))
      on-goal ds c a (Outcome.sound g) (u, v) = on-terms ds c a g u v (file_of K.Terms F.Terms candidates_of ts) (terms-file ts)
      on-goal ds c a (Outcome.refused r x at) (e, h) =
          subst (λ (y : File). RefusedBooks rs gs ts r y at) (sym e) (by_goal (rules-none rs ds c a) h)

      go : (o : Outcome (List (Clause Plain))) → RulesMean rs o → BooksMean rs gs ts (and_then o on_rules)
      go (Outcome.sound ds) (u, v) = on-goal ds u v (file_of K.Goal F.Goal goal_of gs) (goal-file gs)
      go (Outcome.refused r x at) (e, h) = subst (λ (y : File). RefusedBooks rs gs ts r y at) (sym e) (by_rules h)

  after-rules : (ds : List (Clause Plain)) → file_of K.Rules F.Rules rules_of rs ≡ Outcome.sound ds → books_of rs gs ts ≡ on_rules ds
  unfolding books_of
  after-rules ds = then-sound on_rules (file_of K.Rules F.Rules rules_of rs) ds

  after-goal : (ds : List (Clause Plain)) (g : Goal Plain) → file_of K.Goal F.Goal goal_of gs ≡ Outcome.sound g → on_rules ds ≡ on_goal ds g
  after-goal ds g = then-sound (on_goal ds) (file_of K.Goal F.Goal goal_of gs) g

  -- and nothing else is meant
  pub books-only : (o : Outcome Books) → BooksMean rs gs ts o → books_of rs gs ts ≡ o
  unfolding books_of
  books-only (Outcome.sound b) h =
      after-rules b.rules (rules-only rs (Outcome.sound b.rules) (h.rules, h.good_rules))
      ∙ after-goal b.rules b.goal (goal-only gs (Outcome.sound b.goal) (h.goal, h.good_goal))
      ∙ then-sound (on_terms b.rules b.goal) (file_of K.Terms F.Terms candidates_of ts) b.candidates
      (terms-only ts (Outcome.sound b.candidates) (h.terms, h.good_candidates))
  books-only (Outcome.refused r x at) h = refused-only r x at h
    where
      refused-only : (r : Reason) (x : File) (at : ℕ) → RefusedBooks rs gs ts r x at → books_of rs gs ts ≡ Outcome.refused r x at
      refused-only r x at (by_rules u) =
          then-refused on_rules (file_of K.Rules F.Rules rules_of rs) r F.Rules at (rules-only rs (Outcome.refused r F.Rules at) (refl, u))
      refused-only r x at (by_goal a u) =
          let ds = rules_of (expression_of rs) in
          after-rules ds (rules-reads rs a)
          ∙ then-refused (on_goal ds) (file_of K.Goal F.Goal goal_of gs) r F.Goal at (goal-only gs (Outcome.refused r F.Goal at) (refl, u))
      refused-only r x at (by_terms a b u) =
          let ds = rules_of (expression_of rs) in
          let g = goal_of (expression_of gs) in
          after-rules ds (rules-reads rs a)
          ∙ after-goal ds g (goal-reads gs b)
          ∙ then-refused (on_terms ds g) (file_of K.Terms F.Terms candidates_of ts) r F.Terms at (terms-only ts (Outcome.refused r F.Terms at) (refl, u))

  pub books-exactly : (o : Outcome Books) → books_of rs gs ts ≡ o ↔ BooksMean rs gs ts o
  books-exactly o = (λ e. subst (BooksMean rs gs ts) e books-told, books-only o)

module _ (rs gs ts ss : List ℕ) where
  abbrev on_strip : Books → Strip → Outcome Packet
  on_strip b P = Outcome.sound (record { books = b; strip = P })

  abbrev on_books : Books → Outcome Packet
  on_books b = and_then (file_of K.Strip F.Strip strip_of ss) (on_strip b)

  -- what the four files come to is what it means
  pub packet-told : PacketMeans rs gs ts ss (packet_of rs gs ts ss)
  unfolding packet_of
  packet-told = go (books_of rs gs ts) (books-told rs gs ts)
    where
      on-strip : (b : Books) → SoundBooks rs gs ts b → (o : Outcome Strip) → StripMeans ss o → PacketMeans rs gs ts ss (and_then o (on_strip b))
      on-strip b h (Outcome.sound P) (u, v) = record { books = h; strip = u }
      on-strip b h (Outcome.refused r x at) (e, u) =
          subst (λ (y : File). RefusedPacket rs gs ts ss r y at) (sym e)
          (by_strip (rules-none rs b.rules h.rules h.good_rules) (goal-none gs b.goal h.goal h.good_goal) (terms-none ts b.candidates h.terms h.good_candidates) u)

      go : (o : Outcome Books) → BooksMean rs gs ts o → PacketMeans rs gs ts ss (and_then o on_books)
      go (Outcome.sound b) h = on-strip b h (file_of K.Strip F.Strip strip_of ss) (strip-file ss)
      go (Outcome.refused r x at) h = by_books h

  -- sound books, where no file of theirs is refused
  books-none : Refusal K.Rules rs none → Refusal K.Goal gs none → Refusal K.Terms ts none → (b : Books) × (books_of rs gs ts ≡ Outcome.sound b)
  books-none u v w =
      let ds = rules_of (expression_of rs) in
      let g = goal_of (expression_of gs) in
      let us = candidates_of (expression_of ts) in (
        record { rules = ds; goal = g; candidates = us },
        after-rules rs gs ts ds (rules-reads rs u)
            ∙ after-goal rs gs ts ds g (goal-reads gs v)
            ∙ then-sound (on_terms rs gs ts ds g) (file_of K.Terms F.Terms candidates_of ts) us (terms-reads ts w),
      )

  -- and nothing else is meant
  pub packet-only : (o : Outcome Packet) → PacketMeans rs gs ts ss o → packet_of rs gs ts ss ≡ o
  unfolding packet_of
  packet-only (Outcome.sound p) h =
      then-sound on_books (books_of rs gs ts) p.books (books-only rs gs ts (Outcome.sound p.books) h.books)
      ∙ then-sound (on_strip p.books) (file_of K.Strip F.Strip strip_of ss) p.strip (strip-only ss (Outcome.sound p.strip) (h.strip, tt))
  packet-only (Outcome.refused r x at) h = refused-only r x at h
    where
      refused-only : (r : Reason) (x : File) (at : ℕ) → RefusedPacket rs gs ts ss r x at → packet_of rs gs ts ss ≡ Outcome.refused r x at
      refused-only r x at (by_books u) = then-refused on_books (books_of rs gs ts) r x at (books-only rs gs ts (Outcome.refused r x at) u)
      refused-only r x at (by_strip a b c u) =
          let (k, e) = books-none a b c in
          then-sound on_books (books_of rs gs ts) k e
          ∙ then-refused (on_strip k) (file_of K.Strip F.Strip strip_of ss) r F.Strip at (strip-only ss (Outcome.refused r F.Strip at) (refl, u))

  -- a packet is sound, or refused, exactly when document 01 says so
  pub packet-exactly : (o : Outcome Packet) → packet_of rs gs ts ss ≡ o ↔ PacketMeans rs gs ts ss o
  packet-exactly o = (λ e. subst (PacketMeans rs gs ts ss) e packet-told, packet-only o)
