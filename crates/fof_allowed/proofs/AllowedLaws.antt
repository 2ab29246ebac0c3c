-- Lines of the part are `fof` lines by TPTP's published grammar (document 02, request One): a text that is spelt in the part's tokens is never refusal 12.
-- The part is said in crate fof_part, production by production for what is read; the grammar in crate fof_productions, production by production as it was published. Nothing here reads a text.
use Prim.Native.Nat.{ℕ}
use mathlib.Core.Path.{◌≡◌, refl, sym, ap, ap₂, subst}
use mathlib.Core.Bool.{Bool, true, false}
use mathlib.Core.Logic.{inl, inr}
use mathlib.Core.List.{List, [], ◌∷◌, ◌++◌, map}
use Rattle.basics.specs.Choice.{choose}
use Rattle.basics.specs.Each.{Each}
use Rattle.basics.specs.Text.{octets}
use Rattle.harrop.specs.Bindings.{same_name}
use Rattle.harrop.proofs.SameLaws.{same-names-equal}
use Rattle.harrop.specs.Formula as plain
use Rattle.fof_tokens.specs.declared.Kind.{Kind}
use Rattle.fof_tokens.specs.declared.Kind.TheVariants as K
use Rattle.fof_tokens.specs.Token.{Token}
use Rattle.fof_tokens.specs.Cuts.{Cuts}
use Rattle.grammar.specs.Derives.{Symbol, the, any, Has, Derives, end, token, choice}
use Rattle.fof_productions.specs.Terminal as terminal
use Rattle.fof_productions.specs.Terminal.{Terminal}
use Rattle.fof_productions.specs.Name as name
use Rattle.fof_productions.specs.Name.{Name}
use Rattle.fof_productions.specs.Grammar.{productions}
use Rattle.fof_productions.specs.Sound.{terminal_of, Sound}
use Rattle.fof_truth.specs.Formula.{Term, Terms, Formula, Line}
use Rattle.fof_part.specs.Sign.{Sign, sign_of, signs}
use Rattle.fof_part.specs.Spelled as spelled
use Rattle.fof_part.specs.Spelled.{TermSpelt, TermsSpelt, NamesSpelt, UnitSpelt, LogicSpelt, ChainSpelt, role_word, LineSpelt, BookSpelt}

-- the grammar's token for a sign; any for those that are outside the part
abbrev sign_terminal : Sign → Terminal
sign_terminal (Sign.lower w) = terminal.terminal K.Lower w
sign_terminal (Sign.upper w) = terminal.upper-word
sign_terminal Sign.truth = terminal.other-dollar
sign_terminal Sign.opens = terminal.lparen
sign_terminal Sign.closes = terminal.rparen
sign_terminal Sign.lists = terminal.'['
sign_terminal Sign.ends = terminal.']'
sign_terminal Sign.comma = terminal.comma
sign_terminal Sign.colon = terminal.':'
sign_terminal Sign.dot = terminal.dot
sign_terminal Sign.every = terminal.'!'
sign_terminal Sign.exist = terminal.'?'
sign_terminal Sign.both = terminal.'&'
sign_terminal Sign.either = terminal.'|'
sign_terminal Sign.then = terminal.'=>'
sign_terminal Sign.other = terminal.'~'

-- in front of others
abbrev onto : List Sign → List Terminal → List Terminal
onto [] z = z
onto (s ∷ w) z = sign_terminal s ∷ onto w z

onto-both : (w v : List Sign) (z : List Terminal) → onto w (onto v z) ≡ onto (w ++ v) z
onto-both [] v z = refl
onto-both (s ∷ w) v z = ap (λ (x : List Terminal). sign_terminal s ∷ x) (onto-both w v z)

abbrev Yields : List (Symbol Terminal Name) → List Terminal → Type 0
Yields k z = Derives productions k z

-- these symbols derive these signs, whatever stands behind both
abbrev Allows : List (Symbol Terminal Name) → List Sign → Type 0
Allows a w = (k : List (Symbol Terminal Name)) (z : List Terminal) → Yields k z → Yields (a ++ k) (onto w z)

both-parts : {a : List (Symbol Terminal Name)} (w v : List Sign) (z : List Terminal) → Yields a (onto w (onto v z)) → Yields a (onto (w ++ v) z)
both-parts {a = a} w v z d = subst (Yields a) (onto-both w v z) d

a_word : (w : plain.Name) → Allows (any name.lower_word ∷ []) (Sign.lower w ∷ [])
a_word w k z d = go (terminal.same_octets w (octets "fof"))
  where
    go : (b : Bool) → Yields (any name.lower_word ∷ k) (choose b terminal.'fof' terminal.other_word ∷ z)
    go true = choice (the terminal.'fof' ∷ []) (inl refl) (token d)
    go false = choice (the terminal.other_word ∷ []) (inr (inl refl)) (token d)

abbrev TermAllowed : List Sign → Type 0
TermAllowed w = Allows (any name.term ∷ []) w

abbrev TermsAllowed : List Sign → Type 0
TermsAllowed w = Allows (any name.term ∷ any name.terms ∷ []) w

a-variable : (x : plain.Name) → TermAllowed (Sign.upper x ∷ [])
a-variable x k z d = choice (any name.variable ∷ []) (inl refl) (choice (the terminal.upper-word ∷ []) (inl refl) (token d))

-- a word with arguments or without
a-plain : (g : plain.Name) → Allows (any name.plain-term ∷ []) (Sign.lower g ∷ [])
a-plain g k z d = choice (any name.lower_word ∷ any name.arguments ∷ []) (inl refl) (a_word g (any name.arguments ∷ k) z (choice [] (inl refl) d))

applied_plain : (g : plain.Name) (w : List Sign) → TermsAllowed w → Allows (any name.plain-term ∷ []) (Sign.lower g ∷ Sign.opens ∷ (w ++ (Sign.closes ∷ [])))
applied_plain g w h k z d =
    choice (any name.lower_word ∷ any name.arguments ∷ []) (inl refl)
    (a_word g (any name.arguments ∷ k) (terminal.lparen ∷ onto (w ++ (Sign.closes ∷ [])) z)
    (choice (the terminal.lparen ∷ any name.term ∷ any name.terms ∷ the terminal.rparen ∷ []) (inr (inl refl))
    (token (both-parts w (Sign.closes ∷ []) z (h (the terminal.rparen ∷ k) (terminal.rparen ∷ z) (token d))))))

as-term : (w : List Sign) → Allows (any name.plain-term ∷ []) w → TermAllowed w
as-term w h k z d = choice (any name.plain-term ∷ []) (inr (inl refl)) (h k z d)

last-term : (w : List Sign) → TermAllowed w → TermsAllowed w
last-term w h k z d = h (any name.terms ∷ k) z (choice [] (inl refl) d)

further-terms : (w v : List Sign) → TermAllowed w → TermsAllowed v → TermsAllowed (w ++ (Sign.comma ∷ v))
further-terms w v h i k z d =
    both-parts w (Sign.comma ∷ v) z
    (h (any name.terms ∷ k) (terminal.comma ∷ onto v z) (choice (the terminal.comma ∷ any name.term ∷ any name.terms ∷ []) (inr (inl refl)) (token (i k z d))))

terms-allowed : {t : Term} {ts : Terms} {w : List Sign} → TermsSpelt t ts w → TermsAllowed w
terms-allowed s =
    elim s as (λ t w y. TermAllowed w) (λ t ts w y. TermsAllowed w) [
      | spelled.TermSpelt.variable {x = x} ↦ a-variable x
      | spelled.TermSpelt.constant {g = g} ↦ as-term (Sign.lower g ∷ []) (a-plain g)
      | spelled.TermSpelt.applied {g = g} {w = w} (u → h) ↦ as-term (Sign.lower g ∷ Sign.opens ∷ (w ++ (Sign.closes ∷ []))) (applied_plain g w h)
      | spelled.TermsSpelt.last {w = w} (u → h) ↦ last-term w h
      | spelled.TermsSpelt.further {w = w} {v = v} (u → h) (us → i) ↦ further-terms w v h i
    ]

-- a variable list
names-allowed : {x : plain.Name} {xs : List plain.Name} {w : List Sign} → NamesSpelt x xs w → Allows (any name.variable ∷ any name.variables ∷ []) w
names-allowed spelled.NamesSpelt.last k z d = choice (the terminal.upper-word ∷ []) (inl refl) (token (choice [] (inl refl) d))
names-allowed (spelled.NamesSpelt.further n) k z d =
    choice (the terminal.upper-word ∷ []) (inl refl)
    (token (choice (the terminal.comma ∷ any name.variable ∷ any name.variables ∷ []) (inr (inl refl)) (token (names-allowed n k z d))))

abbrev UnitAllowed : List Sign → Type 0
UnitAllowed w = Allows (any name.unit ∷ []) w

abbrev LogicAllowed : List Sign → Type 0
LogicAllowed w = Allows (any name.logic ∷ []) w

-- further members of a chain, where m is the grammar's name for those
abbrev ChainAllowed : Sign → List Sign → Type 0
ChainAllowed s w =
    (m : Name) → Has (productions m) [] → Has (productions m) (the (sign_terminal s) ∷ any name.unit ∷ any m ∷ []) → Allows (the (sign_terminal s) ∷ any name.unit ∷ any m ∷ []) w

a-truth : UnitAllowed (Sign.truth ∷ [])
a-truth k z d =
    choice (any name.defined-term ∷ []) (inr (inr (inr (inr (inr (inl refl))))))
    (choice (any name.dollar ∷ any name.arguments ∷ []) (inl refl) (choice (the terminal.other-dollar ∷ []) (inr (inr (inr (inl refl)))) (token (choice [] (inl refl) d))))

as-unit : (w : List Sign) → Allows (any name.plain-term ∷ []) w → UnitAllowed w
as-unit w h k z d = choice (any name.plain-term ∷ []) (inr (inr (inr (inr (inl refl))))) (h k z d)

-- a quantifier's sign is one
quantified-unit : (q : Sign) → Allows (any name.quantifier ∷ []) (q ∷ []) → {x : plain.Name} {xs : List plain.Name} (w v : List Sign) → NamesSpelt x xs w → UnitAllowed v → UnitAllowed (q ∷ Sign.lists ∷ (w ++ (Sign.ends ∷ Sign.colon ∷ v)))
quantified-unit q a w v n h k z d =
    choice (any name.quantifier ∷ the terminal.'[' ∷ any name.variable ∷ any name.variables ∷ the terminal.']' ∷ the terminal.':' ∷ any name.unit ∷ []) (inl refl)
    (a (the terminal.'[' ∷ any name.variable ∷ any name.variables ∷ the terminal.']' ∷ the terminal.':' ∷ any name.unit ∷ k) (terminal.'[' ∷ onto (w ++ (Sign.ends ∷ Sign.colon ∷ v)) z)
    (token (both-parts w (Sign.ends ∷ Sign.colon ∷ v) z
    (names-allowed n (the terminal.']' ∷ the terminal.':' ∷ any name.unit ∷ k) (terminal.']' ∷ terminal.':' ∷ onto v z) (token (token (h k z d)))))))

for-all : Allows (any name.quantifier ∷ []) (Sign.every ∷ [])
for-all k z d = choice (the terminal.'!' ∷ []) (inl refl) (token d)

there-is : Allows (any name.quantifier ∷ []) (Sign.exist ∷ [])
there-is k z d = choice (the terminal.'?' ∷ []) (inr (inl refl)) (token d)

in-parens : (w : List Sign) → LogicAllowed w → UnitAllowed (Sign.opens ∷ (w ++ (Sign.closes ∷ [])))
in-parens w h k z d =
    choice (the terminal.lparen ∷ any name.logic ∷ the terminal.rparen ∷ []) (inr (inr (inr (inr (inr (inr (inr (inl refl))))))))
    (token (both-parts w (Sign.closes ∷ []) z (h (the terminal.rparen ∷ k) (terminal.rparen ∷ z) (token d))))

alone : (w : List Sign) → UnitAllowed w → LogicAllowed w
alone w h k z d = choice (any name.unit ∷ []) (inl refl) (h k z d)

conjoined : (w v : List Sign) → UnitAllowed w → ChainAllowed Sign.both v → LogicAllowed (w ++ v)
conjoined w v h i k z d =
    choice (any name.unit ∷ the terminal.'&' ∷ any name.unit ∷ any name.and-more ∷ []) (inr (inr (inl refl)))
    (both-parts w v z (h (the terminal.'&' ∷ any name.unit ∷ any name.and-more ∷ k) (onto v z) (i name.and-more (inl refl) (inr (inl refl)) k z d)))

disjoined : (w v : List Sign) → UnitAllowed w → ChainAllowed Sign.either v → LogicAllowed (w ++ v)
disjoined w v h i k z d =
    choice (any name.unit ∷ the terminal.'|' ∷ any name.unit ∷ any name.or-more ∷ []) (inr (inr (inr (inl refl))))
    (both-parts w v z (h (the terminal.'|' ∷ any name.unit ∷ any name.or-more ∷ k) (onto v z) (i name.or-more (inl refl) (inr (inl refl)) k z d)))

implied : (w v : List Sign) → UnitAllowed w → UnitAllowed v → LogicAllowed (w ++ (Sign.then ∷ v))
implied w v h i k z d =
    choice (any name.unit ∷ any name.nonassoc ∷ any name.unit ∷ []) (inr (inl refl))
    (both-parts w (Sign.then ∷ v) z (h (any name.nonassoc ∷ any name.unit ∷ k) (terminal.'=>' ∷ onto v z) (choice (the terminal.'=>' ∷ []) (inr (inl refl)) (token (i k z d)))))

last-member : (s : Sign) (w : List Sign) → UnitAllowed w → ChainAllowed s (s ∷ w)
last-member s w h m n c k z d = token (h (any m ∷ k) z (choice [] n d))

further-members : (s : Sign) (w v : List Sign) → UnitAllowed w → ChainAllowed s v → ChainAllowed s (s ∷ (w ++ v))
further-members s w v h i m n c k z d =
    token (both-parts w v z (h (any m ∷ k) (onto v z) (choice (the (sign_terminal s) ∷ any name.unit ∷ any m ∷ []) c (i m n c k z d))))

logic-allowed : {F : Formula} {w : List Sign} → LogicSpelt F w → LogicAllowed w
logic-allowed s =
    elim s as (λ F w y. UnitAllowed w) (λ F w y. LogicAllowed w) (λ x G Gs w y. ChainAllowed x w) [
      | spelled.UnitSpelt.truth ↦ a-truth
      | spelled.UnitSpelt.plain {p = p} ↦ as-unit (Sign.lower p ∷ []) (a-plain p)
      | spelled.UnitSpelt.applied {p = p} {w = w} u ↦ as-unit (Sign.lower p ∷ Sign.opens ∷ (w ++ (Sign.closes ∷ []))) (applied_plain p w (terms-allowed u))
      | spelled.UnitSpelt.every {w = w} {v = v} n (u → h) ↦ quantified-unit Sign.every for-all w v n h
      | spelled.UnitSpelt.exist {w = w} {v = v} n (u → h) ↦ quantified-unit Sign.exist there-is w v n h
      | spelled.UnitSpelt.parens {w = w} (u → h) ↦ in-parens w h
      | spelled.LogicSpelt.alone {w = w} (u → h) ↦ alone w h
      | spelled.LogicSpelt.conjoined {w = w} {v = v} (u → h) (c → i) ↦ conjoined w v h i
      | spelled.LogicSpelt.disjoined {w = w} {v = v} (u → h) (c → i) ↦ disjoined w v h i
      | spelled.LogicSpelt.implied {w = w} {v = v} (u → h) (c → i) ↦ implied w v h i
      | spelled.ChainSpelt.last {s = x} {w = w} (u → h) ↦ last-member x w h
      | spelled.ChainSpelt.further {s = x} {w = w} {v = v} (u → h) (c → i) ↦ further-members x w v h i
    ]

line-allowed : {l : Line} {w : List Sign} → LineSpelt l w → Allows (any name.line ∷ []) w
line-allowed (spelled.LineSpelt.line {l = l} {r = r} {w = w} u) k z d =
    choice (the terminal.'fof' ∷ the terminal.lparen ∷ any name.name ∷ the terminal.comma ∷ any name.role ∷ the terminal.comma ∷ any name.formula ∷ any name.annotations ∷ the terminal.rparen ∷ the terminal.dot ∷ []) (inl refl)
    (token (token (choice (any name.lower_word ∷ []) (inl refl)
    (a_word l (the terminal.comma ∷ any name.role ∷ the terminal.comma ∷ any name.formula ∷ any name.annotations ∷ the terminal.rparen ∷ the terminal.dot ∷ k) _
    (token (choice (any name.lower_word ∷ []) (inl refl)
    (a_word (role_word r) (the terminal.comma ∷ any name.formula ∷ any name.annotations ∷ the terminal.rparen ∷ the terminal.dot ∷ k) _
    (token (choice (any name.logic ∷ []) (inl refl)
    (both-parts w (Sign.closes ∷ Sign.dot ∷ []) z
    (logic-allowed u (any name.annotations ∷ the terminal.rparen ∷ the terminal.dot ∷ k) (terminal.rparen ∷ terminal.dot ∷ z) (choice [] (inl refl) (token (token d))))))))))))))

book-derived : {ls : List Line} {w : List Sign} → BookSpelt ls w → Yields (any name.file ∷ []) (onto w [])
book-derived spelled.BookSpelt.none = choice [] (inl refl) end
book-derived (spelled.BookSpelt.further {w = w} {v = v} l b) =
    choice (any name.line ∷ any name.file ∷ []) (inr (inl refl)) (both-parts w v [] (line-allowed l (any name.file ∷ []) (onto v []) (book-derived b)))

-- what is spelt holds only signs of the part
abbrev Known : Sign → Type 0
Known (Sign.lower w) = Unit {0}
Known (Sign.upper w) = Unit {0}
Known Sign.truth = Unit {0}
Known Sign.opens = Unit {0}
Known Sign.closes = Unit {0}
Known Sign.lists = Unit {0}
Known Sign.ends = Unit {0}
Known Sign.comma = Unit {0}
Known Sign.colon = Unit {0}
Known Sign.dot = Unit {0}
Known Sign.every = Unit {0}
Known Sign.exist = Unit {0}
Known Sign.both = Unit {0}
Known Sign.either = Unit {0}
Known Sign.then = Unit {0}
Known Sign.other = ⊥

known_both : (w v : List Sign) → Each Known w → Each Known v → Each Known (w ++ v)
known_both [] v h i = i
known_both (s ∷ w) v (a, h) i = (a, known_both w v h i)

terms-known : {t : Term} {ts : Terms} {w : List Sign} → TermsSpelt t ts w → Each Known w
terms-known s =
    elim s as (λ t w y. Each Known w) (λ t ts w y. Each Known w) [
      | spelled.TermSpelt.variable ↦ (tt, tt)
      | spelled.TermSpelt.constant ↦ (tt, tt)
      | spelled.TermSpelt.applied {w = w} (u → h) ↦ (tt, (tt, known_both w (Sign.closes ∷ []) h (tt, tt)))
      | spelled.TermsSpelt.last (u → h) ↦ h
      | spelled.TermsSpelt.further {w = w} {v = v} (u → h) (us → i) ↦ known_both w (Sign.comma ∷ v) h (tt, i)
    ]

names-known : {x : plain.Name} {xs : List plain.Name} {w : List Sign} → NamesSpelt x xs w → Each Known w
names-known spelled.NamesSpelt.last = (tt, tt)
names-known (spelled.NamesSpelt.further n) = (tt, (tt, names-known n))

logic-known : {F : Formula} {w : List Sign} → LogicSpelt F w → Each Known w
logic-known s =
    elim s as (λ F w y. Each Known w) (λ F w y. Each Known w) (λ x G Gs w y. Known x → Each Known w) [
      | spelled.UnitSpelt.truth ↦ (tt, tt)
      | spelled.UnitSpelt.plain ↦ (tt, tt)
      | spelled.UnitSpelt.applied {w = w} u ↦ (tt, (tt, known_both w (Sign.closes ∷ []) (terms-known u) (tt, tt)))
      | spelled.UnitSpelt.every {w = w} {v = v} n (u → h) ↦ (tt, (tt, known_both w (Sign.ends ∷ Sign.colon ∷ v) (names-known n) (tt, (tt, h))))
      | spelled.UnitSpelt.exist {w = w} {v = v} n (u → h) ↦ (tt, (tt, known_both w (Sign.ends ∷ Sign.colon ∷ v) (names-known n) (tt, (tt, h))))
      | spelled.UnitSpelt.parens {w = w} (u → h) ↦ (tt, known_both w (Sign.closes ∷ []) h (tt, tt))
      | spelled.LogicSpelt.alone (u → h) ↦ h
      | spelled.LogicSpelt.conjoined {w = w} {v = v} (u → h) (c → i) ↦ known_both w v h (i tt)
      | spelled.LogicSpelt.disjoined {w = w} {v = v} (u → h) (c → i) ↦ known_both w v h (i tt)
      | spelled.LogicSpelt.implied {w = w} {v = v} (u → h) (c → i) ↦ known_both w (Sign.then ∷ v) h (tt, i)
      | spelled.ChainSpelt.last (u → h) ↦ λ a. (a, h)
      | spelled.ChainSpelt.further {w = w} {v = v} (u → h) (c → i) ↦ λ a. (a, known_both w v h (i a))
    ]

line_known : {l : Line} {w : List Sign} → LineSpelt l w → Each Known w
line_known (spelled.LineSpelt.line {w = w} u) = (tt, (tt, (tt, (tt, (tt, (tt, known_both w (Sign.closes ∷ Sign.dot ∷ []) (logic-known u) (tt, (tt, tt))))))))

book-known : {ls : List Line} {w : List Sign} → BookSpelt ls w → Each Known w
book-known spelled.BookSpelt.none = tt
book-known (spelled.BookSpelt.further {w = w} {v = v} l b) = known_both w v (line_known l) (book-known b)

-- and those have the grammar's token of theirs
same-terminal : (k : Kind) (w : List ℕ) → Known (sign_of k w) → sign_terminal (sign_of k w) ≡ terminal.terminal k w
same-terminal K.Lower w h = refl
same-terminal K.Upper w h = refl
same-terminal K.Dollar w h = go (same_name w (octets "$true")) refl h
  where
    go : (b : Bool) → same_name w (octets "$true") ≡ b → Known (choose b Sign.truth Sign.other) → sign_terminal (choose b Sign.truth Sign.other) ≡ terminal.terminal K.Dollar w
    go true e i = ap (terminal.terminal K.Dollar) (sym (same-names-equal w (octets "$true") e))
    go false e i = absurd i
same-terminal K.OpenParen w h = refl
same-terminal K.CloseParen w h = refl
same-terminal K.OpenBracket w h = refl
same-terminal K.CloseBracket w h = refl
same-terminal K.Comma w h = refl
same-terminal K.Colon w h = refl
same-terminal K.Dot w h = refl
same-terminal K.ForAll w h = refl
same-terminal K.Exists w h = refl
same-terminal K.And w h = refl
same-terminal K.Or w h = refl
same-terminal K.Implies w h = refl
same-terminal K.Quoted w h = absurd h
same-terminal K.Distinct w h = absurd h
same-terminal K.DoubleDollar w h = absurd h
same-terminal K.Integer w h = absurd h
same-terminal K.Rational w h = absurd h
same-terminal K.Real w h = absurd h
same-terminal K.OpenBrace w h = absurd h
same-terminal K.CloseBrace w h = absurd h
same-terminal K.Minus w h = absurd h
same-terminal K.Not w h = absurd h
same-terminal K.Equal w h = absurd h
same-terminal K.Unequal w h = absurd h
same-terminal K.ImpliedBy w h = absurd h
same-terminal K.Iff w h = absurd h
same-terminal K.Xor w h = absurd h
same-terminal K.Nor w h = absurd h
same-terminal K.Nand w h = absurd h
same-terminal K.Sequent w h = absurd h

same-terminals : (ts : List Token) → Each Known (signs ts) → onto (signs ts) [] ≡ map terminal_of ts
same-terminals [] h = refl
same-terminals (t ∷ ts) (a, h) = ap₂ ◌∷◌ (same-terminal t.kind t.bytes a) (same-terminals ts h)

-- the grammar derives the tokens of a book of the part
pub book-allowed : (ls : List Line) (ts : List Token) → BookSpelt ls (signs ts) → Derives productions (any name.file ∷ []) (map terminal_of ts)
book-allowed ls ts b = subst (Derives productions (any name.file ∷ [])) (same-terminals ts (book-known b)) (book-derived b)

-- so its text is sound
pub book-sound : (text : List ℕ) (ts : List Token) (ls : List Line) → Cuts text ts → BookSpelt ls (signs ts) → Sound text
book-sound text ts ls c b = record { cut = ts; cuts = c; derived = book-allowed ls ts b }
