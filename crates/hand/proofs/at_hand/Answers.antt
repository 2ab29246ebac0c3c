-- `at_hand` of src/lib.rt meets its contract. Assumes nothing.
use Rattle.hand.proofs.HandLaws.{rule-chosen, supposed-chosen, none-chosen}
use Rattle.hand.proofs.at_hand.Goals as goal

pub returns-then-k-rules : goal.returns-then-k-rules
returns-then-k-rules c = let x = c.args in
    rule-chosen x.room.now x.k x.supposes c.word-rules.result c.word-rules.ensures c.word.result c.if-k-rules.true c.word.ensures

pub returns-then-k-rules-2 : goal.returns-then-k-rules-2
returns-then-k-rules-2 c = let x = c.args in
    supposed-chosen x.room.now x.k x.supposes c.word-rules.result c.word-rules.ensures c.supposed.result c.if-k-rules.false c.if-k-rules-2.true c.supposed.ensures

pub returns : goal.returns
returns c = let x = c.args in
    none-chosen x.room.now x.k x.supposes c.word-rules.result c.word-rules.ensures c.if-k-rules.false c.if-k-rules-2.false
