-- `begin` of src/equal.rt meets its contract. Assumes nothing.
use Rattle.equal.proofs.RestLaws.{begin-parameters, begin-left, begin-right, begin-written}
use Rattle.equal.proofs.equal.begin.Goals as goal

pub returns-in-Parameter-Parameter : goal.returns-in-Parameter-Parameter
returns-in-Parameter-Parameter c = let x = c.args in
    let i = c.in-Parameter-Parameter in
    begin-parameters x.files.now x.room.now x.x x.y c.see.ensures c.see-2.ensures _ _ i.is-0 i.is-1 c.told.result c.told.ensures

pub returns-in-Written-Parameter : goal.returns-in-Written-Parameter
returns-in-Written-Parameter c = let x = c.args in
    let i = c.in-Written-Parameter in
    let p = c.is_parameter-in-Written-Parameter in
    let t = c.told-in-Written-Parameter in
    begin-right x.files.now x.room.now x.x x.y c.see.ensures c.see-2.ensures _ _ p.result i.is-0 i.is-1 p.ensures t.result t.ensures

pub returns-in-Parameter-Written : goal.returns-in-Parameter-Written
returns-in-Parameter-Written c = let x = c.args in
    let i = c.in-Parameter-Written in
    let p = c.is_parameter in
    let t = c.told-in-Parameter-Written in
    begin-left x.files.now x.room.now x.x x.y c.see.ensures c.see-2.ensures _ _ p.result i.is-0 i.is-1 p.ensures t.result t.ensures

pub returns-in-Written-Written : goal.returns-in-Written-Written
returns-in-Written-Written c = let x = c.args in
    let i = c.in-Written-Written in
    begin-written x.files.now x.room.now x.x x.y c.see.ensures c.see-2.ensures _ _ i.is-0 i.is-1 c.heads.result c.heads.ensures
