use Rattle.std.proofs.Common.{◌≡◌, rules, subst}
use Rattle.worm_index.specs.declared.faults.PutFault.TheVariants.{Again, Full}
use Rattle.worm_index.specs.Puts.{IsSoleFault, IsNotFull}
use Rattle.index_lane.proofs.calls.put.Goals as goal

pub returns-in-Err-Again-clause-sole : goal.returns-in-Err-Again-clause-sole
returns-in-Err-Again-clause-sole g c sole =
    let is : c.in-Err-Again.field-0 ≡ Again c.in-Err-Again.again = search rules in
    subst IsSoleFault is (c.in-Err-Again.ensures.sole sole)

pub returns-in-Err-Full-clause-room : goal.returns-in-Err-Full-clause-room
returns-in-Err-Full-clause-room g c sole more fits =
    let is : c.in-Err-Full.field-0 ≡ Full c.in-Err-Full.full = search rules in
    subst IsNotFull is (c.in-Err-Full.ensures.room sole more fits)
