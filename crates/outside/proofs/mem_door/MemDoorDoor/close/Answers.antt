use Rattle.std.proofs.Common.{◌≡◌, ◌<◌, ◌≤◌, [], ◌∷◌, ◌++◌, length, arith}
use Rattle.outside.specs.MemoryDoor.{connection_of, connections}
use Rattle.outside.proofs.Closing.{one_more, as_many, told_without_room, told_with_room, closes_behind}
use Rattle.outside.proofs.mem_door.MemDoorDoor.close.Goals as goal

pub returns-then-len-clause-told : goal.returns-then-len-clause-told
returns-then-len-clause-told c =
    let d = c.args.self.now in
    let full : length d.inputs.items ≤ length (connections d.sources.items d.outputs.items) = omega (arith, as_many d.sources.items d.outputs.items d.paired, c.if-len.true, c.len.ensures, c.len-2.ensures) in
    told_without_room d.overfull _ _ _ full

pub returns-else-len-clause-closed : goal.returns-else-len-clause-closed
returns-else-len-clause-closed c =
    let d = c.args.self.now in
    let is : connections c.push_reserved.new.self.items c.push_reserved-else-len.new.self.items ≡ connections d.sources.items d.outputs.items ++ connection_of c.args.ended.input c.args.ended.output ∷ [] = rw (c.push_reserved.ensures.items, c.push_reserved-else-len.ensures.items) (one_more d.sources.items d.outputs.items c.args.ended.input c.args.ended.output d.paired) in
    closes_behind d.overfull _ _ c.args.ended.input c.args.ended.output is

pub returns-else-len-clause-told : goal.returns-else-len-clause-told
returns-else-len-clause-told c =
    let d = c.args.self.now in
    let is : connections c.push_reserved.new.self.items c.push_reserved-else-len.new.self.items ≡ connections d.sources.items d.outputs.items ++ connection_of c.args.ended.input c.args.ended.output ∷ [] = rw (c.push_reserved.ensures.items, c.push_reserved-else-len.ensures.items) (one_more d.sources.items d.outputs.items c.args.ended.input c.args.ended.output d.paired) in
    let less : length (connections d.sources.items d.outputs.items) < length d.inputs.items = omega (arith, as_many d.sources.items d.outputs.items d.paired, d.most, c.if-len.false, c.len.ensures, c.len-2.ensures) in
    told_with_room d.overfull _ _ _ _ less is
