use Rattle.std.proofs.Common.{◌≡◌, List, Some, None, Bool, true, false, map}
use Rattle.std.specs.Prelude.{IfSome, if◌then◌else◌}
use Rattle.outside.specs.Connections.{Connection}
use Rattle.outside.specs.Memory.{written_of}
use Rattle.outside.specs.declared.memory.MemSink.{MemSink}
use Rattle.outside.proofs.Closing.{each_written}
use Rattle.outside.proofs.mem_door.MemDoor.outputs.Goals as goal

where_told : (overfull : Bool) (outputs : List MemSink) (closed : List Connection) → map written_of outputs ≡ map (λ (c : Connection). c.written) closed → IfSome (if overfull then None else Some closed) (λ told. map written_of outputs ≡ map (λ (c : Connection). c.written) told)
where_told true outputs closed is = tt
where_told false outputs closed is = is

pub returns : goal.returns
returns c =
    let d = c.args.self.now in
    rw c.deref.ensures.value (where_told d.overfull d.outputs.items _ (each_written d.sources.items d.outputs.items d.paired))
