use Rattle.std.proofs.Common.{refl}
use Rattle.solo_index.specs.declared.tending.Put.{Put}
use Rattle.solo_index.proofs.Noting.{put_counted}
use Rattle.solo_index.proofs.solo.Solo.put_key.Goals as goal

pub returns-in-Err-clause-counted : goal.returns-in-Err-clause-counted
returns-in-Err-clause-counted c = rw (← c.self.view_is) (put_counted Put (record { table = c.self.inside.table; refusals = c.self.inside.refusals; last = c.self.inside.last }) (record { table = c.put_key-answer.new.table; refusals = c.self.inside.refusals; last = c.self.inside.last }) c.note.new.self c.args.key.now c.args.value.now c.in-Err.refusal c.in-Err.ensures.refused refl refl c.note.ensures)
