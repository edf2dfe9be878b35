use Rattle.std.proofs.Common.{arith}
use Rattle.twin_tables.proofs.Reading.{read-front}
use Rattle.twin_tables.specs.Lent.{spare_shape}
use Rattle.twin_tables.proofs.spare_rows.SpareRows.longest.Goals as goal

pub returns-clause-read : goal.returns-clause-read
returns-clause-read c =
    let none = read-front (spare_shape c.args.self.now) 0 (omega arith) in
    omega (arith, none, c.load.ensures.read)
