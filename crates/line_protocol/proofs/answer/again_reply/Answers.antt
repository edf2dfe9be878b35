use Rattle.line_protocol.proofs.answer.again_reply.Goals as goal

pub returns-in-Locked : goal.returns-in-Locked
returns-in-Locked c = rw (c.in-Locked.is, ← c.from.ensures, ← c.from-in-Locked.ensures) c.append_numbers.ensures

pub returns-in-Filled : goal.returns-in-Filled
returns-in-Filled c =
    rw (c.in-Filled.is, ← c.from-in-Filled.ensures, ← c.from-in-Filled-2.ensures, ← c.from-in-Filled-3.ensures) c.append_numbers-in-Filled.ensures
