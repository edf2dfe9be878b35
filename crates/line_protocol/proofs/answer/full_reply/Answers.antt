use Rattle.line_protocol.proofs.answer.full_reply.Goals as goal

pub returns-in-Crowded : goal.returns-in-Crowded
returns-in-Crowded c = rw (c.in-Crowded.is, ← c.from.ensures, ← c.from-in-Crowded.ensures) c.append_numbers-in-Crowded.ensures
