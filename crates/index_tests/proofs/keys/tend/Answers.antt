use Rattle.index_tests.proofs.keys.tend.Goals as goal

pub tend-requires-clause-idle : goal.tend-requires-clause-idle
tend-requires-clause-idle g c = let i = c.requires.idle in record { free = i.free; turn = i.turn; pin = i.pin }

pub returns-clause-idle : goal.returns-clause-idle
returns-clause-idle g c = let i = c.tend.ensures.idle in record { free = i.free; turn = i.turn; pin = i.pin }
