use Rattle.index_server.proofs.server.serve_door.Given as goal

-- for how many connections the door is shared, and what it has counted
abbrev pub ghosts-serve_many-B-Begun : goal.ghosts-serve_many-B-Begun
ghosts-serve_many-B-Begun g a = record { sessions = a.sessions; opened = g.D.Door.opened a.door.now; closings = g.D.Door.closings a.door.now; faults = g.D.Door.faults a.door.now }

abbrev pub ghosts-serve_many-B-Ledger : goal.ghosts-serve_many-B-Ledger
ghosts-serve_many-B-Ledger g a = record { name = a.blank.name; parts = a.blank.parts }
