use Rattle.index_server.proofs.connection.serve_connection.Goals as goal

pub returns-clause-session : goal.returns-clause-session
returns-clause-session g c = (c.serve.result, c.serve.ensures.session)
