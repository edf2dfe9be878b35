use Rattle.std.proofs.Common.{◌≡◌, ◌+◌, ℕ, List, sym, subst}
use Rattle.map_model.specs.History.{Entry}
use Rattle.index_server.specs.Hands.{AreReady}
use Rattle.index_server.proofs.server.serve_many.Goals as goal

-- the forks were made of the first lane, which stayed as it was
pub serve_shared-requires-clause-ready : goal.serve_shared-requires-clause-ready
serve_shared-requires-clause-ready g c κs within =
    let f = c.in-Ok.ensures in
    (f.among, subst (λ (x : ℕ × ℕ × List Entry × ℕ). (upto : ℕ) × AreReady x.0 x.1 x.2 (x.3 + 1) upto c.in-Ok.forks.items) (λ i. (sym f.kept.2 i, sym f.lanes i, sym f.kept.0 i, sym f.kept.1 i)) f.ready)
