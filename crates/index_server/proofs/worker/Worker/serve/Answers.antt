use Rattle.index_server.proofs.Serving.{counted_serves}
use Rattle.index_server.proofs.worker.Worker.serve.Goals as goal

-- the lane went from the history that it had seen to the one that it has
pub returns : goal.returns
returns g c =
    let w = c.work.ensures in
    let laws = g.met.T.Lanes g.world.𝓛 g.world.𝓜 g.world.𝓡 ((λ s x. x), (λ x. x), (λ x. x), λ x. x) in
    let lane = c.work.new.store in
    let r = counted_serves _ _ _ _ _ _ _ _ _ (g.T.Lanes.seen c.self.inside.lane) (g.T.Lanes.seen lane) (laws.stands_seen c.self.inside.lane) (laws.only_seen lane) w.served in
    rw (← c.self.view_is) record {
      same_lane = w.kept.0;
      same_origin = w.kept.1;
      same_room = w.kept.2;
      begins = r.0;
      more = w.share.0;
      served = r.1;
    }
