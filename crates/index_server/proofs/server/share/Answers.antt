use Rattle.std.proofs.Common.{◌≡◌, ◌+◌, ◌-◌, ℕ, subst, sym, ◌∙◌, ap, arith, rules, vec_len}
use Rattle.map_model.specs.History.{own}
use Rattle.map_model.proofs.Histories.{begins_trans}
use mathlib.Core.List.{IsPrefix}
use Rattle.index_server.specs.Hands.{AreForksOf, AreDone, ServesMany, AllServe}
use Rattle.index_server.proofs.Working.{ready_of, worked_of, worked_length, done, all_serve}
use Rattle.index_server.proofs.server.share.Goals as goal

-- the lanes worked, and are of the index that they were of
pub end_workers-requires-after_bounds : goal.end_workers-requires-after_bounds
end_workers-requires-after_bounds g c κs within =
    let w = c.work_all-forks.ensures in
    let f = c.finish-first.ensures in
    subst (λ o. AreForksOf o c.work_all-forks.result.0.items) (sym (f.lane.2 ∙ (w.first.same_origin ∙ c.new-worker.ensures.lane.2))) (worked_of _ _ _ (ready_of _ _ _ _ _ _ c.requires.ready.1.1) w.forks)

-- all parts came back
pub finish-door-requires-after_bounds : goal.finish-door-requires-after_bounds
finish-door-requires-after_bounds g c κs within =
    omega (arith, c.end_workers.ensures.parts, c.finish-first.ensures.share.0, worked_length _ _ c.work_all-forks.ensures.forks, c.requires.ledger.3)

-- the first lane's work, and that of its forks
pub returns-clause-served : goal.returns-clause-served
returns-clause-served g c =
    let laws = g.met.T.Lanes g.world.𝓛 g.world.𝓜 g.world.𝓡 ((λ s x. x), (λ x. x), (λ x. x), λ x. x) in
    let n = c.new-worker.ensures in
    let w = c.work_all-forks.ensures in
    let f = c.finish-first.ensures in
    let e = c.end_workers.ensures in
    let one = c.new-worker.result in
    let two = c.work_all-forks.result.1 in
    let lane = c.finish-first.result.0 in
    let same : g.T.Ordered.lane lane ≡ g.T.Ordered.lane c.args.first = f.lane.0 ∙ (w.first.same_lane ∙ n.lane.0) in
    let mine = subst (λ l. ServesMany l (two.count - one.count) (g.T.Lanes.seen c.args.first) two.seen) n.lane.0 (subst (λ h. ServesMany one.lane (two.count - one.count) h two.seen) n.lane.4 (w.first.served (n.lane.1 ∙ c.requires.ready.0))) in
    let kept : own (g.T.Ordered.lane c.args.first) (g.T.Lanes.seen c.end_workers.new.first) ≡ own (g.T.Ordered.lane c.args.first) two.seen =
    subst (λ l. own l (g.T.Lanes.seen c.end_workers.new.first) ≡ own l (g.T.Lanes.seen lane)) same e.own ∙ ap (own (g.T.Ordered.lane c.args.first)) f.lane.4 in
    let ended = e.ended (g.T.Lanes.lanes c.args.first) (g.T.Lanes.seen c.args.first) c.requires.ready.1.0
    (subst (λ l. AreDone (g.T.Lanes.lanes c.args.first) (g.T.Lanes.seen c.args.first) (l + 1) c.requires.ready.1.0 c.work_all-forks.result.0.items) (sym same) (done _ _ _ _ _ _ _ c.requires.ready.1.1 w.forks)) in
    all_serve (g.T.Ordered.lane c.args.first) (g.T.Lanes.lanes c.args.first) (two.count - one.count) (c.end_workers.new.all.amount - c.finish-first.result.1.amount) c.end_workers.new.all.amount _ (vec_len c.work_all-forks.result.0) _ _ (g.T.Lanes.seen c.args.first) two.seen (g.T.Lanes.seen c.end_workers.new.first)
    (laws.within c.args.first) mine kept (omega (arith, worked_length _ _ w.forks))
    (omega (arith, e.more, f.share.1, n.share, w.first.more, c.requires.ledger))
    c.finish-door.ensures.counted
    (ended.0, ended.1, ended.2, subst (λ l. AllServe (l + 1) (g.T.Lanes.lanes c.args.first) ended.0 (g.T.Lanes.seen c.args.first) (g.T.Lanes.seen c.end_workers.new.first)) same ended.3)
