use Rattle.std.proofs.Common.{◌≡◌, sym, ◌∙◌, subst, arith, rules}
use Rattle.map_model.proofs.Histories.{begins_trans}
use Rattle.lane_runner.specs.Tasks.{AreForksOf}
use Rattle.lane_runner.proofs.Forking.{refused_run, run_leaves}
use Rattle.lane_runner.proofs.Joined.{taken_first, all_done, all_of, all_ran, same_length, places_serve}
use Rattle.lane_runner.proofs.run.run_from.Goals as goal

pub end_served-requires : goal.end_served-requires
end_served-requires g c =
    let f = c.in-Ok-fork_slots.ensures in
    let a = c.run_all-slots.ensures in
    let same = same_length _ _ _ _ _ _ _ _ _ f.ready.1 a.ran in
    let of = all_of _ _ _ _ _ _ _ _ _ f.ready.1 a.ran in
    (search rules, (search rules, (search rules, (search rules, (subst (λ o. AreForksOf o c.run_all-slots.result.0.items) (sym (a.kept.2 ∙ f.kept.2)) of, omega (arith, same, c.in-Ok.ensures.len, c.in-Ok.ensures.capacity, c.len.ensures, c.remove-head.ensures.len, c.run_all-slots.result.0.ok.0, c.remove-head.new.self.ok.0))))))

pub push_reserved-requires : goal.push_reserved-requires
push_reserved-requires g c =
    let f = c.in-Ok-fork_slots.ensures in
    let a = c.run_all-slots.ensures in
    let same = same_length _ _ _ _ _ _ _ _ _ f.ready.1 a.ran in
    omega (arith, same, c.in-Ok.ensures.len, c.in-Ok.ensures.capacity, c.len.ensures, c.remove-head.ensures.len, c.run_all-slots.result.0.ok.0, c.remove-head.new.self.ok.0, c.end_served.ensures.len, c.end_served.ensures.room)

pub returns-in-Ok-fork_slots-clause-ran : goal.returns-in-Ok-fork_slots-clause-ran
returns-in-Ok-fork_slots-clause-ran g c =
    let f = c.in-Ok-fork_slots.ensures in
    let a = c.run_all-slots.ensures in
    let e = c.end_served.ensures in
    let slots = c.run_all-slots.result.0 in
    let tail = c.remove-head.new.self in
    let same = same_length _ _ _ _ _ _ _ _ _ f.ready.1 a.ran in
    let scripts = taken_first c.args.scripts.items tail.items c.remove-head.result (omega (arith, c.requires, c.args.scripts.ok.0)) c.remove-head.ensures.value c.remove-head.ensures.items in
    let lane : g.T.Ordered.lane c.run_all-slots.result.1.0 ≡ g.T.Ordered.lane c.args.first = a.kept.0 ∙ f.kept.1 in
    let done = all_done _ _ _ _ _ _ _ _ _ f.ready.1 a.ran in
    let others = e.ended (g.T.Lanes.lanes c.args.first) (g.P.Patience.limit c.args.patience) (g.T.Lanes.seen c.args.first) f.ready.0 tail.items (rw lane done) c.in-Ok.ensures.items in
    rw (c.turned.ensures, c.push_reserved.ensures.items) (all_ran _ _ _ _ _ _ _ _ _ f.ready.1 a.ran _ (g.T.Ordered.fits c.args.first) (λ h fit. f.fits h fit) c.args.scripts.items c.remove-head.result c.run_all-slots.result.1.1 c.end_served.new.ends.items _ _ _ _ _ _ _ scripts (e.kept.1 ∙ a.kept.1)
    (λ some. f.among (omega (arith, some, tail.ok.0))) (rw (f.kept.1, f.kept.0, f.counted) at a.served) (rw lane at others) (rw lane at e.own) (λ none. e.none (omega (arith, none, same, slots.ok.0))))

pub returns-in-Ok-fork_slots-clause-places : goal.returns-in-Ok-fork_slots-clause-places
returns-in-Ok-fork_slots-clause-places g c =
    let laws = g.met.T.Lanes g.world.𝓛 g.world.𝓜 g.world.𝓡 ((λ s x. x), (λ x. x), (λ x. x), λ x. x) in
    λ same. places_serve _ _ _ _ _ _ _ _ _ _ _ (laws.within c.args.first) (omega (arith, same, c.args.scripts.ok.0)) (returns-in-Ok-fork_slots-clause-ran g c)

pub returns-in-Ok-fork_slots-clause-left : goal.returns-in-Ok-fork_slots-clause-left
returns-in-Ok-fork_slots-clause-left g c =
    omega (arith, c.in-Ok-fork_slots.ensures.left, c.run_all-slots.ensures.kept.3, c.end_served.ensures.forks, c.remove-head.ensures.len, c.args.scripts.ok.0, c.remove-head.new.self.ok.0)

pub returns-in-Ok-fork_slots-clause-among : goal.returns-in-Ok-fork_slots-clause-among
returns-in-Ok-fork_slots-clause-among g c =
    λ some. c.end_served.ensures.kept.1 ∙ (c.run_all-slots.ensures.kept.1 ∙ c.in-Ok-fork_slots.ensures.among (omega (arith, some, c.remove-head.ensures.len, c.args.scripts.ok.0, c.remove-head.new.self.ok.0)))

pub returns-in-Ok-fork_slots-clause-room : goal.returns-in-Ok-fork_slots-clause-room
returns-in-Ok-fork_slots-clause-room g c =
    omega (arith, c.in-Ok-fork_slots.ensures.room, c.remove-head.ensures.len, c.args.scripts.ok.0, c.remove-head.new.self.ok.0)

pub returns-in-Ok-fork_slots-clause-alone : goal.returns-in-Ok-fork_slots-clause-alone
returns-in-Ok-fork_slots-clause-alone g c =
    λ one. c.end_served.ensures.kept.1 ∙ (c.run_all-slots.ensures.kept.1 ∙ c.in-Ok-fork_slots.ensures.alone (omega (arith, one, c.remove-head.ensures.len, c.args.scripts.ok.0, c.remove-head.new.self.ok.0)))

pub returns-in-Ok-fork_slots-clause-begins : goal.returns-in-Ok-fork_slots-clause-begins
returns-in-Ok-fork_slots-clause-begins g c =
    begins_trans _ _ _ (rw c.in-Ok-fork_slots.ensures.kept.0 at c.run_all-slots.ensures.served.3) c.end_served.ensures.begins

pub returns-in-Err-clause-room : goal.returns-in-Err-clause-room
returns-in-Err-clause-room g c = tt

pub returns-in-Err-fork_slots-clause-room : goal.returns-in-Err-fork_slots-clause-room
returns-in-Err-fork_slots-clause-room g c =
    refused_run g.row.T.Denot g.row.T.Denot _ _ _ _ c.in-Err-fork_slots.fault (omega (arith, c.remove-head.ensures.len, c.args.scripts.ok.0, c.remove-head.new.self.ok.0)) c.in-Err-fork_slots.ensures.room

pub returns-in-Err-clause-left : goal.returns-in-Err-clause-left
returns-in-Err-clause-left g c = (omega arith, omega arith)

pub returns-in-Err-fork_slots-clause-left : goal.returns-in-Err-fork_slots-clause-left
returns-in-Err-fork_slots-clause-left g c =
    run_leaves g.row.T.Denot g.row.T.Denot _ _ _ _ c.in-Err-fork_slots.fault (omega (arith, c.remove-head.ensures.len, c.args.scripts.ok.0, c.remove-head.new.self.ok.0)) c.in-Err-fork_slots.ensures.left

pub returns-in-Err-fork_slots-clause-alone : goal.returns-in-Err-fork_slots-clause-alone
returns-in-Err-fork_slots-clause-alone g c =
    λ one. c.in-Err-fork_slots.ensures.alone (omega (arith, one, c.remove-head.ensures.len, c.args.scripts.ok.0, c.remove-head.new.self.ok.0))
