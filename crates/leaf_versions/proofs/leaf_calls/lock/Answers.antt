use Rattle.std.proofs.Common.{◌≡◌, ◌%◌, refl}
use Rattle.board_rule.specs.Passes.{lane_of}
use Rattle.board_rule.proofs.Turning.{lane_is}
use Rattle.leaf_versions.proofs.Between.{took}
use Rattle.leaf_versions.proofs.leaf_calls.lock.Goals as goal

pub returns-then-found-seen-clause-ok : goal.returns-then-found-seen-clause-ok
returns-then-found-seen-clause-ok g c =
    let free : c.args.seen % 256 ≡ 0 = c.in_default.ensures.none.0 refl in
    took c.args.board.now.shape c.args.leaf c.args.seen c.args.searched (lane_of c.args.pass.now.lane) c.args.pass.now.seat.me c.lock-found.new.pass.seat.me c.move_leaf_out-content.new.pass.seat.me.0 _
    c.requires.leaf (c.args.pass.now.small _ (lane_is c.args.pass.now.lane c.requires.lane)) free c.if-expected-searched.false (c.lock-found.ensures.view.hit c.if-found-seen.true)
    c.move_leaf_out-content.ensures.view refl refl c.move_leaf_out-content.ensures.content
