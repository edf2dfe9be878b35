use Rattle.std.proofs.Common.{◌∙◌, ◌*◌, sym, subst, Some}
use Rattle.board_rule.specs.Cells.{at_home}
use Rattle.board_rule.specs.Rule.{leaf_word}
use Rattle.board_rule.specs.Views.{has, spotted}
use Rattle.board_rule.specs.Steps.{Ends}
use Rattle.board_rule.specs.Passes.{lane_of}
use Rattle.leaf_versions.proofs.Between.{inside_is, fresh_in, ends_in}
use Rattle.leaf_versions.proofs.leaf_calls.unlock.Goals as goal

pub unlock-requires-clause-note : goal.unlock-requires-clause-note
unlock-requires-clause-note g c =
    let v = c.args.pass.now.seat.me.0 in
    let w = c.move_leaf_in.new.pass.seat.me.0 in
    let t = inside_is v w c.args.held.leaf c.args.held.content c.requires.held.away c.move_leaf_in.ensures.view in
    fresh_in v w c.args.held.leaf c.args.held.content (g.E.Event.deed c.args.event.now) c.move_leaf_in.ensures.view t.1 c.requires.note

pub returns-clause-view : goal.returns-clause-view
returns-clause-view g c =
    let me = c.args.pass.now.seat.me in
    let deed = g.E.Event.deed c.args.event.now in
    let word = leaf_word c.args.board.now.shape c.args.held.leaf in
    let end = subst (λ l. Ends word c.args.held.leaf (c.args.held.date * 256) (lane_of l) deed c.move_leaf_in.new.pass.seat.me c.unlock.new.pass.seat.me) c.move_leaf_in.ensures.lane c.unlock.ensures.view in
    ends_in word c.args.held.leaf (c.args.held.date * 256) (lane_of c.args.pass.now.lane) deed (Some (spotted (at_home c.args.held.content) (has me.0 c.args.held.leaf))) me c.move_leaf_in.new.pass.seat.me c.unlock.new.pass.seat.me
    c.move_leaf_in.ensures.view (c.move_leaf_in.new.pass.bare ∙ sym c.args.pass.now.bare) end
