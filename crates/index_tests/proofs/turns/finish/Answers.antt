use Rattle.board_rule.specs.Passes.{view}
use Rattle.twin_tables.proofs.Turning.{none_ahead, up_to_date_settled}
use Rattle.index_tests.proofs.turns.finish.Goals as goal

pub give_turn-requires-clause-behind : goal.give_turn-requires-clause-behind
give_turn-requires-clause-behind c = none_ahead (view c.args.pass.now) (view c.catch_up.new.pass) c.catch_up.ensures.only.same.held c.requires.idle

pub give_turn-requires-clause-settled : goal.give_turn-requires-clause-settled
give_turn-requires-clause-settled c = up_to_date_settled c.args.board.now.shape (view c.catch_up.new.pass) c.catch_up.ensures.done
