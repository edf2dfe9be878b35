use Rattle.leaf_versions.proofs.Between.{still_seen}
use Rattle.leaf_versions.proofs.leaf_calls.see.Goals as goal

pub returns-clause-still : goal.returns-clause-still
returns-clause-still c = still_seen c.args.board.now.shape c.args.leaf c.leaf_word.result c.look.result c.args.pass.now.seat.me.0 c.look.new.pass.seat.me.0 c.requires.leaf c.leaf_word.ensures.0 c.look.ensures.view c.look.ensures.ties
