use Rattle.std.proofs.Common.{arith, sym, subst, take, drop, length-drop}
use Rattle.leaf_store.specs.Rows.{AreTags}
use Rattle.leaf_store.proofs.Parted.{left_tags, right_tags}
use Rattle.leaf_store.proofs.Settled.{length-tags}
use Rattle.leaf_store.proofs.rows.cut_tags.Goals as goal

pub split_off-requires-clause-room : goal.split_off-requires-clause-room
split_off-requires-clause-room g c =
    let moved = right_tags c.args.salt c.args.rows.now c.args.tags.now.pairs c.requires.tags c.args.stay in
    let size = length-tags c.args.salt (drop c.args.stay c.args.rows.now) _ moved in
    omega (arith, size, length-drop c.args.stay c.args.rows.now, c.requires.room)

pub returns-then-salt-right_salt-clause-stay : goal.returns-then-salt-right_salt-clause-stay
returns-then-salt-right_salt-clause-stay g c = subst (AreTags c.args.salt (take c.args.stay c.args.rows.now)) (sym c.split_off.ensures.stay) (left_tags c.args.salt c.args.rows.now c.args.tags.now.pairs c.requires.tags c.args.stay)

pub returns-then-salt-right_salt-clause-go : goal.returns-then-salt-right_salt-clause-go
returns-then-salt-right_salt-clause-go g c =
    let moved = right_tags c.args.salt c.args.rows.now c.args.tags.now.pairs c.requires.tags c.args.stay in
    subst (λ s. AreTags s (drop c.args.stay c.args.rows.now) c.split_off.new.right.pairs) c.if-salt-right_salt.true (subst (AreTags c.args.salt (drop c.args.stay c.args.rows.now)) (sym c.split_off.ensures.go) moved)

pub returns-else-salt-right_salt-clause-stay : goal.returns-else-salt-right_salt-clause-stay
returns-else-salt-right_salt-clause-stay g c = subst (AreTags c.args.salt (take c.args.stay c.args.rows.now)) (sym c.truncate.ensures.pairs) (left_tags c.args.salt c.args.rows.now c.args.tags.now.pairs c.requires.tags c.args.stay)
