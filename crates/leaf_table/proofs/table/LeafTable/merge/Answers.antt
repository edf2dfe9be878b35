use Rattle.std.proofs.Common.{refl, ◌∙◌}
use Rattle.row_words.specs.VecRows.{shape_of, words_of}
use Rattle.leaf_table.proofs.LiveLeaves.{live_merge}
use Rattle.leaf_table.proofs.Written.{on_err, left_place, right_place, beside_apart, beside_keys, beside_merges, merged, unchanged, room_moved}
use Rattle.leaf_table.proofs.table.LeafTable.merge.Goals as goal

pub join-requires-clause-left : goal.join-requires-clause-left
join-requires-clause-left c = left_place _ _ _ _ c.self.invariant.0 _ c.self.view_is c.args.left c.args.right c.requires.adjacent

pub join-requires-clause-right : goal.join-requires-clause-right
join-requires-clause-right c = right_place _ _ _ _ c.self.invariant.0 _ c.self.view_is c.args.left c.args.right c.requires.adjacent

pub join-requires-clause-apart : goal.join-requires-clause-apart
join-requires-clause-apart c = beside_apart _ _ _ _ c.self.invariant.0 _ c.self.view_is c.args.left c.args.right c.requires.adjacent

pub join-requires-clause-keys : goal.join-requires-clause-keys
join-requires-clause-keys c = beside_keys _ _ _ _ c.self.invariant.0 _ c.self.view_is c.args.left c.args.right c.requires.adjacent

pub invariant_of-self : goal.invariant_of-self
invariant_of-self c = ((unchanged _ _ _ _ c.self.invariant.0 _ c.self.view_is c.join.new.leaves.items c.join.ensures.count (c.join.ensures.salts _ c.self.invariant.0.salts (c.new-empty.ensures.salt ∙ c.salt.ensures)) c.in_err-join.ensures.refused).whole, c.self.invariant.1, room_moved (shape_of c.self.inside.rows) _ _ _ refl c.join.ensures.capacity c.self.invariant.2)

pub returns-in_err-join-clause-refused : goal.returns-in_err-join-clause-refused
returns-in_err-join-clause-refused c = on_err c.from_residual.result (unchanged _ _ _ _ c.self.invariant.0 _ c.self.view_is c.join.new.leaves.items c.join.ensures.count (c.join.ensures.salts _ c.self.invariant.0.salts (c.new-empty.ensures.salt ∙ c.salt.ensures)) c.in_err-join.ensures.refused).is

pub remove_anchor-requires : goal.remove_anchor-requires
remove_anchor-requires c = beside_merges _ _ _ _ c.self.invariant.0 _ c.self.view_is c.args.left c.args.right c.requires.adjacent

pub invariant_of-self-2 : goal.invariant_of-self-2
invariant_of-self-2 c = (
  (merged _ _ _ _ c.self.invariant.0 _ c.self.view_is c.args.left c.args.right c.requires.adjacent (shape_of c.remove_anchor.new.rows) (words_of c.remove_anchor.new.rows) c.join.new.leaves.items
      c.remove_anchor.ensures.shape c.requires.few (c.remove_anchor.ensures.removed _ c.self.invariant.0.stands) c.in_ok-join.ensures.count (c.join.ensures.salts _ c.self.invariant.0.salts (c.new-empty.ensures.salt ∙ c.salt.ensures)) c.in_ok-join.ensures.joined c.in_ok-join.ensures.emptied c.in_ok-join.ensures.others).0,
  live_merge _ _ _ _ c.remove_anchor.ensures.shape c.self.inside.full_below c.min-self-inside.result c.args.right c.min-self-inside.ensures (c.remove_anchor.ensures.removed _ c.self.invariant.0.stands) c.self.invariant.1,
  room_moved _ _ _ _ c.remove_anchor.ensures.shape c.join.ensures.capacity c.self.invariant.2,
)

pub returns-clause-ok : goal.returns-clause-ok
returns-clause-ok c =
    (merged _ _ _ _ c.self.invariant.0 _ c.self.view_is c.args.left c.args.right c.requires.adjacent (shape_of c.remove_anchor.new.rows) (words_of c.remove_anchor.new.rows) c.join.new.leaves.items
    c.remove_anchor.ensures.shape c.requires.few (c.remove_anchor.ensures.removed _ c.self.invariant.0.stands) c.in_ok-join.ensures.count (c.join.ensures.salts _ c.self.invariant.0.salts (c.new-empty.ensures.salt ∙ c.salt.ensures)) c.in_ok-join.ensures.joined c.in_ok-join.ensures.emptied c.in_ok-join.ensures.others).1
