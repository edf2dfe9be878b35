use Rattle.leaf_store.proofs.Listed.{tags_listed, places_listed, each_tagged, keys_listed, seen_tags, seen_places, seen_each, seen_keys}
use Rattle.leaf_store.proofs.leaf.Leaf.tags.Goals as goal

pub returns-clause-tags : goal.returns-clause-tags
returns-clause-tags g c = seen_tags _ _ c.self.view_is _ (tags_listed c.self.inside.salt c.self.inside.rows.items c.self.inside.tags.pairs c.self.invariant.0.keys c.self.invariant.0.tags)

pub returns-clause-places : goal.returns-clause-places
returns-clause-places g c = seen_places _ _ c.self.view_is _ (places_listed c.self.inside.salt c.self.inside.rows.items c.self.inside.tags.pairs c.self.invariant.0.keys c.self.invariant.0.tags)

pub returns-clause-each : goal.returns-clause-each
returns-clause-each g c = seen_each _ _ c.self.view_is _ (each_tagged c.self.inside.salt c.self.inside.rows.items c.self.inside.tags.pairs c.self.invariant.0.keys c.self.invariant.0.tags)

pub returns-clause-rows : goal.returns-clause-rows
returns-clause-rows g c = seen_keys _ _ c.self.view_is c.self.inside.tags.pairs (keys_listed c.self.inside.salt c.self.inside.rows.items c.self.inside.tags.pairs c.self.invariant.0.keys c.self.invariant.0.tags)
