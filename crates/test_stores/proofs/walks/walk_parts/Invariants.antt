use Rattle.std.proofs.Common.{◌≡◌}
use Rattle.std.specs.declared.cmp.Ordering.TheVariants.{Less}
use Rattle.key_bytes.specs.Bound.{bound_cmp, IsBound}
use Rattle.key_bytes.specs.Ranks.{distance}
use Rattle.map_model.specs.Ordered.{Follows}
use Rattle.test_stores.specs.Walks.{Walks}
use Rattle.test_stores.proofs.walks.walk_parts.Given as goal

-- the parts so far tile the range up to here
abbrev pub invariant-parts : goal.invariant-parts
invariant-parts g l = record {
  known : IsBound l.at;
  less : bound_cmp l.at l.to ≡ Less;
  lane : g.O.Ordered.lane l.store ≡ g.O.Ordered.lane l.fn.store;
  sole : g.O.Ordered.sole l.store ≡ g.O.Ordered.sole l.fn.store;
  count : g.O.Ordered.refusals l.store ≡ g.O.Ordered.refusals l.fn.store;
  walk : Follows (g.O.Ordered.stands l.fn.store) (g.O.Ordered.stands l.store) (Walks (g.O.Ordered.lane l.fn.store) (g.O.Ordered.sole l.fn.store) l.fn.from l.to l.fn.all.pairs l.all.pairs l.at);
}

abbrev pub decreases-parts : goal.decreases-parts
decreases-parts g l = distance l.at
