use Rattle.split_room.proofs.Room.{few_changes, no_items, no_leaves}
use Rattle.split_room.proofs.laws.room_for_splits.Goals as goal

pub returns-clause-leaves : goal.returns-clause-leaves
returns-clause-leaves c k A h more changes leaf soft is large fits why full = no_leaves k A h more changes leaf soft is large fits why full

pub returns-clause-items : goal.returns-clause-items
returns-clause-items c k A h more changes leaf soft is large fits why full = no_items k A h more changes leaf soft is large fits why full

pub returns-clause-changes : goal.returns-clause-changes
returns-clause-changes c k A h more changes soft is fits = few_changes k A h more changes soft is fits
