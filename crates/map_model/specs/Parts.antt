-- The pairs that parts replied.
use Rattle.std.specs.Prelude.{List, [], ℕ}
use Rattle.std.specs.List.{flat_map}
use Rattle.map_model.specs.Maps.{Pairs}
use Rattle.map_model.specs.Calls as calls
use Rattle.map_model.specs.History.{Entry}

-- the pairs of a part's reply
abbrev pub pairs_in : calls.Reply → Pairs (List ℕ)
pairs_in (calls.Pairs pairs) = pairs
pairs_in (calls.Value value) = []
pairs_in calls.Absent = []
pairs_in calls.New = []
pairs_in calls.Set = []
pairs_in calls.Gone = []

-- the pairs of all these parts, in order
abbrev pub pairs_of : List Entry → Pairs (List ℕ)
pairs_of entries = flat_map (λ (e : Entry). pairs_in e.reply) entries
