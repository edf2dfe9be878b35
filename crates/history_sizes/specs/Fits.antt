-- Which histories an index has room for.
use Rattle.std.specs.Prelude.{ℕ, ◌+◌, ◌*◌, ◌/◌, ◌^◌, ◌<◌, ◌≤◌, List}
use Rattle.map_model.specs.History.{Entry}
use Rattle.history_sizes.specs.Sizes.{new_keys, longest_new, changes}

-- There is room for what the history puts, however its keys are spread over leaves that are split above `soft` keys: fewer new keys than values, a leaf for each half of `soft` new keys and one more, and an item for each byte of the anchors of these and one more.
pub record Fits (values leaves items soft : ℕ) (h : List Entry) : Type 0 where
  pub changed : changes h < 2 ^ 63
  pub live : new_keys h < values
  pub split : 1 + new_keys h / (soft / 2) ≤ leaves
  pub prefixes : 1 + (new_keys h / (soft / 2)) * longest_new h ≤ items
