-- Whether there is room for all that lines put.
use Rattle.std.specs.Prelude.{◌≤◌, ℕ, List}
use Rattle.map_model.specs.History.{Entry}
use Rattle.history_sizes.specs.Sizes.{new_keys, longest_new, changes}
use Rattle.sole_sessions.specs.PlainHistory.{plain_history}

-- a history puts no more new keys, and no longer one, and changes no more than another
pub record IsNoLarger (h all : List Entry) : Type 0 where
  pub keys : new_keys h ≤ new_keys all
  pub longest : longest_new h ≤ longest_new all
  pub changed : changes h ≤ changes all

-- there is room for each history that is no larger than that of one ordered map over these lines
abbrev pub HasRoomFor : (List Entry → Type 0) → List (List ℕ) → Type 0
HasRoomFor fits lines = (h : List Entry) → IsNoLarger h (plain_history lines) → fits h
