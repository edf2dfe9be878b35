-- Which histories a store over one table stands for, and which fit it.
use Rattle.std.specs.Prelude.{ℕ, List, Option}
use Rattle.leaf_spans.specs.Counting.{Counted}
use Rattle.map_model.specs.History.{Entry}
use Rattle.map_model.specs.Plain.{IsHistoryOf}
use Rattle.map_model.specs.declared.refusal.Refusal.{Refusal}
use Rattle.row_words.specs.declared.shape.Shape.{Shape}
use Rattle.leaf_table.specs.Table.{Table, size_at}
use Rattle.history_sizes.specs.Fits as sizes
use Rattle.history_sizes.specs.Sizes.{new_keys, longest_new}

-- the table, the count of refusals and the last one
pub record Store : Type 0 where
  pub table : Table
  pub refusals : ℕ
  pub last : Option Refusal

-- so many new keys account for the table's leaves and their sizes, and no anchor is longer than this
abbrev pub IsBounded : Table → ℕ → ℕ → Type 0
IsBounded t p longest = Counted t.anchors (size_at t) t.shape.soft p 0 longest

-- the table's map is that of the history, whose new keys account for its leaves and anchors
pub record Stands (t : Table) (h : List Entry) : Type 0 where
  pub history : IsHistoryOf t.map h
  pub bounded : IsBounded t (new_keys h) (longest_new h)

-- an index of this shape has room for what the history puts
abbrev pub Fits : Shape → List Entry → Type 0
Fits k h = sizes.Fits k.values k.leaves k.items k.soft h
