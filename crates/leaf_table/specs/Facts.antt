-- What holds of every table, and what its calls answer.
use Rattle.std.specs.Prelude.{◌≡◌, ℕ, ◌<◌, true}
use Rattle.anchor_rules.specs.Anchors.{Anchors, AreAnchors, has_leaf}
use Rattle.anchor_rules.specs.Neighbours.{IsBefore, IsBehind}
use Rattle.leaf_spans.specs.Counting.{AreFew}
use Rattle.map_model.specs.Maps.{IsMap}
use Rattle.row_words.specs.declared.shape.Shape.{Shape}
use Rattle.row_words.specs.declared.shape.MakeFault.{MakeFault}
use Rattle.row_words.specs.declared.shape.MakeFault.TheVariants.{Shape as OutOfRange, NoMemory}
use Rattle.row_words.specs.Shape.{IsShape, IsFirstFault}
use Rattle.leaf_table.specs.Changes.{HasNoRoom}
use Rattle.leaf_table.specs.Table.{Table, size_at}
use Rattle.leaf_table.specs.declared.answers.Neighbours.{Neighbours}
use Rattle.leaf_table.specs.declared.answers.SplitFault.{SplitFault}
use Rattle.leaf_table.specs.declared.answers.SplitFault.TheVariants.{Table as NoRoom, NoMemory as NoSpace}

-- What holds of every table: its numbers are in their ranges, its anchors part all keys among leaves that there may be,
-- and no leaf has more keys than it may.
pub record IsWhole (t : Table) : Type 0 where
  pub ranges : IsShape t.shape
  pub anchors : AreAnchors t.anchors
  pub leaves : (leaf : ℕ) → has_leaf t.anchors leaf ≡ true → leaf < t.shape.leaves
  pub map : IsMap t.map
  pub sizes : AreFew (size_at t) t.shape.hard

-- why no table was made: the first number that is out of its range, or want of memory where none is
abbrev pub IsMakeFault : Shape → MakeFault → Type 0
IsMakeFault k (OutOfRange fault) = IsFirstFault k fault
IsMakeFault k NoMemory = IsShape k

-- the leaves on both sides of one
pub record AreBeside (A : Anchors) (leaf : ℕ) (beside : Neighbours) : Type 0 where
  pub before : IsBefore A leaf beside.left
  pub behind : IsBehind A leaf beside.right

-- why a leaf wasn't split: the table has no room, or want of memory
abbrev pub IsSplitFault : Table → ℕ → SplitFault → Type 0
IsSplitFault t leaf (NoRoom why) = HasNoRoom t leaf why
IsSplitFault t leaf NoSpace = Unit {0}
