-- The ranges of the numbers of a shape.
use Rattle.std.specs.Prelude.{ℕ, ◌≡◌, ◌<◌, ◌≤◌, ◌/◌, ◌%◌}
use Rattle.row_words.specs.declared.shape.Shape.{Shape}
use Rattle.row_words.specs.declared.shape.ShapeFault.{ShapeFault}
use Rattle.row_words.specs.declared.shape.ShapeFault.TheVariants.{Leaves, Items, Heads, Values, Lanes, Soft, Hard, MergeSum}

-- the field that this fault names is in its range
abbrev pub InRange : Shape → ShapeFault → Type 0
InRange k Leaves = (1 ≤ k.leaves) × (k.leaves ≤ 65536)
InRange k Items = (1 ≤ k.items) × (k.items ≤ 4194304)
InRange k Heads = (1 ≤ k.heads) × (k.heads ≤ 1048576)
InRange k Values = (1 ≤ k.values) × (k.values ≤ 262144)
InRange k Lanes = (1 ≤ k.lanes) × (k.lanes ≤ 64)
InRange k Soft = (k.soft % 2 ≡ 0) × (2 ≤ k.soft) × (k.soft ≤ 1024)
InRange k Hard = (k.soft < k.hard) × (k.hard ≤ 4096)
InRange k MergeSum = k.merge_sum ≤ k.soft / 2

-- every field is in its range; the salt may be any number
pub record IsShape (k : Shape) : Type 0 where
  pub leaves : InRange k Leaves
  pub items : InRange k Items
  pub heads : InRange k Heads
  pub values : InRange k Values
  pub lanes : InRange k Lanes
  pub soft : InRange k Soft
  pub hard : InRange k Hard
  pub merge_sum : InRange k MergeSum

-- the place of a field in the order in which they are checked
abbrev pub fault_number : ShapeFault → ℕ
fault_number Leaves = 1
fault_number Items = 2
fault_number Heads = 3
fault_number Values = 4
fault_number Lanes = 5
fault_number Soft = 6
fault_number Hard = 7
fault_number MergeSum = 8

-- its field is out of range, and those checked before it aren't
pub record IsFirstFault (k : Shape) (fault : ShapeFault) : Type 0 where
  pub out : ¬ InRange k fault
  pub before : (other : ShapeFault) → fault_number other < fault_number fault → InRange k other
