-- Where a part of a range ends, which is found in one leaf.
use Rattle.std.specs.Prelude.{ℕ, List, [], if◌then◌else◌, Option, Some, None}
use Rattle.std.specs.Ordering.{is_lt}
use Rattle.key_bytes.specs.Bound.{bound_cmp}
use Rattle.key_bytes.specs.declared.bound.Bound.{Bound}
use Rattle.key_bytes.specs.declared.bound.Bound.TheVariants.{Low, At, High}
use Rattle.anchor_rules.specs.Anchors.{Anchors, Span, span, target}

-- the end of a range at the end of a span
abbrev pub end_bound : Option (List ℕ) → Bound
end_bound None = High
end_bound (Some end) = At end

-- where a span ends: without one, above all keys
abbrev pub span_end : Option Span → Bound
span_end None = High
span_end (Some s) = end_bound s.1

-- the leaf from which on the keys of a range are found: that of its lower end, and the first leaf for all keys
abbrev pub leaf_from : Anchors → Bound → ℕ
leaf_from A Low = target A []
leaf_from A (At key) = target A key
leaf_from A High = target A []

-- the lower one of two ends
abbrev pub lesser : Bound → Bound → Bound
lesser a b = if is_lt (bound_cmp a b) then a else b

-- where the part from one end up to another stops: at the anchor that follows the leaf of the lower end, if it comes first
abbrev pub part_end : Anchors → Bound → Bound → Bound
part_end A from upto = lesser (span_end (span A (leaf_from A from))) upto
