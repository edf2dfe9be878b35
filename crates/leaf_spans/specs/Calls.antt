-- Calls whose keys lie in one span.
use Rattle.std.specs.Prelude.{◌≡◌, ℕ, ◌+◌, List, true}
use Rattle.anchor_rules.specs.Anchors.{Span, in_span}
use Rattle.map_model.specs.Calls.{Call, Get, Put, Del, Part, Reply, Value, Absent, New, Set, Gone, Pairs}
use Rattle.map_model.specs.Maps.{is_in}

-- each key of the call is in the span
abbrev pub Lies : Span → Call → Type 0
Lies s (Get key) = in_span s key ≡ true
Lies s (Put key value) = in_span s key ≡ true
Lies s (Del key) = in_span s key ≡ true
Lies s (Part from upto) = (key : List ℕ) → is_in from upto key ≡ true → in_span s key ≡ true

-- the number of new keys before a call with this reply, and after it
abbrev pub CountsNew : Reply → ℕ → ℕ → Type 0
CountsNew New before after = after ≡ before + 1
CountsNew (Value value) before after = after ≡ before
CountsNew Absent before after = after ≡ before
CountsNew Set before after = after ≡ before
CountsNew Gone before after = after ≡ before
CountsNew (Pairs pairs) before after = after ≡ before
