-- Tags with places, as a list.
use Rattle.std.specs.Prelude.{ℕ, ◌-◌, ◌*◌, ◌/◌, ◌<◌, ◌≤◌, List, length, slice_index_or, filter, map, not, nat_lt}
use Rattle.std.specs.List.Sorted.{IsNonDecreasingBy}

-- the pairs of a tag and a place, and the number of pairs for which there is room
pub record TagList : Type 0 where
  pub pairs : List (ℕ × ℕ)
  pub spare : ℕ

-- the tags ascend
abbrev pub IsByTag : List (ℕ × ℕ) → Type 0
IsByTag pairs = IsNonDecreasingBy (λ (p : ℕ × ℕ). p.0) pairs

-- the tags ascend, and there are no more pairs than tags
pub record IsTagList (pairs : List (ℕ × ℕ)) : Type 0 where
  pub rises : IsByTag pairs
  pub few : length pairs ≤ 65536

-- where a tag would stand among this many tags that are spread evenly
abbrev pub first_place : ℕ → ℕ → ℕ
first_place tag count = tag * count / 65536

-- the pairs whose place is below a number
abbrev pub places_below : ℕ → List (ℕ × ℕ) → List (ℕ × ℕ)
places_below count pairs = filter (λ (p : ℕ × ℕ). nat_lt p.1 count) pairs

-- the other pairs, each with its place less that number
abbrev pub places_from : ℕ → List (ℕ × ℕ) → List (ℕ × ℕ)
places_from count pairs = map (λ (p : ℕ × ℕ). (p.0, p.1 - count)) (filter (λ (p : ℕ × ℕ). not (nat_lt p.1 count)) pairs)

-- the pairs, each with the place that its own has in a list
abbrev pub renumbered : List ℕ → List (ℕ × ℕ) → List (ℕ × ℕ)
renumbered places pairs = map (λ (p : ℕ × ℕ). (p.0, slice_index_or places p.1 0)) pairs

-- the pairs before place i have lower tags, the others don't
pub record IsCut (pairs : List (ℕ × ℕ)) (tag i : ℕ) : Type 0 where
  pub in_range : i ≤ length pairs
  pub lower : (k : ℕ) (d : ℕ × ℕ) → k < i → (slice_index_or pairs k d).0 < tag
  pub upper : (k : ℕ) (d : ℕ × ℕ) → i ≤ k → k < length pairs → tag ≤ (slice_index_or pairs k d).0
