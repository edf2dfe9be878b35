-- The leaves just before and just behind one.
use Rattle.std.specs.Prelude.{◌≡◌, ℕ, true, false, Option, MatchOption}
use Rattle.anchor_rules.specs.Anchors.{Anchors, adjacent}

-- the leaf just before, None exactly where there is none
abbrev pub IsBefore : Anchors → ℕ → Option ℕ → Type 0
IsBefore A leaf left = MatchOption left ((other : ℕ) → adjacent A other leaf ≡ false) (λ other. adjacent A other leaf ≡ true)

-- the leaf just behind, None exactly where there is none
abbrev pub IsBehind : Anchors → ℕ → Option ℕ → Type 0
IsBehind A leaf right = MatchOption right ((other : ℕ) → adjacent A leaf other ≡ false) (λ other. adjacent A leaf other ≡ true)
