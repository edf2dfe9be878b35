-- What bounds the leaves, their sizes and their anchors.
use Rattle.std.specs.Prelude.{ℕ, ◌/◌, ◌≤◌}
use Rattle.anchor_rules.specs.Anchors.{Anchors}
use Rattle.anchor_rules.specs.Items.{longest_anchor}
use Rattle.anchor_rules.specs.Tally.{Tally, sizes_of}

-- So many new keys account for the sizes of all leaves and for so many changes of anchors, and no anchor is longer than this.
pub record Counted (A : Anchors) (size : ℕ → ℕ) (soft new_keys changes longest : ℕ) : Type 0 where
  pub tally : Tally (sizes_of size A) (soft / 2) new_keys changes
  pub short : longest_anchor A ≤ longest

-- no leaf has too many keys
abbrev pub AreFew : (ℕ → ℕ) → ℕ → Type 0
AreFew size most = (leaf : ℕ) → size leaf ≤ most
