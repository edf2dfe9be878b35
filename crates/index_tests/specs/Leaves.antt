-- The leaf of a key, and a leaf in the hands of a test.
use Rattle.std.specs.Prelude.{◌≡◌, ◌≢◌, ℕ, ◌<◌, ◌≤◌, List, None, false}
use Rattle.row_words.specs.declared.shape.Shape.{Shape}
use Rattle.anchor_rules.specs.Anchors.{Anchors}
use Rattle.board_rule.specs.declared.view.View.{View}
use Rattle.board_rule.specs.Views.{held_at}
use Rattle.board_rule.specs.Steps.{HasNote}
use Rattle.leaf_versions.specs.declared.held.Held.{Held}
use Rattle.worm_index.specs.Opened.{IsInSpan}

-- the key is in the leaf's span by a note of the version
pub record IsPlaced (k : Shape) (key : List ℕ) (version leaf : ℕ) (v : View) : Type 0 where
  pub near : leaf < k.leaves
  pub anchors : Anchors
  pub noted : HasNote v version anchors
  pub inside : IsInSpan anchors leaf key

-- the same of a held leaf, by a note that isn't older than the leaf
abbrev pub IsNotedFor : List ℕ → View → Held → Type 0
IsNotedFor key v held = (n : ℕ) × (A : Anchors) × HasNote v n A × (held.date ≤ n) × IsInSpan A held.leaf key

-- no other leaf is held, and neither the turn nor a pin
pub record HoldsOnly (v : View) (leaf : ℕ) : Type 0 where
  pub alone : (other : ℕ) → other ≢ leaf → held_at v other ≡ None
  pub turn : v.turn ≡ false
  pub pin : v.pin ≡ None
