-- Why a lock is refused, each time by what a look at the leaf's word found.
use Rattle.std.specs.Prelude.{◌≡◌, ◌≢◌, ℕ, ◌+◌, ◌/◌, ◌%◌, ◌<◌, ◌≤◌, ◌⊎◌}
use mathlib.Core.Option.{some}
use lib.ListN.{get_elem?}
use Rattle.row_words.specs.declared.shape.Shape.{Shape}
use Rattle.map_model.specs.declared.refusal.Again.{Again}
use Rattle.map_model.specs.declared.refusal.Again.TheVariants.{Locked, Changed, Stale, Moved, Turn, Pinned, Bin, Filled}
use Rattle.board_rule.specs.declared.view.View.{View}
use Rattle.board_rule.specs.Rule.{leaf_word}
use Rattle.board_rule.specs.Views.{looked}
use Rattle.board_rule.specs.Steps.{Knew, FindsLeaf}

-- one of the view's looks found this in the leaf's word
abbrev pub WasSeen : Shape → ℕ → View → ℕ → Type 0
WasSeen k leaf v seen = (x : ℕ) × (get_elem? v.looks x ≡ some (leaf_word k leaf, seen))

-- and all that the view knows bears it out, as it does right after the look
pub record StillSeen (k : Shape) (leaf : ℕ) (v : View) (seen : ℕ) : Type 0 where
  pub look : WasSeen k leaf v seen
  pub knew : Knew (leaf_word k leaf) v seen
  pub finds : FindsLeaf (leaf_word k leaf) leaf v seen

-- The word that was seen has no holder and isn't newer than the version searched, but the exchange found another word there.
pub record FoundElse (k : Shape) (leaf seen searched found : ℕ) (v w : View) : Type 0 where
  pub free : seen % 256 ≡ 0
  pub known : seen / 256 ≤ searched
  pub differs : found ≢ seen
  pub after : w ≡ looked (leaf_word k leaf) found v
  pub knew : Knew (leaf_word k leaf) v found
  pub finds : FindsLeaf (leaf_word k leaf) leaf v found

-- Locked: the word that was seen names the holder, or the one that the exchange found does. Stale: the word that was seen has no holder, and
-- is of a later version than was searched. Changed: the exchange found another word than was seen, and neither has a holder.
abbrev pub IsRefused : Shape → ℕ → ℕ → ℕ → View → View → Again → Type 0
IsRefused k leaf seen searched v w (Locked l holder) = (l ≡ leaf) × (((seen % 256 ≡ holder + 1) × (w ≡ v)) ⊎ ((found : ℕ) × FoundElse k leaf seen searched found v w × (found % 256 ≡ holder + 1)))
IsRefused k leaf seen searched v w (Changed l before after) = (l ≡ leaf) × (before ≡ seen) × FoundElse k leaf seen searched after v w × (after % 256 ≡ 0)
IsRefused k leaf seen searched v w (Stale l expected version) = (l ≡ leaf) × (version ≡ searched) × (seen % 256 ≡ 0) × (expected ≡ seen / 256) × (searched < expected) × (w ≡ v)
IsRefused k leaf seen searched v w (Moved first second) = ⊥
IsRefused k leaf seen searched v w (Turn holder) = ⊥
IsRefused k leaf seen searched v w (Pinned table pins) = ⊥
IsRefused k leaf seen searched v w (Bin holder) = ⊥
IsRefused k leaf seen searched v w (Filled l count hard) = ⊥

-- where a holder is named, it is another lane than this
abbrev pub NamesOther : ℕ → Again → Type 0
NamesOther lane (Locked leaf holder) = holder ≢ lane
NamesOther lane _ = Unit {0}

abbrev pub NotStale : Again → Type 0
NotStale (Stale leaf expected searched) = ⊥
NotStale _ = Unit {0}
