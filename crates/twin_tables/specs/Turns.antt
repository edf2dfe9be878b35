-- The turn, and the spare table under it.
use Rattle.std.specs.Prelude.{◌≡◌, ◌≢◌, ℕ, ◌+◌, ◌<◌, ◌%◌, ◌^◌, length, true, false, List, [], ◌∷◌, ◌++◌, Option, Some}
use mathlib.Core.Option.{some}
use lib.ListN.{get_elem?}
use Rattle.row_words.specs.declared.shape.Shape.{Shape}
use Rattle.row_words.specs.Layout.{word_count}
use Rattle.anchor_rules.specs.Anchors.{Anchors, AreAnchors}
use Rattle.map_model.specs.declared.refusal.Again.{Again}
use Rattle.map_model.specs.declared.refusal.Again.TheVariants.{Turn as TurnHeld, Pinned}
use Rattle.meta_trie.specs.declared.lags.Lag.TheVariants.{Same as NoChange}
use Rattle.meta_trie.specs.Stands.{StandsFor}
use Rattle.board_rule.specs.declared.view.View.{View}
use Rattle.board_rule.specs.Pins.{Spare, lag_home}
use Rattle.board_rule.specs.Views.{VERSION, TURN, pin_word, looked, has_taken, noted}
use Rattle.board_rule.specs.Steps.{Knew, anchors_now, HasSpare, kept_spare, Settled}

-- the view has the turn, and loaded or published this version under it
abbrev pub HasTurn : ℕ → View → Type 0
HasTurn version v = (v.turn ≡ true) × (v.current ≡ Some (version, anchors_now v))

-- the turn was taken, and then the version loaded
pub record Takes (lane version : ℕ) (v w : View) : Type 0 where
  pub anchors : Anchors
  pub are : AreAnchors anchors
  pub bounded : version < 2 ^ 56
  pub knew : Knew VERSION v version
  pub after : w ≡ noted version anchors (has_taken lane v)

-- a lane was found to have the turn, and it isn't this one if this one hasn't the turn
pub record TurnTaken (lane : ℕ) (again : Again) (v w : View) : Type 0 where
  pub holder : ℕ
  pub why : again ≡ TurnHeld holder
  pub look : w ≡ looked TURN (holder + 1) v
  pub other : v.turn ≡ false → holder ≢ lane

-- The table beside that of the version.
abbrev pub spare_of : ℕ → ℕ
spare_of version = (version + 1) % 2

-- The rows that the view keeps of the spare table lack just the change that the lag record names, and a table has room for the anchors
-- of the version.
pub record Lacking (k : Shape) (v : View) : Type 0 where
  pub has : HasSpare v
  pub wide : length (kept_spare v).rows ≡ word_count k
  pub settled : Settled k (anchors_now v) (kept_spare v)
  pub published : List ℕ
  pub fits : StandsFor k published (anchors_now v)

-- looks at the words of pins of the lane l and of those behind it, which found these
abbrev pub sweep_looks : ℕ → List ℕ → List (ℕ × ℕ)
sweep_looks l [] = []
sweep_looks l (x ∷ found) = (pin_word l, x) ∷ sweep_looks (l + 1) found

-- none of the lanes was found to have pinned the spare table
abbrev pub AreFree : ℕ → List ℕ → Type 0
AreFree version found = (i x : ℕ) → get_elem? found i ≡ some x → x ≢ spare_of version + 1

-- the view after such looks, by which n lanes are swept, with this of the spare table
abbrev pub swept_view : List (ℕ × ℕ) → ℕ → Option Spare → View → View
swept_view more n spare v = record v { looks = v.looks ++ more; swept = n; spare = spare }

-- the spare table is cleared: each lane was looked at, and none had pinned it
pub record Clears (k : Shape) (version : ℕ) (v w : View) : Type 0 where
  pub kept : Spare
  pub found : List ℕ
  pub all : length found ≡ k.lanes
  pub free : AreFree version found
  pub after : w ≡ swept_view (sweep_looks 0 found) k.lanes (Some kept) v
  pub lacking : Lacking k w

-- a lane was found to have pinned the spare table, and none before it
pub record SparePinned (k : Shape) (version : ℕ) (again : Again) (v w : View) : Type 0 where
  pub why : again ≡ Pinned (spare_of version) 1
  pub found : List ℕ
  pub few : length found < k.lanes
  pub free : AreFree version found
  pub look : w ≡ swept_view (sweep_looks 0 found ++ (pin_word (length found), spare_of version + 1) ∷ []) (length found) v.spare v

-- The rows that the view keeps of the spare table stand for the anchors of the version, and the lag record names no change.
pub record UpToDate (k : Shape) (v : View) : Type 0 where
  pub has : HasSpare v
  pub wide : length (kept_spare v).rows ≡ word_count k
  pub lag : (kept_spare v).lag ≡ lag_home NoChange
  pub stands : StandsFor k (kept_spare v).rows (anchors_now v)
