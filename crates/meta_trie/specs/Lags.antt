-- One change of a list of anchors, and when it can be made.
use Rattle.std.specs.Prelude.{ℕ, ◌≡◌, ◌<◌, List, true}
use Rattle.key_bytes.specs.Lengths.{IsKey}
use Rattle.anchor_rules.specs.Anchors.{Anchors, splits, with_split, adjacent, with_merge}
use Rattle.row_words.specs.declared.shape.Shape.{Shape}
use Rattle.meta_trie.specs.Stands.{StandsFor, FitsSplit}
use Rattle.meta_trie.specs.declared.lags.Lag.{Lag}
use Rattle.meta_trie.specs.declared.lags.Lag.TheVariants.{Same, Split, Merge}

-- the anchors with the change
abbrev pub turned : Anchors → Lag → Anchors
turned A Same = A
turned A (Split left anchor right) = with_split A left anchor right
turned A (Merge left right) = with_merge A right

-- the change can be made in the anchors
abbrev pub CanTurn : Anchors → Lag → Type 0
CanTurn A Same = Unit {0}
CanTurn A (Split left anchor right) = splits A left anchor right ≡ true
CanTurn A (Merge left right) = adjacent A left right ≡ true

-- rows of this shape have room for it
abbrev pub FitsTurn : Shape → Anchors → Lag → Type 0
FitsTurn k A Same = Unit {0}
FitsTurn k A (Split left anchor right) = IsKey anchor × (right < k.leaves) × FitsSplit k A left anchor
FitsTurn k A (Merge left right) = Unit {0}

-- the words stand for anchors in which the change can be made, and the shape has room for it
abbrev pub CanTurnRows : Shape → List ℕ → Lag → Type 0
CanTurnRows k ws lag = (A : Anchors) × (StandsFor k ws A × CanTurn A lag × FitsTurn k A lag)
