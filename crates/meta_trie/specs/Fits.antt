-- When a whole list of anchors has room in a table.
use Rattle.std.specs.Prelude.{ℕ, ◌≡◌, ◌<◌, ◌≤◌, length, true, List}
use Rattle.std.specs.List.{AllByRecursion}
use Rattle.anchor_rules.specs.Anchors.{Anchors, has_leaf}
use Rattle.map_model.specs.declared.refusal.TableFull.{TableFull}
use Rattle.map_model.specs.declared.refusal.TableFull.TheVariants.{Leaves, Items, Versions}
use Rattle.row_words.specs.declared.shape.Shape.{Shape}
use Rattle.meta_trie.specs.Stands.{prefix_count}

-- the number of each leaf is below the cap
abbrev pub AreLeavesBelow : ℕ → Anchors → Type 0
AreLeavesBelow cap A = AllByRecursion (λ (q : List ℕ × ℕ). q.1 < cap) A

-- the number of some leaf isn't
abbrev pub IsLeafPast : ℕ → Anchors → Type 0
IsLeafPast cap A = (leaf : ℕ) × ((has_leaf A leaf ≡ true) × (cap ≤ leaf))

-- there is room for these anchors
abbrev pub FitsAnchors : Shape → Anchors → Type 0
FitsAnchors k A = AreLeavesBelow k.leaves A × (prefix_count A ≤ k.items)

-- there is none for one of their leaves or, where there is for each, there isn't for all of their prefixes
abbrev pub AreAnchorsTooMany : Shape → Anchors → TableFull → Type 0
AreAnchorsTooMany k A (Leaves used cap) = (used ≡ length A) × (cap ≡ k.leaves) × IsLeafPast k.leaves A
AreAnchorsTooMany k A (Items needed free) = (needed ≡ prefix_count A) × (free ≡ k.items) × AreLeavesBelow k.leaves A × (free < needed)
AreAnchorsTooMany k A (Versions version) = ⊥
