-- Where a history fits, there is room for its next put.
use Rattle.std.proofs.Common.{◌≡◌, ◌<◌, ◌≤◌, List, ◌++◌, length, ℕ, sym, ap, subst, arith, inl, inr, Err}
use Rattle.anchor_rules.specs.Anchors.{AreAnchors, span}
use Rattle.leaf_spans.specs.Counting.{Counted}
use Rattle.leaf_spans.specs.Spread.{inside, size_in}
use Rattle.leaf_spans.specs.Tending.{IsLarge}
use Rattle.map_model.specs.Halves.{parting}
use Rattle.map_model.specs.Maps.{Pairs, IsMap}
use Rattle.map_model.specs.History.{Entry, after}
use Rattle.map_model.specs.Refusals.{NotFull}
use Rattle.map_model.specs.declared.refusal.Full.{Full}
use Rattle.map_model.specs.declared.refusal.Full.TheVariants.{Values, Crowded}
use Rattle.map_model.specs.declared.refusal.Refusal.{Refusal}
use Rattle.map_model.specs.declared.refusal.Refusal.TheVariants as refusals
use Rattle.map_model.specs.declared.refusal.TableFull.{TableFull}
use Rattle.history_sizes.specs.Sizes.{new_keys, longest_new}
use Rattle.history_sizes.proofs.Bounds.{length_after}
use Rattle.history_sizes.proofs.Rising.{new_keys-longer}
use Rattle.meta_trie.specs.Stands.{AreItemsFull}
use Rattle.leaf_table.specs.Changes.{HasNoRoom}
use Rattle.leaf_table.specs.Facts.{IsWhole}
use Rattle.leaf_table.specs.Table.{Table, size_at}
use Rattle.split_room.specs.Room.{AreAccounted}
use Rattle.split_room.proofs.Room.{no_items, no_leaves}
use Rattle.solo_index.specs.Causes.{FullFor, RefusesPut}
use Rattle.solo_index.specs.Standing.{Stands, Fits}
use Rattle.solo_index.specs.Tending.{HasAllValues, IsCrowded, leaf_of}

-- there are fewer keys than there may be
pub no_values : (t : Table) (h more : List Entry) → Stands t h → Fits t.shape (h ++ more) → HasAllValues t → ⊥
no_values t h more s fits full =
    let live = length_after h s.history.legal in
    let same : length (after h) ≡ length t.map = ap (λ (m : Pairs (List ℕ)). length m) s.history.map in
    let longer = new_keys-longer h more in
    let few = fits.live in
    absurd (omega arith)

-- the table has room for a split of a crowded leaf
pub no_crowd : (t : Table) (h more : List Entry) (leaf : ℕ) (why : TableFull) → AreAnchors t.anchors → 2 ≤ t.shape.soft → t.shape.soft < size_at t leaf → Stands t h → Fits t.shape (h ++ more) → HasNoRoom t leaf why → ⊥
no_crowd t h more leaf why are soft large s fits none = elim none [
  | inl leaves ↦ no_leaves t.shape t.anchors h more 0 leaf soft due many fits why leaves
  | inr items ↦ no_items t.shape t.anchors h more 0 leaf soft due many fits why (subst (λ (m : Pairs (List ℕ)). AreItemsFull t.shape t.anchors leaf (parting (inside (span t.anchors leaf) m)) why) (sym s.history.map) items.2)
]
  where
    many : IsLarge (size_in t.anchors (after h)) t.shape.soft leaf
    many = subst (λ (m : Pairs (List ℕ)). IsLarge (size_in t.anchors m) t.shape.soft leaf) (sym s.history.map) large

    due : AreAccounted t.shape t.anchors h 0
    due = record {
      anchors = are;
      legal = s.history.legal;
      counted = subst (λ (m : Pairs (List ℕ)). Counted t.anchors (size_in t.anchors m) t.shape.soft (new_keys h) 0 (longest_new h)) (sym s.history.map) s.bounded;
    }

-- where the history with one more entry fits, there is room for a put of any key
pub no_full : (t : Table) (h more : List Entry) (key : List ℕ) (cause : Full) → AreAnchors t.anchors → IsMap t.map → 2 ≤ t.shape.soft → t.shape.soft < t.shape.hard → Stands t h → Fits t.shape (h ++ more) → FullFor t key cause → ⊥
no_full t h more key (Values drawn most) are up soft hard s fits full = no_values t h more s fits full.2
no_full t h more key (Crowded count hard why) are up soft large s fits full =
    let crowd : IsCrowded t key = full.3 in
    let size = crowd.full in
    no_crowd t h more (leaf_of t key) why are soft (omega arith) s fits full.4

-- so no refusal of a put tells it
pub room_for_put : (T : Type 0) (t u : Table) (h more : List Entry) (key : List ℕ) (refusal : Refusal) → IsWhole t → Stands t h → Fits t.shape (h ++ more) → RefusesPut t u key refusal → NotFull {T = T} (Err refusal)
room_for_put T t u h more key (refusals.Again cause) whole s fits refused = absurd refused
room_for_put T t u h more key (refusals.Full cause) whole s fits refused = no_full t h more key cause whole.anchors whole.map whole.ranges.soft.1 whole.ranges.hard.0 s fits refused.0
room_for_put T t u h more key refusals.NoMemory whole s fits refused = tt
