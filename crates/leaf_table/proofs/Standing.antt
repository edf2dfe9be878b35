-- What rows and leaves stand for, once it is known which anchors and which pairs.
use Rattle.std.proofs.Common.{◌≡◌, ℕ, ◌<◌, ◌≤◌, List, length, true, sym, ap, ◌∙◌, subst}
use Rattle.anchor_rules.specs.Anchors.{Anchors, has_leaf}
use Rattle.leaf_spans.specs.Counting.{AreFew}
use Rattle.leaf_spans.specs.Spread.{Spread, joined}
use Rattle.leaf_spans.proofs.Sizes.{spread_itself, spread_size}
use Rattle.leaf_spans.proofs.Spreads.{spread_joined}
use Rattle.leaf_store.specs.Leaf.{LeafMap}
use Rattle.map_model.specs.Maps.{Pairs}
use Rattle.meta_trie.specs.Stands.{StandsFor, anchors_of}
use Rattle.meta_trie.proofs.LeafRows.{live_leaf}
use Rattle.meta_trie.proofs.OnlyOne.{anchors_of-is}
use Rattle.row_words.specs.declared.shape.Shape.{Shape}
use Rattle.row_words.specs.Shape.{IsShape}
use Rattle.leaf_table.specs.Facts.{IsWhole}
use Rattle.leaf_table.specs.Leaves.{map_at, HaveSalt, AreListed, table_of, IsLeafTable}
use Rattle.leaf_table.specs.Table.{Table, size_at}

module _ (k : Shape) (ws : List ℕ) (leaves : List (LeafMap (List ℕ))) (A : Anchors) (m : Pairs (List ℕ)) (stands : StandsFor k ws A) (spread : Spread A m (map_at leaves)) where
  pub anchors_are : anchors_of k ws ≡ A
  anchors_are = anchors_of-is k ws A stands

  pub map_is : joined (anchors_of k ws) (map_at leaves) ≡ m
  map_is = ap (λ B. joined B (map_at leaves)) anchors_are ∙ spread_joined A stands.anchors m (map_at leaves) spread

  -- the table that they stand for
  pub table_is : table_of k ws leaves ≡ record { shape = k; anchors = A; map = m }
  table_is =
      let new : Anchors → Pairs (List ℕ) → Table = λ B p. record { shape = k; anchors = B; map = p } in
      ap (λ B. new B (joined (anchors_of k ws) (map_at leaves))) anchors_are ∙ ap (new A) map_is

  -- and what holds of them
  pub leaf_table_is : (keys : ℕ) → IsShape k → AreListed A (length leaves) → HaveSalt leaves k.salt → AreFew (λ leaf. length (map_at leaves leaf)) k.hard → keys ≡ length m → IsLeafTable k ws leaves keys
  leaf_table_is keys ranges listed salts few all = record {
    ranges = ranges;
    stands = subst (StandsFor k ws) (sym anchors_are) stands;
    listed = subst (λ B. AreListed B (length leaves)) (sym anchors_are) listed;
    salts = salts;
    spread = subst (λ B. Spread B (joined B (map_at leaves)) (map_at leaves)) (sym anchors_are) (spread_itself A stands.anchors m (map_at leaves) spread);
    few = few;
    all = all ∙ ap length (sym map_is);
  }

module _ (k : Shape) (ws : List ℕ) (leaves : List (LeafMap (List ℕ))) (keys : ℕ) (whole : IsLeafTable k ws leaves keys) where
  -- a leaf's pairs are the map's in its span
  pub leaf_size : (leaf : ℕ) → size_at (table_of k ws leaves) leaf ≡ length (map_at leaves leaf)
  leaf_size leaf = sym (spread_size (anchors_of k ws) (joined (anchors_of k ws) (map_at leaves)) (map_at leaves) whole.spread leaf)

  pub leaf_in_range : (leaf : ℕ) → has_leaf (anchors_of k ws) leaf ≡ true → leaf < k.leaves
  leaf_in_range leaf has = (live_leaf k ws (anchors_of k ws) 0 leaf whole.stands.chained has).0

  pub whole_table : IsWhole (table_of k ws leaves)
  whole_table = record {
    ranges = whole.ranges;
    anchors = whole.stands.anchors;
    leaves = leaf_in_range;
    map = whole.spread.ascends;
    sizes = λ leaf. subst (λ n. n ≤ k.hard) (sym (leaf_size leaf)) (whole.few leaf);
  }
