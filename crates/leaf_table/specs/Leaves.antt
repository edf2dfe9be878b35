-- What holds of the rows and the leaves of a table.
use Rattle.std.specs.Prelude.{◌≡◌, ℕ, ◌<◌, List, [], length, true, slice_index_or}
use Rattle.std.specs.List.{All}
use Rattle.anchor_rules.specs.Anchors.{Anchors, has_leaf}
use Rattle.leaf_spans.specs.Counting.{AreFew}
use Rattle.leaf_store.specs.Leaf.{LeafMap}
use Rattle.map_model.specs.Maps.{Pairs}
use Rattle.meta_trie.specs.Stands.{StandsFor, anchors_of}
use Rattle.row_words.specs.declared.shape.Shape.{Shape}
use Rattle.row_words.specs.Shape.{IsShape}
use Rattle.leaf_spans.specs.Spread.{Spread, joined}
use Rattle.leaf_table.specs.Table.{Table}

-- what is read past the last leaf: no pairs
abbrev pub no_leaf : LeafMap (List ℕ)
no_leaf = record { map = []; keys = []; spare = 0; salt = 0; is_ordered = true }

-- the pairs of a leaf by its number
abbrev pub map_at : List (LeafMap (List ℕ)) → ℕ → Pairs (List ℕ)
map_at leaves leaf = (slice_index_or leaves leaf no_leaf).map

-- the tags of each leaf are hashed with this salt
abbrev pub HaveSalt : List (LeafMap (List ℕ)) → ℕ → Type 0
HaveSalt leaves salt = All (λ (l : LeafMap (List ℕ)). l.salt ≡ salt) leaves

-- each live leaf has its place among so many leaves
abbrev pub AreListed : Anchors → ℕ → Type 0
AreListed A n = (leaf : ℕ) → has_leaf A leaf ≡ true → leaf < n

-- the table that words and leaves stand for
abbrev pub table_of : Shape → List ℕ → List (LeafMap (List ℕ)) → Table
table_of k ws leaves = record { shape = k; anchors = anchors_of k ws; map = joined (anchors_of k ws) (map_at leaves) }

-- The words stand for anchors, whose leaves have their places, and the map's pairs are spread over the leaves by these;
-- no leaf has too many keys, and all have the salt of the shape.
pub record IsLeafTable (k : Shape) (ws : List ℕ) (leaves : List (LeafMap (List ℕ))) (keys : ℕ) : Type 0 where
  pub ranges : IsShape k
  pub stands : StandsFor k ws (anchors_of k ws)
  pub listed : AreListed (anchors_of k ws) (length leaves)
  pub salts : HaveSalt leaves k.salt
  pub spread : Spread (anchors_of k ws) (joined (anchors_of k ws) (map_at leaves)) (map_at leaves)
  pub few : AreFew (λ leaf. length (map_at leaves leaf)) k.hard
  pub all : keys ≡ length (joined (anchors_of k ws) (map_at leaves))

-- all leaves below a number are live
abbrev pub AreLive : Anchors → ℕ → Type 0
AreLive A n = (leaf : ℕ) → leaf < n → has_leaf A leaf ≡ true
