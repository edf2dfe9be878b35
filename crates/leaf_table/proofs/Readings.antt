-- What is read of a table's leaves.
use Rattle.std.proofs.Common.{◌≡◌, ℕ, ◌<◌, List, length, get_or, true, sym, ap, ◌∙◌, subst}
use Rattle.anchor_rules.specs.Anchors.{has_leaf, target}
use Rattle.key_bytes.specs.Fnv.{prefix_hash}
use Rattle.leaf_store.specs.Leaf.{LeafMap}
use Rattle.map_model.specs.Maps.{Pairs, IsMap, find}
use Rattle.meta_trie.specs.Stands.{anchors_of}
use Rattle.row_words.specs.declared.shape.Shape.{Shape}
use Rattle.leaf_table.specs.Leaves.{map_at, table_of, IsLeafTable}
use Rattle.leaf_table.specs.Table.{Table, size_at}
use Rattle.leaf_table.proofs.Leaves.{map_read, salt_read}
use Rattle.leaf_spans.proofs.Spreads.{target_live, spread_ascends, spread_find}
use Rattle.leaf_table.proofs.Standing.{leaf_size}

module _ (k : Shape) (ws : List ℕ) (leaves : List (LeafMap (List ℕ))) (keys : ℕ) (whole : IsLeafTable k ws leaves keys) (t : Table) (is : table_of k ws leaves ≡ t) where
  -- a leaf of the table has its place
  pub live_place : (leaf : ℕ) → has_leaf t.anchors leaf ≡ true → leaf < length leaves
  live_place leaf has = whole.listed leaf (subst (λ (u : Table). has_leaf u.anchors leaf ≡ true) (sym is) has)

  -- the leaf of a key is live
  pub target_here : (leaf : ℕ) (key : List ℕ) → leaf ≡ target t.anchors key → has_leaf t.anchors leaf ≡ true
  target_here leaf key at = subst (λ (u : Table). has_leaf u.anchors leaf ≡ true) is (subst (λ l. has_leaf (anchors_of k ws) l ≡ true) (sym (at ∙ ap (λ (u : Table). target u.anchors key) (sym is))) (target_live (anchors_of k ws) whole.stands.anchors key))

  -- and has its place
  pub target_place : (leaf : ℕ) (key : List ℕ) → leaf ≡ target t.anchors key → leaf < length leaves
  target_place leaf key at = live_place leaf (target_here leaf key at)

  pub size_read : (leaf : ℕ) (d : LeafMap (List ℕ)) → leaf < length leaves → length (get_or leaves leaf d).map ≡ size_at t leaf
  size_read leaf d lt = ap (λ (p : Pairs (List ℕ)). length p) (map_read leaves leaf d lt) ∙ (sym (leaf_size k ws leaves keys whole leaf) ∙ ap (λ (u : Table). size_at u leaf) is)

  -- the leaf's tags are hashed as the key is
  pub hash_read : (leaf hash : ℕ) (key : List ℕ) (d : LeafMap (List ℕ)) → leaf ≡ target t.anchors key → hash ≡ prefix_hash t.shape.salt key → hash ≡ prefix_hash (get_or leaves leaf d).salt key
  hash_read leaf hash key d at by =
      by ∙ (ap (λ (u : Table). prefix_hash u.shape.salt key) (sym is) ∙ ap (λ s. prefix_hash s key) (sym (salt_read leaves k.salt leaf d whole.salts (target_place leaf key at))))

  -- a leaf's pairs ascend
  pub ascending_read : (leaf : ℕ) (key : List ℕ) (d : LeafMap (List ℕ)) → leaf ≡ target t.anchors key → IsMap (get_or leaves leaf d).map
  ascending_read leaf key d at = subst (λ (p : Pairs (List ℕ)). IsMap p) (sym (map_read leaves leaf d (target_place leaf key at))) (spread_ascends (anchors_of k ws) (table_of k ws leaves).map (map_at leaves) whole.spread leaf)

  pub find_read : (leaf : ℕ) (key : List ℕ) (d : LeafMap (List ℕ)) → leaf ≡ target t.anchors key → find (get_or leaves leaf d).map key ≡ find t.map key
  find_read leaf key d at =
      let here : leaf ≡ target (anchors_of k ws) key = at ∙ ap (λ (u : Table). target u.anchors key) (sym is) in
      ap (λ (p : Pairs (List ℕ)). find p key) (map_read leaves leaf d (target_place leaf key at))
      ∙ (ap (λ l. find (map_at leaves l) key) here
      ∙ (sym (spread_find (anchors_of k ws) whole.stands.anchors (table_of k ws leaves).map (map_at leaves) whole.spread key)
      ∙ ap (λ (u : Table). find u.map key) is))
