-- What a whole call leaves of a table, where it is known what it does to the leaves and to the rows.
use Rattle.std.proofs.Common.{◌≡◌, ◌≢◌, ℕ, ◌+◌, ◌*◌, ◌<◌, ◌≤◌, List, [], ◌∷◌, ◌++◌, length, length-append, Bool, true, false, cond, is_some, Option, None, IsSome, ◌⊎◌, inl, inr, refl, sym, ap, ◌∙◌, subst, arith, true≢false}
use Rattle.anchor_rules.specs.Anchors.{Anchors, span, has_leaf, target, Rises, splits, with_split, adjacent, with_merge}
use Rattle.anchor_rules.specs.Items.{first_leaf}
use Rattle.leaf_store.specs.Leaf.{LeafMap}
use Rattle.map_model.specs.Maps.{Pairs, find, with, without, sorted}
use Rattle.meta_trie.specs.Shrinks.{CanMerge}
use Rattle.meta_trie.specs.Stands.{StandsFor, IsFreeLeaf, CanSplit, anchors_of}
use Rattle.meta_trie.proofs.LeafRows.{leaves_fit}
use Rattle.row_words.specs.declared.shape.Shape.{Shape}
use Rattle.row_words.specs.Shape.{IsShape}
use Rattle.leaf_spans.specs.Counting.{AreFew}
use Rattle.leaf_spans.proofs.Merging.{merge_sorted, spread_merge}
use Rattle.map_model.specs.Halves.{lower_half, upper_half, parting}
use Rattle.leaf_table.specs.Changes.{IsSplit, IsMerged}
use Rattle.leaf_table.specs.Leaves.{map_at, HaveSalt, AreListed, table_of, IsLeafTable}
use Rattle.leaf_spans.specs.Spread.{Spread, joined}
use Rattle.leaf_table.specs.Table.{Table, size_at}
use Rattle.anchor_rules.proofs.Neighbours.{first_alone, adjacent_live}
use Rattle.map_model.proofs.Lengths.{length_with, length_without}
use Rattle.leaf_table.proofs.ListedLeaves.{listed_first, listed_more, listed_split, listed_merge}
use Rattle.leaf_table.proofs.Merging.{is_merged}
use Rattle.leaf_spans.proofs.Halving.{parting_splits, spread_split}
use Rattle.leaf_table.proofs.Splitting.{is_split}
use Rattle.leaf_spans.proofs.Spreads.{spread_start, spread_with, spread_without, spread_same, spread_find, spread_ascends}
use Rattle.leaf_spans.proofs.Sizes.{few_with, few_without, few_split, few_merge}
use Rattle.leaf_table.proofs.Standing.{table_is, leaf_table_is, leaf_size}

abbrev one_if : Bool → ℕ
one_if found = cond found 1 0

-- the words and the leaves are a table, namely this one
pub record AreTable (k : Shape) (ws : List ℕ) (leaves : List (LeafMap (List ℕ))) (keys : ℕ) (t : Table) : Type 0 where
  pub whole : IsLeafTable k ws leaves keys
  pub is : table_of k ws leaves ≡ t

stands_as : (k : Shape) (ws : List ℕ) (leaves : List (LeafMap (List ℕ))) (keys : ℕ) (A : Anchors) (m : Pairs (List ℕ)) → IsShape k → StandsFor k ws A → AreListed A (length leaves) → HaveSalt leaves k.salt → Spread A m (map_at leaves)
    → AreFew (λ leaf. length (map_at leaves leaf)) k.hard → keys ≡ length m → AreTable k ws leaves keys (record { shape = k; anchors = A; map = m })
stands_as k ws leaves keys A m ranges stands listed salts spread few all = record {
  whole = leaf_table_is k ws leaves A m stands spread keys ranges listed salts few all;
  is = table_is k ws leaves A m stands spread;
}

-- one leaf of no keys
pub made_stands : (k : Shape) (ws : List ℕ) (leaves : List (LeafMap (List ℕ))) → IsShape k → StandsFor k ws (([], 0) ∷ []) → 0 < length leaves → HaveSalt leaves k.salt → ((leaf : ℕ) → map_at leaves leaf ≡ [])
    → AreTable k ws leaves 0 (record { shape = k; anchors = ([], 0) ∷ []; map = [] })
made_stands k ws leaves ranges stands some salts empty =
    stands_as k ws leaves 0 (([], 0) ∷ []) [] ranges stands (listed_first (length leaves) some) salts (spread_start (map_at leaves) 0 empty) (λ leaf. subst (λ (p : Pairs (List ℕ)). length p ≤ k.hard) (sym (empty leaf)) (omega arith)) refl

module _ (k : Shape) (ws : List ℕ) (leaves : List (LeafMap (List ℕ))) (keys : ℕ) (whole : IsLeafTable k ws leaves keys) where
  -- there are far fewer keys than a counter can hold
  pub keys_bound : keys ≤ 268435456
  keys_bound =
      let most : (leaf : ℕ) → length (map_at leaves leaf) ≤ 4096 = λ leaf. let h : length (map_at leaves leaf) ≤ k.hard = whole.few leaf in let r = whole.ranges.hard.1 in omega (arith, h, r) in
      let sum = total (anchors_of k ws) most in
      let fit = leaves_fit k ws (anchors_of k ws) whole.stands in
      let all = whole.all in
      let range = whole.ranges.leaves.1 in
      omega (arith, sum, fit, all, range)
    where
      total : (B : Anchors) → ((leaf : ℕ) → length (map_at leaves leaf) ≤ 4096) → length (joined B (map_at leaves)) ≤ length B * 4096
      total [] most = omega arith
      total (x ∷ xs) most =
          let here = most x.1 in
          let rest = total xs most in
          let sum = length-append (map_at leaves x.1) (joined xs (map_at leaves)) in
          omega (arith, here, rest, sum)

  -- a key that is found is counted
  pub keys_some : (key : List ℕ) → is_some (find (joined (anchors_of k ws) (map_at leaves)) key) ≡ true → 0 < keys
  keys_some key found =
      let less = length_without (joined (anchors_of k ws) (map_at leaves)) whole.spread.ascends key in
      let one : one_if (is_some (find (joined (anchors_of k ws) (map_at leaves)) key)) ≡ 1 = ap one_if found in
      let all = whole.all in
      omega (arith, less, one, all)

  -- a key is found in its leaf
  pub leaf_find : (leaf : ℕ) (key : List ℕ) → leaf ≡ target (anchors_of k ws) key → find (map_at leaves leaf) key ≡ find (joined (anchors_of k ws) (map_at leaves)) key
  leaf_find leaf key at = ap (λ i. find (map_at leaves i) key) at ∙ sym (spread_find (anchors_of k ws) whole.stands.anchors (joined (anchors_of k ws) (map_at leaves)) (map_at leaves) whole.spread key)

  module _ (new : List (LeafMap (List ℕ))) (count : length leaves ≤ length new) (salts : HaveSalt new k.salt) where
    still_listed : AreListed (anchors_of k ws) (length new)
    still_listed = listed_more (anchors_of k ws) (length leaves) (length new) count whole.listed

    -- the leaves have the pairs that they had
    pub same_stands : ((leaf : ℕ) → map_at new leaf ≡ map_at leaves leaf) → AreTable k ws new keys (table_of k ws leaves)
    same_stands same = stands_as k ws new keys (anchors_of k ws) (joined (anchors_of k ws) (map_at leaves)) whole.ranges whole.stands still_listed salts
        (spread_same (anchors_of k ws) (joined (anchors_of k ws) (map_at leaves)) (map_at leaves) whole.spread (map_at new) same)
        (λ leaf. subst (λ (p : Pairs (List ℕ)). length p ≤ k.hard) (sym (same leaf)) (whole.few leaf)) whole.all

    module _ (leaf : ℕ) (key : List ℕ) (at : leaf ≡ target (anchors_of k ws) key) (others : (other : ℕ) → other ≢ leaf → map_at new other ≡ map_at leaves other) where
      -- a key got a value in its leaf
      pub set_stands : (value : List ℕ) (now : ℕ) → map_at new leaf ≡ with (map_at leaves leaf) key value
          → (size_at (table_of k ws leaves) leaf < k.hard) ⊎ IsSome (find (joined (anchors_of k ws) (map_at leaves)) key)
          → now ≡ cond (is_some (find (joined (anchors_of k ws) (map_at leaves)) key)) keys (keys + 1)
          → AreTable k ws new now (record { shape = k; anchors = anchors_of k ws; map = with (joined (anchors_of k ws) (map_at leaves)) key value })
      set_stands value now change room counted =
          let A = anchors_of k ws in
          let m = joined A (map_at leaves) in
          stands_as k ws new now A (with m key value) whole.ranges whole.stands still_listed salts
          (spread_with A whole.stands.anchors m (map_at leaves) whole.spread (map_at new) leaf key value (sym at) change others)
          (few_with (map_at leaves) (map_at new) k.hard leaf whole.few others key value (spread_ascends A m (map_at leaves) whole.spread leaf) (has_room room) change)
          (counted ∙ (ap (λ n. cond (is_some (find m key)) n (n + 1)) whole.all ∙ sym (length_with m whole.spread.ascends key value)))
        where
          has_room : (size_at (table_of k ws leaves) leaf < k.hard) ⊎ IsSome (find (joined (anchors_of k ws) (map_at leaves)) key) → (length (map_at leaves leaf) < k.hard) ⊎ IsSome (find (map_at leaves leaf) key)
          has_room (inl less) = inl (subst (λ n. n < k.hard) (leaf_size k ws leaves keys whole leaf) less)
          has_room (inr some) = inr (subst (λ (o : Option (List ℕ)). IsSome o) (sym (leaf_find leaf key at)) some)

      -- a key went from its leaf
      pub remove_stands : (now : ℕ) → map_at new leaf ≡ without (map_at leaves leaf) key
          → now + cond (is_some (find (joined (anchors_of k ws) (map_at leaves)) key)) 1 0 ≡ keys
          → AreTable k ws new now (record { shape = k; anchors = anchors_of k ws; map = without (joined (anchors_of k ws) (map_at leaves)) key })
      remove_stands now change counted =
          let A = anchors_of k ws in
          let m = joined A (map_at leaves) in
          let less = length_without m whole.spread.ascends key in
          let all = whole.all in
          stands_as k ws new now A (without m key) whole.ranges whole.stands still_listed salts
          (spread_without A whole.stands.anchors m (map_at leaves) whole.spread (map_at new) leaf key (sym at) change others)
          (few_without (map_at leaves) (map_at new) k.hard leaf whole.few others key (spread_ascends A m (map_at leaves) whole.spread leaf) change)
          (omega (arith, counted, less, all))

    module _ (rows : List ℕ) (l r : ℕ) (others : (other : ℕ) → other ≢ l → other ≢ r → map_at new other ≡ map_at leaves other) where
      -- a leaf gave its upper half to one that wasn't live
      pub split_stands : has_leaf (anchors_of k ws) l ≡ true → r < length new → 1 < length (map_at leaves l) → IsFreeLeaf k (anchors_of k ws) r → StandsFor k rows (with_split (anchors_of k ws) l (parting (map_at leaves l)) r)
          → map_at new l ≡ lower_half (map_at leaves l) → map_at new r ≡ upper_half (map_at leaves l)
          → IsLeafTable k rows new keys × IsSplit (table_of k ws leaves) (table_of k rows new) l
      split_stands live place many free stands stay go =
          let A = anchors_of k ws in
          let m = joined A (map_at leaves) in
          let parts = whole.spread.parts l in
          let some : 1 < size_at (table_of k ws leaves) l = subst (λ (p : Pairs (List ℕ)). 1 < length p) parts many in
          let s : AreTable k rows new keys (record { shape = k; anchors = with_split A l (parting (map_at leaves l)) r; map = m }) =
          stands_as k rows new keys (with_split A l (parting (map_at leaves l)) r) m whole.ranges stands (listed_split A l (parting (map_at leaves l)) r (length new) live place still_listed) salts
          (spread_split A m (map_at leaves) (map_at new) l r whole.spread many free.dead stay go others)
          (few_split (map_at leaves) (map_at new) k.hard l r whole.few others stay go) whole.all in
          (s.whole, is_split (table_of k ws leaves) (table_of k rows new) l r whole.spread.ascends some free refl (ap (λ (t : Table). t.anchors) s.is ∙ ap (λ p. with_split A l (parting p) r) parts) (ap (λ (t : Table). t.map) s.is))

      -- a leaf took the keys of the next one
      pub merge_stands : adjacent (anchors_of k ws) l r ≡ true → length (map_at leaves l) + length (map_at leaves r) ≤ k.hard → StandsFor k rows (with_merge (anchors_of k ws) r)
          → map_at new l ≡ sorted (map_at leaves l ++ map_at leaves r) → map_at new r ≡ []
          → IsLeafTable k rows new keys × IsMerged (table_of k ws leaves) (table_of k rows new) l r
      merge_stands next room stands taken emptied =
          let A = anchors_of k ws in
          let m = joined A (map_at leaves) in
          let both : map_at new l ≡ map_at leaves l ++ map_at leaves r = taken ∙ merge_sorted A m (map_at leaves) l r whole.stands.anchors.rises whole.spread next in
          let s : AreTable k rows new keys (record { shape = k; anchors = with_merge A r; map = m }) =
          stands_as k rows new keys (with_merge A r) m whole.ranges stands (listed_merge A r (length new) still_listed) salts
          (spread_merge A m (map_at leaves) l r whole.stands.anchors.rises whole.spread next (map_at new) both emptied others)
          (few_merge (map_at leaves) (map_at new) k.hard l r whole.few others room both emptied) whole.all in
          (s.whole, is_merged (table_of k ws leaves) (table_of k rows new) l r whole.stands.anchors whole.spread.ascends next refl (ap (λ (t : Table). t.anchors) s.is) (ap (λ (t : Table). t.map) s.is))

  -- a split at the parting anchor can be entered in the rows
  pub can_split : (l r : ℕ) → 1 < length (map_at leaves l) → has_leaf (anchors_of k ws) r ≡ false → CanSplit k ws l (parting (map_at leaves l)) r
  can_split l r many dead =
      let A = anchors_of k ws in
      let m = joined A (map_at leaves) in
      let parts = whole.spread.parts l in
      (A, (whole.stands, subst (λ (p : Pairs (List ℕ)). splits A l (parting p) r ≡ true) (sym parts) (parting_splits A m l r whole.spread.ascends (subst (λ (p : Pairs (List ℕ)). 1 < length p) parts many) dead)))

  -- and so can a merge
  pub can_merge : (l r : ℕ) → adjacent (anchors_of k ws) l r ≡ true → CanMerge k ws r
  can_merge l r next = (anchors_of k ws, (whole.stands, (adjacent_live (anchors_of k ws) l r whole.stands.anchors.rises next).1, not_first (anchors_of k ws) whole.stands.anchors.rises whole.stands.zero next))
    where
      not_first : (A : Anchors) → Rises A → first_leaf A ≡ 0 → adjacent A l r ≡ true → r ≢ 0
      not_first [] rises first e = absurd (true≢false (sym e))
      not_first (x ∷ xs) rises first e = λ zero_is. true≢false (sym e ∙ first_alone x xs r l (subst (λ i. span xs i ≡ None) (first ∙ sym zero_is) rises.1))
