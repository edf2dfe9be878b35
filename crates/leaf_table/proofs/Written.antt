-- A table of which one leaf was written.
use Rattle.std.proofs.Common.{◌≡◌, ◌≢◌, ℕ, zero, suc, ◌+◌, ◌<◌, ◌≤◌, List, [], ◌++◌, length, get_or, Bool, true, false, cond, not, is_some, Option, None, IsSome, Result, Ok, Err, ◌⊎◌, inl, inr, ◌-◌, refl, sym, ap, ◌∙◌, subst, arith, true≢false}
use mathlib.Core.Logic.{dite}
use native.Mathlib.Decide.{ℕ_discrete}
use Rattle.std.specs.Prelude.{slice_set, OnErr, IfErr}
use Rattle.std.specs.Result.{IsErrAnd}
use Rattle.std.proofs.lemmas.List.{length-set}
use Rattle.std.specs.declared.cmp.Ordering.TheVariants.{Less}
use Rattle.key_bytes.specs.Bound.{bound_cmp}
use Rattle.key_bytes.specs.declared.bound.Bound.{Bound}
use Rattle.anchor_rules.specs.Anchors.{Anchors, Span, has_leaf, with_split, with_merge, adjacent, target}
use Rattle.leaf_store.specs.Leaf.{LeafMap}
use Rattle.map_model.proofs.Filters.{length_keep}
use Rattle.map_model.specs.Maps.{Pairs, find, with, without, between, is_in, sorted}
use Rattle.map_model.specs.declared.refusal.TableFull.{TableFull}
use Rattle.meta_trie.specs.Shrinks.{CanMerge}
use Rattle.meta_trie.specs.Stands.{StandsFor, IsFreeLeaf, AreLeavesFull, AreItemsFull, CanSplit, anchors_of}
use Rattle.prefix_search.specs.Search.{IsFollowed}
use Rattle.row_words.specs.declared.shape.Shape.{Shape}
use Rattle.map_model.specs.Halves.{lower_half, upper_half, parting}
use Rattle.leaf_table.specs.Changes.{IsSplit, IsMerged, HasNoRoom}
use Rattle.leaf_spans.specs.Ends.{leaf_from, part_end}
use Rattle.leaf_table.specs.Leaves.{map_at, HaveSalt, table_of, IsLeafTable}
use Rattle.leaf_table.specs.Table.{Table, pairs_at, size_at}
use Rattle.leaf_table.proofs.Leaves.{map_read, map_written, map_unwritten, salt_read, salt_written}
use Rattle.anchor_rules.proofs.Neighbours.{adjacent_live, adjacent_apart}
use Rattle.leaf_spans.proofs.Merging.{merge_apart}
use Rattle.leaf_spans.proofs.PartEnds.{part_pairs, part_end_above}
use Rattle.leaf_table.proofs.Standing.{leaf_size}
use Rattle.leaf_table.proofs.WholeCalls.{AreTable, keys_some, same_stands, set_stands, remove_stands, split_stands, merge_stands, can_split, can_merge}

-- what holds anyway holds where there is an error
pub on_err : {T E P : Type 0} → (r : Result T E) → P → OnErr r P
on_err (Ok x) p = tt
on_err (Err e) p = p

pub if_err : {T E : Type 0} → (r : Result T E) (fault : E) (P : E → Type 0) → IsErrAnd r (λ f. f ≡ fault) → P fault → IfErr r P
if_err (Ok x) fault P is p = tt
if_err (Err e) fault P is p = subst P (sym is) p

-- the count of keys, one more where the key wasn't there
pub count_new : (there : Bool) (keys : ℕ) → not there ≡ true → keys + 1 ≡ cond there keys (keys + 1)
count_new true keys e = absurd (true≢false (sym e))
count_new false keys e = refl

pub count_old : (there : Bool) (keys : ℕ) → not there ≡ false → keys ≡ cond there keys (keys + 1)
count_old true keys e = refl
count_old false keys e = absurd (true≢false e)

-- and one less where it was
pub count_less : (there : Bool) (keys : ℕ) → there ≡ true → 0 < keys → keys - 1 + cond there 1 0 ≡ keys
count_less true keys e some = omega (arith, some)
count_less false keys e some = absurd (true≢false (sym e))

pub count_same : (there : Bool) (keys : ℕ) → there ≡ false → keys + cond there 1 0 ≡ keys
count_same true keys e = absurd (true≢false e)
count_same false keys e = omega arith

-- rows with other words that are the same
pub moved : (k same_k : Shape) (ws same_ws : List ℕ) (leaves : List (LeafMap (List ℕ))) (keys : ℕ) (t : Table) → same_k ≡ k → same_ws ≡ ws → AreTable k ws leaves keys t → AreTable same_k same_ws leaves keys t
moved k same_k ws same_ws leaves keys t e f are = subst (λ (j : Shape). AreTable j same_ws leaves keys t) (sym e) (subst (λ w. AreTable k w leaves keys t) (sym f) are)

-- and with room for as many elements
pub room_moved : (k same_k : Shape) (cap same_cap : ℕ) → same_k ≡ k → same_cap ≡ cap → k.leaves ≤ cap → same_k.leaves ≤ same_cap
room_moved k same_k cap same_cap e f room = let n = ap (λ (j : Shape). j.leaves) e in omega (arith, n, f, room)

pub moved_split : (k same_k : Shape) (ws same_ws : List ℕ) (left right : ℕ) (anchor : List ℕ) → same_k ≡ k → same_ws ≡ ws → CanSplit k ws left anchor right → CanSplit same_k same_ws left anchor right
moved_split k same_k ws same_ws left right anchor e f can = subst (λ (j : Shape). CanSplit j same_ws left anchor right) (sym e) (subst (λ w. CanSplit k w left anchor right) (sym f) can)

-- rows with the same shape and words stand for the same anchors
same_anchors : (k same_k : Shape) (ws same_ws : List ℕ) (A : Anchors) → same_k ≡ k → same_ws ≡ ws → StandsFor k ws A → StandsFor same_k same_ws A
same_anchors k same_k ws same_ws A shape words s = subst (λ (x : Shape). StandsFor x same_ws A) (sym shape) (subst (λ (l : List ℕ). StandsFor k l A) (sym words) s)

-- so what a split told of these rows it told of those
pub split_told : (k same_k : Shape) (ws same_ws new_ws : List ℕ) (left right : ℕ) (anchor : List ℕ) → same_k ≡ k → same_ws ≡ ws → ((A : Anchors) → StandsFor same_k same_ws A → StandsFor same_k new_ws (with_split A left anchor right)) → (A : Anchors) → StandsFor k ws A → StandsFor k new_ws (with_split A left anchor right)
split_told k same_k ws same_ws new_ws left right anchor shape words told A s = subst (λ (x : Shape). StandsFor x new_ws (with_split A left anchor right)) shape (told A (same_anchors k same_k ws same_ws A shape words s))

pub full_told : (k same_k : Shape) (ws same_ws : List ℕ) (left : ℕ) (anchor : List ℕ) (full : TableFull) → same_k ≡ k → same_ws ≡ ws → ((A : Anchors) → StandsFor same_k same_ws A → AreItemsFull same_k A left anchor full) → (A : Anchors) → StandsFor k ws A → AreItemsFull k A left anchor full
full_told k same_k ws same_ws left anchor full shape words told A s = subst (λ (x : Shape). AreItemsFull x A left anchor full) shape (told A (same_anchors k same_k ws same_ws A shape words s))

module _ (k : Shape) (ws : List ℕ) (leaves : List (LeafMap (List ℕ))) (keys : ℕ) (whole : IsLeafTable k ws leaves keys) where
  module _ (leaf : ℕ) (l old : LeafMap (List ℕ)) (lt : leaf < length leaves) (was : old ≡ get_or leaves leaf old) (salt : l.salt ≡ old.salt) where
    was_map : old.map ≡ map_at leaves leaf
    was_map = ap (λ (x : LeafMap (List ℕ)). x.map) was ∙ map_read leaves leaf old lt

    -- all leaves have the salt that they had
    salts_after : HaveSalt (slice_set leaves leaf l) k.salt
    salts_after = salt_written leaves k.salt leaf l whole.salts (salt ∙ (ap (λ (x : LeafMap (List ℕ)). x.salt) was ∙ salt_read leaves k.salt leaf old whole.salts lt))

    no_fewer : length leaves ≤ length (slice_set leaves leaf l)
    no_fewer = let n = length-set leaves leaf l in omega (arith, n)

    -- the same pairs
    same_maps : l.map ≡ old.map → (other : ℕ) → map_at (slice_set leaves leaf l) other ≡ map_at leaves other
    same_maps same other = dite (ℕ_discrete other leaf)
        (λ e. subst (λ i. map_at (slice_set leaves leaf l) i ≡ map_at leaves i) (sym e) (map_written leaves leaf l lt ∙ (same ∙ was_map)))
        (λ ne. map_unwritten leaves leaf l other ne)

    same_written_is : l.map ≡ old.map → AreTable k ws (slice_set leaves leaf l) keys (table_of k ws leaves)
    same_written_is same = same_stands k ws leaves keys whole (slice_set leaves leaf l) no_fewer salts_after (same_maps same)

    set_written_is : (key value : List ℕ) (now : ℕ) → leaf ≡ target (anchors_of k ws) key → l.map ≡ with old.map key value
        → (size_at (table_of k ws leaves) leaf < k.hard) ⊎ IsSome (find (table_of k ws leaves).map key)
        → now ≡ cond (is_some (find (table_of k ws leaves).map key)) keys (keys + 1)
        → AreTable k ws (slice_set leaves leaf l) now (record { shape = k; anchors = anchors_of k ws; map = with (table_of k ws leaves).map key value })
    set_written_is key value now at change room counted =
        set_stands k ws leaves keys whole (slice_set leaves leaf l) no_fewer salts_after leaf key at (map_unwritten leaves leaf l) value now
        (map_written leaves leaf l lt ∙ (change ∙ ap (λ (p : Pairs (List ℕ)). with p key value) was_map)) room counted

    remove_written_is : (key : List ℕ) (now : ℕ) → leaf ≡ target (anchors_of k ws) key → l.map ≡ without old.map key
        → now + cond (is_some (find (table_of k ws leaves).map key)) 1 0 ≡ keys
        → AreTable k ws (slice_set leaves leaf l) now (record { shape = k; anchors = anchors_of k ws; map = without (table_of k ws leaves).map key })
    remove_written_is key now at change counted =
        remove_stands k ws leaves keys whole (slice_set leaves leaf l) no_fewer salts_after leaf key at (map_unwritten leaves leaf l) now
        (map_written leaves leaf l lt ∙ (change ∙ ap (λ (p : Pairs (List ℕ)). without p key) was_map)) counted

    -- the leaf gave its upper half away, behind a parting anchor
    halved_is : (rows : List ℕ) (new : List (LeafMap (List ℕ))) (right : ℕ) (anchor : List ℕ) → has_leaf (anchors_of k ws) leaf ≡ true → l.map ≡ old.map → 2 ≤ length old.map → IsFreeLeaf k (anchors_of k ws) right
        → anchor ≡ parting old.map → StandsFor k rows (with_split (anchors_of k ws) leaf anchor right) → right < length new → length (slice_set leaves leaf l) ≤ length new → (HaveSalt (slice_set leaves leaf l) k.salt → HaveSalt new k.salt)
        → map_at new leaf ≡ lower_half (map_at (slice_set leaves leaf l) leaf)
        → map_at new right ≡ upper_half (map_at (slice_set leaves leaf l) leaf)
        → ((other : ℕ) → other ≢ leaf → other ≢ right → map_at new other ≡ map_at (slice_set leaves leaf l) other)
        → IsLeafTable k rows new keys × IsSplit (table_of k ws leaves) (table_of k rows new) leaf
    halved_is rows new right anchor live same two free by stands place count salts stay go others =
        let kept = same_written_is same in
        let here : map_at (slice_set leaves leaf l) leaf ≡ old.map = map_written leaves leaf l lt ∙ same in
        let s = split_stands k ws (slice_set leaves leaf l) keys kept.whole new count (salts salts_after) rows leaf right others live place
        (subst (λ (p : Pairs (List ℕ)). 1 < length p) (sym here) (omega (arith, two))) free
        (subst (λ a. StandsFor k rows (with_split (anchors_of k ws) leaf a right)) (by ∙ ap parting (sym here)) stands) stay go in
        (s.0, subst (λ (u : Table). IsSplit u (table_of k rows new) leaf) kept.is s.1)

  module _ (t : Table) (is : table_of k ws leaves ≡ t) (leaf : ℕ) (l old : LeafMap (List ℕ)) (lt : leaf < length leaves) (was : old ≡ get_or leaves leaf old) (salt : l.salt ≡ old.salt) where
    -- the leaf has the pairs that it had
    pub same_written : l.map ≡ old.map → AreTable k ws (slice_set leaves leaf l) keys t
    same_written same = subst (λ (u : Table). AreTable k ws (slice_set leaves leaf l) keys u) is (same_written_is leaf l old lt was salt same)

    -- a key of the leaf has this value
    pub set_written : (key value : List ℕ) (now : ℕ) → leaf ≡ target t.anchors key → l.map ≡ with old.map key value
        → (size_at t leaf < t.shape.hard) ⊎ IsSome (find t.map key)
        → now ≡ cond (is_some (find t.map key)) keys (keys + 1)
        → AreTable k ws (slice_set leaves leaf l) now (record { shape = t.shape; anchors = t.anchors; map = with t.map key value })
    set_written key value now = subst (λ (u : Table). leaf ≡ target u.anchors key → l.map ≡ with old.map key value
        → (size_at u leaf < u.shape.hard) ⊎ IsSome (find u.map key)
        → now ≡ cond (is_some (find u.map key)) keys (keys + 1)
        → AreTable k ws (slice_set leaves leaf l) now (record { shape = u.shape; anchors = u.anchors; map = with u.map key value })) is (set_written_is leaf l old lt was salt key value now)

    -- a key of the leaf is gone
    pub remove_written : (key : List ℕ) (now : ℕ) → leaf ≡ target t.anchors key → l.map ≡ without old.map key
        → now + cond (is_some (find t.map key)) 1 0 ≡ keys
        → AreTable k ws (slice_set leaves leaf l) now (record { shape = t.shape; anchors = t.anchors; map = without t.map key })
    remove_written key now = subst (λ (u : Table). leaf ≡ target u.anchors key → l.map ≡ without old.map key
        → now + cond (is_some (find u.map key)) 1 0 ≡ keys
        → AreTable k ws (slice_set leaves leaf l) now (record { shape = u.shape; anchors = u.anchors; map = without u.map key })) is (remove_written_is leaf l old lt was salt key now)

    -- the leaf is halved
    pub halved : (same_k : Shape) (rows : List ℕ) (new : List (LeafMap (List ℕ))) (right : ℕ) (anchor : List ℕ) → same_k ≡ k → has_leaf t.anchors leaf ≡ true → l.map ≡ old.map → 2 ≤ length old.map → IsFreeLeaf k (anchors_of k ws) right
        → anchor ≡ parting old.map → StandsFor k rows (with_split (anchors_of k ws) leaf anchor right) → right < length new → length (slice_set leaves leaf l) ≤ length new → (HaveSalt (slice_set leaves leaf l) k.salt → HaveSalt new k.salt)
        → map_at new leaf ≡ lower_half (map_at (slice_set leaves leaf l) leaf)
        → map_at new right ≡ upper_half (map_at (slice_set leaves leaf l) leaf)
        → ((other : ℕ) → other ≢ leaf → other ≢ right → map_at new other ≡ map_at (slice_set leaves leaf l) other)
        → IsLeafTable same_k rows new keys × IsSplit t (table_of same_k rows new) leaf
    halved same_k rows new right anchor e live same two free by stands place count salts stay go others =
        let s = halved_is leaf l old lt was salt rows new right anchor (subst (λ (u : Table). has_leaf u.anchors leaf ≡ true) (sym is) live) same two free by stands place count salts stay go others in
        subst (λ (j : Shape). IsLeafTable j rows new keys × IsSplit t (table_of j rows new) leaf) (sym e) (s.0, subst (λ (u : Table). IsSplit u (table_of k rows new) leaf) is s.1)

    -- the parting anchor can stand behind the leaf's
    pub parts : (right : ℕ) (anchor : List ℕ) → 2 ≤ length old.map → IsFreeLeaf k (anchors_of k ws) right → anchor ≡ parting old.map → CanSplit k ws leaf anchor right
    parts right anchor two free by =
        let here = was_map leaf l old lt was salt in
        subst (λ a. CanSplit k ws leaf a right) (ap parting (sym here) ∙ sym by) (can_split k ws leaves keys whole leaf right (subst (λ (p : Pairs (List ℕ)). 1 < length p) here (omega (arith, two))) free.dead)

    -- the items for the parting anchor are wanting
    pub lacks_items : (right : ℕ) (anchor : List ℕ) (why : TableFull) → IsFreeLeaf k (anchors_of k ws) right → anchor ≡ parting old.map → AreItemsFull k (anchors_of k ws) leaf anchor why → HasNoRoom t leaf why
    lacks_items right anchor why free by full =
        let here : anchor ≡ parting (pairs_at (table_of k ws leaves) leaf) = by ∙ ap parting (was_map leaf l old lt was salt ∙ whole.spread.parts leaf) in
        subst (λ (u : Table). HasNoRoom u leaf why) is (inr (right, free, subst (λ a. AreItemsFull k (anchors_of k ws) leaf a why) here full))

    -- a part is found in the leaf of its lower end
    pub part_found : (from to upto : Bound) → bound_cmp from to ≡ Less → leaf ≡ leaf_from (anchors_of k ws) from → upto ≡ part_end (anchors_of k ws) from to → between old.map from upto ≡ between t.map from upto
    part_found from to upto less at end =
        let A = anchors_of k ws in
        let m = (table_of k ws leaves).map in
        ap (λ (p : Pairs (List ℕ)). between p from upto) (was_map leaf l old lt was salt ∙ ap (λ i. map_at leaves i) at)
        ∙ (ap (λ b. between (map_at leaves (leaf_from A from)) from b) end
        ∙ (sym (part_pairs A whole.stands.anchors m (map_at leaves) whole.spread from to less)
        ∙ (ap (λ b. between m from b) (sym end) ∙ ap (λ (u : Table). between u.map from upto) is)))

    pub part_few : (from upto : Bound) → length (between old.map from upto) ≤ t.shape.hard
    part_few from upto =
        let few = length_keep (is_in from upto) old.map in
        let here : length old.map ≡ length (map_at leaves leaf) = ap (λ (p : Pairs (List ℕ)). length p) (was_map leaf l old lt was salt) in
        let all : length (map_at leaves leaf) ≤ k.hard = whole.few leaf in
        subst (λ (u : Table). length (between old.map from upto) ≤ u.shape.hard) is (omega (arith, few, here, all))

  -- the least leaf that isn't live has its place, or is the next one to get one
  pub free_next : (right : ℕ) → IsFreeLeaf k (anchors_of k ws) right → right ≤ length leaves
  free_next zero free = omega arith
  free_next (suc n) free = let lt = whole.listed n (free.least n (omega arith)) in omega (arith, lt)

  -- a leaf that is followed has its place
  pub followed_place : (leaf : ℕ) (next : Option (List ℕ)) → IsFollowed (anchors_of k ws) leaf next → leaf < length leaves
  followed_place leaf next follows = whole.listed leaf (ap (λ (s : Option Span). is_some s) follows.1)

  module _ (t : Table) (is : table_of k ws leaves ≡ t) where
    -- all leaves are live
    pub lacks_leaves : (leaf : ℕ) (why : TableFull) → AreLeavesFull k (anchors_of k ws) why → HasNoRoom t leaf why
    lacks_leaves leaf why full = subst (λ (u : Table). HasNoRoom u leaf why) is (inl full)

    -- the end of a part is above its start
    pub part_above : (from to : Bound) → bound_cmp from to ≡ Less → bound_cmp from (part_end (anchors_of k ws) from to) ≡ Less
    part_above from to less = part_end_above (anchors_of k ws) whole.stands.anchors from to less

    module _ (l r : ℕ) (next : adjacent t.anchors l r ≡ true) where
      next_is : adjacent (anchors_of k ws) l r ≡ true
      next_is = subst (λ (u : Table). adjacent u.anchors l r ≡ true) (sym is) next

      -- neighbours have their places
      pub left_place : l < length leaves
      left_place = whole.listed l (adjacent_live (anchors_of k ws) l r whole.stands.anchors.rises next_is).0

      pub right_place : r < length leaves
      right_place = whole.listed r (adjacent_live (anchors_of k ws) l r whole.stands.anchors.rises next_is).1

      pub beside_apart : l ≢ r
      beside_apart = adjacent_apart (anchors_of k ws) l r whole.stands.anchors.rises next_is

      -- they have no key in common
      pub beside_keys : (key : List ℕ) → (find (map_at leaves l) key ≡ None) ⊎ (find (map_at leaves r) key ≡ None)
      beside_keys = merge_apart (anchors_of k ws) (table_of k ws leaves).map (map_at leaves) l r whole.stands.anchors whole.spread beside_apart

      pub beside_merges : CanMerge k ws r
      beside_merges = can_merge k ws leaves keys whole l r next_is

      -- the left one has the keys of both
      pub merged : (same_k : Shape) (rows : List ℕ) (new : List (LeafMap (List ℕ))) → same_k ≡ k → size_at t l + size_at t r ≤ t.shape.hard → StandsFor k rows (with_merge (anchors_of k ws) r)
          → length new ≡ length leaves → HaveSalt new k.salt → map_at new l ≡ sorted (map_at leaves l ++ map_at leaves r) → map_at new r ≡ []
          → ((other : ℕ) → other ≢ l → other ≢ r → map_at new other ≡ map_at leaves other)
          → IsLeafTable same_k rows new keys × IsMerged t (table_of same_k rows new) l r
      merged same_k rows new e room stands count salts taken emptied others =
          let few = subst (λ (u : Table). size_at u l + size_at u r ≤ u.shape.hard) (sym is) room in
          let left = leaf_size k ws leaves keys whole l in
          let right = leaf_size k ws leaves keys whole r in
          let s = merge_stands k ws leaves keys whole new (omega (arith, count)) salts rows l r others next_is (omega (arith, few, left, right)) stands taken emptied in
          subst (λ (j : Shape). IsLeafTable j rows new keys × IsMerged t (table_of j rows new) l r) (sym e) (s.0, subst (λ (u : Table). IsMerged u (table_of k rows new) l r) is s.1)

    -- all leaves have the pairs that they had
    pub unchanged : (new : List (LeafMap (List ℕ))) → length new ≡ length leaves → HaveSalt new k.salt → ((leaf : ℕ) → map_at new leaf ≡ map_at leaves leaf) → AreTable k ws new keys t
    unchanged new count salts same = subst (λ (u : Table). AreTable k ws new keys u) is (same_stands k ws leaves keys whole new (omega (arith, count)) salts same)

  -- a key that is found is counted
  pub counted_some : (t : Table) → table_of k ws leaves ≡ t → (key : List ℕ) → is_some (find t.map key) ≡ true → 0 < keys
  counted_some t is key some = keys_some k ws leaves keys whole key (subst (λ (u : Table). is_some (find u.map key) ≡ true) (sym is) some)
