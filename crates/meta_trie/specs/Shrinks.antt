-- An anchor that goes, and the map of items while its prefixes are taken out.
use Rattle.std.specs.Prelude.{ℕ, ◌≡◌, ◌≢◌, ◌+◌, ◌-◌, ◌<◌, ◌≤◌, List, [], ◌∷◌, ◌++◌, length, max, Bool, true, not, ◌&&◌, ◌||◌, Option, Some, slice_index, if◌then◌else◌}
use Rattle.key_bytes.specs.Common.{lcp}
use Rattle.key_bytes.specs.Order.{is_same}
use Rattle.anchor_rules.specs.Anchors.{Anchors, AreAnchors, span, has_leaf, with_merge}
use Rattle.anchor_rules.specs.Items.{Item, begins, leaf_after, shared}
use Rattle.row_words.specs.declared.shape.Shape.{Shape}
use Rattle.row_words.specs.Layout.{leaf_word, rows_begin}
use Rattle.row_words.specs.Decode.{mark_at, anchor_at, previous_at, next_at, IsLive}
use Rattle.row_words.specs.declared.layout.TheConstants.{LONGEST_ANCHOR, HEADER_WORDS, LONGEST_WORD, LIVE_WORD, LEAF_WORDS, MARK_PART, PREVIOUS_PART, NEXT_PART}
use Rattle.meta_trie.specs.Trie.{Holds, used_of}
use Rattle.meta_trie.specs.Stands.{StandsFor, prefix_count}
use Rattle.meta_trie.specs.Grows.{mixed, back_count}

-- the words stand for anchors among which this leaf's isn't the first one
abbrev pub CanMerge : Shape → List ℕ → ℕ → Type 0
CanMerge k ws leaf = (A : Anchors) × (StandsFor k ws A × (has_leaf A leaf ≡ true) × (leaf ≢ 0))

-- a leaf's anchor a with its neighbours: the leaf and the anchor before it, the leaf after it and the next anchor, and
-- how many prefixes of a each of the two has
pub record Shrinks (A : Anchors) (leaf : ℕ) (lo a : List ℕ) (hi : Option (List ℕ)) (left after front back : ℕ) : Type 0 where
  pub are : AreAnchors A
  pub at : span A left ≡ Some (lo, Some a)
  pub gone : span A leaf ≡ Some (a, hi)
  pub short : length a < LONGEST_ANCHOR + 1
  pub after_is : after ≡ leaf_after A leaf
  pub front_is : front ≡ lcp lo a + 1
  pub back_is : back ≡ back_count a hi

-- the item of a prefix p of a, which is no anchor any more: its first leaf and its last one are kept, or are those of the
-- neighbours, and a's byte behind p is kept or taken out
abbrev pub shrunk_by : (p a : List ℕ) (left after : ℕ) (keeps_first keeps_last keeps_child : Bool) → Item → Item
shrunk_by p a left after keeps_first keeps_last keeps_child it = record {
  is_anchor = it.is_anchor && not (is_same p a);
  leftmost = if keeps_first then it.leftmost else after;
  rightmost = if keeps_last then it.rightmost else left;
  child = λ c. it.child c && (keeps_child || not (begins (p ++ c ∷ []) a));
}

-- the prefixes of a that are shorter than n are as they are without a
pub record Shrinking (k : Shape) (ws : List ℕ) (A : Anchors) (leaf : ℕ) (lo a : List ℕ) (hi : Option (List ℕ)) (n : ℕ) : Type 0 where
  pub trie : Holds k ws (mixed A (with_merge A leaf) a n)
  pub root : trie.owner 0 ≡ Some []
  pub beside : (end : List ℕ) → hi ≡ Some end → IsLive k ws (leaf_after A leaf) × (anchor_at k ws (leaf_after A leaf) ≡ end)
  pub used : used_of ws + (max n (shared lo a hi + 1) - (shared lo a hi + 1)) ≡ prefix_count A
  pub many : length a - shared lo a hi < prefix_count A

-- so it is for some anchors
abbrev pub IsShrinking : Shape → List ℕ → List ℕ → (left after n front back : ℕ) → Type 0
IsShrinking k ws a left after n front back = (A : Anchors) × ((leaf : ℕ) × ((lo : List ℕ) × ((hi : Option (List ℕ)) × (Shrinks A leaf lo a hi left after front back × Shrinking k ws A leaf lo a hi n))))

-- a row was taken out from behind another one: its mark is 0, and its neighbours are linked to each other
pub record RowCut (k : Shape) (old new : List ℕ) (left leaf next : ℕ) : Type 0 where
  pub dead : mark_at k new leaf ≡ 0
  pub left_next : next_at k new left ≡ next
  pub next_previous : (r : ℕ) → next ≡ r + 1 → previous_at k new r ≡ left + 1
  pub others : (l o : ℕ) → o < LEAF_WORDS → (l ≡ leaf → o ≢ MARK_PART) → (l ≡ left → o ≢ NEXT_PART) → (next ≡ l + 1 → o ≢ PREVIOUS_PART) → slice_index new (leaf_word k l + o) ≡ slice_index old (leaf_word k l + o)
  pub low : (x : ℕ) → x < rows_begin k → slice_index new x ≡ slice_index old x

-- no row's mark is above this one, and some row has it, if it is above 1
pub record IsTopMark (k : Shape) (ws : List ℕ) (top : ℕ) : Type 0 where
  pub some : 0 < top
  pub most : (leaf : ℕ) → leaf < k.leaves → mark_at k ws leaf ≤ top
  pub reached : 1 < top → (leaf : ℕ) × ((leaf < k.leaves) × (mark_at k ws leaf ≡ top))

-- where the longest anchor had this length, its length is that by the marks now
pub record LongestSet (k : Shape) (old new : List ℕ) (len : ℕ) : Type 0 where
  pub kept : slice_index old LONGEST_WORD ≢ len → slice_index new LONGEST_WORD ≡ slice_index old LONGEST_WORD
  pub found : slice_index old LONGEST_WORD ≡ len → IsTopMark k old (slice_index new LONGEST_WORD + 1)
  pub others : (x : ℕ) → x ≢ LONGEST_WORD → slice_index new x ≡ slice_index old x

-- the row of a leaf was taken out, and the header doesn't count it any more
pub record RowDropped (k : Shape) (old new : List ℕ) (left leaf next len : ℕ) : Type 0 where
  pub between : List ℕ
  pub cut : RowCut k old between left leaf next
  pub kept : slice_index between LONGEST_WORD ≢ len → slice_index new LONGEST_WORD ≡ slice_index between LONGEST_WORD
  pub found : slice_index between LONGEST_WORD ≡ len → IsTopMark k between (slice_index new LONGEST_WORD + 1)
  pub live : slice_index new LIVE_WORD + 1 ≡ slice_index between LIVE_WORD
  pub low : (x : ℕ) → LONGEST_WORD < x → x < LIVE_WORD → slice_index new x ≡ slice_index between x
  pub high : (x : ℕ) → HEADER_WORDS ≤ x → slice_index new x ≡ slice_index between x
