-- A new anchor, and the map of items while its prefixes are put in.
use Rattle.std.specs.Prelude.{ℕ, ◌≡◌, ◌+◌, ◌-◌, ◌<◌, ◌≤◌, List, [], ◌∷◌, ◌++◌, length, max, Bool, true, ◌&&◌, ◌||◌, nat_lt, Option, Some, None, if◌then◌else◌}
use Rattle.key_bytes.specs.Common.{lcp}
use Rattle.key_bytes.specs.Lengths.{AreBytes}
use Rattle.key_bytes.specs.Order.{is_below, is_same}
use Rattle.anchor_rules.specs.Anchors.{Anchors, is_before, span, Rises, with_split}
use Rattle.anchor_rules.specs.Items.{Item, begins, item, shared}
use Rattle.row_words.specs.declared.shape.Shape.{Shape}
use Rattle.row_words.specs.Decode.{anchor_at, IsLive}
use Rattle.row_words.specs.declared.layout.TheConstants.{LONGEST_ANCHOR}
use Rattle.meta_trie.specs.Trie.{Holds, used_of}
use Rattle.meta_trie.specs.Stands.{prefix_count}

-- the items of the new anchors B for the prefixes of a that are shorter than n, and those of A for the others
abbrev pub mixed : Anchors → Anchors → List ℕ → ℕ → List ℕ → Option Item
mixed A B a n p = if begins p a && nat_lt (length p) n then item B p else item A p

-- a can stand behind the anchor lo of a leaf, before the next one
pub record Grows (A : Anchors) (left : ℕ) (lo : List ℕ) (hi : Option (List ℕ)) (a : List ℕ) : Type 0 where
  pub rises : Rises A
  pub at : span A left ≡ Some (lo, hi)
  pub above : is_below lo a ≡ true
  pub before : is_before hi a ≡ true
  pub short : length a < LONGEST_ANCHOR + 1
  pub bytes : AreBytes a

-- the item of a prefix p of a, which is an anchor now: its first leaf and its last one are kept, or are that of a
abbrev pub grown_by : (p a : List ℕ) (leaf : ℕ) (keeps_first keeps_last : Bool) → Item → Item
grown_by p a leaf keeps_first keeps_last it = record {
  is_anchor = it.is_anchor || is_same p a;
  leftmost = if keeps_first then it.leftmost else leaf;
  rightmost = if keeps_last then it.rightmost else leaf;
  child = λ c. it.child c || begins (p ++ c ∷ []) a;
}

-- how many prefixes of a the next anchor has too
abbrev pub back_count : List ℕ → Option (List ℕ) → ℕ
back_count a None = 0
back_count a (Some end) = lcp a end + 1

-- the prefixes of a that are shorter than n are put in, and there is room for the others
pub record Growing (k : Shape) (ws : List ℕ) (A : Anchors) (left : ℕ) (lo : List ℕ) (hi : Option (List ℕ)) (a : List ℕ) (leaf n : ℕ) : Type 0 where
  pub trie : Holds k ws (mixed A (with_split A left a leaf) a n)
  pub root : trie.owner 0 ≡ Some []
  pub live : IsLive k ws leaf
  pub named : anchor_at k ws leaf ≡ a
  pub used : used_of ws ≡ prefix_count A + (max n (shared lo a hi + 1) - (shared lo a hi + 1))
  pub room : prefix_count A + (length a - shared lo a hi) ≤ k.items

-- so it is for some anchors, with these counts of shared prefixes
abbrev pub IsGrowing : Shape → List ℕ → List ℕ → ℕ → ℕ → ℕ → ℕ → Type 0
IsGrowing k ws a leaf n front back = (A : Anchors) × ((left : ℕ) × ((lo : List ℕ) × ((hi : Option (List ℕ)) × (Grows A left lo hi a × (front ≡ lcp lo a + 1) × (back ≡ back_count a hi) × Growing k ws A left lo hi a leaf n))))
