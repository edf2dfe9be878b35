-- Changes of a table's words.
use Rattle.std.specs.Prelude.{ℕ, ◌≡◌, ◌≢◌, ◌+◌, ◌*◌, ◌/◌, ◌%◌, ◌^◌, ◌<◌, ◌≤◌, ◌==◌, List, [], ◌∷◌, length, max, slice_index, Option, Some, None, if◌then◌else◌}
use Rattle.key_bytes.specs.Fnv.{prefix_hash}
use Rattle.key_bytes.specs.Order.{is_same}
use Rattle.anchor_rules.specs.Items.{Item}
use Rattle.row_words.specs.declared.shape.Shape.{Shape}
use Rattle.row_words.specs.declared.rows.ItemRow.{ItemRow}
use Rattle.row_words.specs.Layout.{item_word, head_word, leaf_word, rows_begin}
use Rattle.row_words.specs.Shape.{IsShape}
use Rattle.row_words.specs.Decode.{head_at, hash_at, item_at, mark_at, anchor_at, previous_at, next_at, IsLive}
use Rattle.row_words.specs.declared.layout.TheConstants.{ANCHOR_WORDS, HEADER_WORDS, LONGEST_WORD, USED_WORD, LIVE_WORD, LINK_PART, LEAF_WORDS, MARK_PART, BYTES_PART, PREVIOUS_PART, NEXT_PART, UPPER, LENGTHS, ANCHOR_MARK}
use Rattle.meta_trie.specs.Trie.{bucket_of, used_of, free_of, free_after}

-- the words from a place on are these, and the others stay
pub record Put (old new : List ℕ) (from : ℕ) (values : List ℕ) : Type 0 where
  pub inside : (j : ℕ) → j < length values → slice_index new (from + j) ≡ slice_index values j
  pub before : (x : ℕ) → x < from → slice_index new x ≡ slice_index old x
  pub behind : (x : ℕ) → from + length values ≤ x → slice_index new x ≡ slice_index old x

-- the anchors of the live leaf rows stay
abbrev pub SameAnchors : Shape → List ℕ → List ℕ → Type 0
SameAnchors k old new = (leaf : ℕ) → IsLive k old leaf → (mark_at k new leaf ≡ mark_at k old leaf) × (anchor_at k new leaf ≡ anchor_at k old leaf)

-- the words of the leaf rows stay, and of the header the length of the longest anchor and the number of live leaves
pub record SameRest (k : Shape) (old new : List ℕ) : Type 0 where
  pub rows : (x : ℕ) → rows_begin k ≤ x → slice_index new x ≡ slice_index old x
  pub longest : slice_index new LONGEST_WORD ≡ slice_index old LONGEST_WORD
  pub live : slice_index new LIVE_WORD ≡ slice_index old LIVE_WORD

-- an item stays
pub record SameItem (k : Shape) (old new : List ℕ) (i : ℕ) : Type 0 where
  pub item : item_at k new i ≡ item_at k old i
  pub hash : hash_at k new i ≡ hash_at k old i

-- the first free item is that of this prefix now, at the front of its bucket
pub record Linked (k : Shape) (old new : List ℕ) (i : ℕ) (name : List ℕ) (row : ItemRow) : Type 0 where
  pub taken : free_of old ≡ i + 1
  pub item : item_at k new i ≡ record row { next = head_at k old (bucket_of k name) }
  pub hash : hash_at k new i ≡ prefix_hash k.salt name
  pub items : (j : ℕ) → j ≢ i → j < k.items → SameItem k old new j
  pub head : head_at k new (bucket_of k name) ≡ i + 1
  pub heads : (b : ℕ) → b ≢ bucket_of k name → b < k.heads → head_at k new b ≡ head_at k old b
  pub anchors : SameAnchors k old new
  pub rest : SameRest k old new
  pub used : used_of new ≡ used_of old + 1
  pub free : free_of new ≡ free_after k old i

-- an item was written anew behind its hash and its link
pub record Changed (k : Shape) (old new : List ℕ) (i : ℕ) (row : ItemRow) : Type 0 where
  pub item : item_at k new i ≡ record row { next = (item_at k old i).next }
  pub hash : hash_at k new i ≡ hash_at k old i
  pub items : (j : ℕ) → j ≢ i → j < k.items → SameItem k old new j
  pub heads : (b : ℕ) → b < k.heads → head_at k new b ≡ head_at k old b
  pub anchors : SameAnchors k old new
  pub rest : SameRest k old new
  pub used : used_of new ≡ used_of old
  pub free : free_of new ≡ free_of old

-- an item was taken out of its bucket, from behind this link, and is the first free one
pub record Unlinked (k : Shape) (old new : List ℕ) (i before bucket : ℕ) : Type 0 where
  pub gone : free_after k new i ≡ free_of old
  pub items : (j : ℕ) → j ≢ i → j < k.items → item_at k new j ≡ record (item_at k old j) { next = if before == j + 1 then (item_at k old i).next else (item_at k old j).next }
  pub hashes : (j : ℕ) → j ≢ i → j < k.items → hash_at k new j ≡ hash_at k old j
  pub head : head_at k new bucket ≡ (if before == 0 then (item_at k old i).next else head_at k old bucket)
  pub heads : (b : ℕ) → b ≢ bucket → b < k.heads → head_at k new b ≡ head_at k old b
  pub anchors : SameAnchors k old new
  pub rest : SameRest k old new
  pub used : used_of new + 1 ≡ used_of old
  pub free : free_of new ≡ i + 1

-- the map with one prefix more, or with another item for it
abbrev pub with_item : (List ℕ → Option Item) → List ℕ → Item → List ℕ → Option Item
with_item known name it p = if is_same p name then Some it else known p

-- the map without a prefix
abbrev pub without_item : (List ℕ → Option Item) → List ℕ → List ℕ → Option Item
without_item known name p = if is_same p name then None else known p

-- what the words of an item decode to
pub record Codes (row : ItemRow) (next link sides : ℕ) (bits : List ℕ) : Type 0 where
  pub next_is : link % UPPER ≡ next
  pub len_is : link / UPPER % LENGTHS ≡ row.len
  pub mark_is : (link / ANCHOR_MARK % 2 == 1) ≡ row.is_anchor
  pub first_is : sides % UPPER ≡ row.leftmost
  pub last_is : sides / UPPER ≡ row.rightmost
  pub bits_are : bits ≡ row.bits

-- an item, its bucket's head and the two header words of the items were written, one after the other
pub record Written (k : Shape) (old new : List ℕ) (i b hash next used free : ℕ) (row : ItemRow) : Type 0 where
  pub w1 : List ℕ
  pub w2 : List ℕ
  pub link : ℕ
  pub sides : ℕ
  pub b0 : ℕ
  pub b1 : ℕ
  pub b2 : ℕ
  pub b3 : ℕ
  pub first : Put old w1 (item_word k i) (hash ∷ link ∷ sides ∷ b0 ∷ b1 ∷ b2 ∷ b3 ∷ [])
  pub second : Put w1 w2 (head_word k b) ((i + 1) ∷ [])
  pub third : Put w2 new USED_WORD (used ∷ free ∷ [])
  pub codes : Codes row next link sides (b0 ∷ b1 ∷ b2 ∷ b3 ∷ [])

-- no item is used, and leaf 0 is the only live one, with the empty anchor
pub record Bare (k : Shape) (ws : List ℕ) : Type 0 where
  pub ranges : IsShape k
  pub heads : (b : ℕ) → b < k.heads → head_at k ws b ≡ 0
  pub links : (j : ℕ) → j < k.items → (item_at k ws j).next ≡ 0
  pub longest : slice_index ws LONGEST_WORD ≡ 0
  pub used : used_of ws ≡ 0
  pub free : free_of ws ≡ 1
  pub live : slice_index ws LIVE_WORD ≡ 1
  pub mark : mark_at k ws 0 ≡ 1
  pub marks : (leaf : ℕ) → 0 < leaf → mark_at k ws leaf ≡ 0
  pub previous : previous_at k ws 0 ≡ 0
  pub next : next_at k ws 0 ≡ 0

-- the item at a place has another link, and all other words stay
pub record NextSet (k : Shape) (old new : List ℕ) (i next : ℕ) : Type 0 where
  pub item : item_at k new i ≡ record (item_at k old i) { next = next }
  pub others : (x : ℕ) → x ≢ item_word k i + LINK_PART → slice_index new x ≡ slice_index old x

-- a link was set: that of the item before, or the head of the bucket where there is none
pub record Relinked (k : Shape) (old new : List ℕ) (before bucket next : ℕ) : Type 0 where
  pub items : (j : ℕ) → j < k.items → item_at k new j ≡ record (item_at k old j) { next = if before == j + 1 then next else (item_at k old j).next }
  pub hashes : (j : ℕ) → j < k.items → hash_at k new j ≡ hash_at k old j
  pub head : head_at k new bucket ≡ (if before == 0 then next else head_at k old bucket)
  pub heads : (b : ℕ) → b ≢ bucket → b < k.heads → head_at k new b ≡ head_at k old b
  pub header : (x : ℕ) → x < HEADER_WORDS → slice_index new x ≡ slice_index old x
  pub rows : (x : ℕ) → rows_begin k ≤ x → slice_index new x ≡ slice_index old x

-- the row of a leaf was written, and all other words stay
pub record RowPut (k : Shape) (old new : List ℕ) (leaf : ℕ) (anchor : List ℕ) (previous next : ℕ) : Type 0 where
  pub live : IsLive k new leaf
  pub anchor_is : anchor_at k new leaf ≡ anchor
  pub previous_is : previous_at k new leaf ≡ previous
  pub next_is : next_at k new leaf ≡ next
  pub before : (x : ℕ) → x < leaf_word k leaf → slice_index new x ≡ slice_index old x
  pub behind : (x : ℕ) → leaf_word k leaf + LEAF_WORDS ≤ x → slice_index new x ≡ slice_index old x

-- the words of the row of a leaf
pub record RowWords (values : List ℕ) (anchor : List ℕ) (previous next : ℕ) : Type 0 where
  pub mark : slice_index values MARK_PART ≡ length anchor + 1
  pub bytes : (i : ℕ) → i < ANCHOR_WORDS → (j : ℕ) → j < 8 → slice_index values (i + BYTES_PART) / 2 ^ (8 * j) % 256 ≡ slice_index anchor (8 * i + j)
  pub previous_is : slice_index values PREVIOUS_PART ≡ previous
  pub next_is : slice_index values NEXT_PART ≡ next

-- one word of a leaf's row was set
pub record LinkSet (k : Shape) (old new : List ℕ) (leaf o value : ℕ) : Type 0 where
  pub here : slice_index new (leaf_word k leaf + o) ≡ value
  pub others : (x : ℕ) → x ≢ leaf_word k leaf + o → slice_index new x ≡ slice_index old x

-- the link back was set in the row that this link names, if it names one
pub record PreviousSet (k : Shape) (old new : List ℕ) (next value : ℕ) : Type 0 where
  pub here : (r : ℕ) → next ≡ r + 1 → slice_index new (leaf_word k r + PREVIOUS_PART) ≡ value
  pub others : (x : ℕ) → ((r : ℕ) → next ≡ r + 1 → x ≢ leaf_word k r + PREVIOUS_PART) → slice_index new x ≡ slice_index old x

-- a row was written behind another one, with the links of its neighbours
pub record RowAdded (k : Shape) (old new : List ℕ) (left leaf : ℕ) (a : List ℕ) (next : ℕ) : Type 0 where
  pub live : IsLive k new leaf
  pub anchor_is : anchor_at k new leaf ≡ a
  pub previous_is : previous_at k new leaf ≡ left + 1
  pub next_is : next_at k new leaf ≡ next
  pub left_next : next_at k new left ≡ leaf + 1
  pub next_previous : (r : ℕ) → next ≡ r + 1 → previous_at k new r ≡ leaf + 1
  pub others : (l o : ℕ) → l ≢ leaf → o < LEAF_WORDS → (l ≡ left → o ≢ NEXT_PART) → (next ≡ l + 1 → o ≢ PREVIOUS_PART) → slice_index new (leaf_word k l + o) ≡ slice_index old (leaf_word k l + o)
  pub low : (x : ℕ) → x < rows_begin k → slice_index new x ≡ slice_index old x

-- the row of a new leaf was put in, and the header counts it
pub record RowLaid (k : Shape) (old new : List ℕ) (left leaf : ℕ) (a : List ℕ) (next : ℕ) : Type 0 where
  pub between : List ℕ
  pub added : RowAdded k old between left leaf a next
  pub longest : slice_index new LONGEST_WORD ≡ max (length a) (slice_index old LONGEST_WORD)
  pub live : slice_index new LIVE_WORD ≡ slice_index old LIVE_WORD + 1
  pub low : (x : ℕ) → LONGEST_WORD < x → x < LIVE_WORD → slice_index new x ≡ slice_index between x
  pub high : (x : ℕ) → HEADER_WORDS ≤ x → slice_index new x ≡ slice_index between x
