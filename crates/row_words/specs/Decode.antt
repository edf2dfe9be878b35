-- What the words of a table say.
use Rattle.std.specs.Prelude.{ℕ, ◌≡◌, ◌≢◌, ◌+◌, ◌-◌, ◌/◌, ◌%◌, ◌<◌, ◌≤◌, ◌==◌, ◌⊎◌, List, [], ◌∷◌, length, slice_index, take}
use Rattle.row_words.specs.Bytes.{bytes_from}
use Rattle.row_words.specs.Layout.{head_word, item_word, leaf_word}
use Rattle.row_words.specs.declared.layout.TheConstants.{LONGEST_ANCHOR, LONGEST_WORD, LINK_PART, SIDES_PART, BITS_PART, BYTES_PART, PREVIOUS_PART, NEXT_PART, UPPER, LENGTHS, ANCHOR_MARK}
use Rattle.row_words.specs.declared.shape.Shape.{Shape}
use Rattle.row_words.specs.declared.rows.ItemRow.{ItemRow}
use Rattle.row_words.specs.declared.rows.Probe.{Probe}
use Rattle.row_words.specs.declared.rows.Probe.TheVariants.{Same, Other}
use Rattle.row_words.specs.declared.rows.Glance.{Glance}
use Rattle.row_words.specs.declared.rows.Glance.TheVariants.{Hit, Miss}
use Rattle.row_words.specs.declared.rows.ChildProbe.{ChildProbe}
use Rattle.row_words.specs.declared.rows.ChildProbe.TheVariants.{Found, Further}

-- the length of the longest anchor, by the header
abbrev pub longest_at : List ℕ → ℕ
longest_at words = slice_index words LONGEST_WORD % UPPER

-- the first item of a bucket as place + 1, or 0
abbrev pub head_at : Shape → List ℕ → ℕ → ℕ
head_at k words bucket = slice_index words (head_word k bucket) % UPPER

-- the hash of an item's prefix
abbrev pub hash_at : Shape → List ℕ → ℕ → ℕ
hash_at k words at = slice_index words (item_word k at)

-- the word that has an item's link, length and mark
abbrev pub link_word : Shape → List ℕ → ℕ → ℕ
link_word k words at = slice_index words (item_word k at + LINK_PART)

-- the item at a place
abbrev pub item_at : Shape → List ℕ → ℕ → ItemRow
item_at k words at = record {
  next = link_word k words at % UPPER;
  len = link_word k words at / UPPER % LENGTHS;
  is_anchor = link_word k words at / ANCHOR_MARK % 2 == 1;
  leftmost = slice_index words (item_word k at + SIDES_PART) % UPPER;
  rightmost = slice_index words (item_word k at + SIDES_PART) / UPPER;
  bits = slice_index words (item_word k at + BITS_PART) ∷ slice_index words (item_word k at + (BITS_PART + 1)) ∷ slice_index words (item_word k at + (BITS_PART + 2)) ∷ slice_index words (item_word k at + (BITS_PART + 3)) ∷ [];
}

-- the mark of a leaf's row: 0, or the length of its anchor + 1
abbrev pub mark_at : Shape → List ℕ → ℕ → ℕ
mark_at k words leaf = slice_index words (leaf_word k leaf)

-- a leaf's row is in use
abbrev pub IsLive : Shape → List ℕ → ℕ → Type 0
IsLive k words leaf = (leaf < k.leaves) × (0 < mark_at k words leaf) × (mark_at k words leaf ≤ LONGEST_ANCHOR + 1)

-- the anchor of a live leaf
abbrev pub anchor_at : Shape → List ℕ → ℕ → List ℕ
anchor_at k words leaf = bytes_from words (leaf_word k leaf + BYTES_PART) (mark_at k words leaf - 1)

-- a live leaf's neighbours as number + 1, or 0
abbrev pub previous_at : Shape → List ℕ → ℕ → ℕ
previous_at k words leaf = slice_index words (leaf_word k leaf + PREVIOUS_PART) % UPPER

abbrev pub next_at : Shape → List ℕ → ℕ → ℕ
next_at k words leaf = slice_index words (leaf_word k leaf + NEXT_PART) % UPPER

-- an item stands there, and its leftmost leaf is live
abbrev pub IsUsed : Shape → List ℕ → ℕ → Type 0
IsUsed k words at = (at < k.items) × IsLive k words (item_at k words at).leftmost

-- the item there is that of this prefix: by its hash, its length, and the anchor of its leftmost leaf
pub record IsOf (k : Shape) (words : List ℕ) (at : ℕ) (prefix : List ℕ) (hash : ℕ) : Type 0 where
  pub same_hash : hash_at k words at ≡ hash
  pub same_len : (item_at k words at).len ≡ length prefix
  pub same_bytes : take (length prefix) (anchor_at k words (item_at k words at).leftmost) ≡ prefix

-- what a look at one item answers
abbrev pub Probed : Shape → List ℕ → ℕ → List ℕ → ℕ → Probe → Type 0
Probed k words at prefix hash (Same item) = (item ≡ item_at k words at) × IsOf k words at prefix hash
Probed k words at prefix hash (Other next) = (next ≡ (item_at k words at).next) × ¬ IsOf k words at prefix hash

-- what a short look at one item answers
abbrev pub Glanced : Shape → List ℕ → ℕ → List ℕ → ℕ → ℕ → Glance → Type 0
Glanced k words at prefix hash word (Hit bits) = (bits ≡ slice_index (item_at k words at).bits word) × IsOf k words at prefix hash
Glanced k words at prefix hash word (Miss next) = (next ≡ (item_at k words at).next) × ¬ IsOf k words at prefix hash

-- what a look at one item answers of a prefix that it or a later item of the bucket is that of
abbrev pub ChildProbed : Shape → List ℕ → ℕ → List ℕ → ℕ → ChildProbe → Type 0
ChildProbed k words at prefix hash (Found rightmost) = (rightmost ≡ (item_at k words at).rightmost) × (((item_at k words at).next ≡ 0) ⊎ IsOf k words at prefix hash)
ChildProbed k words at prefix hash (Further next) = (next ≡ (item_at k words at).next) × (next ≢ 0) × ¬ IsOf k words at prefix hash
