-- Where the words of a table lie: the header, the heads of the buckets, the items, the leaf rows.
use Rattle.std.specs.Prelude.{ℕ, ◌+◌, ◌*◌}
use Rattle.row_words.specs.declared.layout.TheConstants.{HEADER_WORDS, ITEM_WORDS, LEAF_WORDS}
use Rattle.row_words.specs.declared.shape.Shape.{Shape}

-- the head of a bucket
abbrev pub head_word : Shape → ℕ → ℕ
head_word k bucket = HEADER_WORDS + bucket

-- the first word of the item at a place
abbrev pub item_word : Shape → ℕ → ℕ
item_word k at = HEADER_WORDS + k.heads + ITEM_WORDS * at

-- the first word of the leaf rows
abbrev pub rows_begin : Shape → ℕ
rows_begin k = HEADER_WORDS + k.heads + ITEM_WORDS * k.items

-- the first word of a leaf's row
abbrev pub leaf_word : Shape → ℕ → ℕ
leaf_word k leaf = rows_begin k + LEAF_WORDS * leaf

-- how many words a table has
abbrev pub word_count : Shape → ℕ
word_count k = rows_begin k + LEAF_WORDS * k.leaves
