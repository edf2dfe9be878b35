-- Which words a call looks at, and which looks at a table's words read a row.
use Rattle.std.specs.Prelude.{ℕ, ◌≡◌, ◌+◌, ◌-◌, ◌%◌, ◌<◌, ◌==◌, List, ◌++◌, sum_by, cond, nat_lt, All}
use Rattle.row_words.specs.declared.shape.Shape.{Shape}
use Rattle.row_words.specs.declared.layout.TheConstants.{ITEM_WORDS, LEAF_WORDS, PREVIOUS_PART}
use Rattle.row_words.specs.Layout.{item_word, rows_begin, word_count}
use Rattle.board_rule.specs.declared.view.View.{View}
use Rattle.board_rule.specs.Rule.{table_at}

-- the rows that a look at a word of a table reads: one where the word is the first of an item, or names the leaf before in a leaf's row, and
-- none elsewhere
unfoldable pub read_at : Shape → ℕ → ℕ
read_at k i = cond (nat_lt i (item_word k 0)) 0 (cond (nat_lt i (rows_begin k)) (cond ((i - item_word k 0) % ITEM_WORDS == 0) 1 0) (cond ((i - rows_begin k) % LEAF_WORDS == PREVIOUS_PART) 1 0))

-- the rows of the table from this word on that some looks read
abbrev pub read_by : Shape → ℕ → List (ℕ × ℕ) → ℕ
read_by k first looks = sum_by (λ l. read_at k (l.0 - first)) looks

-- only looks at such words came to the view
abbrev pub LooksAt : (ℕ → Type 0) → View → View → Type 0
LooksAt P v w = (own : List (ℕ × ℕ)) × (w.looks ≡ v.looks ++ own) × All (λ l. P l.0) own

-- a word of this table
abbrev pub IsWordOf : Shape → ℕ → ℕ → Type 0
IsWordOf k table word = (i : ℕ) × (i < word_count k) × (word ≡ table_at k table + i)
