-- What a table in vectors shows.
use Rattle.std.specs.Prelude.{ℕ, ◌≡◌, ◌+◌, ◌*◌, List, ◌++◌, length}
use Rattle.std.proofs.Common.{◌∙◌, ap, length-append}
use Rattle.row_words.specs.Layout.{word_count}
use Rattle.row_words.specs.declared.layout.TheConstants.{HEADER_WORDS, ITEM_WORDS}
use Rattle.row_words.specs.declared.shape.Shape.{Shape}
use Rattle.row_words.specs.declared.vec_rows.VecRows.{VecRows}

abbrev pub shape_of : VecRows → Shape
shape_of rows = rows.shape

-- a table's words: the header, the heads, the items, and the leaf rows
unfoldable pub joined : List ℕ → List ℕ → List ℕ → List ℕ → List ℕ
joined header heads items leaves = header ++ heads ++ items ++ leaves

-- Of the items and of the leaf rows only the first words lie in memory: each list goes on with zeros up to the
-- shape's count, so a word that was never written is 0. A head lies there in two parts.
abbrev pub words_of : VecRows → List ℕ
words_of rows = joined rows.header rows.heads rows.items rows.leaves

-- how many of its rows were read
abbrev pub reads_of : VecRows → ℕ
reads_of rows = rows.reads

-- there are as many words as the shape says
pub length-words_of : (rows : VecRows) → length (words_of rows) ≡ word_count (shape_of rows)
unfolding joined
length-words_of rows =
    length-append (rows.header ++ rows.heads ++ rows.items) rows.leaves
    ∙ ap (λ (n : ℕ). n + length rows.leaves) (length-append (rows.header ++ rows.heads) rows.items)
    ∙ ap (λ (n : ℕ). n + length rows.items + length rows.leaves) (length-append rows.header rows.heads)
    ∙ ap (λ (n : ℕ). n + length rows.heads + length rows.items + length rows.leaves) rows.header_sized
    ∙ ap (λ (n : ℕ). HEADER_WORDS + n + length rows.items + length rows.leaves) rows.heads_sized
    ∙ ap (λ (n : ℕ). HEADER_WORDS + rows.shape.heads + n + length rows.leaves) rows.items_sized
    ∙ ap (λ (n : ℕ). HEADER_WORDS + rows.shape.heads + ITEM_WORDS * rows.shape.items + n) rows.leaves_sized
