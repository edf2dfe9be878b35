-- What is kept of a text that is gone.
use Rattle.std.specs.Prelude.{◌≡◌, ℕ, ◌-◌, ◌^◌, min, List, [], ◌∷◌, ◌++◌, take, codes}
use Rattle.line_protocol.specs.ReplyLine.{number_line}
use Rattle.line_reader.specs.Cut.{open_part}
use Rattle.fill_runs.specs.Summary.{counted, told_words}
use Rattle.fill_runs.specs.declared.words.WordCounts.{WordCounts}

-- the number of lines with this first word, which stands still at the end of its type
abbrev pub count_of : List ℕ → List ℕ → ℕ
count_of word text = min (counted word text) (2 ^ 64 - 1)

-- each count is that of the whole lines of this text
pub record AreCounts (c : WordCounts) (text : List ℕ) : Type 0 where
  pub news : c.news ≡ count_of (codes "NEW") text
  pub sets : c.sets ≡ count_of (codes "SET") text
  pub values : c.values ≡ count_of (codes "VALUE") text
  pub nones : c.nones ≡ count_of (codes "NONE") text
  pub gones : c.gones ≡ count_of (codes "GONE") text
  pub pairs : c.pairs ≡ count_of (codes "PAIR") text
  pub ends : c.ends ≡ count_of (codes "END") text
  pub fulls : c.fulls ≡ count_of (codes "FULL") text
  pub no_memories : c.no_memories ≡ count_of (codes "NOMEM") text

-- the counts are those of the text, and the first bytes of the line behind its last LF are kept, so many that a longer word isn't taken for a told one
pub record IsTallied (c : WordCounts) (start text : List ℕ) : Type 0 where
  pub counts : AreCounts c text
  pub begun : start ≡ take 6 (open_part [] text)

-- the counts, in the order in which they are told
abbrev pub numbers_of : WordCounts → List ℕ
numbers_of c = c.news ∷ c.sets ∷ c.values ∷ c.nones ∷ c.gones ∷ c.pairs ∷ c.ends ∷ c.fulls ∷ c.no_memories ∷ []

-- a line for each word and its number
abbrev pub numbered_lines : List (List ℕ) → List ℕ → List ℕ
numbered_lines [] numbers = []
numbered_lines (word ∷ words) [] = []
numbered_lines (word ∷ words) (n ∷ numbers) = number_line word (n ∷ []) ++ numbered_lines words numbers

-- the lines of a number of requests and of counts
abbrev pub summary_of : ℕ → WordCounts → List ℕ
summary_of requests c = number_line (codes "LINES") (requests ∷ []) ++ numbered_lines told_words (numbers_of c)
