-- What is kept of a text goes on with it.
use Rattle.std.proofs.Common.{◌≡◌, ℕ, ◌-◌, ◌^◌, ◌<◌, ◌≤◌, min, List, [], ◌∷◌, ◌++◌, length, false, eqb, sym, ap, ◌∙◌}
use Rattle.std.specs.List.{count_by}
use Rattle.std.specs.Prelude.{codes}
use Rattle.fill_runs.specs.Summary.{has_word}
use Rattle.fill_runs.specs.Tallies.{count_of, AreCounts, IsTallied}
use Rattle.fill_runs.specs.declared.words.WordCounts.{WordCounts}
use Rattle.fill_runs.proofs.Counting.{lines_same, begun_more, begun_full}

count_stays : (word text : List ℕ) (b : ℕ) → eqb b 10 ≡ false → count_of word text ≡ count_of word (text ++ b ∷ [])
count_stays word text b other = sym (ap (λ ls. min (count_by (has_word word) ls) (2 ^ 64 - 1)) (lines_same text b other))

-- without the end of a line the counts stay
counts_stay : (c : WordCounts) (text : List ℕ) (b : ℕ) → eqb b 10 ≡ false → AreCounts c text → AreCounts c (text ++ b ∷ [])
counts_stay c text b other are = record {
  news = are.news ∙ count_stays (codes "NEW") text b other;
  sets = are.sets ∙ count_stays (codes "SET") text b other;
  values = are.values ∙ count_stays (codes "VALUE") text b other;
  nones = are.nones ∙ count_stays (codes "NONE") text b other;
  gones = are.gones ∙ count_stays (codes "GONE") text b other;
  pairs = are.pairs ∙ count_stays (codes "PAIR") text b other;
  ends = are.ends ∙ count_stays (codes "END") text b other;
  fulls = are.fulls ∙ count_stays (codes "FULL") text b other;
  no_memories = are.no_memories ∙ count_stays (codes "NOMEM") text b other;
}

-- a byte more is kept, or there are as many as are kept
pub tallied_more : (c : WordCounts) (start text : List ℕ) (b : ℕ) → eqb b 10 ≡ false → length start < 6 → IsTallied c start text → IsTallied c (start ++ b ∷ []) (text ++ b ∷ [])
tallied_more c start text b other room is = record { counts = counts_stay c text b other is.counts; begun = begun_more start text b other is.begun room }

pub tallied_full : (c : WordCounts) (start text : List ℕ) (b : ℕ) → eqb b 10 ≡ false → 6 ≤ length start → IsTallied c start text → IsTallied c start (text ++ b ∷ [])
tallied_full c start text b other full is = record { counts = counts_stay c text b other is.counts; begun = begun_full start text b other is.begun full }
