-- The summary of counts is that of the text that they count.
use Rattle.std.proofs.Common.{◌≡◌, ℕ, ◌<◌, ◌^◌, List, [], ◌∷◌, ◌++◌, length, refl, sym, ap, ◌∙◌, append_assoc}
use Rattle.std.specs.Prelude.{codes, map}
use Rattle.std.proofs.lemmas.List.{append-nil}
use Rattle.line_protocol.specs.ReplyLine.{number_line}
use Rattle.fill_runs.specs.Summary.{counted, told_words, summary}
use Rattle.fill_runs.specs.Tallies.{count_of, AreCounts, numbers_of, numbered_lines, summary_of}
use Rattle.fill_runs.specs.declared.words.WordCounts.{WordCounts}
use Rattle.fill_runs.proofs.Counting.{count_exact}

next : (a b : ℕ) (xs ys : List ℕ) → a ≡ b → xs ≡ ys → a ∷ xs ≡ b ∷ ys
next a b xs ys same rest = ap (λ x. x ∷ xs) same ∙ ap (λ l. b ∷ l) rest

module _ (c : WordCounts) (text : List ℕ) (are : AreCounts c text) (short : length text < 2 ^ 64) where
  exact : (n : ℕ) (word : List ℕ) (rest words : List ℕ) → n ≡ count_of word text → rest ≡ words → n ∷ rest ≡ counted word text ∷ words
  exact n word rest words is others = next n (counted word text) rest words (is ∙ count_exact word text short) others

  numbers_exact : numbers_of c ≡ map (λ (word : List ℕ). counted word text) told_words
  numbers_exact =
      exact c.news (codes "NEW") _ _ are.news (exact c.sets (codes "SET") _ _ are.sets (exact c.values (codes "VALUE") _ _ are.values (exact c.nones (codes "NONE") _ _ are.nones (exact c.gones (codes "GONE") _ _ are.gones
      (exact c.pairs (codes "PAIR") _ _ are.pairs (exact c.ends (codes "END") _ _ are.ends (exact c.fulls (codes "FULL") _ _ are.fulls (exact c.no_memories (codes "NOMEM") _ _ are.no_memories refl))))))))

  pub summary_told : (requests : ℕ) → summary_of requests c ≡ summary requests text
  summary_told requests = ap (λ ns. number_line (codes "LINES") (requests ∷ []) ++ numbered_lines told_words ns) numbers_exact

-- what was appended behind an earlier text stands behind a still earlier one
behind : (before then now line rest : List ℕ) → then ≡ before ++ line → now ≡ then ++ rest → now ≡ before ++ (line ++ rest)
behind before then now line rest first more = more ∙ (ap (λ t. t ++ rest) first ∙ append_assoc before line rest)

-- ten lines that were appended one after another
pub ten_lines : (o0 o1 o2 o3 o4 o5 o6 o7 o8 o9 o10 l1 l2 l3 l4 l5 l6 l7 l8 l9 l10 : List ℕ) → o1 ≡ o0 ++ l1 → o2 ≡ o1 ++ l2 → o3 ≡ o2 ++ l3 → o4 ≡ o3 ++ l4 → o5 ≡ o4 ++ l5 → o6 ≡ o5 ++ l6 → o7 ≡ o6 ++ l7 → o8 ≡ o7 ++ l8 → o9 ≡ o8 ++ l9 → o10 ≡ o9 ++ l10 → o10 ≡ o0 ++ (l1 ++ (l2 ++ (l3 ++ (l4 ++ (l5 ++ (l6 ++ (l7 ++ (l8 ++ (l9 ++ (l10 ++ []))))))))))
ten_lines o0 o1 o2 o3 o4 o5 o6 o7 o8 o9 o10 l1 l2 l3 l4 l5 l6 l7 l8 l9 l10 p1 p2 p3 p4 p5 p6 p7 p8 p9 p10 = behind o0 o1 o10 l1 (l2 ++ (l3 ++ (l4 ++ (l5 ++ (l6 ++ (l7 ++ (l8 ++ (l9 ++ (l10 ++ []))))))))) p1 (behind o1 o2 o10 l2 (l3 ++ (l4 ++ (l5 ++ (l6 ++ (l7 ++ (l8 ++ (l9 ++ (l10 ++ [])))))))) p2 (behind o2 o3 o10 l3 (l4 ++ (l5 ++ (l6 ++ (l7 ++ (l8 ++ (l9 ++ (l10 ++ []))))))) p3 (behind o3 o4 o10 l4 (l5 ++ (l6 ++ (l7 ++ (l8 ++ (l9 ++ (l10 ++ [])))))) p4 (behind o4 o5 o10 l5 (l6 ++ (l7 ++ (l8 ++ (l9 ++ (l10 ++ []))))) p5 (behind o5 o6 o10 l6 (l7 ++ (l8 ++ (l9 ++ (l10 ++ [])))) p6 (behind o6 o7 o10 l7 (l8 ++ (l9 ++ (l10 ++ []))) p7 (behind o7 o8 o10 l8 (l9 ++ (l10 ++ [])) p8 (behind o8 o9 o10 l9 (l10 ++ []) p9 (p10 ∙ ap (λ l. o9 ++ l) (sym (append-nil l10)))))))))))
