-- The lines that a summary counts are those that a reader of lines tells, but for a CR at an end.
use Rattle.std.proofs.Common.{◌≡◌, ℕ, List, [], ◌∷◌, ◌++◌, true, false, cond, eqb, map, refl, ap, ◌∙◌}
use Rattle.std.proofs.lemmas.List.{append-nil}
use Rattle.line_reader.specs.Cut.{without_cr, lines, ended_lines}
use Rattle.line_reader.proofs.Cutting.{lines_are}
use Rattle.fill_runs.specs.Summary.{lines_behind}

same_behind : (start text : List ℕ) → ended_lines start text ≡ map without_cr (lines_behind start text)
same_behind start [] = refl
same_behind start (b ∷ text) =
    elim (eqb b 10) as (λ t. cond t (without_cr start ∷ ended_lines [] text) (ended_lines (start ++ b ∷ []) text) ≡ map without_cr (cond t (start ∷ lines_behind [] text) (lines_behind (start ++ b ∷ []) text))) [
      | true ↦ ap (λ ls. without_cr start ∷ ls) (same_behind [] text)
      | false ↦ same_behind (start ++ b ∷ []) text
    ]

pub same_lines : (text : List ℕ) → lines text false ≡ map without_cr (lines_behind [] text)
same_lines text = lines_are text false ∙ (append-nil (ended_lines [] text) ∙ same_behind [] text)
