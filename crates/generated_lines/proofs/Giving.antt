-- What is left of lines when one is made, and when a piece is given.
use Rattle.std.proofs.Common.{◌≡◌, ℕ, suc, ◌+◌, ◌-◌, ◌<◌, ◌≤◌, List, [], ◌∷◌, ◌++◌, take, drop, length, refl, sym, ap, ◌∙◌, append_assoc, arith}
use Rattle.std.proofs.lemmas.List.{drop_all}
use Rattle.outside.proofs.Pieces.{piece_given}
use Rattle.generated_lines.specs.Generator.{next_number, made_line, made_from, lines_text}

-- the next line stands in front of those that aren't made yet
next_made : (x at more : ℕ) → lines_text (made_from x at (suc more)) ≡ (made_line at (next_number x) ++ 10 ∷ []) ++ lines_text (made_from (next_number x) (at + 1) more)
next_made x at more = refl

-- where the line at hand was given, the next line is what is left of lines
pub made_ready : (line next : List ℕ) (at x y made count : ℕ) → length line ≤ at → made < count → y ≡ next_number x → next ≡ made_line made y ++ 10 ∷ []
    → drop 0 next ++ lines_text (made_from y (made + 1) (count - (made + 1))) ≡ drop at line ++ lines_text (made_from x made (count - made))
made_ready line next at x y made count given left is_y is_next =
    let more : count - made ≡ suc (count - (made + 1)) = omega arith in
    let gone : drop at line ≡ [] = drop_all at line given in
    let first : next ++ lines_text (made_from y (made + 1) (count - (made + 1))) ≡ (made_line made (next_number x) ++ 10 ∷ []) ++ lines_text (made_from (next_number x) (made + 1) (count - (made + 1))) =
    ap (λ l. l ++ lines_text (made_from y (made + 1) (count - (made + 1)))) is_next ∙ ap (λ z. (made_line made z ++ 10 ∷ []) ++ lines_text (made_from z (made + 1) (count - (made + 1)))) is_y in
    first ∙ (sym (next_made x made (count - (made + 1))) ∙ (ap (λ k. lines_text (made_from x made k)) (sym more) ∙ ap (λ l. l ++ lines_text (made_from x made (count - made))) (sym gone)))

-- a piece of the line at hand goes from what is left to what was given
pub piece_left : (line piece rest : List ℕ) (at n : ℕ) → piece ≡ take n (drop at line) → drop at line ++ rest ≡ piece ++ (drop (at + n) line ++ rest)
piece_left line piece rest at n is = ap (λ l. l ++ rest) (piece_given line piece at n is).1 ∙ append_assoc piece (drop (at + n) line) rest
