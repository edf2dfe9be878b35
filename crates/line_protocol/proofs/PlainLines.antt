-- The lines of words that stand for themselves.
use Rattle.std.proofs.Common.{◌≡◌, ℕ, true, List, [], ◌∷◌, ◌++◌, length, set, codes, refl, sym, ap, ◌∙◌, arith, append_assoc}
use Rattle.std.specs.List.{list_all}
use Rattle.line_protocol.specs.Escape.{escape, is_plain}
use Rattle.line_protocol.specs.Texts.{pair_line, value_line}
use Rattle.line_protocol.proofs.Escapes.{escape_plain}

-- a last word and the end of the line
last_word : (word : List ℕ) → (word ++ []) ++ 10 ∷ [] ≡ word ++ 10 ∷ []
last_word word = append_assoc word [] (10 ∷ [])

pub value_plain : (value : List ℕ) → list_all is_plain value ≡ true → value_line value ≡ codes "VALUE " ++ (value ++ 10 ∷ [])
value_plain value plain =
    ap (λ (v : List ℕ). codes "VALUE " ++ ((v ++ []) ++ 10 ∷ [])) (escape_plain value plain)
    ∙ ap (λ (t : List ℕ). codes "VALUE " ++ t) (last_word value)

pub pair_plain : (key value : List ℕ) → list_all is_plain key ≡ true → list_all is_plain value ≡ true → pair_line key value ≡ codes "PAIR " ++ (key ++ (codes " " ++ (value ++ 10 ∷ [])))
pair_plain key value plain plain' =
    ap (λ (k : List ℕ). codes "PAIR " ++ ((k ++ 32 ∷ (escape value ++ [])) ++ 10 ∷ [])) (escape_plain key plain)
    ∙ ap (λ (v : List ℕ). codes "PAIR " ++ ((key ++ 32 ∷ (v ++ [])) ++ 10 ∷ [])) (escape_plain value plain')
    ∙ ap (λ (t : List ℕ). codes "PAIR " ++ t) (append_assoc key (32 ∷ (value ++ [])) (10 ∷ []))
    ∙ ap (λ (t : List ℕ). codes "PAIR " ++ (key ++ (codes " " ++ t))) (last_word value)

-- a byte that is written over the only one
pub set_only : (bytes : List ℕ) (b : ℕ) → length bytes ≡ 1 → set bytes 0 b ≡ b ∷ []
set_only [] b one = absurd (omega (arith, one))
set_only (x ∷ []) b one = refl
set_only (x ∷ y ∷ bytes) b one = absurd (omega (arith, one))
