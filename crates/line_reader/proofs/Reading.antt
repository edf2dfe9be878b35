-- What an event says of the line that ended.
use Rattle.std.proofs.Common.{◌≡◌, ℕ, ◌<◌, ◌≤◌, ltb, List, [], ◌∷◌, length, map, refl, sym, ap, ◌∙◌, arith, ⊎_elim}
use Rattle.std.proofs.lemmas.Bool.{cond-true, cond-false, cases_Bool, ltb-true, ltb-false}
use Rattle.line_reader.specs.declared.limits.TheConstants.{LONGEST_LINE}
use Rattle.line_reader.specs.Cut.{last_line}
use Rattle.line_reader.specs.Told.{tells}
use Rattle.line_reader.specs.Told.Told.{Read, Long}

-- where nothing is told there is no line
pub read_none : (ls : List (List ℕ)) → map tells ls ≡ [] → ls ≡ []
read_none [] e = refl
read_none (l ∷ ls) e = absurd (omega (arith, ap length e))

-- a line that is told is the one that ended
pub read_one : (ls : List (List ℕ)) (line : List ℕ) → map tells ls ≡ Read line ∷ [] → (ls ≡ line ∷ []) × (length line ≤ LONGEST_LINE)
read_one [] line e = absurd (omega (arith, ap length e))
read_one (l ∷ []) line e =
    ⊎_elim
    (λ long. let no : Long ∷ [] ≡ Read line ∷ [] = ap (λ t. t ∷ []) (sym (cond-true _ Long (Read l) long)) ∙ e in cc)
    (λ short.
    let is : Read l ∷ [] ≡ Read line ∷ [] = ap (λ t. t ∷ []) (sym (cond-false _ Long (Read l) short)) ∙ e in
    let same : l ≡ line = cc in
    (ap (λ x. x ∷ []) same, omega (arith, ltb-false LONGEST_LINE (length l) short, ap length same)))
    (cases_Bool (ltb LONGEST_LINE (length l)))
read_one (l ∷ m ∷ ls) line e = absurd (omega (arith, ap length e))

-- where a line is told to be too long, one ended that is
pub read_long : (ls : List (List ℕ)) → map tells ls ≡ Long ∷ [] → (line : List ℕ) × (ls ≡ line ∷ []) × (LONGEST_LINE < length line)
read_long [] e = absurd (omega (arith, ap length e))
read_long (l ∷ []) e =
    ⊎_elim
    (λ long. (l, refl, ltb-true LONGEST_LINE (length l) long))
    (λ short. let no : Read l ∷ [] ≡ Long ∷ [] = ap (λ t. t ∷ []) (sym (cond-false _ Long (Read l) short)) ∙ e in cc)
    (cases_Bool (ltb LONGEST_LINE (length l)))
read_long (l ∷ m ∷ ls) e = absurd (omega (arith, ap length e))

-- where nothing is told at the end of input no byte is left
pub last_none : (part : List ℕ) → map tells (last_line part) ≡ [] → part ≡ []
last_none [] e = refl
last_none (b ∷ part) e = absurd (omega (arith, ap length e))
