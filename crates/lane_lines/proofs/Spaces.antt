-- Where the first space of a line is.
use Rattle.std.proofs.Common.{◌≡◌, ℕ, zero, suc, ◌+◌, ◌<◌, false, not, List, [], ◌∷◌, length, refl, arith}
use Rattle.std.specs.List.{position_or_len}
use Rattle.std.proofs.lemmas.Bool.{cond-true, cond-false, not_from_true, not_from_false, false_from_ne_true}
use Rattle.memchr.specs.Find.{Passes, is_byte, Nowhere}
use Rattle.lane_lines.specs.Deal.{is_space}

pub place_none : (line : List ℕ) → Nowhere (Passes (is_byte 32) line) 0 (length line) → position_or_len is_space line ≡ length line
place_none [] none = refl
place_none (b ∷ line) none =
    let other : is_space b ≡ false = false_from_ne_true (is_space b) (none 0 (omega arith) (omega arith)) in
    let next : position_or_len is_space (b ∷ line) ≡ 1 + position_or_len is_space line = cond-true (not (is_space b)) _ _ (not_from_false _ other) in
    omega (arith, next, place_none line (λ i low high. none (suc i) (omega arith) (omega (arith, high))))

pub place_at : (line : List ℕ) (at : ℕ) → at < length line → Passes (is_byte 32) line at → Nowhere (Passes (is_byte 32) line) 0 at → position_or_len is_space line ≡ at
place_at [] at within here none = absurd (omega (arith, within))
place_at (b ∷ line) zero within here none = cond-false (not (is_space b)) _ _ (not_from_true _ here)
place_at (b ∷ line) (suc at) within here none =
    let other : is_space b ≡ false = false_from_ne_true (is_space b) (none 0 (omega arith) (omega arith)) in
    let next : position_or_len is_space (b ∷ line) ≡ 1 + position_or_len is_space line = cond-true (not (is_space b)) _ _ (not_from_false _ other) in
    omega (arith, next, place_at line at (omega (arith, within)) here (λ i low high. none (suc i) (omega arith) (omega (arith, high))))
