-- Escapes in words.
use Rattle.std.specs.Prelude.{◌≡◌, ◌≢◌, ℕ, ◌+◌, ◌*◌, ◌/◌, ◌%◌, ◌≤◌, Bool, true, not, ◌&&◌, ◌||◌, ◌==◌, nat_le, List, [], ◌∷◌, if◌then◌else◌}
use Rattle.std.specs.List.{flat_map}
use Rattle.std.specs.Char.{digit_value, is_digit}
use Rattle.std.specs.Fmt.{digit_glyph}
use Rattle.line_protocol.specs.declared.scan.Sought.{Sought}
use Rattle.line_protocol.specs.declared.scan.Sought.TheVariants.{Byte, Escaped}

-- `%` and two hexadecimal digits of either case stand for a byte; every other byte stands for itself, a `%` without digits among them
abbrev pub unescape : List ℕ → List ℕ
unescape [] = []
unescape (b ∷ []) = b ∷ []
unescape (b ∷ c ∷ []) = b ∷ c ∷ []
unescape (b ∷ high ∷ low ∷ more) =
    if b == 37 && is_digit high 16 && is_digit low 16
    then (16 * digit_value high + digit_value low) ∷ unescape more
    else b ∷ unescape (high ∷ low ∷ more)

-- from 21 to 7E hexadecimal, and neither `%` nor `*`
abbrev pub is_plain : ℕ → Bool
is_plain b = nat_le 33 b && nat_le b 126 && not (b == 37 || b == 42)

-- whether a byte is one of those
abbrev pub is_sought : Sought → ℕ → Bool
is_sought (Byte wanted) b = b == wanted
is_sought Escaped b = not (is_plain b)

-- the byte, or `%` and its two upper-case hexadecimal digits
abbrev pub escape_byte : ℕ → List ℕ
escape_byte b = if is_plain b then b ∷ [] else 37 ∷ digit_glyph true (b / 16) ∷ digit_glyph true (b % 16) ∷ []

-- the word that stands for these bytes
abbrev pub escape : List ℕ → List ℕ
escape bytes = flat_map escape_byte bytes

-- from 21 to 7E hexadecimal, and not `*`: no space, no end of a line
abbrev pub IsWordByte : ℕ → Type 0
IsWordByte b = (33 ≤ b) × (b ≤ 126) × (b ≢ 42)

-- 0 to 9 or A to F
abbrev pub is_upper_hex : ℕ → Bool
is_upper_hex b = (nat_le 48 b && nat_le b 57) || (nat_le 65 b && nat_le b 70)

-- Plain bytes and escapes, one behind another: so each `%` begins an escape.
pub data IsEscaped : List ℕ → Type 0 where
  Empty : IsEscaped []
  Plain : (b : ℕ) (word : List ℕ) → is_plain b ≡ true → IsEscaped word → IsEscaped (b ∷ word)
  Escape : (high low : ℕ) (word : List ℕ) → is_upper_hex high ≡ true → is_upper_hex low ≡ true → IsEscaped word → IsEscaped (37 ∷ high ∷ low ∷ word)
