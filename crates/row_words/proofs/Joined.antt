-- A write in one part of a table's words, and what is read of one.
use Rattle.std.proofs.Common.{◌≡◌, ℕ, ◌+◌, ◌-◌, ◌*◌, ◌<◌, ◌≤◌, List, ◌++◌, length, drop, get_or, sym, ap, ◌∙◌, arith, length-append}
use Rattle.std.proofs.Math.ListN.{set}
use Rattle.std.proofs.lemmas.List.{set-append_left, set-append_right, get_or-append_right, get_or-drop, get_or-take}
use Rattle.std.specs.List.{slice_range}
use Rattle.row_words.specs.Bytes.{bytes_from}
use Rattle.row_words.specs.VecRows.{joined}
use Rattle.row_words.proofs.Packed.{row_bytes}

pub set_header : (header heads items leaves : List ℕ) (i w : ℕ) → i < length header → joined (set header i w) heads items leaves ≡ set (joined header heads items leaves) i w
unfolding joined
set_header header heads items leaves i w l = sym (
    set-append_left (header ++ heads ++ items) leaves i w (omega (arith, l, length-append (header ++ heads) items, length-append header heads))
    ∙ ap (λ (ws : List ℕ). ws ++ leaves) (set-append_left (header ++ heads) items i w (omega (arith, l, length-append header heads))
    ∙ ap (λ (ws : List ℕ). ws ++ items) (set-append_left header heads i w l)))

pub set_heads : (header heads items leaves : List ℕ) (n i w : ℕ) → length header ≡ n → n ≤ i → i - n < length heads → joined header (set heads (i - n) w) items leaves ≡ set (joined header heads items leaves) i w
unfolding joined
set_heads header heads items leaves n i w many le l = sym (
    set-append_left (header ++ heads ++ items) leaves i w (omega (arith, l, length-append (header ++ heads) items, length-append header heads))
    ∙ ap (λ (ws : List ℕ). ws ++ leaves) (set-append_left (header ++ heads) items i w (omega (arith, l, length-append header heads))
    ∙ ap (λ (ws : List ℕ). ws ++ items) (set-append_right header heads n i w many le)))

pub set_items : (header heads items leaves : List ℕ) (n i w : ℕ) → length header + length heads ≡ n → n ≤ i → i - n < length items → joined header heads (set items (i - n) w) leaves ≡ set (joined header heads items leaves) i w
unfolding joined
set_items header heads items leaves n i w many le l = sym (
    set-append_left (header ++ heads ++ items) leaves i w (omega (arith, l, length-append (header ++ heads) items, length-append header heads))
    ∙ ap (λ (ws : List ℕ). ws ++ leaves) (set-append_right (header ++ heads) items n i w (length-append header heads ∙ many) le))

pub set_leaves : (header heads items leaves : List ℕ) (n m i w : ℕ) → length header + length heads ≡ n → length items ≡ m → n + m ≤ i → joined header heads items (set leaves (i - n - m) w) ≡ set (joined header heads items leaves) i w
unfolding joined
set_leaves header heads items leaves n m i w many more le =
    let place : i - (n + m) ≡ i - n - m = omega arith in
    sym (set-append_right (header ++ heads ++ items) leaves (n + m) i w (omega (arith, many, more, length-append (header ++ heads) items, length-append header heads)) le
    ∙ ap (λ (k : ℕ). header ++ heads ++ items ++ set leaves k w) place)

-- the bytes of words that lie side by side in the leaf rows
pub leaf_bytes : (header heads items leaves part : List ℕ) (n from count len : ℕ) → length header + length heads + length items ≡ n → part ≡ slice_range leaves from (from + count) → len < 8 * count → bytes_from part 0 len ≡ bytes_from (joined header heads items leaves) (n + from) len
unfolding joined
leaf_bytes header heads items leaves part n from count len many is l = row_bytes part (joined header heads items leaves) (n + from) len (λ j h.
    let front : length (header ++ heads ++ items) ≡ n = length-append (header ++ heads) items ∙ ap (λ (k : ℕ). k + length items) (length-append header heads) ∙ many in
    let place : n + from + j - n ≡ from + j = omega arith in
    ap (λ (ws : List ℕ). get_or ws j 0) is
    ∙ get_or-take (from + count - from) (drop from leaves) j 0 (omega (arith, h, l))
    ∙ get_or-drop from leaves j 0
    ∙ ap (λ (k : ℕ). get_or leaves k 0) (sym place)
    ∙ sym (get_or-append_right (header ++ heads ++ items) leaves n (n + from + j) 0 front (omega arith)))
