-- The lines of pairs whose bytes stand for themselves, one behind another.
use Rattle.std.proofs.Common.{◌≡◌, ℕ, zero, suc, ◌+◌, ◌*◌, ◌<◌, ◌≤◌, true, List, [], ◌∷◌, ◌++◌, length, take, drop, get_or, refl, sym, ap, subst, ◌∙◌, arith, length-append, length-take, append_assoc, codes, take_at}
use Rattle.std.specs.List.{flat_map, list_all}
use Rattle.std.proofs.lemmas.Bool.{and_parts}
use Rattle.std.proofs.lemmas.List.{take_more, append-nil}
use Rattle.std.proofs.lemmas.List.Folds.{list_all-append}
use Rattle.std.proofs.lemmas.Grind.{flat_map-append}
use Rattle.map_model.specs.Maps.{Pairs}
use Rattle.map_model.specs.Pages.{joined, pair_bytes}
use Rattle.line_protocol.specs.Escape.{is_plain}
use Rattle.line_protocol.specs.Texts.{pair_line}
use Rattle.line_protocol.proofs.PlainLines.{pair_plain}
use Rattle.session.specs.Replies.{pair_lines}

-- one more pair behind the first ones
pub joined_more : (pairs : Pairs (List ℕ)) (i : ℕ) (d : List ℕ × List ℕ) → i < length pairs
    → length (joined (take (i + 1) pairs)) ≡ length (joined (take i pairs)) + (length (get_or pairs i d).0 + length (get_or pairs i d).1)
joined_more pairs i d within =
    let p = get_or pairs i d in
    ap (λ (ps : Pairs (List ℕ)). length (joined ps)) (take_more pairs i d within)
    ∙ ap length (flat_map-append pair_bytes (take i pairs) (p ∷ []))
    ∙ length-append (joined (take i pairs)) (joined (p ∷ []))
    ∙ ap (λ n. length (joined (take i pairs)) + n) (ap length (append-nil (p.0 ++ p.1)) ∙ length-append p.0 p.1)

pub lines_more : (pairs : Pairs (List ℕ)) (i : ℕ) (d : List ℕ × List ℕ) → i < length pairs
    → pair_lines (take (i + 1) pairs) ≡ pair_lines (take i pairs) ++ pair_line (get_or pairs i d).0 (get_or pairs i d).1
lines_more pairs i d within =
    let p = get_or pairs i d in
    ap pair_lines (take_more pairs i d within)
    ∙ flat_map-append (λ (q : List ℕ × List ℕ). pair_line q.0 q.1) (take i pairs) (p ∷ [])
    ∙ ap (λ (ls : List ℕ). pair_lines (take i pairs) ++ ls) (append-nil (pair_line p.0 p.1))

-- fewer pairs have no more bytes
pub joined_fewer : (pairs : Pairs (List ℕ)) (i n : ℕ) → i ≤ n → length (joined (take i pairs)) ≤ length (joined (take n pairs))
joined_fewer [] zero n le = omega arith
joined_fewer [] (suc i) zero le = omega arith
joined_fewer [] (suc i) (suc n) le = omega arith
joined_fewer (p ∷ pairs) zero n le = omega arith
joined_fewer (p ∷ pairs) (suc i) zero le = absurd (omega arith)
joined_fewer (p ∷ pairs) (suc i) (suc n) le =
    omega (arith, joined_fewer pairs i n (omega arith), length-append (p.0 ++ p.1) (joined (take i pairs)), length-append (p.0 ++ p.1) (joined (take n pairs)))

-- where all bytes stand for themselves, so do those of each pair
all_append : (xs ys : List ℕ) → list_all is_plain (xs ++ ys) ≡ true → (list_all is_plain xs ≡ true) × (list_all is_plain ys ≡ true)
all_append xs ys all = and_parts (list_all is_plain xs) (list_all is_plain ys) (sym (list_all-append is_plain xs ys) ∙ all)

pub plain_at : (pairs : Pairs (List ℕ)) (n i : ℕ) (d : List ℕ × List ℕ) → list_all is_plain (joined (take n pairs)) ≡ true → i < n → i < length pairs
    → (list_all is_plain (get_or pairs i d).0 ≡ true) × (list_all is_plain (get_or pairs i d).1 ≡ true)
plain_at [] n i d all lt within = absurd (omega arith)
plain_at (p ∷ pairs) zero i d all lt within = absurd (omega arith)
plain_at (p ∷ pairs) (suc n) zero d all lt within = all_append p.0 p.1 (all_append (p.0 ++ p.1) (joined (take n pairs)) all).0
plain_at (p ∷ pairs) (suc n) (suc i) d all lt within =
    plain_at pairs n i d (all_append (p.0 ++ p.1) (joined (take n pairs)) all).1 (omega arith) (omega arith)

-- how many bytes the line of such a pair has
pub length-pair_line : (key value : List ℕ) → list_all is_plain key ≡ true → list_all is_plain value ≡ true → length (pair_line key value) ≡ length key + length value + 7
length-pair_line key value plain plain' =
    let is = ap length (pair_plain key value plain plain') in
    let one = length-append key (codes " " ++ (value ++ 10 ∷ [])) in
    let two = length-append value (10 ∷ []) in
    omega (arith, is, one, two)

-- the line of a pair among the first ones ends within those of all of them
pub line_within : (pairs : Pairs (List ℕ)) (n i : ℕ) (d : List ℕ × List ℕ) → i < n → n ≤ length pairs
    → length (joined (take i pairs)) + 7 * i + (length (get_or pairs i d).0 + length (get_or pairs i d).1 + 7) ≤ length (joined (take n pairs)) + 7 * n
line_within pairs n i d lt within =
    omega (arith, joined_more pairs i d (omega arith), joined_fewer pairs (i + 1) n (omega arith))
