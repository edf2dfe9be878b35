-- A number for each table, and for no two the same.
use Rattle.std.specs.Prelude.{ℕ, zero, suc, ◌+◌, ◌*◌, List, [], ◌∷◌}
use Rattle.atomic_table.specs.Seated.{TableId}

-- two numbers as one, which is above 0
abbrev pub paired : ℕ → ℕ → ℕ
paired zero b = 2 * b + 1
paired (suc a) b = 2 * paired a b

abbrev pub listed : List ℕ → ℕ
listed [] = 0
listed (x ∷ xs) = paired x (listed xs)

abbrev pub parts_of : TableId → List ℕ
parts_of t = t.words ∷ t.slots ∷ t.views_name ∷ t.atom ∷ t.block ∷ t.offset ∷ t.slot_names

abbrev pub number_of : TableId → ℕ
number_of t = listed (parts_of t)

-- the number of an index over a table, which also tells how many lanes there may be
abbrev pub origin_of : ℕ → TableId → ℕ
origin_of lanes t = paired lanes (number_of t)
