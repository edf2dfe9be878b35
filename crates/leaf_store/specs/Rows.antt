-- What holds of a leaf's rows and tags.
use Rattle.std.specs.Prelude.{◌≡◌, ℕ, ◌+◌, ◌≤◌, ◌==◌, ◌&&◌, Bool, true, false, IsTrue, List, [], ◌∷◌, length}
use Rattle.key_bytes.specs.Order.{is_same}
use Rattle.leaf_store.specs.Tag.{tag_of}
use Rattle.map_model.specs.Maps.{Pairs}
use Rattle.leaf_store.specs.Order.{ArePlaces, AreInOrder}

-- 1 for a truth, so that truths can be counted
abbrev pub bit : Bool → ℕ
bit true = 1
bit false = 0

-- the sum of f over a list
abbrev pub total : {X : Type 0} → (X → ℕ) → List X → ℕ
total f [] = 0
total f (x ∷ xs) = f x + total f xs

-- how many rows have the key
abbrev pub many : {V : Type 0} → List ℕ → Pairs V → ℕ
many {V} key rows = total (λ (p : List ℕ × V). bit (is_same p.0 key)) rows

-- no key stands twice
abbrev pub AreOnce : {V : Type 0} → Pairs V → Type 0
AreOnce rows = (key : List ℕ) → many key rows ≤ 1

-- whether two pairs of numbers are the same
abbrev pub is_pair : ℕ × ℕ → ℕ × ℕ → Bool
is_pair p q = (p.0 == q.0) && (p.1 == q.1)

-- how often a pair stands among tags
abbrev pub times : ℕ × ℕ → List (ℕ × ℕ) → ℕ
times q pairs = total (λ (p : ℕ × ℕ). bit (is_pair q p)) pairs

-- the rows' tags with their places, from place i on
abbrev pub places : {V : Type 0} → ℕ → ℕ → Pairs V → List (ℕ × ℕ)
places salt i [] = []
places salt i (row ∷ rows) = (tag_of salt row.0, i) ∷ places salt (i + 1) rows

-- these are the rows' tags, each with its row's place
abbrev pub AreTags : {V : Type 0} → ℕ → Pairs V → List (ℕ × ℕ) → Type 0
AreTags salt rows pairs = (q : ℕ × ℕ) → times q pairs ≡ times q (places salt 0 rows)

-- rows, tags and the places of the first rows fit together, and the order is known where it is said to be
pub record IsLeaf {V : Type 0} (salt : ℕ) (rows : Pairs V) (pairs : List (ℕ × ℕ)) (order : List ℕ) (ordered : Bool) : Type 0 where
  pub keys : AreOnce rows
  pub tags : AreTags salt rows pairs
  pub places : ArePlaces order
  pub few : length order ≤ length rows
  pub known : IsTrue ordered → AreInOrder rows order
