-- Maps from byte strings, as the lists of their pairs by ascending keys.
use Rattle.std.specs.Prelude.{◌≡◌, ℕ, List, [], ◌∷◌, ◌++◌, Bool, true, not, ◌&&◌, if◌then◌else◌, Option, Some, None, filter}
use Rattle.std.specs.List.{AllByRecursion}
use Rattle.key_bytes.specs.Order.{is_below, is_same}
use Rattle.key_bytes.specs.Bound.{is_under}
use Rattle.key_bytes.specs.declared.bound.Bound.{Bound}

-- keys, each with its value
abbrev pub Pairs : Type 0 → Type 0
Pairs V = List (List ℕ × V)

-- each key is below those after it
abbrev pub IsMap : {V : Type 0} → Pairs V → Type 0
IsMap [] = Unit {0}
IsMap {V} (pair ∷ pairs) = AllByRecursion (λ (q : List ℕ × V). is_below pair.0 q.0 ≡ true) pairs × IsMap pairs

-- the value at the key: the first one, in a list in any order
abbrev pub find : {V : Type 0} → Pairs V → List ℕ → Option V
find [] key = None
find (pair ∷ pairs) key = if is_same pair.0 key then Some pair.1 else find pairs key

-- the pairs whose key passes a test
abbrev pub keep : {V : Type 0} → (List ℕ → Bool) → Pairs V → Pairs V
keep {V} test pairs = filter (λ (p : List ℕ × V). test p.0) pairs

-- the pairs below the key, the pair with this value, and the pairs above it
abbrev pub with : {V : Type 0} → Pairs V → List ℕ → V → Pairs V
with pairs key value = keep (λ k. is_below k key) pairs ++ (key, value) ∷ keep (λ k. is_below key k) pairs

-- the pairs with another key
abbrev pub without : {V : Type 0} → Pairs V → List ℕ → Pairs V
without pairs key = keep (λ k. not (is_same k key)) pairs

-- the key isn't below the lower end, and is below the upper one
abbrev pub is_in : Bound → Bound → List ℕ → Bool
is_in from upto key = not (is_under from key) && is_under upto key

-- the pairs whose key is between two ends
abbrev pub between : {V : Type 0} → Pairs V → Bound → Bound → Pairs V
between pairs from upto = keep (is_in from upto) pairs

-- the map that a list of pairs in any order stands for
abbrev pub sorted : {V : Type 0} → Pairs V → Pairs V
sorted [] = []
sorted (pair ∷ pairs) = with (sorted pairs) pair.0 pair.1
