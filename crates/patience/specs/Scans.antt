-- A scan: parts one behind another, whose pairs are handed on.
use Rattle.std.specs.Prelude.{◌≡◌, ◌≢◌, ◌⊎◌, ℕ, List, [], ◌∷◌, Bool, true, false}
use Rattle.std.specs.Ordering.{is_lt}
use Rattle.std.specs.declared.cmp.Ordering.TheVariants.{Less, Greater}
use Rattle.key_bytes.specs.Bound.{bound_cmp}
use Rattle.key_bytes.specs.declared.bound.Bound.{Bound}
use Rattle.map_model.specs.Maps.{Pairs}
use Rattle.map_model.specs.Calls as calls
use Rattle.map_model.specs.History.{Entry}
use Rattle.map_model.specs.Ordered.{Grows}
use Rattle.map_model.specs.Parts.{pairs_of}

-- the entries are parts that tile a range: each begins where the one before ended, and the last ends at the last end
abbrev pub Tile : Bound → Bound → List Entry → Bound → Type 0
Tile from to [] last = last ≡ from
Tile from to (e ∷ entries) last = (upto : Bound) × (e.call ≡ calls.Part from upto) × (bound_cmp from upto ≡ Less) × (bound_cmp upto to ≢ Greater) × Tile upto to entries last

-- a closure was called at the pairs in order for as long as it answered true: at all of them, or as far as the one at which it answered false
abbrev pub HandsOn : {F : Type 0} → (F → List ℕ → List ℕ → Bool → F → Type 0) → F → Pairs (List ℕ) → Bool → F → Type 0
HandsOn called f [] whole last = (whole ≡ true) × (last ≡ f)
HandsOn {F} called f (pair ∷ pairs) whole last =
    (next : F) × ((called f pair.0 pair.1 true next × HandsOn called next pairs whole last) ⊎ (called f pair.0 pair.1 false next × (whole ≡ false) × (last ≡ next)))

-- parts that tile the range as far as an end are new in the history, and their pairs were handed on
abbrev pub Hands : {F : Type 0} → (F → List ℕ → List ℕ → Bool → F → Type 0) → ℕ → Bool → Bound → Bound → Bound → F → Bool → F → List Entry → List Entry → Type 0
Hands called lane sole from to upto f whole last old new = (entries : List Entry) × Grows lane sole entries old new × Tile from to entries upto × HandsOn called f (pairs_of entries) whole last

-- such parts, and where none is left, up to the range's upper end
abbrev pub Scans : {F : Type 0} → (F → List ℕ → List ℕ → Bool → F → Type 0) → ℕ → Bool → Bound → Bound → F → Bool → List Entry → List Entry → Type 0
Scans {F} called lane sole from to f whole old new = (upto : Bound) × (last : F) × (whole ≡ true → is_lt (bound_cmp upto to) ≡ false) × Hands called lane sole from to upto f whole last old new

-- such parts, and then a refusal
abbrev pub Breaks : {F : Type 0} → (F → List ℕ → List ℕ → Bool → F → Type 0) → ℕ → Bool → Bound → Bound → F → List Entry → List Entry → Type 0
Breaks {F} called lane sole from to f old new = (upto : Bound) × (last : F) × Hands called lane sole from to upto f true last old new
