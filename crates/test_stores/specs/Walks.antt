-- A put and then a get, and a walk by parts.
use Rattle.std.specs.Prelude.{◌≡◌, ◌≢◌, ℕ, ◌+◌, List, [], ◌∷◌, ◌++◌, Bool, Option, Some, Result, Ok, Err, length}
use Rattle.std.specs.declared.cmp.Ordering.TheVariants.{Less, Greater}
use Rattle.key_bytes.specs.Bound.{bound_cmp}
use Rattle.key_bytes.specs.declared.bound.Bound.{Bound}
use Rattle.counts.specs.Counts.{Rose}
use Rattle.map_model.specs.declared.refusal.Refusal.{Refusal}
use Rattle.map_model.specs.declared.refusal.Refusal.TheVariants.{Again, Full, NoMemory}
use Rattle.map_model.specs.Maps.{Pairs}
use Rattle.map_model.specs.Calls as calls
use Rattle.map_model.specs.History.{Entry, own, entry_of}
use Rattle.map_model.specs.Ordered.{Grows, was_put}
use Rattle.map_model.specs.Parts.{pairs_of}

-- a put has its entry, and a get has the next one of the lane
abbrev pub PutsThenGets : ℕ → Bool → List ℕ → List ℕ → calls.Reply → List Entry → List Entry → Type 0
PutsThenGets lane sole key value reply old new = (was : Bool) × Grows lane sole
    (entry_of lane old (calls.Put key value) (was_put was) ∷ record { lane = lane; number = length (own lane old) + 1; call = calls.Get key; reply = reply } ∷ []) old new

-- some calls have their entries
abbrev pub Goes : ℕ → Bool → List Entry → List Entry → Type 0
Goes lane sole old new = (entries : List Entry) × Grows lane sole entries old new

-- the entries are parts that tile a range: each begins where the one before ended, and the last ends at the last end
abbrev pub Tile : Bound → Bound → List Entry → Bound → Type 0
Tile from to [] last = last ≡ from
Tile from to (e ∷ entries) last = (upto : Bound) × (e.call ≡ calls.Part from upto) × (bound_cmp from upto ≡ Less) × (bound_cmp upto to ≢ Greater) × Tile upto to entries last

-- parts that tile the range up to an end are new in the history, and their pairs were added
abbrev pub Walks : ℕ → Bool → Bound → Bound → Pairs (List ℕ) → Pairs (List ℕ) → Bound → List Entry → List Entry → Type 0
Walks lane sole from to before now last old new = (entries : List Entry) × Grows lane sole entries old new × Tile from to entries last × (now ≡ before ++ pairs_of entries)

-- a refusal for another lane or for want of room is one that the store counted, and its last
abbrev pub IsTold : {T : Type 0} → ℕ → ℕ → Option Refusal → Result T Refusal → Type 0
IsTold before now last (Ok x) = Unit {0}
IsTold before now last (Err NoMemory) = Unit {0}
IsTold before now last (Err (Again cause)) = Rose before now × (last ≡ Some (Again cause))
IsTold before now last (Err (Full cause)) = Rose before now × (last ≡ Some (Full cause))
