-- A scan: parts one behind another, up to a number of pairs.
use Rattle.std.specs.Prelude.{◌≡◌, ◌≢◌, ◌<◌, ◌-◌, ◌==◌, ◌||◌, ℕ, List, [], ◌∷◌, Bool, true, false, not, length, Option, Some, None}
use Rattle.std.specs.Ordering.{is_lt}
use Rattle.std.specs.declared.cmp.Ordering.TheVariants.{Less, Greater}
use Rattle.key_bytes.specs.Bound.{bound_cmp}
use Rattle.key_bytes.specs.declared.bound.Bound.{Bound}
use Rattle.map_model.specs.Calls as calls
use Rattle.map_model.specs.History.{Entry}
use Rattle.map_model.specs.Parts.{pairs_in}
use Rattle.map_model.specs.declared.refusal.Refusal.{Refusal}
use Rattle.map_model.specs.declared.refusal.Refusal.TheVariants.{Again, Full, NoMemory}
use Rattle.patience.specs.Patience.{MayTell}
use Rattle.session.specs.Replies.{end_line, refusal_line}

-- the entries are parts: the first begins at the lower end, each next one where the one before ended, none ends past the upper end, and each is asked for while pairs are wanted
abbrev pub AreParts : Bound → Bound → ℕ → List Entry → Bound → Type 0
AreParts from to most [] last = last ≡ from
AreParts from to most (e ∷ entries) last =
    (upto : Bound) × (e.call ≡ calls.Part from upto) × (bound_cmp from upto ≡ Less) × (bound_cmp upto to ≢ Greater) × (0 < most) × AreParts upto to (most - length (pairs_in e.reply)) entries last

-- the range is used up, or there are as many pairs as are wanted
abbrev pub is_done : Bound → Bound → ℕ → ℕ → Bool
is_done last to most count = not (is_lt (bound_cmp last to)) || (most - count == 0)

-- what a part may be refused for
abbrev pub MayBreak : Option ℕ → Bool → Refusal → Type 0
MayBreak limit sole (Full cause) = ⊥
MayBreak limit sole (Again cause) = MayTell limit sole (Again cause)
MayBreak limit sole NoMemory = Unit {0}

-- a scan that is done ends with the number of its lines, and any other with the line of a refusal
abbrev pub EndsScan : Option ℕ → Bool → Bool → ℕ → List ℕ → Option Refusal → Type 0
EndsScan limit sole true count line refused = (line ≡ end_line count) × (refused ≡ None)
EndsScan limit sole false count line refused = (refusal : Refusal) × MayBreak limit sole refusal × (line ≡ refusal_line refusal) × (refused ≡ Some refusal)
