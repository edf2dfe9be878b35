-- Where lines are within a shape, there is room for what they put.
use Rattle.std.proofs.Common.{◌<◌, ◌≤◌, ◌/◌, ◌^◌, ℕ, List, arith}
use Rattle.std.proofs.lemmas.Nat.{le-div, mul-le}
use Rattle.history_sizes.specs.Sizes.{new_keys, longest_new, changes}
use Rattle.index_lane.specs.Causes.{Fits}
use Rattle.row_words.specs.Shape.{IsShape}
use Rattle.row_words.specs.declared.shape.Shape.{Shape}
use Rattle.sole_sessions.specs.PlainHistory.{plain_history}
use Rattle.sole_sessions.specs.Rooms.{HasRoomFor}
use Rattle.worm.specs.Runs.{IsWithin}

div_mono : (m n d : ℕ) → 0 < d → m ≤ n → m / d ≤ n / d
div_mono m n d some le = le-div (m / d) n d some (omega (arith, some, le))

pub within_room : (k : Shape) (lines : List (List ℕ)) → IsShape k → changes (plain_history lines) < 2 ^ 63 → IsWithin k lines → HasRoomFor (Fits k) lines
within_room k lines shape few within h smaller =
    let half : 0 < k.soft / 2 = omega (arith, shape.soft) in
    let leaves : new_keys h / (k.soft / 2) ≤ new_keys (plain_history lines) / (k.soft / 2) = div_mono (new_keys h) (new_keys (plain_history lines)) (k.soft / 2) half smaller.keys in
    let prefixes = mul-le (new_keys h / (k.soft / 2)) (longest_new h) (new_keys (plain_history lines) / (k.soft / 2)) (longest_new (plain_history lines)) leaves smaller.longest in record {
      changed = omega (arith, few, smaller.changed);
      live = omega (arith, within.keys, smaller.keys);
      split = omega (arith, leaves, within.leaves);
      prefixes = omega (arith, prefixes, within.prefixes);
    }
