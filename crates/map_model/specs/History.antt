-- Histories of calls: lists of entries, the oldest first.
use Rattle.std.specs.Prelude.{◌≡◌, ℕ, ◌+◌, ◌==◌, List, [], ◌∷◌, length, filter}
use Rattle.map_model.specs.Calls.{Call, Reply, answer_of, map_after}
use Rattle.map_model.specs.Maps.{Pairs}

-- a call of a lane, by its number among the calls of that lane, and its reply
pub record Entry : Type 0 where
  pub lane : ℕ
  pub number : ℕ
  pub call : Call
  pub reply : Reply

-- the map after these entries' calls, from a map on
abbrev pub map_from : Pairs (List ℕ) → List Entry → Pairs (List ℕ)
map_from m [] = m
map_from m (e ∷ h) = map_from (map_after m e.call) h

-- the map after the history's calls, from the empty map on
abbrev pub after : List Entry → Pairs (List ℕ)
after h = map_from [] h

-- each reply is what the map at its place answers
abbrev pub IsLegalFrom : Pairs (List ℕ) → List Entry → Type 0
IsLegalFrom m [] = Unit {0}
IsLegalFrom m (e ∷ h) = (e.reply ≡ answer_of m e.call) × IsLegalFrom (map_after m e.call) h

abbrev pub IsLegal : List Entry → Type 0
IsLegal h = IsLegalFrom [] h

-- the entries of one lane, in order
abbrev pub own : ℕ → List Entry → List Entry
own lane h = filter (λ (e : Entry). e.lane == lane) h

-- the numbers count up from n
abbrev pub CountsFrom : ℕ → List Entry → Type 0
CountsFrom n [] = Unit {0}
CountsFrom n (e ∷ h) = (e.number ≡ n) × CountsFrom (n + 1) h

-- the calls of each lane are numbered 0, 1, 2 and so on, so no call stands twice
abbrev pub IsNumbered : List Entry → Type 0
IsNumbered h = (lane : ℕ) → CountsFrom 0 (own lane h)

-- the entry that a call of the lane gets behind this history
abbrev pub entry_of : ℕ → List Entry → Call → Reply → Entry
entry_of lane h call reply = record { lane = lane; number = length (own lane h); call = call; reply = reply }
