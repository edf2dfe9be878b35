-- What is no larger than which history, and for what there is room then.
use Rattle.std.proofs.Common.{◌≡◌, ℕ, List, [], ◌∷◌, ◌++◌, map, refl, sym, ap, ◌∙◌, subst, arith}
use Rattle.std.proofs.lemmas.List.{map-append}
use mathlib.Core.List.{IsPrefix}
use Rattle.history_sizes.proofs.Rising.{new_keys-longer, longest_new-longer, changes-longer}
use Rattle.line_protocol.specs.Requests.{Asked, request}
use Rattle.map_model.specs.History.{Entry}
use Rattle.sole_sessions.specs.PlainHistory.{plain_entries, history_from}
use Rattle.sole_sessions.specs.Rooms.{IsNoLarger, HasRoomFor}

pub larger_then : (a b c : List Entry) → IsNoLarger a b → IsNoLarger b c → IsNoLarger a c
larger_then a b c first second = record { keys = omega (arith, first.keys, second.keys); longest = omega (arith, first.longest, second.longest); changed = omega (arith, first.changed, second.changed) }

-- A history that goes on is no smaller.
larger_behind : (h more : List Entry) → IsNoLarger h (h ++ more)
larger_behind h more = record { keys = new_keys-longer h more; longest = longest_new-longer h more; changed = changes-longer h more }

larger_itself : (h : List Entry) → IsNoLarger h h
larger_itself h = record { keys = omega arith; longest = omega arith; changed = omega arith }

pub larger_from : (h : List Entry) (all : List Asked) → IsNoLarger h (history_from h all)
larger_from h [] = larger_itself h
larger_from h (asked ∷ all) =
    larger_then h (h ++ plain_entries h asked) (history_from h (asked ∷ all)) (larger_behind h (plain_entries h asked)) (larger_from (h ++ plain_entries h asked) all)

history_from-append : (h : List Entry) (xs ys : List Asked) → history_from h (xs ++ ys) ≡ history_from (history_from h xs) ys
history_from-append h [] ys = refl
history_from-append h (x ∷ xs) ys = history_from-append (h ++ plain_entries h x) xs ys

-- what is no larger than a first part is no larger than all
pub larger_prefix : (g : List Entry) (xs all : List Asked) → IsPrefix xs all → IsNoLarger g (history_from [] xs) → IsNoLarger g (history_from [] all)
larger_prefix g xs all begins no_larger =
    let first = history_from [] xs in
    subst (λ w. IsNoLarger g (history_from [] w)) begins.1 (subst (IsNoLarger g) (sym (history_from-append [] xs begins.0)) (larger_then g first (history_from first begins.0) no_larger (larger_from first begins.0)))

-- There is room for some first part of what there is room for.
pub room_asked : (fits : List Entry → Type 0) (lines all : List (List ℕ)) → IsPrefix (map request lines) (map request all) → HasRoomFor fits all → HasRoomFor fits lines
room_asked fits lines all begins room g no_larger = room g (larger_prefix g (map request lines) (map request all) begins no_larger)

pub room_prefix : (fits : List Entry → Type 0) (lines all : List (List ℕ)) → IsPrefix lines all → HasRoomFor fits all → HasRoomFor fits lines
room_prefix fits lines all begins = room_asked fits lines all (map request begins.0, sym (map-append request lines begins.0) ∙ ap (map request) begins.1)
