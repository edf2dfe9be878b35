-- Lists of lanes, of each of which something holds.
use Rattle.std.proofs.Common.{◌≡◌, ℕ, suc, ◌+◌, ◌<◌, ◌≤◌, List, [], ◌∷◌, ◌++◌, length, map, ap, refl, ◌∙◌, Err, arith}
use Rattle.std.specs.Prelude.{slice_index_or}
use Rattle.std.specs.List.{AllByRecursion}
use Rattle.map_model.specs.Lanes.{ForksByRoom, TellsLanes}
use Rattle.map_model.specs.declared.refusal.ForkFault.{ForkFault}
use Rattle.map_model.specs.declared.refusal.ForkFault.TheVariants as faults
use Rattle.index_server.specs.Ends.{TellsRoom, LeavesRoom}
use Rattle.index_server.specs.declared.end.DoorEnd.TheVariants.{Lanes}

pub all_push : {X : Type 0} (P : X → Type 0) (xs : List X) (x : X) → AllByRecursion P xs → P x → AllByRecursion P (xs ++ x ∷ [])
all_push P [] x all last = (last, tt)
all_push P (y ∷ xs) x all last = (all.0, all_push P xs x all.1 last)

pub all_pop : {X : Type 0} (P : X → Type 0) (xs : List X) (x : X) → AllByRecursion P (xs ++ x ∷ []) → AllByRecursion P xs × P x
all_pop P [] x all = (tt, all.0)
all_pop P (y ∷ xs) x all = let rest = all_pop P xs x all.1 in ((all.0, rest.0), rest.1)

-- numbers that stayed at each place are the same list
pub each_same : {X : Type 0} (f : X → ℕ) (xs ys : List X) → length ys ≡ length xs → ((i : ℕ) (d : X) → i < length xs → f (slice_index_or ys i d) ≡ f (slice_index_or xs i d)) → map f ys ≡ map f xs
each_same f [] [] same each = refl
each_same f [] (y ∷ ys) same each = absurd (omega (arith, same))
each_same f (x ∷ xs) [] same each = absurd (omega (arith, same))
each_same f (x ∷ xs) (y ∷ ys) same each =
    let rest = each_same f xs ys (omega (arith, same)) (λ i d less. each (suc i) d (omega (arith, less))) in
    ap (λ n. n ∷ map f ys) (each 0 x (omega arith)) ∙ ap (λ l. f x ∷ l) rest

-- what is equal to two numbers stays so
pub all_same : {X : Type 0} (f g : X → ℕ) (n m : ℕ) (xs ys : List X) → map f ys ≡ map f xs → map g ys ≡ map g xs → AllByRecursion (λ x. (f x ≡ n) × (g x ≡ m)) xs → AllByRecursion (λ x. (f x ≡ n) × (g x ≡ m)) ys
all_same f g n m [] [] same alike all = tt
all_same f g n m [] (y ∷ ys) same alike all = absurd (cc same)
all_same f g n m (x ∷ xs) [] same alike all = absurd (cc same)
all_same f g n m (x ∷ xs) (y ∷ ys) same alike all =
    let head : f y ≡ f x = cc same in
    let tail : map f ys ≡ map f xs = cc same in
    let first : g y ≡ g x = cc alike in
    let rest : map g ys ≡ map g xs = cc alike in
    ((head ∙ all.0.0, first ∙ all.0.1), all_same f g n m xs ys tail rest all.1)

-- what a refused fork says of lanes is so of all the forks that are needed
pub refused_fork : (T : Type 0) (before now room forks most : ℕ) (fault : ForkFault)
    → ForksByRoom {T = T} before now (Err fault) → (before ≡ 0 → TellsLanes {T = T} most (Err fault)) → (before ≡ 0 → room < forks) → 0 < forks → TellsRoom room forks most (Lanes fault)
refused_fork T before now room forks most (faults.Lanes given cap) by told less some = (less by.0, told by.0)
refused_fork T before now room forks most faults.NoMemory by told less some = some

-- and so is what the forks before it took of the room
pub refused_left : (T : Type 0) (before now room made forks last : ℕ) (fault : ForkFault)
    → ForksByRoom {T = T} before now (Err fault) → room ≡ before + made → made ≤ forks → last ≡ now → LeavesRoom room forks last (Lanes fault)
refused_left T before now room made forks last (faults.Lanes given cap) by is less same = omega (arith, by.1, same)
refused_left T before now room made forks last faults.NoMemory by is less same = (omega (arith, by, is, same), omega (arith, by, is, less, same))
