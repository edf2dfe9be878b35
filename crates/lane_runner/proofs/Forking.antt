-- What is known of the lanes while they are forked one by one, and where a fork is refused.
use Rattle.std.proofs.Common.{◌≡◌, ℕ, ◌+◌, ◌<◌, ◌≤◌, List, [], ◌∷◌, ◌++◌, Option, Vec, Err, arith}
use Rattle.std.specs.declared.alloc.Global.{Global}
use Rattle.map_model.specs.History.{Entry}
use Rattle.map_model.specs.Lanes.{ForksByRoom, TellsLanes}
use Rattle.map_model.specs.declared.refusal.ForkFault.{ForkFault}
use Rattle.map_model.specs.declared.refusal.ForkFault.TheVariants as faults
use Rattle.lane_runner.specs.Runs.{TellsRoom, LeavesRoom}
use Rattle.lane_runner.specs.Tasks.{Task, IsReady, AreReady, AreForksOf, HaveSeen}

-- a fork with a higher number joins the ready lanes, and the next script is its own
pub ready_push : (origin most : ℕ) (limit : Option ℕ) (seen : List Entry) (from upto next : ℕ) (scripts : List (Vec ℕ Global)) (slots : List Task) (script : Vec ℕ Global) (x : Task)
    → AreReady origin most limit seen from upto scripts slots → IsReady origin most limit seen script.items x → upto ≤ x.lane → x.lane < next → AreReady origin most limit seen from next (scripts ++ script ∷ []) (slots ++ x ∷ [])
ready_push origin most limit seen from upto next [] [] script x all is low high = (omega (arith, low, all), is, omega (arith, high))
ready_push origin most limit seen from upto next [] (s ∷ slots) script x all is low high = absurd all
ready_push origin most limit seen from upto next (t ∷ scripts) [] script x all is low high = absurd all
ready_push origin most limit seen from upto next (t ∷ scripts) (s ∷ slots) script x all is low high = (all.0, all.1, ready_push origin most limit seen (s.lane + 1) upto next scripts slots script x all.2 is low high)

-- lanes that are ready are forks of one index
pub ready_of : (origin most : ℕ) (limit : Option ℕ) (seen : List Entry) (from upto : ℕ) (scripts : List (Vec ℕ Global)) (slots : List Task) → AreReady origin most limit seen from upto scripts slots → AreForksOf origin slots
ready_of origin most limit seen from upto [] [] all = tt
ready_of origin most limit seen from upto [] (s ∷ slots) all = absurd all
ready_of origin most limit seen from upto (t ∷ scripts) [] all = absurd all
ready_of origin most limit seen from upto (t ∷ scripts) (s ∷ slots) all = (all.1.same_origin, all.1.no_room, ready_of origin most limit seen (s.lane + 1) upto scripts slots all.2)

-- and have seen the same
pub ready_seen : (origin most : ℕ) (limit : Option ℕ) (seen : List Entry) (from upto : ℕ) (scripts : List (Vec ℕ Global)) (slots : List Task) → AreReady origin most limit seen from upto scripts slots → HaveSeen seen slots
ready_seen origin most limit seen from upto [] [] all = tt
ready_seen origin most limit seen from upto [] (s ∷ slots) all = absurd all
ready_seen origin most limit seen from upto (t ∷ scripts) [] all = absurd all
ready_seen origin most limit seen from upto (t ∷ scripts) (s ∷ slots) all = (all.1.same_seen, ready_seen origin most limit seen (s.lane + 1) upto scripts slots all.2)

-- what a refused fork says of lanes is so of all the forks that were asked for
pub refused_forks : (T S : Type 0) (before now room forks most : ℕ) (fault : ForkFault)
    → ForksByRoom {T = T} before now (Err fault) → (before ≡ 0 → TellsLanes {T = T} most (Err fault)) → (before ≡ 0 → room < forks) → TellsRoom {T = S} room forks most (Err fault)
refused_forks T S before now room forks most (faults.Lanes given cap) by told less = (less by.0, told by.0)
refused_forks T S before now room forks most faults.NoMemory by told less = tt

-- and of one script fewer than there are
pub refused_run : (T S : Type 0) (room forks more most : ℕ) (fault : ForkFault) → forks ≡ more → TellsRoom {T = T} room forks most (Err fault) → TellsRoom {T = S} room more most (Err fault)
refused_run T S room forks more most (faults.Lanes given cap) same told = (omega (arith, same, told.0), told.1)
refused_run T S room forks more most faults.NoMemory same told = tt

-- the forks that were made before one was refused took as much of the room
pub forks_leave : (T S : Type 0) (before now room made forks last : ℕ) (fault : ForkFault)
    → ForksByRoom {T = T} before now (Err fault) → room ≡ before + made → made ≤ forks → last ≡ now → LeavesRoom {T = S} room forks last (Err fault)
forks_leave T S before now room made forks last (faults.Lanes given cap) by is less same = omega (arith, by.1, same)
forks_leave T S before now room made forks last faults.NoMemory by is less same = (omega (arith, by, is, same), omega (arith, by, is, less, same))

-- and so they do of one script fewer than there are
pub run_leaves : (T S : Type 0) (before forks more now : ℕ) (fault : ForkFault) → forks ≡ more → LeavesRoom {T = T} before forks now (Err fault) → LeavesRoom {T = S} before more now (Err fault)
run_leaves T S before forks more now (faults.Lanes given cap) same left = left
run_leaves T S before forks more now faults.NoMemory same left = (left.0, omega (arith, same, left.1))
