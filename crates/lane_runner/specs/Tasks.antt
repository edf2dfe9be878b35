-- A lane with its script, before it has served it and after.
use Rattle.std.specs.Prelude.{◌≡◌, ◌≤◌, ◌<◌, ◌+◌, ℕ, List, [], ◌∷◌, Bool, false, Option, Vec}
use Rattle.std.specs.declared.alloc.Global.{Global}
use Rattle.counts.specs.Counts.{RoseBy}
use Rattle.map_model.specs.History.{Entry}
use Rattle.outside.specs.Reading.{Told}
use Rattle.session.specs.declared.session.SessionEnd.{SessionEnd}
use Rattle.lane_runner.specs.Runs.{ServesScript, NothingFits}

-- a lane, what is known of its store, its script, the replies so far and how its session ended
pub record Task : Type 0 where
  pub lane : ℕ
  pub sole : Bool
  pub origin : ℕ
  pub room : ℕ
  pub refusals : ℕ
  pub seen : List Entry
  pub limit : Option ℕ
  pub script : Told
  pub output : List ℕ
  pub ending : SessionEnd

-- The lane is a fork of this index that has seen this history, and served nothing of this script yet.
pub record IsReady (origin most : ℕ) (limit : Option ℕ) (seen : List Entry) (script : List ℕ) (t : Task) : Type 0 where
  pub within : t.lane < most
  pub among : t.sole ≡ false
  pub same_origin : t.origin ≡ origin
  pub no_room : t.room ≡ 0
  pub uncounted : t.refusals ≡ 0
  pub same_seen : t.seen ≡ seen
  pub same_limit : t.limit ≡ limit
  pub whole : t.script ≡ record { given = []; left = script; ended = false }
  pub silent : t.output ≡ []

-- There is a lane for each script, all are ready, and their numbers ascend, from a first one to below an end.
abbrev pub AreReady : ℕ → ℕ → Option ℕ → List Entry → ℕ → ℕ → List (Vec ℕ Global) → List Task → Type 0
AreReady origin most limit seen from upto [] [] = from ≤ upto
AreReady origin most limit seen from upto [] (t ∷ tasks) = ⊥
AreReady origin most limit seen from upto (script ∷ scripts) [] = ⊥
AreReady origin most limit seen from upto (script ∷ scripts) (t ∷ tasks) =
    (from ≤ t.lane) × IsReady origin most limit seen script.items t × AreReady origin most limit seen (t.lane + 1) upto scripts tasks

-- The lane is the same one, and if it was ready, it has served its script.
pub record Ran (old new : Task) : Type 0 where
  pub same_lane : new.lane ≡ old.lane
  pub same_origin : new.origin ≡ old.origin
  pub same_room : new.room ≡ old.room
  pub served : (origin most : ℕ) (limit : Option ℕ) (seen : List Entry) (script : List ℕ) → IsReady origin most limit seen script old
      → (owes : ℕ) × ServesScript limit old.lane false NothingFits script new.ending new.output owes seen new.seen × RoseBy owes 0 new.refusals

-- each of these lanes ran
abbrev pub AllRan : List Task → List Task → Type 0
AllRan [] [] = Unit {0}
AllRan [] (t ∷ new) = ⊥
AllRan (s ∷ old) [] = ⊥
AllRan (s ∷ old) (t ∷ new) = Ran s t × AllRan old new

-- There is a lane for each script, all have served theirs behind this history, and their numbers ascend, from a first one to below an end.
abbrev pub AreDone : ℕ → Option ℕ → List Entry → ℕ → ℕ → List (Vec ℕ Global) → List Task → Type 0
AreDone most limit before from upto [] [] = from ≤ upto
AreDone most limit before from upto [] (t ∷ tasks) = ⊥
AreDone most limit before from upto (script ∷ scripts) [] = ⊥
AreDone most limit before from upto (script ∷ scripts) (t ∷ tasks) =
    (from ≤ t.lane) × (t.lane < most)
    × ((owes : ℕ) × ServesScript limit t.lane false NothingFits script.items t.ending t.output owes before t.seen × RoseBy owes 0 t.refusals)
    × AreDone most limit before (t.lane + 1) upto scripts tasks

-- each lane belongs to the index of this origin, and makes no forks itself
abbrev pub AreForksOf : ℕ → List Task → Type 0
AreForksOf origin [] = Unit {0}
AreForksOf origin (t ∷ tasks) = (t.origin ≡ origin) × (t.room ≡ 0) × AreForksOf origin tasks

-- all lanes have seen this history
abbrev pub HaveSeen : List Entry → List Task → Type 0
HaveSeen seen [] = Unit {0}
HaveSeen seen (t ∷ tasks) = (t.seen ≡ seen) × HaveSeen seen tasks
