-- Lists of lanes with their scripts.
use Rattle.std.proofs.Common.{◌≡◌, ℕ, suc, ◌+◌, ◌<◌, ◌≤◌, List, [], ◌∷◌, ◌++◌, length, sym, ◌∙◌, subst, arith}
use Rattle.std.specs.Prelude.{slice_index_or}
use Rattle.std.proofs.Common.{Option, false, Vec}
use Rattle.std.specs.declared.alloc.Global.{Global}
use Rattle.counts.specs.Counts.{RoseBy}
use Rattle.map_model.specs.History.{Entry}
use Rattle.lane_runner.specs.Runs.{ServesScript, NothingFits}
use Rattle.lane_runner.specs.Tasks.{Task, Ran, AllRan, AreReady, AreDone, AreForksOf, HaveSeen}

-- lanes of which each one ran, by its place, all ran
pub each_ran : (xs ys : List Task) → length ys ≡ length xs → ((i : ℕ) (d : Task) → i < length xs → Ran (slice_index_or xs i d) (slice_index_or ys i d)) → AllRan xs ys
each_ran [] [] same each = tt
each_ran [] (y ∷ ys) same each = absurd (omega (arith, same))
each_ran (x ∷ xs) [] same each = absurd (omega (arith, same))
each_ran (x ∷ xs) (y ∷ ys) same each = (each 0 x (omega arith), each_ran xs ys (omega (arith, same)) (λ i d less. each (suc i) d (omega (arith, less))))

-- where all lanes are forks of one index, the last one is, and so are the others; and where all have seen one history
pub of_split : (o : ℕ) (xs : List Task) (x : Task) → AreForksOf o (xs ++ x ∷ []) → AreForksOf o xs × (x.origin ≡ o) × (x.room ≡ 0)
of_split o [] x all = (tt, all.0, all.1)
of_split o (y ∷ xs) x all = let rest = of_split o xs x all.2 in ((all.0, all.1, rest.0), rest.1, rest.2)

pub seen_split : (h : List Entry) (xs : List Task) (x : Task) → HaveSeen h (xs ++ x ∷ []) → HaveSeen h xs × (x.seen ≡ h)
seen_split h [] x all = (tt, all.0)
seen_split h (y ∷ xs) x all = let rest = seen_split h xs x all.1 in ((all.0, rest.0), rest.1)

-- lanes that were ready, and ran, have served their scripts
pub done : (origin most : ℕ) (limit : Option ℕ) (seen : List Entry) (from upto : ℕ) (scripts : List (Vec ℕ Global)) (xs ys : List Task) → AreReady origin most limit seen from upto scripts xs → AllRan xs ys → AreDone most limit seen from upto scripts ys
done origin most limit seen from upto [] [] [] ready ran = ready
done origin most limit seen from upto [] [] (y ∷ ys) ready ran = absurd ran
done origin most limit seen from upto [] (x ∷ xs) ys ready ran = absurd ready
done origin most limit seen from upto (script ∷ scripts) [] ys ready ran = absurd ready
done origin most limit seen from upto (script ∷ scripts) (x ∷ xs) [] ready ran = absurd ran
done origin most limit seen from upto (script ∷ scripts) (x ∷ xs) (y ∷ ys) ready ran =
    let r = ran.0 in
    let served = r.served origin most limit seen script.items ready.1 in
    let rest = subst (λ n. AreReady origin most limit seen (n + 1) upto scripts xs) (sym r.same_lane) ready.2 in (
      subst (λ n. from ≤ n) (sym r.same_lane) ready.0,
      subst (λ n. n < most) (sym r.same_lane) ready.1.within,
      subst (λ n. (owes : ℕ) × ServesScript limit n false NothingFits script.items y.ending y.output owes seen y.seen × RoseBy owes 0 y.refusals) (sym r.same_lane) served,
      done origin most limit seen (y.lane + 1) upto scripts xs ys rest ran.1,
    )

-- and they are forks of the index that they were of
pub ran_of : (origin most : ℕ) (limit : Option ℕ) (seen : List Entry) (from upto : ℕ) (scripts : List (Vec ℕ Global)) (xs ys : List Task) → AreReady origin most limit seen from upto scripts xs → AllRan xs ys → AreForksOf origin ys
ran_of origin most limit seen from upto [] [] [] ready ran = tt
ran_of origin most limit seen from upto [] [] (y ∷ ys) ready ran = absurd ran
ran_of origin most limit seen from upto [] (x ∷ xs) ys ready ran = absurd ready
ran_of origin most limit seen from upto (script ∷ scripts) [] ys ready ran = absurd ready
ran_of origin most limit seen from upto (script ∷ scripts) (x ∷ xs) [] ready ran = absurd ran
ran_of origin most limit seen from upto (script ∷ scripts) (x ∷ xs) (y ∷ ys) ready ran =
    (ran.0.same_origin ∙ ready.1.same_origin, ran.0.same_room ∙ ready.1.no_room, ran_of origin most limit seen (x.lane + 1) upto scripts xs ys ready.2 ran.1)
