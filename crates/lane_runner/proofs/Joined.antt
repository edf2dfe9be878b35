-- The first lane's run and the forks' runs, put together to the run of all scripts.
use Rattle.std.proofs.Common.{◌≡◌, ℕ, suc, ◌+◌, ◌<◌, ◌≤◌, List, [], ◌∷◌, ◌++◌, length, reverse, Bool, false, IsTrue, sym, ap, ◌∙◌, refl, subst, arith, Option, Vec}
use Rattle.std.specs.Prelude.{slice_index_or}
use Rattle.std.specs.List.{remove}
use Rattle.std.proofs.lemmas.List.{reverse-append}
use mathlib.Core.Bool.{false≢true}
use Rattle.std.specs.declared.alloc.Global.{Global}
use Rattle.map_model.specs.History.{Entry, own}
use Rattle.lane_runner.specs.declared.slot.LaneEnd.{LaneEnd}
use Rattle.lane_runner.specs.Runs.{ServesScript, NothingFits, AllServe, AllEnd, FirstServes, LanesServe, EachServes, PlacesServe}
use Rattle.lane_runner.specs.Tasks.{Task, AreReady, AreDone, AllRan, AreForksOf}
use Rattle.lane_runner.proofs.Running.{done, ran_of}
use Rattle.lane_runner.proofs.Ending.{first_moves}
use Rattle.lane_runner.proofs.Serving.{serves_weaker}

-- what was taken from the front, and what is left
pub taken_first : (xs tail : List (Vec ℕ Global)) (head : Vec ℕ Global) → 0 < length xs → head ≡ slice_index_or xs 0 head → tail ≡ remove xs 0 → xs ≡ head ∷ tail
taken_first [] tail head some is rest = absurd (omega (arith, some))
taken_first (x ∷ xs) tail head some is rest = let h : head ≡ x = is in let t : tail ≡ xs = rest in cc (h, t)

-- What follows once the ready lanes have run.
module _ (lane origin most : ℕ) (limit : Option ℕ) (seen : List Entry) (upto : ℕ) (tail : List (Vec ℕ Global)) (slots slots' : List Task) (ready : AreReady origin most limit seen (lane + 1) upto tail slots) (ran : AllRan slots slots') where
  pub all_done : AreDone most limit seen (lane + 1) upto tail slots'
  all_done = done origin most limit seen (lane + 1) upto tail slots slots' ready ran

  pub all_of : AreForksOf origin slots'
  all_of = ran_of origin most limit seen (lane + 1) upto tail slots slots' ready ran

  -- The first lane served its script, and the others were ended into it.
  pub all_ran : (less fits : List Entry → Type 0) → ((h : List Entry) → fits h → less h) → (scripts : List (Vec ℕ Global)) (head : Vec ℕ Global) (end : LaneEnd) (ends : List LaneEnd) (sole sole_now : Bool) (count middle next : ℕ) (mid later : List Entry) → scripts ≡ head ∷ tail → sole_now ≡ sole
      → (0 < length tail → sole ≡ false) → FirstServes limit lane sole less head.items end count middle seen mid → AllEnd limit (lane + 1) most tail (reverse ends) middle next seen later → own lane later ≡ own lane mid → (length tail ≡ 0 → later ≡ mid)
      → LanesServe limit lane sole_now fits most scripts (reverse (ends ++ end ∷ [])) count next seen later
  all_ran less fits fewer scripts head end ends sole sole_now count middle next mid later is_scripts is_sole among first others mine none =
      let alone : IsTrue sole → later ≡ mid = λ is. none (some is tail refl) in
      let moved = first_moves limit lane sole less head.items end.ending end.output first.0 seen mid later mine alone first.1 in
      let served = serves_weaker limit lane sole less fits fewer head.items end.ending end.output first.0 seen later moved in
      let all : LanesServe limit lane sole fits most (head ∷ tail) (end ∷ reverse ends) count next seen later = (first.0, others.0, omega (arith, first.2, others.2), served, others.1) in
      subst (λ b. LanesServe limit lane b fits most scripts (reverse (ends ++ end ∷ [])) count next seen later) (sym is_sole)
      (subst (λ w. LanesServe limit lane sole fits most scripts w count next seen later) (sym (reverse-append ends (end ∷ [])))
      (subst (λ w. LanesServe limit lane sole fits most w (end ∷ reverse ends) count next seen later) (sym is_scripts) all))
    where
      -- a first lane that is still alone has forked none, so that there are no further scripts
      some : IsTrue sole → (t : List (Vec ℕ Global)) → t ≡ tail → length tail ≡ 0
      some is [] e = ap length (sym e)
      some is (s ∷ t) e = absurd (false≢true (sym (among (omega (arith, ap length e))) ∙ is))

ready_length : (origin most : ℕ) (limit : Option ℕ) (seen : List Entry) (from upto : ℕ) (scripts : List (Vec ℕ Global)) (slots : List Task) → AreReady origin most limit seen from upto scripts slots → length slots ≡ length scripts
ready_length origin most limit seen from upto [] [] all = refl
ready_length origin most limit seen from upto [] (s ∷ slots) all = absurd all
ready_length origin most limit seen from upto (t ∷ scripts) [] all = absurd all
ready_length origin most limit seen from upto (t ∷ scripts) (s ∷ slots) all = ap suc (ready_length origin most limit seen (s.lane + 1) upto scripts slots all.2)

ran_length : (xs ys : List Task) → AllRan xs ys → length ys ≡ length xs
ran_length [] [] ran = refl
ran_length [] (y ∷ ys) ran = absurd ran
ran_length (x ∷ xs) [] ran = absurd ran
ran_length (x ∷ xs) (y ∷ ys) ran = ap suc (ran_length xs ys ran.1)

-- there are as many lanes as scripts
pub same_length : (origin most : ℕ) (limit : Option ℕ) (seen : List Entry) (from upto : ℕ) (scripts : List (Vec ℕ Global)) (slots slots' : List Task) → AreReady origin most limit seen from upto scripts slots → AllRan slots slots' → length slots' ≡ length scripts
same_length origin most limit seen from upto scripts slots slots' ready ran = ran_length slots slots' ran ∙ ready_length origin most limit seen from upto scripts slots ready

-- lanes with ascending numbers from one to below an end are no more than the numbers between
all_below : (limit : Option ℕ) (from most : ℕ) (script : Vec ℕ Global) (scripts : List (Vec ℕ Global)) (ends : List LaneEnd) (owes : ℕ) (before now : List Entry) → AllServe limit from most (script ∷ scripts) ends owes before now → from + length (script ∷ scripts) ≤ most
all_below limit from most script scripts [] owes before now all = absurd all
all_below limit from most script [] (end ∷ ends) owes before now all = omega (arith, all.3, all.4)
all_below limit from most script (next ∷ scripts) (end ∷ ends) owes before now all = omega (arith, all.3, all_below limit (all.0 + 1) most next scripts ends all.2 before now all.7)

rest_below : (limit : Option ℕ) (from most : ℕ) (scripts : List (Vec ℕ Global)) (ends : List LaneEnd) (owes : ℕ) (before now : List Entry) → from ≤ most → AllServe limit from most scripts ends owes before now → from + length scripts ≤ most
rest_below limit from most [] ends owes before now low all = omega (arith, low)
rest_below limit from most (script ∷ scripts) ends owes before now low all = all_below limit from most script scripts ends owes before now all

-- where they are as many, each has the number of its place
each_serves : (limit : Option ℕ) (from most : ℕ) (scripts : List (Vec ℕ Global)) (ends : List LaneEnd) (owes : ℕ) (before now : List Entry) → from + length scripts ≡ most → AllServe limit from most scripts ends owes before now → EachServes limit from scripts ends owes before now
each_serves limit from most [] [] owes before now same all = all
each_serves limit from most [] (end ∷ ends) owes before now same all = absurd all
each_serves limit from most (script ∷ scripts) [] owes before now same all = absurd all
each_serves limit from most (script ∷ scripts) (end ∷ ends) owes before now same all =
    let lane = all.0 in
    let below = rest_below limit (lane + 1) most scripts ends all.2 before now (omega (arith, all.4)) all.7 in
    let is : lane ≡ from = omega (arith, same, all.3, below) in (
      all.1,
      all.2,
      all.5,
      subst (λ n. ServesScript limit n false NothingFits script.items end.ending end.output all.1 before now) is all.6,
      subst (λ n. EachServes limit (n + 1) scripts ends all.2 before now) is (each_serves limit (lane + 1) most scripts ends all.2 before now (omega (arith, same, is)) all.7),
    )

-- so where there are as many scripts as lanes, lane i served script i
pub places_serve : (limit : Option ℕ) (lane : ℕ) (sole : Bool) (fits : List Entry → Type 0) (most : ℕ) (scripts : List (Vec ℕ Global)) (ends : List LaneEnd) (count next : ℕ) (before now : List Entry) → lane < most → most ≡ length scripts → LanesServe limit lane sole fits most scripts ends count next before now → PlacesServe limit sole fits scripts ends count next before now
places_serve limit lane sole fits most [] ends count next before now within same all = absurd all
places_serve limit lane sole fits most (script ∷ scripts) [] count next before now within same all = absurd all
places_serve limit lane sole fits most (script ∷ scripts) (end ∷ ends) count next before now within same all =
    let below = rest_below limit (lane + 1) most scripts ends all.1 before now (omega (arith, within)) all.4 in
    let is : lane ≡ 0 = omega (arith, same, below) in (
      all.0,
      all.1,
      all.2,
      subst (λ n. ServesScript limit n sole fits script.items end.ending end.output all.0 before now) is all.3,
      each_serves limit 1 most scripts ends all.1 before now (omega (arith, same)) (subst (λ n. AllServe limit (n + 1) most scripts ends all.1 before now) is all.4),
    )
