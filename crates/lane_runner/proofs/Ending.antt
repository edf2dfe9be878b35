-- The lanes are ended from the last one to the first: what is known in between, and how each end keeps it.
use Rattle.std.proofs.Common.{◌≡◌, ℕ, ◌+◌, ◌-◌, ◌^◌, ◌<◌, ◌≤◌, min, List, [], ◌∷◌, ◌++◌, reverse, Bool, false, IsTrue, refl, sym, ap, ◌∙◌, subst, append_assoc, arith, Option, Vec}
use Rattle.std.proofs.lemmas.List.{append-nil, reverse-append}
use mathlib.Core.Bool.{false≢true}
use Rattle.std.specs.declared.alloc.Global.{Global}
use Rattle.counts.specs.Counts.{RoseBy}
use Rattle.map_model.specs.History.{Entry, own}
use Rattle.session.specs.declared.session.SessionEnd.{SessionEnd}
use Rattle.lane_runner.specs.declared.slot.LaneEnd.{LaneEnd}
use Rattle.lane_runner.specs.Runs.{ServesScript, NothingFits, AllServe, AllEnd}
use Rattle.lane_runner.specs.Tasks.{Task, AreDone}

-- Each script was served by a lane of its own, as above, and the store that sees this history has seen all calls of each of them.
abbrev pub AllSeen : (ℕ → Type 0) → Option ℕ → ℕ → ℕ → List (Vec ℕ Global) → List LaneEnd → ℕ → List Entry → List Entry → Type 0
AllSeen has limit from most [] [] owes before now = owes ≡ 0
AllSeen has limit from most [] (end ∷ ends) owes before now = ⊥
AllSeen has limit from most (script ∷ scripts) [] owes before now = ⊥
AllSeen has limit from most (script ∷ scripts) (end ∷ ends) owes before now =
    (lane : ℕ) × (mine : ℕ) × (others : ℕ) × (from ≤ lane) × (lane < most) × (owes ≡ mine + others) × has lane
    × ServesScript limit lane false NothingFits script.items end.ending end.output mine before now
    × AllSeen has limit (lane + 1) most scripts ends others before now

-- What a lane served stays where the history goes on without entries of the lane; where the lane is alone, it doesn't go on.
pub first_moves : (limit : Option ℕ) (lane : ℕ) (sole : Bool) (fits : List Entry → Type 0) (script : List ℕ) (end : SessionEnd) (output : List ℕ) (owes : ℕ) (before now next : List Entry) → own lane next ≡ own lane now → (IsTrue sole → next ≡ now) → ServesScript limit lane sole fits script end output owes before now → ServesScript limit lane sole fits script end output owes before next
first_moves limit lane sole fits script end output owes before now next same alone s = record {
  lines = s.lines;
  entries = s.entries;
  text = s.text;
  of_script = s.of_script;
  said = s.said;
  mine = same ∙ s.mine;
  alone = λ is. alone is ∙ s.alone is;
  transcript = s.transcript;
  owed = s.owed;
}

-- so of a fork, which isn't alone
serves_moves : (limit : Option ℕ) (lane : ℕ) (script : List ℕ) (end : SessionEnd) (output : List ℕ) (owes : ℕ) (before now next : List Entry) → own lane next ≡ own lane now → ServesScript limit lane false NothingFits script end output owes before now → ServesScript limit lane false NothingFits script end output owes before next
serves_moves limit lane script end output owes before now next same = first_moves limit lane false NothingFits script end output owes before now next same (λ is. absurd (false≢true is))

-- and of all forks
pub seen_moves : (has more : ℕ → Type 0) (limit : Option ℕ) (from most : ℕ) (scripts : List (Vec ℕ Global)) (ends : List LaneEnd) (owes : ℕ) (before now next : List Entry)
    → ((n : ℕ) → has n → more n × (own n next ≡ own n now)) → AllSeen has limit from most scripts ends owes before now → AllSeen more limit from most scripts ends owes before next
seen_moves has more limit from most [] [] owes before now next goes all = all
seen_moves has more limit from most [] (end ∷ ends) owes before now next goes all = absurd all
seen_moves has more limit from most (script ∷ scripts) [] owes before now next goes all = absurd all
seen_moves has more limit from most (script ∷ scripts) (end ∷ ends) owes before now next goes all =
    let lane = all.0 in
    let at = goes lane all.6 in
    (lane, all.1, all.2, all.3, all.4, all.5, at.0, serves_moves limit lane script.items end.ending end.output all.1 before now next at.1 all.7, seen_moves has more limit (lane + 1) most scripts ends all.2 before now next goes all.8)

pub seen_from : (has : ℕ → Type 0) (limit : Option ℕ) (low from most : ℕ) (scripts : List (Vec ℕ Global)) (ends : List LaneEnd) (owes : ℕ) (before now : List Entry) → low ≤ from → AllSeen has limit from most scripts ends owes before now → AllSeen has limit low most scripts ends owes before now
seen_from has limit low from most [] [] owes before now less all = all
seen_from has limit low from most [] (end ∷ ends) owes before now less all = all
seen_from has limit low from most (script ∷ scripts) [] owes before now less all = all
seen_from has limit low from most (script ∷ scripts) (end ∷ ends) owes before now less all = (all.0, all.1, all.2, omega (arith, less, all.3), all.4, all.5, all.6, all.7, all.8)

pub seen_serve : (has : ℕ → Type 0) (limit : Option ℕ) (from most : ℕ) (scripts : List (Vec ℕ Global)) (ends : List LaneEnd) (owes : ℕ) (before now : List Entry) → AllSeen has limit from most scripts ends owes before now → AllServe limit from most scripts ends owes before now
seen_serve has limit from most [] [] owes before now all = all
seen_serve has limit from most [] (end ∷ ends) owes before now all = all
seen_serve has limit from most (script ∷ scripts) [] owes before now all = all
seen_serve has limit from most (script ∷ scripts) (end ∷ ends) owes before now all = (all.0, all.1, all.2, all.3, all.4, all.5, all.7, seen_serve has limit (all.0 + 1) most scripts ends all.2 before now all.8)

-- the script of the last lane, what it served, and the others, which are done too
pub record IsLast (most : ℕ) (limit : Option ℕ) (before : List Entry) (from upto : ℕ) (scripts : List (Vec ℕ Global)) (xs : List Task) (x : Task) : Type 0 where
  pub front : List (Vec ℕ Global)
  pub script : Vec ℕ Global
  pub whole : scripts ≡ front ++ script ∷ []
  pub within : x.lane < most
  pub below : x.lane + 1 ≤ upto
  pub served : (owes : ℕ) × ServesScript limit x.lane false NothingFits script.items x.ending x.output owes before x.seen × RoseBy owes 0 x.refusals
  pub others : AreDone most limit before from x.lane front xs

pub done_split : (most : ℕ) (limit : Option ℕ) (before : List Entry) (from upto : ℕ) (scripts : List (Vec ℕ Global)) (xs : List Task) (x : Task) → AreDone most limit before from upto scripts (xs ++ x ∷ []) → IsLast most limit before from upto scripts xs x
done_split most limit before from upto [] [] x all = absurd all
done_split most limit before from upto [] (y ∷ xs) x all = absurd all
done_split most limit before from upto (script ∷ []) [] x all =
    record { front = []; script = script; whole = refl; within = all.1; below = all.3; served = all.2; others = all.0 }
done_split most limit before from upto (script ∷ next ∷ scripts) [] x all = absurd all.3
done_split most limit before from upto (script ∷ scripts) (y ∷ xs) x all =
    let rest = done_split most limit before (y.lane + 1) upto scripts xs x all.3 in
    record { front = script ∷ rest.front; script = rest.script; whole = ap (λ w. script ∷ w) rest.whole; within = rest.within; below = rest.below; served = rest.served; others = (all.0, all.1, all.2, rest.others) }

-- The scripts are those of the lanes that are left, which are done, and those of the lanes that were ended.
pub record Ended (has : ℕ → Type 0) (most : ℕ) (limit : Option ℕ) (before : List Entry) (from : ℕ) (scripts : List (Vec ℕ Global)) (left : List Task) (ends : List LaneEnd) (count next : ℕ) (now : List Entry) : Type 0 where
  pub front : List (Vec ℕ Global)
  pub back : List (Vec ℕ Global)
  pub whole : scripts ≡ front ++ back
  pub middle : ℕ
  pub done : AreDone most limit before from middle front left
  pub owes : ℕ
  pub seen : AllSeen has limit middle most back (reverse ends) owes before now
  pub rose : RoseBy owes count next

pub ended_none : (has : ℕ → Type 0) (most : ℕ) (limit : Option ℕ) (before : List Entry) (from upto : ℕ) (scripts : List (Vec ℕ Global)) (left : List Task) (count : ℕ) (now : List Entry) → AreDone most limit before from upto scripts left → Ended has most limit before from scripts left [] count count now
ended_none has most limit before from upto scripts left count now all =
    record { front = scripts; back = []; whole = sym (append-nil scripts); middle = upto; done = all; owes = 0; seen = refl; rose = omega arith }

pub ended_more : (has more : ℕ → Type 0) (most : ℕ) (limit : Option ℕ) (before : List Entry) (from : ℕ) (scripts : List (Vec ℕ Global)) (left : List Task) (x : Task) (ends : List LaneEnd) (end : LaneEnd) (count next last : ℕ) (now later : List Entry)
    → end.ending ≡ x.ending → end.output ≡ x.output → last ≡ min (next + x.refusals) (2 ^ 64 - 1) → own x.lane later ≡ own x.lane x.seen → more x.lane
    → ((n : ℕ) → has n → more n × (own n later ≡ own n now)) → Ended has most limit before from scripts (left ++ x ∷ []) ends count next now → Ended more most limit before from scripts left (ends ++ end ∷ []) count last later
ended_more has more most limit before from scripts left x ends end count next last now later is_ending is_output is_count mine has_it goes e =
    let p = done_split most limit before from e.middle e.front left x e.done in
    let served = p.served in
    let there = serves_moves limit x.lane p.script.items x.ending x.output served.0 before x.seen later mine served.1 in
    let here = subst (λ o. ServesScript limit x.lane false NothingFits p.script.items end.ending o served.0 before later) (sym is_output) (subst (λ k. ServesScript limit x.lane false NothingFits p.script.items k x.output served.0 before later) (sym is_ending) there) in
    let rest = seen_from more limit (x.lane + 1) e.middle most e.back (reverse ends) e.owes before later p.below (seen_moves has more limit e.middle most e.back (reverse ends) e.owes before now later goes e.seen) in
    let all : AllSeen more limit x.lane most (p.script ∷ e.back) (end ∷ reverse ends) (served.0 + e.owes) before later = (x.lane, served.0, e.owes, omega arith, p.within, refl, has_it, here, rest) in
    record {
      front = p.front;
      back = p.script ∷ e.back;
      whole = e.whole ∙ (ap (λ w. w ++ e.back) p.whole ∙ append_assoc p.front (p.script ∷ []) e.back);
      middle = x.lane;
      done = p.others;
      owes = served.0 + e.owes;
      seen = subst (λ w. AllSeen more limit x.lane most (p.script ∷ e.back) w (served.0 + e.owes) before later) (sym (reverse-append ends (end ∷ []))) all;
      rose = omega (arith, e.rose, served.2, is_count);
    }

pub ended_all : (has : ℕ → Type 0) (most : ℕ) (limit : Option ℕ) (before : List Entry) (from : ℕ) (scripts : List (Vec ℕ Global)) (ends : List LaneEnd) (count next : ℕ) (now : List Entry) → Ended has most limit before from scripts [] ends count next now → AllEnd limit from most scripts (reverse ends) count next before now
ended_all has most limit before from scripts ends count next now e = whole e.front e.whole e.done
  where
    whole : (front : List (Vec ℕ Global)) → scripts ≡ front ++ e.back → AreDone most limit before from e.middle front [] → AllEnd limit from most scripts (reverse ends) count next before now
    whole [] is done = (e.owes, subst (λ w. AllServe limit from most w (reverse ends) e.owes before now) (sym is) (seen_serve has limit from most e.back (reverse ends) e.owes before now (seen_from has limit from e.middle most e.back (reverse ends) e.owes before now done e.seen)), e.rose)
    whole (f ∷ front) is done = absurd done
