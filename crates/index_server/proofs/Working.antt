-- Lists of workers' lanes.
use Rattle.std.proofs.Common.{◌≡◌, ℕ, suc, ◌+◌, ◌-◌, ◌<◌, ◌≤◌, List, [], ◌∷◌, ◌++◌, length, false, refl, sym, ap, ◌∙◌, subst, arith}
use Rattle.std.specs.Prelude.{slice_index_or}
use Rattle.std.proofs.lemmas.List.Sums.{sum_by-append}
use Rattle.std.specs.List.{sum_by}
use Rattle.counts.specs.Counts.{RoseBy}
use Rattle.map_model.specs.History.{Entry, own}
use Rattle.index_server.specs.Hands.{ServesMany, Work, AllServe, WorkersServe, Hand, IsReady, AreReady, Worked, AllWorked, AreDone, AreForksOf, HaveSeen}

-- lanes of which each one worked, by its place, all worked
pub each_worked : (xs ys : List Hand) → length ys ≡ length xs → ((i : ℕ) (d : Hand) → i < length xs → Worked (slice_index_or xs i d) (slice_index_or ys i d)) → AllWorked xs ys
each_worked [] [] same each = tt
each_worked [] (y ∷ ys) same each = absurd (omega (arith, same))
each_worked (x ∷ xs) [] same each = absurd (omega (arith, same))
each_worked (x ∷ xs) (y ∷ ys) same each = (each 0 x (omega arith), each_worked xs ys (omega (arith, same)) (λ i d less. each (suc i) d (omega (arith, less))))

-- a fork with a higher number joins those that are ready
pub ready_push : (origin most : ℕ) (seen : List Entry) (from upto next : ℕ) (hands : List Hand) (h : Hand) → AreReady origin most seen from upto hands → IsReady origin most seen h → upto ≤ h.lane → h.lane < next → AreReady origin most seen from next (hands ++ h ∷ [])
ready_push origin most seen from upto next [] h all is low high = (omega (arith, low, all), is, omega (arith, high))
ready_push origin most seen from upto next (g ∷ hands) h all is low high = (all.0, all.1, ready_push origin most seen (g.lane + 1) upto next hands h all.2 is low high)

pub ready_of : (origin most : ℕ) (seen : List Entry) (from upto : ℕ) (hands : List Hand) → AreReady origin most seen from upto hands → AreForksOf origin hands
ready_of origin most seen from upto [] all = tt
ready_of origin most seen from upto (h ∷ hands) all = (all.1.same_origin, all.1.no_room, ready_of origin most seen (h.lane + 1) upto hands all.2)

pub ready_seen : (origin most : ℕ) (seen : List Entry) (from upto : ℕ) (hands : List Hand) → AreReady origin most seen from upto hands → HaveSeen seen hands
ready_seen origin most seen from upto [] all = tt
ready_seen origin most seen from upto (h ∷ hands) all = (all.1.same_seen, ready_seen origin most seen (h.lane + 1) upto hands all.2)

-- lanes that were ready, and worked, are done, and are still forks of their index
pub done : (origin most : ℕ) (seen : List Entry) (from upto : ℕ) (xs ys : List Hand) → AreReady origin most seen from upto xs → AllWorked xs ys → AreDone most seen from upto ys
done origin most seen from upto [] [] ready worked = ready
done origin most seen from upto [] (y ∷ ys) ready worked = absurd worked
done origin most seen from upto (x ∷ xs) [] ready worked = absurd worked
done origin most seen from upto (x ∷ xs) (y ∷ ys) ready worked =
    let r = ready.1 in
    let w = worked.0 in
    let many : y.count - x.count ≡ y.count = omega (arith, r.uncounted) in
    let here = subst (λ h. ServesMany x.lane (y.count - x.count) h y.seen) r.same_seen (w.served r.among) in
    let counted = subst (λ n. ServesMany x.lane n seen y.seen) many here in (
      subst (λ n. from ≤ n) (sym w.same_lane) ready.0,
      subst (λ n. n < most) (sym w.same_lane) r.within,
      subst (λ n. ServesMany n y.count seen y.seen) (sym w.same_lane) counted,
      done origin most seen (y.lane + 1) upto xs ys (subst (λ n. AreReady origin most seen (n + 1) upto xs) (sym w.same_lane) ready.2) worked.1,
    )

pub worked_of : (origin : ℕ) (xs ys : List Hand) → AreForksOf origin xs → AllWorked xs ys → AreForksOf origin ys
worked_of origin [] [] all worked = tt
worked_of origin [] (y ∷ ys) all worked = absurd worked
worked_of origin (x ∷ xs) [] all worked = absurd worked
worked_of origin (x ∷ xs) (y ∷ ys) all worked = (worked.0.same_origin ∙ all.0, worked.0.same_room ∙ all.1, worked_of origin xs ys all.2 worked.1)

pub worked_length : (xs ys : List Hand) → AllWorked xs ys → length ys ≡ length xs
worked_length [] [] worked = refl
worked_length [] (y ∷ ys) worked = absurd worked
worked_length (x ∷ xs) [] worked = absurd worked
worked_length (x ∷ xs) (y ∷ ys) worked = ap suc (worked_length xs ys worked.1)

-- the last of several lanes, and the others
pub of_split : (o : ℕ) (xs : List Hand) (x : Hand) → AreForksOf o (xs ++ x ∷ []) → AreForksOf o xs × (x.origin ≡ o) × (x.room ≡ 0)
of_split o [] x all = (tt, all.0, all.1)
of_split o (y ∷ xs) x all = let rest = of_split o xs x all.2 in ((all.0, all.1, rest.0), rest.1, rest.2)

pub seen_split : (h : List Entry) (xs : List Hand) (x : Hand) → HaveSeen h (xs ++ x ∷ []) → HaveSeen h xs × (x.seen ≡ h)
seen_split h [] x all = (tt, all.0)
seen_split h (y ∷ xs) x all = let rest = seen_split h xs x all.1 in ((all.0, rest.0), rest.1)

pub done_split : (most : ℕ) (before : List Entry) (from upto : ℕ) (xs : List Hand) (x : Hand) → AreDone most before from upto (xs ++ x ∷ []) → AreDone most before from x.lane xs × (x.lane < most) × (x.lane + 1 ≤ upto) × ServesMany x.lane x.count before x.seen
done_split most before from upto [] x all = (all.0, all.1, all.3, all.2)
done_split most before from upto (y ∷ xs) x all = let rest = done_split most before (y.lane + 1) upto xs x all.3 in ((all.0, all.1, all.2, rest.0), rest.1, rest.2, rest.3)

-- What a lane served stays where the history goes on without calls of the lane.
pub serves_moves : (lane count : ℕ) (before now next : List Entry) → own lane next ≡ own lane now → ServesMany lane count before now → ServesMany lane count before next
serves_moves lane count before now next same s = record { pieces = s.pieces; sessions = s.sessions; mine = same ∙ s.mine; each = s.each }

-- Each lane served its connections, as in `AllServe`, and the store that sees this history has seen all calls of each of them.
abbrev pub AllSeen : (ℕ → Type 0) → ℕ → ℕ → List Work → List Entry → List Entry → Type 0
AllSeen has from most [] before now = Unit {0}
AllSeen has from most (w ∷ works) before now = (from ≤ w.lane) × (w.lane < most) × has w.lane × ServesMany w.lane w.count before now × AllSeen has (w.lane + 1) most works before now

pub seen_moves : (has more : ℕ → Type 0) (from most : ℕ) (works : List Work) (before now next : List Entry) → ((n : ℕ) → has n → more n × (own n next ≡ own n now)) → AllSeen has from most works before now → AllSeen more from most works before next
seen_moves has more from most [] before now next goes all = tt
seen_moves has more from most (w ∷ works) before now next goes all =
    let at = goes w.lane all.2 in
    (all.0, all.1, at.0, serves_moves w.lane w.count before now next at.1 all.3, seen_moves has more (w.lane + 1) most works before now next goes all.4)

pub seen_from : (has : ℕ → Type 0) (low from most : ℕ) (works : List Work) (before now : List Entry) → low ≤ from → AllSeen has from most works before now → AllSeen has low most works before now
seen_from has low from most [] before now less all = tt
seen_from has low from most (w ∷ works) before now less all = (omega (arith, less, all.0), all.1, all.2, all.3, all.4)

pub seen_serve : (has : ℕ → Type 0) (from most : ℕ) (works : List Work) (before now : List Entry) → AllSeen has from most works before now → AllServe from most works before now
seen_serve has from most [] before now all = tt
seen_serve has from most (w ∷ works) before now all = (all.0, all.1, all.3, seen_serve has (w.lane + 1) most works before now all.4)

-- The lanes that are left are done, and those that were ended have served so many connections.
pub record Ended (has : ℕ → Type 0) (most : ℕ) (before : List Entry) (from : ℕ) (left : List Hand) (ended total : ℕ) (now : List Entry) : Type 0 where
  pub works : List Work
  pub many : length works ≡ ended
  pub middle : ℕ
  pub left_done : AreDone most before from middle left
  pub seen : AllSeen has middle most works before now
  pub counted : sum_by (λ (w : Work). w.count) works ≡ total

pub ended_none : (has : ℕ → Type 0) (most : ℕ) (before : List Entry) (from upto : ℕ) (left : List Hand) (now : List Entry) → AreDone most before from upto left → Ended has most before from left 0 0 now
ended_none has most before from upto left now all = record { works = []; many = refl; middle = upto; left_done = all; seen = tt; counted = refl }

pub ended_more : (has more : ℕ → Type 0) (most : ℕ) (before : List Entry) (from : ℕ) (left : List Hand) (x : Hand) (ended total next sum : ℕ) (now later : List Entry) → next ≡ ended + 1 → sum ≡ total + x.count → own x.lane later ≡ own x.lane x.seen → more x.lane
    → ((n : ℕ) → has n → more n × (own n later ≡ own n now)) → Ended has most before from (left ++ x ∷ []) ended total now → Ended more most before from left next sum later
ended_more has more most before from left x ended total next sum now later one_more added mine has_it goes e =
    let p = done_split most before from e.middle left x e.left_done in
    let here = serves_moves x.lane x.count before x.seen later mine p.3 in
    let rest = seen_from more (x.lane + 1) e.middle most e.works before later p.2 (seen_moves has more e.middle most e.works before now later goes e.seen) in
    record {
      works = record { lane = x.lane; count = x.count } ∷ e.works;
      many = omega (arith, e.many, one_more);
      middle = x.lane;
      left_done = p.0;
      seen = (omega arith, p.1, has_it, here, rest);
      counted = omega (arith, sum_by-append (λ (w : Work). w.count) (record { lane = x.lane; count = x.count } ∷ []) e.works, e.counted, added);
    }

-- all are ended
pub ended_all : (has : ℕ → Type 0) (most : ℕ) (before : List Entry) (from ended total : ℕ) (now : List Entry) → Ended has most before from [] ended total now → (works : List Work) × (length works ≡ ended) × (sum_by (λ (w : Work). w.count) works ≡ total) × AllServe from most works before now
ended_all has most before from ended total now e = (e.works, e.many, e.counted, seen_serve has from most e.works before now (seen_from has from e.middle most e.works before now e.left_done e.seen))

-- the first lane served beside those that were ended, and the shares counted all connections
pub all_serve : (lane most first others sum workers ended closings closings_now : ℕ) (before seen now : List Entry) → lane < most → ServesMany lane first before seen → own lane now ≡ own lane seen → workers ≡ ended + 1 → sum ≡ first + others
    → RoseBy sum closings closings_now × (closings_now ≤ closings + sum) → (works : List Work) × (length works ≡ ended) × (sum_by (λ (w : Work). w.count) works ≡ others) × AllServe (lane + 1) most works before now → WorkersServe workers lane most closings closings_now before now
all_serve lane most first others sum workers ended closings closings_now before seen now within served same many added rose all =
    let total : sum ≡ sum_by (λ (w : Work). w.count) (record { lane = lane; count = first } ∷ all.0) = omega (arith, sum_by-append (λ (w : Work). w.count) (record { lane = lane; count = first } ∷ []) all.0, added, all.2) in (
      record { lane = lane; count = first } ∷ all.0,
      omega (arith, many, all.1),
      subst (λ n. RoseBy n closings closings_now) total rose.0,
      subst (λ n. closings_now ≤ closings + n) total rose.1,
      (omega arith, within, serves_moves lane first before seen now same served, all.3),
    )
