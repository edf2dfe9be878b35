-- The rule is kept where a lane is forked, and where one is ended into another.
use Rattle.std.proofs.Common.{◌≡◌, ◌≢◌, ℕ, zero, suc, ◌+◌, ◌==◌, ◌<◌, ◌≤◌, List, [], ◌∷◌, ◌++◌, length, set, Bool, true, false, true≢false, cond, nat_lt, refl, sym, ap, ◌∙◌, subst, ⊎_elim, arith, length-set, length-append, ne_eqb, eq-eqb, lt-ltb, le-ltb, Option, Some, None}
use mathlib.Core.Logic.{dite}
use mathlib.Core.Option.{some, some-injective}
use mathlib.Core.Option as maybe
use native.Mathlib.Decide.{dec_le}
use lib.ListN.{get_elem?}
use Rattle.atomic_table.specs.Table.{Splits, Joins}
use Rattle.atomic_table.proofs.Lists.{set_else, at_longer}
use Rattle.map_model.specs.History.{Entry, own}
use Rattle.lane_stores.specs.declared.view.View.{View}
use Rattle.lane_stores.specs.Rule.{Map, greater, forked, child_of, both_views, spent_view, Shared, Knows, IsPlaced, Kept}
use Rattle.lane_stores.proofs.Beginnings.{none_before, own_none, only_one, among_cases, greater_is, met_both}
use Rattle.lane_stores.proofs.Views.{each_split, each_join}
use Rattle.lane_stores.proofs.Keeping.{of_more, not_alone}

off : false ≡ true → ⊥
off is = true≢false (sym is)

-- the map is where it was, as other views than its holder's change
still_placed : (most : ℕ) (words : List ℕ) (homes : List (maybe.Option Map)) (views later : List View) (log : List Entry) (holder : Option ℕ) → ((h : ℕ) (u : View) → get_elem? views h ≡ some u → u.holds ≡ true → get_elem? later h ≡ some u) → IsPlaced most words homes views log holder → IsPlaced most words homes later log holder
still_placed most words homes views later log None stays p = p
still_placed most words homes views later log (Some h) stays p = (p.0, p.1, p.2, p.3, p.4, p.5, stays h p.1 p.6 p.7, p.7)

-- a view that has the map out isn't one that hasn't
apart_from : (views : List View) (h j : ℕ) (u v : View) → get_elem? views h ≡ some u → get_elem? views j ≡ some v → u.holds ≡ true → v.holds ≡ false → h ≢ j
apart_from views h j u v there here has idle same =
    let both : some u ≡ some v = sym there ∙ (ap (get_elem? views) same ∙ here) in
    true≢false (sym has ∙ (ap (λ (x : View). x.holds) (some-injective u v both) ∙ idle))

-- The number of the next fork is given to the new seat.
pub forking : (most j : ℕ) (v : View) → v.most ≡ most → 0 < v.room → v.holds ≡ false → Splits (Kept most) j v (forked v) (child_of v)
forking most j v fixed room idle s k at =
    let kn = k.knows j v at in
    let made = kn.makes room in
    let w : View = forked v in
    let new : View = child_of v in
    let views : List View = set s.views j w ++ new ∷ [] in
    let many : length views ≡ length s.views + 1 = length-append (set s.views j w) (new ∷ []) ∙ ap (λ n. n + 1) (length-set s.views j w) in
    let given = k.shared.given in
    let now : Shared = record { given = given + 1; owner = λ n. cond (n == given) (length s.views) (k.shared.owner n); maker = k.shared.maker; holder = k.shared.holder } in
    let others_own : (n i : ℕ) → k.shared.owner n ≡ i → n < given → now.owner n ≡ i = λ n i is less. ap (λ b. cond b (length s.views) (k.shared.owner n)) (ne_eqb n given (λ e. omega (arith, e, less))) ∙ is in
    let none : own v.next k.log ≡ [] = subst (λ n. own n k.log ≡ []) (sym made.1) (own_none given k.log k.of.lanes) in
    let mine : Knows most k.log now (length views) j w = record {
      sees = kn.sees;
      owns = λ n has. let o = kn.owns n has in (others_own n j o.0 o.1, omega (arith, o.1), o.2);
      next = omega (arith, made.1);
      makes = λ more. (made.0, omega (arith, made.1), omega (arith, made.2, room));
      holding = λ is. absurd (off (sym idle ∙ is));
      alone = λ is. absurd (off is);
      met = tt;
    } in
    let others : (i : ℕ) (u : View) → i ≢ j → get_elem? s.views i ≡ some u → Knows most k.log now (length views) i u = λ i u ne there.
    let ku = k.knows i u there in record {
      sees = ku.sees;
      owns = λ n has. let o = ku.owns n has in (others_own n i o.0 o.1, omega (arith, o.1), o.2);
      next = omega (arith, ku.next);
      makes = λ more. absurd (ne ((ku.makes more).0 ∙ sym made.0));
      holding = ku.holding;
      alone = λ sole. absurd (not_alone s.views i j u v there at ne (ku.alone sole).0);
      met = ku.met;
    } in
    let child : Knows most k.log now (length views) (length s.views) new = record {
      sees = record {
        begins = kn.sees.begins;
        all = λ n has. let is : v.next ≡ n = only_one v.next n has in subst (λ x. own x k.log ≡ own x v.seen) is (none ∙ sym (none_before v.next k.log v.seen kn.sees.begins none));
      };
      owns = λ n has. let is : v.next ≡ n = only_one v.next n has in
          (ap (λ b. cond b (length s.views) (k.shared.owner n)) (eq-eqb n given (sym is ∙ made.1)), omega (arith, is, made.1), fixed);
      next = omega (arith, made.1);
      makes = λ more. absurd (omega (arith, more));
      holding = λ is. absurd (off is);
      alone = λ is. absurd (off is);
      met = tt;
    } in
    record {
      log = k.log;
      shared = now;
      of = of_more given (given + 1) k.log (omega arith) k.of;
      within = omega (arith, made.2, room);
      placed = still_placed most s.words s.homes s.views views k.log k.shared.holder
          (λ h u there has. at_longer (set s.views j w) (new ∷ []) h u (set_else s.views j h w (apart_from s.views h j u v there at has idle) ∙ there)) k.placed;
      knows = each_split (Knows most k.log now (length views)) s.views j w new mine others child;
    }

-- The seat takes in what the other one saw, and its room; of the two at most one has any.
pub ending : (most j : ℕ) (v : View) (other : ℕ) (u : View) → v.most ≡ most → v.holds ≡ false → u.holds ≡ false → Joins (Kept most) j v other u (both_views v u) spent_view
ending most j v other u fixed idle its_idle s k at apart there' =
    let w : View = both_views v u in
    let there : get_elem? s.views other ≡ some u = sym (set_else s.views j other w apart) ∙ there' in
    let kn = k.knows j v at in
    let ku = k.knows other u there in
    let views : List View = set (set s.views j w) other spent_view in
    let many : length views ≡ length s.views = length-set (set s.views j w) other spent_view ∙ length-set s.views j w in
    let met = met_both k.log (v.ended, v.seen) (u.ended, u.seen) kn.sees ku.sees in
    let now : Shared = record { given = k.shared.given; owner = λ n. cond (k.shared.owner n == other) j (k.shared.owner n); maker = cond (nat_lt 0 u.room) j k.shared.maker; holder = k.shared.holder } in
    let next : greater v.next u.next ≤ k.shared.given = greater_is (λ n. n ≤ k.shared.given) v.next u.next (λ less. kn.next) (λ less. ku.next) in
    let makes : 0 < v.room + u.room → (j ≡ now.maker) × (greater v.next u.next ≡ k.shared.given) × (k.shared.given + (v.room + u.room) ≤ most) = λ some_room.
    dite (dec_le 1 u.room)
    (λ its.
    let made = ku.makes its in
    let none : v.room ≡ 0 = no_room v.room (λ has. apart (made.0 ∙ sym (kn.makes has).0)) in (
      sym (ap (λ b. cond b j k.shared.maker) (lt-ltb 0 u.room its)),
      greater_is (λ n. n ≡ k.shared.given) v.next u.next (λ less. omega (arith, less, made.1, kn.next)) (λ less. made.1),
      omega (arith, none, made.2),
    ))
    (λ no_more.
    let none : u.room ≡ 0 = omega (arith, no_more) in
    let made = kn.makes (omega (arith, some_room, none)) in (
      made.0 ∙ sym (ap (λ b. cond b j k.shared.maker) (le-ltb 0 u.room (omega (arith, none)))),
      greater_is (λ n. n ≡ k.shared.given) v.next u.next (λ less. made.1) (λ less. omega (arith, less, made.1, ku.next)),
      omega (arith, none, made.2),
    )) in
    let mine : Knows most k.log now (length s.views) j w = record {
      sees = met.whole;
      owns = λ n has. ⊎_elim
          (λ first. let o = kn.owns n first in (same_owner (k.shared.owner n == other) j (k.shared.owner n) o.0, o.1, fixed))
          (λ second. let o = ku.owns n second in (ap (λ b. cond b j (k.shared.owner n)) (eq-eqb (k.shared.owner n) other o.0), o.1, fixed))
          (among_cases v.ended u.ended n has);
      next = next;
      makes = makes;
      holding = λ is. absurd (off (sym idle ∙ is));
      alone = λ sole. absurd (not_alone s.views other j u v there at apart (kn.alone sole).0);
      met = (met.first, (met.second, tt));
    } in
    let spent : Knows most k.log now (length s.views) other spent_view = record {
      sees = record { begins = (k.log, refl); all = λ n has. absurd (off has) };
      owns = λ n has. absurd (off has);
      next = omega arith;
      makes = λ more. absurd (omega (arith, more));
      holding = λ is. absurd (off is);
      alone = λ is. absurd (off is);
      met = tt;
    } in
    let others : (i : ℕ) (x : View) → i ≢ j → i ≢ other → get_elem? s.views i ≡ some x → Knows most k.log now (length s.views) i x = λ i x ne far at_i.
    let kx = k.knows i x at_i in record {
      sees = kx.sees;
      owns = λ n has. let o = kx.owns n has in (ap (λ b. cond b j (k.shared.owner n)) (ne_eqb (k.shared.owner n) other (λ e. far (sym o.0 ∙ e))) ∙ o.0, o.1, o.2);
      next = kx.next;
      makes = λ more.
          let made = kx.makes more in
          let none : u.room ≡ 0 = no_room u.room (λ has. far (made.0 ∙ sym (ku.makes has).0)) in
          (made.0 ∙ sym (ap (λ b. cond b j k.shared.maker) (le-ltb 0 u.room (omega (arith, none)))), made.1, made.2);
      holding = kx.holding;
      alone = λ sole. absurd (not_alone s.views i j x v at_i at ne (kx.alone sole).0);
      met = kx.met;
    } in
    record {
      log = k.log;
      shared = now;
      of = k.of;
      within = k.within;
      placed = still_placed most s.words s.homes s.views views k.log k.shared.holder
          (λ h x at_h has. set_else (set s.views j w) other h spent_view (apart_from s.views h other x u at_h there has its_idle) ∙ (set_else s.views j h w (apart_from s.views h j x v at_h at has idle) ∙ at_h)) k.placed;
      knows = subst (λ count. (i : ℕ) (x : View) → get_elem? views i ≡ some x → Knows most k.log now count i x) (sym many)
          (each_join (Knows most k.log now (length s.views)) s.views j other w spent_view mine spent others);
    }
  where
    no_room : (room : ℕ) → (0 < room → ⊥) → room ≡ 0
    no_room zero never = refl
    no_room (suc room) never = absurd (never (omega arith))

    same_owner : (b : Bool) (j x : ℕ) → x ≡ j → cond b j x ≡ j
    same_owner true j x is = refl
    same_owner false j x is = is
