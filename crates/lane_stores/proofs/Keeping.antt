-- The rule is kept where a lane takes the map, where it gives it back, and where it looks.
use Rattle.std.proofs.Common.{◌≡◌, ◌≢◌, ℕ, zero, suc, ◌+◌, ◌==◌, ◌<◌, ◌≤◌, List, [], ◌∷◌, ◌++◌, length, set, true, false, true≢false, cond, refl, sym, ap, ◌∙◌, subst, inl, inr, arith, length-set, ne_eqb, Option, Some, None}
use Rattle.std.specs.Prelude.{slice_index}
use Rattle.std.specs.List.{AllByRecursion}
use Rattle.std.proofs.lemmas.List.{append-nil}
use mathlib.Core.Option.{some, some-injective, some-ne-none}
use mathlib.Core.Option as maybe
use mathlib.Core.List.{IsPrefix}
use lib.ListN.{get_elem?}
use prog.Atomic.{either}
use Rattle.atomic_table.specs.Table.{State, Me, Step, Act, keeps, takes, gives, Valid, homes_after, carried_after, Allows, opening}
use Rattle.atomic_table.proofs.Lists.{set_here, set_again}
use Rattle.map_model.specs.History.{Entry, after, own, IsLegal, IsNumbered}
use Rattle.map_model.proofs.Histories.{begins_itself, begins_trans, own-append, legal-prefix, numbered-prefix}
use Rattle.lane_stores.specs.declared.view.View.{View}
use Rattle.lane_stores.specs.Rule.{Map, IsOf, Has, first_view, Shared, Knows, IsPlaced, Kept}
use Rattle.lane_stores.specs.Steps.{locked, unlocked, Locked, Unlocked, Looked}
use Rattle.lane_stores.proofs.Beginnings.{only_one, own_others, all_more, all_append, all_front}
use Rattle.lane_stores.proofs.Views.{at_below, each_set}

off : false ≡ true → ⊥
off is = true≢false (sym is)

-- a history of fewer lanes is one of more
pub of_more : (few most : ℕ) (h : List Entry) → few ≤ most → IsOf few h → IsOf most h
of_more few most h less of = record { legal = of.legal; numbered = of.numbered; lanes = all_more (λ (e : Entry). e.lane < few) (λ (e : Entry). e.lane < most) (λ e below. omega (arith, below, less)) h of.lanes }

-- and so is a beginning of it
pub of_front : (most : ℕ) (h all : List Entry) → IsPrefix h all → IsOf most all → IsOf most h
of_front most h all begins of = record {
  legal = legal-prefix h all begins of.legal;
  numbered = numbered-prefix h all begins of.numbered;
  lanes = all_front (λ (e : Entry). e.lane < most) h begins.0 (subst (AllByRecursion (λ (e : Entry). e.lane < most)) (sym begins.1) of.lanes);
}

-- two seats are two views
pub not_alone : (views : List View) (i j : ℕ) (u v : View) → get_elem? views i ≡ some u → get_elem? views j ≡ some v → i ≢ j → length views ≡ 1 → ⊥
not_alone views i j u v there here apart one = let low = at_below views i u there in let high = at_below views j v here in apart (omega (arith, low, high, one))

-- at the start one seat has seen the empty history
pub begins : (most : ℕ) → 0 < most → Kept most (opening (0 ∷ []) ([] ∷ []) (first_view most))
begins most some_lanes = record {
  log = [];
  shared = start;
  of = record { legal = tt; numbered = λ lane. tt; lanes = tt };
  within = omega (arith, some_lanes);
  placed = (refl, refl);
  knows = one;
}
  where
    start : Shared
    start = record { given = 1; owner = λ n. 0; maker = 0; holder = None }

    first : Knows most [] start 1 0 (first_view most)
    first = record {
      sees = record { begins = ([], refl); all = λ n has. refl };
      owns = λ n has. (refl, zero_lane n has, refl);
      next = omega arith;
      makes = λ room. (refl, refl, omega (arith, some_lanes));
      holding = λ is. absurd (off is);
      alone = λ is. (refl, refl);
      met = tt;
    }
      where
        zero_lane : (n : ℕ) → Has (0 ∷ []) n → n < 1
        zero_lane n has = let is : 0 ≡ n = only_one 0 n has in omega (arith, is)

    one : (j : ℕ) (v : View) → get_elem? (first_view most ∷ []) j ≡ some v → Knows most [] start 1 j v
    one zero v at = subst (Knows most [] start 1 0) (some-injective (first_view most) v at) first
    one (suc j) v at = absurd (some-ne-none v (sym at))

-- The word becomes the lane's number and one where it was 0, and the map goes with the seat; else all stays.
module _ (most slots j lane : ℕ) (m : Me Map View) (fixed : m.0.most ≡ most) (idle : m.0.holds ≡ false) (below : lane < most) (step : Step Map) where
  module _ (s : State Map View) (k : Kept most s) (at : get_elem? s.views j ≡ some m.0) where
    abbrev Goal : List ℕ → List (maybe.Option Map) → Type 0
    Goal words homes =
        (w : View) × (a : Act Map) × Valid homes m.1 a
        × Kept most (record { words = set words 0 (either (slice_index words 0 == 0) (lane + 1) (slice_index words 0)); homes = homes_after homes m.1 a; views = set s.views j w })
        × Locked step m (slice_index words 0) (w, carried_after m.1 a)

    kn : Knows most k.log k.shared (length s.views) j m.0
    kn = k.knows j m.0 at

    free : k.shared.holder ≡ None → Goal (0 ∷ []) (some (after k.log) ∷ [])
    free none =
        let w : View = locked k.log m.0 in
        let views : List View = set s.views j w in
        let now : Shared = record { given = k.shared.given; owner = k.shared.owner; maker = k.shared.maker; holder = Some j } in
        let mine : Knows most k.log now (length s.views) j w = record {
          sees = record { begins = begins_itself k.log; all = λ n has. refl };
          owns = kn.owns;
          next = kn.next;
          makes = kn.makes;
          holding = λ is. (refl, refl);
          alone = λ is. ((kn.alone is).0, refl);
          met = tt;
        } in
        let others : (i : ℕ) (u : View) → i ≢ j → get_elem? s.views i ≡ some u → Knows most k.log now (length s.views) i u = λ i u ne there.
        let ku = k.knows i u there in record {
          sees = ku.sees;
          owns = ku.owns;
          next = ku.next;
          makes = ku.makes;
          holding = λ is. let has : Some i ≡ None = sym (ku.holding is).0 ∙ none in absurd (cc);
          alone = ku.alone;
          met = ku.met;
        } in (
          w,
          takes 0 (after k.log),
          refl,
          record {
            log = k.log;
            shared = now;
            of = k.of;
            within = k.within;
            placed = (lane + 1, w, refl, omega arith, omega (arith, below), refl, set_here s.views j w (at_below s.views j m.0 at), refl);
            knows = subst (λ count. (i : ℕ) (u : View) → get_elem? views i ≡ some u → Knows most k.log now count i u) (sym (length-set s.views j w)) (each_set (Knows most k.log now (length s.views)) s.views j w mine others);
          },
          inl (
            refl,
            record {
              log = k.log;
              of = of_more k.shared.given m.0.most k.log (omega (arith, k.within, fixed)) k.of;
              met = kn.sees;
              alone = λ is. sym (kn.alone is).1;
              is = refl;
            },
          ),
        )

    held : (h word : ℕ) (u : View) → k.shared.holder ≡ Some h → s.words ≡ word ∷ [] → 0 < word → word ≤ most → get_elem? s.views h ≡ some u → u.holds ≡ true → Goal (word ∷ []) s.homes
    held h word u some_one is some_word small there holds =
        let same : either (word == 0) (lane + 1) word ≡ word = ap (λ b. cond b (lane + 1) word) (ne_eqb word 0 (λ e. omega (arith, e, some_word))) in
        let views : set s.views j m.0 ≡ s.views = set_again s.views j m.0 at in
        let kept : Kept most (record { words = word ∷ []; homes = s.homes; views = s.views }) = record {
          log = k.log;
          shared = k.shared;
          of = k.of;
          within = k.within;
          placed = subst (λ ws. IsPlaced most ws s.homes s.views k.log k.shared.holder) is k.placed;
          knows = k.knows;
        } in (
          m.0,
          keeps,
          tt,
          subst (λ (x : ℕ × List View). Kept most (record { words = x.0 ∷ []; homes = s.homes; views = x.1 })) (λ i. (sym same i, sym views i)) kept,
          inr (record {
            some = some_word;
            lane = omega (arith, small, fixed);
            same = refl;
            among = λ sole. not_alone s.views h j u m.0 there at (λ e. let both : some u ≡ some m.0 = sym there ∙ (ap (get_elem? s.views) e ∙ at) in absurd (true≢false (sym holds ∙ (ap (λ (v : View). v.holds) (some-injective u m.0 both) ∙ idle)))) (kn.alone sole).0;
          }),
        )

    by_holder : (holder : Option ℕ) → k.shared.holder ≡ holder → IsPlaced most s.words s.homes s.views k.log holder → Goal s.words s.homes
    by_holder None is p = subst (λ (x : List ℕ × List (maybe.Option Map)). Goal x.0 x.1) (λ i. (sym p.0 i, sym p.1 i)) (free is)
    by_holder (Some h) is p = subst (λ ws. Goal ws s.homes) (sym p.2) (held h p.0 p.1 is p.2 p.3 p.4 p.6 p.7)

  pub locking : Allows (Kept most) slots j m 0 (λ n. either (n == 0) (lane + 1) n) (Locked step m)
  locking s k few at wide = by_holder s k at k.shared.holder refl k.placed

-- The map comes back to its place, and the history goes on by the entries of the seat's own lane.
module _ (most slots j lane : ℕ) (m : Me Map View) (map : Map) (entries : List Entry) (holds : m.0.holds ≡ true) (out : m.1 ≡ (0, map) ∷ []) (left : map ≡ after (m.0.seen ++ entries)) (legal : IsLegal (m.0.seen ++ entries)) (numbered : IsNumbered (m.0.seen ++ entries))
    (mine : AllByRecursion (λ (e : Entry). e.lane ≡ lane) entries) (own_lane : Has m.0.ended lane) where
  module _ (s : State Map View) (k : Kept most s) (at : get_elem? s.views j ≡ some m.0) where
    abbrev Goal' : List ℕ → List (maybe.Option Map) → List (ℕ × Map) → Type 0
    Goal' words homes carried =
        (w : View) × (a : Act Map) × Valid homes carried a
        × Kept most (record { words = set words 0 0; homes = homes_after homes carried a; views = set s.views j w })
        × Unlocked entries m (w, carried_after carried a)

    given_back : (word : ℕ) → k.shared.holder ≡ Some j → m.0.seen ≡ k.log → Goal' (word ∷ []) (maybe.none ∷ []) ((0, map) ∷ [])
    given_back word is whole =
        let kn = k.knows j m.0 at in
        let w : View = unlocked entries m.0 in
        let views : List View = set s.views j w in
        let log : List Entry = m.0.seen ++ entries in
        let now : Shared = record { given = k.shared.given; owner = k.shared.owner; maker = k.shared.maker; holder = None } in
        let front : IsPrefix m.0.seen log = (entries, refl) in
        let here : Knows most log now (length s.views) j w = record {
          sees = record { begins = begins_itself log; all = λ n has. refl };
          owns = kn.owns;
          next = kn.next;
          makes = kn.makes;
          holding = λ is. absurd (off is);
          alone = λ is. ((kn.alone is).0, refl);
          met = tt;
        } in
        let others : (i : ℕ) (u : View) → i ≢ j → get_elem? s.views i ≡ some u → Knows most log now (length s.views) i u = λ i u ne there.
        let ku = k.knows i u there in record {
          sees = record {
            begins = begins_trans u.seen m.0.seen log (subst (IsPrefix u.seen) (sym whole) ku.sees.begins) front;
            all = λ n has.
                let none : own n entries ≡ [] = own_others n lane entries (λ e. ne (sym (ku.owns n has).0 ∙ (ap k.shared.owner e ∙ (kn.owns lane own_lane).0))) mine in
                own-append n m.0.seen entries ∙ (ap (λ l. own n m.0.seen ++ l) none ∙ (append-nil (own n m.0.seen) ∙ (ap (own n) whole ∙ ku.sees.all n has)));
          };
          owns = ku.owns;
          next = ku.next;
          makes = ku.makes;
          holding = λ has. let both : Some i ≡ Some j = sym (ku.holding has).0 ∙ is in absurd (ne (cc));
          alone = λ sole. absurd (not_alone s.views i j u m.0 there at ne (ku.alone sole).0);
          met = ku.met;
        } in (
          w,
          gives,
          tt,
          record {
            log = log;
            shared = now;
            of = record {
              legal = legal;
              numbered = numbered;
              lanes = all_append (λ (e : Entry). e.lane < k.shared.given) m.0.seen entries (subst (AllByRecursion (λ (e : Entry). e.lane < k.shared.given)) (sym whole) k.of.lanes)
                  (all_more (λ (e : Entry). e.lane ≡ lane) (λ (e : Entry). e.lane < k.shared.given) (λ e same. omega (arith, same, (kn.owns lane own_lane).1)) entries mine);
            };
            within = k.within;
            placed = (refl, ap (λ x. some x ∷ []) left);
            knows = subst (λ count. (i : ℕ) (u : View) → get_elem? views i ≡ some u → Knows most log now count i u) (sym (length-set s.views j w)) (each_set (Knows most log now (length s.views)) s.views j w here others);
          },
          refl,
        )

  pub unlocking : Allows (Kept most) slots j m 0 (λ _. 0) (λ _ n. Unlocked entries m n)
  unlocking s k few at wide =
      let it = (k.knows j m.0 at).holding holds in
      let p = subst (IsPlaced most s.words s.homes s.views k.log) it.0 k.placed in
      subst (λ (x : List ℕ × (List (maybe.Option Map) × List (ℕ × Map))). Goal' s k at x.0 x.1.0 x.1.1) (λ i. (sym p.2 i, (sym p.5 i, sym out i))) (given_back s k at p.0 it.0 it.1)

-- a look changes nothing
one_word : (most : ℕ) (words : List ℕ) (homes : List (maybe.Option Map)) (views : List View) (log : List Entry) (holder : Option ℕ) → IsPlaced most words homes views log holder → set words 0 (slice_index words 0) ≡ words
one_word most words homes views log None p = subst (λ ws. set ws 0 (slice_index ws 0) ≡ ws) (sym p.0) refl
one_word most words homes views log (Some h) p = subst (λ ws. set ws 0 (slice_index ws 0) ≡ ws) (sym p.2) refl

pub looking : (most slots j : ℕ) (m : Me Map View) → m.0.most ≡ most → Allows (Kept most) slots j m 0 (λ n. n) (λ _ n. Looked m n)
looking most slots j m fixed s k few at wide =
    let kn = k.knows j m.0 at in
    let words = one_word most s.words s.homes s.views k.log k.shared.holder k.placed in
    let views : set s.views j m.0 ≡ s.views = set_again s.views j m.0 at in
    let kept : Kept most (record { words = s.words; homes = s.homes; views = s.views }) = record { log = k.log; shared = k.shared; of = k.of; within = k.within; placed = k.placed; knows = k.knows } in (
      m.0,
      keeps,
      tt,
      subst (λ (x : List ℕ × List View). Kept most (record { words = x.0; homes = s.homes; views = x.1 })) (λ i. (sym words i, sym views i)) kept,
      record {
        same = refl;
        of = of_front m.0.most m.0.seen k.log kn.sees.begins (of_more k.shared.given m.0.most k.log (omega (arith, k.within, fixed)) k.of);
        met = kn.met;
        room = room_by m.0.room refl kn;
      },
    )
  where
    room_by : (room : ℕ) → m.0.room ≡ room → Knows most k.log k.shared (length s.views) j m.0 → m.0.next + m.0.room ≤ m.0.most
    room_by zero is kn = omega (arith, is, kn.next, k.within, fixed)
    room_by (suc room) is kn = let made = kn.makes (omega (arith, is)) in omega (arith, made.1, made.2, fixed)
