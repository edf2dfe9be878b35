-- Of which lanes a lane has seen all calls, once another one was ended into it.
use Rattle.std.proofs.Common.{◌≡◌, ℕ, zero, suc, ◌+◌, List, [], ◌∷◌, ◌++◌, length, Option, Some, None, sym, ap, ◌∙◌, subst, arith, append_assoc}
use mathlib.Core.Option.{some}
use lib.ListN.{get_elem?}
use Rattle.atomic_table.proofs.Lists.{at_longer}
use Rattle.map_model.specs.History.{own}
use Rattle.board_rule.specs.declared.view.View.{View}
use Rattle.board_rule.specs.Views.{GIVEN, looked, lanes_of, option_list, both_views}
use Rattle.worm_index.specs.Lanes.{TookOver}
use Rattle.index_lane.specs.Numbers.{HasAll}

-- a place in a list behind another one
at_behind : (l m : List ℕ) (i n : ℕ) → get_elem? m i ≡ some n → get_elem? (l ++ m) (length l + i) ≡ some n
at_behind [] m i n at = let zero : i ≡ length {A = ℕ} [] + i = omega arith in subst (λ j. get_elem? m j ≡ some n) zero at
at_behind (x ∷ l) m i n at = let more : suc (length l + i) ≡ length (x ∷ l) + i = omega arith in subst (λ j. get_elem? (x ∷ (l ++ m)) j ≡ some n) more (at_behind l m i n at)

-- what is among a lane's numbers is so where its own goes behind the others
turned_round : (l e : List ℕ) (o : Option ℕ) (i n : ℕ) → get_elem? (option_list o ++ e) i ≡ some n → (j : ℕ) × (get_elem? (l ++ (e ++ option_list o)) j ≡ some n)
turned_round l e None i n at = (length l + i, at_behind l (e ++ []) i n (at_longer e [] i n at))
turned_round l e (Some m) zero n at = (length l + (length e + 0), at_behind l (e ++ m ∷ []) (length e + 0) n (at_behind e (m ∷ []) 0 n at))
turned_round l e (Some m) (suc i) n at = (length l + i, at_behind l (e ++ m ∷ []) i n (at_longer e (m ∷ []) i n at))

module _ (v u x w : View) (given : ℕ) (took : TookOver v u x) (is : w ≡ looked GIVEN given x) where
  after : w ≡ looked GIVEN given (both_views v u)
  after = is ∙ ap (looked GIVEN given) took.after

  seen : w.seen ≡ x.seen
  seen = ap (λ (z : View). z.seen) is

  all : lanes_of w ≡ lanes_of v ++ (u.ended ++ option_list u.lane)
  all =
      ap lanes_of after ∙
      (ap (λ l. option_list v.lane ++ l) (append_assoc v.ended u.ended (option_list u.lane)) ∙ sym (append_assoc (option_list v.lane) v.ended (u.ended ++ option_list u.lane)))

  pub into_all : (n : ℕ) → HasAll v n → HasAll w n × (own n w.seen ≡ own n v.seen)
  into_all n has = (
    (has.0, subst (λ l. get_elem? l has.0 ≡ some n) (sym all) (at_longer (lanes_of v) (u.ended ++ option_list u.lane) has.0 n has.1)),
    ap (own n) seen ∙ sym (took.mine.1 has.0 n has.1),
  )

  pub ended_all : (n : ℕ) → HasAll u n → HasAll w n × (own n w.seen ≡ own n u.seen)
  ended_all n has =
      let place = turned_round (lanes_of v) u.ended u.lane has.0 n has.1 in (
        (place.0, subst (λ l. get_elem? l place.0 ≡ some n) (sym all) place.1),
        ap (own n) seen ∙ sym (took.theirs.1 has.0 n has.1),
      )
