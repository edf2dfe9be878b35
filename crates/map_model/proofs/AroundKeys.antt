-- What a map finds, and what a change leaves, where the pairs below and above the key are known.
use Rattle.std.proofs.Common.{◌≡◌, ℕ, List, [], ◌∷◌, ◌++◌, true, cond, not, Some, None, refl, sym, ap, ◌∙◌, arith, ◌<◌, length, get_or, zero, suc}
use Rattle.std.specs.Prelude.{filter}
use Rattle.std.proofs.lemmas.List.{append-nil}
use Rattle.std.proofs.lemmas.List.Elements.{filter-append, All-from_recursion}
use Rattle.key_bytes.specs.Order.{is_below, is_same}
use Rattle.map_model.specs.Places.{Pair}
use Rattle.map_model.specs.Maps.{Pairs, IsMap, find, with, without}
use Rattle.map_model.specs.Places.{AllBelow, AllAbove}
use Rattle.key_bytes.proofs.Orders.{same_itself, below_not_same, below_not_same_back, below_not_back, not_below_itself}
use Rattle.map_model.proofs.Finds.{find_above}
use Rattle.map_model.proofs.Filters.{filter_all, filter_none, all_weaker, all_parts, all_append}

pub find_skip : (front back : Pairs (List ℕ)) (key : List ℕ) → AllBelow key front → find (front ++ back) key ≡ find back key
find_skip [] back key lower = refl
find_skip (p ∷ front) back key lower = ap (λ b. cond b (Some p.1) (find (front ++ back) key)) (below_not_same p.0 key lower.0) ∙ find_skip front back key lower.1

pub find_here : (back : Pairs (List ℕ)) (key value : List ℕ) → find ((key, value) ∷ back) key ≡ Some value
find_here back key value = ap (λ b. cond b (Some value) (find back key)) (same_itself key)

module _ (front back : Pairs (List ℕ)) (key : List ℕ) (lower : AllBelow key front) (upper : AllAbove key back) where
  pub find_absent : find (front ++ back) key ≡ None
  find_absent = find_skip front back key lower ∙ find_above back key upper

  pub find_present : (value : List ℕ) → find (front ++ (key, value) ∷ back) key ≡ Some value
  find_present value = find_skip front ((key, value) ∷ back) key lower ∙ find_here back key value

  -- the parts below and above the key
  below_part : filter (λ (p : Pair). is_below p.0 key) (front ++ back) ≡ front
  below_part = filter-append _ front back ∙ (ap (λ xs. xs ++ filter (λ (p : Pair). is_below p.0 key) back) (filter_all _ front lower)
      ∙ (ap (λ ys. front ++ ys) (filter_none _ back (all_weaker (λ (p : Pair). is_below key p.0 ≡ true) _ (λ p h. below_not_back key p.0 h) back upper)) ∙ append-nil front))

  above_part : filter (λ (p : Pair). is_below key p.0) (front ++ back) ≡ back
  above_part = filter-append _ front back ∙ (ap (λ xs. xs ++ filter (λ (p : Pair). is_below key p.0) back) (filter_none _ front (all_weaker (λ (p : Pair). is_below p.0 key ≡ true) _ (λ p h. below_not_back p.0 key h) front lower))
      ∙ filter_all _ back upper)

  pub with_absent : (value : List ℕ) → with (front ++ back) key value ≡ front ++ (key, value) ∷ back
  with_absent value = ap (λ xs. xs ++ (key, value) ∷ filter (λ (p : Pair). is_below key p.0) (front ++ back)) below_part ∙ ap (λ ys. front ++ (key, value) ∷ ys) above_part

  pub with_present : (old value : List ℕ) → with (front ++ (key, old) ∷ back) key value ≡ front ++ (key, value) ∷ back
  with_present old value =
      let low = λ (p : Pair). is_below p.0 key in
      let high = λ (p : Pair). is_below key p.0 in
      let lows : filter low (front ++ (key, old) ∷ back) ≡ front =
      filter-append low front ((key, old) ∷ back) ∙ (ap (λ b. filter low front ++ cond b ((key, old) ∷ filter low back) (filter low back)) (not_below_itself key) ∙ (sym (filter-append low front back) ∙ below_part)) in
      let highs : filter high (front ++ (key, old) ∷ back) ≡ back =
      filter-append high front ((key, old) ∷ back) ∙ (ap (λ b. filter high front ++ cond b ((key, old) ∷ filter high back) (filter high back)) (not_below_itself key) ∙ (sym (filter-append high front back) ∙ above_part)) in
      ap (λ xs. xs ++ (key, value) ∷ filter high (front ++ (key, old) ∷ back)) lows ∙ ap (λ ys. front ++ (key, value) ∷ ys) highs

  pub without_present : (old : List ℕ) → without (front ++ (key, old) ∷ back) key ≡ front ++ back
  without_present old =
      let other = λ (p : Pair). not (is_same p.0 key) in
      filter-append other front ((key, old) ∷ back)
      ∙ (ap (λ xs. xs ++ filter other ((key, old) ∷ back)) (filter_all other front (all_weaker (λ (p : Pair). is_below p.0 key ≡ true) (λ (p : Pair). other p ≡ true) (λ p h. ap not (below_not_same p.0 key h)) front lower))
      ∙ (ap (λ b. front ++ cond (not b) ((key, old) ∷ filter other back) (filter other back)) (same_itself key)
      ∙ ap (λ ys. front ++ ys) (filter_all other back (all_weaker (λ (p : Pair). is_below key p.0 ≡ true) (λ (p : Pair). other p ≡ true) (λ p h. ap not (below_not_same_back key p.0 h)) back upper))))

  pub without_absent : without (front ++ back) key ≡ front ++ back
  without_absent =
      let other = λ (p : Pair). not (is_same p.0 key) in
      filter_all other (front ++ back) (all_append (λ (p : Pair). other p ≡ true) front back
      (all_weaker (λ (p : Pair). is_below p.0 key ≡ true) (λ (p : Pair). other p ≡ true) (λ p h. ap not (below_not_same p.0 key h)) front lower)
      (all_weaker (λ (p : Pair). is_below key p.0 ≡ true) (λ (p : Pair). other p ≡ true) (λ p h. ap not (below_not_same_back key p.0 h)) back upper))

-- the end of an ascending list ascends, and the pairs around one are below and above it
pub ascending_back : (front back : Pairs (List ℕ)) → IsMap (front ++ back) → IsMap back
ascending_back [] back up = up
ascending_back (p ∷ front) back up = ascending_back front back up.1

pub below_middle : (front : Pairs (List ℕ)) (pair : Pair) (back : Pairs (List ℕ)) → IsMap (front ++ pair ∷ back) → AllBelow pair.0 front
below_middle [] pair back up = tt
below_middle (p ∷ front) pair back up = ((all_parts (λ (q : Pair). is_below p.0 q.0 ≡ true) front (pair ∷ back) up.0).1.0, below_middle front pair back up.1)

pub above_middle : (front : Pairs (List ℕ)) (pair : Pair) (back : Pairs (List ℕ)) → IsMap (front ++ pair ∷ back) → AllAbove pair.0 back
above_middle front pair back up = (ascending_back front (pair ∷ back) up).0

-- by places
pub ascending_at : (m : Pairs (List ℕ)) → IsMap m → (i j : ℕ) (d : Pair) → i < j → j < length m → is_below (get_or m i d).0 (get_or m j d).0 ≡ true
ascending_at [] up i j d lt in_range = absurd (omega arith)
ascending_at (p ∷ m) up zero zero d lt in_range = absurd (omega arith)
ascending_at (p ∷ m) up zero (suc j) d lt in_range = All-from_recursion (λ (q : Pair). is_below p.0 q.0 ≡ true) m up.0 j d (omega arith)
ascending_at (p ∷ m) up (suc i) zero d lt in_range = absurd (omega arith)
ascending_at (p ∷ m) up (suc i) (suc j) d lt in_range = ascending_at m up.1 i j d (omega arith) (omega arith)
