-- Where the ends of a range cut a map, and where rows are cut in two.
use Rattle.std.proofs.Common.{◌≡◌, ℕ, zero, suc, ◌-◌, ◌<◌, ◌≤◌, List, [], ◌∷◌, ◌++◌, Bool, true, false, cond, not, ◌&&◌, refl, sym, ap, ◌∙◌, subst, length, get_or, take, drop, reverse, arith, inl, inr}
use Rattle.std.specs.Prelude.{filter}
use Rattle.std.specs.List.{AllByRecursion, AllWithin}
use Rattle.std.specs.List.Sorted.{IsPartitionedBy}
use Rattle.std.proofs.Math.Seq.{take-append_seam, drop-append_seam}
use Rattle.std.proofs.lemmas.Bool.{cases_lt}
use Rattle.std.proofs.lemmas.List.{reverse-append, reverse-reverse}
use Rattle.std.proofs.lemmas.List.Elements.{All-from_recursion}
use Rattle.key_bytes.specs.Order.{is_below}
use Rattle.key_bytes.specs.Bound.{is_under}
use Rattle.key_bytes.specs.declared.bound.Bound.{Bound}
use Rattle.key_bytes.specs.declared.bound.Bound.TheVariants.{Low}
use Rattle.key_bytes.proofs.Orders.{under_lower, not_under_higher}
use Rattle.map_model.specs.Maps.{Pairs, IsMap, keep, between}
use Rattle.map_model.proofs.Filters.{filter_none, all_weaker}

-- as many pass as stand before a cut behind which none does
pub length-filter_cut : {X : Type 0} (p : X → Bool) (xs : List X) (i : ℕ) → i ≤ length xs → AllWithin (λ x. p x ≡ true) xs 0 i → AllWithin (λ x. p x ≡ false) xs i (length xs) → length (filter p xs) ≡ i
length-filter_cut p [] i in_range pass fail = omega arith
length-filter_cut p (x ∷ xs) zero in_range pass fail =
    ap (λ b. length (cond b (x ∷ filter p xs) (filter p xs))) (fail 0 x (omega arith) (omega arith))
    ∙ length-filter_cut p xs 0 (omega arith) (λ k d le lt. absurd (omega arith)) (λ k d le lt. fail (suc k) d (omega arith) (omega arith))
length-filter_cut p (x ∷ xs) (suc i) in_range pass fail =
    let rest = length-filter_cut p xs i (omega arith) (λ k d le lt. pass (suc k) d (omega arith) (omega arith)) (λ k d le lt. fail (suc k) d (omega arith) (omega arith)) in
    ap (λ b. length (cond b (x ∷ filter p xs) (filter p xs))) (pass 0 x (omega arith) (omega arith)) ∙ omega (arith, rest)

-- a list of two parts, and the length of the first
pub first_part : {X : Type 0} (xs ys all : List X) (n : ℕ) → xs ++ ys ≡ all → length xs ≡ n → xs ≡ take n all
first_part xs ys all n whole size = sym (take-append_seam xs ys) ∙ (ap (λ k. take k (xs ++ ys)) size ∙ ap (take n) whole)

pub second_part : {X : Type 0} (xs ys all : List X) (n : ℕ) → xs ++ ys ≡ all → length xs ≡ n → ys ≡ drop n all
second_part xs ys all n whole size = sym (drop-append_seam xs ys) ∙ (ap (λ k. drop k (xs ++ ys)) size ∙ ap (drop n) whole)

-- what lies before a list that is turned, where both together are a list that is turned
pub turned_parts : {X : Type 0} (front back all : List X) → front ++ reverse back ≡ reverse all → back ++ reverse front ≡ all
turned_parts front back all whole = ap (λ xs. xs ++ reverse front) (sym (reverse-reverse back)) ∙ (sym (reverse-append front (reverse back)) ∙ (ap reverse whole ∙ reverse-reverse all))

second_fails : (a b : Bool) → b ≡ false → (not a && b) ≡ false
second_fails true b h = refl
second_fails false b h = h

module _ {V : Type 0} where
  -- keys of a map ascend from place to place
  ascending_at : (m : Pairs V) → IsMap m → (i j : ℕ) (d : List ℕ × V) → i < j → j < length m → is_below (get_or m i d).0 (get_or m j d).0 ≡ true
  ascending_at [] up i j d less lt = absurd (omega arith)
  ascending_at (x ∷ m) up i zero d less lt = absurd (omega arith)
  ascending_at (x ∷ m) up zero (suc j) d less lt = All-from_recursion (λ (q : List ℕ × V). is_below x.0 q.0 ≡ true) m up.0 j d (omega arith)
  ascending_at (x ∷ m) up (suc i) (suc j) d less lt = ascending_at m up.1 i j d (omega arith) (omega arith)

  -- the key of a row is below an end
  abbrev pub is_row_under : Bound → List ℕ × V → Bool
  is_row_under end row = is_under end row.0

  pub under_first : (m : Pairs V) → IsMap m → (end : Bound) → IsPartitionedBy (is_row_under end) m
  under_first m up end i j d le lt under = elim (cases_lt i j) [
    | inl less ↦ under_lower end (get_or m i d).0 (get_or m j d).0 (ascending_at m up i j d less lt) under
    | inr same ↦ let e : j ≡ i = omega arith in subst (λ k. is_row_under end (get_or m k d) ≡ true) e under
  ]

  -- where the first key isn't below an end, no key is
  none_under : (end : Bound) (x : List ℕ × V) (m : Pairs V) → IsMap (x ∷ m) → is_under end x.0 ≡ false → AllByRecursion (λ (q : List ℕ × V). is_under end q.0 ≡ false) m
  none_under end x m up off = all_weaker (λ (q : List ℕ × V). is_below x.0 q.0 ≡ true) (λ (q : List ℕ × V). is_under end q.0 ≡ false) (λ q above. not_under_higher end x.0 q.0 above off) m up.0

  -- one pair more at the front of a map
  module _ (x : List ℕ × V) (m : Pairs V) (up : IsMap (x ∷ m)) (from upto : Bound) where
    no_lows : is_under from x.0 ≡ false → length (keep (is_under from) m) ≡ 0
    no_lows off = ap length (filter_none (λ (q : List ℕ × V). is_under from q.0) m (none_under from x m up off))

    no_highs : is_under upto x.0 ≡ false → length (keep (is_under upto) m) ≡ 0
    no_highs off = ap length (filter_none (λ (q : List ℕ × V). is_under upto q.0) m (none_under upto x m up off))

    no_part : is_under upto x.0 ≡ false → between m from upto ≡ []
    no_part off = filter_none (λ (q : List ℕ × V). not (is_under from q.0) && is_under upto q.0) m
        (all_weaker (λ (q : List ℕ × V). is_under upto q.0 ≡ false) (λ (q : List ℕ × V). (not (is_under from q.0) && is_under upto q.0) ≡ false) (λ q h. second_fails (is_under from q.0) (is_under upto q.0) h) m (none_under upto x m up off))

    one_more : between m from upto ≡ take (length (keep (is_under upto) m) - length (keep (is_under from) m)) (drop (length (keep (is_under from) m)) m)
        → (a b : Bool) → is_under from x.0 ≡ a → is_under upto x.0 ≡ b
        → cond (not a && b) (x ∷ between m from upto) (between m from upto)
        ≡ take (length (cond b (x ∷ keep (is_under upto) m) (keep (is_under upto) m)) - length (cond a (x ∷ keep (is_under from) m) (keep (is_under from) m))) (drop (length (cond a (x ∷ keep (is_under from) m) (keep (is_under from) m))) (x ∷ m))
    one_more rest true true e f =
        let h : ℕ = length (keep (is_under upto) m) in
        let l : ℕ = length (keep (is_under from) m) in
        let less : h - l ≡ suc h - suc l = omega arith in
        rest ∙ ap (λ n. take n (drop l m)) less
    one_more rest true false e f =
        let h : ℕ = length (keep (is_under upto) m) in
        let l : ℕ = length (keep (is_under from) m) in
        let z : h ≡ 0 = no_highs f in
        let none : h - suc l ≡ 0 = omega arith in
        no_part f ∙ sym (ap (λ n. take n (drop l m)) none)
    one_more rest false true e f =
        let h : ℕ = length (keep (is_under upto) m) in
        let l : ℕ = length (keep (is_under from) m) in
        let z : l ≡ 0 = no_lows e in
        let less : h - l ≡ h = omega arith in
        let more : suc h - l ≡ suc h = omega arith in
        let a : take (h - l) (drop l m) ≡ take h m = ap (λ n. take n (drop l m)) less ∙ ap (λ n. take h (drop n m)) z in
        let b : take (suc h - l) (drop l (x ∷ m)) ≡ take (suc h) (x ∷ m) = ap (λ n. take n (drop l (x ∷ m))) more ∙ ap (λ n. take (suc h) (drop n (x ∷ m))) z in
        ap (λ t. x ∷ t) (rest ∙ a) ∙ sym b
    one_more rest false false e f =
        let h : ℕ = length (keep (is_under upto) m) in
        let l : ℕ = length (keep (is_under from) m) in
        let z : h ≡ 0 = no_highs f in
        let none : h - l ≡ 0 = omega arith in
        no_part f ∙ sym (ap (λ n. take n (drop l (x ∷ m))) none)

  -- what is between two ends stands from as many places on as keys are below the one, up to as many
  -- as are below the other
  pub between_places : (m : Pairs V) → IsMap m → (from upto : Bound) → between m from upto ≡ take (length (between m Low upto) - length (between m Low from)) (drop (length (between m Low from)) m)
  between_places [] up from upto = refl
  between_places (x ∷ m) up from upto = one_more x m up from upto (between_places m up.1 from upto) (is_under from x.0) (is_under upto x.0) refl refl

  pub between_at : (m : Pairs V) → IsMap m → (from upto : Bound) (i j : ℕ) → i ≡ length (between m Low from) → j ≡ length (between m Low upto) → between m from upto ≡ take (j - i) (drop i m)
  between_at m up from upto i j start end =
      between_places m up from upto
      ∙ (ap (λ n. take (n - length (between m Low from)) (drop (length (between m Low from)) m)) (sym end)
      ∙ ap (λ n. take (j - n) (drop n m)) (sym start))
