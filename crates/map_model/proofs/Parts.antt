-- Parts of a sorted map: a part of a part, parts beside each other, and other values.
use Rattle.std.proofs.Common.{◌≡◌, ◌≢◌, ℕ, List, [], ◌∷◌, ◌++◌, Bool, true, false, cond, not, ◌&&◌, None, Option, refl, sym, ap, ◌∙◌, subst}
use mathlib.Core.Bool.{false≢true}
use Rattle.std.specs.Prelude.{map}
use Rattle.std.specs.List.{AllByRecursion}
use Rattle.std.specs.declared.cmp.Ordering.TheVariants.{Less, Equal, Greater}
use Rattle.std.specs.Ordering.{ordering_reverse}
use Rattle.key_bytes.specs.Order.{is_below}
use Rattle.key_bytes.specs.Bound.{bound_cmp, is_under}
use Rattle.key_bytes.specs.declared.bound.Bound.{Bound}
use Rattle.key_bytes.specs.declared.bound.Bound.TheVariants.{Low, At, High}
use Rattle.key_bytes.proofs.Orders.{below_through, bound_same, bound_cmp-back, not_under_higher, under_higher}
use Rattle.map_model.specs.Maps.{Pairs, IsMap, find, keep, is_in, between}
use Rattle.map_model.proofs.Filters.{filter_all, filter_none, all_append, all_pass, all_weaker}
use Rattle.map_model.proofs.Finds.{find_keep, ascending_keep, same_map}

-- keys under an end are under each end that isn't below it
pub under_within : (a b : Bound) (k : List ℕ) → bound_cmp a b ≢ Greater → is_under a k ≡ true → is_under b k ≡ true
under_within a b k le under = elim (bound_cmp a b) as (λ o. bound_cmp a b ≡ o → is_under b k ≡ true) [
  | Less ↦ λ e. under_higher a b k e under
  | Equal ↦ λ e. subst (λ x. is_under x k ≡ true) (bound_same a b e) under
  | Greater ↦ λ e. absurd (le e)
] refl

-- a key under an end is below each key that isn't
pub below_beyond : (mid : Bound) (j k : List ℕ) → is_under mid j ≡ true → is_under mid k ≡ false → is_below j k ≡ true
below_beyond Low j k low high = absurd (false≢true low)
below_beyond (At mid) j k low high = below_through j mid k low high
below_beyond High j k low high = absurd (false≢true (sym high))

-- no key is between ends that aren't in order
in_none : (from upto : Bound) (k : List ℕ) → bound_cmp from upto ≢ Less → is_in from upto k ≡ false
in_none from upto k not_less = elim (is_under upto k) as (λ u. is_under upto k ≡ u → (not (is_under from k) && u) ≡ false) [
  | true ↦ λ e. ap (λ f. not f && true) (under_within upto from k (λ g. not_less (less_back g)) e)
  | false ↦ λ e. second_fails (not (is_under from k))
] refl
  where
    less_back : bound_cmp upto from ≡ Greater → bound_cmp from upto ≡ Less
    less_back g = bound_cmp-back upto from ∙ ap ordering_reverse g

    second_fails : (a : Bool) → (a && false) ≡ false
    second_fails true = refl
    second_fails false = refl

-- the tests of the two parts, by whether a key is under the lower, the middle and the upper end
front_test : (f u t : Bool) → (u ≡ true → t ≡ true) → (not f && u) ≡ ((not f && t) && u)
front_test true u t higher = refl
front_test false true t higher = sym (ap (λ b. b && true) (higher refl))
front_test false false true higher = refl
front_test false false false higher = refl

back_test : (f u t : Bool) → (f ≡ true → u ≡ true) → (not u && t) ≡ ((not f && t) && not u)
back_test true true t higher = refl
back_test true false t higher = absurd (false≢true (higher refl))
back_test false true true higher = refl
back_test false true false higher = refl
back_test false false true higher = refl
back_test false false false higher = refl

module _ {V : Type 0} (m : Pairs V) (up : IsMap m) where
  -- a part of a part
  pub keep_keep : (p q r : List ℕ → Bool) → ((k : List ℕ) → r k ≡ (p k && q k)) → keep q (keep p m) ≡ keep r m
  keep_keep p q r each = same_map _ _ (ascending_keep q (keep p m) (ascending_keep p m up)) (ascending_keep r m up) (λ j.
      find_keep q (keep p m) j ∙ (ap (λ o. cond (q j) o None) (find_keep p m j) ∙ (both (find m j) (p j) (q j) ∙ (ap (λ b. cond b (find m j) None) (sym (each j)) ∙ sym (find_keep r m j)))))
    where
      both : (o : Option V) (a b : Bool) → cond b (cond a o None) None ≡ cond (a && b) o None
      both o true true = refl
      both o true false = refl
      both o false true = refl
      both o false false = refl

  -- tests that agree keep the same
  pub keep_same : (p q : List ℕ → Bool) → ((k : List ℕ) → p k ≡ q k) → keep p m ≡ keep q m
  keep_same p q each = same_map _ _ (ascending_keep p m up) (ascending_keep q m up) (λ j. find_keep p m j ∙ (ap (λ b. cond b (find m j) None) (each j) ∙ sym (find_keep q m j)))

module _ {V : Type 0} (mid : Bound) where
  -- the parts under an end and from it on, one after the other
  pub keep_split : (m : Pairs V) → IsMap m → keep (is_under mid) m ++ keep (λ k. not (is_under mid k)) m ≡ m
  keep_split [] up = refl
  keep_split (x ∷ m) up =
      let lows = keep (is_under mid) m in
      let highs = keep (λ k. not (is_under mid k)) m in
      elim (is_under mid x.0) as (λ b. is_under mid x.0 ≡ b → cond b (x ∷ lows) lows ++ cond (not b) (x ∷ highs) highs ≡ x ∷ m) [
        | true ↦ λ e. ap (λ (t : Pairs V). x ∷ t) (keep_split m up.1)
        | false ↦ λ e.
            let off = all_weaker (λ (q : List ℕ × V). is_below x.0 q.0 ≡ true) (λ (q : List ℕ × V). is_under mid q.0 ≡ false) (λ q h. not_under_higher mid x.0 q.0 h e) m up.0 in
            let none : lows ≡ [] = filter_none (λ (q : List ℕ × V). is_under mid q.0) m off in
            let all : highs ≡ m = filter_all (λ (q : List ℕ × V). not (is_under mid q.0)) m (all_weaker (λ (q : List ℕ × V). is_under mid q.0 ≡ false) (λ (q : List ℕ × V). not (is_under mid q.0) ≡ true) (λ q h. ap not h) m off) in
            ap (λ (t : Pairs V). t ++ x ∷ highs) none ∙ ap (λ (t : Pairs V). x ∷ t) all
      ] refl

  -- maps on the two sides of an end are one map
  pub ascending_join : (m n : Pairs V) → IsMap m → IsMap n → AllByRecursion (λ (p : List ℕ × V). is_under mid p.0 ≡ true) m → AllByRecursion (λ (p : List ℕ × V). is_under mid p.0 ≡ false) n → IsMap (m ++ n)
  ascending_join [] n um un low high = un
  ascending_join (x ∷ m) n um un low high =
      let beyond = all_weaker (λ (q : List ℕ × V). is_under mid q.0 ≡ false) (λ (q : List ℕ × V). is_below x.0 q.0 ≡ true) (λ q h. below_beyond mid x.0 q.0 low.0 h) n high in
      (all_append (λ (q : List ℕ × V). is_below x.0 q.0 ≡ true) m n um.0 beyond, ascending_join m n um.1 un low.1 high)

module _ {V : Type 0} (mid : List ℕ) where
  -- the parts below a key and from it on, one after the other
  pub keep_cut : (m : Pairs V) → IsMap m → keep (λ k. is_below k mid) m ++ keep (λ k. not (is_below k mid)) m ≡ m
  keep_cut m up = keep_split (At mid) m up

-- what is between two ends
module _ {V : Type 0} (m : Pairs V) where
  -- nothing is between two ends of which the lower one isn't below
  pub between_none : (from upto : Bound) → bound_cmp from upto ≢ Less → between m from upto ≡ []
  between_none from upto not_less = filter_none (λ (p : List ℕ × V). is_in from upto p.0) m (all_pass (λ (p : List ℕ × V). is_in from upto p.0 ≡ false) (λ p. in_none from upto p.0 not_less) m)

  -- a part up to an end and the part from there on are the part that holds both
  pub between_split : IsMap m → (from mid upto : Bound) → bound_cmp from mid ≢ Greater → bound_cmp mid upto ≢ Greater → between m from mid ++ between m mid upto ≡ between m from upto
  between_split up from mid upto le le' =
      let whole = between m from upto in
      let lows : keep (is_under mid) whole ≡ between m from mid = keep_keep m up (is_in from upto) (is_under mid) (is_in from mid) (λ k. front_test (is_under from k) (is_under mid k) (is_under upto k) (under_within mid upto k le')) in
      let highs : keep (λ k. not (is_under mid k)) whole ≡ between m mid upto = keep_keep m up (is_in from upto) (λ k. not (is_under mid k)) (is_in mid upto) (λ k. back_test (is_under from k) (is_under mid k) (is_under upto k) (under_within from mid k le)) in
      ap (λ (t : Pairs V). t ++ between m mid upto) (sym lows) ∙ (ap (λ (t : Pairs V). keep (is_under mid) whole ++ t) (sym highs) ∙ keep_split mid whole (ascending_keep (is_in from upto) m up))

-- other values at the same keys
module _ {V W : Type 0} (f : V → W) where
  pub keep_map : (test : List ℕ → Bool) (m : Pairs V) → keep test (map (λ (p : List ℕ × V). (p.0, f p.1)) m) ≡ map (λ (p : List ℕ × V). (p.0, f p.1)) (keep test m)
  keep_map test [] = refl
  keep_map test (x ∷ m) =
      let ih = keep_map test m in
      elim (test x.0) as (λ b. cond b ((x.0, f x.1) ∷ keep test (map (λ (p : List ℕ × V). (p.0, f p.1)) m)) (keep test (map (λ (p : List ℕ × V). (p.0, f p.1)) m)) ≡ map (λ (p : List ℕ × V). (p.0, f p.1)) (cond b (x ∷ keep test m) (keep test m))) [
        | true ↦ ap (λ (t : Pairs W). (x.0, f x.1) ∷ t) ih
        | false ↦ ih
      ]
