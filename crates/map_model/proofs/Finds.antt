-- Two sorted maps that find the same are the same.
use Rattle.std.proofs.Common.{◌≡◌, ℕ, List, [], ◌∷◌, ◌++◌, Bool, true, false, cond, not, Some, None, Option, refl, sym, ap, ◌∙◌, subst}
use mathlib.Core.Bool.{false≢true}
use Rattle.std.specs.List.{AllByRecursion}
use Rattle.key_bytes.specs.Order.{is_below, is_same}
use Rattle.map_model.specs.Maps.{Pairs, IsMap, find, keep, with, without, sorted}
use Rattle.key_bytes.proofs.Orders.{placed, less, same, more, same_back, below_trans, same_is, same_itself, below_not_same_back, below_not_back, not_below_itself}
use Rattle.map_model.proofs.Filters.{filtered_pass, all_filter, all_weaker, all_append}

module _ {V : Type 0} where
  abbrev Above : List ℕ → Pairs V → Type 0
  Above key pairs = AllByRecursion (λ (p : List ℕ × V). is_below key p.0 ≡ true) pairs

  pub find_above : (m : Pairs V) (key : List ℕ) → Above key m → find m key ≡ None
  find_above [] key upper = refl
  find_above (p ∷ m) key upper = ap (λ b. cond b (Some p.1) (find m key)) (below_not_same_back key p.0 upper.0) ∙ find_above m key upper.1

  pub find_first : (m : Pairs V) (x : List ℕ × V) (key : List ℕ) → x.0 ≡ key → find (x ∷ m) key ≡ Some x.1
  find_first m x key e = ap (λ b. cond b (Some x.1) (find m key)) (subst (λ k. is_same x.0 k ≡ true) e (same_itself x.0))

  pub find_other : (m : Pairs V) (x : List ℕ × V) (key : List ℕ) → is_same x.0 key ≡ false → find (x ∷ m) key ≡ find m key
  find_other m x key e = ap (λ b. cond b (Some x.1) (find m key)) e

  -- a filter by key
  pub find_keep : (test : List ℕ → Bool) (m : Pairs V) (key : List ℕ) → find (keep test m) key ≡ cond (test key) (find m key) None
  find_keep test [] key = let none : Option V = None in elim (test key) as (λ b. none ≡ cond b none none) [ true ↦ refl | false ↦ refl ]
  find_keep test (x ∷ m) key =
      let ih = find_keep test m key in
      elim (is_same x.0 key) as (λ s. is_same x.0 key ≡ s → find (cond (test x.0) (x ∷ keep test m) (keep test m)) key ≡ cond (test key) (cond s (Some x.1) (find m key)) None) [
        | true ↦ λ e. hit (test x.0) (test key) (ap test (same_is x.0 key e)) (same_is x.0 key e) ih
        | false ↦ λ e. miss (test x.0) e ih
      ] refl
    where
      hit : (s t : Bool) → s ≡ t → x.0 ≡ key → find (keep test m) key ≡ cond t (find m key) None → find (cond s (x ∷ keep test m) (keep test m)) key ≡ cond t (Some x.1) None
      hit true true q e ih = find_first (keep test m) x key e
      hit true false q e ih = absurd (false≢true (sym q))
      hit false true q e ih = absurd (false≢true q)
      hit false false q e ih = ih

      miss : (s : Bool) → is_same x.0 key ≡ false → find (keep test m) key ≡ cond (test key) (find m key) None → find (cond s (x ∷ keep test m) (keep test m)) key ≡ cond (test key) (find m key) None
      miss true e ih = find_other (keep test m) x key e ∙ ih
      miss false e ih = ih

  pub find_join : (a b : Pairs V) (key : List ℕ) → find a key ≡ None → find (a ++ b) key ≡ find b key
  find_join [] b key e = refl
  find_join (x ∷ a) b key e = elim (is_same x.0 key) as (λ s. cond s (Some x.1) (find a key) ≡ None → cond s (Some x.1) (find (a ++ b) key) ≡ find b key) [
    | true ↦ λ e. absurd (cc)
    | false ↦ λ e. find_join a b key e
  ] e

  pub find_front : (a b : Pairs V) (key : List ℕ) (v : V) → find a key ≡ Some v → find (a ++ b) key ≡ Some v
  find_front [] b key v e = absurd (cc)
  find_front (x ∷ a) b key v e = elim (is_same x.0 key) as (λ s. cond s (Some x.1) (find a key) ≡ Some v → cond s (Some x.1) (find (a ++ b) key) ≡ Some v) [
    | true ↦ λ e. e
    | false ↦ λ e. find_front a b key v e
  ] e

  find_low : (a b : Pairs V) (key : List ℕ) (o : Option V) → find a key ≡ o → find b key ≡ None → find (a ++ b) key ≡ o
  find_low a b key None e f = find_join a b key e ∙ f
  find_low a b key (Some v) e f = find_front a b key v e

  -- what is found after a change
  pub find_with_same : (m : Pairs V) (key : List ℕ) (value : V) → find (with m key value) key ≡ Some value
  find_with_same m key value =
      let low : find (keep (λ k. is_below k key) m) key ≡ None = find_keep (λ k. is_below k key) m key ∙ ap (λ b. cond b (find m key) None) (not_below_itself key) in
      find_join (keep (λ k. is_below k key) m) _ key low ∙ find_first (keep (λ k. is_below key k) m) (key, value) key refl

  pub find_with_other : (m : Pairs V) (key : List ℕ) (value : V) (j : List ℕ) → is_same key j ≡ false → find (with m key value) j ≡ find m j
  find_with_other m key value j other =
      let highs = keep (λ k. is_below key k) m in
      let lows = keep (λ k. is_below k key) m in
      let high : find ((key, value) ∷ highs) j ≡ cond (is_below key j) (find m j) None = find_other highs (key, value) j other ∙ find_keep (λ k. is_below key k) m j in
      let low : find lows j ≡ cond (is_below j key) (find m j) None = find_keep (λ k. is_below k key) m j in
      elim (placed key j) [
        | less h ↦ find_join lows _ j (low ∙ ap (λ b. cond b (find m j) None) (below_not_back key j h)) ∙ (high ∙ ap (λ b. cond b (find m j) None) h)
        | same h ↦ absurd (false≢true (sym other ∙ subst (λ x. is_same key x ≡ true) h (same_itself key)))
        | more h ↦ find_low lows ((key, value) ∷ highs) j (find m j) (low ∙ ap (λ b. cond b (find m j) None) h) (high ∙ ap (λ b. cond b (find m j) None) (below_not_back j key h))
      ]

  pub find_with : (m : Pairs V) (key : List ℕ) (value : V) (j : List ℕ) → find (with m key value) j ≡ cond (is_same key j) (Some value) (find m j)
  find_with m key value j = elim (is_same key j) as (λ s. is_same key j ≡ s → find (with m key value) j ≡ cond s (Some value) (find m j)) [
    | true ↦ λ e. subst (λ x. find (with m key value) x ≡ Some value) (same_is key j e) (find_with_same m key value)
    | false ↦ λ e. find_with_other m key value j e
  ] refl

  pub find_without : (m : Pairs V) (key j : List ℕ) → find (without m key) j ≡ cond (is_same key j) None (find m j)
  find_without m key j = find_keep (λ k. not (is_same k key)) m j ∙ (ap (λ b. cond (not b) (find m j) None) (same_back j key)
      ∙ elim (is_same key j) as (λ b. cond (not b) (find m j) None ≡ cond b None (find m j)) [ true ↦ refl | false ↦ refl ])

  -- the order stays
  pub ascending_keep : (test : List ℕ → Bool) (m : Pairs V) → IsMap m → IsMap (keep test m)
  ascending_keep test [] up = tt
  ascending_keep test (x ∷ m) up =
      let rest = ascending_keep test m up.1 in
      let kept = all_filter (λ (q : List ℕ × V). is_below x.0 q.0 ≡ true) (λ (p : List ℕ × V). test p.0) m up.0 in
      elim (test x.0) as (λ b. IsMap (cond b (x ∷ keep test m) (keep test m))) [ true ↦ (kept, rest) | false ↦ rest ]

  joined : (key : List ℕ) (value : V) (xs back : Pairs V) → AllByRecursion (λ (p : List ℕ × V). is_below p.0 key ≡ true) xs → Above key back → IsMap back → IsMap xs → IsMap (xs ++ (key, value) ∷ back)
  joined key value [] back low upper up_back up = (upper, up_back)
  joined key value (p ∷ xs) back low upper up_back up =
      let beyond : Above p.0 back = all_weaker (λ (q : List ℕ × V). is_below key q.0 ≡ true) (λ (q : List ℕ × V). is_below p.0 q.0 ≡ true) (λ q h. below_trans p.0 key q.0 low.0 h) back upper in
      (all_append (λ (q : List ℕ × V). is_below p.0 q.0 ≡ true) xs ((key, value) ∷ back) up.0 (low.0, beyond), joined key value xs back low.1 upper up_back up.1)

  pub ascending_with : (m : Pairs V) (key : List ℕ) (value : V) → IsMap m → IsMap (with m key value)
  ascending_with m key value up = joined key value _ _ (filtered_pass (λ (p : List ℕ × V). is_below p.0 key) m) (filtered_pass (λ (p : List ℕ × V). is_below key p.0) m) (ascending_keep (λ k. is_below key k) m up) (ascending_keep (λ k. is_below k key) m up)

  pub ascending_sorted : (rows : Pairs V) → IsMap (sorted rows)
  ascending_sorted [] = tt
  ascending_sorted (x ∷ rows) = ascending_with (sorted rows) x.0 x.1 (ascending_sorted rows)

  -- and what the map of a list finds
  pub find_sorted : (rows : Pairs V) (key : List ℕ) → find (sorted rows) key ≡ find rows key
  find_sorted [] key = refl
  find_sorted (x ∷ rows) key = find_with (sorted rows) x.0 x.1 key ∙ ap (λ o. cond (is_same x.0 key) (Some x.1) o) (find_sorted rows key)

  above_next : (a : List ℕ) (x : List ℕ × V) (m : Pairs V) → is_below a x.0 ≡ true → Above x.0 m → Above a (x ∷ m)
  above_next a x m h up = (h, all_weaker (λ (q : List ℕ × V). is_below x.0 q.0 ≡ true) (λ (q : List ℕ × V). is_below a q.0 ≡ true) (λ q k. below_trans a x.0 q.0 h k) m up)

  -- two maps that find the same are the same
  pub same_map : (m n : Pairs V) → IsMap m → IsMap n → ((key : List ℕ) → find m key ≡ find n key) → m ≡ n
  same_map [] [] um un each = refl
  same_map [] (y ∷ n) um un each = let e = find_first n y y.0 refl in absurd (cc (each y.0, e))
  same_map (x ∷ m) [] um un each = let e = find_first m x x.0 refl in absurd (cc (each x.0, e))
  same_map (x ∷ m) (y ∷ n) um un each = elim (placed x.0 y.0) [
    | less h ↦ let e = find_first m x x.0 refl in let f = find_above (y ∷ n) x.0 (above_next x.0 y n h un.0) in absurd (cc (each x.0, e, f))
    | more h ↦ let e = find_first n y y.0 refl in let f = find_above (x ∷ m) y.0 (above_next y.0 x m h um.0) in absurd (cc (each y.0, e, f))
    | same h ↦
        let e : find (x ∷ m) x.0 ≡ Some x.1 = find_first m x x.0 refl in
        let f : find (y ∷ n) x.0 ≡ Some y.1 = find_first n y x.0 (sym h) in
        let value : x.1 ≡ y.1 = cc (each x.0, e, f) in
        let tails : m ≡ n = same_map m n um.1 un.1 (λ key. tail key (is_same x.0 key) refl h (each key)) in
        ap (λ k. (k, x.1) ∷ m) h ∙ (ap (λ (v : V). (y.0, v) ∷ m) value ∙ ap (λ (t : Pairs V). y ∷ t) tails)
  ]
    where
      tail : (key : List ℕ) (s : Bool) → is_same x.0 key ≡ s → x.0 ≡ y.0 → find (x ∷ m) key ≡ find (y ∷ n) key → find m key ≡ find n key
      tail key true s h each =
          let k : x.0 ≡ key = same_is x.0 key s in
          find_above m key (subst (λ a. Above a m) k um.0) ∙ sym (find_above n key (subst (λ a. Above a n) (sym h ∙ k) un.0))
      tail key false s h each = sym (find_other m x key s) ∙ (each ∙ find_other n y key (subst (λ a. is_same a key ≡ false) h s))
