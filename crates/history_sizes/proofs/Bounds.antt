-- A legal history's map has no more keys than the history put new ones, and no longer ones.
use Rattle.std.proofs.Common.{◌≡◌, ℕ, ◌+◌, ◌≤◌, List, [], ◌∷◌, max, length, length-append, Bool, true, false, is_some, not, Some, None, Option, cond, refl, sym, ap, arith, subst, suc}
use mathlib.Core.Bool.{false≢true}
use Rattle.std.specs.List.{AllByRecursion}
use Rattle.key_bytes.specs.Order.{is_below, is_same}
use Rattle.key_bytes.proofs.Orders.{same_is, below_not_back, below_not_same, below_not_same_back}
use Rattle.map_model.specs.Maps.{Pairs, find, keep, with, without}
use Rattle.map_model.specs.Calls.{Call, New, Set, Get, Put, Del, Part, answer_of, map_after}
use Rattle.map_model.specs.History.{Entry, map_from, after, IsLegalFrom, IsLegal}
use Rattle.map_model.proofs.Filters.{all_filter, all_append, all_weaker, length_keep}
use Rattle.history_sizes.specs.Sizes.{is_new, new_keys, new_length, longest_new}

-- 1 for what was found
abbrev found_count : {V : Type 0} → Option V → ℕ
found_count None = 0
found_count (Some v) = 1

some_count : {V : Type 0} (o : Option V) → found_count o ≤ 1
some_count None = omega arith
some_count (Some v) = omega arith

module _ {V : Type 0} (p : List ℕ × V) (m low high : Pairs V) (o : Option V) (rest : length low + length high + found_count o ≤ length m) where
  -- one pair more is in one of three places
  in_one : (a b s : Bool) → (a ≡ true → b ≡ false) → (a ≡ true → s ≡ false) → (b ≡ true → s ≡ false) → length (cond a (p ∷ low) low) + length (cond b (p ∷ high) high) + found_count (cond s (Some p.1) o) ≤ suc (length m)
  in_one true true s f g h = absurd (false≢true (sym (f refl)))
  in_one true false true f g h = absurd (false≢true (sym (g refl)))
  in_one true false false f g h = omega arith
  in_one false true true f g h = absurd (false≢true (sym (h refl)))
  in_one false true false f g h = omega arith
  in_one false false true f g h = let one = some_count o in omega arith
  in_one false false false f g h = omega arith

-- the pairs below a key, those above it, and one at it if there is one
parts_of : {V : Type 0} (m : Pairs V) (key : List ℕ) → length (keep (λ k. is_below k key) m) + length (keep (λ k. is_below key k) m) + found_count (find m key) ≤ length m
parts_of [] key = omega arith
parts_of {V} (p ∷ m) key =
    in_one p m (keep (λ k. is_below k key) m) (keep (λ k. is_below key k) m) (find m key) (parts_of m key) (is_below p.0 key) (is_below key p.0) (is_same p.0 key)
    (below_not_back p.0 key) (below_not_same p.0 key) (below_not_same_back key p.0)

-- a put of a new key adds one pair, and one of a key that is there adds none
pub length_with : {V : Type 0} (m : Pairs V) (key : List ℕ) (value : V) → length (with m key value) + found_count (find m key) ≤ length m + 1
length_with m key value = omega (arith, parts_of m key, length-append (keep (λ k. is_below k key) m) ((key, value) ∷ keep (λ k. is_below key k) m))

after_call : (m : Pairs (List ℕ)) (call : Call) → length (map_after m call) ≤ length m + is_new (answer_of m call)
after_call m (Get key) = omega arith
after_call m (Put key value) = let h = length_with m key value in elim (find m key) as (λ o. length (with m key value) + found_count o ≤ length m + 1 → length (with m key value) ≤ length m + is_new (cond (is_some o) Set New)) [
  | None ↦ λ h. omega arith
  | Some v ↦ λ h. omega arith
] h
after_call m (Del key) = omega (arith, length_keep (λ k. not (is_same k key)) m)
after_call m (Part from upto) = omega arith

length_from : (m : Pairs (List ℕ)) (h : List Entry) → IsLegalFrom m h → length (map_from m h) ≤ length m + new_keys h
length_from m [] legal = omega arith
length_from m (e ∷ h) legal =
    let rest = length_from (map_after m e.call) h legal.1 in
    let here = after_call m e.call in
    let reply : is_new e.reply ≡ is_new (answer_of m e.call) = ap is_new legal.0 in
    omega arith

-- as many keys as were new, at most
pub length_after : (h : List Entry) → IsLegal h → length (after h) ≤ new_keys h
length_after h legal = omega (arith, length_from [] h legal)

-- no key of the map is longer
abbrev pub NoLonger : {V : Type 0} → ℕ → Pairs V → Type 0
NoLonger {V} most m = AllByRecursion (λ (p : List ℕ × V). length p.0 ≤ most) m

pub no_longer_weaker : {V : Type 0} (a b : ℕ) (m : Pairs V) → a ≤ b → NoLonger a m → NoLonger b m
no_longer_weaker {V} a b m le all = all_weaker (λ (p : List ℕ × V). length p.0 ≤ a) (λ (p : List ℕ × V). length p.0 ≤ b) (λ p h. omega arith) m all

-- a key that is found is none of the longer ones
pub found_no_longer : {V : Type 0} (most : ℕ) (m : Pairs V) (key : List ℕ) (v : V) → NoLonger most m → find m key ≡ Some v → length key ≤ most
found_no_longer most [] key v all e = absurd (cc)
found_no_longer {V} most (p ∷ m) key v all e = by (is_same p.0 key) refl e (found_no_longer most m key v all.1)
  where
    by : (s : Bool) → is_same p.0 key ≡ s → ◌≡◌ {A = Option V} (cond s (Some p.1) (find m key)) (Some v) → (find m key ≡ Some v → length key ≤ most) → length key ≤ most
    by true q e rest = subst (λ k. length k ≤ most) (same_is p.0 key q) all.0
    by false q e rest = rest e

with_no_longer : (most : ℕ) (m : Pairs (List ℕ)) (key value : List ℕ) → NoLonger most m → length key ≤ most → NoLonger most (with m key value)
with_no_longer most m key value all here = all_append (λ (p : List ℕ × List ℕ). length p.0 ≤ most) _ _ (all_filter (λ (p : List ℕ × List ℕ). length p.0 ≤ most) (λ p. is_below p.0 key) m all) (here, all_filter (λ (p : List ℕ × List ℕ). length p.0 ≤ most) (λ p. is_below key p.0) m all)

longer_call : (most : ℕ) (m : Pairs (List ℕ)) (call : Call) → NoLonger most m → NoLonger (max (new_length call (answer_of m call)) most) (map_after m call)
longer_call most m (Get key) all = no_longer_weaker most _ m (omega arith) all
longer_call most m (Put key value) all = by (find m key) refl
  where
    by : (o : Option (List ℕ)) → find m key ≡ o → NoLonger (max (new_length (Put key value) (cond (is_some o) Set New)) most) (with m key value)
    by None e = with_no_longer _ m key value (no_longer_weaker most (max (length key) most) m (omega arith) all) (omega arith)
    by (Some v) e = with_no_longer _ m key value (no_longer_weaker most (max 0 most) m (omega arith) all) (omega (arith, found_no_longer most m key v all e))
longer_call most m (Del key) all = no_longer_weaker most _ (without m key) (omega arith) (all_filter (λ (p : List ℕ × List ℕ). length p.0 ≤ most) (λ p. not (is_same p.0 key)) m all)
longer_call most m (Part from upto) all = no_longer_weaker most _ m (omega arith) all

longer_from : (most : ℕ) (m : Pairs (List ℕ)) (h : List Entry) → IsLegalFrom m h → NoLonger most m → NoLonger (max (longest_new h) most) (map_from m h)
longer_from most m [] legal all = no_longer_weaker most _ m (omega arith) all
longer_from most m (e ∷ h) legal all =
    let here : NoLonger (max (new_length e.call e.reply) most) (map_after m e.call) = subst (λ r. NoLonger (max (new_length e.call r) most) (map_after m e.call)) (sym legal.0) (longer_call most m e.call all) in
    no_longer_weaker _ _ (map_from (map_after m e.call) h) (omega arith) (longer_from (max (new_length e.call e.reply) most) (map_after m e.call) h legal.1 here)

-- no key of the map is longer than the longest new one
pub keys_after : (h : List Entry) → IsLegal h → NoLonger (longest_new h) (after h)
keys_after h legal = no_longer_weaker _ _ (after h) (omega arith) (longer_from 0 [] h legal tt)
