-- The first pairs of a part are the part up to the key of the next one.
use Rattle.std.proofs.Common.{◌≡◌, ◌≢◌, ℕ, ◌+◌, ◌-◌, ◌<◌, ◌≤◌, List, Bool, true, false, not, ◌&&◌, refl, sym, ap, ◌∙◌, subst, arith, length, length-drop, get_or, take, drop}
use Rattle.std.specs.declared.cmp.Ordering.TheVariants.{Less, Greater}
use Rattle.std.specs.List.{AllByRecursion}
use Rattle.std.proofs.lemmas.List.{get_or-drop, get_or-take, length-take-le, take-take, take_all}
use Rattle.key_bytes.specs.Bound.{bound_cmp, is_under}
use Rattle.key_bytes.specs.declared.bound.Bound.{Bound}
use Rattle.key_bytes.specs.declared.bound.Bound.TheVariants.{At}
use Rattle.map_model.specs.Maps.{Pairs, IsMap, between, is_in}
use Rattle.map_model.specs.Places.{Pair, IsCut}
use Rattle.map_model.proofs.Cuts.{part_pairs, part_above, part_within}
use Rattle.map_model.proofs.Filters.{all_weaker, all_drop, filtered_pass}
use Rattle.map_model.proofs.Finds.{ascending_keep}
use Rattle.map_model.proofs.Parts.{keep_keep, under_within}
use Rattle.leaf_spans.proofs.Ranges.{and_parts}

-- a key before the next one's is under the part's end, so that to ask for that too asks for no more
no_more : (f u x : Bool) → (x ≡ true → u ≡ true) → (not f && x) ≡ ((not f && u) && (not f && x))
no_more true u x higher = refl
no_more false u true higher = sym (ap (λ b. b && true) (higher refl))
no_more false true false higher = refl
no_more false false false higher = refl

module _ (m : Pairs (List ℕ)) (up : IsMap m) (from upto : Bound) (n : ℕ) (x : Pair) (read : x ≡ get_or (between m from upto) n x) (some : 0 < n) (before : n < length (between m from upto)) where
  abbrev part : Pairs (List ℕ)
  part = between m from upto

  part_up : IsMap part
  part_up = ascending_keep (is_in from upto) m up

  all_in : AllByRecursion (λ (p : Pair). is_in from upto p.0 ≡ true) part
  all_in = filtered_pass (λ (p : Pair). is_in from upto p.0) m

  start : IsCut part from 0
  start = record {
    in_range = omega arith;
    lower = tt;
    upper = all_weaker (λ (p : Pair). is_in from upto p.0 ≡ true) (λ (p : Pair). is_under from p.0 ≡ false) (λ p h. (and_parts (is_under from p.0) (is_under upto p.0) h).0) part all_in;
  }

  stop : IsCut part upto (length part)
  stop = record {
    in_range = omega arith;
    lower = subst (AllByRecursion (λ (p : Pair). is_under upto p.0 ≡ true)) (sym (take_all (length part) part (omega arith)))
        (all_weaker (λ (p : Pair). is_in from upto p.0 ≡ true) (λ (p : Pair). is_under upto p.0 ≡ true) (λ p h. (and_parts (is_under from p.0) (is_under upto p.0) h).1) part all_in);
    upper = all_drop (λ (p : Pair). is_under upto p.0 ≡ false) part (length part) (λ j d le lt. absurd (omega (arith, le, lt)));
  }

  from_first : n - 0 ≡ n
  from_first = omega arith

  pub first_above : bound_cmp from (At x.0) ≡ Less
  first_above = part_above part part_up from upto 0 (length part) n start stop x read some before

  pub first_within : bound_cmp (At x.0) upto ≢ Greater
  first_within = part_within part part_up from upto 0 (length part) n start stop x read some before

  pub first_pairs : between m from (At x.0) ≡ take n part
  first_pairs =
      sym (keep_keep m up (is_in from upto) (is_in from (At x.0)) (is_in from (At x.0)) (λ k. no_more (is_under from k) (is_under upto k) (is_under (At x.0) k) (under_within (At x.0) upto k first_within)))
      ∙ (part_pairs part part_up from upto 0 (length part) n start stop x read some before ∙ ap (λ i. take i part) from_first)

-- the same of pairs that stand from one place up to another
module _ (m : Pairs (List ℕ)) (up : IsMap m) (from upto : Bound) (i j n : ℕ) (x : Pair) (is : between m from upto ≡ take (j - i) (drop i m)) (in_range : j ≤ length m) (some : 0 < n) (before : i + n < j) (read : x ≡ get_or m (i + n) x) where
  read_part : x ≡ get_or (between m from upto) n x
  read_part = read ∙ sym (ap (λ (p : Pairs (List ℕ)). get_or p n x) is ∙ (get_or-take (j - i) (drop i m) n x (omega (arith, before)) ∙ get_or-drop i m n x))

  before_end : n < length (between m from upto)
  before_end = omega (arith, before, ap length is, length-take-le (j - i) (drop i m) (omega (arith, length-drop i m, in_range)))

  pub next_above : bound_cmp from (At x.0) ≡ Less
  next_above = first_above m up from upto n x read_part some before_end

  pub next_within : bound_cmp (At x.0) upto ≢ Greater
  next_within = first_within m up from upto n x read_part some before_end

  pub next_pairs : between m from (At x.0) ≡ take n (drop i m)
  next_pairs = first_pairs m up from upto n x read_part some before_end ∙ (ap (take n) is ∙ take-take n (j - i) (drop i m) (omega (arith, before)))
