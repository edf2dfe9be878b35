-- A map that is cut at a key, and what parts its halves.
use Rattle.std.proofs.Common.{◌≡◌, ℕ, zero, suc, ◌+◌, ◌-◌, ◌<◌, ◌≤◌, List, [], ◌∷◌, ◌++◌, length, get_or, take, drop, take-append-drop, Bool, true, false, not, ◌&&◌, refl, sym, ap, ◌∙◌, subst, arith}
use mathlib.Core.Logic.{dite}
use native.Mathlib.Decide.{ℕ_discrete}
use Rattle.std.specs.List.{AllByRecursion}
use Rattle.std.proofs.lemmas.List.{append-nil, get_or-map}
use Rattle.std.proofs.lemmas.List.Elements.{filter-append, All-from_recursion}
use Rattle.key_bytes.specs.Common.{lcp}
use Rattle.key_bytes.specs.Lengths.{IsKey}
use Rattle.key_bytes.specs.Order.{is_below}
use Rattle.key_bytes.specs.declared.bound.Bound.TheVariants.{Low, At, High}
use Rattle.key_bytes.proofs.Orders.{below_trans, below_behind, below_not_back}
use Rattle.key_bytes.proofs.Separators.{separator_short, separator_length, separator_above, separator_within}
use Rattle.map_model.specs.Halves.{keys_of, map_values, key_at, stay_count, lower_half, upper_half, between_keys, parting}
use Rattle.map_model.specs.Maps.{Pairs, IsMap, keep, between, is_in}
use Rattle.map_model.proofs.Filters.{filter_all, filter_none, all_weaker, all_take, all_drop}
use Rattle.map_model.proofs.Parts.{keep_same}

-- of two or more pairs at least one stays, and at least one goes
pub stay_some : (n : ℕ) → 1 < n → 0 < stay_count n
stay_some n many = omega arith

pub stay_less : (n : ℕ) → 1 < n → stay_count n < n
stay_less n many = omega arith

module _ {V : Type 0} where
  -- the key at a place is that of the pair there
  pub key_at-pair : (m : Pairs V) (i : ℕ) (d : List ℕ × V) → i < length m → key_at m i ≡ (get_or m i d).0
  key_at-pair m i d lt = get_or-map (λ (p : List ℕ × V). p.0) m i d [] lt

  -- what holds of all keys holds of the key at a place
  pub key_at-all : (P : List ℕ → Type 0) (m : Pairs V) (i : ℕ) → i < length m → AllByRecursion (λ (p : List ℕ × V). P p.0) m → P (key_at m i)
  key_at-all P [] i lt all = absurd (omega arith)
  key_at-all P (x ∷ m) zero lt all = all.0
  key_at-all P (x ∷ m) (suc i) lt all = key_at-all P m i (omega arith) all.1

  -- keys ascend by their places
  pub key_at-above : (m : Pairs V) → IsMap m → (i j : ℕ) → i < j → j < length m → is_below (key_at m i) (key_at m j) ≡ true
  key_at-above [] up i j less lt = absurd (omega arith)
  key_at-above (x ∷ m) up i zero less lt = absurd (omega arith)
  key_at-above (x ∷ m) up zero (suc j) less lt = key_at-all (λ k. is_below x.0 k ≡ true) m j (omega arith) up.0
  key_at-above (x ∷ m) up (suc i) (suc j) less lt = key_at-above m up.1 i j (omega arith) (omega arith)

  -- a test that just the first pairs pass
  module _ (test : List ℕ → Bool) (m : Pairs V) (n : ℕ) (pass : AllByRecursion (λ (p : List ℕ × V). test p.0 ≡ true) (take n m)) (fail : AllByRecursion (λ (p : List ℕ × V). test p.0 ≡ false) (drop n m)) where
    keep_front : keep test m ≡ take n m
    keep_front =
        let passes : List ℕ × V → Bool = λ p. test p.0 in
        ap (keep test) (sym (take-append-drop n m)) ∙ (filter-append passes (take n m) (drop n m)
        ∙ (ap (λ (l : Pairs V). l ++ keep test (drop n m)) (filter_all passes (take n m) pass) ∙ (ap (λ (l : Pairs V). take n m ++ l) (filter_none passes (drop n m) fail) ∙ append-nil (take n m))))

    keep_back : keep (λ k. not (test k)) m ≡ drop n m
    keep_back =
        let fails : List ℕ × V → Bool = λ p. not (test p.0) in
        let low = all_weaker (λ (p : List ℕ × V). test p.0 ≡ true) (λ (p : List ℕ × V). not (test p.0) ≡ false) (λ p h. ap not h) (take n m) pass in
        let high = all_weaker (λ (p : List ℕ × V). test p.0 ≡ false) (λ (p : List ℕ × V). not (test p.0) ≡ true) (λ p h. ap not h) (drop n m) fail in
        ap (keep (λ k. not (test k))) (sym (take-append-drop n m)) ∙ (filter-append fails (take n m) (drop n m)
        ∙ (ap (λ (l : Pairs V). l ++ keep (λ k. not (test k)) (drop n m)) (filter_none fails (take n m) low) ∙ filter_all fails (drop n m) high))

  -- A map is cut by a key that is above the last of its first keys, and not above the next one.
  module _ (m : Pairs V) (up : IsMap m) (a : List ℕ) (n : ℕ) (some : 0 < n) (fewer : n < length m) (above : is_below (key_at m (n - 1)) a ≡ true) (within : is_below (key_at m n) a ≡ false) where
    stays : (j : ℕ) → j < n → is_below (key_at m j) a ≡ true
    stays j lt = dite (ℕ_discrete j (n - 1))
        (λ e. subst (λ i. is_below (key_at m i) a ≡ true) (sym e) above)
        (λ ne. below_trans (key_at m j) (key_at m (n - 1)) a (key_at-above m up j (n - 1) (omega arith) (omega arith)) above)

    goes : (j : ℕ) → n ≤ j → j < length m → is_below (key_at m j) a ≡ false
    goes j le lt = dite (ℕ_discrete j n)
        (λ e. subst (λ i. is_below (key_at m i) a ≡ false) (sym e) within)
        (λ ne. below_not_back a (key_at m j) (below_behind a (key_at m n) (key_at m j) within (key_at-above m up n j (omega arith) lt)))

    pub cut_lower : AllByRecursion (λ (p : List ℕ × V). is_below p.0 a ≡ true) (take n m)
    cut_lower = all_take (λ (p : List ℕ × V). is_below p.0 a ≡ true) m n (λ j d lt. subst (λ k. is_below k a ≡ true) (key_at-pair m j d (omega arith)) (stays j lt))

    pub cut_upper : AllByRecursion (λ (p : List ℕ × V). is_below p.0 a ≡ false) (drop n m)
    cut_upper = all_drop (λ (p : List ℕ × V). is_below p.0 a ≡ false) m n (λ j d le lt. subst (λ k. is_below k a ≡ false) (key_at-pair m j d lt) (goes j le lt))

    pub below_cut : between m Low (At a) ≡ take n m
    below_cut = keep_front (λ k. is_below k a) m n cut_lower cut_upper

    pub above_cut : between m (At a) High ≡ drop n m
    above_cut = keep_same m up (is_in (At a) High) (λ k. not (is_below k a)) (λ k. plain (not (is_below k a))) ∙ keep_back (λ k. is_below k a) m n cut_lower cut_upper
      where
        plain : (b : Bool) → (b && true) ≡ b
        plain true = refl
        plain false = refl

  module _ (m : Pairs V) (up : IsMap m) (many : 1 < length m) where
    -- the last key that stays is below the first that goes
    pub parting_ascends : is_below (key_at m (stay_count (length m) - 1)) (key_at m (stay_count (length m))) ≡ true
    parting_ascends = key_at-above m up (stay_count (length m) - 1) (stay_count (length m)) (omega arith) (omega arith)

    -- the parting key is above all keys that stay, and not above those that go
    pub parting_above : is_below (key_at m (stay_count (length m) - 1)) (parting m) ≡ true
    parting_above = separator_above (key_at m (stay_count (length m) - 1)) (key_at m (stay_count (length m))) parting_ascends

    pub parting_within : is_below (key_at m (stay_count (length m))) (parting m) ≡ false
    parting_within = separator_within (key_at m (stay_count (length m))) _

    -- what is below it is the lower half, and the rest the upper one
    pub parting_stay : between m Low (At (parting m)) ≡ lower_half m
    parting_stay = below_cut m up (parting m) (stay_count (length m)) (stay_some (length m) many) (stay_less (length m) many) parting_above parting_within

    pub parting_go : between m (At (parting m)) High ≡ upper_half m
    parting_go = above_cut m up (parting m) (stay_count (length m)) (stay_some (length m) many) (stay_less (length m) many) parting_above parting_within

    -- it isn't empty, and is no longer than the first key that goes
    pub parting_some : 0 < length (parting m)
    parting_some =
        let long : length (parting m) ≡ lcp (key_at m (stay_count (length m) - 1)) (key_at m (stay_count (length m))) + 1 = separator_length (key_at m (stay_count (length m) - 1)) (key_at m (stay_count (length m))) parting_ascends in
        omega (arith, long)

    pub parting_length : length (parting m) ≤ length (key_at m (stay_count (length m)))
    parting_length =
        let low = key_at m (stay_count (length m) - 1) in
        let high = key_at m (stay_count (length m)) in
        let long : length (parting m) ≡ lcp low high + 1 = separator_length low high parting_ascends in
        let short : lcp low high < length high = separator_short low high parting_ascends in
        omega (arith, long, short)

    -- so it is no longer than any bound of the keys
    pub parting_short : (longest : ℕ) → AllByRecursion (λ (p : List ℕ × V). length p.0 ≤ longest) m → length (parting m) ≤ longest
    parting_short longest all =
        let first = key_at-all (λ k. length k ≤ longest) m (stay_count (length m)) (stay_less (length m) many) all in
        let short = parting_length in
        omega (arith, first, short)

    -- and it is a key where these are
    pub parting_key : AllByRecursion (λ (p : List ℕ × V). IsKey p.0) m → IsKey (parting m)
    parting_key all =
        let high = key_at m (stay_count (length m)) in
        let key : IsKey high = key_at-all IsKey m (stay_count (length m)) (stay_less (length m) many) all in
        let short = parting_length in
        (parting_some, omega (arith, short, key.1), all_take (λ (byte : ℕ). byte < 256) high _ (λ j d lt. byte_at key j d lt))
      where
        byte_at : IsKey (key_at m (stay_count (length m))) → (j d : ℕ) → j < lcp (key_at m (stay_count (length m) - 1)) (key_at m (stay_count (length m))) + 1 → get_or (key_at m (stay_count (length m))) j d < 256
        byte_at key j d lt =
            let short = separator_short (key_at m (stay_count (length m) - 1)) (key_at m (stay_count (length m))) parting_ascends in
            All-from_recursion (λ (byte : ℕ). byte < 256) (key_at m (stay_count (length m))) key.2 j d (omega (arith, short))

-- values don't count
module _ {V W : Type 0} (f : V → W) where
  pub keys_of-map : (m : Pairs V) → keys_of (map_values f m) ≡ keys_of m
  keys_of-map [] = refl
  keys_of-map (x ∷ m) = ap (λ (l : List (List ℕ)). x.0 ∷ l) (keys_of-map m)

  pub length-map_values : (m : Pairs V) → length (map_values f m) ≡ length m
  length-map_values [] = refl
  length-map_values (x ∷ m) = ap suc (length-map_values m)

  pub key_at-map : (m : Pairs V) (i : ℕ) → key_at (map_values f m) i ≡ key_at m i
  key_at-map m i = ap (λ (l : List (List ℕ)). get_or l i []) (keys_of-map m)

  pub parting-map : (m : Pairs V) → parting (map_values f m) ≡ parting m
  parting-map m =
      let parts : List (List ℕ) → ℕ → List ℕ = λ keys n. between_keys (get_or keys (stay_count n - 1) []) (get_or keys (stay_count n) []) in
      ap (λ keys. parts keys (length (map_values f m))) (keys_of-map m) ∙ ap (parts (keys_of m)) (length-map_values m)
