-- Keys that one map has and another hasn't are no more than two counts are apart, and what puts and dels do to that.
use Rattle.std.proofs.Common.{◌≡◌, ◌⊎◌, inl, inr, ◌+◌, ◌≤◌, ◌||◌, ◌&&◌, ℕ, List, [], ◌∷◌, length, Bool, true, false, not, cond, if◌then◌else◌, is_some, Some, None, refl, sym, ap, ◌∙◌, arith}
use Rattle.key_bytes.specs.Order.{is_same}
use Rattle.key_bytes.proofs.Orders.{same_is}
use Rattle.map_model.specs.Maps.{Pairs, find, with, without}
use Rattle.map_model.proofs.Finds.{find_with, find_without}

-- the map has the key
abbrev pub has_key : Pairs (List ℕ) → List ℕ → Bool
has_key m key = is_some (find m key)

-- one of these keys is the key
abbrev is_among : List (List ℕ) → List ℕ → Bool
is_among [] key = false
is_among (k ∷ keys) key = is_same k key || is_among keys key

-- without the first that is the key
abbrev less_one : List ℕ → List (List ℕ) → List (List ℕ)
less_one key [] = []
less_one key (k ∷ keys) = if is_same k key then keys else k ∷ less_one key keys

-- the second map has the key, and the first hasn't
abbrev pub IsAhead : Pairs (List ℕ) → Pairs (List ℕ) → List ℕ → Type 0
IsAhead a b key = (has_key a key ≡ false) × (has_key b key ≡ true)

-- The keys that the second map has alone are among as many as lie between the counts.
pub record Covers (a b : Pairs (List ℕ)) (spent most : ℕ) : Type 0 where
  pub keys : List (List ℕ)
  pub few : spent + length keys ≤ most
  pub each : (key : List ℕ) → IsAhead a b key → is_among keys key ≡ true

less_few : (key : List ℕ) (keys : List (List ℕ)) → is_among keys key ≡ true → length (less_one key keys) + 1 ≤ length keys
less_few key [] among = absurd (cc)
less_few key (k ∷ keys) among =
    (elim (is_same k key) as (λ s. (s || is_among keys key) ≡ true → length (if s then keys else k ∷ less_one key keys) + 1 ≤ length (k ∷ keys)) [
      | true ↦ λ among. omega arith
      | false ↦ λ among. let rest = less_few key keys among in omega arith
    ]) among

less_among : (key : List ℕ) (keys : List (List ℕ)) (other : List ℕ) → is_same key other ≡ false → is_among keys other ≡ true → is_among (less_one key keys) other ≡ true
less_among key [] other apart among = among
less_among key (k ∷ keys) other apart among = by (is_same k key) refl (less_among key keys other apart)
  where
    by : (s : Bool) → is_same k key ≡ s → (is_among keys other ≡ true → is_among (less_one key keys) other ≡ true) → is_among (if s then keys else k ∷ less_one key keys) other ≡ true
    by true is rest =
        let no : is_same k other ≡ false = ap (λ q. is_same q other) (same_is k key is) ∙ apart in
        sym (ap (λ t. t || is_among keys other) no) ∙ among
    by false is rest = (elim (is_same k other) as (λ t. (t || is_among keys other) ≡ true → (t || is_among (less_one key keys) other) ≡ true) [
      | true ↦ λ among. refl
      | false ↦ rest
    ]) among

module _ (a b c d : Pairs (List ℕ)) (spent most spent_now most_now : ℕ) (covers : Covers a b spent most) where
  -- no key comes
  pub covers_still : spent_now + most ≤ spent + most_now → ((key : List ℕ) → IsAhead c d key → IsAhead a b key) → Covers c d spent_now most_now
  covers_still le still = record { keys = covers.keys; few = omega (arith, covers.few, le); each = λ key ahead. covers.each key (still key ahead) }

  -- this key comes
  pub covers_more : (key : List ℕ) → spent_now + most + 1 ≤ spent + most_now → ((other : List ℕ) → IsAhead c d other → IsAhead a b other ⊎ (is_same key other ≡ true)) → Covers c d spent_now most_now
  covers_more key le more =
      let each : (other : List ℕ) → IsAhead a b other ⊎ (is_same key other ≡ true) → (is_same key other || is_among covers.keys other) ≡ true = λ other cases. elim cases [
        | inl ahead ↦ (elim (is_same key other) as (λ t. (t || is_among covers.keys other) ≡ true) [ true ↦ refl | false ↦ covers.each other ahead ])
        | inr is ↦ ap (λ t. t || is_among covers.keys other) is
      ] in
      record { keys = key ∷ covers.keys; few = omega (arith, covers.few, le); each = λ other ahead. each other (more other ahead) }

  -- this key goes
  pub covers_less : (key : List ℕ) → IsAhead a b key → spent_now + most ≤ spent + most_now + 1 → ((other : List ℕ) → IsAhead c d other → IsAhead a b other × (is_same key other ≡ false)) → Covers c d spent_now most_now
  covers_less key ahead le less = record {
    keys = less_one key covers.keys;
    few = omega (arith, covers.few, le, less_few key covers.keys (covers.each key ahead));
    each = λ other now. less_among key covers.keys other (less other now).1 (covers.each other (less other now).0);
  }

  -- a key that is in neither or in both afterwards
  pub covers_both : (key : List ℕ) (x y : Bool) → has_key a key ≡ x → has_key b key ≡ y → spent_now + most + cond x 1 0 ≤ spent + most_now + cond y 1 0 → ((other : List ℕ) → IsAhead c d other → IsAhead a b other × (is_same key other ≡ false)) → Covers c d spent_now most_now
  covers_both key false true is_x is_y le less = covers_less key (is_x, is_y) (omega arith) less
  covers_both key false false is_x is_y le less = covers_still (omega arith) (λ other now. (less other now).0)
  covers_both key true true is_x is_y le less = covers_still (omega arith) (λ other now. (less other now).0)
  covers_both key true false is_x is_y le less = covers_still (omega arith) (λ other now. (less other now).0)

-- what maps have after a put and after a del
has_with : (m : Pairs (List ℕ)) (key value other : List ℕ) → has_key (with m key value) other ≡ (is_same key other || has_key m other)
has_with m key value other = ap is_some (find_with m key value other) ∙ (elim (is_same key other) as (λ s. is_some (cond s (Some value) (find m other)) ≡ (s || has_key m other)) [ true ↦ refl | false ↦ refl ])

has_without : (m : Pairs (List ℕ)) (key other : List ℕ) → has_key (without m key) other ≡ (not (is_same key other) && has_key m other)
has_without m key other = ap is_some (find_without m key other) ∙ (elim (is_same key other) as (λ s. is_some (cond s None (find m other)) ≡ (not s && has_key m other)) [ true ↦ refl | false ↦ refl ])

module _ (a b : Pairs (List ℕ)) (key other : List ℕ) where
  pub put_both : (value : List ℕ) → IsAhead (with a key value) (with b key value) other → IsAhead a b other × (is_same key other ≡ false)
  put_both value now = by (is_same key other) refl (sym (has_with a key value other) ∙ now.0) (sym (has_with b key value other) ∙ now.1)
    where
      by : (s : Bool) → is_same key other ≡ s → (s || has_key a other) ≡ false → (s || has_key b other) ≡ true → IsAhead a b other × (is_same key other ≡ false)
      by true is first second = absurd (cc)
      by false is first second = ((first, second), is)

  pub del_both : IsAhead (without a key) (without b key) other → IsAhead a b other × (is_same key other ≡ false)
  del_both now = by (is_same key other) refl (sym (has_without a key other) ∙ now.0) (sym (has_without b key other) ∙ now.1)
    where
      by : (s : Bool) → is_same key other ≡ s → (not s && has_key a other) ≡ false → (not s && has_key b other) ≡ true → IsAhead a b other × (is_same key other ≡ false)
      by true is first second = absurd (cc)
      by false is first second = ((first, second), is)

  -- only the second map has the put
  pub put_ahead : (value : List ℕ) → IsAhead a (with b key value) other → IsAhead a b other ⊎ (is_same key other ≡ true)
  put_ahead value now = by (is_same key other) refl (sym (has_with b key value other) ∙ now.1)
    where
      by : (s : Bool) → is_same key other ≡ s → (s || has_key b other) ≡ true → IsAhead a b other ⊎ (is_same key other ≡ true)
      by true is second = inr is
      by false is second = inl (now.0, second)

  -- only the first map has it
  pub put_behind : (value : List ℕ) → IsAhead (with a key value) b other → IsAhead a b other
  put_behind value now = by (is_same key other) (sym (has_with a key value other) ∙ now.0)
    where
      by : (s : Bool) → (s || has_key a other) ≡ false → IsAhead a b other
      by true first = absurd (cc)
      by false first = (first, now.1)

  -- only the second map has the del
  pub del_ahead : IsAhead a (without b key) other → IsAhead a b other
  del_ahead now = by (is_same key other) (sym (has_without b key other) ∙ now.1)
    where
      by : (s : Bool) → (not s && has_key b other) ≡ true → IsAhead a b other
      by true second = absurd (cc)
      by false second = (now.0, second)

  -- only the first map has it
  pub del_behind : IsAhead (without a key) b other → IsAhead a b other ⊎ (is_same key other ≡ true)
  del_behind now = by (is_same key other) refl (sym (has_without a key other) ∙ now.0)
    where
      by : (s : Bool) → is_same key other ≡ s → (not s && has_key a other) ≡ false → IsAhead a b other ⊎ (is_same key other ≡ true)
      by true is first = inr is
      by false is first = inl (first, now.1)

  -- a key that was there doesn't come, and one that wasn't there doesn't go
  pub put_there : (value : List ℕ) → has_key b key ≡ true → IsAhead a b other ⊎ (is_same key other ≡ true) → IsAhead a (with b key value) other → IsAhead a b other
  put_there value there (inl ahead) now = ahead
  put_there value there (inr is) now = (now.0, ap (has_key b) (sym (same_is key other is)) ∙ there)

  pub del_absent : has_key a key ≡ false → IsAhead a b other ⊎ (is_same key other ≡ true) → IsAhead (without a key) b other → IsAhead a b other
  del_absent absent (inl ahead) now = ahead
  del_absent absent (inr is) now = (ap (has_key a) (sym (same_is key other is)) ∙ absent, now.1)
