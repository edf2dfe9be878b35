-- Lists of places: how they grow and shrink, and the order that they say.
use Rattle.std.proofs.Common.{◌≡◌, ◌≢◌, ℕ, zero, suc, ◌+◌, ◌<◌, List, [], ◌∷◌, ◌++◌, true, false, cond, ◌&&◌, nat_lt, refl, sym, ap, ◌∙◌, subst, length, length-append, get_or, set, take, drop, map, arith, inl, inr, add-one}
use Rattle.std.specs.Prelude.{filter}
use Rattle.std.specs.List.{All, AllByRecursion, Contains, range_with_len, remove}
use Rattle.std.specs.List.Sorted.{IsPermutation, IsPartitionedBy}
use Rattle.std.proofs.lemmas.List.{length-map, get_or-map, nil_from_length, set_split}
use Rattle.std.proofs.lemmas.List.Elements.{recursion_from_All}
use Rattle.std.proofs.lemmas.List.FromFn.{length-range_with_len, get_or-range_with_len}
use Rattle.std.proofs.lemmas.List.Sorted.{IsPermutation-cons, IsPermutation-trans, IsPermutation-sym, IsPermutation-map, IsPermutation-middle, IsPermutation-remove, IsPermutation-to_front, Contains-permutation, length_permutation}
use Rattle.key_bytes.specs.Bound.{is_under}
use Rattle.key_bytes.specs.declared.bound.Bound.{Bound}
use Rattle.key_bytes.specs.declared.bound.Bound.TheVariants.{Low}
use Rattle.map_model.specs.Halves.{key_at}
use Rattle.map_model.specs.Maps.{Pairs, IsMap, between, sorted}
use Rattle.map_model.proofs.Finds.{ascending_sorted}
use Rattle.map_model.proofs.Halves.{key_at-pair}
use Rattle.leaf_store.specs.Order.{ArePlaces, ListsAll, AreInOrder, is_place_under}
use Rattle.leaf_store.specs.Ranks.{HasKey, IsOrder}
use Rattle.leaf_store.specs.Rows.{bit, is_pair, times, AreOnce}
use Rattle.leaf_store.proofs.Cuts.{is_row_under, under_first}
use Rattle.leaf_store.proofs.Numbered.{numbered_below, numbered_at}
use Rattle.leaf_store.proofs.Ranked as ranked
use Rattle.leaf_store.proofs.Settled.{counted}
use Rattle.leaf_store.proofs.Unsorted.{total_permutation, sorted_ascending}

-- numbers as pairs, of which it is known that the same counts make a permutation
twin : ℕ → ℕ × ℕ
twin n = (n, 0)

untwin : (xs : List ℕ) → map (λ (p : ℕ × ℕ). p.0) (map twin xs) ≡ xs
unfolding twin
untwin [] = refl
untwin (x ∷ xs) = ap (λ l. x ∷ l) (untwin xs)

-- what is left where both lose the same
rest_same : (x : ℕ) (xs ys : List ℕ) → IsPermutation (x ∷ xs) (x ∷ ys) → IsPermutation xs ys
rest_same x xs ys p =
    let q = IsPermutation-map twin (x ∷ xs) (x ∷ ys) p in
    let same : (z : ℕ × ℕ) → times z (map twin xs) ≡ times z (map twin ys) = λ z. (let e : bit (is_pair z (twin x)) + times z (map twin xs) ≡ bit (is_pair z (twin x)) + times z (map twin ys) = total_permutation (λ (t : ℕ × ℕ). bit (is_pair z t)) (map twin (x ∷ xs)) (map twin (x ∷ ys)) q in omega arith) in
    let back = IsPermutation-map (λ (t : ℕ × ℕ). t.0) (map twin xs) (map twin ys) (counted (map twin xs) (map twin ys) same) in
    subst (λ l. IsPermutation xs l) (untwin ys) (subst (λ l. IsPermutation l (map (λ (t : ℕ × ℕ). t.0) (map twin ys))) (untwin xs) back)

range_last : (a n : ℕ) → range_with_len a (suc n) ≡ range_with_len a n ++ (a + n) ∷ []
range_last a zero = ap (λ k. k ∷ []) (omega arith)
range_last a (suc n) = ap (λ l. a ∷ l) (range_last (a + 1) n ∙ ap (λ k. range_with_len (a + 1) n ++ k ∷ []) (omega arith))

-- the greatest place first
range_front : (n : ℕ) → IsPermutation (range_with_len 0 (n + 1)) (n ∷ range_with_len 0 n)
range_front n =
    let one : n + 1 ≡ suc n = omega arith in
    let at : 0 + n ≡ n = omega arith in
    subst (λ l. IsPermutation l (n ∷ range_with_len 0 n)) (sym (ap (range_with_len 0) one ∙ (range_last 0 n ∙ ap (λ k. range_with_len 0 n ++ k ∷ []) at))) (IsPermutation-to_front (range_with_len 0 n) n)

-- one place more
pub more_places : (order : List ℕ) (n : ℕ) → ArePlaces order → length order ≡ n → ArePlaces (order ++ n ∷ [])
more_places order n are size =
    let long : length (order ++ n ∷ []) ≡ n + 1 = length-append order (n ∷ []) ∙ omega (arith, size) in
    let front = IsPermutation-cons n (range_with_len 0 n) order (subst (λ k. IsPermutation (range_with_len 0 k) order) size are) in
    subst (λ k. IsPermutation (range_with_len 0 k) (order ++ n ∷ [])) (sym long)
    (IsPermutation-trans (range_with_len 0 (n + 1)) (n ∷ range_with_len 0 n) (order ++ n ∷ []) (range_front n) (IsPermutation-trans (n ∷ range_with_len 0 n) (n ∷ order) (order ++ n ∷ []) front (IsPermutation-sym (order ++ n ∷ []) (n ∷ order) (IsPermutation-to_front order n))))

-- without the greatest place
fewer_places : (order rest : List ℕ) (n : ℕ) → ArePlaces order → length order ≡ n + 1 → IsPermutation order (n ∷ rest) → ArePlaces rest
fewer_places order rest n are size p =
    let long : length rest ≡ n = omega (arith, size, length_permutation order (n ∷ rest) p) in
    let whole : IsPermutation (range_with_len 0 (n + 1)) order = subst (λ k. IsPermutation (range_with_len 0 k) order) size are in
    let both : IsPermutation (n ∷ range_with_len 0 n) (n ∷ rest) = IsPermutation-trans (n ∷ range_with_len 0 n) order (n ∷ rest) (IsPermutation-trans (n ∷ range_with_len 0 n) (range_with_len 0 (n + 1)) order (IsPermutation-sym (range_with_len 0 (n + 1)) (n ∷ range_with_len 0 n) (range_front n)) whole) p in
    subst (λ k. IsPermutation (range_with_len 0 k) rest) (sym long) (rest_same n (range_with_len 0 n) rest both)

-- a place below the length is listed
pub listed : (order : List ℕ) (place : ℕ) → ArePlaces order → place < length order → Contains order place
listed order place are lt = let h = numbered_at (length order) order are place lt in (h.0, h.1, read h.0 h.1 h.2)
  where
    read : (k : ℕ) → k < length order → get_or order k 0 ≡ place → get_or order k place ≡ place
    read k in_range e = any order k 0 place in_range ∙ e
      where
        any : (xs : List ℕ) (k d e : ℕ) → k < length xs → get_or xs k e ≡ get_or xs k d
        any [] k d e lt = absurd (omega arith)
        any (x ∷ xs) zero d e lt = refl
        any (x ∷ xs) (suc k) d e lt = any xs k d e (omega arith)

-- an entry that is written over
set_parted : (xs : List ℕ) (i y : ℕ) → i < length xs → IsPermutation (set xs i y) (y ∷ remove xs i)
set_parted xs i y lt = subst (λ ys. IsPermutation ys (y ∷ remove xs i)) (sym (set_split xs i y lt)) (rw (← add-one) (IsPermutation-middle (take i xs) y (drop (i + 1) xs)))

-- a place that is taken out
module _ (order : List ℕ) (are : ArePlaces order) (place at : ℕ) (lt : at < length order) (read : place ≡ get_or order at place) where
  out : IsPermutation order (place ∷ remove order at)
  out = IsPermutation-remove order at place lt read

  pub length-out : length (remove order at) + 1 ≡ length order
  length-out = omega (arith, length_permutation order (place ∷ remove order at) out)

  -- where it was the greatest
  pub out_last : place + 1 ≡ length order → ArePlaces (remove order at)
  out_last e = fewer_places order (remove order at) place are (omega (arith, e)) out

  -- where it is put behind
  pub out_behind : ArePlaces (remove order at ++ place ∷ [])
  out_behind =
      let rest = remove order at in
      let long : length (rest ++ place ∷ []) ≡ length order = length-append rest (place ∷ []) ∙ omega (arith, length-out) in
      subst (λ k. IsPermutation (range_with_len 0 k) (rest ++ place ∷ [])) (sym long)
      (IsPermutation-trans (range_with_len 0 (length order)) order (rest ++ place ∷ []) are (IsPermutation-trans order (place ∷ rest) (rest ++ place ∷ []) out (IsPermutation-sym (rest ++ place ∷ []) (place ∷ rest) (IsPermutation-to_front rest place))))

  -- another place is still listed
  pub still_listed : (other : ℕ) → other ≢ place → other < length order → Contains (remove order at) other
  still_listed other ne below = behind (Contains-permutation order (place ∷ remove order at) other out (listed order other are below))
    where
      behind : Contains (place ∷ remove order at) other → Contains (remove order at) other
      behind (zero, lt, e) = absurd (ne (sym e))
      behind (suc k, lt, e) = (k, omega (arith, lt), e)

  -- where it takes the entry of the greatest
  pub out_renamed : (last there : ℕ) → last + 1 ≡ length order → there < length (remove order at) → last ≡ get_or (remove order at) there last → ArePlaces (set (remove order at) there place)
  out_renamed last there count in_range is =
      let rest = remove order at in
      let less = remove rest there in
      let named = set rest there place in
      let parted : IsPermutation rest (last ∷ less) = IsPermutation-remove rest there last in_range is in
      let swapped : IsPermutation (place ∷ last ∷ less) (last ∷ place ∷ less) = IsPermutation-middle (place ∷ []) last less in
      let written : IsPermutation named (place ∷ less) = set_parted rest there place in_range in
      let p : IsPermutation order (last ∷ named) =
      IsPermutation-trans order (place ∷ rest) (last ∷ named) out
      (IsPermutation-trans (place ∷ rest) (place ∷ last ∷ less) (last ∷ named) (IsPermutation-cons place rest (last ∷ less) parted)
      (IsPermutation-trans (place ∷ last ∷ less) (last ∷ place ∷ less) (last ∷ named) swapped (IsPermutation-cons last (place ∷ less) named (IsPermutation-sym named (place ∷ less) written)))) in
      fewer_places order named last are (omega (arith, count)) p

-- what is read in range is the same with any default
pub same_read : (xs : List ℕ) (k d e : ℕ) → k < length xs → get_or xs k d ≡ get_or xs k e
same_read [] k d e lt = absurd (omega arith)
same_read (x ∷ xs) zero d e lt = refl
same_read (x ∷ xs) (suc k) d e lt = same_read xs k d e (omega arith)

map_same : (xs : List ℕ) → map (λ (p : ℕ). p) xs ≡ xs
map_same [] = refl
map_same (x ∷ xs) = ap (λ l. x ∷ l) (map_same xs)

module _ {V : Type 0} (rows : Pairs V) (once : AreOnce rows) (order : List ℕ) (are : ArePlaces order) (lists : ListsAll rows order) where
  numbered : IsPermutation (range_with_len 0 (length rows)) order
  numbered = subst (λ n. IsPermutation (range_with_len 0 n) order) lists.0 are

  -- places that are listed by ascending keys say the order of the rows
  pub listed_order : IsOrder rows order
  listed_order = subst (IsOrder rows) (map_same order)
      (ranked.is_order (λ (p : ℕ). key_at rows p) (λ (p : ℕ). p) rows once (range_with_len 0 (length rows)) order each (map_same (range_with_len 0 (length rows))) numbered lists.1)
    where
      each : All (λ (p : ℕ). HasKey rows (key_at rows p) p) (range_with_len 0 (length rows))
      each k d lt =
          let below : k < length rows = omega (arith, lt, length-range_with_len 0 (length rows)) in
          let is : get_or (range_with_len 0 (length rows)) k d ≡ k = omega (arith, get_or-range_with_len 0 (length rows) k d below) in
          subst (λ p. HasKey rows (key_at rows p) p) (sym is) (record { in_range = below; same = λ e. key_at-pair rows k e below })

  pub listed_below : (k : ℕ) → k < length rows → get_or order k 0 < length rows
  listed_below k lt = numbered_below (length rows) order numbered k lt

  -- how many are below an end
  module _ (end : Bound) (d : List ℕ × V) where
    agree : (p : ℕ) → p < length rows → is_place_under rows end p ≡ is_row_under end (get_or rows p d)
    agree p lt = ap (λ b. b && is_under end (key_at rows p)) (less p (length rows) lt) ∙ ap (is_under end) (key_at-pair rows p d lt)
      where
        less : (p n : ℕ) → p < n → nat_lt p n ≡ true
        less p n lt = grind arith

    below : (k e : ℕ) → k < length order → get_or order k e < length rows
    below k e lt = subst (λ p. p < length rows) (any order k 0 e lt) (listed_below k (omega (arith, lists.0, lt)))
      where
        any : (xs : List ℕ) (k d e : ℕ) → k < length xs → get_or xs k d ≡ get_or xs k e
        any [] k d e lt = absurd (omega arith)
        any (x ∷ xs) zero d e lt = refl
        any (x ∷ xs) (suc k) d e lt = any xs k d e (omega arith)

    pub count_at : length (between (sorted rows) Low end) ≡ length (filter (is_place_under rows end) order)
    count_at = ap (λ (m : Pairs V). length (between m Low end)) (listed_order.ascending d)
        ∙ same order (recursion_from_All (λ p. is_place_under rows end p ≡ is_row_under end (get_or rows p d)) order (λ k e lt. agree (get_or order k e) (below k e lt)))
      where
        same : (xs : List ℕ) → AllByRecursion (λ p. is_place_under rows end p ≡ is_row_under end (get_or rows p d)) xs → length (between (map (λ p. get_or rows p d) xs) Low end) ≡ length (filter (is_place_under rows end) xs)
        same [] all = refl
        same (x ∷ xs) all =
            let ih = same xs all.1 in
            let row = get_or rows x d in
            let rest = map (λ p. get_or rows p d) xs in
            ap (λ b. length (cond b (row ∷ between rest Low end) (between rest Low end))) (sym all.0)
            ∙ elim (is_place_under rows end x) as (λ b. length (cond b (row ∷ between rest Low end) (between rest Low end)) ≡ length (cond b (x ∷ filter (is_place_under rows end) xs) (filter (is_place_under rows end) xs))) [ true ↦ omega (arith, ih) | false ↦ ih ]

    pub partition_at : IsPartitionedBy (is_place_under rows end) order
    partition_at i j e le lt under =
        let m : Pairs V = map (λ p. get_or rows p d) order in
        let up : IsMap m = subst IsMap (listed_order.ascending d) (ascending_sorted rows) in
        let at : (k : ℕ) → k < length order → is_place_under rows end (get_or order k e) ≡ is_row_under end (get_or m k d) =
        λ k lt. agree (get_or order k e) (below k e lt) ∙ ap (is_row_under end) (sym (get_or-map (λ p. get_or rows p d) order k e d lt)) in
        let a = at i (omega arith) in
        let b = at j lt in
        a ∙ under_first m up end i j d le (omega (arith, lt, length-map order (λ p. get_or rows p d))) (sym b ∙ under)

module _ {V : Type 0} where
  pub listed_count : (rows : Pairs V) → AreOnce rows → (order : List ℕ) → ArePlaces order → ListsAll rows order → (end : Bound) → length (between (sorted rows) Low end) ≡ length (filter (is_place_under rows end) order)
  listed_count [] once order are lists end = let none : order ≡ [] = nil_from_length order lists.0 in sym (ap (λ (xs : List ℕ). length (filter (is_place_under {V = V} [] end) xs)) none)
  listed_count (d ∷ rows) once order are lists end = count_at (d ∷ rows) once order are lists end d

  pub listed_partition : (rows : Pairs V) → AreOnce rows → (order : List ℕ) → ArePlaces order → ListsAll rows order → (end : Bound) → IsPartitionedBy (is_place_under rows end) order
  listed_partition [] once order are lists end = λ i j e le lt under. absurd (let n = lists.0 in omega arith)
  listed_partition (d ∷ rows) once order are lists end = partition_at (d ∷ rows) once order are lists end d

  -- where the order is known and no places are listed, the rows ascend
  pub plain_rows : (rows : Pairs V) (order : List ℕ) → order ≡ [] → AreInOrder rows order → IsMap rows
  plain_rows rows order none known = elim known [
    | inl plain ↦ plain.1
    | inr lists ↦ subst IsMap (sym (nil_from_length rows (let z = ap length none in let n = lists.0 in omega arith))) tt
  ]

module _ {V : Type 0} (rows : Pairs V) (once : AreOnce rows) (order : List ℕ) (are : ArePlaces order) (known : AreInOrder rows order) (i : ℕ) (lt : i < length rows) where
  -- the row at an index of the order
  pub place_below : get_or order i i < length rows
  place_below = elim known [
    | inl plain ↦ subst (λ p. p < length rows) (sym (ap (λ xs. get_or xs i i) plain.0)) lt
    | inr lists ↦ subst (λ p. p < length rows) (same_read order i 0 i (let n = lists.0 in omega arith)) (listed_below rows once order are lists i lt)
  ]

  pub place_row : (d : List ℕ × V) → get_or (sorted rows) i d ≡ get_or rows (get_or order i i) d
  place_row d = elim known [
    | inl plain ↦ ap (λ (m : Pairs V). get_or m i d) (sorted_ascending rows plain.1) ∙ sym (ap (λ xs. get_or rows (get_or xs i i) d) plain.0)
    | inr lists ↦ ap (λ (m : Pairs V). get_or m i d) ((listed_order rows once order are lists).ascending d) ∙ get_or-map (λ p. get_or rows p d) order i i d (let n = lists.0 in omega arith)
  ]

-- places that only move
pub places_moved : (xs ys : List ℕ) → IsPermutation xs ys → ArePlaces xs → ArePlaces ys
places_moved xs ys p are = subst (λ n. IsPermutation (range_with_len 0 n) ys) (sym (length_permutation xs ys p)) (IsPermutation-trans (range_with_len 0 (length xs)) xs ys are p)
