-- Rows, and their places in the order of their keys.
use Rattle.std.proofs.Common.{◌≡◌, ℕ, zero, suc, ◌+◌, ◌<◌, List, [], ◌∷◌, ◌++◌, inl, inr, refl, sym, ap, ◌∙◌, subst, length, get_or, set, map, arith, get_or-set_same, get_or-set_other}
use Rattle.std.specs.List.{All, range_with_len, swap}
use Rattle.std.specs.List.Sorted.{IsPermutation, IsSortedBy}
use Rattle.std.proofs.lemmas.Grind.{same_number_lists}
use Rattle.std.proofs.lemmas.List.{length-map, get_or-map, map-append, get_or_default, same_lists}
use Rattle.std.proofs.lemmas.Bool.{cases_lt}
use Rattle.std.proofs.lemmas.List.Edits.{length-swap}
use Rattle.std.proofs.lemmas.List.Elements.{All-push}
use Rattle.std.proofs.lemmas.List.FromFn.{fill_by_all, length-range_with_len, get_or-range_with_len}
use Rattle.std.proofs.lemmas.List.Sorted.{IsPermutation-map, IsPermutation-sym, IsPermutation-swap, IsPermutation-trans, All-permutation}
use Rattle.key_bytes.specs.Order.{is_below}
use Rattle.map_model.specs.Maps.{Pairs, sorted}
use Rattle.leaf_tags.specs.Tags.{renumbered}
use Rattle.leaf_store.specs.Tag.{tag_of}
use Rattle.leaf_store.specs.Ranks.{HasKey, IsOrder, AreRanks}
use Rattle.leaf_store.specs.Rows.{places, AreTags, AreOnce}
use Rattle.leaf_store.proofs.Unsorted.{once_permutation, sorted_permutation, sorted_ascending, length-sorted, total_permutation}
use Rattle.leaf_store.proofs.Places.{length-places, get_or-places}
use Rattle.leaf_store.proofs.Settled.{counted, no_tags}
use Rattle.leaf_store.proofs.Ascends.{by_key, sorted_ascends}
use Rattle.leaf_store.proofs.Numbered.{length-numbered, numbered_below, numbered_differ, numbered_at, map_swap}

some : {X : Type 0} (xs : List X) → 0 < length xs → X
some [] lt = absurd (omega arith)
some (x ∷ xs) lt = x

-- a list as what its places have
all_places : {X : Type 0} (xs : List X) (d : X) → xs ≡ map (λ p. get_or xs p d) (range_with_len 0 (length xs))
all_places xs d = fill_by_all (λ p. get_or xs p d) xs (length xs) d refl (λ k lt. refl)

range_more : (a n : ℕ) → range_with_len a (suc n) ≡ range_with_len a n ++ (a + n) ∷ []
range_more a zero = ap (λ k. k ∷ []) (omega arith)
range_more a (suc n) = ap (λ l. a ∷ l) (range_more (a + 1) n ∙ ap (λ k. range_with_len (a + 1) n ++ k ∷ []) (omega arith))

-- one key more
module _ {P V : Type 0} (key : P → List ℕ) (place : P → ℕ) (rows : Pairs V) (ps more : List P) (p : P) (n : ℕ) (e : more ≡ ps ++ p ∷ []) (at : place p ≡ n) where
  pub keyed_more : All (λ p. HasKey rows (key p) (place p)) ps → n < length rows → (row : List ℕ × V) → key p ≡ (get_or rows n row).0 → All (λ p. HasKey rows (key p) (place p)) more
  keyed_more each lt row is =
      let has : HasKey rows (key p) (place p) = record {
        in_range = omega (arith, at);
        same = λ d. is ∙ ap (λ (r : List ℕ × V). r.0) (get_or_default rows n row d lt ∙ ap (λ k. get_or rows k d) (sym at));
      } in
      subst (All (λ p. HasKey rows (key p) (place p))) (sym e) (All-push (λ p. HasKey rows (key p) (place p)) ps p each has)

  pub places_more : map place ps ≡ range_with_len 0 n → map place more ≡ range_with_len 0 (n + 1)
  places_more whole =
      let last : place p ≡ 0 + n = omega (arith, at) in
      let one : suc n ≡ n + 1 = omega arith in
      ap (map place) e ∙ (map-append place ps (p ∷ []) ∙ (ap (λ l. l ++ place p ∷ []) whole ∙ (ap (λ k. range_with_len 0 n ++ k ∷ []) last ∙ (sym (range_more 0 n) ∙ ap (range_with_len 0) one))))

-- keys with places, sorted by the keys
module _ {P V : Type 0} (key : P → List ℕ) (place : P → ℕ) (rows : Pairs V) (once : AreOnce rows) (ps qs : List P)
    (each : All (λ p. HasKey rows (key p) (place p)) ps) (whole : map place ps ≡ range_with_len 0 (length rows)) (moved : IsPermutation ps qs)
    (up : IsSortedBy (λ x y. is_below (key x) (key y)) qs) where
  are_places : IsPermutation (range_with_len 0 (length rows)) (map place qs)
  are_places = subst (λ l. IsPermutation l (map place qs)) whole (IsPermutation-map place ps qs moved)

  module _ (d : List ℕ × V) where
    abbrev there : List (List ℕ × V)
    there = map (λ p. get_or rows p d) (map place qs)

    same_rows : IsPermutation rows there
    same_rows = subst (λ l. IsPermutation l there) (sym (all_places rows d)) (IsPermutation-map (λ p. get_or rows p d) (range_with_len 0 (length rows)) (map place qs) are_places)

    there_key : (k : ℕ) (e : List ℕ × V) (p : P) → k < length qs → (get_or there k e).0 ≡ key (get_or qs k p)
    there_key k e p lt =
        let has = All-permutation (λ p. HasKey rows (key p) (place p)) ps qs moved each k p lt in
        let size : length (map place qs) ≡ length qs = length-map qs place in
        ap (λ (r : List ℕ × V). r.0) (get_or-map (λ p. get_or rows p d) (map place qs) k 0 e (omega arith) ∙ ap (λ p. get_or rows p d) (get_or-map place qs k p 0 lt))
        ∙ sym (has.same d)

    there_up : IsSortedBy by_key there
    there_up k e from below =
        let size : length there ≡ length qs = length-map (map place qs) (λ p. get_or rows p d) ∙ length-map qs place in
        let p : P = some qs (omega arith) in
        let a = there_key k e p (omega arith) in
        let b = there_key (k + 1) e p (omega arith) in
        ap (λ x. is_below x (get_or there k e).0) b ∙ (ap (is_below (key (get_or qs (k + 1) p))) a ∙ up k p from (omega arith))

    there_ascends : sorted rows ≡ there
    there_ascends = sorted_permutation rows there same_rows once ∙ sorted_ascending there (sorted_ascends there (once_permutation rows there same_rows once) there_up)

  pub is_order : IsOrder rows (map place qs)
  is_order = record { places = are_places; ascending = there_ascends }

-- the ranks of one place more
pub scattered : (order ranks : List ℕ) (n r p : ℕ) → IsPermutation (range_with_len 0 n) order → length ranks ≡ n → r < n → get_or order r 0 ≡ p
    → ((k : ℕ) → k < r → get_or ranks (get_or order k 0) 0 ≡ k) → (k : ℕ) → k < r + 1 → get_or (set ranks p r) (get_or order k 0) 0 ≡ k
scattered order ranks n r p are size lt at so_far k below =
    let long : length order ≡ n = length-numbered n order are in
    let p_below : get_or order r 0 < n = numbered_below n order are r lt in
    elim (cases_lt k r) [
      | inl less ↦ get_or-set_other ranks p (get_or order k 0) r 0 (λ e. absurd (let same : k ≡ r = numbered_differ n order are k r (omega arith) (omega arith) (e ∙ sym at) in omega arith)) ∙ so_far k less
      | inr more ↦
          let same : k ≡ r = omega arith in
          ap (λ j. get_or (set ranks p r) (get_or order j 0) 0) same ∙ (ap (λ j. get_or (set ranks p r) j 0) at ∙ (get_or-set_same ranks p r 0 (omega arith) ∙ sym same))
    ]

module _ {V : Type 0} where
  -- from the places by their rank to the ranks by their place
  pub ranks_from : (rows : Pairs V) (order ranks : List ℕ) → AreOnce rows → IsOrder rows order → length ranks ≡ length rows → ((k : ℕ) → k < length rows → get_or ranks (get_or order k 0) 0 ≡ k) → AreRanks rows ranks (sorted rows)
  ranks_from rows order ranks once is size back =
      let n : ℕ = length rows in
      let long : length order ≡ n = length-numbered n order is.places in
      let rank : ℕ → ℕ = λ p. get_or ranks p 0 in
      let here : ranks ≡ map rank (range_with_len 0 n) = all_places ranks 0 ∙ ap (λ k. map rank (range_with_len 0 k)) size in
      let there : map rank order ≡ range_with_len 0 n = same_number_lists (map rank order) (range_with_len 0 n) (length-map order rank ∙ (long ∙ sym (length-range_with_len 0 n))) (λ k lt.
      let below : k < n = omega (arith, length-map order rank) in
      let own : get_or (range_with_len 0 n) k 0 ≡ k = omega (arith, get_or-range_with_len 0 n k 0 below) in
      get_or-map rank order k 0 0 (omega arith) ∙ (back k below ∙ sym own)) in
      record {
        size = length-sorted rows once;
        places = IsPermutation-sym ranks (range_with_len 0 n) (subst (λ l. IsPermutation l (range_with_len 0 n)) (sym here) (subst (IsPermutation (map rank (range_with_len 0 n))) there (IsPermutation-map rank (range_with_len 0 n) order is.places)));
        placed = λ d. same_lists rows (map (λ r. get_or (sorted rows) r d) ranks) (sym (length-map ranks (λ r. get_or (sorted rows) r d) ∙ size)) (λ k e lt.
            let at = numbered_at n order is.places k lt in
            let j = at.0 in
            let lj = at.1 in
            let rank_k : get_or ranks k 0 ≡ j = ap rank (sym at.2) ∙ back j lj in
            let row : get_or (sorted rows) j d ≡ get_or rows k d = ap (λ l. get_or l j d) (is.ascending d) ∙ (get_or-map (λ p. get_or rows p d) order j 0 d (omega arith) ∙ ap (λ p. get_or rows p d) at.2) in
            get_or_default rows k e d lt ∙ (sym row ∙ (ap (λ r. get_or (sorted rows) r d) (sym rank_k) ∙ sym (get_or-map (λ r. get_or (sorted rows) r d) ranks k 0 e (omega arith)))));
      }

  module _ (rows : Pairs V) (ranks : List ℕ) (all : Pairs V) (are : AreRanks rows ranks all) where
    pub length-ranks : length ranks ≡ length rows
    length-ranks = length-numbered (length rows) ranks are.places

    pub rank_below : (k : ℕ) → k < length rows → get_or ranks k 0 < length rows
    rank_below k lt = numbered_below (length rows) ranks are.places k lt

    -- a row and its rank move together
    pub ranks_swapped : (i j : ℕ) → i < length rows → j < length rows → AreRanks (swap rows i j) (swap ranks i j) all
    ranks_swapped i j li lj =
        let size : length (swap rows i j) ≡ length rows = length-swap rows i j in
        record {
          size = are.size ∙ sym size;
          places = subst (λ n. IsPermutation (range_with_len 0 n) (swap ranks i j)) (sym size) (IsPermutation-trans (range_with_len 0 (length rows)) ranks (swap ranks i j) are.places (IsPermutation-swap ranks (swap ranks i j) i j (omega (arith, length-ranks)) (omega (arith, length-ranks)) refl));
          placed = λ d. ap (λ l. swap l i j) (are.placed d) ∙ sym (map_swap (λ r. get_or all r d) ranks i j);
        }

    -- where each place is its own rank, the rows are in order
    pub ranks_settled : ((k : ℕ) → k < length rows → get_or ranks k 0 ≡ k) → rows ≡ all
    ranks_settled own =
        same_lists rows all (sym are.size) (λ k d lt. ap (λ l. get_or l k d) (are.placed d) ∙ (get_or-map (λ r. get_or all r d) ranks k 0 d (omega (arith, length-ranks)) ∙ ap (λ r. get_or all r d) (own k lt)))

    module _ (salt : ℕ) (pairs : List (ℕ × ℕ)) (tags : AreTags salt rows pairs) where
      abbrev one : ℕ × ℕ → ℕ × ℕ
      one p = (p.0, get_or ranks p.1 0)

      with_row : List ℕ × V → AreTags salt all (renumbered ranks pairs)
      with_row d q =
          let n : ℕ = length rows in
          let own : ℕ → ℕ × ℕ = λ r. (tag_of salt (get_or all r d).0, r) in
          let tagged : map one (places salt 0 rows) ≡ map own ranks = same_lists (map one (places salt 0 rows)) (map own ranks) (length-map (places salt 0 rows) one ∙ (length-places salt 0 rows ∙ sym (length-map ranks own ∙ length-ranks))) (λ k e lt.
          let below : k < n = omega (arith, length-map (places salt 0 rows) one, length-places salt 0 rows) in
          let row : get_or rows k d ≡ get_or all (get_or ranks k 0) d = ap (λ l. get_or l k d) (are.placed d) ∙ get_or-map (λ r. get_or all r d) ranks k 0 d (omega (arith, length-ranks)) in
          get_or-map one (places salt 0 rows) k e e (omega (arith, length-places salt 0 rows))
          ∙ (ap one (get_or-places salt 0 rows k e d below)
          ∙ (ap (λ (r : List ℕ × V). (tag_of salt r.0, get_or ranks (0 + k) 0)) row
          ∙ (ap (λ i. (tag_of salt (get_or all (get_or ranks k 0) d).0, get_or ranks i 0)) (omega arith)
          ∙ sym (get_or-map own ranks k 0 e (omega (arith, length-ranks))))))) in
          let settled : places salt 0 all ≡ map own (range_with_len 0 n) = fill_by_all own (places salt 0 all) n q (length-places salt 0 all ∙ are.size) (λ k lt.
          get_or-places salt 0 all k q d (omega (arith, are.size)) ∙ ap (λ i. (tag_of salt (get_or all k d).0, i)) (omega arith)) in
          let before : IsPermutation (renumbered ranks pairs) (map own ranks) = subst (IsPermutation (renumbered ranks pairs)) tagged (IsPermutation-map one pairs (places salt 0 rows) (counted pairs (places salt 0 rows) tags)) in
          let after : IsPermutation (places salt 0 all) (map own ranks) = subst (λ l. IsPermutation l (map own ranks)) (sym settled) (IsPermutation-map own (range_with_len 0 n) ranks are.places) in
          total_permutation _ _ _ (IsPermutation-trans (renumbered ranks pairs) (map own ranks) (places salt 0 all) before (IsPermutation-sym (places salt 0 all) (map own ranks) after))

  empty : (xs : Pairs V) → length xs ≡ 0 → xs ≡ []
  empty [] e = refl
  empty (x ∷ xs) e = absurd (omega arith)

  -- the tags of rows in order are those of the rows, each with its row's rank
  pub tags_renumbered : (rows : Pairs V) (ranks : List ℕ) (all : Pairs V) → AreRanks rows ranks all → (salt : ℕ) (pairs : List (ℕ × ℕ)) → AreTags salt rows pairs → AreTags salt all (renumbered ranks pairs)
  tags_renumbered [] ranks all are salt pairs tags =
      let none : pairs ≡ [] = no_tags {V = V} salt [] pairs tags (refl {A = Pairs V}) in
      let gone : all ≡ [] = empty all are.size in
      subst (λ l. AreTags salt l (renumbered ranks pairs)) (sym gone) (subst (λ l. AreTags {V = V} salt [] (renumbered ranks l)) (sym none) (λ q. refl))
  tags_renumbered (d ∷ rows) ranks all are salt pairs tags = with_row (d ∷ rows) ranks all are salt pairs tags d
