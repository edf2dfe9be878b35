-- The places that a list begins with, as far as they ascend: how they stay so.
use Rattle.std.proofs.Common.{◌≡◌, ◌≢◌, ℕ, ◌+◌, ◌-◌, ◌<◌, ◌≤◌, List, [], ◌∷◌, ◌++◌, Bool, true, false, true≢false, refl, sym, ap, ◌∙◌, subst, length, length-append, length-take, get_or, set, take, arith, get_or-set_same, get_or-set_other}
use mathlib.Core.Logic.{dite, ◌⊎◌, inl, inr}
use native.Mathlib.Decide.{ℕ_discrete}
use Rattle.std.specs.Cmp.{IsStrictWeakOrder}
use Rattle.std.specs.List.{insert, remove, swap_remove, SameBelow}
use Rattle.std.specs.List.Sorted.{IsPartitionedBy, IsPartitionPoint, IsSortedBy}
use Rattle.std.proofs.Math.ListN.{length-set}
use Rattle.std.proofs.lemmas.Bool.{cases_lt}
use Rattle.std.proofs.lemmas.Cmp.{nat_list_cmp_total}
use Rattle.std.proofs.lemmas.List.{get_or-take, get_or_append_left}
use Rattle.std.proofs.lemmas.List.Edits.{length-insert, get_or-insert_below, get_or-insert_at, get_or-insert_above, length-remove, get_or-remove_below, get_or-remove_above}
use Rattle.std.proofs.lemmas.List.Sorted.{sorted_far, ranks_by}
use Rattle.map_model.specs.Halves.{key_at, keys_of}
use Rattle.map_model.specs.Maps.{Pairs}
use Rattle.map_model.proofs.Halves.{key_at-pair}
use Rattle.leaf_store.specs.Order.{AreInOrder, ArePlaces, HasFront, IsLess, is_earlier}
use Rattle.leaf_store.proofs.Numbered.{numbered_below, numbered_differ}
use Rattle.leaf_store.proofs.Listing.{same_read}

-- the test of keys by their places is an order
pub earlier_ranks : {V : Type 0} (rows : Pairs V) → IsStrictWeakOrder (is_earlier rows)
earlier_ranks rows = ranks_by nat_list_cmp_total (key_at rows)

-- no place is before one that stands further in front
pub front_far : {V : Type 0} (rows : Pairs V) (order : List ℕ) (n : ℕ) → HasFront rows order n → (i j d : ℕ) → i ≤ j → j < n → is_earlier rows (get_or order j d) (get_or order i d) ≡ false
front_far rows order n front i j d le lt =
    let size : length (take n order) ≡ n = omega (arith, length-take n order, front.0) in
    let up : IsSortedBy (is_earlier rows) (take n order) = λ k e low high.
    rw (get_or-take n order (k + 1) e (omega arith), get_or-take n order k e (omega arith)) (front.1 k e low (omega arith)) in
    let far = sorted_far (is_earlier rows) (earlier_ranks rows) (take n order) up i j d le (omega arith) in
    rw (get_or-take n order j d lt, get_or-take n order i d (omega arith)) at far

-- places that ascended, some of them left out, under the same keys
pub carried : {V : Type 0} (old new : Pairs V) (xs ys : List ℕ) (n m : ℕ) → HasFront old xs n → m ≤ length ys
    → ((k : ℕ) → k < m → (j : ℕ) × (k ≤ j) × (j ≤ k + 1) × (j < n) × ((d : ℕ) → key_at new (get_or ys k d) ≡ key_at old (get_or xs j d)))
    → HasFront new ys m
carried old new xs ys n m front fits from = (
  fits,
  λ k d low high.
      let a = from k (omega arith) in
      let b = from (k + 1) high in
      let far = front_far old xs n front a.0 b.0 d (let p = a.2 in let q = b.1 in omega arith) b.3 in
      rw (b.4 d, a.4 d) far,
)

-- no places, or fewer
pub front_none : {V : Type 0} (rows : Pairs V) (order : List ℕ) → HasFront rows order 0
front_none rows order = (omega arith, λ k d low high. absurd (omega arith))

-- all places, where they ascend
pub front_all : {V : Type 0} (rows : Pairs V) (order : List ℕ) → IsSortedBy (is_earlier rows) order → HasFront rows order (length order)
front_all rows order up = (omega arith, up)

-- where none are listed, whatever the rows are
pub front_empty : {V : Type 0} (old new : Pairs V) (order : List ℕ) (n : ℕ) → order ≡ [] → HasFront old order n → HasFront new order n
front_empty old new order n none front = let z = ap length none in let f = front.0 in (f, λ k d low high. absurd (omega arith))

-- where the order is known
pub front_known : {V : Type 0} (rows : Pairs V) (order : List ℕ) → AreInOrder rows order → HasFront rows order (length order)
front_known rows order known = elim known [
  | inl plain ↦ (omega arith, λ k d low high. absurd (let z = ap length plain.0 in omega arith))
  | inr lists ↦ front_all rows order lists.1
]

-- a list that begins with the same places
pub front_listed : {V : Type 0} (rows : Pairs V) (xs ys : List ℕ) (n : ℕ) → HasFront rows xs n → SameBelow xs ys (length xs) → length xs ≤ length ys → HasFront rows ys n
front_listed rows xs ys n front same long = carried rows rows xs ys n n front (let f = front.0 in omega arith) (λ k lt. (k, omega arith, omega arith, lt, λ d. ap (key_at rows) (same k d (let f = front.0 in omega arith))))

-- a place that is listed is below the number of those that are
pub below_length : (order : List ℕ) → ArePlaces order → (k d : ℕ) → k < length order → get_or order k d < length order
below_length order are k d lt = subst (λ p. p < length order) (same_read order k 0 d lt) (numbered_below (length order) order are k lt)

-- rows whose keys at the places are the same
pub front_same : {V : Type 0} (old new : Pairs V) (order : List ℕ) (n : ℕ) → ArePlaces order → length order ≤ length old → ((p : ℕ) → p < length old → key_at new p ≡ key_at old p) → HasFront old order n → HasFront new order n
front_same old new order n are few same front = carried old new order order n n front front.0 (λ k lt.
    let f = front.0 in
    let listed : k < length order = omega arith in
    (k, omega arith, omega arith, lt, λ d. same (get_or order k d) (let b = below_length order are k d listed in omega arith)))

module _ {V : Type 0} where
  -- one row more
  key_before : (rows more : Pairs V) (d : List ℕ × V) (p : ℕ) → p < length rows → key_at (rows ++ more) p ≡ key_at rows p
  key_before rows more d p lt =
      let long = length-append rows more in
      key_at-pair (rows ++ more) p d (omega arith) ∙ (ap (λ (r : List ℕ × V). r.0) (get_or_append_left rows more d p lt) ∙ sym (key_at-pair rows p d lt))

  pub front_before : (rows more : Pairs V) (order : List ℕ) (n : ℕ) → ArePlaces order → length order ≤ length rows → HasFront rows order n → HasFront (rows ++ more) order n
  front_before [] more order n are few front = (front.0, λ k d low high. absurd (let f = front.0 in omega arith))
  front_before (r ∷ rows) more order n are few front = front_same (r ∷ rows) ((r ∷ rows) ++ more) order n are few (key_before (r ∷ rows) more r) front

  -- keys that stay
  pub front_keys : (old new : Pairs V) (order : List ℕ) (n : ℕ) → keys_of new ≡ keys_of old → HasFront old order n → HasFront new order n
  front_keys old new order n same front = carried old new order order n n front front.0 (λ k lt.
      (k, omega arith, omega arith, lt, λ d. ap (λ (keys : List (List ℕ)). get_or keys (get_or order k d) []) same))

  -- the keys of rows of which one was exchanged for the last
  module _ (rows : Pairs V) (i : ℕ) (x : List ℕ × V) (lt : i < length rows) where
    abbrev last : List ℕ × V
    last = get_or rows (length rows - 1) x

    moved_size : length (swap_remove rows i x) ≡ length rows - 1
    moved_size = let size : length (set rows i last) ≡ length rows = length-set rows i last in let t = length-take (length rows - 1) (set rows i last) in omega arith

    pub key_other : (p : ℕ) → p ≢ i → p + 1 < length rows → key_at (swap_remove rows i x) p ≡ key_at rows p
    key_other p ne within =
        let size = moved_size in
        let there : get_or (swap_remove rows i x) p x ≡ get_or rows p x = get_or-take (length rows - 1) (set rows i last) p x (omega arith) ∙ get_or-set_other rows i p last x ne in
        key_at-pair (swap_remove rows i x) p x (omega arith) ∙ (ap (λ (r : List ℕ × V). r.0) there ∙ sym (key_at-pair rows p x (omega arith)))

    pub key_moved : i + 1 < length rows → key_at (swap_remove rows i x) i ≡ key_at rows (length rows - 1)
    key_moved within =
        let size = moved_size in
        let there : get_or (swap_remove rows i x) i x ≡ last = get_or-take (length rows - 1) (set rows i last) i x (omega arith) ∙ get_or-set_same rows i last x lt in
        key_at-pair (swap_remove rows i x) i x (omega arith) ∙ (ap (λ (r : List ℕ × V). r.0) there ∙ sym (key_at-pair rows (length rows - 1) x (omega arith)))

-- a list without the entry at an index, which is a place: where each other entry was
module _ (order : List ℕ) (at : ℕ) (in_range : at < length order) where
  pub record WasAt (k : ℕ) : Type 0 where
    pub index : ℕ
    pub side : ((k < at) × (index ≡ k)) ⊎ ((at ≤ k) × (index ≡ k + 1))
    pub same : (d : ℕ) → get_or (remove order at) k d ≡ get_or order index d

  pub was_at : (k : ℕ) → WasAt k
  was_at k = elim (cases_lt k at) [
    | inl less ↦ record { index = k; side = inl (less, refl); same = λ d. get_or-remove_below order at d k less in_range }
    | inr more ↦ record { index = k + 1; side = inr (omega arith, refl); same = λ d. get_or-remove_above order at d k (omega arith) in_range }
  ]

module _ {V : Type 0} (rows : Pairs V) (order : List ℕ) (are : ArePlaces order) (few : length order ≤ length rows) (front : ℕ) (has : HasFront rows order front) (place : ℕ) (lt : place < length rows) (x : List ℕ × V) where
  -- where it isn't listed
  pub front_unlisted : length order ≤ place → HasFront (swap_remove rows place x) order front
  front_unlisted from = carried rows (swap_remove rows place x) order order front front has has.0 (λ k less.
      let f = has.0 in (
        k,
        omega arith,
        omega arith,
        less,
        λ d.
            let b = below_length order are k d (omega arith) in
            key_other rows place x lt (get_or order k d) (λ e. absurd (omega arith)) (omega arith),
      ))

  module _ (at : ℕ) (in_range : at < length order) (read : place ≡ get_or order at place) where
    -- it is listed once
    apart : (j d : ℕ) → j < length order → j ≢ at → get_or order j d ≢ place
    apart j d within ne e = ne (numbered_differ (length order) order are j at within in_range (same_read order j 0 d within ∙ (e ∙ (read ∙ same_read order at place 0 in_range))))

    module _ (m : ℕ) (less : IsLess at front m) where
      least : m ≤ length (remove order at)
      least = let f = has.0 in let size = length-remove order at in_range in elim less [
        | inl l ↦ let a = l.1 in omega arith
        | inr l ↦ let a = l.0 in let b = l.1 in omega arith
      ]

      -- where each of the first places was
      from : (k : ℕ) → k < m → (w : WasAt order at in_range k) → (k ≤ w.index) × (w.index ≤ k + 1) × (w.index < front) × (w.index ≢ at)
      from k lk w = elim w.side [
        | inl s ↦ let a = s.0 in let b = s.1 in elim less [
          | inl l ↦ let c = l.1 in (omega arith, omega arith, omega arith, λ e. absurd (omega arith))
          | inr l ↦ let c = l.1 in (omega arith, omega arith, omega arith, λ e. absurd (omega arith))
        ]
        | inr s ↦ let a = s.0 in let b = s.1 in elim less [
          | inl l ↦ let c = l.1 in (omega arith, omega arith, omega arith, λ e. absurd (omega arith))
          | inr l ↦ let c = l.1 in let g = l.0 in absurd (omega arith)
        ]
      ]

      -- a place that keeps its row
      kept : (k : ℕ) → k < m → (w : WasAt order at in_range k) → (d : ℕ) → get_or order w.index d + 1 < length rows → key_at (swap_remove rows place x) (get_or (remove order at) k d) ≡ key_at rows (get_or order w.index d)
      kept k lk w d within =
          let f = from k lk w in
          let h = has.0 in
          let g = f.2 in
          ap (key_at (swap_remove rows place x)) (w.same d) ∙ key_other rows place x lt (get_or order w.index d) (apart w.index d (omega arith) f.3) within

      -- where it was the greatest
      pub front_last : place + 1 ≡ length order → place + 1 ≡ length rows → HasFront (swap_remove rows place x) (remove order at) m
      front_last all rest = carried rows (swap_remove rows place x) order (remove order at) front m has least (λ k lk.
          let w = was_at order at in_range k in
          let f = from k lk w in
          let h = has.0 in
          let g = f.2 in (
            w.index,
            f.0,
            f.1,
            f.2,
            λ d. kept k lk w d (
                let b = below_length order are w.index d (omega arith) in
                let ne = apart w.index d (omega arith) f.3 in
                let less : get_or order w.index d < place = below_other (get_or order w.index d) place (omega arith) ne in
                omega arith),
          ))
        where
          below_other : (p q : ℕ) → p < q + 1 → p ≢ q → p < q
          below_other p q le ne = dite (ℕ_discrete p q) (λ e. absurd (ne e)) (λ n. omega (arith, n, le))

      -- where it is put behind
      pub front_behind : length order + 1 ≤ length rows → HasFront (swap_remove rows place x) (remove order at ++ place ∷ []) m
      front_behind room = carried rows (swap_remove rows place x) order (remove order at ++ place ∷ []) front m has (let l = least in let s = length-append (remove order at) (place ∷ []) in omega arith) (λ k lk.
          let w = was_at order at in_range k in
          let f = from k lk w in
          let h = has.0 in
          let g = f.2 in (
            w.index,
            f.0,
            f.1,
            f.2,
            λ d.
                ap (key_at (swap_remove rows place x)) (get_or_append_left (remove order at) (place ∷ []) d k (let l = least in omega arith))
                ∙ kept k lk w d (let b = below_length order are w.index d (omega arith) in omega arith),
          ))

      -- where it takes the entry of the greatest
      pub front_renamed : (last there : ℕ) → last + 1 ≡ length order → last + 1 ≡ length rows → place < last → there < length (remove order at) → last ≡ get_or (remove order at) there last
          → HasFront (swap_remove rows place x) (set (remove order at) there place) m
      front_renamed last there all rest below within is = carried rows (swap_remove rows place x) order (set (remove order at) there place) front m has (let l = least in let s = length-set (remove order at) there place in omega arith) (λ k lk.
          let w = was_at order at in_range k in
          let f = from k lk w in
          (w.index, f.0, f.1, f.2, λ d. dite (ℕ_discrete k there) (same k lk d) (other k lk d)))
        where
          new : Pairs V
          new = swap_remove rows place x

          end : length rows - 1 ≡ last
          end = omega arith

          same : (k : ℕ) → k < m → (d : ℕ) → k ≡ there → key_at (swap_remove rows place x) (get_or (set (remove order at) there place) k d) ≡ key_at rows (get_or order (was_at order at in_range k).index d)
          same k lk d e =
              let w = was_at order at in_range k in
              let named : get_or (set (remove order at) there place) k d ≡ place = ap (λ n. get_or (set (remove order at) there place) n d) e ∙ get_or-set_same (remove order at) there place d within in
              let was : get_or order w.index d ≡ last = sym (w.same d) ∙ (ap (λ n. get_or (remove order at) n d) e ∙ (same_read (remove order at) there d last within ∙ sym is)) in
              ap (key_at (swap_remove rows place x)) named ∙ (key_moved rows place x lt (omega arith) ∙ (ap (key_at rows) end ∙ ap (key_at rows) (sym was)))

          other : (k : ℕ) → k < m → (d : ℕ) → k ≢ there → key_at (swap_remove rows place x) (get_or (set (remove order at) there place) k d) ≡ key_at rows (get_or order (was_at order at in_range k).index d)
          other k lk d ne =
              let w = was_at order at in_range k in
              let v = was_at order at in_range there in
              let f = from k lk w in
              let h = has.0 in
              let g = f.2 in
              let size = length-remove order at in_range in
              let v_in : v.index < length order = elim v.side [
                | inl s ↦ let b = s.1 in omega arith
                | inr s ↦ let b = s.1 in omega arith
              ] in
              let apart_in : w.index ≢ v.index = λ e. elim w.side [
                | inl s ↦ let a = s.0 in let b = s.1 in elim v.side [
                  | inl t ↦ let c = t.1 in ne (omega arith)
                  | inr t ↦ let c = t.1 in let q = t.0 in absurd (omega arith)
                ]
                | inr s ↦ let a = s.0 in let b = s.1 in elim v.side [
                  | inl t ↦ let c = t.1 in let q = t.0 in absurd (omega arith)
                  | inr t ↦ let c = t.1 in ne (omega arith)
                ]
              ] in
              let v_is : get_or order v.index 0 ≡ last = sym (v.same 0) ∙ (same_read (remove order at) there 0 last within ∙ sym is) in
              let not_last : get_or order w.index d ≢ last = λ e. apart_in (numbered_differ (length order) order are w.index v.index (omega arith) v_in (same_read order w.index 0 d (omega arith) ∙ (e ∙ sym v_is))) in
              let b = below_length order are w.index d (omega arith) in
              let less : get_or order w.index d < last = below_other (get_or order w.index d) last (omega arith) not_last in
              ap (key_at (swap_remove rows place x)) (get_or-set_other (remove order at) there k place d ne) ∙ kept k lk w d (omega arith)
            where
              below_other : (p q : ℕ) → p < q + 1 → p ≢ q → p < q
              below_other p q le ne = dite (ℕ_discrete p q) (λ e. absurd (ne e)) (λ n. omega (arith, n, le))

-- a place that is put where it belongs among those before it
module _ {V : Type 0} (rows : Pairs V) (order : List ℕ) (i : ℕ) (in_range : i < length order) (front : HasFront rows order i) (place : ℕ) (read : place ≡ get_or order i place) where
  passes : ℕ → Bool
  passes p = is_earlier rows p place

  pub front_searched : IsPartitionedBy (λ p. is_earlier rows p place) (take i (remove order i))
  front_searched a b d le lt pass =
      let size = length-remove order i in_range in
      let short : length (take i (remove order i)) ≡ i = omega (arith, length-take i (remove order i)) in
      let read_a : get_or (take i (remove order i)) a d ≡ get_or order a d = get_or-take i (remove order i) a d (omega arith) ∙ get_or-remove_below order i d a (omega arith) in_range in
      let read_b : get_or (take i (remove order i)) b d ≡ get_or order b d = get_or-take i (remove order i) b d (omega arith) ∙ get_or-remove_below order i d b (omega arith) in_range in
      let far = front_far rows order i front a b d le (omega arith) in
      let pass_b : is_earlier rows (get_or order b d) place ≡ true = ap (λ p. is_earlier rows p place) (sym read_b) ∙ pass in
      ap (λ p. is_earlier rows p place) read_a ∙ elim (is_earlier rows (get_or order a d) place) as (λ t. is_earlier rows (get_or order a d) place ≡ t → is_earlier rows (get_or order a d) place ≡ true) [
        | true ↦ λ e. e
        | false ↦ λ e. absurd (true≢false (sym pass_b ∙ (earlier_ranks rows).chain (get_or order b d) (get_or order a d) place far e))
      ] refl

  pub front_put : (at : ℕ) → at ≤ length (take i (remove order i)) → IsPartitionPoint (λ p. is_earlier rows p place ≡ true) (λ p. is_earlier rows p place ≡ false) (take i (remove order i)) at → HasFront rows (insert (remove order i) at place) (i + 1)
  front_put at within point = (omega (arith, long, size, in_range), ups)
    where
      size : length (remove order i) + 1 ≡ length order
      size = length-remove order i in_range

      short : length (take i (remove order i)) ≡ i
      short = omega (arith, length-take i (remove order i), size)

      long : length (insert (remove order i) at place) ≡ length (remove order i) + 1
      long = length-insert (remove order i) at place (omega (arith, within, short, size))

      new : List ℕ
      new = insert (remove order i) at place

      fits : at ≤ length (remove order i)
      fits = omega (arith, within, short, size)

      low : (k d : ℕ) → k < at → get_or (insert (remove order i) at place) k d ≡ get_or order k d
      low k d lt = get_or-insert_below (remove order i) at place d k lt fits ∙ get_or-remove_below order i d k (omega (arith, lt, within, short)) in_range

      high : (k d : ℕ) → at ≤ k → k < i → get_or (insert (remove order i) at place) (k + 1) d ≡ get_or order k d
      high k d after lt = get_or-insert_above (remove order i) at place d k after fits ∙ get_or-remove_below order i d k lt in_range

      front_read : (k d : ℕ) → k < i → get_or (take i (remove order i)) k d ≡ get_or order k d
      front_read k d lt = get_or-take i (remove order i) k d lt ∙ get_or-remove_below order i d k lt in_range

      before : (k d : ℕ) → k < at → is_earlier rows (get_or order k d) place ≡ true
      before k d lt = ap (λ p. is_earlier rows p place) (sym (front_read k d (omega (arith, lt, within, short)))) ∙ point.0 k d (omega arith) lt

      behind : (k d : ℕ) → at ≤ k → k < i → is_earlier rows (get_or order k d) place ≡ false
      behind k d after lt = ap (λ p. is_earlier rows p place) (sym (front_read k d lt)) ∙ point.1 k d after (omega (arith, lt, short))

      ups : (k d : ℕ) → 0 ≤ k → k + 1 < i + 1 → is_earlier rows (get_or (insert (remove order i) at place) (k + 1) d) (get_or (insert (remove order i) at place) k d) ≡ false
      ups k d least lt = elim (cases_lt (k + 1) at) [
        | inl less ↦ rw (low (k + 1) d less, low k d (omega arith)) (front.1 k d (omega arith) (omega (arith, within, short)))
        | inr more ↦ elim (cases_lt k at) [
          | inl edge ↦
              let e : k + 1 ≡ at = omega arith in
              let here : get_or (insert (remove order i) at place) (k + 1) d ≡ place = ap (λ n. get_or (insert (remove order i) at place) n d) e ∙ get_or-insert_at (remove order i) at place d fits in
              rw (here, low k d edge) ((earlier_ranks rows).one_way (get_or order k d) place (before k d edge))
          | inr over ↦ elim (cases_lt at k) [
            | inl above ↦
                let e : k - 1 + 1 ≡ k = omega arith in
                let down : get_or (insert (remove order i) at place) k d ≡ get_or order (k - 1) d = ap (λ n. get_or (insert (remove order i) at place) n d) (sym e) ∙ high (k - 1) d (omega arith) (omega arith) in
                let up : is_earlier rows (get_or order (k - 1 + 1) d) (get_or order (k - 1) d) ≡ false = front.1 (k - 1) d (omega arith) (omega arith) in
                rw (high k d (omega arith) (omega arith), down) (subst (λ n. is_earlier rows (get_or order n d) (get_or order (k - 1) d) ≡ false) e up)
            | inr same ↦
                let e : k ≡ at = omega arith in
                let here : get_or (insert (remove order i) at place) k d ≡ place = ap (λ n. get_or (insert (remove order i) at place) n d) e ∙ get_or-insert_at (remove order i) at place d fits in
                rw (high k d (omega arith) (omega arith), here) (behind k d (omega arith) (omega arith))
          ]
        ]
      ]
