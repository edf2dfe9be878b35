-- The changes of a leaf.
use Rattle.std.proofs.Common.{◌≡◌, ℕ, zero, suc, ◌+◌, ◌-◌, ◌<◌, ◌≤◌, List, [], ◌∷◌, ◌++◌, Bool, true, false, Some, None, Option, refl, sym, ap, ◌∙◌, subst, length, length-append, get_or, set, arith, inl, inr, min, cond, not, ◌⊎◌, IsSome, is_some, true≢false}
use Rattle.std.specs.List.{AllByRecursion, Contains, swap_remove}
use Rattle.std.specs.List.Sorted.{IsPermutation, IsSortedBy}
use Rattle.std.proofs.Math.ListN.{length-set}
use Rattle.std.proofs.lemmas.List.Sorted.{IsPermutation-swap_remove, length_permutation}
use Rattle.key_bytes.specs.Order.{is_below, is_same}
use Rattle.key_bytes.specs.Fnv.{prefix_hash}
use Rattle.leaf_store.specs.Tag.{first_bits, tag_of}
use Rattle.map_model.specs.Halves.{keys_of}
use Rattle.map_model.specs.Maps.{Pairs, IsMap, find, with, without, sorted}
use Rattle.key_bytes.proofs.Orders.{same_is}
use Rattle.map_model.proofs.Finds.{find_sorted, find_without, same_map, ascending_keep}
use Rattle.leaf_store.specs.Leaf.{LeafMap}
use Rattle.leaf_store.specs.Lent.{with_value}
use Rattle.leaf_store.specs.Order.{ArePlaces}
use Rattle.leaf_store.specs.Rows.{AreTags, AreOnce, IsLeaf}
use Rattle.leaf_store.proofs.Unsorted.{find_at, once_set, sorted_set, once_added, sorted_added, once_swap_remove, sorted_swap_remove}
use Rattle.leaf_store.proofs.Tagged.{tag_row, none_tagged, tags_added, tags_set}

pub min_left : (a b : ℕ) → 1 ≤ min a b → 1 ≤ a
min_left a b h = omega arith

pub min_right : (a b : ℕ) → 1 ≤ min a b → 1 ≤ b
min_right a b h = omega arith

module _ {V : Type 0} where
  -- where the key is absent, there is room
  pub roomy : (m : LeafMap V) (key : List ℕ) → (1 ≤ m.spare) ⊎ IsSome (find m.map key) → find m.map key ≡ None → 1 ≤ m.spare
  roomy m key room gone = elim room [
    | inl h ↦ h
    | inr some ↦ absurd (true≢false (sym some ∙ ap is_some gone))
  ]

  pub seen_room_for_one : (m n : LeafMap V) → m ≡ n → 1 ≤ n.spare → 1 ≤ m.spare
  seen_room_for_one m n e room = subst (λ (s : LeafMap V). 1 ≤ s.spare) (sym e) room

  -- the tag in a key's hash is the key's
  pub seen_tag : (m n : LeafMap V) → m ≡ n → (hash tag : ℕ) (key : List ℕ) → hash ≡ prefix_hash n.salt key → tag ≡ first_bits hash → tag ≡ tag_of m.salt key
  unfolding tag_of
  seen_tag m n e hash tag key is first = first ∙ ap first_bits (is ∙ ap (λ (s : LeafMap V). prefix_hash s.salt key) (sym e))

  all_set : (a : List ℕ) (rows : Pairs V) (i : ℕ) (y d : List ℕ × V) → i < length rows → (get_or rows i d).0 ≡ y.0 → AllByRecursion (λ (p : List ℕ × V). is_below a p.0 ≡ true) rows → AllByRecursion (λ (p : List ℕ × V). is_below a p.0 ≡ true) (set rows i y)
  all_set a [] i y d lt e all = absurd (omega arith)
  all_set a (x ∷ rows) zero y d lt e all = (subst (λ k. is_below a k ≡ true) e all.0, all.1)
  all_set a (x ∷ rows) (suc i) y d lt e all = (all.0, all_set a rows i y d (omega arith) e all.1)

  ascending_set : (rows : Pairs V) (i : ℕ) (y d : List ℕ × V) → i < length rows → (get_or rows i d).0 ≡ y.0 → IsMap rows → IsMap (set rows i y)
  ascending_set [] i y d lt e up = absurd (omega arith)
  ascending_set (x ∷ rows) zero y d lt e up = (subst (λ k. AllByRecursion (λ (p : List ℕ × V). is_below k p.0 ≡ true) rows) e up.0, up.1)
  ascending_set (x ∷ rows) (suc i) y d lt e up = (all_set x.0 rows i y d (omega arith) e up.0, ascending_set rows i y d (omega arith) e up.1)

  -- keys stay where a value is written over
  pub keys_set : (rows : Pairs V) (i : ℕ) (y d : List ℕ × V) → i < length rows → (get_or rows i d).0 ≡ y.0 → keys_of (set rows i y) ≡ keys_of rows
  keys_set [] i y d lt e = absurd (omega arith)
  keys_set (x ∷ rows) zero y d lt e = ap (λ (k : List ℕ). k ∷ keys_of rows) (sym e)
  keys_set (x ∷ rows) (suc i) y d lt e = ap (λ (l : List (List ℕ)). x.0 ∷ l) (keys_set rows i y d (omega arith) e)

  pub seen_find : (m n : LeafMap V) → m ≡ n → (key : List ℕ) (o : Option V) → find m.map key ≡ o → find n.map key ≡ o
  seen_find m n e key o f = subst (λ (s : LeafMap V). find s.map key ≡ o) e f

  -- rows whose map has no key
  pub seen_gone_key : (m n : LeafMap V) → m ≡ n → (rows : Pairs V) → sorted rows ≡ m.map → (key : List ℕ) → find n.map key ≡ None → find rows key ≡ None
  seen_gone_key m n e rows same key gone = sym (find_sorted rows key) ∙ (ap (λ p. find p key) same ∙ subst (λ (s : LeafMap V). find s.map key ≡ None) (sym e) gone)

  pub seen_with : (m n : LeafMap V) → m ≡ n → (p : Pairs V) (key : List ℕ) (v : V) → p ≡ with m.map key v → p ≡ with n.map key v
  seen_with m n e p key v f = subst (λ (s : LeafMap V). p ≡ with s.map key v) e f

  pub seen_gone : (m n : LeafMap V) → m ≡ n → (key : List ℕ) → find m.map key ≡ None → IsMap m.map → n.map ≡ without n.map key
  seen_gone m n e key gone up = subst (λ (s : LeafMap V). s.map ≡ without s.map key) e (same_map m.map (without m.map key) up (ascending_keep (λ k. not (is_same k key)) m.map up) (λ j.
      elim (is_same key j) as (λ t. is_same key j ≡ t → find m.map j ≡ cond t None (find m.map j)) [
        | true ↦ λ q. subst (λ k. find m.map k ≡ None) (same_is key j q) gone
        | false ↦ λ q. refl
      ] refl ∙ sym (find_without m.map key j)))

  pub seen_without : (m n : LeafMap V) → m ≡ n → (p : Pairs V) (key : List ℕ) → p ≡ without m.map key → p ≡ without n.map key
  seen_without m n e p key f = subst (λ (s : LeafMap V). p ≡ without s.map key) e f

module _ {V : Type 0} where
  -- the tag of a key is that of the row that has it
  pub taken_tag : (salt : ℕ) (rows : Pairs V) (place : ℕ) (key : List ℕ) (tag : ℕ) → tag ≡ tag_of salt key → ((d : List ℕ × V) → is_same (get_or rows place d).0 key ≡ true) → (d : List ℕ × V) → tag ≡ tag_of salt (get_or rows place d).0
  taken_tag salt rows place key tag e is d = e ∙ ap (tag_of salt) (sym (same_is (get_or rows place d).0 key (is d)))

module _ {V : Type 0} (salt : ℕ) (rows : Pairs V) (pairs : List (ℕ × ℕ)) (order : List ℕ) (ordered : Bool) (leaf : IsLeaf salt rows pairs order ordered) where
  -- a tag leads to a row
  pub tagged : (tag place : ℕ) → Contains pairs (tag, place) → place < length rows
  tagged tag place has = tag_row salt rows pairs leaf.tags tag place has

  -- where no row of its tag has the key, no row has it
  pub untagged : (tag : ℕ) (key : List ℕ) → tag ≡ tag_of salt key → ((place : ℕ) (d : List ℕ × V) → Contains pairs (tag, place) → is_same (get_or rows place d).0 key ≡ false) → find rows key ≡ None
  untagged tag key e each = none_tagged salt rows pairs leaf.tags key (λ place d has. each place d (subst (λ t. Contains pairs (t, place)) (sym e) has))

  module _ (i : ℕ) (x : List ℕ × V) (key : List ℕ) (lt : i < length rows) (read : x ≡ get_or rows i x) (is : (d : List ℕ × V) → is_same (get_or rows i d).0 key ≡ true) where
    pub has_key : x.0 ≡ key
    has_key = ap (λ (p : List ℕ × V). p.0) read ∙ same_is (get_or rows i x).0 key (is x)

    pub found : find (sorted rows) key ≡ Some x.1
    found =
        let h : find rows (get_or rows i x).0 ≡ Some (get_or rows i x).1 = find_at rows i x leaf.keys lt in
        find_sorted rows key ∙ (ap (find rows) (sym has_key) ∙ subst (λ (p : List ℕ × V). find rows p.0 ≡ Some p.1) (sym read) h)

    pub written_leaf : (v : V) → IsLeaf salt (set rows i (x.0, v)) pairs order ordered
    written_leaf v =
        let key_kept : (get_or rows i x).0 ≡ x.0 = sym (ap (λ (p : List ℕ × V). p.0) read) in
        let size : length (set rows i (x.0, v)) ≡ length rows = length-set rows i (x.0, v) in
        record {
          keys = once_set rows i x leaf.keys lt read v;
          tags = tags_set salt rows pairs leaf.tags i (x.0, v) x lt key_kept;
          places = leaf.places;
          few = let few = leaf.few in omega arith;
          known = λ t. elim (leaf.known t) [
            | inl plain ↦ inl (plain.0, ascending_set rows i (x.0, v) x lt key_kept plain.1)
            | inr lists ↦ inr (lists.0 ∙ sym size, subst (λ (keys : List (List ℕ)). IsSortedBy (λ p q. is_below (get_or keys p []) (get_or keys q [])) order) (sym (keys_set rows i (x.0, v) x lt key_kept)) lists.1)
          ];
        }

    pub written_map : (v : V) → sorted (set rows i (x.0, v)) ≡ with (sorted rows) key v
    written_map v = sorted_set rows i x leaf.keys lt read v ∙ ap (λ k. with (sorted rows) k v) has_key

    abbrev viewed : ℕ → Pairs V → List (List ℕ) → ℕ → LeafMap V
    viewed spare map keys room = record { map = map; keys = keys; spare = min room spare; salt = salt; is_ordered = ordered }

    -- what the leaf is seen as, with a value written over
    pub written_view : (n : LeafMap V) (capacity spare : ℕ) → ◌≡◌ {A = LeafMap V} (record { map = sorted rows; keys = keys_of rows; spare = min (capacity - length rows) spare; salt = salt; is_ordered = ordered }) n
        → (v : V) → ◌≡◌ {A = LeafMap V} (record { map = sorted (set rows i (x.0, v)); keys = keys_of (set rows i (x.0, v)); spare = min (capacity - length (set rows i (x.0, v))) spare; salt = salt; is_ordered = ordered }) (with_value n key v)
    written_view n capacity spare seen v =
        ap (λ (p : Pairs V). viewed spare p (keys_of (set rows i (x.0, v))) (capacity - length (set rows i (x.0, v)))) (written_map v)
        ∙ (ap (λ (keys : List (List ℕ)). viewed spare (with (sorted rows) key v) keys (capacity - length (set rows i (x.0, v)))) (keys_set rows i (x.0, v) x lt (sym (ap (λ (p : List ℕ × V). p.0) read)))
        ∙ (ap (λ k. viewed spare (with (sorted rows) key v) (keys_of rows) (capacity - k)) (length-set rows i (x.0, v)) ∙ ap (λ (s : LeafMap V). with_value s key v) seen))

    -- the last row goes to the place of the one that is taken out
    last : List ℕ × V
    last = get_or rows (length rows - 1) x

    pub taken_map : sorted (swap_remove rows i x) ≡ without (sorted rows) key
    taken_map = sorted_swap_remove rows i x leaf.keys lt read ∙ ap (without (sorted rows)) has_key

    pub taken_keys : AreOnce (swap_remove rows i x)
    taken_keys = once_swap_remove rows i x leaf.keys lt read

    pub taken_leaf : (more : List (ℕ × ℕ)) (left : List ℕ) (before : ℕ) → AreTags salt (swap_remove rows i x) more → ArePlaces left → length left ≤ before → before + 1 ≡ length rows → IsLeaf salt (swap_remove rows i x) more left false
    taken_leaf more left before tags places few count =
        let size : length (x ∷ swap_remove rows i x) ≡ length rows = length_permutation rows (x ∷ swap_remove rows i x) (IsPermutation-swap_remove rows i x lt read) in
        record { keys = taken_keys; tags = tags; places = places; few = omega arith; known = λ t. absurd (cc (t)) }

  pub absent : (key : List ℕ) → find rows key ≡ None → find (sorted rows) key ≡ None
  absent key gone = find_sorted rows key ∙ gone

  pub added_leaf : (key : List ℕ) (v : V) (more : List (ℕ × ℕ)) → find rows key ≡ None → IsPermutation ((tag_of salt key, length rows) ∷ pairs) more → IsLeaf salt (rows ++ (key, v) ∷ []) more order false
  added_leaf key v more gone p = record {
    keys = once_added rows key v leaf.keys gone;
    tags = tags_added salt rows pairs leaf.tags (key, v) more p;
    places = leaf.places;
    few = let few = leaf.few in omega (arith, few, length-append rows ((key, v) ∷ []));
    known = λ t. absurd (cc (t));
  }

  pub added_map : (key : List ℕ) (v : V) → find rows key ≡ None → sorted (rows ++ (key, v) ∷ []) ≡ with (sorted rows) key v
  added_map key v gone = sorted_added rows key v leaf.keys gone
