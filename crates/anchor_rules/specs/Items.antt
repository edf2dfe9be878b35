-- The prefixes of anchors, what is known of each, and where a search by them ends.
use Rattle.std.specs.Prelude.{◌≡◌, ℕ, ◌<◌, ◌≤◌, ◌==◌, ◌&&◌, List, [], ◌∷◌, ◌++◌, length, take, max, Bool, true, false, if◌then◌else◌, Option, Some, None}
use Rattle.std.specs.List.{filter, list_any}
use Rattle.std.proofs.Common.{zero, suc}
use Rattle.key_bytes.specs.Common.{lcp}
use Rattle.key_bytes.specs.Order.{is_same}
use Rattle.anchor_rules.specs.Anchors.{Anchors}

-- the first is a prefix of the second
abbrev pub begins : List ℕ → List ℕ → Bool
begins [] a = true
begins (x ∷ p) [] = false
begins (x ∷ p) (y ∷ a) = (x == y) && begins p a

-- What is known of a prefix: whether it is itself an anchor, the leaves of the first and of the last anchor that
-- begin with it, and which bytes go on from it in an anchor.
pub record Item : Type 0 where
  pub is_anchor : Bool
  pub leftmost : ℕ
  pub rightmost : ℕ
  pub child : ℕ → Bool

-- the anchors that begin with p
abbrev pub under : Anchors → List ℕ → Anchors
under A p = filter (λ (q : List ℕ × ℕ). begins p q.0) A

-- some anchor begins with p
abbrev pub is_prefix : Anchors → List ℕ → Bool
is_prefix A p = list_any (λ (q : List ℕ × ℕ). begins p q.0) A

-- p is itself an anchor
abbrev pub is_anchor_of : Anchors → List ℕ → Bool
is_anchor_of A p = list_any (λ (q : List ℕ × ℕ). is_same p q.0) A

abbrev pub first_leaf : Anchors → ℕ
first_leaf [] = 0
first_leaf (q ∷ A) = q.1

abbrev pub last_leaf : Anchors → ℕ
last_leaf [] = 0
last_leaf (q ∷ []) = q.1
last_leaf (q ∷ r ∷ A) = last_leaf (r ∷ A)

-- what is known of p, where an anchor begins with it
unfoldable pub item : Anchors → List ℕ → Option Item
item A p = if is_prefix A p then Some (record {
  is_anchor = is_anchor_of A p;
  leftmost = first_leaf (under A p);
  rightmost = last_leaf (under A p);
  child = λ c. is_prefix A (p ++ c ∷ []);
}) else None

-- the length of the longest anchor
abbrev pub longest_anchor : Anchors → ℕ
longest_anchor [] = 0
longest_anchor (q ∷ A) = max (length q.0) (longest_anchor A)

-- the longest prefix of the key that has an item has n bytes, and this item
pub record IsLongest (A : Anchors) (key : List ℕ) (n : ℕ) (it : Item) : Type 0 where
  pub within : n ≤ length key
  pub known : item A (take n key) ≡ Some it
  pub none_longer : (m : ℕ) → n < m → m ≤ length key → item A (take m key) ≡ None

-- the leaf of the anchor just before that of this leaf
abbrev pub leaf_before : Anchors → ℕ → ℕ
leaf_before [] leaf = 0
leaf_before (q ∷ []) leaf = 0
leaf_before (q ∷ r ∷ A) leaf = if r.1 == leaf then q.1 else leaf_before (r ∷ A) leaf

-- the greatest number below c that passes the test
abbrev pub greatest_below : (ℕ → Bool) → ℕ → Option ℕ
greatest_below test zero = None
greatest_below test (suc c) = if test c then Some c else greatest_below test c

-- the greatest byte that goes on from the prefix and is below the first of these, which the key has behind the prefix
abbrev pub child_below : Item → List ℕ → Option ℕ
child_below it [] = None
child_below it (c ∷ rest) = greatest_below it.child c

-- the last leaf of this child of p; without one, the first leaf of p where p is an anchor, else the leaf before that
abbrev pub end_by : Anchors → List ℕ → Item → Option ℕ → ℕ
end_by A p it (Some c) = last_leaf (under A (p ++ c ∷ []))
end_by A p it None = if it.is_anchor then it.leftmost else leaf_before A it.leftmost

-- the leaf at which a search ends: p is the longest prefix of the key with an item, and the key goes on with rest
abbrev pub ends_at : Anchors → List ℕ → Item → List ℕ → ℕ
ends_at A p it rest = end_by A p it (child_below it rest)

-- the leaf of the anchor just behind that of this leaf
abbrev pub leaf_after : Anchors → ℕ → ℕ
leaf_after [] leaf = 0
leaf_after (q ∷ A) leaf = if q.1 == leaf then first_leaf A else leaf_after A leaf

-- an end of a span begins with p
abbrev pub begins_end : List ℕ → Option (List ℕ) → Bool
begins_end p None = false
begins_end p (Some end) = begins p end

-- how many bytes of an anchor the one before it or the one behind it has too
abbrev pub shared : List ℕ → List ℕ → Option (List ℕ) → ℕ
shared before anchor None = lcp before anchor
shared before anchor (Some behind) = max (lcp before anchor) (lcp anchor behind)
