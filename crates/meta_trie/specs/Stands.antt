-- What the words of a table stand for: a list of anchors.
use Rattle.std.specs.Prelude.{ℕ, ◌≡◌, ◌+◌, ◌-◌, ◌<◌, ◌≤◌, List, [], ◌∷◌, length, slice_index, true, false, ◌==◌, if◌then◌else◌, Option, Some, None}
use Rattle.std.proofs.Common.{zero, suc}
use Rattle.std.specs.List.{AllByRecursion}
use Rattle.key_bytes.specs.Common.{lcp}
use Rattle.key_bytes.specs.Lengths.{AreBytes}
use Rattle.anchor_rules.specs.Anchors.{Anchors, Span, AreAnchors, span, has_leaf, splits}
use Rattle.anchor_rules.specs.Items.{item, is_prefix, first_leaf, longest_anchor, shared}
use Rattle.map_model.specs.declared.refusal.TableFull.{TableFull}
use Rattle.map_model.specs.declared.refusal.TableFull.TheVariants.{Leaves, Items, Versions}
use Rattle.row_words.specs.declared.shape.Shape.{Shape}
use Rattle.row_words.specs.Decode.{mark_at, anchor_at, previous_at, next_at, IsLive}
use Rattle.row_words.specs.declared.layout.TheConstants.{LONGEST_ANCHOR, LONGEST_WORD, LIVE_WORD}
use Rattle.meta_trie.specs.Trie.{Holds, bucket_of, used_of}

-- the link to the first of the leaves
abbrev pub first_link : Anchors → ℕ
first_link [] = 0
first_link (q ∷ A) = q.1 + 1

-- the rows of these leaves are a list in this order, with this link before it
abbrev pub LeafChain : Shape → List ℕ → ℕ → Anchors → Type 0
LeafChain k ws previous [] = Unit {0}
LeafChain k ws previous (q ∷ A) =
    IsLive k ws q.1 × (anchor_at k ws q.1 ≡ q.0) × (previous_at k ws q.1 ≡ previous) × (next_at k ws q.1 ≡ first_link A) × LeafChain k ws (q.1 + 1) A

-- how many prefixes the anchors have that the one before them doesn't have
abbrev pub fresh_count : List ℕ → Anchors → ℕ
fresh_count before [] = 0
fresh_count before (q ∷ A) = (length q.0 - lcp before q.0) + fresh_count q.0 A

-- how many prefixes ascending anchors have: the empty one, and of each anchor those that the one before it doesn't have
abbrev pub prefix_count : Anchors → ℕ
prefix_count A = 1 + fresh_count [] A

-- The words stand for these anchors: their leaf rows are the list of them from leaf 0 on, no other leaf is live, the
-- items are those of their prefixes, and the header says how many items and leaves there are and how long the longest
-- anchor is.
pub record StandsFor (k : Shape) (ws : List ℕ) (A : Anchors) : Type 0 where
  pub anchors : AreAnchors A
  pub zero : first_leaf A ≡ 0
  pub keys : AllByRecursion (λ (q : List ℕ × ℕ). (length q.0 < LONGEST_ANCHOR + 1) × AreBytes q.0 × (q.1 < k.leaves)) A
  pub chained : LeafChain k ws 0 A
  pub dead : (leaf : ℕ) → leaf < k.leaves → has_leaf A leaf ≡ false → mark_at k ws leaf ≡ 0
  pub trie : Holds k ws (item A)
  pub root : trie.owner 0 ≡ Some []
  pub longest : slice_index ws LONGEST_WORD ≡ longest_anchor A
  pub used : used_of ws ≡ prefix_count A
  pub live : slice_index ws LIVE_WORD ≡ length A

-- they stand for some anchors
abbrev pub IsTable : Shape → List ℕ → Type 0
IsTable k ws = (A : Anchors) × StandsFor k ws A

-- no two of the prefixes are the same
abbrev pub AllApart : List (List ℕ) → Type 0
AllApart [] = Unit {0}
AllApart (p ∷ ps) = AllByRecursion (λ (q : List ℕ). p ≡ q → ⊥) ps × AllApart ps

-- of the prefixes of the anchors no more than c share a bucket
abbrev pub MostInBucket : Shape → Anchors → ℕ → Type 0
MostInBucket k A c = (b : ℕ) (ps : List (List ℕ)) → AllApart ps → AllByRecursion (λ (p : List ℕ). (bucket_of k p ≡ b) × (is_prefix A p ≡ true)) ps → length ps ≤ c

-- the least number of a leaf that isn't live
pub record IsFreeLeaf (k : Shape) (A : Anchors) (leaf : ℕ) : Type 0 where
  pub in_range : leaf < k.leaves
  pub dead : has_leaf A leaf ≡ false
  pub least : (lower : ℕ) → lower < leaf → has_leaf A lower ≡ true

-- all leaves are live, as many as there may be
abbrev pub AreLeavesFull : Shape → Anchors → TableFull → Type 0
AreLeavesFull k A (Leaves used cap) = (used ≡ length A) × (cap ≡ k.leaves) × ((leaf : ℕ) → leaf < k.leaves → has_leaf A leaf ≡ true)
AreLeavesFull k A (Items needed free) = ⊥
AreLeavesFull k A (Versions version) = ⊥

-- how many prefixes an anchor has that aren't those of others yet, where it stands in this span
abbrev pub new_count : Option Span → List ℕ → ℕ
new_count None a = 0
new_count (Some s) a = length a - shared s.0 a s.1

-- the items are enough for the anchors and one more behind a leaf's
abbrev pub FitsSplit : Shape → Anchors → ℕ → List ℕ → Type 0
FitsSplit k A left a = prefix_count A + new_count (span A left) a ≤ k.items

-- the prefixes that an anchor behind a leaf's needs are more than the free items
abbrev pub AreItemsFull : Shape → Anchors → ℕ → List ℕ → TableFull → Type 0
AreItemsFull k A left a (Leaves used cap) = ⊥
AreItemsFull k A left a (Items needed free) = (needed ≡ new_count (span A left) a) × (free ≡ k.items - prefix_count A) × (free < needed)
AreItemsFull k A left a (Versions version) = ⊥

-- how many prefixes of an anchor are those of the anchor too that a link names, if it names one
pub record ShareNext (k : Shape) (ws : List ℕ) (next : ℕ) (a : List ℕ) (count : ℕ) : Type 0 where
  pub last : next ≡ 0 → count ≡ 0
  pub more : (r : ℕ) → next ≡ r + 1 → count ≡ lcp (anchor_at k ws r) a + 1

-- the anchors of the leaf rows along their links to the next, from this link on and at most so many
abbrev pub anchors_from : Shape → List ℕ → ℕ → ℕ → Anchors
anchors_from k ws zero link = []
anchors_from k ws (suc most) link = if link == 0 then [] else (anchor_at k ws (link - 1), link - 1) ∷ anchors_from k ws most (next_at k ws (link - 1))

-- the anchors that the words stand for, if they do for any: those along the links from leaf 0
abbrev pub anchors_of : Shape → List ℕ → Anchors
anchors_of k ws = anchors_from k ws k.leaves 1

-- the words stand for anchors among which a new one can stand behind a leaf's, with this leaf
abbrev pub CanSplit : Shape → List ℕ → ℕ → List ℕ → ℕ → Type 0
CanSplit k ws left a leaf = (A : Anchors) × (StandsFor k ws A × (splits A left a leaf ≡ true))
