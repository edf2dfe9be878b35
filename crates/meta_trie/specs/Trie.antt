-- What the heads, the items and the free list of a table hold: a map from prefixes to what is known of each.
use Rattle.std.specs.Prelude.{ℕ, zero, suc, ◌≡◌, ◌+◌, ◌/◌, ◌%◌, ◌^◌, ◌<◌, ◌==◌, ◌⊎◌, List, [], ◌∷◌, ◌++◌, length, slice_index, take, Bool, Option, Some, None, if◌then◌else◌}
use Rattle.std.specs.List.{AllByRecursion}
use Rattle.key_bytes.specs.Fnv.{prefix_hash}
use Rattle.anchor_rules.specs.Items.{Item}
use Rattle.row_words.specs.declared.shape.Shape.{Shape}
use Rattle.row_words.specs.declared.rows.ItemRow.{ItemRow}
use Rattle.row_words.specs.Shape.{IsShape}
use Rattle.row_words.specs.Decode.{head_at, hash_at, item_at, anchor_at, IsLive}
use Rattle.row_words.specs.declared.layout.TheConstants.{USED_WORD, FREE_WORD}
use Rattle.meta_trie.specs.declared.finds.Found.{Found}

-- whether byte c is in a bitmap
abbrev pub bit_of : List ℕ → ℕ → Bool
bit_of bits c = slice_index bits (c / 64) / 2 ^ (c % 64) % 2 == 1

-- a row says what is known
pub record Says (row : ItemRow) (it : Item) : Type 0 where
  pub anchor : row.is_anchor ≡ it.is_anchor
  pub first : row.leftmost ≡ it.leftmost
  pub last : row.rightmost ≡ it.rightmost
  pub children : (c : ℕ) → c < 256 → bit_of row.bits c ≡ it.child c

-- the bucket of a prefix
abbrev pub bucket_of : Shape → List ℕ → ℕ
bucket_of k name = prefix_hash k.salt name % k.heads

-- a place of an item, and its prefix
pub record Entry : Type 0 where
  pub at : ℕ
  pub name : List ℕ

-- from this link on stand just these entries
abbrev pub Chain : Shape → List ℕ → ℕ → List Entry → Type 0
Chain k ws link [] = link ≡ 0
Chain k ws link (e ∷ es) = (link ≡ e.at + 1) × Chain k ws (item_at k ws e.at).next es

-- the item at an entry's place is that of its prefix, and says what is known
pub record Stands (k : Shape) (ws : List ℕ) (known : List ℕ → Option Item) (bucket : ℕ) (e : Entry) : Type 0 where
  pub in_range : e.at < k.items
  pub here : bucket_of k e.name ≡ bucket
  pub hash : hash_at k ws e.at ≡ prefix_hash k.salt e.name
  pub len : (item_at k ws e.at).len ≡ length e.name
  pub live : IsLive k ws (item_at k ws e.at).leftmost
  pub named : take (length e.name) (anchor_at k ws (item_at k ws e.at).leftmost) ≡ e.name
  pub said : (it : Item) × (known e.name ≡ Some it) × Says (item_at k ws e.at) it

-- one of the entries has this prefix
abbrev pub Names : List ℕ → List Entry → Type 0
Names name [] = ⊥
Names name (e ∷ es) = (e.name ≡ name) ⊎ Names name es

-- no two of them have one place or one prefix
abbrev pub Apart : List Entry → Type 0
Apart [] = Unit {0}
Apart (e ∷ es) = AllByRecursion (λ (f : Entry). (e.at ≡ f.at → ⊥) × (e.name ≡ f.name → ⊥)) es × Apart es

-- one of the entries is that of this place and prefix
abbrev pub HasEntry : ℕ → List ℕ → List Entry → Type 0
HasEntry i name [] = ⊥
HasEntry i name (e ∷ es) = ((e.at ≡ i) × (e.name ≡ name)) ⊎ HasEntry i name es

-- The free item behind the one at a place of so many, as place + 1 or 0, by that one's link. A link of 0 names the
-- item at the next place, if there is one: so items whose words were never written are free in the order of their
-- places. Any other link is what it names, and 1 more.
abbrev pub named_free : ℕ → ℕ → ℕ → ℕ
named_free items i zero = if i + 1 == items then 0 else i + 2
named_free items i (suc n) = n

-- the free item behind a free one
abbrev pub free_after : Shape → List ℕ → ℕ → ℕ
free_after k ws i = named_free k.items i (item_at k ws i).next

-- From this on, a place + 1 or 0, the free list has just these places. A free item's link is read by `named_free`, and
-- not as that of an item in a bucket.
abbrev pub Spare : Shape → List ℕ → ℕ → List ℕ → Type 0
Spare k ws link [] = link ≡ 0
Spare k ws link (i ∷ is) = (link ≡ i + 1) × Spare k ws (free_after k ws i) is

-- no number stands twice
abbrev pub Unlike : List ℕ → Type 0
Unlike [] = Unit {0}
Unlike (i ∷ is) = AllByRecursion (λ (j : ℕ). i ≡ j → ⊥) is × Unlike is

abbrev pub Among : ℕ → List ℕ → Type 0
Among i [] = ⊥
Among i (j ∷ js) = (j ≡ i) ⊎ Among i js

-- the header's numbers of the used items and of the first free item
abbrev pub used_of : List ℕ → ℕ
used_of ws = slice_index ws USED_WORD

abbrev pub free_of : List ℕ → ℕ
free_of ws = slice_index ws FREE_WORD

-- The heads and items hold just this map: each bucket is a chain of the items of its prefixes, and each other item
-- stands once in the free list. The owner of a place is the prefix whose item stands there.
pub record Holds (k : Shape) (ws : List ℕ) (known : List ℕ → Option Item) : Type 0 where
  pub ranges : IsShape k
  pub buckets : ℕ → List Entry
  pub chained : (b : ℕ) → b < k.heads → Chain k ws (head_at k ws b) (buckets b)
  pub standing : (b : ℕ) → b < k.heads → AllByRecursion (Stands k ws known b) (buckets b)
  pub apart : (b : ℕ) → b < k.heads → Apart (buckets b)
  pub complete : (name : List ℕ) (it : Item) → known name ≡ Some it → Names name (buckets (bucket_of k name))
  pub owner : ℕ → Option (List ℕ)
  pub owned : (b : ℕ) → b < k.heads → AllByRecursion (λ (e : Entry). owner e.at ≡ Some e.name) (buckets b)
  pub mine : (i : ℕ) (name : List ℕ) → owner i ≡ Some name → HasEntry i name (buckets (bucket_of k name))
  pub free : List ℕ
  pub spare : Spare k ws (free_of ws) free
  pub unowned : AllByRecursion (λ (i : ℕ). (i < k.items) × (owner i ≡ None)) free
  pub unlike : Unlike free
  pub whole : (i : ℕ) → i < k.items → owner i ≡ None → Among i free
  pub counted : used_of ws + length free ≡ k.items

-- they hold some map
abbrev pub IsTrie : Shape → List ℕ → Type 0
IsTrie k ws = (known : List ℕ → Option Item) × Holds k ws known

-- what a look for a prefix answers
abbrev pub Looked : (List ℕ → Option Item) → List ℕ → Option ItemRow → Type 0
Looked known prefix None = known prefix ≡ None
Looked known prefix (Some row) = (it : Item) × (known prefix ≡ Some it) × Says row it × (row.len ≡ length prefix)

-- the link to the last of the entries, 0 where there are none
abbrev pub last_link : List Entry → ℕ
last_link [] = 0
last_link (e ∷ []) = e.at + 1
last_link (e ∷ f ∷ es) = last_link (f ∷ es)

-- the item of a prefix was found in its bucket, behind this one
pub record IsFound (k : Shape) (ws : List ℕ) (bucket : List Entry) (prefix : List ℕ) (found : Found) : Type 0 where
  pub front : List Entry
  pub back : List Entry
  pub whole : bucket ≡ front ++ record { at = found.at; name = prefix } ∷ back
  pub before : found.before ≡ last_link front
  pub row : found.item ≡ item_at k ws found.at

-- what a walk along the bucket of a prefix answers
abbrev pub Walked : (k : Shape) (ws : List ℕ) (known : List ℕ → Option Item) → Holds k ws known → List ℕ → Option Found → Type 0
Walked k ws known h prefix None = known prefix ≡ None
Walked k ws known h prefix (Some found) = IsFound k ws (h.buckets (bucket_of k prefix)) prefix found
