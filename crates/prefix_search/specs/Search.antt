-- What a search for a key in the rows of a table answers, and in how many steps.
use Rattle.std.specs.Prelude.{ℕ, ◌≡◌, ◌+◌, ◌*◌, ◌^◌, List, [], ◌∷◌, length, min, nat_le, Bool, false, if◌then◌else◌, Option, Some}
use Rattle.std.proofs.Common.{zero, suc}
use Rattle.anchor_rules.specs.Anchors.{Anchors, span, target}
use Rattle.anchor_rules.specs.Items.{Item, item, IsLongest, longest_anchor}
use Rattle.row_words.specs.declared.rows.ItemRow.{ItemRow}
use Rattle.meta_trie.specs.Trie.{Says}
use Rattle.prefix_search.specs.declared.answers.Located.{Located}

-- how many binary digits n has, none for 0: one more at each power of two
unfoldable pub digits : ℕ → ℕ
digits zero = 0
digits (suc n) = if nat_le (2 ^ digits n) (suc n) then digits n + 1 else digits n

-- the binary digits of the greatest length at which a prefix of the key can have an item
abbrev pub length_digits : Anchors → List ℕ → ℕ
length_digits A key = digits (min (length key) (longest_anchor A))

-- the most steps of a search for the leaf alone, where no more than chain prefixes of the anchors share a bucket
abbrev pub seek_bound : Anchors → List ℕ → ℕ → ℕ
seek_bound A key chain = (length_digits A key + 1) * chain + 2

-- and of one that reads the rows of the leaf and of the next one too
abbrev pub bound : Anchors → List ℕ → ℕ → ℕ
bound A key chain = (length_digits A key + 1) * chain + 4

-- the longest prefix of the key that has an item has this length, and the row says what its item tells
abbrev pub IsLongestOf : Anchors → List ℕ → ℕ → ItemRow → Type 0
IsLongestOf A key len row = (it : Item) × IsLongest A key len it × Says row it

-- the row says what the item of this prefix tells
abbrev pub Tells : Anchors → List ℕ → ItemRow → Type 0
Tells A prefix row = (it : Item) × (item A prefix ≡ Some it) × Says row it

-- the first of these bytes goes on from the prefix in an anchor
abbrev pub has_child : Item → List ℕ → Bool
has_child it [] = false
has_child it (c ∷ rest) = it.child c

-- this leaf's anchor is followed by that one, or by none
abbrev pub IsFollowed : Anchors → ℕ → Option (List ℕ) → Type 0
IsFollowed A leaf next = (anchor : List ℕ) × (span A leaf ≡ Some (anchor, next))

-- the leaf of the key, and the anchor that follows that leaf's, None exactly for the last one
pub record IsLocated (A : Anchors) (key : List ℕ) (located : Located) : Type 0 where
  pub leaf : located.leaf ≡ target A key
  pub next : IsFollowed A located.leaf located.next
