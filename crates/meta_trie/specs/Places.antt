-- What a look for the place of a prefix's item answers.
use Rattle.std.specs.Prelude.{ℕ, ◌≡◌, ◌<◌, List, slice_index, Option, Some, None}
use Rattle.anchor_rules.specs.Items.{Item}
use Rattle.row_words.specs.declared.shape.Shape.{Shape}
use Rattle.row_words.specs.Decode.{item_at}
use Rattle.meta_trie.specs.declared.places.Place.{Place}
use Rattle.meta_trie.specs.Trie.{Says}

-- the item there says what is known of the prefix
abbrev pub StandsAt : Shape → List ℕ → (List ℕ → Option Item) → List ℕ → ℕ → Type 0
StandsAt k ws known prefix at = (it : Item) × (known prefix ≡ Some it) × Says (item_at k ws at) it

-- nothing is known of the prefix, or its item stands at the place, with these bits in the asked word
abbrev pub IsPlaced : Shape → List ℕ → (List ℕ → Option Item) → List ℕ → ℕ → Option Place → Type 0
IsPlaced k ws known prefix word None = known prefix ≡ None
IsPlaced k ws known prefix word (Some p) = (p.at < k.items) × (p.bits ≡ slice_index (item_at k ws p.at).bits word) × StandsAt k ws known prefix p.at
