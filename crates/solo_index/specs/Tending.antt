-- What a put and a del do to a table, and to the size of the key's leaf.
use Rattle.std.specs.Prelude.{ℕ, ◌≡◌, ◌≤◌, ◌⊎◌, List, length, Bool, true, false, is_some, is_none, Option, Some, None}
use Rattle.std.specs.Option.{option_map}
use Rattle.anchor_rules.specs.Anchors.{target}
use Rattle.leaf_spans.specs.declared.decisions.Side.{Side}
use Rattle.leaf_spans.specs.declared.decisions.Side.TheVariants.{Left, Right}
use Rattle.leaf_spans.specs.Tending.{AreMergeable, IsLarge}
use Rattle.map_model.specs.Maps.{Pairs, find, with, without}
use Rattle.leaf_table.specs.Table.{Table, size_at}
use Rattle.leaf_table.specs.Changes.{IsSplit, HasNoRoom, IsMerged}
use Rattle.solo_index.specs.declared.tending.Tended.{Tended}
use Rattle.solo_index.specs.declared.tending.Tended.TheVariants.{Nothing, Split, Refused, Merged, NoMemory}
use Rattle.solo_index.specs.declared.tending.Put.{Put}
use Rattle.solo_index.specs.declared.tending.Taken.{Taken}

-- the leaf of the key
abbrev pub leaf_of : Table → List ℕ → ℕ
leaf_of t key = target t.anchors key

-- there are as many keys as there may be
abbrev pub HasAllValues : Table → Type 0
HasAllValues t = length t.map ≡ t.shape.values

-- the key isn't there, and its leaf has as many keys as a leaf may have
pub record IsCrowded (t : Table) (key : List ℕ) : Type 0 where
  pub absent : find t.map key ≡ None
  pub full : size_at t (leaf_of t key) ≡ t.shape.hard

-- only the map changed, and it is this one now
pub record HasMap (old new : Table) (m : Pairs (List ℕ)) : Type 0 where
  pub shape : new.shape ≡ old.shape
  pub anchors : new.anchors ≡ old.anchors
  pub now : new.map ≡ m

-- a leaf with more keys than it should have is split once, where the table has room
abbrev pub TendsLarge : Table → Table → ℕ → Tended → Type 0
TendsLarge old new leaf Nothing = (size_at old leaf ≤ old.shape.soft) × (new ≡ old)
TendsLarge old new leaf Split = IsLarge (size_at old) old.shape.soft leaf × IsSplit old new leaf
TendsLarge old new leaf (Refused why) = IsLarge (size_at old) old.shape.soft leaf × HasNoRoom old leaf why × (new ≡ old)
TendsLarge old new leaf Merged = ⊥
TendsLarge old new leaf NoMemory = IsLarge (size_at old) old.shape.soft leaf × (new ≡ old)

-- a crowded leaf is split before its new key comes
abbrev pub Opens : Table → Table → List ℕ → Type 0
Opens old new key = (IsCrowded old key × IsSplit old new (leaf_of old key)) ⊎ ((IsCrowded old key → ⊥) × (new ≡ old))

-- A put: there was room for a value, a crowded leaf was split, the value was set at the key, and the key's leaf was tended.
pub record IsPut (old new : Table) (key value : List ℕ) (put : Put) : Type 0 where
  pub room : HasAllValues old → ⊥
  pub opened : Table
  pub opens : Opens old opened key
  pub was_new : put.new ≡ is_none (find old.map key)
  pub written : Table
  pub writes : HasMap opened written (with old.map key value)
  pub tends : TendsLarge written new (leaf_of written key) put.tended

-- the two leaves that are merged for a leaf's sake, by their sizes
abbrev pub IsPair : Table → ℕ → ℕ → ℕ → Type 0
IsPair t leaf left right = AreMergeable t.anchors (size_at t) t.shape.merge_sum leaf left right

-- a leaf and its neighbour on a side, the left one first
abbrev pub pair_on : ℕ → Option ℕ → Option ℕ → Option Side → Option (ℕ × ℕ)
pair_on leaf left right None = None
pair_on leaf left right (Some Right) = option_map (λ (other : ℕ). (leaf, other)) right
pair_on leaf left right (Some Left) = option_map (λ (other : ℕ). (other, leaf)) left

-- a leaf with few keys is merged with a neighbour, where there is one that will do
abbrev pub TendsSmall : Table → Table → ℕ → Tended → Type 0
TendsSmall old new leaf Nothing = ((left right : ℕ) → IsPair old leaf left right → ⊥) × (new ≡ old)
TendsSmall old new leaf Split = ⊥
TendsSmall old new leaf (Refused why) = ⊥
TendsSmall old new leaf Merged = (left : ℕ) × (right : ℕ) × IsPair old leaf left right × IsMerged old new left right
TendsSmall old new leaf NoMemory = ((left : ℕ) × (right : ℕ) × IsPair old leaf left right) × (new ≡ old)

-- a leaf is looked at only where it lost a key
abbrev pub TendsTaken : Bool → Table → Table → ℕ → Tended → Type 0
TendsTaken true old new leaf did = TendsSmall old new leaf did
TendsTaken false old new leaf did = (did ≡ Nothing) × (new ≡ old)

-- A del: the key was taken out, and its leaf was tended if the key was there.
pub record IsTaken (old new : Table) (key : List ℕ) (taken : Taken) : Type 0 where
  pub was_there : taken.gone ≡ is_some (find old.map key)
  pub written : Table
  pub writes : HasMap old written (without old.map key)
  pub tends : TendsTaken taken.gone written new (leaf_of written key) taken.tended
