-- Why a put is refused.
use Rattle.std.specs.Prelude.{ℕ, ◌≡◌, ◌+◌, ◌-◌, ◌^◌, ◌≤◌, ◌⊎◌, List, min, Some}
use Rattle.map_model.specs.Calls.{Call, Get, Put, Del, Part}
use Rattle.map_model.specs.declared.refusal.Full.{Full}
use Rattle.map_model.specs.declared.refusal.Full.TheVariants.{Values, Crowded}
use Rattle.map_model.specs.declared.refusal.Refusal.{Refusal}
use Rattle.map_model.specs.declared.refusal.Refusal.TheVariants as refusals
use Rattle.leaf_table.specs.Table.{Table}
use Rattle.leaf_table.specs.Changes.{HasNoRoom}
use Rattle.solo_index.specs.Standing.{Store}
use Rattle.solo_index.specs.Tending.{leaf_of, HasAllValues, IsCrowded, Opens}

-- There is no room for a put of the key: there are as many values as there may be, or the key is new, its leaf has as many
-- keys as a leaf may have, and the table has no room for a split of it.
abbrev pub FullFor : Table → List ℕ → Full → Type 0
FullFor t key (Values drawn cap) = (drawn ≡ t.shape.values) × (cap ≡ t.shape.values) × HasAllValues t
FullFor t key (Crowded count hard why) = (count ≡ t.shape.hard) × (hard ≡ t.shape.hard) × (HasAllValues t → ⊥) × IsCrowded t key × HasNoRoom t (leaf_of t key) why

-- the refusal of each put where there are as many values as there may be
abbrev pub values_full : Table → Refusal
values_full t = refusals.Full (Values t.shape.values t.shape.values)

-- What is so where a key finds no room in its leaf: the table is as it was, unless it is told that memory was wanting.
abbrev pub LeavesCrowded : Table → Table → List ℕ → Refusal → Type 0
LeavesCrowded old new key (refusals.Again cause) = ⊥
LeavesCrowded old new key (refusals.Full (Values drawn cap)) = ⊥
LeavesCrowded old new key (refusals.Full (Crowded count hard why)) = (count ≡ old.shape.hard) × (hard ≡ old.shape.hard) × IsCrowded old key × HasNoRoom old (leaf_of old key) why × (new ≡ old)
LeavesCrowded old new key refusals.NoMemory = new ≡ old

-- What a refused put of the key says of the table before and after: without room it stays as it was. Want of memory is told
-- only where there is room for a value, and then a crowded leaf may have been split.
abbrev pub RefusesPut : Table → Table → List ℕ → Refusal → Type 0
RefusesPut old new key (refusals.Again cause) = ⊥
RefusesPut old new key (refusals.Full cause) = FullFor old key cause × (new ≡ old)
RefusesPut old new key refusals.NoMemory = (HasAllValues old → ⊥) × ((new ≡ old) ⊎ Opens old new key)

-- a refusal has its cause in the store before the call: it was a put, and there was no room for its key
abbrev pub Caused : Call → Store → Store → Refusal → Type 0
Caused (Put key value) old new (refusals.Full cause) = FullFor old.table key cause
Caused (Put key value) old new (refusals.Again cause) = ⊥
Caused (Put key value) old new refusals.NoMemory = ⊥
Caused (Get key) old new refusal = ⊥
Caused (Del key) old new refusal = ⊥
Caused (Part from upto) old new refusal = ⊥

-- A counted refusal raises the count, as far as it can tell, and is the last one; want of memory isn't counted.
abbrev pub IsNoted : Store → Store → Refusal → Type 0
IsNoted old new refusals.NoMemory = new ≡ old
IsNoted old new (refusals.Again cause) = (new.table ≡ old.table) × (old.refusals ≤ new.refusals) × (new.refusals ≡ min (old.refusals + 1) (2 ^ 64 - 1)) × (new.last ≡ Some (refusals.Again cause))
IsNoted old new (refusals.Full cause) = (new.table ≡ old.table) × (old.refusals ≤ new.refusals) × (new.refusals ≡ min (old.refusals + 1) (2 ^ 64 - 1)) × (new.last ≡ Some (refusals.Full cause))
