-- Which error a fault of the crates below becomes, and which a call may end with.
use Rattle.std.specs.Prelude.{ℕ, Bool, Option}
use Rattle.key_bytes.specs.declared.key.KeyFault.{KeyFault}
use Rattle.key_bytes.specs.declared.key.KeyFault.TheVariants as keys
use Rattle.row_words.specs.declared.shape.MakeFault.{MakeFault}
use Rattle.row_words.specs.declared.shape.MakeFault.TheVariants as makes
use Rattle.map_model.specs.declared.refusal.Refusal.{Refusal}
use Rattle.map_model.specs.declared.refusal.Refusal.TheVariants as refusals
use Rattle.map_model.specs.declared.refusal.ForkFault.{ForkFault}
use Rattle.map_model.specs.declared.refusal.ForkFault.TheVariants as forks
use Rattle.patience.specs.Patience.{MayTell}
use Rattle.muslinscree.specs.declared.error.Error.{Error}
use Rattle.muslinscree.specs.declared.error.Error.TheVariants as errors

abbrev pub of_key : KeyFault → Error
of_key keys.Empty = errors.EmptyKey
of_key (keys.TooLong len) = errors.LongKey len
of_key keys.NoMemory = errors.NoMemory

abbrev pub of_make : MakeFault → Error
of_make (makes.Shape field) = errors.Shape field
of_make makes.NoMemory = errors.NoMemory

abbrev pub of_refusal : Refusal → Error
of_refusal (refusals.Again cause) = errors.Again cause
of_refusal (refusals.Full cause) = errors.Full cause
of_refusal refusals.NoMemory = errors.NoMemory

abbrev pub of_fork : ForkFault → Error
of_fork (forks.Lanes given cap) = errors.Lanes given cap
of_fork forks.NoMemory = errors.NoMemory

-- a call ends for want of memory, for want of room, or for another lane: this only where patience has a limit and the store isn't alone
abbrev pub MayFail : Option ℕ → Bool → Error → Type 0
MayFail limit sole errors.EmptyKey = ⊥
MayFail limit sole (errors.LongKey len) = ⊥
MayFail limit sole (errors.Shape field) = ⊥
MayFail limit sole (errors.Again cause) = MayTell limit sole (refusals.Again cause)
MayFail limit sole (errors.Full cause) = Unit {0}
MayFail limit sole (errors.Lanes given cap) = ⊥
MayFail limit sole errors.NoMemory = Unit {0}

-- it isn't want of room
abbrev pub IsNotFull : Error → Type 0
IsNotFull errors.EmptyKey = Unit {0}
IsNotFull (errors.LongKey len) = Unit {0}
IsNotFull (errors.Shape field) = Unit {0}
IsNotFull (errors.Again cause) = Unit {0}
IsNotFull (errors.Full cause) = ⊥
IsNotFull (errors.Lanes given cap) = Unit {0}
IsNotFull errors.NoMemory = Unit {0}
