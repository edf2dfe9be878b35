-- What was written, and what was reached, by a call that may have stopped.
use Rattle.std.specs.Prelude.{◌≡◌, ℕ, Option, List, Result, Ok, Err}
use mathlib.Core.List.{IsPrefix}
use Rattle.outside.specs.Writing.{Wrote}

-- some first bytes of these were written, where the sink tells
abbrev pub WroteSome : Option (List ℕ) → Option (List ℕ) → List ℕ → Type 0
WroteSome before now text = (some : List ℕ) × IsPrefix some text × Wrote before now some

-- all bytes were written, or after a stop some first ones
abbrev pub Gained : {T E : Type 0} → Result T E → Option (List ℕ) → Option (List ℕ) → List ℕ → Type 0
Gained (Ok x) before now text = Wrote before now text
Gained (Err e) before now text = WroteSome before now text

-- all was reached, or after a stop some first part
abbrev pub Reaches : {T E X : Type 0} → Result T E → List X → List X → Type 0
Reaches (Ok x) all some = some ≡ all
Reaches (Err e) all some = IsPrefix some all
