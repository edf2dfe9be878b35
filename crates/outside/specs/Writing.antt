-- What a write does to a sink that tells its bytes.
use Rattle.std.specs.Prelude.{◌≡◌, ℕ, Option, Some, None, List, ◌++◌}

-- where the sink tells, these bytes stand behind those written before
abbrev pub Wrote : Option (List ℕ) → Option (List ℕ) → List ℕ → Type 0
Wrote None new bytes = new ≡ None
Wrote (Some old) new bytes = new ≡ Some (old ++ bytes)
