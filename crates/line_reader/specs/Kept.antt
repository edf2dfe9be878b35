-- Lines that were kept, and the bytes of pieces.
use Rattle.std.specs.Prelude.{ℕ, List, map, Option, None, Some, Vec}
use Rattle.std.specs.List.{flat_map}
use Rattle.std.specs.declared.alloc.Global.{Global}
use Rattle.line_reader.specs.Told.{Told}
use Rattle.line_reader.specs.Told.Told.{Read, Long}

-- a line that was kept, or none in place of one that was too long
abbrev pub kept_line : Option (Vec ℕ Global) → Told
kept_line None = Long
kept_line (Some line) = Read line.items

-- all of them
abbrev pub kept_lines : List (Option (Vec ℕ Global)) → List Told
kept_lines lines = map kept_line lines

-- the bytes of all pieces, one behind another
abbrev pub joined : List (Vec ℕ Global) → List ℕ
joined pieces = flat_map (λ (piece : Vec ℕ Global). piece.items) pieces
