-- The commands by their names, and the options of each.
use Rattle.std.specs.Prelude.{ℕ, Bool, true, false, not, ◌||◌, List, [], ◌∷◌, codes, Option, None, Some, is_some, if◌then◌else◌}
use Rattle.std.specs.List.{list_all}
use Rattle.std.specs.Str.{bytes_eq}
use Rattle.command_line.specs.declared.field.Field.{Field}
use Rattle.command_line.specs.declared.field.Field.TheVariants.{Leaves, Items, Heads, Values, Lanes, Soft, Hard, MergeSum, Salt, Tries, Workers, Sessions}
use Rattle.command_line.specs.declared.verb.Verb.{Verb}
use Rattle.command_line.specs.declared.verb.Verb.TheVariants as verbs

-- the command that a word names
abbrev pub verb_of : List ℕ → Option Verb
verb_of word =
    if bytes_eq word (codes "run") then Some verbs.Run
    else if bytes_eq word (codes "lanes") then Some verbs.Lanes
    else if bytes_eq word (codes "serve") then Some verbs.Serve
    else if bytes_eq word (codes "fill") then Some verbs.Fill
    else None

abbrev pub is_lanes : Verb → Bool
is_lanes verbs.Run = false
is_lanes verbs.Lanes = true
is_lanes verbs.Serve = false
is_lanes verbs.Fill = false

abbrev pub is_serve : Verb → Bool
is_serve verbs.Run = false
is_serve verbs.Lanes = false
is_serve verbs.Serve = true
is_serve verbs.Fill = false

-- the table of options: those of a shape are every command's, and each other one has its row
abbrev pub has : Verb → Field → Bool
has v Leaves = true
has v Items = true
has v Heads = true
has v Values = true
has v Lanes = true
has v Soft = true
has v Hard = true
has v MergeSum = true
has v Salt = true
has v Tries = is_lanes v
has v Workers = is_serve v
has v Sessions = is_serve v

-- an option that was chosen is the command's
abbrev pub allows : Verb → (Field → Option ℕ) → Field → Bool
allows v numbers f = has v f || not (is_some (numbers f))

-- so are all of them
abbrev pub suits : Verb → (Field → Option ℕ) → Bool
suits v numbers = list_all (allows v numbers) (Tries ∷ Workers ∷ Sessions ∷ [])
