-- The options, and the numbers that they choose.
use Rattle.std.specs.Prelude.{ℕ, ◌==◌, ◌/◌, ◌%◌, ◌&&◌, Bool, true, false, nat_lt, nat_le, List, [], ◌∷◌, codes, Option, None, unwrap_or, if◌then◌else◌}
use Rattle.std.specs.List.{list_any, list_all}
use Rattle.std.specs.Int.{is_in_range}
use Rattle.std.specs.Str.{bytes_eq}
use Rattle.row_words.specs.declared.shape.Shape.{Shape}
use Rattle.command_line.specs.Number.{is_number, number}
use Rattle.command_line.specs.Marks.{Mark, Positional, Chosen, names}
use Rattle.command_line.specs.declared.field.Field.{Field}
use Rattle.command_line.specs.declared.field.Field.TheVariants.{Leaves, Items, Heads, Values, Lanes, Soft, Hard, MergeSum, Salt, Tries, Workers, Sessions}

-- the option of a field
abbrev pub name_of : Field → List ℕ
name_of Leaves = codes "--leaves"
name_of Items = codes "--items"
name_of Heads = codes "--heads"
name_of Values = codes "--values"
name_of Lanes = codes "--lanes"
name_of Soft = codes "--soft"
name_of Hard = codes "--hard"
name_of MergeSum = codes "--merge-sum"
name_of Salt = codes "--salt"
name_of Tries = codes "--tries"
name_of Workers = codes "--workers"
name_of Sessions = codes "--sessions"

-- all fields
abbrev pub fields : List Field
fields = Leaves ∷ Items ∷ Heads ∷ Values ∷ Lanes ∷ Soft ∷ Hard ∷ MergeSum ∷ Salt ∷ Tries ∷ Workers ∷ Sessions ∷ []

-- it is the option of a field
abbrev pub is_known : List ℕ → Bool
is_known name = list_any (λ f. bytes_eq name (name_of f)) fields

-- the values that the options give to a field
abbrev pub values : List Mark → Field → List (List ℕ)
values [] f = []
values (Positional word ∷ ms) f = values ms f
values (Chosen name value ∷ ms) f = if bytes_eq name (name_of f) then value ∷ values ms f else values ms f

-- there is none, or just one, and it is a number
abbrev pub is_choice : List (List ℕ) → Bool
is_choice [] = true
is_choice (value ∷ []) = is_number value
is_choice (value ∷ other ∷ more) = false

-- each option is the one of a field, and each field has at most one option, with a number
abbrev pub are_choices : List Mark → Bool
are_choices ms = list_all is_known (names ms) && list_all (λ f. is_choice (values ms f)) fields

-- the number of the first value
abbrev pub first_number : List (List ℕ) → Option ℕ
first_number [] = None
first_number (value ∷ more) = number value

-- the number that is chosen for a field
abbrev pub chosen : List Mark → Field → Option ℕ
chosen ms f = first_number (values ms f)

-- the numbers that stand where none are chosen
abbrev pub standard : Shape
standard = record { leaves = 2048; items = 262144; heads = 65536; values = 65536; lanes = 16; soft = 64; hard = 1024; merge_sum = 32; salt = 0 }

-- the shape that has the chosen numbers
abbrev pub shape_with : (Field → Option ℕ) → Shape
shape_with numbers = record {
  leaves = unwrap_or (numbers Leaves) standard.leaves;
  items = unwrap_or (numbers Items) standard.items;
  heads = unwrap_or (numbers Heads) standard.heads;
  values = unwrap_or (numbers Values) standard.values;
  lanes = unwrap_or (numbers Lanes) standard.lanes;
  soft = unwrap_or (numbers Soft) standard.soft;
  hard = unwrap_or (numbers Hard) standard.hard;
  merge_sum = unwrap_or (numbers MergeSum) standard.merge_sum;
  salt = unwrap_or (numbers Salt) standard.salt;
}

-- the sizes of a shape are in their ranges
abbrev pub has_sizes : Shape → Bool
has_sizes k =
    is_in_range 1 65536 k.leaves && is_in_range 1 4194304 k.items && is_in_range 1 1048576 k.heads
    && is_in_range 1 262144 k.values && is_in_range 1 64 k.lanes

-- so are its three bounds on the keys of a leaf
abbrev pub has_bounds : Shape → Bool
has_bounds k =
    k.soft % 2 == 0 && is_in_range 2 1024 k.soft && nat_lt k.soft k.hard && nat_le k.hard 4096
    && nat_le k.merge_sum (k.soft / 2)

-- every number of a shape is in its range; the salt may be any number
abbrev pub is_shape : Shape → Bool
is_shape k = has_sizes k && has_bounds k
