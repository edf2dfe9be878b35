-- Which lane a line belongs to, and what becomes of an input's lines.
use Rattle.std.specs.Prelude.{◌≡◌, ◌<◌, ℕ, zero, suc, Bool, ◌==◌, ◌&&◌, nat_lt, nat_le, List, [], ◌∷◌, ◌++◌, length, codes, Option, None, Some, Vec, vec_len, if◌then◌else◌}
use Rattle.std.specs.List.{before_first, after_first, flat_map}
use Rattle.std.specs.Str.{all_ascii_digits}
use Rattle.std.specs.Str.Parse.{digits_value}
use Rattle.std.specs.declared.alloc.Global.{Global}
use Rattle.line_reader.specs.Told.{Told}
use Rattle.line_reader.specs.Told.Told.{Read, Long}
use Rattle.line_protocol.specs.Texts.{text}
use Rattle.line_protocol.specs.declared.answer.Answer.TheVariants as answers
use Rattle.line_protocol.specs.declared.fault.Fault.TheVariants as causes
use Rattle.lane_lines.specs.declared.dealt.Dealt.{Dealt}
use Rattle.lane_lines.specs.declared.lane_word.TheConstants.{LANE_DIGITS}

-- it is a space
abbrev pub is_space : ℕ → Bool
is_space b = b == 32

-- 1 to `LANE_DIGITS` decimal digits, of a value below the number of lanes
abbrev pub is_lane : ℕ → List ℕ → Bool
is_lane lanes word = nat_lt 0 (length word) && nat_le (length word) LANE_DIGITS && all_ascii_digits word && nat_lt (digits_value 10 word) lanes

-- the lane that a word names
abbrev pub lane_of_word : ℕ → List ℕ → Option ℕ
lane_of_word lanes word = if is_lane lanes word then Some (digits_value 10 word) else None

-- the lane that a line names, by what stands before its first space
abbrev pub lane_of : ℕ → List ℕ → Option ℕ
lane_of lanes line = lane_of_word lanes (before_first is_space line)

-- what a lane gets of a line: what stands behind the first space, and an LF, where the line names this lane
abbrev pub part_for : Option ℕ → ℕ → List ℕ → List ℕ
part_for None lane line = []
part_for (Some named) lane line = if named == lane then after_first is_space line ++ 10 ∷ [] else []

abbrev pub given_by : ℕ → ℕ → Told → List ℕ
given_by lanes lane (Read line) = part_for (lane_of lanes line) lane line
given_by lanes lane Long = []

-- the script of a lane: what it gets of each line, in order
abbrev pub script_of : ℕ → ℕ → List Told → List ℕ
script_of lanes lane told = flat_map (given_by lanes lane) told

-- the line that tells that a line names no lane; an empty one is skipped
abbrev pub fault_for : Option ℕ → List ℕ → List ℕ
fault_for None [] = []
fault_for None (b ∷ line) = codes "ERR 7 lane" ++ 10 ∷ []
fault_for (Some named) line = []

abbrev pub fault_by : ℕ → Told → List ℕ
fault_by lanes (Read line) = fault_for (lane_of lanes line) line
fault_by lanes Long = text (answers.Fault causes.Line)

-- the fault lines, in the order of the lines that they tell of
abbrev pub faults_of : ℕ → List Told → List ℕ
faults_of lanes told = flat_map (fault_by lanes) told

-- the bytes of the script at a place
abbrev pub script_at : List (Vec ℕ Global) → ℕ → List ℕ
script_at [] lane = []
script_at (script ∷ scripts) zero = script.items
script_at (script ∷ scripts) (suc lane) = script_at scripts lane

-- Each of so many lanes has its script of these lines, and the fault lines are theirs.
pub record IsDealt (lanes : ℕ) (told : List Told) (dealt : Dealt) : Type 0 where
  pub many : vec_len dealt.scripts ≡ lanes
  pub scripts : (lane : ℕ) → lane < lanes → script_at dealt.scripts.items lane ≡ script_of lanes lane told
  pub faults : dealt.faults.items ≡ faults_of lanes told

-- A lane's script goes on by these bytes, and all else stays.
pub record Gains (lane : ℕ) (bytes : List ℕ) (old new : Dealt) : Type 0 where
  pub many : vec_len new.scripts ≡ vec_len old.scripts
  pub mine : script_at new.scripts.items lane ≡ script_at old.scripts.items lane ++ bytes
  pub others : (other : ℕ) → (other ≡ lane → ⊥) → script_at new.scripts.items other ≡ script_at old.scripts.items other
  pub faults : new.faults.items ≡ old.faults.items
