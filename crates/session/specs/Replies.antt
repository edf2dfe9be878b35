-- The lines that answer a call.
use Rattle.std.specs.Prelude.{ℕ, List, ◌++◌, length}
use Rattle.std.specs.List.{flat_map}
use Rattle.map_model.specs.Maps.{Pairs}
use Rattle.map_model.specs.Calls as calls
use Rattle.map_model.specs.declared.refusal.Refusal.{Refusal}
use Rattle.map_model.specs.declared.refusal.Refusal.TheVariants.{Again, Full, NoMemory}
use Rattle.line_protocol.specs.declared.answer.Answer.TheVariants as answers
use Rattle.line_protocol.specs.Texts.{text, value_line, pair_line}

-- the line of a refusal
abbrev pub refusal_line : Refusal → List ℕ
refusal_line (Again cause) = text (answers.Again cause)
refusal_line (Full cause) = text (answers.Full cause)
refusal_line NoMemory = text answers.NoMemory

-- the line that ends a scan of so many pairs
abbrev pub end_line : ℕ → List ℕ
end_line count = text (answers.End count)

-- a line for each pair
abbrev pub pair_lines : Pairs (List ℕ) → List ℕ
pair_lines pairs = flat_map (λ (p : List ℕ × List ℕ). pair_line p.0 p.1) pairs

-- the line of a reply, or the lines of its pairs
abbrev pub reply_lines : calls.Reply → List ℕ
reply_lines calls.New = text answers.New
reply_lines calls.Set = text answers.Set
reply_lines (calls.Value value) = value_line value
reply_lines calls.Absent = text answers.Absent
reply_lines calls.Gone = text answers.Gone
reply_lines (calls.Pairs pairs) = pair_lines pairs ++ end_line (length pairs)
