-- The lines of answers.
use Rattle.std.specs.Prelude.{ℕ, List, [], ◌∷◌, Bool, true, false, codes}
use Rattle.map_model.specs.declared.refusal.Again as again
use Rattle.map_model.specs.declared.refusal.Again.TheVariants.{Locked, Changed, Stale, Moved, Turn, Pinned, Bin, Filled}
use Rattle.map_model.specs.declared.refusal.Full as full
use Rattle.map_model.specs.declared.refusal.Full.TheVariants.{Values, Crowded}
use Rattle.line_protocol.specs.declared.fault.Fault.{Fault as Cause}
use Rattle.line_protocol.specs.declared.fault.Fault.TheVariants.{Command, Words, Key, Value as ValueFault, Limit, Line}
use Rattle.line_protocol.specs.declared.answer.Answer.{Answer}
use Rattle.line_protocol.specs.declared.answer.Answer.TheVariants.{New, Set, Value, Absent, Gone, End, Bye, Fault, Full, Again, NoMemory}
use Rattle.line_protocol.specs.ReplyLine.{number_line, word_line}

-- the line of a fault, with its number
abbrev pub fault_text : Cause → List ℕ
fault_text Command = number_line (codes "ERR 1 command") []
fault_text Words = number_line (codes "ERR 2 words") []
fault_text Key = number_line (codes "ERR 3 key") []
fault_text ValueFault = number_line (codes "ERR 4 value") []
fault_text Limit = number_line (codes "ERR 5 limit") []
fault_text Line = number_line (codes "ERR 6 line") []

-- the line of want of room
abbrev pub full_text : full.Full → List ℕ
full_text (Values drawn cap) = number_line (codes "FULL values") (drawn ∷ cap ∷ [])
full_text (Crowded count hard why) = number_line (codes "FULL crowded") (count ∷ hard ∷ [])

-- the line that tells who or what was in the way
abbrev pub again_text : again.Again → List ℕ
again_text (Locked leaf holder) = number_line (codes "AGAIN locked") (leaf ∷ holder ∷ [])
again_text (Changed leaf before after) = number_line (codes "AGAIN changed") (leaf ∷ before ∷ after ∷ [])
again_text (Stale leaf expected searched) = number_line (codes "AGAIN stale") (leaf ∷ expected ∷ searched ∷ [])
again_text (Moved first second) = number_line (codes "AGAIN moved") (first ∷ second ∷ [])
again_text (Turn holder) = number_line (codes "AGAIN turn") (holder ∷ [])
again_text (Pinned table pins) = number_line (codes "AGAIN pinned") (table ∷ pins ∷ [])
again_text (Bin holder) = number_line (codes "AGAIN bin") (holder ∷ [])
again_text (Filled leaf count hard) = number_line (codes "AGAIN filled") (leaf ∷ count ∷ hard ∷ [])

-- the line of a value that was found
abbrev pub value_line : List ℕ → List ℕ
value_line value = word_line (codes "VALUE") (value ∷ [])

-- the line of a pair of a scan
abbrev pub pair_line : List ℕ → List ℕ → List ℕ
pair_line key value = word_line (codes "PAIR") (key ∷ value ∷ [])

-- the line of an answer
abbrev pub text : Answer → List ℕ
text New = number_line (codes "NEW") []
text Set = number_line (codes "SET") []
text (Value value) = value_line value.now
text Absent = number_line (codes "NONE") []
text Gone = number_line (codes "GONE") []
text (End count) = number_line (codes "END") (count ∷ [])
text Bye = number_line (codes "BYE") []
text (Fault cause) = fault_text cause
text (Full cause) = full_text cause
text (Again cause) = again_text cause
text NoMemory = number_line (codes "NOMEM") []

-- whether the line is one of those that nearly all puts and dels have, with no number and no bytes of its own
abbrev pub is_whole : Answer → Bool
is_whole New = true
is_whole Set = true
is_whole (Value value) = false
is_whole Absent = true
is_whole Gone = true
is_whole (End count) = false
is_whole Bye = false
is_whole (Fault cause) = false
is_whole (Full cause) = false
is_whole (Again cause) = false
is_whole NoMemory = false
