-- What one ordered map alone answers to lines.
use Rattle.std.specs.Prelude.{◌≡◌, ◌⊎◌, ℕ, List, [], ◌∷◌, ◌++◌, codes, length, take, map, Bool, true, false, Option, Some, None, Ok, Err}
use mathlib.Core.List.{IsPrefix}
use Rattle.key_bytes.specs.declared.bound.Bound.{Bound}
use Rattle.map_model.specs.Maps.{Pairs, between}
use Rattle.map_model.specs.Calls as calls
use Rattle.outside.specs.Reading.{Told, Took, Ended}
use Rattle.outside.specs.Writing.{Wrote}
use Rattle.line_protocol.specs.declared.answer.Answer.TheVariants as answers
use Rattle.line_protocol.specs.declared.fault.RequestFault.TheVariants as faults
use Rattle.line_protocol.specs.declared.request.Request.TheVariants as asks
use Rattle.line_protocol.specs.Requests.{Asked, request}
use Rattle.line_protocol.specs.Served.{served}
use Rattle.line_protocol.specs.Texts.{text}
use Rattle.map_model.specs.declared.refusal.Refusal.{Refusal}
use Rattle.map_model.specs.declared.refusal.Refusal.TheVariants as refusals
use Rattle.session.specs.Sessions.{TakenBy}
use Rattle.session.specs.Replies.{reply_lines, refusal_line, pair_lines, end_line}
use Rattle.session.specs.declared.session.SessionEnd.{SessionEnd}
use Rattle.session.specs.declared.session.SessionEnd.TheVariants.{Quit, EndOfInput, ReadFault, WriteFault, NoMemory, Spent}

-- the lines of a scan's first pairs, and their number
abbrev pub scan_lines : Pairs (List ℕ) → Bound → Bound → ℕ → List ℕ
scan_lines m from to most = pair_lines (take most (between m from to)) ++ end_line (length (take most (between m from to)))

-- what a map answers
abbrev pub plain_answer : Pairs (List ℕ) → Asked → List ℕ
plain_answer m (Ok None) = []
plain_answer m (Ok (Some (asks.Put key value))) = reply_lines (calls.answer_of m (calls.Put key value))
plain_answer m (Ok (Some (asks.Get key))) = reply_lines (calls.answer_of m (calls.Get key))
plain_answer m (Ok (Some (asks.Del key))) = reply_lines (calls.answer_of m (calls.Del key))
plain_answer m (Ok (Some (asks.Scan from to most))) = scan_lines m from to most
plain_answer m (Ok (Some asks.Quit)) = text answers.Bye
plain_answer m (Err (faults.Fault fault)) = text (answers.Fault fault)
plain_answer m (Err faults.NoMemory) = []

-- the map afterwards
abbrev pub plain_map : Pairs (List ℕ) → Asked → Pairs (List ℕ)
plain_map m (Ok None) = m
plain_map m (Ok (Some (asks.Put key value))) = calls.map_after m (calls.Put key value)
plain_map m (Ok (Some (asks.Get key))) = m
plain_map m (Ok (Some (asks.Del key))) = calls.map_after m (calls.Del key)
plain_map m (Ok (Some (asks.Scan from to most))) = m
plain_map m (Ok (Some asks.Quit)) = m
plain_map m (Err fault) = m

-- the answers one behind another, from a map on
abbrev pub plain_from : Pairs (List ℕ) → List Asked → List ℕ
plain_from m [] = []
plain_from m (asked ∷ all) = plain_answer m asked ++ plain_from (plain_map m asked) all

-- the answers to lines, from the empty map on
abbrev pub plain_text : List (List ℕ) → List ℕ
plain_text lines = plain_from [] (map request lines)

-- what is written of an input that was read to its end
abbrev pub plain_output : List ℕ → List ℕ
plain_output bytes = plain_text (served bytes true)

-- nothing, or whole lines
abbrev pub IsLineStart : List ℕ → Type 0
IsLineStart front = (front ≡ []) ⊎ ((lines : List ℕ) × (front ≡ lines ++ 10 ∷ []))

-- a whole line of the text begins with the word
abbrev pub HasLine : List ℕ → List ℕ → Type 0
HasLine word text = (front : List ℕ) × (line : List ℕ) × (back : List ℕ) × IsLineStart front × (text ≡ front ++ (word ++ (line ++ 10 ∷ back)))

-- no line tells of want of room or of memory
pub record HasNoRefusal (text : List ℕ) : Type 0 where
  pub full : HasLine (codes "FULL") text → ⊥
  pub no_memory : HasLine (codes "NOMEM") text → ⊥

-- it is the line, or a first part, of a refusal for want of room or of memory, without its LF
abbrev pub IsTornRefusal : List ℕ → Type 0
IsTornRefusal torn = (refusal : Refusal) × (line : List ℕ) × (refusal_line refusal ≡ line ++ 10 ∷ []) × ((again : _) → refusal ≡ refusals.Again again → ⊥) × IsPrefix torn line

-- It is a first part of the plain text, or its whole lines are one, and behind them stands the torn line of a refusal.
abbrev pub BeginsPlain : List ℕ → List ℕ → Type 0
BeginsPlain written plain = IsPrefix written plain ⊎ ((front : List ℕ) × (torn : List ℕ) × (written ≡ front ++ torn) × IsLineStart front × IsPrefix front plain × IsTornRefusal torn)

-- What a session of one map alone wrote, by its end: the answers to all lines that it served, or the beginning of these after a stop.
abbrev pub PlainBy : SessionEnd → List ℕ → List ℕ → Type 0
PlainBy Quit bytes output = output ≡ plain_output bytes
PlainBy EndOfInput bytes output = output ≡ plain_output bytes
PlainBy ReadFault bytes output = output ≡ plain_text (served bytes false)
PlainBy WriteFault bytes output = BeginsPlain output (plain_output bytes)
PlainBy NoMemory bytes output = BeginsPlain output (plain_output bytes)
PlainBy (Spent taken) bytes output = output ≡ plain_text (served bytes false)

-- Bytes were taken and output was written by a session of one map alone, from the empty map on.
pub record PlainSession (end : SessionEnd) (budget : ℕ) (told_before told_now : Option Told) (written_before written_now : Option (List ℕ)) : Type 0 where
  pub bytes : List ℕ
  pub ended : Bool
  pub output : List ℕ
  pub took : Took told_before told_now bytes
  pub answered : Ended told_before told_now ended
  pub taken : TakenBy end budget bytes ended
  pub wrote : Wrote written_before written_now output
  pub plain : HasNoRefusal output → PlainBy end bytes output
