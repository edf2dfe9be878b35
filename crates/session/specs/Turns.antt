-- How far the replies are written when more input is asked for, and when a session stops.
use Rattle.std.specs.Prelude.{◌≡◌, ◌≤◌, ℕ, Option, List, [], ◌++◌, length, Result, Ok, Err}
use mathlib.Core.List.{IsPrefix}
use Rattle.outside.specs.Writing.{Wrote}
use Rattle.line_protocol.specs.Requests.{Asked}
use Rattle.session.specs.Transcripts.{Exchange, asked_of, text_of}

-- All pieces but the last one were written whole, and these ask first for what the front asks for. Of the last one, the line at hand, some first bytes were written.
pub record IsTorn (before now : Option (List ℕ)) (front : List Asked) (pieces : List Exchange) : Type 0 where
  pub whole : List Exchange
  pub at_hand : List Exchange
  pub parts : pieces ≡ whole ++ at_hand
  pub one : length at_hand ≤ 1
  pub of_front : IsPrefix front (asked_of whole)
  pub some : List ℕ
  pub begins : IsPrefix some (text_of at_hand)
  pub wrote : Wrote before now (text_of whole ++ some)

-- the text of all pieces was written
abbrev pub WrotePieces : Option (List ℕ) → Option (List ℕ) → List Exchange → Type 0
WrotePieces before now pieces = Wrote before now (text_of pieces)

-- and so it was, or after a stop that of all but the line at hand
abbrev pub WritesPieces : {T E : Type 0} → Result T E → Option (List ℕ) → Option (List ℕ) → List Exchange → Type 0
WritesPieces (Ok x) before now pieces = WrotePieces before now pieces
WritesPieces (Err e) before now pieces = IsTorn before now [] pieces
