-- Transcripts: what lines ask for, the entries of their calls, and the text that answers them.
use Rattle.std.specs.Prelude.{◌≡◌, ◌⊎◌, ℕ, List, [], ◌∷◌, ◌++◌, map, length, take, Bool, IsTrue, Option, Some, None, Ok, Err}
use Rattle.std.specs.List.{flat_map, sum_by}
use Rattle.counts.specs.Counts.{RoseBy}
use Rattle.key_bytes.specs.declared.bound.Bound.{Bound}
use Rattle.map_model.specs.Calls as calls
use Rattle.map_model.specs.History.{Entry, after, entry_of}
use Rattle.map_model.specs.Ordered.{Follows, Grows}
use Rattle.map_model.specs.Parts.{pairs_of}
use Rattle.map_model.specs.declared.refusal.Refusal.{Refusal}
use Rattle.map_model.specs.declared.refusal.Refusal.TheVariants.{Again, Full, NoMemory}
use Rattle.line_protocol.specs.declared.answer.Answer.TheVariants as answers
use Rattle.line_protocol.specs.declared.fault.RequestFault.TheVariants as faults
use Rattle.line_protocol.specs.declared.request.Request.TheVariants as asks
use Rattle.line_protocol.specs.Requests.{Asked, request}
use Rattle.line_protocol.specs.Texts.{text}
use Rattle.patience.specs.Patience.{owed_by, IsLast, MayTell}
use Rattle.session.specs.Replies.{reply_lines, refusal_line, pair_lines}
use Rattle.session.specs.Scans.{AreParts, is_done, EndsScan}

-- what a line asks for, the entries of its calls, the text that answers it, and the refusal that its last line tells, if it tells one
pub record Exchange : Type 0 where
  pub asked : Asked
  pub entries : List Entry
  pub text : List ℕ
  pub refused : Option Refusal

-- the call has one entry, and the line of its reply
pub record IsAnswered (call : calls.Call) (x : Exchange) : Type 0 where
  pub entry : Entry
  pub only : x.entries ≡ entry ∷ []
  pub called : entry.call ≡ call
  pub line : x.text ≡ reply_lines entry.reply
  pub none : x.refused ≡ None

-- There may be want of room for the call behind this history: only a put needs room, and while alone there is none for its entry.
abbrev pub HasNoRoom : ℕ → Bool → (List Entry → Type 0) → List Entry → calls.Call → Type 0
HasNoRoom lane sole fits seen (calls.Put key value) = IsTrue sole → fits (seen ++ entry_of lane seen (calls.Put key value) (calls.answer_of (after seen) (calls.Put key value)) ∷ []) → ⊥
HasNoRoom lane sole fits seen (calls.Get key) = ⊥
HasNoRoom lane sole fits seen (calls.Del key) = ⊥
HasNoRoom lane sole fits seen (calls.Part from upto) = ⊥

-- the refusal is for want of room
abbrev pub IsFull : Refusal → Type 0
IsFull (Full cause) = Unit {0}
IsFull (Again cause) = ⊥
IsFull NoMemory = ⊥

-- the call has no entry, and the line of a refusal
pub record IsRefused (limit : Option ℕ) (lane : ℕ) (sole : Bool) (fits : List Entry → Type 0) (seen : List Entry) (call : calls.Call) (x : Exchange) : Type 0 where
  pub refusal : Refusal
  pub none : x.entries ≡ []
  pub line : x.text ≡ refusal_line refusal
  pub told : x.refused ≡ Some refusal
  pub may : MayTell limit sole refusal
  pub room : IsFull refusal → HasNoRoom lane sole fits seen call

-- the scan has the entries of its parts, the lines of their first pairs, and the line of its end
pub record IsScanned (limit : Option ℕ) (sole : Bool) (from to : Bound) (most : ℕ) (x : Exchange) : Type 0 where
  pub last : Bound
  pub parts : AreParts from to most x.entries last
  pub line : List ℕ
  pub lines : x.text ≡ pair_lines (take most (pairs_of x.entries)) ++ line
  pub end : EndsScan limit sole (is_done last to most (length (pairs_of x.entries))) (length (take most (pairs_of x.entries))) line x.refused

-- there is no entry, and this text
pub record IsTold (said : List ℕ) (x : Exchange) : Type 0 where
  pub none : x.entries ≡ []
  pub line : x.text ≡ said
  pub untold : x.refused ≡ None

-- it was served behind this history
abbrev pub IsServedAs : Option ℕ → ℕ → Bool → (List Entry → Type 0) → List Entry → Exchange → Asked → Type 0
IsServedAs limit lane sole fits seen x (Ok None) = IsTold [] x
IsServedAs limit lane sole fits seen x (Ok (Some (asks.Put key value))) = IsAnswered (calls.Put key value) x ⊎ IsRefused limit lane sole fits seen (calls.Put key value) x
IsServedAs limit lane sole fits seen x (Ok (Some (asks.Get key))) = IsAnswered (calls.Get key) x ⊎ IsRefused limit lane sole fits seen (calls.Get key) x
IsServedAs limit lane sole fits seen x (Ok (Some (asks.Del key))) = IsAnswered (calls.Del key) x ⊎ IsRefused limit lane sole fits seen (calls.Del key) x
IsServedAs limit lane sole fits seen x (Ok (Some (asks.Scan from to most))) = IsScanned limit sole from to most x
IsServedAs limit lane sole fits seen x (Ok (Some asks.Quit)) = IsTold (text answers.Bye) x
IsServedAs limit lane sole fits seen x (Err (faults.Fault fault)) = IsTold (text (answers.Fault fault)) x
IsServedAs limit lane sole fits seen x (Err faults.NoMemory) = ⊥

abbrev pub IsServed : Option ℕ → ℕ → Bool → (List Entry → Type 0) → List Entry → Exchange → Type 0
IsServed limit lane sole fits seen x = IsServedAs limit lane sole fits seen x x.asked

-- each is served behind the entries of those before it
abbrev pub AreServed : Option ℕ → ℕ → Bool → (List Entry → Type 0) → List Entry → List Exchange → Type 0
AreServed limit lane sole fits seen [] = Unit {0}
AreServed limit lane sole fits seen (x ∷ pieces) = IsServed limit lane sole fits seen x × AreServed limit lane sole fits (seen ++ x.entries) pieces

abbrev pub asked_of : List Exchange → List Asked
asked_of pieces = map (λ (x : Exchange). x.asked) pieces

abbrev pub entries_of : List Exchange → List Entry
entries_of pieces = flat_map (λ (x : Exchange). x.entries) pieces

abbrev pub text_of : List Exchange → List ℕ
text_of pieces = flat_map (λ (x : Exchange). x.text) pieces

-- Lines, entries and output are cut into pieces, one for each line and in order, and each piece was served behind the entries of those before it.
pub record IsTranscript (limit : Option ℕ) (lane : ℕ) (sole : Bool) (fits : List Entry → Type 0) (seen : List Entry) (lines : List (List ℕ)) (entries : List Entry) (output : List ℕ) : Type 0 where
  pub pieces : List Exchange
  pub of_lines : asked_of pieces ≡ map request lines
  pub of_entries : entries_of pieces ≡ entries
  pub of_output : text_of pieces ≡ output
  pub each : AreServed limit lane sole fits seen pieces

-- how many refusals stand behind the last line of a piece
abbrev pub owed : Option ℕ → Exchange → ℕ
owed limit x = owed_by limit x.refused

-- the refusal that the last piece tells is the last one; without a piece, the last one stays
abbrev pub EndsLast : List Exchange → Option Refusal → Option Refusal → Type 0
EndsLast [] before now = now ≡ before
EndsLast (x ∷ []) before now = IsLast x.refused now
EndsLast (x ∷ y ∷ pieces) before now = EndsLast (y ∷ pieces) before now

-- The history grew by the entries of pieces that were served behind it: `asks` holds of what they asked, and `says` of the pieces.
-- The count of refusals rose as their lines owe, and a last line that tells a refusal tells the last one.
pub record Transcribes (limit : Option ℕ) (lane : ℕ) (sole : Bool) (fits : List Entry → Type 0) (count next : ℕ) (before now : Option Refusal) (asks : List Asked → Type 0) (says : List Exchange → Type 0) (old new : List Entry) : Type 0 where
  pub pieces : List Exchange
  pub asked : asks (asked_of pieces)
  pub said : says pieces
  pub grows : Grows lane sole (entries_of pieces) old new
  pub each : AreServed limit lane sole fits old pieces
  pub rose : RoseBy (sum_by (owed limit) pieces) count next
  pub ends : EndsLast pieces before now

-- the same over all histories that a store stands for, by the members of its trait
abbrev pub Serves : {S : Type 0} → (S → List Entry → Type 0) → (S → ℕ) → (S → Bool) → (S → List Entry → Type 0) → (S → ℕ) → (S → Option Refusal) → Option ℕ → S → S → (List Asked → Type 0) → (List Exchange → Type 0) → Type 0
Serves stands lane sole fits refusals last limit old new asks says =
    Follows (stands old) (stands new) (Transcribes limit (lane old) (sole old) (fits old) (refusals old) (refusals new) (last old) (last new) asks says)
