-- Connections that were served one after another, each by a session over its bytes.
use Rattle.std.specs.Prelude.{◌≡◌, ℕ, List, [], ◌∷◌, ◌++◌, map, Bool, Option, Some, None}
use Rattle.line_protocol.specs.Requests.{Asked, request}
use Rattle.line_protocol.specs.Served.{served}
use Rattle.map_model.specs.History.{Entry}
use Rattle.map_model.specs.declared.refusal.Refusal.{Refusal}
use Rattle.outside.specs.Connections.{Connection}
use Rattle.session.specs.Sessions.{TakenBy, ServedBy, SaidBy}
use Rattle.session.specs.Transcripts.{Exchange, Transcribes, asked_of, text_of}
use Rattle.session.specs.declared.session.SessionEnd.{SessionEnd}
use Rattle.index_server.specs.declared.connection.TheConstants.{CONNECTION_BYTES}

-- The exchanges are those of the lines that a session with this end served of the bytes taken, and their text is what was written: all of it, or some first bytes.
pub record IsSession (c : Connection) (end : SessionEnd) (pieces : List Exchange) : Type 0 where
  pub lines : List (List ℕ)
  pub taken : TakenBy end CONNECTION_BYTES c.taken c.ended
  pub of_all : ServedBy end (served c.taken c.ended) lines
  pub asked : asked_of pieces ≡ map request lines
  pub said : SaidBy end (Some []) (Some c.written) (text_of pieces)

-- The exchanges are cut, in order, into one session for each connection.
abbrev pub AreSessions : List Connection → List Exchange → Type 0
AreSessions [] pieces = pieces ≡ []
AreSessions (c ∷ connections) pieces =
    (end : SessionEnd) × (mine : List Exchange) × (others : List Exchange) × (pieces ≡ mine ++ others) × IsSession c end mine × AreSessions connections others

-- Where a door tells its closed connections, these stand behind those that it told before.
abbrev pub ClosedBehind : Option (List Connection) → Option (List Connection) → List Connection → Type 0
ClosedBehind before None closed = Unit {0}
ClosedBehind None (Some now) closed = ⊥
ClosedBehind (Some before) (Some now) closed = now ≡ before ++ closed

-- The exchanges are the sessions of the connections that were closed, in the order of closing.
abbrev pub AreClosed : Option (List Connection) → Option (List Connection) → List Exchange → Type 0
AreClosed before now pieces = (closed : List Connection) × ClosedBehind before now closed × AreSessions closed pieces

-- The history grew by the entries of the sessions of the connections that were closed, by a lane that never gave up.
abbrev pub ServesClosed : ℕ → Bool → (List Entry → Type 0) → ℕ → ℕ → Option Refusal → Option Refusal → Option (List Connection) → Option (List Connection) → List Entry → List Entry → Type 0
ServesClosed lane sole fits count next last_before last_now before now =
    Transcribes None lane sole fits count next last_before last_now (λ (asked : List Asked). Unit {0}) (AreClosed before now)
