-- What a server did.
use Rattle.std.specs.Prelude.{◌≡◌, ◌≢◌, ◌⊎◌, ◌<◌, ◌≤◌, ◌+◌, ℕ, true, List, [], Option, Some, None}
use Rattle.board_rule.specs.Passes.{view}
use Rattle.board_rule.specs.declared.board.Pass.{Pass}
use Rattle.counts.specs.Counts.{RoseBy}
use Rattle.index_lane.specs.Causes.{Fits}
use Rattle.index_server.specs.Connections.{ServesClosed}
use Rattle.index_server.specs.Hands.{WorkersServe}
use Rattle.map_model.specs.History.{Entry, IsLegal}
use Rattle.map_model.specs.declared.refusal.Refusal.{Refusal}
use Rattle.outside.specs.Connections.{Connection}
use Rattle.row_words.specs.declared.shape.Shape.{Shape}
use Rattle.worm.specs.Runs.{IsUnrefused}

-- What a server closed, how often its lanes were refused, the last refusal of the first one, and what room for lanes and what history that had at its end.
pub record Served (k : Shape) (workers sessions status : ℕ) (closed_before closed_now : Option (List Connection)) (opened_before opened_now closings_before closings_now room refusals : ℕ) (last : Option Refusal) (seen : List Entry) : Type 0 where
  pub of_end : (status ≡ 0) ⊎ (status ≡ 5) ⊎ (status ≡ 6)
  pub legal : IsLegal seen
  -- it is done only where a number of sessions was asked for, and just as many connections were accepted and closed
  pub done : status ≡ 0 → (0 < sessions) × RoseBy sessions closings_before closings_now × (closings_now ≤ closings_before + sessions)
  pub accepted : status ≡ 0 → opened_now ≡ opened_before + sessions
  -- without memory for its workers it served nobody
  pub wanting : status ≡ 5 → (closed_now ≡ closed_before) × (opened_now ≡ opened_before) × (closings_now ≡ closings_before) × (seen ≡ [])
  -- one worker: what the lane had seen is cut into the sessions of the connections that were closed, in order, of which none tells that another lane was in the way, and want of room only where there is none
  pub alone : workers ≡ 1 → ServesClosed 0 true (Fits k) 0 refusals None last closed_before closed_now [] seen
  -- more: so many lanes served, the calls of each are cut, in order, into the sessions of its connections, and together these are as many as were closed
  pub shared : 1 < workers → status ≢ 5 → WorkersServe workers 0 k.lanes closings_before closings_now [] seen
  -- each worker took a lane of the index
  pub taken : status ≢ 5 → k.lanes ≡ room + workers

-- What a server did, by the pass that it returns. Without one it didn't listen, or no index could be made, and nobody was served.
abbrev pub ServedWith : Shape → ℕ → ℕ → ℕ → Option (List Connection) → Option (List Connection) → ℕ → ℕ → ℕ → ℕ → Option Pass → ℕ → Option Refusal → Type 0
ServedWith k workers sessions status closed_before closed_now opened_before opened_now closings_before closings_now None refusals last = ((status ≡ 5) ⊎ (status ≡ 6)) × (closed_now ≡ closed_before) × (opened_now ≡ opened_before) × (closings_now ≡ closings_before) × IsUnrefused refusals last
ServedWith k workers sessions status closed_before closed_now opened_before opened_now closings_before closings_now (Some pass) refusals last = Served k workers sessions status closed_before closed_now opened_before opened_now closings_before closings_now (view pass).room refusals last (view pass).seen
