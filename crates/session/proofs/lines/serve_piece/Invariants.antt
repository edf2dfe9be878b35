use Rattle.std.proofs.Common.{◌≡◌, ◌≤◌, ◌-◌, ℕ, List, length, take, false}
use Rattle.line_reader.specs.Cut.{open_part}
use Rattle.line_reader.specs.Told.{Holds, told_lines}
use Rattle.map_model.specs.History.{Entry}
use Rattle.map_model.specs.Ordered.{Follows}
use Rattle.session.specs.Asked.{asked_by_all, has_quit}
use Rattle.session.specs.Transcripts.{Transcribes}
use Rattle.session.specs.Turns.{WrotePieces}
use Rattle.session.proofs.lines.serve_piece.Given as goal

-- the lines so far were served, none was the last, and the reader has the start of the next one
abbrev pub invariant-told : goal.invariant-told
invariant-told g l = record {
  within : l.at ≤ length l.piece;
  held : (part : List ℕ) → Holds l.fn.lines part → Holds l.lines (open_part part (take l.at l.piece));
  going : (part : List ℕ) → Holds l.fn.lines part → has_quit (asked_by_all (told_lines part (take l.at l.piece))) ≡ false;
  lane : g.O.Ordered.lane l.store ≡ g.O.Ordered.lane l.fn.store;
  sole : g.O.Ordered.sole l.store ≡ g.O.Ordered.sole l.fn.store;
  origin : g.O.Ordered.origin l.store ≡ g.O.Ordered.origin l.fn.store;
  forks : g.O.Ordered.room l.store ≡ g.O.Ordered.room l.fn.store;
  limit : g.P.Patience.limit l.patience ≡ g.P.Patience.limit l.fn.patience;
  fits : (history : List Entry) → g.O.Ordered.fits l.fn.store history → g.O.Ordered.fits l.store history;
  faults : g.K.Sink.faults l.fn.sink ≤ g.K.Sink.faults l.sink;
  connection : g.K.Sink.connection l.sink ≡ g.K.Sink.connection l.fn.sink;
  transcript : (part : List ℕ) → Holds l.fn.lines part → Follows (g.O.Ordered.stands l.fn.store) (g.O.Ordered.stands l.store)
      (Transcribes (g.P.Patience.limit l.fn.patience) (g.O.Ordered.lane l.fn.store) (g.O.Ordered.sole l.fn.store) (g.O.Ordered.fits l.fn.store) (g.O.Ordered.refusals l.fn.store) (g.O.Ordered.refusals l.store) (g.O.Ordered.last l.fn.store) (g.O.Ordered.last l.store)
      (λ asked. asked ≡ asked_by_all (told_lines part (take l.at l.piece))) (WrotePieces (g.K.Sink.written l.fn.sink) (g.K.Sink.written l.sink)));
}

abbrev pub decreases-told : goal.decreases-told
decreases-told g l = length l.piece - l.at
