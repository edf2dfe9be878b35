use Rattle.std.proofs.Common.{◌≡◌, ◌<◌, ◌+◌, ◌∙◌, ap, sym, refl, subst, arith, ℕ}
use Rattle.row_words.specs.declared.shape.Shape.{Shape}
use Rattle.map_model.specs.declared.refusal.Again.TheVariants.{Pinned}
use Rattle.board_rule.specs.Passes.{view}
use Rattle.twin_tables.specs.Turns.{HasTurn, SparePinned}
use Rattle.twin_tables.proofs.Sweeping.{sweeping_none, sweeping_loaded, sweeping_bare, sweeping_upto, sweeping_next, sweeping_pinned, sweeping_sole, sweeping_all, swept_grew}
use Rattle.twin_tables.proofs.turns.clear.Goals as goal

pub loop-lane-init : goal.loop-lane-init
loop-lane-init c = let k = c.args.board.now.shape in let some-lane = c.args.board.now.ranges.lanes.0 in record { of = c.requires.of; lane = refl; sweeping = sweeping_none k c.args.turn.now (view c.args.pass.now) (omega arith) c.requires.uncleared }

pub clear-found-requires-clause-of : goal.clear-found-requires-clause-of
clear-found-requires-clause-of c = c.loop-lane.invariant.of

pub clear-found-requires-clause-current : goal.clear-found-requires-clause-current
clear-found-requires-clause-current c = sweeping_loaded c.args.board.now.shape c.args.turn.now c.loop-lane.lane (view c.args.pass.now) c.requires.turn (view c.loop-lane.pass) c.loop-lane.invariant.sweeping

pub clear-found-requires-clause-spare : goal.clear-found-requires-clause-spare
clear-found-requires-clause-spare c = sweeping_bare c.args.board.now.shape c.args.turn.now c.loop-lane.lane (view c.args.pass.now) c.requires.turn (view c.loop-lane.pass) c.loop-lane.invariant.sweeping (subst (λ (k : Shape). c.loop-lane.lane < k.lanes) c.shape.ensures c.loop-lane-test.true)

pub clear-found-requires-clause-swept : goal.clear-found-requires-clause-swept
clear-found-requires-clause-swept c = sweeping_upto c.args.board.now.shape c.args.turn.now c.loop-lane.lane (view c.args.pass.now) c.requires.turn (view c.loop-lane.pass) c.loop-lane.invariant.sweeping (subst (λ (k : Shape). c.loop-lane.lane < k.lanes) c.shape.ensures c.loop-lane-test.true)

-- a lane has pinned the table
pinned : (c : goal.Then-found-table) → SparePinned c.args.board.now.shape c.args.turn.now (Pinned c.spare_table-table.result 1) (view c.args.pass.now) (view c.clear-found.new.pass)
pinned c =
    let k = c.args.board.now.shape in
    let n = c.args.turn.now in
    let v = view c.args.pass.now in
    let w = view c.clear-found.new.pass in
    subst (λ (t : ℕ). SparePinned k n (Pinned t 1) v w) (sym c.spare_table-table.ensures)
    (sweeping_pinned k n c.loop-lane.lane v c.requires.turn (view c.loop-lane.pass) c.loop-lane.invariant.sweeping c.loop-lane.pass.seat.me c.clear-found.new.pass.seat.me refl c.clear-found.result c.clear-found.ensures.view (subst (λ (x : Shape). c.loop-lane.lane < x.lanes) c.shape.ensures c.loop-lane-test.true)
    c.requires.uncleared (c.if-found-table.true ∙ ap (λ (t : ℕ). t + 1) c.spare_table-table.ensures))

pub returns-then-found-table-clause-lane : goal.returns-then-found-table-clause-lane
returns-then-found-table-clause-lane c = c.clear-found.ensures.lane ∙ c.loop-lane.invariant.lane

pub returns-then-found-table-clause-grew : goal.returns-then-found-table-clause-grew
returns-then-found-table-clause-grew c = swept_grew (view c.args.pass.now) (view c.clear-found.new.pass) _ _ _ (pinned c).look

pub returns-then-found-table-clause-has : goal.returns-then-found-table-clause-has
returns-then-found-table-clause-has c = subst (HasTurn c.args.turn.now) (sym (pinned c).look) c.requires.turn

pub returns-then-found-table-clause-refused : goal.returns-then-found-table-clause-refused
returns-then-found-table-clause-refused c = pinned c

pub returns-then-found-table-clause-sole : goal.returns-then-found-table-clause-sole
returns-then-found-table-clause-sole c sole bare =
    let k = c.args.board.now.shape in
    absurd (sweeping_sole k c.args.turn.now c.loop-lane.lane (view c.args.pass.now) c.requires.turn (view c.loop-lane.pass) c.loop-lane.invariant.sweeping c.loop-lane.pass.seat.me c.clear-found.new.pass.seat.me refl c.clear-found.result c.clear-found.ensures.view (subst (λ (x : Shape). c.loop-lane.lane < x.lanes) c.shape.ensures c.loop-lane-test.true)
    sole bare (c.if-found-table.true ∙ ap (λ (t : ℕ). t + 1) c.spare_table-table.ensures))

pub loop-lane-preserved : goal.loop-lane-preserved
loop-lane-preserved c =
    let k = c.args.board.now.shape in
    record {
      of = c.clear-found.ensures.of;
      lane = c.clear-found.ensures.lane ∙ c.loop-lane.invariant.lane;
      sweeping = sweeping_next k c.args.turn.now c.loop-lane.lane (view c.args.pass.now) c.requires.turn (view c.loop-lane.pass) c.loop-lane.invariant.sweeping c.loop-lane.pass.seat.me c.clear-found.new.pass.seat.me refl c.clear-found.result c.clear-found.ensures.view (subst (λ (x : Shape). c.loop-lane.lane < x.lanes) c.shape.ensures c.loop-lane-test.true)
          c.args.board.now.rows (λ e. c.if-found-table.false (e ∙ ap (λ (t : ℕ). t + 1) (sym c.spare_table-table.ensures)));
    }

pub returns-clause-of : goal.returns-clause-of
returns-clause-of c = c.loop-lane.invariant.of

pub returns-clause-lane : goal.returns-clause-lane
returns-clause-lane c = c.loop-lane.invariant.lane

pub returns-clause-grew : goal.returns-clause-grew
returns-clause-grew c = swept_grew (view c.args.pass.now) (view c.loop-lane.pass) _ _ _ c.loop-lane.invariant.sweeping.after

pub returns-clause-has : goal.returns-clause-has
returns-clause-has c = subst (HasTurn c.args.turn.now) (sym c.loop-lane.invariant.sweeping.after) c.requires.turn

pub returns-clause-cleared : goal.returns-clause-cleared
returns-clause-cleared c =
    let ended = c.loop-lane-test.false in
    let upto = c.loop-lane.auto.lane-end in
    let all : c.loop-lane.lane ≡ c.shape.result.now.lanes = omega arith in
    let range = c.args.board.now.ranges.lanes.0 in
    let some-lane : 0 < c.args.board.now.shape.lanes = omega arith in
    sweeping_all c.args.board.now.shape c.args.turn.now c.loop-lane.lane (view c.args.pass.now) c.requires.turn (view c.loop-lane.pass) c.loop-lane.invariant.sweeping some-lane (all ∙ ap (λ (k : Shape). k.lanes) c.shape.ensures)
