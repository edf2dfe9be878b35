use Rattle.std.proofs.Common.{◌≡◌, ℕ, ◌+◌, [], ◌∷◌, ◌++◌, refl, ap, ◌∙◌}
use Rattle.board_rule.specs.declared.view.View.{View}
use Rattle.board_rule.specs.Rule.{table_at}
use Rattle.board_rule.specs.Passes.{view}
use Rattle.board_rule.specs.Steps.{pin_of}
use Rattle.twin_tables.specs.Reads.{read_by, IsWordOf}
use Rattle.twin_tables.specs.Lent.{pinned_shape, pinned_view}
use Rattle.twin_tables.specs.Lending.{looks_at_one}
use Rattle.twin_tables.proofs.Reading.{read-more}
use Rattle.twin_tables.proofs.pinned.Pinned.load.Goals as goal

pub returns-clause-read : goal.returns-clause-read
returns-clause-read c =
    let s = c.args.self.now in
    let k = pinned_shape s in
    let v = pinned_view s in
    let table = table_at k (pin_of v).table in
    let first : s.first ≡ table = s.first_is in
    ap (λ (u : View). read_by k (table_at k (pin_of u).table) u.looks) c.read.ensures.view
    ∙ (ap (λ (n : ℕ). read_by k table (v.looks ++ (n + c.args.i, c.read.result) ∷ [])) first ∙ read-more k table c.args.i c.read.result v.looks)

pub returns-clause-stays : goal.returns-clause-stays
returns-clause-stays c =
    let s = c.args.self.now in
    let k = pinned_shape s in
    let v = pinned_view s in
    let w = view c.read.new.pass in
    let t = (pin_of v).table in
    let e = c.read.ensures.view in
    let first : s.first ≡ table_at k t = s.first_is in
    record {
      name = refl;
      board = refl;
      lane = c.read.ensures.lane;
      only = record {
        same = record {
          grew = c.read.ensures.grew;
          sole = ap (λ (u : View). u.sole) e;
          drawn = ap (λ (u : View). u.drawn) e;
          room = ap (λ (u : View). u.room) e;
          given = ap (λ (u : View). u.given) e;
          seen = ap (λ (u : View). u.seen) e;
          met = ap (λ (u : View). u.met) e;
          ended = ap (λ (u : View). u.ended) e;
          held = ap (λ (u : View). u.held) e;
        };
        notes = ap (λ (u : View). u.notes) e;
        pin = ap (λ (u : View). u.pin) e;
        turn = ap (λ (u : View). u.turn) e;
        current = ap (λ (u : View). u.current) e;
        spare = ap (λ (u : View). u.spare) e;
        words = ap (λ (u : View). u.words) e;
      };
      looks = looks_at_one (IsWordOf k t) v w (s.first + c.args.i) c.read.result (ap (λ (u : View). u.looks) e) (c.args.i, c.requires, ap (λ (n : ℕ). n + c.args.i) first);
    }
