use Rattle.std.proofs.Common.{◌≡◌, ◌+◌, ◌≤◌, ◌<◌, ◌*◌, ℕ, List, [], length, slice_index_or, true, sym, ap, ◌∙◌, arith}
use Rattle.std.specs.List.{list_all}
use Rattle.line_protocol.specs.Escape.{is_plain}
use Rattle.session.proofs.PairLines.{line_within, plain_at}
use Rattle.session.proofs.writes.put_plain_pairs.Goals as goal

pub overflow_add-end-in-loop-i : goal.overflow_add-end-in-loop-i
overflow_add-end-in-loop-i c =
    let bound = line_within c.args.page.now.pairs c.args.count c.loop-i.i ([], []) (omega arith) c.requires.count in
    omega (arith, bound, ap length c.key-key.ensures, ap length c.value-value.ensures, c.requires.room)

pub overflow_add-end-in-loop-i-2 : goal.overflow_add-end-in-loop-i-2
overflow_add-end-in-loop-i-2 c =
    let bound = line_within c.args.page.now.pairs c.args.count c.loop-i.i ([], []) (omega arith) c.requires.count in
    omega (arith, bound, ap length c.key-key.ensures, ap length c.value-value.ensures, c.requires.room, c.loop-i.invariant.reached)

pub put_line-requires-clause-within : goal.put_line-requires-clause-within
put_line-requires-clause-within c =
    let bound = line_within c.args.page.now.pairs c.args.count c.loop-i.i ([], []) (omega arith) c.requires.count in
    omega (arith, bound, ap length c.key-key.ensures, ap length c.value-value.ensures, c.loop-i.invariant.reached, c.loop-i.invariant.room)

pub put_line-requires-clause-key : goal.put_line-requires-clause-key
put_line-requires-clause-key c =
    ap (list_all is_plain) c.key-key.ensures
    ∙ (plain_at c.args.page.now.pairs c.args.count c.loop-i.i ([], []) c.requires.plain (omega arith) (omega (arith, c.requires.count))).0

pub put_line-requires-clause-value : goal.put_line-requires-clause-value
put_line-requires-clause-value c =
    ap (list_all is_plain) c.value-value.ensures
    ∙ (plain_at c.args.page.now.pairs c.args.count c.loop-i.i ([], []) c.requires.plain (omega arith) (omega (arith, c.requires.count))).1
