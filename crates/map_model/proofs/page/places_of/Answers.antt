use Rattle.std.proofs.Common.{arith, sym, ap, ◌∙◌, slice_range, slice_index_or, []}
use Rattle.map_model.proofs.Pages.{cut-at, ends-at}
use Rattle.map_model.proofs.page.places_of.Goals as goal

pub returns-clause-pair : goal.returns-clause-pair
returns-clause-pair c =
    let e = slice_index_or c.args.ends.now c.args.i (0, 0) in
    cut-at c.args.bytes.now 0 c.args.ends.now c.args.i ([], []) (0, 0) c.requires.in_range
    ∙ ap (λ n. (slice_range c.args.bytes.now n e.0, slice_range c.args.bytes.now e.0 e.1)) (sym c.start_of.ensures)

pub returns-clause-ordered : goal.returns-clause-ordered
returns-clause-ordered c =
    let used = c.requires.ends.0 in
    let o = ends-at 0 c.args.ends.now used c.args.i (0, 0) c.requires.ends.1 c.requires.in_range in
    (rw c.start_of.ensures o.0, o.1, omega (arith, o.2, c.requires.ends.2))
