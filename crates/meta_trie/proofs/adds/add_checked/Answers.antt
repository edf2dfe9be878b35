use Rattle.std.proofs.Common.{arith, sym, ◌∙◌}
use Rattle.meta_trie.proofs.Laying.{splittable, cut_grows, growing_start, laid_stands, new_count-at}
use Rattle.meta_trie.proofs.adds.add_checked.Goals as goal

pub lay_row-requires-clause-left : goal.lay_row-requires-clause-left
lay_row-requires-clause-left g c = (splittable _ _ c.requires.table.0 c.args.left c.args.anchor.now c.args.leaf c.requires.table.1 (c.requires.splits c.requires.table.0 c.requires.table.1) c.requires.leaf).beside.live.0

pub lay_row-requires-clause-next : goal.lay_row-requires-clause-next
lay_row-requires-clause-next g c = let p = splittable _ _ c.requires.table.0 c.args.left c.args.anchor.now c.args.leaf c.requires.table.1 (c.requires.splits c.requires.table.0 c.requires.table.1) c.requires.leaf in omega (arith, c.requires.next, p.fits)

pub lay_row-requires-clause-apart : goal.lay_row-requires-clause-apart
lay_row-requires-clause-apart g c = (splittable _ _ c.requires.table.0 c.args.left c.args.anchor.now c.args.leaf c.requires.table.1 (c.requires.splits c.requires.table.0 c.requires.table.1) c.requires.leaf).apart

pub lay_row-requires-clause-behind : goal.lay_row-requires-clause-behind
lay_row-requires-clause-behind g c = λ e. (splittable _ _ c.requires.table.0 c.args.left c.args.anchor.now c.args.leaf c.requires.table.1 (c.requires.splits c.requires.table.0 c.requires.table.1) c.requires.leaf).behind (sym c.requires.next ∙ e)

pub lay_row-requires-clause-few : goal.lay_row-requires-clause-few
lay_row-requires-clause-few g c = (splittable _ _ c.requires.table.0 c.args.left c.args.anchor.now c.args.leaf c.requires.table.1 (c.requires.splits c.requires.table.0 c.requires.table.1) c.requires.leaf).few

pub grow-requires : goal.grow-requires
grow-requires g c =
    let A = c.requires.table.0 in
    let s = c.requires.table.1 in
    let p = splittable _ _ A c.args.left c.args.anchor.now c.args.leaf s (c.requires.splits A s) c.requires.leaf in
    let grows = cut_grows _ _ A c.args.left c.args.anchor.now c.args.leaf s p.cut c.requires.key.1 c.requires.key.2 in
    let counts = c.requires.counts A p.cut.lo p.cut.hi s p.cut.at in
    let need = new_count-at A c.args.left p.cut.lo p.cut.hi c.args.anchor.now p.cut.at in
    let room = c.requires.room A s in
    rw c.lay_row.ensures.shape (A, (c.args.left, (p.cut.lo, (p.cut.hi, (grows, counts.0, counts.1, growing_start _ _ _ A c.args.left p.cut.lo p.cut.hi c.args.anchor.now c.args.leaf c.args.next s grows p.cut.new c.requires.leaf c.lay_row.ensures.words (omega (arith, need, room)))))))

pub returns-clause-added : goal.returns-clause-added
returns-clause-added g c = λ A s.
    let p = splittable _ _ A c.args.left c.args.anchor.now c.args.leaf s (c.requires.splits A s) c.requires.leaf in
    let grows = cut_grows _ _ A c.args.left c.args.anchor.now c.args.leaf s p.cut c.requires.key.1 c.requires.key.2 in
    let counts = c.requires.counts A p.cut.lo p.cut.hi s p.cut.at in
    let need = new_count-at A c.args.left p.cut.lo p.cut.hi c.args.anchor.now p.cut.at in
    let room = c.requires.room A s in
    let grown = rw c.lay_row.ensures.shape at c.grow.ensures.grown in
    let rest = rw c.lay_row.ensures.shape at c.grow.ensures.rest in
    let start = growing_start _ _ _ A c.args.left p.cut.lo p.cut.hi c.args.anchor.now c.args.leaf c.args.next s grows p.cut.new c.requires.leaf c.lay_row.ensures.words (omega (arith, need, room)) in
    laid_stands _ _ _ A c.args.left p.cut.lo p.cut.hi c.args.anchor.now c.args.leaf c.args.next s grows p.cut.new c.requires.leaf c.lay_row.ensures.words (g.R.Rows.words c.grow.new.rows) c.requires.next rest (grown A c.args.left p.cut.lo p.cut.hi grows counts.0 counts.1 start)
