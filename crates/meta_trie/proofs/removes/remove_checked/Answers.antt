use Rattle.std.proofs.Common.{sym}
use Rattle.meta_trie.proofs.Adding.{neighbour}
use Rattle.meta_trie.proofs.Laying.{link_fits}
use Rattle.meta_trie.proofs.Dropping.{shrinking_start, dropped_stands}
use Rattle.meta_trie.proofs.removes.remove_checked.Goals as goal

pub shrink-requires : goal.shrink-requires
shrink-requires g c =
    let A = c.requires.table.0 in
    let s = c.requires.table.1 in
    let p = c.requires.shrinks A s in
    rw c.saturating_sub-after.ensures (A, (c.args.leaf, (p.0, (p.1.0, (p.1.1, shrinking_start _ _ A c.args.left c.args.leaf p.0 c.args.anchor.now p.1.0 s p.1.1.at p.1.1.gone)))))

pub drop_row-requires-clause-left : goal.drop_row-requires-clause-left
drop_row-requires-clause-left g c =
    let A = c.requires.table.0 in
    let s = c.requires.table.1 in
    let p = c.requires.shrinks A s in
    rw c.shrink.ensures.shape (neighbour _ _ A c.args.left p.0 _ s p.1.1.at).live.0

pub drop_row-requires-clause-leaf : goal.drop_row-requires-clause-leaf
drop_row-requires-clause-leaf g c =
    let A = c.requires.table.0 in
    let s = c.requires.table.1 in
    let p = c.requires.shrinks A s in
    rw c.shrink.ensures.shape (neighbour _ _ A c.args.leaf c.args.anchor.now _ s p.1.1.gone).live.0

pub drop_row-requires-clause-next : goal.drop_row-requires-clause-next
drop_row-requires-clause-next g c =
    let A = c.requires.table.0 in
    let s = c.requires.table.1 in
    let p = c.requires.shrinks A s in
    rw c.shrink.ensures.shape (link_fits _ _ c.args.leaf c.args.anchor.now p.1.0 (neighbour _ _ A c.args.leaf c.args.anchor.now _ s p.1.1.gone) c.args.next (sym c.requires.next))

pub returns-clause-removed : goal.returns-clause-removed
returns-clause-removed g c = λ A s.
    let p = c.requires.shrinks A s in
    let shrunk = rw c.saturating_sub-after.ensures at c.shrink.ensures.shrunk in
    let dropped = rw c.shrink.ensures.shape at c.drop_row.ensures.words in
    dropped_stands _ _ A c.args.left c.args.leaf p.0 c.args.anchor.now p.1.0 s p.1.1.at p.1.1.gone (g.R.Rows.words c.shrink.new.rows) (g.R.Rows.words c.drop_row.new.rows) c.args.next c.args.front c.args.back p.1.1 c.requires.next c.shrink.ensures.rest
    (shrunk A c.args.leaf p.0 p.1.0 p.1.1 (shrinking_start _ _ A c.args.left c.args.leaf p.0 c.args.anchor.now p.1.0 s p.1.1.at p.1.1.gone)) dropped

pub returns-clause-stays : goal.returns-clause-stays
returns-clause-stays g c = g.met.R.Rows.stays_trans _ _ _ c.shrink.ensures.stays c.drop_row.ensures.stays
