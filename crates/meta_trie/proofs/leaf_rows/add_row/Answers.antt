use Rattle.std.proofs.Common.{arith, ◌∙◌}
use Rattle.meta_trie.proofs.Splicing.{row_added}
use Rattle.meta_trie.proofs.leaf_rows.add_row.Goals as goal

pub returns-clause-words : goal.returns-clause-words
returns-clause-words g c =
    let most = (g.met.R.Rows.ranges c.args.rows.now).leaves.1 in
    let s2 = rw c.put_row.ensures.shape at c.set_link.ensures.words in
    let s3 = rw (c.set_link.ensures.shape ∙ c.put_row.ensures.shape) at c.set_previous.ensures.words in
    row_added _ _ _ _ _ c.args.left c.args.leaf c.args.anchor.now c.args.next c.requires.apart c.requires.behind (omega (arith, most, c.requires.leaf)) c.put_row.ensures.words s2 s3
