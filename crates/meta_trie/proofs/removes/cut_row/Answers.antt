use Rattle.std.proofs.Common.{arith, ◌∙◌}
use Rattle.meta_trie.proofs.Cutting.{row_cut}
use Rattle.meta_trie.proofs.removes.cut_row.Goals as goal

pub returns-clause-words : goal.returns-clause-words
returns-clause-words g c =
    let most = (g.met.R.Rows.ranges c.args.rows.now).leaves.1 in
    let s2 = rw c.set_link.ensures.shape at c.set_previous.ensures.words in
    let s3 = rw (c.set_previous.ensures.shape ∙ c.set_link.ensures.shape) at c.set_link-2.ensures.words in
    row_cut _ _ _ _ _ c.args.left c.args.leaf c.args.next (omega (arith, most, c.requires.left)) (omega (arith, most, c.requires.next)) c.set_link.ensures.words s2 s3
