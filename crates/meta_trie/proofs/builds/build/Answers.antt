use Rattle.std.proofs.Common.{take, sym, ap, ◌∙◌, subst, refl, arith}
use Rattle.std.proofs.lemmas.List.{take_all}
use Rattle.row_words.specs.declared.shape.Shape.{Shape}
use Rattle.meta_trie.specs.Stands.{StandsFor}
use Rattle.meta_trie.specs.Fits.{AreLeavesBelow}
use Rattle.meta_trie.proofs.Building.{few_leaves, first_taken}
use Rattle.meta_trie.proofs.builds.build.Goals as goal

pub count_prefixes-needed-requires : goal.count_prefixes-needed-requires
count_prefixes-needed-requires g c =
    let below : AreLeavesBelow c.layout-shape.result.leaves c.args.anchors.now = c.if-not-leaves_below.ensures.below refl in
    let few = few_leaves c.layout-shape.result.leaves c.args.anchors.now c.len-used.ensures.anchors below in
    let leaves = ap (λ (k : Shape). k.leaves) c.layout-shape.ensures in
    let most = (g.met.R.Rows.ranges c.start.new.rows).leaves.1 in
    omega (arith, few, leaves, most)

pub loop-i-init : goal.loop-i-init
loop-i-init g c = record {
  table = subst (λ (k : Shape). StandsFor k (g.R.Rows.words c.start.new.rows) (take 1 c.args.anchors.now)) c.start.ensures.shape (subst (StandsFor (g.R.Rows.shape c.start.new.rows) (g.R.Rows.words c.start.new.rows)) (sym (first_taken c.args.anchors.now c.len-used.ensures.anchors.first c.requires.zero)) c.start.ensures.table);
  shape = c.start.ensures.shape;
  stays = c.start.ensures.stays;
}

pub loop-i-preserved : goal.loop-i-preserved
loop-i-preserved g c = record {
  table = rw c.loop-i.invariant.shape at c.add_next.ensures.table;
  shape = c.add_next.ensures.shape ∙ c.loop-i.invariant.shape;
  stays = g.met.R.Rows.stays_trans _ _ _ c.loop-i.invariant.stays c.add_next.ensures.stays;
}

pub returns-clause-ok : goal.returns-clause-ok
returns-clause-ok g c = subst (StandsFor (g.R.Rows.shape c.args.rows.now) (g.R.Rows.words c.loop-i.rows)) (take_all c.loop-i.i c.args.anchors.now (omega (arith, c.loop-i-test.false, c.len-i-end.ensures.len))) c.loop-i.invariant.table
