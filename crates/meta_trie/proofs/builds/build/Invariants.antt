use Rattle.std.proofs.Common.{◌≡◌, take}
use Rattle.meta_trie.specs.Stands.{StandsFor}
use Rattle.meta_trie.proofs.builds.build.Given as goal

abbrev pub invariant-loop-i : goal.invariant-loop-i
invariant-loop-i g l = record {
  table : StandsFor (g.R.Rows.shape l.fn.rows) (g.R.Rows.words l.rows) (take l.i l.anchors);
  shape : g.R.Rows.shape l.rows ≡ g.R.Rows.shape l.fn.rows;
  stays : g.R.Rows.stays l.fn.rows l.rows;
}
