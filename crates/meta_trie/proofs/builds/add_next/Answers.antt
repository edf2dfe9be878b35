use Rattle.std.proofs.Common.{◌≡◌, ◌-◌, take, true, subst}
use Rattle.anchor_rules.specs.Anchors.{Anchors, anchor_at, leaf_at, splits}
use Rattle.meta_trie.specs.Stands.{StandsFor}
use Rattle.meta_trie.proofs.OnlyOne.{stands_only}
use Rattle.meta_trie.proofs.Building.{next_of, not_full}
use Rattle.meta_trie.proofs.builds.add_next.Goals as goal

pub add_counting-requires-clause-splits : goal.add_counting-requires-clause-splits
add_counting-requires-clause-splits g c =
    let n = next_of (g.R.Rows.shape c.args.rows.now) c.args.anchors.now c.args.i c.requires.anchors c.requires.some c.requires.within c.requires.fits.1 in
    rw (c.leaf-left.ensures, c.leaf-leaf.ensures, c.anchor-anchor.ensures) (λ B t. subst (λ (C : Anchors). splits C (leaf_at c.args.anchors.now (c.args.i - 1)) (anchor_at c.args.anchors.now c.args.i) (leaf_at c.args.anchors.now c.args.i) ≡ true) (stands_only _ _ (take c.args.i c.args.anchors.now) B c.requires.table t) n.splits_so)

pub unreachable-requires : goal.unreachable-requires
unreachable-requires g c =
    let n = next_of (g.R.Rows.shape c.args.rows.now) c.args.anchors.now c.args.i c.requires.anchors c.requires.some c.requires.within c.requires.fits.1 in
    let full = rw (c.leaf-left.ensures, c.anchor-anchor.ensures) at c.in-Err.ensures.full in
    not_full (g.R.Rows.shape c.args.rows.now) (take c.args.i c.args.anchors.now) (leaf_at c.args.anchors.now (c.args.i - 1)) (anchor_at c.args.anchors.now c.args.i) c.in-Err.field-0 n.fits (full (take c.args.i c.args.anchors.now) c.requires.table)

pub returns-clause-table : goal.returns-clause-table
returns-clause-table g c =
    let n = next_of (g.R.Rows.shape c.args.rows.now) c.args.anchors.now c.args.i c.requires.anchors c.requires.some c.requires.within c.requires.fits.1 in
    let ok = rw (c.leaf-left.ensures, c.leaf-leaf.ensures, c.anchor-anchor.ensures) at c.in-Ok.ensures.ok in
    subst (StandsFor _ _) n.longer (ok (take c.args.i c.args.anchors.now) c.requires.table)
