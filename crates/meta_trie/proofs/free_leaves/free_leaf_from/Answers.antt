use Rattle.std.proofs.Common.{◌≡◌, ℕ, List, get_or, arith, refl, sym, ap, ◌∙◌, below_more}
use Rattle.row_words.specs.declared.shape.Shape.{Shape}
use Rattle.row_words.specs.Layout.{leaf_word}
use Rattle.row_words.specs.Decode.{mark_at}
use Rattle.meta_trie.proofs.LeafRows.{leaf_dead, leaf_lives, leaves_fit, live_leaf}
use Rattle.meta_trie.proofs.free_leaves.free_leaf_from.Goals as goal

pub loop-leaf-init : goal.loop-leaf-init
loop-leaf-init g c =
    let s = c.requires.table.1 in
    record {
      live = λ leaf l e. let live = live_leaf (g.R.Rows.shape c.args.rows.now) (g.R.Rows.words c.args.rows.now) c.requires.table.0 0 leaf s.chained (c.requires.live c.requires.table.0 s leaf l) in omega (arith, live.1, e);
      words = refl;
      shape = refl;
      stays = g.met.R.Rows.stays_refl _;
    }

pub loop-leaf-preserved : goal.loop-leaf-preserved
loop-leaf-preserved g c =
    let at : c.leaf_word-row.result ≡ leaf_word (g.R.Rows.shape c.args.rows.now) c.loop-leaf.leaf = c.leaf_word-row.ensures ∙ ap (λ (k : Shape). leaf_word k c.loop-leaf.leaf) c.layout-shape.ensures in
    let mark : c.word.result ≡ mark_at (g.R.Rows.shape c.args.rows.now) (g.R.Rows.words c.args.rows.now) c.loop-leaf.leaf = cc in
    record {
      live = below_more _ _ c.loop-leaf.invariant.live (λ e. c.if-word-eq0.false (mark ∙ e));
      words = c.word.ensures.words ∙ c.loop-leaf.invariant.words;
      shape = c.word.ensures.shape ∙ c.loop-leaf.invariant.shape;
      stays = g.met.R.Rows.stays_trans _ _ _ c.loop-leaf.invariant.stays c.word.ensures.stays;
    }

pub returns-then-word-eq0-clause-ok : goal.returns-then-word-eq0-clause-ok
returns-then-word-eq0-clause-ok g c =
    let at : c.leaf_word-row.result ≡ leaf_word (g.R.Rows.shape c.args.rows.now) c.loop-leaf.leaf = c.leaf_word-row.ensures ∙ ap (λ (k : Shape). leaf_word k c.loop-leaf.leaf) c.layout-shape.ensures in
    let mark : c.word.result ≡ mark_at (g.R.Rows.shape c.args.rows.now) (g.R.Rows.words c.args.rows.now) c.loop-leaf.leaf = cc in
    let items : c.layout-shape.result.leaves ≡ (g.R.Rows.shape c.args.rows.now).leaves = ap (λ (k : Shape). k.leaves) c.layout-shape.ensures in
    λ A s. record {
      in_range = omega (arith, items, c.loop-leaf-test.true);
      dead = leaf_dead _ _ A c.loop-leaf.leaf s (sym mark ∙ c.if-word-eq0.true);
      least = λ lower l. leaf_lives _ _ A lower s (omega (arith, l, items, c.loop-leaf-test.true)) (c.loop-leaf.invariant.live lower l);
    }

pub overflow_cast-used : goal.overflow_cast-used
overflow_cast-used g c =
    let s = c.requires.table.1 in
    let fit = leaves_fit _ _ c.requires.table.0 s in
    let most = s.trie.ranges.leaves.1 in
    let used : c.word-used.result ≡ get_or (g.R.Rows.words c.args.rows.now) 3 0 = c.word-used.ensures.value ∙ ap (λ (w : List ℕ). get_or w 3 0) c.loop-leaf.invariant.words in
    omega (arith, fit, most, used, s.live)

pub returns-clause-full : goal.returns-clause-full
returns-clause-full g c =
    let used : c.word-used.result ≡ get_or (g.R.Rows.words c.args.rows.now) 3 0 = c.word-used.ensures.value ∙ ap (λ (w : List ℕ). get_or w 3 0) c.loop-leaf.invariant.words in
    let leaves : c.layout-shape.result.leaves ≡ (g.R.Rows.shape c.args.rows.now).leaves = ap (λ (k : Shape). k.leaves) c.layout-shape.ensures in
    λ A s. (used ∙ s.live, leaves, λ leaf l. leaf_lives _ _ A leaf s l (c.loop-leaf.invariant.live leaf (omega (arith, l, leaves, c.loop-leaf-test.false))))
