use Rattle.std.proofs.Common.{◌≡◌, ◌-◌, ℕ, List, length, arith, ◌∙◌, subst}
use Rattle.anchor_rules.specs.Items.{item}
use Rattle.row_words.specs.declared.shape.Shape.{Shape}
use Rattle.row_words.specs.declared.rows.Glance.TheVariants.{Hit}
use Rattle.row_words.specs.Decode.{head_at, Glanced}
use Rattle.meta_trie.specs.Trie.{bucket_of}
use Rattle.meta_trie.proofs.Walks.{walk_start, walk_used, walk_more, walk_here, walk_end, walk_room, walk_cost, walk_counts, bucket_short}
use Rattle.meta_trie.proofs.places.place_by_hash.Goals as goal

pub glance-requires-clause-used : goal.glance-requires-clause-used
glance-requires-clause-used g c =
    let w = c.loop-link.invariant.walk c.requires.table.0 c.requires.table.1 in
    rw (c.loop-link.invariant.shape, c.loop-link.invariant.words) (walk_used _ _ _ _ _ _ _ _ _ w.1 c.loop-link-test.true)

pub returns-in-Hit-clause-value : goal.returns-in-Hit-clause-value
returns-in-Hit-clause-value g c = λ A s.
    let w = c.loop-link.invariant.walk A s in
    let shape = c.loop-link.invariant.shape in
    let words = c.loop-link.invariant.words in
    let p = subst (λ (z : Shape × List ℕ). Glanced z.0 z.1 (c.loop-link.link - 1) c.args.prefix.now c.args.hash c.args.word (Hit c.in-Hit.bits)) (λ i. (shape i, words i)) c.in-Hit.ensures.value in
    let used = walk_used _ _ (item A) _ _ _ _ _ _ w.1 c.loop-link-test.true in
    (used.0, p.0, walk_here _ _ (item A) _ _ _ _ _ _ w.1 c.loop-link-test.true _ p.1)

pub returns-in-Hit-clause-cost : goal.returns-in-Hit-clause-cost
returns-in-Hit-clause-cost g c = λ A s most fits.
    let w = c.loop-link.invariant.walk A s in
    let counts = walk_counts _ _ (item A) _ _ _ _ _ _ w.1 c.loop-link-test.true in
    let short = bucket_short _ _ A s c.args.prefix.now most fits in
    omega (arith, counts, short, c.glance.ensures.steps)

pub loop-link-init : goal.loop-link-init
loop-link-init g c =
    let link : c.head-link.result ≡ head_at (g.R.Rows.shape c.args.rows.now) (g.R.Rows.words c.args.rows.now) (bucket_of (g.R.Rows.shape c.args.rows.now) c.args.prefix.now) = cc in
    record {
      words = c.head-link.ensures.words;
      counted = omega (arith, c.head-link.ensures.read);
      shape = c.head-link.ensures.shape;
      stays = c.head-link.ensures.stays;
      walk = λ A s. (0, rw link (walk_start _ _ (item A) s.trie c.args.prefix.now _));
    }

pub loop-link-smaller : goal.loop-link-smaller
loop-link-smaller g c =
    let s = c.requires.table.1 in
    let w = c.loop-link.invariant.walk c.requires.table.0 s in
    let room = walk_room _ _ _ s.trie _ _ _ _ _ w.1 c.loop-link-test.true in
    omega (arith, room, c.glance.ensures.steps)

pub loop-link-preserved : goal.loop-link-preserved
loop-link-preserved g c =
    let p = rw (c.loop-link.invariant.shape, c.loop-link.invariant.words) at c.in-Miss.ensures.value in
    record {
      words = c.glance.ensures.words ∙ c.loop-link.invariant.words;
      counted = omega (arith, c.glance.ensures.read, c.glance.ensures.steps, c.loop-link.invariant.counted);
      shape = c.glance.ensures.shape ∙ c.loop-link.invariant.shape;
      stays = g.met.R.Rows.stays_trans _ _ _ c.loop-link.invariant.stays c.glance.ensures.stays;
      walk = λ A s. let w = c.loop-link.invariant.walk A s in (c.loop-link.link, rw (p.0, c.glance.ensures.steps) (walk_more _ _ (item A) _ _ _ _ _ _ w.1 c.loop-link-test.true (λ of. p.1 (rw c.requires.hash of))));
    }

pub returns-clause-value : goal.returns-clause-value
returns-clause-value g c = λ A s.
    let w = rw c.loop-link-test.false at (c.loop-link.invariant.walk A s) in
    walk_end (g.R.Rows.shape c.args.rows.now) (g.R.Rows.words c.args.rows.now) (item A) _ c.args.prefix.now _ _ _ w.1

pub returns-clause-cost : goal.returns-clause-cost
returns-clause-cost g c = λ A s most fits.
    let w = c.loop-link.invariant.walk A s in
    let cost = walk_cost _ _ (item A) _ _ _ _ _ _ w.1 in
    let short = bucket_short _ _ A s c.args.prefix.now most fits in
    omega (arith, cost, short)
