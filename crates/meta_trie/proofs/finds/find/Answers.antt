use Rattle.std.proofs.Common.{◌≡◌, arith, ◌∙◌}
use Rattle.row_words.specs.Decode.{head_at}
use Rattle.meta_trie.specs.Trie.{bucket_of}
use Rattle.meta_trie.proofs.Walks.{walk_start, walk_used, walk_more, walk_found, walk_end, walk_room, walk_cost, walk_counts}
use Rattle.meta_trie.proofs.finds.find.Goals as goal

pub probe-requires : goal.probe-requires
probe-requires g c = rw (c.loop-link.invariant.shape, c.loop-link.invariant.words) (walk_used _ _ _ _ _ _ _ _ _ (c.loop-link.invariant.walk c.requires.trie.0 c.requires.trie.1) c.loop-link-test.true)

pub returns-in-Same-clause-value : goal.returns-in-Same-clause-value
returns-in-Same-clause-value g c = λ known h.
    let p = rw (c.loop-link.invariant.shape, c.loop-link.invariant.words) at c.in-Same.ensures.value in
    walk_found _ _ known _ _ _ _ _ _ (c.loop-link.invariant.walk known h) _ _ c.loop-link-test.true p.1 p.0

pub returns-in-Same-clause-cost : goal.returns-in-Same-clause-cost
returns-in-Same-clause-cost g c = λ known h. rw c.probe.ensures.steps (walk_counts _ _ known _ _ _ _ _ _ (c.loop-link.invariant.walk known h) c.loop-link-test.true)

pub loop-link-init : goal.loop-link-init
loop-link-init g c =
    let link : c.head-link.result ≡ head_at (g.R.Rows.shape c.args.rows.now) (g.R.Rows.words c.args.rows.now) (bucket_of (g.R.Rows.shape c.args.rows.now) c.args.prefix.now) = cc in
    record {
      words = c.head-link.ensures.words;
      counted = omega (arith, c.head-link.ensures.read);
      shape = c.head-link.ensures.shape;
      stays = c.head-link.ensures.stays;
      walk = λ known h. rw link (walk_start _ _ known h c.args.prefix.now _);
    }

pub loop-link-smaller : goal.loop-link-smaller
loop-link-smaller g c =
    let room = walk_room _ _ _ c.requires.trie.1 _ _ _ _ _ (c.loop-link.invariant.walk c.requires.trie.0 c.requires.trie.1) c.loop-link-test.true in
    omega (arith, room, c.probe.ensures.steps)

pub loop-link-preserved : goal.loop-link-preserved
loop-link-preserved g c =
    let p = rw (c.loop-link.invariant.shape, c.loop-link.invariant.words) at c.in-Other.ensures.value in
    record {
      words = c.probe.ensures.words ∙ c.loop-link.invariant.words;
      counted = omega (arith, c.probe.ensures.read, c.probe.ensures.steps, c.loop-link.invariant.counted);
      shape = c.probe.ensures.shape ∙ c.loop-link.invariant.shape;
      stays = g.met.R.Rows.stays_trans _ _ _ c.loop-link.invariant.stays c.probe.ensures.stays;
      walk = λ known h. rw (p.0, c.probe.ensures.steps) (walk_more _ _ known _ _ _ _ _ _ (c.loop-link.invariant.walk known h) c.loop-link-test.true (λ of. p.1 (rw c.requires.hash of)));
    }

pub returns-clause-value : goal.returns-clause-value
returns-clause-value g c = λ known h. walk_end (g.R.Rows.shape c.args.rows.now) (g.R.Rows.words c.args.rows.now) known _ c.args.prefix.now _ _ _ (rw c.loop-link-test.false at (c.loop-link.invariant.walk known h))

pub returns-clause-cost : goal.returns-clause-cost
returns-clause-cost g c = λ known h. walk_cost _ _ known _ _ _ _ _ _ (c.loop-link.invariant.walk known h)
