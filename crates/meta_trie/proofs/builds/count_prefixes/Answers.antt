use Rattle.std.proofs.Common.{◌≡◌, ◌<◌, ◌≤◌, ◌+◌, ◌-◌, ℕ, List, length, drop, arith, ap, ◌∙◌}
use Rattle.key_bytes.specs.Common.{lcp}
use Rattle.anchor_rules.specs.Anchors.{anchor_at}
use Rattle.meta_trie.specs.Stands.{fresh_count}
use Rattle.meta_trie.proofs.Building.{counting, fresh_first, fresh_done, some_anchor, lcp_within}
use Rattle.meta_trie.proofs.builds.count_prefixes.Goals as goal

pub overflow_sub-count : goal.overflow_sub-count
overflow_sub-count c = let w = lcp_within c.anchor.result.now c.anchor-anchor.result.now in omega (arith, c.lcp.ensures, w)

pub overflow_add-count : goal.overflow_add-count
overflow_add-count c =
    let lt : c.loop-i.i < length c.args.anchors.now = omega (arith, c.loop-i-test.true, c.len-i-end.ensures.len) in
    let n = counting c.args.anchors.now c.loop-i.i c.loop-i.count c.len-i-end.ensures.short c.requires lt c.loop-i.invariant in
    let a = ap length c.anchor-anchor.ensures in
    let same : c.lcp.result ≡ lcp (anchor_at c.args.anchors.now (c.loop-i.i - 1)) (anchor_at c.args.anchors.now c.loop-i.i) = c.lcp.ensures ∙ ap (λ (b : List ℕ). lcp b c.anchor-anchor.result.now) c.anchor.ensures ∙ ap (lcp (anchor_at c.args.anchors.now (c.loop-i.i - 1))) c.anchor-anchor.ensures in
    omega (arith, n.more, n.few, a, same)

pub loop-i-init : goal.loop-i-init
loop-i-init c = let e = fresh_first c.args.anchors.now c.len-i-end.ensures.anchors.first in omega (arith, e)

pub loop-i-preserved : goal.loop-i-preserved
loop-i-preserved c =
    let lt : c.loop-i.i < length c.args.anchors.now = omega (arith, c.loop-i-test.true, c.len-i-end.ensures.len) in
    let n = counting c.args.anchors.now c.loop-i.i c.loop-i.count c.len-i-end.ensures.short c.requires lt c.loop-i.invariant in
    let a = ap length c.anchor-anchor.ensures in
    let same : c.lcp.result ≡ lcp (anchor_at c.args.anchors.now (c.loop-i.i - 1)) (anchor_at c.args.anchors.now c.loop-i.i) = c.lcp.ensures ∙ ap (λ (b : List ℕ). lcp b c.anchor-anchor.result.now) c.anchor.ensures ∙ ap (lcp (anchor_at c.args.anchors.now (c.loop-i.i - 1))) c.anchor-anchor.ensures in
    let here : c.loop-i.i ≡ c.loop-i.i + 1 - 1 = omega arith in
    let rest = ap (λ (j : ℕ). fresh_count (anchor_at c.args.anchors.now j) (drop (c.loop-i.i + 1) c.args.anchors.now)) here in
    omega (arith, n.more, a, same, rest)

pub returns : goal.returns
returns c =
    let some = some_anchor c.args.anchors.now c.len-i-end.ensures.anchors.first in
    let le : length c.args.anchors.now ≤ c.loop-i.i = omega (arith, c.loop-i-test.false, c.len-i-end.ensures.len) in
    let done = fresh_done (anchor_at c.args.anchors.now (c.loop-i.i - 1)) c.args.anchors.now c.loop-i.i le in
    omega (arith, c.loop-i.invariant, done)
