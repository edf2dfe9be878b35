use Rattle.std.proofs.Common.{arith, ◌≡◌, ◌∙◌, ap, map, length, get_or, sym}
use Rattle.std.proofs.Math.ListN.{length-set}
use Rattle.std.proofs.lemmas.List.{length-map, get_or-map}
use Rattle.leaf_store.proofs.Numbered.{length-numbered, numbered_below}
use Rattle.leaf_store.proofs.Ranked.{ranks_from, scattered}
use Rattle.leaf_store.proofs.ranks.ranks_of.Goals as goal

pub overflow_cast-rank : goal.overflow_cast-rank
overflow_cast-rank g c =
    let a = length-map c.in_ok-keys.keys.items (λ p. p.1) in
    let b = length-numbered (length c.args.rows.now) _ c.in_ok-keys.ensures.order.places in
    omega (arith, a, b, c.in_ok-keys.ensures.small)

pub index_mut-requires : goal.index_mut-requires
index_mut-requires g c =
    let keys = c.in_ok-keys.keys.items in
    let a = length-map keys (λ p. p.1) in
    let b = length-numbered (length c.args.rows.now) _ c.in_ok-keys.ensures.order.places in
    let at : get_or (map (λ p. p.1) keys) c.loop-rank.rank 0 ≡ c.index.result.now.1 = get_or-map (λ p. p.1) keys c.loop-rank.rank c.index.result.now 0 (omega arith) ∙ ap (λ p. p.1) (sym c.index.ensures) in
    let below = numbered_below (length c.args.rows.now) _ c.in_ok-keys.ensures.order.places c.loop-rank.rank (omega (arith, a, b)) in
    let size = c.loop-rank.invariant.size in
    omega (arith, a, b, at, below, size)

pub loop-rank-preserved : goal.loop-rank-preserved
loop-rank-preserved g c =
    let keys = c.in_ok-keys.keys.items in
    let a = length-map keys (λ p. p.1) in
    let b = length-numbered (length c.args.rows.now) _ c.in_ok-keys.ensures.order.places in
    let at : get_or (map (λ p. p.1) keys) c.loop-rank.rank 0 ≡ c.index.result.now.1 = get_or-map (λ p. p.1) keys c.loop-rank.rank c.index.result.now 0 (omega arith) ∙ ap (λ p. p.1) (sym c.index.ensures) in
    let size = c.loop-rank.invariant.size in
    record {
      size = length-set c.loop-rank.ranks.items c.index.result.now.1 c.loop-rank.rank ∙ size;
      ranks = scattered (map (λ p. p.1) keys) c.loop-rank.ranks.items (length c.args.rows.now) c.loop-rank.rank c.index.result.now.1 c.in_ok-keys.ensures.order.places (omega (arith, a, b, size)) (omega (arith, a, b)) at c.loop-rank.invariant.ranks;
    }

pub returns : goal.returns
returns g c =
    let a = length-map c.in_ok-keys.keys.items (λ p. p.1) in
    let b = length-numbered (length c.args.rows.now) _ c.in_ok-keys.ensures.order.places in
    let size = c.loop-rank.invariant.size in
    ranks_from c.args.rows.now (map (λ p. p.1) c.in_ok-keys.keys.items) c.loop-rank.ranks.items c.requires c.in_ok-keys.ensures.order (omega (arith, a, b, size)) (λ k lt. c.loop-rank.invariant.ranks k (omega (arith, a, b)))
