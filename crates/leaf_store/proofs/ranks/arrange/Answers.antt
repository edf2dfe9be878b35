use Rattle.std.proofs.Common.{arith, ◌≡◌, ◌∙◌, length, get_or, sym, ap, inl, inr}
use Rattle.std.proofs.lemmas.Bool.{cases_lt}
use Rattle.std.proofs.lemmas.Grind.{get_or_default_zero}
use Rattle.leaf_store.proofs.Numbered.{numbered_differ, unsettled, unsettled_falls, own_kept}
use Rattle.leaf_store.proofs.Ranked.{length-ranks, rank_below, ranks_swapped, ranks_settled}
use Rattle.leaf_store.proofs.ranks.arrange.Goals as goal

pub index-requires : goal.index-requires
index-requires g c = omega (arith, length-ranks _ _ _ c.settled.invariant.ranks)

pub settled-preserved-then-rank-place : goal.settled-preserved-then-rank-place
settled-preserved-then-rank-place g c =
    let size = length-ranks _ _ _ c.settled.invariant.ranks in
    let rank = c.index.ensures ∙ get_or_default_zero c.settled.ranks.items c.settled.place c.index.result.now (omega (arith, size)) in
    record {
      ranks = c.settled.invariant.ranks;
      own = λ k lt. elim (cases_lt k c.settled.place) [
        | inl less ↦ c.settled.invariant.own k less
        | inr more ↦
            let same : k ≡ c.settled.place = omega arith in
            ap (λ j. get_or c.settled.ranks.items j 0) same ∙ (sym rank ∙ (c.if-rank-place.true ∙ sym same))
      ];
      in_range = omega arith;
      capacity = c.settled.invariant.capacity;
    }

pub swap-requires-clause-j_in_bounds : goal.swap-requires-clause-j_in_bounds
swap-requires-clause-j_in_bounds g c =
    let size = length-ranks _ _ _ c.settled.invariant.ranks in
    let rank = c.index.ensures ∙ get_or_default_zero c.settled.ranks.items c.settled.place c.index.result.now (omega (arith, size)) in
    let below = rank_below _ _ _ c.settled.invariant.ranks c.settled.place (omega arith) in
    omega (arith, rank, below)

pub swap-requires-else-rank-place-clause-i_in_bounds : goal.swap-requires-else-rank-place-clause-i_in_bounds
swap-requires-else-rank-place-clause-i_in_bounds g c = omega (arith, length-ranks _ _ _ c.settled.invariant.ranks)

pub swap-requires-else-rank-place-clause-j_in_bounds : goal.swap-requires-else-rank-place-clause-j_in_bounds
swap-requires-else-rank-place-clause-j_in_bounds g c =
    let size = length-ranks _ _ _ c.settled.invariant.ranks in
    let rank = c.index.ensures ∙ get_or_default_zero c.settled.ranks.items c.settled.place c.index.result.now (omega (arith, size)) in
    let below = rank_below _ _ _ c.settled.invariant.ranks c.settled.place (omega arith) in
    omega (arith, rank, below, size)

pub settled-smaller : goal.settled-smaller
settled-smaller g c =
    let size = length-ranks _ _ _ c.settled.invariant.ranks in
    let rank = c.index.ensures ∙ get_or_default_zero c.settled.ranks.items c.settled.place c.index.result.now (omega (arith, size)) in
    let below = rank_below _ _ _ c.settled.invariant.ranks c.settled.place (omega arith) in
    let falls = unsettled_falls c.settled.ranks.items (numbered_differ (length c.settled.rows.items) _ c.settled.invariant.ranks.places) c.settled.place c.index.result.now (omega (arith, size)) (omega (arith, rank, below, size)) (sym rank) c.if-rank-place.false in
    let now = ap (unsettled 0) c.swap-else-rank-place.ensures.items in
    let rows = c.swap.ensures.len in
    omega (arith, falls, now, rows)

pub settled-preserved : goal.settled-preserved
settled-preserved g c =
    let size = length-ranks _ _ _ c.settled.invariant.ranks in
    let rank = c.index.ensures ∙ get_or_default_zero c.settled.ranks.items c.settled.place c.index.result.now (omega (arith, size)) in
    let below = rank_below _ _ _ c.settled.invariant.ranks c.settled.place (omega arith) in
    record {
      ranks = rw (c.swap.ensures.items, c.swap-else-rank-place.ensures.items) (ranks_swapped _ _ _ c.settled.invariant.ranks c.settled.place c.index.result.now (omega arith) (omega (arith, rank, below)));
      own = λ k lt. ap (λ l. get_or l k 0) c.swap-else-rank-place.ensures.items ∙ own_kept c.settled.ranks.items (numbered_differ (length c.settled.rows.items) _ c.settled.invariant.ranks.places) c.settled.place c.index.result.now k (omega (arith, size)) (omega (arith, rank, below, size)) (sym rank) lt (c.settled.invariant.own k lt);
      in_range = (let rows = c.swap.ensures.len in omega (arith, rows));
      capacity = c.swap.ensures.capacity ∙ c.settled.invariant.capacity;
    }

pub returns-clause-rows : goal.returns-clause-rows
returns-clause-rows g c = ranks_settled _ _ _ c.settled.invariant.ranks (λ k lt. c.settled.invariant.own k (omega arith))
