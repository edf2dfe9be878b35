-- The ranges of a shape, as tests.
use Rattle.std.proofs.Common.{◌≡◌, ℕ, ◌≤◌, true, leb}
use Rattle.std.specs.Int.{is_in_range}
use Rattle.std.proofs.lemmas.Bool.{and_parts, and_from, leb-true, le-leb, ltb-true, lt-ltb, eqb-true, eq-eqb}
use Rattle.row_words.specs.Shape.{IsShape}
use Rattle.row_words.specs.declared.shape.Shape.{Shape}
use Rattle.command_line.specs.Options.{is_shape}

range_parts : (low high n : ℕ) → is_in_range low high n ≡ true → (low ≤ n) × (n ≤ high)
range_parts low high n within =
    let both = and_parts (leb low n) (leb n high) within in
    (leb-true low n both.0, leb-true n high both.1)

range_from : (low high n : ℕ) → (low ≤ n) × (n ≤ high) → is_in_range low high n ≡ true
range_from low high n within = and_from (leb low n) (leb n high) (le-leb low n within.0) (le-leb n high within.1)

pub ranges_from : (k : Shape) → is_shape k ≡ true → IsShape k
ranges_from k h =
    let all = and_parts _ _ h in
    let lanes = and_parts _ _ all.0 in
    let values = and_parts _ _ lanes.0 in
    let heads = and_parts _ _ values.0 in
    let items = and_parts _ _ heads.0 in
    let merge = and_parts _ _ all.1 in
    let most = and_parts _ _ merge.0 in
    let hard = and_parts _ _ most.0 in
    let soft = and_parts _ _ hard.0 in
    let soft_range = range_parts 2 1024 k.soft soft.1 in
    record {
      leaves = range_parts 1 65536 k.leaves items.0;
      items = range_parts 1 4194304 k.items items.1;
      heads = range_parts 1 1048576 k.heads heads.1;
      values = range_parts 1 262144 k.values values.1;
      lanes = range_parts 1 64 k.lanes lanes.1;
      soft = (eqb-true _ _ soft.0, soft_range.0, soft_range.1);
      hard = (ltb-true k.soft k.hard hard.1, leb-true k.hard 4096 most.1);
      merge_sum = leb-true k.merge_sum _ merge.1;
    }

pub ranges_to : (k : Shape) → IsShape k → is_shape k ≡ true
ranges_to k s =
    and_from _ _
    (and_from _ _
    (and_from _ _
    (and_from _ _
    (and_from _ _ (range_from 1 65536 k.leaves s.leaves) (range_from 1 4194304 k.items s.items))
    (range_from 1 1048576 k.heads s.heads))
    (range_from 1 262144 k.values s.values))
    (range_from 1 64 k.lanes s.lanes))
    (and_from _ _
    (and_from _ _
    (and_from _ _
    (and_from _ _ (eq-eqb _ _ s.soft.0) (range_from 2 1024 k.soft (s.soft.1, s.soft.2)))
    (lt-ltb k.soft k.hard s.hard.0))
    (le-leb k.hard 4096 s.hard.1))
    (le-leb k.merge_sum _ s.merge_sum))
