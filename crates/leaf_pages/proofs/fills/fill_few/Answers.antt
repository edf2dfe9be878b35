use Rattle.std.proofs.Common.{rules, ◌≡◌, ◌≢◌, ◌+◌, ◌-◌, ◌<◌, List, ℕ, length, get_or, take, drop, sym, ap, ◌∙◌, subst, arith}
use Rattle.std.specs.declared.cmp.Ordering.TheVariants.{Less, Greater}
use Rattle.key_bytes.specs.Bound.{bound_cmp}
use Rattle.key_bytes.specs.declared.bound.Bound.TheVariants.{At}
use Rattle.map_model.specs.Maps.{Pairs, IsMap, between}
use Rattle.map_model.specs.Places.{Pair}
use Rattle.map_model.proofs.Cuts.{end_within}
use Rattle.leaf_pages.proofs.Firsts.{next_above, next_within, next_pairs}
use Rattle.leaf_pages.proofs.fills.fill_few.Goals as goal

pub returns-then-stop-end-clause-within : goal.returns-then-stop-end-clause-within
returns-then-stop-end-clause-within c = end_within c.args.upto

-- what ends at the key of the first pair that is left out
at_next : (c : goal.Joined-upto-9) → (bound_cmp c.args.from.now (At c.in_ok-copy.field-0) ≡ Less) × (bound_cmp (At c.in_ok-copy.field-0) c.args.upto ≢ Greater)
    × (between c.args.leaf.now.map c.args.from.now (At c.in_ok-copy.field-0) ≡ take c.min.result (drop c.in_ok-start.start c.args.leaf.now.map))
at_next c =
    let m = c.args.leaf.now.map in
    let from = c.args.from.now in
    let upto = c.args.upto in
    let i = c.in_ok-start.start in
    let j = c.in_ok-start.end in
    let n : ℕ = c.min.result in
    let map = c.pairs_between.ensures.map in
    let up = subst IsMap map c.len.ensures.ascending in
    let x : Pair = (c.at.result.0.now, c.at.result.1.now) in
    let key : x.0 ≡ c.in_ok-copy.field-0 = search rules in
    let read : x ≡ get_or m (i + n) x = sym (c.at.ensures x) ∙ ap (λ (p : Pairs (List ℕ)). get_or p (i + n) x) map in
    let first = c.in_ok-start.ensures.in_range.0 in
    let last = c.in_ok-start.ensures.in_range.1 in
    let len : c.len.result ≡ length m = c.len.ensures.len ∙ ap length map in
    let before : i + n < j = omega (arith, c.if-stop-end.false) in
    let some : 0 < n = omega (arith, before, len, last, c.min.ensures, c.requires.some) in
    let is = c.in_ok-start.ensures.pairs in (
      ap (λ k. bound_cmp from (At k)) (sym key) ∙ next_above m up from upto i j n x is last some before read,
      (λ e. next_within m up from upto i j n x is last some before read (ap (λ k. bound_cmp (At k) upto) key ∙ e)),
      ap (λ k. between m from (At k)) (sym key) ∙ next_pairs m up from upto i j n x is last some before read,
    )

pub returns-clause-pairs : goal.returns-clause-pairs
returns-clause-pairs c =
    let i = c.in_ok-start.start in
    let n : ℕ = c.min.result in
    let count : i + n - i ≡ n = omega arith in
    c.in_ok-push_pairs-2.ensures.ok ∙ (ap (λ k. take k (drop i c.pairs_between.new.self.map)) count ∙ (ap (λ (p : Pairs (List ℕ)). take n (drop i p)) c.pairs_between.ensures.map ∙ sym (at_next c).2))

pub returns-clause-above : goal.returns-clause-above
returns-clause-above c = (at_next c).0

pub returns-clause-within : goal.returns-clause-within
returns-clause-within c = (at_next c).1
