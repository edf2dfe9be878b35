use Rattle.std.proofs.Common.{◌≡◌, ◌+◌, ◌-◌, inl, ℕ, List, [], ◌∷◌, ◌++◌, length-drop, get_or, take, drop, arith, sym, ap, ◌∙◌}
use Rattle.std.proofs.lemmas.List.{get_or-drop}
use Rattle.map_model.specs.Maps.{Pairs}
use Rattle.leaf_pages.proofs.Taking.{take_push}
use Rattle.leaf_pages.proofs.fills.push_pairs.Goals as goal

pub loop-i-preserved : goal.loop-i-preserved
loop-i-preserved c =
    let m = c.args.leaf.now.map in
    let low = c.loop-i.invariant.low in
    let here = c.loop-i-test.true in
    let n = c.loop-i.i - c.args.start in
    let len = length-drop c.args.start m in
    let next : c.loop-i.i + 1 - c.args.start ≡ n + 1 = omega (arith, low) in
    let place : c.args.start + n ≡ c.loop-i.i = omega (arith, low) in
    let pair : get_or (drop c.args.start m) n ([], []) ≡ (c.bytes.result.now, c.get.result.now) =
    get_or-drop c.args.start m n ([], []) ∙ (ap (λ i. get_or m i ([], [])) place ∙ (c.at.ensures ([], []) ∙ (ap (λ (k : List ℕ). (k, c.at.result.1.now)) (sym c.bytes.ensures.bytes) ∙ ap (λ (v : List ℕ). (c.bytes.result.now, v)) (sym c.get.ensures)))) in
    record {
      low = omega (arith, low);
      high = inl (omega (arith, here));
      pairs = c.in_default.ensures.ok ∙ (ap (λ (p : Pairs (List ℕ)). p ++ (c.bytes.result.now, c.get.result.now) ∷ []) c.loop-i.invariant.pairs
          ∙ (ap (λ (p : List ℕ × List ℕ). take n (drop c.args.start m) ++ p ∷ []) (sym pair)
          ∙ (sym (take_push (drop c.args.start m) n ([], []) (omega (arith, len, here, low, c.requires.in_range))) ∙ ap (λ i. take i (drop c.args.start m)) (sym next))));
    }
