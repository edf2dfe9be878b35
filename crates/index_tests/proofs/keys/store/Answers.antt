use Rattle.std.proofs.Common.{◌≡◌, ℕ, ◌+◌, ◌≤◌, ◌<◌, length, cond, if◌then◌else◌, Bool, true, false, is_some, ap, ◌∙◌, arith}
use Rattle.map_model.specs.Maps.{find, with}
use Rattle.map_model.specs.Calls.{New, Set}
use Rattle.map_model.proofs.Lengths.{length_with}
use Rattle.index_tests.proofs.keys.store.Goals as goal

pub returns-in-Ok-reserve_one-clause-stored : goal.returns-in-Ok-reserve_one-clause-stored
returns-in-Ok-reserve_one-clause-stored c =
    let m = c.args.content.now.map in
    let key = c.args.key.now in
    let value = c.args.value.now in
    let stays = ap (λ x. x.map) c.in-Ok-reserve_one.ensures.stays in
    let same-key = c.in-Ok.ensures.copied in
    let same-value = c.in-Ok-copied.ensures.copied ∙ c.get.ensures in
    let map-is = c.insert_reserved.ensures.map ∙ (λ i. with (stays i) (same-key i) (same-value i)) in
    let there = c.is_some.ensures ∙ ap is_some (c.insert_reserved.ensures.old ∙ (λ i. find (stays i) (same-key i))) in
    let size = length_with m c.len.ensures.ascending key value in
    let room : length m < c.args.hard = let a = c.if-len-hard.false in let b = c.len.ensures.len in omega arith in
    (map-is, ap (λ b. if b then Set else New) there, at_most (is_some (find m key)) (ap length map-is ∙ size) room)
  where
    at_most : (b : Bool) {n m hard : ℕ} → n ≡ cond b m (m + 1) → m < hard → n ≤ hard
    at_most true e lt = omega arith
    at_most false e lt = omega arith
