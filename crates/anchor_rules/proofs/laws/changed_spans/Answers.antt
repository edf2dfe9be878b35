use Rattle.std.proofs.Common.{◌≡◌, Some, sym, ap, ◌∙◌}
use Rattle.key_bytes.proofs.Conditions.{some_same}
use Rattle.anchor_rules.specs.Anchors.{Span}
use Rattle.anchor_rules.proofs.Edits.{split_left, split_right, split_else, merge_left, merge_right, merge_else}
use Rattle.anchor_rules.proofs.Parts.{cut, meet}
use Rattle.anchor_rules.proofs.laws.changed_spans.Goals as goal

pub returns-clause-split : goal.returns-clause-split
returns-clause-split c A left anchor right s are can is =
    let new = (cut A left anchor right can).new in
    (split_left A left anchor right s.0 s.1 is, split_right A left anchor right s.0 s.1 new is)

pub returns-clause-split_others : goal.returns-clause-split_others
returns-clause-split_others c A left anchor right other nl nr = split_else A left anchor right other nl nr

pub returns-clause-merge : goal.returns-clause-merge
returns-clause-merge c A left right s t are next is then =
    let m = meet A left right are.rises next in
    let low : (m.low, Some m.middle) ≡ s = some_same (m.low, Some m.middle) s (sym m.left ∙ is) in
    let high : (m.middle, m.high) ≡ t = some_same (m.middle, m.high) t (sym m.right ∙ then) in (
      merge_left left right m.apart m.low m.middle m.high A are.rises m.left m.right ∙ (ap (λ (x : Span). Some (x.0, m.high)) low ∙ ap (λ (x : Span). Some (s.0, x.1)) high),
      merge_right A right are.rises,
    )

pub returns-clause-merge_others : goal.returns-clause-merge_others
returns-clause-merge_others c A left right other are next nl nr =
    let m = meet A left right are.rises next in
    merge_else left right m.apart m.low m.middle m.high A other are.rises m.left m.right nl nr
