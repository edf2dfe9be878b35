use Rattle.std.specs.Option.{option_map}
use Rattle.leaf_spans.proofs.Partners.{partner_right, partner_left, let_be, let_alone}
use Rattle.leaf_spans.proofs.laws.chosen_neighbours.Goals as goal

pub returns-clause-right : goal.returns-clause-right
returns-clause-right c A size merge_sum leaf right left are behind chosen = partner_right A are.rises size merge_sum leaf (option_map size left) right behind chosen

pub returns-clause-left : goal.returns-clause-left
returns-clause-left c A size merge_sum leaf left right are before behind chosen = partner_left A are.rises size merge_sum leaf left right before behind chosen

pub returns-clause-none : goal.returns-clause-none
returns-clause-none c A size soft merge_sum leaf left right are before behind wish chosen = let_alone A are.rises size merge_sum leaf soft left right wish before behind chosen

pub returns-clause-nothing : goal.returns-clause-nothing
returns-clause-nothing c A size soft merge_sum leaf are wish = let_be A are.rises size merge_sum leaf soft wish
