use Rattle.std.proofs.Common.{[], ◌∷◌, List, sym, ap, ◌∙◌, subst}
use Rattle.atomic_table.specs.Table.{opening}
use Rattle.lane_stores.specs.Rule.{Map, first_view, Kept}
use Rattle.lane_stores.proofs.Keeping.{begins}
use Rattle.lane_stores.proofs.shared.SharedMap.make.Goals as goal

pub new-requires-2 : goal.new-requires-2
new-requires-2 c = subst (λ (maps : List Map). Kept c.args.lanes (opening (0 ∷ []) maps (first_view c.args.lanes))) (sym (c.in_ok-maps.ensures.items ∙ ap (λ (map : Map). map ∷ []) c.new.ensures.empty)) (begins c.args.lanes c.requires)
