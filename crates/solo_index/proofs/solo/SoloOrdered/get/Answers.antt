use Rattle.std.proofs.Common.{◌≡◌, Bool, true, false, Some, None, refl, sym, ap, List, ℕ, Option, []}
use Rattle.std.specs.Bool.{OnTrue, OnFalse}
use Rattle.map_model.specs.Calls.{found}
use Rattle.map_model.specs.Ordered.{got}
use Rattle.solo_index.specs.Standing.{Store}
use Rattle.solo_index.proofs.Steps.{table_read}
use Rattle.solo_index.proofs.solo.SoloOrdered.get.Goals as goal

answered : (b : Bool) (o : Option (List ℕ)) (out : List ℕ) → OnTrue b (o ≡ Some out) → OnFalse b ((o ≡ None) × (out ≡ [])) → got b out ≡ found o
answered true o out here gone = ap found (sym here)
answered false o out here gone = ap found (sym gone.0)

pub returns-clause-ok : goal.returns-clause-ok
returns-clause-ok c = table_read c.args.self.now.table c.look.new.self.table _ _ (ap (λ (s : Store). s.table) c.in_ok-look.ensures.same) refl (answered _ _ _ c.in_ok-look.ensures.found c.in_ok-look.ensures.absent)
