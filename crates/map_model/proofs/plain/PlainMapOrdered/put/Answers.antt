use Rattle.std.proofs.Common.{◌≡◌, Bool, true, false, None, sym, ap, List, ℕ, Option, IsSome, cond, is_some}
use Rattle.std.specs.Bool.{OnTrue, OnFalse}
use Rattle.map_model.specs.Calls.{New, Set}
use Rattle.map_model.specs.Ordered.{was_put}
use Rattle.map_model.proofs.PlainHistories.{plain_enters_only}
use Rattle.map_model.proofs.plain.PlainMapOrdered.put.Goals as goal

answered : (b : Bool) (o : Option (List ℕ)) → OnTrue b (o ≡ None) → OnFalse b (IsSome o) → was_put b ≡ cond (is_some o) Set New
answered true o here gone = ap (λ w. cond (is_some w) Set New) (sym here)
answered false o here gone = ap (λ w. cond w Set New) (sym gone)

pub returns-clause-ok : goal.returns-clause-ok
returns-clause-ok c = plain_enters_only _ _ _ _ c.in_ok-set.ensures.map (answered _ _ c.in_ok-set.ensures.new c.in_ok-set.ensures.old)
