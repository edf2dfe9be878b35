-- Why a call is refused stands behind one more look, at the lanes given.
use Rattle.std.proofs.Common.{◌≡◌, ◌∙◌, ⊎_elim, ℕ, List, ap, inl, inr, subst}
use Rattle.key_bytes.specs.declared.bound.Bound.{Bound}
use Rattle.row_words.specs.declared.shape.Shape.{Shape}
use Rattle.map_model.specs.Calls.{Get, Part}
use Rattle.map_model.specs.Maps.{Pairs}
use Rattle.map_model.specs.declared.refusal.Again.{Again as Hindrance}
use Rattle.map_model.specs.declared.refusal.Refusal.TheVariants as refusals
use Rattle.board_rule.specs.declared.view.View.{View}
use Rattle.board_rule.specs.Views.{GIVEN, looked}
use Rattle.worm_index.specs.Causes.{IsGetFault}
use Rattle.worm_index.specs.Parts.{IsFewEnd, IsPartFault}
use Rattle.worm_index.specs.declared.faults.GetFault.{GetFault}
use Rattle.worm_index.specs.declared.faults.GetFault.TheVariants as gets
use Rattle.worm_index.specs.declared.parts.PartFault.{PartFault}
use Rattle.worm_index.specs.declared.parts.PartFault.TheVariants as parts
use Rattle.index_lane.specs.Causes.{IsRefused}

module _ (v u w : View) (given : ℕ) (is : w ≡ looked GIVEN given u) (k : Shape) (lane : ℕ) where
  pub get_look : (key : List ℕ) (room : ℕ) (fault : GetFault) (again : Hindrance) → fault ≡ gets.Again again → IsGetFault k key lane room v u fault → IsRefused k lane (Get key) v w (refusals.Again again)
  get_look key room fault again same h = (u, given, is, subst (IsGetFault k key lane room v u) same h)

  pub part_look : (from upto : Bound) (fault : PartFault) (again : Hindrance) → fault ≡ parts.Again again → IsPartFault k from lane v u fault → IsRefused k lane (Part from upto) v w (refusals.Again again)
  part_look from upto fault again same h = (u, given, is, subst (IsPartFault k from lane v u) same h)

  -- where a part ends
  pub few_look : (from to : Bound) (most wanted : ℕ) (pairs : Pairs (List ℕ)) (upto : Bound) → most ≡ wanted → IsFewEnd from to most pairs v u upto → IsFewEnd from to wanted pairs v w upto
  few_look from to most wanted pairs upto same = ⊎_elim (λ e. inl (e.0, e.1, (e.2.0, e.2.1, ap (λ (x : View). x.notes) is ∙ e.2.2), e.3)) (λ full. inr (full ∙ same))
