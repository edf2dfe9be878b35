-- Lanes of which the first is that of an index as it was made.
use Rattle.std.proofs.Common.{◌≡◌, ◌≢◌, ◌<◌, ◌∙◌, ℕ, Bool, true, false, List, [], sym, subst, Option}
use Rattle.std.specs.List.{AllByRecursion}
use Rattle.board_rule.specs.Passes.{view}
use Rattle.board_rule.specs.declared.board.Pass.{Pass}
use Rattle.index_lane.specs.Causes.{Fits}
use Rattle.lane_command.specs.Said.{LanesSaid, SaidBy, limit_of, told_of}
use Rattle.lane_command.specs.declared.run.LanesEnd.{LanesEnd}
use Rattle.lane_command.specs.declared.run.LanesEnd.TheVariants.{NoMemory}
use Rattle.map_model.specs.History.{Entry, IsLegal, IsNumbered}
use Rattle.map_model.specs.declared.refusal.Refusal.{Refusal}
use Rattle.row_words.specs.declared.shape.Shape.{Shape}
use Rattle.worm.specs.Lanes.{Answered, lanes_status}

pub answered : (k made : Shape) (tries : Option ℕ) (bytes : List ℕ) (end : LanesEnd) (status : ℕ) (w v : Option (List ℕ)) (alone : Bool) (i j : ℕ) (last : Option Refusal) (before : List Entry) (left : Pass) (parts : Pass × ℕ × Option Refusal)
    → made ≡ k → alone ≡ true → i ≡ 0 → before ≡ [] → parts ≡ (left, j, last) → IsLegal (view left).seen → IsNumbered (view left).seen → (most : ℕ) → most ≡ k.lanes → AllByRecursion (λ (e : Entry). e.lane < most) (view left).seen → status ≡ lanes_status end → (k.lanes ≡ 1 → (view left).sole ≡ alone) → (1 < k.lanes → end ≢ NoMemory → (view left).sole ≡ false)
    → SaidBy end w v (LanesSaid (limit_of tries) k.lanes (told_of bytes) (view left).sole (Fits made) i j before (view left).seen) → Answered k tries bytes status w v (view parts.0).sole parts.1 (view parts.0).seen
answered k made tries bytes end status w v alone i j last before left parts same sole none empty is_left legal numbered most all below of_end one some said = subst (λ (p : Pass × ℕ × Option Refusal). Answered k tries bytes status w v (view p.0).sole p.1 (view p.0).seen) (sym is_left) (record {
  legal = legal;
  numbered = numbered;
  below = subst (λ n. AllByRecursion (λ (e : Entry). e.lane < n) (view left).seen) all below;
  end = end;
  of_end = of_end;
  alone = λ is. one is ∙ sole;
  among = some;
  said =
      let now = (view left).sole in
      let seen = (view left).seen in
      let s1 : SaidBy end w v (LanesSaid (limit_of tries) k.lanes (told_of bytes) now (Fits k) i j before seen) = subst (λ q. SaidBy end w v (LanesSaid (limit_of tries) k.lanes (told_of bytes) now (Fits q) i j before seen)) same said in
      let s2 : SaidBy end w v (LanesSaid (limit_of tries) k.lanes (told_of bytes) now (Fits k) 0 j before seen) = subst (λ q. SaidBy end w v (LanesSaid (limit_of tries) k.lanes (told_of bytes) now (Fits k) q j before seen)) none s1 in
      subst (λ q. SaidBy end w v (LanesSaid (limit_of tries) k.lanes (told_of bytes) now (Fits k) 0 j q seen)) empty s2;
})
