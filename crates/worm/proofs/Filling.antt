-- A fill of an index that stands for the empty history.
use Rattle.std.proofs.Common.{◌≡◌, ◌<◌, ◌^◌, ℕ, List, [], Bool, true, refl, sym, subst, inl, inr, Option, None, arith}
use Rattle.board_rule.specs.Passes.{view}
use Rattle.board_rule.specs.declared.board.Pass.{Pass}
use Rattle.fill_runs.specs.Fills as fills
use Rattle.fill_runs.specs.declared.fills.FillEnd.{FillEnd}
use Rattle.fill_runs.specs.declared.fills.FillEnd.TheVariants as ends
use Rattle.fill_runs.proofs.MadeLines.{made_count}
use Rattle.generated_lines.specs.Generator.{made}
use Rattle.index_lane.specs.Causes.{Fits}
use Rattle.map_model.specs.History.{Entry}
use Rattle.map_model.specs.declared.refusal.Refusal.{Refusal}
use Rattle.row_words.specs.Shape.{IsShape}
use Rattle.row_words.specs.declared.shape.Shape.{Shape}
use Rattle.sole_sessions.specs.Rooms.{HasRoomFor}
use Rattle.sole_sessions.proofs.FewChanges.{changes_of_lines}
use Rattle.worm.specs.Fills.{fill_status, HasSummary, Filled}
use Rattle.worm.proofs.Rooms.{within_room}
use Rattle.worm.proofs.Running.{first_lanes_by}
use Rattle.worm.specs.Runs.{IsFirstLanes, IsJust, IsWithin}

module _ (k : Shape) (number count : ℕ) (w v : Option (List ℕ)) (j : ℕ) (n : Option Refusal) (seen : List Entry) where
  mine : (end : FillEnd) → fills.Filled end number count w v 0 true (Fits k) 0 j None n (IsJust []) (IsJust seen) → IsFirstLanes seen
  mine end (inl s) = first_lanes_by _ seen s.served.replies (λ now replies. (replies.entries, replies.grows))
  mine end (inr s) = first_lanes_by _ seen s.served.1 (λ now replies. (replies.entries, replies.grows))

  room_made : IsShape k → count < 2 ^ 32 → IsWithin k (made number count) → HasRoomFor (Fits k) (made number count)
  room_made shape small within = within_room k (made number count) shape (omega (arith, small, changes_of_lines (made number count), made_count number 0 count)) within

  -- the whole summary
  summed_new : IsShape k → count < 2 ^ 32 → (end : FillEnd) (status : ℕ) → status ≡ fill_status end → fills.Filled end number count w v 0 true (Fits k) 0 j None n (IsJust []) (IsJust seen) → status ≡ 0 → HasSummary k number count w v
  summed_new shape small ends.Done status is (inl s) done = record {
    output = s.output;
    wrote = s.said;
    plain = s.served.plain refl refl;
    complete = λ within. s.served.complete refl refl (room_made shape small within);
    never_full = λ within. s.served.never_full refl refl (room_made shape small within);
  }
  summed_new shape small ends.Done status is (inr s) done = let no : ends.Done ≡ ends.NoMemory = s.only in absurd cc
  summed_new shape small ends.WriteFault status is s done = absurd (omega (arith, is, done))
  summed_new shape small ends.NoMemory status is s done = absurd (omega (arith, is, done))

-- over an index as it was made, by its first lane
pub filled : (k made_shape : Shape) (number count status : ℕ) (end : FillEnd) (w v : Option (List ℕ)) (lane : ℕ) (sole : Bool) (i j : ℕ) (m n : Option Refusal) (before : List Entry) (left : Pass) (parts : Pass × ℕ × Option Refusal)
    → made_shape ≡ k → lane ≡ 0 → sole ≡ true → i ≡ 0 → m ≡ None → before ≡ [] → parts ≡ (left, j, n) → IsShape k → count < 2 ^ 32
    → status ≡ fill_status end → fills.Filled end number count w v lane sole (Fits made_shape) i j m n (IsJust before) (IsJust (view left).seen) → Filled k number count status w v parts.1 parts.2 (view parts.0).seen
filled k made_shape number count status end w v lane sole i j m n before left parts same first alone none no_last empty is_left shape small is s =
    let seen = (view left).seen in
    let s1 : fills.Filled end number count w v lane sole (Fits k) i j m n (IsJust before) (IsJust seen) = subst (λ q. fills.Filled end number count w v lane sole (Fits q) i j m n (IsJust before) (IsJust seen)) same s in
    let s2 : fills.Filled end number count w v 0 sole (Fits k) i j m n (IsJust before) (IsJust seen) = subst (λ q. fills.Filled end number count w v q sole (Fits k) i j m n (IsJust before) (IsJust seen)) first s1 in
    let s3 : fills.Filled end number count w v 0 true (Fits k) i j m n (IsJust before) (IsJust seen) = subst (λ q. fills.Filled end number count w v 0 q (Fits k) i j m n (IsJust before) (IsJust seen)) alone s2 in
    let s4 : fills.Filled end number count w v 0 true (Fits k) 0 j m n (IsJust before) (IsJust seen) = subst (λ q. fills.Filled end number count w v 0 true (Fits k) q j m n (IsJust before) (IsJust seen)) none s3 in
    let s5 : fills.Filled end number count w v 0 true (Fits k) 0 j None n (IsJust before) (IsJust seen) = subst (λ q. fills.Filled end number count w v 0 true (Fits k) 0 j q n (IsJust before) (IsJust seen)) no_last s4 in
    let s6 : fills.Filled end number count w v 0 true (Fits k) 0 j None n (IsJust []) (IsJust seen) = subst (λ q. fills.Filled end number count w v 0 true (Fits k) 0 j None n (IsJust q) (IsJust seen)) empty s5 in
    subst (λ (p : Pass × ℕ × Option Refusal). Filled k number count status w v p.1 p.2 (view p.0).seen) (sym is_left) (record {
      mine = mine k number count w v j n seen end s6;
      end = end;
      of_end = is;
      served = s6;
      summed = summed_new k number count w v j n seen shape small end status is s6;
    })
