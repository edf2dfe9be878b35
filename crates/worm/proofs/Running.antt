-- A session over an index that stands for the empty history is a run.
use Rattle.std.proofs.Common.{◌≡◌, ◌<◌, ◌≤◌, ℕ, List, [], length, Bool, true, refl, sym, subst, inl, inr, ◌∙◌, eqb, Option, Some, None, arith}
use Rattle.std.proofs.lemmas.Bool.{eqb-true}
use Rattle.std.specs.List.{AllByRecursion}
use Rattle.board_rule.specs.Passes.{view}
use Rattle.board_rule.specs.declared.board.Pass.{Pass}
use Rattle.counts.specs.Counts.{Rose}
use Rattle.index_lane.specs.Causes.{Fits}
use Rattle.line_protocol.specs.Served.{served}
use Rattle.map_model.specs.History.{Entry, own}
use Rattle.map_model.specs.Ordered.{Follows, Grows}
use Rattle.map_model.specs.declared.refusal.Refusal.{Refusal}
use Rattle.map_model.proofs.Filters.{all_weaker, filtered_pass}
use Rattle.outside.specs.Reading.{Told}
use Rattle.row_words.specs.Shape.{IsShape}
use Rattle.row_words.specs.declared.shape.Shape.{Shape}
use Rattle.session.specs.Plain.{PlainBy}
use Rattle.session.specs.Sessions.{Session, TakenBy}
use Rattle.session.specs.declared.session.SessionEnd.{SessionEnd}
use Rattle.session.specs.declared.session.SessionEnd.TheVariants as ends
use Rattle.session.proofs.PlainSessions.{served_begins}
use Rattle.sole_sessions.specs.Rooms.{HasRoomFor}
use Rattle.sole_sessions.specs.SoleSessions.{SoleSession}
use Rattle.sole_sessions.proofs.FewChanges.{few_changes}
use Rattle.sole_sessions.proofs.Larger.{room_asked}
use Rattle.worm.proofs.Rooms.{within_room}
use Rattle.worm.specs.Runs.{status_of, most_bytes, IsJust, IsWithin, IsComplete, IsFirstLanes, Ran}

-- All that a sole lane has seen, from nothing on, are its own calls.
pub first_lanes : (entries seen : List Entry) → Grows 0 true entries [] seen → IsFirstLanes seen
first_lanes entries seen grows =
    let all : own 0 seen ≡ seen = grows.mine ∙ sym (grows.alone refl) in record {
      legal = grows.legal;
      first = subst (λ h. AllByRecursion (λ (e : Entry). e.lane ≡ 0) h) all
          (all_weaker (λ (e : Entry). eqb e.lane 0 ≡ true) (λ (e : Entry). e.lane ≡ 0) (λ e is. eqb-true e.lane 0 is) (own 0 seen) (filtered_pass (λ (e : Entry). eqb e.lane 0) seen));
    }

-- and so are those that follow the empty history to just these
pub first_lanes_by : (R : List Entry → List Entry → Type 0) (seen : List Entry) → Follows (IsJust []) (IsJust seen) R → ((now : List Entry) → R [] now → (entries : List Entry) × Grows 0 true entries [] now) → IsFirstLanes seen
first_lanes_by R seen follows grows =
    let now = follows [] refl in
    let g = grows now.0 now.2 in
    subst IsFirstLanes now.1 (first_lanes g.0 now.0 g.1)

-- At each end but those that a fault or too long an input makes, all of the plain output was written or memory was wanting.
complete_by : (end : SessionEnd) (status : ℕ) (bytes : List ℕ) (ended : Bool) (output : List ℕ) → status ≡ status_of end → (end ≡ ends.ReadFault → ⊥) → (end ≡ ends.WriteFault → ⊥) → TakenBy end most_bytes bytes ended → length bytes < most_bytes
    → PlainBy end bytes output → IsComplete status bytes output
complete_by ends.Quit status bytes ended output is no_read no_write taken few same = inl (is, same)
complete_by ends.EndOfInput status bytes ended output is no_read no_write taken few same = inl (is, same)
complete_by ends.ReadFault status bytes ended output is no_read no_write taken few same = absurd (no_read refl)
complete_by ends.WriteFault status bytes ended output is no_read no_write taken few same = absurd (no_write refl)
complete_by ends.NoMemory status bytes ended output is no_read no_write taken few same = inr (inl is)
complete_by (ends.Spent count) status bytes ended output is no_read no_write taken few same = absurd (omega (arith, taken.0, few))

-- a session takes no more bytes than the most
taken_few : (end : SessionEnd) (bytes : List ℕ) (ended : Bool) → TakenBy end most_bytes bytes ended → length bytes ≤ most_bytes
taken_few ends.Quit bytes ended taken = taken
taken_few ends.EndOfInput bytes ended taken = omega (arith, taken.0)
taken_few ends.ReadFault bytes ended taken = omega (arith, taken.0)
taken_few ends.WriteFault bytes ended taken = taken
taken_few ends.NoMemory bytes ended taken = taken
taken_few (ends.Spent count) bytes ended taken = omega (arith, taken.0)

-- Where what the lines put is within the shape, there is room for it.
room_within : (k : Shape) (end : SessionEnd) (bytes : List ℕ) (ended : Bool) → IsShape k → TakenBy end most_bytes bytes ended → IsWithin k (served bytes true) → HasRoomFor (Fits k) (served bytes ended)
room_within k end bytes ended shape taken within =
    room_asked (Fits k) (served bytes ended) (served bytes true) (served_begins bytes ended) (within_room k (served bytes true) shape (omega (arith, few_changes bytes true, taken_few end bytes ended taken)) within)

ran_new : (k : Shape) (end : SessionEnd) (status : ℕ) (t u : Option Told) (w v : Option (List ℕ)) (j : ℕ) (n : Option Refusal) (seen : List Entry) (reads reads_now writes writes_now : ℕ)
    → IsShape k → status ≡ status_of end → (end ≡ ends.ReadFault → Rose reads reads_now) → (end ≡ ends.WriteFault → Rose writes writes_now)
    → Session end most_bytes t u w v (Some 1) 0 true (Fits k) 0 j None n (IsJust []) (IsJust seen) → SoleSession end most_bytes t u w v (Fits k) → Ran k status t u w v reads reads_now writes writes_now j n seen
ran_new k end status t u w v j n seen reads reads_now writes writes_now shape of_end read write s sole =
    record {
      mine = first_lanes_by _ seen s.replies (λ now turn. (turn.replies.entries, turn.replies.grows));
      end = end;
      of_end = of_end;
      session = s;
      plain = sole.plain;
      complete = λ no_read no_write few within.
          let p = sole.plain in
          elim (sole.complete (room_within k end p.bytes p.ended shape p.taken within)) [
            | inl same ↦ complete_by end status p.bytes p.ended p.output of_end (λ e. no_read (read e)) (λ e. no_write (write e)) p.taken few same
            | inr line ↦ inr (inr line)
          ];
      never_full = λ within. let p = sole.plain in sole.never_full (room_within k end p.bytes p.ended shape p.taken within);
    }

-- over an index as it was made, by its first lane
pub ran : (k made : Shape) (end : SessionEnd) (status : ℕ) (t u : Option Told) (w v : Option (List ℕ)) (lane : ℕ) (sole : Bool) (i j : ℕ) (m n : Option Refusal) (before : List Entry) (left : Pass) (parts : Pass × ℕ × Option Refusal) (reads reads_now writes writes_now : ℕ)
    → made ≡ k → lane ≡ 0 → sole ≡ true → i ≡ 0 → m ≡ None → before ≡ [] → parts ≡ (left, j, n) → IsShape k → status ≡ status_of end → (end ≡ ends.ReadFault → Rose reads reads_now) → (end ≡ ends.WriteFault → Rose writes writes_now)
    → Session end most_bytes t u w v (Some 1) lane sole (Fits made) i j m n (IsJust before) (IsJust (view left).seen) → SoleSession end most_bytes t u w v (Fits made) → Ran k status t u w v reads reads_now writes writes_now parts.1 parts.2 (view parts.0).seen
ran k made end status t u w v lane sole i j m n before left parts reads reads_now writes writes_now same first alone none no_last empty is_left shape of_end read write s one =
    let seen = (view left).seen in
    let s1 : Session end most_bytes t u w v (Some 1) lane sole (Fits k) i j m n (IsJust before) (IsJust seen) = subst (λ q. Session end most_bytes t u w v (Some 1) lane sole (Fits q) i j m n (IsJust before) (IsJust seen)) same s in
    let s2 : Session end most_bytes t u w v (Some 1) 0 sole (Fits k) i j m n (IsJust before) (IsJust seen) = subst (λ q. Session end most_bytes t u w v (Some 1) q sole (Fits k) i j m n (IsJust before) (IsJust seen)) first s1 in
    let s3 : Session end most_bytes t u w v (Some 1) 0 true (Fits k) i j m n (IsJust before) (IsJust seen) = subst (λ q. Session end most_bytes t u w v (Some 1) 0 q (Fits k) i j m n (IsJust before) (IsJust seen)) alone s2 in
    let s4 : Session end most_bytes t u w v (Some 1) 0 true (Fits k) 0 j m n (IsJust before) (IsJust seen) = subst (λ q. Session end most_bytes t u w v (Some 1) 0 true (Fits k) q j m n (IsJust before) (IsJust seen)) none s3 in
    let s5 : Session end most_bytes t u w v (Some 1) 0 true (Fits k) 0 j None n (IsJust before) (IsJust seen) = subst (λ q. Session end most_bytes t u w v (Some 1) 0 true (Fits k) 0 j q n (IsJust before) (IsJust seen)) no_last s4 in
    let s6 : Session end most_bytes t u w v (Some 1) 0 true (Fits k) 0 j None n (IsJust []) (IsJust seen) = subst (λ q. Session end most_bytes t u w v (Some 1) 0 true (Fits k) 0 j None n (IsJust q) (IsJust seen)) empty s5 in
    subst (λ (p : Pass × ℕ × Option Refusal). Ran k status t u w v reads reads_now writes writes_now p.1 p.2 (view p.0).seen) (sym is_left)
    (ran_new k end status t u w v j n seen reads reads_now writes writes_now shape of_end read write s6 (subst (λ q. SoleSession end most_bytes t u w v (Fits q)) same one))
