-- A server whose first lane is that of an index as it was made.
use Rattle.std.proofs.Common.{◌≡◌, ◌≢◌, ◌⊎◌, ◌<◌, ◌≤◌, ◌+◌, ◌∙◌, ℕ, Bool, true, List, [], sym, subst, Option, None}
use Rattle.board_rule.specs.Passes.{view}
use Rattle.board_rule.specs.declared.board.Pass.{Pass}
use Rattle.counts.specs.Counts.{RoseBy}
use Rattle.index_lane.specs.Causes.{Fits}
use Rattle.index_server.specs.Connections.{ServesClosed}
use Rattle.index_server.specs.Hands.{WorkersServe}
use Rattle.map_model.specs.History.{Entry, IsLegal}
use Rattle.map_model.specs.declared.refusal.Refusal.{Refusal}
use Rattle.outside.specs.Connections.{Connection}
use Rattle.row_words.specs.declared.shape.Shape.{Shape}
use Rattle.worm.specs.Servers.{Served}

pub served : (k made : Shape) (workers sessions status : ℕ) (b d : Option (List Connection)) (o p c e lane lanes room : ℕ) (sole : Bool) (i j : ℕ) (m n : Option Refusal) (before : List Entry) (left : Pass) (parts : Pass × ℕ × Option Refusal)
    → made ≡ k → lane ≡ 0 → sole ≡ true → i ≡ 0 → m ≡ None → before ≡ [] → parts ≡ (left, j, n) → lanes ≡ k.lanes → room + 1 ≡ k.lanes
    → (status ≡ 0) ⊎ (status ≡ 5) ⊎ (status ≡ 6) → IsLegal (view left).seen → (status ≡ 0 → (0 < sessions) × RoseBy sessions c e × (e ≤ c + sessions)) → (status ≡ 0 → p ≡ o + sessions)
    → (status ≡ 5 → (d ≡ b) × (p ≡ o) × (e ≡ c) × ((view left).seen ≡ before)) → (workers ≡ 1 → ServesClosed lane sole (Fits made) i j m n b d before (view left).seen)
    → (1 < workers → status ≢ 5 → WorkersServe workers lane lanes c e before (view left).seen) → (status ≢ 5 → room + 1 ≡ (view left).room + workers)
    → Served k workers sessions status b d o p c e (view parts.0).room parts.1 parts.2 (view parts.0).seen
served k made workers sessions status b d o p c e lane lanes room sole i j m n before left parts same first only none no_last empty is_left of_lanes all_room of_end legal done accepted wanting alone shared taken = subst (λ (p' : Pass × ℕ × Option Refusal). Served k workers sessions status b d o p c e (view p'.0).room p'.1 p'.2 (view p'.0).seen) (sym is_left) (record {
  of_end = of_end;
  legal = legal;
  done = done;
  accepted = accepted;
  wanting = λ is. let w = wanting is in (w.0, w.1, w.2, w.3 ∙ empty);
  alone = λ one.
      let seen = (view left).seen in
      let s1 : ServesClosed lane sole (Fits k) i j m n b d before seen = subst (λ q. ServesClosed lane sole (Fits q) i j m n b d before seen) same (alone one) in
      let s2 : ServesClosed 0 sole (Fits k) i j m n b d before seen = subst (λ q. ServesClosed q sole (Fits k) i j m n b d before seen) first s1 in
      let s3 : ServesClosed 0 true (Fits k) i j m n b d before seen = subst (λ q. ServesClosed 0 q (Fits k) i j m n b d before seen) only s2 in
      let s4 : ServesClosed 0 true (Fits k) 0 j m n b d before seen = subst (λ q. ServesClosed 0 true (Fits k) q j m n b d before seen) none s3 in
      let s5 : ServesClosed 0 true (Fits k) 0 j None n b d before seen = subst (λ q. ServesClosed 0 true (Fits k) 0 j q n b d before seen) no_last s4 in
      subst (λ q. ServesClosed 0 true (Fits k) 0 j None n b d q seen) empty s5;
  shared = λ more served.
      let seen = (view left).seen in
      let s1 : WorkersServe workers 0 lanes c e before seen = subst (λ q. WorkersServe workers q lanes c e before seen) first (shared more served) in
      let s2 : WorkersServe workers 0 k.lanes c e before seen = subst (λ q. WorkersServe workers 0 q c e before seen) of_lanes s1 in
      subst (λ q. WorkersServe workers 0 k.lanes c e q seen) empty s2;
  taken = λ served. sym all_room ∙ taken served;
})
