-- The bytes that a read puts behind those that were taken.
use Rattle.std.proofs.Common.{◌≡◌, ◌≤◌, ℕ, ◌+◌, List, [], ◌++◌, length, take, drop, false, Option, ap, ◌∙◌, subst, arith, append_assoc}
use Rattle.std.proofs.Math.Seq.{take-add}
use Rattle.std.proofs.lemmas.List.{append-nil, take-take, take-append-le, length-take, length-append, take_at, drop_at}
use Rattle.outside.specs.Reading.{Told, Took, Ended}
use Rattle.outside.proofs.Pieces.{took_more, ended_more}
use Rattle.lane_command.specs.Inputs.{TakenBy}
use Rattle.lane_command.specs.declared.input.InputFault.{InputFault}

-- room behind what was taken leaves it
pub kept_front : (items back : List ℕ) (taken room : ℕ) → taken ≤ length items → take taken (take (taken + room) items ++ back) ≡ take taken items
kept_front items back taken room held =
    let len = length-take (taken + room) items in
    take-append-le taken (take (taken + room) items) back (omega (arith, held, len)) ∙ take-take taken (taken + room) items (omega arith)

-- What was taken, and the buffer behind it, in a list that is cut somewhere behind them.
module _ (front buf rest back : List ℕ) (taken n len : ℕ) (held : length front ≡ taken) (bound : n ≤ length buf) (within : taken + n ≤ len) where
  pub front_more : take (taken + n) (take len ((front ++ (buf ++ rest)) ++ back)) ≡ front ++ take n buf
  front_more =
      let all = buf ++ (rest ++ back) in
      let is : (front ++ (buf ++ rest)) ++ back ≡ front ++ all = append_assoc front (buf ++ rest) back ∙ ap (λ w. front ++ w) (append_assoc buf rest back) in
      take-take (taken + n) len ((front ++ (buf ++ rest)) ++ back) within
      ∙ (ap (take (taken + n)) is ∙ (take-add taken n (front ++ all) ∙ (ap (λ w. w ++ take n (drop taken (front ++ all))) (take_at front all taken held)
      ∙ ap (λ w. front ++ w) (ap (take n) (drop_at front all taken held) ∙ take-append-le n buf (rest ++ back) bound))))

  pub held_more : taken + n ≤ length (take len ((front ++ (buf ++ rest)) ++ back))
  held_more =
      let all = length-take len ((front ++ (buf ++ rest)) ++ back) in
      omega (arith, all, length-append (front ++ (buf ++ rest)) back, length-append front (buf ++ rest), length-append buf rest, held, bound, within)

-- a read that stopped took nothing
pub stops : (fault : InputFault) (a b c : Option Told) (items : List ℕ) (taken : ℕ) → taken ≤ length items → TakenBy fault taken → Took a b (take taken items) → Ended a b false → Took b c [] → Ended b c false
    → (bytes : List ℕ) × Took a c bytes × Ended a c false × TakenBy fault (length bytes)
stops fault a b c items taken held few took answered none stays =
    let len : taken ≡ length (take taken items) = omega (arith, held, length-take taken items) in
    (take taken items, subst (Took a c) (append-nil (take taken items)) (took_more a b c (take taken items) [] took none), ended_more a b c false answered stays, subst (TakenBy fault) len few)
