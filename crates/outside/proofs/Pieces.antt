-- A piece of a list with what is before it and behind it; and calls one after another, as one call that moved the bytes of all.
use Rattle.std.proofs.Common.{◌≡◌, ℕ, ◌+◌, List, [], ◌++◌, Option, Some, None, Bool, true, false, ◌||◌, take, drop, refl, sym, ap, ◌∙◌, append_assoc, take-append-drop, ◌≤◌, Result, Ok, Err, arith}
use Rattle.std.proofs.lemmas.List.{append-nil, drop-drop}
use Rattle.std.proofs.Math.Seq.{take-add}
use Rattle.outside.specs.Causes.{FaultsCounted, StopCounted}
use Rattle.outside.specs.declared.stop.Stop.{Stop}
use Rattle.outside.specs.declared.stop.Stop.TheVariants.{Failed, NoMemory}
use Rattle.outside.specs.Reading.{Told, Took, Ended}
use Rattle.outside.specs.Writing.{Wrote}

-- the next n bytes go from what is left to what was given
pub piece_given : (bytes piece : List ℕ) (at n : ℕ) → piece ≡ take n (drop at bytes) → (take (at + n) bytes ≡ take at bytes ++ piece) × (drop at bytes ≡ piece ++ drop (at + n) bytes)
piece_given bytes piece at n is = (
  take-add at n bytes ∙ ap (λ p. take at bytes ++ p) (sym is),
  sym (take-append-drop n (drop at bytes)) ∙ (ap (λ ys. take n (drop at bytes) ++ ys) (drop-drop n at bytes) ∙ ap (λ p. p ++ drop (at + n) bytes) (sym is)),
)

-- without a write, nothing was written
pub wrote_none : (a : Option (List ℕ)) → Wrote a a []
wrote_none None = refl
wrote_none (Some old) = ap Some (sym (append-nil old))

-- two writes are one of both pieces
pub wrote_more : (a b c : Option (List ℕ)) (xs ys : List ℕ) → Wrote a b xs → Wrote b c ys → Wrote a c (xs ++ ys)
wrote_more None None c xs ys p q = q
wrote_more None (Some b) c xs ys p q = absurd cc
wrote_more (Some a) None c xs ys p q = absurd cc
wrote_more (Some a) (Some b) c xs ys p q = q ∙ ap Some (ap (λ w. w ++ ys) (cc) ∙ append_assoc a xs ys)

-- without a read, nothing was taken
pub took_none : (a : Option Told) → Took a a []
took_none None = refl
took_none (Some old) = (sym (append-nil old.given), refl)

-- two reads are one of both pieces
pub took_more : (a b c : Option Told) (xs ys : List ℕ) → Took a b xs → Took b c ys → Took a c (xs ++ ys)
took_more None None c xs ys p q = q
took_more None (Some b) c xs ys p q = absurd cc
took_more (Some a) None c xs ys p q = absurd p
took_more (Some a) (Some b) None xs ys p q = absurd q
took_more (Some a) (Some b) (Some c) xs ys p q = (q.0 ∙ (ap (λ w. w ++ ys) p.0 ∙ append_assoc a.given xs ys), p.1 ∙ (ap (λ w. xs ++ w) q.1 ∙ sym (append_assoc xs ys c.left)))

or_false : (b : Bool) → (b || false) ≡ b
or_false true = refl
or_false false = refl

-- without a read, 0 wasn't answered
pub ended_none : (a : Option Told) → Ended a a false
ended_none None = refl
ended_none (Some old) = (sym (or_false old.ended), λ never. cc)

-- behind reads that didn't answer 0, the last one's answer counts
pub ended_more : (a b c : Option Told) (zero : Bool) → Ended a b false → Ended b c zero → Ended a c zero
ended_more None None c zero p q = q
ended_more None (Some b) c zero p q = absurd cc
ended_more (Some a) None c zero p q = absurd p
ended_more (Some a) (Some b) None zero p q = absurd q
ended_more (Some a) (Some b) (Some c) zero p q = (q.0 ∙ ap (λ e. e || zero) (p.0 ∙ or_false a.ended), q.1)

-- a fault that is counted from later on is counted from before too
pub stop_earlier : (before mid now : ℕ) (stop : Stop) → before ≤ mid → StopCounted mid now stop → StopCounted before now stop
stop_earlier before mid now Failed low counted = let later = counted.0 in let rose = counted.1 in (omega arith, omega arith)
stop_earlier before mid now NoMemory low counted = omega arith

pub faults_earlier : {T : Type 0} (before mid now : ℕ) (answer : Result T Stop) → before ≤ mid → FaultsCounted mid now answer → FaultsCounted before now answer
faults_earlier before mid now (Ok x) low counted = omega arith
faults_earlier before mid now (Err stop) low counted = stop_earlier before mid now stop low counted

-- the count never falls
pub stop_kept : (before now : ℕ) (stop : Stop) → StopCounted before now stop → before ≤ now
stop_kept before now Failed counted = counted.0
stop_kept before now NoMemory counted = counted

pub faults_kept : {T : Type 0} (before now : ℕ) (answer : Result T Stop) → FaultsCounted before now answer → before ≤ now
faults_kept before now (Ok x) counted = counted
faults_kept before now (Err stop) counted = stop_kept before now stop counted
