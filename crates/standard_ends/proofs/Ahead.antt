-- Bytes that are given from those that were read ahead.
use Rattle.std.proofs.Common.{◌≡◌, ℕ, ◌<◌, List, ◌++◌, Bool, Option, None, Ok, length, take, drop, sym, ap, ◌∙◌, take-append-drop}
use Rattle.std.specs.Prelude.{cond}
use Rattle.std.proofs.BufReadLemmas.{ReadConsumes_unless}
use Rattle.std.proofs.KnownBytes.{Keeps-refl, prepend_known-read}
use Rattle.std.specs.Io.KnownBytes.{ReadConsumes, prepend_known}

-- the first n are given and the others stay, at least one where there is room
pub given_ahead : (untold : Bool) (behind : Option (List ℕ)) (old new buf : List ℕ) (n : ℕ) → take n buf ≡ take n old → new ≡ drop n old → (n ≡ 0 → 0 < length buf → ⊥)
    → ReadConsumes {E = ℕ} (cond untold None (prepend_known old behind)) (cond untold None (prepend_known new behind)) (Ok n) buf
given_ahead untold behind old new buf n given rest some =
    let split = sym (take-append-drop n old) ∙ (ap (λ ys. ys ++ drop n old) (sym given) ∙ ap (λ ys. take n buf ++ ys) (sym rest)) in
    let read = prepend_known-read _ behind old new (take n buf) ((n ≡ 0) × (0 < length buf)) (Keeps-refl _) split (λ p. absurd (some p.0 p.1)) in
    ReadConsumes_unless {E = ℕ} untold _ _ (Ok n) buf (read.0, λ zero room. read.1 (zero, room))
