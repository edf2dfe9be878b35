-- Places among anchors, as the code looks for them.
use Rattle.std.specs.Prelude.{◌≡◌, ℕ, ◌<◌, ◌≤◌, List, [], ◌∷◌, Bool, true, false, ◌==◌, Option, length, position}
use Rattle.key_bytes.specs.Order.{is_below}
use Rattle.anchor_rules.specs.Anchors.{Anchors, anchor_at}

-- the first place of the leaf
unfoldable pub place_in : Anchors → ℕ → Option ℕ
place_in A leaf = position (λ (x : List ℕ × ℕ). x.1 == leaf) A

-- whether the first leaf of the list is this one
abbrev pub is_next : Anchors → ℕ → Bool
is_next [] leaf = false
is_next (x ∷ xs) leaf = x.1 == leaf

-- just the anchors before this place are not above the key
pub record IsEndFor (A : Anchors) (key : List ℕ) (end : ℕ) : Type 0 where
  pub some : 0 < end
  pub within : end ≤ length A
  pub low : (k : ℕ) → k < end → is_below key (anchor_at A k) ≡ false
  pub high : (k : ℕ) → end ≤ k → k < length A → is_below key (anchor_at A k) ≡ true
