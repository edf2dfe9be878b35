-- The longest anchor after a split and a merge.
use Rattle.std.proofs.Common.{ℕ, ◌≤◌, List, [], ◌∷◌, length, max, true, false, cond, eqb, arith}
use Rattle.anchor_rules.specs.Anchors.{Anchors, with_split, with_merge}
use Rattle.anchor_rules.specs.Items.{longest_anchor}

pub longest_split : (A : Anchors) (left : ℕ) (a : List ℕ) (right : ℕ) → longest_anchor (with_split A left a right) ≤ max (length a) (longest_anchor A)
longest_split [] left a right = omega arith
longest_split (x ∷ xs) left a right =
    let rest = longest_split xs left a right in
    elim (eqb x.1 left) as (λ c. longest_anchor (cond c (x ∷ (a, right) ∷ xs) (x ∷ with_split xs left a right)) ≤ max (length a) (max (length x.0) (longest_anchor xs))) [ true ↦ omega arith | false ↦ omega arith ]

pub longest_merge : (A : Anchors) (right : ℕ) → longest_anchor (with_merge A right) ≤ longest_anchor A
longest_merge [] right = omega arith
longest_merge (x ∷ xs) right =
    let rest = longest_merge xs right in
    elim (eqb x.1 right) as (λ c. longest_anchor (cond c xs (x ∷ with_merge xs right)) ≤ max (length x.0) (longest_anchor xs)) [ true ↦ omega arith | false ↦ omega arith ]
