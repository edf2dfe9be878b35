-- What stands at a place of ascending anchors.
use Rattle.std.proofs.Common.{◌≡◌, ◌≢◌, ℕ, ◌<◌, ◌≤◌, List, [], ◌∷◌, length, drop, zero, suc, Bool, true, false, cond, eqb, ◌&&◌, ◌||◌, Some, None, sym, refl, ap, ◌∙◌, arith, eq-eqb, ne_eqb}
use mathlib.Core.Logic.{dite}
use native.Mathlib.Decide.{ℕ_discrete}
use Rattle.std.specs.Prelude.{insert, remove}
use Rattle.key_bytes.specs.Order.{is_below}
use Rattle.anchor_rules.specs.Anchors.{Anchors, anchor_at, leaf_at, next_anchor, span, target_from, Rises, with_split, adjacent, with_merge}
use Rattle.anchor_rules.specs.Places.{is_next}
use Rattle.anchor_rules.proofs.Spans.{Over, target_over, span_here, span_later, no_span}
use Rattle.anchor_rules.proofs.Edits.{split_here, split_later, merge_here, merge_later}

-- a leaf that stands somewhere has a span
pub leaf_in : (A : Anchors) (i leaf : ℕ) → i < length A → leaf_at A i ≡ leaf → span A leaf ≢ None
leaf_in [] i leaf lt e = absurd (omega arith)
leaf_in (x ∷ xs) zero leaf lt e = λ none. no_span (sym (span_here x xs leaf e) ∙ none)
leaf_in (x ∷ xs) (suc i) leaf lt e = λ none. dite (ℕ_discrete x.1 leaf)
    (λ same. no_span (sym (span_here x xs leaf same) ∙ none))
    (λ ne. leaf_in xs i leaf (omega arith) e (sym (span_later x xs leaf ne) ∙ none))

-- and differs from a leaf that has none
later_leaf : (xs : Anchors) (i leaf : ℕ) → i < length xs → span xs leaf ≡ None → leaf ≢ leaf_at xs i
later_leaf xs i leaf lt none = λ e. leaf_in xs i leaf lt (sym e) none

pub span_at : (A : Anchors) (i : ℕ) → Rises A → i < length A → span A (leaf_at A i) ≡ Some (anchor_at A i, next_anchor (drop (suc i) A))
span_at [] i rises lt = absurd (omega arith)
span_at (x ∷ xs) zero rises lt = span_here x xs x.1 refl
span_at (x ∷ xs) (suc i) rises lt = span_later x xs (leaf_at xs i) (later_leaf xs i x.1 (omega arith) rises.1) ∙ span_at xs i rises.2 (omega arith)

pub split_at : (A : Anchors) (i : ℕ) (a : List ℕ) (r : ℕ) → Rises A → i < length A → with_split A (leaf_at A i) a r ≡ insert A (suc i) (a, r)
split_at [] i a r rises lt = absurd (omega arith)
split_at (x ∷ xs) zero a r rises lt = split_here x xs x.1 a r refl
split_at (x ∷ xs) (suc i) a r rises lt = split_later x xs (leaf_at xs i) a r (later_leaf xs i x.1 (omega arith) rises.1) ∙ ap (λ ys. x ∷ ys) (split_at xs i a r rises.2 (omega arith))

pub merge_at : (A : Anchors) (i : ℕ) → Rises A → i < length A → with_merge A (leaf_at A i) ≡ remove A i
merge_at [] i rises lt = absurd (omega arith)
merge_at (x ∷ xs) zero rises lt = merge_here x xs x.1 refl
merge_at (x ∷ xs) (suc i) rises lt = merge_later x xs (leaf_at xs i) (later_leaf xs i x.1 (omega arith) rises.1) ∙ ap (λ ys. x ∷ ys) (merge_at xs i rises.2 (omega arith))

-- a leaf that isn't in the list is next to none
pub adjacent_none : (A : Anchors) (l r : ℕ) → span A l ≡ None → adjacent A l r ≡ false
adjacent_none [] l r none = refl
adjacent_none (x ∷ []) l r none = refl
adjacent_none (x ∷ y ∷ ys) l r none =
    let apart : x.1 ≢ l = λ e. no_span (sym (span_here x (y ∷ ys) l e) ∙ none) in
    ap (λ b. (b && eqb y.1 r) || adjacent (y ∷ ys) l r) (ne_eqb x.1 l apart) ∙ adjacent_none (y ∷ ys) l r (sym (span_later x (y ∷ ys) l apart) ∙ none)

-- of two tests the second fails
pub first_of_two : (a b : Bool) → a ≡ false → (b || a) ≡ b
first_of_two a true e = refl
first_of_two a false e = e

pub adjacent_at : (A : Anchors) (i r : ℕ) → Rises A → i < length A → adjacent A (leaf_at A i) r ≡ is_next (drop (suc i) A) r
adjacent_at [] i r rises lt = absurd (omega arith)
adjacent_at (x ∷ []) zero r rises lt = refl
adjacent_at (x ∷ []) (suc i) r rises lt = absurd (omega arith)
adjacent_at (x ∷ y ∷ ys) zero r rises lt = ap (λ b. (b && eqb y.1 r) || adjacent (y ∷ ys) x.1 r) (eq-eqb x.1 x.1 refl) ∙ first_of_two (adjacent (y ∷ ys) x.1 r) (eqb y.1 r) (adjacent_none (y ∷ ys) x.1 r rises.1)
adjacent_at (x ∷ y ∷ ys) (suc i) r rises lt =
    let apart : x.1 ≢ leaf_at (y ∷ ys) i = later_leaf (y ∷ ys) i x.1 (omega arith) rises.1 in
    ap (λ b. (b && eqb y.1 r) || adjacent (y ∷ ys) (leaf_at (y ∷ ys) i) r) (ne_eqb x.1 (leaf_at (y ∷ ys) i) apart) ∙ adjacent_at (y ∷ ys) i r rises.2 (omega arith)

over_each : (key : List ℕ) (xs : Anchors) → ((k : ℕ) → k < length xs → is_below key (anchor_at xs k) ≡ true) → Over key xs
over_each key [] each = tt
over_each key (x ∷ xs) each = (each 0 (omega arith), over_each key xs (λ k lt. each (suc k) (omega arith)))

-- the target, where the anchors up to a place aren't above the key and the others are
pub target_at : (A : Anchors) (leaf i : ℕ) (key : List ℕ) → i < length A → ((k : ℕ) → k ≤ i → is_below key (anchor_at A k) ≡ false) → ((k : ℕ) → i < k → k < length A → is_below key (anchor_at A k) ≡ true) → target_from leaf A key ≡ leaf_at A i
target_at [] leaf i key lt low high = absurd (omega arith)
target_at (x ∷ xs) leaf zero key lt low high = ap (λ b. target_from (cond b leaf x.1) xs key) (low 0 (omega arith)) ∙ target_over x.1 xs key (over_each key xs (λ k below. high (suc k) (omega arith) (omega arith)))
target_at (x ∷ xs) leaf (suc i) key lt low high = ap (λ b. target_from (cond b leaf x.1) xs key) (low 0 (omega arith)) ∙ target_at xs x.1 i key (omega arith) (λ k le. low (suc k) (omega arith)) (λ k over below. high (suc k) (omega arith) (omega arith))
