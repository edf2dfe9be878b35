-- The leaves that have a place in a list of so many, while anchors come and go.
use Rattle.std.proofs.Common.{◌≡◌, ℕ, ◌<◌, ◌≤◌, List, [], ◌∷◌, true, is_some, Option, sym, ap, ◌∙◌, arith, true≢false}
use mathlib.Core.Logic.{dite}
use native.Mathlib.Decide.{ℕ_discrete}
use Rattle.anchor_rules.specs.Anchors.{Anchors, Span, has_leaf, with_split, with_merge}
use Rattle.anchor_rules.proofs.Edits.{split_else, merge_here, merge_later}
use Rattle.anchor_rules.proofs.Spans.{span_here, span_later}
use Rattle.leaf_table.specs.Leaves.{AreListed}
use Rattle.anchor_rules.proofs.Neighbours.{live_later}

-- a leaf that is live behind an anchor is so with it
behind : (x : List ℕ × ℕ) (xs : Anchors) (i : ℕ) → has_leaf xs i ≡ true → has_leaf (x ∷ xs) i ≡ true
behind x xs i has = dite (ℕ_discrete x.1 i)
    (λ e. ap (λ (o : Option Span). is_some o) (span_here x xs i e))
    (λ ne. ap (λ (o : Option Span). is_some o) (span_later x xs i ne) ∙ has)

-- a merge makes no leaf live
was_live : (A : Anchors) (r i : ℕ) → has_leaf (with_merge A r) i ≡ true → has_leaf A i ≡ true
was_live [] r i has = has
was_live (x ∷ xs) r i has = dite (ℕ_discrete x.1 r)
    (λ e. behind x xs i (ap (λ (B : Anchors). has_leaf B i) (sym (merge_here x xs r e)) ∙ has))
    (λ ne. dite (ℕ_discrete x.1 i)
    (λ here. ap (λ (o : Option Span). is_some o) (span_here x xs i here))
    (λ off. behind x xs i (was_live xs r i (live_later x (with_merge xs r) i off (ap (λ (B : Anchors). has_leaf B i) (sym (merge_later x xs r ne)) ∙ has)))))

-- the one leaf of a new table
pub listed_first : (n : ℕ) → 0 < n → AreListed (([], 0) ∷ []) n
listed_first n some leaf has = dite (ℕ_discrete 0 leaf)
    (λ e. omega (arith, e, some))
    (λ ne. absurd (true≢false (sym (live_later ([], 0) [] leaf ne has))))

-- in a longer list
pub listed_more : (A : Anchors) (n m : ℕ) → n ≤ m → AreListed A n → AreListed A m
listed_more A n m more listed leaf has = let lt = listed leaf has in omega (arith, lt, more)

-- with one more, which has its place
pub listed_split : (A : Anchors) (l : ℕ) (a : List ℕ) (r n : ℕ) → has_leaf A l ≡ true → r < n → AreListed A n → AreListed (with_split A l a r) n
listed_split A l a r n live place listed leaf has = dite (ℕ_discrete leaf r)
    (λ e. omega (arith, e, place))
    (λ nr. dite (ℕ_discrete leaf l)
    (λ e. let lt = listed l live in omega (arith, e, lt))
    (λ nl. listed leaf (ap (λ (o : Option Span). is_some o) (sym (split_else A l a r leaf nl nr)) ∙ has)))

-- and with one less
pub listed_merge : (A : Anchors) (r n : ℕ) → AreListed A n → AreListed (with_merge A r) n
listed_merge A r n listed leaf has = listed leaf (was_live A r leaf has)
