-- Where a part of the map ends.
use Rattle.std.proofs.Common.{◌≡◌, ℕ, List, [], Option, refl, sym, ap, ◌∙◌}
use Rattle.key_bytes.specs.declared.bound.Bound.{Bound}
use Rattle.anchor_rules.specs.Anchors.{Anchors, span}
use Rattle.leaf_spans.specs.Ends.{end_bound, leaf_from, span_end, lesser, part_end}
use Rattle.key_bytes.specs.declared.bound.Bound.TheVariants.{Low, At, High}
use Rattle.prefix_search.specs.Search.{IsFollowed, IsLocated}
use Rattle.prefix_search.specs.declared.answers.Located.{Located}

-- the end of the span that a leaf and the anchor behind it tell
pub followed_end : (A : Anchors) (leaf : ℕ) (next : Option (List ℕ)) → IsFollowed A leaf next → end_bound next ≡ span_end (span A leaf)
followed_end A leaf next follows = sym (ap span_end follows.1)

pub part_end_is : (A : Anchors) (from to : Bound) (leaf : ℕ) (next : Option (List ℕ)) → leaf ≡ leaf_from A from → IsFollowed A leaf next → lesser (end_bound next) to ≡ part_end A from to
part_end_is A from to leaf next at follows = ap (λ end. lesser end to) (followed_end A leaf next follows ∙ ap (λ l. span_end (span A l)) at)

-- a leaf that was looked for from an end on is that of its key, or the first one
pub located_from : (A : Anchors) (from : Bound) (located : Located) → ((key : List ℕ) → from ≡ At key → IsLocated A key located) → (((key : List ℕ) → from ≡ At key → ⊥) → IsLocated A [] located)
    → (located.leaf ≡ leaf_from A from) × IsFollowed A located.leaf located.next
located_from A Low located by_key first = let h = first (λ key e. absurd (cc (e))) in (h.leaf, h.next)
located_from A (At key) located by_key first = let h = by_key key refl in (h.leaf, h.next)
located_from A High located by_key first = let h = first (λ key e. absurd (cc (e))) in (h.leaf, h.next)
