-- Where a leaf's anchor can be removed.
use Rattle.std.proofs.Common.{◌≡◌, ◌≢◌, ℕ, List, [], ◌∷◌, Option, Some, sym, ap, ◌∙◌}
use Rattle.std.specs.Prelude.{true, is_some}
use mathlib.Core.Bool.{false≢true}
use Rattle.key_bytes.specs.Order.{is_below}
use Rattle.anchor_rules.specs.Anchors.{Anchors, Span, next_anchor, span, adjacent}
use Rattle.anchor_rules.specs.Items.{first_leaf}
use Rattle.anchor_rules.proofs.ItemChanges.{span_before}
use Rattle.anchor_rules.proofs.Parts.{meet}
use Rattle.anchor_rules.proofs.Spans.{span_here}
use Rattle.row_words.specs.declared.shape.Shape.{Shape}
use Rattle.meta_trie.specs.Stands.{StandsFor}
use Rattle.meta_trie.specs.Shrinks.{CanMerge}

start_of : (s t : Span) → Some s ≡ Some t → s.0 ≡ t.0
start_of s t e = cc

-- leaf 0 is that of the empty anchor
first_span : (A : Anchors) (a : List ℕ) (hi : Option (List ℕ)) → first_leaf A ≡ 0 → next_anchor A ≡ Some [] → span A 0 ≡ Some (a, hi) → a ≡ []
first_span [] a hi z first at = absurd (cc)
first_span (q ∷ A) a hi z first at =
    let empty : q.0 ≡ [] = cc in
    sym (start_of (q.0, next_anchor A) (a, hi) (sym (span_here q A 0 z) ∙ at)) ∙ empty

-- an anchor that isn't empty can be removed
pub span_can_merge : (k : Shape) (ws : List ℕ) (A : Anchors) (leaf : ℕ) (a : List ℕ) (hi : Option (List ℕ)) → StandsFor k ws A → span A leaf ≡ Some (a, hi) → a ≢ [] → CanMerge k ws leaf
span_can_merge k ws A leaf a hi s at some = (A, (s, ap (λ (o : Option Span). is_some o) at, λ e. some (first_span A a hi s.zero s.anchors.first (ap (span A) (sym e) ∙ at))))

-- and so can one that comes next after another
pub adjacent_can_merge : (k : Shape) (ws : List ℕ) (A : Anchors) (left right : ℕ) → StandsFor k ws A → adjacent A left right ≡ true → CanMerge k ws right
adjacent_can_merge k ws A left right s next =
    let m = meet A left right s.anchors.rises next in
    let above : is_below m.low m.middle ≡ true = span_before A left m.low (Some m.middle) s.anchors.rises m.left in
    span_can_merge k ws A right m.middle m.high s m.right (λ e. none_below m.low (sym (ap (is_below m.low) e) ∙ above))
  where
    none_below : (b : List ℕ) → is_below b [] ≡ true → ⊥
    none_below [] t = false≢true t
    none_below (x ∷ b) t = false≢true t
