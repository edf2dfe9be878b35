-- The first leaf has the lowest keys.
use Rattle.std.proofs.Common.{◌≡◌, ℕ, List, [], ◌∷◌, cond, Some, ap, ◌∙◌, subst}
use Rattle.key_bytes.specs.Order.{is_below}
use Rattle.key_bytes.proofs.Conditions.{some_same}
use Rattle.anchor_rules.specs.Anchors.{Anchors, Span, AreAnchors, span, target, target_from}
use Rattle.anchor_rules.specs.Items.{first_leaf}
use Rattle.anchor_rules.proofs.Spans.{Over, in_target, target_over}

pub first_target : (A : Anchors) → AreAnchors A → first_leaf A ≡ 0 → target A [] ≡ 0
first_target [] are zero = absurd (cc (are.first))
first_target (x ∷ xs) are zero =
    let empty : x.0 ≡ [] = some_same x.0 [] are.first in
    ap (λ b. target_from (cond b 0 x.1) xs []) (ap (λ a. is_below [] a) empty)
    ∙ target_over x.1 xs [] (subst (λ (a : List ℕ). Over a xs) empty are.rises.0)
    ∙ zero

pub first_span : (A : Anchors) → AreAnchors A → first_leaf A ≡ 0 → (s : Span) × (span A 0 ≡ Some s)
first_span A are zero = let h = in_target A are [] in (h.0, subst (λ leaf. span A leaf ≡ Some h.0) (first_target A are zero) h.1)
