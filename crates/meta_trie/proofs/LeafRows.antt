-- The live leaves, and the list of their rows.
use Rattle.std.proofs.Common.{◌≡◌, ◌≢◌, ℕ, ◌+◌, ◌<◌, ◌≤◌, List, [], ◌∷◌, length, Option, None, sym, ap, ◌∙◌, refl, subst, arith, eqb-true}
use Rattle.std.specs.Prelude.{Bool, true, false, ◌==◌, ◌||◌, eqb, map, is_some}
use Rattle.std.specs.List.{AllByRecursion, IsDistinct, list_any}
use mathlib.Core.Bool.{false≢true}
use Rattle.std.proofs.lemmas.Bool.{ne_eqb, eqb-false}
use Rattle.std.proofs.lemmas.Map.Steps.{length-le_from_distinct_below}
use Rattle.std.proofs.lemmas.List.{length-map}
use Rattle.key_bytes.specs.Lengths.{AreBytes}
use Rattle.anchor_rules.specs.Anchors.{Anchors, Span, span, has_leaf, Rises}
use Rattle.anchor_rules.proofs.Spans.{span_here, span_later, no_span}
use Rattle.row_words.specs.declared.shape.Shape.{Shape}
use Rattle.row_words.specs.Decode.{mark_at, IsLive}
use Rattle.row_words.specs.declared.layout.TheConstants.{LONGEST_ANCHOR}
use Rattle.meta_trie.specs.Stands.{LeafChain, StandsFor}

-- a leaf of the list is live
pub live_leaf : (k : Shape) (ws : List ℕ) (A : Anchors) (previous leaf : ℕ) → LeafChain k ws previous A → has_leaf A leaf ≡ true → IsLive k ws leaf
live_leaf k ws [] previous leaf c here = absurd (false≢true here)
live_leaf k ws (q ∷ A) previous leaf c here = elim (q.1 == leaf) as (λ (t : Bool). (q.1 == leaf) ≡ t → has_leaf (q ∷ A) leaf ≡ true → IsLive k ws leaf) [
  | true ↦ λ is e. subst (IsLive k ws) (eqb-true q.1 leaf is) c.0
  | false ↦ λ is e. live_leaf k ws A (q.1 + 1) leaf c.4 (ap (λ (s : Option Span). is_some s) (sym (span_later q A leaf (eqb-false q.1 leaf is))) ∙ e)
] refl here

-- a leaf that isn't in the list isn't that of any anchor
pub unlisted : (A : Anchors) (leaf : ℕ) → span A leaf ≡ None → AllByRecursion (λ (q : List ℕ × ℕ). q.1 ≢ leaf) A
unlisted [] leaf none = tt
unlisted (q ∷ A) leaf none =
    let other : q.1 ≢ leaf = λ e. no_span (sym (span_here q A leaf e) ∙ none) in
    (other, unlisted A leaf (sym (span_later q A leaf other) ∙ none))

distinct_from : (leaf : ℕ) (A : Anchors) → AllByRecursion (λ (q : List ℕ × ℕ). q.1 ≢ leaf) A → AllByRecursion (λ (j : ℕ). eqb leaf j ≡ false) (map (λ (q : List ℕ × ℕ). q.1) A)
distinct_from leaf [] a = tt
distinct_from leaf (q ∷ A) a = (ne_eqb leaf q.1 (λ e. a.0 (sym e)), distinct_from leaf A a.1)

pub leaves_distinct : (A : Anchors) → Rises A → IsDistinct eqb (map (λ (q : List ℕ × ℕ). q.1) A)
unfolding IsDistinct
leaves_distinct [] r = tt
leaves_distinct (q ∷ A) r = (distinct_from q.1 A (unlisted A q.1 r.1), leaves_distinct A r.2)

leaf_below : (k : Shape) (A : Anchors) → AllByRecursion (λ (q : List ℕ × ℕ). (length q.0 < LONGEST_ANCHOR + 1) × AreBytes q.0 × (q.1 < k.leaves)) A → (x : ℕ) → list_any (eqb x) (map (λ (q : List ℕ × ℕ). q.1) A) ≡ true → x < k.leaves
leaf_below k [] a x any = absurd (false≢true any)
leaf_below k (q ∷ A) a x any = elim (eqb x q.1) as (λ (t : Bool). eqb x q.1 ≡ t → t || list_any (eqb x) (map (λ (q : List ℕ × ℕ). q.1) A) ≡ true → x < k.leaves) [
  | true ↦ λ is more. let same : x ≡ q.1 = eqb-true x q.1 is in omega (arith, same, a.0.2)
  | false ↦ λ is more. leaf_below k A a.1 x more
] refl any

-- there are no more anchors than leaves
pub leaves_fit : (k : Shape) (ws : List ℕ) (A : Anchors) → StandsFor k ws A → length A ≤ k.leaves
leaves_fit k ws A s =
    let n = length-le_from_distinct_below (map (λ (q : List ℕ × ℕ). q.1) A) k.leaves (leaves_distinct A s.anchors.rises) (leaf_below k A s.keys) in
    omega (arith, n, length-map A (λ (q : List ℕ × ℕ). q.1))

-- by its mark a leaf is live, or not
pub leaf_dead : (k : Shape) (ws : List ℕ) (A : Anchors) (leaf : ℕ) → StandsFor k ws A → mark_at k ws leaf ≡ 0 → has_leaf A leaf ≡ false
leaf_dead k ws A leaf s zero = elim (has_leaf A leaf) as (λ (t : Bool). has_leaf A leaf ≡ t → has_leaf A leaf ≡ false) [
  | true ↦ λ is. absurd (let live = live_leaf k ws A 0 leaf s.chained is in omega (arith, live.1, zero))
  | false ↦ λ is. is
] refl

pub leaf_lives : (k : Shape) (ws : List ℕ) (A : Anchors) (leaf : ℕ) → StandsFor k ws A → leaf < k.leaves → mark_at k ws leaf ≢ 0 → has_leaf A leaf ≡ true
leaf_lives k ws A leaf s l some = elim (has_leaf A leaf) as (λ (t : Bool). has_leaf A leaf ≡ t → has_leaf A leaf ≡ true) [
  | true ↦ λ is. is
  | false ↦ λ is. absurd (some (s.dead leaf l is))
] refl
