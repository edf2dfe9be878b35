-- Anchors that some rows stand for have room in each table of the shape.
use Rattle.std.proofs.Common.{◌≡◌, ℕ, ◌+◌, ◌-◌, ◌<◌, ◌≤◌, inl, inr, List, [], ◌∷◌, ◌++◌, length, Option, None, true, refl, ap, ◌∙◌, subst, arith}
use Rattle.std.specs.List.{AllByRecursion}
use Rattle.std.proofs.lemmas.Bool.{cases_eq}
use mathlib.Core.Bool.{false≢true}
use Rattle.key_bytes.specs.Lengths.{IsKey, AreBytes}
use Rattle.key_bytes.specs.Order.{is_below}
use Rattle.map_model.specs.declared.refusal.TableFull.{TableFull}
use Rattle.anchor_rules.specs.Anchors.{Anchors, is_before, span, splits, with_split, with_merge}
use Rattle.anchor_rules.specs.Items.{shared}
use Rattle.anchor_rules.proofs.Edits.{split_here, split_later, merge_here, merge_later}
use Rattle.anchor_rules.proofs.ItemChanges.{Place, place_of}
use Rattle.anchor_rules.proofs.Parts.{cut, none_later}
use Rattle.row_words.specs.declared.shape.Shape.{Shape}
use Rattle.row_words.specs.declared.layout.TheConstants.{LONGEST_ANCHOR}
use Rattle.meta_trie.specs.Stands.{StandsFor, fresh_count, prefix_count, new_count, FitsSplit, AreItemsFull}
use Rattle.meta_trie.proofs.Adding.{fresh-split}
use Rattle.meta_trie.proofs.Building.{not_full}

-- rows that stand for anchors have an item for each of their prefixes
pub standing_fits : (k : Shape) (ws : List ℕ) (A : Anchors) → StandsFor k ws A → prefix_count A ≤ k.items
standing_fits k ws A s = omega (arith, s.trie.counted, s.used)

-- a new anchor brings its own prefixes alone
pub count_split : (A : Anchors) (left : ℕ) (a : List ℕ) (right : ℕ) → splits A left a right ≡ true → prefix_count (with_split A left a right) ≡ prefix_count A + new_count (span A left) a
count_split A left a right can =
    let c = cut A left a right can in
    let p : Place A left c.low c.high = place_of A left c.low c.high c.is in
    let more = fresh-split p.front [] c.low left a right p.back c.above (ap (λ (h : Option (List ℕ)). is_before h a) p.next ∙ c.before) in
    let whole = ap (fresh_count []) p.whole in
    let beside = ap (shared c.low a) p.next in
    let after = ap prefix_count (p.split a right) in
    let own : new_count (span A left) a ≡ length a - shared c.low a c.high = ap (λ o. new_count o a) c.is in
    omega (arith, more, whole, beside, after, own)

-- what holds of the new anchor's pair, where it holds of all
split_has : (P : List ℕ × ℕ → Type 0) (A : Anchors) (left : ℕ) (a : List ℕ) (right : ℕ) → splits A left a right ≡ true → AllByRecursion P (with_split A left a right) → P (a, right)
split_has P A left a right can all =
    let c = cut A left a right can in
    let p : Place A left c.low c.high = place_of A left c.low c.high c.is in
    behind p.front c.low p.back (subst (AllByRecursion P) (p.split a right) all)
  where
    behind : (front : Anchors) (low : List ℕ) (back : Anchors) → AllByRecursion P (front ++ (low, left) ∷ (a, right) ∷ back) → P (a, right)
    behind [] low back all = all.1.0
    behind (x ∷ front) low back all = behind front low back all.1

above_some : (low a : List ℕ) → is_below low a ≡ true → 0 < length a
above_some [] [] e = absurd (false≢true e)
above_some (x ∷ low) [] e = absurd (false≢true e)
above_some low (x ∷ a) e = omega arith

module _ (k : Shape) (ws : List ℕ) (A : Anchors) (left : ℕ) (a : List ℕ) (right : ℕ) (s : StandsFor k ws (with_split A left a right)) (can : splits A left a right ≡ true) where
  fits : (length a < LONGEST_ANCHOR + 1) × AreBytes a × (right < k.leaves)
  fits = split_has (λ (q : List ℕ × ℕ). (length q.0 < LONGEST_ANCHOR + 1) × AreBytes q.0 × (q.1 < k.leaves)) A left a right can s.keys

  -- where some rows stand for the anchors with a split, its leaf is one of the shape
  pub split_leaf_below : right < k.leaves
  split_leaf_below = fits.2

  -- and its anchor could be a key
  pub split_key : IsKey a
  split_key = let c = cut A left a right can in (above_some c.low a c.above, fits.0, fits.1)

  -- and there are items enough for it, in each table
  pub split_fits : FitsSplit k A left a
  split_fits = omega (arith, standing_fits k ws (with_split A left a right) s, count_split A left a right can)

  -- so that no table lacks items
  pub never_full : (full : TableFull) → AreItemsFull k A left a full → ⊥
  never_full full is = not_full k A left a full split_fits is

-- without an anchor that was just put in the anchors are those from before
pub unsplit : (A : Anchors) (left : ℕ) (a : List ℕ) (right : ℕ) → span A right ≡ None → with_merge (with_split A left a right) right ≡ A
unsplit [] left a right none = refl
unsplit (x ∷ xs) left a right none =
    let other = none_later x xs right none in
    elim (cases_eq x.1 left) [
      | inl e ↦ ap (λ (B : Anchors). with_merge B right) (split_here x xs left a right e) ∙ merge_later x ((a, right) ∷ xs) right other.0 ∙ ap (λ (B : Anchors). x ∷ B) (merge_here (a, right) xs right refl)
      | inr ne ↦ ap (λ (B : Anchors). with_merge B right) (split_later x xs left a right ne) ∙ merge_later x (with_split xs left a right) right other.0 ∙ ap (λ (B : Anchors). x ∷ B) (unsplit xs left a right other.1)
    ]

-- and rows from which it was taken out again stand for those
pub unsplit_stands : (k : Shape) (ws : List ℕ) (A : Anchors) (left : ℕ) (a : List ℕ) (right : ℕ) → splits A left a right ≡ true → StandsFor k ws (with_merge (with_split A left a right) right) → StandsFor k ws A
unsplit_stands k ws A left a right can s = subst (StandsFor k ws) (unsplit A left a right (cut A left a right can).new) s
