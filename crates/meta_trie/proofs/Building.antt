-- The first anchors of a list, and one more.
use Rattle.std.proofs.Common.{◌≡◌, ◌≢◌, ℕ, zero, suc, ◌+◌, ◌-◌, ◌*◌, ◌<◌, ◌≤◌, List, [], ◌∷◌, length, take, drop, Option, Some, None, sym, ap, ◌∙◌, refl, subst, arith, eqb-true}
use Rattle.std.specs.Prelude.{Bool, true, false, ◌&&◌, ◌||◌, not, eqb, is_some, map}
use Rattle.std.specs.List.{AllByRecursion, list_any}
use mathlib.Core.Bool.{false≢true}
use Rattle.std.proofs.lemmas.Map.Steps.{length-le_from_distinct_below}
use Rattle.std.proofs.lemmas.List.{length-map}
use Rattle.key_bytes.specs.Common.{lcp}
use Rattle.key_bytes.specs.Order.{is_below}
use Rattle.key_bytes.proofs.Orders.{not_below_empty}
use Rattle.anchor_rules.specs.Anchors.{Anchors, Span, anchor_at, leaf_at, next_anchor, span, cuts, Rises, AreAnchors, AreShort, splits, with_split}
use Rattle.anchor_rules.specs.Items.{first_leaf}
use Rattle.anchor_rules.proofs.Spans.{span_here, span_later}
use Rattle.anchor_rules.proofs.Edits.{split_here, split_later}
use Rattle.anchor_rules.proofs.Ats.{leaf_in}
use Rattle.map_model.specs.declared.refusal.TableFull.{TableFull}
use Rattle.map_model.specs.declared.refusal.TableFull.TheVariants.{Leaves, Items, Versions}
use Rattle.row_words.specs.declared.shape.Shape.{Shape}
use Rattle.row_words.specs.declared.layout.TheConstants.{LONGEST_ANCHOR, UPPER}
use Rattle.meta_trie.specs.Stands.{fresh_count, prefix_count, new_count, FitsSplit, AreItemsFull}
use Rattle.anchor_rules.proofs.Prefixes.{lcp_sym, lcp_short}
use Rattle.meta_trie.proofs.LeafRows.{leaves_distinct}
use Rattle.meta_trie.specs.Fits.{AreLeavesBelow, IsLeafPast}

-- a leaf that stands in a list differs from one that doesn't
apart : (A : Anchors) (i leaf : ℕ) → i < length A → span A leaf ≡ None → leaf ≢ leaf_at A i
apart A i leaf lt none = λ e. leaf_in A i leaf lt (sym e) none

-- the first anchors have no leaf that all haven't
none_taken : (A : Anchors) (n leaf : ℕ) → span A leaf ≡ None → span (take n A) leaf ≡ None
none_taken A zero leaf none = refl
none_taken [] (suc n) leaf none = refl
none_taken (x ∷ A) (suc n) leaf none =
    let ne : x.1 ≢ leaf = λ e. leaf_in (x ∷ A) 0 leaf (omega arith) e none in
    span_later x (take n A) leaf ne ∙ none_taken A n leaf (sym (span_later x A leaf ne) ∙ none)

-- one anchor more is a split behind the last one
take_split : (A : Anchors) (i : ℕ) → Rises A → suc i < length A → with_split (take (suc i) A) (leaf_at A i) (anchor_at A (suc i)) (leaf_at A (suc i)) ≡ take (suc (suc i)) A
take_split [] i r lt = absurd (omega arith)
take_split (x ∷ []) i r lt = absurd (omega arith)
take_split (x ∷ y ∷ A) zero r lt = split_here x [] x.1 y.0 y.1 refl
take_split (x ∷ y ∷ A) (suc i) r lt =
    split_later x (take (suc i) (y ∷ A)) (leaf_at (y ∷ A) i) (anchor_at (y ∷ A) (suc i)) (leaf_at (y ∷ A) (suc i)) (apart (y ∷ A) i x.1 (omega arith) r.1)
    ∙ ap (λ (B : Anchors). x ∷ B) (take_split (y ∷ A) i r.2 (omega arith))

-- the last anchor's span has no end
take_span : (A : Anchors) (i : ℕ) → Rises A → i < length A → span (take (suc i) A) (leaf_at A i) ≡ Some (anchor_at A i, None)
take_span [] i r lt = absurd (omega arith)
take_span (x ∷ A) zero r lt = span_here x [] x.1 refl
take_span (x ∷ A) (suc i) r lt = span_later x (take (suc i) A) (leaf_at A i) (apart A i x.1 (omega arith) r.1) ∙ take_span A i r.2 (omega arith)

-- the next leaf isn't among them
take_none : (A : Anchors) (i : ℕ) → Rises A → i < length A → span (take i A) (leaf_at A i) ≡ None
take_none A zero r lt = refl
take_none [] (suc i) r lt = refl
take_none (x ∷ A) (suc i) r lt = span_later x (take i A) (leaf_at A i) (apart A i x.1 (omega arith) r.1) ∙ take_none A i r.2 (omega arith)

below_at : (a : List ℕ) (A : Anchors) (i : ℕ) → i < length A → AllByRecursion (λ (y : List ℕ × ℕ). is_below a y.0 ≡ true) A → is_below a (anchor_at A i) ≡ true
below_at a [] i lt all = absurd (omega arith)
below_at a (x ∷ A) zero lt all = all.0
below_at a (x ∷ A) (suc i) lt all = below_at a A i (omega arith) all.1

next_below : (A : Anchors) (i : ℕ) → Rises A → suc i < length A → is_below (anchor_at A i) (anchor_at A (suc i)) ≡ true
next_below [] i r lt = absurd (omega arith)
next_below (x ∷ A) zero r lt = below_at x.0 A 0 (omega arith) r.0
next_below (x ∷ A) (suc i) r lt = next_below A i r.2 (omega arith)

take_splits : (A : Anchors) (i : ℕ) → Rises A → suc i < length A → splits (take (suc i) A) (leaf_at A i) (anchor_at A (suc i)) (leaf_at A (suc i)) ≡ true
take_splits A i r lt =
    ap (λ (s : Option Span). not (is_some s) && cuts (span (take (suc i) A) (leaf_at A i)) (anchor_at A (suc i))) (take_none A (suc i) r lt)
    ∙ ap (λ (s : Option Span). cuts s (anchor_at A (suc i))) (take_span A i r (omega arith))
    ∙ ap (λ (b : Bool). b && true) (next_below A i r lt)

-- the prefixes of one anchor more
fresh_more : (b : List ℕ) (A : Anchors) (i : ℕ) → suc i < length A → fresh_count b (take (suc (suc i)) A) ≡ fresh_count b (take (suc i) A) + (length (anchor_at A (suc i)) - lcp (anchor_at A i) (anchor_at A (suc i)))
fresh_more b [] i lt = absurd (omega arith)
fresh_more b (x ∷ []) i lt = absurd (omega arith)
fresh_more b (x ∷ y ∷ A) zero lt = omega arith
fresh_more b (x ∷ y ∷ A) (suc i) lt = let e = fresh_more x.0 (y ∷ A) i (omega arith) in omega (arith, e)

-- no more than those of all
fresh_taken : (b : List ℕ) (A : Anchors) (n : ℕ) → fresh_count b (take n A) ≤ fresh_count b A
fresh_taken b A zero = omega arith
fresh_taken b [] (suc n) = omega arith
fresh_taken b (x ∷ A) (suc n) = let e = fresh_taken x.0 A n in omega (arith, e)

-- there is room for one anchor more
fits_more : (k : Shape) (A : Anchors) (i : ℕ) → Rises A → suc i < length A → prefix_count A ≤ k.items → FitsSplit k (take (suc i) A) (leaf_at A i) (anchor_at A (suc i))
fits_more k A i r lt fit =
    let at = ap (λ (s : Option Span). new_count s (anchor_at A (suc i))) (take_span A i r (omega arith)) in
    let more = fresh_more [] A i lt in
    let most = fresh_taken [] A (suc (suc i)) in
    omega (arith, at, more, most, fit)

-- the leaf before it, and what is to be shown to put it in
pub record Next (k : Shape) (A : Anchors) (i : ℕ) : Type 0 where
  pub splits_so : splits (take i A) (leaf_at A (i - 1)) (anchor_at A i) (leaf_at A i) ≡ true
  pub fits : FitsSplit k (take i A) (leaf_at A (i - 1)) (anchor_at A i)
  pub longer : with_split (take i A) (leaf_at A (i - 1)) (anchor_at A i) (leaf_at A i) ≡ take (i + 1) A

pub next_of : (k : Shape) (A : Anchors) (i : ℕ) → AreAnchors A → 0 < i → i < length A → prefix_count A ≤ k.items → Next k A i
next_of k A zero are some lt fit = absurd (omega arith)
next_of k A (suc i) are some lt fit = record {
  splits_so = subst (λ (j : ℕ). splits (take (suc i) A) (leaf_at A j) (anchor_at A (suc i)) (leaf_at A (suc i)) ≡ true) one (take_splits A i are.rises lt);
  fits = subst (λ (j : ℕ). FitsSplit k (take (suc i) A) (leaf_at A j) (anchor_at A (suc i))) one (fits_more k A i are.rises lt fit);
  longer = ap (λ (j : ℕ). with_split (take (suc i) A) (leaf_at A j) (anchor_at A (suc i)) (leaf_at A (suc i))) (sym one) ∙ take_split A i are.rises lt ∙ ap (λ (n : ℕ). take n A) two;
}
  where
    one : i ≡ suc i - 1
    one = omega arith

    two : suc (suc i) ≡ suc i + 1
    two = omega arith

-- the first anchor
pub first_taken : (A : Anchors) → next_anchor A ≡ Some [] → first_leaf A ≡ 0 → take 1 A ≡ ([], 0) ∷ []
first_taken [] first leaf = absurd (cc)
first_taken (x ∷ A) first leaf = let e : x.0 ≡ [] = cc in λ i. (e i, leaf i) ∷ []

-- what is still to be counted
pub fresh_first : (A : Anchors) → next_anchor A ≡ Some [] → prefix_count A ≡ 1 + fresh_count (anchor_at A 0) (drop 1 A)
fresh_first [] first = absurd (cc)
fresh_first (x ∷ A) first = let e : x.0 ≡ [] = cc in let n = ap length e in omega (arith, n)

pub fresh_next : (b : List ℕ) (A : Anchors) (i : ℕ) → i < length A → fresh_count b (drop i A) ≡ (length (anchor_at A i) - lcp b (anchor_at A i)) + fresh_count (anchor_at A i) (drop (suc i) A)
fresh_next b [] i lt = absurd (omega arith)
fresh_next b (x ∷ A) zero lt = refl
fresh_next b (x ∷ A) (suc i) lt = fresh_next b A i (omega arith)

pub fresh_few : (b : List ℕ) (A : Anchors) → AreShort A → fresh_count b A ≤ 255 * length A
fresh_few b [] s = omega arith
fresh_few b (x ∷ A) s = let e = fresh_few x.0 A s.1 in omega (arith, e, s.0)

-- each leaf is below the cap, place by place
pub all_below : (cap : ℕ) (A : Anchors) → ((i : ℕ) → i < length A → leaf_at A i < cap) → AreLeavesBelow cap A
all_below cap [] h = tt
all_below cap (x ∷ A) h = (h 0 (omega arith), all_below cap A (λ i lt. h (suc i) (omega arith)))

pub below_place : (cap : ℕ) (A : Anchors) (i : ℕ) → AreLeavesBelow cap A → i < length A → leaf_at A i < cap
below_place cap [] i h lt = absurd (omega arith)
below_place cap (x ∷ A) zero h lt = h.0
below_place cap (x ∷ A) (suc i) h lt = below_place cap A i h.1 (omega arith)

leaf_below : (cap : ℕ) (A : Anchors) → AreLeavesBelow cap A → (x : ℕ) → list_any (eqb x) (map (λ (q : List ℕ × ℕ). q.1) A) ≡ true → x < cap
leaf_below cap [] a x any = absurd (false≢true any)
leaf_below cap (q ∷ A) a x any = elim (eqb x q.1) as (λ (t : Bool). eqb x q.1 ≡ t → t || list_any (eqb x) (map (λ (q : List ℕ × ℕ). q.1) A) ≡ true → x < cap) [
  | true ↦ λ is more. let same : x ≡ q.1 = eqb-true x q.1 is in omega (arith, same, a.0)
  | false ↦ λ is more. leaf_below cap A a.1 x more
] refl any

-- so there are no more anchors than that
pub few_leaves : (cap : ℕ) (A : Anchors) → AreAnchors A → AreLeavesBelow cap A → length A ≤ cap
few_leaves cap A are below =
    let n = length-le_from_distinct_below (map (λ (q : List ℕ × ℕ). q.1) A) cap (leaves_distinct A are.rises) (leaf_below cap A below) in
    omega (arith, n, length-map A (λ (q : List ℕ × ℕ). q.1))

-- a leaf at or past the cap
pub past_at : (cap : ℕ) (A : Anchors) (i : ℕ) → i < length A → cap ≤ leaf_at A i → IsLeafPast cap A
past_at cap A i lt past = (leaf_at A i, (some_span (span A (leaf_at A i)) (leaf_in A i (leaf_at A i) lt refl), past))
  where
    some_span : (s : Option Span) → s ≢ None → is_some s ≡ true
    some_span None ne = absurd (ne refl)
    some_span (Some s) ne = refl

pub short_at : (A : Anchors) (i : ℕ) → AreShort A → i < length A → length (anchor_at A i) < LONGEST_ANCHOR + 1
short_at [] i s lt = absurd (omega arith)
short_at (x ∷ A) zero s lt = s.0
short_at (x ∷ A) (suc i) s lt = short_at A i s.1 (omega arith)

-- each anchor but the first has a byte
pub some_at : (A : Anchors) (i : ℕ) → Rises A → 0 < i → i < length A → 0 < length (anchor_at A i)
some_at A zero r some lt = absurd (omega arith)
some_at A (suc i) r some lt = go (anchor_at A (suc i)) (next_below A i r lt)
  where
    go : (a : List ℕ) → is_below (anchor_at A i) a ≡ true → 0 < length a
    go [] e = absurd (false≢true (sym (not_below_empty (anchor_at A i)) ∙ e))
    go (x ∷ a) e = omega arith

pub some_anchor : (A : Anchors) → next_anchor A ≡ Some [] → 0 < length A
some_anchor [] first = absurd (cc)
some_anchor (x ∷ A) first = omega arith

pub fresh_done : (b : List ℕ) (A : Anchors) (n : ℕ) → length A ≤ n → fresh_count b (drop n A) ≡ 0
fresh_done b [] zero le = refl
fresh_done b [] (suc n) le = refl
fresh_done b (x ∷ A) zero le = absurd (omega arith)
fresh_done b (x ∷ A) (suc n) le = fresh_done b A n (omega arith)

pub lcp_within : (b a : List ℕ) → lcp b a ≤ length a
lcp_within b a = let s = lcp_sym b a in let l = lcp_short a b in omega (arith, s, l)

-- one step of the count, and what bounds it
pub record Counting (A : Anchors) (i count : ℕ) : Type 0 where
  pub more : count + (length (anchor_at A i) - lcp (anchor_at A (i - 1)) (anchor_at A i)) + fresh_count (anchor_at A i) (drop (i + 1) A) ≡ prefix_count A
  pub short : length (anchor_at A i) < LONGEST_ANCHOR + 1
  pub within : lcp (anchor_at A (i - 1)) (anchor_at A i) ≤ length (anchor_at A i)
  pub few : prefix_count A < UPPER

pub count_few : (A : Anchors) → AreShort A → length A ≤ 65536 → prefix_count A < UPPER
count_few A s few = let e = fresh_few [] A s in omega (arith, e, few)

pub counting : (A : Anchors) (i count : ℕ) → AreShort A → length A ≤ 65536 → i < length A → count + fresh_count (anchor_at A (i - 1)) (drop i A) ≡ prefix_count A → Counting A i count
counting A i count s few lt e =
    let n = fresh_next (anchor_at A (i - 1)) A i lt in
    let one : suc i ≡ i + 1 = omega arith in
    let m = ap (λ (j : ℕ). fresh_count (anchor_at A i) (drop j A)) one in
    record {
      more = omega (arith, e, n, m);
      short = short_at A i s lt;
      within = lcp_within (anchor_at A (i - 1)) (anchor_at A i);
      few = count_few A s few;
    }

-- where one anchor more fits the items aren't full
pub not_full : (k : Shape) (A : Anchors) (left : ℕ) (a : List ℕ) (full : TableFull) → FitsSplit k A left a → AreItemsFull k A left a full → ⊥
not_full k A left a (Leaves used cap) fit is = is
not_full k A left a (Items needed free) fit is = omega (arith, fit, is.0, is.1, is.2)
not_full k A left a (Versions version) fit is = is
