-- Where a history fits, the table has room for a split of a leaf with more keys than it should have.
use Rattle.std.proofs.Common.{◌≡◌, ◌≢◌, ℕ, ◌+◌, ◌-◌, ◌*◌, ◌/◌, ◌<◌, ◌≤◌, List, [], ◌∷◌, ◌++◌, length, length-append, cond, Bool, true, false, Some, None, Option, is_some, refl, sym, ap, ◌∙◌, subst, arith, suc, zero, eqb, eqb-true}
use mathlib.Core.Bool.{false≢true}
use Rattle.std.proofs.lemmas.Nat.{le-div}
use Rattle.std.proofs.Math.Nat.{mul-le-mul_right}
use Rattle.anchor_rules.specs.Anchors.{Anchors, Span, Rises, span, has_leaf, next_anchor, with_merge}
use Rattle.anchor_rules.specs.Items.{longest_anchor}
use Rattle.anchor_rules.specs.Tally.{Tally, excess, sizes_of}
use Rattle.anchor_rules.proofs.Parts.{around}
use Rattle.anchor_rules.proofs.Spans.{span_later}
use Rattle.anchor_rules.proofs.Tallies.{excess_append, tally_looser}
use Rattle.leaf_spans.specs.Spread.{inside, size_in}
use Rattle.leaf_spans.specs.Tending.{IsLarge}
use Rattle.leaf_spans.proofs.Counts.{changes_bounded}
use Rattle.leaf_spans.proofs.Halving.{parting_short}
use Rattle.map_model.specs.Halves.{parting}
use Rattle.map_model.specs.History.{Entry, after}
use Rattle.map_model.specs.Maps.{Pairs}
use Rattle.map_model.specs.declared.refusal.TableFull.{TableFull}
use Rattle.map_model.specs.declared.refusal.TableFull.TheVariants.{Leaves, Items, Versions}
use Rattle.map_model.proofs.Histories.{ascending_history}
use Rattle.history_sizes.specs.Fits.{Fits}
use Rattle.history_sizes.specs.Sizes.{new_keys, longest_new}
use Rattle.history_sizes.proofs.Bounds.{keys_after, no_longer_weaker}
use Rattle.history_sizes.proofs.Rising.{new_keys-longer, longest_new-longer}
use Rattle.row_words.specs.declared.shape.Shape.{Shape}
use Rattle.meta_trie.specs.Stands.{AreLeavesFull, AreItemsFull, new_count, fresh_count, prefix_count}
use Rattle.split_room.specs.Room.{AreAccounted}

-- how many leaves there are, by the new keys
excess_large : (front : List ℕ) (c : ℕ) (back : List ℕ) (h : ℕ) → c - h ≤ excess h (front ++ c ∷ back)
excess_large front c back h = omega (arith, excess_append h front (c ∷ back))

length_sizes : (f : ℕ → ℕ) (A : Anchors) → length (sizes_of f A) ≡ length A
length_sizes f [] = refl
length_sizes f (x ∷ xs) = ap suc (length_sizes f xs)

sizes_split_at : (f : ℕ → ℕ) (xs ys : Anchors) → sizes_of f (xs ++ ys) ≡ sizes_of f xs ++ sizes_of f ys
sizes_split_at f [] ys = refl
sizes_split_at f (x ∷ xs) ys = ap (λ ns. f x.1 ∷ ns) (sizes_split_at f xs ys)

quotient_le : (h n p : ℕ) → 0 < h → h * n ≤ p → n ≤ p / h
quotient_le h n p some le = le-div n p h some (omega arith)

-- a leaf with more than twice h keys leaves room for one more
pub leaves_by_keys : (A : Anchors) (f : ℕ → ℕ) (leaf h p : ℕ) → Rises A → has_leaf A leaf ≡ true → 0 < h → 2 * h < f leaf → Tally (sizes_of f A) h p 0 → length A ≤ p / h
leaves_by_keys A f leaf h p rises has some large t =
    let w = around A leaf rises has in
    let sizes : sizes_of f A ≡ sizes_of f w.front ++ f leaf ∷ sizes_of f w.back = ap (sizes_of f) w.whole ∙ sizes_split_at f w.front ((w.anchor, leaf) ∷ w.back) in
    let more = excess_large (sizes_of f w.front) (f leaf) (sizes_of f w.back) h in
    let same : excess h (sizes_of f A) ≡ excess h (sizes_of f w.front ++ f leaf ∷ sizes_of f w.back) = ap (excess h) sizes in
    let len : length (sizes_of f A) ≡ length A = length_sizes f A in
    let product : h * (length (sizes_of f A) - 1) ≡ h * (length A - 1) = ap (λ n. h * (n - 1)) len in
    let one : 0 < length A = omega (arith, ap length w.whole, length-append w.front ((w.anchor, leaf) ∷ w.back)) in
    let step : h * (length A - 1 + 1) ≡ h * (length A - 1) + h = omega arith in
    let whole : length A - 1 + 1 ≡ length A = omega arith in
    let g = t.grown in
    quotient_le h (length A) p some (subst (λ n. h * n ≤ p) whole (omega arith))

-- as many anchors as there are leaves
without_leaf : (A : Anchors) (leaf : ℕ) → has_leaf A leaf ≡ true → length A ≡ length (with_merge A leaf) + 1
without_leaf [] leaf has = absurd (false≢true has)
without_leaf (x ∷ xs) leaf has = by (eqb x.1 leaf) has (without_leaf xs leaf)
  where
    by : (c : Bool) → is_some (cond c (Some (x.0, next_anchor xs)) (span xs leaf)) ≡ true → (has_leaf xs leaf ≡ true → length xs ≡ length (with_merge xs leaf) + 1) → suc (length xs) ≡ length (cond c xs (x ∷ with_merge xs leaf)) + 1
    by true has rest = omega arith
    by false has rest = let r = rest has in omega arith

others_stay : (A : Anchors) (leaf other : ℕ) → other ≢ leaf → has_leaf A other ≡ true → has_leaf (with_merge A leaf) other ≡ true
others_stay [] leaf other ne has = has
others_stay (x ∷ xs) leaf other ne has = by (eqb x.1 leaf) refl (λ still. others_stay xs leaf other ne still)
  where
    beside : (c : Bool) → is_some (cond c (Some (x.0, next_anchor xs)) (span xs other)) ≡ true → (has_leaf xs other ≡ true → has_leaf (with_merge xs leaf) other ≡ true)
        → is_some (cond c (Some (x.0, next_anchor (with_merge xs leaf))) (span (with_merge xs leaf) other)) ≡ true
    beside true has rest = refl
    beside false has rest = rest has

    by : (c : Bool) → eqb x.1 leaf ≡ c → (has_leaf xs other ≡ true → has_leaf (with_merge xs leaf) other ≡ true) → has_leaf (cond c xs (x ∷ with_merge xs leaf)) other ≡ true
    by true is rest = ap (λ (o : Option Span). is_some o) (sym (span_later x xs other (λ e. ne (sym e ∙ eqb-true x.1 leaf is)))) ∙ has
    by false is rest = beside (eqb x.1 other) has rest

all_leaves : (n : ℕ) (A : Anchors) → ((leaf : ℕ) → leaf < n → has_leaf A leaf ≡ true) → n ≤ length A
all_leaves zero A all = omega arith
all_leaves (suc n) A all =
    let here = without_leaf A n (all n (omega arith)) in
    let rest = all_leaves n (with_merge A n) (λ leaf lt. others_stay A n leaf (λ e. absurd (omega arith)) (all leaf (omega arith))) in
    omega arith

-- how many prefixes anchors have
fresh_few : (before : List ℕ) (A : Anchors) (l : ℕ) → longest_anchor A ≤ l → fresh_count before A ≤ length A * l
fresh_few before [] l short = omega arith
fresh_few before (q ∷ A) l short = let rest = fresh_few q.0 A l (omega arith) in omega arith

few_prefixes : (A : Anchors) (l : ℕ) → next_anchor A ≡ Some [] → longest_anchor A ≤ l → prefix_count A ≤ 1 + (length A - 1) * l
few_prefixes [] l first short = absurd (cc)
few_prefixes (q ∷ A) l first short =
    let empty : q.0 ≡ [] = cc in
    let none : length q.0 ≡ 0 = ap (λ (k : List ℕ). length k) empty in
    let rest = fresh_few q.0 A l (omega arith) in
    let same : (length (q ∷ A) - 1) * l ≡ length A * l = ap (λ n. n * l) (omega arith) in
    omega arith

new_few : (o : Option Span) (a : List ℕ) → new_count o a ≤ length a
new_few None a = omega arith
new_few (Some s) a = omega arith

any_anchor : (A : Anchors) → next_anchor A ≡ Some [] → 0 < length A
any_anchor [] first = absurd (cc)
any_anchor (q ∷ A) first = omega arith

-- a leaf with keys is live
large_live : (A : Anchors) (leaf : ℕ) (m : Pairs (List ℕ)) → 0 < size_in A m leaf → has_leaf A leaf ≡ true
large_live A leaf m some = by (span A leaf) some
  where
    by : (o : Option Span) → 0 < length (inside o m) → is_some o ≡ true
    by None some = absurd (omega arith)
    by (Some s) some = refl

module _ (k : Shape) (A : Anchors) (h more : List Entry) (changes leaf : ℕ) (soft : 2 ≤ k.soft) (is : AreAccounted k A h changes) (large : IsLarge (size_in A (after h)) k.soft leaf) (fits : Fits k.values k.leaves k.items k.soft (h ++ more)) where
  keys : new_keys h ≤ new_keys (h ++ more)
  keys = new_keys-longer h more

  count : length A ≤ new_keys (h ++ more) / (k.soft / 2)
  count = leaves_by_keys A (size_in A (after h)) leaf (k.soft / 2) (new_keys (h ++ more)) is.anchors.rises (large_live A leaf (after h) (let z = large in omega arith)) (omega arith) (let z = large in omega arith)
      (tally_looser _ (k.soft / 2) (new_keys h) (new_keys (h ++ more)) changes 0 keys (omega arith) is.counted.tally)

  longest : longest_new h ≤ longest_new (h ++ more)
  longest = longest_new-longer h more

  parting_size : length (parting (inside (span A leaf) (after h))) ≤ longest_new (h ++ more)
  parting_size = parting_short (after h) (span A leaf) (ascending_history h) (let z = large in omega arith) (longest_new (h ++ more))
      (no_longer_weaker _ _ (after h) longest (keys_after h is.legal))

  pub no_leaves : (why : TableFull) → AreLeavesFull k A why → ⊥
  no_leaves (Leaves used most) full = let c = count in let a = all_leaves k.leaves A full.2 in let f = fits.split in let e = full.1 in absurd (omega arith)
  no_leaves (Items needed free) full = full
  no_leaves (Versions version) full = full

  pub no_items : (why : TableFull) → AreItemsFull k A leaf (parting (inside (span A leaf) (after h))) why → ⊥
  no_items (Leaves used most) full = full
  no_items (Items needed free) full =
      let c = count in
      let a = parting_size in
      let n = new_few (span A leaf) (parting (inside (span A leaf) (after h))) in
      let b = few_prefixes A (longest_new (h ++ more)) is.anchors.first (omega (arith, is.counted.short, longest)) in
      let some : 0 < length A = any_anchor A is.anchors.first in
      let f = fits.prefixes in
      let wide : length A * longest_new (h ++ more) ≤ (new_keys (h ++ more) / (k.soft / 2)) * longest_new (h ++ more) = mul-le-mul_right (longest_new (h ++ more)) c in
      let step : (length A - 1 + 1) * longest_new (h ++ more) ≡ (length A - 1) * longest_new (h ++ more) + longest_new (h ++ more) = omega arith in
      let same : (length A - 1 + 1) * longest_new (h ++ more) ≡ length A * longest_new (h ++ more) = ap (λ n. n * longest_new (h ++ more)) (omega arith) in
      let x = full.0 in
      let y = full.1 in
      let z = full.2 in
      absurd (omega arith)
  no_items (Versions version) full = full

-- two changes take a new key
pub few_changes : (k : Shape) (A : Anchors) (h more : List Entry) (changes : ℕ) → 2 ≤ k.soft → AreAccounted k A h changes → Fits k.values k.leaves k.items k.soft (h ++ more) → changes ≤ 2 * k.values
few_changes k A h more changes soft is fits =
    let bound = changes_bounded A (size_in A (after h)) k.soft (new_keys h) changes (longest_new h) is.counted in
    let some : 0 < length A = any_anchor A is.anchors.first in
    let live = fits.live in
    let keys = new_keys-longer h more in
    let least : 1 * (changes + length A - 1) ≤ k.soft / 2 * (changes + length A - 1) = mul-le-mul_right (changes + length A - 1) (omega arith) in
    omega (arith, bound, live, keys, least, some)
