-- What calls, splits and merges do to the bounds on leaves and anchors.
use Rattle.std.proofs.Common.{◌≡◌, ◌≢◌, ℕ, ◌+◌, ◌-◌, ◌*◌, ◌/◌, ◌<◌, ◌≤◌, List, [], ◌∷◌, length, true, false, Option, Some, None, is_some, inl, inr, refl, sym, ap, ◌∙◌, subst, arith, true≢false}
use Rattle.std.specs.List.{AllByRecursion}
use Rattle.std.proofs.lemmas.List.{length-map}
use Rattle.anchor_rules.specs.Anchors.{Anchors, Span, span, has_leaf, Rises, AreAnchors, with_split, adjacent, with_merge}
use Rattle.anchor_rules.specs.Tally.{sizes_of}
use Rattle.anchor_rules.proofs.Longest.{longest_split, longest_merge}
use Rattle.anchor_rules.proofs.Sizes.{sizes_first, sizes_grow, sizes_fall, sizes_split, sizes_merge}
use Rattle.anchor_rules.proofs.Tallies.{tally_looser}
use Rattle.map_model.specs.Calls.{Call, answer_of, map_after}
use Rattle.map_model.specs.Halves.{stay_count, parting}
use Rattle.map_model.specs.Maps.{Pairs, IsMap}
use Rattle.leaf_spans.specs.Calls.{Lies, CountsNew}
use Rattle.leaf_spans.specs.Counting.{Counted, AreFew}
use Rattle.leaf_spans.specs.Spread.{inside, size_in}
use Rattle.leaf_spans.proofs.Calls.{GrowsBy, grows_by, answer_part, after_part, other_part}
use Rattle.leaf_spans.proofs.Halving.{parting_short, stay_size, go_size, split_size_other}
use Rattle.leaf_spans.proofs.Merging.{merge_size, merge_size_emptied, merge_size_other}
use Rattle.leaf_spans.proofs.Replies.{counts_up}
use Rattle.leaf_spans.proofs.Sizes.{few_where, few_halved, few_joined}
use Rattle.leaf_spans.proofs.Spreads.{inside_up}

-- one leaf of no keys
pub counted_first : (size : ℕ → ℕ) (leaf soft : ℕ) → size leaf ≡ 0 → Counted (([], leaf) ∷ []) size soft 0 0 0
counted_first size leaf soft none = record { tally = sizes_first size leaf (soft / 2) none; short = omega arith }

-- more and longer new keys, and fewer changes of anchors
pub counted_looser : (A : Anchors) (size : ℕ → ℕ) (soft p q v w l m : ℕ) → p ≤ q → w ≤ v → l ≤ m → Counted A size soft p v l → Counted A size soft q w m
counted_looser A size soft p q v w l m more less longer c = record { tally = tally_looser (sizes_of size A) (soft / 2) p q v w more less c.tally; short = let s = c.short in omega arith }

-- over sizes alone
module _ (A : Anchors) (rises : Rises A) (size new : ℕ → ℕ) (soft p v longest : ℕ) (c : Counted A size soft p v longest) where
  -- a leaf gets a new key
  pub counted_grow : (leaf : ℕ) → has_leaf A leaf ≡ true → new leaf ≡ size leaf + 1 → ((i : ℕ) → i ≢ leaf → new i ≡ size i) → Counted A new soft (p + 1) v longest
  counted_grow leaf has more others = record { tally = sizes_grow A rises size new (soft / 2) p v leaf has more others c.tally; short = c.short }

  -- a leaf gets no new key
  pub counted_fall : (leaf : ℕ) → has_leaf A leaf ≡ true → new leaf ≤ size leaf → ((i : ℕ) → i ≢ leaf → new i ≡ size i) → Counted A new soft p v longest
  counted_fall leaf has less others = record { tally = sizes_fall A rises size new (soft / 2) p v leaf has less others c.tally; short = c.short }

  -- a leaf with too many keys gives the upper half to a new one
  pub counted_halves : (l r : ℕ) (a : List ℕ) → has_leaf A l ≡ true → span A r ≡ None → soft < size l → length a ≤ longest
      → new l ≡ stay_count (size l) → new r ≡ size l - stay_count (size l) → ((i : ℕ) → i ≢ l → i ≢ r → new i ≡ size i)
      → Counted (with_split A l a r) new soft p (v + 1) longest
  counted_halves l r a has dead large short stay go others = record {
    tally = sizes_split A rises size new (soft / 2) p v l r a has dead (omega arith) stay go others c.tally;
    short = let s = c.short in omega (arith, longest_split A l a r);
  }

  -- a leaf takes the keys of the next one
  pub counted_joins : (merge_sum l r : ℕ) → merge_sum ≤ soft / 2 → adjacent A l r ≡ true → size l + size r ≤ merge_sum
      → new l ≡ size l + size r → ((i : ℕ) → i ≢ l → i ≢ r → new i ≡ size i)
      → Counted (with_merge A r) new soft p (v + 1) longest
  counted_joins merge_sum l r sum next small both others = record {
    tally = sizes_merge A rises size new (soft / 2) p v l r next (omega arith) both others c.tally;
    short = let s = c.short in omega (arith, longest_merge A r);
  }

-- over a map and its leaves
module _ (A : Anchors) (are : AreAnchors A) (m : Pairs (List ℕ)) (up : IsMap m) where
  module _ (leaf : ℕ) (s : Span) (is : span A leaf ≡ Some s) (call : Call) (lies : Lies s call) where
    -- the part of the call's leaf afterwards
    pub leaf_after : inside (span A leaf) (map_after m call) ≡ map_after (inside (span A leaf) m) call
    leaf_after = ap (λ o. inside o (map_after m call)) is ∙ (sym (after_part s m up call lies) ∙ ap (λ o. map_after (inside o m) call) (sym is))

    -- and its reply
    pub leaf_answer : answer_of (inside (span A leaf) m) call ≡ answer_of m call
    leaf_answer = ap (λ o. answer_of (inside o m) call) is ∙ answer_part s m up call lies

    pub call_other : (other : ℕ) → other ≢ leaf → size_in A (map_after m call) other ≡ size_in A m other
    call_other other ne = ap length (other_part A are leaf other ne s is m up call lies)

    -- a leaf has one key more after a call that answers New, and no more after any other
    pub call_grows : GrowsBy (answer_of m call) (size_in A m leaf) (size_in A (map_after m call) leaf)
    call_grows = subst (λ r. GrowsBy r (size_in A m leaf) (size_in A (map_after m call) leaf)) leaf_answer (subst (λ n. GrowsBy (answer_of (inside (span A leaf) m) call) (size_in A m leaf) n) (sym (ap length leaf_after)) (grows_by (inside (span A leaf) m) (inside_up m up (span A leaf)) call))

    pub counted_call : (soft p q v longest now : ℕ) → CountsNew (answer_of m call) p q → longest ≤ now → Counted A (size_in A m) soft p v longest → Counted A (size_in A (map_after m call)) soft q v now
    counted_call soft p q v longest now counts longer c =
        let has : has_leaf A leaf ≡ true = ap (λ (o : Option Span). is_some o) is in
        elim call_grows [
          | inl t ↦
              let q_is : q ≡ p + 1 = subst (λ r. CountsNew r p q) t.0 counts in
              counted_looser A (size_in A (map_after m call)) soft (p + 1) q v v longest now (omega arith) (omega arith) longer (counted_grow A are.rises (size_in A m) (size_in A (map_after m call)) soft p v longest c leaf has t.1 call_other)
          | inr t ↦ counted_looser A (size_in A (map_after m call)) soft p q v v longest now (counts_up (answer_of m call) p q counts) (omega arith) longer (counted_fall A are.rises (size_in A m) (size_in A (map_after m call)) soft p v longest c leaf has t.1 call_other)
        ]

    pub few_call : (hard : ℕ) → size_in A (map_after m call) leaf ≤ hard → AreFew (size_in A m) hard → AreFew (size_in A (map_after m call)) hard
    few_call hard here few = few_where (size_in A m) (size_in A (map_after m call)) hard leaf few call_other here

-- a leaf with too many keys is split at its parting anchor
module _ {V : Type 0} (A : Anchors) (are : AreAnchors A) (m : Pairs V) (up : IsMap m) (l r soft : ℕ) (some : 0 < soft) (large : soft < size_in A m l) (dead : has_leaf A r ≡ false) where
  abbrev parted : Anchors
  parted = with_split A l (parting (inside (span A l) m)) r

  live : has_leaf A l ≡ true
  live = by (span A l) large
    where
      by : (o : Option Span) → soft < length (inside o m) → is_some o ≡ true
      by None h = absurd (omega arith)
      by (Some s) h = refl

  pub counted_split : (p v longest : ℕ) → AllByRecursion (λ (x : List ℕ × V). length x.0 ≤ longest) m → Counted A (size_in A m) soft p v longest → Counted parted (size_in parted m) soft p (v + 1) longest
  counted_split p v longest all c =
      let many : 1 < size_in A m l = omega arith in
      counted_halves A are.rises (size_in A m) (size_in parted m) soft p v longest c l r (parting (inside (span A l) m)) live (not_there (span A r) dead) large
      (parting_short m (span A l) up many longest all) (stay_size A m l r up many dead) (go_size A m l r up many dead) (split_size_other A m l r up many dead)
    where
      not_there : (o : Option Span) → is_some o ≡ false → o ≡ None
      not_there None e = refl
      not_there (Some s) e = absurd (true≢false e)

  pub few_split_in : (hard : ℕ) → AreFew (size_in A m) hard → AreFew (size_in parted m) hard
  few_split_in hard few =
      let many : 1 < size_in A m l = omega arith in
      few_halved (size_in A m) (size_in parted m) hard l r few (split_size_other A m l r up many dead) (stay_size A m l r up many dead) (go_size A m l r up many dead)

-- two neighbours with few keys become one
module _ {V : Type 0} (A : Anchors) (are : AreAnchors A) (m : Pairs V) (up : IsMap m) (l r merge_sum : ℕ) (next : adjacent A l r ≡ true) (small : size_in A m l + size_in A m r ≤ merge_sum) where
  pub counted_merge : (soft p v longest : ℕ) → merge_sum ≤ soft / 2 → Counted A (size_in A m) soft p v longest → Counted (with_merge A r) (size_in (with_merge A r) m) soft p (v + 1) longest
  counted_merge soft p v longest sum c =
      counted_joins A are.rises (size_in A m) (size_in (with_merge A r) m) soft p v longest c merge_sum l r sum next small (merge_size A m l r are.rises up next) (merge_size_other A m l r are.rises up next)

  pub few_merge_in : (hard : ℕ) → merge_sum ≤ hard → AreFew (size_in A m) hard → AreFew (size_in (with_merge A r) m) hard
  few_merge_in hard within few =
      few_joined (size_in A m) (size_in (with_merge A r) m) hard l r few (merge_size_other A m l r are.rises up next) (omega arith) (merge_size A m l r are.rises up next) (merge_size_emptied A m l r are.rises up next)

-- what the count bounds: how many leaves there are, and how many changes of anchors there were
pub leaves_bounded : (A : Anchors) (size : ℕ → ℕ) (soft p v longest : ℕ) → Counted A size soft p v longest → soft / 2 * (length A - 1) ≤ p
leaves_bounded A size soft p v longest c =
    let g = c.tally.grown in
    let n : soft / 2 * (length (sizes_of size A) - 1) ≡ soft / 2 * (length A - 1) = ap (λ k. soft / 2 * (k - 1)) (length-map A (λ (x : List ℕ × ℕ). size x.1)) in
    omega (arith, g, n)

pub changes_bounded : (A : Anchors) (size : ℕ → ℕ) (soft p v longest : ℕ) → Counted A size soft p v longest → soft / 2 * (v + length A - 1) ≤ 2 * p
changes_bounded A size soft p v longest c =
    let g = c.tally.changed in
    let n : soft / 2 * (v + length (sizes_of size A) - 1) ≡ soft / 2 * (v + length A - 1) = ap (λ k. soft / 2 * (v + k - 1)) (length-map A (λ (x : List ℕ × ℕ). size x.1)) in
    omega (arith, g, n)
