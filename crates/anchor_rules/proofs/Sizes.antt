-- The four changes that keep the count, as changes of the leaves' sizes and of the anchors.
use Rattle.std.proofs.Common.{◌≡◌, ◌≢◌, ℕ, ◌+◌, ◌-◌, ◌*◌, ◌/◌, ◌<◌, ◌≤◌, List, [], ◌∷◌, ◌++◌, true, None, refl, sym, ap, ◌∙◌, subst}
use mathlib.Core.Logic.{dite}
use native.Mathlib.Decide.{ℕ_discrete}
use Rattle.anchor_rules.specs.Anchors.{Anchors, span, has_leaf, Rises, with_split, adjacent, with_merge}
use Rattle.anchor_rules.specs.Tally.{Tally, sizes_of}
use Rattle.anchor_rules.proofs.Spans.{span_here, span_later, no_span}
use Rattle.anchor_rules.proofs.Parts.{Around, around, beside, none_in_front, none_behind, none_later, split_around, merge_around}
use Rattle.anchor_rules.proofs.Tallies.{tally_first, tally_grows, tally_falls, tally_splits, tally_merges}

-- a leaf that stands in a list isn't one that doesn't
in_and_out : (xs : Anchors) (leaf i : ℕ) → span xs leaf ≡ None → span xs i ≢ None → i ≢ leaf
in_and_out xs leaf i none some = λ e. some (ap (span xs) e ∙ none)

module _ (f g : ℕ → ℕ) where
  same_sizes : (xs : Anchors) → ((i : ℕ) → span xs i ≢ None → g i ≡ f i) → sizes_of g xs ≡ sizes_of f xs
  same_sizes [] same = refl
  same_sizes (x ∷ xs) same =
      let here : g x.1 ≡ f x.1 = same x.1 (λ e. no_span (sym (span_here x xs x.1 refl) ∙ e)) in
      let later : sizes_of g xs ≡ sizes_of f xs = same_sizes xs (λ i some. same i (still i some)) in
      ap (λ n. n ∷ sizes_of g xs) here ∙ ap (λ ns. f x.1 ∷ ns) later
    where
      still : (i : ℕ) → span xs i ≢ None → span (x ∷ xs) i ≢ None
      still i some = λ none. dite (ℕ_discrete x.1 i)
          (λ e. no_span (sym (span_here x xs i e) ∙ none))
          (λ ne. some (sym (span_later x xs i ne) ∙ none))

sizes_append : (f : ℕ → ℕ) (xs ys : Anchors) → sizes_of f (xs ++ ys) ≡ sizes_of f xs ++ sizes_of f ys
sizes_append f [] ys = refl
sizes_append f (x ∷ xs) ys = ap (λ ns. f x.1 ∷ ns) (sizes_append f xs ys)

module _ (A : Anchors) (rises : Rises A) (f g : ℕ → ℕ) (h p v : ℕ) where
  -- the sizes around one leaf
  around_leaf : (leaf : ℕ) (w : Around A leaf) → sizes_of f A ≡ sizes_of f w.front ++ f leaf ∷ sizes_of f w.back
  around_leaf leaf w = ap (sizes_of f) w.whole ∙ sizes_append f w.front ((w.anchor, leaf) ∷ w.back)

  changed_leaf : (leaf : ℕ) (w : Around A leaf) → ((i : ℕ) → i ≢ leaf → g i ≡ f i) → sizes_of g A ≡ sizes_of f w.front ++ g leaf ∷ sizes_of f w.back
  changed_leaf leaf w others =
      let front : sizes_of g w.front ≡ sizes_of f w.front = same_sizes f g w.front (λ i some. others i (in_and_out w.front leaf i w.not_in_front some)) in
      let back : sizes_of g w.back ≡ sizes_of f w.back = same_sizes f g w.back (λ i some. others i (in_and_out w.back leaf i w.not_in_back some)) in
      ap (sizes_of g) w.whole ∙ (sizes_append g w.front ((w.anchor, leaf) ∷ w.back) ∙ (ap (λ ns. ns ++ g leaf ∷ sizes_of g w.back) front ∙ ap (λ ns. sizes_of f w.front ++ g leaf ∷ ns) back))

  -- a leaf gets a new key
  pub sizes_grow : (leaf : ℕ) → has_leaf A leaf ≡ true → g leaf ≡ f leaf + 1 → ((i : ℕ) → i ≢ leaf → g i ≡ f i) → Tally (sizes_of f A) h p v → Tally (sizes_of g A) h (p + 1) v
  sizes_grow leaf has more others t =
      let w = around A leaf rises has in
      let new : sizes_of g A ≡ sizes_of f w.front ++ (f leaf + 1) ∷ sizes_of f w.back = changed_leaf leaf w others ∙ ap (λ n. sizes_of f w.front ++ n ∷ sizes_of f w.back) more in
      subst (λ ns. Tally ns h (p + 1) v) (sym new) (tally_grows (sizes_of f w.front) (sizes_of f w.back) h p v (f leaf) (subst (λ ns. Tally ns h p v) (around_leaf leaf w) t))

  -- a leaf loses keys
  pub sizes_fall : (leaf : ℕ) → has_leaf A leaf ≡ true → g leaf ≤ f leaf → ((i : ℕ) → i ≢ leaf → g i ≡ f i) → Tally (sizes_of f A) h p v → Tally (sizes_of g A) h p v
  sizes_fall leaf has less others t =
      let w = around A leaf rises has in
      subst (λ ns. Tally ns h p v) (sym (changed_leaf leaf w others)) (tally_falls (sizes_of f w.front) (sizes_of f w.back) h p v (f leaf) (g leaf) less (subst (λ ns. Tally ns h p v) (around_leaf leaf w) t))

  -- a leaf gives the upper half of its keys to a new one
  pub sizes_split : (l r : ℕ) (a : List ℕ) → has_leaf A l ≡ true → span A r ≡ None → 2 * h < f l → g l ≡ (f l + 1) / 2 → g r ≡ f l - (f l + 1) / 2 → ((i : ℕ) → i ≢ l → i ≢ r → g i ≡ f i) → Tally (sizes_of f A) h p v → Tally (sizes_of g (with_split A l a r)) h p (v + 1)
  sizes_split l r a has new large left right others t =
      let w = around A l rises has in
      let none : span (w.front ++ (w.anchor, l) ∷ w.back) r ≡ None = ap (λ zs. span zs r) (sym w.whole) ∙ new in
      let r_front : span w.front r ≡ None = none_in_front w.front ((w.anchor, l) ∷ w.back) r none in
      let r_back = none_later (w.anchor, l) w.back r (none_behind w.front ((w.anchor, l) ∷ w.back) r none) in
      let front : sizes_of g w.front ≡ sizes_of f w.front = same_sizes f g w.front (λ i some. others i (in_and_out w.front l i w.not_in_front some) (in_and_out w.front r i r_front some)) in
      let back : sizes_of g w.back ≡ sizes_of f w.back = same_sizes f g w.back (λ i some. others i (in_and_out w.back l i w.not_in_back some) (in_and_out w.back r i r_back.1 some)) in
      let cut_up : with_split A l a r ≡ w.front ++ (w.anchor, l) ∷ (a, r) ∷ w.back = ap (λ zs. with_split zs l a r) w.whole ∙ split_around w.front (w.anchor, l) w.back a r w.not_in_front in
      let now : sizes_of g (with_split A l a r) ≡ sizes_of f w.front ++ (f l + 1) / 2 ∷ (f l - (f l + 1) / 2) ∷ sizes_of f w.back =
      ap (sizes_of g) cut_up ∙ (sizes_append g w.front ((w.anchor, l) ∷ (a, r) ∷ w.back) ∙ (ap (λ ns. ns ++ g l ∷ g r ∷ sizes_of g w.back) front ∙ (ap (λ ns. sizes_of f w.front ++ g l ∷ g r ∷ ns) back
      ∙ (ap (λ n. sizes_of f w.front ++ n ∷ g r ∷ sizes_of f w.back) left ∙ ap (λ n. sizes_of f w.front ++ (f l + 1) / 2 ∷ n ∷ sizes_of f w.back) right)))) in
      subst (λ ns. Tally ns h p (v + 1)) (sym now) (tally_splits (sizes_of f w.front) (sizes_of f w.back) h p v (f l) large (subst (λ ns. Tally ns h p v) (around_leaf l w) t))

  -- a leaf takes the keys of the next one
  pub sizes_merge : (l r : ℕ) → adjacent A l r ≡ true → f l + f r ≤ h → g l ≡ f l + f r → ((i : ℕ) → i ≢ l → i ≢ r → g i ≡ f i) → Tally (sizes_of f A) h p v → Tally (sizes_of g (with_merge A r)) h p (v + 1)
  sizes_merge l r next small left others t =
      let w = beside A l r rises next in
      let front : sizes_of g w.front ≡ sizes_of f w.front = same_sizes f g w.front (λ i some. others i (in_and_out w.front l i w.front_left some) (in_and_out w.front r i w.front_right some)) in
      let back : sizes_of g w.back ≡ sizes_of f w.back = same_sizes f g w.back (λ i some. others i (in_and_out w.back l i w.back_left some) (in_and_out w.back r i w.back_right some)) in
      let old : sizes_of f A ≡ sizes_of f w.front ++ f l ∷ f r ∷ sizes_of f w.back = ap (sizes_of f) w.whole ∙ sizes_append f w.front ((w.left, l) ∷ (w.right, r) ∷ w.back) in
      let joined : with_merge A r ≡ w.front ++ (w.left, l) ∷ w.back = ap (λ zs. with_merge zs r) w.whole ∙ merge_around w.front (w.left, l) (w.right, r) w.back w.front_right w.apart in
      let now : sizes_of g (with_merge A r) ≡ sizes_of f w.front ++ (f l + f r) ∷ sizes_of f w.back =
      ap (sizes_of g) joined ∙ (sizes_append g w.front ((w.left, l) ∷ w.back) ∙ (ap (λ ns. ns ++ g l ∷ sizes_of g w.back) front ∙ (ap (λ ns. sizes_of f w.front ++ g l ∷ ns) back
      ∙ ap (λ n. sizes_of f w.front ++ n ∷ sizes_of f w.back) left))) in
      subst (λ ns. Tally ns h p (v + 1)) (sym now) (tally_merges (sizes_of f w.front) (sizes_of f w.back) h p v (f l) (f r) small (subst (λ ns. Tally ns h p v) old t))

-- one leaf with no key
pub sizes_first : (f : ℕ → ℕ) (leaf h : ℕ) → f leaf ≡ 0 → Tally (sizes_of f (([], leaf) ∷ [])) h 0 0
sizes_first f leaf h none = subst (λ n. Tally (n ∷ []) h 0 0) (sym none) (tally_first h)
