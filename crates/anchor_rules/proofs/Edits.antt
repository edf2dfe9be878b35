-- The spans after a split and after a merge.
use Rattle.std.proofs.Common.{◌≡◌, ◌≢◌, ℕ, List, [], ◌∷◌, true, false, cond, eqb, Option, Some, None, sym, refl, ap, ◌∙◌, subst, eq-eqb, ne_eqb, true≢false}
use mathlib.Core.Logic.{dite}
use native.Mathlib.Decide.{ℕ_discrete}
use Rattle.std.specs.List.{AllByRecursion}
use Rattle.key_bytes.specs.Order.{is_below}
use Rattle.key_bytes.proofs.Conditions.{some_same}
use Rattle.key_bytes.proofs.Orders.{below_trans, not_below_itself}
use Rattle.anchor_rules.specs.Anchors.{Anchors, Span, is_before, next_anchor, span, Rises, AreAnchors, with_split, with_merge}
use Rattle.anchor_rules.proofs.Spans.{Over, over_next, span_here, span_later, no_span}

abbrev start_of : List ℕ → Option Span → List ℕ
start_of d None = d
start_of d (Some s) = s.0

abbrev end_of : Option Span → Option (List ℕ)
end_of None = None
end_of (Some s) = s.1

same_start : (a b : List ℕ) (s t : Option (List ℕ)) → ◌≡◌ {A = Option Span} (Some (a, s)) (Some (b, t)) → a ≡ b
same_start a b s t e = ap (start_of a) e

same_end : (a b : List ℕ) (s t : Option (List ℕ)) → ◌≡◌ {A = Option Span} (Some (a, s)) (Some (b, t)) → s ≡ t
same_end a b s t e = ap end_of e

-- spans among anchors above a key lie above it
over_start : (key : List ℕ) (xs : Anchors) (leaf : ℕ) (lo : List ℕ) (hi : Option (List ℕ)) → Over key xs → span xs leaf ≡ Some (lo, hi) → is_below key lo ≡ true
over_start key [] leaf lo hi over e = absurd (cc)
over_start key (x ∷ xs) leaf lo hi over e = dite (ℕ_discrete x.1 leaf)
    (λ same. subst (λ a. is_below key a ≡ true) (same_start x.0 lo (next_anchor xs) hi (sym (span_here x xs leaf same) ∙ e)) over.0)
    (λ ne. over_start key xs leaf lo hi over.1 (sym (span_later x xs leaf ne) ∙ e))

over_end : (key : List ℕ) (xs : Anchors) (leaf : ℕ) (lo mid : List ℕ) → Over key xs → span xs leaf ≡ Some (lo, Some mid) → is_below key mid ≡ true
over_end key [] leaf lo mid over e = absurd (cc)
over_end key (x ∷ []) leaf lo mid over e = dite (ℕ_discrete x.1 leaf)
    (λ same. let f = same_end x.0 lo None (Some mid) (sym (span_here x [] leaf same) ∙ e) in absurd (cc))
    (λ ne. let f : None ≡ Some (lo, Some mid) = sym (span_later x [] leaf ne) ∙ e in absurd (cc))
over_end key (x ∷ y ∷ ys) leaf lo mid over e = dite (ℕ_discrete x.1 leaf)
    (λ same. subst (λ a. is_below key a ≡ true) (some_same y.0 mid (same_end x.0 lo (Some y.0) (Some mid) (sym (span_here x (y ∷ ys) leaf same) ∙ e))) over.1.0)
    (λ ne. over_end key (y ∷ ys) leaf lo mid over.1 (sym (span_later x (y ∷ ys) leaf ne) ∙ e))

pub split_here : (x : List ℕ × ℕ) (xs : Anchors) (l : ℕ) (a : List ℕ) (r : ℕ) → x.1 ≡ l → with_split (x ∷ xs) l a r ≡ x ∷ (a, r) ∷ xs
split_here x xs l a r e = ap (λ b. cond b (x ∷ (a, r) ∷ xs) (x ∷ with_split xs l a r)) (eq-eqb x.1 l e)

pub split_later : (x : List ℕ × ℕ) (xs : Anchors) (l : ℕ) (a : List ℕ) (r : ℕ) → x.1 ≢ l → with_split (x ∷ xs) l a r ≡ x ∷ with_split xs l a r
split_later x xs l a r ne = ap (λ b. cond b (x ∷ (a, r) ∷ xs) (x ∷ with_split xs l a r)) (ne_eqb x.1 l ne)

pub next_split : (A : Anchors) (l : ℕ) (a : List ℕ) (r : ℕ) → next_anchor (with_split A l a r) ≡ next_anchor A
next_split [] l a r = refl
next_split (x ∷ xs) l a r = elim (eqb x.1 l) as (λ b. next_anchor (cond b (x ∷ (a, r) ∷ xs) (x ∷ with_split xs l a r)) ≡ Some x.0) [ true ↦ refl | false ↦ refl ]

pub split_left : (A : Anchors) (l : ℕ) (a : List ℕ) (r : ℕ) (lo : List ℕ) (hi : Option (List ℕ)) → span A l ≡ Some (lo, hi) → span (with_split A l a r) l ≡ Some (lo, Some a)
split_left [] l a r lo hi e = absurd (cc)
split_left (x ∷ xs) l a r lo hi e = dite (ℕ_discrete x.1 l)
    (λ same. ap (λ A. span A l) (split_here x xs l a r same) ∙ (span_here x ((a, r) ∷ xs) l same ∙ ap (λ k. Some (k, Some a)) (same_start x.0 lo (next_anchor xs) hi (sym (span_here x xs l same) ∙ e))))
    (λ ne. ap (λ A. span A l) (split_later x xs l a r ne) ∙ (span_later x (with_split xs l a r) l ne ∙ split_left xs l a r lo hi (sym (span_later x xs l ne) ∙ e)))

not_leaf : (x : List ℕ × ℕ) (xs : Anchors) (r : ℕ) → span (x ∷ xs) r ≡ None → x.1 ≢ r
not_leaf x xs r e = λ same. no_span (sym (span_here x xs r same) ∙ e)

pub split_right : (A : Anchors) (l : ℕ) (a : List ℕ) (r : ℕ) (lo : List ℕ) (hi : Option (List ℕ)) → span A r ≡ None → span A l ≡ Some (lo, hi) → span (with_split A l a r) r ≡ Some (a, hi)
split_right [] l a r lo hi new e = absurd (cc)
split_right (x ∷ xs) l a r lo hi new e =
    let nr = not_leaf x xs r new in
    dite (ℕ_discrete x.1 l)
    (λ same. ap (λ A. span A r) (split_here x xs l a r same) ∙ (span_later x ((a, r) ∷ xs) r nr ∙ (span_here (a, r) xs r refl ∙ ap (λ h. Some (a, h)) (same_end x.0 lo (next_anchor xs) hi (sym (span_here x xs l same) ∙ e)))))
    (λ ne. ap (λ A. span A r) (split_later x xs l a r ne) ∙ (span_later x (with_split xs l a r) r nr ∙ split_right xs l a r lo hi (sym (span_later x xs r nr) ∙ new) (sym (span_later x xs l ne) ∙ e)))

pub split_else : (A : Anchors) (l : ℕ) (a : List ℕ) (r i : ℕ) → i ≢ l → i ≢ r → span (with_split A l a r) i ≡ span A i
split_else [] l a r i nl nr = refl
split_else (x ∷ xs) l a r i nl nr = dite (ℕ_discrete x.1 l)
    (λ same. let ni : x.1 ≢ i = λ e. nl (sym e ∙ same) in
    ap (λ A. span A i) (split_here x xs l a r same) ∙ (span_later x ((a, r) ∷ xs) i ni ∙ (span_later (a, r) xs i (λ e. nr (sym e)) ∙ sym (span_later x xs i ni))))
    (λ ne. ap (λ A. span A i) (split_later x xs l a r ne)
    ∙ (λ c. cond (eqb x.1 i) (Some (x.0, next_split xs l a r c)) (split_else xs l a r i nl nr c)))

pub all_split : (P : List ℕ × ℕ → Type 0) (xs : Anchors) (l : ℕ) (a : List ℕ) (r : ℕ) → AllByRecursion P xs → P (a, r) → AllByRecursion P (with_split xs l a r)
all_split P [] l a r all p = tt
all_split P (x ∷ xs) l a r all p = elim (eqb x.1 l) as (λ b. AllByRecursion P (cond b (x ∷ (a, r) ∷ xs) (x ∷ with_split xs l a r))) [ true ↦ (all.0, (p, all.1)) | false ↦ (all.0, all_split P xs l a r all.1 p) ]

over_from : (a : List ℕ) (xs : Anchors) → Rises xs → is_before (next_anchor xs) a ≡ true → Over a xs
over_from a [] rises e = tt
over_from a (x ∷ xs) rises e = over_next a x xs e rises.0

split_rises : (A : Anchors) (l : ℕ) (a : List ℕ) (r : ℕ) (lo : List ℕ) (hi : Option (List ℕ)) → span A r ≡ None → span A l ≡ Some (lo, hi) → is_below lo a ≡ true → is_before hi a ≡ true → Rises A → Rises (with_split A l a r)
split_rises [] l a r lo hi new e above before rises = absurd (cc)
split_rises (x ∷ xs) l a r lo hi new e above before rises =
    let nr = not_leaf x xs r new in
    let new' : span xs r ≡ None = sym (span_later x xs r nr) ∙ new in
    dite (ℕ_discrete x.1 l)
    (λ same.
    let f = sym (span_here x xs l same) ∙ e in
    let low : is_below x.0 a ≡ true = subst (λ k. is_below k a ≡ true) (sym (same_start x.0 lo (next_anchor xs) hi f)) above in
    let up : is_before (next_anchor xs) a ≡ true = subst (λ h. is_before h a ≡ true) (sym (same_end x.0 lo (next_anchor xs) hi f)) before in
    subst Rises (sym (split_here x xs l a r same)) ((low, rises.0), span_later (a, r) xs x.1 (λ q. nr (sym q)) ∙ rises.1, (over_from a xs rises.2 up, new', rises.2)))
    (λ ne.
    let f : span xs l ≡ Some (lo, hi) = sym (span_later x xs l ne) ∙ e in
    let low : is_below x.0 a ≡ true = below_trans x.0 lo a (over_start x.0 xs l lo hi rises.0 f) above in
    subst Rises (sym (split_later x xs l a r ne)) (all_split (λ (y : List ℕ × ℕ). is_below x.0 y.0 ≡ true) xs l a r rises.0 low, split_else xs l a r x.1 ne nr ∙ rises.1, split_rises xs l a r lo hi new' f above before rises.2))

pub split_anchors : (A : Anchors) (l : ℕ) (a : List ℕ) (r : ℕ) (lo : List ℕ) (hi : Option (List ℕ)) → span A r ≡ None → span A l ≡ Some (lo, hi) → is_below lo a ≡ true → is_before hi a ≡ true → AreAnchors A → AreAnchors (with_split A l a r)
split_anchors A l a r lo hi new e above before are = record { first = next_split A l a r ∙ are.first; rises = split_rises A l a r lo hi new e above before are.rises }

-- a merge
pub merge_here : (x : List ℕ × ℕ) (xs : Anchors) (r : ℕ) → x.1 ≡ r → with_merge (x ∷ xs) r ≡ xs
merge_here x xs r e = ap (λ b. cond b xs (x ∷ with_merge xs r)) (eq-eqb x.1 r e)

pub merge_later : (x : List ℕ × ℕ) (xs : Anchors) (r : ℕ) → x.1 ≢ r → with_merge (x ∷ xs) r ≡ x ∷ with_merge xs r
merge_later x xs r ne = ap (λ b. cond b xs (x ∷ with_merge xs r)) (ne_eqb x.1 r ne)

pub merge_right : (A : Anchors) (r : ℕ) → Rises A → span (with_merge A r) r ≡ None
merge_right [] r rises = refl
merge_right (x ∷ xs) r rises = dite (ℕ_discrete x.1 r)
    (λ same. ap (λ A. span A r) (merge_here x xs r same) ∙ subst (λ i. span xs i ≡ None) same rises.1)
    (λ ne. ap (λ A. span A r) (merge_later x xs r ne) ∙ (span_later x (with_merge xs r) r ne ∙ merge_right xs r rises.2))

-- the right one of two neighbours is next to the left one
module _ (l r : ℕ) (apart : l ≢ r) (lo mid : List ℕ) (hi : Option (List ℕ)) where
  -- it isn't before
  not_before : (x : List ℕ × ℕ) (xs : Anchors) → Rises (x ∷ xs) → span xs l ≡ Some (lo, Some mid) → x.0 ≡ mid → ⊥
  not_before x xs rises e same = true≢false (sym (subst (λ a. is_below a mid ≡ true) same (over_end x.0 xs l lo mid rises.0 e)) ∙ not_below_itself mid)

  -- nor further behind
  head_right : (x y : List ℕ × ℕ) (ys : Anchors) → Rises (x ∷ y ∷ ys) → y.0 ≡ mid → span (y ∷ ys) r ≡ Some (mid, hi) → y.1 ≡ r
  head_right x y ys rises same e = dite (ℕ_discrete y.1 r) (λ q. q) (λ ne. absurd (true≢false (sym (subst (λ a. is_below a mid ≡ true) same (over_start y.0 ys r mid hi rises.2.0 (sym (span_later y ys r ne) ∙ e))) ∙ not_below_itself mid)))

  pub merge_left : (A : Anchors) → Rises A → span A l ≡ Some (lo, Some mid) → span A r ≡ Some (mid, hi) → span (with_merge A r) l ≡ Some (lo, hi)
  merge_left [] rises e f = absurd (cc)
  merge_left (x ∷ xs) rises e f = dite (ℕ_discrete x.1 r)
      (λ xr.
      let nl : x.1 ≢ l = λ q. apart (sym q ∙ xr) in
      absurd (not_before x xs rises (sym (span_later x xs l nl) ∙ e) (same_start x.0 mid (next_anchor xs) hi (sym (span_here x xs r xr) ∙ f))))
      (λ nr. ap (λ A. span A l) (merge_later x xs r nr) ∙ dite (ℕ_discrete x.1 l)
      (λ xl. span_here x (with_merge xs r) l xl ∙ beside xs rises (sym (span_here x xs l xl) ∙ e) (sym (span_later x xs r nr) ∙ f))
      (λ nl. span_later x (with_merge xs r) l nl ∙ merge_left xs rises.2 (sym (span_later x xs l nl) ∙ e) (sym (span_later x xs r nr) ∙ f)))
    where
      beside : (zs : Anchors) → Rises (x ∷ zs) → ◌≡◌ {A = Option Span} (Some (x.0, next_anchor zs)) (Some (lo, Some mid)) → span zs r ≡ Some (mid, hi) → ◌≡◌ {A = Option Span} (Some (x.0, next_anchor (with_merge zs r))) (Some (lo, hi))
      beside [] rises e f = absurd (cc)
      beside (y ∷ ys) rises e f =
          let low = same_start x.0 lo (Some y.0) (Some mid) e in
          let at = some_same y.0 mid (same_end x.0 lo (Some y.0) (Some mid) e) in
          let yr = head_right x y ys rises at f in
          let high = same_end y.0 mid (next_anchor ys) hi (sym (span_here y ys r yr) ∙ f) in
          ap (λ A. Some (x.0, next_anchor A)) (merge_here y ys r yr) ∙ (ap (λ k. Some (k, next_anchor ys)) low ∙ ap (λ h. Some (lo, h)) high)

  pub merge_else : (A : Anchors) (i : ℕ) → Rises A → span A l ≡ Some (lo, Some mid) → span A r ≡ Some (mid, hi) → i ≢ l → i ≢ r → span (with_merge A r) i ≡ span A i
  merge_else [] i rises e f nl nr = refl
  merge_else (x ∷ xs) i rises e f nl nr = dite (ℕ_discrete x.1 r)
      (λ xr. ap (λ A. span A i) (merge_here x xs r xr) ∙ sym (span_later x xs i (λ q. nr (sym q ∙ xr))))
      (λ ne. ap (λ A. span A i) (merge_later x xs r ne) ∙ dite (ℕ_discrete x.1 i)
      (λ xi. let xl : x.1 ≢ l = λ q. nl (sym xi ∙ q) in span_here x (with_merge xs r) i xi ∙ (ap (λ h. Some (x.0, h)) (kept xs rises (sym (span_later x xs l xl) ∙ e) (sym (span_later x xs r ne) ∙ f)) ∙ sym (span_here x xs i xi)))
      (λ ni. span_later x (with_merge xs r) i ni ∙ (dite (ℕ_discrete x.1 l)
      (λ xl. next_to xs rises (sym (span_here x xs l xl) ∙ e) (sym (span_later x xs r ne) ∙ f))
      (λ nxl. merge_else xs i rises.2 (sym (span_later x xs l nxl) ∙ e) (sym (span_later x xs r ne) ∙ f) nl nr) ∙ sym (span_later x xs i ni))))
    where
      kept : (zs : Anchors) → Rises (x ∷ zs) → span zs l ≡ Some (lo, Some mid) → span zs r ≡ Some (mid, hi) → next_anchor (with_merge zs r) ≡ next_anchor zs
      kept [] rises e f = refl
      kept (y ∷ ys) rises e f = dite (ℕ_discrete y.1 r)
          (λ yr. absurd (not_before y ys rises.2 (sym (span_later y ys l (λ q. apart (sym q ∙ yr))) ∙ e) (same_start y.0 mid (next_anchor ys) hi (sym (span_here y ys r yr) ∙ f))))
          (λ ny. ap next_anchor (merge_later y ys r ny))

      next_to : (zs : Anchors) → Rises (x ∷ zs) → ◌≡◌ {A = Option Span} (Some (x.0, next_anchor zs)) (Some (lo, Some mid)) → span zs r ≡ Some (mid, hi) → span (with_merge zs r) i ≡ span zs i
      next_to [] rises e f = refl
      next_to (y ∷ ys) rises e f =
          let yr = head_right x y ys rises (some_same y.0 mid (same_end x.0 lo (Some y.0) (Some mid) e)) f in
          ap (λ A. span A i) (merge_here y ys r yr) ∙ sym (span_later y ys i (λ q. nr (sym q ∙ yr)))

  merge_none : (A : Anchors) (i : ℕ) → span A i ≡ None → span (with_merge A r) i ≡ None
  merge_none [] i e = refl
  merge_none (x ∷ xs) i e =
      let ni = not_leaf x xs i e in
      let e' : span xs i ≡ None = sym (span_later x xs i ni) ∙ e in
      dite (ℕ_discrete x.1 r)
      (λ xr. ap (λ A. span A i) (merge_here x xs r xr) ∙ e')
      (λ ne. ap (λ A. span A i) (merge_later x xs r ne) ∙ (span_later x (with_merge xs r) i ni ∙ merge_none xs i e'))

  pub all_merge : (P : List ℕ × ℕ → Type 0) (xs : Anchors) → AllByRecursion P xs → AllByRecursion P (with_merge xs r)
  all_merge P [] all = tt
  all_merge P (x ∷ xs) all = elim (eqb x.1 r) as (λ b. AllByRecursion P (cond b xs (x ∷ with_merge xs r))) [ true ↦ all.1 | false ↦ (all.0, all_merge P xs all.1) ]

  merge_rises : (A : Anchors) → Rises A → Rises (with_merge A r)
  merge_rises [] rises = tt
  merge_rises (x ∷ xs) rises = elim (eqb x.1 r) as (λ b. Rises (cond b xs (x ∷ with_merge xs r))) [
    | true ↦ rises.2
    | false ↦ (all_merge (λ (y : List ℕ × ℕ). is_below x.0 y.0 ≡ true) xs rises.0, merge_none xs x.1 rises.1, merge_rises xs rises.2)
  ]

  pub merge_anchors : (A : Anchors) → AreAnchors A → span A l ≡ Some (lo, Some mid) → span A r ≡ Some (mid, hi) → AreAnchors (with_merge A r)
  merge_anchors [] are e f = absurd (cc)
  merge_anchors (x ∷ xs) are e f = record {
    first = dite (ℕ_discrete x.1 r)
        (λ xr. absurd (not_before x xs are.rises (sym (span_later x xs l (λ q. apart (sym q ∙ xr))) ∙ e) (same_start x.0 mid (next_anchor xs) hi (sym (span_here x xs r xr) ∙ f))))
        (λ ne. ap next_anchor (merge_later x xs r ne) ∙ are.first);
    rises = merge_rises (x ∷ xs) are.rises;
  }
