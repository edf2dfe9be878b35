-- Each key is in the span of its target and of no other leaf; and the spans after a split and a merge.
use Rattle.std.proofs.Common.{◌≡◌, ◌≢◌, ℕ, List, [], ◌∷◌, Bool, true, false, cond, not, ◌&&◌, Some, None, sym, refl, ap, ◌∙◌, subst, eq-eqb, ne_eqb, true≢false}
use mathlib.Core.Logic.{dite}
use native.Mathlib.Decide.{ℕ_discrete}
use Rattle.std.specs.List.{AllByRecursion}
use Rattle.key_bytes.specs.Order.{is_below}
use Rattle.key_bytes.proofs.Conditions.{and_left, and_right, some_same}
use Rattle.key_bytes.proofs.Orders.{below_trans, below_not_back, below_through, not_below_empty, not_below_itself}
use Rattle.anchor_rules.specs.Anchors.{Anchors, Span, is_before, in_span, next_anchor, span, target_from, target, Rises, AreAnchors, Disjoint}

-- what holds of each holds of each
pub all_weaker : {X : Type 0} (P Q : X → Type 0) → ((x : X) → P x → Q x) → (xs : List X) → AllByRecursion P xs → AllByRecursion Q xs
all_weaker P Q weaker [] all = tt
all_weaker P Q weaker (x ∷ xs) all = (weaker x all.0, all_weaker P Q weaker xs all.1)

not_true : (x : Bool) → not x ≡ true → x ≡ false
not_true true e = absurd (true≢false (sym e))
not_true false e = refl

both : (x y : Bool) → x ≡ false → y ≡ true → (not x && y) ≡ true
both x y e f = ap (λ b. not b && y) e ∙ f

abbrev pub Over : List ℕ → Anchors → Type 0
Over key xs = AllByRecursion (λ (y : List ℕ × ℕ). is_below key y.0 ≡ true) xs

-- anchors above the key don't count
pub target_over : (leaf : ℕ) (xs : Anchors) (key : List ℕ) → Over key xs → target_from leaf xs key ≡ leaf
target_over leaf [] key over = refl
target_over leaf (x ∷ xs) key over = ap (λ b. target_from (cond b leaf x.1) xs key) over.0 ∙ target_over leaf xs key over.1

pub over_next : (key : List ℕ) (y : List ℕ × ℕ) (ys : Anchors) → is_below key y.0 ≡ true → Over y.0 ys → Over key (y ∷ ys)
over_next key y ys less over = (less, all_weaker (λ (z : List ℕ × ℕ). is_below y.0 z.0 ≡ true) (λ (z : List ℕ × ℕ). is_below key z.0 ≡ true) (λ z h. below_trans key y.0 z.0 less h) ys over)

pub span_here : (x : List ℕ × ℕ) (xs : Anchors) (leaf : ℕ) → x.1 ≡ leaf → span (x ∷ xs) leaf ≡ Some (x.0, next_anchor xs)
span_here x xs leaf e = ap (λ b. cond b (Some (x.0, next_anchor xs)) (span xs leaf)) (eq-eqb x.1 leaf e)

pub span_later : (x : List ℕ × ℕ) (xs : Anchors) (leaf : ℕ) → x.1 ≢ leaf → span (x ∷ xs) leaf ≡ span xs leaf
span_later x xs leaf ne = ap (λ b. cond b (Some (x.0, next_anchor xs)) (span xs leaf)) (ne_eqb x.1 leaf ne)

pub no_span : {s : Span} → (Some s ≡ None) → ⊥
no_span e = absurd (cc)

-- the key is in the span of its target
covered : (x : List ℕ × ℕ) (xs : Anchors) (key : List ℕ) → Rises (x ∷ xs) → is_below key x.0 ≡ false → (s : Span) × (span (x ∷ xs) (target_from x.1 xs key) ≡ Some s) × (in_span s key ≡ true)
covered x [] key rises low = ((x.0, None), span_here x [] x.1 refl, both (is_below key x.0) true low refl)
covered x (y ∷ ys) key rises low =
    elim (is_below key y.0) as (λ b. is_below key y.0 ≡ b → (s : Span) × (span (x ∷ y ∷ ys) (target_from (cond b x.1 y.1) ys key) ≡ Some s) × (in_span s key ≡ true)) [
      | true ↦ λ e. ((x.0, Some y.0), ap (span (x ∷ y ∷ ys)) (target_over x.1 ys key (over_next key y ys e rises.2.0).1) ∙ span_here x (y ∷ ys) x.1 refl, both (is_below key x.0) (is_below key y.0) low e)
      | false ↦ λ e.
          let rest = covered y ys key rises.2 e in
          let apart : x.1 ≢ target_from y.1 ys key = λ same. no_span (sym rest.1 ∙ (ap (span (y ∷ ys)) (sym same) ∙ rises.1)) in
          (rest.0, span_later x (y ∷ ys) (target_from y.1 ys key) apart ∙ rest.1, rest.2)
    ] refl

-- a span of a later leaf begins at no lower anchor
span_low : (y : List ℕ × ℕ) (ys : Anchors) (leaf : ℕ) (s : Span) → Rises (y ∷ ys) → span (y ∷ ys) leaf ≡ Some s → is_below s.0 y.0 ≡ false
span_low y ys leaf s rises e = dite (ℕ_discrete y.1 leaf)
    (λ same. let f : Some (y.0, next_anchor ys) ≡ Some s = sym (span_here y ys leaf same) ∙ e in let g : (y.0, next_anchor ys) ≡ s = cc in subst (λ (t : Span). is_below t.0 y.0 ≡ false) g (not_below_itself y.0))
    (λ ne. later ys rises (sym (span_later y ys leaf ne) ∙ e))
  where
    later : (zs : Anchors) → Rises (y ∷ zs) → span zs leaf ≡ Some s → is_below s.0 y.0 ≡ false
    later [] r f = absurd (no_span (sym f))
    later (z ∷ zs) r f = dite (ℕ_discrete z.1 leaf)
        (λ same. let f' : Some (z.0, next_anchor zs) ≡ Some s = sym (span_here z zs leaf same) ∙ f in let g : (z.0, next_anchor zs) ≡ s = cc in subst (λ (t : Span). is_below t.0 y.0 ≡ false) g (below_not_back y.0 z.0 r.0.0))
        (λ ne. later zs (r.0.1, sym (span_later z zs y.1 (λ e. no_span (sym (span_here z zs y.1 e) ∙ r.1))) ∙ r.1, r.2.2) (sym (span_later z zs leaf ne) ∙ f))

-- and in that of no other leaf
unique : (x : List ℕ × ℕ) (xs : Anchors) (key : List ℕ) (leaf : ℕ) (s : Span) → Rises (x ∷ xs) → is_below key x.0 ≡ false → span (x ∷ xs) leaf ≡ Some s → in_span s key ≡ true → leaf ≡ target_from x.1 xs key
unique x [] key leaf s rises low e has = dite (ℕ_discrete x.1 leaf) (λ same. sym same) (λ ne. absurd (no_span (sym (sym (span_later x [] leaf ne) ∙ e))))
unique x (y ∷ ys) key leaf s rises low e has = dite (ℕ_discrete x.1 leaf)
    (λ same.
    let f : Some (x.0, Some y.0) ≡ Some s = sym (span_here x (y ∷ ys) leaf same) ∙ e in
    let g : (x.0, Some y.0) ≡ s = cc in
    let less : is_below key y.0 ≡ true = and_right (not (is_below key x.0)) (is_below key y.0) (subst (λ (t : Span). in_span t key ≡ true) (sym g) has) in
    sym (target_over x.1 (y ∷ ys) key (over_next key y ys less rises.2.0) ∙ same))
    (λ ne.
    let f : span (y ∷ ys) leaf ≡ Some s = sym (span_later x (y ∷ ys) leaf ne) ∙ e in
    let high : is_below key s.0 ≡ false = not_true (is_below key s.0) (and_left (not (is_below key s.0)) (is_before s.1 key) has) in
    let reach : (b : Bool) → is_below key y.0 ≡ b → is_below key y.0 ≡ false = λ b. elim b as (λ b. is_below key y.0 ≡ b → is_below key y.0 ≡ false) [
      | true ↦ λ q. absurd (true≢false (sym (below_through key y.0 s.0 q (span_low y ys leaf s rises.2 f)) ∙ high))
      | false ↦ λ q. q
    ] in
    let z = reach (is_below key y.0) refl in
    unique y ys key leaf s rises.2 z f has ∙ ap (λ b. target_from (cond b x.1 y.1) ys key) (sym z))

pub in_target : (A : Anchors) → AreAnchors A → (key : List ℕ) → (s : Span) × (span A (target A key) ≡ Some s) × (in_span s key ≡ true)
in_target [] are key = absurd (cc (are.first))
in_target (x ∷ xs) are key =
    let low : is_below key x.0 ≡ false = subst (λ a. is_below key a ≡ false) (sym (some_same x.0 [] are.first)) (not_below_empty key) in
    let h = covered x xs key are.rises low in
    (h.0, ap (λ b. span (x ∷ xs) (target_from (cond b 0 x.1) xs key)) low ∙ h.1, h.2)

pub only_target : (A : Anchors) → AreAnchors A → (key : List ℕ) (leaf : ℕ) (s : Span) → span A leaf ≡ Some s → in_span s key ≡ true → leaf ≡ target A key
only_target [] are key leaf s e has = absurd (cc (are.first))
only_target (x ∷ xs) are key leaf s e has =
    let low : is_below key x.0 ≡ false = subst (λ a. is_below key a ≡ false) (sym (some_same x.0 [] are.first)) (not_below_empty key) in
    unique x xs key leaf s are.rises low e has ∙ ap (λ b. target_from (cond b 0 x.1) xs key) (sym low)

pub disjoint : (A : Anchors) → AreAnchors A → Disjoint A
disjoint A are i j key s t e f ik jk = only_target A are key i s e ik ∙ sym (only_target A are key j t f jk)
