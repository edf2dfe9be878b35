-- The four ways in which a search ends, one by one, and what the token that closes an anchor is in the items.
use Rattle.std.proofs.Common.{◌≡◌, ℕ, ◌+◌, List, [], ◌∷◌, ◌++◌, take, drop, Bool, true, false, cond, zero, suc, Option, Some, None, refl, sym, ap, ◌∙◌, arith, eq-eqb, ne_eqb}
use Rattle.std.specs.Prelude.{◌==◌, ◌&&◌, ◌||◌, map}
use Rattle.std.specs.List.{list_any}
use mathlib.Core.Bool.{false≢true}
use mathlib.Core.Logic.{dite}
use native.Mathlib.Decide.{ℕ_discrete}
use Rattle.key_bytes.specs.Order.{is_same}
use Rattle.key_bytes.proofs.Orders.{same_is, same_itself}
use Rattle.anchor_rules.specs.Anchors.{Anchors, AreAnchors, target}
use Rattle.anchor_rules.specs.Closing.{is_closed, closed, closed_anchors}
use Rattle.anchor_rules.specs.Items.{Item, begins, under, is_prefix, is_anchor_of, last_leaf, leaf_before, greatest_below, child_below, end_by, IsLongest}
use Rattle.anchor_rules.proofs.Ends.{ends_at-target}

-- with this longest prefix the target is its first leaf, the leaf before that, or the last leaf of a child
pub record FourWays (A : Anchors) (key : List ℕ) (n : ℕ) (it : Item) : Type 0 where
  pub childless : it.is_anchor ≡ true → ((c : ℕ) → it.child c ≡ false) → target A key ≡ it.leftmost
  pub whole_anchor : drop n key ≡ [] → it.is_anchor ≡ true → target A key ≡ it.leftmost
  pub whole_inner : drop n key ≡ [] → it.is_anchor ≡ false → target A key ≡ leaf_before A it.leftmost
  pub in_child : (c d : ℕ) (rest : List ℕ) → drop n key ≡ c ∷ rest → greatest_below it.child c ≡ Some d → target A key ≡ last_leaf (under A (take n key ++ d ∷ []))
  pub at_anchor : (c : ℕ) (rest : List ℕ) → drop n key ≡ c ∷ rest → greatest_below it.child c ≡ None → it.is_anchor ≡ true → target A key ≡ it.leftmost
  pub otherwise : (c : ℕ) (rest : List ℕ) → drop n key ≡ c ∷ rest → greatest_below it.child c ≡ None → it.is_anchor ≡ false → target A key ≡ leaf_before A it.leftmost

none_below : (test : ℕ → Bool) (c : ℕ) → ((e : ℕ) → test e ≡ false) → greatest_below test c ≡ None
none_below test zero none = refl
none_below test (suc c) none = ap (λ (s : Bool). cond s (Some c) (greatest_below test c)) (none c) ∙ none_below test c none

no_child_below : (it : Item) (rest : List ℕ) → ((c : ℕ) → it.child c ≡ false) → child_below it rest ≡ None
no_child_below it [] none = refl
no_child_below it (c ∷ rest) none = none_below it.child c none

pub four_ways : (A : Anchors) (key : List ℕ) (n : ℕ) (it : Item) → AreAnchors A → IsLongest A key n it → FourWays A key n it
four_ways A key n it are is = record {
  childless = λ here none. chosen (no_child_below it (drop n key) none) true here;
  whole_anchor = λ whole here. chosen (ap (child_below it) whole) true here;
  whole_inner = λ whole inner. chosen (ap (child_below it) whole) false inner;
  in_child = λ c d rest more h. ends (ap (child_below it) more ∙ h);
  at_anchor = λ c rest more h here. chosen (ap (child_below it) more ∙ h) true here;
  otherwise = λ c rest more h inner. chosen (ap (child_below it) more ∙ h) false inner;
}
  where
    ends : {o : Option ℕ} → child_below it (drop n key) ≡ o → target A key ≡ end_by A (take n key) it o
    ends h = sym (ends_at-target A key n it are is) ∙ ap (end_by A (take n key) it) h

    chosen : child_below it (drop n key) ≡ None → (s : Bool) → it.is_anchor ≡ s → target A key ≡ cond s it.leftmost (leaf_before A it.leftmost)
    chosen h s e = ends h ∙ ap (λ (b : Bool). cond b it.leftmost (leaf_before A it.leftmost)) e

-- a prefix as tokens
abbrev pub tokens : List ℕ → List ℕ
tokens p = map (λ c. c + 1) p

same_cons : (y x : ℕ) (p a : List ℕ) → is_same (y ∷ p) (x ∷ a) ≡ ((y == x) && is_same p a)
same_cons y x p a = elim (is_same (y ∷ p) (x ∷ a)) as (λ (s : Bool). is_same (y ∷ p) (x ∷ a) ≡ s → s ≡ ((y == x) && is_same p a)) [
  | true ↦ λ e. let whole = same_is (y ∷ p) (x ∷ a) e in
      sym (ap (λ (b : Bool). b && is_same p a) (eq-eqb y x (heads y x p a whole)) ∙ (ap (is_same p) (sym (tails y x p a whole)) ∙ same_itself p))
  | false ↦ λ e. not_both e
] refl
  where
    heads : (y x : ℕ) (p a : List ℕ) → y ∷ p ≡ x ∷ a → y ≡ x
    heads y x p a e = cc

    tails : (y x : ℕ) (p a : List ℕ) → y ∷ p ≡ x ∷ a → p ≡ a
    tails y x p a e = cc

    none : (b : Bool) → false ≡ (b && false)
    none true = refl
    none false = refl

    not_both : is_same (y ∷ p) (x ∷ a) ≡ false → false ≡ ((y == x) && is_same p a)
    not_both e = dite (ℕ_discrete y x)
        (λ same. elim (is_same p a) as (λ (s : Bool). is_same p a ≡ s → false ≡ ((y == x) && s)) [
          | true ↦ λ h. absurd (false≢true (sym e ∙ (ap (λ (z : ℕ). is_same (y ∷ p) (z ∷ a)) (sym same) ∙ (ap (λ (l : List ℕ). is_same (y ∷ p) (y ∷ l)) (sym (same_is p a h)) ∙ same_itself (y ∷ p)))))
          | false ↦ λ h. none (y == x)
        ] refl)
        (λ apart. sym (ap (λ (b : Bool). b && is_same p a) (ne_eqb y x apart)))

shifted : (y x : ℕ) → (y + 1 == x + 1) ≡ (y == x)
shifted y x = dite (ℕ_discrete y x) (λ same. eq-eqb (y + 1) (x + 1) (omega arith) ∙ sym (eq-eqb y x same)) (λ apart. ne_eqb (y + 1) (x + 1) (λ e. apart (omega arith)) ∙ sym (ne_eqb y x apart))

-- a byte behind a prefix, in one closed anchor
byte_in : (f : Bool) (p : List ℕ) (c : ℕ) (a : List ℕ) → begins (tokens p ++ (c + 1) ∷ []) (closed f a) ≡ begins (p ++ c ∷ []) a
byte_in f [] c [] = elim f as (λ (b : Bool). begins ((c + 1) ∷ []) (cond b (0 ∷ []) []) ≡ false) [ true ↦ ap (λ (b : Bool). b && true) (ne_eqb (c + 1) 0 (λ e. omega arith)) | false ↦ refl ]
byte_in f [] c (x ∷ a) = ap (λ (b : Bool). b && true) (shifted c x)
byte_in f (y ∷ p) c [] = elim f as (λ (b : Bool). begins ((y + 1) ∷ tokens p ++ (c + 1) ∷ []) (cond b (0 ∷ []) []) ≡ false) [ true ↦ ap (λ (b : Bool). b && begins (tokens p ++ (c + 1) ∷ []) []) (ne_eqb (y + 1) 0 (λ e. omega arith)) | false ↦ refl ]
byte_in f (y ∷ p) c (x ∷ a) = ap (λ (b : Bool). b && begins (tokens p ++ (c + 1) ∷ []) (closed f a)) (shifted y x) ∙ ap (λ (b : Bool). (y == x) && b) (byte_in f p c a)

-- the closing token behind a prefix, in one closed anchor
end_in : (f : Bool) (p a : List ℕ) → begins (tokens p ++ 0 ∷ []) (closed f a) ≡ (is_same p a && f)
end_in f [] [] = elim f as (λ (b : Bool). begins (0 ∷ []) (cond b (0 ∷ []) []) ≡ b) [ true ↦ refl | false ↦ refl ]
end_in f [] (x ∷ a) = ap (λ (b : Bool). b && true) (ne_eqb 0 (x + 1) (λ e. omega arith))
end_in f (y ∷ p) [] = elim f as (λ (b : Bool). begins ((y + 1) ∷ tokens p ++ 0 ∷ []) (cond b (0 ∷ []) []) ≡ false) [ true ↦ ap (λ (b : Bool). b && begins (tokens p ++ 0 ∷ []) []) (ne_eqb (y + 1) 0 (λ e. omega arith)) | false ↦ refl ]
end_in f (y ∷ p) (x ∷ a) = ap (λ (b : Bool). b && begins (tokens p ++ 0 ∷ []) (closed f a)) (shifted y x) ∙ (ap (λ (b : Bool). (y == x) && b) (end_in f p a) ∙ (grouped (y == x) (is_same p a) f ∙ ap (λ (b : Bool). b && f) (sym (same_cons y x p a))))
  where
    grouped : (x y z : Bool) → (x && (y && z)) ≡ ((x && y) && z)
    grouped true y z = refl
    grouped false y z = refl

-- a byte goes on from a prefix in the closed anchors exactly where it does in the anchors
pub closed_byte : (A : Anchors) (p : List ℕ) (c : ℕ) → list_any (begins (tokens p ++ (c + 1) ∷ [])) (closed_anchors A) ≡ is_prefix A (p ++ c ∷ [])
closed_byte A p c = each A
  where
    each : (B : Anchors) → list_any (begins (tokens p ++ (c + 1) ∷ [])) (map (λ (x : List ℕ × ℕ). closed (is_closed A x.0) x.0) B) ≡ is_prefix B (p ++ c ∷ [])
    each [] = refl
    each (q ∷ B) = ap (λ (b : Bool). b || list_any (begins (tokens p ++ (c + 1) ∷ [])) (map (λ (x : List ℕ × ℕ). closed (is_closed A x.0) x.0) B)) (byte_in (is_closed A q.0) p c q.0) ∙ ap (λ (b : Bool). begins (p ++ c ∷ []) q.0 || b) (each B)

-- and the closing token exactly where the prefix is an anchor that goes on in another one
pub closed_end : (A : Anchors) (p : List ℕ) → list_any (begins (tokens p ++ 0 ∷ [])) (closed_anchors A) ≡ (is_anchor_of A p && is_closed A p)
closed_end A p = each A
  where
    here : (a : List ℕ) → (is_same p a && is_closed A a) ≡ (is_same p a && is_closed A p)
    here a = elim (is_same p a) as (λ (s : Bool). is_same p a ≡ s → (s && is_closed A a) ≡ (s && is_closed A p)) [
      | true ↦ λ e. ap (is_closed A) (sym (same_is p a e))
      | false ↦ λ e. refl
    ] refl

    spread : (x y z : Bool) → ((x && z) || (y && z)) ≡ ((x || y) && z)
    spread true true true = refl
    spread true true false = refl
    spread true false true = refl
    spread true false false = refl
    spread false y z = refl

    each : (B : Anchors) → list_any (begins (tokens p ++ 0 ∷ [])) (map (λ (x : List ℕ × ℕ). closed (is_closed A x.0) x.0) B) ≡ (is_anchor_of B p && is_closed A p)
    each [] = refl
    each (q ∷ B) = ap (λ (b : Bool). b || list_any (begins (tokens p ++ 0 ∷ [])) (map (λ (x : List ℕ × ℕ). closed (is_closed A x.0) x.0) B)) (end_in (is_closed A q.0) p q.0 ∙ here q.0) ∙ (ap (λ (b : Bool). (is_same p q.0 && is_closed A p) || b) (each B) ∙ spread (is_same p q.0) (is_anchor_of B p) (is_closed A p))
