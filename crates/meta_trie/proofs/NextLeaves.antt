-- The leaf rows name the leaves on both sides.
use Rattle.std.proofs.Common.{◌≡◌, ◌≢◌, ℕ, ◌+◌, inl, inr, List, [], ◌∷◌, Bool, true, false, eqb, ◌&&◌, ◌||◌, Option, Some, None, refl, sym, ap, ◌∙◌, subst, arith}
use mathlib.Core.Bool.{false≢true}
use Rattle.std.proofs.lemmas.Bool.{cases_eq}
use Rattle.anchor_rules.specs.Anchors.{Anchors, span, has_leaf, Rises, adjacent}
use Rattle.anchor_rules.specs.Neighbours.{IsBefore, IsBehind}
use Rattle.anchor_rules.proofs.Neighbours.{live_later, adjacent_first, adjacent_later, first_alone}
use Rattle.row_words.specs.declared.shape.Shape.{Shape}
use Rattle.row_words.specs.Decode.{IsLive, previous_at, next_at}
use Rattle.meta_trie.specs.Stands.{LeafChain, StandsFor}
use Rattle.meta_trie.specs.Links.{IsLinked}

module _ (k : Shape) (ws : List ℕ) (leaf : ℕ) where
  -- the row of a live leaf is in use
  row_live : (A : Anchors) (previous : ℕ) → LeafChain k ws previous A → has_leaf A leaf ≡ true → IsLive k ws leaf
  row_live [] previous c has = absurd (false≢true has)
  row_live (x ∷ xs) previous c has = elim (cases_eq x.1 leaf) [
    | inl e ↦ subst (IsLive k ws) e c.0
    | inr ne ↦ row_live xs (x.1 + 1) c.4 (live_later x xs leaf ne has)
  ]

  -- the leaf behind it
  behind : (A : Anchors) (previous : ℕ) → LeafChain k ws previous A → has_leaf A leaf ≡ true → (right : Option ℕ) → IsLinked (next_at k ws leaf) right → IsBehind A leaf right
  behind [] previous c has right link = absurd (false≢true has)
  behind (x ∷ []) previous c has right link = elim (cases_eq x.1 leaf) [
    | inl e ↦ last right (sym (ap (next_at k ws) e) ∙ c.3) link
    | inr ne ↦ absurd (false≢true (live_later x [] leaf ne has))
  ]
    where
      last : (right : Option ℕ) → next_at k ws leaf ≡ 0 → IsLinked (next_at k ws leaf) right → IsBehind (x ∷ []) leaf right
      last None zero link = λ other. refl
      last (Some r) zero link = absurd (omega (arith, zero, link))
  behind (x ∷ y ∷ ys) previous c has right link = elim (cases_eq x.1 leaf) [
    | inl e ↦ next right e (sym (ap (next_at k ws) e) ∙ c.3) link
    | inr ne ↦ later right ne (behind (y ∷ ys) (x.1 + 1) c.4 (live_later x (y ∷ ys) leaf ne has) right link)
  ]
    where
      next : (right : Option ℕ) → x.1 ≡ leaf → next_at k ws leaf ≡ y.1 + 1 → IsLinked (next_at k ws leaf) right → IsBehind (x ∷ y ∷ ys) leaf right
      next None e is link = absurd (omega (arith, is, link))
      next (Some r) e is link = adjacent_first x y ys leaf r e (omega (arith, is, link))

      later : (right : Option ℕ) → x.1 ≢ leaf → IsBehind (y ∷ ys) leaf right → IsBehind (x ∷ y ∷ ys) leaf right
      later None ne is = λ other. adjacent_later x y ys leaf other ne ∙ is other
      later (Some r) ne is = adjacent_later x y ys leaf r ne ∙ is

  -- the leaf before one that isn't the first
  before : (x : List ℕ × ℕ) (xs : Anchors) (previous : ℕ) → LeafChain k ws previous (x ∷ xs) → has_leaf xs leaf ≡ true → (left : Option ℕ) → IsLinked (previous_at k ws leaf) left → IsBefore (x ∷ xs) leaf left
  before x [] previous c has left link = absurd (false≢true has)
  before x (y ∷ ys) previous c has left link = elim (cases_eq y.1 leaf) [
    | inl e ↦ here left e (sym (ap (previous_at k ws) e) ∙ c.4.2) link
    | inr ne ↦ later left (before y ys (x.1 + 1) c.4 (live_later y ys leaf ne has) left link) (some y ys (x.1 + 1) c.4 (live_later y ys leaf ne has) left link)
  ]
    where
      here : (left : Option ℕ) → y.1 ≡ leaf → previous_at k ws leaf ≡ x.1 + 1 → IsLinked (previous_at k ws leaf) left → IsBefore (x ∷ y ∷ ys) leaf left
      here None e is link = absurd (omega (arith, is, link))
      here (Some l) e is link = adjacent_first x y ys l leaf (omega (arith, is, link)) e

      or_right : (a b : Bool) → b ≡ true → (a || b) ≡ true
      or_right true b e = refl
      or_right false b e = e

      some : (x : List ℕ × ℕ) (xs : Anchors) (previous : ℕ) → LeafChain k ws previous (x ∷ xs) → has_leaf xs leaf ≡ true → (left : Option ℕ) → IsLinked (previous_at k ws leaf) left → left ≢ None
      some x [] previous c has left link = absurd (false≢true has)
      some x (y ∷ ys) previous c has left link = elim (cases_eq y.1 leaf) [
        | inl e ↦ λ none. let is : previous_at k ws leaf ≡ x.1 + 1 = sym (ap (previous_at k ws) e) ∙ c.4.2 in let zero : previous_at k ws leaf ≡ 0 = subst (IsLinked (previous_at k ws leaf)) none link in omega (arith, is, zero)
        | inr ne ↦ some y ys (x.1 + 1) c.4 (live_later y ys leaf ne has) left link
      ]

      later : (left : Option ℕ) → IsBefore (y ∷ ys) leaf left → left ≢ None → IsBefore (x ∷ y ∷ ys) leaf left
      later None is some = absurd (some refl)
      later (Some l) is some = or_right (eqb x.1 l && eqb y.1 leaf) (adjacent (y ∷ ys) l leaf) is

  -- and of any live one
  before_any : (A : Anchors) → Rises A → LeafChain k ws 0 A → has_leaf A leaf ≡ true → (left : Option ℕ) → IsLinked (previous_at k ws leaf) left → IsBefore A leaf left
  before_any [] rises c has left link = absurd (false≢true has)
  before_any (x ∷ xs) rises c has left link = elim (cases_eq x.1 leaf) [
    | inl e ↦ first left (sym (ap (previous_at k ws) e) ∙ c.2) (ap (span xs) (sym e) ∙ rises.1) link
    | inr ne ↦ before x xs 0 c (live_later x xs leaf ne has) left link
  ]
    where
      first : (left : Option ℕ) → previous_at k ws leaf ≡ 0 → span xs leaf ≡ None → IsLinked (previous_at k ws leaf) left → IsBefore (x ∷ xs) leaf left
      first None zero none link = λ other. first_alone x xs leaf other none
      first (Some l) zero none link = absurd (omega (arith, zero, link))

  pub side_live : (A : Anchors) → StandsFor k ws A → has_leaf A leaf ≡ true → IsLive k ws leaf
  side_live A s has = row_live A 0 s.chained has

  pub side_before : (A : Anchors) → StandsFor k ws A → has_leaf A leaf ≡ true → (left : Option ℕ) → IsLinked (previous_at k ws leaf) left → IsBefore A leaf left
  side_before A s has left link = before_any A s.anchors.rises s.chained has left link

  pub side_behind : (A : Anchors) → StandsFor k ws A → has_leaf A leaf ≡ true → (right : Option ℕ) → IsLinked (next_at k ws leaf) right → IsBehind A leaf right
  side_behind A s has right link = behind A 0 s.chained has right link
