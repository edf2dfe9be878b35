-- The items of anchors with one more between two of them.
use Rattle.std.proofs.Common.{◌≡◌, ℕ, List, [], ◌∷◌, ◌++◌, Bool, true, false, cond, Option, Some, None, refl, sym, ap, ◌∙◌, append_assoc}
use Rattle.std.specs.Prelude.{◌||◌, if◌then◌else◌}
use Rattle.std.specs.List.{AllByRecursion, filter, list_any}
use mathlib.Core.Bool.{false≢true}
use Rattle.std.proofs.lemmas.List.Elements.{filter-append}
use Rattle.key_bytes.specs.Order.{is_below, is_same}
use Rattle.key_bytes.proofs.Conditions.{or_false}
use Rattle.anchor_rules.specs.Anchors.{Anchors, is_before, next_anchor, Rises}
use Rattle.anchor_rules.specs.Items.{Item, begins, begins_end, under, is_prefix, is_anchor_of, first_leaf, last_leaf, item}
use Rattle.anchor_rules.proofs.Prefixes.{begins_between, begins_not_longer, not_same_not_begun}
use Rattle.anchor_rules.proofs.ItemParts.{or_none, any_none, none_any, any_here, filter_none, filter_first, filter_drop, item_is, no_item}
use Rattle.anchor_rules.proofs.Spans.{all_weaker}

-- an item made of its parts
abbrev item_from : Bool → Bool → ℕ → ℕ → (ℕ → Bool) → Option Item
item_from some anchor first last child = if some then Some (record { is_anchor = anchor; leftmost = first; rightmost = last; child = child }) else None

item-from : (A : Anchors) (p : List ℕ) → item A p ≡ item_from (is_prefix A p) (is_anchor_of A p) (first_leaf (under A p)) (last_leaf (under A p)) (λ c. is_prefix A (p ++ c ∷ []))
unfolding item
item-from A p = refl

same_parts : (s s' k k' : Bool) (l l' r r' : ℕ) (f f' : ℕ → Bool) → s ≡ s' → k ≡ k' → l ≡ l' → r ≡ r' → ((c : ℕ) → f c ≡ f' c) → item_from s k l r f ≡ item_from s' k' l' r' f'
same_parts s s' k k' l l' r r' f f' se ke le re fe = λ i. item_from (se i) (ke i) (le i) (re i) (λ c. fe c i)

or_last : (x y z : Bool) → (x || (y || z)) ≡ ((x || z) || y)
or_last true y z = refl
or_last false true true = refl
or_last false true false = refl
or_last false false true = refl
or_last false false false = refl

or_through : (x l y : Bool) → (x || (l || y)) ≡ ((x || l) || y)
or_through true l y = refl
or_through false l y = refl

any_split : {X : Type 0} (f : X → Bool) (front : List X) (x y : X) (back : List X) → list_any f (front ++ x ∷ y ∷ back) ≡ (list_any f (front ++ x ∷ back) || f y)
any_split f [] x y back = or_last (f x) (f y) (list_any f back)
any_split f (z ∷ front) x y back = ap (λ (b : Bool). f z || b) (any_split f front x y back) ∙ or_through (f z) (list_any f (front ++ x ∷ back)) (f y)

filter_split : {X : Type 0} (f : X → Bool) (front : List X) (x y : X) (back : List X) → f y ≡ false → filter f (front ++ x ∷ y ∷ back) ≡ filter f (front ++ x ∷ back)
filter_split f [] x y back e = ap (λ (l : List _). cond (f x) (x ∷ l) l) (filter_drop f y back e)
filter_split f (z ∷ front) x y back e = ap (λ (l : List _). cond (f z) (z ∷ l) l) (filter_split f front x y back e)

first_leaf-front : (xs : Anchors) (q : List ℕ × ℕ) (ys zs : Anchors) → first_leaf (xs ++ q ∷ ys) ≡ first_leaf (xs ++ q ∷ zs)
first_leaf-front [] q ys zs = refl
first_leaf-front (x ∷ xs) q ys zs = refl

pub last_leaf-back : (xs : Anchors) (q : List ℕ × ℕ) (ys : Anchors) → last_leaf (xs ++ q ∷ ys) ≡ last_leaf (q ∷ ys)
last_leaf-back [] q ys = refl
last_leaf-back (x ∷ []) q ys = refl
last_leaf-back (x ∷ y ∷ xs) q ys = last_leaf-back (y ∷ xs) q ys

-- an anchor between others: behind lo's, and before what is behind that
module _ (front : Anchors) (lo : List ℕ) (left : ℕ) (a : List ℕ) (leaf : ℕ) (back : Anchors) (fronts : AllByRecursion (λ (q : List ℕ × ℕ). is_below q.0 lo ≡ true) front) (backs : Rises back) (above : is_below lo a ≡ true) (before : is_before (next_anchor back) a ≡ true) where
  abbrev pub old : Anchors
  old = front ++ (lo, left) ∷ back

  abbrev pub new : Anchors
  new = front ++ (lo, left) ∷ (a, leaf) ∷ back

  -- where lo doesn't begin with a prefix of a, nothing before it does
  pub none_front : (p : List ℕ) → begins p a ≡ true → begins p lo ≡ false → AllByRecursion (λ (q : List ℕ × ℕ). begins p q.0 ≡ false) front
  none_front p here there = all_weaker _ _ (λ q below. other q.0 below (begins p q.0) refl) front fronts
    where
      other : (q : List ℕ) → is_below q lo ≡ true → (s : Bool) → begins p q ≡ s → begins p q ≡ false
      other q below true e = absurd (false≢true (sym there ∙ begins_between p q lo a e here below above))
      other q below false e = e

  -- where the next one doesn't, nothing behind it does
  pub none_back : (p : List ℕ) → begins p a ≡ true → begins_end p (next_anchor back) ≡ false → AllByRecursion (λ (q : List ℕ × ℕ). begins p q.0 ≡ false) back
  none_back p here there = go back backs before there
    where
      go : (b : Anchors) → Rises b → is_before (next_anchor b) a ≡ true → begins_end p (next_anchor b) ≡ false → AllByRecursion (λ (q : List ℕ × ℕ). begins p q.0 ≡ false) b
      go [] r below none = tt
      go (h ∷ b) r below none = (none, all_weaker _ _ (λ q over. other q.0 over (begins p q.0) refl) b r.0)
        where
          other : (q : List ℕ) → is_below h.0 q ≡ true → (s : Bool) → begins p q ≡ s → begins p q ≡ false
          other q over true e = absurd (false≢true (sym none ∙ begins_between p a h.0 q here e below over))
          other q over false e = e

  any_new : (f : List ℕ × ℕ → Bool) → list_any f new ≡ (list_any f old || f (a, leaf))
  any_new f = any_split f front (lo, left) (a, leaf) back

  any_same : (f : List ℕ × ℕ → Bool) → f (a, leaf) ≡ false → list_any f new ≡ list_any f old
  any_same f e = any_new f ∙ (ap (λ (b : Bool). list_any f old || b) e ∙ or_false (list_any f old))

  -- a prefix of others has the item that it had
  pub item_other : (p : List ℕ) → begins p a ≡ false → item new p ≡ item old p
  item_other p e =
      let test : List ℕ × ℕ → Bool = λ q. begins p q.0 in
      let same = filter_split test front (lo, left) (a, leaf) back e in
      item-from new p ∙ (same_parts _ _ _ _ _ _ _ _ _ _ (any_same test e) (any_same (λ q. is_same p q.0) (not_same_not_begun p a e)) (ap first_leaf same) (ap last_leaf same) (λ c. any_same (λ q. begins (p ++ c ∷ []) q.0) (begins_not_longer p (c ∷ []) a e)) ∙ sym (item-from old p))

  leftmost_new : (p : List ℕ) → begins p a ≡ true → first_leaf (under new p) ≡ (if begins p lo then first_leaf (under old p) else leaf)
  leftmost_new p here = elim (begins p lo) as (λ (s : Bool). begins p lo ≡ s → first_leaf (under new p) ≡ cond s (first_leaf (under old p)) leaf) [
    | true ↦ λ e.
        let f : List ℕ × ℕ → Bool = λ q. begins p q.0 in
        ap first_leaf (filter-append f front ((lo, left) ∷ (a, leaf) ∷ back) ∙ ap (λ (l : Anchors). filter f front ++ l) (filter_first f (lo, left) ((a, leaf) ∷ back) e))
        ∙ (first_leaf-front (filter f front) (lo, left) (filter f ((a, leaf) ∷ back)) (filter f back)
        ∙ sym (ap first_leaf (filter-append f front ((lo, left) ∷ back) ∙ ap (λ (l : Anchors). filter f front ++ l) (filter_first f (lo, left) back e))))
    | false ↦ λ e.
        let f : List ℕ × ℕ → Bool = λ q. begins p q.0 in
        ap first_leaf (filter-append f front ((lo, left) ∷ (a, leaf) ∷ back) ∙ (ap (λ (l : Anchors). l ++ filter f ((lo, left) ∷ (a, leaf) ∷ back)) (filter_none f front (none_front p here e)) ∙ (filter_drop f (lo, left) ((a, leaf) ∷ back) e ∙ filter_first f (a, leaf) back here)))
  ] refl

  -- the last leaf, by what is behind
  last_behind : (p : List ℕ) (q : List ℕ × ℕ) (xs : Anchors) → begins p q.0 ≡ true → last_leaf (under (xs ++ q ∷ back) p) ≡ last_leaf (q ∷ under back p)
  last_behind p q xs e = let f : List ℕ × ℕ → Bool = λ q. begins p q.0 in ap last_leaf (filter-append f xs (q ∷ back) ∙ ap (λ (l : Anchors). filter f xs ++ l) (filter_first f q back e)) ∙ last_leaf-back (filter f xs) q (filter f back)

  rightmost_new : (p : List ℕ) → begins p a ≡ true → last_leaf (under new p) ≡ (if begins_end p (next_anchor back) then last_leaf (under old p) else leaf)
  rightmost_new p here = ap (λ (l : Anchors). last_leaf (under l p)) (sym (append_assoc front ((lo, left) ∷ []) ((a, leaf) ∷ back))) ∙ (last_behind p (a, leaf) (front ++ (lo, left) ∷ []) here ∙ elim (begins_end p (next_anchor back)) as (λ (s : Bool). begins_end p (next_anchor back) ≡ s → last_leaf ((a, leaf) ∷ under back p) ≡ cond s (last_leaf (under old p)) leaf) [
    | true ↦ λ e. behind back e ∙ ap (λ (l : Anchors). last_leaf (under l p)) (append_assoc front ((lo, left) ∷ []) back)
    | false ↦ λ e. ap (λ (l : Anchors). last_leaf ((a, leaf) ∷ l)) (filter_none (λ q. begins p q.0) back (none_back p here e))
  ] refl)
    where
      behind : (b : Anchors) → begins_end p (next_anchor b) ≡ true → last_leaf ((a, leaf) ∷ under b p) ≡ last_leaf (under ((front ++ (lo, left) ∷ []) ++ b) p)
      behind [] e = absurd (false≢true e)
      behind (h ∷ b) e =
          let f : List ℕ × ℕ → Bool = λ q. begins p q.0 in
          let first = filter_first f h b e in
          ap (λ (l : Anchors). last_leaf ((a, leaf) ∷ l)) first ∙ sym (ap last_leaf (filter-append f (front ++ (lo, left) ∷ []) (h ∷ b) ∙ ap (λ (l : Anchors). filter f (front ++ (lo, left) ∷ []) ++ l) first) ∙ last_leaf-back (filter f (front ++ (lo, left) ∷ [])) h (filter f b))

  -- what a prefix of the new anchor has
  item_with : (p : List ℕ) → begins p a ≡ true → item new p ≡ item_from true (is_anchor_of old p || is_same p a) (if begins p lo then first_leaf (under old p) else leaf) (if begins_end p (next_anchor back) then last_leaf (under old p) else leaf) (λ c. is_prefix old (p ++ c ∷ []) || begins (p ++ c ∷ []) a)
  item_with p here = item-from new p ∙ same_parts _ _ _ _ _ _ _ _ _ _ (any_new (λ q. begins p q.0) ∙ (ap (λ (b : Bool). is_prefix old p || b) here ∙ or_true (is_prefix old p))) (any_new (λ q. is_same p q.0)) (leftmost_new p here) (rightmost_new p here) (λ c. any_new (λ q. begins (p ++ c ∷ []) q.0))
    where
      or_true : (x : Bool) → (x || true) ≡ true
      or_true true = refl
      or_true false = refl

  -- it had an item before exactly where a neighbour begins with it
  pub prefix_old : (p : List ℕ) → begins p a ≡ true → is_prefix old p ≡ (begins p lo || begins_end p (next_anchor back))
  prefix_old p here = elim (begins p lo) as (λ (s : Bool). begins p lo ≡ s → is_prefix old p ≡ (s || begins_end p (next_anchor back))) [
    | true ↦ λ e. any_here (λ (q : List ℕ × ℕ). begins p q.0) front (lo, left) back e
    | false ↦ λ e. without front (none_front p here e) e
  ] refl
    where
      behind : (b : Anchors) → (begins_end p (next_anchor b) ≡ false → AllByRecursion (λ (q : List ℕ × ℕ). begins p q.0 ≡ false) b) → is_prefix b p ≡ begins_end p (next_anchor b)
      behind [] none = refl
      behind (h ∷ b) none = elim (begins p h.0) as (λ (s : Bool). begins p h.0 ≡ s → (s || is_prefix b p) ≡ s) [
        | true ↦ λ e. refl
        | false ↦ λ e. none_any (λ (q : List ℕ × ℕ). begins p q.0) b (none e).1
      ] refl

      without : (xs : Anchors) → AllByRecursion (λ (q : List ℕ × ℕ). begins p q.0 ≡ false) xs → begins p lo ≡ false → is_prefix (xs ++ (lo, left) ∷ back) p ≡ begins_end p (next_anchor back)
      without [] none e = ap (λ (b : Bool). b || is_prefix back p) e ∙ behind back (none_back p here)
      without (x ∷ xs) none e = ap (λ (b : Bool). b || is_prefix (xs ++ (lo, left) ∷ back) p) none.0 ∙ without xs none.1 e

  -- where it had an item
  pub item_known : (p : List ℕ) (it : Item) → begins p a ≡ true → item old p ≡ Some it → item new p ≡ Some (record {
    is_anchor = it.is_anchor || is_same p a;
    leftmost = if begins p lo then it.leftmost else leaf;
    rightmost = if begins_end p (next_anchor back) then it.rightmost else leaf;
    child = λ c. it.child c || begins (p ++ c ∷ []) a;
  })
  item_known p it here known =
      let is = item_is old p it known in
      item_with p here ∙ same_parts true true _ _ _ _ _ _ _ _ refl (ap (λ (b : Bool). b || is_same p a) (sym is.anchor)) (ap (λ (n : ℕ). cond (begins p lo) n leaf) (sym is.first)) (ap (λ (n : ℕ). cond (begins_end p (next_anchor back)) n leaf) (sym is.last)) (λ c. ap (λ (b : Bool). b || begins (p ++ c ∷ []) a) (sym (is.children c)))

  -- where it had none
  pub item_new : (p : List ℕ) → begins p a ≡ true → item old p ≡ None → item new p ≡ Some (record {
    is_anchor = is_same p a;
    leftmost = leaf;
    rightmost = leaf;
    child = λ c. begins (p ++ c ∷ []) a;
  })
  item_new p here none =
      let not_prefix = no_item old p none in
      let neither = or_none (begins p lo) (begins_end p (next_anchor back)) (sym (prefix_old p here) ∙ not_prefix) in
      item_with p here ∙ same_parts true true _ _ _ _ _ _ _ _ refl (ap (λ (b : Bool). b || is_same p a) (not_anchor (is_anchor_of old p) refl)) (ap (λ (b : Bool). cond b (first_leaf (under old p)) leaf) neither.0) (ap (λ (b : Bool). cond b (last_leaf (under old p)) leaf) neither.1) (λ c. ap (λ (b : Bool). b || begins (p ++ c ∷ []) a) (none_any (λ (q : List ℕ × ℕ). begins (p ++ c ∷ []) q.0) old (all_weaker _ _ (λ q e. begins_not_longer p (c ∷ []) q.0 e) old (any_none (λ (q : List ℕ × ℕ). begins p q.0) old not_prefix))))
    where
      not_anchor : (s : Bool) → is_anchor_of old p ≡ s → is_anchor_of old p ≡ false
      not_anchor s e = none_any (λ (q : List ℕ × ℕ). is_same p q.0) old (all_weaker _ _ (λ q e. not_same_not_begun p q.0 e) old (any_none (λ (q : List ℕ × ℕ). begins p q.0) old (no_item old p none)))
