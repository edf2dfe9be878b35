-- What the rows of a table that stands for anchors say of them.
use Rattle.std.proofs.Common.{◌≡◌, ◌≢◌, ℕ, ◌+◌, ◌-◌, ◌%◌, ◌<◌, ◌≤◌, inl, inr, List, [], ◌∷◌, ◌++◌, length, take, true, false, Option, Some, None, refl, sym, ap, ◌∙◌, subst, arith, append_assoc, length-take}
use Rattle.std.specs.Prelude.{◌||◌}
use Rattle.std.specs.List.{AllByRecursion}
use mathlib.Core.Bool.{false≢true}
use Rattle.key_bytes.specs.Fnv.{prefix_hash}
use Rattle.key_bytes.specs.Lengths.{AreBytes}
use Rattle.key_bytes.specs.Order.{is_same}
use Rattle.key_bytes.proofs.Conditions.{some_same}
use Rattle.anchor_rules.specs.Anchors.{Anchors, Span, span, next_anchor, Rises, AreAnchors}
use Rattle.anchor_rules.specs.Items.{Item, item, begins, is_anchor_of, longest_anchor, leaf_before}
use Rattle.anchor_rules.proofs.ItemParts.{item_is, item_short, leftmost_begins}
use Rattle.anchor_rules.proofs.ItemChanges.{Place, place_of}
use Rattle.anchor_rules.proofs.Ends.{last_one, leaf_before_at, begins_empty}
use Rattle.row_words.specs.declared.shape.Shape.{Shape}
use Rattle.row_words.specs.declared.layout.TheConstants.{LONGEST_ANCHOR, UPPER}
use Rattle.row_words.specs.Decode.{longest_at, item_at, anchor_at, previous_at, next_at, IsLive, IsUsed, IsOf}
use Rattle.meta_trie.specs.Trie.{Entry, Stands, HasEntry, bucket_of}
use Rattle.meta_trie.specs.Stands.{first_link, LeafChain, StandsFor}
use Rattle.prefix_search.specs.Search.{IsFollowed, Tells}

-- the item of an entry of a bucket
entry_stands : (es : List Entry) (k : Shape) (ws : List ℕ) (known : List ℕ → Option Item) (b i : ℕ) (name : List ℕ) → HasEntry i name es → AllByRecursion (Stands k ws known b) es → Stands k ws known b (record { at = i; name = name })
entry_stands [] k ws known b i name has all = absurd has
entry_stands (e ∷ es) k ws known b i name has all = elim has [
  | inl same ↦ let is : e ≡ record { at = i; name = name } = λ x. record { at = same.0 x; name = same.1 x } in subst (Stands k ws known b) is all.0
  | inr later ↦ entry_stands es k ws known b i name later all.1
]

-- item 0 is that of the empty prefix
pub root_stands : (k : Shape) (ws : List ℕ) (A : Anchors) → StandsFor k ws A → Stands k ws (item A) (bucket_of k []) (record { at = 0; name = [] })
root_stands k ws A s =
    let h = s.trie in
    let some = h.ranges.heads.0 in
    entry_stands (h.buckets (bucket_of k [])) k ws (item A) (bucket_of k []) 0 [] (h.mine 0 [] s.root) (h.standing (bucket_of k []) (omega arith))

pub root_used : (k : Shape) (ws : List ℕ) (A : Anchors) → StandsFor k ws A → IsUsed k ws 0
root_used k ws A s = let r = root_stands k ws A s in (r.in_range, r.live)

pub root_is : (k : Shape) (ws : List ℕ) (A : Anchors) → StandsFor k ws A → IsOf k ws 0 [] (prefix_hash k.salt [])
root_is k ws A s = let r = root_stands k ws A s in record { same_hash = r.hash; same_len = r.len; same_bytes = r.named }

pub root_tells : (k : Shape) (ws : List ℕ) (A : Anchors) → StandsFor k ws A → Tells A [] (item_at k ws 0)
root_tells k ws A s = (root_stands k ws A s).said

-- the header tells the length of the longest anchor
short_anchors : (A : Anchors) (n : ℕ) → AllByRecursion (λ (q : List ℕ × ℕ). (length q.0 < LONGEST_ANCHOR + 1) × AreBytes q.0 × (q.1 < n)) A → longest_anchor A < LONGEST_ANCHOR + 1
short_anchors [] n all = omega arith
short_anchors (q ∷ A) n all = let rest = short_anchors A n all.1 in omega (arith, all.0.0)

pub longest_is : (k : Shape) (ws : List ℕ) (A : Anchors) → StandsFor k ws A → longest_at ws ≡ longest_anchor A
longest_is k ws A s = ap (λ (n : ℕ). n % UPPER) s.longest ∙ small (longest_anchor A) (short_anchors A k.leaves s.keys)
  where
    small : (n : ℕ) → n < LONGEST_ANCHOR + 1 → n % UPPER ≡ n
    small n lt = omega arith

pub none_past : (A : Anchors) (key : List ℕ) (n : ℕ) → longest_anchor A < n → n ≤ length key → item A (take n key) ≡ None
none_past A key n long le = item_short A (take n key) (omega (arith, length-take n key))

-- the link to the last of these leaves, or the one before them
abbrev pub link_to : Anchors → ℕ → ℕ
link_to [] previous = previous
link_to (q ∷ A) previous = link_to A (q.1 + 1)

link_to-push : (A : Anchors) (q : List ℕ × ℕ) (previous : ℕ) → link_to (A ++ q ∷ []) previous ≡ q.1 + 1
link_to-push [] q previous = refl
link_to-push (x ∷ A) q previous = link_to-push A q (x.1 + 1)

-- what the row of a leaf says
pub record LeafSays (k : Shape) (ws : List ℕ) (leaf : ℕ) (a : List ℕ) (previous next : ℕ) : Type 0 where
  pub live : IsLive k ws leaf
  pub anchor : anchor_at k ws leaf ≡ a
  pub previous_is : previous_at k ws leaf ≡ previous
  pub next_is : next_at k ws leaf ≡ next

leaf_says : (front : Anchors) (k : Shape) (ws : List ℕ) (previous : ℕ) (a : List ℕ) (leaf : ℕ) (back : Anchors) → LeafChain k ws previous (front ++ (a, leaf) ∷ back) → LeafSays k ws leaf a (link_to front previous) (first_link back)
leaf_says [] k ws previous a leaf back c = record { live = c.0; anchor = c.1; previous_is = c.2; next_is = c.3 }
leaf_says (q ∷ front) k ws previous a leaf back c = leaf_says front k ws (q.1 + 1) a leaf back c.4

-- a leaf, and the anchor that follows its own
pub record AtLeaf (k : Shape) (ws : List ℕ) (A : Anchors) (leaf : ℕ) : Type 0 where
  pub live : IsLive k ws leaf
  pub last : next_at k ws leaf ≡ 0 → IsFollowed A leaf None
  pub next_live : next_at k ws leaf ≢ 0 → IsLive k ws (next_at k ws leaf - 1)
  pub next : next_at k ws leaf ≢ 0 → IsFollowed A leaf (Some (anchor_at k ws (next_at k ws leaf - 1)))

pub at_leaf : (k : Shape) (ws : List ℕ) (A : Anchors) (leaf : ℕ) (s : Span) → StandsFor k ws A → span A leaf ≡ Some s → AtLeaf k ws A leaf
at_leaf k ws A leaf s stands e = go place.back place.whole place.next
  where
    place : Place A leaf s.0 s.1
    place = place_of A leaf s.0 s.1 e

    go : (b : Anchors) → A ≡ place.front ++ (s.0, leaf) ∷ b → next_anchor b ≡ s.1 → AtLeaf k ws A leaf
    go [] whole next =
        let says = leaf_says place.front k ws 0 s.0 leaf [] (subst (λ (l : Anchors). LeafChain k ws 0 l) whole stands.chained) in
        record {
          live = says.live;
          last = λ z. (s.0, e ∙ ap (λ (h : Option (List ℕ)). Some (s.0, h)) (sym next));
          next_live = λ some. absurd (some says.next_is);
          next = λ some. absurd (some says.next_is);
        }
    go (h ∷ b) whole next =
        let says = leaf_says place.front k ws 0 s.0 leaf (h ∷ b) (subst (λ (l : Anchors). LeafChain k ws 0 l) whole stands.chained) in
        let whole' : A ≡ (place.front ++ (s.0, leaf) ∷ []) ++ (h.0, h.1) ∷ b = whole ∙ sym (append_assoc place.front ((s.0, leaf) ∷ []) (h ∷ b)) in
        let behind = leaf_says (place.front ++ (s.0, leaf) ∷ []) k ws 0 h.0 h.1 b (subst (λ (l : Anchors). LeafChain k ws 0 l) whole' stands.chained) in
        let link : next_at k ws leaf - 1 ≡ h.1 = ap (λ (n : ℕ). n - 1) says.next_is ∙ omega arith in
        record {
          live = says.live;
          last = λ z. absurd (none (next_at k ws leaf) h.1 says.next_is z);
          next_live = λ some. subst (IsLive k ws) (sym link) behind.live;
          next = λ some. (s.0, e ∙ (ap (λ (x : Option (List ℕ)). Some (s.0, x)) (sym next) ∙ ap (λ (x : List ℕ). Some (s.0, Some x)) (sym behind.anchor ∙ ap (anchor_at k ws) (sym link))));
        }
      where
        none : (n m : ℕ) → n ≡ m + 1 → n ≡ 0 → ⊥
        none n m is zero = omega arith

-- a leaf whose anchor isn't empty, and the one before it
pub record BeforeLeaf (k : Shape) (ws : List ℕ) (A : Anchors) (leaf : ℕ) : Type 0 where
  pub live : IsLive k ws leaf
  pub link : previous_at k ws leaf ≡ leaf_before A leaf + 1

pub before_leaf : (k : Shape) (ws : List ℕ) (A : Anchors) (leaf : ℕ) (s : Span) → StandsFor k ws A → span A leaf ≡ Some s → s.0 ≢ [] → BeforeLeaf k ws A leaf
before_leaf k ws A leaf s stands e some = go place.front place.whole
  where
    place : Place A leaf s.0 s.1
    place = place_of A leaf s.0 s.1 e

    go : (front : Anchors) → A ≡ front ++ (s.0, leaf) ∷ place.back → BeforeLeaf k ws A leaf
    go [] whole = absurd (some (some_same s.0 [] (sym (ap next_anchor whole) ∙ stands.anchors.first)))
    go (x ∷ xs) whole =
        let last = last_one x xs in
        let ys = last.0 in
        let y = last.1.0 in
        let says = leaf_says (x ∷ xs) k ws 0 s.0 leaf place.back (subst (λ (l : Anchors). LeafChain k ws 0 l) whole stands.chained) in
        let whole' : A ≡ ys ++ (y.0, y.1) ∷ (s.0, leaf) ∷ place.back = whole ∙ (ap (λ (l : Anchors). l ++ (s.0, leaf) ∷ place.back) last.1.1 ∙ append_assoc ys (y ∷ []) ((s.0, leaf) ∷ place.back)) in
        let rises = subst Rises whole' stands.anchors.rises in
        let leaf_is : leaf_before A leaf ≡ y.1 = ap (λ (l : Anchors). leaf_before l leaf) whole' ∙ leaf_before_at ys y s.0 leaf place.back rises in
        record {
          live = says.live;
          link = says.previous_is ∙ (ap (λ (l : Anchors). link_to l 0) last.1.1 ∙ (link_to-push ys y 0 ∙ ap (λ (n : ℕ). n + 1) (sym leaf_is)));
        }

-- the first anchor that begins with a prefix that isn't one itself isn't empty
pub inner_anchor : (A : Anchors) (p : List ℕ) (it : Item) → AreAnchors A → item A p ≡ Some it → it.is_anchor ≡ false → (s : Span) × (span A it.leftmost ≡ Some s) × (s.0 ≢ [])
inner_anchor A p it are known inner =
    let first = leftmost_begins A p it are.rises known in
    (first.0, first.1, λ empty. false≢true (sym inner ∙ ((item_is A p it known).anchor ∙ (ap (is_anchor_of A) (begins_empty p (ap (begins p) (sym empty) ∙ first.2)) ∙ first_is A are))))
  where
    first_is : (B : Anchors) → AreAnchors B → is_anchor_of B [] ≡ true
    first_is [] are = absurd (cc (are.first))
    first_is (q ∷ B) are = ap (λ (a : List ℕ). is_same [] a || is_anchor_of B []) (some_same q.0 [] are.first)
