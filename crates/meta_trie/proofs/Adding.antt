-- The words stand for the anchors with one more.
use Rattle.std.proofs.Common.{◌≡◌, ◌≢◌, ℕ, ◌+◌, ◌-◌, ◌<◌, ◌≤◌, inl, inr, List, [], ◌∷◌, ◌++◌, length, get_or, Option, Some, None, sym, ap, ◌∙◌, subst, arith, eq-eqb}
use Rattle.std.specs.Prelude.{Bool, true, false, max, min, is_some, if◌then◌else◌}
use Rattle.std.specs.List.{AllByRecursion}
use mathlib.Core.Bool.{false≢true}
use Rattle.std.proofs.lemmas.Bool.{cases_order, ne_eqb}
use Rattle.key_bytes.specs.Common.{lcp}
use Rattle.key_bytes.specs.Lengths.{AreBytes}
use Rattle.key_bytes.specs.Order.{is_below}
use Rattle.anchor_rules.specs.Anchors.{Anchors, Span, is_before, next_anchor, span, has_leaf, Rises, with_split}
use Rattle.anchor_rules.specs.Items.{item, shared, longest_anchor, first_leaf}
use Rattle.anchor_rules.proofs.Edits.{split_anchors, split_left, split_right, split_else}
use Rattle.anchor_rules.proofs.ItemChanges.{Place, place_of}
use Rattle.anchor_rules.proofs.Prefixes.{heads_more, heads_same, lcp_short, lcp_sym}
use Rattle.row_words.specs.declared.shape.Shape.{Shape}
use Rattle.row_words.specs.Layout.{leaf_word, rows_begin}
use Rattle.row_words.specs.Decode.{mark_at, anchor_at, next_at, IsLive}
use Rattle.row_words.specs.declared.layout.TheConstants.{LONGEST_ANCHOR}
use Rattle.meta_trie.specs.Trie.{Holds, used_of}
use Rattle.meta_trie.specs.Stands.{LeafChain, StandsFor, first_link, fresh_count, prefix_count}
use Rattle.meta_trie.specs.Words.{RowAdded}
use Rattle.meta_trie.specs.Grows.{Grows}
use Rattle.meta_trie.proofs.LeafRows.{unlisted}
use Rattle.meta_trie.proofs.Splicing.{chain_split, chain_rows, all_split, first_leaf-split, longest-split, length-split}

both_more : (u v w : ℕ) → w ≡ min u v → w + 1 ≡ min (u + 1) (v + 1)
both_more u v w e = omega (arith, e)

none_behind : (u : ℕ) → 0 ≡ min u 0
none_behind u = omega arith

none_before : (v : ℕ) → 0 ≡ min 0 v
none_before v = omega arith

lcp_apart : (x y : ℕ) (a b : List ℕ) → x ≢ y → lcp (x ∷ a) (y ∷ b) ≡ 0
lcp_apart x y a b ne = ap (λ (t : Bool). if t then lcp a b + 1 else 0) (ne_eqb x y ne)

lcp_more : (x y : ℕ) (a b : List ℕ) → x ≡ y → lcp (x ∷ a) (y ∷ b) ≡ lcp a b + 1
lcp_more x y a b e = ap (λ (t : Bool). if t then lcp a b + 1 else 0) (eq-eqb x y e)

heads_order : (x y : ℕ) (a b : List ℕ) → is_below (x ∷ a) (y ∷ b) ≡ true → x ≤ y
heads_order x y a b p = elim (cases_order x y) [
  | inl same ↦ omega (arith, same)
  | inr r ↦ elim r [ inl below ↦ omega (arith, below) | inr above ↦ absurd (false≢true (sym (heads_more x y a b above) ∙ p)) ]
]

tails_order : (x y : ℕ) (a b : List ℕ) → x ≡ y → is_below (x ∷ a) (y ∷ b) ≡ true → is_below a b ≡ true
tails_order x y a b e p = sym (heads_same y a b) ∙ ap (λ (z : ℕ). is_below (z ∷ a) (y ∷ b)) (sym e) ∙ p

-- what an anchor shares with one two places before it is what both share with the one between
lcp_between : (lo a h : List ℕ) → is_below lo a ≡ true → is_below a h ≡ true → lcp lo h ≡ min (lcp lo a) (lcp a h)
lcp_between [] a h p q = none_before (lcp a h)
lcp_between (x ∷ lo) [] h p q = absurd (false≢true p)
lcp_between (x ∷ lo) (y ∷ a) [] p q = absurd (false≢true q)
lcp_between (x ∷ lo) (y ∷ a) (z ∷ h) p q = elim (cases_order x y) [
  | inl xy ↦ elim (cases_order y z) [
    | inl yz ↦ lcp_more x z lo h (xy ∙ yz) ∙ both_more (lcp lo a) (lcp a h) (lcp lo h) (lcp_between lo a h (tails_order x y lo a xy p) (tails_order y z a h yz q))
        ∙ (λ i. min (sym (lcp_more x y lo a xy) i) (sym (lcp_more y z a h yz) i))
    | inr r ↦
        let yz : y ≢ z = elim r [ inl below ↦ λ e. omega (arith, e, below) | inr above ↦ λ e. omega (arith, e, above) ] in
        lcp_apart x z lo h (λ e. yz (sym xy ∙ e)) ∙ none_behind (lcp (x ∷ lo) (y ∷ a)) ∙ ap (min (lcp (x ∷ lo) (y ∷ a))) (sym (lcp_apart y z a h yz))
  ]
  | inr r ↦
      let xy : x ≢ y = elim r [ inl below ↦ λ e. omega (arith, e, below) | inr above ↦ λ e. omega (arith, e, above) ] in
      let l1 = heads_order x y lo a p in
      let l2 = heads_order y z a h q in
      lcp_apart x z lo h (λ e. xy (omega (arith, e, l1, l2))) ∙ none_before (lcp (y ∷ a) (z ∷ h)) ∙ ap (λ (u : ℕ). min u (lcp (y ∷ a) (z ∷ h))) (sym (lcp_apart x y lo a xy))
]

counted : (u v n m f : ℕ) → u ≤ n → v ≤ n → v ≤ m → (n - u) + ((m - v) + f) ≡ ((m - min u v) + f) + (n - max u v)
counted u v n m f a b c = omega (arith, a, b, c)

fresh_tail : (lo a : List ℕ) (back : Anchors) → is_below lo a ≡ true → is_before (next_anchor back) a ≡ true → (length a - lcp lo a) + fresh_count a back ≡ fresh_count lo back + (length a - shared lo a (next_anchor back))
fresh_tail lo a [] p q = omega arith
fresh_tail lo a (r ∷ back) p q =
    let u = lcp_short a lo in
    let us = lcp_sym a lo in
    let v = lcp_short a r.0 in
    let w = lcp_short r.0 a in
    let ws = lcp_sym r.0 a in
    counted (lcp lo a) (lcp a r.0) (length a) (length r.0) (fresh_count r.0 back) (omega (arith, u, us)) v (omega (arith, w, ws))
    ∙ ap (λ (x : ℕ). ((length r.0 - x) + fresh_count r.0 back) + (length a - max (lcp lo a) (lcp a r.0))) (sym (lcp_between lo a r.0 p q))

pub fresh-split : (front : Anchors) (b lo : List ℕ) (left : ℕ) (a : List ℕ) (leaf : ℕ) (back : Anchors) → is_below lo a ≡ true → is_before (next_anchor back) a ≡ true → fresh_count b (front ++ (lo, left) ∷ (a, leaf) ∷ back) ≡ fresh_count b (front ++ (lo, left) ∷ back) + (length a - shared lo a (next_anchor back))
fresh-split [] b lo left a leaf back p q = let e = fresh_tail lo a back p q in omega (arith, e)
fresh-split (r ∷ front) b lo left a leaf back p q = let e = fresh-split front r.0 lo left a leaf back p q in omega (arith, e)

-- the next row's link
pub link_of : (front : Anchors) (k : Shape) (ws : List ℕ) (previous : ℕ) (lo : List ℕ) (left : ℕ) (back : Anchors) → LeafChain k ws previous (front ++ (lo, left) ∷ back) → IsLive k ws left × (anchor_at k ws left ≡ lo) × (next_at k ws left ≡ first_link back) × LeafChain k ws (left + 1) back
link_of [] k ws previous lo left back c = (c.0, c.1, c.3, c.4)
link_of (q ∷ front) k ws previous lo left back c = link_of front k ws (q.1 + 1) lo left back c.4

-- what the row of an anchor's leaf says: its anchor, and the next one
pub record Neighbour (k : Shape) (ws : List ℕ) (left : ℕ) (lo : List ℕ) (hi : Option (List ℕ)) : Type 0 where
  pub live : IsLive k ws left
  pub anchor_is : anchor_at k ws left ≡ lo
  pub last : next_at k ws left ≡ 0 → hi ≡ None
  pub next : (r : ℕ) → next_at k ws left ≡ r + 1 → IsLive k ws r × (hi ≡ Some (anchor_at k ws r))

pub neighbour : (k : Shape) (ws : List ℕ) (A : Anchors) (left : ℕ) (lo : List ℕ) (hi : Option (List ℕ)) → StandsFor k ws A → span A left ≡ Some (lo, hi) → Neighbour k ws left lo hi
neighbour k ws A left lo hi s at = go p.back (link_of p.front k ws 0 lo left p.back (subst (LeafChain k ws 0) p.whole s.chained)) p.next
  where
    p : Place A left lo hi
    p = place_of A left lo hi at

    go : (back : Anchors) → (IsLive k ws left × (anchor_at k ws left ≡ lo) × (next_at k ws left ≡ first_link back) × LeafChain k ws (left + 1) back) → next_anchor back ≡ hi → Neighbour k ws left lo hi
    go [] l n = record { live = l.0; anchor_is = l.1; last = λ e. sym n; next = λ r e. absurd (omega (arith, e, l.2)) }
    go (q ∷ back) l n = record {
      live = l.0;
      anchor_is = l.1;
      last = λ e. absurd (omega (arith, e, l.2));
      next = λ r e. let same : q.1 ≡ r = omega (arith, e, l.2) in (subst (IsLive k ws) same l.3.0, sym n ∙ ap Some (sym l.3.1 ∙ ap (anchor_at k ws) same));
    }

module _ (k : Shape) (w0 w1 ws : List ℕ) (A : Anchors) (left : ℕ) (lo : List ℕ) (hi : Option (List ℕ)) (a : List ℕ) (leaf next : ℕ) (s : StandsFor k w0 A) (g : Grows A left lo hi a) (new : span A leaf ≡ None) (lt : leaf < k.leaves) (link : next ≡ next_at k w0 left)
    (add : RowAdded k w0 w1 left leaf a next) (rows : (x : ℕ) → rows_begin k ≤ x → get_or ws x 0 ≡ get_or w1 x 0)
    (longest : get_or ws 0 0 ≡ max (length a) (longest_anchor A)) (live : get_or ws 3 0 ≡ length A + 1)
    (trie : Holds k ws (item (with_split A left a leaf))) (root : trie.owner 0 ≡ Some []) (used : used_of ws ≡ prefix_count A + (length a - shared lo a hi)) where
  p : Place A left lo hi
  p = place_of A left lo hi g.at

  split : with_split A left a leaf ≡ p.front ++ (lo, left) ∷ (a, leaf) ∷ p.back
  split = p.split a leaf

  next_is : next ≡ first_link p.back
  next_is = link ∙ (link_of p.front k w0 0 lo left p.back (subst (LeafChain k w0 0) p.whole s.chained)).2

  dead_new : (l : ℕ) → l < k.leaves → has_leaf (with_split A left a leaf) l ≡ false → mark_at k ws l ≡ 0
  dead_new l m none =
      let no_leaf : l ≢ leaf = λ e. false≢true (sym none ∙ ap (has_leaf (with_split A left a leaf)) e ∙ ap (λ (o : Option Span). is_some o) (split_right A left a leaf lo hi new g.at)) in
      let no_left : l ≢ left = λ e. false≢true (sym none ∙ ap (has_leaf (with_split A left a leaf)) e ∙ ap (λ (o : Option Span). is_some o) (split_left A left a leaf lo hi g.at)) in
      let gone : has_leaf A l ≡ false = ap (λ (o : Option Span). is_some o) (sym (split_else A left a leaf l no_left no_leaf)) ∙ none in
      let zero : leaf_word k l + 0 ≡ leaf_word k l = omega arith in
      rows (leaf_word k l) (omega arith)
      ∙ ap (λ (x : ℕ). get_or w1 x 0) (sym zero)
      ∙ add.others l 0 no_leaf (omega arith) (λ e. λ z. omega (arith, z)) (λ e. λ z. omega (arith, z))
      ∙ ap (λ (x : ℕ). get_or w0 x 0) zero
      ∙ s.dead l m gone

  pub added_stands : StandsFor k ws (with_split A left a leaf)
  added_stands = record {
    anchors = split_anchors A left a leaf lo hi new g.at g.above g.before s.anchors;
    zero = ap first_leaf split ∙ first_leaf-split p.front (lo, left) (a, leaf) p.back ∙ ap first_leaf (sym p.whole) ∙ s.zero;
    keys = subst (AllByRecursion (λ (q : List ℕ × ℕ). (length q.0 < LONGEST_ANCHOR + 1) × AreBytes q.0 × (q.1 < k.leaves))) (sym split) (all_split _ p.front (lo, left) (a, leaf) p.back (subst (AllByRecursion (λ (q : List ℕ × ℕ). (length q.0 < LONGEST_ANCHOR + 1) × AreBytes q.0 × (q.1 < k.leaves))) p.whole s.keys) (g.short, g.bytes, lt));
    chained = chain_rows k w1 ws _ 0 rows (subst (LeafChain k w1 0) (sym split) (chain_split k w0 w1 left leaf a next add p.front lo p.back 0 (subst Rises p.whole g.rises) (subst (AllByRecursion (λ (q : List ℕ × ℕ). q.1 ≢ leaf)) p.whole (unlisted A leaf new)) next_is (subst (LeafChain k w0 0) p.whole s.chained)));
    dead = dead_new;
    trie = trie;
    root = root;
    longest = longest ∙ ap (max (length a)) (ap longest_anchor p.whole) ∙ sym (longest-split p.front (lo, left) (a, leaf) p.back) ∙ ap longest_anchor (sym split);
    used = used ∙ count ∙ ap prefix_count (sym split);
    live = live ∙ ap (λ (n : ℕ). n + 1) (ap length p.whole) ∙ sym (length-split p.front (lo, left) (a, leaf) p.back) ∙ ap length (sym split);
  }
    where
      count : prefix_count A + (length a - shared lo a hi) ≡ prefix_count (p.front ++ (lo, left) ∷ (a, leaf) ∷ p.back)
      count =
          let e = fresh-split p.front [] lo left a leaf p.back g.above (ap (λ (h : Option (List ℕ)). is_before h a) p.next ∙ g.before) in
          let w = ap (fresh_count []) p.whole in
          let h = ap (shared lo a) p.next in
          omega (arith, e, w, h)
