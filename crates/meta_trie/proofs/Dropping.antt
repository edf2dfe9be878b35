-- The words stand for the anchors with one less.
use Rattle.std.proofs.Common.{◌≡◌, ◌≢◌, ℕ, ◌+◌, ◌-◌, ◌<◌, ◌≤◌, List, [], ◌∷◌, ◌++◌, length, get_or, append_assoc, Option, Some, None, sym, ap, ◌∙◌, refl, subst, arith}
use Rattle.std.specs.Prelude.{true, false, max, is_some}
use Rattle.std.specs.List.{AllByRecursion}
use mathlib.Core.Bool.{false≢true}
use mathlib.Core.Logic.{dite}
use native.Mathlib.Decide.{ℕ_discrete}
use Rattle.key_bytes.specs.Common.{lcp}
use Rattle.key_bytes.specs.Lengths.{AreBytes}
use Rattle.key_bytes.specs.Order.{is_below}
use Rattle.anchor_rules.specs.Anchors.{Anchors, Span, AreAnchors, Rises, is_before, next_anchor, span, has_leaf, with_merge}
use Rattle.anchor_rules.specs.Items.{Item, item, first_leaf, leaf_after, shared, longest_anchor}
use Rattle.anchor_rules.proofs.Edits.{merge_right, merge_left, merge_else, merge_anchors}
use Rattle.anchor_rules.proofs.Ends.{last_one}
use Rattle.anchor_rules.proofs.ItemChanges.{Gap, gap_of, leaf_after_at, span_before}
use Rattle.anchor_rules.proofs.ItemParts.{rises_back, leaf_apart, span_at, leftmost_begins}
use Rattle.anchor_rules.proofs.Parts.{Around, around}
use Rattle.anchor_rules.proofs.Spans.{no_span}
use Rattle.row_words.specs.declared.shape.Shape.{Shape}
use Rattle.row_words.specs.Layout.{leaf_word, rows_begin}
use Rattle.row_words.specs.Decode.{mark_at, anchor_at, previous_at, next_at, IsLive}
use Rattle.row_words.specs.declared.layout.TheConstants.{LONGEST_ANCHOR}
use Rattle.meta_trie.specs.Trie.{Holds, used_of}
use Rattle.meta_trie.specs.Stands.{LeafChain, StandsFor, first_link, prefix_count, ShareNext}
use Rattle.meta_trie.specs.Words.{SameRest}
use Rattle.meta_trie.specs.Shrinks.{Shrinks, Shrinking, RowDropped}
use Rattle.meta_trie.proofs.Holding.{holds_same, holds_same-owner}
use Rattle.meta_trie.proofs.RowWrites.{SameTrie, trie_kept, trie_kept-owner, anchor_same}
use Rattle.meta_trie.proofs.Splicing.{chain_rows, first_leaf-split, longest-split, length-split}
use Rattle.meta_trie.proofs.Growing.{mixed_later}
use Rattle.meta_trie.proofs.Adding.{fresh-split, Neighbour, neighbour}
use Rattle.meta_trie.proofs.Laying.{shared_fits, back_by}
use Rattle.meta_trie.proofs.Shrinking.{merged_end}
use Rattle.meta_trie.proofs.Cutting.{chain_merge, all_unsplit}
use Rattle.meta_trie.proofs.TopMarks.{longest_is}

-- the neighbours of a leaf whose anchor isn't the first one
pub record Between (A : Anchors) (leaf : ℕ) : Type 0 where
  pub left : ℕ
  pub lo : List ℕ
  pub a : List ℕ
  pub hi : Option (List ℕ)
  pub at : span A left ≡ Some (lo, Some a)
  pub gone : span A leaf ≡ Some (a, hi)

pub between : (A : Anchors) (leaf : ℕ) → AreAnchors A → first_leaf A ≡ 0 → has_leaf A leaf ≡ true → leaf ≢ 0 → Between A leaf
between A leaf are first here some = go h.front h.whole
  where
    h : Around A leaf
    h = around A leaf are.rises here

    go : (front : Anchors) → A ≡ front ++ (h.anchor, leaf) ∷ h.back → Between A leaf
    go [] w = absurd (some (sym (ap first_leaf w) ∙ first))
    go (x ∷ xs) w =
        let o = last_one x xs in
        let y = o.1.0 in
        let whole : A ≡ (o.0 ++ y ∷ []) ++ (h.anchor, leaf) ∷ h.back = w ∙ ap (λ (l : Anchors). l ++ (h.anchor, leaf) ∷ h.back) o.1.1 in
        let parts : A ≡ o.0 ++ y ∷ (h.anchor, leaf) ∷ h.back = whole ∙ append_assoc o.0 (y ∷ []) ((h.anchor, leaf) ∷ h.back) in
        record {
          left = y.1;
          lo = y.0;
          a = h.anchor;
          hi = next_anchor h.back;
          at = ap (λ (l : Anchors). span l y.1) parts ∙ span_at o.0 y.0 y.1 ((h.anchor, leaf) ∷ h.back) (subst Rises parts are.rises);
          gone = ap (λ (l : Anchors). span l leaf) whole ∙ span_at (o.0 ++ y ∷ []) h.anchor leaf h.back (subst Rises whole are.rises);
        }

first_behind : (back : Anchors) → first_link back - 1 ≡ first_leaf back
first_behind [] = refl
first_behind (q ∷ back) = omega arith

-- what the rows say at two neighbours
chain_gap : (front : Anchors) (k : Shape) (ws : List ℕ) (previous : ℕ) (lo a : List ℕ) (left leaf : ℕ) (back : Anchors) → LeafChain k ws previous (front ++ (lo, left) ∷ (a, leaf) ∷ back) → (previous_at k ws leaf ≡ left + 1) × (next_at k ws leaf ≡ first_link back) × LeafChain k ws (leaf + 1) back
chain_gap [] k ws previous lo a left leaf back c = (c.4.2, c.4.3, c.4.4)
chain_gap (q ∷ front) k ws previous lo a left leaf back c = chain_gap front k ws (q.1 + 1) lo a left leaf back c.4

leaf_fits : (front : Anchors) (P : List ℕ × ℕ → Type 0) (x y : List ℕ × ℕ) (back : Anchors) → AllByRecursion P (front ++ x ∷ y ∷ back) → P y
leaf_fits [] P x y back all = all.1.0
leaf_fits (q ∷ front) P x y back all = leaf_fits front P x y back all.1

module _ (k : Shape) (w0 : List ℕ) (A : Anchors) (left leaf : ℕ) (lo a : List ℕ) (hi : Option (List ℕ)) (s : StandsFor k w0 A) (at : span A left ≡ Some (lo, Some a)) (gone : span A leaf ≡ Some (a, hi)) where
  gap : Gap A left leaf lo a hi
  gap = gap_of A left leaf lo a hi s.anchors at gone

  rises : Rises (gap.front ++ (lo, left) ∷ (a, leaf) ∷ gap.back)
  rises = subst Rises gap.whole s.anchors.rises

  row : (previous_at k w0 leaf ≡ left + 1) × (next_at k w0 leaf ≡ first_link gap.back) × LeafChain k w0 (leaf + 1) gap.back
  row = chain_gap gap.front k w0 0 lo a left leaf gap.back (subst (LeafChain k w0 0) gap.whole s.chained)

  after : leaf_after A leaf ≡ first_leaf gap.back
  after =
      let w : A ≡ (gap.front ++ (lo, left) ∷ []) ++ (a, leaf) ∷ gap.back = gap.whole ∙ sym (append_assoc gap.front ((lo, left) ∷ []) ((a, leaf) ∷ gap.back)) in
      ap (λ (l : Anchors). leaf_after l leaf) w ∙ leaf_after_at (gap.front ++ (lo, left) ∷ []) a leaf gap.back (subst Rises w s.anchors.rises)

  pub left_apart : left ≢ leaf
  left_apart = leaf_apart [] (lo, left) a leaf gap.back (rises_back gap.front ((lo, left) ∷ (a, leaf) ∷ gap.back) rises)

  pub short : (length a < LONGEST_ANCHOR + 1) × AreBytes a × (leaf < k.leaves)
  short = leaf_fits gap.front (λ (q : List ℕ × ℕ). (length q.0 < LONGEST_ANCHOR + 1) × AreBytes q.0 × (q.1 < k.leaves)) (lo, left) (a, leaf) gap.back (subst (AllByRecursion (λ (q : List ℕ × ℕ). (length q.0 < LONGEST_ANCHOR + 1) × AreBytes q.0 × (q.1 < k.leaves))) gap.whole s.keys)

  -- the links of the row give its neighbours
  pub links : (previous_at k w0 leaf ≡ left + 1) × (next_at k w0 leaf - 1 ≡ leaf_after A leaf)
  links = (row.0, ap (λ (n : ℕ). n - 1) row.1 ∙ first_behind gap.back ∙ sym after)

  below : is_below lo a ≡ true
  below = span_before A left lo (Some a) s.anchors.rises at

  before : is_before (next_anchor gap.back) a ≡ true
  before = ap (λ (e : Option (List ℕ)). is_before e a) gap.next ∙ span_before A leaf a hi s.anchors.rises gone

  -- the prefixes of the anchor that no neighbour has are the ones more
  counted : prefix_count A ≡ prefix_count (with_merge A leaf) + (length a - shared lo a hi)
  counted =
      let e = fresh-split gap.front [] lo left a leaf gap.back below before in
      let w = ap prefix_count gap.whole in
      let m = ap prefix_count gap.merged in
      let h = ap (shared lo a) gap.next in
      omega (arith, e, w, m, h)

  beside : (end : List ℕ) → hi ≡ Some end → IsLive k w0 (leaf_after A leaf) × (anchor_at k w0 (leaf_after A leaf) ≡ end)
  beside end e = go gap.back row.2 after gap.next
    where
      go : (back : Anchors) → LeafChain k w0 (leaf + 1) back → leaf_after A leaf ≡ first_leaf back → next_anchor back ≡ hi → IsLive k w0 (leaf_after A leaf) × (anchor_at k w0 (leaf_after A leaf) ≡ end)
      go [] c f n = let none : None ≡ Some end = n ∙ e in absurd (cc)
      go (q ∷ back) c f n =
          let same : Some q.0 ≡ Some end = n ∙ e in
          let is : q.0 ≡ end = cc in
          (subst (IsLive k w0) (sym f) c.0, ap (anchor_at k w0) f ∙ c.1 ∙ is)

  pub shrinking_start : Shrinking k w0 A leaf lo a hi 0
  shrinking_start =
      let same = λ (p : List ℕ). sym (mixed_later A (with_merge A leaf) a 0 p (omega arith)) in
      record {
        trie = holds_same k w0 _ _ same s.trie;
        root = holds_same-owner k w0 _ _ same s.trie 0 ∙ s.root;
        beside = beside;
        used = omega (arith, s.used);
        many = omega (arith, counted);
      }

  module _ (w1 w3 : List ℕ) (next front back : ℕ) (g : Shrinks A leaf lo a hi left (next - 1) front back) (link : next ≡ next_at k w0 leaf) (rest : SameRest k w0 w1) (sh : Shrinking k w1 A leaf lo a hi (length a + 1)) (d : RowDropped k w1 w3 left leaf next (length a)) where
    chain_between : LeafChain k d.between 0 (with_merge A leaf)
    chain_between = subst (LeafChain k d.between 0) (sym gap.merged) (chain_merge k w1 d.between left leaf next d.cut gap.front lo a gap.back 0 rises (link ∙ row.1) (chain_rows k w0 w1 _ 0 rest.rows (subst (LeafChain k w0 0) gap.whole s.chained)))

    -- the other leaves aren't live, as before
    dead_between : (l : ℕ) → l < k.leaves → has_leaf (with_merge A leaf) l ≡ false → mark_at k d.between l ≡ 0
    dead_between l m none = dite (ℕ_discrete l leaf)
        (λ same. ap (mark_at k d.between) same ∙ d.cut.dead)
        (λ ne.
        let no_left : l ≢ left = λ e. false≢true (sym none ∙ ap (has_leaf (with_merge A leaf)) e ∙ ap (λ (o : Option Span). is_some o) (merge_left left leaf left_apart lo a hi A s.anchors.rises at gone)) in
        let gone_too : has_leaf A l ≡ false = ap (λ (o : Option Span). is_some o) (sym (merge_else left leaf left_apart lo a hi A l s.anchors.rises at gone no_left ne)) ∙ none in
        let zero : leaf_word k l + 0 ≡ leaf_word k l = omega arith in
        ap (λ (x : ℕ). get_or d.between x 0) (sym zero)
        ∙ d.cut.others l 0 (omega arith) (λ e. absurd (ne e)) (λ e. absurd (no_left e)) (λ e. λ z. omega (arith, z))
        ∙ ap (λ (x : ℕ). get_or w1 x 0) zero
        ∙ rest.rows (leaf_word k l) (omega arith)
        ∙ s.dead l m gone_too)

    rows_high : (x : ℕ) → rows_begin k ≤ x → get_or w3 x 0 ≡ get_or d.between x 0
    rows_high x l = d.high x (omega (arith, l))

    same_trie : SameTrie k w1 w3 (λ l. l ≢ leaf)
    same_trie = record {
      low = λ x p q. d.low x p q ∙ d.cut.low x (omega (arith, q));
      items = λ x p q. d.high x p ∙ d.cut.low x q;
      anchors = λ other ne live.
          anchor_same k w1 w3 other live.2 (λ o m. d.high (leaf_word k other + o) (omega arith) ∙ d.cut.others other o (omega (arith, m)) (λ e. absurd (ne e)) (λ e. λ z. omega (arith, z, m)) (λ e. λ z. omega (arith, z, m)));
    }

    new_anchors : AreAnchors (with_merge A leaf)
    new_anchors = merge_anchors left leaf left_apart lo a hi A s.anchors at gone

    keeps : (p : List ℕ) (it : Item) → item (with_merge A leaf) p ≡ Some it → it.leftmost ≢ leaf
    keeps p it e same =
        let t = leftmost_begins (with_merge A leaf) p it new_anchors.rises e in
        no_span (sym t.1 ∙ ap (span (with_merge A leaf)) same ∙ merge_right A leaf s.anchors.rises)

    first_trie : Holds k w1 (item (with_merge A leaf))
    first_trie = holds_same k w1 _ _ (merged_end A leaf lo a hi left (next - 1) front back g (length a + 1) (omega arith)) sh.trie

    first_root : first_trie.owner 0 ≡ Some []
    unfolding first_trie
    first_root = holds_same-owner k w1 _ _ (merged_end A leaf lo a hi left (next - 1) front back g (length a + 1) (omega arith)) sh.trie 0 ∙ sh.root

    longest_old : get_or d.between 0 0 ≡ longest_anchor A
    longest_old = d.cut.low 0 (omega arith) ∙ rest.longest ∙ s.longest

    more : longest_anchor A ≡ max (length a) (longest_anchor (with_merge A leaf))
    more = ap longest_anchor gap.whole ∙ longest-split gap.front (lo, left) (a, leaf) gap.back ∙ ap (λ (l : Anchors). max (length a) (longest_anchor l)) (sym gap.merged)

    longest_new : get_or w3 0 0 ≡ longest_anchor (with_merge A leaf)
    longest_new = dite (ℕ_discrete (get_or d.between 0 0) (length a))
        (λ same. let e = longest_is k d.between (with_merge A leaf) 0 (get_or w3 0 0 + 1) chain_between dead_between (d.found same) in omega (arith, e))
        (λ ne. let kept = d.kept ne in omega (arith, kept, more, longest_old, ne))

    count_is : length A ≡ length (with_merge A leaf) + 1
    count_is = ap length gap.whole ∙ length-split gap.front (lo, left) (a, leaf) gap.back ∙ ap (λ (l : Anchors). length l + 1) (sym gap.merged)

    pub dropped_stands : StandsFor k w3 (with_merge A leaf)
    dropped_stands = record {
      anchors = new_anchors;
      zero = ap first_leaf gap.merged ∙ sym (first_leaf-split gap.front (lo, left) (a, leaf) gap.back) ∙ ap first_leaf (sym gap.whole) ∙ s.zero;
      keys = subst (AllByRecursion (λ (q : List ℕ × ℕ). (length q.0 < LONGEST_ANCHOR + 1) × AreBytes q.0 × (q.1 < k.leaves))) (sym gap.merged) (all_unsplit _ gap.front (lo, left) (a, leaf) gap.back (subst (AllByRecursion (λ (q : List ℕ × ℕ). (length q.0 < LONGEST_ANCHOR + 1) × AreBytes q.0 × (q.1 < k.leaves))) gap.whole s.keys));
      chained = chain_rows k d.between w3 _ 0 rows_high chain_between;
      dead = λ l m none. rows_high (leaf_word k l) (omega arith) ∙ dead_between l m none;
      trie = trie_kept k w1 w3 (λ l. l ≢ leaf) same_trie (item (with_merge A leaf)) keeps first_trie;
      root = trie_kept-owner k w1 w3 (λ l. l ≢ leaf) same_trie (item (with_merge A leaf)) keeps first_trie 0 ∙ first_root;
      longest = longest_new;
      used =
          let u : used_of w3 ≡ used_of w1 = d.low 1 (omega arith) (omega arith) ∙ d.cut.low 1 (omega arith) in
          let fits = shared_fits lo a hi in
          omega (arith, u, sh.used, counted, fits);
      live = let l : get_or d.between 3 0 ≡ length A = d.cut.low 3 (omega arith) ∙ rest.live ∙ s.live in omega (arith, l, d.live, count_is);
    }

-- what the rows say of a leaf whose anchor isn't the first one, and of its neighbours
pub record Mergeable (k : Shape) (ws : List ℕ) (A : Anchors) (leaf : ℕ) : Type 0 where
  pub b : Between A leaf
  pub short : length b.a < LONGEST_ANCHOR + 1
  pub previous_is : previous_at k ws leaf ≡ b.left + 1
  pub after_is : next_at k ws leaf - 1 ≡ leaf_after A leaf
  pub before : Neighbour k ws b.left b.lo (Some b.a)
  pub beside : Neighbour k ws leaf b.a b.hi

pub mergeable : (k : Shape) (ws : List ℕ) (A : Anchors) (leaf : ℕ) → StandsFor k ws A → has_leaf A leaf ≡ true → leaf ≢ 0 → Mergeable k ws A leaf
mergeable k ws A leaf s here some =
    let b = between A leaf s.anchors s.zero here some in
    let l = links k ws A b.left leaf b.lo b.a b.hi s b.at b.gone in
    record {
      b = b;
      short = (short k ws A b.left leaf b.lo b.a b.hi s b.at b.gone).0;
      previous_is = l.0;
      after_is = l.1;
      before = neighbour k ws A b.left b.lo (Some b.a) s b.at;
      beside = neighbour k ws A leaf b.a b.hi s b.gone;
    }

-- the neighbours by the links and the counts that were read
pub shrinks_by : (k : Shape) (ws : List ℕ) (A : Anchors) (leaf : ℕ) → StandsFor k ws A → (m : Mergeable k ws A leaf) → (x : List ℕ) (previous next front back : ℕ) → x ≡ m.b.a → previous ≡ previous_at k ws leaf → next ≡ next_at k ws leaf → ShareNext k ws previous x front → ShareNext k ws next x back → Shrinks A leaf m.b.lo x m.b.hi (previous - 1) (next - 1) front back
shrinks_by k ws A leaf s m x previous next front back e pe ne f b =
    let left : previous - 1 ≡ m.b.left = omega (arith, pe, m.previous_is) in
    record {
      are = s.anchors;
      at = ap (span A) left ∙ m.b.at ∙ ap (λ (a : List ℕ). Some (m.b.lo, Some a)) (sym e);
      gone = m.b.gone ∙ ap (λ (a : List ℕ). Some (a, m.b.hi)) (sym e);
      short = subst (λ (a : List ℕ). length a < LONGEST_ANCHOR + 1) (sym e) m.short;
      after_is = ap (λ (n : ℕ). n - 1) ne ∙ m.after_is;
      front_is = f.more m.b.left (pe ∙ m.previous_is) ∙ ap (λ (a : List ℕ). lcp a x + 1) m.before.anchor_is;
      back_is = back_by k ws leaf m.b.a m.b.hi x back m.beside (subst (λ (n : ℕ). ShareNext k ws n x back) ne b);
    }
