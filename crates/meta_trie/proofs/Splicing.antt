-- A row more in the list of the leaf rows, and an anchor more in the list of the anchors.
use Rattle.std.proofs.Common.{◌≡◌, ◌≢◌, ℕ, ◌+◌, ◌-◌, ◌%◌, ◌<◌, ◌≤◌, List, [], ◌∷◌, ◌++◌, length, get_or, sym, ap, ◌∙◌, refl, arith, get_or-set_other, get_or-set_same}
use Rattle.std.specs.Prelude.{max}
use Rattle.std.specs.List.{AllByRecursion}
use Rattle.std.proofs.Math.ListN.{set}
use Rattle.anchor_rules.specs.Anchors.{Anchors, Rises}
use Rattle.anchor_rules.specs.Items.{first_leaf, longest_anchor}
use Rattle.anchor_rules.proofs.ItemParts.{all_parts}
use Rattle.row_words.specs.declared.shape.Shape.{Shape}
use Rattle.row_words.specs.Layout.{leaf_word, rows_begin}
use Rattle.row_words.specs.Decode.{mark_at, anchor_at}
use Rattle.row_words.specs.declared.layout.TheConstants.{LEAF_WORDS, PREVIOUS_PART, NEXT_PART, UPPER}
use Rattle.meta_trie.specs.Stands.{LeafChain, first_link}
use Rattle.meta_trie.specs.Words.{RowPut, LinkSet, PreviousSet, RowAdded}
use Rattle.meta_trie.proofs.RowWrites.{other_row, anchor_same}
use Rattle.meta_trie.proofs.LeafRows.{unlisted}

-- one word of a row was set
pub link_put : (k : Shape) (ws : List ℕ) (leaf o value : ℕ) → leaf_word k leaf + o < length ws → LinkSet k ws (set ws (leaf_word k leaf + o) value) leaf o value
link_put k ws leaf o value room = record {
  here = get_or-set_same ws (leaf_word k leaf + o) value 0 room;
  others = λ x ne. get_or-set_other ws (leaf_word k leaf + o) x value 0 ne;
}

pub previous_set : (k : Shape) (ws new : List ℕ) (next value : ℕ) → next ≢ 0 → LinkSet k ws new (next - 1) PREVIOUS_PART value → PreviousSet k ws new next value
previous_set k ws new next value some l = record {
  here = λ r e. ap (λ (x : ℕ). get_or new (leaf_word k x + PREVIOUS_PART) 0) (omega (arith, e)) ∙ l.here;
  others = λ x far. l.others x (far (next - 1) (omega (arith, some)));
}

pub previous_none : (k : Shape) (ws : List ℕ) (value : ℕ) → PreviousSet k ws ws 0 value
previous_none k ws value = record { here = λ r e. absurd (omega (arith, e)); others = λ x far. refl }

module _ (k : Shape) (w0 w1 w2 w3 : List ℕ) (left leaf : ℕ) (a : List ℕ) (next : ℕ) (apart : left ≢ leaf) (behind : next ≢ leaf + 1) (most : leaf < 4294967295)
    (p1 : RowPut k w0 w1 leaf a (left + 1) next) (p2 : LinkSet k w1 w2 left NEXT_PART (leaf + 1)) (p3 : PreviousSet k w2 w3 next (leaf + 1)) where
  -- the row itself stays
  mine : (o : ℕ) → o < LEAF_WORDS → get_or w3 (leaf_word k leaf + o) 0 ≡ get_or w1 (leaf_word k leaf + o) 0
  mine o l =
      p3.others (leaf_word k leaf + o) (λ r e q. let same : r ≡ leaf = omega (arith, q, l) in behind (omega (arith, e, same)))
      ∙ p2.others (leaf_word k leaf + o) (λ q. let same : left ≡ leaf = omega (arith, q, l) in apart same)

  mine_anchor : (mark_at k w3 leaf ≡ mark_at k w1 leaf) × (anchor_at k w3 leaf ≡ anchor_at k w1 leaf)
  mine_anchor = anchor_same k w1 w3 leaf p1.live.2 (λ o l. mine o (omega arith))

  pub row_added : RowAdded k w0 w3 left leaf a next
  row_added = record {
    live = let m = mine_anchor.0 in (p1.live.0, omega (arith, m, p1.live.1), omega (arith, m, p1.live.2));
    anchor_is = mine_anchor.1 ∙ p1.anchor_is;
    previous_is = ap (λ (w : ℕ). w % UPPER) (mine PREVIOUS_PART (omega arith)) ∙ p1.previous_is;
    next_is = ap (λ (w : ℕ). w % UPPER) (mine NEXT_PART (omega arith)) ∙ p1.next_is;
    left_next = ap (λ (w : ℕ). w % UPPER) (p3.others (leaf_word k left + NEXT_PART) (λ r e q. omega (arith, q)) ∙ p2.here) ∙ omega (arith, most);
    next_previous = λ r e. ap (λ (w : ℕ). w % UPPER) (p3.here r e) ∙ omega (arith, most);
    others = λ l o ne ol no34 no33.
        p3.others (leaf_word k l + o) (λ r e q. let same : r ≡ l = omega (arith, q, ol) in let is : o ≡ PREVIOUS_PART = omega (arith, q, same) in no33 (omega (arith, e, same)) is)
        ∙ p2.others (leaf_word k l + o) (λ q. let same : l ≡ left = omega (arith, q, ol) in let is : o ≡ NEXT_PART = omega (arith, q, same) in no34 same is)
        ∙ other_row k w0 w1 leaf l ne p1.before p1.behind o ol;
    low = λ x l. p3.others x (λ r e. omega (arith, l)) ∙ p2.others x (omega (arith, l)) ∙ p1.before x (omega (arith, l));
  }

pub link_apart : (back : Anchors) (l : ℕ) → AllByRecursion (λ (r : List ℕ × ℕ). r.1 ≢ l) back → first_link back ≢ l + 1
link_apart [] l a e = omega (arith, e)
link_apart (r ∷ back) l a e = let same : r.1 ≡ l = omega (arith, e) in a.0 same

pub first_link-front : (front : Anchors) (q : List ℕ × ℕ) (xs ys : Anchors) → first_link (front ++ q ∷ xs) ≡ first_link (front ++ q ∷ ys)
first_link-front [] q xs ys = refl
first_link-front (f ∷ front) q xs ys = refl

module _ (k : Shape) (old new : List ℕ) (left leaf : ℕ) (a : List ℕ) (next : ℕ) (add : RowAdded k old new left leaf a next) where
  abbrev Apart : List ℕ × ℕ → Type 0
  Apart q = (q.1 ≢ leaf) × (q.1 ≢ left) × (next ≢ q.1 + 1)

  chain_all : (A : Anchors) (previous : ℕ) → AllByRecursion Apart A → LeafChain k old previous A → LeafChain k new previous A
  chain_all [] previous apart c = tt
  chain_all (q ∷ A) previous apart c =
      let here = λ (o : ℕ) (l : o < LEAF_WORDS). add.others q.1 o apart.0.0 l (λ e. absurd (apart.0.1 e)) (λ e. absurd (apart.0.2 e)) in
      let row = anchor_same k old new q.1 c.0.2 (λ o l. here o (omega arith)) in
      let m = row.0 in
      ((c.0.0, omega (arith, m, c.0.1), omega (arith, m, c.0.2)), row.1 ∙ c.1, ap (λ (w : ℕ). w % UPPER) (here PREVIOUS_PART (omega arith)) ∙ c.2, ap (λ (w : ℕ). w % UPPER) (here NEXT_PART (omega arith)) ∙ c.3, chain_all A (q.1 + 1) apart.1 c.4)

  apart_all : (A : Anchors) (x : ℕ) → next ≡ x + 1 → AllByRecursion (λ (q : List ℕ × ℕ). q.1 ≢ leaf) A → AllByRecursion (λ (q : List ℕ × ℕ). q.1 ≢ left) A → AllByRecursion (λ (q : List ℕ × ℕ). q.1 ≢ x) A → AllByRecursion Apart A
  apart_all [] x e f g h = tt
  apart_all (q ∷ A) x e f g h = ((f.0, g.0, (λ s. let same : q.1 ≡ x = omega (arith, e, s) in h.0 same)), apart_all A x e f.1 g.1 h.1)

  chain_back : (back : Anchors) (previous : ℕ) → Rises back → next ≡ first_link back → AllByRecursion (λ (q : List ℕ × ℕ). q.1 ≢ leaf) back → AllByRecursion (λ (q : List ℕ × ℕ). q.1 ≢ left) back → LeafChain k old previous back → LeafChain k new (leaf + 1) back
  chain_back [] previous r e f g c = tt
  chain_back (q ∷ back) previous r e f g c =
      let row = anchor_same k old new q.1 c.0.2 (λ o l. add.others q.1 o f.0 (omega arith) (λ s. absurd (g.0 s)) (λ s. λ t. omega (arith, t, l))) in
      let m = row.0 in (
        (c.0.0, omega (arith, m, c.0.1), omega (arith, m, c.0.2)),
        row.1 ∙ c.1,
        add.next_previous q.1 e,
        ap (λ (w : ℕ). w % UPPER) (add.others q.1 NEXT_PART f.0 (omega arith) (λ s. absurd (g.0 s)) (λ s. λ t. omega (arith, t))) ∙ c.3,
        chain_all back (q.1 + 1) (apart_all back q.1 e f.1 g.1 (unlisted back q.1 r.1)) c.4,
      )

  pub chain_split : (front : Anchors) (lo : List ℕ) (back : Anchors) (previous : ℕ) → Rises (front ++ (lo, left) ∷ back) → AllByRecursion (λ (q : List ℕ × ℕ). q.1 ≢ leaf) (front ++ (lo, left) ∷ back) → next ≡ first_link back → LeafChain k old previous (front ++ (lo, left) ∷ back) → LeafChain k new previous (front ++ (lo, left) ∷ (a, leaf) ∷ back)
  chain_split [] lo back previous r f e c =
      let lefts = unlisted back left r.1 in
      let no33 : next ≢ left + 1 = λ q. link_apart back left lefts (sym e ∙ q) in
      let row = anchor_same k old new left c.0.2 (λ o l. add.others left o f.0 (omega arith) (λ s. λ t. omega (arith, t, l)) (λ s. absurd (no33 s))) in
      let m = row.0 in (
        (c.0.0, omega (arith, m, c.0.1), omega (arith, m, c.0.2)),
        row.1 ∙ c.1,
        ap (λ (w : ℕ). w % UPPER) (add.others left PREVIOUS_PART f.0 (omega arith) (λ s. λ t. omega (arith, t)) (λ s. absurd (no33 s))) ∙ c.2,
        add.left_next,
        (add.live, add.anchor_is, add.previous_is, add.next_is ∙ e, chain_back back (left + 1) r.2 e f.1 lefts c.4),
      )
  chain_split (q ∷ front) lo back previous r f e c =
      let rest = unlisted (front ++ (lo, left) ∷ back) q.1 r.1 in
      let parts = all_parts (λ (x : List ℕ × ℕ). x.1 ≢ q.1) front ((lo, left) ∷ back) rest in
      let no_left : q.1 ≢ left = λ s. parts.1.0 (sym s) in
      let no33 : next ≢ q.1 + 1 = λ s. link_apart back q.1 parts.1.1 (sym e ∙ s) in
      let here = λ (o : ℕ) (l : o < LEAF_WORDS). add.others q.1 o f.0 l (λ s. absurd (no_left s)) (λ s. absurd (no33 s)) in
      let row = anchor_same k old new q.1 c.0.2 (λ o l. here o (omega arith)) in
      let m = row.0 in (
        (c.0.0, omega (arith, m, c.0.1), omega (arith, m, c.0.2)),
        row.1 ∙ c.1,
        ap (λ (w : ℕ). w % UPPER) (here PREVIOUS_PART (omega arith)) ∙ c.2,
        ap (λ (w : ℕ). w % UPPER) (here NEXT_PART (omega arith)) ∙ c.3 ∙ first_link-front front (lo, left) back ((a, leaf) ∷ back),
        chain_split front lo back (q.1 + 1) r.2 f.1 e c.4,
      )

-- where the words of the leaf rows stay, the list does
pub chain_rows : (k : Shape) (old new : List ℕ) (A : Anchors) (previous : ℕ) → ((x : ℕ) → rows_begin k ≤ x → get_or new x 0 ≡ get_or old x 0) → LeafChain k old previous A → LeafChain k new previous A
chain_rows k old new [] previous same c = tt
chain_rows k old new (q ∷ A) previous same c =
    let row = anchor_same k old new q.1 c.0.2 (λ o l. same (leaf_word k q.1 + o) (omega arith)) in
    let m = row.0 in (
      (c.0.0, omega (arith, m, c.0.1), omega (arith, m, c.0.2)),
      row.1 ∙ c.1,
      ap (λ (w : ℕ). w % UPPER) (same (leaf_word k q.1 + PREVIOUS_PART) (omega arith)) ∙ c.2,
      ap (λ (w : ℕ). w % UPPER) (same (leaf_word k q.1 + NEXT_PART) (omega arith)) ∙ c.3,
      chain_rows k old new A (q.1 + 1) same c.4,
    )

pub all_split : (P : List ℕ × ℕ → Type 0) (front : Anchors) (x y : List ℕ × ℕ) (back : Anchors) → AllByRecursion P (front ++ x ∷ back) → P y → AllByRecursion P (front ++ x ∷ y ∷ back)
all_split P [] x y back all p = (all.0, (p, all.1))
all_split P (q ∷ front) x y back all p = (all.0, all_split P front x y back all.1 p)

pub first_leaf-split : (front : Anchors) (x y : List ℕ × ℕ) (back : Anchors) → first_leaf (front ++ x ∷ y ∷ back) ≡ first_leaf (front ++ x ∷ back)
first_leaf-split [] x y back = refl
first_leaf-split (q ∷ front) x y back = refl

pub longest-split : (front : Anchors) (x y : List ℕ × ℕ) (back : Anchors) → longest_anchor (front ++ x ∷ y ∷ back) ≡ max (length y.0) (longest_anchor (front ++ x ∷ back))
longest-split [] x y back = grind arith
longest-split (q ∷ front) x y back = let e = longest-split front x y back in ap (max (length q.0)) e ∙ grind arith

pub length-split : (front : Anchors) (x y : List ℕ × ℕ) (back : Anchors) → length (front ++ x ∷ y ∷ back) ≡ length (front ++ x ∷ back) + 1
length-split [] x y back = omega arith
length-split (q ∷ front) x y back = let e = length-split front x y back in omega (arith, e)
