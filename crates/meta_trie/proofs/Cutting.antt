-- A row less in the list of the leaf rows.
use Rattle.std.proofs.Common.{◌≡◌, ◌≢◌, ℕ, ◌+◌, ◌%◌, ◌<◌, ◌≤◌, List, [], ◌∷◌, ◌++◌, get_or, sym, ap, ◌∙◌, arith}
use Rattle.std.specs.List.{AllByRecursion}
use Rattle.anchor_rules.specs.Anchors.{Anchors, Rises}
use Rattle.anchor_rules.proofs.ItemParts.{all_parts}
use Rattle.row_words.specs.declared.shape.Shape.{Shape}
use Rattle.row_words.specs.Layout.{leaf_word}
use Rattle.row_words.specs.Decode.{mark_at, anchor_at}
use Rattle.row_words.specs.declared.layout.TheConstants.{LONGEST_ANCHOR, LEAF_WORDS, PREVIOUS_PART, NEXT_PART, UPPER}
use Rattle.meta_trie.specs.Stands.{LeafChain, first_link}
use Rattle.meta_trie.specs.Words.{LinkSet, PreviousSet}
use Rattle.meta_trie.specs.Shrinks.{RowCut}
use Rattle.meta_trie.proofs.RowWrites.{anchor_same}
use Rattle.meta_trie.proofs.LeafRows.{unlisted}
use Rattle.meta_trie.proofs.Splicing.{link_apart, first_link-front}

-- two links and a mark were set
pub row_cut : (k : Shape) (w0 w1 w2 w3 : List ℕ) (left leaf next : ℕ) → left + 1 < UPPER → next < UPPER → LinkSet k w0 w1 left NEXT_PART next → PreviousSet k w1 w2 next (left + 1) → LinkSet k w2 w3 leaf 0 0 → RowCut k w0 w3 left leaf next
row_cut k w0 w1 w2 w3 left leaf next ll nl p1 p2 p3 =
    let zero : leaf_word k leaf ≡ leaf_word k leaf + 0 = omega arith in
    record {
      dead = ap (λ (x : ℕ). get_or w3 x 0) zero ∙ p3.here;
      left_next = ap (λ (w : ℕ). w % UPPER) (p3.others (leaf_word k left + NEXT_PART) (λ q. omega (arith, q)) ∙ p2.others (leaf_word k left + NEXT_PART) (λ r e q. omega (arith, q)) ∙ p1.here) ∙ omega (arith, nl);
      next_previous = λ r e. ap (λ (w : ℕ). w % UPPER) (p3.others (leaf_word k r + PREVIOUS_PART) (λ q. omega (arith, q)) ∙ p2.here r e) ∙ omega (arith, ll);
      others = λ l o lt no0 no34 no33.
          p3.others (leaf_word k l + o) (λ q. let same : l ≡ leaf = omega (arith, q, lt) in let is : o ≡ 0 = omega (arith, q, same) in no0 same is)
          ∙ p2.others (leaf_word k l + o) (λ r e q. let same : r ≡ l = omega (arith, q, lt) in let is : o ≡ PREVIOUS_PART = omega (arith, q, same) in no33 (omega (arith, e, same)) is)
          ∙ p1.others (leaf_word k l + o) (λ q. let same : l ≡ left = omega (arith, q, lt) in let is : o ≡ NEXT_PART = omega (arith, q, same) in no34 same is);
      low = λ x l. p3.others x (λ q. omega (arith, q, l)) ∙ p2.others x (λ r e q. omega (arith, q, l)) ∙ p1.others x (λ q. omega (arith, q, l));
    }

module _ (k : Shape) (old new : List ℕ) (left leaf next : ℕ) (cut : RowCut k old new left leaf next) where
  -- the mark and the anchor of another row stay
  pub row_kept : (l : ℕ) → l ≢ leaf → mark_at k old l ≤ LONGEST_ANCHOR + 1 → (mark_at k new l ≡ mark_at k old l) × (anchor_at k new l ≡ anchor_at k old l)
  row_kept l ne most = anchor_same k old new l most (λ o lt. cut.others l o (omega (arith, lt)) (λ e. absurd (ne e)) (λ e. λ z. omega (arith, z, lt)) (λ e. λ z. omega (arith, z, lt)))

  abbrev Apart : List ℕ × ℕ → Type 0
  Apart q = (q.1 ≢ leaf) × (q.1 ≢ left) × (next ≢ q.1 + 1)

  chain_all : (A : Anchors) (previous : ℕ) → AllByRecursion Apart A → LeafChain k old previous A → LeafChain k new previous A
  chain_all [] previous apart c = tt
  chain_all (q ∷ A) previous apart c =
      let here = λ (o : ℕ) (l : o < LEAF_WORDS). cut.others q.1 o l (λ e. absurd (apart.0.0 e)) (λ e. absurd (apart.0.1 e)) (λ e. absurd (apart.0.2 e)) in
      let row = row_kept q.1 apart.0.0 c.0.2 in
      let m = row.0 in
      ((c.0.0, omega (arith, m, c.0.1), omega (arith, m, c.0.2)), row.1 ∙ c.1, ap (λ (w : ℕ). w % UPPER) (here PREVIOUS_PART (omega arith)) ∙ c.2, ap (λ (w : ℕ). w % UPPER) (here NEXT_PART (omega arith)) ∙ c.3, chain_all A (q.1 + 1) apart.1 c.4)

  apart_all : (A : Anchors) (x : ℕ) → next ≡ x + 1 → AllByRecursion (λ (q : List ℕ × ℕ). q.1 ≢ leaf) A → AllByRecursion (λ (q : List ℕ × ℕ). q.1 ≢ left) A → AllByRecursion (λ (q : List ℕ × ℕ). q.1 ≢ x) A → AllByRecursion Apart A
  apart_all [] x e f g h = tt
  apart_all (q ∷ A) x e f g h = ((f.0, g.0, (λ s. let same : q.1 ≡ x = omega (arith, e, s) in h.0 same)), apart_all A x e f.1 g.1 h.1)

  chain_back : (back : Anchors) (previous : ℕ) → Rises back → next ≡ first_link back → AllByRecursion (λ (q : List ℕ × ℕ). q.1 ≢ leaf) back → AllByRecursion (λ (q : List ℕ × ℕ). q.1 ≢ left) back → LeafChain k old previous back → LeafChain k new (left + 1) back
  chain_back [] previous r e f g c = tt
  chain_back (q ∷ back) previous r e f g c =
      let row = row_kept q.1 f.0 c.0.2 in
      let m = row.0 in (
        (c.0.0, omega (arith, m, c.0.1), omega (arith, m, c.0.2)),
        row.1 ∙ c.1,
        cut.next_previous q.1 e,
        ap (λ (w : ℕ). w % UPPER) (cut.others q.1 NEXT_PART (omega arith) (λ s. absurd (f.0 s)) (λ s. absurd (g.0 s)) (λ s. λ t. omega (arith, t))) ∙ c.3,
        chain_all back (q.1 + 1) (apart_all back q.1 e f.1 g.1 (unlisted back q.1 r.1)) c.4,
      )

  pub chain_merge : (front : Anchors) (lo a : List ℕ) (back : Anchors) (previous : ℕ) → Rises (front ++ (lo, left) ∷ (a, leaf) ∷ back) → next ≡ first_link back → LeafChain k old previous (front ++ (lo, left) ∷ (a, leaf) ∷ back) → LeafChain k new previous (front ++ (lo, left) ∷ back)
  chain_merge [] lo a back previous r e c =
      let lefts = unlisted ((a, leaf) ∷ back) left r.1 in
      let leafs = unlisted back leaf r.2.1 in
      let no_leaf : left ≢ leaf = λ s. lefts.0 (sym s) in
      let no33 : next ≢ left + 1 = λ q. link_apart back left lefts.1 (sym e ∙ q) in
      let row = row_kept left no_leaf c.0.2 in
      let m = row.0 in (
        (c.0.0, omega (arith, m, c.0.1), omega (arith, m, c.0.2)),
        row.1 ∙ c.1,
        ap (λ (w : ℕ). w % UPPER) (cut.others left PREVIOUS_PART (omega arith) (λ s. absurd (no_leaf s)) (λ s. λ t. omega (arith, t)) (λ s. absurd (no33 s))) ∙ c.2,
        cut.left_next ∙ e,
        chain_back back (leaf + 1) r.2.2 e leafs lefts.1 c.4.4,
      )
  chain_merge (q ∷ front) lo a back previous r e c =
      let rest = unlisted (front ++ (lo, left) ∷ (a, leaf) ∷ back) q.1 r.1 in
      let parts = all_parts (λ (x : List ℕ × ℕ). x.1 ≢ q.1) front ((lo, left) ∷ (a, leaf) ∷ back) rest in
      let no_left : q.1 ≢ left = λ s. parts.1.0 (sym s) in
      let no_leaf : q.1 ≢ leaf = λ s. parts.1.1.0 (sym s) in
      let no33 : next ≢ q.1 + 1 = λ s. link_apart back q.1 parts.1.1.1 (sym e ∙ s) in
      let here = λ (o : ℕ) (l : o < LEAF_WORDS). cut.others q.1 o l (λ s. absurd (no_leaf s)) (λ s. absurd (no_left s)) (λ s. absurd (no33 s)) in
      let row = row_kept q.1 no_leaf c.0.2 in
      let m = row.0 in (
        (c.0.0, omega (arith, m, c.0.1), omega (arith, m, c.0.2)),
        row.1 ∙ c.1,
        ap (λ (w : ℕ). w % UPPER) (here PREVIOUS_PART (omega arith)) ∙ c.2,
        ap (λ (w : ℕ). w % UPPER) (here NEXT_PART (omega arith)) ∙ c.3 ∙ first_link-front front (lo, left) ((a, leaf) ∷ back) back,
        chain_merge front lo a back (q.1 + 1) r.2 e c.4,
      )

pub all_unsplit : (P : List ℕ × ℕ → Type 0) (front : Anchors) (x y : List ℕ × ℕ) (back : Anchors) → AllByRecursion P (front ++ x ∷ y ∷ back) → AllByRecursion P (front ++ x ∷ back)
all_unsplit P [] x y back all = (all.0, all.1.1)
all_unsplit P (q ∷ front) x y back all = (all.0, all_unsplit P front x y back all.1)
