-- From the row of a new anchor to the whole table.
use Rattle.std.proofs.Common.{◌≡◌, ◌≢◌, ℕ, zero, suc, ◌+◌, ◌-◌, ◌<◌, ◌≤◌, List, length, get_or, Option, Some, None, sym, ap, ◌∙◌, refl, arith, true≢false, get_or-set_other, get_or-set_same}
use Rattle.std.specs.Prelude.{Bool, true, false, ◌&&◌, not, max, is_some}
use mathlib.Core.Bool.{false≢true}
use Rattle.std.proofs.Math.ListN.{set}
use Rattle.std.proofs.lemmas.List.{length-set}
use Rattle.key_bytes.specs.Lengths.{AreBytes}
use Rattle.key_bytes.specs.Order.{is_below}
use Rattle.anchor_rules.specs.Anchors.{Anchors, Span, is_before, span, has_leaf, cuts, splits, with_split}
use Rattle.anchor_rules.specs.Items.{Item, item, shared}
use Rattle.row_words.specs.declared.shape.Shape.{Shape}
use Rattle.row_words.specs.Layout.{leaf_word, rows_begin}
use Rattle.row_words.specs.Decode.{mark_at, anchor_at, next_at}
use Rattle.row_words.specs.declared.layout.TheConstants.{LONGEST_ANCHOR, UPPER}
use Rattle.meta_trie.specs.Stands.{StandsFor, prefix_count, new_count, ShareNext}
use Rattle.meta_trie.specs.Words.{RowAdded, RowLaid, SameRest}
use Rattle.meta_trie.specs.Grows.{Grows, Growing, back_count}
use Rattle.meta_trie.proofs.Holding.{holds_same, holds_same-owner}
use Rattle.meta_trie.proofs.RowWrites.{SameTrie, trie_kept, trie_kept-owner, anchor_same}
use Rattle.meta_trie.proofs.Growing.{mixed_later, mixed_end}
use Rattle.meta_trie.proofs.Adding.{added_stands, Neighbour, neighbour}
use Rattle.meta_trie.proofs.LeafRows.{leaves_fit}
use Rattle.anchor_rules.proofs.Prefixes.{lcp_sym, lcp_short}

and_parts : (x y : Bool) → (x && y) ≡ true → (x ≡ true) × (y ≡ true)
and_parts true y e = (refl, e)
and_parts false y e = absurd (false≢true e)

not_true : (x : Bool) → not x ≡ true → x ≡ false
not_true true e = absurd (false≢true e)
not_true false e = refl

none_from : (s : Option Span) → is_some s ≡ false → s ≡ None
none_from None e = refl
none_from (Some s) e = absurd (true≢false e)

-- where an anchor can stand
pub record Cut (A : Anchors) (left : ℕ) (a : List ℕ) (leaf : ℕ) : Type 0 where
  pub lo : List ℕ
  pub hi : Option (List ℕ)
  pub at : span A left ≡ Some (lo, hi)
  pub above : is_below lo a ≡ true
  pub before : is_before hi a ≡ true
  pub new : span A leaf ≡ None

pub splits_cut : (A : Anchors) (left : ℕ) (a : List ℕ) (leaf : ℕ) → splits A left a leaf ≡ true → Cut A left a leaf
splits_cut A left a leaf e =
    let both = and_parts (not (has_leaf A leaf)) (cuts (span A left) a) e in
    let new = none_from (span A leaf) (not_true (has_leaf A leaf) both.0) in
    go (span A left) refl both.1 new
  where
    go : (s : Option Span) → span A left ≡ s → cuts (span A left) a ≡ true → span A leaf ≡ None → Cut A left a leaf
    go None is cut new = absurd (false≢true (sym (ap (λ (o : Option Span). cuts o a) is) ∙ cut))
    go (Some s) is cut new =
        let parts = and_parts (is_below s.0 a) (is_before s.1 a) (sym (ap (λ (o : Option Span). cuts o a) is) ∙ cut) in
        record { lo = s.0; hi = s.1; at = is; above = parts.0; before = parts.1; new = new }

pub cut_grows : (k : Shape) (ws : List ℕ) (A : Anchors) (left : ℕ) (a : List ℕ) (leaf : ℕ) → StandsFor k ws A → (c : Cut A left a leaf) → length a < LONGEST_ANCHOR + 1 → AreBytes a → Grows A left c.lo c.hi a
cut_grows k ws A left a leaf s c short bytes = record { rises = s.anchors.rises; at = c.at; above = c.above; before = c.before; short = short; bytes = bytes }

pub new_count-at : (A : Anchors) (left : ℕ) (lo : List ℕ) (hi : Option (List ℕ)) (a : List ℕ) → span A left ≡ Some (lo, hi) → new_count (span A left) a ≡ length a - shared lo a hi
new_count-at A left lo hi a e = ap (λ (o : Option Span). new_count o a) e

module _ (k : Shape) (old w : List ℕ) (A : Anchors) (left : ℕ) (lo : List ℕ) (hi : Option (List ℕ)) (a : List ℕ) (leaf next : ℕ) (s : StandsFor k old A) (g : Grows A left lo hi a) (new : span A leaf ≡ None) (lt : leaf < k.leaves) (l : RowLaid k old w left leaf a next) where
  dead : mark_at k old leaf ≡ 0
  dead = s.dead leaf lt (ap (λ (o : Option Span). is_some o) new)

  rows_between : (x : ℕ) → rows_begin k ≤ x → get_or w x 0 ≡ get_or l.between x 0
  rows_between x m = l.high x (omega (arith, m))

  same_trie : SameTrie k old w (λ x. Unit {0})
  same_trie = record {
    low = λ x p q. l.low x p q ∙ l.added.low x (omega (arith, q));
    items = λ x p q. l.high x p ∙ l.added.low x q;
    anchors = λ other u live.
        let ne : other ≢ leaf = λ e. let z : mark_at k old other ≡ 0 = ap (mark_at k old) e ∙ dead in omega (arith, z, live.1) in
        anchor_same k old w other live.2 (λ o m. l.high (leaf_word k other + o) (omega arith) ∙ l.added.others other o ne (omega (arith, m)) (λ e. λ z. omega (arith, z, m)) (λ e. λ z. omega (arith, z, m)));
  }

  pub growing_start : prefix_count A + (length a - shared lo a hi) ≤ k.items → Growing k w A left lo hi a leaf 0
  growing_start room =
      let keeps = λ (p : List ℕ) (it : Item) (e : item A p ≡ Some it). tt in
      let t = trie_kept k old w (λ x. Unit {0}) same_trie (item A) keeps s.trie in
      let same = λ (p : List ℕ). sym (mixed_later A (with_split A left a leaf) a 0 p (omega arith)) in
      let row = anchor_same k l.between w leaf l.added.live.2 (λ o m. l.high (leaf_word k leaf + o) (omega arith)) in
      let m = row.0 in
      record {
        trie = holds_same k w _ _ same t;
        root = holds_same-owner k w _ _ same t 0 ∙ trie_kept-owner k old w (λ x. Unit {0}) same_trie (item A) keeps s.trie 0 ∙ s.root;
        live = (l.added.live.0, omega (arith, m, l.added.live.1), omega (arith, m, l.added.live.2));
        named = row.1 ∙ l.added.anchor_is;
        used = l.low 1 (omega arith) (omega arith) ∙ l.added.low 1 (omega arith) ∙ s.used ∙ omega arith;
        room = room;
      }

  pub laid_stands : (ws : List ℕ) → next ≡ next_at k old left → SameRest k w ws → Growing k ws A left lo hi a leaf (length a + 1) → StandsFor k ws (with_split A left a leaf)
  laid_stands ws link rest gr =
      let same = mixed_end A left lo hi a leaf g (length a + 1) (omega arith) in
      added_stands k old l.between ws A left lo hi a leaf next s g new lt link l.added
      (λ x m. rest.rows x m ∙ rows_between x m)
      (rest.longest ∙ l.longest ∙ ap (max (length a)) s.longest)
      (rest.live ∙ l.live ∙ ap (λ (n : ℕ). n + 1) s.live)
      (holds_same k ws _ _ same gr.trie)
      (holds_same-owner k ws _ _ same gr.trie 0 ∙ gr.root)
      (gr.used ∙ omega arith)

-- the two words of the header were written
pub laid_words : (k : Shape) (old between : List ℕ) (left leaf : ℕ) (a : List ℕ) (next m v : ℕ) → RowAdded k old between left leaf a next → 4 ≤ length between → m ≡ max (length a) (get_or old 0 0) → v ≡ get_or old 3 0 + 1 → RowLaid k old (set (set between 0 m) 3 v) left leaf a next
laid_words k old between left leaf a next m v added room me ve =
    let many : length (set between 0 m) ≡ length between = length-set between 0 m in
    let zero3 : 0 ≢ 3 = omega arith in
    record {
      between = between;
      added = added;
      longest = get_or-set_other (set between 0 m) 3 0 v 0 zero3 ∙ get_or-set_same between 0 m 0 (omega (arith, room)) ∙ me;
      live = get_or-set_same (set between 0 m) 3 v 0 (omega (arith, room, many)) ∙ ve;
      low = λ x p q. let a3 : x ≢ 3 = omega arith in let a0 : x ≢ 0 = omega arith in get_or-set_other (set between 0 m) 3 x v 0 a3 ∙ get_or-set_other between 0 x m 0 a0;
      high = λ x p. let a3 : x ≢ 3 = omega arith in let a0 : x ≢ 0 = omega arith in get_or-set_other (set between 0 m) 3 x v 0 a3 ∙ get_or-set_other between 0 x m 0 a0;
    }

pub link_fits : (k : Shape) (ws : List ℕ) (left : ℕ) (lo : List ℕ) (hi : Option (List ℕ)) → Neighbour k ws left lo hi → (n : ℕ) → next_at k ws left ≡ n → n ≤ k.leaves
link_fits k ws left lo hi nb zero e = omega arith
link_fits k ws left lo hi nb (suc r) e = let live = (nb.next r (e ∙ omega arith)).0 in omega (arith, live.0)

-- what the rows of a leaf that can be split give
pub record Splittable (k : Shape) (ws : List ℕ) (A : Anchors) (left : ℕ) (a : List ℕ) (leaf : ℕ) : Type 0 where
  pub cut : Cut A left a leaf
  pub beside : Neighbour k ws left cut.lo cut.hi
  pub fits : next_at k ws left ≤ k.leaves
  pub apart : left ≢ leaf
  pub behind : next_at k ws left ≢ leaf + 1
  pub few : get_or ws 3 0 < UPPER

pub splittable : (k : Shape) (ws : List ℕ) (A : Anchors) (left : ℕ) (a : List ℕ) (leaf : ℕ) → StandsFor k ws A → splits A left a leaf ≡ true → leaf < k.leaves → Splittable k ws A left a leaf
splittable k ws A left a leaf s e lt =
    let cut = splits_cut A left a leaf e in
    let beside = neighbour k ws A left cut.lo cut.hi s cut.at in
    let few = leaves_fit k ws A s in
    let most = s.trie.ranges.leaves.1 in
    record {
      cut = cut;
      beside = beside;
      fits = link_fits k ws left cut.lo cut.hi beside (next_at k ws left) refl;
      apart = λ q. let both : Some (cut.lo, cut.hi) ≡ None = sym cut.at ∙ ap (span A) q ∙ cut.new in absurd (cc);
      behind = λ q. let live = (beside.next leaf q).0 in let dead = s.dead leaf lt (ap (λ (o : Option Span). is_some o) cut.new) in omega (arith, live.1, dead);
      few = omega (arith, few, most, s.live);
    }

-- the counts of the shared prefixes, by the rows of the neighbours
pub back_by : (k : Shape) (ws : List ℕ) (left : ℕ) (lo : List ℕ) (hi : Option (List ℕ)) (a : List ℕ) (count : ℕ) → Neighbour k ws left lo hi → ShareNext k ws (next_at k ws left) a count → count ≡ back_count a hi
back_by k ws left lo hi a count nb s = go (next_at k ws left) refl
  where
    go : (n : ℕ) → next_at k ws left ≡ n → count ≡ back_count a hi
    go zero e = s.last e ∙ ap (back_count a) (sym (nb.last e))
    go (suc r) e =
        let at : next_at k ws left ≡ r + 1 = e ∙ omega arith in
        s.more r at ∙ ap (λ (n : ℕ). n + 1) (lcp_sym (anchor_at k ws r) a) ∙ ap (back_count a) (sym (nb.next r at).1)

-- no neighbour shares more than there are bytes
pub shared_fits : (lo a : List ℕ) (hi : Option (List ℕ)) → shared lo a hi ≤ length a
shared_fits lo a None = let s = lcp_sym lo a in let l = lcp_short a lo in omega (arith, s, l)
shared_fits lo a (Some end) = let s = lcp_sym lo a in let l = lcp_short a lo in let m = lcp_short a end in omega (arith, s, l, m)
