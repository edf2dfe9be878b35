-- One prefix of a new anchor more is put in.
use Rattle.std.proofs.Common.{◌≡◌, ℕ, ◌+◌, ◌<◌, ◌≤◌, List, [], length, take, Option, Some, None, sym, ap, ◌∙◌, subst, arith}
use Rattle.std.specs.Prelude.{Bool, true, false, if◌then◌else◌}
use Rattle.std.specs.List.{AllByRecursion}
use Rattle.std.proofs.lemmas.List.{length-take}
use Rattle.anchor_rules.specs.Anchors.{Anchors, with_split}
use Rattle.anchor_rules.specs.Items.{Item, begins, begins_end, item, shared}
use Rattle.row_words.specs.declared.shape.Shape.{Shape}
use Rattle.row_words.specs.declared.rows.ItemRow.{ItemRow}
use Rattle.row_words.specs.Decode.{item_at, anchor_at, IsLive}
use Rattle.meta_trie.specs.declared.finds.Found.{Found}
use Rattle.meta_trie.specs.Trie.{Says, Entry, bucket_of, Stands, IsFound, Walked, used_of}
use Rattle.meta_trie.specs.Words.{Changed, Linked}
use Rattle.meta_trie.specs.Grows.{mixed, Grows, grown_by, Growing}
use Rattle.meta_trie.proofs.Lists.{all_at}
use Rattle.meta_trie.proofs.Owners.{live_kept}
use Rattle.meta_trie.proofs.Changing.{changed, changed-owner}
use Rattle.meta_trie.proofs.Linking.{linked, linked_root}
use Rattle.meta_trie.proofs.Holding.{holds_same, holds_same-owner}
use Rattle.meta_trie.proofs.Walks.{bucket_below}
use Rattle.meta_trie.proofs.Growing.{mixed_later, mixed_step, mixed_kept, known_shared, unknown_above, grown_item, kept_item, fresh_item}

-- the leaf of an item, which is kept or new, is live and begins with the prefix
leaf_live : (k : Shape) (ws : List ℕ) (a : List ℕ) (n : ℕ) (row : ItemRow) (first leaf : ℕ) (keeps : Bool) → length (take n a) ≡ n → row.leftmost ≡ (if keeps then first else leaf) → IsLive k ws first → take (length (take n a)) (anchor_at k ws first) ≡ take n a → IsLive k ws leaf → anchor_at k ws leaf ≡ a → IsLive k ws row.leftmost × (take (length (take n a)) (anchor_at k ws row.leftmost) ≡ take n a)
leaf_live k ws a n row first leaf true many e live named live_leaf named_leaf = (subst (IsLive k ws) (sym e) live, ap (λ (l : ℕ). take (length (take n a)) (anchor_at k ws l)) e ∙ named)
leaf_live k ws a n row first leaf false many e live named live_leaf named_leaf = (subst (IsLive k ws) (sym e) live_leaf, ap (λ (l : ℕ). take (length (take n a)) (anchor_at k ws l)) e ∙ ap (take (length (take n a))) named_leaf ∙ ap (λ (m : ℕ). take m a) many)

module _ (k : Shape) (old new : List ℕ) (A : Anchors) (left : ℕ) (lo : List ℕ) (hi : Option (List ℕ)) (a : List ℕ) (leaf n : ℕ) (g : Grows A left lo hi a) (s : Growing k old A left lo hi a leaf n) (within : n ≤ length a) where
  many : length (take n a) ≡ n
  many = length-take n a ∙ omega (arith, within)

  later : mixed A (with_split A left a leaf) a n (take n a) ≡ item A (take n a)
  later = mixed_later A (with_split A left a leaf) a n (take n a) (omega (arith, many))

  module _ (found : Found) (f : IsFound k old (s.trie.buckets (bucket_of k (take n a))) (take n a) found) where
    here : Stands k old (mixed A (with_split A left a leaf) a n) (bucket_of k (take n a)) (record { at = found.at; name = take n a })
    here = all_at (Stands k old (mixed A (with_split A left a leaf) a n) (bucket_of k (take n a))) f.front (record { at = found.at; name = take n a }) f.back
        (subst (AllByRecursion (Stands k old (mixed A (with_split A left a leaf) a n) (bucket_of k (take n a)))) f.whole (s.trie.standing (bucket_of k (take n a)) (bucket_below k old _ s.trie (take n a))))

    mine : s.trie.owner found.at ≡ Some (take n a)
    mine = all_at (λ (e : Entry). s.trie.owner e.at ≡ Some e.name) f.front (record { at = found.at; name = take n a }) f.back
        (subst (AllByRecursion (λ (e : Entry). s.trie.owner e.at ≡ Some e.name)) f.whole (s.trie.owned (bucket_of k (take n a)) (bucket_below k old _ s.trie (take n a))))

    -- the place that was found is one of an item
    pub found_place : (found.at < k.items) × (found.item.next ≡ (item_at k old found.at).next)
    found_place = (here.in_range, ap (λ (r : ItemRow). r.next) f.row)

    pub known_step : (row : ItemRow) (first last : Bool) → n ≤ shared lo a hi → first ≡ begins (take n a) lo → last ≡ begins_end (take n a) hi → ((it : Item) → Says found.item it → Says row (grown_by (take n a) a leaf first last it)) → row.len ≡ n → Changed k old new found.at row → Growing k new A left lo hi a leaf (n + 1)
    known_step row first last l fe le says len c =
        let it = here.said.0 in
        let known : item A (take n a) ≡ Some it = sym later ∙ here.said.1 in
        let said : Says row (grown_by (take n a) a leaf first last it) = says it (subst (λ (r : ItemRow). Says r it) (sym f.row) here.said.2) in
        let is : item (with_split A left a leaf) (take n a) ≡ Some (grown_by (take n a) a leaf first last it) =
        grown_item A left lo hi a leaf g n it known ∙ ap (λ (b : Bool). Some (grown_by (take n a) a leaf b (begins_end (take n a) hi) it)) (sym fe) ∙ ap (λ (b : Bool). Some (grown_by (take n a) a leaf first b it)) (sym le) in
        let first_is : (item_at k old found.at).leftmost ≡ it.leftmost = here.said.2.first in
        let both = leaf_live k old a n row it.leftmost leaf first many said.first (subst (IsLive k old) first_is here.live) (ap (λ (x : ℕ). take (length (take n a)) (anchor_at k old x)) (sym first_is) ∙ here.named) s.live s.named in
        let len_is : row.len ≡ length (take n a) = len ∙ sym many in
        let t = changed k old new (mixed A (with_split A left a leaf) a n) found.at (take n a) row (grown_by (take n a) a leaf first last it) s.trie mine c said len_is both.0 both.1 in
        let same = mixed_step A (with_split A left a leaf) a n (grown_by (take n a) a leaf first last it) within is in
        record {
          trie = holds_same k new _ _ same t;
          root = holds_same-owner k new _ _ same t 0 ∙ changed-owner k old new (mixed A (with_split A left a leaf) a n) found.at (take n a) row (grown_by (take n a) a leaf first last it) s.trie mine c said len_is both.0 both.1 0 ∙ s.root;
          live = live_kept k old new c.anchors leaf s.live;
          named = (c.anchors leaf s.live).1 ∙ s.named;
          used = c.used ∙ s.used ∙ omega (arith, l);
          room = s.room;
        }

  -- what a new item begins with
  abbrev blank : Item
  blank = record { is_anchor = false; leftmost = leaf; rightmost = leaf; child = λ c. false }

  pub fresh_step : (i : ℕ) (row : ItemRow) → shared lo a hi < n → Says row (grown_by (take n a) a leaf true true (record { is_anchor = false; leftmost = leaf; rightmost = leaf; child = λ c. false })) → row.len ≡ n → Linked k old new i (take n a) row → Growing k new A left lo hi a leaf (n + 1)
  fresh_step i row l said len c =
      let none = unknown_above A left lo hi a leaf g n within l in
      let is : item (with_split A left a leaf) (take n a) ≡ Some (grown_by (take n a) a leaf true true (record { is_anchor = false; leftmost = leaf; rightmost = leaf; child = λ c. false })) = fresh_item A left lo hi a leaf g n none in
      let both = leaf_live k old a n row leaf leaf false many said.first s.live (ap (take (length (take n a))) s.named ∙ ap (λ (m : ℕ). take m a) many) s.live s.named in
      let len_is : row.len ≡ length (take n a) = len ∙ sym many in
      let t = linked k old new (mixed A (with_split A left a leaf) a n) i (take n a) row _ s.trie (later ∙ none) c said len_is both.0 both.1 in
      let same = mixed_step A (with_split A left a leaf) a n _ within is in
      record {
        trie = holds_same k new _ _ same t;
        root = holds_same-owner k new _ _ same t 0 ∙ linked_root k old new (mixed A (with_split A left a leaf) a n) i (take n a) row _ s.trie (later ∙ none) c said len_is both.0 both.1 0 [] s.root;
        live = live_kept k old new c.anchors leaf s.live;
        named = (c.anchors leaf s.live).1 ∙ s.named;
        used = c.used ∙ ap (λ (x : ℕ). x + 1) s.used ∙ omega (arith, l);
        room = s.room;
      }

  -- there is a free item for a new one
  pub some_free : shared lo a hi < n → used_of old < k.items
  some_free l = omega (arith, l, within, s.used, s.room)

-- a shared prefix is found
pub found_some : (k : Shape) (ws : List ℕ) (A : Anchors) (left : ℕ) (lo : List ℕ) (hi : Option (List ℕ)) (a : List ℕ) (leaf n : ℕ) → Grows A left lo hi a → (s : Growing k ws A left lo hi a leaf n) → n ≤ length a → n ≤ shared lo a hi → (p : List ℕ) → p ≡ take n a → (found : Option Found) → found ≡ None → Walked k ws (mixed A (with_split A left a leaf) a n) s.trie p found → ⊥
found_some k ws A left lo hi a leaf n g s within l p e found is walked =
    let known = known_shared A left lo hi a leaf g n within l in
    let many : length (take n a) ≡ n = length-take n a ∙ omega (arith, within) in
    let none : mixed A (with_split A left a leaf) a n p ≡ None = subst (Walked k ws (mixed A (with_split A left a leaf) a n) s.trie p) is walked in
    let both : Some known.0 ≡ None = sym known.1 ∙ sym (mixed_later A (with_split A left a leaf) a n (take n a) (omega (arith, many))) ∙ ap (mixed A (with_split A left a leaf) a n) (sym e) ∙ none in
    absurd (cc)

-- a prefix that stays as it is needs nothing
pub unchanged_step : (k : Shape) (ws : List ℕ) (A : Anchors) (left : ℕ) (lo : List ℕ) (hi : Option (List ℕ)) (a : List ℕ) (leaf n : ℕ) → Grows A left lo hi a → Growing k ws A left lo hi a leaf n → n < length a → n < shared lo a hi → begins (take n a) lo ≡ true → begins_end (take n a) hi ≡ true → Growing k ws A left lo hi a leaf (n + 1)
unchanged_step k ws A left lo hi a leaf n g s lt l fe le =
    let same = mixed_kept A (with_split A left a leaf) a n (omega (arith, lt)) (kept_item A left lo hi a leaf g n lt l fe le) in
    record {
      trie = holds_same k ws _ _ same s.trie;
      root = holds_same-owner k ws _ _ same s.trie 0 ∙ s.root;
      live = s.live;
      named = s.named;
      used = s.used ∙ omega (arith, l);
      room = s.room;
    }
