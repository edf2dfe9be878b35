-- One prefix more of an anchor that goes is taken out, or written anew without the anchor.
use Rattle.std.proofs.Common.{◌≡◌, ◌≢◌, ℕ, ◌+◌, ◌<◌, ◌≤◌, inl, inr, List, [], length, take, Option, Some, None, sym, ap, ◌∙◌, refl, subst, arith}
use Rattle.std.specs.Prelude.{Bool, true, false, ◌||◌, nat_lt, if◌then◌else◌}
use mathlib.Core.Bool.{false≢true}
use Rattle.std.proofs.lemmas.Bool.{cases_order, le-leb}
use Rattle.std.proofs.lemmas.List.{length-take}
use Rattle.anchor_rules.specs.Anchors.{Anchors, with_merge}
use Rattle.anchor_rules.specs.Items.{Item, begins, begins_end, item, leaf_after, shared}
use Rattle.anchor_rules.proofs.Prefixes.{begins_is_take}
use Rattle.anchor_rules.proofs.ItemChanges.{shrunk, neighbours}
use Rattle.row_words.specs.declared.shape.Shape.{Shape}
use Rattle.row_words.specs.declared.rows.ItemRow.{ItemRow}
use Rattle.row_words.specs.Decode.{item_at, anchor_at, IsLive}
use Rattle.meta_trie.specs.declared.finds.Found.{Found}
use Rattle.meta_trie.specs.Trie.{Says, bucket_of, Holds, IsFound, Walked, used_of, free_of}
use Rattle.meta_trie.specs.Words.{Changed, Unlinked}
use Rattle.meta_trie.specs.Grows.{mixed}
use Rattle.meta_trie.specs.Shrinks.{Shrinks, shrunk_by, Shrinking}
use Rattle.key_bytes.proofs.Conditions.{some_same}
use Rattle.meta_trie.proofs.Owners.{live_kept}
use Rattle.meta_trie.proofs.Changing.{changed, changed-owner}
use Rattle.meta_trie.proofs.Unlinking.{Removable, removable, unlinked, unlinked_other}
use Rattle.meta_trie.proofs.Holding.{holds_same, holds_same-owner}
use Rattle.meta_trie.proofs.Linking.{free_place}
use Rattle.meta_trie.proofs.Growing.{mixed_later, mixed_step}
use Rattle.meta_trie.proofs.Shrinking.{mixed_gone, known_here, gone_above, kept_item, says_kept}

-- the leaf of an item, which is kept or that of the next anchor, is live and begins with the prefix
first_live : (k : Shape) (ws : List ℕ) (p lo : List ℕ) (hi : Option (List ℕ)) (row : ItemRow) (first after : ℕ) → row.leftmost ≡ (if begins p lo then first else after) → (begins p lo || begins_end p hi) ≡ true → IsLive k ws first → take (length p) (anchor_at k ws first) ≡ p → ((end : List ℕ) → hi ≡ Some end → IsLive k ws after × (anchor_at k ws after ≡ end)) → IsLive k ws row.leftmost × (take (length p) (anchor_at k ws row.leftmost) ≡ p)
first_live k ws p lo hi row first after e either live named beside = go (begins p lo) hi refl refl
  where
    go : (b : Bool) (h : Option (List ℕ)) → begins p lo ≡ b → hi ≡ h → IsLive k ws row.leftmost × (take (length p) (anchor_at k ws row.leftmost) ≡ p)
    go true h is end =
        let same : row.leftmost ≡ first = e ∙ ap (λ (t : Bool). if t then first else after) is in
        (subst (IsLive k ws) (sym same) live, ap (λ (l : ℕ). take (length p) (anchor_at k ws l)) same ∙ named)
    go false None is end = absurd (false≢true (sym (ap (λ (t : Bool). t || begins_end p hi) is ∙ ap (begins_end p) end) ∙ either))
    go false (Some h) is end =
        let same : row.leftmost ≡ after = e ∙ ap (λ (t : Bool). if t then first else after) is in
        let b = beside h end in
        let here : begins p h ≡ true = sym (ap (λ (t : Bool). t || begins_end p hi) is ∙ ap (begins_end p) end) ∙ either in
        (subst (IsLive k ws) (sym same) b.0, ap (λ (l : ℕ). take (length p) (anchor_at k ws l)) same ∙ ap (take (length p)) b.1 ∙ begins_is_take p h here)

-- the first free item is a small number
pub free_small : (k : Shape) (ws : List ℕ) (known : List ℕ → Option Item) → Holds k ws known → free_of ws < 4294967295
free_small k ws known h = elim (cases_order 0 (free_of ws)) [
  | inl none ↦ omega (arith, none)
  | inr r ↦ elim r [
    | inl some ↦ (let e = free_place k ws known h some in omega (arith, e.0, e.1, h.ranges.items.1))
    | inr less ↦ absurd (omega (arith, less))
  ]
]

module _ (k : Shape) (old new : List ℕ) (A : Anchors) (leaf : ℕ) (lo a : List ℕ) (hi : Option (List ℕ)) (left after front back n : ℕ) (g : Shrinks A leaf lo a hi left after front back) (s : Shrinking k old A leaf lo a hi n) (within : n ≤ length a) where
  many : length (take n a) ≡ n
  many = length-take n a ∙ omega (arith, within)

  later : mixed A (with_merge A leaf) a n (take n a) ≡ item A (take n a)
  later = mixed_later A (with_merge A leaf) a n (take n a) (omega (arith, many))

  -- some item is used
  pub some_used : shared lo a hi < n → 0 < used_of old
  some_used l = omega (arith, l, within, s.used, s.many)

  module _ (found : Found) (f : IsFound k old (s.trie.buckets (bucket_of k (take n a))) (take n a) found) where
    pub place : Removable k old (mixed A (with_merge A leaf) a n) s.trie (take n a) found
    place = removable k old (mixed A (with_merge A leaf) a n) s.trie (take n a) found f

    pub found_next : found.item.next ≡ (item_at k old found.at).next
    found_next = ap (λ (r : ItemRow). r.next) f.row

    pub kept_step : (row : ItemRow) (first last child : Bool) → n ≤ shared lo a hi → first ≡ begins (take n a) lo → last ≡ begins_end (take n a) hi → child ≡ nat_lt n (shared lo a hi) → ((it : Item) → Says found.item it → Says row (shrunk_by (take n a) a left after first last child it)) → row.len ≡ n → Changed k old new found.at row → Shrinking k new A leaf lo a hi (n + 1)
    kept_step row first last child l fe le ce says len c =
        let here = place.stands in
        let it = here.said.0 in
        let known : item A (take n a) ≡ Some it = sym later ∙ here.said.1 in
        let said0 : Says row (shrunk_by (take n a) a left after first last child it) = says it (subst (λ (r : ItemRow). Says r it) (sym f.row) here.said.2) in
        let said1 : Says row (shrunk_by (take n a) a left after (begins (take n a) lo) (begins_end (take n a) hi) (nat_lt n (shared lo a hi)) it) =
        subst (λ (b : Bool). Says row (shrunk_by (take n a) a left after b (begins_end (take n a) hi) (nat_lt n (shared lo a hi)) it)) fe
        (subst (λ (b : Bool). Says row (shrunk_by (take n a) a left after first b (nat_lt n (shared lo a hi)) it)) le
        (subst (λ (b : Bool). Says row (shrunk_by (take n a) a left after first last b it)) ce said0)) in
        let said : Says row (shrunk (take n a) lo hi a left (leaf_after A leaf) it) = says_kept A leaf lo a hi left after front back g row n it within known said1 in
        let is : item (with_merge A leaf) (take n a) ≡ Some (shrunk (take n a) lo hi a left (leaf_after A leaf) it) = kept_item A leaf lo a hi left after front back g n it within l known in
        let first_is : (item_at k old found.at).leftmost ≡ it.leftmost = here.said.2.first in
        let either : (begins (take n a) lo || begins_end (take n a) hi) ≡ true = neighbours lo a hi n within ∙ le-leb n (shared lo a hi) l in
        let both = first_live k old (take n a) lo hi row it.leftmost (leaf_after A leaf) said.first either (subst (IsLive k old) first_is here.live) (ap (λ (x : ℕ). take (length (take n a)) (anchor_at k old x)) (sym first_is) ∙ here.named) s.beside in
        let len_is : row.len ≡ length (take n a) = len ∙ sym many in
        let t = changed k old new (mixed A (with_merge A leaf) a n) found.at (take n a) row (shrunk (take n a) lo hi a left (leaf_after A leaf) it) s.trie place.mine c said len_is both.0 both.1 in
        let same = mixed_step A (with_merge A leaf) a n (shrunk (take n a) lo hi a left (leaf_after A leaf) it) within is in
        record {
          trie = holds_same k new _ _ same t;
          root = holds_same-owner k new _ _ same t 0 ∙ changed-owner k old new (mixed A (with_merge A leaf) a n) found.at (take n a) row (shrunk (take n a) lo hi a left (leaf_after A leaf) it) s.trie place.mine c said len_is both.0 both.1 0 ∙ s.root;
          beside = λ end e. let b = s.beside end e in (live_kept k old new c.anchors _ b.0, (c.anchors _ b.0).1 ∙ b.1);
          used = omega (arith, c.used, s.used, l);
          many = s.many;
        }

    pub gone_step : shared lo a hi < n → Unlinked k old new found.at found.before (bucket_of k (take n a)) → Shrinking k new A leaf lo a hi (n + 1)
    gone_step l u =
        let none = gone_above A leaf lo a hi left after front back g n within l in
        let t = unlinked k old new (mixed A (with_merge A leaf) a n) found.at (take n a) found.before s.trie place.mine f.front f.back f.whole f.before u in
        let same = mixed_gone A (with_merge A leaf) a n within none in
        let ne : 0 ≢ found.at = λ q.
        let e : [] ≡ take n a = some_same [] (take n a) (sym s.root ∙ ap s.trie.owner q ∙ place.mine) in
        let z : 0 ≡ length (take n a) = ap length e in
        omega (arith, z, many, l) in
        record {
          trie = holds_same k new _ _ same t;
          root = holds_same-owner k new _ _ same t 0 ∙ unlinked_other k old new (mixed A (with_merge A leaf) a n) found.at (take n a) found.before s.trie place.mine f.front f.back f.whole f.before u 0 [] s.root ne;
          beside = λ end e. let b = s.beside end e in (live_kept k old new u.anchors _ b.0, (u.anchors _ b.0).1 ∙ b.1);
          used = omega (arith, u.used, s.used, l);
          many = s.many;
        }

-- each prefix is found
pub found_always : (k : Shape) (ws : List ℕ) (A : Anchors) (leaf : ℕ) (lo a : List ℕ) (hi : Option (List ℕ)) (left after front back n : ℕ) → Shrinks A leaf lo a hi left after front back → (s : Shrinking k ws A leaf lo a hi n) → n ≤ length a → (found : Option Found) → found ≡ None → Walked k ws (mixed A (with_merge A leaf) a n) s.trie (take n a) found → ⊥
found_always k ws A leaf lo a hi left after front back n g s within found is walked =
    let known = known_here A leaf lo a hi left after front back g n in
    let many : length (take n a) ≡ n = length-take n a ∙ omega (arith, within) in
    let none : mixed A (with_merge A leaf) a n (take n a) ≡ None = subst (Walked k ws (mixed A (with_merge A leaf) a n) s.trie (take n a)) is walked in
    let both : Some known.0 ≡ None = sym known.1 ∙ sym (mixed_later A (with_merge A leaf) a n (take n a) (omega (arith, many))) ∙ none in
    absurd (cc)
